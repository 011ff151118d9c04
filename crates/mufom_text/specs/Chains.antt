-- Texts that are added to a page one after another.
use Rattle.std.proofs.Common.{◌≡◌, ℕ, ◌≤◌, Bool, true, false, List, [], ◌++◌, Option, refl, sym, subst, ap, ◌∙◌, arith, append_assoc}
use Rattle.std.proofs.lemmas.List.{append-nil}
use Rattle.mufom_host.specs.World.{Meaning, Faults, GrowsByPrefix}
use Rattle.mufom_host.proofs.Composing.{GrowsBy-refl, GrowsBy-trans, GrowsByPrefix-trans, GrowsByPrefix-more, KeepsAllButOut-trans}
use Rattle.mufom_host.proofs.Composing.{KeepsAllButWrites-trans, later-Rose, Rose-later}
use Rattle.mufom_text.specs.Printing.{HoldsOn, Adds, Puts}

adds_nothing : (m : Meaning) (f : Faults) (held : List ℕ) (had : Bool) → Adds m m f f held held had had []
adds_nothing m f held true = refl
adds_nothing m f held false = ([], GrowsBy-refl m.out, sym (append-nil held))

pub Puts-nothing : (m : Meaning) (f : Faults) (held : List ℕ) (had : Bool) → Puts m m f f held held had had []
Puts-nothing m f held had = record { added = adds_nothing m f held had; stays = refl; counts = refl; later = omega arith }

module _ (a b c : Meaning) (f g h : Faults) (held holds keeps xs ys : List ℕ) where
  -- bytes that are printed before the second text is added, then what is held and that text, are the bytes held at first and both texts
  both : (printed : List ℕ) → printed ++ holds ≡ held ++ xs → printed ++ (holds ++ ys) ≡ held ++ (xs ++ ys)
  both printed e = sym (append_assoc printed holds ys) ∙ ap (λ l. l ++ ys) e ∙ append_assoc held xs ys

  holds_on : HoldsOn a.out b.out held holds xs → HoldsOn b.out c.out holds keeps ys → HoldsOn a.out c.out held keeps (xs ++ ys)
  holds_on (first, grows, e) (second, grows_on, e_on) = (
    first ++ second,
    GrowsBy-trans a.out b.out c.out first second grows grows_on,
    append_assoc first second keeps ∙ ap (λ l. first ++ l) e_on ∙ both first e,
  )

  adds_both : (had so_far has : Bool) → f.writes ≤ g.writes → g.writes ≤ h.writes → Adds a b f g held holds had so_far xs
      → Adds b c g h holds keeps so_far has ys → Adds a c f h held keeps had has (xs ++ ys)
  adds_both false false false p q first second = holds_on first second
  adds_both false false true p q (printed, grows, e) (prefix, rose) = (
    subst (λ (l : List ℕ). GrowsByPrefix a.out c.out l) (both printed e)
        (GrowsByPrefix-trans a.out b.out c.out printed (holds ++ ys) grows prefix),
    later-Rose f.writes g.writes h.writes p rose,
  )
  adds_both false true false p q first second = elim second [ ]
  adds_both false true true p q (prefix, rose) same = (
    subst (λ (o : Option (List ℕ)). GrowsByPrefix a.out o (held ++ (xs ++ ys))) (sym same)
        (subst (λ (l : List ℕ). GrowsByPrefix a.out b.out l) (append_assoc held xs ys) (GrowsByPrefix-more a.out b.out (held ++ xs) ys prefix)),
    Rose-later f.writes g.writes h.writes rose q,
  )
  adds_both true false has p q first second = elim first [ ]
  adds_both true true false p q first second = elim second [ ]
  adds_both true true true p q first second = second ∙ first

  pub Puts-joins : (had so_far has : Bool) → Puts a b f g held holds had so_far xs → Puts b c g h holds keeps so_far has ys
      → Puts a c f h held keeps had has (xs ++ ys)
  Puts-joins had so_far has p q = record {
    added = adds_both had so_far has p.later q.later p.added q.added;
    stays = KeepsAllButOut-trans a b c p.stays q.stays;
    counts = KeepsAllButWrites-trans f g h p.counts q.counts;
    later = omega (arith, p.later, q.later);
  }
