-- Laws about bytes that are written one after another through a buffer.
use Rattle.std.proofs.Common.{◌≡◌, ℕ, List, [], ◌++◌, Result, Ok, Err, IsErr, refl, sym, subst, ap, ◌∙◌, append_assoc, arith}
use Rattle.std.proofs.lemmas.List.{append-nil}
use Rattle.mufom_host.specs.declared.world.Failed.{Failed}
use Rattle.mufom_host.specs.World.{Meaning, Faults, MakingGrowsBy, MakingGrowsByPrefix}
use Rattle.mufom_host.proofs.Composing.{MakingGrowsBy-refl, MakingGrowsBy-trans, MakingGrowsByPrefix-trans, MakingGrowsByPrefix-more}
use Rattle.mufom_host.proofs.Composing.{KeepsAllButMaking-trans, KeepsAllButWrites-trans, later-Rose}
use Rattle.mufom_write.specs.Writing.{Writes}
use Rattle.mufom_write.specs.Holding.{Passes, Holds}

pub Holds-nothing : (m : Meaning) (f : Faults) (held : List ℕ) → Holds m m f f held held [] (Ok tt)
Holds-nothing m f held = record {
  added = ([], MakingGrowsBy-refl m.making, sym (append-nil held));
  stays = refl;
  cause = record { later = omega arith; failed = tt };
  counts = refl;
}

-- the bytes passed on by the first call, those held after it and the second bytes are those held before it and all new bytes
both : (passed held holds xs ys : List ℕ) → passed ++ holds ≡ held ++ xs → passed ++ (holds ++ ys) ≡ held ++ (xs ++ ys)
both passed held holds xs ys e = sym (append_assoc passed holds ys) ∙ ap (λ l. l ++ ys) e ∙ append_assoc held xs ys

module _ (a b c : Meaning) (f g h : Faults) (held holds keeps xs ys : List ℕ) where
  passes : (r : Result (Unit {0}) Failed) → Passes a.making b.making held holds xs (Ok tt) → Passes b.making c.making holds keeps ys r
      → Passes a.making c.making held keeps (xs ++ ys) r
  passes (Ok tt) (first, grows, e) (second, grows_on, e_on) = (
    first ++ second,
    MakingGrowsBy-trans a.making b.making c.making first second grows grows_on,
    append_assoc first second keeps ∙ ap (λ l. first ++ l) e_on ∙ both first held holds xs ys e,
  )
  passes (Err e) (first, grows, same) prefix =
      subst (λ (l : List ℕ). MakingGrowsByPrefix a.making c.making l) (both first held holds xs ys same)
      (MakingGrowsByPrefix-trans a.making b.making c.making first (holds ++ ys) grows prefix)

  rose : (r : Result (Unit {0}) Failed) → Holds a b f g held holds xs (Ok tt) → Holds b c g h holds keeps ys r → Holds a c f h held keeps (xs ++ ys) r
  rose (Ok tt) p q = record {
    added = passes (Ok tt) p.added q.added;
    stays = KeepsAllButMaking-trans a b c p.stays q.stays;
    cause = record { later = omega (arith, p.cause.later, q.cause.later); failed = tt };
    counts = KeepsAllButWrites-trans f g h p.counts q.counts;
  }
  rose (Err e) p q = record {
    added = passes (Err e) p.added q.added;
    stays = KeepsAllButMaking-trans a b c p.stays q.stays;
    cause = record { later = omega (arith, p.cause.later, q.cause.later); failed = later-Rose f.writes g.writes h.writes p.cause.later q.cause.failed };
    counts = KeepsAllButWrites-trans f g h p.counts q.counts;
  }

  pub Holds-then : (all : List ℕ) (r : Result (Unit {0}) Failed) → Holds a b f g held holds xs (Ok tt) → Holds b c g h holds keeps ys r → all ≡ xs
      ++ ys → Holds a c f h held keeps all r
  Holds-then all r p q same = subst (λ (bytes : List ℕ). Holds a c f h held keeps bytes r) (sym same) (rose r p q)

module _ (a b : Meaning) (f g : Faults) (held holds xs ys : List ℕ) where
  pub Holds-stopped : (all : List ℕ) (e : Failed) (r : Result (Unit {0}) Failed) → Holds a b f g held holds xs (Err e) → IsErr r → all ≡ xs ++ ys
      → Holds a b f g held holds all r
  Holds-stopped all e (Ok done) p failed same = absurd cc
  Holds-stopped all e (Err e2) p failed same = subst (λ (bytes : List ℕ). Holds a b f g held holds bytes (Err e2)) (sym same) (record {
    added = subst (λ (l : List ℕ). MakingGrowsByPrefix a.making b.making l) (append_assoc held xs ys)
        (MakingGrowsByPrefix-more a.making b.making (held ++ xs) ys p.added);
    stays = p.stays;
    cause = record { later = p.cause.later; failed = p.cause.failed };
    counts = p.counts;
  })

-- if the buffer was empty and, after a success, is empty again, the file grew by the bytes, or by a prefix of them if a write failed
module _ (a b : Meaning) (f g : Faults) (keeps bytes : List ℕ) where
  pub Holds-all : (r : Result (Unit {0}) Failed) → (r ≡ Ok tt → keeps ≡ []) → Holds a b f g [] keeps bytes r → Writes a b f g bytes r
  Holds-all (Ok tt) empty p =
      let same : p.added.0 ≡ bytes = sym (append-nil p.added.0) ∙ ap (λ (l : List ℕ). p.added.0 ++ l) (sym (empty refl)) ∙ p.added.2 in
      record { added = subst (λ (l : List ℕ). MakingGrowsBy a.making b.making l) same p.added.1; stays = p.stays; cause = p.cause; counts = p.counts }
  Holds-all (Err e) empty p = record { added = p.added; stays = p.stays; cause = p.cause; counts = p.counts }

-- bytes are written through an empty buffer, and the buffer is then flushed
module _ (a b c : Meaning) (f g h : Faults) (held holds keeps bytes : List ℕ) where
  pub Holds-through : (r : Result (Unit {0}) Failed) → held ≡ [] → Holds a b f g held holds bytes (Ok tt) → Holds b c g h holds keeps [] r
      → (r ≡ Ok tt → keeps ≡ []) → Writes a c f h bytes r
  Holds-through r nothing p q empty =
      let whole = Holds-then a b c f g h held holds keeps bytes [] bytes r p q (sym (append-nil bytes)) in
      Holds-all a c f h keeps bytes r empty (subst (λ (l : List ℕ). Holds a c f h l keeps bytes r) nothing whole)
