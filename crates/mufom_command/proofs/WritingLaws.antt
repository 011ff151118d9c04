-- The text of runs is written run by run, and a location has runs that can be written.
use Rattle.std.proofs.Common.{◌≡◌, ℕ, ◌+◌, ◌<◌, List, [], ◌∷◌, ◌++◌, length, take, drop, flat_map, get_or, Option, Result, Ok, Err, inl, inr}
use Rattle.std.proofs.Common.{sym, ap, subst, ◌∙◌, append_assoc, arith}
use Rattle.std.proofs.lemmas.Grind.{flat_map-append}
use Rattle.std.proofs.lemmas.List.{append-nil, take-append-drop, take_more}
use Rattle.std.specs.Prelude.{All, OnErr}
use Rattle.mufom_host.specs.declared.world.Failed.{Failed}
use Rattle.mufom_host.specs.World.{Faults, HasCause, KeepsAllButMaking, KeepsAllButWrites, MakingGrowsBy, MakingGrowsByPrefix, Meaning, NamedFile, WritesAll}
use Rattle.mufom_host.specs.Spans.{AfterWrites}
use Rattle.mufom_host.proofs.Composing.{KeepsAllButMaking-trans, KeepsAllButWrites-trans, MakingGrowsBy-trans, MakingGrowsByPrefix-more}
use Rattle.mufom_host.proofs.Composing.{MakingGrowsByPrefix-trans, later-Rose}
use Rattle.mufom_meaning.specs.declared.located.LocatedParts.{LocatedParts}
use Rattle.mufom_meaning.specs.declared.located.Run.{Run}
use Rattle.mufom_meaning.specs.AddressMap.{AreApart}
use Rattle.mufom_meaning.proofs.Members.{All-In, In}
use Rattle.mufom_located.specs.Located.{IsLocated}
use Rattle.mufom_write.specs.Writing.{Writes}
use Rattle.mufom_command.specs.TextLines.{HasByte}

-- ---- runs that can be written

in-apart : (from : ℕ) (runs : List Run) → AreApart from runs → (run : Run) → In run runs → HasByte run
in-apart from [] apart run there = absurd there
in-apart from (first ∷ runs) apart run (inl same) = subst HasByte same apart.1
in-apart from (first ∷ runs) apart run (inr later) = in-apart (first.address + length first.bytes + 1) runs apart.2 run later

-- the runs of a location are in the order of their addresses
pub located-apart : (r : LocatedParts) → IsLocated r → AreApart 0 r.runs
located-apart r is = is.is.rows.apart

-- and each has a byte
pub located-bytes : (r : LocatedParts) → IsLocated r → All HasByte r.runs
located-bytes r is = All-In HasByte r.runs (in-apart 0 r.runs (located-apart r is))

-- ---- one run after another

-- the lists of one element more
pub one-more : {A : Type 0} (f : A → List ℕ) (xs : List A) (i : ℕ) (d x : A) → i < length xs → x ≡ get_or xs i d → flat_map f (take (i + 1) xs)
    ≡ flat_map f (take i xs) ++ f x
one-more f xs i d x inside is =
    ap (flat_map f) (take_more xs i d inside) ∙ flat_map-append f (take i xs) (get_or xs i d ∷ [])
    ∙ ap (λ l. flat_map f (take i xs) ++ l) (append-nil (f (get_or xs i d)) ∙ ap f (sym is))

-- all of the lists, cut at one of them
pub cut-at : {A : Type 0} (f : A → List ℕ) (xs : List A) (i : ℕ) (d x : A) → i < length xs → x ≡ get_or xs i d
    → flat_map f (take i xs) ++ (f x ++ flat_map f (drop (i + 1) xs)) ≡ flat_map f xs
cut-at f xs i d x inside is =
    sym (append_assoc (flat_map f (take i xs)) (f x) (flat_map f (drop (i + 1) xs)))
    ∙ ap (λ l. l ++ flat_map f (drop (i + 1) xs)) (sym (one-more f xs i d x inside is))
    ∙ sym (flat_map-append f (take (i + 1) xs) (drop (i + 1) xs)) ∙ ap (flat_map f) (take-append-drop (i + 1) xs)

module _ (a b c : Meaning) (f g h : Faults) (passed part : List ℕ) (so_far : AfterWrites a b f g passed) where
  pub written-more : WritesAll b.making c.making (Ok tt) part → KeepsAllButMaking b c → HasCause {T = Unit {0}} g.writes h.writes (Ok tt)
      → KeepsAllButWrites g h
      → AfterWrites a c f h (passed ++ part)
  written-more grows stays cause counts = record {
    added = MakingGrowsBy-trans a.making b.making c.making passed part so_far.added grows;
    stays = KeepsAllButMaking-trans a b c so_far.stays stays;
    later = omega (arith, so_far.later, cause.later);
    counts = KeepsAllButWrites-trans f g h so_far.counts counts;
  }

  pub written-part : (rest all : List ℕ) → passed ++ (part ++ rest) ≡ all → (e : Failed) → WritesAll b.making c.making (Err e) part → KeepsAllButMaking b c
      → HasCause {T = Unit {0}} g.writes h.writes (Err e) → KeepsAllButWrites g h → Writes a c f h all (Err e)
  written-part rest all whole e prefix stays cause counts = record {
    added = subst (λ (l : List ℕ). MakingGrowsByPrefix a.making c.making l) whole
        (MakingGrowsByPrefix-trans a.making b.making c.making passed (part ++ rest) so_far.added
        (MakingGrowsByPrefix-more b.making c.making part rest prefix));
    stays = KeepsAllButMaking-trans a b c so_far.stays stays;
    cause = record { later = omega (arith, so_far.later, cause.later); failed = later-Rose f.writes g.writes h.writes so_far.later cause.failed };
    counts = KeepsAllButWrites-trans f g h so_far.counts counts;
  }

pub written-all : (a b : Meaning) (f g : Faults) (bytes all : List ℕ) → bytes ≡ all → AfterWrites a b f g bytes → Writes a b f g all (Ok tt)
written-all a b f g bytes all same is = record {
  added = subst (λ (l : List ℕ). WritesAll a.making b.making (Ok tt) l) same is.added;
  stays = is.stays;
  cause = record { later = is.later; failed = tt };
  counts = is.counts;
}

-- where the end of a text was not written whole, a prefix of all of it was
pub end-written : (a b c : Option (Option NamedFile)) (text more : List ℕ) (result : Result (Unit {0}) Failed) → MakingGrowsBy a b text
    → WritesAll b c result more
    → OnErr result (MakingGrowsByPrefix a c (text ++ more))
end-written a b c text more (Ok done) first second = tt
end-written a b c text more (Err e) first second = MakingGrowsByPrefix-trans a b c text more first second
