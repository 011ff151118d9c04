-- Text that is written in parts.
use Rattle.std.proofs.Common.{◌≡◌, ℕ, ◌+◌, ◌%◌, ◌<◌, ◌≤◌, min, List, ◌++◌, length, take, drop, Ok, Err, Bool, true, false, refl, sym, ◌∙◌, ap, subst}
use Rattle.std.proofs.Common.{arith, append_assoc}
use Rattle.std.specs.Prelude.{nat_lt}
use Rattle.std.proofs.Math.Seq.{take-length, drop-length}
use Rattle.std.proofs.lemmas.List.{append-nil, take-append-drop, length-take-le}
use Rattle.mufom_numbers.proofs.Choices.{of_lt, of_not_lt}
use Rattle.mufom_host.specs.declared.world.Failed.{Failed}
use Rattle.mufom_host.specs.World.{Meaning, Faults, WritesAll, MakingGrowsByPrefix, HasCause, KeepsAllButMaking, KeepsAllButWrites}
use Rattle.mufom_host.specs.Spans.{AfterWrites}
use Rattle.mufom_host.proofs.Composing.{MakingGrowsBy-trans, MakingGrowsByPrefix-trans, MakingGrowsByPrefix-more, KeepsAllButMaking-trans}
use Rattle.mufom_host.proofs.Composing.{KeepsAllButWrites-trans}
use Rattle.mufom_titxt.specs.Written.{byte_lines}
use Rattle.mufom_titxt.proofs.PageLaws.{lines-append}

-- the lines of a part, and those of the rest
pub lines_part : (n : ℕ) (rest : List ℕ) → n ≡ min (length rest) 1024 → byte_lines 0 rest ≡ byte_lines 0 (take n rest) ++ byte_lines 0 (drop n rest)
lines_part n rest e = by_case (nat_lt 1024 (length rest)) refl where
  by_case : (b : Bool) → nat_lt 1024 (length rest) ≡ b → byte_lines 0 rest ≡ byte_lines 0 (take n rest) ++ byte_lines 0 (drop n rest)
  by_case true less =
      let more : 1024 < length rest = of_lt 1024 (length rest) less in
      let same : n ≡ 1024 = omega (arith, e, more) in
      let count : length (take n rest) ≡ n = length-take-le n rest (omega (arith, same, more)) in
      let whole : (0 + length (take n rest)) % 16 ≡ 0 = omega (arith, count, same) in
      ap (byte_lines 0) (sym (take-append-drop n rest)) ∙ lines-append (take n rest) (drop n rest) 0 whole
  by_case false less =
      let few : length rest ≤ 1024 = of_not_lt 1024 (length rest) less in
      let same : n ≡ length rest = omega (arith, e, few) in
      rw same (rw (take-length rest, drop-length rest) (sym (append-nil (byte_lines 0 rest))))

-- a part more
regroup : (passed page part after : List ℕ) → (passed ++ (page ++ part)) ++ after ≡ passed ++ (page ++ (part ++ after))
regroup passed page part after = append_assoc passed (page ++ part) after ∙ ap (λ l. passed ++ l) (append_assoc page part after)

module _ (a b c : Meaning) (f g h : Faults) (passed page part after total : List ℕ) (whole : passed ++ (page ++ (part ++ after)) ≡ total)
    (so_far : AfterWrites a b f g passed) where
  pub part_written : WritesAll b.making c.making (Ok tt) (page ++ part) → KeepsAllButMaking b c → HasCause {T = Unit {0}} g.writes h.writes (Ok tt)
      → KeepsAllButWrites g h
      → (all : List ℕ) × AfterWrites a c f h all × (all ++ after ≡ total)
  part_written grows stays cause counts = (
    passed ++ (page ++ part),
    record {
      added = MakingGrowsBy-trans a.making b.making c.making passed (page ++ part) so_far.added grows;
      stays = KeepsAllButMaking-trans a b c so_far.stays stays;
      later = omega (arith, so_far.later, cause.later);
      counts = KeepsAllButWrites-trans f g h so_far.counts counts;
    },
    regroup passed page part after ∙ whole,
  )

  pub part_failed : (e : Failed) → WritesAll b.making c.making (Err e) (page ++ part) → WritesAll a.making c.making (Err e) total
  part_failed e prefix =
      subst (λ (l : List ℕ). MakingGrowsByPrefix a.making c.making l) (ap (λ l. passed ++ l) (append_assoc page part after) ∙ whole)
      (MakingGrowsByPrefix-trans a.making b.making c.making passed ((page ++ part) ++ after) so_far.added
      (MakingGrowsByPrefix-more b.making c.making (page ++ part) after prefix))
