-- The number of bytes that wait after a prefix: fewer than the longest record that may still be incomplete has.
use Rattle.std.proofs.Common.{◌≡◌, ◌⊎◌, inl, inr, ℕ, ◌<◌, Bool, true, false, cond, List, [], ◌∷◌, length, refl, sym, ap, subst, arith, length-drop, Option}
use Rattle.mufom_numbers.specs.declared.taken.Taken.{Taken}
use Rattle.mufom_numbers.specs.declared.taken.Taken.TheVariants as taken
use Rattle.mufom_numbers.specs.Spelling.{AreBytes}
use Rattle.mufom_records.specs.declared.record.Mode.{Mode}
use Rattle.mufom_records.specs.declared.record.Mode.TheVariants as mode
use Rattle.mufom_records.specs.declared.record.Record.{Record}
use Rattle.mufom_records.specs.Reading.{record_within}
use Rattle.mufom_records.proofs.BeforeLaws.{record_within-more}
use Rattle.mufom_records.proofs.ShortLaws.{unended-short}
use Rattle.mufom_read.specs.declared.state.State.{State}
use Rattle.mufom_judging.specs.Prefixes.{Step, Extent, Location, in_header, in_part, at_end, size_of, location_after, header_mode, is_raw, body_mode}
use Rattle.mufom_judging.specs.Prefixes.{as_step, raw_step, step_in, step_at, is_ended, bytes_to_debug}
use Rattle.mufom_read.specs.Reader.{IsReading, IsIncomplete}
use Rattle.mufom_judging.proofs.judged.Stays.{AreBytes-drop}
use Rattle.mufom_records.specs.declared.options.ReadOptions.{ReadOptions}
use Rattle.std.proofs.Common.{None}

-- a step needs more bytes only if its record does
pub as-step-wants : (at : ℕ) (rest : List ℕ) (answer : Taken Record) → as_step at rest answer ≡ taken.More → answer ≡ taken.More
as-step-wants at rest (taken.Got row used) e = let wrong : ◌≡◌ {A = Taken Step} (as_step at rest (taken.Got row used)) taken.More = e in absurd cc
as-step-wants at rest taken.More e = refl
as-step-wants at rest (taken.Bad offset reason) e = let wrong : ◌≡◌ {A = Taken Step} (taken.Bad offset reason) taken.More = e in absurd cc

step-few : (end : Option ℕ) (at : ℕ) (m : Mode) (rest : List ℕ) → AreBytes rest → as_step at rest (record_within end m rest) ≡ taken.More
    → length rest < 131077
step-few end at m rest fits e = unended-short m rest fits (record_within-more end m rest (as-step-wants at rest (record_within end m rest) e))

part-few : (options : ReadOptions) (prefix : List Step) (extent : Extent) (rest : List ℕ) → AreBytes rest → step_in options prefix extent rest
    ≡ taken.More → length rest < 131077
part-few options prefix extent rest fits wants = by_test (is_raw options.debug extent.part) wants where
  none : (rest : List ℕ) → raw_step rest ≡ taken.More → length rest < 131077
  none [] e = omega arith
  none (b ∷ rest) e = let wrong : ◌≡◌ {A = Taken Step} (raw_step (b ∷ rest)) taken.More = e in absurd cc

  by_test : (test : Bool) → cond test (raw_step rest) (as_step (size_of prefix) rest
      (record_within (bytes_to_debug options prefix) (body_mode options prefix extent rest) rest)) ≡ taken.More
      → length rest < 131077
  by_test true e = none rest e
  by_test false e = step-few (bytes_to_debug options prefix) (size_of prefix) (body_mode options prefix extent rest) rest fits e

fault_offset-few : (options : ReadOptions) (prefix : List Step) (fault_offset : Location) (rest : List ℕ) → AreBytes rest
    → step_at options prefix fault_offset rest ≡ taken.More → length rest < 131077
fault_offset-few options prefix (in_header k) rest fits e = step-few None (size_of prefix) (header_mode k) rest fits e
fault_offset-few options prefix (in_part extent) rest fits e = part-few options prefix extent rest fits e
fault_offset-few options prefix at_end rest fits e = step-few None (size_of prefix) mode.Body rest fits e

-- A reader that goes on has fewer bytes after its prefix than the longest record.
pub few-pending : (r : State) (stream : List ℕ) → AreBytes stream → IsReading r stream → length r.rest.items < 131077
few-pending r stream bytes is = by_case is.waits where
  fits : AreBytes r.rest.items
  fits = subst (λ (l : List ℕ). AreBytes l) (sym is.rest) (AreBytes-drop (size_of is.prefix) stream bytes)

  by_case : (((is_ended is.prefix ≡ true) × (size_of is.prefix ≡ length stream)) ⊎ IsIncomplete r.options is.prefix r.rest.items)
      → length r.rest.items < 131077
  by_case (inl end) = omega (arith, ap length is.rest, length-drop (size_of is.prefix) stream, end.1)
  by_case (inr want) = fault_offset-few r.options is.prefix (location_after is.prefix) r.rest.items fits want.wanting
