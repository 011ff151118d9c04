-- Steps after a prefix, as the code takes them.
use Rattle.std.proofs.Common.{◌≡◌, ℕ, ◌<◌, true, false, true≢false, List, [], ◌∷◌, ◌++◌, length, drop, Some, None, is_some, cond, refl, sym, ap}
use Rattle.std.proofs.Common.{subst, ◌∙◌, append-nil}
use Rattle.std.specs.Option.{option_or}
use Rattle.mufom_numbers.specs.declared.taken.Taken.{Taken}
use Rattle.mufom_numbers.specs.declared.taken.Taken.TheVariants.{Got}
use Rattle.mufom_records.specs.Reading.{record_within}
use Rattle.mufom_read.specs.declared.prefix.Prefix.{Prefix}
use Rattle.mufom_read.specs.declared.prefix.Location as code
use Rattle.mufom_read.specs.declared.prefix.Location.TheVariants as offset
use Rattle.mufom_read.specs.declared.prefix.Next.{Next}
use Rattle.mufom_read.specs.declared.prefix.Next.TheVariants as next
use Rattle.mufom_read.specs.declared.part.Extent as extents
use Rattle.mufom_read.specs.declared.refusal.ReadRefusal.{ReadRefusal}
use Rattle.mufom_judging.specs.Prefixes.{Step, step_bytes, size_of, offsets_of, in_part, parts_in_order, location_after, raw_step, as_step, step_at}
use Rattle.mufom_judging.specs.Prefixes.{next_step, is_ended, bytes_to_debug}
use Rattle.mufom_judging.specs.Faults.{step_fault, ended_part_fault, fault_after}
use Rattle.mufom_read.specs.PartsOfCode.{as_extent}
use Rattle.mufom_read.specs.Kept.{as_fault}
use Rattle.mufom_read.specs.PrefixOfCode.{IsPrefixOf, IsRead, as_location, mode_at, HasJudged, IsStepTaken, HasAdvanced, end_at}
use Rattle.mufom_read.proofs.stepping.Place.{part-found}
use Rattle.mufom_read.proofs.stepping.LocationMoves.{among-within}
use Rattle.mufom_records.specs.declared.options.ReadOptions.{ReadOptions}

nothing : {A : Type 0} {x : A} → Some x ≡ None → ⊥
nothing e = true≢false (ap is_some e)

-- ---- where a step is read

step-read : (options : ReadOptions) (prefix : List Step) (at : code.Location) (rest : List ℕ) → IsRead options at
    → step_at options prefix (as_location at) rest ≡ as_step (size_of prefix) rest
    (record_within (end_at options prefix (as_location at)) (mode_at options prefix (as_location at) rest) rest)
step-read options prefix (offset.Header k) rest is = refl
step-read options prefix (offset.Part e) rest is = ap (λ b. cond b (raw_step rest)
    (as_step (size_of prefix) rest (record_within (bytes_to_debug options prefix) (mode_at options prefix (in_part (as_extent e)) rest) rest))) is
step-read options prefix offset.End rest is = refl

gone-by : (options : ReadOptions) (prefix : List Step) (rest : List ℕ) (stands : Taken Step) (new : Prefix) (done : Next) → is_ended prefix ≡ false
    → ended_part_fault prefix ≡ None → next_step options prefix rest ≡ stands
    → HasJudged prefix stands rest new done → IsStepTaken options prefix rest new done
gone-by options prefix rest stands new (next.Took n) unended whole here (step, got, count, clean, some, within, is) =
    let bytes : size_of (step ∷ []) ≡ length (step_bytes step) = ap length (append-nil (step_bytes step)) in (
      step ∷ [],
      is,
      (
        unended,
        ap (λ o. option_or o (step_fault prefix (next_step options prefix rest))) whole ∙ ap (step_fault prefix) here
            ∙ clean,
        here ∙ got ∙ ap (Got step) (sym count),
        tt,
      ),
      bytes ∙ count,
      some,
      within,
    )
gone-by options prefix rest stands new next.More unended whole here (is, more) = (is, here ∙ more)
gone-by options prefix rest stands new (next.Refused f) unended whole here fault = ap (step_fault prefix) here ∙ fault

-- a step that is read
pub read-gone : (options : ReadOptions) (prefix : List Step) (at : code.Location) (rest : List ℕ) (new : Prefix) (done : Next) → is_ended prefix ≡ false
    → ended_part_fault prefix ≡ None → as_location at ≡ location_after prefix → IsRead options at
    → HasJudged prefix (as_step (size_of prefix) rest (record_within (end_at options prefix (as_location at))
    (mode_at options prefix (as_location at) rest) rest)) rest new done
    → IsStepTaken options prefix rest new done
read-gone options prefix at rest new done unended whole same is judged =
    gone-by options prefix rest _ new done unended whole (ap (λ pl. step_at options prefix pl rest) (sym same)
    ∙ step-read options prefix at rest is) judged

-- a byte of a part is before its end
pub part-within : (prefix : List Step) (at : code.Location) (e : extents.Extent) → at ≡ offset.Part e → as_location at ≡ location_after prefix
    → size_of prefix < e.to
part-within prefix at e here same = among-within parts_in_order (offsets_of prefix) (size_of prefix) (as_extent e) (part-found prefix at e here same).1

-- ---- the part that ends after a step

-- a step after which the module has ended
pub stepped-end : (options : ReadOptions) (prefix : List Step) (rest : List ℕ) (new : Prefix) (n : ℕ)
    → IsStepTaken options prefix rest new (next.Took n) → true ≡ new.ended → HasAdvanced options prefix rest new (next.Took n)
stepped-end options prefix rest new n (steps, is, sound, size, some, within) end =
    (steps, is, sound, size, some, within, λ unended. absurd (true≢false (end ∙ is.ended ∙ unended)))

-- one after which no part ends with an error
pub stepped-whole : (options : ReadOptions) (prefix : List Step) (rest : List ℕ) (new : Prefix) (n : ℕ) → IsStepTaken options prefix rest new (next.Took n)
    → ((steps : List Step) → IsPrefixOf new steps → None ≡ ended_part_fault steps) → HasAdvanced options prefix rest new (next.Took n)
stepped-whole options prefix rest new n (steps, is, sound, size, some, within) whole =
    (steps, is, sound, size, some, within, λ unended. sym (whole (prefix ++ steps) is))

-- one after which a part ends with an error
pub stepped-fault : (options : ReadOptions) (prefix : List Step) (rest : List ℕ) (new : Prefix) (n : ℕ) (f : ReadRefusal)
    → IsStepTaken options prefix rest new (next.Took n) → false ≡ new.ended
    → ((steps : List Step) → IsPrefixOf new steps → Some (as_fault f) ≡ ended_part_fault steps) → HasAdvanced options prefix rest new (next.Refused f)
stepped-fault options prefix rest new n f (steps, is, sound, size, some, within) unended fault = (
  steps,
  sound,
  sym (unended ∙ is.ended),
  ap (λ o. option_or o (step_fault (prefix ++ steps) (next_step options (prefix ++ steps) (drop (size_of steps) rest)))) (sym (fault (prefix ++ steps) is)),
)

-- one with an error
pub stepped-refused : (options : ReadOptions) (prefix : List Step) (rest : List ℕ) (new : Prefix) (f : ReadRefusal) → is_ended prefix ≡ false
    → ended_part_fault prefix ≡ None → IsStepTaken options prefix rest new (next.Refused f) → HasAdvanced options prefix rest new (next.Refused f)
stepped-refused options prefix rest new f unended whole fault = (
  [],
  tt,
  subst (λ (fr : List Step). is_ended fr ≡ false) (sym (append-nil prefix)) unended,
  ap (λ (fr : List Step). fault_after options fr rest) (append-nil prefix)
      ∙ ap (λ o. option_or o (step_fault prefix (next_step options prefix rest))) whole ∙ fault,
)
