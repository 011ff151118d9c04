-- Bytes of a part that are not read as records, as the code takes them.
use Rattle.std.proofs.Common.{◌≡◌, ℕ, suc, ◌+◌, ◌-◌, ◌<◌, ◌≤◌, true, false, true≢false, nat_lt, List, [], ◌∷◌, ◌++◌, length, take, drop, map}
use Rattle.std.proofs.Common.{Some, None, is_some, cond, refl, sym, ap, subst, ◌∙◌, arith, append-nil, length-append, le-ltb, ltb-false, ne_eqb}
use Rattle.std.specs.Option.{option_or}
use Rattle.std.specs.List.{last_or}
use Rattle.std.proofs.lemmas.List.Elements.{filter_map-append}
use Rattle.mufom_module.specs.SpelledRecords.{SpelledRecord}
use Rattle.mufom_module.specs.Grammar.{offsets_in, FollowFrom}
use Rattle.mufom_read.specs.declared.contents.Contents.{Contents}
use Rattle.mufom_read.specs.NamesSoFar.{AreRising}
use Rattle.mufom_read.specs.ContentsSoFar.{AreContentsOf}
use Rattle.mufom_read.proofs.so_far.FollowLaws.{rising-on}
use Rattle.mufom_read.specs.Kept.{tables_of}
use Rattle.mufom_read.specs.declared.prefix.Prefix.{Prefix}
use Rattle.mufom_read.specs.declared.prefix.Location as code
use Rattle.mufom_read.specs.declared.prefix.Location.TheVariants as offset
use Rattle.mufom_read.specs.declared.prefix.Next.{Next}
use Rattle.mufom_read.specs.declared.prefix.Next.TheVariants as next
use Rattle.mufom_read.specs.declared.part.Extent as extents
use Rattle.mufom_judging.specs.Prefixes.{Step, raw, size_of, record_of, records_of, offset_record, offset_records_of, offsets_of, Extent, in_header}
use Rattle.mufom_judging.specs.Prefixes.{in_part, first_present, part_among, parts_in_order, part_at, location_by, location_after, is_raw, raw_step}
use Rattle.mufom_judging.specs.Prefixes.{as_step, step_at, body_mode, next_step, awaits_items, ends_with, is_ended, bytes_to_debug}
use Rattle.mufom_judging.specs.Faults.{whole_fault, step_fault, ended_fault, ended_part_fault}
use Rattle.mufom_judging.specs.Judging.{IsSoundFrom}
use Rattle.mufom_read.specs.PartsOfCode.{as_part, as_extent}
use Rattle.mufom_read.specs.PrefixOfCode.{AreOrdered, IsPrefixOf, as_location, extension_in, environment_in, next_location, HasRaw, HasSkipped, IsStepTaken}
use Rattle.mufom_read.proofs.stepping.PrefixLaws.{size-append}
use Rattle.mufom_read.proofs.stepping.PartBytes.{raw-bytes}
use Rattle.mufom_read.proofs.stepping.Place.{part-found}
use Rattle.mufom_read.proofs.stepping.LocationMoves.{among-stays, location-moves}
use Rattle.mufom_read.proofs.stepping.Step.{part-within}
use Rattle.mufom_read.proofs.stepping.Judge.{taken_length}
use Rattle.mufom_records.specs.Reading.{record_within}
use Rattle.std.proofs.lemmas.List.{take-append-drop}
use Rattle.mufom_records.specs.declared.options.ReadOptions.{ReadOptions}

nothing : {A : Type 0} {x : A} → Some x ≡ None → ⊥
nothing e = true≢false (ap is_some e)

-- ---- a prefix with bytes that are not read as records

records_same : (prefix : List Step) (bytes : List ℕ) → records_of (prefix ++ map raw bytes) ≡ records_of prefix
records_same prefix bytes = filter_map-append record_of prefix (map raw bytes) ∙ ap (λ ps. records_of prefix ++ ps) (no_records bytes)
    ∙ append-nil (records_of prefix) where
      no_records : (bytes : List ℕ) → records_of (map raw bytes) ≡ []
      no_records [] = refl
      no_records (b ∷ bytes) = no_records bytes

places_same : (prefix : List Step) (bytes : List ℕ) → offset_records_of (prefix ++ map raw bytes) ≡ offset_records_of prefix
places_same prefix bytes = filter_map-append offset_record prefix (map raw bytes) ∙ ap (λ ps. offset_records_of prefix ++ ps) (no_places bytes)
    ∙ append-nil (offset_records_of prefix) where
      no_places : (bytes : List ℕ) → offset_records_of (map raw bytes) ≡ []
      no_places [] = refl
      no_places (b ∷ bytes) = no_places bytes

raw_size : (bytes : List ℕ) → size_of (map raw bytes) ≡ length bytes
raw_size [] = refl
raw_size (b ∷ bytes) = ap suc (raw_size bytes)

raw_steps : (bytes : List ℕ) → length (map raw bytes) ≡ length bytes
raw_steps [] = refl
raw_steps (b ∷ bytes) = ap suc (raw_steps bytes)

-- the prefix with more bytes of a part that are not read as records
pub raw-prefix : (old new : Prefix) (prefix : List Step) (e : extents.Extent) (bytes : List ℕ) → IsPrefixOf old prefix → nat_lt (length prefix) 10
    ≡ false → part_at prefix (size_of prefix) ≡ Some (as_extent e)
    → size_of prefix + length bytes ≤ e.to → HasRaw old e.part bytes new → IsPrefixOf new (prefix ++ map raw bytes)
raw-prefix old new prefix e bytes is header found within more =
    let records = records_same prefix bytes in
    let begun = is.begun (ltb-false (length prefix) 10 header) in
    let kept = raw-bytes prefix e bytes header is.count begun (ap offsets_in records) found within in
    let size : size_of (prefix ++ map raw bytes) ≡ size_of prefix + length bytes = size-append prefix (map raw bytes)
    ∙ ap (λ n. size_of prefix + n) (raw_size bytes) in
    let steps : length (prefix ++ map raw bytes) ≡ length prefix + length bytes = length-append prefix (map raw bytes)
    ∙ ap (λ n. length prefix + n) (raw_steps bytes) in
    let many = ltb-false (length prefix) 10 header in
    let old_offsets : old.offsets ≡ offsets_of (prefix ++ map raw bytes) = is.offsets ∙ ap offsets_in (sym records) in
    let old_size : old.size + length bytes ≡ size_of (prefix ++ map raw bytes) = ap (λ n. n + length bytes) is.size ∙ sym size in
    let moves = location-moves prefix (map raw bytes) (λ few. absurd (omega (arith, few, many))) (λ later. ap offsets_in records) is.ordered
    (omega (arith, size)) in
    record {
      contents = subst (λ (c : Contents). AreContentsOf c (offset_records_of (prefix ++ map raw bytes))) (sym more.contents)
          (subst (AreContentsOf old.contents) (sym (places_same prefix bytes)) is.contents);
      awaits = more.awaits ∙ is.awaits ∙ ap (λ (ps : List SpelledRecord). awaits_items (last_or None ps)) (sym records);
      ended = more.ended ∙ is.ended ∙ ap (λ (ps : List SpelledRecord). ends_with (last_or None ps)) (sym records);
      tables = more.tables ∙ is.tables ∙ ap tables_of (sym records);
      offsets = more.offsets ∙ is.offsets ∙ ap offsets_in (sym records);
      extension = more.extension ∙ ap (λ l. l ++ extension_in e.part bytes) is.extension ∙ sym kept.0;
      environment = more.environment ∙ ap (λ l. l ++ environment_in e.part bytes) is.environment ∙ sym kept.1;
      size = more.size ∙ ap (λ n. n + length bytes) is.size ∙ sym size;
      location = more.location ∙ (λ j. next_location (is.location j) (old_offsets j) (old_size j)) ∙ sym moves;
      few = omega (arith, is.few, size, steps);
      ordered = subst (λ (ps : List SpelledRecord). AreOrdered (offsets_in ps)) (sym records) is.ordered;
      count = ap (λ (ps : List SpelledRecord). length (offsets_in ps)) records ∙ is.count ∙ omega (arith, ltb-false (length prefix) 10 header, steps);
      begun = λ many. subst (λ (ps : List SpelledRecord). first_present (offsets_in ps) ≤ size_of (prefix ++ map raw bytes)) (sym records)
          (omega (arith, begun, size));
      follow = subst (FollowFrom []) (sym records) is.follow;
      rising = subst (λ ps. AreRising 0 ps (size_of (prefix ++ map raw bytes))) (sym (places_same prefix bytes))
          (rising-on 0 (offset_records_of prefix) (size_of prefix) (size_of (prefix ++ map raw bytes)) is.rising (omega (arith, size)));
    }

-- ---- the steps

placed_in : (prefix : List Step) (e : Extent) → nat_lt (length prefix) 10 ≡ false → part_at prefix (size_of prefix) ≡ Some e → location_after prefix ≡ in_part e
placed_in prefix e header found = ap (λ b. cond b (in_header (length prefix)) (location_by (part_at prefix (size_of prefix)))) header ∙ ap location_by found

raw_next : (options : ReadOptions) (prefix : List Step) (e : Extent) (rest : List ℕ) → nat_lt (length prefix) 10 ≡ false
    → part_at prefix (size_of prefix) ≡ Some e → is_raw options.debug e.part ≡ true → next_step options prefix rest ≡ raw_step rest
raw_next options prefix e rest header found unread =
    ap (λ pl. step_at options prefix pl rest) (placed_in prefix e header found)
    ∙ ap (λ b. cond b (raw_step rest) (as_step (size_of prefix) rest (record_within (bytes_to_debug options prefix)
    (body_mode options prefix e rest) rest))) unread

-- the same after one more byte, if the part does not end
record StaysIn (options : ReadOptions) (prefix : List Step) (e : Extent) : Type 0 where
  pub unended : is_ended prefix ≡ false
  pub whole : ended_part_fault prefix ≡ None
  pub header : nat_lt (length prefix) 10 ≡ false
  pub found : part_at prefix (size_of prefix) ≡ Some e
  pub ordered : AreOrdered (offsets_of prefix)

stays_in : (options : ReadOptions) (prefix : List Step) (e : Extent) (b : ℕ) → StaysIn options prefix e → size_of prefix + 1 < e.to
    → StaysIn options (prefix ++ raw b ∷ []) e
stays_in options prefix e b is within =
    let records = records_same prefix (b ∷ []) in
    let size : size_of (prefix ++ raw b ∷ []) ≡ size_of prefix + 1 = size-append prefix (raw b ∷ []) in
    let steps : length (prefix ++ raw b ∷ []) ≡ length prefix + 1 = length-append prefix (raw b ∷ []) in
    let same : (at : ℕ) → part_at (prefix ++ raw b ∷ []) at ≡ part_at prefix at =
    λ at. ap (λ (ps : List SpelledRecord). part_among parts_in_order (offsets_in ps) at) records in
    let back : size_of (prefix ++ raw b ∷ []) - 1 ≡ size_of prefix = omega (arith, size) in
    let last : part_at (prefix ++ raw b ∷ []) (size_of (prefix ++ raw b ∷ []) - 1) ≡ Some e = ap (part_at (prefix ++ raw b ∷ [])) back
    ∙ same (size_of prefix) ∙ is.found in
    record {
      unended = ap (λ (ps : List SpelledRecord). ends_with (last_or None ps)) records ∙ is.unended;
      whole = ap (ended_fault (prefix ++ raw b ∷ [])) last ∙ ap (λ t. cond t (whole_fault e.part (prefix ++ raw b ∷ [])) None)
          (ne_eqb e.to _ (λ end. omega (arith, end, size, within)));
      header = le-ltb _ _ (omega (arith, steps, ltb-false _ _ is.header));
      found = ap (part_at (prefix ++ raw b ∷ [])) size ∙ same (size_of prefix + 1)
          ∙ among-stays parts_in_order (offsets_of prefix) (size_of prefix) (size_of prefix + 1) e is.ordered is.found (omega arith) within;
      ordered = subst (λ (ps : List SpelledRecord). AreOrdered (offsets_in ps)) (sym records) is.ordered;
    }

-- they are sound: each byte is in the part, before its end
raw_sound : (options : ReadOptions) (prefix : List Step) (e : Extent) (bytes rest : List ℕ) → StaysIn options prefix e → is_raw options.debug e.part
    ≡ true → size_of prefix + length bytes ≤ e.to → IsSoundFrom options prefix (map raw bytes) (bytes ++ rest)
raw_sound options prefix e [] rest is unread within = tt
raw_sound options prefix e (b ∷ []) rest is unread within =
    let here = raw_next options prefix e (b ∷ rest) is.header is.found unread in
    (is.unended, ap (λ o. option_or o (step_fault prefix (next_step options prefix (b ∷ rest)))) is.whole ∙ ap (step_fault prefix) here, here, tt)
raw_sound options prefix e (b ∷ c ∷ bytes) rest is unread within =
    let here = raw_next options prefix e (b ∷ c ∷ bytes ++ rest) is.header is.found unread in
    let size : size_of (prefix ++ raw b ∷ []) ≡ size_of prefix + 1 = size-append prefix (raw b ∷ []) in (
      is.unended,
      ap (λ o. option_or o (step_fault prefix (next_step options prefix (b ∷ c ∷ bytes ++ rest)))) is.whole ∙ ap (step_fault prefix) here,
      here,
      raw_sound options (prefix ++ raw b ∷ []) e (c ∷ bytes) rest (stays_in options prefix e b is (omega (arith, within))) unread
          (omega (arith, within, size)),
    )

-- bytes that are not read as records
pub skip-gone : (options : ReadOptions) (old : Prefix) (prefix : List Step) (e : extents.Extent) (at : code.Location) (rest : List ℕ) (new : Prefix)
    (done : Next) → IsPrefixOf old prefix → is_ended prefix ≡ false → ended_part_fault prefix ≡ None
    → at ≡ offset.Part e → as_location at ≡ location_after prefix → is_raw options.debug (as_part e.part) ≡ true
    → HasSkipped old e.part (e.to - old.size) rest new done → IsStepTaken options prefix rest new done
skip-gone options old prefix e at rest new done is unended whole here same unread skipped = by_done done skipped where
  found : (nat_lt (length prefix) 10 ≡ false) × (part_at prefix (size_of prefix) ≡ Some (as_extent e))
  found = part-found prefix at e here same

  stays : StaysIn options prefix (as_extent e)
  stays = record { unended = unended; whole = whole; header = found.0; found = found.1; ordered = is.ordered }

  before : size_of prefix < e.to
  before = part-within prefix at e here same

  by_done : (done : Next) → HasSkipped old e.part (e.to - old.size) rest new done → IsStepTaken options prefix rest new done
  by_done (next.Took n) (count, some, more) =
      let long : length (take n rest) ≡ n = taken_length n rest (omega (arith, count)) in
      let size = is.size in (
        map raw (take n rest),
        raw-prefix old new prefix e (take n rest) is found.0 found.1 (omega (arith, long, count, before, size)) more,
        subst (λ (r : List ℕ). IsSoundFrom options prefix (map raw (take n rest)) r) (take-append-drop n rest)
            (raw_sound options prefix (as_extent e) (take n rest) (drop n rest) stays unread (omega (arith, long, count, before, size))),
        raw_size (take n rest) ∙ long,
        some,
        omega (arith, count),
      )
  by_done next.More (none, same_) = (
    subst (λ (f : Prefix). IsPrefixOf f prefix) (sym same_) is,
    raw_next options prefix (as_extent e) rest found.0 found.1 unread ∙ ap raw_step none,
  )
  by_done (next.Refused f) skipped = absurd skipped
