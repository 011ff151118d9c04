-- The bytes of the extension and of the environment, as far as a prefix has them.
use Rattle.std.proofs.Common.{◌≡◌, ◌≢◌, ◌⊎◌, inl, inr, ℕ, zero, suc, ◌+◌, ◌-◌, ◌<◌, ◌≤◌, ◌==◌, ◌&&◌, ◌||◌, Bool, true, false, not, true≢false, nat_lt}
use Rattle.std.proofs.Common.{nat_le, List, [], ◌∷◌, ◌++◌, length, take, drop, map, filter_map, Option, Some, None, is_some, cond, refl, sym, ap}
use Rattle.std.proofs.Common.{subst, ◌∙◌, arith, append-nil, append_assoc, length-append, length-drop, le-ltb, lt-ltb, leb-true, leb-false, le-leb}
use Rattle.std.proofs.Common.{ltb-true, ltb-false, eqb-true, eq-eqb, ne_eqb}
use Rattle.std.specs.Prelude.{slice_range}
use Rattle.std.specs.List.{list_any, cons_option}
use Rattle.std.specs.Option.{option_or}
use Rattle.std.proofs.lemmas.Bool.{and_parts, cases_lt}
use Rattle.std.proofs.lemmas.List.{take-append-le, drop-append-le, drop_all, take_all}
use Rattle.std.proofs.lemmas.List.Elements.{filter_map-append}
use Rattle.mufom_numbers.specs.declared.reason.Reason.{Reason}
use Rattle.mufom_numbers.specs.declared.reason.Reason.TheVariants as why
use Rattle.mufom_records.specs.declared.record.Record.{Record}
use Rattle.mufom_records.specs.declared.record.Record.TheVariants as r
use Rattle.mufom_module.specs.SpelledRecords.{SpelledRecord}
use Rattle.mufom_module.specs.RecordParts.{Part, number_of, extension_part, environment_part, section_part, external_part, debug_part, data_part}
use Rattle.mufom_module.specs.RecordParts.{trailer_part, end_part, stands_in}
use Rattle.mufom_module.specs.Grammar.{offset_in}
use Rattle.mufom_read.specs.declared.prefix.Location as code
use Rattle.mufom_read.specs.declared.prefix.Location.TheVariants as offset
use Rattle.mufom_read.specs.declared.part.Part as codes
use Rattle.mufom_read.specs.declared.part.Part.TheVariants as part_of_code
use Rattle.mufom_read.specs.declared.part.Extent as extents
use Rattle.mufom_judging.specs.Prefixes.{Step, raw, read, step_bytes, prefix_bytes, size_of, record_of, records_of, offsets_of, Extent, first_present}
use Rattle.mufom_judging.specs.Prefixes.{part_among, parts_in_order, part_at, location_after}
use Rattle.mufom_judging.specs.Faults.{fault_if, header_fault, record_fault, part_record_fault, is_out_of_order, leaves_gap}
use Rattle.mufom_judging.specs.Stated.{bytes_between, part_bytes}
use Rattle.mufom_read.specs.PartsOfCode.{as_part, as_extent}
use Rattle.mufom_read.specs.PrefixOfCode.{AreOrdered, IsPlacedWell, as_location, offset_count, bytes_so_far, extension_in, environment_in}
use Rattle.mufom_read.proofs.stepping.Place.{part-found, header-found, end-found}

nothing : {A : Type 0} {x : A} → Some x ≡ None → ⊥
nothing e = true≢false (ap is_some e)

-- ---- the bytes from one offset to another

none_wanted : (n : ℕ) (xs ys : List ℕ) → n ≡ 0 → take n xs ≡ take n ys
none_wanted n xs ys e = ap (λ k. take k xs) e ∙ ap (λ k. take k ys) (sym e)

none_there : (n : ℕ) → ◌≡◌ {A = List ℕ} (take n []) []
none_there zero = refl
none_there (suc n) = refl

same_range : (w to : ℕ) (bytes more : List ℕ) → to ≤ length bytes → slice_range (bytes ++ more) w to ≡ slice_range bytes w to
same_range w to bytes more end = by_case (cases_lt (length bytes) w) where
  by_case : ((length bytes < w) ⊎ (w ≤ length bytes)) → slice_range (bytes ++ more) w to ≡ slice_range bytes w to
  by_case (inl after) = none_wanted (to - w) (drop w (bytes ++ more)) (drop w bytes) (omega (arith, after, end))
  by_case (inr within) = ap (take (to - w)) (drop-append-le w bytes more within)
      ∙ take-append-le (to - w) (drop w bytes) more (omega (arith, within, end, length-drop w bytes))

-- bytes after a part's end are not in it
between-after : (w : ℕ) (os bytes more : List ℕ) → first_present os ≤ length bytes → bytes_between (w ∷ os) (bytes ++ more) ≡ bytes_between (w ∷ os) bytes
between-after zero os bytes more end = refl
between-after (suc w) os bytes more end = same_range (suc w) (first_present os) bytes more end

-- bytes before a part's start are not in it either
between-before : (w : ℕ) (os bytes : List ℕ) → (w ≡ 0) ⊎ (length bytes ≤ w) → bytes_between (w ∷ os) bytes ≡ []
between-before zero os bytes before = refl
between-before (suc w) os bytes (inl none) = absurd (omega (arith, none))
between-before (suc w) os bytes (inr end) = ap (take (first_present os - suc w)) (drop_all (suc w) bytes end) ∙ none_there (first_present os - suc w)

-- bytes of it are
between-in : (w : ℕ) (os bytes more : List ℕ) → not (w == 0) ≡ true → w ≤ length bytes → length bytes + length more ≤ first_present os
    → bytes_between (w ∷ os) (bytes ++ more) ≡ bytes_between (w ∷ os) bytes ++ more
between-in zero os bytes more some begun end = absurd (true≢false (sym some))
between-in (suc w) os bytes more some begun end =
    let n = first_present os - suc w in
    let own = drop (suc w) bytes in
    let count : length own ≡ length bytes - suc w = length-drop (suc w) bytes in
    ap (take n) (drop-append-le (suc w) bytes more begun)
    ∙ take_all n (own ++ more) (omega (arith, begun, end, count, length-append own more))
    ∙ ap (λ l. l ++ more) (sym (take_all n own (omega (arith, begun, end, count))))

first_or_none : (v : ℕ) (os : List ℕ) (n : ℕ) → n ≤ first_present (v ∷ os) → (v ≡ 0) ⊎ (n ≤ v)
first_or_none zero os n end = inl refl
first_or_none (suc v) os n end = inr end

-- ---- the part that a byte is in

-- it is in the part from an offset to the first of these that is not 0
abbrev is_here : ℕ → List ℕ → ℕ → Bool
is_here w os at = not (w == 0) && (nat_le w at && nat_lt at (first_present os))

third : (a b c : Bool) → a ≡ true → b ≡ true → (a && (b && c)) ≡ false → c ≡ false
third true true c x y e = e
third true false c x y e = absurd (true≢false (sym y))
third false b c x y e = absurd (true≢false (sym x))

-- a byte at or after the start of the parts, but not in the first of them, is at or after the start of the others
after_first : (w : ℕ) (os : List ℕ) (at : ℕ) → first_present (w ∷ os) ≤ at → is_here w os at ≡ false → first_present os ≤ at
after_first zero os at begun other = begun
after_first (suc w) os at begun other = ltb-false at (first_present os)
    (third (not (suc w == 0)) (nat_le (suc w) at) (nat_lt at (first_present os)) (ap not (ne_eqb (suc w) 0 (λ same. omega (arith, same))))
    (le-leb (suc w) at begun) other)

part_of_some : (x e : Extent) → Some x ≡ Some e → x.part ≡ e.part
part_of_some x e same = ap the_part same where
  the_part : Option Extent → Part
  the_part None = debug_part
  the_part (Some y) = y.part

end_of_some : (x e : Extent) → Some x ≡ Some e → x.to ≡ e.to
end_of_some x e same = ap the_end same where
  the_end : Option Extent → ℕ
  the_end None = 0
  the_end (Some y) = y.to

-- the part is one of those
listed : (parts : List Part) (os : List ℕ) (at : ℕ) (e : Extent) → part_among parts os at ≡ Some e
    → list_any (λ q. number_of q == number_of e.part) parts ≡ true
listed [] os at e found = absurd (nothing (sym found))
listed (part ∷ parts) [] at e found = absurd (nothing (sym found))
listed (part ∷ parts) (w ∷ os) at e found = by_case (is_here w os at) found (λ f. listed parts os at e f) where
  here : Extent
  here = record { part = part; from = w; to = first_present os }

  or_else : (a b : Bool) → b ≡ true → (a || b) ≡ true
  or_else true b e = refl
  or_else false b e = e

  or_here : (a b : Bool) → a ≡ true → (a || b) ≡ true
  or_here true b e = refl
  or_here false b e = absurd (true≢false (sym e))

  by_case : (test : Bool) → cond test (Some here) (part_among parts os at) ≡ Some e
      → (part_among parts os at ≡ Some e → list_any (λ q. number_of q == number_of e.part) parts ≡ true)
      → ((number_of part == number_of e.part) || list_any (λ q. number_of q == number_of e.part) parts) ≡ true
  by_case true f after = or_here _ _ (eq-eqb (number_of part) (number_of e.part) (ap number_of (part_of_some here e f)))
  by_case false f after = or_else _ _ (after f)

-- it is this one, the first, and none of the others
is_first : (part : Part) (parts : List Part) (w : ℕ) (os : List ℕ) (at : ℕ) (e : Extent) → part_among (part ∷ parts) (w ∷ os) at ≡ Some e
    → list_any (λ q. number_of q == number_of e.part) parts ≡ false
    → (is_here w os at ≡ true) × (first_present os ≡ e.to)
is_first part parts w os at e found other = by_case (is_here w os at) refl found where
  here : Extent
  here = record { part = part; from = w; to = first_present os }

  by_case : (test : Bool) → is_here w os at ≡ test → cond test (Some here) (part_among parts os at) ≡ Some e → (is_here w os at ≡ true)
      × (first_present os ≡ e.to)
  by_case true same f = (same, end_of_some here e f)
  by_case false same f = absurd (true≢false (sym (listed parts os at e f) ∙ other))

-- the byte is in another part
abbrev IsOther : Part → Option Extent → Type 0
IsOther part o = (e : Extent) → o ≡ Some e → e.part ≢ part

not_first : (part : Part) (parts : List Part) (w : ℕ) (os : List ℕ) (at : ℕ) (o : Option Extent) → part_among (part ∷ parts) (w ∷ os) at ≡ o
    → IsOther part o → (is_here w os at ≡ false) × (part_among parts os at ≡ o)
not_first part parts w os at o found other = by_case (is_here w os at) refl found where
  here : Extent
  here = record { part = part; from = w; to = first_present os }

  by_case : (test : Bool) → is_here w os at ≡ test → cond test (Some here) (part_among parts os at) ≡ o → (is_here w os at ≡ false)
      × (part_among parts os at ≡ o)
  by_case true same f = absurd (other here (sym f) refl)
  by_case false same f = (same, f)

is_other : (part : Part) (e : Extent) → (number_of e.part == number_of part) ≡ false → IsOther part (Some e)
is_other part e differ x same own = true≢false (sym (eq-eqb (number_of e.part) (number_of part) (ap number_of (part_of_some e x same ∙ own))) ∙ differ)

no_part : (part : Part) → IsOther part None
no_part part x same own = nothing (sym same)

-- ---- more bytes after those of a prefix

-- the bytes of the two parts after more bytes
abbrev BytesAre : List ℕ → List ℕ → List ℕ → List ℕ → List ℕ → Type 0
BytesAre os bytes new extension environment = (bytes_between os new ≡ bytes_between os bytes ++ extension)
    × (bytes_between (drop 1 os) new ≡ bytes_between (drop 1 os) bytes ++ environment)

-- more bytes of neither part
neither : (os bytes more : List ℕ) (o : Option Extent) → 2 ≤ length os → first_present os ≤ length bytes → part_among parts_in_order os (length bytes)
    ≡ o → IsOther extension_part o → IsOther environment_part o
    → BytesAre os bytes (bytes ++ more) [] []
neither [] bytes more o many begun found ext env = absurd (omega (arith, many))
neither (w ∷ []) bytes more o many begun found ext env = absurd (omega (arith, many))
neither (w ∷ v ∷ os) bytes more o many begun found ext env =
    let first = not_first extension_part (environment_part ∷ section_part ∷ external_part ∷ debug_part ∷ data_part ∷ trailer_part ∷ []) w (v ∷ os)
    (length bytes) o found ext in
    let after = after_first w (v ∷ os) (length bytes) begun first.0 in
    let second = not_first environment_part (section_part ∷ external_part ∷ debug_part ∷ data_part ∷ trailer_part ∷ []) v os (length bytes) o first.1 env in (
      between-after w (v ∷ os) bytes more after ∙ sym (append-nil (bytes_between (w ∷ v ∷ os) bytes)),
      between-after v os bytes more (after_first v os (length bytes) after second.0) ∙ sym (append-nil (bytes_between (v ∷ os) bytes)),
    )

-- more bytes of the extension
of_extension : (os bytes more : List ℕ) (from to : ℕ) → 2 ≤ length os → part_among parts_in_order os (length bytes)
    ≡ Some (record { part = extension_part; from = from; to = to }) → length bytes + length more ≤ to
    → BytesAre os bytes (bytes ++ more) more []
of_extension [] bytes more from to many found within = absurd (omega (arith, many))
of_extension (w ∷ []) bytes more from to many found within = absurd (omega (arith, many))
of_extension (w ∷ v ∷ os) bytes more from to many found within =
    let first = is_first extension_part (environment_part ∷ section_part ∷ external_part ∷ debug_part ∷ data_part ∷ trailer_part ∷ []) w (v ∷ os)
    (length bytes) (record { part = extension_part; from = from; to = to }) found refl in
    let some = and_parts _ _ first.0 in
    let end : first_present (v ∷ os) ≡ to = first.1 in
    let both : length (bytes ++ more) ≡ length bytes + length more = length-append bytes more in (
      between-in w (v ∷ os) bytes more some.0 (leb-true w (length bytes) (and_parts _ _ some.1).0) (omega (arith, within, end)),
      between-before v os (bytes ++ more) (first_or_none v os (length (bytes ++ more)) (omega (arith, within, end, both)))
          ∙ sym (append-nil _ ∙ between-before v os bytes (first_or_none v os (length bytes) (omega (arith, within, end)))),
    )

-- more bytes of the environment
of_environment : (os bytes more : List ℕ) (from to : ℕ) → 2 ≤ length os → first_present os ≤ length bytes
    → part_among parts_in_order os (length bytes) ≡ Some (record { part = environment_part; from = from; to = to })
    → length bytes + length more ≤ to → BytesAre os bytes (bytes ++ more) [] more
of_environment [] bytes more from to many begun found within = absurd (omega (arith, many))
of_environment (w ∷ []) bytes more from to many begun found within = absurd (omega (arith, many))
of_environment (w ∷ v ∷ os) bytes more from to many begun found within =
    let e : Extent = record { part = environment_part; from = from; to = to } in
    let first = not_first extension_part (environment_part ∷ section_part ∷ external_part ∷ debug_part ∷ data_part ∷ trailer_part ∷ []) w (v ∷ os)
    (length bytes) (Some e) found (is_other extension_part e refl) in
    let second = is_first environment_part (section_part ∷ external_part ∷ debug_part ∷ data_part ∷ trailer_part ∷ []) v os (length bytes) e first.1 refl in
    let some = and_parts _ _ second.0 in
    let end : first_present os ≡ to = second.1 in (
      between-after w (v ∷ os) bytes more (after_first w (v ∷ os) (length bytes) begun first.0) ∙ sym (append-nil (bytes_between (w ∷ v ∷ os) bytes)),
      between-in v os bytes more some.0 (leb-true v (length bytes) (and_parts _ _ some.1).0) (omega (arith, within, end)),
    )

-- more bytes of a part
of_part : (part : codes.Part) (os bytes more : List ℕ) (from to : ℕ) → 2 ≤ length os → first_present os ≤ length bytes
    → part_among parts_in_order os (length bytes) ≡ Some (record { part = as_part part; from = from; to = to })
    → length bytes + length more ≤ to → BytesAre os bytes (bytes ++ more) (extension_in part more) (environment_in part more)
of_part part_of_code.Extension os bytes more from to many begun found within = of_extension os bytes more from to many found within
of_part part_of_code.Environment os bytes more from to many begun found within = of_environment os bytes more from to many begun found within
of_part part_of_code.Section os bytes more from to many begun found within =
    neither os bytes more _ many begun found (is_other extension_part _ refl) (is_other environment_part _ refl)
of_part part_of_code.External os bytes more from to many begun found within =
    neither os bytes more _ many begun found (is_other extension_part _ refl) (is_other environment_part _ refl)
of_part part_of_code.Debug os bytes more from to many begun found within =
    neither os bytes more _ many begun found (is_other extension_part _ refl) (is_other environment_part _ refl)
of_part part_of_code.Data os bytes more from to many begun found within =
    neither os bytes more _ many begun found (is_other extension_part _ refl) (is_other environment_part _ refl)
of_part part_of_code.Trailer os bytes more from to many begun found within =
    neither os bytes more _ many begun found (is_other extension_part _ refl) (is_other environment_part _ refl)
of_part part_of_code.End os bytes more from to many begun found within =
    neither os bytes more _ many begun found (is_other extension_part _ refl) (is_other environment_part _ refl)

-- after the header
pub so-far : (part : Part) (prefix : List Step) → 10 ≤ length prefix → bytes_so_far part prefix ≡ part_bytes part prefix
so-far part prefix many = ap (λ b. cond b [] (part_bytes part prefix)) (le-ltb (length prefix) 10 many)

-- in it
none_so_far : (part : Part) (prefix : List Step) → length prefix < 10 → bytes_so_far part prefix ≡ []
none_so_far part prefix few = ap (λ b. cond b [] (part_bytes part prefix)) (lt-ltb (length prefix) 10 few)

-- the bytes so far after more steps, which have no offset
grown-by : (prefix steps : List Step) (bytes extension environment : List ℕ) → 10 ≤ length prefix → offsets_of (prefix ++ steps) ≡ offsets_of prefix
    → prefix_bytes (prefix ++ steps) ≡ prefix_bytes prefix ++ bytes
    → BytesAre (offsets_of prefix) (prefix_bytes prefix) (prefix_bytes prefix ++ bytes) extension environment
    → (bytes_so_far extension_part (prefix ++ steps) ≡ bytes_so_far extension_part prefix ++ extension)
    × (bytes_so_far environment_part (prefix ++ steps) ≡ bytes_so_far environment_part prefix ++ environment)
grown-by prefix steps bytes extension environment many offsets all are =
    let more : 10 ≤ length (prefix ++ steps) = omega (arith, many, length-append prefix steps) in (
      so-far extension_part (prefix ++ steps) more ∙ (λ i. bytes_between (offsets i) (all i)) ∙ are.0
          ∙ ap (λ l. l ++ extension) (sym (so-far extension_part prefix many)),
      so-far environment_part (prefix ++ steps) more ∙ (λ i. bytes_between (drop 1 (offsets i)) (all i)) ∙ are.1
          ∙ ap (λ l. l ++ environment) (sym (so-far environment_part prefix many)),
    )

bytes-append : (a b : List Step) → prefix_bytes (a ++ b) ≡ prefix_bytes a ++ prefix_bytes b
bytes-append [] b = refl
bytes-append (s ∷ a) b = ap (λ l. step_bytes s ++ l) (bytes-append a b) ∙ sym (append_assoc (step_bytes s) (prefix_bytes a) (prefix_bytes b))

raw_bytes : (bytes : List ℕ) → prefix_bytes (map raw bytes) ≡ bytes
raw_bytes [] = refl
raw_bytes (b ∷ bytes) = ap (λ l. b ∷ l) (raw_bytes bytes)

-- the offsets after the header are eight
eight : (prefix : List Step) → 10 ≤ length prefix → length (offsets_of prefix) ≡ offset_count (length prefix) → 2 ≤ length (offsets_of prefix)
eight prefix many count = omega (arith, many, count)

-- bytes of a part that are not read as records
pub raw-bytes : (prefix : List Step) (e : extents.Extent) (bytes : List ℕ) → nat_lt (length prefix) 10 ≡ false → length (offsets_of prefix)
    ≡ offset_count (length prefix) → first_present (offsets_of prefix) ≤ size_of prefix
    → offsets_of (prefix ++ map raw bytes) ≡ offsets_of prefix → part_at prefix (size_of prefix) ≡ Some (as_extent e) → size_of prefix + length bytes ≤ e.to
    → (bytes_so_far extension_part (prefix ++ map raw bytes) ≡ bytes_so_far extension_part prefix ++ extension_in e.part bytes)
    × (bytes_so_far environment_part (prefix ++ map raw bytes) ≡ bytes_so_far environment_part prefix ++ environment_in e.part bytes)
raw-bytes prefix e bytes header count begun offsets found within =
    let many : 10 ≤ length prefix = ltb-false (length prefix) 10 header in
    grown-by prefix (map raw bytes) bytes _ _ many offsets (bytes-append prefix (map raw bytes) ∙ ap (λ l. prefix_bytes prefix ++ l) (raw_bytes bytes))
    (of_part e.part (offsets_of prefix) (prefix_bytes prefix) bytes e.from e.to (eight prefix many count) begun found within)

-- ---- a record after a prefix

-- the offsets and the bytes of the two parts after one more record
pub record KeepsBytes (prefix : List Step) (p : SpelledRecord) : Type 0 where
  pub count : length (offsets_of prefix ++ cons_option (offset_in p.row) []) ≡ offset_count (length prefix + 1)
  pub begun : 10 ≤ length prefix + 1 → first_present (offsets_of prefix ++ cons_option (offset_in p.row) []) ≤ size_of prefix + length p.bytes
  pub extension : bytes_so_far extension_part (prefix ++ read (size_of prefix) p ∷ []) ≡ bytes_so_far extension_part prefix
  pub environment : bytes_so_far environment_part (prefix ++ read (size_of prefix) p ∷ []) ≡ bytes_so_far environment_part prefix

offsets-next : (prefix : List Step) (p : SpelledRecord) → offsets_of (prefix ++ read (size_of prefix) p ∷ []) ≡ offsets_of prefix
    ++ cons_option (offset_in p.row) []
offsets-next prefix p =
    ap (λ ps. filter_map (λ q. offset_in q.row) ps) (filter_map-append record_of prefix (read (size_of prefix) p ∷ []))
    ∙ filter_map-append (λ q. offset_in q.row) (records_of prefix) (p ∷ [])

bytes-next : (prefix : List Step) (p : SpelledRecord) → prefix_bytes (prefix ++ read (size_of prefix) p ∷ []) ≡ prefix_bytes prefix ++ p.bytes
bytes-next prefix p = bytes-append prefix (read (size_of prefix) p ∷ []) ∙ ap (λ l. prefix_bytes prefix ++ l) (append-nil p.bytes)

-- a record without an offset, after the header, in neither of the two parts
after_header : (prefix : List Step) (p : SpelledRecord) (o : Option Extent) → 10 ≤ length prefix → length (offsets_of prefix)
    ≡ offset_count (length prefix) → first_present (offsets_of prefix) ≤ size_of prefix → offset_in p.row ≡ None
    → part_at prefix (size_of prefix) ≡ o → IsOther extension_part o → IsOther environment_part o → KeepsBytes prefix p
after_header prefix p o many count begun none found ext env =
    let same : offsets_of prefix ++ cons_option (offset_in p.row) [] ≡ offsets_of prefix = ap (λ x. offsets_of prefix ++ cons_option x []) none
    ∙ append-nil (offsets_of prefix) in
    let grown = grown-by prefix (read (size_of prefix) p ∷ []) p.bytes [] [] many (offsets-next prefix p
    ∙ same) (bytes-next prefix p) (neither (offsets_of prefix) (prefix_bytes prefix) p.bytes o (eight prefix many count) begun found ext env) in
    record {
      count = ap length same ∙ count ∙ omega (arith, many);
      begun = λ _. subst (λ (os : List ℕ). first_present os ≤ size_of prefix + length p.bytes) (sym same) (omega (arith, begun));
      extension = grown.0 ∙ append-nil (bytes_so_far extension_part prefix);
      environment = grown.1 ∙ append-nil (bytes_so_far environment_part prefix);
    }

-- ---- a record of the header

no_fault : (test : Bool) (start : ℕ) (reason : Reason) → fault_if test start reason ≡ None → test ≡ false
no_fault true start reason e = absurd (nothing e)
no_fault false start reason e = refl

none_of : {A : Type 0} (a b : Option A) → option_or a b ≡ None → (a ≡ None) × (b ≡ None)
none_of None b e = (refl, e)
none_of (Some x) b e = absurd (nothing e)

-- an offset without an error leaves no gap
closed : (earlier : List ℕ) (start end : ℕ) (row : Record) (w : ℕ) → header_fault earlier start end row ≡ None → offset_in row ≡ Some w
    → leaves_gap (earlier ++ w ∷ []) end ≡ false
closed earlier start end (r.Offset n v) w clean same =
    let after = none_of (fault_if (is_out_of_order earlier v) start why.OffsetOrder) _ clean in
    let value : v ≡ w = cc in
    subst (λ (x : ℕ). leaves_gap (earlier ++ x ∷ []) end ≡ false) value (no_fault (leaves_gap (earlier ++ v ∷ []) end) end why.PartGap after.1)
closed earlier start end row w clean same = absurd cc

-- so by the eighth offset the first part begins right after the header
begins_there : (os : List ℕ) (end : ℕ) → length os ≡ 8 → leaves_gap os end ≡ false → first_present os ≡ end
begins_there os end all test = by_case (first_present os == end) refl
    (and_else (length os == 8) (not (first_present os == end)) (eq-eqb (length os) 8 all) test) where
      and_else : (a b : Bool) → a ≡ true → (a && b) ≡ false → b ≡ false
      and_else true b e h = h
      and_else false b e h = absurd (true≢false (sym e))

      by_case : (same : Bool) → (first_present os == end) ≡ same → not same ≡ false → first_present os ≡ end
      by_case true is test = eqb-true (first_present os) end is
      by_case false is test = absurd (true≢false test)

-- no byte of the two parts is there yet
none_yet : (os bytes : List ℕ) → AreOrdered os → 2 ≤ length os → first_present os ≡ length bytes → (bytes_between os bytes ≡ [])
    × (bytes_between (drop 1 os) bytes ≡ [])
none_yet [] bytes order many first = absurd (omega (arith, many))
none_yet (w ∷ []) bytes order many first = absurd (omega (arith, many))
none_yet (zero ∷ v ∷ os) bytes order many first = (refl, between-before v os bytes (first_or_none v os (length bytes) (omega (arith, first))))
none_yet (suc w ∷ v ∷ os) bytes order many first =
    (between-before (suc w) (v ∷ os) bytes (inr (omega (arith, first))), between-before v os bytes (by_case order.0.0)) where
      by_case : ((v ≡ 0) ⊎ (suc w ≤ v)) → (v ≡ 0) ⊎ (length bytes ≤ v)
      by_case (inl none) = inl none
      by_case (inr from) = inr (omega (arith, first, from))

counted : (os : List ℕ) (o : Option ℕ) (n : ℕ) → n < 10 → length os ≡ offset_count n → is_some o ≡ nat_le 2 n → length (os ++ cons_option o [])
    ≡ offset_count (n + 1)
counted os None n few count has = let first : n < 2 = leb-false 2 n (sym has) in ap length (append-nil os) ∙ omega (arith, first, count)
counted os (Some w) n few count has = let later : 2 ≤ n = leb-true 2 n (sym has) in omega (arith, few, later, count, length-append os (w ∷ []))

in-header : (prefix : List Step) (p : SpelledRecord) → length prefix < 10 → length (offsets_of prefix) ≡ offset_count (length prefix)
    → is_some (offset_in p.row) ≡ nat_le 2 (length prefix)
    → AreOrdered (offsets_of prefix ++ cons_option (offset_in p.row) [])
    → header_fault (offsets_of prefix) (size_of prefix) (size_of prefix + length p.bytes) p.row ≡ None → KeepsBytes prefix p
in-header prefix p few count has order clean = by_case (cases_lt (length prefix) 9) where
  next : List Step
  next = prefix ++ read (size_of prefix) p ∷ []

  all : length (offsets_of prefix ++ cons_option (offset_in p.row) []) ≡ offset_count (length prefix + 1)
  all = counted (offsets_of prefix) (offset_in p.row) (length prefix) few count has

  steps : length next ≡ length prefix + 1
  steps = length-append prefix (read (size_of prefix) p ∷ [])

  size : length (prefix_bytes next) ≡ size_of prefix + length p.bytes
  size = ap length (bytes-next prefix p) ∙ length-append (prefix_bytes prefix) p.bytes

  the_first : (o : Option ℕ) → offset_in p.row ≡ o → is_some o ≡ nat_le 2 (length prefix) → 9 ≤ length prefix
      → length (offsets_of prefix ++ cons_option o []) ≡ offset_count (length prefix + 1) → first_present (offsets_of prefix ++ cons_option o [])
      ≡ size_of prefix + length p.bytes
  the_first None same some last long = absurd (true≢false (sym (le-leb 2 (length prefix) (omega (arith, last))) ∙ sym some))
  the_first (Some w) same some last long = begins_there (offsets_of prefix
      ++ w ∷ []) (size_of prefix + length p.bytes) (omega (arith, last, few, long))
      (closed (offsets_of prefix) (size_of prefix) (size_of prefix + length p.bytes) p.row w clean same)

  by_case : ((length prefix < 9) ⊎ (9 ≤ length prefix)) → KeepsBytes prefix p
  by_case (inl before) = record {
    count = all;
    begun = λ many. absurd (omega (arith, before, many));
    extension = none_so_far extension_part next (omega (arith, before, steps)) ∙ sym (none_so_far extension_part prefix few);
    environment = none_so_far environment_part next (omega (arith, before, steps)) ∙ sym (none_so_far environment_part prefix few);
  }
  by_case (inr last) =
      let first : first_present (offsets_of prefix ++ cons_option (offset_in p.row) []) ≡ size_of prefix + length p.bytes =
      the_first (offset_in p.row) refl has last all in
      let none = none_yet (offsets_of prefix ++ cons_option (offset_in p.row) []) (prefix_bytes next) order (omega (arith, last, few, all)) (first
      ∙ sym size) in
      let ten : 10 ≤ length next = omega (arith, last, steps) in
      record {
        count = all;
        begun = λ many. omega (arith, first);
        extension = so-far extension_part next ten ∙ ap (λ os. bytes_between os (prefix_bytes next)) (offsets-next prefix p) ∙ none.0
            ∙ sym (none_so_far extension_part prefix few);
        environment = so-far environment_part next ten ∙ ap (λ os. bytes_between (drop 1 os) (prefix_bytes next)) (offsets-next prefix p) ∙ none.1
            ∙ sym (none_so_far environment_part prefix few);
      }

-- ---- a record at its place

not_in_extension : (row : Record) → stands_in extension_part row ≡ false
not_in_extension row = by_row row where
  by_row : (row : Record) → stands_in extension_part row ≡ false
  by_row (r.Offset n w) = refl
  by_row row = refl

not_in_environment : (row : Record) → stands_in environment_part row ≡ false
not_in_environment row = by_row row where
  by_row : (row : Record) → stands_in environment_part row ≡ false
  by_row (r.Offset n w) = refl
  by_row row = refl

no_offset : (part : Part) (row : Record) → stands_in part row ≡ true → offset_in row ≡ None
no_offset part (r.Offset n w) stands = absurd (true≢false (sym stands))
no_offset part row stands = refl

stands-there : (prefix : List Step) (e : Extent) (start : ℕ) (p : SpelledRecord) → part_record_fault prefix e start p ≡ None → stands_in e.part p.row ≡ true
stands-there prefix e start p clean = not_not (stands_in e.part p.row)
    (no_fault (not (stands_in e.part p.row)) start why.WrongPart
    (none_of _ _ (none_of (fault_if (nat_lt e.to (start + length p.bytes)) start why.PartGap) _ clean).1).0) where
      not_not : (b : Bool) → not b ≡ false → b ≡ true
      not_not true e = refl
      not_not false e = absurd (true≢false e)

-- a record without an error leaves the bytes of both parts as they are
pub record-bytes : (prefix : List Step) (at : code.Location) (p : SpelledRecord) → length (offsets_of prefix) ≡ offset_count (length prefix)
    → (10 ≤ length prefix → first_present (offsets_of prefix) ≤ size_of prefix)
    → AreOrdered (offsets_of prefix ++ cons_option (offset_in p.row) []) → IsPlacedWell at p.row → as_location at ≡ location_after prefix
    → record_fault prefix (as_location at) (size_of prefix) p ≡ None → KeepsBytes prefix p
record-bytes prefix (offset.Header k) p count begun order well same clean =
    let found = header-found prefix k same in
    in-header prefix p (ltb-true (length prefix) 10 found.0) count (well.1 ∙ ap (nat_le 2) found.1) order clean
record-bytes prefix (offset.Part e) p count begun order well same clean =
    let found = part-found prefix (offset.Part e) e refl same in
    let many : 10 ≤ length prefix = ltb-false (length prefix) 10 found.0 in
    let stands = stands-there prefix (as_extent e) (size_of prefix) p clean in
    after_header prefix p (Some (as_extent e)) many count (begun many) (no_offset (as_part e.part) p.row stands) found.1
    (λ x is own. true≢false (sym stands ∙ ap (λ q. stands_in q p.row) (part_of_some (as_extent e) x is ∙ own) ∙ not_in_extension p.row))
    (λ x is own. true≢false (sym stands ∙ ap (λ q. stands_in q p.row) (part_of_some (as_extent e) x is ∙ own) ∙ not_in_environment p.row))
record-bytes prefix offset.End p count begun order well same clean =
    let found = end-found prefix same in
    let many : 10 ≤ length prefix = ltb-false (length prefix) 10 found.0 in
    after_header prefix p None many count (begun many) (end_row (stands_in end_part p.row) refl clean) found.1 (no_part extension_part)
    (no_part environment_part) where
      end_row : (b : Bool) → stands_in end_part p.row ≡ b → fault_if (not b) (size_of prefix) why.WrongPart ≡ None → offset_in p.row ≡ None
      end_row true stands e = no_offset end_part p.row stands
      end_row false stands e = absurd (nothing e)
