-- The modules of an archive weigh at most ten times its length.
use Rattle.std.proofs.Common.{◌≡◌, ℕ, ◌+◌, ◌-◌, ◌*◌, ◌≤◌, Bool, true, false, if◌then◌else◌, List, [], ◌∷◌, ◌++◌, length, take, drop, filter}
use Rattle.std.proofs.Common.{subst, arith}
use Rattle.std.specs.List.{sum_by}
use Rattle.std.proofs.lemmas.List.Sums.{sum_by-append}
use Rattle.mufom_records.specs.declared.options.ReadOptions.{ReadOptions}
use Rattle.mufom_module.specs.declared.module.Parts.{Parts}
use Rattle.mufom_module.specs.Written.{weight}
use Rattle.mufom_archive.specs.declared.entry.Entry.{Entry}
use Rattle.mufom_archive.specs.Names.{is_member}
use Rattle.mufom_archive.specs.Entries.{AreEntries, next_offset}
use Rattle.mufom_archive.proofs.EntryLaws.{entry_parts}
use Rattle.mufom_members.specs.declared.archive.Gatherer.{Gatherer}
use Rattle.mufom_members.specs.Reading.{AreRead, HasGathered, is_member_entry}
use Rattle.mufom_members.proofs.EntryOrder.{contents_length}

-- modules of entries from an offset on weigh at most ten times the bytes from there
weights : (options : ReadOptions) (bytes : List ℕ) (at : ℕ) (before later : List Entry) (next : ℕ) (ms : List Parts)
    → AreEntries bytes at (before ++ later) next → AreRead options bytes (filter is_member_entry before) ms
    → sum_by weight ms ≤ 10 * (length bytes - at)
weights options bytes at [] later next [] found read = omega arith
weights options bytes at [] later next (m ∷ ms) found read = absurd read
weights options bytes at (e ∷ before) later next ms found read =
    by_kind (is_member e.label) ms read (λ ns is. weights options bytes (next_offset e) before later next ns found.1 is)
  where
    by_kind : (b : Bool) (ms : List Parts)
        → AreRead options bytes (if b then e ∷ filter is_member_entry before else filter is_member_entry before) ms
        → ((ns : List Parts) → AreRead options bytes (filter is_member_entry before) ns → sum_by weight ns ≤ 10 * (length bytes - next_offset e))
        → sum_by weight ms ≤ 10 * (length bytes - at)
    by_kind true [] is further = absurd is
    by_kind true (m ∷ ms) is further =
        let parts = entry_parts at (take 60 (drop at bytes)) e found.0 in
        let start = parts.start in let order = parts.order in
        let few = contents_length bytes e in
        let one = is.1.1 in
        let inside = is.0 in
        let rest = further ms is.2 in
        let sum : sum_by weight (m ∷ ms) ≡ 0 + weight m + sum_by weight ms = sum_by-append weight (m ∷ []) ms in
        omega (arith, start, order, few, one, inside, rest, sum)
    by_kind false ms is further =
        let parts = entry_parts at (take 60 (drop at bytes)) e found.0 in
        let start = parts.start in let order = parts.order in
        let rest = further ms is in
        omega (arith, start, order, rest)

pub gathered_weigh : (g : Gatherer) (stream : List ℕ) → HasGathered g stream → sum_by weight g.gathered.modules ≤ 10 * length stream
gathered_weigh g stream has =
    let all = weights g.gathered.options stream 8 has.1.before has.1.later g.archive.next g.gathered.modules
    (subst (λ l. AreEntries stream 8 l g.archive.next) has.1.split has.0.found) has.1.read in
    omega (arith, all)
