-- What a listing has is inside the archive.
use Rattle.std.proofs.Common.{◌≡◌, ◌<◌, ◌≤◌, ◌+◌, ℕ, suc, Bool, true, false, not, cond, ◌&&◌, ◌||◌, nat_lt, if◌then◌else◌, List, [], ◌∷◌, length}
use Rattle.std.proofs.Common.{take, drop, Option, Some, None, IfSome, option_map, sym, subst, refl, arith}
use Rattle.std.specs.List.{AllByRecursion, before_first, cons_option, find, position_or_len}
use Rattle.std.specs.Option.{is_none}
use Rattle.std.proofs.lemmas.Bool.Decides.{nat_tests}
use Rattle.mufom_archive.specs.declared.entry.Entry.{Entry}
use Rattle.mufom_archive.specs.declared.listing.BadArchive.{BadArchive}
use Rattle.mufom_archive.specs.Names.{is_member, name_of}
use Rattle.mufom_archive.specs.Entries.{AreEntries, long_names, next_offset}
use Rattle.mufom_archive.specs.Listings.{Member, first_error, is_refused, members_of}
use Rattle.mufom_archive.specs.Laws.{IsInside, ListingsAreInside}
use Rattle.mufom_archive.proofs.EntryLaws.{entry_parts, offset_inside}

-- the contents of an entry that is not refused end inside
pub ends_inside : (size : ℕ) (e : Entry) (rest : Bool) → (nat_lt size e.end || rest) ≡ false → e.end ≤ size
ends_inside size e rest kept = by_test (nat_lt size e.end) refl kept where
  by_test : (b : Bool) → nat_lt size e.end ≡ b → (b || rest) ≡ false → e.end ≤ size
  by_test true is other = absurd (cc)
  by_test false is other = grind (arith, nat_tests)

-- the member that an entry is has its contents
made_inside : (size : ℕ) (e : Entry) (member : Bool) (name : Option (List ℕ)) → e.start ≤ e.end → e.end ≤ size → (rest : List Member)
    → AllByRecursion (IsInside size) rest
    → AllByRecursion (IsInside size)
    (cons_option (if member then option_map {U = Member} (λ n. record { name = n; start = e.start; end = e.end }) name else None) rest)
made_inside size e true (Some n) order within rest all = ((order, within), all)
made_inside size e true None order within rest all = all
made_inside size e false name order within rest all = all

members_inside : (names : List ℕ) (size : ℕ) (bytes : List ℕ) (at : ℕ) (es : List Entry) (next : ℕ) → AreEntries bytes at es next
    → AllByRecursion (IsInside size) (members_of names (before_first (is_refused names size) es))
members_inside names size bytes at [] next found = tt
members_inside names size bytes at (e ∷ es) next found =
    by_case (is_refused names size e) refl (members_inside names size bytes (next_offset e) es next found.1) where
      by_case : (b : Bool) → is_refused names size e ≡ b → AllByRecursion (IsInside size) (members_of names (before_first (is_refused names size) es))
          → AllByRecursion (IsInside size)
          (members_of names (take (cond (not b) (1 + position_or_len (is_refused names size) es) 0) (e ∷ es)))
      by_case true is rest = tt
      by_case false is rest =
          let one : 1 + position_or_len (is_refused names size) es ≡ suc (position_or_len (is_refused names size) es) = omega arith in
          rw one (made_inside size e (is_member e.label) (name_of names e.label) (entry_parts at (take 60 (drop at bytes)) e found.0).order
          (ends_inside size e (is_member e.label && is_none (name_of names e.label)) is) _ rest)

error_inside : (bytes : List ℕ) (next : ℕ) (o : Option Entry) → ((e : Entry) → o ≡ Some e → e.offset < length bytes)
    → IfSome (first_error (length bytes) next o) (λ e. e.offset < length bytes)
error_inside bytes next (Some e) at = at e refl
error_inside bytes next None at = by_test (nat_lt next (length bytes)) refl where
  by_test : (b : Bool) → nat_lt next (length bytes) ≡ b
      → IfSome (if b then Some (record { offset = next }) else None) (λ (e : BadArchive). e.offset < length bytes)
  by_test true is = grind (arith, nat_tests)
  by_test false is = tt

pub inside : ListingsAreInside
inside bytes ms error l =
    let names = long_names bytes l.entries in
    let refused = is_refused names (length bytes) in (
      subst (AllByRecursion (IsInside (length bytes))) (sym l.listed) (members_inside names (length bytes) bytes 8 l.entries l.next l.found),
      subst (λ (o : Option BadArchive). IfSome o (λ e. e.offset < length bytes)) (sym l.refused)
          (error_inside bytes l.next (find refused l.entries) (λ e is. offset_inside refused bytes 8 l.entries l.next e l.found is)),
    )
