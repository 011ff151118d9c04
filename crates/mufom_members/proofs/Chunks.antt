-- The members of an archive after a further chunk of it.
use Rattle.std.proofs.Common.{◌≡◌, ℕ, ◌+◌, ◌≤◌, ◌∙◌, inl, inr, ◌⊎◌, sym, ap, refl, List, [], ◌∷◌, ◌++◌}
use Rattle.std.proofs.Common.{length, take, drop, filter, slice_get, Option, Some, None, subst, length-append, append_assoc, arith}
use Rattle.mufom_archive.specs.declared.entry.Entry.{Entry}
use Rattle.mufom_archive.specs.Entries.{AreEntries, contents_of, entry_at, next_offset}
use Rattle.mufom_archive.proofs.EntryLaws.{entries_stay, entry_parts}
use Rattle.mufom_module.specs.declared.module.Parts.{Parts}
use Rattle.mufom_records.specs.declared.options.ReadOptions.{ReadOptions}
use Rattle.mufom_read.specs.declared.refusal.ReadRefusal.{ReadRefusal}
use Rattle.mufom_read.specs.declared.state.State.{State}
use Rattle.mufom_judging.specs.Judging.{IsJudged, refusal}
use Rattle.mufom_members.specs.Reading.{ArePartly, ArePending, IsBetween, StartAfter, AreRead}
use Rattle.mufom_members.specs.Reading.{AreReadUpTo, IsReadModule, HasError, IsRefusedEarly, is_member_entry}
use Rattle.mufom_members.proofs.EntryOrder.{contents_grow, contents_stay, entries_more, no_contents, part_of, start_after, start_before}
use Rattle.mufom_members.proofs.EntryOrder.{start_later}

-- ---- what stays when bytes follow

pub read_stays : (options : ReadOptions) (bytes more : List ℕ) (es : List Entry) (ms : List Parts) → AreRead options bytes es ms
    → AreRead options (bytes ++ more) es ms
read_stays options bytes more [] [] is = tt
read_stays options bytes more [] (m ∷ ms) is = absurd is
read_stays options bytes more (e ∷ es) [] is = absurd is
read_stays options bytes more (e ∷ es) (m ∷ ms) is = let inside = is.0 in (
  omega (arith, inside, length-append bytes more),
  subst (λ l. IsReadModule options l m) (sym (contents_stay bytes more e is.0)) is.1,
  read_stays options bytes more es ms is.2,
)

pub error_stays : (options : ReadOptions) (bytes more : List ℕ) (e : Entry) (r : ReadRefusal)
    → HasError options e (contents_of bytes e) (e.end ≤ length bytes) r
    → HasError options e (contents_of (bytes ++ more) e) (e.end ≤ length (bytes ++ more)) r
error_stays options bytes more e r error = record {
  member = error.member;
  inside = error.inside;
  place = error.place;
  within = let within = error.within in
      omega (arith, within, ap length grown, length-append (contents_of bytes e) (part_of e (length bytes) more));
  judged = by_judged error.judged;
}
  where
    grown : contents_of (bytes ++ more) e ≡ contents_of bytes e ++ part_of e (length bytes) more
    grown = contents_grow bytes more e

    by_judged : (IsRefusedEarly options (contents_of bytes e) error.inside r.reason
        ⊎ ((e.end ≤ length bytes) × IsJudged options (contents_of bytes e) (refusal error.inside r.reason)))
        → IsRefusedEarly options (contents_of (bytes ++ more) e) error.inside r.reason
        ⊎ ((e.end ≤ length (bytes ++ more)) × IsJudged options (contents_of (bytes ++ more) e) (refusal error.inside r.reason))
    by_judged (inl early) = inl (record {
      front = early.front;
      rest = early.rest ++ part_of e (length bytes) more;
      split = grown ∙ ap (λ l. l ++ part_of e (length bytes) more) early.split ∙ append_assoc early.front early.rest (part_of e (length bytes) more);
      fits = early.fits;
      refused = early.refused;
    })
    by_judged (inr (complete, judged)) = inr (
      omega (arith, complete, length-append bytes more),
      subst (λ l. IsJudged options l (refusal error.inside r.reason)) (sym (contents_stay bytes more e complete)) judged,
    )

-- the archive was read up to some byte, and a refused member stays so
pub refused_stays : (options : ReadOptions) (bytes more : List ℕ) (es fs : List Entry) (done : ℕ) (ms : List Parts) (reader : Option State)
    (r : ReadRefusal) → ((new : List Entry) × (fs ≡ es ++ new)) → AreReadUpTo options bytes es done ms reader (Some r)
    → AreReadUpTo options (bytes ++ more) fs done ms reader (Some r)
refused_stays options bytes more es fs done ms reader r (new, grown) up = record {
  before = up.before;
  later = up.later ++ new;
  split = grown ∙ ap (λ l. l ++ new) up.split ∙ append_assoc up.before up.later new;
  count = up.count;
  read = read_stays options bytes more (filter is_member_entry up.before) ms up.read;
  pending = by_later up.later up.pending;
}
  where
    by_later : (later : List Entry) → ArePending options bytes later reader (Some r) → ArePending options (bytes ++ more) (later ++ new) reader (Some r)
    by_later [] is = absurd is
    by_later (e ∷ later) is = error_stays options bytes more e r is

-- ---- the entries whose contents may be in a chunk

-- nothing of an entry was read
pub fresh : (options : ReadOptions) (bytes : List ℕ) (es : List Entry) → StartAfter (length bytes) es → ArePartly options bytes es None
fresh options bytes [] starts = refl
fresh options bytes (e ∷ es) starts = ((λ member. no_contents bytes e starts.0, λ table. refl), starts.1)

pub between_begins : (options : ReadOptions) (bytes more : List ℕ) (es fs : List Entry) (next end done : ℕ) (ms : List Parts) (reader : Option State)
    → AreEntries bytes 8 es next → entry_at bytes next ≡ None → AreEntries (bytes ++ more) 8 fs end → entry_at (bytes ++ more) end ≡ None
    → AreReadUpTo options bytes es done ms reader None → IsBetween options bytes more fs done ms reader
between_begins options bytes more es fs next end done ms reader found last after ended up =
    let grown = entries_more (bytes ++ more) 8 es fs next end (entries_stay bytes more 8 es next found) after ended in
    record {
      before = up.before;
      later = up.later ++ grown.0;
      split = grown.1 ∙ ap (λ l. l ++ grown.0) up.split ∙ append_assoc up.before up.later grown.0;
      count = up.count;
      read = read_stays options bytes more (filter is_member_entry up.before) ms up.read;
      partly = by_later up.later up.pending grown.0 (start_later bytes more next grown.0 end last grown.2)
          (later_all 8 up.before (up.later ++ grown.0)
          (subst (λ l. AreEntries (bytes ++ more) 8 l end) (grown.1 ∙ ap (λ l. l ++ grown.0) up.split ∙ append_assoc up.before up.later grown.0) after));
    }
  where
    later_all : (at : ℕ) (before later : List Entry) → AreEntries (bytes ++ more) at (before ++ later) end
        → (from : ℕ) × AreEntries (bytes ++ more) from later end
    later_all at [] later all = (at, all)
    later_all at (e ∷ before) later all = later_all (next_offset e) before later all.1

    by_later : (later : List Entry) → ArePending options bytes later reader None → (new : List Entry) → StartAfter (length bytes) new
        → ((from : ℕ) × AreEntries (bytes ++ more) from (later ++ new) end) → ArePartly options bytes (later ++ new) reader
    by_later [] is new starts all = subst (ArePartly options bytes new) (sym is) (fresh options bytes new starts)
    by_later (e ∷ later) is new starts all =
        let parts = entry_parts all.0 (take 60 (drop all.0 (bytes ++ more))) e all.1.0 in
        let order = parts.order in let short = is.0 in (
          is.1,
          start_before (length bytes) (next_offset e + 60) (later ++ new) (omega (arith, order, short))
              (start_after (bytes ++ more) (next_offset e) (later ++ new) end all.1.1).0,
        )

-- ---- the next entry

-- the entry that is next
pub next_is : (before later : List Entry) (e : Entry) (es : List Entry) → es ≡ before ++ later → slice_get es (length before) ≡ Some e
    → (rest : List Entry) × (later ≡ e ∷ rest)
next_is before later e es split is = by_before before (sym (ap (λ l. slice_get l (length before)) split) ∙ is) where
  by_later : (later : List Entry) → slice_get later 0 ≡ Some e → (rest : List Entry) × (later ≡ e ∷ rest)
  by_later [] some = absurd (cc)
  by_later (x ∷ later) some = let same : x ≡ e = cc in (later, ap (λ y. y ∷ later) same)

  by_before : (before : List Entry) → slice_get (before ++ later) (length before) ≡ Some e → (rest : List Entry) × (later ≡ e ∷ rest)
  by_before [] some = by_later later some
  by_before (x ∷ before) some = by_before before some
