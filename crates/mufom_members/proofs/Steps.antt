-- The members of an archive after the contents of one more entry.
use Rattle.std.proofs.Common.{◌≡◌, ℕ, ◌+◌, ◌<◌, ◌≤◌, ◌∙◌, inl, inr, ◌⊎◌, sym, ap, refl, Bool, true, false, if◌then◌else◌, List, [], ◌∷◌, ◌++◌}
use Rattle.std.proofs.Common.{length, filter, slice_get, Option, Some, None, subst, length-append, append_assoc, append-nil}
use Rattle.std.proofs.lemmas.List.Elements.{filter-append}
use Rattle.mufom_archive.specs.declared.entry.Entry.{Entry}
use Rattle.mufom_archive.specs.Names.{is_member}
use Rattle.mufom_archive.specs.Entries.{contents_of}
use Rattle.mufom_module.specs.declared.module.Parts.{Parts}
use Rattle.mufom_records.specs.declared.options.ReadOptions.{ReadOptions}
use Rattle.mufom_read.specs.declared.refusal.ReadRefusal.{ReadRefusal}
use Rattle.mufom_read.specs.declared.state.State.{State}
use Rattle.mufom_judging.specs.Judging.{IsJudged, refusal}
use Rattle.mufom_members.specs.Reading.{ArePartly, ArePending, IsBetween, AreRead, AreReadUpTo}
use Rattle.mufom_members.specs.Reading.{IsReadModule, HasError, HasTaken, IsOpenAt, IsRefusedEarly, is_member_entry}
use Rattle.mufom_members.proofs.EntryOrder.{contents_grow, part_of}
use Rattle.mufom_members.proofs.Chunks.{fresh, next_is}

-- a further entry with its module
read_more : (options : ReadOptions) (bytes : List ℕ) (es : List Entry) (ms : List Parts) (e : Entry) (m : Parts) → AreRead options bytes es ms
    → e.end ≤ length bytes → IsReadModule options (contents_of bytes e) m → AreRead options bytes (es ++ e ∷ []) (ms ++ m ∷ [])
read_more options bytes [] [] e m is inside module_of = (inside, module_of, tt)
read_more options bytes [] (n ∷ ms) e m is inside module_of = absurd is
read_more options bytes (x ∷ es) [] e m is inside module_of = absurd is
read_more options bytes (x ∷ es) (n ∷ ms) e m is inside module_of = (is.0, is.1, read_more options bytes es ms e m is.2 inside module_of)

module _ (options : ReadOptions) (bytes more : List ℕ) (entries : List Entry) (done : ℕ) (ms ns : List Parts) (reader now : Option State) (e : Entry)
    (between : IsBetween options bytes more entries done ms reader) (next : slice_get entries done ≡ Some e) where
  abbrev part : List ℕ
  part = part_of e (length bytes) more

  its_rest : (rest : List Entry) × (between.later ≡ e ∷ rest)
  its_rest = next_is between.before between.later e entries between.split (ap (slice_get entries) between.count ∙ next)

  partly_open : ArePartly options bytes (e ∷ its_rest.0) reader
  partly_open = subst (λ l. ArePartly options bytes l reader) its_rest.1 between.partly

  -- its module is added, or it is a table
  pub step_done : e.end ≤ length (bytes ++ more) → HasTaken options e (contents_of bytes e ++ part) true ms ns now None
      → IsBetween options bytes more entries (done + 1) ns now
  step_done inside taken = record {
    before = between.before ++ e ∷ [];
    later = its_rest.0;
    split = between.split ∙ ap (λ l. between.before ++ l) its_rest.1 ∙ sym (append_assoc between.before (e ∷ []) its_rest.0);
    count = length-append between.before (e ∷ []) ∙ ap (λ n. n + 1) between.count;
    read = subst (λ l. AreRead options (bytes ++ more) l ns) (sym (filter-append is_member_entry between.before (e ∷ [])))
        (by_kind (is_member e.label) refl);
    partly = subst (ArePartly options bytes its_rest.0) (sym taken.0) (fresh options bytes its_rest.0 partly_open.1);
  }
    where
      by_kind : (b : Bool) → is_member e.label ≡ b
          → AreRead options (bytes ++ more) (filter is_member_entry between.before ++ (if b then e ∷ [] else [])) ns
      by_kind true member =
          let added = taken.1.0 member in
          subst (AreRead options (bytes ++ more) (filter is_member_entry between.before ++ e ∷ [])) (sym added.1)
          (read_more options (bytes ++ more) (filter is_member_entry between.before) ms e added.0 between.read inside
          (subst (λ l. IsReadModule options l added.0) (sym (contents_grow bytes more e)) added.2))
      by_kind false other =
          subst (λ l. AreRead options (bytes ++ more) l ns) (sym (append-nil (filter is_member_entry between.before)))
          (subst (AreRead options (bytes ++ more) (filter is_member_entry between.before)) (sym (taken.1.1 other)) between.read)

  -- its contents are not complete
  pub step_waits : length (bytes ++ more) < e.end → HasTaken options e (contents_of bytes e ++ part) false ms ns now None
      → AreReadUpTo options (bytes ++ more) entries done ns now None
  step_waits short taken = record {
    before = between.before;
    later = e ∷ its_rest.0;
    split = between.split ∙ ap (λ l. between.before ++ l) its_rest.1;
    count = between.count;
    read = subst (AreRead options (bytes ++ more) (filter is_member_entry between.before)) (sym taken.0) between.read;
    pending = (short, subst (λ l. IsOpenAt options now e l) (sym (contents_grow bytes more e)) taken.1);
  }

  -- it has an error
  pub step_refused : (complete : Bool) → (complete ≡ true → e.end ≤ length (bytes ++ more)) → (r : ReadRefusal)
      → HasTaken options e (contents_of bytes e ++ part) complete ms ns now (Some r) → AreReadUpTo options (bytes ++ more) entries done ns now (Some r)
  step_refused complete inside r taken = record {
    before = between.before;
    later = e ∷ its_rest.0;
    split = between.split ∙ ap (λ l. between.before ++ l) its_rest.1;
    count = between.count;
    read = subst (AreRead options (bytes ++ more) (filter is_member_entry between.before)) (sym taken.0) between.read;
    pending = subst (λ l. HasError options e l (e.end ≤ length (bytes ++ more)) r) (sym (contents_grow bytes more e)) (record {
      member = taken.1.member;
      inside = taken.1.inside;
      place = taken.1.place;
      within = taken.1.within;
      judged = judged taken.1.judged;
    });
  }
    where
      judged : (IsRefusedEarly options (contents_of bytes e ++ part) taken.1.inside r.reason
          ⊎ ((complete ≡ true) × IsJudged options (contents_of bytes e ++ part) (refusal taken.1.inside r.reason)))
          → IsRefusedEarly options (contents_of bytes e ++ part) taken.1.inside r.reason
          ⊎ ((e.end ≤ length (bytes ++ more)) × IsJudged options (contents_of bytes e ++ part) (refusal taken.1.inside r.reason))
      judged (inl early) = inl early
      judged (inr late) = inr (inside late.0, late.1)

-- the contents of the next entry so far
pub first_open : (options : ReadOptions) (bytes more : List ℕ) (entries : List Entry) (done : ℕ) (ms : List Parts) (reader : Option State) (e : Entry)
    → IsBetween options bytes more entries done ms reader → slice_get entries done ≡ Some e → IsOpenAt options reader e (contents_of bytes e)
first_open options bytes more entries done ms reader e between next =
    (partly_open options bytes more entries done ms ms reader reader e between next).0

-- no entry is next
pub step_none : (options : ReadOptions) (bytes more : List ℕ) (entries : List Entry) (done : ℕ) (ms : List Parts) (reader : Option State)
    → IsBetween options bytes more entries done ms reader → slice_get entries done ≡ None → AreReadUpTo options (bytes ++ more) entries done ms reader None
step_none options bytes more entries done ms reader between none = record {
  before = between.before;
  later = between.later;
  split = between.split;
  count = between.count;
  read = between.read;
  pending = by_later between.later
      (by_before between.before between.later (sym (ap (λ l. slice_get l (length between.before)) between.split) ∙ ap (slice_get entries) between.count ∙ none))
      between.partly;
}
  where
    by_before : (before later : List Entry) → slice_get (before ++ later) (length before) ≡ None → later ≡ []
    by_before [] [] is = refl
    by_before [] (e ∷ later) is = absurd (cc)
    by_before (x ∷ before) later is = by_before before later is

    by_later : (later : List Entry) → later ≡ [] → ArePartly options bytes later reader → ArePending options (bytes ++ more) later reader None
    by_later [] is partly = partly
    by_later (e ∷ later) is partly = absurd (cc)
