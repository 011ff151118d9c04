-- The steps of reading the members of an archive.
use Rattle.std.proofs.Common.{◌≡◌, ℕ, ◌+◌, ◌-◌, ◌<◌, ◌≤◌, ◌∙◌, ◌↔◌, ◌⊎◌, inl, inr, zero, suc, sym}
use Rattle.std.proofs.Common.{ap, refl, Bool, true, false, nat_lt, is_some, List, [], ◌∷◌, ◌++◌, length, take, drop, slice_get}
use Rattle.std.proofs.Common.{Option, Some, None, subst, length-append, arith}
use Rattle.std.proofs.lemmas.Bool.Decides.{nat_tests}
use Rattle.mufom_records.specs.declared.options.ReadOptions.{ReadOptions}
use Rattle.mufom_module.specs.Grammar.{file_limit}
use Rattle.mufom_archive.specs.declared.archive.Archive.{Archive}
use Rattle.mufom_archive.specs.declared.entry.Entry.{Entry}
use Rattle.mufom_archive.specs.Entries.{AreEntries, contents_of, entry_at, entry_of, next_offset}
use Rattle.mufom_archive.specs.Reading.{HasRead as HasReadArchive, entries_of, length_of}
use Rattle.mufom_archive.proofs.EntryLaws.{entries_stay, entry_parts, header_inside}
use Rattle.mufom_read.specs.declared.refusal.ReadRefusal.{ReadRefusal}
use Rattle.mufom_members.specs.declared.archive.Gatherer.{Gatherer}
use Rattle.mufom_members.specs.declared.gathered.Gathered.{Gathered}
use Rattle.mufom_members.specs.Reading.{AreReadUpTo, HasBegun, HasGathered, HasTaken, IsBetween, IsOpenAt}
use Rattle.mufom_members.proofs.Chunks.{between_begins, refused_stays}
use Rattle.mufom_members.proofs.EntryOrder.{entries_more, part_of}
use Rattle.mufom_members.proofs.Steps.{first_open, step_done, step_none, step_refused, step_waits}

pub le_or_above : (m n : ℕ) → (m ≤ n) ⊎ (n + 1 ≤ m)
le_or_above m n = by_test (nat_lt n m) refl where
  by_test : (b : Bool) → nat_lt n m ≡ b → (m ≤ n) ⊎ (n + 1 ≤ m)
  by_test true is = inr (grind (arith, nat_tests))
  by_test false is = inl (grind (arith, nat_tests))

-- no further header is in the stream
pub last_is : (a : Archive) (stream : List ℕ) (read : HasReadArchive a stream) → entry_at stream a.next ≡ None
last_is a stream read = ap (entry_of a.next) (sym read.pending) ∙ read.last

-- an entry starts inside
pub starts_in : (bytes : List ℕ) (at : ℕ) (es : List Entry) (next position : ℕ) (e : Entry) → AreEntries bytes at es next → slice_get es position ≡ Some e
    → e.start ≤ length bytes
starts_in bytes at [] next position e found is = absurd (cc)
starts_in bytes at (x ∷ es) next zero e found is =
    let same : x ≡ e = cc in
    let parts = entry_parts at (take 60 (drop at bytes)) x found.0 in
    omega (arith, parts.start, header_inside bytes at x found.0, ap (λ (y : Entry). y.start) same)
starts_in bytes at (x ∷ es) next (suc position) e found is = starts_in bytes (next_offset x) es next position e found.1 is

-- nothing was read yet
pub none_gathered : (g : Gatherer) → HasReadArchive g.archive [] → g.done ≡ 0 → g.gathered.modules ≡ [] → g.gathered.reader ≡ None
    → g.gathered.refusal ≡ None → HasGathered g []
none_gathered g read none no_modules no_reader no_refusal = (
  read,
  rw (none, no_modules, no_reader, no_refusal) (record {
    before = [];
    later = [];
    split = nothing 8 g.archive.entries g.archive.next read.found;
    count = refl;
    read = tt;
    pending = refl;
  }),
)
  where
    nothing : (at : ℕ) (es : List Entry) (next : ℕ) → AreEntries [] at es next → es ≡ []
    nothing at [] next found = refl
    nothing at (e ∷ es) next found = absurd (omega (arith, header_inside [] at e found.0))

-- ---- one entry

-- an archive with this number of entries done, and what was gathered
abbrev pub with_done : Gatherer → ℕ → Gathered → Gatherer
with_done old done g = record { archive = old.archive; done = done; gathered = g }

module _ (old : Gatherer) (g : Gathered) (stream chunk part : List ℕ) (start : ℕ) (e : Entry) (complete : Bool) (begun : HasBegun old stream chunk start)
    (next : slice_get (entries_of old.archive) old.done ≡ Some e) (same : g.options ≡ old.gathered.options)
    (here : part ≡ drop (e.start - start) (take (e.end - start) chunk)) (size : ℕ) (counted : size ≡ length_of old.archive)
    (ends : (complete ≡ true) ↔ (e.end ≤ size))
    (taken : (contents : List ℕ) → IsOpenAt old.gathered.options old.gathered.reader e contents
    → HasTaken old.gathered.options e (contents ++ part) complete old.gathered.modules g.modules g.reader g.refusal) where
  its_size : size ≡ length (stream ++ chunk)
  its_size = counted ∙ begun.archive.counted

  its_part : part ≡ part_of e (length stream) chunk
  its_part = here ∙ ap (λ n. drop (e.start - n) (take (e.end - n) chunk)) begun.counted

  its_taken : HasTaken old.gathered.options e (contents_of stream e ++ part_of e (length stream) chunk)
      complete old.gathered.modules g.modules g.reader g.refusal
  its_taken = subst (λ l. HasTaken old.gathered.options e (contents_of stream e ++ l) complete old.gathered.modules g.modules g.reader g.refusal) its_part
      (taken (contents_of stream e)
      (first_open old.gathered.options stream chunk (entries_of old.archive) old.done old.gathered.modules old.gathered.reader e begun.between next))

  gathered_as : (r : Option ReadRefusal) → g.refusal ≡ r
      → AreReadUpTo old.gathered.options (stream ++ chunk) (entries_of old.archive) old.done g.modules g.reader r
      → HasGathered (with_done old old.done g) (stream ++ chunk)
  gathered_as r is up = (
    begun.archive,
    subst (λ (o : Option ReadRefusal). AreReadUpTo g.options (stream ++ chunk) (entries_of old.archive) old.done g.modules g.reader o) (sym is)
        (subst (λ (d : ReadOptions). AreReadUpTo d (stream ++ chunk) (entries_of old.archive) old.done g.modules g.reader r) (sym same) up),
  )

  as_refused : (r : ReadRefusal) → g.refusal ≡ Some r → HasGathered (with_done old old.done g) (stream ++ chunk)
  as_refused r is = gathered_as (Some r) is
      (step_refused old.gathered.options stream chunk (entries_of old.archive) old.done old.gathered.modules g.modules old.gathered.reader g.reader e
      begun.between next complete (λ whole. let end = ends.0 whole in omega (arith, end, its_size)) r
      (subst (λ (o : Option ReadRefusal). HasTaken old.gathered.options e (contents_of stream e ++ part_of e (length stream) chunk) complete
      old.gathered.modules g.modules g.reader o) is its_taken))

  -- its contents go on after the chunk
  pub stops_cut : complete ≡ false → HasGathered (with_done old old.done g) (stream ++ chunk)
  stops_cut cut = by_refusal g.refusal refl where
    by_refusal : (o : Option ReadRefusal) → g.refusal ≡ o → HasGathered (with_done old old.done g) (stream ++ chunk)
    by_refusal (Some r) is = as_refused r is
    by_refusal None is = gathered_as None is
        (step_waits old.gathered.options stream chunk (entries_of old.archive) old.done old.gathered.modules g.modules old.gathered.reader g.reader e
        begun.between next (by_order (le_or_above e.end (length (stream ++ chunk))))
        (subst (λ b. HasTaken old.gathered.options e (contents_of stream e ++ part_of e (length stream) chunk) b old.gathered.modules g.modules g.reader None)
        cut (subst (λ (o : Option ReadRefusal). HasTaken old.gathered.options e (contents_of stream e ++ part_of e (length stream) chunk) complete
        old.gathered.modules g.modules g.reader o) is its_taken)))
      where
        wrong : e.end ≤ length (stream ++ chunk) → ⊥
        wrong inside = let whole : complete ≡ true = ends.1 (omega (arith, inside, its_size)) in cc

        by_order : (e.end ≤ length (stream ++ chunk)) ⊎ (length (stream ++ chunk) + 1 ≤ e.end) → length (stream ++ chunk) < e.end
        by_order (inl inside) = absurd (wrong inside)
        by_order (inr beyond) = omega (arith, beyond)

  -- it is a member that is refused
  pub stops_refused : is_some g.refusal ≡ true → HasGathered (with_done old old.done g) (stream ++ chunk)
  stops_refused some = by_refusal g.refusal refl some where
    by_refusal : (o : Option ReadRefusal) → g.refusal ≡ o → is_some o ≡ true → HasGathered (with_done old old.done g) (stream ++ chunk)
    by_refusal (Some r) is some = as_refused r is
    by_refusal None is some = absurd (cc)

  -- it is done
  pub goes_on : complete ≡ true → is_some g.refusal ≡ false → HasBegun (with_done old (old.done + 1) g) stream chunk start
  goes_on whole none = by_refusal g.refusal refl none where
    by_refusal : (o : Option ReadRefusal) → g.refusal ≡ o → is_some o ≡ false → HasBegun (with_done old (old.done + 1) g) stream chunk start
    by_refusal (Some r) is none = absurd (cc)
    by_refusal None is none = record {
      counted = begun.counted;
      small = begun.small;
      archive = begun.archive;
      sound = is;
      between = subst (λ (d : ReadOptions). IsBetween d stream chunk (entries_of old.archive) (old.done + 1) g.modules g.reader) (sym same)
          (step_done old.gathered.options stream chunk (entries_of old.archive) old.done old.gathered.modules g.modules old.gathered.reader g.reader e
          begun.between next (let end = ends.0 whole in omega (arith, end, its_size))
          (subst (λ b. HasTaken old.gathered.options e (contents_of stream e ++ part_of e (length stream) chunk) b old.gathered.modules g.modules g.reader None)
          whole (subst (λ (o : Option ReadRefusal). HasTaken old.gathered.options e (contents_of stream e ++ part_of e (length stream) chunk) complete
          old.gathered.modules g.modules g.reader o) is its_taken)));
    }

-- the contents of the next entry so far
pub next_open : (g : Gatherer) (stream chunk : List ℕ) (start : ℕ) (e : Entry) → HasBegun g stream chunk start
    → slice_get (entries_of g.archive) g.done ≡ Some e → IsOpenAt g.gathered.options g.gathered.reader e (contents_of stream e)
next_open g stream chunk start e begun next =
    first_open g.gathered.options stream chunk (entries_of g.archive) g.done g.gathered.modules g.gathered.reader e begun.between next

pub next_starts : (g : Gatherer) (stream chunk : List ℕ) (start : ℕ) (e : Entry) → HasBegun g stream chunk start
    → slice_get (entries_of g.archive) g.done ≡ Some e → e.start ≤ file_limit
next_starts g stream chunk start e begun next =
    let inside = starts_in (stream ++ chunk) 8 g.archive.entries g.archive.next g.done e begun.archive.found next in
    omega (arith, inside, begun.small)

-- no entry is left
pub none_next : (g : Gatherer) (stream chunk : List ℕ) (start : ℕ) → HasBegun g stream chunk start → slice_get (entries_of g.archive) g.done ≡ None
    → HasGathered g (stream ++ chunk)
none_next g stream chunk start begun none = (
  begun.archive,
  subst (λ (o : Option ReadRefusal). AreReadUpTo g.gathered.options (stream ++ chunk) (entries_of g.archive) g.done g.gathered.modules g.gathered.reader o)
      (sym begun.sound)
      (step_none g.gathered.options stream chunk (entries_of g.archive) g.done g.gathered.modules g.gathered.reader begun.between none),
)

-- ---- a chunk

module _ (old : Gatherer) (a : Archive) (stream chunk : List ℕ) (has : HasGathered old stream) (read : HasReadArchive a (stream ++ chunk)) where
  new_entries : (new : List Entry) × (entries_of a ≡ entries_of old.archive ++ new) × AreEntries (stream ++ chunk) old.archive.next new a.next
  new_entries = entries_more (stream ++ chunk) 8 old.archive.entries a.entries old.archive.next a.next
      (entries_stay stream chunk 8 old.archive.entries old.archive.next has.0.found) read.found (last_is a (stream ++ chunk) read)

  abbrev pub with_archive : Gatherer
  with_archive = record { archive = a; done = old.done; gathered = old.gathered }

  -- a member was refused before
  pub stays_refused : is_some old.gathered.refusal ≡ true → HasGathered with_archive (stream ++ chunk)
  stays_refused some = (read, by_refusal old.gathered.refusal some has.1) where
    by_refusal : (o : Option ReadRefusal) → is_some o ≡ true
        → AreReadUpTo old.gathered.options stream (entries_of old.archive) old.done old.gathered.modules old.gathered.reader o
        → AreReadUpTo old.gathered.options (stream ++ chunk) (entries_of a) old.done old.gathered.modules old.gathered.reader o
    by_refusal (Some r) some up = refused_stays old.gathered.options stream chunk (entries_of old.archive) (entries_of a) old.done old.gathered.modules
        old.gathered.reader r (new_entries.0, new_entries.1) up
    by_refusal None some up = absurd (cc)

  pub begins : (start : ℕ) → start ≡ length_of old.archive → length_of old.archive + length chunk ≤ file_limit → is_some old.gathered.refusal ≡ false
      → HasBegun with_archive stream chunk start
  begins start counted fits none = by_refusal old.gathered.refusal refl none where
    by_refusal : (o : Option ReadRefusal) → old.gathered.refusal ≡ o → is_some o ≡ false → HasBegun with_archive stream chunk start
    by_refusal (Some r) is some = absurd (cc)
    by_refusal None is some = record {
      counted = counted ∙ has.0.counted;
      small = omega (arith, fits, has.0.counted, length-append stream chunk);
      archive = read;
      sound = is;
      between = between_begins old.gathered.options stream chunk (entries_of old.archive) (entries_of a) old.archive.next a.next old.done
          old.gathered.modules old.gathered.reader has.0.found (last_is old.archive stream has.0) read.found (last_is a (stream ++ chunk) read)
          (subst (λ (o : Option ReadRefusal). AreReadUpTo old.gathered.options stream (entries_of old.archive) old.done old.gathered.modules
          old.gathered.reader o) is has.1);
    }
