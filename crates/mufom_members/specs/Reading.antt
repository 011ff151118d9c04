-- What it means that the members of an archive were read up to some byte of it.
use Rattle.std.specs.Prelude.{◌≡◌, ◌⊎◌, ℕ, ◌+◌, ◌*◌, ◌<◌, ◌≤◌, Bool, true, false, ◌||◌, nat_lt, if◌then◌else◌, List, [], ◌∷◌, ◌++◌, length, filter}
use Rattle.std.specs.Prelude.{Option, Some, None}
use Rattle.std.specs.List.{AllByRecursion}
use Rattle.mufom_archive.specs.declared.entry.Entry.{Entry}
use Rattle.mufom_archive.specs.declared.listing.BadArchive.{BadArchive}
use Rattle.mufom_archive.specs.Reading.{HasRead as HasReadArchive, entries_of}
use Rattle.mufom_module.specs.Grammar.{file_limit}
use Rattle.mufom_module.specs.Written.{weight}
use Rattle.mufom_read.specs.declared.refusal.ReadStop.{ReadStop}
use Rattle.mufom_read.specs.declared.refusal.ReadStop.TheVariants as read_stop
use Rattle.mufom_members.specs.declared.archive.Gatherer.{Gatherer}
use Rattle.mufom_members.specs.declared.members.MembersStop.{MembersStop}
use Rattle.mufom_members.specs.declared.members.MembersStop.TheVariants as stop
use Rattle.mufom_archive.specs.Names.{is_member}
use Rattle.mufom_archive.specs.Entries.{contents_of}
use Rattle.mufom_archive.specs.Listings.{is_at}
use Rattle.mufom_numbers.specs.declared.reason.Reason.{Reason}
use Rattle.mufom_module.specs.declared.module.Parts.{Parts}
use Rattle.mufom_records.specs.declared.options.ReadOptions.{ReadOptions}
use Rattle.mufom_read.specs.declared.refusal.ReadRefusal.{ReadRefusal}
use Rattle.mufom_read.specs.declared.state.State.{State}
use Rattle.mufom_numbers.specs.Spelling.{AreBytes}
use Rattle.mufom_read.specs.Reader.{HasRead, options_of, reader_stop}
use Rattle.mufom_judging.specs.Judging.{refusal, IsModule, IsJudged, IsRefusedAt}

-- the entry is a member
abbrev pub is_member_entry : Entry → Bool
is_member_entry e = is_member e.label

-- the contents are the file of this module, which weighs at most ten times their length
abbrev pub IsReadModule : ReadOptions → List ℕ → Parts → Type 0
IsReadModule options contents m = IsModule options contents m × (weight m ≤ 10 * length contents)

-- The contents of these entries are complete, and are files of these modules, each of the module at its position.
abbrev pub AreRead : ReadOptions → List ℕ → List Entry → List Parts → Type 0
AreRead options bytes [] [] = Unit {0}
AreRead options bytes (e ∷ entries) (m ∷ modules) = (e.end ≤ length bytes) × IsReadModule options (contents_of bytes e) m
    × AreRead options bytes entries modules
AreRead options bytes [] (_ ∷ _) = ⊥
AreRead options bytes (_ ∷ _) [] = ⊥

-- The reader has read these bytes and found no error. There need not be a reader if there are no bytes.
abbrev pub IsOpen : ReadOptions → Option State → List ℕ → Type 0
IsOpen options None contents = contents ≡ []
IsOpen options (Some reader) contents = HasRead reader contents × (options_of reader ≡ options) × (reader_stop reader ≡ None)

-- The same of the contents of an entry, if it is a member; if it is not, there is no reader.
abbrev pub IsOpenAt : ReadOptions → Option State → Entry → List ℕ → Type 0
IsOpenAt options reader e contents = (is_member e.label ≡ true → IsOpen options reader contents) × (is_member e.label ≡ false → reader ≡ None)

-- the first of these bytes have this error, so that it does not matter what follows them
pub record IsRefusedEarly (options : ReadOptions) (bytes : List ℕ) (offset : ℕ) (reason : Reason) : Type 0 where
  pub front : List ℕ
  pub rest : List ℕ
  pub split : bytes ≡ front ++ rest
  pub fits : AreBytes front
  pub refused : IsRefusedAt options front offset reason

-- The contents of a member have this error, complete or not. Its offset is counted from the start of the archive.
pub record HasError (options : ReadOptions) (e : Entry) (contents : List ℕ) (complete : Type 0) (r : ReadRefusal) : Type 0 where
  pub member : is_member e.label ≡ true
  pub inside : ℕ
  pub place : r.offset ≡ e.start + inside
  pub within : inside ≤ length contents
  pub judged : IsRefusedEarly options contents inside r.reason ⊎ (complete × IsJudged options contents (refusal inside r.reason))

-- The entries that are not done: the contents of the first one are not complete, and its reader has read those that are there; or
-- they have an error.
abbrev pub ArePending : ReadOptions → List ℕ → List Entry → Option State → Option ReadRefusal → Type 0
ArePending options bytes [] reader None = reader ≡ None
ArePending options bytes [] reader (Some r) = ⊥
ArePending options bytes (e ∷ later) reader None = (length bytes < e.end) × IsOpenAt options reader e (contents_of bytes e)
ArePending options bytes (e ∷ later) reader (Some r) = HasError options e (contents_of bytes e) (e.end ≤ length bytes) r

-- The entries of an archive are read up to some byte: those before have their modules, those after are pending.
pub record AreReadUpTo (options : ReadOptions) (bytes : List ℕ) (entries : List Entry) (done : ℕ) (modules : List Parts)
    (reader : Option State) (r : Option ReadRefusal) : Type 0 where
  pub before : List Entry
  pub later : List Entry
  pub split : entries ≡ before ++ later
  pub count : length before ≡ done
  pub read : AreRead options bytes (filter is_member_entry before) modules
  pub pending : ArePending options bytes later reader r

-- the contents of a member are a file of a module, which is added at the end; nothing is added for a table
abbrev pub AddsModule : ReadOptions → Entry → List ℕ → List Parts → List Parts → Type 0
AddsModule options e contents old new = (is_member e.label ≡ true → (m : Parts) × (new ≡ old ++ m ∷ []) × IsReadModule options contents m)
    × (is_member e.label ≡ false → new ≡ old)

-- The result of reading the contents of an entry, complete or not: they have an error; or they are complete, and their module is
-- added; or further ones may follow.
abbrev pub HasTaken : ReadOptions → Entry → List ℕ → Bool → List Parts → List Parts → Option State → Option ReadRefusal → Type 0
HasTaken options e contents complete old new reader (Some r) = (new ≡ old) × HasError options e contents (complete ≡ true) r
HasTaken options e contents true old new reader None = (reader ≡ None) × AddsModule options e contents old new
HasTaken options e contents false old new reader None = (new ≡ old) × IsOpenAt options reader e contents

-- The members of the archive were read up to the end of this stream.
abbrev pub HasGathered : Gatherer → List ℕ → Type 0
HasGathered g stream = HasReadArchive g.archive stream
    × AreReadUpTo g.gathered.options stream (entries_of g.archive) g.done g.gathered.modules g.gathered.reader g.gathered.refusal

-- ---- the entries whose contents may be in a chunk

-- the contents of each entry start at this offset or later
abbrev pub StartAfter : ℕ → List Entry → Type 0
StartAfter at entries = AllByRecursion (λ e. at ≤ e.start) entries

-- The first of these entries has those of its contents that are in the bytes, and the others have none.
abbrev pub ArePartly : ReadOptions → List ℕ → List Entry → Option State → Type 0
ArePartly options bytes [] reader = reader ≡ None
ArePartly options bytes (e ∷ later) reader = IsOpenAt options reader e (contents_of bytes e) × StartAfter (length bytes) later

-- The entries before some of them were read with the bytes and the chunk that follows them, those after with the bytes alone.
pub record IsBetween (options : ReadOptions) (bytes chunk : List ℕ) (entries : List Entry) (done : ℕ) (modules : List Parts)
    (reader : Option State) : Type 0 where
  pub before : List Entry
  pub later : List Entry
  pub split : entries ≡ before ++ later
  pub count : length before ≡ done
  pub read : AreRead options (bytes ++ chunk) (filter is_member_entry before) modules
  pub partly : ArePartly options bytes later reader

-- the archive has read a chunk after the stream; some of its entries were read with the chunk, and no member is refused
pub record HasBegun (g : Gatherer) (stream chunk : List ℕ) (start : ℕ) : Type 0 where
  pub counted : start ≡ length stream
  pub small : length (stream ++ chunk) ≤ file_limit
  pub archive : HasReadArchive g.archive (stream ++ chunk)
  pub sound : g.gathered.refusal ≡ None
  pub between : IsBetween g.gathered.options stream chunk (entries_of g.archive) g.done g.gathered.modules g.gathered.reader

-- whether more entries may have contents in the chunk
abbrev pub HasStepped : Gatherer → List ℕ → List ℕ → ℕ → Bool → Type 0
HasStepped g stream chunk start true = HasBegun g stream chunk start
HasStepped g stream chunk start false = HasGathered g (stream ++ chunk)

-- ---- errors

-- the error is at an offset that a file may have
abbrev pub IsSmall : ReadStop → Type 0
IsSmall (read_stop.Refused r) = r.offset ≤ file_limit
IsSmall read_stop.NoMemory = Unit {0}

-- the error of contents that begin at this offset of the archive, with its offset counted from the start of the archive
abbrev pub moved : ℕ → ReadRefusal → ReadRefusal
moved start r = record { offset = start + r.offset; reason = r.reason }

-- the stop is an error, and this is that error moved
abbrev pub IsMoved : ℕ → ReadStop → Option ReadRefusal → Type 0
IsMoved start (read_stop.Refused r) new = new ≡ Some (moved start r)
IsMoved start read_stop.NoMemory new = ⊥

-- Of the error of the first member that is refused and the first error of the archive, the one whose entry is first. That of a
-- member is after the start of its entry, and not after the end.
abbrev pub first_stop : Option ReadRefusal → Option BadArchive → Option MembersStop
first_stop None None = None
first_stop None (Some bad) = Some (stop.BadArchive bad)
first_stop (Some r) None = Some (stop.Refused r)
first_stop (Some r) (Some bad) = if nat_lt bad.offset r.offset then Some (stop.BadArchive bad) else Some (stop.Refused r)

-- The stop for an archive that goes on after some bytes, given the offset of a header that is complete and is none, that of the first
-- member that lacks its long name, whatever follows, and the stop for these bytes alone.
abbrev pub prefix_stop : Option ℕ → Option ℕ → Option MembersStop → MembersStop
prefix_stop header nameless None = stop.Limit
prefix_stop header nameless (Some (stop.Refused r)) = stop.Refused r
prefix_stop header nameless (Some (stop.BadArchive bad)) = if is_at header bad.offset || is_at nameless bad.offset then stop.BadArchive bad else stop.Limit
prefix_stop header nameless (Some _) = stop.Limit
