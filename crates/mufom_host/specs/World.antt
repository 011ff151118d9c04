-- The state of the outside world, as far as a host reveals it, and the effect of each call on it.
use Rattle.std.specs.Prelude.{◌≡◌, ◌⊎◌, ℕ, ◌+◌, ◌-◌, ◌^◌, ◌<◌, ◌≤◌, min, List, [], ◌∷◌, ◌++◌, length, take, drop, Option, Some, None, Result, Ok, Err}
use Rattle.std.specs.Prelude.{Bool, true, is_err, OnOk, OnErr, IfOk, IfSome, IsSome, OnSome, option_map, find}
use Rattle.std.specs.Str.{bytes_eq}
use Rattle.mufom_numbers.specs.Spelling.{AreBytes}
use Rattle.mufom_host.specs.declared.world.Failed.{Failed}

-- a file by its name and bytes
abbrev pub NamedFile : Type 0
NamedFile = List ℕ × List ℕ

-- the state of a host; a part that the host does not reveal is None
pub record Meaning : Type 0 where
  -- the unread bytes of the open input, empty while none is open
  pub left : Option (List ℕ)
  -- the files that may be opened
  pub files : Option (List NamedFile)
  -- the file being made, or none
  pub making : Option (Option NamedFile)
  -- the finished files, the earliest first
  pub made : Option (List NamedFile)
  -- what was printed
  pub out : Option (List ℕ)
  -- what was printed on the error output
  pub err : Option (List ℕ)
  -- the names that were passed to open and to create, including those of failed calls
  pub opened : Option (List (List ℕ))
  pub created : Option (List (List ℕ))

-- the bytes of the first file with this name
abbrev pub file_named : List ℕ → List NamedFile → Option (List ℕ)
file_named name files = option_map (λ f. f.1) (find (λ f. bytes_eq f.0 name) files)

-- the content of every file consists of bytes
abbrev pub HoldBytes : List NamedFile → Type 0
HoldBytes files = (name bytes : List ℕ) → file_named name files ≡ Some bytes → AreBytes bytes

-- A host that reveals its files also reveals the unread bytes, and a host that reveals its finished files also reveals the file being made.
-- The files that a host reveals hold bytes.
pub record RevealsTogether (meaning : Meaning) : Type 0 where
  pub left : IsSome meaning.files → IsSome meaning.left
  pub making : IsSome meaning.made → IsSome meaning.making
  pub bytes : IfSome meaning.files HoldBytes

-- the number of failed calls of each kind (open and read; create, write, finish and print; prints of error lines), and the failure of the input
pub record Faults : Type 0 where
  pub reads : ℕ
  pub writes : ℕ
  pub complaints : ℕ
  -- a call on the input that was opened last failed: its open, or a read since
  pub input_failed : Bool

-- one more than a counter's value, but at most 2^64 - 1
abbrev pub one_more : ℕ → ℕ
one_more count = min (count + 1) (2 ^ 64 - 1)

-- a count rose, or it is at the greatest value that a counter has
abbrev pub Rose : ℕ → ℕ → Type 0
Rose before now = one_more before ≤ now

-- the count does not fall, and if the call failed, it rose
pub record HasCause {T : Type 0} (before now : ℕ) (result : Result T Failed) : Type 0 where
  pub later : before ≤ now
  pub failed : OnErr result (Rose before now)

-- a call on the input that was opened last failed, and the count of failed opens and reads rose
abbrev pub InputFails : Faults → Faults → Type 0
InputFails before now = (now.input_failed ≡ true) × Rose before.reads now.reads

-- a read that fails marks the input as failed, and one that succeeds leaves the mark
abbrev pub ReadMarks : Faults → Faults → Result ℕ Failed → Type 0
ReadMarks before now (Ok n) = now.input_failed ≡ before.input_failed
ReadMarks before now (Err e) = now.input_failed ≡ true

-- after an open, the input is marked as failed if the open failed, and otherwise it is not
abbrev pub OpenMarks : Faults → Result (Unit {0}) Failed → Type 0
OpenMarks now result = now.input_failed ≡ is_err result

-- ---- which counts stay

abbrev pub KeepsAllButReads : Faults → Faults → Type 0
KeepsAllButReads old new = new ≡ record old { reads = new.reads; input_failed = new.input_failed }

abbrev pub KeepsAllButWrites : Faults → Faults → Type 0
KeepsAllButWrites old new = new ≡ record old { writes = new.writes }

abbrev pub KeepsAllButComplaints : Faults → Faults → Type 0
KeepsAllButComplaints old new = new ≡ record old { complaints = new.complaints }

-- ---- how a part changes, if it is known

-- it does not change
abbrev pub StaysKnown : {T : Type 0} → Option T → Option T → Type 0
StaysKnown before after = IfSome before (λ part. after ≡ Some part)

-- a list grows by these items
abbrev pub GrowsBy : {T : Type 0} → Option (List T) → Option (List T) → List T → Type 0
GrowsBy before after added = IfSome before (λ old. after ≡ Some (old ++ added))

-- a list grows by a prefix of these items
abbrev pub GrowsByPrefix : {T : Type 0} → Option (List T) → Option (List T) → List T → Type 0
GrowsByPrefix before after added = IfSome before (λ old. (n : ℕ) × (after ≡ Some (old ++ take n added)))

-- the file being made, with these bytes added; if no file is being made, nothing
abbrev pub with_bytes : Option NamedFile → List ℕ → Option NamedFile
with_bytes None bytes = None
with_bytes (Some file) bytes = Some (file.0, file.1 ++ bytes)

-- the file being made grows by these bytes
abbrev pub MakingGrowsBy : Option (Option NamedFile) → Option (Option NamedFile) → List ℕ → Type 0
MakingGrowsBy before after bytes = IfSome before (λ making. after ≡ Some (with_bytes making bytes))

-- the file being made grows by a prefix of these bytes
abbrev pub MakingGrowsByPrefix : Option (Option NamedFile) → Option (Option NamedFile) → List ℕ → Type 0
MakingGrowsByPrefix before after bytes = IfSome before (λ making. (n : ℕ) × (after ≡ Some (with_bytes making (take n bytes))))

-- the bytes are the first unread ones, and the rest stays unread
abbrev pub ReadsOff : Option (List ℕ) → Option (List ℕ) → List ℕ → Type 0
ReadsOff before after bytes = IfSome before (λ left. (rest : List ℕ) × (left ≡ bytes ++ rest) × (after ≡ Some rest))

-- ---- what each call does to the parts that it names

-- the number that a call returns is at most this
abbrev pub AtMost : Result ℕ Failed → ℕ → Type 0
AtMost result n = IfOk result (λ k. k ≤ n)

-- the first n unread bytes are copied to the start of the buffer; if n is 0 and the buffer is not empty, no bytes were left
pub record TakesPrefix (left : List ℕ) (after : Option (List ℕ)) (n : ℕ) (buffer : List ℕ) : Type 0 where
  pub bytes : take n buffer ≡ take n left
  pub within : n ≤ length left
  pub rest : after ≡ Some (drop n left)
  pub end : n ≡ 0 → 0 < length buffer → left ≡ []

-- a read takes a prefix of the unread bytes; a read that fails takes nothing
abbrev pub Reads : Option (List ℕ) → Option (List ℕ) → Result ℕ Failed → List ℕ → Type 0
Reads before after (Ok n) buffer = IfSome before (λ left. TakesPrefix left after n buffer)
Reads before after (Err e) buffer = StaysKnown before after

-- a text grows by all of the bytes, or by a prefix of them if the call fails
abbrev pub Grows : Option (List ℕ) → Option (List ℕ) → Result (Unit {0}) Failed → List ℕ → Type 0
Grows before after (Ok done) text = GrowsBy before after text
Grows before after (Err e) text = GrowsByPrefix before after text

-- if the result is `n`, the first `n` bytes of the chunk are added, at least 1 unless the chunk is empty; a call that fails adds a prefix
abbrev pub Writes : Option (Option NamedFile) → Option (Option NamedFile) → Result ℕ Failed → List ℕ → Type 0
Writes before after (Ok n) chunk = MakingGrowsBy before after (take n chunk) × (0 < length chunk → 0 < n)
Writes before after (Err e) chunk = MakingGrowsByPrefix before after chunk

-- all of the bytes are added to the file being made, or a prefix of them if the call fails
abbrev pub WritesAll : Option (Option NamedFile) → Option (Option NamedFile) → Result (Unit {0}) Failed → List ℕ → Type 0
WritesAll before after (Ok done) bytes = MakingGrowsBy before after bytes
WritesAll before after (Err e) bytes = MakingGrowsByPrefix before after bytes

-- the list of names grows by the name; after a failure it may no longer be known
abbrev pub NamesGrow : Option (List (List ℕ)) → Option (List (List ℕ)) → Result (Unit {0}) Failed → List ℕ → Type 0
NamesGrow before after (Ok done) name = GrowsBy before after (name ∷ [])
NamesGrow before after (Err e) name = OnSome after (GrowsBy before after (name ∷ []))

-- after an open that succeeds, the unread bytes are those of the file with this name
pub record Opens (old new : Meaning) (result : Result (Unit {0}) Failed) (name : List ℕ) : Type 0 where
  pub bytes : OnOk result (IfSome old.files (λ files. (bytes : List ℕ) × (file_named name files ≡ Some bytes) × (new.left ≡ Some bytes)))
  pub known : IsSome old.left → IsSome new.left
  pub names : NamesGrow old.opened new.opened result name

-- after a create, the file being made has this name and no bytes; if the call fails, it may be the one from before
pub record Creates (old new : Meaning) (result : Result (Unit {0}) Failed) (name : List ℕ) : Type 0 where
  pub making : OnOk result ((IsSome old.making ⊎ IsSome old.made) → new.making ≡ Some (Some (name, [])))
  pub failed : OnErr result (OnSome old.making ((new.making ≡ old.making) ⊎ (new.making ≡ Some (Some (name, [])))))
  pub names : NamesGrow old.created new.created result name

-- one file, or none
abbrev pub optional : Option NamedFile → List NamedFile
optional None = []
optional (Some file) = file ∷ []

-- the finished files grow by the one being made, if there is one; a failure changes nothing
abbrev pub Finishes : Meaning → Meaning → Result (Unit {0}) Failed → Type 0
Finishes old new (Ok done) = IfSome old.making (λ making. (new.making ≡ Some None) × IfSome old.made (λ made. new.made ≡ Some (made ++ optional making)))
Finishes old new (Err e) = new ≡ old

-- ---- what stays: each part except those that a call names

abbrev pub KeepsAll : Meaning → Meaning → Type 0
KeepsAll old new = new ≡ old

-- of a read
abbrev pub KeepsAllButLeft : Meaning → Meaning → Type 0
KeepsAllButLeft old new = new ≡ record old { left = new.left }

-- of a write
abbrev pub KeepsAllButMaking : Meaning → Meaning → Type 0
KeepsAllButMaking old new = new ≡ record old { making = new.making }

-- of an open
abbrev pub KeepsAllButOpened : Meaning → Meaning → Type 0
KeepsAllButOpened old new = new ≡ record old { left = new.left; opened = new.opened }

-- of a create
abbrev pub KeepsAllButCreated : Meaning → Meaning → Type 0
KeepsAllButCreated old new = new ≡ record old { making = new.making; created = new.created }

-- of a finish
abbrev pub KeepsAllButMade : Meaning → Meaning → Type 0
KeepsAllButMade old new = new ≡ record old { making = new.making; made = new.made }

-- of a print
abbrev pub KeepsAllButOut : Meaning → Meaning → Type 0
KeepsAllButOut old new = new ≡ record old { out = new.out }

-- of printing an error line
abbrev pub KeepsAllButErr : Meaning → Meaning → Type 0
KeepsAllButErr old new = new ≡ record old { err = new.err }

-- of the calls that make a file: its create, its writes and its finish
abbrev pub KeepsAllButFile : Meaning → Meaning → Type 0
KeepsAllButFile old new = new ≡ record old { making = new.making; made = new.made; created = new.created }

-- ---- calls of one kind alone: everything else stays, and the count of errors of that kind does not fall

-- only the open input is read
abbrev pub OnlyReads : Meaning → Meaning → Faults → Faults → Type 0
OnlyReads old new before after = KeepsAllButLeft old new × KeepsAllButReads before after × (before.reads ≤ after.reads)

-- files are opened and read
abbrev pub OnlyOpens : Meaning → Meaning → Faults → Faults → Type 0
OnlyOpens old new before after = KeepsAllButOpened old new × KeepsAllButReads before after × (before.reads ≤ after.reads)

-- the file being made is written
abbrev pub OnlyWrites : Meaning → Meaning → Faults → Faults → Type 0
OnlyWrites old new before after = KeepsAllButMaking old new × KeepsAllButWrites before after × (before.writes ≤ after.writes)

-- text is printed
abbrev pub OnlyPrints : Meaning → Meaning → Faults → Faults → Type 0
OnlyPrints old new before after = KeepsAllButOut old new × KeepsAllButWrites before after × (before.writes ≤ after.writes)

-- an error line is printed
abbrev pub OnlyPrintsErrors : Meaning → Meaning → Faults → Faults → Type 0
OnlyPrintsErrors old new before after = KeepsAllButErr old new × KeepsAllButComplaints before after × (before.complaints ≤ after.complaints)
