-- What reading a file results in, chunk by chunk and from a source.
use Rattle.std.specs.Prelude.{◌≡◌, ℕ, ◌+◌, ◌-◌, ◌<◌, ◌≤◌, Bool, true, false, List, [], ◌++◌, length, take, Option, Some, None, IfSome}
use Rattle.std.specs.Prelude.{Result, Ok, Err}
use Rattle.mufom_records.specs.declared.options.ReadOptions.{ReadOptions}
use Rattle.mufom_host.specs.World.{ReadsOff}
use Rattle.mufom_read.specs.declared.state.State.{State}
use Rattle.mufom_read.specs.Reader.{HasRead, options_of, reader_stop}
use Rattle.mufom_members.specs.declared.archive.Gatherer.{Gatherer}
use Rattle.mufom_members.specs.declared.content.Content.{Content}
use Rattle.mufom_members.specs.declared.content.Content.TheVariants as content
use Rattle.mufom_members.specs.declared.members.Members.{Members}
use Rattle.mufom_members.specs.declared.members.MembersStop.{MembersStop}
use Rattle.mufom_members.specs.Files.{IsPlainVerdict, IsVerdict, IsVerdictWithin, Verdict}
use Rattle.mufom_members.specs.Results.{HasModules, StopsBy}
use Rattle.mufom_members.specs.Reading.{HasGathered}

-- how a file is read: whether it is an archive, and with which options
abbrev pub Kind : Type 0
Kind = Bool × ReadOptions

-- the verdict on a file of this kind
abbrev pub IsVerdictAs : Kind → ℕ → List ℕ → Verdict → Type 0
IsVerdictAs (true, options) limit bytes verdict = IsVerdictWithin options limit bytes verdict
IsVerdictAs (false, options) limit bytes verdict = IsPlainVerdict options limit bytes verdict

abbrev pub kind_of : Content → Kind
kind_of (content.Archive g) = (true, g.gathered.options)
kind_of (content.Plain reader) = (false, options_of reader)

-- The content was read up to the end of this stream. In a file that is not an archive no error was found yet.
abbrev pub HasReadOf : Content → List ℕ → Type 0
HasReadOf (content.Archive g) stream = HasGathered g stream
HasReadOf (content.Plain reader) stream = HasRead reader stream × (reader_stop reader ≡ None)

abbrev pub archive_of : Gatherer → Content
archive_of g = content.Archive g

abbrev pub plain_of : State → Content
plain_of reader = content.Plain reader

-- there is a stream that the content has read, and this many bytes more are at most those that a file may have
abbrev pub HasBegunWith : ℕ → ℕ → Content → Type 0
HasBegunWith limit room c = (stream : List ℕ) × HasReadOf c stream × (length stream + room ≤ limit)

-- The result of reading a chunk of a file, of which `room` bytes may follow the stream: the content has read the chunk too; or it has
-- read the bytes of it that may follow, and there are more; or the stop is the verdict on every file that begins with these bytes.
abbrev pub HasFed : Kind → ℕ → List ℕ → List ℕ → Content → Result Bool MembersStop → Type 0
HasFed kind room stream chunk new (Ok true) = (length chunk ≤ room) × HasReadOf new (stream ++ chunk)
HasFed kind room stream chunk new (Ok false) = (room < length chunk) × HasReadOf new (stream ++ take room chunk)
HasFed kind room stream chunk new (Err s) = (more : List ℕ) → StopsBy (IsVerdictAs kind (length stream + room) (stream ++ (chunk ++ more))) s

-- Of the bytes that were left, the content has read this many after the stream, and there are more.
abbrev pub GoesOn : ℕ → Option (List ℕ) → List ℕ → Content → Type 0
GoesOn room before stream new = (front : List ℕ) × (length front ≡ room) × HasReadOf new (stream ++ front)
    × IfSome before (λ left. (more : List ℕ) × (left ≡ front ++ more) × (0 < length more))

-- The result of one read whose bytes are fed to a content that has read this stream: it has read them too, and there are none only
-- if none were left; or it has read as many as are allowed, and there are more; or the stop is the verdict on the file.
abbrev pub HasReadChunk : Kind → ℕ → Option (List ℕ) → Option (List ℕ) → List ℕ → Content → Result (Option ℕ) MembersStop → Type 0
HasReadChunk kind room before after stream new (Ok None) = GoesOn room before stream new
HasReadChunk kind room before after stream new (Ok (Some n)) = (chunk : List ℕ) × (length chunk ≡ n) × (n ≤ room) × ReadsOff before after chunk
    × HasReadOf new (stream ++ chunk) × (n ≡ 0 → IfSome before (λ left. left ≡ []))
HasReadChunk kind room before after stream new (Err s) = IfSome before (λ left. StopsBy (IsVerdictAs kind (length stream + room) (stream ++ left)) s)

-- The result of reading to the end: the content has read all that was left, in all at most `limit` bytes; or it has read `limit`
-- bytes, and there are more; or the stop is the verdict on the file.
abbrev pub HasReadRest : Kind → ℕ → Option (List ℕ) → Option (List ℕ) → List ℕ → Content → Result (Option ℕ) MembersStop → Type 0
HasReadRest kind limit before after head new (Ok None) = GoesOn (limit - length head) before head new
HasReadRest kind limit before after head new (Ok (Some n)) = (more : List ℕ) × (length (head ++ more) ≡ n) × (n ≤ limit)
    × HasReadOf new (head ++ more) × IfSome before (λ left. (left ≡ more) × (after ≡ Some []))
HasReadRest kind limit before after head new (Err s) = IfSome before (λ left. StopsBy (IsVerdictAs kind limit (head ++ left)) s)

-- The result of reading a whole file is the verdict on it. If it has modules, its length is returned, and nothing is left.
abbrev pub HasReadWhole : List ℕ → Option (List ℕ) → Result Members MembersStop → Type 0
HasReadWhole bytes after (Ok r) = (r.length ≡ length bytes) × (after ≡ Some [])
HasReadWhole bytes after (Err s) = Unit {0}

abbrev pub ReadsFile : ReadOptions → ℕ → List ℕ → Option (List ℕ) → Result Members MembersStop → Type 0
ReadsFile options limit bytes after result = HasModules (IsVerdict options limit bytes) result × HasReadWhole bytes after result

-- What is read from a source is the verdict on the bytes that it had left. All of them were read if they have modules.
abbrev pub ReadsMembers : ReadOptions → ℕ → Option (List ℕ) → Option (List ℕ) → Result Members MembersStop → Type 0
ReadsMembers options limit before after result = IfSome before (λ left. ReadsFile options limit left after result)
