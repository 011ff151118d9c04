-- What the results of reading a chunk, and of reading a whole file, say of the file.
use Rattle.std.proofs.Common.{◌≡◌, ◌≢◌, ◌↔◌, ◌⊎◌, ℕ, ◌+◌, ◌-◌, ◌<◌, ◌≤◌, ◌∙◌, inl, inr, sym, ap, refl, Bool, true, false, List, [], ◌∷◌, ◌++◌, length}
use Rattle.std.proofs.Common.{take, Option, None, Result, Ok, Err, subst, append_assoc, length-append, arith}
use Rattle.std.proofs.lemmas.List.{take_all}
use Rattle.std.proofs.Math.Seq.{take-append-add, take-append_seam}
use Rattle.mufom_records.specs.declared.options.ReadOptions.{ReadOptions}
use Rattle.mufom_module.specs.declared.module.Parts.{Parts}
use Rattle.mufom_archive.proofs.StepLaws.{take_both}
use Rattle.mufom_read.specs.declared.refusal.ReadStop.{ReadStop}
use Rattle.mufom_read.specs.declared.refusal.ReadStop.TheVariants as read_stop
use Rattle.mufom_read.specs.declared.state.State.{State}
use Rattle.mufom_judging.specs.Judging.{IsModule, IsRefusedAt}
use Rattle.mufom_read.specs.Reader.{Knows, options_of}
use Rattle.mufom_judging.specs.Limited.{IsUnrefused}
use Rattle.mufom_read.proofs.feeding.Feed.{reading-not-refused}
use Rattle.mufom_judging.proofs.judged.Stays.{refusal_goes_on}
use Rattle.mufom_members.specs.declared.content.Content.{Content}
use Rattle.mufom_members.specs.declared.members.Members.{Members}
use Rattle.mufom_members.specs.declared.members.MembersStop.{MembersStop}
use Rattle.mufom_members.specs.declared.members.MembersStop.TheVariants as stop
use Rattle.mufom_members.specs.Contents.{HasFed, HasReadOf, Kind, plain_of}
use Rattle.mufom_members.specs.Files.{IsArchiveVerdict, IsPlainVerdict, IsPrefixVerdict, IsVerdictWithin, Verdict, accepted, bad_archive, past_limit, refused}
use Rattle.mufom_members.specs.Results.{HasModules, StopsBy}
use Rattle.mufom_members.specs.Stops.{stop_by}
use Rattle.mufom_members.proofs.Gathering.{le_or_above}
use Rattle.mufom_members.proofs.Taking.{IsEarlyStop, IsLateStop}

-- a file that goes on, up to the limit
up_to : (room : ℕ) (stream chunk more : List ℕ)
    → take (length stream + room) (stream ++ (chunk ++ more)) ≡ (stream ++ take room chunk) ++ take (room - length chunk) more
up_to room stream chunk more =
    take-append-add stream (chunk ++ more) room ∙ ap (λ l. stream ++ l) (take_both room chunk more)
    ∙ sym (append_assoc stream (take room chunk) (take (room - length chunk) more))

-- an error in the bytes that may be read
pub plain_stop : (options : ReadOptions) (room : ℕ) (stream chunk more fed : List ℕ) (s : ReadStop) (made : MembersStop) → fed ≡ take room chunk
    → made ≡ stop_by s → IsEarlyStop options (stream ++ fed) s
    → StopsBy (IsPlainVerdict options (length stream + room) (stream ++ (chunk ++ more))) made
plain_stop options room stream chunk more fed s made same by is =
    subst (λ (m : MembersStop). StopsBy (IsPlainVerdict options (length stream + room) (stream ++ (chunk ++ more))) m) (sym by)
    (by_stop s (subst (λ l. IsEarlyStop options (stream ++ l) s) same is))
  where
    by_stop : (s : ReadStop) → IsEarlyStop options (stream ++ take room chunk) s
        → StopsBy (IsPlainVerdict options (length stream + room) (stream ++ (chunk ++ more))) (stop_by s)
    by_stop (read_stop.Refused r) is =
        inl (subst (λ l. IsRefusedAt options l r.offset r.reason) (sym (up_to room stream chunk more))
        (refusal_goes_on options (stream ++ take room chunk) (take (room - length chunk) more) r.offset r.reason is.0 is.1))
    by_stop read_stop.NoMemory is = tt

-- no error in the bytes that may be read
pub fed_within : (kind : Kind) (room : ℕ) (stream chunk fed : List ℕ) (new : Content) (whole : Bool) → fed ≡ take room chunk
    → (whole ≡ true) ↔ (length chunk ≤ room) → HasReadOf new (stream ++ fed) → HasFed kind room stream chunk new (Ok whole)
fed_within kind room stream chunk fed new true is within read =
    let few = within.0 refl in (few, subst (λ l. HasReadOf new (stream ++ l)) (is ∙ take_all room chunk few) read)
fed_within kind room stream chunk fed new false is within read = (
  by_size (le_or_above (length chunk) room),
  subst (λ l. HasReadOf new (stream ++ l)) is read,
)
  where
    by_size : (length chunk ≤ room) ⊎ (room + 1 ≤ length chunk) → room < length chunk
    by_size (inl few) = let wrong = within.1 few in absurd (cc)
    by_size (inr many) = omega (arith, many)

-- ---- files that are too long

-- there is no error in the bytes that may be read
pub plain_past : (stream more : List ℕ) (reader : State) → HasReadOf (plain_of reader) stream → 0 < length more
    → IsPlainVerdict (options_of reader) (length stream) (stream ++ more) past_limit
plain_past stream more reader has some = (
  omega (arith, some, length-append stream more),
  subst (λ l. IsUnrefused (options_of reader) l) (sym (take-append_seam stream more)) (λ offset reason wrong.
      reading-not-refused reader stream offset reason (subst (λ (o : Option ReadStop). Knows reader stream o) has.1 has.0.1) wrong),
)

-- ---- results

pub stops_by : (P Q : Verdict → Type 0) → ((v : Verdict) → P v → Q v) → (s : MembersStop) → StopsBy P s → StopsBy Q s
stops_by P Q f (stop.Refused r) is = f (refused r.offset r.reason) is
stops_by P Q f (stop.BadArchive bad) is = f (bad_archive bad.offset) is
stops_by P Q f stop.Limit is = f past_limit is
stops_by P Q f stop.Fault is = tt
stops_by P Q f stop.NoMemory is = tt

pub has_modules : (P Q : Verdict → Type 0) → ((v : Verdict) → P v → Q v) → (r : Result Members MembersStop) → HasModules P r → HasModules Q r
has_modules P Q f (Ok r) is = (is.0, f (accepted is.0 r.modules) is.1, is.2)
has_modules P Q f (Err s) is = stops_by P Q f s is

-- an archive of which only the first bytes may be read
pub archive_past : (options : ReadOptions) (stream more : List ℕ) (s : MembersStop) → 0 < length more → StopsBy (IsPrefixVerdict options stream) s
    → StopsBy (IsVerdictWithin options (length stream) (stream ++ more)) s
archive_past options stream more s some is =
    stops_by (IsPrefixVerdict options stream) (IsVerdictWithin options (length stream) (stream ++ more))
    (λ v it. inr (
      omega (arith, some, length-append stream more),
      subst (λ l. IsPrefixVerdict options l v) (sym (take-append_seam stream more)) it,
    )) s is

pub archive_whole : (options : ReadOptions) (limit : ℕ) (stream : List ℕ) → length stream ≤ limit → (r : Result Members MembersStop)
    → HasModules (IsArchiveVerdict options stream) r → HasModules (IsVerdictWithin options limit stream) r
archive_whole options limit stream few r is =
    has_modules (IsArchiveVerdict options stream) (IsVerdictWithin options limit stream) (λ v it. inl (few, it)) r is

pub plain_late : (options : ReadOptions) (limit : ℕ) (stream : List ℕ) (s : ReadStop) (made : MembersStop) → made ≡ stop_by s → length stream ≤ limit
    → IsLateStop options stream s → StopsBy (IsPlainVerdict options limit stream) made
plain_late options limit stream s made by few is =
    subst (λ (m : MembersStop). StopsBy (IsPlainVerdict options limit stream) m) (sym by) (by_stop s is)
  where
    by_stop : (s : ReadStop) → IsLateStop options stream s → StopsBy (IsPlainVerdict options limit stream) (stop_by s)
    by_stop (read_stop.Refused r) is = inr (few, is.1)
    by_stop read_stop.NoMemory is = tt

pub stop_no_fault : {M : Type 0} (s : ReadStop) (made : MembersStop) → made ≡ stop_by s → ◌≢◌ {A = Result M MembersStop} (Err made) (Err stop.Fault)
stop_no_fault {M} s made by = λ e. by_stop s (let same : made ≡ stop.Fault = cc in sym by ∙ same) where
  by_stop : (s : ReadStop) → stop_by s ≡ stop.Fault → ⊥
  by_stop (read_stop.Refused f) e = let wrong : stop.Refused f ≡ stop.Fault = e in cc
  by_stop read_stop.NoMemory e = let wrong : stop.NoMemory ≡ stop.Fault = e in cc

pub file_of : (options : ReadOptions) (limit : ℕ) (stream : List ℕ) (m : Parts) (ms : List Parts) → ms ≡ m ∷ [] → IsModule options stream m
    → length stream ≤ limit → IsPlainVerdict options limit stream (accepted None ms)
file_of options limit stream m ms same is few = subst (λ l. IsPlainVerdict options limit stream (accepted None l)) (sym same) (is, few)
