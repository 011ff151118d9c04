-- One file that was read: its modules, or why there are none.
use Rattle.std.proofs.Common.{◌≡◌, ℕ, ◌≤◌, true, false, List, [], ◌∷◌, length}
use Rattle.std.proofs.Common.{Option, Some, None, IfSome, Ok, Err, refl, sym, subst, inl, inr, arith}
use Rattle.mufom_records.specs.declared.options.ReadOptions.{ReadOptions}
use Rattle.mufom_host.specs.World.{Faults, InputFails, NamedFile, file_named}
use Rattle.mufom_host.proofs.Composing.{later-InputFails}
use Rattle.mufom_module.specs.declared.module.Parts.{Parts}
use Rattle.mufom_numbers.specs.declared.reason.Reason.TheVariants as why
use Rattle.mufom_source.specs.declared.source.SourceStop.{SourceStop}
use Rattle.mufom_source.specs.declared.source.SourceStop.TheVariants as source
use Rattle.mufom_judging.specs.Judging.{IsModule}
use Rattle.mufom_judging.specs.Limited.{IsPastLimit, IsRefusedWithin}
use Rattle.mufom_source.specs.Source.{ReadsModule}
use Rattle.mufom_members.specs.declared.members.Members.{Members}
use Rattle.mufom_members.specs.declared.members.MembersStop.{MembersStop}
use Rattle.mufom_members.specs.declared.members.MembersStop.TheVariants as members_stop
use Rattle.mufom_members.specs.Contents.{ReadsFile, ReadsMembers}
use Rattle.mufom_task.specs.Inputs.{IsFilePast, IsFileRefused}
use Rattle.mufom_task.specs.FilesRead.{FileHas, FileStops, HasFile, outcome_of_members_stop, outcome_of_source_stop}
use Rattle.mufom_task.proofs.FileLaws.{verdict-fits, verdict-within}

-- ---- what was left is what the file has

file-left : (name : List ℕ) (P Q : List ℕ → Type 0) (files : Option (List NamedFile)) (left : Option (List ℕ))
    → IfSome files (λ fs. (all : List ℕ) × (file_named name fs ≡ Some all) × (left ≡ Some all)) → IfSome left P
    → ((bytes : List ℕ) → P bytes → Q bytes) → FileHas name files Q
file-left name P Q None left opened holds gives = tt
file-left name P Q (Some fs) left (all, there, is) holds gives = (all, there, gives all (subst (λ (o : Option (List ℕ)). IfSome o P) is holds))

module _ (options : ReadOptions) (name : List ℕ) (number limit : ℕ) (files : Option (List NamedFile)) (left after : Option (List ℕ))
    (opened : IfSome files (λ fs. (all : List ℕ) × (file_named name fs ≡ Some all) × (left ≡ Some all))) where
  -- ---- a root

  pub root-read : (m : Parts) (count : ℕ) (read : Members) → ReadsModule options limit left after (Ok (m, count))
      → read ≡ record { modules = m ∷ []; length = count; listing = None } → FileHas name files (HasFile options true limit read)
  root-read m count read reads is = subst (λ (r : Members). FileHas name files (HasFile options true limit r)) (sym is)
      (file-left name (λ bytes. IsModule options bytes m × (count ≡ length bytes) × (length bytes ≤ limit) × (after ≡ Some []))
      (HasFile options true limit (record { modules = m ∷ []; length = count; listing = None })) files left opened reads (λ bytes h. (
        None,
        (h.0, (let own : length bytes ≤ length bytes = omega arith in own)),
        refl,
        h.1,
        h.2,
      )))

  pub root-stops : (before between now : Faults) (s : SourceStop) → ReadsModule options limit left after (Err s)
      → (s ≡ source.Fault → InputFails between now) → before.reads ≤ between.reads
      → FileStops options true name number limit files before now (outcome_of_source_stop number s)
  root-stops before between now (source.Refused r) reads cause later = (
    refl,
    file-left name (λ bytes. IsRefusedWithin options limit bytes r.offset r.reason)
        (λ bytes. IsFileRefused options true limit bytes r) files left opened reads (λ bytes h. inl h),
  )
  root-stops before between now source.Limit reads cause later = (
    refl,
    file-left name (λ bytes. IsPastLimit options limit bytes) (λ bytes. IsFilePast options true limit bytes) files left opened reads (λ bytes h. h),
  )
  root-stops before between now source.Fault reads cause later = (refl, later-InputFails before between now later (cause refl))
  root-stops before between now source.NoMemory reads cause later = tt

  -- ---- a file of members

  pub members-read : (read : Members) → ReadsMembers options limit left after (Ok read) → FileHas name files (HasFile options false limit read)
  members-read read reads =
      file-left name (λ bytes. ReadsFile options limit bytes after (Ok read)) (HasFile options false limit read) files left opened reads
      (λ bytes h. (
        h.0.0,
        verdict-within options false limit (length bytes) bytes h.0.0 read.modules h.0.1 (let own : length bytes ≤ length bytes = omega arith in own),
        h.0.2,
        h.1.0,
        verdict-fits options false limit bytes h.0.0 read.modules h.0.1,
      ))

  pub members-stop : (before between now : Faults) (s : MembersStop) → ReadsMembers options limit left after (Err s)
      → (s ≡ members_stop.Fault → InputFails between now) → before.reads ≤ between.reads
      → FileStops options false name number limit files before now (outcome_of_members_stop number s)
  members-stop before between now (members_stop.Refused r) reads cause later = (
    refl,
    file-left name (λ bytes. ReadsFile options limit bytes after (Err (members_stop.Refused r)))
        (λ bytes. IsFileRefused options false limit bytes r) files left opened reads (λ bytes h. inl h.0),
  )
  members-stop before between now (members_stop.BadArchive bad) reads cause later = (
    refl,
    file-left name (λ bytes. ReadsFile options limit bytes after (Err (members_stop.BadArchive bad)))
        (λ bytes. IsFileRefused options false limit bytes (record { offset = bad.offset; reason = why.BadArchive })) files left opened reads
        (λ bytes h. inr (refl, h.0)),
  )
  members-stop before between now members_stop.Limit reads cause later = (
    refl,
    file-left name (λ bytes. ReadsFile options limit bytes after (Err members_stop.Limit)) (λ bytes. IsFilePast options false limit bytes) files left
        opened reads (λ bytes h. h.0),
  )
  members-stop before between now members_stop.Fault reads cause later = (refl, later-InputFails before between now later (cause refl))
  members-stop before between now members_stop.NoMemory reads cause later = tt
