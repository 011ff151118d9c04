-- The files that are made stand for what they were made of.
use Rattle.std.proofs.Common.{◌≤◌, Bool, true, length, unwrap_or}
use Rattle.mufom_numbers.specs.declared.limits.TheConstants.{MOST_FILE_BYTES}
use Rattle.mufom_module.specs.declared.module.Parts.{Parts}
use Rattle.mufom_module.specs.Written.{written}
use Rattle.mufom_write.proofs.Stated.{stated}
use Rattle.mufom_judging.specs.Judging.{IsModule}
use Rattle.mufom_meaning.specs.Absolute.{absolute_of}
use Rattle.mufom_planned.proofs.Absolute.{planned_located_as_itself}
use Rattle.mufom_meaning.proofs.staging.Staging.{joined_stands_for}
use Rattle.mufom_groups.specs.Linked.{first_name}
use Rattle.mufom_works.specs.Works.{IsHeld}
use Rattle.mufom_run_laws.specs.RunLaws.{AbsoluteFilesStand, LinkedFilesStand}
use Rattle.mufom_works.proofs.EndLaws.{location-of}
use Rattle.mufom_works.proofs.KeptLaws.{kept-valid}

-- the file of a module that is held is the file of that module
pub is-read-back : (m : Parts) → IsHeld m → length (written m) ≤ MOST_FILE_BYTES → (gnu : Bool)
    → IsModule (record { debug = true; gnu = gnu }) (written m) m
is-read-back m held few gnu = stated m held.valid held.made few gnu

pub linked-files-stand : LinkedFilesStand
linked-files-stand name out flat output valid (M, joined, (held, is)) = record {
  link = M;
  bytes = is;
  joined = joined;
  stands = (joined_stands_for M flat (unwrap_or name (first_name flat)) joined valid).0;
  read_back = is-read-back M held;
}

pub absolute-files-stand : AbsoluteFilesStand
absolute-files-stand keep out names origins plan flat output symbols valid (kept, is_kept, (r, is_located, (held, is))) =
    let there = location-of plan kept.modules r is_located in
    record {
      location = r;
      bytes = is;
      kept = kept;
      keeps = is_kept;
      located = there;
      itself = planned_located_as_itself kept.modules plan r (kept-valid keep flat kept valid is_kept) symbols there;
      read_back = is-read-back (absolute_of r) held;
    }
