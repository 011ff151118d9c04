-- `build` makes the file of the module of a listing.
use Rattle.std.proofs.Common.{◌≡◌, ◌≤◌, ℕ, List, [], ◌∷◌, length, Some, refl}
use Rattle.mufom_numbers.specs.declared.limits.TheConstants.{MOST_FILE_BYTES}
use Rattle.mufom_host.specs.World.{NamedFile, file_named}
use Rattle.mufom_module.specs.declared.module.Parts.{Parts}
use Rattle.mufom_module.specs.Written.{written}
use Rattle.mufom_text.specs.Show.{listing_text}
use Rattle.mufom_text.proofs.FewMarks.{few_marks}
use Rattle.mufom_build.specs.Lines.{Build}
use Rattle.mufom_build.proofs.PrintedLines.{listing_builds}
use Rattle.mufom_groups.specs.Work.{gives}
use Rattle.mufom_task.specs.declared.task.Inputs.{Inputs}
use Rattle.mufom_task.specs.declared.task.Task.TheVariants as task
use Rattle.mufom_works.specs.Works.{IsHeld, made, work_of}
use Rattle.mufom_headline.specs.Texts.{IsBuilt, ListingsAreBuilt}
use Rattle.mufom_headline.proofs.ReadBack.{held-read-back}
use Rattle.mufom_headline.proofs.Texts.{makes, text-read}

module _ (text : List ℕ) (m : Parts) (is : Build text m) (short : length text ≤ MOST_FILE_BYTES) where
  held : IsHeld m
  held = record { valid = is.valid; made = is.made }

  module-built : (files : List NamedFile) (c : Inputs) (name out : List ℕ) → c.files ≡ name ∷ [] → file_named name files ≡ Some text
      → work_of (task.Build c out) files (gives (made out (written m)))
  module-built files c name out alone there = (text, text-read files c name text short alone there, (m, is, (held, refl)))

  is-built : IsBuilt text m
  is-built = record {
    module_file = λ files inputs name out alone there.
        makes files (task.Build inputs out) out (written m) (module-built files inputs name out alone there);
    read_back = held-read-back m held;
  }

pub listings-are-built : ListingsAreBuilt
listings-are-built = record {
  texts = is-built;
  listings = λ m valid made short. is-built (listing_text m) m (listing_builds m made valid (few_marks m valid)) short;
}
