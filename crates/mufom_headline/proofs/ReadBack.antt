-- A later run reads a module from the file that it was written to.
use Rattle.std.proofs.Common.{◌≡◌, ◌+◌, ◌-◌, ◌<◌, ◌≤◌, ℕ, Bool, true, List, [], ◌∷◌, length, Some, sym, ap, subst, ◌∙◌, arith}
use Rattle.std.specs.Prelude.{slice_get}
use Rattle.mufom_records.specs.declared.options.ReadOptions.{ReadOptions}
use Rattle.mufom_numbers.specs.declared.limits.TheConstants.{MOST_FILE_BYTES}
use Rattle.mufom_host.specs.World.{NamedFile, file_named}
use Rattle.mufom_module.specs.declared.module.Parts.{Parts}
use Rattle.mufom_module.specs.Written.{written}
use Rattle.mufom_module.proofs.OneModule.{one_module}
use Rattle.mufom_write.proofs.Stated.{stated}
use Rattle.mufom_judging.specs.Judging.{IsModule}
use Rattle.mufom_groups.specs.Work.{gives}
use Rattle.mufom_task.specs.declared.task.Inputs.{Inputs}
use Rattle.mufom_task.specs.Inputs.{AreModules, ComeTo, accepted, root_count}
use Rattle.mufom_task.specs.Reading.{modules_in}
use Rattle.mufom_works.specs.Works.{IsHeld}
use Rattle.mufom_run_laws.proofs.MadeLaws.{is-read-back}
use Rattle.mufom_headline.specs.ReadBack.{IsReadAt, IsReadBack, WrittenFilesAreReadBack}
use Rattle.mufom_headline.proofs.Places.{IsInPlace, accepted-alone, in-place}

-- the debug part is read; the forms of GNU binutils are accepted or not
abbrev with_debug : Bool → ReadOptions
with_debug gnu = record { debug = true; gnu = gnu }

module _ (m : Parts) (is : (gnu : Bool) → IsModule (with_debug gnu) (written m) m) (few : length (written m) ≤ MOST_FILE_BYTES) where
  only : (gnu : Bool) (n : Parts) → IsModule (with_debug gnu) (written m) n → n ≡ m
  only gnu n other = one_module n m (written m) (with_debug gnu) other (is gnu)

  -- the same for options that do not skip debug parts
  module _ (options : ReadOptions) (debug : options.debug ≡ true) where
    abbrev as_given : Parts → Bool → Type 0
    as_given n b = IsModule (record { debug = b; gnu = options.gnu }) (written m) n

    is-module : IsModule options (written m) m
    is-module = subst (as_given m) (sym debug) (is options.gnu)

    one-only : (n : Parts) → IsModule options (written m) n → n ≡ m
    one-only n other = only options.gnu n (subst (as_given n) debug other)

  place : (files : List NamedFile) (c : Inputs) (ms : List Parts) (k : ℕ) (name : List ℕ) → file_named name files ≡ Some (written m)
      → c.options.debug ≡ true → slice_get c.files k ≡ Some name → modules_in files c (gives ms) → IsReadAt files c ms k name m
  place files c ms k name there debug here ((contents, all), most) =
      let none : root_count c ≡ root_count c - 0 = omega arith in
      let at : IsInPlace files (root_count c) 0 c.files ms k name m
      = in-place c.options (written m) m (is-module c.options debug) (one-only c.options debug) files (root_count c) name there 0 k c.files contents
      ms all.bytes (subst (λ (n : ℕ). AreModules c.options n contents ms) none all.modules) here in
      let same : 0 + k ≡ k = omega arith in
      record {
        place = at.place;
        file = at.file ∙ ap (λ (n : ℕ). Some (record { number = n; name = name })) same;
        read = at.read;
        root = λ less. let within : 0 + k < root_count c = omega (arith, less) in at.root within;
      }

  -- the file alone is accepted
  alone : (files : List NamedFile) (c : Inputs) (name : List ℕ) → file_named name files ≡ Some (written m) → c.options.debug ≡ true
      → c.files ≡ name ∷ [] → modules_in files c (gives (m ∷ []))
  alone files c name there debug names = (
    subst (λ (l : List (List ℕ)). ComeTo c.options (root_count c) files l (accepted (m ∷ []))) (sym names)
        (accepted-alone c.options (written m) m (is-module c.options debug) (one-only c.options debug) (root_count c) files name there few),
    omega arith,
  )

  pub read-back : IsReadBack m
  read-back = record {
    file = λ gnu n. (only gnu n, (λ same. subst (λ (x : Parts). IsModule (with_debug gnu) (written m) x) (sym same) (is gnu)));
    place = place;
    alone = alone;
  }

pub written-files-are-read-back : WrittenFilesAreReadBack
written-files-are-read-back m valid made few = read-back m (stated m valid made few) few

-- the same of a module that the program holds
pub held-read-back : (m : Parts) → IsHeld m → length (written m) ≤ MOST_FILE_BYTES → IsReadBack m
held-read-back m held few = read-back m (is-read-back m held few) few
