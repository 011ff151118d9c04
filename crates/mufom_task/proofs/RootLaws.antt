-- Roots have one module each. A file of a module is not an archive, so it is one module in any place.
use Rattle.std.proofs.Common.{◌≡◌, ℕ, suc, ◌+◌, ◌-◌, ◌≤◌, ◌==◌, Bool, true, false, nat_lt, if◌then◌else◌, List, [], ◌∷◌, ◌++◌, length, take}
use Rattle.std.proofs.Common.{Option, Some, None, unwrap_or, refl, sym, ap, subst, ◌∙◌, inr, arith, lt-ltb, eqb-true}
use Rattle.std.proofs.lemmas.List.{length-append}
use Rattle.mufom_numbers.specs.declared.codes.TheConstants.{MODULE_BEGIN}
use Rattle.mufom_numbers.specs.declared.reason.Reason.TheVariants.{BadHeader}
use Rattle.mufom_host.specs.World.{NamedFile, file_named}
use Rattle.mufom_records.specs.declared.options.ReadOptions.{ReadOptions}
use Rattle.mufom_records.specs.declared.record.Mode.TheVariants as mode
use Rattle.mufom_records.specs.declared.record.Record.{Record}
use Rattle.mufom_records.specs.Fields.{first_of}
use Rattle.mufom_records.specs.Layouts.{IsWholeRecord, SpellsRecord, module_begin, refused}
use Rattle.mufom_module.specs.declared.module.Parts.{Parts}
use Rattle.mufom_module.specs.Grammar.{after_header}
use Rattle.mufom_module.specs.SpelledRecords.{bytes_of}
use Rattle.mufom_judging.specs.Judging.{IsModule}
use Rattle.mufom_archive.specs.Entries.{BeginsArchive, signature}
use Rattle.mufom_task.specs.declared.task.Inputs.{Inputs}
use Rattle.mufom_task.specs.Inputs.{AreModules, ComeTo, HasFileModules, HaveBytes, accepted, files_from, files_of_one, members_if, module_files}
use Rattle.mufom_task.specs.Inputs.{root_count}
use Rattle.mufom_task.proofs.InputLaws.{lt-same}
use Rattle.mufom_task.proofs.NameLaws.{are-as-many, files-many, names-are}

-- each of these contents is the file of the module at its position
abbrev pub AreEach : ReadOptions → List (List ℕ) → List Parts → Type 0
AreEach options [] [] = Unit {0}
AreEach options (bytes ∷ contents) (m ∷ ms) = IsModule options bytes m × AreEach options contents ms
AreEach options [] (_ ∷ _) = ⊥
AreEach options (_ ∷ _) [] = ⊥

-- ---- one root

pub root-module : (options : ReadOptions) (bytes : List ℕ) (ms : List Parts) → HasFileModules options true bytes ms
    → (m : Parts) × (ms ≡ m ∷ []) × IsModule options bytes m
root-module options bytes [] (None, is) = absurd is
root-module options bytes (m ∷ []) (None, is) = (m, refl, is.0)
root-module options bytes (m ∷ n ∷ ms) (None, is) = absurd is
root-module options bytes ms (Some names, is) = absurd is

pub module-root : (options : ReadOptions) (bytes : List ℕ) (m : Parts) → IsModule options bytes m → HasFileModules options true bytes (m ∷ [])
module-root options bytes m is = (None, (is, (let own : length bytes ≤ length bytes = omega arith in own)))

-- ---- the file of a module is not an archive

begins-module : (record_ : Record) (bytes : List ℕ) (next : Option ℕ) → IsWholeRecord mode.Begin record_ bytes next
    → (back : List ℕ) × (bytes ≡ MODULE_BEGIN ∷ back)
begins-module record_ bytes next (x, prefix, back, spelled, rest, same) = by_test (x == MODULE_BEGIN) refl rest where
  by_test : (b : Bool) → (x == MODULE_BEGIN) ≡ b
      → SpellsRecord (if b then module_begin else refused 1 BadHeader) record_ (0 + length prefix) back next → (back : List ℕ) × (bytes ≡ MODULE_BEGIN ∷ back)
  by_test true is _ = (back, same ∙ ap (λ (l : List ℕ). l ++ back) spelled ∙ ap (λ (n : ℕ). n ∷ back) (eqb-true x MODULE_BEGIN is))
  by_test false is wrong = absurd wrong

starts-differ : (bytes more : List ℕ) → bytes ≡ MODULE_BEGIN ∷ more → BeginsArchive bytes → ⊥
starts-differ bytes more is begins =
    let whole : take 8 (MODULE_BEGIN ∷ more) ≡ signature = ap (λ (l : List ℕ). take 8 l) (sym is) ∙ begins in
    let first : Some MODULE_BEGIN ≡ Some 33 = ap (λ (l : List ℕ). first_of l None) whole in
    let same : MODULE_BEGIN ≡ 33 = cc in
    let code : MODULE_BEGIN ≡ 224 = refl in omega (arith, same, code)

pub not-archive : (options : ReadOptions) (bytes : List ℕ) (m : Parts) → IsModule options bytes m → ¬ BeginsArchive bytes
not-archive options bytes m (f, is, _, _, _) begins =
    let first = begins-module f.begin.row f.begin.bytes (first_of (bytes_of (f.descriptor ∷ f.offsets) ++ after_header f) None) is.header.0 in
    starts-differ bytes ((first.0 ++ bytes_of (f.descriptor ∷ f.offsets)) ++ after_header f)
    (is.all ∙ ap (λ (l : List ℕ). (l ++ bytes_of (f.descriptor ∷ f.offsets)) ++ after_header f) first.1) begins

-- the file of a module has one module, whether it is a root or not
pub module-one : (options : ReadOptions) (root : Bool) (bytes : List ℕ) (m : Parts) → IsModule options bytes m → HasFileModules options root bytes (m ∷ [])
module-one options true bytes m is = module-root options bytes m is
module-one options false bytes m is =
    (None, inr (not-archive options bytes m is, (is, (let own : length bytes ≤ length bytes = omega arith in own))))

-- ---- roots alone

pub roots-only : (options : ReadOptions) (roots : ℕ) (contents : List (List ℕ)) (ms : List Parts) → length contents ≤ roots
    → AreModules options roots contents ms → AreEach options contents ms
roots-only options roots [] ms few are = subst (λ (l : List Parts). AreEach options [] l) (sym are) tt
roots-only options roots (bytes ∷ contents) ms few (own, later, same, is, rest) =
    let root : nat_lt 0 roots ≡ true = lt-ltb 0 roots (omega (arith, few)) in
    let one = root-module options bytes own (subst (λ (b : Bool). HasFileModules options b bytes own) root is) in
    let all : ms ≡ one.0 ∷ later = same ∙ ap (λ (l : List Parts). l ++ later) one.1 in
    subst (λ (l : List Parts). AreEach options (bytes ∷ contents) l) (sym all)
    (one.2, roots-only options (roots - 1) contents later (omega (arith, few)) rest)

pub each-modules : (options : ReadOptions) (roots : ℕ) (contents : List (List ℕ)) (ms : List Parts) → AreEach options contents ms
    → AreModules options roots contents ms
each-modules options roots [] [] are = refl
each-modules options roots (bytes ∷ contents) (m ∷ ms) are =
    (m ∷ [], ms, refl, module-one options (nat_lt 0 roots) bytes m are.0, each-modules options (roots - 1) contents ms are.1)
each-modules options roots [] (m ∷ ms) are = absurd are
each-modules options roots (bytes ∷ contents) [] are = absurd are

pub each-length : (options : ReadOptions) (contents : List (List ℕ)) (ms : List Parts) → AreEach options contents ms → length ms ≡ length contents
each-length options [] [] are = refl
each-length options (bytes ∷ contents) (m ∷ ms) are = ap (λ (n : ℕ). suc n) (each-length options contents ms are.1)
each-length options [] (m ∷ ms) are = absurd are
each-length options (bytes ∷ contents) [] are = absurd are

-- ---- as many files as modules

files-length : (options : ReadOptions) (roots left number : ℕ) (files : List NamedFile) (names contents : List (List ℕ)) (ms : List Parts)
    → HaveBytes files names contents → AreModules options left contents ms → left ≡ roots - number
    → length (files_from files roots number names) ≡ length ms
files-length options roots left number files [] [] ms have are rest = sym (ap (λ (l : List Parts). length l) are)
files-length options roots left number files [] (bytes ∷ contents) ms have are rest = absurd cc
files-length options roots left number files (name ∷ names) [] ms have are rest = absurd cc
files-length options roots left number files (name ∷ names) (bytes ∷ contents) ms have (own, later, same, (members, is), more) rest =
    let head : file_named name files ≡ Some bytes = cc in
    let tail : HaveBytes files names contents = cc in
    let root : nat_lt 0 left ≡ nat_lt number roots = lt-same 0 left number roots (λ less. omega (arith, rest, less)) (λ less. omega (arith, rest, less)) in
    let its : members ≡ members_if (nat_lt number roots) (unwrap_or (file_named name files) []) =
    names-are options (nat_lt 0 left) (length bytes) bytes members own is
    ∙ (λ i. members_if (root i) (unwrap_or (sym head i) [])) in
    let one = files-many number name members own (are-as-many options (nat_lt 0 left) (length bytes) bytes members own is) in
    let others = files-length options roots (left - 1) (suc number) files names contents later tail more (omega (arith, rest)) in
    length-append (files_of_one number name (members_if (nat_lt number roots) (unwrap_or (file_named name files) [])))
    (files_from files roots (suc number) names)
    ∙ (λ i. length (files_of_one number name (sym its i)) + others i)
    ∙ ap (λ (n : ℕ). n + length later) one
    ∙ sym (length-append own later) ∙ sym (ap (λ (l : List Parts). length l) same)

-- there are as many files of modules as modules
pub module-files-length : (files : List NamedFile) (inputs : Inputs) (ms : List Parts)
    → ComeTo inputs.options (root_count inputs) files inputs.files (accepted ms) → length (module_files files inputs) ≡ length ms
module-files-length files inputs ms (contents, are) =
    files-length inputs.options (root_count inputs) (root_count inputs) 0 files inputs.files contents ms are.bytes are.modules (omega arith)
