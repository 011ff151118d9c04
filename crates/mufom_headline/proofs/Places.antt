-- The places of files among the modules that are read: a file of a written module has one module, in its place.
use Rattle.std.proofs.Common.{◌≡◌, ℕ, zero, suc, ◌+◌, ◌-◌, ◌<◌, ◌≤◌, Bool, true, false, nat_lt, List, [], ◌∷◌, ◌++◌, length, Option, Some}
use Rattle.std.proofs.Common.{None, unwrap_or, refl, sym, ap, subst, ◌∙◌, inl, inr, arith, lt-ltb}
use Rattle.std.specs.Prelude.{slice_get}
use Rattle.std.proofs.lemmas.List.Sums.{sum_by-cons}
use Rattle.mufom_numbers.specs.declared.limits.TheConstants.{MOST_FILE_BYTES}
use Rattle.mufom_records.specs.declared.options.ReadOptions.{ReadOptions}
use Rattle.mufom_host.specs.World.{NamedFile, file_named}
use Rattle.mufom_module.specs.declared.module.Parts.{Parts}
use Rattle.mufom_judging.specs.Judging.{IsModule}
use Rattle.mufom_task.specs.Inputs.{AreAccepted, AreModules, ComeTo, HasFileModules, HaveBytes, accepted, files_from, files_of_one, members_if}
use Rattle.mufom_task.proofs.InputLaws.{lt-same}
use Rattle.mufom_task.proofs.NameLaws.{are-as-many, files-many, names-are}
use Rattle.mufom_task.proofs.RootLaws.{module-one, not-archive, root-module}

-- an element after other elements
pub get-after : {A : Type 0} (xs ys : List A) (n : ℕ) → slice_get (xs ++ ys) (length xs + n) ≡ slice_get ys n
get-after [] ys n = let same : 0 + n ≡ n = omega arith in ap (λ (k : ℕ). slice_get ys k) same
get-after (x ∷ xs) ys n =
    let next : length (x ∷ xs) + n ≡ suc (length xs + n) = omega arith in
    ap (λ (k : ℕ). slice_get (x ∷ (xs ++ ys)) k) next ∙ get-after xs ys n

-- The module is in the place of the file with this position. The first of the files has this number.
pub record IsInPlace (files : List NamedFile) (roots number : ℕ) (names : List (List ℕ)) (ms : List Parts) (k : ℕ) (name : List ℕ) (m : Parts)
    : Type 0 where
  pub place : ℕ
  pub file : slice_get (files_from files roots number names) place ≡ Some (record { number = number + k; name = name })
  pub read : slice_get ms place ≡ Some m
  pub root : number + k < roots → place ≡ k

module _ (options : ReadOptions) (content : List ℕ) (m : Parts) (is : IsModule options content m)
    (only : (n : Parts) → IsModule options content n → n ≡ m) where
  -- these contents are a file of this one module
  own-one : (root : Bool) (own : List Parts) → HasFileModules options root content own → own ≡ m ∷ []
  own-one true own has =
      let (n, same, is_one) = root-module options content own has in same ∙ ap (λ (x : Parts). x ∷ []) (only n is_one)
  own-one false own (names, inl archive) = absurd (not-archive options content m is archive.0)
  own-one false own (names, inr plain) =
      let (n, same, is_one) = root-module options content own (names, plain.1) in same ∙ ap (λ (x : Parts). x ∷ []) (only n is_one)

  -- it has no names of members
  no-members : (root : Bool) → None ≡ members_if root content
  no-members true = refl
  no-members false =
      let whole : length content ≤ length content = omega arith in
      names-are options false (length content) content None (m ∷ []) (inr (not-archive options content m is, (is, whole)))

  -- a file alone with these contents is accepted, if they are not too long
  pub accepted-alone : (roots : ℕ) (files : List NamedFile) (name : List ℕ) → file_named name files ≡ Some content → length content ≤ MOST_FILE_BYTES
      → ComeTo options roots files (name ∷ []) (accepted (m ∷ []))
  accepted-alone roots files name there few = (content ∷ [], all) where
    all : AreAccepted options roots files (name ∷ []) (content ∷ []) (m ∷ [])
    all = record {
      bytes = ap (λ (o : Option (List ℕ)). o ∷ []) there;
      modules = (m ∷ [], [], refl, module-one options (nat_lt 0 roots) content m is, refl);
      within = let total = sum_by-cons length content [] in omega (arith, few, total);
    }

  module _ (files : List NamedFile) (roots : ℕ) (name : List ℕ) (there : file_named name files ≡ Some content) where
    -- the file is the first of these
    here-first : (number : ℕ) (first : List ℕ) (names : List (List ℕ)) (bytes : List ℕ) (ms own later : List Parts) → first ≡ name
        → file_named first files ≡ Some bytes → ms ≡ own ++ later → HasFileModules options (nat_lt 0 (roots - number)) bytes own
        → IsInPlace files roots number (first ∷ names) ms 0 name m
    here-first number first names bytes ms own later same found split has =
        let both : Some content ≡ Some bytes = sym there ∙ (ap (λ (l : List ℕ). file_named l files) (sym same) ∙ found) in
        let its : bytes ≡ content = cc in
        let one : own ≡ m ∷ [] = own-one (nat_lt 0 (roots - number)) own
        (subst (λ (l : List ℕ). HasFileModules options (nat_lt 0 (roots - number)) l own) its has) in
        let given : Some content ≡ file_named first files = both ∙ sym found in
        let members : None ≡ members_if (nat_lt number roots) (unwrap_or (file_named first files) [])
        = no-members (nat_lt number roots) ∙ ap (λ (o : Option (List ℕ)). members_if (nat_lt number roots) (unwrap_or o [])) given in
        let at : number ≡ number + 0 = omega arith in
        record {
          place = 0;
          file = ap (λ (o : Option (List (List ℕ))). slice_get (files_of_one number first o ++ files_from files roots (suc number) names) 0)
              (sym members) ∙ (λ i. Some (record { number = at i; name = same i }));
          read = ap (λ (l : List Parts). slice_get l 0) split ∙ ap (λ (l : List Parts). slice_get (l ++ later) 0) one;
          root = λ less. refl;
        }

    -- the file is after the first of these
    after-first : (number k : ℕ) (first : List ℕ) (names : List (List ℕ)) (bytes : List ℕ) (ms own later : List Parts)
        → file_named first files ≡ Some bytes → ms ≡ own ++ later → HasFileModules options (nat_lt 0 (roots - number)) bytes own
        → IsInPlace files roots (suc number) names later k name m → IsInPlace files roots number (first ∷ names) ms (suc k) name m
    after-first number k first names bytes ms own later found split (names_own, is_own) after =
        let root : nat_lt 0 (roots - number) ≡ nat_lt number roots
        = lt-same 0 (roots - number) number roots (λ less. omega (arith, less)) (λ less. omega (arith, less)) in
        let its : names_own ≡ members_if (nat_lt number roots) (unwrap_or (file_named first files) [])
        = names-are options (nat_lt 0 (roots - number)) (length bytes) bytes names_own own is_own
        ∙ (λ i. members_if (root i) (unwrap_or (sym found i) [])) in
        let count : length (files_of_one number first (members_if (nat_lt number roots) (unwrap_or (file_named first files) []))) ≡ length own
        = ap (λ (o : Option (List (List ℕ))). length (files_of_one number first o)) (sym its)
        ∙ files-many number first names_own own (are-as-many options (nat_lt 0 (roots - number)) (length bytes) bytes names_own own is_own) in
        let next : suc number + k ≡ number + suc k = omega arith in
        record {
          place = length own + after.place;
          file = ap (λ (n : ℕ). slice_get (files_of_one number first (members_if (nat_lt number roots) (unwrap_or (file_named first files) []))
              ++ files_from files roots (suc number) names) (n + after.place)) (sym count)
              ∙ get-after (files_of_one number first (members_if (nat_lt number roots) (unwrap_or (file_named first files) [])))
              (files_from files roots (suc number) names) after.place
              ∙ after.file ∙ (λ i. Some (record { number = next i; name = name }));
          read = ap (λ (l : List Parts). slice_get l (length own + after.place)) split ∙ get-after own later after.place ∙ after.read;
          root = λ less.
              let first_root : nat_lt 0 (roots - number) ≡ true = lt-ltb 0 (roots - number) (omega (arith, less)) in
              let has : HasFileModules options (nat_lt 0 (roots - number)) bytes own = (names_own, is_own) in
              let (n, same, is_one) = root-module options bytes own (subst (λ (b : Bool). HasFileModules options b bytes own) first_root has) in
              let one : length own ≡ 1 = ap (λ (l : List Parts). length l) same in
              let before : suc number + k < roots = omega (arith, less) in
              let rest = after.root before in
              omega (arith, one, rest);
        }

    pub in-place : (number k : ℕ) (names contents : List (List ℕ)) (ms : List Parts) → HaveBytes files names contents
        → AreModules options (roots - number) contents ms → slice_get names k ≡ Some name → IsInPlace files roots number names ms k name m
    in-place number k [] contents ms have are here = absurd cc
    in-place number k (first ∷ names) [] ms have are here = absurd cc
    in-place number zero (first ∷ names) (bytes ∷ contents) ms have (own, later, split, has, rest) here =
        let same : first ≡ name = cc in
        let found : file_named first files ≡ Some bytes = cc in
        here-first number first names bytes ms own later same found split has
    in-place number (suc k) (first ∷ names) (bytes ∷ contents) ms have (own, later, split, has, rest) here =
        let found : file_named first files ≡ Some bytes = cc in
        let more : HaveBytes files names contents = cc in
        let left : roots - number - 1 ≡ roots - suc number = omega arith in
        after-first number k first names bytes ms own later found split has
        (in-place (suc number) k names contents later more (subst (λ (n : ℕ). AreModules options n contents later) left rest) here)
