-- Lists of files whose debug parts are skipped.
use Rattle.std.proofs.Common.{◌≡◌, ℕ, Bool, true, false, List, [], ◌∷◌, refl, sym, subst}
use Rattle.mufom_module.specs.declared.module.Parts.{Parts}
use Rattle.mufom_meaning.specs.Joined.{IsJoined}
use Rattle.mufom_meaning.specs.Location.{IsLocation}
use Rattle.mufom_planned.specs.Planned.{IsPlanned}
use Rattle.mufom_debug_laws.specs.Without.{without_debug, all_without_debug, located_without_debug}
use Rattle.mufom_debug_laws.specs.FileLaws.{AreFiles, FilesLoseDebugAlone}
use Rattle.mufom_debug_laws.proofs.Skipped.{debug-parts-may-be-skipped}
use Rattle.mufom_debug_laws.proofs.Links.{link-bare}
use Rattle.mufom_debug_laws.proofs.Located.{location-bare}
use Rattle.mufom_debug_laws.proofs.Planned.{planned-bare}

files-read : (gnu : Bool) (files : List (List ℕ)) (ms : List Parts) → AreFiles (record { debug = true; gnu = gnu }) files ms
    → AreFiles (record { debug = false; gnu = gnu }) files (all_without_debug ms)
files-read gnu [] [] are = tt
files-read gnu [] (m ∷ ms) are = absurd are
files-read gnu (bytes ∷ files) [] are = absurd are
files-read gnu (bytes ∷ files) (m ∷ ms) are = ((debug-parts-may-be-skipped gnu bytes m are.0).0, files-read gnu files ms are.1)

files-only : (gnu : Bool) (files : List (List ℕ)) (ms others : List Parts) → AreFiles (record { debug = true; gnu = gnu }) files ms
    → AreFiles (record { debug = false; gnu = gnu }) files others → others ≡ all_without_debug ms
files-only gnu [] [] [] are also = refl
files-only gnu [] [] (other ∷ others) are also = absurd also
files-only gnu [] (m ∷ ms) others are also = absurd are
files-only gnu (bytes ∷ files) [] others are also = absurd are
files-only gnu (bytes ∷ files) (m ∷ ms) [] are also = absurd also
files-only gnu (bytes ∷ files) (m ∷ ms) (other ∷ others) are also =
    let first = (debug-parts-may-be-skipped gnu bytes m are.0).1 other also.0 in
    let rest = files-only gnu files ms others are.1 also.1 in
    λ i. first i ∷ rest i

pub files-lose-debug-alone : FilesLoseDebugAlone
files-lose-debug-alone gnu files ms are = record {
  read = files-read gnu files ms are;
  only = λ others also. files-only gnu files ms others are also;
  links = λ others M name also is. subst (λ (list : List Parts). IsJoined (without_debug M) list name) (sym (files-only gnu files ms others are also))
      (link-bare M ms name is);
  locations = λ others plan r also is. subst (λ (list : List Parts). IsLocation list plan (located_without_debug r))
      (sym (files-only gnu files ms others are also)) (location-bare ms plan r is);
  plans = λ others plan r also is. subst (λ (list : List Parts). IsPlanned list plan (located_without_debug r))
      (sym (files-only gnu files ms others are also)) (planned-bare ms plan r is);
}
