-- What is returned in place of an outer link is the same with a group linked.
use Rattle.std.proofs.Common.{◌≡◌, ℕ, ◌+◌, List, [], ◌∷◌, ◌++◌, length, Option, Some, Bool, true, false, not, ◌&&◌, refl, sym, ◌∙◌, ap, cond, length-append}
use Rattle.std.specs.Prelude.{option_map, option_to_list, find, ◌==◌}
use Rattle.std.proofs.lemmas.Grind.{flat_map-append}
use Rattle.mufom_module.specs.declared.module.Parts.{Parts}
use Rattle.mufom_place.specs.Facts.{◌or_else◌}
use Rattle.mufom_meaning.specs.Flat.{flat_starts}
use Rattle.mufom_meaning.specs.Joined.{IsJoined, HasFirstHeader, HasHeaderOf}
use Rattle.mufom_meaning.specs.Facts.{LinkFact, mismatch, duplicate, descriptor}
use Rattle.mufom_meaning.specs.Staging.{HaveDescriptor, HaveDescriptorOf}
use Rattle.mufom_meaning.specs.LinkAnswer.{same_order, same_descriptor, first_mismatch, first_duplicate}
use Rattle.mufom_meaning.specs.StagingLaws.{LinkAnswersAgree}
use Rattle.mufom_meaning.proofs.facts.Agreed.{starts_group, two_starts-length, same_descriptor-of}
use Rattle.mufom_meaning.proofs.staging.Needs.{same_names}

-- the first of some modules whose descriptor is not that of m
abbrev report : Parts → List Parts → Option LinkFact
report m xs = option_map (λ other. mismatch (descriptor m) (descriptor other)) (find (λ other. not (same_descriptor m other)) xs)

-- modules of the descriptor of one that m does not differ from are passed over
skipped : (m n : Parts) (rest after : List Parts) → HaveDescriptor n rest → same_descriptor m n ≡ true → report m (rest ++ after) ≡ report m after
skipped m n [] after h e = refl
skipped m n (x ∷ rest) after h e =
    let same : same_descriptor m x ≡ true = (λ i. (m.maus == h.0.0 i) && same_order m.order (h.0.1 i)) ∙ e in
    ap (λ b. option_map (λ other. mismatch (descriptor m) (descriptor other))
    (cond (not b) (Some x) (find (λ other. not (same_descriptor m other)) (rest ++ after)))) same
    ∙ skipped m n rest after h.1 e

-- a group with one descriptor is reported as its first module
grouped : (m n : Parts) (rest after : List Parts) → HaveDescriptor n rest → report m (n ∷ (rest ++ after)) ≡ report m (n ∷ after)
grouped m n rest after h = by_case (same_descriptor m n) refl where
  by_case : (b : Bool) → same_descriptor m n ≡ b
      → option_map (λ other. mismatch (descriptor m) (descriptor other)) (cond (not b) (Some n) (find (λ other. not (same_descriptor m other)) (rest ++ after)))
      ≡ option_map (λ other. mismatch (descriptor m) (descriptor other)) (cond (not b) (Some n) (find (λ other. not (same_descriptor m other)) after))
  by_case true e = skipped m n rest after h e
  by_case false e = refl

module _ (M n : Parts) (header : HasHeaderOf M n) where
  as_first : (m : Parts) (after : List Parts) → report m (M ∷ after) ≡ report m (n ∷ after)
  as_first m after =
      let f = λ (other : Parts). mismatch (descriptor m) (descriptor other) in
      let there = find (λ other. not (same_descriptor m other)) after in
      ap (λ t. option_map f (cond (not t) (Some M) there)) tested ∙ both (same_descriptor m n)
    where
      tested : same_descriptor m M ≡ same_descriptor m n
      tested = λ i. (m.maus == header.maus i) && same_order m.order (header.order i)

      both : (b : Bool) → option_map (λ other. mismatch (descriptor m) (descriptor other))
          (cond (not b) (Some M) (find (λ other. not (same_descriptor m other)) after))
          ≡ option_map (λ other. mismatch (descriptor m) (descriptor other)) (cond (not b) (Some n) (find (λ other. not (same_descriptor m other)) after))
      both true = refl
      both false = λ i. Some (mismatch (descriptor m) (header.maus i, header.order i))

  by_first : (after : List Parts) → report M after ≡ report n after
  by_first after = λ i. option_map (λ other. mismatch (header.maus i, header.order i) (descriptor other))
      (find (λ other. not ((header.maus i == other.maus) && same_order (header.order i) other.order)) after)

within : (M n : Parts) (rest : List Parts) → HasHeaderOf M n → HaveDescriptor n rest → (m : Parts) (before after : List Parts)
    → report m (before ++ (M ∷ after)) ≡ report m (before ++ (n ∷ (rest ++ after)))
within M n rest header h m [] after = as_first M n header m after ∙ sym (grouped m n rest after h)
within M n rest header h m (b ∷ before) after = by_case (same_descriptor m b) (within M n rest header h m before after) where
  by_case : (t : Bool) → report m (before ++ (M ∷ after)) ≡ report m (before ++ (n ∷ (rest ++ after)))
      → option_map (λ other. mismatch (descriptor m) (descriptor other))
      (cond (not t) (Some b) (find (λ other. not (same_descriptor m other)) (before ++ (M ∷ after))))
      ≡ option_map (λ other. mismatch (descriptor m) (descriptor other))
      (cond (not t) (Some b) (find (λ other. not (same_descriptor m other)) (before ++ (n ∷ (rest ++ after)))))
  by_case true e = e
  by_case false e = refl

same_mismatch : (M : Parts) (ms before after : List Parts) → HasFirstHeader M ms → HaveDescriptorOf ms ms
    → first_mismatch (before ++ (M ∷ after)) ≡ first_mismatch (before ++ (ms ++ after))
same_mismatch M [] before after header h = absurd header
same_mismatch M (n ∷ rest) [] after header h =
    by_first M n header after ∙ sym (skipped n n rest after h.1 (same_descriptor-of n n n (refl, refl) (refl, refl)))
same_mismatch M (n ∷ rest) (b ∷ before) after header h = within M n rest header h.1 b before after

pub same_start_count : (M : Parts) (ms before after : List Parts) (name : List ℕ) → IsJoined M ms name
    → length (flat_starts (before ++ (M ∷ after))) ≡ length (flat_starts (before ++ (ms ++ after)))
same_start_count M ms before after name j =
    let own : length (option_to_list M.start) ≡ length (flat_starts ms) = ap length j.start ∙ starts_group ms 0 0 0 ms in
    ap length (flat_map-append _ before (M ∷ after)) ∙ length-append (flat_starts before) _
    ∙ ap (λ n. length (flat_starts before) + n) (length-append (option_to_list M.start) (flat_starts after))
    ∙ ap (λ n. length (flat_starts before) + (n + length (flat_starts after))) own
    ∙ ap (λ n. length (flat_starts before) + n) (sym (length-append (flat_starts ms) (flat_starts after)) ∙ ap length (sym (flat_map-append _ ms after)))
    ∙ sym (length-append (flat_starts before) _) ∙ ap length (sym (flat_map-append _ before (ms ++ after)))

pub link_answers_agree : LinkAnswersAgree
link_answers_agree M ms before after name j h =
    let a = same_mismatch M ms before after j.header h in let b = same_names M ms name j before after in
    let c = two_starts-length (flat_starts (before ++ (M ∷ after))) (flat_starts (before ++ (ms ++ after))) (same_start_count M ms before after name j) in
    λ i. a i or_else (option_map duplicate (first_duplicate [] (b i)) or_else c i)
