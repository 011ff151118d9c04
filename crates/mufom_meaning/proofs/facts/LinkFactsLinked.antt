-- The link facts about a list with a link are those about the flat list, if the group alone has one descriptor.
use Rattle.std.proofs.Common.{◌≡◌, ℕ, zero, suc, ◌<◌, ◌⊎◌, inl, inr, List, [], ◌∷◌, ◌++◌, Some, refl, sym, ◌∙◌, ap, subst}
use Rattle.std.specs.Prelude.{slice_get}
use Rattle.mufom_module.specs.declared.module.Parts.{Parts}
use Rattle.mufom_meaning.specs.Joined.{HasFirstHeader}
use Rattle.mufom_meaning.specs.Facts.{Descriptor, descriptor, mismatch, duplicate, duplicate_start}
use Rattle.mufom_meaning.specs.Stands.{StandsIn}
use Rattle.mufom_meaning.specs.Staging.{HaveDescriptorOf}
use Rattle.mufom_meaning.specs.StagingLaws.{LinkFactsAgree}
use Rattle.mufom_meaning.proofs.staging.Needs.{same_names}
use Rattle.mufom_meaning.proofs.facts.LinkAgreed.{same_start_count}
use Rattle.mufom_meaning.proofs.facts.LinkFacts.{position_after, get_after, IsRepeated, like_all}

-- a module of the list has the descriptor
abbrev HasDescriptorIn : List Parts → Descriptor → Type 0
HasDescriptorIn ms d = (m : Parts) × StandsIn m ms × (descriptor m ≡ d)

later : (m : Parts) (ms : List Parts) (d : Descriptor) → HasDescriptorIn ms d → HasDescriptorIn (m ∷ ms) d
later m ms d h = (h.0, (suc h.1.0, h.1.1), h.2)

get_either : {A : Type 0} (xs ys : List A) (i : ℕ) (x : A) → slice_get (xs ++ ys) i ≡ Some x → StandsIn x xs ⊎ StandsIn x ys
get_either [] ys i x e = inr (i, e)
get_either (y ∷ xs) ys zero x e = inl (0, e)
get_either (y ∷ xs) ys (suc i) x e = by_case (get_either xs ys i x e) where
  by_case : StandsIn x xs ⊎ StandsIn x ys → StandsIn x (y ∷ xs) ⊎ StandsIn x ys
  by_case (inl at) = inl (suc at.0, at.1)
  by_case (inr at) = inr at

descriptor_there : (M : Parts) (ms : List Parts) → HasFirstHeader M ms → (before after : List Parts) (m : Parts) (i : ℕ)
    → slice_get (before ++ (M ∷ after)) i ≡ Some m
    → HasDescriptorIn (before ++ (ms ++ after)) (descriptor m)
descriptor_there M [] header [] after m i e = absurd header
descriptor_there M (n ∷ rest) header [] after m zero e = let same : M ≡ m = cc in
    (n, (0, refl), sym (λ i. (header.maus i, header.order i)) ∙ ap descriptor same)
descriptor_there M (n ∷ rest) header [] after m (suc i) e = (m, (position_after (n ∷ rest) i, get_after (n ∷ rest) after i ∙ e), refl)
descriptor_there M ms header (b ∷ before) after m zero e = (m, (0, e), refl)
descriptor_there M ms header (b ∷ before) after m (suc i) e = later b (before ++ (ms ++ after)) (descriptor m) (descriptor_there M ms header before after m i e)

descriptor_back : (M : Parts) (ms : List Parts) → HasFirstHeader M ms → HaveDescriptorOf ms ms → (before after : List Parts) (m : Parts) (i : ℕ)
    → slice_get (before ++ (ms ++ after)) i ≡ Some m
    → HasDescriptorIn (before ++ (M ∷ after)) (descriptor m)
descriptor_back M [] header h [] after m i e = absurd header
descriptor_back M (n ∷ rest) header h [] after m i e = by_case (get_either (n ∷ rest) after i m e) where
  by_case : StandsIn m (n ∷ rest) ⊎ StandsIn m after → HasDescriptorIn (M ∷ after) (descriptor m)
  by_case (inl at) = (M, (0, refl), (λ i. (header.maus i, header.order i)) ∙ sym (like_all n (n ∷ rest) h m at.0 at.1))
  by_case (inr at) = (m, (suc at.0, at.1), refl)
descriptor_back M ms header h (b ∷ before) after m zero e = (m, (0, e), refl)
descriptor_back M ms header h (b ∷ before) after m (suc i) e = later b (before ++ (M ∷ after)) (descriptor m) (descriptor_back M ms header h before after m i e)

pub link_facts_agree : LinkFactsAgree
link_facts_agree M ms before after name (mismatch d e) j h = (
  λ f.
      let one = descriptor_there M ms j.header before after f.0 f.2.0 f.2.1 in
      let other = descriptor_there M ms j.header before after f.1 f.3.0 f.3.1 in
      (one.0, other.0, one.1, other.1, one.2 ∙ f.4, other.2 ∙ f.5, f.6),
  λ f.
      let one = descriptor_back M ms j.header h before after f.0 f.2.0 f.2.1 in
      let other = descriptor_back M ms j.header h before after f.1 f.3.0 f.3.1 in
      (one.0, other.0, one.1, other.1, one.2 ∙ f.4, other.2 ∙ f.5, f.6),
)
link_facts_agree M ms before after name (duplicate public) j h =
    let names = same_names M ms name j before after in
    (λ f. subst (λ all. IsRepeated all public) names f, λ f. subst (λ all. IsRepeated all public) (sym names) f)
link_facts_agree M ms before after name duplicate_start j h =
    let starts = same_start_count M ms before after name j in
    (λ f. subst (λ n. 1 < n) starts f, λ f. subst (λ n. 1 < n) (sym starts) f)
