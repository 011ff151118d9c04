-- What it means that nothing is returned in place of a link.
use Rattle.std.proofs.Common.{◌≡◌, ◌≢◌, ℕ, zero, suc, ◌<◌, ◌≤◌, ◌⊎◌, inl, inr, List, [], ◌∷◌, length, Option, Some, None, Bool, true, false, refl, ap}
use Rattle.std.proofs.Common.{arith, rules}
use Rattle.std.specs.Prelude.{◌==◌}
use Rattle.mufom_module.specs.declared.module.Order.{Order}
use Rattle.mufom_module.specs.declared.module.Order.TheVariants.{Least, Most}
use Rattle.mufom_module.specs.declared.module.Parts.{Parts}
use Rattle.mufom_meaning.specs.Flat.{flat_starts}
use Rattle.mufom_meaning.specs.Facts.{Descriptor, descriptor, LinkFact, mismatch, duplicate, duplicate_start}
use Rattle.mufom_meaning.specs.LinkAnswer.{link_answer}
use Rattle.mufom_meaning.specs.Stands.{StandsIn, LinkFactStands}
use Rattle.mufom_meaning.specs.Staging.{HaveDescriptor, HaveDescriptorOf}
use Rattle.mufom_meaning.specs.FactLaws.{IsLinkable, NoLinkAnswerIsLinkable}
use Rattle.mufom_meaning.proofs.facts.Answers.{link_sound, link_complete}
use Rattle.mufom_meaning.proofs.facts.LinkFacts.{one_descriptor}

order_decided : (o p : Order) → (o ≡ p) ⊎ (o ≢ p)
order_decided Least Least = inl refl
order_decided Most Most = inl refl
order_decided Least Most = inr (λ e. cc)
order_decided Most Least = inr (λ e. cc)

number_decided : (m n : ℕ) → (m ≡ n) ⊎ (m ≢ n)
number_decided m n = by_case (m == n) refl where
  by_case : (b : Bool) → (m == n) ≡ b → (m ≡ n) ⊎ (m ≢ n)
  by_case true e = inl (search rules)
  by_case false e = inr (λ same. let there : (m == n) ≡ true = search rules in cc)

descriptor_decided : (d e : Descriptor) → (d ≡ e) ⊎ (d ≢ e)
descriptor_decided d e = by_case (number_decided d.0 e.0) (order_decided d.1 e.1) where
  by_case : (d.0 ≡ e.0) ⊎ (d.0 ≢ e.0) → (d.1 ≡ e.1) ⊎ (d.1 ≢ e.1) → (d ≡ e) ⊎ (d ≢ e)
  by_case (inl p) (inl q) = inl (λ i. (p i, q i))
  by_case (inr p) q = inr (λ same. p (ap (λ (x : Descriptor). x.0) same))
  by_case (inl p) (inr q) = inr (λ same. q (ap (λ (x : Descriptor). x.1) same))

-- modules that differ in nothing from one have its descriptor
all_like : (m : Parts) (all : List Parts) → ((n : Parts) → StandsIn n all → descriptor n ≡ descriptor m) → HaveDescriptor m all
all_like m [] f = tt
all_like m (n ∷ more) f =
    let same = f n (0, refl) in
    ((ap (λ (d : Descriptor). d.0) same, ap (λ (d : Descriptor). d.1) same), all_like m more (λ x at. f x (suc at.0, at.1)))

first_descriptor : (ms : List Parts) → HaveDescriptorOf ms ms → (d e : Descriptor) → ¬ LinkFactStands ms (mismatch d e)
first_descriptor [] h d e f = absurd (let at = f.2.1 in cc)
first_descriptor (m ∷ ms) h d e f = one_descriptor m (m ∷ ms) h d e f

descriptor_of_all : (ms : List Parts) → ((d e : Descriptor) → ¬ LinkFactStands ms (mismatch d e)) → HaveDescriptorOf ms ms
descriptor_of_all [] f = tt
descriptor_of_all (m ∷ ms) f = all_like m (m ∷ ms) (λ n at. by_case n at (descriptor_decided (descriptor n) (descriptor m))) where
  by_case : (n : Parts) → StandsIn n (m ∷ ms) → (descriptor n ≡ descriptor m) ⊎ (descriptor n ≢ descriptor m) → descriptor n ≡ descriptor m
  by_case n at (inl same) = same
  by_case n at (inr differ) = absurd (f (descriptor n) (descriptor m) (n, m, at, (0, refl), refl, refl, differ))

at_most_one : (n : ℕ) → ¬ (1 < n) → n ≤ 1
at_most_one zero h = omega arith
at_most_one (suc zero) h = omega arith
at_most_one (suc (suc n)) h = absurd (h (omega arith))

linkable : (ms : List Parts) → link_answer ms ≡ None → IsLinkable ms
linkable ms e = record {
  descriptor = descriptor_of_all ms (λ d f. link_complete ms e (mismatch d f));
  names = λ k r. link_complete ms e (duplicate r.1) (k, r.4, r);
  starts = at_most_one (length (flat_starts ms)) (link_complete ms e duplicate_start);
}

refuted : (ms : List Parts) → IsLinkable ms → (fact : LinkFact) → ¬ LinkFactStands ms fact
refuted ms h (mismatch d e) f = first_descriptor ms h.descriptor d e f
refuted ms h (duplicate name) f = h.names f.0 f.2
refuted ms h duplicate_start f = let most = h.starts in omega (arith, f, most)

unanswered : (ms : List Parts) → IsLinkable ms → link_answer ms ≡ None
unanswered ms h = by_case (link_answer ms) refl where
  by_case : (o : Option LinkFact) → link_answer ms ≡ o → link_answer ms ≡ None
  by_case None e = e
  by_case (Some fact) e = absurd (refuted ms h fact (link_sound ms fact e))

pub no_link_answer_is_linkable : NoLinkAnswerIsLinkable
no_link_answer_is_linkable ms = (linkable ms, unanswered ms)
