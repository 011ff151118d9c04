-- Where two lists have the same names, sections, needs and counts, and what one walk meets has its like in the other, the
-- facts about the one list are facts about the other.
use Rattle.std.proofs.Common.{◌≡◌, ℕ, ◌<◌, ◌⊎◌, inl, inr, List, Bool, map, length, sym, ◌∙◌, ap, subst}
use Rattle.mufom_module.specs.declared.module.Parts.{Parts}
use Rattle.mufom_plan.specs.declared.plan.Plan.{Plan}
use Rattle.mufom_plan.specs.Names.{has_name}
use Rattle.mufom_place.specs.Facts.{Stands}
use Rattle.mufom_meaning.specs.Bases.{Bases, no_bases}
use Rattle.mufom_meaning.specs.Flat.{width, flat_sections, flat_starts, flat_publics, public_names, first_named, needs, commons}
use Rattle.mufom_meaning.specs.Values.{setting}
use Rattle.mufom_meaning.specs.Placed.{placed_commons, planned_bases}
use Rattle.mufom_meaning.specs.Cycles.{leads_from}
use Rattle.mufom_meaning.specs.Counts.{loaded_total}
use Rattle.mufom_meaning.specs.Facts.{Descriptor, LinkFact, mismatch, duplicate, duplicate_start, LocateFact, placement, undefined, common_unplaced}
use Rattle.mufom_meaning.specs.Facts.{cycle, image_limit, zero_divisor, load_outside, loaded_twice, overflow}
use Rattle.mufom_meaning.specs.Stands.{StandsIn, LinkFactStands, StandsBeforeWalk, StandsInWalk, LocateFactStands}
use Rattle.mufom_meaning.proofs.facts.LinkFacts.{IsRepeated}
use Rattle.mufom_meaning.proofs.Placed.{same_placed_commons, same_planned}
use Rattle.mufom_meaning.proofs.facts.SameWalk.{Follows, walk_fact_like}

-- a chain of at most k mentions leads from the public of this name back to it
abbrev pub comes_back : List Parts → ℕ → List ℕ → Bool
comes_back ms k name = leads_from (setting ms no_bases) k name (first_named (flat_publics ms) name)

-- what the facts that need no walk go by is the same, and neither list has two descriptors
pub record Alike (ms ns : List Parts) : Type 0 where
  pub widths : width ms ≡ width ns
  pub sections : flat_sections ms ≡ flat_sections ns
  pub names : public_names ms ≡ public_names ns
  pub starts : length (flat_starts ms) ≡ length (flat_starts ns)
  pub needed : needs ms ≡ needs ns
  pub asked : commons ms ≡ commons ns
  pub total : loaded_total ms ≡ loaded_total ns
  pub leads : (k : ℕ) (name : List ℕ) → comes_back ms k name ≡ comes_back ns k name
  pub one_here : (d e : Descriptor) → ¬ LinkFactStands ms (mismatch d e)
  pub one_there : (d e : Descriptor) → ¬ LinkFactStands ns (mismatch d e)

-- the same the other way round
pub alike_back : (ms ns : List Parts) → Alike ms ns → Alike ns ms
alike_back ms ns h = record {
  widths = sym h.widths;
  sections = sym h.sections;
  names = sym h.names;
  starts = sym h.starts;
  needed = sym h.needed;
  asked = sym h.asked;
  total = sym h.total;
  leads = λ k name. sym (h.leads k name);
  one_here = h.one_there;
  one_there = h.one_here;
}

pub link_fact_like : (ms ns : List Parts) → Alike ms ns → (fact : LinkFact) → LinkFactStands ms fact → LinkFactStands ns fact
link_fact_like ms ns h (mismatch d e) f = absurd (h.one_here d e f)
link_fact_like ms ns h (duplicate name) f = subst (λ names. IsRepeated names name) h.names f
link_fact_like ms ns h duplicate_start f = subst (λ n. 1 < n) h.starts f

pub before_walk_like : (ms ns : List Parts) → Alike ms ns → (plan : Plan) (b : Bases) (fact : LocateFact)
    → StandsBeforeWalk ms plan (setting ms b) fact → StandsBeforeWalk ns plan (setting ns b) fact
before_walk_like ms ns h plan b (placement refusal) f =
    subst (λ asked. Stands (width ns) plan (flat_sections ns) asked refusal) (same_placed_commons ms ns h.sections h.asked plan)
    (subst (λ sections. Stands (width ns) plan sections (placed_commons ms plan) refusal) h.sections
    (subst (λ w. Stands w plan (flat_sections ms) (placed_commons ms plan) refusal) h.widths f))
before_walk_like ms ns h plan b (undefined name) f =
    (subst (StandsIn name) h.needed f.0, ap (λ (pairs : List (List ℕ × ℕ)). has_name (map (λ common. common.0) pairs) name) (sym h.asked) ∙ f.1)
before_walk_like ms ns h plan b (common_unplaced name) f = (f.0, (f.1.0, subst (StandsIn (name, f.1.0)) h.asked f.1.1))
before_walk_like ms ns h plan b (cycle name) f = (f.0, sym (h.leads f.0 name) ∙ f.1)
before_walk_like ms ns h plan b (image_limit count) f = (sym h.total ∙ f.0, f.1)
before_walk_like ms ns h plan b (zero_divisor place) f = absurd f
before_walk_like ms ns h plan b (load_outside section address) f = absurd f
before_walk_like ms ns h plan b (loaded_twice address) f = absurd f
before_walk_like ms ns h plan b (overflow section at kind size v) f = absurd f

-- a fact holds if the sections and commons have these bases
abbrev StandsAt : List Parts → Plan → Bases → LocateFact → Type 0
StandsAt ms plan b fact =
    StandsBeforeWalk ms plan (setting ms b) fact
    ⊎ (((other : LinkFact) → ¬ LinkFactStands ms other) × ((other : LocateFact) → ¬ StandsBeforeWalk ms plan (setting ms b) other)
    × StandsInWalk ms (setting ms b) fact)

stands_at_like : (ms ns : List Parts) → Alike ms ns → (plan : Plan) (b : Bases) → Follows ms ns (setting ms b) (setting ns b) → (fact : LocateFact)
    → StandsAt ms plan b fact → StandsAt ns plan b fact
stands_at_like ms ns h plan b walk fact (inl f) = inl (before_walk_like ms ns h plan b fact f)
stands_at_like ms ns h plan b walk fact (inr f) = inr (
  λ other g. f.0 other (link_fact_like ns ms (alike_back ms ns h) other g),
  λ other g. f.1 other (before_walk_like ns ms (alike_back ms ns h) plan b other g),
  walk_fact_like ms ns (setting ms b) (setting ns b) walk fact f.2,
)

pub locate_fact_like : (ms ns : List Parts) → Alike ms ns → (plan : Plan) → ((b : Bases) → Follows ms ns (setting ms b) (setting ns b)) → (fact : LocateFact)
    → LocateFactStands ms plan fact → LocateFactStands ns plan fact
locate_fact_like ms ns h plan walk fact f =
    subst (λ b. StandsAt ns plan b fact) (same_planned ms ns h.sections h.asked plan)
    (stands_at_like ms ns h plan (planned_bases ms plan) (walk (planned_bases ms plan)) fact f)
