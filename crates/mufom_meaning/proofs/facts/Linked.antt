-- All facts about a list with a link are facts about the flat list, and the other way round.
use Rattle.std.proofs.Common.{◌≡◌, ℕ, List, ◌∷◌, ◌++◌}
use Rattle.mufom_module.specs.declared.module.Parts.{Parts}
use Rattle.mufom_plan.specs.declared.plan.Plan.{Plan}
use Rattle.mufom_names.specs.Names.{AreDistinct}
use Rattle.mufom_meaning.specs.Bases.{no_bases}
use Rattle.mufom_meaning.specs.Flat.{public_names}
use Rattle.mufom_meaning.specs.Values.{setting}
use Rattle.mufom_meaning.specs.Joined.{IsJoined}
use Rattle.mufom_meaning.specs.Facts.{LinkFact, LocateFact}
use Rattle.mufom_meaning.specs.Stands.{LinkFactStands, LocateFactStands}
use Rattle.mufom_meaning.specs.Staging.{AreValid, HaveDescriptor}
use Rattle.mufom_meaning.specs.StagingLaws.{FactsAgree}
use Rattle.mufom_meaning.proofs.facts.Cycles.{first_both, from_both}
use Rattle.mufom_meaning.proofs.staging.Groups.{home_of}
use Rattle.mufom_meaning.proofs.staging.Settings.{same_width, are_settings, same_sections}
use Rattle.mufom_meaning.proofs.staging.Needs.{same_names, same_needs, same_commons}
use Rattle.mufom_meaning.proofs.facts.Agreed.{descriptor_linked, same_total, answers_agree}
use Rattle.mufom_meaning.proofs.facts.LinkAgreed.{same_start_count}
use Rattle.mufom_meaning.proofs.facts.LinkFacts.{one_descriptor}
use Rattle.mufom_meaning.proofs.facts.Alike.{Alike, alike_back, comes_back, link_fact_like, locate_fact_like}
use Rattle.mufom_meaning.proofs.facts.FollowsLink.{linked_follows, flat_follows}

module _ (M : Parts) (ms before after : List Parts) (name : List ℕ) (j : IsJoined M ms name) (valid : AreValid (before ++ (ms ++ after)))
    (descriptors : HaveDescriptor M (before ++ (ms ++ after))) (names : AreDistinct (public_names (before ++ (ms ++ after)))) where
  abbrev linked : List Parts
  linked = before ++ (M ∷ after)

  abbrev flat : List Parts
  flat = before ++ (ms ++ after)

  same_ways_back : (k : ℕ) (public : List ℕ) → comes_back linked k public ≡ comes_back flat k public
  same_ways_back k public =
      let settings = are_settings M ms name j before after names no_bases in
      from_both ms (home_of M before) (setting linked no_bases) (setting flat no_bases) settings k public _ _
      (first_both ms (home_of M before) (setting linked no_bases) (setting flat no_bases) settings public)

  alike : Alike linked flat
  alike = record {
    widths = same_width M ms j.header before after;
    sections = same_sections M ms name j before after;
    names = same_names M ms name j before after;
    starts = same_start_count M ms before after name j;
    needed = same_needs M ms name j before after;
    asked = same_commons M ms name j before after;
    total = same_total M ms before after name j valid descriptors names;
    leads = same_ways_back;
    one_here = one_descriptor M linked (descriptor_linked M ms before after descriptors);
    one_there = one_descriptor M flat descriptors;
  }

  pub link_facts_agree : (fact : LinkFact) → (LinkFactStands linked fact → LinkFactStands flat fact) × (LinkFactStands flat fact → LinkFactStands linked fact)
  link_facts_agree fact = (link_fact_like linked flat alike fact, link_fact_like flat linked (alike_back linked flat alike) fact)

  pub locate_facts_agree : (plan : Plan) (fact : LocateFact)
      → (LocateFactStands linked plan fact → LocateFactStands flat plan fact) × (LocateFactStands flat plan fact → LocateFactStands linked plan fact)
  locate_facts_agree plan fact = (
    locate_fact_like linked flat alike plan (linked_follows M ms before after name j valid names) fact,
    locate_fact_like flat linked (alike_back linked flat alike) plan (flat_follows M ms before after name j valid names) fact,
  )

pub facts_agree : FactsAgree
facts_agree M ms before after name plan j valid descriptors names =
    let answers = answers_agree M ms before after name plan j valid descriptors names in
    record {
      link_facts = link_facts_agree M ms before after name j valid descriptors names;
      locate_facts = locate_facts_agree M ms before after name j valid descriptors names plan;
      link_answers = answers.0;
      later_answers = answers.1;
      locate_answers = answers.2;
    }
