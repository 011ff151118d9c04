-- A list that came by links has the link facts and the links of the list that they began with.
use Rattle.std.proofs.Common.{List, [], ◌∷◌, refl, sym, ◌∙◌}
use Rattle.mufom_module.specs.declared.module.Parts.{Parts}
use Rattle.mufom_stages.specs.Stages.{named_as}
use Rattle.mufom_stages.specs.StageLaws.{HaveSameLinkFacts, HaveSameLinks, ListsLinkAsTheirLeaves}
use Rattle.mufom_stages.proofs.FirstNames.{first-names-change-no-link}
use Rattle.mufom_stages.proofs.Kept.{stages-keep-link-facts, stages-keep-links}

-- the links of a list change nothing under another name
renamed-alike : (ms leaves : List Parts) → HaveSameLinkFacts (named_as ms leaves) leaves × HaveSameLinks (named_as ms leaves) leaves
renamed-alike [] leaves = (alike, λ N name. (λ h. h, λ h. h)) where
  alike : HaveSameLinkFacts leaves leaves
  alike = record { names = refl; answer = refl; facts = λ fact. (λ h. h, λ h. h) }
renamed-alike (m ∷ ms) leaves = first-names-change-no-link leaves m.name

pub lists-link-as-their-leaves : ListsLinkAsTheirLeaves
lists-link-as-their-leaves ms leaves came =
    let (alike, links) = renamed-alike ms leaves in
    let facts = stages-keep-link-facts ms leaves came.staged in
    record {
      facts = record {
        names = facts.names ∙ sym alike.names;
        answer = facts.answer ∙ sym alike.answer;
        facts = λ fact.
            let there = facts.facts fact in
            let here = alike.facts fact in
            (λ h. here.1 (there.0 h), λ h. there.1 (here.0 h));
      };
      links = λ none.
          let (valid, same) = stages-keep-links ms leaves came.staged came.valid (sym alike.answer ∙ none) in (
            valid,
            λ N name. (λ h. (links N name).1 ((same N name).0 h), λ h. (same N name).1 ((links N name).0 h)),
          );
    }
