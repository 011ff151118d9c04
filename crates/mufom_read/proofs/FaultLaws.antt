-- The errors of whole parts, by what the code keeps of a prefix.
use Rattle.std.proofs.Common.{◌≡◌, List, [], None, sym, ap, subst, ◌∙◌}
use Rattle.mufom_module.specs.RecordParts.{section_part, external_part, debug_part}
use Rattle.mufom_module.specs.Grammar.{FollowFrom}
use Rattle.mufom_read.specs.declared.prefix.Prefix.{Prefix}
use Rattle.mufom_judging.specs.Prefixes.{Step, size_of, offset_records_of}
use Rattle.mufom_judging.specs.Faults.{first_fault, section_fault, external_fault, open_fault, whole_fault}
use Rattle.mufom_read.specs.Kept.{tables_of}
use Rattle.mufom_read.specs.SectionsSoFar.{first_unbased}
use Rattle.mufom_read.specs.NamesSoFar.{public_faults, least_from}
use Rattle.mufom_read.specs.DebugSoFar.{opened}
use Rattle.mufom_read.specs.PrefixOfCode.{IsPrefixOf}
use Rattle.mufom_read.proofs.stepping.PrefixLaws.{records-placed}
use Rattle.mufom_read.proofs.so_far.SectionFaults.{unbased-first}
use Rattle.mufom_read.proofs.so_far.PublicFaults.{external-least}

-- the error of the first kept section that lacks a base is that of the section part
pub section-fault : (f : Prefix) (prefix : List Step) → IsPrefixOf f prefix
    → first_unbased f.contents.sections.starts.items f.contents.sections.list.items ≡ whole_fault section_part prefix
section-fault f prefix is =
    (λ k. first_unbased (is.contents.sections.starts k) (is.contents.sections.list k))
    ∙ unbased-first (offset_records_of prefix)
    ∙ ap (λ ps. first_fault (section_fault ps) (offset_records_of prefix)) (sym (records-placed prefix))

-- the error with the smallest offset among the kept publics is that of the external part
pub external-fault : (f : Prefix) (prefix : List Step) → IsPrefixOf f prefix
    → least_from None (public_faults f.tables f.contents.publics.marks.items f.contents.publics.list.items) ≡ whole_fault external_part prefix
external-fault f prefix is =
    let same = records-placed prefix in
    (λ k. least_from None (public_faults ((is.tables ∙ ap tables_of same) k) (is.contents.publics.marks k) (is.contents.publics.list k)))
    ∙ external-least (offset_records_of prefix) (size_of prefix) is.rising (subst (FollowFrom []) same is.follow)
    ∙ ap (λ ps. first_fault (external_fault ps) (offset_records_of prefix)) (sym same)

-- the error of the innermost open block that is kept is that of the debug part
pub debug-fault : (f : Prefix) (prefix : List Step) → IsPrefixOf f prefix → open_fault (opened f.contents.debug) ≡ whole_fault debug_part prefix
debug-fault f prefix is = ap open_fault is.contents.debug.blocks
