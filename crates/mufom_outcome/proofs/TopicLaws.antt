-- Each error has a help topic, by the table of topics.
use Rattle.std.proofs.Common.{refl, true≢false, IsSome}
use Rattle.mufom_numbers.specs.declared.reason.Reason.{Reason}
use Rattle.mufom_numbers.specs.declared.reason.Reason.TheVariants as why
use Rattle.mufom_help.specs.Topics.{error_lines, errors, read_errors, topic_in, topics}
use Rattle.mufom_plan.specs.declared.refusal.PlanRefusal.TheVariants as plan
use Rattle.mufom_place.specs.declared.refusal.PlaceRefusal.TheVariants as place
use Rattle.mufom_refusals.specs.declared.link.LinkRefusal.TheVariants as link
use Rattle.mufom_refusals.specs.declared.locate.LocateRefusal.TheVariants as locate
use Rattle.mufom_refusals.specs.declared.text.TxtReason.{TxtReason}
use Rattle.mufom_refusals.specs.declared.text.TxtReason.TheVariants as txt
use Rattle.mufom_refusals.specs.declared.build.BuildReason.{BuildReason}
use Rattle.mufom_refusals.specs.declared.build.BuildReason.TheVariants as reasons
use Rattle.mufom_refusals.specs.declared.build.BuildRefusal.TheVariants as build
use Rattle.mufom_module.specs.declared.module.Defect.{Defect}
use Rattle.mufom_module.specs.declared.module.Defect.TheVariants as defects
use Rattle.mufom_outcome.specs.declared.outcome.BinRefusal.TheVariants as bins
use Rattle.mufom_outcome.specs.declared.outcome.Refusal.TheVariants as refusal
use Rattle.mufom_outcome.specs.Complaint.{build_reason_text, defect_text, reason_text}
use Rattle.mufom_outcome.specs.Topic.{txt_name}
use Rattle.mufom_outcome.specs.TopicLaws.{CommandsHaveTexts, EachErrorHasATopic}

reason-topic : (w : Reason) → IsSome (topic_in topics (reason_text w))
unfolding topics error_lines errors read_errors
reason-topic why.BadNumber = refl
reason-topic why.BadId = refl
reason-topic why.BadRecord = refl
reason-topic why.UnsupportedRecord = refl
reason-topic why.UnsupportedFunction = refl
reason-topic why.UnsupportedVariable = refl
reason-topic why.Underflow = refl
reason-topic why.SurplusTerms = refl
reason-topic why.Empty = refl
reason-topic why.TooLong = refl
reason-topic why.LongRun = refl
reason-topic why.BadFieldSize = refl
reason-topic why.BracketMismatch = refl
reason-topic why.BadSectionType = refl
reason-topic why.UnsupportedBlock = refl
reason-topic why.UnsupportedAttribute = refl
reason-topic why.Truncated = refl
reason-topic why.BadHeader = refl
reason-topic why.BadDescriptor = refl
reason-topic why.OffsetOrder = refl
reason-topic why.PartGap = refl
reason-topic why.WrongPart = refl
reason-topic why.DuplicateIndex = refl
reason-topic why.UnknownIndex = refl
reason-topic why.DuplicateValue = refl
reason-topic why.MissingValue = refl
reason-topic why.MissingBase = refl
reason-topic why.BadAlignment = refl
reason-topic why.NoSection = refl
reason-topic why.BadP = refl
reason-topic why.BlockNesting = refl
reason-topic why.Depth = refl
reason-topic why.AfterEnd = refl
reason-topic why.FileLimit = refl
reason-topic why.BadArchive = refl

defect-topic : (d : Defect) → IsSome (topic_in topics (defect_text d))
unfolding topics error_lines errors read_errors
defect-topic defects.Depth = refl
defect-topic defects.LongId = refl
defect-topic defects.BadMaus = refl
defect-topic defects.BadAlign = refl
defect-topic defects.MissingBase = refl
defect-topic defects.Position = refl
defect-topic defects.MisplacedP = refl
defect-topic defects.NoSection = refl
defect-topic defects.LongRun = refl
defect-topic defects.FieldSize = refl
defect-topic defects.Attribute = refl
defect-topic defects.Nesting = refl
defect-topic defects.Weight = refl

line-topic : (w : BuildReason) → IsSome (topic_in topics (build_reason_text w))
unfolding topics error_lines errors read_errors
line-topic reasons.BadText = refl
line-topic reasons.TooGreat = refl
line-topic reasons.Position = refl
line-topic reasons.Count = refl
line-topic reasons.TooLong = refl
line-topic reasons.Deep = refl

txt-topic : (w : TxtReason) → IsSome (topic_in topics (txt_name w))
unfolding topics error_lines errors read_errors
txt-topic txt.BadLine = refl
txt-topic txt.NoAddress = refl
txt-topic txt.Beyond = refl
txt-topic (txt.Twice address) = refl
txt-topic txt.AfterEnd = refl
txt-topic txt.NoEnd = refl

pub each-error : EachErrorHasATopic
unfolding topics error_lines errors read_errors
each-error (refusal.Read n r) has = reason-topic r.reason
each-error (refusal.InputLimit n) has = refl
each-error (refusal.TooManyModules n) has = refl
each-error (refusal.TooManyFiles n) has = refl
each-error (refusal.TooDeep n) has = refl
each-error (refusal.Plan plan.Syntax) has = refl
each-error (refusal.Plan (plan.Shape at f)) has = refl
each-error (refusal.Plan (plan.Beyond n)) has = refl
each-error (refusal.Plan plan.TooLong) has = refl
each-error (refusal.Plan plan.NoMemory) has = absurd (true≢false has)
each-error (refusal.Link (link.Mismatch first other)) has = refl
each-error (refusal.Link (link.Duplicate name)) has = refl
each-error (refusal.Link link.DuplicateStart) has = refl
each-error (refusal.Link link.NoMemory) has = absurd (true≢false has)
each-error (refusal.Locate (locate.Place (place.Unplaced n)) maus) has = refl
each-error (refusal.Locate (locate.Place (place.Misfit n region)) maus) has = refl
each-error (refusal.Locate (locate.Place (place.Overlap n other)) maus) has = refl
each-error (refusal.Locate (locate.Place place.NoMemory) maus) has = absurd (true≢false has)
each-error (refusal.Locate (locate.Undefined name) maus) has = refl
each-error (refusal.Locate (locate.CommonUnplaced name) maus) has = refl
each-error (refusal.Locate (locate.Cycle name) maus) has = refl
each-error (refusal.Locate (locate.DivideByZero s) maus) has = refl
each-error (refusal.Locate (locate.Overflow n a k size value) maus) has = refl
each-error (refusal.Locate (locate.LoadOutside n a) maus) has = refl
each-error (refusal.Locate (locate.LoadedTwice a) maus) has = refl
each-error (refusal.Locate (locate.ImageLimit count) maus) has = refl
each-error (refusal.Locate locate.NoMemory maus) has = absurd (true≢false has)
each-error (refusal.SharedName name) has = refl
each-error (refusal.Keep name) has = refl
each-error (refusal.Bin (bins.TooLong count)) has = refl
each-error (refusal.Bin (bins.Region name)) has = refl
each-error (refusal.Text r) has = txt-topic r.reason
each-error (refusal.Build (build.At row column reason)) has = line-topic reason
each-error (refusal.Build (build.Module defect)) has = defect-topic defect
each-error (refusal.Build build.NoMemory) has = absurd (true≢false has)

pub commands-have-texts : CommandsHaveTexts
commands-have-texts = record { forms = refl; own = refl; no_other = refl }
