use Rattle.std.proofs.Common.{List, subst}
use Rattle.std.specs.Prelude.{All}
use Rattle.mufom_debug.specs.declared.item.DebugItem.{DebugItem}
use Rattle.mufom_debug.specs.Marks.{marks_of}
use Rattle.mufom_module.specs.Made.{IsMadeSection, IsMadePublic, IsMadeReference, IsMadeMark, IsMadeLoad}
use Rattle.mufom_module.proofs.made.type_bounds.Goals as goal

pub returns : goal.returns
returns c = record {
  processor = c.frame.ensures.processor;
  name = c.frame.ensures.name;
  maus = c.frame.ensures.units;
  ext = c.frame.ensures.extension;
  env = c.frame.ensures.environment;
  sections = subst (All IsMadeSection) c.as_slice.ensures c.sections.ensures;
  publics = subst (All IsMadePublic) c.as_slice-2.ensures c.publics.ensures;
  references = subst (All IsMadeReference) c.as_slice-3.ensures c.references.ensures;
  debug = subst (λ (items : List DebugItem). All IsMadeMark (marks_of items)) c.as_slice-4.ensures c.debug_items.ensures;
  loads = subst (All IsMadeLoad) c.as_slice-5.ensures c.loads.ensures;
  start = c.optional_expression.ensures;
}
