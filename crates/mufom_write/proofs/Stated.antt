-- What is written of a module spells it.
use Rattle.std.proofs.Common.{◌≡◌, ℕ, ◌+◌, ◌≤◌, Bool, true, false, List, [], ◌∷◌, ◌++◌, length, Some, refl, sym, subst, inl, arith}
use Rattle.std.specs.Prelude.{slice_range}
use Rattle.mufom_expr.specs.Spelled.{Indexes}
use Rattle.mufom_debug.specs.Marks.{marks_of}
use Rattle.mufom_module.proofs.GnuLaws.{plainly, plain-gnu}
use Rattle.mufom_module.specs.declared.module.Order.{Order}
use Rattle.mufom_module.specs.declared.module.Order.TheVariants.{Least, Most}
use Rattle.mufom_module.specs.declared.module.Parts.{Parts}
use Rattle.mufom_module.specs.Written.{written, shortest}
use Rattle.mufom_module.specs.Written as w
use Rattle.mufom_module.specs.Defects.{IsValid}
use Rattle.mufom_module.specs.Made.{IsMade}
use Rattle.mufom_module.specs.Grammar.{file_limit, indexes_of, IsLetterOf, States, SpellsModule}
use Rattle.mufom_write.proofs.Rows.{text_at}
use Rattle.mufom_write.proofs.HeaderRows.{module_name_at}
use Rattle.mufom_write.proofs.Indexed.{written_indexes}
use Rattle.mufom_write.proofs.CutFile.{IsFittingModule, file_of, cut}
use Rattle.mufom_write.proofs.Fitting.{IsInside, inside_module, loads-placed, module-fits}
use Rattle.mufom_write.proofs.NamingFile.{has-names}
use Rattle.mufom_write.proofs.Texts.{string-between, string-last}
use Rattle.mufom_write.proofs.StatedDebug.{names_in, declared-names, marks-back}
use Rattle.mufom_write.proofs.StatedLoads.{loads-back, start-back}
use Rattle.mufom_write.proofs.StatedNames.{declared-publics, declared-references, publics-back, references-back}
use Rattle.mufom_write.proofs.StatedSections.{declared-sections, sections-back}

letter-of : (order : Order) → IsLetterOf order (Some (w.order_letter order))
letter-of Least = refl
letter-of Most = inl refl

processor-back : (processor name : List ℕ) → slice_range (0xE0 ∷ (w.string shortest processor ++ w.string shortest name)) (text_at 1 processor).start
    ((text_at 1 processor).start + length processor) ≡ processor
processor-back processor name = string-between (0xE0 ∷ (w.string shortest processor ++ w.string shortest name)) (0xE0 ∷ []) processor
    (w.string shortest name) 1 refl refl

name-back : (processor name : List ℕ) → slice_range (0xE0 ∷ (w.string shortest processor ++ w.string shortest name))
    (module_name_at processor name).start ((module_name_at processor name).start + length name) ≡ name
name-back processor name =
    string-last (0xE0 ∷ (w.string shortest processor ++ w.string shortest name)) (0xE0 ∷ w.string shortest processor) name
    (1 + length (w.string shortest processor)) refl (omega arith)

module _ (m : Parts) where
  indexes-are : indexes_of (file_of m) ≡ written_indexes m (names_in (marks_of m.debug))
  indexes-are =
      let s = declared-sections 0 m.sections in
      let p = declared-publics m.names.publics m.names.references in
      let r = declared-references m.names.publics m.names.references in
      let d = declared-names 0 (marks_of m.debug) in
      λ i. record { sections = s i; publics = p i; references = r i; debug_names = d i }

  pub states : IsFittingModule m → IsInside m → States (file_of m) (indexes_of (file_of m)) m
  states fits its = subst (λ (ix : Indexes). States (file_of m) ix m) (sym indexes-are) (record {
    begin = (processor-back m.processor m.name, name-back m.processor m.name);
    descriptor = (refl, refl, letter-of m.order);
    extension = refl;
    environment = refl;
    sections = sym (sections-back m.sections);
    publics = sym (publics-back m (names_in (marks_of m.debug)) m.names.publics m.names.references fits.publics its.values);
    references = sym (references-back m.names.publics m.names.references);
    debug = sym (marks-back m (names_in (marks_of m.debug)) 0 (marks_of m.debug) fits.debug its.marks its.declared (omega arith));
    loads = sym (loads-back m (names_in (marks_of m.debug)) m.loads fits.loads its.places);
    start = sym (start-back m (names_in (marks_of m.debug)) m.start fits.start its.start);
  })

stated_plain : (m : Parts) → IsValid m → IsMade m → length (written m) ≤ file_limit → SpellsModule m (written m) (plainly true)
stated_plain m valid made few =
    let fits = module-fits m valid made in
    let its = inside_module m valid in
    (file_of m, cut m fits few, has-names m fits its (loads-placed m valid), states m fits its, valid)

-- what is written spells the module, with and without the forms of GNU binutils
pub stated : (m : Parts) → IsValid m → IsMade m → length (written m) ≤ file_limit → (gnu : Bool)
    → SpellsModule m (written m) (record { debug = true; gnu = gnu })
stated m valid made few false = stated_plain m valid made few
stated m valid made few true = plain-gnu true m (written m) (stated_plain m valid made few)
