-- A file is one module: its bytes determine its records, its parts, and what they state.
use Rattle.std.proofs.Common.{◌≡◌, ◌⊎◌, ℕ, zero, suc, ◌+◌, ◌<◌, Bool, true, false, List, [], ◌∷◌, ◌++◌, length, Option, Some, None, refl, sym, ap, cond}
use Rattle.std.proofs.Common.{subst, ◌∙◌, inl, inr, arith, append_assoc}
use Rattle.std.specs.Prelude.{MatchBool, option_to_list}
use Rattle.std.proofs.lemmas.List.{append-nil, length-append}
use Rattle.mufom_records.specs.declared.options.ReadOptions.{ReadOptions}
use Rattle.mufom_records.specs.declared.record.Mode.{Mode}
use Rattle.mufom_records.specs.declared.record.Mode.TheVariants as mode
use Rattle.mufom_records.specs.declared.record.Record.{Record}
use Rattle.mufom_records.specs.declared.record.Record.TheVariants as r
use Rattle.mufom_records.specs.Fields.{first_of}
use Rattle.mufom_records.specs.Layouts.{IsWholeRecord}
use Rattle.mufom_records.proofs.RecordLaws.{one_record}
use Rattle.mufom_expr.specs.Tree.{Tree}
use Rattle.mufom_debug.proofs.Rebuilt.{same_items}
use Rattle.mufom_module.specs.declared.module.Order.{Order}
use Rattle.mufom_module.specs.declared.module.Order.TheVariants.{Least, Most}
use Rattle.mufom_module.specs.declared.module.Parts.{Parts}
use Rattle.mufom_module.specs.SpelledRecords.{SpelledRecord, bytes_of}
use Rattle.mufom_module.specs.RecordParts.{opens_items, mode_of}
use Rattle.mufom_module.specs.Gathered.{loads_of}
use Rattle.mufom_module.specs.Grammar.{FileParts, header_of, parts_of, module_end, from_trailer, from_loads, from_debug, after_header}
use Rattle.mufom_module.specs.Grammar.{AreOfModes, header_modes, AreWhole, offsets_in, StandAt, IsCutInto, indexes_of, NamesModule, Describes}
use Rattle.mufom_module.specs.Grammar.{IsLetterOf, States, SpellsModule, ends_before_debug, seen_from_debug, seen_from_externals}

-- ---- lists

same_prefix : (one two rest more : List ℕ) → one ++ rest ≡ two ++ more → length one ≡ length two → (one ≡ two) × (rest ≡ more)
same_prefix [] [] rest more same count = (refl, same)
same_prefix [] (t ∷ two) rest more same count = absurd (omega (arith, count))
same_prefix (o ∷ one) [] rest more same count = absurd (omega (arith, count))
same_prefix (o ∷ one) (t ∷ two) rest more same count =
    let head : o ≡ t = cc in
    let tail : one ++ rest ≡ two ++ more = cc in
    let later = same_prefix one two rest more tail (omega (arith, count)) in
    (λ i. head i ∷ later.0 i, later.1)

same_after : (one rest more : List ℕ) → one ++ rest ≡ one ++ more → rest ≡ more
same_after one rest more same = (same_prefix one one rest more same refl).1

-- ---- records

abbrev as_record : Record → List ℕ → SpelledRecord
as_record row bytes = record { row = row; bytes = bytes }

same_record : (p q : SpelledRecord) → p.row ≡ q.row → p.bytes ≡ q.bytes → p ≡ q
same_record p q row bytes = λ i. as_record (row i) (bytes i)

-- two records of one mode at one place
one_spelled : (m : Mode) (p q : SpelledRecord) (rest more : List ℕ) → IsWholeRecord m p.row p.bytes (first_of rest None)
    → IsWholeRecord m q.row q.bytes (first_of more None)
    → p.bytes ++ rest ≡ q.bytes ++ more → (p ≡ q) × (rest ≡ more)
one_spelled m p q rest more first second same =
    let one = one_record m p.row q.row p.bytes rest q.bytes more first second same in
    (same_record p q one.0 one.1, same_after p.bytes rest more (same ∙ ap (λ (l : List ℕ). l ++ more) (sym one.1)))

no_record : (row : Record) (bytes : List ℕ) (next : Option ℕ) → IsWholeRecord mode.Body row bytes next → bytes ≡ [] → ⊥
no_record row bytes next (x, prefix, back, first, others, split) none =
    absurd (let e : x ∷ back ≡ [] = ap (λ (l : List ℕ). l ++ back) (sym first) ∙ sym split ∙ none in cc)

no_item : (options : ReadOptions) (items : Bool) → mode_of options items [] ≡ mode.Body
no_item options true = refl
no_item options false = refl

-- no record is empty
none_spelled : (options : ReadOptions) (items : Bool) (p : SpelledRecord) (next : Option ℕ) → IsWholeRecord
    (mode_of options items p.bytes) p.row p.bytes next → p.bytes ≡ [] → ⊥
none_spelled options items p next is none =
    let so = subst (λ (m : Mode). IsWholeRecord m p.row p.bytes next) (ap (mode_of options items) none ∙ no_item options items) is in
    no_record p.row p.bytes next so none

same_mode : (options : ReadOptions) (items : Bool) (xs ys rest more : List ℕ) → (xs ≡ [] → ⊥) → (ys ≡ [] → ⊥) → xs ++ rest ≡ ys ++ more
    → mode_of options items xs ≡ mode_of options items ys
same_mode options items [] ys rest more some any same = absurd (some refl)
same_mode options items (x ∷ xs) [] rest more some any same = absurd (any refl)
same_mode options items (x ∷ xs) (y ∷ ys) rest more some any same = let e : x ≡ y = cc in ap (λ (b : ℕ). mode_of options items (b ∷ [])) e

empty_prefix : (xs ys : List ℕ) → xs ++ ys ≡ [] → xs ≡ []
empty_prefix [] ys e = refl
empty_prefix (x ∷ xs) ys e = absurd cc

-- ---- the header

header_once : (modes : List Mode) (ps qs : List SpelledRecord) (after more : List ℕ) → AreOfModes modes ps after → AreOfModes modes qs more
    → bytes_of ps ++ after ≡ bytes_of qs ++ more
    → (ps ≡ qs) × (after ≡ more)
header_once [] [] [] after more first second same = (refl, same)
header_once [] [] (q ∷ qs) after more first second same = absurd second
header_once [] (p ∷ ps) qs after more first second same = absurd first
header_once (m ∷ modes) [] qs after more first second same = absurd first
header_once (m ∷ modes) (p ∷ ps) [] after more first second same = absurd second
header_once (m ∷ modes) (p ∷ ps) (q ∷ qs) after more first second same =
    let split = sym (append_assoc p.bytes (bytes_of ps) after) ∙ same ∙ append_assoc q.bytes (bytes_of qs) more in
    let one = one_spelled m p q (bytes_of ps ++ after) (bytes_of qs ++ more) first.0 second.0 split in
    let later = header_once modes ps qs after more first.1 second.1 one.1 in
    (λ i. one.0 i ∷ later.0 i, later.1)

-- ---- the records of a part

records_once : (options : ReadOptions) (items : Bool) (ps qs : List SpelledRecord) (after : List ℕ) → AreWhole options items ps after
    → AreWhole options items qs after → bytes_of ps
    ≡ bytes_of qs → ps ≡ qs
records_once options items [] [] after first second same = refl
records_once options items [] (q ∷ qs) after first second same = absurd
    (none_spelled options items q (first_of (bytes_of qs ++ after) None) second.0 (empty_prefix q.bytes (bytes_of qs) (sym same)))
records_once options items (p ∷ ps) [] after first second same = absurd
    (none_spelled options items p (first_of (bytes_of ps ++ after) None) first.0 (empty_prefix p.bytes (bytes_of ps) same))
records_once options items (p ∷ ps) (q ∷ qs) after first second same =
    let some = none_spelled options items p (first_of (bytes_of ps ++ after) None) first.0 in
    let any = none_spelled options items q (first_of (bytes_of qs ++ after) None) second.0 in
    let all = ap (λ (l : List ℕ). l ++ after) same in
    let split = sym (append_assoc p.bytes (bytes_of ps) after) ∙ all ∙ append_assoc q.bytes (bytes_of qs) after in
    let modes = same_mode options items p.bytes q.bytes (bytes_of ps ++ after) (bytes_of qs ++ after) some any split in
    let its = subst (λ (m : Mode). IsWholeRecord m q.row q.bytes (first_of (bytes_of qs ++ after) None)) (sym modes) second.0 in
    let one = one_spelled (mode_of options items p.bytes) p q (bytes_of ps ++ after) (bytes_of qs ++ after) first.0 its split in
    let rest = same_after p.bytes (bytes_of ps) (bytes_of qs) (same ∙ ap (λ (x : SpelledRecord). x.bytes ++ bytes_of qs) (sym one.0)) in
    let opens = subst (λ (x : SpelledRecord). AreWhole options (opens_items x.row) qs after) (sym one.0) second.1 in
    let later = records_once options (opens_items p.row) ps qs after first.1 opens rest in
    λ i. one.0 i ∷ later i

-- ---- the parts

-- the bytes of parts, and others after them
abbrev chain : List (List ℕ) → List ℕ → List ℕ
chain [] after = after
chain (part ∷ parts) after = part ++ chain parts after

-- the first offset that is not 0
abbrev first_present : List ℕ → ℕ
first_present [] = 0
first_present (zero ∷ offsets) = first_present offsets
first_present (suc w ∷ offsets) = suc w

is_present : (w at : ℕ) (offsets : List ℕ) → w ≡ at → 0 < at → first_present (w ∷ offsets) ≡ at
is_present zero at offsets e h = absurd (omega (arith, e, h))
is_present (suc w) at offsets e h = e

-- it is the offset at which the parts start
present : (offsets : List ℕ) (at : ℕ) (parts : List (List ℕ)) → 0 < at → StandAt offsets at parts → first_present offsets ≡ at
present offsets at [] h stand = ap first_present stand ∙ is_present at at [] refl h
present [] at (part ∷ parts) h stand = absurd stand
present (w ∷ offsets) at (part ∷ parts) h (place, later) = by_place place (present offsets (at + length part) parts (omega (arith, h)) later) where
  by_place : (w ≡ at) ⊎ ((w ≡ 0) × (part ≡ [])) → first_present offsets ≡ at + length part → first_present (w ∷ offsets) ≡ at
  by_place (inl e) rest = is_present w at offsets e h
  by_place (inr (absent, none)) rest = ap (λ (v : ℕ). first_present (v ∷ offsets)) absent ∙ rest ∙ omega (arith, ap length none)

none_left : (n : ℕ) (parts : List (List ℕ)) → StandAt [] n parts → ⊥
none_left n [] stand = cc
none_left n (part ∷ parts) stand = stand

after_last : (w : ℕ) (offsets : List ℕ) (at : ℕ) → w ∷ offsets ≡ at ∷ [] → offsets ≡ []
after_last w offsets at e = cc

too_many : (offsets : List ℕ) (at : ℕ) (part : List ℕ) (parts : List (List ℕ)) → offsets ≡ at ∷ [] → StandAt offsets at (part ∷ parts) → ⊥
too_many [] at part parts e stand = stand
too_many (w ∷ offsets) at part parts e stand = none_left (at + length part) parts
    (subst (λ (l : List ℕ). StandAt l (at + length part) parts) (after_last w offsets at e) stand.1)

parts_once : (offsets : List ℕ) (at : ℕ) (xs ys : List (List ℕ)) (after : List ℕ) → 0 < at → StandAt offsets at xs → StandAt offsets at ys
    → chain xs after ≡ chain ys after → xs ≡ ys
parts_once offsets at [] [] after h first second same = refl
parts_once offsets at [] (y ∷ ys) after h first second same = absurd (too_many offsets at y ys first second)
parts_once offsets at (x ∷ xs) [] after h first second same = absurd (too_many offsets at x xs second first)
parts_once [] at (x ∷ xs) (y ∷ ys) after h first second same = absurd first
parts_once (w ∷ offsets) at (x ∷ xs) (y ∷ ys) after h first second same =
    let one = present offsets (at + length x) xs (omega (arith, h)) first.1 in
    let two = present offsets (at + length y) ys (omega (arith, h)) second.1 in
    let count : length x ≡ length y = omega (arith, one, two) in
    let split = same_prefix x y (chain xs after) (chain ys after) same count in
    let stand = subst (λ (n : ℕ). StandAt offsets (at + n) ys) (sym count) second.1 in
    let later = parts_once offsets (at + length x) xs ys after (omega (arith, h)) first.1 stand split.1 in
    λ i. split.0 i ∷ later i

-- ---- the file

abbrev the_first : List SpelledRecord → SpelledRecord → SpelledRecord
the_first [] p = p
the_first (q ∷ _) p = q

abbrev the_rest : List SpelledRecord → List SpelledRecord
the_rest [] = []
the_rest (_ ∷ records) = records

abbrev bytes_first : List (List ℕ) → List ℕ
bytes_first [] = []
bytes_first (x ∷ _) = x

abbrev bytes_rest : List (List ℕ) → List (List ℕ)
bytes_rest [] = []
bytes_rest (_ ∷ xs) = xs

debug_once : (options : ReadOptions) (reads_debug : Bool) (ps qs : List SpelledRecord) (skipped passed after : List ℕ) → MatchBool reads_debug
    (skipped ≡ []) (ps ≡ [])
    → MatchBool reads_debug (passed ≡ []) (qs ≡ [])
    → AreWhole options false ps after → AreWhole options false qs after → bytes_of ps ++ skipped ≡ bytes_of qs ++ passed → (ps ≡ qs) × (skipped ≡ passed)
debug_once options true ps qs skipped passed after none also first second same =
    let bytes = sym (append-nil (bytes_of ps)) ∙ ap (λ (l : List ℕ). bytes_of ps ++ l) (sym none) ∙ same ∙ ap (λ (l : List ℕ). bytes_of qs ++ l) also
    ∙ append-nil (bytes_of qs) in
    (records_once options false ps qs after first second bytes, none ∙ sym also)
debug_once options false ps qs skipped passed after none also first second same =
    (none ∙ sym also, ap (λ (l : List SpelledRecord). bytes_of l ++ skipped) (sym none) ∙ same ∙ ap (λ (l : List SpelledRecord). bytes_of l ++ passed) also)

positive_header : (f : FileParts) (after : List ℕ) → AreOfModes header_modes (header_of f) after → 0 < length (bytes_of (header_of f))
positive_header f after is = some f.begin.bytes refl where
  some : (xs : List ℕ) → xs ≡ f.begin.bytes → 0 < length (bytes_of (header_of f))
  some [] e = absurd (begins is.0 (sym e)) where
    begins : IsWholeRecord mode.Begin f.begin.row f.begin.bytes (first_of (bytes_of (f.descriptor ∷ f.offsets) ++ after) None) → f.begin.bytes ≡ [] → ⊥
    begins (x, prefix, back, first, others, split) none = absurd (let e : x ∷ back ≡ [] = ap (λ (l : List ℕ). l ++ back) (sym first) ∙ sym split ∙ none in cc)
  some (x ∷ xs) e = omega (arith, ap length e, length-append f.begin.bytes (bytes_of (f.descriptor ∷ f.offsets)))

one_file : (bytes : List ℕ) (options : ReadOptions) (f g : FileParts) → IsCutInto bytes options f → IsCutInto bytes options g → f ≡ g
one_file bytes options f g first second =
    let header = header_once header_modes (header_of f) (header_of g) (after_header f) (after_header g) first.header second.header (sym first.all
    ∙ second.all) in
    let begin = ap (λ (l : List SpelledRecord). the_first l f.begin) header.0 in
    let descriptor = ap (λ (l : List SpelledRecord). the_first (the_rest l) f.begin) header.0 in
    let offsets = ap (λ (l : List SpelledRecord). the_rest (the_rest l)) header.0 in
    let stand = subst (λ (l : List SpelledRecord). StandAt (offsets_in (the_rest (the_rest l))) (length (bytes_of l)) (parts_of g)) (sym header.0)
    second.offsets in
    let parts = parts_once (offsets_in f.offsets) (length (bytes_of (header_of f))) (parts_of f) (parts_of g) module_end
    (positive_header f (after_header f) first.header) first.offsets stand header.1 in
    let extension = ap bytes_first parts in
    let environment = ap (λ (l : List (List ℕ)). bytes_first (bytes_rest l)) parts in
    let sections = ap (λ (l : List (List ℕ)). bytes_first (bytes_rest (bytes_rest l))) parts in
    let externals = ap (λ (l : List (List ℕ)). bytes_first (bytes_rest (bytes_rest (bytes_rest l)))) parts in
    let debug = ap (λ (l : List (List ℕ)). bytes_first (bytes_rest (bytes_rest (bytes_rest (bytes_rest l))))) parts in
    let loads = ap (λ (l : List (List ℕ)). bytes_first (bytes_rest (bytes_rest (bytes_rest (bytes_rest (bytes_rest l)))))) parts in
    let trailer = ap (λ (l : List (List ℕ)). bytes_first (bytes_rest (bytes_rest (bytes_rest (bytes_rest (bytes_rest (bytes_rest l))))))) parts in
    let after_loads : from_trailer f ≡ from_trailer g = λ i. trailer i ++ module_end in
    let after_debug : from_loads f ≡ from_loads g = λ i. loads i ++ after_loads i in
    let after_externals : from_debug f ≡ from_debug g = λ i. debug i ++ after_debug i in
    let ends : ends_before_debug options (offsets_in f.offsets) ≡ ends_before_debug options (offsets_in g.offsets) =
    ap (λ (l : List SpelledRecord). ends_before_debug options (offsets_in l)) offsets in
    let seen_externals : seen_from_debug options f ≡ seen_from_debug options g = λ i. cond (ends i) module_end (after_externals i) in
    let seen_sections : seen_from_externals options f ≡ seen_from_externals options g = λ i. externals i ++ seen_externals i in
    let section_records = records_once options false f.sections g.sections (seen_from_externals options f) first.sections.are_whole
    (subst (λ (l : List ℕ). AreWhole options false g.sections l) (sym seen_sections) second.sections.are_whole) sections in
    let external_records = records_once options false f.externals g.externals (seen_from_debug options f) first.externals.are_whole
    (subst (λ (l : List ℕ). AreWhole options false g.externals l) (sym seen_externals) second.externals.are_whole) externals in
    let debug_records = debug_once options options.debug f.debug g.debug f.skipped g.skipped (from_loads f) first.debug_read second.debug_read
    first.debug.are_whole (subst (λ (l : List ℕ). AreWhole options false g.debug l) (sym after_debug) second.debug.are_whole) debug in
    let load_records = records_once options false f.loads g.loads (from_trailer f) first.loads.are_whole
    (subst (λ (l : List ℕ). AreWhole options false g.loads l) (sym after_loads) second.loads.are_whole) loads in
    let trailer_records = records_once options false f.trailer g.trailer module_end first.trailer.are_whole second.trailer.are_whole trailer in
    λ i. record {
      begin = begin i;
      descriptor = descriptor i;
      offsets = offsets i;
      extension = extension i;
      environment = environment i;
      sections = section_records i;
      externals = external_records i;
      debug = debug_records.0 i;
      skipped = debug_records.1 i;
      loads = load_records i;
      trailer = trailer_records i;
    }

-- ---- the module

same_names : (m n : Parts) (p : SpelledRecord) (row : Record) → NamesModule m p row → NamesModule n p row → (m.processor ≡ n.processor) × (m.name ≡ n.name)
same_names m n p (r.ModuleBegin processor name) first second = (sym first.0 ∙ second.0, sym first.1 ∙ second.1)
same_names m n p _ first second = absurd first

abbrev byte_or_none : Option ℕ → ℕ
byte_or_none None = 0
byte_or_none (Some b) = b

not_both : (letter : Option ℕ) → letter ≡ Some 0xCC → (letter ≡ Some 0xCD) ⊎ (letter ≡ None) → ⊥
not_both letter first (inl second) = let e = ap byte_or_none (sym first ∙ second) in omega (arith, e)
not_both letter first (inr second) = let e = ap byte_or_none (sym first ∙ second) in omega (arith, e)

same_order : (a b : Order) (letter : Option ℕ) → IsLetterOf a letter → IsLetterOf b letter → a ≡ b
same_order Least Least letter first second = refl
same_order Most Most letter first second = refl
same_order Least Most letter first second = absurd (not_both letter first second)
same_order Most Least letter first second = absurd (not_both letter second first)

same_descriptor : (m n : Parts) (row : Record) → Describes m row → Describes n row → (m.maus ≡ n.maus) × (m.order ≡ n.order)
same_descriptor m n (r.Descriptor bits maus letter) first second = (sym first.1 ∙ second.1, same_order m.order n.order letter first.2 second.2)
same_descriptor m n _ first second = absurd first

same_option : (a b : Option Tree) → option_to_list a ≡ option_to_list b → a ≡ b
same_option None None e = refl
same_option None (Some y) e = absurd cc
same_option (Some x) None e = absurd cc
same_option (Some x) (Some y) e = let its : x ≡ y = cc in ap Some its

stated_once : (f : FileParts) (m n : Parts) → States f (indexes_of f) m → States f (indexes_of f) n → m ≡ n
stated_once f m n first second =
    let names = same_names m n f.begin f.begin.row first.begin second.begin in
    let described = same_descriptor m n f.descriptor.row first.descriptor second.descriptor in
    let extension = first.extension ∙ sym second.extension in
    let environment = first.environment ∙ sym second.environment in
    let sections = first.sections ∙ sym second.sections in
    let publics = first.publics ∙ sym second.publics in
    let references = first.references ∙ sym second.references in
    let debug = same_items m.debug n.debug (first.debug ∙ sym second.debug) in
    let loads = first.loads ∙ ap (λ (maus : ℕ). loads_of (indexes_of f) maus f.loads) described.0 ∙ sym second.loads in
    let start = same_option m.start n.start (first.start ∙ sym second.start) in
    λ i. record {
      processor = names.0 i;
      name = names.1 i;
      maus = described.0 i;
      order = described.1 i;
      ext = extension i;
      env = environment i;
      sections = sections i;
      names = record { publics = publics i; references = references i };
      debug = debug i;
      loads = loads i;
      start = start i;
    }

pub one_module : (m n : Parts) (bytes : List ℕ) (options : ReadOptions) → SpellsModule m bytes options → SpellsModule n bytes options → m ≡ n
one_module m n bytes options (f, cut, names, states, valid) (g, cut_too, names_too, states_too, valid_too) =
    let same = one_file bytes options f g cut cut_too in
    stated_once f m n states (subst (λ (h : FileParts). States h (indexes_of h) n) (sym same) states_too)
