-- The loads so far, record by record.
use Rattle.std.proofs.Common.{◌≡◌, ℕ, true, true≢false, List, [], ◌∷◌, ◌++◌, filter_map, slice_get, refl, sym, ap, ◌∙◌, append-nil, append_assoc}
use Rattle.std.proofs.Common.{Result, Ok, Err, OnOk, Option, Some, None, option_map}
use Rattle.std.specs.Prelude.{unwrap_or}
use Rattle.std.specs.List.{cons_option}
use Rattle.std.specs.Option.{option_or}
use Rattle.std.proofs.lemmas.List.Elements.{filter_map-append}
use Rattle.mufom_numbers.specs.declared.taken.Span.{Span}
use Rattle.mufom_expr.specs.declared.token.FieldKind.{FieldKind}
use Rattle.mufom_expr.specs.Tree.{Tree}
use Rattle.mufom_expr.specs.Spelled.{Indexes}
use Rattle.mufom_records.specs.declared.record.Record.{Record}
use Rattle.mufom_records.specs.declared.record.Record.TheVariants as r
use Rattle.mufom_records.specs.Parts.{expression_of}
use Rattle.mufom_loads.specs.declared.load.Item.TheVariants.{Field}
use Rattle.mufom_module.specs.SpelledRecords.{SpelledRecord, tree_in, tree_of_record, positioned}
use Rattle.mufom_module.specs.RecordParts.{data_part, stands_in}
use Rattle.mufom_module.specs.Gathered.{item_by}
use Rattle.mufom_read.specs.declared.header.Addressing.{Addressing}
use Rattle.mufom_read.specs.declared.loads.Loads.{Loads}
use Rattle.mufom_read.specs.HeaderSoFar.{layout_by, layout_in}
use Rattle.mufom_read.specs.LoadsSoFar.{no_loads, is_item, units_in, loads_after, loads_from, loads_so_far}

-- the list after a push that succeeded
pub pushed : {X A E : Type 0} (r : Result A E) (new old few more : List X) → few ≡ more → OnOk r (new ≡ old ++ few) → OnOk r (new ≡ old ++ more)
pushed (Ok a) new old few more e h = h ∙ ap (λ l. old ++ l) e
pushed (Err e) new old few more same h = tt

-- the first of a list and one more
pub first-more : {X : Type 0} (xs : List X) (o : Option X) → slice_get (xs ++ cons_option o []) 0 ≡ option_or (slice_get xs 0) o
first-more [] None = refl
first-more [] (Some x) = refl
first-more (x ∷ xs) o = refl

-- the first value found, with one more record
pub answer-more : {X : Type 0} (ask : SpelledRecord → Option X) (ps : List SpelledRecord) (p : SpelledRecord)
    → slice_get (filter_map ask (ps ++ p ∷ [])) 0 ≡ option_or (slice_get (filter_map ask ps) 0) (ask p)
answer-more ask ps p = ap (λ xs. slice_get xs 0) (filter_map-append ask ps (p ∷ [])) ∙ first-more (filter_map ask ps) (ask p)

-- units that are known stay
pub units-stay : (ps : List SpelledRecord) (p : SpelledRecord) (maus : ℕ) → units_in ps ≡ Some maus → units_in (ps ++ p ∷ []) ≡ Some maus
units-stay ps p maus given = ap (option_map (λ (l : Addressing). l.maus)) (answer-more (λ q. layout_by q.row) ps p) ∙ stays (layout_in ps) given where
  stays : (o : Option Addressing) → option_map (λ (l : Addressing). l.maus) o ≡ Some maus
      → option_map (λ (l : Addressing). l.maus) (option_or o (layout_by p.row)) ≡ Some maus
  stays (Some l) h = h
  stays None h = absurd cc

loads_more : (before : List SpelledRecord) (s : Loads) (ps : List SpelledRecord) (p : SpelledRecord) → loads_from before s (ps ++ p ∷ [])
    ≡ loads_after (before ++ ps) (loads_from before s ps) p
loads_more before s [] p = ap (λ (b : List SpelledRecord). loads_after b s p) (sym (append-nil before))
loads_more before s (q ∷ ps) p =
    loads_more (before ++ q ∷ []) (loads_after before s q) ps p
    ∙ ap (λ (b : List SpelledRecord). loads_after b (loads_from (before ++ q ∷ []) (loads_after before s q) ps) p) (append_assoc before (q ∷ []) ps)

-- the loads with one more record
pub loads-more : (ps : List SpelledRecord) (p : SpelledRecord) → loads_so_far (ps ++ p ∷ []) ≡ loads_after ps (loads_so_far ps) p
loads-more ps p = loads_more [] no_loads ps p

-- ---- a record with its expression

module _ (ix : Indexes) (p : SpelledRecord) where
  -- the expression of a record, with positions, if it has one
  value_there : (row : Record) (span : Span) → p.row ≡ row → expression_of row ≡ Some span → option_map (positioned ix) (tree_of_record p)
      ≡ Some (positioned ix (tree_in p span))
  value_there row span is there = ap (λ (x : Record). option_map (positioned ix) (option_map (tree_in p) (expression_of x))) is
      ∙ ap (λ (o : Option Span). option_map (positioned ix) (option_map (tree_in p) o)) there

  pub pc-valued : (i : ℕ) (span : Span) → p.row ≡ r.SetPc i span → option_map (positioned ix) (tree_of_record p) ≡ Some (positioned ix (tree_in p span))
  pc-valued i span is = value_there (r.SetPc i span) span is refl

  pub field-valued : (kind : FieldKind) (span : Span) (size : Option ℕ) → p.row ≡ r.FieldItem kind span size
      → option_map (positioned ix) (tree_of_record p) ≡ Some (positioned ix (tree_in p span))
  field-valued kind span size is = value_there (r.FieldItem kind span size) span is refl

  -- a field has its expression as its value
  pub field-made : (maus : ℕ) (kind : FieldKind) (span : Span) (size : Option ℕ) (v : Tree) (n : ℕ) → p.row ≡ r.FieldItem kind span size → Some v
      ≡ option_map (positioned ix) (tree_of_record p) → n ≡ unwrap_or size maus
      → item_by ix maus p p.row ≡ Some (Field kind n v)
  field-made maus kind span size v n is value count =
      let same : v ≡ positioned ix (tree_in p span) = ap (λ (o : Option Tree). unwrap_or o v) (value ∙ field-valued kind span size is) in
      ap (item_by ix maus p) is ∙ (λ k. Some (Field kind (sym count k) (sym same k)))

-- an item is a record of the data part
pub item-own : (row : Record) → is_item row ≡ true → stands_in data_part row ≡ true
item-own (r.ConstantItem run) h = refl
item-own (r.FieldItem kind value size) h = refl
item-own row h = absurd (true≢false (sym h))

pub stepped : {A E : Type 0} (r : Result A E) (a b c : Loads) → b ≡ c → OnOk r (a ≡ b) → OnOk r (a ≡ c)
stepped (Ok x) a b c e h = h ∙ e
stepped (Err x) a b c e h = tt
