-- How the symbols of a plan follow from its tables, and that no symbol's name occurs twice.
use Rattle.std.proofs.Common.{◌≡◌, ℕ, ◌+◌, List, [], ◌∷◌, ◌++◌, length, Option, Some, None, Result, Ok, Err, Bool, true, false, ◌||◌, cond}
use Rattle.std.proofs.Common.{refl, ap, sym, ◌∙◌, subst, append_assoc}
use Rattle.std.specs.Prelude.{option_and_then, ◌==◌, if◌then◌else◌, codes}
use Rattle.std.proofs.lemmas.List.{append-nil, map-append}
use Rattle.std.proofs.lemmas.Cmp.{nat_list_eq_equiv}
use Rattle.std.proofs.lemmas.Map.Keys.{IsDistinct-push}
use Rattle.toml.specs.Data.{Data, Members, get_member, as_table}
use Rattle.mufom_plan.specs.declared.plan.SymbolValue.{SymbolValue}
use Rattle.mufom_plan.specs.declared.plan.PlanSymbol.{PlanSymbol}
use Rattle.mufom_plan.specs.declared.refusal.PlanField.TheVariants as field
use Rattle.mufom_plan.specs.declared.refusal.PlanTable.TheVariants as at
use Rattle.mufom_plan.specs.declared.refusal.PlanRefusal.{PlanRefusal}
use Rattle.mufom_plan.specs.declared.refusal.PlanRefusal.TheVariants.{Shape}
use Rattle.mufom_plan.specs.Document.{has_only_keys, text_at}
use Rattle.mufom_plan.specs.Names.{AreDistinctNames, has_name, symbol_names}
use Rattle.mufom_plan.specs.PlanText.{◌>>=◌, or_refuse, unless, of_symbol, new_name, symbol_keys, kinds_in, value_of, symbol_of, symbols_of, after_symbols}

after_symbols-append : (first : List PlanSymbol) (symbol : PlanSymbol) (more : Result (List PlanSymbol) PlanRefusal)
    → after_symbols first (after_symbols (symbol ∷ []) more) ≡ after_symbols (first ++ symbol ∷ []) more
after_symbols-append first symbol (Ok symbols) = ap Ok (sym (append_assoc first (symbol ∷ []) symbols))
after_symbols-append first symbol (Err refusal) = refl

-- one more table gives one more symbol
pub symbols_of-next : (entries regions : List (List ℕ)) (taken : List PlanSymbol) (value : Data) (more : List Data) (table : Members) (symbol : PlanSymbol)
    → as_table value ≡ Some table → symbol_of (length taken) (symbol_names taken) entries regions table ≡ Ok symbol
    → after_symbols taken (symbols_of entries regions taken (value ∷ more))
    ≡ after_symbols (taken ++ symbol ∷ []) (symbols_of entries regions (taken ++ symbol ∷ []) more)
symbols_of-next entries regions taken value more table symbol is_table is_symbol =
    rw (is_table, is_symbol) (after_symbols-append taken symbol (symbols_of entries regions (taken ++ symbol ∷ []) more))

pub symbol_names-append : (xs : List PlanSymbol) (symbol : PlanSymbol) → symbol_names (xs ++ symbol ∷ []) ≡ symbol_names xs ++ symbol.name ∷ []
symbol_names-append xs symbol = map-append (λ s. s.name) xs (symbol ∷ [])

-- what is after symbols that were read
after_ok : (symbol : PlanSymbol) (more : Result (List PlanSymbol) PlanRefusal) (symbols : List PlanSymbol) → after_symbols (symbol ∷ []) more ≡ Ok symbols
    → (rest : List PlanSymbol) × (more ≡ Ok rest) × (symbols ≡ symbol ∷ rest)
after_ok symbol (Ok rest) symbols e = (rest, refl, cc)
after_ok symbol (Err refusal) symbols e = absurd cc

-- a new name is none of the earlier ones
is_new : (earlier : List (List ℕ)) (text : Option (List ℕ)) (name : List ℕ) → option_and_then (new_name earlier) text ≡ Some name
    → has_name earlier name ≡ false
is_new earlier None name e = absurd cc
is_new earlier (Some text) name e = by_case (length text == 0) (has_name earlier text) refl e where
  by_case : (empty known : Bool) → has_name earlier text ≡ known → cond (empty || known) None (Some text) ≡ Some name → has_name earlier name ≡ false
  by_case true known is h = absurd cc
  by_case false true is h = absurd cc
  by_case false false is h = let same : text ≡ name = cc in ap (has_name earlier) (sym same) ∙ is

-- a symbol that was read has a new name
symbol_of-new : (place : ℕ) (names entries regions : List (List ℕ)) (table : Members) (symbol : PlanSymbol)
    → symbol_of place names entries regions table ≡ Ok symbol → has_name names symbol.name ≡ false
symbol_of-new place names entries regions table symbol e = by_keys (has_only_keys symbol_keys table) e where
  found : Option (List ℕ)
  found = option_and_then (new_name names) (text_at (get_member (codes "name") table))

  by_value : (name : List ℕ) → found ≡ Some name → (value : Result SymbolValue PlanRefusal)
      → value >>= (λ v. Ok (record { name = name; value = v })) ≡ Ok symbol → has_name names symbol.name ≡ false
  by_value name is (Ok v) h =
      let whole : record { name = name; value = v } ≡ symbol = cc in
      ap (λ (s : PlanSymbol). has_name names s.name) (sym whole) ∙ is_new names (text_at (get_member (codes "name") table)) name is
  by_value name is (Err refusal) h = absurd cc

  by_kinds : (name : List ℕ) → found ≡ Some name → (one : Bool)
      → unless one (Shape (Some (at.Symbol place)) field.Kind) (value_of place entries regions table >>= λ v. Ok (record { name = name; value = v }))
      ≡ Ok symbol → has_name names symbol.name ≡ false
  by_kinds name is true h = by_value name is (value_of place entries regions table) h
  by_kinds name is false h = absurd cc

  by_name : (name : Option (List ℕ)) → found ≡ name
      → of_symbol place field.Name name >>= (λ n. unless (kinds_in table == 1) (Shape (Some (at.Symbol place)) field.Kind)
      (value_of place entries regions table >>= λ v. Ok (record { name = n; value = v }))) ≡ Ok symbol
      → has_name names symbol.name ≡ false
  by_name (Some name) is h = by_kinds name is (kinds_in table == 1) h
  by_name None is h = absurd cc

  by_keys : (only : Bool) → unless only (Shape (Some (at.Symbol place)) field.Extra) (of_symbol place field.Name found >>= λ n.
      unless (kinds_in table == 1) (Shape (Some (at.Symbol place)) field.Kind)
      (value_of place entries regions table >>= λ v. Ok (record { name = n; value = v }))) ≡ Ok symbol
      → has_name names symbol.name ≡ false
  by_keys true h = by_name found refl h
  by_keys false h = absurd cc

-- no name of the symbols that were read occurs twice
pub symbols_of-distinct : (entries regions : List (List ℕ)) (before : List PlanSymbol) (values : List Data) (symbols : List PlanSymbol)
    → symbols_of entries regions before values ≡ Ok symbols → AreDistinctNames (symbol_names before) → AreDistinctNames (symbol_names (before ++ symbols))
symbols_of-distinct entries regions before [] symbols e h = let empty : [] ≡ symbols = cc in
    subst (λ more. AreDistinctNames (symbol_names (before ++ more))) empty (subst (λ all. AreDistinctNames (symbol_names all)) (sym (append-nil before)) h)
symbols_of-distinct entries regions before (value ∷ more) symbols e h =
    by_table (as_table value) e (λ symbol. symbols_of-distinct entries regions (before ++ symbol ∷ []) more) where
      Later : Type 0
      Later = (symbol : PlanSymbol) (rest : List PlanSymbol) → symbols_of entries regions (before ++ symbol ∷ []) more ≡ Ok rest
          → AreDistinctNames (symbol_names (before ++ symbol ∷ [])) → AreDistinctNames (symbol_names ((before ++ symbol ∷ []) ++ rest))

      by_symbol : (table : Members) (answer : Result PlanSymbol PlanRefusal) → symbol_of (length before) (symbol_names before) entries regions table ≡ answer
          → answer >>= (λ symbol. after_symbols (symbol ∷ []) (symbols_of entries regions (before ++ symbol ∷ []) more)) ≡ Ok symbols → Later
          → AreDistinctNames (symbol_names (before ++ symbols))
      by_symbol table (Err refusal) is g later = absurd cc
      by_symbol table (Ok symbol) is g later =
          let parts = after_ok symbol (symbols_of entries regions (before ++ symbol ∷ []) more) symbols g in
          subst (λ all. AreDistinctNames (symbol_names all)) (append_assoc before (symbol ∷ []) parts.0 ∙ ap (λ rest. before ++ rest) (sym parts.2))
          (later symbol parts.0 parts.1 (subst AreDistinctNames (sym (symbol_names-append before symbol))
          (IsDistinct-push nat_list_eq_equiv (symbol_names before) symbol.name h
          (symbol_of-new (length before) (symbol_names before) entries regions table symbol is))))

      by_table : (table : Option Members)
          → or_refuse (Shape None field.Symbol) table >>= (λ found. symbol_of (length before) (symbol_names before) entries regions found >>= λ symbol.
          after_symbols (symbol ∷ []) (symbols_of entries regions (before ++ symbol ∷ []) more)) ≡ Ok symbols → Later
          → AreDistinctNames (symbol_names (before ++ symbols))
      by_table None g later = absurd cc
      by_table (Some table) g later =
          by_symbol table (symbol_of (length before) (symbol_names before) entries regions table) refl g later
