-- Lists of what remains, one element after another.
use Rattle.std.proofs.Common.{◌≡◌, ℕ, zero, suc, ◌+◌, ◌<◌, ◌≤◌, List, [], ◌∷◌, ◌++◌, length, drop, get_or, slice_get, Option, Some, None, is_some}
use Rattle.std.proofs.Common.{Bool, true, false, ◌||◌, ◌&&◌, refl, sym, ap, ◌∙◌, append_assoc, append-nil, arith}
use Rattle.std.specs.Str.{bytes_eq}
use Rattle.std.proofs.lemmas.List.{drop_more, drop_all}
use Rattle.mufom_names.specs.declared.name.Reference.{Reference}
use Rattle.mufom_names.specs.Index.{Entry, position_of, with_entry}
use Rattle.mufom_names.proofs.PositionLaws.{first_of, given, position_of-with}
use Rattle.mufom_plan.specs.Names.{has_name}
use Rattle.mufom_meaning.specs.Flat.{is_common}
use Rattle.mufom_prune.specs.Pruned.{remaining, remaining_names, with_commons}
use Rattle.mufom_prune.specs.Steps.{with_remaining}

pub past_default : (xs : List ℕ) (n d : ℕ) → slice_get xs n ≡ None → d ≡ get_or xs n d
past_default [] n d e = refl
past_default (x ∷ xs) zero d e = absurd cc
past_default (x ∷ xs) (suc n) d e = past_default xs n d e

-- ---- what remains

remaining_drop : {X : Type 0} (marks : List Bool) (xs : List X) (i : ℕ) (d : X) → i < length xs → length marks ≡ length xs
    → remaining (drop i marks) (drop i xs) ≡ remaining (get_or marks i false ∷ drop (i + 1) marks) (get_or xs i d ∷ drop (i + 1) xs)
remaining_drop marks xs i d low same = λ j. remaining (drop_more marks i false (omega (arith, low, same)) j) (drop_more xs i d low j)

-- one element that remains, made into another by f; g makes a list so
pub keep_step : {X Y : Type 0} (f : X → Y) (g : List X → List Y) → ((x : X) (ys : List X) → g (x ∷ ys) ≡ f x ∷ g ys)
    → (marks : List Bool) (xs : List X) (i : ℕ) (d : X) (rest new whole : List Y) → i < length xs → length marks ≡ length xs
    → get_or marks i false ≡ true → new ≡ rest ++ f (get_or xs i d) ∷ [] → rest ++ g (remaining (drop i marks) (drop i xs)) ≡ whole
    → new ++ g (remaining (drop (i + 1) marks) (drop (i + 1) xs)) ≡ whole
keep_step f g cons marks xs i d rest new whole low same marked is now =
    let later = remaining (drop (i + 1) marks) (drop (i + 1) xs) in
    ap (λ n. n ++ g later) is
    ∙ append_assoc rest (f (get_or xs i d) ∷ []) (g later)
    ∙ ap (λ n. rest ++ n) (sym (cons (get_or xs i d) later))
    ∙ ap (λ b. rest ++ g (remaining (b ∷ drop (i + 1) marks) (get_or xs i d ∷ drop (i + 1) xs))) (sym marked)
    ∙ ap (λ n. rest ++ g n) (sym (remaining_drop marks xs i d low same))
    ∙ now

-- one that goes
pub skip_step : {X Y : Type 0} (g : List X → List Y) (marks : List Bool) (xs : List X) (i : ℕ) (rest new whole : List Y) → i < length xs
    → length marks ≡ length xs
    → get_or marks i false ≡ false → new ≡ rest → rest ++ g (remaining (drop i marks) (drop i xs)) ≡ whole
    → new ++ g (remaining (drop (i + 1) marks) (drop (i + 1) xs)) ≡ whole
skip_step {X = X} g marks xs i rest new whole low same unmarked is now = by_drop (drop i xs) refl where
  by_drop : (ys : List X) → drop i xs ≡ ys → new ++ g (remaining (drop (i + 1) marks) (drop (i + 1) xs)) ≡ whole
  by_drop [] e = absurd (none xs i low e) where
    none : (zs : List X) (k : ℕ) → k < length zs → drop k zs ≡ [] → ⊥
    none [] k low e = absurd (omega (arith, low))
    none (z ∷ zs) zero low e = absurd cc
    none (z ∷ zs) (suc k) low e = none zs k (omega (arith, low)) e
  by_drop (d ∷ ys) e =
      let later = remaining (drop (i + 1) marks) (drop (i + 1) xs) in
      ap (λ n. n ++ g later) is
      ∙ ap (λ b. rest ++ g (remaining (b ∷ drop (i + 1) marks) (get_or xs i d ∷ drop (i + 1) xs))) (sym unmarked)
      ∙ ap (λ n. rest ++ g n) (sym (remaining_drop marks xs i d low same))
      ∙ now

-- ---- the names of marked references

pub index_keep : (marks : List Bool) (references : List Reference) (i : ℕ) (d : Reference) (index new whole : List Entry) → i < length references
    → length marks ≡ length references
    → get_or marks i false ≡ true → new ≡ with_entry index (get_or references i d).name 0 → with_remaining index (drop i marks) (drop i references) ≡ whole
    → with_remaining new (drop (i + 1) marks) (drop (i + 1) references) ≡ whole
index_keep marks references i d index new whole low same marked is now =
    ap (λ es. with_remaining es (drop (i + 1) marks) (drop (i + 1) references)) is
    ∙ ap (λ b. with_remaining index (b ∷ drop (i + 1) marks) (get_or references i d ∷ drop (i + 1) references)) (sym marked)
    ∙ sym (λ j. with_remaining index (drop_more marks i false (omega (arith, low, same)) j) (drop_more references i d low j))
    ∙ now

pub index_skip : (marks : List Bool) (references : List Reference) (i : ℕ) (index new whole : List Entry) → i < length references → length marks
    ≡ length references
    → get_or marks i false ≡ false → new ≡ index → with_remaining index (drop i marks) (drop i references) ≡ whole
    → with_remaining new (drop (i + 1) marks) (drop (i + 1) references) ≡ whole
index_skip marks references i index new whole low same unmarked is now =
    let d : Reference = record { name = []; weak = None; notes = [] } in
    ap (λ es. with_remaining es (drop (i + 1) marks) (drop (i + 1) references)) is
    ∙ ap (λ b. with_remaining index (b ∷ drop (i + 1) marks) (get_or references i d ∷ drop (i + 1) references)) (sym unmarked)
    ∙ sym (λ j. with_remaining index (drop_more marks i false (omega (arith, low, same)) j) (drop_more references i d low j))
    ∙ now

some_first : (o : Option ℕ) (b : Bool) (p : ℕ) → is_some (first_of o (given b p)) ≡ (is_some o || b)
some_first (Some n) b p = refl
some_first None true p = refl
some_first None false p = refl

or_assoc : (a b c : Bool) → ((a || b) || c) ≡ (a || (b || c))
or_assoc true b c = refl
or_assoc false b c = refl

or_no : (a : Bool) → a ≡ (a || false)
or_no true = refl
or_no false = refl

found : (es : List Entry) (marks : List Bool) (references : List Reference) (name : List ℕ)
    → is_some (position_of (with_remaining es marks references) name) ≡ (is_some (position_of es name) || has_name (remaining_names marks references) name)
found es [] references name = or_no (is_some (position_of es name))
found es (mark ∷ marks) [] name = or_no (is_some (position_of es name))
found es (true ∷ marks) (r ∷ references) name =
    found (with_entry es r.name 0) marks references name
    ∙ ap (λ b. b || has_name (remaining_names marks references) name) (ap is_some (position_of-with es r.name 0 name)
    ∙ some_first (position_of es name) (bytes_eq name r.name) 0)
    ∙ or_assoc (is_some (position_of es name)) (bytes_eq name r.name) (has_name (remaining_names marks references) name)
found es (false ∷ marks) (r ∷ references) name = found es marks references name

pub finds_remaining : (marks : List Bool) (references : List Reference) (name : List ℕ)
    → is_some (position_of (with_remaining [] marks references) name) ≡ has_name (remaining_names marks references) name
finds_remaining marks references name = found [] marks references name

-- ---- marks of references

pub commons_step : (names : List (List ℕ)) (marks : List Bool) (references : List Reference) (i : ℕ) (d : Reference) (all new whole : List Bool)
    → i < length references → length marks ≡ length references
    → new ≡ all ++ (get_or marks i false || (is_common (get_or references i d) && has_name names (get_or references i d).name)) ∷ []
    → all ++ with_commons names (drop i marks) (drop i references) ≡ whole
    → new ++ with_commons names (drop (i + 1) marks) (drop (i + 1) references) ≡ whole
commons_step names marks references i d all new whole low same is now =
    let r = get_or references i d in
    let later = with_commons names (drop (i + 1) marks) (drop (i + 1) references) in
    ap (λ n. n ++ later) is
    ∙ append_assoc all ((get_or marks i false || (is_common r && has_name names r.name)) ∷ []) later
    ∙ sym (λ j. all ++ with_commons names (drop_more marks i false (omega (arith, low, same)) j) (drop_more references i d low j))
    ∙ now

pub length-commons : (names : List (List ℕ)) (marks : List Bool) (references : List Reference) → length marks ≡ length references
    → length (with_commons names marks references) ≡ length references
length-commons names [] [] same = refl
length-commons names [] (r ∷ references) same = absurd (omega (arith, same))
length-commons names (mark ∷ marks) [] same = absurd (omega (arith, same))
length-commons names (mark ∷ marks) (r ∷ references) same = ap suc (length-commons names marks references (omega (arith, same)))

commons_none : (names : List (List ℕ)) (marks : List Bool) → with_commons names marks [] ≡ []
commons_none names [] = refl
commons_none names (mark ∷ marks) = refl

pub commons_end : (names : List (List ℕ)) (marks : List Bool) (references : List Reference) (i : ℕ) (all whole : List Bool) → length references ≤ i
    → all ++ with_commons names (drop i marks) (drop i references) ≡ whole → all ≡ whole
commons_end names marks references i all whole past e =
    sym (append-nil all) ∙ ap (λ n. all ++ n) (sym (ap (with_commons names (drop i marks)) (drop_all i references past)
    ∙ commons_none names (drop i marks))) ∙ e
