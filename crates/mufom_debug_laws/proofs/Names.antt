-- The records after a debug part see the same names, whether or not the debug part is read.
use Rattle.std.proofs.Common.{◌≡◌, ℕ, Bool, true, false, not, ◌&&◌, ◌||◌, ◌==◌, List, [], ◌∷◌, ◌++◌, map, Option, Some, None, cond, option_to_list}
use Rattle.std.proofs.Common.{refl, sym, ap, subst, ◌∙◌, append_assoc, append-nil, filter_map, eqb-true}
use Rattle.std.specs.List.{list_all, list_any, cons_option, AllByRecursion}
use Rattle.std.proofs.lemmas.Bool.{and_parts, or_from}
use Rattle.std.proofs.lemmas.List.Elements.{filter_map-append}
use Rattle.std.proofs.lemmas.List.Folds.{list_any-append}
use Rattle.mufom_expr.specs.declared.token.Letter.{Letter}
use Rattle.mufom_expr.specs.declared.token.Letter.TheVariants.{I, L, P, R, S, X}
use Rattle.mufom_expr.specs.Value.{variables_of}
use Rattle.mufom_debug.specs.Marks.{joined}
use Rattle.mufom_records.specs.declared.record.Record.{Record}
use Rattle.mufom_records.specs.declared.record.Record.TheVariants as r
use Rattle.mufom_module.specs.Contents.{any_of}
use Rattle.mufom_module.specs.SpelledRecords as spelled
use Rattle.mufom_module.specs.SpelledRecords.{SpelledRecord, Kind, debug_name, is_same_kind, FileIndex, declared_by, of_kind, declared, is_declared}
use Rattle.mufom_module.specs.SpelledRecords.{named_by, named_in_expression, named_at_once, index_of_variable, tree_of_record, is_public_value}
use Rattle.mufom_module.specs.SpelledRecords.{is_same_statement, assigned_by}
use Rattle.mufom_module.specs.RecordParts.{Part, debug_part, number_of, part_of, is_this_part, stands_in, is_set_section, is_loading}
use Rattle.mufom_module.specs.Grammar.{Follows, FollowFrom}

-- all records are in this part
abbrev pub AreIn : Part → List SpelledRecord → Type 0
AreIn part records = list_all (λ p. stands_in part p.row) records ≡ true

-- ---- what the records of a debug part declare

declares-none : (kind : Kind) → is_same_kind kind debug_name ≡ false → (row : Record) → stands_in debug_part row ≡ true → of_kind kind (declared_by row) ≡ None
declares-none kind other (r.SectionType i absolute letter name a b c) h = cc
declares-none kind other (r.PublicName i name) h = cc
declares-none kind other (r.ReferenceName i name) h = cc
declares-none kind other (r.DebugName i name) h = ap (λ b. cond b (Some i) None) other
declares-none kind other row h = refl

assigns-none : (row : Record) → stands_in debug_part row ≡ true → assigned_by row ≡ None
assigns-none (r.PublicValue i value) h = cc
assigns-none (r.WeakReference i n default) h = cc
assigns-none (r.Alignment i n other) h = cc
assigns-none (r.SectionSize i n) h = cc
assigns-none (r.SectionBase i n) h = cc
assigns-none (r.Start value) h = cc
assigns-none row h = refl

sets-none : (row : Record) → stands_in debug_part row ≡ true → is_set_section row ≡ false
sets-none (r.SetSection i) h = cc
sets-none row h = refl

none-of : {X : Type 0} (ask : Record → Option X) → ((row : Record) → stands_in debug_part row ≡ true → ask row ≡ None)
    → (records : List SpelledRecord) → AreIn debug_part records → filter_map (λ p. ask p.row) records ≡ []
none-of ask quiet [] h = refl
none-of ask quiet (p ∷ records) h = let both = and_parts (stands_in debug_part p.row) _ h in
    (λ i. cons_option (quiet p.row both.0 i) (none-of ask quiet records both.1 i))

none-set : (records : List SpelledRecord) → AreIn debug_part records → list_any (λ q. is_set_section q.row) records ≡ false
none-set [] h = refl
none-set (p ∷ records) h = let both = and_parts (stands_in debug_part p.row) _ h in
    or_from (is_set_section p.row) _ (sets-none p.row both.0) (none-set records both.1)

-- ---- records that see the same before them

-- two lists of records that declare the same indexes but those of debug names, and state the same
pub record SeesAlike (x y : List SpelledRecord) : Type 0 where
  pub names : (kind : Kind) → is_same_kind kind debug_name ≡ false → declared kind x ≡ declared kind y
  pub once : filter_map (λ p. assigned_by p.row) x ≡ filter_map (λ p. assigned_by p.row) y
  pub set : list_any (λ q. is_set_section q.row) x ≡ list_any (λ q. is_set_section q.row) y

or-false : (b : Bool) → (b || false) ≡ b
or-false true = refl
or-false false = refl

pub without-debug-records : (x d : List SpelledRecord) → AreIn debug_part d → SeesAlike (x ++ d) x
without-debug-records x d own = record {
  names = λ kind other. filter_map-append (λ p. of_kind kind (declared_by p.row)) x d
      ∙ ap (λ l. declared kind x ++ l) (none-of (λ row. of_kind kind (declared_by row)) (declares-none kind other) d own) ∙ append-nil _;
  once = filter_map-append (λ p. assigned_by p.row) x d
      ∙ ap (λ l. filter_map (λ p. assigned_by p.row) x ++ l) (none-of assigned_by assigns-none d own) ∙ append-nil _;
  set = list_any-append (λ q. is_set_section q.row) x d
      ∙ ap (λ b. list_any (λ q. is_set_section q.row) x || b) (none-set d own) ∙ or-false _;
}

alike-with : (x y : List SpelledRecord) (p : SpelledRecord) → SeesAlike x y → SeesAlike (x ++ p ∷ []) (y ++ p ∷ [])
alike-with x y p are = let one = p ∷ [] in record {
  names = λ kind other. filter_map-append (λ q. of_kind kind (declared_by q.row)) x one ∙ ap (λ l. l ++ declared kind one) (are.names kind other)
      ∙ sym (filter_map-append (λ q. of_kind kind (declared_by q.row)) y one);
  once = filter_map-append (λ q. assigned_by q.row) x one ∙ ap (λ l. l ++ filter_map (λ q. assigned_by q.row) one) are.once
      ∙ sym (filter_map-append (λ q. assigned_by q.row) y one);
  set = list_any-append (λ q. is_set_section q.row) x one ∙ ap (λ b. b || list_any (λ q. is_set_section q.row) one) are.set
      ∙ sym (list_any-append (λ q. is_set_section q.row) y one);
}

-- ---- records outside the debug part name no debug names

-- an index of a debug name
abbrev is_debug_index : FileIndex → Bool
is_debug_index index = is_same_kind index.0 debug_name

names-other : (row : Record) → stands_in debug_part row ≡ false → any_of is_debug_index (named_by row) ≡ false
names-other (r.BlockBegin kind n name block) h = absurd cc
names-other (r.DebugValue i value) h = absurd cc
names-other (r.DebugNote i type_index attribute ns) h = absurd cc
names-other row h = refl

variable-other : (letter : Letter) (n : ℕ) → is_debug_index (index_of_variable (letter, n)) ≡ false
variable-other I n = refl
variable-other L n = refl
variable-other P n = refl
variable-other R n = refl
variable-other S n = refl
variable-other X n = refl

variables-other : (variables : List (Letter × ℕ)) → list_any is_debug_index (map index_of_variable variables) ≡ false
variables-other [] = refl
variables-other (v ∷ variables) = or_from (is_debug_index (index_of_variable v)) _ (variable-other v.0 v.1) (variables-other variables)

expression-other : (p : SpelledRecord) → list_any is_debug_index (named_in_expression p) ≡ false
expression-other p = variables-other (joined (map variables_of (option_to_list (tree_of_record p))))

either-other : (o : Option FileIndex) (test : Bool) (named : List FileIndex) → any_of is_debug_index o ≡ false → list_any is_debug_index named ≡ false
    → list_any is_debug_index (option_to_list o ++ cond test [] named) ≡ false
either-other None true named h k = refl
either-other None false named h k = k
either-other (Some index) true named h k = or_from (is_debug_index index) _ h refl
either-other (Some index) false named h k = or_from (is_debug_index index) _ h k

pub at-once-other : (p : SpelledRecord) → stands_in debug_part p.row ≡ false → list_any is_debug_index (named_at_once p) ≡ false
at-once-other p h = either-other (named_by p.row) (is_public_value p.row) (named_in_expression p) (names-other p.row h) (expression-other p)

or-parts : (a b : Bool) → (a || b) ≡ false → (a ≡ false) × (b ≡ false)
or-parts true b h = absurd cc
or-parts false b h = (refl, h)

declared-alike : (x y : List SpelledRecord) → SeesAlike x y → (named : List FileIndex) → list_any is_debug_index named ≡ false
    → list_all (is_declared x) named ≡ list_all (is_declared y) named
declared-alike x y are [] h = refl
declared-alike x y are (index ∷ named) h =
    let both = or-parts (is_debug_index index) _ h in
    (λ i. list_any (λ n. n == index.1) (are.names index.0 both.0 i) && declared-alike x y are named both.1 i)

-- ---- the rules on records, after both lists

declares-alike : (x y : List SpelledRecord) (row : Record) → SeesAlike x y → stands_in debug_part row ≡ false
    → any_of (is_declared x) (declared_by row) ≡ any_of (is_declared y) (declared_by row)
declares-alike x y (r.DebugName i name) are h = absurd cc
declares-alike x y (r.SectionType i absolute letter name a b c) are h = λ j. list_any (λ n. n == i) (are.names spelled.section refl j)
declares-alike x y (r.PublicName i name) are h = λ j. list_any (λ n. n == i) (are.names spelled.public refl j)
declares-alike x y (r.ReferenceName i name) are h = λ j. list_any (λ n. n == i) (are.names spelled.reference refl j)
declares-alike x y row are h = refl

pub follows-alike : (x y : List SpelledRecord) (p : SpelledRecord) → SeesAlike x y → stands_in debug_part p.row ≡ false → Follows x p → Follows y p
follows-alike x y p are outside h = record {
  new = sym (declares-alike x y p.row are outside) ∙ h.new;
  known = ap not (sym (declared-alike x y are (named_at_once p) (at-once-other p outside))) ∙ h.known;
  once = (λ i. any_of (λ once. list_any (is_same_statement once) (sym are.once i)) (assigned_by p.row)) ∙ h.once;
  placed = ap (λ b. is_loading p.row && not b) (sym are.set) ∙ h.placed;
}

other-part : (part other : Part) (o : Option Part) → (number_of part == number_of other) ≡ false → is_this_part other o ≡ true → is_this_part part o ≡ false
other-part part other None differ h = refl
other-part part other (Some it) differ h = ap (λ n. number_of part == n) (sym (eqb-true (number_of other) (number_of it) h)) ∙ differ

-- no record is in the debug part
abbrev pub AreOutside : List SpelledRecord → Type 0
AreOutside records = AllByRecursion (λ p. stands_in debug_part p.row ≡ false) records

pub outside-of : (other : Part) → (4 == number_of other) ≡ false → (records : List SpelledRecord) → AreIn other records → AreOutside records
outside-of other differ [] own = tt
outside-of other differ (p ∷ records) own = let both = and_parts (stands_in other p.row) _ own in
    (other-part debug_part other (part_of p.row) differ both.0, outside-of other differ records both.1)

pub outside-append : (a b : List SpelledRecord) → AreOutside a → AreOutside b → AreOutside (a ++ b)
outside-append [] b left right = right
outside-append (p ∷ a) b left right = (left.0, outside-append a b left.1 right)

pub follow-alike : (x y records : List SpelledRecord) → SeesAlike x y → AreOutside records → FollowFrom x records → FollowFrom y records
follow-alike x y [] are outside h = tt
follow-alike x y (p ∷ records) are outside h = (
  follows-alike x y p are outside.0 h.0,
  follow-alike (x ++ p ∷ []) (y ++ p ∷ []) records (alike-with x y p are) outside.1 h.1,
)

-- ---- lists of records in order

pub follow-parts : (before a b : List SpelledRecord) → FollowFrom before (a ++ b) → FollowFrom before a × FollowFrom (before ++ a) b
follow-parts before [] b h = (tt, subst (λ (l : List SpelledRecord). FollowFrom l b) (sym (append-nil before)) h)
follow-parts before (p ∷ a) b h =
    let rest = follow-parts (before ++ p ∷ []) a b h.1 in
    ((h.0, rest.0), subst (λ (l : List SpelledRecord). FollowFrom l b) (append_assoc before (p ∷ []) a) rest.1)

pub follow-append : (before a b : List SpelledRecord) → FollowFrom before a → FollowFrom (before ++ a) b → FollowFrom before (a ++ b)
follow-append before [] b x y = subst (λ (l : List SpelledRecord). FollowFrom l b) (append-nil before) y
follow-append before (p ∷ a) b x y =
    (x.0, follow-append (before ++ p ∷ []) a b x.1 (subst (λ (l : List SpelledRecord). FollowFrom l b) (sym (append_assoc before (p ∷ []) a)) y))

-- the debug records left out
pub follow-without : (s e d rest : List SpelledRecord) → AreIn debug_part d → AreOutside rest → FollowFrom [] (s ++ (e ++ (d ++ rest)))
    → FollowFrom [] (s ++ (e ++ rest))
follow-without s e d rest own outside h =
    let first = follow-parts [] s (e ++ (d ++ rest)) h in
    let second = follow-parts s e (d ++ rest) first.1 in
    let third = follow-parts (s ++ e) d rest second.1 in
    let last = follow-alike ((s ++ e) ++ d) (s ++ e) rest (without-debug-records (s ++ e) d own) outside third.1 in
    follow-append [] s (e ++ rest) first.0 (follow-append s e rest second.0 last)
