-- What is known of an index if each record of a prefix keeps to the rules after those before it.
use Rattle.std.proofs.Common.{◌≡◌, ℕ, ◌+◌, ◌<◌, ◌≤◌, arith, ◌==◌, ◌||◌, Bool, true, false, true≢false, cond, List, [], ◌∷◌, ◌++◌, filter_map, Option}
use Rattle.std.proofs.Common.{Some, None, refl, sym, ap, subst, ◌∙◌, append-nil, append_assoc, ne_eqb}
use Rattle.std.specs.Prelude.{unwrap_or}
use Rattle.std.specs.List.{cons_option, list_any}
use Rattle.std.proofs.lemmas.Bool.{or_parts}
use Rattle.std.proofs.lemmas.List.Elements.{filter_map-append}
use Rattle.std.proofs.lemmas.List.Folds.{list_any-append}
use Rattle.mufom_records.specs.declared.record.Record.{Record}
use Rattle.mufom_records.specs.declared.record.Record.TheVariants as r
use Rattle.mufom_names.specs.declared.name.Weak.{Weak}
use Rattle.mufom_module.specs.SpelledRecords.{SpelledRecord, tree_in, Kind, section, public, reference, declared, declared_by, of_kind, is_declared}
use Rattle.mufom_module.specs.SpelledRecords.{named_by, Once, value_of_public, weakness, alignment, section_size, section_base, is_same_statement}
use Rattle.mufom_module.specs.SpelledRecords.{assigned_by, is_assigned}
use Rattle.mufom_module.specs.Gathered.{answers, size_for, alignment_for, base_for, note_of, value_for, weak_for, public_note_for, reference_note_for}
use Rattle.mufom_module.specs.Grammar.{Follows, FollowFrom}
use Rattle.mufom_judging.specs.Prefixes.{OffsetRecord}
use Rattle.mufom_read.specs.NamesSoFar.{AreRising}
use Rattle.mufom_judging.proofs.ended.Trees.{named_known}

abbrev weak_of : ℕ → Option ℕ → Weak
weak_of n default = record { size = n; default = unwrap_or default 0 }

-- one more record that keeps to the rules
pub follow-more : (before a : List SpelledRecord) (p : SpelledRecord) → FollowFrom before a → Follows (before ++ a) p → FollowFrom before (a ++ p ∷ [])
follow-more before [] p all one = (subst (λ (l : List SpelledRecord). Follows l p) (append-nil before) one, tt)
follow-more before (q ∷ a) p all one = (
  all.0,
  follow-more (before
      ++ q ∷ []) a p all.1 (subst (λ (l : List SpelledRecord). Follows l p) (sym (append_assoc before (q ∷ []) a)) one),
)

-- ---- an index that is not declared

declared_first : (kind : Kind) (before more : List SpelledRecord) (i : ℕ) → is_declared before (kind, i) ≡ true → is_declared (before ++ more) (kind, i) ≡ true
declared_first kind before more i h =
    ap (list_any (λ n. n == i)) (filter_map-append (λ (q : SpelledRecord). of_kind kind (declared_by q.row)) before more)
    ∙ list_any-append (λ n. n == i) (declared kind before) (declared kind more) ∙ ap (λ b. b || is_declared more (kind, i)) h

-- Records state nothing of an index that none of them declares: each refers only to what those before it declare.
pub nothing-stated : {X : Type 0} (kind : Kind) (i : ℕ) (ask : SpelledRecord → Option X)
    → ((p : SpelledRecord) → (named_by p.row ≡ Some (kind, i) → ⊥) → ask p ≡ None)
    → (before ps : List SpelledRecord) → FollowFrom before ps → is_declared (before ++ ps) (kind, i) ≡ false → filter_map ask ps ≡ []
nothing-stated kind i ask silent before [] follow none = refl
nothing-stated kind i ask silent before (p ∷ ps) follow none =
    let unnamed = λ (named : named_by p.row ≡ Some (kind, i)). absurd {A =
    ⊥} (true≢false (sym (declared_first kind before (p ∷ ps) i (named_known before p (kind, i) named follow.0.known)) ∙ none)) in
    let rest = nothing-stated kind i ask silent (before ++ p ∷ []) ps follow.1 (ap (λ l. is_declared l (kind, i)) (append_assoc before (p ∷ []) ps) ∙ none) in
    (λ k. cons_option (silent p unnamed k) (rest k))

module _ (i : ℕ) (p : SpelledRecord) where
  pub value_silent : (row : Record) → (named_by row ≡ Some (public, i) → ⊥) → value_for i p row ≡ None
  value_silent (r.PublicValue j value) no_ = ap (λ b. cond b (Some (tree_in p value)) None) (ne_eqb i j (λ e. no_ (ap (λ n. Some (public, n)) (sym e))))
  value_silent row no_ = refl

  pub public_note_silent : (row : Record) → (named_by row ≡ Some (public, i) → ⊥) → public_note_for i row ≡ None
  public_note_silent (r.PublicNote j a b ns) no_ = ap (λ t. cond t (Some (note_of a b ns)) None) (ne_eqb i j (λ e. no_ (ap (λ n. Some (public, n)) (sym e))))
  public_note_silent row no_ = refl

  pub weak_silent : (row : Record) → (named_by row ≡ Some (reference, i) → ⊥) → weak_for i row ≡ None
  weak_silent (r.WeakReference j n default) no_ = ap (λ b. cond b (Some (weak_of n default)) None)
      (ne_eqb i j (λ e. no_ (ap (λ n. Some (reference, n)) (sym e))))
  weak_silent row no_ = refl

  pub size_silent : (row : Record) → (named_by row ≡ Some (section, i) → ⊥) → size_for i row ≡ None
  size_silent (r.SectionSize j n) no_ = ap (λ b. cond b (Some n) None) (ne_eqb i j (λ e. no_ (ap (λ n. Some (section, n)) (sym e))))
  size_silent row no_ = refl

  pub alignment_silent : (row : Record) → (named_by row ≡ Some (section, i) → ⊥) → alignment_for i row ≡ None
  alignment_silent (r.Alignment j n other) no_ = ap (λ b. cond b (Some n) None) (ne_eqb i j (λ e. no_ (ap (λ n. Some (section, n)) (sym e))))
  alignment_silent row no_ = refl

  pub base_silent : (row : Record) → (named_by row ≡ Some (section, i) → ⊥) → base_for i row ≡ None
  base_silent (r.SectionBase j n) no_ = ap (λ b. cond b (Some n) None) (ne_eqb i j (λ e. no_ (ap (λ n. Some (section, n)) (sym e))))
  base_silent row no_ = refl

  pub reference_note_silent : (row : Record) → (named_by row ≡ Some (reference, i) → ⊥) → reference_note_for i row ≡ None
  reference_note_silent (r.ReferenceNote j a b ns) no_ = ap (λ t. cond t (Some (note_of a b ns)) None)
      (ne_eqb i j (λ e. no_ (ap (λ n. Some (reference, n)) (sym e))))
  reference_note_silent row no_ = refl

-- ---- what was not stated yet

-- a record states this
abbrev states_it : Once → Option Once → Bool
states_it once None = false
states_it once (Some other) = is_same_statement once other

neither : (once : Once) (first : Option Once) (more : List Once) → list_any (is_same_statement once) (cons_option first more) ≡ false
    → (states_it once first ≡ false) × (list_any (is_same_statement once) more ≡ false)
neither once None more h = (refl, h)
neither once (Some other) more h = or_parts (is_same_statement once other) _ h

-- Nothing is found in records of which none states it, if it is found only in a record that states it.
unstated : {X : Type 0} (once : Once) (ask : SpelledRecord → Option X) → ((p : SpelledRecord) → states_it once (assigned_by p.row) ≡ false → ask p ≡ None)
    → (ps : List SpelledRecord) → is_assigned ps once ≡ false → filter_map ask ps ≡ []
unstated once ask silent [] h = refl
unstated once ask silent (p ∷ ps) h =
    let both = neither once (assigned_by p.row) (filter_map (λ q. assigned_by q.row) ps) h in
    let none = silent p both.0 in
    let rest = unstated once ask silent ps both.1 in
    λ k. cons_option (none k) (rest k)

unvalued : (i : ℕ) (p : SpelledRecord) (row : Record) → states_it (value_of_public i) (assigned_by row) ≡ false → value_for i p row ≡ None
unvalued i p (r.PublicValue j value) h = ap (λ b. cond b (Some (tree_in p value)) None) h
unvalued i p row h = refl

-- no value is found for the public if none was stated
pub value-unstated : (i : ℕ) (ps : List SpelledRecord) → is_assigned ps (value_of_public i) ≡ false → filter_map (λ p. value_for i p p.row) ps ≡ []
value-unstated i = unstated (value_of_public i) (λ p. value_for i p p.row) (λ p. unvalued i p p.row)

strong : (i : ℕ) (row : Record) → states_it (weakness i) (assigned_by row) ≡ false → weak_for i row ≡ None
strong i (r.WeakReference j n other) h = ap (λ b. cond b (Some (weak_of n other)) None) h
strong i row h = refl

-- nothing makes the reference weak if no record says so
pub weak-unstated : (i : ℕ) (ps : List SpelledRecord) → is_assigned ps (weakness i) ≡ false → answers (weak_for i) ps ≡ []
weak-unstated i = unstated (weakness i) (λ p. weak_for i p.row) (λ p. strong i p.row)

unsized : (i : ℕ) (row : Record) → states_it (section_size i) (assigned_by row) ≡ false → size_for i row ≡ None
unsized i (r.SectionSize j n) h = ap (λ b. cond b (Some n) None) h
unsized i row h = refl

-- no size is found for the section if none was stated
pub size-unstated : (i : ℕ) (ps : List SpelledRecord) → is_assigned ps (section_size i) ≡ false → answers (size_for i) ps ≡ []
size-unstated i = unstated (section_size i) (λ p. size_for i p.row) (λ p. unsized i p.row)

unaligned : (i : ℕ) (row : Record) → states_it (alignment i) (assigned_by row) ≡ false → alignment_for i row ≡ None
unaligned i (r.Alignment j n other) h = ap (λ b. cond b (Some n) None) h
unaligned i row h = refl

-- no alignment is found for the section if none was stated
pub alignment-unstated : (i : ℕ) (ps : List SpelledRecord) → is_assigned ps (alignment i) ≡ false → answers (alignment_for i) ps ≡ []
alignment-unstated i = unstated (alignment i) (λ p. alignment_for i p.row) (λ p. unaligned i p.row)

unbased : (i : ℕ) (row : Record) → states_it (section_base i) (assigned_by row) ≡ false → base_for i row ≡ None
unbased i (r.SectionBase j n) h = ap (λ b. cond b (Some n) None) h
unbased i row h = refl

-- no base is found for the section if none was stated
pub base-unstated : (i : ℕ) (ps : List SpelledRecord) → is_assigned ps (section_base i) ≡ false → answers (base_for i) ps ≡ []
base-unstated i = unstated (section_base i) (λ p. base_for i p.row) (λ p. unbased i p.row)

-- ---- offsets that rise

pub rising-more : (from : ℕ) (placed : List OffsetRecord) (n m : ℕ) (p : SpelledRecord) → AreRising from placed n → n < m
    → AreRising from (placed ++ (n, p) ∷ []) m
rising-more from [] n m p rising more = (rising, omega (arith, more))
rising-more from (q ∷ placed) n m p rising more = (rising.0, rising-more (q.0 + 1) placed n m p rising.1 more)

pub rising-on : (from : ℕ) (placed : List OffsetRecord) (n m : ℕ) → AreRising from placed n → n ≤ m → AreRising from placed m
rising-on from [] n m rising more = omega (arith, rising, more)
rising-on from (q ∷ placed) n m rising more = (rising.0, rising-on (q.0 + 1) placed n m rising.1 more)
