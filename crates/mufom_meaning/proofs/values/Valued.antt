-- If no fact of names holds and there is no zero divisor, each expression has a value.
use Rattle.std.proofs.Common.{◌≡◌, ◌≢◌, ℕ, inl, inr, List, [], ◌∷◌, Option, Some, None, Bool, true, false, refl, sym, ◌∙◌, ap, subst}
use Rattle.std.specs.Prelude.{slice_get, option_map, if◌then◌else◌, ◌==◌, ◌%◌, ◌+◌}
use Rattle.mufom_expr.specs.declared.token.FieldKind.{FieldKind}
use Rattle.mufom_expr.specs.Tree.{Tree}
use Rattle.mufom_loads.specs.declared.load.Item.TheVariants.{Literal, Field}
use Rattle.mufom_module.specs.declared.module.Parts.{Parts}
use Rattle.mufom_meaning.specs.declared.located.Site.{Site}
use Rattle.mufom_meaning.specs.declared.located.Site.TheVariants as sites
use Rattle.mufom_meaning.specs.Flat.{Sited, SitedPublic, flat_publics}
use Rattle.mufom_meaning.specs.Values.{Setting, value, has_zero_divisor}
use Rattle.mufom_meaning.specs.Steps.{Step, counter_step, item_step, steps, counter}
use Rattle.mufom_meaning.specs.Stands.{StandsIn, IsStepAfter, put_back, HasZeroDivisor}
use Rattle.mufom_meaning.specs.Valued.{CounterPlace, counter_there, IsExpressionAt, IsMentionedIn, MeetsZeroDivisor, itself, through_name}
use Rattle.mufom_meaning.specs.Valued.{through_counter, section_of, HaveValues}
use Rattle.mufom_numbers.proofs.Choices.{mapped_none, equal_numbers}
use Rattle.mufom_meaning.proofs.values.Ends.{mentioned-among}
use Rattle.mufom_meaning.proofs.values.Lacks.{IsPlain, HasBase, IsWellStep, HasAllNamed, step-In, Why, why, plain_meets, step_meets}
use Rattle.mufom_loads.specs.Lengths.{byte_count}

step_based : (s : Setting) (step : Step) → IsWellStep s step → HasBase s (section_of step)
step_based s (counter_step site section t) w = w.0
step_based s (item_step site section (Literal bytes)) w = w
step_based s (item_step site section (Field kind size t)) w = w.0

-- an expression without a counter, or one at a step
module _ (ms : List Parts) (s : Setting) (h : HasAllNamed ms s) (flat : s.publics ≡ flat_publics ms) where
  plain_there : (site : Sited) (t : Tree) → IsExpressionAt ms None site t → IsPlain s site t
  plain_there site t (inl p) =
      let found : slice_get s.publics p.1.0 ≡ Some p.0 = ap (λ qs. slice_get qs p.1.0) flat ∙ p.1.1 in
      let plain = h.publics p.0 (p.1.0, found) in moved p.0 plain p.2 p.3 where
        moved : (q : SitedPublic) → IsPlain s q.site q.entry.value → q.site ≡ site → q.entry.value ≡ t → IsPlain s site t
        moved q plain a b = subst (λ (x : Sited × Tree). IsPlain s x.0 x.1) (λ i. (a i, b i)) plain
  plain_there site t (inr (inl p)) = h.starts (site, t) p
  plain_there site t (inr (inr p)) = h.marks (site, t) p

  pub none_meets : (c : CounterPlace) (site : Sited) (t : Tree) → IsExpressionAt ms c site t → value s site (counter_there s c) t ≡ None
      → MeetsZeroDivisor s c site t
  none_meets None site t at e = plain_meets ms s h site t (plain_there site t at) e
  none_meets (Some c) site t (inl p) e =
      let w = h.loads (counter_step site c.1 t) (step-In ms c.0 (counter_step site c.1 t) p.0 p.1) in
      step_meets ms s h c.0 c.1 site t w.1 w.0 (counter_step site c.1 t ∷ p.0) p.1 e
  none_meets (Some c) site t (inr p) e =
      let item = Field p.0 p.1 t in
      let w = h.loads (item_step site c.1 item) (step-In ms c.0 (item_step site c.1 item) p.2.0 p.2.1) in
      step_meets ms s h c.0 c.1 site t w.1 w.0 (item_step site c.1 item ∷ p.2.0) p.2.1 e

  module _ (clear : (place : Site) → ¬ HasZeroDivisor ms s place) where
    -- from a public no zero divisor is found
    public_clear : (c : CounterPlace) (site : Sited) (t : Tree) → MeetsZeroDivisor s c site t → c ≡ None → (q : SitedPublic) → StandsIn q s.publics
        → q.site ≡ site → q.entry.value ≡ t → ⊥
    public_clear _ _ _ (itself c site t d) none q a e f =
        let there : has_zero_divisor s q.site None q.entry.value ≡ true = (λ i. has_zero_divisor s (e i) (counter_there s (sym none i)) (f i)) ∙ d in
        clear (sites.Public q.entry.name) (q, a, refl, there)
    public_clear _ _ _ (through_name c site t p m later) none q a e f =
        public_clear None p.site p.entry.value later refl p (mentioned-among s site t p m) refl refl
    public_clear _ _ _ (through_counter earlier before section n site setter t set m last later) none q a e f = cc

    mentioned_clear : (site : Sited) (t : Tree) → (q : SitedPublic) × IsMentionedIn s site t q × MeetsZeroDivisor s None q.site q.entry.value → ⊥
    mentioned_clear site t m = public_clear None m.0.site m.0.entry.value m.2 refl m.0 (mentioned-among s site t m.0 m.1) refl refl

    -- each counter is there
    counter_there_is : (earlier more : List Step) → steps ms ≡ put_back earlier more → (section : ℕ) → HasBase s section → counter s earlier section ≢ None
    unfolding counter
    counter_there_is [] more at section based e = based (mapped_none (λ base. base % s.modulus) (slice_get s.bases section) e)
    counter_there_is (counter_step site other t ∷ earlier) more at section based e =
        by_case (other == section) refl e (counter_there_is earlier (counter_step site other t ∷ more) at section based) where
          by_case : (b : Bool) → (other == section) ≡ b → (if b then value s site (counter s earlier section) t else counter s earlier section) ≡ None
              → counter s earlier section ≢ None → ⊥
          by_case true same e later =
              by_why (why ms s h site (counter s earlier section) t (h.loads (counter_step site other t)
              (step-In ms earlier (counter_step site other t) more at)).1 e) where
                by_why : Why ms s h site (counter s earlier section) t → ⊥
                by_why (inl p) = later p.2
                by_why (inr (inl m)) = mentioned_clear site t m
                by_why (inr (inr d)) =
                    let equal : other ≡ section = equal_numbers other section same in
                    clear (sites.Counter section) (earlier, site, t, (more, at ∙ ap (λ n. put_back earlier (counter_step site n t ∷ more)) equal), d)
          by_case false same e later = later e
    counter_there_is (item_step site other item ∷ earlier) more at section based e =
        by_case (other == section) e (counter_there_is earlier (item_step site other item ∷ more) at section based) where
          by_case : (b : Bool) → (if b then option_map (λ pc. (pc + byte_count item) % s.modulus) (counter s earlier section)
              else counter s earlier section) ≡ None
              → counter s earlier section ≢ None → ⊥
          by_case true e later = later (mapped_none (λ pc. (pc + byte_count item) % s.modulus) (counter s earlier section) e)
          by_case false e later = later e

    plain_clear : (site : Sited) (t : Tree) → IsExpressionAt ms None site t → has_zero_divisor s site None t ≡ true → ⊥
    plain_clear site t (inl p) d =
        let found : slice_get s.publics p.1.0 ≡ Some p.0 = ap (λ qs. slice_get qs p.1.0) flat ∙ p.1.1 in
        clear (sites.Public p.0.entry.name) (p.0, (p.1.0, found), refl, (λ i. has_zero_divisor s (p.2 i) None (p.3 i)) ∙ d)
    plain_clear site t (inr (inl p)) d = clear sites.Start ((site, t), p, d)
    plain_clear site t (inr (inr p)) d = clear (sites.Debug p.0) ((site, t), p.1, d)

    field_clear : (earlier : List Step) (section : ℕ) (site : Sited) (kind : FieldKind) (t : Tree) (size : ℕ)
        → IsStepAfter ms earlier (item_step site section (Field kind size t))
        → has_zero_divisor s site (counter s earlier section) t ≡ true → ⊥
    field_clear earlier section site kind t size at d = by_counter (counter s earlier section) refl d where
      by_counter : (o : Option ℕ) → counter s earlier section ≡ o → has_zero_divisor s site o t ≡ true → ⊥
      by_counter None e d =
          let w = h.loads (item_step site section (Field kind size t)) (step-In ms earlier (item_step site section (Field kind size t)) at.0 at.1) in
          counter_there_is earlier (item_step site section (Field kind size t) ∷ at.0) at.1 section w.0 e
      by_counter (Some pc) e d = clear (sites.Field section pc) (earlier, site, kind, t, size, (at, e), d)

    expression_valued : (c : CounterPlace) (site : Sited) (t : Tree) → IsExpressionAt ms c site t → value s site (counter_there s c) t ≢ None
    expression_valued None site t at e = by_why (why ms s h site None t (plain_there site t at).well e) where
      by_why : Why ms s h site None t → ⊥
      by_why (inl p) = (plain_there site t at).free p.0 p.1
      by_why (inr (inl m)) = mentioned_clear site t m
      by_why (inr (inr d)) = plain_clear site t at d
    expression_valued (Some c) site t (inl p) e =
        let w = h.loads (counter_step site c.1 t) (step-In ms c.0 (counter_step site c.1 t) p.0 p.1) in
        by_why w.0 (why ms s h site (counter s c.0 c.1) t w.1 e) where
          by_why : HasBase s c.1 → Why ms s h site (counter s c.0 c.1) t → ⊥
          by_why based (inl n) = counter_there_is c.0 (counter_step site c.1 t ∷ p.0) p.1 c.1 based n.2
          by_why based (inr (inl m)) = mentioned_clear site t m
          by_why based (inr (inr d)) = clear (sites.Counter c.1) (c.0, site, t, p, d)
    expression_valued (Some c) site t (inr p) e =
        let item = Field p.0 p.1 t in
        let w = h.loads (item_step site c.1 item) (step-In ms c.0 (item_step site c.1 item) p.2.0 p.2.1) in
        by_why w.0 (why ms s h site (counter s c.0 c.1) t w.1 e) where
          by_why : HasBase s c.1 → Why ms s h site (counter s c.0 c.1) t → ⊥
          by_why based (inl n) = counter_there_is c.0 (item_step site c.1 (Field p.0 p.1 t) ∷ p.2.0) p.2.1 c.1 based n.2
          by_why based (inr (inl m)) = mentioned_clear site t m
          by_why based (inr (inr d)) = field_clear c.0 c.1 site p.0 t p.1 p.2 d

    pub have_values : HaveValues ms s
    have_values = record {
      expressions = expression_valued;
      counters = λ earlier step at. counter_there_is earlier (step ∷ at.0) at.1 (section_of step)
          (step_based s step (h.loads step (step-In ms earlier step at.0 at.1)));
    }
