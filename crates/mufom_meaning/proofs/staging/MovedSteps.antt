-- The steps of a list with a link correspond to those of the list with the group, and mean the same.
use Rattle.std.proofs.Common.{◌≡◌, ℕ, ◌+◌, List, [], ◌∷◌, length, Option, refl, ◌∙◌, ap}
use Rattle.std.specs.Prelude.{option_map, ◌==◌, ◌%◌, slice_get, if◌then◌else◌}
use Rattle.mufom_expr.specs.declared.token.FieldKind.{FieldKind}
use Rattle.mufom_expr.specs.Tree.{Tree}
use Rattle.mufom_loads.specs.declared.load.Item.TheVariants.{Literal, Field}
use Rattle.mufom_module.specs.declared.module.Parts.{Parts}
use Rattle.mufom_meaning.specs.Flat.{Sited}
use Rattle.mufom_meaning.specs.Values.{Setting, value}
use Rattle.mufom_meaning.specs.Steps.{Step, counter_step, item_step, counter, step_reading, readings_after}
use Rattle.mufom_meaning.proofs.Paired.{Paired}
use Rattle.mufom_meaning.proofs.staging.Moved.{MovedTree, stays, AreSettings, same_value}

-- a step, and the step that it comes from
pub data MovedStep (ms : List Parts) (home : Sited) : Step → Step → Type 0 where
  counters : (site site' : Sited) (section section' : ℕ) (t t' : Tree) → section ≡ section' → MovedTree ms home site t site' t'
      → MovedStep ms home (counter_step site section t) (counter_step site' section' t')
  literals : (site site' : Sited) (section section' : ℕ) (bytes : List ℕ) → section ≡ section'
      → MovedStep ms home (item_step site section (Literal bytes)) (item_step site' section' (Literal bytes))
  fields : (site site' : Sited) (section section' : ℕ) (kind : FieldKind) (size : ℕ) (t t' : Tree) → section ≡ section' → MovedTree ms home site t site' t'
      → MovedStep ms home (item_step site section (Field kind size t)) (item_step site' section' (Field kind size t'))

module _ (ms : List Parts) (home : Sited) where
  pub stays_step : (step : Step) → MovedStep ms home step step
  stays_step (counter_step site section t) = counters site site section section t t refl (stays site t)
  stays_step (item_step site section (Literal bytes)) = literals site site section section bytes refl
  stays_step (item_step site section (Field kind size t)) = fields site site section section kind size t t refl (stays site t)

module _ (ms : List Parts) (home : Sited) (s other : Setting) (h : AreSettings ms home s other) where
  abbrev R : Step → Step → Type 0
  R = MovedStep ms home

  chosen : (section section' wanted : ℕ) → section ≡ section' → (x x' y y' : Option ℕ) → x ≡ x' → y ≡ y'
      → (if section == wanted then x else y) ≡ (if section' == wanted then x' else y')
  chosen section section' wanted e x x' y y' p q = cc

  counter_after : (step step' : Step) → R step step' → (earlier earlier' : List Step) (wanted : ℕ) → counter s earlier wanted ≡ counter other earlier' wanted
      → counter s (step ∷ earlier) wanted ≡ counter other (step' ∷ earlier') wanted
  unfolding counter
  counter_after _ _ (counters site site' section section' t t' e m) earlier earlier' wanted before =
      let set : value s site (counter s earlier wanted) t ≡ value other site' (counter other earlier' wanted) t'
      = same_value ms home s other h (counter s earlier wanted) site t site' t' m ∙ ap (λ pc. value other site' pc t') before in
      chosen section section' wanted e _ _ _ _ set before
  counter_after _ _ (literals site site' section section' bytes e) earlier earlier' wanted before =
      let moved : option_map (λ pc. (pc + length bytes) % s.modulus) (counter s earlier wanted)
      ≡ option_map (λ pc. (pc + length bytes) % other.modulus) (counter other earlier' wanted)
      = ap (option_map (λ pc. (pc + length bytes) % s.modulus)) before
      ∙ ap (λ m. option_map (λ pc. (pc + length bytes) % m) (counter other earlier' wanted)) h.modulus in
      chosen section section' wanted e _ _ _ _ moved before
  counter_after _ _ (fields site site' section section' kind size t t' e m) earlier earlier' wanted before =
      let moved : option_map (λ pc. (pc + size) % s.modulus) (counter s earlier wanted)
      ≡ option_map (λ pc. (pc + size) % other.modulus) (counter other earlier' wanted)
      = ap (option_map (λ pc. (pc + size) % s.modulus)) before ∙ ap (λ m. option_map (λ pc. (pc + size) % m) (counter other earlier' wanted)) h.modulus in
      chosen section section' wanted e _ _ _ _ moved before

  pub same_counter : (earlier earlier' : List Step) → Paired R earlier earlier' → (wanted : ℕ) → counter s earlier wanted ≡ counter other earlier' wanted
  unfolding counter
  same_counter [] [] p wanted =
      ap (λ bases. option_map (λ base. base % s.modulus) (slice_get bases wanted)) h.bases
      ∙ ap (λ m. option_map (λ base. base % m) (slice_get other.bases wanted)) h.modulus
  same_counter (step ∷ earlier) (step' ∷ earlier') p wanted = counter_after step step' p.0 earlier earlier' wanted (same_counter earlier earlier' p.1 wanted)
  same_counter [] (step' ∷ earlier') p wanted = absurd p
  same_counter (step ∷ earlier) [] p wanted = absurd p

  same_reading : (step step' : Step) → R step step' → (earlier earlier' : List Step) → Paired R earlier earlier' → step_reading s earlier step
      ≡ step_reading other earlier' step'
  same_reading _ _ (counters site site' section section' t t' e m) earlier earlier' p =
      let at : counter s earlier section ≡ counter other earlier' section' = same_counter earlier earlier' p section ∙ ap (counter other earlier') e in
      let v : value s site (counter s earlier section) t ≡ value other site' (counter other earlier' section') t'
      = same_value ms home s other h (counter s earlier section) site t site' t' m ∙ ap (λ pc. value other site' pc t') at in
      cc
  same_reading _ _ (literals site site' section section' bytes e) earlier earlier' p =
      let at : counter s earlier section ≡ counter other earlier' section' = same_counter earlier earlier' p section ∙ ap (counter other earlier') e in
      cc
  same_reading _ _ (fields site site' section section' kind size t t' e m) earlier earlier' p =
      let at : counter s earlier section ≡ counter other earlier' section' = same_counter earlier earlier' p section ∙ ap (counter other earlier') e in
      let v : value s site (counter s earlier section) t ≡ value other site' (counter other earlier' section') t'
      = same_value ms home s other h (counter s earlier section) site t site' t' m ∙ ap (λ pc. value other site' pc t') at in
      cc

  pub same_readings : (earlier earlier' : List Step) → Paired R earlier earlier' → (all all' : List Step) → Paired R all all'
      → readings_after s earlier all ≡ readings_after other earlier' all'
  same_readings earlier earlier' p [] [] q = refl
  same_readings earlier earlier' p (step ∷ more) (step' ∷ more') q =
      let here : step_reading s earlier step ≡ step_reading other earlier' step' = same_reading step step' q.0 earlier earlier' p in
      let rest : readings_after s (step ∷ earlier) more ≡ readings_after other (step' ∷ earlier') more' =
      same_readings (step ∷ earlier) (step' ∷ earlier') (q.0, p) more more' q.1 in
      cc
  same_readings earlier earlier' p [] (step' ∷ more') q = absurd q
  same_readings earlier earlier' p (step ∷ more) [] q = absurd q
