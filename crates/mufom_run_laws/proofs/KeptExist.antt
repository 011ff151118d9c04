-- What is kept of the flat list of accepted inputs exists.
use Rattle.std.proofs.Common.{◌≡◌, ◌≢◌, ℕ, ◌<◌, ◌≤◌, ◌^◌, List, [], ◌∷◌, length, Option, Some, None, Ok, refl, sym, subst, arith}
use Rattle.mufom_host.specs.World.{HoldBytes, NamedFile}
use Rattle.mufom_words.specs.declared.command.Command.{Command}
use Rattle.mufom_words.specs.Answer.{answer_of}
use Rattle.mufom_words.specs.Tree.{tree_of}
use Rattle.mufom_words.proofs.Sound.{words-sound}
use Rattle.mufom_module.specs.declared.module.Parts.{Parts}
use Rattle.mufom_module.specs.Defects.{IsValid}
use Rattle.mufom_plan.specs.declared.plan.Plan.{Plan}
use Rattle.mufom_meaning.specs.Joined.{IsJoined}
use Rattle.mufom_meaning.specs.LinkAnswer.{link_answer}
use Rattle.mufom_meaning.specs.Staging.{AreValid}
use Rattle.mufom_meaning.specs.StagingLaws.{total_weight}
use Rattle.mufom_meaning.proofs.staging.JoinedValid.{joined_is_valid}
use Rattle.mufom_planned.specs.Planned.{planned_answer}
use Rattle.mufom_prune.specs.Pruned.{remains}
use Rattle.mufom_groups.specs.Groups.{most_weight}
use Rattle.mufom_groups.specs.Linked.{first_name}
use Rattle.mufom_groups.specs.Work.{gives}
use Rattle.mufom_groups.proofs.ShortNames.{short-name}
use Rattle.mufom_groups.proofs.Works.{value-same}
use Rattle.mufom_task.specs.declared.task.Inputs.{Inputs}
use Rattle.mufom_task.specs.Inputs.{root_count}
use Rattle.mufom_task.specs.declared.task.Product.{Product}
use Rattle.mufom_task.specs.declared.task.Request.TheVariants as request
use Rattle.mufom_task.specs.declared.task.Task.TheVariants as task
use Rattle.mufom_task.specs.Sound.{IsSoundInputs, IsSoundRequest}
use Rattle.mufom_task.specs.Tasks.{request_of}
use Rattle.mufom_task.proofs.RequestLaws.{sound-request}
use Rattle.mufom_works.specs.Roots.{Roots, first_unknown, roots_by}
use Rattle.mufom_works.specs.Works.{Kept, all_of, kept_of, kept_unless, rest_of, rest_of_module}
use Rattle.mufom_works.proofs.Runs.{kept_of-single}
use Rattle.mufom_run_laws.specs.Exist.{InputsAreAccepted, MayBeLocated, NoFactIsDecided, WhatIsKeptExists}
use Rattle.mufom_run_laws.specs.RunLaws.{Accepts, HasNoFact}
use Rattle.mufom_run_laws.proofs.Light.{all-count, all-light, flat-light, flat-some, flat-valid}
use Rattle.mufom_run_laws.proofs.Links.{links-exist}
use Rattle.mufom_run_laws.proofs.Marks.{kept-entries-exist}
use Rattle.mufom_run_laws.proofs.Members.{files-valid}
use Rattle.mufom_run_laws.proofs.Selections.{flat-lists-exist}

-- ---- accepted inputs

pub inputs-accepted : InputsAreAccepted
inputs-accepted files inputs plan modules planned read =
    let (flat, is) = flat-lists-exist (tree_of inputs.marks) modules in
    (flat, record { planned = planned; modules = modules; read = read; is_flat = is })

-- ---- what is kept of a list

first-short : (ms : List Parts) → AreValid ms → length (first_name ms) < 2 ^ 16
first-short [] valid = omega arith
first-short (m ∷ ms) valid = short-name m valid.0

module _ (list : List Parts) (some : list ≢ []) (valid : AreValid list) (light : total_weight list ≤ most_weight) (links : link_answer list ≡ None) where
  link : (M : Parts) × IsJoined M list (first_name list)
  link = links-exist list (first_name list) some links

  link-valid : IsValid link.0
  link-valid =
      let short = first-short list valid in
      (joined_is_valid link.0 list (first_name list) link.1 valid).valid short (omega (arith, short, light))

  rest : (roots : Roots) → (kept : Kept) × rest_of_module roots link.0 (gives kept)
  rest roots =
      let (marks, is) = kept-entries-exist link.0 roots.names roots.stays in
      (rest_of link.0 (remains link.0 marks), (marks, is, refl))

  kept-for : (roots : Roots) → first_unknown list roots.names ≡ None → (kept : Kept) × kept_of (Some roots) list (gives kept)
  kept-for roots known =
      let (kept, is) = rest roots in
      (kept, subst (λ (o : Option (List ℕ)). kept_unless o roots list (gives kept)) (sym known) (link.0, (link-valid, link.1), is))

  pub kept-by : (keep : List (List ℕ)) (plan : Plan) → first_unknown list keep ≡ None → (kept : Kept) × kept_of (roots_by keep plan) list (gives kept)
  kept-by [] plan known = (all_of list, refl)
  kept-by (name ∷ names) plan known = kept-for (record { names = name ∷ names; stays = plan.keep }) known

-- a list of which something is kept has all names to keep
kept-known : (list : List Parts) (keep : List (List ℕ)) (plan : Plan) (kept : Kept) → kept_of (roots_by keep plan) list (gives kept)
    → first_unknown list keep ≡ None
kept-known list [] plan kept is = refl
kept-known list (name ∷ names) plan kept is = by (first_unknown list (name ∷ names)) refl is where
  by : (o : Option (List ℕ)) → first_unknown list (name ∷ names) ≡ o
      → kept_unless o (record { names = name ∷ names; stays = plan.keep }) list (gives kept) → first_unknown list (name ∷ names) ≡ None
  by None same is = same
  by (Some unknown) same never = absurd never

-- ---- what is kept of the flat list of a run

module _ (words : List (List ℕ)) (files : List NamedFile) (c : Command) (inputs : Inputs) (keep : List (List ℕ)) (p : Product) (plan : Plan)
    (flat : List Parts) (bytes : HoldBytes files) (named : answer_of words ≡ Ok c) (asks : request_of c ≡ request.Run (task.Locate inputs keep p))
    (accepts : Accepts files inputs plan flat) where
  sound : IsSoundInputs inputs
  sound =
      let it : IsSoundRequest (request.Run (task.Locate inputs keep p)) = subst IsSoundRequest asks (sound-request c (words-sound words c named)) in it

  valid : AreValid flat
  valid = flat-valid (tree_of inputs.marks) accepts.modules flat accepts.is_flat
      (files-valid inputs.options (root_count inputs) accepts.read.0.0 accepts.modules accepts.read.0.1.modules)

  light : total_weight flat ≤ most_weight
  light =
      let all = all-light inputs.options (root_count inputs) files inputs.files accepts.modules bytes accepts.read.0 in
      let own = flat-light (tree_of inputs.marks) accepts.modules flat accepts.is_flat sound.tree.numbered in
      omega (arith, all, own)

  some : flat ≢ []
  some =
      let count = all-count inputs.options (root_count inputs) files inputs.files accepts.modules bytes accepts.read.0 sound.tree.within in
      let leaf = sound.some in
      flat-some (tree_of inputs.marks) accepts.modules flat accepts.is_flat sound.tree.numbered (omega (arith, leaf)) (omega (arith, count, leaf))

  pub kept-exists : link_answer flat ≡ None → first_unknown flat keep ≡ None → (kept : Kept) × kept_of (roots_by keep plan) flat (gives kept)
  kept-exists links known = kept-by flat some valid light links keep plan known

  pub no-fact : HasNoFact (roots_by keep plan) flat plan → MayBeLocated keep flat plan
  no-fact none = record {
    links = none.links;
    known = kept-known flat keep plan none.kept none.keeps;
    locates = λ kept is.
        let same : kept ≡ none.kept = value-same kept none.kept (kept_of-single (roots_by keep plan) flat (gives kept) (gives none.kept) is none.keeps) in
        subst (λ (k : Kept). planned_answer k.modules plan ≡ None) (sym same) none.locates;
  }

  pub no-fact-back : MayBeLocated keep flat plan → HasNoFact (roots_by keep plan) flat plan
  no-fact-back may =
      let (kept, is) = kept-exists may.links may.known in
      record { links = may.links; kept = kept; keeps = is; locates = may.locates kept is }

pub what-is-kept-exists : WhatIsKeptExists
what-is-kept-exists = kept-exists

pub no-fact-decided : NoFactIsDecided
no-fact-decided words files c inputs keep p plan flat bytes named asks accepts = (
  no-fact words files c inputs keep p plan flat bytes named asks accepts,
  no-fact-back words files c inputs keep p plan flat bytes named asks accepts,
)
