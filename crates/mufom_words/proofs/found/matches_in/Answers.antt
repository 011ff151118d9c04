use Rattle.std.proofs.Common.{◌≡◌, ◌∙◌, ap, map, subst}
use Rattle.std.proofs.lemmas.Result.{IfOk-weaker}
use Rattle.std.specs.String.{string_bytes}
use Rattle.clap.specs.Faults.{fault_of, is_simple_and_free}
use Rattle.clap.specs.Kinds.{FailsBy}
use Rattle.clap.specs.Simple.{App, app_of, is_simple, matches_of}
use Rattle.mufom_words.specs.Options.{app_for}
use Rattle.mufom_words.proofs.Apps.{app_for-free, app_for-simple}
use Rattle.mufom_words.proofs.found.matches_in.Goals as goal

pub returns-clause-found : goal.returns-clause-found
returns-clause-found c =
    let words = map (λ word. string_bytes word) c.args.words.now in
    let app_is : app_of c.in_ok-command.command ≡ app_for c.args.form = c.in_ok-command.ensures in
    let parse = c.try_get_matches_from in
    IfOk-weaker parse.result _ _ (λ m found. (found (ap is_simple app_is ∙ app_for-simple c.args.form)).0
    ∙ ap (λ (a : App). matches_of a words) app_is) parse.ensures.matches

pub returns-clause-kinds : goal.returns-clause-kinds
returns-clause-kinds c =
    let words = map (λ word. string_bytes word) c.args.words.now in
    let app_is : app_of c.in_ok-command.command ≡ app_for c.args.form = c.in_ok-command.ensures in
    let parse = c.try_get_matches_from in
    let Fails : App → Type 0 = λ a. FailsBy (fault_of a words) parse.result in
    subst Fails app_is (parse.ensures.kinds (ap is_simple_and_free app_is ∙ app_for-free c.args.form))
