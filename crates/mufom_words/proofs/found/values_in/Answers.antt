use Rattle.std.proofs.Common.{◌≡◌, ◌∙◌, ap, cond, sym, subst, map, rules, true, [], option_map}
use Rattle.std.specs.Option.{IfSome, unwrap_or}
use Rattle.clap.specs.Matches.{found_of, matched_of, raw_values}
use Rattle.clap.specs.Walk.{all_of, rows_of}
use Rattle.clap.proofs.WalkLemmas.{raw_values-rows}
use Rattle.mufom_words.specs.Options.{id_of, takes, usage_of}
use Rattle.mufom_words.proofs.FoundLaws.{none_given, some_given}
use Rattle.mufom_words.proofs.found.values_in.Goals as goal

pub returns-clause-some : goal.returns-clause-some
returns-clause-some c =
    let found = found_of c.args.matches.now in
    let taken : takes (usage_of c.args.form).settings c.args.setting ≡ true = search rules in
    let given = c.get_strs.ensures ∙ ap (λ id. option_map raw_values (matched_of found id)) c.id.ensures ∙ raw_values-rows found (id_of c.args.setting) in
    subst (λ b. IfSome c.get_strs.result (λ s. map (λ v. v.now) s.now ≡ cond b (unwrap_or (all_of (id_of c.args.setting) (rows_of found)) []) []))
    (sym taken) (some_given (λ s. map (λ v. v.now) s.now) c.get_strs.result _ given)

pub returns-clause-none : goal.returns-clause-none
returns-clause-none c = λ none.
    let found = found_of c.args.matches.now in
    let taken : takes (usage_of c.args.form).settings c.args.setting ≡ true = search rules in
    let given = c.get_strs.ensures ∙ ap (λ id. option_map raw_values (matched_of found id)) c.id.ensures ∙ raw_values-rows found (id_of c.args.setting) in
    ap (λ b. cond b (unwrap_or (all_of (id_of c.args.setting) (rows_of found)) []) []) taken
    ∙ none_given (λ s. map (λ v. v.now) s.now) c.get_strs.result _ given none
