use Rattle.std.proofs.Common.{◌≡◌, ◌∙◌, ap, cond, None, rules, sym, true}
use Rattle.clap.specs.Matches.{found_of, first_value}
use Rattle.clap.specs.Walk.{first_of, rows_of}
use Rattle.clap.proofs.WalkLemmas.{first_value-rows}
use Rattle.mufom_words.specs.Options.{id_of, takes, usage_of}
use Rattle.mufom_words.proofs.found.value_in.Goals as goal

pub returns : goal.returns
returns c =
    let found = found_of c.args.matches.now in
    let taken : takes (usage_of c.args.form).settings c.args.setting ≡ true = search rules in
    let value = c.get_str.ensures ∙ ap (first_value found) c.id.ensures ∙ first_value-rows found (id_of c.args.setting) in
    value ∙ sym (ap (λ b. cond b (first_of (id_of c.args.setting) (rows_of found)) None) taken)
