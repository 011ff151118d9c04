use Rattle.std.proofs.Common.{◌≡◌, ◌<◌, Some, None, Ok, length, refl, sym, ◌∙◌, rules}
use Rattle.mufom_records.specs.Reading.{optional_number_at}
use Rattle.mufom_records.proofs.Numbers.{numbers-next, numbers-none}
use Rattle.mufom_records.proofs.fields.numbers.Goals as goal

pub returns-in_default-clause-exact : goal.returns-in_default-clause-exact
returns-in_default-clause-exact g c =
    let room : length c.loop-all.all.items < g.row.N = search rules in
    let none : optional_number_at c.args.input.now c.loop-all.at ≡ Ok (None, c.in_ok-value.after) = search rules in
    let e = sym c.loop-all.invariant.same ∙ numbers-none c.loop-all.all.items g.row.N c.args.input.now c.loop-all.at c.in_ok-value.after room none in
    rw e refl

pub loop-all-preserved : goal.loop-all-preserved
loop-all-preserved g c =
    let room : length c.loop-all.all.items < g.row.N = search rules in
    let some : optional_number_at c.args.input.now c.loop-all.at ≡ Ok (Some c.in-Some.value, c.in_ok-value.after) = search rules in
    let e = sym (numbers-next c.loop-all.all.items g.row.N c.in-Some.value c.args.input.now c.loop-all.at c.in_ok-value.after room some)
    ∙ c.loop-all.invariant.same in
    record {
      within = search rules;
      few = search rules;
      same = rw (c.push.ensures.len, c.push.ensures.items) e;
    }
