use Rattle.std.proofs.Common.{Bool, sym, subst}
use Rattle.mufom_module.specs.Written.{written}
use Rattle.mufom_judging.specs.Judging.{IsModule}
use Rattle.mufom_read.specs.Reader.{options_of}
use Rattle.mufom_round_trip.proofs.Written.{written-is-module}
use Rattle.mufom_round_trip.proofs.law.read_back.Goals as goal

pub returns : goal.returns
returns c = λ memory.
    let m = c.args.module.now in
    let is = written-is-module m c.a_module_is_valid.ensures.valid c.a_module_is_valid.ensures.made c.requires.short (options_of c.args.reader).gnu in
    c.finish.ensures.module (written m) m c.requires.read (subst (λ (b : Bool). IsModule (record { debug = b; gnu = (options_of c.args.reader).gnu })
    (written m) m) (sym c.requires.debug) is) memory
