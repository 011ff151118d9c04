use Rattle.std.proofs.Common.{◌==◌, ◌+◌, ◌++◌, length, get_or, ◌∙◌}
use Rattle.mufom_text.specs.Image.{byte_text}
use Rattle.mufom_text.proofs.RowLaws.{row_text-next}
use Rattle.mufom_text.proofs.image.row.Goals as goal

pub loop-i-preserved : goal.loop-i-preserved
loop-i-preserved g c =
    let maus = c.args.maus in let at = c.args.at in let i = c.loop-i.i in let bytes = c.args.bytes.now in
    let done = c.loop-i.invariant.0 in
    let one = byte_text maus (i == 0) (i + 1 == length bytes) (at + i) (get_or bytes i 0) in (
      done ++ one,
      g.met.K.Output.joins _ _ _ done one c.loop-i.invariant.1 c.row_byte.ensures,
      c.loop-i.invariant.2
          ∙ row_text-next maus done at i bytes c.loop-i-test.true,
    )
