use Rattle.std.proofs.Common.{◌≡◌, ◌++◌, Option, Ok, None, OnOk, IfOk, sym, ◌∙◌, subst}
use Rattle.mufom_image_bytes.specs.Loaded.{loaded_cells}
use Rattle.mufom_titxt.specs.Lines.{Line}
use Rattle.mufom_titxt.specs.Texts.{so_far}
use Rattle.mufom_titxt.specs.Reading.{stated, inner_read, inner_stop, hits_after}
use Rattle.mufom_titxt.proofs.BytesLaws.{byte_line_found}
use Rattle.mufom_titxt.proofs.reading.Reading.read_inner.Goals as goal

pub returns-in-Bytes-clause-cells : goal.returns-in-Bytes-clause-cells
returns-in-Bytes-clause-cells c =
    let found = byte_line_found c.args.line.now (sym c.in-Bytes.is ∙ c.shape_of.ensures) in
    let P : Option Line → Type 0 = λ line. OnOk c.read_bytes.result
    (loaded_cells c.read_bytes.new.self.store.loaded ≡ loaded_cells c.args.self.now.store.loaded ++ inner_read c.args.modulus c.args.self.now.next line) in
    subst P (sym found) c.read_bytes.ensures.cells

pub returns-in-Bytes-clause-hits : goal.returns-in-Bytes-clause-hits
returns-in-Bytes-clause-hits c =
    let found = byte_line_found c.args.line.now (sym c.in-Bytes.is ∙ c.shape_of.ensures) in
    let P : Option Line → Type 0 = λ line. OnOk c.read_bytes.result
    (c.read_bytes.new.self.store.hits ≡ hits_after c.args.self.now.store.watched c.args.self.now.store.hits
    (inner_read c.args.modulus c.args.self.now.next line)) in
    subst P (sym found) c.read_bytes.ensures.hits

pub returns-in-Bytes-clause-fault : goal.returns-in-Bytes-clause-fault
returns-in-Bytes-clause-fault c =
    let found = byte_line_found c.args.line.now (sym c.in-Bytes.is ∙ c.shape_of.ensures) in
    let P : Option Line → Type 0 = λ line. IfOk c.read_bytes.result (λ fault. fault ≡ inner_stop c.args.modulus c.args.self.now.next line) in
    subst P (sym found) c.read_bytes.ensures.fault

pub returns-in-Bytes-clause-stated : goal.returns-in-Bytes-clause-stated
returns-in-Bytes-clause-stated c =
    let found = byte_line_found c.args.line.now (sym c.in-Bytes.is ∙ c.shape_of.ensures) in
    let P : Option Line → Type 0 = λ line. c.read_bytes.result ≡ Ok None → stated c.read_bytes.new.self ≡ so_far (stated c.args.self.now) line in
    subst P (sym found) (λ done. let next = c.read_bytes.ensures.next done in let ended = c.read_bytes.ensures.ended in cc (next, ended))
