use Rattle.std.proofs.Common.{◌≡◌, ◌+◌, Ok, None, is_some, map, option_map, ap, rules, sym, ◌∙◌, add-one}
use Rattle.mufom_titxt.specs.Lines.{lines_of, line_of}
use Rattle.mufom_titxt.specs.Scans.{lines_later}
use Rattle.mufom_titxt.specs.Texts.{so_far, nothing_stated}
use Rattle.mufom_titxt.specs.Reading.{stated, places_read, second_line}
use Rattle.mufom_titxt.proofs.HitLaws.{second_line-line, none_of}
use Rattle.mufom_titxt.proofs.txt.second_line.Goals as goal

pub returns-then-reading-gt1 : goal.returns-then-reading-gt1
returns-then-reading-gt1 c =
    let found = second_line-line c.args.address c.args.modulus c.loop-left.count (stated c.loop-left.reading) (option_map (λ t. t.now) c.loop-left.left)
    c.in-Some.text.now c.next_line.result.0.now (option_map (λ t. t.now) c.next_line.result.1) c.loop-left.reading.store.watched
    c.loop-left.reading.store.hits c.read_line.new.self.store.hits
    (second_line c.args.address 0 (places_read c.args.modulus 0 nothing_stated (map line_of (lines_of c.args.text.now))))
    (ap (option_map (λ t. t.now)) c.in-Some.is) c.next_line.ensures.line c.loop-left.invariant.hits c.loop-left.invariant.watched
    c.in_ok-fault.ensures.hits c.loop-left.invariant.line in
    add-one c.loop-left.count ∙ found.0 c.if-reading-gt1.true

pub returns-then-is_some : goal.returns-then-is_some
returns-then-is_some c =
    let found = second_line-line c.args.address c.args.modulus c.loop-left.count (stated c.loop-left.reading) (option_map (λ t. t.now) c.loop-left.left)
    c.in-Some.text.now c.next_line.result.0.now (option_map (λ t. t.now) c.next_line.result.1) c.loop-left.reading.store.watched
    c.loop-left.reading.store.hits c.read_line.new.self.store.hits
    (second_line c.args.address 0 (places_read c.args.modulus 0 nothing_stated (map line_of (lines_of c.args.text.now))))
    (ap (option_map (λ t. t.now)) c.in-Some.is) c.next_line.ensures.line c.loop-left.invariant.hits c.loop-left.invariant.watched
    c.in_ok-fault.ensures.hits c.loop-left.invariant.line in
    found.1 c.if-reading-gt1.false (ap is_some (sym c.in_ok-fault.ensures.fault) ∙ (sym c.is_some.ensures ∙ c.if-is_some.true))

pub loop-left-preserved : goal.loop-left-preserved
loop-left-preserved c =
    let found = second_line-line c.args.address c.args.modulus c.loop-left.count (stated c.loop-left.reading) (option_map (λ t. t.now) c.loop-left.left)
    c.in-Some.text.now c.next_line.result.0.now (option_map (λ t. t.now) c.next_line.result.1) c.loop-left.reading.store.watched
    c.loop-left.reading.store.hits c.read_line.new.self.store.hits
    (second_line c.args.address 0 (places_read c.args.modulus 0 nothing_stated (map line_of (lines_of c.args.text.now))))
    (ap (option_map (λ t. t.now)) c.in-Some.is) c.next_line.ensures.line c.loop-left.invariant.hits c.loop-left.invariant.watched
    c.in_ok-fault.ensures.hits c.loop-left.invariant.line in
    let none : c.in_ok-fault.fault ≡ None = none_of c.in_ok-fault.fault (sym c.is_some.ensures ∙ c.if-is_some.false) in
    let says = c.in_ok-fault.ensures.stated (ap Ok none) in
    record {
      tiled = search rules;
      watched = search rules;
      hits = c.if-reading-gt1.false;
      line = ap (λ s. second_line c.args.address c.read_line.new.self.store.hits
          (places_read c.args.modulus (c.loop-left.count + 1) s (map line_of (lines_later (option_map (λ t. t.now) c.next_line.result.1))))) says
          ∙ (ap (λ n. second_line c.args.address c.read_line.new.self.store.hits
          (places_read c.args.modulus n (so_far (stated c.loop-left.reading) (line_of c.next_line.result.0.now))
          (map line_of (lines_later (option_map (λ t. t.now) c.next_line.result.1))))) (add-one c.loop-left.count)
          ∙ found.2 c.if-reading-gt1.false (sym none ∙ c.in_ok-fault.ensures.fault));
      count = search rules;
    }
