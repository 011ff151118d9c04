use Rattle.std.proofs.Common.{◌≡◌, ◌∙◌, ◌<◌, ◌≤◌, ◌^◌, ap, arith, length, sym, subst, true, Some}
use Rattle.std.specs.List.{list_all}
use Rattle.std.specs.Option.{IfSome}
use Rattle.std.specs.Prelude.{Option, ℕ}
use Rattle.std.specs.Result.{result_ok}
use Rattle.std.specs.Str.Parse.{digits_value}
use Rattle.mufom_words.specs.Values.{is_hexadecimal}
use Rattle.mufom_words.proofs.Hexadecimal.{below, hexadecimal-is, read}
use Rattle.mufom_words.proofs.values.hexadecimal_of.Goals as goal

pub returns : goal.returns
returns c =
    let word = c.args.word.now in
    let bytes = c.as_bytes-bytes.result.now in
    let same : bytes ≡ word = c.as_bytes-bytes.ensures.value in
    let all : list_all is_hexadecimal word ≡ true = subst (λ l. list_all is_hexadecimal l ≡ true) same (sym c.are_hexadecimal.ensures
    ∙ c.if-not-are_hexadecimal.false) in
    let long : length bytes ≡ length word = ap length same in
    let low : c.args.least ≤ length word = omega (arith, long, c.if-bytes-least.false) in
    let high : length word ≤ c.args.most = omega (arith, long, c.if-bytes-most.false) in
    let some : 1 ≤ length word = omega (arith, low, c.requires.some) in
    let is : c.ok.result ≡ Some (digits_value 16 word) = c.ok.ensures.value
    ∙ ap result_ok (read word c.args.most c.from_str_radix.result c.from_str_radix.ensures.value all some high c.requires.fits) in
    record {
      value = is ∙ sym (hexadecimal-is c.args.least c.args.most word low high all);
      below = subst (λ (o : Option ℕ). IfSome o (λ n. n < 16 ^ c.args.most)) (sym is) (below word c.args.most all high);
    }
