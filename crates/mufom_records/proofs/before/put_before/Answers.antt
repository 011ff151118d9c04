use Rattle.std.proofs.Common.{rules, ◌≡◌, ◌∙◌, ◌+◌, ◌-◌, ◌++◌, [], ◌∷◌, List, ℕ, suc, take, drop, replicate, length, ap, refl, arith}
use Rattle.std.proofs.lemmas.List.{drop-replicate, length-take}
use Rattle.mufom_records.proofs.before.put_before.Goals as goal

-- the first bytes and one more
one_more : (first rest : List ℕ) (b n : ℕ) → n ≡ length first → take (n + 1) (first ++ b ∷ rest) ≡ first ++ b ∷ []
one_more [] rest b n same = rw same refl
one_more (x ∷ first) rest b n same =
    let next : n + 1 ≡ suc (length first + 1) = omega (arith, same) in
    rw next (ap (λ (l : List ℕ). x ∷ l) (one_more first rest b (length first) refl))

pub returns-clause-closed : goal.returns-clause-closed
returns-clause-closed c =
    let end = c.args.end in
    let input = c.args.input.now in
    let copied : c.copy_from_slice.new.self ≡ take end input = search rules in
    let left : 131077 - end ≡ suc (131076 - end) = omega (arith, c.requires.short) in
    let rest : drop end c.args.bytes.now ≡ 0xE1 ∷ replicate (131076 - end) 0xE1 =
    ap (drop end) c.requires.codes ∙ drop-replicate end 131077 0xE1 ∙ ap (λ (n : ℕ). replicate n 0xE1) left in
    let count : end ≡ length (take end input) = omega (arith, length-take end input, c.requires.within) in
    ap (λ (l : List ℕ). take (end + 1) (l ++ drop end c.args.bytes.now)) copied
    ∙ ap (λ (l : List ℕ). take (end + 1) (take end input ++ l)) rest
    ∙ one_more (take end input) (replicate (131076 - end) 0xE1) 0xE1 end count
