-- Texts worked out: what is wrong with them, and the bytes that they give.
use Rattle.std.proofs.Common.{◌≡◌, [], ◌∷◌, Some, None, refl}
use Rattle.std.specs.Prelude.{codes}
use Rattle.mufom_refusals.specs.declared.text.TxtReason.TheVariants.{BadLine, NoAddress, Beyond, Twice, AfterEnd, NoEnd}
use Rattle.mufom_titxt.specs.Texts.{refusal_at, txt_refusal, txt_cells}
use Rattle.mufom_titxt.specs.Written.{run_text, txt_text}

-- bytes before any address
no_address : txt_refusal (codes "00 11\nq\n") 32 ≡ Some (refusal_at 1 NoAddress)
no_address = refl

-- an address with two bytes
twice : txt_refusal (codes "@0\n00\n@0\n01\nq\n") 32 ≡ Some (refusal_at 4 (Twice 0))
twice = refl

-- a byte past the last address
beyond : txt_refusal (codes "@FFFFFFFF\n00 01\nq\n") 32 ≡ Some (refusal_at 2 Beyond)
beyond = refl

-- no end
no_end : txt_refusal (codes "@10\n") 32 ≡ Some (refusal_at 2 NoEnd)
no_end = refl

-- carriage returns
returns : txt_refusal (codes "@f000\r\n4e\r\nq\r\n") 32 ≡ None
returns = refl

return_cells : txt_cells (codes "@f000\r\n4e\r\nq\r\n") ≡ (61440, 78) ∷ []
return_cells = refl

-- no line feed at the end, spaces at both ends, and an upper-case end
plain_end : txt_refusal (codes " @0 \n  0A   0b \n Q ") 8 ≡ None
plain_end = refl

-- sixteen digits of an address, and seventeen
sixteen : txt_refusal (codes "@00000000000000FF\nq") 8 ≡ None
sixteen = refl

seventeen : txt_refusal (codes "@00000000000000000\nq") 8 ≡ Some (refusal_at 1 BadLine)
seventeen = refl

-- an address without digits, a tab, an odd digit, two digits apart
alone : txt_refusal (codes "@\nq") 8 ≡ Some (refusal_at 1 BadLine)
alone = refl

tab : txt_refusal (codes "@0\n00\t01\nq") 8 ≡ Some (refusal_at 2 BadLine)
tab = refl

odd : txt_refusal (codes "@0\n00 1\nq") 8 ≡ Some (refusal_at 2 BadLine)
odd = refl

joined : txt_refusal (codes "@0\n0001\nq") 8 ≡ Some (refusal_at 2 BadLine)
joined = refl

-- two addresses in a row, and two ends
two_addresses : txt_cells (codes "@0\n@5\n01\nq") ≡ (5, 1) ∷ []
two_addresses = refl

two_ends : txt_refusal (codes "q\n\nq") 8 ≡ Some (refusal_at 3 AfterEnd)
two_ends = refl

-- a bad line after an address with two bytes comes later
first_of_two : txt_refusal (codes "@0\n00\n@0\n01\nzz\nq") 8 ≡ Some (refusal_at 4 (Twice 0))
first_of_two = refl

-- the text of a run
written : run_text 4096 (78 ∷ 113 ∷ 78 ∷ 117 ∷ []) ≡ codes "@1000\n4E 71 4E 75\n"
written = refl

-- the text of runs
written_runs : txt_text (record { address = 61440; bytes = 10 ∷ [] } ∷ record { address = 74565; bytes = 171 ∷ [] } ∷ [])
    ≡ codes "@F000\n0A\n@12345\nAB\nq\n"
written_runs = refl
