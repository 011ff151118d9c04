-- The lines of entries that may be absent.
use Rattle.std.proofs.Common.{◌≡◌, ℕ, ◌<◌, List, [], ◌∷◌, ◌++◌, length, codes, refl, arith}
use Rattle.mufom_text.specs.declared.form.TextForm.{TextForm}
use Rattle.mufom_text.specs.Words.{line}
use Rattle.mufom_text.specs.Show.{raw_line, raw_text}

pub raw_some : (form : TextForm) (name bytes : List ℕ) → 0 < length bytes → raw_line form name bytes ≡ line ((name ++ codes " ") ++ raw_text form bytes)
raw_some form name [] some = absurd (let none : 0 < 0 = some in omega (arith, none))
raw_some form name (b ∷ bytes) some = refl
