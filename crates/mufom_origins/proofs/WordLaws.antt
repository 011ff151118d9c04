-- The files of modules: finding that of a place, and quoting the name of a member.
use Rattle.std.proofs.Common.{◌≡◌, ℕ, zero, suc, ◌+◌, ◌-◌, ◌<◌, ◌≤◌, List, [], ◌∷◌, ◌++◌, length, drop, get_or, Some, flat_map}
use Rattle.std.proofs.Common.{sym, ap, ◌∙◌, arith, append_assoc}
use Rattle.std.specs.Prelude.{slice_get}
use Rattle.std.proofs.lemmas.Grind.{flat_map-append}
use Rattle.std.proofs.lemmas.List.{drop_more}
use Rattle.std.proofs.lemmas.List.Concat.{flat_map-cons}
use Rattle.mufom_text.specs.Words.{quoted, quoted_byte}
use Rattle.mufom_origins.specs.declared.files.ReadFile.{ReadFile}
use Rattle.mufom_origins.specs.Words.{ModuleFile, file_at, listed_files, member_word, own_files, own_from}

-- a place among the modules of the first file is a position in it
pub own-get : (f : ReadFile) (k n j : ℕ) (more : List ModuleFile) → j < n → slice_get (own_from f k n ++ more) j ≡ Some (file_at f (k + j))
own-get f k zero j more inside = absurd (omega (arith, inside))
own-get f k (suc n) zero more inside = ap (λ i. Some (file_at f i)) (omega arith)
own-get f k (suc n) (suc j) more inside = own-get f (suc k) n j more (omega (arith, inside)) ∙ ap (λ i. Some (file_at f i)) (omega arith)

-- a later place is one among the modules of the other files
pub own-past : (f : ReadFile) (k n j : ℕ) (more : List ModuleFile) → n ≤ j → slice_get (own_from f k n ++ more) j ≡ slice_get more (j - n)
own-past f k zero j more past = ap (λ i. slice_get more i) (omega arith)
own-past f k (suc n) zero more past = absurd (omega (arith, past))
own-past f k (suc n) (suc j) more past = own-past f (suc k) n j more (omega (arith, past)) ∙ ap (λ i. slice_get more i) (omega arith)

-- the files from this one on
pub files-from : (items : List ReadFile) (i rest : ℕ) (f : ReadFile) → i < length items → f ≡ get_or items i f
    → slice_get (listed_files (drop i items)) rest ≡ slice_get (own_from f 0 f.modules ++ listed_files (drop (i + 1) items)) rest
files-from items i rest f inside is =
    ap (λ (l : List ReadFile). slice_get (listed_files l) rest) (drop_more items i f inside ∙ ap (λ (x : ReadFile). x ∷ drop (i + 1) items) (sym is))
    ∙ ap (λ (l : List ModuleFile). slice_get l rest) (flat_map-cons own_files f (drop (i + 1) items))

-- the name of a member in quotes is put in parts
pub member-parts : (name member : List ℕ)
    → quoted (member_word name member)
    ≡ 34 ∷ (flat_map quoted_byte name ++ (40 ∷ (flat_map quoted_byte member ++ (41 ∷ 34 ∷ []))))
member-parts name member =
    ap (λ (t : List ℕ). 34 ∷ (t ++ 34 ∷ [])) (flat_map-append quoted_byte name (40 ∷ (member ++ 41 ∷ []))
    ∙ ap (λ (t : List ℕ). flat_map quoted_byte name ++ (40 ∷ t)) (flat_map-append quoted_byte member (41 ∷ [])))
    ∙ ap (λ (t : List ℕ). 34 ∷ t) (append_assoc (flat_map quoted_byte name) (40 ∷ (flat_map quoted_byte member ++ 41 ∷ [])) (34 ∷ [])
    ∙ ap (λ (t : List ℕ). flat_map quoted_byte name ++ (40 ∷ t)) (append_assoc (flat_map quoted_byte member) (41 ∷ []) (34 ∷ [])))
