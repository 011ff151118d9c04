-- The positions of the modules of a list in a list that is put together.
use Rattle.std.proofs.Common.{◌≡◌, ℕ, ◌+◌, List, [], ◌∷◌, ◌++◌, map, length, refl, sym, ◌∙◌, ap, add_assoc, add-zero, length-append, arith}
use Rattle.std.proofs.lemmas.List.{length-map}
use Rattle.mufom_debug.specs.Marks.{DebugMark, block_begin, block_end, name_mark, note_mark, value_mark, marks_of}
use Rattle.mufom_module.specs.declared.module.Parts.{Parts}
use Rattle.mufom_meaning.specs.Flat.{Sited, name_count, sited_from, sited_publics, flat_sections}
use Rattle.mufom_meaning.proofs.staging.Moved.{shifted}

-- the flat numbers after some modules
abbrev pub next_section : ℕ → List Parts → ℕ
next_section s [] = s
next_section s (m ∷ ms) = next_section (s + length m.sections) ms

abbrev pub next_public : ℕ → List Parts → ℕ
next_public p [] = p
next_public p (m ∷ ms) = next_public (p + length m.names.publics) ms

abbrev pub next_name : ℕ → List Parts → ℕ
next_name d [] = d
next_name d (m ∷ ms) = next_name (d + name_count (marks_of m.debug)) ms

pub sited_from-append : (s p d : ℕ) (xs ys : List Parts)
    → sited_from s p d (xs ++ ys) ≡ sited_from s p d xs ++ sited_from (next_section s xs) (next_public p xs) (next_name d xs) ys
sited_from-append s p d [] ys = refl
sited_from-append s p d (x ∷ xs) ys =
    ap (λ rest. record { parts = x; first_section = s; first_public = p; first_name = d } ∷ rest)
    (sited_from-append (s + length x.sections) (p + length x.names.publics) (d + name_count (marks_of x.debug)) xs ys)

-- a list that is at home is the list from 0, with its numbers shifted
pub sited_from-shifted : (home : Sited) (s p d : ℕ) (xs : List Parts)
    → sited_from (home.first_section + s) (home.first_public + p) (home.first_name + d) xs ≡ map (shifted home) (sited_from s p d xs)
sited_from-shifted home s p d [] = refl
sited_from-shifted home s p d (x ∷ xs) =
    let a : (home.first_section + s) + length x.sections ≡ home.first_section + (s + length x.sections) = add_assoc _ _ _ in
    let b : (home.first_public + p) + length x.names.publics ≡ home.first_public + (p + length x.names.publics) = add_assoc _ _ _ in
    let c : (home.first_name + d) + name_count (marks_of x.debug) ≡ home.first_name + (d + name_count (marks_of x.debug)) = add_assoc _ _ _ in
    let rest = sited_from-shifted home (s + length x.sections) (p + length x.names.publics) (d + name_count (marks_of x.debug)) xs in
    let moved : sited_from ((home.first_section + s) + length x.sections) ((home.first_public + p) + length x.names.publics)
    ((home.first_name + d) + name_count (marks_of x.debug)) xs
    ≡ map (shifted home) (sited_from (s + length x.sections) (p + length x.names.publics) (d + name_count (marks_of x.debug)) xs) = rw (a, b, c) rest in
    ap (λ more. shifted home (record { parts = x; first_section = s; first_public = p; first_name = d }) ∷ more) moved

pub next_section-length : (s : ℕ) (xs : List Parts) → next_section s xs ≡ s + length (flat_sections xs)
next_section-length s [] = sym (add-zero s)
next_section-length s (x ∷ xs) = omega (arith, next_section-length (s + length x.sections) xs, length-append x.sections (flat_sections xs))

pub next_public-length : (s p d : ℕ) (xs : List Parts) → next_public p xs ≡ p + length (sited_publics (sited_from s p d xs))
next_public-length s p d [] = sym (add-zero p)
next_public-length s p d (x ∷ xs) =
    let rest : next_public (p + length x.names.publics) xs
    ≡ (p + length x.names.publics) + length (sited_publics (sited_from (s + length x.sections) (p + length x.names.publics)
    (d + name_count (marks_of x.debug)) xs))
    = next_public-length (s + length x.sections) (p + length x.names.publics) (d + name_count (marks_of x.debug)) xs in
    simp (length-append, length-map) (rest ∙ add_assoc _ _ _)

pub name_count-append : (xs ys : List DebugMark) → name_count (xs ++ ys) ≡ name_count xs + name_count ys
name_count-append [] ys = omega arith
name_count-append (block_begin head name ∷ xs) ys = name_count-append xs ys
name_count-append (block_end end ∷ xs) ys = name_count-append xs ys
name_count-append (name_mark name ∷ xs) ys = omega (arith, name_count-append xs ys)
name_count-append (note_mark name note ∷ xs) ys = name_count-append xs ys
name_count-append (value_mark name t ∷ xs) ys = name_count-append xs ys
