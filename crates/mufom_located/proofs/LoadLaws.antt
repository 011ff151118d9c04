-- The loads of runs.
use Rattle.std.proofs.Common.{◌≡◌, ℕ, zero, suc, ◌≤◌, ◌<◌, List, [], ◌∷◌, ◌++◌, take, drop, length, min, refl, sym, ap, ◌∙◌, arith}
use Rattle.std.specs.Prelude.{◌||◌}
use Rattle.std.proofs.lemmas.List.{length-drop, take_min, drop_min}
use Rattle.std.proofs.lemmas.Grind.{flat_map-append}
use Rattle.mufom_loads.specs.declared.load.Load.{Load}
use Rattle.mufom_meaning.specs.declared.located.Run.{Run}
use Rattle.mufom_meaning.specs.Absolute.{chunks_within, chunks, with_section, loads_between}
use Rattle.mufom_located.specs.Opened.{opened, opens}

-- ---- chunks

-- more chunks than there are bytes are allowed in vain
enough : (size n m : ℕ) (xs : List ℕ) → length xs ≤ n → length xs ≤ m → chunks_within n (suc size) xs ≡ chunks_within m (suc size) xs
enough size zero zero xs h g = refl
enough size zero (suc m) [] h g = refl
enough size zero (suc m) (x ∷ xs) h g = absurd (omega (arith, h))
enough size (suc n) zero [] h g = refl
enough size (suc n) zero (x ∷ xs) h g = absurd (omega (arith, g))
enough size (suc n) (suc m) [] h g = refl
enough size (suc n) (suc m) (x ∷ xs) h g =
    let left = length-drop size xs in
    ap (λ rest. take (suc size) (x ∷ xs) ∷ rest) (enough size n m (drop size xs) (omega (arith, h, left)) (omega (arith, g, left)))

-- bytes in chunks are the first chunk and the chunks of the rest
pub chunks-next : (size : ℕ) (xs : List ℕ) → 0 < length xs → chunks (suc size) xs ≡ take (suc size) xs ∷ chunks (suc size) (drop (suc size) xs)
chunks-next size [] some = absurd (omega (arith, some))
chunks-next size (x ∷ xs) some =
    let left = length-drop size xs in
    ap (λ rest. take (suc size) (x ∷ xs) ∷ rest) (enough size (length xs) (length (drop size xs)) (drop size xs) (omega (arith, left)) (omega arith))

-- the same by the length of the first chunk
pub chunks-first : (size n : ℕ) (xs : List ℕ) → 0 < length xs → n ≡ min (suc size) (length xs) → chunks (suc size) xs
    ≡ take n xs ∷ chunks (suc size) (drop n xs)
chunks-first size n xs some is =
    chunks-next size xs some
    ∙ (let own = ap (λ k. take k xs) is ∙ take_min (suc size) xs in let rest = ap (λ k. drop k xs) is ∙ drop_min (suc size) xs in
    λ i. sym own i ∷ chunks (suc size) (sym rest i))

-- ---- a section that is opened once

pub with_section-append : (section : ℕ) (loads more : List Load) → with_section section (loads ++ more) ≡ with_section section loads
    ++ opened (opens loads) section more
with_section-append section [] more = refl
with_section-append section (load ∷ loads) more = refl

pub opens-append : (loads more : List Load) → opens (loads ++ more) ≡ (opens loads || opens more)
opens-append [] more = refl
opens-append (load ∷ loads) more = refl

pub between-next : (section from to : ℕ) (runs : List Run) (run : Run)
    → loads_between section (runs ++ run ∷ []) from to ≡ loads_between section runs from to ++ loads_between section (run ∷ []) from to
between-next section from to runs run = flat_map-append _ runs (run ∷ [])
