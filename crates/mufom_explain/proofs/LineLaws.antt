-- Lines of a flat list, as the code has it.
use Rattle.std.proofs.Common.{◌≡◌, ℕ, ◌+◌, List, [], ◌∷◌, ◌++◌, map, refl, ap}
use Rattle.mufom_origins.specs.Origins.{FileModule}
use Rattle.mufom_text.specs.Words.{Text, each, each_from}
use Rattle.mufom_explain.specs.declared.modules.FlatModule.{FlatModule}
use Rattle.mufom_explain.specs.Flat.{flat_of, parts_of}

each_from-map : {X Y : Type 0} (f : X → Y) (write : ℕ → Y → Text) (n : ℕ) (xs : List X)
    → each_from n write (map f xs) ≡ each_from n (λ j x. write j (f x)) xs
each_from-map f write n [] = refl
each_from-map f write n (x ∷ xs) = ap (λ t. write n (f x) ++ t) (each_from-map f write (n + 1) xs)

-- the texts of what is made of a list
pub each-map : {X Y : Type 0} (f : X → Y) (write : ℕ → Y → Text) (xs : List X) → each write (map f xs) ≡ each (λ j x. write j (f x)) xs
each-map f write xs = each_from-map f write 0 xs

-- the modules of a flat list, without their files
pub flat-parts : (flat : List FlatModule) → map (λ (f : FileModule). f.1) (flat_of flat) ≡ parts_of flat
flat-parts [] = refl
flat-parts (f ∷ flat) = ap (λ rest. f.parts.now ∷ rest) (flat-parts flat)
