-- The tree of marks is the one that they spell.
use Rattle.std.proofs.Common.{◌≡◌, List, [], ◌∷◌, ◌++◌, refl, ap, ◌∙◌, sym}
use Rattle.std.proofs.lemmas.List.{append_assoc, append-nil}
use Rattle.mufom_words.specs.declared.command.Mark.{Mark}
use Rattle.mufom_words.specs.declared.command.Mark.TheVariants.{Close}
use Rattle.mufom_words.specs.Tree.{Forest, empty, file, group, spelling, Spelled, opened, spelled, tree_of}

-- a forest before another
abbrev pub prepended : Forest → Forest → Forest
prepended empty more = more
prepended (file n rest) more = file n (prepended rest more)
prepended (group inner rest) more = group inner (prepended rest more)

prepended-empty : (f : Forest) → prepended f empty ≡ f
prepended-empty empty = refl
prepended-empty (file n rest) = ap (λ (r : Forest). file n r) (prepended-empty rest)
prepended-empty (group inner rest) = ap (λ (r : Forest). group inner r) (prepended-empty rest)

-- what the spelling of a forest before marks spells
pub spelled-spelling : (f : Forest) (marks : List Mark) → spelled (spelling f ++ marks) ≡ record (spelled marks) { inner = prepended f (spelled marks).inner }
spelled-spelling empty marks = refl
spelled-spelling (file n rest) marks = ap (λ (s : Spelled). record s { inner = file n s.inner }) (spelled-spelling rest marks)
spelled-spelling (group inner rest) marks =
    let after = spelled-spelling rest marks in
    let whole : spelled (spelling inner ++ Close ∷ (spelling rest ++ marks))
    ≡ record { inner = prepended inner empty; others = prepended rest (spelled marks).inner ∷ (spelled marks).others }
    = spelled-spelling inner (Close ∷ (spelling rest ++ marks))
    ∙ ap (λ (s : Spelled). record { inner = prepended inner empty; others = s.inner ∷ s.others }) after in
    let split : (spelling inner ++ Close ∷ spelling rest) ++ marks ≡ spelling inner ++ Close ∷ (spelling rest ++ marks) =
    append_assoc (spelling inner) (Close ∷ spelling rest) marks in
    ap (λ (l : List Mark). opened (spelled l).inner (spelled l).others) split ∙ (ap (λ (s : Spelled). opened s.inner s.others) whole
    ∙ ap (λ (f : Forest). record { inner = group f (prepended rest (spelled marks).inner); others = (spelled marks).others }) (prepended-empty inner))

-- The tree of a forest's spelling is the forest.
pub tree_of-spelling : (f : Forest) → tree_of (spelling f) ≡ f
tree_of-spelling f =
    let with_end : spelling f ++ [] ≡ spelling f = append-nil (spelling f) in
    ap (λ (l : List Mark). tree_of l) (sym with_end) ∙ (ap (λ (s : Spelled). s.inner) (spelled-spelling f []) ∙ prepended-empty f)
