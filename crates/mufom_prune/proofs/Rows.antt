-- Worked examples: what is kept of a module, and what remains of it.
use Rattle.std.proofs.Common.{ℕ, List, [], ◌∷◌, Option, Some, None, true, false, refl}
use Rattle.std.specs.Prelude.{codes}
use Rattle.mufom_expr.specs.declared.token.FieldKind.TheVariants.{Either}
use Rattle.mufom_expr.specs.declared.token.Letter.TheVariants as letters
use Rattle.mufom_expr.specs.Tree.{Tree, number, variable, two, plus}
use Rattle.mufom_sections.specs.declared.section.Section.{Section}
use Rattle.mufom_names.specs.declared.name.Public.{Public}
use Rattle.mufom_names.specs.declared.name.Reference.{Reference}
use Rattle.mufom_loads.specs.declared.load.Item.TheVariants.{Literal, Field}
use Rattle.mufom_loads.specs.declared.load.Load.{Load}
use Rattle.mufom_loads.specs.declared.load.Load.TheVariants.{SetSection, SetPc, One, Repeat}
use Rattle.mufom_module.specs.declared.module.Order.TheVariants.{Most}
use Rattle.mufom_module.specs.declared.module.Parts.{Parts}
use Rattle.mufom_prune.specs.Kept.{needs, roots}
use Rattle.mufom_prune.specs.Pruned.{IsPruned, IsPrunedFor}
use Rattle.mufom_prune.proofs.RowLaws.{shown}

-- a module with these lists and this start, and nothing else
abbrev a_module : List Section → List Public → List Reference → List Load → Option Tree → Parts
a_module sections publics references loads start = record {
  processor = codes "68000";
  name = codes "a";
  maus = 4;
  order = Most;
  ext = [];
  env = [];
  sections = sections;
  names = record { publics = publics; references = references };
  debug = [];
  loads = loads;
  start = start;
}

-- a section that waits for its base
abbrev section_of : List ℕ → Section
section_of name = record { name = name; absolute = false; purpose = None; size = 4; align = 1; base = None }

-- a section with a base
abbrev based_at : List ℕ → ℕ → Section
based_at name base = record { name = name; absolute = false; purpose = None; size = 4; align = 1; base = Some base }

abbrev public_of : List ℕ → Tree → Public
public_of name t = record { name = name; value = t; notes = [] }

abbrev strong : List ℕ → Reference
strong name = record { name = name; weak = None; notes = [] }

abbrev weak : List ℕ → ℕ → Reference
weak name size = record { name = name; weak = Some (record { size = size; default = 0 }); notes = [] }

abbrev a : List ℕ
a = codes "a"

abbrev b : List ℕ
b = codes "b"

abbrev c : List ℕ
c = codes "c"

abbrev at : ℕ → Tree
at n = variable letters.R n

abbrev field : Tree → Load
field t = One (Field Either 4 t)

abbrev bytes : Load
bytes = One (Literal (1 ∷ 2 ∷ 3 ∷ 4 ∷ []))

-- ---- a section keeps the one that it mentions; the public and the section beside it go, and the reference that only this one uses

abbrev plain : Parts
plain = a_module (section_of a ∷ section_of b ∷ section_of c ∷ []) (public_of (codes "main") (at 0) ∷ public_of (codes "u") (at 1) ∷ [])
    (strong (codes "q") ∷ [])
    (SetSection 0 ∷ field (at 2) ∷ SetSection 1 ∷ field (variable letters.X 0) ∷ SetSection 2 ∷ bytes ∷ []) None

pub plain_pruned : IsPruned (a_module (section_of a ∷ section_of c ∷ []) (public_of (codes "main") (at 0) ∷ []) []
    (SetSection 0 ∷ field (at 1) ∷ SetSection 1 ∷ bytes ∷ []) None) plain (codes "main")
plain_pruned = record {
  marks = true ∷ false ∷ true ∷ true ∷ false ∷ false ∷ [];
  kept = shown (needs plain) (roots plain (codes "main" ∷ []) []) (true ∷ false ∷ true ∷ true ∷ false ∷ false ∷ []) (3 ∷ 0 ∷ 2 ∷ []) refl refl refl refl refl;
  is = refl;
}

-- ---- two publics keep all, and the reference; a section stays for its name, without its public

pub both_pruned : IsPrunedFor plain plain (codes "main" ∷ codes "u" ∷ []) []
both_pruned = record {
  marks = true ∷ true ∷ true ∷ true ∷ true ∷ true ∷ [];
  kept = shown (needs plain) (roots plain (codes "main" ∷ codes "u" ∷ []) []) (true ∷ true ∷ true ∷ true ∷ true ∷ true ∷ []) (3 ∷ 4 ∷ 0 ∷ 1 ∷ 2 ∷ 5 ∷ [])
      refl refl refl refl refl;
  is = refl;
}

pub stayed_pruned : IsPrunedFor (a_module (section_of a ∷ section_of b ∷ section_of c ∷ []) (public_of (codes "main") (at 0) ∷ []) (strong (codes "q") ∷ [])
    plain.loads None) plain (codes "main" ∷ []) (codes "none" ∷ b ∷ [])
stayed_pruned = record {
  marks = true ∷ true ∷ true ∷ true ∷ false ∷ true ∷ [];
  kept = shown (needs plain) (roots plain (codes "main" ∷ []) (codes "none" ∷ b ∷ [])) (true ∷ true ∷ true ∷ true ∷ false ∷ true ∷ [])
      (1 ∷ 3 ∷ 0 ∷ 5 ∷ 2 ∷ []) refl refl refl refl refl;
  is = refl;
}

-- ---- a ring of sections, and one that is kept by its base alone; a removed section's counter is set between those of a kept one

abbrev ring : Parts
ring = a_module (section_of a ∷ section_of b ∷ based_at c 64 ∷ section_of (codes "d") ∷ []) (public_of (codes "main") (at 1) ∷ []) []
    (SetSection 0 ∷ SetPc 0 (two plus (variable letters.P 0) (number 1)) ∷ SetPc 3 (at 3) ∷ SetPc 0 (at 0) ∷ Repeat 2
    (Field Either 2 (at 1) ∷ []) ∷ SetSection 1 ∷ field (at 0) ∷ SetSection 3 ∷ bytes ∷ []) None

pub ring_pruned : IsPruned (a_module (section_of a ∷ section_of b ∷ based_at c 64 ∷ []) (public_of (codes "main") (at 1) ∷ []) []
    (SetSection 0 ∷ SetPc 0 (two plus (variable letters.P 0) (number 1)) ∷ SetPc 0 (at 0) ∷ Repeat 2 (Field Either 2 (at 1) ∷ []) ∷ SetSection
    1 ∷ field (at 0) ∷ []) None) ring (codes "main")
ring_pruned = record {
  marks = true ∷ true ∷ true ∷ false ∷ true ∷ [];
  kept = shown (needs ring) (roots ring (codes "main" ∷ []) []) (true ∷ true ∷ true ∷ false ∷ true ∷ []) (4 ∷ 1 ∷ 0 ∷ 2 ∷ []) refl refl refl refl refl;
  is = refl;
}

-- ---- a public that only a removed load mentions goes; what the start mentions stays, by S and by P of kept loads too

abbrev started : Parts
started = a_module (section_of a ∷ section_of b ∷ section_of c ∷ [])
    (public_of (codes "gone") (at 1) ∷ public_of (codes "main") (number 7) ∷ public_of (codes "step") (variable letters.S 2) ∷ []) []
    (SetSection 1 ∷ field (variable letters.I 0) ∷ SetSection 2 ∷ field (variable letters.P 2) ∷ []) (Some (variable letters.I 2))

pub started_pruned : IsPruned (a_module (section_of c ∷ []) (public_of (codes "main") (number 7) ∷ public_of (codes "step") (variable letters.S 0) ∷ []) []
    (SetSection 0 ∷ field (variable letters.P 0) ∷ []) (Some (variable letters.I 1))) started (codes "main")
started_pruned = record {
  marks = false ∷ false ∷ true ∷ false ∷ true ∷ true ∷ [];
  kept = shown (needs started) (roots started (codes "main" ∷ []) []) (false ∷ false ∷ true ∷ false ∷ true ∷ true ∷ []) (4 ∷ 5 ∷ 2 ∷ []) refl refl refl refl refl;
  is = refl;
}

-- ---- a common with the name of a kept strong reference stays, through the first of two references of one name; a public is reached by X

abbrev named : Parts
named = a_module (section_of a ∷ section_of b ∷ []) (public_of (codes "main") (variable letters.X 1) ∷ public_of (codes "f") (at 1) ∷ [])
    (strong (codes "z") ∷ strong (codes "f") ∷ strong (codes "g") ∷ weak (codes "g") 8 ∷ weak (codes "g") 0 ∷ weak (codes "z") 8 ∷ [])
    (SetSection 1 ∷ field (variable letters.X 2) ∷ SetSection 0 ∷ field (variable letters.X 0) ∷ []) None

pub named_pruned : IsPruned (a_module (section_of b ∷ []) (public_of (codes "main") (variable letters.X 0) ∷ public_of (codes "f") (at 0) ∷ [])
    (strong (codes "f") ∷ strong (codes "g") ∷ weak (codes "g") 8 ∷ [])
    (SetSection 0 ∷ field (variable letters.X 1) ∷ []) None) named (codes "main")
named_pruned = record {
  marks = false ∷ true ∷ true ∷ true ∷ false ∷ true ∷ true ∷ false ∷ false ∷ false ∷ [];
  kept = shown (needs named) (roots named (codes "main" ∷ []) []) (false ∷ true ∷ true ∷ true ∷ false ∷ true ∷ true ∷ false ∷ false ∷ false ∷ [])
      (2 ∷ 5 ∷ 3 ∷ 1 ∷ 6 ∷ []) refl refl refl refl refl;
  is = refl;
}
