-- Worked lines: a common that does not fit a region of 13 addresses, a name that two modules define, undefined names, sections at a border
-- of modules, modules with another descriptor and with a start, a name that no module defines, and a value that does not fit its field.
use Rattle.std.proofs.Common.{◌≡◌, ℕ, List, [], ◌∷◌, ◌++◌, Some, None, true, false, refl}
use Rattle.std.specs.Prelude.{codes}
use Rattle.std.specs.Fmt.{digits}
use Rattle.hex.proofs.OnLiterals.{hex_on_literals}
use Rattle.mufom_expr.specs.declared.token.FieldKind.TheVariants.{Unsigned}
use Rattle.mufom_expr.specs.declared.token.Letter.TheVariants.{R, X}
use Rattle.mufom_expr.specs.Tree.{number, plus, two, variable}
use Rattle.mufom_loads.specs.declared.load.Item.TheVariants.{Field}
use Rattle.mufom_loads.specs.declared.load.Load.TheVariants.{One, SetSection}
use Rattle.mufom_module.specs.declared.module.Order.TheVariants.{Most}
use Rattle.mufom_module.specs.declared.module.Parts.{Parts}
use Rattle.mufom_names.specs.declared.name.Public.{Public}
use Rattle.mufom_names.specs.declared.name.Reference.{Reference}
use Rattle.mufom_plan.specs.declared.plan.Plan.{Plan}
use Rattle.mufom_place.specs.declared.refusal.PlaceRefusal.TheVariants.{Misfit, Overlap}
use Rattle.mufom_refusals.specs.declared.link.LinkRefusal.TheVariants.{Duplicate, DuplicateStart, Mismatch}
use Rattle.mufom_refusals.specs.declared.locate.LocateRefusal.TheVariants.{Overflow, Place, Undefined}
use Rattle.mufom_meaning.specs.Steps.{counter}
use Rattle.mufom_meaning.specs.Values.{value_within}
use Rattle.mufom_text.specs.Words.{line}
use Rattle.mufom_origins.specs.Origins.{FileModule, origins_of}
use Rattle.mufom_explain.specs.Lines.{ModuleFiles}
use Rattle.mufom_origins.specs.Words.{one_each}
use Rattle.mufom_explain.specs.Details.{Explained, link_details, locate_details, name_details}

abbrev bare : Parts
bare = record {
  processor = [];
  name = [];
  maus = 4;
  order = Most;
  ext = [];
  env = [];
  sections = [];
  names = record { publics = []; references = [] };
  debug = [];
  loads = [];
  start = None;
}

abbrev common : ℕ → Reference
common size = record { name = codes "c"; weak = Some (record { size = size; «default» = 0 }); notes = [] }

abbrev strong : List ℕ → Reference
strong name = record { name = name; weak = None; notes = [] }

abbrev weak : List ℕ → Reference
weak name = record { name = name; weak = Some (record { size = 0; «default» = 0 }); notes = [] }

abbrev public : List ℕ → Public
public name = record { name = name; value = number 0; notes = [] }

-- ---- a misfit

abbrev first : Parts
first = record bare {
  name = codes "a";
  sections = record { name = codes "t"; absolute = false; purpose = None; size = 4; align = 4; base = None } ∷ [];
  names = record { publics = []; references = common 4 ∷ [] };
}

abbrev second : Parts
second = record first { name = codes "b"; names = record { publics = []; references = common 6 ∷ [] } }

abbrev plan : Plan
plan = record { regions = record { name = codes "ram"; base = 256; size = 13; sections = codes "t" ∷ []; common = true; load = None } ∷ []; symbols = []; keep = [] }

abbrev files : ModuleFiles
files = one_each 0 (codes "a.695" ∷ codes "b.695" ∷ [])

abbrev flat : List FileModule
flat = (0, first) ∷ (1, second) ∷ []

abbrev explained : Explained
explained = record {
  names = files;
  flat = flat;
  origins = origins_of flat;
  maus = 4;
  modules = first ∷ second ∷ [];
  «module» = first;
  own = first;
  plan = plan;
}

misfit_is : locate_details explained (Place (Misfit 2 (Some 0)))
    ≡ line (codes "common 2: \"c\" size 6 align 8") ++ line (codes "  module 0 \"a\" file 0: \"a.695\"") ++ line (codes "  module 1 \"b\" file 1: \"b.695\"")
    ++ line (codes "region 0: \"ram\" base 00000100 size 13, its sections take 14")
unfolding hex_on_literals digits
misfit_is = refl

section_is : locate_details explained (Place (Misfit 1 None))
    ≡ line (codes "section 1: \"t\" size 4 align 4, module 1 \"b\" file 1: \"b.695\"")
unfolding hex_on_literals digits
section_is = refl

-- ---- a duplicate

abbrev doubled : List FileModule
doubled =
    (1, record bare { name = codes "a"; names = record { publics = public (codes "f") ∷ []; references = [] } })
    ∷ (2, record bare { name = codes "b"; names = record { publics = public (codes "f") ∷ []; references = strong (codes "f") ∷ [] } }) ∷ []

duplicate_is : link_details (one_each 0 (codes "r" ∷ codes "a" ∷ codes "b" ∷ [])) doubled (Duplicate (codes "f"))
    ≡ line (codes "\"f\": public in module 0") ++ line (codes "\"f\": public in module 1") ++ line (codes "\"f\": reference in module 1")
    ++ line (codes "module 0 \"a\" file 1: \"a\"") ++ line (codes "module 1 \"b\" file 2: \"b\"")
unfolding hex_on_literals digits
duplicate_is = refl

-- ---- undefined names, of a member of an archive among others

abbrev root : Parts
root = record bare { name = codes "r"; names = record { publics = []; references = weak (codes "y") ∷ strong (codes "f") ∷ strong (codes "z") ∷ [] } }

abbrev member : Parts
member = record bare {
  name = codes "k1";
  names = record { publics = public (codes "f") ∷ []; references = strong (codes "z") ∷ strong (codes "y") ∷ [] };
}

abbrev lacking : Explained
lacking = record {
  names = record { number = 0; name = codes "r" } ∷ record { number = 1; name = codes "l.a(k0)" } ∷ record { number = 1; name = codes "l.a(k1)" } ∷ [];
  flat = (0, root) ∷ (2, member) ∷ [];
  origins = origins_of ((0, root) ∷ (2, member) ∷ []);
  maus = 4;
  modules = root ∷ member ∷ [];
  «module» = root;
  own = root;
  plan = record { regions = []; symbols = []; keep = [] };
}

undefined_is : locate_details lacking (Undefined (codes "z"))
    ≡ line (codes "\"z\": reference in module 0") ++ line (codes "\"z\": reference in module 1") ++ line (codes "\"y\": reference in module 0")
    ++ line (codes "\"y\": reference in module 1") ++ line (codes "module 0 \"r\" file 0: \"r\"") ++ line (codes "module 1 \"k1\" file 1: \"l.a(k1)\"")
unfolding hex_on_literals digits
undefined_is = refl

-- ---- sections at a border of modules, with empty modules between

abbrev empty : Parts
empty = record bare { name = codes "e" }

abbrev small : Parts
small = record bare {
  name = codes "x";
  sections = record { name = codes "t"; absolute = false; purpose = None; size = 1; align = 1; base = None }
      ∷ record { name = codes "t"; absolute = false; purpose = None; size = 1; align = 1; base = Some 64 } ∷ [];
}

abbrev many : List FileModule
many = (0, empty) ∷ (1, small) ∷ (2, empty) ∷ (5, small) ∷ []

abbrev bordered : Explained
bordered = record {
  names = one_each 0 (codes "e0" ∷ codes "x1" ∷ codes "e2" ∷ codes "m3" ∷ codes "m4" ∷ codes "x5" ∷ []);
  flat = many;
  origins = origins_of many;
  maus = 2;
  modules = empty ∷ small ∷ empty ∷ small ∷ [];
  «module» = small;
  own = small;
  plan = record { regions = []; symbols = []; keep = [] };
}

-- the last section of one module and the first of the next that has sections; the file of a member is not its place
overlap_is : locate_details bordered (Place (Overlap 1 2))
    ≡ line (codes "section 1: \"t\" size 1 align 1 base 0040, module 1 \"x\" file 1: \"x1\"")
    ++ line (codes "section 2: \"t\" size 1 align 1, module 3 \"x\" file 5: \"x5\"")
unfolding hex_on_literals digits
overlap_is = refl

-- ---- a mismatch, and starts

abbrev narrow : Parts
narrow = record bare { name = codes "two"; maus = 2 }

abbrev started : Parts
started = record bare { name = codes "s"; start = Some (number 0) }

mismatch_is : link_details (one_each 0 (codes "n" ∷ codes "two" ∷ [])) ((0, bare) ∷ (0, bare) ∷ (1, narrow) ∷ (1, narrow) ∷ [])
    (Mismatch (record { maus = 4; order = Most }) (record { maus = 2; order = Most }))
    ≡ line (codes "module 0 \"\" file 0: \"n\"") ++ line (codes "module 2 \"two\" file 1: \"two\"")
unfolding hex_on_literals digits
mismatch_is = refl

starts_are : link_details (one_each 0 (codes "n" ∷ codes "s" ∷ [])) ((0, bare) ∷ (1, started) ∷ (0, bare) ∷ (1, started) ∷ (1, started) ∷ []) DuplicateStart
    ≡ line (codes "module 1 \"s\" file 1: \"s\"") ++ line (codes "module 3 \"s\" file 1: \"s\"")
unfolding hex_on_literals digits
starts_are = refl

-- ---- a name that is to be kept

kept_is : name_details (one_each 0 (codes "r" ∷ codes "k0" ∷ codes "k1" ∷ [])) ((0, root) ∷ (2, member) ∷ []) (codes "y")
    ≡ line (codes "\"y\": reference in module 0") ++ line (codes "\"y\": reference in module 1") ++ line (codes "module 0 \"r\" file 0: \"r\"")
    ++ line (codes "module 1 \"k1\" file 2: \"k1\"")
unfolding hex_on_literals digits
kept_is = refl

-- ---- a value that does not fit its field

abbrev sum : Parts
sum = record first {
  names = record { publics = []; references = weak (codes "far") ∷ [] };
  loads = SetSection 0 ∷ One (Field Unsigned 1 (two plus (variable X 0) (variable R 0))) ∷ [];
}

abbrev summed : Explained
summed = record explained { flat = (0, sum) ∷ []; origins = origins_of ((0, sum) ∷ []); modules = sum ∷ []; «module» = sum; own = sum }

overflow_is : locate_details summed (Overflow 0 256 Unsigned 1 256)
    ≡ line (codes "section 0: \"t\" size 4 align 4, module 0 \"a\" file 0: \"a.695\"") ++ line (codes "value: (X0 + R0)") ++ line (codes "  X0: \"far\"")
    ++ line (codes "  R0: \"t\"")
unfolding hex_on_literals digits counter value_within
overflow_is = refl
