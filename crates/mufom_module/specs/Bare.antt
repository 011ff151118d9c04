-- Parts that state almost nothing.
use Rattle.std.specs.Prelude.{ℕ, [], None}
use Rattle.mufom_module.specs.declared.module.Order.{Order}
use Rattle.mufom_module.specs.declared.module.Parts.{Parts}

-- the parts that state only the size of an address and the order of bytes
abbrev pub bare_parts : ℕ → Order → Parts
bare_parts maus order = record {
  processor = [];
  name = [];
  maus = maus;
  order = order;
  ext = [];
  env = [];
  sections = [];
  names = record { publics = []; references = [] };
  debug = [];
  loads = [];
  start = None;
}
