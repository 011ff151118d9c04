-- The greatest weight of the modules that are located.
use Rattle.std.specs.Prelude.{ℕ}

-- The weight of a module is below this: the modules of a run weigh at most 671,088,640 together, and the name of their link has at most
-- 65,535 bytes. So the absolute module of a location weighs less than 2^32.
abbrev pub weight_limit : ℕ
weight_limit = 671154176
