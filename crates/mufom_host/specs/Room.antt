-- The size limits of the parts of a host in memory.
use Rattle.std.specs.Prelude.{◌≡◌, ℕ}

-- all parts have the same limit as the output
pub record HasOneRoom (out err file opened created : ℕ) : Type 0 where
  pub of_err : err ≡ out
  pub of_file : file ≡ out
  pub of_opened : opened ≡ out
  pub of_created : created ≡ out
