-- How names are stored: their bytes one after the other in one `Vec`, and their lengths in another.
use Rattle.std.specs.Prelude.{◌≡◌, ℕ, ◌+◌, ◌*◌, ◌/◌, ◌≤◌, length, sum, vec_len}
use Rattle.std.specs.Vec.{vec_capacity}
use Rattle.std.specs.declared.vec.Vec.{Vec}
use Rattle.std.specs.declared.alloc.Global.{Global}

-- the lengths add up to the number of bytes, the weight of the names is within the room, and both `Vec`s have the capacity for it
pub record HasRoom (bytes : Vec ℕ Global) (lengths : Vec ℕ Global) (room : ℕ) : Type 0 where
  pub whole : sum lengths.items ≡ length bytes.items
  pub within : vec_len bytes + 8 * vec_len lengths ≤ room
  pub bytes_fit : room ≤ vec_capacity bytes
  pub lengths_fit : room / 8 ≤ vec_capacity lengths
