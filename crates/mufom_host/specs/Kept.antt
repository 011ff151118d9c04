-- What a host in memory stores: bytes and names up to a size limit (the room), the files that may be opened, and the file that is made.
use Rattle.std.specs.Prelude.{ℕ, ◌+◌, nat_le, nat_lt, Bool, true, false, if◌then◌else◌, List, [], ◌∷◌, ◌++◌, length, take, drop, Option, Some, None}
use Rattle.std.specs.Prelude.{is_some, unwrap_or, ◌==◌, slice_get}
use Rattle.std.specs.List.{list_any, sum_by}
use Rattle.mufom_host.specs.World.{NamedFile, file_named, optional}

-- stored bytes, and the limit on their number
pub record Store : Type 0 where
  pub bytes : List ℕ
  pub room : ℕ

-- stored names, and the limit on their weight in bytes; the names are None once one of them has exceeded the limit
pub record NameStore : Type 0 where
  pub names : Option (List (List ℕ))
  pub room : ℕ

-- the weight of a list of names: for each name its length in bytes plus 8
abbrev pub name_weight : List (List ℕ) → ℕ
name_weight names = sum_by (λ name. length name + 8) names

-- the names with one more at the end, or None if they are None already or their weight would exceed the room
abbrev pub names_with : ℕ → Option (List (List ℕ)) → List ℕ → Option (List (List ℕ))
names_with room None name = None
names_with room (Some names) name = if nat_le (name_weight (names ++ name ∷ [])) room then Some (names ++ name ∷ []) else None

-- bytes cut into names of these lengths
abbrev pub cut : List ℕ → List ℕ → List (List ℕ)
cut [] bytes = []
cut (n ∷ lengths) bytes = take n bytes ∷ cut lengths (drop n bytes)

-- the files that may be opened, and the unread bytes of the open one
pub record Input : Type 0 where
  pub files : List NamedFile
  pub left : List ℕ

-- the bytes of a file from an offset on
abbrev pub rest_of : Option NamedFile → ℕ → List ℕ
rest_of None at = []
rest_of (Some file) at = drop at file.1

-- the bytes of the file at a position, from an offset on
abbrev pub left_of : List NamedFile → Option ℕ → ℕ → List ℕ
left_of files None at = []
left_of files (Some place) at = rest_of (slice_get files place) at

-- there is a file with this name
abbrev pub has_file : List ℕ → List NamedFile → Bool
has_file name files = is_some (file_named name files)

-- the bytes of the file with this name, or the bytes `left` if there is no such file
abbrev pub bytes_after : List ℕ → List NamedFile → List ℕ → List ℕ
bytes_after name files left = unwrap_or (file_named name files) left

-- the input after an open: all bytes of the file with this name are unread; without such a file nothing changes
abbrev pub opened_file : Input → List ℕ → Input
opened_file input name = record input { left = bytes_after name input.files input.left }

-- the number of a call is in the list of the calls that fail
abbrev pub is_listed : ℕ → List ℕ → Bool
is_listed number failing = list_any (λ k. k == number) failing

-- the one file that is made, while it is being made and when it is finished, and its greatest length in bytes
pub record FileStore : Type 0 where
  pub making : Option NamedFile
  pub made : List NamedFile
  pub room : ℕ

-- there is a file in the list
abbrev pub has_any : List NamedFile → Bool
has_any [] = false
has_any (file ∷ files) = true

-- a file is being made, and `count` more bytes would exceed the limit on its length
abbrev pub passes_file : Option NamedFile → ℕ → ℕ → Bool
passes_file None room count = false
passes_file (Some file) room count = nat_lt room (length file.1 + count)

-- the file being made is finished, if there is one
abbrev pub finished : FileStore → FileStore
finished store = record store { making = None; made = store.made ++ optional store.making }
