-- The files that a host in memory reveals: they hold bytes.
use Rattle.std.specs.Prelude.{option_map, ◌≡◌, ℕ, ◌&&◌, nat_lt, Bool, true, false, if◌then◌else◌, cond, List, [], ◌∷◌, Option, Some, None, IfSome, refl}
use Rattle.std.specs.List.{list_all, find}
use Rattle.std.specs.Str.{bytes_eq}
use Rattle.std.proofs.lemmas.Bool.{ltb-true, false≢true}
use Rattle.std.proofs.lemmas.Option.{same_Some, none-some}
use Rattle.std.proofs.Common.{sym, subst, ap, ◌∙◌}
use Rattle.mufom_numbers.specs.Spelling.{AreBytes}
use Rattle.mufom_host.specs.World.{NamedFile, HoldBytes, file_named}

-- each number is below 256
abbrev pub are_bytes : List ℕ → Bool
are_bytes numbers = list_all (λ b. nat_lt b 256) numbers

-- the content of each file consists of bytes, as it does in every host that a program makes
abbrev pub hold_bytes : List NamedFile → Bool
hold_bytes files = list_all (λ file. are_bytes file.1) files

-- the files, or None if the content of one does not consist of bytes
abbrev pub revealed : List NamedFile → Option (List NamedFile)
revealed files = if hold_bytes files then Some files else None

both : (a b : Bool) → (a && b) ≡ true → (a ≡ true) × (b ≡ true)
both true b h = (refl, h)
both false b h = absurd (false≢true h)

bytes_by_test : (numbers : List ℕ) → are_bytes numbers ≡ true → AreBytes numbers
bytes_by_test [] h = tt
bytes_by_test (b ∷ numbers) h = let parts = both (nat_lt b 256) (are_bytes numbers) h in (ltb-true b 256 parts.0, bytes_by_test numbers parts.1)

-- files that are revealed hold bytes
pub revealed-bytes : (files : List NamedFile) → IfSome (revealed files) HoldBytes
revealed-bytes files = by (hold_bytes files) refl where
  found : (name : List ℕ) (file : NamedFile) (files : List NamedFile) (same : Bool) → bytes_eq file.0 name ≡ same
      → file_named name (file ∷ files) ≡ option_map (λ (f : NamedFile). f.1) (cond same (Some file) (find (λ f. bytes_eq f.0 name) files))
  found name file files same is = ap (λ (b : Bool). option_map (λ (f : NamedFile). f.1) (cond b (Some file) (find (λ f. bytes_eq f.0 name) files))) is

  named : (files : List NamedFile) → hold_bytes files ≡ true → HoldBytes files
  named [] h name bytes there = absurd (none-some bytes there)
  named (file ∷ files) h name bytes there = first (named files (both (are_bytes file.1) (hold_bytes files) h).1 name bytes) (bytes_eq file.0 name) refl where
    first : (file_named name files ≡ Some bytes → AreBytes bytes) → (same : Bool) → bytes_eq file.0 name ≡ same → AreBytes bytes
    first later true same =
        subst AreBytes (same_Some file.1 bytes (sym (found name file files true same) ∙ there))
        (bytes_by_test file.1 (both (are_bytes file.1) (hold_bytes files) h).0)
    first later false same = later (sym (found name file files false same) ∙ there)

  by : (known : Bool) → hold_bytes files ≡ known → IfSome (if known then Some files else None) HoldBytes
  by true known = named files known
  by false known = tt
