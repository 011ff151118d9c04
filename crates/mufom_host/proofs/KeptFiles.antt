-- The file that is opened is the one with the name.
use Rattle.std.proofs.Common.{◌≡◌, sym, ◌∙◌, ap, ℕ, ◌<◌, ◌≤◌, Bool, cond, List, length, Some, None, inl, inr}
use Rattle.std.specs.List.{find, position, position_or_len}
use Rattle.std.specs.Prelude.{slice_get, option_map}
use Rattle.std.proofs.lemmas.List.Folds.{find_at}
use Rattle.std.proofs.lemmas.Option.{slice_get_cases, same_Some, none-some}
use Rattle.std.proofs.lemmas.Bool.{lt-ltb, le-ltb}
use Rattle.std.specs.Str.{bytes_eq}
use Rattle.mufom_host.specs.World.{NamedFile, file_named}
use Rattle.mufom_host.specs.Kept.{rest_of}

module _ {X : Type 0} (p : X → Bool) (xs : List X) where
  position-within : position_or_len p xs < length xs → position p xs ≡ Some (position_or_len p xs)
  position-within below = ap (λ b. cond b (Some (position_or_len p xs)) None) (lt-ltb _ _ below)

  position-past : length xs ≤ position_or_len p xs → position p xs ≡ None
  position-past past = ap (λ b. cond b (Some (position_or_len p xs)) None) (le-ltb _ _ past)

  -- the element at the position is the one that is found
  find_by_position : (i : ℕ) → position p xs ≡ Some i → (x : X) × (slice_get xs i ≡ Some x) × (find p xs ≡ Some x)
  find_by_position i at =
      elim (slice_get_cases xs (position_or_len p xs)).1 [
        | inl w ↦ let same = same_Some _ _ (sym (position-within w.1) ∙ at) in (w.0, rw same at w.2, find_at p xs ∙ w.2)
        | inr w ↦ absurd (none-some i (sym (position-past w.0) ∙ at))
      ]

  no_position : position p xs ≡ None → find p xs ≡ None
  no_position none =
      elim (slice_get_cases xs (position_or_len p xs)).1 [
        | inl w ↦ absurd (none-some (position_or_len p xs) (sym none ∙ position-within w.1))
        | inr w ↦ find_at p xs ∙ w.1
      ]

module _ (name : List ℕ) (files : List NamedFile) where
  pub file_named-none : position (λ file. bytes_eq file.0 name) files ≡ None → file_named name files ≡ None
  file_named-none none = ap (option_map (λ file. file.1)) (no_position (λ file. bytes_eq file.0 name) files none)

  pub file_named-some : (i : ℕ) → position (λ file. bytes_eq file.0 name) files ≡ Some i → file_named name files ≡ Some (rest_of (slice_get files i) 0)
  file_named-some i at =
      let found = find_by_position (λ file. bytes_eq file.0 name) files i at in
      ap (option_map (λ file. file.1)) found.2 ∙ ap (λ file. Some (rest_of file 0)) (sym found.1)
