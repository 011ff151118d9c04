-- The text of the argument with a number.
use Rattle.std.proofs.Common.{◌≡◌, ℕ, List, [], map, option_map, Option, Some, None, slice_get, slice_index_or, unwrap_or, sym, ap, ◌∙◌}
use Rattle.std.proofs.Common.{String, Global, string_bytes}
use Rattle.std.proofs.lemmas.Option.{get_or_from_slice_get, slice_get-map, unwrap_or-slice_get}

abbrev bytes_of : List (String Global) → List (List ℕ)
bytes_of words = map (λ word. string_bytes word) words

pub word-there : (words : List (String Global)) (n : ℕ) (word : String Global) → slice_get words n ≡ Some word
    → string_bytes word ≡ slice_index_or (bytes_of words) n []
word-there words n word is =
    sym (get_or_from_slice_get (bytes_of words) n (string_bytes word) []
    (slice_get-map (λ word. string_bytes word) words n ∙ ap (option_map (λ (w : String Global). string_bytes w)) is))

pub word-past : (words : List (String Global)) (n : ℕ) → slice_get words n ≡ None → [] ≡ slice_index_or (bytes_of words) n []
word-past words n is =
    sym (sym (unwrap_or-slice_get (bytes_of words) n [])
    ∙ ap (λ (o : Option (List ℕ)). unwrap_or o [])
    (slice_get-map (λ word. string_bytes word) words n ∙ ap (option_map (λ (w : String Global). string_bytes w)) is))
