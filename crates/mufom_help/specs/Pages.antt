-- The form of every topic of help.
use Rattle.std.specs.Prelude.{ℕ, suc, Bool, true, false, List, [], ◌∷◌, ◌++◌, codes, nat_le, nat_eq, length, ◌&&◌, not, cond}
use Rattle.std.specs.List.{list_all, list_any, starts_with}
use Rattle.std.specs.Str.{bytes_eq}
use Rattle.mufom_help.specs.Topics.{Text, Topic}

-- the lengths in bytes of the pieces between the line ends of a text, if `n` bytes of the first piece come before the text
unfoldable pub piece_lengths : ℕ → Text → List ℕ
piece_lengths n [] = n ∷ []
piece_lengths n (byte ∷ more) = cond (nat_eq byte 10) (n ∷ piece_lengths 0 more) (piece_lengths (suc n) more)

-- the last piece is empty: each line has its line end
unfoldable pub are_ended : List ℕ → Bool
are_ended [] = false
are_ended (n ∷ []) = nat_eq n 0
are_ended (_ ∷ more) = are_ended more

abbrev pub are_short : List ℕ → Bool
are_short lengths = are_ended lengths && nat_le (length lengths) 41 && list_all (λ n. nat_le n 80) lengths

-- at most 40 lines of at most 80 bytes, each with its line end
abbrev pub fits_a_screen : Text → Bool
fits_a_screen text = are_short (piece_lengths 0 text)

-- the text begins with the name and a colon, and fits a screen
abbrev pub is_page : Topic → Bool
is_page topic = starts_with nat_eq topic.1 (topic.0 ++ codes ": ") && fits_a_screen topic.1

abbrev pub are_pages : List Topic → Bool
are_pages among = list_all is_page among

-- no two topics have the same name
unfoldable pub have_own_names : List Topic → Bool
have_own_names [] = true
have_own_names (topic ∷ more) = not (list_any (λ other. bytes_eq topic.0 other.0) more) && have_own_names more
