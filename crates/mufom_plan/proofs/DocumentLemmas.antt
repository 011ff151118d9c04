-- What the members and items of a document are to the code that walks its tables and arrays.
use Rattle.std.proofs.Common.{◌≡◌, ℕ, List, [], ◌∷◌, length, None, Bool, true, ◌&&◌, cond, refl, ap, String, Global, string_bytes, map, rules}
use Rattle.std.specs.Prelude.{IsUtf8, ◌==◌}
use Rattle.std.specs.List.{list_all}
use Rattle.std.specs.Map.{keys_of}
use Rattle.std.specs.Str.Lossy.{utf8_valid_len}
use Rattle.std.proofs.lemmas.Str.{utf8_valid_len-IsUtf8}
use Rattle.toml.specs.Data.{Data}
use Rattle.toml.specs.Parse.{parse_document}
use Rattle.toml.specs.View.{items_of, members_view}
use Rattle.toml.specs.declared.value.Value.{Value}
use Rattle.mufom_plan.specs.Names.{has_name}
use Rattle.mufom_plan.specs.Document.{document_of, has_only_keys, list_of}

equal_tested : (m n : ℕ) → m ≡ n → (m == n) ≡ true
equal_tested m n e = search rules

-- bytes that are UTF-8 are the document that `toml` reads
pub document_of-IsUtf8 : (bytes : List ℕ) → IsUtf8 bytes → document_of bytes ≡ parse_document bytes
document_of-IsUtf8 bytes text =
    ap (λ b. cond b (parse_document bytes) None) (equal_tested (utf8_valid_len bytes) (length bytes) (utf8_valid_len-IsUtf8 bytes text))

-- the test of each key of a table is the test of its members' keys
pub has_only_keys-members_view : (keys : List (List ℕ)) (es : List (String Global × Value))
    → list_all (λ key. has_name keys (string_bytes key)) (keys_of es) ≡ has_only_keys keys (members_view es)
has_only_keys-members_view keys [] = refl
has_only_keys-members_view keys (e ∷ es) = ap (λ b. has_name keys (string_bytes e.0) && b) (has_only_keys-members_view keys es)

-- a list as items, and back
pub list_of-items_of : (values : List Data) → list_of (items_of values) ≡ values
list_of-items_of [] = refl
list_of-items_of (value ∷ values) = ap (λ more. value ∷ more) (list_of-items_of values)

-- a test of each value is that of what is seen of it
pub list_all-map : {A B : Type 0} (p : B → Bool) (f : A → B) (xs : List A) → list_all p (map f xs) ≡ list_all (λ x. p (f x)) xs
list_all-map p f [] = refl
list_all-map p f (x ∷ xs) = ap (λ b. p (f x) && b) (list_all-map p f xs)
