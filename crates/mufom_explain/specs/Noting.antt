-- Adding mentions one after another, to a list for each name. A mention is not added twice in a row.
use Rattle.std.specs.Prelude.{ℕ, ◌-◌, ◌==◌, ◌&&◌, List, [], ◌∷◌, ◌++◌, length, slice_get, Option, Some, None, Bool, true, false, if◌then◌else◌, ◌≡◌}
use Rattle.std.specs.Str.{bytes_eq}
use Rattle.mufom_explain.specs.declared.mention.Mention.{Mention}
use Rattle.mufom_explain.specs.declared.mention.MentionKind.{MentionKind}
use Rattle.mufom_explain.specs.declared.mention.MentionKind.TheVariants as kinds

abbrev pub same_kind : MentionKind → MentionKind → Bool
same_kind kinds.Public kinds.Public = true
same_kind kinds.Reference kinds.Reference = true
same_kind kinds.Public kinds.Reference = false
same_kind kinds.Reference kinds.Public = false

abbrev pub same_mention : Mention → Mention → Bool
same_mention m n = (m.position == n.position) && same_kind m.kind n.kind

abbrev pub is_mention : Option Mention → Mention → Bool
is_mention None m = false
is_mention (Some n) m = same_mention n m

-- the last of the mentions is this one
abbrev pub ends_with : List Mention → Mention → Bool
ends_with mentions m = is_mention (slice_get mentions (length mentions - 1)) m

-- the mentions with one more, unless it is already the last one
abbrev pub noted : List Mention → Mention → List Mention
noted mentions m = if ends_with mentions m then mentions else mentions ++ m ∷ []

-- the mentions of each name
abbrev pub Told : Type 0
Told = List ℕ → List Mention

-- the same with one more for this name, unless it is already the last one
abbrev pub noted_for : Told → List ℕ → Mention → Told
noted_for told name m w = if bytes_eq name w then noted (told w) m else told w

-- the same with one more for each name for which the test holds
abbrev pub told_with : Told → (List ℕ → Bool) → Mention → Told
told_with told holds m w = if holds w then told w ++ m ∷ [] else told w

-- no name has this mention last
abbrev pub IsFresh : Mention → Told → Type 0
IsFresh m told = (w : List ℕ) → ends_with (told w) m ≡ false
