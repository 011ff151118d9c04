-- The publics of a module as a graph: each position leads to the positions that the expression of its public mentions.
use Rattle.std.specs.Prelude.{ℕ, ◌<◌, List, [], flat_map, Option, Some, None, option_to_list, slice_get, Contains}
use Rattle.mufom_expr.specs.declared.token.Letter.{Letter}
use Rattle.mufom_expr.specs.declared.token.Letter.TheVariants as letters
use Rattle.mufom_expr.specs.declared.token.Token.{Token}
use Rattle.mufom_expr.specs.declared.token.Token.TheVariants.{Number, Var, Fun}
use Rattle.mufom_expr.specs.Tree.{tokens_of}
use Rattle.mufom_names.specs.declared.name.Public.{Public}
use Rattle.mufom_image_values.specs.declared.resolutions.Resolution.{Resolution}
use Rattle.mufom_image_values.specs.declared.resolutions.Resolution.TheVariants as resolutions

-- the public to which a reference resolves, if it resolves to one
abbrev pub public_met : Option Resolution → Option ℕ
public_met None = None
public_met (Some (resolutions.Public n)) = Some n
public_met (Some (resolutions.Common n)) = None
public_met (Some (resolutions.Default v)) = None
public_met (Some resolutions.Nothing) = None

-- the public that a variable mentions
abbrev pub public_named : List Resolution → Letter → ℕ → Option ℕ
public_named met letters.I n = Some n
public_named met letters.X n = public_met (slice_get met n)
public_named met letters.L n = None
public_named met letters.P n = None
public_named met letters.R n = None
public_named met letters.S n = None

-- the public that a token mentions
abbrev pub mentioned_in : List Resolution → Token → Option ℕ
mentioned_in met (Number n) = None
mentioned_in met (Var letter n) = public_named met letter n
mentioned_in met (Fun f) = None

-- the publics that tokens mention, in order
abbrev pub mentions_of : List Resolution → List Token → List ℕ
mentions_of met tokens = flat_map (λ token. option_to_list (mentioned_in met token)) tokens

-- the tokens of a public, if there is one
abbrev pub tokens_of_public : Option Public → List Token
tokens_of_public None = []
tokens_of_public (Some public) = tokens_of public.value

-- the tokens of the public at a position
abbrev pub tokens_at : List Public → ℕ → List Token
tokens_at publics n = tokens_of_public (slice_get publics n)

-- the positions that the public at a position mentions
abbrev pub edges : List Resolution → List Public → ℕ → List ℕ
edges met publics n = mentions_of met (tokens_at publics n)

-- all positions are below this number
abbrev pub AreWithin : List ℕ → ℕ → Type 0
AreWithin positions count = (n : ℕ) → Contains positions n → n < count

-- all positions that are led to are below this number
abbrev pub IsClosed : (ℕ → List ℕ) → ℕ → Type 0
IsClosed edges count = (n : ℕ) → AreWithin (edges n) count
