-- What the indexes of names find: what the list defines, and the first member that defines a name.
use Rattle.std.proofs.Common.{◌≡◌, ℕ, suc, ◌+◌, ◌<◌, List, [], ◌∷◌, ◌++◌, length, map, take, get_or, Option, Some, None, is_some, IfSome, Bool, true}
use Rattle.std.proofs.Common.{false, if◌then◌else◌, refl, sym, ap, subst, ◌∙◌, append-nil, arith}
use Rattle.std.specs.Str.{bytes_eq}
use Rattle.std.proofs.lemmas.List.{take_more}
use Rattle.std.proofs.lemmas.Grind.{common_steps}
use Rattle.mufom_names.specs.declared.name.Public.{Public}
use Rattle.mufom_names.specs.Index.{Entry, position_of, with_entry}
use Rattle.mufom_names.proofs.PositionLaws.{first_of, first_of-assoc, first_of-None, given, first_of-given, position_of-with}
use Rattle.mufom_module.specs.declared.module.Parts.{Parts}
use Rattle.mufom_plan.specs.Names.{has_name}
use Rattle.mufom_meaning.specs.Flat.{public_names}
use Rattle.mufom_meaning.specs.Selection.{provider_from, provider}
use Rattle.mufom_select.specs.Choice.{with_publics, with_providers, IsWithin}

abbrev names : List Public → List (List ℕ)
names publics = map (λ public. public.name) publics

pub position_of-publics : (es : List Entry) (p : ℕ) (publics : List Public) (name : List ℕ)
    → position_of (with_publics es p publics) name ≡ first_of (position_of es name) (given (has_name (names publics) name) p)
position_of-publics es p [] name = sym (first_of-None (position_of es name))
position_of-publics es p (public ∷ publics) name =
    let rest = given (has_name (names publics) name) p in
    position_of-publics (with_entry es public.name p) p publics name
    ∙ ap (λ r. first_of r rest) (position_of-with es public.name p name)
    ∙ first_of-assoc (position_of es name) (given (bytes_eq name public.name) p) rest
    ∙ ap (first_of (position_of es name)) (first_of-given (bytes_eq name public.name) (has_name (names publics) name) p)

first_of-choice : (b : Bool) (n : ℕ) (rest : Option ℕ) → first_of (given b n) rest ≡ (if b then Some n else rest)
first_of-choice true n rest = refl
first_of-choice false n rest = refl

pub position_of-providers : (es : List Entry) (n : ℕ) (members : List Parts) (name : List ℕ)
    → position_of (with_providers es n members) name ≡ first_of (position_of es name) (provider_from n members name)
position_of-providers es n [] name = sym (first_of-None (position_of es name))
position_of-providers es n (m ∷ members) name =
    let its = names m.names.publics in
    let rest = provider_from (suc n) members name in
    position_of-providers (with_publics es n m.names.publics) (suc n) members name
    ∙ ap (λ r. first_of r rest) (position_of-publics es n m.names.publics name)
    ∙ first_of-assoc (position_of es name) (given (has_name its name) n) rest
    ∙ ap (first_of (position_of es name)) (first_of-choice (has_name its name) n rest
    ∙ ap (λ all. if has_name all name then Some n else rest) (sym (append-nil its)))

-- the index of all members finds the provider
pub finds_provider : (members : List Parts) (name : List ℕ) → position_of (with_providers [] 0 members) name ≡ provider members name
finds_provider members name = position_of-providers [] 0 members name

is_some-given : (b : Bool) (p : ℕ) → is_some (given b p) ≡ b
is_some-given true p = refl
is_some-given false p = refl

-- the index of the roots finds what they define
pub finds_defined : (roots : Parts) (name : List ℕ) → is_some (position_of (with_publics [] 0 roots.names.publics) name)
    ≡ has_name (public_names (roots ∷ [])) name
finds_defined roots name =
    let its = names roots.names.publics in
    ap is_some (position_of-publics [] 0 roots.names.publics name)
    ∙ is_some-given (has_name its name) 0
    ∙ ap (λ all. has_name all name) (sym (append-nil its))

-- ---- one entry more

pub with_publics-push : (es : List Entry) (p : ℕ) (publics : List Public) (public : Public) → with_publics es p (publics ++ public ∷ [])
    ≡ with_entry (with_publics es p publics) public.name p
with_publics-push es p [] public = refl
with_publics-push es p (q ∷ publics) public = with_publics-push (with_entry es q.name p) p publics public

pub with_providers-push : (es : List Entry) (n : ℕ) (members : List Parts) (m : Parts)
    → with_providers es n (members ++ m ∷ []) ≡ with_publics (with_providers es n members) (n + length members) m.names.publics
with_providers-push es n [] m = let e : n ≡ n + 0 = omega arith in ap (λ k. with_publics es k m.names.publics) e
with_providers-push es n (q ∷ members) m =
    let e : suc n + length members ≡ n + length (q ∷ members) = omega arith in
    with_providers-push (with_publics es n q.names.publics) (suc n) members m
    ∙ ap (λ k. with_publics (with_providers (with_publics es n q.names.publics) (suc n) members) k m.names.publics) e

pub with_publics-more : (es : List Entry) (p : ℕ) (publics : List Public) (i : ℕ) (d : Public) → i < length publics
    → with_publics es p (take (i + 1) publics) ≡ with_entry (with_publics es p (take i publics)) (get_or publics i d).name p
with_publics-more es p publics i d inside = ap (with_publics es p) (take_more publics i d inside) ∙ with_publics-push es p (take i publics) (get_or publics i d)

pub with_providers-more : (members : List Parts) (i : ℕ) (d : Parts) → i < length members
    → with_providers [] 0 (take (i + 1) members) ≡ with_publics (with_providers [] 0 (take i members)) i (get_or members i d).names.publics
with_providers-more members i d inside =
    let e : 0 + length (take i members) ≡ i = grind (arith, common_steps, inside) in
    ap (with_providers [] 0) (take_more members i d inside)
    ∙ with_providers-push [] 0 (take i members) (get_or members i d)
    ∙ ap (λ k. with_publics (with_providers [] 0 (take i members)) k (get_or members i d).names.publics) e

within-from : (n : ℕ) (members : List Parts) (name : List ℕ) → IfSome (provider_from n members name) (λ m. m < n + length members)
within-from n [] name = tt
within-from n (m ∷ members) name = by_case (has_name (public_names (m ∷ [])) name) (within-from (suc n) members name) where
  later : (r : Option ℕ) → IfSome r (λ k. k < suc n + length members) → IfSome r (λ k. k < n + length (m ∷ members))
  later None h = tt
  later (Some k) h = omega (arith, h)

  by_case : (b : Bool) → IfSome (provider_from (suc n) members name) (λ k. k < suc n + length members)
      → IfSome (if b then Some n else provider_from (suc n) members name) (λ k. k < n + length (m ∷ members))
  by_case true rest = omega arith
  by_case false rest = later (provider_from (suc n) members name) rest

zero-more : (n : ℕ) (r : Option ℕ) → IfSome r (λ k. k < 0 + n) → IfSome r (λ k. k < n)
zero-more n None h = tt
zero-more n (Some k) h = omega (arith, h)

-- each member that the index gives is one of the list
pub providers-within : (members : List Parts) → IsWithin (with_providers [] 0 members) (length members)
providers-within members = λ name.
    subst (λ r. IfSome r (λ k. k < length members)) (sym (finds_provider members name))
    (zero-more (length members) (provider members name) (within-from 0 members name))

pub provider-within : (members : List Parts) (name : List ℕ) → IfSome (provider members name) (λ k. k < length members)
provider-within members name = zero-more (length members) (provider members name) (within-from 0 members name)
