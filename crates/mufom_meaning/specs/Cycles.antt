-- Chains of mentions: one expression mentions publics, whose expressions mention others.
use Rattle.std.specs.Prelude.{ℕ, zero, suc, ◌+◌, List, length, Option, Some, None, slice_get, Bool, false, ◌||◌, IsTrue}
use Rattle.std.specs.List.{list_any}
use Rattle.std.specs.Str.{bytes_eq}
use Rattle.mufom_expr.specs.declared.token.Letter.{Letter}
use Rattle.mufom_expr.specs.declared.token.Letter.TheVariants as letters
use Rattle.mufom_expr.specs.Tree.{Tree}
use Rattle.mufom_expr.specs.Value.{variables_of}
use Rattle.mufom_names.specs.declared.name.Reference.{Reference}
use Rattle.mufom_module.specs.declared.module.Parts.{Parts}
use Rattle.mufom_meaning.specs.Bases.{no_bases}
use Rattle.mufom_meaning.specs.Flat.{Sited, SitedPublic, first_named}
use Rattle.mufom_meaning.specs.Values.{Setting, setting}

-- the public that a reference mentions: the first public of its name
abbrev pub mentioned_reference : Setting → Option Reference → Option SitedPublic
mentioned_reference s None = None
mentioned_reference s (Some reference) = first_named s.publics reference.name

-- the public that a variable mentions: I its public, X the first public of its name
abbrev pub mentioned : Setting → Sited → Letter → ℕ → Option SitedPublic
mentioned s site letters.I n = slice_get s.publics (site.first_public + n)
mentioned s site letters.X n = mentioned_reference s (slice_get site.parts.names.references n)
mentioned s site _ n = None

-- the public has this name, or its expression leads to a public that has it
abbrev pub is_or_leads : (Sited → Tree → Bool) → List ℕ → Option SitedPublic → Bool
is_or_leads leads name None = false
is_or_leads leads name (Some q) = bytes_eq q.entry.name name || leads q.site q.entry.value

-- a chain of at least one and at most `k` mentions leads from the expression to a public of this name
abbrev pub leads_within : Setting → ℕ → List ℕ → Sited → Tree → Bool
leads_within s zero name site t = false
leads_within s (suc k) name site t =
    list_any (λ v. is_or_leads (λ site' t'. leads_within s k name site' t') name (mentioned s site v.0 v.1)) (variables_of t)

-- the same for the expression of a public
abbrev pub leads_from : Setting → ℕ → List ℕ → Option SitedPublic → Bool
leads_from s k name None = false
leads_from s k name (Some q) = leads_within s k name q.site q.entry.value

-- A chain of mentions leads from the first public of this name back to a public of this name. If the name occurs twice, which it
-- does not in a list that can be linked, the latter may be another public.
abbrev pub IsOnCycle : List Parts → List ℕ → Type 0
IsOnCycle ms name = let s = setting ms no_bases in (k : ℕ) × IsTrue (leads_from s k name (first_named s.publics name))

-- the same as a test, which only looks at chains that are no longer than the list of publics
abbrev pub is_on_cycle : List Parts → List ℕ → Bool
is_on_cycle ms name = let s = setting ms no_bases in leads_from s (length s.publics) name (first_named s.publics name)
