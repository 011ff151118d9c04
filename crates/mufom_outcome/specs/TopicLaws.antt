-- Laws of the help topics.
use Rattle.std.specs.Prelude.{◌≡◌, Bool, true, false, IsSome, is_some, ◌||◌, List, [], ◌∷◌, codes}
use Rattle.std.specs.List.{list_all, list_any}
use Rattle.std.specs.Str.{bytes_eq}
use Rattle.mufom_help.specs.Topics.{Topic, commands, topic_in, topics}
use Rattle.mufom_words.specs.Options.{form_of, forms, usage_of}
use Rattle.mufom_text.specs.Words.{Text}
use Rattle.mufom_plan.specs.declared.refusal.PlanRefusal.TheVariants as plan
use Rattle.mufom_place.specs.declared.refusal.PlaceRefusal.TheVariants as place
use Rattle.mufom_refusals.specs.declared.link.LinkRefusal.TheVariants as link
use Rattle.mufom_refusals.specs.declared.locate.LocateRefusal.TheVariants as locate
use Rattle.mufom_refusals.specs.declared.build.BuildRefusal.TheVariants as build
use Rattle.mufom_outcome.specs.declared.outcome.Refusal.{Refusal}
use Rattle.mufom_outcome.specs.declared.outcome.Refusal.TheVariants as refusal
use Rattle.mufom_outcome.specs.Topic.{refusal_name}

-- The layer of this error ran out of memory. A run ends with `NoMemory` then, and not with an error that has a name.
abbrev pub ran_out : Refusal → Bool
ran_out (refusal.Plan plan.NoMemory) = true
ran_out (refusal.Link link.NoMemory) = true
ran_out (refusal.Locate (locate.Place place.NoMemory) maus) = true
ran_out (refusal.Locate locate.NoMemory maus) = true
ran_out (refusal.Build build.NoMemory) = true
ran_out _ = false

-- Help has a topic for each error.
abbrev pub EachErrorHasATopic : Type 0
EachErrorHasATopic = (r : Refusal) → ran_out r ≡ false → IsSome (topic_in topics (refusal_name r))

-- the commands that are read by rules of their own
abbrev pub own_commands : List Text
own_commands = codes "explain" ∷ codes "help" ∷ codes "version" ∷ []

-- Help has a text for each command that the arguments can name, and for no other.
pub record CommandsHaveTexts : Type 0 where
  pub forms : list_all (λ f. is_some (topic_in commands (usage_of f).name)) forms ≡ true
  pub own : list_all (λ (name : Text). is_some (topic_in commands name)) own_commands ≡ true
  pub no_other : list_all (λ (t : Topic). is_some (form_of t.0) || list_any (λ (name : Text). bytes_eq t.0 name) own_commands) commands ≡ true
