-- A word is looked for in two lists of topics, one after the other.
use Rattle.std.specs.Prelude.{List, ◌++◌, Option, Some, None, option_map, ◌≡◌}
use Rattle.std.specs.List.{find}
use Rattle.std.specs.Str.{bytes_eq}
use Rattle.std.proofs.Common.{◌∙◌, refl, ap}
use Rattle.std.proofs.lemmas.List.Folds.{find-append}
use Rattle.std.specs.Option.{option_or}
use Rattle.mufom_help.specs.Topics.{Topic, Text, topic_in}

pub topic_append : (a b : List Topic) (word : Text) → topic_in (a ++ b) word ≡ option_or (topic_in a word) (topic_in b word)
topic_append a b word =
    ap (option_map (λ topic. topic.1)) (find-append (λ topic. bytes_eq word topic.0) a b) ∙ go (find (λ topic. bytes_eq word topic.0) a)
  where
    go : (o : Option Topic) →
        option_map (λ topic. topic.1) (option_or o (find (λ topic. bytes_eq word topic.0) b)) ≡ option_or (option_map (λ topic. topic.1) o) (topic_in b word)
    go None = refl
    go (Some topic) = refl
