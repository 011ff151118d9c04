-- The values that `clap` found for an argument, or none.
use Rattle.std.proofs.Common.{◌≡◌, ap, sym, List, [], Option, Some, None, option_map, true≢false}
use Rattle.std.specs.Option.{IfSome, IsNone, unwrap_or}
use Rattle.clap.specs.Walk.{Text}

pub some_given : {X : Type 0} (f : X → List Text) (o : Option X) (all : Option (List Text)) → option_map f o ≡ all → IfSome o (λ x. f x ≡ unwrap_or all [])
some_given f None all e = tt
some_given f (Some x) all e = ap (λ given. unwrap_or given []) e

pub none_given : {X : Type 0} (f : X → List Text) (o : Option X) (all : Option (List Text)) → option_map f o ≡ all → IsNone o → unwrap_or all [] ≡ []
none_given f None all e none = ap (λ given. unwrap_or given []) (sym e)
none_given f (Some x) all e none = absurd (true≢false none)
