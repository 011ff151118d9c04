-- The file of a host in memory at each stage: it does not exist yet, it is being made, or it is finished.
use Rattle.std.specs.Prelude.{List, [], ◌∷◌, Option, Some, None}
use Rattle.mufom_host.specs.World.{NamedFile}
use Rattle.mufom_host.specs.declared.memory.output.Stage.{Stage}
use Rattle.mufom_host.specs.declared.memory.output.Stage.TheVariants.{Unmade, Making, Made}

abbrev pub making_at : Stage → NamedFile → Option NamedFile
making_at Unmade file = None
making_at Making file = Some file
making_at Made file = None

abbrev pub made_at : Stage → NamedFile → List NamedFile
made_at Unmade file = []
made_at Making file = []
made_at Made file = file ∷ []
