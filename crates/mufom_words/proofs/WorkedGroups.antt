-- The answers for words with groups and members, and the trees of marks.
use Rattle.std.proofs.Common.{◌≡◌, ℕ, zero, suc, true, false, List, [], ◌∷◌, Some, None, Ok, Err, codes, refl}
use Rattle.clap.proofs.OnLiterals.{clap_on_literals}
use Rattle.mufom_words.specs.declared.command.Command.{Command}
use Rattle.mufom_words.specs.declared.command.Mark.TheVariants.{Open, Close, File}
use Rattle.mufom_words.specs.declared.command.Verb.TheVariants as verb
use Rattle.mufom_words.specs.declared.form.Form.TheVariants as form
use Rattle.mufom_words.specs.declared.operands.FileWord.TheVariants.{Opening, Closing, Plus, Name}
use Rattle.mufom_words.specs.declared.stop.UsageFault.TheVariants as fault
use Rattle.mufom_words.specs.declared.stop.WordsStop.TheVariants as stop
use Rattle.mufom_words.specs.Options.{Text}
use Rattle.mufom_words.specs.Answer.{answer_for}
use Rattle.mufom_words.specs.Operands.{grouped_fault, depth_from}
use Rattle.mufom_words.specs.Tree.{Forest, empty, file, group, tree_of, leaves, groups, spelling}

-- ---- commands

abbrev dumps : Command
dumps = record {
  verb = verb.Dump;
  no_debug = false;
  gnu = false;
  name = None;
  out = None;
  plan = None;
  marks = [];
  files = [];
  count = 0;
  listing = false;
  fill =
      0;
  at = None;
  maus = 4;
  keep = [];
  region = None;
  help = None;
}

a_dump : answer_for (Some form.Dump) (codes "dump" ∷ codes "m1" ∷ []) ≡ Ok (record dumps { marks = File 0 ∷ []; files = codes "m1" ∷ [] })
unfolding clap_on_literals
a_dump = refl

a_dump_of_groups : answer_for (Some form.Dump) (codes "dump" ∷ codes "[" ∷ codes "a" ∷ codes "]" ∷ codes "b" ∷ codes "+" ∷ codes "c" ∷ codes
    "--plan" ∷ codes "p" ∷ [])
    ≡ Ok (record dumps { plan = Some (codes "p"); marks = Open ∷ File 0 ∷ Close ∷ File 1 ∷ []; files = codes "a" ∷ codes "b" ∷ codes "c" ∷ [] })
unfolding clap_on_literals
a_dump_of_groups = refl

a_link : answer_for (Some form.Link) (codes "link" ∷ codes "-o" ∷ codes "c" ∷ codes "a" ∷ codes "--name" ∷ codes "n" ∷ codes "b" ∷ [])
    ≡ Ok (record dumps { verb = verb.Link; name = Some (codes "n"); out = Some (codes "c"); marks = File 0 ∷ File 1 ∷ []; files = codes "a" ∷ codes "b" ∷ [] })
unfolding clap_on_literals
a_link = refl

a_location : answer_for (Some form.Locate) (codes "locate" ∷ codes "--no-debug" ∷ codes "-oc" ∷ codes "a" ∷ [])
    ≡ Ok (record dumps { verb = verb.Locate; no_debug = true; out = Some (codes "c"); marks = File 0 ∷ []; files = codes "a" ∷ [] })
unfolding clap_on_literals
a_location = refl

made : answer_for (Some form.Make) (codes "make" ∷ codes "0100" ∷ []) ≡ Ok (record dumps { verb = verb.Make; count = 100 })
unfolding clap_on_literals
made = refl

-- ---- faults

no_output : answer_for (Some form.Locate) (codes "locate" ∷ codes "a" ∷ []) ≡ Err (stop.Usage fault.BadWords)
unfolding clap_on_literals
no_output = refl

two_shown : answer_for (Some form.Show) (codes "show" ∷ codes "a" ∷ codes "b" ∷ []) ≡ Err (stop.Usage fault.FileCount)
unfolding clap_on_literals
two_shown = refl

bracket_shown : answer_for (Some form.Show) (codes "show" ∷ codes "[" ∷ codes "a" ∷ codes "]" ∷ []) ≡ Err (stop.Usage fault.StrayBracket)
unfolding clap_on_literals
bracket_shown = refl

no_count : answer_for (Some form.Make) (codes "make" ∷ codes "0" ∷ []) ≡ Err (stop.Usage fault.BadCount)
unfolding clap_on_literals
no_count = refl

two_counts : answer_for (Some form.Make) (codes "make" ∷ codes "0" ∷ codes "]" ∷ []) ≡ Err (stop.Usage fault.FileCount)
unfolding clap_on_literals
two_counts = refl

empty_group : answer_for (Some form.Dump) (codes "dump" ∷ codes "[" ∷ codes "]" ∷ []) ≡ Err (stop.Usage fault.EmptyGroup)
unfolding clap_on_literals
empty_group = refl

-- what a group leaves open goes before the limits of a run, and too many files before too many groups
abbrev repeated : ℕ → Text → List Text → List Text
repeated zero word more = more
repeated (suc n) word more = word ∷ repeated n word more

deep : answer_for (Some form.Dump) (codes "dump" ∷ repeated 65 (codes "[") (codes "a" ∷ repeated 65 (codes "]") [])) ≡ Err (stop.TooDeep 65)
unfolding clap_on_literals
deep = refl

deep_and_open : answer_for (Some form.Dump) (codes "dump" ∷ repeated 65 (codes "[") (codes "a" ∷ [])) ≡ Err (stop.Usage fault.OpenGroup)
unfolding clap_on_literals
deep_and_open = refl

many_and_deep : answer_for (Some form.Dump) (codes "dump" ∷ repeated 65 (codes "[") (repeated 1025 (codes "a") (repeated 65 (codes "]") [])))
    ≡ Err (stop.TooManyFiles 1025)
unfolding clap_on_literals
many_and_deep = refl

option_before_group : answer_for (Some form.Link) (codes "link" ∷ codes "[" ∷ codes "a" ∷ []) ≡ Err (stop.Usage fault.BadWords)
unfolding clap_on_literals
option_before_group = refl

-- ---- files in groups, by the words alone

stray : grouped_fault (Closing ∷ []) ≡ Some fault.StrayBracket
stray = refl

nothing : grouped_fault [] ≡ Some fault.NoFile
nothing = refl

group_left_open : grouped_fault (Opening ∷ Name ∷ []) ≡ Some fault.OpenGroup
group_left_open = refl

-- the fault of the end goes before that there is no file
only_opened : grouped_fault (Opening ∷ []) ≡ Some fault.OpenGroup
only_opened = refl

no_member : grouped_fault (Name ∷ Plus ∷ []) ≡ Some fault.BadMembers
no_member = refl

plus_first : grouped_fault (Plus ∷ Name ∷ []) ≡ Some fault.BadMembers
plus_first = refl

plus_within : grouped_fault (Opening ∷ Name ∷ Plus ∷ Name ∷ Closing ∷ []) ≡ Some fault.BadMembers
plus_within = refl

plus_twice : grouped_fault (Name ∷ Plus ∷ Name ∷ Plus ∷ []) ≡ Some fault.BadMembers
plus_twice = refl

opened_after_plus : grouped_fault (Name ∷ Plus ∷ Opening ∷ []) ≡ Some fault.BadMembers
opened_after_plus = refl

closed_after_plus : grouped_fault (Name ∷ Plus ∷ Closing ∷ []) ≡ Some fault.StrayBracket
closed_after_plus = refl

-- the first fault from left to right
first_of_two : grouped_fault (Opening ∷ Closing ∷ Closing ∷ []) ≡ Some fault.EmptyGroup
first_of_two = refl

inner_empty : grouped_fault (Opening ∷ Name ∷ Opening ∷ Closing ∷ Closing ∷ []) ≡ Some fault.EmptyGroup
inner_empty = refl

no_fault : grouped_fault (Opening ∷ Opening ∷ Name ∷ Closing ∷ Name ∷ Closing ∷ Name ∷ Plus ∷ Name ∷ []) ≡ None
no_fault = refl

-- ---- the tree

-- [ [ 0 ] 1 ] 2 [ 3 ]
abbrev forest : Forest
forest = group (group (file 0 empty) (file 1 empty)) (file 2 (group (file 3 empty) empty))

its_tree : tree_of (Open ∷ Open ∷ File 0 ∷ Close ∷ File 1 ∷ Close ∷ File 2 ∷ Open ∷ File 3 ∷ Close ∷ []) ≡ forest
its_tree = refl

its_spelling : tree_of (spelling forest) ≡ forest
its_spelling = refl

its_leaves : leaves forest ≡ 0 ∷ 1 ∷ 2 ∷ 3 ∷ []
its_leaves = refl

-- the inner group is linked before the outer one
its_groups : groups forest ≡ (0 ∷ []) ∷ (0 ∷ 1 ∷ []) ∷ (3 ∷ []) ∷ []
its_groups = refl

its_depth : depth_from 0 (Opening ∷ Opening ∷ Name ∷ Closing ∷ Name ∷ Closing ∷ Name ∷ Opening ∷ Name ∷ Closing ∷ []) ≡ 2
its_depth = refl
