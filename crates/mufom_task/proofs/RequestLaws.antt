-- The task of a sound command is sound.
use Rattle.std.proofs.Common.{◌≡◌, true, false, length, refl, ap, sym, subst, Result, Ok, Err, IfOk}
use Rattle.mufom_words.specs.declared.command.Command.{Command}
use Rattle.mufom_words.specs.declared.command.Verb.{Verb}
use Rattle.mufom_words.specs.declared.command.Verb.TheVariants as verb
use Rattle.mufom_words.specs.declared.options.Setting.TheVariants as setting
use Rattle.mufom_words.specs.Options.{are_files, has_option, operands_for}
use Rattle.mufom_words.specs.Sound.{IsSound}
use Rattle.mufom_task.specs.declared.task.Request.{Request}
use Rattle.mufom_task.specs.Sound.{IsSoundFile, IsSoundFiles, IsSoundInputs, IsSoundRequest}
use Rattle.mufom_task.specs.Tasks.{inputs_named, request_by, request_of}

module _ (c : Command) (sound : IsSound c) where
  sound-inputs : are_files (operands_for c.verb) ≡ true → IsSoundInputs (inputs_named c)
  sound-inputs reads = record { tree = sound.tree; some = sound.files.some reads; few = sound.files.few }

  sound-files : are_files (operands_for c.verb) ≡ true → has_option setting.Plan c.verb ≡ false → IsSoundFiles (inputs_named c)
  sound-files reads plain = record { sound = sound-inputs reads; no_plan = sound.options.no_plan plain }

  sound-file : length c.files ≡ 1 → are_files (operands_for c.verb) ≡ true → has_option setting.Plan c.verb ≡ false → IsSoundFile (inputs_named c)
  sound-file one reads plain = record { sound = sound-files reads plain; one = one }

  -- what the table says of the command
  files : {v : Verb} → c.verb ≡ v → are_files (operands_for c.verb) ≡ are_files (operands_for v)
  files is = ap (λ (v : Verb). are_files (operands_for v)) is

  plan : {v : Verb} → c.verb ≡ v → has_option setting.Plan c.verb ≡ has_option setting.Plan v
  plan is = ap (has_option setting.Plan) is

  own : {v : Verb} → c.verb ≡ v → operands_for c.verb ≡ operands_for v
  own is = ap operands_for is

  sound-by : (v : Verb) → c.verb ≡ v → IsSoundRequest (request_by v c)
  sound-by verb.Show is = sound-file (sound.files.one (own is)) (files is) (plan is)
  sound-by verb.Check is = sound-files (files is) (plan is)
  sound-by verb.Link is = (sound-inputs (files is), sound.options.short)
  sound-by verb.Locate is = sound-inputs (files is)
  sound-by verb.Dump is = sound-inputs (files is)
  sound-by verb.Map is = sound-inputs (files is)
  sound-by verb.Addr is = sound-inputs (files is)
  sound-by verb.Bin is = sound-inputs (files is)
  sound-by verb.Txt is = sound-inputs (files is)
  sound-by verb.FromTxt is = (sound-file (sound.files.one (own is)) (files is) (plan is), sound.options.maus.0, sound.options.maus.1)
  sound-by verb.Build is = sound-file (sound.files.one (own is)) (files is) (plan is)
  sound-by verb.Make is = sound.options.count (own is)
  sound-by verb.Help is = tt
  sound-by verb.Version is = tt
  sound-by verb.Explain is = tt

  pub sound-request : IsSoundRequest (request_of c)
  sound-request = sound-by c.verb refl

  pub sound-asked : {E : Type 0} (r : Result Request E) → IfOk r (λ asked. asked ≡ request_of c) → IfOk r IsSoundRequest
  sound-asked (Ok asked) is = subst IsSoundRequest (sym is) sound-request
  sound-asked (Err e) is = tt
