use Rattle.std.proofs.Common.{◌≡◌, ◌++◌, ◌∙◌, ap, sym, take, get_or, option_map, option_to_list, List, Option, None, Some, Bor, ℕ, ◌+◌, refl, arith}
use Rattle.std.specs.Prelude.{slice_get}
use Rattle.mufom_module.specs.declared.module.Parts.{Parts}
use Rattle.mufom_origins.specs.Origins.{FileModule, numbered}
use Rattle.mufom_origins.specs.Places.{at_positions}
use Rattle.mufom_explain.specs.Flat.{flat_of}
use Rattle.mufom_origins.proofs.FlatLaws.{get-numbered}
use Rattle.mufom_origins.proofs.ListLaws.{positions-more}
use Rattle.mufom_explain_modules.proofs.flat.flat_modules.Goals as goal

-- the module of a file, as it was found
fused : (k : ℕ) (o : Option (Bor Parts)) → option_map (λ (m : Bor Parts). let f : FileModule = (k, m.now) in f) o
    ≡ option_map (λ (m : Parts). let f : FileModule = (k, m) in f) (option_map (λ (m : Bor Parts). m.now) o)
fused k None = refl
fused k (Some m) = refl

pub loop-file-preserved : goal.loop-file-preserved
loop-file-preserved c =
    let i = c.loop-file.file-index in
    let ms = c.args.modules.now in
    let files = c.args.files.now in
    let before = at_positions (numbered ms) (take i files) in
    let file = get_or files i 0 in
    let numbered-at : (k : ℕ) → Option FileModule = λ k. option_map (λ (m : Parts). let f : FileModule = (k, m) in f) (slice_get ms file) in
    let own : option_to_list (numbered-at file) ≡ option_to_list (slice_get (numbered ms) file)
    = ap option_to_list (sym (get-numbered 0 ms file ∙ ap numbered-at (let same : 0 + file ≡ file = omega arith in same))) in
    let more = c.in_ok-push_file.ensures.count in
    let few = c.loop-file.invariant.1 in (
      c.in_ok-push_file.ensures.pushed
          ∙ ap (λ (one : List FileModule). flat_of c.loop-file.flat.items ++ one)
          (ap option_to_list (fused file c.module_at.result)
          ∙ ap (λ (o : Option Parts). option_to_list (option_map (λ (m : Parts). let f : FileModule = (file, m) in f) o)) c.module_at.ensures ∙ own)
          ∙ ap (λ (all : List FileModule). all ++ option_to_list (slice_get (numbered ms) (get_or files i 0))) c.loop-file.invariant.0
          ∙ sym (positions-more (numbered ms) files i 0 c.loop-file-test.true),
      omega (arith, more, few),
    )
