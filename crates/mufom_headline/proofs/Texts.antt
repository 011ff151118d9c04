-- A text comes back from the file that is made of it.
use Rattle.std.proofs.Common.{◌≡◌, ◌≤◌, ℕ, ◌*◌, Bool, true, nat_lt, List, [], ◌∷◌, length, Option, Some, Ok, refl, sym, subst, arith}
use Rattle.mufom_numbers.specs.declared.limits.TheConstants.{MOST_FILE_BYTES}
use Rattle.mufom_host.specs.World.{HoldBytes, NamedFile, file_named}
use Rattle.mufom_words.specs.declared.command.Command.{Command}
use Rattle.mufom_words.specs.Answer.{answer_of}
use Rattle.mufom_words.specs.Tree.{Forest, empty, file, tree_of}
use Rattle.mufom_module.specs.declared.module.Parts.{Parts}
use Rattle.mufom_module.specs.Written.{written}
use Rattle.mufom_meaning.specs.declared.located.LocatedParts.{LocatedParts}
use Rattle.mufom_meaning.specs.declared.located.Run.{Run}
use Rattle.mufom_meaning.specs.Absolute.{no_regions}
use Rattle.mufom_meaning.specs.Location.{IsLocation}
use Rattle.mufom_numbers.proofs.Choices.{not_lt}
use Rattle.mufom_titxt.specs.TextModules.{HaveModule, HaveText, text_parts}
use Rattle.mufom_titxt.specs.Texts.{IsTxtOf}
use Rattle.mufom_titxt.specs.Written.{txt_text}
use Rattle.mufom_titxt.proofs.BackLaws.{written_is_read}
use Rattle.mufom_titxt.proofs.NoFactLaws.{text_located}
use Rattle.mufom_titxt.proofs.ReadLaws.{have-module, have-text}
use Rattle.mufom_meaning.specs.Selection.{IsSelected}
use Rattle.mufom_groups.specs.Linked.{IsFlatList, linked, links}
use Rattle.mufom_groups.specs.Work.{gives}
use Rattle.mufom_groups.proofs.Works.{value-same}
use Rattle.mufom_outcome.specs.declared.outcome.Outcome.{Outcome}
use Rattle.mufom_outcome.specs.declared.outcome.Outcome.TheVariants as outcome
use Rattle.mufom_task.specs.declared.task.Inputs.{Inputs}
use Rattle.mufom_task.specs.declared.task.Product.TheVariants as product
use Rattle.mufom_task.specs.declared.task.Request.TheVariants as request
use Rattle.mufom_task.specs.declared.task.Task.{Task}
use Rattle.mufom_task.specs.declared.task.Task.TheVariants as task
use Rattle.mufom_task.specs.Calls.{Call}
use Rattle.mufom_task.specs.Inputs.{ComeTo, accepted, root_count}
use Rattle.mufom_task.specs.Reading.{modules_in, plan_in, text_in, unless_past_limit}
use Rattle.mufom_task.specs.Tasks.{request_of}
use Rattle.mufom_works.specs.Works.{Output, all_of, located, made, work_of, writes}
use Rattle.mufom_works.specs.Result.{Answers, run_of}
use Rattle.mufom_works.specs.Run.{MakesFile, PutsOut}
use Rattle.mufom_works.proofs.ExplainSingle.{run_of-single}
use Rattle.mufom_works.proofs.EndLaws.{is-located as is-located-by}
use Rattle.mufom_works.proofs.Runs.{of-files}
use Rattle.mufom_planned.proofs.Plain.{plain_plans_mean_the_same}
use Rattle.mufom_works.proofs.TextLaws.{text-rows}
use Rattle.mufom_run_laws.specs.RunLaws.{IsUndisturbed}
use Rattle.mufom_run_laws.proofs.Calm.{done-comes}
use Rattle.mufom_run_laws.proofs.Determined.{answers-determined}
use Rattle.mufom_run_laws.proofs.Plain.{plain-answers, plain-run}
use Rattle.mufom_run_laws.proofs.TextHeld.{text-held}
use Rattle.mufom_headline.specs.Texts.{IsFileAlone, Makes, TextsComeBack}
use Rattle.mufom_headline.proofs.Maps.{flat-files}
use Rattle.mufom_headline.proofs.ReadBack.{read-back}
use Rattle.mufom_headline.proofs.TextMade.{text-accepted, text-is-module}

-- a text in the only file is read, if it is not too long
pub text-read : (files : List NamedFile) (c : Inputs) (name text : List ℕ) → length text ≤ MOST_FILE_BYTES → c.files ≡ name ∷ []
    → file_named name files ≡ Some text → text_in files c.files (gives text)
text-read files c name text short alone there =
    let kept : unless_past_limit (nat_lt MOST_FILE_BYTES (length text)) text (gives text)
    = subst (λ (b : Bool). unless_past_limit b text (gives text)) (sym (not_lt MOST_FILE_BYTES (length text) short)) refl in
    subst (λ (names : List (List ℕ)). text_in files names (gives text)) (sym alone) (text, there, kept)

module _ (text : List ℕ) (maus : ℕ) (runs : List Run) (low : 1 ≤ maus) (high : maus ≤ 8) (short : length text ≤ MOST_FILE_BYTES)
    (is : IsTxtOf text (8 * maus) runs) where
  abbrev m : Parts
  m = text_parts maus runs

  abbrev bytes : List ℕ
  bytes = written (text_parts maus runs)

  has-module : HaveModule (8 * maus) runs
  has-module = have-module text (8 * maus) runs is short

  has-text : HaveText (8 * maus) runs
  has-text = have-text text (8 * maus) runs is (omega (arith, high))

  -- ---- `fromtxt`

  module _ (files : List NamedFile) (c : Inputs) (name out : List ℕ) (alone : c.files ≡ name ∷ []) (there : file_named name files ≡ Some text) where
    module-file : work_of (task.FromTxt c maus out) files (gives (made out bytes))
    module-file = (
      text,
      text-read files c name text short alone there,
      (text_parts maus runs, (runs, text-rows maus text runs is, refl), (text-held maus runs low high has-module has-text, refl)),
    )

  -- ---- `txt`

  -- the module needs nothing, so no member is selected for it
  is-flat : IsFlatList (file 0 empty) (text_parts maus runs ∷ []) (text_parts maus runs ∷ [])
  is-flat = ([], chosen, refl) where
    chosen : IsSelected (text_parts maus runs ∷ []) [] []
    chosen = record {
      increasing = λ k less. omega (arith, less);
      closed = refl;
      least = λ other all n here. let less = here.1 in absurd (omega (arith, less));
    }

  module _ (r : LocatedParts) (is_location : IsLocation (text_parts maus runs ∷ []) no_regions r) where
    one-links : links ((text_parts maus runs ∷ []) ∷ []) (gives tt)
    one-links = refl

    is-linked : linked (file 0 empty) (text_parts maus runs ∷ []) (gives (text_parts maus runs ∷ []))
    is-linked = (tt, one-links, (text_parts maus runs ∷ [], is-flat, (tt, one-links, refl)))

    is-located : located no_regions (text_parts maus runs ∷ []) (gives r)
    is-located =
        is-located-by (text_parts maus runs ∷ []) no_regions r (((plain_plans_mean_the_same (text_parts maus runs ∷ []) no_regions refl tt).1 r).1 is_location)

    module _ (few : length bytes ≤ MOST_FILE_BYTES) (files : List NamedFile) (c : Inputs) (name out : List ℕ) (does : IsFileAlone c name)
        (there : file_named name files ≡ Some bytes) where
      is-planned : plan_in files c.plan (gives no_regions)
      is-planned = subst (λ (o : Option (List ℕ)). plan_in files o (gives no_regions)) (sym does.plan) refl

      is-in : modules_in files c (gives (text_parts maus runs ∷ []))
      is-in = (
        subst (λ (names : List (List ℕ)). ComeTo c.options (root_count c) files names (accepted (text_parts maus runs ∷ []))) (sym does.files)
            (text-accepted maus runs low high has-module has-text few c.options (root_count c) files name there),
        omega arith,
      )

      text-file : r.runs ≡ runs → work_of (task.Locate c [] (product.TiTxt out)) files (gives (made out (txt_text runs)))
      text-file same =
          let linked-here : linked (tree_of c.marks) (text_parts maus runs ∷ []) (gives (text_parts maus runs ∷ []))
          = subst (λ (tree : Forest). linked tree (text_parts maus runs ∷ []) (gives (text_parts maus runs ∷ []))) (sym does.marks) is-linked in
          let flat-here : IsFlatList (tree_of c.marks) (text_parts maus runs ∷ []) (text_parts maus runs ∷ [])
          = subst (λ (tree : Forest). IsFlatList tree (text_parts maus runs ∷ []) (text_parts maus runs ∷ [])) (sym does.marks) is-flat in
          let own = flat-files (tree_of c.marks) (text_parts maus runs ∷ []) (text_parts maus runs ∷ []) flat-here in
          let puts : writes out (txt_text r.runs) (gives (made out (txt_text runs)))
          = subst (λ (rows : List Run). writes out (txt_text rows) (gives (made out (txt_text runs)))) (sym same) refl in (
            no_regions,
            is-planned,
            (
              text_parts maus runs ∷ [],
              is-in,
              (
                text_parts maus runs ∷ [],
                linked-here,
                (all_of (text_parts maus runs ∷ []), refl, (r, is-located, (own.0, own.1, puts))),
              ),
            ),
          )

-- ---- runs

module _ (files : List NamedFile) (t : Task) (name bytes : List ℕ) (works : work_of t files (gives (made name bytes))) where
  module _ (words : List (List ℕ)) (c : Command) (named : answer_of words ≡ Ok c) (asks : request_of c ≡ request.Run t) where
    of-run : (o : Output) → work_of t files (gives o) → run_of words files (gives o)
    of-run o is = plain-run words c named t asks files (gives o) is

    module _ (call : Call) (result : Outcome) (is : Answers words call result) (calm : IsUndisturbed files call result) where
      is-done : result ≡ outcome.Done
      is-done = answers-determined words files call result (gives (made name bytes)) is calm (of-run (made name bytes) works)

      makes-file : MakesFile name bytes call
      makes-file =
          let came = done-comes files call t result (plain-answers words c named t asks call result is) calm is-done in
          let hold : HoldBytes files = of-files call files calm.known HoldBytes calm.revealed.bytes in
          let same : came.output ≡ made name bytes = value-same came.output (made name bytes)
          (run_of-single words files hold (gives came.output) (gives (made name bytes)) (of-run came.output came.comes) (of-run (made name bytes) works)) in
          subst (λ (o : Output). PutsOut o call) same came.puts_out

  pub makes : Makes files t name bytes
  makes = record {
    work = works;
    run = λ words call result c is calm named asks.
        (is-done words c named asks call result is calm, makes-file words c named asks call result is calm);
  }

pub texts-come-back : TextsComeBack
texts-come-back text maus runs low high short is = record {
  module_file = λ files inputs name out alone there.
      makes files (task.FromTxt inputs maus out) out (written (text_parts maus runs))
      (module-file text maus runs low high short is files inputs name out alone there);
  read_back = λ few. read-back (text_parts maus runs) (λ gnu. text-is-module maus runs low high (has-module text maus runs low high short is)
      (has-text text maus runs low high short is) few (record { debug = true; gnu = gnu })) few;
  text_file = λ few files inputs name out does there.
      let (r, is_location, same) = text_located maus runs (has-module text maus runs low high short is) low high in
      makes files (task.Locate inputs [] (product.TiTxt out)) out (txt_text runs)
      (text-file text maus runs low high short is r is_location few files inputs name out does there same);
  same_runs = written_is_read (8 * maus) runs (has-text text maus runs low high short is);
}
