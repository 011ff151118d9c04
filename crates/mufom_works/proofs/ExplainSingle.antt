-- The text on some arguments is one, and so a run comes to one end at most.
use Rattle.std.proofs.Common.{◌≡◌, ℕ, Bool, true, false, List, [], ◌∷◌, ◌++◌, Option, Some, None, Result, Ok, Err, inl, inr, sym, ap, subst, ◌∙◌}
use Rattle.mufom_host.specs.World.{HoldBytes, NamedFile, file_named}
use Rattle.mufom_module.specs.declared.module.Parts.{Parts}
use Rattle.mufom_meaning.specs.Facts.{LinkFact, LocateFact}
use Rattle.mufom_meaning.proofs.locations.SelectionSingle.{selection_is_single}
use Rattle.mufom_meaning.proofs.staging.JoinedSingle.{joined_is_single}
use Rattle.mufom_words.specs.declared.command.Command.{Command}
use Rattle.mufom_words.specs.declared.stop.WordsStop.{WordsStop}
use Rattle.mufom_words.specs.Answer.{answer_of}
use Rattle.mufom_words.specs.Explain.{explained}
use Rattle.mufom_words.specs.Tree.{Forest, tree_of}
use Rattle.mufom_groups.specs.Linked.{first_name, members, roots}
use Rattle.mufom_groups.specs.Refused.{IsRefusedFlatList, IsRefusedList, flat_list}
use Rattle.mufom_groups.specs.Refusals.{link_refusal}
use Rattle.mufom_groups.specs.Work.{IsSingle, Reached, Work, ◌>>=◌, gives, one_with, stops, sure}
use Rattle.mufom_groups.proofs.Works.{one_with-single, stop_at-single, sure-single, then-single, value-same}
use Rattle.mufom_origins.specs.Origins.{FileModule, modules_of}
use Rattle.mufom_origins.specs.Words.{ModuleFiles}
use Rattle.mufom_explain.specs.Details.{link_details, locate_details, name_details, shared_details}
use Rattle.mufom_text.specs.Words.{Text}
use Rattle.mufom_outcome.specs.Stop.{Stop, words_refused, plan_refused, file_refused, past_limit, link_fact, keep_unknown, name_shared, locate_fact, bytes_refused}
use Rattle.mufom_outcome.specs.Stop.{text_refused, listing_refused, too_many_modules}
use Rattle.mufom_works.specs.Roots.{roots_by}
use Rattle.mufom_works.specs.Works.{Kept, Output, kept_of, printed}
use Rattle.mufom_task.specs.Inputs.{module_files}
use Rattle.mufom_task.specs.Reading.{modules_in, plan_in}
use Rattle.mufom_works.specs.Result.{run_by, run_of, work_with}
use Rattle.mufom_task.specs.declared.task.Inputs.{Inputs}
use Rattle.mufom_task.specs.declared.task.Request.{Request}
use Rattle.mufom_task.specs.declared.task.Request.TheVariants as request
use Rattle.mufom_task.specs.Tasks.{inputs_of, keep_of, request_of}
use Rattle.mufom_works.specs.Explain.{HasLines, HasLinesFor, IsTextOn, explaining}
use Rattle.mufom_works.specs.ExplainText.{explain_text}
use Rattle.mufom_works.specs.FlatFiles.{AreFlatFiles}
use Rattle.mufom_works.specs.HasDetails.{HasDetails, HasFileLine, HasPlanLines, IsRefusedFlat}
use Rattle.mufom_works.specs.PlanLines.{ArePlanLines, AreLinesBy, is_syntax, plan_line_at}
use Rattle.mufom_plan.specs.declared.plan.Plan.{Plan}
use Rattle.mufom_plan.specs.declared.plan.PlanSymbol.{PlanSymbol}
use Rattle.mufom_planned.specs.Shown.{shown_list}
use Rattle.mufom_plan.specs.declared.refusal.PlanRefusal.{PlanRefusal}
use Rattle.mufom_prune.specs.Pruned.{Remains}
use Rattle.mufom_plan_faults.proofs.LineLaws.{syntax-line-single}
use Rattle.mufom_works.specs.HasDetails.{IsModuleBy, IsModuleOf, IsModuleWith, explained_by, modules_at_places, lines_of_link, lines_of_locate, lines_of_name}
use Rattle.mufom_works.specs.HasDetails.{lines_of_shared, plan_lines}
use Rattle.mufom_outcome.specs.LocateRefusals.{locate_refusal}
use Rattle.mufom_works.specs.Run.{outcome_of}
use Rattle.mufom_works.proofs.MapLaws.{flat-files-single}
use Rattle.mufom_works.proofs.Runs.{kept_of-single, modules_in-single, plan_in-single, work_by-single, work_of-single}

-- ---- the list that is refused

-- the files that were found, and these where none were
abbrev files-or : List ℕ → Option (List ℕ × LinkFact) → List ℕ
files-or files None = files
files-or files (Some p) = p.0

module _ (c : Inputs) (ms : List Parts) (f : LinkFact) where
  abbrev tree : Forest
  tree = tree_of c.marks

  flat-list-single : (a b : List ℕ) → IsRefusedFlatList tree ms a f → IsRefusedFlatList tree ms b f → a ≡ b
  flat-list-single a b one other =
      let same : one.chosen ≡ other.chosen
      = selection_is_single (roots tree ms) (members tree ms) one.chosen other.chosen one.selected other.selected in
      one.are ∙ (ap (flat_list tree) same ∙ sym other.are)

  list-single : (a b : List ℕ) → IsRefusedList tree ms a f → IsRefusedList tree ms b f → a ≡ b
  list-single a b (inl one) (inl other) = ap (files-or a) (sym one ∙ other)
  list-single a b (inl one) (inr (none, other)) = let same : Some (a, f) ≡ None = sym one ∙ none in absurd cc
  list-single a b (inr (none, one)) (inl other) = let same : Some (b, f) ≡ None = sym other ∙ none in absurd cc
  list-single a b (inr (none, one)) (inr (still, other)) = flat-list-single a b one other

  flat-single : (a b : List FileModule) → IsRefusedFlat c ms f a → IsRefusedFlat c ms f b → a ≡ b
  flat-single a b (files, one, is_a) (others, other, is_b) = is_a ∙ (ap (modules_at_places ms) (list-single files others one other) ∙ sym is_b)

-- ---- lines

module _ (files : List NamedFile) (bytes : HoldBytes files) (c : Inputs) (keep : List (List ℕ)) where
  -- the files of the modules
  abbrev names : ModuleFiles
  names = module_files files c

  link-single : (f : LinkFact) → IsSingle (lines_of_link files c f)
  link-single f =
      then-single (modules_in files c) (λ ms. one_with (IsRefusedFlat c ms f) >>= λ flat. sure (link_details names flat (link_refusal f)))
      (modules_in-single files bytes c) λ ms.
      then-single (one_with (IsRefusedFlat c ms f)) (λ flat. sure (link_details names flat (link_refusal f)))
      (one_with-single (IsRefusedFlat c ms f) (flat-single c ms f)) λ flat. sure-single (link_details names flat (link_refusal f))

  name-single : (name : List ℕ) → IsSingle (lines_of_name files c name)
  name-single name =
      then-single (modules_in files c) (λ ms. one_with (AreFlatFiles (tree_of c.marks) ms) >>= λ flat. sure (name_details names flat name))
      (modules_in-single files bytes c) λ ms.
      then-single (one_with (AreFlatFiles (tree_of c.marks) ms)) (λ flat. sure (name_details names flat name))
      (flat-files-single (tree_of c.marks) ms) λ flat. sure-single (name_details names flat name)

  -- there is one module that is located for what is kept
  module-single : (rest : Option Remains) (ms : List Parts) (a b : Parts) → IsModuleBy rest ms a → IsModuleBy rest ms b → a ≡ b
  module-single None ms a b one other = joined_is_single a b ms (first_name ms) one other
  module-single (Some c) ms a b one other = let both : (a ∷ []) ≡ (b ∷ []) = sym one ∙ other in cc

  planned-single : (symbols : List PlanSymbol) (plan : Plan) (kept : Kept) (a b : Parts) → IsModuleWith symbols plan kept a → IsModuleWith symbols plan kept b
      → a ≡ b
  planned-single [] plan kept a b one other = module-single kept.rest kept.modules a b one other
  planned-single (symbol ∷ more) plan kept a b one other = joined_is_single a b (shown_list kept.modules plan) (first_name kept.modules) one other

  abbrev module-lines : Plan → List FileModule → ℕ → LocateFact → Kept → Parts → Work Stop Text
  module-lines plan flat maus f kept own =
      one_with (IsModuleOf plan kept) >>= λ «module». sure (locate_details (explained_by names plan flat kept «module» own maus) (locate_refusal f))

  abbrev own-lines : Plan → List FileModule → ℕ → LocateFact → Kept → Work Stop Text
  own-lines plan flat maus f kept = one_with (IsModuleBy kept.rest kept.modules) >>= λ own. module-lines plan flat maus f kept own

  locate-single : (maus : ℕ) (f : LocateFact) → IsSingle (lines_of_locate files c keep maus f)
  locate-single maus f =
      then-single (plan_in files c.plan) (λ plan. modules_in files c >>= λ ms. one_with (AreFlatFiles (tree_of c.marks) ms) >>= λ flat.
      kept_of (roots_by keep plan) (modules_of flat) >>= λ kept. own-lines plan flat maus f kept)
      (plan_in-single files c.plan) λ plan.
      then-single (modules_in files c) (λ ms. one_with (AreFlatFiles (tree_of c.marks) ms) >>= λ flat.
      kept_of (roots_by keep plan) (modules_of flat) >>= λ kept. own-lines plan flat maus f kept)
      (modules_in-single files bytes c) λ ms.
      then-single (one_with (AreFlatFiles (tree_of c.marks) ms)) (λ flat.
      kept_of (roots_by keep plan) (modules_of flat) >>= λ kept. own-lines plan flat maus f kept)
      (flat-files-single (tree_of c.marks) ms) λ flat.
      then-single (kept_of (roots_by keep plan) (modules_of flat)) (λ kept. own-lines plan flat maus f kept)
      (kept_of-single (roots_by keep plan) (modules_of flat)) λ kept.
      then-single (one_with (IsModuleBy kept.rest kept.modules)) (λ own. module-lines plan flat maus f kept own)
      (one_with-single (IsModuleBy kept.rest kept.modules) (module-single kept.rest kept.modules)) λ own.
      then-single (one_with (IsModuleOf plan kept)) (λ «module». sure (locate_details (explained_by names plan flat kept «module» own maus) (locate_refusal f)))
      (one_with-single (IsModuleOf plan kept) (planned-single plan.symbols plan kept)) λ «module».
      sure-single (locate_details (explained_by names plan flat kept «module» own maus) (locate_refusal f))

  shared-single : (name : List ℕ) → IsSingle (lines_of_shared files c name)
  shared-single name =
      then-single (plan_in files c.plan) (λ plan. modules_in files c >>= λ ms. one_with (AreFlatFiles (tree_of c.marks) ms) >>= λ flat.
      sure (shared_details names flat plan name ++ plan_lines c.plan)) (plan_in-single files c.plan) λ plan.
      then-single (modules_in files c) (λ ms. one_with (AreFlatFiles (tree_of c.marks) ms) >>= λ flat.
      sure (shared_details names flat plan name ++ plan_lines c.plan)) (modules_in-single files bytes c) λ ms.
      then-single (one_with (AreFlatFiles (tree_of c.marks) ms)) (λ flat. sure (shared_details names flat plan name ++ plan_lines c.plan))
      (flat-files-single (tree_of c.marks) ms) λ flat. sure-single (shared_details names flat plan name ++ plan_lines c.plan)

  lines-by-single : (b : Bool) (name text : List ℕ) (r : PlanRefusal) (x y : Text) → AreLinesBy b name text r x → AreLinesBy b name text r y → x ≡ y
  lines-by-single true name text r x y (m, is_m, are) (n, is_n, also) = are ∙ (ap (plan_line_at name) (syntax-line-single text m n is_m is_n) ∙ sym also)
  lines-by-single false name text r x y are also = are ∙ sym also

  plan-lines-single : (r : PlanRefusal) (a b : Text) → HasPlanLines (Some files) c r a → HasPlanLines (Some files) c r b → a ≡ b
  plan-lines-single r a b one other =
      let both : Some one.name ≡ Some other.name = sym one.named ∙ other.named in
      let same : one.name ≡ other.name = cc in
      let file : Some one.text ≡ Some other.text
      = sym one.of_file ∙ subst (λ (n : List ℕ). file_named n files ≡ Some other.text) (sym same) other.of_file in
      let bytes : one.text ≡ other.text = cc in
      lines-by-single (is_syntax r) other.name other.text r a b
      (subst (λ (n : List ℕ). ArePlanLines n other.text r a) same (subst (λ (t : List ℕ). ArePlanLines one.name t r a) bytes one.are)) other.are

  file-line-single : (n : ℕ) (a b : Text) → HasFileLine c n a → HasFileLine c n b → a ≡ b
  file-line-single n a b one other = one.are ∙ sym other.are

  details-single : (s : Stop) (a b : Text) → HasDetails (Some files) c keep s a → HasDetails (Some files) c keep s b → a ≡ b
  details-single (plan_refused r) a b one other = plan-lines-single r a b one other
  details-single (file_refused n r) a b one other = file-line-single n a b one other
  details-single (past_limit n) a b one other = file-line-single n a b one other
  details-single (too_many_modules n) a b one other = one ∙ sym other
  details-single (text_refused r) a b one other = file-line-single 0 a b one other
  details-single (listing_refused r) a b one other = file-line-single 0 a b one other
  details-single (link_fact f) a b one other = value-same a b (link-single f (gives a) (gives b) one other)
  details-single (keep_unknown name) a b one other = value-same a b (name-single name (gives a) (gives b) one other)
  details-single (name_shared name) a b one other = value-same a b (shared-single name (gives a) (gives b) one other)
  details-single (locate_fact maus f) a b one other = value-same a b (locate-single maus f (gives a) (gives b) one other)
  details-single (bytes_refused refused) a b one other = one ∙ sym other
  details-single (words_refused s) a b one other = one ∙ sym other

request-single : (files : List NamedFile) → HoldBytes files → (q : Request) (reached : Reached Stop Output) (a b : Text)
    → HasLinesFor files q reached a → HasLinesFor files q reached b → a ≡ b
request-single files bytes (request.Run t) (gives output) a b one other = one ∙ sym other
request-single files bytes (request.Run t) (stops s) a b one other = details-single files bytes (inputs_of t) (keep_of t) s a b one other
request-single files bytes request.Explain reached a b one other = one ∙ sym other

lines-single : (words : List (List ℕ)) (files : List NamedFile) → HoldBytes files → (r : Result Command WordsStop) (reached : Reached Stop Output)
    (a b : Text) → HasLines words files r reached a → HasLines words files r reached b → a ≡ b
lines-single words files bytes (Ok c) reached a b one other = request-single files bytes (request_of c) reached a b one other
lines-single words files bytes (Err stop) reached a b one other = one ∙ sym other

-- ---- the text

module _ (words : List (List ℕ)) (files : List NamedFile) (bytes : HoldBytes files) where
  text-single : (x y : Reached Stop Output) (a b : Text) → IsTextOn words files x a → IsTextOn words files y b → a ≡ b
  text-single x y a b one other =
      let same : x ≡ y = work_by-single (answer_of words) files bytes x y one.comes other.comes in
      let lines : HasLines words files (answer_of words) y one.details
      = subst (λ (r : Reached Stop Output). HasLines words files (answer_of words) r one.details) same one.lines in
      let equal : one.details ≡ other.details = lines-single words files bytes (answer_of words) y one.details other.details lines other.lines in
      one.are ∙ ((λ i. explain_text words (outcome_of (same i)) (equal i)) ∙ sym other.are)

  explaining-single : IsSingle (explaining words files)
  explaining-single (gives x) (gives y) (reached, text, on, is_x) (again, other, also, is_y) =
      let same : text ≡ other = text-single reached again text other on also in
      ap gives (is_x ∙ (ap printed same ∙ sym is_y))
  explaining-single (gives x) (stops t) is_x is_y = absurd is_y
  explaining-single (stops s) y is_x is_y = absurd is_x

-- A run comes to one end at most.
pub run_of-single : (words : List (List ℕ)) (files : List NamedFile) → HoldBytes files → IsSingle (run_of words files)
run_of-single words files bytes = by (answer_of words) where
  with_request : (q : Request) → IsSingle (work_with words q files)
  with_request (request.Run t) = work_of-single files bytes t
  with_request request.Explain = explaining-single (explained words) files bytes

  by : (r : Result Command WordsStop) → IsSingle (run_by words r files)
  by (Ok c) = with_request (request_of c)
  by (Err s) = stop_at-single (words_refused s)
