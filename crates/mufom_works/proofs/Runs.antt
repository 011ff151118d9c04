-- A run comes to one end at most, since each of its parts does.
use Rattle.std.proofs.Common.{◌≡◌, ◌⊎◌, ℕ, ◌*◌, ◌<◌, List, ◌∷◌, Option, Some, None, Result, Ok, Err, IfSome, Bool, false, true, nat_lt, length}
use Rattle.std.proofs.Common.{[], refl, sym, ap, subst, ◌∙◌, flat_map, inl, inr, if◌then◌else◌}
use Rattle.mufom_host.specs.World.{HoldBytes, NamedFile, file_named}
use Rattle.mufom_words.specs.declared.command.Command.{Command}
use Rattle.mufom_words.specs.declared.stop.WordsStop.{WordsStop}
use Rattle.mufom_words.specs.Answer.{answer_of}
use Rattle.mufom_module.specs.declared.module.Parts.{Parts}
use Rattle.mufom_module.specs.Written.{written}
use Rattle.mufom_judging.proofs.judged.PrefixJudged.{has_one_judgment}
use Rattle.mufom_judging.proofs.spelled.Judged.{judgments_exclude_each_other}
use Rattle.mufom_text.specs.Image.{image_text}
use Rattle.mufom_text.specs.Show.{text_of}
use Rattle.mufom_make.specs.Generated.{made_modules, made_plan, summary}
use Rattle.mufom_plan.specs.declared.plan.Plan.{Plan}
use Rattle.mufom_plan.specs.declared.refusal.PlanRefusal.{PlanRefusal}
use Rattle.mufom_plan.specs.PlanText.{plan_of_text}
use Rattle.mufom_meaning.specs.declared.located.LocatedParts.{LocatedParts}
use Rattle.mufom_meaning.specs.Absolute.{absolute_of, no_regions}
use Rattle.mufom_planned.specs.Planned.{IsPlanned, PlanFact, planned_answer}
use Rattle.mufom_planned.proofs.Single.{planned_location_is_single}
use Rattle.mufom_outcome.specs.declared.outcome.BinRefusal.{BinRefusal}
use Rattle.mufom_words.specs.Tree.{Forest, tree_of}
use Rattle.mufom_outcome.specs.declared.outcome.Outcome.{Outcome}
use Rattle.mufom_outcome.specs.declared.outcome.Outcome.TheVariants as outcome
use Rattle.mufom_groups.specs.Linked.{first_name, joined, linked}
use Rattle.mufom_meaning.specs.Joined.{IsJoined}
use Rattle.mufom_meaning.proofs.staging.JoinedSingle.{joined_is_single}
use Rattle.mufom_module.specs.Defects.{IsValid}
use Rattle.mufom_prune.specs.Kept.{IsKeptFor}
use Rattle.mufom_prune.specs.Pruned.{remains}
use Rattle.mufom_prune.proofs.Single.{kept_is_single}
use Rattle.mufom_groups.specs.Work.{Reached, gives, stops, Work, ◌>>=◌, one_with, stop_at, sure, with_stops, IsSingle}
use Rattle.mufom_groups.proofs.Singles.{joined-single, linked-single}
use Rattle.mufom_groups.proofs.Works.{sure-single, stop_at-single, one_with-single, nowhere-single, stops-single, then-single}
use Rattle.mufom_words.specs.Explain.{explained}
use Rattle.mufom_outcome.specs.Stop.{Stop, words_refused, plan_refused, file_refused, past_limit, link_fact, keep_unknown, name_shared, locate_fact, bytes_refused}
use Rattle.mufom_outcome.specs.Stop.{text_refused, listing_refused, too_many_modules}
use Rattle.mufom_refusals.specs.declared.build.BuildRefusal.TheVariants as build
use Rattle.mufom_build.proofs.Excluded.{built_not_refused, defect_not_built, defect_not_refused, one_defect}
use Rattle.mufom_build.proofs.OneModule.{one_listing}
use Rattle.mufom_build.proofs.Shapes.{loose_lines}
use Rattle.mufom_build.specs.Lines.{Build, listing_lines}
use Rattle.mufom_build.specs.Refusals.{HasDefect, IsRefusedAt}
use Rattle.mufom_refusals.specs.declared.build.BuildReason.{BuildReason}
use Rattle.mufom_module.specs.declared.module.Defect.{Defect}
use Rattle.mufom_build.proofs.OneRefusal.{one_refusal}
use Rattle.mufom_task.specs.Inputs.{HaveOneVerdict, Verdict, accepted, refused, past_limit as past, ComeTo, module_files, root_count}
use Rattle.mufom_works.specs.Text.{Text, check_text, hit_text}
use Rattle.mufom_numbers.specs.declared.limits.TheConstants.{MOST_FILE_BYTES, MOST_MODULES}
use Rattle.mufom_addr.specs.AddressHit.{hit_at}
use Rattle.mufom_write.specs.Raw.{raw_image}
use Rattle.mufom_meaning.specs.AddressMap.{AreRunsOf}
use Rattle.mufom_meaning.proofs.locations.CellRuns.{rows_are_single}
use Rattle.mufom_refusals.specs.declared.text.TxtRefusal.{TxtRefusal}
use Rattle.mufom_titxt.specs.TextModules.{text_parts}
use Rattle.mufom_titxt.specs.Texts.{txt_cells, txt_refusal}
use Rattle.mufom_titxt.specs.Written.{txt_text}
use Rattle.mufom_works.specs.Roots.{Roots, first_unknown, roots_by}
use Rattle.mufom_works.specs.Works.{Kept, Output, all_of, printed, made, form_of, prints, writes, writes_module, kept_of, kept_unless}
use Rattle.mufom_works.specs.Works.{linked_file, listing, linking, located, located_unless, stop_of, locating_kept, mapped_kept, maus_of, module_of_text}
use Rattle.mufom_works.specs.Works.{not_explained, parts_of_listing, parts_of_txt, producing, product_of, product_with, rest_of}
use Rattle.mufom_works.specs.Works.{bytes_unless, length_fact, region_fact, region_image, region_named}
use Rattle.mufom_works.specs.Works.{rest_of_module, runs_of_text, runs_unless, work_by, work_for, work_of}
use Rattle.mufom_task.specs.Reading.{file_in, plan_by}
use Rattle.mufom_task.specs.Reading.{plan_in, modules_in}
use Rattle.mufom_task.specs.Reading.{text_in, unless_past_limit}
use Rattle.mufom_task.specs.declared.task.Inputs.{Inputs}
use Rattle.mufom_task.specs.declared.task.Product.{Product}
use Rattle.mufom_task.specs.declared.task.Product.TheVariants as product
use Rattle.mufom_task.specs.declared.task.Request.{Request}
use Rattle.mufom_task.specs.declared.task.Request.TheVariants as request
use Rattle.mufom_task.specs.declared.task.Task.{Task}
use Rattle.mufom_task.specs.declared.task.Task.TheVariants as task
use Rattle.mufom_task.specs.Tasks.{reads_files, request_of}
use Rattle.mufom_map.specs.Mapped.{Mapped}
use Rattle.mufom_works.specs.Result.{Answers, AnswersBy, AnswersWith, run_by, run_of, work_with}
use Rattle.mufom_works.specs.Explain.{ExplainsTo, explaining}
use Rattle.mufom_works.specs.Run.{AnswersFor, IsForced, outcome_of}
use Rattle.mufom_task.specs.Calls.{Call}
use Rattle.mufom_task.specs.Ends.{OverFiles, stop_outcome}
use Rattle.mufom_outcome.specs.Outcomes.{stop_answer}
use Rattle.mufom_origins.specs.Origins.{origins_of}
use Rattle.mufom_map.specs.MapText.{view_text}
use Rattle.mufom_origins.specs.Words.{ModuleFiles}
use Rattle.mufom_works.specs.FlatFiles.{AreFlatFiles}
use Rattle.mufom_works.proofs.MapLaws.{flat-files-single}
use Rattle.mufom_works.proofs.ProductLaws.{few-by, many-by}
use Rattle.mufom_task.proofs.Verdicts.{one_verdict}

-- ---- the inputs

-- the modules, unless they are too many
abbrev few_or_none : List Parts → Reached Stop (List Parts)
few_or_none ms = if nat_lt MOST_MODULES (length ms) then stops (too_many_modules (length ms)) else gives ms

-- what reading the files comes to, by what they come to
abbrev reached_by : Verdict → Reached Stop (List Parts)
reached_by (accepted ms) = few_or_none ms
reached_by (refused n r) = stops (file_refused n r)
reached_by (past n) = stops (past_limit n)

abbrev ByVerdict : List NamedFile → Inputs → Reached Stop (List Parts) → Type 0
ByVerdict files c x = (v : Verdict) × ComeTo c.options (root_count c) files c.files v × (reached_by v ≡ x)

by_verdict : (files : List NamedFile) (c : Inputs) (x : Reached Stop (List Parts)) → modules_in files c x → ByVerdict files c x
by_verdict files c (gives ms) (comes, few) = (
  accepted ms,
  comes,
  ap (λ (b : Bool). if b then stops (too_many_modules (length ms)) else gives ms) (few-by MOST_MODULES (length ms) few),
)
by_verdict files c (stops (file_refused n r)) is = (refused n r, is, refl)
by_verdict files c (stops (past_limit n)) is = (past n, is, refl)
by_verdict files c (stops (too_many_modules n)) (ms, comes, same, many) = (
  accepted ms,
  comes,
  ap (λ (b : Bool). if b then stops (too_many_modules (length ms)) else gives ms)
      (many-by MOST_MODULES (length ms) (subst (λ (k : ℕ). MOST_MODULES < k) same many))
      ∙ ap (λ (k : ℕ). stops (too_many_modules k)) (sym same),
)
by_verdict files c (stops (words_refused s)) is = absurd is
by_verdict files c (stops (plan_refused r)) is = absurd is
by_verdict files c (stops (link_fact f)) is = absurd is
by_verdict files c (stops (locate_fact maus f)) is = absurd is
by_verdict files c (stops (keep_unknown name)) is = absurd is
by_verdict files c (stops (bytes_refused b)) is = absurd is
by_verdict files c (stops (name_shared name)) is = absurd is
by_verdict files c (stops (text_refused r)) is = absurd is
by_verdict files c (stops (listing_refused r)) is = absurd is

-- files come to one verdict
pub one-verdict : HaveOneVerdict
one-verdict = one_verdict (has_one_judgment judgments_exclude_each_other)

pub modules_in-single : (files : List NamedFile) → HoldBytes files → (c : Inputs) → IsSingle (modules_in files c)
modules_in-single files bytes c x y is_x is_y =
    let (v, comes_v, is_v) = by_verdict files c x is_x in
    let (w, comes_w, is_w) = by_verdict files c y is_y in
    let same : v ≡ w = one-verdict c.options (root_count c) files c.files v w bytes comes_v comes_w in
    sym is_v ∙ (ap reached_by same ∙ is_w)

-- ---- the outputs

writes-single : (name bytes : List ℕ) → IsSingle (writes name bytes)
writes-single name bytes = sure-single (made name bytes)

writes_module-single : (name : List ℕ) (m : Parts) → IsSingle (writes_module name m)
writes_module-single name m x y (held, is_x) (again, is_y) = writes-single name (written m) x y is_x is_y

-- ---- a file

one-file : (files : List NamedFile) (name : List ℕ) → IsSingle (file_in files name)
one-file files name = one_with-single (λ bytes. file_named name files ≡ Some bytes) (λ a b is_a is_b. let same : Some a ≡ Some b = sym is_a ∙ is_b in cc)

-- ---- the plan

plan_by-single : (r : Result Plan PlanRefusal) → IsSingle (plan_by r)
plan_by-single (Ok plan) x y (sound, is_x) (again, is_y) = sure-single plan x y is_x is_y
plan_by-single (Err r) x y is_x is_y = stop_at-single (plan_refused r) x y is_x is_y

pub plan_in-single : (files : List NamedFile) (name : Option (List ℕ)) → IsSingle (plan_in files name)
plan_in-single files None = sure-single no_regions
plan_in-single files (Some name) =
    then-single (file_in files name) (λ bytes. plan_by (plan_of_text bytes)) (one-file files name)
    (λ bytes. plan_by-single (plan_of_text bytes))

-- ---- what is put out of a list

pub located-single : (plan : Plan) (ms : List Parts) → IsSingle (located plan ms)
located-single plan ms = by (planned_answer ms plan) where
  by : (o : Option PlanFact) → IsSingle (located_unless o plan ms)
  by None = one_with-single (IsPlanned ms plan) (planned_location_is_single ms plan)
  by (Some f) = stop_at-single (stop_of (maus_of ms) f)

rest_of_module-single : (roots : Roots) (M : Parts) → IsSingle (rest_of_module roots M)
rest_of_module-single roots M =
    then-single (one_with (IsKeptFor M roots.names roots.stays)) (λ marks. sure (rest_of M (remains M marks)))
    (one_with-single (IsKeptFor M roots.names roots.stays) (λ marks others is_one is_other.
    kept_is_single M roots.names roots.stays marks others is_one is_other))
    (λ marks. sure-single (rest_of M (remains M marks)))

pub kept_of-single : (keep : Option Roots) (ms : List Parts) → IsSingle (kept_of keep ms)
kept_of-single None ms = sure-single (all_of ms)
kept_of-single (Some roots) ms = by (first_unknown ms roots.names) where
  by : (o : Option (List ℕ)) → IsSingle (kept_unless o roots ms)
  by (Some name) = stop_at-single (keep_unknown name)
  by None =
      then-single (one_with (λ M. IsValid M × IsJoined M ms (first_name ms))) (λ M. rest_of_module roots M)
      (one_with-single (λ M. IsValid M × IsJoined M ms (first_name ms))
      (λ M N is_one is_other. joined_is_single M N ms (first_name ms) is_one.1 is_other.1)) (rest_of_module-single roots)

pub linked_file-single : (name : Option (List ℕ)) (out : List ℕ) (flat : List Parts) → IsSingle (linked_file name out flat)
linked_file-single name out flat =
    then-single (with_stops link_fact (joined name flat)) (λ M. writes_module out M)
    (stops-single link_fact (joined name flat) (joined-single name flat)) (writes_module-single out)

pub locating_kept-single : (keep : Option Roots) (plan : Plan) (flat : List Parts) (output : Kept → LocatedParts → Work Stop Output)
    → ((kept : Kept) (r : LocatedParts) → IsSingle (output kept r)) → IsSingle (locating_kept output keep plan flat)
locating_kept-single keep plan flat output single =
    then-single (kept_of keep flat) (λ kept. located plan kept.modules >>= λ r. output kept r) (kept_of-single keep flat) λ kept.
    then-single (located plan kept.modules) (λ r. output kept r) (located-single plan kept.modules) (single kept)

-- ---- what is made of a location

bytes-single : (o : Option BinRefusal) (name bytes : List ℕ) → IsSingle (bytes_unless o name bytes)
bytes-single (Some b) name bytes = stop_at-single (bytes_refused b)
bytes-single None name bytes = writes-single name bytes

pub product-single : (p : Product) (names : ModuleFiles) (shown : Mapped) (r : LocatedParts) → IsSingle (product_of p names shown r)
product-single (product.Absolute out) names shown r = writes_module-single out (absolute_of r)
product-single (product.Raw fill out) names shown r = bytes-single (length_fact (length (raw_image fill r.runs))) out (raw_image fill r.runs)
product-single (product.Region name fill out) names shown r =
    bytes-single (region_fact name (region_named shown.regions name)) out (region_image fill (region_named shown.regions name) r)
product-single (product.TiTxt out) names shown r = writes-single out (txt_text r.runs)
product-single product.Image names shown r = sure-single (printed (image_text r))
product-single (product.Map at) names shown r = sure-single (printed (view_text names at shown))
product-single (product.Hit at) names shown r = sure-single (printed (hit_text r.maus (hit_at r.debug at)))

producing-single : (p : Product) (names : ModuleFiles) (tree : Forest) (ms : List Parts) (plan : Plan) (kept : Kept) (r : LocatedParts)
    → IsSingle (producing p names tree ms plan kept r)
producing-single p names tree ms plan kept r =
    then-single (one_with (AreFlatFiles tree ms)) (λ flat. product_with p names (origins_of flat) plan kept r) (flat-files-single tree ms)
    (λ flat. product-single p names (mapped_kept (origins_of flat) plan kept r) r)

-- ---- a text

text_in-single : (files : List NamedFile) (names : List (List ℕ)) → IsSingle (text_in files names)
text_in-single files [] = nowhere-single
text_in-single files (name ∷ names) =
    then-single (file_in files name) (λ bytes. unless_past_limit (nat_lt MOST_FILE_BYTES (length bytes)) bytes) (one-file files name)
    (λ bytes. by bytes (nat_lt MOST_FILE_BYTES (length bytes)))
  where
    by : (bytes : List ℕ) (b : Bool) → IsSingle (unless_past_limit b bytes)
    by bytes true = stop_at-single (past_limit 0)
    by bytes false = sure-single bytes

runs_of_text-single : (maus : ℕ) (text : List ℕ) → IsSingle (runs_of_text maus text)
runs_of_text-single maus text = by (txt_refusal text (8 * maus)) where
  by : (o : Option TxtRefusal) → IsSingle (runs_unless o text)
  by None = one_with-single (AreRunsOf (txt_cells text)) (λ runs other is_one is_other. rows_are_single (txt_cells text) runs other is_one is_other)
  by (Some r) = stop_at-single (text_refused r)

parts_of_txt-single : (maus : ℕ) (text : List ℕ) → IsSingle (parts_of_txt maus text)
parts_of_txt-single maus text = then-single (runs_of_text maus text) (λ runs. sure (text_parts maus runs)) (runs_of_text-single maus text) λ runs.
    sure-single (text_parts maus runs)

-- What a listing comes to: the parts of its module, its first error, or their defect.
abbrev ByListing : List ℕ → Reached Stop Parts → Type 0
ByListing text x = ((m : Parts) × (gives m ≡ x) × Build text m)
    ⊎ (((row : ℕ) × (column : ℕ) × (reason : BuildReason) × (stops (listing_refused (build.At row column reason)) ≡ x) × IsRefusedAt text row column reason)
    ⊎ ((defect : Defect) × (stops (listing_refused (build.Module defect)) ≡ x) × HasDefect text defect))

by_listing : (text : List ℕ) (x : Reached Stop Parts) → parts_of_listing text x → ByListing text x
by_listing text (gives m) is = inl (m, refl, is)
by_listing text (stops (listing_refused (build.At row column reason))) is = inr (inl (row, column, reason, refl, is))
by_listing text (stops (listing_refused (build.Module defect))) is = inr (inr (defect, refl, is))
by_listing text (stops (listing_refused build.NoMemory)) is = absurd is
by_listing text (stops (words_refused s)) is = absurd is
by_listing text (stops (plan_refused r)) is = absurd is
by_listing text (stops (file_refused n r)) is = absurd is
by_listing text (stops (past_limit n)) is = absurd is
by_listing text (stops (too_many_modules n)) is = absurd is
by_listing text (stops (link_fact f)) is = absurd is
by_listing text (stops (keep_unknown name)) is = absurd is
by_listing text (stops (locate_fact maus f)) is = absurd is
by_listing text (stops (bytes_refused b)) is = absurd is
by_listing text (stops (name_shared name)) is = absurd is
by_listing text (stops (text_refused r)) is = absurd is

one-build : (text : List ℕ) (m n : Parts) → Build text m → Build text n → m ≡ n
one-build text m n one other =
    one_listing text m n (loose_lines (listing_lines m) text one.listed) (loose_lines (listing_lines n) text other.listed)

parts_of_listing-single : (text : List ℕ) → IsSingle (parts_of_listing text)
parts_of_listing-single text x y is_x is_y = both (by_listing text x is_x) (by_listing text y is_y) where
  both : ByListing text x → ByListing text y → x ≡ y
  both (inl (m, e, p)) (inl (n, f, q)) = sym e ∙ (ap gives (one-build text m n p q) ∙ f)
  both (inl (m, e, p)) (inr (inl (row, column, reason, f, q))) = absurd (built_not_refused text m row column reason p q)
  both (inl (m, e, p)) (inr (inr (defect, f, q))) = absurd (defect_not_built text m defect p q)
  both (inr (inl (row, column, reason, e, p))) (inl (m, f, q)) = absurd (built_not_refused text m row column reason q p)
  both (inr (inl (row, column, reason, e, p))) (inr (inl (other_row, other, kind, f, q))) =
      let same = one_refusal text row column other_row other reason kind p q in
      let rows = same.0 in let columns = same.1 in let reasons = same.2 in
      sym e ∙ ((λ i. stops (listing_refused (build.At (rows i) (columns i) (reasons i)))) ∙ f)
  both (inr (inl (row, column, reason, e, p))) (inr (inr (defect, f, q))) = absurd (defect_not_refused text defect row column reason q p)
  both (inr (inr (defect, e, p))) (inl (m, f, q)) = absurd (defect_not_built text m defect q p)
  both (inr (inr (defect, e, p))) (inr (inl (row, column, reason, f, q))) = absurd (defect_not_refused text defect row column reason p q)
  both (inr (inr (defect, e, p))) (inr (inr (other, f, q))) =
      sym e ∙ (ap (λ (d : Defect). stops (listing_refused (build.Module d))) (one_defect text defect other p q) ∙ f)

module_of_text-single : (parts_of : List ℕ → Work Stop Parts) → ((text : List ℕ) → IsSingle (parts_of text)) → (out : List ℕ) (files : List NamedFile)
    (c : Inputs) → IsSingle (module_of_text parts_of out files c)
module_of_text-single parts_of single out files c =
    then-single (text_in files c.files) (λ text. parts_of text >>= λ parts. writes_module out parts) (text_in-single files c.files) λ text.
    then-single (parts_of text) (λ parts. writes_module out parts) (single text) λ parts.
    writes_module-single out parts

-- ---- the table

module _ (files : List NamedFile) (bytes : HoldBytes files) where
  listing-single : (c : Inputs) (text : List Parts → Text) → IsSingle (listing text files c)
  listing-single c text = then-single (modules_in files c) (λ ms. prints (text ms)) (modules_in-single files bytes c) (λ ms. sure-single (printed (text ms)))

  linking-single : (c : Inputs) (output : List Parts → Plan → List Parts → Work Stop Output)
      → ((ms : List Parts) (plan : Plan) (flat : List Parts) → IsSingle (output ms plan flat)) → IsSingle (linking output files c)
  linking-single c output single =
      then-single (plan_in files c.plan) (λ plan. modules_in files c >>= λ ms. with_stops link_fact (linked (tree_of c.marks) ms) >>= λ flat. output
      ms plan flat) (plan_in-single files c.plan) λ plan.
      then-single (modules_in files c) (λ ms. with_stops link_fact (linked (tree_of c.marks) ms) >>= λ flat. output ms plan flat)
      (modules_in-single files bytes c) λ ms.
      then-single (with_stops link_fact (linked (tree_of c.marks) ms)) (λ flat. output ms plan flat)
      (stops-single link_fact (linked (tree_of c.marks) ms) (linked-single (tree_of c.marks) ms)) λ flat. single ms plan flat

  pub work_of-single : (t : Task) → IsSingle (work_of t files)
  work_of-single (task.Show inputs full) = listing-single inputs (λ ms. flat_map (text_of (form_of full)) ms)
  work_of-single (task.Check inputs) = listing-single inputs check_text
  work_of-single (task.Link inputs name out) =
      linking-single inputs (λ ms plan flat. linked_file name out flat) (λ ms plan flat. linked_file-single name out flat)
  work_of-single (task.Locate inputs keep p) =
      let names = module_files files inputs in
      linking-single inputs (λ ms plan flat. locating_kept (producing p names (tree_of inputs.marks) ms plan) (roots_by keep plan) plan flat)
      (λ ms plan flat. locating_kept-single (roots_by keep plan) plan flat (producing p names (tree_of inputs.marks) ms plan)
      (producing-single p names (tree_of inputs.marks) ms plan))
  work_of-single (task.FromTxt inputs maus out) = module_of_text-single (parts_of_txt maus) (parts_of_txt-single maus) out files inputs
  work_of-single (task.Build inputs out) = module_of_text-single parts_of_listing parts_of_listing-single out files inputs
  work_of-single (task.Make count) = then-single (located (made_plan count) (made_modules count)) (λ r. prints (summary count r))
      (located-single (made_plan count) (made_modules count)) (λ r. sure-single (printed (summary count r)))
  work_of-single (task.Help text) = sure-single (printed text)

  work_for-single : (q : Request) → IsSingle (work_for q files)
  work_for-single (request.Run t) = work_of-single t
  work_for-single request.Explain = stop_at-single (words_refused not_explained)

-- The work in the table comes to one end at most.
pub work_by-single : (r : Result Command WordsStop) (files : List NamedFile) → HoldBytes files → IsSingle (work_by r files)
work_by-single (Ok c) files bytes = work_for-single files bytes (request_of c)
work_by-single (Err s) files bytes = stop_at-single (words_refused s)

-- ---- so an answer that has its cause is complete

module _ (call : Call) (files : List NamedFile) (known : call.old.files ≡ Some files) where
  pub of-files : (P : List NamedFile → Type 0) → IfSome call.old.files P → P files
  of-files P holds = subst (λ (o : Option (List NamedFile)). IfSome o P) known holds

  pub over-files : (reads : Bool) (P : List NamedFile → Type 0) → OverFiles reads call.old.files P → P files
  over-files true P holds = of-files P holds
  over-files false P holds = holds files

  module _ (t : Task) (single : IsSingle (work_of t files)) (reached : Reached Stop Output) (comes : work_of t files reached) where
    complete-for : (result : Outcome) → AnswersFor t call result → (result ≡ outcome_of reached) ⊎ IsForced call result
    complete-for outcome.Done (output, is, puts) = inl (ap outcome_of
        (single (gives output) reached (over-files (reads_files t) (λ fs. work_of t fs (gives output)) is.cause) comes))
    complete-for (outcome.Refused r) (is, nothing) = inl (is.is
        ∙ ap outcome_of (single (stops is.stop) reached (over-files (reads_files t) (λ fs. work_of t fs (stops is.stop)) is.cause) comes))
    complete-for (outcome.Usage f) is = absurd is
    complete-for (outcome.ReadFault at) is = inr is.0
    complete-for outcome.WriteFault is = inr is.0
    complete-for outcome.NoMemory is = inr tt

  refused-end : (s : WordsStop) (reached : Reached Stop Output) → stop_at {A = Output} (words_refused s) reached → stop_answer s ≡ outcome_of reached
  refused-end s (gives output) comes = absurd comes
  refused-end s (stops t) comes = ap stop_outcome (sym comes)

  module _ (words : List (List ℕ)) where
    -- a text on other arguments was printed, or that was forced
    explained-complete : (result : Outcome) → ExplainsTo (explained words) call result → (reached : Reached Stop Output)
        → explaining (explained words) files reached → (result ≡ outcome_of reached) ⊎ IsForced call result
    explained-complete outcome.Done is (gives output) comes = inl refl
    explained-complete outcome.Done is (stops s) comes = absurd comes
    explained-complete (outcome.Refused r) is reached comes = absurd is
    explained-complete (outcome.Usage f) is reached comes = absurd is
    explained-complete (outcome.ReadFault at) is reached comes = absurd is
    explained-complete outcome.WriteFault is reached comes = inr is.0
    explained-complete outcome.NoMemory is reached comes = inr tt

    complete-with : (q : Request) → HoldBytes files → (result : Outcome) → AnswersWith words q call result → (reached : Reached Stop Output)
        → work_with words q files reached → (result ≡ outcome_of reached) ⊎ IsForced call result
    complete-with request.Explain bytes result is reached comes = explained-complete result is reached comes
    complete-with (request.Run t) bytes result is reached comes = complete-for t (work_of-single files bytes t) reached comes result is

    pub complete-by : (r : Result Command WordsStop) → HoldBytes files → (result : Outcome) → AnswersBy words r call result
        → (reached : Reached Stop Output) → run_by words r files reached → (result ≡ outcome_of reached) ⊎ IsForced call result
    complete-by (Ok c) bytes result is reached comes = complete-with (request_of c) bytes result is reached comes
    complete-by (Err s) bytes result is reached comes = by is.is where
      by : (result ≡ stop_answer s) ⊎ (result ≡ outcome.NoMemory) → (result ≡ outcome_of reached) ⊎ IsForced call result
      by (inl same) = inl (same ∙ refused-end s reached comes)
      by (inr none) = inr (subst (λ (o : Outcome). IsForced call o) (sym none) tt)

known-to : {A : Type 0} (P : A → Type 0) (o : Option A) → ((a : A) → o ≡ Some a → P a) → IfSome o P
known-to P None each = tt
known-to P (Some a) each = each a refl

-- An answer that has its cause is complete.
pub answers-complete : (words : List (List ℕ)) (call : Call) (result : Outcome) → IfSome call.old.files HoldBytes → Answers words call result
    → IfSome call.old.files (λ files. (reached : Reached Stop Output) → run_of words files reached → (result ≡ outcome_of reached) ⊎ IsForced call result)
answers-complete words call result bytes is =
    known-to (λ files. (reached : Reached Stop Output) → run_of words files reached → (result ≡ outcome_of reached) ⊎ IsForced call result) call.old.files
    (λ files known reached comes. complete-by call files known words (answer_of words) (of-files call files known HoldBytes bytes) result is reached comes)
