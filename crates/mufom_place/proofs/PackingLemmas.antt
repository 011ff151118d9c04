-- Packing entry by entry is packing the sections of all entries.
use Rattle.std.proofs.Common.{◌≡◌, ℕ, ◌+◌, ◌-◌, ◌≤◌, ◌^◌, None, List, [], ◌∷◌, ◌++◌, length, map, take, drop, refl, sym, ap, ◌∙◌, arith}
use Rattle.std.specs.Prelude.{sum_by}
use Rattle.std.specs.List.{flat_map, enumerate_from}
use Rattle.std.proofs.lemmas.List.{map-append, length-map, take-append-drop}
use Rattle.std.proofs.lemmas.List.Sums.{sum_by-take-drop}
use Rattle.mufom_sections.specs.declared.section.Section.{Section}
use Rattle.mufom_plan.specs.declared.plan.Region.{Region}
use Rattle.mufom_plan.specs.Names.{listed_names}
use Rattle.mufom_plan.specs.declared.plan.Plan.{Plan}
use Rattle.mufom_place.specs.declared.placing.Placing.{Placing}
use Rattle.mufom_place.specs.declared.placing.Waiting.{Waiting}
use Rattle.mufom_place.specs.Bases.{aligned_up, commons_in, numbered, packed, placings, site_by}
use Rattle.mufom_place.specs.Packing.{end_of, placings_from}
use Rattle.mufom_place.specs.Facts.{◌or_else◌, extents, first_overlap, first_some, in_order, last_sections, misfit_by, place_refusal, sections_before}
use Rattle.mufom_place.specs.Facts.{unplaced_at}

pub packed-append : (region address : ℕ) (xs ys : List Waiting) → packed region address (xs ++ ys) ≡ packed region address xs
    ++ packed region (end_of address xs) ys
packed-append region address [] ys = refl
packed-append region address (w ∷ xs) ys = ap (λ more. record { section = w.section; region = region; base = aligned_up w.align address } ∷ more)
    (packed-append region (aligned_up w.align address + w.size) xs ys)

pub end_of-append : (address : ℕ) (xs ys : List Waiting) → end_of address (xs ++ ys) ≡ end_of (end_of address xs) ys
end_of-append address [] ys = refl
end_of-append address (w ∷ xs) ys = end_of-append (aligned_up w.align address + w.size) xs ys

-- the entries of some lists joined
pub joined-map : (waiting : List ℕ → List Waiting) (entries : List (List ℕ)) → flat_map (λ xs. xs) (map waiting entries) ≡ flat_map waiting entries
joined-map waiting [] = refl
joined-map waiting (entry ∷ entries) = ap (λ more. waiting entry ++ more) (joined-map waiting entries)

take-prefix : {A : Type 0} (xs ys : List A) → take (length xs) (xs ++ ys) ≡ xs
take-prefix [] ys = refl
take-prefix (x ∷ xs) ys = ap (λ more. x ∷ more) (take-prefix xs ys)

drop-prefix : {A : Type 0} (xs ys : List A) → drop (length xs) (xs ++ ys) ≡ ys
drop-prefix [] ys = refl
drop-prefix (x ∷ xs) ys = drop-prefix xs ys

-- if the sections of each name wait, the regions give the bases that their lists state
pub placings_from-waiting : (waiting : List ℕ → List Waiting) (commons : List Waiting) (n : ℕ) (regions : List Region)
    → placings_from n regions (map waiting (listed_names regions)) commons
    ≡ flat_map (λ r. packed r.0 r.1.base (flat_map waiting r.1.sections ++ commons_in r.1 commons)) (enumerate_from n regions)
placings_from-waiting waiting commons n [] = refl
placings_from-waiting waiting commons n (region ∷ regions) =
    let all = map-append waiting region.sections (listed_names regions) in
    let long = sym (length-map region.sections waiting) in
    let prefix : take (length region.sections) (map waiting (listed_names (region ∷ regions))) ≡ map waiting region.sections =
    (λ i. take (long i) (all i)) ∙ take-prefix (map waiting region.sections) (map waiting (listed_names regions)) in
    let back : drop (length region.sections) (map waiting (listed_names (region ∷ regions))) ≡ map waiting (listed_names regions) =
    (λ i. drop (long i) (all i)) ∙ drop-prefix (map waiting region.sections) (map waiting (listed_names regions)) in
    (λ i. packed n region.base (flat_map (λ xs. xs) (prefix i) ++ commons_in region commons) ++ placings_from (n + 1) regions (back i) commons)
    ∙ (λ i. packed n region.base (joined-map waiting region.sections i ++ commons_in region commons) ++ placings_from-waiting waiting commons (n + 1) regions i)

-- if nothing is unplaced, the result by the plan is the result by what its regions give
pub place_refusal-by : (width : ℕ) (plan : Plan) (before last sections : List Section) (given : List Placing) (placed : List ℕ)
    → before ++ last ≡ sections → given ≡ placings plan before last → placed ≡ map (λ s. (site_by given s).base) (numbered sections)
    → first_some (unplaced_at (listed_names plan.regions)) (numbered before) ≡ None
    → place_refusal width plan before last
    ≡ first_some (misfit_by (2 ^ width) plan.regions given) (numbered sections) or_else first_overlap (in_order (extents (numbered sections) placed))
place_refusal-by width plan before last sections given placed whole is based none =
    (λ i. none i
    or_else (first_some (misfit_by (2 ^ width) plan.regions (sym is i)) (numbered (whole i))
    or_else first_overlap (in_order (extents (numbered (whole i)) (map (λ s. (site_by (sym is i) s).base) (numbered (whole i)))))))
    ∙ ap (λ bs. first_some (misfit_by (2 ^ width) plan.regions given) (numbered sections)
    or_else first_overlap (in_order (extents (numbered sections) bs))) (sym based)

-- some sections and the last ones of a list are the whole list
pub sections_rejoined : (count : ℕ) (sections : List Section) → sections_before count sections ++ last_sections count sections ≡ sections
sections_rejoined count sections = take-append-drop (length sections - count) sections

pub sum_by-part : (entries : List (List Waiting)) (start count : ℕ) → sum_by length (take count (drop start entries)) ≤ sum_by length entries
sum_by-part entries start count = let outer = sum_by-take-drop length entries start in let inner =
    sum_by-take-drop length (drop start entries) count in omega (arith, outer, inner)
