-- Up to where regions are filled, placing by placing.
use Rattle.std.proofs.Common.{◌≡◌, ◌≢◌, ℕ, zero, suc, ◌+◌, ◌*◌, ◌<◌, ◌≤◌, List, [], ◌∷◌, ◌++◌, length, map, get_or, Bool, true, false, refl, sym, ap}
use Rattle.std.proofs.Common.{◌∙◌, subst, append_assoc, length-append, rules, arith, get_or-set_same, get_or-set_other}
use Rattle.std.specs.Prelude.{◌==◌, ◌^◌, max, nat_lt, position, replicate, cond, not, ◌||◌, ◌-◌, Option, Some, None, All, IfSome}
use Rattle.std.specs.Prelude.{option_to_list, option_and_then, if◌then◌else◌}
use Rattle.std.specs.List.{list_any, position_or_len}
use Rattle.std.specs.Str.{bytes_eq}
use Rattle.std.proofs.lemmas.List.Folds.{list_any-append}
use Rattle.std.proofs.lemmas.List.{length-replicate}
use Rattle.std.proofs.lemmas.Cmp.{nat_list_eq_equiv}
use Rattle.mufom_plan.specs.Names.{region_names, region_position}
use Rattle.std.proofs.Math.ListN.{set, length-map, length-set}
use Rattle.std.proofs.lemmas.List.{map-append, append-nil}
use Rattle.std.proofs.lemmas.List.Elements.{filter-append, All-set, All-push}
use Rattle.mufom_numbers.proofs.Choices.{of_lt, of_not_lt}
use Rattle.mufom_sections.specs.declared.section.Section.{Section}
use Rattle.mufom_plan.specs.declared.plan.Region.{Region}
use Rattle.mufom_place.specs.declared.placing.Placing.{Placing}
use Rattle.mufom_place.specs.declared.placing.RegionCopy.{RegionCopy}
use Rattle.mufom_place.specs.Copies.{greatest, placed_by, placed_end, ends_in, region_base, filled_to, size_at, copy_sections, has_any, copy_if, copy_with}
use Rattle.mufom_place.specs.Filling.{AreFilled, AreLowEnds, AreSizedFrom, raised, AreMarked, marked}
use Rattle.mufom_place.proofs.PlannedLemmas.{same_number, other_number}

greatest-next : (n : ℕ) (xs : List ℕ) (m : ℕ) → greatest n (xs ++ m ∷ []) ≡ max (greatest n xs) m
greatest-next n [] m = refl
greatest-next n (x ∷ xs) m = greatest-next (max n x) xs m

-- one more placing, in the region or in another one
ends-next : (sections : List Section) (r : ℕ) (given : List Placing) (p : Placing) → ends_in sections r (given ++ p ∷ [])
    ≡ ends_in sections r given ++ map (placed_end sections) (if p.region == r then p ∷ [] else [])
ends-next sections r given p =
    ap (map (placed_end sections)) (filter-append (λ (q : Placing). q.region == r) given (p ∷ []))
    ∙ map-append (placed_end sections) (placed_by r given) (if p.region == r then p ∷ [] else [])

pub filled-here : (regions : List Region) (sections : List Section) (given : List Placing) (p : Placing) (r : ℕ) → p.region ≡ r
    → filled_to regions sections (given ++ p ∷ []) r ≡ max (filled_to regions sections given r) (placed_end sections p)
filled-here regions sections given p r same =
    let its : (p.region == r) ≡ true = search (rules, same) in
    ap (greatest (region_base regions r)) (ends-next sections r given p
    ∙ ap (λ b. ends_in sections r given ++ map (placed_end sections) (if b then p ∷ [] else [])) its)
    ∙ greatest-next (region_base regions r) (ends_in sections r given) (placed_end sections p)

pub filled-passed : (regions : List Region) (sections : List Section) (given : List Placing) (p : Placing) (r : ℕ) → p.region ≢ r
    → filled_to regions sections (given ++ p ∷ []) r ≡ filled_to regions sections given r
filled-passed regions sections given p r differ =
    ap (greatest (region_base regions r)) (ends-next sections r given p
    ∙ ap (λ b. ends_in sections r given ++ map (placed_end sections) (if b then p ∷ [] else [])) (other_number p.region r differ)
    ∙ append_nothing (ends_in sections r given)) where
      append_nothing : (xs : List ℕ) → xs ++ [] ≡ xs
      append_nothing [] = refl
      append_nothing (x ∷ xs) = ap (λ more. x ∷ more) (append_nothing xs)

-- the numbers with that of one region raised to the end of what it places now
pub filled-raised : (regions : List Region) (sections : List Section) (given : List Placing) (p : Placing) (ends : List ℕ)
    → AreFilled regions sections given ends
    → AreFilled regions sections (given ++ p ∷ []) (raised p.region (placed_end sections p) ends)
filled-raised regions sections given p ends h = by_inside (nat_lt p.region (length ends)) refl where
  more : ℕ
  more = max (get_or ends p.region 0) (placed_end sections p)

  here : p.region < length ends → (r : ℕ) → r < length regions → (b : Bool) → (p.region == r) ≡ b
      → get_or (set ends p.region more) r 0 ≡ filled_to regions sections (given ++ p ∷ []) r
  here within r low true e =
      let same = same_number p.region r e in
      subst (λ k. get_or (set ends p.region more) k 0 ≡ more) same (get_or-set_same ends p.region more 0 within)
      ∙ ap (λ n. max n (placed_end sections p)) (ap (λ k. get_or ends k 0) same ∙ h.each r low)
      ∙ sym (filled-here regions sections given p r same)
  here within r low false e =
      let differ : r ≢ p.region = λ same. (let t : (p.region == r) ≡ true = search (rules, same) in cc) in
      get_or-set_other ends p.region r more 0 differ ∙ h.each r low
      ∙ sym (filled-passed regions sections given p r (λ same. differ (sym same)))

  by_inside : (b : Bool) → nat_lt p.region (length ends) ≡ b
      → AreFilled regions sections (given ++ p ∷ []) (if b then set ends p.region (max (get_or ends p.region 0) (placed_end sections p)) else ends)
  by_inside true e = record {
    count = length-set ends p.region more ∙ h.count;
    each = λ r low. here (of_lt p.region (length ends) e) r low (p.region == r) refl;
  }
  by_inside false e = record {
    count = h.count;
    each = λ r low. let far = of_not_lt p.region (length ends) e in let count = h.count in
        let differ : p.region ≢ r = λ same. omega (arith, same, far, count, low) in
        h.each r low ∙ sym (filled-passed regions sections given p r differ);
  }

-- raised numbers stay low
pub low-raised : (copies : ℕ) (region end : ℕ) (ends : List ℕ) → AreLowEnds copies ends → end < 2 ^ 101 + copies * 2 ^ 65
    → AreLowEnds copies (raised region end ends)
low-raised copies region end ends low h = by_inside (nat_lt region (length ends)) refl where
  by_inside : (b : Bool) → nat_lt region (length ends) ≡ b → AreLowEnds copies (if b then set ends region (max (get_or ends region 0) end) else ends)
  by_inside true e =
      All-set (λ n. n < 2 ^ 101 + copies * 2 ^ 65) ends region (max (get_or ends region 0) end)
      (max_below (get_or ends region 0) end (low region 0 (of_lt region (length ends) e)) h) low where
        max_below : (m n : ℕ) → m < 2 ^ 101 + copies * 2 ^ 65 → n < 2 ^ 101 + copies * 2 ^ 65 → max m n < 2 ^ 101 + copies * 2 ^ 65
        max_below m n a b = search rules
  by_inside false e = low

-- regions that place nothing are filled to their bases
pub filled-bases : (regions : List Region) (ends : List ℕ) → ends ≡ map (λ (r : Region). r.base) regions → AreFilled regions [] [] ends
filled-bases regions ends is = record {
  count = ap length is ∙ length-map regions (λ (r : Region). r.base);
  each = λ r low. ap (λ xs. get_or xs r 0) is ∙ at regions r;
} where
  at : (regions : List Region) (r : ℕ) → get_or (map (λ (r : Region). r.base) regions) r 0 ≡ region_base regions r
  at [] r = refl
  at (region ∷ regions) zero = refl
  at (region ∷ regions) (suc r) = at regions r

-- the copies after other sections have their sizes there
at_first : (front : List Section) (s : Section) (more : List Section) → size_at (front ++ s ∷ more) (length front) ≡ s.size
at_first [] s more = refl
at_first (x ∷ front) s more = at_first front s more

pub sized-after : (front : List Section) (copied : List RegionCopy) → AreSizedFrom (front ++ copy_sections copied) (length front) copied
sized-after front [] = tt
sized-after front (c ∷ more) = (
  at_first front c.section (copy_sections more),
  subst (λ n. AreSizedFrom (front ++ copy_sections (c ∷ more)) n more) (length-append front (c.section ∷ []) ∙ omega arith)
      (subst (λ all. AreSizedFrom all (length (front ++ c.section ∷ [])) more) (append_assoc front (c.section ∷ []) (copy_sections more))
      (sized-after (front ++ c.section ∷ []) more)),
)

-- ---- marks of regions that place something

next-any : (given : List Placing) (p : Placing) (r : ℕ) → list_any (λ (q : Placing). q.region == r) (given ++ p ∷ [])
    ≡ (list_any (λ (q : Placing). q.region == r) given || (p.region == r || false))
next-any given p r = list_any-append (λ (q : Placing). q.region == r) given (p ∷ [])

or_none : (b : Bool) → (b || (false || false)) ≡ b
or_none true = refl
or_none false = refl

or_true : (b : Bool) → (b || (true || false)) ≡ true
or_true true = refl
or_true false = refl

-- one more placing marks its region
pub marked-next : (count : ℕ) (given : List Placing) (p : Placing) (marks : List Bool) → AreMarked count given marks
    → AreMarked count (given ++ p ∷ []) (marked p.region marks)
marked-next count given p marks h = by_inside (nat_lt p.region (length marks)) refl where
  here : p.region < length marks → (r : ℕ) → r < count → (b : Bool) → (p.region == r) ≡ b
      → get_or (set marks p.region true) r false ≡ list_any (λ (q : Placing). q.region == r) (given ++ p ∷ [])
  here within r low true e =
      let same = same_number p.region r e in
      subst (λ k. get_or (set marks p.region true) k false ≡ true) same (get_or-set_same marks p.region true false within)
      ∙ sym (next-any given p r ∙ ap (λ b. list_any (λ (q : Placing). q.region == r) given || (b || false)) e
      ∙ or_true (list_any (λ (q : Placing). q.region == r) given))
  here within r low false e =
      let differ : r ≢ p.region = λ same. (let t : (p.region == r) ≡ true = search (rules, same) in cc) in
      get_or-set_other marks p.region r true false differ ∙ h.each r low
      ∙ sym (next-any given p r ∙ ap (λ b. list_any (λ (q : Placing). q.region == r) given || (b || false)) e
      ∙ or_none (list_any (λ (q : Placing). q.region == r) given))

  by_inside : (b : Bool) → nat_lt p.region (length marks) ≡ b → AreMarked count (given ++ p ∷ []) (if b then set marks p.region true else marks)
  by_inside true e = record {
    sized = length-set marks p.region true ∙ h.sized;
    each = λ r low. here (of_lt p.region (length marks) e) r low (p.region == r) refl;
  }
  by_inside false e = record {
    sized = h.sized;
    each = λ r low. let far = of_not_lt p.region (length marks) e in let sized = h.sized in
        let differ : p.region ≢ r = λ same. omega (arith, same, far, sized, low) in
        h.each r low ∙ sym (next-any given p r ∙ ap (λ b. list_any (λ (q : Placing). q.region == r) given || (b || false)) (other_number p.region r differ)
        ∙ or_none (list_any (λ (q : Placing). q.region == r) given));
  }

-- marks of which none is set
pub none-marked : (count : ℕ) (marks : List Bool) → marks ≡ replicate count false → AreMarked count [] marks
none-marked count marks is = record {
  sized = ap length is ∙ length-replicate count false;
  each = λ r low. ap (λ xs. get_or xs r false) is ∙ at count r;
} where
  at : (count r : ℕ) → get_or (replicate count false) r false ≡ false
  at zero r = refl
  at (suc count) zero = refl
  at (suc count) (suc r) = at count r

-- there is an end in a region where it places something
pub any-end : (sections : List Section) (r : ℕ) (given : List Placing) → list_any (λ (p : Placing). p.region == r) given ≡ has_any (ends_in sections r given)
any-end sections r [] = refl
any-end sections r (p ∷ given) = by_case (p.region == r) (any-end sections r given) where
  by_case : (b : Bool) → list_any (λ (q : Placing). q.region == r) given ≡ has_any (ends_in sections r given)
      → (b || list_any (λ (q : Placing). q.region == r) given)
      ≡ has_any (map (placed_end sections) (if b then p ∷ placed_by r given else placed_by r given))
  by_case true later = refl
  by_case false later = later

-- the position of a region by its name
pub position-named : (name : List ℕ) (regions : List Region) → position (λ (r : Region). bytes_eq r.name name) regions ≡ region_position regions name
position-named name regions = λ i. let at = places i in cond (nat_lt at (sym (length-map regions (λ (r : Region). r.name)) i)) (Some at) None where
  same : (regions : List Region) → position_or_len (λ (r : Region). bytes_eq r.name name) regions ≡ position_or_len (bytes_eq name) (region_names regions)
  same [] = refl
  same (region ∷ regions) = λ i. cond (not (nat_list_eq_equiv.symm region.name name i)) (1 + same regions i) 0

  places : position_or_len (λ (r : Region). bytes_eq r.name name) regions ≡ position_or_len (bytes_eq name) (region_names regions)
  places = same regions

-- ---- the copy of one region

greatest-least : (n : ℕ) (xs : List ℕ) → n ≤ greatest n xs
greatest-least n [] = omega arith
greatest-least n (m ∷ xs) = let rest = greatest-least (max n m) xs in let own = least n m in omega (arith, rest, own) where
  least : (n m : ℕ) → n ≤ max n m
  least n m = search rules

region-base-at : (regions : List Region) (n : ℕ) (region : Region) → n < length regions → region ≡ get_or regions n region → region_base regions n ≡ region.base
region-base-at [] n region low is = absurd (omega (arith, low))
region-base-at (first ∷ regions) zero region low is = ap (λ (r : Region). r.base) (sym is)
region-base-at (first ∷ regions) (suc n) region low is = region-base-at regions n region (omega (arith, low)) is

module _ (regions : List Region) (placed : List Section) (loaded : List Placing) (n : ℕ) (region : Region) (low : n < length regions)
    (is : region ≡ get_or regions n region) where
  pub filled-at : (ends : List ℕ) → AreFilled regions placed loaded ends → get_or ends n 0 ≡ greatest region.base (ends_in placed n loaded)
  filled-at ends h = h.each n low ∙ ap (λ b. greatest b (ends_in placed n loaded)) (region-base-at regions n region low is)

  pub base-below : (ends : List ℕ) → AreFilled regions placed loaded ends → region.base ≤ get_or ends n 0
  base-below ends h = let at = filled-at ends h in let least = greatest-least region.base (ends_in placed n loaded) in omega (arith, at, least)

  pub copied-at : (ends : List ℕ) (marks : List Bool) → AreFilled regions placed loaded ends → AreMarked (length regions) loaded marks
      → copy_if n region (option_and_then (region_position regions) region.load) (get_or marks n false) (get_or ends n 0 - region.base)
      ≡ copy_with n region (option_and_then (region_position regions) region.load) (ends_in placed n loaded)
  copied-at ends marks h m = let has = m.each n low ∙ any-end placed n loaded in let end = filled-at ends h in
      λ i. copy_if n region (option_and_then (region_position regions) region.load) (has i) (end i - region.base)

pub All-after : {X : Type 0} (P : X → Type 0) (xs : List X) (o : Option X) → All P xs → IfSome o P → All P (xs ++ option_to_list o)
All-after P xs None all h = subst (All P) (sym (append-nil xs)) all
All-after P xs (Some x) all h = All-push P xs x all h
