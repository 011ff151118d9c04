-- Linking the groups of a tree as its marks go by: what stands for which files so far.
use Rattle.std.proofs.Common.{◌≡◌, ◌⊎◌, ℕ, zero, suc, ◌+◌, ◌≤◌, List, [], ◌∷◌, ◌++◌, length, map, take, drop, Option, Some, None, inl, inr, refl, sym}
use Rattle.std.proofs.Common.{◌∙◌, ap, subst, arith}
use Rattle.std.specs.Prelude.{slice_get}
use Rattle.std.proofs.lemmas.Grind.{flat_map-append}
use Rattle.std.proofs.lemmas.List.{map-append, take-append-drop}
use Rattle.std.proofs.lemmas.List.Sums.{sum_by-append}
use Rattle.mufom_module.specs.declared.module.Parts.{Parts}
use Rattle.mufom_module.specs.Written.{weight}
use Rattle.mufom_place.specs.Facts.{first_some, ◌or_else◌}
use Rattle.mufom_refusals.specs.declared.link.LinkRefusal.{LinkRefusal}
use Rattle.mufom_refusals.specs.declared.link.LinkRefusal.TheVariants.{Mismatch, Duplicate, DuplicateStart, NoMemory}
use Rattle.mufom_link.specs.Refusals.{IsRefusalOf}
use Rattle.mufom_meaning.specs.Facts.{LinkFact, mismatch, duplicate, duplicate_start}
use Rattle.mufom_meaning.specs.LinkAnswer.{link_answer}
use Rattle.mufom_meaning.specs.Selection.{members_at, member_at}
use Rattle.mufom_meaning.specs.Staging.{AreValid}
use Rattle.mufom_meaning.specs.StagingLaws.{total_weight}
use Rattle.mufom_groups.specs.Work.{Work, stops, gives}
use Rattle.mufom_groups.specs.Groups.{AreInPlaceOf, StopsWork}
use Rattle.mufom_groups.specs.Linked.{links, unless_fact}
use Rattle.mufom_groups.specs.Refusals.{link_refusal}
use Rattle.mufom_groups.proofs.GroupWalk.{files_in}
use Rattle.mufom_groups.proofs.Stages.{all_of, in-place-append}

-- ---- modules without a defect

pub valid-append : (xs ys : List Parts) → AreValid xs → AreValid ys → AreValid (xs ++ ys)
valid-append [] ys is_xs is_ys = is_ys
valid-append (x ∷ xs) ys is_xs is_ys = (is_xs.0, valid-append xs ys is_xs.1 is_ys)

pub valid-drop : (n : ℕ) (xs : List Parts) → AreValid xs → AreValid (drop n xs)
valid-drop zero xs is = is
valid-drop (suc n) [] is = tt
valid-drop (suc n) (x ∷ xs) is = valid-drop n xs is.1

pub valid-take : (n : ℕ) (xs : List Parts) → AreValid xs → AreValid (take n xs)
valid-take zero xs is = tt
valid-take (suc n) [] is = tt
valid-take (suc n) (x ∷ xs) is = (is.0, valid-take n xs is.1)

valid-member : (xs : List Parts) (n : ℕ) → AreValid xs → AreValid (member_at (slice_get xs n))
valid-member [] n is = tt
valid-member (x ∷ xs) zero is = (is.0, tt)
valid-member (x ∷ xs) (suc n) is = valid-member xs n is.1

pub valid-members : (xs : List Parts) (ns : List ℕ) → AreValid xs → AreValid (members_at xs ns)
valid-members xs [] is = tt
valid-members xs (n ∷ ns) is = valid-append (member_at (slice_get xs n)) (members_at xs ns) (valid-member xs n is) (valid-members xs ns is)

-- ---- weights

pub weight-append : (xs ys : List Parts) → total_weight (xs ++ ys) ≡ total_weight xs + total_weight ys
weight-append xs ys = sum_by-append weight xs ys

pub weight-split : (n : ℕ) (xs : List Parts) → total_weight (take n xs) + total_weight (drop n xs) ≡ total_weight xs
weight-split n xs = sym (weight-append (take n xs) (drop n xs)) ∙ ap total_weight (take-append-drop n xs)

-- ---- modules at positions

-- the modules of all elements are those of their files
pub all-at : (ms : List Parts) (parts : List (List ℕ)) → all_of (map (members_at ms) parts) ≡ members_at ms (files_in parts)
all-at ms [] = refl
all-at ms (part ∷ parts) = ap (λ (l : List Parts). members_at ms part ++ l) (all-at ms parts)
    ∙ sym (flat_map-append (λ n. member_at (slice_get ms n)) part (files_in parts))

-- the elements from a position on
pub placed-drop : (ms : List Parts) (k : ℕ) (linked : List Parts) (parts : List (List ℕ)) → AreInPlaceOf linked (map (members_at ms) parts)
    → AreInPlaceOf (drop k linked) (map (members_at ms) (drop k parts))
placed-drop ms zero linked parts are = are
placed-drop ms (suc k) [] [] are = tt
placed-drop ms (suc k) (M ∷ linked) (part ∷ parts) are = placed-drop ms k linked parts are.1
placed-drop ms (suc k) [] (part ∷ parts) are = absurd are
placed-drop ms (suc k) (M ∷ linked) [] are = absurd are

pub placed-take : (ms : List Parts) (k : ℕ) (linked : List Parts) (parts : List (List ℕ)) → AreInPlaceOf linked (map (members_at ms) parts)
    → AreInPlaceOf (take k linked) (map (members_at ms) (take k parts))
placed-take ms zero linked parts are = tt
placed-take ms (suc k) [] [] are = tt
placed-take ms (suc k) (M ∷ linked) (part ∷ parts) are = (are.0, placed-take ms k linked parts are.1)
placed-take ms (suc k) [] (part ∷ parts) are = absurd are
placed-take ms (suc k) (M ∷ linked) [] are = absurd are

pub placed-append : (ms linked more : List Parts) (parts others : List (List ℕ)) → AreInPlaceOf linked (map (members_at ms) parts)
    → AreInPlaceOf more (map (members_at ms) others)
    → AreInPlaceOf (linked ++ more) (map (members_at ms) (parts ++ others))
placed-append ms linked more parts others are also =
    subst (λ (l : List (List Parts)). AreInPlaceOf (linked ++ more) l) (sym (map-append (members_at ms) parts others))
    (in-place-append linked more (map (members_at ms) parts) (map (members_at ms) others) are also)

pub placed-length : (ms linked : List Parts) (parts : List (List ℕ)) → AreInPlaceOf linked (map (members_at ms) parts) → length linked ≡ length parts
placed-length ms [] [] are = refl
placed-length ms (M ∷ linked) (part ∷ parts) are = let more = placed-length ms linked parts are.1 in omega (arith, more)
placed-length ms [] (part ∷ parts) are = absurd are
placed-length ms (M ∷ linked) [] are = absurd are

pub drop-all : {A : Type 0} (k : ℕ) (xs : List A) → length xs ≤ k → drop k xs ≡ []
drop-all zero [] short = refl
drop-all zero (x ∷ xs) short = absurd (omega (arith, short))
drop-all (suc k) [] short = refl
drop-all (suc k) (x ∷ xs) short = drop-all k xs (omega (arith, short))

pub take-whole : {A : Type 0} (k : ℕ) (xs : List A) → length xs ≤ k → take k xs ≡ xs
take-whole zero [] short = refl
take-whole zero (x ∷ xs) short = absurd (omega (arith, short))
take-whole (suc k) [] short = refl
take-whole (suc k) (x ∷ xs) short = ap (λ l. x ∷ l) (take-whole k xs (omega (arith, short)))

-- ---- facts

pub first-after : (lists more : List (List Parts)) → first_some link_answer lists ≡ None → first_some link_answer (lists ++ more) ≡ first_some link_answer more
first-after [] more none = refl
first-after (list ∷ lists) more none = by_case (link_answer list) none (first-after lists more) where
  by_case : (o : Option LinkFact) → o or_else first_some link_answer lists ≡ None
      → (first_some link_answer lists ≡ None → first_some link_answer (lists ++ more) ≡ first_some link_answer more)
      → o or_else first_some link_answer (lists ++ more) ≡ first_some link_answer more
  by_case None none later = later none
  by_case (Some f) none later = absurd cc

pub first-found : (list : List Parts) (more : List (List Parts)) (f : LinkFact) → link_answer list ≡ Some f → first_some link_answer (list ∷ more) ≡ Some f
first-found list more f found = ap (λ (o : Option LinkFact). o or_else first_some link_answer more) found

pub first-none : (list : List Parts) (more : List (List Parts)) → link_answer list ≡ None → first_some link_answer (list ∷ more) ≡ first_some link_answer more
first-none list more none = ap (λ (o : Option LinkFact). o or_else first_some link_answer more) none

pub links-stop : (lists : List (List Parts)) (f : LinkFact) → first_some link_answer lists ≡ Some f → links lists (stops f)
links-stop lists f same = subst (λ (o : Option LinkFact). unless_fact o (stops f)) (sym same) refl

pub links-give : (lists : List (List Parts)) → first_some link_answer lists ≡ None → links lists (gives tt)
links-give lists none = subst (λ (o : Option LinkFact). unless_fact o (gives tt)) (sym none) refl

-- the fact that a refusal of a link names
pub record IsFactOf (ms : List Parts) (e : LinkRefusal) : Type 0 where
  pub fact : LinkFact
  pub is : e ≡ link_refusal fact
  pub answer : link_answer ms ≡ Some fact

pub refusal-fact : (ms : List Parts) (e : LinkRefusal) → IsRefusalOf ms e → (e ≡ NoMemory) ⊎ IsFactOf ms e
refusal-fact ms NoMemory is = inl refl
refusal-fact ms (Mismatch first other) is = inr (record { fact = mismatch (first.maus, first.order) (other.maus, other.order); is = refl; answer = is })
refusal-fact ms (Duplicate name) is = inr (record { fact = duplicate name; is = refl; answer = is })
refusal-fact ms DuplicateStart is = inr (record { fact = duplicate_start; is = refl; answer = is })

-- the refusal of a link fact that ends the work
pub stops-by : {A : Type 0} (work : Work LinkFact A) (f : LinkFact) → work (stops f) → StopsWork work (link_refusal f)
stops-by work (mismatch first other) ends = (mismatch first other, refl, ends)
stops-by work (duplicate name) ends = (duplicate name, refl, ends)
stops-by work duplicate_start ends = (duplicate_start, refl, ends)
