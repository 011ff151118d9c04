-- One mark more while the groups of a tree are linked.
use Rattle.std.proofs.Common.{◌≡◌, ◌⊎◌, ℕ, zero, suc, ◌+◌, ◌≤◌, ◌<◌, ◌^◌, List, [], ◌∷◌, ◌++◌, length, map, take, drop, get_or, Option, Some, None}
use Rattle.std.proofs.Common.{inl, inr, refl, sym, ◌∙◌, ap, subst, append-nil, append_assoc, arith}
use Rattle.std.specs.Prelude.{slice_get}
use Rattle.std.proofs.lemmas.List.{drop_more, map-append}
use Rattle.std.proofs.lemmas.Bool.{cases_order}
use Rattle.mufom_module.specs.declared.module.Parts.{Parts}
use Rattle.mufom_module.specs.Defects.{IsValid}
use Rattle.mufom_place.specs.Facts.{first_some}
use Rattle.mufom_refusals.specs.declared.link.LinkRefusal.{LinkRefusal}
use Rattle.mufom_refusals.specs.declared.link.LinkRefusal.TheVariants.{NoMemory}
use Rattle.mufom_link.specs.Refusals.{IsRefusalOf}
use Rattle.mufom_meaning.specs.Facts.{LinkFact}
use Rattle.mufom_meaning.specs.LinkAnswer.{link_answer}
use Rattle.mufom_meaning.specs.Selection.{members_at, member_at}
use Rattle.mufom_meaning.specs.Staging.{AreValid}
use Rattle.mufom_meaning.specs.StagingLaws.{total_weight}
use Rattle.mufom_meaning.proofs.staging.JoinedValid.{joined_is_valid}
use Rattle.mufom_words.specs.declared.command.Mark.{Mark}
use Rattle.mufom_words.specs.declared.command.Mark.TheVariants.{Open, Close, File}
use Rattle.mufom_words.specs.Sound.{numbers_from}
use Rattle.mufom_words.specs.Tree.{Forest, groups, leaves, spelling}
use Rattle.mufom_groups.specs.Work.{stops}
use Rattle.mufom_groups.specs.Groups.{AreInPlaceOf, HasRoot, IsClosed, IsInPlaceOf, IsLinkedFrom, IsRefusedMark, IsTaken, StopsWork, elements}
use Rattle.mufom_groups.specs.Groups.{files_of, last_of, most_weight, together}
use Rattle.mufom_groups.specs.Linked.{first_name, links}
use Rattle.mufom_groups.specs.Refusals.{link_refusal}
use Rattle.mufom_groups.proofs.GroupWalk.{all-elements, all-files, all-groups, closed, elements_after, files_in, groups_closed, outer}
use Rattle.mufom_groups.proofs.LinkWalk.{IsFactOf, all-at, drop-all, first-after, first-found, first-none, links-stop, stops-by, placed-append}
use Rattle.mufom_groups.proofs.LinkWalk.{placed-drop, placed-length, placed-take, refusal-fact, take-whole, valid-drop, valid-members, weight-append}
use Rattle.mufom_groups.proofs.LinkWalk.{weight-split}
use Rattle.mufom_groups.proofs.ShortNames.{short-name}
use Rattle.mufom_groups.proofs.Stages.{all_of, in-place-itself, in-place-valid, link-in-place, same-answer}

-- These modules stand for the elements so far, and these groups are open; the marks and the roots are still to come.
pub record IsLinking (ms : List Parts) (tree : Forest) (marks : List Mark) (linked : List Parts) (begun : List ℕ) (rest : List Parts) : Type 0 where
  pub parts : List (List ℕ)
  pub done : List (List ℕ)
  pub placed : AreInPlaceOf linked (map (members_at ms) parts)
  pub standing : elements_after marks parts begun ≡ elements tree
  pub closing : groups tree ≡ done ++ groups_closed marks parts begun
  pub linkable : first_some link_answer (map (members_at ms) done) ≡ None
  pub number : ℕ
  pub left : rest ≡ drop number ms
  pub files : files_of marks ≡ numbers_from number (length rest)
  pub light : total_weight linked + total_weight rest ≤ total_weight ms

-- the marks begin
pub linking-begins : (ms : List Parts) (tree : Forest) (marks : List Mark) → spelling tree ≡ marks → leaves tree ≡ numbers_from 0 (length ms)
    → IsLinking ms tree marks [] [] ms
linking-begins ms tree marks spelled numbered = record {
  parts = [];
  done = [];
  placed = tt;
  standing = ap (λ (l : List Mark). elements_after l [] []) (sym spelled) ∙ all-elements tree;
  closing = sym (all-groups tree) ∙ ap (λ (l : List Mark). groups_closed l [] []) spelled;
  linkable = refl;
  number = 0;
  left = refl;
  files = ap files_of (sym spelled) ∙ all-files tree ∙ numbered;
  light = omega arith;
}

drop-next : {A : Type 0} (n : ℕ) (xs : List A) (x : A) (more : List A) → x ∷ more ≡ drop n xs → more ≡ drop (suc n) xs
drop-next zero [] x more same = absurd cc
drop-next zero (y ∷ xs) x more same = cc
drop-next (suc n) [] x more same = absurd cc
drop-next (suc n) (y ∷ xs) x more same = drop-next n xs x more same

drop-get : {A : Type 0} (n : ℕ) (xs : List A) (x : A) (more : List A) → x ∷ more ≡ drop n xs → slice_get xs n ≡ Some x
drop-get zero [] x more same = absurd cc
drop-get zero (y ∷ xs) x more same = let is : y ≡ x = cc in ap (λ z. Some z) is
drop-get (suc n) [] x more same = absurd cc
drop-get (suc n) (y ∷ xs) x more same = drop-get n xs x more same

-- there is a root where a file comes
pub file-left : (ms : List Parts) (tree : Forest) (n : ℕ) (marks : List Mark) (linked : List Parts) (begun : List ℕ) (rest : List Parts)
    → IsLinking ms tree (File n ∷ marks) linked begun rest → 0 < length rest
file-left ms tree n marks linked begun [] is = let files = is.files in absurd cc
file-left ms tree n marks linked begun (m ∷ rest) is = omega arith

-- a group begins
pub linking-opens : (ms : List Parts) (tree : Forest) (marks : List Mark) (linked : List Parts) (begun : List ℕ) (rest : List Parts)
    → IsLinking ms tree (Open ∷ marks) linked begun rest
    → IsLinking ms tree marks linked (begun ++ length linked ∷ []) rest
linking-opens ms tree marks linked begun rest is =
    let same : length linked ≡ length is.parts = placed-length ms linked is.parts is.placed in
    record {
      parts = is.parts;
      done = is.done;
      placed = is.placed;
      standing = ap (λ (k : ℕ). elements_after marks is.parts (begun ++ k ∷ [])) same ∙ is.standing;
      closing = is.closing ∙ ap (λ (k : ℕ). is.done ++ groups_closed marks is.parts (begun ++ k ∷ [])) (sym same);
      linkable = is.linkable;
      number = is.number;
      left = is.left;
      files = is.files;
      light = is.light;
    }

-- a file comes
module _ (ms : List Parts) (tree : Forest) (n : ℕ) (marks : List Mark) (linked : List Parts) (begun : List ℕ) (m : Parts) (more : List Parts)
    (valid : AreValid ms)
    (is : IsLinking ms tree (File n ∷ marks) linked begun (m ∷ more)) where
  its-number : n ≡ is.number
  its-number = let files = is.files in cc

  later-files : files_of marks ≡ numbers_from (suc is.number) (length more)
  later-files = let files = is.files in cc

  its-module : members_at ms (n ∷ []) ≡ m ∷ []
  its-module = ap (λ (k : ℕ). members_at ms (k ∷ [])) its-number ∙ ap (λ (o : Option Parts). member_at o ++ []) (drop-get is.number ms m more is.left)

  its-valid : IsValid m
  its-valid = let all : AreValid (m ∷ more) = subst AreValid (sym is.left) (valid-drop is.number ms valid) in all.0

  file-placed : AreInPlaceOf (m ∷ []) (map (members_at ms) ((n ∷ []) ∷ []))
  file-placed = subst (λ (group : List Parts). AreInPlaceOf (m ∷ []) (group ∷ [])) (sym its-module) (in-place-itself m its-valid, tt)

  pub linking-file : IsLinking ms tree marks (linked ++ m ∷ []) begun more
  linking-file = record {
    parts = is.parts ++ (n ∷ []) ∷ [];
    done = is.done;
    placed = placed-append ms linked (m ∷ []) is.parts ((n ∷ []) ∷ []) is.placed file-placed;
    standing = is.standing;
    closing = is.closing;
    linkable = is.linkable;
    number = suc is.number;
    left = drop-next is.number ms m more is.left;
    files = later-files;
    light = let sum = weight-append linked (m ∷ []) in let rest = weight-append (m ∷ []) more in let light = is.light in omega (arith, sum, rest, light);
  }

-- the modules of an element that takes the place of some
together-at : (ms : List Parts) (parts : List (List ℕ)) → 0 < length parts → map (members_at ms) (together parts) ≡ all_of (map (members_at ms) parts) ∷ []
together-at ms [] some = absurd (omega (arith, some))
together-at ms (part ∷ parts) some = ap (λ (l : List Parts). l ∷ []) (sym (all-at ms (part ∷ parts)))

short-first : (ms : List Parts) → AreValid ms → length (first_name ms) < 2 ^ 16
short-first [] are = omega arith
short-first (m ∷ ms) are = short-name m are.0

-- a link in the place of the elements from a position on
module _ (ms linked : List Parts) (parts : List (List ℕ)) (start : ℕ) (valid : AreValid ms) (placed : AreInPlaceOf linked (map (members_at ms) parts)) where
  own-placed : AreInPlaceOf (drop start linked) (map (members_at ms) (drop start parts))
  own-placed = placed-drop ms start linked parts placed

  pub own-files : all_of (map (members_at ms) (drop start parts)) ≡ members_at ms (files_in (drop start parts))
  own-files = all-at ms (drop start parts)

  own-valid : AreValid (all_of (map (members_at ms) (drop start parts)))
  own-valid = subst AreValid (sym own-files) (valid-members ms (files_in (drop start parts)) valid)

  pub own-answer : link_answer (drop start linked) ≡ link_answer (members_at ms (files_in (drop start parts)))
  own-answer = same-answer (drop start linked) (map (members_at ms) (drop start parts)) own-placed ∙ ap link_answer own-files

  module _ (new : List Parts) (light : total_weight linked ≤ most_weight) (is : IsLinkedFrom start linked new) where
    link-valid : IsValid is.link
    link-valid =
        let are = in-place-valid (drop start linked) (map (members_at ms) (drop start parts)) own-placed in
        let short = short-first (drop start linked) are in
        let split = weight-split start linked in
        (joined_is_valid is.link (drop start linked) (first_name (drop start linked)) is.joined are).valid short (omega (arith, light, short, split))

    pub link-placed : IsInPlaceOf is.link (members_at ms (files_in (drop start parts)))
    link-placed = subst (λ (l : List Parts). IsInPlaceOf is.link l) own-files
        (link-in-place (drop start linked) (map (members_at ms) (drop start parts)) own-placed is.link own-valid is.linkable is.joined link-valid)

    pub link-light : total_weight new ≤ total_weight linked
    link-light =
        let split = weight-split start linked in
        let sum = weight-append (take start linked) (is.link ∷ []) in
        let same : total_weight new ≡ total_weight (take start linked ++ is.link ∷ []) = ap total_weight is.new_list in
        let own = is.light in
        omega (arith, split, sum, same, own)

    pub new-placed : 0 < length (drop start parts) → AreInPlaceOf new (map (members_at ms) (take start parts ++ together (drop start parts)))
    new-placed some =
        let one : AreInPlaceOf (is.link ∷ []) (map (members_at ms) (together (drop start parts)))
        = subst (λ (l : List (List Parts)). AreInPlaceOf (is.link ∷ []) l)
        (sym (together-at ms (drop start parts) some ∙ ap (λ (l : List Parts). l ∷ []) own-files)) (link-placed, tt) in
        subst (λ (l : List Parts). AreInPlaceOf l (map (members_at ms) (take start parts ++ together (drop start parts)))) (sym is.new_list)
        (placed-append ms (take start linked) (is.link ∷ []) (take start parts) (together (drop start parts)) (placed-take ms start linked parts placed) one)

some-left : {A : Type 0} (k : ℕ) (xs : List A) → k < length xs → 0 < length (drop k xs)
some-left zero xs less = less
some-left (suc k) [] less = absurd (omega (arith, less))
some-left (suc k) (x ∷ xs) less = some-left k xs (omega (arith, less))

-- ---- the innermost group closes

module _ (ms : List Parts) (tree : Forest) (marks : List Mark) (linked : List Parts) (begun : List ℕ) (rest : List Parts) (valid : AreValid ms)
    (light : total_weight ms ≤ most_weight)
    (is : IsLinking ms tree (Close ∷ marks) linked begun rest) where
  linked-light : total_weight linked ≤ most_weight
  linked-light = let own = is.light in omega (arith, own, light)

  -- its files and the groups after it
  next-groups : map (members_at ms) (groups tree) ≡ map (members_at ms) is.done
      ++ members_at ms (files_in (drop (last_of begun) is.parts)) ∷ map (members_at ms) (groups_closed marks (closed is.parts begun) (outer begun))
  next-groups = ap (map (members_at ms)) is.closing ∙ map-append (members_at ms) is.done (groups_closed (Close ∷ marks) is.parts begun)

  more-done : groups tree ≡ (is.done ++ files_in (drop (last_of begun) is.parts) ∷ []) ++ groups_closed marks (closed is.parts begun) (outer begun)
  more-done = is.closing ∙ sym (append_assoc is.done (files_in (drop (last_of begun) is.parts) ∷ [])
      (groups_closed marks (closed is.parts begun) (outer begun)))

  -- where a link fact stands against it
  pub linking-refused : (e : LinkRefusal) → IsRefusalOf (drop (last_of begun) linked) e → StopsWork (links (map (members_at ms) (groups tree))) e
  linking-refused e refused = by (refusal-fact (drop (last_of begun) linked) e refused) where
    stop-of : (f : LinkFact) → link_answer (drop (last_of begun) linked) ≡ Some f → links (map (members_at ms) (groups tree)) (stops f)
    stop-of f found =
        let files : List ℕ = files_in (drop (last_of begun) is.parts) in
        let later : List (List Parts) = map (members_at ms) (groups_closed marks (closed is.parts begun) (outer begun)) in
        let own : link_answer (members_at ms files) ≡ Some f = sym (own-answer ms linked is.parts (last_of begun) valid is.placed) ∙ found in
        links-stop (map (members_at ms) (groups tree)) f
        (ap (first_some link_answer) next-groups ∙ first-after (map (members_at ms) is.done) (members_at ms files ∷ later) is.linkable
        ∙ first-found (members_at ms files) later f own)

    by : (e ≡ NoMemory) ⊎ IsFactOf (drop (last_of begun) linked) e → StopsWork (links (map (members_at ms) (groups tree))) e
    by (inl none) = subst (λ (x : LinkRefusal). StopsWork (links (map (members_at ms) (groups tree))) x) (sym none) tt
    by (inr fact) = subst (λ (x : LinkRefusal). StopsWork (links (map (members_at ms) (groups tree))) x) (sym fact.is)
        (stops-work fact.fact (stop-of fact.fact fact.answer)) where
          stops-work : (f : LinkFact) → links (map (members_at ms) (groups tree)) (stops f)
              → StopsWork (links (map (members_at ms) (groups tree))) (link_refusal f)
          stops-work f ends = stops-by (links (map (members_at ms) (groups tree))) f ends

  -- where none does
  goes-on : (new : List Parts) → (parts : List (List ℕ)) → parts ≡ closed is.parts begun → AreInPlaceOf new (map (members_at ms) parts)
      → total_weight new ≤ total_weight linked
      → link_answer (members_at ms (files_in (drop (last_of begun) is.parts))) ≡ None → IsLinking ms tree marks new (outer begun) rest
  goes-on new parts same placed lighter none = record {
    parts = parts;
    done = is.done ++ files_in (drop (last_of begun) is.parts) ∷ [];
    placed = placed;
    standing = ap (λ (p : List (List ℕ)). elements_after marks p (outer begun)) same ∙ is.standing;
    closing = more-done ∙ ap (λ (p : List (List ℕ)). (is.done ++ files_in (drop (last_of begun) is.parts) ∷ [])
        ++ groups_closed marks p (outer begun)) (sym same);
    linkable =
        ap (first_some link_answer) (map-append (members_at ms) is.done (files_in (drop (last_of begun) is.parts) ∷ []))
        ∙ first-after (map (members_at ms) is.done) (members_at ms (files_in (drop (last_of begun) is.parts)) ∷ []) is.linkable
        ∙ first-none (members_at ms (files_in (drop (last_of begun) is.parts))) [] none;
    number = is.number;
    left = is.left;
    files = is.files;
    light = let first = is.light in omega (arith, first, lighter);
  }

  pub linking-closes : (new_begun : List ℕ) (new : List Parts) → IsClosed begun linked new_begun new → IsLinking ms tree marks new new_begun rest
  linking-closes new_begun new is_closed = subst (λ (b : List ℕ). IsLinking ms tree marks new b rest) (sym is_closed.outer)
      (by (cases_order (last_of begun) (length linked))) where
        past : length linked ≤ last_of begun → IsLinking ms tree marks new (outer begun) rest
        past late =
            let size = placed-length ms linked is.parts is.placed in
            let same : new ≡ linked = is_closed.empty late in
            let none : drop (last_of begun) is.parts ≡ [] = drop-all (last_of begun) is.parts (omega (arith, late, size)) in
            let all : take (last_of begun) is.parts ≡ is.parts = take-whole (last_of begun) is.parts (omega (arith, late, size)) in
            let stays : is.parts ≡ closed is.parts begun = sym (append-nil is.parts) ∙ (λ i. sym all i ++ together (sym none i)) in
            goes-on new is.parts stays (subst (λ (l : List Parts). AreInPlaceOf l (map (members_at ms) is.parts)) (sym same) is.placed)
            (let equal : total_weight new ≡ total_weight linked = ap total_weight same in omega (arith, equal))
            (ap (λ (parts : List (List ℕ)). link_answer (members_at ms (files_in parts))) none)

        by : (last_of begun ≡ length linked) ⊎ ((last_of begun < length linked) ⊎ (length linked < last_of begun))
            → IsLinking ms tree marks new (outer begun) rest
        by (inl equal) = past (omega (arith, equal))
        by (inr (inr more)) = past (omega (arith, more))
        by (inr (inl less)) =
            let from = is_closed.some less in
            let size = placed-length ms linked is.parts is.placed in
            let some = some-left (last_of begun) is.parts (omega (arith, less, size)) in
            goes-on new (closed is.parts begun) refl (new-placed ms linked is.parts (last_of begun) valid is.placed new linked-light from some)
            (link-light ms linked is.parts (last_of begun) valid is.placed new linked-light from)
            (sym (own-answer ms linked is.parts (last_of begun) valid is.placed) ∙ from.linkable)

-- ---- the marks end

pub linking-ends : (ms : List Parts) (tree : Forest) (linked : List Parts) (begun : List ℕ) (rest : List Parts) → IsLinking ms tree [] linked begun rest
    → AreInPlaceOf linked (map (members_at ms) (elements tree)) × (total_weight linked ≤ total_weight ms)
    × (first_some link_answer (map (members_at ms) (groups tree)) ≡ None)
linking-ends ms tree linked begun rest is = (
  subst (λ (parts : List (List ℕ)). AreInPlaceOf linked (map (members_at ms) parts)) is.standing is.placed,
  let light = is.light in omega (arith, light),
  ap (λ (lists : List (List ℕ)). first_some link_answer (map (members_at ms) lists)) (is.closing ∙ append-nil is.done) ∙ is.linkable,
)

-- ---- any mark

pub next-root : (ms : List Parts) (tree : Forest) (mark : Mark) (marks : List Mark) (linked : List Parts) (begun : List ℕ) (rest : List Parts)
    → IsLinking ms tree (mark ∷ marks) linked begun rest → HasRoot mark rest
next-root ms tree (File n) marks linked begun rest is = file-left ms tree n marks linked begun rest is
next-root ms tree Open marks linked begun rest is = tt
next-root ms tree Close marks linked begun rest is = tt

pub linking-light : (ms : List Parts) (tree : Forest) (marks : List Mark) (linked : List Parts) (begun : List ℕ) (rest : List Parts)
    → total_weight ms ≤ most_weight → IsLinking ms tree marks linked begun rest
    → total_weight linked ≤ most_weight
linking-light ms tree marks linked begun rest light is = let own = is.light in omega (arith, own, light)

module _ (ms : List Parts) (tree : Forest) (marks : List Mark) (linked : List Parts) (begun : List ℕ) (rest : List Parts) (valid : AreValid ms)
    (light : total_weight ms ≤ most_weight) where
  pub linking-takes : (mark : Mark) → IsLinking ms tree (mark ∷ marks) linked begun rest → (new_begun : List ℕ) (new left : List Parts)
      → IsTaken mark begun linked rest new_begun new left
      → IsLinking ms tree marks new new_begun left
  linking-takes Open is new_begun new left (b, l, r) =
      subst (λ (x : List ℕ). IsLinking ms tree marks new x left) (sym b)
      (subst (λ (x : List Parts). IsLinking ms tree marks x (begun ++ length linked ∷ []) left) (sym l)
      (subst (λ (x : List Parts). IsLinking ms tree marks linked (begun ++ length linked ∷ []) x) (sym r) (linking-opens ms tree marks linked begun rest is)))
  linking-takes (File n) is new_begun new left (m, r, l, b) =
      subst (λ (x : List ℕ). IsLinking ms tree marks new x left) (sym b)
      (subst (λ (x : List Parts). IsLinking ms tree marks x begun left) (sym l)
      (linking-file ms tree n marks linked begun m left valid (subst (λ (x : List Parts). IsLinking ms tree (File n ∷ marks) linked begun x) r is)))
  linking-takes Close is new_begun new left (closes, r) =
      subst (λ (x : List Parts). IsLinking ms tree marks new new_begun x) (sym r)
      (linking-closes ms tree marks linked begun rest valid light is new_begun new closes)

  pub mark-refused : (mark : Mark) → IsLinking ms tree (mark ∷ marks) linked begun rest → (e : LinkRefusal) → IsRefusedMark mark begun linked e
      → StopsWork (links (map (members_at ms) (groups tree))) e
  mark-refused Open is e none = subst (λ (x : LinkRefusal). StopsWork (links (map (members_at ms) (groups tree))) x) (sym none) tt
  mark-refused (File n) is e none = subst (λ (x : LinkRefusal). StopsWork (links (map (members_at ms) (groups tree))) x) (sym none) tt
  mark-refused Close is e refused = linking-refused ms tree marks linked begun rest valid light is e refused

-- ---- the mark at a position

module _ (ms : List Parts) (tree : Forest) (marks : List Mark) (i : ℕ) (d : Mark) (linked : List Parts) (begun : List ℕ) (rest : List Parts)
    (inside : i < length marks)
    (is : IsLinking ms tree (drop i marks) linked begun rest) where
  this-mark : IsLinking ms tree (get_or marks i d ∷ drop (i + 1) marks) linked begun rest
  this-mark = subst (λ (l : List Mark). IsLinking ms tree l linked begun rest) (drop_more marks i d inside) is

  pub root-here : HasRoot (get_or marks i d) rest
  root-here = next-root ms tree (get_or marks i d) (drop (i + 1) marks) linked begun rest this-mark

  module _ (valid : AreValid ms) (light : total_weight ms ≤ most_weight) where
    pub taken-here : (new_begun : List ℕ) (new left : List Parts) → IsTaken (get_or marks i d) begun linked rest new_begun new left
        → IsLinking ms tree (drop (i + 1) marks) new new_begun left
    taken-here new_begun new left takes = linking-takes ms tree (drop (i + 1) marks) linked begun rest valid light (get_or marks i d) this-mark
        new_begun new left takes

    pub refused-here : (e : LinkRefusal) → IsRefusedMark (get_or marks i d) begun linked e → StopsWork (links (map (members_at ms) (groups tree))) e
    refused-here e refused = mark-refused ms tree (drop (i + 1) marks) linked begun rest valid light (get_or marks i d) this-mark e refused
