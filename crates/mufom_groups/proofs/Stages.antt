-- Modules in the place of groups, and the link of these modules.
use Rattle.std.proofs.Common.{◌≡◌, ℕ, List, [], ◌∷◌, ◌++◌, flat_map, length, None, refl, sym, ◌∙◌, ap, subst, append-nil, append_assoc, arith}
use Rattle.mufom_module.specs.declared.module.Parts.{Parts}
use Rattle.mufom_module.specs.Defects.{IsValid}
use Rattle.mufom_meaning.specs.FactLaws.{IsLinkable}
use Rattle.mufom_meaning.specs.Joined.{IsJoined, HasFirstHeader}
use Rattle.mufom_meaning.specs.LinkAnswer.{link_answer}
use Rattle.mufom_meaning.specs.Location.{Header, first_header}
use Rattle.mufom_meaning.specs.Staging.{AreValid, HaveDescriptor, IsStaged, unlinked, linked, NameStays}
use Rattle.mufom_meaning.specs.StagingLaws.{IsLinkOrItself, itself, a_link, MeansTheSame, StandForGroups}
use Rattle.mufom_meaning.proofs.facts.GroupLaws.{groups_answer}
use Rattle.mufom_meaning.proofs.facts.Linkable.{no_link_answer_is_linkable}
use Rattle.mufom_meaning.proofs.staging.Stages.{staged_means_the_same}
use Rattle.mufom_groups.specs.Linked.{first_name}
use Rattle.mufom_groups.specs.Groups.{AreInPlaceOf, IsInPlaceOf, IsOwnLink}

-- the modules of all groups
abbrev pub all_of : List (List Parts) → List Parts
all_of groups = flat_map (λ own. own) groups

-- ---- stages one after another and beside one another

staged-then : (xs ys zs : List Parts) → IsStaged xs ys → IsStaged ys zs → IsStaged xs zs
staged-then _ _ zs (unlinked ys) second = second
staged-then _ _ zs (linked ys before group after M name first valid j stays) second =
    linked zs before group after M name (staged-then (before ++ (group ++ after)) ys zs first second) valid j stays

staged-after : (xs ys zs : List Parts) → IsStaged xs ys → IsStaged (xs ++ zs) (ys ++ zs)
staged-after _ _ zs (unlinked ys) = unlinked (ys ++ zs)
staged-after _ _ zs (linked ys before group after M name first valid j stays) =
    let so_far : IsStaged ((before ++ (group ++ after)) ++ zs) (ys ++ zs) = staged-after (before ++ (group ++ after)) ys zs first in
    let split : (before ++ (group ++ after)) ++ zs ≡ before ++ (group ++ (after ++ zs))
    = append_assoc before (group ++ after) zs ∙ ap (λ (l : List Parts). before ++ l) (append_assoc group after zs) in
    subst (λ (l : List Parts). IsStaged l (ys ++ zs)) (sym (append_assoc before (M ∷ after) zs))
    (linked (ys ++ zs) before group (after ++ zs) M name (subst (λ (l : List Parts). IsStaged l (ys ++ zs)) split so_far) valid j stays)

name-after : (zs before : List Parts) (M : Parts) (group : List Parts) → NameStays before M group → NameStays (zs ++ before) M group
name-after [] before M group stays = stays
name-after (z ∷ zs) before M group stays = tt

staged-before : (zs xs ys : List Parts) → IsStaged xs ys → IsStaged (zs ++ xs) (zs ++ ys)
staged-before zs _ _ (unlinked ys) = unlinked (zs ++ ys)
staged-before zs _ _ (linked ys before group after M name first valid j stays) =
    let so_far : IsStaged (zs ++ (before ++ (group ++ after))) (zs ++ ys) = staged-before zs (before ++ (group ++ after)) ys first in
    subst (λ (l : List Parts). IsStaged l (zs ++ ys)) (append_assoc zs before (M ∷ after))
    (linked (zs ++ ys) (zs ++ before) group after M name (subst (λ (l : List Parts). IsStaged l (zs ++ ys))
    (sym (append_assoc zs before (group ++ after))) so_far) valid j
    (name-after zs before M group stays))

staged-beside : (vs ws xs ys : List Parts) → IsStaged vs ws → IsStaged xs ys → IsStaged (vs ++ xs) (ws ++ ys)
staged-beside vs ws xs ys first second = staged-then (vs ++ xs) (ws ++ xs) (ws ++ ys) (staged-after vs ws xs first) (staged-before ws xs ys second)

-- ---- modules in the place of groups

name-stays : (M : Parts) (group : List Parts) → HasFirstHeader M group → M.name ≡ first_name group → NameStays [] M group
name-stays M [] header name = absurd header
name-stays M (m ∷ ms) header name = name

one-staged : (M : Parts) (group : List Parts) → IsLinkOrItself M group → M.name ≡ first_name group → IsValid M → IsStaged (M ∷ []) group
one-staged _ _ (itself m) name valid = unlinked (m ∷ [])
one-staged _ _ (a_link M group outer j none) name valid =
    linked group [] group [] M outer (subst (λ (l : List Parts). IsStaged l group) (sym (append-nil group)) (unlinked group)) valid j
    (name-stays M group j.header name)

pub all-staged : (Ms : List Parts) (groups : List (List Parts)) → AreInPlaceOf Ms groups → IsStaged Ms (all_of groups)
all-staged [] [] are = unlinked []
all-staged (M ∷ Ms) (group ∷ groups) are = staged-beside (M ∷ []) group Ms (all_of groups) (one-staged M group are.0.link are.0.name are.0.valid)
    (all-staged Ms groups are.1)
all-staged [] (group ∷ groups) are = absurd are
all-staged (M ∷ Ms) [] are = absurd are

stand-for : (Ms : List Parts) (groups : List (List Parts)) → AreInPlaceOf Ms groups → StandForGroups Ms groups
stand-for [] [] are = tt
stand-for (M ∷ Ms) (group ∷ groups) are = (are.0.link, stand-for Ms groups are.1)
stand-for [] (group ∷ groups) are = absurd are
stand-for (M ∷ Ms) [] are = absurd are

pub in-place-valid : (Ms : List Parts) (groups : List (List Parts)) → AreInPlaceOf Ms groups → AreValid Ms
in-place-valid [] [] are = tt
in-place-valid (M ∷ Ms) (group ∷ groups) are = (are.0.valid, in-place-valid Ms groups are.1)
in-place-valid [] (group ∷ groups) are = absurd are
in-place-valid (M ∷ Ms) [] are = absurd are

pub in-place-length : (Ms : List Parts) (groups : List (List Parts)) → AreInPlaceOf Ms groups → length Ms ≡ length groups
in-place-length [] [] are = refl
in-place-length (M ∷ Ms) (group ∷ groups) are = let more = in-place-length Ms groups are.1 in omega (arith, more)
in-place-length [] (group ∷ groups) are = absurd are
in-place-length (M ∷ Ms) [] are = absurd are

pub in-place-append : (Ms Ns : List Parts) (groups others : List (List Parts)) → AreInPlaceOf Ms groups → AreInPlaceOf Ns others
    → AreInPlaceOf (Ms ++ Ns) (groups ++ others)
in-place-append [] Ns [] others are also = also
in-place-append (M ∷ Ms) Ns (group ∷ groups) others are also = (are.0, in-place-append Ms Ns groups others are.1 also)
in-place-append [] Ns (group ∷ groups) others are also = absurd are
in-place-append (M ∷ Ms) Ns [] others are also = absurd are

-- a module in its own place
pub in-place-itself : (m : Parts) → IsValid m → IsInPlaceOf m (m ∷ [])
in-place-itself m valid = record { link = itself m; name = refl; valid = valid }

-- each module of a list in its own place
abbrev pub each-alone : List Parts → List (List Parts)
each-alone [] = []
each-alone (m ∷ ms) = (m ∷ []) ∷ each-alone ms

pub alone-in-place : (ms : List Parts) → AreValid ms → AreInPlaceOf ms (each-alone ms)
alone-in-place [] are = tt
alone-in-place (m ∷ ms) are = (in-place-itself m are.0, alone-in-place ms are.1)

pub all-alone : (ms : List Parts) → all_of (each-alone ms) ≡ ms
all-alone [] = refl
all-alone (m ∷ ms) = ap (λ (l : List Parts). m ∷ l) (all-alone ms)

-- ---- their link

-- some module has the descriptor of a list that can be linked
record SomeDescriptor (leaves : List Parts) : Type 0 where
  own : Parts
  has : HaveDescriptor own leaves

descriptor-of : (M : Parts) (leaves : List Parts) → IsLinkable leaves → SomeDescriptor leaves
descriptor-of M [] is = record { own = M; has = tt }
descriptor-of M (m ∷ ms) is = record { own = m; has = is.descriptor }

same-first-name : (ms leaves : List Parts) → first_header ms ≡ first_header leaves → first_name ms ≡ first_name leaves
same-first-name [] [] same = refl
same-first-name [] (n ∷ leaves) same = absurd cc
same-first-name (m ∷ ms) [] same = absurd cc
same-first-name (m ∷ ms) (n ∷ leaves) same = let own : (m.processor, m.name, m.maus, m.order) ≡ (n.processor, n.name, n.maus, n.order) = cc in
    ap (λ (h : Header). h.1) own

module _ (Ms : List Parts) (groups : List (List Parts)) (are : AreInPlaceOf Ms groups) where
  -- what is answered in place of their link is what is answered for all of the groups
  pub same-answer : link_answer Ms ≡ link_answer (all_of groups)
  same-answer = (groups_answer groups).same_answer Ms (stand-for Ms groups are)

  module _ (M : Parts) (valid : AreValid (all_of groups)) (none : link_answer Ms ≡ None) where
    pub none-of-all : link_answer (all_of groups) ≡ None
    none-of-all = sym same-answer ∙ none

    pub means-all : MeansTheSame Ms (all_of groups)
    means-all =
        let linkable = (no_link_answer_is_linkable (all_of groups)).0 none-of-all in
        let d = descriptor-of M (all_of groups) linkable in
        staged_means_the_same d.own Ms (all_of groups) (all-staged Ms groups are) valid d.has linkable.names

    pub first-of-all : first_name Ms ≡ first_name (all_of groups)
    first-of-all = same-first-name Ms (all_of groups) means-all.same_first

    pub joined-of-all : (name : List ℕ) → IsJoined M Ms name → IsJoined M (all_of groups) name
    joined-of-all name j = (means-all.same_joined M name).0 j

    -- the link stands in the place of all of the groups together
    pub link-in-place : IsJoined M Ms (first_name Ms) → IsValid M → IsInPlaceOf M (all_of groups)
    link-in-place j is_valid = record {
      link = a_link M (all_of groups) (first_name Ms) (joined-of-all (first_name Ms) j) none-of-all;
      name = j.named ∙ first-of-all;
      valid = is_valid;
    }

-- a link is its own link
pub link-alone : (M : Parts) (ms : List Parts) → AreValid ms → IsValid M → link_answer ms ≡ None → IsJoined M ms (first_name ms) → IsOwnLink M
link-alone M ms valid is_valid none j =
    let placed : AreInPlaceOf (M ∷ []) (ms ∷ []) = (record { link = a_link M ms (first_name ms) j none; name = j.named; valid = is_valid }, tt) in
    let alone : link_answer (M ∷ []) ≡ None = same-answer (M ∷ []) (ms ∷ []) placed ∙ ap link_answer (append-nil ms) ∙ none in
    let means = means-all (M ∷ []) (ms ∷ []) placed M (subst AreValid (sym (append-nil ms)) valid) alone in
    let joined : IsJoined M (M ∷ []) (first_name ms)
    = (means.same_joined M (first_name ms)).1 (subst (λ (l : List Parts). IsJoined M l (first_name ms)) (sym (append-nil ms)) j) in record {
      joined = subst (λ (n : List ℕ). IsJoined M (M ∷ []) n) (sym j.named) joined;
      linkable = alone;
    }
