-- Links of generated modules, and what the link of all of them means.
use Rattle.std.proofs.Common.{◌≡◌, ℕ, zero, suc, ◌+◌, ◌-◌, ◌*◌, ◌<◌, ◌≤◌, ◌++◌, ◌∷◌, [], List, length, None, true, sym, ◌∙◌, ap, subst, Result, Ok}
use Rattle.std.proofs.Common.{Err, IfOk, arith, append_assoc, append-nil, length-append}
use Rattle.std.proofs.lemmas.List.Sums.{sum_by-append, sum_by-cons}
use Rattle.mufom_names.specs.Names.{names_of, AreDistinct}
use Rattle.mufom_module.specs.declared.module.Parts.{Parts}
use Rattle.mufom_module.specs.Defects.{IsValid}
use Rattle.mufom_module.specs.Written.{weight}
use Rattle.mufom_meaning.specs.Joined.{IsJoined}
use Rattle.mufom_meaning.specs.LinkAnswer.{link_answer}
use Rattle.mufom_meaning.specs.Location.{Header, first_header}
use Rattle.mufom_meaning.specs.Staging.{IsStaged, NameStays, unlinked, linked}
use Rattle.mufom_meaning.specs.StagingLaws.{MeansTheSame, total_weight}
use Rattle.mufom_meaning.proofs.staging.JoinedValid.{joined_is_valid}
use Rattle.mufom_meaning.proofs.staging.Stages.{staged_means_the_same}
use Rattle.mufom_meaning.proofs.staging.Staging.{joined_stands_for}
use Rattle.mufom_make.specs.Generated.{made_modules, module_at, modules_from}
use Rattle.mufom_make.specs.Links.{IsLinkOf, most_weight}
use Rattle.mufom_make.proofs.ModuleLaws.{short-m}
use Rattle.mufom_make.proofs.ListLaws.{all-light, all-valid, distinct-names, length-modules_from, linkable, modules_from-append, one-descriptor}

-- the name of a link is that of its first module, which is short
short-link : (count more n : ℕ) (M : Parts) → n + more ≤ 65536 → NameStays [] M (modules_from count more n) → length M.name ≤ 6
short-link count zero n M few named = absurd named
short-link count (suc more) n M few named = let short = short-m n (omega (arith, few)) in let same = ap (λ (name : List ℕ). length name) named in
    omega (arith, short, same)

pub link-valid : (count more n : ℕ) (M : Parts) → n + more ≤ 65536 → IsLinkOf M (modules_from count more n) → IsValid M
link-valid count more n M few link =
    let ms = modules_from count more n in
    let short = short-link count more n M few link.named in
    let light = all-light count more n few in
    (joined_is_valid M ms M.name link.joined (all-valid count more n few)).valid (omega (arith, short)) (omega (arith, short, light, few))

-- ---- stages

stays : (before : List Parts) (M : Parts) (ms : List Parts) → NameStays [] M ms → NameStays before M ms
stays [] M ms named = named
stays (m ∷ before) M ms named = tt

-- one more group is linked
pub one-more : (count more n : ℕ) (before after : List Parts) (M : Parts) (leaves : List Parts) → n + more ≤ 65536 → IsLinkOf M (modules_from count more n)
    → IsStaged (before ++ (modules_from count more n ++ after)) leaves → IsStaged ((before ++ M ∷ []) ++ after) leaves
one-more count more n before after M leaves few link so_far =
    subst (λ (ms : List Parts). IsStaged ms leaves) (sym (append_assoc before (M ∷ []) after))
    (linked leaves before (modules_from count more n) after M M.name so_far (link-valid count more n M few link) link.joined
    (stays before M (modules_from count more n) link.named))

-- the links of the modules up to `first`, and one more link up to `end`
pub one-pair : (count first end : ℕ) (pairs more : List Parts) (M : Parts) → first < end → end ≤ count → count ≤ 65536 → more ≡ pairs ++ M ∷ []
    → IsLinkOf M (modules_from count (end - first) first) → IsStaged (pairs ++ modules_from count (count - first) first) (made_modules count)
    → IsStaged (more ++ modules_from count (count - end) end) (made_modules count)
one-pair count first end pairs more M less within few same link staged =
    let own = end - first in
    let rest = count - end in
    let both : count - first ≡ own + rest = omega (arith, less, within) in
    let next : first + own ≡ end = omega (arith, less) in
    let split : modules_from count (count - first) first ≡ modules_from count own first ++ modules_from count rest end =
    ap (λ (k : ℕ). modules_from count k first) both ∙ modules_from-append count own rest first
    ∙ ap (λ (n : ℕ). modules_from count own first ++ modules_from count rest n) next in
    let so_far : IsStaged (pairs ++ (modules_from count own first ++ modules_from count rest end)) (made_modules count) =
    subst (λ (ms : List Parts). IsStaged (pairs ++ ms) (made_modules count)) split staged in
    subst (λ (ms : List Parts). IsStaged (ms ++ modules_from count rest end) (made_modules count)) (sym same)
    (one-more count own first pairs (modules_from count rest end) M (made_modules count) (omega (arith, next, within, few)) link so_far)

pub pair-light : (count first end : ℕ) (pairs more : List Parts) (M : Parts) → first < end → more ≡ pairs ++ M ∷ []
    → IsLinkOf M (modules_from count (end - first) first)
    → total_weight pairs ≤ most_weight * first → total_weight more ≤ most_weight * end
pair-light count first end pairs more M less same link light =
    let own = link.light in
    let long = ap (λ (k : ℕ). most_weight * k) (length-modules_from count (end - first) first) in
    let whole = ap total_weight same ∙ sum_by-append weight pairs (M ∷ []) ∙ ap (λ (k : ℕ). total_weight pairs + k) (sum_by-cons weight M []) in
    omega (arith, less, own, long, whole, light)

pub pair-some : (pairs more : List Parts) (M : Parts) → more ≡ pairs ++ M ∷ [] → 0 < length more
pair-some pairs more M same = let long = ap length same ∙ length-append pairs (M ∷ []) in omega (arith, long)

-- the link of a list that is these modules
pub link-found : {E : Type 0} (r : Result Parts E) (count more n : ℕ) (list : List Parts) → n + more ≤ 65536 → list ≡ modules_from count more n
    → IfOk r (λ M. IsJoined M list M.name) → IfOk r (λ M. NameStays [] M list) → IfOk r (λ M. weight M ≤ total_weight list)
    → IfOk r (λ M. IsLinkOf M (modules_from count more n))
link-found (Err e) count more n list few same joined named own = tt
link-found (Ok M) count more n list few same joined named own =
    let all = all-light count more n few in
    let weighs = ap total_weight same in
    let long = ap (λ (k : ℕ). most_weight * k) (length-modules_from count more n) in
    record {
      joined = subst (λ (ms : List Parts). IsJoined M ms M.name) same joined;
      named = subst (λ (ms : List Parts). NameStays [] M ms) same named;
      light = omega (arith, own, all, weighs, long);
    }

-- what replaces the generated modules in stages means what they mean
pub staged-means : (count : ℕ) (ms : List Parts) → count ≤ 65536 → IsStaged ms (made_modules count) → MeansTheSame ms (made_modules count)
staged-means count ms few staged =
    staged_means_the_same (module_at true 0) ms (made_modules count) staged (all-valid count count 0 (omega (arith, few)))
    (one-descriptor true 0 count count 0) (distinct-names count count 0 (omega (arith, few)))

pub staged-linkable : (count : ℕ) (ms : List Parts) → count ≤ 65536 → IsStaged ms (made_modules count) → link_answer ms ≡ None
staged-linkable count ms few staged = (staged-means count ms few staged).same_link ∙ linkable count count 0 (omega (arith, few))

-- ---- the link of all

same-name : (M : Parts) (ms leaves : List Parts) → first_header ms ≡ first_header leaves → NameStays [] M ms → NameStays [] M leaves
same-name M [] leaves same named = absurd named
same-name M (m ∷ ms) [] same named = absurd cc
same-name M (m ∷ ms) (n ∷ leaves) same named =
    let own : (m.processor, m.name, m.maus, m.order) ≡ (n.processor, n.name, n.maus, n.order) = cc in named ∙ ap (λ (h : Header). h.1) own

-- the link of all stages is that of the generated modules
pub link-of-all : (count : ℕ) (ms : List Parts) (M : Parts) → count ≤ 65536 → IsStaged ms (made_modules count) → IsJoined M ms M.name → NameStays [] M ms
    → weight M ≤ total_weight ms → total_weight ms ≤ most_weight * count → IsLinkOf M (made_modules count)
link-of-all count ms M few staged joined named own all =
    let means = staged-means count ms few staged in
    let long = length-modules_from count count 0 in
    let most = ap (λ (k : ℕ). most_weight * k) long in
    record {
      joined = (means.same_joined M M.name).0 joined;
      named = same-name M ms (made_modules count) means.same_first named;
      light = omega (arith, own, all, most);
    }

pub all-found : {E : Type 0} (r : Result Parts E) (count : ℕ) (pairs : List Parts) → count ≤ 65536 → IsStaged pairs (made_modules count)
    → total_weight pairs ≤ most_weight * count
    → IfOk r (λ M. IsJoined M pairs M.name) → IfOk r (λ M. NameStays [] M pairs) → IfOk r (λ M. weight M ≤ total_weight pairs)
    → IfOk r (λ M. IsLinkOf M (made_modules count))
all-found (Err e) count pairs few staged light joined named own = tt
all-found (Ok M) count pairs few staged light joined named own = link-of-all count pairs M few staged joined named own light

-- the link alone means what the generated modules mean
pub link-means : (count : ℕ) (M : Parts) → count ≤ 65536 → IsLinkOf M (made_modules count) → MeansTheSame (M ∷ []) (made_modules count)
link-means count M few link =
    let whole : IsStaged ([] ++ (made_modules count ++ [])) (made_modules count) =
    subst (λ (ms : List Parts). IsStaged ms (made_modules count)) (sym (append-nil (made_modules count))) (unlinked (made_modules count)) in
    staged-means count (M ∷ []) few (one-more count count 0 [] [] M (made_modules count) (omega (arith, few)) link whole)

pub link-distinct : (count : ℕ) (M : Parts) → count ≤ 65536 → IsLinkOf M (made_modules count) → AreDistinct (names_of M.names.publics)
link-distinct count M few link =
    let stands = joined_stands_for M (made_modules count) M.name link.joined (all-valid count count 0 (omega (arith, few))) in
    subst AreDistinct (sym stands.2 ∙ append-nil (names_of M.names.publics)) (distinct-names count count 0 (omega (arith, few)))
