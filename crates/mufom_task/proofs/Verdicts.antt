-- Files come to one verdict, since each of them has one judgment.
use Rattle.std.proofs.Common.{◌≡◌, ℕ, ◌+◌, ◌-◌, ◌<◌, ◌≤◌, Bool, nat_lt, List, [], ◌∷◌, ◌++◌, length, map, sum_by, Some, refl, sym, ap, subst, ◌∙◌}
use Rattle.std.proofs.Common.{inl, inr, arith}
use Rattle.std.proofs.lemmas.Bool.{cases_order}
use Rattle.std.proofs.lemmas.List.Sums.{sum_by-append, sum_by-cons}
use Rattle.mufom_records.specs.declared.options.ReadOptions.{ReadOptions}
use Rattle.mufom_host.specs.World.{HoldBytes, NamedFile, file_named}
use Rattle.mufom_module.specs.declared.module.Parts.{Parts}
use Rattle.mufom_read.specs.declared.refusal.ReadRefusal.{ReadRefusal}
use Rattle.mufom_judging.specs.Laws.{HasOneJudgment}
use Rattle.mufom_task.specs.Inputs.{AreAccepted, AreModules, ComeTo, HasFileModules, HaveBytes, HaveOneVerdict, IsFilePast, IsFileRefused}
use Rattle.mufom_task.specs.Inputs.{StopsAt, Verdict}
use Rattle.mufom_task.specs.Inputs.{accepted, past_limit, refused, room_after}
use Rattle.mufom_task.proofs.FileLaws.{one_refused, past_not_accepted, refused_not_accepted, refused_not_past, same_modules_of}
use Rattle.mufom_task.proofs.InputLaws.{lt-next}

-- ---- lists with a name in two places

-- the name in the earlier place stands before the later one
split_before : {A : Type 0} (before later after rest : List A) (x y : A) → before ++ x ∷ after ≡ later ++ y ∷ rest → length before < length later
    → (between : List A) × (later ≡ before ++ x ∷ between)
split_before [] [] after rest x y same less = absurd (omega (arith, less))
split_before [] (z ∷ later) after rest x y same less = (later, cc)
split_before (w ∷ before) [] after rest x y same less = absurd (omega (arith, less))
split_before (w ∷ before) (z ∷ later) after rest x y same less =
    let head : z ≡ w = cc in
    let tail : before ++ x ∷ after ≡ later ++ y ∷ rest = cc in
    let more = split_before before later after rest x y tail (omega (arith, less)) in
    (more.0, λ i. head i ∷ more.1 i)

split_same : {A : Type 0} (before other after rest : List A) (x y : A) → before ++ x ∷ after ≡ other ++ y ∷ rest → length before ≡ length other
    → (before ≡ other) × (x ≡ y)
split_same [] [] after rest x y same equal = (refl, cc)
split_same [] (z ∷ other) after rest x y same equal = absurd (omega (arith, equal))
split_same (w ∷ before) [] after rest x y same equal = absurd (omega (arith, equal))
split_same (w ∷ before) (z ∷ other) after rest x y same equal =
    let head : w ≡ z = cc in
    let tail : before ++ x ∷ after ≡ other ++ y ∷ rest = cc in
    let more = split_same before other after rest x y tail (omega (arith, equal)) in
    ((λ i. head i ∷ more.0 i), more.1)

-- ---- what files have

same_bytes : (a b : List (List ℕ)) → map (λ bytes. Some bytes) a ≡ map (λ bytes. Some bytes) b → a ≡ b
same_bytes [] [] same = refl
same_bytes [] (y ∷ b) same = absurd cc
same_bytes (x ∷ a) [] same = absurd cc
same_bytes (x ∷ a) (y ∷ b) same =
    let head : x ≡ y = cc in
    let tail : map (λ bytes. Some bytes) a ≡ map (λ bytes. Some bytes) b = cc in
    let more = same_bytes a b tail in (λ i. head i ∷ more i)

-- an accepted file within a list of them, and those before it
record Cut (options : ReadOptions) (roots : ℕ) (files : List NamedFile) (before contents : List (List ℕ)) (name : List ℕ) : Type 0 where
  prefix : List (List ℕ)
  bytes : List ℕ
  back : List (List ℕ)
  own : List Parts
  whole : contents ≡ prefix ++ bytes ∷ back
  prefix_bytes : HaveBytes files before prefix
  there : file_named name files ≡ Some bytes
  is : HasFileModules options (nat_lt (length before) roots) bytes own

cut : (options : ReadOptions) (roots : ℕ) (files : List NamedFile) (before after contents : List (List ℕ)) (name : List ℕ) (ms : List Parts)
    → HaveBytes files (before ++ name ∷ after) contents → AreModules options roots contents ms → Cut options roots files before contents name
cut options roots files before after [] name ms have are = absurd (none before have) where
  none : (before : List (List ℕ)) → HaveBytes files (before ++ name ∷ after) [] → ⊥
  none [] have = cc
  none (x ∷ before) have = cc
cut options roots files [] after (bytes ∷ contents) name ms have (own, later, same, is, rest) = record {
  prefix = [];
  bytes = bytes;
  back = contents;
  own = own;
  whole = refl;
  prefix_bytes = refl;
  there = cc;
  is = is;
}
cut options roots files (x ∷ before) after (bytes ∷ contents) name ms have (mine, later, same, is, rest) =
    let head : file_named x files ≡ Some bytes = cc in
    let tail : HaveBytes files (before ++ name ∷ after) contents = cc in
    let more = cut options (roots - 1) files before after contents name later tail rest in
    record {
      prefix = bytes ∷ more.prefix;
      bytes = more.bytes;
      back = more.back;
      own = more.own;
      whole = ap (λ (rest : List (List ℕ)). bytes ∷ rest) more.whole;
      prefix_bytes = (λ i. head i ∷ more.prefix_bytes i);
      there = more.there;
      is = subst (λ (b : Bool). HasFileModules options b more.bytes more.own) (sym (lt-next (length before) roots)) more.is;
    }

-- ---- one judgment of each file

same_modules : (options : ReadOptions) (judged : HasOneJudgment) (files : List NamedFile) (bytes_there : HoldBytes files) (roots : ℕ)
    (names contents : List (List ℕ)) (ms ns : List Parts) → HaveBytes files names contents → AreModules options roots contents ms
    → AreModules options roots contents ns → ms ≡ ns
same_modules options judged files bytes_there roots names [] ms ns have are again = are ∙ sym again
same_modules options judged files bytes_there roots [] (bytes ∷ contents) ms ns have are again = absurd cc
same_modules options judged files bytes_there roots (name ∷ names) (bytes ∷ contents) ms ns have (own, later, same, is, rest)
    (mine, others, equal, has, more) =
    let head : file_named name files ≡ Some bytes = cc in
    let tail : HaveBytes files names contents = cc in
    let first : own ≡ mine = same_modules_of options judged bytes (bytes_there name bytes head) (nat_lt 0 roots) own mine is has in
    let after : later ≡ others = same_modules options judged files bytes_there (roots - 1) names contents later others tail rest more in
    same ∙ (λ i. first i ++ after i) ∙ sym equal

module _ (options : ReadOptions) (judged : HasOneJudgment) (roots : ℕ) (files : List NamedFile) (bytes_there : HoldBytes files) where
  -- a stop of the file with this number that has no modules within its limit
  IsStop : ℕ → (ℕ → List ℕ → Type 0) → Type 0
  IsStop number P = (limit : ℕ) (name bytes : List ℕ) (own : List Parts) → file_named name files ≡ Some bytes
      → HasFileModules options (nat_lt number roots) bytes own → length bytes ≤ limit → P limit bytes → ⊥

  abbrev refusal_of : ℕ → ReadRefusal → ℕ → List ℕ → Type 0
  refusal_of number r limit bytes = IsFileRefused options (nat_lt number roots) limit bytes r

  abbrev past_of : ℕ → ℕ → List ℕ → Type 0
  past_of number limit bytes = IsFilePast options (nat_lt number roots) limit bytes

  refusal_stops : (number : ℕ) (r : ReadRefusal) → IsStop number (refusal_of number r)
  unfolding IsStop
  refusal_stops number r limit name bytes own there is fits stops =
      refused_not_accepted options judged bytes (bytes_there name bytes there) (nat_lt number roots) limit own r is fits stops

  limit_stops : (number : ℕ) → IsStop number (past_of number)
  unfolding IsStop
  limit_stops number limit name bytes own there is fits stops =
      past_not_accepted options judged bytes (bytes_there name bytes there) (nat_lt number roots) limit own is fits stops

  -- a file before others that are accepted does not stop the run
  never_inside : (number : ℕ) (P : ℕ → List ℕ → Type 0) → IsStop number P → (names contents : List (List ℕ)) (ms : List Parts)
      (s : StopsAt options roots files names number P) (more : List (List ℕ))
      → AreAccepted options roots files (s.before ++ s.name ∷ more) contents ms → ⊥
  unfolding IsStop
  never_inside number P is_stop names contents ms s more them =
      let c = cut options roots files s.before more contents s.name ms them.bytes them.modules in
      let same_prefix : c.prefix ≡ s.contents = same_bytes c.prefix s.contents (sym c.prefix_bytes ∙ s.accepted.bytes) in
      let same_own : s.bytes ≡ c.bytes = let both : Some s.bytes ≡ Some c.bytes = sym s.there ∙ c.there in cc in
      let sum = sum_by-append length c.prefix (c.bytes ∷ c.back) in
      let first = sum_by-cons length c.bytes c.back in
      let all = ap (λ (l : List (List ℕ)). sum_by length l) c.whole in
      let within = them.within in
      let fits : length c.bytes ≤ room_after c.prefix = omega (arith, sum, first, all, within) in
      is_stop (room_after c.prefix) s.name c.bytes c.own c.there
      (subst (λ (n : ℕ). HasFileModules options (nat_lt n roots) c.bytes c.own) s.place c.is) fits
      (subst (λ (l : List ℕ). P (room_after c.prefix) l) same_own (subst (λ (l : List (List ℕ)). P (room_after l) s.bytes) (sym same_prefix) s.stops))

  never_all : (number : ℕ) (P : ℕ → List ℕ → Type 0) → IsStop number P → (names contents : List (List ℕ)) (ms : List Parts)
      → AreAccepted options roots files names contents ms → StopsAt options roots files names number P → ⊥
  never_all number P is_stop names contents ms them s = never_inside number P is_stop names contents ms s s.after
      (subst (λ (l : List (List ℕ)). AreAccepted options roots files l contents ms) s.split them)

  never_earlier : (i j : ℕ) (P Q : ℕ → List ℕ → Type 0) → IsStop i P → (names : List (List ℕ)) → StopsAt options roots files names i P
      → StopsAt options roots files names j Q → i < j → ⊥
  never_earlier i j P Q is_stop names s t less =
      let first = s.place in let second = t.place in
      let split = split_before s.before t.before s.after t.after s.name t.name (sym s.split ∙ t.split) (omega (arith, first, second, less)) in
      never_inside i P is_stop names t.contents t.modules s split.0
      (subst (λ (l : List (List ℕ)). AreAccepted options roots files l t.contents t.modules) split.1 t.accepted)

  -- two stops at one number are of one file, with one limit
  same_place : (P Q : ℕ → List ℕ → Type 0) (names : List (List ℕ)) (i j : ℕ) (s : StopsAt options roots files names i P)
      (t : StopsAt options roots files names j Q) → i ≡ j
      → (limit : ℕ) × (name : List ℕ) × (bytes : List ℕ) × (file_named name files ≡ Some bytes) × P limit bytes × Q limit bytes
  same_place P Q names i j s t is =
      let first = s.place in let second = t.place in
      let split = split_same s.before t.before s.after t.after s.name t.name (sym s.split ∙ t.split) (first ∙ is ∙ sym second) in
      let before = same_bytes s.contents t.contents (sym s.accepted.bytes ∙ ap (λ (l : List (List ℕ)). map (λ name. file_named name files) l) split.0
      ∙ t.accepted.bytes) in
      let own : s.bytes ≡ t.bytes = let both : Some s.bytes ≡ Some t.bytes = sym s.there ∙ ap (λ (name : List ℕ). file_named name files) split.1
      ∙ t.there in cc in (
        room_after s.contents,
        s.name,
        s.bytes,
        s.there,
        s.stops,
        subst (λ (l : List (List ℕ)). Q (room_after l) s.bytes) (sym before) (subst (λ (l : List ℕ). Q (room_after t.contents) l) (sym own) t.stops),
      )

  one_number : (i j : ℕ) (P Q : ℕ → List ℕ → Type 0) → IsStop i P → IsStop j Q → (names : List (List ℕ)) → StopsAt options roots files names i P
      → StopsAt options roots files names j Q → i ≡ j
  one_number i j P Q p_stops q_stops names s t = elim (cases_order i j) [
    | inl same ↦ same
    | inr (inl less) ↦ absurd (never_earlier i j P Q p_stops names s t less)
    | inr (inr less) ↦ absurd (never_earlier j i Q P q_stops names t s less)
  ]

  -- two refusals at one number are one
  one_refusal : (names : List (List ℕ)) (i j : ℕ) (r q : ReadRefusal) → i ≡ j → StopsAt options roots files names i (refusal_of i r)
      → StopsAt options roots files names j (refusal_of j q) → r ≡ q
  one_refusal names i j r q is s t =
      let there = same_place (refusal_of i r) (refusal_of j q) names i j s t is in
      one_refused options judged there.2 (bytes_there there.1 there.2 there.3) (nat_lt i roots) there.0 r q there.4
      (subst (λ (n : ℕ). refusal_of n q there.0 there.2) (sym is) there.5)

  -- a file that is refused within its limit is not past it
  never_both : (names : List (List ℕ)) (i j : ℕ) (r : ReadRefusal) → i ≡ j → StopsAt options roots files names i (refusal_of i r)
      → StopsAt options roots files names j (past_of j) → ⊥
  never_both names i j r is s t =
      let there = same_place (refusal_of i r) (past_of j) names i j s t is in
      refused_not_past options judged there.2 (bytes_there there.1 there.2 there.3) (nat_lt i roots) there.0 r there.4
      (subst (λ (n : ℕ). past_of n there.0 there.2) (sym is) there.5)

  all_same : (names : List (List ℕ)) (ms ns : List Parts) → ComeTo options roots files names (accepted ms)
      → ComeTo options roots files names (accepted ns) → ms ≡ ns
  all_same names ms ns (contents, them) (others, again) =
      let same = same_bytes contents others (sym them.bytes ∙ again.bytes) in
      same_modules options judged files bytes_there roots names contents ms ns them.bytes them.modules
      (subst (λ (l : List (List ℕ)). AreModules options roots l ns) (sym same) again.modules)

  verdicts : (names : List (List ℕ)) (a b : Verdict) → ComeTo options roots files names a → ComeTo options roots files names b → a ≡ b
  verdicts names (accepted ms) (accepted ns) s t = ap (λ (l : List Parts). accepted l) (all_same names ms ns s t)
  verdicts names (accepted ms) (refused j q) s t = absurd (never_all j (refusal_of j q) (refusal_stops j q) names s.0 ms s.1 t)
  verdicts names (accepted ms) (past_limit j) s t = absurd (never_all j (past_of j) (limit_stops j) names s.0 ms s.1 t)
  verdicts names (refused i r) (accepted ns) s t = absurd (never_all i (refusal_of i r) (refusal_stops i r) names t.0 ns t.1 s)
  verdicts names (past_limit i) (accepted ns) s t = absurd (never_all i (past_of i) (limit_stops i) names t.0 ns t.1 s)
  verdicts names (refused i r) (refused j q) s t =
      let number = one_number i j (refusal_of i r) (refusal_of j q) (refusal_stops i r) (refusal_stops j q) names s t in
      let own = one_refusal names i j r q number s t in (λ k. refused (number k) (own k))
  verdicts names (refused i r) (past_limit j) s t =
      absurd (never_both names i j r (one_number i j (refusal_of i r) (past_of j) (refusal_stops i r) (limit_stops j) names s t) s t)
  verdicts names (past_limit i) (refused j q) s t =
      absurd (never_both names j i q (one_number j i (refusal_of j q) (past_of i) (refusal_stops j q) (limit_stops i) names t s) t s)
  verdicts names (past_limit i) (past_limit j) s t =
      ap (λ (n : ℕ). past_limit n) (one_number i j (past_of i) (past_of j) (limit_stops i) (limit_stops j) names s t)

pub one_verdict : HasOneJudgment → HaveOneVerdict
one_verdict judged options roots files names a b bytes_there s t = verdicts options judged roots files bytes_there names a b s t
