-- Mentions that are added name by name: what is told of all names after some entries of a module, and after the module.
use Rattle.std.proofs.Common.{◌≡◌, ℕ, zero, suc, ◌+◌, ◌-◌, ◌<◌, List, [], ◌∷◌, ◌++◌, length, map, Some, Bool, true, false, cond, ◌||◌, ◌&&◌}
use Rattle.std.proofs.Common.{refl, sym, ap, ◌∙◌, append-nil, append_assoc, length-append, arith, rules}
use Rattle.std.specs.Prelude.{◌==◌, slice_get, if◌then◌else◌}
use Rattle.std.specs.List.{AllByRecursion}
use Rattle.std.specs.Str.{bytes_eq}
use Rattle.mufom_module.specs.declared.module.Parts.{Parts}
use Rattle.mufom_numbers.proofs.Choices.{equal_numbers}
use Rattle.mufom_explain.specs.declared.mention.Mention.{Mention}
use Rattle.mufom_explain.specs.declared.mention.MentionKind.{MentionKind}
use Rattle.mufom_explain.specs.declared.mention.MentionKind.TheVariants as kinds
use Rattle.mufom_explain.specs.Mentions.{defines_among, mention, mention_if, mentions_by, mentions_from, mentions_of, refers_among}
use Rattle.mufom_explain.specs.Noting.{IsFresh, Told, ends_with, is_mention, noted, noted_for, same_kind, same_mention, told_with}

-- ---- the last mention

same_number : (n : ℕ) → (n == n) ≡ true
same_number n = search rules

same_kinds : (kind : MentionKind) → same_kind kind kind ≡ true
same_kinds kinds.Public = refl
same_kinds kinds.Reference = refl

same_mentions : (m : Mention) → same_mention m m ≡ true
same_mentions m = (λ i. same_number m.position i && same_kind m.kind m.kind) ∙ same_kinds m.kind

at-end : {A : Type 0} (xs : List A) (x : A) → slice_get (xs ++ x ∷ []) (length xs) ≡ Some x
at-end [] x = refl
at-end (y ∷ xs) x = at-end xs x

-- the last of a list with one more
last-of : {A : Type 0} (xs : List A) (x : A) → slice_get (xs ++ x ∷ []) (length (xs ++ x ∷ []) - 1) ≡ Some x
last-of xs x =
    let long = length-append xs (x ∷ []) in
    let one : length (xs ++ x ∷ []) - 1 ≡ length xs = omega (arith, long) in
    ap (slice_get (xs ++ x ∷ [])) one ∙ at-end xs x

ends-with-last : (ms : List Mention) (n m : Mention) → ends_with (ms ++ n ∷ []) m ≡ same_mention n m
ends-with-last ms n m = ap (λ o. is_mention o m) (last-of ms n)

-- a mention that the list ends with is not added again
noted-again : (ms : List Mention) (m : Mention) → noted (ms ++ m ∷ []) m ≡ ms ++ m ∷ []
noted-again ms m = ap (λ b. cond b (ms ++ m ∷ []) ((ms ++ m ∷ []) ++ m ∷ [])) (ends-with-last ms m m ∙ same_mentions m)

-- ---- one name after another

noted-once : (b c : Bool) (ms : List Mention) (m : Mention) → ends_with ms m ≡ false
    → (if b then noted (if c then ms ++ m ∷ [] else ms) m else (if c then ms ++ m ∷ [] else ms)) ≡ (if c || b then ms ++ m ∷ [] else ms)
noted-once true true ms m fresh = noted-again ms m
noted-once true false ms m fresh = ap (λ b. cond b ms (ms ++ m ∷ [])) fresh
noted-once false true ms m fresh = refl
noted-once false false ms m fresh = refl

-- one entry more: the mention is added for its name
pub noted-next : (told : Told) (t u : List ℕ → Bool) (name : List ℕ) (m : Mention) → IsFresh m told → ((w : List ℕ) → u w ≡ (t w || bytes_eq name w))
    → (names : List (List ℕ)) → map (noted_for (told_with told t m) name m) names ≡ map (told_with told u m) names
noted-next told t u name m fresh next names =
    let at : (w : List ℕ) → noted_for (told_with told t m) name m w ≡ told_with told u m w =
    λ w. noted-once (bytes_eq name w) (t w) (told w) m (fresh w) ∙ ap (λ b. if b then told w ++ m ∷ [] else told w) (sym (next w)) in
    λ i. map (λ w. at w i) names

-- ---- the mentions before a module

-- the modules that are mentioned are before this position
abbrev Below : ℕ → List Mention → Type 0
Below k ms = AllByRecursion (λ (m : Mention). m.position < k) ms

below-append : (k : ℕ) (xs ys : List Mention) → Below k xs → Below k ys → Below k (xs ++ ys)
below-append k [] ys here later = later
below-append k (x ∷ xs) ys here later = (here.0, below-append k xs ys here.1 later)

below-if : (k j : ℕ) (b : Bool) (kind : MentionKind) → j < k → Below k (mention_if b j kind)
below-if k j true kind less = (less, tt)
below-if k j false kind less = tt

mentions-below : (j k : ℕ) (ms : List Parts) (name : List ℕ) → j + length ms ≡ k → Below k (mentions_from j ms name)
mentions-below j k [] name count = tt
mentions-below j k (m ∷ ms) name count =
    let less : j < k = omega (arith, count) in
    let more : (j + 1) + length ms ≡ k = omega (arith, count) in
    below-append k (mentions_by name j m) (mentions_from (j + 1) ms name)
    (below-append k (mention_if (defines_among m.names.publics name) j kinds.Public) (mention_if (refers_among m.names.references name) j kinds.Reference)
    (below-if k j (defines_among m.names.publics name) kinds.Public less) (below-if k j (refers_among m.names.references name) kinds.Reference less))
    (mentions-below (j + 1) k ms name more)

differs : (n k : ℕ) → n < k → (n == k) ≡ false
differs n k less = by_case (n == k) refl where
  by_case : (b : Bool) → (n == k) ≡ b → (n == k) ≡ false
  by_case true e = absurd (let same = equal_numbers n k e in omega (arith, less, same))
  by_case false e = e

below-last : (k : ℕ) (kind : MentionKind) (ms : List Mention) (n : ℕ) → Below k ms → is_mention (slice_get ms n) (mention k kind) ≡ false
below-last k kind [] n below = refl
below-last k kind (m ∷ ms) zero below = ap (λ b. b && same_kind m.kind kind) (differs m.position k below.0)
below-last k kind (m ∷ ms) (suc n) below = below-last k kind ms n below.1

-- the mentions by the modules before a position end with none by the module there
pub fresh-before : (ms : List Parts) (k : ℕ) (kind : MentionKind) → length ms ≡ k → IsFresh (mention k kind) (mentions_of ms)
fresh-before ms k kind count name =
    let all : 0 + length ms ≡ k = omega (arith, count) in
    below-last k kind (mentions_of ms name) (length (mentions_of ms name) - 1) (mentions-below 0 k ms name all)

-- nor do they with the mention by a public of that module
pub fresh-reference : (ms : List Parts) (k : ℕ) (t : List ℕ → Bool) → length ms ≡ k
    → IsFresh (mention k kinds.Reference) (told_with (mentions_of ms) t (mention k kinds.Public))
fresh-reference ms k t count name = by_case (t name) where
  other : same_mention (mention k kinds.Public) (mention k kinds.Reference) ≡ false
  other = ap (λ b. b && false) (same_number k)

  by_case : (b : Bool) → ends_with (if b then mentions_of ms name ++ mention k kinds.Public ∷ [] else mentions_of ms name) (mention k kinds.Reference) ≡ false
  by_case true = ends-with-last (mentions_of ms name) (mention k kinds.Public) (mention k kinds.Reference) ∙ other
  by_case false = fresh-before ms k kinds.Reference count name

-- ---- one module more

mentions-push : (j : ℕ) (ms : List Parts) (m : Parts) (name : List ℕ)
    → mentions_from j (ms ++ m ∷ []) name ≡ mentions_from j ms name ++ mentions_by name (j + length ms) m
mentions-push j [] m name =
    let here : j ≡ j + 0 = omega arith in
    append-nil (mentions_by name j m) ∙ ap (λ k. mentions_by name k m) here
mentions-push j (x ∷ ms) m name =
    let same : (j + 1) + length ms ≡ j + suc (length ms) = omega arith in
    ap (λ more. mentions_by name j x ++ more) (mentions-push (j + 1) ms m name ∙ ap (λ k. mentions_from (j + 1) ms name ++ mentions_by name k m) same)
    ∙ sym (append_assoc (mentions_by name j x) (mentions_from (j + 1) ms name) (mentions_by name (j + suc (length ms)) m))

told-both : (d r : Bool) (told : List Mention) (k : ℕ)
    → (if r then (if d then told ++ mention k kinds.Public ∷ [] else told) ++ mention k kinds.Reference ∷ []
    else (if d then told ++ mention k kinds.Public ∷ [] else told))
    ≡ told ++ (mention_if d k kinds.Public ++ mention_if r k kinds.Reference)
told-both true true told k = append_assoc told (mention k kinds.Public ∷ []) (mention k kinds.Reference ∷ [])
told-both true false told k = refl
told-both false true told k = refl
told-both false false told k = sym (append-nil told)

-- what is told of names with the entries of a module is what is told with that module
pub told-module : (ms : List Parts) (m : Parts) (k : ℕ) → length ms ≡ k → (names : List (List ℕ))
    → map (told_with (told_with (mentions_of ms) (defines_among m.names.publics) (mention k kinds.Public)) (refers_among m.names.references)
    (mention k kinds.Reference)) names
    ≡ map (mentions_of (ms ++ m ∷ [])) names
told-module ms m k count names =
    let all : k ≡ 0 + length ms = omega (arith, count) in
    let at : (w : List ℕ) → told_with (told_with (mentions_of ms) (defines_among m.names.publics) (mention k kinds.Public)) (refers_among m.names.references)
    (mention k kinds.Reference) w ≡ mentions_of (ms ++ m ∷ []) w =
    λ w. told-both (defines_among m.names.publics w) (refers_among m.names.references w) (mentions_of ms w) k
    ∙ ap (λ n. mentions_of ms w ++ mentions_by w n m) all ∙ sym (mentions-push 0 ms m w) in
    λ i. map (λ w. at w i) names
