-- What holds for several calls in a row, derived from what holds for each.
use Rattle.std.proofs.Common.{◌≡◌, refl, sym, ◌∙◌, ap, ℕ, ◌+◌, ◌≤◌, min, List, [], ◌++◌, length, take, drop, Option, Some, None, Result, Ok, OnSome}
use Rattle.std.proofs.Common.{append_assoc, arith, is_err, subst, true}
use Rattle.std.proofs.Math.Seq.{take-append-add, take-length}
use Rattle.std.proofs.lemmas.List.{append-nil, take-append-le, take_min, take-append-drop}
use Rattle.std.proofs.lemmas.Option.{same_Some}
use Rattle.mufom_host.specs.declared.world.Failed.{Failed}
use Rattle.mufom_host.specs.World.{Meaning, Faults, InputFails, OpenMarks, NamedFile, Rose, GrowsBy, GrowsByPrefix, MakingGrowsBy}
use Rattle.mufom_host.specs.World.{MakingGrowsByPrefix, with_bytes, ReadsOff}
use Rattle.mufom_host.specs.World.{Reads, KeepsAllButReads, KeepsAllButWrites, KeepsAllButComplaints, KeepsAllButLeft, KeepsAllButMaking}
use Rattle.mufom_host.specs.World.{KeepsAllButOpened, KeepsAllButCreated, KeepsAllButMade, KeepsAllButOut, KeepsAllButErr, KeepsAllButFile}

-- ---- counts

pub Rose-later : (a b c : ℕ) → Rose a b → b ≤ c → Rose a c
Rose-later a b c rose later = omega arith

pub later-Rose : (a b c : ℕ) → a ≤ b → Rose b c → Rose a c
later-Rose a b c later rose = omega arith

-- a failure of the input counts from any earlier state on
pub later-InputFails : (a b c : Faults) → a.reads ≤ b.reads → InputFails b c → InputFails a c
later-InputFails a b c later fails = (fails.0, later-Rose a.reads b.reads c.reads later fails.1)

-- what keeps the mark of the input, and lets its count rise at most, keeps its failure
pub InputFails-later : (a b c : Faults) → InputFails a b → c.input_failed ≡ b.input_failed → b.reads ≤ c.reads → InputFails a c
InputFails-later a b c fails same later = (same ∙ fails.0, Rose-later a.reads b.reads c.reads fails.1 later)

-- an open that fails is a failure of the input
pub InputFails-open : (a b : Faults) (result : Result (Unit {0}) Failed) → is_err result ≡ true → OpenMarks b result → Rose a.reads b.reads
    → InputFails a b
InputFails-open a b result failed marks rose = (marks ∙ failed, rose)

-- writes, prints and complaints keep a failure of the input
pub InputFails-writes : (a b c : Faults) → InputFails a b → KeepsAllButWrites b c → InputFails a c
InputFails-writes a b c fails same = subst (InputFails a) (sym same) fails

pub InputFails-complaints : (a b c : Faults) → InputFails a b → KeepsAllButComplaints b c → InputFails a c
InputFails-complaints a b c fails same = subst (InputFails a) (sym same) fails

pub KeepsAllButReads-trans : (a b c : Faults) → KeepsAllButReads a b → KeepsAllButReads b c → KeepsAllButReads a c
KeepsAllButReads-trans a b c p q = q ∙ ap {A = Faults} (λ f. record f { reads = c.reads; input_failed = c.input_failed }) p

pub KeepsAllButWrites-trans : (a b c : Faults) → KeepsAllButWrites a b → KeepsAllButWrites b c → KeepsAllButWrites a c
KeepsAllButWrites-trans a b c p q = q ∙ ap {A = Faults} (λ f. record f { writes = c.writes }) p

pub KeepsAllButComplaints-trans : (a b c : Faults) → KeepsAllButComplaints a b → KeepsAllButComplaints b c → KeepsAllButComplaints a c
KeepsAllButComplaints-trans a b c p q = q ∙ ap {A = Faults} (λ f. record f { complaints = c.complaints }) p

-- ---- what stays

pub KeepsAllButLeft-trans : (a b c : Meaning) → KeepsAllButLeft a b → KeepsAllButLeft b c → KeepsAllButLeft a c
KeepsAllButLeft-trans a b c p q = q ∙ ap {A = Meaning} (λ m. record m { left = c.left }) p

pub KeepsAllButMaking-trans : (a b c : Meaning) → KeepsAllButMaking a b → KeepsAllButMaking b c → KeepsAllButMaking a c
KeepsAllButMaking-trans a b c p q = q ∙ ap {A = Meaning} (λ m. record m { making = c.making }) p

pub KeepsAllButOpened-trans : (a b c : Meaning) → KeepsAllButOpened a b → KeepsAllButOpened b c → KeepsAllButOpened a c
KeepsAllButOpened-trans a b c p q = q ∙ ap {A = Meaning} (λ m. record m { left = c.left; opened = c.opened }) p

pub KeepsAllButOut-trans : (a b c : Meaning) → KeepsAllButOut a b → KeepsAllButOut b c → KeepsAllButOut a c
KeepsAllButOut-trans a b c p q = q ∙ ap {A = Meaning} (λ m. record m { out = c.out }) p

pub KeepsAllButErr-trans : (a b c : Meaning) → KeepsAllButErr a b → KeepsAllButErr b c → KeepsAllButErr a c
KeepsAllButErr-trans a b c p q = q ∙ ap {A = Meaning} (λ m. record m { err = c.err }) p

pub KeepsAllButFile-trans : (a b c : Meaning) → KeepsAllButFile a b → KeepsAllButFile b c → KeepsAllButFile a c
KeepsAllButFile-trans a b c p q = q ∙ ap {A = Meaning} (λ m. record m { making = c.making; made = c.made; created = c.created }) p

-- a read keeps what an open keeps
pub KeepsAllButOpened-left : (a b : Meaning) → KeepsAllButLeft a b → KeepsAllButOpened a b
KeepsAllButOpened-left a b p = p ∙ ap (λ names. record a { left = b.left; opened = names }) (sym (ap {A = Meaning} (λ m. m.opened) p))

-- the calls that make a file
pub KeepsAllButFile-making : (a b : Meaning) → KeepsAllButMaking a b → KeepsAllButFile a b
KeepsAllButFile-making a b p =
    p ∙ (ap (λ files. record a { making = b.making; made = files }) (sym (ap {A = Meaning} (λ m. m.made) p))
    ∙ ap (λ names. record a { making = b.making; made = b.made; created = names }) (sym (ap {A = Meaning} (λ m. m.created) p)))

pub KeepsAllButFile-created : (a b : Meaning) → KeepsAllButCreated a b → KeepsAllButFile a b
KeepsAllButFile-created a b p = p ∙ ap (λ files. record a { making = b.making; made = files; created = b.created }) (sym (ap {A = Meaning} (λ m. m.made) p))

pub KeepsAllButFile-made : (a b : Meaning) → KeepsAllButMade a b → KeepsAllButFile a b
KeepsAllButFile-made a b p = p ∙ ap (λ names. record a { making = b.making; made = b.made; created = names }) (sym (ap {A = Meaning} (λ m. m.created) p))

-- ---- lists and texts that grow

take-prefix : {T : Type 0} (n : ℕ) (xs ys : List T) → take (min n (length xs)) (xs ++ ys) ≡ take n xs
take-prefix n xs ys = take-append-le (min n (length xs)) xs ys (omega arith) ∙ take_min n xs

module _ {T : Type 0} where
  pub GrowsBy-refl : (a : Option (List T)) → GrowsBy a a []
  GrowsBy-refl None = tt
  GrowsBy-refl (Some old) = ap Some (sym (append-nil old))

  pub GrowsBy-trans : (a b c : Option (List T)) (xs ys : List T) → GrowsBy a b xs → GrowsBy b c ys → GrowsBy a c (xs ++ ys)
  GrowsBy-trans None b c xs ys p q = tt
  GrowsBy-trans (Some old) b c xs ys p q = (rw p at q) ∙ ap Some (append_assoc old xs ys)

  pub GrowsByPrefix-whole : (a b : Option (List T)) (xs : List T) → GrowsBy a b xs → GrowsByPrefix a b xs
  GrowsByPrefix-whole None b xs p = tt
  GrowsByPrefix-whole (Some old) b xs p = (length xs, p ∙ ap (λ t. Some (old ++ t)) (sym (take-length xs)))

  -- all of one list, then the prefix of another
  pub GrowsByPrefix-trans : (a b c : Option (List T)) (xs ys : List T) → GrowsBy a b xs → GrowsByPrefix b c ys → GrowsByPrefix a c (xs ++ ys)
  GrowsByPrefix-trans None b c xs ys p q = tt
  GrowsByPrefix-trans (Some old) b c xs ys p q =
      let r = rw p at q in
      (length xs + r.0, r.1 ∙ ap Some (append_assoc old xs (take r.0 ys) ∙ ap (λ t. old ++ t) (sym (take-append-add xs ys r.0))))

  -- the prefix of one list is the prefix of a longer one
  pub GrowsByPrefix-more : (a b : Option (List T)) (xs ys : List T) → GrowsByPrefix a b xs → GrowsByPrefix a b (xs ++ ys)
  GrowsByPrefix-more None b xs ys p = tt
  GrowsByPrefix-more (Some old) b xs ys p =
      (min p.0 (length xs), p.1 ∙ ap (λ t. Some (old ++ t)) (sym (take-prefix p.0 xs ys)))

  -- if a list is known at the end, it grows by what was added first and then by what was added last
  pub GrowsBy-known : (a b c : Option (List T)) (xs ys : List T) → GrowsBy a b xs → OnSome c (GrowsBy b c ys) → OnSome c (GrowsBy a c (xs ++ ys))
  GrowsBy-known a b None xs ys p q = tt
  GrowsBy-known a b (Some new) xs ys p q = GrowsBy-trans a b (Some new) xs ys p q

-- ---- the file being made

with_bytes-nil : (making : Option NamedFile) → with_bytes making [] ≡ making
with_bytes-nil None = refl
with_bytes-nil (Some file) = ap (λ bytes. Some (file.0, bytes)) (append-nil file.1)

with_bytes-append : (making : Option NamedFile) (xs ys : List ℕ) → with_bytes (with_bytes making xs) ys ≡ with_bytes making (xs ++ ys)
with_bytes-append None xs ys = refl
with_bytes-append (Some file) xs ys = ap (λ bytes. Some (file.0, bytes)) (append_assoc file.1 xs ys)

pub MakingGrowsBy-refl : (a : Option (Option NamedFile)) → MakingGrowsBy a a []
MakingGrowsBy-refl None = tt
MakingGrowsBy-refl (Some making) = ap Some (sym (with_bytes-nil making))

pub MakingGrowsBy-trans : (a b c : Option (Option NamedFile)) (xs ys : List ℕ) → MakingGrowsBy a b xs → MakingGrowsBy b c ys → MakingGrowsBy a c (xs ++ ys)
MakingGrowsBy-trans None b c xs ys p q = tt
MakingGrowsBy-trans (Some making) b c xs ys p q = (rw p at q) ∙ ap Some (with_bytes-append making xs ys)

pub MakingGrowsByPrefix-whole : (a b : Option (Option NamedFile)) (xs : List ℕ) → MakingGrowsBy a b xs → MakingGrowsByPrefix a b xs
MakingGrowsByPrefix-whole None b xs p = tt
MakingGrowsByPrefix-whole (Some making) b xs p = (length xs, p ∙ ap (λ t. Some (with_bytes making t)) (sym (take-length xs)))

pub MakingGrowsByPrefix-trans : (a b c : Option (Option NamedFile)) (xs ys : List ℕ) → MakingGrowsBy a b xs → MakingGrowsByPrefix b c ys
    → MakingGrowsByPrefix a c (xs ++ ys)
MakingGrowsByPrefix-trans None b c xs ys p q = tt
MakingGrowsByPrefix-trans (Some making) b c xs ys p q =
    let r = rw p at q in
    (length xs + r.0, r.1 ∙ ap Some (with_bytes-append making xs (take r.0 ys) ∙ ap (with_bytes making) (sym (take-append-add xs ys r.0))))

pub MakingGrowsByPrefix-more : (a b : Option (Option NamedFile)) (xs ys : List ℕ) → MakingGrowsByPrefix a b xs → MakingGrowsByPrefix a b (xs ++ ys)
MakingGrowsByPrefix-more None b xs ys p = tt
MakingGrowsByPrefix-more (Some making) b xs ys p =
    (min p.0 (length xs), p.1 ∙ ap (λ t. Some (with_bytes making t)) (sym (take-prefix p.0 xs ys)))

-- ---- what is read

-- a read takes the prefix of its buffer off what is left
pub ReadsOff-read : (a b : Option (List ℕ)) (n : ℕ) (buffer : List ℕ) → Reads a b (Ok n) buffer → ReadsOff a b (take n buffer)
ReadsOff-read None b n buffer p = tt
ReadsOff-read (Some left) b n buffer p = (drop n left, sym (take-append-drop n left) ∙ ap (λ t. t ++ drop n left) (sym p.bytes), p.rest)

pub ReadsOff-refl : (a : Option (List ℕ)) → ReadsOff a a []
ReadsOff-refl None = tt
ReadsOff-refl (Some left) = (left, refl, refl)

pub ReadsOff-trans : (a b c : Option (List ℕ)) (xs ys : List ℕ) → ReadsOff a b xs → ReadsOff b c ys → ReadsOff a c (xs ++ ys)
ReadsOff-trans None b c xs ys p q = tt
ReadsOff-trans (Some left) b c xs ys p q =
    let r = rw p.2 at q in
    (r.0, p.1 ∙ (ap (λ t. xs ++ t) r.1 ∙ sym (append_assoc xs ys r.0)), r.2)

-- if nothing is left, everything was read
pub ReadsOff-all : (left : List ℕ) (b : Option (List ℕ)) (xs : List ℕ) → ReadsOff (Some left) b xs → b ≡ Some [] → left ≡ xs
ReadsOff-all left b xs p none = p.1 ∙ (ap (λ t. xs ++ t) (same_Some _ _ (sym p.2 ∙ none)) ∙ append-nil xs)
