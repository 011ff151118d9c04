-- The members before the first error of an archive, by the entries that were read.
use Rattle.std.proofs.Common.{◌≡◌, ℕ, ◌+◌, ◌≤◌, ◌∙◌, inl, inr, ◌⊎◌, sym, ap, refl, Bool, true, false, ◌||◌, ◌&&◌, not, cond, nat_lt, if◌then◌else◌}
use Rattle.std.proofs.Common.{List, [], ◌∷◌, ◌++◌, take, drop, suc, filter, Option, Some, None, option_map, subst, arith}
use Rattle.std.specs.List.{before_first, cons_option, find, position_or_len}
use Rattle.std.specs.Option.{is_none}
use Rattle.std.proofs.lemmas.Bool.Decides.{nat_tests}
use Rattle.mufom_archive.specs.declared.entry.Entry.{Entry}
use Rattle.mufom_archive.specs.Names.{is_member, name_of}
use Rattle.mufom_archive.specs.Entries.{AreEntries, next_offset}
use Rattle.mufom_archive.specs.Listings.{Member, is_refused, member_of, members_of}
use Rattle.mufom_archive.proofs.EntryLaws.{entry_parts}
use Rattle.mufom_module.specs.declared.module.Parts.{Parts}
use Rattle.mufom_records.specs.declared.options.ReadOptions.{ReadOptions}
use Rattle.mufom_members.specs.Files.{AreModulesOf}
use Rattle.mufom_members.specs.Reading.{StartAfter, AreRead, is_member_entry}
use Rattle.mufom_members.proofs.EntryOrder.{start_after, start_before}

-- ---- the first element that passes a test

module _ {X : Type 0} (p : X → Bool) (x : X) (xs : List X) where
  pub find_passes : p x ≡ true → find p (x ∷ xs) ≡ Some x
  find_passes is = ap (λ b. if b then Some x else find p xs) is

  pub find_fails : p x ≡ false → find p (x ∷ xs) ≡ find p xs
  find_fails is = ap (λ b. if b then Some x else find p xs) is

  pub first_passes : p x ≡ true → before_first p (x ∷ xs) ≡ []
  first_passes is = ap (λ b. take (cond (not b) (1 + position_or_len p xs) 0) (x ∷ xs)) is

  pub first_fails : p x ≡ false → before_first p (x ∷ xs) ≡ x ∷ before_first p xs
  first_fails is =
      let one : 1 + position_or_len p xs ≡ suc (position_or_len p xs) = omega arith in
      ap (λ b. take (cond (not b) (1 + position_or_len p xs) 0) (x ∷ xs)) is ∙ ap (λ n. take n (x ∷ xs)) one

-- ---- the member that an entry is

abbrev pub the_member : List ℕ → Entry → Member
the_member name e = record { name = name; start = e.start; end = e.end }

pub member_named : (names : List ℕ) (size : ℕ) (e : Entry) → is_refused names size e ≡ false → is_member e.label ≡ true
    → (name : List ℕ) × (name_of names e.label ≡ Some name) × (member_of names e ≡ Some (the_member name e))
member_named names size e sound member = by_name (name_of names e.label) refl where
  wrong : (a : Bool) → (a || true) ≡ false → ⊥
  wrong true is = cc
  wrong false is = cc

  by_name : (o : Option (List ℕ)) → name_of names e.label ≡ o
      → (name : List ℕ) × (name_of names e.label ≡ Some name) × (member_of names e ≡ Some (the_member name e))
  by_name (Some name) is = (name, is, λ i. if member i then option_map (λ n. the_member n e) (is i) else None)
  by_name None is = absurd (wrong (nat_lt size e.end) ((λ i. nat_lt size e.end || (sym member i && is_none (sym is i))) ∙ sound))

pub not_member : (names : List ℕ) (e : Entry) → is_member e.label ≡ false → member_of names e ≡ None
not_member names e is = ap (λ b. if b then option_map (λ n. the_member n e) (name_of names e.label) else None) is

pub members_none : (names : List ℕ) (e : Entry) (es : List Entry) → member_of names e ≡ None → members_of names (e ∷ es) ≡ members_of names es
members_none names e es is = ap (λ o. cons_option o (members_of names es)) is

pub members_some : (names : List ℕ) (e : Entry) (es : List Entry) (m : Member) → member_of names e ≡ Some m
    → members_of names (e ∷ es) ≡ m ∷ members_of names es
members_some names e es m is = ap (λ o. cons_option o (members_of names es)) is

-- an entry that is not refused ends inside
pub ends_inside : (names : List ℕ) (size : ℕ) (e : Entry) → is_refused names size e ≡ false → e.end ≤ size
ends_inside names size e sound = by_test (nat_lt size e.end) refl (is_member e.label && is_none (name_of names e.label)) sound where
  by_test : (b : Bool) → nat_lt size e.end ≡ b → (c : Bool) → (b || c) ≡ false → e.end ≤ size
  by_test true is c other = absurd (cc)
  by_test false is c other = grind (arith, nat_tests)

-- ---- a walk over the entries that were read

module _ (options : ReadOptions) (bytes names : List ℕ) (size : ℕ) where
  -- none of the entries before is refused
  pub record AreSound (before later : List Entry) (modules : List Parts) : Type 0 where
    pub found : find (is_refused names size) (before ++ later) ≡ find (is_refused names size) later
    pub first : before_first (is_refused names size) (before ++ later) ≡ before ++ before_first (is_refused names size) later
    pub accepted : AreModulesOf options bytes (members_of names before) modules

  -- one of them is refused
  pub record HasBad (before later : List Entry) : Type 0 where
    pub bad : Entry
    pub found : find (is_refused names size) (before ++ later) ≡ Some bad
    pub earlier : StartAfter (bad.offset + 1) later
    pub modules : List Parts
    pub accepted : AreModulesOf options bytes (members_of names (before_first (is_refused names size) (before ++ later))) modules

  abbrev pub Walk : List Entry → List Entry → List Parts → Type 0
  Walk before later modules = AreSound before later modules ⊎ HasBad before later

  later_starts : (from : ℕ) (before later : List Entry) → StartAfter from (before ++ later) → StartAfter from later
  later_starts from [] later all = all
  later_starts from (e ∷ before) later all = later_starts from before later all.1

  pub walk : (at : ℕ) (before later : List Entry) (next : ℕ) (modules : List Parts) → AreEntries bytes at (before ++ later) next
      → AreRead options bytes (filter is_member_entry before) modules → Walk before later modules
  walk at [] later next [] found read = inl (record { found = refl; first = refl; accepted = tt })
  walk at [] later next (m ∷ modules) found read = absurd read
  walk at (e ∷ before) later next modules found read =
      by_case (is_refused names size e) refl (is_member e.label) refl modules read (λ ms is. walk (next_offset e) before later next ms found.1 is)
    where
      on_entry : (ms ns : List Parts) → is_refused names size e ≡ false
          → (AreModulesOf options bytes (members_of names before) ns → AreModulesOf options bytes (members_of names (e ∷ before)) ms)
          → ((es : List Entry) (more : List Parts) → AreModulesOf options bytes (members_of names es) more
          → (all : List Parts) × AreModulesOf options bytes (members_of names (e ∷ es)) all)
          → Walk before later ns → Walk (e ∷ before) later ms
      on_entry ms ns sound grow add (inl rest) = inl (record {
        found = find_fails (is_refused names size) e (before ++ later) sound ∙ rest.found;
        first = first_fails (is_refused names size) e (before ++ later) sound ∙ ap (λ l. e ∷ l) rest.first;
        accepted = grow rest.accepted;
      })
      on_entry ms ns sound grow add (inr rest) =
          let all = add (before_first (is_refused names size) (before ++ later)) rest.modules rest.accepted in
          inr (record {
            bad = rest.bad;
            found = find_fails (is_refused names size) e (before ++ later) sound ∙ rest.found;
            earlier = rest.earlier;
            modules = all.0;
            accepted = subst (λ l. AreModulesOf options bytes (members_of names l) all.0)
                (sym (first_fails (is_refused names size) e (before ++ later) sound)) all.1;
          })

      by_case : (b : Bool) → is_refused names size e ≡ b → (m : Bool) → is_member e.label ≡ m → (ms : List Parts)
          → AreRead options bytes (if m then e ∷ filter is_member_entry before else filter is_member_entry before) ms
          → ((ns : List Parts) → AreRead options bytes (filter is_member_entry before) ns → Walk before later ns) → Walk (e ∷ before) later ms
      by_case true refused m member ms is further =
          let parts = entry_parts at (take 60 (drop at bytes)) e found.0 in
          let offset = parts.offset in
          inr (record {
            bad = e;
            found = find_passes (is_refused names size) e (before ++ later) refused;
            earlier = start_before (e.offset + 1) (at + 60) later (omega arith)
                (later_starts (at + 60) (e ∷ before) later (start_after bytes at (e ∷ before ++ later) next found).0);
            modules = [];
            accepted = subst (λ l. AreModulesOf options bytes (members_of names l) [])
                (sym (first_passes (is_refused names size) e (before ++ later) refused)) tt;
          })
      by_case false sound true member [] is further = absurd is
      by_case false sound true member (m ∷ ms) is further =
          let named = member_named names size e sound member in
          let grown : (es : List Entry) → members_of names (e ∷ es) ≡ the_member named.0 e ∷ members_of names es
          = λ es. members_some names e es (the_member named.0 e) named.2 in
          on_entry (m ∷ ms) ms sound
          (λ rest. subst (λ l. AreModulesOf options bytes l (m ∷ ms)) (sym (grown before)) (is.1.0, rest))
          (λ es more rest. (m ∷ more, subst (λ l. AreModulesOf options bytes l (m ∷ more)) (sym (grown es)) (is.1.0, rest)))
          (further ms is.2)
      by_case false sound false other ms is further =
          let same : (es : List Entry) → members_of names (e ∷ es) ≡ members_of names es
          = λ es. members_none names e es (not_member names e other) in
          on_entry ms ms sound
          (λ rest. subst (λ l. AreModulesOf options bytes l ms) (sym (same before)) rest)
          (λ es more rest. (more, subst (λ l. AreModulesOf options bytes l more) (sym (same es)) rest))
          (further ms is)
