-- The walk over the loads of the module of a location: each counter is set to a number, and each literal lies in its section.
use Rattle.std.proofs.Common.{◌≡◌, ℕ, zero, suc, ◌+◌, ◌-◌, ◌<◌, ◌≤◌, max, inl, inr, List, [], ◌∷◌, ◌++◌, map, length, take, drop, Option, Some, Bool}
use Rattle.std.proofs.Common.{true, refl, sym, ◌∙◌, ap, subst, arith, rules, append_assoc, length-append, length-drop}
use Rattle.std.specs.Prelude.{flat_map, option_map, ◌%◌, ◌==◌, if◌then◌else◌}
use Rattle.std.proofs.Math.Nat.{mod-eq_of_lt}
use Rattle.std.proofs.lemmas.List.{take-append-drop, length-take}
use Rattle.mufom_numbers.specs.declared.limits.TheConstants.{MOST_STRING_BYTES}
use Rattle.mufom_expr.specs.Tree.{number}
use Rattle.mufom_sections.specs.declared.section.Section.{Section}
use Rattle.mufom_loads.specs.declared.load.Item.{Item}
use Rattle.mufom_loads.specs.declared.load.Item.TheVariants.{Literal}
use Rattle.mufom_loads.specs.declared.load.Load.{Load}
use Rattle.mufom_loads.specs.declared.load.Load.TheVariants.{One}
use Rattle.mufom_module.specs.declared.module.Order.{Order}
use Rattle.mufom_meaning.specs.declared.located.Run.{Run}
use Rattle.mufom_meaning.specs.Flat.{Sited}
use Rattle.mufom_meaning.specs.Values.{Setting, value}
use Rattle.mufom_meaning.specs.Steps.{Step, counter_step, item_step, steps_of, counter, readings_after}
use Rattle.mufom_meaning.specs.Walk.{base_number, size_at}
use Rattle.mufom_meaning.specs.AddressMap.{Cell, cells_from, literal_cells, address_map}
use Rattle.mufom_meaning.specs.Absolute.{chunks_within, chunks, run_within, loads_of_run, loads_of_bytes, loads_between, with_section}
use Rattle.mufom_meaning.specs.Absolute.{section_loads_at, section_loads}
use Rattle.mufom_meaning.proofs.Members.{In}
use Rattle.mufom_meaning.proofs.values.Causes.{within_is}
use Rattle.mufom_meaning.proofs.absolute.Cells.{cells_within, cells_at, section_cells, absolute_cells}

-- ---- bytes in chunks

abbrev pub together : List (List ℕ) → List ℕ
together ps = flat_map (λ p. p) ps

abbrev HaveBytes : List (List ℕ) → Type 0
HaveBytes [] = Unit {0}
HaveBytes (p ∷ ps) = (0 < length p) × HaveBytes ps

pub chunks_together : (k n : ℕ) (xs : List ℕ) → length xs ≤ n → together (chunks_within n (suc k) xs) ≡ xs
chunks_together k zero [] h = refl
chunks_together k zero (x ∷ xs) h = absurd (omega (arith, h))
chunks_together k (suc n) [] h = refl
chunks_together k (suc n) (x ∷ xs) h =
    let left = length-drop k xs in
    let fewer : length (drop k xs) ≤ n = omega (arith, h, left) in
    ap (λ rest. take (suc k) (x ∷ xs) ++ rest) (chunks_together k n (drop k xs) fewer) ∙ take-append-drop (suc k) (x ∷ xs)

chunks_nonempty : (k n : ℕ) (xs : List ℕ) → HaveBytes (chunks_within n (suc k) xs)
chunks_nonempty k zero xs = tt
chunks_nonempty k (suc n) [] = tt
chunks_nonempty k (suc n) (x ∷ xs) = let some : 0 < suc (length (take k xs)) = omega arith in (some, chunks_nonempty k n (drop k xs))

cells_from-append : (a : ℕ) (xs ys : List ℕ) → cells_from a (xs ++ ys) ≡ cells_from a xs ++ cells_from (a + length xs) ys
cells_from-append a [] ys = let same : a ≡ a + 0 = omega arith in ap (λ n. cells_from n ys) same
cells_from-append a (x ∷ xs) ys =
    let same : suc a + length xs ≡ a + suc (length xs) = omega arith in
    ap (λ cells. (a, x) ∷ cells) (cells_from-append (suc a) xs ys ∙ ap (λ n. cells_from (suc a) xs ++ cells_from n ys) same)

equal_self : (n : ℕ) → (n == n) ≡ true
equal_self n = search rules

module _ (s : Setting) where
  -- a literal at its counter, inside its section and the address space
  pub record IsPlainItem (earlier : List Step) (section : ℕ) (item : Item) : Type 0 where
    pub at : ℕ
    pub bytes : List ℕ
    pub is : item ≡ Literal bytes
    pub counted : counter s earlier section ≡ Some at
    pub low : base_number s section ≤ at
    pub high : at + length bytes ≤ base_number s section + size_at s section
    pub inside : at + length bytes ≤ s.modulus

  -- each step sets a counter to a number, or loads a literal inside its section
  abbrev pub IsPlainWalk : List Step → List Step → Type 0
  IsPlainWalk earlier [] = Unit {0}
  IsPlainWalk earlier (counter_step site section t ∷ more) = ((a : ℕ) × (t ≡ number a)) × IsPlainWalk (counter_step site section t ∷ earlier) more
  IsPlainWalk earlier (item_step site section item ∷ more) = IsPlainItem earlier section item × IsPlainWalk (item_step site section item ∷ earlier) more

module _ (order : Order) (s : Setting) (site : Sited) where
  -- such a walk, and the cells that it fills
  abbrev pub GoodWalk : List Step → List Step → List Cell → Type 0
  GoodWalk earlier more cells = IsPlainWalk s earlier more × (address_map order s.modulus (readings_after s earlier more) ≡ cells)

  counter_set : (earlier : List Step) (section a : ℕ) → a < s.modulus → counter s (counter_step site section (number a) ∷ earlier) section ≡ Some a
  unfolding counter
  counter_set earlier section a less =
      ap (λ (b : Bool). if b then value s site (counter s earlier section) (number a) else counter s earlier section) (equal_self section)
      ∙ within_is s (length s.publics) site (counter s earlier section) (number a) ∙ ap (λ n. Some n) (mod-eq_of_lt less)

  counter_on : (earlier : List Step) (section at : ℕ) (p : List ℕ) → counter s earlier section ≡ Some at → at + length p < s.modulus
      → counter s (item_step site section (Literal p) ∷ earlier) section ≡ Some (at + length p)
  unfolding counter
  counter_on earlier section at p e less =
      ap (λ (b : Bool). if b then option_map (λ pc. (pc + length p) % s.modulus) (counter s earlier section)
      else counter s earlier section) (equal_self section)
      ∙ ap (option_map (λ pc. (pc + length p) % s.modulus)) e ∙ ap (λ n. Some n) (mod-eq_of_lt less)

  -- the counter is known where chunks are left
  abbrev IsReady : List Step → ℕ → ℕ → List (List ℕ) → Type 0
  IsReady earlier section at [] = Unit {0}
  IsReady earlier section at (p ∷ ps) = counter s earlier section ≡ Some at

  ready_on : (earlier : List Step) (section at : ℕ) (p : List ℕ) (ps : List (List ℕ)) → counter s earlier section ≡ Some at → HaveBytes ps
      → at + length (p ++ together ps) ≤ s.modulus
      → IsReady (item_step site section (Literal p) ∷ earlier) section (at + length p) ps
  ready_on earlier section at p [] e some inside = tt
  ready_on earlier section at p (next ∷ ps) e some inside =
      let whole = length-append p (next ++ together ps) in let part = length-append next (together ps) in
      counter_on earlier section at p e (omega (arith, some.0, inside, whole, part))

  literals_good : (section : ℕ) (ps : List (List ℕ)) (at : ℕ) (earlier : List Step) → IsReady earlier section at ps → HaveBytes ps
      → base_number s section ≤ at → at + length (together ps) ≤ base_number s section + size_at s section → at + length (together ps) ≤ s.modulus
      → (rest : List Step) (cells : List Cell) → ((e : List Step) → GoodWalk e rest cells)
      → GoodWalk earlier (map (λ p. item_step site section (Literal p)) ps ++ rest) (cells_from at (together ps) ++ cells)
  literals_good section [] at earlier ready some low high inside rest cells after = after earlier
  literals_good section (p ∷ ps) at earlier ready some low high inside rest cells after =
      let whole = length-append p (together ps) in
      let later = literals_good section ps (at + length p) (item_step site section (Literal p) ∷ earlier)
      (ready_on earlier section at p ps ready some.1 inside) some.1
      (omega (arith, low)) (omega (arith, high, whole)) (omega (arith, inside, whole)) rest cells after in
      let own : literal_cells (counter s earlier section) p ≡ cells_from at p = ap (λ o. literal_cells o p) ready in (
        (
          record {
            at = at;
            bytes = p;
            is = refl;
            counted = ready;
            low = low;
            high = omega (arith, high, whole);
            inside =
                omega (arith, inside, whole);
          },
          later.0,
        ),
        (λ i. own i ++ later.1 i) ∙ sym (append_assoc (cells_from at p) (cells_from (at + length p) (together ps)) cells)
            ∙ ap (λ prefix. prefix ++ cells) (sym (cells_from-append at p (together ps))),
      )

  literal_steps : (n : ℕ) (ps : List (List ℕ)) (loads : List Load)
      → steps_of site (Some n) (map (λ p. One (Literal p)) ps ++ loads) ≡ map (λ p. item_step site (site.first_section + n) (Literal p)) ps
      ++ steps_of site (Some n) loads
  literal_steps n [] loads = refl
  literal_steps n (p ∷ ps) loads = ap (λ more. item_step site (site.first_section + n) (Literal p) ∷ more) (literal_steps n ps loads)

  -- a row of bytes in its section
  record Fits (n : ℕ) (row : Run) : Type 0 where
    low : base_number s (site.first_section + n) ≤ row.address
    high : row.address + length row.bytes ≤ base_number s (site.first_section + n) + size_at s (site.first_section + n)
    inside : row.address + length row.bytes ≤ s.modulus

  row_good : (n : ℕ) (row : Run) → 0 < length row.bytes → Fits n row → (loads : List Load) (cells : List Cell)
      → ((e : List Step) → GoodWalk e (steps_of site (Some n) loads) cells)
      → (earlier : List Step) → GoodWalk earlier (steps_of site (Some n) (loads_of_run n row ++ loads)) (cells_from row.address row.bytes ++ cells)
  row_good n row some f loads cells after earlier =
      let section = site.first_section + n in
      let ps = chunks MOST_STRING_BYTES row.bytes in
      let start = counter_step site section (number row.address) in
      let all : together ps ≡ row.bytes = chunks_together 65534 (length row.bytes) row.bytes (omega arith) in
      let long : length (together ps) ≡ length row.bytes = ap length all in
      let walk = literals_good section ps row.address (start ∷ earlier)
      (ready ps (counter_set earlier section row.address (omega (arith, some, f.inside)))) (chunks_nonempty 65534 (length row.bytes) row.bytes)
      f.low (omega (arith, f.high, long)) (omega (arith, f.inside, long)) (steps_of site (Some n) loads) cells after in
      let moved = subst (λ more. GoodWalk (start ∷ earlier) more (cells_from row.address (together ps) ++ cells)) (sym (literal_steps n ps loads)) walk in
      let named = subst (λ bytes. GoodWalk (start ∷ earlier) (steps_of site (Some n) (map (λ p. One (Literal p)) ps ++ loads))
      (cells_from row.address bytes ++ cells)) all moved in
      (((row.address, refl), named.0), named.1) where
        ready : (ps : List (List ℕ)) → counter s (counter_step site (site.first_section + n) (number row.address) ∷ earlier) (site.first_section + n)
            ≡ Some row.address
            → IsReady (counter_step site (site.first_section + n) (number row.address) ∷ earlier) (site.first_section + n) row.address ps
        ready [] e = tt
        ready (p ∷ ps) e = e

  -- what the setting holds of a section: its base and size, and that it ends inside the address space
  pub record IsSettled (n base size : ℕ) : Type 0 where
    pub based : base_number s (site.first_section + n) ≡ base
    pub sized : size_at s (site.first_section + n) ≡ size
    pub ends : base + size ≤ s.modulus

  row_fits : (n base size : ℕ) → IsSettled n base size → (run : Run) → 0 < length (run_within base (base + size) run).bytes
      → Fits n (run_within base (base + size) run)
  row_fits n base size h run some =
      let a = run.address in
      let to = base + size in
      let cut = length-take (to - a) run.bytes in
      let left = length-drop (base - a) (take (to - a) run.bytes) in
      let end : max base a + length (drop (base - a) (take (to - a) run.bytes)) ≤ to = omega (arith, some, cut, left) in
      record { low = omega (arith, h.based); high = omega (arith, end, h.based, h.sized); inside = omega (arith, end, h.ends) }

  run_good : (n base size : ℕ) → IsSettled n base size → (run : Run) → (loads : List Load) (cells : List Cell)
      → ((e : List Step) → GoodWalk e (steps_of site (Some n) loads) cells)
      → (earlier : List Step) → let row = run_within base (base + size) run in
      GoodWalk earlier (steps_of site (Some n) (loads_of_bytes n row row.bytes ++ loads)) (cells_from row.address row.bytes ++ cells)
  run_good n base size h run loads cells after earlier = by_bytes (run_within base (base + size) run).bytes refl where
    by_bytes : (bytes : List ℕ) → (run_within base (base + size) run).bytes ≡ bytes → let row = run_within base (base + size) run in
        GoodWalk earlier (steps_of site (Some n) (loads_of_bytes n row bytes ++ loads)) (cells_from row.address bytes ++ cells)
    by_bytes [] e = after earlier
    by_bytes (byte ∷ bytes) e =
        let row = run_within base (base + size) run in
        let long : length row.bytes ≡ suc (length bytes) = ap length e in
        let some : 0 < length row.bytes = omega (arith, long) in
        subst (λ bs. GoodWalk earlier (steps_of site (Some n) (loads_of_run n row ++ loads)) (cells_from row.address bs ++ cells)) e
        (row_good n row some (row_fits n base size h run some) loads cells after earlier)

  runs_good : (n base size : ℕ) → IsSettled n base size → (runs : List Run) → (loads : List Load) (cells : List Cell)
      → ((e : List Step) → GoodWalk e (steps_of site (Some n) loads) cells)
      → (earlier : List Step) → GoodWalk earlier (steps_of site (Some n) (loads_between n runs base (base + size) ++ loads))
      (cells_within base (base + size) runs ++ cells)
  runs_good n base size h [] loads cells after earlier = after earlier
  runs_good n base size h (run ∷ runs) loads cells after earlier =
      let row = run_within base (base + size) run in
      let later = runs_good n base size h runs loads cells after in
      let whole = run_good n base size h run (loads_between n runs base (base + size) ++ loads) (cells_within base (base + size) runs ++ cells) later earlier in
      let a = append_assoc (loads_of_bytes n row row.bytes) (loads_between n runs base (base + size)) loads in
      let b = append_assoc (cells_from row.address row.bytes) (cells_within base (base + size) runs) cells in
      subst (λ (x : List Load × List Cell). GoodWalk earlier (steps_of site (Some n) x.0) x.1) (λ i. (sym a i, sym b i)) whole

  -- if nothing is loaded, there are no cells
  run_empty : (n base to : ℕ) (run : Run) → loads_of_bytes n (run_within base to run) (run_within base to run).bytes ≡ []
      → cells_from (run_within base to run).address (run_within base to run).bytes ≡ []
  run_empty n base to run e = by_bytes (run_within base to run).bytes e where
    by_bytes : (bytes : List ℕ) → loads_of_bytes n (run_within base to run) bytes ≡ [] → cells_from (run_within base to run).address bytes ≡ []
    by_bytes [] e = refl
    by_bytes (byte ∷ bytes) e = absurd cc

  append_empty : {A : Type 0} (xs ys : List A) → xs ++ ys ≡ [] → (xs ≡ []) × (ys ≡ [])
  append_empty [] ys e = (refl, e)
  append_empty (x ∷ xs) ys e = absurd cc

  runs_empty : (n base to : ℕ) (runs : List Run) → loads_between n runs base to ≡ [] → cells_within base to runs ≡ []
  runs_empty n base to [] e = refl
  runs_empty n base to (run ∷ runs) e =
      let two = append_empty (loads_of_bytes n (run_within base to run) (run_within base to run).bytes) (loads_between n runs base to) e in
      let a = run_empty n base to run two.0 in let b = runs_empty n base to runs two.1 in λ i. a i ++ b i

  section_good : (n : ℕ) (section : Section) (base : ℕ) → section.base ≡ Some base → IsSettled n base section.size → (runs : List Run)
      → (loads : List Load) (cells : List Cell)
      → ((current : Option ℕ) (e : List Step) → GoodWalk e (steps_of site current loads) cells)
      → (current : Option ℕ) (earlier : List Step) → GoodWalk earlier (steps_of site current (section_loads runs (n, section) ++ loads))
      (section_cells runs (n, section) ++ cells)
  section_good n section base e h runs loads cells after current earlier =
      subst (λ o. GoodWalk earlier (steps_of site current (section_loads_at n runs section o ++ loads)) (cells_at runs section.size o ++ cells)) (sym e)
      (by_loads (loads_between n runs base (base + section.size)) refl) where
        by_loads : (own : List Load) → loads_between n runs base (base + section.size) ≡ own
            → GoodWalk earlier (steps_of site current (with_section n own ++ loads)) (cells_within base (base + section.size) runs ++ cells)
        by_loads [] f = subst (λ prefix. GoodWalk earlier (steps_of site current loads) (prefix ++ cells))
            (sym (runs_empty n base (base + section.size) runs f)) (after current earlier)
        by_loads (load ∷ own) f =
            subst (λ own. GoodWalk earlier (steps_of site (Some n) (own ++ loads)) (cells_within base (base + section.size) runs ++ cells)) f
            (runs_good n base section.size h runs loads cells (after (Some n)) earlier)

  -- the walk over all sections
  pub sections_good : (runs : List Run) (sections : List (ℕ × Section))
      → ((t : ℕ × Section) → In t sections → (base : ℕ) × (t.1.base ≡ Some base) × IsSettled t.0 base t.1.size)
      → (current : Option ℕ) (earlier : List Step) → GoodWalk earlier (steps_of site current (flat_map (section_loads runs) sections))
      (absolute_cells runs sections)
  sections_good runs [] h current earlier = (tt, refl)
  sections_good runs (t ∷ sections) h current earlier =
      let own = h t (inl refl) in
      section_good t.0 t.1 own.0 own.1 own.2 runs (flat_map (section_loads runs) sections) (absolute_cells runs sections)
      (sections_good runs sections (λ u k. h u (inr k))) current earlier
