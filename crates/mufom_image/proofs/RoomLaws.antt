-- Room for one reference more in the commons of those before it, and the commons of all references.
use Rattle.std.proofs.Common.{◌≡◌, ℕ, ◌+◌, ◌<◌, ◌≤◌, List, [], ◌∷◌, ◌++◌, length, map, take, drop, get_or, Option, Some, None, is_none, Bool, true}
use Rattle.std.proofs.Common.{false, not, cond, ◌&&◌, if◌then◌else◌, refl, sym, ap, ◌∙◌, append-nil, arith}
use Rattle.std.specs.Prelude.{filter, max, slice_get, slice_set, option_map, ◌==◌}
use Rattle.std.specs.Str.{bytes_eq}
use Rattle.std.proofs.lemmas.List.{map-append, length-map, take_more, take-append-drop}
use Rattle.std.proofs.lemmas.Option.{slice_get-map, slice_get_past}
use Rattle.std.proofs.lemmas.Slice.Eq.{bytes_eq-Decides}
use Rattle.mufom_sections.specs.declared.section.Section.{Section}
use Rattle.mufom_names.specs.declared.name.Weak.{Weak}
use Rattle.mufom_names.specs.declared.name.Reference.{Reference}
use Rattle.mufom_names.specs.Names.{names_of}
use Rattle.mufom_names.specs.Index.{Entry, numbered_from}
use Rattle.mufom_module.specs.declared.module.Parts.{Parts}
use Rattle.mufom_plan.specs.Names.{has_name}
use Rattle.mufom_meaning.specs.Flat.{distinct, is_common, common_size, public_names, unresolved_references, commons}
use Rattle.mufom_meaning.specs.Placed.{greatest_size, common_section, common_sections}
use Rattle.mufom_numbers.proofs.Choices.{some_same}
use Rattle.mufom_meaning.proofs.Distinct.{filter-append, IsDistinct-distinct}
use Rattle.mufom_image_values.specs.declared.resolutions.Resolution.TheVariants as resolutions
use Rattle.mufom_image_values.specs.Names.{place_in, with_name, asks}
use Rattle.mufom_image_values.specs.Resolutions.{resolution_by, common_list, resolution_of}
use Rattle.mufom_image_values.proofs.NameLaws.{filter-both, filter-same, has-place, place-some, asked-names, names_after-distinct}
use Rattle.mufom_image_values.proofs.ResolutionLaws.{asked-commons, distinct-has}
use Rattle.mufom_image.specs.declared.commons.Room.{Room}
use Rattle.mufom_image.specs.Rooms.{room_of, common_of, raised, with_room_at, with_room, with_asked}
use Rattle.mufom_image.proofs.SizeLaws.{Asked, names_in, greatest-push, greatest-none, greatest-distinct}
use Rattle.mufom_image.proofs.PlaceLaws.{distinct-push, distinct-extends, place-prefix, place-end, has-last, unchanged, changed}

-- ---- one more that asks

-- the commons as sections after these asked for room
abbrev pub sections_for : List Asked → List Section
sections_for asked = map (common_section asked) (distinct bytes_eq (names_in asked))

module _ (asked : List Asked) (name : List ℕ) (size : ℕ) where
  abbrev names : List (List ℕ)
  names = distinct bytes_eq (names_in asked)

  abbrev more : List Asked
  more = asked ++ (name, size) ∷ []

  pub names-more : distinct bytes_eq (names_in more) ≡ with_name names name
  names-more = ap (distinct bytes_eq) (map-append (λ (a : Asked). a.0) asked ((name, size) ∷ [])) ∙ distinct-push (names_in asked) name

  -- other commons stay
  others : (y : List ℕ) → bytes_eq name y ≡ false → common_section more y ≡ common_section asked y
  others y e =
      let same : greatest_size more y ≡ greatest_size asked y
      = greatest-push asked name size y ∙ ap (λ b. if b then max size (greatest_size asked y) else greatest_size asked y) e in
      ap (common_of y) same

  -- this one is as great as it asks
  own : greatest_size more name ≡ max size (greatest_size asked name)
  own = greatest-push asked name size name ∙ ap (λ b. if b then max size (greatest_size asked name)
      else greatest_size asked name) ((bytes_eq-Decides name name).1 refl)

  -- the common is there already
  room-there : (n : ℕ) → slice_get names n ≡ Some name → with_room (sections_for asked) (record { common = n; size = size }) name
      ≡ map (common_section more) names
  room-there n e =
      let at : slice_get (sections_for asked) n ≡ Some (common_section asked name)
      = slice_get-map (common_section asked) names n ∙ ap (option_map (common_section asked)) e in
      ap (with_room_at (sections_for asked) (record { common = n; size = size }) name) at
      ∙ ap (λ s. slice_set (sections_for asked) n (common_of name s)) (sym own)
      ∙ sym (changed (common_section asked) (common_section more) name others names n (IsDistinct-distinct bytes_eq (names_in asked)) e)

  -- the common is new
  room-new : (n : ℕ) → n ≡ length names → has_name names name ≡ false
      → with_room (sections_for asked) (record { common = n; size = size }) name ≡ map (common_section more) (names ++ name ∷ [])
  room-new n count none =
      let past : length (sections_for asked) ≤ n = omega (arith, count, length-map names (common_section asked)) in
      let nothing : greatest_size asked name ≡ 0 = greatest-none asked name (sym (distinct-has (names_in asked) name) ∙ none) in
      let exact : size ≡ max size 0 = omega arith in
      let sized : size ≡ greatest_size more name = exact ∙ ap (max size) (sym nothing) ∙ sym own in
      ap (with_room_at (sections_for asked) (record { common = n; size = size }) name) (slice_get_past (sections_for asked) n past)
      ∙ ap (λ s. sections_for asked ++ common_of name s ∷ []) sized
      ∙ ap (λ sections. sections ++ common_section more name ∷ []) (sym (unchanged (common_section asked) (common_section more) name others names none))
      ∙ sym (map-append (common_section more) names (name ∷ []))

  -- room for one more, by the position of its name among all names that begin with these
  pub room-more : (n : ℕ) (extra : List (List ℕ)) → place_in (distinct bytes_eq (names_in more) ++ extra) name ≡ Some n
      → with_room (sections_for asked) (record { common = n; size = size }) name ≡ sections_for more
  room-more n extra e = by_case (has_name names name) refl where
    at : (xs : List (List ℕ)) → distinct bytes_eq (names_in more) ≡ xs → has_name xs name ≡ true → place_in xs name ≡ Some n
    at xs f there = sym (place-prefix xs extra name there) ∙ ap (λ ys. place_in (ys ++ extra) name) (sym f) ∙ e

    by_case : (b : Bool) → has_name names name ≡ b → with_room (sections_for asked) (record { common = n; size = size }) name ≡ sections_for more
    by_case true h =
        let same : distinct bytes_eq (names_in more) ≡ names = names-more ∙ ap (λ b. if b then names else names ++ name ∷ []) h in
        let place = place-some 0 names name n (at names same h) in
        let there : place.0 ≡ n = omega (arith, place.1) in
        room-there n (ap (slice_get names) (sym there) ∙ place.2) ∙ ap (map (common_section more)) (sym same)
    by_case false h =
        let same : distinct bytes_eq (names_in more) ≡ names ++ name ∷ [] = names-more ∙ ap (λ b. if b then names else names ++ name ∷ []) h in
        let last : n ≡ length names = some_same n (length names) (sym (at (names ++ name ∷ []) same (has-last names name)) ∙ place-end names name h) in
        room-new n last h ∙ ap (map (common_section more)) (sym same)

-- room in a common that is there, and in a new one
pub room-set : (commons : List Section) (asked : Option Room) (room : Room) (name : List ℕ) (section : Section) → asked ≡ Some room
    → slice_get commons room.common ≡ Some section
    → slice_set commons room.common (raised room.size section) ≡ with_asked commons asked name
room-set commons asked room name section e there =
    ap (with_room_at commons room name) (sym there) ∙ ap (λ o. with_asked commons o name) (sym e)

pub room-push : (commons : List Section) (asked : Option Room) (room : Room) (name : List ℕ) → asked ≡ Some room → length commons ≤ room.common
    → commons ++ common_of name room.size ∷ [] ≡ with_asked commons asked name
room-push commons asked room name e past =
    ap (with_room_at commons room name) (sym (slice_get_past commons room.common past)) ∙ ap (λ o. with_asked commons o name) (sym e)

-- ---- what a reference resolves to and asks for

-- a reference that resolves to a common and has a positive size requests space there
room-asks : (o u : Option ℕ) (weak : Option Weak) (room : Room) → room_of (resolution_by o u weak) weak ≡ Some room
    → (o ≡ None) × (u ≡ Some room.common) × (common_size weak ≡ room.size) × (not (common_size weak == 0) ≡ true)
room-asks (Some n) u None room e = absurd cc
room-asks (Some n) u (Some weak) room e = absurd cc
room-asks None (Some n) None room e = absurd cc
room-asks None (Some n) (Some weak) room e = by_size (weak.size == 0) refl e where
  by_size : (b : Bool) → (weak.size == 0) ≡ b → if◌then◌else◌ {A = Option Room} b None (Some (record { common = n; size = weak.size })) ≡ Some room
      → (◌≡◌ {A = Option ℕ} None None) × (Some n ≡ Some room.common) × (weak.size ≡ room.size) × (not (weak.size == 0) ≡ true)
  by_size true f g = absurd cc
  by_size false f g =
      let asked : Room = record { common = n; size = weak.size } in
      let same = some_same asked room g in
      (refl, ap (λ (r : Room). Some r.common) same, ap (λ (r : Room). r.size) same, ap not f)
room-asks None None None room e = absurd cc
room-asks None None (Some weak) room e = by_size (weak.size == 0) e where
  by_size : (b : Bool) → room_of (if b then resolutions.Default weak.default else resolutions.Nothing) (Some weak) ≡ Some room
      → (◌≡◌ {A = Option ℕ} None None) × (◌≡◌ {A = Option ℕ} None (Some room.common)) × (weak.size ≡ room.size) × (not (weak.size == 0) ≡ true)
  by_size true f = absurd cc
  by_size false f = absurd cc

-- and what asks is given room
asks-room : (o u : Option ℕ) (n : ℕ) (weak : Option Weak) → o ≡ None → u ≡ Some n → not (common_size weak == 0) ≡ true
    → room_of (resolution_by o u weak) weak ≡ None → ⊥
asks-room (Some k) u n weak f g h e = cc
asks-room None None n weak f g h e = cc
asks-room None (Some k) n None f g h e = cc
asks-room None (Some k) n (Some weak) f g h e = by_size (weak.size == 0) h e where
  by_size : (b : Bool) → not b ≡ true → if◌then◌else◌ {A = Option Room} b None (Some (record { common = k; size = weak.size })) ≡ None → ⊥
  by_size true f g = cc
  by_size false f g = cc

-- what a reference asks for
abbrev pub pair_of : Reference → Asked
pair_of r = (r.name, common_size r.weak)

module _ (m : Parts) where
  -- the publics of the module, by position
  abbrev publics : List Entry
  publics = numbered_from 0 (names_of m.names.publics)

  -- what the references ask for that ask for a common
  abbrev pub asked_by : List Reference → List Asked
  asked_by references = map pair_of (filter (asks publics) references)

  asking-names : (references : List Reference) → names_in (map pair_of references) ≡ map (λ r. r.name) references
  asking-names [] = refl
  asking-names (r ∷ references) = ap (λ rest. r.name ∷ rest) (asking-names references)

  -- the names that they ask for are those of the commons
  all-names : common_list m ≡ distinct bytes_eq (names_in (asked_by m.names.references))
  all-names =
      sym (asked-commons m publics (λ name. refl))
      ∙ asked-names publics [] m.names.references
      ∙ names_after-distinct (map (λ r. r.name) (filter (asks publics) m.names.references))
      ∙ ap (distinct bytes_eq) (sym (asking-names (filter (asks publics) m.names.references)))

  asked-append : (before after : List Reference) → asked_by (before ++ after) ≡ asked_by before ++ asked_by after
  asked-append before after =
      ap (map pair_of) (filter-append (asks publics) before after)
      ∙ map-append pair_of (filter (asks publics) before) (filter (asks publics) after)

  -- one reference more, which asks or does not
  asked-one : (before : List Reference) (r : Reference) (b : Bool) → asks publics r ≡ b
      → asked_by (before ++ r ∷ []) ≡ asked_by before ++ cond b (pair_of r ∷ []) []
  asked-one before r b e =
      asked-append before (r ∷ [])
      ∙ ap (λ c. asked_by before ++ map pair_of (cond c (r ∷ []) [])) e
      ∙ ap (λ asked. asked_by before ++ asked) (by_case b)
    where
      by_case : (b : Bool) → map pair_of (cond b (r ∷ []) []) ≡ cond b (pair_of r ∷ []) []
      by_case true = refl
      by_case false = refl

  -- the names of the commons begin with those that these references ask for
  names-begin : (before after : List Reference) → m.names.references ≡ before ++ after
      → (extra : List (List ℕ)) × (common_list m ≡ distinct bytes_eq (names_in (asked_by before)) ++ extra)
  names-begin before after e =
      let later = distinct-extends (names_in (asked_by before)) (names_in (asked_by after)) in (
        later.0,
        all-names
            ∙ ap (λ (rs : List Reference). distinct bytes_eq (names_in (asked_by rs))) e
            ∙ ap (λ (asked : List Asked). distinct bytes_eq (names_in asked)) (asked-append before after)
            ∙ ap (distinct bytes_eq) (map-append (λ (a : Asked). a.0) (asked_by before) (asked_by after))
            ∙ later.1,
      )

  both : (a b : Bool) → a ≡ true → b ≡ true → (a && b) ≡ true
  both a b e f = ap (λ c. c && b) e ∙ f

  parts_of : (a b : Bool) → (a && b) ≡ true → (a ≡ true) × (b ≡ true)
  parts_of true b e = (refl, e)
  parts_of false b e = absurd cc

  module _ (before after : List Reference) (r : Reference) (e : m.names.references ≡ (before ++ r ∷ []) ++ after) where
    abbrev public_place : Option ℕ
    public_place = place_in (names_of m.names.publics) r.name

    abbrev common_place : Option ℕ
    common_place = place_in (common_list m) r.name

    -- a reference that requests space is given it
    room-given : (room : Room) → room_of (resolution_of m r) r.weak ≡ Some room → with_room (sections_for (asked_by before)) room r.name
        ≡ sections_for (asked_by (before ++ r ∷ []))
    room-given room given =
        let asks_for = room-asks public_place common_place r.weak room given in
        let asking : asks publics r ≡ true = both (is_common r) (is_none public_place) asks_for.3 (ap is_none asks_for.0) in
        let one = asked-one before r true asking in
        let all = names-begin (before ++ r ∷ []) after e in
        let place : place_in (distinct bytes_eq (names_in (asked_by before ++ pair_of r ∷ [])) ++ all.0) r.name ≡ Some room.common
        = ap (λ (asked : List Asked). place_in (distinct bytes_eq (names_in asked) ++ all.0) r.name) (sym one)
        ∙ ap (λ names. place_in names r.name) (sym all.1) ∙ asks_for.1 in
        ap (λ s. with_room (sections_for (asked_by before)) (record { common = room.common; size = s }) r.name) (sym asks_for.2)
        ∙ room-more (asked_by before) r.name (common_size r.weak) room.common all.0 place
        ∙ ap sections_for (sym one)

    -- one that asks for none changes nothing
    none-given : room_of (resolution_of m r) r.weak ≡ None → sections_for (asked_by before) ≡ sections_for (asked_by (before ++ r ∷ []))
    none-given none = by_case (asks publics r) refl where
      there : (o : Option ℕ) → is_none o ≡ false → (n : ℕ) × (o ≡ Some n)
      there None f = absurd cc
      there (Some n) f = (n, refl)

      lacks : (o : Option ℕ) → is_none o ≡ true → o ≡ None
      lacks None f = refl
      lacks (Some n) f = absurd cc

      by_case : (b : Bool) → asks publics r ≡ b → sections_for (asked_by before) ≡ sections_for (asked_by (before ++ r ∷ []))
      by_case false f = ap sections_for (sym (asked-one before r false f ∙ append-nil (asked_by before)))
      by_case true f =
          let two = parts_of (is_common r) (is_none public_place) f in
          let one = asked-one before r true f in
          let all = names-begin (before ++ r ∷ []) after e in
          let named : has_name (distinct bytes_eq (names_in (asked_by before ++ pair_of r ∷ []))) r.name ≡ true
          = distinct-has (names_in (asked_by before ++ pair_of r ∷ [])) r.name
          ∙ ap (λ names. has_name names r.name) (map-append (λ (a : Asked). a.0) (asked_by before) (pair_of r ∷ []))
          ∙ has-last (names_in (asked_by before)) r.name in
          let first = distinct bytes_eq (names_in (asked_by (before ++ r ∷ []))) in
          let held : has_name first r.name ≡ true = ap (λ (asked : List Asked). has_name (distinct bytes_eq (names_in asked)) r.name) one ∙ named in
          let placed : is_none (place_in first r.name) ≡ false = has-place 0 first r.name ∙ ap not held in
          let place = there common_place (ap (λ names. is_none (place_in names r.name)) all.1 ∙ ap is_none (place-prefix first all.0 r.name held) ∙ placed) in
          absurd (asks-room public_place common_place place.0 r.weak (lacks public_place two.1) place.1 two.0 none)

    -- one reference more
    pub room-asked : with_asked (sections_for (asked_by before)) (room_of (resolution_of m r) r.weak) r.name ≡ sections_for (asked_by (before ++ r ∷ []))
    room-asked = by_room (room_of (resolution_of m r) r.weak) refl where
      by_room : (o : Option Room) → room_of (resolution_of m r) r.weak ≡ o → with_asked (sections_for (asked_by before)) o r.name
          ≡ sections_for (asked_by (before ++ r ∷ []))
      by_room None e = none-given e
      by_room (Some room) e = room-given room e

  -- the next of the references
  pub asked-step : (k : ℕ) (r : Reference) → k < length m.names.references → get_or m.names.references k r ≡ r
      → with_asked (sections_for (asked_by (take k m.names.references))) (room_of (resolution_of m r) r.weak) r.name
      ≡ sections_for (asked_by (take (k + 1) m.names.references))
  asked-step k r inside is =
      let all = m.names.references in
      let next : take (k + 1) all ≡ take k all ++ r ∷ [] = take_more all k r inside ∙ ap (λ (x : Reference). take k all ++ x ∷ []) is in
      let whole : all ≡ (take k all ++ r ∷ []) ++ drop (k + 1) all = sym (take-append-drop (k + 1) all)
      ∙ ap (λ (rs : List Reference). rs ++ drop (k + 1) all) next in
      room-asked (take k all) (drop (k + 1) all) r whole ∙ ap (λ (rs : List Reference). sections_for (asked_by rs)) (sym next)

  -- ---- all references

  turned : (b c : Bool) → (b && c) ≡ (c && b)
  turned true true = refl
  turned true false = refl
  turned false true = refl
  turned false false = refl

  abbrev unresolved : Reference → Bool
  unresolved r = not (has_name (public_names (m ∷ [])) r.name)

  asks-is : (r : Reference) → asks publics r ≡ (unresolved r && is_common r)
  asks-is r =
      turned (is_common r) (is_none (place_in (names_of m.names.publics) r.name))
      ∙ ap (λ b. b && is_common r) (has-place 0 (names_of m.names.publics) r.name
      ∙ ap (λ names. not (has_name names r.name)) (sym (append-nil (names_of m.names.publics))))

  all-asked : asked_by m.names.references ≡ map pair_of (filter is_common (unresolved_references (m ∷ [])))
  all-asked =
      ap (map pair_of)
      (filter-same (asks publics) (λ r. unresolved r && is_common r) asks-is m.names.references
      ∙ sym (filter-both is_common unresolved m.names.references)
      ∙ ap (λ (rs : List Reference). filter is_common (filter unresolved rs)) (sym (append-nil m.names.references)))

  each : (f g : List ℕ → Section) → ((name : List ℕ) → f name ≡ g name) → (xs : List (List ℕ)) → map f xs ≡ map g xs
  each f g same [] = refl
  each f g same (x ∷ xs) = let here = same x in let rest = each f g same xs in λ i. here i ∷ rest i

  -- the commons as sections after all references are those of the module
  pub all-sections : sections_for (asked_by m.names.references) ≡ common_sections (m ∷ [])
  all-sections =
      each (common_section (asked_by m.names.references)) (common_section (commons (m ∷ [])))
      (λ name. ap (common_of name) (ap (λ (asked : List Asked). greatest_size asked name) all-asked
      ∙ sym (greatest-distinct (map pair_of (filter is_common (unresolved_references (m ∷ [])))) name)))
      (distinct bytes_eq (names_in (asked_by m.names.references)))
      ∙ ap (map (common_section (commons (m ∷ [])))) (sym all-names)
