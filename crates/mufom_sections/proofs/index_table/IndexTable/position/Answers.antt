use Rattle.std.proofs.Common.{◌≡◌, ◌+◌, ◌++◌, ◌∙◌, List, ℕ, false, ap, sym, refl, nat_eq, position, length, is_some, Some, None, true≢false}
use Rattle.std.specs.List.{list_any}
use Rattle.mufom_sections.proofs.PlacesLemmas.{position-found, position-first, position-second, position-absent, slice_get-position}
use Rattle.mufom_sections.proofs.TableLemmas.{lacks, lacks_both, position-flipped, is_declared}
use Rattle.mufom_sections.proofs.index_table.IndexTable.position.Goals as goal

-- an index of the row
in_row : (k place : ℕ) (row others ks : List ℕ) → Some place ≡ position (nat_eq k) row → row ++ others ≡ ks → position (nat_eq k) ks ≡ Some place
in_row k place row others ks at is =
    ap (position (nat_eq k)) (sym is)
    ∙ position-first (nat_eq k) row others (sym (position-found (nat_eq k) row) ∙ ap is_some (sym at))
    ∙ sym at

-- an index behind the row
behind_row : (k place long : ℕ) (row others ks : List ℕ) → None ≡ position (nat_eq k) row → Some place ≡ position (nat_eq k) others
    → long ≡ length row → row ++ others ≡ ks → position (nat_eq k) ks ≡ Some (long + place)
behind_row k place long row others ks none at lengths is =
    ap (position (nat_eq k)) (sym is)
    ∙ position-second (nat_eq k) row others place (sym (position-found (nat_eq k) row) ∙ ap is_some (sym none)) (sym at)
    ∙ ap (λ n. Some (n + place)) (sym lengths)

-- an index that is not declared
nowhere : (k : ℕ) (row others ks : List ℕ) → None ≡ position (nat_eq k) row → None ≡ position (nat_eq k) others → row ++ others ≡ ks
    → list_any (nat_eq k) ks ≡ false
nowhere k row others ks none none_more is =
    lacks_both k row others ks (sym (position-found (nat_eq k) row) ∙ ap is_some (sym none))
    (sym (position-found (nat_eq k) others) ∙ ap is_some (sym none_more)) is

pub returns-in-Some-clause-declared : goal.returns-in-Some-clause-declared
returns-in-Some-clause-declared c =
    let at = in_row c.args.index c.in-Some.place c.self.inside.row c.self.inside.others c.args.self.now c.in-Some.ensures c.self.view_is in
    (λ _. is_declared c.args.index c.in-Some.place c.args.self.now at, λ _. refl)

pub returns-in-Some-clause-there : goal.returns-in-Some-clause-there
returns-in-Some-clause-there c =
    let at = in_row c.args.index c.in-Some.place c.self.inside.row c.self.inside.others c.args.self.now c.in-Some.ensures c.self.view_is in
    slice_get-position c.args.index c.in-Some.place c.args.self.now at

pub returns-in-Some-clause-value : goal.returns-in-Some-clause-value
returns-in-Some-clause-value c =
    let at = in_row c.args.index c.in-Some.place c.self.inside.row c.self.inside.others c.args.self.now c.in-Some.ensures c.self.view_is in
    sym at ∙ position-flipped c.args.index c.args.self.now

pub returns-in_err-place-clause-declared : goal.returns-in_err-place-clause-declared
returns-in_err-place-clause-declared c =
    let none = nowhere c.args.index c.self.inside.row c.self.inside.others c.args.self.now c.in_default.ensures c.in_err-place.ensures c.self.view_is in
    rw c.from_residual.ensures (λ some. absurd (true≢false (sym some)), λ has. absurd (lacks c.args.index c.args.self.now none has))

pub returns-in_err-place-clause-value : goal.returns-in_err-place-clause-value
returns-in_err-place-clause-value c =
    let none = nowhere c.args.index c.self.inside.row c.self.inside.others c.args.self.now c.in_default.ensures c.in_err-place.ensures c.self.view_is in
    c.from_residual.ensures ∙ sym (position-absent (nat_eq c.args.index) c.args.self.now none) ∙ position-flipped c.args.index c.args.self.now

pub returns-clause-declared : goal.returns-clause-declared
returns-clause-declared c =
    let at = behind_row c.args.index c.in_ok-place.place c.len.result c.self.inside.row c.self.inside.others c.args.self.now
    c.in_default.ensures c.in_ok-place.ensures c.len.ensures c.self.view_is in
    (λ _. is_declared c.args.index (c.len.result + c.in_ok-place.place) c.args.self.now at, λ _. refl)

pub returns-clause-there : goal.returns-clause-there
returns-clause-there c =
    let at = behind_row c.args.index c.in_ok-place.place c.len.result c.self.inside.row c.self.inside.others c.args.self.now
    c.in_default.ensures c.in_ok-place.ensures c.len.ensures c.self.view_is in
    slice_get-position c.args.index (c.len.result + c.in_ok-place.place) c.args.self.now at

pub returns-clause-value : goal.returns-clause-value
returns-clause-value c =
    let at = behind_row c.args.index c.in_ok-place.place c.len.result c.self.inside.row c.self.inside.others c.args.self.now
    c.in_default.ensures c.in_ok-place.ensures c.len.ensures c.self.view_is in
    sym at ∙ position-flipped c.args.index c.args.self.now
