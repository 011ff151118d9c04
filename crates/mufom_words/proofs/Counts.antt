-- No more words name files than there are words: at each word of a walk, what it holds for them
-- grows by at most one.
use Rattle.std.proofs.Common.{◌≡◌, ◌∙◌, ◌≤◌, ◌+◌, ◌⊎◌, ℕ, Bool, cond, true, false, zero, suc, refl, sym, ap, arith, codes, List, [], ◌∷◌, ◌++◌}
use Rattle.std.proofs.Common.{length, drop, Option, Some, None, inl, inr, fold, zero-add, length-append, length-drop, ◌&&◌}
use Rattle.std.specs.Prelude.{find, min, slice_get, encode_utf8}
use Rattle.std.specs.Option.{IfSome, option_map, unwrap_or}
use Rattle.std.specs.Str.{bytes_eq, chars}
use Rattle.std.proofs.lemmas.Slice.Eq.{bytes_eq-Decides}
use Rattle.clap.specs.Lexer.{long_of, short_of}
use Rattle.clap.specs.Simple.{argument_words, built, names_of}
use Rattle.clap.specs.Walk.{Held, Names, Outcome, Row, Rule, Step, Text, Waiting, Walk, action_of, after_flag, after_step, all_of, arg_by_id}
use Rattle.clap.specs.Walk.{arg_by_index, arg_by_long, arg_by_short, at_row, attached_value, count_of, bundle, bundle_met, bundle_step, counted}
use Rattle.clap.specs.Walk.{default_rows, done, flag_met, has_row, is_pending, long_met, long_or_other, more_values, new_count, next, nothing_held}
use Rattle.clap.specs.Walk.{option, option_met, option_word, plain, plain_word, positional_held, pushed, reacted, reading_by, refused, rows_after}
use Rattle.clap.specs.Walk.{settled, settled_rows, short_met, short_or_plain, subcommand, subcommand_met, subcommand_or_other, takes_several}
use Rattle.clap.specs.Walk.{takes_values, to_positional, trailing, used, used_as, used_by_id, value, values_or_missing, waits, walk, walk_from}
use Rattle.clap.specs.Walk.{walked, walked_from, with_count, with_default, with_values, without, word_met}
use Rattle.clap.specs.Walk.{idle, positional}
use Rattle.mufom_words.specs.declared.form.Form.{Form}
use Rattle.mufom_words.specs.declared.form.Form.TheVariants as form
use Rattle.mufom_words.specs.Options.{app_for}
use Rattle.mufom_words.specs.Answer.{given}
use Rattle.clap.specs.declared.builder.action.ArgAction.{ArgAction}
use Rattle.clap.specs.declared.builder.action.ArgAction.TheVariants.{Set, Append, SetTrue, SetFalse, Count, Help, HelpShort, HelpLong, Version}
use Rattle.clap.specs.declared.builder.value_parser.Reading.{Reading}
use Rattle.clap.specs.declared.parser.matches.ValueSource.{ValueSource}
use Rattle.clap.specs.declared.parser.matches.ValueSource.TheVariants.{CommandLine, DefaultValue}

-- ---- rows

abbrev files : Text
files = codes "files"

abbrev is_files : Text → Bool
is_files id = bytes_eq id files

-- the row of the words that name files
abbrev files_row : List Row → Option Row
files_row rows = find (λ r. is_files r.id) rows

abbrev number : Option Row → ℕ
number row = length (unwrap_or (option_map (λ r. r.values) row) [])

-- how many words name files
abbrev pub count : List Row → ℕ
count rows = length (unwrap_or (all_of (codes "files") rows) [])

-- a row with another id
passed : (id : Text) (r : Row) (row : Option Row) → is_files id ≡ false → cond (is_files id) (Some r) row ≡ row
passed id r row other = ap (λ b. cond b (Some r) row) other

met : (id : Text) (r : Row) (row : Option Row) → is_files id ≡ true → number (cond (is_files id) (Some r) row) ≡ length r.values
met id r row own = ap (λ b. number (cond b (Some r) row)) own

-- a change at another id leaves the row
at_row-other : (id : Text) (change : Row → List Row) (missing rows : List Row) → is_files id ≡ false
    → ((r : Row) (rest : List Row) → is_files r.id ≡ false → files_row (change r ++ rest) ≡ files_row rest) → files_row missing ≡ None
    → files_row (at_row id change missing rows) ≡ files_row rows
at_row-other id change missing [] other keeps new = new
at_row-other id change missing (r ∷ rows) other keeps new = go (bytes_eq r.id id) refl (at_row-other id change missing rows other keeps new)
  where
    go : (b : Bool) → bytes_eq r.id id ≡ b → files_row (at_row id change missing rows) ≡ files_row rows
        → files_row (cond b (change r ++ rows) (r ∷ at_row id change missing rows)) ≡ files_row (r ∷ rows)
    go true e rest =
        let as_id : is_files r.id ≡ false = ap is_files ((bytes_eq-Decides r.id id).0 e) ∙ other in
        keeps r rows as_id ∙ sym (passed r.id r (files_row rows) as_id)
    go false e rest = ap (λ row. cond (is_files r.id) (Some r) row) rest

module _ (id : Text) (other : is_files id ≡ false) where
  without-other : (rows : List Row) → files_row (without id rows) ≡ files_row rows
  without-other rows = at_row-other id (λ _. []) [] rows other (λ r rest e. refl) refl

  with_values-other : (how : Reading) (s : ValueSource) (values : List Text) (rows : List Row) → files_row (with_values id how s values rows) ≡ files_row rows
  with_values-other how s values rows = at_row-other id (more_values s values) _ rows other (λ r rest e. passed r.id _ (files_row rest) e)
      (passed id _ None other)

  with_count-other : (how : Reading) (s : ValueSource) (n : ℕ) (rows : List Row) → files_row (with_count id how s n rows) ≡ files_row rows
  with_count-other how s n rows = at_row-other id (new_count s n) _ rows other (λ r rest e. passed r.id _ (files_row rest) e) (passed id _ None other)

  replaced-other : (how : Reading) (values : List Text) (rows : List Row) → files_row (with_values id how CommandLine values (without id rows)) ≡ files_row rows
  replaced-other how values rows = with_values-other how CommandLine values (without id rows) ∙ without-other rows

  counted-other : (how : Reading) (values : List Text) (rows : List Row) → files_row (counted id how values rows) ≡ files_row rows
  counted-other how [] rows = with_count-other how CommandLine (min (count_of id rows + 1) 255) (without id rows) ∙ without-other rows
  counted-other how (v ∷ values) rows = replaced-other how (v ∷ values) rows

  used_as-other : (action : ArgAction) (how : Reading) (values : List Text) (rows : List Row) → files_row (used_as action id how values rows) ≡ files_row rows
  used_as-other Set how values rows = replaced-other how values rows
  used_as-other SetTrue how values rows = replaced-other how values rows
  used_as-other SetFalse how values rows = replaced-other how values rows
  used_as-other Append how values rows = with_values-other how CommandLine values rows
  used_as-other Count how values rows = counted-other how values rows
  used_as-other Help how values rows = refl
  used_as-other HelpShort how values rows = refl
  used_as-other HelpLong how values rows = refl
  used_as-other Version how values rows = refl

  default_rows-other : (how : Reading) (values : List Text) (rows : List Row) → files_row (default_rows id how values rows) ≡ files_row rows
  default_rows-other how [] rows = refl
  default_rows-other how (v ∷ values) rows = with_values-other how DefaultValue (v ∷ values) rows

-- values at the id itself are added
with_values-files : (how : Reading) (s : ValueSource) (values : List Text) (rows : List Row) → count (with_values files how s values rows)
    ≡ count rows + length values
with_values-files how s values [] = sym (zero-add (length values))
with_values-files how s values (r ∷ rows) = go (is_files r.id) refl (with_values-files how s values rows)
  where
    go : (b : Bool) → is_files r.id ≡ b → count (with_values files how s values rows) ≡ count rows + length values
        → number (files_row (cond b (more_values s values r ++ rows) (r ∷ with_values files how s values rows)))
        ≡ number (cond b (Some r) (files_row rows)) + length values
    go true e rest = met r.id _ (files_row rows) e ∙ length-append r.values values
    go false e rest = ap (λ b. number (cond b (Some r) (files_row (with_values files how s values rows)))) e ∙ rest

-- ---- one use of an argument

-- the argument is another one, or it adds its values to those of earlier uses
abbrev pub IsMild : Rule → Type 0
IsMild a = (is_files a.id ≡ false) ⊎ ((a.id ≡ files) × (action_of a ≡ Append) × (a.missing ≡ []) × (a.defaults ≡ []))

abbrev pub AreMild : List Rule → Type 0
AreMild [] = Unit {0}
AreMild (a ∷ rules) = IsMild a × AreMild rules

found_mild : (p : Rule → Bool) (rules : List Rule) → AreMild rules → IfSome (find p rules) (λ a. IsMild a × (p a ≡ true))
found_mild p [] mild = tt
found_mild p (a ∷ rules) mild = go (p a) refl (found_mild p rules mild.1)
  where
    go : (b : Bool) → p a ≡ b → IfSome (find p rules) (λ x. IsMild x × (p x ≡ true)) → IfSome (cond b (Some a) (find p rules)) (λ x. IsMild x × (p x ≡ true))
    go true e rest = (mild.0, e)
    go false e rest = rest

mild_found : (p : Rule → Bool) (rules : List Rule) → AreMild rules → IfSome (find p rules) IsMild
mild_found p rules mild = go (find p rules) (found_mild p rules mild)
  where
    go : (o : Option Rule) → IfSome o (λ a. IsMild a × (p a ≡ true)) → IfSome o IsMild
    go None found = tt
    go (Some a) found = found.0

-- the values that count
abbrev share : Text → List Text → ℕ
share id values = cond (is_files id) (length values) 0

same_values : (a : Rule) (values : List Text) → a.missing ≡ [] → values_or_missing a values ≡ values
same_values a [] none = none
same_values a (v ∷ values) none = refl

used_as-Append : (action : ArgAction) (id : Text) (how : Reading) (values : List Text) (rows : List Row) → action ≡ Append → id ≡ files
    → count (used_as action id how values rows) ≡ count rows + length values
used_as-Append action id how values rows append as_files = rw (append, as_files) (with_values-files how CommandLine values rows)

count-used : (a : Rule) (values : List Text) (rows : List Row) → IsMild a → count (used a values rows) ≤ count rows + share a.id values
count-used a values rows mild = elim mild [
  | inl other ↦
      let same : count (used a values rows) ≡ count rows = ap number
      (used_as-other a.id other (action_of a) (reading_by a) (values_or_missing a values) rows) in
      omega arith
  | inr own ↦
      let more : count (used a values rows) ≡ count rows + length (values_or_missing a values) =
      used_as-Append (action_of a) a.id (reading_by a) (values_or_missing a values) rows own.1 own.0 in
      let all : share a.id values ≡ length values = ap (λ id. share id values) own.0 in
      let given : length (values_or_missing a values) ≡ length values = ap length (same_values a values own.2) in
      omega arith
]

-- ---- what a walk holds

abbrev waiting : Option (Text × List Text) → ℕ
waiting None = 0
waiting (Some p) = share p.0 p.1

-- the words that name files, those of the pending argument too
abbrev held : Held → ℕ
held h = count h.rows + waiting h.pending

share_of : (id : Text) (values : List Text) → share id values ≤ length values
share_of id values = go (is_files id)
  where
    go : (b : Bool) → cond b (length values) 0 ≤ length values
    go true = omega arith
    go false = omega arith

share-more : (id : Text) (values : List Text) (word : Text) → share id (values ++ word ∷ []) ≤ share id values + 1
share-more id values word = go (is_files id)
  where
    go : (b : Bool) → cond b (length (values ++ word ∷ [])) 0 ≤ cond b (length values) 0 + 1
    go true =
        let more = length-append values (word ∷ []) in
        omega arith
    go false = omega arith

held-pushed : (id word : Text) (h : Held) → held (pushed id word h) ≤ held h + 1
held-pushed id word h = go h.pending
  where
    go : (p : Option (Text × List Text)) → count h.rows + waiting (pushed id word (record h { pending = p })).pending ≤ count h.rows + waiting p + 1
    go None =
        let more = share-more id [] word in
        let none = share_of id [] in
        omega arith
    go (Some p) =
        let more = share-more p.0 p.1 word in
        omega arith

-- how much a flag word may add where it comes to this
abbrev spent : Outcome → ℕ
spent done = 1
spent (waits id) = 1
spent plain = 0
spent refused = 0

-- and how much is left to a word that is a value
abbrev room : Step → ℕ
room value = 1
room (next w) = 0
room (trailing position) = 0
room (subcommand name) = 0

module _ (c : List Rule) (mild : AreMild c) where
  settled_rows-held : (p : Option (Text × List Text)) (rows : List Row) → count (settled_rows c p rows) ≤ count rows + waiting p
  settled_rows-held None rows = omega arith
  settled_rows-held (Some p) rows = go (arg_by_id c p.0) (found_mild (λ a. bytes_eq a.id p.0) c mild)
    where
      go : (o : Option Rule) → IfSome o (λ a. IsMild a × (bytes_eq a.id p.0 ≡ true)) → count (used_by_id o p.1 rows) ≤ count rows + share p.0 p.1
      go None found = omega arith
      go (Some a) found =
          let more = count-used a p.1 rows found.0 in
          let same : share a.id p.1 ≡ share p.0 p.1 = ap (λ id. share id p.1) ((bytes_eq-Decides a.id p.0).0 found.1) in
          omega arith

  held-settled : (h : Held) → held (settled c h) ≤ held h
  held-settled h =
      let less = settled_rows-held h.pending h.rows in
      omega arith

  held-reacted : (a : Rule) (values : List Text) (h : Held) → IsMild a → held (reacted c a values h) ≤ held h + length values
  held-reacted a values h own =
      let less = settled_rows-held h.pending h.rows in
      let more = count-used a values (settled c h).rows own in
      let all = share_of a.id values in
      omega arith

  -- ---- a flag word

  held-option_met : (a : Rule) (v : Option Text) (h : Held) → IsMild a → held (option_met c a v h).0 ≤ held h + spent (option_met c a v h).1
  held-option_met a (Some v) h own = held-reacted a (v ∷ []) h own
  held-option_met a None h own =
      let less = settled_rows-held h.pending h.rows in
      let none = share_of a.id [] in
      omega arith

  held-flag_met : (a : Rule) (v : Option Text) (h : Held) → IsMild a → held (flag_met c a v h).0 ≤ held h + spent (flag_met c a v h).1
  held-flag_met a (Some v) h own = omega arith
  held-flag_met a None h own =
      let more = held-reacted a [] h own in
      omega arith

  held-long_met : (found : Option Rule) (v : Option Text) (h : Held) → IfSome found IsMild
      → held (long_met c found v h).0 ≤ held h + spent (long_met c found v h).1
  held-long_met None v h own = omega arith
  held-long_met (Some a) v h own = go (takes_values a)
    where
      go : (b : Bool) → held (cond b (option_met c a v h) (flag_met c a v h)).0 ≤ held h + spent (cond b (option_met c a v h) (flag_met c a v h)).1
      go true = held-option_met a v h own
      go false = held-flag_met a v h own

  held-short_met : (found : Option Rule) (rest : Text) (h : Held) (rest_met : Held → Held × Outcome) → IfSome found IsMild
      → ((g : Held) → held (rest_met g).0 ≤ held g + spent (rest_met g).1)
      → held (short_met c found rest h rest_met).0 ≤ held h + spent (short_met c found rest h rest_met).1
  held-short_met None rest h rest_met own bound = omega arith
  held-short_met (Some a) rest h rest_met own bound = go (takes_values a)
    where
      go : (b : Bool) → held (cond b (option_met c a (attached_value rest) h) (rest_met (reacted c a [] h))).0
          ≤ held h + spent (cond b (option_met c a (attached_value rest) h) (rest_met (reacted c a [] h))).1
      go true = held-option_met a (attached_value rest) h own
      go false =
          let more = held-reacted a [] h own in
          let after = bound (reacted c a [] h) in
          omega arith

  held-bundle_step : (x : Option ℕ) (flags : Text) (skip : ℕ) (so_far : Outcome) (h : Held) (rest_met : Text → ℕ → Outcome → Held → Held × Outcome)
      → ((rest : Text) (n : ℕ) (o : Outcome) (g : Held) → held (rest_met rest n o g).0 ≤ held g + spent (rest_met rest n o g).1)
      → held (bundle_step c x flags skip so_far h rest_met).0 ≤ held h + spent (bundle_step c x flags skip so_far h rest_met).1
  held-bundle_step None flags skip so_far h rest_met bound = omega arith
  held-bundle_step (Some x) flags zero so_far h rest_met bound =
      let rest = drop (length (encode_utf8 x)) flags in
      held-short_met (arg_by_short c x) rest h (rest_met rest 0 done) (mild_found _ c mild) (bound rest 0 done)
  held-bundle_step (Some x) flags (suc skip) so_far h rest_met bound = bound (drop (length (encode_utf8 x)) flags) skip so_far h

  held-bundle_met : (k : ℕ) (flags : Text) (skip : ℕ) (so_far : Outcome) (h : Held)
      → held (bundle_met c k flags skip so_far h).0 ≤ held h + spent (bundle_met c k flags skip so_far h).1
  unfolding bundle_met
  held-bundle_met zero flags skip so_far h = omega arith
  held-bundle_met (suc k) flags skip so_far h = held-bundle_step (slice_get (chars flags) 0) flags skip so_far h (bundle_met c k) (held-bundle_met k)

  -- ---- a word

  held-plain_word : (w : Waiting) (word : Text) (h : Held) → held (plain_word c w word h).0 + room (plain_word c w word h).1 ≤ held h + 1
  held-plain_word idle word h = omega arith
  held-plain_word positional word h = omega arith
  held-plain_word (option id) word h =
      let more = go (arg_by_id c id) in
      omega arith
    where
      go : (o : Option Rule) → held (option_word o id word h).0 ≤ held h + 1
      go None = omega arith
      go (Some a) = held-pushed id word h

  held-after_flag : (w : Waiting) (word : Text) (h : Held) (n : ℕ) (o : Outcome) → held h ≤ n + spent o
      → held (after_flag c w word h o).0 + room (after_flag c w word h o).1 ≤ n + 1
  held-after_flag w word h n done less = omega arith
  held-after_flag w word h n (waits id) less = omega arith
  held-after_flag w word h n plain less =
      let more = held-plain_word w word h in
      omega arith
  held-after_flag w word h n refused less =
      let more = held-plain_word w word h in
      omega arith

  held-short_or_plain : (w : Waiting) (word : Text) (flags : Option Text) (h : Held)
      → held (short_or_plain c w word flags h).0 + room (short_or_plain c w word flags h).1 ≤ held h + 1
  held-short_or_plain w word None h = held-plain_word w word h
  held-short_or_plain w word (Some flags) h =
      held-after_flag w word (bundle c flags h).0 (held h) (bundle c flags h).1 (held-bundle_met (length flags) flags h.skip plain (record h { skip = 0 }))

  held-long_or_other : (w : Waiting) (word : Text) (name : Option (Text × Option Text)) (h : Held)
      → held (long_or_other c w word name h).0 + room (long_or_other c w word name h).1 ≤ held h + 1
  held-long_or_other w word None h = held-short_or_plain w word (short_of word) h
  held-long_or_other w word (Some p) h =
      let met = long_met c (arg_by_long c p.0) p.1 h in
      held-after_flag w word met.0 (held h) met.1 (held-long_met (arg_by_long c p.0) p.1 h (mild_found _ c mild))

  held-other : (name : Option Text) (w : Waiting) (position : ℕ) (word : Text) (h : Held)
      → held (subcommand_or_other c name w position word h).0 + room (subcommand_or_other c name w position word h).1 ≤ held h + 1
  held-other (Some name) w position word h = omega arith
  held-other None w position word h = go (bytes_eq word (45 ∷ 45 ∷ []))
    where
      go : (b : Bool) → held (cond b (h, trailing position) (long_or_other c w word (long_of word) h)).0
          + room (cond b (h, trailing position) (long_or_other c w word (long_of word) h)).1 ≤ held h + 1
      go true = omega arith
      go false = held-long_or_other w word (long_of word) h

  held-word_met : (names : Names) (is_trailing : Bool) (w : Waiting) (position : ℕ) (word : Text) (h : Held)
      → held (word_met c names is_trailing w position word h).0 + room (word_met c names is_trailing w position word h).1 ≤ held h + 1
  held-word_met names true w position word h = omega arith
  held-word_met names false w position word h = held-other (subcommand_met names w word) w position word h

  held-positional : (a : Rule) (word : Text) (h : Held) → held (positional_held c a word h) ≤ held h + 1
  held-positional a word h = go (is_pending a h.pending && takes_several a)
    where
      go : (b : Bool) → held (pushed a.id word (cond b h (settled c h))) ≤ held h + 1
      go true = held-pushed a.id word h
      go false =
          let less = held-settled h in
          let more = held-pushed a.id word (settled c h) in
          omega arith

  held-to_positional : (o : Option Rule) (word : Text) (w : Walk) (h : Held) → held (to_positional c o word w h).held ≤ held h + 1
  held-to_positional None word w h = omega arith
  held-to_positional (Some a) word w h = held-positional a word h

  held-after_step : (word : Text) (w : Walk) (h : Held) (step : Step) → held (after_step c word w h step).held ≤ held h + room step
  held-after_step word w h (next waits_now) = omega arith
  held-after_step word w h (trailing position) = omega arith
  held-after_step word w h (subcommand name) = omega arith
  held-after_step word w h value = held-to_positional (arg_by_index c w.position) word w h

  held-walked_from : (names : Names) (stopped : Option (Text × List Text)) (w : Walk) (word : Text)
      → held (walked_from c names stopped w word).held ≤ held w.held + 1
  held-walked_from names (Some p) w word = omega arith
  held-walked_from names None w word =
      let met = word_met c names w.is_trailing w.waiting w.position word w.held in
      let before = held-word_met names w.is_trailing w.waiting w.position word w.held in
      let after = held-after_step word w met.0 met.1 in
      omega arith

  held-walked : (names : Names) (w : Walk) (word : Text) → held (walked c names w word).held ≤ held w.held + 1
  unfolding walked
  held-walked names w word = held-walked_from names w.stopped w word

  -- ---- all words

  held-walk : (names : Names) (words : List Text) (w : Walk) → held (fold (walked c names) w words).held ≤ held w.held + length words
  held-walk names [] w = omega arith
  held-walk names (word ∷ words) w =
      let first = held-walked names w word in
      let rest = held-walk names words (walked c names w word) in
      omega arith

-- a default adds nothing
count-default : (a : Rule) (rows : List Row) → IsMild a → count (with_default rows a) ≡ count rows
count-default a rows mild = go (has_row a.id rows)
  where
    default : count (default_rows a.id (reading_by a) a.defaults rows) ≡ count rows
    default = elim mild [
      | inl other ↦ ap number (default_rows-other a.id other (reading_by a) a.defaults rows)
      | inr own ↦ ap (λ values. count (default_rows a.id (reading_by a) values rows)) own.3
    ]

    go : (b : Bool) → count (cond b rows (default_rows a.id (reading_by a) a.defaults rows)) ≡ count rows
    go true = refl
    go false = default

count-defaults : (rules : List Rule) (rows : List Row) → AreMild rules → count (fold with_default rows rules) ≡ count rows
count-defaults [] rows mild = refl
count-defaults (a ∷ rules) rows mild = count-defaults rules (with_default rows a) mild.1 ∙ count-default a rows mild.0

count-rows_after : (c : List Rule) (names : Names) (words : List Text) → AreMild c → count (rows_after c names words) ≤ length words
count-rows_after c names words mild =
    let end = (walk c names nothing_held words).held in
    let walk = held-walk c mild names words (walk_from nothing_held) in
    let settle = settled_rows-held c mild end.pending end.rows in
    let default = count-defaults c (settled c end).rows mild in
    omega arith

-- ---- the commands

app_for-mild : (f : Form) → AreMild (built (app_for f)).top.rules
app_for-mild form.Show = (inl refl, (inl refl, (inl refl, (inr (refl, refl, refl, refl), tt))))
app_for-mild form.Check = (inl refl, (inl refl, (inr (refl, refl, refl, refl), tt)))
app_for-mild form.Link = (inl refl, (inl refl, (inl refl, (inl refl, (inr (refl, refl, refl, refl), tt)))))
app_for-mild form.Locate = (inl refl, (inl refl, (inl refl, (inl refl, (inl refl, (inr (refl, refl, refl, refl), tt))))))
app_for-mild form.Dump = (inl refl, (inl refl, (inl refl, (inl refl, (inr (refl, refl, refl, refl), tt)))))
app_for-mild form.Map = (inl refl, (inl refl, (inl refl, (inl refl, (inl refl, (inr (refl, refl, refl, refl), tt))))))
app_for-mild form.Make = (inr (refl, refl, refl, refl), tt)
app_for-mild form.Addr = (inl refl, (inl refl, (inl refl, (inr (refl, refl, refl, refl), tt))))
app_for-mild form.Bin = (inl refl, (inl refl, (inl refl, (inl refl, (inl refl, (inl refl, (inl refl, (inr (refl, refl, refl, refl), tt))))))))
app_for-mild form.Txt = (inl refl, (inl refl, (inl refl, (inl refl, (inl refl, (inr (refl, refl, refl, refl), tt))))))
app_for-mild form.FromTxt = (inl refl, (inl refl, (inr (refl, refl, refl, refl), tt)))
app_for-mild form.Build = (inl refl, (inr (refl, refl, refl, refl), tt))

app_for-words : (f : Form) (words : List Text) → argument_words (app_for f) words ≡ drop 1 words
app_for-words form.Show words = refl
app_for-words form.Check words = refl
app_for-words form.Link words = refl
app_for-words form.Locate words = refl
app_for-words form.Dump words = refl
app_for-words form.Map words = refl
app_for-words form.Make words = refl
app_for-words form.Addr words = refl
app_for-words form.Bin words = refl
app_for-words form.Txt words = refl
app_for-words form.FromTxt words = refl
app_for-words form.Build words = refl

pub operands-within : (f : Form) (words : List Text) → length (given f words).operands ≤ length words
operands-within f words =
    let after = count-rows_after (built (app_for f)).top.rules (names_of (built (app_for f))) (argument_words (app_for f) words) (app_for-mild f) in
    let fewer : length (argument_words (app_for f) words) ≡ length (drop 1 words) = ap length (app_for-words f words) in
    let drops = length-drop 1 words in
    omega arith
