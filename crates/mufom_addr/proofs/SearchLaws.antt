-- One more entry: what it adds to the functions, the lines and the line numbers.
use Rattle.std.proofs.Common.{◌≡◌, ℕ, Bool, true, false, List, [], ◌∷◌, ◌++◌, Option, Some, None, cond, option_map, option_to_list, refl, sym, ap}
use Rattle.std.proofs.Common.{subst, ◌∙◌, append_assoc, append-nil, reverse, nat_le, ◌==◌, if◌then◌else◌}
use Rattle.std.proofs.lemmas.List.{reverse-append}
use Rattle.std.proofs.lemmas.List.Elements.{filter-append}
use Rattle.std.specs.Prelude.{filter}
use Rattle.std.specs.Option.{option_or}
use Rattle.mufom_expr.specs.Tree.{Tree}
use Rattle.mufom_names.specs.declared.name.Note.{Note}
use Rattle.mufom_addr.specs.declared.hit.LineHit.{LineHit}
use Rattle.mufom_addr.specs.declared.search.Search.{Search}
use Rattle.mufom_addr.specs.Entries.{Entry, block, note, value}
use Rattle.mufom_addr.specs.Greatest.{first_greatest}
use Rattle.mufom_addr.specs.AddressHit.{Function, function_begin, function_between, functions_of, innermost, is_around, line_at, line_given, line_of}
use Rattle.mufom_addr.specs.AddressHit.{lines_after, nearest}
use Rattle.mufom_expr.specs.Numbers.{number_of}
use Rattle.mufom_addr.specs.Search.{HasSeen, SeesMore, function_held, line_held, number_for, or_greater, with_function, with_line}
use Rattle.mufom_addr.proofs.GreatestLaws.{first_greatest-push}

-- ---- functions

functions-append : (xs ys : List Entry) → functions_of (xs ++ ys) ≡ functions_of xs ++ functions_of ys
functions-append [] ys = refl
functions-append (block depth head name end ∷ xs) ys =
    let own = function_between depth head name (function_begin head) end in
    ap (λ fs. own ++ fs) (functions-append xs ys) ∙ sym (append_assoc own (functions_of xs) (functions_of ys))
functions-append (note name n ∷ xs) ys = functions-append xs ys
functions-append (value source name v ∷ xs) ys = functions-append xs ys

-- the first of the greatest of those that pass a test, after one more
one_more : {X : Type 0} (key : X → ℕ) (test : X → Bool) (xs : List X) (x : X) (b : Bool) → test x ≡ b
    → first_greatest key (filter test xs ++ cond b (x
    ∷ []) []) ≡ cond b (or_greater key (first_greatest key (filter test xs)) x) (first_greatest key (filter test xs))
one_more key test xs x true is = first_greatest-push key (filter test xs) x
one_more key test xs x false is = ap (first_greatest key) (append-nil (filter test xs))

innermost-functions : (address : ℕ) (fs : List Function) (f : Option Function)
    → first_greatest (λ (g : Function). g.depth) (filter (is_around address) (fs ++ option_to_list f))
    ≡ with_function address (first_greatest (λ (g : Function). g.depth) (filter (is_around address) fs)) f
innermost-functions address fs None = ap (λ gs. first_greatest (λ (g : Function). g.depth) (filter (is_around address) gs)) (append-nil fs)
innermost-functions address fs (Some f) =
    ap (first_greatest (λ (g : Function). g.depth)) (filter-append (is_around address) fs (f ∷ []))
    ∙ one_more (λ (g : Function). g.depth) (is_around address) fs f (is_around address f) refl

innermost-more : (address : ℕ) (entries : List Entry) (e : Entry) (f : Option Function) → functions_of (e ∷ []) ≡ option_to_list f
    → innermost address (entries ++ e ∷ []) ≡ with_function address (innermost address entries) f
innermost-more address entries e f own =
    let among : List Function → Option Function = λ fs. first_greatest (λ (g : Function). g.depth) (filter (is_around address) fs) in
    ap among (functions-append entries (e ∷ []) ∙ ap (λ fs. functions_of entries ++ fs) own)
    ∙ innermost-functions address (functions_of entries) f

-- ---- lines

reverse-cons : (x : Entry) (xs earlier : List Entry) → reverse (x ∷ xs) ++ earlier ≡ reverse xs ++ (x ∷ earlier)
reverse-cons x xs earlier = ap (λ r. r ++ earlier) (reverse-append (x ∷ []) xs) ∙ append_assoc (reverse xs) (x ∷ []) earlier

lines-append : (earlier xs ys : List Entry) → lines_after earlier (xs ++ ys) ≡ lines_after earlier xs ++ lines_after (reverse xs ++ earlier) ys
lines-append earlier [] ys = refl
lines-append earlier (block depth head name end ∷ xs) ys =
    let x = block depth head name end in
    lines-append (x ∷ earlier) xs ys ∙ ap (λ before. lines_after (x ∷ earlier) xs ++ lines_after before ys) (sym (reverse-cons x xs earlier))
lines-append earlier (note name n ∷ xs) ys =
    let x = note name n in
    lines-append (x ∷ earlier) xs ys ∙ ap (λ before. lines_after (x ∷ earlier) xs ++ lines_after before ys) (sym (reverse-cons x xs earlier))
lines-append earlier (value source name v ∷ xs) ys =
    let x = value source name v in
    let own = line_at source v (line_of earlier name) in
    ap (λ lines. own ++ lines) (lines-append (x ∷ earlier) xs ys ∙ ap (λ before. lines_after (x
    ∷ earlier) xs ++ lines_after before ys) (sym (reverse-cons x xs earlier)))
    ∙ sym (append_assoc own (lines_after (x ∷ earlier) xs) (lines_after (reverse (x ∷ xs) ++ earlier) ys))

nearest-lines : (address : ℕ) (ls : List LineHit) (l : Option LineHit)
    → first_greatest (λ (k : LineHit). k.address) (filter (λ (k : LineHit). nat_le k.address address) (ls ++ option_to_list l))
    ≡ with_line address (first_greatest (λ (k : LineHit). k.address) (filter (λ (k : LineHit). nat_le k.address address) ls)) l
nearest-lines address ls None =
    ap (λ ks. first_greatest (λ (k : LineHit). k.address) (filter (λ (k : LineHit). nat_le k.address address) ks)) (append-nil ls)
nearest-lines address ls (Some l) =
    ap (first_greatest (λ (k : LineHit). k.address)) (filter-append (λ (k : LineHit). nat_le k.address address) ls (l ∷ []))
    ∙ one_more (λ (k : LineHit). k.address) (λ (k : LineHit). nat_le k.address address) ls l (nat_le l.address address) refl

nearest-more : (address : ℕ) (entries : List Entry) (e : Entry) (l : Option LineHit) → lines_after (reverse entries) (e ∷ []) ≡ option_to_list l
    → nearest address (entries ++ e ∷ []) ≡ with_line address (nearest address entries) l
nearest-more address entries e l own =
    let among : List LineHit → Option LineHit = λ ls. first_greatest (λ (k : LineHit). k.address) (filter (λ (k : LineHit). nat_le k.address address) ls) in
    ap among (
    lines-append [] entries (e ∷ [])
    ∙ ap (λ before. lines_after [] entries ++ lines_after before (e ∷ [])) (append-nil (reverse entries))
    ∙ ap (λ ls. lines_after [] entries ++ ls) own)
    ∙ nearest-lines address (lines_after [] entries) l

-- ---- one entry

same_either : (b : Bool) (o : Option ℕ) → o ≡ (if b then o else o)
same_either true o = refl
same_either false o = refl

-- a note with a line number sets that of its name
pub note-numbers : (name other line : ℕ) (n : Note) (earlier : List Entry) (before after : Option ℕ) → Some line ≡ line_given n
    → after ≡ (if name == other then Some line else before) → before ≡ line_of earlier other → after ≡ line_of (note name n ∷ earlier) other
note-numbers name other line n earlier before after given is was =
    is ∙ ap (λ (b : Option ℕ). if name == other then Some line else b) was
    ∙ ap (λ (g : Option ℕ). if name == other then option_or g (line_of earlier other) else line_of earlier other) given

-- and another note does nothing
pub note-nothing : (name other : ℕ) (n : Note) (earlier : List Entry) (before : Option ℕ) → None ≡ line_given n → before ≡ line_of earlier other
    → before ≡ line_of (note name n ∷ earlier) other
note-nothing name other n earlier before given was =
    was ∙ same_either (name == other) (line_of earlier other)
    ∙ ap (λ (g : Option ℕ). if name == other then option_or g (line_of earlier other) else line_of earlier other) given

-- a value whose name has a line number is a line
pub value-line : (source : Option (List ℕ)) (v : Tree) (name line address : ℕ) (earlier : List Entry) → Some line ≡ line_of earlier name
    → address ≡ number_of v
    → lines_after earlier (value source name v ∷ []) ≡ record { line = line; address = address; source = source } ∷ []
value-line source v name line address earlier given is =
    append-nil (line_at source v (line_of earlier name)) ∙ ap (line_at source v) (sym given)
    ∙ ap (λ (a : ℕ). let l : LineHit = record { line = line; address = a; source = source } in l ∷ []) (sym is)

-- and any other value is not a line
pub value-nothing : (source : Option (List ℕ)) (v : Tree) (name : ℕ) (earlier : List Entry) → None ≡ line_of earlier name
    → lines_after earlier (value source name v ∷ []) ≡ []
value-nothing source v name earlier given = append-nil (line_at source v (line_of earlier name)) ∙ ap (line_at source v) (sym given)

-- ---- a search that has seen one entry more

-- what the search takes from the entry: a function or none, a line or none, and the line numbers after it
pub record Takes (e : Entry) (entries : List Entry) (s t : Search) : Type 0 where
  pub address : t.address ≡ s.address
  pub function : Option Function
  pub its_function : functions_of (e ∷ []) ≡ option_to_list function
  pub best_function : option_map function_held t.function ≡ with_function s.address (option_map function_held s.function) function
  pub line : Option LineHit
  pub its_line : lines_after (reverse entries) (e ∷ []) ≡ option_to_list line
  pub best_line : option_map line_held t.line ≡ with_line s.address (option_map line_held s.line) line
  pub numbers : (name : ℕ) → number_for t.line_numbers.items name ≡ line_of (e ∷ reverse entries) name

pub HasSeen-more : (address : ℕ) (entries : List Entry) (e : Entry) (s t : Search) → HasSeen address entries s → Takes e entries s t
    → HasSeen address (entries ++ e ∷ []) t
HasSeen-more address entries e s t h takes = record {
  asked = takes.address ∙ h.asked;
  innermost_is =
      takes.best_function ∙ ap (λ a. with_function a (option_map function_held s.function) takes.function) h.asked
      ∙ ap (λ best. with_function address best takes.function) h.innermost_is
      ∙ sym (innermost-more address entries e takes.function takes.its_function);
  nearest_is =
      takes.best_line ∙ ap (λ a. with_line a (option_map line_held s.line) takes.line) h.asked
      ∙ ap (λ best. with_line address best takes.line) h.nearest_is
      ∙ sym (nearest-more address entries e takes.line takes.its_line);
  numbers_are = λ name. takes.numbers name ∙ ap (λ before. line_of before name) (sym (reverse-append entries (e ∷ [])));
}

-- ---- several entries more

pub sees-append : (xs ys : List Entry) (s t u : Search) → SeesMore xs s t → SeesMore ys t u → SeesMore (xs ++ ys) s u
sees-append xs ys s t u first second = record {
  seen = λ address entries h.
      let P : List Entry → Type 0 = λ all. HasSeen address all u in
      subst P (append_assoc entries xs ys) (second.seen address (entries ++ xs) (first.seen address entries h));
}

pub sees-none : (s : Search) → SeesMore [] s s
sees-none s = record {
  seen = λ address entries h. let P : List Entry → Type 0 = λ all. HasSeen address all s in subst P (sym (append-nil entries)) h;
}
