-- The data of a TOML document are no larger than its text: the texts in it, and the tables in its arrays.
use Rattle.std.proofs.Common.{◌≡◌, ℕ, zero, suc, ◌+◌, ◌≤◌, Bool, true, false, ◌&&◌, List, [], ◌∷◌, ◌++◌, length, drop, Option, Some}
use Rattle.std.proofs.Common.{None, IfSome, refl, sym, ap, ◌∙◌, arith, true≢false, Ordering, Less, Equal, Greater}
use Rattle.std.specs.Prelude.{◌==◌, if◌then◌else◌, option_map, option_and_then, slice_index}
use Rattle.std.specs.Ordering.{nat_cmp, match_ordering}
use Rattle.std.specs.Cmp.Lexicographic.{slice_cmp}
use Rattle.mufom_numbers.proofs.Choices.{mapped_some}
use Rattle.toml_parser.specs.Lexical.{Read, comma, equals, first, left_brace, left_bracket, right_brace, right_bracket, skip_blank, skip_ws}
use Rattle.toml_parser.specs.Strings.{Key, key, quoted, recursion_limit, starts_string}
use Rattle.toml_parser.specs.Numbers.{unquoted}
use Rattle.toml_parser.specs.declared.scalar.Scalar.{Scalar}
use Rattle.toml_parser.specs.declared.scalar.Scalar.TheVariants.{Boolean, Integer, Float, Datetime}
use Rattle.toml.specs.Data.{Data, string, array, table, Items, no_items, item, Members, no_members, member, push_item}
use Rattle.toml.specs.Data.{same_key}
use Rattle.toml.specs.Parse.{after_byte as after, after_element, atom, ends_line, expression, header_key, items, key_equals, keyval, line, lines, members}
use Rattle.toml.specs.Parse.{parse_document, read_map, scalar_data, skip_bom, val}
use Rattle.toml.specs.Tables.{Definition, Document, Edit, Expression, Node, Nodes, Origin, along_dots, along_header, array_table, at_found, at_key, by_dot}
use Rattle.toml.specs.Tables.{by_header, close, close_node, define, dot_node, dotted, get_node, header, header_node, implicit, insert, key_value, new_node}
use Rattle.toml.specs.Tables.{no_nodes, node, open_array, open_table, put, redefine, replace, std_table, value}
use Rattle.mufom_bounds.proofs.TextSizes.{Fits, after-byte, blank-less, drop-less, fits-more, key-fits, long, nothing, quoted-fits, unquoted-fits, ws-less}

-- ---- sizes

-- 1 for a table
abbrev pub counted : Data → ℕ
counted (table ms) = 1
counted _ = 0

-- the bytes of all texts in the data, and 1 for each table in an array
abbrev mutual
  pub size : Data → ℕ
  size (string s) = length s
  size (array ds) = items_size ds
  size (table ms) = members_size ms
  size _ = 0

  pub items_size : Items → ℕ
  items_size no_items = 0
  items_size (item d ds) = (counted d + size d) + items_size ds

  pub members_size : Members → ℕ
  members_size no_members = 0
  members_size (member k d ms) = size d + members_size ms

-- the size of an item
abbrev pub full : Data → ℕ
full d = counted d + size d

-- the same of data that are being read
abbrev mutual
  node_size : Node → ℕ
  node_size (value d) = size d
  node_size (open_table origin ns) = nodes_size ns
  node_size (open_array done last) = items_size done + suc (nodes_size last)

  nodes_size : Nodes → ℕ
  nodes_size no_nodes = 0
  nodes_size (node k x ns) = node_size x + nodes_size ns

push-size : (ds : Items) (e : Data) → items_size (push_item ds e) ≡ items_size ds + (counted e + size e)
push-size no_items e = omega arith
push-size (item d ds) e = let later = push-size ds e in omega (arith, later)

mutual
  close_node-size : (x : Node) → size (close_node x) ≡ node_size x
  close_node-size (value d) = refl
  close_node-size (open_table origin ns) = close-size ns
  close_node-size (open_array done last) =
      let all : items_size (push_item done (table (close last))) ≡ items_size done + (1 + members_size (close last)) = push-size done (table (close last)) in
      let own = close-size last in
      omega (arith, all, own)

  close-size : (ns : Nodes) → members_size (close ns) ≡ nodes_size ns
  close-size no_nodes = refl
  close-size (node k x ns) = let own = close_node-size x in let later = close-size ns in omega (arith, own, later)

-- ---- edits

insert-size : (k : List ℕ) (x : Node) (ns : Nodes) → nodes_size (insert k x ns) ≤ node_size x + nodes_size ns
insert-size k x no_nodes = omega arith
insert-size k x (node l y ns) = by (slice_cmp nat_cmp k l) (insert-size k x ns) where
  by : (o : Ordering) → nodes_size (insert k x ns) ≤ node_size x + nodes_size ns
      → nodes_size (match_ordering o (node k x (node l y ns)) (node l x ns) (node l y (insert k x ns))) ≤ node_size x + (node_size y + nodes_size ns)
  by Less later = omega arith
  by Equal later = omega arith
  by Greater later = omega (arith, later)

replace-size : (k : List ℕ) (x y : Node) (ns : Nodes) → get_node k ns ≡ Some y → nodes_size (replace k x ns) + node_size y ≤ nodes_size ns + node_size x
replace-size k x y no_nodes there = absurd cc
replace-size k x y (node l z ns) there = by (same_key k l) there (replace-size k x y ns) where
  by : (b : Bool) → (if b then Some z else get_node k ns) ≡ Some y
      → (get_node k ns ≡ Some y → nodes_size (replace k x ns) + node_size y ≤ nodes_size ns + node_size x)
      → nodes_size (if b then node l x ns else node l z (replace k x ns)) + node_size y ≤ (node_size z + nodes_size ns) + node_size x
  by true found later =
      let same : z ≡ y = cc in
      let equal : node_size z ≡ node_size y = ap (λ (n : Node). node_size n) same in
      omega (arith, equal)
  by false found later = let rest = later found in omega (arith, rest)

module _ (c : ℕ) (edit : Edit) (grows : (ns ms : Nodes) → edit ns ≡ Some ms → nodes_size ms ≤ nodes_size ns + c) where
  table-size : (origin : Origin) (inner : Nodes) (y : Node) → option_map (open_table origin) (edit inner) ≡ Some y → node_size y ≤ nodes_size inner + c
  table-size origin inner y is =
      let (new, e, same) = mapped_some (open_table origin) (edit inner) y is in
      let own = grows inner new e in
      let equal : nodes_size new ≡ node_size y = ap (λ (n : Node). node_size n) same in
      omega (arith, own, equal)

  header-size : (x y : Node) → header_node edit x ≡ Some y → node_size y ≤ node_size x + c
  header-size (value d) y is = absurd cc
  header-size (open_table origin inner) y is = table-size origin inner y is
  header-size (open_array done last) y is =
      let (new, e, same) = mapped_some (open_array done) (edit last) y is in
      let own = grows last new e in
      let equal : items_size done + suc (nodes_size new) ≡ node_size y = ap (λ (n : Node). node_size n) same in
      omega (arith, own, equal)

  dot-size : (x y : Node) → dot_node edit x ≡ Some y → node_size y ≤ node_size x + c
  dot-size (value d) y is = absurd cc
  dot-size (open_table header inner) y is = absurd cc
  dot-size (open_table implicit inner) y is = table-size dotted inner y is
  dot-size (open_table dotted inner) y is = table-size dotted inner y is
  dot-size (open_array done last) y is = absurd cc

  new-size : (k : List ℕ) (origin : Origin) (ns ms : Nodes) → option_map (λ new. insert k (open_table origin new) ns) (edit no_nodes) ≡ Some ms
      → nodes_size ms ≤ nodes_size ns + c
  new-size k origin ns ms is =
      let (new, e, same) = mapped_some (λ new. insert k (open_table origin new) ns) (edit no_nodes) ms is in
      let own : nodes_size new ≤ 0 + c = grows no_nodes new e in
      let all : nodes_size (insert k (open_table origin new) ns) ≤ nodes_size new + nodes_size ns = insert-size k (open_table origin new) ns in
      let equal : nodes_size (insert k (open_table origin new) ns) ≡ nodes_size ms = ap (λ (n : Nodes). nodes_size n) same in
      omega (arith, own, all, equal)

  changed-size : (k : List ℕ) (x : Node) (o : Option Node) (ns ms : Nodes) → get_node k ns ≡ Some x → ((y : Node) → o ≡ Some y → node_size y ≤ node_size x + c)
      → option_map (λ new. replace k new ns) o ≡ Some ms → nodes_size ms ≤ nodes_size ns + c
  changed-size k x o ns ms there fits is =
      let (new, e, same) = mapped_some (λ new. replace k new ns) o ms is in
      let own = fits new e in
      let all = replace-size k new x ns there in
      let equal : nodes_size (replace k new ns) ≡ nodes_size ms = ap (λ (n : Nodes). nodes_size n) same in
      omega (arith, own, all, equal)

  by-header-size : (k : List ℕ) (ns ms : Nodes) (o : Option Node) → get_node k ns ≡ o → by_header k edit ns o ≡ Some ms → nodes_size ms ≤ nodes_size ns + c
  by-header-size k ns ms None there is = new-size k implicit ns ms is
  by-header-size k ns ms (Some x) there is = changed-size k x (header_node edit x) ns ms there (header-size x) is

  by-dot-size : (k : List ℕ) (ns ms : Nodes) (o : Option Node) → get_node k ns ≡ o → by_dot k edit ns o ≡ Some ms → nodes_size ms ≤ nodes_size ns + c
  by-dot-size k ns ms None there is = new-size k dotted ns ms is
  by-dot-size k ns ms (Some x) there is = changed-size k x (dot_node edit x) ns ms there (dot-size x) is

along-header-size : (path : List (List ℕ)) (c : ℕ) (edit : Edit) → ((ns ms : Nodes) → edit ns ≡ Some ms → nodes_size ms ≤ nodes_size ns + c)
    → (ns ms : Nodes) → along_header path edit ns ≡ Some ms → nodes_size ms ≤ nodes_size ns + c
unfolding along_header
along-header-size [] c edit grows ns ms is = grows ns ms is
along-header-size (k ∷ path) c edit grows ns ms is =
    by-header-size c (along_header path edit) (along-header-size path c edit grows) k ns ms (get_node k ns) refl is

along-dots-size : (path : List (List ℕ)) (c : ℕ) (edit : Edit) → ((ns ms : Nodes) → edit ns ≡ Some ms → nodes_size ms ≤ nodes_size ns + c)
    → (ns ms : Nodes) → along_dots path edit ns ≡ Some ms → nodes_size ms ≤ nodes_size ns + c
unfolding along_dots
along-dots-size [] c edit grows ns ms is = grows ns ms is
along-dots-size (k ∷ path) c edit grows ns ms is =
    by-dot-size c (along_dots path edit) (along-dots-size path c edit grows) k ns ms (get_node k ns) refl is

-- what a definition adds
abbrev cost : Definition → ℕ
cost (key_value d) = size d
cost std_table = 0
cost array_table = 1

new-node-size : (what : Definition) → node_size (new_node what) ≡ cost what
new-node-size (key_value d) = refl
new-node-size std_table = refl
new-node-size array_table = refl

redefine-size : (what : Definition) (x y : Node) → redefine what x ≡ Some y → node_size y ≤ node_size x + cost what
redefine-size (key_value d) x y is = absurd cc
redefine-size std_table (value d) y is = absurd cc
redefine-size std_table (open_table implicit inner) y is =
    let same : open_table header inner ≡ y = cc in
    let equal : nodes_size inner ≡ node_size y = ap (λ (n : Node). node_size n) same in
    omega (arith, equal)
redefine-size std_table (open_table dotted inner) y is = absurd cc
redefine-size std_table (open_table header inner) y is = absurd cc
redefine-size std_table (open_array done last) y is = absurd cc
redefine-size array_table (value d) y is = absurd cc
redefine-size array_table (open_table origin inner) y is = absurd cc
redefine-size array_table (open_array done last) y is =
    let same : open_array (push_item done (table (close last))) no_nodes ≡ y = cc in
    let equal : items_size (push_item done (table (close last))) + 1 ≡ node_size y = ap (λ (n : Node). node_size n) same in
    let all : items_size (push_item done (table (close last))) ≡ items_size done + (1 + members_size (close last)) = push-size done (table (close last)) in
    let own = close-size last in
    omega (arith, equal, all, own)

at-key-size : (k : List ℕ) (what : Definition) (ns ms : Nodes) → at_key k what ns ≡ Some ms → nodes_size ms ≤ nodes_size ns + cost what
unfolding at_key
at-key-size k what ns ms is = by (get_node k ns) refl is where
  by : (o : Option Node) → get_node k ns ≡ o → at_found k what ns o ≡ Some ms → nodes_size ms ≤ nodes_size ns + cost what
  by None there is =
      let same : insert k (new_node what) ns ≡ ms = cc in
      let equal : nodes_size (insert k (new_node what) ns) ≡ nodes_size ms = ap (λ (n : Nodes). nodes_size n) same in
      let all = insert-size k (new_node what) ns in
      let own = new-node-size what in
      omega (arith, equal, all, own)
  by (Some x) there is =
      let (new, e, same) = mapped_some (λ y. replace k y ns) (redefine what x) ms is in
      let own = redefine-size what x new e in
      let all = replace-size k new x ns there in
      let equal : nodes_size (replace k new ns) ≡ nodes_size ms = ap (λ (n : Nodes). nodes_size n) same in
      omega (arith, own, all, equal)

put-size : (k : Key) (d : Data) (ns ms : Nodes) → put k d ns ≡ Some ms → nodes_size ms ≤ nodes_size ns + size d
put-size k d ns ms is = along-dots-size k.0 (size d) (at_key k.1 (key_value d)) (at-key-size k.1 (key_value d)) ns ms is

define-size : (doc next : Document) (e : Expression) → define doc e ≡ Some next → nodes_size next.0 ≤ nodes_size doc.0 + cost e.1
unfolding define
define-size doc next (k, key_value d) is =
    let (root, e, same) = mapped_some (λ root. (root, doc.1)) (along_header doc.1 (put k d) doc.0) next is in
    let all = along-header-size doc.1 (size d) (put k d) (put-size k d) doc.0 root e in
    let equal : nodes_size root ≡ nodes_size next.0 = ap (λ (n : Document). nodes_size n.0) same in
    omega (arith, all, equal)
define-size doc next (k, std_table) is =
    let (root, e, same) = mapped_some (λ root. (root, k.0 ++ k.1 ∷ [])) (along_header k.0 (at_key k.1 std_table) doc.0) next is in
    let all = along-header-size k.0 0 (at_key k.1 std_table) (at-key-size k.1 std_table) doc.0 root e in
    let equal : nodes_size root ≡ nodes_size next.0 = ap (λ (n : Document). nodes_size n.0) same in
    omega (arith, all, equal)
define-size doc next (k, array_table) is =
    let (root, e, same) = mapped_some (λ root. (root, k.0 ++ k.1 ∷ [])) (along_header k.0 (at_key k.1 array_table) doc.0) next is in
    let all = along-header-size k.0 1 (at_key k.1 array_table) (at-key-size k.1 array_table) doc.0 root e in
    let equal : nodes_size root ≡ nodes_size next.0 = ap (λ (n : Document). nodes_size n.0) same in
    omega (arith, all, equal)

-- ---- values

atom-fits : (text : List ℕ) → Fits full (length text) (atom text)
unfolding atom
atom-fits text = by (starts_string text) refl where
  texts : (r : Read (List ℕ)) → Fits long (length text) r → Fits full (length text) (read_map string r)
  texts None fits = tt
  texts (Some p) fits = omega (arith, fits)

  scalars : (r : Read Scalar) → Fits nothing (length text) r → Fits full (length text) (read_map scalar_data r)
  scalars None fits = tt
  scalars (Some (Boolean b, rest)) fits = omega (arith, fits)
  scalars (Some (Integer z, rest)) fits = omega (arith, fits)
  scalars (Some (Float x, rest)) fits = omega (arith, fits)
  scalars (Some (Datetime dt, rest)) fits = omega (arith, fits)

  by : (b : Bool) → starts_string text ≡ b
      → Fits full (length text) (if b then read_map string (quoted text) else read_map scalar_data (unquoted text))
  by true starts = texts (quoted text) (quoted-fits text starts)
  by false starts = scalars (unquoted text) (unquoted-fits text)

-- what follows an element is no longer than the text, and shorter after a comma
element-less : (closing : ℕ) (text : List ℕ) → IfSome (after_element closing text) (λ rest. length rest ≤ length text)
unfolding after_element
element-less closing text = by (first (skip_blank text) == comma) (first (skip_blank text) == closing) where
  by : (more ends : Bool) → IfSome (if more then Some (drop 1 (skip_blank text)) else if ends then Some (skip_blank text) else None)
      (λ rest. length rest ≤ length text)
  by true ends = let blank = blank-less text in let dropped = drop-less 1 (skip_blank text) in omega (arith, blank, dropped)
  by false true = blank-less text
  by false false = tt

after-less : (b : ℕ) (text : List ℕ) → IfSome (after b text) (λ rest. length rest ≤ length text)
after-less b text = by (first text == b) where
  by : (is : Bool) → IfSome (if is then Some (drop 1 text) else None) (λ rest. length rest ≤ length text)
  by true = drop-less 1 text
  by false = tt

equals-fits : (text : List ℕ) → Fits nothing (length text) (key_equals text)
unfolding key_equals
equals-fits text = by (key text) (key-fits text) where
  sign : (k : Key) (o : Option (List ℕ)) (n : ℕ) → n ≤ length text → IfSome o (λ rest. length rest ≤ n)
      → Fits nothing (length text) (option_map (λ rest. (k, skip_ws rest)) o)
  sign k None n few fits = tt
  sign k (Some rest) n few fits = let ws = ws-less rest in omega (arith, ws, few, fits)

  by : (r : Read Key) → Fits nothing (length text) r
      → Fits nothing (length text) (option_and_then (λ k. option_map (λ rest. (k.0, skip_ws rest)) (after equals k.1)) r)
  by None fits = tt
  by (Some k) fits = sign k.0 (after equals k.1) (length k.1) (omega (arith, fits)) (after-less equals k.1)

module _ (val : List ℕ → Read Data) (fits_val : (text : List ℕ) → Fits full (length text) (val text)) where
  keyval-fits : (text : List ℕ) → Fits (λ (e : Key × Data). counted e.1 + size e.1) (length text) (keyval val text)
  keyval-fits text = by (key_equals text) (equals-fits text) where
    pair : (k : Key) (r : Read Data) (n : ℕ) → n ≤ length text → Fits full n r
        → Fits (λ (e : Key × Data). counted e.1 + size e.1) (length text) (read_map (λ d. (k, d)) r)
    pair k None n few fits = tt
    pair k (Some p) n few fits = omega (arith, few, fits)

    by : (r : Read Key) → Fits nothing (length text) r
        → Fits (λ (e : Key × Data). counted e.1 + size e.1) (length text) (option_and_then (λ k. read_map (λ d. (k.0, d)) (val k.1)) r)
    by None fits = tt
    by (Some k) fits = pair k.0 (val k.1) (length k.1) (omega (arith, fits)) (fits_val k.1)

  items-fit : (n : ℕ) (found : Items) (text : List ℕ) → Fits (λ (ds : Items). items_size ds) (items_size found + length text) (items val n found text)
  unfolding items
  items-fit zero found text = tt
  items-fit (suc n) found text =
      by (first (skip_blank text) == right_bracket) (items-fit n) where
        next : (d : Data) (o : Option (List ℕ)) (m : ℕ) → counted d + size d + m ≤ length text → IfSome o (λ rest. length rest ≤ m)
            → ((ds : Items) (rest : List ℕ) → Fits (λ (all : Items). items_size all) (items_size ds + length rest) (items val n ds rest))
            → Fits (λ (ds : Items). items_size ds) (items_size found + length text) (option_and_then (items val n (push_item found d)) o)
        next d None m few fits later = tt
        next d (Some rest) m few fits later =
            let all = push-size found d in
            fits-more (λ (ds : Items). items_size ds) (items_size (push_item found d) + length rest) (items_size found + length text)
            (items val n (push_item found d) rest) (omega (arith, all, few, fits)) (later (push_item found d) rest)

        one : (r : Read Data) → Fits full (length (skip_blank text)) r
            → ((ds : Items) (rest : List ℕ) → Fits (λ (all : Items). items_size all) (items_size ds + length rest) (items val n ds rest))
            → Fits (λ (ds : Items). items_size ds) (items_size found + length text)
            (option_and_then (λ v. option_and_then (items val n (push_item found v.0)) (after_element right_bracket v.1)) r)
        one None fits later = tt
        one (Some v) fits later =
            let blank = blank-less text in
            next v.0 (after_element right_bracket v.1) (length v.1) (omega (arith, blank, fits)) (element-less right_bracket v.1) later

        by : (b : Bool) → ((ds : Items) (rest : List ℕ) → Fits (λ (all : Items). items_size all) (items_size ds + length rest) (items val n ds rest))
            → Fits (λ (ds : Items). items_size ds) (items_size found + length text) (if b then Some (found, drop 1 (skip_blank text))
            else option_and_then (λ v. option_and_then (items val n (push_item found v.0)) (after_element right_bracket v.1)) (val (skip_blank text)))
        by true later = let blank = blank-less text in let dropped = drop-less 1 (skip_blank text) in omega (arith, blank, dropped)
        by false later = one (val (skip_blank text)) (fits_val (skip_blank text)) later

  members-fit : (n : ℕ) (found : Nodes) (text : List ℕ) → Fits (λ (ms : Members). members_size ms) (nodes_size found + length text) (members val n found text)
  unfolding members
  members-fit zero found text = tt
  members-fit (suc n) found text =
      by (first (skip_blank text) == right_brace) (members-fit n) where
        next : (found more : Nodes) (o : Option (List ℕ)) (m : ℕ) → nodes_size more + m ≤ nodes_size found + length text → IfSome o (λ rest. length rest ≤ m)
            → ((ns : Nodes) (rest : List ℕ) → Fits (λ (all : Members). members_size all) (nodes_size ns + length rest) (members val n ns rest))
            → Fits (λ (ms : Members). members_size ms) (nodes_size found + length text) (option_and_then (members val n more) o)
        next found more None m few fits later = tt
        next found more (Some rest) m few fits later =
            fits-more (λ (ms : Members). members_size ms) (nodes_size more + length rest) (nodes_size found + length text) (members val n more rest)
            (omega (arith, few, fits)) (later more rest)

        edit : (k : Key) (d : Data) (rest : List ℕ) (o : Option Nodes) → put k d found ≡ o → size d + length rest ≤ length text
            → ((ns : Nodes) (rest : List ℕ) → Fits (λ (all : Members). members_size all) (nodes_size ns + length rest) (members val n ns rest))
            → Fits (λ (ms : Members). members_size ms) (nodes_size found + length text)
            (option_and_then (λ more. option_and_then (members val n more) (after_element right_brace rest)) o)
        edit k d rest None is few later = tt
        edit k d rest (Some more) is few later =
            let own = put-size k d found more is in
            next found more (after_element right_brace rest) (length rest) (omega (arith, own, few)) (element-less right_brace rest) later

        one : (r : Read (Key × Data)) → Fits (λ (e : Key × Data). counted e.1 + size e.1) (length (skip_blank text)) r
            → ((ns : Nodes) (rest : List ℕ) → Fits (λ (all : Members). members_size all) (nodes_size ns + length rest) (members val n ns rest))
            → Fits (λ (ms : Members). members_size ms) (nodes_size found + length text)
            (option_and_then (λ e. option_and_then (λ more. option_and_then (members val n more) (after_element right_brace e.1)) (put e.0.0 e.0.1 found)) r)
        one None fits later = tt
        one (Some e) fits later =
            let blank = blank-less text in
            edit e.0.0 e.0.1 e.1 (put e.0.0 e.0.1 found) refl (omega (arith, blank, fits)) later

        by : (b : Bool) → ((ns : Nodes) (rest : List ℕ) → Fits (λ (all : Members). members_size all) (nodes_size ns + length rest) (members val n ns rest))
            → Fits (λ (ms : Members). members_size ms) (nodes_size found + length text) (if b then Some (close found, drop 1 (skip_blank text))
            else option_and_then (λ e. option_and_then (λ more. option_and_then (members val n more) (after_element right_brace e.1)) (put e.0.0 e.0.1 found))
            (keyval val (skip_blank text)))
        by true later =
            let closed = close-size found in
            let blank = blank-less text in
            let dropped = drop-less 1 (skip_blank text) in
            omega (arith, closed, blank, dropped)
        by false later = one (keyval val (skip_blank text)) (keyval-fits (skip_blank text)) later

val-fits : (depth : ℕ) (text : List ℕ) → Fits full (length text) (val depth text)
unfolding val
val-fits zero text = atom-fits text
val-fits (suc depth) text = by (first text == left_bracket) (first text == left_brace) refl (val-fits depth) where
  arrays : (r : Read Items) → Fits (λ (ds : Items). items_size ds) (0 + length (drop 1 text)) r
      → Fits full (length text) (read_map array r)
  arrays None fits = tt
  arrays (Some p) fits = let dropped = drop-less 1 text in omega (arith, dropped, fits)

  tables : (r : Read Members) → suc (length (drop 1 text)) ≡ length text → Fits (λ (ms : Members). members_size ms) (0 + length (drop 1 text)) r
      → Fits full (length text) (read_map table r)
  tables None brace fits = tt
  tables (Some p) brace fits = omega (arith, brace, fits)

  by : (bracket brace : Bool) → (first text == left_brace) ≡ brace
      → ((rest : List ℕ) → Fits full (length rest) (val depth rest))
      → Fits full (length text) (if bracket then read_map array (items (val depth) (length text) no_items (drop 1 text))
      else if brace then read_map table (members (val depth) (length text) no_nodes (drop 1 text)) else atom text)
  by true brace at later =
      arrays (items (val depth) (length text) no_items (drop 1 text)) (items-fit (val depth) later (length text) no_items (drop 1 text))
  by false true at later =
      tables (members (val depth) (length text) no_nodes (drop 1 text)) (after-byte text left_brace (omega arith) at)
      (members-fit (val depth) later (length text) no_nodes (drop 1 text))
  by false false at later = atom-fits text

-- ---- documents

header-fits : (text : List ℕ) → Fits nothing (length text) (header_key text)
unfolding header_key
header-fits text = by (key (skip_ws text)) (key-fits (skip_ws text)) where
  bracket : (k : Key) (o : Option (List ℕ)) (n : ℕ) → n ≤ length text → IfSome o (λ rest. length rest ≤ n)
      → Fits nothing (length text) (option_map (λ rest. (k, rest)) o)
  bracket k None n few fits = tt
  bracket k (Some rest) n few fits = omega (arith, few, fits)

  by : (r : Read Key) → Fits nothing (length (skip_ws text)) r
      → Fits nothing (length text) (option_and_then (λ k. option_map (λ rest. (k.0, rest)) (after right_bracket k.1)) r)
  by None fits = tt
  by (Some k) fits =
      let ws = ws-less text in
      bracket k.0 (after right_bracket k.1) (length k.1) (omega (arith, ws, fits)) (after-less right_bracket k.1)

abbrev expression_cost : Expression → ℕ
expression_cost e = cost e.1

expression-fits : (text : List ℕ) → Fits expression_cost (length text) (expression text)
unfolding expression
expression-fits text = by (first text == left_bracket) (slice_index text 1 == left_bracket) refl where
  closes : (k : Key) (o : Option (List ℕ)) (n : ℕ) → suc n ≤ length text → IfSome o (λ rest. length rest ≤ n)
      → Fits expression_cost (length text) (option_map (λ rest. ((k, array_table), rest)) o)
  closes k None n few fits = tt
  closes k (Some rest) n few fits = omega (arith, few, fits)

  arrays : (r : Read Key) → (n : ℕ) → suc n ≤ length text → Fits nothing n r
      → Fits expression_cost (length text) (option_and_then (λ k. option_map (λ rest. ((k.0, array_table), rest)) (after right_bracket k.1)) r)
  arrays None n few fits = tt
  arrays (Some k) n few fits = closes k.0 (after right_bracket k.1) (length k.1) (omega (arith, few, fits)) (after-less right_bracket k.1)

  tables : (r : Read Key) → (n : ℕ) → n ≤ length text → Fits nothing n r → Fits expression_cost (length text) (read_map (λ k. (k, std_table)) r)
  tables None n few fits = tt
  tables (Some k) n few fits = omega (arith, few, fits)

  pairs : (r : Read (Key × Data)) → Fits (λ (e : Key × Data). counted e.1 + size e.1) (length text) r
      → Fits expression_cost (length text) (read_map (λ p. (p.0, key_value p.1)) r)
  pairs None fits = tt
  pairs (Some p) fits = omega (arith, fits)

  by : (bracket second : Bool) → (first text == left_bracket) ≡ bracket → Fits expression_cost (length text)
      (if bracket && second
      then option_and_then (λ k. option_map (λ rest. ((k.0, array_table), rest)) (after right_bracket k.1)) (header_key (drop 2 text))
      else if bracket then read_map (λ k. (k, std_table)) (header_key (drop 1 text))
      else read_map (λ p. (p.0, key_value p.1)) (keyval (val recursion_limit) text))
  by true true at = arrays (header_key (drop 2 text)) (length (drop 2 text)) (shorter text at) (header-fits (drop 2 text)) where
    shorter : (list : List ℕ) → (first list == left_bracket) ≡ true → suc (length (drop 2 list)) ≤ length list
    shorter [] at = absurd (true≢false (sym at))
    shorter (b ∷ list) at = let less = drop-less 1 list in omega (arith, less)
  by true false at = tables (header_key (drop 1 text)) (length (drop 1 text)) (drop-less 1 text) (header-fits (drop 1 text))
  by false second at = pairs (keyval (val recursion_limit) text) (keyval-fits (val recursion_limit) (val-fits recursion_limit) text)

line-fits : (text : List ℕ) → Fits expression_cost (length text) (line text)
unfolding line
line-fits text = by (expression text) (expression-fits text) where
  ends : (e : Expression × List ℕ) (b : Bool) → cost e.0.1 + length e.1 ≤ length text → Fits expression_cost (length text) (if b then Some e else None)
  ends e true fits = fits
  ends e false fits = tt

  by : (r : Read Expression) → Fits expression_cost (length text) r
      → Fits expression_cost (length text) (option_and_then (λ e. if ends_line (skip_ws e.1) then Some e else None) r)
  by None fits = tt
  by (Some e) fits = ends e (ends_line (skip_ws e.1)) fits

lines-fit : (n : ℕ) (doc : Document) (text : List ℕ) → IfSome (lines n doc text) (λ (all : Document). nodes_size all.0 ≤ nodes_size doc.0 + length text)
unfolding lines
lines-fit zero doc text = tt
lines-fit (suc n) doc text = by (length (skip_blank text) == 0) (lines-fit n) where
  weaker : (o : Option Document) (m k : ℕ) → m ≤ k → IfSome o (λ (all : Document). nodes_size all.0 ≤ m) → IfSome o (λ (all : Document). nodes_size all.0 ≤ k)
  weaker None m k less fits = tt
  weaker (Some all) m k less fits = omega (arith, less, fits)

  edit : (e : Expression) (rest : List ℕ) (o : Option Document) → define doc e ≡ o → cost e.1 + length rest ≤ length text
      → ((d : Document) (t : List ℕ) → IfSome (lines n d t) (λ (all : Document). nodes_size all.0 ≤ nodes_size d.0 + length t))
      → IfSome (option_and_then (λ next. lines n next rest) o) (λ (all : Document). nodes_size all.0 ≤ nodes_size doc.0 + length text)
  edit e rest None is few later = tt
  edit e rest (Some next) is few later =
      let own = define-size doc next e is in
      weaker (lines n next rest) (nodes_size next.0 + length rest) (nodes_size doc.0 + length text) (omega (arith, own, few)) (later next rest)

  one : (r : Read Expression) → Fits expression_cost (length (skip_blank text)) r
      → ((d : Document) (t : List ℕ) → IfSome (lines n d t) (λ (all : Document). nodes_size all.0 ≤ nodes_size d.0 + length t))
      → IfSome (option_and_then (λ e. option_and_then (λ next. lines n next e.1) (define doc e.0)) r)
      (λ (all : Document). nodes_size all.0 ≤ nodes_size doc.0 + length text)
  one None fits later = tt
  one (Some e) fits later =
      let blank = blank-less text in
      edit e.0 e.1 (define doc e.0) refl (omega (arith, blank, fits)) later

  by : (b : Bool) → ((d : Document) (t : List ℕ) → IfSome (lines n d t) (λ (all : Document). nodes_size all.0 ≤ nodes_size d.0 + length t))
      → IfSome (if b then Some doc else option_and_then (λ e. option_and_then (λ next. lines n next e.1) (define doc e.0)) (line (skip_blank text)))
      (λ (all : Document). nodes_size all.0 ≤ nodes_size doc.0 + length text)
  by true later = omega arith
  by false later = one (line (skip_blank text)) (line-fits (skip_blank text)) later

bom-less : (text : List ℕ) → length (skip_bom text) ≤ length text
unfolding skip_bom
bom-less text = by ((first text == 0xEF && slice_index text 1 == 0xBB) && slice_index text 2 == 0xBF) where
  by : (b : Bool) → length (if b then drop 3 text else text) ≤ length text
  by true = drop-less 3 text
  by false = omega arith

-- the data of a document are no larger than its text
pub document-size : (text : List ℕ) (ms : Members) → parse_document text ≡ Some ms → members_size ms ≤ length text
unfolding parse_document
document-size text ms is =
    let (doc, e, same) = mapped_some (λ (doc : Document). close doc.0) (lines (suc (length text)) (no_nodes, []) (skip_bom text)) ms is in
    by (lines (suc (length text)) (no_nodes, []) (skip_bom text)) (lines-fit (suc (length text)) (no_nodes, []) (skip_bom text)) doc e same where
      by : (o : Option Document) → IfSome o (λ (all : Document). nodes_size all.0 ≤ 0 + length (skip_bom text)) → (doc : Document) → o ≡ Some doc
          → close doc.0 ≡ ms → members_size ms ≤ length text
      by None fits doc e same = absurd cc
      by (Some all) fits doc e same =
          let own : all ≡ doc = cc in
          let equal : members_size (close all.0) ≡ members_size ms
          = ap (λ (d : Document). members_size (close d.0)) own ∙ ap (λ (m : Members). members_size m) same in
          let closed = close-size all.0 in
          let bom = bom-less text in
          omega (arith, fits, equal, closed, bom)
