-- The texts in the data of a TOML document consist of bytes, if the document does.
use Rattle.std.proofs.Common.{◌≡◌, ℕ, zero, suc, Bool, true, false, ◌&&◌, List, [], ◌∷◌, ◌++◌, length, drop, Option, Some}
use Rattle.std.proofs.Common.{None, IfSome, refl, subst, Ordering, Less, Equal, Greater}
use Rattle.std.specs.Prelude.{◌==◌, if◌then◌else◌, option_map, option_and_then, slice_index}
use Rattle.std.specs.Ordering.{nat_cmp, match_ordering}
use Rattle.std.specs.Cmp.Lexicographic.{slice_cmp}
use Rattle.mufom_numbers.specs.Spelling.{AreBytes}
use Rattle.mufom_numbers.proofs.Choices.{mapped_some}
use Rattle.mufom_judging.proofs.judged.Stays.{AreBytes-drop}
use Rattle.toml_parser.specs.Lexical.{Read, comma, equals, first, left_brace, left_bracket, right_brace, right_bracket, skip_blank, skip_ws}
use Rattle.toml_parser.specs.Strings.{Key, key, quoted, recursion_limit, starts_string}
use Rattle.toml_parser.specs.Numbers.{unquoted}
use Rattle.toml_parser.specs.declared.scalar.Scalar.{Scalar}
use Rattle.toml_parser.specs.declared.scalar.Scalar.TheVariants.{Boolean, Integer, Float, Datetime}
use Rattle.toml.specs.Data.{Data, string, array, table, Items, no_items, item, Members, no_members, member, push_item}
use Rattle.toml.specs.Data.{same_key}
use Rattle.toml.specs.Parse.{after_byte as after, after_element, atom, ends_line, expression, header_key, items, key_equals, keyval, line, lines, members}
use Rattle.toml.specs.Parse.{parse_document, read_map, scalar_data, skip_bom, val}
use Rattle.toml.specs.Tables.{Definition, Document, Edit, Expression, Node, Nodes, Origin, along_dots, along_header, array_table, at_found, at_key, by_dot}
use Rattle.toml.specs.Tables.{by_header, close, close_node, define, dot_node, dotted, get_node, header, header_node, implicit, insert, key_value, new_node}
use Rattle.toml.specs.Tables.{no_nodes, node, open_array, open_table, put, redefine, replace, std_table, value}
use Rattle.mufom_bounds.proofs.TextBytes.{Any, Keeps, blank-bytes, key-keeps, quoted-keeps, unquoted-keeps, ws-bytes}

-- ---- data

-- all texts in the data consist of bytes
abbrev mutual
  pub HasBytes : Data → Type 0
  HasBytes (string s) = AreBytes s
  HasBytes (array ds) = ItemsHaveBytes ds
  HasBytes (table ms) = MembersHaveBytes ms
  HasBytes _ = Unit {0}

  pub ItemsHaveBytes : Items → Type 0
  ItemsHaveBytes no_items = Unit {0}
  ItemsHaveBytes (item d ds) = HasBytes d × ItemsHaveBytes ds

  pub MembersHaveBytes : Members → Type 0
  MembersHaveBytes no_members = Unit {0}
  MembersHaveBytes (member k d ms) = HasBytes d × MembersHaveBytes ms

-- the same of data that are being read
abbrev mutual
  NodeHas : Node → Type 0
  NodeHas (value d) = HasBytes d
  NodeHas (open_table origin ns) = NodesHave ns
  NodeHas (open_array done last) = ItemsHaveBytes done × NodesHave last

  NodesHave : Nodes → Type 0
  NodesHave no_nodes = Unit {0}
  NodesHave (node k x ns) = NodeHas x × NodesHave ns

push-has : (ds : Items) (e : Data) → ItemsHaveBytes ds → HasBytes e → ItemsHaveBytes (push_item ds e)
push-has no_items e have has = (has, tt)
push-has (item d ds) e have has = (have.0, push-has ds e have.1 has)

mutual
  close_node-has : (x : Node) → NodeHas x → HasBytes (close_node x)
  close_node-has (value d) has = has
  close_node-has (open_table origin ns) has = close-has ns has
  close_node-has (open_array done last) has = push-has done (table (close last)) has.0 (close-has last has.1)

  close-has : (ns : Nodes) → NodesHave ns → MembersHaveBytes (close ns)
  close-has no_nodes have = tt
  close-has (node k x ns) have = (close_node-has x have.0, close-has ns have.1)

-- ---- edits

insert-has : (k : List ℕ) (x : Node) (ns : Nodes) → NodeHas x → NodesHave ns → NodesHave (insert k x ns)
insert-has k x no_nodes has have = (has, tt)
insert-has k x (node l y ns) has have = by (slice_cmp nat_cmp k l) (insert-has k x ns has have.1) where
  by : (o : Ordering) → NodesHave (insert k x ns) → NodesHave (match_ordering o (node k x (node l y ns)) (node l x ns) (node l y (insert k x ns)))
  by Less later = (has, have)
  by Equal later = (has, have.1)
  by Greater later = (have.0, later)

replace-has : (k : List ℕ) (x : Node) (ns : Nodes) → NodeHas x → NodesHave ns → NodesHave (replace k x ns)
replace-has k x no_nodes has have = tt
replace-has k x (node l z ns) has have = by (same_key k l) (replace-has k x ns has have.1) where
  by : (b : Bool) → NodesHave (replace k x ns) → NodesHave (if b then node l x ns else node l z (replace k x ns))
  by true later = (has, have.1)
  by false later = (have.0, later)

get-has : (k : List ℕ) (ns : Nodes) (y : Node) → NodesHave ns → get_node k ns ≡ Some y → NodeHas y
get-has k no_nodes y have there = absurd cc
get-has k (node l z ns) y have there = by (same_key k l) there (get-has k ns y have.1) where
  by : (b : Bool) → (if b then Some z else get_node k ns) ≡ Some y → (get_node k ns ≡ Some y → NodeHas y) → NodeHas y
  by true found later = let same : z ≡ y = cc in subst NodeHas same have.0
  by false found later = later found

module _ (edit : Edit) (keeps : (ns ms : Nodes) → NodesHave ns → edit ns ≡ Some ms → NodesHave ms) where
  table-has : (origin : Origin) (inner : Nodes) (y : Node) → NodesHave inner → option_map (open_table origin) (edit inner) ≡ Some y → NodeHas y
  table-has origin inner y have is =
      let (new, e, same) = mapped_some (open_table origin) (edit inner) y is in subst NodeHas same (keeps inner new have e)

  header-has : (x y : Node) → NodeHas x → header_node edit x ≡ Some y → NodeHas y
  header-has (value d) y has is = absurd cc
  header-has (open_table origin inner) y has is = table-has origin inner y has is
  header-has (open_array done last) y has is =
      let (new, e, same) = mapped_some (open_array done) (edit last) y is in subst NodeHas same (has.0, keeps last new has.1 e)

  dot-has : (x y : Node) → NodeHas x → dot_node edit x ≡ Some y → NodeHas y
  dot-has (value d) y has is = absurd cc
  dot-has (open_table header inner) y has is = absurd cc
  dot-has (open_table implicit inner) y has is = table-has dotted inner y has is
  dot-has (open_table dotted inner) y has is = table-has dotted inner y has is
  dot-has (open_array done last) y has is = absurd cc

  new-has : (k : List ℕ) (origin : Origin) (ns ms : Nodes) → NodesHave ns
      → option_map (λ new. insert k (open_table origin new) ns) (edit no_nodes) ≡ Some ms → NodesHave ms
  new-has k origin ns ms have is =
      let (new, e, same) = mapped_some (λ new. insert k (open_table origin new) ns) (edit no_nodes) ms is in
      subst NodesHave same (insert-has k (open_table origin new) ns (keeps no_nodes new tt e) have)

  changed-has : (k : List ℕ) (o : Option Node) (ns ms : Nodes) → NodesHave ns → ((y : Node) → o ≡ Some y → NodeHas y)
      → option_map (λ new. replace k new ns) o ≡ Some ms → NodesHave ms
  changed-has k o ns ms have has is =
      let (new, e, same) = mapped_some (λ new. replace k new ns) o ms is in subst NodesHave same (replace-has k new ns (has new e) have)

  by-header-has : (k : List ℕ) (ns ms : Nodes) (o : Option Node) → NodesHave ns → get_node k ns ≡ o → by_header k edit ns o ≡ Some ms → NodesHave ms
  by-header-has k ns ms None have there is = new-has k implicit ns ms have is
  by-header-has k ns ms (Some x) have there is = changed-has k (header_node edit x) ns ms have (λ y e. header-has x y (get-has k ns x have there) e) is

  by-dot-has : (k : List ℕ) (ns ms : Nodes) (o : Option Node) → NodesHave ns → get_node k ns ≡ o → by_dot k edit ns o ≡ Some ms → NodesHave ms
  by-dot-has k ns ms None have there is = new-has k dotted ns ms have is
  by-dot-has k ns ms (Some x) have there is = changed-has k (dot_node edit x) ns ms have (λ y e. dot-has x y (get-has k ns x have there) e) is

along-header-has : (path : List (List ℕ)) (edit : Edit) → ((ns ms : Nodes) → NodesHave ns → edit ns ≡ Some ms → NodesHave ms)
    → (ns ms : Nodes) → NodesHave ns → along_header path edit ns ≡ Some ms → NodesHave ms
unfolding along_header
along-header-has [] edit keeps ns ms have is = keeps ns ms have is
along-header-has (k ∷ path) edit keeps ns ms have is =
    by-header-has (along_header path edit) (along-header-has path edit keeps) k ns ms (get_node k ns) have refl is

along-dots-has : (path : List (List ℕ)) (edit : Edit) → ((ns ms : Nodes) → NodesHave ns → edit ns ≡ Some ms → NodesHave ms)
    → (ns ms : Nodes) → NodesHave ns → along_dots path edit ns ≡ Some ms → NodesHave ms
unfolding along_dots
along-dots-has [] edit keeps ns ms have is = keeps ns ms have is
along-dots-has (k ∷ path) edit keeps ns ms have is =
    by-dot-has (along_dots path edit) (along-dots-has path edit keeps) k ns ms (get_node k ns) have refl is

-- what a definition adds
abbrev Adds : Definition → Type 0
Adds (key_value d) = HasBytes d
Adds std_table = Unit {0}
Adds array_table = Unit {0}

new-node-has : (what : Definition) → Adds what → NodeHas (new_node what)
new-node-has (key_value d) adds = adds
new-node-has std_table adds = tt
new-node-has array_table adds = (tt, tt)

redefine-has : (what : Definition) (x y : Node) → NodeHas x → redefine what x ≡ Some y → NodeHas y
redefine-has (key_value d) x y has is = absurd cc
redefine-has std_table (value d) y has is = absurd cc
redefine-has std_table (open_table implicit inner) y has is = let same : open_table header inner ≡ y = cc in subst NodeHas same has
redefine-has std_table (open_table dotted inner) y has is = absurd cc
redefine-has std_table (open_table header inner) y has is = absurd cc
redefine-has std_table (open_array done last) y has is = absurd cc
redefine-has array_table (value d) y has is = absurd cc
redefine-has array_table (open_table origin inner) y has is = absurd cc
redefine-has array_table (open_array done last) y has is =
    let same : open_array (push_item done (table (close last))) no_nodes ≡ y = cc in
    subst NodeHas same (push-has done (table (close last)) has.0 (close-has last has.1), tt)

at-key-has : (k : List ℕ) (what : Definition) → Adds what → (ns ms : Nodes) → NodesHave ns → at_key k what ns ≡ Some ms → NodesHave ms
unfolding at_key
at-key-has k what adds ns ms have is = by (get_node k ns) refl is where
  by : (o : Option Node) → get_node k ns ≡ o → at_found k what ns o ≡ Some ms → NodesHave ms
  by None there is =
      let same : insert k (new_node what) ns ≡ ms = cc in subst NodesHave same (insert-has k (new_node what) ns (new-node-has what adds) have)
  by (Some x) there is =
      let (new, e, same) = mapped_some (λ y. replace k y ns) (redefine what x) ms is in
      subst NodesHave same (replace-has k new ns (redefine-has what x new (get-has k ns x have there) e) have)

put-has : (k : Key) (d : Data) → HasBytes d → (ns ms : Nodes) → NodesHave ns → put k d ns ≡ Some ms → NodesHave ms
put-has k d has ns ms have is = along-dots-has k.0 (at_key k.1 (key_value d)) (at-key-has k.1 (key_value d) has) ns ms have is

define-has : (doc next : Document) (e : Expression) → Adds e.1 → NodesHave doc.0 → define doc e ≡ Some next → NodesHave next.0
unfolding define
define-has doc next (k, key_value d) adds have is =
    let (root, e, same) = mapped_some (λ root. (root, doc.1)) (along_header doc.1 (put k d) doc.0) next is in
    subst (λ (n : Document). NodesHave n.0) same (along-header-has doc.1 (put k d) (put-has k d adds) doc.0 root have e)
define-has doc next (k, std_table) adds have is =
    let (root, e, same) = mapped_some (λ root. (root, k.0 ++ k.1 ∷ [])) (along_header k.0 (at_key k.1 std_table) doc.0) next is in
    subst (λ (n : Document). NodesHave n.0) same (along-header-has k.0 (at_key k.1 std_table) (at-key-has k.1 std_table adds) doc.0 root have e)
define-has doc next (k, array_table) adds have is =
    let (root, e, same) = mapped_some (λ root. (root, k.0 ++ k.1 ∷ [])) (along_header k.0 (at_key k.1 array_table) doc.0) next is in
    subst (λ (n : Document). NodesHave n.0) same (along-header-has k.0 (at_key k.1 array_table) (at-key-has k.1 array_table adds) doc.0 root have e)

-- ---- values

atom-keeps : (text : List ℕ) → AreBytes text → Keeps HasBytes (atom text)
unfolding atom
atom-keeps text are = by (starts_string text) where
  texts : (r : Read (List ℕ)) → Keeps AreBytes r → Keeps HasBytes (read_map string r)
  texts None is = tt
  texts (Some p) is = is

  scalars : (r : Read Scalar) → Keeps Any r → Keeps HasBytes (read_map scalar_data r)
  scalars None is = tt
  scalars (Some (Boolean b, rest)) is = (tt, is.1)
  scalars (Some (Integer z, rest)) is = (tt, is.1)
  scalars (Some (Float x, rest)) is = (tt, is.1)
  scalars (Some (Datetime dt, rest)) is = (tt, is.1)

  by : (b : Bool) → Keeps HasBytes (if b then read_map string (quoted text) else read_map scalar_data (unquoted text))
  by true = texts (quoted text) (quoted-keeps text are)
  by false = scalars (unquoted text) (unquoted-keeps text are)

element-bytes : (closing : ℕ) (text : List ℕ) → AreBytes text → IfSome (after_element closing text) AreBytes
unfolding after_element
element-bytes closing text are = by (first (skip_blank text) == comma) (first (skip_blank text) == closing) where
  by : (more ends : Bool) → IfSome (if more then Some (drop 1 (skip_blank text)) else if ends then Some (skip_blank text) else None) AreBytes
  by true ends = AreBytes-drop 1 (skip_blank text) (blank-bytes text are)
  by false true = blank-bytes text are
  by false false = tt

after-bytes : (b : ℕ) (text : List ℕ) → AreBytes text → IfSome (after b text) AreBytes
after-bytes b text are = by (first text == b) where
  by : (is : Bool) → IfSome (if is then Some (drop 1 text) else None) AreBytes
  by true = AreBytes-drop 1 text are
  by false = tt

equals-keeps : (text : List ℕ) → AreBytes text → Keeps Any (key_equals text)
unfolding key_equals
equals-keeps text are = by (key text) (key-keeps text are) where
  sign : (k : Key) (o : Option (List ℕ)) → IfSome o AreBytes → Keeps Any (option_map (λ rest. (k, skip_ws rest)) o)
  sign k None is = tt
  sign k (Some rest) is = (tt, ws-bytes rest is)

  by : (r : Read Key) → Keeps Any r → Keeps Any (option_and_then (λ k. option_map (λ rest. (k.0, skip_ws rest)) (after equals k.1)) r)
  by None is = tt
  by (Some k) is = sign k.0 (after equals k.1) (after-bytes equals k.1 is.1)

-- a pair of a key and data
abbrev PairHas : Key × Data → Type 0
PairHas e = HasBytes e.1

module _ (val : List ℕ → Read Data) (keeps_val : (text : List ℕ) → AreBytes text → Keeps HasBytes (val text)) where
  keyval-keeps : (text : List ℕ) → AreBytes text → Keeps PairHas (keyval val text)
  keyval-keeps text are = by (key_equals text) (equals-keeps text are) where
    pair : (k : Key) (r : Read Data) → Keeps HasBytes r → Keeps PairHas (read_map (λ d. (k, d)) r)
    pair k None is = tt
    pair k (Some p) is = is

    by : (r : Read Key) → Keeps Any r → Keeps PairHas (option_and_then (λ k. read_map (λ d. (k.0, d)) (val k.1)) r)
    by None is = tt
    by (Some k) is = pair k.0 (val k.1) (keeps_val k.1 is.1)

  items-keep : (n : ℕ) (found : Items) (text : List ℕ) → ItemsHaveBytes found → AreBytes text → Keeps ItemsHaveBytes (items val n found text)
  unfolding items
  items-keep zero found text have are = tt
  items-keep (suc n) found text have are =
      by (first (skip_blank text) == right_bracket) (items-keep n) where
        next : (d : Data) (o : Option (List ℕ)) → HasBytes d → IfSome o AreBytes
            → ((ds : Items) (rest : List ℕ) → ItemsHaveBytes ds → AreBytes rest → Keeps ItemsHaveBytes (items val n ds rest))
            → Keeps ItemsHaveBytes (option_and_then (items val n (push_item found d)) o)
        next d None has is later = tt
        next d (Some rest) has is later = later (push_item found d) rest (push-has found d have has) is

        one : (r : Read Data) → Keeps HasBytes r
            → ((ds : Items) (rest : List ℕ) → ItemsHaveBytes ds → AreBytes rest → Keeps ItemsHaveBytes (items val n ds rest))
            → Keeps ItemsHaveBytes (option_and_then (λ v. option_and_then (items val n (push_item found v.0)) (after_element right_bracket v.1)) r)
        one None is later = tt
        one (Some v) is later = next v.0 (after_element right_bracket v.1) is.0 (element-bytes right_bracket v.1 is.1) later

        by : (b : Bool) → ((ds : Items) (rest : List ℕ) → ItemsHaveBytes ds → AreBytes rest → Keeps ItemsHaveBytes (items val n ds rest))
            → Keeps ItemsHaveBytes (if b then Some (found, drop 1 (skip_blank text))
            else option_and_then (λ v. option_and_then (items val n (push_item found v.0)) (after_element right_bracket v.1)) (val (skip_blank text)))
        by true later = (have, AreBytes-drop 1 (skip_blank text) (blank-bytes text are))
        by false later = one (val (skip_blank text)) (keeps_val (skip_blank text) (blank-bytes text are)) later

  members-keep : (n : ℕ) (found : Nodes) (text : List ℕ) → NodesHave found → AreBytes text → Keeps MembersHaveBytes (members val n found text)
  unfolding members
  members-keep zero found text have are = tt
  members-keep (suc n) found text have are =
      by (first (skip_blank text) == right_brace) (members-keep n) where
        next : (more : Nodes) (o : Option (List ℕ)) → NodesHave more → IfSome o AreBytes
            → ((ns : Nodes) (rest : List ℕ) → NodesHave ns → AreBytes rest → Keeps MembersHaveBytes (members val n ns rest))
            → Keeps MembersHaveBytes (option_and_then (members val n more) o)
        next more None has is later = tt
        next more (Some rest) has is later = later more rest has is

        edit : (k : Key) (d : Data) (rest : List ℕ) (o : Option Nodes) → put k d found ≡ o → HasBytes d → AreBytes rest
            → ((ns : Nodes) (rest : List ℕ) → NodesHave ns → AreBytes rest → Keeps MembersHaveBytes (members val n ns rest))
            → Keeps MembersHaveBytes (option_and_then (λ more. option_and_then (members val n more) (after_element right_brace rest)) o)
        edit k d rest None is has own later = tt
        edit k d rest (Some more) is has own later =
            next more (after_element right_brace rest) (put-has k d has found more have is) (element-bytes right_brace rest own) later

        one : (r : Read (Key × Data)) → Keeps PairHas r
            → ((ns : Nodes) (rest : List ℕ) → NodesHave ns → AreBytes rest → Keeps MembersHaveBytes (members val n ns rest))
            → Keeps MembersHaveBytes
            (option_and_then (λ e. option_and_then (λ more. option_and_then (members val n more) (after_element right_brace e.1)) (put e.0.0 e.0.1 found)) r)
        one None is later = tt
        one (Some e) is later = edit e.0.0 e.0.1 e.1 (put e.0.0 e.0.1 found) refl is.0 is.1 later

        by : (b : Bool) → ((ns : Nodes) (rest : List ℕ) → NodesHave ns → AreBytes rest → Keeps MembersHaveBytes (members val n ns rest))
            → Keeps MembersHaveBytes (if b then Some (close found, drop 1 (skip_blank text))
            else option_and_then (λ e. option_and_then (λ more. option_and_then (members val n more) (after_element right_brace e.1)) (put e.0.0 e.0.1 found))
            (keyval val (skip_blank text)))
        by true later = (close-has found have, AreBytes-drop 1 (skip_blank text) (blank-bytes text are))
        by false later = one (keyval val (skip_blank text)) (keyval-keeps (skip_blank text) (blank-bytes text are)) later

val-keeps : (depth : ℕ) (text : List ℕ) → AreBytes text → Keeps HasBytes (val depth text)
unfolding val
val-keeps zero text are = atom-keeps text are
val-keeps (suc depth) text are = by (first text == left_bracket) (first text == left_brace) (val-keeps depth) where
  rest : AreBytes (drop 1 text)
  rest = AreBytes-drop 1 text are

  arrays : (r : Read Items) → Keeps ItemsHaveBytes r → Keeps HasBytes (read_map array r)
  arrays None is = tt
  arrays (Some p) is = is

  tables : (r : Read Members) → Keeps MembersHaveBytes r → Keeps HasBytes (read_map table r)
  tables None is = tt
  tables (Some p) is = is

  by : (bracket brace : Bool) → ((rest : List ℕ) → AreBytes rest → Keeps HasBytes (val depth rest))
      → Keeps HasBytes (if bracket then read_map array (items (val depth) (length text) no_items (drop 1 text))
      else if brace then read_map table (members (val depth) (length text) no_nodes (drop 1 text)) else atom text)
  by true brace later =
      arrays (items (val depth) (length text) no_items (drop 1 text)) (items-keep (val depth) later (length text) no_items (drop 1 text) tt rest)
  by false true later =
      tables (members (val depth) (length text) no_nodes (drop 1 text)) (members-keep (val depth) later (length text) no_nodes (drop 1 text) tt rest)
  by false false later = atom-keeps text are

-- ---- documents

header-keeps : (text : List ℕ) → AreBytes text → Keeps Any (header_key text)
unfolding header_key
header-keeps text are = by (key (skip_ws text)) (key-keeps (skip_ws text) (ws-bytes text are)) where
  bracket : (k : Key) (o : Option (List ℕ)) → IfSome o AreBytes → Keeps Any (option_map (λ rest. (k, rest)) o)
  bracket k None is = tt
  bracket k (Some rest) is = (tt, is)

  by : (r : Read Key) → Keeps Any r → Keeps Any (option_and_then (λ k. option_map (λ rest. (k.0, rest)) (after right_bracket k.1)) r)
  by None is = tt
  by (Some k) is = bracket k.0 (after right_bracket k.1) (after-bytes right_bracket k.1 is.1)

-- what an expression adds
abbrev ExpressionAdds : Expression → Type 0
ExpressionAdds e = Adds e.1

expression-keeps : (text : List ℕ) → AreBytes text → Keeps ExpressionAdds (expression text)
unfolding expression
expression-keeps text are = by (first text == left_bracket) (slice_index text 1 == left_bracket) where
  closes : (k : Key) (o : Option (List ℕ)) → IfSome o AreBytes → Keeps ExpressionAdds (option_map (λ rest. ((k, array_table), rest)) o)
  closes k None is = tt
  closes k (Some rest) is = (tt, is)

  arrays : (r : Read Key) → Keeps Any r
      → Keeps ExpressionAdds (option_and_then (λ k. option_map (λ rest. ((k.0, array_table), rest)) (after right_bracket k.1)) r)
  arrays None is = tt
  arrays (Some k) is = closes k.0 (after right_bracket k.1) (after-bytes right_bracket k.1 is.1)

  tables : (r : Read Key) → Keeps Any r → Keeps ExpressionAdds (read_map (λ k. (k, std_table)) r)
  tables None is = tt
  tables (Some k) is = is

  pairs : (r : Read (Key × Data)) → Keeps PairHas r → Keeps ExpressionAdds (read_map (λ p. (p.0, key_value p.1)) r)
  pairs None is = tt
  pairs (Some p) is = is

  by : (bracket second : Bool) → Keeps ExpressionAdds (if bracket && second
      then option_and_then (λ k. option_map (λ rest. ((k.0, array_table), rest)) (after right_bracket k.1)) (header_key (drop 2 text))
      else if bracket then read_map (λ k. (k, std_table)) (header_key (drop 1 text))
      else read_map (λ p. (p.0, key_value p.1)) (keyval (val recursion_limit) text))
  by true true = arrays (header_key (drop 2 text)) (header-keeps (drop 2 text) (AreBytes-drop 2 text are))
  by true false = tables (header_key (drop 1 text)) (header-keeps (drop 1 text) (AreBytes-drop 1 text are))
  by false second = pairs (keyval (val recursion_limit) text) (keyval-keeps (val recursion_limit) (val-keeps recursion_limit) text are)

line-keeps : (text : List ℕ) → AreBytes text → Keeps ExpressionAdds (line text)
unfolding line
line-keeps text are = by (expression text) (expression-keeps text are) where
  ends : (e : Expression × List ℕ) (b : Bool) → Adds e.0.1 × AreBytes e.1 → Keeps ExpressionAdds (if b then Some e else None)
  ends e true is = is
  ends e false is = tt

  by : (r : Read Expression) → Keeps ExpressionAdds r
      → Keeps ExpressionAdds (option_and_then (λ e. if ends_line (skip_ws e.1) then Some e else None) r)
  by None is = tt
  by (Some e) is = ends e (ends_line (skip_ws e.1)) is

-- the data of a document that is being read
abbrev DocumentHas : Document → Type 0
DocumentHas doc = NodesHave doc.0

lines-keep : (n : ℕ) (doc : Document) (text : List ℕ) → DocumentHas doc → AreBytes text → IfSome (lines n doc text) DocumentHas
unfolding lines
lines-keep zero doc text have are = tt
lines-keep (suc n) doc text have are = by (length (skip_blank text) == 0) (lines-keep n) where
  edit : (e : Expression) (rest : List ℕ) (o : Option Document) → define doc e ≡ o → Adds e.1 → AreBytes rest
      → ((d : Document) (t : List ℕ) → DocumentHas d → AreBytes t → IfSome (lines n d t) DocumentHas)
      → IfSome (option_and_then (λ next. lines n next rest) o) DocumentHas
  edit e rest None is adds own later = tt
  edit e rest (Some next) is adds own later = later next rest (define-has doc next e adds have is) own

  one : (r : Read Expression) → Keeps ExpressionAdds r
      → ((d : Document) (t : List ℕ) → DocumentHas d → AreBytes t → IfSome (lines n d t) DocumentHas)
      → IfSome (option_and_then (λ e. option_and_then (λ next. lines n next e.1) (define doc e.0)) r) DocumentHas
  one None is later = tt
  one (Some e) is later = edit e.0 e.1 (define doc e.0) refl is.0 is.1 later

  by : (b : Bool) → ((d : Document) (t : List ℕ) → DocumentHas d → AreBytes t → IfSome (lines n d t) DocumentHas)
      → IfSome (if b then Some doc else option_and_then (λ e. option_and_then (λ next. lines n next e.1) (define doc e.0)) (line (skip_blank text)))
      DocumentHas
  by true later = have
  by false later = one (line (skip_blank text)) (line-keeps (skip_blank text) (blank-bytes text are)) later

bom-bytes : (text : List ℕ) → AreBytes text → AreBytes (skip_bom text)
unfolding skip_bom
bom-bytes text are = by ((first text == 0xEF && slice_index text 1 == 0xBB) && slice_index text 2 == 0xBF) where
  by : (b : Bool) → AreBytes (if b then drop 3 text else text)
  by true = AreBytes-drop 3 text are
  by false = are

-- the data of a document
pub document-bytes : (text : List ℕ) (ms : Members) → AreBytes text → parse_document text ≡ Some ms → MembersHaveBytes ms
unfolding parse_document
document-bytes text ms are is =
    let (doc, e, same) = mapped_some (λ (doc : Document). close doc.0) (lines (suc (length text)) (no_nodes, []) (skip_bom text)) ms is in
    subst MembersHaveBytes same (close-has doc.0 (by (lines (suc (length text)) (no_nodes, []) (skip_bom text)) doc e
    (lines-keep (suc (length text)) (no_nodes, []) (skip_bom text) tt (bom-bytes text are)))) where
      by : (o : Option Document) (doc : Document) → o ≡ Some doc → IfSome o DocumentHas → DocumentHas doc
      by None doc e has = absurd cc
      by (Some all) doc e has = let own : all ≡ doc = cc in subst DocumentHas own has
