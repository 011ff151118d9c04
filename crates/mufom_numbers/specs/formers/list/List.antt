-- How a `List` contains its items, so that a type may contain itself through a list: a debug block contains a
-- list of debug items, and some of these are blocks.
--
-- Contracts see a `List` as a list, and its one field is a `Vec` whose items are that list. So everything here
-- goes from the list to the `Vec` and back. How the items are stored is described in `Vec`'s own file.
use mathlib.Core.Path.{◌≡◌, refl, sym}
use mathlib.Core.List.{List, []}
use mathlib.Core.Former.{Former, this, via, children, list as list_of}
use base.Stored.{code_map}
use denote.RattleType.{RattleType}
use denote.HoleLaws.{Alike}
use denote.HolePlaces.{Recodes, laid, struct_places}
use denote.Hole.Carrier.{listed, list-listed}
use denote.Hole.Fix.{over}
use denote.Param.Weighed.{Weighed, w_list}
use denote.Model.Placed.{view_places}
use Rattle.std.specs.declared.alloc.Global.{Global}
use Rattle.std.specs.contracts.alloc.Global as global
use Rattle.std.specs.contracts.impls.GlobalAllocator.TheImpl.{ghosts}
use Rattle.std.specs.formers.vec.Vec as vec
use Rattle.mufom_numbers.specs.declared.list.List.TheInside.{Inside}
use Rattle.mufom_numbers.specs.declared.list.List.TheView.{view, invariant}
use Rattle.mufom_numbers.specs.contracts.list.List as seen
use Rattle.mufom_numbers.specs.contracts.list.List.TheInside as stored

-- what contracts see: a list over the views of its items
abbrev pub the_former : Former {0} → Former {0}
the_former item = list_of item

-- a list is as deep as its deepest item
abbrev pub the_weighed : {item : Former {0}} → Weighed item → Weighed (the_former item)
the_weighed weighed = w_list weighed

-- an empty list contains no items, so a tree can end
abbrev pub the_empty : List ⊥
the_empty = []

abbrev pub the_items : (X : Type 0) → List X → List X
the_items X items = items

pub the_items_listed : (X : Type 0) (items : List X) → listed _ (children (the_former this) X items) ≡ the_items X items
the_items_listed X items = list-listed X items

-- what is stored: one field, the `Vec`
abbrev in_vec : Former {0}
in_vec = via (vec.the_former this Global) Inside (λ X fields. fields.items) (λ X items. record { items = items }) (λ X fields. refl) (λ X items. refl)

module _ (Before After : RattleType) (change : Before.Denot → After.Denot) where
  -- if items are laid out, owned and borrowed alike, so are the lists of them
  pub the_places : Alike Before After change → Alike (seen.the_row Before) (seen.the_row After) ((the_former this).map Before.Denot After.Denot change)
  the_places alike =
      let vec_alike = vec.the_places global.the_row ghosts Before After change alike in
      let fields_alike = struct_places (stored.the_type Before) (stored.the_type After) (vec.mapped change, tt) _ (λ fields. refl) refl
      (laid _ _ _ vec_alike, tt) in
      view_places in_vec (the_former this) view (λ X Y f fields. refl) (λ X fields. refl)
      Before.Denot After.Denot change (seen.the_row Before).coded (seen.the_row After).coded
      (invariant Before.Denot) (invariant After.Denot) (λ fields p q. refl) (λ fields p q. refl) (λ fields p. tt) (λ fields p. tt)
      (over (stored.the_row Before)) (over (stored.the_row After)) fields_alike

  -- the code of a list is that of the list of its items' codes
  pub the_codes_placed : Recodes Before After change → Recodes (seen.the_row Before) (seen.the_row After)
      ((the_former this).map Before.Denot After.Denot change)
  the_codes_placed recodes items = sym (code_map Before.coded.code After.coded.code change (λ x. sym (recodes x)) items)
