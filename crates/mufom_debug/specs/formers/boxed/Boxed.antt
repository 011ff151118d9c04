-- How a `Boxed` contains its value, so that a type may contain itself through it: a debug item contains a boxed
-- block, and that block contains debug items.
--
-- Contracts see a `Boxed` as its value, and its one field is a `Box` with that value. So everything here goes
-- from the value to the `Box` and back, which keeps its pointer and its allocator.
use mathlib.Core.Path.{refl}
use mathlib.Core.Former.{Former, this, const, pair, via}
use base.Stored.{gnil}
use base.Fml.{ftrue}
use denote.RattleType.{RattleType}
use denote.Memory.{part_of}
use denote.RawPtr.{Ptr}
use denote.Sharing.{nothing}
use denote.HoleLaws.{Alike}
use denote.HolePlaces.{Recodes, struct_places, laid, one_value}
use denote.Hole.Fix.{over}
use denote.Param.Weighed.{Weighed}
use denote.Model.Placed.{view_places}
use Rattle.std.specs.declared.boxed.Box.{Box}
use Rattle.std.specs.contracts.boxed.Box as box
use Rattle.std.specs.declared.alloc.Global.{Global}
use Rattle.std.specs.contracts.alloc.Global as global
use Rattle.std.specs.contracts.impls.GlobalAllocator.TheImpl.{ghosts}
use Rattle.mufom_debug.specs.declared.boxed.Boxed.TheInside.{Inside}
use Rattle.mufom_debug.specs.declared.boxed.Boxed.TheView.{view, invariant}
use Rattle.mufom_debug.specs.contracts.boxed.Boxed as seen
use Rattle.mufom_debug.specs.contracts.boxed.Boxed.TheInside as stored

-- what contracts see: the value
abbrev pub the_former : Former {0} → Former {0}
the_former value = value

-- a box is as deep as its value
abbrev pub the_weighed : {value : Former {0}} → Weighed value → Weighed (the_former value)
the_weighed weighed = weighed

-- what is stored: one field, the `Box`, which is a pointer, an allocator and the value
abbrev in_box : Former {0}
in_box = via (pair (const (Ptr × Global)) this) Inside (λ X fields. ((fields.inner.ptr, fields.inner.alloc), fields.inner.value))
    (λ X parts. record { inner = record { ptr = parts.0.0; alloc = parts.0.1; value = parts.1 } }) (λ X fields. refl) (λ X parts. refl)

-- the same box with another value
abbrev with_value : {X Y : Type 0} → Box X Global → Y → Box Y Global
with_value b value = record { ptr = b.ptr; alloc = b.alloc; value = value }

abbrev box_of : RattleType → RattleType
box_of value = box.the_row value global.the_row ghosts

module _ (Before After : RattleType) (change : Before.Denot → After.Denot) where
  box_places : Alike Before After change → Alike (box_of Before) (box_of After) (λ b. with_value b (change b.value))
  unfolding part_of
  box_places alike = record {
    mir_same = λ i. (box_of (one_value Before (alike.mir_same i) (λ _. ftrue) (λ _ _. nothing) gnil)).mir;
    own_same = λ b i. (box_of (one_value Before (alike.mir_same i) (alike.own_same b.value i) (alike.shr_same b.value i) gnil)).own_val (with_value b tt);
    shr_same = λ b i. (box_of (one_value Before (alike.mir_same i) (alike.own_same b.value i) (alike.shr_same b.value i) gnil)).shr_at (with_value b tt);
  }

  -- if values are laid out, owned and borrowed alike, so are the boxes of them
  pub the_places : Alike Before After change → Alike (seen.the_row Before) (seen.the_row After) ((the_former this).map Before.Denot After.Denot change)
  the_places alike =
      let fields_alike = struct_places (stored.the_type Before) (stored.the_type After) ((λ b. with_value b (change b.value)), tt) _
      (λ fields. refl) refl (laid _ _ _ (box_places alike), tt) in
      view_places in_box this view (λ X Y f fields. refl) (λ X fields. refl)
      Before.Denot After.Denot change (seen.the_row Before).coded (seen.the_row After).coded
      (invariant Before.Denot) (invariant After.Denot) (λ fields p q. refl) (λ fields p q. refl) (λ fields p. tt) (λ fields p. tt)
      (over (stored.the_row Before)) (over (stored.the_row After)) fields_alike

  -- the code of a box is that of its value
  pub the_codes_placed : Recodes Before After change → Recodes (seen.the_row Before) (seen.the_row After)
      ((the_former this).map Before.Denot After.Denot change)
  the_codes_placed recodes value = recodes value
