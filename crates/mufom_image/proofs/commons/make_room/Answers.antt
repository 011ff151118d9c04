use Rattle.std.proofs.Common.{◌≡◌, ◌∙◌, ◌<◌, ◌≤◌, ◌++◌, ◌∷◌, [], Some, length, vec_len, slice_set, ap, sym, arith}
use Rattle.mufom_sections.specs.declared.section.Section.{Section}
use Rattle.std.proofs.lemmas.Option.{slice_get_read}
use Rattle.mufom_image.specs.Rooms.{room_of}
use Rattle.mufom_image.proofs.RoomLaws.{room-set, room-push}
use Rattle.mufom_image.proofs.commons.make_room.Goals as goal

pub returns-then-place-len : goal.returns-then-place-len
returns-then-place-len c =
    let room = c.in-Some.room in
    let commons = c.args.commons.now.items in
    let x = c.index_mut.result.now in
    let asked : room_of c.args.resolution c.args.reference.now.weak ≡ Some room = sym c.room_asked.ensures ∙ c.in-Some.is in
    let count : vec_len c.args.commons.now ≡ length commons = grind arith in
    let inside : room.common < vec_len c.args.commons.now = omega (arith, c.if-place-len.true, c.len.ensures) in
    let there = slice_get_read commons (vec_len c.args.commons.now) room.common x count inside c.index_mut.ensures.value in
    ap (slice_set commons room.common) c.raise.ensures ∙ room-set commons (room_of c.args.resolution c.args.reference.now.weak) room
    c.args.reference.now.name x asked there

pub returns : goal.returns
returns c =
    let room = c.in-Some.room in
    let commons = c.args.commons.now.items in
    let asked : room_of c.args.resolution c.args.reference.now.weak ≡ Some room = sym c.room_asked.ensures ∙ c.in-Some.is in
    let count : vec_len c.args.commons.now ≡ length commons = grind arith in
    let past : length commons ≤ room.common = omega (arith, count, c.if-place-len.false, c.len.ensures) in
    c.in_ok-push.ensures.items
    ∙ ap (λ (section : Section). commons ++ section ∷ []) c.in_ok-new_common.ensures
    ∙ room-push commons (room_of c.args.resolution c.args.reference.now.weak) room c.args.reference.now.name asked past
