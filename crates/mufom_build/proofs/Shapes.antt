-- A text from which a module is built has the shape of a listing.
use Rattle.std.proofs.Common.{List, [], ◌∷◌, inl, inr}
use Rattle.std.specs.List.{All}
use Rattle.std.proofs.lemmas.List.Elements.{All-weaker}
use Rattle.mufom_debug.specs.declared.item.BlockHead.{BlockHead}
use Rattle.mufom_debug.specs.declared.item.BlockHead.TheVariants as heads
use Rattle.mufom_debug.specs.Marks.{DebugMark, block_begin, block_end, name_mark, note_mark, value_mark, marks_of}
use Rattle.mufom_module.specs.declared.module.Parts.{Parts}
use Rattle.mufom_module.specs.Made.{IsMade, IsMadeNote, IsMadePublic, IsMadeReference, IsMadeHead, IsMadeMark}
use Rattle.mufom_text.specs.Words.{Text}
use Rattle.mufom_build_text.specs.Pieces.{Piece, byte, gap, figure, position, count, name, digits, expression, block}
use Rattle.mufom_build_text.specs.Pieces.{exact, loose, SpellsPiece, Spells}
use Rattle.mufom_build_text.specs.Places.{SpellsLines}
use Rattle.mufom_build.specs.Lines.{Line, listing_lines, HasFewNumbers, HasFewHeadNumbers, HasFewMarkNumbers, AreFew, Build, Shape}

-- what is read exactly is read loosely too

loose_piece : (piece : Piece) (text : Text) → SpellsPiece exact piece text → SpellsPiece loose piece text
loose_piece (byte value) text h = h
loose_piece gap text h = h
loose_piece (figure most value) text h = h
loose_piece (position value) text h = h.0
loose_piece (count value) text h = h.0
loose_piece (name bytes) text h = h
loose_piece (digits bytes) text h = h
loose_piece (expression tokens) text h = h
loose_piece (block opened) text h = h

loose_pieces : (pieces : List Piece) (text : Text) → Spells exact pieces text → Spells loose pieces text
loose_pieces [] text h = h
loose_pieces (piece ∷ pieces) text (first, rest, is, spelled, more) =
    (first, rest, is, loose_piece piece first spelled, loose_pieces pieces rest more)

pub loose_lines : (lines : List Line) (text : Text) → SpellsLines exact lines text → SpellsLines loose lines text
loose_lines [] text h = h
loose_lines (pieces ∷ lines) text (before, body, after, rest, is, blank, spelled, spaces, inl end) =
    (before, body, after, rest, is, blank, loose_pieces pieces body spelled, spaces, inl end)
loose_lines (pieces ∷ lines) text (before, body, after, rest, is, blank, spelled, spaces, inr (more, next, others)) =
    (before, body, after, rest, is, blank, loose_pieces pieces body spelled, spaces, inr (more, next, loose_lines lines more others))

-- ---- numbers of notes and blocks

few_head : (head : BlockHead) → IsMadeHead head → HasFewHeadNumbers head
few_head heads.Module made = tt
few_head (heads.Global stack type_index offset) made = tt
few_head (heads.Source numbers) made = made.0
few_head (heads.Local stack type_index offset) made = tt
few_head (heads.Section section_type section offset) made = tt

few_mark : (mark : DebugMark) → IsMadeMark mark → HasFewMarkNumbers mark
few_mark (block_begin head text) made = few_head head made.0
few_mark (block_end end) made = tt
few_mark (name_mark text) made = tt
few_mark (note_mark n note) made = made.1.few
few_mark (value_mark n value) made = tt

pub are_few : (m : Parts) → IsMade m → AreFew m
are_few m made = record {
  publics = All-weaker IsMadePublic (λ p. All HasFewNumbers p.notes) (λ p h. All-weaker IsMadeNote HasFewNumbers (λ note k. k.few) p.notes h.notes)
      m.names.publics made.publics;
  references = All-weaker IsMadeReference (λ r. All HasFewNumbers r.notes)
      (λ r h. All-weaker IsMadeNote HasFewNumbers (λ note k. k.few) r.notes h.notes) m.names.references made.references;
  debug = All-weaker IsMadeMark HasFewMarkNumbers few_mark (marks_of m.debug) made.debug;
}

pub build_has_shape : (text : Text) (m : Parts) → Build text m → Shape text
build_has_shape text m built = record { parts = m; listed = loose_lines (listing_lines m) text built.listed; few = are_few m built.made }
