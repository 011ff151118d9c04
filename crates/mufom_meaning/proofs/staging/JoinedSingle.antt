-- A list has one partial link under a name at most: marks determine the debug items, and all else is determined by equations.
use Rattle.std.proofs.Common.{◌≡◌, [], ◌∷◌, Option, Some, None, refl, sym, ◌∙◌}
use Rattle.std.specs.Prelude.{option_to_list}
use Rattle.mufom_debug.proofs.Rebuilt.{same_items}
use Rattle.mufom_meaning.specs.StagingLaws.{JoinedIsSingle}

-- an option is determined by the list of what it has
same_option : {A : Type 0} (o u : Option A) → option_to_list o ≡ option_to_list u → o ≡ u
same_option None None e = refl
same_option (Some x) (Some y) e = cc
same_option None (Some y) e = absurd cc
same_option (Some x) None e = absurd cc

pub joined_is_single : JoinedIsSingle
joined_is_single M N [] name j k = absurd j.header
joined_is_single M N (m ∷ ms) name j k =
    let h = j.header in let g = k.header in
    let named = j.named ∙ sym k.named in
    let processor = h.processor ∙ sym g.processor in
    let maus = h.maus ∙ sym g.maus in
    let order = h.order ∙ sym g.order in
    let ext = h.ext ∙ sym g.ext in
    let env = h.env ∙ sym g.env in
    let sections = j.sections ∙ sym k.sections in
    let publics = j.publics ∙ sym k.publics in
    let references = j.references ∙ sym k.references in
    let loads = j.loads ∙ sym k.loads in
    let start = same_option M.start N.start (j.start ∙ sym k.start) in
    let debug = same_items M.debug N.debug (j.debug ∙ sym k.debug) in
    λ i. record {
      processor = processor i;
      name = named i;
      maus = maus i;
      order = order i;
      ext = ext i;
      env = env i;
      sections = sections i;
      names = record { publics = publics i; references = references i };
      debug = debug i;
      loads = loads i;
      start = start i;
    }
