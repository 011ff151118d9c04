use Rattle.std.proofs.Common.{◌≡◌, ℕ, List, length, arith, sym, ◌∙◌, ap, subst, refl}
use Rattle.std.specs.Prelude.{option_map}
use Rattle.std.specs.List.{All}
use Rattle.mufom_image_bytes.specs.declared.chunk.Chunk.{Chunk}
use Rattle.mufom_image_bytes.specs.Stops.{fact_of}
use Rattle.mufom_image_bytes.specs.Chunks.{cells_of_chunks}
use Rattle.mufom_image_bytes.specs.Loaded.{loaded_cells}
use Rattle.mufom_image_bytes.specs.Shared.{shares_from, AreOrdered}
use Rattle.mufom_image_bytes.specs.Spread.{IsAmong}
use Rattle.mufom_image_bytes.proofs.ImageLaws.{AreSorted, sorted_among, sorted_spread, refused, imaged}
use Rattle.mufom_image_bytes.proofs.SpreadLaws.{single_whole}
use Rattle.mufom_image_bytes.proofs.image.runs_of_loaded.Goals as goal

pub returns-in-Some-clause-refusal : goal.returns-in-Some-clause-refusal
returns-in-Some-clause-refusal c =
    let bytes = c.in_ok-chunks.bytes.items in
    let long : c.len.result ≡ length bytes = let len = c.len.ensures in omega (arith, len) in
    let chunks = c.in_ok-chunks.chunks.items in
    let sorted = c.sort_by_address.new.chunks.items in
    let h : AreSorted (loaded_cells c.args.loaded) bytes chunks sorted =
    record { consecutive = c.in_ok-chunks.ensures.consecutive; same = c.in_ok-chunks.ensures.cells; permuted = c.sort_by_address.ensures.permutation } in
    refused (loaded_cells c.args.loaded) bytes chunks sorted h c.in-Some.stop (option_map fact_of c.args.stop)
    (λ loaded ordered. c.in-Some.ensures.stop loaded (subst (λ (x : List Chunk × ℕ). AreOrdered x.0 x.1 loaded)
    (λ i. (sym c.deref.ensures.value i, sym long i)) ordered))

pub runs_of-requires-clause-spread : goal.runs_of-requires-clause-spread
runs_of-requires-clause-spread c =
    let bytes = c.in_ok-chunks.bytes.items in
    let long : c.len.result ≡ length bytes = let len = c.len.ensures in omega (arith, len) in
    let chunks = c.in_ok-chunks.chunks.items in
    let sorted = c.sort_by_address.new.chunks.items in
    let h : AreSorted (loaded_cells c.args.loaded) bytes chunks sorted =
    record { consecutive = c.in_ok-chunks.ensures.consecutive; same = c.in_ok-chunks.ensures.cells; permuted = c.sort_by_address.ensures.permutation } in
    rw c.deref-in-None.ensures.value
    (sorted_spread (loaded_cells c.args.loaded) bytes chunks sorted h
    (ap (λ n. shares_from n 0 sorted) (sym long) ∙ ap (shares_from c.len.result 0) (sym c.deref.ensures.value) ∙ c.in-None.ensures.apart refl))

pub runs_of-requires-clause-among : goal.runs_of-requires-clause-among
runs_of-requires-clause-among c =
    let bytes = c.in_ok-chunks.bytes.items in
    let long : c.len.result ≡ length bytes = let len = c.len.ensures in omega (arith, len) in
    let chunks = c.in_ok-chunks.chunks.items in
    let sorted = c.sort_by_address.new.chunks.items in
    let h : AreSorted (loaded_cells c.args.loaded) bytes chunks sorted =
    record { consecutive = c.in_ok-chunks.ensures.consecutive; same = c.in_ok-chunks.ensures.cells; permuted = c.sort_by_address.ensures.permutation } in
    let P : List ℕ → List Chunk → Type 0 = λ own list. All (IsAmong own) list in
    subst (P bytes) (sym c.deref-in-None.ensures.value) (sorted_among (loaded_cells c.args.loaded) bytes chunks sorted h)

pub returns-clause-image : goal.returns-clause-image
returns-clause-image c =
    let bytes = c.in_ok-chunks.bytes.items in
    let long : c.len.result ≡ length bytes = let len = c.len.ensures in omega (arith, len) in
    let chunks = c.in_ok-chunks.chunks.items in
    let sorted = c.sort_by_address.new.chunks.items in
    let h : AreSorted (loaded_cells c.args.loaded) bytes chunks sorted =
    record { consecutive = c.in_ok-chunks.ensures.consecutive; same = c.in_ok-chunks.ensures.cells; permuted = c.sort_by_address.ensures.permutation } in
    imaged (loaded_cells c.args.loaded) bytes chunks sorted h c.args.stop c.in_ok-runs_of-in-None.field-0
    (λ loaded ordered. c.in-None.ensures.stop loaded (subst (λ (x : List Chunk × ℕ). AreOrdered x.0 x.1 loaded)
    (λ i. (sym c.deref.ensures.value i, sym long i)) ordered))
    (c.in-None.ensures.ended refl) c.in_ok-runs_of-in-None.ensures.apart
    (c.in_ok-runs_of-in-None.ensures.cells ∙ ap (cells_of_chunks bytes) c.deref-in-None.ensures.value)

pub runs_of-requires-clause-whole : goal.runs_of-requires-clause-whole
runs_of-requires-clause-whole c =
    let bytes = c.in_ok-chunks.bytes.items in
    rw c.deref-in-None.ensures.value (single_whole (length bytes) c.in_ok-chunks.chunks.items c.sort_by_address.new.chunks.items
    c.in_ok-chunks.ensures.consecutive c.sort_by_address.ensures.permutation)
