-- Chunks of bytes: more bytes after them, one chunk more, and a chunk that grows.
use Rattle.std.proofs.Common.{◌≡◌, ℕ, zero, suc, ◌+◌, ◌-◌, ◌<◌, ◌≤◌, List, [], ◌∷◌, ◌++◌, length, take, drop, refl, sym, ◌∙◌, ap, subst, arith}
use Rattle.std.proofs.Common.{append-nil, append_assoc, length-append}
use Rattle.mufom_meaning.specs.AddressMap.{cells_from}
use Rattle.mufom_image_bytes.specs.declared.chunk.Chunk.{Chunk}
use Rattle.mufom_image_bytes.specs.Chunks.{chunk_cells, cells_of_chunks, AreConsecutive}

pub cells_from-append : (at : ℕ) (xs ys : List ℕ) → cells_from at (xs ++ ys) ≡ cells_from at xs ++ cells_from (at + length xs) ys
cells_from-append at [] ys = let same : at ≡ at + 0 = omega arith in ap (λ a. cells_from a ys) same
cells_from-append at (x ∷ xs) ys =
    let same : suc at + length xs ≡ at + length (x ∷ xs) = omega arith in
    ap (λ rest. (at, x) ∷ rest) (cells_from-append (suc at) xs ys ∙ ap (λ a. cells_from (suc at) xs ++ cells_from a ys) same)

drop-within : (n : ℕ) (xs ys : List ℕ) → n ≤ length xs → drop n (xs ++ ys) ≡ drop n xs ++ ys
drop-within zero xs ys less = refl
drop-within (suc n) [] ys less = absurd (omega (arith, less))
drop-within (suc n) (x ∷ xs) ys less = drop-within n xs ys (omega (arith, less))

take-within : (n : ℕ) (xs ys : List ℕ) → n ≤ length xs → take n (xs ++ ys) ≡ take n xs
take-within zero xs ys less = refl
take-within (suc n) [] ys less = absurd (omega (arith, less))
take-within (suc n) (x ∷ xs) ys less = ap (λ rest. x ∷ rest) (take-within n xs ys (omega (arith, less)))

pub take-all : (n : ℕ) (xs : List ℕ) → length xs ≤ n → take n xs ≡ xs
take-all zero [] less = refl
take-all zero (x ∷ xs) less = absurd (omega (arith, less))
take-all (suc n) [] less = refl
take-all (suc n) (x ∷ xs) less = ap (λ rest. x ∷ rest) (take-all n xs (omega (arith, less)))

pub length_dropped : (n : ℕ) (xs : List ℕ) → length (drop n xs) ≡ length xs - n
length_dropped zero xs = omega arith
length_dropped (suc n) [] = omega arith
length_dropped (suc n) (x ∷ xs) = let later = length_dropped n xs in omega (arith, later)

-- the cells of a chunk stay when bytes follow
pub chunk_kept : (bytes more : List ℕ) (c : Chunk) → c.start + c.count ≤ length bytes → chunk_cells (bytes ++ more) c ≡ chunk_cells bytes c
chunk_kept bytes more c within =
    let low : c.start ≤ length bytes = omega (arith, within) in
    let left = length_dropped c.start bytes in
    let enough : c.count ≤ length (drop c.start bytes) = omega (arith, within, left) in
    ap (λ rest. cells_from c.address (take c.count rest)) (drop-within c.start bytes more low)
    ∙ ap (cells_from c.address) (take-within c.count (drop c.start bytes) more enough)

pub end_after_start : (start end : ℕ) (chunks : List Chunk) → AreConsecutive start chunks end → start ≤ end
end_after_start start end [] h = let same = h in omega (arith, same)
end_after_start start end (c ∷ chunks) h = let later = end_after_start (start + c.count) end chunks h.2 in omega (arith, later)

-- the same of consecutive chunks
pub chunks_kept : (start end : ℕ) (bytes more : List ℕ) (chunks : List Chunk) → AreConsecutive start chunks end → end ≤ length bytes
    → cells_of_chunks (bytes ++ more) chunks ≡ cells_of_chunks bytes chunks
chunks_kept start end bytes more [] h within = refl
chunks_kept start end bytes more (c ∷ chunks) h within =
    let later = chunks_kept (start + c.count) end bytes more chunks h.2 within in
    let high = end_after_start (start + c.count) end chunks h.2 in
    let from = h.0 in
    ap (λ cells. cells ++ cells_of_chunks (bytes ++ more) chunks) (chunk_kept bytes more c (omega (arith, from, high, within)))
    ∙ ap (λ cells. chunk_cells bytes c ++ cells) later

-- one chunk more
pub consecutive-push : (start end : ℕ) (chunks : List Chunk) (c : Chunk) → AreConsecutive start chunks end → c.start ≡ end → 0 < c.count
    → AreConsecutive start (chunks ++ c ∷ []) (end + c.count)
consecutive-push start end [] c h at some = let same = h in (at ∙ sym same, some, ap (λ n. n + c.count) same)
consecutive-push start end (d ∷ chunks) c h at some = (h.0, h.1, consecutive-push (start + d.count) end chunks c h.2 at some)

pub cells-push : (bytes : List ℕ) (chunks : List Chunk) (c : Chunk) → cells_of_chunks bytes (chunks ++ c ∷ []) ≡ cells_of_chunks bytes chunks
    ++ chunk_cells bytes c
cells-push bytes [] c = append-nil (chunk_cells bytes c)
cells-push bytes (d ∷ chunks) c =
    ap (λ cells. chunk_cells bytes d ++ cells) (cells-push bytes chunks c)
    ∙ sym (append_assoc (chunk_cells bytes d) (cells_of_chunks bytes chunks) (chunk_cells bytes c))

-- a chunk without bytes has no cells
pub empty_chunk : (bytes : List ℕ) (c : Chunk) → c.count ≡ 0 → chunk_cells bytes c ≡ []
empty_chunk bytes c none = ap (λ n. cells_from c.address (take n (drop c.start bytes))) none

-- bytes that follow a chunk
pub chunk_grown : (bytes more : List ℕ) (c grown : Chunk) → c.start + c.count ≡ length bytes → grown.address ≡ c.address → grown.start ≡ c.start
    → grown.count ≡ c.count + length more
    → chunk_cells (bytes ++ more) grown ≡ chunk_cells bytes c ++ cells_from (c.address + c.count) more
chunk_grown bytes more c grown ends address start count =
    let low : c.start ≤ length bytes = omega (arith, ends) in
    let left = length_dropped c.start bytes in
    let all : length (drop c.start bytes) ≡ c.count = omega (arith, left, ends) in
    let both = length-append (drop c.start bytes) more in
    let whole : length (drop c.start bytes ++ more) ≤ grown.count = omega (arith, both, all, count) in
    let own : length (drop c.start bytes) ≤ c.count = omega (arith, all) in
    ap (λ n. cells_from grown.address (take grown.count (drop n (bytes ++ more)))) start
    ∙ ap (λ rest. cells_from grown.address (take grown.count rest)) (drop-within c.start bytes more low)
    ∙ ap (cells_from grown.address) (take-all grown.count (drop c.start bytes ++ more) whole)
    ∙ ap (λ a. cells_from a (drop c.start bytes ++ more)) address
    ∙ cells_from-append c.address (drop c.start bytes) more
    ∙ ap (λ n. cells_from c.address (drop c.start bytes) ++ cells_from (c.address + n) more) all
    ∙ ap (λ own_bytes. cells_from c.address own_bytes ++ cells_from (c.address + c.count) more) (sym (take-all c.count (drop c.start bytes) own))

-- the last chunk is put with the others
pub closed : (chunks pushed : List Chunk) (last : Chunk) (end : ℕ) → pushed ≡ chunks ++ last ∷ [] → AreConsecutive 0 chunks last.start
    → last.start + last.count ≡ end → 0 < last.count
    → AreConsecutive 0 pushed end
closed chunks pushed last end same h ends some =
    subst (λ (x : List Chunk × ℕ). AreConsecutive 0 x.0 x.1) (λ i. (sym same i, ends i)) (consecutive-push 0 last.start chunks last h refl some)

-- the last chunk has no bytes
pub closed_empty : (chunks : List Chunk) (last : Chunk) (end : ℕ) → AreConsecutive 0 chunks last.start → last.start + last.count ≡ end → last.count
    ≡ 0 → AreConsecutive 0 chunks end
closed_empty chunks last end h ends none = let same : last.start ≡ end = omega (arith, ends, none) in subst (AreConsecutive 0 chunks) same h

pub without_last : (bytes : List ℕ) (chunks : List Chunk) (last : Chunk) → last.count ≡ 0 → cells_of_chunks bytes chunks
    ≡ cells_of_chunks bytes (chunks ++ last ∷ [])
without_last bytes chunks last none = sym (append-nil (cells_of_chunks bytes chunks))
    ∙ ap (λ cells. cells_of_chunks bytes chunks ++ cells) (sym (empty_chunk bytes last none)) ∙ sym (cells-push bytes chunks last)

-- bytes that follow the last chunk
pub extended : (chunks : List Chunk) (last grown : Chunk) (bytes more longer : List ℕ) → longer ≡ bytes ++ more → AreConsecutive 0 chunks last.start
    → last.start + last.count ≡ length bytes
    → grown.address ≡ last.address → grown.start ≡ last.start → grown.count ≡ last.count + length more
    → cells_of_chunks longer (chunks ++ grown ∷ []) ≡ cells_of_chunks bytes (chunks ++ last ∷ []) ++ cells_from (last.address + last.count) more
extended chunks last grown bytes more longer same h ends address start count =
    ap (λ all. cells_of_chunks all (chunks ++ grown ∷ [])) same
    ∙ cells-push (bytes ++ more) chunks grown
    ∙ ap (λ cells. cells ++ chunk_cells (bytes ++ more) grown) (chunks_kept 0 last.start bytes more chunks h (omega (arith, ends)))
    ∙ ap (λ cells. cells_of_chunks bytes chunks ++ cells) (chunk_grown bytes more last grown ends address start count)
    ∙ sym (append_assoc (cells_of_chunks bytes chunks) (chunk_cells bytes last) (cells_from (last.address + last.count) more))
    ∙ ap (λ cells. cells ++ cells_from (last.address + last.count) more) (sym (cells-push bytes chunks last))
