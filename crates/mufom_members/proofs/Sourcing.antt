-- What was read of a source, and the verdict on it.
use Rattle.std.proofs.Common.{◌≡◌, ◌↔◌, ◌⊎◌, ℕ, ◌+◌, ◌-◌, ◌<◌, ◌≤◌, ◌∙◌, inl, inr, sym, ap, refl, Bool, true, false, List, [], ◌∷◌, ◌++◌, length, take}
use Rattle.std.proofs.Common.{drop, Option, Some, None, Result, Ok, Err, IfOk, IfSome, subst, append_assoc, append-nil, length-append, length-drop, arith}
use Rattle.std.proofs.lemmas.List.{length-take-le, take-append-drop, take-append-le}
use Rattle.mufom_records.specs.declared.options.ReadOptions.{ReadOptions}
use Rattle.mufom_host.specs.World.{Faults, Meaning, OnlyReads, ReadsOff}
use Rattle.mufom_host.proofs.Composing.{KeepsAllButLeft-trans, KeepsAllButReads-trans, ReadsOff-refl, ReadsOff-trans}
use Rattle.mufom_archive.specs.Entries.{BeginsArchive}
use Rattle.mufom_module.specs.Grammar.{file_limit}
use Rattle.mufom_members.specs.declared.content.Content.{Content}
use Rattle.mufom_members.specs.declared.members.Members.{Members}
use Rattle.mufom_members.specs.declared.members.MembersStop.{MembersStop}
use Rattle.mufom_members.specs.declared.members.MembersStop.TheVariants as stop
use Rattle.mufom_members.specs.Contents.{GoesOn, HasBegunWith, HasFed, HasReadChunk, HasReadOf, HasReadRest, HasReadWhole, IsVerdictAs}
use Rattle.mufom_members.specs.Contents.{Kind, ReadsMembers, kind_of}
use Rattle.mufom_members.specs.Files.{IsVerdict, Verdict}
use Rattle.mufom_members.specs.Results.{HasModules, SaysNothing, StopsBy}
use Rattle.mufom_members.proofs.Feeding.{has_modules, stops_by}
use Rattle.mufom_members.proofs.Gathering.{le_or_above}

pub only_trans : (a b c : Meaning) (x y z : Faults) → OnlyReads a b x y → OnlyReads b c y z → OnlyReads a c x z
only_trans a b c x y z one two = (
  KeepsAllButLeft-trans a b c one.0 two.0,
  KeepsAllButReads-trans x y z one.1 two.1,
  let low = one.2 in let high = two.2 in omega (arith, low, high),
)

pub only_none : (a : Meaning) (x : Faults) → OnlyReads a a x x
only_none a x = (refl, refl, omega arith)

-- ---- one read

-- a read that failed
pub chunk_failed : (kind : Kind) (room : ℕ) (before after : Option (List ℕ)) (stream : List ℕ) (new : Content) (s : MembersStop) → s ≡ stop.Fault
    → HasReadChunk kind room before after stream new (Err s)
chunk_failed kind room before after stream new s is =
    subst (λ (t : MembersStop). HasReadChunk kind room before after stream new (Err t)) (sym is) (nothing before)
  where
    nothing : (o : Option (List ℕ)) → IfSome o (λ left. Unit {0})
    nothing None = tt
    nothing (Some left) = tt

pub chunk_stopped : (kind : Kind) (room : ℕ) (before after : Option (List ℕ)) (stream chunk : List ℕ) (new : Content) (s : MembersStop)
    → ReadsOff before after chunk → HasFed kind room stream chunk new (Err s) → HasReadChunk kind room before after stream new (Err s)
chunk_stopped kind room None after stream chunk new s off fed = tt
chunk_stopped kind room (Some left) after stream chunk new s off fed =
    subst (λ l. StopsBy (IsVerdictAs kind (length stream + room) (stream ++ l)) s) (sym off.1) (fed off.0)

pub chunk_read : (kind : Kind) (room n : ℕ) (before after : Option (List ℕ)) (stream buffer : List ℕ) (new : Content)
    → n ≤ length buffer → ReadsOff before after (take n buffer) → (n ≡ 0 → IfSome before (λ left. left ≡ []))
    → HasFed kind room stream (take n buffer) new (Ok true) → HasReadChunk kind room before after stream new (Ok (Some n))
chunk_read kind room n before after stream buffer new inside off none fed =
    let size = length-take-le n buffer inside in
    let few = fed.0 in
    (take n buffer, size, omega (arith, size, few), off, fed.1, none)

-- more bytes than may be read
pub chunk_past : (kind : Kind) (room : ℕ) (before after : Option (List ℕ)) (stream chunk : List ℕ) (new : Content) → ReadsOff before after chunk
    → HasFed kind room stream chunk new (Ok false) → GoesOn room before stream new
chunk_past kind room before after stream chunk new off fed =
    let many = fed.0 in (take room chunk, length-take-le room chunk (omega (arith, many)), fed.1, by_before before off)
  where
    by_before : (o : Option (List ℕ)) → ReadsOff o after chunk
        → IfSome o (λ left. (more : List ℕ) × (left ≡ take room chunk ++ more) × (0 < length more))
    by_before None off = tt
    by_before (Some left) off = (
      drop room chunk ++ off.0,
      off.1 ∙ ap (λ l. l ++ off.0) (sym (take-append-drop room chunk)) ∙ append_assoc (take room chunk) (drop room chunk) off.0,
      let many = fed.0 in omega (arith, many, length-append (drop room chunk) off.0, length-drop room chunk),
    )

-- ---- all of them

-- the content has read these bytes after the first ones of the file
pub record HasCome (head : List ℕ) (limit size : ℕ) (old new : Content) (before after : Option (List ℕ)) : Type 0 where
  pub more : List ℕ
  pub count : length (head ++ more) ≡ size
  pub within : size ≤ limit
  pub read : HasReadOf new (head ++ more)
  pub same : kind_of new ≡ kind_of old
  pub off : ReadsOff before after more

pub come_none : (head : List ℕ) (limit : ℕ) (old : Content) (before : Option (List ℕ)) → HasReadOf old head → length head ≤ limit
    → HasCome head limit (length head) old old before before
come_none head limit old before read few = record {
  more = [];
  count = ap length (append-nil head);
  within = few;
  read = subst (HasReadOf old) (sym (append-nil head)) read;
  same = refl;
  off = ReadsOff-refl before;
}

pub come_begun : (head : List ℕ) (limit size : ℕ) (old new : Content) (before after : Option (List ℕ)) → HasCome head limit size old new before after
    → limit ≤ file_limit → HasBegunWith file_limit (limit - size) new
come_begun head limit size old new before after come small =
    let within = come.within in (head ++ come.more, come.read, omega (arith, come.count, within, small))

pub come_on : (head : List ℕ) (limit size n : ℕ) (old mid new : Content) (before between after : Option (List ℕ))
    → (come : HasCome head limit size old mid before between) → HasReadChunk (kind_of mid) (limit - size) between after (head ++ come.more) new (Ok (Some n))
    → kind_of new ≡ kind_of mid → HasCome head limit (size + n) old new before after
come_on head limit size n old mid new before between after come chunk same =
    let within = come.within in let few = chunk.2 in record {
      more = come.more ++ chunk.0;
      count = ap length (sym (append_assoc head come.more chunk.0)) ∙ length-append (head ++ come.more) chunk.0
          ∙ (λ i. come.count i + chunk.1 i);
      within = omega (arith, within, few);
      read = subst (HasReadOf new) (append_assoc head come.more chunk.0) chunk.4;
      same = same ∙ come.same;
      off = ReadsOff-trans before between after come.more chunk.0 come.off chunk.3;
    }

pub come_stopped : (head : List ℕ) (limit size : ℕ) (old mid new : Content) (before between after : Option (List ℕ)) (s : MembersStop)
    → (come : HasCome head limit size old mid before between)
    → HasReadChunk (kind_of mid) (limit - size) between after (head ++ come.more) new (Err s) → HasReadRest (kind_of old) limit before after head new (Err s)
come_stopped head limit size old mid new None between after s come stopped = tt
come_stopped head limit size old mid new (Some left) between after s come stopped =
    let its = subst (λ (o : Option (List ℕ)). IfSome o
    (λ l. StopsBy (IsVerdictAs (kind_of mid) (length (head ++ come.more) + (limit - size)) ((head ++ come.more) ++ l)) s)) come.off.2 stopped in
    let within = come.within in
    let whole : length (head ++ come.more) + (limit - size) ≡ limit = omega (arith, come.count, within) in
    let bytes : (head ++ come.more) ++ come.off.0 ≡ head ++ left = append_assoc head come.more come.off.0 ∙ ap (λ l. head ++ l) (sym come.off.1) in
    subst (λ (k : Kind). StopsBy (IsVerdictAs k limit (head ++ left)) s) come.same
    (subst (λ l. StopsBy (IsVerdictAs (kind_of mid) limit l) s) bytes
    (subst (λ n. StopsBy (IsVerdictAs (kind_of mid) n ((head ++ come.more) ++ come.off.0)) s) whole its))

pub come_end : (head : List ℕ) (limit size n : ℕ) (old mid new : Content) (before between after : Option (List ℕ))
    → (come : HasCome head limit size old mid before between) → HasReadChunk (kind_of mid) (limit - size) between after (head ++ come.more) new (Ok (Some n))
    → n ≡ 0 → HasReadRest (kind_of old) limit before after head new (Ok (Some size))
come_end head limit size n old mid new before between after come chunk none = (
  come.more,
  come.count,
  come.within,
  subst (λ l. HasReadOf new l) (ap (λ l. (head ++ come.more) ++ l) (nothing chunk.0 (chunk.1 ∙ none)) ∙ append-nil (head ++ come.more)) chunk.4,
  all before come.off,
)
  where
    nothing : (l : List ℕ) → length l ≡ 0 → l ≡ []
    nothing [] is = refl
    nothing (x ∷ l) is = absurd (omega (arith, is))

    all : (o : Option (List ℕ)) → ReadsOff o between come.more → IfSome o (λ left. (left ≡ come.more) × (after ≡ Some []))
    all None off = tt
    all (Some left) off =
        let ended = subst (λ (o : Option (List ℕ)). IfSome o (λ l. l ≡ [])) off.2 (chunk.5 none) in
        let last = subst (λ (o : Option (List ℕ)). ReadsOff o after chunk.0) off.2 chunk.3 in
        let tail : last.0 ≡ [] = sym (ap (λ l. l ++ last.0) (nothing chunk.0 (chunk.1 ∙ none))) ∙ sym last.1 ∙ ended in (
          off.1 ∙ ap (λ l. come.more ++ l) ended ∙ append-nil come.more,
          last.2 ∙ ap (λ l. Some l) tail,
        )

-- the bytes that were read before, and those that were read since
goes_after : (room : ℕ) (before between : Option (List ℕ)) (head more : List ℕ) (new : Content) → ReadsOff before between more
    → GoesOn room between (head ++ more) new → GoesOn (length more + room) before head new
goes_after room before between head more new off on = (
  more ++ on.0,
  length-append more on.0 ∙ ap (λ n. length more + n) on.1,
  subst (HasReadOf new) (append_assoc head more on.0) on.2,
  by_before before off,
)
  where
    by_before : (o : Option (List ℕ)) → ReadsOff o between more
        → IfSome o (λ left. (rest : List ℕ) × (left ≡ (more ++ on.0) ++ rest) × (0 < length rest))
    by_before None off = tt
    by_before (Some left) off =
        let its = subst (λ (o : Option (List ℕ)). IfSome o (λ l. (rest : List ℕ) × (l ≡ on.0 ++ rest) × (0 < length rest))) off.2 on.3 in
        (its.0, off.1 ∙ ap (λ l. more ++ l) its.1 ∙ sym (append_assoc more on.0 its.0), its.2)

-- more bytes than the file may have
pub come_past : (head : List ℕ) (limit size : ℕ) (old mid new : Content) (before between after : Option (List ℕ))
    → (come : HasCome head limit size old mid before between) → HasReadChunk (kind_of mid) (limit - size) between after (head ++ come.more) new (Ok None)
    → HasReadRest (kind_of old) limit before after head new (Ok None)
come_past head limit size old mid new before between after come on =
    let within = come.within in
    let whole : length come.more + (limit - size) ≡ limit - length head = omega (arith, come.count, within, length-append head come.more) in
    subst (λ n. GoesOn n before head new) whole (goes_after (limit - size) before between head come.more new come.off on)

-- ---- the verdict on the file

-- a file begins as an archive if its first bytes do
begins_so : (head left : List ℕ) → ((8 ≤ length head) ⊎ (left ≡ [])) → take 8 (head ++ left) ≡ take 8 head
begins_so head left (inl many) = take-append-le 8 head left many
begins_so head left (inr none) = ap (λ l. take 8 (head ++ l)) none ∙ ap (take 8) (append-nil head)

pub verdict_as : (archive : Bool) (options : ReadOptions) (limit : ℕ) (head left : List ℕ) → ((archive ≡ true) ↔ BeginsArchive head)
    → ((8 ≤ length head) ⊎ (left ≡ [])) → (v : Verdict) → IsVerdictAs (archive, options) limit (head ++ left) v → IsVerdict options limit (head ++ left) v
verdict_as true options limit head left is known v verdict = inl (begins_so head left known ∙ is.0 refl, verdict)
verdict_as false options limit head left is known v verdict =
    inr ((λ begins. let wrong : false ≡ true = is.1 (sym (begins_so head left known) ∙ begins) in absurd (cc)), verdict)

-- ---- whole files

module _ (archive : Bool) (options : ReadOptions) (limit : ℕ) (head : List ℕ) (is : (archive ≡ true) ↔ BeginsArchive head) (kind : Kind)
    (same : kind ≡ (archive, options)) where
  as_kind : (left : List ℕ) → ((8 ≤ length head) ⊎ (left ≡ [])) → (v : Verdict) → IsVerdictAs kind limit (head ++ left) v
      → IsVerdict options limit (head ++ left) v
  as_kind left known v verdict =
      verdict_as archive options limit head left is known v (subst (λ (k : Kind). IsVerdictAs k limit (head ++ left) v) same verdict)

  modules_as : (left : List ℕ) → ((8 ≤ length head) ⊎ (left ≡ [])) → (result : Result Members MembersStop)
      → HasModules (IsVerdictAs kind limit (head ++ left)) result → HasModules (IsVerdict options limit (head ++ left)) result
  modules_as left known result has =
      has_modules (IsVerdictAs kind limit (head ++ left)) (IsVerdict options limit (head ++ left)) (as_kind left known) result has

  -- what the first bytes tell of the rest
  known_of : (left rest : List ℕ) → left ≡ head ++ rest → (length head < 8 → left ≡ head) → (8 ≤ length head) ⊎ (rest ≡ [])
  known_of left rest split short = by_size (le_or_above 8 (length head)) where
    by_size : (8 ≤ length head) ⊎ (length head + 1 ≤ 8) → (8 ≤ length head) ⊎ (rest ≡ [])
    by_size (inl many) = inl many
    by_size (inr few) =
        let same = short (omega (arith, few)) in
        inr (no_rest rest (omega (arith, ap length split, ap length same, length-append head rest)))
      where
        no_rest : (l : List ℕ) → length l ≡ 0 → l ≡ []
        no_rest [] none = refl
        no_rest (x ∷ l) none = absurd (omega (arith, none))

  -- the first bytes are a stop already
  pub after_head : (before mid after : Option (List ℕ)) (s : MembersStop) → ReadsOff before mid head
      → (length head < 8 → IfSome before (λ left. left ≡ head))
      → ((more : List ℕ) → StopsBy (IsVerdictAs kind (length {A = ℕ} [] + limit) ([] ++ (head ++ more))) s) → ReadsMembers options limit before after (Err s)
  after_head None mid after s off short stops = tt
  after_head (Some left) mid after s off short stops = let none_more : 0 + limit ≡ limit = omega arith in (
    subst (λ l. StopsBy (IsVerdict options limit l) s) (sym off.1)
        (stops_by (IsVerdictAs kind limit (head ++ off.0)) (IsVerdict options limit (head ++ off.0))
        (as_kind off.0 (known_of left off.0 off.1 short)) s
        (subst (λ n. StopsBy (IsVerdictAs kind n (head ++ off.0)) s) none_more (stops off.0))),
    tt,
  )

  -- a stop after the first bytes
  pub after_stop : (before mid after : Option (List ℕ)) (new : Content) (s : MembersStop) → ReadsOff before mid head
      → (length head < 8 → IfSome before (λ left. left ≡ head)) → HasReadRest kind limit mid after head new (Err s)
      → ReadsMembers options limit before after (Err s)
  after_stop None mid after new s off short stops = tt
  after_stop (Some left) mid after new s off short stops =
      let its = subst (λ (o : Option (List ℕ)). IfSome o (λ l. StopsBy (IsVerdictAs kind limit (head ++ l)) s)) off.2 stops in (
        subst (λ l. StopsBy (IsVerdict options limit l) s) (sym off.1)
            (stops_by (IsVerdictAs kind limit (head ++ off.0)) (IsVerdict options limit (head ++ off.0))
            (as_kind off.0 (known_of left off.0 off.1 short)) s its),
        tt,
      )

  -- more bytes than the file may have
  past : (before mid after : Option (List ℕ)) (new : Content) (s : MembersStop) → ReadsOff before mid head
      → (length head < 8 → IfSome before (λ left. left ≡ head)) → GoesOn limit before [] new
      → ((stream more : List ℕ) → HasReadOf new stream → 0 < length more → StopsBy (IsVerdictAs kind (length stream) (stream ++ more)) s)
      → ReadsMembers options limit before after (Err s)
  past None mid after new s off short on stops = tt
  past (Some left) mid after new s off short on stops =
      let further = on.3 in
      let all : on.0 ++ further.0 ≡ head ++ off.0 = sym further.1 ∙ off.1 in
      let its = subst (λ l. StopsBy (IsVerdictAs kind limit l) s) all
      (subst (λ n. StopsBy (IsVerdictAs kind n (on.0 ++ further.0)) s) on.1 (stops on.0 further.0 on.2 further.2)) in (
        subst (λ l. StopsBy (IsVerdict options limit l) s) (sym off.1)
            (stops_by (IsVerdictAs kind limit (head ++ off.0)) (IsVerdict options limit (head ++ off.0))
            (as_kind off.0 (known_of left off.0 off.1 short)) s its),
        tt,
      )

  -- the first bytes are too many
  pub head_past : (before mid after : Option (List ℕ)) (new : Content) (s : MembersStop) → ReadsOff before mid head
      → (length head < 8 → IfSome before (λ left. left ≡ head)) → HasFed kind limit [] head new (Ok false)
      → ((stream more : List ℕ) → HasReadOf new stream → 0 < length more → StopsBy (IsVerdictAs kind (length stream) (stream ++ more)) s)
      → ReadsMembers options limit before after (Err s)
  head_past before mid after new s off short fed stops =
      past before mid after new s off short (chunk_past kind limit before mid [] head new off fed) stops

  -- too many bytes follow the first ones
  pub after_past : (before mid after : Option (List ℕ)) (new : Content) (s : MembersStop) → length head ≤ limit → ReadsOff before mid head
      → (length head < 8 → IfSome before (λ left. left ≡ head)) → GoesOn (limit - length head) mid head new
      → ((stream more : List ℕ) → HasReadOf new stream → 0 < length more → StopsBy (IsVerdictAs kind (length stream) (stream ++ more)) s)
      → ReadsMembers options limit before after (Err s)
  after_past before mid after new s few off short on stops =
      let whole : length head + (limit - length head) ≡ limit = omega (arith, few) in
      past before mid after new s off short
      (subst (λ n. GoesOn n before [] new) whole (goes_after (limit - length head) before mid [] head new off on)) stops

  -- the length of the file, and that nothing is left
  whole : (bytes : List ℕ) (after : Option (List ℕ)) (size : ℕ) (result : Result Members MembersStop) → IfOk result (λ r. r.length ≡ size)
      → size ≡ length bytes → after ≡ Some [] → HasReadWhole bytes after result
  whole bytes after size (Ok r) sized all ended = (sized ∙ all, ended)
  whole bytes after size (Err s) sized all ended = tt

  -- all bytes were read, of which these are the last
  pub after_all : (before mid after : Option (List ℕ)) (more : List ℕ) (size : ℕ) (result : Result Members MembersStop) → ReadsOff before mid head
      → (length head < 8 → IfSome before (λ left. left ≡ head)) → IfSome mid (λ left. (left ≡ more) × (after ≡ Some []))
      → HasModules (IsVerdictAs kind limit (head ++ more)) result → size ≡ length (head ++ more) → IfOk result (λ r. r.length ≡ size)
      → ReadsMembers options limit before after result
  after_all None mid after more size result off short rest has all sized = tt
  after_all (Some left) mid after more size result off short rest has all sized =
      let its = subst (λ (o : Option (List ℕ)). IfSome o (λ l. (l ≡ more) × (after ≡ Some []))) off.2 rest in
      let bytes : head ++ more ≡ left = ap (λ l. head ++ l) (sym its.0) ∙ sym off.1 in (
        subst (λ l. HasModules (IsVerdict options limit l) result) bytes
            (modules_as more (known_of left more (sym bytes) short) result has),
        whole left after size result sized (all ∙ ap length bytes) its.1,
      )

  -- the first bytes are all
  pub after_short : (before mid : Option (List ℕ)) (size : ℕ) (result : Result Members MembersStop) → ReadsOff before mid head
      → (length head < 8 → IfSome before (λ left. left ≡ head)) → length head < 8
      → HasModules (IsVerdictAs kind limit ([] ++ head)) result → size ≡ length head → IfOk result (λ r. r.length ≡ size)
      → ReadsMembers options limit before mid result
  after_short None mid size result off short few has all sized = tt
  after_short (Some left) mid size result off short few has all sized =
      let bytes : left ≡ head = short few in
      let nothing : off.0 ≡ [] = by_rest (known_of left off.0 off.1 short) in (
        subst (λ l. HasModules (IsVerdict options limit l) result) (append-nil head ∙ sym bytes)
            (modules_as [] (inr refl) result (subst (λ l. HasModules (IsVerdictAs kind limit l) result) (sym (append-nil head)) has)),
        whole left mid size result sized (all ∙ ap length (sym bytes)) (off.2 ∙ ap (λ l. Some l) nothing),
      )
    where
      by_rest : ((8 ≤ length head) ⊎ (off.0 ≡ [])) → off.0 ≡ []
      by_rest (inl many) = absurd (omega (arith, many, few))
      by_rest (inr none) = none

-- the first bytes of a source, once nothing more is left
pub head_ends : (before mid after : Option (List ℕ)) (head chunk : List ℕ) → ReadsOff before mid head → chunk ≡ [] → ReadsOff mid after chunk
    → IfSome mid (λ left. left ≡ []) → ReadsOff before after head × (length head < 8 → IfSome before (λ left. left ≡ head))
head_ends before mid after head chunk off none further ended = (
  subst (ReadsOff before after) (ap (λ l. head ++ l) none ∙ append-nil head) (ReadsOff-trans before mid after head chunk off further),
  λ few. by_before before off,
)
  where
    by_before : (o : Option (List ℕ)) → ReadsOff o mid head → IfSome o (λ left. left ≡ head)
    by_before None off = tt
    by_before (Some left) off =
        let last = subst (λ (o : Option (List ℕ)). IfSome o (λ l. l ≡ [])) off.2 ended in
        off.1 ∙ ap (λ l. head ++ l) last ∙ append-nil head

-- a failed read, and out of memory
pub says_nothing : (options : ReadOptions) (limit : ℕ) (before after : Option (List ℕ)) (s : MembersStop) → SaysNothing s
    → ReadsMembers options limit before after (Err s)
says_nothing options limit None after s is = tt
says_nothing options limit (Some left) after stop.Fault is = (tt, tt)
says_nothing options limit (Some left) after stop.NoMemory is = (tt, tt)
says_nothing options limit (Some left) after (stop.Refused r) is = absurd is
says_nothing options limit (Some left) after (stop.BadArchive bad) is = absurd is
says_nothing options limit (Some left) after stop.Limit is = absurd is
