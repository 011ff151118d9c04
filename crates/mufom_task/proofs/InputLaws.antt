-- Files that are read one after another: what was accepted so far, one file more, and the file that stops the run.
use Rattle.std.proofs.Common.{◌≡◌, ℕ, suc, ◌+◌, ◌*◌, ◌-◌, ◌<◌, ◌≤◌, Bool, true, false, nat_lt, List, [], ◌∷◌, ◌++◌, length, take, drop, get_or}
use Rattle.std.proofs.Common.{sum_by, Option, Some, None, unwrap_or, IfSome, OnSome, refl, sym, ap, subst, ◌∙◌, arith, append_assoc, true≢false}
use Rattle.std.proofs.Common.{ltb-true, ltb-false, lt-ltb}
use Rattle.std.proofs.lemmas.List.{append-nil, drop_more, length-append, length-map, length-take-le, map-append, take-append-drop}
use Rattle.std.proofs.lemmas.List.{take_all, take_more}
use Rattle.std.proofs.lemmas.List.Sums.{sum_by-append}
use Rattle.mufom_records.specs.declared.options.ReadOptions.{ReadOptions}
use Rattle.mufom_host.specs.World.{Faults, Meaning, NamedFile, GrowsBy, KeepsAllButOpened, KeepsAllButReads, file_named}
use Rattle.mufom_host.proofs.Composing.{later-InputFails}
use Rattle.mufom_module.specs.declared.module.Parts.{Parts}
use Rattle.mufom_module.specs.Written.{weight}
use Rattle.mufom_meaning.specs.Staging.{AreValid}
use Rattle.mufom_meaning.specs.StagingLaws.{total_weight}
use Rattle.mufom_outcome.specs.declared.outcome.Input.TheVariants as input
use Rattle.mufom_outcome.specs.declared.outcome.Outcome.{Outcome}
use Rattle.mufom_outcome.specs.declared.outcome.Outcome.TheVariants as outcome
use Rattle.mufom_outcome.specs.declared.outcome.Refusal.TheVariants as refusal
use Rattle.mufom_origins.specs.Words.{ModuleFile}
use Rattle.mufom_members.specs.declared.members.Members.{Members}
use Rattle.mufom_members.specs.Files.{accepted as verdict_accepted}
use Rattle.mufom_members.specs.Names.{AreNames}
use Rattle.mufom_task.specs.Inputs.{AreAccepted, AreModules, ComeTo, HasFileModules, HaveBytes, IsFilePast, IsFileRefused, IsFileVerdict}
use Rattle.mufom_task.specs.Inputs.{StopsAt, accepted}
use Rattle.mufom_task.specs.declared.task.Inputs.{Inputs}
use Rattle.mufom_task.specs.Inputs.{HaveRoots, files_from, files_of_one, members_if, most_input_bytes, room_after, root_count}
use Rattle.mufom_task.specs.FilesRead.{FileHas, FileStops, FilesStop, AreAsMany, HasFile, HaveCounts, IsFileCount, OpensFiles}
use Rattle.mufom_groups.specs.Groups.{most_weight}
use Rattle.mufom_task.specs.Calls.{Call}
use Rattle.mufom_task.proofs.NameLaws.{are-as-many, names-are}

-- the call with these meanings and faults before and after
abbrev pub call_between : Meaning → Meaning → Faults → Faults → Call
call_between old new before now = record { old = old; new = new; before = before; now = now }

-- these modules more have no defect
pub valid-both : (ms own : List Parts) → AreValid ms → AreValid own → AreValid (ms ++ own)
valid-both [] own are is = is
valid-both (first ∷ ms) own are is = (are.0, valid-both ms own are.1 is)

-- ---- tests of numbers

pub lt-same : (a b c d : ℕ) → (a < b → c < d) → (c < d → a < b) → nat_lt a b ≡ nat_lt c d
lt-same a b c d there back = by_tests (nat_lt a b) (nat_lt c d) refl refl where
  by_tests : (p q : Bool) → nat_lt a b ≡ p → nat_lt c d ≡ q → p ≡ q
  by_tests true true one other = refl
  by_tests false false one other = refl
  by_tests true false one other = absurd (let less = lt-ltb c d (there (ltb-true a b one)) in true≢false (sym less ∙ other))
  by_tests false true one other = absurd (let less = lt-ltb a b (back (ltb-true c d other)) in true≢false (sym less ∙ one))

pub lt-next : (k n : ℕ) → nat_lt (suc k) n ≡ nat_lt k (n - 1)
lt-next k n = lt-same (suc k) n k (n - 1) (λ less. omega (arith, less)) (λ less. omega (arith, less))

-- ---- names in their order

module _ (names : List (List ℕ)) (i : ℕ) (name : List ℕ) (inside : i < length names) (is : name ≡ get_or names i name) where
  -- the names up to this one, and those after it
  pub names_split : names ≡ take i names ++ name ∷ drop (i + 1) names
  names_split = sym (take-append-drop i names) ∙ ap (λ rest. take i names ++ rest) (drop_more names i name inside
      ∙ ap (λ (n : List ℕ). n ∷ drop (i + 1) names) (sym is))

  pub names_more : take (i + 1) names ≡ take i names ++ name ∷ []
  names_more = take_more names i name inside ∙ ap (λ (n : List ℕ). take i names ++ n ∷ []) (sym is)

  pub names_before : length (take i names) ≡ i
  names_before = length-take-le i names (omega (arith, inside))

-- ---- lists that grow

pub grows_by_none : {T : Type 0} (o : Option (List T)) → GrowsBy o o []
grows_by_none None = tt
grows_by_none (Some list) = ap (λ l. Some l) (sym (append-nil list))

pub grows_by_both : {T : Type 0} (a b c : Option (List T)) (xs ys : List T) → GrowsBy a b xs → GrowsBy b c ys → GrowsBy a c (xs ++ ys)
grows_by_both None b c xs ys first second = tt
grows_by_both (Some list) b c xs ys first second =
    subst (λ (o : Option (List _)). IfSome o (λ l. c ≡ Some (l ++ ys))) first second ∙ ap (λ l. Some l) (append_assoc list xs ys)

pub grows_then : {T : Type 0} (a b c : Option (List T)) (xs ys : List T) → GrowsBy a b xs → OnSome c (GrowsBy b c ys) → OnSome c (GrowsBy a c (xs ++ ys))
grows_then a b None xs ys first second = tt
grows_then a b (Some list) xs ys first second = grows_by_both a b (Some list) xs ys first second

-- ---- what files have, one file after another

pub have-length : (files : List NamedFile) (names contents : List (List ℕ)) → HaveBytes files names contents → length names ≡ length contents
have-length files names contents have = sym (length-map names (λ name. file_named name files))
    ∙ ap (λ (l : List (Option (List ℕ))). length l) have ∙ length-map contents (λ bytes. Some bytes)

-- the files of the modules of one file among others
abbrev pub file_own : List NamedFile → (roots number : ℕ) → List ℕ → List ModuleFile
file_own files roots number name = files_of_one number name (members_if (nat_lt number roots) (unwrap_or (file_named name files) []))

pub files-more : (files : List NamedFile) (roots number : ℕ) (names : List (List ℕ)) (name : List ℕ)
    → files_from files roots number (names ++ name ∷ []) ≡ files_from files roots number names ++ file_own files roots (number + length names) name
files-more files roots number [] name =
    append-nil (file_own files roots number name)
    ∙ ap (λ (n : ℕ). file_own files roots n name) (let same : number ≡ number + 0 = omega arith in same)
files-more files roots number (first ∷ names) name =
    let next : suc number + length names ≡ number + suc (length names) = omega arith in
    ap (λ (l : List ModuleFile). file_own files roots number first ++ l)
    (files-more files roots (suc number) names name
    ∙ ap (λ (n : ℕ). files_from files roots (suc number) names ++ file_own files roots n name) next)
    ∙ sym (append_assoc (file_own files roots number first) (files_from files roots (suc number) names)
    (file_own files roots (number + suc (length names)) name))

module _ (options : ReadOptions) (roots : ℕ) where
  sum-more : (contents : List (List ℕ)) (bytes : List ℕ) → sum_by length (contents ++ bytes ∷ []) ≡ sum_by length contents + length bytes
  sum-more contents bytes = let sum = sum_by-append length contents (bytes ∷ []) in omega (arith, sum)

  -- nothing was read yet
  pub none_accepted : (files : List NamedFile) → AreAccepted options roots files [] [] []
  none_accepted files = record { bytes = refl; modules = refl; within = omega arith }

pub modules-append : (options : ReadOptions) (roots : ℕ) (contents : List (List ℕ)) (ms : List Parts) (bytes : List ℕ) (own : List Parts)
    → AreModules options roots contents ms → HasFileModules options (nat_lt (length contents) roots) bytes own
    → AreModules options roots (contents ++ bytes ∷ []) (ms ++ own)
modules-append options roots [] ms bytes own them it =
    (own, [], ap (λ (l : List Parts). l ++ own) them ∙ sym (append-nil own), it, refl)
modules-append options roots (first ∷ contents) ms bytes own (mine, later, same, is, rest) it = (
  mine,
  later ++ own,
  ap (λ (l : List Parts). l ++ own) same ∙ append_assoc mine later own,
  is,
  modules-append options (roots - 1) contents later bytes own rest
      (subst (λ (b : Bool). HasFileModules options b bytes own) (lt-next (length contents) roots) it),
)

module _ (options : ReadOptions) (roots : ℕ) where
  -- one file more, within the room that the others left
  pub one_accepted : (files : List NamedFile) (names contents : List (List ℕ)) (ms : List Parts) (name bytes : List ℕ) (own : List Parts)
      → AreAccepted options roots files names contents ms
      → file_named name files ≡ Some bytes → HasFileModules options (nat_lt (length names) roots) bytes own → length bytes ≤ room_after contents
      → AreAccepted options roots files (names ++ name ∷ []) (contents ++ bytes ∷ []) (ms ++ own)
  one_accepted files names contents ms name bytes own them there is fits = record {
    bytes = map-append (λ n. file_named n files) names (name ∷ []) ∙ (λ i. them.bytes i ++ there i ∷ [])
        ∙ sym (map-append (λ b. Some b) contents (bytes ∷ []));
    modules = modules-append options roots contents ms bytes own them.modules
        (subst (λ (n : ℕ). HasFileModules options (nat_lt n roots) bytes own) (have-length files names contents them.bytes) is);
    within = let sum = sum-more options roots contents bytes in let within = them.within in omega (arith, sum, within, fits);
  }

  pub room-more : (contents : List (List ℕ)) (bytes : List ℕ) → room_after (contents ++ bytes ∷ []) ≡ room_after contents - length bytes
  room-more contents bytes = let sum = sum-more options roots contents bytes in omega (arith, sum)

  -- ---- all files so far

  -- these files were accepted, with these modules, the files of these, and this room left
  pub record AreRead (fs : List NamedFile) (names : List (List ℕ)) (ms : List Parts) (module_files : List ModuleFile) (room : ℕ) : Type 0 where
    pub contents : List (List ℕ)
    pub accepted : AreAccepted options roots fs names contents ms
    pub left : room ≡ room_after contents
    pub files : module_files ≡ files_from fs roots 0 names

  -- The first files, as many as are given, were accepted, and they alone were opened.
  pub record HaveRead (names : List (List ℕ)) (done : ℕ) (ms : List Parts) (module_files : List ModuleFile) (room : ℕ) (old now : Meaning)
      (before after : Faults) : Type 0 where
    pub files : IfSome old.files (λ fs. AreRead fs (take done names) ms module_files room)
    pub fits : room ≤ most_input_bytes
    pub opened : GrowsBy old.opened now.opened (take done names)
    pub stays : KeepsAllButOpened old now
    pub counts : KeepsAllButReads before after
    pub later : before.reads ≤ after.reads
    pub count : HaveCounts roots done (length ms)
    pub valid : AreValid ms
    pub light : total_weight ms + 10 * room ≤ most_weight
    pub within : done ≤ length names

  accepted_first : (files : Option (List NamedFile)) (names : List (List ℕ)) → IfSome files (λ fs. AreRead fs (take 0 names) [] [] most_input_bytes)
  accepted_first None names = tt
  accepted_first (Some fs) names = record { contents = []; accepted = none_accepted options roots fs; left = refl; files = refl }

  pub have_read_none : (names : List (List ℕ)) (old : Meaning) (before : Faults) → HaveRead names 0 [] [] most_input_bytes old old before before
  have_read_none names old before = record {
    files = accepted_first old.files names;
    fits = omega arith;
    opened = grows_by_none old.opened;
    stays = refl;
    counts = refl;
    later = omega arith;
    count = record { few = λ within. refl; many = λ within. within };
    valid = tt;
    light = omega arith;
    within = omega arith;
  }

  -- these are the files of the modules that were read of a file with this number and name
  abbrev pub AreFilesOf : ℕ → List ℕ → Members → List ModuleFile → Type 0
  AreFilesOf number name read own = (names : Option (List (List ℕ))) → AreNames read.listing names → AreAsMany names read.modules
      → own ≡ files_of_one number name names

  own-files : (fs : List NamedFile) (name bytes : List ℕ) (number : ℕ) (read : Members) (own : List ModuleFile) (names : Option (List (List ℕ)))
      → AreFilesOf number name read own → file_named name fs ≡ Some bytes → AreNames read.listing names
      → IsFileVerdict options (nat_lt number roots) (length bytes) bytes (verdict_accepted names read.modules) → own ≡ file_own fs roots number name
  own-files fs name bytes number read own names are there named is =
      are names named (are-as-many options (nat_lt number roots) (length bytes) bytes names read.modules is)
      ∙ ap (λ (o : Option (List (List ℕ))). files_of_one number name o)
      (names-are options (nat_lt number roots) (length bytes) bytes names read.modules is)
      ∙ ap (λ (o : Option (List ℕ)). files_of_one number name (members_if (nat_lt number roots) (unwrap_or o []))) (sym there)

  accepted_next : (files : Option (List NamedFile)) (prefix more : List (List ℕ)) (name : List ℕ) (number : ℕ) (ms : List Parts)
      (module_files own : List ModuleFile) (room : ℕ) (read : Members)
      → more ≡ prefix ++ name ∷ [] → length prefix ≡ number → AreFilesOf number name read own
      → IfSome files (λ fs. AreRead fs prefix ms module_files room)
      → FileHas name files (HasFile options (nat_lt number roots) room read)
      → IfSome files (λ fs. AreRead fs more (ms ++ read.modules) (module_files ++ own) (room - read.length))
  accepted_next None prefix more name number ms module_files own room read is place are so_far next = tt
  accepted_next (Some fs) prefix more name number ms module_files own room read is place are so_far (bytes, there, (names, has, named, size, fits)) =
      let contents = so_far.contents in record {
        contents = contents ++ bytes ∷ [];
        accepted = subst (λ (names : List (List ℕ)). AreAccepted options roots fs names (contents ++ bytes ∷ []) (ms ++ read.modules)) (sym is)
            (one_accepted fs prefix contents ms name bytes read.modules so_far.accepted there
            (subst (λ (n : ℕ). HasFileModules options (nat_lt n roots) bytes read.modules) (sym place) (names, has))
            (subst (λ (n : ℕ). length bytes ≤ n) so_far.left fits));
        left = (let left = so_far.left in (λ i. left i - size i)) ∙ sym (room-more contents bytes);
        files = (let before = so_far.files in let its = own-files fs name bytes number read own names are there named has in (λ i. before i ++ its i))
            ∙ ap (λ (n : ℕ). files_from fs roots 0 prefix ++ file_own fs roots n name) (let same : number ≡ 0 + length prefix = omega (arith, place) in same)
            ∙ sym (files-more fs roots 0 prefix name) ∙ ap (λ (l : List (List ℕ)). files_from fs roots 0 l) (sym is);
      }

  many-more : (done count own : ℕ) → HaveCounts roots done count → (nat_lt done roots ≡ true → own ≡ 1) → roots ≤ done + 1 → (b : Bool)
      → nat_lt done roots ≡ b → roots ≤ count + own
  many-more done count own so_far one within true is =
      let less = ltb-true done roots is in
      let few = so_far.few (omega (arith, less)) in
      let single = one is in omega (arith, few, single, within)
  many-more done count own so_far one within false is = let many = so_far.many (ltb-false done roots is) in omega (arith, many)

  few-more : (done count own : ℕ) → HaveCounts roots done count → (nat_lt done roots ≡ true → own ≡ 1) → done + 1 ≤ roots → count + own ≡ done + 1
  few-more done count own so_far one within =
      let few = so_far.few (omega (arith, within)) in
      let single = one (lt-ltb done roots (omega (arith, within))) in omega (arith, few, single)

  counts-more : (done count own : ℕ) → HaveCounts roots done count → (nat_lt done roots ≡ true → own ≡ 1) → HaveCounts roots (done + 1) (count + own)
  counts-more done count own so_far one = record {
    few = few-more done count own so_far one;
    many = λ within. many-more done count own so_far one within (nat_lt done roots) refl;
  }

  module _ (names : List (List ℕ)) (number : ℕ) (name : List ℕ) (ms : List Parts) (module_files : List ModuleFile) (room : ℕ) (old mid new : Meaning)
      (before between now : Faults)
      (so_far : HaveRead names number ms module_files room old mid before between)
      (next : take (number + 1) names ≡ take number names ++ name ∷ []) (place : length (take number names) ≡ number)
      (stays : KeepsAllButOpened mid new) (counts : KeepsAllButReads between now)
      (later : between.reads ≤ now.reads) where
    files_same : mid.files ≡ old.files
    files_same = ap (λ (m : Meaning). m.files) so_far.stays

    abbrev is_root : Bool
    is_root = nat_lt number roots

    pub have_read_more : (read : Members) (own : List ModuleFile) → AreFilesOf number name read own → AreValid read.modules
        → (total_weight read.modules ≤ 10 * read.length) × (read.length ≤ room)
        → (is_root ≡ true → length read.modules ≡ 1)
        → FileHas name mid.files (HasFile options is_root room read) → GrowsBy mid.opened new.opened (name ∷ [])
        → number < length names → HaveRead names (number + 1) (ms ++ read.modules) (module_files ++ own) (room - read.length) old new before now
    have_read_more read own are valid weighs one has opened inside = record {
      files = accepted_next old.files (take number names) (take (number + 1) names) name number ms module_files own room read next place are
          so_far.files (subst (λ (o : Option (List NamedFile)). FileHas name o (HasFile options is_root room read)) files_same has);
      fits = let fits = so_far.fits in omega (arith, fits);
      opened = subst (λ (l : List (List ℕ)). GrowsBy old.opened new.opened l) (sym next)
          (grows_by_both old.opened mid.opened new.opened (take number names) (name ∷ []) so_far.opened opened);
      stays = stays ∙ ap (λ (m : Meaning). record m { left = new.left; opened = new.opened }) so_far.stays;
      counts = counts ∙ ap (λ (f : Faults). record f { reads = now.reads; input_failed = now.input_failed }) so_far.counts;
      later = let first = so_far.later in omega (arith, first, later);
      count = subst (λ (n : ℕ). HaveCounts roots (number + 1) n) (sym (length-append ms read.modules))
          (counts-more number (length ms) (length read.modules) so_far.count one);
      valid = valid-both ms read.modules so_far.valid valid;
      light = let sum = sum_by-append weight ms read.modules in let light = so_far.light in let own = weighs.0 in let within = weighs.1 in
          omega (arith, sum, light, own, within);
      within = omega (arith, inside);
    }

    at_file : (P : ℕ → List ℕ → Type 0) (i : ℕ) (files : Option (List NamedFile)) → names ≡ take number names ++ name ∷ drop (number + 1) names
        → i ≡ number → IfSome files (λ fs. AreRead fs (take number names) ms module_files room)
        → FileHas name files (P room) → IfSome files (λ fs. StopsAt options roots fs names i P)
    at_file P i None split is accepted_so holds = tt
    at_file P i (Some fs) split is them (bytes, there, holds) = record {
      before = take number names;
      name = name;
      after = drop (number + 1) names;
      split = split;
      place = place ∙ sym is;
      contents = them.contents;
      modules = ms;
      accepted = them.accepted;
      bytes = bytes;
      there = there;
      stops = subst (λ n. P n bytes) them.left holds;
    }

    accepted_before : (i : ℕ) (files : Option (List NamedFile)) → i ≡ number
        → IfSome files (λ fs. AreRead fs (take number names) ms module_files room)
        → IfSome files (λ fs. (ms : List Parts) × ComeTo options roots fs (take i names) (accepted ms))
    accepted_before i None is them = tt
    accepted_before i (Some fs) is them =
        (ms, (them.contents, subst (λ n. AreAccepted options roots fs (take n names) them.contents ms) (sym is) them.accepted))

    -- why this file was not read is why not all were
    pub files_stop : (stop : Outcome) → names ≡ take number names ++ name ∷ drop (number + 1) names
        → FileStops options is_root name number room mid.files between now stop
        → FilesStop options roots names (call_between old new before now) stop
    files_stop outcome.Done split why = absurd why
    files_stop (outcome.Refused (refusal.Bin count)) split why = absurd why
    files_stop (outcome.Refused (refusal.Keep kept)) split why = absurd why
    files_stop (outcome.Refused (refusal.SharedName shared)) split why = absurd why
    files_stop (outcome.Refused (refusal.Text r)) split why = absurd why
    files_stop (outcome.Refused (refusal.Build r)) split why = absurd why
    files_stop (outcome.Refused (refusal.Read i r)) split why =
        at_file (λ limit bytes. IsFileRefused options (nat_lt i roots) limit bytes r) i old.files split why.0 so_far.files
        (subst (λ (n : ℕ). FileHas name old.files (λ bytes. IsFileRefused options (nat_lt n roots) room bytes r)) (sym why.0)
        (subst (λ (o : Option (List NamedFile)). FileHas name o (λ bytes. IsFileRefused options is_root room bytes r)) files_same why.1))
    files_stop (outcome.Refused (refusal.InputLimit i)) split why =
        at_file (λ limit bytes. IsFilePast options (nat_lt i roots) limit bytes) i old.files split why.0 so_far.files
        (subst (λ (n : ℕ). FileHas name old.files (λ bytes. IsFilePast options (nat_lt n roots) room bytes)) (sym why.0)
        (subst (λ (o : Option (List NamedFile)). FileHas name o (λ bytes. IsFilePast options is_root room bytes)) files_same why.1))
    files_stop (outcome.Refused (refusal.TooManyModules count)) split why = absurd why
    files_stop (outcome.Refused (refusal.TooManyFiles count)) split why = absurd why
    files_stop (outcome.Refused (refusal.TooDeep depth)) split why = absurd why
    files_stop (outcome.Refused (refusal.Plan r)) split why = absurd why
    files_stop (outcome.Refused (refusal.Link l)) split why = absurd why
    files_stop (outcome.Refused (refusal.Locate l maus)) split why = absurd why
    files_stop (outcome.Usage f) split why = absurd why
    files_stop (outcome.ReadFault input.Plan) split why = absurd why
    files_stop (outcome.ReadFault (input.File i)) split why =
        (later-InputFails before between now so_far.later why.1, accepted_before i old.files why.0 so_far.files)
    files_stop outcome.WriteFault split why = absurd why
    files_stop outcome.NoMemory split why = tt

    opened_now : OnSome new.opened (GrowsBy mid.opened new.opened (name ∷ [])) → OnSome new.opened (GrowsBy old.opened new.opened (take (number + 1) names))
    opened_now opened = subst (λ (l : List (List ℕ)). OnSome new.opened (GrowsBy old.opened new.opened l)) (sym next)
        (grows_then old.opened mid.opened new.opened (take number names) (name ∷ []) so_far.opened opened)

    opened_count : (stop : Outcome) → FileStops options is_root name number room mid.files between now stop → IsFileCount names stop (number + 1)
    opened_count outcome.Done why = absurd why
    opened_count (outcome.Refused (refusal.Bin count)) why = absurd why
    opened_count (outcome.Refused (refusal.Keep kept)) why = absurd why
    opened_count (outcome.Refused (refusal.SharedName shared)) why = absurd why
    opened_count (outcome.Refused (refusal.Text r)) why = absurd why
    opened_count (outcome.Refused (refusal.Build r)) why = absurd why
    opened_count (outcome.Refused (refusal.Read i r)) why = let is = why.0 in omega (arith, is)
    opened_count (outcome.Refused (refusal.InputLimit i)) why = let is = why.0 in omega (arith, is)
    opened_count (outcome.Refused (refusal.TooManyModules count)) why = absurd why
    opened_count (outcome.Refused (refusal.TooManyFiles count)) why = absurd why
    opened_count (outcome.Refused (refusal.TooDeep depth)) why = absurd why
    opened_count (outcome.Refused (refusal.Plan r)) why = absurd why
    opened_count (outcome.Refused (refusal.Link l)) why = absurd why
    opened_count (outcome.Refused (refusal.Locate l maus)) why = absurd why
    opened_count (outcome.Usage f) why = absurd why
    opened_count (outcome.ReadFault input.Plan) why = absurd why
    opened_count (outcome.ReadFault (input.File i)) why = let is = why.0 in omega (arith, is)
    opened_count outcome.WriteFault why = absurd why
    opened_count outcome.NoMemory why = tt

    -- and none after it was opened
    pub stop_opens : (stop : Outcome) → number < length names → FileStops options is_root name number room mid.files between now stop
        → OnSome new.opened (GrowsBy mid.opened new.opened (name ∷ [])) → OpensFiles names (call_between old new before now) stop
    stop_opens stop inside why opened = record {
      count = number + 1;
      exact = opened_count stop why;
      within = omega (arith, inside);
      opened = opened_now opened;
    }

  -- ---- all files

  pub accepted_all : (files : Option (List NamedFile)) (names : List (List ℕ)) (done : ℕ) (ms : List Parts) (module_files : List ModuleFile) (room : ℕ)
      → take done names ≡ names → IfSome files (λ fs. AreRead fs (take done names) ms module_files room)
      → IfSome files (λ fs. ComeTo options roots fs names (accepted ms))
  accepted_all None names done ms module_files room is them = tt
  accepted_all (Some fs) names done ms module_files room is them =
      (them.contents, subst (λ (l : List (List ℕ)). AreAccepted options roots fs l them.contents ms) is them.accepted)

  pub files_all : (files : Option (List NamedFile)) (names : List (List ℕ)) (done : ℕ) (ms : List Parts) (module_files : List ModuleFile) (room : ℕ)
      → take done names ≡ names → IfSome files (λ fs. AreRead fs (take done names) ms module_files room)
      → IfSome files (λ fs. module_files ≡ files_from fs roots 0 names)
  files_all None names done ms module_files room is them = tt
  files_all (Some fs) names done ms module_files room is them = them.files ∙ ap (λ (l : List (List ℕ)). files_from fs roots 0 l) is

  -- all files were read
  pub record AllRead (names : List (List ℕ)) (ms : List Parts) (module_files : List ModuleFile) (old now : Meaning) : Type 0 where
    pub come : IfSome old.files (λ fs. ComeTo options roots fs names (accepted ms))
    pub files : IfSome old.files (λ fs. module_files ≡ files_from fs roots 0 names)
    pub opened : GrowsBy old.opened now.opened names
    pub count : HaveCounts roots (length names) (length ms)
    pub light : total_weight ms ≤ most_weight

  pub all_read : (names : List (List ℕ)) (done : ℕ) (ms : List Parts) (module_files : List ModuleFile) (room : ℕ) (old now : Meaning)
      (before after : Faults)
      → HaveRead names done ms module_files room old now before after → length names ≤ done → AllRead names ms module_files old now
  all_read names done ms module_files room old now before after them enough =
      let is = take_all done names enough in
      let light = them.light in
      let within = them.within in
      let same : done ≡ length names = omega (arith, enough, within) in record {
        come = accepted_all old.files names done ms module_files room is them.files;
        files = files_all old.files names done ms module_files room is them.files;
        opened = subst (λ (l : List (List ℕ)). GrowsBy old.opened now.opened l) is them.opened;
        count = subst (λ (n : ℕ). HaveCounts roots n (length ms)) same them.count;
        light = omega (arith, light);
      }

-- ---- the files of a task

known : (P : Type 0) (o : Option (List (List ℕ))) → P → OnSome o P
known P None holds = tt
known P (Some list) holds = holds

pub roots-of-counts : (inputs : Inputs) (ms : List Parts) → root_count inputs ≤ length inputs.files
    → HaveCounts (root_count inputs) (length inputs.files) (length ms) → HaveRoots inputs ms
roots-of-counts inputs ms within counts = record {
  within = counts.many within;
  all = λ same. counts.few (let least = same in omega (arith, least));
}

pub too-many-stop : (options : ReadOptions) (roots : ℕ) (files : Option (List NamedFile)) (names : List (List ℕ)) (ms : List Parts) (n : ℕ) → n ≡ length ms
    → IfSome files (λ fs. ComeTo options roots fs names (accepted ms))
    → IfSome files (λ fs. (all : List Parts) × ComeTo options roots fs names (accepted all) × (n ≡ length all))
too-many-stop options roots None names ms n is come = tt
too-many-stop options roots (Some fs) names ms n is come = (ms, come, is)

pub all-opens : (names : List (List ℕ)) (old new : Meaning) (before now : Faults) (n : ℕ) → GrowsBy old.opened new.opened names
    → OpensFiles names (call_between old new before now) (outcome.Refused (refusal.TooManyModules n))
all-opens names old new before now n opened = record {
  count = length names;
  exact = refl;
  within = omega arith;
  opened = known (GrowsBy old.opened new.opened (take (length names) names)) new.opened
      (subst (λ (l : List (List ℕ)). GrowsBy old.opened new.opened l) (sym (take_all (length names) names (omega arith))) opened);
}
