-- Modest calls never fail.
use Rattle.std.proofs.Common.{◌≡◌, refl, sym, subst, ◌∙◌, ap, ℕ, ◌+◌, ◌≤◌, min, false, nat_lt, List, [], ◌∷◌, ◌++◌, length, drop, Option, Some, None}
use Rattle.std.proofs.Common.{arith, length-append}
use Rattle.std.specs.List.{sum_by}
use Rattle.std.proofs.lemmas.List.Sums.{sum_by-cons}
use Rattle.std.proofs.lemmas.Bool.{le-ltb}
use Rattle.mufom_host.specs.World.{NamedFile, Faults, optional, with_bytes}
use Rattle.mufom_host.specs.Kept.{name_weight, names_with, is_listed, bytes_after, has_any, passes_file}
use Rattle.mufom_host.specs.Memory.{Memory, fresh, read_called, write_called}
use Rattle.mufom_host.specs.Script.{Call, reads, opens, writes, creates, finishes, prints, complains, after_call, after_calls, opened_by, created_by}
use Rattle.mufom_host.specs.Script.{written_by, printed_by, complained_by, begun_by, AllOpenWhatIsThere, IsModest}
use Rattle.mufom_host.proofs.KeptNames.{names_with-fits, name_weight-push}

-- how many bytes the file being made has
abbrev made_bytes : Option NamedFile → ℕ
made_bytes None = 0
made_bytes (Some file) = length file.1

-- no further file is made, or none was begun before
data Begun : Option NamedFile → List NamedFile → ℕ → Type 0 where
  unbegun : {n : ℕ} → n ≤ 1 → Begun None [] n
  begun : {making : Option NamedFile} {made : List NamedFile} → Begun making made 0

-- what holds for a host before modest calls
record IsReady (m : Memory) (calls : List Call) (opened_names created_names : List (List ℕ)) : Type 0 where
  reads_pass : m.fail_reads ≡ []
  writes_pass : m.fail_writes ≡ []
  there : AllOpenWhatIsThere m.files calls
  opened_known : m.opened ≡ Some opened_names
  created_known : m.created ≡ Some created_names
  opened : name_weight opened_names + sum_by opened_by calls ≤ m.room
  created : name_weight created_names + sum_by created_by calls ≤ m.room
  written : made_bytes m.making + sum_by written_by calls ≤ m.room
  printed : length m.out + sum_by printed_by calls ≤ m.room
  complained : length m.err + sum_by complained_by calls ≤ m.room
  one : Begun m.making m.made (sum_by begun_by calls)
  unmarked : m.faults.input_failed ≡ false

-- after a call the host has counted no further errors and is ready for the calls that follow
record Step (m : Memory) (call : Call) (calls : List Call) : Type 0 where
  next : Memory
  is_next : after_call m call ≡ next
  faults : next.faults ≡ m.faults
  opened_names : List (List ℕ)
  created_names : List (List ℕ)
  ready : IsReady next calls opened_names created_names

less : (f : Call → ℕ) (call : Call) (calls : List Call) (n room : ℕ) → n + sum_by f (call ∷ calls) ≤ room → n + f call + sum_by f calls ≤ room
less f call calls n room h = let e = sum_by-cons f call calls in omega (arith, e, h)

unlisted : (number : ℕ) (failing : List ℕ) → failing ≡ [] → is_listed number failing ≡ false
unlisted number failing none = ap (is_listed number) none

-- the file being made has room for the chunk
within : (making : Option NamedFile) (room count : ℕ) → made_bytes making + count ≤ room → passes_file making room count ≡ false
within None room count h = refl
within (Some file) room count h = le-ltb room (length file.1 + count) h

grown : (making : Option NamedFile) (chunk : List ℕ) → made_bytes (with_bytes making chunk) ≤ made_bytes making + length chunk
grown None chunk = omega arith
grown (Some file) chunk = rw length-append (omega arith)

Begun-write : {making : Option NamedFile} {made : List NamedFile} {n : ℕ} (chunk : List ℕ) → Begun making made n → Begun (with_bytes making chunk) made n
Begun-write chunk (unbegun h) = unbegun h
Begun-write chunk begun = begun

Begun-finish : {making : Option NamedFile} {made : List NamedFile} {n : ℕ} → Begun making made n → Begun None (made ++ optional making) n
Begun-finish (unbegun h) = unbegun h
Begun-finish begun = begun

-- if a call starts to make a file, no call before or after it does
Begun-create : {making : Option NamedFile} {made : List NamedFile} {count : ℕ} → Begun making made count → (n : ℕ) → count ≡ 1 + n
    → (has_any made ≡ false) × (n ≡ 0)
Begun-create (unbegun h) n e = (refl, omega (arith, h, e))
Begun-create begun n e = absurd (omega (arith, e))

-- what a call leaves (same_host refl refl refl refl refl)
record IsSameHost (m next : Memory) : Type 0 where
  files : next.files ≡ m.files
  room : next.room ≡ m.room
  reads : next.fail_reads ≡ m.fail_reads
  writes : next.fail_writes ≡ m.fail_writes
  faults : next.faults ≡ m.faults

-- what a call adds to the names, the file that is made and both outputs is within its room
record AddsLittle (m next : Memory) (call : Call) (o c opened_names created_names : List (List ℕ)) : Type 0 where
  opened : name_weight opened_names ≤ name_weight o + opened_by call
  created : name_weight created_names ≤ name_weight c + created_by call
  written : made_bytes next.making ≤ made_bytes m.making + written_by call
  printed : length next.out ≤ length m.out + printed_by call
  complained : length next.err ≤ length m.err + complained_by call

ready-next : (m next : Memory) (call : Call) (calls : List Call) (o c opened_names created_names : List (List ℕ)) → IsReady m (call ∷ calls) o c
    → IsSameHost m next
    → AddsLittle m next call o c opened_names created_names → next.opened ≡ Some opened_names → next.created ≡ Some created_names
    → Begun next.making next.made (sum_by begun_by calls)
    → IsReady next calls opened_names created_names
ready-next m next call calls o c opened_names created_names r same adds opened_known created_known one = record {
  reads_pass = same.reads ∙ r.reads_pass;
  writes_pass = same.writes ∙ r.writes_pass;
  there = subst (λ (files : List NamedFile). AllOpenWhatIsThere files calls) (sym same.files) r.there.1;
  opened_known = opened_known;
  created_known = created_known;
  opened = omega (arith, same.room, adds.opened, less opened_by call calls (name_weight o) m.room r.opened);
  created = omega (arith, same.room, adds.created, less created_by call calls (name_weight c) m.room r.created);
  written = omega (arith, same.room, adds.written, less written_by call calls (made_bytes m.making) m.room r.written);
  printed = omega (arith, same.room, adds.printed, less printed_by call calls (length m.out) m.room r.printed);
  complained = omega (arith, same.room, adds.complained, less complained_by call calls (length m.err) m.room r.complained);
  one = one;
  unmarked = ap {A = Faults} (λ f. f.input_failed) same.faults ∙ r.unmarked;
}

same_host : {m next : Memory} → next.files ≡ m.files → next.room ≡ m.room → next.fail_reads ≡ m.fail_reads → next.fail_writes ≡ m.fail_writes
    → next.faults ≡ m.faults → IsSameHost m next
same_host files room no_reads no_writes no_faults = record {
  files = files;
  room = room;
  reads = no_reads;
  writes = no_writes;
  faults = no_faults;
}

module _ (m : Memory) (calls : List Call) (o c : List (List ℕ)) where
  read_step : (size : ℕ) → IsReady m (reads size ∷ calls) o c → Step m (reads size) calls
  read_step size r =
      let next = record (read_called m) { left = drop (min size (length m.left)) m.left } in
      let adds : AddsLittle m next (reads size) o c o c = record {
        opened = omega arith;
        created = omega arith;
        written = omega arith;
        printed =
            omega arith;
        complained = omega arith;
      } in
      record {
        next = next;
        is_next = rw (unlisted m.read_number m.fail_reads r.reads_pass) refl;
        faults = refl;
        opened_names = o;
        created_names = c;
        ready = ready-next m next (reads size) calls o c o c r (same_host refl refl refl refl refl) adds r.opened_known r.created_known r.one;
      }

  open_step : (name : List ℕ) → IsReady m (opens name ∷ calls) o c → Step m (opens name) calls
  open_step name r =
      let fits = names_with-fits m.room o name (omega (arith, less opened_by (opens name) calls (name_weight o) m.room r.opened)) in
      let weight = name_weight-push o name in
      let known : names_with m.room m.opened name ≡ Some (o ++ name ∷ []) = rw r.opened_known fits in
      let next = record (read_called m) {
        opened = names_with m.room m.opened name;
        left = bytes_after name m.files m.left;
        faults = record m.faults { input_failed = false };
      } in
      let unmarked : record m.faults { input_failed = false } ≡ m.faults = ap (λ b. record m.faults { input_failed = b }) (sym r.unmarked) in
      let adds : AddsLittle m next (opens name) o c (o ++ name ∷ []) c =
      record { opened = omega (arith, weight); created = omega arith; written = omega arith; printed = omega arith; complained = omega arith } in
      record {
        next = next;
        is_next = rw (unlisted m.read_number m.fail_reads r.reads_pass, known, r.there.0) refl;
        faults = unmarked;
        opened_names = o ++ name ∷ [];
        created_names = c;
        ready = ready-next m next (opens name) calls o c (o ++ name ∷ []) c r
            (same_host refl refl refl refl unmarked) adds known r.created_known r.one;
      }

  write_step : (chunk : List ℕ) → IsReady m (writes chunk ∷ calls) o c → Step m (writes chunk) calls
  write_step chunk r =
      let fits = less written_by (writes chunk) calls (made_bytes m.making) m.room r.written in
      let next = record (write_called m) { making = with_bytes m.making chunk } in
      let adds : AddsLittle m next (writes chunk) o c o c = record {
        opened = omega arith;
        created = omega arith;
        written = grown m.making chunk;
        printed = omega arith;
        complained = omega arith;
      } in
      record {
        next = next;
        is_next = rw (unlisted m.write_number m.fail_writes r.writes_pass, within m.making m.room (length chunk) (omega (arith, fits))) refl;
        faults = refl;
        opened_names = o;
        created_names = c;
        ready = ready-next m next (writes chunk) calls o c o c r
            (same_host refl refl refl refl refl) adds r.opened_known r.created_known (Begun-write chunk r.one);
      }

  finish_step : IsReady m (finishes ∷ calls) o c → Step m finishes calls
  finish_step r =
      let next = record (write_called m) { making = None; made = m.made ++ optional m.making } in
      let adds : AddsLittle m next finishes o c o c = record {
        opened = omega arith;
        created = omega arith;
        written = omega arith;
        printed =
            omega arith;
        complained = omega arith;
      } in
      record {
        next = next;
        is_next = rw (unlisted m.write_number m.fail_writes r.writes_pass) refl;
        faults = refl;
        opened_names = o;
        created_names = c;
        ready = ready-next m next finishes calls o c o c r
            (same_host refl refl refl refl refl) adds r.opened_known r.created_known (Begun-finish r.one);
      }

  print_step : (text : List ℕ) → IsReady m (prints text ∷ calls) o c → Step m (prints text) calls
  print_step text r =
      let fits = less printed_by (prints text) calls (length m.out) m.room r.printed in
      let passes : nat_lt m.room (length m.out + length text) ≡ false = le-ltb _ _ (omega (arith, fits)) in
      let next = record (write_called m) { out = m.out ++ text } in
      let adds : AddsLittle m next (prints text) o c o c = record {
        opened = omega arith;
        created = omega arith;
        written = omega arith;
        printed =
            rw length-append (omega arith);
        complained = omega arith;
      } in
      record {
        next = next;
        is_next = rw (unlisted m.write_number m.fail_writes r.writes_pass, passes) refl;
        faults = refl;
        opened_names = o;
        created_names = c;
        ready = ready-next m next (prints text) calls o c o c r (same_host refl refl refl refl refl) adds r.opened_known r.created_known r.one;
      }

  complain_step : (text : List ℕ) → IsReady m (complains text ∷ calls) o c → Step m (complains text) calls
  complain_step text r =
      let fits = less complained_by (complains text) calls (length m.err) m.room r.complained in
      let passes : nat_lt m.room (length m.err + length text) ≡ false = le-ltb _ _ (omega (arith, fits)) in
      let next = record (write_called m) { err = m.err ++ text } in
      let adds : AddsLittle m next (complains text) o c o c = record {
        opened = omega arith;
        created = omega arith;
        written = omega arith;
        printed =
            omega arith;
        complained = rw length-append (omega arith);
      } in
      record {
        next = next;
        is_next = rw (unlisted m.write_number m.fail_writes r.writes_pass, passes) refl;
        faults = refl;
        opened_names = o;
        created_names = c;
        ready = ready-next m next (complains text) calls o c o c r (same_host refl refl refl refl refl) adds r.opened_known r.created_known r.one;
      }

  create_step : (name : List ℕ) → IsReady m (creates name ∷ calls) o c → Step m (creates name) calls
  create_step name r =
      let fits = names_with-fits m.room c name (omega (arith, less created_by (creates name) calls (name_weight c) m.room r.created)) in
      let weight = name_weight-push c name in
      let known : names_with m.room m.created name ≡ Some (c ++ name ∷ []) = rw r.created_known fits in
      let count : sum_by begun_by (creates name ∷ calls) ≡ 1 + sum_by begun_by calls = sum_by-cons begun_by (creates name) calls in
      let first = Begun-create r.one (sum_by begun_by calls) count in
      let next = record (write_called m) { created = names_with m.room m.created name; making = Some (name, []) } in
      let adds : AddsLittle m next (creates name) o c o (c ++ name ∷ []) =
      record { opened = omega arith; created = omega (arith, weight); written = omega arith; printed = omega arith; complained = omega arith } in
      record {
        next = next;
        is_next = rw (unlisted m.write_number m.fail_writes r.writes_pass, known, first.0) refl;
        faults = refl;
        opened_names = o;
        created_names = c ++ name ∷ [];
        ready = ready-next m next (creates name) calls o c o (c ++ name ∷ []) r
            (same_host refl refl refl refl refl) adds r.opened_known known (rw first.1 begun);
      }

step : (m : Memory) (call : Call) (calls : List Call) (o c : List (List ℕ)) → IsReady m (call ∷ calls) o c → Step m call calls
step m (reads size) calls o c r = read_step m calls o c size r
step m (opens name) calls o c r = open_step m calls o c name r
step m (writes chunk) calls o c r = write_step m calls o c chunk r
step m (creates name) calls o c r = create_step m calls o c name r
step m finishes calls o c r = finish_step m calls o c r
step m (prints text) calls o c r = print_step m calls o c text r
step m (complains text) calls o c r = complain_step m calls o c text r

ready_calls : (calls : List Call) (m : Memory) (o c : List (List ℕ)) → IsReady m calls o c → (after_calls m calls).faults ≡ m.faults
ready_calls [] m o c r = refl
ready_calls (call ∷ calls) m o c r =
    let s = step m call calls o c r in
    ap (λ next. (after_calls next calls).faults) s.is_next ∙ (ready_calls calls s.next s.opened_names s.created_names s.ready ∙ s.faults)

pub modest : (files : List NamedFile) (room : ℕ) (calls : List Call) → IsModest files room calls
    → (after_calls (fresh files [] [] room) calls).faults ≡ record { reads = 0; writes = 0; complaints = 0; input_failed = false }
modest files room calls q = ready_calls calls (fresh files [] [] room) [] [] record {
  reads_pass = refl;
  writes_pass = refl;
  there = q.there;
  opened_known = refl;
  created_known = refl;
  opened = omega (arith, q.opened);
  created = omega (arith, q.created);
  written = omega (arith, q.written);
  printed = omega (arith, q.printed);
  complained = omega (arith, q.complained);
  one = unbegun q.one;
  unmarked = refl;
}
