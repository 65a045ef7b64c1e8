-- What a machine in memory shows behind what it does.
use Rattle.std.proofs.Common.{◌≡◌, ℕ, zero, suc, ◌+◌, ◌<◌, ◌≤◌, Bool, get_or, slice_set, unwrap_or, true, false, cond, ◌&&◌, ◌||◌, List, [], ◌∷◌, ◌++◌, map, length, Option, Some, None, option_map, is_some, refl, ap, sym, subst, ◌∙◌, arith, true≢false, eqb-true}
use Rattle.std.specs.Prelude.{◌==◌, not, nat_lt, slice_get}
use Rattle.std.specs.List.{filter}
use Rattle.std.proofs.lemmas.Bool.{lt-ltb, le-ltb, lt-leb, eq-eqb}
use Rattle.std.proofs.lemmas.List.Elements.{filter-append}
use Rattle.std.proofs.lemmas.List.{append-nil}
use Rattle.lsn_core.specs.declared.lsn.Place.{Place}
use Rattle.lsn_core.specs.Store.{Store}
use Rattle.lsn_core.specs.Tip.{Tip, tip_with}
use Rattle.wal_record.specs.declared.record.Record.{Record}
use Rattle.wal_record.specs.declared.record.Kind.{Kind}
use Rattle.wal_record.specs.Tips.{wal_limit, record_at_tip, tip_after, is_redo_mark, first_tip}
use Rattle.history.specs.Entry.{Act, Create, Truncate, Change, Drop, Mark, Marking, Shutdown, Online, RedoMark, NoOp, BackupEnd, IdleCut, IdleCommit, Entry, is_of_run}
use Rattle.history.specs.Whole.{entry_of}
use Rattle.history.specs.Laws.{AreWrittenInPlace}
use Rattle.history.specs.Written.{Before, behind, behind_all, at_first, kind_of, mark_kind, record_of, next_record, is_redo, tip_past, tip_over, written, wal_of}
use Rattle.history.proofs.Histories.{written_on}
use Rattle.history.proofs.Stores.{by_test}
use Rattle.lsn_core.specs.declared.lsn.Lsn.{Lsn}
use Rattle.lsn_core.specs.declared.ids.BlockId.{BlockId}
use Rattle.lsn_core.specs.Blocks.{block_of}
use Rattle.history.specs.Whole.{is_named}
use Rattle.history.specs.Apply.{page_at}
use Rattle.history.specs.partitions.Parts.{partition_of}
use Rattle.core_machine.specs.declared.pool.Pool.{Pool}
use Rattle.store_core.specs.declared.step.Asked.{Asked}
use Rattle.store_core.specs.declared.step.Step.TheVariants as step
use Rattle.core_machine.specs.declared.machine.Machine.{Machine}
use Rattle.core_machine.specs.declared.over.FinishedBackup.{FinishedBackup}
use Rattle.store_core.specs.declared.reply.Reply.{Reply}
use Rattle.store_core.specs.declared.reply.Reply.TheVariants as reply
use Rattle.history.specs.fuzzy_copies.Logged.{found_before, StartInPlace}
use Rattle.history.specs.fuzzy_copies.Summary.{summary_of}
use Rattle.wal_summary.specs.declared.summary.Summary.{Summary}
use Rattle.wal_summary.specs.declared.summary.ForkSummary.{ForkSummary}
use Rattle.wal_summary.specs.Summary.{IsSummary, table_of_forks}
use Rattle.wal_summary.proofs.Ranges.{logs_sum_up}
use Rattle.store_core.specs.Increments.{next_redo}
use Rattle.store_core.specs.State.{Part, Published, Backup, Worker, Finished, State, idle_worker, first_record, records_of, end_of_wal, with_entry, with_part, with_worker}
use Rattle.store_core.specs.Parts.{cleaned}
use Rattle.store_core.specs.Refusals.{is_past_room}
use Rattle.store_core.specs.Steps.{entry_at, is_worker, command_count, mark_record, with_mark, idle, where_room, where_part, begun, may_begin, is_behind, started, completed, summaries_end, next_summary, published, sends, is_summed, finished_of, is_listed, is_within, lengths_of, with_listing, with_copied, disk_block, listed, copied, is_complete, ended, step_of}
use Rattle.core_machine.specs.Inside.{part_in, worker_at, commands_at, IsCrewWith, HasAppended}
use Rattle.store_core.specs.InMemory.{published_in, next_redo_in}
use Rattle.core_machine.specs.Shown.{finished_in, Shows, IsReached, HasStepped, HasPlaced, HasMarked}
use Rattle.store_core.proofs.Publishing.{to_pushed}
use Rattle.store_core.proofs.Runs.{IsRun, first, next_is, tip_push}
use Rattle.store_core.proofs.Keeps.{IsMachine, steps_keep, machine_first}
use Rattle.std.proofs.lemmas.Option.{slice_get-get_or}
use Rattle.std.specs.Global.{Vec}
use Rattle.lsn_core.specs.declared.ids.ForkLen.{ForkLen}
use Rattle.core_machine.specs.declared.crew.Crew.{Crew}
use Rattle.core_machine.proofs.Crews.{got_set}
use Rattle.pg_page.specs.Header.{zero_page}
use Rattle.history.proofs.fuzzy_copies.Pages.{page_by_block}

pub reached_machine : (s : State) → IsReached s → IsMachine s
reached_machine s r = subst IsMachine (sym r.is) (steps_keep _ r.steps r.may.pages (machine_first r.mib r.relseg r.may.segment))

-- ---- an entry more

redo_same : (store : Store) (redo : ℕ) (act : Act) → is_redo act ≡ is_redo_mark (kind_of store redo act)
redo_same store redo (Create fork) = refl
redo_same store redo (Truncate rel count) = refl
redo_same store redo (Change items) = refl
redo_same store redo (Drop rels) = refl
redo_same store redo (Mark (Shutdown at)) = refl
redo_same store redo (Mark (Online at)) = refl
redo_same store redo (Mark (RedoMark n)) = refl
redo_same store redo (Mark NoOp) = refl
redo_same store redo (Mark (BackupEnd at)) = refl
redo_same store redo (Mark (IdleCut rel count others)) = refl
redo_same store redo (Mark (IdleCommit time)) = refl

tips_move : (tip : Tip) (act : Act) (worker : ℕ) (seq : Option ℕ) (r : Record) → is_redo act ≡ is_redo_mark r.kind → tip_past tip (entry_at r act worker seq) ≡ tip_after tip r
tips_move tip act worker seq r same = ap (λ (b : Bool). tip_with r.end.0 r.start.0 (cond ((tip.count == 0) || b) r.start.0 tip.redo) (tip.count + 1)) same

one_written : (mib : ℕ) (before : Before) (e : Entry) → is_of_run e ≡ true → written mib before (e ∷ []) ≡ next_record mib before e.act ∷ []
one_written mib before e is = rw is refl

pub records_push : (s : State) (act : Act) (r : Record) (worker : ℕ) (seq : Option ℕ) → (run : IsRun s.mib s.history) → r ≡ record_of s.mib run.store (end_of_wal s) act → records_of (with_entry s (entry_at r act worker seq)) ≡ records_of s ++ (r ∷ [])
records_push s act r worker seq run is =
    let e = entry_at r act worker seq in
    ap (λ (rs : List Record). first_record s.mib ∷ rs)
    (written_on s.mib (at_first s.mib) s.history (e ∷ []) ∙ ap (λ (rs : List Record). wal_of s.mib s.history ++ rs) (one_written s.mib (behind_all (at_first s.mib) s.history) e refl)
    ∙ ap (λ (x : Record). wal_of s.mib s.history ++ (x ∷ [])) (next_is s.mib s.history run.store act r run.made is))

pub tip_on : (s : State) (act : Act) (r : Record) (worker : ℕ) (seq : Option ℕ) → (run : IsRun s.mib s.history) → r ≡ record_of s.mib run.store (end_of_wal s) act → end_of_wal (with_entry s (entry_at r act worker seq)) ≡ tip_after (end_of_wal s) r
tip_on s act r worker seq run is =
    tip_push s.mib s.history (entry_at r act worker seq) ∙ tips_move (end_of_wal s) act worker seq r (redo_same run.store (end_of_wal s).redo act ∙ ap (λ (x : Record). is_redo_mark x.kind) (sym is))

length_pushed : {X : Type 0} (xs : List X) (y : X) → length (xs ++ (y ∷ [])) ≡ length xs + 1
length_pushed [] y = refl
length_pushed (x ∷ xs) y = ap suc (length_pushed xs y) ∙ (omega arith)

and_none : (b : Bool) → (b && false) ≡ false
and_none true = refl
and_none false = refl

pub commands_mark : (history : List Entry) (r : Record) (act : Act) (worker w : ℕ) → command_count w (history ++ (entry_at r act worker None ∷ [])) ≡ command_count w history
commands_mark history r act worker w =
    let e = entry_at r act worker None in
    let t = λ (x : Entry). is_worker w x.worker && is_some x.seq in
    ap (λ (xs : List Entry). length xs) (filter-append t history (e ∷ []) ∙ ap (λ c. filter t history ++ cond c (e ∷ []) []) (and_none (worker == w)) ∙ append-nil (filter t history))

turned : (a b : ℕ) (t : Bool) → (a == b) ≡ t → (b == a) ≡ t
turned a b true e = eq-eqb b a (sym (eqb-true a b e))
turned a b false e = by_test (b == a) (λ k. absurd (true≢false (sym (eq-eqb a b (sym (eqb-true b a k))) ∙ e))) (λ k. k)

and_last : (b : Bool) → (b && true) ≡ b
and_last true = refl
and_last false = refl

pub commands_more : (history : List Entry) (r : Record) (act : Act) (worker n w : ℕ) → command_count w (history ++ (entry_at r act worker (Some n) ∷ [])) ≡ cond (w == worker) (command_count w history + 1) (command_count w history)
commands_more history r act worker n w =
    let e = entry_at r act worker (Some n) in
    let t = λ (x : Entry). is_worker w x.worker && is_some x.seq in
    ap (λ (xs : List Entry). length xs) (filter-append t history (e ∷ []))
    ∙ by_test (w == worker)
    (λ here.
    ap (λ c. length (filter t history ++ cond c (e ∷ []) [])) (and_last (worker == w) ∙ turned w worker true here) ∙ length_pushed (filter t history) e
    ∙ sym (ap (λ c. cond c (length (filter t history) + 1) (length (filter t history))) here))
    (λ away.
    ap (λ c. length (filter t history ++ cond c (e ∷ []) [])) (and_last (worker == w) ∙ turned w worker false away) ∙ ap (λ (xs : List Entry). length xs) (append-nil (filter t history))
    ∙ sym (ap (λ c. cond c (length (filter t history) + 1) (length (filter t history))) away))

pub count_over : (tip : Tip) (es : List Entry) → (tip_over tip es).count ≡ tip.count + length es
count_over tip [] = omega arith
count_over tip (e ∷ es) = count_over (tip_past tip e) es ∙ (omega arith)

pub entries_are : (m : Machine) (s : State) (n : ℕ) → Shows m s → n ≡ m.tip.count → n ≡ length s.history
entries_are m s n shown is = is ∙ ap (λ (t : Tip). t.count) shown.tip ∙ count_over (first_tip s.mib) s.history ∙ (omega arith)

-- ---- a mark

record_same : (m : Machine) (s : State) (marking : Marking) (kind : Kind) → Shows m s → kind ≡ mark_kind marking → record_at_tip m.settings.segment m.tip kind ≡ mark_record s marking
record_same m s marking kind shown is =
    ap (λ (n : ℕ). record_at_tip n m.tip kind) shown.mib ∙ ap (λ (t : Tip). record_at_tip s.mib t kind) shown.tip ∙ ap (record_at_tip s.mib (end_of_wal s)) is

pub mark_full : (m new : Machine) (s : State) (worker : ℕ) (marking : Marking) (kind : Kind) → Shows m s → kind ≡ mark_kind marking → wal_limit m.settings.segment < (record_at_tip m.settings.segment m.tip kind).end.0 → new ≡ m → HasMarked new s worker marking None
mark_full m new s worker marking kind shown is past same =
    let r = record_same m s marking kind shown is in (
      lt-ltb (wal_limit s.mib) (mark_record s marking).end.0 (subst (λ (n : ℕ). wal_limit n < (mark_record s marking).end.0) shown.mib (subst (λ (x : Record). wal_limit m.settings.segment < x.end.0) r past)),
      subst (λ (x : Machine). Shows x s) (sym same) shown,
    )

pub mark_placed : (m new : Machine) (s : State) (worker : ℕ) (marking : Marking) (kind : Kind) (place : Place) → IsReached s → Shows m s → kind ≡ mark_kind marking → HasAppended m new kind place → HasPlaced new s worker marking place
mark_placed m new s worker marking kind place reached shown is a =
    let run = (reached_machine s reached).run in
    let same = record_same m s marking kind shown is in
    let r = mark_record s marking in
    record {
      room = le-ltb (wal_limit s.mib) r.end.0 (subst (λ (n : ℕ). r.end.0 ≤ wal_limit n) shown.mib (subst (λ (x : Record). x.end.0 ≤ wal_limit m.settings.segment) same a.room));
      start = a.start ∙ ap (λ (x : Record). x.start) same;
      end = a.end ∙ ap (λ (x : Record). x.end) same;
      shown = record {
        mib = ap (λ (x : _). x.segment) a.settings ∙ shown.mib;
        relseg = ap (λ (x : _). x.relseg) a.settings ∙ shown.relseg;
        published = ap (λ (x : _). map published_in x.items) a.summaries ∙ shown.published;
        summed = ap (λ (x : _). x.0) a.summed ∙ shown.summed;
        records = a.records ∙ ap (λ (rs : List Record). rs ++ (record_at_tip m.settings.segment m.tip kind ∷ [])) shown.records ∙ ap (λ (x : Record). records_of s ++ (x ∷ [])) same
            ∙ sym (records_push s (Mark marking) r worker None run refl);
        tip = a.tip ∙ ap (λ (x : Record). tip_after m.tip x) same ∙ ap (λ (t : Tip). tip_after t r) shown.tip ∙ sym (tip_on s (Mark marking) r worker None run refl);
        parts = λ q l. ap (λ (ps : _). option_map part_in (slice_get ps q)) a.parts ∙ shown.parts q l;
        workers = λ w. ap (λ (x : _). worker_at x.list.items w) a.crew ∙ shown.workers w;
        commands = λ w. ap (λ (x : _). commands_at x.list.items w) a.crew ∙ shown.commands w ∙ sym (commands_mark s.history r (Mark marking) worker w);
        finished = ap (λ (f : _). map finished_in f.items) a.finished ∙ shown.finished;
      };
    }

-- ---- a partition

within : {X : Type 0} (xs : List X) (w : ℕ) (x : X) → slice_get xs w ≡ Some x → w < length xs
within [] w x e = absurd cc
within (x ∷ xs) zero y e = omega arith
within (x ∷ xs) (suc w) y e = (let k = within xs w y e in omega (arith, k))

some_inside : (o : Option Pool) (part : Part) → option_map part_in o ≡ Some part → (pool : Pool) × (o ≡ Some pool)
some_inside None part e = absurd cc
some_inside (Some pool) part e = (pool, refl)

some_is : (a b : Part) → Some a ≡ Some b → a ≡ b
some_is a b e = cc

pub part_there : (m : Machine) (s : State) (q : ℕ) → Shows m s → q < 4 → q < length m.parts
part_there m s q shown l = let p = some_inside (slice_get m.parts q) (s.parts q) (shown.parts q l) in within m.parts q p.0 p.1

-- a partition at its number
pub part_is : (m : Machine) (s : State) (q : ℕ) (d : Pool) → Shows m s → q < 4 → part_in (get_or m.parts q d) ≡ s.parts q
part_is m s q d shown l =
    some_is (part_in (get_or m.parts q d)) (s.parts q) (sym (ap (option_map part_in) (slice_get-get_or m.parts q d (part_there m s q shown l))) ∙ shown.parts q l)

abbrev pub with_pool : Machine → ℕ → Pool → Machine
with_pool m q pool = record { settings = m.settings; records = m.records; tip = m.tip; summaries = m.summaries; summed = m.summed; parts = slice_set m.parts q pool; crew = m.crew; finished = m.finished }

pub shows_part : (m : Machine) (s : State) (q : ℕ) (pool : Pool) (part : Part) → q < 4 → part_in pool ≡ part → Shows m s → Shows (with_pool m q pool) (with_part s q part)
shows_part m s q pool part l is shown = record {
  mib = shown.mib;
  relseg = shown.relseg;
  published = shown.published;
  summed = shown.summed;
  records = shown.records;
  tip = shown.tip;
  parts = λ p k. ap (option_map part_in) (got_set m.parts q pool p (part_there m s q shown l)) ∙ by_test (p == q)
      (λ here. ap (λ c. option_map part_in (cond c (Some pool) (slice_get m.parts p))) here ∙ ap (λ (x : Part). Some x) is ∙ sym (ap (λ c. Some (cond c part (s.parts p))) here))
      (λ away. ap (λ c. option_map part_in (cond c (Some pool) (slice_get m.parts p))) away ∙ shown.parts p k ∙ sym (ap (λ c. Some (cond c part (s.parts p))) away));
  workers = shown.workers;
  commands = shown.commands;
  finished = shown.finished;
}

step_in : (s : State) (q : ℕ) (m : Machine) (done : State × Reply) (answer : Reply) → q < 4 → HasStepped m done answer → HasStepped m (where_part s q done) answer
step_in s q m done answer l h = subst (λ c. HasStepped m (cond c (idle s) done) answer) (sym (lt-leb 4 q l)) h

pub clean_step : (m : Machine) (s : State) (q : ℕ) (d new : Pool) (redo : Lsn) → q < 4 → part_in new ≡ cleaned redo.0 (part_in (get_or m.parts q d)) → redo.0 ≡ m.tip.redo → Shows m s
    → HasStepped (with_pool m q new) (step_of s (step.Clean q)) (reply.Cleaned redo)
clean_step m s q d new redo l done point shown =
    let at : redo.0 ≡ (end_of_wal s).redo = point ∙ ap (λ (t : Tip). t.redo) shown.tip in
    step_in s q (with_pool m q new) _ (reply.Cleaned redo) l (
      shows_part m s q new (cleaned (end_of_wal s).redo (s.parts q)) l (done ∙ ap (λ (n : ℕ). cleaned n (part_in (get_or m.parts q d))) at ∙ ap (cleaned (end_of_wal s).redo) (part_is m s q d shown l)) shown,
      ap (λ (n : ℕ). reply.Cleaned (record { 0 = n })) at,
    )

-- ---- checkpoints

in_room : (m : Machine) (s : State) (marking : Marking) (done : State × Reply) (answer : Reply) → is_past_room s (mark_record s marking) ≡ false → HasStepped m done answer → HasStepped m (where_room s marking done) answer
in_room m s marking done answer room h = subst (λ c. HasStepped m (cond c (s, reply.WalFull (length s.history)) done) answer) (sym room) h

no_room : (m : Machine) (s : State) (marking : Marking) (done : State × Reply) (entries : ℕ) → HasMarked m s 0 marking None → entries ≡ length s.history → HasStepped m (where_room s marking done) (reply.WalFull entries)
no_room m s marking done entries full is = subst (λ c. HasStepped m (cond c (s, reply.WalFull (length s.history)) done) (reply.WalFull entries)) (sym full.0) (full.1, ap (λ (n : ℕ). reply.WalFull n) is)

not_here : (m : Machine) (s : State) (t : Bool) (done : State × Reply) (answer : Reply) → t ≡ false → HasStepped m done answer → HasStepped m (cond t (idle s) done) answer
not_here m s t done answer is h = subst (λ c. HasStepped m (cond c (idle s) done) answer) (sym is) h

busy_is : (m : Machine) (s : State) (n : ℕ) (busy : Bool) → Shows m s → busy ≡ (is_some (worker_at m.crew.list.items n).redo || is_some (worker_at m.crew.list.items n).backup) → busy ≡ false → (is_some (s.workers n).redo || is_some (s.workers n).backup) ≡ false
busy_is m s n busy shown is none = sym (ap (λ (w : Worker). is_some w.redo || is_some w.backup) (shown.workers n)) ∙ sym is ∙ none

pub start_full : (m new : Machine) (s : State) (n entries : ℕ) (busy : Bool) → Shows m s → busy ≡ (is_some (worker_at m.crew.list.items n).redo || is_some (worker_at m.crew.list.items n).backup) → busy ≡ false → HasMarked new s n (RedoMark 1) None → entries ≡ m.tip.count
    → HasStepped new (started s n (s.workers n)) (reply.WalFull entries)
start_full m new s n entries busy shown is none full count =
    not_here new s _ _ (reply.WalFull entries) (busy_is m s n busy shown is none) (no_room new s (RedoMark 1) _ entries full (entries_are m s entries shown count))

pub start_done : (m last : Machine) (s : State) (n : ℕ) (busy : Bool) (place : Place) → Shows m s → busy ≡ (is_some (worker_at m.crew.list.items n).redo || is_some (worker_at m.crew.list.items n).backup) → busy ≡ false → (marked : Machine) → HasPlaced marked s n (RedoMark 1) place
    → Shows last (with_worker (with_mark s n (RedoMark 1)) n (record { redo = Some place.start.0; backup = None })) → HasStepped last (started s n (s.workers n)) (reply.Started place.start)
start_done m last s n busy place shown is none marked placed set =
    not_here last s _ _ (reply.Started place.start) (busy_is m s n busy shown is none)
    (in_room last s (RedoMark 1) _ (reply.Started place.start) placed.room
    (subst (λ (x : Lsn). Shows last (with_worker (with_mark s n (RedoMark 1)) n (record { redo = Some x.0; backup = None }))) placed.start set, ap (λ (x : Lsn). reply.Started x) placed.start))

redo_is : (m : Machine) (s : State) (n : ℕ) (o : Option Lsn) (redo : Lsn) → Shows m s → option_map (λ (l : Lsn). l.0) o ≡ (worker_at m.crew.list.items n).redo → o ≡ Some redo → (s.workers n).redo ≡ Some redo.0
redo_is m s n o redo shown is found = sym (ap (λ (w : Worker). w.redo) (shown.workers n)) ∙ sym is ∙ ap (option_map (λ (l : Lsn). l.0)) found

-- no partition is behind, and the backup that is asked for may begin
may_be : (f : List Finished) (s : State) (redo : ℕ) (what : Asked) (behind may : Bool) → f ≡ s.finished → behind ≡ is_behind s redo → behind ≡ false → may ≡ may_begin f redo what → may ≡ true → (is_behind s redo || not (may_begin s.finished redo what)) ≡ false
may_be f s redo what behind may same behind_is none may_is free =
    ap (λ t. t || not (may_begin s.finished redo what)) (sym behind_is ∙ none) ∙ ap (λ (x : List Finished). not (may_begin x redo what)) (sym same) ∙ ap not (sym may_is ∙ free)

pub complete_full : (m new : Machine) (s : State) (n entries : ℕ) (what : Asked) (o : Option Lsn) (redo : Lsn) (behind may : Bool) → Shows m s → option_map (λ (l : Lsn). l.0) o ≡ (worker_at m.crew.list.items n).redo → o ≡ Some redo → behind ≡ is_behind s redo.0 → behind ≡ false
    → may ≡ may_begin (map finished_in m.finished.items) redo.0 what → may ≡ true → HasMarked new s n (Online redo.0) None → entries ≡ m.tip.count → HasStepped new (completed s n what (s.workers n).redo) (reply.WalFull entries)
complete_full m new s n entries what o redo behind may shown is found same none may_is free full count =
    subst (λ (r : Option ℕ). HasStepped new (completed s n what r) (reply.WalFull entries)) (sym (redo_is m s n o redo shown is found))
    (not_here new s (is_behind s redo.0 || not (may_begin s.finished redo.0 what)) _ (reply.WalFull entries) (may_be _ s redo.0 what behind may shown.finished same none may_is free) (no_room new s (Online redo.0) _ entries full (entries_are m s entries shown count)))

pub complete_done : (m last marked : Machine) (s : State) (n : ℕ) (what : Asked) (o : Option Lsn) (redo : Lsn) (behind may : Bool) (place : Place) (b : Option Backup) → Shows m s → option_map (λ (l : Lsn). l.0) o ≡ (worker_at m.crew.list.items n).redo → o ≡ Some redo → behind ≡ is_behind s redo.0 → behind ≡ false
    → may ≡ may_begin (map finished_in m.finished.items) redo.0 what → may ≡ true → HasPlaced marked s n (Online redo.0) place → b ≡ begun (map finished_in marked.finished.items) redo.0 what → Shows last (with_worker (with_mark s n (Online redo.0)) n (record { redo = None; backup = b }))
    → HasStepped last (completed s n what (s.workers n).redo) (reply.Completed place.start)
complete_done m last marked s n what o redo behind may place b shown is found same none may_is free placed made set =
    subst (λ (r : Option ℕ). HasStepped last (completed s n what r) (reply.Completed place.start)) (sym (redo_is m s n o redo shown is found))
    (not_here last s (is_behind s redo.0 || not (may_begin s.finished redo.0 what)) _ (reply.Completed place.start) (may_be _ s redo.0 what behind may shown.finished same none may_is free)
    (in_room last s (Online redo.0) _ (reply.Completed place.start) placed.room
    (subst (λ (x : Option Backup). Shows last (with_worker (with_mark s n (Online redo.0)) n (record { redo = None; backup = x }))) (made ∙ ap (λ (f : List Finished). begun f redo.0 what) placed.shown.finished) set, ap (λ (x : Lsn). reply.Completed x) placed.start)))

-- ---- summaries

-- the redo points of a history's entries are those of their records
own_next : (mib : ℕ) (before : Before) (place : ℕ) (own : List Entry) → StartInPlace mib before own → AreWrittenInPlace mib before own → next_redo_in place (written mib before own) ≡ next_redo place own
own_next mib before place [] starts placed = refl
own_next mib before place (e ∷ es) starts placed =
    let r : Record = next_record mib before e.act in
    let more : List Record = written mib (behind before e) es in
    ap (λ c. next_redo_in place (cond c (r ∷ more) more)) placed.0
    ∙ ap (λ c. cond (c && nat_lt place r.start.0) (Some r.start.0) (next_redo_in place more)) (sym (redo_same before.store before.tip.redo e.act))
    ∙ ap (λ (n : ℕ). cond (is_redo e.act && nat_lt place n) (Some n) (next_redo_in place more)) (sym starts.0)
    ∙ ap (λ (o : Option ℕ). cond (is_redo e.act && nat_lt place e.start) (Some e.start) o) (own_next mib (behind before e) place es starts.1 placed.1.1.1.1)

next_found : (s : State) (place : ℕ) → IsRun s.mib s.history → next_redo_in place (records_of s) ≡ next_redo place s.history
next_found s place run =
    subst (λ (h : List Entry). next_redo_in place (first_record s.mib ∷ wal_of s.mib h) ≡ next_redo place h) (sym run.grown)
    (own_next s.mib (found_before s.mib (first s.mib)) place run.own run.logged.starts run.logged.written)

next_shown : (m : Machine) (s : State) (o : Option Lsn) → IsReached s → Shows m s → option_map (λ (l : Lsn). l.0) o ≡ next_redo_in m.summed.0 m.records.items → option_map (λ (l : Lsn). l.0) o ≡ next_redo (summaries_end s) s.history
next_shown m s o reached shown is =
    is ∙ ap (λ (rs : List Record). next_redo_in m.summed.0 rs) shown.records ∙ ap (λ (n : ℕ). next_redo_in n (records_of s)) shown.summed ∙ next_found s (summaries_end s) (reached_machine s reached).run

pub publish_idle : (m : Machine) (s : State) (o : Option Lsn) → IsReached s → Shows m s → option_map (λ (l : Lsn). l.0) o ≡ next_redo_in m.summed.0 m.records.items → o ≡ None → HasStepped m (published s (next_redo (summaries_end s) s.history)) reply.Idle
publish_idle m s o reached shown is none =
    subst (λ (x : Option ℕ). HasStepped m (published s x) reply.Idle) (ap (option_map (λ (l : Lsn). l.0)) (sym none) ∙ next_shown m s o reached shown is) (shown, refl)

-- what the summary of a range of the records says
summed_alike : (s : State) (from to : ℕ) (forks : List ForkSummary) → IsRun s.mib s.history → IsSummary (summary_of (map entry_of (records_of s)) from to) forks → table_of_forks forks ≡ summary_of s.history from to
summed_alike s from to forks run says =
    subst (λ (h : List Entry). IsSummary (summary_of (map entry_of (first_record s.mib ∷ wal_of s.mib h)) from to) forks → table_of_forks forks ≡ summary_of h from to) (sym run.grown)
    (λ k. (logs_sum_up s.mib (first s.mib) run.own from to forks run.logged k).says) says

sums_pushed : (xs : List Summary) (y : Summary) → map published_in (xs ++ (y ∷ [])) ≡ map published_in xs ++ (published_in y ∷ [])
sums_pushed [] y = refl
sums_pushed (x ∷ xs) y = ap (λ (f : List Published). published_in x ∷ f) (sums_pushed xs y)

pub publish_done : (m : Machine) (s : State) (o : Option Lsn) (end : Lsn) (sum : Summary) (list : Vec Summary) → IsReached s → Shows m s → option_map (λ (l : Lsn). l.0) o ≡ next_redo_in m.summed.0 m.records.items → o ≡ Some end → sum.start ≡ m.summed → sum.end ≡ end
    → IsSummary (summary_of (map entry_of m.records.items) m.summed.0 end.0) sum.forks → list.items ≡ m.summaries.items ++ (sum ∷ [])
    → HasStepped (record { settings = m.settings; records = m.records; tip = m.tip; summaries = list; summed = end; parts = m.parts; crew = m.crew; finished = m.finished }) (published s (next_redo (summaries_end s) s.history)) (reply.Published end)
publish_done m s o end sum list reached shown is found start_is end_is says pushed =
    let last : Machine = record { settings = m.settings; records = m.records; tip = m.tip; summaries = list; summed = end; parts = m.parts; crew = m.crew; finished = m.finished } in
    let run = (reached_machine s reached).run in
    let here : IsSummary (summary_of (map entry_of (records_of s)) (summaries_end s) end.0) sum.forks =
    subst (λ (n : ℕ). IsSummary (summary_of (map entry_of (records_of s)) n end.0) sum.forks) shown.summed (subst (λ (rs : List Record). IsSummary (summary_of (map entry_of rs) m.summed.0 end.0) sum.forks) shown.records says) in
    let table = summed_alike s (summaries_end s) end.0 sum.forks run here in
    let made : published_in sum ≡ next_summary s end.0 = (λ i. record { start = (ap (λ (l : Lsn). l.0) start_is ∙ shown.summed) i; end = (ap (λ (l : Lsn). l.0) end_is) i; table = table i }) in
    subst (λ (x : Option ℕ). HasStepped last (published s x) (reply.Published end)) (ap (option_map (λ (l : Lsn). l.0)) (sym found) ∙ next_shown m s o reached shown is) (
      record {
        mib = shown.mib;
        relseg = shown.relseg;
        records = shown.records;
        tip = shown.tip;
        published = ap (map published_in) pushed ∙ sums_pushed m.summaries.items sum ∙ ap (λ (f : List Published). f ++ (published_in sum ∷ [])) shown.published ∙ ap (λ (x : Published). s.published ++ (x ∷ [])) made;
        summed = sym (to_pushed (first_record s.mib).start.0 s.published (next_summary s end.0));
        parts = shown.parts;
        workers = shown.workers;
        commands = shown.commands;
        finished = shown.finished;
      },
      refl,
    )

-- ---- backups

abbrev pub with_crew : Machine → Crew → Machine
with_crew m crew = record { settings = m.settings; records = m.records; tip = m.tip; summaries = m.summaries; summed = m.summed; parts = m.parts; crew = crew; finished = m.finished }

-- a worker's backup is taken away
pub shows_taken : (m : Machine) (crew : Crew) (s : State) (n : ℕ) (w : Worker) → Shows m s → IsCrewWith m.crew.list.items crew.list.items n w → Shows (with_crew m crew) (with_worker s n w)
shows_taken m crew s n w shown is = record {
  mib = shown.mib;
  relseg = shown.relseg;
  published = shown.published;
  summed = shown.summed;
  records = shown.records;
  tip = shown.tip;
  parts = shown.parts;
  workers = λ v. is.workers v ∙ ap (λ (x : Worker). cond (v == n) w x) (shown.workers v);
  commands = λ v. is.commands v ∙ shown.commands v;
  finished = shown.finished;
}

twice : {X : Type 0} (t : Bool) (x y z : X) → cond t x (cond t y z) ≡ cond t x z
twice true x y z = refl
twice false x y z = refl

-- what is set last stands
pub shows_again : (m : Machine) (s : State) (n : ℕ) (a b : Worker) → Shows m (with_worker (with_worker s n a) n b) → Shows m (with_worker s n b)
shows_again m s n a b shown = record {
  mib = shown.mib;
  relseg = shown.relseg;
  published = shown.published;
  summed = shown.summed;
  records = shown.records;
  tip = shown.tip;
  parts = shown.parts;
  workers = λ v. shown.workers v ∙ twice (v == n) b a (s.workers v);
  commands = shown.commands;
  finished = shown.finished;
}

some_backup : (a b : Backup) → Some a ≡ Some b → a ≡ b
some_backup a b e = cc

one_backup : (o : Option Backup) (a b : Backup) → o ≡ Some a → o ≡ Some b → a ≡ b
one_backup o a b e f = some_backup a b (sym e ∙ f)

pub list_step : (m last : Machine) (crew : Crew) (s : State) (n q : ℕ) (b c : Backup) (seen : Bool) (redo : Option ℕ) (lengths : List ForkLen) (new : Backup) (d : Pool) → q < 4 → Shows m s → (worker_at m.crew.list.items n).backup ≡ Some b → (worker_at m.crew.list.items n).backup ≡ Some c
    → seen ≡ is_listed b q → seen ≡ false → redo ≡ (worker_at m.crew.list.items n).redo → IsCrewWith m.crew.list.items crew.list.items n (record { redo = (worker_at m.crew.list.items n).redo; backup = None })
    → lengths ≡ lengths_of (get_or m.parts q d).disk → new ≡ with_listing c q (get_or m.parts q d).disk → ((t : State) → Shows (with_crew m crew) t → Shows last (with_worker t n (record { redo = redo; backup = Some new })))
    → HasStepped last (listed s n q (s.workers n).backup) (reply.Listed lengths)
list_step m last crew s n q b c seen redo lengths new d l shown is there seen_is unseen redo_is taken lengths_is new_is set =
    let worker = shown.workers n in
    let mine : (s.workers n).backup ≡ Some c = sym (ap (λ (w : Worker). w.backup) worker) ∙ there in
    let same : b ≡ c = one_backup _ b c is there in
    let disk : (get_or m.parts q d).disk ≡ (s.parts q).disk = ap (λ (p : Part). p.disk) (part_is m s q d shown l) in
    let made : new ≡ with_listing c q (s.parts q).disk = new_is ∙ ap (λ (x : Store). with_listing c q x) disk in
    let after = shows_again last s n _ (record { redo = redo; backup = Some new }) (set (with_worker s n (record { redo = (worker_at m.crew.list.items n).redo; backup = None })) (shows_taken m crew s n (record { redo = (worker_at m.crew.list.items n).redo; backup = None }) shown taken)) in
    subst (λ (o : Option Backup). HasStepped last (listed s n q o) (reply.Listed lengths)) (sym mine)
    (not_here last s (is_listed c q) _ (reply.Listed lengths) (ap (λ (x : Backup). is_listed x q) (sym same) ∙ sym seen_is ∙ unseen) (
      subst (λ (w : Worker). Shows last (with_worker s n w)) (λ i. record { redo = (redo_is ∙ ap (λ (x : Worker). x.redo) worker) i; backup = Some (made i) }) after,
      ap (λ (xs : List ForkLen). reply.Listed xs) (lengths_is ∙ ap lengths_of disk),
    ))

pub copy_step : (m last : Machine) (crew : Crew) (s : State) (n q : ℕ) (at : BlockId) (b c : Backup) (one two three four found : Bool) (redo : Option ℕ) (page : List ℕ) (new : Backup) (d e : Pool) → q ≡ partition_of at.fork.rel → q < 4 → Shows m s
    → (worker_at m.crew.list.items n).backup ≡ Some b → (worker_at m.crew.list.items n).backup ≡ Some c → one ≡ is_listed b q → one ≡ true → two ≡ is_within b at → two ≡ true → three ≡ is_named at b.copied → three ≡ false
    → four ≡ (is_summed s b && sends s.relseg s.published b b.prior at) → four ≡ true
    → redo ≡ (worker_at m.crew.list.items n).redo → IsCrewWith m.crew.list.items crew.list.items n (record { redo = (worker_at m.crew.list.items n).redo; backup = None })
    → found ≡ is_some (block_of (get_or m.parts q d).disk at.fork at.block) → page ≡ page_at (get_or m.parts q e).disk at → new ≡ with_copied c at (Some page) → ((t : State) → Shows (with_crew m crew) t → Shows last (with_worker t n (record { redo = redo; backup = Some new })))
    → HasStepped last (copied s n at (s.workers n).backup) (reply.Copied found)
copy_step m last crew s n q at b c one two three four found redo page new d e part l shown is there one_is listed two_is inside three_is uncopied four_is sent redo_is taken found_is page_is new_is set =
    let worker = shown.workers n in
    let p = partition_of at.fork.rel in
    let mine : (s.workers n).backup ≡ Some c = sym (ap (λ (w : Worker). w.backup) worker) ∙ there in
    let same : b ≡ c = one_backup _ b c is there in
    let unsent = λ (x : Backup). not (is_summed s x && sends s.relseg s.published x x.prior at) in
    let test : (not (is_listed c p) || (not (is_within c at) || (is_named at c.copied || unsent c))) ≡ false =
    ap (λ (x : Backup). not (is_listed x p) || (not (is_within x at) || (is_named at x.copied || unsent x))) (sym same)
    ∙ ap (λ (k : ℕ). not (is_listed b k) || (not (is_within b at) || (is_named at b.copied || unsent b))) (sym part)
    ∙ ap (λ t. not t || (not (is_within b at) || (is_named at b.copied || unsent b))) (sym one_is ∙ listed)
    ∙ ap (λ t. not t || (is_named at b.copied || unsent b)) (sym two_is ∙ inside) ∙ ap (λ t. t || unsent b) (sym three_is ∙ uncopied) ∙ ap not (sym four_is ∙ sent) in
    let disk : (get_or m.parts q d).disk ≡ (s.parts p).disk = ap (λ (x : Part). x.disk) (part_is m s q d shown l) ∙ ap (λ (k : ℕ). (s.parts k).disk) part in
    let other : (get_or m.parts q e).disk ≡ (s.parts p).disk = ap (λ (x : Part). x.disk) (part_is m s q e shown l) ∙ ap (λ (k : ℕ). (s.parts k).disk) part in
    let zeroed : page ≡ unwrap_or (disk_block s at) zero_page = page_is ∙ ap (λ (x : Store). page_at x at) other ∙ page_by_block (s.parts p).disk at in
    let made : new ≡ with_copied c at (disk_block s at) = new_is ∙ ap (λ (x : List ℕ). with_copied c at (Some x)) zeroed in
    let after = shows_again last s n _ (record { redo = redo; backup = Some new }) (set (with_worker s n (record { redo = (worker_at m.crew.list.items n).redo; backup = None })) (shows_taken m crew s n (record { redo = (worker_at m.crew.list.items n).redo; backup = None }) shown taken)) in
    subst (λ (o : Option Backup). HasStepped last (copied s n at o) (reply.Copied found)) (sym mine)
    (not_here last s (not (is_listed c p) || (not (is_within c at) || (is_named at c.copied || unsent c))) _ (reply.Copied found) test (
      subst (λ (w : Worker). Shows last (with_worker s n w)) (λ i. record { redo = (redo_is ∙ ap (λ (x : Worker). x.redo) worker) i; backup = Some (made i) }) after,
      ap (λ t. reply.Copied t) (found_is ∙ ap (λ (x : Store). is_some (block_of x at.fork at.block)) disk),
    ))

map_pushed : (xs : List FinishedBackup) (y : FinishedBackup) → map finished_in (xs ++ (y ∷ [])) ≡ map finished_in xs ++ (finished_in y ∷ [])
map_pushed [] y = refl
map_pushed (x ∷ xs) y = ap (λ (f : List Finished). finished_in x ∷ f) (map_pushed xs y)

pub end_full : (m new : Machine) (s : State) (n entries : ℕ) (b : Backup) (all : Bool) → Shows m s → (worker_at m.crew.list.items n).backup ≡ Some b → all ≡ (is_summed s b && is_complete s.relseg s.published b) → all ≡ true → HasMarked new s n (BackupEnd b.start) None → entries ≡ m.tip.count
    → HasStepped new (ended s n (s.workers n).backup) (reply.WalFull entries)
end_full m new s n entries b all shown is all_is whole full count =
    subst (λ (o : Option Backup). HasStepped new (ended s n o) (reply.WalFull entries)) (sym (sym (ap (λ (w : Worker). w.backup) (shown.workers n)) ∙ is))
    (not_here new s (not (is_summed s b && is_complete s.relseg s.published b)) _ (reply.WalFull entries) (ap not (sym all_is ∙ whole)) (no_room new s (BackupEnd b.start) _ entries full (entries_are m s entries shown count)))

pub end_done : (m marked set : Machine) (crew : Crew) (s : State) (n relseg : ℕ) (b c : Backup) (all : Bool) (place : Place) (done : FinishedBackup) (list : Vec FinishedBackup) → Shows m s → (worker_at m.crew.list.items n).backup ≡ Some b
    → all ≡ (is_summed s b && is_complete s.relseg s.published b) → all ≡ true
    → HasPlaced marked s n (BackupEnd b.start) place → (worker_at marked.crew.list.items n).backup ≡ Some c → IsCrewWith marked.crew.list.items crew.list.items n (record { redo = (worker_at marked.crew.list.items n).redo; backup = None })
    → ((t : State) → Shows (with_crew marked crew) t → Shows set (with_worker t n idle_worker)) → relseg ≡ marked.settings.relseg → finished_in done ≡ finished_of relseg (map published_in marked.summaries.items) c place.end.0 → list.items ≡ set.finished.items ++ (done ∷ [])
    → HasStepped (record { settings = set.settings; records = set.records; tip = set.tip; summaries = set.summaries; summed = set.summed; parts = set.parts; crew = set.crew; finished = list }) (ended s n (s.workers n).backup) (reply.Ended place.end)
end_done m marked set crew s n relseg b c all place done list shown is all_is whole placed there taken put relseg_is done_is pushed =
    let after = with_mark s n (BackupEnd b.start) in
    let mine : (s.workers n).backup ≡ Some b = sym (ap (λ (w : Worker). w.backup) (shown.workers n)) ∙ is in
    let same : c ≡ b = some_backup c b (sym there ∙ ap (λ (w : Worker). w.backup) (placed.shown.workers n) ∙ mine) in
    let set_shown = shows_again set after n _ idle_worker (put (with_worker after n (record { redo = (worker_at marked.crew.list.items n).redo; backup = None })) (shows_taken marked crew after n (record { redo = (worker_at marked.crew.list.items n).redo; backup = None }) placed.shown taken)) in
    let last : Machine = record { settings = set.settings; records = set.records; tip = set.tip; summaries = set.summaries; summed = set.summed; parts = set.parts; crew = set.crew; finished = list } in
    let made : finished_in done ≡ finished_of s.relseg s.published b (mark_record s (BackupEnd b.start)).end.0 =
    done_is ∙ ap (λ (k : ℕ). finished_of k (map published_in marked.summaries.items) c place.end.0) (relseg_is ∙ placed.shown.relseg)
    ∙ ap (λ (ps : List Published). finished_of s.relseg ps c place.end.0) placed.shown.published
    ∙ ap (λ (x : Backup). finished_of s.relseg s.published x place.end.0) same
    ∙ ap (λ (x : Lsn). finished_of s.relseg s.published b x.0) placed.end in
    subst (λ (o : Option Backup). HasStepped last (ended s n o) (reply.Ended place.end)) (sym mine)
    (not_here last s (not (is_summed s b && is_complete s.relseg s.published b)) _ (reply.Ended place.end) (ap not (sym all_is ∙ whole))
    (in_room last s (BackupEnd b.start) _ (reply.Ended place.end) placed.room (
      record {
        mib = set_shown.mib;
        relseg = set_shown.relseg;
        published = set_shown.published;
        summed = set_shown.summed;
        records = set_shown.records;
        tip = set_shown.tip;
        parts = set_shown.parts;
        workers = set_shown.workers;
        commands = set_shown.commands;
        finished = ap (map finished_in) pushed ∙ map_pushed set.finished.items done ∙ ap (λ (f : List Finished). f ++ (finished_in done ∷ [])) set_shown.finished ∙ ap (λ (x : Finished). s.finished ++ (x ∷ [])) made;
      },
      ap (λ (x : Lsn). reply.Ended x) placed.end,
    )))

pub found_is_some : {X Y : Type 0} (f : X → Y) (o : Option X) → is_some o ≡ is_some (option_map f o)
found_is_some f None = refl
found_is_some f (Some x) = refl
