-- Each step keeps the areas of all partitions, and leaves what stays at each moment.
use Rattle.std.proofs.Common.{◌≡◌, arith, ℕ, zero, suc, ◌<◌, ◌≤◌, ◌⊎◌, ⊎_elim, inl, inr, Bool, true, false, cond, ◌&&◌, ◌||◌, true≢false, eqb-true, List, [], ◌∷◌, ◌++◌, length, Option, None, Some, is_some, refl, sym, ap, subst, ◌∙◌}
use Rattle.std.specs.Prelude.{◌==◌, max, not, nat_le, nat_lt}
use Rattle.std.specs.List.{list_any}
use Rattle.std.proofs.lemmas.List.Folds.{list_any-append}
use Rattle.std.specs.Option.{option_or}
use Rattle.std.specs.Ordering.{nat_cmp}
use Rattle.std.specs.Cmp.Lexicographic.{slice_cmp}
use Rattle.std.specs.FinMap.{empty, get, get-empty}
use Rattle.std.proofs.lemmas.Bool.{eq-eqb, leb-false, leb-true, le-leb, ltb-false, or_parts, or_right}
use Rattle.lsn_core.specs.Segment.{IsSegmentMib, segment_bytes}
use Rattle.wal_pages.specs.Places.{start_after}
use Rattle.lsn_core.specs.Tip.{Tip}
use Rattle.lsn_core.specs.declared.ids.BlockId.{BlockId}
use Rattle.lsn_core.specs.declared.ids.ForkId.{ForkId}
use Rattle.lsn_core.specs.Store.{Store, ForkPages, fork_cmp}
use Rattle.wal_record.specs.declared.record.Record.{Record}
use Rattle.wal_record.specs.Tips.{record_at_tip}
use Rattle.vault.specs.Stops.{Event, synced}
use Rattle.vault.specs.Frame.{LeavesOnly}
use Rattle.rel_files.specs.Forks.{Holds, HasWholePages}
use Rattle.rel_files.proofs.WholeStores.{nothing_is_held}
use Rattle.history.specs.declared.op.Op.{Op}
use Rattle.history.specs.declared.op.Op.TheVariants as op
use Rattle.history.specs.Entry.{Marking, Mark, RedoMark, Online, BackupEnd, Entry}
use Rattle.history.specs.Apply.{apply_all}
use Rattle.history.specs.Op.{act_of_op}
use Rattle.history.specs.Whole.{entry_of, is_named}
use Rattle.history.specs.Written.{record_of, tip_of}
use Rattle.history.specs.Laws.{HasGoodPages}
use Rattle.history.proofs.Stores.{by_test}
use Rattle.history.specs.partitions.Parts.{is_of, partition_of, concerns}
use Rattle.history.specs.fuzzy_copies.Sound.{state_before}
use Rattle.history.specs.fuzzy_copies.Taken.{since}
use Rattle.history.specs.fuzzy_copies.CoverLaws.{MakesTidily}
use Rattle.store_core.specs.declared.step.Asked.{Asked}
use Rattle.store_core.specs.declared.step.Step.{Step}
use Rattle.store_core.specs.declared.step.Step.TheVariants.{Insert, WritePage, Clean, Redo, Begin, Publish, ListForks, CopyBlock, End}
use Rattle.store_core.specs.declared.step.Work.{Work}
use Rattle.store_core.specs.declared.reply.Refusal.{Refusal}
use Rattle.store_core.specs.declared.reply.Reply.{Reply}
use Rattle.store_core.specs.declared.reply.Reply.TheVariants as reply
use Rattle.store_core.specs.Increments.{next_redo}
use Rattle.store_core.specs.State.{Part, Backup, Worker, State, part_numbers, first_record, end_of_wal, with_part, empty_part}
use Rattle.store_core.specs.Parts.{part_after, Turn, next_write, cleaned}
use Rattle.store_core.specs.Refusals.{judged, judged_op, judged_total, judged_room, part_of_op, command_record, is_past_room}
use Rattle.store_core.specs.Laws.{PutsPages}
use Rattle.store_core.specs.Steps.{idle, entry_at, command_count, accepted, inserted, mark_record, where_room, where_part, written, started, completed, is_behind, may_begin, summaries_end, published, listed, is_listed, copied, is_within, is_summed, sends, ended, is_complete, step_of}
use Rattle.store_core.proofs.Judged.{first_none, judged-own, part_below}
use Rattle.store_core.proofs.Runs.{StandsBehind, stands, tip_push}
use Rattle.store_core.proofs.Caused.{tidy_from}
use Rattle.store_core.proofs.Keeps.{IsMachine, choose, kinds_same, step_keeps, machine_first}
use Rattle.stop_areas.specs.Left.{HasWhatStays, IsLeftOf}
use Rattle.stop_areas.specs.Laws.{IsAny}
use Rattle.stop_areas.proofs.Held.{held_left}
use Rattle.stop_areas.proofs.Moments.{in_turn, keeps_none}
use Rattle.stop_laws.specs.Window.{base_of}
use Rattle.core_stops.specs.Machine.{CoreWithStops, FlushedStep, is_known, first_core, part_behind, after_write, AreWrites, after_writes, past_after, with_flush, with_past, pasts_after, after_step, after_steps, WritesPart, CleansPart, FitsStep, MayTake, MayTakeAll}
use Rattle.core_stops.specs.Survivors.{mark_names, act_names, names}
use Rattle.core_stops.proofs.Parted.{is_lost, none_filtered, knowns, laters, before_known, late, ends, pass, push_known, push_later, known_first}
use Rattle.core_stops.proofs.Whole.{after_act_whole, page_size}
use Rattle.core_stops.proofs.Kept.{IsKept, WaitsOn, with_frames, second_empty, flush_keeps, push_keeps, others_wait, own_wait}
use Rattle.core_stops.proofs.Written.{Moments, KeptAt, IsWritten, adds_writes, writes_keep}
use Rattle.core_stops.proofs.Cleaned.{sync_moments, clean_keeps}

-- ---- what is kept

-- the core machine keeps its facts, and each partition and its area are kept
pub record IsCore (c : CoreWithStops) : Type 0 where
  pub some : 0 < c.core.relseg
  pub machine : IsMachine c.core
  pub within : c.flushed ≤ (tip_of c.core.mib c.core.history).end
  pub parts : (q : ℕ) → q < 4 → KeptAt q c.core.relseg c.flushed c.core.history (c.pasts q) (c.core.parts q)
  -- each partition's point is at each redo point that a checkpoint names, or past it
  pub redo : (q : ℕ) → q < 4 → (from : ℕ) → list_any (names from) c.core.history ≡ true → from ≤ (c.core.parts q).point

-- behind a step that was flushed for
pub record IsStepKept (c : CoreWithStops) (x : FlushedStep) : Type 0 where
  pub core : IsCore (after_step c x)
  pub moments : (q : ℕ) → q < 4 → Moments q c.core.relseg c.flushed c.core.history (c.core.parts q).point (c.pasts q) ((after_step c x).pasts q)

pub makes : (s : State) (machine : IsMachine s) (from : ℕ) → MakesTidily s.history from machine.run.store
makes s machine from = record { orderly = machine.run.orderly; made = machine.run.made; tidy = tidy_from s.history from machine.run.orderly machine.run.tidy }

one_store : (s t : Store) (m : Option Store) → m ≡ Some s → m ≡ Some t → s ≡ t
one_store s t m e f = cc

-- where nothing happens to an area
pub quiet_moments : (q relseg flushed : ℕ) (history : List Entry) (past : List Event) (part : Part) → KeptAt q relseg flushed history past part → Moments q relseg flushed history part.point past past
quiet_moments q relseg flushed history past part k store defined =
    let entries = since part.point (knowns part.point flushed history) in
    subst (λ (s : Store). LeavesOnly (IsLeftOf relseg (base_of (is_of q) s entries)) (Some past) (Some past)) (one_store k.store store (state_before (knowns part.point flushed history) part.point) k.defined defined)
    (keeps_none relseg (base_of (is_of q) k.store entries) (Some past) (Some past) refl k.left)

-- ---- the flush

pub flush_core : (c : CoreWithStops) (to : ℕ) → IsCore c → c.flushed ≤ to → to ≤ (tip_of c.core.mib c.core.history).end → IsCore (with_flush c to)
flush_core c to is rises within = record {
  some = is.some;
  machine = is.machine;
  within = within;
  parts = λ q small.
      let part = c.core.parts q in
      let history = c.core.history in
      let p = pass part.point c.flushed part.point to 0 history (omega arith) rises is.machine.run.orderly in
      subst (λ (l : List Entry). IsKept q c.core.relseg l (laters part.point to history) to (c.pasts q) part) (sym p.known)
      (flush_keeps q c.core.relseg c.flushed to (knowns part.point c.flushed history) (laters part.point c.flushed history) p.passed (laters part.point to history) (c.pasts q) part (is.parts q small) rises p.later (ends part.point to history));
  redo = is.redo;
}

-- ---- steps that leave history and partitions alone

record IsQuiet (s t : State) : Type 0 where
  mib : s.mib ≡ t.mib
  relseg : s.relseg ≡ t.relseg
  history : s.history ≡ t.history
  parts : s.parts ≡ t.parts

kept_by : (s t : State) (q flushed : ℕ) (past : List Event) → IsQuiet s t → KeptAt q s.relseg flushed s.history past (s.parts q) → KeptAt q t.relseg flushed t.history past (t.parts q)
kept_by s t q flushed past same k =
    subst (λ (n : ℕ). KeptAt q n flushed t.history past (t.parts q)) same.relseg
    (subst (λ (h : List Entry). KeptAt q s.relseg flushed h past (t.parts q)) same.history
    (subst (λ (ps : ℕ → Part). KeptAt q s.relseg flushed s.history past (ps q)) same.parts k))

quiet_core : (c : CoreWithStops) (t : State) → IsCore c → IsMachine t → IsQuiet c.core t → IsCore (record { core = t; pasts = c.pasts; flushed = c.flushed })
quiet_core c t is machine same = record {
  some = subst (λ (n : ℕ). 0 < n) same.relseg is.some;
  machine = machine;
  within = subst (λ (h : List Entry). c.flushed ≤ (tip_of t.mib h).end) same.history (subst (λ (m : ℕ). c.flushed ≤ (tip_of m c.core.history).end) same.mib is.within);
  parts = λ q small. kept_by c.core t q c.flushed (c.pasts q) same (is.parts q small);
  redo = λ q small from some. subst (λ (ps : ℕ → Part). from ≤ (ps q).point) same.parts (is.redo q small from (ap (list_any (names from)) same.history ∙ some));
}

-- ---- steps that append an entry

pushed : (q relseg flushed : ℕ) (history : List Entry) (past : List Event) (part : Part) (e : Entry) (frames : Store) (dirty : List BlockId) (works : List Work) → KeptAt q relseg flushed history past part → flushed < e.end → part.point ≤ e.start → HasWholePages frames → WaitsOn q e part dirty works
    → KeptAt q relseg flushed (history ++ (e ∷ [])) past (with_frames part frames dirty works)
pushed q relseg flushed history past part e frames dirty works k end start whole on =
    subst (λ (l : List Entry). IsKept q relseg l (laters part.point flushed (history ++ (e ∷ []))) flushed past (with_frames part frames dirty works)) (sym (push_known part.point flushed history e start end))
    (subst (λ (l : List Entry). IsKept q relseg (knowns part.point flushed history) l flushed past (with_frames part frames dirty works)) (sym (push_later part.point flushed history e start end))
    (push_keeps q relseg flushed (knowns part.point flushed history) (laters part.point flushed history) past part e frames dirty works k end start whole on))

past_flush : (mib flushed : ℕ) (history : List Entry) (r : Record) → StandsBehind mib history r → flushed ≤ (tip_of mib history).end → flushed < r.end.0
past_flush mib flushed history r stand within = let start = stand.start in let long = stand.long in omega (arith, within, start, long)

past_point : (mib point : ℕ) (history : List Entry) (r : Record) → StandsBehind mib history r → point ≤ (tip_of mib history).end → point ≤ r.start.0
past_point mib point history r stand within = let start = stand.start in omega (arith, within, start)

ends_later : (mib flushed : ℕ) (history : List Entry) (r : Record) (e : Entry) → StandsBehind mib history r → e.end ≡ r.end.0 → flushed ≤ (tip_of mib history).end → flushed ≤ (tip_of mib (history ++ (e ∷ []))).end
ends_later mib flushed history r e stand is within =
    let end : (tip_of mib (history ++ (e ∷ []))).end ≡ e.end = ap (λ (t : Tip). t.end) (tip_push mib history e) in
    let start = stand.start in
    let long = stand.long in
    omega (arith, within, start, long, end, is)

-- a mark
record IsMarked (s t : State) : Type 0 where
  marking : Marking
  worker : ℕ
  mib : s.mib ≡ t.mib
  relseg : s.relseg ≡ t.relseg
  history : s.history ++ (entry_at (mark_record s marking) (Mark marking) worker None ∷ []) ≡ t.history
  parts : s.parts ≡ t.parts
  reach : (q : ℕ) → q < 4 → (from : ℕ) → mark_names from marking ≡ true → from ≤ (s.parts q).point

of_last : (t : Entry → Bool) (es : List Entry) (e : Entry) → list_any t (es ++ (e ∷ [])) ≡ true → list_any t es ≡ false → t e ≡ true
of_last t es e so none = first_of (t e) false (second_of (list_any t es) (t e || false) (sym (list_any-append t es (e ∷ [])) ∙ so) none) refl
  where
    first_of : (a b : Bool) → (a || b) ≡ true → b ≡ false → a ≡ true
    first_of true b k no_b = refl
    first_of false b k no_b = absurd (true≢false (sym k ∙ no_b))

    second_of : (a b : Bool) → (a || b) ≡ true → a ≡ false → b ≡ true
    second_of true b k no_a = absurd (true≢false no_a)
    second_of false b k no_a = k

marked_core : (c : CoreWithStops) (t : State) → IsCore c → IsMachine t → IsMarked c.core t → IsCore (record { core = t; pasts = c.pasts; flushed = c.flushed })
marked_core c t is machine m =
    let s = c.core in
    let r = mark_record s m.marking in
    let e = entry_at r (Mark m.marking) m.worker None in
    let stand = stands s.mib s.history is.machine.run.store (Mark m.marking) r is.machine.segment.least refl in
    record {
      some = subst (λ (n : ℕ). 0 < n) m.relseg is.some;
      machine = machine;
      within = subst (λ (h : List Entry). c.flushed ≤ (tip_of t.mib h).end) m.history (subst (λ (n : ℕ). c.flushed ≤ (tip_of n (s.history ++ (e ∷ []))).end) m.mib (ends_later s.mib c.flushed s.history r e stand refl is.within));
      parts = λ q small.
          let part = s.parts q in
          let k = is.parts q small in
          let now = pushed q s.relseg c.flushed s.history (c.pasts q) part e part.frames part.dirty part.works k (past_flush s.mib c.flushed s.history r stand is.within) (past_point s.mib part.point s.history r stand (is.machine.parts q small).late) k.frames (others_wait q e part refl) in
          subst (λ (n : ℕ). KeptAt q n c.flushed t.history (c.pasts q) (t.parts q)) m.relseg
          (subst (λ (h : List Entry). KeptAt q s.relseg c.flushed h (c.pasts q) (t.parts q)) m.history
          (subst (λ (ps : ℕ → Part). KeptAt q s.relseg c.flushed (s.history ++ (e ∷ [])) (c.pasts q) (ps q)) m.parts now));
      redo = λ q small from some.
          let so : list_any (names from) (s.history ++ (e ∷ [])) ≡ true = ap (list_any (names from)) m.history ∙ some in
          subst (λ (ps : ℕ → Part). from ≤ (ps q).point) m.parts
          (by_test (list_any (names from) s.history) (λ before. is.redo q small from before) (λ new. m.reach q small from (of_last (names from) s.history e so new)));
    }

-- a command
names_none : (from : ℕ) (command : Op) → act_names from (act_of_op command) ≡ false
names_none from (op.Create fork) = refl
names_none from (op.Truncate rel count) = refl
names_none from (op.Change items) = refl
names_none from (op.Drop rel) = refl

accepted_core : (c : CoreWithStops) (worker : ℕ) (command : Op) → IsCore c → HasGoodPages (act_of_op command) → judged c.core command ≡ None → IsMachine (accepted c.core worker command (command_record c.core command)).0
    → IsCore (record { core = (accepted c.core worker command (command_record c.core command)).0; pasts = c.pasts; flushed = c.flushed })
accepted_core c worker command is good fine machine =
    let s = c.core in
    let k = part_of_op command in
    let part = s.parts k in
    let act = act_of_op command in
    let r = command_record s command in
    let seq : Option ℕ = Some (command_count worker s.history) in
    let e = entry_at r act worker seq in
    let tip = tip_of s.mib s.history in
    let why = first_none (judged_op (length s.history) part.frames command) (option_or (judged_total s command) (judged_room s command)) fine in
    let own = judged-own (length s.history) part.frames command why.0 in
    let g = is.machine.parts k (part_below command) in
    let same : r ≡ record_of s.mib is.machine.run.store tip act = ap (record_at_tip s.mib tip) (kinds_same k tip.redo is.machine.run.store part.frames act g.frames own) in
    let stand = stands s.mib s.history is.machine.run.store act r is.machine.segment.least same in
    let end = past_flush s.mib c.flushed s.history r stand is.within in
    let new = part_after r.end.0 act part in
    record {
      some = is.some;
      machine = machine;
      within = ends_later s.mib c.flushed s.history r e stand refl is.within;
      parts = λ q small.
          choose (λ (p : Part). KeptAt q s.relseg c.flushed (s.history ++ (e ∷ [])) (c.pasts q) p) (q == k) new (s.parts q)
          (λ mine.
          subst (λ (j : ℕ). KeptAt j s.relseg c.flushed (s.history ++ (e ∷ [])) (c.pasts j) new) (sym (eqb-true q k mine))
          (pushed k s.relseg c.flushed s.history (c.pasts k) part e new.frames new.dirty new.works (is.parts k (part_below command)) end (past_point s.mib part.point s.history r stand g.late)
          (after_act_whole r.end.0 part.frames act good (is.parts k (part_below command)).frames) (own_wait k part r worker (length s.history) seq command why.0)))
          (λ away.
          let other = s.parts q in
          let kept = is.parts q small in
          pushed q s.relseg c.flushed s.history (c.pasts q) other e other.frames other.dirty other.works kept end (past_point s.mib other.point s.history r stand (is.machine.parts q small).late) kept.frames
          (others_wait q e other (own q (λ j. true≢false (sym (eq-eqb q k j) ∙ away)))));
      redo = λ q small from some.
          by_test (list_any (names from) s.history)
          (λ before.
          choose (λ (p : Part). from ≤ p.point) (q == k) new (s.parts q)
          (λ mine. subst (λ (j : ℕ). from ≤ (s.parts j).point) (eqb-true q k mine) (is.redo q small from before))
          (λ away. is.redo q small from before))
          (λ none. absurd (true≢false (sym (of_last (names from) s.history e some none) ∙ names_none from command)));
    }

-- ---- steps that write a partition

-- one partition is another, and its area with it
part_core : (c : CoreWithStops) (k : ℕ) (new : Part) (past : List Event) → IsCore c → (c.core.parts k).point ≤ new.point → (s : State) → IsMachine s → s.mib ≡ c.core.mib → s.relseg ≡ c.core.relseg → s.history ≡ c.core.history
    → ((q : ℕ) → s.parts q ≡ cond (q == k) new (c.core.parts q)) → KeptAt k c.core.relseg c.flushed c.core.history past new
    → IsCore (record { core = s; pasts = with_past c.pasts k past; flushed = c.flushed })
part_core c k new past is rise s machine mib relseg history parts now = record {
  some = subst (λ (n : ℕ). 0 < n) (sym relseg) is.some;
  machine = machine;
  within = subst (λ (h : List Entry). c.flushed ≤ (tip_of s.mib h).end) (sym history) (subst (λ (m : ℕ). c.flushed ≤ (tip_of m c.core.history).end) (sym mib) is.within);
  parts = λ q small.
      subst (λ (n : ℕ). KeptAt q n c.flushed s.history (with_past c.pasts k past q) (s.parts q)) (sym relseg)
      (subst (λ (h : List Entry). KeptAt q c.core.relseg c.flushed h (with_past c.pasts k past q) (s.parts q)) (sym history)
      (subst (λ (p : Part). KeptAt q c.core.relseg c.flushed c.core.history (with_past c.pasts k past q) p) (sym (parts q))
      (either q small (q == k) refl)));
  redo = λ q small from some.
      let before = is.redo q small from (ap (list_any (names from)) (sym history) ∙ some) in
      subst (λ (p : Part). from ≤ p.point) (sym (parts q))
      (choose (λ (p : Part). from ≤ p.point) (q == k) new (c.core.parts q) (λ mine. further from (subst (λ (j : ℕ). from ≤ (c.core.parts j).point) (eqb-true q k mine) before)) (λ away. before));
}
  where
    further : (from : ℕ) → from ≤ (c.core.parts k).point → from ≤ new.point
    further from l = omega (arith, l, rise)

    either : (q : ℕ) → q < 4 → (b : Bool) → (q == k) ≡ b → KeptAt q c.core.relseg c.flushed c.core.history (cond b past (c.pasts q)) (cond b new (c.core.parts q))
    either q small true mine = subst (λ (j : ℕ). KeptAt j c.core.relseg c.flushed c.core.history past new) (sym (eqb-true q k mine)) now
    either q small false away = is.parts q small

part_moments : (c : CoreWithStops) (k : ℕ) (past : List Event) → IsCore c → Moments k c.core.relseg c.flushed c.core.history (c.core.parts k).point (c.pasts k) past
    → (q : ℕ) → q < 4 → Moments q c.core.relseg c.flushed c.core.history (c.core.parts q).point (c.pasts q) (with_past c.pasts k past q)
part_moments c k past is moments q small = either (q == k) refl
  where
    either : (b : Bool) → (q == k) ≡ b → Moments q c.core.relseg c.flushed c.core.history (c.core.parts q).point (c.pasts q) (cond b past (c.pasts q))
    either true mine = subst (λ (j : ℕ). Moments j c.core.relseg c.flushed c.core.history (c.core.parts j).point (c.pasts j) past) (sym (eqb-true q k mine)) moments
    either false away = quiet_moments q c.core.relseg c.flushed c.core.history (c.pasts q) (c.core.parts q) (is.parts q small)

writes_of : (c : CoreWithStops) (x : FlushedStep) (k : ℕ) (is : IsCore c) → c.flushed ≡ x.flushed → k < 4 → WritesPart c x k
    → IsWritten k c.core.relseg c.core.mib c.flushed c.core.history is.machine.run.store (c.pasts k) (c.core.parts k) (past_after (c.pasts k) x.writes) (after_writes (c.core.parts k) x.writes)
writes_of c x k is same small fits =
    writes_keep k c.core.relseg c.core.mib c.flushed c.core.history is.machine.run.store is.some (c.pasts k) (c.core.parts k) x.writes (makes c.core is.machine (c.core.parts k).point) (is.machine.parts k small) (is.parts k small)
    (subst (λ (n : ℕ). AreWrites c.core.relseg n (since (c.core.parts k).point c.core.history) (c.core.parts k) x.writes) (sym same) fits)

written_parts : (s : State) (k : ℕ) (o : Option Turn) (q : ℕ) → (written s k o).0.parts q ≡ cond (q == k) (part_behind (s.parts k) o) (s.parts q)
written_parts s k None q = either (q == k) refl
  where
    either : (b : Bool) → (q == k) ≡ b → s.parts q ≡ cond b (s.parts k) (s.parts q)
    either true mine = ap s.parts (eqb-true q k mine)
    either false away = refl
written_parts s k (Some turn) q = refl

one_write : (part : Part) (writes : List (List Event)) → length writes ≡ 1 → after_writes part writes ≡ after_write part
one_write part [] long = absurd (omega (arith, long))
one_write part (events ∷ []) long = refl
one_write part (events ∷ (more ∷ writes)) long = absurd (omega (arith, long))

write_core : (c : CoreWithStops) (x : FlushedStep) (k : ℕ) (is : IsCore c) → c.flushed ≡ x.flushed → k < 4 → WritesPart c x k → length x.writes ≡ 1 → (o : Option Turn) → next_write (c.core.parts k) (c.core.parts k).works (c.core.parts k).dirty ≡ o → IsMachine (written c.core k o).0
    → IsCore (record { core = (written c.core k o).0; pasts = with_past c.pasts k (past_after (c.pasts k) x.writes); flushed = c.flushed })
write_core c x k is same small fits one o found machine =
    let w = writes_of c x k is same small fits in
    let turn : after_writes (c.core.parts k) x.writes ≡ part_behind (c.core.parts k) o = one_write (c.core.parts k) x.writes one ∙ ap (part_behind (c.core.parts k)) found in
    let point : (part_behind (c.core.parts k) o).point ≡ (c.core.parts k).point = ap (λ (p : Part). p.point) (sym turn) ∙ w.point in
    part_core c k (part_behind (c.core.parts k) o) (past_after (c.pasts k) x.writes) is (omega (arith, point)) (written c.core k o).0 machine (mib o) (relseg o) (history o) (written_parts c.core k o)
    (subst (λ (p : Part). KeptAt k c.core.relseg c.flushed c.core.history (past_after (c.pasts k) x.writes) p) turn w.kept)
  where
    mib : (o : Option Turn) → (written c.core k o).0.mib ≡ c.core.mib
    mib None = refl
    mib (Some turn) = refl

    relseg : (o : Option Turn) → (written c.core k o).0.relseg ≡ c.core.relseg
    relseg None = refl
    relseg (Some turn) = refl

    history : (o : Option Turn) → (written c.core k o).0.history ≡ c.core.history
    history None = refl
    history (Some turn) = refl

-- ---- cleans

cleaned_alike : (redo : ℕ) (a b : Part) → a.frames ≡ b.frames → a.point ≡ b.point → cleaned redo a ≡ cleaned redo b
cleaned_alike redo a b frames point =
    ap (λ (f : Store). (let p : Part = record { frames = f; disk = f; dirty = []; works = []; point = max a.point redo } in p)) frames
    ∙ ap (λ (n : ℕ). (let p : Part = record { frames = b.frames; disk = b.frames; dirty = []; works = []; point = max n redo } in p)) point

record IsCleanKept (c : CoreWithStops) (x : FlushedStep) (k : ℕ) : Type 0 where
  moments : Moments k c.core.relseg c.flushed c.core.history (c.core.parts k).point (c.pasts k) (synced (Some x.files) ∷ past_after (c.pasts k) x.writes)
  kept : KeptAt k c.core.relseg c.flushed c.core.history (synced (Some x.files) ∷ past_after (c.pasts k) x.writes) (cleaned (end_of_wal c.core).redo (c.core.parts k))

clean_kept : (c : CoreWithStops) (x : FlushedStep) (k : ℕ) (is : IsCore c) → c.flushed ≡ x.flushed → k < 4 → CleansPart c x k → IsCleanKept c x k
clean_kept c x k is same small fits =
    let part = c.core.parts k in
    let history = c.core.history in
    let redo = (end_of_wal c.core).redo in
    let past = past_after (c.pasts k) x.writes in
    let now = after_writes part x.writes in
    let w = writes_of c x k is same small fits.writes in
    let tidy = makes c.core is.machine (max now.point redo) in
    let holds = subst (λ (s : Store). Holds c.core.relseg x.files s) (sym w.frames) fits.holds in
    let sync = subst (λ (n : ℕ). Moments k c.core.relseg c.flushed history n past (synced (Some x.files) ∷ past)) w.point
    (sync_moments k c.core.relseg c.core.mib c.flushed redo history is.machine.run.store is.some past now x.files tidy w.follows w.kept fits.clean holds) in
    record {
      moments = λ store defined.
          in_turn (IsLeftOf c.core.relseg (base_of (is_of k) store (since part.point (knowns part.point c.flushed history)))) IsAny IsAny (Some (c.pasts k)) (Some past) (Some (synced (Some x.files) ∷ past))
          (adds_writes (c.pasts k) x.writes) (record { events = synced (Some x.files) ∷ []; each = (tt, tt); past = refl }) (w.moments store defined) (sync store defined);
      kept = subst (λ (p : Part). KeptAt k c.core.relseg c.flushed history (synced (Some x.files) ∷ past) p) (cleaned_alike redo now part w.frames w.point)
          (clean_keeps k c.core.relseg c.core.mib c.flushed redo history is.machine.run.store is.some past now x.files tidy w.follows w.kept fits.clean holds);
    }

-- ---- all steps

-- what a step that writes no partition and does no command does to the machine
abbrev Moves : State → State → Type 0
Moves s t = IsQuiet s t ⊎ IsMarked s t

still : (s : State) → Moves s s
still s = inl (record { mib = refl; relseg = refl; history = refl; parts = refl })

moves_core : (c : CoreWithStops) (t : State) → IsCore c → IsMachine t → Moves c.core t → IsCore (record { core = t; pasts = c.pasts; flushed = c.flushed })
moves_core c t is machine moves = ⊎_elim (λ same. quiet_core c t is machine same) (λ m. marked_core c t is machine m) moves

in_room : (s : State) (marking : Marking) (done : State × Reply) → Moves s done.0 → Moves s (where_room s marking done).0
in_room s marking done moves = choose (λ (z : State × Reply). Moves s z.0) (is_past_room s (mark_record s marking)) (s, _) done (λ full. still s) (λ room. moves)

started_moves : (s : State) (number : ℕ) (w : Worker) → Moves s (started s number w).0
started_moves s number w =
    choose (λ (z : State × Reply). Moves s z.0) (is_some w.redo || is_some w.backup) (idle s) _ (λ busy. still s)
    (λ free. in_room s (RedoMark 1) _ (inr (record { marking = RedoMark 1; worker = number; mib = refl; relseg = refl; history = refl; parts = refl; reach = λ q small from so. absurd (true≢false (sym so)) })))

points_reach : (s : State) (redo : ℕ) → is_behind s redo ≡ false → (q : ℕ) → q < 4 → redo ≤ (s.parts q).point
points_reach s redo none q l = go none
  where
    each : (t : ℕ → Bool) → list_any t part_numbers ≡ false → (q : ℕ) → q < 4 → t q ≡ false
    each t all zero l = (or_parts (t 0) _ all).0
    each t all (suc zero) l = (or_parts (t 1) _ (or_parts (t 0) _ all).1).0
    each t all (suc (suc zero)) l = (or_parts (t 2) _ (or_parts (t 1) _ (or_parts (t 0) _ all).1).1).0
    each t all (suc (suc (suc zero))) l = (or_parts (t 3) _ (or_parts (t 2) _ (or_parts (t 1) _ (or_parts (t 0) _ all).1).1).1).0
    each t all (suc (suc (suc (suc q)))) l = absurd (omega (arith, l))

    go : is_behind s redo ≡ false → redo ≤ (s.parts q).point
    go e = ltb-false (s.parts q).point redo (each (λ p. nat_lt (s.parts p).point redo) e q l)

completed_moves : (s : State) (number : ℕ) (what : Asked) (o : Option ℕ) → Moves s (completed s number what o).0
completed_moves s number what None = still s
completed_moves s number what (Some redo) =
    choose (λ (z : State × Reply). Moves s z.0) (is_behind s redo || not (may_begin s.finished redo what)) (idle s) _ (λ behind. still s)
    (λ free. in_room s (Online redo) _ (inr (record {
      marking = Online redo;
      worker = number;
      mib = refl;
      relseg = refl;
      history = refl;
      parts = refl;
      reach = λ q small from so.
          subst (λ (n : ℕ). n ≤ (s.parts q).point) (eqb-true redo from so) (points_reach s redo (or_parts (is_behind s redo) (not (may_begin s.finished redo what)) free).0 q small);
    })))

published_moves : (s : State) (o : Option ℕ) → Moves s (published s o).0
published_moves s None = still s
published_moves s (Some end) = inl (record { mib = refl; relseg = refl; history = refl; parts = refl })

listed_moves : (s : State) (number q : ℕ) (o : Option Backup) → Moves s (listed s number q o).0
listed_moves s number q None = still s
listed_moves s number q (Some b) =
    choose (λ (z : State × Reply). Moves s z.0) (is_listed b q) (idle s) _ (λ so. still s) (λ new. inl (record { mib = refl; relseg = refl; history = refl; parts = refl }))

copied_moves : (s : State) (number : ℕ) (at : BlockId) (o : Option Backup) → Moves s (copied s number at o).0
copied_moves s number at None = still s
copied_moves s number at (Some b) =
    choose (λ (z : State × Reply). Moves s z.0) (not (is_listed b (partition_of at.fork.rel)) || (not (is_within b at) || (is_named at b.copied || not (is_summed s b && sends s.relseg s.published b b.prior at)))) (idle s) _
    (λ so. still s) (λ new. inl (record { mib = refl; relseg = refl; history = refl; parts = refl }))

ended_moves : (s : State) (number : ℕ) (o : Option Backup) → Moves s (ended s number o).0
ended_moves s number None = still s
ended_moves s number (Some b) =
    choose (λ (z : State × Reply). Moves s z.0) (not (is_summed s b && is_complete s.relseg s.published b)) (idle s) _ (λ open_yet. still s)
    (λ whole. in_room s (BackupEnd b.start) _ (inr (record { marking = BackupEnd b.start; worker = number; mib = refl; relseg = refl; history = refl; parts = refl; reach = λ q small from so. absurd (true≢false (sym so)) })))

part_moves : (s : State) (q : ℕ) (done : State × Reply) → Moves s done.0 → Moves s (where_part s q done).0
part_moves s q done moves = choose (λ (z : State × Reply). Moves s z.0) (nat_le 4 q) (idle s) done (λ out. still s) (λ inside. moves)

-- a step of a partition that isn't there
module _ (c : CoreWithStops) (k : ℕ) (past : List Event) (is : IsCore c) (out : 4 ≤ k) where
  apart : (q : ℕ) → q < 4 → (q == k) ≡ true → ⊥
  apart q small same = let e = eqb-true q k same in omega (arith, small, out, e)

  out_core : IsCore (record { core = c.core; pasts = with_past c.pasts k past; flushed = c.flushed })
  out_core = record {
    some = is.some;
    machine = is.machine;
    within = is.within;
    parts = λ q small. either q small (q == k) refl;
    redo = is.redo;
  }
    where
      either : (q : ℕ) → q < 4 → (b : Bool) → (q == k) ≡ b → KeptAt q c.core.relseg c.flushed c.core.history (cond b past (c.pasts q)) (c.core.parts q)
      either q small true same = absurd (apart q small same)
      either q small false other = is.parts q small

  out_moments : (q : ℕ) → q < 4 → Moments q c.core.relseg c.flushed c.core.history (c.core.parts q).point (c.pasts q) (with_past c.pasts k past q)
  out_moments q small = either (q == k) refl
    where
      either : (b : Bool) → (q == k) ≡ b → Moments q c.core.relseg c.flushed c.core.history (c.core.parts q).point (c.pasts q) (cond b past (c.pasts q))
      either true same = absurd (apart q small same)
      either false other = quiet_moments q c.core.relseg c.flushed c.core.history (c.pasts q) (c.core.parts q) (is.parts q small)

record IsTaken (c : CoreWithStops) (x : FlushedStep) (st : Step) : Type 0 where
  core : IsCore (record { core = (step_of c.core st).0; pasts = pasts_after c.pasts x st; flushed = c.flushed })
  moments : (q : ℕ) → q < 4 → Moments q c.core.relseg c.flushed c.core.history (c.core.parts q).point (c.pasts q) (pasts_after c.pasts x st q)

inside : (k : ℕ) → nat_le 4 k ≡ false → k < 4
inside k is = let l = leb-false 4 k is in omega (arith, l)

module _ (c : CoreWithStops) (x : FlushedStep) (is : IsCore c) (same : c.flushed ≡ x.flushed) where
  no_events : (q : ℕ) → q < 4 → Moments q c.core.relseg c.flushed c.core.history (c.core.parts q).point (c.pasts q) (c.pasts q)
  no_events q small = quiet_moments q c.core.relseg c.flushed c.core.history (c.pasts q) (c.core.parts q) (is.parts q small)

  inserts : (worker : ℕ) (command : Op) (o : Option Refusal) → HasGoodPages (act_of_op command) → judged c.core command ≡ o → IsMachine (inserted c.core worker command o).0
      → IsCore (record { core = (inserted c.core worker command o).0; pasts = c.pasts; flushed = c.flushed })
  inserts worker command (Some why) good is_judged machine = is
  inserts worker command None good is_judged machine = accepted_core c worker command is good is_judged machine

  taken : (st : Step) → PutsPages st → FitsStep c x st → IsTaken c x st
  taken (Insert worker command) puts fits = record {
    core = inserts worker command (judged c.core command) puts refl (step_keeps c.core (Insert worker command) puts is.machine);
    moments = no_events;
  }
  taken (WritePage k) puts fits =
      let part = c.core.parts k in
      let turn = next_write part part.works part.dirty in
      let past = past_after (c.pasts k) x.writes in
      let machine = step_keeps c.core (WritePage k) puts is.machine in
      record {
        core = choose (λ (z : State × Reply). IsCore (record { core = z.0; pasts = with_past c.pasts k past; flushed = c.flushed })) (nat_le 4 k) (idle c.core) (written c.core k turn)
            (λ out. out_core c k past is (leb-true 4 k out))
            (λ here. write_core c x k is same (inside k here) fits.0 fits.1 turn refl (subst (λ (b : Bool). IsMachine (cond b (idle c.core) (written c.core k turn)).0) here machine));
        moments = by_test (nat_le 4 k)
            (λ out. out_moments c k past is (leb-true 4 k out))
            (λ here. part_moments c k past is (writes_of c x k is same (inside k here) fits.0).moments);
      }
  taken (Clean k) puts fits =
      let part = c.core.parts k in
      let past = synced (Some x.files) ∷ past_after (c.pasts k) x.writes in
      let new = cleaned (end_of_wal c.core).redo part in
      let done : State × Reply = (with_part c.core k new, reply.Cleaned (record { 0 = (end_of_wal c.core).redo })) in
      let machine = step_keeps c.core (Clean k) puts is.machine in
      record {
        core = choose (λ (z : State × Reply). IsCore (record { core = z.0; pasts = with_past c.pasts k past; flushed = c.flushed })) (nat_le 4 k) (idle c.core) done
            (λ out. out_core c k past is (leb-true 4 k out))
            (λ here.
            part_core c k new past is (omega arith) (with_part c.core k new) (subst (λ (b : Bool). IsMachine (cond b (idle c.core) done).0) here machine) refl refl refl (λ q. refl)
            (clean_kept c x k is same (inside k here) fits).kept);
        moments = by_test (nat_le 4 k)
            (λ out. out_moments c k past is (leb-true 4 k out))
            (λ here. part_moments c k past is (clean_kept c x k is same (inside k here) fits).moments);
      }
  taken (Redo worker) puts fits = record {
    core = moves_core c (step_of c.core (Redo worker)).0 is (step_keeps c.core (Redo worker) puts is.machine) (started_moves c.core worker (c.core.workers worker));
    moments = no_events;
  }
  taken (Begin worker what) puts fits = record {
    core = moves_core c (step_of c.core (Begin worker what)).0 is (step_keeps c.core (Begin worker what) puts is.machine) (completed_moves c.core worker what (c.core.workers worker).redo);
    moments = no_events;
  }
  taken Publish puts fits = record {
    core = moves_core c (step_of c.core Publish).0 is (step_keeps c.core Publish puts is.machine) (published_moves c.core (next_redo (summaries_end c.core) c.core.history));
    moments = no_events;
  }
  taken (ListForks worker q) puts fits = record {
    core = moves_core c (step_of c.core (ListForks worker q)).0 is (step_keeps c.core (ListForks worker q) puts is.machine)
        (part_moves c.core q (listed c.core worker q (c.core.workers worker).backup) (listed_moves c.core worker q (c.core.workers worker).backup));
    moments = no_events;
  }
  taken (CopyBlock worker at) puts fits = record {
    core = moves_core c (step_of c.core (CopyBlock worker at)).0 is (step_keeps c.core (CopyBlock worker at) puts is.machine) (copied_moves c.core worker at (c.core.workers worker).backup);
    moments = no_events;
  }
  taken (End worker) puts fits = record {
    core = moves_core c (step_of c.core (End worker)).0 is (step_keeps c.core (End worker) puts is.machine) (ended_moves c.core worker (c.core.workers worker).backup);
    moments = no_events;
  }

-- what a step asks of the machine behind its flush
still_fits : (c : CoreWithStops) (x : FlushedStep) (st : Step) → FitsStep c x st → FitsStep (with_flush c x.flushed) x st
still_fits c x (Insert worker command) fits = tt
still_fits c x (WritePage q) fits = fits
still_fits c x (Clean q) fits = record { writes = fits.writes; clean = fits.clean; holds = fits.holds }
still_fits c x (Redo worker) fits = tt
still_fits c x (Begin worker what) fits = tt
still_fits c x Publish fits = tt
still_fits c x (ListForks worker q) fits = tt
still_fits c x (CopyBlock worker at) fits = tt
still_fits c x (End worker) fits = tt

-- a step with its flush
pub take : (c : CoreWithStops) (x : FlushedStep) → IsCore c → MayTake c x → IsStepKept (with_flush c x.flushed) x
take c x is may =
    let flushed = flush_core c x.flushed is may.rises may.within in
    let t = taken (with_flush c x.flushed) x flushed refl x.step may.puts (still_fits c x x.step may.fits) in
    record { core = t.core; moments = t.moments }

pub take_all : (c : CoreWithStops) (steps : List FlushedStep) → IsCore c → MayTakeAll c steps → IsCore (after_steps c steps)
take_all c [] is may = is
take_all c (x ∷ steps) is may = take_all (after_step c x) steps (take c x is may.0).core may.1

-- ---- a new store

abbrev nothing : Store
nothing = empty

no_fork : (fork : ForkId) (pages : ForkPages) → get nothing fork ≡ Some pages → ⊥
no_fork fork pages e = absurd (let none : ◌≡◌ {A = Option ForkPages} None (Some pages) = sym (get-empty fork_cmp fork) ∙ e in cc)

module _ (mib relseg q : ℕ) (some : 0 < relseg) where
  abbrev e : Entry
  e = entry_of (first_record mib)

  abbrev from : ℕ
  from = (first_record mib).end.0

  pages_none : HasWholePages nothing
  pages_none fork pages is = absurd (no_fork fork pages is)

  defined : state_before (knowns from from (e ∷ [])) from ≡ Some nothing
  defined = ap (apply_all empty) (before_known from from (e ∷ [])) ∙ either (nat_lt e.start from)
    where
      either : (b : Bool) → apply_all empty (cond b (e ∷ []) []) ≡ Some nothing
      either true = refl
      either false = refl

  none_later : laters from from (e ∷ []) ≡ []
  none_later = (known_first from from e [] (or_right (nat_lt e.start from) (nat_le e.end from) (le-leb e.end from (omega arith)))).1

  stays : HasWhatStays (base_of (is_of q) nothing (since from (knowns from from (e ∷ [])))) nothing
  stays = record { pages = λ fork block page stays. stays.there; missing = λ fork block stays. stays.none; forks = λ fork mine unsettled. refl }

  first_kept : KeptAt q relseg from (e ∷ []) (synced (Some empty) ∷ []) (empty_part from)
  first_kept = record {
    store = nothing;
    defined = defined;
    late = late from from (e ∷ []);
    ends = ends from from (e ∷ []);
    left = λ c left. subst (IsLeftOf relseg (base_of (is_of q) nothing (since from (knowns from from (e ∷ []))))) (sym left.2.1)
        (held_left relseg (base_of (is_of q) nothing (since from (knowns from from (e ∷ [])))) nothing empty some (nothing_is_held relseg empty (λ path fork. get-empty (slice_cmp nat_cmp) path)) pages_none stays);
    pages = λ fork block page stays. (stays.there, page_size nothing fork block page pages_none stays.there);
    waits = λ front rest split so. absurd (true≢false (sym so ∙ ap (list_any (concerns q)) (second_empty front rest (split ∙ none_later))));
    lost = none_filtered (is_lost q from from) (is_known from from) (e ∷ []) refl;
    frames = pages_none;
    disk = pages_none;
  }

pub first_is : (mib relseg : ℕ) → IsSegmentMib mib → 0 < relseg → IsCore (first_core mib relseg)
first_is mib relseg segment some = record {
  some = some;
  machine = machine_first mib relseg segment;
  within = omega arith;
  parts = λ q small. first_kept mib relseg q some;
  redo = λ q small from so. named from (first_of (start_after mib (segment_bytes mib) == from) false so refl);
}
  where
    first_of : (a b : Bool) → (a || b) ≡ true → b ≡ false → a ≡ true
    first_of true b k no_b = refl
    first_of false b k no_b = absurd (true≢false (sym k ∙ no_b))

    named : (from : ℕ) → (start_after mib (segment_bytes mib) == from) ≡ true → from ≤ (first_record mib).end.0
    named from so =
        let is = eqb-true (start_after mib (segment_bytes mib)) from so in
        let start : (first_record mib).start.0 ≡ start_after mib (segment_bytes mib) = refl in
        let long : (first_record mib).start.0 < (first_record mib).end.0 = (machine_first mib relseg segment).run.orderly.1 in
        omega (arith, is, start, long)
