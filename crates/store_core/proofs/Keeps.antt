-- Each step keeps what the machine keeps.
use Rattle.std.proofs.Common.{◌≡◌, ℕ, zero, suc, ◌≤◌, ◌<◌, Bool, true, false, cond, ◌&&◌, ◌||◌, List, [], ◌∷◌, ◌++◌, map, length, Option, Some, None, IfSome, is_some, option_map, refl, ap, sym, subst, ◌∙◌, arith, true≢false, eqb-true}
use Rattle.std.specs.Prelude.{◌==◌, nat_le, nat_lt, not, slice_get}
use Rattle.std.specs.List.{All, list_any}
use Rattle.std.specs.Option.{option_or}
use Rattle.std.proofs.lemmas.Bool.{and_parts, eq-eqb, or_parts, or_right, ltb-false, leb-true, leb-false}
use Rattle.std.proofs.lemmas.List.Elements.{All-nil, All-push}
use Rattle.std.proofs.lemmas.List.Folds.{list_any-append}
use Rattle.lsn_core.specs.Segment.{IsSegmentMib}
use Rattle.lsn_core.specs.declared.ids.ForkId.{ForkId}
use Rattle.lsn_core.specs.declared.ids.BlockId.{BlockId}
use Rattle.lsn_core.specs.Store.{Store}
use Rattle.wal_record.specs.declared.record.Record.{Record}
use Rattle.wal_record.specs.declared.record.Kind.TheVariants as kind
use Rattle.wal_record.specs.declared.record.BlockRef.{BlockRef}
use Rattle.wal_record.specs.Tips.{wal_limit, record_at_tip}
use Rattle.history.specs.declared.op.Op.{Op}
use Rattle.history.specs.declared.op.Item.{Item}
use Rattle.history.specs.Entry.{Act, Create, Truncate, Change, Drop, Mark, Marking, RedoMark, Online, BackupEnd, Entry, is_of_run}
use Rattle.history.specs.Laws.{HasGoodPages}
use Rattle.history.specs.Op.{act_of_op}
use Rattle.history.specs.Whole.{is_named}
use Rattle.history.specs.Written.{block_over, block_of_item, kind_of, record_of, is_redo, tip_of}
use Rattle.history.proofs.Pushes.{all_first, all_rest, all_weaker}
use Rattle.history.proofs.WrittenLaws.{commands_done}
use Rattle.history.specs.partitions.Parts.{partition_of, IsPart, ConcernsNoOther}
use Rattle.history.proofs.partitions.Puts.{page_at_own}
use Rattle.history.proofs.partitions.OwnActs.{OfNoOther, first_own, others_own, own_done, own_tidy}
use Rattle.history.specs.fuzzy_copies.Orderly.{IsOrderly, AreOwnFrom}
use Rattle.history.specs.fuzzy_copies.Sound.{IsSoundCopy}
use Rattle.history.specs.fuzzy_copies.Summary.{summary_of}
use Rattle.history.specs.fuzzy_copies.Increment.{ForkOrigin}
use Rattle.history.specs.fuzzy_copies.Taken.{IsRunning}
use Rattle.history.proofs.fuzzy_copies.Longer.{sound_later}
use Rattle.history.proofs.fuzzy_copies.Taken.{taken_sound}
use Rattle.store_core.specs.declared.step.Asked.{Asked}
use Rattle.store_core.specs.declared.step.Asked.TheVariants as asked
use Rattle.store_core.specs.declared.step.Step.{Step}
use Rattle.store_core.specs.declared.step.Step.TheVariants as step
use Rattle.store_core.specs.declared.reply.Refusal.{Refusal}
use Rattle.store_core.specs.declared.reply.Refusal.TheVariants.{WalFull}
use Rattle.store_core.specs.declared.reply.Reply.{Reply}
use Rattle.store_core.specs.Increments.{next_redo, copy_over}
use Rattle.store_core.specs.State.{Part, Published, Prior, Backup, Worker, Increment, Finished, State, part_numbers, first_record, first_state, idle_worker, end_of_wal, with_part, with_worker, with_published, with_finished}
use Rattle.store_core.specs.Parts.{part_after, next_write, cleaned}
use Rattle.store_core.specs.Refusals.{judged_op, judged_total, judged_room, judged, part_of_op, command_record, is_past_room}
use Rattle.store_core.specs.Steps.{idle, entry_at, command_count, accepted, inserted, mark_record, with_mark, where_room, written, started, new_backup, prior_of, begun, is_ended_by, may_begin, is_behind, completed, summaries_end, next_summary, published, is_listed, with_listing, listed, is_within, with_copied, disk_block, table_for, sends, is_summed, copied, is_complete, finished_copy, finished_of, ended, where_part, step_of, behind_steps}
use Rattle.store_core.specs.Laws.{PutsPages}
use Rattle.store_core.proofs.Judged.{first_none, no_refusal, judged-tidy, judged-fit, judged-fresh, judged-own, part_below}
use Rattle.store_core.proofs.Planned.{not_false}
use Rattle.store_core.proofs.Publishing.{HasPublished, redo_starts, start_before, published_push, published_more, together}
use Rattle.store_core.proofs.Extending.{fork_on, fork_ends}
use Rattle.store_core.proofs.Runs.{IsRun, ComesNext, stands, run_first, run_push}
use Rattle.store_core.proofs.Follows.{Follows, follows_first, follows_others, follows_own, follows_write, follows_clean}
use Rattle.store_core.proofs.Copies.{IsRedoOf, IsPrior, IsBackup, over_some, redo_push, backup_push, backup_moved, backup_begins, backup_lists, backup_copies, backup_taken}

-- ---- what is kept

pub record IsWorker (mib : ℕ) (history : List Entry) (parts : ℕ → Part) (w : Worker) : Type 0 where
  pub redo : IfSome w.redo (IsRedoOf mib history)
  pub backup : IfSome w.backup (IsBackup mib history parts)

-- a finished backup: a full one is a sound copy; of an incremental one, over each copy, each block
-- has its origin
abbrev pub IsFinishedBy : List Entry → Finished → Option Increment → Type 0
IsFinishedBy history b None = IsSoundCopy b.copy history b.start b.end
IsFinishedBy history b (Some i) = (prior : Store) (fork : ForkId) → ForkOrigin (copy_over i.sent b.copy prior) prior history i.prior b.start b.end fork

pub record IsFinished (mib : ℕ) (history : List Entry) (b : Finished) : Type 0 where
  pub start : IsRedoOf mib history b.start
  pub above : b.start < b.end
  pub made : IsFinishedBy history b b.increment

pub record IsMachine (s : State) : Type 0 where
  pub segment : IsSegmentMib s.mib
  pub run : IsRun s.mib s.history
  pub parts : (q : ℕ) → q < 4 → Follows q s.mib s.history run.store (s.parts q)
  pub published : HasPublished s.history (first_record s.mib).start.0 s.published
  pub workers : (w : ℕ) → IsWorker s.mib s.history s.parts (s.workers w)
  pub finished : All (IsFinished s.mib s.history) s.finished

worker_push : (mib : ℕ) (history : List Entry) (parts : ℕ → Part) (w : Worker) (e : Entry) → IsWorker mib history parts w → IsWorker mib (history ++ (e ∷ [])) parts w
worker_push mib history parts w e is = record {
  redo = over_some (IsRedoOf mib history) (IsRedoOf mib (history ++ (e ∷ []))) w.redo (λ from r. redo_push mib history from e r) is.redo;
  backup = over_some (IsBackup mib history parts) (IsBackup mib (history ++ (e ∷ [])) parts) w.backup (λ b k. backup_push mib history parts b e k) is.backup;
}

worker_moved : (mib : ℕ) (history : List Entry) (old new : ℕ → Part) (w : Worker) → ((q : ℕ) → (old q).point ≤ (new q).point) → IsWorker mib history old w → IsWorker mib history new w
worker_moved mib history old new w rise is = record {
  redo = is.redo;
  backup = over_some (IsBackup mib history old) (IsBackup mib history new) w.backup (λ b k. backup_moved mib history old new b rise k) is.backup;
}

made_push : (history : List Entry) (e : Entry) (b : Finished) (o : Option Increment) → IsOrderly 0 (history ++ (e ∷ [])) → b.start ≤ e.start → IsFinishedBy history b o → IsFinishedBy (history ++ (e ∷ [])) b o
made_push history e b None orderly late sound = sound_later b.copy history (e ∷ []) b.start b.end orderly sound
made_push history e b (Some i) orderly late origins = λ prior fork. fork_on (copy_over i.sent b.copy prior) prior history i.prior b.start b.end fork e late (origins prior fork)

all_finished : (mib : ℕ) (history : List Entry) (e : Entry) (finished : List Finished) → IsOrderly 0 (history ++ (e ∷ [])) → All (IsFinished mib history) finished → All (IsFinished mib (history ++ (e ∷ []))) finished
all_finished mib history e finished orderly all = all_weaker (IsFinished mib history) (IsFinished mib (history ++ (e ∷ []))) finished (λ b is.
    record {
      start = redo_push mib history b.start e is.start;
      above = is.above;
      made = made_push history e b b.increment orderly (start_before b.start 0 history e orderly (redo_starts b.start history is.start.redo)) is.made;
    }) all

-- one of two
pub choose : {X : Type 0} (P : X → Type 0) (t : Bool) (x y : X) → (t ≡ true → P x) → (t ≡ false → P y) → P (cond t x y)
choose P true x y first other = first refl
choose P false x y first other = other refl

-- ---- the pieces of a step

machine_part : (s : State) (q : ℕ) (part : Part) → (is : IsMachine s) → Follows q s.mib s.history is.run.store part → (s.parts q).point ≤ part.point → IsMachine (with_part s q part)
machine_part s q part is follows rise = record {
  segment = is.segment;
  run = is.run;
  parts = λ p l. choose (Follows p s.mib s.history is.run.store) (p == q) part (s.parts p) (λ here. subst (λ k. Follows k s.mib s.history is.run.store part) (sym (eqb-true p q here)) follows) (λ away. is.parts p l);
  published = is.published;
  workers = λ w. worker_moved s.mib s.history s.parts (with_part s q part).parts (s.workers w)
      (λ p. choose (λ (x : Part). (s.parts p).point ≤ x.point) (p == q) part (s.parts p) (λ here. subst (λ k. (s.parts k).point ≤ part.point) (sym (eqb-true p q here)) rise) (λ away. omega arith)) (is.workers w);
  finished = is.finished;
}

machine_worker : (s : State) (number : ℕ) (w : Worker) → IsMachine s → IsWorker s.mib s.history s.parts w → IsMachine (with_worker s number w)
machine_worker s number w is new = record {
  segment = is.segment;
  run = is.run;
  parts = is.parts;
  published = is.published;
  workers = λ other. choose (IsWorker s.mib s.history s.parts) (other == number) w (s.workers other) (λ here. new) (λ away. is.workers other);
  finished = is.finished;
}

machine_finished : (s : State) (b : Finished) → IsMachine s → IsFinished s.mib s.history b → IsMachine (with_finished s b)
machine_finished s b is new = record {
  segment = is.segment;
  run = is.run;
  parts = is.parts;
  published = is.published;
  workers = is.workers;
  finished = All-push (IsFinished s.mib s.history) s.finished b is.finished new;
}

machine_published : (s : State) (p : Published) → IsMachine s → HasPublished s.history (first_record s.mib).start.0 (s.published ++ (p ∷ [])) → IsMachine (with_published s p)
machine_published s p is new = record {
  segment = is.segment;
  run = is.run;
  parts = is.parts;
  published = new;
  workers = is.workers;
  finished = is.finished;
}

-- room for a record
pub has_room : (s : State) (r : Record) → is_past_room s r ≡ false → r.end.0 ≤ wal_limit s.mib
has_room s r e = ltb-false (wal_limit s.mib) r.end.0 e

machine_mark : (s : State) (worker : ℕ) (marking : Marking) → IsMachine s → is_past_room s (mark_record s marking) ≡ false → IsMachine (with_mark s worker marking)
machine_mark s worker marking is room =
    let r = mark_record s marking in
    let e = entry_at r (Mark marking) worker None in
    let next : ComesNext s.mib s.history is.run.store (Mark marking) r = record {
      is = refl;
      tidy = tt;
      fresh = tt;
      good = tt;
      room = has_room s r room;
      next = is.run.store;
      done = refl;
    } in
    let pushed = run_push s.mib s.history (Mark marking) r worker None is.segment.least is.run next in
    let run = pushed.run in
    let stand = stands s.mib s.history is.run.store (Mark marking) r is.segment.least refl in
    record {
      segment = is.segment;
      run = run;
      parts = λ q l. follows_others q s.mib s.history is.run.store run.store (s.parts q) (Mark marking) r worker None stand refl (ap (λ (x : Store). Some x) (sym pushed.makes)) (is.parts q l);
      published = published_push s.history (first_record s.mib).start.0 s.published e run.orderly is.published;
      workers = λ w. worker_push s.mib s.history s.parts (s.workers w) e (is.workers w);
      finished = all_finished s.mib s.history e s.finished run.orderly is.finished;
    }

-- ---- commands

blocks_same : (q redo : ℕ) (store part : Store) (items : List Item) → IsPart q store part → OfNoOther q items → map (block_of_item part redo) items ≡ map (block_of_item store redo) items
blocks_same q redo store part [] is none = refl
blocks_same q redo store part (item ∷ items) is none =
    let first : block_of_item part redo item ≡ block_of_item store redo item = ap (block_over redo item) (page_at_own q store part item.at is (first_own q item items none)) in
    let rest = blocks_same q redo store part items is (others_own q item items none) in
    ap (λ (b : BlockRef). b ∷ map (block_of_item part redo) items) first ∙ ap (λ (bs : List BlockRef). block_of_item store redo item ∷ bs) rest

-- an act of one partition alone is written by the partition's pages as by the store's
pub kinds_same : (q redo : ℕ) (store part : Store) (act : Act) → IsPart q store part → ConcernsNoOther q act → kind_of part redo act ≡ kind_of store redo act
kinds_same q redo store part (Create fork) is none = refl
kinds_same q redo store part (Truncate rel count) is none = refl
kinds_same q redo store part (Change items) is none = ap (λ (bs : List BlockRef). kind.Generic bs) (blocks_same q redo store part items is none)
kinds_same q redo store part (Drop rels) is none = refl
kinds_same q redo store part (Mark marking) is none = refl

not_refused : (t : Bool) (why : Refusal) → cond t (Some why) None ≡ None → t ≡ false
not_refused t why e = (no_refusal t why None e).0

machine_accepts : (s : State) (worker : ℕ) (command : Op) → IsMachine s → HasGoodPages (act_of_op command) → judged s command ≡ None → IsMachine (accepted s worker command (command_record s command)).0
machine_accepts s worker command is good e =
    let q = part_of_op command in
    let part = s.parts q in
    let act = act_of_op command in
    let r = command_record s command in
    let seq : Option ℕ = Some (command_count worker s.history) in
    let tip = tip_of s.mib s.history in
    let why = first_none (judged_op (length s.history) part.frames command) (option_or (judged_total s command) (judged_room s command)) e in
    let full = first_none (judged_total s command) (judged_room s command) why.1 in
    let room = has_room s r (not_refused (is_past_room s r) (WalFull (length s.history)) full.1) in
    let own = judged-own (length s.history) part.frames command why.0 in
    let f = is.parts q (part_below command) in
    let tidy = judged-tidy (length s.history) part.frames command why.0 in
    let fresh = judged-fresh (length s.history) part.frames command why.0 in
    let done = commands_done r.end.0 part.frames command (judged-fit (length s.history) part.frames command why.0) fresh in
    let both = own_done q r.end.0 is.run.store part.frames done.0 act f.frames own done.1 in
    let same : r ≡ record_of s.mib is.run.store tip act = ap (record_at_tip s.mib tip) (kinds_same q tip.redo is.run.store part.frames act f.frames own) in
    let next : ComesNext s.mib s.history is.run.store act r = record {
      is = same;
      tidy = own_tidy q is.run.store part.frames act f.frames own tidy;
      fresh = fresh;
      good = good;
      room = room;
      next = both.0;
      done = both.1;
    } in
    let entry = entry_at r act worker seq in
    let pushed = run_push s.mib s.history act r worker seq is.segment.least is.run next in
    let run = pushed.run in
    let stand = stands s.mib s.history is.run.store act r is.segment.least same in
    let after = part_after r.end.0 act part in
    record {
      segment = is.segment;
      run = run;
      parts = λ p l. choose (Follows p s.mib (s.history ++ (entry ∷ [])) run.store) (p == q) after (s.parts p)
          (λ here. subst (λ k. Follows k s.mib (s.history ++ (entry ∷ [])) run.store after) (sym (eqb-true p q here))
          (follows_own q s.mib s.history is.run.store run.store done.0 part act r worker seq stand own tidy done.1 (subst (λ (x : Store). IsPart q x done.0) (sym pushed.makes) both.2) f))
          (λ away. follows_others p s.mib s.history is.run.store run.store (s.parts p) act r worker seq stand (own p (λ k. true≢false (sym (eq-eqb p q k) ∙ away))) (both.1 ∙ ap (λ (x : Store). Some x) (sym pushed.makes)) (is.parts p l));
      published = published_push s.history (first_record s.mib).start.0 s.published entry run.orderly is.published;
      workers = λ w. worker_moved s.mib (s.history ++ (entry ∷ [])) s.parts (with_part s q after).parts (s.workers w)
          (λ p. choose (λ (x : Part). (s.parts p).point ≤ x.point) (p == q) after (s.parts p) (λ here. subst (λ k. (s.parts k).point ≤ after.point) (sym (eqb-true p q here)) (omega arith)) (λ away. omega arith))
          (worker_push s.mib s.history s.parts (s.workers w) entry (is.workers w));
      finished = all_finished s.mib s.history entry s.finished run.orderly is.finished;
    }

machine_inserts : (s : State) (worker : ℕ) (command : Op) → IsMachine s → HasGoodPages (act_of_op command) → IsMachine (inserted s worker command (judged s command)).0
machine_inserts s worker command is good =
    elim (judged s command) as (λ o. judged s command ≡ o → IsMachine (inserted s worker command o).0) [ Some why ↦ λ e. is | None ↦ λ e. machine_accepts s worker command is good e ] refl

-- ---- writes

at_part : (s : State) (q : ℕ) (done : State × Reply) → IsMachine s → (q < 4 → IsMachine done.0) → IsMachine (where_part s q done).0
at_part s q done is k = choose (λ (x : State × Reply). IsMachine x.0) (nat_le 4 q) (idle s) done (λ out. is) (λ in_range. k (let l = leb-false 4 q in_range in omega (arith, l)))

machine_writes : (s : State) (q : ℕ) → IsMachine s → q < 4 → IsMachine (written s q (next_write (s.parts q) (s.parts q).works (s.parts q).dirty)).0
machine_writes s q is l =
    let part = s.parts q in
    elim (next_write part part.works part.dirty) as (λ o. next_write part part.works part.dirty ≡ o → IsMachine (written s q o).0) [
      | None ↦ λ e. is
      | Some turn ↦ λ e.
          let f = follows_write q s.mib s.history is.run.store part turn e (is.parts q l) in
          machine_part s q turn.part is f.0 (omega (arith, f.1))
    ] refl

machine_cleans : (s : State) (q : ℕ) → IsMachine s → q < 4 → IsMachine (with_part s q (cleaned (end_of_wal s).redo (s.parts q)))
machine_cleans s q is l = machine_part s q (cleaned (end_of_wal s).redo (s.parts q)) is (follows_clean q s.mib (end_of_wal s).redo s.history is.run.store (s.parts q) is.run.redo (is.parts q l)) (omega arith)

-- ---- checkpoints

machine_in_room : (s : State) (marking : Marking) (done : State × Reply) → IsMachine s → (is_past_room s (mark_record s marking) ≡ false → IsMachine done.0) → IsMachine (where_room s marking done).0
machine_in_room s marking done is k = choose (λ (x : State × Reply). IsMachine x.0) (is_past_room s (mark_record s marking)) (s, _) done (λ full. is) k

redo_here : (s : State) (worker : ℕ) → IsMachine s → IsRedoOf s.mib (with_mark s worker (RedoMark 1)).history (mark_record s (RedoMark 1)).start.0
redo_here s worker is =
    let r = mark_record s (RedoMark 1) in
    let e = entry_at r (Mark (RedoMark 1)) worker None in
    let stand = stands s.mib s.history is.run.store (Mark (RedoMark 1)) r is.segment.least refl in
    let test = λ (x : Entry). (x.start == r.start.0) && is_redo x.act in
    record {
      redo = list_any-append test s.history (e ∷ []) ∙ or_right (list_any test s.history) _ (ap (λ b. (b && true) || false) (eq-eqb r.start.0 r.start.0 refl));
      later = omega (arith, is.run.late, stand.start);
    }

machine_starts : (s : State) (number : ℕ) (w : Worker) → IsMachine s → IsMachine (started s number w).0
machine_starts s number w is =
    choose (λ (x : State × Reply). IsMachine x.0) (is_some w.redo || is_some w.backup) (idle s) _ (λ busy. is)
    (λ free. machine_in_room s (RedoMark 1) _ is (λ room.
    machine_worker (with_mark s number (RedoMark 1)) number (record { redo = Some (mark_record s (RedoMark 1)).start.0; backup = None }) (machine_mark s number (RedoMark 1) is room)
    (record { redo = redo_here s number is; backup = tt })))

points_reach : (s : State) (redo : ℕ) → is_behind s redo ≡ false → (q : ℕ) → q < 4 → redo ≤ (s.parts q).point
points_reach s redo none q l = go part_numbers none
  where
    each : (t : ℕ → Bool) → list_any t part_numbers ≡ false → (q : ℕ) → q < 4 → t q ≡ false
    each t all zero l = (or_parts (t 0) _ all).0
    each t all (suc zero) l = (or_parts (t 1) _ (or_parts (t 0) _ all).1).0
    each t all (suc (suc zero)) l = (or_parts (t 2) _ (or_parts (t 1) _ (or_parts (t 0) _ all).1).1).0
    each t all (suc (suc (suc zero))) l = (or_parts (t 3) _ (or_parts (t 2) _ (or_parts (t 1) _ (or_parts (t 0) _ all).1).1).1).0
    each t all (suc (suc (suc (suc q)))) l = absurd (omega (arith, l))

    go : (numbers : List ℕ) → is_behind s redo ≡ false → redo ≤ (s.parts q).point
    go numbers e = ltb-false (s.parts q).point redo (each (λ p. nat_lt (s.parts p).point redo) e q l)

pub found_finished : (mib : ℕ) (history : List Entry) (finished : List Finished) (k : ℕ) (b : Finished) → All (IsFinished mib history) finished → slice_get finished k ≡ Some b → IsFinished mib history b
found_finished mib history [] k b all e = absurd cc
found_finished mib history (f ∷ fs) zero b all e = subst (IsFinished mib history) (same f b e) (all_first (IsFinished mib history) f fs all)
  where
    same : (a b : Finished) → Some a ≡ Some b → a ≡ b
    same a b e = cc
found_finished mib history (f ∷ fs) (suc k) b all e = found_finished mib history fs k b (all_rest (IsFinished mib history) f fs all) e

backup_begun : (mib : ℕ) (history : List Entry) (parts : ℕ → Part) (finished : List Finished) (redo : ℕ) (what : Asked) → IsRedoOf mib history redo → ((q : ℕ) → q < 4 → redo ≤ (parts q).point) → All (IsFinished mib history) finished → may_begin finished redo what ≡ true → IfSome (begun finished redo what) (IsBackup mib history parts)
backup_begun mib history parts finished redo asked.Nothing r points all may = tt
backup_begun mib history parts finished redo asked.Full r points all may = backup_begins mib history parts redo None r tt points
backup_begun mib history parts finished redo (asked.Incr k) r points all may =
    elim (slice_get finished k) as (λ o. slice_get finished k ≡ o → is_ended_by redo o ≡ true → IfSome (option_map (λ b. new_backup redo (Some (prior_of b))) o) (IsBackup mib history parts)) [
      | None ↦ λ found e. tt
      | Some b ↦ λ found e.
          let is = found_finished mib history finished k b all found in
          let above = is.above in
          let by = leb-true b.end redo e in
          backup_begins mib history parts redo (Some (prior_of b)) r (record { start = is.start; below = omega (arith, above, by) }) points
    ] refl may

machine_completes : (s : State) (number : ℕ) (what : Asked) (o : Option ℕ) → IsMachine s → IfSome o (IsRedoOf s.mib s.history) → IsMachine (completed s number what o).0
machine_completes s number what None is r = is
machine_completes s number what (Some redo) is r =
    choose (λ (x : State × Reply). IsMachine x.0) (is_behind s redo || not (may_begin s.finished redo what)) (idle s) _ (λ behind. is)
    (λ free. machine_in_room s (Online redo) _ is (λ room.
    let e = entry_at (mark_record s (Online redo)) (Mark (Online redo)) number None in
    let p = or_parts (is_behind s redo) (not (may_begin s.finished redo what)) free in
    let marked = machine_mark s number (Online redo) is room in
    machine_worker (with_mark s number (Online redo)) number (record { redo = None; backup = begun s.finished redo what }) marked
    (record {
      redo = tt;
      backup = backup_begun s.mib (s.history ++ (e ∷ [])) s.parts s.finished redo what (redo_push s.mib s.history redo e r) (points_reach s redo p.0) marked.finished (not_false (may_begin s.finished redo what) p.1);
    })))

-- ---- summaries

machine_publishes : (s : State) (o : Option ℕ) → IsMachine s → next_redo (summaries_end s) s.history ≡ o → IsMachine (published s o).0
machine_publishes s None is next = is
machine_publishes s (Some end) is next =
    machine_published s (next_summary s end) is (published_more s.history (first_record s.mib).start.0 end s.published is.run.orderly next is.published)

-- ---- backups

machine_lists : (s : State) (number q : ℕ) (o : Option Backup) → IsMachine s → q < 4 → IfSome o (IsBackup s.mib s.history s.parts) → IsMachine (listed s number q o).0
machine_lists s number q None is l k = is
machine_lists s number q (Some b) is l k =
    choose (λ (x : State × Reply). IsMachine x.0) (is_listed b q) (idle s) _ (λ there. is)
    (λ new.
    machine_worker s number (record { redo = (s.workers number).redo; backup = Some (with_listing b q (s.parts q).disk) }) is
    (record { redo = (is.workers number).redo; backup = backup_lists q s.mib s.history is.run s.parts b l (is.parts q l) new k }))

machine_copies : (s : State) (number : ℕ) (at : BlockId) (o : Option Backup) → IsMachine s → IfSome o (IsBackup s.mib s.history s.parts) → IsMachine (copied s number at o).0
machine_copies s number at None is k = is
machine_copies s number at (Some b) is k =
    let q = partition_of at.fork.rel in
    let unsent = not (is_summed s b && sends s.relseg s.published b b.prior at) in
    choose (λ (x : State × Reply). IsMachine x.0) (not (is_listed b q) || (not (is_within b at) || (is_named at b.copied || unsent))) (idle s) _ (λ out. is)
    (λ free.
    let p = or_parts (not (is_listed b q)) (not (is_within b at) || (is_named at b.copied || unsent)) free in
    let w = or_parts (not (is_within b at)) (is_named at b.copied || unsent) p.1 in
    machine_worker s number (record { redo = (s.workers number).redo; backup = Some (with_copied b at (disk_block s at)) }) is
    (record {
      redo = (is.workers number).redo;
      backup = backup_copies q s.mib s.history is.run s.parts b at refl (omega arith) (is.parts q (omega arith)) (not_false (is_listed b q) p.0) (not_false (is_within b at) w.0) k;
    }))

own_since : (low from : ℕ) (es : List Entry) → low ≤ from → AreOwnFrom low es → AreOwnFrom from es
own_since low from es le own = all_weaker (λ (e : Entry). low ≤ e.start → is_of_run e ≡ true) (λ (e : Entry). from ≤ e.start → is_of_run e ≡ true) es (λ e ours ge. ours (omega (arith, le, ge))) own

-- the first entry starts where its record does, before it ends
first_long : (s : State) → IsMachine s → (first_record s.mib).start.0 < (first_record s.mib).end.0
first_long s is = (subst (IsOrderly 0) is.run.grown is.run.orderly).1

-- what the published summaries say for an incremental backup whose start they reach
table_told : (s : State) (b : Backup) (p : Prior) → IsMachine s → IsPrior s.mib s.history b.start p → IsRedoOf s.mib s.history b.start → b.prior ≡ Some p → is_summed s b ≡ true → table_for s.published b p ≡ summary_of s.history p.start b.start
table_told s b p is prior start incremental summed =
    let reach : nat_le b.start (summaries_end s) ≡ true = ap (λ (o : Option Prior). not (is_some o) || nat_le b.start (summaries_end s)) (sym incremental) ∙ summed in
    let long = first_long s is in
    let later = prior.start.later in
    together s.history (first_record s.mib).start.0 p.start b.start s.published is.run.orderly is.published.each (omega (arith, long, later)) prior.below (leb-true b.start (summaries_end s) reach) prior.start.redo start.redo

pub is_running : (s : State) (from : ℕ) → IsMachine s → IsRedoOf s.mib s.history from → IsRunning s.history from
is_running s from is start = record {
  orderly = is.run.orderly;
  store = is.run.store;
  defined = is.run.made;
  redo = start.redo;
  own = own_since (first_record s.mib).end.0 from s.history start.later is.run.ours;
}

-- what an ended backup has, behind the mark of its end
made_ended : (s : State) (b : Backup) (number : ℕ) (o : Option Prior) → IsMachine s → IsMachine (with_mark s number (BackupEnd b.start)) → IsBackup s.mib s.history s.parts b → is_summed s b ≡ true → is_complete s.relseg s.published b ≡ true → b.prior ≡ o
    → b.start ≤ (mark_record s (BackupEnd b.start)).start.0
    → IsFinishedBy (with_mark s number (BackupEnd b.start)).history (record { copy = finished_copy s.relseg s.published b o; start = b.start; end = (mark_record s (BackupEnd b.start)).end.0; increment = option_map (λ p. record { prior = p.start; sent = b.copied }) o })
    (option_map (λ p. record { prior = p.start; sent = b.copied }) o)
made_ended s b number None is marked k summed complete full late =
    let r = mark_record s (BackupEnd b.start) in
    let e = entry_at r (Mark (BackupEnd b.start)) number None in
    taken_sound b.copy (s.history ++ (e ∷ [])) b.start r.end.0 (is_running (with_mark s number (BackupEnd b.start)) b.start marked (redo_push s.mib s.history b.start e k.start))
    (backup_taken s.mib s.relseg s.history s.parts s.published b e k complete full)
made_ended s b number (Some p) is marked k summed complete incremental late =
    let e = entry_at (mark_record s (BackupEnd b.start)) (Mark (BackupEnd b.start)) number None in
    let prior : IsPrior s.mib s.history b.start p = subst (λ (o : Option Prior). IfSome o (IsPrior s.mib s.history b.start)) incremental k.prior in
    fork_ends s.mib s.relseg s.history s.parts s.published b p e k complete incremental (table_told s b p is prior k.start incremental summed) late

machine_ends : (s : State) (number : ℕ) (o : Option Backup) → IsMachine s → IfSome o (IsBackup s.mib s.history s.parts) → IsMachine (ended s number o).0
machine_ends s number None is k = is
machine_ends s number (Some b) is k =
    choose (λ (x : State × Reply). IsMachine x.0) (not (is_summed s b && is_complete s.relseg s.published b)) (idle s) _ (λ open_yet. is)
    (λ whole. machine_in_room s (BackupEnd b.start) _ is (λ room.
    let r = mark_record s (BackupEnd b.start) in
    let e = entry_at r (Mark (BackupEnd b.start)) number None in
    let marked = machine_mark s number (BackupEnd b.start) is room in
    let both = and_parts (is_summed s b) (is_complete s.relseg s.published b) (not_false (is_summed s b && is_complete s.relseg s.published b) whole) in
    let late = start_before b.start 0 s.history e marked.run.orderly (redo_starts b.start s.history k.start.redo) in
    let long = (stands s.mib s.history is.run.store (Mark (BackupEnd b.start)) r is.segment.least refl).long in
    machine_finished (with_worker (with_mark s number (BackupEnd b.start)) number idle_worker) (finished_of s.relseg s.published b r.end.0)
    (machine_worker (with_mark s number (BackupEnd b.start)) number idle_worker marked (record { redo = tt; backup = tt }))
    (record { start = redo_push s.mib s.history b.start e k.start; above = omega (arith, late, long); made = made_ended s b number b.prior is marked k both.0 both.1 refl late })))

-- ---- steps

pub step_keeps : (s : State) (x : Step) → PutsPages x → IsMachine s → IsMachine (step_of s x).0
step_keeps s (step.Insert worker command) good is = machine_inserts s worker command is good
step_keeps s (step.WritePage q) good is = at_part s q _ is (machine_writes s q is)
step_keeps s (step.Clean q) good is = at_part s q _ is (machine_cleans s q is)
step_keeps s (step.Redo worker) good is = machine_starts s worker (s.workers worker) is
step_keeps s (step.Begin worker what) good is = machine_completes s worker what (s.workers worker).redo is (is.workers worker).redo
step_keeps s step.Publish good is = machine_publishes s (next_redo (summaries_end s) s.history) is refl
step_keeps s (step.ListForks worker q) good is = at_part s q _ is (λ l. machine_lists s worker q (s.workers worker).backup is l (is.workers worker).backup)
step_keeps s (step.CopyBlock worker at) good is = machine_copies s worker at (s.workers worker).backup is (is.workers worker).backup
step_keeps s (step.End worker) good is = machine_ends s worker (s.workers worker).backup is (is.workers worker).backup

pub steps_keep : (s : State) (steps : List Step) → All PutsPages steps → IsMachine s → IsMachine (behind_steps s steps)
steps_keep s [] good is = is
steps_keep s (x ∷ steps) good is = steps_keep (step_of s x).0 steps (all_rest PutsPages x steps good) (step_keeps s x (all_first PutsPages x steps good) is)

pub machine_first : (mib relseg : ℕ) → IsSegmentMib mib → IsMachine (first_state mib relseg)
machine_first mib relseg segment =
    let s = first_state mib relseg in
    record {
      segment = segment;
      run = (run_first mib segment.least).run;
      parts = λ q l. subst (λ (x : Store). Follows q mib s.history x (s.parts q)) (sym (run_first mib segment.least).makes)
          (follows_first q mib (first_record mib).end.0 s.history (omega arith));
      published = record { each = tt; ends = ap (λ t. t || false) (eq-eqb (first_record mib).start.0 (first_record mib).start.0 refl) };
      workers = λ w. record { redo = tt; backup = tt };
      finished = All-nil (IsFinished mib s.history);
    }
