-- The laws of the machine.
use Rattle.std.proofs.Common.{◌≡◌, ℕ, ◌≤◌, ◌^◌, ◌-◌, Bool, cond, List, [], ◌∷◌, ◌++◌, Option, Some, None, refl, ap, sym, subst, ◌∙◌, arith, append_assoc}
use Rattle.std.specs.Prelude.{nat_le, not, ◌&&◌, ◌||◌}
use Rattle.std.specs.List.{All}
use Rattle.std.specs.Option.{is_some}
use Rattle.std.specs.FinMap.{empty}
use Rattle.std.proofs.lemmas.List.{append-nil}
use Rattle.std.proofs.lemmas.List.Elements.{All-nil, All-cons}
use Rattle.lsn_core.specs.declared.ids.BlockId.{BlockId}
use Rattle.lsn_core.specs.Store.{Store}
use Rattle.wal_record.specs.Tips.{wal_limit}
use Rattle.history.specs.declared.op.Op.{Op}
use Rattle.history.specs.Entry.{RedoMark, Online, BackupEnd, Entry}
use Rattle.history.specs.Apply.{apply_all}
use Rattle.history.specs.Laws.{applied_up_to}
use Rattle.history.specs.Whole.{whole}
use Rattle.history.proofs.Pushes.{all_first, all_rest, all_weaker}
use Rattle.history.specs.partitions.Parts.{partition_of}
use Rattle.history.specs.fuzzy_copies.Logged.{history_of}
use Rattle.history.specs.fuzzy_copies.Orderly.{IsOrderly, AllEndBy}
use Rattle.history.specs.fuzzy_copies.Recovered.{recovered_records}
use Rattle.history.specs.fuzzy_copies.Sound.{IsSoundCopy}
use Rattle.history.proofs.fuzzy_copies.Incremental.{increments_sound}
use Rattle.history.proofs.fuzzy_copies.Restored.{sound_restored, logs_whole}
use Rattle.store_core.specs.declared.step.Asked.{Asked}
use Rattle.store_core.specs.declared.step.Step.{Step}
use Rattle.store_core.specs.declared.step.Step.TheVariants as step
use Rattle.store_core.specs.declared.reply.Refusal.{Refusal}
use Rattle.store_core.specs.declared.reply.Reply.{Reply}
use Rattle.store_core.specs.Increments.{next_redo, copy_over, made_over, chain_store}
use Rattle.store_core.specs.State.{Backup, Worker, Increment, Finished, State, first_record, first_state, records_of}
use Rattle.store_core.specs.Parts.{Turn, next_write}
use Rattle.store_core.specs.Refusals.{judged, is_past_room}
use Rattle.store_core.specs.Steps.{inserted, mark_record, written, started, may_begin, is_behind, completed, summaries_end, published, is_listed, listed, is_within, sends, is_summed, copied, is_complete, ended, step_of, behind_steps, machine_after}
use Rattle.history.specs.Whole.{is_named}
use Rattle.store_core.specs.Laws.{MayRun, IsSoundBy, IsSoundFor, IsLinked, IsChain, IsAmong, IsRestored, MachinesKeepTheirFacts, PublishedSummariesAreHonest, FinishedBackupsAreSound, FinishedBackupsStay, RestoredChainsAreWhole}
use Rattle.store_core.proofs.Runs.{first}
use Rattle.store_core.proofs.Follows.{facts_of}
use Rattle.store_core.proofs.Publishing.{all_honest}
use Rattle.store_core.proofs.Keeps.{IsFinishedBy, IsFinished, IsMachine, choose, found_finished, is_running, steps_keep, machine_first}

machine_of : (mib relseg : ℕ) (steps : List Step) → MayRun mib steps → IsMachine (machine_after mib relseg steps)
machine_of mib relseg steps may = steps_keep (first_state mib relseg) steps may.pages (machine_first mib relseg may.segment)

pub machines_keep : MachinesKeepTheirFacts
machines_keep mib relseg steps may =
    let s = machine_after mib relseg steps in
    let is = machine_of mib relseg steps may in
    record { store = is.run.store; made = is.run.made; parts = λ q l. facts_of q s.mib s.history is.run (s.parts q) (is.parts q l) }

pub summaries_honest : PublishedSummariesAreHonest
summaries_honest mib relseg steps may =
    let s = machine_after mib relseg steps in
    let is = machine_of mib relseg steps may in
    all_honest s.history (first_record s.mib).start.0 s.published is.published.each

sound_by : (s : State) (b : Finished) (o : Option Increment) → IsMachine s → IsFinished s.mib s.history b → IsFinishedBy s.history b o → IsSoundBy s.history b o
sound_by s b None is finished made = made
sound_by s b (Some i) is finished made = λ prior stop sound by.
    increments_sound (copy_over i.sent b.copy prior) prior s.history i.prior i.prior stop b.start b.end (is_running s b.start is finished.start) is.run.tidy sound (omega arith) by (made prior)

sound_for : (s : State) (b : Finished) → IsMachine s → IsFinished s.mib s.history b → IsSoundFor s.history b
sound_for s b is finished = sound_by s b b.increment is finished finished.made

pub backups_sound : FinishedBackupsAreSound
backups_sound mib relseg steps may =
    let s = machine_after mib relseg steps in
    let is = machine_of mib relseg steps may in
    all_weaker (IsFinished s.mib s.history) (IsSoundFor s.history) s.finished (λ b finished. sound_for s b is finished) is.finished

-- ---- what stays

-- the history and the finished backups go on
record Extends (before behind : State) : Type 0 where
  entries : List Entry
  history : behind.history ≡ before.history ++ entries
  backups : List Finished
  finished : behind.finished ≡ before.finished ++ backups

same : (s : State) → Extends s s
same s = record { entries = []; history = sym (append-nil s.history); backups = []; finished = sym (append-nil s.finished) }

on : (a b c : State) → Extends a b → Extends b c → Extends a c
on a b c x y = record {
  entries = x.entries ++ y.entries;
  history = y.history ∙ ap (λ (h : List Entry). h ++ y.entries) x.history ∙ append_assoc a.history x.entries y.entries;
  backups = x.backups ++ y.backups;
  finished = y.finished ∙ ap (λ (f : List Finished). f ++ y.backups) x.finished ∙ append_assoc a.finished x.backups y.backups;
}

-- one entry more, and nothing finished
entered : (s t : State) (e : Entry) → t.history ≡ s.history ++ (e ∷ []) → t.finished ≡ s.finished → Extends s t
entered s t e history finished = record { entries = e ∷ []; history = history; backups = []; finished = finished ∙ sym (append-nil s.finished) }

kept : (s t : State) → t.history ≡ s.history → t.finished ≡ s.finished → Extends s t
kept s t history finished = record { entries = []; history = history ∙ sym (append-nil s.history); backups = []; finished = finished ∙ sym (append-nil s.finished) }

test_either : (s : State) (t : Bool) (x y : State × Reply) → Extends s x.0 → Extends s y.0 → Extends s (cond t x y).0
test_either s t x y one other = choose (λ (z : State × Reply). Extends s z.0) t x y (λ k. one) (λ k. other)

inserted_on : (s : State) (worker : ℕ) (command : Op) (o : Option Refusal) → Extends s (inserted s worker command o).0
inserted_on s worker command (Some why) = same s
inserted_on s worker command None = entered s _ _ refl refl

written_on : (s : State) (q : ℕ) (o : Option Turn) → Extends s (written s q o).0
written_on s q None = same s
written_on s q (Some turn) = kept s _ refl refl

started_on : (s : State) (number : ℕ) (w : Worker) → Extends s (started s number w).0
started_on s number w = test_either s (is_some w.redo || is_some w.backup) _ _ (same s) (test_either s (is_past_room s (mark_record s (RedoMark 1))) _ _ (same s) (entered s _ _ refl refl))

completed_on : (s : State) (number : ℕ) (what : Asked) (o : Option ℕ) → Extends s (completed s number what o).0
completed_on s number what None = same s
completed_on s number what (Some redo) = test_either s (is_behind s redo || not (may_begin s.finished redo what)) _ _ (same s) (test_either s (is_past_room s (mark_record s (Online redo))) _ _ (same s) (entered s _ _ refl refl))

published_on : (s : State) (o : Option ℕ) → Extends s (published s o).0
published_on s None = same s
published_on s (Some end) = kept s _ refl refl

listed_on : (s : State) (number q : ℕ) (o : Option Backup) → Extends s (listed s number q o).0
listed_on s number q None = same s
listed_on s number q (Some b) = test_either s (is_listed b q) _ _ (same s) (kept s _ refl refl)

copied_on : (s : State) (number : ℕ) (at : BlockId) (o : Option Backup) → Extends s (copied s number at o).0
copied_on s number at None = same s
copied_on s number at (Some b) =
    test_either s (not (is_listed b (partition_of at.fork.rel)) || (not (is_within b at) || (is_named at b.copied || not (is_summed s b && sends s.relseg s.published b b.prior at)))) _ _ (same s) (kept s _ refl refl)

ended_on : (s : State) (number : ℕ) (o : Option Backup) → Extends s (ended s number o).0
ended_on s number None = same s
ended_on s number (Some b) =
    test_either s (not (is_summed s b && is_complete s.relseg s.published b)) _ _ (same s)
    (test_either s (is_past_room s (mark_record s (BackupEnd b.start))) _ _ (same s) (record { entries = _ ∷ []; history = refl; backups = _ ∷ []; finished = refl }))

step_on : (s : State) (x : Step) → Extends s (step_of s x).0
step_on s (step.Insert worker command) = inserted_on s worker command (judged s command)
step_on s (step.WritePage q) = test_either s (nat_le 4 q) _ _ (same s) (written_on s q (next_write (s.parts q) (s.parts q).works (s.parts q).dirty))
step_on s (step.Clean q) = test_either s (nat_le 4 q) _ _ (same s) (kept s _ refl refl)
step_on s (step.Redo worker) = started_on s worker (s.workers worker)
step_on s (step.Begin worker what) = completed_on s worker what (s.workers worker).redo
step_on s step.Publish = published_on s (next_redo (summaries_end s) s.history)
step_on s (step.ListForks worker q) = test_either s (nat_le 4 q) _ _ (same s) (listed_on s worker q (s.workers worker).backup)
step_on s (step.CopyBlock worker at) = copied_on s worker at (s.workers worker).backup
step_on s (step.End worker) = ended_on s worker (s.workers worker).backup

steps_on : (s : State) (steps : List Step) → Extends s (behind_steps s steps)
steps_on s [] = same s
steps_on s (x ∷ steps) = on s (step_of s x).0 (behind_steps (step_of s x).0 steps) (step_on s x) (steps_on (step_of s x).0 steps)

steps_both : (s : State) (xs ys : List Step) → behind_steps s (xs ++ ys) ≡ behind_steps (behind_steps s xs) ys
steps_both s [] ys = refl
steps_both s (x ∷ xs) ys = steps_both (step_of s x).0 xs ys

all_front : {X : Type 0} (P : X → Type 0) (xs ys : List X) → All P (xs ++ ys) → All P xs
all_front P [] ys all = All-nil P
all_front P (x ∷ xs) ys all = All-cons P x xs (all_first P x (xs ++ ys) all) (all_front P xs ys (all_rest P x (xs ++ ys) all))

pub backups_stay : FinishedBackupsStay
backups_stay mib relseg steps more may =
    let before = machine_after mib relseg steps in
    let behind = machine_after mib relseg (steps ++ more) in
    let goes : Extends before behind = subst (Extends before) (sym (steps_both (first_state mib relseg) steps more)) (steps_on before more) in
    record {
      entries = goes.entries;
      history = goes.history;
      backups = goes.backups;
      finished = goes.finished;
      sound = all_front (IsSoundFor behind.history) before.finished goes.backups (subst (All (IsSoundFor behind.history)) goes.finished (backups_sound mib relseg (steps ++ more) may));
    }

-- ---- what is restored

restored : (s : State) → IsMachine s → (copy : Store) (start end : ℕ) → IsSoundCopy copy s.history start end → (place : ℕ) → end ≤ place → IsRestored s copy start place
restored s is copy start end sound place far =
    let run = is.run in
    let own = run.own in
    let h = history_of (first s.mib) own in
    let orderly = subst (IsOrderly 0) run.grown run.orderly in
    let made = ap (apply_all empty) (sym run.grown) ∙ run.made in
    let ends = all_weaker (λ (e : Entry). e.end ≤ wal_limit s.mib) (λ (e : Entry). e.end ≤ 2 ^ 64 - 1) h (λ e k. (let m = is.segment.most in omega (arith, k, m))) (subst (AllEndBy (wal_limit s.mib)) run.grown run.within) in
    let here = subst (λ (x : List Entry). IsSoundCopy copy x start end) run.grown sound in
    let one : recovered_records copy (records_of s) start place ≡ applied_up_to empty s.history place =
    subst (λ (x : List Entry). recovered_records copy (records_of (with_history s x)) start place ≡ applied_up_to empty x place) (sym run.grown)
    (sound_restored s.mib (first s.mib) own run.store copy start end place orderly run.logged made ends here far) in
    let two : whole (records_of s) place ≡ applied_up_to empty s.history place =
    subst (λ (x : List Entry). whole (records_of (with_history s x)) place ≡ applied_up_to empty x place) (sym run.grown)
    (logs_whole s.mib (first s.mib) own run.store place orderly run.logged made) in
    record { same = one ∙ sym two; told = two }
  where
    with_history : State → List Entry → State
    with_history s history = record { mib = s.mib; relseg = s.relseg; history = history; published = s.published; parts = s.parts; workers = s.workers; finished = s.finished }

-- one of the finished backups
one_finished : (s : State) (b : Finished) → IsMachine s → IsAmong s.finished b → IsFinished s.mib s.history b
one_finished s b is at = found_finished s.mib s.history s.finished at.0 b is.finished at.1

-- the store of a chain, the newest backup first
chain_sound : (s : State) (b : Finished) (older : List Finished) → IsMachine s → All (IsAmong s.finished) (b ∷ older) → IsChain b older → IsSoundCopy (chain_store (b ∷ older)) s.history b.start b.end
chain_sound s b [] is all chain =
    let sound = sound_for s b is (one_finished s b is (all_first (IsAmong s.finished) b [] all)) in
    full_sound b.increment chain sound
  where
    full_sound : (o : Option Increment) → o ≡ None → IsSoundBy s.history b o → IsSoundCopy (made_over b o empty) s.history b.start b.end
    full_sound None e sound = sound
    full_sound (Some i) e sound = absurd cc
chain_sound s b (prior ∷ older) is all chain =
    let sound = sound_for s b is (one_finished s b is (all_first (IsAmong s.finished) b (prior ∷ older) all)) in
    let before = chain_sound s prior older is (all_rest (IsAmong s.finished) b (prior ∷ older) all) chain.1 in
    linked b.increment chain.0 sound before
  where
    linked : (o : Option Increment) → IsLinked b o prior → IsSoundBy s.history b o → IsSoundCopy (chain_store (prior ∷ older)) s.history prior.start prior.end → IsSoundCopy (made_over b o (chain_store (prior ∷ older))) s.history b.start b.end
    linked None link sound before = absurd link
    linked (Some i) link sound before = sound (chain_store (prior ∷ older)) prior.end (subst (λ n. IsSoundCopy (chain_store (prior ∷ older)) s.history n prior.end) (sym link.0) before) link.1

pub chains_whole : RestoredChainsAreWhole
chains_whole mib relseg steps b older may chain =
    let s = machine_after mib relseg steps in
    let is = machine_of mib relseg steps may in
    let sound = chain_sound s b older is chain.among chain.chain in
    record { sound = sound; restored = λ place far. restored s is (chain_store (b ∷ older)) b.start b.end sound place far }
