-- What a machine in memory shows.
use Rattle.std.specs.Prelude.{◌≡◌, ℕ, ◌<◌, true, false, List, map, Option, None, Some, slice_get}
use Rattle.std.specs.Option.{option_map}
use Rattle.core_machine.specs.declared.over.FinishedBackup.{FinishedBackup}
use Rattle.core_machine.specs.declared.over.SentBlocks.{SentBlocks}
use Rattle.core_machine.specs.declared.machine.Machine.{Machine}
use Rattle.store_core.specs.declared.reply.Reply.{Reply}
use Rattle.store_core.specs.declared.step.Step.{Step}
use Rattle.core_machine.specs.Inside.{part_in, worker_at, commands_at}
use Rattle.store_core.specs.InMemory.{published_in}
use Rattle.store_core.specs.State.{Increment, Finished, State, records_of, end_of_wal}
use Rattle.lsn_core.specs.declared.lsn.Place.{Place}
use Rattle.history.specs.Entry.{Marking}
use Rattle.store_core.specs.Laws.{MayRun}
use Rattle.store_core.specs.Refusals.{is_past_room}
use Rattle.store_core.specs.Steps.{summaries_end, command_count, mark_record, with_mark, behind_steps, replies_of, machine_after}

-- what an incremental backup tells, and a finished backup, as the definitions see them
abbrev pub sent_in : SentBlocks → Increment
sent_in s = record { prior = s.prior.0; sent = s.blocks.items }

abbrev pub finished_in : FinishedBackup → Finished
finished_in b = record {
  copy = b.copy;
  start = b.start.0;
  end = b.end.0;
  increment = option_map sent_in b.sent;
}

-- a machine in memory shows a machine as the definitions have it
pub record Shows (m : Machine) (s : State) : Type 0 where
  pub mib : m.settings.segment ≡ s.mib
  pub relseg : m.settings.relseg ≡ s.relseg
  pub records : m.records.items ≡ records_of s
  pub tip : m.tip ≡ end_of_wal s
  pub published : map published_in m.summaries.items ≡ s.published
  pub summed : m.summed.0 ≡ summaries_end s
  pub parts : (q : ℕ) → q < 4 → option_map part_in (slice_get m.parts q) ≡ Some (s.parts q)
  pub workers : (w : ℕ) → worker_at m.crew.list.items w ≡ s.workers w
  pub commands : (w : ℕ) → commands_at m.crew.list.items w ≡ command_count w s.history
  pub finished : map finished_in m.finished.items ≡ s.finished

-- behind steps, with their answers
pub record ShowsRun (m : Machine) (s : State) (steps : List Step) (replies : List Reply)
    : Type 0 where
  pub machine : Shows m (behind_steps s steps)
  pub answers : replies ≡ replies_of s steps

-- a machine that steps made of a new store's
pub record IsReached (s : State) : Type 0 where
  pub mib : ℕ
  pub relseg : ℕ
  pub steps : List Step
  pub may : MayRun mib steps
  pub is : s ≡ machine_after mib relseg steps

-- a machine behind a step, with its answer
abbrev pub HasStepped : Machine → State × Reply → Reply → Type 0
HasStepped m done reply = Shows m done.0 × (reply ≡ done.1)

-- behind a mark of a worker, or, where there was no room for it, as before
pub record HasPlaced (m : Machine) (s : State) (worker : ℕ) (marking : Marking) (place : Place)
    : Type 0 where
  pub room : is_past_room s (mark_record s marking) ≡ false
  pub start : place.start ≡ (mark_record s marking).start
  pub end : place.end ≡ (mark_record s marking).end
  pub shown : Shows m (with_mark s worker marking)

abbrev pub HasMarked : Machine → State → ℕ → Marking → Option Place → Type 0
HasMarked m s worker marking None =
    (is_past_room s (mark_record s marking) ≡ true) × Shows m s
HasMarked m s worker marking (Some place) = HasPlaced m s worker marking place
