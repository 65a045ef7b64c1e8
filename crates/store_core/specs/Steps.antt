-- What each step leaves of the machine, and what it answers.
use Rattle.std.specs.Prelude.{ℕ, ◌/◌, ◌%◌, ◌==◌, ◌&&◌, ◌||◌, Bool, true, false, List, [], ◌∷◌, map, length, replicate, not, Option, Some, None, nat_le, nat_lt, slice_get, if◌then◌else◌}
use Rattle.std.specs.List.{filter, list_all, list_any, flat_map, range_with_len}
use Rattle.std.specs.Option.{is_some, option_map, unwrap_or}
use Rattle.std.specs.FinMap.{empty, keys, insert}
use Rattle.lsn_core.specs.declared.ids.ForkId.{ForkId}
use Rattle.lsn_core.specs.declared.ids.ForkLen.{ForkLen}
use Rattle.lsn_core.specs.declared.ids.BlockId.{BlockId}
use Rattle.lsn_core.specs.Store.{Store, ForkPages}
use Rattle.lsn_core.specs.Blocks.{block_of, block_count, pages_of, page_put}
use Rattle.pg_page.specs.Header.{zero_page}
use Rattle.wal_record.specs.declared.record.Record.{Record}
use Rattle.history.specs.declared.op.Op.{Op}
use Rattle.history.specs.Entry.{Marking, Online, RedoMark, BackupEnd, Act, Mark, Entry}
use Rattle.history.specs.Op.{act_of_op}
use Rattle.history.specs.Whole.{is_named}
use Rattle.history.specs.Written.{record_of}
use Rattle.history.specs.partitions.Parts.{partition_of}
use Rattle.history.specs.fuzzy_copies.Summary.{BlockRefTable, summary_of}
use Rattle.store_core.specs.declared.step.Asked.{Asked}
use Rattle.store_core.specs.declared.step.Asked.TheVariants as asked
use Rattle.store_core.specs.declared.step.Step.{Step}
use Rattle.store_core.specs.declared.step.Step.TheVariants as step
use Rattle.store_core.specs.declared.reply.Refusal.{Refusal}
use Rattle.store_core.specs.declared.reply.Reply.{Reply}
use Rattle.store_core.specs.declared.reply.Reply.TheVariants as reply
use Rattle.store_core.specs.State.{Published, Prior, Backup, Worker, Finished, State, part_numbers, first_record, idle_worker, first_state, end_of_wal, with_entry, with_part, with_worker, with_published, with_finished}
use Rattle.store_core.specs.Increments.{published_to, next_redo, table_between, file_plan, plan_sends, raised}
use Rattle.store_core.specs.Parts.{part_after, Turn, next_write, cleaned}
use Rattle.store_core.specs.Refusals.{part_of_op, command_record, is_past_room, judged}

-- a step that isn't enabled does nothing
abbrev pub idle : State → State × Reply
idle s = (s, reply.Idle)

-- ---- entries

-- the entry of an act in a record's place, by a worker; a command has its number among the worker's
abbrev pub entry_at : Record → Act → ℕ → Option ℕ → Entry
entry_at r act worker seq = record {
  act = act;
  start = r.start.0;
  end = r.end.0;
  worker = Some worker;
  seq = seq;
}

abbrev pub is_worker : ℕ → Option ℕ → Bool
is_worker worker None = false
is_worker worker (Some other) = other == worker

-- how many commands of a worker a history has
abbrev pub command_count : ℕ → List Entry → ℕ
command_count worker history =
    length (filter (λ e. is_worker worker e.worker && is_some e.seq) history)

-- a command that nothing refuses: its entry, and its partition's frames behind it
abbrev pub accepted : State → ℕ → Op → Record → State × Reply
accepted s worker command r = (
  with_part
      (with_entry s
      (entry_at r (act_of_op command) worker (Some (command_count worker s.history))))
      (part_of_op command)
      (part_after r.end.0 (act_of_op command) (s.parts (part_of_op command))),
  reply.Accepted (record {
    number = length s.history;
    seq = command_count worker s.history;
    place = record { start = r.start; end = r.end };
  }),
)

abbrev pub inserted : State → ℕ → Op → Option Refusal → State × Reply
inserted s worker command (Some refusal) = (s, reply.Refused refusal)
inserted s worker command None = accepted s worker command (command_record s command)

-- a mark's record, and the machine with its entry by a worker
abbrev pub mark_record : State → Marking → Record
mark_record s marking = record_of s.mib empty (end_of_wal s) (Mark marking)

abbrev pub with_mark : State → ℕ → Marking → State
with_mark s worker marking =
    with_entry s (entry_at (mark_record s marking) (Mark marking) worker None)

-- a step that writes a mark does so where the WAL has room for it
abbrev pub where_room : State → Marking → State × Reply → State × Reply
where_room s marking done =
    if is_past_room s (mark_record s marking) then (s, reply.WalFull (length s.history)) else done

-- ---- writes

abbrev pub written : State → ℕ → Option Turn → State × Reply
written s q None = idle s
written s q (Some turn) = (with_part s q turn.part, reply.Written turn.wrote)

-- ---- checkpoints

-- the start of a checkpoint: idle where the worker has one that isn't completed, or a backup
abbrev pub started : State → ℕ → Worker → State × Reply
started s number worker =
    if is_some worker.redo || is_some worker.backup then idle s
    else where_room s (RedoMark 1) (
      with_worker (with_mark s number (RedoMark 1)) number
          (record { redo = Some (mark_record s (RedoMark 1)).start.0; backup = None }),
      reply.Started (mark_record s (RedoMark 1)).start,
    )

-- a backup from a redo point on, over an earlier one or by itself
abbrev pub new_backup : ℕ → Option Prior → Backup
new_backup redo prior =
    record { start = redo; listed = []; copy = empty; copied = []; prior = prior }

abbrev pub prior_of : Finished → Prior
prior_of b = record { start = b.start; copy = b.copy }

-- the backup that begins with a checkpoint of a redo point, behind finished ones
abbrev pub begun : List Finished → ℕ → Asked → Option Backup
begun finished redo asked.Nothing = None
begun finished redo asked.Full = Some (new_backup redo None)
begun finished redo (asked.Incr k) =
    option_map (λ b. new_backup redo (Some (prior_of b))) (slice_get finished k)

-- it may begin: an incremental one where the earlier backup is finished and ends by the redo point
abbrev pub is_ended_by : ℕ → Option Finished → Bool
is_ended_by redo None = false
is_ended_by redo (Some b) = nat_le b.end redo

abbrev pub may_begin : List Finished → ℕ → Asked → Bool
may_begin finished redo asked.Nothing = true
may_begin finished redo asked.Full = true
may_begin finished redo (asked.Incr k) = is_ended_by redo (slice_get finished k)

-- a partition's point is below a redo point
abbrev pub is_behind : State → ℕ → Bool
is_behind s redo = list_any (λ q. nat_lt (s.parts q).point redo) part_numbers

-- the end of a checkpoint: idle where the worker has none that isn't completed, a partition's point
-- is below its redo point, or the backup that is asked for may not begin
abbrev pub completed : State → ℕ → Asked → Option ℕ → State × Reply
completed s number what None = idle s
completed s number what (Some redo) =
    if is_behind s redo || not (may_begin s.finished redo what) then idle s
    else where_room s (Online redo) (
      with_worker (with_mark s number (Online redo)) number
          (record { redo = None; backup = begun s.finished redo what }),
      reply.Completed (mark_record s (Online redo)).start,
    )

-- ---- summaries

-- where the published summaries end, which begin with the first entry
abbrev pub summaries_end : State → ℕ
summaries_end s = published_to (first_record s.mib).start.0 s.published

-- the summary of the range from there to a place
abbrev pub next_summary : State → ℕ → Published
next_summary s end = record {
  start = summaries_end s;
  end = end;
  table = summary_of s.history (summaries_end s) end;
}

-- a publishing: idle where no redo point lies past that place
abbrev pub published : State → Option ℕ → State × Reply
published s None = idle s
published s (Some end) =
    (with_published s (next_summary s end), reply.Published (record { 0 = end }))

-- ---- backups

abbrev pub with_backup : State → ℕ → Backup → State
with_backup s number backup =
    with_worker s number (record { redo = (s.workers number).redo; backup = Some backup })

abbrev pub is_listed : Backup → ℕ → Bool
is_listed b q = list_any (λ p. p == q) b.listed

-- so many pages of zeros
abbrev pub unread : ForkPages → ForkPages
unread pages = replicate (length pages) zero_page

-- a copy with forks of a disk, each with pages that are made of the disk's
abbrev pub with_forks : (ForkPages → ForkPages) → Store → Store → List ForkId → Store
with_forks made disk copy [] = copy
with_forks made disk copy (fork ∷ forks) =
    with_forks made disk (insert copy fork (made (pages_of disk fork))) forks

-- the forks of a disk with their lengths
abbrev pub lengths_of : Store → List ForkLen
lengths_of disk =
    map (λ fork. record { fork = fork; blocks = length (pages_of disk fork) }) (keys disk)

abbrev pub with_listing : Backup → ℕ → Store → Backup
with_listing b q disk = record {
  start = b.start;
  listed = q ∷ b.listed;
  copy = with_forks unread disk b.copy (keys disk);
  copied = b.copied;
  prior = b.prior;
}

-- a listing: idle where no backup of the worker is under way, or the partition is listed
abbrev pub listed : State → ℕ → ℕ → Option Backup → State × Reply
listed s number q None = idle s
listed s number q (Some b) =
    if is_listed b q then idle s
    else (
      with_backup s number (with_listing b q (s.parts q).disk),
      reply.Listed (lengths_of (s.parts q).disk),
    )

-- a block is below the listed length of its fork
abbrev pub is_within : Backup → BlockId → Bool
is_within b at = nat_lt at.block (unwrap_or (block_count b.copy at.fork) 0)

abbrev pub with_copied : Backup → BlockId → Option (List ℕ) → Backup
with_copied b at answer = record {
  start = b.start;
  listed = b.listed;
  copy = page_put at (unwrap_or answer zero_page) b.copy;
  copied = at ∷ b.copied;
  prior = b.prior;
}

-- what a block's partition has of it on disk
abbrev pub disk_block : State → BlockId → Option (List ℕ)
disk_block s at = block_of (s.parts (partition_of at.fork.rel)).disk at.fork at.block

-- what the summaries say that a backup over this one is made by
abbrev pub table_for : List Published → Backup → Prior → BlockRefTable
table_for published b prior = table_between published prior.start b.start

-- a backup sends a block: a full one each, an incremental one those that the plan of their file
-- sends
abbrev pub sends : ℕ → List Published → Backup → Option Prior → BlockId → Bool
sends relseg published b None at = true
sends relseg published b (Some prior) at =
    plan_sends (file_plan relseg (table_for published b prior) prior.copy b.copy at.fork
    (at.block / relseg)) (at.block % relseg)

-- the published summaries reach the start of an incremental backup
abbrev pub is_summed : State → Backup → Bool
is_summed s b = not (is_some b.prior) || nat_le b.start (summaries_end s)

-- a copy of a block: idle where no backup of the worker is under way, the fork's partition isn't
-- listed, the block isn't below the listed length, or it is copied; and in an incremental backup
-- also where the published summaries don't reach its start, or the plan doesn't send the block
abbrev pub copied : State → ℕ → BlockId → Option Backup → State × Reply
copied s number at None = idle s
copied s number at (Some b) =
    if not (is_listed b (partition_of at.fork.rel)) || (not (is_within b at)
    || (is_named at b.copied || not (is_summed s b && sends s.relseg s.published b b.prior at)))
    then idle s
    else (
      with_backup s number (with_copied b at (disk_block s at)),
      reply.Copied (is_some (disk_block s at)),
    )

-- the blocks of a fork, and of a store
abbrev pub fork_blocks : Store → ForkId → List BlockId
fork_blocks store fork =
    map (λ block. record { fork = fork; block = block })
    (range_with_len 0 (length (pages_of store fork)))

abbrev pub blocks_of : Store → List BlockId
blocks_of store = flat_map (fork_blocks store) (keys store)

-- a block is copied, or isn't sent
abbrev pub is_settled : ℕ → List Published → Backup → BlockId → Bool
is_settled relseg published b at =
    is_named at b.copied || not (sends relseg published b b.prior at)

-- all partitions are listed, and all listed blocks that are sent are copied
abbrev pub is_complete : ℕ → List Published → Backup → Bool
is_complete relseg published b =
    list_all (is_listed b) part_numbers
    && list_all (is_settled relseg published b) (blocks_of b.copy)

-- the finished backup that ends at a place
abbrev pub finished_copy : ℕ → List Published → Backup → Option Prior → Store
finished_copy relseg published b None = b.copy
finished_copy relseg published b (Some prior) =
    raised relseg (table_for published b prior) prior.copy b.copy

abbrev pub finished_of : ℕ → List Published → Backup → ℕ → Finished
finished_of relseg published b end = record {
  copy = finished_copy relseg published b b.prior;
  start = b.start;
  end = end;
  increment = option_map (λ prior. record { prior = prior.start; sent = b.copied }) b.prior;
}

-- the end of a backup: idle where none of the worker is under way, a partition isn't listed, or a
-- listed block that is sent isn't copied; and of an incremental one also where the published
-- summaries don't reach its start
abbrev pub ended : State → ℕ → Option Backup → State × Reply
ended s number None = idle s
ended s number (Some b) =
    if not (is_summed s b && is_complete s.relseg s.published b) then idle s
    else where_room s (BackupEnd b.start) (
      with_finished (with_worker (with_mark s number (BackupEnd b.start)) number idle_worker)
          (finished_of s.relseg s.published b (mark_record s (BackupEnd b.start)).end.0),
      reply.Ended (mark_record s (BackupEnd b.start)).end,
    )

-- ---- steps

-- a step of a partition that isn't there is idle
abbrev pub where_part : State → ℕ → State × Reply → State × Reply
where_part s q done = if nat_le 4 q then idle s else done

abbrev pub step_of : State → Step → State × Reply
step_of s (step.Insert worker command) = inserted s worker command (judged s command)
step_of s (step.WritePage q) =
    where_part s q (written s q (next_write (s.parts q) (s.parts q).works (s.parts q).dirty))
step_of s (step.Clean q) =
    where_part s q (
      with_part s q (cleaned (end_of_wal s).redo (s.parts q)),
      reply.Cleaned (record { 0 = (end_of_wal s).redo }),
    )
step_of s (step.Redo worker) = started s worker (s.workers worker)
step_of s (step.Begin worker what) = completed s worker what (s.workers worker).redo
step_of s step.Publish = published s (next_redo (summaries_end s) s.history)
step_of s (step.ListForks worker q) = where_part s q (listed s worker q (s.workers worker).backup)
step_of s (step.CopyBlock worker at) = copied s worker at (s.workers worker).backup
step_of s (step.End worker) = ended s worker (s.workers worker).backup

-- the machine behind steps, in turn, and their answers
abbrev pub behind_steps : State → List Step → State
behind_steps s [] = s
behind_steps s (first ∷ steps) = behind_steps (step_of s first).0 steps

abbrev pub replies_of : State → List Step → List Reply
replies_of s [] = []
replies_of s (first ∷ steps) = (step_of s first).1 ∷ replies_of (step_of s first).0 steps

-- the machine of a new store behind steps
abbrev pub machine_after : ℕ → ℕ → List Step → State
machine_after mib relseg steps = behind_steps (first_state mib relseg) steps
