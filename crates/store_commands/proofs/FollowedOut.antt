-- What a stream that was followed leaves in an area that was empty.
use Rattle.std.proofs.Common.{Bool, true, ◌≡◌, ℕ, ◌≤◌, List, [], ◌∷◌, Option, Some, None, IfSome, IfOk, option_map, Result, Ok, Err, refl, ap, sym, subst, ◌∙◌, arith}
use Rattle.std.specs.FinMap.{empty, len}
use Rattle.lsn_core.specs.byte_words.Told.{when_told}
use Rattle.lsn_core.specs.Causes.{HasCause, Rose}
use Rattle.lsn_core.specs.Files.{Files}
use Rattle.lsn_core.specs.Store.{Store, files_of}
use Rattle.lsn_core.specs.declared.fault.AreaFault.{AreaFault}
use Rattle.lsn_core.specs.declared.fault.AreaFault.TheVariants.{Failed, NoMemory}
use Rattle.lsn_core.specs.declared.lsn.Lsn.{Lsn}
use Rattle.lsn_core.specs.Segment.{StoreSettings}
use Rattle.lsn_core.specs.Tip.{Tip}
use Rattle.vault.specs.Site.{state_in}
use Rattle.wal_record.specs.declared.record.Record.{Record}
use Rattle.wal_record.specs.Decoding.{record_at}
use Rattle.wal_record.specs.Tips.{first_tip, tip_after}
use Rattle.wal_archive.specs.Archive.{Archive, archive_of}
use Rattle.wal_archive.specs.Rules.{End, next_in}
use Rattle.wal_reader.specs.Wal.{stands_behind}
use Rattle.recovery.specs.Causes.{HasSettings}
use Rattle.recovery.specs.Replay.{Reads, IsRead}
use Rattle.stream_laws.specs.Streams.{stream_files}
use Rattle.follow_laws.specs.Followed.{stream_settings}
use Rattle.vault.specs.declared.area.Vault.{Ghosts as Vaults}
use Rattle.vault.specs.declared.stream.Source.{Ghosts as Sources}
use Rattle.history.specs.Pages.{page_count}
use Rattle.wal_follow.specs.Following.{Following}
use Rattle.recovery.specs.declared.fault.RecoveryFault.TheVariants as wal
use Rattle.wal_follow.specs.declared.fault.FollowFault.TheVariants as follow
use Rattle.follow_command.specs.declared.input.InputFault.{InputFault}
use Rattle.follow_command.specs.declared.input.InputFault.TheVariants as stream
use Rattle.follow_command.specs.declared.output.Written.{Written}
use Rattle.follow_command.specs.Followed.{IsReplayed, IsRefusedStream, StreamAnswer}
use Rattle.follow_command.specs.Output.{IsMade}
use Rattle.command_base.specs.Areas.{IsClear, TellsClear}
use Rattle.store_commands.specs.Follow.{FollowDone, IsUnfollowed, unfollowed, report_of}
use Rattle.store_commands.specs.Following.{AnswersFollow, AnswersStream, FollowsAsReplay}
use Rattle.store_commands.proofs.ReplayedOut.{never_full, area_rises, area_cause}

failed_so : (why : AreaFault) → why ≡ Failed → ◌≡◌ {A = Result Written AreaFault} (Err why) (Err Failed)
failed_so why is = ap (λ (w : AreaFault). Err w) is

-- a clear area
pub clear_now : (told : Option Files) (clear : Bool) → clear ≡ true → TellsClear told clear → IfSome told (λ m. m ≡ empty)
clear_now None clear is tells = tt
clear_now (Some m) clear is tells = tells.0 is

module _ {V I : Type 0} (g : Vaults V) (i : Sources I) (mib relseg : ℕ) where
  done : (bytes : List ℕ) (out mid now : V) (f : Following) (end : Lsn) (w : Written) → IsReplayed mib relseg bytes f end → IsClear (state_in g out) → g.files mid ≡ g.files out → IsMade g relseg f.store mid now w
      → FollowDone mib relseg bytes (state_in g out) (state_in g now) (record { end = end; forks = w.forks; pages = w.pages })
  done bytes out mid now f end w rep clear same made = record {
    clear = clear;
    few = rep.few;
    read = rep.read;
    read_is = rep.read_is;
    made = rep.read_is.store;
    written =
        made.files (subst (λ (o : Option Files). IfSome o (λ m. m ≡ empty)) (sym same) clear)
        ∙ ap (option_map (λ m. files_of relseg f.store)) same
        ∙ ap (λ (s : Store). option_map (λ m. files_of relseg s) (g.files out)) (sym rep.store);
    end = ap (λ (l : Lsn). l.0) (sym rep.end_is) ∙ rep.read_is.end;
    forks = made.forks ∙ ap (λ (s : Store). len s) (sym rep.store);
    pages = made.pages ∙ ap (λ (s : Store). page_count s) (sym rep.store);
    durable = made.durable;
  }

  -- a stream isn't followed
  pub stream_refused : (out mid : V) (input input_now : I) (why : InputFault) → IfSome (i.left input) (λ bytes. StreamAnswer mib relseg bytes (Err why)) → IsClear (state_in g out) → g.files mid ≡ g.files out → (◌≡◌ {A = Result (Following × Lsn) InputFault} (Err why) (Err (stream.Input Failed)) → Rose (i.faults input) (i.faults input_now))
      → AnswersFollow g i mib relseg out input mid input_now (Err (unfollowed mib why))
  stream_refused out mid input input_now (stream.Input Failed) answer clear same failed = (failed refl, (clear, same))
  stream_refused out mid input input_now (stream.Input NoMemory) answer clear same failed = (tt, (clear, same))
  stream_refused out mid input input_now (stream.Long most) answer clear same failed = (answer, (clear, same))
  stream_refused out mid input input_now (stream.Wal (follow.Damaged d)) answer clear same failed = (
    when_told (i.left input) (λ bytes. IsRefusedStream mib relseg bytes (follow.Damaged d)) (IsUnfollowed mib relseg (wal.Damaged mib d)) (λ bytes refused. (refl, refused)) answer,
    (clear, same),
  )
  stream_refused out mid input input_now (stream.Wal (follow.BadDelta at)) answer clear same failed = (answer, (clear, same))
  stream_refused out mid input input_now (stream.Wal follow.NoMemory) answer clear same failed = (answer, (clear, same))

  -- the pages of a stream that was followed were written, or that failed
  pub followed_out : (out mid now : V) (input input_now : I) (f : Following) (end : Lsn) (came : Result Written AreaFault) → AnswersStream g i mib relseg out input mid input_now (Ok (f, end)) → IfOk came (IsMade g relseg f.store mid now) → HasCause (g.faults mid) (g.faults now) came → g.faults out ≤ g.faults mid
      → AnswersFollow g i mib relseg out input now input_now (report_of end came)
  followed_out out mid now input input_now f end (Ok w) came_so made cause later = (
    when_told (i.left input) (λ bytes. IsReplayed mib relseg bytes f end) (λ bytes. FollowDone mib relseg bytes (state_in g out) (state_in g now) (record { end = end; forks = w.forks; pages = w.pages }))
        (λ bytes rep. done bytes out mid now f end w rep came_so.1 came_so.2 made) came_so.0,
    came_so.1,
    came_so.3,
  )
  followed_out out mid now input input_now f end (Err why) came_so made cause later = (
    area_rises (g.faults out) (g.faults mid) (g.faults now) (g.faults now) why later (omega arith)
        (area_cause (g.faults mid) (g.faults now) why (λ is. cause.failed (failed_so why is))),
    never_full (g.files out) (g.files now) came_so.1,
  )

-- ---- as a replay does

-- what is read of a WAL is decided by its archive
same_found : (s : StoreSettings) (m n : Files) (tip : Tip) → archive_of s.segment m ≡ archive_of s.segment n → stands_behind s m tip ≡ stands_behind s n tip
same_found s m n tip same = ap (λ (a : Archive). next_in record_at s.segment s.system a tip) same

reads_same : (s : StoreSettings) (m n : Files) (tip last : Tip) (rs : List Record) → archive_of s.segment m ≡ archive_of s.segment n → Reads s n None tip rs last → Reads s m None tip rs last
reads_same s m n tip last [] same reads = reads
reads_same s m n tip last (r ∷ rs) same reads = (same_found s m n tip same ∙ reads.0, reads_same s m n (tip_after tip r) last rs same reads.1)

read_same : (s : StoreSettings) (m n : Files) (rs : List Record) (last : Tip) → archive_of s.segment m ≡ archive_of s.segment n → IsRead s n None rs last End → IsRead s m None rs last End
read_same s m n rs last same read = record {
  reads = reads_same s m n (first_tip s.segment) last rs same read.reads;
  behind = same_found s m n last same ∙ read.behind;
}

pub follows_as_replay : FollowsAsReplay
follows_as_replay mib relseg bytes files old new report has told done =
    let s : StoreSettings = stream_settings mib relseg bytes in
    record {
      clear = done.clear;
      settings = s;
      given = subst (λ (o : Option Files). HasSettings o s) (sym told) has.settings;
      read = done.read;
      read_is = record {
        entries = done.read_is.entries;
        archive = subst (λ (o : Option Files). IfSome o (λ m. IsRead s m None done.read_is.entries done.read.tip End)) (sym told) (read_same s files (stream_files mib bytes) done.read_is.entries done.read.tip has.archive done.read_is.archive);
        tip = done.read_is.tip;
        ends = done.read_is.ends;
        reached = done.read_is.reached;
        store = done.read_is.store;
        end = done.read_is.end;
        within = done.read_is.within;
      };
      made = done.made;
      written = done.written;
      end = done.end;
      forks = done.forks;
      pages = done.pages;
      durable = done.durable;
    }
