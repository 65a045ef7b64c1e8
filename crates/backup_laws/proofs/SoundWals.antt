-- The WAL that `init` makes is sound, and so is the one that a run leaves which closed its store.
use Rattle.std.proofs.Common.{◌≡◌, ℕ, List, [], ◌∷◌, Option, IfSome, Result, Ok, refl, sym, subst, inl}
use Rattle.std.specs.FinMap.{empty}
use Rattle.lsn_core.specs.byte_words.Told.{when_both_told}
use Rattle.lsn_core.specs.Files.{Files}
use Rattle.lsn_core.specs.Segment.{StoreSettings}
use Rattle.lsn_core.specs.declared.fault.StoreFault.{StoreFault}
use Rattle.lsn_core.specs.declared.lsn.Lsn.{Lsn}
use Rattle.vault.specs.Frame.{AgreeBut}
use Rattle.wal_record.specs.declared.record.Record.{Record}
use Rattle.wal_archive.specs.Archive.{archive_of}
use Rattle.wal_archive.specs.Laws.{HasNoGap}
use Rattle.wal_reader.specs.Settings.{IsSettingsOf}
use Rattle.wal_writer.specs.Stops.{IsSegmentFile}
use Rattle.history.specs.Written.{wal_of, tip_of}
use Rattle.store_locks.specs.Records.{HoldsRecords}
use Rattle.command_base.specs.Areas.{wal_name}
use Rattle.command_base.proofs.Told.{some_told}
use Rattle.store_commands.specs.Init.{InitDone, HasFirstAlone, new_settings, first_entry, new_tip, init_areas}
use Rattle.run_command.specs.Run.{HoldsRun, IsClosing, all_records, found_tip}
use Rattle.backup_laws.specs.Success.{IsReplayable, IsSoundWal, NewWalsAreSound, RunsLeaveSoundWals}
use Rattle.backup_laws.proofs.RestoredRuns.{related_told, settings_in, some_first}
use Rattle.backup_laws.proofs.Settled.{settings_stay}

pub new_sound : NewWalsAreSound
new_sound options old new end does =
    let s : StoreSettings = new_settings options does.1.0 in
    let d : InitDone s (init_areas old) (init_areas new) end = does.1.2 in
    when_both_told (new.areas wal_name).files (HasFirstAlone s) (λ m. IsSettingsOf m s) (IsSoundWal end)
    (λ m wal given. record {
      settings = s;
      given = given;
      replayable = record {
        records = first_entry s.segment ∷ [];
        last = new_tip s.segment;
        read = wal;
        ends = sym d.end_is;
        store = empty;
        applied = refl;
      };
    }) d.reads.archive d.reads.settings

pub left_sound : RunsLeaveSoundWals
left_sound when old new report run end told closed =
    let s : StoreSettings = run.settings in
    let all : List Record = all_records s run.found run.history in
    let closing : IsClosing s run.found run.history old new (Ok end) = subst (λ (r : Result Lsn StoreFault). IsClosing s run.found run.history old new r) closed run.closing in
    let holds : HoldsRun s run.found run.history new = closing.1 told in
    let wal : Files = holds.files in
    let held : HoldsRecords s all end.0 wal = subst (λ (n : ℕ). HoldsRecords s all n wal) (sym closing.0) holds.records in
    let was = some_told (old wal_name).files (told wal_name (inl refl)) in
    let mine : IsSettingsOf was.0 s = settings_in s (old wal_name).files was.0 was.1 run.given in
    let first = some_first s wal run.found (wal_of s.segment run.history) held.tip run.some held.read in
    let from : ℕ = (found_tip s run.found).end in
    let to : ℕ = (tip_of s.segment run.history).end in
    let agree : AgreeBut (IsSegmentFile s.segment from to) was.0 wal = related_told (AgreeBut (IsSegmentFile s.segment from to)) (old wal_name).files (new wal_name).files was.0 wal was.1 holds.told run.left.files in
    subst (λ (o : Option Files). IfSome o (λ m. (t : StoreSettings) → IsSettingsOf m t → HasNoGap t.segment (archive_of t.segment m) end.0 → IsSoundWal end m)) (sym holds.told) (λ t given gap.
    let one : t ≡ s = settings_stay s t was.0 wal from to first.0 mine given agree first.1 in
    let filled : HasNoGap s.segment (archive_of s.segment wal) held.tip.end = subst (λ (n : ℕ). HasNoGap s.segment (archive_of s.segment wal) n) (sym held.at) (subst (λ (x : StoreSettings). HasNoGap x.segment (archive_of x.segment wal) end.0) one gap) in
    let is : IsReplayable s wal end.0 = record {
      records = all;
      last = held.tip;
      read = held.whole filled;
      ends = held.at;
      store = holds.store;
      applied = holds.replayed;
    } in
    record { settings = t; given = given; replayable = subst (λ (x : StoreSettings). IsReplayable x wal end.0) (sym one) is })
