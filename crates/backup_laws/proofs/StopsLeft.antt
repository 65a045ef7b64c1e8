-- What is left behind a run that was stopped, with a restart or without, and what a later run finds.
use Rattle.std.proofs.Common.{◌≡◌, ℕ, List, ◌++◌, map, get_or, Option, Some, None, IfSome, codes, refl, sym, ap, subst, ◌∙◌, arith, ◌⊎◌, inl, inr, Ok}
use Rattle.std.specs.FinMap.{empty, get}
use Rattle.std.proofs.lemmas.List.{map-append}
use Rattle.lsn_core.specs.Files.{Files}
use Rattle.lsn_core.specs.Segment.{IsSegmentMib, StoreSettings}
use Rattle.lsn_core.specs.Tip.{Tip}
use Rattle.vault.specs.Area.{Related}
use Rattle.vault.specs.Frame.{AgreeBut}
use Rattle.wal_record.specs.Tips.{first_tip}
use Rattle.wal_record.specs.declared.record.Record.{Record}
use Rattle.wal_archive.specs.Rules.{Gives}
use Rattle.wal_reader.specs.Settings.{IsSettingsOf}
use Rattle.wal_reader.specs.Wal.{IsWal, ReadsOn, stands_behind}
use Rattle.wal_writer.specs.Stops.{IsSegmentFile}
use Rattle.history.specs.Whole.{entry_of}
use Rattle.history.specs.Written.{tip_of, wal_of}
use Rattle.history.specs.fuzzy_copies.Covers.{AreTidy}
use Rattle.history.specs.fuzzy_copies.Orderly.{RecordsRise}
use Rattle.history.proofs.fuzzy_copies.Kept.{tidy_front}
use Rattle.recovery.proofs.OneWal.{Stops}
use Rattle.summary_store.specs.Honest.{IsHonest}
use Rattle.store_restart.specs.Restarted.{IsCutBack}
use Rattle.store_restart.specs.Trimmed.{IsArchiveFile}
use Rattle.command_base.specs.Areas.{wal_name, sums_name}
use Rattle.command_base.proofs.Told.{some_told, at_told}
use Rattle.run_command.specs.Run.{HasFound, found_tip}
use Rattle.run_command.proofs.OwnEntries.{AreOwn}
use Rattle.restart_command.specs.Restart.{RestartDoes, RestartDone, store_at}
use Rattle.store_commands.specs.declared.replaying.ReplayReport.{ReplayReport}
use Rattle.backup_laws.specs.Restores.{GoesOnFrom}
use Rattle.backup_laws.specs.Stops.{HadCome, LeavesSurvivors, KeepsOrPublishes, PastStop, ComesBehind, WasStopped, CameOnOwn, HoldsSurvivors, RestartsHoldSurvivors, StopsGoOn, StopsFindOwn, come_records, flushed_records}
use Rattle.wal_reader.proofs.Reached.{first_reached}
use Rattle.backup_restore.proofs.Rising.{reads_rise}
use Rattle.backup_laws.proofs.Reading.{end_stops, read_once, records_rise}
use Rattle.backup_laws.proofs.RestoredRuns.{related_told, related_some, some_first, settings_in}
use Rattle.backup_laws.proofs.Settled.{segment_size, not_segment, settings_held, settings_stay}
use Rattle.backup_laws.proofs.SoundRuns.{own_entries}
use Rattle.backup_laws.proofs.Survived.{kept_front, flushed_kept}
use Rattle.backup_laws.proofs.WalsLeft.{on_from, related_is}
use Rattle.backup_laws.proofs.SummariesLeft.{honest_left}
use Rattle.comeback_laws.specs.Restorable.{AreFirst}
use Rattle.backup_laws.proofs.OwnLeft.{IsOwnStore, finds_own, log_tidy}

-- ---- the files of a WAL, before a stop, behind it, and behind the restart

not_archive : (mib : ℕ) → IsArchiveFile mib (codes "settings") → ⊥
not_archive mib is = (let e : 115 ≡ 48 = ap (λ (x : List ℕ). get_or x 0 0) is.named in omega (arith, e))

-- just these records are read of a WAL now: what was found, and more, which survived of a history
record IsLeftSo (s : StoreSettings) (found history : List Record) (flushed : ℕ) (left : Files) : Type 0 where
  records : List Record
  tip : Tip
  read : ReadsOn s left (first_tip s.segment) records tip
  stops : Stops (stands_behind s left tip)
  rise : RecordsRise 0 records
  first : AreFirst history flushed records
  more : List Record
  are : records ≡ found ++ more
  settings : (t : StoreSettings) → IsSettingsOf left t → t ≡ s

-- the area of summaries is none that a restart asks for
apart : (name : List ℕ) → (get_or name 0 0 ≡ 119) ⊎ (get_or name 0 0 ≡ 100) → sums_name ≡ name → ⊥
apart name (inl w) e = (let c : 115 ≡ 119 = ap (λ (x : List ℕ). get_or x 0 0) e ∙ w in omega (arith, c))
apart name (inr d) e = (let c : 115 ≡ 100 = ap (λ (x : List ℕ). get_or x 0 0) e ∙ d in omega (arith, c))

module _ (stop : PastStop) (was : WasStopped stop) where
  abbrev come : HadCome stop.before.areas
  come = was.come

  abbrev s : StoreSettings
  s = come.settings

  abbrev tip : Tip
  tip = first_tip s.segment

  abbrev from : ℕ
  from = (found_tip s come.found).end

  abbrev Wrote : Files → Files → Type 0
  Wrote = AgreeBut (IsSegmentFile s.segment from (tip_of s.segment come.history).end)

  abbrev old : Option Files
  old = (stop.before.areas wal_name).files

  abbrev mid : Option Files
  mid = (stop.stopped.areas wal_name).files

  abbrev now : Option Files
  now = (stop.left.areas wal_name).files

  found_there : (m : Files) × (old ≡ Some m)
  found_there = some_told old (come.told wal_name (inl refl))

  abbrev first : Files
  first = found_there.0

  mid_there : (m : Files) × (mid ≡ Some m)
  mid_there = related_some Wrote old mid first found_there.1 was.leaves.others

  abbrev torn : Files
  torn = mid_there.0

  agree : Wrote first torn
  agree = related_told Wrote old mid first torn found_there.1 mid_there.1 was.leaves.others

  given : IsSettingsOf first s
  given = settings_in s old first found_there.1 come.given

  size : IsSegmentMib s.segment
  size = segment_size (get first (codes "settings")) s.segment s.relseg given.given

  has : HasFound s come.found first
  has = at_told old first (λ m. HasFound s come.found m) found_there.1 come.archive

  survivors : LeavesSurvivors s (come_records come) come.flushed torn
  survivors = at_told mid torn (LeavesSurvivors s (come_records come) come.flushed) mid_there.1 was.leaves.wal

  rise : RecordsRise 0 survivors.records
  rise = records_rise s torn survivors.records survivors.tip size survivors.survive.walk

  found_kept : (more : List Record) × (survivors.records ≡ come.found ++ more)
  found_kept = kept_front come.flushed tip come.found (wal_of s.segment come.history) survivors.records survivors.first.lost found_rise come.synced survivors.first.parts survivors.first.late
    where
      found_rise : RecordsRise tip.end come.found
      found_rise = reads_rise s first tip come.found (found_tip s come.found) size (first_reached s.segment size) has.walk

  -- the settings that are read behind the stop
  begins : (r : Record) × (stands_behind s torn tip ≡ Gives r)
  begins = some_first s torn come.found found_kept.0 survivors.tip come.some (subst (λ (rs : List Record). ReadsOn s torn tip rs survivors.tip) found_kept.1 survivors.survive.walk)

  settings_then : (t : StoreSettings) → IsSettingsOf torn t → t ≡ s
  settings_then t is = settings_stay s t first torn from (tip_of s.segment come.history).end begins.0 given is agree begins.1

  abbrev IsSo : Files → Type 0
  IsSo files = IsLeftSo s come.found (come_records come) come.flushed files

  -- what the stop left
  torn_so : IsSo torn
  torn_so = record {
    records = survivors.records;
    tip = survivors.tip;
    read = survivors.survive.walk;
    stops = survivors.survive.stopped;
    rise = rise;
    first = survivors.first;
    more = found_kept.0;
    are = found_kept.1;
    settings = settings_then;
  }

  -- ---- a restart behind it

  module _ (report : ReplayReport) (does : RestartDoes stop.stopped stop.left (Ok report)) where
    abbrev done : RestartDone (store_at stop.stopped.areas) (store_at stop.left.areas) report
    done = does.1

    same : done.settings ≡ s
    same = settings_then done.settings (settings_in done.settings mid torn mid_there.1 done.given)

    left_there : (m : Files) × (now ≡ Some m)
    left_there = related_some (IsCutBack done.settings done.tip) mid now torn mid_there.1 done.back.wal

    abbrev left : Files
    left = left_there.0

    cut : IsCutBack s done.tip torn left
    cut = subst (λ (x : StoreSettings). IsCutBack x done.tip torn left) same (related_told (IsCutBack done.settings done.tip) mid now torn left mid_there.1 left_there.1 done.back.wal)

    left_wal : IsWal s left survivors.records done.tip
    left_wal =
        subst (λ (rs : List Record). IsWal s left rs done.tip)
        (read_once s torn tip cut.records survivors.records done.tip survivors.tip cut.off.survive.walk cut.off.survive.stopped survivors.survive.walk survivors.survive.stopped) cut.wal

    settings_kept : get left (codes "settings") ≡ get first (codes "settings")
    settings_kept =
        related_told (AgreeBut (IsArchiveFile done.settings.segment)) mid now torn left mid_there.1 left_there.1 done.back.wal_others.files (codes "settings") (not_archive done.settings.segment)
        ∙ agree (codes "settings") (not_segment s.segment from (tip_of s.segment come.history).end)

    left_so : IsSo left
    left_so =
        let begun = some_first s left come.found found_kept.0 done.tip come.some (subst (λ (rs : List Record). ReadsOn s left tip rs done.tip) found_kept.1 left_wal.walk) in
        record {
          records = survivors.records;
          tip = done.tip;
          read = left_wal.walk;
          stops = end_stops (stands_behind s left done.tip) left_wal.ended;
          rise = rise;
          first = survivors.first;
          more = found_kept.0;
          are = found_kept.1;
          settings = λ t is. settings_held s t first left begun.0 given is settings_kept begun.1;
        }

    pub restart_holds : IfSome now (HoldsSurvivors s (come_records come) come.flushed)
    restart_holds =
        subst (λ (o : Option Files). IfSome o (HoldsSurvivors s (come_records come) come.flushed)) (sym left_there.1)
        (record { records = survivors.records; tip = done.tip; is_wal = left_wal; first = survivors.first })

    sums_stay : (stop.left.areas sums_name).files ≡ (stop.stopped.areas sums_name).files
    sums_stay = does.0.0.others sums_name (apart _ (inl refl), (apart _ (inr refl), (apart _ (inr refl), (apart _ (inr refl), (apart _ (inr refl), tt)))))

  -- ---- with a restart, or without

  now_so : ComesBehind stop.stopped stop.left → (m : Files) × (now ≡ Some m) × IsSo m
  now_so (inl done) = ((left_there done.0 done.1).0, (left_there done.0 done.1).1, left_so done.0 done.1)
  now_so (inr still) = (torn, still.wal ∙ mid_there.1, torn_so)

  sums_now : ComesBehind stop.stopped stop.left → (stop.left.areas sums_name).files ≡ (stop.stopped.areas sums_name).files
  sums_now (inl done) = sums_stay done.0 done.1
  sums_now (inr still) = still.sums

  pub stop_goes_on : Related GoesOnFrom old now
  stop_goes_on =
      let there = now_so was.behind in
      let l : IsSo there.0 = there.2 in
      related_is GoesOnFrom old now first there.0 found_there.1 there.1
      (on_from s first there.0 come.found l.more l.tip given l.settings has (subst (λ (rs : List Record). ReadsOn s there.0 tip rs l.tip) l.are l.read))

  abbrev owns : AreOwn come.own
  owns = own_entries come.workers come.own come.of_run

  honest_now : (files : Files) (l : IsSo files) (o n : Option Files) → IfSome o (IsHonest (map entry_of come.found)) → Related (KeepsOrPublishes come.history (flushed_records come)) o n → IfSome n (IsHonest (map entry_of l.records))
  honest_now files l None None honest keeps = tt
  honest_now files l (Some m) None honest keeps = absurd keeps
  honest_now files l None (Some n) honest keeps = absurd keeps
  honest_now files l (Some m) (Some n) honest keeps =
      let here = flushed_kept 0 come.flushed (come_records come) l.records l.rise l.first in
      honest_left s.segment come.found come.own come.history come.lawful come.grown owns l.records l.first.lost l.more (flushed_records come) here.0 m n l.rise l.first.parts l.are here.1 honest keeps

  pub stop_own : CameOnOwn stop was → IsOwnStore now (stop.left.areas sums_name).files
  stop_own own =
      let there = now_so was.behind in
      let l : IsSo there.0 = there.2 in
      let all : List Record = come_records come in
      let tidy : AreTidy empty (map entry_of all) = log_tidy s.segment come.found come.own come.history come.lawful come.grown owns own.tidy in
      let parts : map entry_of all ≡ map entry_of l.records ++ map entry_of l.first.lost = ap (map entry_of) l.first.parts ∙ map-append entry_of l.records l.first.lost in
      record {
        settings = s;
        records = l.records;
        log = record { files = there.0; told = there.1; tip = l.tip; read = l.read; stops = l.stops; settings = l.settings };
        tidy = tidy_front empty (map entry_of l.records) (map entry_of l.first.lost) (subst (AreTidy empty) parts tidy);
        honest = subst (λ (o : Option Files). IfSome o (IsHonest (map entry_of l.records))) (sym (sums_now was.behind))
            (honest_now there.0 l (stop.before.areas sums_name).files (stop.stopped.areas sums_name).files own.honest was.leaves.sums);
      }

-- ---- the laws

pub restarts_hold : RestartsHoldSurvivors
restarts_hold stop was report does = restart_holds stop was report does

pub stops_go_on : StopsGoOn
stops_go_on stop was = stop_goes_on stop was

pub stops_find_own : StopsFindOwn
stops_find_own stop was next on kept own =
    finds_own (stop.left.areas wal_name).files (stop.left.areas sums_name).files next on (stop_own stop was own) kept.wal kept.sums
