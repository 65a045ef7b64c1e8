-- What `replay` makes of a WAL is what all its records make up to the same place.
use Rattle.std.proofs.Common.{◌≡◌, ℕ, List, map, Option, Some, sym, ap, subst, ◌∙◌}
use Rattle.std.specs.Option.{option_map}
use Rattle.std.specs.Prelude.{codes}
use Rattle.std.specs.FinMap.{empty, get}
use Rattle.lsn_core.specs.Files.{Files}
use Rattle.lsn_core.specs.Segment.{IsSegmentMib, StoreSettings}
use Rattle.lsn_core.specs.Store.{Store, files_of}
use Rattle.lsn_core.specs.Tip.{Tip}
use Rattle.lsn_core.specs.declared.lsn.Lsn.{Lsn}
use Rattle.wal_record.specs.Tips.{first_tip}
use Rattle.wal_record.specs.declared.record.Record.{Record}
use Rattle.wal_archive.specs.Rules.{End}
use Rattle.wal_reader.specs.Settings.{IsSettingsOf}
use Rattle.wal_reader.proofs.OneSettings.{one_settings}
use Rattle.wal_reader.proofs.Reached.{first_reached}
use Rattle.history.specs.Apply.{apply_all}
use Rattle.history.specs.Pages.{page_count}
use Rattle.history.specs.Whole.{entry_of, whole}
use Rattle.std.specs.FinMap.{len}
use Rattle.recovery.specs.Causes.{HasSettings}
use Rattle.recovery.specs.Onward.{replayed_to, ending_by}
use Rattle.recovery.specs.Replay.{IsRead, last_end}
use Rattle.recovery.proofs.OneWal.{same_lsn}
use Rattle.command_base.specs.Areas.{wal_name, output_name}
use Rattle.command_base.proofs.Told.{some_told, at_told}
use Rattle.store_commands.specs.declared.replaying.ReplayReport.{ReplayReport}
use Rattle.store_commands.specs.Replay.{ReplayDone, replay_areas, end_by}
use Rattle.backup_laws.specs.Restores.{replay_end, IsWholeReplay, AreAlike, RestoresAreAsReplays}
use Rattle.backup_restore.proofs.Rising.{reads_rise}
use Rattle.backup_laws.proofs.Members.{Known, some_is}
use Rattle.backup_laws.proofs.Reading.{none_behind, ReadsAlike, reads_alike}
use Rattle.backup_laws.proofs.RestoredRuns.{place_is, settings_in, runs_restored}
use Rattle.backup_laws.proofs.Settled.{segment_size}

-- ---- values by their parts

report_with : Lsn → ℕ → ℕ → ReplayReport
report_with end forks pages = record { end = end; forks = forks; pages = pages }

same_report : (a b : ReplayReport) → a.end ≡ b.end → a.forks ≡ b.forks → a.pages ≡ b.pages → a ≡ b
unfolding report_with
same_report a b end forks pages =
    ap (λ (x : Lsn). report_with x a.forks a.pages) end ∙ (ap (λ (n : ℕ). report_with b.end n a.pages) forks ∙ ap (λ (n : ℕ). report_with b.end b.forks n) pages)

-- ---- one replay

-- what all records make
abbrev made_of : List Record → Option Store
made_of rs = apply_all empty (map entry_of rs)

-- an output of what all records make is as the one of a replay
same_replay : (upto : Option Lsn) (wal : Option Files) (end : Lsn) (report told : ReplayReport) (out : Option Files) (w : IsWholeReplay wal end (replay_end upto end) report out) (s : StoreSettings) (files : Option Files) (old new : Option Files) (tip : Tip) (store : Store) (entries : List Record)
    → files ≡ wal → HasSettings files s → IsRead s w.files upto entries tip End → whole entries (replayed_to upto tip) ≡ Some store → new ≡ option_map (λ m. files_of s.relseg store) old → (m : Files) → old ≡ Some m
    → told.end.0 ≡ end_by s.segment (replayed_to upto tip) entries → told.forks ≡ len store → told.pages ≡ page_count store → AreAlike out new report told
same_replay upto wal end report told out w s files old new tip store entries same given read made written m there last forks pages =
    let t : StoreSettings = w.settings in
    let here : IsSettingsOf w.files t = settings_in t wal w.files w.told w.given in
    let one : s ≡ t = one_settings w.files s t (settings_in s files w.files (same ∙ w.told) given) here in
    let size : IsSegmentMib t.segment = segment_size (get w.files (codes "settings")) t.segment t.relseg here.given in
    let read_there : IsRead t w.files upto entries tip End = subst (λ (x : StoreSettings). IsRead x w.files upto entries tip End) one read in
    let alike : ReadsAlike upto tip w.held.tip tip entries w.records = reads_alike t w.files upto (first_tip t.segment) tip w.held.tip tip entries w.records read_there.reads read_there.behind w.held.read (none_behind t w.records end.0 w.files w.held) (reads_rise t w.files (first_tip t.segment) w.records w.held.tip size (first_reached t.segment size) w.held.read) in
    let place : replayed_to upto tip ≡ replay_end upto end = place_is upto tip end (λ none. alike.whole none ∙ w.held.at) in
    let ending : ending_by (replayed_to upto tip) entries ≡ ending_by (replay_end upto end) w.records = alike.ending ∙ ap (λ (n : ℕ). ending_by n w.records) place in
    let stores : store ≡ w.store = some_is store w.store (sym made ∙ (ap made_of ending ∙ w.made)) in
    let outputs : new ≡ Some (files_of t.relseg w.store) =
    written ∙ (ap (option_map (λ x. files_of s.relseg store)) there
    ∙ (ap (λ (x : StoreSettings). Some (files_of x.relseg store)) one ∙ ap (λ (x : Store). Some (files_of t.relseg x)) stores)) in
    let ends : told.end.0 ≡ report.end.0 =
    last ∙ (ap (λ (x : StoreSettings). end_by x.segment (replayed_to upto tip) entries) one ∙ (end_of t.segment ending ∙ sym w.last)) in
    record {
      files = w.written ∙ sym outputs;
      reports = same_report report told (same_lsn report.end told.end (sym ends)) (w.forks ∙ (ap (λ (x : Store). len x) (sym stores) ∙ sym forks)) (w.pages ∙ (ap page_count (sym stores) ∙ sym pages));
    }
  where
    end_of : (mib : ℕ) → ending_by (replayed_to upto tip) entries ≡ ending_by (replay_end upto end) w.records → end_by mib (replayed_to upto tip) entries ≡ end_by mib (replay_end upto end) w.records
    end_of mib e = ap (last_end mib) e

-- ---- the law

module _ (known : Known) where
  pub as_replays : RestoresAreAsReplays
  as_replays before left old new was is run end start stop name out other upto report told taken ran last restored replayed =
      let w = runs_restored known before left old new run end start stop name out upto report taken ran last restored in
      let d : ReplayDone upto (replay_areas (output_name other) was) (replay_areas (output_name other) is) told = replayed.does.1.1 replayed.output_told in
      let there = some_told (was.areas (output_name other)).files replayed.output_told in
      let read : IsRead d.settings w.files upto d.read_is.entries d.read.tip End = at_told (was.areas wal_name).files w.files (λ m. IsRead d.settings m upto d.read_is.entries d.read.tip End) (replayed.wal ∙ w.told) d.read_is.archive in
      same_replay upto (left.areas wal_name).files end report told (new.areas (output_name out)).files w d.settings (was.areas wal_name).files (was.areas (output_name other)).files (is.areas (output_name other)).files d.read.tip d.read.store d.read_is.entries
      replayed.wal d.given read d.made d.written there.0 there.1 d.end d.forks d.pages
