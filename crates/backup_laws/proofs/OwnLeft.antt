-- What a run leaves is what the next one finds of this program's own: tidy entries, and summaries that
-- are honest for them.
use Rattle.std.proofs.Common.{◌≡◌, ℕ, ◌<◌, Bool, true, false, cond, ◌&&◌, ◌||◌, List, [], ◌∷◌, ◌++◌, map, length, get_or, Option, Some, None, IfSome, IsSome, refl, sym, ap, subst, ◌∙◌, arith, inl, Ok}
use Rattle.std.specs.Prelude.{◌==◌, ◌*◌, ◌/◌}
use Rattle.std.specs.List.{list_any}
use Rattle.std.specs.FinMap.{empty, get, get-empty}
use Rattle.std.proofs.lemmas.List.{map-append}
use Rattle.std.specs.Ordering.{nat_cmp}
use Rattle.std.specs.Cmp.Lexicographic.{slice_cmp}
use Rattle.lsn_core.specs.byte_words.Told.{when_told}
use Rattle.lsn_core.specs.Files.{Files}
use Rattle.lsn_core.specs.Segment.{StoreSettings}
use Rattle.lsn_core.specs.Store.{Store}
use Rattle.lsn_core.specs.Tip.{Tip}
use Rattle.lsn_core.specs.declared.lsn.Lsn.{Lsn}
use Rattle.wal_record.specs.Tips.{first_tip}
use Rattle.wal_record.specs.declared.record.Record.{Record}
use Rattle.wal_reader.specs.Settings.{IsSettingsOf}
use Rattle.wal_reader.specs.Wal.{ReadsOn, stands_behind}
use Rattle.wal_reader.proofs.OneSettings.{one_settings}
use Rattle.history.specs.Apply.{apply_all}
use Rattle.history.specs.Entry.{Act, Create, Truncate, Change, Drop, Mark, Shutdown, Online, RedoMark, NoOp, BackupEnd, IdleCut, IdleCommit, Entry}
use Rattle.history.specs.Laws.{AreWrittenInPlace}
use Rattle.history.specs.Whole.{act_of, entry_of, cuts_main}
use Rattle.history.specs.Written.{Before, behind, is_redo, kind_of, next_record, wal_of, written}
use Rattle.history.specs.fuzzy_copies.Covers.{AreTidy}
use Rattle.history.specs.fuzzy_copies.Logged.{history_of, found_before, log_of, StartInPlace, AreLogged}
use Rattle.history.specs.fuzzy_copies.Summary.{summary_of}
use Rattle.history.proofs.fuzzy_copies.ReadBack.{log_is_written}
use Rattle.history.proofs.fuzzy_copies.SummedAlike.{summed_alike}
use Rattle.history.proofs.fuzzy_copies.TidyLogs.{logs_tidy}
use Rattle.wal_summary.proofs.Tables.{same_table}
use Rattle.wal_summary.specs.declared.summary.Summary.{Summary}
use Rattle.summary_store.specs.Honest.{is_redo_start, is_redo_point, IsHonest, IsHonestSummary}
use Rattle.journal.specs.Lawful.{IsLawful}
use Rattle.recovery.specs.Causes.{HasSettings}
use Rattle.recovery.proofs.OneWal.{Stops}
use Rattle.command_base.specs.Areas.{wal_name, sums_name}
use Rattle.command_base.proofs.Told.{at_told, some_told}
use Rattle.command_base.specs.Outside.{Outside}
use Rattle.crew.specs.Run.{IsHonestFor}
use Rattle.run_command.specs.Run.{RunDone, HasFound, all_records, found_tip}
use Rattle.run_command.proofs.OwnEntries.{AreOwn}
use Rattle.command_line.specs.declared.options.InitOptions.{InitOptions}
use Rattle.store_commands.specs.Init.{InitDoes, InitDone, HasFirstAlone, new_settings, init_areas, first_entry, new_tip}
use Rattle.backup_laws.specs.Restores.{PastRun, HasRun}
use Rattle.backup_laws.specs.ChainRestores.{FoundOwn, RanOn, RanInTurn, RunsLeaveTheirOwn, NewStoresAreOwn, EndedWell, RanSince, RunsSinceInitAreInTurn}
use Rattle.backup_laws.proofs.ChainRuns.{tidy_history}
use Rattle.backup_laws.proofs.Reading.{read_once, none_behind, end_stops}
use Rattle.backup_laws.proofs.RestoredRuns.{settings_in}
use Rattle.backup_laws.proofs.SoundRuns.{own_entries, log_alike}
use Rattle.backup_laws.proofs.Telling.{runs_tell}
use Rattle.backup_laws.proofs.WalsLeft.{IsWalOf, first_leaves, stayed}

-- ---- redo points of what is read back

redo_back : (store : Store) (redo : ℕ) (act : Act) → is_redo (act_of (kind_of store redo act)) ≡ is_redo act
redo_back store redo (Create fork) = refl
redo_back store redo (Truncate rel count) = refl
redo_back store redo (Change items) = refl
redo_back store redo (Drop []) = refl
redo_back store redo (Drop (rel ∷ rels)) = refl
redo_back store redo (Mark (IdleCommit time)) = refl
redo_back store redo (Mark (Shutdown at)) = refl
redo_back store redo (Mark (Online at)) = refl
redo_back store redo (Mark (RedoMark n)) = refl
redo_back store redo (Mark NoOp) = refl
redo_back store redo (Mark (BackupEnd start)) = refl
redo_back store redo (Mark (IdleCut rel count others)) = elim (cuts_main (2 * others)) as (λ b. is_redo (cond b (Truncate rel count) (Mark (IdleCut rel count (2 * others / 2)))) ≡ false) [ true ↦ refl | false ↦ refl ]

own_points : (mib : ℕ) (b : Before) (own : List Entry) (place : ℕ) → StartInPlace mib b own → AreWrittenInPlace mib b own → list_any (is_redo_start place) (map entry_of (written mib b own)) ≡ list_any (is_redo_start place) own
own_points mib b [] place starts placed = refl
own_points mib b (e ∷ es) place starts placed =
    let r : Record = next_record mib b e.act in
    let more : List Record = written mib (behind b e) es in
    let first : is_redo_start place (entry_of r) ≡ is_redo_start place e =
    ap (λ (t : Bool). t && (r.start.0 == place)) (redo_back b.store b.tip.redo e.act) ∙ ap (λ (n : ℕ). is_redo e.act && (n == place)) (sym starts.0) in
    subst (λ c. list_any (is_redo_start place) (map entry_of (cond c (r ∷ more) more)) ≡ list_any (is_redo_start place) (e ∷ es)) (sym placed.0)
    (ap (λ (t : Bool). t || list_any (is_redo_start place) (map entry_of more)) first
    ∙ ap (λ (t : Bool). is_redo_start place e || t) (own_points mib (behind b e) es place starts.1 placed.1.1.1.1))

any_alike : (t : Entry → Bool) (front es ls : List Entry) → list_any t ls ≡ list_any t es → list_any t (front ++ ls) ≡ list_any t (front ++ es)
any_alike t [] es ls same = same
any_alike t (x ∷ front) es ls same = ap (λ (b : Bool). t x || b) (any_alike t front es ls same)

-- a log has the redo points of its history
log_points : (mib : ℕ) (found : List Record) (own : List Entry) (place : ℕ) → 0 < length found → AreLogged mib found own → is_redo_point (map entry_of (log_of mib found own)) place ≡ is_redo_point (history_of found own) place
log_points mib [] own place some logged = absurd (omega (arith, some))
log_points mib (r ∷ rs) own place some logged =
    let found : List Record = r ∷ rs in
    let b : Before = found_before mib found in
    let ls : List Entry = map entry_of (written mib b own) in
    let parts : map entry_of (log_of mib found own) ≡ map entry_of found ++ ls = ap (map entry_of) (log_is_written mib found own) ∙ map-append entry_of found (written mib b own) in
    ap (λ (es : List Entry). is_redo_point es place) parts
    ∙ ap (λ (t : Bool). (r.start.0 == place) || t) (any_alike (is_redo_start place) (map entry_of found) own ls (own_points mib b own place logged.starts logged.written))

-- ---- summaries

-- a summary that is honest for a history is so for the entries that its log is read back as
pub summary_read : (mib : ℕ) (found : List Record) (own : List Entry) (sum : Summary) → 0 < length found → AreLogged mib found own → IsHonestSummary (history_of found own) sum → IsHonestSummary (map entry_of (log_of mib found own)) sum
summary_read mib found own sum some logged one =
    let from : ℕ = sum.start.0 in
    let to : ℕ = sum.end.0 in
    record {
      starts = log_points mib found own from some logged ∙ one.starts;
      ends = log_points mib found own to some logged ∙ one.ends;
      says = record {
        sorted = one.says.sorted;
        says = one.says.says ∙ sym (same_table (summary_of (map entry_of (log_of mib found own)) from to) (summary_of (history_of found own) from to) (summed_alike mib found own from to logged));
      };
    }

-- so is an area
honest_read : (mib : ℕ) (found : List Record) (own : List Entry) (files : Files) → 0 < length found → AreLogged mib found own → IsHonest (history_of found own) files → IsHonest (map entry_of (log_of mib found own)) files
honest_read mib found own files some logged honest = λ name bytes sum there named is.
    summary_read mib found own sum some logged (honest name bytes sum there named is)

-- ---- entries

-- the log of a lawful history is tidy where what was found is
pub log_tidy : (mib : ℕ) (found : List Record) (own history : List Entry) (law : IsLawful mib history) → history ≡ map entry_of found ++ own → AreOwn own → AreTidy empty (map entry_of found) → AreTidy empty (map entry_of (found ++ wal_of mib history))
log_tidy mib found own history law grown owns tidy =
    subst (AreTidy empty) (log_alike mib found own history law grown owns)
    (logs_tidy mib law.found law.own law.store law.logged (subst (λ (es : List Entry). apply_all empty es ≡ Some law.store) law.grown law.made) (subst (AreTidy empty) law.grown (tidy_history mib found own history law grown owns tidy)))

-- ---- a store that is this program's own

-- just these records are read of the files of a WAL, whatever stands behind them; it has no other
-- settings than these
pub record JustReads (s : StoreSettings) (records : List Record) (wal : Option Files) : Type 0 where
  pub files : Files
  pub told : wal ≡ Some files
  pub tip : Tip
  pub read : ReadsOn s files (first_tip s.segment) records tip
  pub stops : Stops (stands_behind s files tip)
  pub settings : (t : StoreSettings) → IsSettingsOf files t → t ≡ s

-- a WAL that tells its files and an area of summaries are this program's own: the entries are tidy, and
-- the summaries honest for them
pub record IsOwnStore (wal sums : Option Files) : Type 0 where
  pub settings : StoreSettings
  pub records : List Record
  pub log : JustReads settings records wal
  pub tidy : AreTidy empty (map entry_of records)
  pub honest : IfSome sums (IsHonest (map entry_of records))

-- what is found of a WAL are its records
pub finds_just : (s t : StoreSettings) (records found : List Record) (wal now : Option Files) → JustReads s records wal → now ≡ wal → HasSettings now t → IfSome now (HasFound t found) → (t ≡ s) × (found ≡ records)
finds_just s t records found wal now w same given archive =
    let told : now ≡ Some w.files = same ∙ w.told in
    let one : t ≡ s = w.settings t (settings_in t now w.files told given) in
    let has : HasFound s found w.files = subst (λ (x : StoreSettings). HasFound x found w.files) one (at_told now w.files (λ m. HasFound t found m) told archive) in
    (one, read_once s w.files (first_tip s.segment) found records (found_tip s found) w.tip has.walk (end_stops (stands_behind s w.files (found_tip s found)) has.ended) w.read w.stops)

-- what a run finds there is so
pub finds_own : (wal sums : Option Files) (next : PastRun) (on : HasRun next.before next.left next.report next.end) → IsOwnStore wal sums → (next.before.areas wal_name).files ≡ wal → (next.before.areas sums_name).files ≡ sums → FoundOwn next on
finds_own wal sums next on own same kept =
    let n : RunDone on.when next.before.areas next.left.areas next.report = on.done in
    let is : n.found ≡ own.records = (finds_just own.settings n.settings own.records n.found wal (next.before.areas wal_name).files own.log same n.given n.archive).1 in
    record {
      tidy = subst (λ (rs : List Record). AreTidy empty (map entry_of rs)) (sym is) own.tidy;
      honest = subst (λ (o : Option Files). IfSome o (IsHonest (map entry_of n.found))) (sym kept)
          (subst (λ (rs : List Record). IfSome sums (IsHonest (map entry_of rs))) (sym is) own.honest);
    }

-- ---- the law

-- what a run leaves that found so and closed its store
pub leaves_own : (run : PastRun) (ran : HasRun run.before run.left run.report run.end) → FoundOwn run ran → IsOwnStore (run.left.areas wal_name).files (run.left.areas sums_name).files
leaves_own run ran finds =
    let d : RunDone ran.when run.before.areas run.left.areas run.report = ran.done in
    let s : StoreSettings = d.settings in
    let all : List Record = all_records s d.found d.history in
    let law : IsLawful s.segment d.history = d.happened.lawful ran.told in
    let owns : AreOwn d.happened.own = own_entries _ d.happened.own d.happened.of_run in
    let read : List Entry = map entry_of (log_of s.segment law.found law.own) in
    let entries : map entry_of all ≡ read = sym (log_alike s.segment d.found d.happened.own d.history law d.happened.grown owns) in
    let honest : IsHonestFor d.history (run.left.areas sums_name) = d.honest ran.told finds.honest in
    let w : IsWalOf s all (run.left.areas wal_name).files run.end = (first_leaves ran.when run.before run.left run.report run.end d ran).0 in
    record {
      settings = s;
      records = all;
      log = record { files = w.files; told = w.told; tip = w.held.tip; read = w.held.read; stops = none_behind s all run.end.0 w.files w.held; settings = w.settings };
      tidy = log_tidy s.segment d.found d.happened.own d.history law d.happened.grown owns finds.tidy;
      honest = when_told (run.left.areas sums_name).files (IsHonest d.history) (IsHonest (map entry_of all))
          (λ m h. subst (λ (es : List Entry). IsHonest es m) (sym entries) (honest_read s.segment law.found law.own m law.some law.logged (subst (λ (es : List Entry). IsHonest es m) law.grown h))) honest;
    }

pub own_left : RunsLeaveTheirOwn
own_left run next ran on wal sums finds =
    finds_own (run.left.areas wal_name).files (run.left.areas sums_name).files next on (leaves_own run ran finds) wal sums

-- ---- a new store

apart : sums_name ≡ wal_name → ⊥
apart e = (let first : 115 ≡ 119 = ap (λ (x : List ℕ). get_or x 0 0) e in omega (arith, first))

-- no file is there, so each is honest
none_honest : (entries : List Entry) (files : Files) → files ≡ empty → IsHonest entries files
none_honest entries files none = λ name bytes sum there named is.
    absurd (let e : Some bytes ≡ None = sym there ∙ (ap (λ (m : Files). get m name) none ∙ get-empty (slice_cmp nat_cmp) name) in cc)

pub new_store : (options : InitOptions) (old new : Outside) (end : Lsn) → InitDoes options old new (Ok end) → IsSome (new.areas wal_name).files → IsOwnStore (new.areas wal_name).files (new.areas sums_name).files
new_store options old new end did some =
    let s : StoreSettings = new_settings options did.1.0 in
    let made : InitDone s (init_areas old) (init_areas new) end = did.1.2 in
    let there = some_told (new.areas wal_name).files some in
    let first : List Record = first_entry s.segment ∷ [] in
    let given : IsSettingsOf there.0 s = at_told (new.areas wal_name).files there.0 (λ m. IsSettingsOf m s) there.1 made.reads.settings in
    let alone : HasFirstAlone s there.0 = at_told (new.areas wal_name).files there.0 (HasFirstAlone s) there.1 made.reads.archive in
    record {
      settings = s;
      records = first;
      log = record {
        files = there.0;
        told = there.1;
        tip = new_tip s.segment;
        read = alone.walk;
        stops = end_stops (stands_behind s there.0 (new_tip s.segment)) alone.ended;
        settings = λ t is. one_settings there.0 t s is given;
      };
      tidy = (tt, λ store done. tt);
      honest = subst (λ (o : Option Files). IfSome o (IsHonest (map entry_of first))) (sym kept)
          (when_told (old.areas sums_name).files (λ m. m ≡ empty) (IsHonest (map entry_of first)) (none_honest (map entry_of first)) made.sums_clear);
    }
  where
    kept : (new.areas sums_name).files ≡ (old.areas sums_name).files
    kept = did.0.0.others sums_name (apart, tt)

pub new_own : NewStoresAreOwn
new_own options old new end next on did wal sums =
    let some : IsSome (new.areas wal_name).files = subst (λ (o : Option Files). IsSome o) wal (on.told wal_name (inl refl)) in
    finds_own (new.areas wal_name).files (new.areas sums_name).files next on (new_store options old new end did some) wal sums

-- ---- all runs since then

module _ (options : InitOptions) (old made : Outside) (end : Lsn) (did : InitDoes options old made (Ok end)) where
  abbrev ended_of : (run : PastRun) (earlier : List PastRun) → RanSince made run earlier → EndedWell run
  ended_of run [] since = since.0
  ended_of run (prior ∷ earlier) since = since.0

  own_since : (run : PastRun) (earlier : List PastRun) (since : RanSince made run earlier) → FoundOwn run (ended_of run earlier since).ran
  own_since run [] since = new_own options old made end run since.0.ran did since.1.wal since.1.sums
  own_since run (prior ∷ earlier) since =
      let was : EndedWell prior = ended_of prior earlier since.2 in
      own_left prior run was.ran since.0.ran since.1.wal since.1.sums (own_since prior earlier since.2)

  ran_on : (run : PastRun) (earlier : List PastRun) → RanSince made run earlier → RanOn run
  ran_on run earlier since =
      let well : EndedWell run = ended_of run earlier since in
      record {
        ran = well.ran;
        tells = runs_tell well.ran.when run.before.areas run.left.areas run.report well.ran.done well.ran.told well.tells;
        finds = own_since run earlier since;
      }

  in_turn : (run : PastRun) (earlier : List PastRun) → RanSince made run earlier → RanInTurn run earlier
  in_turn run [] since = ran_on run [] since
  in_turn run (prior ∷ earlier) since =
      (ran_on run (prior ∷ earlier) since, stayed (prior.left.areas wal_name).files (run.before.areas wal_name).files since.1.wal, in_turn prior earlier since.2)

pub since_init : RunsSinceInitAreInTurn
since_init options old made end latest earlier did since = in_turn options old made end did latest earlier since
