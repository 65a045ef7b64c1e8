-- What `restore` makes of a backup that `run` took is what all records of the WAL make.
use Rattle.std.proofs.Common.{◌≡◌, ℕ, ◌<◌, ◌≤◌, List, [], ◌∷◌, ◌++◌, map, length, Option, Some, None, Result, Ok, IsSome, refl, sym, ap, subst, ◌∙◌, arith, inl, inr}
use Rattle.std.specs.Prelude.{codes}
use Rattle.std.specs.FinMap.{get}
use Rattle.std.proofs.lemmas.List.{append-nil, map-append}
use Rattle.lsn_core.specs.Files.{Files}
use Rattle.lsn_core.specs.Segment.{IsRelseg, IsSegmentMib, StoreSettings}
use Rattle.lsn_core.specs.Store.{Store}
use Rattle.lsn_core.specs.Tip.{Tip}
use Rattle.lsn_core.specs.declared.fault.StoreFault.{StoreFault}
use Rattle.lsn_core.specs.declared.lsn.Lsn.{Lsn}
use Rattle.vault.specs.Area.{Related}
use Rattle.vault.specs.Frame.{AgreeBut}
use Rattle.vault.specs.Lending.{Names, IsOneOf}
use Rattle.vault.specs.Site.{AreaState}
use Rattle.wal_record.specs.Tips.{first_tip}
use Rattle.wal_record.specs.declared.record.Record.{Record}
use Rattle.wal_archive.specs.Rules.{End, Gives}
use Rattle.wal_reader.specs.Settings.{IsSettingsOf}
use Rattle.wal_reader.specs.Wal.{ReadsOn, stands_behind}
use Rattle.wal_writer.specs.Stops.{IsSegmentFile}
use Rattle.history.specs.Entry.{Entry}
use Rattle.history.specs.Whole.{entry_of, whole}
use Rattle.history.specs.Written.{wal_of, tip_of}
use Rattle.history.specs.Redo.{redo_all}
use Rattle.history.specs.fuzzy_copies.Orderly.{IsOrderly}
use Rattle.history.specs.fuzzy_copies.Sound.{IsSoundCopy}
use Rattle.history.proofs.fuzzy_copies.Longer.{sound_later}
use Rattle.history.proofs.fuzzy_copies.Repeats.{entries_rise}
use Rattle.recovery.specs.Causes.{HasSettings}
use Rattle.recovery.specs.Onward.{IsReadFrom, replayed_to, end_from, ending_by}
use Rattle.recovery.specs.declared.reading.Beginning.TheVariants.{AtPlace}
use Rattle.recovery.specs.declared.replaying.Replayed.{Replayed}
use Rattle.store_locks.specs.Records.{HoldsRecords}
use Rattle.backup_sending.specs.Directory.{IsFullBackup}
use Rattle.backup_restore.specs.Restored.{MakesOf, IsRestored}
use Rattle.backup_restore.specs.Directories.{FilesHoldOneStore}
use Rattle.chain_check.specs.Directory.{IsAsListed}
use Rattle.chain_check.specs.declared.member.Member.{Member}
use Rattle.chain_files.specs.Held.{IsStoreOfChain}
use Rattle.chain_files.specs.Segments.{AllHaveForms, chain_segments}
use Rattle.chain_files.specs.Told.{all_told}
use Rattle.chain_laws.specs.Chain.{IsSoundChain}
use Rattle.command_base.specs.Areas.{wal_name, output_name, backup_name}
use Rattle.command_base.specs.Outside.{Outside}
use Rattle.command_base.proofs.Told.{some_told, at_told}
use Rattle.run_answers.specs.declared.outcome.RunReport.{RunReport}
use Rattle.run_command.specs.Run.{RunDone, HoldsRun, IsClosing, all_records, found_tip}
use Rattle.store_commands.specs.declared.replaying.ReplayReport.{ReplayReport}
use Rattle.store_commands.specs.Replay.{end_by}
use Rattle.chain_commands.specs.Chain.{AreMembersIn, IsChainTo, IsOfChain, backup_areas, files_told}
use Rattle.chain_commands.specs.Restore.{RestoreSeen, RestoresChain, restore_seen, restored_areas}
use Rattle.backup_laws.specs.Runs.{IsBackedUp, IsLastOfName, IsSoundBackup}
use Rattle.backup_laws.specs.Restores.{HasRun, HasRestored, replay_end, IsWholeReplay, RunsAndRestoresAreReplays}
use Rattle.backup_laws.proofs.ChainMembers.{members_listed, all_forms}
use Rattle.backup_laws.proofs.Members.{Known, places_told}
use Rattle.backup_laws.proofs.Reading.{none_behind, records_rise, IsCompleted, completed}
use Rattle.backup_laws.proofs.Settled.{segment_size, settings_stay}
use Rattle.backup_laws.proofs.SoundRuns.{runs_sound}

-- ---- the settings

pub related_told : (R : Files → Files → Type 0) (old new : Option Files) (m n : Files) → old ≡ Some m → new ≡ Some n → Related R old new → R m n
related_told R old new m n was is both = subst (λ (o : Option Files). Related R (Some m) o) is (subst (λ (o : Option Files). Related R o new) was both)

-- where the one tells, so does the other
pub related_some : (R : Files → Files → Type 0) (old new : Option Files) (m : Files) → old ≡ Some m → Related R old new → (n : Files) × (new ≡ Some n)
related_some R old None m was both = absurd (subst (λ (o : Option Files). Related R o None) was both)
related_some R old (Some n) m was both = (n, refl)

pub some_first : (s : StoreSettings) (files : Files) (found more : List Record) (last : Tip) → 0 < length found → ReadsOn s files (first_tip s.segment) (found ++ more) last → (r : Record) × (stands_behind s files (first_tip s.segment) ≡ Gives r)
some_first s files [] more last some walk = absurd (omega (arith, some))
some_first s files (r ∷ found) more last some walk = (r, walk.0)

pub settings_in : (s : StoreSettings) (files : Option Files) (m : Files) → files ≡ Some m → HasSettings files s → IsSettingsOf m s
settings_in s files m told has = at_told files m (λ n. IsSettingsOf n s) told has.given

-- ---- one restore

-- where a restore ends
pub place_is : (upto : Option Lsn) (tip : Tip) (end : Lsn) → (upto ≡ None → tip.end ≡ end.0) → replayed_to upto tip ≡ replay_end upto end
place_is None tip end reached = reached refl
place_is (Some target) tip end reached = refl

-- what it tells of what it made
pub record Tells (s : StoreSettings) (start : Lsn) (upto : Option Lsn) (entries : List Record) (replayed : Replayed) (report : ReplayReport) : Type 0 where
  pub last : report.end.0 ≡ end_from s.segment (AtPlace start) (ending_by (replayed_to upto replayed.tip) entries)
  pub forks : report.forks ≡ replayed.forks
  pub pages : report.pages ≡ replayed.pages

-- over a chain that holds a sound copy it makes what all records of the WAL make
pub made_whole : FilesHoldOneStore → (s : StoreSettings) (wal : Option Files) (files : Files) (chain : List Files) (records entries : List Record) (copy : Store) (start stop end : Lsn) (upto : Option Lsn) (replayed : Replayed) (report : ReplayReport) (out : Option Files)
    → wal ≡ Some files → HasSettings wal s → IsSegmentMib s.segment → HoldsRecords s records end.0 files → IsSoundCopy copy (map entry_of records) start.0 stop.0 → IsStoreOfChain s.relseg chain copy
    → IsReadFrom s files (AtPlace start) upto entries replayed.tip End → MakesOf s.relseg chain entries (replayed_to upto replayed.tip) replayed out → stop.0 ≤ replayed_to upto replayed.tip → Tells s start upto entries replayed report → IsWholeReplay wal end (replay_end upto end) report out
made_whole one s wal files chain records entries copy start stop end upto replayed report out told given size held sound there read made far tells =
    let tip : Tip = replayed.tip in
    let is : IsCompleted s records entries held.tip tip copy start upto = completed s files records entries held.tip tip copy start stop.0 upto size held.read (none_behind s records end.0 files held) sound read far in
    let same : made.copy ≡ copy = one s.relseg (chain_segments chain) made.copy copy made.held there in
    let place : replayed_to upto tip ≡ replay_end upto end = place_is upto tip end (λ none. is.reached none ∙ held.at) in
    record {
      files = files;
      told = told;
      settings = s;
      given = given;
      records = records;
      held = held;
      store = made.store;
      made = subst (λ (n : ℕ). whole records n ≡ Some made.store) place (sym is.made ∙ subst (λ (c : Store). redo_all c (ending_by (replayed_to upto tip) entries) ≡ Some made.store) same made.redone);
      written = made.written;
      holds = made.holds;
      pages_whole = made.pages_whole;
      last = subst (λ (n : ℕ). report.end.0 ≡ end_by s.segment n records) place (tells.last ∙ is.ends);
      forks = tells.forks ∙ made.forks;
      pages = tells.pages ∙ made.pages;
    }

-- ---- a WAL that a run left, and that later ones wrote on

-- a WAL has these records and more behind them, and ends at a place; it has no other settings than these
pub record HasGrown (s : StoreSettings) (records : List Record) (wal : Option Files) (end : Lsn) : Type 0 where
  pub files : Files
  pub told : wal ≡ Some files
  pub more : List Record
  pub held : HoldsRecords s (records ++ more) end.0 files
  pub settings : (t : StoreSettings) → IsSettingsOf files t → t ≡ s

-- what a run left
pub record HasLeft (s : StoreSettings) (found : List Record) (news : List Record) (was wal : Files) (end : Lsn) : Type 0 where
  pub held : HoldsRecords s (found ++ news) end.0 wal
  pub settings : IsSettingsOf was s → (t : StoreSettings) → IsSettingsOf wal t → t ≡ s

pub run_left : (when : ℕ) (before left : Outside) (run : RunReport) (end : Lsn) (done : RunDone when before.areas left.areas run) (was : Files) → HasRun before left run end → (before.areas wal_name).files ≡ Some was
    → (wal : Files) × ((left.areas wal_name).files ≡ Some wal) × HasLeft done.settings done.found (wal_of done.settings.segment done.history) was wal end
run_left when before left run end done was ran told =
    let s : StoreSettings = done.settings in
    let closing : IsClosing s done.found done.history before.areas left.areas (Ok end) = subst (λ (r : Result Lsn StoreFault). IsClosing s done.found done.history before.areas left.areas r) ran.closed done.closing in
    let holds : HoldsRun s done.found done.history left.areas = closing.1 ran.told in
    let wal : Files = holds.files in
    let held : HoldsRecords s (all_records s done.found done.history) end.0 wal = subst (λ (n : ℕ). HoldsRecords s (all_records s done.found done.history) n wal) (sym closing.0) holds.records in
    let first = some_first s wal done.found (wal_of s.segment done.history) held.tip done.some held.read in
    let from : ℕ = (found_tip s done.found).end in
    let to : ℕ = (tip_of s.segment done.history).end in
    let agree : AgreeBut (IsSegmentFile s.segment from to) was wal = related_told (AgreeBut (IsSegmentFile s.segment from to)) (before.areas wal_name).files (left.areas wal_name).files was wal told holds.told done.left.files in
    (wal, holds.told, record { held = held; settings = λ given t is. settings_stay s t was wal from to first.0 given is agree first.1 })

-- ---- a restore over such a WAL

-- a member tells these places
abbrev TellsPlaces : Member → Lsn → Lsn → Type 0
TellsPlaces member start stop = (member.label.start ≡ start) × (member.manifest.end ≡ stop.0)

-- the areas of the members tell what they told before
pub same_told : (names : Names) (old last : Outside) → ((name : List ℕ) → IsOneOf name names → (old.areas (backup_name name)).files ≡ (last.areas (backup_name name)).files) → files_told (backup_areas names old.areas) ≡ files_told (backup_areas names last.areas)
same_told names old last same = ap all_told (each names same)
  where
    each : (ns : Names) → ((name : List ℕ) → IsOneOf name ns → (old.areas (backup_name name)).files ≡ (last.areas (backup_name name)).files) → map (λ area. area.files) (backup_areas ns old.areas) ≡ map (λ area. area.files) (backup_areas ns last.areas)
    each [] same = refl
    each (n ∷ ns) same =
        ap (λ (o : Option Files). o ∷ map (λ area. area.files) (backup_areas ns old.areas)) (same n (inl refl))
        ∙ ap (λ (os : List (Option Files)). (last.areas (backup_name n)).files ∷ os) (each ns (λ name one. same name (inr one)))

module _ (known : Known) where
  pub chain_restored : (s : StoreSettings) (records : List Record) (last old new : Outside) (end start stop : Lsn) (names : Names) (out : List ℕ) (upto : Option Lsn) (report : ReplayReport) (chain : List Files) → IsSegmentMib s.segment → HasGrown s records (last.areas wal_name).files end
      → files_told (backup_areas names last.areas) ≡ Some chain → IsSoundChain s.relseg (map entry_of records) chain start.0 stop.0 → (restored : HasRestored last upto out names old new report) → (restored.does.1.newest.label.start ≡ start) × (restored.does.1.newest.manifest.end ≡ stop.0) → IsWholeReplay (last.areas wal_name).files end (replay_end upto end) report (new.areas (output_name out)).files
  chain_restored s records last old new end start stop names out upto report chain size grown chain_is is restored places =
      let output : List ℕ = output_name out in
      let all : List Record = records ++ grown.more in
      let was : RestoreSeen = restore_seen names output old in
      let now : RestoreSeen = restore_seen names output new in
      let chain_told : files_told was.members ≡ Some chain = same_told names old last restored.backups ∙ chain_is in
      let of : IsOfChain names was.members (RestoresChain upto was now report) = restored.does.1 in
      let forms : AllHaveForms chain = all_forms known.forms chain (of.chain.older ++ (of.newest ∷ [])) (members_listed names was.members (of.chain.older ++ (of.newest ∷ [])) chain of.chain.are chain_told) in
      let r : RestoresChain upto was now report of.newest = of.holds in
      let told : (old.areas wal_name).files ≡ Some grown.files = restored.wal ∙ grown.told in
      let same : r.settings ≡ s = grown.settings r.settings (settings_in r.settings (old.areas wal_name).files grown.files told r.given) in
      let came : IsRestored s start upto (restored_areas was) (restored_areas now) r.replayed =
      subst (λ (t : StoreSettings). IsRestored t start upto (restored_areas was) (restored_areas now) r.replayed) same
      (subst (λ (l : Lsn). IsRestored r.settings l upto (restored_areas was) (restored_areas now) r.replayed) places.0 r.restored) in
      let read : IsReadFrom s grown.files (AtPlace start) upto came.entries r.replayed.tip End = at_told (old.areas wal_name).files grown.files (λ m. IsReadFrom s m (AtPlace start) upto came.entries r.replayed.tip End) told came.read.archive in
      let made : MakesOf s.relseg chain came.entries (replayed_to upto r.replayed.tip) r.replayed (new.areas output).files =
      at_told (files_told was.members) chain (λ c. AllHaveForms c → MakesOf s.relseg c came.entries (replayed_to upto r.replayed.tip) r.replayed (new.areas output).files) chain_told (came.made restored.output_told) forms in
      let far : stop.0 ≤ replayed_to upto r.replayed.tip = subst (λ (n : ℕ). n ≤ replayed_to upto r.replayed.tip) places.1 (r.reached (inl (subst (λ (o : Option Files). IsSome o) (sym told) refl))) in
      let orderly : IsOrderly 0 (map entry_of records ++ map entry_of grown.more) = subst (IsOrderly 0) (map-append entry_of records grown.more) (entries_rise 0 all (records_rise s grown.files all grown.held.tip size grown.held.read)) in
      let sound : IsSoundCopy is.copy (map entry_of all) start.0 stop.0 = subst (λ (es : List Entry). IsSoundCopy is.copy es start.0 stop.0) (sym (map-append entry_of records grown.more)) (sound_later is.copy (map entry_of records) (map entry_of grown.more) start.0 stop.0 orderly is.sound) in
      made_whole known.one s (last.areas wal_name).files grown.files chain all came.entries is.copy start stop end upto r.replayed report (new.areas output).files grown.told
      (subst (λ (t : StoreSettings). HasSettings (last.areas wal_name).files t) same (subst (λ (o : Option Files). HasSettings o r.settings) restored.wal r.given)) size grown.held sound is.held read made far
      (record { last = r.end ∙ came.end; forks = r.forks; pages = r.pages })

  -- ---- of a full backup alone

  alone_tells : (s : StoreSettings) (when : ℕ) (area : AreaState) (copy : Store) (start checkpoint stop : Lsn) (count : ℕ) (name : List ℕ) (backup : Files) (newest : Member) → area.files ≡ Some backup → IsFullBackup s name when copy start checkpoint stop count (Some backup)
      → IsChainTo (name ∷ []) (area ∷ []) newest → TellsPlaces newest start stop
  alone_tells s when area copy start checkpoint stop count name backup newest told directory chain = by chain.older chain.are
    where
      by : (older : List Member) → AreMembersIn (name ∷ []) (area ∷ []) (older ++ (newest ∷ [])) → TellsPlaces newest start stop
      by [] are = places_told known.texts s name when copy start checkpoint stop count backup newest directory (at_told area.files backup (λ m. (newest.name ≡ name) × IsAsListed m newest) told are.0).1
      by (m ∷ []) are = absurd are.1
      by (m ∷ (n ∷ older)) are = absurd are.1

  pub restored_over : (s : StoreSettings) (when : ℕ) (records : List Record) (last old new : Outside) (end start stop : Lsn) (name out : List ℕ) (upto : Option Lsn) (report : ReplayReport) → IsRelseg s.relseg → IsSegmentMib s.segment → HasGrown s records (last.areas wal_name).files end
      → IsSoundBackup s when records name start stop (last.areas (backup_name name)).files → HasRestored last upto out (name ∷ []) old new report → IsWholeReplay (last.areas wal_name).files end (replay_end upto end) report (new.areas (output_name out)).files
  restored_over s when records last old new end start stop name out upto report range size grown is restored =
      let backup : List ℕ = backup_name name in
      let kept = some_told (old.areas backup).files (restored.backups_told name (inl refl)) in
      let same : (old.areas backup).files ≡ (last.areas backup).files = restored.backups name (inl refl) in
      let there : (last.areas backup).files ≡ Some kept.0 = sym same ∙ kept.1 in
      let directory : IsFullBackup s name when is.copy start is.checkpoint stop is.count (Some kept.0) = subst (λ (o : Option Files). IsFullBackup s name when is.copy start is.checkpoint stop is.count o) there is.directory in
      chain_restored s records last old new end start stop (name ∷ []) out upto report (kept.0 ∷ []) size grown (ap (λ (o : Option Files). all_told (o ∷ [])) there)
      (record { copy = is.copy; held = known.copies s name when is.copy start is.checkpoint stop is.count kept.0 range directory; sound = is.sound })
      restored (alone_tells s when (old.areas backup) is.copy start is.checkpoint stop is.count name kept.0 restored.does.1.newest kept.1 directory restored.does.1.chain)

-- ---- what a run left

-- the WAL, and its settings
pub run_grown : (when : ℕ) (before left : Outside) (run : RunReport) (end : Lsn) (done : RunDone when before.areas left.areas run) → HasRun before left run end → HasGrown done.settings (all_records done.settings done.found done.history) (left.areas wal_name).files end × IsSegmentMib done.settings.segment
run_grown when before left run end done ran =
    let s : StoreSettings = done.settings in
    let records : List Record = all_records s done.found done.history in
    let was = some_told (before.areas wal_name).files (ran.told wal_name (inl refl)) in
    let given : IsSettingsOf was.0 s = settings_in s (before.areas wal_name).files was.0 was.1 done.given in
    let l = run_left when before left run end done was.0 ran was.1 in (
      record {
        files = l.0;
        told = l.1;
        more = [];
        held = subst (λ (rs : List Record). HoldsRecords s rs end.0 l.0) (sym (append-nil records)) l.2.held;
        settings = l.2.settings given;
      },
      segment_size (get was.0 (codes "settings")) s.segment s.relseg given.given,
    )

-- a backup
pub run_backed : (when : ℕ) (before left : Outside) (run : RunReport) (end start stop : Lsn) (name : List ℕ) (done : RunDone when before.areas left.areas run) (taken : IsBackedUp run.told name start stop) → HasRun before left run end → IsLastOfName run.told name start stop taken
    → IsSoundBackup done.settings when (all_records done.settings done.found done.history) name start stop (left.areas (backup_name name)).files
run_backed when before left run end start stop name done taken ran last =
    let sound = runs_sound when before.areas left.areas run done name start stop taken ran.told in
    subst (λ (o : Option Files). IsSoundBackup done.settings when (all_records done.settings done.found done.history) name start stop o) (sym (sound.3 last).files) sound.1

-- ---- the law

module _ (known : Known) where
  pub runs_restored : RunsAndRestoresAreReplays
  runs_restored before left old new run end start stop name out upto report taken ran last restored =
      let when : ℕ = ran.when in
      let done : RunDone when before.areas left.areas run = ran.done in
      let grown = run_grown when before left run end done ran in
      restored_over known done.settings when (all_records done.settings done.found done.history) left old new end start stop name out upto report done.given.blocks grown.1 grown.0
      (run_backed when before left run end start stop name done taken ran last) restored
