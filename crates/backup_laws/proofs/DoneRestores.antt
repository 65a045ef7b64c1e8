-- A chain of completed backups is restored, over a sound WAL and to an output that holds no file.
use Rattle.std.proofs.Common.{◌≡◌, ℕ, ◌≤◌, List, [], ◌∷◌, ◌++◌, map, Option, Some, None, IfSome, IfOk, Ok, Err, refl, sym, ap, subst, ◌∙◌, arith, inl, inr}
use Rattle.std.specs.FinMap.{empty}
use Rattle.lsn_core.specs.byte_words.Numbers.{◌>>=◌}
use Rattle.lsn_core.specs.Files.{Files}
use Rattle.lsn_core.specs.Segment.{StoreSettings}
use Rattle.lsn_core.specs.Store.{Store}
use Rattle.lsn_core.specs.Tip.{Tip}
use Rattle.lsn_core.specs.declared.lsn.Lsn.{Lsn}
use Rattle.vault.specs.Area.{Related}
use Rattle.vault.specs.Lending.{Names}
use Rattle.wal_record.specs.Tips.{first_tip, tip_after}
use Rattle.wal_record.specs.declared.record.Record.{Record}
use Rattle.wal_archive.specs.Rules.{End}
use Rattle.wal_reader.specs.Settings.{IsSettingsOf, refusals}
use Rattle.wal_reader.specs.Wal.{ReadsOn, IsWal, IsWalFrom, stands_behind, tip_at}
use Rattle.wal_reader.specs.declared.fault.WalFault.TheVariants as reader
use Rattle.wal_reader.proofs.OneSettings.{one_settings, settings_or_refused}
use Rattle.wal_reader.proofs.wal_pieces.Onwards.{rest_read}
use Rattle.history.specs.Entry.{Entry}
use Rattle.history.specs.Redo.{redo, redo_all}
use Rattle.history.specs.Whole.{entry_of}
use Rattle.history.specs.fuzzy_copies.Orderly.{IsOrderly}
use Rattle.history.specs.fuzzy_copies.Sound.{IsSoundCopy}
use Rattle.history.proofs.fuzzy_copies.Longer.{sound_later}
use Rattle.history.proofs.fuzzy_copies.Repeats.{entries_rise}
use Rattle.recovery.specs.declared.fault.RecoveryFault.{RecoveryFault}
use Rattle.recovery.specs.declared.fault.RecoveryFault.TheVariants.{Damaged, Short, BadDelta, SettingsDamaged, Timeline, NotInit, Failed, NoMemory}
use Rattle.recovery.specs.declared.reading.Beginning.TheVariants.{AtPlace}
use Rattle.recovery.specs.Onward.{IsReadFrom, HasDamageFrom, replayed_to, ending_by}
use Rattle.recovery.specs.Replay.{bad_behind}
use Rattle.recovery.specs.Recovered.{first_bad_redo}
use Rattle.recovery.specs.Causes.{IsShortFrom, HasSettings, CauseOf}
use Rattle.backup_restore.specs.Restored.{HasBadEntry}
use Rattle.backup_restore.proofs.OneReading.{both_end}
use Rattle.backup_restore.proofs.Rising.{parted_at}
use Rattle.chain_files.specs.Held.{IsStoreOfChain}
use Rattle.chain_files.specs.Segments.{AllHaveForms, chain_segments}
use Rattle.chain_check.specs.declared.member.Member.{Member}
use Rattle.store_locks.specs.Records.{HoldsRecords}
use Rattle.command_base.specs.Areas.{wal_name, output_name}
use Rattle.command_base.specs.Faults.{wal_status}
use Rattle.command_base.specs.Outside.{Outside}
use Rattle.command_base.proofs.Told.{at_told}
use Rattle.chain_commands.specs.declared.chain.Joining.TheVariants as join
use Rattle.chain_commands.specs.Chain.{backup_areas, files_told, IsChainTo}
use Rattle.chain_commands.specs.Restore.{RestoreSeen, RestoreResult, RestoreDoes, IsLate, IsEarly, EndsAt, IsUnredone, ReadsPast, restore_seen, wal_causes_from, restore_status}
use Rattle.chain_commands.specs.declared.restoring.RestoreFault.TheVariants as restore
use Rattle.backup_laws.specs.Restores.{PastRun, GoesOnFrom, IsWholeTo, replay_end, IsWholeReplay}
use Rattle.backup_laws.specs.Success.{IsDoneOrFails, TellsEmpty, IsSoundWal, IsNotPast}
use Rattle.backup_laws.specs.RestoreSuccess.{CompletedChainsAreRestored}
use Rattle.merge_laws.specs.Members.{AreAsListed}
use Rattle.backup_laws.proofs.ChainMembers.{members_listed, all_forms}
use Rattle.backup_laws.proofs.ChainRestored.{IsSoundTo, completed_sound, chains_restored}
use Rattle.backup_laws.proofs.ChainRuns.{KnownOfChains}
use Rattle.backup_laws.proofs.CombinedChains.{KnownOfCombining}
use Rattle.backup_laws.proofs.MergedSeries.{KnownOfMerging}
use Rattle.backup_laws.proofs.DoneCommands.{area_fails, not_full, told_some}
use Rattle.backup_laws.proofs.Members.{Known}
use Rattle.backup_laws.proofs.NotRefused.{not_damaged, not_short, whole_made, ends_within, reads_all, wal_size, wal_rise, wal_rise_all}
use Rattle.backup_laws.proofs.Reading.{end_stops, read_front, IsCompleted, completed}
use Rattle.backup_laws.proofs.RestoredRuns.{related_told}
use Rattle.backup_laws.proofs.TakenMembers.{KnownOfChecks, each_told, told_by_name, same_newest, members_done}
use Rattle.backup_laws.proofs.WalsLeft.{IsWalOf, entries_both}

-- ---- entries are redone, or one can't be

redone_none : (start place : ℕ) (o : Option Store) (last : Store) (f : Store → Option Store) (g : Store → Option ℕ) → ((s : Store) → f s ≡ Some last → g s ≡ Some place → ⊥) → (o >>= f) ≡ Some last → bad_behind start o g ≡ Some place → ⊥
redone_none start place None last f g step redone bad = absurd cc
redone_none start place (Some s) last f g step redone bad = step s redone bad

redone_or_bad : (store : Store) (rs : List Record) (last : Store) (place : ℕ) → redo_all store rs ≡ Some last → first_bad_redo store rs ≡ Some place → ⊥
redone_or_bad store [] last place redone bad = absurd cc
redone_or_bad store (r ∷ rs) last place redone bad =
    redone_none r.start.0 place (redo store r) last (λ s. redo_all s rs) (λ s. first_bad_redo s rs) (λ s a b. redone_or_bad s rs last place a b) redone bad

-- ---- over a sound WAL that goes on from what a run left

-- a chain is sound for all its records
record IsSoundFor (end : Lsn) (wal : Files) (sound : IsSoundWal end wal) (chain : List Files) (newest : Member) : Type 0 where
  copy : Store
  held : IsStoreOfChain sound.settings.relseg chain copy
  is : IsSoundCopy copy (map entry_of sound.replayable.records) newest.label.start.0 newest.manifest.end

sound_for : (run : PastRun) (chain : List Files) (newest : Member) (o : Option Files) (wal : Files) (end : Lsn) (sound : IsSoundWal end wal) → IsSoundTo run chain newest → Related GoesOnFrom (run.left.areas wal_name).files o → o ≡ Some wal → IsSoundFor end wal sound chain newest
sound_for run chain newest o wal end sound so goes told =
    let s : StoreSettings = so.settings in
    let t : StoreSettings = sound.settings in
    let w : IsWalOf s so.records (run.left.areas wal_name).files run.end = so.wal in
    let all : List Record = sound.replayable.records in
    let on : GoesOnFrom w.files wal = related_told GoesOnFrom (run.left.areas wal_name).files o w.files wal w.told told goes in
    let one : t ≡ s = w.settings t (on t sound.given).0 in
    let reads : ReadsOn t wal (first_tip t.segment) so.records w.held.tip = (on t sound.given).1 so.records w.held.tip (subst (λ (x : StoreSettings). ReadsOn x w.files (first_tip x.segment) so.records w.held.tip) (sym one) w.held.read) in
    let front = read_front t wal (first_tip t.segment) so.records all w.held.tip sound.replayable.last reads sound.replayable.read.walk (end_stops (stands_behind t wal sound.replayable.last) sound.replayable.read.ended) in
    let both : map entry_of all ≡ map entry_of so.records ++ map entry_of front.0 = entries_both all so.records front.0 front.1 in
    let orderly : IsOrderly 0 (map entry_of so.records ++ map entry_of front.0) = subst (IsOrderly 0) both (entries_rise 0 all (wal_rise_all end wal sound)) in
    let copy : Store = so.sound.copy in
    record {
      copy = copy;
      held = subst (λ (x : StoreSettings). IsStoreOfChain x.relseg chain copy) (sym one) so.sound.held;
      is = subst (λ (es : List Entry). IsSoundCopy copy es newest.label.start.0 newest.manifest.end) (sym both)
          (sound_later copy (map entry_of so.records) (map entry_of front.0) newest.label.start.0 newest.manifest.end orderly so.sound.sound);
    }

-- what is read of it from the newest member's start on
record IsReadOn (end : Lsn) (wal : Files) (s : StoreSettings) (start : Lsn) : Type 0 where
  entries : List Record
  last : Tip
  read : IsReadFrom s wal (AtPlace start) None entries last End
  ends : last.end ≡ end.0

module _ (known : Known) (end : Lsn) (wal : Files) (sound : IsSoundWal end wal) (chain : List Files) (newest : Member) (so : IsSoundFor end wal sound chain newest) where
  abbrev s : StoreSettings
  s = sound.settings

  abbrev records : List Record
  records = sound.replayable.records

  abbrev last : Tip
  last = sound.replayable.last

  abbrev start : Lsn
  start = newest.label.start

  -- the newest member doesn't end past its end
  ends_before : newest.manifest.end ≤ end.0
  ends_before =
      let le = ends_within s wal (first_tip s.segment) records last newest.manifest.end sound.replayable.read.walk (wal_rise end wal sound) so.is.ends in
      omega (arith, le, sound.replayable.ends)

  rest : IsReadOn end wal s start
  rest =
      let parts = parted_at start.0 records so.is.starts in
      let r = rest_read s wal parts.older parts.later parts.r last (wal_size end wal sound) (subst (λ (rs : List Record). IsWal s wal rs last) parts.is sound.replayable.read) in
      let walk : IsWalFrom s wal start.0 (parts.r ∷ parts.later) r.0 = subst (λ (n : ℕ). IsWalFrom s wal n (parts.r ∷ parts.later) r.0) parts.starts r.1.0 in
      record {
        entries = parts.r ∷ parts.later;
        last = r.0;
        read = record {
          reads = (walk.walk.0, reads_all s wal (tip_after (tip_at start.0) parts.r) parts.later r.0 walk.walk.1);
          behind = walk.ended;
        };
        ends = r.1.1 ∙ sound.replayable.ends;
      }

  -- a bad entry would be one of all
  not_bad : (upto : Option Lsn) (place : Lsn) (bad : HasBadEntry s wal chain start upto place) → newest.manifest.end ≤ replayed_to upto bad.last → ⊥
  not_bad upto place bad far =
      let to : ℕ = replayed_to upto bad.last in
      let is : IsCompleted s records bad.entries last bad.last so.copy start upto = completed s wal records bad.entries last bad.last so.copy start newest.manifest.end upto (wal_size end wal sound) sound.replayable.read.walk (end_stops (stands_behind s wal last) sound.replayable.read.ended) so.is bad.read far in
      let made = whole_made records sound.replayable.store to (wal_rise_all end wal sound) sound.replayable.applied in
      let same : bad.copy ≡ so.copy = known.one s.relseg (chain_segments chain) bad.copy so.copy bad.held so.held in
      redone_or_bad so.copy (ending_by to bad.entries) made.0 place.0 (is.made ∙ made.1) (subst (λ (c : Store). first_bad_redo c (ending_by to bad.entries) ≡ Some place.0) same bad.bad)

  -- ---- the causes of a restore's refusals

  module _ (seen : RestoreSeen) (told : seen.wal.files ≡ Some wal) (of_chain : files_told seen.members ≡ Some chain) (forms : AllHaveForms chain) (no_out : TellsEmpty seen.out) (upto : Option Lsn) (within : IsNotPast upto end) (late : IsLate upto newest) where
    same : (t : StoreSettings) → HasSettings seen.wal.files t → t ≡ s
    same t has = one_settings wal t s (at_told seen.wal.files wal (λ m. IsSettingsOf m t) told has.given) sound.given

    not_early : (target stop : Lsn) → IsEarly upto seen.wal seen.out target stop newest → ⊥
    not_early target stop early = elim early.target_is [
      | inl is ↦ (let at = at_told upto target (λ t. newest.manifest.end ≤ t.0) is late in omega (arith, at, early.early, early.end_is))
      | inr whole ↦
          let e : EndsAt seen.wal seen.out start target = whole.1 in
          let read : IsReadFrom s wal (AtPlace start) None e.entries e.last End =
          subst (λ (t : StoreSettings). IsReadFrom t wal (AtPlace start) None e.entries e.last End) (same e.settings e.given)
          (at_told seen.wal.files wal (λ m. IsReadFrom e.settings m (AtPlace start) None e.entries e.last End) told e.read.archive) in
          let one = both_end s wal (AtPlace start) None e.entries rest.entries e.last rest.last read rest.read in
          let le = ends_before in
          omega (arith, early.early, early.end_is, e.end_is, ap (λ (t : Tip). t.end) one.tips, rest.ends, le)
    ]

    past : (t : StoreSettings) (place : Lsn) → HasSettings seen.wal.files t → ReadsPast t seen.wal.files upto start newest.manifest.end → HasBadEntry t wal chain start upto place → ⊥
    past t place has reads bad =
        let eq : t ≡ s = same t has in
        let there : HasBadEntry s wal chain start upto place = subst (λ (x : StoreSettings). HasBadEntry x wal chain start upto place) eq bad in
        let read : IsReadFrom s wal (AtPlace start) upto reads.entries reads.last End =
        subst (λ (x : StoreSettings). IsReadFrom x wal (AtPlace start) upto reads.entries reads.last End) eq
        (at_told seen.wal.files wal (λ m. IsReadFrom t m (AtPlace start) upto reads.entries reads.last End) told reads.read.archive) in
        let one = both_end s wal (AtPlace start) upto reads.entries there.entries reads.last there.last read there.read in
        not_bad upto place there (subst (λ (x : Tip). newest.manifest.end ≤ replayed_to upto x) one.tips reads.reached)

    wal_done : (before now : ℕ) (why : RecoveryFault) → CauseOf (wal_causes_from upto seen start newest.manifest.end) before now why → IsDoneOrFails (wal_status why)
    wal_done before now (Damaged mib d) cause =
        absurd (not_damaged s wal (AtPlace start) rest.entries rest.last rest.read upto d (subst (λ (t : StoreSettings). HasDamageFrom t wal (AtPlace start) upto d) (same cause.0 cause.1) (at_told seen.wal.files wal (λ m. HasDamageFrom cause.0 m (AtPlace start) upto d) told cause.2.1)))
    wal_done before now (Short stop target) cause =
        absurd (not_short s wal (AtPlace start) rest.entries rest.last rest.read upto end.0 stop target rest.ends within (subst (λ (t : StoreSettings). IsShortFrom t wal (AtPlace start) upto stop target) (same cause.0 cause.1) (at_told seen.wal.files wal (λ m. IsShortFrom cause.0 m (AtPlace start) upto stop target) told cause.2)))
    wal_done before now (BadDelta place) cause =
        let bad = at_told (files_told seen.members) chain (λ c. AllHaveForms c → IfSome seen.wal.files (λ w. HasBadEntry cause.0 w c start upto place)) of_chain (cause.3 (told_some seen.out.files empty no_out)) forms in
        absurd (past cause.0 place cause.1 cause.2 (at_told seen.wal.files wal (λ w. HasBadEntry cause.0 w chain start upto place) told bad))
    wal_done before now SettingsDamaged cause = absurd (settings_or_refused wal s reader.SettingsDamaged (λ e. absurd cc, λ e. absurd cc) sound.given (at_told seen.wal.files wal (λ m. (refusals m).settings) told cause))
    wal_done before now (Timeline name) cause = absurd (settings_or_refused wal s (reader.Timeline name) (λ e. absurd cc, λ e. absurd cc) sound.given (at_told seen.wal.files wal (λ m. (refusals m).timeline name) told cause))
    wal_done before now NotInit cause = absurd (settings_or_refused wal s reader.NotInit (λ e. absurd cc, λ e. absurd cc) sound.given (at_told seen.wal.files wal (λ m. (refusals m).missing) told cause))
    wal_done before now Failed cause = tt
    wal_done before now NoMemory cause = tt

-- ---- the law

-- it is read to its end
whole_to : (end : Lsn) (wal : Files) → IsSoundWal end wal → IsWholeTo end wal
whole_to end wal sound s given =
    let is = sound.replayable in (
      is.records,
      subst (λ (x : StoreSettings). HoldsRecords x is.records end.0 wal) (one_settings wal sound.settings s sound.given given)
          (record { tip = is.last; at = is.ends; read = is.read.walk; whole = λ gap. is.read }),
    )

module _ (known : Known) (chains : KnownOfChains) (combining : KnownOfCombining) (merging : KnownOfMerging) (checks : KnownOfChecks join.Chain) where
  restore_done : (end : Lsn) (wal : Files) (sound : IsSoundWal end wal) (names : Names) (chain : List Files) (newest : Member) (so : IsSoundFor end wal sound chain newest) (old new : Outside) (out : List ℕ) (upto : Option Lsn) (r : RestoreResult)
      → (old.areas wal_name).files ≡ Some wal → files_told (backup_areas names old.areas) ≡ Some chain → AllHaveForms chain → IsChainTo names (backup_areas names old.areas) newest → IsLate upto newest → IsNotPast upto end → TellsEmpty (old.areas (output_name out)) → RestoreDoes upto out names old new r → IsDoneOrFails (restore_status r)
  restore_done end wal sound names chain newest so old new out upto (Ok report) told stand forms is late within no_out does = tt
  restore_done end wal sound names chain newest so old new out upto (Err (restore.Site fault)) told stand forms is late within no_out does = area_fails fault.why
  restore_done end wal sound names chain newest so old new out upto (Err (restore.Members why)) told stand forms is late within no_out does =
      members_done join.Chain checks names (backup_areas names old.areas) (backup_areas names new.areas) chain newest why (each_told (backup_areas names old.areas) chain stand) is does.1.0
  restore_done end wal sound names chain newest so old new out upto (Err (restore.Early target stop)) told stand forms is late within no_out does =
      let seen : RestoreSeen = restore_seen names (output_name out) old in
      let of = does.1.0 in
      let one : of.newest ≡ newest = same_newest checks.member names seen.members chain of.newest newest (each_told seen.members chain stand) of.chain is in
      absurd (not_early known end wal sound chain newest so seen told stand forms no_out upto within late target stop (subst (λ (m : Member). IsEarly upto seen.wal seen.out target stop m) one of.holds))
  restore_done end wal sound names chain newest so old new out upto (Err restore.NotEmpty) told stand forms is late within no_out does = absurd (not_full (old.areas (output_name out)) no_out does.1.0.holds.full)
  restore_done end wal sound names chain newest so old new out upto (Err (restore.Wal why)) told stand forms is late within no_out does =
      let seen : RestoreSeen = restore_seen names (output_name out) old in
      let now : RestoreSeen = restore_seen names (output_name out) new in
      let of = does.1.0 in
      let one : of.newest ≡ newest = same_newest checks.member names seen.members chain of.newest newest (each_told seen.members chain stand) of.chain is in
      let here : IsUnredone upto seen now why newest = subst (λ (m : Member). IsUnredone upto seen now why m) one of.holds in
      wal_done known end wal sound chain newest so seen told stand forms no_out upto within late seen.wal.faults now.wal.faults why here.cause
  restore_done end wal sound names chain newest so old new out upto (Err (restore.Backup place why)) told stand forms is late within no_out does = area_fails why
  restore_done end wal sound names chain newest so old new out upto (Err (restore.Out why)) told stand forms is late within no_out does = area_fails why

  pub chains_done : CompletedChainsAreRestored
  chains_done latest earlier makings names chain newest old new wal end out upto r ran goes told sound stand completed is late within no_out does =
      let areas = backup_areas names old.areas in
      let members : List Member = is.older ++ (newest ∷ []) in
      let listed : AreAsListed chain members = members_listed names areas members chain is.are stand in
      let so : IsSoundTo latest chain newest = completed_sound known chains combining merging latest earlier makings chain is.older newest ran completed listed is.accepted in
      (restore_done end wal sound names chain newest (sound_for latest chain newest (old.areas wal_name).files wal end sound so goes told) old new out upto r told stand (all_forms known.forms chain members listed) is late within no_out does, exact r does)
    where
      exact : (x : RestoreResult) → RestoreDoes upto out names old new x → IfOk x (λ report. IsWholeReplay (old.areas wal_name).files end (replay_end upto end) report (new.areas (output_name out)).files)
      exact (Err why) done = tt
      exact (Ok report) done =
          chains_restored known chains combining merging latest earlier makings names chain old old new end out upto report ran goes
          (subst (λ (o : Option Files). IfSome o (IsWholeTo end)) (sym told) (whole_to end wal sound)) stand completed
          (record {
            does = done;
            wal = refl;
            backups = λ name one. refl;
            backups_told = told_by_name names old.areas chain (each_told (backup_areas names old.areas) chain stand);
            output_told = told_some (old.areas (output_name out)).files empty no_out;
          })
