-- A chain of completed backups is restored to what all records of the WAL make.
use Rattle.std.proofs.Common.{IfSome, ◌≡◌, ℕ, ◌<◌, ◌≤◌, List, [], ◌∷◌, ◌++◌, map, append-nil, Option, Some, None, Result, Ok, refl, sym, ap, subst, ◌∙◌, arith, ◌⊎◌, inl, inr}
use Rattle.std.specs.Prelude.{max}
use Rattle.std.specs.List.{AllByRecursion}
use Rattle.lsn_core.specs.Files.{Files}
use Rattle.lsn_core.specs.Segment.{IsRelseg, IsSegmentMib, StoreSettings}
use Rattle.lsn_core.specs.declared.fault.StoreFault.{StoreFault}
use Rattle.lsn_core.specs.declared.lsn.Lsn.{Lsn}
use Rattle.backup_label.specs.Label.{HasNoLineEnd}
use Rattle.wal_record.specs.declared.record.Record.{Record}
use Rattle.wal_reader.specs.Settings.{IsSettingsOf}
use Rattle.history.specs.Entry.{Entry}
use Rattle.history.specs.Whole.{entry_of}
use Rattle.history.specs.Written.{wal_of, tip_of}
use Rattle.journal.specs.Lawful.{IsLawful}
use Rattle.chain_check.specs.Chain.{IsAccepted}
use Rattle.chain_check.specs.Directory.{IsAsListed}
use Rattle.chain_check.specs.declared.member.Member.{Member}
use Rattle.chain_laws.specs.Chain.{IsSoundChain}
use Rattle.command_base.specs.Areas.{wal_name}
use Rattle.run_command.specs.Run.{RunDone, IsClosing, all_records, found_tip}
use Rattle.chain_commands.specs.Chain.{backup_areas, files_told}
use Rattle.backup_laws.specs.Runs.{IsBackedUp}
use Rattle.backup_laws.specs.Chains.{IsIncremented, IsSoundFull, IsSoundIncrement}
use Rattle.backup_laws.specs.Finished.{full_member}
use Rattle.backup_laws.specs.Restores.{HasRun, PastRun}
use Rattle.backup_laws.specs.ChainRestores.{RanOn, RanInTurn, Making, IsTakenBy, IsTakenByOne, IsCompletedBackup, CompletedChainsAreReplays}
use Rattle.backup_laws.proofs.Members.{Known, some_is}
use Rattle.merge_laws.specs.Members.{AreAsListed}
use Rattle.backup_laws.proofs.ChainMembers.{first_listed, members_listed, TellsIncrement, incr_told}
use Rattle.backup_laws.proofs.ChainRuns.{KnownOfChains, fulls_sound, incrs_extend, runs_keep, backups_begin}
use Rattle.backup_laws.proofs.CombinedChains.{KnownOfCombining}
use Rattle.backup_laws.proofs.MergedSeries.{KnownOfMerging}
use Rattle.backup_laws.proofs.CompletedChains.{completed_so_far}
use Rattle.backup_laws.proofs.ListedFiles.{finished_listed}
use Rattle.backup_laws.proofs.OwnPlaces.{own_place, ends_later}
use Rattle.backup_laws.proofs.ReadPaths.{manifest_is_read}
use Rattle.backup_laws.proofs.RestoredRuns.{same_told, chain_restored}
use Rattle.backup_laws.proofs.WalsLeft.{grown, IsWalOf, entries_both, run_leaves, first_leaves}
use Rattle.backup_laws.proofs.SoundSoFar.{IsAlong, IsSoundFirst, IsSoundOwn, IsSoundSoFar, ExtendsSound, IsPlaced, last_places, same_prior, sound_on, along_to, both_so_far}

-- ---- the directories that a run took

-- a member under another name
renamed : (files : Files) (m : Member) (name : List ℕ) → IsAsListed files m → IsAsListed files (record { name = name; label = m.label; manifest = m.manifest })
renamed files m name l = record { manifest = l.manifest; rows = l.rows; label_row = l.label_row; others = l.others; label = l.label; forms = l.forms }

module _ (known : Known) (chains : KnownOfChains) (combining : KnownOfCombining) (run : PastRun) (on : RanOn run) where
  abbrev when : ℕ
  when = on.ran.when

  abbrev done : RunDone when run.before.areas run.left.areas run.report
  done = on.ran.done

  abbrev s : StoreSettings
  s = done.settings

  abbrev h : List Entry
  h = done.history

  -- where what it found ends
  abbrev begin : ℕ
  begin = (found_tip s done.found).end

  law : IsLawful s.segment h
  law = done.happened.lawful on.tells.store

  -- its history ends where its WAL does
  stops : run.end.0 ≡ (tip_of s.segment h).end
  stops =
      let closing : IsClosing s done.found h run.before.areas run.left.areas (Ok run.end) = subst (λ (r : Result Lsn StoreFault). IsClosing s done.found h run.before.areas run.left.areas r) on.ran.closed done.closing in
      closing.0

  begins_first : begin ≤ run.end.0
  begins_first = subst (λ (n : ℕ). begin ≤ n) (sym stops) (ends_later s.segment done.found done.happened.own h done.happened.grown law.places)

  -- what stands of a directory that it took, by its member
  record IsOwn (f : Files) (m : Member) : Type 0 where
    before : m.label.start.0 < run.end.0
    own : IsSoundOwn s.relseg h begin f m

  full_own : (name : List ℕ) (start end : Lsn) (f : Files) (m : Member) → HasNoLineEnd name → IsAsListed f m → IsSoundFull s when h name start end f → (m.label.start ≡ start) × IsSoundFirst s.relseg h f m
  full_own name start end f m line listed full =
      let is : Member = full_member s name start full.checkpoint end full.directory.begun full.directory.rows in
      let there : IsAsListed f is = finished_listed s name when full.copy start full.checkpoint end full.count f full.directory done.given.blocks.least line in
      let same : record { name = name; label = m.label; manifest = m.manifest } ≡ is = combining.member f (record { name = name; label = m.label; manifest = m.manifest }) is refl (renamed f m name listed) there in
      let starts : m.label.start ≡ start = ap (λ (x : Member). x.label.start) same in
      let ends : m.manifest.end ≡ end.0 = ap (λ (x : Member). x.manifest.end) same in (
        starts,
        (ap (λ (x : Member). x.label.prior) same, subst (λ (l : Lsn). IsSoundChain s.relseg h (f ∷ []) l.0 m.manifest.end) (sym starts) (subst (λ (n : ℕ). IsSoundChain s.relseg h (f ∷ []) start.0 n) (sym ends) full.sound)),
      )

  incr_own : (name : List ℕ) (start end : Lsn) (prior f : Files) (m : Member) → HasNoLineEnd name → IsAsListed f m → IsSoundIncrement s when h name start end prior f → (m.label.start ≡ start) × ExtendsSound s.relseg h f m
  incr_own name start end prior f m line listed inc =
      let from : Lsn = record { 0 = inc.manifest.start } in
      let t : TellsIncrement m start from end = incr_told known s name when inc.put start inc.checkpoint from end inc.count f m line inc.directory listed in (
        t.start_is,
        record {
          prior = from;
          named = t.prior_is;
          early = subst (λ (l : Lsn). inc.manifest.start ≤ l.0) (sym t.start_is) (let up = (manifest_is_read prior inc.manifest inc.listing).rises in let behind = inc.behind in omega (arith, up, behind));
          extends = λ chain to sound.
              subst (λ (l : Lsn). IsSoundChain s.relseg h (chain ++ (f ∷ [])) l.0 (max to m.manifest.end)) (sym t.start_is)
              (subst (λ (n : ℕ). IsSoundChain s.relseg h (chain ++ (f ∷ [])) start.0 (max to n)) (sym t.end_is) (inc.extends chain to sound));
        },
      )

  kind_of : (f : Files) (m : Member) (is : IsTakenBy run f) → IsAsListed f m → IsBackedUp run.report.told is.name is.start is.end ⊎ IsIncremented run.report.told is.name is.start is.end → (m.label.start ≡ is.start) × (IsSoundFirst s.relseg h f m ⊎ ExtendsSound s.relseg h f m)
  kind_of f m is listed (inl taken) =
      let stands = fulls_sound chains when run.before.areas run.left.areas run.report done is.name is.start is.end taken on.tells in
      let same : stands.0 ≡ f = some_is stands.0 f (sym stands.1 ∙ is.left) in
      let own = full_own is.name is.start is.end f m is.line listed (subst (IsSoundFull s when h is.name is.start is.end) same stands.2) in
      (own.0, inl own.1)
  kind_of f m is listed (inr taken) =
      let stands = incrs_extend chains when run.before.areas run.left.areas run.report done is.name is.start is.end taken on.tells on.finds in
      let same : stands.2 ≡ f = some_is stands.2 f (sym stands.3 ∙ is.left) in
      let own = incr_own is.name is.start is.end stands.0 f m is.line listed (subst (λ (g : Files). IsSoundIncrement s when h is.name is.start is.end stands.0 g) same stands.4) in
      (own.0, inr own.1)

  own_of : (f : Files) (m : Member) → IsTakenBy run f → IsAsListed f m → IsOwn f m
  own_of f m is listed =
      let kind = kind_of f m is listed is.answered in
      let redo = backups_begin when run.before.areas run.left.areas run.report done is.name is.start is.end is.answered on.tells in
      let place = own_place s.segment is.start.0 done.found done.happened.own h done.happened.grown law.places redo in
      record {
        before = subst (λ (l : Lsn). l.0 < run.end.0) (sym kind.0) (subst (λ (n : ℕ). is.start.0 < n) (sym stops) place.1);
        own = record { past = subst (λ (l : Lsn). begin ≤ l.0) (sym kind.0) place.0; kind = kind.1 };
      }

  pub own_placed : (f : Files) (m : Member) → IsTakenBy run f → IsAsListed f m → IsPlaced run.end.0 m
  own_placed f m is listed =
      let of : IsOwn f m = own_of f m is listed in
      record { before = of.before; early = λ prior timeline named. by of.own.kind prior timeline named }
    where
      by : IsSoundFirst s.relseg h f m ⊎ ExtendsSound s.relseg h f m → (prior : Lsn) (timeline : ℕ) → m.label.prior ≡ Some (prior, timeline) → prior.0 ≤ m.label.start.0
      by (inl first) prior timeline named = absurd (let e : Some (prior, timeline) ≡ None = sym named ∙ first.0 in cc)
      by (inr more) prior timeline named = subst (λ (l : Lsn). l.0 ≤ m.label.start.0) (same_prior more.prior prior 1 timeline (sym more.named ∙ named)) more.early

  -- chains of these and of older ones, which all start where what it found had not ended, are sound so
  -- far for its history, where those of older ones are
  own_so_far : (Older : Files → Type 0) → ((f : Files) (m : Member) → Older f → IsAsListed f m → IsPlaced begin m) → ((f : Files) (fs : List Files) → AllByRecursion Older (f ∷ fs) → IsSoundSoFar s.relseg h (f ∷ fs))
      → (f : Files) (fs : List Files) → AllByRecursion (λ g. IsTakenBy run g ⊎ Older g) (f ∷ fs) → IsSoundSoFar s.relseg h (f ∷ fs)
  own_so_far Older placed sound f fs all = both_so_far s.relseg h begin (IsTakenBy run) Older (λ g m is listed. (own_of g m is listed).own) placed sound f fs all

placed_on : (m : Member) (bound later : ℕ) → bound ≤ later → IsPlaced bound m → IsPlaced later m
placed_on m bound later le p = (let before = p.before in record { before = omega (arith, before, le); early = p.early })

-- ---- the runs

-- the WAL that a run left has these records, for which chains of what it and the earlier ones took are
-- sound so far, and before whose end all of these start
record HaveTakenSound (run : PastRun) (earlier : List PastRun) : Type 0 where
  settings : StoreSettings
  size : IsSegmentMib settings.segment
  blocks : IsRelseg settings.relseg
  records : List Record
  wal : IsWalOf settings records (run.left.areas wal_name).files run.end
  sound : (f : Files) (fs : List Files) → AllByRecursion (IsTakenByOne (run ∷ earlier)) (f ∷ fs) → IsSoundSoFar settings.relseg (map entry_of records) (f ∷ fs)
  placed : (f : Files) (m : Member) → IsTakenByOne (run ∷ earlier) f → IsAsListed f m → IsPlaced run.end.0 m

module _ (known : Known) (chains : KnownOfChains) (combining : KnownOfCombining) where
  taken_sound : (run : PastRun) (earlier : List PastRun) → RanInTurn run earlier → HaveTakenSound run earlier
  taken_sound run [] on =
      let when : ℕ = on.ran.when in
      let d : RunDone when run.before.areas run.left.areas run.report = on.ran.done in
      let s : StoreSettings = d.settings in
      let all : List Record = all_records s d.found d.history in
      let leaves = first_leaves when run.before run.left run.report run.end d on.ran in
      record {
        settings = s;
        size = leaves.1;
        blocks = d.given.blocks;
        records = all;
        wal = leaves.0;
        sound = λ f fs taken.
            sound_on s.relseg s.relseg d.history (map entry_of all) (f ∷ fs)
            (λ from to sound. (runs_keep chains when run.before.areas run.left.areas run.report d (f ∷ fs) from to on.ran.told).1 sound)
            (own_so_far known chains combining run on (IsTakenByOne []) (λ g m none listed. absurd none) (λ g gs none. absurd none.0) f fs taken);
        placed = λ f m taken listed. elim taken [
          | inl is ↦ own_placed known chains combining run on f m is listed
          | inr none ↦ absurd none
        ];
      }
  taken_sound run (prior ∷ earlier) on =
      let ran : HasRun run.before run.left run.report run.end = on.0.ran in
      let when : ℕ = ran.when in
      let d : RunDone when run.before.areas run.left.areas run.report = ran.done in
      let was : HaveTakenSound prior earlier = taken_sound prior earlier on.2 in
      let s : StoreSettings = was.settings in
      let all : List Record = d.found ++ wal_of s.segment d.history in
      let leaves = run_leaves s was.records (prior.left.areas wal_name).files when run.before run.left run.report prior.end run.end d was.size was.wal on.1 ran in
      let keep = λ (files : List Files) (from to : ℕ). runs_keep chains when run.before.areas run.left.areas run.report d files from to ran.told in
      record {
        settings = s;
        size = was.size;
        blocks = was.blocks;
        records = all;
        wal = leaves.wal;
        sound = λ f fs taken.
            sound_on d.settings.relseg s.relseg d.history (map entry_of all) (f ∷ fs)
            (λ from to sound. subst (λ (t : StoreSettings). IsSoundChain t.relseg (map entry_of (d.found ++ wal_of t.segment d.history)) (f ∷ fs) from to) leaves.same ((keep (f ∷ fs) from to).1 sound))
            (own_so_far known chains combining run on.0 (IsTakenByOne (prior ∷ earlier))
            (λ g m older listed. placed_on m prior.end.0 (begin known chains combining run on.0) (let from = leaves.from in omega (arith, from)) (was.placed g m older listed))
            (λ g gs older.
            sound_on s.relseg d.settings.relseg (map entry_of was.records) d.history (g ∷ gs)
            (λ from to sound. (keep (g ∷ gs) from to).0
            (subst (λ (t : StoreSettings). IsSoundChain t.relseg (map entry_of d.found) (g ∷ gs) from to) (sym leaves.same)
            (subst (λ (es : List Entry). IsSoundChain s.relseg es (g ∷ gs) from to) (sym (entries_both d.found was.records leaves.more leaves.found))
            (chains.later s.relseg (map entry_of was.records) (map entry_of leaves.more) (g ∷ gs) from to leaves.orderly sound))))
            (was.sound g gs older)) f fs taken);
        placed = λ f m taken listed. elim taken [
          | inl is ↦ own_placed known chains combining run on.0 f m is listed
          | inr older ↦ placed_on m prior.end.0 run.end.0 (let from = leaves.from in let first = begins_first known chains combining run on.0 in omega (arith, from, first)) (was.placed f m older listed)
        ];
      }

-- ---- chains of them

-- a chain of completed backups, as the directories of members that are accepted, is sound for the WAL
-- that a run left, from where its newest member starts to where that ends
pub record IsSoundTo (run : PastRun) (chain : List Files) (newest : Member) : Type 0 where
  pub settings : StoreSettings
  pub size : IsSegmentMib settings.segment
  pub records : List Record
  pub wal : IsWalOf settings records (run.left.areas wal_name).files run.end
  pub sound : IsSoundChain settings.relseg (map entry_of records) chain newest.label.start.0 newest.manifest.end

module _ (known : Known) (chains : KnownOfChains) (combining : KnownOfCombining) (merging : KnownOfMerging) where
  -- with no directory behind it
  whole : (relseg : ℕ) (history : List Entry) (chain : List Files) (start : Lsn) (end : ℕ) (from : Lsn) (to : ℕ) (members : List Member) → IsSoundChain relseg history chain from.0 to → AreAsListed [] members → last_places from to members ≡ (start, end) → IsSoundChain relseg history chain start.0 end
  whole relseg history chain start end from to [] sound listed ends =
      subst (λ (p : Lsn × ℕ). IsSoundChain relseg history chain p.0.0 p.1) ends sound
  whole relseg history chain start end from to (m ∷ members) sound listed ends = absurd listed

  pub completed_sound : (latest : PastRun) (earlier : List PastRun) (makings : List Making) (chain : List Files) (older : List Member) (newest : Member) → RanInTurn latest earlier → AllByRecursion (IsCompletedBackup (latest ∷ earlier) makings) chain → AreAsListed chain (older ++ (newest ∷ [])) → IsAccepted (older ++ (newest ∷ []))
      → IsSoundTo latest chain newest
  completed_sound latest earlier makings chain older newest ran completed listed accepted =
      let so : HaveTakenSound latest earlier = taken_sound known chains combining latest earlier ran in
      let s : StoreSettings = so.settings in
      let history : List Entry = map entry_of so.records in
      let members : List Member = older ++ (newest ∷ []) in
      let parts = first_listed older newest chain listed in
      let so_far : IsSoundSoFar s.relseg history chain =
      subst (IsSoundSoFar s.relseg history) (sym parts.2)
      (completed_so_far combining merging s.relseg so.blocks history (latest ∷ earlier) so.sound makings parts.0 parts.1 (subst (AllByRecursion (IsCompletedBackup (latest ∷ earlier) makings)) parts.2 completed)) in
      let all : AreAsListed (chain ++ []) (members ++ []) = subst (λ (fs : List Files). AreAsListed fs (members ++ [])) (sym (append-nil chain)) (subst (AreAsListed chain) (sym (append-nil members)) listed) in
      let a : IsAlong s.relseg history chain [] (newest.label.start, newest.manifest.end) = along_to s.relseg history chain [] older newest [] so_far all accepted.chain tt in
      record {
        settings = s;
        size = so.size;
        records = so.records;
        wal = so.wal;
        sound = whole s.relseg history chain newest.label.start newest.manifest.end a.start a.end a.members a.sound a.listed a.ends;
      }

  -- ---- the law

  pub chains_restored : CompletedChainsAreReplays
  chains_restored latest earlier makings names chain last old new end out upto report ran goes ends stand completed restored =
      let of = restored.does.1 in
      let newest : Member = of.newest in
      let told : files_told (backup_areas names old.areas) ≡ Some chain = same_told names old last restored.backups ∙ stand in
      let listed : AreAsListed chain (of.chain.older ++ (newest ∷ [])) = members_listed names (backup_areas names old.areas) (of.chain.older ++ (newest ∷ [])) chain of.chain.are told in
      let so : IsSoundTo latest chain newest = completed_sound latest earlier makings chain of.chain.older newest ran completed listed of.chain.accepted in
      let given : IfSome (last.areas wal_name).files (λ m. IsSettingsOf m of.holds.settings) = subst (λ (o : Option Files). IfSome o (λ m. IsSettingsOf m of.holds.settings)) restored.wal of.holds.given.given in
      chain_restored known so.settings so.records last old new end newest.label.start (record { 0 = newest.manifest.end }) names out upto report chain so.size
      (grown so.settings so.records (latest.left.areas wal_name).files (last.areas wal_name).files latest.end end of.holds.settings so.wal goes ends given) stand so.sound restored (refl, refl)
