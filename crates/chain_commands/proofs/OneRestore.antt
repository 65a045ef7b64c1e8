-- A restore of what the areas hold has one answer.
use Rattle.std.proofs.Common.{◌≡◌, ℕ, ◌<◌, ◌≤◌, ◌⊎◌, inl, inr, true, List, Option, Some, None, IsSome, IfSome, Result, Ok, Err, refl, sym, ap, subst, ◌∙◌, arith}
use Rattle.lsn_core.specs.Files.{Files}
use Rattle.lsn_core.specs.Segment.{StoreSettings}
use Rattle.lsn_core.specs.Tip.{Tip}
use Rattle.lsn_core.specs.declared.lsn.Lsn.{Lsn}
use Rattle.vault.specs.declared.lending.TakeFault.{TakeFault}
use Rattle.wal_record.specs.declared.record.Record.{Record}
use Rattle.wal_archive.specs.declared.fault.Damage.{Damage}
use Rattle.wal_reader.specs.declared.fault.WalFault.{WalFault}
use Rattle.wal_reader.specs.declared.fault.WalFault.TheVariants as reader
use Rattle.wal_reader.specs.Causes.{CauseOf as WalCauseOf, IsOfFiles as IsOfWal}
use Rattle.wal_reader.specs.Settings.{IsSettingsOf, refusals}
use Rattle.wal_reader.proofs.OneSettings.{one_settings, settings_or_refused, one_refusal as one_settings_refusal}
use Rattle.chain_check.specs.Laws.{DirectoriesAreOneMember, ListedIsNotRefused, RefusalsAreOne, AcceptedIsNotRefused, ChainRefusalsAreOne, ListedHaveForms}
use Rattle.chain_check.specs.declared.member.Member.{Member}
use Rattle.chain_files.specs.Segments.{AllHaveForms}
use Rattle.recovery.specs.declared.fault.RecoveryFault.{RecoveryFault}
use Rattle.recovery.specs.declared.fault.RecoveryFault.TheVariants as recovery
use Rattle.recovery.specs.declared.reading.Beginning.TheVariants.{AtPlace}
use Rattle.recovery.specs.declared.replaying.Replayed.{Replayed}
use Rattle.recovery.specs.Causes.{HasSettings, IsShortFrom, fault_of}
use Rattle.recovery.specs.Onward.{IsReadFrom, IsReadFromTo, HasDamageFrom, replayed_to}
use Rattle.recovery.proofs.OneWal.{same_lsn}
use Rattle.wal_archive.specs.Rules.{End}
use Rattle.backup_restore.specs.declared.fault.RestoreFault.{RestoreFault as Unrestored}
use Rattle.backup_restore.specs.declared.fault.RestoreFault.TheVariants as unrestored
use Rattle.backup_restore.specs.Restored.{RestoreAreas, RestoreAnswer as Restores}
use Rattle.backup_restore.specs.Laws.{IsRestoreOf, FilesDecide, RestoresEndAlike}
use Rattle.backup_restore.proofs.OneReading.{one_tip, ends_or_damaged}
use Rattle.vault.specs.Lending.{Names}
use Rattle.command_base.specs.Areas.{wal_name, output_name, IsClear, IsFull}
use Rattle.command_base.specs.Outside.{IsUntaken}
use Rattle.command_base.proofs.Told.{some_told, at_told}
use Rattle.store_commands.specs.declared.replaying.ReplayReport.{ReplayReport}
use Rattle.chain_commands.specs.declared.restoring.RestoreFault.TheVariants as restore
use Rattle.chain_commands.specs.declared.chain.MembersFault.{MembersFault}
use Rattle.chain_commands.specs.declared.chain.Joining.TheVariants as join
use Rattle.chain_commands.specs.Chain.{IsOfChain}
use Rattle.chain_commands.specs.Restore.{RestoreSeen, RestoreResult, RestoresChain, ReadsPast, IsEarly, IsLate, IsNotEmpty, IsUnredone, RestoreAnswer, restored_areas, restore_seen, restore_asks, restore_status}
use Rattle.store_commands.specs.Inner.{reported}
use Rattle.command_base.specs.Decided.{is_decided}
use Rattle.chain_commands.specs.Laws.{HasOneRestore}
use Rattle.command_base.proofs.Decided.{clear_or_not, of_files, undecided}
use Rattle.chain_commands.proofs.OneChain.{either_way, AreTold, Members, all_told_is, each_told, have_forms, one_answer, refused_course, chain_course, chain_few}
use Rattle.store_commands.proofs.OneReplay.{same_parts}

some_or_none : {A : Type 0} (x : A) → ◌≡◌ {A = Option A} (Some x) None → ⊥
some_or_none x e = absurd cc

some_is : {A : Type 0} (x y : A) → ◌≡◌ {A = Option A} (Some x) (Some y) → x ≡ y
some_is x y e = cc

late_of : (upto : Option Lsn) (last : Tip) (end : ℕ) → end ≤ replayed_to upto last → IfSome upto (λ target. end ≤ target.0)
late_of None last end reached = tt
late_of (Some target) last end reached = reached

-- ---- answers by their parts

answer_of : Result Replayed Unrestored → RestoreResult
answer_of (Ok replayed) = Ok (reported replayed)
answer_of (Err (unrestored.Wal why)) = Err (restore.Wal why)
answer_of (Err (unrestored.Backup fault)) = Err (restore.Backup fault.area fault.why)
answer_of (Err (unrestored.Out why)) = Err (restore.Out why)

refused_by : MembersFault → RestoreResult
refused_by fault = Err (restore.Members fault)

early_at : Lsn → Lsn → RestoreResult
early_at target end = Err (restore.Early target end)

unset_by : WalFault → RestoreResult
unset_by why = Err (restore.Wal (fault_of 0 why))

done_with : ReplayReport → RestoreResult
done_with report = Ok report

-- ---- what an answer says of what is told, from the first test on to the last

module _ (upto : Option Lsn) (names : Names) (old : RestoreSeen) (wal : Files) (files : List Files) where
  -- the WAL ends before the member's end
  record EndsEarly (s : StoreSettings) (m : Member) (a : RestoreResult) : Type 0 where
    none : upto ≡ None
    entries : List Record
    last : Tip
    read : IsReadFromTo s old.wal.files (AtPlace m.label.start) upto entries last
    target : Lsn
    end : Lsn
    target_is : target.0 ≡ last.end
    end_is : end.0 ≡ m.manifest.end
    early : target.0 < end.0
    is : a ≡ early_at target end

  -- the restore came to the answer, and the WAL, where it is read to its end, doesn't end before that
  record Goes (s : StoreSettings) (m : Member) (a : RestoreResult) : Type 0 where
    new : RestoreAreas
    came : Result Replayed Unrestored
    answer : Restores s m.label.start upto (restored_areas old) new came
    decided : FilesDecide came
    past : (entries : List Record) (last : Tip) → upto ≡ None → IsReadFromTo s old.wal.files (AtPlace m.label.start) upto entries last → m.manifest.end ≤ last.end
    is : a ≡ answer_of came

  record IsUnset (a : RestoreResult) : Type 0 where
    why : WalFault
    own : IsOfWal why
    cause : WalCauseOf (refusals wal) 0 0 why
    is : a ≡ unset_by why

  abbrev IsSet : Member → RestoreResult → Type 0
  IsSet m a = (s : StoreSettings) × (IsSettingsOf wal s × (EndsEarly s m a ⊎ Goes s m a))

  abbrev Reads : Member → RestoreResult → Type 0
  Reads m a = IsUnset a ⊎ IsSet m a

  abbrev Fills : Member → RestoreResult → Type 0
  Fills m a = (IsFull old.out × (a ≡ Err restore.NotEmpty)) ⊎ (IsClear old.out × Reads m a)

  record IsBefore (m : Member) (a : RestoreResult) : Type 0 where
    target : Lsn
    end : Lsn
    given : upto ≡ Some target
    end_is : end.0 ≡ m.manifest.end
    early : target.0 < end.0
    is : a ≡ early_at target end

  abbrev Aims : Member → RestoreResult → Type 0
  Aims m a = IsBefore m a ⊎ (IsLate upto m × Fills m a)

  abbrev Course : RestoreResult → Type 0
  Course a = Members join.Chain refused_by Aims names files a

  -- ---- two of them are the same

  record IsTold : Type 0 where
    wal_is : old.wal.files ≡ Some wal
    members_are : AreTold old.members files
    out_is : IsSome old.out.files

  module _ (told : IsTold) where
    wal_told : IsSome old.wal.files
    wal_told = subst (λ (o : Option Files). IsSome o) (sym told.wal_is) refl

    one_early : (s : StoreSettings) (m : Member) (a b : RestoreResult) → EndsEarly s m a → EndsEarly s m b → a ≡ b
    one_early s m a b x y =
        let tips = one_tip s old.wal.files old.wal.files (AtPlace m.label.start) upto x.entries y.entries x.last y.last refl wal_told x.read y.read in
        let targets = same_lsn x.target y.target (x.target_is ∙ ap (λ (t : Tip). t.end) tips ∙ sym y.target_is) in
        x.is ∙ ap (λ (l : Lsn). early_at l x.end) targets ∙ ap (early_at y.target) (same_lsn x.end y.end (x.end_is ∙ sym y.end_is)) ∙ sym y.is

    early_or_goes : (s : StoreSettings) (m : Member) (a b : RestoreResult) → EndsEarly s m a → Goes s m b → ⊥
    early_or_goes s m a b x y = (let past = y.past x.entries x.last x.none x.read in omega (arith, past, x.target_is, x.end_is, x.early))

    one_going : RestoresEndAlike → AllHaveForms files → (s : StoreSettings) (m : Member) (a b : RestoreResult) → Goes s m a → Goes s m b → a ≡ b
    one_going alike forms s m a b x y =
        let of : IsRestoreOf wal files (restored_areas old) = record { wal_told = told.wal_is; chain_told = all_told_is old.members files told.members_are; forms = forms; out_told = told.out_is } in
        x.is ∙ ap answer_of (alike s m.label.start upto wal files (restored_areas old) x.new (restored_areas old) y.new x.came y.came of of x.answer y.answer x.decided y.decided) ∙ sym y.is

    one_unset : (a b : RestoreResult) → IsUnset a → IsUnset b → a ≡ b
    one_unset a b x y = x.is ∙ ap unset_by (one_settings_refusal wal x.why y.why x.own y.own x.cause y.cause) ∙ sym y.is

    one_set : RestoresEndAlike → AllHaveForms files → (m : Member) (a b : RestoreResult) → IsSet m a → IsSet m b → a ≡ b
    one_set alike forms m a b x y =
        let same : x.0 ≡ y.0 = one_settings wal x.0 y.0 x.1.0 y.1.0 in
        either_way a b x.1.1 (subst (λ (s : StoreSettings). EndsEarly s m b ⊎ Goes s m b) (sym same) y.1.1)
        (one_early x.0 m a b) (early_or_goes x.0 m a b) (early_or_goes x.0 m b a) (one_going alike forms x.0 m a b)

    one_reads : RestoresEndAlike → AllHaveForms files → (m : Member) (a b : RestoreResult) → Reads m a → Reads m b → a ≡ b
    one_reads alike forms m a b x y =
        either_way a b x y (one_unset a b) (λ u v. settings_or_refused wal v.0 u.why u.own v.1.0 u.cause) (λ u v. settings_or_refused wal v.0 u.why u.own v.1.0 u.cause) (one_set alike forms m a b)

    one_fills : RestoresEndAlike → AllHaveForms files → (m : Member) (a b : RestoreResult) → Fills m a → Fills m b → a ≡ b
    one_fills alike forms m a b x y =
        either_way a b x y (λ u v. u.1 ∙ sym v.1) (λ u v. clear_or_not old.out told.out_is v.0 u.0) (λ u v. clear_or_not old.out told.out_is v.0 u.0) (λ u v. one_reads alike forms m a b u.1 v.1)

    one_before : (m : Member) (a b : RestoreResult) → IsBefore m a → IsBefore m b → a ≡ b
    one_before m a b x y =
        x.is ∙ ap (λ (l : Lsn). early_at l x.end) (some_is x.target y.target (sym x.given ∙ y.given)) ∙ ap (early_at y.target) (same_lsn x.end y.end (x.end_is ∙ sym y.end_is)) ∙ sym y.is

    before_or_late : (m : Member) (a : RestoreResult) → IsBefore m a → IsLate upto m → ⊥
    before_or_late m a x late =
        let past : m.manifest.end ≤ x.target.0 = subst (λ (u : Option Lsn). IfSome u (λ target. m.manifest.end ≤ target.0)) x.given late in
        omega (arith, past, x.end_is, x.early)

    one_aim : RestoresEndAlike → AllHaveForms files → (m : Member) (a b : RestoreResult) → Aims m a → Aims m b → a ≡ b
    one_aim alike forms m a b x y =
        either_way a b x y (one_before m a b) (λ u v. before_or_late m a u v.0) (λ u v. before_or_late m b u v.0) (λ u v. one_fills alike forms m a b u.1 v.1)

    one_course : ListedHaveForms → DirectoriesAreOneMember → ListedIsNotRefused → RefusalsAreOne → AcceptedIsNotRefused → ChainRefusalsAreOne → RestoresEndAlike → (a b : RestoreResult) → Course a → Course b → a ≡ b
    one_course law one_member not_refused one_refusal not_none one_none alike a b x y =
        one_answer join.Chain refused_by Aims names files one_member not_refused one_refusal not_none one_none a b (λ ms are m. one_aim alike (have_forms law names files ms are) m a b) x y

    -- ---- and each answer says so

    settings_told : (s : StoreSettings) → HasSettings old.wal.files s → IsSettingsOf wal s
    settings_told s given = at_told old.wal.files wal (λ m. IsSettingsOf m s) told.wal_is given.given

    -- all tests but the last are passed
    passed : (s : StoreSettings) (m : Member) (a : RestoreResult) → IsLate upto m → IsClear old.out → HasSettings old.wal.files s → EndsEarly s m a ⊎ Goes s m a → Aims m a
    passed s m a late clear given on = inr (late, inr (clear, inr (s, (settings_told s given, on))))

    past_of : (s : StoreSettings) (start : Lsn) (end : ℕ) → ReadsPast s old.wal.files upto start end → (entries : List Record) (last : Tip) → upto ≡ None → IsReadFromTo s old.wal.files (AtPlace start) upto entries last → end ≤ last.end
    past_of s start end past entries last none read =
        let tips = one_tip s old.wal.files old.wal.files (AtPlace start) upto past.entries entries past.last last refl wal_told past.read read in
        subst (λ (u : Option Lsn). end ≤ replayed_to u last) none (subst (λ (t : Tip). end ≤ replayed_to upto t) tips past.reached)

    restored : (new : RestoreSeen) (m : Member) (report : ReplayReport) → RestoresChain upto old new report m → Aims m (Ok report)
    unfolding answer_of done_with
    restored new m report is =
        let past : ReadsPast is.settings old.wal.files upto m.label.start m.manifest.end = record { entries = is.restored.entries; last = is.replayed.tip; read = is.restored.read; reached = is.reached (inl wal_told) } in
        let same : report ≡ reported is.replayed = same_parts report (reported is.replayed) is.end is.forks is.pages in
        passed is.settings m (Ok report) (late_of upto is.replayed.tip m.manifest.end past.reached) is.clear is.given
        (inr (record {
          new = restored_areas new;
          came = Ok is.replayed;
          answer = is.restored;
          decided = tt;
          past = past_of is.settings m.label.start m.manifest.end past;
          is = ap done_with same;
        }))

    early : (target end : Lsn) (m : Member) → IsEarly upto old.wal old.out target end m → Aims m (Err (restore.Early target end))
    unfolding early_at
    early target end m is = elim is.target_is [
      | inl given ↦ inl (record { target = target; end = end; given = given; end_is = is.end_is; early = is.early; is = refl })
      | inr short ↦
          let none : upto ≡ None = short.0 in
          let ends = short.1 in
          passed ends.settings m (Err (restore.Early target end)) (subst (λ (u : Option Lsn). IfSome u (λ t. m.manifest.end ≤ t.0)) (sym none) tt) ends.clear ends.given
          (inl (record {
            none = none;
            entries = ends.entries;
            last = ends.last;
            read = subst (λ (u : Option Lsn). IsReadFromTo ends.settings old.wal.files (AtPlace m.label.start) u ends.entries ends.last) (sym none) ends.read;
            target = target;
            end = end;
            target_is = ends.end_is;
            end_is = is.end_is;
            early = is.early;
            is = refl;
          }))
    ]

    damaged_past : (s : StoreSettings) (start : Lsn) (end : ℕ) (damage : Damage) → IfSome old.wal.files (λ m. HasDamageFrom s m (AtPlace start) upto damage) → (entries : List Record) (last : Tip) → upto ≡ None → IsReadFromTo s old.wal.files (AtPlace start) upto entries last
        → end ≤ last.end
    damaged_past s start end damage damaged entries last none read =
        absurd (ends_or_damaged s wal (AtPlace start) upto entries last damage (at_told old.wal.files wal (λ m. IsReadFrom s m (AtPlace start) upto entries last End) told.wal_is read.archive)
        (at_told old.wal.files wal (λ m. HasDamageFrom s m (AtPlace start) upto damage) told.wal_is damaged))

    short_past : (s : StoreSettings) (start at target : Lsn) (end : ℕ) → IfSome old.wal.files (λ m. IsShortFrom s m (AtPlace start) upto at target) → (entries : List Record) (last : Tip) → upto ≡ None → IsReadFromTo s old.wal.files (AtPlace start) upto entries last → end ≤ last.end
    short_past s start at target end short entries last none read =
        absurd (some_or_none target (sym (at_told old.wal.files wal (λ m. IsShortFrom s m (AtPlace start) upto at target) told.wal_is short).0 ∙ none))

    set_to : (s : StoreSettings) (m : Member) (a : RestoreResult) → HasSettings old.wal.files s → Goes s m a → Reads m a
    set_to s m a given goes = inr (s, (settings_told s given, inr goes))

    unread : (new : RestoreSeen) (m : Member) (why : RecoveryFault) → IsUnredone upto old new why m → is_decided (restore_status (Err (restore.Wal why))) ≡ true → Reads m (Err (restore.Wal why))
    unfolding answer_of unset_by
    unread new m (recovery.Damaged mib damage) is own =
        set_to is.cause.0 m (Err (restore.Wal (recovery.Damaged mib damage))) is.cause.1 (record {
          new = restored_areas new;
          came = Err (unrestored.Wal (recovery.Damaged mib damage));
          answer = is.cause.2;
          decided = of_files (recovery.Damaged mib damage) own;
          past = damaged_past is.cause.0 m.label.start m.manifest.end damage is.cause.2.1;
          is = refl;
        })
    unread new m (recovery.Short at target) is own =
        set_to is.cause.0 m (Err (restore.Wal (recovery.Short at target))) is.cause.1 (record {
          new = restored_areas new;
          came = Err (unrestored.Wal (recovery.Short at target));
          answer = is.cause.2;
          decided = of_files (recovery.Short at target) own;
          past = short_past is.cause.0 m.label.start at target m.manifest.end is.cause.2;
          is = refl;
        })
    unread new m (recovery.BadDelta place) is own =
        set_to is.cause.0 m (Err (restore.Wal (recovery.BadDelta place))) is.cause.1 (record {
          new = restored_areas new;
          came = Err (unrestored.Wal (recovery.BadDelta place));
          answer = is.cause.3;
          decided = of_files (recovery.BadDelta place) own;
          past = past_of is.cause.0 m.label.start m.manifest.end is.cause.2;
          is = refl;
        })
    unread new m recovery.SettingsDamaged is own = inl (record {
      why = reader.SettingsDamaged;
      own = (λ f. absurd cc, λ f. absurd cc);
      cause = at_told old.wal.files wal (λ m. (refusals m).settings) told.wal_is is.cause;
      is = refl;
    })
    unread new m (recovery.Timeline other) is own = inl (record {
      why = reader.Timeline other;
      own = (λ f. absurd cc, λ f. absurd cc);
      cause = at_told old.wal.files wal (λ m. (refusals m).timeline other) told.wal_is is.cause;
      is = refl;
    })
    unread new m recovery.NotInit is own = inl (record {
      why = reader.NotInit;
      own = (λ f. absurd cc, λ f. absurd cc);
      cause = at_told old.wal.files wal (λ m. (refusals m).missing) told.wal_is is.cause;
      is = refl;
    })
    unread new m recovery.Failed is own = absurd cc
    unread new m recovery.NoMemory is own = absurd cc

    -- of the chain that the members are
    chain_of : (P : Member → Type 0) (a : RestoreResult) (of : IsOfChain names old.members P) → Aims of.newest a → Course a
    chain_of P a of aims =
        chain_course join.Chain refused_by Aims names files old.members old.members told.members_are a of.newest of.chain (chain_few join.Chain names old.members of.newest of.chain) aims

    course : (Untaken : TakeFault → Type 0) (new : RestoreSeen) (a : RestoreResult) → RestoreAnswer upto names Untaken old new a → is_decided (restore_status a) ≡ true → Course a
    unfolding refused_by
    course Untaken new (Ok report) answer own = chain_of (RestoresChain upto old new report) (Ok report) answer (restored new answer.newest report answer.holds)
    course Untaken new (Err (restore.Site fault)) answer own = absurd (undecided fault.why own)
    course Untaken new (Err (restore.Members fault)) answer own = refused_course join.Chain refused_by Aims names files old.members new.members told.members_are fault answer.0 own
    course Untaken new (Err (restore.Early target end)) answer own = chain_of (IsEarly upto old.wal old.out target end) (Err (restore.Early target end)) answer.0 (early target end answer.0.newest answer.0.holds)
    course Untaken new (Err restore.NotEmpty) answer own =
        chain_of (IsNotEmpty upto old.out) (Err restore.NotEmpty) answer.0 (inr (answer.0.holds.late, inl (answer.0.holds.full, refl)))
    course Untaken new (Err (restore.Wal why)) answer own =
        chain_of (IsUnredone upto old new why) (Err (restore.Wal why)) answer.0
        (inr (answer.0.holds.late, inr (answer.0.holds.clear, unread new answer.0.newest why answer.0.holds own)))
    course Untaken new (Err (restore.Backup place why)) answer own = absurd (undecided why own)
    course Untaken new (Err (restore.Out why)) answer own = absurd (undecided why own)

pub one_restore : ListedHaveForms → DirectoriesAreOneMember → ListedIsNotRefused → RefusalsAreOne → AcceptedIsNotRefused → ChainRefusalsAreOne → RestoresEndAlike → HasOneRestore
one_restore law one_member not_refused one_refusal not_none one_none alike upto out names old new other a b told first second own also =
    let output : List ℕ = output_name out in
    let wal_files = some_told (old.areas wal_name).files (told.files wal_name) in
    let files = each_told names old.areas told.files in
    let seen : RestoreSeen = restore_seen names output old in
    let are : IsTold upto names seen wal_files.0 files.0 = record { wal_is = wal_files.1; members_are = files.1; out_is = told.files output } in
    one_course upto names seen wal_files.0 files.0 are law one_member not_refused one_refusal not_none one_none alike a b
    (course upto names seen wal_files.0 files.0 are (IsUntaken (restore_asks names output) old new) (restore_seen names output new) a first.1 own)
    (course upto names seen wal_files.0 files.0 are (IsUntaken (restore_asks names output) old other) (restore_seen names output other) b second.1 also)
