-- What a drill leaves is what all records of its WAL make.
use Rattle.std.proofs.Common.{◌≡◌, ◌≢◌, ℕ, ◌+◌, List, [], ◌∷◌, ◌++◌, take, drop, Option, Some, None, Ok, IsSome, IfSome, refl, sym, ap, subst, ◌∙◌, inl, inr}
use Rattle.std.specs.Prelude.{slice_get}
use Rattle.std.specs.List.{AllByRecursion}
use Rattle.std.specs.Option.{option_map}
use Rattle.std.specs.FinMap.{get, empty}
use Rattle.lsn_core.specs.Files.{Files}
use Rattle.lsn_core.specs.Segment.{StoreSettings}
use Rattle.lsn_core.specs.Store.{files_of}
use Rattle.lsn_core.specs.declared.lsn.Lsn.{Lsn}
use Rattle.vault.specs.Lending.{IsOneOf}
use Rattle.rel_files.specs.Forks.{Holds}
use Rattle.vault.specs.Site.{AreaState}
use Rattle.vault.proofs.SetAreas.{same_or_not}
use Rattle.backup_files.specs.Directory.{manifest_name}
use Rattle.wal_reader.specs.Settings.{IsSettingsOf}
use Rattle.wal_reader.proofs.OneSettings.{one_settings}
use Rattle.store_locks.specs.Records.{HoldsRecords}
use Rattle.chain_check.specs.declared.member.Member.{Member}
use Rattle.chain_files.specs.Told.{all_told}
use Rattle.command_base.specs.Areas.{wal_name, sums_name, backup_name}
use Rattle.command_base.specs.Outside.{Outside}
use Rattle.command_base.proofs.Told.{some_told, at_told}
use Rattle.command_line.specs.declared.options.InitOptions.{InitOptions}
use Rattle.scripts.specs.declared.script.Command.TheVariants.{Full, Incr}
use Rattle.scripts.specs.declared.script.Line.{Line}
use Rattle.scripts.specs.declared.script.Task.{Task}
use Rattle.run_answers.specs.declared.answer.Answer.{Answer}
use Rattle.run_answers.specs.declared.answer.Answer.TheVariants.{Backup}
use Rattle.run_answers.specs.declared.told.Told.{Told}
use Rattle.run_answers.specs.Report.{first_told}
use Rattle.store_commands.specs.Init.{InitDone, init_areas, new_wal}
use Rattle.crew.specs.Backups.{areas_asked}
use Rattle.run_command.specs.Run.{AreTold, RunDone, backups_asked, others_asked, run_asks, store_asks}
use Rattle.run_command.proofs.ToldLess.{one_front, one_back}
use Rattle.chain_commands.specs.Chain.{backup_areas, backup_names, files_told}
use Rattle.drill_script.specs.Drill.{copier_lines, copier_task, drilled, line_of, drill_0, drill_1, drill_2}
use Rattle.pgbackup_cli.specs.drill_command.Contents.{IsSumOf}
use Rattle.pgbackup_cli.specs.drill_command.Drill as drill
use Rattle.pgbackup_cli.specs.drill_command.Drill.{DrillDone, areas_cleared, drill_settings, drill_relseg, drill_members, drill_name, drill_out, drill_writes}
use Rattle.pgbackup_cli.specs.declared.drill_command.report.DrillReport.{DrillReport}
use Rattle.backup_laws.specs.Chains.{AllTell}
use Rattle.backup_laws.specs.Telling.{TellsAround}
use Rattle.backup_laws.specs.Restores.{GoesOnFrom, HasRun, HasRestored, IsWholeReplay, PastRun}
use Rattle.backup_laws.specs.ChainRestores.{CompletedChainsAreReplays, EndedWell, IsTakenBy, RanInTurn}
use Rattle.backup_laws.specs.Drills.{AreAnswered, DrillTells, DrillsAreReplays, DrillsTakeTheirBackups, IsWholeDrill}
use Rattle.merge_laws.specs.Members.{AreAsListed}
use Rattle.backup_laws.proofs.ChainMembers.{members_listed}
use Rattle.backup_laws.proofs.DrillLines.{EachOnce, NoneOfIt, TakesIt, taken_once, took}
use Rattle.backup_laws.proofs.DrillScripts.{all_once, asked_members, asks_for, copier_told, differ, drill_asked, not_out, out_unasked, told_all}
use Rattle.backup_laws.proofs.DrillStops.{ended_well, none_stopped}
use Rattle.backup_laws.proofs.OwnLeft.{since_init}
use Rattle.backup_laws.proofs.RestoredRuns.{related_told, settings_in}
use Rattle.backup_laws.proofs.WalsLeft.{scripts_go_on, stayed, wals_whole}

-- ---- what is told

told_mapped : {A B : Type 0} (f : A → B) (o : Option A) → IsSome o → IsSome (option_map f o)
told_mapped f None some = absurd cc
told_mapped f (Some x) some = refl

clear_is : (o : Option Files) → IfSome o (λ m. m ≡ empty) → IsSome o → o ≡ Some empty
clear_is None clear some = absurd cc
clear_is (Some m) clear some = ap (λ (f : Files). Some f) clear

-- an identifier is given, so the moment is free
no_moment : (o : Option ℕ) (n : ℕ) → IfSome o (λ told. Some n ≡ None → 0 ≡ told)
no_moment None n = tt
no_moment (Some told) n = λ e. absurd cc

three_told : (a b c : AreaState) (f g h : Files) → a.files ≡ Some f → b.files ≡ Some g → c.files ≡ Some h → files_told (a ∷ b ∷ c ∷ []) ≡ Some (f ∷ g ∷ h ∷ [])
three_told a b c f g h one two three =
    subst (λ (o : Option Files). all_told (o ∷ b.files ∷ c.files ∷ []) ≡ Some (f ∷ g ∷ h ∷ [])) (sym one)
    (subst (λ (o : Option Files). all_told (Some f ∷ o ∷ c.files ∷ []) ≡ Some (f ∷ g ∷ h ∷ [])) (sym two)
    (subst (λ (o : Option Files). all_told (Some f ∷ Some g ∷ o ∷ []) ≡ Some (f ∷ g ∷ h ∷ [])) (sym three) refl))

-- a directory has a manifest
abbrev IsManifested : Files → Type 0
IsManifested files = (bytes : List ℕ) × (get files manifest_name ≡ Some bytes)

manifests : (chain : List Files) (members : List Member) → AreAsListed chain members → AllByRecursion IsManifested chain
manifests [] members listed = tt
manifests (f ∷ chain) [] listed = absurd listed
manifests (f ∷ chain) (m ∷ members) listed = ((listed.0.manifest.0, listed.0.manifest.1), manifests chain members listed.1)

abbrev drill_options : ℕ → InitOptions
drill_options n = record { segment = Some 1; relseg = Some drill_relseg; system = Some (n + 1) }

one_backup : (name : List ℕ) → IsOneOf name drill_members → IsOneOf (backup_name name) (backup_names drill_members)
one_backup name (inl is) = inl (ap backup_name is)
one_backup name (inr (inl is)) = inr (inl (ap backup_name is))
one_backup name (inr (inr (inl is))) = inr (inr (inl (ap backup_name is)))
one_backup name (inr (inr (inr none))) = absurd none

-- ---- the copier's lines

-- the copier's line of a number takes the backup of a name, whose area the drill found empty, and no
-- other line does
record IsLine (number : ℕ) (line : Line) (name : List ℕ) : Type 0 where
  behind : List Line
  at : drop number copier_lines ≡ line ∷ behind
  it : TakesIt name line.command
  front : NoneOfIt name (take number copier_lines)
  rest : NoneOfIt name behind
  asked : IsOneOf (backup_name name) drill_asked
  cleared : IsOneOf (backup_name name) areas_cleared
  not_wal : backup_name name ≢ wal_name

abbrev full_line : Line
full_line = line_of 2016 (Full drill_0)

abbrev first_line : Line
first_line = line_of 2018 (Incr drill_1 drill_0)

abbrev second_line : Line
second_line = line_of 2020 (Incr drill_2 drill_1)

takes_full : IsLine 0 full_line drill_0
takes_full = record {
  behind = drop 1 copier_lines;
  at = refl;
  it = inl refl;
  front = tt;
  rest = (differ [] drill_0 refl refl, (differ drill_1 drill_0 refl refl, (differ [] drill_0 refl refl, (differ drill_2 drill_0 refl refl, tt))));
  asked = inl refl;
  cleared = inr (inr (inl refl));
  not_wal = differ (backup_name drill_0) wal_name refl refl;
}

takes_first : IsLine 2 first_line drill_1
takes_first = record {
  behind = drop 3 copier_lines;
  at = refl;
  it = inr (drill_0, refl);
  front = (differ drill_0 drill_1 refl refl, (differ [] drill_1 refl refl, tt));
  rest = (differ [] drill_1 refl refl, (differ drill_2 drill_1 refl refl, tt));
  asked = inr (inl refl);
  cleared = inr (inr (inr (inl refl)));
  not_wal = differ (backup_name drill_1) wal_name refl refl;
}

takes_second : IsLine 4 second_line drill_2
takes_second = record {
  behind = [];
  at = refl;
  it = inr (drill_1, refl);
  front = (differ drill_0 drill_2 refl refl, (differ [] drill_2 refl refl, (differ drill_1 drill_2 refl refl, (differ [] drill_2 refl refl, tt))));
  rest = tt;
  asked = inr (inr (inr (inl refl)));
  cleared = inr (inr (inr (inr (inl refl))));
  not_wal = differ (backup_name drill_2) wal_name refl refl;
}

-- ---- the law

module _ (n when : ℕ) (old new : Outside) (report : DrillReport) (done : DrillDone n when old new report) (tell : DrillTells n old new) where
  abbrev ran : drill.HasRun n when old done.before.ran
  ran = done.before.before

  abbrev begun : drill.HasBegun n old ran.begun
  begun = ran.before

  -- the store before its run, and behind it
  abbrev start : Outside
  start = ran.begun

  abbrev left : Outside
  left = done.before.ran

  abbrev run_done : RunDone when start.areas left.areas ran.run
  run_done = ran.done.1

  -- ---- the areas before the run

  as_looked : (m : List ℕ) → (begun.looked.areas m).files ≡ (old.areas m).files
  as_looked m = begun.before.reads.0.others m tt

  as_begun : (m : List ℕ) → m ≢ wal_name → (start.areas m).files ≡ (old.areas m).files
  as_begun m other = begun.wrote.0.others m (other, tt) ∙ as_looked m

  abbrev made : InitDone (drill_settings n) (init_areas begun.looked) (init_areas start) begun.end
  made = begun.made

  wal_tells : IsSome (old.areas wal_name).files → IsSome (start.areas wal_name).files
  wal_tells told =
      subst (λ (o : Option Files). IsSome o) (sym made.written)
      (told_mapped (λ (m : Files). new_wal (drill_settings n)) (begun.looked.areas wal_name).files (subst (λ (o : Option Files). IsSome o) (sym (as_looked wal_name)) told))

  start_tells : (m : List ℕ) → IsSome (old.areas m).files → IsSome (start.areas m).files
  start_tells m told = elim (same_or_not m wal_name) [
    | inl is ↦ subst (λ (k : List ℕ). IsSome (start.areas k).files) (sym is) (wal_tells (subst (λ (k : List ℕ). IsSome (old.areas k).files) is told))
    | inr other ↦ subst (λ (o : Option Files). IsSome o) (sym (as_begun m other)) told
  ]

  -- those that the run asks for tell
  run_tells : (m : List ℕ) → IsOneOf m (run_asks (drilled n)) → IsSome (start.areas m).files
  run_tells m one = start_tells m (tell.before m (one_front m (run_asks (drilled n)) (drill_out ∷ []) one))

  others_tell : (m : List ℕ) → IsOneOf m (others_asked (drilled n)) → IsSome (start.areas m).files
  others_tell m one = run_tells m (one_front m (others_asked (drilled n)) store_asks one)

  store_tells : AreTold start.areas
  store_tells m one = run_tells m (one_back m (others_asked (drilled n)) store_asks one)

  backups_tell : AllTell (backups_asked (drilled n)) start.areas
  backups_tell m one = others_tell m (one_front m (backups_asked (drilled n)) (sums_name ∷ []) one)

  sums_tell : IsSome (start.areas sums_name).files
  sums_tell = others_tell sums_name (one_back sums_name (backups_asked (drilled n)) (sums_name ∷ []) (inl refl))

  out_tells : IsSome (start.areas drill_out).files
  out_tells = start_tells drill_out (tell.before drill_out (one_back drill_out (run_asks (drilled n)) (drill_out ∷ []) (inl refl)))

  -- ---- those behind it

  as_left : (m : List ℕ) → m ≢ drill_out → (new.areas m).files ≡ (left.areas m).files
  as_left m other = done.reads.0.others m tt ∙ done.before.wrote.0.others m (other, tt)

  member_tells : (m : List ℕ) → IsOneOf m (backup_names drill_members) → IsSome (left.areas m).files
  member_tells m one = subst (λ (o : Option Files). IsSome o) (as_left m (not_out m one)) (tell.behind m one)

  -- ---- the run

  well : (first_told ran.run.told ≡ None) × ((end : Lsn) × (ran.run.closed ≡ Ok end))
  well = ended_well (first_told ran.run.told) ran.run.closed ran.ended

  abbrev latest : PastRun
  latest = record { before = start; left = left; report = ran.run; end = well.1.0 }

  has_run : HasRun start left ran.run well.1.0
  has_run = record { told = store_tells; when = when; done = run_done; closed = well.1.1 }

  around : TellsAround start.areas left.areas ran.run
  around = record {
    before = subst (λ (ts : List Task). AllTell (backups_asked ts) start.areas) (sym ran.done.0) backups_tell;
    sums = λ name from to is. sums_tell;
    behind = subst (λ (ts : List Task). AllTell (backups_asked ts) left.areas) (sym ran.done.0) (λ m one. member_tells m (asked_members n m one));
    once = λ worker t there.
        let given = run_done.happened.answered worker t there in
        taken_once _ _ worker _ _ t.task.lines t.answers _ given.to (run_done.held worker) (run_done.kept worker) given.answered
        (told_all (λ (u : Task). EachOnce u.lines) ran.run.told worker t (subst (AllByRecursion (λ (u : Task). EachOnce u.lines)) (sym ran.done.0) (all_once n)) there);
  }

  ended : EndedWell latest
  ended = record { ran = has_run; tells = around }

  in_turn : RanInTurn latest []
  in_turn =
      since_init (drill_options n) begun.looked start begun.end latest []
      (begun.wrote, (0, no_moment begun.looked.moment (n + 1), begun.made))
      (ended, record { wal = refl; sums = refl })

  -- ---- its backups

  abbrev member0 : (f : Files) × ((left.areas (backup_name drill_0)).files ≡ Some f)
  member0 = some_told (left.areas (backup_name drill_0)).files (member_tells (backup_name drill_0) (inl refl))

  abbrev member1 : (f : Files) × ((left.areas (backup_name drill_1)).files ≡ Some f)
  member1 = some_told (left.areas (backup_name drill_1)).files (member_tells (backup_name drill_1) (inr (inl refl)))

  abbrev member2 : (f : Files) × ((left.areas (backup_name drill_2)).files ≡ Some f)
  member2 = some_told (left.areas (backup_name drill_2)).files (member_tells (backup_name drill_2) (inr (inr (inl refl))))

  abbrev chain : List Files
  chain = member0.0 ∷ member1.0 ∷ member2.0 ∷ []

  stand : files_told (backup_areas drill_members left.areas) ≡ Some chain
  stand = three_told (left.areas (backup_name drill_0)) (left.areas (backup_name drill_1)) (left.areas (backup_name drill_2)) member0.0 member1.0 member2.0 member0.1 member1.1 member2.1

  manifested : AllByRecursion IsManifested chain
  manifested =
      let of = done.before.made in
      let members : List Member = of.chain.older ++ (of.newest ∷ []) in
      manifests chain members (members_listed drill_members (backup_areas drill_members left.areas) members chain of.chain.are stand)

  abbrev copier : (by : Told) × (slice_get ran.run.told 5 ≡ Some by) × (by.task ≡ copier_task)
  copier = copier_told n ran.run.told ran.done.0

  copied : copier.0.task.lines ≡ copier_lines
  copied = ap (λ (t : Task). t.lines) copier.2

  -- it was answered that its backup was taken
  record IsAnsweredAt (number : ℕ) (line : Line) : Type 0 where
    start_at : Lsn
    end_at : Lsn
    lines_behind : List Line
    lines : drop number copier.0.task.lines ≡ line ∷ lines_behind
    later : List Answer
    answers : drop number copier.0.answers ≡ Backup start_at end_at ∷ later

  answered_at : (number : ℕ) (line : Line) (name : List ℕ) (files : Files) → IsLine number line name → (left.areas (backup_name name)).files ≡ Some files → IsManifested files → IsAnsweredAt number line
  answered_at number line name files is told has =
      let given = run_done.happened.answered 5 copier.0 copier.1 in
      let area : List ℕ = backup_name name in
      let asked : IsOneOf area (areas_asked copier.0.task.lines) = subst (λ (ls : List Line). IsOneOf area (areas_asked ls)) (sym copied) is.asked in
      let told_old : IsSome (old.areas area).files = subst (λ (o : Option Files). IsSome o) (as_begun area is.not_wal) (backups_tell area (asks_for n area is.asked)) in
      let clear : (old.areas area).files ≡ Some empty = clear_is (old.areas area).files (begun.before.clear area is.cleared) told_old in
      let held : (run_done.held 5 area).files ≡ Some empty = ap (λ (a : AreaState). a.files) (run_done.were 5 copier.0 copier.1 area asked) ∙ (as_begun area is.not_wal ∙ clear) in
      let kept : (run_done.kept 5 area).files ≡ Some files = ap (λ (a : AreaState). a.files) (run_done.are 5 copier.0 copier.1 area asked) ∙ told in
      let at : drop number copier.0.task.lines ≡ line ∷ is.behind = subst (λ (ls : List Line). drop number ls ≡ line ∷ is.behind) (sym copied) is.at in
      let t = took _ _ 5 _ _ copier.0.task.lines copier.0.answers _ given.to (run_done.held 5) (run_done.kept 5) name given.answered given.order (none_stopped ran.run.told 5 copier.0 well.0 copier.1) held (files, has.0, kept, has.1) number line is.behind
      (subst (λ (ls : List Line). NoneOfIt name (take number ls)) (sym copied) is.front) at is.it is.rest in
      record { start_at = t.0; end_at = t.1; lines_behind = is.behind; lines = at; later = t.2; answers = t.3 }

  full_at : IsAnsweredAt 0 full_line
  full_at = answered_at 0 full_line drill_0 member0.0 takes_full member0.1 manifested.0

  first_at : IsAnsweredAt 2 first_line
  first_at = answered_at 2 first_line drill_1 member1.0 takes_first member1.1 manifested.1.0

  second_at : IsAnsweredAt 4 second_line
  second_at = answered_at 4 second_line drill_2 member2.0 takes_second member2.1 manifested.1.1.0

  are_answered : AreAnswered ran.run.told
  are_answered = record {
    start0 = full_at.start_at;
    end0 = full_at.end_at;
    full = record { worker = 5; by = copier.0; there = copier.1; number = 0; line = full_line; behind = full_at.lines_behind; lines = full_at.lines; takes = refl; later = full_at.later; answers = full_at.answers };
    start1 = first_at.start_at;
    end1 = first_at.end_at;
    first = record { worker = 5; by = copier.0; there = copier.1; number = 2; line = first_line; prior = drill_0; behind = first_at.lines_behind; lines = first_at.lines; takes = refl; later = first_at.later; answers = first_at.answers };
    start2 = second_at.start_at;
    end2 = second_at.end_at;
    second = record { worker = 5; by = copier.0; there = copier.1; number = 4; line = second_line; prior = drill_1; behind = second_at.lines_behind; lines = second_at.lines; takes = refl; later = second_at.later; answers = second_at.answers };
  }

  full_taken : IsTakenBy latest member0.0
  full_taken = record { name = drill_0; line = (refl, (refl, (refl, (refl, (refl, (refl, (refl, tt))))))); start = are_answered.start0; end = are_answered.end0; answered = inl are_answered.full; left = member0.1 }

  first_taken : IsTakenBy latest member1.0
  first_taken = record { name = drill_1; line = (refl, (refl, (refl, (refl, (refl, (refl, (refl, tt))))))); start = are_answered.start1; end = are_answered.end1; answered = inr are_answered.first; left = member1.1 }

  second_taken : IsTakenBy latest member2.0
  second_taken = record { name = drill_2; line = (refl, (refl, (refl, (refl, (refl, (refl, (refl, tt))))))); start = are_answered.start2; end = are_answered.end2; answered = inr are_answered.second; left = member2.1 }

  -- ---- the restore

  out_left : IsSome (left.areas drill_out).files
  out_left = subst (λ (o : Option Files). IsSome o) (sym (ran.wrote.0.others drill_out (out_unasked n))) out_tells

  has_restored : HasRestored left None drill_name drill_members left done.left done.restored
  has_restored = record {
    does = (done.before.wrote, done.before.made);
    wal = refl;
    backups = λ name one. refl;
    backups_told = λ name one. member_tells (backup_name name) (one_backup name one);
    output_told = out_left;
  }

  replayed : CompletedChainsAreReplays → IsWholeReplay (left.areas wal_name).files well.1.0 well.1.0.0 done.restored (done.left.areas drill_out).files
  replayed law =
      law latest [] [] drill_members chain left left done.left well.1.0 drill_name None done.restored in_turn
      (stayed (left.areas wal_name).files (left.areas wal_name).files refl) (wals_whole latest has_run) stand
      (inl full_taken, (inl first_taken, (inl second_taken, tt))) has_restored

  -- the settings are those that the store was made with
  settings_are : (s : StoreSettings) (wal : Files) → (left.areas wal_name).files ≡ Some wal → IsSettingsOf wal s → s ≡ drill_settings n
  settings_are s wal told is =
      let was = some_told (start.areas wal_name).files (store_tells wal_name (inl refl)) in
      let on : GoesOnFrom was.0 wal = related_told GoesOnFrom (start.areas wal_name).files (left.areas wal_name).files was.0 wal was.1 told (scripts_go_on when 0 (drilled n) start left (Ok ran.run) store_tells ran.done) in
      one_settings was.0 s (drill_settings n) (on s is).0 (at_told (start.areas wal_name).files was.0 (λ m. IsSettingsOf m (drill_settings n)) was.1 made.reads.settings)

  whole_drill : CompletedChainsAreReplays → IsWholeDrill n new report
  whole_drill law =
      let w : IsWholeReplay (left.areas wal_name).files well.1.0 well.1.0.0 done.restored (done.left.areas drill_out).files = replayed law in
      let same : w.settings ≡ drill_settings n = settings_are w.settings w.files w.told (settings_in w.settings (left.areas wal_name).files w.files w.told w.given) in
      let written : (new.areas drill_out).files ≡ Some (files_of drill_relseg w.store) =
      done.reads.0.others drill_out tt ∙ (w.written ∙ ap (λ (s : StoreSettings). Some (files_of s.relseg w.store)) same) in
      let holds : Holds drill_relseg (files_of drill_relseg w.store) w.store =
      subst (λ (s : StoreSettings). Holds s.relseg (files_of s.relseg w.store) w.store) same w.holds in
      record {
        wal = w.files;
        told = as_left wal_name (differ wal_name drill_out refl refl) ∙ w.told;
        records = w.records;
        end = well.1.0;
        held = subst (λ (s : StoreSettings). HoldsRecords s w.records well.1.0.0 w.files) same w.held;
        store = w.store;
        made = w.made;
        written = written;
        forks = done.forks ∙ w.forks;
        pages = done.pages ∙ w.pages;
        summed = at_told (new.areas drill_out).files (files_of drill_relseg w.store) (λ files. IsSumOf drill_relseg files report.sum) written done.sum w.store holds w.pages_whole;
      }

pub drills_replayed : CompletedChainsAreReplays → DrillsAreReplays
drills_replayed law n when old new report done tell = whole_drill n when old new report done tell law

pub drills_answered : DrillsTakeTheirBackups
drills_answered n when old new report done tell = are_answered n when old new report done tell
