-- Where areas tell their files before a run and behind it, they tell them behind each of its lines.
use Rattle.std.proofs.Common.{◌≡◌, ◌≢◌, ◌⊎◌, ℕ, Bool, true, false, List, [], ◌∷◌, take, Option, Some, None, IsSome, refl, sym, ap, subst, ◌∙◌, inl, inr}
use Rattle.lsn_core.specs.Files.{Files}
use Rattle.lsn_core.specs.declared.lsn.Lsn.{Lsn}
use Rattle.vault.specs.Area.{Related}
use Rattle.vault.specs.Site.{Areas, AreaState, IsStill}
use Rattle.vault.specs.Lending.{Names, IsOneOf}
use Rattle.vault.proofs.SetAreas.{same_or_not}
use Rattle.history.specs.Entry.{Entry}
use Rattle.store_locks.proofs.Kept.{some_back, some_on}
use Rattle.backup_files.specs.Area.{TellAlike}
use Rattle.backup_files.proofs.Manifests.{alike_same}
use Rattle.store_faults.specs.declared.backup_fault.BackupFault.TheVariants as backup
use Rattle.store_faults.specs.declared.incr_fault.IncrFault.TheVariants as incr
use Rattle.command_base.specs.Areas.{backup_name}
use Rattle.scripts.specs.declared.script.Command.{Command}
use Rattle.scripts.specs.declared.script.Command.TheVariants as command
use Rattle.scripts.specs.declared.script.Line.{Line}
use Rattle.run_answers.specs.declared.answer.Answer.{Answer}
use Rattle.run_answers.specs.declared.answer.Answer.TheVariants.{Accepted, Refused, Grown, Stopped, Redo, CheckpointRefused, Wrote, Published, CallFailed, Backup, BackupRefused, IncrRefused, NotRun}
use Rattle.crew.specs.Backups.{area_asked, areas_asked}
use Rattle.scripts.specs.Named.{backup_taken}
use Rattle.crew.specs.Run.{Basis, OnlyAt, OnlyAmong, LineAnswer, Answered, InOrder}
use Rattle.run_answers.specs.Stopping.{is_not_run, stop_of, stops_with}
use Rattle.crew.proofs.Two.{same_backup}
use Rattle.run_command.specs.Run.{backups_asked, tasks_told}
use Rattle.backup_laws.specs.Chains.{AllTell, TellBehindLines}
use Rattle.backup_laws.specs.Telling.{TakesOther, NoneTakes, TakesLast, AreTakenOnce, RunsTellThroughout}
use Rattle.backup_laws.proofs.ChainRuns.{asked_among}
use Rattle.backup_laws.proofs.Moments.{goes_on}

-- ---- areas that tell alike

related_alike : (R : Files → Files → Type 0) (old new : Option Files) → Related R old new → TellAlike old new
related_alike R None None related = tt
related_alike R None (Some n) related = absurd related
related_alike R (Some m) None related = absurd related
related_alike R (Some m) (Some n) related = tt

-- behind a line the area of a name tells where it told before it, and only there
abbrev AlikeAt : Areas → Areas → List ℕ → Type 0
AlikeAt held mid n = TellAlike (held n).files (mid n).files

alike_at : (held mid : Areas) (n : List ℕ) → mid n ≡ held n → AlikeAt held mid n
alike_at held mid n same = alike_same (held n).files (mid n).files (ap (λ (a : AreaState). a.files) same)

all_alike : (held mid : Areas) (n : List ℕ) → mid ≡ held → AlikeAt held mid n
all_alike held mid n same = alike_at held mid n (ap (λ (f : Areas). f n) same)

-- ---- one line

only_alike : (held mid : Areas) (n name : List ℕ) → OnlyAt name held mid → AlikeAt held mid name → AlikeAt held mid n
only_alike held mid n name only here = elim (same_or_not n name) [
  | inl is ↦ subst (AlikeAt held mid) (sym is) here
  | inr other ↦ alike_at held mid n (only.others n other)
]

among_alike : (held mid : Areas) (n name prior : List ℕ) (line : Command) → line ≡ command.Incr name prior → OnlyAmong (area_asked line) held mid → IsStill (held (backup_name prior)) (mid (backup_name prior))
    → (n ≡ backup_name name) ⊎ AlikeAt held mid n
among_alike held mid n name prior line is only kept =
    let those : OnlyAmong (backup_name name ∷ backup_name prior ∷ []) held mid = subst (λ (c : Command). OnlyAmong (area_asked c) held mid) is only in
    elim (same_or_not n (backup_name name)) [
      | inl out ↦ inl out
      | inr not_out ↦ elim (same_or_not n (backup_name prior)) [
        | inl before ↦ inr (subst (AlikeAt held mid) (sym before) (alike_same (held (backup_name prior)).files (mid (backup_name prior)).files kept.files))
        | inr not_before ↦ inr (alike_at held mid n (those.others n (not_out, (not_before, tt))))
      ]
    ]

both_alike : (held mid : Areas) (n name prior : List ℕ) (line : Command) → line ≡ command.Incr name prior → OnlyAmong (area_asked line) held mid → IsStill (held (backup_name prior)) (mid (backup_name prior)) → AlikeAt held mid (backup_name name) → AlikeAt held mid n
both_alike held mid n name prior line is only kept out = elim (among_alike held mid n name prior line is only kept) [
  | inl same ↦ subst (AlikeAt held mid) (sym same) out
  | inr alike ↦ alike
]

-- a line was answered that it took a backup into the area of this name
record IsTakenInto (n : List ℕ) (line : Command) (answer : Answer) : Type 0 where
  start : Lsn
  end : Lsn
  answered : answer ≡ Backup start end
  area : n ≡ backup_name (backup_taken line)

taken_into : (n name : List ℕ) (line : Command) (start end : Lsn) → backup_taken line ≡ name → n ≡ backup_name name → IsTakenInto n line (Backup start end)
taken_into n name line start end named area = record { start = start; end = end; answered = refl; area = area ∙ ap backup_name (sym named) }

-- so it is of each area, or it tells behind a line where it told before it, unless the line stopped
-- its worker
line_alike : (tells : Type 0) (b : Basis) (w from : ℕ) (now : List Entry) (line : Command) (x : Answer) (made : List Entry) (held mid : Areas) (n : List ℕ) → LineAnswer tells b w from now line x made held mid → stop_of x ≡ None → IsTakenInto n line x ⊎ AlikeAt held mid n
line_alike tells b w from now line (Accepted place) made held mid n a on = inr (all_alike held mid n a.4)
line_alike tells b w from now line (Refused why) made held mid n a on = inr (all_alike held mid n a.4)
line_alike tells b w from now line (Grown k place) made held mid n a on = inr (all_alike held mid n a.5)
line_alike tells b w from now line (Stopped k why) made held mid n a on = inr (all_alike held mid n a.7)
line_alike tells b w from now line (Redo redo) made held mid n a on = inr (all_alike held mid n a.3)
line_alike tells b w from now line (CheckpointRefused why) made held mid n a on = inr (all_alike held mid n a.3)
line_alike tells b w from now line (Wrote k) made held mid n a on = inr (all_alike held mid n a.4)
line_alike tells b w from now line (Published k) made held mid n a on = inr (all_alike held mid n a.3)
line_alike tells b w from now line (CallFailed why) made held mid n a on = absurd cc
line_alike tells b w from now line (Backup start end) made held mid n (made_is, inl t) on = elim (same_or_not n (backup_name t.0)) [
  | inl is ↦ inl (taken_into n t.0 line start end (ap backup_taken t.1) is)
  | inr other ↦ inr (alike_at held mid n (t.3.others n other))
]
line_alike tells b w from now line (Backup start end) made held mid n (made_is, inr t) on =
    elim (among_alike held mid n t.0 t.1 line t.2 t.4 t.5) [
      | inl is ↦ inl (taken_into n t.0 line start end (ap backup_taken t.2) is)
      | inr alike ↦ inr alike
    ]
line_alike tells b w from now line (BackupRefused backup.NotEmpty) made held mid n a on = inr (only_alike held mid n (backup_name a.0) a.3 (related_alike _ (held (backup_name a.0)).files (mid (backup_name a.0)).files a.5.2))
line_alike tells b w from now line (BackupRefused (backup.WalFull k)) made held mid n a on = inr (only_alike held mid n (backup_name a.0) a.3 (related_alike _ (held (backup_name a.0)).files (mid (backup_name a.0)).files a.5.3))
line_alike tells b w from now line (BackupRefused (backup.StoreFailed area)) made held mid n a on = absurd cc
line_alike tells b w from now line (BackupRefused backup.OutFailed) made held mid n a on = absurd cc
line_alike tells b w from now line (BackupRefused backup.NoMemory) made held mid n a on = absurd cc
line_alike tells b w from now line (IncrRefused incr.NotEmpty) made held mid n a on = inr (both_alike held mid n a.0 a.1 line a.2 a.4 a.5 (alike_same _ _ a.7.1.out.files))
line_alike tells b w from now line (IncrRefused incr.NoManifest) made held mid n a on = inr (both_alike held mid n a.0 a.1 line a.2 a.4 a.5 (alike_same _ _ a.7.1.out.files))
line_alike tells b w from now line (IncrRefused (incr.ManifestRefused why)) made held mid n a on = inr (both_alike held mid n a.0 a.1 line a.2 a.4 a.5 (alike_same _ _ a.7.1.out.files))
line_alike tells b w from now line (IncrRefused (incr.SystemDiffers have expected)) made held mid n a on = inr (both_alike held mid n a.0 a.1 line a.2 a.4 a.5 (alike_same _ _ a.7.1.out.files))
line_alike tells b w from now line (IncrRefused (incr.Overlap begun end)) made held mid n a on = inr (both_alike held mid n a.0 a.1 line a.2 a.4 a.5 (alike_same _ _ a.7.2.files))
line_alike tells b w from now line (IncrRefused (incr.Gap place)) made held mid n a on = inr (both_alike held mid n a.0 a.1 line a.2 a.4 a.5 (alike_same _ _ a.7.2.files))
line_alike tells b w from now line (IncrRefused (incr.WalFull k)) made held mid n a on =
    inr (both_alike held mid n a.0 a.1 line a.2 a.4 a.5 (related_alike _ (held (backup_name a.0)).files (mid (backup_name a.0)).files a.7.3))
line_alike tells b w from now line (IncrRefused (incr.StoreFailed area)) made held mid n a on = absurd cc
line_alike tells b w from now line (IncrRefused incr.SumsFailed) made held mid n a on = absurd cc
line_alike tells b w from now line (IncrRefused incr.PriorFailed) made held mid n a on = absurd cc
line_alike tells b w from now line (IncrRefused incr.OutFailed) made held mid n a on = absurd cc
line_alike tells b w from now line (IncrRefused incr.NoMemory) made held mid n a on = absurd cc
line_alike tells b w from now line NotRun made held mid n a on = inr (all_alike held mid n a.1)

-- ---- backups' areas

-- what a line that was stopped left of a backup's area, where it didn't try to take that backup
stopped_alike : (tells : Type 0) (b : Basis) (w from : ℕ) (now : List Entry) (line : Line) (x : Answer) (made : List Entry) (held mid : Areas) (name : List ℕ) → LineAnswer tells b w from now line.command x made held mid → IsSome (stop_of x) → TakesOther name line x → AlikeAt held mid (backup_name name)
stopped_alike tells b w from now line (Accepted place) made held mid name a stops other = all_alike held mid (backup_name name) a.4
stopped_alike tells b w from now line (Refused why) made held mid name a stops other = all_alike held mid (backup_name name) a.4
stopped_alike tells b w from now line (Grown k place) made held mid name a stops other = all_alike held mid (backup_name name) a.5
stopped_alike tells b w from now line (Stopped k why) made held mid name a stops other = all_alike held mid (backup_name name) a.7
stopped_alike tells b w from now line (Redo redo) made held mid name a stops other = all_alike held mid (backup_name name) a.3
stopped_alike tells b w from now line (CheckpointRefused why) made held mid name a stops other = all_alike held mid (backup_name name) a.3
stopped_alike tells b w from now line (Wrote k) made held mid name a stops other = all_alike held mid (backup_name name) a.4
stopped_alike tells b w from now line (Published k) made held mid name a stops other = absurd cc
stopped_alike tells b w from now line (CallFailed why) made held mid name a stops other = all_alike held mid (backup_name name) a.2
stopped_alike tells b w from now line (Backup start end) made held mid name a stops other = absurd cc
stopped_alike tells b w from now line (BackupRefused why) made held mid name a stops other =
    alike_at held mid (backup_name name) (a.3.others (backup_name name) (λ same. other stops (ap backup_taken a.1 ∙ sym (same_backup name a.0 same))))
stopped_alike tells b w from now line (IncrRefused why) made held mid name a stops other =
    let those : OnlyAmong (backup_name a.0 ∷ backup_name a.1 ∷ []) held mid = subst (λ (c : Command). OnlyAmong (area_asked c) held mid) a.2 a.4 in
    let apart : backup_name name ≢ backup_name a.0 = λ same. other stops (ap backup_taken a.2 ∙ sym (same_backup name a.0 same)) in
    elim (same_or_not (backup_name name) (backup_name a.1)) [
      | inl before ↦ subst (AlikeAt held mid) (sym before) (alike_same (held (backup_name a.1)).files (mid (backup_name a.1)).files a.5.files)
      | inr not_before ↦ alike_at held mid (backup_name name) (those.others (backup_name name) (apart, (not_before, tt)))
    ]
stopped_alike tells b w from now line NotRun made held mid name a stops other = all_alike held mid (backup_name name) a.1

some_or_none : {A : Type 0} (o : Option A) → IsSome o ⊎ (o ≡ None)
some_or_none None = inr refl
some_or_none (Some x) = inl refl

-- each line leaves a backup's area telling or not as it did, where it didn't take that backup
backup_alike : (tells : Type 0) (b : Basis) (w from : ℕ) (now : List Entry) (line : Line) (x : Answer) (made : List Entry) (held mid : Areas) (name : List ℕ) → LineAnswer tells b w from now line.command x made held mid → TakesOther name line x → AlikeAt held mid (backup_name name)
backup_alike tells b w from now line x made held mid name a other = elim (some_or_none (stop_of x)) [
  | inl stops ↦ stopped_alike tells b w from now line x made held mid name a stops other
  | inr on ↦ elim (line_alike tells b w from now line.command x made held mid (backup_name name) a on) [
    | inl taken ↦
        let apart : backup_taken line.command ≢ name = subst (TakesOther name line) taken.answered other in
        absurd (apart (sym (same_backup name (backup_taken line.command) taken.area)))
    | inr alike ↦ alike
  ]
]

-- ---- lines in turn

not_run : (x : Answer) → is_not_run x ≡ true → x ≡ NotRun
not_run (Accepted place) is = absurd cc
not_run (Refused why) is = absurd cc
not_run (Grown k place) is = absurd cc
not_run (Stopped k why) is = absurd cc
not_run (Redo redo) is = absurd cc
not_run (CheckpointRefused why) is = absurd cc
not_run (Wrote k) is = absurd cc
not_run (Published k) is = absurd cc
not_run (CallFailed why) is = absurd cc
not_run (Backup start end) is = absurd cc
not_run (BackupRefused why) is = absurd cc
not_run (IncrRefused why) is = absurd cc
not_run NotRun is = refl

stops_or_goes : (x : Answer) → (stops_with x ≡ true) ⊎ (stops_with x ≡ false)
stops_or_goes x = elim (stops_with x) as (λ b. (b ≡ true) ⊎ (b ≡ false)) [ true ↦ inl refl | false ↦ inr refl ]

-- behind a line that stopped its worker nothing changes
rested : (tells : Type 0) (b : Basis) (w : ℕ) (h : List Entry) (from : ℕ) (lines : List Line) (answers : List Answer) (es : List Entry) (to : ℕ) (held new : Areas) → Answered tells b w h from lines answers es to held new → InOrder true answers → new ≡ held
rested tells b w h from [] [] es to held new a order = a.2
rested tells b w h from [] (x ∷ answers) es to held new a order = absurd a
rested tells b w h from (l ∷ lines) [] es to held new a order = absurd a
rested tells b w h from (l ∷ lines) (x ∷ answers) es to held new a order =
    let is : x ≡ NotRun = not_run x order.0 in
    let here : LineAnswer tells b w from (take a.0 h) l.command NotRun a.1 held a.3 = subst (λ (y : Answer). LineAnswer tells b w from (take a.0 h) l.command y a.1 held a.3) is a.7 in
    rested tells b w h a.0 lines answers a.2 to a.3 new a.8 (subst (λ (y : Answer). InOrder (stops_with y) answers) is order.1) ∙ here.1

-- a backup's area that tells behind lines tells before them, where none of them took that backup
told_back : (name : List ℕ) (tells : Type 0) (b : Basis) (w : ℕ) (h : List Entry) (from : ℕ) (lines : List Line) (answers : List Answer) (es : List Entry) (to : ℕ) (held new : Areas) → Answered tells b w h from lines answers es to held new → NoneTakes name lines answers
    → IsSome (new (backup_name name)).files → IsSome (held (backup_name name)).files
told_back name tells b w h from [] [] es to held new a apart some = subst (λ (f : Areas). IsSome (f (backup_name name)).files) a.2 some
told_back name tells b w h from [] (x ∷ answers) es to held new a apart some = absurd a
told_back name tells b w h from (l ∷ lines) [] es to held new a apart some = absurd a
told_back name tells b w h from (l ∷ lines) (x ∷ answers) es to held new a apart some =
    some_back (λ p q. Unit {0}) (held (backup_name name)).files (a.3 (backup_name name)).files (backup_alike tells b w from (take a.0 h) l x a.1 held a.3 name a.7 apart.0)
    (told_back name tells b w h a.0 lines answers a.2 to a.3 new a.8 apart.1 some)

told_behind : (names : Names) (tells : Type 0) (b : Basis) (w : ℕ) (h : List Entry) (from : ℕ) (lines : List Line) (answers : List Answer) (es : List Entry) (to : ℕ) (held new : Areas) (stopped : Bool) (a : Answered tells b w h from lines answers es to held new)
    → InOrder stopped answers → AreTakenOnce lines answers → AllTell names held → AllTell names new → TellBehindLines names tells b w h from lines answers es to held new a
told_behind names tells b w h from [] answers es to held new stopped a order once before behind = tt
told_behind names tells b w h from (l ∷ lines) [] es to held new stopped a order once before behind = tt
told_behind names tells b w h from (l ∷ lines) (x ∷ answers) es to held new stopped a order once before behind =
    (mid, told_behind names tells b w h a.0 lines answers a.2 to a.3 new (stops_with x) a.8 order.1 once.1 mid behind)
  where
    taken : (n : List ℕ) → IsOneOf n names → IsTakenInto n l.command x → IsSome (a.3 n).files
    taken n one at =
        let name : List ℕ = backup_taken l.command in
        let apart : NoneTakes name lines answers = subst (λ (y : Answer). TakesLast l y lines answers) at.answered once.0 in
        subst (λ (m : List ℕ). IsSome (a.3 m).files) (sym at.area)
        (told_back name tells b w h a.0 lines answers a.2 to a.3 new a.8 apart (subst (λ (m : List ℕ). IsSome (new m).files) at.area (behind n one)))

    mid : AllTell names a.3
    mid n one = elim (stops_or_goes x) [
      | inl stops ↦ subst (λ (f : Areas). IsSome (f n).files) (rested tells b w h a.0 lines answers a.2 to a.3 new a.8 (subst (λ (s : Bool). InOrder s answers) stops order.1)) (behind n one)
      | inr on ↦ elim (line_alike tells b w from (take a.0 h) l.command x a.1 held a.3 n a.7 (goes_on x on).1) [
        | inl at ↦ taken n one at
        | inr alike ↦ some_on (λ p q. Unit {0}) (held n).files (a.3 n).files alike (before n one)
      ]
    ]

-- ---- a run

pub runs_tell : RunsTellThroughout
runs_tell when old new report run told around = record {
  store = told;
  before = around.before;
  sums = around.sums;
  behind = λ worker t there.
      let among : (n : List ℕ) → IsOneOf n (areas_asked t.task.lines) → IsOneOf n (backups_asked (tasks_told report.told)) = λ n one. asked_among report.told worker t n there one in
      let given = run.happened.answered worker t there in
      told_behind (areas_asked t.task.lines) _ _ worker _ _ t.task.lines t.answers _ given.to (run.held worker) (run.kept worker) false given.answered given.order (around.once worker t there)
      (λ n one. subst (λ (a : AreaState). IsSome a.files) (sym (run.were worker t there n one)) (around.before n (among n one)))
      (λ n one. subst (λ (a : AreaState). IsSome a.files) (sym (run.are worker t there n one)) (around.behind n (among n one)));
}
