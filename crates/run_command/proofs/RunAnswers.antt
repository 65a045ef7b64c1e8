-- Why `run` comes to its answer, seen from the site.
use Rattle.std.proofs.Common.{◌≡◌, ℕ, List, [], ◌∷◌, ◌++◌, Option, Ok, Err, IfSome, sym, ap, subst, ◌∙◌, inl, inr}
use Rattle.lsn_core.specs.Files.{Files}
use Rattle.vault.specs.declared.area.Vault.{Ghosts as Vaults}
use Rattle.vault.specs.declared.site.Site.{Ghosts as Sites}
use Rattle.vault.specs.Site.{Areas, AreaState, state_in}
use Rattle.vault.specs.Lending.{Names, IsOneOf}
use Rattle.recovery.specs.declared.fault.RecoveryFault.{RecoveryFault}
use Rattle.store_areas.specs.declared.areas.StoreAreas.{StoreAreas}
use Rattle.store_faults.specs.declared.begin_why.BeginWhy.{BeginWhy}
use Rattle.store_faults.specs.declared.begin_why.BeginWhy.TheVariants as begin
use Rattle.lsn_core.specs.declared.fault.StoreArea.TheVariants.{Data}
use Rattle.lsn_core.specs.declared.fault.StoreFault.{StoreFault}
use Rattle.lsn_core.specs.declared.fault.StoreFault.TheVariants as store
use Rattle.store_areas.specs.Begin.{BeginCause, MayComeLate, DataFails, SameData, faults_of}
use Rattle.scripts.specs.declared.script.Task.{Task}
use Rattle.run_answers.specs.declared.outcome.RunReport.{RunReport}
use Rattle.run_answers.specs.Telling.{RunResult}
use Rattle.run_answers.specs.declared.outcome.RunFault.TheVariants as run
use Rattle.command_base.specs.Areas.{wal_name, data_name, sums_name, Keeps}
use Rattle.command_base.specs.Outside.{Outside, of_site}
use Rattle.vault.specs.declared.lending.Held.{Held}
use Rattle.crew.specs.Backups.{areas_of}
use Rattle.run_command.specs.Run.{store_asks, backups_asked, others_asked, KeepAll, AreAsAt, tasks_told, DataAreaFails, CantBegin, HasScript, RunOfScript, RunAnswer}
use Rattle.run_command.specs.Inner.{IsRunOn, HasNotBegun, MayNotBegin, seen_at}
use Rattle.run_command.proofs.StoreLent.{AreAt, RunBack, one_either, wal_files, wal_faults, rose_at}
use Rattle.run_command.proofs.RunDone.{run_done}

-- ---- areas that are as they were

abbrev AllKeep : Areas → Areas → Names → Type 0
AllKeep old new [] = Unit {0}
AllKeep old new (n ∷ ns) = Keeps (old n) (new n) × AllKeep old new ns

keeps_one : (old new : Areas) (names : Names) → AllKeep old new names → (name : List ℕ) → IsOneOf name names → Keeps (old name) (new name)
keeps_one old new [] all name one = absurd one
keeps_one old new (n ∷ names) all name (inl is) = subst (λ (x : List ℕ). Keeps (old x) (new x)) (sym is) all.0
keeps_one old new (n ∷ names) all name (inr one) = keeps_one old new names all.1 name one

same_area : {V : Type 0} (g : Vaults V) (x y : AreaState) (a b : V) → x ≡ state_in g a → y ≡ state_in g b → b ≡ a → y.files ≡ x.files
same_area g x y a b was is same = ap (λ (s : AreaState). s.files) is ∙ (ap (λ v. g.files v) same ∙ sym (ap (λ (s : AreaState). s.files) was))

data_fails : {V : Type 0} (g : Vaults V) (old new : Areas) (a b : StoreAreas V) (why : StoreFault) → AreAt g old a → AreAt g new b → DataFails (faults_of g a) (faults_of g b) why → DataAreaFails old new why
data_fails g old new a b (store.Failed area) was at (q, below, is, rose) = (q, below, is, rose_at g old new a b was at (Data q) rose)
data_fails g old new a b store.NoMemory was at cause = tt

-- where no store was begun
held_keep : (script : List Task) (old new held kept : Areas) → AreAsAt (backups_asked script) held old → AreAsAt (backups_asked script) kept new → kept ≡ held → KeepAll (backups_asked script) old new
held_keep script old new held kept were are same name one =
    ap (λ (x : AreaState). x.files) (sym (are name one) ∙ (ap (λ (f : Areas). f name) same ∙ were name one))

both_keep : (front rest : Names) (old new : Areas) → KeepAll front old new → ((name : List ℕ) → IsOneOf name rest → Keeps (old name) (new name)) → KeepAll (front ++ rest) old new
both_keep front rest old new first last name one =
    elim (one_either name front rest one) [
      | inl is ↦ first name is
      | inr is ↦ last name is
    ]

wal_cause : {V : Type 0} (g : Vaults V) (old new : Areas) (a b : StoreAreas V) (fault : RecoveryFault) → AreAt g old a → AreAt g new b → BeginCause (g.files a.wal) (g.faults a.wal) (g.faults b.wal) fault → BeginCause (old wal_name).files (old wal_name).faults (new wal_name).faults fault
wal_cause g old new a b fault was at cause =
    subst (λ (n : ℕ). BeginCause (old wal_name).files (old wal_name).faults n fault) (sym (wal_faults g new b at))
    (subst (λ (n : ℕ). BeginCause (old wal_name).files n (g.faults b.wal) fault) (sym (wal_faults g old a was))
    (subst (λ (f : Option Files). BeginCause f (g.faults a.wal) (g.faults b.wal) fault) (sym (wal_files g old a was)) cause))

wal_kept : {V : Type 0} (g : Vaults V) (old new : Areas) (a b : StoreAreas V) → AreAt g old a → AreAt g new b → g.files b.wal ≡ g.files a.wal → Keeps (old wal_name) (new wal_name)
wal_kept g old new a b was at same = wal_files g new b at ∙ (same ∙ sym (wal_files g old a was))

-- the areas of the backups and that of summaries
others_keep : {V : Type 0} (g : Vaults V) (script : List Task) (old new : Areas) (before sums : V) → KeepAll (backups_asked script) old new → old sums_name ≡ state_in g before → new sums_name ≡ state_in g sums → sums ≡ before → KeepAll (others_asked script) old new
others_keep g script old new before sums backups was at same =
    both_keep (backups_asked script) (sums_name ∷ []) old new backups (keeps_one old new (sums_name ∷ []) (same_area g (old sums_name) (new sums_name) before sums was at same, tt))

pub cant_begin : {V : Type 0} (g : Vaults V) (script : List Task) (old new : Areas) (a b : StoreAreas V) (why : BeginWhy) → KeepAll (others_asked script) old new → AreAt g old a → AreAt g new b → g.files b.wal ≡ g.files a.wal → MayNotBegin g a b why → CantBegin script old new why
cant_begin g script old new a b (begin.Wal fault) others was at wal (inl cause) =
    let same : SameData a b = cause.1.1 in (
      both_keep (others_asked script) store_asks old new others
          (keeps_one old new store_asks (wal_kept g old new a b was at wal, (same_area g (old (data_name 0)) (new (data_name 0)) a.data0 b.data0 was.data0 at.data0 same.data0, (same_area g (old (data_name 1)) (new (data_name 1)) a.data1 b.data1 was.data1 at.data1 same.data1, (same_area g (old (data_name 2)) (new (data_name 2)) a.data2 b.data2 was.data2 at.data2 same.data2, (same_area g (old (data_name 3)) (new (data_name 3)) a.data3 b.data3 was.data3 at.data3 same.data3, tt)))))),
      (cause.1.0, wal_cause g old new a b fault was at cause.0),
    )
cant_begin g script old new a b (begin.Wal fault) others was at wal (inr memory) = absurd cc
cant_begin g script old new a b (begin.Replay fault) others was at wal (inl cause) = (
  others,
  (
    wal_kept g old new a b was at wal,
    (
      subst (λ (f : Option Files). IfSome f (λ m. MayComeLate fault)) (sym (wal_files g old a was)) cause.1.0,
      wal_cause g old new a b fault was at cause.0,
    ),
  ),
)
cant_begin g script old new a b (begin.Replay fault) others was at wal (inr memory) = absurd cc
cant_begin g script old new a b (begin.Data fault) others was at wal (inl cause) =
    (others, wal_kept g old new a b was at wal, data_fails g old new a b fault was at cause.0)
cant_begin g script old new a b (begin.Data fault) others was at wal (inr memory) =
    let same : fault ≡ store.NoMemory = cc in
    (others, wal_kept g old new a b was at wal, subst (λ (w : StoreFault). DataAreaFails old new w) (sym same) tt)

-- ---- the answers

pub ran_ok : {S V : Type 0} (s : Sites S V) (g : Vaults V) (when limit : ℕ) (script : List Task) (old new : S) (held kept : List (Held V)) (before sums : V) (a b : StoreAreas V) (report : RunReport) → RunBack s g script old new held kept before sums a b
    → IsRunOn g when limit a b before sums held kept report → tasks_told report.told ≡ script → RunOfScript when limit script (of_site s old) (of_site s new) (Ok report)
ran_ok s g when limit script old new held kept before sums a b report back ran same =
    let d = run_done g when limit (s.areas old) (s.areas new) a b before sums held kept report back.was back.is back.before back.behind back.held_there back.kept_there ran in
    (same, d.0, d.1)

pub ran_err : {S V : Type 0} (s : Sites S V) (g : Vaults V) (when limit : ℕ) (script : List Task) (old new : S) (held kept : List (Held V)) (before sums : V) (a b : StoreAreas V) (why : BeginWhy) → RunBack s g script old new held kept before sums a b
    → kept ≡ held → sums ≡ before → HasNotBegun g a b why → RunOfScript when limit script (of_site s old) (of_site s new) (Err (run.Begin why))
ran_err s g when limit script old new held kept before sums a b why back same still un =
    cant_begin g script (s.areas old) (s.areas new) a b why
    (others_keep g script (s.areas old) (s.areas new) before sums (held_keep script (s.areas old) (s.areas new) (areas_of g held) (areas_of g kept) back.were back.after (ap (areas_of g) same)) back.before back.behind still) back.was back.is un.wal un.cause

-- ---- the script of the input

pub of_input : (when limit : ℕ) (script : List Task) (old new : Outside) (left rest : Option (List ℕ)) (reads now : ℕ) (before behind : Option ℕ) (r : RunResult) → HasScript left rest script → RunOfScript when limit script old new r
    → RunAnswer when limit script (seen_at old left reads before) (seen_at new rest now behind) r
of_input when limit script old new left rest reads now before behind (Ok report) has ran = (has, ran)
of_input when limit script old new left rest reads now before behind (Err (run.Input why)) has ran = absurd ran
of_input when limit script old new left rest reads now before behind (Err (run.Script line why)) has ran = absurd ran
of_input when limit script old new left rest reads now before behind (Err run.NoMemory) has ran = ran
of_input when limit script old new left rest reads now before behind (Err (run.Site fault)) has ran = (has, ran)
of_input when limit script old new left rest reads now before behind (Err (run.Begin why)) has ran = (has, ran)
