-- A script that is run on what an area holds begins in one way.
use Rattle.std.proofs.Common.{take, ◌≡◌, ℕ, ◌+◌, ◌<◌, ◌≤◌, ◌⊎◌, inl, inr, List, [], ◌∷◌, map, length, Option, Some, None, Result, Ok, Err, refl, sym, ap, subst, ◌∙◌, arith}
use Rattle.std.specs.Prelude.{IfSome, IsSome, codes}
use Rattle.std.specs.FinMap.{get, empty}
use Rattle.lsn_core.specs.Files.{Files}
use Rattle.lsn_core.specs.Store.{Store}
use Rattle.lsn_core.specs.declared.lsn.Lsn.{Lsn}
use Rattle.lsn_core.specs.Segment.{IsSegmentMib, StoreSettings}
use Rattle.lsn_core.specs.Tip.{Tip}
use Rattle.vault.specs.Site.{Areas, AreaState}
use Rattle.wal_record.specs.declared.record.Record.{Record}
use Rattle.wal_record.specs.Tips.{first_tip, tip_after}
use Rattle.wal_archive.specs.Rules.{End}
use Rattle.wal_reader.specs.Cursor.{IsReached as IsReachedTip}
use Rattle.wal_reader.specs.Settings.{GivesSettings, IsSettingsOf}
use Rattle.wal_reader.specs.Wal.{ReadsOn, IsWal}
use Rattle.wal_reader.proofs.OneReading.{one_reading}
use Rattle.wal_reader.proofs.OneSettings.{one_settings}
use Rattle.wal_reader.proofs.Passing.{stands_given, wal_reached}
use Rattle.wal_reader.proofs.Reached.{first_reached}
use Rattle.history.specs.Apply.{apply_all}
use Rattle.history.specs.Whole.{entry_of}
use Rattle.recovery.specs.declared.fault.RecoveryFault.{RecoveryFault}
use Rattle.recovery.specs.declared.fault.RecoveryFault.TheVariants as wal
use Rattle.recovery.specs.declared.replaying.ReadWal.{ReadWal}
use Rattle.recovery.specs.Causes.{IsOfFiles, HasSettings, WalCause}
use Rattle.recovery.specs.Onward.{AllEndBy, ending_by}
use Rattle.recovery.specs.Replay.{last_end, Reads, IsRead, IsReadWal}
use Rattle.recovery.proofs.SoFar.{all_kept}
use Rattle.recovery.proofs.OneWal.{same_lsn, one_wal}
use Rattle.store_areas.specs.Begin.{BeginCause, MayComeFirst, MayComeLate, HasNoEntry}
use Rattle.store_faults.specs.declared.begin_why.BeginWhy.TheVariants as begin
use Rattle.scripts.specs.declared.script.Task.{Task}
use Rattle.scripts.specs.declared.why.Why.{Why}
use Rattle.scripts.specs.declared.why.ScriptFault.{ScriptFault}
use Rattle.scripts.specs.declared.why.ScriptFault.TheVariants as script_fault
use Rattle.scripts.specs.Script.{IsScript, IsRefusedAt}
use Rattle.scripts.specs.Reasons.{script_limit}
use Rattle.scripts.proofs.OneAnswer.{one_answer}
use Rattle.run_answers.specs.declared.outcome.RunReport.{RunReport}
use Rattle.run_answers.specs.declared.outcome.RunFault.{RunFault}
use Rattle.run_answers.specs.declared.outcome.RunFault.TheVariants as run
use Rattle.run_answers.specs.Telling.{RunResult}
use Rattle.summary_store.specs.Expiry.{age_limit}
use Rattle.run_command.specs.Run.{HasFound, found_tip, RunDone, HasScript, HasRefusedLine, RunAnswer, run_workers}
use Rattle.run_command.specs.Input.{IsInput}
use Rattle.command_base.specs.Areas.{wal_name}
use Rattle.command_base.specs.Outside.{Outside}
use Rattle.pgbackup_cli.specs.Laws.{IsOfOutside, BeginAlike, RunsBeginAlike}
use Rattle.command_base.proofs.Told.{some_told, at_told}

-- ---- what was begun

given_at : (w : AreaState) (files : Files) (s : StoreSettings) → w.files ≡ Some files → HasSettings w.files s → IsSettingsOf files s
given_at w files s told has = at_told w.files files (λ m. IsSettingsOf m s) told has.given

-- the WAL of one area ends in one place
same_opened : (w : AreaState) (files : Files) (s t : StoreSettings) (rs qs : List Record) (a b : Lsn) → w.files ≡ Some files → HasSettings w.files s → HasSettings w.files t → HasFound s rs files → HasFound t qs files → a.0 ≡ (found_tip s rs).end → b.0 ≡ (found_tip t qs).end → a ≡ b
same_opened w files s t rs qs a b told given other here there first second =
    let same : t ≡ s = one_settings files t s (given_at w files t told other) (given_at w files s told given) in
    let again : HasFound s qs files = subst (λ (x : StoreSettings). HasFound x qs files) same there in
    let one = one_reading s files rs qs (found_tip s rs) (found_tip s qs) here again in
    same_lsn a b (first ∙ (ap (λ (x : Tip). x.end) one.1 ∙ (ap (λ (x : StoreSettings). (found_tip x qs).end) (sym same) ∙ sym second)))

begun_alike : (w : AreaState) (files : Files) (old new other : Outside) (when also : ℕ) (a b : RunReport) → old.areas wal_name ≡ w → w.files ≡ Some files → RunDone when old.areas new.areas a → RunDone also old.areas other.areas b → a.opened ≡ b.opened
begun_alike w files old new other when also a b is told first second =
    let told_here : (old.areas wal_name).files ≡ Some files = ap (λ (x : AreaState). x.files) is ∙ told in
    same_opened (old.areas wal_name) files first.settings second.settings first.found second.found a.opened b.opened told_here first.given second.given
    (at_told (old.areas wal_name).files files (HasFound first.settings first.found) told_here first.archive)
    (at_told (old.areas wal_name).files files (HasFound second.settings second.found) told_here second.archive)
    first.opened second.opened

-- ---- a WAL that is read whole

reads_back : (s : StoreSettings) (files : Files) (tip : Tip) (rs : List Record) (last : Tip) → ReadsOn s files tip rs last → Reads s files None tip rs last
reads_back s files tip [] last reads = reads
reads_back s files tip (r ∷ rs) last reads = (reads.0, reads_back s files (tip_after tip r) rs last reads.1)

wal_read : (s : StoreSettings) (files : Files) (rs : List Record) (tip : Tip) → IsWal s files rs tip → IsRead s files None rs tip End
wal_read s files rs tip wal = record { reads = reads_back s files (first_tip s.segment) rs tip wal.walk; behind = wal.ended }

-- ---- why none was

-- an archive whose entries make a store is a WAL that is read so
read_with : ℕ → Tip → Store → ReadWal
read_with end tip store = record { end = record { 0 = end }; tip = tip; store = store }

below_on : (s : StoreSettings) (files : Files) (tip : Tip) (rs : List Record) (last : Tip) → 1 ≤ s.segment → IsReachedTip s.segment tip → ReadsOn s files tip rs last → (tip.end ≤ last.end) × AllEndBy rs last.end
below_on s files tip [] last some is walk = (omega (arith, ap (λ (t : Tip). t.end) walk), tt)
below_on s files tip (r ∷ rs) last some is walk =
    let g = stands_given s files tip r some is walk.0 in
    let more = below_on s files (tip_after tip r) rs last some g.reached walk.1 in
    (omega (arith, g.later, more.0), (more.0, more.1))

is_read : (s : StoreSettings) (files : Files) (rs : List Record) (store : Store) → IsSegmentMib s.segment → HasFound s rs files → apply_all empty (map entry_of rs) ≡ Some store
    → IsReadWal s (Some files) None (read_with (found_tip s rs).end (found_tip s rs) store)
unfolding read_with
is_read s files rs store size wal applied =
    let tip : Tip = found_tip s rs in
    let below : AllEndBy rs tip.end = (below_on s files (first_tip s.segment) rs tip size.least (first_reached s.segment size) wal.walk).1 in
    let all : ending_by tip.end rs ≡ rs = all_kept rs tip.end below in
    record {
      entries = rs;
      archive = wal_read s files rs tip wal;
      tip = refl;
      ends = below;
      reached = omega arith;
      store = ap (λ (es : List Record). apply_all empty (map entry_of es)) all ∙ applied;
      end = ap (last_end s.segment) (sym all);
      within = (wal_reached s files rs tip size wal).within;
    }

segment_is : (o : Option (List ℕ)) (mib relseg : ℕ) → GivesSettings o mib relseg → IsSegmentMib mib
segment_is None mib relseg given = subst IsSegmentMib (sym given.0) (record { least = omega arith; most = omega arith; divides = refl })
segment_is (Some bytes) mib relseg given = given.segment

wal_refused : RecoveryFault → Result (StoreSettings × ReadWal) RecoveryFault
wal_refused fault = Err fault

wal_as : StoreSettings → ReadWal → Result (StoreSettings × ReadWal) RecoveryFault
wal_as s read = Ok (s, read)

as_or_refused : (s : StoreSettings) (read : ReadWal) (f : RecoveryFault) → wal_as s read ≡ wal_refused f → ⊥
unfolding wal_as wal_refused
as_or_refused s read f e = absurd cc

-- so it leaves no cause why it can't be read
read_or_refused : (files : Files) (s : StoreSettings) (rs : List Record) (store : Store) (before now : ℕ) (f : RecoveryFault) → HasSettings (Some files) s → HasFound s rs files → apply_all empty (map entry_of rs) ≡ Some store → WalCause None (Some files) before now f → IsOfFiles f → ⊥
unfolding wal_as wal_refused
read_or_refused files s rs store before now f given wal applied cause own =
    let size : IsSegmentMib s.segment = segment_is (get files (codes "settings")) s.segment s.relseg given.given.given in
    let read : ReadWal = read_with (found_tip s rs).end (found_tip s rs) store in
    as_or_refused s read f
    (one_wal None files before now before now (Ok (s, read)) (Err f) (given, is_read s files rs store size wal applied) cause tt own)

empty_or_refused : (files : Files) (before now : ℕ) (f : RecoveryFault) → HasNoEntry (Some files) → WalCause None (Some files) before now f → IsOfFiles f → ⊥
empty_or_refused files before now f none cause own = read_or_refused files none.settings [] empty before now f none.given none.archive refl cause own

-- the WAL can't be read, or has no entry
abbrev pub Because : Files → ℕ → ℕ → RecoveryFault → Type 0
Because files before now f = WalCause None (Some files) before now f ⊎ (HasNoEntry (Some files) × (f ≡ wal.NotInit))

cause_is : (files : Files) (before now : ℕ) (f : RecoveryFault) → BeginCause (Some files) before now f → Because files before now f
cause_is files before now (wal.Damaged mib damage) cause = inl cause
cause_is files before now (wal.Short end target) cause = inl cause
cause_is files before now (wal.BadDelta place) cause = inl cause
cause_is files before now wal.SettingsDamaged cause = inl cause
cause_is files before now (wal.Timeline name) cause = inl cause
cause_is files before now wal.NotInit (inl cause) = inl cause
cause_is files before now wal.NotInit (inr none) = inr (none, refl)
cause_is files before now wal.Failed cause = inl cause
cause_is files before now wal.NoMemory cause = inl cause

fault_is : (f g : RecoveryFault) → wal_refused f ≡ wal_refused g → f ≡ g
unfolding wal_refused
fault_is f g e = cc

same_cause : (files : Files) (before now start end : ℕ) (f g : RecoveryFault) → WalCause None (Some files) before now f → WalCause None (Some files) start end g → IsOfFiles f → IsOfFiles g → f ≡ g
unfolding wal_refused
same_cause files before now start end f g first second own other = fault_is f g (one_wal None files before now start end (Err f) (Err g) first second own other)

refused_by_one : (files : Files) (before now start end : ℕ) (f g : RecoveryFault) → Because files before now f → Because files start end g → IsOfFiles f → IsOfFiles g → f ≡ g
refused_by_one files before now start end f g (inl first) (inl second) own other = same_cause files before now start end f g first second own other
refused_by_one files before now start end f g (inl first) (inr second) own other = absurd (empty_or_refused files before now f second.0 first own)
refused_by_one files before now start end f g (inr first) (inl second) own other = absurd (empty_or_refused files start end g first.0 second other)
refused_by_one files before now start end f g (inr first) (inr second) own other = first.1 ∙ sym second.1

cause_at : (w x : AreaState) (files : Files) (f : RecoveryFault) → w.files ≡ Some files → BeginCause w.files w.faults x.faults f → Because files w.faults x.faults f
cause_at w x files f told cause = cause_is files w.faults x.faults f (subst (λ (o : Option Files). BeginCause o w.faults x.faults f) told cause)

same_refusal : (w x y : AreaState) (files : Files) (f g : RecoveryFault) → w.files ≡ Some files → BeginCause w.files w.faults x.faults f → BeginCause w.files w.faults y.faults g → IsOfFiles f → IsOfFiles g → f ≡ g
same_refusal w x y files f g told first second own other = refused_by_one files w.faults x.faults w.faults y.faults f g (cause_at w x files f told first) (cause_at w y files g told second) own other

-- ---- done or refused

-- an archive that has an entry is another than the empty one
some_or_empty : (files : Files) (s : StoreSettings) (rs : List Record) → HasSettings (Some files) s → HasFound s rs files → 0 < length rs → HasNoEntry (Some files) → ⊥
some_or_empty files s rs given wal some none =
    let same : none.settings ≡ s = one_settings files none.settings s none.given.given given.given in
    let bare : IsWal s files [] (first_tip s.segment) = subst (λ (t : StoreSettings). IsWal t files [] (first_tip t.segment)) same none.archive in
    let one = one_reading s files rs [] (found_tip s rs) (first_tip s.segment) wal bare in
    absurd (omega (arith, some, ap (λ (xs : List Record). length xs) one.0))

done_or_refused : (old new other : Outside) (files : Files) (when : ℕ) (a : RunReport) (f : RecoveryFault) → (old.areas wal_name).files ≡ Some files → RunDone when old.areas new.areas a → BeginCause (old.areas wal_name).files (old.areas wal_name).faults (other.areas wal_name).faults f → IsOfFiles f → ⊥
done_or_refused old new other files when a f told done cause own =
    let w : AreaState = old.areas wal_name in
    let s : StoreSettings = done.settings in
    let given : HasSettings (Some files) s = subst (λ (o : Option Files). HasSettings o s) told done.given in
    let here : HasFound s done.found files = at_told w.files files (HasFound s done.found) told done.archive in
    elim (cause_at w (other.areas wal_name) files f told cause) [
      | inl why ↦ read_or_refused files s done.found done.base w.faults (other.areas wal_name).faults f given here (done.made (subst (λ (o : Option Files). IsSome o) (sym told) refl)) why own
      | inr none ↦ some_or_empty files s done.found given here done.some none.0
    ]

-- ---- the script

-- two readings of one input
same_bytes : (left now other : Option (List ℕ)) (whole bytes again : List ℕ) → left ≡ Some whole → IsInput bytes left now → IsInput again left other → bytes ≡ again
same_bytes left now other whole bytes again told first second =
    at_told left whole (λ w. bytes ≡ take (script_limit + 1) w) told first.bytes_are ∙ sym (at_told left whole (λ w. again ≡ take (script_limit + 1) w) told second.bytes_are)

script_of : Result (List Task) ScriptFault → List Task
script_of (Ok script) = script
script_of (Err fault) = []

taken : List Task → Result (List Task) ScriptFault
taken script = Ok script

refused_at : ℕ → Why → Result (List Task) ScriptFault
refused_at n why = Err (script_fault.Line n why)

same_script : (left now other : Option (List ℕ)) (whole : List ℕ) (script again : List Task) → left ≡ Some whole → HasScript left now script → HasScript left other again → script ≡ again
unfolding script_of taken
same_script left now other whole script again told first second =
    let there : IsScript run_workers first.bytes again = subst (λ (bs : List ℕ). IsScript run_workers bs again) (sym (same_bytes left now other whole first.bytes second.bytes told first.input second.input)) second.script_is in
    ap script_of (one_answer run_workers first.bytes (taken script) (taken again) first.script_is there tt tt)

taken_or_refused : (left now other : Option (List ℕ)) (whole : List ℕ) (script : List Task) (n : ℕ) (why : Why) → left ≡ Some whole → HasScript left now script → HasRefusedLine left other n why → ⊥
unfolding taken refused_at
taken_or_refused left now other whole script n why told first second =
    let there : IsRefusedAt run_workers first.bytes n why = subst (λ (bs : List ℕ). IsRefusedAt run_workers bs n why) (sym (same_bytes left now other whole first.bytes second.bytes told first.input second.input)) second.refused in
    let e : taken script ≡ refused_at n why = one_answer run_workers first.bytes (taken script) (refused_at n why) first.script_is there tt tt in
    absurd cc

line_of : Result (List Task) ScriptFault → RunFault
line_of (Ok script) = run.NoMemory
line_of (Err (script_fault.Line n why)) = run.Script n why
line_of (Err script_fault.NoMemory) = run.NoMemory

refused_line : ℕ → Why → RunFault
refused_line n why = run.Script n why

same_line : (left now other : Option (List ℕ)) (whole : List ℕ) (n m : ℕ) (why also : Why) → left ≡ Some whole → HasRefusedLine left now n why → HasRefusedLine left other m also → refused_line n why ≡ refused_line m also
unfolding line_of refused_at refused_line
same_line left now other whole n m why also told first second =
    let there : IsRefusedAt run_workers first.bytes m also = subst (λ (bs : List ℕ). IsRefusedAt run_workers bs m also) (sym (same_bytes left now other whole first.bytes second.bytes told first.input second.input)) second.refused in
    ap line_of (one_answer run_workers first.bytes (refused_at n why) (refused_at m also) first.refused there tt tt)

-- ---- the whole

refused_for : RecoveryFault → RunFault
refused_for fault = run.Begin (begin.Wal fault)

unreplayed_for : RecoveryFault → RunFault
unreplayed_for fault = run.Begin (begin.Replay fault)

-- of what the files decide, nothing comes before the data areas are touched and behind that
first_or_late : (f : RecoveryFault) → MayComeFirst f → MayComeLate f → IsOfFiles f → ⊥
first_or_late (wal.Damaged mib damage) first late own = late
first_or_late (wal.Short end target) first late own = late
first_or_late (wal.BadDelta place) first late own = first
first_or_late wal.SettingsDamaged first late own = late
first_or_late (wal.Timeline name) first late own = late
first_or_late wal.NotInit first late own = late
first_or_late wal.Failed first late own = own.0 refl
first_or_late wal.NoMemory first late own = own.1 refl

read_or_unreplayed : (old new other : Areas) (files : Files) (f g : RecoveryFault) → (old wal_name).files ≡ Some files → MayComeFirst f × BeginCause (old wal_name).files (old wal_name).faults (new wal_name).faults f
    → IfSome (old wal_name).files (λ m. MayComeLate g) × BeginCause (old wal_name).files (old wal_name).faults (other wal_name).faults g → IsOfFiles f → IsOfFiles g → ⊥
read_or_unreplayed old new other files f g told first second own also =
    let same : f ≡ g = same_refusal (old wal_name) (new wal_name) (other wal_name) files f g told first.1 second.1 own also in
    let late : MayComeLate g = at_told (old wal_name).files files (λ m. MayComeLate g) told second.0 in
    first_or_late f first.0 (subst MayComeLate (sym same) late) own

-- a run that was done, and one that was refused
one_done : (old new other : Outside) (files : Files) (whole : List ℕ) (when then limit later : ℕ) (script again : List Task) (a : RunReport) (f : RunFault) → (old.areas wal_name).files ≡ Some files → old.left ≡ Some whole → RunAnswer when limit script old new (Ok a) → RunAnswer then later again old other (Err f)
    → IsOfOutside f → ⊥
one_done old new other files whole when then limit later script again a (run.Input why) told input first second own = own
one_done old new other files whole when then limit later script again a (run.Script n why) told input first second own = taken_or_refused old.left new.left other.left whole script n why input first.0 second.1
one_done old new other files whole when then limit later script again a run.NoMemory told input first second own = own
one_done old new other files whole when then limit later script again a (run.Site fault) told input first second own = own
one_done old new other files whole when then limit later script again a (run.Begin (begin.Wal why)) told input first second own = done_or_refused old new other files when a why told first.1.1 second.1.1.1 own
one_done old new other files whole when then limit later script again a (run.Begin (begin.Replay why)) told input first second own = done_or_refused old new other files when a why told first.1.1 second.1.1.1.1 own
one_done old new other files whole when then limit later script again a (run.Begin (begin.Data why)) told input first second own = own

-- two runs that were refused
both_refused : (old new other : Outside) (files : Files) (whole : List ℕ) (when then limit later : ℕ) (script again : List Task) (f g : RunFault) → (old.areas wal_name).files ≡ Some files → old.left ≡ Some whole → RunAnswer when limit script old new (Err f) → RunAnswer then later again old other (Err g)
    → IsOfOutside f → IsOfOutside g → f ≡ g
unfolding refused_line refused_for unreplayed_for
both_refused old new other files whole when then limit later script again (run.Input why) g told input first second own also = absurd own
both_refused old new other files whole when then limit later script again run.NoMemory g told input first second own also = absurd own
both_refused old new other files whole when then limit later script again (run.Site fault) g told input first second own also = absurd own
both_refused old new other files whole when then limit later script again (run.Begin (begin.Data why)) g told input first second own also = absurd own
both_refused old new other files whole when then limit later script again (run.Script n why) (run.Input w) told input first second own also = absurd also
both_refused old new other files whole when then limit later script again (run.Script n why) (run.Script m w) told input first second own also = same_line old.left new.left other.left whole n m why w input first.1 second.1
both_refused old new other files whole when then limit later script again (run.Script n why) run.NoMemory told input first second own also = absurd also
both_refused old new other files whole when then limit later script again (run.Script n why) (run.Site w) told input first second own also = absurd also
both_refused old new other files whole when then limit later script again (run.Script n why) (run.Begin (begin.Wal w)) told input first second own also = absurd (taken_or_refused old.left other.left new.left whole again n why input second.0 first.1)
both_refused old new other files whole when then limit later script again (run.Script n why) (run.Begin (begin.Replay w)) told input first second own also = absurd (taken_or_refused old.left other.left new.left whole again n why input second.0 first.1)
both_refused old new other files whole when then limit later script again (run.Script n why) (run.Begin (begin.Data w)) told input first second own also = absurd also
both_refused old new other files whole when then limit later script again (run.Begin (begin.Wal why)) (run.Input w) told input first second own also = absurd also
both_refused old new other files whole when then limit later script again (run.Begin (begin.Wal why)) (run.Script m w) told input first second own also = absurd (taken_or_refused old.left new.left other.left whole script m w input first.0 second.1)
both_refused old new other files whole when then limit later script again (run.Begin (begin.Wal why)) run.NoMemory told input first second own also = absurd also
both_refused old new other files whole when then limit later script again (run.Begin (begin.Wal why)) (run.Site w) told input first second own also = absurd also
both_refused old new other files whole when then limit later script again (run.Begin (begin.Wal why)) (run.Begin (begin.Wal w)) told input first second own also =
    ap refused_for (same_refusal (old.areas wal_name) (new.areas wal_name) (other.areas wal_name) files why w told first.1.1.1 second.1.1.1 own also)
both_refused old new other files whole when then limit later script again (run.Begin (begin.Wal why)) (run.Begin (begin.Replay w)) told input first second own also =
    absurd (read_or_unreplayed old.areas new.areas other.areas files why w told first.1.1 second.1.1.1 own also)
both_refused old new other files whole when then limit later script again (run.Begin (begin.Wal why)) (run.Begin (begin.Data w)) told input first second own also = absurd also
both_refused old new other files whole when then limit later script again (run.Begin (begin.Replay why)) (run.Input w) told input first second own also = absurd also
both_refused old new other files whole when then limit later script again (run.Begin (begin.Replay why)) (run.Script m w) told input first second own also = absurd (taken_or_refused old.left new.left other.left whole script m w input first.0 second.1)
both_refused old new other files whole when then limit later script again (run.Begin (begin.Replay why)) run.NoMemory told input first second own also = absurd also
both_refused old new other files whole when then limit later script again (run.Begin (begin.Replay why)) (run.Site w) told input first second own also = absurd also
both_refused old new other files whole when then limit later script again (run.Begin (begin.Replay why)) (run.Begin (begin.Wal w)) told input first second own also =
    absurd (read_or_unreplayed old.areas other.areas new.areas files w why told second.1.1 first.1.1.1 also own)
both_refused old new other files whole when then limit later script again (run.Begin (begin.Replay why)) (run.Begin (begin.Replay w)) told input first second own also =
    ap unreplayed_for (same_refusal (old.areas wal_name) (new.areas wal_name) (other.areas wal_name) files why w told first.1.1.1.1 second.1.1.1.1 own also)
both_refused old new other files whole when then limit later script again (run.Begin (begin.Replay why)) (run.Begin (begin.Data w)) told input first second own also = absurd also

begin_alike : (old new other : Outside) (files : Files) (whole : List ℕ) (when then limit later : ℕ) (script again : List Task) (a b : RunResult) → (old.areas wal_name).files ≡ Some files → old.left ≡ Some whole → RunAnswer when limit script old new a → RunAnswer then later again old other b → BeginAlike a b
begin_alike old new other files whole when then limit later script again (Ok a) (Ok b) told input first second = (
  begun_alike (old.areas wal_name) files old new other when then a b refl told first.1.1 second.1.1,
  first.1.0 ∙ (same_script old.left new.left other.left whole script again input first.0 second.0 ∙ sym second.1.0),
)
begin_alike old new other files whole when then limit later script again (Ok a) (Err g) told input first second = one_done old new other files whole when then limit later script again a g told input first second
begin_alike old new other files whole when then limit later script again (Err f) (Ok b) told input first second = one_done old other new files whole then when later limit again script b f told input second first
begin_alike old new other files whole when then limit later script again (Err f) (Err g) told input first second = both_refused old new other files whole when then limit later script again f g told input first second

pub runs_begin_alike : RunsBeginAlike
runs_begin_alike days also old new other a b told first second =
    let files = some_told (old.areas wal_name).files (told.files wal_name) in
    let whole = some_told old.left told.left in
    begin_alike old new other files.0 whole.0 first.0 second.0 (age_limit days first.0) (age_limit also second.0) first.1 second.1 a b files.1 whole.1 first.6 second.6
