-- The WAL that a run leaves, and what later runs find of it.
use Rattle.std.proofs.Common.{◌≡◌, ℕ, ◌-◌, ◌≤◌, List, [], ◌++◌, map, append-nil, append_assoc, Option, Some, None, IfSome, Ok, Err, refl, sym, ap, subst, ◌∙◌, arith, inl}
use Rattle.std.specs.Prelude.{codes}
use Rattle.std.specs.FinMap.{get}
use Rattle.std.proofs.lemmas.List.{map-append}
use Rattle.lsn_core.specs.Files.{Files}
use Rattle.lsn_core.specs.Segment.{IsSegmentMib, StoreSettings, segment_bytes}
use Rattle.lsn_core.specs.Tip.{Tip}
use Rattle.lsn_core.specs.declared.lsn.Lsn.{Lsn}
use Rattle.vault.specs.Area.{Related}
use Rattle.vault.specs.Frame.{AgreeBut}
use Rattle.vault.specs.Site.{Areas}
use Rattle.wal_record.specs.Tips.{first_tip, tip_behind}
use Rattle.wal_record.specs.declared.record.Record.{Record}
use Rattle.wal_archive.specs.Archive.{archive_of}
use Rattle.wal_archive.specs.Writing.{IsLeft}
use Rattle.wal_reader.specs.Settings.{IsSettingsOf}
use Rattle.wal_reader.specs.Wal.{ReadsOn, stands_behind}
use Rattle.wal_writer.specs.Stops.{IsSegmentFile}
use Rattle.history.specs.Entry.{Entry}
use Rattle.history.specs.Whole.{entry_of}
use Rattle.history.specs.Written.{wal_of, tip_of}
use Rattle.history.proofs.Histories.{tip_over_read}
use Rattle.history.specs.fuzzy_copies.Orderly.{IsOrderly}
use Rattle.history.proofs.fuzzy_copies.Repeats.{entries_rise}
use Rattle.journal.specs.Lawful.{StandInPlace}
use Rattle.journal.proofs.Stands.{stand_front}
use Rattle.store_locks.specs.Records.{HoldsRecords}
use Rattle.store_faults.specs.declared.begin_why.BeginWhy.TheVariants as begin
use Rattle.command_base.specs.Areas.{wal_name}
use Rattle.command_base.specs.Outside.{Outside}
use Rattle.command_base.proofs.Told.{some_told, at_told}
use Rattle.scripts.specs.declared.script.Task.{Task}
use Rattle.run_answers.specs.declared.outcome.RunFault.TheVariants as run
use Rattle.run_answers.specs.declared.outcome.RunReport.{RunReport}
use Rattle.run_answers.specs.Telling.{RunResult}
use Rattle.run_command.specs.Run.{AreTold, RunAnswer, others_asked, store_asks, RunDone, HasFound, all_records, found_tip}
use Rattle.run_command.proofs.ToldLess.{one_back}
use Rattle.run_command.proofs.OwnEntries.{held_read}
use Rattle.backup_laws.specs.Restores.{GoesOnFrom, IsWholeTo, HasRun, RunsOfInputsAreRuns}
use Rattle.backup_laws.specs.ChainRestores.{RunsLeaveWholeWals, RunsGoOn, RunsOfScriptsGoOn}
use Rattle.backup_laws.proofs.Reading.{read_front, none_behind, end_stops, records_rise, split}
use Rattle.backup_laws.proofs.OwnPlaces.{ends_later, read_tip}
use Rattle.backup_laws.proofs.RestoredRuns.{HasGrown, related_told, related_some, settings_in, run_left, some_first}
use Rattle.backup_laws.proofs.Settled.{segment_size, settings_stay}

-- a WAL has just these records and ends at a place; it has no other settings than these
pub record IsWalOf (s : StoreSettings) (records : List Record) (wal : Option Files) (end : Lsn) : Type 0 where
  pub files : Files
  pub told : wal ≡ Some files
  pub held : HoldsRecords s records end.0 files
  pub settings : (t : StoreSettings) → IsSettingsOf files t → t ≡ s

-- of one that goes on from it they are read still
pub read_still : (was now : Files) (s t : StoreSettings) (records : List Record) (last : Tip) → GoesOnFrom was now → IsSettingsOf now t → t ≡ s → ReadsOn s was (first_tip s.segment) records last → ReadsOn s now (first_tip s.segment) records last
read_still was now s t records last on given one read =
    subst (λ (x : StoreSettings). ReadsOn x was (first_tip x.segment) records last → ReadsOn x now (first_tip x.segment) records last) one ((on t given).1 records last) read

-- a run over one that goes on from it finds these and more, and leaves more
pub record RunLeaves (s : StoreSettings) (records : List Record) (when : ℕ) (before left : Outside) (run : RunReport) (top end : Lsn) (done : RunDone when before.areas left.areas run) : Type 0 where
  pub same : done.settings ≡ s
  pub more : List Record
  pub found : done.found ≡ records ++ more
  pub orderly : IsOrderly 0 (map entry_of records ++ map entry_of more)
  pub from : top.0 ≤ (found_tip done.settings done.found).end
  pub wal : IsWalOf s (done.found ++ wal_of s.segment done.history) (left.areas wal_name).files end

pub entries_both : (rs qs more : List Record) → rs ≡ qs ++ more → map entry_of rs ≡ map entry_of qs ++ map entry_of more
entries_both rs qs more is = ap (map entry_of) is ∙ map-append entry_of qs more

-- entries that were read are in order
in_order : (s : StoreSettings) (files : Files) (rs qs more : List Record) (last : Tip) → IsSegmentMib s.segment → rs ≡ qs ++ more → ReadsOn s files (first_tip s.segment) rs last → IsOrderly 0 (map entry_of qs ++ map entry_of more)
in_order s files rs qs more last size is read = subst (IsOrderly 0) (entries_both rs qs more is) (entries_rise 0 rs (records_rise s files rs last size read))

-- where the entries of a history were found, the first ones of these end before them
begins_later : (mib : ℕ) (rs qs more : List Record) (own history : List Entry) → rs ≡ qs ++ more → history ≡ map entry_of rs ++ own → StandInPlace mib (segment_bytes mib) history → (tip_behind (first_tip mib) qs).end ≤ (tip_behind (first_tip mib) rs).end
begins_later mib rs qs more own history is grown stands =
    let all : StandInPlace mib (segment_bytes mib) (map entry_of rs ++ own) = subst (StandInPlace mib (segment_bytes mib)) grown stands in
    subst (λ (t : Tip). (tip_behind (first_tip mib) qs).end ≤ t.end) (tip_over_read (first_tip mib) rs)
    (ends_later mib qs (map entry_of more) (map entry_of rs) (entries_both rs qs more is) (stand_front mib (first_tip mib) (map entry_of rs) own all))

pub run_leaves : (s : StoreSettings) (records : List Record) (wal : Option Files) (when : ℕ) (before left : Outside) (run : RunReport) (top end : Lsn) (done : RunDone when before.areas left.areas run) → IsSegmentMib s.segment → IsWalOf s records wal top → Related GoesOnFrom wal (before.areas wal_name).files → HasRun before left run end → RunLeaves s records when before left run top end done
run_leaves s records wal when before left run top end done size w goes ran =
    let was = some_told (before.areas wal_name).files (ran.told wal_name (inl refl)) in
    let on : GoesOnFrom w.files was.0 = related_told GoesOnFrom wal (before.areas wal_name).files w.files was.0 w.told was.1 goes in
    let t : StoreSettings = done.settings in
    let given : IsSettingsOf was.0 t = settings_in t (before.areas wal_name).files was.0 was.1 done.given in
    let one : t ≡ s = w.settings t (on t given).0 in
    let reads : ReadsOn s was.0 (first_tip s.segment) records w.held.tip = read_still w.files was.0 s t records w.held.tip on given one w.held.read in
    let found : HasFound s done.found was.0 = subst (λ (x : StoreSettings). HasFound x done.found was.0) one (at_told (before.areas wal_name).files was.0 (λ m. HasFound t done.found m) was.1 done.archive) in
    let front = read_front s was.0 (first_tip s.segment) records done.found w.held.tip (found_tip s done.found) reads found.walk (end_stops (stands_behind s was.0 (found_tip s done.found)) found.ended) in
    let ends : (found_tip t records).end ≡ top.0 = ap (λ (x : StoreSettings). (found_tip x records).end) one ∙ (ap (λ (x : Tip). x.end) (sym (read_tip s w.files (first_tip s.segment) records w.held.tip w.held.read)) ∙ w.held.at) in
    let begins : (found_tip t records).end ≤ (found_tip t done.found).end = begins_later t.segment done.found records front.0 done.happened.own done.history front.1 done.happened.grown (done.happened.lawful ran.told).places in
    let l = run_left when before left run end done was.0 ran was.1 in
    record {
      same = one;
      more = front.0;
      found = front.1;
      orderly = in_order s was.0 done.found records front.0 (found_tip s done.found) size front.1 found.walk;
      from = omega (arith, ends, begins);
      wal = record {
        files = l.0;
        told = l.1;
        held = subst (λ (x : StoreSettings). HoldsRecords x (done.found ++ wal_of x.segment done.history) end.0 l.0) one l.2.held;
        settings = subst (λ (x : StoreSettings). (u : StoreSettings) → IsSettingsOf l.0 u → u ≡ x) one (l.2.settings given);
      };
    }

-- the first one leaves what it wrote
pub first_leaves : (when : ℕ) (before left : Outside) (run : RunReport) (end : Lsn) (done : RunDone when before.areas left.areas run) → HasRun before left run end → IsWalOf done.settings (all_records done.settings done.found done.history) (left.areas wal_name).files end × IsSegmentMib done.settings.segment
first_leaves when before left run end done ran =
    let was = some_told (before.areas wal_name).files (ran.told wal_name (inl refl)) in
    let given : IsSettingsOf was.0 done.settings = settings_in done.settings (before.areas wal_name).files was.0 was.1 done.given in
    let l = run_left when before left run end done was.0 ran was.1 in (
      record { files = l.0; told = l.1; held = l.2.held; settings = l.2.settings given },
      segment_size (get was.0 (codes "settings")) done.settings.segment done.settings.relseg given.given,
    )

-- the WAL that a run left is whole
pub wals_whole : RunsLeaveWholeWals
wals_whole run ran =
    let d : RunDone ran.when run.before.areas run.left.areas run.report = ran.done in
    let w = (first_leaves ran.when run.before run.left run.report run.end d ran).0 in
    let all : List Record = all_records d.settings d.found d.history in
    subst (λ (o : Option Files). IfSome o (IsWholeTo run.end)) (sym w.told) (λ t is. (all, subst (λ (x : StoreSettings). HoldsRecords x all run.end.0 w.files) (sym (w.settings t is)) w.held))

held_as : (s : StoreSettings) (rs qs : List Record) (end : ℕ) (files : Files) → rs ≡ qs → HoldsRecords s rs end files → HoldsRecords s qs end files
held_as s rs qs end files same held = subst (λ (x : List Record). HoldsRecords s x end files) same held

-- the WAL that is restored over
pub grown : (s : StoreSettings) (records : List Record) (wal last : Option Files) (top end : Lsn) (t : StoreSettings) → IsWalOf s records wal top → Related GoesOnFrom wal last → IfSome last (IsWholeTo end) → IfSome last (λ m. IsSettingsOf m t) → HasGrown s records last end
grown s records wal last top end t w goes ends given =
    let there = related_some GoesOnFrom wal last w.files w.told goes in
    let files : Files = there.0 in
    let on : GoesOnFrom w.files files = related_told GoesOnFrom wal last w.files files w.told there.1 goes in
    let is : IsSettingsOf files t = at_told last files (λ m. IsSettingsOf m t) there.1 given in
    let one : t ≡ s = w.settings t (on t is).0 in
    let reads : ReadsOn s files (first_tip s.segment) records w.held.tip = read_still w.files files s t records w.held.tip on is one w.held.read in
    let all = at_told last files (IsWholeTo end) there.1 ends t is in
    let held : HoldsRecords s all.0 end.0 files = subst (λ (x : StoreSettings). HoldsRecords x all.0 end.0 files) one all.1 in
    let front = read_front s files (first_tip s.segment) records all.0 w.held.tip held.tip reads held.read (none_behind s all.0 end.0 files held) in
    record {
      files = files;
      told = there.1;
      more = front.0;
      held = held_as s all.0 (records ++ front.0) end.0 files front.1 held;
      settings = λ u has. w.settings u (on u has).0;
    }

-- ---- whatever a run came to

-- the same entries are read from a place in one way
same_last : (s : StoreSettings) (was now : Files) (tip : Tip) (rs : List Record) (a b : Tip) → ReadsOn s was tip rs a → ReadsOn s now tip rs b → b ≡ a
same_last s was now tip rs a b one other = read_tip s now tip rs b other ∙ sym (read_tip s was tip rs a one)

pub related_is : (R : Files → Files → Type 0) (old new : Option Files) (m n : Files) → old ≡ Some m → new ≡ Some n → R m n → Related R old new
related_is R old new m n was is both = subst (λ (o : Option Files). Related R o new) (sym was) (subst (λ (o : Option Files). Related R (Some m) o) (sym is) both)

-- where its settings stayed, and what was found of it is read still, a WAL goes on
pub on_from : (s : StoreSettings) (was now : Files) (found more : List Record) (last : Tip) → IsSettingsOf was s → ((t : StoreSettings) → IsSettingsOf now t → t ≡ s) → HasFound s found was → ReadsOn s now (first_tip s.segment) (found ++ more) last → GoesOnFrom was now
on_from s was now found more last given one has read = λ t is.
    subst (λ (x : StoreSettings). IsSettingsOf was x × ((records : List Record) (to : Tip) → ReadsOn x was (first_tip x.segment) records to → ReadsOn x now (first_tip x.segment) records to)) (sym (one t is)) (
      given,
      λ records to reads.
          let tip : Tip = first_tip s.segment in
          let front = read_front s was tip records found to (found_tip s found) reads has.walk (end_stops (stands_behind s was (found_tip s found)) has.ended) in
          let whole : found ++ more ≡ records ++ (front.0 ++ more) = ap (λ (l : List Record). l ++ more) front.1 ∙ append_assoc records front.0 more in
          let parts = split s now tip records (front.0 ++ more) last (subst (λ (rs : List Record). ReadsOn s now tip rs last) whole read) in
          subst (λ (l : Tip). ReadsOn s now tip records l) (same_last s was now tip records to parts.mid reads parts.up) parts.up,
    )

-- of a store that was begun on
done_on : (when : ℕ) (before left : Outside) (report : RunReport) → AreTold before.areas → RunDone when before.areas left.areas report → Related GoesOnFrom (before.areas wal_name).files (left.areas wal_name).files
done_on when before left report told d =
    let s : StoreSettings = d.settings in
    let old : Option Files = (before.areas wal_name).files in
    let new : Option Files = (left.areas wal_name).files in
    let from : ℕ = (found_tip s d.found).end in
    let was = some_told old (told wal_name (inl refl)) in
    let given : IsSettingsOf was.0 s = settings_in s old was.0 was.1 d.given in
    let size : IsSegmentMib s.segment = segment_size (get was.0 (codes "settings")) s.segment s.relseg given.given in
    let found : HasFound s d.found was.0 = at_told old was.0 (λ m. HasFound s d.found m) was.1 d.archive in
    let to : ℕ = (tip_of s.segment d.history).end in
    let there = related_some (AgreeBut (IsSegmentFile s.segment from to)) old new was.0 was.1 d.left.files in
    let agree : AgreeBut (IsSegmentFile s.segment from to) was.0 there.0 = related_told (AgreeBut (IsSegmentFile s.segment from to)) old new was.0 there.0 was.1 there.1 d.left.files in
    let kept = related_told (λ x y. IsLeft (archive_of s.segment x) (archive_of s.segment y) from ((tip_of s.segment d.history).end - from)) old new was.0 there.0 was.1 there.1 d.left.left in
    let read : ReadsOn s there.0 (first_tip s.segment) d.found (found_tip s d.found) = held_read s was.0 there.0 d.found (found_tip s d.found) ((tip_of s.segment d.history).end - from) size.least found kept in
    let first = some_first s there.0 d.found [] (found_tip s d.found) d.some (subst (λ (rs : List Record). ReadsOn s there.0 (first_tip s.segment) rs (found_tip s d.found)) (sym (append-nil d.found)) read) in
    related_is GoesOnFrom old new was.0 there.0 was.1 there.1
    (on_from s was.0 there.0 d.found [] (found_tip s d.found) given (λ t is. settings_stay s t was.0 there.0 from to first.0 given is agree first.1) found
    (subst (λ (rs : List Record). ReadsOn s there.0 (first_tip s.segment) rs (found_tip s d.found)) (sym (append-nil d.found)) read))

-- one that stayed goes on too
pub stayed : (old new : Option Files) → new ≡ old → Related GoesOnFrom old new
stayed old new same = subst (λ (o : Option Files). Related GoesOnFrom old o) (sym same) (by old)
  where
    by : (o : Option Files) → Related GoesOnFrom o o
    by None = tt
    by (Some m) = λ s is. (is, λ records last read. read)

wal_of_areas : (old new : Areas) → new ≡ old → (new wal_name).files ≡ (old wal_name).files
wal_of_areas old new same = ap (λ (areas : Areas). (areas wal_name).files) same

pub scripts_go_on : RunsOfScriptsGoOn
scripts_go_on when limit script before left (Ok report) told ran = done_on when before left report told ran.1
scripts_go_on when limit script before left (Err (run.Input why)) told ran = absurd ran
scripts_go_on when limit script before left (Err (run.Script line why)) told ran = absurd ran
scripts_go_on when limit script before left (Err run.NoMemory) told ran = stayed _ _ (wal_of_areas before.areas left.areas ran.0)
scripts_go_on when limit script before left (Err (run.Site fault)) told ran = stayed _ _ (wal_of_areas before.areas left.areas ran.0)
scripts_go_on when limit script before left (Err (run.Begin (begin.Wal why))) told ran = stayed _ _ (ran.0 wal_name (one_back wal_name (others_asked script) store_asks (inl refl)))
scripts_go_on when limit script before left (Err (run.Begin (begin.Replay why))) told ran = stayed _ _ ran.1.0
scripts_go_on when limit script before left (Err (run.Begin (begin.Data why))) told ran = stayed _ _ ran.1

answer_on : (when limit : ℕ) (script : List Task) (before left : Outside) (came : RunResult) → AreTold before.areas → RunAnswer when limit script before left came → Related GoesOnFrom (before.areas wal_name).files (left.areas wal_name).files
answer_on when limit script before left (Ok report) told answer = scripts_go_on when limit script before left (Ok report) told answer.1
answer_on when limit script before left (Err (run.Input why)) told answer = stayed _ _ (wal_of_areas before.areas left.areas answer.0.0)
answer_on when limit script before left (Err (run.Script line why)) told answer = stayed _ _ (wal_of_areas before.areas left.areas answer.0.0)
answer_on when limit script before left (Err run.NoMemory) told answer = stayed _ _ (wal_of_areas before.areas left.areas answer.0)
answer_on when limit script before left (Err (run.Site fault)) told answer = scripts_go_on when limit script before left (Err (run.Site fault)) told answer.1
answer_on when limit script before left (Err (run.Begin why)) told answer = scripts_go_on when limit script before left (Err (run.Begin why)) told answer.1

pub runs_go_on : RunsGoOn
runs_go_on days before left came told does = answer_on does.0 _ does.1 before left came told does.6

-- ---- the script of an input

pub inputs_run : RunsOfInputsAreRuns
inputs_run days before left report end told does closed =
    record { told = told; when = does.0; done = does.6.1.1; closed = closed }
