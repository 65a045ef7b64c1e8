-- What lines leave of the areas of backups.
use Rattle.std.proofs.Common.{◌≡◌, ◌≢◌, ℕ, ◌≤◌, true, cond, Option, List, [], ◌∷◌, ◌++◌, length, take, Some, None, refl, ap, sym, subst, ◌∙◌, arith, inl, inr}
use Rattle.lsn_core.specs.Causes.{Rose}
use Rattle.lsn_core.specs.Files.{Files}
use Rattle.lsn_core.specs.declared.lsn.Lsn.{Lsn}
use Rattle.lsn_core.specs.declared.fault.MarkFault.{MarkFault}
use Rattle.lsn_core.specs.declared.fault.MarkFault.TheVariants as mark
use Rattle.vault.specs.Site.{Areas, AreaState, IsStill}
use Rattle.vault.specs.Lending.{Names, IsOneOf, IsNoneOf}
use Rattle.vault.proofs.LentAreas.{one_or_none}
use Rattle.vault.proofs.SetAreas.{same_or_not}
use Rattle.history.specs.Entry.{Entry}
use Rattle.store_locks.specs.Seen.{accepted_by}
use Rattle.store_faults.specs.declared.insert_fault.InsertFault.{InsertFault}
use Rattle.store_faults.specs.declared.insert_fault.InsertFault.TheVariants as insert
use Rattle.store_faults.specs.declared.backup_fault.BackupFault.TheVariants as backup
use Rattle.store_faults.specs.declared.incr_fault.IncrFault.TheVariants as incr
use Rattle.std.specs.Prelude.{IsSome, IfSome}
use Rattle.std.specs.Ordering.{nat_cmp}
use Rattle.std.specs.Cmp.Lexicographic.{slice_cmp, nat_list_cmp_total}
use Rattle.std.specs.Cmp.{eq_by_cmp_equiv}
use Rattle.std.specs.FinMap.{get, insert, empty, get-insert, get-empty}
use Rattle.lsn_core.specs.Store.{Store, files_of}
use Rattle.backup_files.specs.Area.{HoldsNothing}
use Rattle.backup_files.specs.Directory.{label_name, manifest_name}
use Rattle.backup_sending.specs.Directory.{directory_of}
use Rattle.command_base.specs.Areas.{backup_name, AreaIsDurable}
use Rattle.command_base.proofs.Told.{some_told, at_told}
use Rattle.scripts.specs.declared.script.Command.{Command}
use Rattle.scripts.specs.declared.script.Command.TheVariants as command
use Rattle.scripts.specs.declared.script.Line.{Line}
use Rattle.run_answers.specs.declared.answer.Answer.{Answer}
use Rattle.run_answers.specs.declared.answer.Answer.TheVariants.{Accepted, Refused, Grown, Stopped, Redo, CheckpointRefused, Wrote, Published, CallFailed, Backup, BackupRefused, IncrRefused, NotRun}
use Rattle.run_answers.specs.declared.answer.Stop.TheVariants as stop
use Rattle.crew.specs.Backups.{area_asked, areas_asked}
use Rattle.scripts.specs.Named.{backup_taken, prior_taken}
use Rattle.crew.specs.Run.{Basis, HoldsBackup, OnlyAt, OnlyAmong, StaysFull, LineAnswer, Answered, StandsFor, BackupsStand, FailsFor, BackupFaultsRose, AnswersTellBackups}
use Rattle.run_answers.specs.Stopping.{insert_stop, mark_stop}

-- ---- names

none_front : (n : List ℕ) (front rest : Names) → IsNoneOf n (front ++ rest) → IsNoneOf n front
none_front n [] rest none = tt
none_front n (first ∷ front) rest none = (none.0, none_front n front rest none.1)

none_back : (n : List ℕ) (front rest : Names) → IsNoneOf n (front ++ rest) → IsNoneOf n rest
none_back n [] rest none = none
none_back n (first ∷ front) rest none = none_back n front rest none.1

-- ---- one line

at_name : (n : List ℕ) (held mid : Areas) → mid ≡ held → mid n ≡ held n
at_name n held mid same = ap (λ (f : Areas). f n) same

not_asked : (n name : List ℕ) (line : Command) → line ≡ command.Full name → IsNoneOf n (area_asked line) → n ≢ backup_name name
not_asked n name line is none = (subst (λ (c : Command). IsNoneOf n (area_asked c)) is none).0

line_stays : (tells : Type 0) (b : Basis) (w from : ℕ) (now : List Entry) (line : Command) (x : Answer) (made : List Entry) (held mid : Areas) (n : List ℕ) → LineAnswer tells b w from now line x made held mid → IsNoneOf n (area_asked line) → mid n ≡ held n
line_stays tells b w from now line (Accepted place) made held mid n a none = at_name n held mid a.4
line_stays tells b w from now line (Refused why) made held mid n a none = at_name n held mid a.4
line_stays tells b w from now line (Grown k place) made held mid n a none = at_name n held mid a.5
line_stays tells b w from now line (Stopped k why) made held mid n a none = at_name n held mid a.7
line_stays tells b w from now line (Redo redo) made held mid n a none = at_name n held mid a.3
line_stays tells b w from now line (CheckpointRefused why) made held mid n a none = at_name n held mid a.3
line_stays tells b w from now line (Wrote k) made held mid n a none = at_name n held mid a.4
line_stays tells b w from now line (Published k) made held mid n a none = at_name n held mid a.3
line_stays tells b w from now line (CallFailed why) made held mid n a none = at_name n held mid a.2
line_stays tells b w from now line (Backup start end) made held mid n (made_is, inl t) none = t.3.others n (not_asked n t.0 line t.1 none)
line_stays tells b w from now line (Backup start end) made held mid n (made_is, inr t) none = t.4.others n none
line_stays tells b w from now line (BackupRefused why) made held mid n a none = a.3.others n (not_asked n a.0 line a.1 none)
line_stays tells b w from now line (IncrRefused why) made held mid n a none = a.4.others n none
line_stays tells b w from now line NotRun made held mid n a none = at_name n held mid a.1

same_faults : (n : List ℕ) (held mid : Areas) → mid n ≡ held n → (held n).faults ≤ (mid n).faults
same_faults n held mid same = omega (arith, ap (λ (x : AreaState). x.faults) same)

only_rises : (name n : List ℕ) (held mid : Areas) → OnlyAt name held mid → (held n).faults ≤ (mid n).faults
only_rises name n held mid only =
    elim (same_or_not n name) [
      | inl is ↦ subst (λ (m : List ℕ). (held m).faults ≤ (mid m).faults) (sym is) only.later
      | inr other ↦ same_faults n held mid (only.others n other)
    ]

among_rises : (names : Names) (n : List ℕ) (held mid : Areas) → OnlyAmong names held mid → (held n).faults ≤ (mid n).faults
among_rises names n held mid only =
    elim (one_or_none n names) [
      | inl one ↦ only.later n one
      | inr none ↦ same_faults n held mid (only.others n none)
    ]

pub line_rises : (tells : Type 0) (b : Basis) (w from : ℕ) (now : List Entry) (line : Command) (x : Answer) (made : List Entry) (held mid : Areas) (n : List ℕ) → LineAnswer tells b w from now line x made held mid → (held n).faults ≤ (mid n).faults
line_rises tells b w from now line (Accepted place) made held mid n a = same_faults n held mid (at_name n held mid a.4)
line_rises tells b w from now line (Refused why) made held mid n a = same_faults n held mid (at_name n held mid a.4)
line_rises tells b w from now line (Grown k place) made held mid n a = same_faults n held mid (at_name n held mid a.5)
line_rises tells b w from now line (Stopped k why) made held mid n a = same_faults n held mid (at_name n held mid a.7)
line_rises tells b w from now line (Redo redo) made held mid n a = same_faults n held mid (at_name n held mid a.3)
line_rises tells b w from now line (CheckpointRefused why) made held mid n a = same_faults n held mid (at_name n held mid a.3)
line_rises tells b w from now line (Wrote k) made held mid n a = same_faults n held mid (at_name n held mid a.4)
line_rises tells b w from now line (Published k) made held mid n a = same_faults n held mid (at_name n held mid a.3)
line_rises tells b w from now line (CallFailed why) made held mid n a = same_faults n held mid (at_name n held mid a.2)
line_rises tells b w from now line (Backup start end) made held mid n (made_is, inl t) = only_rises (backup_name t.0) n held mid t.3
line_rises tells b w from now line (Backup start end) made held mid n (made_is, inr t) = among_rises (area_asked line) n held mid t.4
line_rises tells b w from now line (BackupRefused why) made held mid n a = only_rises (backup_name a.0) n held mid a.3
line_rises tells b w from now line (IncrRefused why) made held mid n a = among_rises (area_asked line) n held mid a.4
line_rises tells b w from now line NotRun made held mid n a = same_faults n held mid (at_name n held mid a.1)

-- ---- lines

pub area_stays : (tells : Type 0) (b : Basis) (w : ℕ) (h : List Entry) (from : ℕ) (lines : List Line) (answers : List Answer) (es : List Entry) (to : ℕ) (held new : Areas) (n : List ℕ) → Answered tells b w h from lines answers es to held new → IsNoneOf n (areas_asked lines)
    → new n ≡ held n
area_stays tells b w h from [] [] es to held new n a none = at_name n held new a.2
area_stays tells b w h from [] (x ∷ answers) es to held new n a none = absurd a
area_stays tells b w h from (l ∷ lines) [] es to held new n a none = absurd a
area_stays tells b w h from (l ∷ lines) (x ∷ answers) es to held new n a none =
    area_stays tells b w h a.0 lines answers a.2 to a.3 new n a.8 (none_back n (area_asked l.command) (areas_asked lines) none)
    ∙ line_stays tells b w from (take a.0 h) l.command x a.1 held a.3 n a.7 (none_front n (area_asked l.command) (areas_asked lines) none)

pub area_rises : (tells : Type 0) (b : Basis) (w : ℕ) (h : List Entry) (from : ℕ) (lines : List Line) (answers : List Answer) (es : List Entry) (to : ℕ) (held new : Areas) (n : List ℕ) → Answered tells b w h from lines answers es to held new → (held n).faults ≤ (new n).faults
area_rises tells b w h from [] [] es to held new n a = same_faults n held new (at_name n held new a.2)
area_rises tells b w h from [] (x ∷ answers) es to held new n a = absurd a
area_rises tells b w h from (l ∷ lines) [] es to held new n a = absurd a
area_rises tells b w h from (l ∷ lines) (x ∷ answers) es to held new n a =
    omega (arith, line_rises tells b w from (take a.0 h) l.command x a.1 held a.3 n a.7, area_rises tells b w h a.0 lines answers a.2 to a.3 new n a.8)

-- ---- areas with a file

pub never_empty : (m : Files) (k v : List ℕ) → insert m k v ≢ empty
never_empty m k v is =
    let there : get (insert m k v) k ≡ Some v = get-insert nat_list_cmp_total m k v k ∙ ap (λ c. cond c (Some v) (get m k)) ((eq_by_cmp_equiv nat_list_cmp_total).refl k) in
    let gone : get (insert m k v) k ≡ None = ap (λ (n : Files). get n k) is ∙ get-empty (slice_cmp nat_cmp) k in
    absurd (let e : Some v ≡ None = sym there ∙ gone in cc)

-- a backup's directory holds a file
never_bare : (relseg : ℕ) (copy : Store) (label manifest : List ℕ) (m : Files) → m ≡ directory_of relseg copy label manifest → m ≢ empty
never_bare relseg copy label manifest m is = λ none. never_empty (insert (files_of relseg copy) label_name label) manifest_name manifest (sym is ∙ none)

-- ---- areas to which nothing happened

pub still_same : (old new : AreaState) → new ≡ old → IsStill old new
still_same old new same = record { files = ap (λ (s : AreaState). s.files) same; past = ap (λ (s : AreaState). s.past) same }

pub still_on : (first second third : AreaState) → IsStill first second → IsStill second third → IsStill first third
still_on first second third early late = record { files = late.files ∙ early.files; past = late.past ∙ early.past }

-- an area that holds a file, of a line whose backup's area stays where it holds one
incr_keeps : (name prior n : List ℕ) (line : Command) (held mid : Areas) (m : Files) → line ≡ command.Incr name prior → OnlyAmong (area_asked line) held mid → IsStill (held (backup_name prior)) (mid (backup_name prior))
    → StaysFull (held (backup_name name)) (mid (backup_name name)) → (held n).files ≡ Some m → m ≢ empty → IsStill (held n) (mid n)
incr_keeps name prior n line held mid m is only same keeps told some =
    elim (one_or_none n (backup_name name ∷ backup_name prior ∷ [])) [
      | inl (inl out) ↦ at_told (held n).files m (λ f. f ≢ empty → IsStill (held n) (mid n)) told (subst (λ (k : List ℕ). StaysFull (held k) (mid k)) (sym out) keeps) some
      | inl (inr (inl before)) ↦ subst (λ (k : List ℕ). IsStill (held k) (mid k)) (sym before) same
      | inl (inr (inr never)) ↦ absurd never
      | inr none ↦ still_same (held n) (mid n) (only.others n (subst (λ (c : Command). IsNoneOf n (area_asked c)) (sym is) none))
    ]

bare_stays : (files : Option Files) (old new : AreaState) → HoldsNothing files → IfSome files (λ m. m ≢ empty → IsStill old new)
bare_stays None old new nothing = tt
bare_stays (Some m) old new nothing = λ some. absurd (some nothing)

nothing_stays : (old new : AreaState) → HoldsNothing old.files → StaysFull old new
nothing_stays old new nothing = bare_stays old.files old new nothing

line_keeps : (tells : Type 0) (b : Basis) (w from : ℕ) (now : List Entry) (line : Command) (x : Answer) (made : List Entry) (held mid : Areas) (n : List ℕ) (m : Files) → LineAnswer tells b w from now line x made held mid → (held n).files ≡ Some m → m ≢ empty
    → IsStill (held n) (mid n)
line_keeps tells b w from now line (Accepted place) made held mid n m a told some = still_same (held n) (mid n) (at_name n held mid a.4)
line_keeps tells b w from now line (Refused why) made held mid n m a told some = still_same (held n) (mid n) (at_name n held mid a.4)
line_keeps tells b w from now line (Grown k place) made held mid n m a told some = still_same (held n) (mid n) (at_name n held mid a.5)
line_keeps tells b w from now line (Stopped k why) made held mid n m a told some = still_same (held n) (mid n) (at_name n held mid a.7)
line_keeps tells b w from now line (Redo redo) made held mid n m a told some = still_same (held n) (mid n) (at_name n held mid a.3)
line_keeps tells b w from now line (CheckpointRefused why) made held mid n m a told some = still_same (held n) (mid n) (at_name n held mid a.3)
line_keeps tells b w from now line (Wrote k) made held mid n m a told some = still_same (held n) (mid n) (at_name n held mid a.4)
line_keeps tells b w from now line (Published k) made held mid n m a told some = still_same (held n) (mid n) (at_name n held mid a.3)
line_keeps tells b w from now line (CallFailed why) made held mid n m a told some = still_same (held n) (mid n) (at_name n held mid a.2)
line_keeps tells b w from now line (Backup start end) made held mid n m (made_is, inl t) told some =
    elim (same_or_not n (backup_name t.0)) [
      | inl is ↦ absurd (some (at_told (held n).files m (λ f. f ≡ empty) told (subst (λ (k : List ℕ). HoldsNothing (held k).files) (sym is) t.2)))
      | inr other ↦ still_same (held n) (mid n) (t.3.others n other)
    ]
line_keeps tells b w from now line (Backup start end) made held mid n m (made_is, inr t) told some =
    incr_keeps t.0 t.1 n line held mid m t.2 t.4 t.5 (nothing_stays (held (backup_name t.0)) (mid (backup_name t.0)) t.3) told some
line_keeps tells b w from now line (BackupRefused why) made held mid n m a told some =
    elim (same_or_not n (backup_name a.0)) [
      | inl is ↦ at_told (held n).files m (λ f. f ≢ empty → IsStill (held n) (mid n)) told (subst (λ (k : List ℕ). StaysFull (held k) (mid k)) (sym is) a.4) some
      | inr other ↦ still_same (held n) (mid n) (a.3.others n other)
    ]
line_keeps tells b w from now line (IncrRefused why) made held mid n m a told some = incr_keeps a.0 a.1 n line held mid m a.2 a.4 a.5 a.6 told some
line_keeps tells b w from now line NotRun made held mid n m a told some = still_same (held n) (mid n) (at_name n held mid a.1)

pub area_keeps : (tells : Type 0) (b : Basis) (w : ℕ) (h : List Entry) (from : ℕ) (lines : List Line) (answers : List Answer) (es : List Entry) (to : ℕ) (held new : Areas) (n : List ℕ) (m : Files) → Answered tells b w h from lines answers es to held new → (held n).files ≡ Some m → m ≢ empty
    → IsStill (held n) (new n)
area_keeps tells b w h from [] [] es to held new n m a told some = still_same (held n) (new n) (at_name n held new a.2)
area_keeps tells b w h from [] (x ∷ answers) es to held new n m a told some = absurd a
area_keeps tells b w h from (l ∷ lines) [] es to held new n m a told some = absurd a
area_keeps tells b w h from (l ∷ lines) (x ∷ answers) es to held new n m a told some =
    let here : IsStill (held n) (a.3 n) = line_keeps tells b w from (take a.0 h) l.command x a.1 held a.3 n m a.7 told some in
    still_on (held n) (a.3 n) (new n) here (area_keeps tells b w h a.0 lines answers a.2 to a.3 new n m a.8 (here.files ∙ told) some)

-- ---- backups that stand

same_name : (line : Command) (a c : List ℕ) → line ≡ command.Full a → line ≡ command.Full c → a ≡ c
same_name line a c first second = let e : command.Full a ≡ command.Full c = sym first ∙ second in cc

-- what was taken behind so many entries was taken behind none
sooner : (tells : Type 0) (b : Basis) (w before : ℕ) (now : List Entry) (name : List ℕ) (start end : Lsn) (files : Option Files) → HoldsBackup tells b w before now name start end files → HoldsBackup tells b w 0 now name start end files
sooner tells b w before now name start end files t = record {
  copy = t.copy;
  checkpoint = t.checkpoint;
  count = t.count;
  entries = record {
    first = t.entries.first;
    last = t.entries.last;
    stop = t.entries.stop;
    entries = t.entries.entries;
    number = t.entries.number;
    later = omega arith;
    there = t.entries.there;
    number_last = t.entries.number_last;
    behind = t.entries.behind;
    there_last = t.entries.there_last;
    number_stop = t.entries.number_stop;
    behind_last = t.entries.behind_last;
    there_stop = t.entries.there_stop;
    start_is = t.entries.start_is;
    checkpoint_is = t.entries.checkpoint_is;
    end_is = t.entries.end_is;
  };
  directory = t.directory;
  taken = t.taken;
}

keeps_told : (tells : Type 0) (b : Basis) (w before : ℕ) (now : List Entry) (name : List ℕ) (start end : Lsn) (files : Option Files) (P : Type 0) → HoldsBackup tells b w before now name start end files → IsSome files → ((m : Files) → files ≡ Some m → m ≢ empty → P) → P
keeps_told tells b w before now name start end files P t some keeps =
    let m = some_told files some in
    keeps m.0 m.1 (never_bare _ _ _ _ m.0 (at_told files m.0 _ m.1 t.directory.files_are))

stand_for : (tells : Type 0) (b : Basis) (w : ℕ) (h : List Entry) (from next : ℕ) (line : Line) (lines : List Line) (x : Answer) (made : List Entry) (held mid new : Areas) → next ≤ length h → LineAnswer tells b w from (take next h) line.command x made held mid
    → ((n : List ℕ) → IsNoneOf n (areas_asked lines) → new n ≡ mid n) → ((n : List ℕ) (m : Files) → (mid n).files ≡ Some m → m ≢ empty → IsStill (mid n) (new n)) → StandsFor tells b w h line lines x new
stand_for tells b w h from next line lines (Accepted place) made held mid new within a rest keeps = tt
stand_for tells b w h from next line lines (Refused why) made held mid new within a rest keeps = tt
stand_for tells b w h from next line lines (Grown k place) made held mid new within a rest keeps = tt
stand_for tells b w h from next line lines (Stopped k why) made held mid new within a rest keeps = tt
stand_for tells b w h from next line lines (Redo redo) made held mid new within a rest keeps = tt
stand_for tells b w h from next line lines (CheckpointRefused why) made held mid new within a rest keeps = tt
stand_for tells b w h from next line lines (Wrote k) made held mid new within a rest keeps = tt
stand_for tells b w h from next line lines (Published k) made held mid new within a rest keeps = tt
stand_for tells b w h from next line lines (CallFailed why) made held mid new within a rest keeps = tt
stand_for tells b w h from next line lines (Backup start end) made held mid new within (made_is, inr t) rest keeps = λ name is. absurd (let e : command.Full name ≡ command.Incr t.0 t.1 = sym is ∙ t.2 in cc)
stand_for tells b w h from next line lines (Backup start end) made held mid new within (made_is, inl t) rest keeps = λ name is.
    let same : t.0 ≡ name = same_name line.command t.0 name t.1 is in
    let area : AreaState = mid (backup_name name) in
    let taken : HoldsBackup tells b w from (take next h) name start end (mid (backup_name name)).files = subst (λ (m : List ℕ). HoldsBackup tells b w from (take next h) m start end (mid (backup_name m)).files) same t.4 in (
      next,
      area,
      within,
      sooner tells b w from (take next h) name start end area.files taken,
      subst (λ (m : List ℕ). AreaIsDurable (mid (backup_name m))) same t.5,
      λ still. elim still [
        | inl some ↦ keeps_told tells b w from (take next h) name start end area.files (IsStill area (new (backup_name name))) taken some (λ m told full. keeps (backup_name name) m told full)
        | inr none ↦ still_same area (new (backup_name name)) (rest (backup_name name) none)
      ],
    )
stand_for tells b w h from next line lines (BackupRefused why) made held mid new within a rest keeps = tt
stand_for tells b w h from next line lines (IncrRefused why) made held mid new within a rest keeps = tt
stand_for tells b w h from next line lines NotRun made held mid new within a rest keeps = tt

all_stand : (tells : Type 0) (b : Basis) (w : ℕ) (h : List Entry) (from : ℕ) (lines : List Line) (answers : List Answer) (es : List Entry) (to : ℕ) (held new : Areas) → Answered tells b w h from lines answers es to held new → BackupsStand tells b w h lines answers new
all_stand tells b w h from [] answers es to held new a = tt
all_stand tells b w h from (l ∷ lines) [] es to held new a = tt
all_stand tells b w h from (l ∷ lines) (x ∷ answers) es to held new a = (
  stand_for tells b w h from a.0 l lines x a.1 held a.3 new a.5 a.7 (λ n none. area_stays tells b w h a.0 lines answers a.2 to a.3 new n a.8 none) (λ n m told some. area_keeps tells b w h a.0 lines answers a.2 to a.3 new n m a.8 told some),
  all_stand tells b w h a.0 lines answers a.2 to a.3 new a.8,
)

-- ---- areas that failed

no_backup : (why : InsertFault) (P : Type 0) → insert_stop why ≡ Some stop.Backup → P
no_backup (insert.NoFork n) P e = absurd cc
no_backup (insert.ForkExists n) P e = absurd cc
no_backup (insert.PastEnd n) P e = absurd cc
no_backup (insert.NoBlock n) P e = absurd cc
no_backup (insert.BadPage i n) P e = absurd cc
no_backup (insert.BadFragment i j) P e = absurd cc
no_backup insert.BlockCount P e = absurd cc
no_backup insert.TwoRelations P e = absurd cc
no_backup (insert.ForkFull n) P e = absurd cc
no_backup (insert.StoreFull n) P e = absurd cc
no_backup (insert.CutPastEnd n) P e = absurd cc
no_backup (insert.Failed area) P e = absurd cc
no_backup insert.NoMemory P e = absurd cc
no_backup (insert.SameBlock i) P e = absurd cc
no_backup (insert.WalFull n) P e = absurd cc

no_mark : (why : MarkFault) (P : Type 0) → mark_stop why ≡ Some stop.Backup → P
no_mark (mark.Failed area) P e = absurd cc
no_mark (mark.WalFull n) P e = absurd cc
no_mark mark.NoMemory P e = absurd cc

no_prior : (why : InsertFault) (P : Type 0) → insert_stop why ≡ Some stop.Prior → P
no_prior (insert.NoFork n) P e = absurd cc
no_prior (insert.ForkExists n) P e = absurd cc
no_prior (insert.PastEnd n) P e = absurd cc
no_prior (insert.NoBlock n) P e = absurd cc
no_prior (insert.BadPage i n) P e = absurd cc
no_prior (insert.BadFragment i j) P e = absurd cc
no_prior insert.BlockCount P e = absurd cc
no_prior insert.TwoRelations P e = absurd cc
no_prior (insert.ForkFull n) P e = absurd cc
no_prior (insert.StoreFull n) P e = absurd cc
no_prior (insert.CutPastEnd n) P e = absurd cc
no_prior (insert.Failed area) P e = absurd cc
no_prior insert.NoMemory P e = absurd cc
no_prior (insert.SameBlock i) P e = absurd cc
no_prior (insert.WalFull n) P e = absurd cc

no_prior_mark : (why : MarkFault) (P : Type 0) → mark_stop why ≡ Some stop.Prior → P
no_prior_mark (mark.Failed area) P e = absurd cc
no_prior_mark (mark.WalFull n) P e = absurd cc
no_prior_mark mark.NoMemory P e = absurd cc

-- the areas of a line's backups are asked for
full_named : (name : List ℕ) (line : Command) → line ≡ command.Full name → (backup_taken line ≡ name) × IsOneOf (backup_name (backup_taken line)) (area_asked line)
full_named name line is = subst (λ (c : Command). (backup_taken c ≡ name) × IsOneOf (backup_name (backup_taken c)) (area_asked c)) (sym is) (refl, inl refl)

incr_named : (name prior : List ℕ) (line : Command) → line ≡ command.Incr name prior → (backup_taken line ≡ name) × IsOneOf (backup_name (backup_taken line)) (area_asked line)
incr_named name prior line is = subst (λ (c : Command). (backup_taken c ≡ name) × IsOneOf (backup_name (backup_taken c)) (area_asked c)) (sym is) (refl, inl refl)

prior_named : (name prior : List ℕ) (line : Command) → line ≡ command.Incr name prior → (prior_taken line ≡ prior) × IsOneOf (backup_name (prior_taken line)) (area_asked line)
prior_named name prior line is = subst (λ (c : Command). (prior_taken c ≡ prior) × IsOneOf (backup_name (prior_taken c)) (area_asked c)) (sym is) (refl, inr (inl refl))

fails_for : (tells : Type 0) (b : Basis) (w from : ℕ) (now : List Entry) (line : Line) (x : Answer) (made : List Entry) (start held mid new : Areas) → LineAnswer tells b w from now line.command x made held mid → ((n : List ℕ) → (start n).faults ≤ (held n).faults)
    → ((n : List ℕ) → (mid n).faults ≤ (new n).faults) → FailsFor line x start new
fails_for tells b w from now line (Accepted place) made start held mid new a early late = (λ e. absurd cc, λ e. absurd cc)
fails_for tells b w from now line (Refused why) made start held mid new a early late = (λ e. no_backup why _ e, λ e. no_prior why _ e)
fails_for tells b w from now line (Grown k place) made start held mid new a early late = (λ e. absurd cc, λ e. absurd cc)
fails_for tells b w from now line (Stopped k why) made start held mid new a early late = (λ e. no_backup why _ e, λ e. no_prior why _ e)
fails_for tells b w from now line (Redo redo) made start held mid new a early late = (λ e. absurd cc, λ e. absurd cc)
fails_for tells b w from now line (CheckpointRefused why) made start held mid new a early late = (λ e. no_mark why _ e, λ e. no_prior_mark why _ e)
fails_for tells b w from now line (Wrote k) made start held mid new a early late = (λ e. absurd cc, λ e. absurd cc)
fails_for tells b w from now line (Published k) made start held mid new a early late = (λ e. absurd cc, λ e. absurd cc)
fails_for tells b w from now line (CallFailed why) made start held mid new a early late = (λ e. absurd cc, λ e. absurd cc)
fails_for tells b w from now line (Backup begun end) made start held mid new a early late = (λ e. absurd cc, λ e. absurd cc)
fails_for tells b w from now line (BackupRefused backup.NotEmpty) made start held mid new a early late = (λ e. absurd cc, λ e. absurd cc)
fails_for tells b w from now line (BackupRefused (backup.WalFull n)) made start held mid new a early late = (λ e. absurd cc, λ e. absurd cc)
fails_for tells b w from now line (BackupRefused (backup.StoreFailed area)) made start held mid new a early late = (λ e. absurd cc, λ e. absurd cc)
fails_for tells b w from now line (BackupRefused backup.OutFailed) made start held mid new a early late =
    let named = full_named a.0 line.command a.1 in (
      λ e. (named.1, subst (λ (n : List ℕ). Rose (start (backup_name n)).faults (new (backup_name n)).faults) (sym named.0) (omega (arith, a.5.0, early (backup_name a.0), late (backup_name a.0)))),
      λ e. absurd cc,
    )
fails_for tells b w from now line (BackupRefused backup.NoMemory) made start held mid new a early late = (λ e. absurd cc, λ e. absurd cc)
fails_for tells b w from now line (IncrRefused incr.NotEmpty) made start held mid new a early late = (λ e. absurd cc, λ e. absurd cc)
fails_for tells b w from now line (IncrRefused incr.NoManifest) made start held mid new a early late = (λ e. absurd cc, λ e. absurd cc)
fails_for tells b w from now line (IncrRefused (incr.ManifestRefused why)) made start held mid new a early late = (λ e. absurd cc, λ e. absurd cc)
fails_for tells b w from now line (IncrRefused (incr.SystemDiffers have expected)) made start held mid new a early late = (λ e. absurd cc, λ e. absurd cc)
fails_for tells b w from now line (IncrRefused (incr.Overlap begun end)) made start held mid new a early late = (λ e. absurd cc, λ e. absurd cc)
fails_for tells b w from now line (IncrRefused (incr.Gap place)) made start held mid new a early late = (λ e. absurd cc, λ e. absurd cc)
fails_for tells b w from now line (IncrRefused (incr.WalFull n)) made start held mid new a early late = (λ e. absurd cc, λ e. absurd cc)
fails_for tells b w from now line (IncrRefused (incr.StoreFailed area)) made start held mid new a early late = (λ e. absurd cc, λ e. absurd cc)
fails_for tells b w from now line (IncrRefused incr.SumsFailed) made start held mid new a early late = (λ e. absurd cc, λ e. absurd cc)
fails_for tells b w from now line (IncrRefused incr.PriorFailed) made start held mid new a early late =
    let named = prior_named a.0 a.1 line.command a.2 in (
      λ e. absurd cc,
      λ e. (named.1, subst (λ (n : List ℕ). Rose (start (backup_name n)).faults (new (backup_name n)).faults) (sym named.0) (omega (arith, a.7.1, early (backup_name a.1), late (backup_name a.1)))),
    )
fails_for tells b w from now line (IncrRefused incr.OutFailed) made start held mid new a early late =
    let named = incr_named a.0 a.1 line.command a.2 in (
      λ e. (named.1, subst (λ (n : List ℕ). Rose (start (backup_name n)).faults (new (backup_name n)).faults) (sym named.0) (omega (arith, a.7.0, early (backup_name a.0), late (backup_name a.0)))),
      λ e. absurd cc,
    )
fails_for tells b w from now line (IncrRefused incr.NoMemory) made start held mid new a early late = (λ e. absurd cc, λ e. absurd cc)
fails_for tells b w from now line NotRun made start held mid new a early late = (λ e. absurd cc, λ e. absurd cc)

all_fail : (tells : Type 0) (b : Basis) (w : ℕ) (h : List Entry) (from : ℕ) (lines : List Line) (answers : List Answer) (es : List Entry) (to : ℕ) (start held new : Areas) → Answered tells b w h from lines answers es to held new → ((n : List ℕ) → (start n).faults ≤ (held n).faults)
    → BackupFaultsRose lines answers start new
all_fail tells b w h from [] answers es to start held new a early = tt
all_fail tells b w h from (l ∷ lines) [] es to start held new a early = tt
all_fail tells b w h from (l ∷ lines) (x ∷ answers) es to start held new a early = (
  fails_for tells b w from (take a.0 h) l x a.1 start held a.3 new a.7 early (λ n. area_rises tells b w h a.0 lines answers a.2 to a.3 new n a.8),
  all_fail tells b w h a.0 lines answers a.2 to start a.3 new a.8 (λ n. omega (arith, early n, line_rises tells b w from (take a.0 h) l.command x a.1 held a.3 n a.7)),
)

pub backups_told : AnswersTellBackups
backups_told tells b w h found lines answers held new is = (
  all_stand (tells ≡ true) b w h found lines answers (accepted_by w h) is.to held new is.answered,
  all_fail (tells ≡ true) b w h found lines answers (accepted_by w h) is.to held held new is.answered (λ n. omega arith),
)
