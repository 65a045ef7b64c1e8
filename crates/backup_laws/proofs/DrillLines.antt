-- What the lines of a worker were answered that takes each of its backups once, by what it left.
use Rattle.std.proofs.Common.{◌≡◌, ◌≢◌, ◌⊎◌, ◌||◌, ℕ, zero, suc, Bool, true, false, List, [], ◌∷◌, take, drop, Option, Some, None, IfSome, refl, sym, ap, subst, ◌∙◌, inl, inr}
use Rattle.std.specs.List.{AllByRecursion}
use Rattle.std.specs.Option.{is_some}
use Rattle.std.specs.Ordering.{nat_cmp}
use Rattle.std.specs.Cmp.Lexicographic.{slice_cmp}
use Rattle.std.specs.FinMap.{get, get-empty, empty}
use Rattle.lsn_core.specs.Files.{Files}
use Rattle.lsn_core.specs.declared.lsn.Lsn.{Lsn}
use Rattle.vault.specs.Site.{Areas, AreaState, IsStill}
use Rattle.vault.proofs.SetAreas.{same_or_not}
use Rattle.history.specs.Entry.{Entry}
use Rattle.backup_files.specs.Area.{KeepsManifest, Lacks}
use Rattle.backup_files.specs.Directory.{manifest_name}
use Rattle.store_faults.specs.declared.backup_fault.BackupFault.{BackupFault}
use Rattle.store_faults.specs.declared.backup_fault.BackupFault.TheVariants as backup
use Rattle.store_faults.specs.declared.incr_fault.IncrFault.{IncrFault}
use Rattle.store_faults.specs.declared.incr_fault.IncrFault.TheVariants as incr
use Rattle.command_base.specs.Areas.{backup_name}
use Rattle.command_base.proofs.Told.{at_told}
use Rattle.scripts.specs.declared.script.Command.{Command}
use Rattle.scripts.specs.declared.script.Command.TheVariants as command
use Rattle.scripts.specs.declared.script.Line.{Line}
use Rattle.scripts.specs.Named.{backup_taken}
use Rattle.run_answers.specs.declared.answer.Answer.{Answer}
use Rattle.run_answers.specs.declared.answer.Answer.TheVariants.{Accepted, Refused, Grown, Stopped, Redo, CheckpointRefused, Wrote, Published, CallFailed, Backup, BackupRefused, IncrRefused, NotRun}
use Rattle.run_answers.specs.declared.answer.Stop.{Stop}
use Rattle.run_answers.specs.Report.{first_stop, stop_or}
use Rattle.run_answers.specs.Stopping.{backup_stop, incr_stop, is_not_run, stop_of, stops_with}
use Rattle.crew.specs.Backups.{area_asked}
use Rattle.crew.specs.Run.{Basis, OnlyAt, OnlyAmong, IncrAreas, IsBackupRefused, IsIncrRefused, LineAnswer, Answered, InOrder}
use Rattle.crew.proofs.Two.{same_backup}
use Rattle.backup_laws.specs.Telling.{TakesOther, NoneTakes, TakesLast, AreTakenOnce}
use Rattle.backup_laws.proofs.RestoredRuns.{related_told}

-- ---- which lines take a backup

abbrev pub takes : Command → Bool
takes (command.Full name) = true
takes (command.Incr name prior) = true
takes other = false

-- a line takes the backup of this name, full or incremental
abbrev pub TakesIt : List ℕ → Command → Type 0
TakesIt name line = (line ≡ command.Full name) ⊎ ((prior : List ℕ) × (line ≡ command.Incr name prior))

it_takes : (name : List ℕ) (line : Command) → TakesIt name line → takes line ≡ true
it_takes name line (inl is) = ap takes is
it_takes name line (inr is) = ap takes is.1

it_names : (name : List ℕ) (line : Command) → TakesIt name line → backup_taken line ≡ name
it_names name line (inl is) = ap backup_taken is
it_names name line (inr is) = ap backup_taken is.1

both_ways : (line other : Command) → takes line ≡ true → line ≡ other → takes other ≡ false → ⊥
both_ways line other is same not_so = let e : true ≡ false = sym is ∙ (ap takes same ∙ not_so) in cc

-- ---- the areas of other backups keep their files

same_files : (held mid : Areas) (n : List ℕ) → mid ≡ held → (mid n).files ≡ (held n).files
same_files held mid n same = ap (λ (f : Areas). (f n).files) same

only_keeps : (held mid : Areas) (name own : List ℕ) → OnlyAt (backup_name own) held mid → own ≢ name → (mid (backup_name name)).files ≡ (held (backup_name name)).files
only_keeps held mid name own only apart = ap (λ (a : AreaState). a.files) (only.others (backup_name name) (λ same. apart (sym (same_backup name own same))))

among_keeps : (held mid : Areas) (name own prior : List ℕ) (line : Command) → line ≡ command.Incr own prior → OnlyAmong (area_asked line) held mid → IsStill (held (backup_name prior)) (mid (backup_name prior)) → own ≢ name
    → (mid (backup_name name)).files ≡ (held (backup_name name)).files
among_keeps held mid name own prior line is only kept apart =
    let those : OnlyAmong (backup_name own ∷ backup_name prior ∷ []) held mid = subst (λ (c : Command). OnlyAmong (area_asked c) held mid) is only in
    let not_own : backup_name name ≢ backup_name own = λ same. apart (sym (same_backup name own same)) in
    elim (same_or_not (backup_name name) (backup_name prior)) [
      | inl before ↦ subst (λ (n : List ℕ). (mid n).files ≡ (held n).files) (sym before) kept.files
      | inr not_before ↦ ap (λ (a : AreaState). a.files) (those.others (backup_name name) (not_own, (not_before, tt)))
    ]

line_keeps : (tells : Type 0) (b : Basis) (w from : ℕ) (now : List Entry) (line : Command) (x : Answer) (made : List Entry) (held mid : Areas) (name : List ℕ) → LineAnswer tells b w from now line x made held mid → backup_taken line ≢ name
    → (mid (backup_name name)).files ≡ (held (backup_name name)).files
line_keeps tells b w from now line (Accepted place) made held mid name a other = same_files held mid (backup_name name) a.4
line_keeps tells b w from now line (Refused why) made held mid name a other = same_files held mid (backup_name name) a.4
line_keeps tells b w from now line (Grown k place) made held mid name a other = same_files held mid (backup_name name) a.5
line_keeps tells b w from now line (Stopped k why) made held mid name a other = same_files held mid (backup_name name) a.7
line_keeps tells b w from now line (Redo redo) made held mid name a other = same_files held mid (backup_name name) a.3
line_keeps tells b w from now line (CheckpointRefused why) made held mid name a other = same_files held mid (backup_name name) a.3
line_keeps tells b w from now line (Wrote k) made held mid name a other = same_files held mid (backup_name name) a.4
line_keeps tells b w from now line (Published k) made held mid name a other = same_files held mid (backup_name name) a.3
line_keeps tells b w from now line (CallFailed why) made held mid name a other = same_files held mid (backup_name name) a.2
line_keeps tells b w from now line (Backup start end) made held mid name (made_is, inl t) other = only_keeps held mid name t.0 t.3 (λ is. other (ap backup_taken t.1 ∙ is))
line_keeps tells b w from now line (Backup start end) made held mid name (made_is, inr t) other = among_keeps held mid name t.0 t.1 line t.2 t.4 t.5 (λ is. other (ap backup_taken t.2 ∙ is))
line_keeps tells b w from now line (BackupRefused why) made held mid name a other = only_keeps held mid name a.0 a.3 (λ is. other (ap backup_taken a.1 ∙ is))
line_keeps tells b w from now line (IncrRefused why) made held mid name a other = among_keeps held mid name a.0 a.1 line a.2 a.4 a.5 (λ is. other (ap backup_taken a.2 ∙ is))
line_keeps tells b w from now line NotRun made held mid name a other = same_files held mid (backup_name name) a.1

-- none of these lines takes a backup of a name
abbrev pub NoneOfIt : List ℕ → List Line → Type 0
NoneOfIt name lines = AllByRecursion (λ (l : Line). backup_taken l.command ≢ name) lines

lines_keep : (tells : Type 0) (b : Basis) (w : ℕ) (h : List Entry) (from : ℕ) (lines : List Line) (answers : List Answer) (es : List Entry) (to : ℕ) (held new : Areas) (name : List ℕ) → Answered tells b w h from lines answers es to held new → NoneOfIt name lines
    → (new (backup_name name)).files ≡ (held (backup_name name)).files
lines_keep tells b w h from [] [] es to held new name a apart = same_files held new (backup_name name) a.2
lines_keep tells b w h from [] (x ∷ answers) es to held new name a apart = absurd a
lines_keep tells b w h from (l ∷ lines) [] es to held new name a apart = absurd a
lines_keep tells b w h from (l ∷ lines) (x ∷ answers) es to held new name a apart =
    lines_keep tells b w h a.0 lines answers a.2 to a.3 new name a.8 apart.1
    ∙ line_keeps tells b w from (take a.0 h) l.command x a.1 held a.3 name a.7 apart.0

-- ---- a backup that is refused, with its worker not stopped, leaves no manifest

abbrev LacksText : Option Files → Type 0
LacksText files = Lacks files manifest_name

lacks_still : (old new : Option Files) → old ≡ Some empty → new ≡ old → LacksText new
lacks_still old new none same = subst LacksText (sym (same ∙ none)) (get-empty (slice_cmp nat_cmp) manifest_name)

lacks_kept : (old new : Option Files) → old ≡ Some empty → KeepsManifest old new → LacksText new
lacks_kept old None none kept = tt
lacks_kept old (Some n) none kept =
    related_told (λ (m n : Files). get n manifest_name ≡ get m manifest_name) old (Some n) empty n none refl kept
    ∙ get-empty (slice_cmp nat_cmp) manifest_name

not_full : (old : Option Files) → old ≡ Some empty → IfSome old (λ m. m ≢ empty) → ⊥
not_full old none some = at_told old empty (λ m. m ≢ empty) none some refl

full_lacks : (tells : Type 0) (b : Basis) (w from : ℕ) (now : List Entry) (name : List ℕ) (old new : AreaState) (why : BackupFault) → IsBackupRefused tells b w from now name old new why → backup_stop why ≡ None → old.files ≡ Some empty → LacksText new.files
full_lacks tells b w from now name old new backup.NotEmpty r on none = absurd (not_full old.files none r.0)
full_lacks tells b w from now name old new (backup.WalFull n) r on none = lacks_kept old.files new.files none r.3
full_lacks tells b w from now name old new (backup.StoreFailed area) r on none = absurd cc
full_lacks tells b w from now name old new backup.OutFailed r on none = absurd cc
full_lacks tells b w from now name old new backup.NoMemory r on none = absurd cc

incr_lacks : (tells : Type 0) (b : Basis) (w from : ℕ) (now : List Entry) (name : List ℕ) (old new : IncrAreas) (why : IncrFault) → IsIncrRefused tells b w from now name old new why → incr_stop why ≡ None → old.out.files ≡ Some empty → LacksText new.out.files
incr_lacks tells b w from now name old new incr.NotEmpty r on none = absurd (not_full old.out.files none r.0)
incr_lacks tells b w from now name old new incr.NoManifest r on none = lacks_still old.out.files new.out.files none r.1.out.files
incr_lacks tells b w from now name old new (incr.ManifestRefused why) r on none = lacks_still old.out.files new.out.files none r.1.out.files
incr_lacks tells b w from now name old new (incr.SystemDiffers have expected) r on none = lacks_still old.out.files new.out.files none r.1.out.files
incr_lacks tells b w from now name old new (incr.Overlap begun end) r on none = lacks_still old.out.files new.out.files none r.2.files
incr_lacks tells b w from now name old new (incr.Gap place) r on none = lacks_still old.out.files new.out.files none r.2.files
incr_lacks tells b w from now name old new (incr.WalFull n) r on none = lacks_kept old.out.files new.out.files none r.3
incr_lacks tells b w from now name old new (incr.StoreFailed area) r on none = absurd cc
incr_lacks tells b w from now name old new incr.SumsFailed r on none = absurd cc
incr_lacks tells b w from now name old new incr.PriorFailed r on none = absurd cc
incr_lacks tells b w from now name old new incr.OutFailed r on none = absurd cc
incr_lacks tells b w from now name old new incr.NoMemory r on none = absurd cc

-- an answer tells that a backup was taken
abbrev IsTaken : Answer → Type 0
IsTaken x = (start : Lsn) × (end : Lsn) × (x ≡ Backup start end)

-- so of a line that takes a backup into an area that held nothing
line_takes : (tells : Type 0) (b : Basis) (w from : ℕ) (now : List Entry) (line : Command) (x : Answer) (made : List Entry) (held mid : Areas) (name : List ℕ) → LineAnswer tells b w from now line x made held mid → TakesIt name line → is_not_run x ≡ false → stop_of x ≡ None
    → (held (backup_name name)).files ≡ Some empty → IsTaken x ⊎ LacksText (mid (backup_name name)).files
line_takes tells b w from now line (Accepted place) made held mid name a it run on none = absurd (both_ways line (command.Insert a.0) (it_takes name line it) a.1 refl)
line_takes tells b w from now line (Refused why) made held mid name a it run on none = absurd (both_ways line (command.Insert a.0) (it_takes name line it) a.1 refl)
line_takes tells b w from now line (Grown k place) made held mid name a it run on none = absurd (both_ways line (command.Grow a.0 k a.1) (it_takes name line it) a.2 refl)
line_takes tells b w from now line (Stopped k why) made held mid name a it run on none = absurd (both_ways line (command.Grow a.0 a.1 a.2) (it_takes name line it) a.3 refl)
line_takes tells b w from now line (Redo redo) made held mid name a it run on none = absurd (both_ways line command.Checkpoint (it_takes name line it) a.0 refl)
line_takes tells b w from now line (CheckpointRefused why) made held mid name a it run on none = absurd (both_ways line command.Checkpoint (it_takes name line it) a.0 refl)
line_takes tells b w from now line (Wrote k) made held mid name a it run on none = absurd (both_ways line (command.Flush a.0) (it_takes name line it) a.1 refl)
line_takes tells b w from now line (Published k) made held mid name a it run on none = absurd (both_ways line command.Summarise (it_takes name line it) a.0 refl)
line_takes tells b w from now line (CallFailed why) made held mid name a it run on none = absurd cc
line_takes tells b w from now line (Backup start end) made held mid name a it run on none = inl (start, end, refl)
line_takes tells b w from now line (BackupRefused why) made held mid name a it run on none =
    let own : a.0 ≡ name = sym (ap backup_taken a.1) ∙ it_names name line it in
    let clear : (held (backup_name a.0)).files ≡ Some empty = subst (λ (n : List ℕ). (held (backup_name n)).files ≡ Some empty) (sym own) none in
    inr (subst (λ (n : List ℕ). LacksText (mid (backup_name n)).files) own (full_lacks tells b w from now a.0 (held (backup_name a.0)) (mid (backup_name a.0)) why a.5 on clear))
line_takes tells b w from now line (IncrRefused why) made held mid name a it run on none =
    let own : a.0 ≡ name = sym (ap backup_taken a.2) ∙ it_names name line it in
    let clear : (held (backup_name a.0)).files ≡ Some empty = subst (λ (n : List ℕ). (held (backup_name n)).files ≡ Some empty) (sym own) none in
    inr (subst (λ (n : List ℕ). LacksText (mid (backup_name n)).files) own (incr_lacks tells b w from now a.0 _ _ why a.7 on clear))
line_takes tells b w from now line NotRun made held mid name a it run on none = absurd cc

-- ---- so where a manifest stands behind all lines

-- an area tells a manifest
abbrev pub HasText : Option Files → Type 0
HasText files = (m : Files) × (bytes : List ℕ) × (files ≡ Some m) × (get m manifest_name ≡ Some bytes)

text_there : (files : Option Files) → HasText files → LacksText files → ⊥
text_there files has lacks =
    let none : get has.0 manifest_name ≡ None = at_told files has.0 (λ m. get m manifest_name ≡ None) has.2 lacks in
    let e : Some has.1 ≡ None = sym has.3 ∙ none in
    cc

pub stop_none : (line : Line) (o : Option Stop) (rest : Option (Line × Stop)) → stop_or line o rest ≡ None → (o ≡ None) × (rest ≡ None)
stop_none line None rest e = (refl, e)
stop_none line (Some why) rest e = absurd cc

goes : (x : Answer) → is_not_run x ≡ false → stop_of x ≡ None → stops_with x ≡ false
goes x run on = ap (λ (b : Bool). b || is_some (stop_of x)) run ∙ ap (λ (o : Option Stop). is_some o) on

-- the line of a number was answered that its backup was taken, where its area held nothing before all
-- lines, no other takes a backup of that name, and no line stopped the worker
pub took : (tells : Type 0) (b : Basis) (w : ℕ) (h : List Entry) (from : ℕ) (lines : List Line) (answers : List Answer) (es : List Entry) (to : ℕ) (held new : Areas) (name : List ℕ) → Answered tells b w h from lines answers es to held new → InOrder false answers → first_stop lines answers ≡ None
    → (held (backup_name name)).files ≡ Some empty → HasText (new (backup_name name)).files → (number : ℕ) (line : Line) (behind : List Line) → NoneOfIt name (take number lines) → drop number lines ≡ line ∷ behind → TakesIt name line.command → NoneOfIt name behind
    → (start : Lsn) × (end : Lsn) × (later : List Answer) × (drop number answers ≡ Backup start end ∷ later)
took tells b w h from [] answers es to held new name a order on none text zero line behind front at it rest = absurd cc
took tells b w h from [] answers es to held new name a order on none text (suc n) line behind front at it rest = absurd cc
took tells b w h from (l ∷ lines) [] es to held new name a order on none text number line behind front at it rest = absurd a
took tells b w h from (l ∷ lines) (x ∷ answers) es to held new name a order on none text zero line behind front at it rest =
    let first : l ≡ line = cc in
    let others : lines ≡ behind = cc in
    let stop = stop_none l (stop_of x) (first_stop lines answers) on in
    elim (line_takes tells b w from (take a.0 h) l.command x a.1 held a.3 name a.7 (subst (λ (y : Line). TakesIt name y.command) (sym first) it) order.0 stop.0 none) [
      | inl is ↦ (is.0, is.1, answers, ap (λ (y : Answer). y ∷ answers) is.2)
      | inr lacks ↦
          let kept : (new (backup_name name)).files ≡ (a.3 (backup_name name)).files = lines_keep tells b w h a.0 lines answers a.2 to a.3 new name a.8 (subst (NoneOfIt name) (sym others) rest) in
          absurd (text_there (new (backup_name name)).files text (subst LacksText (sym kept) lacks))
    ]
took tells b w h from (l ∷ lines) (x ∷ answers) es to held new name a order on none text (suc n) line behind front at it rest =
    let stop = stop_none l (stop_of x) (first_stop lines answers) on in
    let still : (a.3 (backup_name name)).files ≡ Some empty = line_keeps tells b w from (take a.0 h) l.command x a.1 held a.3 name a.7 front.0 ∙ none in
    took tells b w h a.0 lines answers a.2 to a.3 new name a.8 (subst (λ (s : Bool). InOrder s answers) (goes x order.0 stop.0) order.1) stop.1 still text n line behind front.1 at it rest

-- ---- backups that are taken once

-- a line takes no backup, or none behind it takes one of the same name; and so each
abbrev pub NoneAgain : Line → List Line → Type 0
NoneAgain line lines = (takes line.command ≡ false) ⊎ NoneOfIt (backup_taken line.command) lines

abbrev pub EachOnce : List Line → Type 0
EachOnce [] = Unit {0}
EachOnce (line ∷ lines) = NoneAgain line lines × EachOnce lines

takes_other : (name : List ℕ) (line : Line) (x : Answer) → backup_taken line.command ≢ name → TakesOther name line x
takes_other name line (Accepted place) apart = tt
takes_other name line (Refused why) apart = tt
takes_other name line (Grown k place) apart = tt
takes_other name line (Stopped k why) apart = tt
takes_other name line (Redo redo) apart = tt
takes_other name line (CheckpointRefused why) apart = tt
takes_other name line (Wrote k) apart = tt
takes_other name line (Published k) apart = tt
takes_other name line (CallFailed why) apart = tt
takes_other name line (Backup start end) apart = apart
takes_other name line (BackupRefused why) apart = λ stops. apart
takes_other name line (IncrRefused why) apart = λ stops. apart
takes_other name line NotRun apart = tt

none_takes : (name : List ℕ) (lines : List Line) (answers : List Answer) → NoneOfIt name lines → NoneTakes name lines answers
none_takes name [] answers apart = tt
none_takes name (l ∷ lines) [] apart = tt
none_takes name (l ∷ lines) (x ∷ answers) apart = (takes_other name l x apart.0, none_takes name lines answers apart.1)

takes_last : (line : Line) (x : Answer) (lines : List Line) (answers : List Answer) → ((start end : Lsn) → x ≡ Backup start end → NoneTakes (backup_taken line.command) lines answers) → TakesLast line x lines answers
takes_last line (Accepted place) lines answers none = tt
takes_last line (Refused why) lines answers none = tt
takes_last line (Grown k place) lines answers none = tt
takes_last line (Stopped k why) lines answers none = tt
takes_last line (Redo redo) lines answers none = tt
takes_last line (CheckpointRefused why) lines answers none = tt
takes_last line (Wrote k) lines answers none = tt
takes_last line (Published k) lines answers none = tt
takes_last line (CallFailed why) lines answers none = tt
takes_last line (Backup start end) lines answers none = none start end refl
takes_last line (BackupRefused why) lines answers none = tt
takes_last line (IncrRefused why) lines answers none = tt
takes_last line NotRun lines answers none = tt

backup_takes : (tells : Type 0) (b : Basis) (w from : ℕ) (now : List Entry) (line : Command) (start end : Lsn) (made : List Entry) (held mid : Areas) → LineAnswer tells b w from now line (Backup start end) made held mid → takes line ≡ true
backup_takes tells b w from now line start end made held mid (made_is, inl t) = ap takes t.1
backup_takes tells b w from now line start end made held mid (made_is, inr t) = ap takes t.2

pub taken_once : (tells : Type 0) (b : Basis) (w : ℕ) (h : List Entry) (from : ℕ) (lines : List Line) (answers : List Answer) (es : List Entry) (to : ℕ) (held new : Areas) → Answered tells b w h from lines answers es to held new → EachOnce lines → AreTakenOnce lines answers
taken_once tells b w h from [] answers es to held new a each = tt
taken_once tells b w h from (l ∷ lines) [] es to held new a each = tt
taken_once tells b w h from (l ∷ lines) (x ∷ answers) es to held new a each = (
  takes_last l x lines answers (λ start end is. elim each.0 [
    | inl takes_none ↦
        let yes : takes l.command ≡ true = backup_takes tells b w from (take a.0 h) l.command start end a.1 held a.3 (subst (λ (y : Answer). LineAnswer tells b w from (take a.0 h) l.command y a.1 held a.3) is a.7) in
        absurd (let e : true ≡ false = sym yes ∙ takes_none in cc)
    | inr apart ↦ none_takes (backup_taken l.command) lines answers apart
  ]),
  taken_once tells b w h a.0 lines answers a.2 to a.3 new a.8 each.1,
)
