-- A replay of what the areas hold has one answer.
use Rattle.std.proofs.Common.{◌≡◌, ℕ, Option, Some, Result, Ok, Err, IsSome, sym, refl, ap, subst, ◌∙◌, true}
use Rattle.std.specs.FinMap.{len}
use Rattle.lsn_core.specs.Files.{Files}
use Rattle.lsn_core.specs.Segment.{StoreSettings}
use Rattle.vault.specs.Site.{AreaState}
use Rattle.vault.specs.declared.lending.TakeFault.{TakeFault}
use Rattle.lsn_core.specs.declared.lsn.Lsn.{Lsn}
use Rattle.recovery.specs.declared.fault.RecoveryFault.{RecoveryFault}
use Rattle.history.specs.Pages.{page_count}
use Rattle.recovery.specs.declared.replaying.ReadWal.{ReadWal}
use Rattle.recovery.specs.Causes.{IsOfFiles, WalAnswer, WalCause}
use Rattle.recovery.proofs.OneWal.{one_wal}
use Rattle.store_commands.specs.declared.replaying.ReplayReport.{ReplayReport}
use Rattle.store_commands.specs.declared.replaying.ReplayFault.{ReplayFault}
use Rattle.store_commands.specs.declared.replaying.ReplayFault.TheVariants as replay
use Rattle.command_base.specs.Areas.{wal_name, output_name}
use Rattle.store_commands.specs.Replay.{ReplayAreas, ReplayDone, ReplayAnswer, replay_status}
use Rattle.command_base.specs.Decided.{is_decided}
use Rattle.store_commands.specs.Laws.{HasOneReplay}
use Rattle.command_base.proofs.Told.{some_told}
use Rattle.command_base.proofs.Decided.{clear_or_not, undecided, of_files}

-- ---- what was read, and why it could not be

wal_read : StoreSettings → ReadWal → Result (StoreSettings × ReadWal) RecoveryFault
wal_read settings read = Ok (settings, read)

wal_refused : RecoveryFault → Result (StoreSettings × ReadWal) RecoveryFault
wal_refused fault = Err fault

answer_at : (upto : Option Lsn) (w x : AreaState) (files : Files) (a : Result (StoreSettings × ReadWal) RecoveryFault) → w.files ≡ Some files → WalAnswer upto w.files w.faults x.faults a → WalAnswer upto (Some files) w.faults x.faults a
answer_at upto w x files a told answer = subst (λ (f : Option Files). WalAnswer upto f w.faults x.faults a) told answer

fault_is : (f g : RecoveryFault) → wal_refused f ≡ wal_refused g → f ≡ g
unfolding wal_refused
fault_is f g e = cc

same_fault : (upto : Option Lsn) (w x y : AreaState) (files : Files) (f g : RecoveryFault) → w.files ≡ Some files → WalCause upto w.files w.faults x.faults f → WalCause upto w.files w.faults y.faults g → IsOfFiles f → IsOfFiles g → f ≡ g
unfolding wal_refused
same_fault upto w x y files f g told first second own other =
    fault_is f g (one_wal upto files w.faults x.faults w.faults y.faults (Err f) (Err g) (answer_at upto w x files (Err f) told first) (answer_at upto w y files (Err g) told second) own other)

read_or_refused : (s : StoreSettings) (r : ReadWal) (f : RecoveryFault) → wal_read s r ≡ wal_refused f → ⊥
unfolding wal_read wal_refused
read_or_refused s r f e = absurd (cc)

done_is_read : (upto : Option Lsn) (x : AreaState) (old new : ReplayAreas) (a : ReplayReport) (done : ReplayDone upto old new a) → WalAnswer upto old.wal.files old.wal.faults x.faults (Ok (done.settings, done.read))
done_is_read upto x old new a done = (done.given, done.read_is)

done_or_refused : (upto : Option Lsn) (old new other : ReplayAreas) (files : Files) (a : ReplayReport) (f : RecoveryFault) → old.wal.files ≡ Some files → ReplayDone upto old new a → WalCause upto old.wal.files old.wal.faults other.wal.faults f → IsOfFiles f → ⊥
unfolding wal_read wal_refused
done_or_refused upto old new other files a f told done cause own =
    read_or_refused done.settings done.read f
    (one_wal upto files old.wal.faults new.wal.faults old.wal.faults other.wal.faults (Ok (done.settings, done.read)) (Err f)
    (answer_at upto old.wal new.wal files (Ok (done.settings, done.read)) told (done_is_read upto new.wal old new a done)) (answer_at upto old.wal other.wal files (Err f) told cause) tt own)

-- ---- what was done

done_with : ℕ → ℕ → ℕ → ReplayReport
done_with end forks pages = record { end = record { 0 = end }; forks = forks; pages = pages }

pub same_parts : (a b : ReplayReport) → a.end.0 ≡ b.end.0 → a.forks ≡ b.forks → a.pages ≡ b.pages → a ≡ b
unfolding done_with
same_parts a b end forks pages =
    ap (λ (n : ℕ). done_with n a.forks a.pages) end ∙ ap (λ (n : ℕ). done_with b.end.0 n a.pages) forks ∙ ap (λ (n : ℕ). done_with b.end.0 b.forks n) pages

read_in : ReadWal → Result (StoreSettings × ReadWal) RecoveryFault → ReadWal
read_in other (Ok x) = x.1
read_in other (Err fault) = other

read_is : (s t : StoreSettings) (q r : ReadWal) → wal_read s q ≡ wal_read t r → q ≡ r
unfolding wal_read read_in
read_is s t q r e = ap (read_in q) e

-- its end is the one that was read
end_of : (upto : Option Lsn) (old new : ReplayAreas) (a : ReplayReport) (done : ReplayDone upto old new a) → a.end.0 ≡ done.read.end.0
end_of upto old new a done = done.end ∙ sym done.read_is.end

same_done : (upto : Option Lsn) (old new other : ReplayAreas) (files : Files) (a b : ReplayReport) → old.wal.files ≡ Some files → ReplayDone upto old new a → ReplayDone upto old other b → a ≡ b
unfolding wal_read
same_done upto old new other files a b told first second =
    let one : first.read ≡ second.read = read_is first.settings second.settings first.read second.read
    (one_wal upto files old.wal.faults new.wal.faults old.wal.faults other.wal.faults (Ok (first.settings, first.read)) (Ok (second.settings, second.read))
    (answer_at upto old.wal new.wal files (Ok (first.settings, first.read)) told (done_is_read upto new.wal old new a first)) (answer_at upto old.wal other.wal files (Ok (second.settings, second.read)) told (done_is_read upto other.wal old other b second)) tt tt) in
    same_parts a b (end_of upto old new a first ∙ ap (λ (r : ReadWal). r.end.0) one ∙ sym (end_of upto old other b second)) (first.forks ∙ ap (λ (r : ReadWal). len r.store) one ∙ sym second.forks) (first.pages ∙ ap (λ (r : ReadWal). page_count r.store) one ∙ sym second.pages)

-- ---- the answers

answer_of : ReplayReport → Result ReplayReport ReplayFault
answer_of report = Ok report

refused_by : RecoveryFault → Result ReplayReport ReplayFault
refused_by fault = Err (replay.Wal fault)

-- two answers, where the WAL is told and so is the output
replay_once : (upto : Option Lsn) (Untaken Also : TakeFault → Type 0) (old new other : ReplayAreas) (files : Files) (a b : Result ReplayReport ReplayFault) → old.wal.files ≡ Some files → IsSome old.out.files → ReplayAnswer upto Untaken old new a → ReplayAnswer upto Also old other b
    → is_decided (replay_status a) ≡ true → is_decided (replay_status b) ≡ true → a ≡ b
unfolding answer_of refused_by
replay_once upto Untaken Also old new other files (Err (replay.Site f)) b told out first second own also = absurd (undecided f.why own)
replay_once upto Untaken Also old new other files (Err (replay.Out f)) b told out first second own also = absurd (undecided f own)
replay_once upto Untaken Also old new other files (Ok a) (Err (replay.Site g)) told out first second own also = absurd (undecided g.why also)
replay_once upto Untaken Also old new other files (Ok a) (Err (replay.Out g)) told out first second own also = absurd (undecided g also)
replay_once upto Untaken Also old new other files (Ok a) (Ok b) told out first second own also = ap answer_of (same_done upto old new other files a b told (first.1 out) (second.1 out))
replay_once upto Untaken Also old new other files (Ok a) (Err replay.NotEmpty) told out first second own also = absurd (clear_or_not old.out out first.0.clear second.0)
replay_once upto Untaken Also old new other files (Ok a) (Err (replay.Wal g)) told out first second own also = absurd (done_or_refused upto old new other files a g told (first.1 out) (second.2 (λ e. out)) (of_files g also))
replay_once upto Untaken Also old new other files (Err replay.NotEmpty) (Err (replay.Site g)) told out first second own also = absurd (undecided g.why also)
replay_once upto Untaken Also old new other files (Err replay.NotEmpty) (Err (replay.Out g)) told out first second own also = absurd (undecided g also)
replay_once upto Untaken Also old new other files (Err replay.NotEmpty) (Ok b) told out first second own also = absurd (clear_or_not old.out out second.0.clear first.0)
replay_once upto Untaken Also old new other files (Err replay.NotEmpty) (Err replay.NotEmpty) told out first second own also = refl
replay_once upto Untaken Also old new other files (Err replay.NotEmpty) (Err (replay.Wal g)) told out first second own also = absurd (clear_or_not old.out out second.0 first.0)
replay_once upto Untaken Also old new other files (Err (replay.Wal f)) (Err (replay.Site g)) told out first second own also = absurd (undecided g.why also)
replay_once upto Untaken Also old new other files (Err (replay.Wal f)) (Err (replay.Out g)) told out first second own also = absurd (undecided g also)
replay_once upto Untaken Also old new other files (Err (replay.Wal f)) (Ok b) told out first second own also = absurd (done_or_refused upto old other new files b f told (second.1 out) (first.2 (λ e. out)) (of_files f own))
replay_once upto Untaken Also old new other files (Err (replay.Wal f)) (Err replay.NotEmpty) told out first second own also = absurd (clear_or_not old.out out first.0 second.0)
replay_once upto Untaken Also old new other files (Err (replay.Wal f)) (Err (replay.Wal g)) told out first second own also =
    ap refused_by (same_fault upto old.wal new.wal other.wal files f g told (first.2 (λ e. out)) (second.2 (λ e. out)) (of_files f own) (of_files g also))

pub one_replay : HasOneReplay
one_replay upto name old new other a b told first second own also =
    let files = some_told (old.areas wal_name).files (told.files wal_name) in
    replay_once upto _ _ _ _ _ files.0 a b files.1 (told.files (output_name name)) first.1 second.1 own also
