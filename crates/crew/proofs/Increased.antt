-- What stands of incremental backups that a worker took.
use Rattle.std.proofs.Common.{◌≡◌, ◌≢◌, ℕ, ◌≤◌, true, List, [], ◌∷◌, map, length, take, Some, None, refl, ap, sym, subst, ◌∙◌, arith, inl, inr}
use Rattle.std.specs.Prelude.{IsSome}
use Rattle.std.specs.FinMap.{get, empty, get-empty}
use Rattle.std.specs.Ordering.{nat_cmp}
use Rattle.std.specs.Cmp.Lexicographic.{slice_cmp}
use Rattle.lsn_core.specs.Files.{Files}
use Rattle.lsn_core.specs.declared.lsn.Lsn.{Lsn}
use Rattle.vault.specs.Site.{Areas, AreaState, IsStill}
use Rattle.vault.specs.Lending.{IsNoneOf}
use Rattle.history.specs.Entry.{Entry}
use Rattle.manifest.specs.Listing.{Listing}
use Rattle.manifest.specs.Text.{manifest_text}
use Rattle.backup_sending.specs.Sent.{file_of}
use Rattle.backup_files.specs.Directory.{manifest_name, directory_with, listing_with}
use Rattle.incr_backup.specs.Prior.{HasListing}
use Rattle.store_locks.specs.Seen.{accepted_by}
use Rattle.command_base.specs.Areas.{backup_name, AreaIsDurable}
use Rattle.command_base.proofs.Told.{some_told, at_told}
use Rattle.scripts.specs.declared.script.Command.{Command}
use Rattle.scripts.specs.declared.script.Command.TheVariants as command
use Rattle.scripts.specs.declared.script.Line.{Line}
use Rattle.run_answers.specs.declared.answer.Answer.{Answer}
use Rattle.run_answers.specs.declared.answer.Answer.TheVariants.{Accepted, Refused, Grown, Stopped, Redo, CheckpointRefused, Wrote, Published, CallFailed, Backup, BackupRefused, IncrRefused, NotRun}
use Rattle.crew.specs.Backups.{areas_asked}
use Rattle.crew.specs.Run.{Basis, HoldsIncr, incr_areas, TakesIncr, LineAnswer, Answered, KeepsTo, IncrStandsFor, IncrsStand, AnswersTellIncrs}
use Rattle.crew.proofs.Kept.{still_same, still_on, never_empty, area_stays, area_keeps}

-- ---- areas that hold a file

-- an area with a manifest holds a file
listed_bare : (files : Files) (m : Listing) → HasListing files m → files ≢ empty
listed_bare files m has = λ none.
    let gone : get files manifest_name ≡ None = ap (λ (f : Files). get f manifest_name) none ∙ get-empty (slice_cmp nat_cmp) manifest_name in
    absurd (let e : Some has.0 ≡ None = sym has.1 ∙ gone in cc)

directory_bare : (put : List (List ℕ × List ℕ)) (label text : List ℕ) (m : Files) → m ≡ directory_with put label text → m ≢ empty
directory_bare put label text m is = λ none. never_empty _ manifest_name text (sym is ∙ none)

-- what an area that holds a file keeps, and one that no line behind names
kept_to : (name : List ℕ) (lines : List Line) (area : AreaState) (mid new : Areas) → IsStill area (mid name) → (IsSome area.files → (m : Files) × (area.files ≡ Some m) × (m ≢ empty))
    → ((n : List ℕ) → IsNoneOf n (areas_asked lines) → new n ≡ mid n) → ((n : List ℕ) (m : Files) → (mid n).files ≡ Some m → m ≢ empty → IsStill (mid n) (new n)) → KeepsTo name lines area new
kept_to name lines area mid new is holds rest keeps = λ still. elim still [
  | inl some ↦ let h = holds some in still_on area (mid name) (new name) is (keeps name h.0 (is.files ∙ h.1) h.2)
  | inr none ↦ still_on area (mid name) (new name) is (still_same (mid name) (new name) (rest name none))
]

-- ---- one line

name_of : (line : Command) (a b c d : List ℕ) → line ≡ command.Incr a b → line ≡ command.Incr c d → a ≡ c
name_of line a b c d first second = let e : command.Incr a b ≡ command.Incr c d = sym first ∙ second in cc

prior_of : (line : Command) (a b c d : List ℕ) → line ≡ command.Incr a b → line ≡ command.Incr c d → b ≡ d
prior_of line a b c d first second = let e : command.Incr a b ≡ command.Incr c d = sym first ∙ second in cc

taken_stands : (tells : Type 0) (b : Basis) (w : ℕ) (h : List Entry) (from next : ℕ) (line : Line) (lines : List Line) (start end : Lsn) (held mid new : Areas) (name prior : List ℕ) → length b.found ≤ from → next ≤ length h
    → TakesIncr tells b w from (take next h) (command.Incr name prior) start end held mid
    → ((n : List ℕ) → IsNoneOf n (areas_asked lines) → new n ≡ mid n) → ((n : List ℕ) (m : Files) → (mid n).files ≡ Some m → m ≢ empty → IsStill (mid n) (new n))
    → line.command ≡ command.Incr name prior → IncrStandsFor tells b w h line lines (Backup start end) new
taken_stands tells b w h from next line lines start end held mid new name prior le within t rest keeps is = λ n p named.
    let same_name : t.0 ≡ n = name_of (command.Incr name prior) t.0 t.1 n p t.2 (sym is ∙ named) in
    let same_prior : t.1 ≡ p = prior_of (command.Incr name prior) t.0 t.1 n p t.2 (sym is ∙ named) in
    let holding : HoldsIncr tells b w from (take next h) n start end (incr_areas held n p) (incr_areas mid n p) =
    subst (λ (m : List ℕ). HoldsIncr tells b w from (take next h) m start end (incr_areas held m p) (incr_areas mid m p)) same_name
    (subst (λ (m : List ℕ). HoldsIncr tells b w from (take next h) t.0 start end (incr_areas held t.0 m) (incr_areas mid t.0 m)) same_prior t.6) in
    let prior_same : IsStill (held (backup_name p)) (mid (backup_name p)) = subst (λ (m : List ℕ). IsStill (held (backup_name m)) (mid (backup_name m))) same_prior t.5 in (
      from,
      next,
      incr_areas held n p,
      incr_areas mid n p,
      le,
      within,
      holding,
      subst (λ (m : List ℕ). AreaIsDurable (mid (backup_name m))) same_name t.7,
      kept_to (backup_name n) lines (mid (backup_name n)) mid new (still_same (mid (backup_name n)) (mid (backup_name n)) refl)
          (λ some. let m = some_told (mid (backup_name n)).files some in (
            m.0,
            m.1,
            directory_bare (map file_of holding.files) holding.directory.label (manifest_text (listing_with b.settings.system holding.directory.rows start end)) m.0
                (at_told (mid (backup_name n)).files m.0 (λ f. f ≡ directory_with (map file_of holding.files) holding.directory.label (manifest_text (listing_with b.settings.system holding.directory.rows start end))) m.1 holding.directory.files_are),
          )) rest keeps,
      kept_to (backup_name p) lines (held (backup_name p)) mid new prior_same
          (λ some. let m = some_told (held (backup_name p)).files some in (m.0, m.1, listed_bare m.0 holding.plan.prior (at_told (held (backup_name p)).files m.0 (λ files. HasListing files holding.plan.prior) m.1 holding.prior.told))) rest keeps,
    )

stand_for : (tells : Type 0) (b : Basis) (w : ℕ) (h : List Entry) (from next : ℕ) (line : Line) (lines : List Line) (x : Answer) (made : List Entry) (held mid new : Areas) → length b.found ≤ from → next ≤ length h → LineAnswer tells b w from (take next h) line.command x made held mid
    → ((n : List ℕ) → IsNoneOf n (areas_asked lines) → new n ≡ mid n) → ((n : List ℕ) (m : Files) → (mid n).files ≡ Some m → m ≢ empty → IsStill (mid n) (new n))
    → IncrStandsFor tells b w h line lines x new
stand_for tells b w h from next line lines (Accepted place) made held mid new le within a rest keeps = tt
stand_for tells b w h from next line lines (Refused why) made held mid new le within a rest keeps = tt
stand_for tells b w h from next line lines (Grown k place) made held mid new le within a rest keeps = tt
stand_for tells b w h from next line lines (Stopped k why) made held mid new le within a rest keeps = tt
stand_for tells b w h from next line lines (Redo redo) made held mid new le within a rest keeps = tt
stand_for tells b w h from next line lines (CheckpointRefused why) made held mid new le within a rest keeps = tt
stand_for tells b w h from next line lines (Wrote k) made held mid new le within a rest keeps = tt
stand_for tells b w h from next line lines (Published k) made held mid new le within a rest keeps = tt
stand_for tells b w h from next line lines (CallFailed why) made held mid new le within a rest keeps = tt
stand_for tells b w h from next line lines (Backup start end) made held mid new le within (made_is, inl t) rest keeps = λ name prior is. absurd (let e : command.Incr name prior ≡ command.Full t.0 = sym is ∙ t.1 in cc)
stand_for tells b w h from next line lines (Backup start end) made held mid new le within (made_is, inr t) rest keeps =
    taken_stands tells b w h from next line lines start end held mid new t.0 t.1 le within (subst (λ (c : Command). TakesIncr tells b w from (take next h) c start end held mid) t.2 t) rest keeps t.2
stand_for tells b w h from next line lines (BackupRefused why) made held mid new le within a rest keeps = tt
stand_for tells b w h from next line lines (IncrRefused why) made held mid new le within a rest keeps = tt
stand_for tells b w h from next line lines NotRun made held mid new le within a rest keeps = tt

-- ---- lines

all_stand : (tells : Type 0) (b : Basis) (w : ℕ) (h : List Entry) (from : ℕ) (lines : List Line) (answers : List Answer) (es : List Entry) (to : ℕ) (held new : Areas) → length b.found ≤ from → Answered tells b w h from lines answers es to held new → IncrsStand tells b w h lines answers new
all_stand tells b w h from [] answers es to held new le a = tt
all_stand tells b w h from (l ∷ lines) [] es to held new le a = tt
all_stand tells b w h from (l ∷ lines) (x ∷ answers) es to held new le a = (
  stand_for tells b w h from a.0 l lines x a.1 held a.3 new le a.5 a.7 (λ n none. area_stays tells b w h a.0 lines answers a.2 to a.3 new n a.8 none) (λ n m told some. area_keeps tells b w h a.0 lines answers a.2 to a.3 new n m a.8 told some),
  all_stand tells b w h a.0 lines answers a.2 to a.3 new (omega (arith, le, a.4)) a.8,
)

pub incrs_told : AnswersTellIncrs
incrs_told tells b w h lines answers held new is = all_stand (tells ≡ true) b w h (length b.found) lines answers (accepted_by w h) is.to held new (omega arith) is.answered
