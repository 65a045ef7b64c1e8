-- What is said of answers where areas tell their files is said where that is known for another reason.
use Rattle.std.proofs.Common.{◌≡◌, ℕ, ◌+◌, List, [], ◌∷◌, ◌++◌, take, Option, Result, Ok, Err, refl, sym, ap, subst, arith, inl, inr}
use Rattle.std.specs.List.{AllByRecursion}
use Rattle.lsn_core.specs.Files.{Files}
use Rattle.lsn_core.specs.declared.lsn.Lsn.{Lsn}
use Rattle.vault.specs.Site.{Areas, AreaState, IsStill}
use Rattle.vault.specs.Lending.{Names, IsOneOf}
use Rattle.store_faults.specs.declared.backup_fault.BackupFault.{BackupFault}
use Rattle.store_faults.specs.declared.backup_fault.BackupFault.TheVariants as backup
use Rattle.store_faults.specs.declared.incr_fault.IncrFault.{IncrFault}
use Rattle.store_faults.specs.declared.incr_fault.IncrFault.TheVariants as incr
use Rattle.backup_sending.specs.Sent.{SentFile, AreFor, IsCopyOf, IsSentAs, blocks_sent}
use Rattle.lsn_core.specs.Store.{ForkPages}
use Rattle.wal_summary.specs.declared.summary.Summary.{Summary}
use Rattle.shared_summaries.specs.summary_publish.Published.{Advances}
use Rattle.store_faults.specs.declared.advance_fault.AdvanceFault.{AdvanceFault}
use Rattle.store_faults.specs.declared.advance_fault.AdvanceFault.TheVariants as advance
use Rattle.command_base.specs.Areas.{backup_name}
use Rattle.history.specs.declared.op.Op.{Op}
use Rattle.history.specs.Entry.{Entry}
use Rattle.store_locks.specs.Seen.{accepted_by}
use Rattle.scripts.specs.declared.script.Command.{Command}
use Rattle.scripts.specs.declared.script.Command.TheVariants as command
use Rattle.scripts.specs.declared.script.Line.{Line}
use Rattle.run_answers.specs.declared.answer.Answer.{Answer}
use Rattle.run_answers.specs.declared.answer.Answer.TheVariants.{Accepted, Refused, Grown, Stopped, Redo, CheckpointRefused, Wrote, Published, CallFailed, Backup, BackupRefused, IncrRefused, NotRun}
use Rattle.scripts.specs.Orders.{op_asked, grow_ops}
use Rattle.crew.specs.Backups.{area_asked, areas_asked}
use Rattle.scripts.specs.Named.{backup_taken, prior_taken}
use Rattle.shared_summaries.specs.Shelf.{AreShelved, AreKeptOn, HasPublished, states}
use Rattle.incr_backup.specs.Incr.{SumsUp}
use Rattle.crew.specs.Run.{Basis, HoldsBackup, IsBackupRefused, IncrAreas, incr_areas, HoldsIncr, IsIncrRefused, IncrStandsFor, IncrsStand, KeepsTo, Made, LineAnswer, Answered, IsAnswered, StandsFor, BackupsStand, RoseFor, FailsFor, BackupFaultsRose}

made_less : (S T : Type 0) (mib worker : ℕ) (history : List Entry) (from : ℕ) (ops : List Op) (made : List Entry) → (T → S) → Made S mib worker history from ops made → Made T mib worker history from ops made
made_less S T mib worker history from [] [] leads is = is
made_less S T mib worker history from [] (e ∷ made) leads is = absurd is
made_less S T mib worker history from (op ∷ ops) [] leads is = absurd is
made_less S T mib worker history from (op ∷ ops) (e ∷ made) leads is =
    let m = is.2 in (
      is.0,
      is.1,
      record { there = m.there; act = m.act; by = m.by; seq = m.seq; told = λ t. m.told (leads t) },
      made_less S T mib worker history (is.0 + 1) ops made leads is.3,
    )

holds_less : (S T : Type 0) (b : Basis) (worker before : ℕ) (now : List Entry) (name : List ℕ) (start end : Lsn) (files : Option Files) → (T → S) → HoldsBackup S b worker before now name start end files → HoldsBackup T b worker before now name start end files
holds_less S T b worker before now name start end files leads is = record {
  copy = is.copy;
  checkpoint = is.checkpoint;
  count = is.count;
  entries = is.entries;
  directory = is.directory;
  taken = λ t. is.taken (leads t);
}

refused_less : (S T : Type 0) (b : Basis) (worker before : ℕ) (now : List Entry) (name : List ℕ) (old new : AreaState) (why : BackupFault) → (T → S) → IsBackupRefused S b worker before now name old new why → IsBackupRefused T b worker before now name old new why
refused_less S T b worker before now name old new backup.NotEmpty leads is = is
refused_less S T b worker before now name old new (backup.WalFull n) leads is = is
refused_less S T b worker before now name old new (backup.StoreFailed area) leads is = is
refused_less S T b worker before now name old new backup.OutFailed leads is = is
refused_less S T b worker before now name old new backup.NoMemory leads (inl kept) = inl kept
refused_less S T b worker before now name old new backup.NoMemory leads (inr (inl rose)) = inr (inl rose)
refused_less S T b worker before now name old new backup.NoMemory leads (inr (inr whole)) = inr (inr (whole.0, whole.1, holds_less S T b worker before now name whole.0 whole.1 new.files leads whole.2))

-- ---- incremental backups

advances_less : (S T : Type 0) (history : List Entry) (when limit : ℕ) (old new : AreaState) (kept rest : List Summary) (count : ℕ) → (T → S) → Advances states S history when limit old new kept rest count → Advances states T history when limit old new kept rest count
advances_less S T history when limit old new kept rest count leads a = record { sums = a.sums; published = λ t. a.published (leads t); counted = a.counted; kept_is = a.kept_is; files = a.files; durable = a.durable }

shelved_less : (S T : Type 0) (found : List Entry) (begun : Option Files) (now : List Entry) (files : Option Files) → (T → S) → AreShelved S found begun now files → AreShelved T found begun now files
shelved_less S T found begun now files leads s = record { told = s.told; true_for = λ t. s.true_for (leads t) }

keeps_less : (S T : Type 0) (found : List Entry) (begun : Option Files) (limit : ℕ) (files : Option Files) (kept : List Summary) → (T → S) → AreKeptOn S found begun limit files kept → AreKeptOn T found begun limit files kept
keeps_less S T found begun limit files kept leads k = record { listed = k.listed; grown = λ t. k.grown (leads t) }

published_less : (S T : Type 0) (found : List Entry) (begun : Option Files) (now : List Entry) (when limit count : ℕ) → (T → S) → HasPublished S found begun now when limit count → HasPublished T found begun now when limit count
published_less S T found begun now when limit count leads p = record {
  old = p.old;
  new = p.new;
  kept = p.kept;
  rest = p.rest;
  shelved = shelved_less S T found begun now p.old.files leads p.shelved;
  keeps = keeps_less S T found begun limit p.old.files p.kept leads p.keeps;
  advances = advances_less S T now when limit p.old p.new p.kept p.rest count leads p.advances;
  stays = shelved_less S T found begun now p.new.files leads p.stays;
  goes_on = keeps_less S T found begun limit p.new.files p.rest leads p.goes_on;
}

sums_up_less : (S T : Type 0) (found : List Entry) (begun : Option Files) (when limit worker before : ℕ) (now : List Entry) (redo from : ℕ) (answer : Result Summary AdvanceFault) → (T → S) → SumsUp S found begun when limit worker before now redo from answer → SumsUp T found begun when limit worker before now redo from answer
unfolding published_less
sums_up_less S T found begun when limit worker before now redo from answer leads s = record {
  seen = s.seen;
  within = s.within;
  checkpoint = s.checkpoint;
  covered = record {
    count = s.covered.count;
    published = published_less S T found begun (take s.seen now) when limit s.covered.count leads s.covered.published;
    covers = s.covered.covers;
  };
}

are_for_less : (P Q : ℕ → List ℕ → Type 0) (blocks : List ℕ) (pages : ForkPages) → ((block : ℕ) (page : List ℕ) → P block page → Q block page) → AreFor P blocks pages → AreFor Q blocks pages
are_for_less P Q [] [] step are = tt
are_for_less P Q [] (page ∷ pages) step are = absurd are
are_for_less P Q (block ∷ blocks) [] step are = absurd are
are_for_less P Q (block ∷ blocks) (page ∷ pages) step are = (step block page are.0, are_for_less P Q blocks pages step are.1)

all_sent_less : (S T : Type 0) (history : List Entry) (from to : ℕ) (files : List SentFile) → (T → S) → AllByRecursion (IsSentAs S history from to) files → AllByRecursion (IsSentAs T history from to) files
all_sent_less S T history from to [] leads are = tt
all_sent_less S T history from to (f ∷ files) leads are = (
  are_for_less (λ block page. IsCopyOf S history from to f.what.fork (f.what.first + block) page) (λ block page. IsCopyOf T history from to f.what.fork (f.what.first + block) page) (blocks_sent f.what.count f.what.plan) f.pages (λ block page c. (c.0, λ t. c.1 (leads t))) are.0,
  all_sent_less S T history from to files leads are.1,
)

incr_less : (S T : Type 0) (b : Basis) (worker before : ℕ) (now : List Entry) (name : List ℕ) (start end : Lsn) (old new : IncrAreas) → (T → S) → HoldsIncr S b worker before now name start end old new → HoldsIncr T b worker before now name start end old new
incr_less S T b worker before now name start end old new leads h = record {
  checkpoint = h.checkpoint;
  count = h.count;
  entries = h.entries;
  plan = h.plan;
  relseg = h.relseg;
  prior = h.prior;
  summed = sums_up_less S T b.found b.sums b.when b.limit worker before now start.0 h.plan.prior.start (Ok h.plan.summary) leads h.summed;
  list = h.list;
  listed = record { order = h.listed.order; named = h.listed.named; listed = λ t. h.listed.listed (leads t) };
  files = h.files;
  sent = record { planned_are = h.sent.planned_are; sent = all_sent_less S T now start.0 end.0 h.files leads h.sent.sent };
  directory = h.directory;
}

incr_refused_less : (S T : Type 0) (b : Basis) (worker before : ℕ) (now : List Entry) (name : List ℕ) (old new : IncrAreas) (why : IncrFault) → (T → S) → IsIncrRefused S b worker before now name old new why → IsIncrRefused T b worker before now name old new why
incr_refused_less S T b worker before now name old new incr.NotEmpty leads is = is
incr_refused_less S T b worker before now name old new incr.NoManifest leads is = is
incr_refused_less S T b worker before now name old new (incr.ManifestRefused why) leads is = is
incr_refused_less S T b worker before now name old new (incr.SystemDiffers have expected) leads is = is
incr_refused_less S T b worker before now name old new (incr.Overlap start end) leads is = is
incr_refused_less S T b worker before now name old new (incr.Gap place) leads is = (
  is.0,
  record {
    manifest = is.1.manifest;
    start = is.1.start;
    prior = is.1.prior;
    summed = sums_up_less S T b.found b.sums b.when b.limit worker before now is.1.start is.1.manifest.start (Err (advance.Gap place)) leads is.1.summed;
  },
  is.2,
)
incr_refused_less S T b worker before now name old new (incr.WalFull n) leads is = is
incr_refused_less S T b worker before now name old new (incr.StoreFailed area) leads is = is
incr_refused_less S T b worker before now name old new incr.SumsFailed leads is = is
incr_refused_less S T b worker before now name old new incr.PriorFailed leads is = is
incr_refused_less S T b worker before now name old new incr.OutFailed leads is = is
incr_refused_less S T b worker before now name old new incr.NoMemory leads (inl kept) = inl kept
incr_refused_less S T b worker before now name old new incr.NoMemory leads (inr (inl rose)) = inr (inl rose)
incr_refused_less S T b worker before now name old new incr.NoMemory leads (inr (inr whole)) = inr (inr (whole.0, whole.1, incr_less S T b worker before now name whole.0 whole.1 old new leads whole.2))

-- ---- one line

line_less : (S T : Type 0) (b : Basis) (worker before : ℕ) (now : List Entry) (line : Command) (answer : Answer) (made : List Entry) (held mid : Areas) → (T → S) → LineAnswer S b worker before now line answer made held mid → LineAnswer T b worker before now line answer made held mid
line_less S T b worker before now line (Accepted place) made held mid leads is = (is.0, is.1, made_less S T b.settings.segment worker now before (op_asked is.0 ∷ []) made leads is.2, is.3, is.4)
line_less S T b worker before now line (Refused why) made held mid leads is = (is.0, is.1, is.2, λ t. is.3 (leads t), is.4)
line_less S T b worker before now line (Grown k place) made held mid leads is = (is.0, is.1, is.2, made_less S T b.settings.segment worker now before (grow_ops is.0 is.1 k) made leads is.3, is.4, is.5)
line_less S T b worker before now line (Stopped k why) made held mid leads is =
    (is.0, is.1, is.2, is.3, is.4, made_less S T b.settings.segment worker now before (grow_ops is.0 is.2 k) made leads is.5, λ t. is.6 (leads t), is.7)
line_less S T b worker before now line (Redo redo) made held mid leads is = is
line_less S T b worker before now line (CheckpointRefused why) made held mid leads is = is
line_less S T b worker before now line (Wrote k) made held mid leads is = is
line_less S T b worker before now line (Published k) made held mid leads is =
    (is.0, is.1, published_less S T b.found b.sums now b.when b.limit k leads is.2, is.3)
line_less S T b worker before now line (CallFailed why) made held mid leads is = is
line_less S T b worker before now line (Backup start end) made held mid leads (made_is, inl t) =
    (made_is, inl (t.0, t.1, t.2, t.3, holds_less S T b worker before now t.0 start end (mid (backup_name t.0)).files leads t.4, t.5))
line_less S T b worker before now line (Backup start end) made held mid leads (made_is, inr t) =
    (made_is, inr (t.0, t.1, t.2, t.3, t.4, t.5, incr_less S T b worker before now t.0 start end (incr_areas held t.0 t.1) (incr_areas mid t.0 t.1) leads t.6, t.7))
line_less S T b worker before now line (BackupRefused why) made held mid leads is =
    (is.0, is.1, is.2, is.3, is.4, refused_less S T b worker before now is.0 (held (backup_name is.0)) (mid (backup_name is.0)) why leads is.5)
line_less S T b worker before now line (IncrRefused why) made held mid leads is =
    (is.0, is.1, is.2, is.3, is.4, is.5, is.6, incr_refused_less S T b worker before now is.0 (incr_areas held is.0 is.1) (incr_areas mid is.0 is.1) why leads is.7)
line_less S T b worker before now line NotRun made held mid leads is = is

lines_less : (S T : Type 0) (b : Basis) (worker : ℕ) (history : List Entry) (from : ℕ) (lines : List Line) (answers : List Answer) (made : List Entry) (to : ℕ) (held new : Areas) → (T → S) → Answered S b worker history from lines answers made to held new
    → Answered T b worker history from lines answers made to held new
lines_less S T b worker history from [] [] made to held new leads is = is
lines_less S T b worker history from [] (a ∷ answers) made to held new leads is = absurd is
lines_less S T b worker history from (l ∷ lines) [] made to held new leads is = absurd is
lines_less S T b worker history from (l ∷ lines) (a ∷ answers) made to held new leads is = (
  is.0,
  is.1,
  is.2,
  is.3,
  is.4,
  is.5,
  is.6,
  line_less S T b worker from (take is.0 history) l.command a is.1 held is.3 leads is.7,
  lines_less S T b worker history is.0 lines answers is.2 to is.3 new leads is.8,
)

pub answered_less : (S T : Type 0) (b : Basis) (worker : ℕ) (history : List Entry) (found : ℕ) (lines : List Line) (answers : List Answer) (held new : Areas) → (T → S) → IsAnswered S b worker history found lines answers held new → IsAnswered T b worker history found lines answers held new
answered_less S T b worker history found lines answers held new leads is = record {
  to = is.to;
  within = is.within;
  answered = lines_less S T b worker history found lines answers (accepted_by worker history) is.to held new leads is.answered;
  marked = is.marked;
  order = is.order;
}

-- ---- backups, where areas are the same by the names that lines ask for

pub one_front : (n : List ℕ) (front rest : Names) → IsOneOf n front → IsOneOf n (front ++ rest)
one_front n [] rest one = absurd one
one_front n (first ∷ front) rest (inl is) = inl is
one_front n (first ∷ front) rest (inr later) = inr (one_front n front rest later)

pub one_back : (n : List ℕ) (front rest : Names) → IsOneOf n rest → IsOneOf n (front ++ rest)
one_back n [] rest one = one
one_back n (first ∷ front) rest one = inr (one_back n front rest one)

asked_here : (line : Line) (lines : List Line) (name : List ℕ) → line.command ≡ command.Full name → IsOneOf (backup_name name) (areas_asked (line ∷ lines))
asked_here line lines name is = one_front (backup_name name) (area_asked line.command) (areas_asked lines) (subst (λ (c : Command). IsOneOf (backup_name name) (area_asked c)) (sym is) (inl refl))

abbrev pub SameAsked : List Line → Areas → Areas → Type 0
SameAsked lines kept new = (n : List ℕ) → IsOneOf n (areas_asked lines) → kept n ≡ new n

pub same_behind : (line : Line) (lines : List Line) (kept new : Areas) → SameAsked (line ∷ lines) kept new → SameAsked lines kept new
same_behind line lines kept new same n one = same n (one_back n (area_asked line.command) (areas_asked lines) one)

keeps_at : (name : List ℕ) (lines : List Line) (area : AreaState) (kept new : Areas) → kept name ≡ new name → KeepsTo name lines area kept → KeepsTo name lines area new
keeps_at name lines area kept new at keeps = λ still. subst (IsStill area) at (keeps still)

stands_less : (S T : Type 0) (b : Basis) (worker : ℕ) (history : List Entry) (line : Line) (lines : List Line) (answer : Answer) (kept new : Areas) → (T → S) → SameAsked (line ∷ lines) kept new → StandsFor S b worker history line lines answer kept → StandsFor T b worker history line lines answer new
stands_less S T b worker history line lines (Accepted place) kept new leads same is = tt
stands_less S T b worker history line lines (Refused why) kept new leads same is = tt
stands_less S T b worker history line lines (Grown k place) kept new leads same is = tt
stands_less S T b worker history line lines (Stopped k why) kept new leads same is = tt
stands_less S T b worker history line lines (Redo redo) kept new leads same is = tt
stands_less S T b worker history line lines (CheckpointRefused why) kept new leads same is = tt
stands_less S T b worker history line lines (Wrote k) kept new leads same is = tt
stands_less S T b worker history line lines (Published k) kept new leads same is = tt
stands_less S T b worker history line lines (CallFailed why) kept new leads same is = tt
stands_less S T b worker history line lines (Backup start end) kept new leads same is = λ name full.
    let there = is name full in
    let at : kept (backup_name name) ≡ new (backup_name name) = same (backup_name name) (asked_here line lines name full) in
    (there.0, there.1, there.2, holds_less S T b worker 0 (take there.0 history) name start end there.1.files leads there.3, there.4, keeps_at (backup_name name) lines there.1 kept new at there.5)
stands_less S T b worker history line lines (BackupRefused why) kept new leads same is = tt
stands_less S T b worker history line lines (IncrRefused why) kept new leads same is = tt
stands_less S T b worker history line lines NotRun kept new leads same is = tt

pub stand_less : (S T : Type 0) (b : Basis) (worker : ℕ) (history : List Entry) (lines : List Line) (answers : List Answer) (kept new : Areas) → (T → S) → SameAsked lines kept new → BackupsStand S b worker history lines answers kept → BackupsStand T b worker history lines answers new
stand_less S T b worker history [] answers kept new leads same is = tt
stand_less S T b worker history (line ∷ lines) [] kept new leads same is = tt
stand_less S T b worker history (line ∷ lines) (answer ∷ answers) kept new leads same is =
    (stands_less S T b worker history line lines answer kept new leads same is.0, stand_less S T b worker history lines answers kept new leads (same_behind line lines kept new same) is.1)

-- ---- incremental ones

incr_asked : (line : Line) (lines : List Line) (name prior n : List ℕ) → line.command ≡ command.Incr name prior → IsOneOf n (area_asked (command.Incr name prior)) → IsOneOf n (areas_asked (line ∷ lines))
incr_asked line lines name prior n is one = one_front n (area_asked line.command) (areas_asked lines) (subst (λ (c : Command). IsOneOf n (area_asked c)) (sym is) one)

incr_stands_less : (S T : Type 0) (b : Basis) (worker : ℕ) (history : List Entry) (line : Line) (lines : List Line) (answer : Answer) (kept new : Areas) → (T → S) → SameAsked (line ∷ lines) kept new
    → IncrStandsFor S b worker history line lines answer kept → IncrStandsFor T b worker history line lines answer new
incr_stands_less S T b worker history line lines (Accepted place) kept new leads same is = tt
incr_stands_less S T b worker history line lines (Refused why) kept new leads same is = tt
incr_stands_less S T b worker history line lines (Grown k place) kept new leads same is = tt
incr_stands_less S T b worker history line lines (Stopped k why) kept new leads same is = tt
incr_stands_less S T b worker history line lines (Redo redo) kept new leads same is = tt
incr_stands_less S T b worker history line lines (CheckpointRefused why) kept new leads same is = tt
incr_stands_less S T b worker history line lines (Wrote k) kept new leads same is = tt
incr_stands_less S T b worker history line lines (Published k) kept new leads same is = tt
incr_stands_less S T b worker history line lines (CallFailed why) kept new leads same is = tt
incr_stands_less S T b worker history line lines (Backup start end) kept new leads same is = λ name prior named.
    let there = is name prior named in
    let out : kept (backup_name name) ≡ new (backup_name name) = same (backup_name name) (incr_asked line lines name prior (backup_name name) named (inl refl)) in
    let before : kept (backup_name prior) ≡ new (backup_name prior) = same (backup_name prior) (incr_asked line lines name prior (backup_name prior) named (inr (inl refl))) in (
      there.0,
      there.1,
      there.2,
      there.3,
      there.4,
      there.5,
      incr_less S T b worker there.0 (take there.1 history) name start end there.2 there.3 leads there.6,
      there.7,
      keeps_at (backup_name name) lines there.3.out kept new out there.8,
      keeps_at (backup_name prior) lines there.2.prior kept new before there.9,
    )
incr_stands_less S T b worker history line lines (BackupRefused why) kept new leads same is = tt
incr_stands_less S T b worker history line lines (IncrRefused why) kept new leads same is = tt
incr_stands_less S T b worker history line lines NotRun kept new leads same is = tt

pub incrs_less : (S T : Type 0) (b : Basis) (worker : ℕ) (history : List Entry) (lines : List Line) (answers : List Answer) (kept new : Areas) → (T → S) → SameAsked lines kept new → IncrsStand S b worker history lines answers kept → IncrsStand T b worker history lines answers new
incrs_less S T b worker history [] answers kept new leads same is = tt
incrs_less S T b worker history (line ∷ lines) [] kept new leads same is = tt
incrs_less S T b worker history (line ∷ lines) (answer ∷ answers) kept new leads same is = (
  incr_stands_less S T b worker history line lines answer kept new leads same is.0,
  incrs_less S T b worker history lines answers kept new leads (same_behind line lines kept new same) is.1,
)

-- ---- areas that failed

rose_at : (line : Line) (lines : List Line) (name : List ℕ) (held kept old new : Areas) → SameAsked (line ∷ lines) held old → SameAsked (line ∷ lines) kept new → RoseFor line name held kept → RoseFor line name old new
rose_at line lines name held kept old new was is rose =
    let one : IsOneOf (backup_name name) (areas_asked (line ∷ lines)) = one_front (backup_name name) (area_asked line.command) (areas_asked lines) rose.0 in
    (rose.0, omega (arith, rose.1, ap (λ (x : AreaState). x.faults) (was (backup_name name) one), ap (λ (x : AreaState). x.faults) (is (backup_name name) one)))

fails_at : (line : Line) (lines : List Line) (answer : Answer) (held kept old new : Areas) → SameAsked (line ∷ lines) held old → SameAsked (line ∷ lines) kept new → FailsFor line answer held kept → FailsFor line answer old new
fails_at line lines answer held kept old new was is fails = (
  λ e. rose_at line lines (backup_taken line.command) held kept old new was is (fails.0 e),
  λ e. rose_at line lines (prior_taken line.command) held kept old new was is (fails.1 e),
)

pub fail_at : (lines : List Line) (answers : List Answer) (held kept old new : Areas) → SameAsked lines held old → SameAsked lines kept new → BackupFaultsRose lines answers held kept → BackupFaultsRose lines answers old new
fail_at [] answers held kept old new was is fails = tt
fail_at (line ∷ lines) [] held kept old new was is fails = tt
fail_at (line ∷ lines) (answer ∷ answers) held kept old new was is fails =
    (fails_at line lines answer held kept old new was is fails.0, fail_at lines answers held kept old new (same_behind line lines held old was) (same_behind line lines kept new is) fails.1)
