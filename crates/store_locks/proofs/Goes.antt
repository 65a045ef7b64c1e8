-- What calls leave of an open store, one behind the other.
use Rattle.std.proofs.Common.{◌≡◌, ℕ, ◌-◌, ◌<◌, ◌≤◌, max, List, [], ◌∷◌, ◌++◌, Option, Some, None, Result, Ok, Err, IfOk, OnOk, OnErr, refl, sym, ap, subst, ◌∙◌, arith, inl, inr}
use Rattle.std.proofs.lemmas.Bool.{cases_lt}
use Rattle.timeline.proofs.Prefixes.{prefix_refl}
use Rattle.lsn_core.specs.Files.{Files}
use Rattle.lsn_core.specs.declared.fault.AreaFault.{AreaFault}
use Rattle.vault.specs.Area.{Related}
use Rattle.vault.specs.Frame.{AgreeBut}
use Rattle.vault.specs.declared.area.Vault.{Ghosts}
use Rattle.wal_archive.specs.Archive.{Archive, archive_of}
use Rattle.wal_archive.specs.Writing.{IsLeft}
use Rattle.wal_record.specs.Spelling.{total_of}
use Rattle.wal_record.specs.declared.record.Record.{Record}
use Rattle.wal_record.specs.declared.record.Kind.{Kind}
use Rattle.wal_writer.specs.declared.fault.AppendFault.{AppendFault}
use Rattle.wal_writer.specs.declared.state.Flushed.{Flushed}
use Rattle.wal_writer.specs.declared.state.WalState.{WalState}
use Rattle.wal_writer.specs.Log.{Log, IsLog, next_record, flush_end, flushed_to, touched_to}
use Rattle.wal_writer.specs.Stops.{Leaves, IsSegmentFile}
use Rattle.wal_writer.specs.Answers.{AppendAnswer, Flushes, Tears, FlushWrites}
use Rattle.history.specs.Entry.{Act, Entry}
use Rattle.history.specs.Written.{tip_past, tip_over, tip_of}
use Rattle.lsn_core.specs.Tip.{Tip}
use Rattle.wal_record.specs.Tips.{first_tip}
use Rattle.journal.specs.Journal.{EndsWith, Written, entry_at}
use Rattle.journal.proofs.Stands.{start_later, end_later}
use Rattle.store_locks.specs.Calls.{MayWriteWal}
use Rattle.store_locks.specs.Inside.{KeepsWal, AddsOnly, written_end}
use Rattle.store_locks.proofs.Kept.{some_on}

-- ---- files that are related

related_on : (P Q R : Files → Files → Type 0) (old mid new : Option Files) → ((a b c : Files) → P a b → Q b c → R a c) → Related P old mid → Related Q mid new → Related R old new
related_on P Q R None None None step one two = tt
related_on P Q R (Some a) (Some b) (Some c) step one two = step a b c one two
related_on P Q R None None (Some c) step one two = absurd two
related_on P Q R None (Some b) c step one two = absurd one
related_on P Q R (Some a) None c step one two = absurd one
related_on P Q R (Some a) (Some b) None step one two = absurd two

related_same : (P : Files → Files → Type 0) (old : Option Files) → ((m : Files) → P m m) → Related P old old
related_same P None step = tt
related_same P (Some m) step = step m

related_map : (P Q : Files → Files → Type 0) (old new : Option Files) → ((m n : Files) → P m n → Q m n) → Related P old new → Related Q old new
related_map P Q None None step held = tt
related_map P Q (Some m) (Some n) step held = step m n held
related_map P Q None (Some n) step held = absurd held
related_map P Q (Some m) None step held = absurd held

-- ---- what is written of the WAL

left_none : (a : Archive) (from count : ℕ) → IsLeft a a from count
left_none a from count = record { before = λ x b lt held. held; behind = λ x le. refl }

left_on : (a b c : Archive) (from past mid top : ℕ) → from ≤ mid → mid ≤ top → past ≤ top → IsLeft a b from (past - from) → IsLeft b c mid (top - mid) → IsLeft a c from (top - from)
left_on a b c from past mid top le up within one two = record {
  before = λ x n lt held. two.before x n (omega (arith, lt, le)) (one.before x n lt held);
  behind = λ x far. two.behind x (omega (arith, far, le, up)) ∙ one.behind x (omega (arith, far, le, up, within));
}

files_wider : (mib from mid past top : ℕ) (a b : Files) → from ≤ mid → past ≤ top → AgreeBut (IsSegmentFile mib mid past) a b → AgreeBut (IsSegmentFile mib from top) a b
files_wider mib from mid past top a b le within same q out =
    same q (λ i. out (record { seg = i.seg; there = i.there; behind = omega (arith, i.behind, le); before = omega (arith, i.before, within); named = i.named }))

files_on : (mib from past mid top : ℕ) (a b c : Files) → from ≤ mid → past ≤ top → AgreeBut (IsSegmentFile mib from past) a b → AgreeBut (IsSegmentFile mib mid top) b c → AgreeBut (IsSegmentFile mib from top) a c
files_on mib from past mid top a b c le within one two q out =
    files_wider mib from mid top top b c le (omega arith) two q out ∙ files_wider mib from from past top a b (omega arith) within one q out

pub writes_none : (mib from to : ℕ) (files : Option Files) → MayWriteWal mib from to files files
writes_none mib from to files = record {
  left = related_same (λ m n. IsLeft (archive_of mib m) (archive_of mib n) from (to - from)) files (λ m. left_none (archive_of mib m) from (to - from));
  files = related_same (AgreeBut (IsSegmentFile mib from to)) files (λ m q out. refl);
}

pub writes_on : (mib from past mid top : ℕ) (old now new : Option Files) → from ≤ mid → mid ≤ top → past ≤ top → MayWriteWal mib from past old now → MayWriteWal mib mid top now new → MayWriteWal mib from top old new
writes_on mib from past mid top old now new le up within one two = record {
  left = related_on (λ m n. IsLeft (archive_of mib m) (archive_of mib n) from (past - from)) (λ m n. IsLeft (archive_of mib m) (archive_of mib n) mid (top - mid)) (λ m n. IsLeft (archive_of mib m) (archive_of mib n) from (top - from)) old now new
      (λ a b c one two. left_on (archive_of mib a) (archive_of mib b) (archive_of mib c) from past mid top le up within one two) one.left two.left;
  files = related_on (AgreeBut (IsSegmentFile mib from past)) (AgreeBut (IsSegmentFile mib mid top)) (AgreeBut (IsSegmentFile mib from top)) old now new (λ a b c one two. files_on mib from past mid top a b c le within one two) one.files two.files;
}

-- ---- the WAL

-- what no call changes
pub adds_none : {V : Type 0} (j : Written V) → IsLog j.wal.tail → EndsWith j.wal.tail j.pen → AddsOnly j j
adds_none j is ends = record {
  segment = refl;
  system = refl;
  flushed = refl;
  area = refl;
  history = prefix_refl j.pen;
  top = omega arith;
  within = omega (arith, is.pending, ends.end);
}

pub keeps_none : {V : Type 0} (g : Ghosts V) (j : Written V) → IsLog j.wal.tail → EndsWith j.wal.tail j.pen → KeepsWal g j j
keeps_none g j is ends = record {
  pen = refl;
  pages = refl;
  segment = refl;
  system = refl;
  flushed = omega arith;
  within = omega (arith, is.pending, ends.end);
  files = writes_none j.wal.tail.mib j.wal.tail.flushed (written_end j) (g.files j.wal.area);
  told = λ some. some;
  faults = omega arith;
}

end_over : (tip : Tip) (es : List Entry) (e : Entry) → (tip_over tip (es ++ (e ∷ []))).end ≡ e.end
end_over tip [] e = refl
end_over tip (f ∷ es) e = end_over (tip_past tip f) es e

-- an entry was appended, or none
pub adds_of : {V : Type 0} (kind : Kind) (act : Act) (worker : ℕ) (seq : Option ℕ) (old new : Written V) (r : Result Record AppendFault) → IsLog old.wal.tail → EndsWith old.wal.tail old.pen → AppendAnswer kind old.wal.tail new.wal.tail r
    → IfOk r (λ e. new.pen ≡ old.pen ++ (entry_at e act worker seq ∷ [])) → OnErr r (new ≡ old) → new.wal.area ≡ old.wal.area → AddsOnly old new
adds_of kind act worker seq old new (Ok r) is ends answer told same area =
    let tail = answer.1.0 in
    let mib : new.wal.tail.mib ≡ old.wal.tail.mib = ap (λ (l : Log). l.mib) tail in
    let start : old.wal.tail.tip.end ≤ (next_record old.wal.tail kind).start.0 = start_later old.wal.tail.mib old.wal.tail.tip.end in
    let end : (next_record old.wal.tail kind).start.0 < (next_record old.wal.tail kind).end.0 = end_later old.wal.tail.mib old.wal.tail.tip.end (total_of kind) is.segment.least (omega arith) in
    let to = ap (λ (x : Record). x.end.0) answer.0 in
    let top : written_end new ≡ r.end.0 = ap (λ (es : List Entry). (tip_of new.wal.tail.mib es).end) told ∙ end_over (first_tip new.wal.tail.mib) old.pen (entry_at r act worker seq) in
    record {
      segment = mib;
      system = ap (λ (l : Log). l.system) tail;
      flushed = ap (λ (l : Log). l.flushed) tail;
      area = area;
      history = (entry_at r act worker seq ∷ [], sym told);
      top = omega (arith, ends.end, start, end, to, top);
      within = omega (arith, is.pending, ends.end);
    }
adds_of {V} kind act worker seq old new (Err fault) is ends answer told same area = subst (λ (j : Written V). AddsOnly old j) (sym same) (adds_none old is ends)

-- the log behind a flush
record HasFlushed (old new : Log) : Type 0 where
  segment : new.mib ≡ old.mib
  system : new.system ≡ old.system
  flushed : old.flushed ≤ new.flushed
  within : new.flushed ≤ old.tip.end

flushed_none : (old new : Log) → IsLog old → new ≡ old → HasFlushed old new
flushed_none old new is same =
    let place = ap (λ (l : Log). l.flushed) same in
    record {
      segment = ap (λ (l : Log). l.mib) same;
      system = ap (λ (l : Log). l.system) same;
      flushed = omega (arith, place);
      within = omega (arith, place, is.pending);
    }

flushed_more : (old new : Log) (to : ℕ) → IsLog old → to ≤ old.tip.end → old.flushed < to → new ≡ flushed_to old (flush_end old to) → HasFlushed old new
flushed_more old new to is le lt same =
    let place : new.flushed ≡ max to old.touched = ap (λ (l : Log). l.flushed) same in
    record {
      segment = ap (λ (l : Log). l.mib) same;
      system = ap (λ (l : Log). l.system) same;
      flushed = omega (arith, place, lt);
      within = omega (arith, place, le, is.touched);
    }

flushed_not : (old new : Log) (at : ℕ) → IsLog old → new ≡ touched_to old at → HasFlushed old new
flushed_not old new at is same =
    let place : new.flushed ≡ old.flushed = ap (λ (l : Log). l.flushed) same in
    record {
      segment = ap (λ (l : Log). l.mib) same;
      system = ap (λ (l : Log). l.system) same;
      flushed = omega (arith, place);
      within = omega (arith, place, is.pending);
    }

either : (a b : ℕ) (P : Type 0) → (a ≤ b → P) → (b < a → P) → P
either a b P up down =
    elim (cases_lt b a) [
      | inl lt ↦ down lt
      | inr le ↦ up le
    ]

has_flushed : {V : Type 0} (g : Ghosts V) (to : ℕ) (old new : WalState V) (r : Result Flushed AreaFault) → IsLog old.tail → to ≤ old.tail.tip.end → (to ≤ old.tail.flushed → new ≡ old) → OnOk r (Flushes g to old new) → OnErr r (new.tail ≡ touched_to old.tail (flush_end old.tail to))
    → HasFlushed old.tail new.tail
has_flushed {V} g to old new (Ok flushed) is le idle ok err =
    either to old.tail.flushed (HasFlushed old.tail new.tail) (λ up. flushed_none old.tail new.tail is (ap (λ (w : WalState V). w.tail) (idle up))) (λ lt. flushed_more old.tail new.tail to is le lt (ok lt).1.0)
has_flushed g to old new (Err fault) is le idle ok err = flushed_not old.tail new.tail (flush_end old.tail to) is err

left_longer : (a b : Archive) (from fewer count : ℕ) → fewer ≤ count → IsLeft a b from fewer → IsLeft a b from count
left_longer a b from fewer count le left = record { before = left.before; behind = λ x far. left.behind x (omega (arith, far, le)) }

writes_torn : (mib from at to : ℕ) (old new : Option Files) → at ≤ to → Leaves mib from (at - from) old new → Related (AgreeBut (IsSegmentFile mib from at)) old new → MayWriteWal mib from to old new
writes_torn mib from at to old new le left files = record {
  left = related_map (λ m n. IsLeft (archive_of mib m) (archive_of mib n) from (at - from)) (λ m n. IsLeft (archive_of mib m) (archive_of mib n) from (to - from)) old new (λ m n l. left_longer (archive_of mib m) (archive_of mib n) from (at - from) (to - from) (omega (arith, le)) l) left;
  files = related_map (AgreeBut (IsSegmentFile mib from at)) (AgreeBut (IsSegmentFile mib from to)) old new (λ m n same. files_wider mib from from at to m n (omega arith) le same) files;
}

-- whatever a flush answers
pub keeps_of : {V : Type 0} (g : Ghosts V) (to : ℕ) (old new : Written V) (r : Result Flushed AreaFault) → IsLog old.wal.tail → EndsWith old.wal.tail old.pen → to ≤ old.wal.tail.tip.end → (to ≤ old.wal.tail.flushed → new ≡ old) → OnOk r (Flushes g to old.wal new.wal)
    → OnErr r (new.wal.tail ≡ touched_to old.wal.tail (flush_end old.wal.tail to)) → Tears g to old.wal new.wal → FlushWrites g to old.wal new.wal → new.pen ≡ old.pen → new.pages ≡ old.pages → KeepsWal g old new
keeps_of {V} g to old new r is ends le idle ok err left frame pen pages =
    let f : HasFlushed old.wal.tail new.wal.tail = has_flushed g to old.wal new.wal r is le (λ up. ap (λ (j : Written V). j.wal) (idle up)) ok err in
    record {
      pen = pen;
      pages = pages;
      segment = f.segment;
      system = f.system;
      flushed = f.flushed;
      within = omega (arith, f.within, ends.end);
      files = writes_torn old.wal.tail.mib old.wal.tail.flushed (flush_end old.wal.tail to) (written_end old) (g.files old.wal.area) (g.files new.wal.area) (omega (arith, le, is.touched, ends.end)) left frame.files;
      told = λ some. some_on (AgreeBut (IsSegmentFile old.wal.tail.mib old.wal.tail.flushed (flush_end old.wal.tail to))) (g.files old.wal.area) (g.files new.wal.area) frame.files some;
      faults = frame.faults;
    }
