-- Writes of a partition, one after the other.
use Rattle.std.proofs.Common.{Result, Ok, Err, OnErr, ◌≡◌, ℕ, zero, suc, ◌+◌, ◌≤◌, Bool, true, false, cond, List, [], ◌∷◌, drop, Option, Some, None, is_some, refl, ap, sym, ◌∙◌, arith, true≢false}
use Rattle.std.specs.Prelude.{max, slice_get}
use Rattle.std.proofs.Math.Seq.{drop-nil}
use Rattle.std.specs.FinMap.{get}
use Rattle.lsn_core.specs.declared.ids.ForkId.{ForkId}
use Rattle.lsn_core.specs.declared.ids.BlockId.{BlockId}
use Rattle.lsn_core.specs.Causes.{HasCause}
use Rattle.lsn_core.specs.declared.fault.AreaFault.{AreaFault}
use Rattle.lsn_core.specs.Files.{Files}
use Rattle.vault.specs.Area.{Related}
use Rattle.vault.specs.Frame.{AgreeBut, IsAmong}
use Rattle.vault.proofs.Through.{adds_none, adds_on}
use Rattle.rel_files.specs.Forks.{IsForkPath}
use Rattle.history.specs.Apply.{is_same_block}
use Rattle.history.proofs.Stores.{block_self}
use Rattle.page_frames.specs.Marks.{DirtyMarks, touch_end, is_dirty, cleaned}
use Rattle.page_frames.specs.Framed.{Framed}
use Rattle.page_frames.proofs.Marks.{mark_set}
use Rattle.page_pool.specs.declared.work.Pending.{Pending}
use Rattle.page_pool.specs.declared.turn.Wrote.{Wrote}
use Rattle.page_pool.specs.declared.turn.Wrote.TheVariants as wrote
use Rattle.page_pool.specs.Part.{Part}
use Rattle.page_pool.specs.Steps.{HasWritten}
use Rattle.page_pool.specs.Calls.{SameUnwritten, SameDisk, ReadsDisk, ChangesForks, IsQuiet, SameBounds, IsOneWritten, IsAllWritten}
use Rattle.page_pool.specs.declared.work.Work.{Work}
use Rattle.page_pool.specs.Writing.{IsFirstWork, HasCleaned}

-- ---- of the area only forks' files change

agree_on : (x y z : Option Files) → Related (AgreeBut IsForkPath) x y → Related (AgreeBut IsForkPath) y z → Related (AgreeBut IsForkPath) x z
agree_on None None None first second = tt
agree_on (Some a) (Some b) (Some c) first second = λ q out. second q out ∙ first q out
agree_on None None (Some c) first second = absurd second
agree_on None (Some b) c first second = absurd first
agree_on (Some a) None c first second = absurd first
agree_on (Some a) (Some b) None first second = absurd second

pub changes_on : (a b c : Part) → ChangesForks a b → ChangesForks b c → ChangesForks a c
changes_on a b c first second = record {
  relseg = second.relseg ∙ first.relseg;
  files = agree_on a.disk b.disk c.disk first.files second.files;
  past = adds_on (IsAmong IsForkPath) a.past b.past c.past first.past second.past;
  faults = let l = first.faults in let k = second.faults in omega (arith, l, k);
}

-- an area that told its files tells them still
pub tells_as : (x y : Option Files) → Related (AgreeBut IsForkPath) x y → is_some y ≡ is_some x
tells_as None None r = refl
tells_as None (Some n) r = absurd r
tells_as (Some m) None r = absurd r
tells_as (Some m) (Some n) r = refl

-- ---- what is dirty or pending is what is left of what was

dropped : {X : Type 0} (n m : ℕ) (xs : List X) → drop m (drop n xs) ≡ drop (n + m) xs
dropped zero m xs = let same : m ≡ 0 + m = omega arith in ap (λ (k : ℕ). drop k xs) same
dropped (suc n) m [] = drop-nil m ∙ sym (drop-nil (suc n + m))
dropped (suc n) m (x ∷ xs) = dropped n m xs ∙ (let next : suc (n + m) ≡ suc n + m = omega arith in ap (λ (k : ℕ). drop k (x ∷ xs)) next)

pub written_none : (a : Part) → HasWritten a a
written_none a = record { frames = λ some. refl; marks = λ fork block end e. e; done = 0; works = refl; point = refl; told = refl }

pub written_on : (a b c : Part) → HasWritten a b → HasWritten b c → HasWritten a c
written_on a b c first second = record {
  frames = λ some. second.frames (first.told ∙ some) ∙ first.frames some;
  marks = λ fork block end e. first.marks fork block end (second.marks fork block end e);
  done = first.done + second.done;
  works = second.works ∙ ap (λ (ws : List Pending). drop second.done ws) first.works ∙ dropped first.done second.done a.works;
  point = second.point ∙ first.point;
  told = second.told ∙ first.told;
}

pub same_written : (a b : Part) → SameUnwritten a b → ChangesForks a b → HasWritten a b
same_written a b same area = record {
  frames = λ some. same.frames;
  marks = λ fork block end e. ap (λ (ms : DirtyMarks). touch_end ms fork block) (sym same.marks) ∙ e;
  done = 0;
  works = same.works;
  point = same.point;
  told = tells_as a.disk b.disk area.files;
}

no_longer : (here : Bool) (m : Option ℕ) (end : ℕ) → cond here None m ≡ Some end → m ≡ Some end
no_longer true m end e = let no : None ≡ Some end = e in absurd cc
no_longer false m end e = e

still_marked : (marks new : DirtyMarks) (at : BlockId) → new ≡ cleaned marks at → (fork : ForkId) (block end : ℕ) → touch_end new fork block ≡ Some end → touch_end marks fork block ≡ Some end
still_marked marks new at is fork block end e =
    no_longer (is_same_block (record { fork = fork; block = block }) at) (touch_end marks fork block) end
    (sym (mark_set marks at None fork block) ∙ sym (ap (λ (ms : DirtyMarks). touch_end ms fork block) is) ∙ e)

pub page_written : (at : BlockId) (a b : Part) → a.works ≡ [] → HasCleaned at a b → ChangesForks a b → HasWritten a b
page_written at a b none done area = record {
  frames = λ some. done.frames;
  marks = still_marked a.marks b.marks at done.marks;
  done = 0;
  works = done.works ∙ sym none;
  point = done.point;
  told = tells_as a.disk b.disk area.files;
}

work_written : (first : Pending) (a b : Part) → a.works ≡ first ∷ b.works → b.marks ≡ a.marks → b.frames ≡ a.frames → b.point ≡ a.point → ChangesForks a b → HasWritten a b
work_written first a b works marks frames point area = record {
  frames = λ some. frames;
  marks = λ fork block end e. ap (λ (ms : DirtyMarks). touch_end ms fork block) (sym marks) ∙ e;
  done = 1;
  works = sym (ap (λ (ws : List Pending). drop 1 ws) works);
  point = point;
  told = tells_as a.disk b.disk area.files;
}

pub one_written : (what : Wrote) (a b : Part) → IsOneWritten (Some what) a b → ChangesForks a b → HasWritten a b
one_written (wrote.Made fork) a b one area = work_written one.next.first a b one.next.works one.next.marks one.frames one.point area
one_written (wrote.Cut fork count) a b one area = work_written one.next.first a b one.next.works one.next.marks one.frames one.point area
one_written (wrote.Removed fork) a b one area = work_written one.next.first a b one.next.works one.next.marks one.frames one.point area
one_written (wrote.Wrote at) a b one area = page_written at a b one.next.none (record { frames = one.frames; works = one.next.works; marks = one.next.marks; point = one.point }) area

-- ---- what is clean stays clean

undirty : (m n : Option ℕ) → is_some n ≡ false → ((end : ℕ) → m ≡ Some end → n ≡ Some end) → is_some m ≡ false
undirty None n clean back = refl
undirty (Some end) n clean back = absurd (true≢false (sym (ap (λ (x : Option ℕ). is_some x) (back end refl)) ∙ clean))

pub stays_clean : (a b : Part) → HasWritten a b → (fork : ForkId) (block : ℕ) → is_dirty a.marks fork block ≡ false → is_dirty b.marks fork block ≡ false
stays_clean a b written fork block clean = undirty (touch_end b.marks fork block) (touch_end a.marks fork block) clean (λ end e. written.marks fork block end e)

-- a page that was written is clean, and so are the others that were
pub cleaned_here : (at : BlockId) (a b : Part) → HasCleaned at a b → is_dirty b.marks at.fork at.block ≡ false
cleaned_here at a b done =
    ap (λ (ms : DirtyMarks). is_dirty ms at.fork at.block) done.marks
    ∙ ap (λ (x : Option ℕ). is_some x) (mark_set a.marks at None at.fork at.block)
    ∙ none_here (is_same_block at at) (touch_end a.marks at.fork at.block) (block_self at)
  where
    none_here : (same : Bool) (m : Option ℕ) → same ≡ true → is_some (cond same None m) ≡ false
    none_here true m e = refl
    none_here false m e = absurd (true≢false (sym e))

-- ---- the first work

pub first_item : (works : List Pending) (w : Pending) → slice_get works 0 ≡ Some w → (rest : List Pending) × (works ≡ w ∷ rest)
first_item [] w e = let no : None ≡ Some w = e in absurd cc
first_item (x ∷ works) w e = let same : x ≡ w = cc in (works, ap (λ (y : Pending). y ∷ works) same)

pub all_written_on : (redo : ℕ) (a b c : Part) → b.frames ≡ a.frames → HasWritten a b → IsAllWritten redo b c → IsAllWritten redo a c
all_written_on redo a b c frames written all = record {
  frames = all.frames ∙ frames;
  clean = all.clean;
  point = all.point ∙ ap (λ (n : ℕ). max n redo) written.point;
  held = all.held;
  settled = all.settled;
}

-- what holds anyway holds of an error
pub on_err : {T E : Type 0} (r : Result T E) (P : Type 0) → P → OnErr r P
on_err (Ok x) P p = tt
on_err (Err e) P p = p

-- ---- an area that was only read, or not touched

pub none_changed : (files new : Option Files) → new ≡ files → Related (AgreeBut IsForkPath) files new
none_changed None None e = tt
none_changed None (Some n) e = absurd cc
none_changed (Some m) None e = absurd cc
none_changed (Some m) (Some n) e = λ q out. let same : n ≡ m = cc in ap (λ (f : Files). get f q) same

pub read_changes : (a b : Part) → ReadsDisk a b → ChangesForks a b
read_changes a b reads = record { relseg = reads.relseg; files = none_changed a.disk b.disk reads.files; past = adds_none (IsAmong IsForkPath) a.past b.past reads.past; faults = reads.faults }

pub same_reads : (a b : Part) → SameDisk a b → ReadsDisk a b
same_reads a b same = record { flushed = same.flushed; relseg = same.relseg; files = same.files; past = same.past; faults = let e = same.faults in omega (arith, e) }

pub reads_on : (a b c : Part) → ReadsDisk a b → ReadsDisk b c → ReadsDisk a c
reads_on a b c first second = record {
  flushed = second.flushed ∙ first.flushed;
  relseg = second.relseg ∙ first.relseg;
  files = second.files ∙ first.files;
  past = second.past ∙ first.past;
  faults = let l = first.faults in let k = second.faults in omega (arith, l, k);
}

-- ---- nothing was written, and the forks are as long

pub quiet_none : (a : Part) → IsQuiet a a
quiet_none a = record { files = refl; past = refl; marks = refl; works = refl }

pub quiet_on : (a b c : Part) → IsQuiet a b → IsQuiet b c → IsQuiet a c
quiet_on a b c first second = record {
  files = second.files ∙ first.files;
  past = second.past ∙ first.past;
  marks = second.marks ∙ first.marks;
  works = second.works ∙ first.works;
}

pub bounds_on : (a b c : Part) → SameBounds a b → SameBounds b c → SameBounds a c
bounds_on a b c first second = record { lengths = second.lengths ∙ first.lengths; limit = second.limit ∙ first.limit }

pub framed_bounds : (a b : Part) → b.framed ≡ a.framed → SameBounds a b
framed_bounds a b same = record { lengths = ap (λ (f : Framed). f.lengths) same; limit = ap (λ (f : Framed). f.limit) same }

-- a call that fails behind others, whose counts didn't fall
pub cause_on : {T : Type 0} (a b c : ℕ) (r : Result T AreaFault) → a ≤ b → HasCause b c r → HasCause a c r
cause_on a b c r le cause = record { later = (let l = cause.later in omega (arith, le, l)); failed = λ e. (let rose = cause.failed e in omega (arith, le, rose)) }

-- a work that was done leaves the marks
pub work_marks : (work : Work) (a b : Part) (what : Wrote) → IsOneWritten (Some what) a b → IsFirstWork work a → b.marks ≡ a.marks
work_marks work a b (wrote.Made fork) one first = one.next.marks
work_marks work a b (wrote.Cut fork count) one first = one.next.marks
work_marks work a b (wrote.Removed fork) one first = one.next.marks
work_marks work a b (wrote.Wrote at) one first = absurd (no_item first.first first.rest a.works first.works one.next.none)
  where
    no_item : (w : Pending) (rest works : List Pending) → works ≡ w ∷ rest → works ≡ [] → ⊥
    no_item w rest works is none = (let no : w ∷ rest ≡ [] = sym is ∙ none in absurd cc)

-- what isn't there
pub is_none : {X : Type 0} (o : Option X) → ((x : X) → o ≡ Some x → ⊥) → o ≡ None
is_none None not = refl
is_none (Some x) not = absurd (not x refl)
