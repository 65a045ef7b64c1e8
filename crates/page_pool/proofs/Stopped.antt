-- What a partition's writes keep of what a stop leaves.
use Rattle.std.proofs.Common.{◌≡◌, ℕ, ◌<◌, List, Option, Some, None, Result, refl, ap, sym, subst, ◌∙◌}
use Rattle.std.specs.Global.{Vec}
use Rattle.lsn_core.specs.declared.lsn.Lsn.{Lsn}
use Rattle.lsn_core.specs.declared.fault.AreaFault.{AreaFault}
use Rattle.lsn_core.specs.declared.ids.ForkId.{ForkId}
use Rattle.lsn_core.specs.declared.ids.BlockId.{BlockId}
use Rattle.lsn_core.specs.Causes.{HasCause}
use Rattle.lsn_core.specs.Store.{Store}
use Rattle.lsn_core.specs.Blocks.{with_fork, with_cut, without_fork}
use Rattle.lsn_core.specs.Shown.{Turns}
use Rattle.vault.specs.declared.area.Vault.{Ghosts}
use Rattle.vault.specs.Frame.{Adds}
use Rattle.vault.proofs.Through.{adds_none, adds_on}
use Rattle.rel_files.specs.Forks.{Holds, mended, page_over, HasHeldPages, IsTornPut, IsTornCut, IsTornRemoval}
use Rattle.rel_files.specs.Shown.{HoldsStore, Leaves, IsTornMake, AddsPut, AddsMake, AddsCut, AddsRemoval}
use Rattle.rel_files.specs.declared.forks.Forks.{Forks}
use Rattle.rel_files.proofs.Alike.{hold_alike}
use Rattle.stop_areas.specs.Left.{Base, HasPagesThatStay}
use Rattle.stop_areas.specs.Keeps.{Keeps}
use Rattle.stop_areas.proofs.Kept.{stops_keep_pages}
use Rattle.stop_areas.proofs.Calls.{put_adds, make_adds, cut_adds, removal_adds}
use Rattle.stop_areas.proofs.Raw.{pages_put, pages_torn_put, pages_make, pages_torn_make, pages_cut, pages_torn_cut, pages_removal, pages_torn_removal}
use Rattle.page_frames.specs.Framed.{Framed}
use Rattle.page_pool.specs.declared.work.Work.{Work}
use Rattle.page_pool.specs.declared.work.Work.TheVariants.{Make, Cut, Remove}
use Rattle.page_pool.specs.declared.turn.Wrote.{Wrote}
use Rattle.page_pool.specs.declared.turn.Wrote.TheVariants as wrote
use Rattle.page_pool.specs.declared.work.Pending.{Pending}
use Rattle.page_pool.specs.declared.partition.Partition.TheInside.{Inside}
use Rattle.page_pool.specs.Part.{Part}
use Rattle.page_pool.specs.Steps.{HasWritten}
use Rattle.page_pool.specs.Calls.{SameUnwritten, ChangesForks, ReadsDisk, SameDisk, IsQuiet, SameBounds, HasDone, IsOneWritten, IsAllWritten, MayWriteNext}
use Rattle.page_pool.specs.Room.{room_end}
use Rattle.page_pool.specs.Partition.{part_in, IsPartition}
use Rattle.page_pool.specs.Writing.{IsFirstWork, IsNextPage}
use Rattle.page_pool.specs.Stops.{Allows, RawKeeps, KeepsWindow, AddsInWindow, WritesFlushed, MayWritePage, MayAlways, with_flushed}
use Rattle.page_pool.proofs.Parted.{each_held}
use Rattle.page_pool.proofs.InTurn.{same_reads}
use Rattle.page_pool.proofs.Flushed.{work_allowed, page_allowed, allows_later}

-- ---- calls in turn

window_on : (m : ℕ) (a b c : Part) → HasWritten a b → b.relseg ≡ a.relseg → AddsInWindow m a b → AddsInWindow m b c → AddsInWindow m a c
window_on m a b c written relseg first second base allows raw =
    let x = first base allows raw in
    let y = second base (allows_later m base a b written allows) x.0 in
    (y.0, adds_on (Keeps a.relseg base) a.past b.past c.past x.1 (subst (λ (n : ℕ). Adds (Keeps n base) b.past c.past) relseg y.1))

-- what may be flushed for the first, so for the second
pub flushed_on : (p q : ℕ → Type 0) (a b c : Part) → HasWritten a b → ChangesForks a b → ((m : ℕ) → p m → q m) → WritesFlushed p a b → WritesFlushed q b c → WritesFlushed p a c
flushed_on p q a b c written area so first second = record {
  flushed = second.flushed ∙ first.flushed;
  moments = λ m may. window_on m a b c written area.relseg (first.moments m may) (second.moments m (so m may));
}

pub flushed_for : (p q : ℕ → Type 0) (a b : Part) → ((m : ℕ) → p m → q m) → WritesFlushed q a b → WritesFlushed p a b
flushed_for p q a b so one = record { flushed = one.flushed; moments = λ m may. one.moments m (so m may) }

raw_read : (base : Base) (a b : Part) → ReadsDisk a b → RawKeeps base a → RawKeeps base b
raw_read base a b reads has =
    let held = has.held in
    record {
      raw = has.raw;
      held = record { files = held.files; are_told = reads.files ∙ held.are_told; hold = subst (λ (n : ℕ). Holds n held.files has.raw) (sym reads.relseg) held.hold };
      pages = has.pages;
    }

pub flushed_read : (p : ℕ → Type 0) (a b : Part) → ReadsDisk a b → WritesFlushed p a b
flushed_read p a b reads = record {
  flushed = reads.flushed;
  moments = λ m may base allows has. (raw_read base a b reads has, adds_none (Keeps a.relseg base) a.past b.past reads.past);
}

pub flushed_same : (p : ℕ → Type 0) (a b : Part) → SameDisk a b → WritesFlushed p a b
flushed_same p a b same = flushed_read p a b (same_reads a b same)

pub flushed_none : (p : ℕ → Type 0) (a : Part) → WritesFlushed p a a
flushed_none p a = record { flushed = refl; moments = λ m may base allows has. (has, adds_none (Keeps a.relseg base) a.past a.past refl) }

-- ---- one call on the area

-- of a store that the files held, what they hold after it, and the events
pub record Moved {V : Type 0} (g : Ghosts V) (old new : Forks V) (base : Base) : Type 0 where
  pub raw : Store
  pub held : HoldsStore g new raw
  pub pages : HasPagesThatStay base raw
  pub adds : Adds (Keeps old.relseg base) (g.past old.area) (g.past new.area)

pub held_pages : {V : Type 0} (g : Ghosts V) (forks : Forks V) (raw : Store) → HoldsStore g forks raw → HasHeldPages raw
held_pages g forks raw held = held.files.hold.held

module _ {V : Type 0} {Q : ℕ} (g : Ghosts V) (p : Inside V Q) (inv : IsPartition g p) (new : Forks V) (now : Part) (is : part_in g p ≡ now) where
  abbrev pub Moves : (ℕ → Type 0) → Type 0
  Moves may = (m : ℕ) → may m → (base : Base) (raw : Store) → Allows m base now → HoldsStore g p.disk raw → HasPagesThatStay base raw → Moved g p.disk new base

  window_moved : (may : ℕ → Type 0) → Moves may → (frames : Framed) (works : Vec Pending) (point : Lsn) (m : ℕ) → may m → AddsInWindow m (part_in g p) (part_in {V = V} {Q = Q} g (record { disk = new; frames = frames; works = works; point = point; flushed = p.flushed }))
  window_moved may moves frames works point m flushed base allows has =
      let held = each_held g p inv (hold_alike g p.disk inv.some) has.raw has.held in
      let moved = moves m flushed base has.raw (subst (Allows m base) is allows) held has.pages in
      (record { raw = moved.raw; held = moved.held.files; pages = moved.pages }, moved.adds)

  pub flushed_moved : (may : ℕ → Type 0) → Moves may → (frames : Framed) (works : Vec Pending) (point : Lsn) → WritesFlushed may now (part_in {V = V} {Q = Q} g (record { disk = new; frames = frames; works = works; point = point; flushed = p.flushed }))
  flushed_moved may moves frames works point =
      let after : Part = part_in {V = V} {Q = Q} g (record { disk = new; frames = frames; works = works; point = point; flushed = p.flushed }) in
      record {
        flushed = ap (λ (x : Part). x.flushed) is;
        moments = λ m flushed. subst (λ (x : Part). AddsInWindow m x after) is (window_moved may moves frames works point m flushed);
      }

  -- ---- each of them

  pub make_moves : (fork : ForkId) → IsFirstWork (Make fork) now → AddsMake g fork p.disk new → Turns (HoldsStore g) p.disk new (λ s. with_fork s fork) → Moves (MayWriteNext now)
  make_moves fork f events turns m flushed base raw allows held pages = record {
    raw = with_fork raw fork;
    held = turns raw held;
    pages = pages_make base fork raw pages;
    adds = make_adds p.disk.relseg base fork (g.past p.disk.area) (g.past new.area) (work_allowed m base now (Make fork) f flushed allows) events;
  }

  pub torn_make_moves : (fork : ForkId) → IsFirstWork (Make fork) now → AddsMake g fork p.disk new → Leaves (HoldsStore g) p.disk new (IsTornMake fork) → Moves (MayWriteNext now)
  torn_make_moves fork f events left m flushed base raw allows held pages =
      let t = left raw held in
      record {
        raw = t.0;
        held = t.1.0;
        pages = pages_torn_make base fork raw t.0 pages t.1.1;
        adds = make_adds p.disk.relseg base fork (g.past p.disk.area) (g.past new.area) (work_allowed m base now (Make fork) f flushed allows) events;
      }

  pub cut_moves : (fork : ForkId) (to : ℕ) → IsFirstWork (Cut fork to) now → AddsCut g fork to p.disk new → Turns (HoldsStore g) p.disk new (λ s. with_cut (mended s fork) fork to) → Moves (MayWriteNext now)
  cut_moves fork to f events turns m flushed base raw allows held pages =
      let may = work_allowed m base now (Cut fork to) f flushed allows in
      let whole = held_pages g p.disk raw held in
      record {
        raw = with_cut (mended raw fork) fork to;
        held = turns raw held;
        pages = pages_cut base fork to raw whole pages may;
        adds = cut_adds p.disk.relseg to base fork raw (g.past p.disk.area) (g.past new.area) inv.some whole pages may (events raw held);
      }

  pub torn_cut_moves : (fork : ForkId) (to : ℕ) → IsFirstWork (Cut fork to) now → AddsCut g fork to p.disk new → Leaves (HoldsStore g) p.disk new (IsTornCut fork to) → Moves (MayWriteNext now)
  torn_cut_moves fork to f events left m flushed base raw allows held pages =
      let may = work_allowed m base now (Cut fork to) f flushed allows in
      let whole = held_pages g p.disk raw held in
      let t = left raw held in
      record {
        raw = t.0;
        held = t.1.0;
        pages = pages_torn_cut base fork to raw t.0 whole pages may t.1.1;
        adds = cut_adds p.disk.relseg to base fork raw (g.past p.disk.area) (g.past new.area) inv.some whole pages may (events raw held);
      }

  pub removal_moves : (fork : ForkId) → IsFirstWork (Remove fork) now → AddsRemoval g fork p.disk new → Turns (HoldsStore g) p.disk new (λ s. without_fork s fork) → Moves (MayWriteNext now)
  removal_moves fork f events turns m flushed base raw allows held pages =
      let may = work_allowed m base now (Remove fork) f flushed allows in
      record {
        raw = without_fork raw fork;
        held = turns raw held;
        pages = pages_removal base fork raw pages may;
        adds = removal_adds p.disk.relseg base fork (g.past p.disk.area) (g.past new.area) may events;
      }

  pub torn_removal_moves : (fork : ForkId) → IsFirstWork (Remove fork) now → AddsRemoval g fork p.disk new → Leaves (HoldsStore g) p.disk new (IsTornRemoval fork) → Moves (MayWriteNext now)
  torn_removal_moves fork f events left m flushed base raw allows held pages =
      let may = work_allowed m base now (Remove fork) f flushed allows in
      let t = left raw held in
      record {
        raw = t.0;
        held = t.1.0;
        pages = pages_torn_removal base fork raw t.0 pages may t.1.1;
        adds = removal_adds p.disk.relseg base fork (g.past p.disk.area) (g.past new.area) may events;
      }

  pub put_moves : (at : BlockId) (page : List ℕ) → IsNextPage at now → AddsPut g at p.disk new → Turns (HoldsStore g) p.disk new (page_over at page) → Moves (MayWritePage now at)
  put_moves at page next events turns m flushed base raw allows held pages =
      let may = page_allowed m base now at next.dirty flushed allows in
      let whole = held_pages g p.disk raw held in
      record {
        raw = page_over at page raw;
        held = turns raw held;
        pages = pages_put base at page raw whole pages may;
        adds = put_adds p.disk.relseg base at raw (g.past p.disk.area) (g.past new.area) whole pages may (events raw held);
      }

  pub torn_put_moves : (at : BlockId) → IsNextPage at now → AddsPut g at p.disk new → Leaves (HoldsStore g) p.disk new (IsTornPut at) → Moves (MayWritePage now at)
  torn_put_moves at next events left m flushed base raw allows held pages =
      let may = page_allowed m base now at next.dirty flushed allows in
      let whole = held_pages g p.disk raw held in
      let t = left raw held in
      record {
        raw = t.0;
        held = t.1.0;
        pages = pages_torn_put base at raw t.0 whole pages may t.1.1;
        adds = put_adds p.disk.relseg base at raw (g.past p.disk.area) (g.past new.area) whole pages may (events raw held);
      }

  pub sync_moves : ((base : Base) → Adds (Keeps p.disk.relseg base) (g.past p.disk.area) (g.past new.area)) → Turns (HoldsStore g) p.disk new (λ s. s) → Moves MayAlways
  sync_moves events turns m flushed base raw allows held pages = record { raw = raw; held = turns raw held; pages = pages; adds = events base }

-- ---- a mark is taken, and then it is written

pub window_kept : (m n : ℕ) (may : ℕ → Type 0) (a b c : Part) → b ≡ with_flushed n a → 0 < a.relseg → WritesFlushed may b c → may m → KeepsWindow m a c
window_kept m n may a b c is some one flushed base allows has left =
    let x = (subst (λ (x : Part). AddsInWindow m x c) is (one.moments m flushed)) base
    (record { pages = allows.pages; works = allows.works })
    (record { raw = has.raw; held = has.held; pages = has.pages }) in
    (x.0, stops_keep_pages a.relseg base a.past c.past some x.1 left)

pub mark_kept : (n : ℕ) (may : ℕ → Type 0) (a b c : Part) → b ≡ with_flushed n a → WritesFlushed may b c → c.flushed ≡ n
mark_kept n may a b c is one = one.flushed ∙ ap (λ (x : Part). x.flushed) is

same_marked : (n : ℕ) (a c : Part) → SameUnwritten (with_flushed n a) c → SameUnwritten a c
same_marked n a c w = record { frames = w.frames; marks = w.marks; works = w.works; point = w.point }

forks_marked : (n : ℕ) (a c : Part) → ChangesForks (with_flushed n a) c → ChangesForks a c
forks_marked n a c w = record { relseg = w.relseg; files = w.files; past = w.past; faults = w.faults }

written_marked : (n : ℕ) (a c : Part) → HasWritten (with_flushed n a) c → HasWritten a c
written_marked n a c w = record { frames = w.frames; marks = w.marks; done = w.done; works = w.works; point = w.point; told = w.told }

all_marked : (n redo : ℕ) (a c : Part) → IsAllWritten redo (with_flushed n a) c → IsAllWritten redo a c
all_marked n redo a c w = record { frames = w.frames; clean = w.clean; point = w.point; held = w.held; settled = w.settled }

quiet_marked : (n : ℕ) (a c : Part) → IsQuiet (with_flushed n a) c → IsQuiet a c
quiet_marked n a c w = record { files = w.files; past = w.past; marks = w.marks; works = w.works }

bounds_marked : (n : ℕ) (a c : Part) → SameBounds (with_flushed n a) c → SameBounds a c
bounds_marked n a c w = record { lengths = w.lengths; limit = w.limit }

done_marked : (n : ℕ) (work : Work) (a c : Part) → HasDone work (with_flushed n a) c → HasDone work a c
done_marked n work a c w = record { first = w.first; is = w.is; works = w.works; marks = w.marks }

one_marked : (n : ℕ) (what : Option Wrote) (a c : Part) → IsOneWritten what (with_flushed n a) c → IsOneWritten what a c
one_marked n None a c w = record { frames = w.frames; point = w.point; next = w.next }
one_marked n (Some (wrote.Made fork)) a c w = record { frames = w.frames; point = w.point; next = done_marked n (Make fork) a c w.next }
one_marked n (Some (wrote.Cut fork count)) a c w = record { frames = w.frames; point = w.point; next = done_marked n (Cut fork count) a c w.next }
one_marked n (Some (wrote.Removed fork)) a c w = record { frames = w.frames; point = w.point; next = done_marked n (Remove fork) a c w.next }
one_marked n (Some (wrote.Wrote at)) a c w =
    let p = w.next in
    record { frames = w.frames; point = w.point; next = record { end = p.end; first = p.first; none = p.none; works = p.works; marks = p.marks } }

-- so what holds behind the mark holds behind both
module _ (n : ℕ) (a b c : Part) (is : b ≡ with_flushed n a) where
  pub same_behind : SameUnwritten b c → SameUnwritten a c
  same_behind w = same_marked n a c (subst (λ (x : Part). SameUnwritten x c) is w)

  pub forks_behind : ChangesForks b c → ChangesForks a c
  forks_behind w = forks_marked n a c (subst (λ (x : Part). ChangesForks x c) is w)

  pub written_behind : HasWritten b c → HasWritten a c
  written_behind w = written_marked n a c (subst (λ (x : Part). HasWritten x c) is w)

  pub all_behind : (redo : ℕ) → IsAllWritten redo b c → IsAllWritten redo a c
  all_behind redo w = all_marked n redo a c (subst (λ (x : Part). IsAllWritten redo x c) is w)

  pub quiet_behind : (blocks : List BlockId) → (room_end b.framed b.works blocks ≡ None → IsQuiet b c) → room_end a.framed a.works blocks ≡ None → IsQuiet a c
  quiet_behind blocks w none = quiet_marked n a c ((subst (λ (x : Part). room_end x.framed x.works blocks ≡ None → IsQuiet x c) is w) none)

  pub bounds_behind : SameBounds b c → SameBounds a c
  bounds_behind w = bounds_marked n a c (subst (λ (x : Part). SameBounds x c) is w)

  pub one_behind : (what : Option Wrote) → IsOneWritten what b c → IsOneWritten what a c
  one_behind what w = one_marked n what a c (subst (λ (x : Part). IsOneWritten what x c) is w)

  pub cause_behind : {T : Type 0} (r : Result T AreaFault) → HasCause b.faults c.faults r → HasCause a.faults c.faults r
  cause_behind r w = subst (λ (x : Part). HasCause x.faults c.faults r) is w
