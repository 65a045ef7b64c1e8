-- Areas that a stop left of an open store, once they are used again: nothing of them is unsynced.
use Rattle.std.proofs.Common.{◌≡◌, ℕ, zero, suc, ◌<◌, ◌≤◌, Bool, true, false, cond, List, [], ◌∷◌, ◌++◌, map, Option, Some, None, refl, sym, ap, subst, ◌∙◌, arith}
use Rattle.std.specs.Prelude.{nat_lt}
use Rattle.std.specs.List.{All}
use Rattle.std.proofs.lemmas.Bool.{ltb-false}
use Rattle.std.proofs.lemmas.List.Elements.{All-nil, All-cons}
use Rattle.lsn_core.specs.Files.{Files}
use Rattle.lsn_core.specs.Segment.{StoreSettings}
use Rattle.lsn_core.specs.declared.lsn.Lsn.{Lsn}
use Rattle.vault.specs.Frame.{IsDurable, LeavesNow}
use Rattle.vault.specs.declared.area.Vault.{Ghosts}
use Rattle.wal_record.specs.declared.record.Record.{Record}
use Rattle.history.specs.Entry.{Entry}
use Rattle.history.specs.Whole.{entry_of}
use Rattle.history.specs.fuzzy_copies.Sound.{entries_before}
use Rattle.history.proofs.Pushes.{all_first, all_rest}
use Rattle.data_areas.specs.Areas.{area_of}
use Rattle.data_areas.specs.Moments.{Past, LeftNow}
use Rattle.store_areas.specs.Begin.{data_of}
use Rattle.store_areas.specs.Opened.{past_of}
use Rattle.store_areas.specs.declared.areas.StoreAreas.{StoreAreas}
use Rattle.store_restart.specs.Moments.{as_left}
use Rattle.store_restart.specs.Survivors.{replay_start}
use Rattle.store_restart.proofs.LeftBy.{left_has}
use Rattle.stop_comebacks.specs.Moments.{IsStoreLeftNow}
use Rattle.stop_comebacks.specs.Restarts.{AreAllDurable, RedosAreFlushed, StoppedAreasAreRestorable}
use Rattle.stop_comebacks.specs.Stopped.{AreStopped, IsPartLeft, IsWalLeft}
use Rattle.stop_comebacks.proofs.Areas.{restorable}
use Rattle.stop_comebacks.proofs.Restarted.{told_of}
use Rattle.stop_comebacks.proofs.Survivors.{starts_within}

-- ---- what is flushed

never_empty : {P : Type 0} (e : Entry) (es : List Entry) → ◌≡◌ {A = List Entry} (e ∷ es) [] → P
never_empty e es is = absurd cc

past_all : (from point flushed : ℕ) (rs : List Record) → from ≤ point → entries_before (map entry_of rs) point ≡ [] → All (λ r. r.start.0 < from → r.end.0 ≤ flushed) rs
past_all from point flushed [] le none = All-nil (λ (r : Record). r.start.0 < from → r.end.0 ≤ flushed)
past_all from point flushed (r ∷ rs) le none = by (nat_lt r.start.0 point) refl (λ past. past_all from point flushed rs le past)
  where
    rest : List Entry
    rest = entries_before (map entry_of rs) point

    by : (b : Bool) → nat_lt r.start.0 point ≡ b → (rest ≡ [] → All (λ x. x.start.0 < from → x.end.0 ≤ flushed) rs) → All (λ x. x.start.0 < from → x.end.0 ≤ flushed) (r ∷ rs)
    by true is more = never_empty (entry_of r) rest (sym (ap (λ (c : Bool). cond c (entry_of r ∷ rest) rest) is) ∙ none)
    by false is more =
        All-cons (λ (x : Record). x.start.0 < from → x.end.0 ≤ flushed) r rs
        (λ less. absurd (let past = ltb-false r.start.0 point is in omega (arith, past, less, le)))
        (more (sym (ap (λ (c : Bool). cond c (entry_of r ∷ rest) rest) is) ∙ none))

all_done : (from flushed : ℕ) (rs qs : List Record) → All (λ r. r.end.0 ≤ flushed) rs → All (λ r. r.start.0 < from → r.end.0 ≤ flushed) qs → All (λ r. r.start.0 < from → r.end.0 ≤ flushed) (rs ++ qs)
all_done from flushed [] qs done rest = rest
all_done from flushed (r ∷ rs) qs done rest =
    All-cons (λ (x : Record). x.start.0 < from → x.end.0 ≤ flushed) r (rs ++ qs)
    (λ less. all_first (λ (x : Record). x.end.0 ≤ flushed) r rs done)
    (all_done from flushed rs qs (all_rest (λ (x : Record). x.end.0 ≤ flushed) r rs done) rest)

redos : (relseg q : ℕ) (history : List Record) (flushed : ℕ) (files : Files) → IsPartLeft relseg q history flushed files → RedosAreFlushed history flushed
redos relseg q history flushed files p records lost from parts start =
    let le = starts_within p.point history records lost from parts p.past start in
    subst (All (λ r. r.start.0 < from.0 → r.end.0 ≤ flushed)) (sym p.parts) (all_done from.0 flushed p.known p.later p.done (past_all from.0 p.point flushed p.later le p.late))

-- ---- what a stop now leaves

module _ {V : Type 0} (g : Ghosts V) (s : StoreSettings) (history : List Record) (flushed : ℕ) (areas : StoreAreas V) (stopped : AreStopped g s history flushed areas) (durable : AreAllDurable g areas) (left : StoreAreas Files) (there : IsStoreLeftNow (past_of g areas) left) where
  one_left : (told : Option Files) (past : Past) (m c : Files) → told ≡ Some m → IsDurable told past → LeftNow past c → c ≡ m
  one_left told past m c is kept may = left_has (λ l. l ≡ m) past c (told_of (λ f. LeavesNow (λ l. l ≡ f) past) told m is kept) may

  part_same : (q : ℕ) (less : q < 4) → area_of (data_of left) q ≡ (stopped.partitions q less).0
  part_same zero less = let p = stopped.partitions 0 less in let pages = there.pages in one_left (g.files areas.data0) (g.past areas.data0) p.0 left.data0 p.1.0 durable.data0 pages.data0
  part_same (suc zero) less = let p = stopped.partitions 1 less in let pages = there.pages in one_left (g.files areas.data1) (g.past areas.data1) p.0 left.data1 p.1.0 durable.data1 pages.data1
  part_same (suc (suc zero)) less = let p = stopped.partitions 2 less in let pages = there.pages in one_left (g.files areas.data2) (g.past areas.data2) p.0 left.data2 p.1.0 durable.data2 pages.data2
  part_same (suc (suc (suc zero))) less = let p = stopped.partitions 3 less in let pages = there.pages in one_left (g.files areas.data3) (g.past areas.data3) p.0 left.data3 p.1.0 durable.data3 pages.data3
  part_same (suc (suc (suc (suc q)))) less = absurd (omega (arith, less))

  pub stopped_left : AreStopped as_left s history flushed left
  stopped_left = record {
    files = left.wal;
    told = refl;
    wal = subst (IsWalLeft s.segment s.system history flushed) (sym (one_left (g.files areas.wal) (g.past areas.wal) stopped.files left.wal stopped.told durable.wal there.wal)) stopped.wal;
    partitions = λ q less. (area_of (data_of left) q, (refl, subst (IsPartLeft s.relseg q history flushed) (sym (part_same q less)) (stopped.partitions q less).1.1));
  }

pub stopped_now : {V : Type 0} (g : Ghosts V) → StoppedAreasAreRestorable g
stopped_now g s history last flushed areas settings h log stopped durable = (
  record {
    restorable = restorable g s history flushed areas settings h stopped;
    left = λ left there chance. restorable as_left s history flushed left settings h (stopped_left g s history flushed areas stopped durable left there);
  },
  record {
    last = last;
    log = log;
    is_store = h;
    redos = (let p = stopped.partitions 0 (omega arith) in redos s.relseg 0 history flushed p.0 p.1.1);
  },
)
