-- A store that was found on areas, and areas that are handed back.
use Rattle.std.proofs.Common.{◌≡◌, ℕ, zero, suc, ◌<◌, ◌≤◌, Bool, true, false, cond, List, [], ◌∷◌, map, length, Option, Some, None, IfSome, IsSome, is_some, inl, inr, refl, sym, ap, subst, ◌∙◌, arith}
use Rattle.std.specs.Prelude.{◌==◌, box_value}
use Rattle.std.specs.FinMap.{get, empty, get-empty}
use Rattle.std.proofs.lemmas.List.{length-map}
use Rattle.std.proofs.lemmas.List.Elements.{All-nil, All-cons}
use Rattle.lsn_core.specs.Causes.{Rose}
use Rattle.lsn_core.specs.Files.{Files}
use Rattle.lsn_core.specs.Segment.{StoreSettings}
use Rattle.lsn_core.specs.Store.{Store, ForkPages, fork_cmp}
use Rattle.lsn_core.specs.Tip.{Tip, tip_with}
use Rattle.lsn_core.specs.declared.fault.StoreArea.TheVariants.{Wal, Data, Sums}
use Rattle.lsn_core.specs.declared.fault.StoreFault.{StoreFault}
use Rattle.lsn_core.specs.declared.fault.StoreFault.TheVariants as store
use Rattle.vault.specs.declared.area.Vault.{Ghosts}
use Rattle.wal_record.specs.Tips.{first_tip}
use Rattle.wal_writer.specs.Log.{Log, IsLog, log_at}
use Rattle.history.specs.Entry.{Entry, is_of_run}
use Rattle.history.specs.Apply.{apply_all}
use Rattle.history.specs.Whole.{entry_of}
use Rattle.history.specs.Written.{tip_past, tip_over, tip_of}
use Rattle.history.proofs.Pushes.{all_first, all_rest}
use Rattle.history.specs.partitions.Parts.{is_of, part_of, IsPart}
use Rattle.history.proofs.partitions.Folds.{parts_fold}
use Rattle.history.proofs.partitions.Puts.{one_part}
use Rattle.history.specs.fuzzy_copies.Orderly.{AllEndBy, AreOwnFrom}
use Rattle.journal.specs.Lawful.{StandInPlace}
use Rattle.journal.specs.Journal.{EndsWith, IsTold}
use Rattle.page_pool.specs.Part.{Part}
use Rattle.page_pool.specs.Facts.{history_end}
use Rattle.page_pool.proofs.Followed.{clean_follow}
use Rattle.data_areas.specs.declared.areas.DataAreas.{DataAreas}
use Rattle.data_areas.specs.Areas.{area_of, FaultsGrow, DataCause}
use Rattle.vault.specs.declared.boxed.BoxedArea.{BoxedArea}
use Rattle.vault.specs.Boxed.{on_heap}
use Rattle.data_areas.specs.Clearing.{ClearedSoFar}
use Rattle.data_areas.specs.Phases.{CameSoFar}
use Rattle.data_areas.specs.Rebuilt.{HoldsPages, IsRebuilt, AreRebuilt}
use Rattle.recovery.specs.Causes.{HasSettings}
use Rattle.store_areas.specs.declared.areas.StoreAreas.{StoreAreas}
use Rattle.vault.specs.Frame.{IsDurable}
use Rattle.store_faults.specs.declared.begin_why.BeginWhy.TheVariants as why
use Rattle.store_areas.specs.declared.found.Found.{Found}
use Rattle.page_pool.specs.Facts.{IsPartOf}
use Rattle.store_areas.specs.Opened.{Faults, Opened, data_count, NoneFell}
use Rattle.store_areas.specs.Begin.{faults_of, data_of, IsWalPart, IsBegun, IsStanding, IsUnbegun, DataFails, shown_of}
use Rattle.store_areas.specs.Read.{IsFound}
use Rattle.store_finding.specs.Filling.{areas_with, HoldHistory}
use Rattle.store_areas.proofs.Readings.{whole_wal, found_some, found_ended, found_tells}

-- ---- a partition that was rebuilt follows the history that was found

empty_part : (q : ℕ) → IsPart q empty empty
empty_part q fork =
    elim (is_of q fork) as (λ b. get {X = ForkPages} {R = fork_cmp} empty fork ≡ cond b (get {X = ForkPages} {R = fork_cmp} empty fork) None) [
      | true ↦ refl
      | false ↦ get-empty fork_cmp fork
    ]

part_made : (q : ℕ) (history : List Entry) (last pages : Store) → apply_all empty history ≡ Some last → IsPart q last pages → apply_all empty (map (part_of q) history) ≡ Some pages
part_made q history last pages made part =
    let after = parts_fold q empty last empty history (empty_part q) made in
    subst (λ (s : Store). apply_all empty (map (part_of q) history) ≡ Some s) (one_part q last after.0 pages after.2 part) after.1

when_some : (o : Option Files) (P : Type 0) → (IsSome o → P) → IfSome o (λ files. P)
when_some None P leads = tt
when_some (Some m) P leads = leads refl

pub part_begun : (q relseg from faults : ℕ) (tells : Type 0) (told : Option Files) (history : List Entry) (part : Part) → IsRebuilt relseg from faults told part → (IsSome told → (last : Store) × ((apply_all empty history ≡ Some last) × ((pages : Store) × (IsPart q last pages × HoldsPages relseg told pages))))
    → from ≤ history_end history → (tells → AreOwnFrom from history) → (tells → is_some told ≡ true) → IsPartOf q relseg tells history part
part_begun q relseg from faults tells told history part rebuilt made late own tell = record {
  follows = clean_follow q history part
      (when_some part.disk (apply_all empty (map (part_of q) history) ≡ Some part.frames) (λ some.
      let has = made (sym rebuilt.tells ∙ some) in
      let pages = has.1.1.0 in
      part_made q history has.0 pages has.1.0 has.1.1.1.0 ∙ ap (λ (s : Store). Some s) (sym (rebuilt.frames pages has.1.1.1.1))))
      rebuilt.clean (subst (λ (n : ℕ). n ≤ history_end history) (sym rebuilt.point) late);
  relseg_is = rebuilt.relseg_is;
  own = λ t. subst (λ (n : ℕ). AreOwnFrom n history) (sym rebuilt.point) (own t);
  told = λ t. rebuilt.tells ∙ tell t;
  alone = λ t. rebuilt.only;
}

-- ---- where the history ends

over_end : (a b : Tip) (es : List Entry) → a.end ≡ b.end → (tip_over a es).end ≡ (tip_over b es).end
over_end a b [] e = e
over_end a b (x ∷ es) e = over_end (tip_past a x) (tip_past b x) es refl

-- of a history that has an entry the end is that of its WAL
pub end_at : (mib : ℕ) (history : List Entry) → 0 < length history → (tip_of mib history).end ≤ history_end history
end_at mib [] some = absurd (omega (arith, some))
end_at mib (e ∷ es) some = (let same = over_end (tip_past (tip_with 0 0 0 0) e) (tip_past (first_tip mib) e) es refl in omega (arith, same))

-- no entry of it starts there or past it
own_from : (mib last from : ℕ) (history : List Entry) → StandInPlace mib last history → AllEndBy from history → AreOwnFrom from history
own_from mib last from [] stands ends = All-nil (λ (e : Entry). from ≤ e.start → is_of_run e ≡ true)
own_from mib last from (e ∷ es) stands ends =
    All-cons (λ (x : Entry). from ≤ x.start → is_of_run x ≡ true) e es
    (λ late. absurd (omega (arith, late, stands.1, all_first (λ (x : Entry). x.end ≤ from) e es ends)))
    (own_from mib e.end from es stands.2 (all_rest (λ (x : Entry). x.end ≤ from) e es ends))

pub told_own : (log : Log) (told : Option Files) (history : List Entry) (pages : ℕ) → EndsWith log history → IsTold log told history pages → AreOwnFrom log.tip.end history
told_own log told history pages ends is = own_from log.mib _ log.tip.end history is.lawful.places ends.within

-- ---- faults of areas

-- no count fell where none of the five did
pub fell_none : {V : Type 0} (g : Ghosts V) (old : StoreAreas V) (new : Faults) → g.faults old.wal ≤ new.wal → g.faults old.data0 ≤ new.data0 → g.faults old.data1 ≤ new.data1 → g.faults old.data2 ≤ new.data2 → g.faults old.data3 ≤ new.data3
    → NoneFell (faults_of g old) new
fell_none g old new w e0 e1 e2 e3 Wal = w
fell_none g old new w e0 e1 e2 e3 Sums = omega arith
fell_none g old new w e0 e1 e2 e3 (Data q) = go (q == 0) (q == 1) (q == 2) (q == 3)
  where
    picked : (a b c d : Bool) → Faults → ℕ
    picked a b c d faults = cond a faults.data0 (cond b faults.data1 (cond c faults.data2 (cond d faults.data3 0)))

    go : (a b c d : Bool) → picked a b c d (faults_of g old) ≤ picked a b c d new
    go true b c d = e0
    go false true c d = e1
    go false false true d = e2
    go false false false true = e3
    go false false false false = omega arith

pub fell_boxed : {V : Type 0} (g : Ghosts V) (wal back : V) (old new : DataAreas (BoxedArea V)) → g.faults wal ≤ g.faults back → FaultsGrow (on_heap g) old new → NoneFell (faults_of g (areas_with wal old)) (faults_of g (areas_with back new))
fell_boxed g wal back old new later grow = fell_none g (areas_with wal old) (faults_of g (areas_with back new)) later (grow 0) (grow 1) (grow 2) (grow 3)

data_there : {V : Type 0} (g : Ghosts V) (wal : V) (areas : DataAreas (BoxedArea V)) (q : ℕ) → q < 4 → data_count q (faults_of g (areas_with wal areas)) ≡ (on_heap g).faults (area_of areas q)
data_there g wal areas zero below = refl
data_there g wal areas (suc zero) below = refl
data_there g wal areas (suc (suc zero)) below = refl
data_there g wal areas (suc (suc (suc zero))) below = refl
data_there g wal areas (suc (suc (suc (suc q)))) below = absurd (omega (arith, below))

pub cause_boxed : {V : Type 0} (g : Ghosts V) (wal back : V) (old new : DataAreas (BoxedArea V)) (fault : StoreFault) → DataCause (on_heap g) old new fault → DataFails (faults_of g (areas_with wal old)) (faults_of g (areas_with back new)) fault
cause_boxed g wal back old new (store.Failed (Data q)) cause = (
  q,
  cause.0,
  refl,
  subst (λ (n : ℕ). Rose n (data_count q (faults_of g (areas_with back new)))) (sym (data_there g wal old q cause.0))
      (subst (λ (n : ℕ). Rose ((on_heap g).faults (area_of old q)) n) (sym (data_there g back new q cause.0)) cause.1),
)
cause_boxed g wal back old new (store.Failed Wal) cause = absurd cause
cause_boxed g wal back old new (store.Failed Sums) cause = absurd cause
cause_boxed g wal back old new store.NoMemory cause = tt

-- ---- begun

pub begun_at : {V : Type 0} (g : Ghosts V) (areas : StoreAreas V) (opened : Opened) (tip : Tip) (history : List Entry) (pages : ℕ) → IsFound (g.files areas.wal) opened.settings history pages tip
    → opened.history ≡ history → opened.flushed ≡ tip.end → opened.wal ≡ g.files areas.wal → NoneFell (faults_of g areas) opened.faults → IsBegun g areas opened tip
begun_at g areas opened tip history pages found told flushed wal later = record {
  has = record {
    given = found.given;
    found = found.has.found;
    some = found_some (g.files areas.wal) opened.settings history pages tip found;
    tip_is = found.has.read.tip;
    archive = whole_wal opened.settings (g.files areas.wal) found.has.found tip found.has.read.archive;
    history = told ∙ found.has.history_is;
    pages = found.has.store;
    made = λ some. ap (λ (es : List Entry). apply_all empty es) told ∙ found.has.made some;
    flushed = flushed;
    wal = wal;
  };
  later = later;
}

-- what was found: its WAL, and the partitions that were rebuilt
module _ {V : Type 0} (g : Ghosts V) (wal : V) (areas : DataAreas (BoxedArea V)) (found : Found V) (area : found.wal ≡ wal) (is : IsFound (g.files wal) found.settings found.opened.list found.pages found.tip) (held : HoldHistory (on_heap g) found.settings.relseg (g.files wal) areas found.opened.list)
    (rebuilt : AreRebuilt (on_heap g) found.settings.relseg found.tip.end areas found.parts) (known : IsLog (log_at found.settings found.tip)) (alike : (v : V) → is_some (g.files v) ≡ is_some (g.files wal)) where
  part_at : (q faults : ℕ) (part : Part) → q < 4 → IsRebuilt found.settings.relseg found.tip.end faults ((on_heap g).files (area_of areas q)) part → IsPartOf q found.settings.relseg (IsSome (g.files wal)) found.opened.list part
  part_at q faults part below was =
      let history : List Entry = found.opened.list in
      let told : Option Files = (on_heap g).files (area_of areas q) in
      let same : is_some told ≡ is_some (g.files wal) = alike (box_value (area_of areas q).area) in
      let ended : EndsWith (log_at found.settings found.tip) history = found_ended (g.files wal) found.settings history found.pages found.tip is in
      let some = found_some (g.files wal) found.settings history found.pages found.tip is in
      let long : 0 < length history = subst (λ (es : List Entry). 0 < length es) (sym is.has.history_is) (omega (arith, some, length-map is.has.found entry_of)) in
      part_begun q found.settings.relseg found.tip.end faults (IsSome (g.files wal)) told history part was
      (λ t. (let there = sym same ∙ t in let made = is.has.made there in (is.has.store, (made, held there is.has.store made q below))))
      (omega (arith, ended.end, end_at found.settings.segment history long))
      (λ t. told_own (log_at found.settings found.tip) (g.files wal) history found.pages ended (found_tells (g.files wal) found.settings history found.pages found.tip known t is))
      (λ t. same ∙ t)

  pub stands_with : IsDurable (g.files wal) (g.past wal) → IsStanding g found
  stands_with durable =
      let at : V → Type 0 = λ v. IsFound (g.files v) found.settings found.opened.list found.pages found.tip in
      record {
        is = subst at (sym area) is;
        durable = subst (λ (v : V). IsDurable (g.files v) (g.past v)) (sym area) durable;
        part0 = subst (λ (v : V). IsPartOf 0 found.settings.relseg (IsSome (g.files v)) found.opened.list found.parts.part0) (sym area) (part_at 0 _ found.parts.part0 (omega arith) rebuilt.part0);
        part1 = subst (λ (v : V). IsPartOf 1 found.settings.relseg (IsSome (g.files v)) found.opened.list found.parts.part1) (sym area) (part_at 1 _ found.parts.part1 (omega arith) rebuilt.part1);
        part2 = subst (λ (v : V). IsPartOf 2 found.settings.relseg (IsSome (g.files v)) found.opened.list found.parts.part2) (sym area) (part_at 2 _ found.parts.part2 (omega arith) rebuilt.part2);
        part3 = subst (λ (v : V). IsPartOf 3 found.settings.relseg (IsSome (g.files v)) found.opened.list found.parts.part3) (sym area) (part_at 3 _ found.parts.part3 (omega arith) rebuilt.part3);
      }

  same_count : g.faults wal ≤ g.faults found.wal
  same_count = (let same = ap g.faults area in omega (arith, same))

  pub begun_with : IsBegun g (areas_with wal areas) (shown_of g found) found.tip
  begun_with =
      begun_at g (areas_with wal areas) (shown_of g found) found.tip found.opened.list found.pages is refl refl (ap g.files area)
      (fell_none g (areas_with wal areas) (shown_of g found).faults same_count rebuilt.part0.later rebuilt.part1.later rebuilt.part2.later rebuilt.part3.later)

-- ---- not begun

data_at : {V : Type 0} (wal : V) (pages : DataAreas (BoxedArea V)) → DataAreas V
data_at wal pages = data_of (areas_with wal pages)

-- a rebuilding over areas on the heap is one over the areas
pub came_at : {V : Type 0} (g : Ghosts V) (relseg : ℕ) (held : ℕ → Store → Type 0) (wal back : V) (x y : DataAreas (BoxedArea V)) → CameSoFar (on_heap g) relseg held x y → CameSoFar g relseg held (data_of (areas_with wal x)) (data_of (areas_with back y))
came_at {V} g relseg held wal back x y (inl mark) = inl (record {
  data0 = record { changes = record { files = mark.data0.changes.files; past = mark.data0.changes.past; faults = mark.data0.changes.faults }; marking = mark.data0.marking };
  data1 = ap (λ (b : BoxedArea V). box_value b.area) mark.data1;
  data2 = ap (λ (b : BoxedArea V). box_value b.area) mark.data2;
  data3 = ap (λ (b : BoxedArea V). box_value b.area) mark.data3;
})
came_at g relseg held wal back x y (inr (inl since)) = inr (inl since)
came_at g relseg held wal back x y (inr (inr done)) = inr (inr (
  record {
    data1 = record { tells = done.0.data1.tells; files = done.0.data1.files; settled = done.0.data1.settled };
    data2 = record { tells = done.0.data2.tells; files = done.0.data2.files; settled = done.0.data2.settled };
    data3 = record { tells = done.0.data3.tells; files = done.0.data3.files; settled = done.0.data3.settled };
  },
  done.1,
))

-- the data areas weren't cleared
pub uncleared : {V : Type 0} (g : Ghosts V) (s : StoreSettings) (wal : V) (x y : DataAreas (BoxedArea V)) (areas : StoreAreas V) (fault : StoreFault) → areas ≡ areas_with wal y → HasSettings (g.files wal) s → FaultsGrow (on_heap g) x y → DataCause (on_heap g) x y fault → ClearedSoFar (on_heap g) x y
    → IsUnbegun g (areas_with wal x) (record { areas = areas; why = why.Data fault })
uncleared {V} g s wal x y areas fault is given grow cause so_far =
    subst (λ (a : StoreAreas V). IsUnbegun g (areas_with wal x) (record { areas = a; why = why.Data fault })) (sym is)
    (record {
      wal = refl;
      later = fell_boxed g wal wal x y (omega arith) grow;
      cause = (cause_boxed g wal wal x y fault cause, record { settings = s; given = given; came = came_at g s.relseg (IsWalPart (g.files wal) s) wal wal x y (go so_far) });
    })
  where
    go : ClearedSoFar (on_heap g) x y → CameSoFar (on_heap g) s.relseg (IsWalPart (g.files wal) s) x y
    go (inl mark) = inl mark
    go (inr since) = inr (inl since)
