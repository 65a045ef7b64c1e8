-- Filled areas that are made durable, and opened.
use Rattle.std.proofs.Common.{◌≡◌, ℕ, ◌<◌, ◌≤◌, Bool, true, false, cond, is_some, inr, List, length, Option, Some, None, IfSome, IsSome, Result, Ok, Err, refl, sym, ap, subst, ◌∙◌, arith}
use Rattle.std.specs.Prelude.{slice_get, IfOk, OnOk, OnErr, ◌==◌}
use Rattle.std.specs.FinMap.{get}
use Rattle.lsn_core.specs.Files.{Files}
use Rattle.lsn_core.specs.declared.fault.AreaFault.{AreaFault}
use Rattle.lsn_core.specs.Store.{Store, ForkPages, files_of}
use Rattle.vault.specs.declared.area.Vault.{Ghosts}
use Rattle.vault.specs.Area.{Related}
use Rattle.vault.specs.Stops.{Event, synced, noted}
use Rattle.vault.specs.Frame.{AgreeBut, ChangesOnly, Adds, IsAmong, LeavesNow}
use Rattle.vault.proofs.Through.{adds_one, adds_sync, durable_behind}
use Rattle.rel_files.specs.Forks.{Holds, HasWholePages}
use Rattle.rel_files.specs.Shown.{AreFilesOf, HoldsStore}
use Rattle.rel_files.specs.declared.forks.Forks.{Forks}
use Rattle.rel_files.specs.Laws.{HasOnlyForks}
use Rattle.page_pool.specs.Part.{Part}
use Rattle.page_pool.specs.Calls.{AreWholePages}
use Rattle.page_pool.specs.Opening.{HoldsWhole, ShowsPages}
use Rattle.page_pool.specs.Steps.{IsClean}
use Rattle.page_pool.specs.declared.partition.Unopened.{Unopened}
use Rattle.lsn_core.specs.byte_words.Numbers.{◌>>=◌}
use Rattle.std.proofs.lemmas.List.Elements.{All-get_or}
use Rattle.std.proofs.lemmas.Option.{get_or_from_slice_get, slice_get_within}
use Rattle.data_areas.specs.declared.areas.DataAreas.{DataAreas}
use Rattle.data_areas.specs.declared.settling.Partitions.{Partitions}
use Rattle.data_areas.specs.Areas.{area_of, FaultsGrow}
use Rattle.data_areas.specs.Marking.{rebuilding_name, IsMark, IsOther}
use Rattle.data_areas.specs.Phases.{first_past, HasEnded, HasFilesOf, AreOthersRebuilt}
use Rattle.data_areas.specs.Rebuilt.{HoldsPages, held_by, IsRebuilt, AreRebuilt}
use Rattle.data_areas.specs.Settling.{HasOnlyForksAndMark, HasPages, AreFilled, IsSettled, AreSettled, IsSynced, HaveEnded, SettledSoFar, IsOpened, AreOpened, IsLeft, AreLeft}
use Rattle.data_areas.proofs.Exact.{tells_alike, exact, apart, exact_but_mark, unmarked_only}
use Rattle.data_areas.proofs.Marks.{left_seen}

-- pages that told files hold are held by those that agree but for the mark
held_apart : (relseg : ℕ) (old new : Option Files) (pages : Store) → Related (AgreeBut IsMark) old new → HoldsPages relseg old pages → HoldsPages relseg new pages
held_apart relseg None None pages agree holds = holds
held_apart relseg (Some a) (Some b) pages agree holds = record {
  files = record {
    files = b;
    are_told = refl;
    hold = apart relseg pages a b agree (held_of a holds.files.files holds.files.are_told holds.files.hold);
  };
  whole = holds.whole;
}
  where
    held_of : (x y : Files) → Some x ≡ Some y → Holds relseg y pages → Holds relseg x pages
    held_of x y e held = subst (λ (m : Files). Holds relseg m pages) (sym (cc e)) held
held_apart relseg None (Some b) pages agree holds = absurd agree
held_apart relseg (Some a) None pages agree holds = absurd agree

holds_told : (relseg : ℕ) (told : Option Files) (pages : Store) → HoldsPages relseg told pages → IfSome told (λ files. Holds relseg files pages)
holds_told relseg told pages holds = subst (λ (o : Option Files). IfSome o (λ files. Holds relseg files pages)) (sym holds.files.are_told) holds.files.hold

-- ---- made durable

pub adds_others : {V : Type 0} (g : Ghosts V) (x y : V) (result : Result (Unit {0}) AreaFault) → OnOk result (g.past y ≡ noted (synced (g.files x)) (g.past x)) → OnErr result (g.past y ≡ g.past x) → Adds (IsAmong IsOther) (g.past x) (g.past y)
adds_others g x y result ok err = adds_sync (IsAmong IsOther) (g.files x) (g.past x) (g.past y) result tt ok err

pub synced_of : {V : Type 0} (g : Ghosts V) (x y : V) → g.files y ≡ g.files x → g.past y ≡ noted (synced (g.files x)) (g.past x) → g.faults x ≤ g.faults y → IsSynced g x y
synced_of g x y same told later = record {
  files = same;
  settled = durable_behind (g.files y) (g.past x) (g.past y) (told ∙ ap (λ (o : Option Files). noted (synced o) (g.past x)) (sym same));
  others = adds_one (IsAmong IsOther) (synced (g.files x)) (g.past x) (g.past y) tt told;
  later = later;
}

pub settled_of : {V : Type 0} (g : Ghosts V) (relseg : ℕ) (x y : V) → IfSome (g.files x) HasOnlyForks → IsSynced g x y → IsSettled g relseg x y
settled_of g relseg x y only synced = record {
  tells = ap (λ (o : Option Files). is_some o) synced.files;
  held = λ pages holds. subst (λ (o : Option Files). HoldsPages relseg o pages) (sym synced.files) holds;
  only = subst (λ (o : Option Files). IfSome o HasOnlyForks) (sym synced.files) only;
  settled = synced.settled;
  later = synced.later;
}

pub unmarked_of : {V : Type 0} (g : Ghosts V) (relseg : ℕ) (x y z : V) → IfSome (g.files x) HasOnlyForksAndMark → IsSynced g x y → ChangesOnly g IsMark y z → IfSome (g.files z) (λ m. get m rebuilding_name ≡ None)
    → IfSome (g.files z) (λ m. LeavesNow (λ left. left ≡ m) (g.past z)) → IsSettled g relseg x z
unmarked_of g relseg x y z only synced changes gone left =
    let agree : Related (AgreeBut IsMark) (g.files x) (g.files z) = subst (λ (o : Option Files). Related (AgreeBut IsMark) o (g.files z)) synced.files changes.files in
    record {
      tells = tells_alike (AgreeBut IsMark) (g.files x) (g.files z) agree;
      held = λ pages holds. held_apart relseg (g.files x) (g.files z) pages agree holds;
      only = unmarked_only (g.files x) (g.files z) agree only gone;
      settled = left;
      later = omega (arith, synced.later, changes.faults);
    }

kept_of : (relseg : ℕ) (told : Option Files) (pages : Store) (past : Option (List Event)) → 0 < relseg → IfSome told HasOnlyForksAndMark → HoldsPages relseg told pages → IfSome told (λ files. LeavesNow (λ left. left ≡ files) past)
    → LeavesNow (AgreeBut IsMark (files_of relseg pages)) past
kept_of relseg told pages past some only holds left =
    let m = holds.files.files in
    let is = holds.files.are_told in
    left_seen (AgreeBut IsMark (files_of relseg pages)) m past
    (exact_but_mark relseg pages m some (subst (λ (o : Option Files). IfSome o HasOnlyForksAndMark) is only) holds.files.hold)
    (subst (λ (o : Option Files). IfSome o (λ files. LeavesNow (λ left. left ≡ files) past)) is left)

-- the first area was synced, and then its mark alone was touched
pub ended_of : {V : Type 0} (g : Ghosts V) (relseg : ℕ) (x y z : V) → 0 < relseg → IfSome (g.files x) HasOnlyForksAndMark → IsSynced g x y → ChangesOnly g IsMark y z → HasEnded relseg (HoldsPages relseg (g.files x)) (g.past x) (g.past z)
ended_of g relseg x y z some only synced changes = record {
  filled = g.past y;
  others = synced.others;
  kept = λ pages holds. kept_of relseg (g.files x) pages (g.past y) some only holds
      (subst (λ (o : Option Files). IfSome o (λ files. LeavesNow (λ left. left ≡ files) (g.past y))) synced.files synced.settled);
  last = changes.past;
}

-- ---- the files that they have then

has_files : {V : Type 0} (g : Ghosts V) (relseg : ℕ) (x y : V) → 0 < relseg → IsSettled g relseg x y → HasFilesOf g relseg (HoldsPages relseg (g.files x)) x y
has_files g relseg x y some settled = record {
  tells = settled.tells;
  files = λ pages holds. exact relseg (g.files y) pages some settled.only (holds_told relseg (g.files y) pages (settled.held pages holds));
  settled = settled.settled;
}

pub others_rebuilt : {V : Type 0} (g : Ghosts V) (relseg : ℕ) (x y : DataAreas V) → 0 < relseg → IsSettled g relseg x.data1 y.data1 → IsSettled g relseg x.data2 y.data2 → IsSettled g relseg x.data3 y.data3 → AreOthersRebuilt g relseg (held_by g relseg x) x y
others_rebuilt g relseg x y some one two three = record {
  data1 = has_files g relseg x.data1 y.data1 some one;
  data2 = has_files g relseg x.data2 y.data2 some two;
  data3 = has_files g relseg x.data3 y.data3 some three;
}

-- ---- opened

left_settled : {V : Type 0} (g : Ghosts V) (relseg : ℕ) (x y z : V) → IsSettled g relseg x y → IsLeft g y z → IsSettled g relseg x z
left_settled g relseg x y z was left = record {
  tells = ap (λ (o : Option Files). is_some o) left.files ∙ was.tells;
  held = λ pages holds. subst (λ (o : Option Files). HoldsPages relseg o pages) (sym left.files) (was.held pages holds);
  only = subst (λ (o : Option Files). IfSome o HasOnlyForks) (sym left.files) was.only;
  settled = subst (λ (p : Option (List Event)). IfSome (g.files z) (λ files. LeavesNow (λ left. left ≡ files) p)) (sym left.past)
      (subst (λ (o : Option Files). IfSome o (λ files. LeavesNow (λ left. left ≡ files) (g.past y))) (sym left.files) was.settled);
  later = omega (arith, was.later, left.later);
}

pub came_to : {V : Type 0} (g : Ghosts V) (relseg : ℕ) (x y z : DataAreas V) → 0 < relseg → AreSettled g relseg x y → HaveEnded g relseg x (first_past g y) → AreLeft g y z → SettledSoFar g relseg (held_by g relseg x) x z
came_to g relseg x y z some settled ended left = inr (
  others_rebuilt g relseg x z some (left_settled g relseg x.data1 y.data1 z.data1 settled.data1 left.data1) (left_settled g relseg x.data2 y.data2 z.data2 settled.data2 left.data2)
      (left_settled g relseg x.data3 y.data3 z.data3 settled.data3 left.data3),
  subst (λ (p : Option (List Event)). HaveEnded g relseg x p) (sym left.data0.past) ended,
)

told_pages : (relseg : ℕ) (told : Option Files) (only : IfSome told HasOnlyForks) (frames : Store) → 0 < relseg → (IsSome told → HoldsPages relseg told frames) → IfSome told (λ files. files ≡ files_of relseg frames)
told_pages relseg None only frames some holds = tt
told_pages relseg (Some m) only frames some holds = exact relseg (Some m) frames some only (holds_told relseg (Some m) frames (holds refl))

pub rebuilt_of : {V : Type 0} (g : Ghosts V) (relseg from : ℕ) (x y : V) (part : Part) → 0 < relseg → HasPages g relseg x → IsSettled g relseg x y → IsOpened g relseg from y part → IsRebuilt relseg from (g.faults x) (g.files x) part
rebuilt_of g relseg from x y part some has settled opened = record {
  frames = λ pages holds. opened.frames pages (settled.held pages holds);
  clean = opened.clean;
  point = opened.point;
  flushed = opened.flushed;
  relseg_is = opened.relseg_is;
  tells = ap (λ (o : Option Files). is_some o) opened.disk ∙ settled.tells;
  files = subst (λ (o : Option Files). IfSome o (λ files. files ≡ files_of relseg part.frames)) (sym opened.disk)
      (told_pages relseg (g.files y) settled.only part.frames some (λ told.
      let there = has (sym settled.tells ∙ told) in
      let held = settled.held there.0 there.1 in
      subst (HoldsPages relseg (g.files y)) (sym (opened.frames there.0 held)) held));
  only = subst (λ (o : Option Files). IfSome o HasOnlyForks) (sym opened.disk) settled.only;
  settled = subst (λ (p : Option (List Event)). IfSome part.disk (λ files. LeavesNow (λ left. left ≡ files) p)) (sym opened.past)
      (subst (λ (o : Option Files). IfSome o (λ files. LeavesNow (λ left. left ≡ files) (g.past y))) (sym opened.disk) settled.settled);
  later = omega (arith, settled.later, opened.later);
}

pub all_rebuilt : {A V : Type 0} (g : Ghosts A) (relseg from : ℕ) (x y : DataAreas A) (parts : Partitions V) → 0 < relseg → AreFilled g relseg x → AreSettled g relseg x y → AreOpened g relseg from y parts → AreRebuilt g relseg from x parts
all_rebuilt g relseg from x y parts some filled settled opened = record {
  part0 = rebuilt_of g relseg from x.data0 y.data0 parts.part0 some (filled.held 0) settled.data0 opened.part0;
  part1 = rebuilt_of g relseg from x.data1 y.data1 parts.part1 some (filled.held 1) settled.data1 opened.part1;
  part2 = rebuilt_of g relseg from x.data2 y.data2 parts.part2 some (filled.held 2) settled.data2 opened.part2;
  part3 = rebuilt_of g relseg from x.data3 y.data3 parts.part3 some (filled.held 3) settled.data3 opened.part3;
}

-- areas that were settled hold pages where they did
has_still : {V : Type 0} (g : Ghosts V) (relseg : ℕ) (x y : V) → HasPages g relseg x → IsSettled g relseg x y → HasPages g relseg y
has_still g relseg x y has settled told = let there = has (sym settled.tells ∙ told) in (there.0, settled.held there.0 there.1)

pub held_still : {V : Type 0} (g : Ghosts V) (relseg : ℕ) (x y : DataAreas V) → AreFilled g relseg x → AreSettled g relseg x y → (q : ℕ) → HasPages g relseg (area_of y q)
held_still {V} g relseg x y filled settled q = go (q == 0) (q == 1) (q == 2) (filled.held q)
  where
    picked : (a b c : Bool) → DataAreas V → V
    picked a b c areas = cond a areas.data0 (cond b areas.data1 (cond c areas.data2 areas.data3))

    go : (a b c : Bool) → HasPages g relseg (picked a b c x) → HasPages g relseg (picked a b c y)
    go true b c has = has_still g relseg x.data0 y.data0 has settled.data0
    go false true c has = has_still g relseg x.data1 y.data1 has settled.data1
    go false false true has = has_still g relseg x.data2 y.data2 has settled.data2
    go false false false has = has_still g relseg x.data3 y.data3 has settled.data3

pub all_later : {V : Type 0} (g : Ghosts V) (x y : DataAreas V) → g.faults x.data0 ≤ g.faults y.data0 → g.faults x.data1 ≤ g.faults y.data1 → g.faults x.data2 ≤ g.faults y.data2 → g.faults x.data3 ≤ g.faults y.data3 → FaultsGrow g x y
all_later {V} g x y e0 e1 e2 e3 q = go (q == 0) (q == 1) (q == 2)
  where
    picked : (a b c : Bool) → DataAreas V → V
    picked a b c areas = cond a areas.data0 (cond b areas.data1 (cond c areas.data2 areas.data3))

    go : (a b c : Bool) → g.faults (picked a b c x) ≤ g.faults (picked a b c y)
    go true b c = e0
    go false true c = e1
    go false false true = e2
    go false false false = e3

-- ---- one area opened

whole_pages : (store : Store) → HasWholePages store → AreWholePages store
whole_pages store whole fork block page there = go (get store fork) refl there
  where
    go : (o : Option ForkPages) → get store fork ≡ o → (o >>= λ pages. slice_get pages block) ≡ Some page → length page ≡ 8192
    go None is found = absurd cc
    go (Some pages) is found = (let at = get_or_from_slice_get pages block page page found in subst (λ (p : List ℕ). length p ≡ 8192) at (All-get_or (λ (p : List ℕ). length p ≡ 8192) pages block page (slice_get_within pages block page found) (whole fork pages is)))

pub pages_there : {V : Type 0} (g : Ghosts V) (relseg : ℕ) (area : V) (disk : Forks V) → disk.area ≡ area → ((s : Store) → AreFilesOf relseg (g.files area) s → HoldsStore g disk s) → HasPages g relseg area → IsSome (g.files disk.area) → HoldsWhole g disk
pages_there {V} g relseg area disk at held has told =
    let there = has (subst (λ (v : V). IsSome (g.files v)) at told) in record { pages = there.0; held = held there.0 there.1.files; whole = whole_pages there.0 there.1.whole }

pub opened_of : {V : Type 0} (g : Ghosts V) (relseg from : ℕ) (area : V) (disk : Forks V) (result : Result Part (Unopened V)) → disk.area ≡ area → disk.relseg ≡ relseg → ((s : Store) → AreFilesOf relseg (g.files area) s → HoldsStore g disk s)
    → IfOk result (λ part. ShowsPages g disk part.frames) → IfOk result IsClean → IfOk result (λ part. part.point ≡ from) → IfOk result (λ part. part.flushed ≡ from) → IfOk result (λ part. part.relseg ≡ disk.relseg)
    → IfOk result (λ part. part.disk ≡ g.files disk.area) → IfOk result (λ part. part.past ≡ g.past disk.area) → IfOk result (λ part. g.faults disk.area ≤ part.faults) → IfOk result (IsOpened g relseg from area)
opened_of g relseg from area disk (Err fault) at size held frames clean point flushed seg told past later = tt
opened_of {V} g relseg from area disk (Ok part) at size held frames clean point flushed seg told past later = record {
  frames = λ pages holds. frames (subst (λ (v : V). IsSome (g.files v)) (sym at) (subst (λ (o : Option Files). IsSome o) (sym holds.files.are_told) refl)) pages (held pages holds.files) (whole_pages pages holds.whole);
  clean = clean;
  point = point;
  flushed = flushed;
  relseg_is = seg ∙ size;
  disk = told ∙ ap g.files at;
  past = past ∙ ap g.past at;
  later = omega (arith, later, ap g.faults at);
}
