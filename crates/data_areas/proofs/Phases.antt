-- The phases of areas that are rebuilt, joined.
use Rattle.std.proofs.Common.{◌≡◌, ℕ, ◌<◌, ◌≤◌, is_some, inl, inr, true≢false, List, [], ◌∷◌, Option, Some, None, IfSome, IsSome, sym, ◌∙◌, arith}
use Rattle.lsn_core.specs.Files.{Files}
use Rattle.lsn_core.specs.Causes.{Rose}
use Rattle.lsn_core.specs.Store.{Store}
use Rattle.lsn_core.specs.declared.fault.StoreFault.{StoreFault}
use Rattle.lsn_core.specs.declared.fault.StoreFault.TheVariants as store
use Rattle.lsn_core.specs.declared.fault.StoreArea.TheVariants.{Wal, Data, Sums}
use Rattle.vault.specs.declared.area.Vault.{Ghosts}
use Rattle.vault.specs.Stops.{Event}
use Rattle.vault.specs.Frame.{AgreeBut, ChangesOnly, Each, Adds, IsAmong, LeavesNow, Has}
use Rattle.vault.proofs.Through.{adds_on}
use Rattle.rel_files.specs.Forks.{IsForkPath}
use Rattle.data_areas.specs.declared.areas.DataAreas.{DataAreas}
use Rattle.data_areas.specs.Areas.{area_of, FaultsGrow, TellAlike, DataCause}
use Rattle.data_areas.specs.Marking.{rebuilding_name, IsMark, IsMarking, IsOther}
use Rattle.data_areas.specs.Phases.{CameSoFar, HasMarkSince, HaveMarkSince, HasFilesOf, first_past}
use Rattle.data_areas.specs.Settling.{SettledSoFar}
use Rattle.data_areas.proofs.Exact.{no_mark, tells_alike}

-- a file of a fork is another one than the mark
other_event : (event : Event) → IsAmong IsForkPath event → IsAmong IsOther event
other_event (inl w) is = no_mark w.0 is
other_event (inr (inl k)) is = no_mark k.0 is
other_event (inr (inr (inl name))) is = no_mark name is
other_event (inr (inr (inr files))) is = tt

each_other : (events : List Event) → Each (IsAmong IsForkPath) events → Each (IsAmong IsOther) events
each_other [] each = tt
each_other (event ∷ events) each = (other_event event each.0, each_other events each.1)

pub forks_are_others : (x y : Option (List Event)) → Adds (IsAmong IsForkPath) x y → Adds (IsAmong IsOther) x y
forks_are_others x y adds = record { events = adds.events; each = each_other adds.events adds.each; past = adds.past }

-- an area that was marked, and that tells its files, has the mark durably
told_now : (P : Type 0) (told : Option Files) → IfSome told (λ m. P) → IsSome told → P
told_now P None there some = absurd (true≢false (sym some))
told_now P (Some m) there some = there

-- what was marked, and then had others changed
pub begun : {V : Type 0} (g : Ghosts V) (x y z : V) → ChangesOnly g IsMark x y → Adds IsMarking (g.past x) (g.past y) → IfSome (g.files y) (λ m. LeavesNow (Has rebuilding_name) (g.past y)) → ChangesOnly g IsOther y z → HasMarkSince (IsSome (g.files x)) (g.past x) (g.past z)
begun g x y z first marking there others = record {
  marked = g.past y;
  first = marking;
  there = λ some. told_now (LeavesNow (Has rebuilding_name) (g.past y)) (g.files y) there (tells_alike (AgreeBut IsMark) (g.files x) (g.files y) first.files ∙ some);
  others = others.past;
}

-- what has begun and goes on
pub begun_on : (tells : Type 0) (x y z : Option (List Event)) → HasMarkSince tells x y → Adds (IsAmong IsOther) y z → HasMarkSince tells x z
begun_on tells x y z first more = record {
  marked = first.marked;
  first = first.first;
  there = first.there;
  others = adds_on (IsAmong IsOther) first.marked y z first.others more;
}

files_with : {V : Type 0} (g : Ghosts V) (relseg : ℕ) (held pages : Store → Type 0) (u v w : V) → ((s : Store) → pages s → held s) → is_some (g.files v) ≡ is_some (g.files u) → HasFilesOf g relseg held v w → HasFilesOf g relseg pages u w
files_with g relseg held pages u v w among alike has = record {
  tells = has.tells ∙ alike;
  files = λ s is. has.files s (among s is);
  settled = has.settled;
}

-- what was filled before, and with pages that are known to be held then
pub so_far_on : {V : Type 0} (g : Ghosts V) (relseg : ℕ) (held pages : ℕ → Store → Type 0) (x y z : DataAreas V) → TellAlike g x y → Adds (IsAmong IsOther) (first_past g x) (first_past g y) → ((q : ℕ) → q < 4 → (s : Store) → pages q s → held q s)
    → SettledSoFar g relseg held y z → SettledSoFar g relseg pages x z
so_far_on g relseg held pages x y z tell more among (inl others) = inl (adds_on (IsAmong IsOther) (first_past g x) (first_past g y) (first_past g z) more others)
so_far_on g relseg held pages x y z tell more among (inr done) = inr (
  record {
    data1 = files_with g relseg (held 1) (pages 1) x.data1 y.data1 z.data1 (among 1 (omega arith)) (tell 1) done.0.data1;
    data2 = files_with g relseg (held 2) (pages 2) x.data2 y.data2 z.data2 (among 2 (omega arith)) (tell 2) done.0.data2;
    data3 = files_with g relseg (held 3) (pages 3) x.data3 y.data3 z.data3 (among 3 (omega arith)) (tell 3) done.0.data3;
  },
  record {
    filled = done.1.filled;
    others = adds_on (IsAmong IsOther) (first_past g x) (first_past g y) done.1.filled more done.1.others;
    kept = λ s is. done.1.kept s (among 0 (omega arith) s is);
    last = done.1.last;
  },
)

-- what was cleared before
pub came_so_far : {V : Type 0} (g : Ghosts V) (relseg : ℕ) (pages : ℕ → Store → Type 0) (x y z : DataAreas V) → TellAlike g x y → HaveMarkSince g x y → SettledSoFar g relseg pages y z → CameSoFar g relseg pages x z
came_so_far g relseg pages x y z tell begins (inl more) = inr (inl (begun_on (IsSome (g.files (area_of x 0))) (first_past g x) (first_past g y) (first_past g z) begins more))
came_so_far g relseg pages x y z tell begins (inr done) = inr (inr (
  record {
    data1 = files_with g relseg (pages 1) (pages 1) x.data1 y.data1 z.data1 (λ s is. is) (tell 1) done.0.data1;
    data2 = files_with g relseg (pages 2) (pages 2) x.data2 y.data2 z.data2 (λ s is. is) (tell 2) done.0.data2;
    data3 = files_with g relseg (pages 3) (pages 3) x.data3 y.data3 z.data3 (λ s is. is) (tell 3) done.0.data3;
  },
  record { filled = first_past g y; begun = begins; ended = done.1 },
))

-- ---- faults

rose_on : (a b c : ℕ) → a ≤ b → Rose b c → Rose a c
rose_on a b c le rose = omega (arith, le, rose)

pub cause_on : {V : Type 0} (g : Ghosts V) (x y z : DataAreas V) (why : StoreFault) → FaultsGrow g x y → DataCause g y z why → DataCause g x z why
cause_on g x y z (store.Failed (Data q)) first cause = (cause.0, rose_on _ _ _ (first q) cause.1)
cause_on g x y z (store.Failed Wal) first cause = absurd cause
cause_on g x y z (store.Failed Sums) first cause = absurd cause
cause_on g x y z store.NoMemory first cause = tt
