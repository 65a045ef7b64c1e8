-- Areas into which a WAL was replayed.
use Rattle.std.proofs.Common.{◌≡◌, ℕ, zero, suc, ◌<◌, ◌≤◌, Bool, true, false, cond, inl, inr, List, [], ◌∷◌, map, Option, None, Some, IfSome, IsSome, is_some, refl, ap, sym, subst, ◌∙◌, arith}
use Rattle.std.specs.Prelude.{◌==◌, ◌⊎◌, slice_get}
use Rattle.std.specs.Option.{option_map}
use Rattle.std.specs.FinMap.{empty}
use Rattle.lsn_core.specs.Causes.{Rose}
use Rattle.lsn_core.specs.Files.{Files}
use Rattle.lsn_core.specs.Store.{Store}
use Rattle.lsn_core.specs.declared.fault.AreaFault.{AreaFault}
use Rattle.lsn_core.specs.declared.fault.AreaFault.TheVariants.{Failed, NoMemory}
use Rattle.vault.specs.declared.area.Vault.{Ghosts}
use Rattle.vault.specs.Area.{Related}
use Rattle.vault.specs.Frame.{AgreeBut, ChangesOnly, IsAmong}
use Rattle.history.specs.partitions.Parts.{IsPart}
use Rattle.rel_files.specs.Forks.{IsForkPath}
use Rattle.rel_files.specs.Laws.{HasOnlyForks}
use Rattle.rel_files.specs.Shown.{AreFilesOf, ShowsStore, KeepsOthers}
use Rattle.rel_files.specs.declared.forks.Forks.{Forks}
use Rattle.data_areas.specs.declared.areas.DataAreas.{DataAreas}
use Rattle.data_areas.specs.declared.store_forks.StoreForks.{StoreForks}
use Rattle.data_areas.specs.declared.store_forks.AreaFaults.{AreaFaults}
use Rattle.data_areas.specs.Areas.{area_of, listed, FaultsGrow, TellAlike, data_fault, DataCause}
use Rattle.data_areas.specs.Clearing.{AreBare}
use Rattle.data_areas.specs.Marking.{rebuilding_name, HasOnly}
use Rattle.data_areas.specs.Moments.{GoesOn, AllGoOn, pasts_of}
use Rattle.data_areas.specs.Phases.{first_past, HaveMarkSince}
use Rattle.data_areas.specs.Rebuilt.{HoldsPages}
use Rattle.data_areas.specs.Settling.{HasOnlyForksAndMark, HasPages, AreFilled}
use Rattle.data_areas.specs.Stored.{ShowsParts, AreForksOf, KeepEach, count_at, NamesFault, KeepsAll}
use Rattle.data_areas.proofs.Exact.{empty_none, tells_alike, when_related}
use Rattle.data_areas.proofs.Moments.{goes_on}
use Rattle.data_areas.proofs.Phases.{forks_are_others, begun_on}

-- ---- four areas, by number

-- what holds of each of four holds of the one of a number
pub of_each : {V : Type 0} (P : V → V → Type 0) (x y : DataAreas V) → P x.data0 y.data0 → P x.data1 y.data1 → P x.data2 y.data2 → P x.data3 y.data3 → (q : ℕ) → P (area_of x q) (area_of y q)
of_each {V} P x y e0 e1 e2 e3 q = go (q == 0) (q == 1) (q == 2)
  where
    picked : (a b c : Bool) → DataAreas V → V
    picked a b c areas = cond a areas.data0 (cond b areas.data1 (cond c areas.data2 areas.data3))

    go : (a b c : Bool) → P (picked a b c x) (picked a b c y)
    go true b c = e0
    go false true c = e1
    go false false true = e2
    go false false false = e3

-- ---- the segment files of a partition

some_of : {A B : Type 0} (h : A → B) (o : Option A) (b : B) → option_map h o ≡ Some b → (a : A) × ((o ≡ Some a) × (h a ≡ b))
some_of h None b e = absurd cc
some_of h (Some a) b e = (a, (refl, cc e))

get_map : {A B : Type 0} (h : A → B) (xs : List A) (k : ℕ) → slice_get (map h xs) k ≡ option_map h (slice_get xs k)
get_map h [] k = refl
get_map h (x ∷ xs) zero = refl
get_map h (x ∷ xs) (suc k) = get_map h xs k

listed_at : {V : Type 0} (areas : DataAreas V) (q : ℕ) → q < 4 → slice_get (listed areas) q ≡ Some (area_of areas q)
listed_at areas zero below = refl
listed_at areas (suc zero) below = refl
listed_at areas (suc (suc zero)) below = refl
listed_at areas (suc (suc (suc zero))) below = refl
listed_at areas (suc (suc (suc (suc q)))) below = absurd (omega (arith, below))

sizes_at : (relseg q : ℕ) → q < 4 → slice_get (relseg ∷ (relseg ∷ (relseg ∷ (relseg ∷ [])))) q ≡ Some relseg
sizes_at relseg zero below = refl
sizes_at relseg (suc zero) below = refl
sizes_at relseg (suc (suc zero)) below = refl
sizes_at relseg (suc (suc (suc zero))) below = refl
sizes_at relseg (suc (suc (suc (suc q)))) below = absurd (omega (arith, below))

-- the segment files of a partition, in its area
record IsAt {V : Type 0} (relseg q : ℕ) (areas : DataAreas V) (forks : StoreForks V) : Type 0 where
  files : Forks V
  there : slice_get forks.parts q ≡ Some files
  area_is : files.area ≡ area_of areas q
  size : files.relseg ≡ relseg

at_part : {V : Type 0} (relseg : ℕ) (areas : DataAreas V) (forks : StoreForks V) → AreForksOf relseg areas forks → (q : ℕ) → q < 4 → IsAt relseg q areas forks
at_part {V} relseg areas forks are q below =
    let found = some_of (λ (f : Forks V). f.area) (slice_get forks.parts q) (area_of areas q) (sym (get_map (λ (f : Forks V). f.area) forks.parts q) ∙ ap (λ (vs : List V). slice_get vs q) are.areas_are ∙ listed_at areas q below) in
    record {
      files = found.0;
      there = found.1.0;
      area_is = found.1.1;
      size = some_is (ap (option_map (λ (f : Forks V). f.relseg)) (sym found.1.0) ∙ sym (get_map (λ (f : Forks V). f.relseg) forks.parts q) ∙ ap (λ (ns : List ℕ). slice_get ns q) are.sizes ∙ sizes_at relseg q below);
    }
  where
    some_is : {a b : ℕ} → Some a ≡ Some b → a ≡ b
    some_is e = cc e

each_sizes : {V : Type 0} (g : Ghosts V) (xs ys : List (Forks V)) → KeepEach g xs ys → map (λ f. f.relseg) ys ≡ map (λ f. f.relseg) xs
each_sizes g [] [] kept = refl
each_sizes g (x ∷ xs) (y ∷ ys) kept = rw (kept.0.relseg, each_sizes g xs ys kept.1) refl
each_sizes g [] (y ∷ ys) kept = absurd kept
each_sizes g (x ∷ xs) [] kept = absurd kept

each_at : {V : Type 0} (g : Ghosts V) (xs ys : List (Forks V)) (q : ℕ) (x y : Forks V) → KeepEach g xs ys → slice_get xs q ≡ Some x → slice_get ys q ≡ Some y → KeepsOthers g x y
each_at g [] [] q x y kept a b = absurd (cc)
each_at {V} g (u ∷ xs) (v ∷ ys) zero x y kept a b = subst (λ (f : Forks V). KeepsOthers g f y) (some_fork u x a) (subst (KeepsOthers g u) (some_fork v y b) kept.0)
  where
    some_fork : (c d : Forks V) → Some c ≡ Some d → c ≡ d
    some_fork c d e = cc e
each_at g (u ∷ xs) (v ∷ ys) (suc q) x y kept a b = each_at g xs ys q x y kept.1 a b
each_at g [] (v ∷ ys) q x y kept a b = absurd kept
each_at g (u ∷ xs) [] q x y kept a b = absurd kept

count_there : {V : Type 0} (g : Ghosts V) (xs : List (Forks V)) (k : ℕ) (x : Forks V) → slice_get xs k ≡ Some x → count_at g xs k ≡ g.faults x.area
count_there g [] k x there = absurd (cc)
count_there {V} g (a ∷ xs) zero x there = ap (λ (f : Forks V). g.faults f.area) (some_fork there)
  where
    some_fork : Some a ≡ Some x → a ≡ x
    some_fork e = cc e
count_there g (a ∷ xs) (suc k) x there = count_there g xs k x there

-- ---- a replay over areas

-- the areas of pages over which calls went
module _ {V : Type 0} (g : Ghosts V) (relseg : ℕ) (a b : DataAreas V) (x y : StoreForks V) (were : AreForksOf relseg a x) (kept : KeepsAll g x y) (are : map (λ f. f.area) y.parts ≡ listed b) where
  forks_now : AreForksOf relseg b y
  forks_now = record { areas_are = are; sizes = each_sizes g x.parts y.parts kept.each ∙ were.sizes }

  pub changed : (q : ℕ) → q < 4 → ChangesOnly g IsForkPath (area_of a q) (area_of b q)
  changed q below =
      let old = at_part relseg a x were q below in
      let new = at_part relseg b y forks_now q below in
      subst (λ (v : V). ChangesOnly g IsForkPath v (area_of b q)) old.area_is
      (subst (ChangesOnly g IsForkPath old.files.area) new.area_is (each_at g x.parts y.parts q old.files new.files kept.each old.there new.there).area)

  pub pasts_go_on : AllGoOn (pasts_of g a) (pasts_of g b)
  pasts_go_on =
      let on : (u v : V) → ChangesOnly g IsForkPath u v → GoesOn (g.past u) (g.past v) = λ u v is. goes_on (IsAmong IsForkPath) (g.past u) (g.past v) is.past in
      record {
        data0 = on a.data0 b.data0 (changed 0 (omega arith));
        data1 = on a.data1 b.data1 (changed 1 (omega arith));
        data2 = on a.data2 b.data2 (changed 2 (omega arith));
        data3 = on a.data3 b.data3 (changed 3 (omega arith));
      }

  pub faults_grow : FaultsGrow g a b
  faults_grow = of_each (λ u v. g.faults u ≤ g.faults v) a b (changed 0 (omega arith)).faults (changed 1 (omega arith)).faults (changed 2 (omega arith)).faults (changed 3 (omega arith)).faults

  pub tell_alike : TellAlike g a b
  tell_alike =
      let alike : (u v : V) → ChangesOnly g IsForkPath u v → is_some (g.files v) ≡ is_some (g.files u) = λ u v is. tells_alike (AgreeBut IsForkPath) (g.files u) (g.files v) is.files in
      of_each (λ u v. is_some (g.files v) ≡ is_some (g.files u)) a b (alike a.data0 b.data0 (changed 0 (omega arith))) (alike a.data1 b.data1 (changed 1 (omega arith))) (alike a.data2 b.data2 (changed 2 (omega arith))) (alike a.data3 b.data3 (changed 3 (omega arith)))

  -- the mark stands meanwhile
  pub marked_on : (old : DataAreas V) → HaveMarkSince g old a → HaveMarkSince g old b
  marked_on old begins = begun_on (IsSome (g.files (area_of old 0))) (first_past g old) (first_past g a) (first_past g b) begins (forks_are_others (first_past g a) (first_past g b) (changed 0 (omega arith)).past)

  -- the area that is named is one that failed
  pub named_cause : (why : AreaFault) → x.faults.count ≡ 0 → (why ≡ Failed → Rose x.faults.count y.faults.count) → DataCause g a b (data_fault y.faults.last why)
  named_cause NoMemory none rose = tt
  named_cause Failed none rose = go kept.named
    where
      go : (y.faults ≡ x.faults) ⊎ NamesFault g x y → DataCause g a b (data_fault y.faults.last Failed)
      go (inl same) = absurd (let at = ap (λ (f : AreaFaults). f.count) same in omega (arith, none, at, rose refl))
      go (inr names) =
          let old = at_part relseg a x were y.faults.last names.below in
          let new = at_part relseg b y forks_now y.faults.last names.below in (
            names.below,
            (let was = count_there g x.parts y.faults.last old.files old.there ∙ ap g.faults old.area_is in
                let is = count_there g y.parts y.faults.last new.files new.there ∙ ap g.faults new.area_is in
                omega (arith, names.rose, was, is)),
          )

  -- what is shown is held by the areas
  pub held_part : (store : Store) → ShowsParts g y store → (q : ℕ) → q < 4 → (part : Store) × (IsPart q store part × HoldsPages relseg (g.files (area_of b q)) part)
  held_part store shows q below =
      let new = at_part relseg b y forks_now q below in
      let has = shows q below in
      let there : ShowsStore g new.files has.part = subst (λ (f : Forks V). ShowsStore g f has.part) (some_fork has.files new.files (sym has.there ∙ new.there)) has.shown in (
        has.part,
        (
          has.part_is,
          record {
            files = subst (λ (n : ℕ). AreFilesOf n (g.files (area_of b q)) has.part) new.size (subst (λ (v : V). AreFilesOf new.files.relseg (g.files v) has.part) new.area_is there.holds.files);
            whole = there.whole;
          },
        ),
      )
    where
      some_fork : (c d : Forks V) → Some c ≡ Some d → c ≡ d
      some_fork c d e = cc e

  none_kept : (u v : Option Files) → Related (AgreeBut IsForkPath) u v → IfSome u (λ m. m ≡ empty) → IfSome v HasOnlyForks
  none_kept u v agree none = when_related (AgreeBut IsForkPath) (λ m. m ≡ empty) HasOnlyForks u v (λ c d same e path not. same path not ∙ empty_none c path e) agree none

  pub filled : AreBare g a → ((q : ℕ) → HasPages g relseg (area_of b q)) → AreFilled g relseg b
  filled bare held = record {
    data0 = when_related (AgreeBut IsForkPath) (HasOnly rebuilding_name) HasOnlyForksAndMark (g.files a.data0) (g.files b.data0) (λ c d same only path not other. same path not ∙ only path other) (changed 0 (omega arith)).files bare.data0;
    data1 = none_kept (g.files a.data1) (g.files b.data1) (changed 1 (omega arith)).files bare.data1;
    data2 = none_kept (g.files a.data2) (g.files b.data2) (changed 2 (omega arith)).files bare.data2;
    data3 = none_kept (g.files a.data3) (g.files b.data3) (changed 3 (omega arith)).files bare.data3;
    held = held;
  }
