-- What a stop leaves of areas that are rebuilt, part by part.
use Rattle.std.proofs.Common.{◌≡◌, ℕ, ◌<◌, Bool, true, false, true≢false, inl, inr, List, [], ◌∷◌, ◌++◌, Option, Some, None, IfSome, IsSome, Result, OnErr, refl, sym, ap, subst, ◌∙◌}
use Rattle.std.specs.Prelude.{◌⊎◌, bytes_eq}
use Rattle.std.specs.Cmp.Lexicographic.{nat_list_cmp_total}
use Rattle.std.specs.FinMap.{get, same_map, slice_cmp-IsAntisymmetric, nat_cmp-IsAntisymmetric}
use Rattle.std.proofs.lemmas.Slice.Eq.{bytes_eq-Decides}
use Rattle.lsn_core.specs.Files.{Files}
use Rattle.lsn_core.specs.Store.{Store, files_of}
use Rattle.lsn_core.specs.declared.fault.AreaFault.{AreaFault}
use Rattle.vault.specs.declared.area.Vault.{Ghosts}
use Rattle.vault.specs.Stops.{Event, Made, removed, synced, Notes, Tries}
use Rattle.vault.specs.Frame.{AgreeBut, Each, Adds, IsAmong, LeavesNow, LeavesOnly, Has}
use Rattle.vault.proofs.Through.{adds_none, adds_by, adds_sync, adds_on, leaves_only}
use Rattle.vault.proofs.Moments.{mark_stands}
use Rattle.page_pool.specs.Part.{Part}
use Rattle.data_areas.specs.declared.areas.DataAreas.{DataAreas}
use Rattle.data_areas.specs.declared.settling.Partitions.{Partitions}
use Rattle.data_areas.specs.Clearing.{ClearedSoFar}
use Rattle.data_areas.specs.Marking.{rebuilding_name, IsMark, IsOther, IsMarking}
use Rattle.data_areas.specs.Moments.{Past, pasts_of, pasts_in, GoesOn, AllGoOn, LeftNow, LeftSince, AreLeftNow, AreLeftSince, PartLeaves, PartsLeave, StopsLeave}
use Rattle.data_areas.specs.Phases.{HasMarkSince, HaveMarkSince, HasEnded, HasFilesOf}
use Rattle.data_areas.specs.Rebuilt.{HoldsPages, held_by, IsRebuilt, AreRebuilt}
use Rattle.data_areas.specs.Settling.{HasOnlyForksAndMark, HaveEnded, SettledSoFar, AreOpened, AreLeft}
use Rattle.data_areas.proofs.Exact.{none_of_mark}

-- ---- more happened

each_any : (events : List Event) → Each (λ event. Unit {0}) events
each_any [] = tt
each_any (event ∷ events) = (tt, each_any events)

pub goes_on : (K : Event → Type 0) (x y : Past) → Adds K x y → GoesOn x y
goes_on K x y adds = record { events = adds.events; each = each_any adds.events; past = adds.past }

pub stays : (x y : Past) → y ≡ x → GoesOn x y
stays x y same = adds_none (λ event. Unit {0}) x y same

-- a removal, whatever it answers
pub removal_goes_on : {T : Type 0} (name : List ℕ) (x y : Past) (result : Result T AreaFault) → Notes (removed name) x y result → Tries (removed name) x y result → GoesOn x y
removal_goes_on name x y result notes tries = adds_by (λ event. Unit {0}) (removed name) x y result tt notes tries

-- a sync
pub sync_goes_on : {T : Type 0} (files : Option Files) (x y : Past) (result : Result T AreaFault) → Notes (synced files) x y result → OnErr result (y ≡ x) → GoesOn x y
sync_goes_on files x y result notes tries = adds_sync (λ event. Unit {0}) files x y result tt notes tries

pub goes_further : (x y z : Past) → GoesOn x y → GoesOn y z → GoesOn x z
goes_further x y z first second = adds_on (λ event. Unit {0}) x y z first second

pub all_further : (x y z : DataAreas Past) → AllGoOn x y → AllGoOn y z → AllGoOn x z
all_further x y z first second = record {
  data0 = goes_further x.data0 y.data0 z.data0 first.data0 second.data0;
  data1 = goes_further x.data1 y.data1 z.data1 first.data1 second.data1;
  data2 = goes_further x.data2 y.data2 z.data2 first.data2 second.data2;
  data3 = goes_further x.data3 y.data3 z.data3 first.data3 second.data3;
}

pub all_stay : (x : DataAreas Past) → AllGoOn x x
all_stay x = record { data0 = stays x.data0 x.data0 refl; data1 = stays x.data1 x.data1 refl; data2 = stays x.data2 x.data2 refl; data3 = stays x.data3 x.data3 refl }

goes_to : (x y z : Past) → GoesOn x y → z ≡ y → GoesOn x z
goes_to x y z on same = subst (GoesOn x) (sym same) on

-- up to areas that were opened, or weren't
pub opened_on : {A V : Type 0} (g : Ghosts A) (relseg from : ℕ) (x y : DataAreas A) (parts : Partitions V) → AllGoOn (pasts_of g x) (pasts_of g y) → AreOpened g relseg from y parts → AllGoOn (pasts_of g x) (pasts_in parts)
opened_on g relseg from x y parts on opened = record {
  data0 = goes_to (g.past x.data0) (g.past y.data0) parts.part0.past on.data0 opened.part0.past;
  data1 = goes_to (g.past x.data1) (g.past y.data1) parts.part1.past on.data1 opened.part1.past;
  data2 = goes_to (g.past x.data2) (g.past y.data2) parts.part2.past on.data2 opened.part2.past;
  data3 = goes_to (g.past x.data3) (g.past y.data3) parts.part3.past on.data3 opened.part3.past;
}

pub left_on : {V : Type 0} (g : Ghosts V) (x y z : DataAreas V) → AllGoOn (pasts_of g x) (pasts_of g y) → AreLeft g y z → AllGoOn (pasts_of g x) (pasts_of g z)
left_on g x y z on left = record {
  data0 = goes_to (g.past x.data0) (g.past y.data0) (g.past z.data0) on.data0 left.data0.past;
  data1 = goes_to (g.past x.data1) (g.past y.data1) (g.past z.data1) on.data1 left.data1.past;
  data2 = goes_to (g.past x.data2) (g.past y.data2) (g.past z.data2) on.data2 left.data2.past;
  data3 = goes_to (g.past x.data3) (g.past y.data3) (g.past z.data3) on.data3 left.data3.past;
}

-- ---- one area

since : (P : Files → Type 0) (x y : Past) (left : Files) → LeavesOnly P x y → LeftSince x y left → P left
since P None y left only there = absurd there
since P (Some a) None left only there = absurd there
since P (Some a) (Some b) left only there = only.0 left there

pub still_left : (P : Files → Type 0) (x y : Past) → LeavesOnly P x y → LeavesNow P y
still_left P None None only = tt
still_left P None (Some b) only = absurd only
still_left P (Some a) None only = tt
still_left P (Some a) (Some b) only = only.1

-- where each event of a kind keeps what a stop leaves
by_kind : (P : Files → Type 0) (K : Event → Type 0) (x y : Past) (left : Files) → ((event : Event) (d c : Files) → K event → P d → Made event d c → P c) → Adds K x y → LeavesNow P x → LeftSince x y left → P left
by_kind P K x y left keeps adds here there = since P x y left (leaves_only P K x y keeps adds here) there

-- where nothing happened
unmoved : (P : Files → Type 0) (x y : Past) (left : Files) → y ≡ x → LeavesNow P x → LeftSince x y left → P left
unmoved P x y left same here there = by_kind P (λ event. ⊥) x y left (λ event d c none holds made. absurd none) (adds_none (λ event. ⊥) x y same) here there

left_now : (x : Past) → LeavesNow (LeftNow x) x
left_now None = tt
left_now (Some events) = λ c may. may

quiet : (x y : Past) (left : Files) → y ≡ x → LeftSince x y left → LeftNow x left
quiet x y left same there = unmoved (LeftNow x) x y left same (left_now x) there

-- files without the mark that agree but for it are the same
same_unmarked : (d c : Files) → AgreeBut IsMark d c → get d rebuilding_name ≡ None → get c rebuilding_name ≡ None → c ≡ d
same_unmarked d c agree was is = same_map nat_list_cmp_total (slice_cmp-IsAntisymmetric nat_cmp-IsAntisymmetric) c d (λ q. go q (bytes_eq q rebuilding_name) refl)
  where
    go : (q : List ℕ) (same : Bool) → bytes_eq q rebuilding_name ≡ same → get c q ≡ get d q
    go q true e = let at = (bytes_eq-Decides q rebuilding_name).0 e in ap (λ (n : List ℕ). get c n) at ∙ is ∙ sym was ∙ sym (ap (λ (n : List ℕ). get d n) at)
    go q false e = agree q (λ at. true≢false (sym ((bytes_eq-Decides q rebuilding_name).1 at) ∙ e))

marked_or_not : (c : Files) → Has rebuilding_name c ⊎ (get c rebuilding_name ≡ None)
marked_or_not c = go (get c rebuilding_name) refl
  where
    go : (o : Option (List ℕ)) → get c rebuilding_name ≡ o → Has rebuilding_name c ⊎ (get c rebuilding_name ≡ None)
    go None e = inr e
    go (Some bytes) e = inl (λ none. absurd (let t = sym e ∙ none in cc))

-- a write of the mark leaves what was there, or the mark
marks : (x : Past) (event : Event) (d c : Files) → IsMarking event → LeftNow x d ⊎ Has rebuilding_name d → Made event d c → LeftNow x c ⊎ Has rebuilding_name c
marks x (inl w) d c is was made = go (marked_or_not c) was
  where
    missing : get c rebuilding_name ≡ None → get d rebuilding_name ≡ None
    missing = subst (λ (n : List ℕ). get c n ≡ None → get d n ≡ None) is.0 made.missing

    go : Has rebuilding_name c ⊎ (get c rebuilding_name ≡ None) → LeftNow x d ⊎ Has rebuilding_name d → LeftNow x c ⊎ Has rebuilding_name c
    go (inl has) before = inr has
    go (inr none) (inl now) = inl (subst (LeftNow x) (sym (same_unmarked d c (λ q out. made.others q (λ e. out (e ∙ is.0))) (missing none) none)) now)
    go (inr none) (inr has) = absurd (has (missing none))
marks x (inr (inl k)) d c is was made = absurd is
marks x (inr (inr (inl q))) d c is was made = absurd is
marks x (inr (inr (inr None))) d c is was made = subst (λ (m : Files). LeftNow x m ⊎ Has rebuilding_name m) (sym made) was
marks x (inr (inr (inr (Some files)))) d c is was made = subst (λ (m : Files). LeftNow x m ⊎ Has rebuilding_name m) (sym made.0) was

now_or_marked : (x : Past) → LeavesNow (λ c. LeftNow x c ⊎ Has rebuilding_name c) x
now_or_marked None = tt
now_or_marked (Some events) = λ c may. inl may

marking : (x y : Past) (left : Files) → Adds IsMarking x y → LeftSince x y left → LeftNow x left ⊎ Has rebuilding_name left
marking x y left adds there = by_kind (λ c. LeftNow x c ⊎ Has rebuilding_name c) IsMarking x y left (marks x) adds (now_or_marked x) there

-- a change of the mark alone leaves the other files
agrees : (m : Files) (event : Event) (d c : Files) → IsAmong IsMark event → AgreeBut IsMark m d → Made event d c → AgreeBut IsMark m c
agrees m (inl w) d c is agree made = λ q out. made.others q (λ e. out (e ∙ is)) ∙ agree q out
agrees m (inr (inl k)) d c is agree made = λ q out. made.others q (λ e. out (e ∙ is)) ∙ agree q out
agrees m (inr (inr (inl name))) d c is agree made = λ q out. made.others q (λ e. out (e ∙ is)) ∙ agree q out
agrees m (inr (inr (inr None))) d c is agree made = subst (AgreeBut IsMark m) (sym made) agree
agrees m (inr (inr (inr (Some files)))) d c is agree made = subst (AgreeBut IsMark m) (sym made.0) agree

-- ---- parts

pub one_part : (P : DataAreas Files → Type 0) (x y : DataAreas Past) → PartLeaves P x y → StopsLeave P x y
one_part P x y part = record { ends = []; parts = part }

parts_join : (P : DataAreas Files → Type 0) (x : DataAreas Past) (ends : List (DataAreas Past)) (y : DataAreas Past) (more : List (DataAreas Past)) (z : DataAreas Past) → PartsLeave P x ends y → PartsLeave P y more z → PartsLeave P x (ends ++ (y ∷ more)) z
parts_join P x [] y more z first second = (first, second)
parts_join P x (end ∷ ends) y more z first second = (first.0, parts_join P end ends y more z first.1 second)

pub stops_join : (P : DataAreas Files → Type 0) (x y z : DataAreas Past) → StopsLeave P x y → StopsLeave P y z → StopsLeave P x z
stops_join P x y z first second = record { ends = first.ends ++ (y ∷ second.ends); parts = parts_join P x first.ends y second.ends z first.parts second.parts }

part_with : (P Q : DataAreas Files → Type 0) (x y : DataAreas Past) → ((left : DataAreas Files) → P left → Q left) → PartLeaves P x y → PartLeaves Q x y
part_with P Q x y leads part = record { on = part.on; stops = λ left there. leads left (part.stops left there) }

parts_with : (P Q : DataAreas Files → Type 0) (x : DataAreas Past) (ends : List (DataAreas Past)) (y : DataAreas Past) → ((left : DataAreas Files) → P left → Q left) → PartsLeave P x ends y → PartsLeave Q x ends y
parts_with P Q x [] y leads parts = part_with P Q x y leads parts
parts_with P Q x (end ∷ ends) y leads parts = (part_with P Q x end leads parts.0, parts_with P Q end ends y leads parts.1)

pub stops_with : (P Q : DataAreas Files → Type 0) (x y : DataAreas Past) → ((left : DataAreas Files) → P left → Q left) → StopsLeave P x y → StopsLeave Q x y
stops_with P Q x y leads stops = record { ends = stops.ends; parts = parts_with P Q x stops.ends y leads stops.parts }

-- ---- areas that are marked and cleared

abbrev pub IsBefore : DataAreas Past → DataAreas Files → Type 0
IsBefore x left = AreLeftNow x left ⊎ Has rebuilding_name left.data0

abbrev pub IsMarked : DataAreas Files → Type 0
IsMarked left = Has rebuilding_name left.data0

-- nothing but the mark was written
only_marked : (x y : DataAreas Past) → Adds IsMarking x.data0 y.data0 → y.data1 ≡ x.data1 → y.data2 ≡ x.data2 → y.data3 ≡ x.data3 → PartLeaves (IsBefore x) x y
only_marked x y adds e1 e2 e3 = record {
  on = record { data0 = goes_on IsMarking x.data0 y.data0 adds; data1 = stays x.data1 y.data1 e1; data2 = stays x.data2 y.data2 e2; data3 = stays x.data3 y.data3 e3 };
  stops = λ left there. go left there (marking x.data0 y.data0 left.data0 adds there.data0);
}
  where
    go : (left : DataAreas Files) → AreLeftSince x y left → LeftNow x.data0 left.data0 ⊎ Has rebuilding_name left.data0 → IsBefore x left
    go left there (inr has) = inr has
    go left there (inl now) = inl (record { data0 = now; data1 = quiet x.data1 y.data1 left.data1 e1 there.data1; data2 = quiet x.data2 y.data2 left.data2 e2 there.data2; data3 = quiet x.data3 y.data3 left.data3 e3 there.data3 })

pub untouched_leaves : (x : DataAreas Past) → StopsLeave (λ left. AreLeftNow x left ⊎ Has rebuilding_name left.data0) x x
untouched_leaves x = one_part (IsBefore x) x x (only_marked x x (adds_none IsMarking x.data0 x.data0 refl) refl refl refl)

-- while the mark stands, the four may change
marked_part : (x y : DataAreas Past) → LeavesNow (Has rebuilding_name) x.data0 → Adds (IsAmong IsOther) x.data0 y.data0 → AllGoOn x y → PartLeaves IsMarked x y
marked_part x y here others on = record {
  on = on;
  stops = λ left there. since (Has rebuilding_name) x.data0 y.data0 left.data0 (mark_stands rebuilding_name x.data0 y.data0 others here) there.data0;
}

pub filling_leaves : (x y : DataAreas Past) → LeavesNow (Has rebuilding_name) x.data0 → Adds (IsAmong IsOther) x.data0 y.data0 → AllGoOn x y → StopsLeave IsMarked x y
filling_leaves x y here others on = one_part IsMarked x y (marked_part x y here others on)

pub mark_stays : (x y : Past) → LeavesNow (Has rebuilding_name) x → Adds (IsAmong IsOther) x y → LeavesNow (Has rebuilding_name) y
mark_stays x y here others = still_left (Has rebuilding_name) x y (mark_stands rebuilding_name x y others here)

pub mark_is_left : (tells : Type 0) (x y : Past) → tells → HasMarkSince tells x y → LeavesNow (Has rebuilding_name) y
mark_is_left tells x y told begins = mark_stays begins.marked y (begins.there told) begins.others

begun_leaves : (tells : Type 0) (x y : DataAreas Past) → tells → HasMarkSince tells x.data0 y.data0 → AllGoOn x y → StopsLeave (IsBefore x) x y
begun_leaves tells x y told begins on =
    let mid : DataAreas Past = record { data0 = begins.marked; data1 = x.data1; data2 = x.data2; data3 = x.data3 } in
    let more : AllGoOn mid y = record { data0 = goes_on (IsAmong IsOther) begins.marked y.data0 begins.others; data1 = on.data1; data2 = on.data2; data3 = on.data3 } in
    record {
      ends = mid ∷ [];
      parts = (
        only_marked x mid begins.first refl refl refl,
        part_with IsMarked (IsBefore x) mid y (λ left has. inr has) (marked_part mid y (begins.there told) begins.others more),
      );
    }

pub clearing_leaves : {V : Type 0} (g : Ghosts V) (x y : DataAreas V) → IsSome (g.files x.data0) → HaveMarkSince g x y → AllGoOn (pasts_of g x) (pasts_of g y) → StopsLeave (λ left. AreLeftNow (pasts_of g x) left ⊎ Has rebuilding_name left.data0) (pasts_of g x) (pasts_of g y)
clearing_leaves g x y told begins on = begun_leaves (IsSome (g.files x.data0)) (pasts_of g x) (pasts_of g y) told begins on

pub uncleared_leaves : {V : Type 0} (g : Ghosts V) (x y : DataAreas V) → IsSome (g.files x.data0) → ClearedSoFar g x y → AllGoOn (pasts_of g x) (pasts_of g y) → StopsLeave (λ left. AreLeftNow (pasts_of g x) left ⊎ Has rebuilding_name left.data0) (pasts_of g x) (pasts_of g y)
uncleared_leaves g x y told (inl mark) on = one_part (IsBefore (pasts_of g x)) (pasts_of g x) (pasts_of g y) (only_marked (pasts_of g x) (pasts_of g y) mark.data0.marking (ap g.past mark.data1) (ap g.past mark.data2) (ap g.past mark.data3))
uncleared_leaves g x y told (inr begins) on = clearing_leaves g x y told begins on

-- ---- areas that are filled and made durable

-- the four have just the files of these pages
pub record AreWhole (relseg : ℕ) (pages : DataAreas Store) (left : DataAreas Files) : Type 0 where
  pub data0 : left.data0 ≡ files_of relseg pages.data0
  pub data1 : left.data1 ≡ files_of relseg pages.data1
  pub data2 : left.data2 ≡ files_of relseg pages.data2
  pub data3 : left.data3 ≡ files_of relseg pages.data3

-- the four hold these pages
pub record AllHold {V : Type 0} (g : Ghosts V) (relseg : ℕ) (areas : DataAreas V) (pages : DataAreas Store) : Type 0 where
  pub data0 : HoldsPages relseg (g.files areas.data0) pages.data0
  pub data1 : HoldsPages relseg (g.files areas.data1) pages.data1
  pub data2 : HoldsPages relseg (g.files areas.data2) pages.data2
  pub data3 : HoldsPages relseg (g.files areas.data3) pages.data3

abbrev pub IsMarkedOr : ℕ → DataAreas Store → DataAreas Files → Type 0
IsMarkedOr relseg pages left = Has rebuilding_name left.data0 ⊎ AreWhole relseg pages left

-- no store has a file of the mark's name
unmarked : (relseg : ℕ) (told : Option Files) (pages : Store) → 0 < relseg → IfSome told HasOnlyForksAndMark → HoldsPages relseg told pages → get (files_of relseg pages) rebuilding_name ≡ None
unmarked relseg told pages some only holds = none_of_mark relseg pages holds.files.files some (subst (λ (o : Option Files). IfSome o HasOnlyForksAndMark) holds.files.are_told only) holds.files.hold

-- the mark goes, while nothing happens to the others
last_part : (relseg : ℕ) (pages : DataAreas Store) (x y : DataAreas Past) → LeavesNow (AgreeBut IsMark (files_of relseg pages.data0)) x.data0 → Adds (IsAmong IsMark) x.data0 y.data0 → get (files_of relseg pages.data0) rebuilding_name ≡ None → y.data1 ≡ x.data1 → y.data2 ≡ x.data2 → y.data3 ≡ x.data3
    → LeavesNow (λ left. left ≡ files_of relseg pages.data1) x.data1 → LeavesNow (λ left. left ≡ files_of relseg pages.data2) x.data2 → LeavesNow (λ left. left ≡ files_of relseg pages.data3) x.data3 → PartLeaves (IsMarkedOr relseg pages) x y
last_part relseg pages x y kept last none e1 e2 e3 l1 l2 l3 = record {
  on = record { data0 = goes_on (IsAmong IsMark) x.data0 y.data0 last; data1 = stays x.data1 y.data1 e1; data2 = stays x.data2 y.data2 e2; data3 = stays x.data3 y.data3 e3 };
  stops = λ left there. go left there (marked_or_not left.data0);
}
  where
    go : (left : DataAreas Files) → AreLeftSince x y left → Has rebuilding_name left.data0 ⊎ (get left.data0 rebuilding_name ≡ None) → IsMarkedOr relseg pages left
    go left there (inl has) = inl has
    go left there (inr gone) = inr (record {
      data0 = same_unmarked (files_of relseg pages.data0) left.data0
          (by_kind (AgreeBut IsMark (files_of relseg pages.data0)) (IsAmong IsMark) x.data0 y.data0 left.data0 (agrees (files_of relseg pages.data0)) last kept there.data0) none gone;
      data1 = unmoved (λ m. m ≡ files_of relseg pages.data1) x.data1 y.data1 left.data1 e1 l1 there.data1;
      data2 = unmoved (λ m. m ≡ files_of relseg pages.data2) x.data2 y.data2 left.data2 e2 l2 there.data2;
      data3 = unmoved (λ m. m ≡ files_of relseg pages.data3) x.data3 y.data3 left.data3 e3 l3 there.data3;
    })

ended_leaves : (relseg : ℕ) (is : Store → Type 0) (pages : DataAreas Store) (x y : DataAreas Past) → LeavesNow (Has rebuilding_name) x.data0 → HasEnded relseg is x.data0 y.data0 → is pages.data0 → get (files_of relseg pages.data0) rebuilding_name ≡ None → AllGoOn x y
    → LeavesNow (λ left. left ≡ files_of relseg pages.data1) y.data1 → LeavesNow (λ left. left ≡ files_of relseg pages.data2) y.data2 → LeavesNow (λ left. left ≡ files_of relseg pages.data3) y.data3 → StopsLeave (IsMarkedOr relseg pages) x y
ended_leaves relseg is pages x y here ended held none on l1 l2 l3 =
    let mid : DataAreas Past = record { data0 = ended.filled; data1 = y.data1; data2 = y.data2; data3 = y.data3 } in
    let more : AllGoOn x mid = record { data0 = goes_on (IsAmong IsOther) x.data0 ended.filled ended.others; data1 = on.data1; data2 = on.data2; data3 = on.data3 } in
    record {
      ends = mid ∷ [];
      parts = (
        part_with IsMarked (IsMarkedOr relseg pages) x mid (λ left has. inl has) (marked_part x mid here ended.others more),
        last_part relseg pages mid y (ended.kept pages.data0 held) ended.last none refl refl refl l1 l2 l3,
      );
    }

left_files : (told : Option Files) (m : Files) (past : Past) → IsSome told → IfSome told (λ files. files ≡ m) → IfSome told (λ files. LeavesNow (λ left. left ≡ files) past) → LeavesNow (λ left. left ≡ m) past
left_files None m past some is left = absurd (true≢false (sym some))
left_files (Some files) m past some is left = subst (λ (f : Files). LeavesNow (λ left. left ≡ f) past) is left

told_by : (relseg : ℕ) (told : Option Files) (pages : Store) → HoldsPages relseg told pages → IsSome told
told_by relseg told pages holds = subst (λ (o : Option Files). IsSome o) (sym holds.files.are_told) refl

-- a partition's area
part_left : (relseg from faults : ℕ) (told : Option Files) (part : Part) (pages : Store) → HoldsPages relseg told pages → IsRebuilt relseg from faults told part → LeavesNow (λ left. left ≡ files_of relseg pages) part.past
part_left relseg from faults told part pages holds rebuilt =
    left_files part.disk (files_of relseg pages) part.past (rebuilt.tells ∙ told_by relseg told pages holds)
    (subst (λ (s : Store). IfSome part.disk (λ files. files ≡ files_of relseg s)) (rebuilt.frames pages holds) rebuilt.files) rebuilt.settled

area_left : {V : Type 0} (g : Ghosts V) (relseg : ℕ) (old new : V) (pages : Store) → HoldsPages relseg (g.files old) pages → HasFilesOf g relseg (HoldsPages relseg (g.files old)) old new → LeavesNow (λ left. left ≡ files_of relseg pages) (g.past new)
area_left g relseg old new pages holds has = left_files (g.files new) (files_of relseg pages) (g.past new) (has.tells ∙ told_by relseg (g.files old) pages holds) (has.files pages holds) has.settled

left_has : (P : Files → Type 0) (past : Past) (left : Files) → LeavesNow P past → LeftNow past left → P left
left_has P None left leaves there = absurd there
left_has P (Some events) left leaves there = leaves left there

-- after all was opened a stop leaves just the files of these pages
pub rebuilt_leaves : {V W : Type 0} (g : Ghosts V) (relseg from : ℕ) (areas : DataAreas V) (pages : DataAreas Store) (parts : Partitions W) → AllHold g relseg areas pages → AreRebuilt g relseg from areas parts
    → (left : DataAreas Files) → AreLeftNow (pasts_in parts) left → AreWhole relseg pages left
rebuilt_leaves {V} {W} g relseg from areas pages parts hold rebuilt left there =
    let is : Store → Files → Type 0 = λ s m. m ≡ files_of relseg s in
    record {
      data0 = left_has (is pages.data0) parts.part0.past left.data0 (part_left relseg from (g.faults areas.data0) (g.files areas.data0) parts.part0 pages.data0 hold.data0 rebuilt.part0) there.data0;
      data1 = left_has (is pages.data1) parts.part1.past left.data1 (part_left relseg from (g.faults areas.data1) (g.files areas.data1) parts.part1 pages.data1 hold.data1 rebuilt.part1) there.data1;
      data2 = left_has (is pages.data2) parts.part2.past left.data2 (part_left relseg from (g.faults areas.data2) (g.files areas.data2) parts.part2 pages.data2 hold.data2 rebuilt.part2) there.data2;
      data3 = left_has (is pages.data3) parts.part3.past left.data3 (part_left relseg from (g.faults areas.data3) (g.files areas.data3) parts.part3 pages.data3 hold.data3 rebuilt.part3) there.data3;
    }

module _ {V : Type 0} (g : Ghosts V) (relseg : ℕ) (areas : DataAreas V) (pages : DataAreas Store) (some : 0 < relseg) (only : IfSome (g.files areas.data0) HasOnlyForksAndMark) (hold : AllHold g relseg areas pages) (here : LeavesNow (Has rebuilding_name) (g.past areas.data0)) where
  pub settling_leaves : {W : Type 0} (from : ℕ) (parts : Partitions W) → AreRebuilt g relseg from areas parts → HaveEnded g relseg areas parts.part0.past → AllGoOn (pasts_of g areas) (pasts_in parts)
      → StopsLeave (λ left. Has rebuilding_name left.data0 ⊎ AreWhole relseg pages left) (pasts_of g areas) (pasts_in parts)
  settling_leaves from parts rebuilt ended on =
      ended_leaves relseg (HoldsPages relseg (g.files areas.data0)) pages (pasts_of g areas) (pasts_in parts) here ended hold.data0 (unmarked relseg (g.files areas.data0) pages.data0 some only hold.data0) on
      (part_left relseg from (g.faults areas.data1) (g.files areas.data1) parts.part1 pages.data1 hold.data1 rebuilt.part1)
      (part_left relseg from (g.faults areas.data2) (g.files areas.data2) parts.part2 pages.data2 hold.data2 rebuilt.part2)
      (part_left relseg from (g.faults areas.data3) (g.files areas.data3) parts.part3 pages.data3 hold.data3 rebuilt.part3)

  pub unsettled_leaves : (new : DataAreas V) → SettledSoFar g relseg (held_by g relseg areas) areas new → AllGoOn (pasts_of g areas) (pasts_of g new)
      → StopsLeave (λ left. Has rebuilding_name left.data0 ⊎ AreWhole relseg pages left) (pasts_of g areas) (pasts_of g new)
  unsettled_leaves new (inl others) on = stops_with IsMarked (IsMarkedOr relseg pages) (pasts_of g areas) (pasts_of g new) (λ left has. inl has) (filling_leaves (pasts_of g areas) (pasts_of g new) here others on)
  unsettled_leaves new (inr done) on =
      ended_leaves relseg (HoldsPages relseg (g.files areas.data0)) pages (pasts_of g areas) (pasts_of g new) here done.1 hold.data0 (unmarked relseg (g.files areas.data0) pages.data0 some only hold.data0) on
      (area_left g relseg areas.data1 new.data1 pages.data1 hold.data1 done.0.data1)
      (area_left g relseg areas.data2 new.data2 pages.data2 hold.data2 done.0.data2)
      (area_left g relseg areas.data3 new.data3 pages.data3 hold.data3 done.0.data3)
