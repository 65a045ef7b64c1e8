-- A store with its workers: what was found is begun, run on and closed.
use Rattle.std.proofs.Common.{◌≡◌, ℕ, zero, suc, ◌+◌, ◌<◌, ◌≤◌, true, List, [], ◌∷◌, ◌++◌, map, max, length, length-append, get_or, append-nil, Option, Some, Result, Ok, Err, refl, sym, ap, subst, ◌∙◌, arith, inl, inr}
use Rattle.std.specs.List.{AllByRecursion, slice_get, sum_by}
use Rattle.std.specs.Prelude.{is_some, slice_set}
use Rattle.std.proofs.Math.Nat.{eq-or-lt_of_le}
use mathlib.Core.List.{IsPrefix}
use Rattle.timeline.proofs.Prefixes.{prefix_refl, prefix_trans}
use Rattle.lsn_core.specs.Files.{Files}
use Rattle.lsn_core.specs.declared.lsn.Lsn.{Lsn}
use Rattle.lsn_core.specs.declared.fault.StoreFault.{StoreFault}
use Rattle.history.specs.Entry.{Entry}
use Rattle.vault.specs.declared.lending.Held.{Held}
use Rattle.vault.specs.declared.area.Vault.{Ghosts as Vaults}
use Rattle.store_ledgers.specs.declared.blanks.Blanks.{Blanks}
use Rattle.store_areas.specs.declared.areas.StoreAreas.{StoreAreas}
use Rattle.store_areas.specs.declared.found.Found.{Found}
use Rattle.store_faults.specs.declared.begin_why.BeginWhy.{BeginWhy}
use Rattle.store_locks.specs.Seen.{Seen}
use Rattle.store_areas.specs.Opened.{Faults, NoneFell}
use Rattle.store_locks.specs.Locked.{AreNumbered, HasRisen, WalStart}
use Rattle.store_locks.specs.Seen.{fresh_pass}
use Rattle.store_lifecycle.specs.Starts.{AreNamed, AreStarts, fresh_passes}
use Rattle.store_areas.specs.Begin.{IsBegun, faults_of, shown_of}
use Rattle.store_lifecycle.specs.Close.{IsClosed}
use Rattle.shared_summaries.specs.Shelf.{AreShelved}
use Rattle.shared_summaries.specs.summary_publish.Published.{LooksOn}
use Rattle.scripts.specs.declared.script.Task.{Task}
use Rattle.crew.specs.Run.{Basis}
use Rattle.run_answers.specs.declared.told.Told.{Told}
use Rattle.run_answers.specs.declared.outcome.RunReport.{RunReport}
use Rattle.run_command.specs.Inner.{AreFresh, AreLast, HasParts, HasRunTo, HasRunOn, IsLaterPass, Part, RunsCrew, RunsPart, RunsShared, EndsRun, RunsOn, HaveParts, basis_found, entries_named, faults_named, starts_of, tell_found, wal_start}

-- ---- the names

pub are_named : (passes : ℕ) (blanks : Blanks) → HaveParts passes blanks → AreNamed (entries_named blanks) (faults_named blanks) blanks.made.name passes blanks
are_named passes blanks parts = record {
  entries0 = (refl, parts.entries.0);
  entries1 = (refl, parts.entries.1);
  entries2 = (refl, parts.entries.2);
  entries3 = (refl, parts.entries.3);
  made_are = (refl, parts.made);
  data0 = (refl, parts.faults.0);
  data1 = (refl, parts.faults.1);
  data2 = (refl, parts.faults.2);
  data3 = (refl, parts.faults.3);
  wal = (refl, parts.faults.4);
  sums = (refl, parts.faults.5);
}

pub are_starts : {V : Type 0} (g : Vaults V) (found : Found V) (sums : V) → AreStarts g (starts_of g found sums) (wal_start g found) found
are_starts g found sums = record { data0 = refl; data1 = refl; data2 = refl; data3 = refl; wal = refl; from_is = refl }

-- ---- the passes of a crew

pub length_fresh : (n : ℕ) (found : List Entry) → length (fresh_passes n found) ≡ n
length_fresh zero found = refl
length_fresh (suc n) found = omega (arith, length-append (fresh_passes n found) (fresh_pass n found ∷ []), length_fresh n found)

get_front : {A : Type 0} (xs ys : List A) (i : ℕ) → i < length xs → slice_get (xs ++ ys) i ≡ slice_get xs i
get_front [] ys i lt = absurd (omega (arith, lt))
get_front (x ∷ xs) ys zero lt = refl
get_front (x ∷ xs) ys (suc i) lt = get_front xs ys i (omega (arith, lt))

get_last : {A : Type 0} (xs : List A) (y : A) (i : ℕ) → i ≡ length xs → slice_get (xs ++ y ∷ []) i ≡ Some y
get_last [] y zero is = refl
get_last [] y (suc i) is = absurd (omega (arith, is))
get_last (x ∷ xs) y zero is = absurd (omega (arith, is))
get_last (x ∷ xs) y (suc i) is = get_last xs y i (omega (arith, is))

pub fresh_at : (n : ℕ) (found : List Entry) (i : ℕ) → i < n → slice_get (fresh_passes n found) i ≡ Some (fresh_pass i found)
fresh_at zero found i lt = absurd (omega (arith, lt))
fresh_at (suc n) found i lt =
    let all : length (fresh_passes n found) ≡ n = length_fresh n found in
    let le : i ≤ n = omega (arith, lt) in
    elim (eq-or-lt_of_le le) [
      | inl is ↦ get_last (fresh_passes n found) (fresh_pass n found) i (is ∙ sym all) ∙ ap (λ (w : ℕ). Some (fresh_pass w found)) (sym is)
      | inr less ↦ get_front (fresh_passes n found) (fresh_pass n found ∷ []) i (omega (arith, less, all)) ∙ fresh_at n found i less
    ]

-- an element of a list that another one is made of
get_map : {A B : Type 0} (f : A → B) (xs : List A) (i : ℕ) (x : A) → slice_get xs i ≡ Some x → slice_get (map f xs) i ≡ Some (f x)
get_map f [] i x e = absurd cc
get_map f (y ∷ xs) zero x e =
    let same : y ≡ x = cc in
    ap (λ z. Some (f z)) same
get_map f (y ∷ xs) (suc i) x e = get_map f xs i x e

map_get : {A B : Type 0} (f : A → B) (xs : List A) (i : ℕ) (y : B) → slice_get (map f xs) i ≡ Some y → (x : A) × (slice_get xs i ≡ Some x) × (f x ≡ y)
map_get f [] i y e = absurd cc
map_get f (x ∷ xs) zero y e =
    let same : f x ≡ y = cc in
    (x, refl, same)
map_get f (x ∷ xs) (suc i) y e = map_get f xs i y e

some_same : {A : Type 0} (x y : A) → Some x ≡ Some y → x ≡ y
some_same x y e = cc

pub all_at : {A : Type 0} (P : A → Type 0) (xs : List A) (i : ℕ) (x : A) → AllByRecursion P xs → slice_get xs i ≡ Some x → P x
all_at P [] i x all e = absurd cc
all_at P (y ∷ xs) zero x all e =
    let same : y ≡ x = cc in
    subst P same all.0
all_at P (y ∷ xs) (suc i) x all e = all_at P xs i x all.1 e

get_less : {A : Type 0} (xs : List A) (i : ℕ) (x : A) → slice_get xs i ≡ Some x → i < length xs
get_less [] i x e = absurd cc
get_less (y ∷ xs) zero x e = omega arith
get_less (y ∷ xs) (suc i) x e = omega (arith, get_less xs i x e)

-- the part of a worker that was told this
pub part_at : {V : Type 0} (g : Vaults V) (tells : Type 0) (b : Basis) (parts : List (Part V)) (held kept : List (Held V)) (told : List Told) (worker : ℕ) (t : Told) → HasParts g tells b parts held kept told → slice_get told worker ≡ Some t
    → (part : Part V) × (slice_get parts worker ≡ Some part) × (part.told ≡ t)
part_at g tells b parts held kept told worker t has there = map_get (λ part. part.told) parts worker t (subst (λ (ts : List Told). slice_get ts worker ≡ Some t) has.told_are there)

-- its pass had seen what was found
pub from_at : {V : Type 0} (found : List Entry) (parts : List (Part V)) (worker : ℕ) (part : Part V) → AreFresh found parts → slice_get parts worker ≡ Some part → part.from ≡ fresh_pass worker found
from_at found parts worker part fresh there =
    some_same part.from (fresh_pass worker found)
    (sym (get_map (λ p. p.from) parts worker part there)
    ∙ (ap (λ (ps : List Seen). slice_get ps worker) fresh ∙ fresh_at (length parts) found worker (get_less parts worker part there)))

later_same : (p : Seen) → IsLaterPass p p
later_same p = record { stays = record { seen = prefix_refl p.list; worker = refl }; accepted = refl; marks = refl; faults = refl }

-- and is later the pass of its number
pub last_at : {V : Type 0} (found : List Entry) (parts : List (Part V)) (first : Seen) (rest : List Seen) (worker : ℕ) (part : Part V) → AreLast found parts first rest → slice_get parts worker ≡ Some part
    → (last : Seen) × (slice_get (first ∷ rest) worker ≡ Some last) × IsLaterPass part.to last
last_at found [] first rest worker part last there = absurd cc
last_at found (p ∷ parts) first rest zero part last there =
    let same : p ≡ part = cc in
    (first, refl, subst (λ (q : Part _). IsLaterPass q.to first) same last.0)
last_at found (p ∷ parts) first rest (suc worker) part last there =
    (part.to, ap (λ (ps : List Seen). slice_get ps worker) last.1 ∙ get_map (λ q. q.to) parts worker part there, later_same part.to)

-- what all have seen begins with what was found
pub found_seen : {V : Type 0} (g : Vaults V) (tells : Type 0) (b : Basis) (parts : List (Part V)) (first : Seen) (rest : List Seen) → AllByRecursion (RunsPart g tells b) parts → AreFresh b.found parts → AreLast b.found parts first rest → IsPrefix b.found first.list
found_seen g tells b [] first rest ran fresh last = last.0.stays.seen
found_seen g tells b (part ∷ parts) first rest ran fresh last =
    let from : part.from ≡ fresh_pass 0 b.found = from_at b.found (part ∷ parts) 0 part fresh refl in
    prefix_trans b.found part.to.list first.list (subst (λ (p : Seen). IsPrefix p.list part.to.list) from ran.0.run.stays.seen) last.0.stays.seen

-- ---- the numbers of the passes

numbered_from : (k : ℕ) (passes : List Seen) → ((i : ℕ) (p : Seen) → slice_get passes i ≡ Some p → p.worker ≡ k + i) → AreNumbered (λ (p : Seen). p.worker) k passes
numbered_from k [] all = tt
numbered_from k (p ∷ passes) all =
    (omega (arith, all zero p refl), numbered_from (k + 1) passes (λ i q there. omega (arith, all (suc i) q there)))

its_number : {V : Type 0} (g : Vaults V) (tells : Type 0) (b : Basis) (parts : List (Part V)) (worker : ℕ) (part : Part V) → AllByRecursion (RunsPart g tells b) parts → AreFresh b.found parts → slice_get parts worker ≡ Some part → part.to.worker ≡ worker
its_number g tells b parts worker part ran fresh there =
    (all_at (RunsPart g tells b) parts worker part ran there).run.stays.worker ∙ ap (λ (p : Seen). p.worker) (from_at b.found parts worker part fresh there)

number_at : {V : Type 0} (g : Vaults V) (tells : Type 0) (b : Basis) (parts : List (Part V)) (first : Seen) (rest : List Seen) → AllByRecursion (RunsPart g tells b) parts → AreFresh b.found parts → AreLast b.found parts first rest
    → (i : ℕ) (p : Seen) → slice_get (first ∷ rest) i ≡ Some p → p.worker ≡ i
number_at g tells b [] first rest ran fresh last zero p there =
    let same : first ≡ p = cc in
    ap (λ (q : Seen). q.worker) (sym same) ∙ last.0.stays.worker
number_at g tells b [] first rest ran fresh last (suc i) p there =
    let none : slice_get {X = Seen} [] i ≡ Some p = ap (λ (ps : List Seen). slice_get ps i) (sym last.1) ∙ there in
    absurd cc
number_at g tells b (part ∷ parts) first rest ran fresh last zero p there =
    let same : first ≡ p = cc in
    ap (λ (q : Seen). q.worker) (sym same) ∙ (last.0.stays.worker ∙ its_number g tells b (part ∷ parts) 0 part ran fresh refl)
number_at g tells b (part ∷ parts) first rest ran fresh last (suc i) p there =
    let it = map_get (λ q. q.to) parts i p (ap (λ (ps : List Seen). slice_get ps i) (sym last.1) ∙ there) in
    ap (λ (q : Seen). q.worker) (sym it.2) ∙ its_number g tells b (part ∷ parts) (suc i) it.0 ran fresh it.1

pub numbered : {V : Type 0} (g : Vaults V) (tells : Type 0) (b : Basis) (start : ℕ) (passes : List Seen) (sums : V) (booked : ℕ) (held kept : List (Held V)) (told : List Told) → RunsShared g tells b start passes sums booked held kept told → AreNumbered (λ (p : Seen). p.worker) 0 passes
numbered g tells b start passes sums booked held kept told ran =
    subst (λ (ps : List Seen). AreNumbered (λ (p : Seen). p.worker) 0 ps) (sym ran.passes_are)
    (numbered_from 0 (ran.first ∷ ran.rest) (λ i p there. omega (arith, number_at g tells b ran.to.parts ran.first ran.rest ran.to.has.ran ran.to.fresh ran.to.last i p there)))

-- ---- how many there are

pub length_map : {A B : Type 0} (f : A → B) (xs : List A) → length (map f xs) ≡ length xs
length_map f [] = refl
length_map f (x ∷ xs) = ap suc (length_map f xs)

pub length_told : {V : Type 0} (g : Vaults V) (tells : Type 0) (b : Basis) (parts : List (Part V)) (held kept : List (Held V)) (told : List Told) → HasParts g tells b parts held kept told → length parts ≡ length told
length_told g tells b parts held kept told has = sym (ap (λ (ts : List Told). length ts) has.told_are ∙ length_map (λ part. part.told) parts)

length_last : {V : Type 0} (found : List Entry) (parts : List (Part V)) (first : Seen) (rest : List Seen) → AreLast found parts first rest → length (first ∷ rest) ≡ max (length parts) 1
length_last found [] first rest last = ap (λ (ps : List Seen). suc (length ps)) last.1
length_last found (part ∷ parts) first rest last =
    let many : length rest ≡ length parts = ap (λ (ps : List Seen). length ps) last.1 ∙ length_map (λ p. p.to) parts in
    omega (arith, many)

pub passes_many : {V : Type 0} (g : Vaults V) (tells : Type 0) (b : Basis) (start : ℕ) (passes : List Seen) (sums : V) (booked : ℕ) (held kept : List (Held V)) (told : List Told) → RunsShared g tells b start passes sums booked held kept told → length passes ≡ max (length told) 1
passes_many g tells b start passes sums booked held kept told ran =
    ap (λ (ps : List Seen). length ps) ran.passes_are
    ∙ (length_last b.found ran.to.parts ran.first ran.rest ran.to.last ∙ ap (λ (n : ℕ). max n 1) (length_told g tells b ran.to.parts held kept told ran.to.has))

-- ---- the first pass learns of the summaries

first_set : (now : List Seen) (last first : Seen) (more : List Seen) → slice_set now 0 last ≡ first ∷ more → ◌≡◌ {A = Option Seen} (Some first) (Some last)
first_set [] last first more e = absurd cc
first_set (p ∷ now) last first more e =
    let same : last ≡ first = cc in
    ap (λ (q : Seen). Some q) (sym same)

looked : (old new : Seen) → LooksOn old new → new.faults ≡ old.faults → IsLaterPass old new
looked old new looks faults = record { stays = record { seen = looks.seen; worker = looks.worker }; accepted = looks.accepted; marks = looks.marks; faults = faults }

-- no pass is over where there are workers
none_over : (rest froms : List Seen) (n : ℕ) → length (rest ++ froms) ≡ max n 1 → length froms ≡ n → 1 ≤ n → rest ≡ []
none_over [] froms n all many some = refl
none_over (p ∷ rest) froms n all many some = absurd (omega (arith, length-append rest froms, all, many, some))

none_back : {A : Type 0} (xs : List A) → xs ++ [] ≡ xs
none_back xs = append-nil xs

ends : {V : Type 0} (found : List Entry) (parts : List (Part V)) (passes now rest : List Seen) (was last : Seen) → passes ≡ fresh_passes (max (length parts) 1) found → passes ≡ rest ++ map (λ p. p.from) parts → now ≡ rest ++ map (λ p. p.to) parts
    → was ≡ get_or now 0 was → IsLaterPass was last → (first : Seen) × (more : List Seen) × (slice_set now 0 last ≡ first ∷ more) × AreFresh found parts × AreLast found parts first more
ends found [] passes now rest was last fresh before behind is later =
    let only : rest ≡ fresh_pass 0 found ∷ [] = sym (none_back rest) ∙ (sym before ∙ fresh) in
    let same : now ≡ fresh_pass 0 found ∷ [] = behind ∙ (none_back rest ∙ only) in
    let first : was ≡ fresh_pass 0 found = is ∙ ap (λ (ps : List Seen). get_or ps 0 was) same in
    (last, [], ap (λ (ps : List Seen). slice_set ps 0 last) same, refl, (subst (λ (p : Seen). IsLaterPass p last) first later, refl))
ends found (part ∷ parts) passes now rest was last fresh before behind is later =
    let all : length (rest ++ map (λ p. p.from) (part ∷ parts)) ≡ max (length (part ∷ parts)) 1 = ap (λ (ps : List Seen). length ps) (sym before ∙ fresh) ∙ length_fresh (max (length (part ∷ parts)) 1) found in
    let none : rest ≡ [] = none_over rest (map (λ p. p.from) (part ∷ parts)) (length (part ∷ parts)) all (length_map (λ p. p.from) (part ∷ parts)) (omega arith) in
    let same : now ≡ part.to ∷ map (λ p. p.to) parts = behind ∙ ap (λ (ps : List Seen). ps ++ map (λ p. p.to) (part ∷ parts)) none in
    let froms : map (λ p. p.from) (part ∷ parts) ≡ fresh_passes (max (length (part ∷ parts)) 1) found = sym (before ∙ ap (λ (ps : List Seen). ps ++ map (λ p. p.from) (part ∷ parts)) none) ∙ fresh in
    let many : max (length (part ∷ parts)) 1 ≡ length (part ∷ parts) = omega arith in
    let first : was ≡ part.to = is ∙ ap (λ (ps : List Seen). get_or ps 0 was) same in
    (last, map (λ p. p.to) parts, ap (λ (ps : List Seen). slice_set ps 0 last) same, froms ∙ ap (λ (n : ℕ). fresh_passes n found) many, (subst (λ (p : Seen). IsLaterPass p last) first later, refl))

pub shared : {V : Type 0} (g : Vaults V) (tells : Type 0) (b : Basis) (start : ℕ) (passes now : List Seen) (was last : Seen) (sums : V) (booked : ℕ) (held kept : List (Held V)) (told : List Told) → RunsCrew g tells b passes now held kept told → passes ≡ fresh_passes (max (length told) 1) b.found
    → was ≡ get_or now 0 was → LooksOn was last → last.faults ≡ was.faults → AreShelved tells b.found b.sums last.list (g.files sums) → HasRisen start booked (g.faults sums)
    → RunsShared g tells b start (slice_set now 0 last) sums booked held kept told
shared g tells b start passes now was last sums booked held kept told ran fresh is looks faults shelved risen =
    let many : length told ≡ length ran.parts = sym (length_told g tells b ran.parts held kept told ran.has) in
    let end = ends b.found ran.parts passes now ran.rest was last (fresh ∙ ap (λ (n : ℕ). fresh_passes (max n 1) b.found) many) ran.before ran.behind is (looked was last looks faults) in
    let first_is : last ≡ end.0 = some_same last end.0 (sym (first_set now last end.0 end.1 end.2)) in
    record {
      first = end.0;
      rest = end.1;
      passes_are = end.2;
      to = record {
        parts = ran.parts;
        has = ran.has;
        fresh = end.3;
        last = end.4;
        shelved = subst (λ (p : Seen). AreShelved tells b.found b.sums p.list (g.files sums)) first_is shelved;
        risen = risen;
      };
    }

-- ---- the store is closed

pub has_run_on : {V : Type 0} (g : Vaults V) (tells : Type 0) (b : Basis) (from : WalStart) (starts : ℕ → ℕ) (passes : List Seen) (new : StoreAreas V) (sums : V) (booked after : ℕ) (held kept : List (Held V)) (told : List Told) (closed : Result Lsn StoreFault)
    → RunsShared g tells b (starts 5) passes sums booked held kept told → after ≡ booked → after ≡ sum_by (λ (p : Seen). p.faults.sums) passes → IsClosed g tells b.settings b.found from starts passes new closed → HasRunOn g tells b from starts new sums held kept told closed
has_run_on g tells b from starts passes new sums booked after held kept told closed ran same all closes =
    let is : booked ≡ sum_by (λ (p : Seen). p.faults.sums) (ran.first ∷ ran.rest) = sym same ∙ (all ∙ ap (λ (ps : List Seen). sum_by (λ (p : Seen). p.faults.sums) ps) ran.passes_are) in
    record {
      first = ran.first;
      rest = ran.rest;
      ran = subst (λ (n : ℕ). HasRunTo g tells b (starts 5) ran.first ran.rest sums n held kept told) is ran.to;
      closes = subst (λ (ps : List Seen). IsClosed g tells b.settings b.found from starts ps new closed) ran.passes_are closes;
    }

-- ---- from the areas that it was found on

pub ends_on : {V : Type 0} (g : Vaults V) (when limit : ℕ) (a b : StoreAreas V) (before sums : V) (held kept : List (Held V)) (found : Found V) (r : Result RunReport BeginWhy) → IsBegun g a (shown_of g found) found.tip
    → EndsRun g (tell_found g found ≡ true) (basis_found g found before when limit) (wal_start g found) (starts_of g found before) found before b sums held kept r → RunsOn g when limit a b before sums held kept r
ends_on g when limit a b before sums held kept found (Ok report) begins ran = record {
  found = found;
  begins = begins;
  opened = ran.0;
  runs = subst (λ (o : Option Files). HasRunOn g (is_some o ≡ true) (basis_found g found before when limit) (wal_start g found) (starts_of g found before) b sums held kept report.told report.closed) begins.has.wal ran.1;
}
ends_on g when limit a b before sums held kept found (Err why) begins un = (
  record {
    wal = ap (λ v. g.files v) un.1.wal ∙ begins.has.wal;
    later = subst (λ (f : Faults). NoneFell (faults_of g a) f) (sym un.1.faults) begins.later;
    cause = inr un.0;
  },
  un.2,
  un.3,
)

-- the same run, of an area on the heap
pub areas_on : {V : Type 0} (g : Vaults V) (when limit : ℕ) (a b : StoreAreas V) (before boxed sums : V) (held kept : List (Held V)) (r : Result RunReport BeginWhy) → boxed ≡ before → RunsOn g when limit a b boxed sums held kept r → RunsOn g when limit a b before sums held kept r
areas_on g when limit a b before boxed sums held kept r is ran = subst (λ v. RunsOn g when limit a b v sums held kept r) is ran

-- ---- a pass that is lent

pub set_same : (passes : List Seen) (p : Seen) → 0 < length passes → p ≡ get_or passes 0 p → slice_set passes 0 p ≡ passes
set_same [] p lt here = absurd (omega (arith, lt))
set_same (q ∷ passes) p lt here = ap (λ (x : Seen). x ∷ passes) here

pub set_length : (passes : List Seen) (p : Seen) → length (slice_set passes 0 p) ≡ length passes
set_length [] p = refl
set_length (q ∷ passes) p = refl

-- as many are told as have tasks
pub told_many : {A B : Type 0} (f : A → Task) (h : B → Task) (xs : List A) (ys : List B) → map f xs ≡ map h ys → length xs ≡ length ys
told_many f h xs ys same = sym (length_map f xs) ∙ (ap (λ (ts : List Task). length ts) same ∙ length_map h ys)
