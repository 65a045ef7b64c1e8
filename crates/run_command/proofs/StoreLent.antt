-- The areas of a store that a run took from a site and gave back.
use Rattle.std.proofs.Common.{◌≡◌, ℕ, zero, suc, ◌<◌, ◌≤◌, true, false, List, [], ◌∷◌, ◌++◌, length, length-append, append-nil, take, drop, Option, IsSome, refl, sym, ap, subst, ◌∙◌, ◌⊎◌, arith, inl, inr, ⊎_elim}
use Rattle.std.specs.Prelude.{◌==◌}
use Rattle.std.proofs.lemmas.Bool.Decides.{eqb_tells}
use Rattle.std.specs.Option.{is_some}
use Rattle.std.proofs.lemmas.List.{take_all, drop_all}
use Rattle.lsn_core.specs.Causes.{Rose}
use Rattle.lsn_core.specs.Files.{Files}
use Rattle.lsn_core.specs.declared.fault.StoreArea.{StoreArea}
use Rattle.lsn_core.specs.declared.fault.StoreArea.TheVariants.{Wal, Data, Sums}
use Rattle.lsn_core.specs.declared.fault.StoreFault.TheVariants as store
use Rattle.vault.specs.declared.area.Vault.{Ghosts as Vaults}
use Rattle.vault.specs.Frame.{IsDurable}
use Rattle.vault.specs.declared.site.Site.{Ghosts as Sites}
use Rattle.vault.specs.declared.lending.Held.{Held}
use Rattle.vault.specs.declared.lending.TakeFault.{TakeFault}
use Rattle.vault.specs.Site.{Areas, AreaState, AllHome, state_in}
use Rattle.vault.specs.Lending.{Names, IsOneOf, IsNoneOf, names_of, AreAreasOf, AreOut, AreLater, WritesAmong, AreTaken, NoneTaken, TakeCause, GivesBack}
use Rattle.vault.proofs.SetAreas.{set_at-same, set_at-other, same_or_not}
use Rattle.vault.proofs.LentAreas.{one_or_none, lent, areas_named, later_named, out_front, out_later, gives_more}
use Rattle.store_areas.specs.declared.areas.StoreAreas.{StoreAreas}
use Rattle.store_areas.specs.Begin.{faults_of}
use Rattle.store_lifecycle.specs.Close.{AreDurable}
use Rattle.store_areas.specs.Begin.{data_area}
use Rattle.store_areas.specs.Opened.{Faults, NoneFell, count_of, data_count}
use Rattle.run_command.specs.declared.lending.StoreNames.{StoreNames}
use Rattle.command_base.specs.Areas.{wal_name, data_name, sums_name, AreaIsDurable}
use Rattle.scripts.specs.declared.script.Task.{Task}
use Rattle.crew.specs.Backups.{areas_of}
use Rattle.run_command.specs.Run.{store_asks, backups_asked, run_asks, AreTold, AreAsAt, StoreFails}
use Rattle.run_command.specs.Inner.{held_of, tell, AreEachOnce, AreAsked}
use Rattle.run_command.proofs.ToldLess.{one_front, one_back}

-- ---- the areas of a store at a site

-- the areas that a store has are those of a site by their names
pub record AreAt {V : Type 0} (g : Vaults V) (areas : Areas) (are : StoreAreas V) : Type 0 where
  pub wal : areas wal_name ≡ state_in g are.wal
  pub data0 : areas (data_name 0) ≡ state_in g are.data0
  pub data1 : areas (data_name 1) ≡ state_in g are.data1
  pub data2 : areas (data_name 2) ≡ state_in g are.data2
  pub data3 : areas (data_name 3) ≡ state_in g are.data3

files_at : {V : Type 0} (g : Vaults V) (x : AreaState) (area : V) → x ≡ state_in g area → x.files ≡ g.files area
files_at g x area is = ap (λ (s : AreaState). s.files) is

faults_at : {V : Type 0} (g : Vaults V) (x : AreaState) (area : V) → x ≡ state_in g area → x.faults ≡ g.faults area
faults_at g x area is = ap (λ (s : AreaState). s.faults) is

pub wal_files : {V : Type 0} (g : Vaults V) (areas : Areas) (are : StoreAreas V) → AreAt g areas are → (areas wal_name).files ≡ g.files are.wal
wal_files g areas are at = files_at g (areas wal_name) are.wal at.wal

pub wal_faults : {V : Type 0} (g : Vaults V) (areas : Areas) (are : StoreAreas V) → AreAt g areas are → (areas wal_name).faults ≡ g.faults are.wal
wal_faults g areas are at = faults_at g (areas wal_name) are.wal at.wal

pub data_files : {V : Type 0} (g : Vaults V) (areas : Areas) (are : StoreAreas V) → AreAt g areas are → (q : ℕ) → q < 4 → (areas (data_name q)).files ≡ g.files (data_area are q)
data_files g areas are at zero lt = files_at g (areas (data_name 0)) are.data0 at.data0
data_files g areas are at (suc zero) lt = files_at g (areas (data_name 1)) are.data1 at.data1
data_files g areas are at (suc (suc zero)) lt = files_at g (areas (data_name 2)) are.data2 at.data2
data_files g areas are at (suc (suc (suc zero))) lt = files_at g (areas (data_name 3)) are.data3 at.data3
data_files g areas are at (suc (suc (suc (suc q)))) lt = absurd (omega arith)

-- ---- which are durable

durable_at : {V : Type 0} (g : Vaults V) (areas : Areas) (name asked : List ℕ) (area : V) → name ≡ asked → areas asked ≡ state_in g area → IsDurable (g.files area) (g.past area) → AreaIsDurable (areas name)
durable_at g areas name asked area same at durable = subst (λ (n : List ℕ). AreaIsDurable (areas n)) (sym same) (subst AreaIsDurable (sym at) durable)

pub all_durable : {V : Type 0} (g : Vaults V) (areas : Areas) (are : StoreAreas V) → AreAt g areas are → AreDurable g are → (name : List ℕ) → IsOneOf name store_asks → AreaIsDurable (areas name)
all_durable g areas are at durable name (inl is) = durable_at g areas name wal_name are.wal is at.wal durable.wal
all_durable g areas are at durable name (inr (inl is)) = durable_at g areas name (data_name 0) are.data0 is at.data0 (durable.parts 0 (omega arith))
all_durable g areas are at durable name (inr (inr (inl is))) = durable_at g areas name (data_name 1) are.data1 is at.data1 (durable.parts 1 (omega arith))
all_durable g areas are at durable name (inr (inr (inr (inl is)))) = durable_at g areas name (data_name 2) are.data2 is at.data2 (durable.parts 2 (omega arith))
all_durable g areas are at durable name (inr (inr (inr (inr (inl is))))) = durable_at g areas name (data_name 3) are.data3 is at.data3 (durable.parts 3 (omega arith))
all_durable g areas are at durable name (inr (inr (inr (inr (inr never))))) = absurd never

-- ---- which tell their files

some_here : (a b : Option Files) → a ≡ b → IsSome a → is_some b ≡ true
some_here a b is some = subst (λ (o : Option Files). is_some o ≡ true) is some

pub tell_told : {V : Type 0} (g : Vaults V) (areas : Areas) (are : StoreAreas V) → AreAt g areas are → AreTold areas → tell g are ≡ true
tell_told g areas are at told = some_here (areas wal_name).files (g.files are.wal) (files_at g (areas wal_name) are.wal at.wal) (told wal_name (inl refl))

-- ---- counts of faults

pub none_fell : (old mid new : Faults) → NoneFell old mid → NoneFell mid new → NoneFell old new
none_fell old mid new first second = λ area. omega (arith, first area, second area)

-- there is no data area of number 4 or more
pub other : (a b : ℕ) → b < a → a == b ≡ false
other a b less = ⊎_elim (λ x. absurd (omega (arith, x.1, less))) (λ x. x.0) (eqb_tells a b)

pub none_counted : (q : ℕ) (f : Faults) → 4 ≤ q → data_count q f ≡ 0
none_counted q f le =
    let zero : q == 0 ≡ false = other q 0 (omega arith) in
    let one : q == 1 ≡ false = other q 1 (omega arith) in
    let two : q == 2 ≡ false = other q 2 (omega arith) in
    let three : q == 3 ≡ false = other q 3 (omega arith) in
    rw (zero, one, two, three) refl

-- the count of an area of a store that rose is that of the site's area
pub rose_at : {V : Type 0} (g : Vaults V) (old new : Areas) (are now : StoreAreas V) → AreAt g old are → AreAt g new now → (area : StoreArea) → Rose (count_of area (faults_of g are)) (count_of area (faults_of g now)) → StoreFails old new (store.Failed area)
rose_at g old new are now was at Wal rose =
    omega (arith, rose, faults_at g (old wal_name) are.wal was.wal, faults_at g (new wal_name) now.wal at.wal)
rose_at g old new are now was at Sums rose = absurd (omega (arith, rose))
rose_at g old new are now was at (Data zero) rose =
    omega (arith, rose, faults_at g (old (data_name 0)) are.data0 was.data0, faults_at g (new (data_name 0)) now.data0 at.data0)
rose_at g old new are now was at (Data (suc zero)) rose =
    omega (arith, rose, faults_at g (old (data_name 1)) are.data1 was.data1, faults_at g (new (data_name 1)) now.data1 at.data1)
rose_at g old new are now was at (Data (suc (suc zero))) rose =
    omega (arith, rose, faults_at g (old (data_name 2)) are.data2 was.data2, faults_at g (new (data_name 2)) now.data2 at.data2)
rose_at g old new are now was at (Data (suc (suc (suc zero)))) rose =
    omega (arith, rose, faults_at g (old (data_name 3)) are.data3 was.data3, faults_at g (new (data_name 3)) now.data3 at.data3)
rose_at g old new are now was at (Data (suc (suc (suc (suc q))))) rose = absurd (omega (arith, rose, none_counted (suc (suc (suc (suc q)))) (faults_of g are) (omega arith), none_counted (suc (suc (suc (suc q)))) (faults_of g now) (omega arith)))

-- ---- taken, and given back

-- the same areas later, whose counts have not fallen
five_later : {A : Type 0} (g : Vaults A) (names : StoreNames) (are now : StoreAreas A) → NoneFell (faults_of g are) (faults_of g now) → AreLater g (held_of names are) (held_of names now)
five_later g names are now later = (
  refl,
  omega (arith, later Wal),
  (refl, omega (arith, later (Data 0)), (refl, omega (arith, later (Data 1)), (refl, omega (arith, later (Data 2)), (refl, omega (arith, later (Data 3)), tt)))),
)

pub both_later : {A : Type 0} (g : Vaults A) (xs xs2 ys ys2 : List (Held A)) → AreLater g xs xs2 → AreLater g ys ys2 → AreLater g (xs ++ ys) (xs2 ++ ys2)
both_later g [] [] ys ys2 first second = second
both_later g [] (x ∷ xs2) ys ys2 first second = absurd first
both_later g (x ∷ xs) [] ys ys2 first second = absurd first
both_later g (x ∷ xs) (z ∷ xs2) ys ys2 first second = (first.0, first.1, both_later g xs xs2 ys ys2 first.2 second)

-- they can be given back, once their counts have not fallen
pub run_out : {A : Type 0} (g : Vaults A) (areas : Areas) (held now : List (Held A)) (names : StoreNames) (a b : StoreAreas A) → AreOut g areas (held ++ held_of names a) → AreLater g held now → NoneFell (faults_of g a) (faults_of g b) → AreOut g areas (now ++ held_of names b)
run_out g areas held now names a b out later fell = out_later g areas (held ++ held_of names a) (now ++ held_of names b) out (both_later g held now (held_of names a) (held_of names b) later (five_later g names a b fell))

-- the last of areas that are out
pub out_back : {A : Type 0} (g : Vaults A) (areas : Areas) (front back : List (Held A)) → AreOut g areas (front ++ back) → AreOut g areas back
out_back g areas [] back out = out
out_back g areas (one ∷ front) back out = out_back g areas front back out.2

-- the first three, and the last two
abbrev pub front_held : {A : Type 0} → StoreNames → StoreAreas A → List (Held A)
front_held names are =
    record { name = names.wal; area = are.wal }
    ∷ record { name = names.data0; area = are.data0 }
    ∷ record { name = names.data1; area = are.data1 }
    ∷ []

abbrev pub back_held : {A : Type 0} → StoreNames → StoreAreas A → List (Held A)
back_held names are =
    record { name = names.data2; area = are.data2 }
    ∷ record { name = names.data3; area = are.data3 }
    ∷ []

abbrev pub wal_held : {A : Type 0} → StoreNames → StoreAreas A → List (Held A)
wal_held names are = record { name = names.wal; area = are.wal } ∷ []

abbrev pub mid_held : {A : Type 0} → StoreNames → StoreAreas A → List (Held A)
mid_held names are =
    record { name = names.data0; area = are.data0 }
    ∷ record { name = names.data1; area = are.data1 }
    ∷ []

-- once the last two were given back the others are out
pub front_out : {S A : Type 0} (s : Sites S A) (g : Vaults A) (old mid : S) (names : StoreNames) (are : StoreAreas A) → AreOut g (s.areas old) (held_of names are) → GivesBack s g (back_held names are) old mid → AreOut g (s.areas mid) (front_held names are)
front_out s g old mid names are out gives = out_front g (s.areas old) (s.areas mid) (front_held names are) (back_held names are) out gives.areas

pub wal_out : {S A : Type 0} (s : Sites S A) (g : Vaults A) (old mid then : S) (names : StoreNames) (are : StoreAreas A) → AreOut g (s.areas old) (held_of names are) → GivesBack s g (back_held names are) old mid → GivesBack s g (mid_held names are) mid then → AreOut g (s.areas then) (wal_held names are)
wal_out s g old mid then names are out gives more = out_front g (s.areas mid) (s.areas then) (wal_held names are) (mid_held names are) (front_out s g old mid names are out gives) more.areas

pub store_gives : {S A : Type 0} (s : Sites S A) (g : Vaults A) (old mid then new : S) (names : StoreNames) (are : StoreAreas A) → AreOut g (s.areas old) (held_of names are) → GivesBack s g (back_held names are) old mid → GivesBack s g (mid_held names are) mid then → GivesBack s g (wal_held names are) then new
    → GivesBack s g (held_of names are) old new
store_gives s g old mid then new names are out first second third =
    gives_more s g (front_held names are) (back_held names are) old mid new out first
    (gives_more s g (wal_held names are) (mid_held names are) mid then new (front_out s g old mid names are out first) second third)

-- ---- lent as a slice

pub later_length : {A : Type 0} (g : Vaults A) (xs ys : List (Held A)) → AreLater g xs ys → length ys ≡ length xs
later_length g [] [] later = refl
later_length g [] (y ∷ ys) later = absurd later
later_length g (x ∷ xs) [] later = absurd later
later_length g (x ∷ xs) (y ∷ ys) later = ap suc (later_length g xs ys later.2)

pub written_back : {A : Type 0} (g : Vaults A) (xs ys : List (Held A)) (n : ℕ) → n ≡ length xs → AreLater g xs ys → take n (ys ++ drop (length ys) xs) ≡ ys
written_back g xs ys n many later =
    let same : length ys ≡ length xs = later_length g xs ys later in
    ap (λ (zs : List _). take n (ys ++ zs)) (drop_all (length ys) xs (omega (arith, same))) ∙ (ap (take n) (append-nil ys) ∙ take_all n ys (omega (arith, same, many)))

-- ---- by their names

areas_front : {A : Type 0} (g : Vaults A) (site : Areas) (front rest : Names) (held five : List (Held A)) → names_of held ≡ front → AreAreasOf g site (front ++ rest) (held ++ five) → AreAreasOf g site front held
areas_front g site [] rest [] five named are = tt
areas_front g site [] rest (one ∷ held) five named are = absurd cc
areas_front g site (name ∷ front) rest [] five named are = absurd cc
areas_front g site (name ∷ front) rest (one ∷ held) five named are =
    let more : names_of held ≡ front = cc in
    (are.0, are.1, areas_front g site front rest held five more are.2)

areas_back : {A : Type 0} (g : Vaults A) (site : Areas) (front rest : Names) (held five : List (Held A)) → names_of held ≡ front → AreAreasOf g site (front ++ rest) (held ++ five) → AreAreasOf g site rest five
areas_back g site [] rest [] five named are = are
areas_back g site [] rest (one ∷ held) five named are = absurd cc
areas_back g site (name ∷ front) rest [] five named are = absurd cc
areas_back g site (name ∷ front) rest (one ∷ held) five named are =
    let more : names_of held ≡ front = cc in
    areas_back g site front rest held five more are.2

-- what is held under a name is what the site has there
as_there : {A : Type 0} (g : Vaults A) (site : Areas) (names : Names) (held : List (Held A)) (n : List ℕ) → AreAreasOf g site names held → IsOneOf n names → areas_of g held n ≡ site n
as_there g site [] [] n are one = absurd one
as_there g site [] (x ∷ held) n are one = absurd are
as_there g site (name ∷ names) [] n are one = absurd are
as_there g site (name ∷ names) (x ∷ held) n are one =
    elim (same_or_not n x.name) [
      | inl is ↦ ap (areas_of g (x ∷ held)) is ∙ (set_at-same (areas_of g held) x.name (state_in g x.area) ∙ (sym are.1 ∙ ap site (sym (is ∙ are.0))))
      | inr other ↦ set_at-other (areas_of g held) x.name n (state_in g x.area) other ∙ elim one [
        | inl first ↦ absurd (other (first ∙ sym are.0))
        | inr later ↦ as_there g site names held n are.2 later
      ]
    ]

pub one_not_none : (n : List ℕ) (names : Names) → IsOneOf n names → IsNoneOf n names → ⊥
one_not_none n [] one none = absurd one
one_not_none n (name ∷ names) (inl is) none = none.0 is
one_not_none n (name ∷ names) (inr later) none = one_not_none n names later none.1

pub one_either : (n : List ℕ) (front rest : Names) → IsOneOf n (front ++ rest) → IsOneOf n front ⊎ IsOneOf n rest
one_either n [] rest one = inr one
one_either n (name ∷ front) rest (inl is) = inl (inl is)
one_either n (name ∷ front) rest (inr later) =
    elim (one_either n front rest later) [
      | inl first ↦ inl (inr first)
      | inr last ↦ inr last
    ]

-- no name among more is none among fewer
none_fewer : (n : List ℕ) (asked names : Names) → ((m : List ℕ) → IsOneOf m names → IsOneOf m asked) → IsNoneOf n asked → IsNoneOf n names
none_fewer n asked names only none =
    elim (one_or_none n names) [
      | inl one ↦ absurd (one_not_none n asked (only n one) none)
      | inr apart ↦ apart
    ]

pub one_both : (n : List ℕ) (front rest more : Names) → ((m : List ℕ) → IsOneOf m front → IsOneOf m more) → IsOneOf n (front ++ rest) → IsOneOf n (more ++ rest)
one_both n front rest more only one =
    elim (one_either n front rest one) [
      | inl first ↦ one_front n more rest (only n first)
      | inr last ↦ one_back n more rest last
    ]

-- these are the areas of a site by the names that they have
abbrev pub AreThere : {V : Type 0} → Vaults V → Areas → List (Held V) → Type 0
AreThere g site [] = Unit {0}
AreThere g site (one ∷ held) = (site one.name ≡ state_in g one.area) × AreThere g site held

are_there : {A : Type 0} (g : Vaults A) (site : Areas) (names : Names) (held : List (Held A)) → AreAreasOf g site names held → AreThere g site held
are_there g site [] [] are = tt
are_there g site [] (x ∷ held) are = absurd are
are_there g site (name ∷ names) [] are = absurd are
are_there g site (name ∷ names) (x ∷ held) are = (ap site are.0 ∙ are.1, are_there g site names held are.2)

-- what a site comes to whose areas were all at home, once they were given back
pub record RunBack {S A : Type 0} (s : Sites S A) (g : Vaults A) (script : List Task) (old new : S) (held kept : List (Held A)) (sums sums_now : A) (are now : StoreAreas A) : Type 0 where
  pub site : WritesAmong (run_asks script) (s.areas old) (s.areas new)
  pub was : AreAt g (s.areas old) are
  pub is : AreAt g (s.areas new) now
  pub were : AreAsAt (backups_asked script) (areas_of g held) (s.areas old)
  pub after : AreAsAt (backups_asked script) (areas_of g kept) (s.areas new)
  pub held_there : AreThere g (s.areas old) held
  pub kept_there : AreThere g (s.areas new) kept
  pub before : s.areas old sums_name ≡ state_in g sums
  pub behind : s.areas new sums_name ≡ state_in g sums_now
  pub later : s.take_faults old ≤ s.take_faults new

are_at : {A : Type 0} (g : Vaults A) (areas : Areas) (names : StoreNames) (are : StoreAreas A) → AreAreasOf g areas store_asks (held_of names are) → AreAt g areas are
are_at g areas names are is = record {
  wal = is.1;
  data0 = is.2.1;
  data1 = is.2.2.1;
  data2 = is.2.2.2.1;
  data3 = is.2.2.2.2.1;
}

pub names_of_both : {A : Type 0} (xs ys : List (Held A)) → names_of (xs ++ ys) ≡ names_of xs ++ names_of ys
names_of_both [] ys = refl
names_of_both (x ∷ xs) ys = ap (λ (ns : Names). x.name ∷ ns) (names_of_both xs ys)

fronts_same : {A : Type 0} (xs us ys vs : List A) → length ys ≡ length vs → xs ++ ys ≡ us ++ vs → xs ≡ us
fronts_same [] [] ys vs same e = refl
fronts_same [] (u ∷ us) ys vs same e = absurd (omega (arith, same, ap (λ (l : List _). length l) e, length-append us vs))
fronts_same (x ∷ xs) [] ys vs same e = absurd (omega (arith, same, ap (λ (l : List _). length l) e, length-append xs ys))
fronts_same (x ∷ xs) (u ∷ us) ys vs same e =
    let head : x ≡ u = cc in
    let tail : xs ++ ys ≡ us ++ vs = cc in
    ap (λ a. a ∷ xs) head ∙ ap (λ (l : List _). u ∷ l) (fronts_same xs us ys vs same tail)

-- the areas before those of the store have the names of the backups
pub held_are : {A : Type 0} (g : Vaults A) (site : Areas) (backups : Names) (held : List (Held A)) (names : StoreNames) (are : StoreAreas A) → AreAreasOf g site (backups ++ store_asks) (held ++ held_of names are) → names_of held ≡ backups
held_are g site backups held names are is =
    fronts_same (names_of held) backups (names_of (held_of names are)) store_asks refl (sym (names_of_both held (held_of names are)) ∙ areas_named g site (backups ++ store_asks) (held ++ held_of names are) is)

-- the areas that are held, in three parts
record AreParts {A : Type 0} (g : Vaults A) (site : Areas) (backups : Names) (held : List (Held A)) (sums : A) (are : StoreAreas A) : Type 0 where
  named : names_of held ≡ backups
  backups_are : AreAreasOf g site backups held
  sums_is : site sums_name ≡ state_in g sums
  store_are : AreAt g site are

in_parts : {A : Type 0} (g : Vaults A) (site : Areas) (backups : Names) (held : List (Held A)) (one : Held A) (names : StoreNames) (are : StoreAreas A) → AreAreasOf g site ((backups ++ (sums_name ∷ [])) ++ store_asks) ((held ++ (one ∷ [])) ++ held_of names are) → AreParts g site backups held one.area are
in_parts g site backups held one names are is =
    let both : names_of (held ++ (one ∷ [])) ≡ backups ++ (sums_name ∷ []) = held_are g site (backups ++ (sums_name ∷ [])) (held ++ (one ∷ [])) names are is in
    let others : AreAreasOf g site (backups ++ (sums_name ∷ [])) (held ++ (one ∷ [])) = areas_front g site (backups ++ (sums_name ∷ [])) store_asks (held ++ (one ∷ [])) (held_of names are) both is in
    let named : names_of held ≡ backups = fronts_same (names_of held) backups (one.name ∷ []) (sums_name ∷ []) refl (sym (names_of_both held (one ∷ [])) ∙ both) in
    record {
      named = named;
      backups_are = areas_front g site backups (sums_name ∷ []) held (one ∷ []) named others;
      sums_is = (areas_back g site backups (sums_name ∷ []) held (one ∷ []) named others).1;
      store_are = are_at g site names are (areas_back g site (backups ++ (sums_name ∷ [])) store_asks (held ++ (one ∷ [])) (held_of names are) both is);
    }

-- names of which each is asked for
wider : (n : List ℕ) (backups asked : Names) → ((m : List ℕ) → IsOneOf m backups → IsOneOf m asked) → IsOneOf n ((backups ++ (sums_name ∷ [])) ++ store_asks) → IsOneOf n ((asked ++ (sums_name ∷ [])) ++ store_asks)
wider n backups asked only one = one_both n (backups ++ (sums_name ∷ [])) store_asks (asked ++ (sums_name ∷ [])) (λ m first. one_both m backups (sums_name ∷ []) asked only first) one

run_back : {S A : Type 0} (s : Sites S A) (g : Vaults A) (script : List Task) (backups : Names) (old mid new : S) (names : StoreNames) (held kept : List (Held A)) (one two : Held A) (are now : StoreAreas A) → AreEachOnce (backups_asked script) backups → AllHome (s.areas old)
    → AreTaken s g ((backups ++ (sums_name ∷ [])) ++ store_asks) old mid ((held ++ (one ∷ [])) ++ held_of names are) → AreLater g (held ++ (one ∷ [])) (kept ++ (two ∷ [])) → GivesBack s g ((kept ++ (two ∷ [])) ++ held_of names now) mid new
    → RunBack s g script old new held kept one.area two.area are now
run_back s g script backups old mid new names held kept one two are now each home taken later gives =
    let asked : Names = backups_asked script in
    let all : Names = (backups ++ (sums_name ∷ [])) ++ store_asks in
    let named : names_of ((kept ++ (two ∷ [])) ++ held_of names now) ≡ names_of ((held ++ (one ∷ [])) ++ held_of names are) =
    names_of_both (kept ++ (two ∷ [])) (held_of names now) ∙ (ap (λ (ns : Names). ns ++ names_of (held_of names now)) (later_named g (held ++ (one ∷ [])) (kept ++ (two ∷ [])) later) ∙ sym (names_of_both (held ++ (one ∷ [])) (held_of names are))) in
    let back = lent s g all old mid new ((held ++ (one ∷ [])) ++ held_of names are) ((kept ++ (two ∷ [])) ++ held_of names now) home taken named gives in
    let was : AreParts g (s.areas old) backups held one.area are = in_parts g (s.areas old) backups held one names are back.was in
    let is : AreParts g (s.areas new) backups kept two.area now = in_parts g (s.areas new) backups kept two names now back.is in
    record {
      site = record {
        home = back.site.home;
        later = back.site.later;
        others = λ n none. back.site.others n (none_fewer n (run_asks script) all (λ m some. wider m backups asked each.only some) none);
        quiet = λ n none. back.site.quiet n (none_fewer n (run_asks script) all (λ m some. wider m backups asked each.only some) none);
      };
      was = was.store_are;
      is = is.store_are;
      were = λ n some. as_there g (s.areas old) backups held n was.backups_are (each.all n some);
      after = λ n some. as_there g (s.areas new) backups kept n is.backups_are (each.all n some);
      held_there = are_there g (s.areas old) backups held was.backups_are;
      kept_there = are_there g (s.areas new) backups kept is.backups_are;
      before = was.sums_is;
      behind = is.sums_is;
      later = back.later;
    }

-- what was asked for is held under its names
pub held_named : {S A : Type 0} (s : Sites S A) (g : Vaults A) (backups ns : Names) (old mid : S) (held : List (Held A)) (one : Held A) (names : StoreNames) (are : StoreAreas A) → ns ≡ (backups ++ (sums_name ∷ [])) ++ store_asks → AreTaken s g ns old mid ((held ++ (one ∷ [])) ++ held_of names are) → names_of held ≡ backups
held_named s g backups ns old mid held one names are is taken =
    let areas : AreAreasOf g (s.areas old) ((backups ++ (sums_name ∷ [])) ++ store_asks) ((held ++ (one ∷ [])) ++ held_of names are) =
    subst (λ (xs : Names). AreAreasOf g (s.areas old) xs ((held ++ (one ∷ [])) ++ held_of names are)) is taken.areas in
    let parts : AreParts g (s.areas old) backups held one.area are = in_parts g (s.areas old) backups held one names are areas in
    parts.named

-- the areas of the backups and of summaries later
pub others_later : {A : Type 0} (g : Vaults A) (held kept : List (Held A)) (one two : Held A) → AreLater g held kept → two.name ≡ one.name → g.faults one.area ≤ g.faults two.area → AreLater g (held ++ (one ∷ [])) (kept ++ (two ∷ []))
others_later g held kept one two later named fell = both_later g held kept (one ∷ []) (two ∷ []) later (named, fell, tt)

-- all of it, from the site's side
pub run_ends : {S A : Type 0} (s : Sites S A) (g : Vaults A) (script : List Task) (ns : Names) (old mid then new : S) (names : StoreNames) (held kept : List (Held A)) (one two : Held A) (are now : StoreAreas A) → AreAsked script ns
    → AllHome (s.areas old) → AreTaken s g ns old mid ((held ++ (one ∷ [])) ++ held_of names are) → AreLater g (held ++ (one ∷ [])) (kept ++ (two ∷ [])) → NoneFell (faults_of g are) (faults_of g now) → GivesBack s g (held_of names now) mid then → GivesBack s g (kept ++ (two ∷ [])) then new
    → RunBack s g script old new held kept one.area two.area are now
run_ends s g script ns old mid then new names held kept one two are now asked home taken later fell first second =
    let there : AreTaken s g ((asked.backups ++ (sums_name ∷ [])) ++ store_asks) old mid ((held ++ (one ∷ [])) ++ held_of names are) = subst (λ (xs : Names). AreTaken s g xs old mid ((held ++ (one ∷ [])) ++ held_of names are)) asked.names_are taken in
    let out : AreOut g (s.areas mid) ((kept ++ (two ∷ [])) ++ held_of names now) = run_out g (s.areas mid) (held ++ (one ∷ [])) (kept ++ (two ∷ [])) names are now there.out later fell in
    let gives : GivesBack s g ((kept ++ (two ∷ [])) ++ held_of names now) mid new = gives_more s g (kept ++ (two ∷ [])) (held_of names now) mid then new out first second in
    run_back s g script asked.backups old mid new names held kept one two are now asked.each home there later gives

-- the area of summaries goes back before those of the backups
pub others_give : {S A : Type 0} (s : Sites S A) (g : Vaults A) (old mid new : S) (held : List (Held A)) (one : Held A) → AreOut g (s.areas old) (held ++ (one ∷ [])) → GivesBack s g (one ∷ []) old mid → GivesBack s g held mid new → GivesBack s g (held ++ (one ∷ [])) old new
others_give s g old mid new held one out first second = gives_more s g held (one ∷ []) old mid new out first second

-- one of the areas wasn't handed out
pub untaken : {S A : Type 0} (s : Sites S A) (g : Vaults A) (script : List Task) (ns : Names) (old new : S) (fault : TakeFault) → AreAsked script ns → NoneTaken s ns old new fault
    → (s.areas new ≡ s.areas old) × TakeCause (run_asks script) (s.take_faults old) (s.take_faults new) fault
untaken s g script ns old new fault asked none =
    let among : IsOneOf fault.area ((asked.backups ++ (sums_name ∷ [])) ++ store_asks) = subst (λ (xs : Names). IsOneOf fault.area xs) asked.names_are none.cause.among in
    let more : IsOneOf fault.area ((backups_asked script ++ (sums_name ∷ [])) ++ store_asks) = wider fault.area asked.backups (backups_asked script) asked.each.only among in (
      none.areas,
      record {
        later = none.cause.later;
        among = more;
        failed = none.cause.failed;
      },
    )
