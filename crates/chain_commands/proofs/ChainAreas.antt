-- The areas of a chain's members, and others beside them, that a command took from a site and gave back.
use Rattle.std.proofs.Common.{◌≡◌, ◌≢◌, ℕ, zero, suc, ◌≤◌, ◌⊎◌, inl, inr, false, true≢false, List, [], ◌∷◌, ◌++◌, length, length-append, get_or, take, drop, Some, refl, sym, ap, ap₂, subst, ◌∙◌, arith}
use Rattle.std.specs.Prelude.{nat_eq, slice_get}
use Rattle.std.proofs.lemmas.Bool.{eq-eqb}
use Rattle.std.proofs.lemmas.List.{append-nil, take_all, drop_all}
use Rattle.vault.specs.declared.area.Vault.{Ghosts as Vaults}
use Rattle.vault.specs.declared.site.Site.{Ghosts as Sites}
use Rattle.vault.specs.declared.lending.Held.{Held}
use Rattle.vault.specs.declared.lending.TakeFault.{TakeFault}
use Rattle.vault.specs.Site.{AreaState, Areas, AllHome, IsStill, state_in}
use Rattle.vault.specs.Lending.{Names, IsOneOf, IsNoneOf, AreDistinct, AreAreasOf, AreOut, AreLater, WritesAmong, TakeCause, AreTaken, NoneTaken, GivesBack}
use Rattle.command_base.proofs.Lent.{reads_still, still_at}
use Rattle.vault.proofs.LentAreas.{later_named, out_front, out_later, gives_more, lent, writes_fewer}
use Rattle.command_base.specs.Areas.{wal_name, output_name, backup_name}
use Rattle.chain_check.specs.Chain.{most_members}
use Rattle.chain_files.specs.Told.{ArePlaces, AllOnlyRead}
use Rattle.chain_files.proofs.Told.{reads_length}
use Rattle.chain_commands.specs.declared.chain.MemberAreas.{MemberAreas}
use Rattle.chain_commands.specs.Chain.{backup_names, backup_areas}
use Rattle.chain_commands.specs.Inner.{AreOwnPlaces, StandAt, AreMemberAreas, area_at, areas_at}
use Rattle.chain_commands.proofs.MemberAreas.{get_within, distinct_push, places_within, each_place}

-- ---- names

-- names that differ at a place
apart_at : (k : ℕ) (a b : List ℕ) → nat_eq (get_or a k 0) (get_or b k 0) ≡ false → a ≢ b
apart_at k a b other = λ e. true≢false (sym (eq-eqb (get_or a k 0) (get_or b k 0) (ap (λ (xs : List ℕ). get_or xs k 0) e)) ∙ other)

pub one_front : (n : List ℕ) (front rest : Names) → IsOneOf n front → IsOneOf n (front ++ rest)
one_front n [] rest one = absurd one
one_front n (name ∷ front) rest (inl is) = inl is
one_front n (name ∷ front) rest (inr later) = inr (one_front n front rest later)

one_back : (n : List ℕ) (front rest : Names) → IsOneOf n rest → IsOneOf n (front ++ rest)
one_back n [] rest one = one
one_back n (name ∷ front) rest one = inr (one_back n front rest one)

pub one_either : (n : List ℕ) (front rest : Names) → IsOneOf n (front ++ rest) → IsOneOf n front ⊎ IsOneOf n rest
one_either n [] rest one = inr one
one_either n (name ∷ front) rest (inl is) = inl (inl is)
one_either n (name ∷ front) rest (inr later) =
    elim (one_either n front rest later) [
      | inl first ↦ inl (inr first)
      | inr last ↦ inr last
    ]

none_from : (w : List ℕ) (names : Names) → ((n : List ℕ) → IsOneOf n names → w ≢ n) → IsNoneOf w names
none_from w [] other = tt
none_from w (name ∷ names) other = (other name (inl refl), none_from w names (λ n one. other n (inr one)))

none_one : (n : List ℕ) (names : Names) → IsOneOf n names → IsNoneOf n names → ⊥
none_one n [] one none = absurd one
none_one n (name ∷ names) (inl is) none = none.0 is
none_one n (name ∷ names) (inr later) none = none_one n names later none.1

-- a name stands at a place
place_one : (n : List ℕ) (names : Names) → IsOneOf n names → (place : ℕ) × (slice_get names place ≡ Some n)
place_one n [] one = absurd one
place_one n (name ∷ names) (inl is) = (zero, ap (λ (x : List ℕ). Some x) (sym is))
place_one n (name ∷ names) (inr later) = (let found = place_one n names later in (suc found.0, found.1))

-- that of a member's area
pub record IsOfMember (members : Names) (area : List ℕ) : Type 0 where
  pub place : ℕ
  pub name : List ℕ
  pub there : slice_get members place ≡ Some name
  pub named : area ≡ backup_name name

stand_at : (areas members : Names) (places : List ℕ) (i a : ℕ) (n : List ℕ) → StandAt areas members places → slice_get places i ≡ Some a → slice_get areas a ≡ Some n → IsOfMember members n
stand_at areas [] [] i a n stand placed named = absurd cc
stand_at areas [] (p ∷ places) i a n stand placed named = absurd stand
stand_at areas (m ∷ members) [] i a n stand placed named = absurd stand
stand_at areas (m ∷ members) (p ∷ places) zero a n stand placed named =
    let same : p ≡ a = cc in
    let both : Some (backup_name m) ≡ Some n = sym stand.0 ∙ ap (slice_get areas) same ∙ named in
    record { place = zero; name = m; there = refl; named = let is : backup_name m ≡ n = some_is (backup_name m) n both in sym is }
  where
    some_is : (x y : List ℕ) → Some x ≡ Some y → x ≡ y
    some_is x y e = cc
stand_at areas (m ∷ members) (p ∷ places) (suc i) a n stand placed named =
    let found = stand_at areas members places i a n stand.1 placed named in
    record { place = suc found.place; name = found.name; there = found.there; named = found.named }

-- each of the areas is a member's
pub of_member : (members : Names) (areas : MemberAreas) (n : List ℕ) → AreMemberAreas members areas → IsOneOf n areas.names.items → IsOfMember members n
of_member members areas n is one =
    let found = place_one n areas.names.items one in
    let own = is.own found.0 (get_within areas.names.items found.0 n found.1) in
    stand_at areas.names.items members areas.places.items own.0 found.0 n is.stand own.1 found.1

one_mapped : (members : Names) (place : ℕ) (name : List ℕ) → slice_get members place ≡ Some name → IsOneOf (backup_name name) (backup_names members)
one_mapped [] place name e = absurd cc
one_mapped (m ∷ members) zero name e = inl (let same : m ≡ name = cc in ap backup_name (sym same))
one_mapped (m ∷ members) (suc place) name e = inr (one_mapped members place name e)

-- and so is asked for
pub one_asked : (members more : Names) (areas : MemberAreas) (n : List ℕ) → AreMemberAreas members areas → IsOneOf n (areas.names.items ++ more) → IsOneOf n (backup_names members ++ more)
one_asked members more areas n is one =
    elim (one_either n areas.names.items more one) [
      | inl among ↦ (let of = of_member members areas n is among in
          one_front n (backup_names members) more (subst (λ (x : List ℕ). IsOneOf x (backup_names members)) (sym of.named) (one_mapped members of.place of.name of.there)))
      | inr beside ↦ one_back n (backup_names members) more beside
    ]

-- the area of the WAL and that of an output are none of them
none_of_members : (members : Names) (areas : MemberAreas) (w : List ℕ) → AreMemberAreas members areas → ((name : List ℕ) → w ≢ backup_name name) → IsNoneOf w areas.names.items
none_of_members members areas w is other =
    none_from w areas.names.items (λ n one same. (let of = of_member members areas n is one in other of.name (same ∙ of.named)))

none_push : (n name : List ℕ) (names : Names) → IsNoneOf n names → n ≢ name → IsNoneOf n (names ++ name ∷ [])
none_push n name [] none other = (other, tt)
none_push n name (first ∷ names) none other = (none.0, none_push n name names none.1 other)

pub with_output : (members : Names) (areas : MemberAreas) (out : List ℕ) (names : Names) → AreMemberAreas members areas → IsNoneOf out areas.names.items → names ≡ areas.names.items ++ out ∷ [] → AreDistinct names
with_output members areas out names is none named = subst AreDistinct (sym named) (distinct_push out areas.names.items is.distinct none)

pub with_wal_and_output : (members : Names) (areas : MemberAreas) (out : List ℕ) → AreMemberAreas members areas → AreDistinct ((areas.names.items ++ wal_name ∷ []) ++ output_name out ∷ [])
with_wal_and_output members areas out is =
    let none_wal = none_of_members members areas wal_name is (λ name. apart_at 0 wal_name (backup_name name) refl) in
    let none_out = none_of_members members areas (output_name out) is (λ name. apart_at 0 (output_name out) (backup_name name) refl) in
    distinct_push (output_name out) (areas.names.items ++ wal_name ∷ []) (distinct_push wal_name areas.names.items is.distinct none_wal)
    (none_push (output_name out) wal_name areas.names.items none_out (apart_at 0 (output_name out) wal_name refl))

-- ---- areas of a site

module _ {A : Type 0} (g : Vaults A) where
  pub areas_length : (site : Areas) (names : Names) (held : List (Held A)) → AreAreasOf g site names held → length names ≡ length held
  areas_length site [] [] are = refl
  areas_length site [] (x ∷ held) are = absurd are
  areas_length site (name ∷ names) [] are = absurd are
  areas_length site (name ∷ names) (x ∷ held) are = ap suc (areas_length site names held are.2)

  areas_split : (site : Areas) (names more : Names) (held rest : List (Held A)) → length more ≡ length rest → AreAreasOf g site (names ++ more) (held ++ rest) → AreAreasOf g site names held × AreAreasOf g site more rest
  areas_split site [] more [] rest same are = (tt, are)
  areas_split site [] more (x ∷ held) rest same are = absurd (omega (arith, same, areas_length site more (x ∷ (held ++ rest)) are, length-append held rest))
  areas_split site (name ∷ names) more [] rest same are = absurd (omega (arith, same, areas_length site (name ∷ (names ++ more)) rest are, length-append names more))
  areas_split site (name ∷ names) more (x ∷ held) rest same are =
      let parts = areas_split site names more held rest same are.2 in ((are.0, are.1, parts.0), parts.1)

  -- what is held at a place is what the site has under its name
  area_site : (site : Areas) (names : Names) (held : List (Held A)) (place : ℕ) (n : List ℕ) → AreAreasOf g site names held → slice_get names place ≡ Some n → area_at g held place ≡ site n
  area_site site [] held place n are e = absurd cc
  area_site site (name ∷ names) [] place n are e = absurd are
  area_site site (name ∷ names) (x ∷ held) zero n are e = (let same : name ≡ n = cc in sym are.1 ∙ ap site same)
  area_site site (name ∷ names) (x ∷ held) (suc place) n are e = area_site site names held place n are.2 e

  -- so it is of the members
  pub areas_site : (site : Areas) (names members : Names) (held : List (Held A)) (places : List ℕ) → AreAreasOf g site names held → StandAt names members places → areas_at g held places ≡ backup_areas members site
  areas_site site names [] held [] are stand = refl
  areas_site site names [] held (p ∷ places) are stand = absurd stand
  areas_site site names (m ∷ members) held [] are stand = absurd stand
  areas_site site names (m ∷ members) held (p ∷ places) are stand =
      ap₂ (λ (x : AreaState) (xs : List AreaState). x ∷ xs) (area_site site names held p (backup_name m) are stand.0) (areas_site site names members held places are stand.1)

  pub read_later : (held kept : List (Held A)) → AllOnlyRead g held kept → AreLater g held kept
  read_later [] [] read = tt
  read_later [] (y ∷ kept) read = absurd read
  read_later (x ∷ held) [] read = absurd read
  read_later (x ∷ held) (y ∷ kept) read = (read.0, read.1.faults, read_later held kept read.2)

  -- nothing happened to areas that were only read
  pub read_still : (old new : Areas) (names : Names) (held kept : List (Held A)) (n : List ℕ) → AreAreasOf g old names held → AreAreasOf g new names kept → AllOnlyRead g held kept → IsOneOf n names → IsStill (old n) (new n)
  read_still old new [] held kept n were are read one = absurd one
  read_still old new (name ∷ names) [] kept n were are read one = absurd were
  read_still old new (name ∷ names) (x ∷ held) [] n were are read one = absurd are
  read_still old new (name ∷ names) (x ∷ held) (y ∷ kept) n were are read (inl is) =
      still_at (old n) (new n) (state_in g x.area) (state_in g y.area) (ap old is ∙ were.1) (ap new is ∙ are.1) (reads_still g x.area y.area read.1)
  read_still old new (name ∷ names) (x ∷ held) (y ∷ kept) n were are read (inr later) =
      read_still old new names held kept n were.2 are.2 read.2 later

  both_later : (xs ys us vs : List (Held A)) → AreLater g xs us → AreLater g ys vs → AreLater g (xs ++ ys) (us ++ vs)
  both_later [] ys [] vs first second = second
  both_later [] ys (u ∷ us) vs first second = absurd first
  both_later (x ∷ xs) ys [] vs first second = absurd first
  both_later (x ∷ xs) ys (u ∷ us) vs first second = (first.0, first.1, both_later xs ys us vs first.2 second)

-- what a site comes to whose areas were all at home, once they were given back
pub record ChainBack {S A : Type 0} (s : Sites S A) (g : Vaults A) (names more : Names) (old new : S) (held rest kept now : List (Held A)) : Type 0 where
  pub site : WritesAmong (names ++ more) (s.areas old) (s.areas new)
  pub were : AreAreasOf g (s.areas old) names held
  pub are : AreAreasOf g (s.areas new) names kept
  pub more_were : AreAreasOf g (s.areas old) more rest
  pub more_are : AreAreasOf g (s.areas new) more now
  pub later : s.take_faults old ≤ s.take_faults new

pub chain_back : {S A : Type 0} (s : Sites S A) (g : Vaults A) (names more : Names) (old mid then new : S) (held rest kept now : List (Held A)) → length more ≡ length rest → AllHome (s.areas old)
    → AreTaken s g (names ++ more) old mid (held ++ rest) → AllOnlyRead g held kept → AreLater g rest now → GivesBack s g now mid then → GivesBack s g kept then new → ChainBack s g names more old new held rest kept now
chain_back {A = A} s g names more old mid then new held rest kept now same home taken read later first second =
    let all_later : AreLater g (held ++ rest) (kept ++ now) = both_later g held rest kept now (read_later g held kept read) later in
    let out : AreOut g (s.areas mid) (kept ++ now) = out_later g (s.areas mid) (held ++ rest) (kept ++ now) taken.out all_later in
    let gives : GivesBack s g (kept ++ now) mid new = gives_more s g kept now mid then new out first second in
    let back = lent s g (names ++ more) old mid new (held ++ rest) (kept ++ now) home taken (later_named g (held ++ rest) (kept ++ now) all_later) gives in
    let was = areas_split g (s.areas old) names more held rest same back.was in
    let counted : length more ≡ length now = same ∙ sym (later_length g rest now later) in
    let is = areas_split g (s.areas new) names more kept now counted back.is in
    record { site = back.site; were = was.0; are = is.0; more_were = was.1; more_are = is.1; later = back.later }
  where
    later_length : {V : Type 0} (h : Vaults V) (xs ys : List (Held V)) → AreLater h xs ys → length ys ≡ length xs
    later_length h [] [] l = refl
    later_length h [] (y ∷ ys) l = absurd l
    later_length h (x ∷ xs) [] l = absurd l
    later_length h (x ∷ xs) (y ∷ ys) l = ap suc (later_length h xs ys l.2)

-- ---- what the calls between ask for

out_back : {A : Type 0} (g : Vaults A) (site : Areas) (front back : List (Held A)) → AreOut g site (front ++ back) → AreOut g site back
out_back g site [] back out = out
out_back g site (x ∷ front) back out = out_back g site front back out.2

-- those that come back are out
pub chain_out : {S A : Type 0} (s : Sites S A) (g : Vaults A) (all : Names) (old mid : S) (held rest kept now : List (Held A)) → AreTaken s g all old mid (held ++ rest) → AllOnlyRead g held kept → AreLater g rest now → AreOut g (s.areas mid) (kept ++ now)
chain_out s g all old mid held rest kept now taken read later =
    out_later g (s.areas mid) (held ++ rest) (kept ++ now) taken.out (both_later g held rest kept now (read_later g held kept read) later)

pub rest_out : {S A : Type 0} (s : Sites S A) (g : Vaults A) (all : Names) (old mid : S) (held rest now : List (Held A)) → AreTaken s g all old mid (held ++ rest) → AreLater g rest now → AreOut g (s.areas mid) now
rest_out s g all old mid held rest now taken later = out_later g (s.areas mid) rest now (out_back g (s.areas mid) held rest taken.out) later

pub members_out : {S A : Type 0} (s : Sites S A) (g : Vaults A) (all : Names) (old mid then : S) (held rest kept now : List (Held A)) → AreTaken s g all old mid (held ++ rest) → AllOnlyRead g held kept → AreLater g rest now → GivesBack s g now mid then → AreOut g (s.areas then) kept
members_out s g all old mid then held rest kept now taken read later gives =
    out_front g (s.areas mid) (s.areas then) kept now (chain_out s g all old mid held rest kept now taken read later) gives.areas

-- as many areas are held as there are names
pub held_count : {S A : Type 0} (s : Sites S A) (g : Vaults A) (front more : Names) (old mid : S) (held rest : List (Held A)) → length more ≡ length rest → AreTaken s g (front ++ more) old mid (held ++ rest) → length held ≡ length front
held_count s g front more old mid held rest same taken =
    omega (arith, same, areas_length g (s.areas old) (front ++ more) (held ++ rest) taken.areas, length-append front more, length-append held rest)

-- what was taken, by the names and the parts of both
pub taken_as : {S A : Type 0} (s : Sites S A) (g : Vaults A) (names all : Names) (old mid : S) (taken both : List (Held A)) → names ≡ all → taken ≡ both → AreTaken s g names old mid taken → AreTaken s g all old mid both
taken_as {A = A} s g names all old mid taken both named parts is =
    subst (λ (ns : Names). AreTaken s g ns old mid both) named (subst (λ (xs : List (Held A)). AreTaken s g names old mid xs) parts is)

pub counted : {S A : Type 0} (s : Sites S A) (g : Vaults A) (names front more : Names) (old mid : S) (taken held rest slice : List (Held A)) → length more ≡ length rest → names ≡ front ++ more → taken ≡ held ++ rest → slice ≡ held → AreTaken s g names old mid taken → length slice ≡ length front
counted {A = A} s g names front more old mid taken held rest slice same named parts lent is =
    ap (λ (xs : List (Held A)). length xs) lent ∙ held_count s g front more old mid held rest same (taken_as s g names (front ++ more) old mid taken (held ++ rest) named parts is)

-- what is lent as a slice is written back whole
pub lent_back : {A : Type 0} (len : ℕ) (old new : List A) → len ≡ length old → length new ≡ length old → take len (new ++ drop (length new) old) ≡ new
lent_back len old new is same =
    let none : drop (length new) old ≡ [] = drop_all (length new) old (omega (arith, same)) in
    ap (λ (xs : List _). take len (new ++ xs)) none ∙ ap (take len) (append-nil new) ∙ take_all len new (omega (arith, is, same))

pub members_out_of : {S A : Type 0} (s : Sites S A) (g : Vaults A) (all : Names) (old mid then : S) (held rest kept slice now : List (Held A)) (len : ℕ) → AreTaken s g all old mid (held ++ rest) → slice ≡ held → len ≡ length held → AllOnlyRead g slice kept → AreLater g rest now → GivesBack s g now mid then
    → AreOut g (s.areas then) (take len (kept ++ drop (length kept) held))
members_out_of {A = A} s g all old mid then held rest kept slice now len taken lent counts read later gives =
    let read_there : AllOnlyRead g held kept = subst (λ (xs : List (Held A)). AllOnlyRead g xs kept) lent read in
    subst (λ (xs : List (Held A)). AreOut g (s.areas then) xs) (sym (lent_back len held kept counts (reads_length g held kept read_there)))
    (members_out s g all old mid then held rest kept now taken read_there later gives)

-- the places that members' areas have
pub record Lends (members : Names) (count : ℕ) (ps : List ℕ) : Type 0 where
  pub own : AreOwnPlaces count ps
  pub places : ArePlaces count ps
  pub each : length members ≡ length ps
  pub some : 1 ≤ length ps
  pub few : length ps ≤ most_members

pub lends : (members : Names) (areas : MemberAreas) (count : ℕ) (ps : List ℕ) → AreMemberAreas members areas → 1 ≤ length members → length members ≤ most_members → count ≡ length areas.names.items → ps ≡ areas.places.items → Lends members count ps
lends members areas count ps are some few counted same =
    subst (λ (n : ℕ). Lends members n ps) (sym counted) (subst (λ (xs : List ℕ). Lends members (length areas.names.items) xs) (sym same) (record {
      own = are.own;
      places = places_within members areas are;
      each = each_place members areas are;
      some = omega (arith, some, each_place members areas are);
      few = omega (arith, few, each_place members areas are);
    }))

-- of them only these were written
pub chain_writes : {S A : Type 0} (s : Sites S A) (g : Vaults A) (names more fewer : Names) (old new : S) (held rest kept now : List (Held A)) → ChainBack s g names more old new held rest kept now → AllOnlyRead g held kept
    → ((n : List ℕ) → IsOneOf n more → IsNoneOf n fewer → IsStill (s.areas old n) (s.areas new n)) → WritesAmong fewer (s.areas old) (s.areas new)
chain_writes s g names more fewer old new held rest kept now back read others =
    writes_fewer (names ++ more) fewer (s.areas old) (s.areas new) back.site (λ n one none. elim (one_either n names more one) [
      | inl among ↦ read_still g (s.areas old) (s.areas new) names held kept n back.were back.are read among
      | inr beside ↦ others n beside none
    ])

-- one of them wasn't handed out
pub chain_untaken : {S A : Type 0} (s : Sites S A) (members more : Names) (areas : MemberAreas) (old new : S) (fault : TakeFault) → AreMemberAreas members areas → NoneTaken s (areas.names.items ++ more) old new fault
    → (s.areas new ≡ s.areas old) × TakeCause (backup_names members ++ more) (s.take_faults old) (s.take_faults new) fault
chain_untaken s members more areas old new fault is none =
    (none.areas, record { later = none.cause.later; among = one_asked members more areas fault.area is none.cause.among; failed = none.cause.failed })
