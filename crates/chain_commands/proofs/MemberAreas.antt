-- The areas of the members of a chain, each name once.
use Rattle.std.proofs.Common.{◌≡◌, ◌≢◌, ℕ, zero, suc, ◌+◌, ◌<◌, ◌≤◌, ◌⊎◌, inl, inr, Bool, true, false, cond, not, ltb, List, [], ◌∷◌, ◌++◌, length, length-append, get_or, take, Option, Some, None, refl, sym, ap, subst, ◌∙◌, arith}
use Rattle.std.specs.Prelude.{bytes_eq, slice_get}
use Rattle.std.proofs.lemmas.List.Quantifiers.{position-Some}
use Rattle.std.proofs.lemmas.Option.{slice_get-get_or}
use Rattle.std.specs.List.{position, position_or_len}
use Rattle.std.specs.Option.{option_map}
use Rattle.std.proofs.lemmas.List.{take_all}
use Rattle.std.proofs.lemmas.Bool.{ltb-false}
use Rattle.std.proofs.lemmas.Slice.Eq.{bytes_eq-Decides}
use Rattle.vault.specs.Lending.{Names, IsOneOf, IsNoneOf, AreDistinct}
use Rattle.command_base.specs.Areas.{backup_name}
use Rattle.chain_files.specs.Told.{ArePlaces}
use Rattle.chain_commands.specs.declared.chain.MemberAreas.{MemberAreas}
use Rattle.chain_commands.specs.Inner.{AreOwnPlaces, StandAt, AreMemberAreas, PlacesArea}

-- ---- parts of lists

pub get_front : {A : Type 0} (xs ys : List A) (i : ℕ) (x : A) → slice_get xs i ≡ Some x → slice_get (xs ++ ys) i ≡ Some x
get_front [] ys i x e = absurd cc
get_front (y ∷ xs) ys zero x e = e
get_front (y ∷ xs) ys (suc i) x e = get_front xs ys i x e

pub get_last : {A : Type 0} (xs : List A) (x : A) → slice_get (xs ++ x ∷ []) (length xs) ≡ Some x
get_last [] x = refl
get_last (y ∷ xs) x = get_last xs x

pub get_some : {A : Type 0} (xs : List A) (i : ℕ) → i < length xs → (x : A) × (slice_get xs i ≡ Some x)
get_some [] i lt = absurd (omega (arith, lt))
get_some (x ∷ xs) zero lt = (x, refl)
get_some (x ∷ xs) (suc i) lt = get_some xs i (omega (arith, lt))

pub get_within : {A : Type 0} (xs : List A) (i : ℕ) (x : A) → slice_get xs i ≡ Some x → i < length xs
get_within [] i x e = absurd cc
get_within (y ∷ xs) zero x e = omega arith
get_within (y ∷ xs) (suc i) x e = (let rest = get_within xs i x e in omega (arith, rest))

pub take_on : {A : Type 0} (xs : List A) (i : ℕ) (x : A) → slice_get xs i ≡ Some x → take (suc i) xs ≡ take i xs ++ x ∷ []
take_on [] i x e = absurd cc
take_on (y ∷ xs) zero x e = (let same : y ≡ x = cc in ap (λ z. z ∷ []) same)
take_on (y ∷ xs) (suc i) x e = ap (λ zs. y ∷ zs) (take_on xs i x e)

pub take_one : {A : Type 0} (xs : List A) (i j : ℕ) (x : A) → j ≡ i + 1 → slice_get xs i ≡ Some x → take j xs ≡ take i xs ++ x ∷ []
take_one xs i j x is e = (let more : j ≡ suc i = omega (arith, is) in ap (λ k. take k xs) more ∙ take_on xs i x e)

pub get_past : {A : Type 0} (xs : List A) (i : ℕ) → slice_get xs i ≡ None → length xs ≤ i
get_past [] i e = omega arith
get_past (x ∷ xs) zero e = absurd cc
get_past (x ∷ xs) (suc i) e = (let rest = get_past xs i e in omega (arith, rest))

-- no name is left
pub past_by : {X : Type 0} (view : X → List ℕ) (r : Option X) (names : Names) (at : ℕ) → option_map view r ≡ slice_get names at → ((x : X) → r ≡ Some x → ⊥) → length names ≤ at
past_by view None names at e none = get_past names at (sym e)
past_by view (Some x) names at e none = absurd (none x refl)

-- ---- where an area stands

cond_none : (b : Bool) (n : ℕ) → cond b (Some n) None ≡ None → b ≡ false
cond_none true n e = absurd cc
cond_none false n e = refl

none_by : (name first : List ℕ) (names : Names) (b : Bool) → bytes_eq name first ≡ b → (length names ≤ position_or_len (bytes_eq name) names → IsNoneOf name names)
    → length (first ∷ names) ≤ cond (not b) (1 + position_or_len (bytes_eq name) names) 0 → IsNoneOf name (first ∷ names)
none_by name first names true e rest past = absurd (omega (arith, past))
none_by name first names false e rest past = ((λ is. absurd (let yes : bytes_eq name first ≡ true = (bytes_eq-Decides name first).1 is in cc (yes, e))), rest (omega (arith, past)))

none_past : (name : List ℕ) (names : Names) → length names ≤ position_or_len (bytes_eq name) names → IsNoneOf name names
none_past name [] past = tt
none_past name (first ∷ names) past = none_by name first names (bytes_eq name first) refl (none_past name names) past

-- a name that was found stands at its place, and one that wasn't is none of them
pub stands : (name : List ℕ) (names : Names) (place : ℕ) → position (bytes_eq name) names ≡ Some place → slice_get names place ≡ Some name
stands name names place e =
    let p = position-Some (bytes_eq name) names place name e in
    slice_get-get_or names place name p.0 ∙ ap (λ (x : List ℕ). Some x) (sym ((bytes_eq-Decides name (get_or names place name)).0 p.1))

pub none_stands : (name : List ℕ) (names : Names) → position (bytes_eq name) names ≡ None → IsNoneOf name names
none_stands name names e =
    none_past name names (ltb-false _ _ (cond_none (ltb (position_or_len (bytes_eq name) names) (length names)) (position_or_len (bytes_eq name) names) e))

pub one_stands : (name : List ℕ) (names : Names) (place : ℕ) → slice_get names place ≡ Some name → IsOneOf name names
one_stands name [] place e = absurd cc
one_stands name (first ∷ names) zero e = inl (let same : first ≡ name = cc in sym same)
one_stands name (first ∷ names) (suc place) e = inr (one_stands name names place e)

-- a name that was looked for is one of these, or none of them
pub one_there : (area : List ℕ) (names : Names) (place : ℕ) (bytes : List ℕ) (list : Names) → bytes ≡ area → list ≡ names → Some place ≡ position (bytes_eq bytes) list → IsOneOf area names
one_there area names place bytes list b l e =
    one_stands area names place (stands area names place (sym (e ∙ ap (λ (x : List ℕ). position (bytes_eq x) list) b ∙ ap (position (bytes_eq area)) l)))

pub none_there : (area : List ℕ) (names : Names) (bytes : List ℕ) (list : Names) → bytes ≡ area → list ≡ names → None ≡ position (bytes_eq bytes) list → IsNoneOf area names
none_there area names bytes list b l e =
    none_stands area names (sym (e ∙ ap (λ (x : List ℕ). position (bytes_eq x) list) b ∙ ap (position (bytes_eq area)) l))

-- where the area of one more member stands
pub noted_before : (area : List ℕ) (names : Names) (place : ℕ) (bytes : List ℕ) (list : Names) → bytes ≡ area → list ≡ names → Some place ≡ position (bytes_eq bytes) list → PlacesArea area names names place
noted_before area names place bytes list b l e =
    inl (refl, stands area names place (sym (e ∙ ap (λ (x : List ℕ). position (bytes_eq x) list) b ∙ ap (position (bytes_eq area)) l)))

pub noted_now : (area : List ℕ) (names new : Names) (place : ℕ) (bytes : List ℕ) (list : Names) → bytes ≡ area → list ≡ names → None ≡ position (bytes_eq bytes) list → new ≡ names ++ area ∷ [] → place ≡ length names → PlacesArea area names new place
noted_now area names new place bytes list b l e is at =
    inr (is, none_stands area names (sym (e ∙ ap (λ (x : List ℕ). position (bytes_eq x) list) b ∙ ap (position (bytes_eq area)) l)), at)

-- ---- one more name

none_push : (n name : List ℕ) (names : Names) → IsNoneOf n names → n ≢ name → IsNoneOf n (names ++ name ∷ [])
none_push n name [] none other = (other, tt)
none_push n name (first ∷ names) none other = (none.0, none_push n name names none.1 other)

pub distinct_push : (name : List ℕ) (names : Names) → AreDistinct names → IsNoneOf name names → AreDistinct (names ++ name ∷ [])
distinct_push name [] distinct none = (tt, tt)
distinct_push name (first ∷ names) distinct none =
    (none_push first name names distinct.0 (λ is. none.0 (sym is)), distinct_push name names distinct.1 none.1)

-- ---- the areas of members

stand_on : (areas more members : Names) (places : List ℕ) → StandAt areas members places → StandAt (areas ++ more) members places
stand_on areas more [] [] stand = tt
stand_on areas more [] (place ∷ places) stand = absurd stand
stand_on areas more (name ∷ members) [] stand = absurd stand
stand_on areas more (name ∷ members) (place ∷ places) stand =
    (get_front areas more place (backup_name name) stand.0, stand_on areas more members places stand.1)

stand_push : (areas members : Names) (places : List ℕ) (name : List ℕ) (place : ℕ) → StandAt areas members places → slice_get areas place ≡ Some (backup_name name) → StandAt areas (members ++ name ∷ []) (places ++ place ∷ [])
stand_push areas [] [] name place stand there = (there, tt)
stand_push areas [] (p ∷ places) name place stand there = absurd stand
stand_push areas (first ∷ members) [] name place stand there = absurd stand
stand_push areas (first ∷ members) (p ∷ places) name place stand there =
    (stand.0, stand_push areas members places name place stand.1 there)

pub stand_length : (areas members : Names) (places : List ℕ) → StandAt areas members places → length members ≡ length places
stand_length areas [] [] stand = refl
stand_length areas [] (place ∷ places) stand = absurd stand
stand_length areas (name ∷ members) [] stand = absurd stand
stand_length areas (name ∷ members) (place ∷ places) stand = ap suc (stand_length areas members places stand.1)

stand_within : (areas members : Names) (places : List ℕ) → StandAt areas members places → ArePlaces (length areas) places
stand_within areas [] [] stand = tt
stand_within areas [] (place ∷ places) stand = absurd stand
stand_within areas (name ∷ members) [] stand = absurd stand
stand_within areas (name ∷ members) (place ∷ places) stand =
    (get_within areas place (backup_name name) stand.0, stand_within areas members places stand.1)

abbrev pub Standing : Names → Names → List ℕ → Type 0
Standing members names places =
    AreDistinct names × StandAt names members places × AreOwnPlaces (length names) places × (length names ≤ length members)

pub none_standing : Standing [] [] []
none_standing = (tt, tt, (λ a lt. absurd (omega (arith, lt))), omega arith)

own_push : (count place : ℕ) (places : List ℕ) → AreOwnPlaces count places → AreOwnPlaces count (places ++ place ∷ [])
own_push count place places own a lt = let found = own a lt in (found.0, get_front places (place ∷ []) found.0 a found.1)

own_more : (count : ℕ) (places : List ℕ) → AreOwnPlaces count places → (a : ℕ) → a < suc count → (a < count) ⊎ (a ≡ count) → (member : ℕ) × (slice_get (places ++ count ∷ []) member ≡ Some a)
own_more count places own a lt (inl less) = own_push count count places own a less
own_more count places own a lt (inr same) = (length places, get_last places count ∙ ap (λ (n : ℕ). Some n) (sym same))

less_or_same : (a n : ℕ) → a < suc n → (a < n) ⊎ (a ≡ n)
less_or_same zero zero lt = inr refl
less_or_same zero (suc n) lt = inl (omega arith)
less_or_same (suc a) zero lt = absurd (omega (arith, lt))
less_or_same (suc a) (suc n) lt = elim (less_or_same a n (omega (arith, lt))) [
  | inl less ↦ inl (omega (arith, less))
  | inr same ↦ inr (ap suc same)
]

-- one member more
pub standing_more : (members names new : Names) (places : List ℕ) (name : List ℕ) (place : ℕ) → Standing members names places → PlacesArea (backup_name name) names new place → Standing (members ++ name ∷ []) new (places ++ place ∷ [])
standing_more members names new places name place is (inl there) =
    subst (λ (ns : Names). Standing (members ++ name ∷ []) ns (places ++ place ∷ [])) (sym there.0) (
      is.0,
      stand_push names members places name place is.1 there.1,
      own_push (length names) place places is.2,
      omega (arith, is.3, length-append members (name ∷ [])),
    )
standing_more members names new places name place is (inr noted) =
    let area = backup_name name in
    let count : length (names ++ area ∷ []) ≡ suc (length names) = omega (arith, length-append names (area ∷ [])) in
    subst (λ (ns : Names). Standing (members ++ name ∷ []) ns (places ++ place ∷ [])) (sym noted.0) (
      distinct_push area names is.0 noted.1,
      stand_push (names ++ area ∷ []) members places name place (stand_on names (area ∷ []) members places is.1)
          (ap (λ (n : ℕ). slice_get (names ++ area ∷ []) n) noted.2 ∙ get_last names area),
      subst (λ (n : ℕ). AreOwnPlaces n (places ++ place ∷ [])) (sym count)
          (λ a lt. subst (λ (n : ℕ). (member : ℕ) × (slice_get (places ++ n ∷ []) member ≡ Some a)) (sym noted.2) (own_more (length names) places is.2 a lt (less_or_same a (length names) lt))),
      omega (arith, is.3, count, length-append members (name ∷ [])),
    )

-- the members before a place, with the next one
pub standing_next : (members names new : Names) (places more : List ℕ) (name : List ℕ) (at place : ℕ) → slice_get members at ≡ Some name → Standing (take at members) names places → PlacesArea (backup_name name) names new place → more ≡ places ++ place ∷ [] → Standing (take (at + 1) members) new more
standing_next members names new places more name at place named is noted pushed =
    subst (λ (ms : Names). Standing ms new more) (sym (take_one members at (at + 1) name refl named))
    (subst (λ (ps : List ℕ). Standing (take at members ++ name ∷ []) new ps) (sym pushed) (standing_more (take at members) names new places name place is noted))

-- all members have theirs
pub standing_all : (members : Names) (at : ℕ) (areas : MemberAreas) → length members ≤ at → Standing (take at members) areas.names.items areas.places.items → AreMemberAreas members areas
standing_all members at areas past is =
    let done : Standing members areas.names.items areas.places.items = subst (λ (ms : Names). Standing ms areas.names.items areas.places.items) (take_all at members past) is in
    record { distinct = done.0; stand = done.1; own = done.2; few = done.3 }

pub places_within : (members : Names) (areas : MemberAreas) → AreMemberAreas members areas → ArePlaces (length areas.names.items) areas.places.items
places_within members areas is = stand_within areas.names.items members areas.places.items is.stand

pub each_place : (members : Names) (areas : MemberAreas) → AreMemberAreas members areas → length members ≡ length areas.places.items
each_place members areas is = stand_length areas.names.items members areas.places.items is.stand
