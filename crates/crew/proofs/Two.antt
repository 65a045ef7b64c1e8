-- Two of the areas that a worker holds, worked on at once.
use Rattle.std.proofs.Common.{◌≡◌, ◌≢◌, ℕ, zero, suc, ◌+◌, ◌<◌, ◌≤◌, Bool, cond, not, ltb, length, take, drop, get_or, set, List, [], ◌∷◌, ◌++◌, Some, None, refl, sym, ap, subst, ◌∙◌, arith}
use Rattle.std.specs.Prelude.{bytes_eq}
use Rattle.std.specs.List.{position, position_or_len}
use Rattle.std.proofs.lemmas.Slice.Eq.{bytes_eq-Decides}
use Rattle.std.proofs.lemmas.List.Quantifiers.{position-Some}
use Rattle.vault.specs.declared.area.Vault.{Ghosts}
use Rattle.vault.specs.declared.lending.Held.{Held}
use Rattle.vault.specs.Site.{state_in}
use Rattle.vault.specs.Lending.{IsNoneOf, AreLater}
use Rattle.vault.proofs.LentAreas.{later_again}
use Rattle.store_locks.specs.Seen.{Seen}
use Rattle.command_base.specs.Areas.{backup_name}
use Rattle.scripts.specs.declared.script.Command.TheVariants as command
use Rattle.crew.specs.declared.increments.Turn.{Turn}
use Rattle.crew.specs.declared.increments.Turn.TheVariants as place
use Rattle.crew.specs.Backups.{area_asked, areas_of}
use Rattle.crew.specs.Running.{AreIncrAreas, IsLater, prior_in, out_in, turned_site}
use Rattle.crew.proofs.Held.{has_name, changed, Changed}

-- ---- lists

set_back : {A : Type 0} (xs : List A) (high : ℕ) (z : A) → high < length xs → take high xs ++ set (drop high xs) 0 z ≡ set xs high z
set_back [] high z within = absurd (omega (arith, within))
set_back (a ∷ xs) zero z within = refl
set_back {A = A} (a ∷ xs) (suc high) z within = ap (λ (ys : List A). a ∷ ys) (set_back xs high z (omega (arith, within)))

-- a list that was cut at a place, with an element of each part worked on
set_parts : {A : Type 0} (xs : List A) (low high : ℕ) (x z : A) → low < high → high < length xs → set (take high xs) low x ++ set (drop high xs) 0 z ≡ set (set xs low x) high z
set_parts [] low high x z order within = absurd (omega (arith, within))
set_parts (a ∷ xs) low zero x z order within = absurd (omega (arith, order))
set_parts {A = A} (a ∷ xs) zero (suc high) x z order within = ap (λ (ys : List A). x ∷ ys) (set_back xs high z (omega (arith, within)))
set_parts {A = A} (a ∷ xs) (suc low) (suc high) x z order within = ap (λ (ys : List A). a ∷ ys) (set_parts xs low high x z (omega (arith, order)) (omega (arith, within)))

get_other : {A : Type 0} (xs : List A) (i j : ℕ) (x d : A) → i ≢ j → get_or (set xs i x) j d ≡ get_or xs j d
get_other [] i j x d other = refl
get_other (a ∷ xs) zero zero x d other = absurd (other refl)
get_other (a ∷ xs) zero (suc j) x d other = refl
get_other (a ∷ xs) (suc i) zero x d other = refl
get_other (a ∷ xs) (suc i) (suc j) x d other = get_other xs i j x d (λ is. other (ap suc is))

same_place : {A : Type 0} (p : A → Bool) (xs : List A) (at : ℕ) (x d : A) → p x ≡ p (get_or xs at d) → position_or_len p (set xs at x) ≡ position_or_len p xs
same_place p [] at x d same = refl
same_place p (a ∷ xs) zero x d same = ap (λ (b : Bool). cond (not b) (1 + position_or_len p xs) 0) same
same_place p (a ∷ xs) (suc at) x d same = ap (λ (n : ℕ). cond (not (p a)) (1 + n) 0) (same_place p xs at x d same)

same_length : {A : Type 0} (xs : List A) (at : ℕ) (x : A) → length (set xs at x) ≡ length xs
same_length [] at x = refl
same_length (a ∷ xs) zero x = refl
same_length (a ∷ xs) (suc at) x = ap suc (same_length xs at x)

-- names stand where they stood when an area was worked on
same_position : {V : Type 0} (n : List ℕ) (held : List (Held V)) (at : ℕ) (now d : Held V) → now.name ≡ (get_or held at d).name → position (has_name n) (set held at now) ≡ position (has_name n) held
same_position n held at now d named =
    let place : position_or_len (has_name n) (set held at now) ≡ position_or_len (has_name n) held = same_place (has_name n) held at now d (ap (λ (m : List ℕ). bytes_eq m n) named) in
    ap (λ (k : ℕ). cond (ltb k (length (set held at now))) (Some k) None) place
    ∙ ap (λ (size : ℕ). cond (ltb (position_or_len (has_name n) held) size) (Some (position_or_len (has_name n) held)) None) (same_length held at now)

-- ---- two areas by their names

record TwoChanged {V : Type 0} (g : Ghosts V) (held new : List (Held V)) (first second : List ℕ) (a c x z : V) : Type 0 where
  first_was : areas_of g held first ≡ state_in g a
  second_was : areas_of g held second ≡ state_in g c
  first_is : areas_of g new first ≡ state_in g x
  second_is : areas_of g new second ≡ state_in g z
  others : (n : List ℕ) → n ≢ first → n ≢ second → areas_of g new n ≡ areas_of g held n
  later : AreLater g held new

two_changed : {V : Type 0} (g : Ghosts V) (held : List (Held V)) (low high : ℕ) (d x z : Held V) (first second : List ℕ) → low < high → first ≢ second → position (has_name first) held ≡ Some low → position (has_name second) held ≡ Some high
    → IsLater g (get_or held low d) x → IsLater g (get_or held high d) z → TwoChanged g held (set (set held low x) high z) first second (get_or held low d).area (get_or held high d).area x.area z.area
two_changed g held low high d x z first second order apart at_low at_high lx lz =
    let top = set held low x in
    let same : get_or top high d ≡ get_or held high d = get_other held low high x d (λ is. absurd (omega (arith, order, is))) in
    let named : z.name ≡ (get_or top high d).name = lz.named ∙ ap (λ (h : Held _). h.name) (sym same) in
    let c1 : Changed g held top first (get_or held low d).area x.area = changed g held first low d x at_low lx.named in
    let c2 : Changed g top (set top high z) second (get_or top high d).area z.area = changed g top second high d z (same_position second held low x d lx.named ∙ at_high) named in
    record {
      first_was = c1.here;
      second_was = sym (c1.others second (λ is. apart (sym is))) ∙ (c2.here ∙ ap (λ (h : Held _). state_in g h.area) same);
      first_is = c2.others first apart ∙ c1.there;
      second_is = c2.there;
      others = λ n u w. c2.others n w ∙ c1.others n u;
      later = later_again g held top (set top high z) (c1.later lx.later) (c2.later (subst (λ (h : Held _). g.faults h.area ≤ g.faults z.area) (sym same) lz.later));
    }

-- ---- which is which

pub record TwoLent {V : Type 0} (g : Ghosts V) (name prior : List ℕ) (turn : Turn) (held new : List (Held V)) (a c x z : V) : Type 0 where
  pub was : (seen : Seen) → AreIncrAreas g name prior (areas_of g held) (turned_site turn seen a c)
  pub is : (seen : Seen) → AreIncrAreas g name prior (areas_of g new) (turned_site turn seen x z)
  pub others : (n : List ℕ) → IsNoneOf n (area_asked (command.Incr name prior)) → areas_of g new n ≡ areas_of g held n
  pub later : AreLater g held new

pub same_backup : (a b : List ℕ) → backup_name a ≡ backup_name b → a ≡ b
same_backup a b is = cc is

two_lent : {V : Type 0} (g : Ghosts V) (name prior : List ℕ) (turn : Turn) (held : List (Held V)) (low high : ℕ) (d x z : Held V) → name ≢ prior → low < high
    → position (has_name (backup_name prior)) held ≡ Some (prior_in turn low high) → position (has_name (backup_name name)) held ≡ Some (out_in turn low high) → IsLater g (get_or held low d) x → IsLater g (get_or held high d) z
    → TwoLent g name prior turn held (set (set held low x) high z) (get_or held low d).area (get_or held high d).area x.area z.area
two_lent g name prior place.PriorOut held low high d x z apart order prior_at out_at lx lz =
    let t = two_changed g held low high d x z (backup_name prior) (backup_name name) order (λ is. apart (sym (same_backup prior name is))) prior_at out_at lx lz in
    record {
      was = λ seen. record { prior_is = t.first_was; out_is = t.second_was };
      is = λ seen. record { prior_is = t.first_is; out_is = t.second_is };
      others = λ n none. t.others n none.1.0 none.0;
      later = t.later;
    }
two_lent g name prior place.OutPrior held low high d x z apart order prior_at out_at lx lz =
    let t = two_changed g held low high d x z (backup_name name) (backup_name prior) order (λ is. apart (same_backup name prior is)) out_at prior_at lx lz in
    record {
      was = λ seen. record { prior_is = t.second_was; out_is = t.first_was };
      is = λ seen. record { prior_is = t.second_is; out_is = t.first_is };
      others = λ n none. t.others n none.0 none.1.0;
      later = t.later;
    }

-- areas of two names stand at two places
differ : {V : Type 0} (held : List (Held V)) (first second : List ℕ) (i j : ℕ) (d : Held V) → first ≢ second → position (has_name first) held ≡ Some i → position (has_name second) held ≡ Some j → i ≢ j
differ held first second i j d apart at_first at_second = λ same.
    let p = position-Some (has_name first) held i d at_first in
    let q = position-Some (has_name second) held j d at_second in
    let named : (get_or held i d).name ≡ first = (bytes_eq-Decides (get_or held i d).name first).0 p.1 in
    let other : (get_or held j d).name ≡ second = (bytes_eq-Decides (get_or held j d).name second).0 q.1 in
    apart (sym named ∙ (ap (λ (k : ℕ). (get_or held k d).name) same ∙ other))

pub places_apart : {V : Type 0} (held : List (Held V)) (first second : List ℕ) (i j : ℕ) → first ≢ second → position (has_name first) held ≡ Some i → position (has_name second) held ≡ Some j → i ≢ j
places_apart [] first second i j apart at_first at_second = absurd cc
places_apart (d ∷ held) first second i j apart at_first at_second = differ (d ∷ held) first second i j d apart at_first at_second

pub in_held : {V : Type 0} (held : List (Held V)) (name : List ℕ) (at : ℕ) (d : Held V) → position (has_name name) held ≡ Some at → at < length held
in_held held name at d is = (position-Some (has_name name) held at d is).0

-- ---- parts of what is held

get_same : {A : Type 0} (xs : List A) (at : ℕ) (d e : A) → at < length xs → get_or xs at d ≡ get_or xs at e
get_same [] at d e within = absurd (omega (arith, within))
get_same (a ∷ xs) zero d e within = refl
get_same (a ∷ xs) (suc at) d e within = get_same xs at d e (omega (arith, within))

get_front : {A : Type 0} (xs : List A) (n at : ℕ) (d : A) → at < n → n ≤ length xs → get_or (take n xs) at d ≡ get_or xs at d
get_front [] n at d lt within = absurd (omega (arith, lt, within))
get_front (a ∷ xs) zero at d lt within = absurd (omega (arith, lt))
get_front (a ∷ xs) (suc n) zero d lt within = refl
get_front (a ∷ xs) (suc n) (suc at) d lt within = get_front xs n at d (omega (arith, lt)) (omega (arith, within))

get_back : {A : Type 0} (xs : List A) (n : ℕ) (d : A) → n < length xs → get_or (drop n xs) 0 d ≡ get_or xs n d
get_back [] n d within = absurd (omega (arith, within))
get_back (a ∷ xs) zero d within = refl
get_back (a ∷ xs) (suc n) d within = get_back xs n d (omega (arith, within))

-- what was worked on, of two parts
pub two_parts : {V : Type 0} (g : Ghosts V) (name prior : List ℕ) (turn : Turn) (held front back : List (Held V)) (low high : ℕ) (d f x z : Held V) → name ≢ prior → low < high → high < length held
    → position (has_name (backup_name prior)) held ≡ Some (prior_in turn low high) → position (has_name (backup_name name)) held ≡ Some (out_in turn low high) → front ≡ take high held → back ≡ drop high held
    → IsLater g (get_or front low d) x → IsLater g (get_or back 0 f) z → TwoLent g name prior turn held (set front low x ++ set back 0 z) (get_or front low d).area (get_or back 0 f).area x.area z.area
two_parts {V = A} g name prior turn held front back low high d f x z apart order within prior_at out_at f1 f2 lx lz =
    let at_a : get_or front low d ≡ get_or held low d = ap (λ (xs : List (Held A)). get_or xs low d) f1 ∙ get_front held high low d order (omega (arith, within)) in
    let at_c : get_or back 0 f ≡ get_or held high d = ap (λ (xs : List (Held A)). get_or xs 0 f) f2 ∙ (get_back held high f within ∙ get_same held high f d within) in
    let lent : TwoLent g name prior turn held (set (set held low x) high z) (get_or held low d).area (get_or held high d).area x.area z.area =
    two_lent g name prior turn held low high d x z apart order prior_at out_at (subst (λ (h : Held A). IsLater g h x) at_a lx) (subst (λ (h : Held A). IsLater g h z) at_c lz) in
    let new : set front low x ++ set back 0 z ≡ set (set held low x) high z =
    ap (λ (xs : List (Held A)). set xs low x ++ set back 0 z) f1 ∙ (ap (λ (xs : List (Held A)). set (take high held) low x ++ set xs 0 z) f2 ∙ set_parts held low high x z order within) in
    subst (λ (xs : List (Held A)). TwoLent g name prior turn held xs (get_or front low d).area (get_or back 0 f).area x.area z.area) (sym new)
    (subst (λ (h : Held A). TwoLent g name prior turn held (set (set held low x) high z) h.area (get_or back 0 f).area x.area z.area) (sym at_a)
    (subst (λ (h : Held A). TwoLent g name prior turn held (set (set held low x) high z) (get_or held low d).area h.area x.area z.area) (sym at_c) lent))
