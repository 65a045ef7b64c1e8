-- The areas that a worker holds, by their names.
use Rattle.std.proofs.Common.{◌≡◌, ◌≢◌, ℕ, zero, suc, ◌+◌, ◌<◌, ◌≤◌, Bool, true, false, cond, not, ltb, length, get_or, set, List, [], ◌∷◌, ◌++◌, Some, None, refl, sym, ap, subst, ◌∙◌, arith, inl, inr}
use Rattle.std.specs.Prelude.{bytes_eq}
use Rattle.std.specs.List.{position, position_or_len}
use Rattle.std.proofs.lemmas.Bool.{ltb-false}
use Rattle.std.proofs.lemmas.Slice.Eq.{bytes_eq-Decides}
use Rattle.std.proofs.lemmas.List.Quantifiers.{position-Some}
use Rattle.vault.specs.declared.area.Vault.{Ghosts}
use Rattle.vault.specs.declared.lending.Held.{Held}
use Rattle.vault.specs.Site.{Areas, AreaState, state_in}
use Rattle.vault.specs.Lending.{Names, IsOneOf, AreLater, names_of}
use Rattle.vault.proofs.SetAreas.{set_at-same, set_at-other, same_or_not}
use Rattle.vault.proofs.LentAreas.{later_set, later_named}
use Rattle.scripts.specs.declared.script.Line.{Line}
use Rattle.crew.specs.Backups.{area_asked, areas_asked, areas_of, AreHeld}
use Rattle.crew.specs.Run.{OnlyAt}

-- whether an area has a name
abbrev pub has_name : {V : Type 0} → List ℕ → Held V → Bool
has_name name one = bytes_eq one.name name

pub later_same : {V : Type 0} (g : Ghosts V) (held : List (Held V)) → AreLater g held held
later_same g [] = tt
later_same g (one ∷ held) = (refl, omega arith, later_same g held)

-- ---- where an area stands

less_by : (b : Bool) (n m : ℕ) → n < m → cond (not b) (1 + n) 0 < suc m
less_by true n m lt = omega arith
less_by false n m lt = omega (arith, lt)

within : {V : Type 0} (held : List (Held V)) (name : List ℕ) → IsOneOf name (names_of held) → position_or_len (has_name name) held < length held
within [] name one = absurd one
within (one ∷ held) name (inl is) =
    let here : bytes_eq one.name name ≡ true = (bytes_eq-Decides one.name name).1 (sym is) in
    rw here (omega arith)
within (one ∷ held) name (inr later) = less_by (bytes_eq one.name name) (position_or_len (has_name name) held) (length held) (within held name later)

cond_none : (b : Bool) (n : ℕ) → cond b (Some n) None ≡ None → b ≡ false
cond_none true n e = absurd cc
cond_none false n e = refl

-- what is held is found
pub found : {V : Type 0} (held : List (Held V)) (name : List ℕ) → IsOneOf name (names_of held) → position (has_name name) held ≡ None → ⊥
found held name one none =
    let past : length held ≤ position_or_len (has_name name) held = ltb-false _ _ (cond_none (ltb (position_or_len (has_name name) held) (length held)) (position_or_len (has_name name) held) none) in
    absurd (omega (arith, past, within held name one))

-- what lines ask for, each of them does
one_front : (n : List ℕ) (front rest : Names) → IsOneOf n front → IsOneOf n (front ++ rest)
one_front n [] rest one = absurd one
one_front n (first ∷ front) rest (inl is) = inl is
one_front n (first ∷ front) rest (inr later) = inr (one_front n front rest later)

one_back : (n : List ℕ) (front rest : Names) → IsOneOf n rest → IsOneOf n (front ++ rest)
one_back n [] rest one = one
one_back n (first ∷ front) rest one = inr (one_back n front rest one)

asked_at : (lines : List Line) (k : ℕ) (line : Line) (n : List ℕ) → k < length lines → line ≡ get_or lines k line → IsOneOf n (area_asked line.command) → IsOneOf n (areas_asked lines)
asked_at [] k line n lt is one = absurd (omega (arith, lt))
asked_at (first ∷ lines) zero line n lt is one = one_front n (area_asked first.command) (areas_asked lines) (subst (λ (l : Line). IsOneOf n (area_asked l.command)) is one)
asked_at (first ∷ lines) (suc k) line n lt is one = one_back n (area_asked first.command) (areas_asked lines) (asked_at lines k line n (omega (arith, lt)) is one)

pub line_held : {V : Type 0} (g : Ghosts V) (held now : List (Held V)) (lines : List Line) (k : ℕ) (line : Line) → AreHeld (areas_asked lines) held → AreLater g held now → k < length lines → line ≡ get_or lines k line → AreHeld (area_asked line.command) now
line_held g held now lines k line all later lt is n one = subst (λ (ns : Names). IsOneOf n ns) (sym (later_named g held now later)) (all n (asked_at lines k line n lt is one))

-- ---- the area of a name

area_first : {V : Type 0} (g : Ghosts V) (held : List (Held V)) (name : List ℕ) (at : ℕ) (d : Held V) → ((k : ℕ) → k < at → bytes_eq (get_or held k d).name name ≡ false) → at < length held → (get_or held at d).name ≡ name
    → areas_of g held name ≡ state_in g (get_or held at d).area
area_first g [] name at d none lt named = absurd (omega (arith, lt))
area_first g (one ∷ held) name zero d none lt named =
    ap (areas_of g (one ∷ held)) (sym named) ∙ set_at-same (areas_of g held) one.name (state_in g one.area)
area_first g (one ∷ held) name (suc at) d none lt named =
    let other : name ≢ one.name = λ is. absurd (let yes : bytes_eq one.name name ≡ true = (bytes_eq-Decides one.name name).1 (sym is) in let no : bytes_eq one.name name ≡ false = none zero (omega arith) in cc (yes, no)) in
    set_at-other (areas_of g held) one.name name (state_in g one.area) other
    ∙ area_first g held name at d (λ k l. none (suc k) (omega (arith, l))) (omega (arith, lt)) named

area_set : {V : Type 0} (g : Ghosts V) (held : List (Held V)) (name : List ℕ) (at : ℕ) (d now : Held V) → ((k : ℕ) → k < at → bytes_eq (get_or held k d).name name ≡ false) → at < length held → now.name ≡ name
    → areas_of g (set held at now) name ≡ state_in g now.area
area_set g [] name at d now none lt named = absurd (omega (arith, lt))
area_set g (one ∷ held) name zero d now none lt named =
    ap (areas_of g (now ∷ held)) (sym named) ∙ set_at-same (areas_of g held) now.name (state_in g now.area)
area_set g (one ∷ held) name (suc at) d now none lt named =
    let other : name ≢ one.name = λ is. absurd (let yes : bytes_eq one.name name ≡ true = (bytes_eq-Decides one.name name).1 (sym is) in let no : bytes_eq one.name name ≡ false = none zero (omega arith) in cc (yes, no)) in
    set_at-other (areas_of g (set held at now)) one.name name (state_in g one.area) other
    ∙ area_set g held name at d now (λ k l. none (suc k) (omega (arith, l))) (omega (arith, lt)) named

others_set : {V : Type 0} (g : Ghosts V) (held : List (Held V)) (name n : List ℕ) (at : ℕ) (d now : Held V) → at < length held → (get_or held at d).name ≡ name → now.name ≡ name → n ≢ name
    → areas_of g (set held at now) n ≡ areas_of g held n
others_set g [] name n at d now lt named same other = absurd (omega (arith, lt))
others_set g (one ∷ held) name n zero d now lt named same other =
    set_at-other (areas_of g held) now.name n (state_in g now.area) (λ is. other (is ∙ same))
    ∙ sym (set_at-other (areas_of g held) one.name n (state_in g one.area) (λ is. other (is ∙ named)))
others_set g (one ∷ held) name n (suc at) d now lt named same other =
    elim (same_or_not n one.name) [
      | inl is ↦ ap (areas_of g (one ∷ set held at now)) is ∙ (set_at-same (areas_of g (set held at now)) one.name (state_in g one.area)
          ∙ (sym (set_at-same (areas_of g held) one.name (state_in g one.area)) ∙ ap (areas_of g (one ∷ held)) (sym is)))
      | inr apart ↦ set_at-other (areas_of g (set held at now)) one.name n (state_in g one.area) apart
          ∙ (others_set g held name n at d now (omega (arith, lt)) named same other
          ∙ sym (set_at-other (areas_of g held) one.name n (state_in g one.area) apart))
    ]

-- an area was worked on that was found by its name
pub record Changed {V : Type 0} (g : Ghosts V) (held new : List (Held V)) (name : List ℕ) (was now : V) : Type 0 where
  pub here : areas_of g held name ≡ state_in g was
  pub there : areas_of g new name ≡ state_in g now
  pub others : (n : List ℕ) → n ≢ name → areas_of g new n ≡ areas_of g held n
  pub later : g.faults was ≤ g.faults now → AreLater g held new

pub changed : {V : Type 0} (g : Ghosts V) (held : List (Held V)) (name : List ℕ) (at : ℕ) (d now : Held V) → position (has_name name) held ≡ Some at → now.name ≡ (get_or held at d).name
    → Changed g held (set held at now) name (get_or held at d).area now.area
changed g held name at d now is same =
    let p = position-Some (has_name name) held at d is in
    let named : (get_or held at d).name ≡ name = (bytes_eq-Decides (get_or held at d).name name).0 p.1 in
    record {
      here = area_first g held name at d p.2 p.0 named;
      there = area_set g held name at d now p.2 p.0 (same ∙ named);
      others = λ n other. others_set g held name n at d now p.0 named (same ∙ named) other;
      later = λ rises. later_set g held at d now p.0 same rises;
    }

pub files_at : {V : Type 0} (g : Ghosts V) (area : V) (x : AreaState) → x ≡ state_in g area → x.files ≡ g.files area
files_at g area x is = ap (λ (s : AreaState). s.files) is

pub only_at : {V : Type 0} (g : Ghosts V) (area now : V) (name : List ℕ) (held mid : Areas) → held name ≡ state_in g area → mid name ≡ state_in g now → ((n : List ℕ) → n ≢ name → mid n ≡ held n) → g.faults area ≤ g.faults now → OnlyAt name held mid
only_at g area now name held mid was is others later = record {
  others = others;
  later = omega (arith, later, ap (λ (s : AreaState). s.faults) was, ap (λ (s : AreaState). s.faults) is);
}
