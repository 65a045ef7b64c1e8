-- Beginnings of one list, and parts of one in order.
use Rattle.std.proofs.Common.{◌≡◌, ℕ, zero, suc, ◌+◌, ◌≤◌, ◌⊎◌, inl, inr, List, [], ◌∷◌, ◌++◌, length, take, drop, slice_get, Some, refl, ap, sym, subst, ◌∙◌, arith, append_assoc, length-append}
use Rattle.std.proofs.lemmas.List.{take-append-le, drop-append-le, take-append-drop, length-take-le, take_all}
use mathlib.Core.List.{IsPrefix}

pub prefix_self : {A : Type 0} (xs : List A) → IsPrefix xs xs
prefix_self [] = ([], refl)
prefix_self (x ∷ xs) = (let r = prefix_self xs in r.0, ap (λ ys. x ∷ ys) (prefix_self xs).1)

pub prefix_trans : {A : Type 0} (xs ys zs : List A) → IsPrefix xs ys → IsPrefix ys zs → IsPrefix xs zs
prefix_trans xs ys zs p q = (p.0 ++ q.0, sym (append_assoc xs p.0 q.0) ∙ (ap (λ w. w ++ q.0) p.1 ∙ q.1))

pub prefix_length : {A : Type 0} (xs ys : List A) → IsPrefix xs ys → length xs ≤ length ys
prefix_length xs ys p = omega (arith, sym (ap length p.1) ∙ length-append xs p.0)

pub prefix_get : {A : Type 0} (xs ys : List A) (k : ℕ) (x : A) → IsPrefix xs ys → slice_get xs k ≡ Some x → slice_get ys k ≡ Some x
prefix_get [] ys k x p h = absurd cc
prefix_get (y ∷ xs) [] k x p h = absurd (cc (p.1))
prefix_get (y ∷ xs) (z ∷ ys) zero x p h = cc (p.1, h)
prefix_get (y ∷ xs) (z ∷ ys) (suc k) x p h = prefix_get xs ys k x (p.0, cc (p.1)) h

pub prefix_take : {A : Type 0} (xs ys : List A) (n : ℕ) → IsPrefix xs ys → n ≤ length xs → take n ys ≡ take n xs
prefix_take xs ys n p le = sym (ap (take n) p.1) ∙ take-append-le n xs p.0 le

-- what stands behind a list
pub next_there : {A : Type 0} (xs : List A) (x : A) (ys : List A) → slice_get (xs ++ (x ∷ ys)) (length xs) ≡ Some x
next_there [] x ys = refl
next_there (y ∷ xs) x ys = next_there xs x ys

pub up_to_here : {A : Type 0} (xs ys : List A) → take (length xs) (xs ++ ys) ≡ xs
up_to_here xs ys = take-append-le (length xs) xs ys (omega arith) ∙ take_all (length xs) xs (omega arith)

-- what stands from one place on is what stands up to a later one and what stands from that on
pub cut_at : {A : Type 0} (xs : List A) (from next : ℕ) → from ≤ next → next ≤ length xs → drop from xs ≡ drop from (take next xs) ++ drop next xs
cut_at xs from next le within =
    let fits : from ≤ length (take next xs) = omega (arith, le, length-take-le next xs within) in
    sym (ap (drop from) (take-append-drop next xs)) ∙ drop-append-le from (take next xs) (drop next xs) fits

-- an element at a place, what stands before and behind it
pub around : {A : Type 0} (xs : List A) (from i j : ℕ) (x : A) → from ≤ i → slice_get xs i ≡ Some x → j ≡ i + 1 → (front : List A) × (drop from xs ≡ front ++ (x ∷ drop j xs))
around [] from i j x le at e = absurd cc
around (y ∷ xs) zero zero zero x le at e = absurd (omega (arith, e))
around (y ∷ xs) zero zero (suc j) x le at e =
    let none : j ≡ 0 = omega (arith, e) in
    ([], subst (λ (n : ℕ). y ∷ xs ≡ x ∷ drop n xs) (sym none) (cc at))
around (y ∷ xs) zero (suc i) zero x le at e = absurd (omega (arith, e))
around (y ∷ xs) zero (suc i) (suc j) x le at e = let r = around xs zero i j x (omega arith) at (omega (arith, e)) in (y ∷ r.0, ap (λ zs. y ∷ zs) r.1)
around (y ∷ xs) (suc from) zero j x le at e = absurd (omega (arith, le))
around (y ∷ xs) (suc from) (suc i) zero x le at e = absurd (omega (arith, e))
around (y ∷ xs) (suc from) (suc i) (suc j) x le at e = around xs from i j x (omega (arith, le)) at (omega (arith, e))

-- elements of a list, in its order
abbrev pub IsSublist : {A : Type 0} → List A → List A → Type 0
IsSublist [] ys = Unit {0}
IsSublist (x ∷ xs) [] = ⊥
IsSublist (x ∷ xs) (y ∷ ys) = ((x ≡ y) × IsSublist xs ys) ⊎ IsSublist (x ∷ xs) ys

pub sub_front : {A : Type 0} (xs ys zs : List A) → IsSublist xs ys → IsSublist xs (zs ++ ys)
sub_front [] ys zs s = tt
sub_front (x ∷ xs) ys [] s = s
sub_front (x ∷ xs) ys (z ∷ zs) s = inr (sub_front (x ∷ xs) ys zs s)

pub sub_join : {A : Type 0} (xs ys zs ws : List A) → IsSublist xs ys → IsSublist zs ws → IsSublist (xs ++ zs) (ys ++ ws)
sub_join [] ys zs ws s t = sub_front zs ws ys t
sub_join (x ∷ xs) [] zs ws s t = absurd s
sub_join (x ∷ xs) (y ∷ ys) zs ws s t = elim s [
  | inl m ↦ inl (m.0, sub_join xs ys zs ws m.1 t)
  | inr m ↦ inr (sub_join (x ∷ xs) ys zs ws m t)
]

pub sub_length : {A : Type 0} (xs ys : List A) → IsSublist xs ys → length xs ≤ length ys
sub_length [] ys s = omega arith
sub_length (x ∷ xs) [] s = absurd s
sub_length (x ∷ xs) (y ∷ ys) s = elim s [
  | inl m ↦ omega (arith, sub_length xs ys m.1)
  | inr m ↦ omega (arith, sub_length (x ∷ xs) ys m)
]

pub sub_whole : {A : Type 0} (xs ys : List A) → IsSublist xs ys → length ys ≤ length xs → xs ≡ ys
sub_whole [] [] s le = refl
sub_whole [] (y ∷ ys) s le = absurd (omega (arith, le))
sub_whole (x ∷ xs) [] s le = absurd s
sub_whole (x ∷ xs) (y ∷ ys) s le = elim s [
  | inl m ↦ let rest : xs ≡ ys = sub_whole xs ys m.1 (omega (arith, le)) in cc (m.0, rest)
  | inr m ↦ absurd (let l : length (x ∷ xs) ≤ length ys = sub_length (x ∷ xs) ys m in omega (arith, l, le))
]
