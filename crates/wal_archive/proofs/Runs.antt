-- Bytes side by side.
use Rattle.std.proofs.Common.{◌≡◌, ℕ, zero, suc, ◌+◌, ◌<◌, List, [], ◌∷◌, length, get_or, Option, Some, None, refl, ap, subst, ◌∙◌, arith}
use Rattle.std.specs.Prelude.{Result, Ok, Err}
use Rattle.wal_archive.specs.Archive.{Archive}
use Rattle.wal_archive.specs.declared.fault.Damage.{Damage}
use Rattle.wal_archive.specs.Rules.{◌>>=◌, held_or, not_held, bytes_at}

-- the archive holds these bytes from a place on
abbrev pub Holds : Archive → ℕ → List ℕ → Type 0
Holds a x l = (i : ℕ) → i < length l → a.byte (x + i) ≡ Some (get_or l i 0)

pub bytes_held : (a : Archive) (mib begin x n : ℕ) (l : List ℕ) → length l ≡ n → Holds a x l
    → bytes_at a mib begin x n ≡ Ok l
unfolding bytes_at
bytes_held a mib begin x zero [] len h = refl
bytes_held a mib begin x zero (b ∷ l) len h = absurd (omega (arith, len))
bytes_held a mib begin x (suc n) [] len h = absurd (omega (arith, len))
bytes_held a mib begin x (suc n) (b ∷ l) len h =
    let here : a.byte x ≡ Some b = ap a.byte (let e : x ≡ x + 0 = omega arith in e)
    ∙ h 0 (omega arith) in
    let more : bytes_at a mib begin (x + 1) n ≡ Ok l =
    bytes_held a mib begin (x + 1) n l (omega (arith, len))
    (λ i lt. ap a.byte (let e : x + 1 + i ≡ x + (suc i) = omega arith in e)
    ∙ h (suc i) (omega (arith, lt))) in
    rw (here, more) refl

abbrev pub ok : List ℕ → Result (List ℕ) Damage
ok l = Ok l

-- a step that went well
pub ok_bind : {A B : Type 0} (r : Result A Damage) (f : A → Result B Damage) (y : B)
    → (r >>= f) ≡ Ok y → (x : A) × (r ≡ Ok x) × (f x ≡ Ok y)
ok_bind (Ok x) f y e = (x, refl, e)
ok_bind (Err d) f y e = absurd cc

pub ok_same : {A : Type 0} (x y : A) → ◌≡◌ {A = Result A Damage} (Ok x) (Ok y) → x ≡ y
ok_same x y e = cc

pub ok_held : (d : Damage) (o : Option ℕ) (b : ℕ) → held_or d o ≡ Ok b → o ≡ Some b
ok_held d None b e = absurd cc
ok_held d (Some c) b e = ap Some (ok_same c b e)

pub record IsRun (a : Archive) (x n : ℕ) (l : List ℕ) : Type 0 where
  pub len : length l ≡ n
  pub held : Holds a x l

pub held_bytes : (a : Archive) (mib begin x n : ℕ) (l : List ℕ) → bytes_at a mib begin x n ≡ Ok l
    → IsRun a x n l
unfolding bytes_at
held_bytes a mib begin x zero l e = let none : [] ≡ l = ok_same [] l e in
    subst (λ k. IsRun a x 0 k) none
    (record { len = refl; held = λ i lt. absurd (omega (arith, lt)) })
held_bytes a mib begin x (suc n) l e =
    let s = ok_bind (held_or (not_held a mib begin x) (a.byte x)) _ l e in
    let b = s.0 in
    let here : a.byte x ≡ Some b = ok_held _ (a.byte x) b s.1 in
    let t = ok_bind (bytes_at a mib begin (x + 1) n) _ l s.2 in
    let bs = t.0 in
    let more = held_bytes a mib begin (x + 1) n bs t.1 in
    let same : b ∷ bs ≡ l = ok_same (b ∷ bs) l t.2 in
    subst (λ k. IsRun a x (suc n) k) same
    (record { len = omega (arith, more.len); held = held_cons a x b bs here more.held })
  where
    held_cons : (a : Archive) (x b : ℕ) (bs : List ℕ) → a.byte x ≡ Some b → Holds a (x + 1) bs
        → Holds a x (b ∷ bs)
    held_cons a x b bs here more zero lt = ap a.byte (let e : x + 0 ≡ x = omega arith in e) ∙ here
    held_cons a x b bs here more (suc i) lt =
        ap a.byte (let e : x + suc i ≡ x + 1 + i = omega arith in e) ∙ more i (omega (arith, lt))
