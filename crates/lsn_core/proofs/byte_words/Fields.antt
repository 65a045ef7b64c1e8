-- A number that is read is the number that was written, and what was written is read again.
use Rattle.std.proofs.Common.{◌≡◌, ℕ, ◌+◌, ◌%◌, ◌^◌, ◌<◌, ◌≤◌, Bool, true, false, cond, ltb, List, [], ◌∷◌, ◌++◌, length, take, drop, Option, Some, None, refl, sym, ap, subst, ◌∙◌, arith, inl, inr}
use Rattle.std.specs.Int.{Width, w8, w16, w32, w64, byte_len, from_le_bytes, to_le_bytes}
use Rattle.std.proofs.lemmas.Bool.{cases_lt, ltb-false, le-ltb}
use Rattle.std.proofs.lemmas.List.{take_at, drop_at, take-append-drop, length-append, length-take, get_or-drop, get_or-take, get_or_past}
use Rattle.std.proofs.lemmas.Nat.{le_bytes_2, le_bytes_4, le_bytes_8, from_le_bytes-to_le_bytes_2, from_le_bytes-to_le_bytes_4, from_le_bytes-to_le_bytes_8}
use Rattle.lsn_core.specs.byte_words.Numbers.{IsBytes, ◌>>=◌, number_at, u32_in}

pub IsBytes-drop : (n : ℕ) (bytes : List ℕ) → IsBytes bytes → IsBytes (drop n bytes)
IsBytes-drop n bytes h i = rw get_or-drop (h (n + i))

pub IsBytes-take : (n : ℕ) (bytes : List ℕ) → IsBytes bytes → IsBytes (take n bytes)
IsBytes-take n bytes h i =
    elim (cases_lt i n) [
      | inl lt ↦ rw (get_or-take n bytes i 0 lt) (h i)
      | inr le ↦ rw (get_or_past (take n bytes) i 0 (omega (arith, length-take n bytes))) (omega arith)
    ]

-- a width at which the bytes of a number and the number of bytes undo each other
pub record IsWide (w : Width) (limit : ℕ) : Type 0 where
  pub len : (n : ℕ) → length (to_le_bytes w n) ≡ byte_len w
  pub back : (bytes : List ℕ) → length bytes ≡ byte_len w → IsBytes bytes → to_le_bytes w (from_le_bytes w bytes) ≡ bytes
  pub again : (n : ℕ) → n < limit → from_le_bytes w (to_le_bytes w n) ≡ n
  pub below : (bytes : List ℕ) → IsBytes bytes → from_le_bytes w bytes < limit

-- one byte
back_one : (bytes : List ℕ) → length bytes ≡ 1 → IsBytes bytes → to_le_bytes w8 (from_le_bytes w8 bytes) ≡ bytes
back_one [] len fits = absurd (omega (arith, len))
back_one (b ∷ []) len fits = let small : b < 256 = fits 0 in let e : (b % 256) ≡ b = omega arith in ap (λ (n : ℕ). n ∷ []) e
back_one (b ∷ (c ∷ bs)) len fits = absurd (omega (arith, len))

pub wide8 : IsWide w8 (2 ^ 8)
wide8 = record {
  len = λ n. refl;
  back = λ bytes len fits. back_one bytes len fits;
  again = λ n lt. omega arith;
  below = λ bytes fits. omega (arith, fits 0);
}

pub wide16 : IsWide w16 (2 ^ 16)
wide16 = record {
  len = λ n. refl;
  back = λ bytes len fits. le_bytes_2 bytes _ len fits refl;
  again = λ n lt. from_le_bytes-to_le_bytes_2 n lt;
  below = λ bytes fits. omega (arith, fits 0, fits 1);
}

pub wide32 : IsWide w32 (2 ^ 32)
wide32 = record {
  len = λ n. refl;
  back = λ bytes len fits. le_bytes_4 bytes _ len fits refl;
  again = λ n lt. from_le_bytes-to_le_bytes_4 n lt;
  below = λ bytes fits. omega (arith, fits 0, fits 1, fits 2, fits 3);
}

pub wide64 : IsWide w64 (2 ^ 64)
wide64 = record {
  len = λ n. refl;
  back = λ bytes len fits. le_bytes_8 bytes _ len fits refl;
  again = λ n lt. from_le_bytes-to_le_bytes_8 n lt;
  below = λ bytes fits. omega (arith, fits 0, fits 1, fits 2, fits 3, fits 4, fits 5, fits 6, fits 7);
}

-- a test that did not fail
pub guard_some : {A : Type 0} (b : Bool) (x y : A) → cond b None (Some x) ≡ Some y → (b ≡ false) × (x ≡ y)
guard_some true x y e = absurd cc
guard_some false x y e = (refl, cc)

-- the value of a step that did not fail
pub bind_some : {A B : Type 0} (o : Option A) (f : A → Option B) (y : B) → (o >>= f) ≡ Some y → (x : A) × (o ≡ Some x) × (f x ≡ Some y)
bind_some (Some x) f y e = (x, refl, e)
bind_some None f y e = absurd cc

-- what a reader of a number took from the front
pub record TakesNumber (w : Width) (limit : ℕ) (bytes : List ℕ) (n : ℕ) (rest : List ℕ) : Type 0 where
  pub parts : bytes ≡ to_le_bytes w n ++ rest
  pub rest_fits : IsBytes rest
  pub bound : n < limit

pub number_takes : (w : Width) (limit : ℕ) (wide : IsWide w limit) (bytes : List ℕ) (n : ℕ) (rest : List ℕ) → IsBytes bytes → number_at w bytes ≡ Some (n, rest) → TakesNumber w limit bytes n rest
number_takes w limit wide bytes n rest fits e =
    let g = guard_some (ltb (length bytes) (byte_len w)) (from_le_bytes w (take (byte_len w) bytes), drop (byte_len w) bytes) (n, rest) e in
    let long : byte_len w ≤ length bytes = ltb-false _ _ g.0 in
    let n-is : from_le_bytes w (take (byte_len w) bytes) ≡ n = ap (λ (p : ℕ × List ℕ). p.0) g.1 in
    let rest-is : drop (byte_len w) bytes ≡ rest = ap (λ (p : ℕ × List ℕ). p.1) g.1 in
    let front : to_le_bytes w n ≡ take (byte_len w) bytes = rw (← n-is) (wide.back (take (byte_len w) bytes) (omega (arith, length-take (byte_len w) bytes)) (IsBytes-take (byte_len w) bytes fits)) in
    record {
      parts = rw (front, ← rest-is) (sym (take-append-drop (byte_len w) bytes));
      rest_fits = rw (← rest-is) (IsBytes-drop (byte_len w) bytes fits);
      bound = rw (← n-is) (wide.below (take (byte_len w) bytes) (IsBytes-take (byte_len w) bytes fits));
    }

-- one step of a reader: the number, the bytes after it, and the rest of the reading, as variables of their own
pub step : (w : Width) (limit : ℕ) (wide : IsWide w limit) {A : Type 0} (bytes : List ℕ) (f : ℕ × List ℕ → Option A) (y : A) (P : Type 0) → IsBytes bytes → (number_at w bytes >>= f) ≡ Some y
    → ((n : ℕ) (rest : List ℕ) → bytes ≡ to_le_bytes w n ++ rest → IsBytes rest → f (n, rest) ≡ Some y → n < limit → P) → P
step w limit wide bytes f y P fits e go =
    let b = bind_some (number_at w bytes) f y e in
    let t = number_takes w limit wide bytes b.0.0 b.0.1 fits b.1 in
    go b.0.0 b.0.1 t.parts t.rest_fits b.2 t.bound

-- a number that stands at the front is read
pub number_again : (w : Width) (limit : ℕ) (wide : IsWide w limit) (n : ℕ) (rest : List ℕ) → n < limit → number_at w (to_le_bytes w n ++ rest) ≡ Some (n, rest)
number_again w limit wide n rest lt =
    let len = wide.len n in
    let long : ltb (length (to_le_bytes w n ++ rest)) (byte_len w) ≡ false = le-ltb _ _ (omega (arith, length-append (to_le_bytes w n) rest)) in
    rw (long, take_at (to_le_bytes w n) rest (byte_len w) len, drop_at (to_le_bytes w n) rest (byte_len w) len, wide.again n lt) refl

-- one step of a reader, where the number stands at the front
pub step_again : (w : Width) (limit : ℕ) (wide : IsWide w limit) {A : Type 0} (bytes : List ℕ) (n : ℕ) (rest : List ℕ) (f : ℕ × List ℕ → Option A) (y : Option A) → bytes ≡ to_le_bytes w n ++ rest → n < limit → f (n, rest) ≡ y → (number_at w bytes >>= f) ≡ y
step_again w limit wide bytes n rest f y e lt go = ap (λ (l : List ℕ). number_at w l >>= f) e ∙ ap (λ (o : Option (ℕ × List ℕ)). o >>= f) (number_again w limit wide n rest lt) ∙ go

-- a number in front of bytes that are these
pub put_front : (w : Width) (n m : ℕ) (bytes rest more : List ℕ) → n ≡ m → bytes ≡ to_le_bytes w n ++ rest → rest ≡ more → bytes ≡ to_le_bytes w m ++ more
put_front w n m bytes rest more same e tail = subst (λ (k : ℕ). bytes ≡ to_le_bytes w k ++ more) same (subst (λ (l : List ℕ). bytes ≡ to_le_bytes w n ++ l) tail e)

-- the number at the front is the one at place 0
front_number : (bytes : List ℕ) → from_le_bytes w32 (take 4 bytes) ≡ u32_in bytes 0
front_number [] = omega arith
front_number (a ∷ []) = omega arith
front_number (a ∷ (b ∷ [])) = omega arith
front_number (a ∷ (b ∷ (c ∷ []))) = omega arith
front_number (a ∷ (b ∷ (c ∷ (d ∷ bytes)))) = omega arith

pub number_is : (bytes : List ℕ) (n : ℕ) (rest : List ℕ) → number_at w32 bytes ≡ Some (n, rest) → u32_in bytes 0 ≡ n
number_is bytes n rest e =
    let g = guard_some (ltb (length bytes) (byte_len w32)) (from_le_bytes w32 (take 4 bytes), drop 4 bytes) (n, rest) e in
    sym (front_number bytes) ∙ ap (λ (p : ℕ × List ℕ). p.0) g.1
