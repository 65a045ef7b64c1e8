-- Tests of the elements of a list that is made of lists.
use Rattle.std.proofs.Common.{◌≡◌, ℕ, ◌+◌, ◌<◌, ◌≤◌, ◌==◌, Bool, true, false, ◌&&◌, ◌||◌, List, [], ◌∷◌, ◌++◌, map, zero, suc, refl, sym, ap, ◌∙◌, arith}
use Rattle.std.specs.List.{AllByRecursion, IsDistinct, list_any, flat_map, range_with_len}
use Rattle.std.proofs.lemmas.Bool.{or_left, or_right, eqb-true, eqb-false}
use Rattle.std.proofs.lemmas.List.Folds.{list_any-append}
use Rattle.std.proofs.lemmas.List.{map-append}

pub same_bools : (a b : Bool) → (a ≡ true → b ≡ true) → (b ≡ true → a ≡ true) → a ≡ b
same_bools true b h k = sym (h refl)
same_bools false true h k = k refl
same_bools false false h k = refl

pub all_append : {X : Type 0} (P : X → Type 0) (xs ys : List X) → AllByRecursion P xs → AllByRecursion P ys → AllByRecursion P (xs ++ ys)
all_append P [] ys a b = b
all_append P (x ∷ xs) ys a b = (a.0, all_append P xs ys a.1 b)

pub all_pieces : {X Y : Type 0} (Q : X → Type 0) (P : Y → Type 0) (f : X → List Y) (xs : List X) → ((x : X) → Q x → AllByRecursion P (f x)) → AllByRecursion Q xs → AllByRecursion P (flat_map f xs)
all_pieces Q P f [] each all = tt
all_pieces Q P f (x ∷ xs) each all = all_append P (f x) (flat_map f xs) (each x all.0) (all_pieces Q P f xs each all.1)

pub all_more : {X : Type 0} (P Q : X → Type 0) (xs : List X) → ((x : X) → P x → Q x) → AllByRecursion P xs → AllByRecursion Q xs
all_more P Q [] step all = tt
all_more P Q (x ∷ xs) step all = (step x all.0, all_more P Q xs step all.1)

pub all_range : {X : Type 0} (P : X → Type 0) (g : ℕ → X) (a n : ℕ) → ((s : ℕ) → a ≤ s → s < a + n → P (g s)) → AllByRecursion P (map g (range_with_len a n))
all_range P g a zero each = tt
all_range P g a (suc n) each = (each a (omega arith) (omega arith), all_range P g (a + 1) n (λ s le lt. each s (omega (arith, le)) (omega (arith, lt))))

pub any_pieces : {X Y : Type 0} (Q : X → Type 0) (t : Y → Bool) (s : X → Bool) (f : X → List Y) (xs : List X) → ((x : X) → Q x → list_any t (f x) ≡ s x) → AllByRecursion Q xs → list_any t (flat_map f xs) ≡ list_any s xs
any_pieces Q t s f [] each all = refl
any_pieces Q t s f (x ∷ xs) each all =
    list_any-append t (f x) (flat_map f xs)
    ∙ ap (λ b. b || list_any t (flat_map f xs)) (each x all.0)
    ∙ ap (λ b. s x || b) (any_pieces Q t s f xs each all.1)

-- a number of a range that passes
pub any_range : {X : Type 0} (t : X → Bool) (g : ℕ → X) (a n k : ℕ) → a ≤ k → k < a + n → t (g k) ≡ true → list_any t (map g (range_with_len a n)) ≡ true
any_range t g a zero k le lt e = absurd (omega (arith, le, lt))
any_range t g a (suc n) k le lt e =
    elim (a == k) as (λ s. (a == k) ≡ s → (t (g a) || list_any t (map g (range_with_len (a + 1) n))) ≡ true) [
      | true ↦ λ i. or_left (t (g a)) _ (ap (λ (m : ℕ). t (g m)) (eqb-true a k i) ∙ e)
      | false ↦ λ i. let apart = eqb-false a k i in or_right (t (g a)) _ (any_range t g (a + 1) n k (omega (arith, le, apart)) (omega (arith, lt)) e)
    ] refl

pub record Passing {X : Type 0} (t : X → Bool) (g : ℕ → X) (a n : ℕ) : Type 0 where
  pub at : ℕ
  pub least : a ≤ at
  pub most : at < a + n
  pub passes : t (g at) ≡ true

pub range_any : {X : Type 0} (t : X → Bool) (g : ℕ → X) (a n : ℕ) → list_any t (map g (range_with_len a n)) ≡ true → Passing t g a n
range_any t g a zero e = absurd cc
range_any t g a (suc n) e =
    elim (t (g a)) as (λ b. t (g a) ≡ b → (b || list_any t (map g (range_with_len (a + 1) n))) ≡ true → Passing t g a (suc n)) [
      | true ↦ λ k f. record { at = a; least = omega arith; most = omega arith; passes = k }
      | false ↦ λ k f. let r = range_any t g (a + 1) n f in record { at = r.at; least = omega (arith, r.least); most = omega (arith, r.most); passes = r.passes }
    ] refl e

absorbed : (x s : Bool) → (x || (s && x)) ≡ x
absorbed true s = refl
absorbed false true = refl
absorbed false false = refl

-- keys of which one is asked for
pub any_at : {K : Type 0} (same : K → K → Bool) (q : K) (c : K → Bool) (ks : List K) → ((k : K) → same q k ≡ true → q ≡ k) → list_any (λ k. same q k && c k) ks ≡ (list_any (same q) ks && c q)
any_at same q c [] only = refl
any_at same q c (k ∷ ks) only =
    elim (same q k) as (λ b. same q k ≡ b → ((b && c k) || list_any (λ x. same q x && c x) ks) ≡ ((b || list_any (same q) ks) && c q)) [
      | true ↦ λ e.
          ap (λ b. b || list_any (λ x. same q x && c x) ks) (ap c (sym (only k e)))
          ∙ ap (λ b. c q || b) (any_at same q c ks only)
          ∙ absorbed (c q) (list_any (same q) ks)
      | false ↦ λ e. any_at same q c ks only
    ] refl

-- distinct elements of lists that have nothing in common
pub distinct_append : {Y : Type 0} (eq : Y → Y → Bool) (xs ys : List Y) → IsDistinct eq xs → IsDistinct eq ys → AllByRecursion (λ x. AllByRecursion (λ y. eq x y ≡ false) ys) xs → IsDistinct eq (xs ++ ys)
unfolding IsDistinct
distinct_append eq [] ys a b apart = b
distinct_append eq (x ∷ xs) ys a b apart = (all_append (λ y. eq x y ≡ false) xs ys a.0 apart.0, distinct_append eq xs ys a.1 b apart.1)

all_both : {X : Type 0} (A B C : X → Type 0) (xs : List X) → ((x : X) → A x → B x → C x) → AllByRecursion A xs → AllByRecursion B xs → AllByRecursion C xs
all_both A B C [] step a b = tt
all_both A B C (x ∷ xs) step a b = (step x a.0 b.0, all_both A B C xs step a.1 b.1)

all_of_none : {X Y : Type 0} (eq : X → Y → Bool) (xs : List X) → AllByRecursion (λ x. AllByRecursion (λ y. eq x y ≡ false) []) xs
all_of_none eq [] = tt
all_of_none eq (x ∷ xs) = (tt, all_of_none eq xs)

abbrev pub AreApart : {Y : Type 0} → (Y → Y → Bool) → List Y → List Y → Type 0
AreApart eq xs ys = AllByRecursion (λ x. AllByRecursion (λ y. eq x y ≡ false) ys) xs

apart_pieces : {X Y : Type 0} (e : X → X → Bool) (eq : Y → Y → Bool) (Q : X → Type 0) (f : X → List Y) (x : X) (zs : List X) → ((z : X) → Q z → e x z ≡ false → AreApart eq (f x) (f z))
    → AllByRecursion Q zs → AllByRecursion (λ z. e x z ≡ false) zs → AreApart eq (f x) (flat_map f zs)
apart_pieces e eq Q f x [] apart all other = all_of_none eq (f x)
apart_pieces e eq Q f x (z ∷ zs) apart all other =
    all_both (λ y. AllByRecursion (λ w. eq y w ≡ false) (f z)) (λ y. AllByRecursion (λ w. eq y w ≡ false) (flat_map f zs)) (λ y. AllByRecursion (λ w. eq y w ≡ false) (f z ++ flat_map f zs)) (f x)
    (λ y a b. all_append (λ w. eq y w ≡ false) (f z) (flat_map f zs) a b) (apart z all.0 other.0) (apart_pieces e eq Q f x zs apart all.1 other.1)

pub distinct_pieces : {X Y : Type 0} (e : X → X → Bool) (eq : Y → Y → Bool) (Q : X → Type 0) (f : X → List Y) (xs : List X) → ((x : X) → Q x → IsDistinct eq (f x))
    → ((x z : X) → Q x → Q z → e x z ≡ false → AreApart eq (f x) (f z)) → AllByRecursion Q xs → IsDistinct e xs → IsDistinct eq (flat_map f xs)
unfolding IsDistinct
distinct_pieces e eq Q f [] each apart all distinct = tt
distinct_pieces e eq Q f (x ∷ xs) each apart all distinct =
    distinct_append eq (f x) (flat_map f xs) (each x all.0) (distinct_pieces e eq Q f xs each apart all.1 distinct.1) (apart_pieces e eq Q f x xs (λ z. apart x z all.0) all.1 distinct.0)

-- elements of a range that differ
pub distinct_range : {Y : Type 0} (eq : Y → Y → Bool) (g : ℕ → Y) (a n : ℕ) → ((s t : ℕ) → s < t → t < a + n → eq (g s) (g t) ≡ false) → IsDistinct eq (map g (range_with_len a n))
unfolding IsDistinct
distinct_range eq g a zero apart = tt
distinct_range eq g a (suc n) apart =
    (all_range (λ y. eq (g a) y ≡ false) g (a + 1) n (λ t le lt. apart a t (omega (arith, le)) (omega (arith, lt))), distinct_range eq g (a + 1) n (λ s t lt within. apart s t lt (omega (arith, within))))

-- parts of the elements of pieces
pub map_pieces : {X Y Z : Type 0} (h : Y → Z) (f : X → List Y) (xs : List X) → map h (flat_map f xs) ≡ flat_map (λ x. map h (f x)) xs
map_pieces h f [] = refl
map_pieces h f (x ∷ xs) = map-append h (f x) (flat_map f xs) ∙ ap (λ l. map h (f x) ++ l) (map_pieces h f xs)
