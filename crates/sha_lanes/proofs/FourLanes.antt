-- Vectors of four lanes, and lists of vectors.
use Rattle.std.proofs.Common.{◌≡◌, ℕ, zero, suc, ◌<◌, ◌-◌, ◌*◌, ◌/◌, ◌%◌, ◌^◌, List, [], ◌∷◌, length, slice_index, slice_index_or, slice_set, take, drop, bit_or, arith, refl, ap}
use Rattle.std.specs.Int.{w32, rotate_right}
use Rattle.std.specs.Simd.Lanes.{zip2}
use Rattle.sha_lanes.specs.Lanes.{lane, of_four}

-- what holds of each of the four lanes
pub below_four : (P : ℕ → Type 0) → P 0 → P 1 → P 2 → P 3 → (j : ℕ) → j < 4 → P j
below_four P p0 p1 p2 p3 zero h = p0
below_four P p0 p1 p2 p3 (suc zero) h = p1
below_four P p0 p1 p2 p3 (suc (suc zero)) h = p2
below_four P p0 p1 p2 p3 (suc (suc (suc zero))) h = p3
below_four P p0 p1 p2 p3 (suc (suc (suc (suc n)))) h = absurd (omega arith)

-- what holds of each list of four elements
pub four_lanes : (P : List ℕ → Type 0) → ((a b c d : ℕ) → P (a ∷ b ∷ c ∷ d ∷ [])) → (xs : List ℕ) → length xs ≡ 4 → P xs
four_lanes P p (a ∷ b ∷ c ∷ d ∷ []) h = p a b c d
four_lanes P p [] h = absurd (omega arith)
four_lanes P p (a ∷ []) h = absurd (omega arith)
four_lanes P p (a ∷ b ∷ []) h = absurd (omega arith)
four_lanes P p (a ∷ b ∷ c ∷ []) h = absurd (omega arith)
four_lanes P p (a ∷ b ∷ c ∷ d ∷ e ∷ xs) h = absurd (omega arith)

-- two shifts of each lane and an or are a rotation
abbrev Rotates : ℕ → List ℕ → Type 0
Rotates k a = (j : ℕ) → j < 4
    → slice_index (zip2 bit_or
    (zip2 (λ x n. x / 2 ^ n) a (k ∷ k ∷ k ∷ k ∷ []))
    (zip2 (λ x n. x * 2 ^ n % 2 ^ 32) a ((32 - k) ∷ (32 - k) ∷ (32 - k) ∷ (32 - k) ∷ []))) j
    ≡ rotate_right w32 (slice_index a j) k

pub shifts_rotate : (k : ℕ) → 0 < k → k < 32 → (a : List ℕ) → length a ≡ 4 → Rotates k a
shifts_rotate k low high =
    let left : k % 32 ≡ k = omega arith in
    let right : (32 - k) % 32 ≡ 32 - k = omega arith in
    four_lanes (Rotates k) (λ a0 a1 a2 a3.
    below_four _ (rw (left, right) refl) (rw (left, right) refl) (rw (left, right) refl) (rw (left, right) refl))

abbrev Shifts : ℕ → List ℕ → Type 0
Shifts k a = (j : ℕ) → j < 4
    → slice_index (zip2 (λ x n. x / 2 ^ n) a (k ∷ k ∷ k ∷ k ∷ [])) j ≡ slice_index a j / 2 ^ k

pub shifts : (k : ℕ) → k < 32 → (a : List ℕ) → length a ≡ 4 → Shifts k a
shifts k high =
    let same : k % 32 ≡ k = omega arith in
    four_lanes (Shifts k) (λ a0 a1 a2 a3. below_four _ refl refl refl refl)

-- each lane of a number in all lanes
pub splat_at : (k j : ℕ) → j < 4 → slice_index (k ∷ k ∷ k ∷ k ∷ []) j ≡ k
splat_at k = below_four _ refl refl refl refl

-- a word of a lane
pub lane_word : (x : List (List ℕ)) (j k : ℕ) → slice_index (lane j x) k ≡ slice_index (slice_index_or x k []) j
lane_word [] j k = refl
lane_word (v ∷ vs) j zero = refl
lane_word (v ∷ vs) j (suc k) = lane_word vs j k

pub lane_set : (x : List (List ℕ)) (k : ℕ) (v : List ℕ) (j : ℕ) → lane j (slice_set x k v) ≡ slice_set (lane j x) k (slice_index v j)
lane_set [] k v j = refl
lane_set (y ∷ ys) zero v j = refl
lane_set (y ∷ ys) (suc k) v j = ap (λ (zs : List ℕ). slice_index y j ∷ zs) (lane_set ys k v j)

pub length-lane : (x : List (List ℕ)) (j : ℕ) → length (lane j x) ≡ length x
length-lane [] j = refl
length-lane (v ∷ vs) j = ap suc (length-lane vs j)

-- a lane of eight vectors, word by word
pub lane_of_eight : (x : List (List ℕ)) (j : ℕ) → length x ≡ 8 → lane j x
    ≡ slice_index (slice_index_or x 0 []) j ∷ slice_index (slice_index_or x 1 []) j ∷ slice_index (slice_index_or x 2 []) j ∷ slice_index (slice_index_or x 3 []) j
    ∷ slice_index (slice_index_or x 4 []) j ∷ slice_index (slice_index_or x 5 []) j ∷ slice_index (slice_index_or x 6 []) j ∷ slice_index (slice_index_or x 7 []) j ∷ []
lane_of_eight (a ∷ b ∷ c ∷ d ∷ e ∷ f ∷ g ∷ h ∷ []) j size = refl
lane_of_eight [] j size = absurd (omega arith)
lane_of_eight (a ∷ []) j size = absurd (omega arith)
lane_of_eight (a ∷ b ∷ []) j size = absurd (omega arith)
lane_of_eight (a ∷ b ∷ c ∷ []) j size = absurd (omega arith)
lane_of_eight (a ∷ b ∷ c ∷ d ∷ []) j size = absurd (omega arith)
lane_of_eight (a ∷ b ∷ c ∷ d ∷ e ∷ []) j size = absurd (omega arith)
lane_of_eight (a ∷ b ∷ c ∷ d ∷ e ∷ f ∷ []) j size = absurd (omega arith)
lane_of_eight (a ∷ b ∷ c ∷ d ∷ e ∷ f ∷ g ∷ []) j size = absurd (omega arith)
lane_of_eight (a ∷ b ∷ c ∷ d ∷ e ∷ f ∷ g ∷ h ∷ i ∷ xs) j size = absurd (omega arith)

-- the one of lane j has the length of all
pub length-of_four : (a b c d : List ℕ) (n : ℕ) → length a ≡ n → length b ≡ n → length c ≡ n → length d ≡ n → (j : ℕ) → j < 4 → length (of_four a b c d j) ≡ n
length-of_four a b c d n la lb lc ld = below_four (λ j. length (of_four a b c d j) ≡ n) la lb lc ld

-- a part of the one of lane j
pub part-of_four : (a b c d : List ℕ) (at n : ℕ) (j : ℕ) → j < 4
    → of_four (take n (drop at a)) (take n (drop at b)) (take n (drop at c)) (take n (drop at d)) j ≡ take n (drop at (of_four a b c d j))
part-of_four a b c d at n = below_four (λ j. of_four (take n (drop at a)) (take n (drop at b)) (take n (drop at c)) (take n (drop at d)) j ≡ take n (drop at (of_four a b c d j))) refl refl refl refl

-- eight numbers, one by one
pub eight : (x : List ℕ) → length x ≡ 8
    → slice_index x 0 ∷ slice_index x 1 ∷ slice_index x 2 ∷ slice_index x 3 ∷ slice_index x 4 ∷ slice_index x 5 ∷ slice_index x 6 ∷ slice_index x 7 ∷ [] ≡ x
eight (a ∷ b ∷ c ∷ d ∷ e ∷ f ∷ g ∷ h ∷ []) size = refl
eight [] size = absurd (omega arith)
eight (a ∷ []) size = absurd (omega arith)
eight (a ∷ b ∷ []) size = absurd (omega arith)
eight (a ∷ b ∷ c ∷ []) size = absurd (omega arith)
eight (a ∷ b ∷ c ∷ d ∷ []) size = absurd (omega arith)
eight (a ∷ b ∷ c ∷ d ∷ e ∷ []) size = absurd (omega arith)
eight (a ∷ b ∷ c ∷ d ∷ e ∷ f ∷ []) size = absurd (omega arith)
eight (a ∷ b ∷ c ∷ d ∷ e ∷ f ∷ g ∷ []) size = absurd (omega arith)
eight (a ∷ b ∷ c ∷ d ∷ e ∷ f ∷ g ∷ h ∷ i ∷ xs) size = absurd (omega arith)
