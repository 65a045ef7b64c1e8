-- Frames picked one by one.
use Rattle.std.proofs.Common.{◌≡◌, ℕ, zero, suc, ◌≤◌, Bool, true, false, cond, List, [], ◌∷◌, ◌++◌, map, take, length, refl, sym, ap, ◌∙◌, arith, append_assoc, append-nil}
use Rattle.std.specs.Prelude.{not, ◌&&◌, if◌then◌else◌, box_value}
use Rattle.std.specs.declared.cmp.Ordering.{Ordering}
use Rattle.std.specs.BTreeMap.{BTreeMap, IsOrdered}
use Rattle.std.specs.FinMap.{entries}
use Rattle.std.specs.List.{filter, filter_map}
use Rattle.std.specs.declared.ops.Bound.{Bound}
use Rattle.std.specs.BTreeMap.Range.{entries_between, range_contains}
use Rattle.lsn_core.specs.declared.ids.BlockId.{BlockId}
use Rattle.page_frames.specs.declared.frames.Frame.{Frame}
use Rattle.page_frames.specs.Framed.{Held, block_cmp}
use Rattle.page_frames.specs.Inside.{held_of, held_in}
use Rattle.page_frames.specs.Sweep.{is_among, may_go, picked}
use Rattle.page_frames.proofs.Seen.{entry_of}
use Rattle.page_frames.proofs.Orders.{block_cmp_total, block_cmp-IsAntisymmetric, derived_block_cmp, derived_block_is}
use Rattle.page_frames.proofs.Tables.{frames_listed}

-- the same of the code's frames
abbrev pub goes : List BlockId → Bool → BlockId × Frame → Bool
goes apart used e = (if used then e.1.used else not e.1.used) && not (is_among e.0 apart)

abbrev pub goers : List BlockId → Bool → List (BlockId × Frame) → List BlockId
goers apart used [] = []
goers apart used (e ∷ es) = cond (goes apart used e) (e.0 ∷ goers apart used es) (goers apart used es)

module _ (apart : List BlockId) (used : Bool) (lo hi : Bound BlockId) where
  pub goers_listed : (es : List (BlockId × Frame)) → picked apart used (entries_between block_cmp lo hi (filter_map (entry_of block_cmp_total block_cmp-IsAntisymmetric held_of) es)) ≡ goers apart used (entries_between block_cmp lo hi es)
  goers_listed [] = refl
  goers_listed (e ∷ es) =
      let h : Held = record { page = box_value e.1.page; mark = e.1.mark; used = e.1.used } in
      let rest = entries_between block_cmp lo hi (filter_map (entry_of block_cmp_total block_cmp-IsAntisymmetric held_of) es) in
      elim (range_contains block_cmp lo hi e.0) as (λ b. map (λ (x : BlockId × Held). x.0) (filter (may_go apart used) (cond b ((e.0, h) ∷ rest) rest)) ≡ goers apart used (cond b (e ∷ entries_between block_cmp lo hi es) (entries_between block_cmp lo hi es))) [
        | true ↦ elim (goes apart used e) as (λ c. map (λ (x : BlockId × Held). x.0) (cond c ((e.0, h) ∷ filter (may_go apart used) rest) (filter (may_go apart used) rest)) ≡ cond c (e.0 ∷ goers apart used (entries_between block_cmp lo hi es)) (goers apart used (entries_between block_cmp lo hi es))) [
          | true ↦ ap (λ (xs : List BlockId). e.0 ∷ xs) (goers_listed es)
          | false ↦ goers_listed es
        ]
        | false ↦ goers_listed es
      ]

  -- what goes of the code's frames goes of those that contracts see
  pub picks_all : (m : BTreeMap BlockId Frame) (es : List (BlockId × Frame)) → IsOrdered derived_block_cmp m → es ≡ entries_between derived_block_cmp lo hi m.entries → goers apart used es ≡ picked apart used (entries_between block_cmp lo hi (entries (held_in m)))
  picks_all m es order is =
      ap (goers apart used) (is ∙ ap (λ (R : BlockId → BlockId → Ordering). entries_between R lo hi m.entries) derived_block_is) ∙ sym (goers_listed m.entries)
      ∙ sym (ap (λ (xs : List (BlockId × Held)). picked apart used (entries_between block_cmp lo hi xs)) (frames_listed m order))

pub picked-append : (apart : List BlockId) (used : Bool) (xs ys : List (BlockId × Held)) → picked apart used (xs ++ ys) ≡ picked apart used xs ++ picked apart used ys
picked-append apart used [] ys = refl
picked-append apart used (x ∷ xs) ys =
    elim (may_go apart used x) as (λ b. map (λ (e : BlockId × Held). e.0) (cond b (x ∷ filter (may_go apart used) (xs ++ ys)) (filter (may_go apart used) (xs ++ ys))) ≡ map (λ (e : BlockId × Held). e.0) (cond b (x ∷ filter (may_go apart used) xs) (filter (may_go apart used) xs)) ++ picked apart used ys) [
      | true ↦ ap (λ (zs : List BlockId). x.0 ∷ zs) (picked-append apart used xs ys)
      | false ↦ picked-append apart used xs ys
    ]

-- as many as there may be are kept, whatever comes behind them
pub take_full : {X : Type 0} (n : ℕ) (xs ys : List X) → length xs ≡ n → take n (xs ++ ys) ≡ xs
take_full zero [] ys e = refl
take_full zero (x ∷ xs) ys e = absurd (omega (arith, e))
take_full (suc n) [] ys e = absurd (omega (arith, e))
take_full (suc n) (x ∷ xs) ys e = ap (λ zs. x ∷ zs) (take_full n xs ys (omega (arith, e)))

pub take_few : {X : Type 0} (n : ℕ) (xs : List X) → length xs ≤ n → take n (xs ++ []) ≡ xs
take_few n xs l = ap (take n) (append-nil xs) ∙ all n xs l
  where
    all : {X : Type 0} (n : ℕ) (xs : List X) → length xs ≤ n → take n xs ≡ xs
    all zero [] l = refl
    all zero (x ∷ xs) l = absurd (omega (arith, l))
    all (suc n) [] l = refl
    all (suc n) (x ∷ xs) l = ap (λ zs. x ∷ zs) (all n xs (omega (arith, l)))

-- taken in two steps
pub take_again : {X : Type 0} (n : ℕ) (xs ys zs : List X) → take n (take n (xs ++ ys) ++ zs) ≡ take n (xs ++ (ys ++ zs))
take_again n xs ys zs = go n (xs ++ ys) zs ∙ ap (take n) (append_assoc xs ys zs)
  where
    go : {X : Type 0} (n : ℕ) (xs zs : List X) → take n (take n xs ++ zs) ≡ take n (xs ++ zs)
    go zero xs zs = refl
    go (suc n) [] zs = refl
    go (suc n) (x ∷ xs) zs = ap (λ ys. x ∷ ys) (go n xs zs)
