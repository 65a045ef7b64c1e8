-- Reading a file piece by piece, and looking through it for bytes other than zero.
use Rattle.std.proofs.Common.{◌≡◌, ℕ, ◌+◌, ◌-◌, ◌≤◌, true, false, List, [], ◌++◌, length, take, drop, refl, subst, arith}
use Rattle.std.proofs.lemmas.List.{drop-take, take_all, append-nil, drop-drop}
use Rattle.std.proofs.lemmas.List.Folds.{list_all-append}
use Rattle.std.proofs.Math.ListN.{drop_of_length-le}
use Rattle.std.proofs.Math.Seq.{take-add}
use Rattle.wal_archive.specs.Scanning.{all_zero}

-- a buffer that was read into and cut to what was read
pub kept : (count len size : ℕ) (new items into file : List ℕ)
    → new ≡ take count (take len (into ++ drop (length into) items)) → length into ≡ size
    → length items ≡ size → len ≡ size → take count into ≡ take size file → new ≡ take size file
kept count len size new items into file cut into_is items_is len_is read =
    let none : drop (length into) items ≡ [] = drop_of_length-le items (omega arith) in
    let whole : take len into ≡ into = take_all len into (omega arith) in
    rw (cut, none, append-nil into, whole, read) refl

-- what lies between a place and a limit, with a piece at its front
split_by : (file : List ℕ) (at count rest : ℕ) → drop at (take (at + (count + rest)) file)
    ≡ take count (drop at file) ++ drop (at + count) (take (at + (count + rest)) file)
split_by file at count rest =
    let again : at + (count + rest) ≡ (at + count) + rest = omega arith in
    let right : drop (at + count) (take (at + (count + rest)) file)
    ≡ take rest (drop (at + count) file) = rw again (drop-take (at + count) rest file) in
    rw (
      right,
      drop-take at (count + rest) file,
      take-add count rest (drop at file),
      drop-drop count at file,
    ) refl

pub split : (file : List ℕ) (at limit count : ℕ) → at + count ≤ limit
    → drop at (take limit file) ≡ take count (drop at file) ++ drop (at + count) (take limit file)
split file at limit count within =
    let whole : at + (count + (limit - (at + count))) ≡ limit = omega arith in
    subst (λ (n : ℕ). drop at (take n file) ≡ take count (drop at file)
    ++ drop (at + count) (take n file)) whole (split_by file at count (limit - (at + count)))

-- a run of zeros: what is left behind it tells whether all is zero
pub run_goes_on : (file : List ℕ) (at limit count : ℕ) → at + count ≤ limit
    → all_zero (take count (drop at file)) ≡ true
    → all_zero (drop at (take limit file)) ≡ all_zero (drop (at + count) (take limit file))
run_goes_on file at limit count within zero =
    rw (split file at limit count within, list_all-append, zero) refl

-- a byte other than zero
pub run_stops : (file : List ℕ) (at limit count : ℕ) → at + count ≤ limit
    → all_zero (take count (drop at file)) ≡ false → all_zero (drop at (take limit file)) ≡ false
run_stops file at limit count within zero =
    rw (split file at limit count within, list_all-append, zero) refl
