-- The front of a file, read into a buffer.
use Rattle.std.proofs.Common.{◌≡◌, ℕ, List, [], ◌++◌, length, take, drop, refl, arith}
use Rattle.std.proofs.lemmas.List.{take_all, append-nil}
use Rattle.std.proofs.Math.ListN.{drop_of_length-le}

-- a buffer that was read into and cut to what was read
pub kept : (count len size : ℕ) (new items into file : List ℕ) → new ≡ take count (take len (into ++ drop (length into) items)) → length into ≡ size → length items ≡ size → len ≡ size → take count into ≡ take size file → new ≡ take size file
kept count len size new items into file cut into_is items_is len_is read =
    let none : drop (length into) items ≡ [] = drop_of_length-le items (omega arith) in
    let whole : take len into ≡ into = take_all len into (omega arith) in
    rw (cut, none, append-nil into, whole, read) refl
