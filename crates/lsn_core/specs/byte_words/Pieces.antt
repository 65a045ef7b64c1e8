-- Bytes written at a place of a list.
use Rattle.std.specs.Prelude.{ℕ, ◌+◌, ◌-◌, List, ◌++◌, length, take, drop, replicate}

-- the list with a part written over what stands at a place
abbrev pub overwritten : List ℕ → ℕ → List ℕ → List ℕ
overwritten bytes at piece = take at bytes ++ (piece ++ drop (at + length piece) bytes)

-- the list with zeros behind it up to a length
abbrev pub zero_filled : List ℕ → ℕ → List ℕ
zero_filled bytes size = bytes ++ replicate (size - length bytes) 0

-- a page of zeros
unfoldable pub zero_page : List ℕ
zero_page = replicate 8192 0
