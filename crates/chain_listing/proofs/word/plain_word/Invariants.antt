use Rattle.std.proofs.Common.{◌≡◌, ◌++◌, map, length, string_bytes}
use Rattle.chain_listing.specs.Words.{plain_byte}
use Rattle.chain_listing.proofs.word.plain_word.Given as goal

-- the text so far, and the bytes that are still to come
abbrev pub invariant-loop-byte : goal.invariant-loop-byte
invariant-loop-byte l = string_bytes l.text ++ map plain_byte l.left ≡ map plain_byte l.bytes

abbrev pub decreases-loop-byte : goal.decreases-loop-byte
decreases-loop-byte l = length l.left
