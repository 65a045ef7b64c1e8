-- What holds of places, heads and cut entries, for every segment size.
use Rattle.std.specs.Prelude.{◌≡◌, ℕ, ◌+◌, ◌-◌, ◌%◌, ◌^◌, ◌<◌, ◌≤◌, List, length, get_or, Some, None}
use Rattle.lsn_core.specs.byte_words.Numbers.{aligned}
use Rattle.wal_pages.specs.Places.{place, flat_before, IsBehindHead, start_after, end_of}
use Rattle.wal_pages.specs.Heads.{page_head, head_fault}
use Rattle.wal_pages.specs.Spread.{spread}

-- the number of a flat byte's place is its number again
abbrev pub PlacesAreFoundAgain : Type 0
PlacesAreFoundAgain = (mib f : ℕ) → 1 ≤ mib → flat_before mib (place mib f) ≡ f

-- each place behind a page's head is that of a flat byte, and no other place is
abbrev pub PlacesAreBehindHeads : Type 0
PlacesAreBehindHeads = (mib x : ℕ) → 1 ≤ mib → IsBehindHead mib x
    → place mib (flat_before mib x) ≡ x

abbrev pub FlatBytesAreBehindHeads : Type 0
FlatBytesAreBehindHeads = (mib f : ℕ) → 1 ≤ mib → IsBehindHead mib (place mib f)

-- places rise with the numbers
abbrev pub PlacesRise : Type 0
PlacesRise = (mib f g : ℕ) → 1 ≤ mib → f < g → place mib f < place mib g

-- behind an end that is a multiple of 8 an entry starts at one, at or past the end, behind a head
pub record IsStart (mib end start : ℕ) : Type 0 where
  pub eight : start % 8 ≡ 0
  pub behind : IsBehindHead mib start
  pub past : end ≤ start

abbrev pub StartsAreAligned : Type 0
StartsAreAligned =
    (mib end : ℕ) → 1 ≤ mib → end % 8 ≡ 0 → IsStart mib end (start_after mib end)

-- an entry that starts there ends at a multiple of 8
abbrev pub EndsAreAligned : Type 0
EndsAreAligned =
    (mib end total : ℕ) → 1 ≤ mib → end % 8 ≡ 0 → 0 < total
    → end_of mib (start_after mib end) total % 8 ≡ 0

-- up to an entry's end its bytes, with those up to a multiple of 8, are flat ones
abbrev pub EndsAreNumbered : Type 0
EndsAreNumbered =
    (mib start total : ℕ) → 1 ≤ mib → 0 < total
    → flat_before mib (end_of mib start total) ≡ flat_before mib start + aligned total

-- byte i of an entry stands within what is spread for it, at the place of its number
pub record StandsIn (mib before : ℕ) (cut bytes : List ℕ) (i : ℕ) : Type 0 where
  pub from : before ≤ place mib (flat_before mib before + i)
  pub within : place mib (flat_before mib before + i) - before < length cut
  pub byte : get_or cut (place mib (flat_before mib before + i) - before) 0 ≡ get_or bytes i 0

abbrev pub EntryBytesStandInOrder : Type 0
EntryBytesStandInOrder =
    (mib system before : ℕ) (bytes : List ℕ) (i : ℕ) → 1 ≤ mib → i < length bytes
    → StandsIn mib before (spread mib system before bytes) bytes i

-- a head that is written passes, where as many bytes are still to come
abbrev pub WrittenHeadsPass : Type 0
WrittenHeadsPass =
    (mib system page size : ℕ) → mib ≤ 1024 → system < 2 ^ 64 → page < 2 ^ 64 → size < 2 ^ 32
    → head_fault mib system page (Some size) (page_head mib system page size) ≡ None
