-- An entry's own bytes stand in the archive: they are flat bytes side by side, and the page heads
-- among them are there.
use Rattle.std.specs.Prelude.{◌≡◌, ℕ, ◌+◌, ◌%◌, ◌<◌, ◌≤◌, ◌⊎◌, List, length, get_or, Some, None}
use Rattle.lsn_core.specs.byte_words.Numbers.{u32_in}
use Rattle.lsn_core.specs.Sizes.{page_size}
use Rattle.wal_pages.specs.Places.{place, flat_before, head_size, IsBehindHead, stop_of}
use Rattle.wal_pages.specs.Heads.{head_fault}
use Rattle.wal_pages.specs.Spread.{still_to_come}
use Rattle.wal_pages.specs.wal_heads.Header.{least_total, most_total}
use Rattle.wal_archive.specs.Archive.{Archive}

-- a page's head is held and passes, with so many bytes of an entry still to come
pub record HasHead (a : Archive) (mib system page size : ℕ) : Type 0 where
  pub bytes : List ℕ
  pub len : length bytes ≡ head_size mib page
  pub held : (i : ℕ) → i < head_size mib page → a.byte (page + i) ≡ Some (get_or bytes i 0)
  pub passes : head_fault mib system page (Some size) bytes ≡ None

-- a place where an entry may end: behind a page's head, or where a page begins
abbrev pub IsEnd : ℕ → ℕ → Type 0
IsEnd mib e = (e % 8 ≡ 0) × (IsBehindHead mib e ⊎ (e % page_size ≡ 0))

-- these are the own bytes of the entry behind e
pub record Stands (a : Archive) (mib system e : ℕ) (bytes : List ℕ) : Type 0 where
  pub total : u32_in bytes 0 ≡ length bytes
  pub least : least_total ≤ length bytes
  pub most : length bytes ≤ most_total
  pub flat : (i : ℕ) → i < length bytes
      → a.byte (place mib (flat_before mib e + i)) ≡ Some (get_or bytes i 0)
  pub heads : (p : ℕ) → p % page_size ≡ 0 → e ≤ p → p < stop_of mib e (length bytes)
      → HasHead a mib system p (still_to_come mib (flat_before mib e) (length bytes) p)
