-- Rows: the definitions computed.
use Rattle.std.proofs.Common.{◌≡◌, ℕ, ◌+◌, ◌-◌, List, [], ◌++◌, length, take, replicate, Some, None, refl}
use Rattle.std.specs.Prelude.{Ok, Err, nat_lt, ◌==◌, if◌then◌else◌}
use Rattle.std.specs.Int.{w32, to_le_bytes}
use Rattle.wal_pages.specs.Places.{place, flat_before, head_size, start_after, stop_of, end_of}
use Rattle.wal_pages.specs.Heads.{is_first_page, head_bytes, long_part, first_fault}
use Rattle.wal_pages.specs.Spread.{spread_byte, spread}
use Rattle.wal_archive.specs.Archive.{Archive, nth}
use Rattle.wal_archive.specs.declared.fault.Broken.TheVariants.{Torn, SegSize}
use Rattle.wal_archive.specs.Rules.{broken_at, missing, not_held, bytes_at, head_at, entry_bytes, entry_at, ends_at, next_bytes}

-- an archive of one file, of which so many bytes are other than zero up to the mark
row : List ℕ → ℕ → ℕ → Archive
row l top mark = record {
  byte = λ x. if nat_lt x 0x100000 then None else nth l (x - 0x100000);
  has_file = λ s. s == 1;
  file_end = λ s. 0x100000 + length l;
  top = top;
  mark = mark;
}

entry : List ℕ
entry = to_le_bytes w32 26 ++ replicate 22 1

first : List ℕ
unfolding entry spread spread_byte place flat_before head_size stop_of start_after is_first_page
    head_bytes long_part
first = spread 1 7 0x100000 entry

row_length : length first ≡ 72
unfolding first entry spread spread_byte place flat_before head_size stop_of start_after
    is_first_page head_bytes long_part
row_length = refl

row_read : next_bytes (row first 0x100048 0x100042) 1 7 0x100000 ≡ Ok (Some entry)
unfolding row first entry spread spread_byte place flat_before head_size stop_of start_after
    is_first_page head_bytes long_part first_fault next_bytes entry_at ends_at entry_bytes head_at
    bytes_at not_held
row_read = refl

-- only padding is gone: no damage
row_padding : next_bytes (row (take 66 first) 0x100042 0x100042) 1 7 0x100000 ≡ Ok (Some entry)
unfolding row first entry spread spread_byte place flat_before head_size stop_of start_after
    is_first_page head_bytes long_part first_fault next_bytes entry_at ends_at entry_bytes head_at
    bytes_at not_held
row_padding = refl

row_torn : next_bytes (row (take 65 first) 0x100041 0x100041) 1 7 0x100000
    ≡ Err (broken_at 0x100028 Torn)
unfolding row first entry spread spread_byte place flat_before head_size stop_of start_after
    is_first_page head_bytes long_part first_fault next_bytes entry_at ends_at entry_bytes head_at
    bytes_at not_held
row_torn = refl

-- a later byte is held: the file is too short
row_short : next_bytes (row (take 65 first) 0x200001 0x200001) 1 7 0x100000
    ≡ Err (broken_at 0x100041 SegSize)
unfolding row first entry spread spread_byte place flat_before head_size stop_of start_after
    is_first_page head_bytes long_part first_fault next_bytes entry_at ends_at entry_bytes head_at
    bytes_at not_held
row_short = refl

row_head_torn : next_bytes (row (take 30 first) 0x10001E 0x10001E) 1 7 0x100000
    ≡ Err (broken_at 0x100000 Torn)
unfolding row first entry spread spread_byte place flat_before head_size stop_of start_after
    is_first_page head_bytes long_part first_fault next_bytes entry_at ends_at entry_bytes head_at
    bytes_at not_held
row_head_torn = refl

-- a head alone is the end, and so is nothing
row_end : next_bytes (row (take 40 first) 0x100028 0x100026) 1 7 0x100000 ≡ Ok None
unfolding row first entry spread spread_byte place flat_before head_size stop_of start_after
    is_first_page head_bytes long_part first_fault next_bytes entry_at ends_at entry_bytes head_at
    bytes_at not_held
row_end = refl

row_missing : next_bytes (row [] 0x300000 0x300000) 1 7 0x200000 ≡ Err (missing 2)
unfolding row next_bytes
row_missing = refl

-- places: an entry of 8041 bytes that ends on a page's boundary, one that goes on behind the next
-- head, one over two pages
row_ends : (end_of 1 0x100090 8041 ≡ 0x102000)
    × ((end_of 1 0x101FF8 42 ≡ 0x102040) × (end_of 1 0x100090 8241 ≡ 0x1020E0))
unfolding place flat_before stop_of
row_ends = (refl, (refl, refl))

row_starts : (start_after 1 0x102000 ≡ 0x102018) × (start_after 1 0x200000 ≡ 0x200028)
unfolding place flat_before start_after
row_starts = (refl, refl)
