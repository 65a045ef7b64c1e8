-- How the bytes of an entry are cut over pages and segments.
use Rattle.std.specs.Prelude.{ℕ, ◌+◌, ◌-◌, ◌%◌, List, length, map, get_or, nat_lt, if◌then◌else◌}
use Rattle.std.specs.List.{range_with_len}
use Rattle.lsn_core.specs.Sizes.{page_size}
use Rattle.wal_pages.specs.Places.{flat_before, head_size, page_of, end_of}
use Rattle.wal_pages.specs.Heads.{page_head}

-- how many bytes of an entry, of so many from a flat one on, are still to come where a page
-- begins: none on the page that the entry starts on
abbrev pub still_to_come : ℕ → ℕ → ℕ → ℕ → ℕ
still_to_come mib first total page =
    if nat_lt first (flat_before mib page) then first + total - flat_before mib page else 0

-- the byte of the archive at a place, where these flat bytes stand from the first one on; behind
-- them zeros
unfoldable pub spread_byte : ℕ → ℕ → ℕ → List ℕ → ℕ → ℕ
spread_byte mib system first bytes x =
    if nat_lt (x % page_size) (head_size mib x)
    then get_or (page_head mib system (page_of x)
    (still_to_come mib first (length bytes) (page_of x))) (x % page_size) 0
    else get_or bytes (flat_before mib x - first) 0

-- so many bytes of the archive from a place on
abbrev pub spread_from : ℕ → ℕ → ℕ → List ℕ → ℕ → ℕ → List ℕ
spread_from mib system first bytes at count =
    map (spread_byte mib system first bytes) (range_with_len at count)

-- the archive's bytes from a place to the end of an entry of these bytes that comes next there
unfoldable pub spread : ℕ → ℕ → ℕ → List ℕ → List ℕ
spread mib system before bytes =
    spread_from mib system (flat_before mib before) bytes before
    (end_of mib before (length bytes) - before)
