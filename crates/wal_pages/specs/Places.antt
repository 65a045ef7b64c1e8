-- Where the bytes of entries stand in the WAL (PostgreSQL manual, WAL Internals). Flat bytes are
-- those that are no page head; they are numbered from 0. Segments are mib MiB.
use Rattle.std.specs.Prelude.{ℕ, ◌+◌, ◌-◌, ◌*◌, ◌/◌, ◌%◌, ◌≤◌, nat_lt, if◌then◌else◌}
use Rattle.lsn_core.specs.byte_words.Numbers.{aligned}
use Rattle.lsn_core.specs.Segment.{segment_bytes}
use Rattle.lsn_core.specs.Sizes.{page_size, short_head, long_head}

-- how many flat bytes a page has behind a short head
abbrev pub page_flat : ℕ
page_flat = 8168

-- how many bytes the long head has more
abbrev pub long_more : ℕ
long_more = 16

-- how many flat bytes a segment has: those of 128 pages a MiB, fewer on the first of them
abbrev pub segment_flat : ℕ → ℕ
segment_flat mib = mib * 1045504 - long_more

-- the place of a flat byte
unfoldable pub place : ℕ → ℕ → ℕ
place mib f =
    f / segment_flat mib * segment_bytes mib
    + ((f % segment_flat mib + long_more) / page_flat * page_size
    + (short_head + (f % segment_flat mib + long_more) % page_flat))

-- how many flat bytes stand before a place
unfoldable pub flat_before : ℕ → ℕ → ℕ
flat_before mib x =
    x / segment_bytes mib * segment_flat mib
    + (x % segment_bytes mib / page_size * page_flat
    + (x % segment_bytes mib % page_size - short_head) - long_more)

-- how many bytes the head of a place's page has
unfoldable pub head_size : ℕ → ℕ → ℕ
head_size mib x = if nat_lt (x % segment_bytes mib) page_size then long_head else short_head

-- a place behind its page's head
abbrev pub IsBehindHead : ℕ → ℕ → Type 0
IsBehindHead mib x = head_size mib x ≤ x % page_size

-- where a place's page begins
abbrev pub page_of : ℕ → ℕ
page_of x = x - x % page_size

-- where an entry starts behind an end: at the first flat byte from there on
unfoldable pub start_after : ℕ → ℕ → ℕ
start_after mib end = place mib (flat_before mib end)

-- the place behind the last own byte of an entry of so many bytes
unfoldable pub stop_of : ℕ → ℕ → ℕ → ℕ
stop_of mib start total = place mib (flat_before mib start + total - 1) + 1

-- where an entry ends: behind its padding to a multiple of 8
abbrev pub end_of : ℕ → ℕ → ℕ → ℕ
end_of mib start total = stop_of mib start (aligned total)
