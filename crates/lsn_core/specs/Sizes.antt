-- Sizes and limits of pages, files and the WAL, as the constants of the same names have them.
use Rattle.std.specs.Prelude.{ℕ}

-- the bytes of a page, of a fork or of the WAL
abbrev pub page_size : ℕ
page_size = 8192

-- the bytes of a WAL page's header, and of that of a segment's first page
abbrev pub short_head : ℕ
short_head = 24

abbrev pub long_head : ℕ
long_head = 40

-- the number at the front of a WAL page
abbrev pub page_magic : ℕ
page_magic = 53526

-- the most blocks in one file of a fork
abbrev pub most_relseg : ℕ
most_relseg = 131072

-- the number of the last segment that a WAL may have
abbrev pub most_segments : ℕ
most_segments = 1048576

-- the most blocks of a fork that a store's commands make
abbrev pub most_blocks : ℕ
most_blocks = 32768
