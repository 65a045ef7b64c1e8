-- The announcements of an entry, which stand between its header and its data (access/xlogrecord.h).
use Rattle.std.specs.Prelude.{◌≡◌, ℕ, ◌+◌, ◌<◌, ◌^◌, ◌/◌, ◌%◌, Bool, true, List, [], ◌∷◌, ◌++◌, length, Option, Some, None, IfSome, not, nat_lt, nat_le, ◌==◌, ◌&&◌, ◌||◌, if◌then◌else◌}
use Rattle.std.specs.Option.{is_some}
use Rattle.std.specs.Int.{w8, w16, w32, to_le_bytes}
use Rattle.wal_pages.specs.declared.wal_heads.announce.ImageHead.{ImageHead}
use Rattle.wal_pages.specs.declared.wal_heads.announce.RelName.{RelName}
use Rattle.wal_pages.specs.declared.wal_heads.announce.BlockHead.{BlockHead}
use Rattle.wal_pages.specs.declared.wal_heads.announce.MainHead.{MainHead}
use Rattle.wal_pages.specs.declared.wal_heads.announce.MainHead.TheVariants.{Absent, Short, Long}

abbrev pub hole_bytes : Option ℕ → List ℕ → List ℕ
hole_bytes None rest = rest
hole_bytes (Some n) rest = to_le_bytes w16 n ++ rest

abbrev pub image_bytes : Option ImageHead → List ℕ → List ℕ
image_bytes None rest = rest
image_bytes (Some h) rest =
    to_le_bytes w16 h.len ++ (to_le_bytes w16 h.offset
    ++ (to_le_bytes w8 h.info ++ hole_bytes h.hole rest))

abbrev pub rel_bytes : Option RelName → List ℕ → List ℕ
rel_bytes None rest = rest
rel_bytes (Some r) rest =
    to_le_bytes w32 r.space ++ (to_le_bytes w32 r.db ++ (to_le_bytes w32 r.rel ++ rest))

abbrev pub block_bytes : BlockHead → List ℕ → List ℕ
block_bytes h rest =
    to_le_bytes w8 h.id ++ (to_le_bytes w8 h.flags ++ (to_le_bytes w16 h.data_len
    ++ image_bytes h.image (rel_bytes h.rel (to_le_bytes w32 h.block ++ rest))))

abbrev pub main_bytes : MainHead → List ℕ → List ℕ
main_bytes Absent rest = rest
main_bytes (Short n) rest = to_le_bytes w8 255 ++ (to_le_bytes w8 n ++ rest)
main_bytes (Long n) rest = to_le_bytes w8 254 ++ (to_le_bytes w32 n ++ rest)

-- the announcements of blocks and main data, and the bytes behind them
abbrev pub heads_bytes : List BlockHead → MainHead → List ℕ → List ℕ
heads_bytes [] main rest = main_bytes main rest
heads_bytes (h ∷ hs) main rest = block_bytes h (heads_bytes hs main rest)

-- whether a bit is set in flags
unfoldable pub has_bit : ℕ → ℕ → Bool
has_bit flags bit = flags / bit % 2 == 1

abbrev pub is_compressed : ℕ → Bool
is_compressed info = has_bit info 4 || (has_bit info 8 || has_bit info 16)

-- an image that isn't compressed leaves out a hole of at least one byte behind its first byte, or
-- is a whole page; the bytes behind a hole are those that the length tells
abbrev pub image_good : ImageHead → Bool
image_good h =
    if is_compressed h.info then true
    else (if has_bit h.info 1 then nat_lt 0 h.offset && (nat_le h.offset h.len && nat_lt h.len 8192)
    else (h.len == 8192) && (h.offset == 0))

abbrev pub image_may : Option ImageHead → Bool
image_may None = true
image_may (Some h) = image_good h

-- data is announced exactly where it is flagged
abbrev pub data_good : BlockHead → Bool
data_good h = if has_bit h.flags 0x20 then nat_lt 0 h.data_len else h.data_len == 0

-- a block's announcement where ids go on at a least one, which is 0 for the first block: its id
-- rises and is at most 32, its fork number is at most 3, and the first block tells its relation
abbrev pub block_good : ℕ → BlockHead → Bool
block_good least h =
    nat_le least h.id && (nat_le h.id 32 && (nat_le (h.flags % 16) 3
    && (not ((least == 0) && has_bit h.flags 0x80) && (data_good h && image_may h.image))))

-- how many bytes of image, of image and data, and of main data are announced
abbrev pub image_size : Option ImageHead → ℕ
image_size None = 0
image_size (Some h) = h.len

abbrev pub block_size : BlockHead → ℕ
block_size h = image_size h.image + h.data_len

abbrev pub main_size : MainHead → ℕ
main_size Absent = 0
main_size (Short n) = n
main_size (Long n) = n

-- announcements whose numbers have room in their bytes, and whose parts are there exactly where
-- the flags say so
pub record ImageFits (h : ImageHead) : Type 0 where
  pub len : h.len < 2 ^ 16
  pub offset : h.offset < 2 ^ 16
  pub info : h.info < 2 ^ 8
  pub hole_told : is_some h.hole ≡ (has_bit h.info 1 && is_compressed h.info)
  pub hole : IfSome h.hole (λ n. n < 2 ^ 16)

pub record NameFits (r : RelName) : Type 0 where
  pub space : r.space < 2 ^ 32
  pub db : r.db < 2 ^ 32
  pub rel : r.rel < 2 ^ 32

pub record BlockFits (h : BlockHead) : Type 0 where
  pub id : h.id < 2 ^ 8
  pub flags : h.flags < 2 ^ 8
  pub data_len : h.data_len < 2 ^ 16
  pub image_told : is_some h.image ≡ has_bit h.flags 0x10
  pub image : IfSome h.image ImageFits
  pub rel_told : is_some h.rel ≡ not (has_bit h.flags 0x80)
  pub rel : IfSome h.rel NameFits
  pub block : h.block < 2 ^ 32

abbrev pub MainFits : MainHead → Type 0
MainFits Absent = Unit {0}
MainFits (Short n) = n < 2 ^ 8
MainFits (Long n) = n < 2 ^ 32

-- the announcements of an entry, from a least id on, where so many bytes are announced before
-- them: the bytes behind them are just those that are announced
abbrev pub AreHeads : ℕ → ℕ → List BlockHead → MainHead → List ℕ → Type 0
AreHeads least before [] main rest = MainFits main × (length rest ≡ before + main_size main)
AreHeads least before (h ∷ hs) main rest =
    BlockFits h × (block_good least h ≡ true)
    × AreHeads (h.id + 1) (before + block_size h) hs main rest
