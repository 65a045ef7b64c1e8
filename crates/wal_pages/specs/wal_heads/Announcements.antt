-- How the announcements of an entry are read, from the front of the bytes behind its header.
use Rattle.std.specs.Prelude.{ℕ, zero, suc, ◌+◌, Bool, true, false, List, [], ◌∷◌, length, Option, Some, None, not, nat_le, ◌==◌, ◌&&◌, if◌then◌else◌}
use Rattle.std.specs.Int.{w8, w16, w32}
use Rattle.lsn_core.specs.byte_words.Numbers.{◌>>=◌, number_at}
use Rattle.wal_pages.specs.declared.wal_heads.announce.ImageHead.{ImageHead}
use Rattle.wal_pages.specs.declared.wal_heads.announce.RelName.{RelName}
use Rattle.wal_pages.specs.declared.wal_heads.announce.BlockHead.{BlockHead}
use Rattle.wal_pages.specs.declared.wal_heads.announce.MainHead.{MainHead}
use Rattle.wal_pages.specs.declared.wal_heads.announce.MainHead.TheVariants.{Absent, Short, Long}
use Rattle.wal_pages.specs.declared.wal_heads.announce.Announcement.{Announcement}
use Rattle.wal_pages.specs.declared.wal_heads.announce.Announcement.TheVariants.{Block, Last}
use Rattle.wal_pages.specs.wal_heads.Heads.{has_bit, is_compressed, block_good, block_size, main_size}

-- parts that are there where the flags before them say so
unfoldable pub hole_at : Bool → List ℕ → Option (Option ℕ × List ℕ)
hole_at false bytes = Some (None, bytes)
hole_at true bytes = number_at w16 bytes >>= λ n. Some (Some n.0, n.1)

unfoldable pub image_at : Bool → List ℕ → Option (Option ImageHead × List ℕ)
image_at false bytes = Some (None, bytes)
image_at true bytes = do
  len ← number_at w16 bytes
  offset ← number_at w16 len.1
  info ← number_at w8 offset.1
  hole ← hole_at (has_bit info.0 1 && is_compressed info.0) info.1
  Some (Some (record { len = len.0; offset = offset.0; info = info.0; hole = hole.0 }), hole.1)

-- a relation's name, and the bytes after it
unfoldable pub named_at : List ℕ → Option (RelName × List ℕ)
named_at bytes = do
  space ← number_at w32 bytes
  db ← number_at w32 space.1
  rel ← number_at w32 db.1
  Some (record { space = space.0; db = db.0; rel = rel.0 }, rel.1)

unfoldable pub name_at : Bool → List ℕ → Option (Option RelName × List ℕ)
name_at false bytes = Some (None, bytes)
name_at true bytes = named_at bytes >>= λ name. Some (Some name.0, name.1)

abbrev pub block_head : ℕ → ℕ → ℕ → Option ImageHead → Option RelName → ℕ → BlockHead
block_head id flags data_len image rel block = record {
  id = id;
  flags = flags;
  data_len = data_len;
  image = image;
  rel = rel;
  block = block;
}

unfoldable pub block_head_at : List ℕ → Option (BlockHead × List ℕ)
block_head_at bytes = do
  id ← number_at w8 bytes
  flags ← number_at w8 id.1
  data_len ← number_at w16 flags.1
  image ← image_at (has_bit flags.0 0x10) data_len.1
  rel ← name_at (not (has_bit flags.0 0x80)) image.1
  block ← number_at w32 rel.1
  Some (block_head id.0 flags.0 data_len.0 image.0 rel.0 block.0, block.1)

unfoldable pub next_block_at : ℕ → List ℕ → Option (Announcement × List ℕ)
next_block_at least bytes =
    block_head_at bytes >>= λ h. if block_good least h.0 then Some (Block h.0, h.1) else None

-- the announcements end where just as many bytes are left as are announced
abbrev pub last_at : ℕ → MainHead → List ℕ → Option (Announcement × List ℕ)
last_at before main rest =
    if length rest == before + main_size main then Some (Last main, rest) else None

abbrev pub short_at : ℕ → List ℕ → Option (Announcement × List ℕ)
short_at before bytes = number_at w8 bytes >>= λ n. last_at before (Short n.0) n.1

abbrev pub long_at : ℕ → List ℕ → Option (Announcement × List ℕ)
long_at before bytes = number_at w32 bytes >>= λ n. last_at before (Long n.0) n.1

-- the announcement at the front, where ids go on at a least one and so many bytes are announced
-- already: no more are announced as soon as no more bytes are left than that
unfoldable pub step_at : ℕ → ℕ → List ℕ → Option (Announcement × List ℕ)
step_at least before bytes =
    if nat_le (length bytes) before then last_at before Absent bytes
    else (number_at w8 bytes >>= λ id. if id.0 == 255 then short_at before id.1
    else (if id.0 == 254 then long_at before id.1 else next_block_at least bytes))

-- the blocks, the main data's announcement, and the bytes behind all announcements
abbrev pub Heads : Type 0
Heads = List BlockHead × MainHead × List ℕ

abbrev pub with_head : BlockHead → Option Heads → Option Heads
with_head h None = None
with_head h (Some x) = Some (h ∷ x.0, x.1, x.2)

abbrev pub goes_on : (ℕ → ℕ → List ℕ → Option Heads) → ℕ → Announcement × List ℕ → Option Heads
goes_on read before (Last main, rest) = Some ([], main, rest)
goes_on read before (Block h, rest) =
    with_head h (read (h.id + 1) (before + block_size h) rest)

-- all announcements, if there are no more than so many
unfoldable pub heads_at : ℕ → ℕ → ℕ → List ℕ → Option Heads
heads_at zero least before bytes = None
heads_at (suc n) least before bytes =
    step_at least before bytes >>= goes_on (heads_at n) before
