-- The written form of an entry (access/xlogrecord.h).
use Rattle.std.specs.Prelude.{◌≡◌, ℕ, ◌+◌, ◌-◌, ◌<◌, ◌≤◌, ◌^◌, Bool, false, ℤ, FitsSigned, List, [], ◌∷◌, ◌++◌, length, replicate, Option, Some, None, nat_le, ◌==◌, ◌&&◌, if◌then◌else◌}
use Rattle.std.specs.List.{All, flat_map}
use Rattle.std.specs.Int.{w8, w16, w32, w64, to_le_bytes, cast_unsigned}
use Rattle.lsn_core.specs.Relation.{Relation}
use Rattle.lsn_core.specs.Sizes.{most_blocks}
use Rattle.lsn_core.specs.declared.ids.ForkKind.{ForkKind}
use Rattle.lsn_core.specs.declared.ids.ForkKind.TheVariants.{Main, Init}
use Rattle.lsn_core.specs.declared.ids.ForkId.{ForkId}
use Rattle.lsn_core.specs.declared.lsn.Lsn.{Lsn}
use Rattle.wal_crc.specs.Crc.{crc32c}
use Rattle.pg_page.specs.Header.{IsGood, hole_of, hole_zeroed}
use Rattle.pg_page.specs.Image.{image_of}
use Rattle.pg_page.specs.Frags.{Fragment, bad_frag}
use Rattle.wal_record.specs.declared.record.Record.{Record}
use Rattle.wal_record.specs.declared.record.Kind.{Kind}
use Rattle.wal_record.specs.declared.record.Kind.TheVariants.{Shutdown, Online, RedoMark, NoOp, BackupEnd, Images, Generic, Create, Truncate, Commit}
use Rattle.wal_record.specs.declared.record.BlockRef.{BlockRef}
use Rattle.wal_record.specs.declared.record.Body.{Body}
use Rattle.wal_record.specs.declared.record.Body.TheVariants.{Image, Delta}
use Rattle.wal_pages.specs.declared.wal_heads.announce.ImageHead.{ImageHead}
use Rattle.wal_pages.specs.declared.wal_heads.announce.RelName.{RelName}
use Rattle.wal_pages.specs.declared.wal_heads.announce.BlockHead.{BlockHead}
use Rattle.wal_pages.specs.declared.wal_heads.announce.MainHead.{MainHead}
use Rattle.wal_pages.specs.declared.wal_heads.announce.MainHead.TheVariants.{Absent, Short, Long}
use Rattle.wal_pages.specs.wal_heads.Heads.{heads_bytes}

abbrev pub fork_number : ForkKind → ℕ
fork_number Main = 0
fork_number Init = 3

-- the resource manager of a kind (access/rmgrlist.h)
abbrev pub manager_of : Kind → ℕ
manager_of (Shutdown redo) = 0
manager_of (Online redo) = 0
manager_of (RedoMark n) = 0
manager_of NoOp = 0
manager_of (BackupEnd start) = 0
manager_of (Images blocks) = 0
manager_of (Generic blocks) = 20
manager_of (Create fork) = 2
manager_of (Truncate rel count flags) = 2
manager_of (Commit time rels) = 1

-- the info byte of a commit: 0x80 where it tells of dropped relations
abbrev pub commit_info : List Relation → ℕ
commit_info [] = 0x00
commit_info (rel ∷ rels) = 0x81

-- its info byte; bit 1 of a manager's own entries is special relation update
abbrev pub info_of : Kind → ℕ
info_of (Shutdown redo) = 0x00
info_of (Online redo) = 0x10
info_of (RedoMark n) = 0xE0
info_of NoOp = 0x20
info_of (BackupEnd start) = 0x50
info_of (Images blocks) = 0xB0
info_of (Generic blocks) = 0x00
info_of (Create fork) = 0x11
info_of (Truncate rel count flags) = 0x21
info_of (Commit time rels) = commit_info rels

-- a checkpoint's 24 bytes (profile): redo point, timeline 1, previous timeline 1, byte 1, zeros
abbrev pub checkpoint_bytes : Lsn → List ℕ
checkpoint_bytes redo =
    to_le_bytes w64 redo.0 ++ (to_le_bytes w32 1 ++ (to_le_bytes w32 1 ++ (1 ∷ replicate 7 0)))

-- a relation of tablespace 1663, pg_default, and what stands behind it
abbrev pub relation_bytes : Relation → List ℕ → List ℕ
relation_bytes rel behind =
    to_le_bytes w32 1663 ++ (to_le_bytes w32 rel.db ++ (to_le_bytes w32 rel.rel ++ behind))

abbrev pub creation_bytes : ForkId → List ℕ
creation_bytes fork = relation_bytes fork.rel (to_le_bytes w32 (fork_number fork.kind))

abbrev pub truncation_bytes : Relation → ℕ → ℕ → List ℕ
truncation_bytes rel count flags =
    to_le_bytes w32 count ++ relation_bytes rel (to_le_bytes w32 flags)

-- relations, one behind the other
abbrev pub rels_bytes : List Relation → List ℕ
rels_bytes rels = flat_map (λ rel. relation_bytes rel []) rels

-- a commit's time and, where it drops relations, the information bits 4, their number and their
-- names (access/xact.h)
abbrev pub commit_bytes : ℤ → List Relation → List ℕ
commit_bytes time [] = to_le_bytes w64 (cast_unsigned w64 time)
commit_bytes time (rel ∷ rels) =
    to_le_bytes w64 (cast_unsigned w64 time)
    ++ (to_le_bytes w32 4
    ++ (to_le_bytes w32 (length (rel ∷ rels)) ++ rels_bytes (rel ∷ rels)))

-- the main data
abbrev pub main_of : Kind → List ℕ
main_of (Shutdown redo) = checkpoint_bytes redo
main_of (Online redo) = checkpoint_bytes redo
main_of (RedoMark n) = to_le_bytes w32 n
main_of NoOp = []
main_of (BackupEnd start) = to_le_bytes w64 start.0
main_of (Images blocks) = []
main_of (Generic blocks) = []
main_of (Create fork) = creation_bytes fork
main_of (Truncate rel count flags) = truncation_bytes rel count flags
main_of (Commit time rels) = commit_bytes time rels

abbrev pub blocks_of : Kind → List BlockRef
blocks_of (Shutdown redo) = []
blocks_of (Online redo) = []
blocks_of (RedoMark n) = []
blocks_of NoOp = []
blocks_of (BackupEnd start) = []
blocks_of (Images blocks) = blocks
blocks_of (Generic blocks) = blocks
blocks_of (Create fork) = []
blocks_of (Truncate rel count flags) = []
blocks_of (Commit time rels) = []

-- the head of a page's image, by the page's hole
abbrev pub image_head_of : Option (ℕ × ℕ) → ImageHead
image_head_of None = record { len = 8192; offset = 0; info = 2; hole = None }
image_head_of (Some hole) = record {
  len = 8192 - (hole.1 - hole.0);
  offset = hole.0;
  info = 3;
  hole = None;
}

-- a delta is its fragments: place, length and bytes of each
abbrev pub frag_bytes : Fragment → List ℕ
frag_bytes f = to_le_bytes w16 f.at ++ (to_le_bytes w16 (length f.bytes) ++ f.bytes)

abbrev pub frags_bytes : List Fragment → List ℕ
frags_bytes frags = flat_map frag_bytes frags

-- the head, the flag, the bytes and the length of data of a block's body
abbrev pub body_image : Body → Option ImageHead
body_image (Image page) = Some (image_head_of (hole_of page))
body_image (Delta frags) = None

abbrev pub body_flag : Body → ℕ
body_flag (Image page) = 0x10
body_flag (Delta frags) = 0x20

abbrev pub body_bytes : Body → List ℕ
body_bytes (Image page) = image_of page
body_bytes (Delta frags) = frags_bytes frags

abbrev pub body_data_len : Body → ℕ
body_data_len (Image page) = 0
body_data_len (Delta frags) = length (frags_bytes frags)

-- whether the block before is of this relation
abbrev pub is_same : Option Relation → Relation → Bool
is_same None rel = false
is_same (Some last) rel = (last.db == rel.db) && (last.rel == rel.rel)

-- the flag of a block whose relation isn't told again
abbrev pub same_flag : Bool → ℕ
same_flag same = if same then 0x80 else 0

abbrev pub full_name : Relation → RelName
full_name rel = record { space = 1663; db = rel.db; rel = rel.rel }

-- the relation, where it is told
abbrev pub told_name : Bool → Relation → Option RelName
told_name same rel = if same then None else Some (full_name rel)

-- the announcement of a block, by its id and the relation of the block before
abbrev pub head_of : ℕ → Option Relation → BlockRef → BlockHead
head_of id last b = record {
  id = id;
  flags = fork_number b.at.fork.kind + (body_flag b.body + same_flag (is_same last b.at.fork.rel));
  data_len = body_data_len b.body;
  image = body_image b.body;
  rel = told_name (is_same last b.at.fork.rel) b.at.fork.rel;
  block = b.at.block;
}

abbrev pub heads_of : ℕ → Option Relation → List BlockRef → List BlockHead
heads_of id last [] = []
heads_of id last (b ∷ bs) = head_of id last b ∷ heads_of (id + 1) (Some b.at.fork.rel) bs

-- the announcements of an entry's blocks
abbrev pub all_heads : List BlockRef → List ℕ
all_heads blocks = heads_bytes (heads_of 0 None blocks) Absent []

-- main data of up to 255 bytes is announced by one byte of length
abbrev pub sized_head : ℕ → MainHead
sized_head size = if nat_le size 255 then Short size else Long size

abbrev pub main_head_of : List ℕ → MainHead
main_head_of [] = Absent
main_head_of (b ∷ bs) = sized_head (length (b ∷ bs))

-- the bytes of the blocks, one behind the other
abbrev pub bodies_bytes : List BlockRef → List ℕ
bodies_bytes blocks = flat_map (λ b. body_bytes b.body) blocks

-- what stands behind the header: the announcements, the blocks' bodies, and the main data
abbrev pub body_of : Kind → List ℕ
body_of kind =
    heads_bytes (heads_of 0 None (blocks_of kind)) (main_head_of (main_of kind))
    (bodies_bytes (blocks_of kind) ++ main_of kind)

-- how many bytes an entry has
abbrev pub total_of : Kind → ℕ
total_of kind = 24 + length (body_of kind)

-- the first 20 bytes of an entry's header
abbrev pub front_of : Record → List ℕ
front_of r =
    to_le_bytes w32 (total_of r.kind) ++ (to_le_bytes w32 r.xid ++ (to_le_bytes w64 r.prev.0
    ++ (to_le_bytes w8 (info_of r.kind)
    ++ (to_le_bytes w8 (manager_of r.kind) ++ to_le_bytes w16 0))))

-- an entry as it is written, with these four bytes of sum
unfoldable pub spelling : ℕ → Record → List ℕ
spelling crc r = front_of r ++ (to_le_bytes w32 crc ++ body_of r.kind)

-- an entry as it is written: its sum is the CRC-32C of the bytes behind the header and then of the
-- header's first 20 bytes
abbrev pub sealed : Record → List ℕ
sealed r = spelling (crc32c (body_of r.kind ++ front_of r)) r

-- what can be written of a block: a page with zeros in its hole, or good fragments
abbrev pub IsWritableBody : Body → Type 0
IsWritableBody (Image page) = IsGood page × (hole_zeroed page ≡ page)
IsWritableBody (Delta frags) = bad_frag frags ≡ None

-- a relation of numbers that aren't 0
pub record IsRelation (rel : Relation) : Type 0 where
  pub some : (0 < rel.db) × (0 < rel.rel)
  pub fits : (rel.db < 2 ^ 32) × (rel.rel < 2 ^ 32)

pub record IsWritableBlock (b : BlockRef) : Type 0 where
  pub number : b.at.block < most_blocks
  pub rel : IsRelation b.at.fork.rel
  pub body : IsWritableBody b.body

-- 1 to 33 blocks that can be written; an entry of them has at most 4,194,304 bytes
pub record IsBlockList (blocks : List BlockRef) : Type 0 where
  pub some : 1 ≤ length blocks
  pub most : length blocks ≤ 33
  pub each : All IsWritableBlock blocks

abbrev pub IsImage : Body → Type 0
IsImage (Image page) = Unit
IsImage (Delta frags) = ⊥

-- so many relations at most leave a commit its most bytes
abbrev pub most_drops : ℕ
most_drops = 349521

-- a kind that can be written: it is well formed
abbrev pub IsWritable : Kind → Type 0
IsWritable (Shutdown redo) = redo.0 < 2 ^ 64
IsWritable (Online redo) = redo.0 < 2 ^ 64
IsWritable (RedoMark n) = n < 2 ^ 32
IsWritable NoOp = Unit
IsWritable (BackupEnd start) = start.0 < 2 ^ 64
IsWritable (Images blocks) = IsBlockList blocks × All (λ b. IsImage b.body) blocks
IsWritable (Generic blocks) = IsBlockList blocks
IsWritable (Create fork) = IsRelation fork.rel
IsWritable (Truncate rel count flags) = IsRelation rel × ((count < 2 ^ 32 - 1) × (flags ≤ 7))
IsWritable (Commit time rels) =
    FitsSigned w64 time × (All IsRelation rels × (length rels ≤ most_drops))
