-- What an entry says, by its announcements and the bytes behind them, or the first why it is
-- refused (profile).
use Rattle.std.specs.Prelude.{ℕ, zero, suc, ◌%◌, Bool, true, false, List, [], ◌∷◌, length, take, drop, Option, Some, None, Result, Ok, Err, not, nat_lt, ◌==◌, ◌&&◌, ◌||◌, if◌then◌else◌}
use Rattle.lsn_core.specs.Relation.{Relation}
use Rattle.lsn_core.specs.Sizes.{most_blocks}
use Rattle.lsn_core.specs.declared.ids.BlockId.{BlockId}
use Rattle.lsn_core.specs.declared.ids.ForkKind.{ForkKind}
use Rattle.lsn_core.specs.declared.ids.ForkKind.TheVariants.{Main, Init}
use Rattle.wal_pages.specs.declared.wal_heads.announce.BlockHead.{BlockHead}
use Rattle.wal_pages.specs.declared.wal_heads.announce.ImageHead.{ImageHead}
use Rattle.wal_pages.specs.declared.wal_heads.announce.MainHead.{MainHead}
use Rattle.wal_pages.specs.declared.wal_heads.announce.RelName.{RelName}
use Rattle.wal_pages.specs.declared.wal_heads.header.Form.{Form}
use Rattle.wal_pages.specs.declared.wal_heads.header.Form.TheVariants as forms
use Rattle.wal_record.specs.declared.record.BlockRef.{BlockRef}
use Rattle.wal_record.specs.declared.record.Body.{Body}
use Rattle.wal_record.specs.declared.record.Body.TheVariants.{Image, Delta}
use Rattle.wal_record.specs.declared.record.Kind.{Kind}
use Rattle.wal_record.specs.declared.record.Kind.TheVariants.{Shutdown, Online, RedoMark, NoOp, BackupEnd, Images, Generic, Create, Truncate, Commit}
use Rattle.wal_record.specs.declared.record.Why.{Why}
use Rattle.wal_record.specs.declared.record.Why.TheVariants.{CommitBits, Compressed, NotApplied, Tablespace, Fork, Relation as NoRelation, BlockRange, ImagePage, Fragments, Shape}
use Rattle.wal_pages.specs.wal_heads.Announcements.{named_at}
use Rattle.wal_pages.specs.wal_heads.Heads.{has_bit, is_compressed, image_size, block_size, main_size}
use Rattle.wal_record.specs.Outcome.{◌>>=◌, or_fault}
use Rattle.wal_record.specs.Parts.{last_of, page_at, delta_at, checkpoint_at, mark_at, start_at, creation_at, truncation_at, other_bits_at, commit_time_at, commit_at}

-- the fork of a number: fsm and vm, 1 and 2, aren't taken
abbrev pub fork_numbered : ℕ → Option ForkKind
fork_numbered n = if n == 0 then Some Main else (if n == 3 then Some Init else None)

-- the relation of a name, whose numbers aren't 0
abbrev pub relation_of : RelName → Option Relation
relation_of name =
    if nat_lt 0 name.db && nat_lt 0 name.rel then Some (record { db = name.db; rel = name.rel })
    else None

abbrev pub is_packed : Option ImageHead → Bool
is_packed None = false
is_packed (Some image) = is_compressed image.info

abbrev pub is_applied : Option ImageHead → Bool
is_applied None = true
is_applied (Some image) = has_bit image.info 2

-- which block is meant, of the relation of this name
unfoldable pub id_said : RelName → BlockHead → Result BlockId Why
id_said name head =
    if is_packed head.image then Err Compressed
    else (if not (is_applied head.image) then Err NotApplied
    else (if not (name.space == 1663) then Err Tablespace
    else (or_fault Fork (fork_numbered (head.flags % 16)) >>= λ kind.
    or_fault NoRelation (relation_of name) >>= λ rel.
    if nat_lt head.block most_blocks then
    Ok (record { fork = record { rel = rel; kind = kind }; block = head.block })
    else Err BlockRange)))

-- only two kinds have blocks, and only one of them may have deltas
abbrev pub has_blocks : Form → Bool
has_blocks forms.Shutdown = false
has_blocks forms.Online = false
has_blocks forms.RedoMark = false
has_blocks forms.NoOp = false
has_blocks forms.BackupEnd = false
has_blocks forms.Images = true
has_blocks forms.Generic = true
has_blocks forms.Create = false
has_blocks forms.Truncate = false
has_blocks forms.Commit = false
has_blocks forms.CommitMore = false

abbrev pub has_deltas : Form → Bool
has_deltas forms.Shutdown = false
has_deltas forms.Online = false
has_deltas forms.RedoMark = false
has_deltas forms.NoOp = false
has_deltas forms.BackupEnd = false
has_deltas forms.Images = false
has_deltas forms.Generic = true
has_deltas forms.Create = false
has_deltas forms.Truncate = false
has_deltas forms.Commit = false
has_deltas forms.CommitMore = false

unfoldable pub image_said : Form → BlockHead → ImageHead → List ℕ → Result Body Why
image_said form head image bytes =
    or_fault ImagePage (page_at image.offset bytes) >>= λ page.
    if has_blocks form && (head.data_len == 0) then Ok (Image page) else Err Shape

unfoldable pub delta_said : Form → BlockHead → List ℕ → Result Body Why
delta_said form head bytes =
    if has_deltas form && nat_lt 0 head.data_len then
    (or_fault Fragments (delta_at bytes) >>= λ frags. Ok (Delta frags))
    else Err Shape

-- how a block is changed, by its image and its data
abbrev pub body_by : Form → BlockHead → Option ImageHead → List ℕ → List ℕ → Result Body Why
body_by form head None image delta = delta_said form head delta
body_by form head (Some h) image delta = image_said form head h image

-- a block, by the relation's name and the bytes from the block's on
unfoldable pub block_said : Form → RelName → BlockHead → List ℕ → Result BlockRef Why
block_said form name head parts =
    id_said name head >>= λ at.
    body_by form head head.image (take (image_size head.image) parts)
    (take head.data_len (drop (image_size head.image) parts)) >>= λ body.
    Ok (record { at = at; body = body })

-- a block's relation is that of the block before, where it isn't told
abbrev pub own_name : RelName → Option RelName → RelName
own_name last None = last
own_name last (Some name) = name

abbrev pub with_block : BlockRef → Result (List BlockRef) Why → Result (List BlockRef) Why
with_block block (Ok blocks) = Ok (block ∷ blocks)
with_block block (Err why) = Err why

-- the blocks in turn, each through all its whys; behind the announcements stand their bytes
unfoldable pub blocks_said : Form → RelName → List BlockHead → List ℕ → Result (List BlockRef) Why
blocks_said form last [] parts = Ok []
blocks_said form last (h ∷ hs) parts =
    block_said form (own_name last h.rel) h parts >>= λ block.
    with_block block (blocks_said form (own_name last h.rel) hs (drop (block_size h) parts))

-- the first block tells its relation
abbrev pub no_name : RelName
no_name = record { space = 0; db = 0; rel = 0 }

unfoldable pub creation_said : List ℕ → Result Kind Why
creation_said main =
    or_fault Shape (creation_at main) >>= λ x.
    if not (x.0.space == 1663) then Err Tablespace
    else (or_fault Fork (fork_numbered x.1) >>= λ kind.
    or_fault NoRelation (relation_of x.0) >>= λ rel.
    Ok (Create (record { rel = rel; kind = kind })))

unfoldable pub truncation_said : List ℕ → Result Kind Why
truncation_said main =
    or_fault Shape (truncation_at main) >>= λ x.
    if not (x.1.0.space == 1663) then Err Tablespace
    else (or_fault NoRelation (relation_of x.1.0) >>= λ rel.
    if (x.0 == 0xFFFFFFFF) || nat_lt 7 x.1.1 then Err Shape else Ok (Truncate rel x.0 x.1.1))

-- the relation of a name, of the one tablespace
unfoldable pub rel_said : RelName → Result Relation Why
rel_said name =
    if not (name.space == 1663) then Err Tablespace else or_fault NoRelation (relation_of name)

abbrev pub with_rel : Relation → Result (List Relation) Why → Result (List Relation) Why
with_rel rel (Ok rels) = Ok (rel ∷ rels)
with_rel rel (Err why) = Err why

-- relations in turn, so many, each through its whys
unfoldable pub rels_said : ℕ → List ℕ → Result (List Relation) Why
rels_said zero bytes = Ok []
rels_said (suc n) bytes =
    or_fault Shape (named_at bytes) >>= λ name.
    rel_said name.0 >>= λ rel. with_rel rel (rels_said n name.1)

unfoldable pub commit_said : List ℕ → Result Kind Why
commit_said main =
    or_fault Shape (commit_at main) >>= λ x.
    rels_said x.1.0 x.1.1 >>= λ rels. Ok (Commit x.0 rels)

-- a commit has other information bits than those of dropped relations; then nothing else of it is
-- judged
abbrev pub has_other_bits : Form → List ℕ → Bool
has_other_bits forms.Shutdown main = false
has_other_bits forms.Online main = false
has_other_bits forms.RedoMark main = false
has_other_bits forms.NoOp main = false
has_other_bits forms.BackupEnd main = false
has_other_bits forms.Images main = false
has_other_bits forms.Generic main = false
has_other_bits forms.Create main = false
has_other_bits forms.Truncate main = false
has_other_bits forms.Commit main = false
has_other_bits forms.CommitMore main = other_bits_at main

-- blocks, at least one, and no main data
unfoldable pub blocks_alone : List BlockRef → List ℕ → Result (List BlockRef) Why
blocks_alone [] main = Err Shape
blocks_alone (b ∷ bs) main = if length main == 0 then Ok (b ∷ bs) else Err Shape

-- the kind, by the blocks and the main data
unfoldable pub kind_said : Form → List BlockRef → List ℕ → Result Kind Why
kind_said forms.Shutdown blocks main =
    or_fault Shape (checkpoint_at main) >>= λ redo. Ok (Shutdown redo)
kind_said forms.Online blocks main =
    or_fault Shape (checkpoint_at main) >>= λ redo. Ok (Online redo)
kind_said forms.RedoMark blocks main = or_fault Shape (mark_at main) >>= λ n. Ok (RedoMark n)
kind_said forms.NoOp blocks main = Ok NoOp
kind_said forms.BackupEnd blocks main =
    or_fault Shape (start_at main) >>= λ start. Ok (BackupEnd start)
kind_said forms.Images blocks main = blocks_alone blocks main >>= λ list. Ok (Images list)
kind_said forms.Generic blocks main = blocks_alone blocks main >>= λ list. Ok (Generic list)
kind_said forms.Create blocks main = creation_said main
kind_said forms.Truncate blocks main = truncation_said main
kind_said forms.Commit blocks main =
    or_fault Shape (commit_time_at main) >>= λ time. Ok (Commit time [])
kind_said forms.CommitMore blocks main = commit_said main

-- what an entry of a form says
unfoldable pub said : Form → List BlockHead → MainHead → List ℕ → Result Kind Why
said form heads main parts =
    if has_other_bits form (last_of (main_size main) parts) then Err CommitBits
    else (blocks_said form no_name heads parts >>= λ blocks.
    kind_said form blocks (last_of (main_size main) parts))
