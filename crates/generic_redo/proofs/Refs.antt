-- A block reference redone, by its body and by its number.
use Rattle.std.proofs.Common.{◌≡◌, ℕ, ◌<◌, List, length, get_or, Option, Some, refl, sym, ap, subst, ◌∙◌}
use Rattle.std.proofs.lemmas.Option.{slice_get_read}
use Rattle.lsn_core.specs.byte_words.Numbers.{◌>>=◌}
use Rattle.lsn_core.specs.Store.{Store}
use Rattle.lsn_core.specs.Shown.{Turns}
use Rattle.lsn_core.specs.Blocks.{page_put}
use Rattle.pg_page.specs.Frags.{Fragment}
use Rattle.wal_record.specs.declared.record.Record.{Record}
use Rattle.wal_record.specs.declared.record.BlockRef.{BlockRef}
use Rattle.wal_record.specs.declared.record.Body.{Body}
use Rattle.wal_record.specs.declared.record.Body.TheVariants.{Image, Delta}
use Rattle.wal_record.specs.Spelling.{blocks_of}
use Rattle.history.specs.Apply.{item_by}
use Rattle.history.specs.Whole.{edit_of}
use Rattle.history.specs.Redo.{redone, Redoes, Refuses}
use Rattle.generic_redo.specs.Redo.{block_ref, block_redone, ref_redone}
use Rattle.generic_redo.specs.Inside.{restored, delta_redone}

-- a block with this body redone
abbrev body_redone : ℕ → BlockRef → Body → Store → Option Store
body_redone end block body s = item_by redone end s (record { at = block.at; edit = edit_of body })

pub image_redone : {P : Type 0} (shows : P → Store → Type 0) (before behind : P) (end : ℕ) (block : BlockRef) (image : List ℕ) → block.body ≡ Image image
    → Turns shows before behind (page_put block.at (restored end image)) → Redoes shows before behind (block_redone end block)
image_redone shows before behind end block image is turns =
    subst (λ (b : Body). Redoes shows before behind (body_redone end block b)) (sym is) (λ s shown. (page_put block.at (restored end image) s, (refl, turns s shown)))

pub delta_redone_by : {P : Type 0} (shows : P → Store → Type 0) (before behind : P) (end : ℕ) (block : BlockRef) (frags : List Fragment) → block.body ≡ Delta frags
    → Redoes shows before behind (delta_redone end block.at frags) → Redoes shows before behind (block_redone end block)
delta_redone_by shows before behind end block frags is redoes = subst (λ (b : Body). Redoes shows before behind (body_redone end block b)) (sym is) redoes

-- the block reference of a number
pub ref_there : (r : Record) (i : ℕ) (blocks : List BlockRef) (block : BlockRef) → blocks ≡ blocks_of r.kind → i < length (blocks_of r.kind) → block ≡ get_or blocks i block → block_ref r i ≡ Some block
ref_there r i blocks block are within is = slice_get_read (blocks_of r.kind) (length (blocks_of r.kind)) i block refl within (is ∙ ap (λ (bs : List BlockRef). get_or bs i block) are)

pub ref_redoes : {P : Type 0} (shows : P → Store → Type 0) (before behind : P) (r : Record) (i : ℕ) (block : BlockRef) → block_ref r i ≡ Some block → Redoes shows before behind (block_redone r.end.0 block) → Redoes shows before behind (ref_redone r i)
ref_redoes shows before behind r i block there redoes = subst (λ (o : Option BlockRef). Redoes shows before behind (λ s. o >>= λ b. block_redone r.end.0 b s)) (sym there) redoes

pub ref_refuses : {P : Type 0} (shows : P → Store → Type 0) (before behind : P) (r : Record) (i : ℕ) (block : BlockRef) → block_ref r i ≡ Some block → Refuses shows before behind (block_redone r.end.0 block) → Refuses shows before behind (ref_redone r i)
ref_refuses shows before behind r i block there refuses = subst (λ (o : Option BlockRef). Refuses shows before behind (λ s. o >>= λ b. block_redone r.end.0 b s)) (sym there) refuses
