-- How long what is written is.
use Rattle.std.proofs.Common.{◌≡◌, ℕ, ◌+◌, ◌*◌, ◌≤◌, Bool, true, false, cond, List, [], ◌∷◌, ◌++◌, length, Option, Some, None, refl, arith}
use Rattle.std.specs.List.{All}
use Rattle.std.specs.Prelude.{nat_le}
use Rattle.wal_pages.specs.declared.wal_heads.announce.MainHead.TheVariants.{Short, Long}
use Rattle.wal_pages.specs.wal_heads.Heads.{main_bytes}
use Rattle.wal_record.proofs.Dropping.{length-commit}
use Rattle.std.proofs.lemmas.List.{length-append}
use Rattle.std.proofs.lemmas.List.Elements.{All-head, All-tail}
use Rattle.lsn_core.specs.Relation.{Relation}
use Rattle.pg_page.specs.Header.{IsGood, hole_of}
use Rattle.pg_page.specs.Image.{image_of}
use Rattle.pg_page.proofs.ImageLaws.{length-image_of-Some, length-image_of-None}
use Rattle.wal_pages.proofs.wal_heads.Lengths.{heads_most}
use Rattle.wal_record.specs.declared.record.BlockRef.{BlockRef}
use Rattle.wal_record.specs.declared.record.Body.{Body}
use Rattle.wal_record.specs.declared.record.Body.TheVariants.{Image, Delta}
use Rattle.wal_record.specs.declared.record.Kind.{Kind}
use Rattle.wal_record.specs.declared.record.Kind.TheVariants.{Shutdown, Online, RedoMark, NoOp, BackupEnd, Images, Generic, Create, Truncate, Commit}
use Rattle.wal_record.specs.Spelling.{heads_of, bodies_bytes, body_bytes, body_of, sized_head, main_head_of, commit_bytes, IsWritableBody, IsWritableBlock, IsBlockList, IsWritable}
use Rattle.wal_record.proofs.Deltas.{frags_most}

image_by : (page : List ℕ) (h : Option (ℕ × ℕ)) → hole_of page ≡ h → IsGood page → length (image_of page) ≤ 8192
image_by page None e good = omega (arith, length-image_of-None page good e)
image_by page (Some (lower, upper)) e good = omega (arith, length-image_of-Some page lower upper good e)

pub image_most : (page : List ℕ) → IsGood page → length (image_of page) ≤ 8192
image_most page good = image_by page (hole_of page) refl good

pub body_bytes_most : (b : Body) → IsWritableBody b → length (body_bytes b) ≤ 65535
body_bytes_most (Image page) w = omega (arith, image_most page w.0)
body_bytes_most (Delta frags) w = frags_most frags w

bodies_most : (blocks : List BlockRef) → All IsWritableBlock blocks → length (bodies_bytes blocks) ≤ length blocks * 65535
bodies_most [] w = omega arith
bodies_most (b ∷ bs) w =
    let own : IsWritableBlock b = All-head IsWritableBlock b bs w in
    omega (arith, body_bytes_most b.body own.body, bodies_most bs (All-tail IsWritableBlock b bs w), length-append (body_bytes b.body) (bodies_bytes bs))

pub length-heads_of : (id : ℕ) (last : Option Relation) (blocks : List BlockRef) → length (heads_of id last blocks) ≡ length blocks
length-heads_of id last [] = refl
length-heads_of id last (b ∷ bs) = omega (arith, length-heads_of (id + 1) (Some b.at.fork.rel) bs)

blocks_most : (blocks : List BlockRef) → IsBlockList blocks → length (body_of (Generic blocks)) ≤ 4194280
blocks_most blocks w =
    omega (arith, heads_most (heads_of 0 None blocks) (bodies_bytes blocks ++ []), length-heads_of 0 None blocks, bodies_most blocks w.each, length-append (bodies_bytes blocks) [], w.most)

-- main data takes 5 bytes more
sized_most : (size : ℕ) (c : Bool) (rest : List ℕ) → length (main_bytes (cond c (Short size) (Long size)) rest) ≤ 5 + length rest
sized_most size true rest = omega arith
sized_most size false rest = omega arith

main_most : (main rest : List ℕ) → length (main_bytes (main_head_of main) rest) ≤ 5 + length rest
main_most [] rest = omega arith
main_most (b ∷ bs) rest = sized_most (length (b ∷ bs)) (nat_le (length (b ∷ bs)) 255) rest

-- what can be written has at most 4,194,304 bytes, header included
pub body_most : (kind : Kind) → IsWritable kind → length (body_of kind) ≤ 4194280
body_most (Shutdown redo) w = omega arith
body_most (Online redo) w = omega arith
body_most (RedoMark n) w = omega arith
body_most NoOp w = omega arith
body_most (BackupEnd start) w = omega arith
body_most (Images blocks) w = blocks_most blocks w.0
body_most (Generic blocks) w = blocks_most blocks w
body_most (Create fork) w = omega arith
body_most (Truncate rel count flags) w = omega arith
body_most (Commit time rels) w = omega (arith, main_most (commit_bytes time rels) (commit_bytes time rels), length-commit time rels, w.1.1)
