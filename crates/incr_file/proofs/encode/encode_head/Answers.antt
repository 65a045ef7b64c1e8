use Rattle.std.proofs.Common.{◌≡◌, ◌≤◌, List, ℕ, length, ap, ◌∙◌, arith, vec_len}
use Rattle.incr_file.specs.Head.{body_place}
use Rattle.incr_file.proofs.Heads.{few_blocks, padded}
use Rattle.incr_file.proofs.encode.encode_head.Goals as goal

pub overflow_cast-count : goal.overflow_cast-count
overflow_cast-count c =
    let few : length c.args.head.now.blocks ≤ 131072 = few_blocks c.args.head.now c.requires in
    let same : length c.as_slice.result.now ≡ length c.args.head.now.blocks = ap (λ (l : List ℕ). length l) c.as_slice.ensures.list in
    omega arith

pub returns : goal.returns
returns c =
    c.in_ok-resize.ensures.items
    ∙ padded c.args.head.now c.in_ok-bytes.bytes.items (vec_len c.in_ok-bytes.bytes) c.body_place.result c.in_ok-bytes.ensures (omega arith) (c.body_place.ensures ∙ ap (λ (l : List ℕ). body_place (length l)) c.as_slice.ensures.list)
