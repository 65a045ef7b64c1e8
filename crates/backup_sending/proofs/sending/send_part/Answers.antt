use Rattle.std.proofs.Common.{◌≡◌, ℕ, ◌*◌, ◌+◌, true, List, length, sym, ap, ◌∙◌, arith}
use Rattle.backup_files.specs.Rows.{row_with}
use Rattle.backup_sending.proofs.Planned.{few_blocks}
use Rattle.backup_sending.proofs.SentFiles.{part_sent}
use Rattle.backup_sending.proofs.sending.send_part.Goals as goal

pub overflow_mul-size : goal.overflow_mul-size
overflow_mul-size g c =
    let few = few_blocks c.args.head.now c.requires.written in
    let same : length c.as_slice-blocks.result.now ≡ length c.args.head.now.blocks = ap length c.as_slice-blocks.ensures.list in
    omega (arith, few, same)

pub overflow_add-size : goal.overflow_add-size
overflow_add-size g c =
    let few = few_blocks c.args.head.now c.requires.written in
    let same : length c.as_slice-blocks.result.now ≡ length c.args.head.now.blocks = ap length c.as_slice-blocks.ensures.list in
    omega (arith, few, same, c.len.ensures, c.in_ok-front.front.ok.0, c.in_ok-front.front.small)

pub copy_part-requires-clause-small : goal.copy_part-requires-clause-small
copy_part-requires-clause-small g c = λ κs lives.
    let few = few_blocks c.args.head.now c.requires.written in
    let same : length c.as_slice-blocks.result.now ≡ length c.args.head.now.blocks = ap length c.as_slice-blocks.ensures.list in
    let front : length c.deref.result.now ≡ length c.in_ok-front.front.items = ap length c.deref.ensures.value in
    omega (arith, few, same, front, c.in_ok-front.front.ok.0, c.in_ok-front.front.small)

pub returns-clause-sent : goal.returns-clause-sent
returns-clause-sent g c =
    let few = few_blocks c.args.head.now c.requires.written in
    let same : length c.as_slice-blocks.result.now ≡ length c.args.head.now.blocks = ap length c.as_slice-blocks.ensures.list in
    let front : length c.deref.result.now ≡ length c.in_ok-front.front.items = ap length c.deref.ensures.value in
    part_sent (g.J.OfStore.tells ≡ true) c.copy_part.new.pass.list c.args.from.0 c.args.fork.now c.args.seg c.args.first c.args.head.now c.args.modified.now c.as_bytes.result.now c.deref.result.now c.as_slice-blocks.result.now c.in_ok-sum.sum
    (c.len.result + 8192 * length c.as_slice-blocks.result.now) (g.V.Vault.files c.args.out.now) (g.V.Vault.files c.copy_part.new.out) c.args.rows.now.items c.push.new.self.items c.in_ok-file_row.field-0 (c.as_bytes.ensures ∙ c.in_ok-path.ensures.path) (c.deref.ensures.value ∙ c.in_ok-front.ensures)
    c.as_slice-blocks.ensures.list (omega (arith, front, c.len.ensures, c.in_ok-front.front.ok.0)) (omega (arith, few, same, c.len.ensures, c.in_ok-front.front.ok.0, c.in_ok-front.front.small)) c.in_ok-sum.ensures.copied
    (c.in_ok-file_row.ensures ∙ ap (λ (x : List ℕ). row_with x (c.len.result + 8192 * length c.as_slice-blocks.result.now) c.args.modified.now c.in_ok-sum.sum) (sym c.as_bytes.ensures)) c.in_ok-push.ensures.items
