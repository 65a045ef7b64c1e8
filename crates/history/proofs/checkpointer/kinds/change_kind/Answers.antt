-- As many blocks as items, each of which can be written.
use Rattle.std.proofs.Common.{◌≡◌, ◌≤◌, ℕ, List, length, ap, subst, sym, ◌∙◌}
use Rattle.wal_record.specs.declared.record.BlockRef.{BlockRef}
use Rattle.history.proofs.checkpointer.Pages.{length_over}
use Rattle.history.proofs.checkpointer.kinds.change_kind.Goals as goal

pub returns-clause-writable : goal.returns-clause-writable
returns-clause-writable c =
    let same = ap (λ (bs : List BlockRef). length bs) c.in_ok-blocks.ensures.blocks ∙ length_over c.args.redo.0 c.args.items.now c.args.before.now c.requires.each in
    record {
      some = subst (λ (n : ℕ). 1 ≤ n) (sym same) c.requires.some;
      most = subst (λ (n : ℕ). n ≤ 33) (sym same) c.requires.most;
      each = c.in_ok-blocks.ensures.writable;
    }
