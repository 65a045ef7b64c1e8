use Rattle.std.proofs.Common.{◌≡◌, ℕ, List, ap, sym, subst, ◌∙◌}
use Rattle.std.specs.Result.{IfOk}
use Rattle.wal_record.specs.declared.record.BlockRef.{BlockRef}
use Rattle.wal_record.specs.declared.record.Kind.{Kind}
use Rattle.wal_record.specs.declared.record.Kind.TheVariants as kind
use Rattle.history.specs.declared.op.Item.{Item}
use Rattle.history.specs.declared.op.Op.{Op}
use Rattle.history.specs.Op.{act_of_op, IsFit}
use Rattle.history.specs.Written.{kind_of}
use Rattle.history.specs.checkpointer.Changes.{blocks_over, AreFitOver}
use Rattle.history.specs.checkpointer.Laws.{pages_before}
use Rattle.history.proofs.checkpointer.Pages.{by_pages, have_pages}
use Rattle.store_core.proofs.kinds.op_kind.Goals as goal

pub change_kind-requires : goal.change_kind-requires
change_kind-requires c =
    let items = c.in-Change.items in
    let pages = c.deref.ensures.value ∙ c.in_ok-before-in-Change.ensures ∙ ap (pages_before c.args.frames.now) c.as_slice.ensures in
    subst (λ (xs : List Item). AreFitOver xs c.deref.result.now) (sym c.as_slice-in-Change.ensures)
    (subst (λ (ps : List (List ℕ)). AreFitOver items ps) (sym pages) (have_pages c.args.frames.now items (subst (λ (o : Op). IsFit c.args.frames.now o) c.in-Change.is c.requires)))

pub returns-in_ok-before-in-Change-clause-kind : goal.returns-in_ok-before-in-Change-clause-kind
returns-in_ok-before-in-Change-clause-kind c =
    let items = c.in-Change.items in
    let pages = c.deref.ensures.value ∙ c.in_ok-before-in-Change.ensures ∙ ap (pages_before c.args.frames.now) c.as_slice.ensures in
    let made = ap (λ (xs : List Item). kind.Generic (blocks_over c.args.redo.0 xs c.deref.result.now)) c.as_slice-in-Change.ensures
    ∙ ap (λ (ps : List (List ℕ)). kind.Generic (blocks_over c.args.redo.0 items ps)) pages ∙ ap (λ (bs : List BlockRef). kind.Generic bs) (by_pages c.args.frames.now c.args.redo.0 items)
    ∙ ap (λ (o : Op). kind_of c.args.frames.now c.args.redo.0 (act_of_op o)) (sym c.in-Change.is) in
    subst (λ (k : Kind). IfOk c.change_kind.result (λ x. x ≡ k)) made c.change_kind.ensures.kind
