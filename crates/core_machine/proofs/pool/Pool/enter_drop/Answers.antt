use Rattle.std.proofs.Common.{◌≡◌, ℕ, List, [], ◌∷◌, ap, ◌∙◌}
use Rattle.lsn_core.specs.Relation.{Relation}
use Rattle.lsn_core.specs.declared.ids.ForkId.{ForkId}
use Rattle.lsn_core.specs.declared.ids.BlockId.{BlockId}
use Rattle.history.specs.declared.op.Op.TheVariants as op
use Rattle.history.specs.Apply.{main_fork, init_fork, without_rel}
use Rattle.store_core.specs.State.{Part}
use Rattle.store_core.specs.Parts.{works_dropped}
use Rattle.core_machine.specs.Inside.{part_in, part_behind, part_without}
use Rattle.store_core.proofs.Dirty.{dropped_dirty}
use Rattle.core_machine.proofs.pool.Pool.enter_drop.Goals as goal

both_gone : (end : ℕ) (rel : Relation) (part : Part) → part_without (init_fork rel) (part_without (main_fork rel) part) ≡ part_behind end (op.Drop rel) part
both_gone end rel part =
    ap (λ (dirty : List BlockId). record { frames = without_rel part.frames rel; disk = part.disk; dirty = dirty; works = works_dropped part.frames part.works (rel ∷ []); point = part.point }) (dropped_dirty rel part.dirty)

pub returns : goal.returns
returns c end =
    let before = part_in c.args.self.now in
    c.in_ok-drop_fork-2.ensures ∙ ap (part_without c.init_fork.result) c.in_ok-drop_fork.ensures
    ∙ ap (λ (fork : ForkId). part_without c.init_fork.result (part_without fork before)) c.main_fork.ensures
    ∙ ap (λ (fork : ForkId). part_without fork (part_without (main_fork c.args.rel) before)) c.init_fork.ensures ∙ both_gone end c.args.rel before
