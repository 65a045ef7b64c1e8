use Rattle.std.proofs.Common.{◌≡◌, OnOk, sym, subst}
use Rattle.history.specs.declared.op.Op.{Op}
use Rattle.core_machine.specs.Inside.{part_in, part_behind}
use Rattle.core_machine.proofs.pool.Pool.enter.Goals as goal

pub returns-in-Create : goal.returns-in-Create
returns-in-Create c =
    subst (λ (o : Op). OnOk c.enter_creation.result (part_in c.enter_creation.new.self ≡ part_behind c.args.end.0 o (part_in c.args.self.now))) (sym c.in-Create.is) (c.enter_creation.ensures c.args.end.0)

pub returns-in-Truncate : goal.returns-in-Truncate
returns-in-Truncate c =
    subst (λ (o : Op). OnOk c.enter_cut.result (part_in c.enter_cut.new.self ≡ part_behind c.args.end.0 o (part_in c.args.self.now))) (sym c.in-Truncate.is) (c.enter_cut.ensures c.args.end.0)

pub returns-in-Drop : goal.returns-in-Drop
returns-in-Drop c =
    subst (λ (o : Op). OnOk c.enter_drop.result (part_in c.enter_drop.new.self ≡ part_behind c.args.end.0 o (part_in c.args.self.now))) (sym c.in-Drop.is) (c.enter_drop.ensures c.args.end.0)
