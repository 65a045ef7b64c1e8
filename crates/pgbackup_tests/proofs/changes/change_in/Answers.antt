use Rattle.std.proofs.Common.{◌≤◌, arith}
use Rattle.vault.proofs.LentAreas.{taken_one, lent_named}
use Rattle.pgbackup_tests.proofs.changes.change_in.Goals as goal

pub give-requires : goal.give-requires
give-requires g c =
    let took = c.in_ok-area.ensures in
    let out = (taken_one g.S.Site g.S.Area.Vault c.args.site.now c.take.new.self c.args.name.now c.in_ok-area.area took.taken took.away took.cause.later).out.0 in
    record { taken = out.out; later = omega (arith, out.later, c.make-made.ensures) }

pub returns : goal.returns
returns g c =
    let took = c.in_ok-area.ensures in
    (lent_named g.S.Site g.S.Area.Vault (λ p q. p.faults ≤ q.faults) c.args.site.now c.take.new.self c.give.new.self c.args.name.now c.in_ok-area.area c.make-made.new.area c.requires took.taken took.away took.cause.later c.make-made.ensures c.give.ensures.areas c.give.ensures.take_faults c.make-made.ensures).0.home
