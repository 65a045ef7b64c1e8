-- Areas that go back in parts, the last first.
use Rattle.run_command.proofs.StoreLent.{front_out, wal_out, store_gives}
use Rattle.run_command.proofs.lending.give_store.Goals as goal

pub give_two-requires-2-after_bounds : goal.give_two-requires-2-after_bounds
give_two-requires-2-after_bounds g c κs within =
    (front_out g.S.Site g.S.Area.Vault c.args.site.now c.give_two.new.site c.args.names c.args.areas c.requires c.give_two.ensures.gives).2

pub give_one-requires-after_bounds : goal.give_one-requires-after_bounds
give_one-requires-after_bounds g c κs within =
    wal_out g.S.Site g.S.Area.Vault c.args.site.now c.give_two.new.site c.give_two-2.new.site c.args.names c.args.areas c.requires c.give_two.ensures.gives c.give_two-2.ensures.gives

pub returns : goal.returns
returns g c =
    record { gives = store_gives g.S.Site g.S.Area.Vault c.args.site.now c.give_two.new.site c.give_two-2.new.site c.give_one.new.site c.args.names c.args.areas c.requires c.give_two.ensures.gives c.give_two-2.ensures.gives c.give_one.ensures.gives }
