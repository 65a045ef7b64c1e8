-- Areas that go back one by one, the last first.
use Rattle.std.proofs.Common.{◌∙◌}
use Rattle.restart_command.proofs.Lent.{data2_out, data1_out, data0_out, wal_out, data2_back, data1_back, data0_back, store_gives}
use Rattle.restart_command.proofs.lending.give_store.Goals as goal

pub give-requires-2-clause-taken : goal.give-requires-2-clause-taken
give-requires-2-clause-taken g c = (data2_out g.S.Area.Vault _ _ c.args.areas c.requires c.give.ensures.areas).out

pub give-requires-2-clause-later : goal.give-requires-2-clause-later
give-requires-2-clause-later g c = (data2_out g.S.Area.Vault _ _ c.args.areas c.requires c.give.ensures.areas).later

pub give-requires-3-clause-taken : goal.give-requires-3-clause-taken
give-requires-3-clause-taken g c =
    (data1_out g.S.Area.Vault _ _ c.args.areas c.requires (data2_back g.S.Area.Vault _ _ _ c.args.areas c.give.ensures.areas c.give-2.ensures.areas)).out

pub give-requires-3-clause-later : goal.give-requires-3-clause-later
give-requires-3-clause-later g c =
    (data1_out g.S.Area.Vault _ _ c.args.areas c.requires (data2_back g.S.Area.Vault _ _ _ c.args.areas c.give.ensures.areas c.give-2.ensures.areas)).later

pub give-requires-4-clause-taken : goal.give-requires-4-clause-taken
give-requires-4-clause-taken g c =
    (data0_out g.S.Area.Vault _ _ c.args.areas c.requires (data1_back g.S.Area.Vault _ _ _ c.args.areas (data2_back g.S.Area.Vault _ _ _ c.args.areas c.give.ensures.areas c.give-2.ensures.areas) c.give-3.ensures.areas)).out

pub give-requires-4-clause-later : goal.give-requires-4-clause-later
give-requires-4-clause-later g c =
    (data0_out g.S.Area.Vault _ _ c.args.areas c.requires (data1_back g.S.Area.Vault _ _ _ c.args.areas (data2_back g.S.Area.Vault _ _ _ c.args.areas c.give.ensures.areas c.give-2.ensures.areas) c.give-3.ensures.areas)).later

pub give-requires-5-clause-taken : goal.give-requires-5-clause-taken
give-requires-5-clause-taken g c =
    (wal_out g.S.Area.Vault _ _ c.args.areas c.requires (data0_back g.S.Area.Vault _ _ _ c.args.areas (data1_back g.S.Area.Vault _ _ _ c.args.areas (data2_back g.S.Area.Vault _ _ _ c.args.areas c.give.ensures.areas c.give-2.ensures.areas) c.give-3.ensures.areas) c.give-4.ensures.areas)).out

pub give-requires-5-clause-later : goal.give-requires-5-clause-later
give-requires-5-clause-later g c =
    (wal_out g.S.Area.Vault _ _ c.args.areas c.requires (data0_back g.S.Area.Vault _ _ _ c.args.areas (data1_back g.S.Area.Vault _ _ _ c.args.areas (data2_back g.S.Area.Vault _ _ _ c.args.areas c.give.ensures.areas c.give-2.ensures.areas) c.give-3.ensures.areas) c.give-4.ensures.areas)).later

pub returns : goal.returns
returns g c = record {
  gives = store_gives g.S.Site g.S.Area.Vault c.args.site.now c.give.new.self c.give-2.new.self c.give-3.new.self c.give-4.new.self c.give-5.new.self c.args.areas c.requires
      (c.give.ensures.areas, c.give-2.ensures.areas, c.give-3.ensures.areas, c.give-4.ensures.areas, c.give-5.ensures.areas)
      (c.give-5.ensures.take_faults ∙ (c.give-4.ensures.take_faults ∙ (c.give-3.ensures.take_faults ∙ (c.give-2.ensures.take_faults ∙ c.give.ensures.take_faults))));
}
