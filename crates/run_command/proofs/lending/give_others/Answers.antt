-- The area of summaries goes back before those of the backups.
use Rattle.run_command.proofs.StoreLent.{out_back, others_give}
use Rattle.vault.proofs.LentAreas.{out_front}
use Rattle.std.proofs.Common.{[], ◌∷◌}
use Rattle.run_command.proofs.lending.give_others.Goals as goal

pub give_one-requires-after_bounds : goal.give_one-requires-after_bounds
give_one-requires-after_bounds g c κs within = out_back g.S.Area.Vault (g.S.Site.areas c.args.site.now) c.args.held.items (c.args.sums ∷ []) c.requires

pub give_all-requires-after_bounds : goal.give_all-requires-after_bounds
give_all-requires-after_bounds g c κs within = out_front g.S.Area.Vault (g.S.Site.areas c.args.site.now) (g.S.Site.areas c.give_one.new.site) c.args.held.items (c.args.sums ∷ []) c.requires c.give_one.ensures.gives.areas

pub returns : goal.returns
returns g c = record { gives = others_give g.S.Site g.S.Area.Vault c.args.site.now c.give_one.new.site c.give_all.new.site c.args.held.items c.args.sums c.requires c.give_one.ensures.gives c.give_all.ensures.gives }
