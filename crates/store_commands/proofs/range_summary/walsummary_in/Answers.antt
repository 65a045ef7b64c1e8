-- The area that comes back was only read.
use Rattle.command_base.proofs.Lent.{one_back, none_writes, reads_still, still_at}
use Rattle.store_commands.proofs.range_summary.walsummary_in.Goals as goal

pub returns-clause-site : goal.returns-clause-site
returns-clause-site g c =
    let held = c.in_ok-held.held in
    let back = one_back g.S.Site g.S.Area.Vault c.args.area c.args.site.now c.take_one.new.site c.give_one.new.site held.name held.area _ c.requires.home c.in_ok-held.ensures.takes c.give_one.ensures.gives in
    (none_writes c.args.area _ _ back.site (still_at _ _ _ _ back.area back.area_now (reads_still g.S.Area.Vault _ _ c.covered_by-area.ensures.reads)), back.later)
