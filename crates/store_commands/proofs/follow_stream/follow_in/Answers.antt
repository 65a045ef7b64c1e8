-- The area that comes back is the only one that may have changed.
use Rattle.command_base.proofs.Lent.{one_back}
use Rattle.store_commands.proofs.follow_stream.follow_in.Goals as goal

pub returns-clause-site : goal.returns-clause-site
returns-clause-site g c =
    let held = c.in_ok-held.held in
    let back = one_back g.S.Site g.S.Area.Vault c.args.out c.args.site.now c.take_one.new.site c.give_one.new.site held.name held.area _ c.requires.home c.in_ok-held.ensures.takes c.give_one.ensures.gives in
    (back.site, back.later)
