-- Of the two areas that come back one was only read.
use Rattle.command_base.specs.Areas.{wal_name}
use Rattle.command_base.proofs.Lent.{taken_as, two_back, second_writes, reads_still, still_at}
use Rattle.store_commands.proofs.replaying.replay_in.Goals as goal

pub returns-clause-site : goal.returns-clause-site
returns-clause-site g c =
    let wal = c.two_of-wal.result.0 in
    let out = c.two_of-wal.result.1 in
    let taken = taken_as g.S.Site g.S.Area.Vault c.in_ok-names.names.items wal_name c.args.out.now c.args.site.now c.take_all.new.site c.in_ok-take_all.field-0.items wal out
    c.in_ok-names.ensures c.two_of-wal.ensures c.in_ok-take_all.ensures.takes in
    let back = two_back g.S.Site g.S.Area.Vault wal_name c.args.out.now c.args.site.now c.take_all.new.site c.give_two.new.site wal.name out.name wal.area out.area _ _ c.requires.home taken c.give_two.ensures.gives in
    (second_writes wal_name c.args.out.now _ _ back.site (still_at _ _ _ _ back.first back.first_now (reads_still g.S.Area.Vault _ _ c.replay_areas-area.ensures.wal)), back.later)
