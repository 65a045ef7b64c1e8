-- Of the two areas that come back one was only read.
use Rattle.command_base.specs.Areas.{wal_name, sums_name}
use Rattle.command_base.proofs.Lent.{taken_as, two_back, first_writes, reads_still, still_at}
use Rattle.store_commands.proofs.new_store.init_in.Goals as goal

pub returns-clause-site : goal.returns-clause-site
returns-clause-site g c =
    let wal = c.two_of-wal.result.0 in
    let sums = c.two_of-wal.result.1 in
    let taken = taken_as g.S.Site g.S.Area.Vault c.in_ok-names.names.items wal_name sums_name c.args.site.now c.take_all.new.site c.in_ok-take_all.field-0.items wal sums
    c.in_ok-names.ensures c.two_of-wal.ensures c.in_ok-take_all.ensures.takes in
    let back = two_back g.S.Site g.S.Area.Vault wal_name sums_name c.args.site.now c.take_all.new.site c.give_two.new.site wal.name sums.name wal.area sums.area _ _ c.requires.home taken c.give_two.ensures.gives in
    (first_writes wal_name sums_name _ _ back.site (still_at _ _ _ _ back.second back.second_now (reads_still g.S.Area.Vault _ _ c.init_areas-area.ensures.sums)), back.later)
