use Rattle.std.proofs.Common.{◌-◌, ◌%◌, ◌≤◌, sym, ◌∙◌, arith}
use Rattle.wal_archive.proofs.Founds.{seen_set}
use Rattle.wal_archive.proofs.found.is_set_end.Goals as goal

pub returns-then-shows_more-clause-zeros : goal.returns-then-shows_more-clause-zeros
returns-then-shows_more-clause-zeros g c =
    let some : 1 ≤ c.args.size = omega
    (arith, c.mib-mib.ensures.value, c.mib-mib.ensures.range.least) in
    seen_set (g.V.Vault.files c.args.area.now) c.args.size c.args.from (8192 - c.args.from % 8192)
    c.args.front.now some (sym c.shows_more.ensures ∙ c.if-shows_more.true) c.requires.front
