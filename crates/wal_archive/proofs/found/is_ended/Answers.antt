use Rattle.std.proofs.Common.{◌-◌, ◌%◌, ◌≤◌, sym, ap, ◌∙◌, arith}
use Rattle.wal_archive.specs.Reading.{front_place, shows_more}
use Rattle.wal_archive.proofs.Founds.{seen_ended}
use Rattle.wal_archive.proofs.found.is_ended.Goals as goal

pub returns-then-shows_more-clause-ended : goal.returns-then-shows_more-clause-ended
returns-then-shows_more-clause-ended g c =
    let some : 1 ≤ c.args.size = omega
    (arith, c.mib-mib.ensures.value, c.mib-mib.ensures.range.least) in
    seen_ended (g.V.Vault.files c.args.area.now) c.args.size c.args.system c.args.end c.args.start
    (8192 - front_place c.args.end c.args.start % 8192) c.args.front.now some c.requires.start
    (ap (λ n. shows_more c.args.front.now (c.args.start - n)) (sym c.front_place-x.ensures)
    ∙ sym c.shows_more.ensures ∙ c.if-shows_more.true)
    c.requires.front
