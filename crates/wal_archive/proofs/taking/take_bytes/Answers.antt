use Rattle.std.proofs.Common.{rules, ◌≡◌, ◌<◌, ◌+◌, length, arith}
use Rattle.wal_archive.proofs.RunLaws.{take_whole, take_short}
use Rattle.wal_archive.proofs.taking.take_bytes.Goals as goal

pub returns-then-count-into-clause-bytes : goal.returns-then-count-into-clause-bytes
returns-then-count-into-clause-bytes g c =
    let all : c.in_ok-count.count ≡ length c.run_on_page.new.into = search rules in
    take_whole (g.V.Vault.files c.args.area.now) c.args.size c.args.begin c.args.x
    c.run_on_page.new.into c.in_ok-count.count all c.in_ok-count.ensures.run

pub returns-clause-bytes : goal.returns-clause-bytes
returns-clause-bytes g c =
    let less : c.in_ok-count.count < length c.run_on_page.new.into =
    grind (
      arith,
      c.in_ok-count.ensures.count,
      c.in_ok-count.ensures.length,
      c.if-count-into.false,
    ) in
    take_short (g.V.Vault.files c.args.area.now) (g.V.Vault.files c.run_on_page.new.area)
    c.args.size c.args.begin c.args.x (c.args.x + c.from.result) c.run_on_page.new.into
    c.in_ok-count.count c.in_ok-damage.damage c.in_ok-count.ensures.reads.files (search rules)
    less c.in_ok-count.ensures.run c.in_ok-damage.ensures.why
