use Rattle.std.proofs.Common.{rules, ◌≤◌, arith}
use Rattle.wal_archive.proofs.Founds.{beyond_set, no_start}
use Rattle.wal_archive.proofs.found.set_bytes.Goals as goal

pub returns-then-from-gt-BEYOND-clause-bytes : goal.returns-then-from-gt-BEYOND-clause-bytes
returns-then-from-gt-BEYOND-clause-bytes g c =
    let most : c.args.of.now.segment ≤ 1024 = search rules in
    beyond_set (g.V.Vault.files c.args.area.now) c.args.of.now.segment c.args.from.0
    c.args.of.now.system most (omega (arith, c.if-from-gt-BEYOND.true)) (search rules)

pub returns-then-not-may_start-clause-bytes : goal.returns-then-not-may_start-clause-bytes
returns-then-not-may_start-clause-bytes g c =
    no_start (g.V.Vault.files c.args.area.now) c.args.of.now.segment c.args.from.0
    c.args.of.now.system (search rules)
