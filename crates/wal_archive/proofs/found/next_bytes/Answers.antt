use Rattle.std.proofs.Common.{rules, ◌≤◌, arith}
use Rattle.wal_archive.proofs.Founds.{beyond_next}
use Rattle.wal_archive.proofs.found.next_bytes.Goals as goal

pub returns-then-end-gt-BEYOND-clause-bytes : goal.returns-then-end-gt-BEYOND-clause-bytes
returns-then-end-gt-BEYOND-clause-bytes g c =
    let most : c.args.of.now.segment ≤ 1024 = search rules in
    beyond_next (g.V.Vault.files c.args.area.now) c.args.of.now.segment c.args.of.now.system
    c.args.end.0 most (omega (arith, c.if-end-gt-BEYOND.true))
