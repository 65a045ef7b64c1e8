-- Eight zeros, and what stands behind a page's first eight bytes.
use Rattle.std.proofs.Common.{refl}
use Rattle.std.specs.Prelude.{replicate}
use Rattle.rel_files.specs.Shown.{ShowsStore}
use Rattle.pgbackup_cli.proofs.drill_command.Hashed.{block_hashed}
use Rattle.pgbackup_cli.proofs.drill_command.contents.hash_block.Goals as goal

pub returns-clause-hashed : goal.returns-clause-hashed
returns-clause-hashed g c =
    block_hashed (ShowsStore g.V.Vault c.args.forks.now) c.args.at _ c.read_block.new.into (replicate 8 0) c.behind.result.now c.in_ok-read_block.field-0 c.args.hasher.now c.update.new.self c.update-2.new.self c.in_ok-read_block.ensures.read refl c.behind.ensures c.update.ensures c.update-2.ensures
