-- An empty first file makes a fork.
use Rattle.std.proofs.Common.{◌∙◌}
use Rattle.backup_restore.proofs.Made.{fork_shown}
use Rattle.backup_restore.proofs.copying.make_fork.Goals as goal

pub returns-clause-made : goal.returns-clause-made
returns-clause-made g c =
    fork_shown c.write_piece.result (g.V.Vault.files c.args.out.now) (g.V.Vault.files c.write_piece.new.out) c.args.fork.now c.as_bytes.result.now c.segment_path.ensures.named (c.as_bytes.ensures ∙ c.in_ok-path.ensures.path) c.write_piece.ensures.written
