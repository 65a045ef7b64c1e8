-- A failed sync leaves what was written.
use Rattle.std.proofs.Common.{◌∙◌}
use Rattle.command_base.proofs.Decided.{on_err}
use Rattle.store_commands.proofs.NewWal.{unsynced}
use Rattle.store_commands.proofs.new_wal.write_first.Goals as goal

pub returns-clause-left : goal.returns-clause-left
returns-clause-left g c =
    on_err c.sync.result _
    (unsynced c.args.size c.as_bytes.result.now c.args.bytes.now (g.V.Vault.files c.args.area.now) (g.V.Vault.files c.write_at.new.self) (g.V.Vault.files c.sync.new.self)
    (c.as_bytes.ensures ∙ c.in_ok-name.ensures) c.in_ok-write_at.ensures.written c.sync.ensures.same)
