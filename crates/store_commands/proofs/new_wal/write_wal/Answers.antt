use Rattle.std.proofs.Common.{inl}
use Rattle.store_commands.specs.Init.{settings_file}
use Rattle.store_commands.proofs.NewWal.{ready, both_written, both_left}
use Rattle.store_commands.proofs.new_wal.write_wal.Goals as goal

pub returns-in-Err-clause-left : goal.returns-in-Err-clause-left
returns-in-Err-clause-left g c = inl c.in-Err.ensures.left

pub start_wal-requires-after_bounds : goal.start_wal-requires-after_bounds
start_wal-requires-after_bounds g c κs within =
    ready c.args.settings (settings_file c.args.settings) (g.V.Vault.files c.args.area) (g.V.Vault.files c.write_settings.new.wal) c.requires c.in_default.ensures.written

pub returns-clause-written : goal.returns-clause-written
returns-clause-written g c =
    both_written c.args.settings c.start_wal.result.1 (g.V.Vault.files c.args.area) (g.V.Vault.files c.write_settings.new.wal) (g.V.Vault.files c.start_wal.result.0) c.requires c.in_default.ensures.written c.start_wal.ensures.written

pub returns-clause-left : goal.returns-clause-left
returns-clause-left g c =
    both_left c.args.settings c.start_wal.result.1 (g.V.Vault.files c.args.area) (g.V.Vault.files c.write_settings.new.wal) (g.V.Vault.files c.start_wal.result.0) c.requires c.in_default.ensures.written c.start_wal.ensures.left
