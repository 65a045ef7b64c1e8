-- What was prepared is what stands in segment 1.
use Rattle.std.proofs.Common.{ap, ◌∙◌}
use Rattle.store_commands.proofs.NewWal.{first_put}
use Rattle.store_commands.proofs.new_wal.start_wal.Goals as goal

pub returns-in-Ok-write_first-clause-written : goal.returns-in-Ok-write_first-clause-written
returns-in-Ok-write_first-clause-written g c =
    first_put c.args.settings c.segment-2.result c.bytes.result.now (g.V.Vault.files c.args.area) (g.V.Vault.files c.detach-area.result) (g.V.Vault.files c.write_first.new.area)
    c.segment-2.ensures.value (c.bytes.ensures ∙ c.in-Ok.ensures.bytes) (ap g.V.Vault.files c.detach-area.ensures ∙ ap g.V.Vault.files c.attach-wal.ensures.area) c.requires c.in-Ok-write_first.ensures.written
