-- The file's first 32 bytes stand in its first page.
use Rattle.std.proofs.Common.{◌∙◌}
use Rattle.wal_reader.proofs.FirstPage.{tells_system}
use Rattle.wal_reader.proofs.settings.system_at.Goals as goal

pub returns-clause-system : goal.returns-clause-system
returns-clause-system g c =
    tells_system c.args.size c.in-Some.number (g.V.Vault.files c.args.wal.now) c.args.segment c.as_bytes.result.now c.in_ok-page.page.items c.system_in.result c.in-Some.is (c.as_bytes.ensures ∙ c.in_ok-name.ensures) (rw c.deref.ensures.value at c.system_in.ensures) c.in_ok-page.ensures.bytes
