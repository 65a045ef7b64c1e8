use Rattle.vault_os.proofs.Below.{remove_no_file}
use Rattle.vault_os.proofs.writing.remove_at.Goals as goal

pub returns-in_default-clause-removed : goal.returns-in_default-clause-removed
returns-in_default-clause-removed g c = remove_no_file c.args.path.now _ c.in_ok-size_at.field-0 c.in_ok-size_at.ensures c.in_default.not-Some
