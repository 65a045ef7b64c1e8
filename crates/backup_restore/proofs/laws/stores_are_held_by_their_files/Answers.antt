-- Files that have a store's segment files hold that store, also as a chain.
use Rattle.backup_restore.proofs.Directories.{plain_alike, plain_is_chain}
use Rattle.backup_restore.proofs.WrittenStores.{store_held}
use Rattle.backup_restore.proofs.laws.stores_are_held_by_their_files.Goals as goal

pub returns-clause-held : goal.returns-clause-held
returns-clause-held c = store_held

pub returns-clause-chain : goal.returns-clause-chain
returns-clause-chain c = plain_is_chain

pub returns-clause-alike : goal.returns-clause-alike
returns-clause-alike c = plain_alike
