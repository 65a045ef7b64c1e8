use Rattle.backup_restore.specs.Directories.{PlainDirectoriesAreChains, StoresAreHeld}
use Rattle.chain_laws.proofs.Full.{KnownOfFiles, full_held, full_sound}
use Rattle.chain_laws.proofs.laws.full_backups_are_sound_chains.Goals as goal

known : StoresAreHeld → PlainDirectoriesAreChains → KnownOfFiles
known held chain = record { held = held; chain = chain }

pub returns-clause-held : goal.returns-clause-held
returns-clause-held c = full_held (known c.stores_are_held_by_their_files.ensures.held c.stores_are_held_by_their_files.ensures.chain)

pub returns-clause-sound : goal.returns-clause-sound
returns-clause-sound c = full_sound (known c.stores_are_held_by_their_files.ensures.held c.stores_are_held_by_their_files.ensures.chain)
