-- What was put is synced.
use Rattle.rel_files.specs.Kept.{keeps_on}
use Rattle.follow_command.proofs.Made.{still_shown}
use Rattle.follow_command.proofs.output.write_all.Goals as goal

pub returns-clause-copied : goal.returns-clause-copied
returns-clause-copied g c = still_shown g.V.Vault c.args.forks.now c.copy_store.new.target c.sync.new.self c.args.follower.now.store c.in_ok-written.written c.in_ok-sync.ensures.held c.in_ok-written.ensures.copied

pub returns-clause-kept : goal.returns-clause-kept
returns-clause-kept g c = keeps_on g.V.Vault c.args.forks.now c.copy_store.new.target c.sync.new.self c.in_ok-written.ensures.kept c.in_ok-sync.ensures.kept
