-- A segment file is removed.
use Rattle.rel_files.proofs.ForkFrames.{removal_changes}
use Rattle.restart_areas.proofs.clearing.clear_file.Goals as goal

pub returns-then-is_fork_path-clause-changes : goal.returns-then-is_fork_path-clause-changes
returns-then-is_fork_path-clause-changes g c =
    let r = c.remove.ensures in
    removal_changes g.V.Vault c.args.name.now c.args.area.now c.remove.new.self c.remove.result (c.is_fork_path.ensures.0 c.if-is_fork_path.true) r.removed r.memory r.failed r.noted r.tried r.cause.later
