-- A removal is one step of the files.
use Rattle.std.proofs.Common.{◌≡◌, ℕ, List, false, subst, ◌∙◌}
use Rattle.lsn_core.specs.Names.{fork_path_bytes}
use Rattle.vault.specs.Area.{after_remove}
use Rattle.vault.specs.Stops.{removed}
use Rattle.rel_files.proofs.ForkFrames.{removal_changes}
use Rattle.rel_neat.specs.Segments.{Makes}
use Rattle.rel_neat.proofs.Staying.{makes_by}
use Rattle.rel_neat.proofs.neat.remove_segment.Goals as goal

pub returns-clause-removed : goal.returns-clause-removed
returns-clause-removed g c =
    let is : c.as_bytes.result.now ≡ fork_path_bytes c.args.fork.now c.args.seg false = c.as_bytes.ensures ∙ c.in_ok-path.ensures in
    let e = c.remove.ensures in
    subst (λ (name : List ℕ). Makes g.V.Vault (after_remove name) (removed name) c.args.area.now c.remove.new.self c.remove.result) is
    (makes_by g.V.Vault (after_remove c.as_bytes.result.now) (removed c.as_bytes.result.now) c.args.area.now c.remove.new.self c.remove.result e.removed e.memory e.failed e.noted e.tried)

pub returns-clause-changes : goal.returns-clause-changes
returns-clause-changes g c =
    let e = c.remove.ensures in
    removal_changes g.V.Vault c.as_bytes.result.now c.args.area.now c.remove.new.self c.remove.result
    (record { fork = c.args.fork.now; seg = c.args.seg; named = c.requires; path_is = c.as_bytes.ensures ∙ c.in_ok-path.ensures })
    e.removed e.memory e.failed e.noted e.tried e.cause.later
