-- A cut is one step of the files.
use Rattle.std.proofs.Common.{◌≡◌, ◌*◌, ℕ, List, false, subst, ◌∙◌}
use Rattle.lsn_core.specs.Names.{fork_path_bytes}
use Rattle.vault.specs.Area.{after_cut}
use Rattle.vault.specs.Stops.{cut}
use Rattle.rel_files.proofs.ForkFrames.{cut_changes}
use Rattle.rel_neat.specs.Segments.{Makes}
use Rattle.rel_neat.proofs.Staying.{makes_by}
use Rattle.rel_neat.proofs.neat.cut_segment.Goals as goal

pub returns-clause-cut : goal.returns-clause-cut
returns-clause-cut g c =
    let is : c.as_bytes.result.now ≡ fork_path_bytes c.args.fork.now c.args.seg false = c.as_bytes.ensures ∙ c.in_ok-path.ensures in
    let size = c.args.blocks * 8192 in
    let e = c.cut.ensures in
    subst (λ (name : List ℕ). Makes g.V.Vault (after_cut name size) (cut name size) c.args.area.now c.cut.new.self c.cut.result) is
    (makes_by g.V.Vault (after_cut c.as_bytes.result.now size) (cut c.as_bytes.result.now size) c.args.area.now c.cut.new.self c.cut.result e.cut e.memory e.failed e.noted e.tried)

pub returns-clause-changes : goal.returns-clause-changes
returns-clause-changes g c =
    let e = c.cut.ensures in
    cut_changes g.V.Vault c.as_bytes.result.now (c.args.blocks * 8192) c.args.area.now c.cut.new.self c.cut.result
    (record { fork = c.args.fork.now; seg = c.args.seg; named = c.requires.named; path_is = c.as_bytes.ensures ∙ c.in_ok-path.ensures })
    e.cut e.memory e.failed e.noted e.tried e.cause.later
