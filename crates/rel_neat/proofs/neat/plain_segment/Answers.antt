-- A path that names no plain segment file names none.
use Rattle.std.proofs.Common.{Bool, sym, ap, subst, ◌∙◌}
use Rattle.lsn_core.specs.Names.{fork_path_bytes}
use Rattle.rel_neat.specs.Segments.{TellsSegment}
use Rattle.rel_neat.proofs.Judged.{no_segment, incremental}
use Rattle.rel_neat.proofs.neat.plain_segment.Goals as goal

pub returns-in_err-fork : goal.returns-in_err-fork
returns-in_err-fork c = subst (TellsSegment c.args.path.now) (sym c.from_residual.ensures) (no_segment c.args.path.now c.in_err-fork.ensures.none)

pub returns-then-incr : goal.returns-then-incr
returns-then-incr c =
    let x = c.in_ok-fork in
    incremental c.args.path.now x.fork x.seg x.ensures.named (x.ensures.found ∙ ap (λ (b : Bool). fork_path_bytes x.fork x.seg b) c.if-incr.true)
