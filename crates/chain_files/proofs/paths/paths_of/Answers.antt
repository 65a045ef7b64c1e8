-- A fork's paths are those of its folder and name.
use Rattle.chain_files.proofs.Placed.{fork_placed}
use Rattle.chain_files.proofs.paths.paths_of.Goals as goal

pub returns : goal.returns
returns c = record { placed = fork_placed c.args.fork.now c.args.seg c.is_named.ensures; plain = c.in_ok-plain.ensures; incr = c.in_ok-incr.ensures }
