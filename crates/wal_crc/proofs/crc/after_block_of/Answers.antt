use Rattle.std.proofs.Common.{rules, ap, ◌∙◌, fold}
use Rattle.wal_crc.specs.Crc.{crc_run}
use Rattle.wal_crc.proofs.Runs.{halves}
use Rattle.wal_crc.proofs.crc.after_block_of.Goals as goal

pub returns : goal.returns
returns c =
    halves c.args.register c.two_runs-first.result.0 c.two_runs-first.result.1 c.moved.result c.args.block.now c.split_at.result.0.now c.split_at.result.1.now
    (search rules) (search rules) c.split_at.ensures.front c.split_at.ensures.back
    (c.two_runs-first.ensures.first ∙ ap (fold crc_run c.args.register) c.as_chunks.ensures.front)
    (c.two_runs-first.ensures.second ∙ ap (fold crc_run 0) c.as_chunks-2.ensures.front) c.moved.ensures
