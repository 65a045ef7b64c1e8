-- What only writes behind the flushed place keeps what a stop leaves before it.
use Rattle.std.proofs.Common.{rules}
use Rattle.wal_writer.specs.Log.{flush_end}
use Rattle.wal_writer.specs.Answers.{FlushWrites}
use Rattle.wal_writer.proofs.Tears.{keeps_archive}
use Rattle.wal_writer.proofs.state.WalState.flush_to.Goals as goal
use Rattle.wal_writer.proofs.state.WalState.flush_to.Goals.{then-flushed-to+in_ok-flush_until, else-flushed-to}

pub returns-in_err-flush_until-clause-moments : goal.returns-in_err-flush_until-clause-moments
returns-in_err-flush_until-clause-moments g c =
    keeps_archive c.args.self.now.tail.mib c.args.self.now.tail.flushed c.flush_end-at.result
    (g.V.Vault.past c.args.self.now.area) (g.V.Vault.past c.flush_until.new.self.area)
    c.flushed.ensures.known.segment.least c.flush_until.ensures.frame.past

pub returns-clause-moments : goal.returns-clause-moments
returns-clause-moments g c =
    let frame : FlushWrites g.V.Vault c.args.to.0 c.args.self.now c.if-flushed-to.self =
    elim c.if-flushed-to.branch [
      | then-flushed-to+in_ok-flush_until w ↦ search rules
      | else-flushed-to w ↦ search rules
    ] in
    keeps_archive c.args.self.now.tail.mib c.args.self.now.tail.flushed
    (flush_end c.args.self.now.tail c.args.to.0) (g.V.Vault.past c.args.self.now.area)
    (g.V.Vault.past c.if-flushed-to.self.area) c.flushed.ensures.known.segment.least frame.past
