-- A piece of zeros leaves the question to what lies behind it; a byte other than zero answers it.
use Rattle.std.proofs.Common.{◌≡◌, ◌+◌, ◌≤◌, false, length, take, drop, sym, ◌∙◌, arith, length-take}
use Rattle.lsn_core.specs.byte_words.Told.{when_both_told}
use Rattle.vault.specs.Area.{bytes_of}
use Rattle.wal_archive.specs.Scanning.{all_zero}
use Rattle.wal_archive.specs.Scanning.{IsZeroRun}
use Rattle.wal_archive.proofs.ZeroRuns.{run_stops, run_goes_on}
use Rattle.wal_archive.proofs.zeros.are_zeros.Goals as goal

pub returns-then-not-zero-clause-zero : goal.returns-then-not-zero-clause-zero
returns-then-not-zero-clause-zero g c =
    let within : c.loop-at.at + c.in_ok-count.count ≤ c.args.limit =
    omega (
      arith,
      c.in_ok-count.ensures.count,
      c.min-wanted.ensures,
      length-take c.min-wanted.result c.loop-at.piece,
      c.loop-at.invariant.within,
    ) in
    when_both_told (g.V.Vault.files c.args.area.now)
    (λ m. all_zero (drop c.args.from (take c.args.limit (bytes_of m c.args.name.now)))
    ≡ all_zero (drop c.loop-at.at (take c.args.limit (bytes_of m c.args.name.now))))
    (λ m. IsZeroRun (bytes_of m c.args.name.now) c.loop-at.at
    (length (take c.min-wanted.result c.loop-at.piece)) c.in_ok-count.count c.in_ok-count.zero)
    (λ m. false ≡ all_zero (drop c.args.from (take c.args.limit (bytes_of m c.args.name.now))))
    (λ m kept run. sym (kept ∙ run_stops (bytes_of m c.args.name.now) c.loop-at.at c.args.limit
    c.in_ok-count.count within (sym run.zero_is ∙ c.if-not-zero.true)))
    c.loop-at.invariant.zero
    (rw c.loop-at.invariant.reads.files at c.in_ok-count.ensures.run)

pub loop-at-preserved : goal.loop-at-preserved
loop-at-preserved g c =
    let within : c.loop-at.at + c.in_ok-count.count ≤ c.args.limit =
    omega (
      arith,
      c.in_ok-count.ensures.count,
      c.min-wanted.ensures,
      length-take c.min-wanted.result c.loop-at.piece,
      c.loop-at.invariant.within,
    ) in
    record {
      within = omega (arith, c.from-at.ensures, within);
      reads = record {
        files = c.zero_run.ensures.reads.files ∙ c.loop-at.invariant.reads.files;
        past = c.zero_run.ensures.reads.past ∙ c.loop-at.invariant.reads.past;
        faults = omega (arith, c.zero_run.ensures.reads.faults, c.loop-at.invariant.reads.faults);
      };
      zero = when_both_told (g.V.Vault.files c.args.area.now)
          (λ m. all_zero (drop c.args.from (take c.args.limit (bytes_of m c.args.name.now)))
          ≡ all_zero (drop c.loop-at.at (take c.args.limit (bytes_of m c.args.name.now))))
          (λ m. IsZeroRun (bytes_of m c.args.name.now) c.loop-at.at
          (length (take c.min-wanted.result c.loop-at.piece)) c.in_ok-count.count
          c.in_ok-count.zero)
          (λ m. all_zero (drop c.args.from (take c.args.limit (bytes_of m c.args.name.now)))
          ≡ all_zero (drop (c.loop-at.at + c.from-at.result)
          (take c.args.limit (bytes_of m c.args.name.now))))
          (λ m kept run. rw c.from-at.ensures
          (kept ∙ run_goes_on (bytes_of m c.args.name.now) c.loop-at.at c.args.limit
          c.in_ok-count.count within (sym run.zero_is ∙ c.if-not-zero.false)))
          c.loop-at.invariant.zero
          (rw c.loop-at.invariant.reads.files at c.in_ok-count.ensures.run);
    }
