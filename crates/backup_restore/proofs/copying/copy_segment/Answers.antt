-- Each piece that is read is put behind the pages before it.
use Rattle.std.proofs.Common.{ℕ, ◌*◌, List, take, Option, subst, ap, ◌∙◌, arith}
use Rattle.std.specs.Option.{option_map}
use Rattle.vault.specs.Area.{after_write}
use Rattle.vault.proofs.Changed.{changes_on}
use Rattle.rel_files.specs.Forks.{IsForkPath}
use Rattle.rel_files.proofs.ForkFrames.{changes_none}
use Rattle.chain_files.specs.Sources.{OfChain, IsSourceOf}
use Rattle.chain_files.specs.Told.{chain_told}
use Rattle.chain_files.specs.declared.source.SegmentSource.{SegmentSource}
use Rattle.chain_files.proofs.Told.{fails_later, reads_trans, reads_told}
use Rattle.backup_restore.specs.declared.fault.RestoreFault.TheVariants.{Backup}
use Rattle.backup_restore.specs.Inside.{CopyCause}
use Rattle.backup_restore.proofs.Chains.{err_cause}
use Rattle.backup_restore.proofs.Segments.{read_as, none_there, segment_begun, segment_grown, segment_ended, segment_filled}
use Rattle.backup_restore.proofs.copying.copy_segment.Goals as goal

pub returns-in_default-clause-put : goal.returns-in_default-clause-put
returns-in_default-clause-put g c =
    none_there g.V.Vault c.args.relseg (chain_told g.V.Vault c.args.areas.now c.args.places.now) c.args.fork.now c.args.seg c.args.first 0 c.args.out.now
    (subst (λ (o : Option SegmentSource). OfChain (chain_told g.V.Vault c.args.areas.now c.args.places.now) (λ chain. IsSourceOf chain c.args.fork.now c.args.seg o)) c.in_default.is c.in_ok-source.ensures.source)

pub loop-count-init : goal.loop-count-init
loop-count-init g c = (
  segment_begun g.V.Vault c.args.relseg (chain_told g.V.Vault c.args.areas.now c.args.places.now) c.args.fork.now c.args.seg c.args.first c.min-most.result c.args.out.now c.in-Some.source (subst (λ (o : Option SegmentSource). OfChain (chain_told g.V.Vault c.args.areas.now c.args.places.now) (λ chain. IsSourceOf chain c.args.fork.now c.args.seg o)) c.in-Some.is c.in_ok-source.ensures.source),
  c.in_ok-source.ensures.reads,
  changes_none g.V.Vault IsForkPath c.args.out.now,
  omega arith,
)

pub returns-in_err-got-clause-reads : goal.returns-in_err-got-clause-reads
returns-in_err-got-clause-reads g c = reads_trans g.V.Vault c.args.areas.now c.loop-count.areas c.read_pages.new.areas c.loop-count.invariant.1 c.in_err-got.ensures.reads

pub returns-in_err-got-clause-cause : goal.returns-in_err-got-clause-cause
returns-in_err-got-clause-cause g c =
    err_cause c.from_residual-in_err-got.result (Backup c.in_err-got.field-0.0) (CopyCause g.V.Vault c.args.areas.now c.read_pages.new.areas (g.V.Vault.faults c.args.out.now) (g.V.Vault.faults c.loop-count.out)) c.from_residual-in_err-got.ensures.1
    (fails_later g.V.Vault c.args.areas.now c.loop-count.areas c.read_pages.new.areas c.in_err-got.field-0.0 c.loop-count.invariant.1 c.in_err-got.ensures.cause)

pub returns-then-got-eq0-clause-put : goal.returns-then-got-eq0-clause-put
returns-then-got-eq0-clause-put g c =
    segment_ended g.V.Vault c.args.relseg (chain_told g.V.Vault c.args.areas.now c.args.places.now) c.args.fork.now c.args.seg c.args.first c.min-most.result c.args.out.now c.loop-count.out c.loop-count.count c.min-asked.result c.in_ok-got.got c.read_pages.new.into
    c.min-most.ensures (omega (arith, c.min-asked.ensures, c.loop-count-test.true)) c.if-got-eq0.true
    (read_as (chain_told g.V.Vault c.args.areas.now c.args.places.now) (chain_told g.V.Vault c.loop-count.areas c.args.places.now) c.args.fork.now c.args.seg c.args.relseg c.loop-count.count c.min-asked.result c.in_ok-got.got c.in-Some.source c.read_pages.new.into
    (reads_told g.V.Vault c.args.areas.now c.loop-count.areas c.loop-count.invariant.1 c.args.places.now) (omega (arith, c.min-asked.ensures, c.loop-count-test.true, c.min-most.ensures))
    (subst (λ (o : Option SegmentSource). OfChain (chain_told g.V.Vault c.args.areas.now c.args.places.now) (λ chain. IsSourceOf chain c.args.fork.now c.args.seg o)) c.in-Some.is c.in_ok-source.ensures.source) c.in_ok-got.ensures.pages)
    c.loop-count.invariant.0

pub returns-then-got-eq0-clause-reads : goal.returns-then-got-eq0-clause-reads
returns-then-got-eq0-clause-reads g c = reads_trans g.V.Vault c.args.areas.now c.loop-count.areas c.read_pages.new.areas c.loop-count.invariant.1 c.in_ok-got.ensures.reads

pub returns-in_err-write_piece-clause-reads : goal.returns-in_err-write_piece-clause-reads
returns-in_err-write_piece-clause-reads g c = reads_trans g.V.Vault c.args.areas.now c.loop-count.areas c.read_pages.new.areas c.loop-count.invariant.1 c.in_ok-got.ensures.reads

pub returns-in_err-write_piece-clause-kept : goal.returns-in_err-write_piece-clause-kept
returns-in_err-write_piece-clause-kept g c = changes_on g.V.Vault IsForkPath c.args.out.now c.loop-count.out c.write_piece.new.out c.loop-count.invariant.2 c.in_err-write_piece.ensures.kept

pub loop-count-preserved : goal.loop-count-preserved
loop-count-preserved g c = (
  segment_grown g.V.Vault c.args.relseg (chain_told g.V.Vault c.args.areas.now c.args.places.now) c.args.fork.now c.args.seg c.args.first c.min-most.result c.args.out.now c.loop-count.out c.write_piece.new.out c.loop-count.count c.min-asked.result c.in_ok-got.got c.read_pages.new.into
      (omega (arith, c.requires.range.least)) c.segment_path.ensures.named c.requires.place c.min-most.ensures (omega (arith, c.min-asked.ensures, c.loop-count-test.true)) (omega (arith, c.if-got-eq0.false)) c.in_ok-got.ensures.few
      (read_as (chain_told g.V.Vault c.args.areas.now c.args.places.now) (chain_told g.V.Vault c.loop-count.areas c.args.places.now) c.args.fork.now c.args.seg c.args.relseg c.loop-count.count c.min-asked.result c.in_ok-got.got c.in-Some.source c.read_pages.new.into
      (reads_told g.V.Vault c.args.areas.now c.loop-count.areas c.loop-count.invariant.1 c.args.places.now) (omega (arith, c.min-asked.ensures, c.loop-count-test.true, c.min-most.ensures))
      (subst (λ (o : Option SegmentSource). OfChain (chain_told g.V.Vault c.args.areas.now c.args.places.now) (λ chain. IsSourceOf chain c.args.fork.now c.args.seg o)) c.in-Some.is c.in_ok-source.ensures.source) c.in_ok-got.ensures.pages)
      (c.in_ok-write_piece.ensures.written
      ∙ ap (λ (q : List ℕ). option_map (after_write q (c.loop-count.count * 8192) (take (c.in_ok-got.got * 8192) c.read_pages.new.into)) (g.V.Vault.files c.loop-count.out)) (c.as_bytes.ensures ∙ c.in_ok-path.ensures.path))
      c.loop-count.invariant.0,
  reads_trans g.V.Vault c.args.areas.now c.loop-count.areas c.read_pages.new.areas c.loop-count.invariant.1 c.in_ok-got.ensures.reads,
  changes_on g.V.Vault IsForkPath c.args.out.now c.loop-count.out c.write_piece.new.out c.loop-count.invariant.2 c.in_ok-write_piece.ensures.kept,
  omega (arith, c.loop-count.invariant.3, c.in_ok-write_piece.ensures.later),
)

pub returns-clause-put : goal.returns-clause-put
returns-clause-put g c =
    segment_filled g.V.Vault c.args.relseg (chain_told g.V.Vault c.args.areas.now c.args.places.now) c.args.fork.now c.args.seg c.args.first c.min-most.result c.args.out.now c.loop-count.out c.loop-count.count c.min-most.ensures c.loop-count-test.false c.loop-count.invariant.0
