use Rattle.std.proofs.Common.{◌+◌, List, Option, subst, refl, arith}
use Rattle.lsn_core.specs.Files.{Files}
use Rattle.backup_files.proofs.Kept.{spares_on}
use Rattle.chain_files.specs.Sources.{OfChain, IsSourceAt}
use Rattle.chain_files.specs.declared.source.SegmentSource.{SegmentSource}
use Rattle.chain_files.specs.Told.{chain_told}
use Rattle.chain_files.proofs.Told.{places_kept, reads_told, reads_trans}
use Rattle.directory_files.specs.Written.{AddsPages}
use Rattle.directory_files.proofs.Failed.{write_failed}
use Rattle.directory_files.proofs.Grown.{rebuilding_further, rebuilding_made}
use Rattle.directory_files.proofs.rebuilding.rebuild_file.Goals as goal

pub returns-in_err-add_pages-clause-reads : goal.returns-in_err-add_pages-clause-reads
returns-in_err-add_pages-clause-reads g c = reads_trans g.V.Vault c.args.areas.now c.loop-number.areas c.add_pages.new.areas c.loop-number.invariant.reads c.add_pages.ensures.reads

pub returns-in_err-add_pages-clause-cause : goal.returns-in_err-add_pages-clause-cause
returns-in_err-add_pages-clause-cause g c =
    write_failed g.V.Vault c.args.areas.now c.loop-number.areas c.add_pages.new.areas c.args.out.now c.loop-number.out c.add_pages.new.out c.from_residual-in_err-add_pages.result c.in_err-add_pages.field-0.0 c.from_residual-in_err-add_pages.ensures.1
    c.loop-number.invariant.reads c.loop-number.invariant.spares.faults c.in_err-add_pages.ensures.cause

pub loop-number-preserved : goal.loop-number-preserved
loop-number-preserved g c =
    let adds = c.in_ok-add_pages.ensures.added in
    record {
      within = omega arith;
      few = c.loop-number.invariant.few;
      small = omega (arith, adds.few, c.loop-number.invariant.small);
      places = places_kept g.V.Vault c.loop-number.areas c.add_pages.new.areas c.add_pages.ensures.reads c.args.places.now c.loop-number.invariant.places;
      reads = reads_trans g.V.Vault c.args.areas.now c.loop-number.areas c.add_pages.new.areas c.loop-number.invariant.reads c.add_pages.ensures.reads;
      spares = spares_on g.V.Vault c.args.out.now c.loop-number.out c.add_pages.new.out c.loop-number.invariant.spares c.add_pages.ensures.spares;
      far = rebuilding_further (chain_told g.V.Vault c.args.areas.now c.args.places.now) c.in-Some.source c.loop-number.number c.min-most.result (c.loop-number.number + c.min-most.result) c.args.path.now (g.V.Vault.files c.args.out.now) (g.V.Vault.files c.loop-number.out) (g.V.Vault.files c.add_pages.new.out) c.loop-number.file c.add_pages.new.file refl
          c.loop-number.invariant.far
          (subst (λ (o : Option (List Files)). AddsPages o c.in-Some.source c.loop-number.number c.min-most.result c.args.path.now (g.V.Vault.files c.loop-number.out) (g.V.Vault.files c.add_pages.new.out) c.loop-number.file c.add_pages.new.file)
          (reads_told g.V.Vault c.args.areas.now c.loop-number.areas c.loop-number.invariant.reads c.args.places.now) adds);
    }

pub returns-clause-made : goal.returns-clause-made
returns-clause-made g c =
    let told = chain_told g.V.Vault c.args.areas.now c.args.places.now in
    rebuilding_made told c.in-Some.source c.args.folder.now c.args.name.now c.pages.result c.loop-number.number c.args.path.now (g.V.Vault.files c.args.out.now) (g.V.Vault.files c.loop-number.out) c.loop-number.file
    (subst (λ (o : Option SegmentSource). OfChain told (λ chain. IsSourceAt chain c.args.folder.now c.args.name.now o)) c.in-Some.is c.in_ok-source.ensures.source) c.pages.ensures
    (omega (arith, c.loop-number.invariant.within, c.loop-number-test.false, c.min-count.ensures)) c.loop-number.invariant.far
