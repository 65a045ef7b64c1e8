use Rattle.std.proofs.Common.{◌∙◌, ◌≡◌, [], List, Option, ap, subst, arith, length}
use Rattle.lsn_core.specs.Files.{Files}
use Rattle.backup_files.proofs.Kept.{spares_on}
use Rattle.chain_files.specs.Told.{chain_told}
use Rattle.chain_files.proofs.Told.{places_kept, reads_refl, reads_told, reads_trans}
use Rattle.directory_files.specs.Written.{AddsPages}
use Rattle.directory_files.proofs.Failed.{write_failed}
use Rattle.incr_merge.proofs.PartFiles.{few_listed, part_begun, part_further, part_made}
use Rattle.incr_merge.proofs.parts.write_part.Goals as goal

pub returns-in_err-add_pages-clause-reads : goal.returns-in_err-add_pages-clause-reads
returns-in_err-add_pages-clause-reads g c = reads_trans g.V.Vault c.args.areas.now c.loop-block.areas c.add_pages.new.areas c.loop-block.invariant.reads c.add_pages.ensures.reads

pub returns-in_err-add_pages-clause-cause : goal.returns-in_err-add_pages-clause-cause
returns-in_err-add_pages-clause-cause g c =
    write_failed g.V.Vault c.args.areas.now c.loop-block.areas c.add_pages.new.areas c.args.out.now c.loop-block.out c.add_pages.new.out c.from_residual-in_err-add_pages.result c.in_err-add_pages.field-0.0 c.from_residual-in_err-add_pages.ensures.1
    c.loop-block.invariant.reads c.loop-block.invariant.spares.faults c.in_err-add_pages.ensures.cause

pub loop-block-preserved : goal.loop-block-preserved
loop-block-preserved g c =
    let adds = c.in_ok-add_pages.ensures.added in
    record {
      small = omega (arith, adds.few, c.loop-block.invariant.small, ap (λ (l : List _). length l) c.in-Some.ensures.cases.0);
      places = places_kept g.V.Vault c.loop-block.areas c.add_pages.new.areas c.add_pages.ensures.reads c.args.places.now c.loop-block.invariant.places;
      reads = reads_trans g.V.Vault c.args.areas.now c.loop-block.areas c.add_pages.new.areas c.loop-block.invariant.reads c.add_pages.ensures.reads;
      spares = spares_on g.V.Vault c.args.out.now c.loop-block.out c.add_pages.new.out c.loop-block.invariant.spares c.add_pages.ensures.spares;
      far = part_further (chain_told g.V.Vault c.args.areas.now c.args.places.now) c.args.source.now c.args.head.now c.loop-block.left.now c.in-Some.behind.now c.in-Some.block.now c.args.path.now (g.V.Vault.files c.args.out.now) (g.V.Vault.files c.loop-block.out) (g.V.Vault.files c.add_pages.new.out) c.loop-block.file c.add_pages.new.file
          c.in-Some.ensures.cases.0 c.loop-block.invariant.far
          (subst (λ (o : Option (List Files)). AddsPages o c.args.source.now c.in-Some.block.now 1 c.args.path.now (g.V.Vault.files c.loop-block.out) (g.V.Vault.files c.add_pages.new.out) c.loop-block.file c.add_pages.new.file)
          (reads_told g.V.Vault c.args.areas.now c.loop-block.areas c.loop-block.invariant.reads c.args.places.now) adds);
    }

pub returns-clause-made : goal.returns-clause-made
returns-clause-made g c =
    part_made (chain_told g.V.Vault c.args.areas.now c.args.places.now) c.args.source.now c.args.head.now c.loop-block.left.now c.args.path.now (g.V.Vault.files c.args.out.now) (g.V.Vault.files c.loop-block.out) c.loop-block.file c.in_default.ensures.cases c.loop-block.invariant.far

pub returns-in_err-bytes-clause-reads : goal.returns-in_err-bytes-clause-reads
returns-in_err-bytes-clause-reads g c = reads_refl g.V.Vault c.args.areas.now

pub returns-in_err-file-clause-reads : goal.returns-in_err-file-clause-reads
returns-in_err-file-clause-reads g c = reads_refl g.V.Vault c.args.areas.now

pub returns-in_err-add-clause-reads : goal.returns-in_err-add-clause-reads
returns-in_err-add-clause-reads g c = reads_refl g.V.Vault c.args.areas.now

pub loop-block-init : goal.loop-block-init
loop-block-init g c =
    let listed : length c.as_slice-left.result.now ≡ length c.args.head.now.blocks = ap (λ (l : List _). length l) c.as_slice-left.ensures.list in
    record {
      small = omega (arith, c.in_ok-add.ensures.sized, c.in_ok-file.ensures.holds.0, listed, few_listed c.args.head.now c.requires.head, c.deref.ensures.len);
      places = c.requires.places;
      reads = reads_refl g.V.Vault c.args.areas.now;
      spares = spares_on g.V.Vault c.args.out.now c.begin.new.out c.add.new.out c.begin.ensures.spares c.add.ensures.spares;
      far = part_begun (chain_told g.V.Vault c.args.areas.now c.args.places.now) c.args.source.now c.args.head.now c.as_slice-left.result.now c.args.path.now c.deref.result.now (g.V.Vault.files c.args.out.now) (g.V.Vault.files c.add.new.out) c.add.new.self
          c.as_slice-left.ensures.list (c.deref.ensures.value ∙ c.in_ok-bytes.ensures) (c.in_ok-add.ensures.holds [] c.in_ok-file.ensures.holds)
          (c.in_ok-add.ensures.written [] (g.V.Vault.files c.args.out.now) c.in_ok-file.ensures.holds c.in_ok-file.ensures.written);
    }
