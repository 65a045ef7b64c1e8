use Rattle.std.proofs.Common.{rules, ◌≢◌, List, Option, subst}
use Rattle.lsn_core.specs.Files.{Files}
use Rattle.backup_files.specs.Directory.{manifest_name}
use Rattle.chain_files.specs.Told.{chain_told}
use Rattle.chain_files.proofs.Told.{places_kept, reads_refl, reads_told, reads_trans}
use Rattle.incr_merge.specs.Inside.{IsTarget}
use Rattle.incr_merge.proofs.Paths.{all_targets, none_yet, one_target, read_behind}
use Rattle.incr_merge.proofs.targets.targets_of.Goals as goal

pub loop-row-init : goal.loop-row-init
loop-row-init g c = record {
  places = c.requires;
  reads = reads_refl g.V.Vault c.args.areas.now;
  so_far = none_yet (chain_told g.V.Vault c.args.areas.now c.args.places.now) c.args.rows.now c.new-targets.result.items c.new-targets.ensures.items;
}

pub returns-in_err-target_of-clause-reads : goal.returns-in_err-target_of-clause-reads
returns-in_err-target_of-clause-reads g c = reads_trans g.V.Vault c.args.areas.now c.loop-row.areas c.target_of.new.areas c.loop-row.invariant.reads c.target_of.ensures.reads

pub returns-in_err-target_of-clause-cause : goal.returns-in_err-target_of-clause-cause
returns-in_err-target_of-clause-cause g c =
    read_behind g.V.Vault c.args.areas.now c.loop-row.areas c.target_of.new.areas c.from_residual.result c.in_err-target_of.field-0.0 c.from_residual.ensures.1 c.loop-row.invariant.reads c.in_err-target_of.ensures.cause

pub returns-in_err-push-clause-reads : goal.returns-in_err-push-clause-reads
returns-in_err-push-clause-reads g c = reads_trans g.V.Vault c.args.areas.now c.loop-row.areas c.target_of.new.areas c.loop-row.invariant.reads c.target_of.ensures.reads

pub loop-row-preserved-in_ok-push : goal.loop-row-preserved-in_ok-push
loop-row-preserved-in_ok-push g c =
    let told = chain_told g.V.Vault c.args.areas.now c.args.places.now in
    let apart : c.in-Some.row.now.path ≢ manifest_name = search rules in
    let then : IsTarget (chain_told g.V.Vault c.loop-row.areas c.args.places.now) c.in-Some.row.now.path c.in_ok-target_of.field-0 = search rules in
    let is = subst (λ (o : Option (List Files)). IsTarget o c.in-Some.row.now.path c.in_ok-target_of.field-0) (reads_told g.V.Vault c.args.areas.now c.loop-row.areas c.loop-row.invariant.reads c.args.places.now) then in
    record {
      places = places_kept g.V.Vault c.loop-row.areas c.target_of.new.areas c.target_of.ensures.reads c.args.places.now c.loop-row.invariant.places;
      reads = reads_trans g.V.Vault c.args.areas.now c.loop-row.areas c.target_of.new.areas c.loop-row.invariant.reads c.target_of.ensures.reads;
      so_far = one_target told c.args.rows.now c.loop-row.left.now c.in-Some.behind.now c.in-Some.row.now c.loop-row.targets.items c.push.new.self.items c.in_ok-target_of.field-0 c.in-Some.ensures.cases.0 apart is c.in_ok-push.ensures.items c.loop-row.invariant.so_far;
    }

pub returns-clause-targets : goal.returns-clause-targets
returns-clause-targets g c = all_targets (chain_told g.V.Vault c.args.areas.now c.args.places.now) c.args.rows.now c.loop-row.left.now c.loop-row.targets.items c.in_default.ensures.cases c.loop-row.invariant.so_far
