use Rattle.std.proofs.Common.{List, Option, subst, sym}
use Rattle.std.specs.List.{AllByRecursion}
use Rattle.lsn_core.specs.Files.{Files}
use Rattle.backup_files.proofs.Kept.{spares_on, spares_still}
use Rattle.chain_files.specs.Told.{chain_told}
use Rattle.chain_files.proofs.Told.{places_kept, reads_refl, reads_told, reads_trans}
use Rattle.directory_files.specs.Written.{PutsFile}
use Rattle.incr_merge.specs.Inside.{IsContent, IsTarget}
use Rattle.directory_files.specs.declared.targets.Target.{Target}
use Rattle.directory_files.proofs.Failed.{write_failed}
use Rattle.directory_files.proofs.Puts.{next_lacks, put_begun, put_further, put_whole}
use Rattle.incr_merge.proofs.files.put_files.Goals as goal

pub loop-target-init : goal.loop-target-init
loop-target-init g c = record {
  places = c.requires.places;
  targets = c.requires.targets;
  reads = reads_refl g.V.Vault c.args.areas.now;
  spares = spares_still g.V.Vault c.args.out.now;
  far = put_begun (IsContent (chain_told g.V.Vault c.args.areas.now c.args.places.now)) c.args.targets.now c.args.modified.now (g.V.Vault.files c.args.out.now) c.new-rows.result.items c.requires.distinct c.requires.empty c.new-rows.ensures.items;
}

pub put_file-requires-clause-places : goal.put_file-requires-clause-places
put_file-requires-clause-places g c = λ κs lives. c.loop-target.invariant.places

pub put_file-requires-clause-target : goal.put_file-requires-clause-target
put_file-requires-clause-target g c = λ κs lives.
    let all = subst (AllByRecursion (λ (t : Target). IsTarget (chain_told g.V.Vault c.args.areas.now c.args.places.now) t.from t)) c.in-Some.ensures.cases.0 c.loop-target.invariant.targets in
    subst (λ (o : Option (List Files)). IsTarget o c.in-Some.target.now.from c.in-Some.target.now) (sym (reads_told g.V.Vault c.args.areas.now c.loop-target.areas c.loop-target.invariant.reads c.args.places.now)) all.0

pub put_file-requires-clause-missing : goal.put_file-requires-clause-missing
put_file-requires-clause-missing g c = λ κs lives.
    next_lacks (IsContent (chain_told g.V.Vault c.args.areas.now c.args.places.now)) c.args.targets.now c.loop-target.left.now c.in-Some.behind.now c.in-Some.target.now c.args.modified.now (g.V.Vault.files c.loop-target.out) c.loop-target.rows.items c.in-Some.ensures.cases.0
    c.loop-target.invariant.far

pub loop-target-preserved : goal.loop-target-preserved
loop-target-preserved g c =
    let told = chain_told g.V.Vault c.args.areas.now c.args.places.now in
    let all = subst (AllByRecursion (λ (t : Target). IsTarget told t.from t)) c.in-Some.ensures.cases.0 c.loop-target.invariant.targets in
    record {
      places = places_kept g.V.Vault c.loop-target.areas c.put_file.new.areas c.put_file.ensures.reads c.args.places.now c.loop-target.invariant.places;
      targets = all.1;
      reads = reads_trans g.V.Vault c.args.areas.now c.loop-target.areas c.put_file.new.areas c.loop-target.invariant.reads c.put_file.ensures.reads;
      spares = spares_on g.V.Vault c.args.out.now c.loop-target.out c.put_file.new.out c.loop-target.invariant.spares c.put_file.ensures.spares;
      far = put_further (IsContent told) c.args.targets.now c.loop-target.left.now c.in-Some.behind.now c.in-Some.target.now c.args.modified.now (g.V.Vault.files c.loop-target.out) (g.V.Vault.files c.put_file.new.out) c.loop-target.rows.items c.put_file.new.rows.items
          c.in-Some.ensures.cases.0 c.loop-target.invariant.far
          (subst (λ (o : Option (List Files)). PutsFile (IsContent o c.in-Some.target.now) c.in-Some.target.now.to c.args.modified.now (g.V.Vault.files c.loop-target.out) (g.V.Vault.files c.put_file.new.out) c.loop-target.rows.items c.put_file.new.rows.items)
          (reads_told g.V.Vault c.args.areas.now c.loop-target.areas c.loop-target.invariant.reads c.args.places.now) c.in_ok-put_file.ensures.put);
    }

pub returns-in_err-put_file-clause-reads : goal.returns-in_err-put_file-clause-reads
returns-in_err-put_file-clause-reads g c = reads_trans g.V.Vault c.args.areas.now c.loop-target.areas c.put_file.new.areas c.loop-target.invariant.reads c.put_file.ensures.reads

pub returns-in_err-put_file-clause-spares : goal.returns-in_err-put_file-clause-spares
returns-in_err-put_file-clause-spares g c = spares_on g.V.Vault c.args.out.now c.loop-target.out c.put_file.new.out c.loop-target.invariant.spares c.put_file.ensures.spares

pub returns-in_err-put_file-clause-cause : goal.returns-in_err-put_file-clause-cause
returns-in_err-put_file-clause-cause g c =
    write_failed g.V.Vault c.args.areas.now c.loop-target.areas c.put_file.new.areas c.args.out.now c.loop-target.out c.put_file.new.out c.from_residual.result c.in_err-put_file.field-0.0 c.from_residual.ensures.1 c.loop-target.invariant.reads
    c.loop-target.invariant.spares.faults c.in_err-put_file.ensures.cause

pub returns-clause-put : goal.returns-clause-put
returns-clause-put g c =
    put_whole (IsContent (chain_told g.V.Vault c.args.areas.now c.args.places.now)) c.args.targets.now c.loop-target.left.now c.args.modified.now (g.V.Vault.files c.loop-target.out) c.loop-target.rows.items c.in_default.ensures.cases c.loop-target.invariant.far
