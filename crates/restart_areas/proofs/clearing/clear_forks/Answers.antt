-- The names are gone through, the last one first.
use Rattle.std.proofs.Common.{ℕ, List, subst}
use Rattle.vault.proofs.Changed.{changes_on}
use Rattle.rel_files.specs.Forks.{IsForkPath}
use Rattle.rel_files.proofs.ForkFrames.{reads_change}
use Rattle.restart_areas.specs.Inside.{DropsFork}
use Rattle.restart_areas.proofs.Among.{among_start, among_step}
use Rattle.restart_areas.proofs.clearing.clear_forks.Goals as goal

pub loop-name-init : goal.loop-name-init
loop-name-init g c =
    let f = g.V.Vault.files in
    let e = c.names.ensures in
    record {
      among = among_start c.in_ok-names.names.items (f c.args.area.now) (f c.names.new.self) e.same c.in_ok-names.ensures.names;
      changes = reads_change g.V.Vault IsForkPath c.args.area.now c.names.new.self (record { files = e.same; past = e.quiet; faults = e.cause.later });
    }

pub returns-in_err-clear_file-clause-changes : goal.returns-in_err-clear_file-clause-changes
returns-in_err-clear_file-clause-changes g c = changes_on g.V.Vault IsForkPath c.args.area.now c.loop-name.area c.clear_file.new.area c.loop-name.invariant.changes c.in_err-clear_file.ensures.changes

pub loop-name-preserved : goal.loop-name-preserved
loop-name-preserved g c =
    let f = g.V.Vault.files in
    let e = c.in_ok-clear_file.ensures in
    record {
      among = among_step c.in-Some.name c.loop-name.names.items c.pop.new.self.items (f c.loop-name.area) (f c.clear_file.new.area) c.in-Some.ensures.items
          (subst (λ (q : List ℕ). DropsFork q (f c.loop-name.area) (f c.clear_file.new.area)) c.as_bytes.ensures e.removed) c.loop-name.invariant.among;
      changes = changes_on g.V.Vault IsForkPath c.args.area.now c.loop-name.area c.clear_file.new.area c.loop-name.invariant.changes e.changes;
    }
