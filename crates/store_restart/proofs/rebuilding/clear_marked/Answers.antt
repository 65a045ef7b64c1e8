-- The mark is written, and then segment files are removed.
use Rattle.std.proofs.Common.{inr}
use Rattle.vault.proofs.Changed.{changes_on}
use Rattle.rel_files.proofs.ForkFrames.{changes_none}
use Rattle.data_areas.proofs.Marks.{anyway}
use Rattle.store_restart.specs.Restart.{IsForkOrMark}
use Rattle.store_restart.proofs.Filled.{fork_changes, mark_changes}
use Rattle.store_restart.proofs.Remade.{anyway_not, marked_first}
use Rattle.store_restart.proofs.rebuilding.clear_marked.Goals as goal

pub returns-clause-changes : goal.returns-clause-changes
returns-clause-changes g c =
    let v = g.V.Vault in
    let old = c.args.areas.now in
    let mid = c.mark_rebuilding.new.area in
    let new = c.clear_all.new.areas in
    let more = c.clear_all.ensures.changes in
    record {
      data0 = changes_on v IsForkOrMark old.data0 mid new.data0 (mark_changes v old.data0 mid c.in_default.ensures.changes) (fork_changes v mid new.data0 more.data0);
      data1 = fork_changes v old.data1 new.data1 more.data1;
      data2 = fork_changes v old.data2 new.data2 more.data2;
      data3 = fork_changes v old.data3 new.data3 more.data3;
    }

pub returns-in-Err-clause-changes : goal.returns-in-Err-clause-changes
returns-in-Err-clause-changes g c =
    let v = g.V.Vault in
    let old = c.args.areas.now in
    record {
      data0 = mark_changes v old.data0 c.mark_rebuilding.new.area c.in-Err.ensures.changes;
      data1 = changes_none v IsForkOrMark old.data1;
      data2 = changes_none v IsForkOrMark old.data2;
      data3 = changes_none v IsForkOrMark old.data3;
    }

pub returns-clause-begun : goal.returns-clause-begun
returns-clause-begun g c =
    let e = c.in_default.ensures in
    anyway c.clear_all.result _ (marked_first g.V.Vault c.args.areas.now c.clear_all.new.areas c.mark_rebuilding.new.area e.changes e.marking e.marked c.clear_all.ensures.changes)

pub returns-clause-so_far : goal.returns-clause-so_far
returns-clause-so_far g c =
    let e = c.in_default.ensures in
    anyway_not c.clear_all.result _ (inr (marked_first g.V.Vault c.args.areas.now c.clear_all.new.areas c.mark_rebuilding.new.area e.changes e.marking e.marked c.clear_all.ensures.changes))
