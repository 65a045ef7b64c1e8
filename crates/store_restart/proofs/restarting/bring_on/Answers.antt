-- Marked areas are rebuilt, and others brought on.
use Rattle.vault.specs.Boxed.{on_heap}
use Rattle.std.proofs.Common.{sym, ◌∙◌}
use Rattle.std.specs.Prelude.{IfSome}
use Rattle.restart_areas.specs.Counting.{CountsAll}
use Rattle.store_restart.specs.Restart.{BringsBack, BringsOn, HoldWhole, IsForkOrMark, IsUnmarked}
use Rattle.store_restart.proofs.Back.{both_ok, begins_anew, begins_from, first_read, others_before, rebuild_cause, rebuilt_back, redo_cause, redone_back, unmarked_from}
use Rattle.store_restart.proofs.Moments.{unread_safely, remade_safely, redone_safely}
use Rattle.store_restart.proofs.restarting.bring_on.Goals as goal

pub returns-in-Err-clause-changes : goal.returns-in-Err-clause-changes
returns-in-Err-clause-changes g c = first_read (on_heap g.V.Vault) IsForkOrMark c.args.areas c.is_marked.new.area c.in-Err.ensures.reads

pub returns-in-Some-clause-brings : goal.returns-in-Some-clause-brings
returns-in-Some-clause-brings g c =
    let v = (on_heap g.V.Vault) in
    let s = c.args.settings.now in
    let tip = c.args.found.tip in
    let from = c.in-Some.from in
    let told = v.files c.args.wal.now in
    let start = sym c.start_of.ensures ∙ c.in-Some.is in
    both_ok c.redo.result.1 (λ t. IfSome told (BringsOn v s tip from (record c.args.areas { data0 = c.is_marked.new.area }) c.redo.result.0)) (CountsAll v s.relseg c.redo.result.0) (λ t. IfSome told (BringsBack v s tip c.args.areas c.redo.result.0 t))
    (λ t is counts. redone_back v s tip from told c.args.areas c.redo.result.0 c.is_marked.new.area t c.in-Ok.ensures.reads (begins_from s told c.args.found c.in-Ok.marked from c.requires.read start)
    (unmarked_from (v.files c.args.areas.data0) c.in-Ok.marked c.args.found.redo from c.in-Ok.ensures.told start) is counts)
    c.redo.ensures.brings c.redo.ensures.counts

pub returns-in-Some-clause-changes : goal.returns-in-Some-clause-changes
returns-in-Some-clause-changes g c = others_before (on_heap g.V.Vault) c.args.areas c.redo.result.0 c.is_marked.new.area c.in-Ok.ensures.reads c.redo.ensures.changes

pub returns-in-Some-clause-cause : goal.returns-in-Some-clause-cause
returns-in-Some-clause-cause g c =
    let v = (on_heap g.V.Vault) in
    let from = c.in-Some.from in
    let told = v.files c.args.wal.now in
    let start = sym c.start_of.ensures ∙ c.in-Some.is in
    redo_cause v c.args.settings.now c.args.found.tip from told (λ damage. IfSome told (λ m. ⊥)) c.args.wal.now c.redo.new.wal c.args.areas c.redo.result.0 c.is_marked.new.area c.redo.result.1 c.in-Ok.ensures.reads
    (begins_from c.args.settings.now told c.args.found c.in-Ok.marked from c.requires.read start) (unmarked_from (v.files c.args.areas.data0) c.in-Ok.marked c.args.found.redo from c.in-Ok.ensures.told start) c.redo.ensures.cause

pub returns-in-None-clause-brings : goal.returns-in-None-clause-brings
returns-in-None-clause-brings g c =
    let v = (on_heap g.V.Vault) in
    let s = c.args.settings.now in
    let tip = c.args.found.tip in
    let told = v.files c.args.wal.now in
    let start = sym c.start_of.ensures ∙ c.in-None.is in
    both_ok c.rebuild.result.1 (λ t. IfSome told (HoldWhole v s tip c.rebuild.result.0 t)) (λ t. IsUnmarked v c.rebuild.result.0) (λ t. IfSome told (BringsBack v s tip c.args.areas c.rebuild.result.0 t))
    (λ t is unmarked. rebuilt_back v s tip told c.args.areas c.rebuild.result.0 t (begins_anew s told (v.files c.args.areas.data0) c.args.found c.in-Ok.marked c.requires.read c.in-Ok.ensures.told start) is unmarked)
    c.rebuild.ensures.whole c.rebuild.ensures.unmarked

pub returns-in-None-clause-changes : goal.returns-in-None-clause-changes
returns-in-None-clause-changes g c = others_before (on_heap g.V.Vault) c.args.areas c.rebuild.result.0 c.is_marked.new.area c.in-Ok.ensures.reads c.rebuild.ensures.changes

pub returns-in-None-clause-cause : goal.returns-in-None-clause-cause
returns-in-None-clause-cause g c =
    let v = (on_heap g.V.Vault) in
    rebuild_cause v c.args.settings.now c.args.found.tip (v.files c.args.wal.now) (λ damage. IfSome (v.files c.args.wal.now) (λ m. ⊥)) c.args.wal.now c.rebuild.new.wal c.args.areas c.rebuild.result.0 c.is_marked.new.area c.rebuild.result.1 c.in-Ok.ensures.reads c.rebuild.ensures.cause

pub returns-in-Err-clause-moments : goal.returns-in-Err-clause-moments
returns-in-Err-clause-moments g c =
    let v = (on_heap g.V.Vault) in
    unread_safely v c.args.settings.now c.args.found.tip c.args.areas c.is_marked.new.area c.in-Err.ensures.reads (v.files c.args.wal.now)

pub returns-in-Some-clause-moments : goal.returns-in-Some-clause-moments
returns-in-Some-clause-moments g c =
    let v = (on_heap g.V.Vault) in
    let s = c.args.settings.now in
    let from = c.in-Some.from in
    let told = v.files c.args.wal.now in
    let start = sym c.start_of.ensures ∙ c.in-Some.is in
    redone_safely v s c.args.found.tip c.args.areas c.is_marked.new.area c.in-Ok.ensures.reads told from c.redo.result.0 (begins_from s told c.args.found c.in-Ok.marked from c.requires.read start)
    (unmarked_from (v.files c.args.areas.data0) c.in-Ok.marked c.args.found.redo from c.in-Ok.ensures.told start)
    (others_before v c.args.areas c.redo.result.0 c.is_marked.new.area c.in-Ok.ensures.reads c.redo.ensures.changes)

pub returns-in-None-clause-moments : goal.returns-in-None-clause-moments
returns-in-None-clause-moments g c =
    let v = (on_heap g.V.Vault) in
    remade_safely v c.args.settings.now c.args.found.tip c.args.areas c.is_marked.new.area c.in-Ok.ensures.reads (v.files c.args.wal.now) c.rebuild.result.0 c.rebuild.ensures.moments
