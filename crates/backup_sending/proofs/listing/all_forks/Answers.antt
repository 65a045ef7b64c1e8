use Rattle.std.proofs.Common.{◌≡◌, ◌+◌, List, true, refl, subst, arith}
use Rattle.lsn_core.specs.declared.ids.ForkLen.{ForkLen}
use Rattle.backup_sending.specs.Inside.{NotesAll}
use Rattle.backup_sending.proofs.Steps.{call_looks, looks_still, looks_on, redo_on}
use Rattle.backup_sending.proofs.Lengths.{knows_none, knows_more, all_listed}
use Rattle.backup_sending.proofs.listing.all_forks.Goals as goal

pub loop-q-init : goal.loop-q-init
loop-q-init g c = record {
  within = omega arith;
  looks = looks_still c.args.pass.now;
  known = knows_none (g.J.OfStore.tells ≡ true) c.args.pass.now.list c.args.from.0 c.new-known.result c.new-known.ensures.empty;
}

pub forks_of-requires-clause-redo : goal.forks_of-requires-clause-redo
forks_of-requires-clause-redo g c = λ κs lives. redo_on c.args.pass.now c.loop-q.pass c.args.from.0 c.loop-q.invariant.looks c.requires

pub loop-q-preserved : goal.loop-q-preserved
loop-q-preserved g c =
    let looks = call_looks c.loop-q.pass c.forks_of.new.pass c.forks_of.result c.forks_of.ensures.seen c.forks_of.ensures.accepted c.forks_of.ensures.marks c.forks_of.ensures.faults in
    let whole = looks_on c.args.pass.now c.loop-q.pass c.forks_of.new.pass c.loop-q.invariant.looks looks in
    record {
      within = omega arith;
      looks = whole;
      known =
          knows_more (g.J.OfStore.tells ≡ true) c.loop-q.pass.list c.forks_of.new.pass.list c.args.from.0 c.loop-q.q (c.loop-q.q + 1) c.in_ok-list.list.items c.loop-q.known c.note_all.new.known refl c.forks_of.ensures.seen.seen
          (redo_on c.args.pass.now c.forks_of.new.pass c.args.from.0 whole c.requires) (λ t. c.in_ok-list.ensures.list t)
          (subst (λ (l : List ForkLen). NotesAll l c.loop-q.known c.note_all.new.known) c.deref.ensures.value c.in_ok-note_all.ensures) c.loop-q.invariant.known;
    }

pub returns-clause-list : goal.returns-clause-list
returns-clause-list g c =
    all_listed (g.J.OfStore.tells ≡ true) c.loop-q.pass.list c.args.from.0 c.loop-q.q c.loop-q.known c.in_ok-lengths.field-0.items (omega arith) c.loop-q.invariant.known c.in_ok-lengths.ensures.order c.in_ok-lengths.ensures.list

pub returns-in_err-list-clause-looks : goal.returns-in_err-list-clause-looks
returns-in_err-list-clause-looks g c =
    looks_on c.args.pass.now c.loop-q.pass c.forks_of.new.pass c.loop-q.invariant.looks
    (call_looks c.loop-q.pass c.forks_of.new.pass c.forks_of.result c.forks_of.ensures.seen c.forks_of.ensures.accepted c.forks_of.ensures.marks c.forks_of.ensures.faults)

pub returns-in_err-note_all-clause-looks : goal.returns-in_err-note_all-clause-looks
returns-in_err-note_all-clause-looks g c =
    looks_on c.args.pass.now c.loop-q.pass c.forks_of.new.pass c.loop-q.invariant.looks
    (call_looks c.loop-q.pass c.forks_of.new.pass c.forks_of.result c.forks_of.ensures.seen c.forks_of.ensures.accepted c.forks_of.ensures.marks c.forks_of.ensures.faults)
