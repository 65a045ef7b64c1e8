-- The areas are moved to the heap, and back.
use Rattle.std.proofs.Common.{ap, inr, sym}
use Rattle.store_restart.specs.declared.fault.RestartFault.{RestartFault}
use Rattle.store_restart.specs.declared.restarting.Restarted.{Restarted}
use Rattle.store_restart.proofs.restarting.restart.Goals as goal

pub returns-in-Ok-restart_on_heap-clause-back : goal.returns-in-Ok-restart_on_heap-clause-back
returns-in-Ok-restart_on_heap-clause-back g c = record {
  before = c.in-Ok.areas;
  before_is = c.in-Ok.ensures.boxed;
  behind = c.in-Ok-restart_on_heap.done;
  behind_is = c.plain_back.ensures;
  is = c.in-Ok-restart_on_heap.ensures.back;
}

pub returns-in-Err-restart_on_heap-clause-refused : goal.returns-in-Err-restart_on_heap-clause-refused
returns-in-Err-restart_on_heap-clause-refused g c = inr (record {
  before = c.in-Ok.areas;
  before_is = c.in-Ok.ensures.boxed;
  behind = c.in-Err-restart_on_heap.fault;
  behind_is = c.plain_fault.ensures;
  is = c.in-Err-restart_on_heap.ensures.refused;
})

pub returns-in-Ok-restart_on_heap-clause-moments : goal.returns-in-Ok-restart_on_heap-clause-moments
returns-in-Ok-restart_on_heap-clause-moments g c = inr (record {
  before = c.in-Ok.areas;
  before_is = c.in-Ok.ensures.boxed;
  behind = c.in-Ok-restart_on_heap.done.areas;
  behind_is = ap (λ (r : Restarted g.row.V.Denot). r.areas) (sym c.plain_back.ensures);
  is = c.in-Ok-restart_on_heap.ensures.moments;
})

pub returns-in-Err-restart_on_heap-clause-moments : goal.returns-in-Err-restart_on_heap-clause-moments
returns-in-Err-restart_on_heap-clause-moments g c = inr (record {
  before = c.in-Ok.areas;
  before_is = c.in-Ok.ensures.boxed;
  behind = c.in-Err-restart_on_heap.fault.areas;
  behind_is = ap (λ (r : RestartFault g.row.V.Denot). r.areas) (sym c.plain_fault.ensures);
  is = c.in-Err-restart_on_heap.ensures.moments;
})
