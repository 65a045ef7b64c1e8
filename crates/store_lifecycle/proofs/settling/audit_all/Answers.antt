use Rattle.std.proofs.Common.{ap, ◌∙◌, List, length}
use Rattle.history.specs.Entry.{Entry}
use Rattle.store_locks.specs.Locked.{made_in}
use Rattle.store_lifecycle.proofs.settling.audit_all.Goals as goal

pub returns-clause-all : goal.returns-clause-all
returns-clause-all g c =
    c.audit.ensures.whole c.requires
    ∙ (c.desk.invariant.booked ∙ ap (λ (h : List Entry). length (made_in h)) c.desk.view_is)
