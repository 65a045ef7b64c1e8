-- Areas are cleared, and what comes of them then comes of those before.
use Rattle.std.proofs.Common.{refl}
use Rattle.store_finding.specs.declared.boxing.BoxedAreas.{BoxedAreas}
use Rattle.store_areas.specs.Begin.{IsUnbegun, shown_of}
use Rattle.store_areas.specs.Moments.{RebuildsSafely}
use Rattle.store_areas.specs.Opened.{past_of}
use Rattle.store_finding.specs.Filling.{areas_with, FillsSafely, IsUnfilled}
use Rattle.data_areas.proofs.Turned.{on_answer, on_fault}
use Rattle.store_finding.proofs.Begun.{uncleared}
use Rattle.store_finding.proofs.Unbegun.{unbegun_of}
use Rattle.store_finding.proofs.Moments.{uncleared_safely, cleared_safely}
use Rattle.store_finding.proofs.found.rebuild.Goals as goal

pub returns-in-Err-clause-refused : goal.returns-in-Err-clause-refused
returns-in-Err-clause-refused g c =
    uncleared g.V.Vault c.args.settings c.args.areas.wal c.args.areas.pages c.clear.new.areas c.unboxed.result c.in-Err.why c.unboxed.ensures c.requires.checked.given c.in-Err.ensures.later c.in-Err.ensures.cause c.in-Err.ensures.so_far

pub returns-clause-refused : goal.returns-clause-refused
returns-clause-refused g c =
    let old = c.args.areas in
    let mid : BoxedAreas g.row.V.Denot = record { wal = old.wal; pages = c.clear.new.areas } in
    on_fault c.refill.result (IsUnfilled g.V.Vault c.args.settings mid) (IsUnbegun g.V.Vault (areas_with old.wal old.pages))
    (λ f unfilled. unbegun_of g.V.Vault c.args.settings old.wal old.pages mid f refl c.requires.checked.given c.in_default.ensures.later c.in_default.ensures.cleared.tell c.in_default.ensures.begun unfilled) c.refill.ensures.refused

pub returns-in-Err-clause-stopped : goal.returns-in-Err-clause-stopped
returns-in-Err-clause-stopped g c told =
    uncleared_safely g.V.Vault c.args.areas.wal c.args.areas.pages c.clear.new.areas told c.requires.durable c.in-Err.ensures.go_on c.unboxed.result c.unboxed.ensures c.in-Err.ensures.so_far

pub returns-clause-stops : goal.returns-clause-stops
returns-clause-stops g c told =
    let old = c.args.areas in
    let mid : BoxedAreas g.row.V.Denot = record { wal = old.wal; pages = c.clear.new.areas } in
    on_answer c.refill.result (λ b. FillsSafely g.V.Vault mid (shown_of g.V.Vault b).past) (λ b. RebuildsSafely g.V.Vault (areas_with old.wal old.pages) (shown_of g.V.Vault b).past)
    (λ b safe. cleared_safely g.V.Vault old.wal old.pages c.clear.new.areas told c.requires.durable c.in_default.ensures.go_on (shown_of g.V.Vault b).past c.in_default.ensures.begun safe) c.refill.ensures.stops

pub returns-clause-stopped : goal.returns-clause-stopped
returns-clause-stopped g c told =
    let old = c.args.areas in
    let mid : BoxedAreas g.row.V.Denot = record { wal = old.wal; pages = c.clear.new.areas } in
    on_fault c.refill.result (λ b. FillsSafely g.V.Vault mid (past_of g.V.Vault b.areas)) (λ b. RebuildsSafely g.V.Vault (areas_with old.wal old.pages) (past_of g.V.Vault b.areas))
    (λ b safe. cleared_safely g.V.Vault old.wal old.pages c.clear.new.areas told c.requires.durable c.in_default.ensures.go_on (past_of g.V.Vault b.areas) c.in_default.ensures.begun safe) c.refill.ensures.stopped
