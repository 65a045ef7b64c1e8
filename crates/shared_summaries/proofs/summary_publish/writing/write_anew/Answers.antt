use Rattle.std.proofs.Common.{◌∷◌, []}
use Rattle.vault.proofs.Changed.{changes_on}
use Rattle.summary_store.specs.Expiry.{IsSummaryName}
use Rattle.shared_summaries.proofs.summary_publish.Frames.{write_changes, cut_changes}
use Rattle.shared_summaries.proofs.summary_publish.Torn.{StandsIn, zero_is, cut_left, cut_stands_in, written_stands_in, left_in, put_ok, zero_only, rest_only, front_only_of, rest_grown}
use Rattle.shared_summaries.proofs.summary_publish.writing.write_anew.Goals as goal

pub returns-in_err-cut-clause-left : goal.returns-in_err-cut-clause-left
returns-in_err-cut-clause-left g c = cut_left c.args.name.now c.args.bytes.now (g.V.Vault.files c.args.area.now) (g.V.Vault.files c.cut.new.self) c.cut.result c.cut.ensures.cut c.cut.ensures.memory c.cut.ensures.failed

pub returns-in_err-cut-clause-changes : goal.returns-in_err-cut-clause-changes
returns-in_err-cut-clause-changes g c = cut_changes g.V.Vault c.args.name.now 0 c.args.area.now c.cut.new.self c.cut.result c.requires.named c.cut.ensures.cut c.cut.ensures.memory c.cut.ensures.failed c.cut.ensures.noted c.cut.ensures.tried c.cut.ensures.cause.later

pub returns-in_err-write_at-clause-left : goal.returns-in_err-write_at-clause-left
returns-in_err-write_at-clause-left g c =
    left_in c.args.name.now c.args.bytes.now [] 0 (0 ∷ []) (g.V.Vault.files c.args.area.now) (g.V.Vault.files c.cut.new.self) (g.V.Vault.files c.write_at.new.self) c.write_at.result
    (cut_stands_in c.args.name.now (g.V.Vault.files c.args.area.now) (g.V.Vault.files c.cut.new.self) c.in_ok-cut.ensures.cut) (zero_only c.args.bytes.now) c.write_at.ensures.written c.write_at.ensures.memory c.write_at.ensures.failed

pub returns-in_err-write_at-clause-changes : goal.returns-in_err-write_at-clause-changes
returns-in_err-write_at-clause-changes g c = changes_on g.V.Vault IsSummaryName c.args.area.now c.cut.new.self c.write_at.new.self
    (cut_changes g.V.Vault c.args.name.now 0 c.args.area.now c.cut.new.self c.cut.result c.requires.named c.cut.ensures.cut c.cut.ensures.memory c.cut.ensures.failed c.cut.ensures.noted c.cut.ensures.tried c.cut.ensures.cause.later)
    (write_changes g.V.Vault c.args.name.now 0 (0 ∷ []) c.cut.new.self c.write_at.new.self c.write_at.result c.requires.named c.write_at.ensures.written c.write_at.ensures.memory c.write_at.ensures.failed c.write_at.ensures.noted c.write_at.ensures.tried c.write_at.ensures.cause.later)

pub returns-in_err-write_at-2-clause-left : goal.returns-in_err-write_at-2-clause-left
returns-in_err-write_at-2-clause-left g c =
    left_in c.args.name.now c.args.bytes.now (0 ∷ []) 1 c.cut_front.result.1.now (g.V.Vault.files c.args.area.now) (g.V.Vault.files c.write_at.new.self) (g.V.Vault.files c.write_at-2.new.self) c.write_at-2.result
    (written_stands_in c.args.name.now [] 0 (0 ∷ []) (0 ∷ []) (g.V.Vault.files c.args.area.now) (g.V.Vault.files c.cut.new.self) (g.V.Vault.files c.write_at.new.self) zero_is
    (cut_stands_in c.args.name.now (g.V.Vault.files c.args.area.now) (g.V.Vault.files c.cut.new.self) c.in_ok-cut.ensures.cut) c.in_ok-write_at.ensures.written)
    (rest_only c.args.bytes.now c.cut_front.result.1.now) c.write_at-2.ensures.written c.write_at-2.ensures.memory c.write_at-2.ensures.failed

pub returns-in_err-write_at-2-clause-changes : goal.returns-in_err-write_at-2-clause-changes
returns-in_err-write_at-2-clause-changes g c =
    changes_on g.V.Vault IsSummaryName c.args.area.now c.write_at.new.self c.write_at-2.new.self
    (changes_on g.V.Vault IsSummaryName c.args.area.now c.cut.new.self c.write_at.new.self
    (cut_changes g.V.Vault c.args.name.now 0 c.args.area.now c.cut.new.self c.cut.result c.requires.named c.cut.ensures.cut c.cut.ensures.memory c.cut.ensures.failed c.cut.ensures.noted c.cut.ensures.tried c.cut.ensures.cause.later)
    (write_changes g.V.Vault c.args.name.now 0 (0 ∷ []) c.cut.new.self c.write_at.new.self c.write_at.result c.requires.named c.write_at.ensures.written c.write_at.ensures.memory c.write_at.ensures.failed c.write_at.ensures.noted c.write_at.ensures.tried c.write_at.ensures.cause.later))
    (write_changes g.V.Vault c.args.name.now 1 c.cut_front.result.1.now c.write_at.new.self c.write_at-2.new.self c.write_at-2.result c.requires.named c.write_at-2.ensures.written c.write_at-2.ensures.memory c.write_at-2.ensures.failed c.write_at-2.ensures.noted c.write_at-2.ensures.tried c.write_at-2.ensures.cause.later)

pub returns-clause-left : goal.returns-clause-left
returns-clause-left g c =
    let grown : StandsIn c.args.name.now (0 ∷ c.cut_front.result.1.now) (g.V.Vault.files c.args.area.now) (g.V.Vault.files c.write_at-2.new.self) =
    written_stands_in c.args.name.now (0 ∷ []) 1 c.cut_front.result.1.now (0 ∷ c.cut_front.result.1.now) (g.V.Vault.files c.args.area.now) (g.V.Vault.files c.write_at.new.self) (g.V.Vault.files c.write_at-2.new.self) (rest_grown c.cut_front.result.1.now)
    (written_stands_in c.args.name.now [] 0 (0 ∷ []) (0 ∷ []) (g.V.Vault.files c.args.area.now) (g.V.Vault.files c.cut.new.self) (g.V.Vault.files c.write_at.new.self) zero_is
    (cut_stands_in c.args.name.now (g.V.Vault.files c.args.area.now) (g.V.Vault.files c.cut.new.self) c.in_ok-cut.ensures.cut) c.in_ok-write_at.ensures.written)
    c.in_ok-write_at-2.ensures.written in
    left_in c.args.name.now c.args.bytes.now (0 ∷ c.cut_front.result.1.now) 0 c.cut_front.result.0.now (g.V.Vault.files c.args.area.now) (g.V.Vault.files c.write_at-2.new.self) (g.V.Vault.files c.write_at-3.new.self) c.write_at-3.result
    grown (front_only_of c.args.bytes.now c.cut_front.result.1.now c.cut_front.result.0.now c.cut_front.ensures.behind c.cut_front.ensures.front) c.write_at-3.ensures.written c.write_at-3.ensures.memory c.write_at-3.ensures.failed

pub returns-clause-written : goal.returns-clause-written
returns-clause-written g c =
    let grown : StandsIn c.args.name.now (0 ∷ c.cut_front.result.1.now) (g.V.Vault.files c.args.area.now) (g.V.Vault.files c.write_at-2.new.self) =
    written_stands_in c.args.name.now (0 ∷ []) 1 c.cut_front.result.1.now (0 ∷ c.cut_front.result.1.now) (g.V.Vault.files c.args.area.now) (g.V.Vault.files c.write_at.new.self) (g.V.Vault.files c.write_at-2.new.self) (rest_grown c.cut_front.result.1.now)
    (written_stands_in c.args.name.now [] 0 (0 ∷ []) (0 ∷ []) (g.V.Vault.files c.args.area.now) (g.V.Vault.files c.cut.new.self) (g.V.Vault.files c.write_at.new.self) zero_is
    (cut_stands_in c.args.name.now (g.V.Vault.files c.args.area.now) (g.V.Vault.files c.cut.new.self) c.in_ok-cut.ensures.cut) c.in_ok-write_at.ensures.written)
    c.in_ok-write_at-2.ensures.written in
    put_ok c.args.name.now c.args.bytes.now c.cut_front.result.1.now c.cut_front.result.0.now (g.V.Vault.files c.args.area.now) (g.V.Vault.files c.write_at-2.new.self) (g.V.Vault.files c.write_at-3.new.self) c.write_at-3.result grown c.cut_front.ensures.behind c.cut_front.ensures.front c.write_at-3.ensures.written

pub returns-clause-changes : goal.returns-clause-changes
returns-clause-changes g c =
    changes_on g.V.Vault IsSummaryName c.args.area.now c.write_at-2.new.self c.write_at-3.new.self
    (changes_on g.V.Vault IsSummaryName c.args.area.now c.write_at.new.self c.write_at-2.new.self
    (changes_on g.V.Vault IsSummaryName c.args.area.now c.cut.new.self c.write_at.new.self
    (cut_changes g.V.Vault c.args.name.now 0 c.args.area.now c.cut.new.self c.cut.result c.requires.named c.cut.ensures.cut c.cut.ensures.memory c.cut.ensures.failed c.cut.ensures.noted c.cut.ensures.tried c.cut.ensures.cause.later)
    (write_changes g.V.Vault c.args.name.now 0 (0 ∷ []) c.cut.new.self c.write_at.new.self c.write_at.result c.requires.named c.write_at.ensures.written c.write_at.ensures.memory c.write_at.ensures.failed c.write_at.ensures.noted c.write_at.ensures.tried c.write_at.ensures.cause.later))
    (write_changes g.V.Vault c.args.name.now 1 c.cut_front.result.1.now c.write_at.new.self c.write_at-2.new.self c.write_at-2.result c.requires.named c.write_at-2.ensures.written c.write_at-2.ensures.memory c.write_at-2.ensures.failed c.write_at-2.ensures.noted c.write_at-2.ensures.tried c.write_at-2.ensures.cause.later))
    (write_changes g.V.Vault c.args.name.now 0 c.cut_front.result.0.now c.write_at-2.new.self c.write_at-3.new.self c.write_at-3.result c.requires.named c.write_at-3.ensures.written c.write_at-3.ensures.memory c.write_at-3.ensures.failed c.write_at-3.ensures.noted c.write_at-3.ensures.tried c.write_at-3.ensures.cause.later)
