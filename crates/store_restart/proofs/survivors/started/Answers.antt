-- The place that is named: one was seen to start there, or one is looked for.
use Rattle.std.proofs.Common.{true≢false, sym, ◌∙◌}
use Rattle.store_restart.proofs.Started.{place_seen, place_found, place_missing}
use Rattle.store_restart.proofs.survivors.started.Goals as goal
use Rattle.store_restart.proofs.survivors.started.Goals.{then-named, else-named+in_ok-starts_at}

pub returns-then-branch-clause-told : goal.returns-then-branch-clause-told
returns-then-branch-clause-told g c = elim c.if-named.branch [
  | then-named w ↦ place_seen c.args.settings.now (g.V.Vault.files c.args.wal.now) c.args.named c.in-Some.place c.in-Some.is w.if-named.true
  | else-named+in_ok-starts_at w ↦
      place_found c.args.settings.now (g.V.Vault.files c.args.wal.now) c.args.named c.in-Some.place w.in_ok-starts_at.field-0 c.in-Some.is w.in_ok-starts_at.ensures.there (sym w.value-is ∙ c.if-branch.true)
]

pub returns-else-branch-clause-told : goal.returns-else-branch-clause-told
returns-else-branch-clause-told g c = elim c.if-named.branch [
  | then-named w ↦ absurd (true≢false (sym w.if-named.true ∙ (sym w.value-is ∙ c.if-branch.false)))
  | else-named+in_ok-starts_at w ↦
      place_missing c.args.settings.now (g.V.Vault.files c.args.wal.now) c.args.named c.in-Some.place w.in_ok-starts_at.field-0 c.in-Some.is w.in_ok-starts_at.ensures.there (sym w.value-is ∙ c.if-branch.false)
]
