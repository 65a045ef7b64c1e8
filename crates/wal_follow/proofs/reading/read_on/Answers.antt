-- Each entry carries on what was read so far.
use Rattle.std.proofs.Common.{[], ◌∷◌, ◌++◌, Option, subst}
use Rattle.wal_record.specs.declared.record.Record.{Record}
use Rattle.wal_follow.specs.Reading.{RefusedBehind, TakesEntry}
use Rattle.wal_follow.proofs.Going.{nothing_gone, one_gone, bad_gone, err_cause}
use Rattle.wal_follow.proofs.reading.read_on.Goals as goal

pub loop-entry-init : goal.loop-entry-init
loop-entry-init g c = ([], nothing_gone g.V.Vault c.args.settings.now c.args.area.now c.args.tip.now c.args.store.now c.requires)

pub returns-in_err-_entry-clause-refused : goal.returns-in_err-_entry-clause-refused
returns-in_err-_entry-clause-refused g c =
    err_cause c.from_residual.result c.in_err-_entry.field-0.0 (RefusedBehind c.args.settings.now (g.V.Vault.files c.args.area.now) c.args.tip.now c.args.store.now) c.from_residual.ensures.1
    (bad_gone g.V.Vault c.args.settings.now c.args.area.now c.loop-entry.area c.args.tip.now c.loop-entry.tip c.args.store.now c.loop-entry.store c.loop-entry.invariant.0 c.in_err-_entry.field-0.0 c.loop-entry.invariant.1 c.in_err-_entry.ensures.refused)

pub loop-entry-preserved-in-Some : goal.loop-entry-preserved-in-Some
loop-entry-preserved-in-Some g c = (
  c.loop-entry.invariant.0 ++ (c.in-Some._entry ∷ []),
  one_gone g.V.Vault c.args.settings.now c.args.area.now c.loop-entry.area c.take_next.new.area c.args.tip.now c.loop-entry.tip c.take_next.new.tip c.args.store.now c.loop-entry.store c.take_next.new.store c.take_next.new.ended c.loop-entry.invariant.0 c.in-Some._entry
      c.loop-entry.invariant.1 c.in_ok-_entry.ensures.reads (subst (λ (o : Option Record). TakesEntry c.args.settings.now (g.V.Vault.files c.loop-entry.area) c.loop-entry.tip c.take_next.new.tip c.loop-entry.store c.take_next.new.store c.take_next.new.ended o) c.in-Some.is c.in_ok-_entry.ensures.taken),
)

pub loop-entry-preserved-in-Some-2 : goal.loop-entry-preserved-in-Some-2
loop-entry-preserved-in-Some-2 g c = (
  c.loop-entry.invariant.0 ++ (c.in-Some._entry ∷ []),
  one_gone g.V.Vault c.args.settings.now c.args.area.now c.loop-entry.area c.take_next.new.area c.args.tip.now c.loop-entry.tip c.take_next.new.tip c.args.store.now c.loop-entry.store c.take_next.new.store c.take_next.new.ended c.loop-entry.invariant.0 c.in-Some._entry
      c.loop-entry.invariant.1 c.in_ok-_entry.ensures.reads (subst (λ (o : Option Record). TakesEntry c.args.settings.now (g.V.Vault.files c.loop-entry.area) c.loop-entry.tip c.take_next.new.tip c.loop-entry.store c.take_next.new.store c.take_next.new.ended o) c.in-Some.is c.in_ok-_entry.ensures.taken),
)

pub loop-entry-preserved : goal.loop-entry-preserved
loop-entry-preserved g c = (
  c.loop-entry.invariant.0 ++ (c.in-Some._entry ∷ []),
  one_gone g.V.Vault c.args.settings.now c.args.area.now c.loop-entry.area c.take_next.new.area c.args.tip.now c.loop-entry.tip c.take_next.new.tip c.args.store.now c.loop-entry.store c.take_next.new.store c.take_next.new.ended c.loop-entry.invariant.0 c.in-Some._entry
      c.loop-entry.invariant.1 c.in_ok-_entry.ensures.reads (subst (λ (o : Option Record). TakesEntry c.args.settings.now (g.V.Vault.files c.loop-entry.area) c.loop-entry.tip c.take_next.new.tip c.loop-entry.store c.take_next.new.store c.take_next.new.ended o) c.in-Some.is c.in_ok-_entry.ensures.taken),
)

pub loop-entry-preserved-in-Some-3 : goal.loop-entry-preserved-in-Some-3
loop-entry-preserved-in-Some-3 g c = (
  c.loop-entry.invariant.0 ++ (c.in-Some._entry ∷ []),
  one_gone g.V.Vault c.args.settings.now c.args.area.now c.loop-entry.area c.take_next.new.area c.args.tip.now c.loop-entry.tip c.take_next.new.tip c.args.store.now c.loop-entry.store c.take_next.new.store c.take_next.new.ended c.loop-entry.invariant.0 c.in-Some._entry
      c.loop-entry.invariant.1 c.in_ok-_entry.ensures.reads (subst (λ (o : Option Record). TakesEntry c.args.settings.now (g.V.Vault.files c.loop-entry.area) c.loop-entry.tip c.take_next.new.tip c.loop-entry.store c.take_next.new.store c.take_next.new.ended o) c.in-Some.is c.in_ok-_entry.ensures.taken),
)
