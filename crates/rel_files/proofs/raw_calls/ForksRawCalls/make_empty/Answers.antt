use Rattle.std.proofs.Common.{inl, refl, sym, subst}
use Rattle.vault.proofs.Changed.{changes_on}
use Rattle.lsn_core.specs.Store.{Store}
use Rattle.rel_files.specs.Forks.{IsForkPath}
use Rattle.rel_files.specs.Shown.{HoldsStore}
use Rattle.lsn_core.specs.Blocks.{with_fork}
use Rattle.rel_files.proofs.FileCalls.{err_is}
use Rattle.rel_files.proofs.RawCalls.{fork_absent, fork_there, made_same, made_others, made_count, make_torn_others}
use Rattle.vault.proofs.Through.{adds_none}
use Rattle.rel_files.specs.Events.{IsMake}
use Rattle.rel_files.proofs.Events.{make_behind}
use Rattle.rel_files.proofs.raw_calls.ForksRawCalls.make_empty.Goals as goal

pub returns-in_err-count-clause-torn : goal.returns-in_err-count-clause-torn
returns-in_err-count-clause-torn g c = err_is _ c.from_residual.result (λ s h. (s, (c.in_err-count.ensures.held s h, inl refl)))

pub returns-then-is_some-clause-there : goal.returns-then-is_some-clause-there
returns-then-is_some-clause-there g c s h =
    let there = fork_there s c.args.fork.now c.in_ok-count.field-0 (c.in_ok-count.ensures.whole s h) (sym c.if-is_some.ensures) in
    subst (λ (t : Store). HoldsStore g.V.Vault c.count.new.self t) (sym (made_same s c.args.fork.now there)) (c.in_ok-count.ensures.held s h)

pub returns-in_err-make_first-clause-torn : goal.returns-in_err-make_first-clause-torn
returns-in_err-make_first-clause-torn g c =
    let fork = c.args.fork.now in
    err_is _ c.from_residual-in_err-make_first.result (λ s h.
    let m = c.in_ok-count.ensures.held s h in
    let left = c.in_err-make_first.ensures.torn s m.files (fork_absent s fork c.in_ok-count.field-0 (c.in_ok-count.ensures.whole s h) (sym c.if-is_some.ensures)) in
    (left.0, (record { files = left.1.0; known = c.forget.ensures s left.0 (make_torn_others s left.0 fork left.1.1) m.known }, left.1.1)))

pub returns-in_err-make_first-clause-kept : goal.returns-in_err-make_first-clause-kept
returns-in_err-make_first-clause-kept g c = record {
  relseg = c.in_ok-count.ensures.kept.relseg;
  area = changes_on g.V.Vault IsForkPath c.args.self.now.area c.count.new.self.area c.make_first.new.self c.in_ok-count.ensures.kept.area c.in_err-make_first.ensures.frame;
}

pub returns-clause-there : goal.returns-clause-there
returns-clause-there g c s h =
    let fork = c.args.fork.now in
    let m = c.in_ok-count.ensures.held s h in
    let none = fork_absent s fork c.in_ok-count.field-0 (c.in_ok-count.ensures.whole s h) (sym c.if-is_some.ensures) in
    record {
      files = c.in_ok-make_first.ensures.made s m.files none;
      known = c.note.ensures.right (with_fork s fork) (made_count s fork none) (c.forget.ensures s (with_fork s fork) (made_others s fork) m.known);
    }

pub returns-clause-kept : goal.returns-clause-kept
returns-clause-kept g c = record {
  relseg = c.in_ok-count.ensures.kept.relseg;
  area = changes_on g.V.Vault IsForkPath c.args.self.now.area c.count.new.self.area c.make_first.new.self c.in_ok-count.ensures.kept.area c.in_ok-make_first.ensures.frame;
}

pub returns-in_err-count-clause-events : goal.returns-in_err-count-clause-events
returns-in_err-count-clause-events g c = adds_none (IsMake c.args.fork.now) (g.V.Vault.past c.args.self.now.area) (g.V.Vault.past c.count.new.self.area) c.in_err-count.ensures.reads.past

pub returns-then-is_some-clause-events : goal.returns-then-is_some-clause-events
returns-then-is_some-clause-events g c = adds_none (IsMake c.args.fork.now) (g.V.Vault.past c.args.self.now.area) (g.V.Vault.past c.count.new.self.area) c.in_ok-count.ensures.reads.past

pub returns-in_err-make_first-clause-events : goal.returns-in_err-make_first-clause-events
returns-in_err-make_first-clause-events g c =
    make_behind c.args.fork.now (g.V.Vault.past c.args.self.now.area) (g.V.Vault.past c.count.new.self.area) (g.V.Vault.past c.make_first.new.self) c.in_ok-count.ensures.reads.past c.in_err-make_first.ensures.events

pub returns-clause-events : goal.returns-clause-events
returns-clause-events g c =
    make_behind c.args.fork.now (g.V.Vault.past c.args.self.now.area) (g.V.Vault.past c.count.new.self.area) (g.V.Vault.past c.make_first.new.self) c.in_ok-count.ensures.reads.past c.in_ok-make_first.ensures.events
