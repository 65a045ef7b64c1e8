use Rattle.std.proofs.Common.{refl, ◌-◌, ◌≡◌, ℕ, ◌*◌, sym, subst, arith}
use Rattle.vault.proofs.Changed.{changes_on}
use Rattle.lsn_core.specs.Store.{Store}
use Rattle.lsn_core.specs.Blocks.{with_cut}
use Rattle.rel_files.specs.Forks.{IsForkPath}
use Rattle.rel_files.specs.Inside.{Held, TearsFrom}
use Rattle.rel_files.proofs.ForkCuts.{uncut}
use Rattle.rel_files.proofs.FileCalls.{err_is}
use Rattle.rel_files.proofs.ForkFrames.{changes_none}
use Rattle.rel_files.proofs.Removing.{removed_next, removed_torn}
use Rattle.vault.proofs.Through.{adds_none, adds_on}
use Rattle.rel_files.specs.Events.{IsFileRemoval}
use Rattle.rel_files.proofs.Events.{from_earlier}
use Rattle.rel_files.proofs.cutting.AnyCutting.remove_files.Goals as goal

pub loop-end-init : goal.loop-end-init
loop-end-init g c = record {
  order = c.requires.order;
  held = λ s held le. subst (λ (t : Store). Held g.V.Vault c.args.relseg c.args.self.now t) (sym (uncut s c.args.fork.now (c.args.end * c.args.relseg) le)) held;
  frame = changes_none g.V.Vault IsForkPath c.args.self.now;
  events = adds_none (IsFileRemoval c.args.fork.now c.args.first) (g.V.Vault.past c.args.self.now) (g.V.Vault.past c.args.self.now) refl;
  later = omega arith;
}

pub loop-end-preserved : goal.loop-end-preserved
loop-end-preserved g c = record {
  order = omega (arith, c.loop-end-test.true);
  held = λ s held le. removed_next c.args.relseg (g.V.Vault.files c.loop-end.self) (g.V.Vault.files c.remove_last.new.self) s c.args.fork.now c.loop-end.end (omega (arith, c.loop-end-test.true)) c.in_ok-remove_last.ensures.gone (c.loop-end.invariant.held s held le);
  frame = changes_on g.V.Vault IsForkPath c.args.self.now c.loop-end.self c.remove_last.new.self c.loop-end.invariant.frame c.in_ok-remove_last.ensures.frame;
  events = adds_on (IsFileRemoval c.args.fork.now c.args.first) (g.V.Vault.past c.args.self.now) (g.V.Vault.past c.loop-end.self) (g.V.Vault.past c.remove_last.new.self) c.loop-end.invariant.events
      (from_earlier c.args.fork.now c.args.first (c.loop-end.end - 1) (g.V.Vault.past c.loop-end.self) (g.V.Vault.past c.remove_last.new.self) (omega (arith, c.loop-end-test.true)) c.in_ok-remove_last.ensures.events);
  later = omega (arith, c.loop-end.invariant.later, c.in_ok-remove_last.ensures.cause.later);
}

pub returns-in_err-remove_last-clause-torn : goal.returns-in_err-remove_last-clause-torn
returns-in_err-remove_last-clause-torn g c =
    err_is (TearsFrom g.V.Vault c.args.relseg c.args.fork.now c.args.first c.args.end c.args.self.now c.remove_last.new.self) c.from_residual.result (λ s held le.
    removed_torn c.args.relseg (g.V.Vault.files c.loop-end.self) (g.V.Vault.files c.remove_last.new.self) s c.args.fork.now c.args.first c.loop-end.end c.loop-end-test.true c.in_err-remove_last.ensures.torn (c.loop-end.invariant.held s held le))

pub returns-in_err-remove_last-clause-frame : goal.returns-in_err-remove_last-clause-frame
returns-in_err-remove_last-clause-frame g c = changes_on g.V.Vault IsForkPath c.args.self.now c.loop-end.self c.remove_last.new.self c.loop-end.invariant.frame c.in_err-remove_last.ensures.frame

pub returns-clause-gone : goal.returns-clause-gone
returns-clause-gone g c s held le =
    let same : c.loop-end.end ≡ c.args.first = omega (arith, c.loop-end.invariant.order, c.loop-end-test.false) in
    subst (λ (n : ℕ). Held g.V.Vault c.args.relseg c.loop-end.self (with_cut s c.args.fork.now (n * c.args.relseg))) same (c.loop-end.invariant.held s held le)

pub returns-in_err-remove_last-clause-events : goal.returns-in_err-remove_last-clause-events
returns-in_err-remove_last-clause-events g c =
    adds_on (IsFileRemoval c.args.fork.now c.args.first) (g.V.Vault.past c.args.self.now) (g.V.Vault.past c.loop-end.self) (g.V.Vault.past c.remove_last.new.self) c.loop-end.invariant.events
    (from_earlier c.args.fork.now c.args.first (c.loop-end.end - 1) (g.V.Vault.past c.loop-end.self) (g.V.Vault.past c.remove_last.new.self) (omega (arith, c.loop-end-test.true)) c.in_err-remove_last.ensures.events)
