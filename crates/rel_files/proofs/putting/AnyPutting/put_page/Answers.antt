use Rattle.std.proofs.Common.{inl, inr, refl, ap, arith}
use Rattle.std.proofs.lemmas.Result.{on_ok_weaker, on_err_weaker}
use Rattle.vault.proofs.Changed.{changes_on}
use Rattle.rel_files.specs.Forks.{IsForkPath}
use Rattle.rel_files.specs.Inside.{TearsPut}
use Rattle.rel_files.proofs.FileCalls.{err_is}
use Rattle.rel_files.proofs.ForkFrames.{changes_none}
use Rattle.rel_files.proofs.Filling.{fill_start, fill_next, fill_torn, put_last, torn_last}
use Rattle.vault.proofs.Through.{adds_none, adds_on}
use Rattle.rel_files.specs.Events.{IsPut}
use Rattle.rel_files.proofs.Events.{put_part}
use Rattle.rel_files.proofs.putting.AnyPutting.put_page.Goals as goal

pub loop-block-init : goal.loop-block-init
loop-block-init g c = record {
  filled = λ le s held e. fill_start c.args.relseg (g.V.Vault.files c.args.self.now) s c.args.at.now.fork c.args.count c.args.at.now.block held e;
  idle = λ less. refl;
  frame = changes_none g.V.Vault IsForkPath c.args.self.now;
  events = adds_none (IsPut c.args.relseg c.args.count c.args.at.now) (g.V.Vault.past c.args.self.now) (g.V.Vault.past c.args.self.now) refl;
  later = omega arith;
}

pub loop-block-preserved : goal.loop-block-preserved
loop-block-preserved g c = record {
  filled = λ le s held e.
      fill_next c.args.relseg (g.V.Vault.files c.loop-block.self) (g.V.Vault.files c.write_page.new.self) s c.args.at.now.fork c.loop-block.block c.args.at.now.block c.zero_page-zeros.result c.zero_page-zeros.ensures c.loop-block-test.true
      c.in_ok-write_page.ensures.put (c.loop-block.invariant.filled le s held e);
  idle = λ less. absurd (omega (arith, less, c.loop-block-test.true, c.loop-block.auto.block));
  frame = changes_on g.V.Vault IsForkPath c.args.self.now c.loop-block.self c.write_page.new.self c.loop-block.invariant.frame c.in_ok-write_page.ensures.frame;
  events = adds_on (IsPut c.args.relseg c.args.count c.args.at.now) (g.V.Vault.past c.args.self.now) (g.V.Vault.past c.loop-block.self) (g.V.Vault.past c.write_page.new.self) c.loop-block.invariant.events
      (put_part c.args.relseg c.args.count c.args.at.now c.loop-block.block (g.V.Vault.past c.loop-block.self) (g.V.Vault.past c.write_page.new.self) (omega (arith, c.loop-block-test.true)) (inl c.loop-block.auto.block) c.in_ok-write_page.ensures.events);
  later = omega (arith, c.loop-block.invariant.later, c.in_ok-write_page.ensures.cause.later);
}

pub returns-in_err-write_page-clause-torn : goal.returns-in_err-write_page-clause-torn
returns-in_err-write_page-clause-torn g c =
    err_is (TearsPut g.V.Vault c.args.relseg c.args.count c.args.at.now c.args.self.now c.write_page.new.self) c.from_residual.result (λ s held e.
    fill_torn c.args.relseg (g.V.Vault.files c.loop-block.self) (g.V.Vault.files c.write_page.new.self) s c.args.at.now.fork c.loop-block.block c.args.at.now.block (omega (arith, c.loop-block-test.true))
    c.in_err-write_page.ensures.torn (c.loop-block.invariant.filled (omega (arith, c.loop-block-test.true, c.loop-block.auto.block)) s held e))

pub returns-in_err-write_page-clause-frame : goal.returns-in_err-write_page-clause-frame
returns-in_err-write_page-clause-frame g c = changes_on g.V.Vault IsForkPath c.args.self.now c.loop-block.self c.write_page.new.self c.loop-block.invariant.frame c.in_err-write_page.ensures.frame

pub returns-clause-put : goal.returns-clause-put
returns-clause-put g c =
    let at = c.args.at.now in
    on_ok_weaker c.write_page-2.result (λ puts s held e.
    put_last c.args.relseg (g.V.Vault.files c.args.self.now) (g.V.Vault.files c.loop-block.self) (g.V.Vault.files c.write_page-2.new.self) s at.fork c.args.count c.loop-block.block at.block
    (λ le. c.loop-block.invariant.filled le s held e) (λ less. ap g.V.Vault.files (c.loop-block.invariant.idle less)) held e c.loop-block-test.false c.loop-block.auto.block-end c.args.from.now puts)
    c.write_page-2.ensures.put

pub returns-clause-torn : goal.returns-clause-torn
returns-clause-torn g c =
    let at = c.args.at.now in
    on_err_weaker c.write_page-2.result (λ torn s held e.
    torn_last c.args.relseg (g.V.Vault.files c.args.self.now) (g.V.Vault.files c.loop-block.self) (g.V.Vault.files c.write_page-2.new.self) s at.fork c.args.count c.loop-block.block at.block
    (λ le. c.loop-block.invariant.filled le s held e) (λ less. ap g.V.Vault.files (c.loop-block.invariant.idle less)) held e c.loop-block-test.false c.loop-block.auto.block-end torn)
    c.write_page-2.ensures.torn

pub returns-clause-frame : goal.returns-clause-frame
returns-clause-frame g c = changes_on g.V.Vault IsForkPath c.args.self.now c.loop-block.self c.write_page-2.new.self c.loop-block.invariant.frame c.write_page-2.ensures.frame

pub returns-in_err-write_page-clause-events : goal.returns-in_err-write_page-clause-events
returns-in_err-write_page-clause-events g c =
    adds_on (IsPut c.args.relseg c.args.count c.args.at.now) (g.V.Vault.past c.args.self.now) (g.V.Vault.past c.loop-block.self) (g.V.Vault.past c.write_page.new.self) c.loop-block.invariant.events
    (put_part c.args.relseg c.args.count c.args.at.now c.loop-block.block (g.V.Vault.past c.loop-block.self) (g.V.Vault.past c.write_page.new.self) (omega (arith, c.loop-block-test.true)) (inl c.loop-block.auto.block) c.in_err-write_page.ensures.events)

pub returns-clause-events : goal.returns-clause-events
returns-clause-events g c =
    adds_on (IsPut c.args.relseg c.args.count c.args.at.now) (g.V.Vault.past c.args.self.now) (g.V.Vault.past c.loop-block.self) (g.V.Vault.past c.write_page-2.new.self) c.loop-block.invariant.events
    (put_part c.args.relseg c.args.count c.args.at.now c.args.at.now.block (g.V.Vault.past c.loop-block.self) (g.V.Vault.past c.write_page-2.new.self) (omega arith) (inr refl) c.write_page-2.ensures.events)
