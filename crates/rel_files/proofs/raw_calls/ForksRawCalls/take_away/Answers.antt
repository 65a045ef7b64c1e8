use Rattle.std.proofs.Common.{ℕ, Option, is_some, inl, sym, ap, subst}
use Rattle.std.proofs.lemmas.Result.{on_ok_weaker, on_err_weaker}
use Rattle.vault.proofs.Changed.{changes_on}
use Rattle.vault.proofs.Through.{adds_none}
use Rattle.rel_files.specs.Events.{IsFileRemoval}
use Rattle.rel_files.proofs.Events.{removal_behind}
use Rattle.lsn_core.specs.Store.{Store}
use Rattle.lsn_core.specs.Blocks.{without_fork}
use Rattle.rel_files.specs.Forks.{IsForkPath}
use Rattle.rel_files.specs.Shown.{HoldsStore}
use Rattle.rel_files.proofs.ForkStores.{gone_there}
use Rattle.rel_files.proofs.FileCalls.{err_is, without_missing}
use Rattle.rel_files.proofs.RawCalls.{count_found, fork_absent, cut_idle, removal_torn_others}
use Rattle.rel_files.proofs.raw_calls.ForksRawCalls.take_away.Goals as goal

pub returns-in_err-count-clause-torn : goal.returns-in_err-count-clause-torn
returns-in_err-count-clause-torn g c = err_is _ c.from_residual.result (λ s h. (s, (c.in_err-count.ensures.held s h, inl (cut_idle s c.args.fork.now 0))))

pub returns-in_default-clause-away : goal.returns-in_default-clause-away
returns-in_default-clause-away g c s h =
    let fork = c.args.fork.now in
    let none = fork_absent s fork c.in_ok-count.field-0 (c.in_ok-count.ensures.whole s h) (ap (λ (o : Option ℕ). is_some o) c.in_default.is) in
    subst (λ (t : Store). HoldsStore g.V.Vault c.count.new.self t) (sym (without_missing s fork none)) (c.in_ok-count.ensures.held s h)

pub returns-clause-away : goal.returns-clause-away
returns-clause-away g c =
    let fork = c.args.fork.now in
    on_ok_weaker c.remove_pages.result (λ gone s h.
    let m = c.in_ok-count.ensures.held s h in
    record {
      files = gone s m.files (count_found s fork c.in_ok-count.field-0 c.in-Some.count (c.in_ok-count.ensures.whole s h) c.in-Some.is);
      known = c.forget.ensures s (without_fork s fork) (gone_there s fork) m.known;
    })
    c.remove_pages.ensures.gone

pub returns-clause-torn : goal.returns-clause-torn
returns-clause-torn g c =
    let fork = c.args.fork.now in
    on_err_weaker c.remove_pages.result (λ torn s h.
    let m = c.in_ok-count.ensures.held s h in
    let left = torn s m.files (count_found s fork c.in_ok-count.field-0 c.in-Some.count (c.in_ok-count.ensures.whole s h) c.in-Some.is) in
    (left.0, (record { files = left.1.0; known = c.forget.ensures s left.0 (removal_torn_others s left.0 fork left.1.1) m.known }, left.1.1)))
    c.remove_pages.ensures.torn

pub returns-clause-kept : goal.returns-clause-kept
returns-clause-kept g c = record {
  relseg = c.in_ok-count.ensures.kept.relseg;
  area = changes_on g.V.Vault IsForkPath c.args.self.now.area c.count.new.self.area c.remove_pages.new.self c.in_ok-count.ensures.kept.area c.remove_pages.ensures.frame;
}

pub returns-in_err-count-clause-events : goal.returns-in_err-count-clause-events
returns-in_err-count-clause-events g c = adds_none (IsFileRemoval c.args.fork.now 0) (g.V.Vault.past c.args.self.now.area) (g.V.Vault.past c.count.new.self.area) c.in_err-count.ensures.reads.past

pub returns-in_default-clause-events : goal.returns-in_default-clause-events
returns-in_default-clause-events g c = adds_none (IsFileRemoval c.args.fork.now 0) (g.V.Vault.past c.args.self.now.area) (g.V.Vault.past c.count.new.self.area) c.in_ok-count.ensures.reads.past

pub returns-clause-events : goal.returns-clause-events
returns-clause-events g c =
    removal_behind c.args.fork.now (g.V.Vault.past c.args.self.now.area) (g.V.Vault.past c.count.new.self.area) (g.V.Vault.past c.remove_pages.new.self) c.in_ok-count.ensures.reads.past c.remove_pages.ensures.events
