use Rattle.std.proofs.Common.{ℕ, min, Option, is_some, sym, ap, subst, arith}
use Rattle.vault.proofs.Changed.{changes_on}
use Rattle.lsn_core.specs.Store.{Store}
use Rattle.lsn_core.specs.Blocks.{with_cut}
use Rattle.rel_files.specs.Forks.{IsForkPath, mended}
use Rattle.rel_files.specs.Shown.{HoldsStore}
use Rattle.rel_files.proofs.FileCalls.{err_is}
use Rattle.rel_files.proofs.RawCalls.{count_found, fork_absent, cut_idle, cut_absent, cut_counted, cut_torn_others}
use Rattle.std.specs.FinMap.{get}
use Rattle.vault.proofs.Through.{adds_none}
use Rattle.rel_files.specs.Events.{IsForkCut}
use Rattle.rel_files.specs.Inside.{whole_length}
use Rattle.rel_files.proofs.Events.{cut_behind, whole_found}
use Rattle.rel_files.proofs.raw_calls.ForksRawCalls.cut_to.Goals as goal

pub returns-in_err-count-clause-torn : goal.returns-in_err-count-clause-torn
returns-in_err-count-clause-torn g c = err_is _ c.from_residual.result (λ s h. (s, (c.in_err-count.ensures.held s h, cut_idle s c.args.fork.now c.args.to)))

pub returns-in_default-clause-left : goal.returns-in_default-clause-left
returns-in_default-clause-left g c s h =
    let fork = c.args.fork.now in
    let none = fork_absent s fork c.in_ok-count.field-0 (c.in_ok-count.ensures.whole s h) (ap (λ (o : Option ℕ). is_some o) c.in_default.is) in
    subst (λ (t : Store). HoldsStore g.V.Vault c.count.new.self t) (sym (cut_absent s fork c.args.to none)) (c.in_ok-count.ensures.held s h)

pub returns-in_err-cut_pages-clause-torn : goal.returns-in_err-cut_pages-clause-torn
returns-in_err-cut_pages-clause-torn g c =
    err_is _ c.from_residual-in_err-cut_pages.result (λ s h.
    let fork = c.args.fork.now in
    let m = c.in_ok-count.ensures.held s h in
    let left = c.in_err-cut_pages.ensures.torn s m.files (count_found s fork c.in_ok-count.field-0 c.in-Some.count (c.in_ok-count.ensures.whole s h) c.in-Some.is) in
    (left.0, (record { files = left.1.0; known = c.forget.ensures s left.0 (cut_torn_others s left.0 fork c.args.to left.1.1) m.known }, left.1.1)))

pub returns-in_err-cut_pages-clause-kept : goal.returns-in_err-cut_pages-clause-kept
returns-in_err-cut_pages-clause-kept g c = record {
  relseg = c.in_ok-count.ensures.kept.relseg;
  area = changes_on g.V.Vault IsForkPath c.args.self.now.area c.count.new.self.area c.cut_pages.new.self c.in_ok-count.ensures.kept.area c.in_err-cut_pages.ensures.frame;
}

pub returns-clause-left : goal.returns-clause-left
returns-clause-left g c s h =
    let fork = c.args.fork.now in
    let mid = c.count.new.self in
    let m = c.in_ok-count.ensures.held s h in
    let e = count_found s fork c.in_ok-count.field-0 c.in-Some.count (c.in_ok-count.ensures.whole s h) c.in-Some.is in
    let t = with_cut (mended s fork) fork c.args.to in
    let cut = cut_counted mid.relseg (g.V.Vault.files mid.area) s fork c.in-Some.count c.args.to c.min.result m.files e (omega (arith, c.min.ensures)) in
    record {
      files = c.in_ok-cut_pages.ensures.cut s m.files e;
      known = c.note.ensures.right t cut.1 (c.forget.ensures s t cut.0 m.known);
    }

pub returns-clause-kept : goal.returns-clause-kept
returns-clause-kept g c = record {
  relseg = c.in_ok-count.ensures.kept.relseg;
  area = changes_on g.V.Vault IsForkPath c.args.self.now.area c.count.new.self.area c.cut_pages.new.self c.in_ok-count.ensures.kept.area c.in_ok-cut_pages.ensures.frame;
}

pub returns-in_err-count-clause-events : goal.returns-in_err-count-clause-events
returns-in_err-count-clause-events g c s h =
    adds_none (IsForkCut c.args.self.now.relseg c.args.fork.now (min (whole_length s c.args.fork.now) c.args.to)) (g.V.Vault.past c.args.self.now.area) (g.V.Vault.past c.count.new.self.area) c.in_err-count.ensures.reads.past

pub returns-in_default-clause-events : goal.returns-in_default-clause-events
returns-in_default-clause-events g c s h =
    adds_none (IsForkCut c.args.self.now.relseg c.args.fork.now (min (whole_length s c.args.fork.now) c.args.to)) (g.V.Vault.past c.args.self.now.area) (g.V.Vault.past c.count.new.self.area) c.in_ok-count.ensures.reads.past

pub returns-in_err-cut_pages-clause-events : goal.returns-in_err-cut_pages-clause-events
returns-in_err-cut_pages-clause-events g c s h =
    let fork = c.args.fork.now in
    let found = whole_found (get s fork) c.in-Some.count (count_found s fork c.in_ok-count.field-0 c.in-Some.count (c.in_ok-count.ensures.whole s h) c.in-Some.is) in
    cut_behind c.args.self.now.relseg c.count.new.self.relseg fork (min c.in-Some.count c.args.to) (min (whole_length s fork) c.args.to) (g.V.Vault.past c.args.self.now.area) (g.V.Vault.past c.count.new.self.area) (g.V.Vault.past c.cut_pages.new.self)
    c.in_ok-count.ensures.kept.relseg (ap (λ (n : ℕ). min n c.args.to) found) c.in_ok-count.ensures.reads.past c.in_err-cut_pages.ensures.events

pub returns-clause-events : goal.returns-clause-events
returns-clause-events g c s h =
    let fork = c.args.fork.now in
    let found = whole_found (get s fork) c.in-Some.count (count_found s fork c.in_ok-count.field-0 c.in-Some.count (c.in_ok-count.ensures.whole s h) c.in-Some.is) in
    cut_behind c.args.self.now.relseg c.count.new.self.relseg fork (min c.in-Some.count c.args.to) (min (whole_length s fork) c.args.to) (g.V.Vault.past c.args.self.now.area) (g.V.Vault.past c.count.new.self.area) (g.V.Vault.past c.cut_pages.new.self)
    c.in_ok-count.ensures.kept.relseg (ap (λ (n : ℕ). min n c.args.to) found) c.in_ok-count.ensures.reads.past c.in_ok-cut_pages.ensures.events
