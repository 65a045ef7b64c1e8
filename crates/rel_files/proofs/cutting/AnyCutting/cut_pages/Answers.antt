use Rattle.std.proofs.Common.{ap, sym, ◌∙◌, ◌≡◌, ℕ, ◌+◌, ◌*◌, ◌/◌, min, subst, arith}
use Rattle.std.proofs.lemmas.Result.{on_ok_weaker, on_err_weaker}
use Rattle.vault.proofs.Changed.{changes_on}
use Rattle.lsn_core.specs.Blocks.{with_cut}
use Rattle.rel_files.specs.Forks.{IsForkPath}
use Rattle.rel_files.specs.Inside.{Held, TearsCut}
use Rattle.rel_files.proofs.FileCalls.{err_is}
use Rattle.rel_files.proofs.Removing.{LeavesFrom, has_files, cut_torn_before, cut_done, cut_torn_last}
use Rattle.vault.proofs.Through.{adds_on}
use Rattle.rel_files.specs.Inside.{last_file}
use Rattle.rel_files.specs.Events.{IsForkCut}
use Rattle.rel_files.proofs.Events.{removed_in_cut, cut_in_cut}
use Rattle.rel_files.proofs.cutting.AnyCutting.cut_pages.Goals as goal

pub returns-in_err-remove_files-clause-torn : goal.returns-in_err-remove_files-clause-torn
returns-in_err-remove_files-clause-torn g c =
    let relseg = c.args.relseg in
    let fork = c.args.fork.now in
    let left : c.min-left.result ≡ min c.args.count c.args.to = omega (arith, c.min-left.ensures) in
    let end : c.saturating_add-end.result ≡ min (c.args.count / relseg + 1) 4294967295 = omega (arith, c.saturating_add-end.ensures, c.file_of.ensures.value) in
    err_is (TearsCut g.V.Vault relseg c.args.count fork c.args.to c.args.self.now c.remove_files.new.self) c.from_residual.result (λ s held e.
    cut_torn_before relseg (g.V.Vault.files c.args.self.now) (g.V.Vault.files c.remove_files.new.self) (g.V.Vault.files c.remove_files.new.self) s fork c.args.count c.args.to c.min-left.result c.file_of.ensures.range.least held e left
    (subst (λ (n : ℕ). LeavesFrom relseg (g.V.Vault.files c.remove_files.new.self) s fork (n + 1)) c.last_file.ensures
    (c.in_err-remove_files.ensures.torn s held (has_files relseg (g.V.Vault.files c.args.self.now) s fork c.args.count c.saturating_add-end.result c.file_of.ensures.range.least held e end))))

pub returns-clause-cut : goal.returns-clause-cut
returns-clause-cut g c =
    let relseg = c.args.relseg in
    let fork = c.args.fork.now in
    let left : c.min-left.result ≡ min c.args.count c.args.to = omega (arith, c.min-left.ensures) in
    let end : c.saturating_add-end.result ≡ min (c.args.count / relseg + 1) 4294967295 = omega (arith, c.saturating_add-end.ensures, c.file_of.ensures.value) in
    on_ok_weaker c.cut_last.result (λ cuts s held e.
    cut_done relseg (g.V.Vault.files c.args.self.now) (g.V.Vault.files c.remove_files.new.self) (g.V.Vault.files c.cut_last.new.self) s fork c.args.count c.args.to c.min-left.result c.file_of.ensures.range.least held e left
    (subst (λ (n : ℕ). Held g.V.Vault relseg c.remove_files.new.self (with_cut s fork ((n + 1) * relseg))) c.last_file.ensures
    (c.in_ok-remove_files.ensures.gone s held (has_files relseg (g.V.Vault.files c.args.self.now) s fork c.args.count c.saturating_add-end.result c.file_of.ensures.range.least held e end)))
    cuts)
    c.cut_last.ensures.cut

pub returns-clause-torn : goal.returns-clause-torn
returns-clause-torn g c =
    let relseg = c.args.relseg in
    let fork = c.args.fork.now in
    let left : c.min-left.result ≡ min c.args.count c.args.to = omega (arith, c.min-left.ensures) in
    let end : c.saturating_add-end.result ≡ min (c.args.count / relseg + 1) 4294967295 = omega (arith, c.saturating_add-end.ensures, c.file_of.ensures.value) in
    on_err_weaker c.cut_last.result (λ leaves s held e.
    cut_torn_last relseg (g.V.Vault.files c.args.self.now) (g.V.Vault.files c.remove_files.new.self) (g.V.Vault.files c.cut_last.new.self) s fork c.args.count c.args.to c.min-left.result c.file_of.ensures.range.least held e left
    (subst (λ (n : ℕ). Held g.V.Vault relseg c.remove_files.new.self (with_cut s fork ((n + 1) * relseg))) c.last_file.ensures
    (c.in_ok-remove_files.ensures.gone s held (has_files relseg (g.V.Vault.files c.args.self.now) s fork c.args.count c.saturating_add-end.result c.file_of.ensures.range.least held e end)))
    leaves)
    c.cut_last.ensures.torn

pub returns-clause-frame : goal.returns-clause-frame
returns-clause-frame g c = changes_on g.V.Vault IsForkPath c.args.self.now c.remove_files.new.self c.cut_last.new.self c.in_ok-remove_files.ensures.frame c.cut_last.ensures.frame

pub returns-in_err-remove_files-clause-events : goal.returns-in_err-remove_files-clause-events
returns-in_err-remove_files-clause-events g c =
    let relseg = c.args.relseg in
    let left : c.min-left.result ≡ min c.args.count c.args.to = omega (arith, c.min-left.ensures) in
    let file : last_file relseg (min c.args.count c.args.to) ≡ c.last_file.result = ap (last_file relseg) (sym left) ∙ sym c.last_file.ensures in
    removed_in_cut relseg c.args.fork.now (c.last_file.result + 1) (min c.args.count c.args.to) (g.V.Vault.past c.args.self.now) (g.V.Vault.past c.remove_files.new.self) (ap (λ (n : ℕ). n + 1) file) c.in_err-remove_files.ensures.events

pub returns-clause-events : goal.returns-clause-events
returns-clause-events g c =
    let relseg = c.args.relseg in
    let left : c.min-left.result ≡ min c.args.count c.args.to = omega (arith, c.min-left.ensures) in
    let file : last_file relseg (min c.args.count c.args.to) ≡ c.last_file.result = ap (last_file relseg) (sym left) ∙ sym c.last_file.ensures in
    adds_on (IsForkCut relseg c.args.fork.now (min c.args.count c.args.to)) (g.V.Vault.past c.args.self.now) (g.V.Vault.past c.remove_files.new.self) (g.V.Vault.past c.cut_last.new.self)
    (removed_in_cut relseg c.args.fork.now (c.last_file.result + 1) (min c.args.count c.args.to) (g.V.Vault.past c.args.self.now) (g.V.Vault.past c.remove_files.new.self) (ap (λ (n : ℕ). n + 1) file) c.in_ok-remove_files.ensures.events)
    (cut_in_cut relseg c.args.fork.now c.min-left.result (min c.args.count c.args.to) (g.V.Vault.past c.remove_files.new.self) (g.V.Vault.past c.cut_last.new.self) left c.cut_last.ensures.events)
