use Rattle.std.proofs.Common.{◌≡◌, ◌+◌, ◌/◌, min, arith}
use Rattle.std.proofs.lemmas.Result.{on_ok_weaker, on_err_weaker}
use Rattle.vault.proofs.Changed.{changes_on}
use Rattle.vault.proofs.Through.{adds_on}
use Rattle.rel_files.specs.Events.{IsFileRemoval}
use Rattle.rel_files.proofs.Events.{from_earlier}
use Rattle.rel_files.specs.Forks.{IsForkPath}
use Rattle.rel_files.specs.Inside.{TearsRemoval}
use Rattle.rel_files.proofs.FileCalls.{err_is}
use Rattle.rel_files.proofs.Removing.{has_files, removal_torn_before, removal_done, removal_torn_last}
use Rattle.rel_files.proofs.cutting.AnyCutting.remove_pages.Goals as goal

pub returns-in_err-remove_files-clause-torn : goal.returns-in_err-remove_files-clause-torn
returns-in_err-remove_files-clause-torn g c =
    let relseg = c.args.relseg in
    let fork = c.args.fork.now in
    let end : c.saturating_add-end.result ≡ min (c.args.count / relseg + 1) 4294967295 = omega (arith, c.saturating_add-end.ensures, c.file_of.ensures.value) in
    err_is (TearsRemoval g.V.Vault relseg c.args.count fork c.args.self.now c.remove_files.new.self) c.from_residual.result (λ s held e.
    removal_torn_before relseg (g.V.Vault.files c.remove_files.new.self) (g.V.Vault.files c.remove_files.new.self) s fork
    (c.in_err-remove_files.ensures.torn s held (has_files relseg (g.V.Vault.files c.args.self.now) s fork c.args.count c.saturating_add-end.result c.file_of.ensures.range.least held e end)))

pub returns-clause-gone : goal.returns-clause-gone
returns-clause-gone g c =
    let relseg = c.args.relseg in
    let fork = c.args.fork.now in
    let end : c.saturating_add-end.result ≡ min (c.args.count / relseg + 1) 4294967295 = omega (arith, c.saturating_add-end.ensures, c.file_of.ensures.value) in
    on_ok_weaker c.remove_first.result (λ removes s held e.
    removal_done relseg (g.V.Vault.files c.remove_files.new.self) (g.V.Vault.files c.remove_first.new.self) s fork
    (c.in_ok-remove_files.ensures.gone s held (has_files relseg (g.V.Vault.files c.args.self.now) s fork c.args.count c.saturating_add-end.result c.file_of.ensures.range.least held e end))
    removes)
    c.remove_first.ensures.gone

pub returns-clause-torn : goal.returns-clause-torn
returns-clause-torn g c =
    let relseg = c.args.relseg in
    let fork = c.args.fork.now in
    let end : c.saturating_add-end.result ≡ min (c.args.count / relseg + 1) 4294967295 = omega (arith, c.saturating_add-end.ensures, c.file_of.ensures.value) in
    on_err_weaker c.remove_first.result (λ leaves s held e.
    removal_torn_last relseg (g.V.Vault.files c.remove_files.new.self) (g.V.Vault.files c.remove_first.new.self) s fork
    (c.in_ok-remove_files.ensures.gone s held (has_files relseg (g.V.Vault.files c.args.self.now) s fork c.args.count c.saturating_add-end.result c.file_of.ensures.range.least held e end))
    leaves)
    c.remove_first.ensures.torn

pub returns-clause-frame : goal.returns-clause-frame
returns-clause-frame g c = changes_on g.V.Vault IsForkPath c.args.self.now c.remove_files.new.self c.remove_first.new.self c.in_ok-remove_files.ensures.frame c.remove_first.ensures.frame

pub returns-in_err-remove_files-clause-events : goal.returns-in_err-remove_files-clause-events
returns-in_err-remove_files-clause-events g c =
    from_earlier c.args.fork.now 0 1 (g.V.Vault.past c.args.self.now) (g.V.Vault.past c.remove_files.new.self) (omega arith) c.in_err-remove_files.ensures.events

pub returns-clause-events : goal.returns-clause-events
returns-clause-events g c =
    adds_on (IsFileRemoval c.args.fork.now 0) (g.V.Vault.past c.args.self.now) (g.V.Vault.past c.remove_files.new.self) (g.V.Vault.past c.remove_first.new.self)
    (from_earlier c.args.fork.now 0 1 (g.V.Vault.past c.args.self.now) (g.V.Vault.past c.remove_files.new.self) (omega arith) c.in_ok-remove_files.ensures.events)
    c.remove_first.ensures.events
