use Rattle.std.proofs.Common.{refl, ◌∙◌}
use Rattle.vault.proofs.Through.{adds_none}
use Rattle.rel_files.specs.Events.{IsFileRemoval}
use Rattle.rel_files.proofs.Events.{removal_added}
use Rattle.rel_files.proofs.FileCalls.{one_removed, one_left}
use Rattle.rel_files.proofs.ForkFrames.{removal_changes}
use Rattle.rel_files.proofs.one_file.AnyOneFile.remove_first.Goals as goal

pub returns-clause-gone : goal.returns-clause-gone
returns-clause-gone g c =
    one_removed c.args.relseg (g.V.Vault.files c.args.self.now) (g.V.Vault.files c.remove.new.self) c.args.fork.now c.as_bytes.result.now c.remove.result c.blocks-some.ensures.range.least
    c.segment_path.ensures.named (c.as_bytes.ensures ∙ c.in_ok-path.ensures.path) c.remove.ensures.removed

pub returns-clause-torn : goal.returns-clause-torn
returns-clause-torn g c =
    one_left c.args.relseg (g.V.Vault.files c.args.self.now) (g.V.Vault.files c.remove.new.self) c.args.fork.now c.as_bytes.result.now c.remove.result c.blocks-some.ensures.range.least
    c.segment_path.ensures.named (c.as_bytes.ensures ∙ c.in_ok-path.ensures.path) c.remove.ensures.memory c.remove.ensures.failed

pub returns-clause-frame : goal.returns-clause-frame
returns-clause-frame g c =
    let e = c.remove.ensures in
    removal_changes g.V.Vault c.as_bytes.result.now c.args.self.now c.remove.new.self c.remove.result
    (record { fork = c.args.fork.now; seg = 0; named = c.segment_path.ensures.named; path_is = c.as_bytes.ensures ∙ c.in_ok-path.ensures.path })
    e.removed e.memory e.failed e.noted e.tried e.cause.later

pub returns-in_err-path-clause-events : goal.returns-in_err-path-clause-events
returns-in_err-path-clause-events g c = adds_none (IsFileRemoval c.args.fork.now 0) (g.V.Vault.past c.args.self.now) (g.V.Vault.past c.args.self.now) refl

pub returns-clause-events : goal.returns-clause-events
returns-clause-events g c =
    removal_added c.args.fork.now 0 c.as_bytes.result.now (g.V.Vault.past c.args.self.now) (g.V.Vault.past c.remove.new.self) c.remove.result
    c.segment_path.ensures.named (c.as_bytes.ensures ∙ c.in_ok-path.ensures.path) c.remove.ensures.noted c.remove.ensures.tried
