use Rattle.std.proofs.Common.{[], refl, inl, ◌∙◌}
use Rattle.rel_files.proofs.FileCalls.{fork_made, make_torn, err_is}
use Rattle.rel_files.proofs.ForkFrames.{write_changes}
use Rattle.vault.proofs.Through.{adds_none}
use Rattle.rel_files.specs.Events.{IsMake}
use Rattle.rel_files.proofs.Events.{make_added}
use Rattle.rel_files.proofs.one_file.AnyOneFile.make_first.Goals as goal

pub returns-in_err-path-clause-torn : goal.returns-in_err-path-clause-torn
returns-in_err-path-clause-torn g c = err_is _ c.from_residual.result (λ s held none. (s, (held, inl refl)))

pub returns-clause-made : goal.returns-clause-made
returns-clause-made g c =
    fork_made c.args.relseg (g.V.Vault.files c.args.self.now) (g.V.Vault.files c.write_at.new.self) c.args.fork.now c.as_bytes.result.now c.write_at.result c.blocks-some.ensures.range.least
    c.segment_path.ensures.named (c.as_bytes.ensures ∙ c.in_ok-path.ensures.path) c.write_at.ensures.written

pub returns-clause-torn : goal.returns-clause-torn
returns-clause-torn g c =
    make_torn c.args.relseg (g.V.Vault.files c.args.self.now) (g.V.Vault.files c.write_at.new.self) c.args.fork.now c.as_bytes.result.now c.write_at.result c.blocks-some.ensures.range.least
    c.segment_path.ensures.named (c.as_bytes.ensures ∙ c.in_ok-path.ensures.path) c.write_at.ensures.memory c.write_at.ensures.failed

pub returns-clause-frame : goal.returns-clause-frame
returns-clause-frame g c =
    let e = c.write_at.ensures in
    write_changes g.V.Vault c.as_bytes.result.now 0 [] c.args.self.now c.write_at.new.self c.write_at.result
    (record { fork = c.args.fork.now; seg = 0; named = c.segment_path.ensures.named; path_is = c.as_bytes.ensures ∙ c.in_ok-path.ensures.path })
    e.written e.memory e.failed e.noted e.tried e.cause.later

pub returns-in_err-path-clause-events : goal.returns-in_err-path-clause-events
returns-in_err-path-clause-events g c = adds_none (IsMake c.args.fork.now) (g.V.Vault.past c.args.self.now) (g.V.Vault.past c.args.self.now) refl

pub returns-clause-events : goal.returns-clause-events
returns-clause-events g c =
    make_added c.args.fork.now c.as_bytes.result.now (g.V.Vault.past c.args.self.now) (g.V.Vault.past c.write_at.new.self) c.write_at.result
    c.segment_path.ensures.named (c.as_bytes.ensures ∙ c.in_ok-path.ensures.path) c.write_at.ensures.noted c.write_at.ensures.tried
