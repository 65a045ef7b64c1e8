use Rattle.std.proofs.Common.{refl, subst, ◌≡◌, ℕ, ◌-◌, ◌*◌, false, ap, ◌∙◌}
use Rattle.lsn_core.specs.Names.{fork_path_bytes, IsNamed}
use Rattle.rel_files.specs.Inside.{last_file}
use Rattle.rel_files.proofs.FileCalls.{file_cut, cut_left}
use Rattle.rel_files.proofs.ForkFrames.{cut_changes}
use Rattle.vault.proofs.Through.{adds_none}
use Rattle.rel_files.specs.Events.{IsFileCut}
use Rattle.rel_files.proofs.FileCalls.{is_left}
use Rattle.rel_files.proofs.Events.{cut_added}
use Rattle.rel_files.proofs.one_file.AnyOneFile.cut_last.Goals as goal

place : (left relseg seg a b d : ℕ) → a ≡ seg → b ≡ relseg → d ≡ left → (d - a * b) * 8192 ≡ (left - seg * relseg) * 8192
place left relseg seg a b d e f h = ap (λ (n : ℕ). (n - a * b) * 8192) h ∙ ap (λ (n : ℕ). (left - n * b) * 8192) e ∙ ap (λ (n : ℕ). (left - seg * n) * 8192) f

pub returns-clause-cut : goal.returns-clause-cut
returns-clause-cut g c =
    let relseg = c.args.relseg in
    let is : c.as_bytes.result.now ≡ fork_path_bytes c.args.fork.now (last_file relseg c.args.left) false = c.as_bytes.ensures ∙ c.in_ok-path.ensures.path ∙ ap (λ (n : ℕ). fork_path_bytes c.args.fork.now n false) c.last_file-seg.ensures in
    file_cut relseg (g.V.Vault.files c.args.self.now) (g.V.Vault.files c.cut.new.self) c.args.fork.now c.args.left ((c.from-3.result - c.from.result * c.from-2.result) * 8192) c.as_bytes.result.now c.cut.result c.blocks-2.ensures.range.least
    is (place c.args.left relseg (last_file relseg c.args.left) c.from.result c.from-2.result c.from-3.result (c.from.ensures ∙ c.last_file-seg.ensures) (c.from-2.ensures ∙ c.blocks-2.ensures.value) c.from-3.ensures) c.cut.ensures.cut

pub returns-clause-torn : goal.returns-clause-torn
returns-clause-torn g c =
    let relseg = c.args.relseg in
    let is : c.as_bytes.result.now ≡ fork_path_bytes c.args.fork.now (last_file relseg c.args.left) false = c.as_bytes.ensures ∙ c.in_ok-path.ensures.path ∙ ap (λ (n : ℕ). fork_path_bytes c.args.fork.now n false) c.last_file-seg.ensures in
    cut_left relseg (g.V.Vault.files c.args.self.now) (g.V.Vault.files c.cut.new.self) c.args.fork.now c.args.left ((c.from-3.result - c.from.result * c.from-2.result) * 8192) c.as_bytes.result.now c.cut.result c.blocks-2.ensures.range.least
    is (place c.args.left relseg (last_file relseg c.args.left) c.from.result c.from-2.result c.from-3.result (c.from.ensures ∙ c.last_file-seg.ensures) (c.from-2.ensures ∙ c.blocks-2.ensures.value) c.from-3.ensures) c.cut.ensures.memory c.cut.ensures.failed

pub returns-clause-frame : goal.returns-clause-frame
returns-clause-frame g c =
    let e = c.cut.ensures in
    cut_changes g.V.Vault c.as_bytes.result.now ((c.from-3.result - c.from.result * c.from-2.result) * 8192) c.args.self.now c.cut.new.self c.cut.result
    (record { fork = c.args.fork.now; seg = c.last_file-seg.result; named = c.segment_path.ensures.named; path_is = c.as_bytes.ensures ∙ c.in_ok-path.ensures.path })
    e.cut e.memory e.failed e.noted e.tried e.cause.later

pub returns-in_err-path-clause-events : goal.returns-in_err-path-clause-events
returns-in_err-path-clause-events g c = adds_none (IsFileCut c.args.relseg c.args.fork.now c.args.left) (g.V.Vault.past c.args.self.now) (g.V.Vault.past c.args.self.now) refl

pub returns-clause-events : goal.returns-clause-events
returns-clause-events g c =
    let relseg = c.args.relseg in
    let seg = last_file relseg c.args.left in
    let is : c.as_bytes.result.now ≡ fork_path_bytes c.args.fork.now seg false = c.as_bytes.ensures ∙ c.in_ok-path.ensures.path ∙ ap (λ (n : ℕ). fork_path_bytes c.args.fork.now n false) c.last_file-seg.ensures in
    cut_added relseg c.args.fork.now c.args.left seg ((c.from-3.result - c.from.result * c.from-2.result) * 8192) c.as_bytes.result.now (g.V.Vault.past c.args.self.now) (g.V.Vault.past c.cut.new.self) c.cut.result
    (subst (IsNamed c.args.fork.now) c.last_file-seg.ensures c.segment_path.ensures.named) (is_left relseg c.args.left c.blocks-2.ensures.range.least).here
    is (place c.args.left relseg seg c.from.result c.from-2.result c.from-3.result (c.from.ensures ∙ c.last_file-seg.ensures) (c.from-2.ensures ∙ c.blocks-2.ensures.value) c.from-3.ensures) c.cut.ensures.noted c.cut.ensures.tried
