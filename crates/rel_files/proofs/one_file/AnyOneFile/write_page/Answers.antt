use Rattle.std.proofs.Common.{rules, refl, ◌≡◌, ℕ, ◌/◌, length, false, subst, ap, ◌∙◌}
use Rattle.lsn_core.specs.Names.{fork_path_bytes, IsNamed}
use Rattle.rel_files.proofs.FileCalls.{page_written, page_torn, err_is}
use Rattle.rel_files.proofs.TornPuts.{none_is_torn}
use Rattle.rel_files.proofs.ForkFrames.{write_changes}
use Rattle.vault.proofs.Through.{adds_none}
use Rattle.rel_files.specs.Events.{IsPageWrite}
use Rattle.rel_files.proofs.Events.{page_added}
use Rattle.rel_files.proofs.one_file.AnyOneFile.write_page.Goals as goal

pub returns-in_err-path-clause-torn : goal.returns-in_err-path-clause-torn
returns-in_err-path-clause-torn g c = err_is _ c.from_residual.result (λ s held within. (s, (held, none_is_torn s c.args.at.now.fork c.args.at.now.block)))

pub returns-clause-put : goal.returns-clause-put
returns-clause-put g c =
    let size : length c.args.from.now ≡ 8192 = search rules in
    let fork = c.args.at.now.fork in
    let is : c.as_bytes.result.now ≡ fork_path_bytes fork (c.args.at.now.block / c.args.relseg) false = c.as_bytes.ensures ∙ c.in_ok-path.ensures.path ∙ ap (λ (n : ℕ). fork_path_bytes fork n false) c.file_of.ensures.value in
    page_written c.args.relseg (g.V.Vault.files c.args.self.now) (g.V.Vault.files c.write_at.new.self) c.args.at.now c.args.from.now c.as_bytes.result.now c.place_of.result c.write_at.result c.file_of.ensures.range.least
    (subst (IsNamed fork) c.file_of.ensures.value c.segment_path.ensures.named) is c.place_of.ensures c.requires size c.write_at.ensures.written

pub returns-clause-torn : goal.returns-clause-torn
returns-clause-torn g c =
    let size : length c.args.from.now ≡ 8192 = search rules in
    let fork = c.args.at.now.fork in
    let is : c.as_bytes.result.now ≡ fork_path_bytes fork (c.args.at.now.block / c.args.relseg) false = c.as_bytes.ensures ∙ c.in_ok-path.ensures.path ∙ ap (λ (n : ℕ). fork_path_bytes fork n false) c.file_of.ensures.value in
    page_torn c.args.relseg (g.V.Vault.files c.args.self.now) (g.V.Vault.files c.write_at.new.self) c.args.at.now c.args.from.now c.as_bytes.result.now c.place_of.result c.write_at.result c.file_of.ensures.range.least
    (subst (IsNamed fork) c.file_of.ensures.value c.segment_path.ensures.named) is c.place_of.ensures c.requires size c.write_at.ensures.memory c.write_at.ensures.failed

pub returns-clause-frame : goal.returns-clause-frame
returns-clause-frame g c =
    let e = c.write_at.ensures in
    write_changes g.V.Vault c.as_bytes.result.now c.place_of.result c.args.from.now c.args.self.now c.write_at.new.self c.write_at.result
    (record { fork = c.args.at.now.fork; seg = c.file_of.result; named = c.segment_path.ensures.named; path_is = c.as_bytes.ensures ∙ c.in_ok-path.ensures.path })
    e.written e.memory e.failed e.noted e.tried e.cause.later

pub returns-in_err-path-clause-events : goal.returns-in_err-path-clause-events
returns-in_err-path-clause-events g c = adds_none (IsPageWrite c.args.relseg c.args.at.now.fork c.args.at.now.block) (g.V.Vault.past c.args.self.now) (g.V.Vault.past c.args.self.now) refl

pub returns-clause-events : goal.returns-clause-events
returns-clause-events g c =
    let size : length c.args.from.now ≡ 8192 = search rules in
    let fork = c.args.at.now.fork in
    let is : c.as_bytes.result.now ≡ fork_path_bytes fork (c.args.at.now.block / c.args.relseg) false = c.as_bytes.ensures ∙ c.in_ok-path.ensures.path ∙ ap (λ (n : ℕ). fork_path_bytes fork n false) c.file_of.ensures.value in
    page_added c.args.relseg fork c.args.at.now.block c.args.from.now c.as_bytes.result.now c.place_of.result (g.V.Vault.past c.args.self.now) (g.V.Vault.past c.write_at.new.self) c.write_at.result
    (subst (IsNamed fork) c.file_of.ensures.value c.segment_path.ensures.named) size is c.place_of.ensures c.write_at.ensures.noted c.write_at.ensures.tried
