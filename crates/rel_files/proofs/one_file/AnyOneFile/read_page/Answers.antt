use Rattle.std.proofs.Common.{rules, ◌≡◌, ℕ, ◌/◌, length, false, ap, ◌∙◌}
use Rattle.lsn_core.specs.Names.{fork_path_bytes}
use Rattle.rel_files.proofs.Lengths.{page_answer}
use Rattle.rel_files.proofs.one_file.AnyOneFile.read_page.Goals as goal

pub returns-clause-read : goal.returns-clause-read
returns-clause-read g c s held within =
    let size : length c.args.into.now ≡ 8192 = search rules in
    let is : c.as_bytes.result.now ≡ fork_path_bytes c.args.at.now.fork (c.args.at.now.block / c.args.relseg) false = c.as_bytes.ensures ∙ c.in_ok-path.ensures.path ∙ ap (λ (n : ℕ). fork_path_bytes c.args.at.now.fork n false) c.file_of.ensures.value in
    page_answer c.args.relseg (g.V.Vault.files c.args.self.now) s c.args.at.now c.args.into.now c.read_at.new.into c.as_bytes.result.now c.place_of.result c.in_ok-count.count c.file_of.ensures.range.least held within size is c.place_of.ensures c.in_ok-count.ensures.read
