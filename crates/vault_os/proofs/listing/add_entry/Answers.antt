use Rattle.std.proofs.Common.{string_bytes, subst, ◌∙◌, ap, List, ℕ}
use Rattle.vault_os.specs.Paths.{path_in}
use Rattle.vault_os.specs.Walk.{AddsEntry}
use Rattle.vault_os.proofs.Common.{ok_of, on_ok}
use Rattle.vault_os.proofs.Walks.{read_kind}
use Rattle.vault_os.proofs.listing.add_entry.Goals as goal

pub returns : goal.returns
returns g c =
    let root = string_bytes c.args.root.now.path in
    on_ok c.add.result
    (λ adds. read_kind root c.args.folder.now c.args.name.now c.as_str-2.result.now (g.S.System.files c.args.system.now) c.in_ok-kind.kind c.args.walk.now c.add.new.self
    (c.as_str-2.ensures.value ∙ c.in_ok-path.ensures ∙ ap (path_in root) (c.as_str.ensures.value ∙ c.in_ok-name.ensures))
    (ok_of _ c.stat-kind.result c.in_ok-kind.kind c.in_ok-kind.ensures.told c.stat-kind.ensures)
    (subst (λ (p : List ℕ). AddsEntry p c.in_ok-kind.kind c.args.walk.now c.add.new.self) c.in_ok-name.ensures adds))
    c.add.ensures
