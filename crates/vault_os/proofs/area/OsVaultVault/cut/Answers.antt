use Rattle.std.proofs.Common.{string_bytes, subst, sym, List, ℕ, option_map, ◌≡◌, Some}
use Rattle.vault.specs.Area.{after_cut, Cuts, Related, IsUndecided}
use Rattle.vault_os.specs.Open.{Folder}
use Rattle.vault_os.specs.Paths.{told_in, LeadsTo}
use Rattle.vault_os.proofs.Common.{ok_of, passed_on, failed_of}
use Rattle.vault_os.proofs.Below.{no_path, cut_told, may_cut_told, no_cut}
use Rattle.vault_os.proofs.Held.{some_path}
use Rattle.vault_os.proofs.area.OsVaultVault.cut.Goals as goal

pub returns-in_default-clause-cut : goal.returns-in_default-clause-cut
returns-in_default-clause-cut g c =
    subst (λ (v : Folder _). told_in (string_bytes c.self.inside.root.path) (g.S.System.files c.self.inside.system) ≡ option_map (after_cut c.args.name.now c.args.size) (told_in v.path (g.S.System.files v.system))) c.self.view_is
    (no_cut (string_bytes c.self.inside.root.path) c.args.name.now c.args.size (g.S.System.files c.self.inside.system) (no_path string_bytes _ _ c.in_ok-path.field-0 c.in_default.not-Some (ok_of _ c.path_to_change-path.result _ c.in_ok-path.ensures.told c.path_to_change-path.ensures.path)))

pub returns-clause-cut : goal.returns-clause-cut
returns-clause-cut g c =
    let root = string_bytes c.self.inside.root.path in
    let name = c.args.name.now in
    let leads : LeadsTo root name (Some (string_bytes c.in-Some.path)) = some_path string_bytes root name c.in_ok-path.field-0 c.in-Some.path c.in-Some.is (ok_of _ c.path_to_change-path.result _ c.in_ok-path.ensures.told c.path_to_change-path.ensures.path) in
    let here : LeadsTo root name (Some c.as_str.result.now) = subst (λ (p : List ℕ). LeadsTo root name (Some p)) (sym c.as_str.ensures.value) leads in
    subst (λ (v : Folder _). Cuts name c.args.size (told_in v.path (g.S.System.files v.system)) (told_in root (g.S.System.files c.cut_at-cut.new.system)) c.done.result) c.self.view_is
    (passed_on _ c.cut_at-cut.result c.done.result c.done.ensures.told (cut_told root name c.as_str.result.now here c.args.size (g.S.System.files c.self.inside.system) (g.S.System.files c.cut_at-cut.new.system) c.cut_at-cut.result c.cut_at-cut.ensures.cut))

pub returns-clause-failed : goal.returns-clause-failed
returns-clause-failed g c = λ e.
    let root = string_bytes c.self.inside.root.path in
    let name = c.args.name.now in
    let leads : LeadsTo root name (Some (string_bytes c.in-Some.path)) = some_path string_bytes root name c.in_ok-path.field-0 c.in-Some.path c.in-Some.is (ok_of _ c.path_to_change-path.result _ c.in_ok-path.ensures.told c.path_to_change-path.ensures.path) in
    let here : LeadsTo root name (Some c.as_str.result.now) = subst (λ (p : List ℕ). LeadsTo root name (Some p)) (sym c.as_str.ensures.value) leads in
    subst (λ (v : Folder _). Related (IsUndecided (after_cut name c.args.size)) (told_in v.path (g.S.System.files v.system)) (told_in root (g.S.System.files c.cut_at-cut.new.system))) c.self.view_is
    (may_cut_told root name c.as_str.result.now here c.args.size (g.S.System.files c.self.inside.system) (g.S.System.files c.cut_at-cut.new.system) (failed_of _ c.cut_at-cut.result c.done.result c.done.ensures.value c.cut_at-cut.ensures.failed e))
