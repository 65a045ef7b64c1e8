use Rattle.std.proofs.Common.{string_bytes, subst, sym, List, ℕ, option_map, ◌≡◌, Some}
use Rattle.vault.specs.Area.{after_remove, Removes, Related, IsUndecided}
use Rattle.vault_os.specs.Open.{Folder}
use Rattle.vault_os.specs.Paths.{told_in, LeadsTo}
use Rattle.vault_os.proofs.Common.{ok_of, passed_on, failed_of}
use Rattle.vault_os.proofs.Below.{no_path, remove_told, may_remove_told, no_remove}
use Rattle.vault_os.proofs.Held.{some_path}
use Rattle.vault_os.proofs.Kept.{none_kept}
use Rattle.vault_os.proofs.area.OsVaultVault.remove.Goals as goal

pub returns-in_default-clause-removed : goal.returns-in_default-clause-removed
returns-in_default-clause-removed g c =
    subst (λ (v : Folder _). told_in (string_bytes c.self.inside.root.path) (g.S.System.files c.self.inside.system) ≡ option_map (after_remove c.args.name.now) (told_in v.path (g.S.System.files v.system))) c.self.view_is
    (no_remove (string_bytes c.self.inside.root.path) c.args.name.now (g.S.System.files c.self.inside.system) (no_path string_bytes _ _ c.in_ok-path.field-0 c.in_default.not-Some (ok_of _ c.path_to_change-path.result _ c.in_ok-path.ensures.told c.path_to_change-path.ensures.path)))

pub returns-clause-removed : goal.returns-clause-removed
returns-clause-removed g c =
    let root = string_bytes c.self.inside.root.path in
    let name = c.args.name.now in
    let leads : LeadsTo root name (Some (string_bytes c.in-Some.path)) = some_path string_bytes root name c.in_ok-path.field-0 c.in-Some.path c.in-Some.is (ok_of _ c.path_to_change-path.result _ c.in_ok-path.ensures.told c.path_to_change-path.ensures.path) in
    let here : LeadsTo root name (Some c.as_str.result.now) = subst (λ (p : List ℕ). LeadsTo root name (Some p)) (sym c.as_str.ensures.value) leads in
    subst (λ (v : Folder _). Removes name (told_in v.path (g.S.System.files v.system)) (told_in root (g.S.System.files c.remove_at-removed.new.system)) c.done.result) c.self.view_is
    (passed_on _ c.remove_at-removed.result c.done.result c.done.ensures.told (remove_told root name c.as_str.result.now here (g.S.System.files c.self.inside.system) (g.S.System.files c.remove_at-removed.new.system) c.remove_at-removed.result c.remove_at-removed.ensures.removed))

pub returns-clause-failed : goal.returns-clause-failed
returns-clause-failed g c = λ e.
    let root = string_bytes c.self.inside.root.path in
    let name = c.args.name.now in
    let leads : LeadsTo root name (Some (string_bytes c.in-Some.path)) = some_path string_bytes root name c.in_ok-path.field-0 c.in-Some.path c.in-Some.is (ok_of _ c.path_to_change-path.result _ c.in_ok-path.ensures.told c.path_to_change-path.ensures.path) in
    let here : LeadsTo root name (Some c.as_str.result.now) = subst (λ (p : List ℕ). LeadsTo root name (Some p)) (sym c.as_str.ensures.value) leads in
    subst (λ (v : Folder _). Related (IsUndecided (after_remove name)) (told_in v.path (g.S.System.files v.system)) (told_in root (g.S.System.files c.remove_at-removed.new.system))) c.self.view_is
    (may_remove_told root name c.as_str.result.now here (g.S.System.files c.self.inside.system) (g.S.System.files c.remove_at-removed.new.system) (failed_of _ c.remove_at-removed.result c.done.result c.done.ensures.value c.remove_at-removed.ensures.failed e))

pub invariant_of-self-2 : goal.invariant_of-self-2
invariant_of-self-2 g c = none_kept (g.S.System.is_at c.remove_at-removed.new.system) (string_bytes c.self.inside.root.path) c.close.new.self c.close.ensures.read c.close.ensures.written
