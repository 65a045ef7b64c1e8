use Rattle.std.proofs.Common.{string_bytes, subst, sym, List, ℕ, Some}
use Rattle.vault_os.specs.Paths.{LeadsTo}
use Rattle.vault_os.proofs.Below.{made_told}
use Rattle.vault_os.proofs.Held.{some_path}
use Rattle.vault_os.proofs.writing.open_to_write.Goals as goal

pub returns-in_err-file-clause-made : goal.returns-in_err-file-clause-made
returns-in_err-file-clause-made g c =
    let root = string_bytes c.args.root.now.path in
    let name = c.args.name.now in
    let leads : LeadsTo root name (Some (string_bytes c.in-Some.path)) = some_path string_bytes root name c.in_ok-path.field-0 c.in-Some.path c.in-Some.is c.in_ok-path.ensures in
    let here : LeadsTo root name (Some c.as_str-2.result.now) = subst (λ (p : List ℕ). LeadsTo root name (Some p)) (sym c.as_str-2.ensures.value) leads in
    made_told root name c.as_str-2.result.now here (g.S.System.files c.args.system.now) (g.S.System.files c.make_at.new.system) c.make_at.result c.make_at.ensures.made c.make_at.ensures.failed

pub returns-in_err-name-clause-made : goal.returns-in_err-name-clause-made
returns-in_err-name-clause-made g c =
    let root = string_bytes c.args.root.now.path in
    let name = c.args.name.now in
    let leads : LeadsTo root name (Some (string_bytes c.in-Some.path)) = some_path string_bytes root name c.in_ok-path.field-0 c.in-Some.path c.in-Some.is c.in_ok-path.ensures in
    let here : LeadsTo root name (Some c.as_str-2.result.now) = subst (λ (p : List ℕ). LeadsTo root name (Some p)) (sym c.as_str-2.ensures.value) leads in
    made_told root name c.as_str-2.result.now here (g.S.System.files c.args.system.now) (g.S.System.files c.make_at.new.system) c.make_at.result c.make_at.ensures.made c.make_at.ensures.failed

pub returns-clause-made : goal.returns-clause-made
returns-clause-made g c =
    let root = string_bytes c.args.root.now.path in
    let name = c.args.name.now in
    let leads : LeadsTo root name (Some (string_bytes c.in-Some.path)) = some_path string_bytes root name c.in_ok-path.field-0 c.in-Some.path c.in-Some.is c.in_ok-path.ensures in
    let here : LeadsTo root name (Some c.as_str-2.result.now) = subst (λ (p : List ℕ). LeadsTo root name (Some p)) (sym c.as_str-2.ensures.value) leads in
    made_told root name c.as_str-2.result.now here (g.S.System.files c.args.system.now) (g.S.System.files c.make_at.new.system) c.make_at.result c.make_at.ensures.made c.make_at.ensures.failed
