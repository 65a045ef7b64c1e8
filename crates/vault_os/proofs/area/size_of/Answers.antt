use Rattle.std.proofs.Common.{string_bytes, subst, sym, List, ℕ, Some}
use Rattle.vault_os.specs.Paths.{LeadsTo}
use Rattle.vault_os.proofs.Below.{size_result, bad_size, no_path}
use Rattle.vault_os.proofs.Held.{some_path}
use Rattle.vault_os.proofs.area.size_of.Goals as goal

pub returns : goal.returns
returns c = λ c'.
    let root = string_bytes c'.args.root.now.path in
    let name = c'.args.name.now in
    let leads : LeadsTo root name (Some (string_bytes c'.in-Some.path)) = some_path string_bytes root name c'.in_ok-path.field-0 c'.in-Some.path c'.in-Some.is c'.in_ok-path.ensures in
    let here : LeadsTo root name (Some c'.as_str.result.now) = subst (λ (p : List ℕ). LeadsTo root name (Some p)) (sym c'.as_str.ensures.value) leads in
    size_result root name c'.as_str.result.now (c.S.System.files c'.args.system.now) c'.size_at.result here c'.size_at.ensures

pub returns-in_default : goal.returns-in_default
returns-in_default g c = bad_size _ _ _ (no_path string_bytes _ _ c.in_ok-path.field-0 c.in_default.not-Some c.in_ok-path.ensures)
