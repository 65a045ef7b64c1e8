use Rattle.std.proofs.Common.{string_bytes, ◌≤◌, List, ℕ, subst}
use Rattle.vault.specs.Area.{IsSizeIn}
use Rattle.vault_os.proofs.Below.{no_path}
use Rattle.vault_os.proofs.Held.{none_bad, none_short, some_path}
use Rattle.vault_os.proofs.reading.open_from.Goals as goal

pub returns-in_default : goal.returns-in_default
returns-in_default g c = none_bad _ _ _ _ (no_path string_bytes _ _ c.in_ok-path.field-0 c.in_default.not-Some c.in_ok-path.ensures)

pub returns-then-unwrap_or-at : goal.returns-then-unwrap_or-at
returns-then-unwrap_or-at g c =
    none_short _ _ _ _ c.in_ok-size.size _ (some_path string_bytes _ _ c.in_ok-path.field-0 c.in-Some.path c.in-Some.is c.in_ok-path.ensures)
    (subst (λ (p : List ℕ). IsSizeIn (g.S.System.files c.args.system.now) p c.in_ok-size.size) c.as_str.ensures.value c.in_ok-size.ensures)
    (subst (λ (n : ℕ). n ≤ c.args.at) c.unwrap_or.ensures c.if-unwrap_or-at.true)
