use Rattle.std.proofs.Common.{◌≡◌, ◌≤◌, ℕ, List, length}
use Rattle.vault_os.specs.Reading.{HoldsSoFar}
use Rattle.vault_os.proofs.reading.fill.Given as goal

abbrev pub invariant-loop : goal.invariant-loop
invariant-loop g l = record {
  within : l.count ≤ length l.into;
  same : length l.into ≡ length l.fn.into;
  held : (path : List ℕ) → g.S.System.is_at l.fn.system l.fn.file path → HoldsSoFar (g.S.System.files l.fn.system) path l.fn.at l.fn.into l.into l.count;
}
