use Rattle.std.proofs.Common.{◌≡◌, ◌≤◌, take, option_map}
use Rattle.command_base.proofs.Emptied.{without}
use Rattle.command_base.proofs.clear.empty_area.Given as goal

abbrev pub invariant-loop-name : goal.invariant-loop-name
invariant-loop-name g l = record {
  files : g.V.Vault.files l.area ≡ option_map (λ m. without (take l.name-index l.name-items) m) (g.V.Vault.files l.fn.area);
  later : g.V.Vault.faults l.fn.area ≤ g.V.Vault.faults l.area;
}
