use Rattle.std.proofs.Common.{◌≡◌, ◌≤◌, take, option_map}
use Rattle.data_areas.specs.Inside.{without}
use Rattle.data_areas.specs.Moments.{GoesOn}
use Rattle.data_areas.proofs.marking.clear_area.Given as goal

abbrev pub invariant-loop-name : goal.invariant-loop-name
invariant-loop-name g l = record {
  files : g.V.Vault.files l.area ≡ option_map (λ m. without (take l.name-index l.name-items) m) (g.V.Vault.files l.fn.area);
  on : GoesOn (g.V.Vault.past l.fn.area) (g.V.Vault.past l.area);
  later : g.V.Vault.faults l.fn.area ≤ g.V.Vault.faults l.area;
}
