use Rattle.std.proofs.Common.{◌≡◌, take, option_map}
use Rattle.vault.specs.Frame.{ChangesOnly}
use Rattle.data_areas.specs.Marking.{IsOther}
use Rattle.data_areas.specs.Inside.{without_others}
use Rattle.data_areas.proofs.marking.clear_marked.Given as goal

abbrev pub invariant-loop-name : goal.invariant-loop-name
invariant-loop-name g l = record {
  files : g.V.Vault.files l.area ≡ option_map (λ m. without_others (take l.name-index l.name-items) m) (g.V.Vault.files l.fn.area);
  changes : ChangesOnly g.V.Vault IsOther l.fn.area l.area;
}
