use Rattle.std.proofs.Common.{◌≡◌, take, option_map}
use Rattle.vault.specs.Frame.{ChangesOnly}
use Rattle.rel_files.specs.Forks.{IsForkPath}
use Rattle.rel_neat.specs.Neat.{KeepsWhatStays}
use Rattle.rel_neat.specs.Segments.{all_neatened}
use Rattle.rel_neat.proofs.neat.neaten.Given as goal

abbrev pub invariant-loop-segment : goal.invariant-loop-segment
invariant-loop-segment g l = record {
  files : g.V.Vault.files l.area ≡ option_map (all_neatened l.relseg (take l.segment-index l.segment-items)) (g.V.Vault.files l.fn.area);
  keeps : KeepsWhatStays g.V.Vault l.relseg l.fn.area l.area;
  changes : ChangesOnly g.V.Vault IsForkPath l.fn.area l.area;
}
