use Rattle.std.proofs.Common.{◌≡◌, ◌≤◌, length, IfSome}
use Rattle.std.specs.List.{AllByRecursion}
use Rattle.chain_files.specs.Told.{chain_told, AllOnlyRead}
use Rattle.chain_files.specs.Inside.{HasPart, AreSaid}
use Rattle.chain_files.proofs.mapping.settle_all.Given as goal

-- the members from here on were asked
abbrev pub invariant-loop-left : goal.invariant-loop-left
invariant-loop-left g l = record {
  within : l.left ≤ l.count;
  said : IfSome (chain_told g.V.Vault l.fn.areas l.places) (λ chain. AllByRecursion (HasPart l.paths) chain → AreSaid chain l.paths l.count l.fn.slots → AreSaid chain l.paths l.left l.slots);
  kept : length l.slots ≡ length l.fn.slots;
  reads : AllOnlyRead g.V.Vault l.fn.areas l.areas;
}

abbrev pub decreases-loop-left : goal.decreases-loop-left
decreases-loop-left g l = l.left
