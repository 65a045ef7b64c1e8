use Rattle.std.proofs.Common.{◌≡◌, ◌≤◌, length, take}
use Rattle.chain_files.specs.Segments.{forms_at}
use Rattle.chain_files.specs.Sources.{OfChain}
use Rattle.chain_files.specs.Told.{chain_told, ArePlaces, AllOnlyRead}
use Rattle.series_files.specs.Inside.{Leaves}
use Rattle.series_files.proofs.joining.ask.Given as goal

-- the members from here on were asked
abbrev pub invariant-loop-left : goal.invariant-loop-left
invariant-loop-left g l = record {
  within : l.left ≤ length l.places;
  places : ArePlaces (length l.areas) l.places;
  asked : OfChain (chain_told g.V.Vault l.fn.areas l.places) (λ chain. Leaves (forms_at chain l.folder l.name) (forms_at chain l.folder l.name) l.fn.answered → Leaves (forms_at chain l.folder l.name) (forms_at (take l.left chain) l.folder l.name) l.answered);
  long : length l.answered.had.items ≡ length l.fn.answered.had.items;
  least : l.answered.least ≤ l.fn.answered.least;
  reads : AllOnlyRead g.V.Vault l.fn.areas l.areas;
}

abbrev pub decreases-loop-left : goal.decreases-loop-left
decreases-loop-left g l = l.left
