use Rattle.std.proofs.Common.{◌≡◌, ◌++◌, All, map, length, IfSome}
use Rattle.vault.specs.Frame.{OnlyReads}
use Rattle.chain_listing.specs.Folders.{EntryShows}
use Rattle.chain_listing.proofs.reading.shown_in.Given as goal

-- the folders so far, and the names that are still to come
abbrev pub invariant-loop-name : goal.invariant-loop-name
invariant-loop-name g l = record {
  names : map (λ f. f.name) l.folders.items ++ l.left ≡ l.names;
  shown : IfSome (g.V.Vault.files l.fn.area) (λ m. All (EntryShows m) l.folders.items);
  reads : OnlyReads g.V.Vault l.fn.area l.area;
}

abbrev pub decreases-loop-name : goal.decreases-loop-name
decreases-loop-name g l = length l.left
