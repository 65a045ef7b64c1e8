use Rattle.std.proofs.Common.{◌≡◌}
use Rattle.std.specs.Vec.Iter.{into_iter_items}
use Rattle.chain_listing.specs.Listing.{nothing, listing_in}
use Rattle.chain_listing.proofs.listing.listing_in.Given as goal

-- what is listed so far, and the folders that are still to come
abbrev pub invariant-loop-folder : goal.invariant-loop-folder
invariant-loop-folder l = record { listing : listing_in l.listing (into_iter_items l.folder-iterator) ≡ listing_in nothing l.fn.folders.items }
