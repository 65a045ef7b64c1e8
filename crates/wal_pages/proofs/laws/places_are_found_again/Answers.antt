use Rattle.wal_pages.proofs.Splits.{flat_place, place_flat, place_behind, place_rises}
use Rattle.wal_pages.proofs.laws.places_are_found_again.Goals as goal

pub returns-clause-again : goal.returns-clause-again
returns-clause-again c = flat_place

pub returns-clause-back : goal.returns-clause-back
returns-clause-back c = place_flat

pub returns-clause-behind : goal.returns-clause-behind
returns-clause-behind c = place_behind

pub returns-clause-rise : goal.returns-clause-rise
returns-clause-rise c = place_rises
