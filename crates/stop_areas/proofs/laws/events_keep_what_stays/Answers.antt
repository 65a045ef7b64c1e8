use Rattle.stop_areas.proofs.Kept.{stops_keep_pages}
use Rattle.stop_areas.proofs.laws.events_keep_what_stays.Goals as goal

pub returns : goal.returns
returns c = stops_keep_pages
