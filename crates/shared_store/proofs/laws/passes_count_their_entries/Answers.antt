use Rattle.shared_store.proofs.Sums.{just_counted}
use Rattle.shared_store.proofs.laws.passes_count_their_entries.Goals as goal

pub returns : goal.returns
returns c = just_counted
