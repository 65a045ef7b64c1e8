use Rattle.wal_summary.proofs.Ranges.{covering_sums_up}
use Rattle.summary_store.proofs.Honest.{honest_kept}
use Rattle.summary_store.proofs.laws.honest_files_are_kept.Goals as goal

pub returns-clause-kept : goal.returns-clause-kept
returns-clause-kept c = honest_kept

pub returns-clause-covers : goal.returns-clause-covers
returns-clause-covers c = λ history files sums from to sum orderly honest kept covering. covering_sums_up history sums from to sum orderly (honest_kept history files sums honest kept) covering
