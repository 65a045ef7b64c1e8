use Rattle.history.proofs.partitions.Puts.{made_of_parts, one_part}
use Rattle.history.proofs.partitions.laws.stores_are_their_parts.Goals as goal

pub returns-clause-made : goal.returns-clause-made
returns-clause-made c = made_of_parts

pub returns-clause-one : goal.returns-clause-one
returns-clause-one c = one_part
