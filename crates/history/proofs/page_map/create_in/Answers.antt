use Rattle.history.proofs.StoreMap.{with_fork_there, with_fork_new}
use Rattle.history.proofs.page_map.create_in.Goals as goal

pub returns-then-contains_key-clause-made : goal.returns-then-contains_key-clause-made
returns-then-contains_key-clause-made c = with_fork_there c.args.forks.now c.args.fork.now c.if-contains_key.ensures

pub returns-clause-made : goal.returns-clause-made
returns-clause-made c = with_fork_new c.args.forks.now c.insert.new.self c.args.fork.now c.new.result c.if-contains_key.ensures c.in_ok-insert.ensures.updates c.new.ensures.items
