use Rattle.core_machine.proofs.Crews.{reached_on}
use Rattle.core_machine.proofs.crew.Crew.reach.Goals as goal

pub loop-place-preserved : goal.loop-place-preserved
loop-place-preserved c =
    let before = c.loop-place.invariant in
    let r = reached_on c.args.self.now.list.items c.loop-place.self.list.items c.push.new.self.items c.loop-place.place c.idle.result before.long before.workers before.commands c.idle.ensures.worker c.idle.ensures.backup c.idle.ensures.commands c.in_ok-push.ensures.items in
    record { long = r.long; workers = r.workers; commands = r.commands }
