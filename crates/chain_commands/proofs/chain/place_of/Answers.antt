use Rattle.std.proofs.Common.{◌∙◌}
use Rattle.chain_commands.proofs.MemberAreas.{noted_before, noted_now}
use Rattle.chain_commands.proofs.chain.place_of.Goals as goal

pub returns-in-Some : goal.returns-in-Some
returns-in-Some c =
    noted_before c.args.area c.args.names.now.items c.in-Some.place c.as_bytes.result.now c.deref.result.now c.as_bytes.ensures c.deref.ensures.value c.in-Some.ensures.place

pub returns-in_ok-push-in-None : goal.returns-in_ok-push-in-None
returns-in_ok-push-in-None c =
    noted_now c.args.area c.args.names.now.items c.push.new.self.items c.len-place.result c.as_bytes.result.now c.deref.result.now c.as_bytes.ensures c.deref.ensures.value c.in-None.ensures.place c.in_ok-push-in-None.ensures.items (c.len-place.ensures ∙ c.args.names.now.ok.0)
