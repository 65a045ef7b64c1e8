-- The output is a member's area, or none of theirs.
use Rattle.chain_commands.proofs.MemberAreas.{one_there, none_there}
use Rattle.chain_commands.proofs.combining.combine_in.Goals as goal

pub combine_onto-requires-clause-among : goal.combine_onto-requires-clause-among
combine_onto-requires-clause-among g c κs within =
    one_there _ c.in_ok-areas.areas.names.items _ c.as_bytes.result.now c.deref.result.now c.as_bytes.ensures c.deref.ensures.value c.in-Some.ensures.place

pub combine_apart-requires-clause-apart : goal.combine_apart-requires-clause-apart
combine_apart-requires-clause-apart g c κs within =
    none_there _ c.in_ok-areas.areas.names.items c.as_bytes.result.now c.deref.result.now c.as_bytes.ensures c.deref.ensures.value c.in-None.ensures.place
