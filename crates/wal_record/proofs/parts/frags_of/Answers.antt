use Rattle.std.proofs.Common.{rules, sym, ap, Some, ◌∙◌}
use Rattle.wal_record.specs.Parts.{frags_at}
use Rattle.wal_record.proofs.Parting.{frags_more, frag_left, frags_none, frags_read}
use Rattle.wal_record.proofs.parts.frags_of.Goals as goal

pub returns-in_default : goal.returns-in_default
returns-in_default c = frags_none c.loop-rest.list.items c.loop-rest.invariant.0 c.loop-rest.rest.now (frags_at _ c.args.bytes.now) (search rules) c.in_default.ensures c.loop-rest.invariant.1.0 c.loop-rest.invariant.1.1

pub loop-rest-smaller : goal.loop-rest-smaller
loop-rest-smaller c = frag_left c.loop-rest.rest.now _ c.in-Some.more.now (sym c.in-Some.ensures)

pub loop-rest-preserved : goal.loop-rest-preserved
loop-rest-preserved c = frags_more c.loop-rest.list.items c.push.new.self.items _ c.loop-rest.invariant.0 c.loop-rest.rest.now c.in-Some.more.now (frags_at _ c.args.bytes.now) (search rules) (sym c.in-Some.ensures) c.loop-rest.invariant.1.0 (search rules) c.loop-rest.invariant.1.1

pub returns : goal.returns
returns c = ap Some c.from_vec.ensures ∙ frags_read c.loop-rest.list.items c.loop-rest.invariant.0 c.loop-rest.rest.now (frags_at _ c.args.bytes.now) (search rules) c.loop-rest.invariant.1.1
