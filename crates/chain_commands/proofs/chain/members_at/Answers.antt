-- The members of a chain, one behind the other.
use Rattle.std.proofs.Common.{◌<◌, length, sym, arith}
use Rattle.command_line.specs.Members.{names_in}
use Rattle.chain_files.proofs.Told.{reads_refl, reads_trans, reads_length}
use Rattle.chain_commands.proofs.MemberAreas.{get_within, past_by}
use Rattle.chain_commands.proofs.Members.{placed_at, place_there, first_refused, all_found, none_found, past_all}
use Rattle.chain_commands.proofs.chain.members_at.Goals as goal

pub loop-name-init : goal.loop-name-init
loop-name-init g c = record {
  within = omega arith;
  read = reads_refl g.V.Vault c.args.areas.now;
  found = none_found c.new-members.result.items c.new-members.ensures.items;
}

pub bounds-places-at : goal.bounds-places-at
bounds-places-at g c =
    (let less = get_within (names_in c.args.names.now) c.loop-name.at c.in-Some.name.now (sym c.in-Some.ensures) in omega (arith, less, c.requires.each))

pub member_at-requires-after_bounds : goal.member_at-requires-after_bounds
member_at-requires-after_bounds g c κs within =
    (let less = get_within (names_in c.args.names.now) c.loop-name.at c.in-Some.name.now (sym c.in-Some.ensures) in
    let there = place_there c.args.places.now c.args.areas.now c.loop-name.at (omega (arith, less, c.requires.each)) c.requires.places in omega (arith, there, reads_length g.V.Vault c.args.areas.now c.loop-name.areas c.loop-name.invariant.read))

pub returns-in_err-push-in-Ok-clause-reads : goal.returns-in_err-push-in-Ok-clause-reads
returns-in_err-push-in-Ok-clause-reads g c = reads_trans g.V.Vault c.args.areas.now c.loop-name.areas c.member_at.new.areas c.loop-name.invariant.read c.member_at.ensures.reads

pub returns-in-Err-clause-reads : goal.returns-in-Err-clause-reads
returns-in-Err-clause-reads g c = reads_trans g.V.Vault c.args.areas.now c.loop-name.areas c.member_at.new.areas c.loop-name.invariant.read c.member_at.ensures.reads

pub returns-in-Err-clause-answer : goal.returns-in-Err-clause-answer
returns-in-Err-clause-answer g c joining =
    let less : c.loop-name.at < length c.args.places.now = (let within = get_within (names_in c.args.names.now) c.loop-name.at c.in-Some.name.now (sym c.in-Some.ensures) in omega (arith, within, c.requires.each)) in
    first_refused g.V.Vault (names_in c.args.names.now) c.args.places.now c.args.areas.now c.loop-name.areas c.member_at.new.areas c.loop-name.members.items c.loop-name.at _ c.in-Err.refusal
    (omega (arith, c.requires.each, c.requires.few)) (placed_at c.args.places.now c.loop-name.at 0 less) c.loop-name.invariant.read c.loop-name.invariant.found c.in-Err.ensures.answer

pub loop-name-smaller : goal.loop-name-smaller
loop-name-smaller g c =
    (let less = get_within (names_in c.args.names.now) c.loop-name.at c.in-Some.name.now (sym c.in-Some.ensures) in omega (arith, less))

pub loop-name-preserved : goal.loop-name-preserved
loop-name-preserved g c =
    let within : c.loop-name.at < length (names_in c.args.names.now) = get_within (names_in c.args.names.now) c.loop-name.at c.in-Some.name.now (sym c.in-Some.ensures) in
    record {
      within = omega (arith, within);
      read = reads_trans g.V.Vault c.args.areas.now c.loop-name.areas c.member_at.new.areas c.loop-name.invariant.read c.member_at.ensures.reads;
      found = all_found g.V.Vault (names_in c.args.names.now) c.args.places.now c.args.areas.now c.loop-name.areas c.loop-name.members.items c.push.new.self.items c.loop-name.at c.in-Some.name.now c.in-Ok.member c.requires.each within
          (sym c.in-Some.ensures) c.loop-name.invariant.read c.loop-name.invariant.found c.in-Ok.ensures.answer c.in_ok-push-in-Ok.ensures.items;
    }

pub returns-clause-answer : goal.returns-clause-answer
returns-clause-answer g c =
    past_all g.V.Vault (names_in c.args.names.now) c.args.places.now c.args.areas.now c.loop-name.members.items c.loop-name.at c.requires.each
    (past_by _ c.get.result (names_in c.args.names.now) c.loop-name.at c.get.ensures c.in_default.not-Some) c.loop-name.invariant.found
