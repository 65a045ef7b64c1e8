-- The areas of members, one behind the other.
use Rattle.std.proofs.Common.{◌<◌, length, sym, subst, arith}
use Rattle.command_line.specs.Members.{names_in}
use Rattle.chain_commands.specs.Inner.{PlacesArea}
use Rattle.chain_commands.proofs.MemberAreas.{get_within, past_by, standing_next, standing_all}
use Rattle.chain_commands.proofs.chain.areas_of.Goals as goal

pub loop-name-preserved : goal.loop-name-preserved
loop-name-preserved c =
    let within : c.loop-name.member < length (names_in c.args.members.now) = get_within (names_in c.args.members.now) c.loop-name.member c.in-Some.name.now (sym c.in-Some.ensures) in
    record {
      within = omega (arith, within);
      standing = standing_next (names_in c.args.members.now) c.loop-name.names.items c.place_of.new.names.items c.loop-name.places.items c.push.new.self.items c.in-Some.name.now c.loop-name.member c.in_ok-place_of.field-0 (sym c.in-Some.ensures) c.loop-name.invariant.standing
          (subst (λ area. PlacesArea area c.loop-name.names.items c.place_of.new.names.items c.in_ok-place_of.field-0) c.in_ok-backup_name.ensures c.in_ok-place_of.ensures) c.in_ok-push.ensures.items;
    }

pub returns : goal.returns
returns c =
    standing_all (names_in c.args.members.now) c.loop-name.member (record { names = c.loop-name.names; places = c.loop-name.places })
    (past_by _ c.get.result (names_in c.args.members.now) c.loop-name.member c.get.ensures c.in_default.not-Some) c.loop-name.invariant.standing
