use Rattle.std.proofs.Common.{◌≡◌, [], ◌∷◌, arith}
use Rattle.std.proofs.lemmas.List.{nil_from_length}
use Rattle.vault.proofs.Giving.{giving_out, giving_more, giving_ends}
use Rattle.vault.proofs.lending.give_all.Goals as goal

pub give_one-requires-after_bounds : goal.give_one-requires-after_bounds
give_one-requires-after_bounds g c κs within =
    giving_out g.S.Site g.S.Area.Vault c.args.held.items c.loop-one.held.items c.loop-one.invariant.0 c.pop.new.self.items c.in-Some.one c.args.site.now c.loop-one.site c.requires c.loop-one.invariant.1 c.in-Some.ensures.items

pub loop-one-preserved : goal.loop-one-preserved
loop-one-preserved g c = (
  c.in-Some.one ∷ c.loop-one.invariant.0,
  giving_more g.S.Site g.S.Area.Vault c.args.held.items c.loop-one.held.items c.loop-one.invariant.0 c.pop.new.self.items c.in-Some.one c.args.site.now c.loop-one.site c.give_one.new.site c.loop-one.invariant.1 c.in-Some.ensures.items c.give_one.ensures.gives,
)

pub returns : goal.returns
returns g c =
    let none : c.loop-one.held.items ≡ [] = nil_from_length c.loop-one.held.items (omega (arith, c.in_default.ensures.cases)) in
    record { gives = giving_ends g.S.Site g.S.Area.Vault c.args.held.items c.loop-one.held.items c.loop-one.invariant.0 c.args.site.now c.loop-one.site c.requires c.loop-one.invariant.1 none }
