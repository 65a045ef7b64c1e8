use Rattle.std.proofs.Common.{◌≡◌, [], ◌∷◌, ◌∙◌, length, ap, sym, arith}
use Rattle.std.proofs.lemmas.List.{nil_from_length}
use Rattle.std.specs.Vec.Iter.{into_iter_items}
use Rattle.vault.proofs.Taking.{taking_out, next_home, taking_more, taking_fails, taking_ends}
use Rattle.vault.proofs.lending.take_all.Goals as goal

pub take_next-requires-after_bounds : goal.take_next-requires-after_bounds
take_next-requires-after_bounds g c κs within =
    next_home g.S.Site g.S.Area.Vault c.args.names.items c.loop-name.yielded c.in-Some.name (into_iter_items c.next.new.self) c.args.site.now c.loop-name.site c.loop-name.held.items c.requires.distinct c.requires.home (rw c.in-Some.ensures.steps.0 at c.loop-name.invariant.0)

pub give_all-requires-after_bounds : goal.give_all-requires-after_bounds
give_all-requires-after_bounds g c κs within =
    rw (c.in-Err.ensures.0, c.in-Err.ensures.1.areas) (taking_out g.S.Site g.S.Area.Vault c.args.names.items c.loop-name.yielded (into_iter_items c.loop-name.name-iterator) c.args.site.now c.loop-name.site c.loop-name.held.items c.requires.distinct c.loop-name.invariant.0)

pub returns-in-Err : goal.returns-in-Err
returns-in-Err g c =
    record { takes = taking_fails g.S.Site g.S.Area.Vault c.args.names.items c.loop-name.yielded c.in-Some.name (into_iter_items c.next.new.self) c.args.site.now c.loop-name.site c.take_next.new.site c.give_all.new.site c.loop-name.held.items c.in-Err.fault (rw c.in-Some.ensures.steps.0 at c.loop-name.invariant.0) c.in-Err.ensures.1 (rw c.in-Err.ensures.0 at c.give_all.ensures.gives) }

pub loop-name-preserved : goal.loop-name-preserved
loop-name-preserved g c =
    let steps : into_iter_items c.loop-name.name-iterator ≡ c.in-Some.name ∷ into_iter_items c.next.new.self = c.in-Some.ensures.steps.0 in
    let more = c.in_default.ensures in (
      taking_more g.S.Site g.S.Area.Vault c.args.names.items c.loop-name.yielded c.in-Some.name (into_iter_items c.next.new.self) c.args.site.now c.loop-name.site c.take_next.new.site c.loop-name.held.items c.take_next.new.held.items more.0 c.requires.distinct (rw steps at c.loop-name.invariant.0) more.1 more.2,
      let was = c.loop-name.invariant.1 in
          let gone = c.in-Some.ensures.steps.1 in
          let short = ap length steps in
          omega arith,
    )

pub returns : goal.returns
returns g c =
    let none = c.in-None.ensures.steps in
    let empty : into_iter_items c.loop-name.name-iterator ≡ [] = nil_from_length (into_iter_items c.loop-name.name-iterator) (sym c.loop-name.invariant.1 ∙ none.0) in
    record { takes = taking_ends g.S.Site g.S.Area.Vault c.args.names.items c.loop-name.yielded c.args.site.now c.loop-name.site c.loop-name.held.items c.requires.distinct (rw empty at c.loop-name.invariant.0) }
