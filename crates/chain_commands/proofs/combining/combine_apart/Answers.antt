-- The areas of the members and that of the output, lent and given back.
use Rattle.std.proofs.Common.{[], ◌∷◌, ◌++◌, refl}
use Rattle.command_base.specs.Outside.{of_site}
use Rattle.command_line.specs.Members.{names_in}
use Rattle.command_base.proofs.Decided.{err_as}
use Rattle.chain_commands.specs.declared.combining.CombineFault.TheVariants as combine
use Rattle.chain_commands.specs.Joined.{CombineResult, JoinRan}
use Rattle.chain_commands.proofs.ChainAreas.{with_output, counted, lends, taken_as, rest_out, members_out_of}
use Rattle.chain_commands.proofs.CombineLent.{combine_untaken, combine_done}
use Rattle.chain_commands.proofs.combining.combine_apart.Goals as goal

pub take_all-requires-clause-distinct : goal.take_all-requires-clause-distinct
take_all-requires-clause-distinct g c κs within =
    with_output (names_in c.args.members.now) c.args.areas c.args.out c.push.new.self.items c.requires.areas c.requires.apart c.in_ok-push.ensures.items

pub returns-in_err-held-clause-ran : goal.returns-in_err-held-clause-ran
returns-in_err-held-clause-ran g c =
    err_as c.from_residual-in_err-held.result (combine.Site c.in_err-held.field-0.0)
    (λ (r : CombineResult). JoinRan c.args.joining c.args.when (names_in c.args.members.now) c.args.out (of_site g.S.Site c.args.site.now) (of_site g.S.Site c.take_all.new.site) r) c.from_residual-in_err-held.ensures.1
    (combine_untaken g.S.Site c.args.joining c.args.when (names_in c.args.members.now) c.args.out c.args.areas c.push.new.self.items c.args.site.now c.take_all.new.site c.in_err-held.field-0.0 c.requires.areas c.in_ok-push.ensures.items c.requires.home c.in_err-held.ensures.takes).1

pub combine_areas-answer-requires-clause-own : goal.combine_areas-answer-requires-clause-own
combine_areas-answer-requires-clause-own g c κs within =
    (lends (names_in c.args.members.now) c.args.areas _ c.deref.result.now c.requires.areas c.requires.some c.requires.few
    (counted g.S.Site g.S.Area.Vault c.push.new.self.items c.args.areas.names.items (c.args.out ∷ []) c.args.site.now c.take_all.new.site c.in_ok-held.held.items c.last_of-out.new.held.items (c.last_of-out.result ∷ []) c.deref_mut.result.now refl c.in_ok-push.ensures.items c.last_of-out.ensures c.deref_mut.ensures.value c.in_ok-held.ensures.takes) c.deref.ensures.value).own

pub combine_areas-answer-requires-clause-places : goal.combine_areas-answer-requires-clause-places
combine_areas-answer-requires-clause-places g c κs within =
    (lends (names_in c.args.members.now) c.args.areas _ c.deref.result.now c.requires.areas c.requires.some c.requires.few
    (counted g.S.Site g.S.Area.Vault c.push.new.self.items c.args.areas.names.items (c.args.out ∷ []) c.args.site.now c.take_all.new.site c.in_ok-held.held.items c.last_of-out.new.held.items (c.last_of-out.result ∷ []) c.deref_mut.result.now refl c.in_ok-push.ensures.items c.last_of-out.ensures c.deref_mut.ensures.value c.in_ok-held.ensures.takes) c.deref.ensures.value).places

pub combine_areas-answer-requires-clause-each : goal.combine_areas-answer-requires-clause-each
combine_areas-answer-requires-clause-each g c κs within =
    (lends (names_in c.args.members.now) c.args.areas _ c.deref.result.now c.requires.areas c.requires.some c.requires.few
    (counted g.S.Site g.S.Area.Vault c.push.new.self.items c.args.areas.names.items (c.args.out ∷ []) c.args.site.now c.take_all.new.site c.in_ok-held.held.items c.last_of-out.new.held.items (c.last_of-out.result ∷ []) c.deref_mut.result.now refl c.in_ok-push.ensures.items c.last_of-out.ensures c.deref_mut.ensures.value c.in_ok-held.ensures.takes) c.deref.ensures.value).each

pub combine_areas-answer-requires-clause-some : goal.combine_areas-answer-requires-clause-some
combine_areas-answer-requires-clause-some g c κs within =
    (lends (names_in c.args.members.now) c.args.areas _ c.deref.result.now c.requires.areas c.requires.some c.requires.few
    (counted g.S.Site g.S.Area.Vault c.push.new.self.items c.args.areas.names.items (c.args.out ∷ []) c.args.site.now c.take_all.new.site c.in_ok-held.held.items c.last_of-out.new.held.items (c.last_of-out.result ∷ []) c.deref_mut.result.now refl c.in_ok-push.ensures.items c.last_of-out.ensures c.deref_mut.ensures.value c.in_ok-held.ensures.takes) c.deref.ensures.value).some

pub combine_areas-answer-requires-clause-few : goal.combine_areas-answer-requires-clause-few
combine_areas-answer-requires-clause-few g c κs within =
    (lends (names_in c.args.members.now) c.args.areas _ c.deref.result.now c.requires.areas c.requires.some c.requires.few
    (counted g.S.Site g.S.Area.Vault c.push.new.self.items c.args.areas.names.items (c.args.out ∷ []) c.args.site.now c.take_all.new.site c.in_ok-held.held.items c.last_of-out.new.held.items (c.last_of-out.result ∷ []) c.deref_mut.result.now refl c.in_ok-push.ensures.items c.last_of-out.ensures c.deref_mut.ensures.value c.in_ok-held.ensures.takes) c.deref.ensures.value).few

pub give_one-requires-after_bounds : goal.give_one-requires-after_bounds
give_one-requires-after_bounds g c κs within =
    rest_out g.S.Site g.S.Area.Vault (c.args.areas.names.items ++ c.args.out ∷ []) c.args.site.now c.take_all.new.site c.last_of-out.new.held.items (c.last_of-out.result ∷ []) (record { name = c.last_of-out.result.name; area = c.combine_areas-answer.new.out } ∷ [])
    (taken_as g.S.Site g.S.Area.Vault c.push.new.self.items (c.args.areas.names.items ++ c.args.out ∷ []) c.args.site.now c.take_all.new.site c.in_ok-held.held.items (c.last_of-out.new.held.items ++ c.last_of-out.result ∷ []) c.in_ok-push.ensures.items c.last_of-out.ensures c.in_ok-held.ensures.takes)
    (refl, c.combine_areas-answer.ensures.later, tt)

pub give_all-requires-after_bounds : goal.give_all-requires-after_bounds
give_all-requires-after_bounds g c κs within =
    members_out_of g.S.Site g.S.Area.Vault (c.args.areas.names.items ++ c.args.out ∷ []) c.args.site.now c.take_all.new.site c.give_one.new.site c.last_of-out.new.held.items (c.last_of-out.result ∷ []) c.combine_areas-answer.new.areas c.deref_mut.result.now (record { name = c.last_of-out.result.name; area = c.combine_areas-answer.new.out } ∷ []) c.last_of-out.new.held.len
    (taken_as g.S.Site g.S.Area.Vault c.push.new.self.items (c.args.areas.names.items ++ c.args.out ∷ []) c.args.site.now c.take_all.new.site c.in_ok-held.held.items (c.last_of-out.new.held.items ++ c.last_of-out.result ∷ []) c.in_ok-push.ensures.items c.last_of-out.ensures c.in_ok-held.ensures.takes)
    c.deref_mut.ensures.value c.last_of-out.new.held.ok.0 c.combine_areas-answer.ensures.areas (refl, c.combine_areas-answer.ensures.later, tt) c.give_one.ensures.gives

pub returns-clause-site : goal.returns-clause-site
returns-clause-site g c =
    (combine_done g.S.Site g.S.Area.Vault c.args.joining c.args.when (names_in c.args.members.now) c.args.out c.args.areas c.push.new.self.items c.args.site.now c.take_all.new.site c.give_one.new.site c.give_all.new.site c.in_ok-held.held.items c.last_of-out.new.held.items c.deref_mut.result.now c.combine_areas-answer.new.areas _ c.deref.result.now c.last_of-out.new.held.len
    c.last_of-out.result (record { name = c.last_of-out.result.name; area = c.combine_areas-answer.new.out }) c.combine_areas-answer.result c.requires.areas c.in_ok-push.ensures.items c.last_of-out.ensures c.requires.home c.in_ok-held.ensures.takes c.deref_mut.ensures.value c.deref.ensures.value c.last_of-out.new.held.ok.0
    c.combine_areas-answer.ensures.areas refl refl c.combine_areas-answer.ensures.later c.give_one.ensures.gives c.give_all.ensures.gives c.combine_areas-answer.ensures.answer).0

pub returns-clause-ran : goal.returns-clause-ran
returns-clause-ran g c =
    (combine_done g.S.Site g.S.Area.Vault c.args.joining c.args.when (names_in c.args.members.now) c.args.out c.args.areas c.push.new.self.items c.args.site.now c.take_all.new.site c.give_one.new.site c.give_all.new.site c.in_ok-held.held.items c.last_of-out.new.held.items c.deref_mut.result.now c.combine_areas-answer.new.areas _ c.deref.result.now c.last_of-out.new.held.len
    c.last_of-out.result (record { name = c.last_of-out.result.name; area = c.combine_areas-answer.new.out }) c.combine_areas-answer.result c.requires.areas c.in_ok-push.ensures.items c.last_of-out.ensures c.requires.home c.in_ok-held.ensures.takes c.deref_mut.ensures.value c.deref.ensures.value c.last_of-out.new.held.ok.0
    c.combine_areas-answer.ensures.areas refl refl c.combine_areas-answer.ensures.later c.give_one.ensures.gives c.give_all.ensures.gives c.combine_areas-answer.ensures.answer).1
