-- The members alone, one of which is the output.
use Rattle.std.proofs.Common.{refl}
use Rattle.command_base.specs.Outside.{of_site}
use Rattle.command_line.specs.Members.{names_in}
use Rattle.command_base.proofs.Decided.{err_as}
use Rattle.chain_commands.specs.declared.combining.CombineFault.TheVariants as combine
use Rattle.chain_commands.specs.Joined.{CombineResult, JoinRan}
use Rattle.chain_commands.proofs.ChainAreas.{lends}
use Rattle.chain_commands.proofs.CombineLent.{onto_untaken, onto_out, onto_count, onto_refused_by, onto_full_by}
use Rattle.chain_commands.proofs.combining.combine_onto.Goals as goal

pub returns-in_err-held-clause-ran : goal.returns-in_err-held-clause-ran
returns-in_err-held-clause-ran g c =
    err_as c.from_residual.result (combine.Site c.in_err-held.field-0.0)
    (λ (r : CombineResult). JoinRan c.args.joining c.args.when (names_in c.args.members.now) c.args.out (of_site g.S.Site c.args.site.now) (of_site g.S.Site c.take_all.new.site) r) c.from_residual.ensures.1
    (onto_untaken g.S.Site c.args.joining c.args.when (names_in c.args.members.now) c.args.out c.args.areas c.args.site.now c.take_all.new.site c.in_err-held.field-0.0 c.requires.areas c.requires.home c.in_err-held.ensures.takes).1

pub newest_at-found-requires-clause-places : goal.newest_at-found-requires-clause-places
newest_at-found-requires-clause-places g c κs within =
    (lends (names_in c.args.members.now) c.args.areas _ c.deref.result.now c.requires.areas c.requires.some c.requires.few
    (onto_count g.S.Site g.S.Area.Vault c.args.areas.names.items c.args.site.now c.take_all.new.site c.in_ok-held.held.items c.deref_mut.result.now c.in_ok-held.ensures.takes c.deref_mut.ensures.value) c.deref.ensures.value).places

pub newest_at-found-requires-clause-each : goal.newest_at-found-requires-clause-each
newest_at-found-requires-clause-each g c κs within =
    (lends (names_in c.args.members.now) c.args.areas _ c.deref.result.now c.requires.areas c.requires.some c.requires.few
    (onto_count g.S.Site g.S.Area.Vault c.args.areas.names.items c.args.site.now c.take_all.new.site c.in_ok-held.held.items c.deref_mut.result.now c.in_ok-held.ensures.takes c.deref_mut.ensures.value) c.deref.ensures.value).each

pub newest_at-found-requires-clause-some : goal.newest_at-found-requires-clause-some
newest_at-found-requires-clause-some g c κs within =
    (lends (names_in c.args.members.now) c.args.areas _ c.deref.result.now c.requires.areas c.requires.some c.requires.few
    (onto_count g.S.Site g.S.Area.Vault c.args.areas.names.items c.args.site.now c.take_all.new.site c.in_ok-held.held.items c.deref_mut.result.now c.in_ok-held.ensures.takes c.deref_mut.ensures.value) c.deref.ensures.value).some

pub newest_at-found-requires-clause-few : goal.newest_at-found-requires-clause-few
newest_at-found-requires-clause-few g c κs within =
    (lends (names_in c.args.members.now) c.args.areas _ c.deref.result.now c.requires.areas c.requires.some c.requires.few
    (onto_count g.S.Site g.S.Area.Vault c.args.areas.names.items c.args.site.now c.take_all.new.site c.in_ok-held.held.items c.deref_mut.result.now c.in_ok-held.ensures.takes c.deref_mut.ensures.value) c.deref.ensures.value).few

pub give_all-requires-after_bounds : goal.give_all-requires-after_bounds
give_all-requires-after_bounds g c κs within =
    onto_out g.S.Site g.S.Area.Vault c.args.areas.names.items c.args.site.now c.take_all.new.site c.in_ok-held.held.items c.deref_mut.result.now c.newest_at-found.new.areas c.in_ok-held.held.len c.in_ok-held.ensures.takes c.deref_mut.ensures.value c.in_ok-held.held.ok.0 c.newest_at-found.ensures.reads

pub returns-in_err-found-clause-site : goal.returns-in_err-found-clause-site
returns-in_err-found-clause-site g c =
    (onto_refused_by g.S.Site g.S.Area.Vault c.args.joining c.args.when (names_in c.args.members.now) c.args.out c.args.areas c.args.site.now c.take_all.new.site c.give_all.new.site c.in_ok-held.held.items c.deref_mut.result.now c.newest_at-found.new.areas _ c.deref.result.now c.in_ok-held.held.len c.in_err-found.field-0.0
    c.requires.areas c.requires.among c.requires.home c.in_ok-held.ensures.takes c.deref_mut.ensures.value c.deref.ensures.value c.in_ok-held.held.ok.0 c.newest_at-found.ensures.reads refl c.give_all.ensures.gives c.in_err-found.ensures.answer).0

pub returns-in_err-found-clause-ran : goal.returns-in_err-found-clause-ran
returns-in_err-found-clause-ran g c =
    err_as c.from_residual-in_err-found.result (combine.Members c.in_err-found.field-0.0)
    (λ (r : CombineResult). JoinRan c.args.joining c.args.when (names_in c.args.members.now) c.args.out (of_site g.S.Site c.args.site.now) (of_site g.S.Site c.give_all.new.site) r) c.from_residual-in_err-found.ensures.1
    (onto_refused_by g.S.Site g.S.Area.Vault c.args.joining c.args.when (names_in c.args.members.now) c.args.out c.args.areas c.args.site.now c.take_all.new.site c.give_all.new.site c.in_ok-held.held.items c.deref_mut.result.now c.newest_at-found.new.areas _ c.deref.result.now c.in_ok-held.held.len c.in_err-found.field-0.0
    c.requires.areas c.requires.among c.requires.home c.in_ok-held.ensures.takes c.deref_mut.ensures.value c.deref.ensures.value c.in_ok-held.held.ok.0 c.newest_at-found.ensures.reads refl c.give_all.ensures.gives c.in_err-found.ensures.answer).1

pub returns-clause-site : goal.returns-clause-site
returns-clause-site g c =
    (onto_full_by g.S.Site g.S.Area.Vault c.args.joining c.args.when (names_in c.args.members.now) c.args.out c.args.areas c.args.site.now c.take_all.new.site c.give_all.new.site c.in_ok-held.held.items c.deref_mut.result.now c.newest_at-found.new.areas _ c.deref.result.now c.in_ok-held.held.len c.in_ok-found.field-0
    c.requires.areas c.requires.among c.requires.home c.in_ok-held.ensures.takes c.deref_mut.ensures.value c.deref.ensures.value c.in_ok-held.held.ok.0 c.newest_at-found.ensures.reads refl c.give_all.ensures.gives c.in_ok-found.ensures.answer).0

pub returns-clause-ran : goal.returns-clause-ran
returns-clause-ran g c =
    (onto_full_by g.S.Site g.S.Area.Vault c.args.joining c.args.when (names_in c.args.members.now) c.args.out c.args.areas c.args.site.now c.take_all.new.site c.give_all.new.site c.in_ok-held.held.items c.deref_mut.result.now c.newest_at-found.new.areas _ c.deref.result.now c.in_ok-held.held.len c.in_ok-found.field-0
    c.requires.areas c.requires.among c.requires.home c.in_ok-held.ensures.takes c.deref_mut.ensures.value c.deref.ensures.value c.in_ok-held.held.ok.0 c.newest_at-found.ensures.reads refl c.give_all.ensures.gives c.in_ok-found.ensures.answer).1
