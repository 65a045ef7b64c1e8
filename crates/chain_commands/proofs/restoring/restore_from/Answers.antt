-- The areas of the members, of the WAL and of the output, lent and given back.
use Rattle.std.proofs.Common.{refl, subst, sym}
use Rattle.vault.specs.Lending.{Names, AreDistinct}
use Rattle.command_base.specs.Areas.{output_name}
use Rattle.command_base.specs.Outside.{of_site}
use Rattle.command_line.specs.Members.{names_in}
use Rattle.command_base.proofs.Decided.{err_as}
use Rattle.chain_commands.specs.declared.restoring.RestoreFault.TheVariants as restore
use Rattle.chain_commands.specs.Restore.{RestoreResult, RestoreRan}
use Rattle.chain_commands.proofs.ChainAreas.{with_wal_and_output}
use Rattle.chain_commands.proofs.RestoreLent.{restore_untaken, restore_lends, beside_out, lent_out, restore_done}
use Rattle.chain_commands.proofs.restoring.restore_from.Goals as goal

pub take_all-requires-clause-distinct : goal.take_all-requires-clause-distinct
take_all-requires-clause-distinct g c κs within =
    subst (λ (ns : Names). AreDistinct ns) (sym c.in_ok-all.ensures) (with_wal_and_output (names_in c.args.members.now) c.args.areas c.args.out.now c.requires.areas)

pub returns-in_err-held : goal.returns-in_err-held
returns-in_err-held g c =
    let none = restore_untaken g.S.Site c.args.upto (names_in c.args.members.now) c.args.out.now c.args.areas c.in_ok-all.all.items c.args.site.now c.take_all.new.site c.in_err-held.field-0.0 c.requires.areas c.in_ok-all.ensures c.requires.home c.in_err-held.ensures.takes in
    record {
      does = (
        none.0,
        err_as c.from_residual-in_err-held.result (restore.Site c.in_err-held.field-0.0)
            (λ (r : RestoreResult). RestoreRan c.args.upto (names_in c.args.members.now) (output_name c.args.out.now) (of_site g.S.Site c.args.site.now) (of_site g.S.Site c.take_all.new.site) r) c.from_residual-in_err-held.ensures.1 none.1,
      );
    }

pub restore_areas-area-requires-clause-own : goal.restore_areas-area-requires-clause-own
restore_areas-area-requires-clause-own g c κs within =
    (restore_lends g.S.Site g.S.Area.Vault (names_in c.args.members.now) c.args.out.now c.args.areas c.in_ok-all.all.items c.args.site.now c.take_all.new.site c.in_ok-held.held.items c.last_of-name.new.held.items c.last_of-wal.new.held.items c.deref_mut.result.now c.last_of-wal.result c.last_of-name.result c.deref.result.now
    c.requires.areas c.requires.some c.requires.few c.in_ok-all.ensures c.last_of-name.ensures c.last_of-wal.ensures c.in_ok-held.ensures.takes c.deref_mut.ensures.value c.deref.ensures.value).own

pub restore_areas-area-requires-clause-places : goal.restore_areas-area-requires-clause-places
restore_areas-area-requires-clause-places g c κs within =
    (restore_lends g.S.Site g.S.Area.Vault (names_in c.args.members.now) c.args.out.now c.args.areas c.in_ok-all.all.items c.args.site.now c.take_all.new.site c.in_ok-held.held.items c.last_of-name.new.held.items c.last_of-wal.new.held.items c.deref_mut.result.now c.last_of-wal.result c.last_of-name.result c.deref.result.now
    c.requires.areas c.requires.some c.requires.few c.in_ok-all.ensures c.last_of-name.ensures c.last_of-wal.ensures c.in_ok-held.ensures.takes c.deref_mut.ensures.value c.deref.ensures.value).places

pub restore_areas-area-requires-clause-each : goal.restore_areas-area-requires-clause-each
restore_areas-area-requires-clause-each g c κs within =
    (restore_lends g.S.Site g.S.Area.Vault (names_in c.args.members.now) c.args.out.now c.args.areas c.in_ok-all.all.items c.args.site.now c.take_all.new.site c.in_ok-held.held.items c.last_of-name.new.held.items c.last_of-wal.new.held.items c.deref_mut.result.now c.last_of-wal.result c.last_of-name.result c.deref.result.now
    c.requires.areas c.requires.some c.requires.few c.in_ok-all.ensures c.last_of-name.ensures c.last_of-wal.ensures c.in_ok-held.ensures.takes c.deref_mut.ensures.value c.deref.ensures.value).each

pub restore_areas-area-requires-clause-some : goal.restore_areas-area-requires-clause-some
restore_areas-area-requires-clause-some g c κs within =
    (restore_lends g.S.Site g.S.Area.Vault (names_in c.args.members.now) c.args.out.now c.args.areas c.in_ok-all.all.items c.args.site.now c.take_all.new.site c.in_ok-held.held.items c.last_of-name.new.held.items c.last_of-wal.new.held.items c.deref_mut.result.now c.last_of-wal.result c.last_of-name.result c.deref.result.now
    c.requires.areas c.requires.some c.requires.few c.in_ok-all.ensures c.last_of-name.ensures c.last_of-wal.ensures c.in_ok-held.ensures.takes c.deref_mut.ensures.value c.deref.ensures.value).some

pub restore_areas-area-requires-clause-few : goal.restore_areas-area-requires-clause-few
restore_areas-area-requires-clause-few g c κs within =
    (restore_lends g.S.Site g.S.Area.Vault (names_in c.args.members.now) c.args.out.now c.args.areas c.in_ok-all.all.items c.args.site.now c.take_all.new.site c.in_ok-held.held.items c.last_of-name.new.held.items c.last_of-wal.new.held.items c.deref_mut.result.now c.last_of-wal.result c.last_of-name.result c.deref.result.now
    c.requires.areas c.requires.some c.requires.few c.in_ok-all.ensures c.last_of-name.ensures c.last_of-wal.ensures c.in_ok-held.ensures.takes c.deref_mut.ensures.value c.deref.ensures.value).few

pub give_two-requires-after_bounds : goal.give_two-requires-after_bounds
give_two-requires-after_bounds g c κs within =
    beside_out g.S.Site g.S.Area.Vault c.args.out.now c.args.areas c.in_ok-all.all.items c.args.site.now c.take_all.new.site c.in_ok-held.held.items c.last_of-name.new.held.items c.last_of-wal.new.held.items c.last_of-wal.result c.last_of-name.result c.restore_areas-area.new.wal c.restore_areas-area.result.0
    c.in_ok-all.ensures c.last_of-name.ensures c.last_of-wal.ensures c.in_ok-held.ensures.takes c.restore_areas-area.ensures.wal c.restore_areas-area.ensures.out_later

pub give_all-requires-after_bounds : goal.give_all-requires-after_bounds
give_all-requires-after_bounds g c κs within =
    lent_out g.S.Site g.S.Area.Vault c.args.out.now c.args.areas c.in_ok-all.all.items c.args.site.now c.take_all.new.site c.give_two.new.site c.in_ok-held.held.items c.last_of-name.new.held.items c.last_of-wal.new.held.items c.deref_mut.result.now c.restore_areas-area.new.areas c.last_of-wal.result c.last_of-name.result c.restore_areas-area.new.wal c.restore_areas-area.result.0 c.last_of-wal.new.held.len
    c.in_ok-all.ensures c.last_of-name.ensures c.last_of-wal.ensures c.in_ok-held.ensures.takes c.deref_mut.ensures.value c.last_of-wal.new.held.ok.0 c.restore_areas-area.ensures.areas c.restore_areas-area.ensures.wal c.restore_areas-area.ensures.out_later c.give_two.ensures.gives

pub returns : goal.returns
returns g c = record {
  does = restore_done g.S.Site g.S.Area.Vault c.args.upto (names_in c.args.members.now) c.args.out.now c.args.areas c.in_ok-all.all.items c.args.site.now c.take_all.new.site c.give_two.new.site c.give_all.new.site c.in_ok-held.held.items c.last_of-name.new.held.items c.last_of-wal.new.held.items c.deref_mut.result.now c.restore_areas-area.new.areas _ c.last_of-wal.result c.last_of-name.result c.restore_areas-area.new.wal c.restore_areas-area.result.0 c.deref.result.now c.last_of-wal.new.held.len
      c.restore_areas-area.result.1 c.requires.areas c.in_ok-all.ensures c.last_of-name.ensures c.last_of-wal.ensures c.requires.home c.in_ok-held.ensures.takes c.deref_mut.ensures.value c.deref.ensures.value c.last_of-wal.new.held.ok.0 c.restore_areas-area.ensures.wal c.restore_areas-area.ensures.areas refl c.restore_areas-area.ensures.out_later c.give_two.ensures.gives c.give_all.ensures.gives c.restore_areas-area.ensures.answer;
}
