-- The listener's list is what was read, and the areas show what that makes.
use Rattle.std.proofs.Common.{◌≡◌, map, sym, ap, ◌∙◌, inr, arith}
use Rattle.lsn_core.specs.declared.pages.Pages.{Ghosts as PagesGhosts}
use Rattle.history.specs.Whole.{entry_of}
use Rattle.recovery.specs.declared.replaying.Replayed.{Replayed}
use Rattle.data_areas.specs.declared.store_forks.StoreForks.{StoreForks}
use Rattle.vault.specs.declared.boxed.BoxedArea.{BoxedArea}
use Rattle.vault.specs.Boxed.{on_heap}
use Rattle.data_areas.specs.Stored.{ShowsParts, KeepsAll}
use Rattle.store_finding.specs.Filling.{IsUnreplayed}
use Rattle.store_finding.proofs.Replayed.{handed_on, unreplayed, not_empty, read_of, shown_of, heard_all}
use Rattle.store_areas.proofs.Readings.{none_in}
use Rattle.store_finding.proofs.finding.replay.Goals as goal

pub returns-in_err-replayed-clause-refused : goal.returns-in_err-replayed-clause-refused
returns-in_err-replayed-clause-refused g c =
    let over : PagesGhosts (StoreForks (BoxedArea g.row.V.Denot)) = record { shows = λ f s. ShowsParts (on_heap g.V.Vault) f s; keeps = λ a b. KeepsAll (on_heap g.V.Vault) a b; faults = λ f. f.faults.count } in
    handed_on c.from_residual.result c.in_err-replayed.field-0.0 (IsUnreplayed (g.V.Vault.files c.args.wal.now) (g.V.Vault.faults c.args.wal.now) (g.V.Vault.faults c.replay_heard.new.wal) c.args.forks.now.faults.count c.replay_heard.new.target.faults.count) c.from_residual.ensures.1
    (unreplayed g.V.Vault over c.args.settings.now c.args.wal.now c.replay_heard.new.wal c.args.forks.now c.replay_heard.new.target _ c.requires.checked c.requires.fresh c.in_err-replayed.ensures.answer)

pub returns-then-replayed-eq0-clause-refused : goal.returns-then-replayed-eq0-clause-refused
returns-then-replayed-eq0-clause-refused g c =
    let done = c.in_ok-replayed.ensures.answer.0 in
    let s = c.args.settings.now in
    let files = g.V.Vault.files c.args.wal.now in
    let tip = c.in_ok-replayed.replayed.tip in
    let none : tip.count ≡ 0 = ap (λ (r : Replayed). r.tip.count) (sym c.replayed.view_is) ∙ c.if-replayed-eq0.true in (
      inr (record { settings = s; given = c.requires.checked.given; archive = none_in s files done.entries tip done.read none }),
      not_empty s files done.entries tip c.requires.checked done.read none,
    )

pub returns-clause-found : goal.returns-clause-found
returns-clause-found g c =
    let done = c.in_ok-replayed.ensures.answer in
    let r = c.in_ok-replayed.replayed in
    let pen = heard_all c.args.opened.list c.replay_heard.new.listener.opened.list (map entry_of done.0.entries) c.requires.none done.1 in
    let some = ap (λ (x : Replayed). x.tip.count) (sym c.replayed.view_is) in record {
      given = c.requires.checked.given;
      has = read_of (ShowsParts (on_heap g.V.Vault) c.replay_heard.new.target) c.args.settings.now (g.V.Vault.files c.args.wal.now) done.0.entries c.replay_heard.new.listener.opened.list r.forks r.pages r.tip done.0.read (λ told. done.0.fresh (c.requires.fresh told)) pen;
      some = omega (arith, some, c.if-replayed-eq0.false);
    }

pub returns-clause-shown : goal.returns-clause-shown
returns-clause-shown g c =
    let done = c.in_ok-replayed.ensures.answer in
    let r = c.in_ok-replayed.replayed in
    let pen = heard_all c.args.opened.list c.replay_heard.new.listener.opened.list (map entry_of done.0.entries) c.requires.none done.1 in
    shown_of (ShowsParts (on_heap g.V.Vault) c.replay_heard.new.target) c.args.settings.now (g.V.Vault.files c.args.wal.now) done.0.entries c.replay_heard.new.listener.opened.list r.forks r.pages r.tip done.0.read (λ told. done.0.fresh (c.requires.fresh told)) pen
