use Rattle.std.proofs.Common.{◌≡◌, true, ℕ, List, map, subst, sym, ap, ◌∙◌}
use Rattle.lsn_core.specs.Segment.{StoreSettings}
use Rattle.std.specs.List.Sorted.{IsStrictlySortedBy}
use Rattle.lsn_core.specs.Store.{fork_cmp}
use Rattle.lsn_core.specs.declared.ids.ForkLen.{ForkLen}
use Rattle.backup_sending.specs.Backup.{site_of}
use Rattle.backup_sending.specs.Inside.{CopiesStore, CopyCause, ListsForks, PutsStore}
use Rattle.backup_files.proofs.Passed.{ok_more, err_more}
use Rattle.backup_sending.proofs.Copying.{store_failed}
use Rattle.backup_sending.proofs.Steps.{cause_behind, copies_on, copies_store, redo_on}
use Rattle.backup_sending.proofs.Stores.{store_copied}
use Rattle.backup_sending.proofs.full.copy_store.Goals as goal

pub returns-in_err-forks-clause-copies_on : goal.returns-in_err-forks-clause-copies_on
returns-in_err-forks-clause-copies_on g c = copies_store g.V.Vault c.args.pass.now c.all_forks.new.pass c.args.out.now c.all_forks.ensures.looks

pub returns-in_err-forks-clause-cause : goal.returns-in_err-forks-clause-cause
returns-in_err-forks-clause-cause g c =
    store_failed g.V.Vault (site_of c.args.pass.now c.args.out.now) (site_of c.all_forks.new.pass c.args.out.now) c.from_residual.result c.in_err-forks.field-0.0 c.from_residual.ensures.1 c.in_err-forks.ensures.cause

pub copy_forks-requires-clause-redo : goal.copy_forks-requires-clause-redo
copy_forks-requires-clause-redo g c = λ κs lives. redo_on c.args.pass.now c.all_forks.new.pass c.args.from.0 c.all_forks.ensures.looks c.requires.redo

pub copy_forks-requires-clause-order : goal.copy_forks-requires-clause-order
copy_forks-requires-clause-order g c = λ κs lives. subst (λ (l : List ForkLen). IsStrictlySortedBy fork_cmp (map (λ x. x.fork) l)) (sym c.deref.ensures.value) c.in_ok-forks.ensures.list.order

pub returns-clause-copied : goal.returns-clause-copied
returns-clause-copied g c =
    ok_more c.copy_forks.result (λ rows. PutsStore (g.J.OfStore.tells ≡ true) c.copy_forks.new.pass.list c.args.from.0 c.relseg-relseg.result c.deref.result.now c.args.modified.now (g.V.Vault.files c.args.out.now) (g.V.Vault.files c.copy_forks.new.out) rows.items) _
    (λ rows puts.
    subst (λ (n : ℕ). CopiesStore (g.J.OfStore.tells ≡ true) c.copy_forks.new.pass.list c.args.from.0 n c.args.modified.now (g.V.Vault.files c.copy_forks.new.out) rows.items) (c.relseg-relseg.ensures.value ∙ ap (λ (s : StoreSettings). s.relseg) c.settings.ensures)
    (store_copied (g.J.OfStore.tells ≡ true) c.all_forks.new.pass.list c.copy_forks.new.pass.list c.args.from.0 c.relseg-relseg.result c.deref.result.now c.args.modified.now (g.V.Vault.files c.args.out.now) (g.V.Vault.files c.copy_forks.new.out) rows.items
    c.requires.empty c.copy_forks.ensures.copies_on.looks.stays.seen (subst (λ (l : List ForkLen). ListsForks (g.J.OfStore.tells ≡ true) c.all_forks.new.pass.list c.args.from.0 l) (sym c.deref.ensures.value) c.in_ok-forks.ensures.list) puts))
    c.copy_forks.ensures.put

pub returns-clause-copies_on : goal.returns-clause-copies_on
returns-clause-copies_on g c =
    copies_on g.V.Vault (site_of c.args.pass.now c.args.out.now) (site_of c.all_forks.new.pass c.args.out.now) (site_of c.copy_forks.new.pass c.copy_forks.new.out)
    (copies_store g.V.Vault c.args.pass.now c.all_forks.new.pass c.args.out.now c.all_forks.ensures.looks) c.copy_forks.ensures.copies_on

pub returns-clause-cause : goal.returns-clause-cause
returns-clause-cause g c =
    let a = site_of c.args.pass.now c.args.out.now in
    let b = site_of c.all_forks.new.pass c.args.out.now in
    let d = site_of c.copy_forks.new.pass c.copy_forks.new.out in
    err_more c.copy_forks.result (CopyCause g.V.Vault b d) (CopyCause g.V.Vault a d)
    (λ why is. cause_behind g.V.Vault a b d why (copies_store g.V.Vault c.args.pass.now c.all_forks.new.pass c.args.out.now c.all_forks.ensures.looks) is)
    c.copy_forks.ensures.cause
