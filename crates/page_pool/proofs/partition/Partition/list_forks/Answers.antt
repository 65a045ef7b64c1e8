use Rattle.std.proofs.Common.{IfOk, refl, sym, subst}
use Rattle.rel_files.specs.Shown.{AreFilesOf, HoldsStore, ListsForks}
use Rattle.page_pool.specs.Part.{Part}
use Rattle.page_pool.specs.Calls.{AreWholePages}
use Rattle.page_pool.proofs.Parted.{ok_map, known, whole_pages, each_held}
use Rattle.page_pool.proofs.OnDisk.{holds_again, shown_again, own_shown, same_done, same_unwritten}
use Rattle.page_pool.proofs.partition.Partition.list_forks.Goals as goal

pub invariant_of-self : goal.invariant_of-self
invariant_of-self g c =
    let p = c.self.inside in
    let e = c.list.ensures in
    holds_again g.V.Vault p c.self.invariant c.list.new.self e.kept p.frames p.works p.point p.flushed (own_shown g.V.Vault p) (same_done g.V.Vault p c.self.invariant c.list.new.self e.kept e.held)

pub returns-clause-list : goal.returns-clause-list
returns-clause-list g c =
    let p = c.self.inside in
    subst (λ (x : Part). IfOk c.list.result (λ list. ListsForks (AreFilesOf x.relseg x.disk) list.items)) c.self.view_is
    (ok_map c.list.result (λ list. ListsForks (HoldsStore g.V.Vault p.disk) list.items) (λ list. ListsForks (AreFilesOf p.disk.relseg (g.V.Vault.files p.disk.area)) list.items)
    (λ list lists s told. lists s (each_held g.V.Vault p c.self.invariant c.know_all.ensures s told)) c.list.ensures.list)

pub returns-clause-known : goal.returns-clause-known
returns-clause-known g c =
    let p = c.self.inside in
    let e = c.list.ensures in
    known g.V.Vault (record { disk = c.list.new.self; frames = p.frames; works = p.works; point = p.point; flushed = p.flushed })
    (holds_again g.V.Vault p c.self.invariant c.list.new.self e.kept p.frames p.works p.point p.flushed (own_shown g.V.Vault p) (same_done g.V.Vault p c.self.invariant c.list.new.self e.kept e.held))

pub returns-clause-whole : goal.returns-clause-whole
returns-clause-whole g c =
    let p = c.self.inside in
    let e = c.list.ensures in
    subst AreWholePages (sym (shown_again g.V.Vault p c.self.invariant c.list.new.self e.kept p.frames p.works.items (λ other. refl) (same_done g.V.Vault p c.self.invariant c.list.new.self e.kept e.held)))
    (whole_pages g.V.Vault p c.know.ensures c.self.invariant)

pub returns-clause-same : goal.returns-clause-same
returns-clause-same g c =
    let p = c.self.inside in
    let e = c.list.ensures in
    same_unwritten g.V.Vault p c.args.self.now c.self.view_is c.list.new.self (shown_again g.V.Vault p c.self.invariant c.list.new.self e.kept p.frames p.works.items (λ other. refl) (same_done g.V.Vault p c.self.invariant c.list.new.self e.kept e.held))
