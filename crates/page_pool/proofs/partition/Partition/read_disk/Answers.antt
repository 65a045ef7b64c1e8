use Rattle.std.proofs.Common.{IfOk, refl, sym, subst}
use Rattle.rel_files.specs.Shown.{AreFilesOf, HoldsStore, ReadsWhole}
use Rattle.page_pool.specs.Part.{Part}
use Rattle.page_pool.specs.Calls.{AreWholePages}
use Rattle.page_pool.proofs.Parted.{ok_map, known, whole_pages, each_held}
use Rattle.page_pool.proofs.OnDisk.{holds_again, shown_again, own_shown, same_done, same_unwritten}
use Rattle.page_pool.proofs.partition.Partition.read_disk.Goals as goal

pub invariant_of-self : goal.invariant_of-self
invariant_of-self g c =
    let p = c.self.inside in
    let e = c.read_block.ensures in
    holds_again g.V.Vault p c.self.invariant c.read_block.new.self e.kept p.frames p.works p.point p.flushed (own_shown g.V.Vault p) (same_done g.V.Vault p c.self.invariant c.read_block.new.self e.kept e.held)

pub returns-clause-read : goal.returns-clause-read
returns-clause-read g c =
    let p = c.self.inside in
    subst (λ (x : Part). IfOk c.read_block.result (ReadsWhole (AreFilesOf x.relseg x.disk) c.args.at c.args.into.now c.read_block.new.into)) c.self.view_is
    (ok_map c.read_block.result (ReadsWhole (HoldsStore g.V.Vault p.disk) c.args.at c.args.into.now c.read_block.new.into) (ReadsWhole (AreFilesOf p.disk.relseg (g.V.Vault.files p.disk.area)) c.args.at c.args.into.now c.read_block.new.into)
    (λ there reads s told. reads s (each_held g.V.Vault p c.self.invariant c.know_all.ensures s told)) c.read_block.ensures.whole)

pub returns-clause-known : goal.returns-clause-known
returns-clause-known g c =
    let p = c.self.inside in
    let e = c.read_block.ensures in
    known g.V.Vault (record { disk = c.read_block.new.self; frames = p.frames; works = p.works; point = p.point; flushed = p.flushed })
    (holds_again g.V.Vault p c.self.invariant c.read_block.new.self e.kept p.frames p.works p.point p.flushed (own_shown g.V.Vault p) (same_done g.V.Vault p c.self.invariant c.read_block.new.self e.kept e.held))

pub returns-clause-whole : goal.returns-clause-whole
returns-clause-whole g c =
    let p = c.self.inside in
    let e = c.read_block.ensures in
    subst AreWholePages (sym (shown_again g.V.Vault p c.self.invariant c.read_block.new.self e.kept p.frames p.works.items (λ other. refl) (same_done g.V.Vault p c.self.invariant c.read_block.new.self e.kept e.held)))
    (whole_pages g.V.Vault p c.know.ensures c.self.invariant)

pub returns-clause-same : goal.returns-clause-same
returns-clause-same g c =
    let p = c.self.inside in
    let e = c.read_block.ensures in
    same_unwritten g.V.Vault p c.args.self.now c.self.view_is c.read_block.new.self (shown_again g.V.Vault p c.self.invariant c.read_block.new.self e.kept p.frames p.works.items (λ other. refl) (same_done g.V.Vault p c.self.invariant c.read_block.new.self e.kept e.held))
