use Rattle.std.proofs.Common.{refl}
use Rattle.page_pool.specs.Told.{told_page}
use Rattle.page_pool.proofs.OnDisk.{frames_alike}
use Rattle.page_pool.proofs.Roomed.{held_same, turned, untouched}
use Rattle.page_pool.proofs.partition.Partition.trim.Goals as goal

pub invariant_of-self : goal.invariant_of-self
invariant_of-self g c =
    let p = c.self.inside in
    let h = c.trim.new.self in
    let e = c.trim.ensures in
    turned g.V.Vault p c.self.invariant p.disk refl (untouched g.V.Vault p.disk.area) (λ s held. held) h (λ told. frames_alike (told_page p.disk.relseg (g.V.Vault.files p.disk.area)) p.frames h (λ other. (held_same other p.frames h e.lengths e.held).0))
    (held_same (told_page p.disk.relseg (g.V.Vault.files p.disk.area)) p.frames h e.lengths e.held).1 p.works refl
