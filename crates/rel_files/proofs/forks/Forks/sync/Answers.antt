use Rattle.std.proofs.Common.{refl}
use Rattle.rel_files.proofs.ForkFrames.{sync_changes}
use Rattle.rel_files.proofs.FileCalls.{same_held}
use Rattle.rel_files.proofs.forks.Forks.sync.Goals as goal

pub returns-clause-held : goal.returns-clause-held
returns-clause-held g c s h =
    let old = c.args.self.now in
    record { files = same_held old.relseg (g.V.Vault.files old.area) (g.V.Vault.files c.sync.new.self) s c.sync.ensures.same h.files; known = h.known }

pub returns-clause-kept : goal.returns-clause-kept
returns-clause-kept g c = record {
  relseg = refl;
  area = sync_changes g.V.Vault c.args.self.now.area c.sync.new.self c.sync.result c.sync.ensures.same c.sync.ensures.noted c.sync.ensures.tried c.sync.ensures.cause.later;
}
