-- What is replayed into the forks of an empty area, and how that ends.
use Rattle.std.proofs.Common.{◌≡◌, ℕ, ◌<◌, ◌≤◌, Option, refl, ap, sym, subst, ◌∙◌}
use Rattle.lsn_core.specs.Files.{Files}
use Rattle.rel_files.specs.Shown.{AreFilesOf}
use Rattle.store_commands.specs.Inner.{FinishAnswer}
use Rattle.store_commands.proofs.ReplayedOut.{answered}
use Rattle.store_commands.proofs.replaying.replay_areas.Goals as goal

pub returns-clause-answer : goal.returns-clause-answer
returns-clause-answer g c =
    let files = g.V.Vault.files in
    let same : c.area-out.result ≡ c.replay-came.new.target.area = c.area-out.ensures in
    answered g.V.Vault _ c.args.upto c.args.wal.now c.args.out c.replay-came.new.wal c.finish-answer.new.out c.in-Ok.settings c.replay-came.result c.finish-answer.result (record {
      read = c.prepare.new.wal;
      old = c.new-forks.result;
      new = c.replay-came.new.target;
      shows = λ f s held. held;
      shown = λ f s held. held;
      faults = λ f. refl;
      clear = c.in-Ok.ensures.answer.0;
      given = c.in-Ok.ensures.answer.1;
      relseg = c.new-forks.ensures.relseg ∙ c.relseg.ensures.value;
      some = subst (λ (n : ℕ). 0 < n) c.relseg.ensures.value c.relseg.ensures.least;
      area = ap files c.new-forks.ensures.area ∙ c.in-Ok.ensures.out;
      held = λ s are. c.new-forks.ensures.held s
          (subst (λ (n : ℕ). AreFilesOf n (files c.prepare.new.out) s) (sym c.relseg.ensures.value)
          (subst (λ (f : Option Files). AreFilesOf c.in-Ok.settings.relseg f s) (ap files c.new-forks.ensures.area) are));
      kept = c.replay-came.ensures.kept;
      wal_files = c.in-Ok.ensures.wal.files;
      into = c.replay-came.ensures.answer;
      finish = subst (λ a. FinishAnswer g.V.Vault c.replay-came.result a c.finish-answer.new.out c.finish-answer.result) same c.finish-answer.ensures.answer;
      wal_faults = c.in-Ok.ensures.wal.faults;
      out_faults = subst (λ a. g.V.Vault.faults c.args.out ≤ g.V.Vault.faults a) (sym c.new-forks.ensures.area) c.in-Ok.ensures.out_later;
      later = c.replay-came.ensures.later;
      last = subst (λ a. g.V.Vault.faults a ≤ g.V.Vault.faults c.finish-answer.new.out) same c.finish-answer.ensures.later;
    })
