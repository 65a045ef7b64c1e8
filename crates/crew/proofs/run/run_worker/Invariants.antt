use Rattle.std.proofs.Common.{◌≡◌, ◌≤◌, true, length, take}
use Rattle.std.specs.Vec.{vec_len, vec_capacity}
use Rattle.vault.specs.Lending.{AreLater}
use Rattle.crew.specs.Backups.{areas_of}
use Rattle.crew.specs.Run.{basis_of}
use Rattle.crew.proofs.Ran.{IsRunning}
use Rattle.crew.proofs.run.run_worker.Given as goal

-- the lines before this one were run, and each answer found room
abbrev pub invariant-loop-line : goal.invariant-loop-line
invariant-loop-line g l = record {
  len : vec_len l.answers ≡ l.line-index;
  room : length l.lines ≤ vec_capacity l.answers;
  running : IsRunning (g.J.OfStore.tells ≡ true) (basis_of g.J.OfCrew.settings l.when g.J.OfCrew.found g.J.OfCrew.sums g.J.OfRetention.limit) l.fn.pass l.pass (areas_of g.V.Vault l.fn.held) (areas_of g.V.Vault l.held) (take l.line-index l.lines) l.answers.items l.stopped;
  later : AreLater g.V.Vault l.fn.held l.held;
}
