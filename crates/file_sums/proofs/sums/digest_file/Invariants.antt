use Rattle.std.proofs.Common.{◌-◌, ◌≡◌, ◌≤◌, length, take, IfSome}
use Rattle.vault.specs.Area.{bytes_of}
use Rattle.vault.specs.Frame.{OnlyReads}
use Rattle.file_sums.proofs.sums.digest_file.Given as goal

abbrev pub invariant-loop-at : goal.invariant-loop-at
invariant-loop-at g l = record {
  within : l.at ≤ l.size;
  long : length l.buffer ≡ length l.fn.buffer;
  reads : OnlyReads g.V.Vault l.fn.area l.area;
  held : IfSome (g.V.Vault.files l.fn.area) (λ m. g.D.Digest.holds l.hasher (take l.at (bytes_of m l.path)));
}

abbrev pub decreases-loop-at : goal.decreases-loop-at
decreases-loop-at g l = l.size - l.at
