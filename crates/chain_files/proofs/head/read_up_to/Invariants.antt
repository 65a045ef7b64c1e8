use Rattle.std.proofs.Common.{◌-◌, length, IfSome}
use Rattle.vault.specs.Area.{bytes_of}
use Rattle.vault.specs.Frame.{OnlyReads}
use Rattle.chain_files.specs.Inside.{ShowsFrom, GoesOn}
use Rattle.chain_files.proofs.head.read_up_to.Given as goal

-- what is there so far goes on behind the beginning, and is the file's
abbrev pub invariant-loop-alloc : goal.invariant-loop-alloc
invariant-loop-alloc g l = record {
  reads : OnlyReads g.V.Vault l.fn.area l.area;
  more : GoesOn l.fn.bytes.items l.bytes.items;
  shown : IfSome (g.V.Vault.files l.fn.area) (λ m. ShowsFrom (bytes_of m l.path) 0 l.fn.bytes.items → ShowsFrom (bytes_of m l.path) 0 l.bytes.items);
}

abbrev pub decreases-loop-alloc : goal.decreases-loop-alloc
decreases-loop-alloc g l = l.size - length l.bytes.items
