use Rattle.lsn_core.specs.Shown.{Turns}
use Rattle.vault.specs.Frame.{OnlyReads}
use Rattle.rel_files.specs.Shown.{ShowsStore}
use Rattle.pgbackup_cli.proofs.drill_command.Hashed.{HashesFirst}
use Rattle.pgbackup_cli.proofs.drill_command.contents.hash_fork.Given as goal

-- so many pages were hashed
abbrev pub invariant-loop-block : goal.invariant-loop-block
invariant-loop-block g l = record {
  hashed : HashesFirst (ShowsStore g.V.Vault l.fn.forks) l.len l.block l.fn.hasher l.hasher;
  held : Turns (ShowsStore g.V.Vault) l.fn.forks l.forks (λ s. s);
  reads : OnlyReads g.V.Vault l.fn.forks.area l.forks.area;
}
