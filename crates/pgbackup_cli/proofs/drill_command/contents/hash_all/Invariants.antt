use Rattle.lsn_core.specs.Shown.{Turns}
use Rattle.vault.specs.Frame.{OnlyReads}
use Rattle.rel_files.specs.Shown.{ShowsStore}
use Rattle.pgbackup_cli.proofs.drill_command.Hashed.{HashesForks}
use Rattle.pgbackup_cli.proofs.drill_command.contents.hash_all.Given as goal

-- so many forks were hashed
abbrev pub invariant-loop-len : goal.invariant-loop-len
invariant-loop-len g l = record {
  hashed : HashesForks (ShowsStore g.V.Vault l.fn.forks) l.len-index l.fn.hasher l.hasher;
  held : Turns (ShowsStore g.V.Vault) l.fn.forks l.forks (λ s. s);
  reads : OnlyReads g.V.Vault l.fn.forks.area l.forks.area;
}
