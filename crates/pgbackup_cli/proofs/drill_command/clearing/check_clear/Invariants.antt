use Rattle.std.proofs.Common.{take, map, []}
use Rattle.command_base.specs.Outside.{of_site, Works}
use Rattle.vault.specs.Site.{AllHome}
use Rattle.pgbackup_cli.specs.drill_command.Clearing.{AreClear}
use Rattle.pgbackup_cli.proofs.drill_command.clearing.check_clear.Given as goal

-- so many areas hold no file
abbrev pub invariant-loop-name : goal.invariant-loop-name
invariant-loop-name g l = record {
  clear : AreClear (take l.name-index (map (λ name. name.now) l.names)) (g.S.Site.areas l.fn.site);
  reads : Works [] (of_site g.S.Site l.fn.site) (of_site g.S.Site l.site);
  home : AllHome (g.S.Site.areas l.site);
}
