use Rattle.vault.specs.Site.{AllHome}
use Rattle.memory_vault.specs.MemorySite.{areas_of}
use Rattle.call_rows.proofs.stage.site_with.Given as goal

abbrev pub invariant-loop-name : goal.invariant-loop-name
invariant-loop-name l = AllHome (areas_of l.site)
