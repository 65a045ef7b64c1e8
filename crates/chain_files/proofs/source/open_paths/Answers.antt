-- The paths are those of the file.
use Rattle.std.proofs.Common.{Option, Some, None, IfSome, subst}
use Rattle.std.specs.List.{AllByRecursion}
use Rattle.lsn_core.specs.byte_words.Told.{when_told}
use Rattle.chain_files.specs.Told.{chain_told}
use Rattle.chain_files.specs.Inside.{HasPart, ArePagesOf}
use Rattle.chain_files.specs.declared.mapping.SourcePages.{SourcePages}
use Rattle.chain_files.proofs.Files.{source_of, source_none, have_parts}
use Rattle.chain_files.proofs.source.open_paths.Goals as goal

pub returns-in-Some-clause-source : goal.returns-in-Some-clause-source
returns-in-Some-clause-source g c =
    when_told (chain_told g.V.Vault c.args.areas.now c.args.places.now) (λ chain. AllByRecursion (HasPart c.args.paths) chain → ArePagesOf chain c.args.paths (Some c.in-Some.pages)) _
    (λ chain found forms folder name are. source_of chain folder name c.args.paths c.in-Some.pages are (found (have_parts folder name c.args.paths chain are forms)))
    (subst (λ (found : Option SourcePages). IfSome (chain_told g.V.Vault c.args.areas.now c.args.places.now) (λ chain. AllByRecursion (HasPart c.args.paths) chain → ArePagesOf chain c.args.paths found)) c.in-Some.is c.in_ok-pages.ensures.pages)

pub returns-in-None-clause-source : goal.returns-in-None-clause-source
returns-in-None-clause-source g c =
    when_told (chain_told g.V.Vault c.args.areas.now c.args.places.now) (λ chain. AllByRecursion (HasPart c.args.paths) chain → ArePagesOf chain c.args.paths None) _
    (λ chain found forms folder name are. source_none chain folder name c.args.paths are (found (have_parts folder name c.args.paths chain are forms)))
    (subst (λ (found : Option SourcePages). IfSome (chain_told g.V.Vault c.args.areas.now c.args.places.now) (λ chain. AllByRecursion (HasPart c.args.paths) chain → ArePagesOf chain c.args.paths found)) c.in-None.is c.in_ok-pages.ensures.pages)
