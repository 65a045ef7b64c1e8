use Rattle.std.proofs.Common.{rules, tests}
use Rattle.std.proofs.lemmas.Iterator.{YieldsList-from_slice}
use Rattle.std.proofs.lemmas.Iterator.Search.{any_from_yields_List}
use Rattle.vault_os.specs.Paths.{is_no_letter}
use Rattle.vault_os.proofs.paths.has_no_letter.Goals as goal

pub returns : goal.returns
returns c = any_from_yields_List is_no_letter _ _ _ c.any.ensures.ran (YieldsList-from_slice c.args.part.now cc) (λ x b q k. search (rules, tests))
