use Rattle.std.proofs.Common.{eqb, rules, tests}
use Rattle.std.proofs.lemmas.Iterator.Search.{all_from_yields_List}
use Rattle.std.proofs.lemmas.Iterator.Splits.{YieldsList-from_slice_split}
use Rattle.vault_os.specs.Paths.{is_name_part, leads_below}
use Rattle.vault_os.proofs.paths.leads_below.Goals as goal

pub returns : goal.returns
unfolding leads_below
returns c = all_from_yields_List is_name_part _ _ _ c.all.ensures.ran (YieldsList-from_slice_split _ (λ b. eqb b 47) c.args.name.now c.split.ensures.rest c.split.ensures.done c.split.ensures.closure (λ x b q k. search (rules, tests))) (λ x b q k. search (rules, tests))
