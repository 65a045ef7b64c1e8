use Rattle.std.proofs.Common.{length, Some, None, sym, ap, ◌∙◌}
use Rattle.std.specs.FinMap.{get}
use Rattle.std.specs.Option.{option_map}
use Rattle.lsn_core.specs.Store.{Store}
use Rattle.history.proofs.StoreMap.{get_found}
use Rattle.history.proofs.page_map.PageMap.blocks.Goals as goal

pub returns-in-Some : goal.returns-in-Some
returns-in-Some c =
    ap (λ n. Some n) (c.len.ensures ∙ c.in-Some.pages.now.ok.0) ∙ sym (ap (option_map length) (get_found c.self.inside.forks c.args.fork.now (Some c.in-Some.pages.now) c.in-Some.ensures.value)) ∙ ap (λ (s : Store). option_map length (get s c.args.fork.now)) c.self.view_is

pub returns-in-None : goal.returns-in-None
returns-in-None c =
    sym (ap (option_map length) (get_found c.self.inside.forks c.args.fork.now None c.in-None.ensures.value)) ∙ ap (λ (s : Store). option_map length (get s c.args.fork.now)) c.self.view_is
