use Rattle.std.proofs.Common.{Option, Some, None, sym, ap, ◌∙◌}
use Rattle.std.specs.Prelude.{slice_get}
use Rattle.lsn_core.specs.Store.{Store, ForkPages}
use Rattle.lsn_core.specs.byte_words.Numbers.{◌>>=◌}
use Rattle.lsn_core.specs.Blocks.{block_of}
use Rattle.history.proofs.StoreMap.{get_found}
use Rattle.history.proofs.page_map.PageMap.block.Goals as goal

pub returns-in-Some : goal.returns-in-Some
returns-in-Some c =
    c.page_at.ensures ∙ ap (λ (ps : ForkPages). slice_get ps c.args.at.now.block) c.deref.ensures.value
    ∙ sym (ap (λ (o : Option ForkPages). o >>= λ ps. slice_get ps c.args.at.now.block) (get_found c.self.inside.forks c.args.at.now.fork (Some c.in-Some.pages.now) c.in-Some.ensures.value))
    ∙ ap (λ (s : Store). block_of s c.args.at.now.fork c.args.at.now.block) c.self.view_is

pub returns-in-None : goal.returns-in-None
returns-in-None c =
    sym (ap (λ (o : Option ForkPages). o >>= λ ps. slice_get ps c.args.at.now.block) (get_found c.self.inside.forks c.args.at.now.fork None c.in-None.ensures.value))
    ∙ ap (λ (s : Store). block_of s c.args.at.now.fork c.args.at.now.block) c.self.view_is
