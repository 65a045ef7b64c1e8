use Rattle.std.proofs.Common.{Some, None, sym, ap, ◌∙◌}
use Rattle.std.specs.Prelude.{slice_get}
use Rattle.std.specs.FinMap.{get}
use Rattle.lsn_core.specs.Store.{Store, ForkPages}
use Rattle.lsn_core.specs.Blocks.{with_block, pages_of}
use Rattle.history.proofs.StoreMap.{get_found}
use Rattle.history.proofs.UndoLaws.{unmade, shortened_at, restored}
use Rattle.history.proofs.page_map.PageMap.step_of.Goals as goal

pub returns-in-Some-page_at : goal.returns-in-Some-page_at
returns-in-Some-page_at c = λ page.
    restored c.args.self.now c.args.at.now c.in-Some.pages.now.items page c.in-Some-page_at.page.now
    (sym (ap (λ (s : Store). get s c.args.at.now.fork) c.self.view_is) ∙ get_found c.self.inside.forks c.args.at.now.fork (Some c.in-Some.pages.now) c.in-Some.ensures.value)
    (sym (c.in-Some-page_at.ensures ∙ ap (λ (ps : ForkPages). slice_get ps c.args.at.now.block) c.deref.ensures.value))

pub returns-in-None-page_at : goal.returns-in-None-page_at
returns-in-None-page_at c = λ page.
    shortened_at c.args.self.now c.args.at.now c.in-Some.pages.now.items c.len.result page
    (sym (ap (λ (s : Store). get s c.args.at.now.fork) c.self.view_is) ∙ get_found c.self.inside.forks c.args.at.now.fork (Some c.in-Some.pages.now) c.in-Some.ensures.value)
    (sym (c.in-None-page_at.ensures ∙ ap (λ (ps : ForkPages). slice_get ps c.args.at.now.block) c.deref.ensures.value))
    (c.len.ensures ∙ c.in-Some.pages.now.ok.0)

pub returns-in-None : goal.returns-in-None
returns-in-None c = λ page.
    unmade c.args.self.now c.args.at.now.fork (with_block (pages_of c.args.self.now c.args.at.now.fork) c.args.at.now.block page)
    (sym (ap (λ (s : Store). get s c.args.at.now.fork) c.self.view_is) ∙ get_found c.self.inside.forks c.args.at.now.fork None c.in-None.ensures.value)
