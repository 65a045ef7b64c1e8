use Rattle.std.proofs.Common.{◌≡◌, List, Some, refl, ap, sym, ◌∙◌}
use Rattle.std.specs.Prelude.{slice_get}
use Rattle.std.specs.Option.{option_copied}
use Rattle.page_pool.specs.declared.work.Pending.{Pending}
use Rattle.page_pool.specs.Part.{Part}
use Rattle.page_pool.proofs.InTurn.{first_item}
use Rattle.page_pool.proofs.partition.Partition.next_work.Goals as goal

pub returns-clause-first : goal.returns-clause-first
returns-clause-first g c =
    let p = c.self.inside in
    let first = c.in_ok-first.field-0.now in
    let at : slice_get p.works.items 0 ≡ Some first =
    ap (λ (ws : List Pending). slice_get ws 0) (sym c.deref.ensures.value) ∙ sym c.first.ensures.value ∙ ap option_copied c.in_ok-first.was in
    let rest = first_item p.works.items first at in
    record { first = first; rest = rest.0; works = sym (ap (λ (x : Part). x.works) c.self.view_is) ∙ rest.1; is = refl }
