-- A removal of another file changes only it.
use Rattle.std.proofs.Common.{sym, ap, ◌∙◌, true≢false}
use Rattle.std.specs.Prelude.{bytes_eq}
use Rattle.std.proofs.lemmas.Slice.Eq.{bytes_eq-Decides}
use Rattle.data_areas.specs.Marking.{rebuilding_name, IsOther}
use Rattle.data_areas.proofs.Marks.{removal_changes}
use Rattle.data_areas.proofs.marking.remove_other.Goals as goal

pub returns-clause-changes : goal.returns-clause-changes
returns-clause-changes g c =
    let r = c.remove.ensures in
    let name = c.args.name.now in
    let tested = ap (bytes_eq name) c.as_slice.ensures in
    let other : IsOther name =
    λ same. true≢false (sym ((bytes_eq-Decides name rebuilding_name).1 same) ∙ sym tested ∙ sym c.eq.ensures ∙ c.if-eq.false) in
    removal_changes g.V.Vault IsOther name c.args.area.now c.remove.new.self c.remove.result other r.removed r.memory r.failed r.noted r.tried r.cause.later
