use Rattle.std.proofs.Common.{List, take, drop, sym, ap, subst, ◌∙◌}
use Rattle.vault.specs.Record.{told, changes_of}
use Rattle.vault.specs.Stops.{MayLeave}
use Rattle.memory_vault.specs.Stopped.{pick_of, left_since, IsSplitAt}
use Rattle.memory_vault.specs.Memory.{MemoryArea}
use Rattle.vault.specs.declared.change.Change.{Change as Kept}
use Rattle.memory_vault.specs.declared.stopped.Pick.{Pick}
use Rattle.memory_vault.proofs.Honest.{picked_left}
use Rattle.memory_vault.proofs.Picked.{stopped_files}
use Rattle.memory_vault.proofs.memory.MemVault.stopped.Goals as goal

pub returns-clause-files : goal.returns-clause-files
returns-clause-files c =
    let kept = c.self.inside.changes.items in
    let count = c.durable_count.result in
    let back = c.split_at.result.1.now in
    ap (λ (a : MemoryArea). a.files) c.in_ok-settle.ensures.made
    ∙ stopped_files count (pick_of c.args.pick) kept c.split_at.result.0.now back c.args.self.now.changes c.in_ok-area.area.files c.redo_all.new.self.files c.redo_all-2.new.self.files
    (ap (λ (a : MemoryArea). a.changes) c.self.view_is)
    (subst (IsSplitAt count) c.deref-2.ensures.value c.durable_count.ensures.splits)
    (c.split_at.ensures.front ∙ ap (λ (l : List Kept). take count l) c.deref.ensures.value)
    (c.split_at.ensures.back ∙ ap (λ (l : List Kept). drop count l) c.deref.ensures.value)
    (ap (λ (a : MemoryArea). a.files) c.in_ok-area.ensures)
    c.in_ok-redo_all.ensures.files
    (c.in_ok-redo_all-2.ensures.files ∙ ap (λ (pick : Pick). left_since pick (changes_of back) c.redo_all.new.self.files) c.of.ensures)

pub returns-clause-left : goal.returns-clause-left
returns-clause-left c =
    subst (MayLeave (told c.args.self.now.changes)) (sym (returns-clause-files c)) (picked_left (pick_of c.args.pick) c.args.self.now.changes)
