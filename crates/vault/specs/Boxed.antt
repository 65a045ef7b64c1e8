-- Areas on the heap.
use Rattle.std.specs.Prelude.{box_value}
use Rattle.vault.specs.declared.area.Vault.{Ghosts}
use Rattle.vault.specs.declared.boxed.BoxedArea.{BoxedArea}

-- what is known of areas is known of them where they are on the heap
abbrev pub on_heap : {V : Type 0} → Ghosts V → Ghosts (BoxedArea V)
on_heap g = record {
  files = λ b. g.files (box_value b.area);
  faults = λ b. g.faults (box_value b.area);
  past = λ b. g.past (box_value b.area);
}
