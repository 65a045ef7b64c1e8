-- By this a proof tells what partitions hold apart.
use Rattle.std.specs.Prelude.{ℕ, List, Option}
use Rattle.std.specs.Coded.{Coded, code_by, coded×, coded⊎, coded_list, coded_option, coded_ℕ}
use Rattle.std.specs.FinMap.{code}
use mathlib.Core.Path.{refl}
use Rattle.lsn_core.specs.Files.{Files}
use Rattle.lsn_core.specs.Store.{Store}
use Rattle.vault.specs.Stops.{Event}
use Rattle.page_frames.specs.Marks.{DirtyMarks}
use Rattle.lsn_core.specs.contracts.ids.ForkId as fork_row
use Rattle.history.specs.Pages.{store_code}
use Rattle.page_frames.specs.Framed.{Framed, framed_code}
use Rattle.page_pool.specs.declared.work.Pending.{Pending}
use Rattle.page_pool.specs.contracts.work.Pending.{the_row}
use Rattle.page_pool.specs.Part.{Part}

abbrev pub files_code : Coded Files
files_code = code (coded_list coded_ℕ) (coded_list coded_ℕ)

abbrev pub event_code : Coded Event
event_code =
    coded⊎ (coded× (coded_list coded_ℕ) (coded× coded_ℕ (coded_list coded_ℕ)))
    (coded⊎ (coded× (coded_list coded_ℕ) coded_ℕ)
    (coded⊎ (coded_list coded_ℕ) (coded_option files_code)))

abbrev pub marks_code : Coded DirtyMarks
marks_code = code fork_row.the_row.coded (coded_list (coded_option coded_ℕ))

-- what is held in memory, and what is told of the area, as pairs
abbrev pub Pool : Type 0
Pool = Store × (DirtyMarks × (List Pending × (ℕ × (ℕ × (Framed × ℕ)))))

abbrev pub Told : Type 0
Told = ℕ × (Option Files × (Option (List Event) × ℕ))

abbrev pub pool_code : Coded Pool
pool_code =
    coded× store_code (coded× marks_code (coded× (coded_list the_row.coded)
    (coded× coded_ℕ (coded× coded_ℕ (coded× framed_code coded_ℕ)))))

abbrev pub told_code : Coded Told
told_code =
    coded× coded_ℕ (coded× (coded_option files_code)
    (coded× (coded_option (coded_list event_code)) coded_ℕ))

abbrev pub pool_of : Part → Pool
pool_of p = (p.frames, (p.marks, (p.works, (p.point, (p.flushed, (p.framed, p.work_room))))))

abbrev pub told_of : Part → Told
told_of p = (p.relseg, (p.disk, (p.past, p.faults)))

abbrev pub part_of_pairs : Pool → Told → Part
part_of_pairs p t = record {
  frames = p.0;
  marks = p.1.0;
  works = p.1.1.0;
  point = p.1.1.1.0;
  flushed = p.1.1.1.1.0;
  framed = p.1.1.1.1.1.0;
  work_room = p.1.1.1.1.1.1;
  relseg = t.0;
  disk = t.1.0;
  past = t.1.1.0;
  faults = t.1.1.1;
}

abbrev pub part_code : Coded Part
part_code =
    code_by (Pool × Told) (coded× pool_code told_code)
    (λ p. (pool_of p, told_of p)) (λ t. part_of_pairs t.0 t.1) (λ _. refl)
