-- By this a proof tells the values under the partitions' locks apart.
use Rattle.std.specs.Prelude.{List}
use Rattle.std.specs.Coded.{Coded, code_by, coded×, coded_list}
use mathlib.Core.Path.{refl}
use Rattle.history.specs.Entry.{Entry}
use Rattle.journal.specs.contracts.entry.HistoryEntry.{the_row}
use Rattle.page_pool.specs.Part.{Part}
use Rattle.page_pool.specs.PartCode.{part_code}
use Rattle.store_locks.specs.Locked.{Shown}

abbrev pub shown_code : Coded Shown
shown_code =
    code_by (List Entry × Part) (coded× (coded_list the_row.coded) part_code)
    (λ s. (s.list, s.part)) (λ t. record { list = t.0; part = t.1 }) (λ _. refl)
