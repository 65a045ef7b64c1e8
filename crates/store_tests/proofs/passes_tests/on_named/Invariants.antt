-- The store is begun at what was found of it, its ledgers are those that are handed over, and it has so many
-- workers as it is to have.
use Rattle.std.proofs.Common.{None}
use Rattle.std.specs.Option.{is_some}
use Rattle.std.specs.Prelude.{if◌then◌else◌, ◌==◌}
use Rattle.store_tests.proofs.passes_tests.on_named.Given as goal

abbrev pub ghosts-on_found-J-OfTimeline : goal.ghosts-on_found-J-OfTimeline
ghosts-on_found-J-OfTimeline g a = record { table = a.found.opened.table }

abbrev pub ghosts-on_found-J-OfStore : goal.ghosts-on_found-J-OfStore
ghosts-on_found-J-OfStore g a = record { tells = is_some (g.V.Vault.files a.found.wal) }

abbrev pub ghosts-on_found-J-OfLedgers : goal.ghosts-on_found-J-OfLedgers
ghosts-on_found-J-OfLedgers g a = record {
  entries_named = λ q. if q == 0 then a.blanks.entries0.name else (if q == 1 then a.blanks.entries1.name else (if q == 2 then a.blanks.entries2.name else a.blanks.entries3.name));
  faults_named = λ q. if q == 0 then a.blanks.data0.name else (if q == 1 then a.blanks.data1.name else (if q == 2 then a.blanks.data2.name else (if q == 3 then a.blanks.data3.name else (if q == 4 then a.blanks.wal.name else a.blanks.sums.name))));
  made_named = a.blanks.made.name;
  passes = a.passes;
}

abbrev pub ghosts-on_found-J-OfCrew : goal.ghosts-on_found-J-OfCrew
ghosts-on_found-J-OfCrew g a = record {
  settings = a.found.settings;
  found = a.found.opened.list;
  wal = record { files = g.V.Vault.files a.found.wal; flushed = a.found.tip.end };
  starts = λ q. if q == 0 then a.found.parts.part0.faults else (if q == 1 then a.found.parts.part1.faults else (if q == 2 then a.found.parts.part2.faults else (if q == 3 then a.found.parts.part3.faults else g.V.Vault.faults a.found.wal)));
  workers = a.passes;
  sums = None;
}
