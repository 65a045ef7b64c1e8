-- The store is begun at what was found of it, its ledgers are those that are handed over, and it has as
-- many passes as its script needs.
use Rattle.std.specs.Prelude.{box_value}
use Rattle.summary_store.specs.Expiry.{age_limit}
use Rattle.run_command.specs.Inner.{tell_found, entries_named, faults_named, passes_for, wal_start, starts_of}
use Rattle.run_command.proofs.running.run_named.Given as goal

abbrev pub ghosts-run_found-J-OfTimeline : goal.ghosts-run_found-J-OfTimeline
ghosts-run_found-J-OfTimeline g a = record { table = a.found.opened.table }

abbrev pub ghosts-run_found-J-OfStore : goal.ghosts-run_found-J-OfStore
ghosts-run_found-J-OfStore g a = record { tells = tell_found g.V.Vault a.found }

abbrev pub ghosts-run_found-J-OfLedgers : goal.ghosts-run_found-J-OfLedgers
ghosts-run_found-J-OfLedgers g a = record {
  entries_named = entries_named a.blanks;
  faults_named = faults_named a.blanks;
  made_named = a.blanks.made.name;
  passes = passes_for a.work.seats.items;
}

abbrev pub ghosts-run_found-J-OfCrew : goal.ghosts-run_found-J-OfCrew
ghosts-run_found-J-OfCrew g a = record {
  settings = a.found.settings;
  found = a.found.opened.list;
  wal = wal_start g.V.Vault a.found;
  starts = starts_of g.V.Vault a.found (box_value a.sums);
  workers = passes_for a.work.seats.items;
  sums = g.V.Vault.files (box_value a.sums);
}

abbrev pub ghosts-run_found-J-OfRetention : goal.ghosts-run_found-J-OfRetention
ghosts-run_found-J-OfRetention g a = record { limit = age_limit a.days a.when }
