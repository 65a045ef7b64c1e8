-- Where the numbers that stand there are out of range, no others stand there.
use Rattle.wal_reader.proofs.SettingsText.{none_read, range_found, range_none}
use Rattle.wal_reader.proofs.settings.settings_in.Goals as goal

pub returns-in-Some-clause-found : goal.returns-in-Some-clause-found
returns-in-Some-clause-found c = range_found c.args.bytes.now c.in-Some.mib c.in-Some.relseg c.in_range.result c.in-Some.ensures.found c.in_range.ensures.found

pub returns-in-Some-clause-none : goal.returns-in-Some-clause-none
returns-in-Some-clause-none c = range_none c.args.bytes.now c.in-Some.mib c.in-Some.relseg c.in_range.result c.in-Some.ensures.small.0 c.in-Some.ensures.small.1 c.in-Some.ensures.found c.in_range.ensures.none

pub returns-in-None-clause-none : goal.returns-in-None-clause-none
returns-in-None-clause-none c = none_read c.args.bytes.now c.in-None.ensures.none
