-- Settings are read in one way.
use Rattle.wal_reader.proofs.OneSettings.{one_settings, settings_or_refused, one_refusal}
use Rattle.wal_reader.proofs.laws.settings_are_read_in_one_way.Goals as goal

pub returns-clause-settings : goal.returns-clause-settings
returns-clause-settings c = one_settings

pub returns-clause-refused : goal.returns-clause-refused
returns-clause-refused c = settings_or_refused

pub returns-clause-fault : goal.returns-clause-fault
returns-clause-fault c = one_refusal
