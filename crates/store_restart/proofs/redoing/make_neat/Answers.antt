-- Segment files are made neat, and then synced.
use Rattle.data_areas.proofs.Marks.{anyway}
use Rattle.store_restart.proofs.Neatened.{synced_neat, synced_keep, synced_fork}
use Rattle.store_restart.proofs.redoing.make_neat.Goals as goal

pub returns-clause-neat : goal.returns-clause-neat
returns-clause-neat g c = anyway c.sync_all.result _ (synced_neat g.V.Vault c.args.relseg c.neaten_all.new.areas c.sync_all.new.areas c.in_ok-neaten_all.ensures.neat c.sync_all.ensures.changes)

pub returns-clause-keeps : goal.returns-clause-keeps
returns-clause-keeps g c =
    synced_keep g.V.Vault c.args.relseg c.args.areas.now c.neaten_all.new.areas c.sync_all.new.areas c.in_ok-neaten_all.ensures.keeps c.sync_all.ensures.changes

pub returns-clause-changes : goal.returns-clause-changes
returns-clause-changes g c =
    synced_fork g.V.Vault c.args.areas.now c.neaten_all.new.areas c.sync_all.new.areas c.in_ok-neaten_all.ensures.changes c.sync_all.ensures.changes
