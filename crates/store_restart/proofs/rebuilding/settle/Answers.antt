-- Where nothing was filled nothing is settled.
use Rattle.std.proofs.Common.{inl}
use Rattle.rel_files.proofs.ForkFrames.{changes_none}
use Rattle.store_restart.specs.Restart.{IsForkOrMark}
use Rattle.store_restart.proofs.rebuilding.settle.Goals as goal

pub returns-in-Err-clause-changes : goal.returns-in-Err-clause-changes
returns-in-Err-clause-changes g c = record {
  data0 = changes_none g.V.Vault IsForkOrMark c.args.areas.data0;
  data1 = changes_none g.V.Vault IsForkOrMark c.args.areas.data1;
  data2 = changes_none g.V.Vault IsForkOrMark c.args.areas.data2;
  data3 = changes_none g.V.Vault IsForkOrMark c.args.areas.data3;
}

pub returns-in-Err-clause-moments : goal.returns-in-Err-clause-moments
returns-in-Err-clause-moments g c = inl (record {
  data0 = changes_none g.V.Vault (λ name. ⊥) c.args.areas.data0;
  data1 = changes_none g.V.Vault (λ name. ⊥) c.args.areas.data1;
  data2 = changes_none g.V.Vault (λ name. ⊥) c.args.areas.data2;
  data3 = changes_none g.V.Vault (λ name. ⊥) c.args.areas.data3;
})
