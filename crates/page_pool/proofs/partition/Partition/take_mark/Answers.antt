use Rattle.std.proofs.Common.{ℕ, ◌<◌, max, ap, subst, ◌∙◌}
use Rattle.lsn_core.specs.declared.lsn.Lsn.{Lsn}
use Rattle.page_pool.specs.Part.{Part}
use Rattle.page_pool.specs.Partition.{part_in}
use Rattle.page_pool.specs.Stops.{with_flushed}
use Rattle.page_pool.proofs.partition.Partition.take_mark.Goals as goal

pub invariant_of-self : goal.invariant_of-self
invariant_of-self g c = record {
  some = c.self.invariant.some;
  holds = λ told. let h = c.self.invariant.holds told in record { raw = h.raw; held = h.held; lacks = h.lacks; whole = h.whole };
}

pub returns-clause-marked : goal.returns-clause-marked
returns-clause-marked g c =
    let p = c.self.inside in
    ap (λ (n : ℕ). with_flushed n (part_in {V = g.row.V.Denot} {Q = g.row.Q} g.V.Vault p)) (c.max.ensures ∙ ap (λ (l : Lsn). max p.flushed.0 l.0) c.to.ensures)
    ∙ ap (λ (x : Part). with_flushed (max x.flushed c.args.mark.now.to.0) x) c.self.view_is

pub returns-clause-some : goal.returns-clause-some
returns-clause-some g c = subst (λ (x : Part). 0 < x.relseg) c.self.view_is c.self.invariant.some
