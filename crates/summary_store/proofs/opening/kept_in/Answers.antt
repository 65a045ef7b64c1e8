use Rattle.std.proofs.Common.{rules, IfSome, subst, ◌∷◌, ◌≡◌}
use Rattle.summary_store.specs.Inside.{KeepsNext}
use Rattle.summary_store.proofs.Keeping.{IsSoFar, told, told_on, at_last, no_length}
use Rattle.summary_store.proofs.opening.kept_in.Goals as goal

pub loop-name-preserved : goal.loop-name-preserved
loop-name-preserved g c =
    let split : c.loop-name.left.now ≡ c.in-Some.name.now ∷ c.in-Some.behind.now = c.in-Some.ensures.cases.0 in
    record {
      kept = told_on (g.V.Vault.files c.args.area.now) (g.V.Vault.files c.loop-name.area) c.in-Some.name.now c.in-Some.behind.now c.loop-name.sums.items c.keep_next.new.sums.items
          c.loop-name.invariant.reads.files
          (subst (λ n. IfSome (g.V.Vault.files c.loop-name.area) (λ m. KeepsNext m n c.loop-name.sums.items c.keep_next.new.sums.items)) c.as_bytes.ensures c.in_ok-keep_next.ensures.kept)
          (subst (λ l. IfSome (g.V.Vault.files c.args.area.now) (λ m. IsSoFar m l c.loop-name.sums.items)) split c.loop-name.invariant.kept);
      order = search rules;
      reads = search rules;
    }

pub returns-clause-kept : goal.returns-clause-kept
returns-clause-kept g c =
    told (g.V.Vault.files c.args.area.now) (λ m. at_last m c.loop-name.left.now c.loop-name.sums.items (no_length c.loop-name.left.now c.in_default.ensures.cases)) c.loop-name.invariant.kept
