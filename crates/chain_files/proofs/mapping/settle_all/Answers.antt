-- Each member is asked in turn.
use Rattle.std.proofs.Common.{◌≡◌, ◌+◌, ◌-◌, ℕ, List, Option, IfSome, subst, sym, ◌∙◌, arith, rules, inl, inr}
use Rattle.std.specs.List.{AllByRecursion}
use Rattle.lsn_core.specs.byte_words.Told.{when_both_told, when_told}
use Rattle.lsn_core.specs.Files.{Files}
use Rattle.chain_files.specs.Told.{chain_told, FailsAt}
use Rattle.chain_files.specs.Inside.{HasPart, AreSaid}
use Rattle.chain_files.proofs.Told.{reads_refl, reads_trans, reads_told, places_kept, fails_later}
use Rattle.chain_files.proofs.Members.{told_all, handed_on}
use Rattle.chain_files.proofs.Blocks.{all_said}
use Rattle.chain_files.proofs.mapping.settle_all.Goals as goal

pub loop-left-init : goal.loop-left-init
loop-left-init g c = record {
  within = omega arith;
  said = told_all (chain_told g.V.Vault c.args.areas.now c.args.places.now) _ (λ chain all before. before);
  kept = (search rules);
  reads = reads_refl g.V.Vault c.args.areas.now;
}

pub settle_by-requires-clause-places : goal.settle_by-requires-clause-places
settle_by-requires-clause-places g c = λ κs lives. places_kept g.V.Vault c.args.areas.now c.loop-left.areas c.loop-left.invariant.reads c.args.places.now c.requires.places

pub loop-left-preserved : goal.loop-left-preserved
loop-left-preserved g c =
    let one : c.loop-left.left - 1 + 1 ≡ c.loop-left.left = omega (arith, c.loop-left-test.true) in
    record {
      within = omega (arith, c.loop-left.invariant.within);
      said = when_both_told (chain_told g.V.Vault c.args.areas.now c.args.places.now) _ (λ chain. AllByRecursion (HasPart c.args.paths.now) chain → AreSaid chain c.args.paths.now (c.loop-left.left - 1 + 1) c.loop-left.slots → AreSaid chain c.args.paths.now (c.loop-left.left - 1) c.settle_by.new.slots) _
          (λ chain so_far next all before. next all (subst (λ (n : ℕ). AreSaid chain c.args.paths.now n c.loop-left.slots) (sym one) (so_far all before)))
          c.loop-left.invariant.said
          (subst (λ (o : Option (List Files)). IfSome o (λ chain. AllByRecursion (HasPart c.args.paths.now) chain → AreSaid chain c.args.paths.now (c.loop-left.left - 1 + 1) c.loop-left.slots → AreSaid chain c.args.paths.now (c.loop-left.left - 1) c.settle_by.new.slots))
          (reads_told g.V.Vault c.args.areas.now c.loop-left.areas c.loop-left.invariant.reads c.args.places.now) c.in_ok-settle_by.ensures.said);
      kept = c.settle_by.ensures.kept ∙ c.loop-left.invariant.kept;
      reads = reads_trans g.V.Vault c.args.areas.now c.loop-left.areas c.settle_by.new.areas c.loop-left.invariant.reads c.settle_by.ensures.reads;
    }

pub returns-in_err-settle_by-clause-reads : goal.returns-in_err-settle_by-clause-reads
returns-in_err-settle_by-clause-reads g c = reads_trans g.V.Vault c.args.areas.now c.loop-left.areas c.settle_by.new.areas c.loop-left.invariant.reads c.settle_by.ensures.reads

pub returns-in_err-settle_by-clause-cause : goal.returns-in_err-settle_by-clause-cause
returns-in_err-settle_by-clause-cause g c =
    handed_on c.from_residual.result c.in_err-settle_by.field-0.0 (FailsAt g.V.Vault c.args.areas.now c.settle_by.new.areas) c.from_residual.ensures.1
    (fails_later g.V.Vault c.args.areas.now c.loop-left.areas c.settle_by.new.areas c.in_err-settle_by.field-0.0 c.loop-left.invariant.reads c.in_err-settle_by.ensures.cause)

pub returns-else-has_open-clause-said : goal.returns-else-has_open-clause-said
returns-else-has_open-clause-said g c =
    when_told (chain_told g.V.Vault c.args.areas.now c.args.places.now) (λ chain. AllByRecursion (HasPart c.args.paths.now) chain → AreSaid chain c.args.paths.now c.args.count c.args.slots.now → AreSaid chain c.args.paths.now c.loop-left.left c.loop-left.slots) _
    (λ chain so_far all before. all_said chain c.args.paths.now c.loop-left.left c.loop-left.slots (inl (sym c.has_open.ensures ∙ c.if-has_open.false)) (so_far all before))
    c.loop-left.invariant.said

pub returns-after-loop-left-clause-said : goal.returns-after-loop-left-clause-said
returns-after-loop-left-clause-said g c =
    when_told (chain_told g.V.Vault c.args.areas.now c.args.places.now) (λ chain. AllByRecursion (HasPart c.args.paths.now) chain → AreSaid chain c.args.paths.now c.args.count c.args.slots.now → AreSaid chain c.args.paths.now c.loop-left.left c.loop-left.slots) _
    (λ chain so_far all before. all_said chain c.args.paths.now c.loop-left.left c.loop-left.slots (inr (omega (arith, c.loop-left-test.false))) (so_far all before))
    c.loop-left.invariant.said
