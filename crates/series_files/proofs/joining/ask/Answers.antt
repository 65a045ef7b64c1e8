-- Each member is asked in turn.
use Rattle.std.proofs.Common.{◌-◌, List, IfSome, length, take, get_or, true, false, refl, subst, sym, ◌∙◌, arith}
use Rattle.lsn_core.specs.Files.{Files}
use Rattle.chain_files.specs.Segments.{HasForms, form_at, forms_at}
use Rattle.chain_files.specs.Told.{chain_told, told_at, FailsAt}
use Rattle.chain_files.proofs.Told.{reads_refl, reads_trans, places_kept, fails_later}
use Rattle.series_files.specs.Inside.{Leaves, IsAsked, IsSeen}
use Rattle.series_files.specs.declared.seen.Seen.{Seen}
use Rattle.series_files.specs.declared.seen.Seen.TheVariants as seen
use Rattle.series_files.proofs.Asked.{when_all, all_members, handed_on, asked_next, asked_end, next_absent, next_plain, next_part}
use Rattle.series_files.proofs.joining.ask.Goals as goal

pub loop-left-init : goal.loop-left-init
loop-left-init g c = record {
  within = omega arith;
  places = c.requires.places;
  asked = when_all (chain_told g.V.Vault c.args.areas.now c.args.places.now) _ (λ chain told forms so_far.
      subst (λ (l : List Files). Leaves (forms_at chain c.args.folder.now c.args.name.now) (forms_at l c.args.folder.now c.args.name.now) c.args.answered.now)
      (sym (all_members g.V.Vault c.args.areas.now c.args.places.now chain (length c.args.places.now) told refl)) so_far);
  long = refl;
  least = omega arith;
  reads = reads_refl g.V.Vault c.args.areas.now;
}

pub returns-in_err-seen_at-clause-reads : goal.returns-in_err-seen_at-clause-reads
returns-in_err-seen_at-clause-reads g c = reads_trans g.V.Vault c.args.areas.now c.loop-left.areas c.seen_at.new.areas c.loop-left.invariant.reads c.seen_at.ensures.reads

pub returns-in_err-seen_at-clause-cause : goal.returns-in_err-seen_at-clause-cause
returns-in_err-seen_at-clause-cause g c =
    handed_on c.from_residual.result c.in_err-seen_at.field-0.0 (FailsAt g.V.Vault c.args.areas.now c.seen_at.new.areas) c.from_residual.ensures.1
    (fails_later g.V.Vault c.args.areas.now c.loop-left.areas c.seen_at.new.areas c.in_err-seen_at.field-0.0 c.loop-left.invariant.reads c.in_err-seen_at.ensures.cause)

pub returns-in-Absent-clause-reads : goal.returns-in-Absent-clause-reads
returns-in-Absent-clause-reads g c = reads_trans g.V.Vault c.args.areas.now c.loop-left.areas c.seen_at.new.areas c.loop-left.invariant.reads c.seen_at.ensures.reads

pub returns-in-Plain-clause-reads : goal.returns-in-Plain-clause-reads
returns-in-Plain-clause-reads g c = reads_trans g.V.Vault c.args.areas.now c.loop-left.areas c.seen_at.new.areas c.loop-left.invariant.reads c.seen_at.ensures.reads

pub returns-in-Absent-clause-asked : goal.returns-in-Absent-clause-asked
returns-in-Absent-clause-asked g c =
    asked_next g.V.Vault c.args.areas.now c.loop-left.areas c.args.places.now c.args.folder.now c.args.name.now c.loop-left.left c.args.answered.now c.loop-left.answered seen.Absent (λ chain. IsAsked (forms_at chain c.args.folder.now c.args.name.now) false c.loop-left.answered)
    c.loop-left.invariant.reads (omega (arith, c.loop-left-test.true)) c.loop-left.invariant.within c.loop-left.invariant.asked
    (subst (λ (s : Seen). IfSome (told_at g.V.Vault c.loop-left.areas (get_or c.args.places.now (c.loop-left.left - 1) 0)) (λ m. HasForms m → IsSeen (form_at c.args.folder.now c.args.name.now m) s)) c.in-Absent.is c.in_ok-seen_at.ensures.seen)
    (λ chain m all there is so_far. next_absent c.args.folder.now c.args.name.now chain c.loop-left.left m (omega (arith, c.loop-left-test.true)) all there (forms_at chain c.args.folder.now c.args.name.now) c.loop-left.answered is so_far)

pub returns-in-Plain-clause-asked : goal.returns-in-Plain-clause-asked
returns-in-Plain-clause-asked g c =
    asked_next g.V.Vault c.args.areas.now c.loop-left.areas c.args.places.now c.args.folder.now c.args.name.now c.loop-left.left c.args.answered.now c.loop-left.answered seen.Plain (λ chain. IsAsked (forms_at chain c.args.folder.now c.args.name.now) true c.loop-left.answered)
    c.loop-left.invariant.reads (omega (arith, c.loop-left-test.true)) c.loop-left.invariant.within c.loop-left.invariant.asked
    (subst (λ (s : Seen). IfSome (told_at g.V.Vault c.loop-left.areas (get_or c.args.places.now (c.loop-left.left - 1) 0)) (λ m. HasForms m → IsSeen (form_at c.args.folder.now c.args.name.now m) s)) c.in-Plain.is c.in_ok-seen_at.ensures.seen)
    (λ chain m all there is so_far. next_plain c.args.folder.now c.args.name.now chain c.loop-left.left m (omega (arith, c.loop-left-test.true)) all there (forms_at chain c.args.folder.now c.args.name.now) c.loop-left.answered is so_far)

pub loop-left-preserved : goal.loop-left-preserved
loop-left-preserved g c = record {
  within = omega (arith, c.loop-left.invariant.within);
  places = places_kept g.V.Vault c.loop-left.areas c.seen_at.new.areas c.seen_at.ensures.reads c.args.places.now c.loop-left.invariant.places;
  asked = asked_next g.V.Vault c.args.areas.now c.loop-left.areas c.args.places.now c.args.folder.now c.args.name.now c.loop-left.left c.args.answered.now c.loop-left.answered (seen.Part c.in-Part.head) (λ chain. Leaves (forms_at chain c.args.folder.now c.args.name.now) (forms_at (take (c.loop-left.left - 1) chain) c.args.folder.now c.args.name.now) c.add.new.self)
      c.loop-left.invariant.reads (omega (arith, c.loop-left-test.true)) c.loop-left.invariant.within c.loop-left.invariant.asked
      (subst (λ (s : Seen). IfSome (told_at g.V.Vault c.loop-left.areas (get_or c.args.places.now (c.loop-left.left - 1) 0)) (λ m. HasForms m → IsSeen (form_at c.args.folder.now c.args.name.now m) s)) c.in-Part.is c.in_ok-seen_at.ensures.seen)
      (λ chain m all there is so_far. next_part c.args.folder.now c.args.name.now chain c.loop-left.left m (omega (arith, c.loop-left-test.true)) all there (forms_at chain c.args.folder.now c.args.name.now) c.in-Part.head c.loop-left.answered c.add.new.self c.requires.placed is so_far c.add.ensures.least c.add.ensures.had);
  long = c.add.ensures.had.long ∙ c.loop-left.invariant.long;
  least = omega (arith, c.add.ensures.least, c.loop-left.invariant.least);
  reads = reads_trans g.V.Vault c.args.areas.now c.loop-left.areas c.seen_at.new.areas c.loop-left.invariant.reads c.seen_at.ensures.reads;
}

pub returns-clause-asked : goal.returns-clause-asked
returns-clause-asked g c =
    asked_end g.V.Vault c.args.areas.now c.loop-left.areas c.args.places.now c.args.folder.now c.args.name.now c.loop-left.left c.args.answered.now c.loop-left.answered (omega (arith, c.loop-left-test.false)) c.loop-left.invariant.asked
