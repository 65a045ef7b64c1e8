-- One page after the other is written behind those before it.
use Rattle.std.proofs.Common.{◌≡◌, ◌*◌, ◌+◌, List, Option, map, take, drop, length, get_or, IfSome, refl, ap, subst, ◌∙◌, arith}
use Rattle.lsn_core.specs.byte_words.Told.{when_both_told}
use Rattle.lsn_core.specs.Files.{Files}
use Rattle.incr_file.specs.Form.{pages_bytes}
use Rattle.chain_files.specs.Told.{chain_told, FailsAt}
use Rattle.chain_files.specs.Sources.{slot_page}
use Rattle.chain_files.specs.declared.slot.Slot.TheVariants.{Open}
use Rattle.chain_files.proofs.Told.{reads_refl, reads_trans, reads_told, places_kept, fails_later}
use Rattle.chain_files.proofs.Members.{told_all, handed_on}
use Rattle.chain_files.proofs.Overs.{length-slot_page}
use Rattle.chain_files.proofs.Files.{pages_more}
use Rattle.chain_files.proofs.reading.read_slots.Goals as goal

pub loop-i-init : goal.loop-i-init
loop-i-init g c = record {
  read = told_all (chain_told g.V.Vault c.args.areas.now c.args.places.now) _ (λ chain. refl);
  long = refl;
  reads = reads_refl g.V.Vault c.args.areas.now;
}

pub page_at-requires-clause-places : goal.page_at-requires-clause-places
page_at-requires-clause-places g c = λ κs lives. places_kept g.V.Vault c.args.areas.now c.loop-i.areas c.loop-i.invariant.reads c.args.places.now c.requires.places

pub returns-in_err-page-clause-reads : goal.returns-in_err-page-clause-reads
returns-in_err-page-clause-reads g c = reads_trans g.V.Vault c.args.areas.now c.loop-i.areas c.page_at.new.areas c.loop-i.invariant.reads c.page_at.ensures.reads

pub returns-in_err-page-clause-cause : goal.returns-in_err-page-clause-cause
returns-in_err-page-clause-cause g c =
    handed_on c.from_residual.result c.in_err-page.field-0.0 (FailsAt g.V.Vault c.args.areas.now c.page_at.new.areas) c.from_residual.ensures.1
    (fails_later g.V.Vault c.args.areas.now c.loop-i.areas c.page_at.new.areas c.in_err-page.field-0.0 c.loop-i.invariant.reads c.in_err-page.ensures.cause)

pub loop-i-preserved : goal.loop-i-preserved
loop-i-preserved g c = record {
  read = when_both_told (chain_told g.V.Vault c.args.areas.now c.args.places.now) (λ chain. take (c.loop-i.i * 8192) c.loop-i.into ≡ pages_bytes (map (slot_page chain c.args.paths.now) (take c.loop-i.i (drop c.args.number c.args.slots.now)))) (λ chain. c.in_ok-page.page ≡ slot_page chain c.args.paths.now (get_or c.args.slots.now (c.args.number + c.loop-i.i) Open)) _
      (λ chain so_far page. ap (take ((c.loop-i.i + 1) * 8192)) c.overwrite.ensures
      ∙ pages_more (slot_page chain c.args.paths.now) 8192 c.args.slots.now c.args.number c.loop-i.i (c.loop-i.i * 8192) Open c.loop-i.into c.in_ok-page.page (omega (arith, c.requires.there, c.loop-i-test.true)) refl page (ap length page ∙ length-slot_page chain c.args.paths.now (get_or c.args.slots.now (c.args.number + c.loop-i.i) Open)) (omega (arith, c.requires.few, c.loop-i-test.true, c.loop-i.invariant.long)) so_far)
      c.loop-i.invariant.read
      (subst (λ (o : Option (List Files)). IfSome o (λ chain. c.in_ok-page.page ≡ slot_page chain c.args.paths.now (get_or c.args.slots.now (c.args.number + c.loop-i.i) Open))) (reads_told g.V.Vault c.args.areas.now c.loop-i.areas c.loop-i.invariant.reads c.args.places.now) c.in_ok-page.ensures.page);
  long = c.overwrite.auto.bytes ∙ c.loop-i.invariant.long;
  reads = reads_trans g.V.Vault c.args.areas.now c.loop-i.areas c.page_at.new.areas c.loop-i.invariant.reads c.page_at.ensures.reads;
}
