use Rattle.std.proofs.Common.{◌≡◌, true, box_value, sym, subst, ◌∙◌, arith}
use Rattle.journal.specs.Lawful.{IsLawful}
use Rattle.store_locks.specs.Locked.{RunsOn}
use Rattle.store_locks.specs.Records.{IsPlaceOf}
use Rattle.shared_summaries.specs.Shelf.{AreShelved}
use Rattle.shared_summaries.proofs.Shelves.{begins_so, shelved_begin}
use Rattle.shared_summaries.proofs.summaries.Summaries.begin.Goals as goal

pub invariant_of-new : goal.invariant_of-new
invariant_of-new g c =
    let told = g.J.OfStore.tells ≡ true in
    let found = g.J.OfCrew.found in
    let list = c.args.pass.now.list in
    let same = sym c.seen-note.ensures.list in
    let start = c.requires.starts in
    let none = c.requires.none in
    record {
      begins = subst (RunsOn found) same c.know.ensures.grown;
      lawful = λ t. subst (IsLawful g.J.OfCrew.settings.segment) same (c.know.ensures.lawful t);
      shelved = subst (λ l. AreShelved told found g.J.OfCrew.sums l (g.V.Vault.files (box_value c.args.area))) same
          (shelved_begin told found list g.J.OfCrew.sums (g.V.Vault.files (box_value c.args.area)) (begins_so found list c.know.ensures.grown) c.requires.begun);
      kept = c.requires.begun;
      limit_is = c.age_limit.ensures.limit ∙ sym c.requires.limit;
      at = λ t. subst (λ l. IsPlaceOf l c.first_start.result.0) same (c.first_start.ensures.place t);
      risen = (omega (arith, start), omega (arith, start, none));
    }
