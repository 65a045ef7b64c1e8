use Rattle.std.proofs.Common.{◌≡◌, true, ◌==◌, take, map, length, refl, ap, sym, subst, ◌∙◌, arith}
use Rattle.history.specs.fuzzy_copies.Orderly.{IsOrderly}
use Rattle.wal_summary.specs.Marks.{table_of_marks}
use Rattle.wal_summary.specs.Summary.{IsSummary}
use Rattle.history.specs.fuzzy_copies.Summary.{summary_of}
use Rattle.store_locks.specs.Records.{IsPlaceOf}
use Rattle.shared_summaries.specs.summary_publish.Inside.{AreRecordsOf, RiseBehind, from_place}
use Rattle.history.specs.Whole.{entry_of}
use Rattle.shared_summaries.specs.summary_publish.Inside.{place_or}
use Rattle.shared_summaries.proofs.summary_publish.Adding.{looks_on, looks_still}
use Rattle.shared_summaries.proofs.summary_publish.Later.{place_stays, read_later}
use Rattle.shared_summaries.proofs.summary_publish.Fitting.{Fits, none_fits, both_fit, piece_fits, forks_fit}
use Rattle.shared_summaries.proofs.summary_publish.Ranges.{IsReadTo, read_first, found_up, found_none, place_on, moved_place, none_at_end, turns_fewer, redo_past}
use Rattle.shared_summaries.proofs.summary_publish.reading.next_range.Goals as goal

pub loop-ended-init : goal.loop-ended-init
loop-ended-init g c = record {
  looks = looks_still c.args.pass.now;
  faults = refl;
  orderly = c.requires.orderly;
  read = λ told. read_first c.args.pass.now.list c.args.from.0 c.args.known.now.0 _ c.new.ensures (c.requires.start told).between;
  fits = subst Fits (sym c.new.ensures) none_fits;
  place = λ told. (c.requires.start told).place;
  known = λ told. (c.requires.start told).place;
  none = λ ended told. absurd cc;
}

pub returns-in-Some-clause-found : goal.returns-in-Some-clause-found
returns-in-Some-clause-found g c = λ told.
    let h = c.loop-ended.pass.list in
    let n = c.records_from.new.pass.list in
    let at = c.loop-ended.reading.at.0 in
    let order : IsOrderly 0 n = c.in_ok-piece.ensures.orderly told in
    let read : IsReadTo n c.args.from.0 at (table_of_marks c.loop-ended.reading.marks) = read_later h n c.args.from.0 at (table_of_marks c.loop-ended.reading.marks) c.in_ok-piece.ensures.looks.seen order (c.loop-ended.invariant.place told) (c.loop-ended.invariant.read told) in
    let here : AreRecordsOf c.deref.result.now (take 64 (from_place at n)) = subst (λ l. AreRecordsOf l (take 64 (from_place at n))) (sym c.deref.ensures.value) (c.in_ok-piece.ensures.records told) in
    let up = found_up n c.args.from.0 at (table_of_marks c.loop-ended.reading.marks) (table_of_marks c.take_piece.new.self.marks) c.deref.result.now c.in_ok-end.field-0 c.in-Some.end order read here c.in_ok-end.ensures.end c.in-Some.is c.in_ok-end.ensures.marks in
    record { starts = refl; ends = up.0; at = refl; says = subst (λ t. IsSummary t c.in_ok-forks.forks) up.1 c.in_ok-forks.ensures }

pub returns-in-Some-clause-written : goal.returns-in-Some-clause-written
returns-in-Some-clause-written g c =
    let fits : Fits (table_of_marks c.take_piece.new.self.marks) = subst Fits (sym c.in_ok-end.ensures.marks)
    (both_fit (table_of_marks c.loop-ended.reading.marks) (summary_of (map entry_of c.deref.result.now) c.args.from.0 (place_or c.in_ok-end.field-0)) c.loop-ended.invariant.fits
    (piece_fits c.deref.result.now c.args.from.0 (place_or c.in_ok-end.field-0) c.loop-ended.reading.at.0
    (subst (RiseBehind c.loop-ended.reading.at.0) (sym c.deref.ensures.value) c.in_ok-piece.ensures.rise) c.in_ok-end.ensures.counts)) in
    record {
      starts = refl;
      written = record {
        rises = redo_past c.args.from.0 c.deref.result.now c.in_ok-end.field-0 c.in-Some.end c.in_ok-end.ensures.end c.in-Some.is;
        sorted = c.in_ok-forks.ensures.sorted;
        forks = forks_fit (table_of_marks c.take_piece.new.self.marks) c.in_ok-forks.forks c.in_ok-forks.ensures fits;
      };
    }

pub loop-ended-smaller : goal.loop-ended-smaller
loop-ended-smaller g c = turns_fewer c.loop-ended.reading.at.0 c.take_piece.new.self.at.0 c.deref.result.now c.loop-ended.ended c.is_empty-ended.result
    (subst (RiseBehind c.loop-ended.reading.at.0) (sym c.deref.ensures.value) c.in_ok-piece.ensures.rise) c.in_ok-end.ensures.at (let small = c.in_ok-end.ensures.small in omega (arith, small))
    (c.is_empty-ended.ensures ∙ ap (λ n. n == 0) (c.in_ok-piece.piece.ok.0 ∙ ap length (sym c.deref.ensures.value))) c.loop-ended-test.true

pub loop-ended-preserved : goal.loop-ended-preserved
loop-ended-preserved g c =
    let h = c.loop-ended.pass.list in
    let n = c.records_from.new.pass.list in
    let at = c.loop-ended.reading.at.0 in
    let now = c.take_piece.new.self.at.0 in
    let table = table_of_marks c.loop-ended.reading.marks in
    let prefix = c.in_ok-piece.ensures.looks.seen in
    let here : g.J.OfStore.tells ≡ true → AreRecordsOf c.deref.result.now (take 64 (from_place at n)) =
    λ told. subst (λ l. AreRecordsOf l (take 64 (from_place at n))) (sym c.deref.ensures.value) (c.in_ok-piece.ensures.records told) in
    let read : g.J.OfStore.tells ≡ true → IsReadTo n c.args.from.0 at table = λ told. read_later h n c.args.from.0 at table prefix (c.in_ok-piece.ensures.orderly told) (c.loop-ended.invariant.place told) (c.loop-ended.invariant.read told) in
    let empty : c.is_empty-ended.result ≡ (length c.deref.result.now == 0) = c.is_empty-ended.ensures ∙ ap (λ n. n == 0) (c.in_ok-piece.piece.ok.0 ∙ ap length (sym c.deref.ensures.value)) in
    let place : g.J.OfStore.tells ≡ true → IsPlaceOf n now = λ told. place_on n at now c.deref.result.now (place_stays at h n (c.loop-ended.invariant.place told) prefix) (here told) c.in_ok-end.ensures.at in
    record {
      looks = looks_on c.args.pass.now c.loop-ended.pass c.records_from.new.pass c.loop-ended.invariant.looks c.in_ok-piece.ensures.looks;
      faults = c.in_ok-piece.ensures.faults ∙ c.loop-ended.invariant.faults;
      orderly = c.in_ok-piece.ensures.orderly;
      read = λ told. found_none n c.args.from.0 at now table (table_of_marks c.take_piece.new.self.marks) c.deref.result.now c.in_ok-end.field-0
          (c.in_ok-piece.ensures.orderly told) (read told) (here told) c.in_ok-end.ensures.end c.in_default.is c.in_ok-end.ensures.marks c.in_ok-end.ensures.at (let small = c.in_ok-end.ensures.small in omega (arith, small));
      fits = subst Fits (sym c.in_ok-end.ensures.marks)
          (both_fit table (summary_of (map entry_of c.deref.result.now) c.args.from.0 (place_or c.in_ok-end.field-0)) c.loop-ended.invariant.fits
          (piece_fits c.deref.result.now c.args.from.0 (place_or c.in_ok-end.field-0) at
          (subst (RiseBehind at) (sym c.deref.ensures.value) c.in_ok-piece.ensures.rise) c.in_ok-end.ensures.counts));
      place = place;
      known = λ told. moved_place n c.loop-ended.known c.move_on.new.known c.take_piece.new.self.at (place_stays c.loop-ended.known.0 h n (c.loop-ended.invariant.known told) prefix) (place told) c.move_on.ensures;
      none = λ ended told. none_at_end n c.args.from.0 at table c.deref.result.now c.is_empty-ended.result (read told) (here told) empty ended;
    }
