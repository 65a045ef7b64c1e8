use Rattle.std.proofs.Common.{◌≡◌, true, [], sym, subst, refl, arith}
use Rattle.store_areas.specs.declared.areas.StoreAreas.{StoreAreas}
use Rattle.vault.specs.Boxed.{on_heap}
use Rattle.vault.specs.declared.boxed.BoxedArea.{BoxedArea}
use Rattle.store_lifecycle.specs.Ended.{opened_of}
use Rattle.store_lifecycle.specs.Ended.{IsEnded}
use Rattle.store_lifecycle.proofs.Ending.{closed}
use Rattle.store_lifecycle.proofs.closing.end.Goals as goal

pub returns-clause-ended : goal.returns-clause-ended
returns-clause-ended g c =
    let areas : StoreAreas (BoxedArea g.row.V.Denot) = record {
      wal = c.detach.result;
      data0 = c.close_part-data0.result.0;
      data1 = c.close_part-data1.result.0;
      data2 = c.close_part-data2.result.0;
      data3 = c.close_part-data3.result.0;
    } in
    let v = on_heap g.V.Vault in
    let a = c.args in
    let tells = g.J.OfStore.tells ≡ true in
    subst (λ r. IsEnded v tells (opened_of v a.settings a.journal a.part0 a.part1 a.part2 a.part3) areas r) (sym c.place_of.ensures)
    (closed v a.settings tells 0 a.journal c.flush_end-flushed.new.journal a.part0 a.part1 a.part2 a.part3 [] 0 areas
    c.flush_end-flushed.result c.close_part-data0.result.1 c.close_part-data1.result.1 c.close_part-data2.result.1 c.close_part-data3.result.1
    (record {
      wal = c.requires.wal;
      first = c.requires.first;
      second = c.requires.second;
      third = c.requires.third;
      fourth = c.requires.fourth;
      counted = λ worker lt. absurd (omega (arith, lt));
      crew = refl;
    })
    (record {
      pen = c.flush_end-flushed.ensures.pen;
      written = c.flush_end-flushed.ensures.written;
      whole = c.flush_end-flushed.ensures.whole;
      later = c.flush_end-flushed.ensures.later;
      cause = c.flush_end-flushed.ensures.cause;
      told = c.know.ensures;
      area = c.detach.ensures;
      later0 = c.close_part-data0.ensures.later;
      later1 = c.close_part-data1.ensures.later;
      later2 = c.close_part-data2.ensures.later;
      later3 = c.close_part-data3.ensures.later;
      answer0 = c.close_part-data0.ensures.answer;
      answer1 = c.close_part-data1.ensures.answer;
      answer2 = c.close_part-data2.ensures.answer;
      answer3 = c.close_part-data3.ensures.answer;
    }))
