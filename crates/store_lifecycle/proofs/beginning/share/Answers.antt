-- The values under the locks of a store that is begun keep what they have to.
use Rattle.std.proofs.Common.{rules, ◌≡◌, true, IsSome, subst, ◌∙◌}
use Rattle.lsn_core.specs.Segment.{StoreSettings}
use Rattle.wal_writer.specs.Log.{IsLog, log_at}
use Rattle.vault.specs.Boxed.{on_heap}
use Rattle.store_lifecycle.proofs.Starting.{held_begun, lawful_found, counts_begun, none_made, desk_begun}
use Rattle.store_lifecycle.proofs.beginning.share.Goals as goal

pub hold-part0-requires-after_bounds : goal.hold-part0-requires-after_bounds
hold-part0-requires-after_bounds g c κs within =
    let heap = on_heap g.V.Vault in
    let found = c.args.found in
    let s = g.J.OfCrew.settings in
    let known = subst (λ (x : StoreSettings). IsLog (log_at x found.tip)) c.requires.found.settings_are c.attach-journal.ensures.known in (
      search rules,
      (
        search rules,
        (
          search rules,
          held_begun 0 (g.J.OfCrew.starts 0) s (g.J.OfStore.tells ≡ true) (IsSome (heap.files found.area)) g.J.OfCrew.found c.note-note0.result.list found.parts.part0 c.args.books.shares.share0 c.args.books.data0.total
              (c.note-note0.ensures.list ∙ c.requires.found.pen_is) c.requires.told c.requires.found.part0 (λ t. lawful_found heap s found.area g.J.OfCrew.found found.pages found.tip known c.requires.found.is (c.requires.told t))
              c.requires.books.share0.0 c.requires.books.share0.1 c.requires.found.start0 c.requires.books.no_fault0,
        ),
      ),
    )

pub hold-part1-requires-after_bounds : goal.hold-part1-requires-after_bounds
hold-part1-requires-after_bounds g c κs within =
    let heap = on_heap g.V.Vault in
    let found = c.args.found in
    let s = g.J.OfCrew.settings in
    let known = subst (λ (x : StoreSettings). IsLog (log_at x found.tip)) c.requires.found.settings_are c.attach-journal.ensures.known in (
      search rules,
      (
        search rules,
        (
          search rules,
          held_begun 1 (g.J.OfCrew.starts 1) s (g.J.OfStore.tells ≡ true) (IsSome (heap.files found.area)) g.J.OfCrew.found c.note-note1.result.list found.parts.part1 c.args.books.shares.share1 c.args.books.data1.total
              (c.note-note1.ensures.list ∙ (c.note-note0.ensures.same ∙ c.requires.found.pen_is)) c.requires.told c.requires.found.part1 (λ t. lawful_found heap s found.area g.J.OfCrew.found found.pages found.tip known c.requires.found.is (c.requires.told t))
              c.requires.books.share1.0 c.requires.books.share1.1 c.requires.found.start1 c.requires.books.no_fault1,
        ),
      ),
    )

pub hold-part2-requires-after_bounds : goal.hold-part2-requires-after_bounds
hold-part2-requires-after_bounds g c κs within =
    let heap = on_heap g.V.Vault in
    let found = c.args.found in
    let s = g.J.OfCrew.settings in
    let known = subst (λ (x : StoreSettings). IsLog (log_at x found.tip)) c.requires.found.settings_are c.attach-journal.ensures.known in (
      search rules,
      (
        search rules,
        (
          search rules,
          held_begun 2 (g.J.OfCrew.starts 2) s (g.J.OfStore.tells ≡ true) (IsSome (heap.files found.area)) g.J.OfCrew.found c.note-note2.result.list found.parts.part2 c.args.books.shares.share2 c.args.books.data2.total
              (c.note-note2.ensures.list ∙ (c.note-note1.ensures.same ∙ (c.note-note0.ensures.same ∙ c.requires.found.pen_is))) c.requires.told c.requires.found.part2 (λ t. lawful_found heap s found.area g.J.OfCrew.found found.pages found.tip known c.requires.found.is (c.requires.told t))
              c.requires.books.share2.0 c.requires.books.share2.1 c.requires.found.start2 c.requires.books.no_fault2,
        ),
      ),
    )

pub hold-part3-requires-after_bounds : goal.hold-part3-requires-after_bounds
hold-part3-requires-after_bounds g c κs within =
    let heap = on_heap g.V.Vault in
    let found = c.args.found in
    let s = g.J.OfCrew.settings in
    let known = subst (λ (x : StoreSettings). IsLog (log_at x found.tip)) c.requires.found.settings_are c.attach-journal.ensures.known in (
      search rules,
      (
        search rules,
        (
          search rules,
          held_begun 3 (g.J.OfCrew.starts 3) s (g.J.OfStore.tells ≡ true) (IsSome (heap.files found.area)) g.J.OfCrew.found c.note-note3.result.list found.parts.part3 c.args.books.shares.share3 c.args.books.data3.total
              (c.note-note3.ensures.list ∙ (c.note-note2.ensures.same ∙ (c.note-note1.ensures.same ∙ (c.note-note0.ensures.same ∙ c.requires.found.pen_is)))) c.requires.told c.requires.found.part3 (λ t. lawful_found heap s found.area g.J.OfCrew.found found.pages found.tip known c.requires.found.is (c.requires.told t))
              c.requires.books.share3.0 c.requires.books.share3.1 c.requires.found.start3 c.requires.books.no_fault3,
        ),
      ),
    )

pub invariant_of-desk : goal.invariant_of-desk
invariant_of-desk g c =
    let heap = on_heap g.V.Vault in
    let found = c.args.found in
    let s = g.J.OfCrew.settings in
    let journal = c.attach-journal.result.0 in
    let log = subst (λ (x : StoreSettings). journal.wal.tail ≡ log_at x found.tip) c.requires.found.settings_are c.attach-journal.ensures.log in
    desk_begun heap s (g.J.OfStore.tells ≡ true) g.J.OfCrew.found g.J.OfCrew.workers g.J.OfCrew.wal (g.J.OfCrew.starts 4) journal c.attach-journal.result.1.to.0 c.args.crew.counts.items c.args.books.entries c.args.books.made.total c.args.books.wal.total found.area found.tip
    c.attach-journal.ensures.area log (c.attach-journal.ensures.pen ∙ (c.note-note3.ensures.same ∙ (c.note-note2.ensures.same ∙ (c.note-note1.ensures.same ∙ (c.note-note0.ensures.same ∙ c.requires.found.pen_is))))) c.attach-journal.ensures.mark c.requires.counts c.requires.books.none_yet c.requires.books.none_made c.requires.books.no_fault c.requires.found.start_wal c.requires.found.from_is c.requires.told
    (counts_begun (heap.files found.area) s g.J.OfCrew.found found.pages g.J.OfCrew.workers found.tip c.args.crew.counts.items c.requires.found.is c.requires.counts)
    (none_made (heap.files found.area) s g.J.OfCrew.found found.pages found.tip c.requires.found.is)

pub returns-clause-lawful : goal.returns-clause-lawful
returns-clause-lawful g c =
    let heap = on_heap g.V.Vault in
    let found = c.args.found in
    let s = g.J.OfCrew.settings in
    let known = subst (λ (x : StoreSettings). IsLog (log_at x found.tip)) c.requires.found.settings_are c.attach-journal.ensures.known in
    λ t. lawful_found heap s found.area g.J.OfCrew.found found.pages found.tip known c.requires.found.is (c.requires.told t)
