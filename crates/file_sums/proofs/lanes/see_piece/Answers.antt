use Rattle.std.proofs.Common.{◌∙◌, subst, Option, None, slice_index_or, IfSome}
use Rattle.lsn_core.specs.Files.{Files}
use Rattle.file_sums.specs.LaneSums.{Moves}
use Rattle.file_sums.proofs.Seen.{all_move, four_told}
use Rattle.file_sums.proofs.lanes.see_piece.Goals as goal

pub returns-clause-hashing : goal.returns-clause-hashing
returns-clause-hashing g c =
    let rows = c.args.rows.now in
    let h = c.args.hashing.now in
    let e2 = c.in_ok-first.ensures.reads.files in
    let e3 = c.in_ok-second.ensures.reads.files ∙ e2 in
    let e4 = c.in_ok-third.ensures.reads.files ∙ e3 in
    four_told (g.V.Vault.files c.args.area.now)
    (λ m. Moves m rows (slice_index_or h.places 0 None) c.in_ok-first.first c.next_place.new.buffer)
    (λ m. Moves m rows (slice_index_or h.places 1 None) c.in_ok-second.second c.next_place-2.new.buffer)
    (λ m. Moves m rows (slice_index_or h.places 2 None) c.in_ok-third.third c.next_place-3.new.buffer)
    (λ m. Moves m rows (slice_index_or h.places 3 None) c.in_ok-fourth.fourth c.next_place-4.new.buffer) _
    (λ m first second third fourth.
    all_move m rows h c.see.new.self c.in_ok-first.first c.in_ok-second.second c.in_ok-third.third c.in_ok-fourth.fourth c.next_place.new.buffer c.next_place-2.new.buffer c.next_place-3.new.buffer c.next_place-4.new.buffer
    c.see.ensures first second third fourth)
    c.in_ok-first.ensures.next
    (subst (λ (o : Option Files). IfSome o (λ m. Moves m rows (slice_index_or h.places 1 None) c.in_ok-second.second c.next_place-2.new.buffer)) e2 c.in_ok-second.ensures.next)
    (subst (λ (o : Option Files). IfSome o (λ m. Moves m rows (slice_index_or h.places 2 None) c.in_ok-third.third c.next_place-3.new.buffer)) e3 c.in_ok-third.ensures.next)
    (subst (λ (o : Option Files). IfSome o (λ m. Moves m rows (slice_index_or h.places 3 None) c.in_ok-fourth.fourth c.next_place-4.new.buffer)) e4 c.in_ok-fourth.ensures.next)
