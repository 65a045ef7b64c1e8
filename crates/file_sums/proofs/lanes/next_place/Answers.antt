use Rattle.std.proofs.Common.{◌∙◌, sym, ap, subst, Some, Option, List, ℕ, ◌+◌, refl}
use Rattle.std.proofs.lemmas.Option.{slice_get_read}
use Rattle.lsn_core.specs.byte_words.Told.{when_told}
use Rattle.chain_files.specs.Sources.{IsPiece}
use Rattle.file_sums.specs.LaneSums.{Moves}
use Rattle.file_sums.specs.declared.lanes.Place.{Place}
use Rattle.file_sums.proofs.Seen.{moves}
use Rattle.file_sums.proofs.lanes.next_place.Goals as goal

pub returns-clause-next : goal.returns-clause-next
returns-clause-next g c =
    let place : Place = c.in-Some.field-0 in
    let next : Place = record { row = place.row; at = c.in-Some-checked_add.end; size = place.size } in
    let lookup = c.in-Some-get.ensures.lookup in
    when_told (g.V.Vault.files c.args.area.now) (λ m. IsPiece m c.as_bytes.result.now place.at c.read_piece.new.buffer) (λ m. Moves m c.args.rows.now c.args.place (Some next) c.read_piece.new.buffer)
    (λ m is. subst (λ (o : Option Place). Moves m c.args.rows.now o (Some next) c.read_piece.new.buffer) (sym c.in-Some.is)
    (moves m c.args.rows.now c.in-Some-get.listed.now place next c.read_piece.new.buffer
    (slice_get_read c.args.rows.now _ place.row c.in-Some-get.listed.now refl lookup.3.0 lookup.1) refl
    (c.in-Some-checked_add.ensures.1 ∙ ap (λ (n : ℕ). place.at + n) (sym c.in_ok-read_piece.ensures.long))
    (subst (λ (p : List ℕ). IsPiece m p place.at c.read_piece.new.buffer) c.as_bytes.ensures is)))
    (c.in_ok-read_piece.ensures.piece c.if-not-branch.false)
