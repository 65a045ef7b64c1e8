use Rattle.std.proofs.Common.{Some, refl, ap, subst}
use Rattle.lsn_core.specs.declared.lsn.Lsn.{Lsn}
use Rattle.wal_archive.specs.Rules.{lsn}
use Rattle.wal_reader.specs.wal_pieces.Piece.{ReadsPiece}
use Rattle.wal_writer.specs.declared.state.WalState.{WalState}
use Rattle.journal.specs.Journal.{Written}
use Rattle.journal.proofs.Rests.{rests_read}
use Rattle.journal.proofs.Tells.{keeps_read}
use Rattle.journal.proofs.journal.Journal.read_flushed.Goals as goal

pub invariant_of-self : goal.invariant_of-self
invariant_of-self g c =
    let now = record c.self.inside.wal { area = c.read_piece.new.area } in (
      keeps_read g.V.Vault g.J.OfStore.tells c.self.inside.wal now c.self.inside.pen c.self.inside.pages refl c.read_piece.ensures.reads c.self.invariant.0,
      rests_read g.V.Vault c.self.inside.wal now refl c.read_piece.ensures.reads c.self.invariant.1,
    )

pub returns-clause-answer : goal.returns-clause-answer
returns-clause-answer g c =
    subst (λ (wal : WalState g.row.V.Denot). ReadsPiece g.V.Vault c.args.settings.now c.args.from.0 (Some (lsn wal.tail.flushed)) c.args.most wal.area c.read_piece.new.area c.read_piece.result)
    (ap (λ (j : Written g.row.V.Denot). j.wal) c.self.view_is)
    (subst (λ (upto : Lsn). ReadsPiece g.V.Vault c.args.settings.now c.args.from.0 (Some upto) c.args.most c.self.inside.wal.area c.read_piece.new.area c.read_piece.result)
    (ap lsn c.flushed.ensures.flushed) c.read_piece.ensures.answer)
