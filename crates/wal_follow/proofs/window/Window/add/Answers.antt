-- A piece is held but for the zeros at its end, which are counted.
use Rattle.std.proofs.Common.{◌≡◌, ℕ, ◌+◌, ◌-◌, length, take, refl, sym, ap, subst, ◌∙◌, arith}
use Rattle.wal_record.specs.Tips.{wal_limit}
use Rattle.stream_laws.specs.Windows.{Span, span_top}
use Rattle.wal_follow.specs.Window.{TakesPiece}
use Rattle.wal_follow.proofs.Windows.{piece_taken}
use Rattle.wal_follow.proofs.window.Window.add.Goals as goal

pub returns-clause-taken : goal.returns-clause-taken
returns-clause-taken c =
    let limit : c.wal_limit.result.0 ≡ wal_limit c.args.self.now.mib = c.wal_limit.ensures ∙ ap (λ (w : Span). wal_limit w.mib) c.self.view_is in
    let top : c.top.result ≡ span_top c.args.self.now = c.top.ensures.top in
    let room : c.wal_limit.result.0 - c.top.result ≡ wal_limit c.args.self.now.mib - span_top c.args.self.now = omega (arith, limit, top) in
    subst (λ (h : Span). TakesPiece c.args.self.now c.args.piece.now (record h { zeros = h.zeros + (length c.first_bytes-piece.result.now - c.nonzero_end-end.result) })) (sym c.self-2.view_is)
    (piece_taken c.args.self.now c.hold.new.self c.args.piece.now c.first_bytes-piece.result.now (take c.nonzero_end-end.result c.first_bytes-piece.result.now) c.nonzero_end-end.result
    c.in_ok-hold.ensures.stays c.in_ok-hold.ensures.held (c.first_bytes-piece.ensures ∙ ap (λ (n : ℕ). take n c.args.piece.now) room) c.nonzero_end-end.ensures refl)
