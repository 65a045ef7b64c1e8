use Rattle.std.proofs.Common.{◌≡◌, ◌+◌, ◌-◌, min, length, refl, arith}
use Rattle.wal_archive.proofs.Longs.{piece_short, piece_held}
use Rattle.wal_archive.proofs.long.held_piece.Goals as goal

pub returns-then-front-head-clause-piece : goal.returns-then-front-head-clause-piece
returns-then-front-head-clause-piece g c =
    piece_short (g.V.Vault.files c.args.area.now) c.args.size c.args.begin c.args.page
    (c.args.page + length c.args.front.now) c.args.left c.args.front.now c.in_ok-damage.damage refl
    c.requires.head
    (omega (
      arith,
      c.if-front-head.true,
      c.min-wanted.ensures,
      c.from.ensures,
      c.head_size-head.ensures.head,
    ))
    c.requires.front c.in_ok-damage.ensures.why

pub returns-clause-piece : goal.returns-clause-piece
returns-clause-piece g c =
    let wanted : c.min-wanted.result ≡ min c.args.left (8192 - c.head_size-head.result) =
    omega (arith, c.min-wanted.ensures, c.from.ensures) in
    piece_held (g.V.Vault.files c.args.area.now) c.args.size c.args.begin c.args.page c.args.left
    c.head_size-head.result c.min-wanted.result c.args.front.now c.in_ok-piece.piece.items
    c.head_size-head.ensures.head wanted c.if-front-head.false c.in_ok-piece.ensures
    c.requires.front
