use Rattle.std.proofs.Common.{ℕ, Some, ◌∙◌, arith}
use Rattle.std.specs.Global.{Vec}
use Rattle.wal_archive.specs.Rules.{head_at}
use Rattle.wal_archive.specs.Reading.{held_piece, page_piece}
use Rattle.wal_archive.proofs.Fronts.{says_as, says_err, says_on}
use Rattle.wal_archive.proofs.Founds.{zero_for}
use Rattle.wal_archive.proofs.Longs.{piece_is, head_wrong}
use Rattle.wal_archive.proofs.long.page_piece.Goals as goal

pub returns-in-Err-clause-piece : goal.returns-in-Err-clause-piece
returns-in-Err-clause-piece g c =
    says_err (λ a. head_at a c.args.size c.args.system c.args.begin c.args.page (Some c.args.left))
    (λ a. page_piece a c.args.size c.args.system c.args.begin c.args.page c.args.left)
    (λ done. zero_for done) (λ (piece : Vec ℕ). piece.items) c.args.size
    (g.V.Vault.files c.args.area.now) (g.V.Vault.files c.front_of.new.area)
    (g.V.Vault.faults c.args.area.now) (g.V.Vault.faults c.front_of.new.area)
    (g.V.Vault.faults c.pass_held_head.new.area) c.in-Err.fault
    c.in_ok-front.ensures.reads.files c.in_ok-front.ensures.reads.faults
    (head_wrong (g.V.Vault.files c.args.area.now) c.args.size c.args.system c.args.begin
    c.args.page c.args.left) c.in-Err.ensures.head

pub returns-clause-piece : goal.returns-clause-piece
returns-clause-piece g c =
    let now = c.in_default.ensures.reads.files ∙ c.in_ok-front.ensures.reads.files in
    says_as (λ a. held_piece a c.args.size c.args.begin c.args.page c.args.left)
    (λ a. page_piece a c.args.size c.args.system c.args.begin c.args.page c.args.left)
    (λ (piece : Vec ℕ). piece.items) c.args.size (g.V.Vault.files c.args.area.now)
    (g.V.Vault.faults c.args.area.now) (g.V.Vault.faults c.held_piece.new.area)
    c.held_piece.result
    (piece_is (g.V.Vault.files c.args.area.now) (g.V.Vault.files c.front_of.new.area) c.args.size
    c.args.system c.args.begin c.args.page c.args.left c.in_ok-front.ensures.reads.files
    c.in_default.ensures.head)
    (says_on (λ a. held_piece a c.args.size c.args.begin c.args.page c.args.left)
    (λ (piece : Vec ℕ). piece.items) c.args.size (g.V.Vault.files c.args.area.now)
    (g.V.Vault.files c.pass_held_head.new.area) (g.V.Vault.faults c.args.area.now)
    (g.V.Vault.faults c.pass_held_head.new.area) (g.V.Vault.faults c.held_piece.new.area)
    c.held_piece.result now
    (omega (arith, c.in_default.ensures.reads.faults, c.in_ok-front.ensures.reads.faults))
    c.held_piece.ensures.piece)
