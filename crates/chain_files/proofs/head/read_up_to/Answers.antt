use Rattle.std.proofs.Common.{◌≡◌, ◌++◌, ◌∙◌, ap, subst, List, ℕ, Option, IfSome, arith}
use Rattle.lsn_core.specs.byte_words.Told.{when_both_told}
use Rattle.lsn_core.specs.Files.{Files}
use Rattle.vault.specs.Area.{bytes_of}
use Rattle.chain_files.specs.Inside.{ShowsFrom}
use Rattle.chain_files.proofs.Shown.{goes_on, shows_on}
use Rattle.chain_files.proofs.head.read_up_to.Goals as goal

pub loop-alloc-preserved : goal.loop-alloc-preserved
loop-alloc-preserved g c =
    let before = c.loop-alloc.invariant in
    let piece = c.in_ok-piece.ensures in
    let added : c.extend_from_slice.new.self.items ≡ c.loop-alloc.bytes.items ++ c.in_ok-piece.piece.items = c.in_ok-extend_from_slice.ensures.items ∙ ap (λ (l : List ℕ). c.loop-alloc.bytes.items ++ l) c.deref.ensures.value in
    record {
      reads = record { files = piece.reads.files ∙ before.reads.files; past = piece.reads.past ∙ before.reads.past; faults = omega (arith, before.reads.faults, piece.reads.faults) };
      more = goes_on c.args.bytes.now.items c.loop-alloc.bytes.items c.extend_from_slice.new.self.items c.in_ok-piece.piece.items before.more added;
      shown = when_both_told (g.V.Vault.files c.args.area.now) (λ m. ShowsFrom (bytes_of m c.args.path.now) 0 c.args.bytes.now.items → ShowsFrom (bytes_of m c.args.path.now) 0 c.loop-alloc.bytes.items) (λ m. ShowsFrom (bytes_of m c.args.path.now) c.len-at.result c.in_ok-piece.piece.items) _
          (λ m so_far next first. shows_on (bytes_of m c.args.path.now) c.loop-alloc.bytes.items c.extend_from_slice.new.self.items c.in_ok-piece.piece.items c.len-at.result (omega (arith, c.len-at.ensures, c.loop-alloc.bytes.ok.0)) added (so_far first) next)
          before.shown
          (subst (λ (o : Option Files). IfSome o (λ m. ShowsFrom (bytes_of m c.args.path.now) c.len-at.result c.in_ok-piece.piece.items)) before.reads.files piece.shown);
    }
