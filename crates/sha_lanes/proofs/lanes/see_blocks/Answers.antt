use Rattle.std.proofs.Common.{◌≡◌, ℕ, ◌+◌, ◌-◌, ◌*◌, length, arith, refl}
use Rattle.sha_lanes.specs.Lanes.{lane, of_four}
use Rattle.sha_lanes.proofs.Hashes.{begun, one_more, ended}
use Rattle.sha_lanes.proofs.FourLanes.{length-of_four}
use Rattle.sha_lanes.proofs.lanes.see_blocks.Goals as goal

pub blocks-2-init : goal.blocks-2-init
blocks-2-init c = (omega arith, λ j m below held. begun (lane j c.args.state.now) m (of_four c.args.a.now c.args.b.now c.args.c.now c.args.d.now j) held)

pub blocks-2-preserved : goal.blocks-2-preserved
blocks-2-preserved c =
    let at : ℕ = 64 * c.blocks-2.i in
    let width : at + 64 - at ≡ 64 = omega arith in
    let later : 64 * (c.blocks-2.i + 1) ≡ at + 64 = omega arith in (
      omega arith,
      λ j m below held.
          rw later (one_more (lane j c.blocks-2.state) m c.args.a.now c.args.b.now c.args.c.now c.args.d.now _ at j below held.0 (omega arith) (omega arith)
          (omega (arith, c.requires.b)) (omega (arith, c.requires.c)) (omega (arith, c.requires.d))
          (c.blocks-2.invariant.1 j m below held) (rw width at (c.compress.ensures j below))),
    )

pub returns : goal.returns
returns c j m below held =
    let size = length-of_four c.args.a.now c.args.b.now c.args.c.now c.args.d.now (length c.args.a.now) refl (omega (arith, c.requires.b)) (omega (arith, c.requires.c)) (omega (arith, c.requires.d)) j below in
    ended (lane j c.blocks-2.state) m (of_four c.args.a.now c.args.b.now c.args.c.now c.args.d.now j) (64 * c.blocks-2.i) held.0
    (omega (arith, size, c.requires.blocks)) (omega (arith, size, c.requires.blocks)) (c.blocks-2.invariant.1 j m below held)
