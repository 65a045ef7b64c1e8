-- An entry that is sound may be applied, and so may one that can be written.
use Rattle.std.proofs.Common.{List, [], ◌∷◌}
use Rattle.std.specs.List.{All}
use Rattle.std.proofs.lemmas.List.Elements.{All-nil, All-cons, All-head, All-tail}
use Rattle.wal_record.specs.declared.record.BlockRef.{BlockRef}
use Rattle.wal_record.specs.declared.record.Body.{Body}
use Rattle.wal_record.specs.declared.record.Body.TheVariants.{Image, Delta}
use Rattle.wal_record.specs.Sound.{IsSoundBlock, IsSoundBody}
use Rattle.history.specs.Applied.{IsApplicableBlock, IsApplicableBody}

body_applies : (body : Body) → IsSoundBody body → IsApplicableBody body
body_applies (Image page) sound = tt
body_applies (Delta frags) sound = sound

blocks_apply : (bs : List BlockRef) → All IsSoundBlock bs → All IsApplicableBlock bs
blocks_apply [] sound = All-nil IsApplicableBlock
blocks_apply (b ∷ bs) sound =
    let own : IsSoundBlock b = All-head IsSoundBlock b bs sound in
    All-cons IsApplicableBlock b bs (record { number = own.number; body = body_applies b.body own.body }) (blocks_apply bs (All-tail IsSoundBlock b bs sound))
