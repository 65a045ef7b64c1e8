use Rattle.std.proofs.Common.{arith, rules}
use Rattle.wal_record.specs.Spelling.{head_of}
use Rattle.wal_record.proofs.Writing.{built, flags_fit}
use Rattle.wal_record.proofs.blocks.add_head.Goals as goal

pub returns : goal.returns
returns c =
    built (head_of c.args.id c.args.last c.args.block.now) c.args.bytes.now.items c.push.new.self.items c.push-2.new.self.items c.extend_from_slice.new.self.items c.add_image_head.new.bytes.items c.add_name.new.bytes.items c.extend_from_slice-2.new.self.items
    (omega (arith, c.ranges.id.fits)) (flags_fit c.args.id c.args.last c.args.block.now)
    (search rules) (search rules) (search rules) (search rules) (search rules) (search rules)
