use Rattle.std.proofs.Common.{◌≡◌, ◌*◌, map, take, drop, length, IfSome}
use Rattle.incr_file.specs.Form.{pages_bytes}
use Rattle.chain_files.specs.Told.{chain_told, AllOnlyRead}
use Rattle.chain_files.specs.Sources.{slot_page}
use Rattle.chain_files.proofs.reading.read_slots.Given as goal

-- the pages so far were read
abbrev pub invariant-loop-i : goal.invariant-loop-i
invariant-loop-i g l = record {
  read : IfSome (chain_told g.V.Vault l.fn.areas l.places) (λ chain. take (l.i * 8192) l.into ≡ pages_bytes (map (slot_page chain l.paths) (take l.i (drop l.number l.slots))));
  long : length l.into ≡ length l.fn.into;
  reads : AllOnlyRead g.V.Vault l.fn.areas l.areas;
}
