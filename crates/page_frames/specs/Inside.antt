-- How frames are held, and what the crate's private functions answer: no public contract cites
-- these.
use Rattle.std.specs.Prelude.{ℕ, ◌-◌, List, [], ◌∷◌, length, Option, Some, None, if◌then◌else◌, ◌==◌, ◌&&◌, Bool, true, get_or, nat_le, nat_lt, box_value}
use Rattle.std.specs.declared.cmp.Ordering.{Ordering}
use Rattle.std.specs.BTreeMap.{BTreeMap}
use Rattle.std.specs.Option.{unwrap_or}
use Rattle.std.specs.FinMap.{FinMap, get, empty, insert, remove}
use Rattle.lsn_core.specs.declared.ids.ForkId.{ForkId}
use Rattle.lsn_core.specs.declared.ids.BlockId.{BlockId}
use Rattle.pg_page.specs.Frags.{Fragment}
use Rattle.page_frames.specs.declared.frames.Frame.{Frame}
use Rattle.page_frames.specs.Framed.{Framed, Held, HeldFrames, ForkLengths, BlockSet, ForkSet, held_mark}

-- ---- how frames are held

-- a map with this at a key; None: with nothing there
abbrev pub with_seen : {K X : Type 0} {R : K → K → Ordering}
    → K → Option X → FinMap R X → FinMap R X
with_seen key None seen = remove seen key
with_seen key (Some x) seen = insert seen key x

-- what a function makes of each value of a map's entries, where it makes something of it
abbrev pub seen_in : {K V X : Type 0} {R : K → K → Ordering}
    → (V → Option X) → List (K × V) → FinMap R X
seen_in f [] = empty
seen_in f (e ∷ es) = with_seen e.0 (f e.1) (seen_in f es)

abbrev pub held_of : Frame → Option Held
held_of frame = Some (record {
  page = box_value frame.page;
  mark = frame.mark;
  used = frame.used;
})

abbrev pub held_in : BTreeMap BlockId Frame → HeldFrames
held_in frames = seen_in held_of frames.entries

-- a fork that isn't there may have a slot, which keeps the memory for it
abbrev pub lengths_in : BTreeMap ForkId (Option ℕ) → ForkLengths
lengths_in lengths = seen_in (λ length. length) lengths.entries

abbrev pub slots_in : BTreeMap ForkId (Option ℕ) → ForkSet
slots_in lengths = seen_in (λ _. Some true) lengths.entries

abbrev pub queue_in : BTreeMap BlockId (Unit {0}) → BlockSet
queue_in queue = seen_in (λ _. Some true) queue.entries

abbrev pub framed_in : BTreeMap ForkId (Option ℕ) → BTreeMap BlockId Frame
    → BTreeMap BlockId (Unit {0}) → BlockId → ℕ → Framed
framed_in lengths frames queue hand limit = record {
  lengths = lengths_in lengths;
  slots = slots_in lengths;
  held = held_in frames;
  queue = queue_in queue;
  hand = hand;
  limit = limit;
}

-- ---- dirty blocks

-- a fork has a block
abbrev pub has_block : ForkLengths → BlockId → Bool
has_block lengths at = nat_lt at.block (unwrap_or (get lengths at.fork) 0)

-- where the last entry ends that touched a block that is there, since it was written
abbrev pub dirty_end : ForkLengths → HeldFrames → BlockId → Option ℕ
dirty_end lengths held at = if has_block lengths at then held_mark held at else None

-- ---- the header that fragments leave

-- the byte at a place behind one fragment, where it was this one
abbrev pub byte_over : Fragment → ℕ → ℕ → ℕ
byte_over frag at byte =
    if nat_le frag.at at && nat_lt (at - frag.at) (length frag.bytes)
    then get_or frag.bytes (at - frag.at) 0 else byte

-- and behind some in turn
abbrev pub byte_over_all : List Fragment → ℕ → ℕ → ℕ
byte_over_all [] at byte = byte
byte_over_all (frag ∷ frags) at byte = byte_over_all frags at (byte_over frag at byte)

-- these are the places of a good header
abbrev pub is_header : ℕ → ℕ → ℕ → ℕ → Bool
is_header version lower upper special =
    (version == 8196) && (nat_le 24 lower && (nat_le lower upper
    && (nat_le upper special && nat_le special 8192)))
