-- Which frames a clock gives up: its hand goes round the frames in the order of their blocks.
use Rattle.std.specs.Prelude.{ℕ, ◌-◌, length, slice_get, Bool, true, false, not, ◌&&◌, List, ◌++◌, map, take, if◌then◌else◌}
use Rattle.std.specs.Option.{unwrap_or}
use Rattle.std.specs.List.{list_any, filter}
use Rattle.std.specs.Ordering.{eq_by_cmp}
use Rattle.std.specs.declared.ops.Bound.TheVariants.{Included, Excluded, Unbounded}
use Rattle.std.specs.BTreeMap.Range.{entries_between}
use Rattle.std.specs.FinMap.{entries}
use Rattle.lsn_core.specs.declared.ids.BlockId.{BlockId}
use Rattle.page_frames.specs.Framed.{Framed, Held, block_cmp}

-- a block is one of these
abbrev pub is_among : BlockId → List BlockId → Bool
is_among at blocks = list_any (eq_by_cmp block_cmp at) blocks

-- the frames in the order in which the hand comes to them: those behind it, and then the others
abbrev pub turned : BlockId → List (BlockId × Held) → List (BlockId × Held)
turned hand es =
    entries_between block_cmp (Excluded hand) Unbounded es
    ++ entries_between block_cmp Unbounded (Included hand) es

-- a frame may go in a round: in the first one those that weren't used since the hand passed them,
-- in the second one the others; never one of the blocks apart
abbrev pub may_go : List BlockId → Bool → BlockId × Held → Bool
may_go apart used e =
    (if used then e.1.used else not e.1.used) && not (is_among e.0 apart)

-- those of some frames that may go in a round
abbrev pub picked : List BlockId → Bool → List (BlockId × Held) → List BlockId
picked apart used es = map (λ e. e.0) (filter (may_go apart used) es)

-- the blocks that a round gives up, in order
abbrev pub round : List BlockId → Bool → BlockId → List (BlockId × Held) → List BlockId
round apart used hand es = picked apart used (turned hand es)

-- the blocks in the order in which a sweep gives up their frames
abbrev pub sweep : List BlockId → Framed → List BlockId
sweep apart f =
    round apart false f.hand (entries f.held) ++ round apart true f.hand (entries f.held)

-- the blocks whose frames are given up so that so many are free
abbrev pub victims : List BlockId → ℕ → Framed → List BlockId
victims apart count f = take count (sweep apart f)

-- where the hand stands behind a sweep that gave up these: at the last of them
abbrev pub hand_behind : List BlockId → BlockId → BlockId
hand_behind blocks hand = unwrap_or (slice_get blocks (length blocks - 1)) hand
