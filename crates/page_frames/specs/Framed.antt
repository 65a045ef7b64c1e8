-- Pages in a bounded number of frames: which blocks have one, and how many blocks each fork has.
use Rattle.std.specs.Prelude.{◌≡◌, ℕ, ◌<◌, ◌≤◌, ◌^◌, Bool, List, length, Option, Some, IsSome, if◌then◌else◌}
use Rattle.std.specs.Option.{option_map, is_some}
use Rattle.std.specs.declared.cmp.Ordering.{Ordering}
use Rattle.std.specs.Ordering.{nat_cmp, ordering_then}
use Rattle.std.specs.Coded.{Coded, code_by, coded×, coded_list, coded_option, coded_ℕ, coded_bool}
use Rattle.std.specs.FinMap.{FinMap, get, len, code}
use mathlib.Core.Path.{refl}
use Rattle.lsn_core.specs.byte_words.Numbers.{◌>>=◌}
use Rattle.lsn_core.specs.declared.ids.ForkId.{ForkId}
use Rattle.lsn_core.specs.declared.ids.BlockId.{BlockId}
use Rattle.lsn_core.specs.contracts.ids.ForkId as fork_row
use Rattle.lsn_core.specs.contracts.ids.BlockId as block_row
use Rattle.lsn_core.specs.Store.{fork_cmp}

-- blocks in order: by fork, then by number
abbrev pub block_cmp : BlockId → BlockId → Ordering
block_cmp a b = ordering_then (fork_cmp a.fork b.fork) (nat_cmp a.block b.block)

-- a frame: its page, where the last entry ends that touched the page since it was written (None
-- where it is clean), and whether it was used since the hand of the clock passed it
pub record Held : Type 0 where
  pub page : List ℕ
  pub mark : Option ℕ
  pub used : Bool

abbrev pub HeldFrames : Type 0
HeldFrames = FinMap block_cmp Held

-- how many blocks each fork has that is there
abbrev pub ForkLengths : Type 0
ForkLengths = FinMap fork_cmp ℕ

-- the keys of these are the blocks, and the forks, that are meant
abbrev pub BlockSet : Type 0
BlockSet = FinMap block_cmp Bool

abbrev pub ForkSet : Type 0
ForkSet = FinMap fork_cmp Bool

-- what frames hold. A frame of a block at its fork's end or past it is no page: it is kept for one
pub record Framed : Type 0 where
  pub lengths : ForkLengths
  pub slots : ForkSet  -- memory is kept for the lengths of these forks
  pub held : HeldFrames
  pub queue : BlockSet  -- of the dirty blocks that are there, and perhaps of others
  pub hand : BlockId  -- the clock's hand stands at this block, behind which a sweep begins
  pub limit : ℕ  -- the most frames

-- the page of a block that has a frame
abbrev pub held_page : HeldFrames → BlockId → Option (List ℕ)
held_page held at = option_map (λ h. h.page) (get held at)

-- where the last entry ends that touched its page since it was written
abbrev pub held_mark : HeldFrames → BlockId → Option ℕ
held_mark held at = get held at >>= λ h. h.mark

-- each page has 8192 bytes, there are no more frames than there may be, a fork has fewer than 2^32
-- blocks, and each dirty block that is there is in the queue
pub record AreFramed (f : Framed) : Type 0 where
  pub whole : (at : BlockId) (frame : Held) → get f.held at ≡ Some frame → length frame.page ≡ 8192
  pub few : len f.held ≤ f.limit
  pub narrow : (fork : ForkId) (count : ℕ) → get f.lengths fork ≡ Some count → count < 2 ^ 32
  pub queued : (at : BlockId) (count : ℕ) → get f.lengths at.fork ≡ Some count → at.block < count
      → IsSome (held_mark f.held at) → IsSome (get f.queue at)

-- ---- what calls leave

-- how many frames a block lacks
abbrev pub lacks : HeldFrames → BlockId → ℕ
lacks held at = if is_some (held_page held at) then 0 else 1

-- each block that had a frame has it still, with its page and mark
abbrev pub HoldsMore : HeldFrames → HeldFrames → Type 0
HoldsMore old new = (at : BlockId) (frame : Held) → get old at ≡ Some frame
    → (held_page new at ≡ Some frame.page) × (held_mark new at ≡ frame.mark)

-- the same blocks have frames, with the same pages and marks
pub record HoldsAlike (old new : HeldFrames) : Type 0 where
  pub pages : (at : BlockId) → held_page new at ≡ held_page old at
  pub marks : (at : BlockId) → held_mark new at ≡ held_mark old at
  pub count : len new ≡ len old

-- and all else is the same, but for where the clock stands
pub record IsAlike (old new : Framed) : Type 0 where
  pub held : HoldsAlike old.held new.held
  pub lengths : new.lengths ≡ old.lengths
  pub slots : new.slots ≡ old.slots
  pub queue : new.queue ≡ old.queue
  pub limit : new.limit ≡ old.limit

-- ---- by these a proof tells them apart

abbrev pub held_code : Coded Held
held_code =
    code_by (List ℕ × (Option ℕ × Bool))
    (coded× (coded_list coded_ℕ) (coded× (coded_option coded_ℕ) coded_bool))
    (λ h. (h.page, (h.mark, h.used)))
    (λ t. record { page = t.0; mark = t.1.0; used = t.1.1 }) (λ _. refl)

abbrev pub lengths_code : Coded ForkLengths
lengths_code = code fork_row.the_row.coded coded_ℕ

abbrev pub slots_code : Coded ForkSet
slots_code = code fork_row.the_row.coded coded_bool

abbrev pub frames_code : Coded HeldFrames
frames_code = code block_row.the_row.coded held_code

abbrev pub queue_code : Coded BlockSet
queue_code = code block_row.the_row.coded coded_bool

abbrev pub framed_code : Coded Framed
framed_code =
    code_by (ForkLengths × (ForkSet × (HeldFrames × (BlockSet × (BlockId × ℕ)))))
    (coded× lengths_code (coded× slots_code
    (coded× frames_code (coded× queue_code (coded× block_row.the_row.coded coded_ℕ)))))
    (λ f. (f.lengths, (f.slots, (f.held, (f.queue, (f.hand, f.limit))))))
    (λ t. record {
      lengths = t.0;
      slots = t.1.0;
      held = t.1.1.0;
      queue = t.1.1.1.0;
      hand = t.1.1.1.1.0;
      limit = t.1.1.1.1.1;
    }) (λ _. refl)
