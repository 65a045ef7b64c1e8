-- How a segment file of a fork is sent by an incremental backup.
use Rattle.std.specs.Prelude.{◌≤◌, ◌<◌, ℕ, ◌+◌, ◌*◌, ◌-◌, ◌==◌, ◌&&◌, ◌||◌, min, max, Bool, false, List, map, length, Option, Some, None, nat_lt, nat_le, not, if◌then◌else◌}
use Rattle.std.specs.List.{filter, list_any, All}
use Rattle.incr_file.specs.declared.head.IncrHead.{IncrHead}
use Rattle.incr_file.specs.declared.plan.FilePlan.{FilePlan}
use Rattle.incr_file.specs.declared.plan.FilePlan.TheVariants.{Whole, Incr}
use Rattle.incr_file.specs.Head.{head_with, IsHead}

-- how many blocks are planned of the segment with this first block, at so many blocks a file, where
-- the fork has so many
abbrev pub planned : ℕ → ℕ → ℕ → ℕ
planned relseg blocks first = min relseg (blocks - first)

-- the fork's limit is at or below a block: since the prior backup the fork was made, or cut there
-- or before
abbrev pub is_limited_at : ℕ → Option ℕ → Bool
is_limited_at block None = false
is_limited_at block (Some limit) = nat_le limit block

-- the fork's listed blocks that are planned of a segment, counted from its first one
abbrev pub listed_in : ℕ → ℕ → List ℕ → List ℕ
listed_in first count blocks =
    map (λ b. b - first) (filter (λ b. nat_le first b && nat_lt b (first + count)) blocks)

-- a list of blocks has a block
abbrev pub has_block : List ℕ → ℕ → Bool
has_block blocks block = list_any (λ b. b == block) blocks

-- a file of so many planned blocks, so many of them listed, is sent whole where nothing is planned,
-- where the prior backup lists it in no form, where it has a limit at its first block, and where
-- more than nine tenths of it are listed
abbrev pub is_sent_whole : ℕ → ℕ → Option ℕ → ℕ → Bool → Bool
is_sent_whole first count limit listed known =
    ((count == 0) || not known)
    || (is_limited_at first limit || nat_lt (9 * count) (10 * listed))

-- the truncation length: the planned blocks, raised to the fork's limit, which counts from the
-- fork's start, but to no more than a file has
abbrev pub truncation_length : ℕ → ℕ → ℕ → Option ℕ → ℕ
truncation_length relseg first count None = count
truncation_length relseg first count (Some limit) = max count (min relseg (limit - first))

-- the head by which a file is sent that isn't sent whole
abbrev pub planned_head : ℕ → ℕ → ℕ → Option ℕ → List ℕ → IncrHead
planned_head relseg first count limit blocks =
    head_with (truncation_length relseg first count limit) (listed_in first count blocks)

-- the plan of the segment file with this first block and so many planned blocks, by the limit and
-- the listed blocks that the summary has of the fork, and by whether the prior backup lists the
-- file in a form
abbrev pub plan_at : ℕ → ℕ → ℕ → Option ℕ → List ℕ → Bool → FilePlan
plan_at relseg first count limit blocks known =
    if is_sent_whole first count limit (length (listed_in first count blocks)) known then Whole
    else Incr (planned_head relseg first count limit blocks)

-- the plan of a segment by its number, of a fork of so many blocks
abbrev pub plan_of : ℕ → ℕ → ℕ → Option ℕ → List ℕ → Bool → FilePlan
plan_of relseg seg size limit blocks known =
    plan_at relseg (seg * relseg) (planned relseg size (seg * relseg)) limit blocks known

-- a plan whose head may be written: it is of the grammar, and its blocks are among so many planned
-- ones
pub record IsPlannedHead (count : ℕ) (head : IncrHead) : Type 0 where
  pub written : IsHead head
  pub kept : count ≤ head.truncation
  pub below : All (λ block. block < count) head.blocks

abbrev pub IsPlan : ℕ → FilePlan → Type 0
IsPlan count Whole = Unit {0}
IsPlan count (Incr head) = IsPlannedHead count head
