-- What the crate's private functions answer: no public contract cites these.
use Rattle.std.specs.Prelude.{◌≡◌, ◌<◌, ◌≤◌, ℕ, ◌||◌, ◌&&◌, Bool, true, false, nat_lt, nat_le, List, [], length, get_or}
use Rattle.std.specs.List.{filter, range_with_len}
use Rattle.std.specs.Option.{is_some}
use Rattle.lsn_core.specs.Sizes.{most_relseg}
use Rattle.incr_file.specs.Form.{Form, Absent as NoFile, Plain as PlainForm, Part as PartForm, block_in_chain}
use Rattle.incr_file.specs.Plan.{has_block}
use Rattle.incr_file.specs.Reading.{head_in}
use Rattle.chain_files.specs.Segments.{IsIncrFile}
use Rattle.merged_forms.specs.Merged.{rests_on_plain, least_length}
use Rattle.series_files.specs.declared.seen.Seen.{Seen}
use Rattle.series_files.specs.declared.seen.Seen.TheVariants.{Absent, Plain, Part}
use Rattle.series_files.specs.declared.answered.Answered.{Answered}

-- ---- forms

-- what was seen of the head of an incremental file, if it has one
abbrev pub IsPartSeen : List ℕ → Seen → Type 0
IsPartSeen bytes Absent = ⊥
IsPartSeen bytes Plain = ⊥
IsPartSeen bytes (Part head) = head ≡ head_in bytes

abbrev pub IsHeadSeen : List ℕ → ℕ → Seen → Type 0
IsHeadSeen bytes size seen = IsIncrFile bytes size → IsPartSeen bytes seen

-- a form was seen
abbrev pub IsSeen : Form → Seen → Type 0
IsSeen NoFile Absent = Unit {0}
IsSeen (PlainForm pages) Plain = Unit {0}
IsSeen (PartForm head pages) (Part seen) = seen ≡ head
IsSeen form seen = ⊥

-- ---- blocks

-- those of the listed blocks were marked that are below a length
pub record AreMarked (least : ℕ) (blocks : List ℕ) (old new : List Bool) : Type 0 where
  pub long : length new ≡ length old
  pub each : (b : ℕ) (d : Bool) → b < length old
      → get_or new b d ≡ (get_or old b d || (nat_lt b least && has_block blocks b))

-- the blocks of a merged file: those that are marked, and each from a length on
abbrev pub had_blocks : List Bool → ℕ → List ℕ
had_blocks had least =
    filter (λ b. get_or had b false || nat_le least b) (range_with_len 0 (length had))

-- ---- members asked in turn

-- of forms, the newest one first, all but these were asked, and are incremental
pub record Leaves (forms older : List Form) (answered : Answered) : Type 0 where
  pub fits : answered.least ≤ most_relseg
  pub least : least_length answered.least older ≡ least_length most_relseg forms
  pub rests : rests_on_plain older ≡ rests_on_plain forms
  pub had : (b : ℕ) (d : Bool) → b < length answered.had.items
      → (get_or answered.had.items b d
      || (nat_lt b answered.least && is_some (block_in_chain older b)))
      ≡ is_some (block_in_chain forms b)

-- they were asked down to the first that isn't incremental, and that is plain, or isn't
abbrev pub IsAsked : List Form → Bool → Answered → Type 0
IsAsked forms true answered = rests_on_plain forms ≡ true
IsAsked forms false answered = (rests_on_plain forms ≡ false) × Leaves forms [] answered
