-- What holds of the texts of labels.
use Rattle.std.specs.Prelude.{◌≡◌, ℕ, ◌^◌, ◌<◌, ◌≤◌, List, IfSome}
use Rattle.lsn_core.specs.Names.{segment_number}
use Rattle.lsn_core.specs.Segment.{IsSegmentMib}
use Rattle.lsn_core.specs.Sizes.{most_segments}
use Rattle.backup_label.specs.declared.label.Label.{Label}
use Rattle.backup_label.specs.Label.{IsLabel, IsLabelRefusedAt, HasNoLineEnd, label_text}
use Rattle.backup_label.specs.Time.{IsTimeText}

-- a text is one label's
abbrev pub TextsHaveOneLabel : Type 0
TextsHaveOneLabel = (text : List ℕ) (l m : Label) → IsLabel text l → IsLabel text m → l ≡ m

-- and a label's text has no line that is refused
abbrev pub LabelsAreNotRefused : Type 0
LabelsAreNotRefused = (text : List ℕ) (l : Label) (n : ℕ)
    → IsLabel text l → IsLabelRefusedAt text n → ⊥

-- of other texts one line is the first that is refused
abbrev pub OneLineIsRefused : Type 0
OneLineIsRefused = (text : List ℕ) (m n : ℕ)
    → IsLabelRefusedAt text m → IsLabelRefusedAt text n → m ≡ n

-- a label that lines can say: numbers that fit, and texts without a line end
pub record IsWritableLabel (l : Label) (mib : ℕ) : Type 0 where
  pub size : IsSegmentMib mib
  pub start : l.start.0 < 2 ^ 64
  pub segment : segment_number l.start.0 mib ≤ most_segments
  pub checkpoint : l.checkpoint.0 < 2 ^ 64
  pub time : HasNoLineEnd l.time
  pub label : HasNoLineEnd l.label
  pub timeline : l.timeline < 2 ^ 32
  pub prior : IfSome l.prior (λ p. (p.0.0 < 2 ^ 64) × (p.1 < 2 ^ 32))

-- what is written is that label's text
abbrev pub WrittenLabelsAreRead : Type 0
WrittenLabelsAreRead = (l : Label) (mib : ℕ) → IsWritableLabel l mib → IsLabel (label_text l mib) l

-- and a moment is written without a line end, with a zone that has none
abbrev pub TimesHaveNoLineEnd : Type 0
TimesHaveNoLineEnd = (when : ℕ) (zone text : List ℕ)
    → HasNoLineEnd zone → IsTimeText when zone text → HasNoLineEnd text
