-- The text of a backup label (PostgreSQL manual, Making a Base Backup Using the Low Level API): its
-- lines, of which each is a key and a value, and which line of another text is refused.
use Rattle.std.specs.Prelude.{◌≡◌, ◌≢◌, ℕ, ◌+◌, ◌^◌, ◌<◌, Bool, true, false, List, [], ◌∷◌, ◌++◌, length, codes, Option, Some, None, Result, Ok, Err, ◌==◌, ◌&&◌, ◌⊎◌}
use Rattle.std.specs.Fmt.{decimal}
use Rattle.std.specs.List.{AllByRecursion}
use Rattle.lsn_core.specs.text_numbers.Numbers.{all_hex_digits}
use Rattle.lsn_core.specs.declared.lsn.Lsn.{Lsn}
use Rattle.lsn_core.specs.Names.{lsn_bytes, IsLsnText, segment_number, segment_name_bytes}
use Rattle.backup_label.specs.declared.label.Label.{Label}
use Rattle.backup_label.specs.declared.reading.LabelFault.{LabelFault}
use Rattle.backup_label.specs.declared.reading.LabelFault.TheVariants.{Line, NoMemory}

-- ---- the lines

-- what a line tells
pub data LabelLine : Type 0 where
  Start : LabelLine  -- where replay of the backup starts, and the file of the WAL that has it
  Checkpoint : LabelLine  -- where the checkpoint's entry starts
  Method : LabelLine  -- how the backup was taken
  From : LabelLine  -- of what server
  Time : LabelLine  -- when
  Name : LabelLine  -- under which label
  Timeline : LabelLine  -- on which timeline
  PriorStart : LabelLine  -- where the prior backup starts
  PriorTimeline : LabelLine  -- and on which timeline

-- those of each backup, in order
abbrev pub full_lines : List LabelLine
full_lines =
    Start ∷ (Checkpoint ∷ (Method ∷ (From ∷ (Time ∷ (Name ∷ (Timeline ∷ []))))))

-- and those that an incremental one has behind them
abbrev pub prior_lines : List LabelLine
prior_lines = PriorStart ∷ (PriorTimeline ∷ [])

abbrev pub label_lines : Option (Lsn × ℕ) → List LabelLine
label_lines None = full_lines
label_lines (Some prior) = full_lines ++ prior_lines

-- with which key a line begins
abbrev pub key_of : LabelLine → List ℕ
key_of Start = codes "START WAL LOCATION: "
key_of Checkpoint = codes "CHECKPOINT LOCATION: "
key_of Method = codes "BACKUP METHOD: "
key_of From = codes "BACKUP FROM: "
key_of Time = codes "START TIME: "
key_of Name = codes "LABEL: "
key_of Timeline = codes "START TIMELINE: "
key_of PriorStart = codes "INCREMENTAL FROM LSN: "
key_of PriorTimeline = codes "INCREMENTAL FROM TLI: "

-- ---- the grammar

-- a segment file of the WAL: 24 hexadecimal digits in either case
abbrev pub is_file_digits : List ℕ → Bool
is_file_digits file = (length file == 24) && all_hex_digits file

-- a place of the WAL, and any segment file behind it
pub record IsStartValue (value : List ℕ) (at : ℕ) : Type 0 where
  pub place : List ℕ
  pub file : List ℕ
  pub spelled : value ≡ place ++ (codes " (file " ++ (file ++ codes ")"))
  pub says : IsLsnText place at
  pub digits : is_file_digits file ≡ true

-- a timeline: a number below 2^32 in decimal without leading zeros
abbrev pub IsTimelineValue : List ℕ → ℕ → Type 0
IsTimelineValue value timeline = (timeline < 2 ^ 32) × (value ≡ decimal timeline)

-- a value says this of a label
abbrev pub ValueSays : Label → LabelLine → List ℕ → Type 0
ValueSays l Start value = IsStartValue value l.start.0
ValueSays l Checkpoint value = IsLsnText value l.checkpoint.0
ValueSays l Method value = value ≡ codes "streamed"
ValueSays l From value = value ≡ codes "primary"
ValueSays l Time value = value ≡ l.time
ValueSays l Name value = value ≡ l.label
ValueSays l Timeline value = IsTimelineValue value l.timeline
ValueSays l PriorStart value = (p : Lsn × ℕ) × (l.prior ≡ Some p) × IsLsnText value p.0.0
ValueSays l PriorTimeline value = (p : Lsn × ℕ) × (l.prior ≡ Some p) × IsTimelineValue value p.1

-- no byte ends a line
abbrev pub HasNoLineEnd : List ℕ → Type 0
HasNoLineEnd value = AllByRecursion (λ b. (b == 10) ≡ false) value

-- a key and a value are the line at the front of a text, and this stands behind it
pub record IsKeyLine (key value text tail : List ℕ) : Type 0 where
  pub whole : text ≡ key ++ (value ++ (10 ∷ tail))
  pub single : HasNoLineEnd value

-- the line at the front has this key and such a value
abbrev pub HasKeyLine : List ℕ → (List ℕ → Type 0) → List ℕ → List ℕ → Type 0
HasKeyLine key P text tail = (value : List ℕ) × IsKeyLine key value text tail × P value

-- the line at the front says this of a label
abbrev pub LineOf : Label → LabelLine → List ℕ → List ℕ → Type 0
LineOf l line text tail = HasKeyLine (key_of line) (ValueSays l line) text tail

-- such lines stand at the front of a text in order, and this behind them
abbrev pub Lines : (LabelLine → List ℕ → List ℕ → Type 0) → List LabelLine → List ℕ → List ℕ
    → Type 0
Lines P [] text rest = text ≡ rest
Lines P (line ∷ lines) text rest =
    (tail : List ℕ) × P line text tail × Lines P lines tail rest

-- a text is a label's: its lines say what the label has, and nothing else stands there
abbrev pub IsLabel : List ℕ → Label → Type 0
IsLabel text l = Lines (LineOf l) (label_lines l.prior) text []

-- ---- what is refused

-- the line at the front says something of some label
abbrev pub SomeLine : LabelLine → List ℕ → List ℕ → Type 0
SomeLine line text tail = (l : Label) × LineOf l line text tail

abbrev pub LacksLabelLine : LabelLine → List ℕ → Type 0
LacksLabelLine line text = (tail : List ℕ) → SomeLine line text tail → ⊥

-- the next line that is to come isn't at the front
abbrev pub LacksNext : List LabelLine → List ℕ → Type 0
LacksNext [] text = Unit
LacksNext (line ∷ lines) text = LacksLabelLine line text

-- a label may end where these lines are still to come
abbrev pub MayEnd : List LabelLine → Type 0
MayEnd lines = (lines ≡ prior_lines) ⊎ (lines ≡ [])

-- behind so many lines, of all that are to come this line is the first that isn't there as it has
-- to be: another stands there, or nothing, or one too many
pub record IsLineRefused (lines : List LabelLine) (before : ℕ) (text : List ℕ) (n : ℕ)
    : Type 0 where
  pub taken : List LabelLine
  pub more : List LabelLine
  pub parts : lines ≡ taken ++ more
  pub rest : List ℕ
  pub read : Lines SomeLine taken text rest
  pub missing : LacksNext more rest
  pub goes_on : MayEnd more → rest ≢ []
  pub number : n ≡ before + length taken + 1

-- the first line of a text that is outside the grammar has this number, from 1 on
abbrev pub IsLabelRefusedAt : List ℕ → ℕ → Type 0
IsLabelRefusedAt text n = IsLineRefused (full_lines ++ prior_lines) 0 text n

-- what a reader answers
abbrev pub LabelAnswer : List ℕ → Result Label LabelFault → Type 0
LabelAnswer text (Ok l) = IsLabel text l
LabelAnswer text (Err (Line n)) = IsLabelRefusedAt text n
LabelAnswer text (Err NoMemory) = Unit {0}

-- ---- what is written

-- a line of a key and a value
unfoldable pub line_text : List ℕ → List ℕ → List ℕ
line_text key value = key ++ (value ++ (10 ∷ []))

-- a place, and the segment file of timeline 1 that has it, by the segment size in MiB
unfoldable pub start_text : ℕ → ℕ → List ℕ
start_text at mib =
    lsn_bytes at ++ (codes " (file "
    ++ (segment_name_bytes (segment_number at mib) mib ++ codes ")"))

-- the first line, and the lines of a place and of a number
abbrev pub start_line : ℕ → ℕ → List ℕ
start_line at mib = line_text (key_of Start) (start_text at mib)

abbrev pub place_line : List ℕ → ℕ → List ℕ
place_line key at = line_text key (lsn_bytes at)

abbrev pub number_line : List ℕ → ℕ → List ℕ
number_line key n = line_text key (decimal n)

-- the lines of what only an incremental backup has
abbrev pub prior_text : Option (Lsn × ℕ) → List ℕ
prior_text None = []
prior_text (Some prior) =
    place_line (key_of PriorStart) prior.0.0 ++ number_line (key_of PriorTimeline) prior.1

-- the text of a label over a WAL of this segment size
abbrev pub label_text : Label → ℕ → List ℕ
label_text l mib =
    start_line l.start.0 mib
    ++ (place_line (key_of Checkpoint) l.checkpoint.0
    ++ (line_text (key_of Method) (codes "streamed")
    ++ (line_text (key_of From) (codes "primary")
    ++ (line_text (key_of Time) l.time
    ++ (line_text (key_of Name) l.label
    ++ (number_line (key_of Timeline) l.timeline
    ++ prior_text l.prior))))))
