-- What functions inside the crate answer. No public contract cites these.
use Rattle.std.specs.Prelude.{◌≡◌, ℕ, List, [], ◌∷◌, ◌++◌, codes, Option, Some, None, Result, Ok, Err}
use Rattle.lsn_core.specs.declared.lsn.Lsn.{Lsn}
use Rattle.lsn_core.specs.Names.{IsLsnText}
use Rattle.backup_label.specs.declared.label.Label.{Label}
use Rattle.backup_label.specs.declared.reading.LabelFault.{LabelFault}
use Rattle.backup_label.specs.declared.reading.LabelFault.TheVariants.{Line, NoMemory}
use Rattle.backup_label.specs.Label.{LabelLine, Start, Checkpoint, Method, From, Time, Name, Timeline, prior_lines, key_of, IsStartValue, IsTimelineValue, IsKeyLine, HasKeyLine, LineOf, Lines, IsLineRefused}

-- ---- values and lines

-- what stands behind the place of the first line, and the blank behind that
abbrev pub file_note : List ℕ → List ℕ
file_note file = codes "(file " ++ (file ++ codes ")")

abbrev pub IsNoFileNote : List ℕ → Type 0
IsNoFileNote note = (file : List ℕ) → note ≡ file_note file → ⊥

abbrev pub IsNoStart : List ℕ → Type 0
IsNoStart value = (at : ℕ) → IsStartValue value at → ⊥

abbrev pub IsNoTimeline : List ℕ → Type 0
IsNoTimeline value = (n : ℕ) → IsTimelineValue value n → ⊥

-- no line with this key stands at the front of a text
abbrev pub LacksKeyLine : List ℕ → List ℕ → Type 0
LacksKeyLine key text = (value tail : List ℕ) → IsKeyLine key value text tail → ⊥

-- the line of a key and a word
abbrev pub HasWordLine : List ℕ → List ℕ → List ℕ → List ℕ → Type 0
HasWordLine key word text tail = HasKeyLine key (λ v. v ≡ word) text tail

abbrev pub LacksWordLine : List ℕ → List ℕ → List ℕ → Type 0
LacksWordLine key word text = (tail : List ℕ) → HasWordLine key word text tail → ⊥

-- the first line, of a place and its file
abbrev pub HasStartLine : ℕ → List ℕ → List ℕ → Type 0
HasStartLine at text tail = HasKeyLine (key_of Start) (λ v. IsStartValue v at) text tail

abbrev pub LacksStartLine : List ℕ → Type 0
LacksStartLine text = (at : ℕ) (tail : List ℕ) → HasStartLine at text tail → ⊥

-- the line of a key and a place
abbrev pub HasPlaceLine : List ℕ → ℕ → List ℕ → List ℕ → Type 0
HasPlaceLine key at text tail = HasKeyLine key (λ v. IsLsnText v at) text tail

abbrev pub LacksPlaceLine : List ℕ → List ℕ → Type 0
LacksPlaceLine key text = (at : ℕ) (tail : List ℕ) → HasPlaceLine key at text tail → ⊥

-- the line of a key and a timeline
abbrev pub HasTimelineLine : List ℕ → ℕ → List ℕ → List ℕ → Type 0
HasTimelineLine key n text tail = HasKeyLine key (λ v. IsTimelineValue v n) text tail

abbrev pub LacksTimelineLine : List ℕ → List ℕ → Type 0
LacksTimelineLine key text = (n : ℕ) (tail : List ℕ) → HasTimelineLine key n text tail → ⊥

-- ---- several lines

-- the lines of where the backup starts and how it was taken
abbrev pub front_lines : List LabelLine
front_lines = Start ∷ (Checkpoint ∷ (Method ∷ (From ∷ [])))

-- those of when, under which label and on which timeline
abbrev pub middle_lines : List LabelLine
middle_lines = Time ∷ (Name ∷ (Timeline ∷ []))

-- the lines that are there where a prior is told, behind the others
abbrev pub lines_with : Option (Lsn × ℕ) → List LabelLine
lines_with None = []
lines_with (Some prior) = prior_lines

abbrev pub label_with : Lsn → Lsn → List ℕ → List ℕ → ℕ → Option (Lsn × ℕ) → Label
label_with start checkpoint time label timeline prior = record {
  start = start;
  checkpoint = checkpoint;
  time = time;
  label = label;
  timeline = timeline;
  prior = prior;
}

-- what is answered, seen in its own words
abbrev pub seen_answer : {A B : Type 0} → (A → B) → Result A LabelFault → Result B LabelFault
seen_answer see (Ok x) = Ok (see x)
seen_answer see (Err fault) = Err fault

-- some lines say this of each label that has so much of it, or one of them is refused
abbrev pub FrontAnswer : List ℕ → Result (Lsn × Lsn × List ℕ) LabelFault → Type 0
FrontAnswer text (Ok x) = (time label : List ℕ) (timeline : ℕ) (prior : Option (Lsn × ℕ))
    → Lines (LineOf (label_with x.0 x.1 time label timeline prior)) front_lines text x.2
FrontAnswer text (Err (Line n)) =
    IsLineRefused (front_lines ++ (middle_lines ++ prior_lines)) 0 text n
FrontAnswer text (Err NoMemory) = ⊥

abbrev pub MiddleAnswer : List ℕ → Result (List ℕ × List ℕ × ℕ × List ℕ) LabelFault → Type 0
MiddleAnswer text (Ok x) = (start checkpoint : Lsn) (prior : Option (Lsn × ℕ))
    → Lines (LineOf (label_with start checkpoint x.0 x.1 x.2 prior)) middle_lines text x.3
MiddleAnswer text (Err (Line n)) = IsLineRefused (middle_lines ++ prior_lines) 4 text n
MiddleAnswer text (Err NoMemory) = ⊥

abbrev pub PriorAnswer : List ℕ → Result (Option (Lsn × ℕ)) LabelFault → Type 0
PriorAnswer text (Ok prior) = (start checkpoint : Lsn) (time label : List ℕ) (timeline : ℕ)
    → Lines (LineOf (label_with start checkpoint time label timeline prior))
    (lines_with prior) text []
PriorAnswer text (Err (Line n)) = IsLineRefused prior_lines 7 text n
PriorAnswer text (Err NoMemory) = ⊥
