-- What the crate's private functions answer that read a script: no public contract cites these.
use Rattle.std.specs.Prelude.{◌≡◌, ℕ, ◌+◌, ◌<◌, Bool, ◌||◌, List, [], ◌∷◌, length, drop, min, Option, Some, None, Result, Ok, Err}
use Rattle.std.specs.BTreeSet.{BTreeSet, contains_by}
use Rattle.std.specs.Cmp.Lexicographic.{slice_cmp}
use Rattle.std.specs.Global.{Vec}
use Rattle.std.specs.List.{list_any}
use Rattle.std.specs.Ordering.{nat_cmp}
use Rattle.scripts.specs.declared.meaning.Said.{Said}
use Rattle.scripts.specs.declared.meaning.Said.TheVariants as is
use Rattle.scripts.specs.declared.draft.Draft.{Draft}
use Rattle.scripts.specs.declared.script.Task.{Task}
use Rattle.scripts.specs.declared.why.Why.{Why}
use Rattle.scripts.specs.declared.why.ScriptFault.{ScriptFault}
use Rattle.scripts.specs.declared.why.ScriptFault.TheVariants as fault
use Rattle.scripts.specs.Cuts.{lines_of, words_of}
use Rattle.scripts.specs.Meaning.{Says, Nothing, Worker, Does, meaning}
use Rattle.scripts.specs.Draft.{closed, with_says}
use Rattle.scripts.specs.Named.{is_named_by}
use Rattle.scripts.specs.Reasons.{why_line}

-- what a value of the reader says
abbrev pub said : Said → Says
said is.Nothing = Nothing
said (is.Worker name) = Worker name.now
said (is.Does command) = Does command

-- the first word and what stands behind it, or that there is none
abbrev pub WordAnswer : List ℕ → Option (List ℕ × List ℕ) → Type 0
WordAnswer text None = words_of text ≡ []
WordAnswer text (Some x) = words_of text ≡ x.0 ∷ words_of x.1

-- the line at a place, and the place behind it and its line feed
pub record IsLine (bytes : List ℕ) (at : ℕ) (line : List ℕ) (end : ℕ) : Type 0 where
  pub lt : at < length bytes
  pub cut : lines_of (drop at bytes) ≡ line ∷ lines_of (drop end bytes)
  pub place : end ≡ min (at + (length line + 1)) (length bytes)

-- a name is one of a set's
abbrev pub has_name : BTreeSet (Vec ℕ) → List ℕ → Bool
has_name names name = contains_by (λ key. slice_cmp nat_cmp name key.items) names

-- a set has the names that it had, and those that pass a test
abbrev pub AddsNames : (List ℕ → Bool) → BTreeSet (Vec ℕ) → BTreeSet (Vec ℕ) → Type 0
AddsNames test old new = (name : List ℕ) → has_name new name ≡ (has_name old name || test name)

-- a set has the names of the backups that tasks name
abbrev pub AreTaken : BTreeSet (Vec ℕ) → List Task → Type 0
AreTaken names tasks = (name : List ℕ) → has_name names name ≡ list_any (is_named_by name) tasks

-- the names that are kept are those of the backups that earlier workers name
abbrev pub KnowsTaken : Draft → Type 0
KnowsTaken draft = AreTaken draft.taken (closed draft.tasks.items)

-- what a line that is taken says, or why it is refused, behind these tasks
abbrev pub JudgedAnswer : ℕ → List Task → ℕ → List ℕ → Result Said Why → Type 0
JudgedAnswer workers tasks end line (Ok what) =
    (why_line workers end tasks line ≡ None) × (meaning line ≡ Some (said what))
JudgedAnswer workers tasks end line (Err why) = why_line workers end tasks line ≡ Some why

-- what a line of this number says stands behind what stood
pub record Keeps (old new : Draft) (number : ℕ) (says : Option Says) : Type 0 where
  pub tasks : new.tasks.items ≡ with_says old.tasks.items number says
  pub knows : KnowsTaken new

-- a line is kept, or the reason why it is refused
abbrev pub DraftAnswer : ℕ → Draft → Draft → ℕ → ℕ → List ℕ → Result (Unit {0}) ScriptFault → Type 0
DraftAnswer workers old new end number line (Ok told) =
    (why_line workers end old.tasks.items line ≡ None) × Keeps old new number (meaning line)
DraftAnswer workers old new end number line (Err (fault.Line n why)) =
    (n ≡ number) × (why_line workers end old.tasks.items line ≡ Some why)
DraftAnswer workers old new end number line (Err fault.NoMemory) = Unit {0}
