-- What a line says.
use Rattle.std.specs.Prelude.{ℕ, List, [], ◌∷◌, ◌&&◌, Bool, not, Option, Some, None, codes, bytes_eq, ◌==◌, if◌then◌else◌}
use Rattle.std.specs.Option.{option_map}
use Rattle.lsn_core.specs.byte_words.Numbers.{◌>>=◌}
use Rattle.scripts.specs.declared.script.Command.{Command}
use Rattle.scripts.specs.declared.script.Command.TheVariants.{Insert, Grow, Checkpoint, Flush, Summarise, Full, Incr}
use Rattle.scripts.specs.declared.order.Order.TheVariants.{Create, Truncate, Change, Drop}
use Rattle.scripts.specs.Cuts.{words_of, is_name}
use Rattle.lsn_core.specs.text_numbers.Numbers.{number_of}
use Rattle.scripts.specs.Items.{fork_in, rel_in, block_in, shape_in, items_in, growth_count, flush_count}

-- nothing, that a worker's lines begin, or a command
pub data Says : Type 0 where
  Nothing : Says
  Worker : List ℕ → Says
  Does : Command → Says

-- the one word of a list that has one
abbrev pub only : List (List ℕ) → Option (List ℕ)
only [] = None
only (word ∷ []) = Some word
only (word ∷ (next ∷ words)) = None

-- the first word of a list, and those behind it
abbrev pub first_of : List (List ℕ) → Option (List ℕ × List (List ℕ))
first_of [] = None
first_of (word ∷ words) = Some (word, words)

-- the two words of a list that has two, and the three of one that has three
abbrev pub two : List (List ℕ) → Option (List ℕ × List ℕ)
two words = do
  first ← first_of words
  second ← only first.1
  Some (first.0, second)

abbrev pub three : List (List ℕ) → Option (List ℕ × List ℕ × List ℕ)
three words = do
  first ← first_of words
  others ← two first.1
  Some (first.0, others.0, others.1)

-- what words say behind the verb of their line: one function a verb
abbrev pub worker_says : List (List ℕ) → Option Says
worker_says words = do
  name ← only words
  if is_name name then Some (Worker name) else None

abbrev pub create_says : List (List ℕ) → Option Says
create_says words = do
  word ← only words
  fork ← fork_in word
  Some (Does (Insert (Create fork)))

abbrev pub change_says : List (List ℕ) → Option Says
change_says words = option_map (λ items. Does (Insert (Change items))) (items_in words)

-- the main fork of a relation is cut to so many blocks
abbrev pub truncate_says : List (List ℕ) → Option Says
truncate_says words = do
  parts ← two words
  rel ← rel_in parts.0
  count ← number_of parts.1
  Some (Does (Insert (Truncate rel count)))

-- all forks of a relation are taken away
abbrev pub drop_says : List (List ℕ) → Option Says
drop_says words = do
  word ← only words
  rel ← rel_in word
  Some (Does (Insert (Drop rel)))

-- from a block on, so many pages that are made so are put, one a block
abbrev pub grow_says : List (List ℕ) → Option Says
grow_says words = do
  parts ← three words
  at ← block_in parts.0
  count ← growth_count parts.1
  shape ← shape_in parts.2
  Some (Does (Grow at count shape))

abbrev pub checkpoint_says : List (List ℕ) → Option Says
checkpoint_says [] = Some (Does Checkpoint)
checkpoint_says (word ∷ words) = None

abbrev pub flush_says : List (List ℕ) → Option Says
flush_says words = do
  word ← only words
  count ← flush_count word
  Some (Does (Flush count))

abbrev pub summarise_says : List (List ℕ) → Option Says
summarise_says [] = Some (Does Summarise)
summarise_says (word ∷ words) = None

abbrev pub full_says : List (List ℕ) → Option Says
full_says words = do
  name ← only words
  if is_name name then Some (Does (Full name)) else None

-- two words are names, and not the same one
abbrev pub are_two_names : List ℕ → List ℕ → Bool
are_two_names first second = is_name first && (is_name second && not (bytes_eq first second))

-- an incremental backup of a name is taken on a prior one
abbrev pub incr_says : List (List ℕ) → Option Says
incr_says words = do
  names ← two words
  if are_two_names names.0 names.1 then Some (Does (Incr names.0 names.1)) else None

abbrev pub words_say : List (List ℕ) → Option Says
words_say [] = None
words_say (verb ∷ words) =
    if bytes_eq verb (codes "worker") then worker_says words
    else (if bytes_eq verb (codes "create") then create_says words
    else (if bytes_eq verb (codes "truncate") then truncate_says words
    else (if bytes_eq verb (codes "drop") then drop_says words
    else (if bytes_eq verb (codes "change") then change_says words
    else (if bytes_eq verb (codes "grow") then grow_says words
    else (if bytes_eq verb (codes "checkpoint") then checkpoint_says words
    else (if bytes_eq verb (codes "flush") then flush_says words
    else (if bytes_eq verb (codes "summarise") then summarise_says words
    else (if bytes_eq verb (codes "full") then full_says words
    else (if bytes_eq verb (codes "incr") then incr_says words else None))))))))))

-- None where a line says nothing that is taken; empty lines and comments say Nothing
abbrev pub meaning : List ℕ → Option Says
meaning [] = Some Nothing
meaning (b ∷ bytes) = if b == 35 then Some Nothing else words_say (words_of (b ∷ bytes))
