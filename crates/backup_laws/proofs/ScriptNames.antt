-- The name of a backup that a script's line takes is one line.
use Rattle.std.proofs.Common.{◌≡◌, ℕ, zero, suc, Bool, true, false, cond, ◌&&◌, List, [], ◌∷◌, drop, length, Option, Some, None, refl, sym, subst, ◌∙◌, ◌⊎◌, inl, inr}
use Rattle.std.specs.Prelude.{◌==◌, codes, bytes_eq, nat_le, slice_get}
use Rattle.std.specs.List.{AllByRecursion, list_all}
use Rattle.std.specs.Option.{option_map}
use Rattle.std.proofs.lemmas.Bool.{and_parts, cases_Bool, eqb-true}
use Rattle.lsn_core.specs.byte_words.Numbers.{◌>>=◌}
use Rattle.lsn_core.specs.declared.lsn.Lsn.{Lsn}
use Rattle.lsn_core.specs.text_numbers.Numbers.{number_of}
use Rattle.backup_label.specs.Label.{HasNoLineEnd}
use Rattle.scripts.specs.declared.script.Command.{Command}
use Rattle.scripts.specs.declared.script.Command.TheVariants as command
use Rattle.scripts.specs.declared.order.Order.TheVariants.{Change}
use Rattle.scripts.specs.declared.script.Line.{Line}
use Rattle.scripts.specs.declared.script.Task.{Task}
use Rattle.scripts.specs.Named.{backup_taken}
use Rattle.scripts.specs.Cuts.{is_name, is_name_byte, lines_of, words_of}
use Rattle.scripts.specs.Items.{items_in, fork_in, rel_in, block_in, shape_in, growth_count, flush_count}
use Rattle.scripts.specs.Meaning.{Says, Nothing, Worker, Does, meaning, only, two, three, are_two_names, words_say, worker_says, create_says, truncate_says, drop_says, change_says, grow_says, checkpoint_says, flush_says, summarise_says, full_says, incr_says}
use Rattle.scripts.proofs.Drafts.{SaysSuch, such_drafted}
use Rattle.run_answers.specs.declared.told.Told.{Told}
use Rattle.run_command.specs.Run.{HasScript, tasks_told}
use Rattle.backup_laws.specs.Runs.{IsBackedUp}
use Rattle.backup_laws.specs.Chains.{IsIncremented}
use Rattle.backup_laws.specs.Finished.{AnsweredNamesAreLines}

-- ---- names

byte_free : (b : ℕ) → is_name_byte b ≡ true → (b == 10) ≡ false
byte_free b is = elim (cases_Bool (b == 10)) [
  | inl same ↦ absurd (let e : is_name_byte 10 ≡ true = subst (λ (n : ℕ). is_name_byte n ≡ true) (eqb-true b 10 same) is in cc)
  | inr apart ↦ apart
]

bytes_free : (name : List ℕ) → list_all is_name_byte name ≡ true → HasNoLineEnd name
bytes_free [] all = tt
bytes_free (b ∷ name) all =
    let parts = and_parts (is_name_byte b) (list_all is_name_byte name) all in
    (byte_free b parts.0, bytes_free name parts.1)

name_free : (name : List ℕ) → is_name name ≡ true → HasNoLineEnd name
name_free name is =
    let long = and_parts (nat_le 1 (length name)) (nat_le (length name) 32 && list_all is_name_byte name) is in
    bytes_free name (and_parts (nat_le (length name) 32) (list_all is_name_byte name) long.1).1

-- ---- what a line says

-- a command takes no backup, or one whose name is one line
abbrev TakesOneLine : Command → Type 0
TakesOneLine command = HasNoLineEnd (backup_taken command)

abbrev IsOneLine : Option Says → Type 0
IsOneLine = SaysSuch TakesOneLine

if_said : (test : Bool) (one other : Option Says) → (test ≡ true → IsOneLine one) → IsOneLine other → IsOneLine (cond test one other)
if_said true one other is last = is refl
if_said false one other is last = last

then_said : {A : Type 0} (o : Option A) (f : A → Option Says) → ((a : A) → IsOneLine (f a)) → IsOneLine (o >>= f)
then_said (Some a) f is = is a
then_said None f is = tt

worker_said : (words : List (List ℕ)) → IsOneLine (worker_says words)
worker_said words = then_said (only words) _ (λ name. if_said (is_name name) (Some (Worker name)) None (λ is. tt) tt)

create_said : (words : List (List ℕ)) → IsOneLine (create_says words)
create_said words = then_said (only words) _ (λ word. then_said (fork_in word) _ (λ fork. tt))

truncate_said : (words : List (List ℕ)) → IsOneLine (truncate_says words)
truncate_said words = then_said (two words) _ (λ parts. then_said (rel_in parts.0) _ (λ rel. then_said (number_of parts.1) _ (λ count. tt)))

drop_said : (words : List (List ℕ)) → IsOneLine (drop_says words)
drop_said words = then_said (only words) _ (λ word. then_said (rel_in word) _ (λ rel. tt))

change_said : (words : List (List ℕ)) → IsOneLine (change_says words)
change_said words = elim (items_in words) as (λ o. IsOneLine (option_map (λ items. Does (command.Insert (Change items))) o)) [ None ↦ tt | Some items ↦ tt ]

grow_said : (words : List (List ℕ)) → IsOneLine (grow_says words)
grow_said words = then_said (three words) _ (λ parts. then_said (block_in parts.0) _ (λ at. then_said (growth_count parts.1) _ (λ count. then_said (shape_in parts.2) _ (λ shape. tt))))

checkpoint_said : (words : List (List ℕ)) → IsOneLine (checkpoint_says words)
checkpoint_said [] = tt
checkpoint_said (word ∷ words) = tt

flush_said : (words : List (List ℕ)) → IsOneLine (flush_says words)
flush_said words = then_said (only words) _ (λ word. then_said (flush_count word) _ (λ count. tt))

summarise_said : (words : List (List ℕ)) → IsOneLine (summarise_says words)
summarise_said [] = tt
summarise_said (word ∷ words) = tt

full_said : (words : List (List ℕ)) → IsOneLine (full_says words)
full_said words = then_said (only words) _ (λ name. if_said (is_name name) (Some (Does (command.Full name))) None (name_free name) tt)

incr_said : (words : List (List ℕ)) → IsOneLine (incr_says words)
incr_said words = then_said (two words) _ (λ names. if_said (are_two_names names.0 names.1) (Some (Does (command.Incr names.0 names.1))) None (λ are. name_free names.0 (and_parts (is_name names.0) _ are).0) tt)

words_said : (words : List (List ℕ)) → IsOneLine (words_say words)
words_said [] = tt
words_said (verb ∷ words) =
    if_said (bytes_eq verb (codes "worker")) _ _ (λ is. worker_said words)
    (if_said (bytes_eq verb (codes "create")) _ _ (λ is. create_said words)
    (if_said (bytes_eq verb (codes "truncate")) _ _ (λ is. truncate_said words)
    (if_said (bytes_eq verb (codes "drop")) _ _ (λ is. drop_said words)
    (if_said (bytes_eq verb (codes "change")) _ _ (λ is. change_said words)
    (if_said (bytes_eq verb (codes "grow")) _ _ (λ is. grow_said words)
    (if_said (bytes_eq verb (codes "checkpoint")) _ _ (λ is. checkpoint_said words)
    (if_said (bytes_eq verb (codes "flush")) _ _ (λ is. flush_said words)
    (if_said (bytes_eq verb (codes "summarise")) _ _ (λ is. summarise_said words)
    (if_said (bytes_eq verb (codes "full")) _ _ (λ is. full_said words)
    (if_said (bytes_eq verb (codes "incr")) _ _ (λ is. incr_said words) tt))))))))))

line_said : (line : List ℕ) → IsOneLine (meaning line)
line_said [] = tt
line_said (b ∷ bytes) = if_said (b == 35) (Some Nothing) (words_say (words_of (b ∷ bytes))) (λ is. tt) (words_said (words_of (b ∷ bytes)))

-- ---- a script

abbrev AreOneLine : List Line → Type 0
AreOneLine lines = AllByRecursion (λ line. HasNoLineEnd (backup_taken line.command)) lines

told_free : (told : List Told) (worker : ℕ) (by : Told) → AllByRecursion (λ t. AreOneLine t.lines) (tasks_told told) → slice_get told worker ≡ Some by → AreOneLine by.task.lines
told_free [] worker by are there = absurd cc
told_free (t ∷ told) zero by are there =
    let same : t ≡ by = cc in
    subst (λ (u : Told). AreOneLine u.task.lines) same are.0
told_free (t ∷ told) (suc worker) by are there = told_free told worker by are.1 there

line_free : (lines : List Line) (number : ℕ) (line : Line) (behind : List Line) → AreOneLine lines → drop number lines ≡ line ∷ behind → HasNoLineEnd (backup_taken line.command)
line_free [] zero line behind are at = absurd cc
line_free [] (suc n) line behind are at = absurd cc
line_free (l ∷ lines) zero line behind are at =
    let same : l ≡ line = cc in
    subst (λ (x : Line). HasNoLineEnd (backup_taken x.command)) same are.0
line_free (l ∷ lines) (suc n) line behind are at = line_free lines n line behind are.1 at

-- the name of a backup that a run answered is one line
answered_name : (before left : Option (List ℕ)) (told : List Told) (script : List Task) (name : List ℕ) (start end : Lsn) → tasks_told told ≡ script → HasScript before left script → IsBackedUp told name start end ⊎ IsIncremented told name start end → HasNoLineEnd name
answered_name before left told script name start end is script_is answered = by answered
  where
    free : AllByRecursion (λ t. AreOneLine t.lines) (tasks_told told)
    free =
        subst (AllByRecursion (λ t. AreOneLine t.lines)) (sym (is ∙ script_is.script_is.says))
        (such_drafted TakesOneLine line_said [] 1 (lines_of script_is.bytes) tt)

    by : IsBackedUp told name start end ⊎ IsIncremented told name start end → HasNoLineEnd name
    by (inl taken) =
        subst (λ (c : Command). HasNoLineEnd (backup_taken c)) taken.takes
        (line_free taken.by.task.lines taken.number taken.line taken.behind (told_free told taken.worker taken.by free taken.there) taken.lines)
    by (inr taken) =
        subst (λ (c : Command). HasNoLineEnd (backup_taken c)) taken.takes
        (line_free taken.by.task.lines taken.number taken.line taken.behind (told_free told taken.worker taken.by free taken.there) taken.lines)

pub names_are_lines : AnsweredNamesAreLines
names_are_lines days before left report name start end does answered =
    answered_name before.left left.left report.told does.1 name start end does.6.1.0 does.6.0 answered
