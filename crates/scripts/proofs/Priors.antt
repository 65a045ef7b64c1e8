-- No backup of a script is its own prior one.
use Rattle.std.proofs.Common.{◌≡◌, ◌≢◌, ℕ, zero, suc, ◌<◌, Bool, true, false, not, ◌&&◌, List, [], ◌∷◌, length, get_or, Option, Some, None, refl, sym, subst, ◌∙◌, arith}
use Rattle.std.specs.Prelude.{bytes_eq, codes, ◌==◌, if◌then◌else◌}
use Rattle.std.specs.List.{AllByRecursion}
use Rattle.std.specs.Option.{option_map}
use Rattle.std.proofs.lemmas.Slice.Eq.{bytes_eq-Decides}
use Rattle.lsn_core.specs.byte_words.Numbers.{◌>>=◌}
use Rattle.scripts.specs.declared.script.Command.TheVariants as command
use Rattle.scripts.specs.declared.script.Line.{Line}
use Rattle.scripts.specs.declared.script.Task.{Task}
use Rattle.scripts.specs.declared.order.Order.TheVariants as order
use Rattle.scripts.specs.Named.{HasOtherPrior, HaveOtherPriors}
use Rattle.scripts.specs.Cuts.{words_of, is_name, lines_of}
use Rattle.scripts.specs.Items.{fork_in, rel_in, block_in, shape_in, items_in, growth_count, flush_count}
use Rattle.scripts.specs.Meaning.{Says, Nothing, Worker, Does, meaning, words_say, only, two, three, change_says, checkpoint_says, summarise_says, incr_says, are_two_names}
use Rattle.scripts.specs.Script.{IsScript}
use Rattle.scripts.proofs.Drafts.{SaysSuch, such_drafted}
use Rattle.lsn_core.specs.text_numbers.Numbers.{number_of}

-- ---- what a line says

abbrev IsFit : Option Says → Type 0
IsFit = SaysSuch HasOtherPrior

fit_then : {A : Type 0} (o : Option A) (f : A → Option Says) → ((x : A) → IsFit (f x)) → IsFit (o >>= f)
fit_then None f fits = tt
fit_then (Some x) f fits = fits x

fit_if : (b : Bool) (x y : Option Says) → (b ≡ true → IsFit x) → IsFit y → IsFit (if b then x else y)
fit_if true x y one other = one refl
fit_if false x y one other = other

fit_map : {A : Type 0} (o : Option A) (f : A → Says) → ((x : A) → IsFit (Some (f x))) → IsFit (option_map f o)
fit_map None f fits = tt
fit_map (Some x) f fits = fits x

fit_items : (words : List (List ℕ)) → IsFit (change_says words)
fit_items words = fit_map (items_in words) (λ items. Does (command.Insert (order.Change items))) (λ items. tt)

fit_checkpoint : (words : List (List ℕ)) → IsFit (checkpoint_says words)
fit_checkpoint [] = tt
fit_checkpoint (word ∷ words) = tt

fit_summarise : (words : List (List ℕ)) → IsFit (summarise_says words)
fit_summarise [] = tt
fit_summarise (word ∷ words) = tt

both_true : (a b c : Bool) → (a && (b && not c)) ≡ true → c ≡ false
both_true true true true e = absurd cc
both_true true true false e = refl
both_true true false c e = absurd cc
both_true false b c e = absurd cc

apart : (a b : List ℕ) → are_two_names a b ≡ true → a ≢ b
apart a b e = λ same.
    let other : bytes_eq a b ≡ false = both_true (is_name a) (is_name b) (bytes_eq a b) e in
    let here : bytes_eq a b ≡ true = (bytes_eq-Decides a b).1 same in
    absurd (let both : false ≡ true = sym other ∙ here in cc)

fit_incr : (words : List (List ℕ)) → IsFit (incr_says words)
fit_incr words = fit_then (two words) _ (λ names. fit_if (are_two_names names.0 names.1) (Some (Does (command.Incr names.0 names.1))) None (λ e. apart names.0 names.1 e) tt)

fit_words : (words : List (List ℕ)) → IsFit (words_say words)
fit_words [] = tt
fit_words (verb ∷ words) =
    fit_if (bytes_eq verb (codes "worker")) _ _ (λ e. fit_then (only words) _ (λ name. fit_if (is_name name) (Some (Worker name)) None (λ t. tt) tt))
    (fit_if (bytes_eq verb (codes "create")) _ _ (λ e. fit_then (only words) _ (λ word. fit_then (fork_in word) _ (λ fork. tt)))
    (fit_if (bytes_eq verb (codes "truncate")) _ _ (λ e. fit_then (two words) _ (λ parts. fit_then (rel_in parts.0) _ (λ rel. fit_then (number_of parts.1) _ (λ count. tt))))
    (fit_if (bytes_eq verb (codes "drop")) _ _ (λ e. fit_then (only words) _ (λ word. fit_then (rel_in word) _ (λ rel. tt)))
    (fit_if (bytes_eq verb (codes "change")) _ _ (λ e. fit_items words)
    (fit_if (bytes_eq verb (codes "grow")) _ _ (λ e. fit_then (three words) _ (λ parts. fit_then (block_in parts.0) _ (λ at. fit_then (growth_count parts.1) _ (λ count. fit_then (shape_in parts.2) _ (λ shape. tt)))))
    (fit_if (bytes_eq verb (codes "checkpoint")) _ _ (λ e. fit_checkpoint words)
    (fit_if (bytes_eq verb (codes "flush")) _ _ (λ e. fit_then (only words) _ (λ word. fit_then (flush_count word) _ (λ count. tt)))
    (fit_if (bytes_eq verb (codes "summarise")) _ _ (λ e. fit_summarise words)
    (fit_if (bytes_eq verb (codes "full")) _ _ (λ e. fit_then (only words) _ (λ name. fit_if (is_name name) (Some (Does (command.Full name))) None (λ t. tt) tt))
    (fit_if (bytes_eq verb (codes "incr")) _ None (λ e. fit_incr words) tt))))))))))

fit_meaning : (line : List ℕ) → IsFit (meaning line)
fit_meaning [] = tt
fit_meaning (b ∷ bytes) = fit_if (b == 35) (Some Nothing) (words_say (words_of (b ∷ bytes))) (λ e. tt) (fit_words (words_of (b ∷ bytes)))

-- ---- the lines of a script

pub scripts_fit : (workers : ℕ) (bytes : List ℕ) (script : List Task) → IsScript workers bytes script → AllByRecursion (λ task. HaveOtherPriors task.lines) script
scripts_fit workers bytes script is =
    subst (λ (ts : List Task). AllByRecursion (λ task. HaveOtherPriors task.lines) ts) (sym is.says) (such_drafted HasOtherPrior fit_meaning [] 1 (lines_of bytes) tt)

-- the command of one of the lines that are run
pub line_fits : (lines : List Line) (k : ℕ) (line : Line) → HaveOtherPriors lines → k < length lines → line ≡ get_or lines k line → HasOtherPrior line.command
line_fits [] k line fits lt is = absurd (omega (arith, lt))
line_fits (first ∷ lines) zero line fits lt is = subst (λ (l : Line). HasOtherPrior l.command) (sym is) fits.0
line_fits (first ∷ lines) (suc k) line fits lt is = line_fits lines k line fits.1 (omega (arith, lt)) is
