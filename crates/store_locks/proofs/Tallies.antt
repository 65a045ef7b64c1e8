-- The numbers of the workers' commands.
use Rattle.std.proofs.Common.{◌≡◌, ℕ, ◌+◌, ◌<◌, ◌≤◌, Bool, true, false, cond, ◌&&◌, List, [], ◌∷◌, ◌++◌, length, length-append, get_or, slice_set, Fits, w64, refl, sym, ap, ◌∙◌, arith, true≢false, zero, suc}
use Rattle.std.specs.List.{filter}
use Rattle.std.specs.Prelude.{◌==◌, Option, Some, None}
use Rattle.std.specs.Option.{is_some}
use Rattle.std.proofs.lemmas.Bool.{eq-eqb, eqb-true}
use Rattle.std.proofs.lemmas.List.{length-set, get_or-set_same, get_or-set_other}
use Rattle.std.proofs.lemmas.List.Elements.{filter-append}
use mathlib.Core.List.{IsPrefix}
use Rattle.timeline.proofs.Prefixes.{prefix_length}
use Rattle.wal_writer.specs.Log.{Log, IsLog}
use Rattle.wal_record.specs.declared.record.Record.{Record}
use Rattle.history.specs.Entry.{Act, Entry}
use Rattle.journal.specs.Journal.{EndsWith, entry_at}
use Rattle.store_locks.specs.Open.{AreCounts}
use Rattle.store_locks.specs.Seen.{is_by, is_number, accepted_by}

kept_less : (b : Bool) (x : Entry) (ys xs : List Entry) → length ys ≤ length xs → length (cond b (x ∷ ys) ys) ≤ length (x ∷ xs)
kept_less true x ys xs le = omega (arith, le)
kept_less false x ys xs le = omega (arith, le)

pub filter_less : (p : Entry → Bool) (xs : List Entry) → length (filter p xs) ≤ length xs
filter_less p [] = omega arith
filter_less p (x ∷ xs) = kept_less (p x) x (filter p xs) xs (filter_less p xs)

-- a history has room for one more
pub tally_fits : (log : Log) (worker n : ℕ) (old pen : List Entry) → IsLog log → EndsWith log pen → IsPrefix old pen → n ≤ length (accepted_by worker old) → Fits w64 (n + 1)
tally_fits log worker n old pen is ends p le =
    omega (arith, le, filter_less (is_by worker) old, prefix_length old pen p, ends.counted, is.within.count, is.within.most, is.segment.most)

-- the number of a worker's next command
get_as : (counts : List ℕ) (i a b : ℕ) → i < length counts → get_or counts i a ≡ get_or counts i b
get_as [] i a b lt = absurd (omega (arith, lt))
get_as (x ∷ xs) zero a b lt = refl
get_as (x ∷ xs) (suc i) a b lt = get_as xs i a b (omega (arith, lt))

pub seq_is : (counts : List ℕ) (history : List Entry) (worker n : ℕ) → worker < length counts → AreCounts counts history → n ≡ get_or counts worker n → n ≡ length (accepted_by worker history)
seq_is counts history worker n lt are is = is ∙ (get_as counts worker n 0 lt ∙ are worker lt)

pub next_fits : (log : Log) (counts : List ℕ) (history : List Entry) (worker n : ℕ) → IsLog log → EndsWith log history → worker < length counts → AreCounts counts history → n ≡ get_or counts worker n → Fits w64 (n + 1)
next_fits log counts history worker n is ends lt are there =
    omega (arith, seq_is counts history worker n lt are there, filter_less (is_by worker) history, ends.counted, is.within.count, is.within.most, is.segment.most)

abbrev pub one_if : Bool → ℕ
one_if true = 1
one_if false = 0

one_counted : (b : Bool) (e : Entry) → length (cond b (e ∷ []) []) ≡ one_if b
one_counted true e = refl
one_counted false e = refl

-- how many entries of a kind there are, behind one more and before others
pub kept_more : (p : Entry → Bool) (history : List Entry) (e : Entry) → length (filter p (history ++ (e ∷ []))) ≡ length (filter p history) + one_if (p e)
kept_more p history e =
    ap (λ (es : List Entry). length es) (filter-append p history (e ∷ []))
    ∙ (length-append (filter p history) (filter p (e ∷ [])) ∙ ap (λ n. length (filter p history) + n) (one_counted (p e) e))

kept_on : (b : Bool) (e : Entry) (es : List Entry) → length (cond b (e ∷ es) es) ≡ one_if b + length es
kept_on true e es = omega arith
kept_on false e es = omega arith

pub kept_first : (p : Entry → Bool) (e : Entry) (es : List Entry) → length (filter p (e ∷ es)) ≡ one_if (p e) + length (filter p es)
kept_first p e es = kept_on (p e) e (filter p es)

by_more : (w : ℕ) (history : List Entry) (e : Entry) → length (accepted_by w (history ++ (e ∷ []))) ≡ length (accepted_by w history) + one_if (is_by w e)
by_more w history e = kept_more (is_by w) history e

-- one more command of a worker
pub counts_on : (counts : List ℕ) (old new : List Entry) (worker seq : ℕ) (r : Record) (act : Act) → AreCounts counts old → worker < length counts → seq ≡ length (accepted_by worker old) → new ≡ old ++ (entry_at r act worker (Some seq) ∷ [])
    → AreCounts (slice_set counts worker (seq + 1)) new
counts_on counts old new worker seq r act are lt number grown w below =
    let e : Entry = entry_at r act worker (Some seq) in
    let there : w < length counts = omega (arith, below, length-set counts worker (seq + 1)) in
    let more = ap (λ (es : List Entry). length (accepted_by w es)) grown ∙ by_more w old e in
    elim (worker == w) as (λ b. (worker == w) ≡ b → get_or (slice_set counts worker (seq + 1)) w 0 ≡ length (accepted_by w new)) [
      | true ↦ λ is.
          let same : w ≡ worker = sym (eqb-true worker w is) in
          let own : one_if (is_by w e) ≡ one_if true = ap one_if (ap (λ b. b && true) is) in
          let last : get_or (slice_set counts worker (seq + 1)) w 0 ≡ seq + 1 = ap (λ j. get_or (slice_set counts worker (seq + 1)) j 0) same ∙ get_or-set_same counts worker (seq + 1) 0 lt in
          let front : length (accepted_by w old) ≡ seq = ap (λ j. length (accepted_by j old)) same ∙ sym number in
          omega (arith, more, own, last, front)
      | false ↦ λ is.
          let none : one_if (is_by w e) ≡ one_if false = ap one_if (ap (λ b. b && true) is) in
          let kept = get_or-set_other counts worker w (seq + 1) 0 (λ same. absurd (true≢false (sym (eq-eqb worker w (sym same)) ∙ is))) in
          omega (arith, more, none, kept, are w there)
    ] refl

-- an entry that is no command's
and_none : (b : Bool) → (b && false) ≡ false
and_none true = refl
and_none false = refl

pub counts_marked : (counts : List ℕ) (old new : List Entry) (e : Entry) → AreCounts counts old → new ≡ old ++ (e ∷ []) → e.seq ≡ None → AreCounts counts new
counts_marked counts old new e are grown none w below =
    let more = ap (λ (es : List Entry). length (accepted_by w es)) grown ∙ by_more w old e in
    let no : one_if (is_by w e) ≡ one_if false = ap one_if (ap (λ (o : Option ℕ). is_number w e.worker && is_some o) none ∙ and_none (is_number w e.worker)) in
    omega (arith, more, no, are w below)
