-- The names of the backups of closed tasks, as names are added, tasks begun, and lines added.
use Rattle.std.proofs.Common.{◌≡◌, ℕ, zero, suc, ◌+◌, ◌-◌, ◌<◌, Bool, true, false, ◌||◌, List, [], ◌∷◌, ◌++◌, length, take, get_or, bytes_eq, refl, sym, ap, subst, ◌∙◌, arith, length-append}
use Rattle.std.proofs.Math.Seq.{take-append_seam}
use Rattle.std.proofs.lemmas.List.Folds.{list_any-append, list_any_more}
use Rattle.std.proofs.lemmas.Map.Text.{is_eq-slice_cmp}
use Rattle.std.specs.BTreeSet.{BTreeSet, UpdatesBy}
use Rattle.std.specs.Cmp.{Equal-is}
use Rattle.std.specs.Cmp.Lexicographic.{slice_cmp}
use Rattle.std.specs.FinMap.{slice_cmp-IsAntisymmetric, nat_cmp-IsAntisymmetric}
use Rattle.std.specs.Global.{Vec}
use Rattle.std.specs.List.{list_any}
use Rattle.std.specs.Set.{KeepsOthers}
use Rattle.std.specs.Ordering.{nat_cmp, is_eq, eq_by_cmp}
use Rattle.std.specs.declared.cmp.Ordering.{Ordering}
use Rattle.scripts.specs.declared.script.Line.{Line}
use Rattle.scripts.specs.declared.script.Task.{Task}
use Rattle.scripts.specs.Draft.{with_line, closed}
use Rattle.scripts.specs.Named.{backups_named, names_backup, is_named_by}
use Rattle.scripts.specs.Inside.{has_name, AddsNames, AreTaken}

or_assoc : (a b c : Bool) → ((a || b) || c) ≡ (a || (b || c))
or_assoc true b c = refl
or_assoc false b c = refl

or_true : (a b : Bool) → b ≡ true → true ≡ (a || b)
or_true true b e = refl
or_true false b e = sym e

or_false : (a b : Bool) → b ≡ false → a ≡ (a || b)
or_false true b e = refl
or_false false b e = sym e

-- ---- names added

abbrev key_cmp : Vec ℕ → Vec ℕ → Ordering
key_cmp x y = slice_cmp nat_cmp x.items y.items

same_name : (x y : List ℕ) → is_eq (slice_cmp nat_cmp x y) ≡ true → x ≡ y
same_name x y e = slice_cmp-IsAntisymmetric nat_cmp-IsAntisymmetric x y ((Equal-is _).0 e)

-- another name is there after a change at one name as it was before
others : (name q : List ℕ) (old new : BTreeSet (Vec ℕ)) → KeepsOthers (eq_by_cmp key_cmp) (λ k. is_eq (slice_cmp nat_cmp name k.items)) old.keys new.keys → is_eq (slice_cmp nat_cmp q name) ≡ false → has_name new q ≡ has_name old q
unfolding KeepsOthers
others name q old new keeps apart =
    keeps (λ k. is_eq (slice_cmp nat_cmp q k.items))
    (λ x y at. subst (λ (z : List ℕ). is_eq (slice_cmp nat_cmp q y.items) ≡ is_eq (slice_cmp nat_cmp z y.items)) (same_name q x.items at) refl)
    (λ k at. subst (λ (z : List ℕ). is_eq (slice_cmp nat_cmp q z) ≡ false) (same_name name k.items at) apart)

pub adds_name : (name : List ℕ) (old new : BTreeSet (Vec ℕ)) → UpdatesBy key_cmp (λ k. slice_cmp nat_cmp name k.items) old new true → AddsNames (λ other. bytes_eq other name) old new
adds_name name old new updates q =
    elim (is_eq (slice_cmp nat_cmp q name)) as (λ b. is_eq (slice_cmp nat_cmp q name) ≡ b → has_name new q ≡ (has_name old q || bytes_eq q name)) [
      | true ↦ λ e.
          subst (λ (z : List ℕ). has_name new z ≡ true) (sym (same_name q name e)) updates.1
          ∙ or_true (has_name old q) (bytes_eq q name) (sym (is_eq-slice_cmp q name) ∙ e)
      | false ↦ λ e.
          others name q old new updates.3 e
          ∙ or_false (has_name old q) (bytes_eq q name) (sym (is_eq-slice_cmp q name) ∙ e)
    ] refl

-- names that pass a test are those that pass another
pub adds_as : (test other : List ℕ → Bool) (old new : BTreeSet (Vec ℕ)) → ((q : List ℕ) → other q ≡ test q) → AddsNames test old new → AddsNames other old new
adds_as test other old new same adds q = adds q ∙ sym (ap (λ (b : Bool). has_name old q || b) (same q))

or_none : (b : Bool) → (b || false) ≡ b
or_none true = refl
or_none false = refl

pub adds_none : (names : BTreeSet (Vec ℕ)) → AddsNames (λ q. list_any (bytes_eq q) []) names names
adds_none names q = sym (or_none (has_name names q))

pub adds_one : (name : List ℕ) (old new : BTreeSet (Vec ℕ)) → AddsNames (λ q. bytes_eq q name) old new → AddsNames (λ q. list_any (bytes_eq q) (name ∷ [])) old new
adds_one name old new = adds_as (λ q. bytes_eq q name) (λ q. list_any (bytes_eq q) (name ∷ [])) old new (λ q. or_none (bytes_eq q name))

-- one after the other
pub adds_both : (first second : List ℕ → Bool) (old mid new : BTreeSet (Vec ℕ)) → AddsNames first old mid → AddsNames second mid new → AddsNames (λ q. first q || second q) old new
adds_both first second old mid new one two q =
    two q ∙ ap (λ (b : Bool). b || second q) (one q) ∙ or_assoc (has_name old q) (first q) (second q)

pub adds_two : (name prior : List ℕ) (old mid new : BTreeSet (Vec ℕ)) → AddsNames (λ q. bytes_eq q name) old mid → AddsNames (λ q. bytes_eq q prior) mid new → AddsNames (λ q. list_any (bytes_eq q) (name ∷ prior ∷ [])) old new
adds_two name prior old mid new one two =
    adds_both (λ q. bytes_eq q name) (λ q. list_any (bytes_eq q) (prior ∷ [])) old mid new one (adds_one prior mid new two)

-- one line more
pub adds_line : (lines : List Line) (i : ℕ) (line : Line) (old mid new : BTreeSet (Vec ℕ)) → i < length lines → line ≡ get_or lines i line → AddsNames (λ q. list_any (names_backup q) (take i lines)) old mid → AddsNames (λ q. list_any (bytes_eq q) (backups_named line.command)) mid new
    → AddsNames (λ q. list_any (names_backup q) (take (i + 1) lines)) old new
adds_line lines i line old mid new lt is one two =
    adds_as (λ q. list_any (names_backup q) (take i lines) || names_backup q line) (λ q. list_any (names_backup q) (take (i + 1) lines)) old new
    (λ q. list_any_more (names_backup q) lines i line lt ∙ ap (λ (l : Line). list_any (names_backup q) (take i lines) || names_backup q l) (sym is))
    (adds_both (λ q. list_any (names_backup q) (take i lines)) (λ q. names_backup q line) old mid new one two)

-- ---- tasks closed

-- one more task closes those before it
closed_new : (tasks : List Task) (new : Task) → closed (tasks ++ (new ∷ [])) ≡ tasks
closed_new tasks new = ap (λ (n : ℕ). take n (tasks ++ (new ∷ []))) (let e : length (tasks ++ (new ∷ [])) - 1 ≡ length tasks = omega (arith, length-append tasks (new ∷ [])) in e) ∙ take-append_seam tasks (new ∷ [])

pub closed_step : (t u : Task) (us : List Task) → closed (t ∷ (u ∷ us)) ≡ t ∷ closed (u ∷ us)
closed_step t u us =
    ap (λ (n : ℕ). take n (t ∷ (u ∷ us))) (let e : length (t ∷ (u ∷ us)) - 1 ≡ suc (length (u ∷ us) - 1) = omega arith in e)

-- one more line closes none
closed_line : (tasks : List Task) (line : Line) → closed (with_line tasks line) ≡ closed tasks
closed_line [] line = refl
closed_line (t ∷ []) line = refl
closed_line (t ∷ (u ∷ [])) line = refl
closed_line (t ∷ (u ∷ (v ∷ vs))) line =
    closed_step t u (with_line (v ∷ vs) line) ∙ ap (λ (ts : List Task). t ∷ ts) (closed_line (u ∷ (v ∷ vs)) line) ∙ sym (closed_step t u (v ∷ vs))

-- some tasks are the closed ones and the last one
closed_last : (tasks : List Task) (n : ℕ) (last : Task) → n + 1 ≡ length tasks → last ≡ get_or tasks n last → tasks ≡ closed tasks ++ (last ∷ [])
closed_last [] n last e is = absurd (omega (arith, e))
closed_last (t ∷ []) zero last e is = ap (λ (u : Task). u ∷ []) (sym is)
closed_last (t ∷ []) (suc n) last e is = absurd (omega (arith, e))
closed_last (t ∷ (u ∷ us)) zero last e is = absurd (omega (arith, e))
closed_last (t ∷ (u ∷ us)) (suc n) last e is =
    ap (λ (ts : List Task). t ∷ ts) (closed_last (u ∷ us) n last (omega (arith, e)) is) ∙ sym (ap (λ (ts : List Task). ts ++ (last ∷ [])) (closed_step t u us))

or_last : (a b : Bool) → (a || (b || false)) ≡ (a || b)
or_last true b = refl
or_last false true = refl
or_last false false = refl

-- so what passes a test of some tasks passes that of the closed ones, or that of the last one
any_last : (test : Task → Bool) (tasks : List Task) (n : ℕ) (last : Task) → n + 1 ≡ length tasks → last ≡ get_or tasks n last → list_any test tasks ≡ (list_any test (closed tasks) || test last)
any_last test tasks n last e is =
    ap (list_any test) (closed_last tasks n last e is) ∙ list_any-append test (closed tasks) (last ∷ []) ∙ or_last (list_any test (closed tasks)) (test last)

-- the names of all tasks are those of the closed ones and of the last one
pub taken_last : (tasks : List Task) (n : ℕ) (last : Task) (old new : BTreeSet (Vec ℕ)) → n + 1 ≡ length tasks → last ≡ get_or tasks n last → AreTaken old (closed tasks) → AddsNames (λ q. list_any (names_backup q) last.lines) old new → AreTaken new tasks
taken_last tasks n last old new e is taken adds q =
    adds q ∙ ap (λ (b : Bool). b || is_named_by q last) (taken q) ∙ sym (any_last (is_named_by q) tasks n last e is)

pub taken_none : (tasks : List Task) (names : BTreeSet (Vec ℕ)) → length tasks ≡ 0 → AreTaken names (closed tasks) → AreTaken names tasks
taken_none [] names e taken = taken
taken_none (t ∷ ts) names e taken = absurd (omega (arith, e))

-- one task more, and one line more
pub knows_new : (tasks : List Task) (new : Task) (names : BTreeSet (Vec ℕ)) → AreTaken names tasks → AreTaken names (closed (tasks ++ (new ∷ [])))
knows_new tasks new names taken = subst (AreTaken names) (sym (closed_new tasks new)) taken

pub knows_line : (tasks : List Task) (line : Line) (names : BTreeSet (Vec ℕ)) → AreTaken names (closed tasks) → AreTaken names (closed (with_line tasks line))
knows_line tasks line names taken = subst (AreTaken names) (sym (closed_line tasks line)) taken
