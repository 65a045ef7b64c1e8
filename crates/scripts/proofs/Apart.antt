-- The backups of a script's workers are apart.
use Rattle.std.proofs.Common.{◌≡◌, ℕ, suc, ◌+◌, ◌-◌, ◌<◌, ◌≤◌, Bool, true, false, cond, ◌||◌, not, List, [], ◌∷◌, ◌++◌, length, take, get_or, Option, Some, None, bytes_eq, refl, sym, ap, subst, ◌∙◌, arith, true≢false, length-append, append_assoc}
use Rattle.std.proofs.lemmas.Bool.{ltb-true}
use Rattle.std.proofs.lemmas.Slice.Eq.{bytes_eq-Decides}
use Rattle.std.proofs.lemmas.List.{append-nil}
use Rattle.scripts.proofs.Drafts.{drafted_push, line_length}
use Rattle.scripts.proofs.Closed.{closed_step}
use Rattle.std.specs.Prelude.{nat_lt, min}
use Rattle.std.specs.List.{list_any, list_all, AllByRecursion}
use Rattle.scripts.specs.declared.script.Line.{Line}
use Rattle.scripts.specs.declared.script.Task.{Task}
use Rattle.scripts.specs.declared.script.Command.{Command}
use Rattle.scripts.specs.declared.why.Why.{Why}
use Rattle.scripts.specs.declared.why.Why.TheVariants.{Long, Bytes, Twice, Many}
use Rattle.scripts.specs.Cuts.{lines_of, is_allowed}
use Rattle.scripts.specs.Meaning.{Says, Nothing, Worker, Does, meaning}
use Rattle.scripts.specs.Named.{backups_named, names_backup, is_named_by}
use Rattle.scripts.specs.Draft.{with_line, with_says, drafted, closed, has_worker, is_taken}
use Rattle.scripts.specs.Reasons.{script_limit, why_command, why_says, why_line, why_of, size_of}
use Rattle.scripts.specs.Apart.{ShareNone, AreApart, ScriptsAreApart}

-- ---- a line that isn't refused isn't for its words' sake

of_test : (t : Bool) (w : Why) (o : Option Why) → cond t (Some w) o ≡ None → (t ≡ false) × (o ≡ None)
of_test true w o e = absurd cc
of_test false w o e = (refl, e)

line_said : (workers end : ℕ) (tasks : List Task) (line : List ℕ) → why_line workers end tasks line ≡ None → why_says workers tasks (meaning line) ≡ None
line_said workers end tasks line e =
    (of_test (not (list_all is_allowed line)) Bytes (why_says workers tasks (meaning line)) (of_test (nat_lt script_limit end) Long (cond (not (list_all is_allowed line)) (Some Bytes) (why_says workers tasks (meaning line))) e).1).1

-- ---- one more line

any_more : {A : Type 0} (p : A → Bool) (xs : List A) (x : A) (P : Type 0) → (list_any p xs ≡ true → P) → (p x ≡ true → P) → list_any p (xs ++ (x ∷ [])) ≡ true → P
any_more p [] x P f g is = one (p x) g is
  where
    one : (b : Bool) → (b ≡ true → P) → (b || false) ≡ true → P
    one true g is = g refl
    one false g is = absurd cc
any_more p (y ∷ ys) x P f g is = two (p y) (list_any p ys) (list_any p (ys ++ (x ∷ []))) f (λ k. any_more p ys x P (λ h. f (later (p y) (list_any p ys) h)) g k) is
  where
    later : (a b : Bool) → b ≡ true → (a || b) ≡ true
    later true b h = refl
    later false b h = h

    two : (a b c : Bool) → ((a || b) ≡ true → P) → (c ≡ true → P) → (a || c) ≡ true → P
    two true b c f g is = f refl
    two false b c f g is = g is

-- of some names none is taken, so a name that is one of them isn't
any_step : {A : Type 0} (p q : A → Bool) (x : A) (P : Type 0) (a b c d : Bool) → p x ≡ a → q x ≡ b → (q x ≡ true → p x ≡ false → P) → (c ≡ false → d ≡ true → P) → (a || c) ≡ false → (b || d) ≡ true → P
any_step p q x P true b c d e k f rest none is = absurd (true≢false none)
any_step p q x P false true c d e k f rest none is = f k e
any_step p q x P false false c d e k f rest none is = rest none is

none_any : {A : Type 0} (p q : A → Bool) (xs : List A) (P : Type 0) → ((x : A) → q x ≡ true → p x ≡ false → P) → list_any p xs ≡ false → list_any q xs ≡ true → P
none_any p q [] P f none is = absurd cc
none_any p q (x ∷ xs) P f none is = any_step p q x P (p x) (q x) (list_any p xs) (list_any q xs) refl refl (f x) (λ n i. none_any p q xs P f n i) none is

-- ---- the last task with one more line

abbrev IsFree : List Task → Line → Type 0
IsFree tasks line = (name : List ℕ) → names_backup name line ≡ true → list_any (is_named_by name) (closed tasks) ≡ false

both_false : (a b : Bool) → (a || b) ≡ false → (a ≡ false) × (b ≡ false)
both_false true b e = absurd (true≢false e)
both_false false b e = (refl, e)

free_parts : (t u : Task) (us : List Task) (line : Line) → IsFree (t ∷ (u ∷ us)) line → (name : List ℕ) → names_backup name line ≡ true → (is_named_by name t ≡ false) × (list_any (is_named_by name) (closed (u ∷ us)) ≡ false)
free_parts t u us line free name is =
    both_false (is_named_by name t) (list_any (is_named_by name) (closed (u ∷ us))) (sym (ap (list_any (is_named_by name)) (closed_step t u us)) ∙ free name is)

share_more : (t u : Task) (line : Line) → ShareNone t u → ((name : List ℕ) → names_backup name line ≡ true → is_named_by name t ≡ false) → ShareNone t (record { name = u.name; lines = u.lines ++ (line ∷ []) })
share_more t u line a free name one two =
    any_more (names_backup name) u.lines line ⊥ (λ k. a name one k) (λ k. absurd (true≢false (sym one ∙ free name k))) two

all_line : (t : Task) (us : List Task) (line : Line) → AllByRecursion (ShareNone t) us → ((name : List ℕ) → names_backup name line ≡ true → is_named_by name t ≡ false) → AllByRecursion (ShareNone t) (with_line us line)
all_line t [] line a free = tt
all_line t (u ∷ []) line a free = (share_more t u line a.0 free, tt)
all_line t (u ∷ (v ∷ vs)) line a free = (a.0, all_line t (v ∷ vs) line a.1 free)

apart_line : (tasks : List Task) (line : Line) → AreApart tasks → IsFree tasks line → AreApart (with_line tasks line)
apart_line [] line a free = tt
apart_line (t ∷ []) line a free = (tt, tt)
apart_line (t ∷ (u ∷ us)) line a free =
    (all_line t (u ∷ us) line a.0 (λ name is. (free_parts t u us line free name is).0), apart_line (u ∷ us) line a.1 (λ name is. (free_parts t u us line free name is).1))

-- ---- one more worker

all_new : (t n : Task) (us : List Task) → n.lines ≡ [] → AllByRecursion (ShareNone t) us → AllByRecursion (ShareNone t) (us ++ (n ∷ []))
all_new t n [] none a = ((λ name one two. absurd (let e = sym two ∙ ap (list_any (names_backup name)) none in true≢false e)), tt)
all_new t n (u ∷ us) none a = (a.0, all_new t n us none a.1)

apart_new : (tasks : List Task) (n : Task) → n.lines ≡ [] → AreApart tasks → AreApart (tasks ++ (n ∷ []))
apart_new [] n none a = (tt, tt)
apart_new (t ∷ ts) n none a = (all_new t n ts none a.0, apart_new ts n none a.1)

-- ---- what a line says

pub record AreGood (workers : ℕ) (tasks : List Task) : Type 0 where
  pub apart : AreApart tasks
  pub few : length tasks ≤ workers

few_more : (t few : Bool) → cond t (Some Twice) (cond few None (Some Many)) ≡ None → few ≡ true
few_more true few e = absurd cc
few_more false true e = refl
few_more false false e = absurd cc

free_of : (tasks : List Task) (n : ℕ) (command : Command) → list_any (is_taken tasks) (backups_named command) ≡ false → IsFree tasks (record { number = n; command = command })
free_of tasks n command none name is =
    none_any (is_taken tasks) (bytes_eq name) (backups_named command) (list_any (is_named_by name) (closed tasks) ≡ false)
    (λ x same free. subst (λ (y : List ℕ). is_taken tasks y ≡ false) (sym ((bytes_eq-Decides name x).0 same)) free) none is

not_taken : (t : Bool) → cond t (Some Twice) None ≡ None → t ≡ false
not_taken true e = absurd cc
not_taken false e = refl

good_command : (workers : ℕ) (tasks : List Task) (n : ℕ) (command : Command) → why_command tasks command ≡ None → AreGood workers tasks → AreGood workers (with_line tasks (record { number = n; command = command }))
good_command workers [] n command e g = absurd cc
good_command workers (t ∷ ts) n command e g =
    let line : Line = record { number = n; command = command } in
    let same = line_length (t ∷ ts) line in
    let few = g.few in
    record { apart = apart_line (t ∷ ts) line g.apart (free_of (t ∷ ts) n command (not_taken (list_any (is_taken (t ∷ ts)) (backups_named command)) e)); few = omega (arith, same, few) }

good_more : (workers : ℕ) (tasks : List Task) (n : ℕ) (says : Option Says) → why_says workers tasks says ≡ None → AreGood workers tasks → AreGood workers (with_says tasks n says)
good_more workers tasks n None e g = absurd cc
good_more workers tasks n (Some Nothing) e g = g
good_more workers tasks n (Some (Worker name)) e g =
    let new : Task = record { name = name; lines = [] } in
    let lt = ltb-true (length tasks) workers (few_more (has_worker tasks name) (nat_lt (length tasks) workers) e) in
    let size = length-append tasks (new ∷ []) in
    record { apart = apart_new tasks new refl g.apart; few = omega (arith, lt, size) }
good_more workers tasks n (Some (Does command)) e g = good_command workers tasks n command e g

-- ---- all lines

none_good : (workers : ℕ) → AreGood workers []
none_good workers = record { apart = tt; few = omega arith }

all_good : (workers total : ℕ) (before lines : List (List ℕ)) → ((i : ℕ) → i < length lines → why_of workers total (before ++ take i lines) (get_or lines i []) ≡ None) → AreGood workers (drafted [] 1 before) → AreGood workers (drafted [] 1 (before ++ lines))
all_good workers total before [] fine g = subst (λ (ls : List (List ℕ)). AreGood workers (drafted [] 1 ls)) (sym (append-nil before)) g
all_good workers total before (l ∷ ls) fine g =
    let tasks : List Task = drafted [] 1 before in
    let first : why_of workers total before l ≡ None = ap (λ (b : List (List ℕ)). why_of workers total b l) (sym (append-nil before)) ∙ fine 0 (omega arith) in
    let said = line_said workers (min (size_of before + (length l + 1)) total) tasks l first in
    let next : AreGood workers (drafted [] 1 (before ++ (l ∷ []))) = subst (AreGood workers) (sym (drafted_push [] before l 1 (1 + length before) refl)) (good_more workers tasks (1 + length before) (meaning l) said g) in
    subst (λ (x : List (List ℕ)). AreGood workers (drafted [] 1 x)) (append_assoc before (l ∷ []) ls)
    (all_good workers total (before ++ (l ∷ [])) ls (λ i lt. ap (λ (b : List (List ℕ)). why_of workers total b (get_or ls i [])) (append_assoc before (l ∷ []) (take i ls)) ∙ fine (suc i) (omega (arith, lt))) next)

pub scripts_are_apart : ScriptsAreApart
scripts_are_apart workers bytes script is =
    let lines = lines_of bytes in
    let good : AreGood workers (drafted [] 1 lines) = all_good workers (length bytes) [] lines (λ i lt. subst (λ (n : ℕ). why_of workers (length bytes) (take n lines) (get_or lines n []) ≡ None) (let e : suc i - 1 ≡ i = omega arith in e) (is.taken (suc i) (omega arith) (omega (arith, lt)))) (none_good workers) in
    subst (λ (s : List Task). AreApart s × (length s ≤ workers)) (sym is.says) (good.apart, good.few)
