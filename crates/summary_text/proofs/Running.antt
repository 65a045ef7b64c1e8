-- Runs taken from the front are the runs.
use Rattle.std.proofs.Common.{◌≡◌, ℕ, ◌+◌, ◌==◌, ◌++◌, List, [], ◌∷◌, true, false, refl, sym, ap, ◌∙◌, append_assoc, if◌then◌else◌, Bool}
use Rattle.std.proofs.lemmas.List.{append-nil}
use Rattle.summary_text.specs.declared.runs.BlockRun.{BlockRun}
use Rattle.summary_text.specs.Runs.{single, begun_by, runs_of}
use Rattle.summary_text.specs.Inside.{is_next, with_block, with_blocks}

-- runs with a number before them, by the test that decides it; and the last one with one behind it
abbrev begun_when : Bool → ℕ → BlockRun → List BlockRun → List BlockRun
begun_when t n run runs = if t then record { first = n; last = run.last } ∷ runs else single n ∷ (run ∷ runs)

abbrev ended_when : Bool → BlockRun → ℕ → List BlockRun
ended_when t run b = if t then record { first = run.first; last = b } ∷ [] else run ∷ (single b ∷ [])

one_run : (s t : Bool) (n : ℕ) (run : BlockRun) (b : ℕ) → (n + 1 == run.first) ≡ s → (run.last + 1 == b) ≡ t → with_block (begun_when s n run []) b ≡ begun_by n (ended_when t run b)
one_run true true n run b e f = rw (e, f) refl
one_run true false n run b e f = rw (e, f) refl
one_run false true n run b e f = rw (e, f) refl
one_run false false n run b e f = rw (e, f) refl

more_runs : (s : Bool) (n : ℕ) (run next : BlockRun) (runs : List BlockRun) (b : ℕ) → with_block (begun_when s n run (next ∷ runs)) b ≡ begun_when s n run (with_block (next ∷ runs) b)
more_runs true n run next runs b = refl
more_runs false n run next runs b = refl

-- a number before and one behind
both_ends : (n : ℕ) (runs : List BlockRun) (b : ℕ) → with_block (begun_by n runs) b ≡ begun_by n (with_block runs b)
both_ends n [] b = refl
both_ends n (run ∷ []) b = one_run (n + 1 == run.first) (run.last + 1 == b) n run b refl refl
both_ends n (run ∷ (next ∷ runs)) b = more_runs (n + 1 == run.first) n run next runs b

one_behind : (ns : List ℕ) (b : ℕ) → with_block (runs_of ns) b ≡ runs_of (ns ++ (b ∷ []))
one_behind [] b = refl
one_behind (n ∷ ns) b = both_ends n (runs_of ns) b ∙ ap (begun_by n) (one_behind ns b)

all_behind : (done left : List ℕ) → with_blocks (runs_of done) left ≡ runs_of (done ++ left)
all_behind done [] = ap runs_of (sym (append-nil done))
all_behind done (b ∷ left) =
    ap (λ (runs : List BlockRun). with_blocks runs left) (one_behind done b) ∙ (all_behind (done ++ (b ∷ [])) left ∙ ap runs_of (append_assoc done (b ∷ []) left))

all_runs : (ns : List ℕ) → with_blocks [] ns ≡ runs_of ns
all_runs ns = all_behind [] ns

-- what comes behind the last run
pub behind_last : (runs : List BlockRun) (run : BlockRun) (b : ℕ) → with_block (runs ++ (run ∷ [])) b ≡ runs ++ with_block (run ∷ []) b
behind_last [] run b = refl
behind_last (first ∷ []) run b = refl
behind_last (first ∷ (next ∷ runs)) run b = ap (λ (rs : List BlockRun). first ∷ rs) (behind_last (next ∷ runs) run b)

-- where a number stands just behind the last run, and where it doesn't
pub longer_last : (all before new : List BlockRun) (run : BlockRun) (b : ℕ) → all ≡ before ++ (run ∷ []) → is_next run b ≡ true → new ≡ before ++ (record { first = run.first; last = b } ∷ []) → new ≡ with_block all b
longer_last all before new run b is next got =
    got ∙ (ap (λ (t : Bool). before ++ ended_when t run b) (sym next) ∙ (sym (behind_last before run b) ∙ ap (λ (rs : List BlockRun). with_block rs b) (sym is)))

pub one_more : (all before mid new : List BlockRun) (run alone : BlockRun) (b : ℕ) → all ≡ before ++ (run ∷ []) → is_next run b ≡ false → mid ≡ before ++ (run ∷ []) → alone ≡ single b → new ≡ mid ++ (alone ∷ []) → new ≡ with_block all b
one_more all before mid new run alone b is next kept sole got =
    got ∙ (ap (λ (r : BlockRun). mid ++ (r ∷ [])) sole ∙ (ap (λ (rs : List BlockRun). rs ++ (single b ∷ [])) kept ∙ (append_assoc before (run ∷ []) (single b ∷ [])
    ∙ (ap (λ (t : Bool). before ++ ended_when t run b) (sym next) ∙ (sym (behind_last before run b) ∙ ap (λ (rs : List BlockRun). with_block rs b) (sym is))))))

-- nothing taken yet
pub none_taken : (runs : List BlockRun) (ns : List ℕ) → runs ≡ [] → with_blocks runs ns ≡ runs_of ns
none_taken runs ns e = ap (λ (rs : List BlockRun). with_blocks rs ns) e ∙ all_runs ns
