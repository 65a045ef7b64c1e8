-- The forks that have some numbers: there is one list of them, and it can be written.
use Rattle.std.proofs.Common.{◌≡◌, ℕ, ◌<◌, List, [], ◌∷◌, ◌++◌, map, Option, Some, None, IfSome, refl, sym, ap, subst, ◌∙◌, arith}
use Rattle.std.specs.List.{AllByRecursion}
use Rattle.std.proofs.lemmas.List.{append_assoc}
use Rattle.lsn_core.specs.declared.ids.ForkKind.{ForkKind}
use Rattle.lsn_core.specs.declared.ids.ForkKind.TheVariants.{Main, Init}
use Rattle.wal_summary.specs.declared.summary.ForkSummary.{ForkSummary}
use Rattle.summary_file.specs.Numbers.{ForkFits}
use Rattle.summary_file.specs.File.{no_limit, limit_number, fork_number, fork_numbers, IsWritableFork, ForkHasRoom}
use Rattle.summary_file.specs.Inside.{IsForkOf, IsNoForkOf, AreForksOf}
use Rattle.summary_file.specs.declared.numbers.ForkNumbers.{ForkNumbers}
use Rattle.summary_file.proofs.Many.{below_as}

-- ---- one by one

pub add_fork : (ns : List ForkNumbers) (fs : List ForkSummary) (n : ForkNumbers) (f : ForkSummary) → AreForksOf ns fs → IsForkOf n f → AreForksOf (ns ++ n ∷ []) (fs ++ f ∷ [])
add_fork [] [] n f all is = (is, tt)
add_fork [] (g ∷ fs) n f all is = absurd all
add_fork (m ∷ ns) [] n f all is = absurd all
add_fork (m ∷ ns) (g ∷ fs) n f all is = (all.0, add_fork ns fs n f all.1 is)

-- numbers behind others have a fork
pub fork_behind : (ns : List ForkNumbers) (n : ForkNumbers) (rest : List ForkNumbers) (fs : List ForkSummary) → AreForksOf (ns ++ n ∷ rest) fs → (f : ForkSummary) × IsForkOf n f
fork_behind [] n rest [] all = absurd all
fork_behind [] n rest (f ∷ fs) all = (f, all.0)
fork_behind (m ∷ ns) n rest [] all = absurd all
fork_behind (m ∷ ns) n rest (f ∷ fs) all = fork_behind ns n rest fs all.1

-- no forks have numbers of which one has none
pub no_forks : (all done left rest : List ForkNumbers) (n : ForkNumbers) → all ≡ done ++ left → left ≡ n ∷ rest → IsNoForkOf n → (fs : List ForkSummary) → AreForksOf all fs → ⊥
no_forks all done left rest n parts next none fs are =
    let behind = fork_behind done n rest fs (subst (λ (ns : List ForkNumbers). AreForksOf ns fs) (parts ∙ ap (λ (l : List ForkNumbers). done ++ l) next) are) in
    none behind.0 behind.1

-- the forks so far, of which each is that of the numbers at its place
abbrev pub ForksSoFar : List ForkNumbers → List ForkNumbers → List ForkSummary → Type 0
ForksSoFar all left fs = (done : List ForkNumbers) × (all ≡ done ++ left) × AreForksOf done fs

pub next_fork : (all left rest : List ForkNumbers) (n : ForkNumbers) (fs gs : List ForkSummary) (f : ForkSummary) → ForksSoFar all left fs → left ≡ n ∷ rest → IsForkOf n f → gs ≡ fs ++ f ∷ [] → ForksSoFar all rest gs
next_fork all left rest n fs gs f so_far next is pushed = (
  so_far.0 ++ n ∷ [],
  so_far.1 ∙ ap (λ (l : List ForkNumbers). so_far.0 ++ l) next ∙ sym (append_assoc so_far.0 (n ∷ []) rest),
  subst (AreForksOf (so_far.0 ++ n ∷ [])) (sym pushed) (add_fork so_far.0 fs n f so_far.2 is),
)

-- ---- there is one list

same_kind : (a b : ForkKind) → fork_number a ≡ fork_number b → a ≡ b
same_kind Main Main e = refl
same_kind Main Init e = absurd (omega (arith, e))
same_kind Init Main e = absurd (omega (arith, e))
same_kind Init Init e = refl

same_limit : (a b : Option ℕ) → IfSome a (λ count. count < no_limit) → IfSome b (λ count. count < no_limit) → limit_number a ≡ limit_number b → a ≡ b
same_limit None None x y e = refl
same_limit None (Some n) x y e = absurd (omega (arith, y, e))
same_limit (Some m) None x y e = absurd (omega (arith, x, e))
same_limit (Some m) (Some n) x y e = ap (λ (k : ℕ). let o : Option ℕ = Some k in o) e

fork_once : (n : ForkNumbers) (f g : ForkSummary) → IsForkOf n f → IsForkOf n g → f ≡ g
fork_once n f g a b =
    let e : fork_numbers f ≡ fork_numbers g = sym a.numbers ∙ b.numbers in
    let db : f.fork.rel.db ≡ g.fork.rel.db = ap (λ (m : ForkNumbers). m.db) e in
    let rel : f.fork.rel.rel ≡ g.fork.rel.rel = ap (λ (m : ForkNumbers). m.rel) e in
    let kind : f.fork.kind ≡ g.fork.kind = same_kind f.fork.kind g.fork.kind (ap (λ (m : ForkNumbers). m.kind) e) in
    let limit : f.limit ≡ g.limit = same_limit f.limit g.limit a.writable.limit b.writable.limit (ap (λ (m : ForkNumbers). m.limit) e) in
    let blocks : f.blocks ≡ g.blocks = ap (λ (m : ForkNumbers). m.blocks) e in
    λ i. record { fork = record { rel = record { db = db i; rel = rel i }; kind = kind i }; limit = limit i; blocks = blocks i }

pub forks_once : (ns : List ForkNumbers) (fs gs : List ForkSummary) → AreForksOf ns fs → AreForksOf ns gs → fs ≡ gs
forks_once [] [] [] a b = refl
forks_once [] [] (g ∷ gs) a b = absurd b
forks_once [] (f ∷ fs) gs a b = absurd a
forks_once (n ∷ ns) [] gs a b = absurd a
forks_once (n ∷ ns) (f ∷ fs) [] a b = absurd b
forks_once (n ∷ ns) (f ∷ fs) (g ∷ gs) a b = λ i. fork_once n f g a.0 b.0 i ∷ forks_once ns fs gs a.1 b.1 i

-- ---- what the forks of numbers are

pub their_numbers : (ns : List ForkNumbers) (fs : List ForkSummary) → AreForksOf ns fs → ns ≡ map fork_numbers fs
their_numbers [] [] all = refl
their_numbers [] (f ∷ fs) all = absurd all
their_numbers (n ∷ ns) [] all = absurd all
their_numbers (n ∷ ns) (f ∷ fs) all = λ i. all.0.numbers i ∷ their_numbers ns fs all.1 i

pub are_writable : (ns : List ForkNumbers) (fs : List ForkSummary) → AreForksOf ns fs → AllByRecursion IsWritableFork fs
are_writable [] [] all = tt
are_writable [] (f ∷ fs) all = absurd all
are_writable (n ∷ ns) [] all = absurd all
are_writable (n ∷ ns) (f ∷ fs) all = (all.0.writable, are_writable ns fs all.1)

has_room : (n : ForkNumbers) (f : ForkSummary) → ForkFits n → IsForkOf n f → ForkHasRoom f
has_room n f fits is = record {
  some_db = is.some_db;
  db = below_as _ _ _ (ap (λ (m : ForkNumbers). m.db) is.numbers) fits.db;
  some_rel = is.some_rel;
  rel = below_as _ _ _ (ap (λ (m : ForkNumbers). m.rel) is.numbers) fits.rel;
}

pub have_room : (ns : List ForkNumbers) (fs : List ForkSummary) → AllByRecursion ForkFits ns → AreForksOf ns fs → AllByRecursion ForkHasRoom fs
have_room [] [] fit all = tt
have_room [] (f ∷ fs) fit all = absurd all
have_room (n ∷ ns) [] fit all = absurd all
have_room (n ∷ ns) (f ∷ fs) fit all = (has_room n f fit.0 all.0, have_room ns fs fit.1 all.1)
