-- Summaries made from a map, and read into one.
use Rattle.std.proofs.Common.{◌≡◌, ℕ, ◌==◌, Bool, true, false, cond, not, ◌&&◌, ◌||◌, List, [], ◌∷◌, ◌++◌, map, Option, Some, None, refl, sym, ap, subst, ◌∙◌}
use Rattle.std.specs.List.{list_any, AllByRecursion}
use Rattle.std.specs.List.Sorted.{IsStrictlySortedBy}
use Rattle.std.specs.Ordering.{nat_cmp, eq_by_cmp, is_eq}
use Rattle.std.specs.declared.cmp.Ordering.{Ordering}
use Rattle.std.specs.declared.cmp.Ordering.TheVariants.{Less}
use Rattle.std.specs.Cmp.{unsigned_tied}
use Rattle.std.specs.Map.{lookup, keys_of}
use Rattle.std.specs.BTreeMap.{IsOrdered}
use Rattle.std.proofs.lemmas.List.{append-nil, append_assoc}
use Rattle.std.proofs.lemmas.Map.Keys.{sorted_tail}
use Rattle.lsn_core.specs.declared.ids.ForkId.{ForkId}
use Rattle.lsn_core.specs.Store.{fork_cmp}
use Rattle.lsn_core.proofs.ForkOrder.{derived_cmp, derived_is}
use Rattle.history.specs.Apply.{is_same_fork}
use Rattle.history.proofs.Stores.{fork_is}
use Rattle.history.specs.fuzzy_copies.Summary.{BlockRefTable, least, is_at_most, limits, limit_in, is_listed, summed, both_summed, SayTheSame}
use Rattle.history.proofs.fuzzy_copies.Summaries.{any_limits}
use Rattle.wal_summary.specs.declared.fork_marks.ForkMarks.{ForkMarks}
use Rattle.wal_summary.specs.declared.summary.ForkSummary.{ForkSummary}
use Rattle.wal_summary.specs.Summary.{limit_at, lists_at, table_of_forks, is_told, IsForkSummary, AreSorted, IsSummary}
use Rattle.wal_summary.specs.Marks.{limit_found, has_block_found, table_in}
use Rattle.wal_summary.specs.Inside.{block_table, limit_table, forks_of}
use Rattle.wal_summary.proofs.Tables.{same_table, least_none, added_more}
use Rattle.wal_summary.proofs.Maps.{Forks}

-- the forks of a list
abbrev pub names : List ForkSummary → List ForkId
names sums = map (λ s. s.fork) sums

-- a fork is below each of these
abbrev pub IsBelow : ForkId → List ForkId → Type 0
IsBelow f forks = AllByRecursion (λ g. fork_cmp f g ≡ Less) forks

pub sorted_first : (k : ForkId) (ks : List ForkId) → IsStrictlySortedBy fork_cmp (k ∷ ks) → IsBelow k ks
unfolding IsStrictlySortedBy
sorted_first k ks h = h.0

-- a lower fork is another one
pub apart : (a b : ForkId) → fork_cmp a b ≡ Less → is_same_fork a b ≡ false
unfolding is_same_fork
apart a b e = ap is_eq e

pub absent_limit : (f : ForkId) (sums : List ForkSummary) → IsBelow f (names sums) → limit_at f sums ≡ None
absent_limit f [] h = refl
absent_limit f (s ∷ ss) h = ap (λ t. cond t s.limit (limit_at f ss)) (apart f s.fork h.0) ∙ absent_limit f ss h.1

pub absent_lists : (f : ForkId) (b : ℕ) (sums : List ForkSummary) → IsBelow f (names sums) → lists_at f b sums ≡ false
absent_lists f b [] h = refl
absent_lists f b (s ∷ ss) h = ap (λ t. cond t (list_any (λ x. b == x) s.blocks) (lists_at f b ss)) (apart f s.fork h.0) ∙ absent_lists f b ss h.1

abbrev Entries : Type 0
Entries = List (ForkId × ForkMarks)

abbrev entry_sum : ForkId × ForkMarks → ForkSummary
entry_sum e = record { fork = e.0; limit = e.1.limit; blocks = e.1.blocks.keys }

abbrev SetsRise : Entries → Type 0
SetsRise es = AllByRecursion (λ e. IsStrictlySortedBy nat_cmp e.1.blocks.keys) es

below : (k : ForkId) (es : Entries) → IsBelow k (keys_of es) → IsBelow k (names (forks_of es))
below k [] h = tt
below k (e ∷ es) h =
    elim (is_told e.1.limit e.1.blocks.keys) as (λ t. IsBelow k (names (cond t (entry_sum e ∷ forks_of es) (forks_of es)))) [ true ↦ (h.0, below k es h.1) | false ↦ below k es h.1 ]

forks_rise : (es : Entries) → IsStrictlySortedBy fork_cmp (keys_of es) → IsStrictlySortedBy fork_cmp (names (forks_of es))
unfolding IsStrictlySortedBy
forks_rise [] h = tt
forks_rise (e ∷ es) h =
    elim (is_told e.1.limit e.1.blocks.keys) as (λ t. IsStrictlySortedBy fork_cmp (names (cond t (entry_sum e ∷ forks_of es) (forks_of es)))) [ true ↦ (below e.0 es h.0, forks_rise es h.1) | false ↦ forks_rise es h.1 ]

each_told : (es : Entries) → SetsRise es → AllByRecursion IsForkSummary (forks_of es)
each_told [] h = tt
each_told (e ∷ es) h =
    elim (is_told e.1.limit e.1.blocks.keys) as (λ t. is_told e.1.limit e.1.blocks.keys ≡ t → AllByRecursion IsForkSummary (cond t (entry_sum e ∷ forks_of es) (forks_of es))) [
      | true ↦ λ k. (record { blocks = h.0; told = k }, each_told es h.1)
      | false ↦ λ k. each_told es h.1
    ] refl

untold_limit : (o : Option ℕ) (bs : List ℕ) → is_told o bs ≡ false → o ≡ None
untold_limit None bs e = refl
untold_limit (Some n) bs e = absurd cc

untold_blocks : (o : Option ℕ) (bs : List ℕ) → is_told o bs ≡ false → bs ≡ []
untold_blocks None [] e = refl
untold_blocks None (b ∷ bs) e = absurd cc
untold_blocks (Some n) bs e = absurd cc

limits_kept : (f : ForkId) (es : Entries) → IsStrictlySortedBy fork_cmp (keys_of es) → limit_at f (forks_of es) ≡ limit_found (lookup (eq_by_cmp fork_cmp f) es)
unfolding is_same_fork
limits_kept f [] h = refl
limits_kept f (e ∷ es) h =
    let rest = limits_kept f es (sorted_tail fork_cmp e.0 (keys_of es) h) in
    elim (is_told e.1.limit e.1.blocks.keys) as (λ t. is_told e.1.limit e.1.blocks.keys ≡ t → limit_at f (cond t (entry_sum e ∷ forks_of es) (forks_of es)) ≡ limit_found (cond (eq_by_cmp fork_cmp f e.0) (Some e.1) (lookup (eq_by_cmp fork_cmp f) es))) [
      | true ↦ λ k. elim (eq_by_cmp fork_cmp f e.0) as (λ q. cond q e.1.limit (limit_at f (forks_of es)) ≡ limit_found (cond q (Some e.1) (lookup (eq_by_cmp fork_cmp f) es))) [ true ↦ refl | false ↦ rest ]
      | false ↦ λ k. elim (eq_by_cmp fork_cmp f e.0) as (λ q. eq_by_cmp fork_cmp f e.0 ≡ q → limit_at f (forks_of es) ≡ limit_found (cond q (Some e.1) (lookup (eq_by_cmp fork_cmp f) es))) [
        | true ↦ λ j. ap (λ g. limit_at g (forks_of es)) (fork_is f e.0 j) ∙ absent_limit e.0 (forks_of es) (below e.0 es (sorted_first e.0 (keys_of es) h)) ∙ sym (untold_limit e.1.limit e.1.blocks.keys k)
        | false ↦ λ j. rest
      ] refl
    ] refl

at_numbers : (b : ℕ) (xs : List ℕ) → list_any (λ x. b == x) xs ≡ list_any (λ x. is_eq (nat_cmp b x)) xs
at_numbers b [] = refl
at_numbers b (x ∷ xs) = λ i. sym (unsigned_tied b x) i || at_numbers b xs i

blocks_kept : (f : ForkId) (b : ℕ) (es : Entries) → IsStrictlySortedBy fork_cmp (keys_of es) → lists_at f b (forks_of es) ≡ has_block_found (lookup (eq_by_cmp fork_cmp f) es) b
unfolding is_same_fork
blocks_kept f b [] h = refl
blocks_kept f b (e ∷ es) h =
    let rest = blocks_kept f b es (sorted_tail fork_cmp e.0 (keys_of es) h) in
    elim (is_told e.1.limit e.1.blocks.keys) as (λ t. is_told e.1.limit e.1.blocks.keys ≡ t → lists_at f b (cond t (entry_sum e ∷ forks_of es) (forks_of es)) ≡ has_block_found (cond (eq_by_cmp fork_cmp f e.0) (Some e.1) (lookup (eq_by_cmp fork_cmp f) es)) b) [
      | true ↦ λ k. elim (eq_by_cmp fork_cmp f e.0) as (λ q. cond q (list_any (λ x. b == x) e.1.blocks.keys) (lists_at f b (forks_of es)) ≡ has_block_found (cond q (Some e.1) (lookup (eq_by_cmp fork_cmp f) es)) b) [ true ↦ at_numbers b e.1.blocks.keys | false ↦ rest ]
      | false ↦ λ k. elim (eq_by_cmp fork_cmp f e.0) as (λ q. eq_by_cmp fork_cmp f e.0 ≡ q → lists_at f b (forks_of es) ≡ has_block_found (cond q (Some e.1) (lookup (eq_by_cmp fork_cmp f) es)) b) [
        | true ↦ λ j. ap (λ g. lists_at g b (forks_of es)) (fork_is f e.0 j) ∙ absent_lists e.0 b (forks_of es) (below e.0 es (sorted_first e.0 (keys_of es) h)) ∙ sym (ap (list_any (λ x. is_eq (nat_cmp b x))) (untold_blocks e.1.limit e.1.blocks.keys k))
        | false ↦ λ j. rest
      ] refl
    ] refl

-- the summary of the marks of a map
pub map_summary : (m : Forks) → IsOrdered derived_cmp m → SetsRise m.entries → IsSummary (table_in m) (forks_of m.entries)
unfolding table_in
map_summary m ordered rise =
    let order : IsStrictlySortedBy fork_cmp (keys_of m.entries) = subst (λ (R : ForkId → ForkId → Ordering). IsStrictlySortedBy R (keys_of m.entries)) derived_is ordered in
    record {
      sorted = record { forks = forks_rise m.entries order; each = each_told m.entries rise };
      says = same_table (table_of_forks (forks_of m.entries)) (table_in m) record { limit = λ f. limits_kept f m.entries order; listed = λ f b. blocks_kept f b m.entries order };
    }

one_fork : (e : ForkId × ForkMarks) (fs : Entries) → forks_of (e ∷ []) ++ forks_of fs ≡ forks_of (e ∷ fs)
one_fork e fs =
    elim (is_told e.1.limit e.1.blocks.keys) as (λ t. cond t (entry_sum e ∷ []) [] ++ forks_of fs ≡ cond t (entry_sum e ∷ forks_of fs) (forks_of fs)) [ true ↦ refl | false ↦ refl ]

forks_of-append : (es fs : Entries) → forks_of (es ++ fs) ≡ forks_of es ++ forks_of fs
forks_of-append [] fs = refl
forks_of-append (e ∷ es) fs =
    let rest = forks_of-append es fs in
    elim (is_told e.1.limit e.1.blocks.keys) as (λ t. cond t (entry_sum e ∷ forks_of (es ++ fs)) (forks_of (es ++ fs)) ≡ cond t (entry_sum e ∷ forks_of es) (forks_of es) ++ forks_of fs) [ true ↦ ap (λ l. entry_sum e ∷ l) rest | false ↦ rest ]

all_push : {A : Type 0} (P : A → Type 0) (xs : List A) (x : A) → AllByRecursion P xs → P x → AllByRecursion P (xs ++ x ∷ [])
all_push P [] x h p = (p, tt)
all_push P (y ∷ ys) x h p = (h.0, all_push P ys x h.1 p)

-- entries of a map that were gone through, and the forks that they gave
abbrev pub GoneThrough : Forks → Entries → List ForkSummary → Type 0
GoneThrough m left sums = (seen : Entries) × (seen ++ left ≡ m.entries) × SetsRise seen × (sums ≡ forks_of seen)

pub gone_on : (m : Forks) (e : ForkId × ForkMarks) (left rest : Entries) (sums more : List ForkSummary) → GoneThrough m left sums → left ≡ e ∷ rest → IsStrictlySortedBy nat_cmp e.1.blocks.keys → more ≡ sums ++ forks_of (e ∷ []) → GoneThrough m rest more
gone_on m e left rest sums more g is rise pushed =
    (g.0 ++ e ∷ [], append_assoc g.0 (e ∷ []) rest ∙ ap (λ l. g.0 ++ l) (sym is) ∙ g.1, all_push _ g.0 e g.2 rise, pushed ∙ ap (λ l. l ++ forks_of (e ∷ [])) g.3 ∙ sym (forks_of-append g.0 (e ∷ [])))

pub gone_all : (m : Forks) (left : Entries) (sums : List ForkSummary) → GoneThrough m left sums → left ≡ [] → (SetsRise m.entries) × (sums ≡ forks_of m.entries)
gone_all m left sums g is =
    let all : g.0 ≡ m.entries = sym (append-nil g.0) ∙ ap (λ l. g.0 ++ l) (sym is) ∙ g.1 in
    (subst SetsRise all g.2, g.3 ∙ ap forks_of all)

-- a fork of a summary alone, as a table
abbrev pub fork_table : ForkSummary → BlockRefTable
fork_table s = table_of_forks (s ∷ [])

-- a fork that none of these is
none_limit : (f : ForkId) (sums : List ForkSummary) → IsBelow f (names sums) → limit_in f (map fork_table sums) ≡ None
none_limit f [] h = refl
none_limit f (s ∷ ss) h = ap (λ t. least (cond t s.limit None) (limit_in f (map fork_table ss))) (apart f s.fork h.0) ∙ none_limit f ss h.1

none_listed : (f : ForkId) (b : ℕ) (sums : List ForkSummary) → IsBelow f (names sums) → is_listed f b (map fork_table sums) ≡ false
none_listed f b [] h = refl
none_listed f b (s ∷ ss) h =
    ap (λ t. (cond t (list_any (λ x. b == x) s.blocks) false && not (list_any (limits f b) (map fork_table ss))) || is_listed f b (map fork_table ss)) (apart f s.fork h.0) ∙ none_listed f b ss h.1

kept_all : (t a : Bool) (r : Bool) → a ≡ false → r ≡ false → ((t && not a) || r) ≡ t
kept_all true a r e g = ap (λ x. not x || r) e
kept_all false a r e g = g

forks_limit : (f : ForkId) (sums : List ForkSummary) → IsStrictlySortedBy fork_cmp (names sums) → limit_in f (map fork_table sums) ≡ limit_at f sums
forks_limit f [] h = refl
forks_limit f (s ∷ ss) h =
    let later = sorted_first s.fork (names ss) h in
    elim (is_same_fork f s.fork) as (λ q. is_same_fork f s.fork ≡ q → least (cond q s.limit None) (limit_in f (map fork_table ss)) ≡ cond q s.limit (limit_at f ss)) [
      | true ↦ λ k. ap (least s.limit) (ap (λ g. limit_in g (map fork_table ss)) (fork_is f s.fork k) ∙ none_limit s.fork ss later) ∙ least_none s.limit
      | false ↦ λ k. forks_limit f ss (sorted_tail fork_cmp s.fork (names ss) h)
    ] refl

forks_listed : (f : ForkId) (b : ℕ) (sums : List ForkSummary) → IsStrictlySortedBy fork_cmp (names sums) → is_listed f b (map fork_table sums) ≡ lists_at f b sums
forks_listed f b [] h = refl
forks_listed f b (s ∷ ss) h =
    let later = sorted_first s.fork (names ss) h in
    let rest = map fork_table ss in
    elim (is_same_fork f s.fork) as (λ q. is_same_fork f s.fork ≡ q → ((cond q (list_any (λ x. b == x) s.blocks) false && not (list_any (limits f b) rest)) || is_listed f b rest) ≡ cond q (list_any (λ x. b == x) s.blocks) (lists_at f b ss)) [
      | true ↦ λ k.
          let same = fork_is f s.fork k in
          kept_all (list_any (λ x. b == x) s.blocks) _ _ (ap (λ g. list_any (limits g b) rest) same ∙ any_limits s.fork b rest ∙ ap (is_at_most b) (none_limit s.fork ss later)) (ap (λ g. is_listed g b rest) same ∙ none_listed s.fork b ss later)
      | false ↦ λ k. forks_listed f b ss (sorted_tail fork_cmp s.fork (names ss) h)
    ] refl

-- forks in order, summed up one by one
pub forks_say : (sums : List ForkSummary) → AreSorted sums → summed (map fork_table sums) ≡ table_of_forks sums
forks_say sums h = same_table (summed (map fork_table sums)) (table_of_forks sums) record { limit = λ f. forks_limit f sums h.forks; listed = λ f b. forks_listed f b sums h.forks }

-- blocks in turn
blocks_limit : {A : Type 0} (fork_of : A → ForkId) (block_of : A → ℕ) (fork : ForkId) (xs : List A) → limit_in fork (map (λ x. block_table (fork_of x) (block_of x)) xs) ≡ None
blocks_limit fork_of block_of fork [] = refl
blocks_limit fork_of block_of fork (x ∷ xs) = blocks_limit fork_of block_of fork xs

no_cut : (t a : Bool) → a ≡ false → (t && not a) ≡ t
no_cut true a e = ap not e
no_cut false a e = refl

blocks_listed : {A : Type 0} (fork_of : A → ForkId) (block_of : A → ℕ) (fork : ForkId) (block : ℕ) (xs : List A) → is_listed fork block (map (λ x. block_table (fork_of x) (block_of x)) xs) ≡ list_any (λ x. is_same_fork fork (fork_of x) && (block == block_of x)) xs
blocks_listed fork_of block_of fork block [] = refl
blocks_listed fork_of block_of fork block (x ∷ xs) =
    let rest = map (λ x. block_table (fork_of x) (block_of x)) xs in
    let t = is_same_fork fork (fork_of x) && (block == block_of x) in
    ap (λ a. a || is_listed fork block rest) (no_cut t (list_any (limits fork block) rest) (any_limits fork block rest ∙ ap (is_at_most block) (blocks_limit fork_of block_of fork xs)))
    ∙ ap (λ a. t || a) (blocks_listed fork_of block_of fork block xs)

-- the summary of blocks in turn
pub blocks_summed : {A : Type 0} (fork_of : A → ForkId) (block_of : A → ℕ) (xs : List A) → SayTheSame (summed (map (λ x. block_table (fork_of x) (block_of x)) xs)) record { limit = λ f. None; listed = λ f b. list_any (λ x. is_same_fork f (fork_of x) && (b == block_of x)) xs }
blocks_summed fork_of block_of xs = record { limit = λ f. blocks_limit fork_of block_of f xs; listed = λ f b. blocks_listed fork_of block_of f b xs }

any_and : (s : Bool) (block : ℕ) (xs : List ℕ) → list_any (λ x. s && (block == x)) xs ≡ cond s (list_any (λ x. block == x) xs) false
any_and true block xs = refl
any_and false block [] = refl
any_and false block (x ∷ xs) = any_and false block xs

-- a fork's limit and then its blocks are the fork
fork_said : (s : ForkSummary) → both_summed (limit_table s.fork s.limit) (summed (map (block_table s.fork) s.blocks)) ≡ fork_table s
fork_said s =
    let blocks = blocks_summed (λ (x : ℕ). s.fork) (λ x. x) s.blocks in
    same_table (both_summed (limit_table s.fork s.limit) (summed (map (block_table s.fork) s.blocks))) (fork_table s) record {
      limit = λ f. ap (least (cond (is_same_fork f s.fork) s.limit None)) (blocks.limit f) ∙ least_none _;
      listed = λ f b. blocks.listed f b ∙ any_and (is_same_fork f s.fork) b s.blocks;
    }

pub fork_added : (s : ForkSummary) (old mid new : BlockRefTable) → mid ≡ both_summed old (limit_table s.fork s.limit) → new ≡ both_summed mid (summed (map (block_table s.fork) s.blocks)) → new ≡ both_summed old (fork_table s)
fork_added s old mid new e f = added_more old mid new (limit_table s.fork s.limit) (summed (map (block_table s.fork) s.blocks)) e f ∙ ap (both_summed old) (fork_said s)
