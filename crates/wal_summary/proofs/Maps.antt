-- Marks in a map, with one more block or limit.
use Rattle.std.proofs.Common.{◌≡◌, ℕ, ◌==◌, Bool, true, false, cond, not, ◌&&◌, ◌||◌, [], Option, Some, None, refl, sym, ap, subst, ◌∙◌, arith}
use Rattle.std.specs.Prelude.{nat_le}
use Rattle.std.specs.Ordering.{nat_cmp, is_gt, eq_by_cmp}
use Rattle.std.specs.declared.cmp.Ordering.TheVariants.{Less, Equal, Greater}
use Rattle.std.specs.Cmp.{eq_by_cmp_equiv, ranked}
use Rattle.std.specs.Map.{lookup}
use Rattle.std.specs.BTreeMap.{BTreeMap, UpdatesBy}
use Rattle.std.specs.BTreeMap as tree
use Rattle.std.specs.BTreeSet as sorted
use Rattle.std.proofs.Math.Bool.{or-false}
use Rattle.std.proofs.lemmas.Cmp.{nat_cmp_total}
use Rattle.std.proofs.lemmas.Bool.{le-leb, lt-leb}
use Rattle.std.proofs.lemmas.Map.Views.{contains-keys_below}
use Rattle.lsn_core.specs.declared.ids.ForkId.{ForkId}
use Rattle.lsn_core.specs.Store.{fork_cmp}
use Rattle.lsn_core.proofs.ForkOrder.{fork_cmp_total, derived_cmp, derived_is}
use Rattle.history.specs.Apply.{is_same_fork}
use Rattle.history.proofs.Stores.{fork_is, fork_self}
use Rattle.history.specs.fuzzy_copies.Summary.{BlockRefTable, least, is_at_most, summed, both_summed}
use Rattle.wal_summary.specs.declared.fork_marks.ForkMarks.{ForkMarks}
use Rattle.wal_summary.specs.Marks.{has_block, limit_found, has_block_found, table_in}
use Rattle.wal_summary.specs.Inside.{block_table, limit_table}
use Rattle.wal_summary.proofs.Tables.{same_table, least_none, kept_alone}

abbrev pub Forks : Type 0
Forks = BTreeMap ForkId ForkMarks

is_below : (count b : ℕ) → is_gt (nat_cmp count b) ≡ not (nat_le count b)
is_below count b =
    elim (nat_cmp count b) as (λ r. nat_cmp count b ≡ r → is_gt r ≡ not (nat_le count b)) [
      | Less ↦ λ e. sym (ap not (le-leb count b (let h = ranked count b Less (sym e) in omega (arith, h))))
      | Equal ↦ λ e. sym (ap not (le-leb count b (let h = ranked count b Equal (sym e) in omega (arith, h))))
      | Greater ↦ λ e. sym (ap not (lt-leb count b (ranked count b Greater (sym e))))
    ] refl

swapped : (a b : Bool) → (a && b) ≡ (b && a)
swapped true true = refl
swapped true false = refl
swapped false true = refl
swapped false false = refl

-- what stays below a limit
pub has_below : (old new : sorted.BTreeSet ℕ) (count b : ℕ) → new.keys ≡ sorted.keys_below (nat_cmp count) old → sorted.contains nat_cmp new b ≡ (sorted.contains nat_cmp old b && not (nat_le count b))
has_below old new count b e =
    contains-keys_below nat_cmp_total old new count b e ∙ ap (λ t. t && sorted.contains nat_cmp old b) (is_below count b) ∙ swapped (not (nat_le count b)) (sorted.contains nat_cmp old b)

not_same : (f fork : ForkId) → is_same_fork f fork ≡ false → eq_by_cmp fork_cmp fork f ≡ false
unfolding is_same_fork
not_same f fork e = (eq_by_cmp_equiv fork_cmp_total).symm fork f ∙ e

updated : (m n : Forks) (fork : ForkId) (w : Option ForkMarks) → UpdatesBy derived_cmp (derived_cmp fork) m n w → UpdatesBy fork_cmp (fork_cmp fork) m n w
updated m n fork w u = subst (λ (R : ForkId → ForkId → _). UpdatesBy R (R fork) m n w) derived_is u

-- a table that is about one fork alone
record IsAbout (fork : ForkId) (table : BlockRefTable) : Type 0 where
  limit : (f : ForkId) → is_same_fork f fork ≡ false → table.limit f ≡ None
  listed : (f : ForkId) (b : ℕ) → is_same_fork f fork ≡ false → table.listed f b ≡ false

-- a map in which one fork is changed as a table about it says
marked : (m n : Forks) (fork : ForkId) (o : Option ForkMarks) (w : ForkMarks) (table : BlockRefTable) → o ≡ tree.get derived_cmp m fork → UpdatesBy derived_cmp (derived_cmp fork) m n (Some w) → IsAbout fork table
    → w.limit ≡ least (limit_found o) (table.limit fork) → ((b : ℕ) → has_block w b ≡ ((has_block_found o b && not (is_at_most b (table.limit fork))) || table.listed fork b)) → table_in n ≡ both_summed (table_in m) table
unfolding table_in
marked m n fork o w table found updates about limit listed =
    let u = updated m n fork (Some w) updates in
    let was : tree.get fork_cmp m fork ≡ o = sym (found ∙ ap (λ (R : ForkId → ForkId → _). tree.get R m fork) derived_is) in
    let others : (f : ForkId) → is_same_fork f fork ≡ false → tree.get fork_cmp n f ≡ tree.get fork_cmp m f = λ f k. u.2 f (not_same f fork k) in
    same_table (table_in n) (both_summed (table_in m) table) record {
      limit = λ f. elim (is_same_fork f fork) as (λ s. is_same_fork f fork ≡ s → limit_found (tree.get fork_cmp n f) ≡ least (limit_found (tree.get fork_cmp m f)) (table.limit f)) [
        | true ↦ λ k. subst (λ g. limit_found (tree.get fork_cmp n g) ≡ least (limit_found (tree.get fork_cmp m g)) (table.limit g)) (sym (fork_is f fork k)) (ap limit_found u.1 ∙ limit ∙ ap (λ p. least (limit_found p) (table.limit fork)) (sym was))
        | false ↦ λ k. ap limit_found (others f k) ∙ sym (ap (least (limit_found (tree.get fork_cmp m f))) (about.limit f k) ∙ least_none _)
      ] refl;
      listed = λ f b. elim (is_same_fork f fork) as (λ s. is_same_fork f fork ≡ s → has_block_found (tree.get fork_cmp n f) b ≡ ((has_block_found (tree.get fork_cmp m f) b && not (is_at_most b (table.limit f))) || table.listed f b)) [
        | true ↦ λ k. subst (λ g. has_block_found (tree.get fork_cmp n g) b ≡ ((has_block_found (tree.get fork_cmp m g) b && not (is_at_most b (table.limit g))) || table.listed g b)) (sym (fork_is f fork k))
            (ap (λ p. has_block_found p b) u.1 ∙ listed b ∙ ap (λ p. (has_block_found p b && not (is_at_most b (table.limit fork))) || table.listed fork b) (sym was))
        | false ↦ λ k. ap (λ p. has_block_found p b) (others f k)
            ∙ sym (ap (λ p. (has_block_found (tree.get fork_cmp m f) b && not (is_at_most b p)) || table.listed f b) (about.limit f k) ∙ ap (λ p. (has_block_found (tree.get fork_cmp m f) b && true) || p) (about.listed f b k) ∙ kept_alone _)
      ] refl;
    }

about_block : (fork : ForkId) (block : ℕ) → IsAbout fork (block_table fork block)
about_block fork block = record { limit = λ f k. refl; listed = λ f b k. ap (λ s. s && (b == block)) k }

about_limit : (fork : ForkId) (o : Option ℕ) → IsAbout fork (limit_table fork o)
about_limit fork o = record { limit = λ f k. ap (λ s. cond s o None) k; listed = λ f b k. refl }

kept_or : (l t : Bool) → (l || t) ≡ ((l && true) || t)
kept_or true t = refl
kept_or false t = refl

-- a block more
pub touched : (m n : Forks) (fork : ForkId) (block : ℕ) (o : Option ForkMarks) (w : ForkMarks) → o ≡ tree.get derived_cmp m fork → UpdatesBy derived_cmp (derived_cmp fork) m n (Some w)
    → w.limit ≡ limit_found o → ((b : ℕ) → has_block w b ≡ (has_block_found o b || (b == block))) → table_in n ≡ both_summed (table_in m) (block_table fork block)
touched m n fork block o w found updates limit listed =
    marked m n fork o w (block_table fork block) found updates (about_block fork block) (limit ∙ sym (least_none _))
    (λ b. listed b ∙ kept_or (has_block_found o b) (b == block) ∙ ap (λ s. (has_block_found o b && true) || (s && (b == block))) (sym (fork_self fork)))

-- a limit more
pub cut : (m n : Forks) (fork : ForkId) (count : ℕ) (o : Option ForkMarks) (w : ForkMarks) → o ≡ tree.get derived_cmp m fork → UpdatesBy derived_cmp (derived_cmp fork) m n (Some w)
    → w.limit ≡ least (limit_found o) (Some count) → ((b : ℕ) → has_block w b ≡ (has_block_found o b && not (nat_le count b))) → table_in n ≡ both_summed (table_in m) (limit_table fork (Some count))
cut m n fork count o w found updates limit listed =
    let here : Some count ≡ (limit_table fork (Some count)).limit fork = ap (λ s. cond s (Some count) None) (sym (fork_self fork)) in
    marked m n fork o w (limit_table fork (Some count)) found updates (about_limit fork (Some count)) (limit ∙ ap (least (limit_found o)) here)
    (λ b. listed b ∙ sym (or-false (has_block_found o b && not (nat_le count b))) ∙ ap (λ p. (has_block_found o b && not (is_at_most b p)) || false) here)

pub none_marked : (m : Forks) → m.entries ≡ [] → table_in m ≡ summed []
unfolding table_in
none_marked m e = same_table (table_in m) (summed []) record {
  limit = λ f. ap (λ es. limit_found (lookup (eq_by_cmp fork_cmp f) es)) e;
  listed = λ f b. ap (λ es. has_block_found (lookup (eq_by_cmp fork_cmp f) es) b) e;
}

-- the same where nothing was marked of the fork
pub touched_new : (m same n : Forks) (fork : ForkId) (block : ℕ) (start w : ForkMarks) → same ≡ m → None ≡ tree.get derived_cmp m fork → UpdatesBy derived_cmp (derived_cmp fork) same n (Some w)
    → start.limit ≡ None → ((b : ℕ) → has_block start b ≡ false) → w.limit ≡ start.limit → ((b : ℕ) → has_block w b ≡ (has_block start b || (b == block))) → table_in n ≡ both_summed (table_in m) (block_table fork block)
touched_new m same n fork block start w e found updates none empty limit listed =
    touched m n fork block None w found (subst (λ m. UpdatesBy derived_cmp (derived_cmp fork) m n (Some w)) e updates) (limit ∙ none) (λ b. listed b ∙ ap (λ t. t || (b == block)) (empty b))

pub cut_new : (m same n : Forks) (fork : ForkId) (count : ℕ) (start w : ForkMarks) → same ≡ m → None ≡ tree.get derived_cmp m fork → UpdatesBy derived_cmp (derived_cmp fork) same n (Some w)
    → start.limit ≡ None → ((b : ℕ) → has_block start b ≡ false) → w.limit ≡ least start.limit (Some count) → ((b : ℕ) → has_block w b ≡ (has_block start b && not (nat_le count b))) → table_in n ≡ both_summed (table_in m) (limit_table fork (Some count))
cut_new m same n fork count start w e found updates none empty limit listed =
    cut m n fork count None w found (subst (λ m. UpdatesBy derived_cmp (derived_cmp fork) m n (Some w)) e updates) (limit ∙ ap (λ o. least o (Some count)) none) (λ b. listed b ∙ ap (λ t. t && not (nat_le count b)) (empty b))
