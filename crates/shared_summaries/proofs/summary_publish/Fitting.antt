-- Limits and blocks that a summary's file can hold.
use Rattle.std.proofs.Common.{◌≡◌, ℕ, ◌<◌, ◌/◌, Bool, true, false, cond, not, ◌&&◌, ◌||◌, ◌==◌, List, [], ◌∷◌, ◌++◌, map, Option, Some, None, IfSome, refl, sym, ap, subst, ◌∙◌, arith, true≢false}
use Rattle.std.specs.Prelude.{nat_le, nat_lt}
use Rattle.std.specs.List.{list_any, All, AllByRecursion}
use Rattle.std.specs.List.Sorted.{IsStrictlySortedBy}
use Rattle.std.proofs.lemmas.Bool.{eq-eqb, eqb-true}
use Rattle.std.proofs.lemmas.Map.Keys.{sorted_tail}
use Rattle.lsn_core.specs.Sizes.{most_blocks}
use Rattle.lsn_core.specs.Store.{fork_cmp}
use Rattle.lsn_core.specs.declared.ids.BlockId.{BlockId}
use Rattle.lsn_core.specs.declared.ids.ForkId.{ForkId}
use Rattle.wal_record.specs.declared.record.BlockRef.{BlockRef}
use Rattle.wal_record.specs.declared.record.Kind.{Kind}
use Rattle.wal_record.specs.declared.record.Kind.TheVariants as kind
use Rattle.wal_record.specs.declared.record.Record.{Record}
use Rattle.wal_record.specs.Sound.{IsSound, IsSoundBlock}
use Rattle.history.specs.Entry.{IdleCut, Truncate, Mark}
use Rattle.history.specs.Apply.{main_fork, is_same_fork, is_of_any}
use Rattle.history.specs.Whole.{act_of, item_of, is_repeat, said_behind, cuts_main, entry_of}
use Rattle.history.proofs.Pushes.{all_first, all_rest}
use Rattle.history.proofs.Stores.{by_test, fork_is, fork_self}
use Rattle.history.specs.fuzzy_copies.Touches.{is_at, act_touches, limit_of}
use Rattle.history.specs.fuzzy_copies.Sound.{window}
use Rattle.history.specs.fuzzy_copies.Summary.{BlockRefTable, table_of, least, limits, summed, both_summed, summary_of}
use Rattle.wal_summary.specs.declared.summary.ForkSummary.{ForkSummary}
use Rattle.wal_summary.specs.Summary.{limit_at, lists_at, IsSummary}
use Rattle.wal_summary.proofs.Sums.{names, sorted_first, absent_limit, absent_lists}
use Rattle.wal_summary.proofs.Tables.{first_summed}
use Rattle.summary_file.specs.File.{no_limit, IsWritableFork}
use Rattle.shared_summaries.specs.summary_publish.Inside.{RiseBehind}
use Rattle.shared_summaries.specs.summary_publish.Inside.{HasCount, HaveCounts}

-- a limit isn't past those that a file can hold
abbrev pub IsLow : Option ℕ → Type 0
IsLow o = IfSome o (λ count. count < no_limit)

-- a file can hold each limit and each block of a table
pub record Fits (t : BlockRefTable) : Type 0 where
  pub limit : (f : ForkId) → IsLow (t.limit f)
  pub listed : (f : ForkId) (b : ℕ) → t.listed f b ≡ true → b < most_blocks

-- ---- tables that are merged

least_low : (o p : Option ℕ) → IsLow o → IsLow p → IsLow (least o p)
least_low None p h k = k
least_low (Some a) None h k = h
least_low (Some a) (Some b) h k = omega (arith, h, k)

pub one_of : (P : Type 0) (a b : Bool) → (a ≡ true → P) → (b ≡ true → P) → (a || b) ≡ true → P
one_of P true b f k h = f refl
one_of P false b f k h = k h

and_left : (a b : Bool) → (a && b) ≡ true → a ≡ true
and_left true b h = refl
and_left false b h = h

and_right : (a b : Bool) → (a && b) ≡ true → b ≡ true
and_right true b h = h
and_right false b h = absurd cc

pub none_fits : Fits (summed [])
none_fits = record { limit = λ f. tt; listed = λ f b h. absurd (true≢false (sym h)) }

pub both_fit : (a b : BlockRefTable) → Fits a → Fits b → Fits (both_summed a b)
both_fit a b p q = record {
  limit = λ f. least_low (a.limit f) (b.limit f) (p.limit f) (q.limit f);
  listed = λ f n h. one_of (n < most_blocks) (a.listed f n && not (limits f n b)) (b.listed f n) (λ k. p.listed f n (and_left (a.listed f n) (not (limits f n b)) k)) (λ k. q.listed f n k) h;
}

-- ---- what a record says

where_low : (t : Bool) (n : ℕ) → n < no_limit → IsLow (cond t (Some n) None)
where_low true n h = h
where_low false n h = tt

limit_low : (f : ForkId) (k : Kind) → IsSound k → HasCount k → IsLow (limit_of f (act_of k))
limit_low f (kind.Shutdown redo) s c = tt
limit_low f (kind.Online redo) s c = tt
limit_low f (kind.RedoMark n) s c = tt
limit_low f kind.NoOp s c = tt
limit_low f (kind.BackupEnd start) s c = tt
limit_low f (kind.Commit time []) s c = tt
limit_low f (kind.Commit time (rel ∷ rels)) s c = where_low (is_of_any f (rel ∷ rels)) 0 (omega arith)
limit_low f (kind.Images blocks) s c = tt
limit_low f (kind.Generic blocks) s c = tt
limit_low f (kind.Create fork) s c = where_low (is_same_fork f fork) 0 (omega arith)
limit_low f (kind.Truncate rel count flags) s c =
    let other = s.1.0 in
    elim (cuts_main flags) as (λ t. IsLow (limit_of f (cond t (Truncate rel count) (Mark (IdleCut rel count (flags / 2)))))) [
      | true ↦ where_low (is_same_fork f (main_fork rel)) count (omega (arith, other, c))
      | false ↦ tt
    ]

items_low : (f : ForkId) (b : ℕ) (named : List BlockId) (blocks : List BlockRef) → All IsSoundBlock blocks → list_any (is_at f b) (said_behind named blocks) ≡ true → b < most_blocks
items_low f b named [] s h = absurd (true≢false (sym h))
items_low f b named (x ∷ xs) s h =
    let rest = items_low f b (named ++ (x.at ∷ [])) xs (all_rest IsSoundBlock x xs s) in
    let own = (all_first IsSoundBlock x xs s).number in
    let behind = said_behind (named ++ (x.at ∷ [])) xs in
    (elim (is_repeat named (item_of x)) as (λ t. list_any (is_at f b) (cond t behind (item_of x ∷ behind)) ≡ true → b < most_blocks) [
      | true ↦ rest
      | false ↦ λ k. one_of (b < most_blocks) (is_at f b (item_of x)) (list_any (is_at f b) behind)
          (λ j. let same = eqb-true b x.at.block (and_right (is_same_fork f x.at.fork) (b == x.at.block) j) in omega (arith, same, own))
          rest k
    ]) h

block_low : (f : ForkId) (b : ℕ) (k : Kind) → IsSound k → act_touches f b (act_of k) ≡ true → b < most_blocks
block_low f b (kind.Shutdown redo) s h = absurd (true≢false (sym h))
block_low f b (kind.Online redo) s h = absurd (true≢false (sym h))
block_low f b (kind.RedoMark n) s h = absurd (true≢false (sym h))
block_low f b kind.NoOp s h = absurd (true≢false (sym h))
block_low f b (kind.BackupEnd start) s h = absurd (true≢false (sym h))
block_low f b (kind.Commit time []) s h = absurd (true≢false (sym h))
block_low f b (kind.Commit time (rel ∷ rels)) s h = absurd (true≢false (sym h))
block_low f b (kind.Images blocks) s h = items_low f b [] blocks s.0 h
block_low f b (kind.Generic blocks) s h = items_low f b [] blocks s h
block_low f b (kind.Create fork) s h = absurd (true≢false (sym h))
block_low f b (kind.Truncate rel count flags) s h =
    (elim (cuts_main flags) as (λ t. act_touches f b (cond t (Truncate rel count) (Mark (IdleCut rel count (flags / 2)))) ≡ true → b < most_blocks) [
      | true ↦ λ k. absurd (true≢false (sym k))
      | false ↦ λ k. absurd (true≢false (sym k))
    ]) h

record_fits : (r : Record) → IsSound r.kind → HasCount r.kind → Fits (table_of (entry_of r))
record_fits r s c = record { limit = λ f. limit_low f r.kind s c; listed = λ f b h. block_low f b r.kind s h }

-- ---- what records say

pub piece_fits : (rs : List Record) (from to place : ℕ) → RiseBehind place rs → HaveCounts rs → Fits (summary_of (map entry_of rs) from to)
piece_fits [] from to place rise counts = none_fits
piece_fits (r ∷ rs) from to place rise counts =
    let rest = piece_fits rs from to r.end.0 rise.2 counts.1 in
    let behind = window (map entry_of rs) from to in
    let own = table_of (entry_of r) in
    elim (nat_le from r.start.0 && nat_lt r.start.0 to) as (λ t. Fits (summed (map table_of (cond t (entry_of r ∷ behind) behind)))) [
      | true ↦ subst Fits (sym (first_summed own (map table_of behind))) (both_fit own (summed (map table_of behind)) (record_fits r rise.1 counts.0) rest)
      | false ↦ rest
    ]

-- ---- the forks of a table that fits

all_low : (bs : List ℕ) → ((b : ℕ) → list_any (λ x. b == x) bs ≡ true → b < most_blocks) → AllByRecursion (λ b. b < most_blocks) bs
all_low [] low = tt
all_low (b ∷ bs) low = (
  low b (ap (λ t. t || list_any (λ x. b == x) bs) (eq-eqb b b refl)),
  all_low bs (λ n h. low n (elim (n == b) as (λ t. (t || list_any (λ x. n == x) bs) ≡ true) [ true ↦ refl | false ↦ h ])),
)

forks_low : (sums : List ForkSummary) → IsStrictlySortedBy fork_cmp (names sums) → ((f : ForkId) → IsLow (limit_at f sums)) → ((f : ForkId) (b : ℕ) → lists_at f b sums ≡ true → b < most_blocks) → AllByRecursion IsWritableFork sums
forks_low [] sorted limit listed = tt
forks_low (s ∷ ss) sorted limit listed =
    let above = sorted_first s.fork (names ss) sorted in (
      record {
        limit = subst IsLow (ap (λ t. cond t s.limit (limit_at s.fork ss)) (fork_self s.fork)) (limit s.fork);
        blocks = all_low s.blocks (λ b h. listed s.fork b (ap (λ t. cond t (list_any (λ x. b == x) s.blocks) (lists_at s.fork b ss)) (fork_self s.fork) ∙ h));
      },
      forks_low ss (sorted_tail fork_cmp s.fork (names ss) sorted)
          (λ f. by_test (is_same_fork f s.fork)
          (λ k. subst IsLow (sym (ap (λ g. limit_at g ss) (fork_is f s.fork k) ∙ absent_limit s.fork ss above)) tt)
          (λ k. subst IsLow (ap (λ t. cond t s.limit (limit_at f ss)) k) (limit f)))
          (λ f b h. by_test (is_same_fork f s.fork)
          (λ k. absurd (true≢false (sym h ∙ ap (λ g. lists_at g b ss) (fork_is f s.fork k) ∙ absent_lists s.fork b ss above)))
          (λ k. listed f b (ap (λ t. cond t (list_any (λ x. b == x) s.blocks) (lists_at f b ss)) k ∙ h))),
    )

pub forks_fit : (table : BlockRefTable) (forks : List ForkSummary) → IsSummary table forks → Fits table → AllByRecursion IsWritableFork forks
forks_fit table forks is fits =
    forks_low forks is.sorted.forks (λ f. subst (λ (t : BlockRefTable). IsLow (t.limit f)) (sym is.says) (fits.limit f))
    (λ f b h. fits.listed f b (ap (λ (t : BlockRefTable). t.listed f b) (sym is.says) ∙ h))
