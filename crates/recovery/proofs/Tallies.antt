-- What a store counts once one fork of it is another.
use Rattle.std.proofs.Common.{◌≡◌, ℕ, ◌+◌, ◌/◌, Bool, true, false, cond, List, [], length, Option, Some, None, IfSome, option_map, unwrap_or, is_some, refl, sym, ap, subst, ◌∙◌, arith}
use Rattle.std.specs.FinMap.{get, insert, contains_key, len, len-insert, len-empty, empty}
use Rattle.lsn_core.specs.byte_words.Numbers.{◌>>=◌}
use Rattle.lsn_core.specs.declared.ids.ForkId.{ForkId}
use Rattle.lsn_core.specs.declared.ids.BlockId.{BlockId}
use Rattle.lsn_core.specs.Store.{Store, ForkPages, fork_cmp}
use Rattle.lsn_core.specs.Blocks.{block_count, pages_of, page_put, with_block, with_fork, with_cut, with_cut_pages, without_fork}
use Rattle.lsn_core.proofs.ForkOrder.{fork_cmp_total}
use Rattle.wal_record.specs.declared.record.Record.{Record}
use Rattle.wal_record.specs.declared.record.BlockRef.{BlockRef}
use Rattle.wal_record.specs.declared.record.Kind.{Kind}
use Rattle.wal_record.specs.declared.record.Kind.TheVariants as kind
use Rattle.history.specs.Apply.{main_fork, act_by, page_at}
use Rattle.history.specs.Pages.{page_count}
use Rattle.history.specs.Redo.{redone}
use Rattle.history.specs.Whole.{act_with, cuts_main, edit_of}
use Rattle.history.specs.Entry.{Mark, Truncate, IdleCut}
use Rattle.history.specs.declared.op.Item.{Item}
use Rattle.history.proofs.Counts.{page_count-insert, page_count-empty, none_removed, put_back}
use Rattle.history.proofs.Stores.{get_here, fork_self}
use Rattle.generic_redo.specs.Redo.{block_ref, block_redone, ref_redone}
use Rattle.recovery.specs.declared.tally.Tally.{Tally}
use Rattle.recovery.specs.Tally.{fork_tally, IsRecounted, IsTallyOf}
use Rattle.recovery.specs.Inside.{IsRefOf, IsOfFork}

-- ---- one fork alone is another

abbrev pub fork_counts : Store → ForkId → Tally
fork_counts s fork = fork_tally (block_count s fork)

pub record IsMoved (s t : Store) (fork : ForkId) : Type 0 where
  pub forks : len t + (fork_counts s fork).forks ≡ len s + (fork_counts t fork).forks
  pub pages : page_count t + (fork_counts s fork).pages ≡ page_count s + (fork_counts t fork).pages

moved_same : (s : Store) (fork : ForkId) → IsMoved s s fork
moved_same s fork = record { forks = refl; pages = refl }

pages_tally : (o : Option ForkPages) → (fork_tally (option_map length o)).pages ≡ length (unwrap_or o [])
pages_tally None = refl
pages_tally (Some pages) = refl

forks_more : (o : Option ForkPages) (n : ℕ) → cond (is_some o) n (n + 1) + (fork_tally (option_map length o)).forks ≡ n + 1
forks_more None n = omega arith
forks_more (Some pages) n = refl

moved_insert : (s : Store) (fork : ForkId) (pages : ForkPages) → IsMoved s (insert s fork pages) fork
moved_insert s fork pages =
    let there : get (insert s fork pages) fork ≡ Some pages = get_here s fork fork pages (fork_self fork) in
    let now : fork_counts (insert s fork pages) fork ≡ fork_tally (Some (length pages)) = ap (λ (o : Option ForkPages). fork_tally (option_map length o)) there in
    record {
      forks = ap (λ (n : ℕ). n + (fork_counts s fork).forks) (len-insert fork_cmp_total s fork pages)
          ∙ forks_more (get s fork) (len s)
          ∙ sym (ap (λ (t : Tally). len s + t.forks) now);
      pages = ap (λ (n : ℕ). page_count (insert s fork pages) + n) (pages_tally (get s fork))
          ∙ page_count-insert s fork pages
          ∙ sym (ap (λ (t : Tally). page_count s + t.pages) now);
    }

pub moved_put : (s : Store) (at : BlockId) (page : List ℕ) → IsMoved s (page_put at page s) at.fork
moved_put s at page = moved_insert s at.fork (with_block (pages_of s at.fork) at.block page)

pub moved_made : (s : Store) (fork : ForkId) → IsMoved s (with_fork s fork) fork
moved_made s fork = go (contains_key s fork)
  where
    go : (t : Bool) → IsMoved s (cond t s (insert s fork [])) fork
    go true = moved_same s fork
    go false = moved_insert s fork []

pub moved_cut : (s : Store) (fork : ForkId) (count : ℕ) → IsMoved s (with_cut s fork count) fork
moved_cut s fork count = go (get s fork)
  where
    go : (o : Option ForkPages) → IsMoved s (with_cut_pages s fork count o) fork
    go None = moved_same s fork
    go (Some pages) = moved_insert s fork _

pub moved_removed : (s : Store) (fork : ForkId) → IsMoved s (without_fork s fork) fork
moved_removed s fork = go (get s fork) refl
  where
    go : (o : Option ForkPages) → get s fork ≡ o → IsMoved s (without_fork s fork) fork
    go None none = subst (λ (t : Store). IsMoved s t fork) (sym (none_removed s fork none)) (moved_same s fork)
    go (Some pages) found =
        let t = without_fork s fork in
        let moved = moved_insert t fork pages in
        let back = put_back s fork pages found in
        record {
          forks = sym (subst (λ (u : Store). len u + (fork_counts t fork).forks ≡ len t + (fork_counts u fork).forks) back moved.forks);
          pages = sym (subst (λ (u : Store). page_count u + (fork_counts t fork).pages ≡ page_count t + (fork_counts u fork).pages) back moved.pages);
        }

-- ---- by what an entry does

put_moved : (s next : Store) (at : BlockId) (o : Option (List ℕ)) → option_map (λ page. page_put at page s) o ≡ Some next → IsMoved s next at.fork
put_moved s next at None e = absurd cc
put_moved s next at (Some page) e = subst (λ (t : Store). IsMoved s t at.fork) (ap (λ (o : Option Store). unwrap_or o s) e) (moved_put s at page)

pub ref_moved : (r : Record) (i : ℕ) (fork : ForkId) (s next : Store) → IsRefOf r i fork → ref_redone r i s ≡ Some next → IsMoved s next fork
ref_moved r i fork s next ref e = go (block_ref r i) ref.fork_is e
  where
    go : (o : Option BlockRef) → IfSome o (λ block. block.at.fork ≡ fork) → (o >>= λ block. block_redone r.end.0 block s) ≡ Some next → IsMoved s next fork
    go None is e = absurd cc
    go (Some block) is e = subst (IsMoved s next) is (put_moved s next block.at (redone r.end.0 (page_at s block.at) (edit_of block.body)) e)

from_some : (s next : Store) (t : Store) (fork : ForkId) → ◌≡◌ {A = Option Store} (Some t) (Some next) → IsMoved s t fork → IsMoved s next fork
from_some s next t fork e moved = subst (λ (u : Store). IsMoved s u fork) (ap (λ (o : Option Store). unwrap_or o s) e) moved

pub act_moved : (end : ℕ) (s next : Store) (told : List BlockRef → List Item) (k : Kind) (fork : ForkId) → IsOfFork k fork → act_by redone end s (act_with told k) ≡ Some next → IsMoved s next fork
act_moved end s next told (kind.Shutdown at) fork of e = absurd of
act_moved end s next told (kind.Online at) fork of e = absurd of
act_moved end s next told (kind.RedoMark n) fork of e = absurd of
act_moved end s next told kind.NoOp fork of e = absurd of
act_moved end s next told (kind.BackupEnd at) fork of e = absurd of
act_moved end s next told (kind.Images blocks) fork of e = absurd of
act_moved end s next told (kind.Generic blocks) fork of e = absurd of
act_moved end s next told (kind.Create made) fork of e = from_some s next (with_fork s made) fork e (subst (IsMoved s (with_fork s made)) of (moved_made s made))
act_moved end s next told (kind.Commit time rels) fork of e = absurd of
act_moved end s next told (kind.Truncate rel count flags) fork of e = go (cuts_main flags) e
  where
    go : (t : Bool) → act_by redone end s (cond t (Truncate rel count) (Mark (IdleCut rel count (flags / 2)))) ≡ Some next → IsMoved s next fork
    go true e = from_some s next (with_cut s (main_fork rel) count) fork e (subst (IsMoved s (with_cut s (main_fork rel) count)) of (moved_cut s (main_fork rel) count))
    go false e = from_some s next s fork e (moved_same s fork)

-- ---- a tally that is told again

pub recounted : (before now : Option ℕ) (old new : Tally) (s t : Store) (fork : ForkId) → IsMoved s t fork → before ≡ block_count s fork → now ≡ block_count t fork
    → IsRecounted (fork_tally before) (fork_tally now) old new → IsTallyOf old s → IsTallyOf new t
recounted before now old new s t fork moved before_is now_is told tally =
    let b : fork_tally before ≡ fork_counts s fork = ap fork_tally before_is in
    let n : fork_tally now ≡ fork_counts t fork = ap fork_tally now_is in
    record {
      forks = omega (arith, told.forks, tally.forks, moved.forks, ap (λ (x : Tally). x.forks) b, ap (λ (x : Tally). x.forks) n);
      pages = omega (arith, told.pages, tally.pages, moved.pages, ap (λ (x : Tally). x.pages) b, ap (λ (x : Tally). x.pages) n);
    }

-- nothing is counted of the empty store
pub none_counted : IsTallyOf (fork_tally None) empty
none_counted = record { forks = sym (len-empty fork_cmp ForkPages); pages = sym page_count-empty }
