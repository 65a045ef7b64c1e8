-- How many pages creations and truncations add and take away.
use Rattle.std.proofs.Common.{◌≡◌, ℕ, ◌+◌, ◌-◌, ◌≤◌, false, cond, ◌∙◌, [], length, take, Option, Some, None, is_some, option_map, unwrap_or, refl, ap, arith}
use Rattle.std.specs.FinMap.{get, get-remove}
use Rattle.std.specs.Cmp.{eq_by_cmp_equiv}
use Rattle.lsn_core.proofs.ForkOrder.{fork_cmp_total}
use Rattle.history.proofs.Stores.{by_test, fork_is}
use Rattle.std.proofs.lemmas.List.{length-take-le}
use Rattle.lsn_core.specs.Relation.{Relation}
use Rattle.lsn_core.specs.declared.ids.ForkId.{ForkId}
use Rattle.lsn_core.specs.Store.{Store, ForkPages, kind_number}
use Rattle.lsn_core.specs.Blocks.{block_count, pages_of, with_cut, with_cut_pages, without_fork}
use Rattle.history.specs.declared.op.Op.TheVariants as op
use Rattle.history.specs.Apply.{main_fork, init_fork, is_same_fork}
use Rattle.history.specs.Pages.{page_count}
use Rattle.history.proofs.Counts.{page_count-insert, page_count-with_fork, moved_remove}
use Rattle.command_judging.specs.Judging.{IsCounted}

pub counted_creation : (store : Store) (fork : ForkId) → IsCounted store (op.Create fork) 0 0
counted_creation store fork end next e = omega (arith, page_count-with_fork store fork, ap (λ (o : Option Store). page_count (unwrap_or o store)) e)

cut_counted : (store : Store) (fork : ForkId) (count size : ℕ) → Some size ≡ block_count store fork → count ≤ size → page_count (with_cut store fork count) + (size - count) ≡ page_count store
cut_counted store fork count size some within = go (get store fork) refl some
  where
    go : (o : Option ForkPages) → get store fork ≡ o → Some size ≡ option_map length o → page_count (with_cut_pages store fork count o) + (size - count) ≡ page_count store
    go None is e = absurd cc
    go (Some pages) is e =
        let long : size ≡ length pages = ap (λ (o : Option ℕ). unwrap_or o 0) e in
        omega (arith, long, within, page_count-insert store fork (take count pages), ap (λ (o : Option ForkPages). length (unwrap_or o [])) is, length-take-le count pages (omega (arith, long, within)))

pub counted_cut : (store : Store) (rel : Relation) (count size gone : ℕ) → Some size ≡ block_count store (main_fork rel) → count ≤ size → gone ≡ size - count → IsCounted store (op.Truncate rel count) 0 gone
counted_cut store rel count size gone some within gone_is end next e =
    omega (arith, cut_counted store (main_fork rel) count size some within, gone_is, ap (λ (o : Option Store). page_count (unwrap_or o store)) e)

-- a fork taken away, with all its pages
pub gone_pages : (store : Store) (fork : ForkId) → page_count (without_fork store fork) + length (pages_of store fork) ≡ page_count store
gone_pages store fork =
    omega (arith, moved_remove store fork, ap (λ (o : Option ForkPages). length (unwrap_or o [])) (get-remove fork_cmp_total store fork fork ∙ ap (λ b. cond b None (get store fork)) ((eq_by_cmp_equiv fork_cmp_total).refl fork)))

other_fork : (rel : Relation) → is_same_fork (init_fork rel) (main_fork rel) ≡ false
other_fork rel = by_test (is_same_fork (init_fork rel) (main_fork rel)) (λ same. absurd (let e : 1 ≡ 0 = ap (λ (f : ForkId). kind_number f.kind) (fork_is (init_fork rel) (main_fork rel) same) in omega (arith, e))) (λ apart. apart)

init_stays : (store : Store) (rel : Relation) → pages_of (without_fork store (main_fork rel)) (init_fork rel) ≡ pages_of store (init_fork rel)
unfolding is_same_fork
init_stays store rel = ap (λ (o : Option ForkPages). unwrap_or o []) (get-remove fork_cmp_total store (main_fork rel) (init_fork rel) ∙ ap (λ b. cond b None (get store (init_fork rel))) (other_fork rel))

pub counted_drop : (store : Store) (rel : Relation) (gone main init : ℕ) → main ≡ length (pages_of store (main_fork rel)) → init ≡ length (pages_of store (init_fork rel)) → gone ≡ main + init → IsCounted store (op.Drop rel) 0 gone
counted_drop store rel gone main init main_is init_is gone_is end next e =
    omega (arith, gone_pages store (main_fork rel), gone_pages (without_fork store (main_fork rel)) (init_fork rel), ap length (init_stays store rel), main_is, init_is, gone_is, ap (λ (o : Option Store). page_count (unwrap_or o store)) e)

-- a fork without a count isn't there
pub no_count : (store : Store) (fork : ForkId) → is_some (block_count store fork) ≡ false → get store fork ≡ None
no_count store fork e = go (get store fork) e
  where
    go : (o : Option ForkPages) → is_some (option_map length o) ≡ false → o ≡ None
    go None e = refl
    go (Some pages) e = absurd cc
