-- Relations of a part that are taken away in the part and in the whole store: as many pages go.
use Rattle.std.proofs.Common.{◌≡◌, ℕ, ◌+◌, Bool, true, false, cond, List, [], ◌∷◌, Option, None, length, refl, ap, sym, ◌∙◌, arith}
use Rattle.std.specs.FinMap.{get, get-remove}
use Rattle.std.specs.List.{list_any}
use Rattle.std.specs.Ordering.{eq_by_cmp}
use Rattle.std.proofs.lemmas.Bool.{or_parts}
use Rattle.lsn_core.specs.Relation.{Relation}
use Rattle.lsn_core.specs.declared.ids.ForkId.{ForkId}
use Rattle.lsn_core.specs.Store.{Store, ForkPages, fork_cmp}
use Rattle.lsn_core.specs.Blocks.{without_fork}
use Rattle.lsn_core.proofs.ForkOrder.{fork_cmp_total}
use Rattle.history.specs.Apply.{main_fork, init_fork, is_same_fork, without_rel, without_rels}
use Rattle.history.specs.Pages.{page_count}
use Rattle.history.proofs.Counts.{moved_remove}
use Rattle.history.specs.partitions.Parts.{is_of, is_rel_of, IsPart}
use Rattle.history.proofs.partitions.Puts.{pages_own}
use Rattle.history.proofs.partitions.OwnActs.{own_rel}

swapped : (a b : Bool) (o : Option ForkPages) → cond a None (cond b o None) ≡ cond b (cond a None o) None
swapped true true o = refl
swapped true false o = refl
swapped false true o = refl
swapped false false o = refl

-- the part without a fork is the store's without it
removed_own : (q : ℕ) (store part : Store) (gone : ForkId) → IsPart q store part → IsPart q (without_fork store gone) (without_fork part gone)
unfolding is_same_fork
removed_own q store part gone is fork =
    get-remove fork_cmp_total part gone fork ∙ ap (λ (o : Option ForkPages). cond (eq_by_cmp fork_cmp fork gone) None o) (is fork)
    ∙ swapped (eq_by_cmp fork_cmp fork gone) (is_of q fork) (get store fork)
    ∙ ap (λ (o : Option ForkPages). cond (is_of q fork) o None) (sym (get-remove fork_cmp_total store gone fork))

fork_counts : (q : ℕ) (store part : Store) (gone : ForkId) → IsPart q store part → is_of q gone ≡ true → page_count (without_fork store gone) + page_count part ≡ page_count store + page_count (without_fork part gone)
fork_counts q store part gone is mine =
    omega (arith, moved_remove part gone, moved_remove store gone, ap length (pages_own q store part gone is mine), ap length (pages_own q (without_fork store gone) (without_fork part gone) gone (removed_own q store part gone is) mine))

pub rels_count : (q : ℕ) (store part : Store) (rels : List Relation) → IsPart q store part → ((other : ℕ) → (other ≡ q → ⊥) → list_any (is_rel_of other) rels ≡ false) → page_count (without_rels store rels) + page_count part ≡ page_count store + page_count (without_rels part rels)
rels_count q store part [] is none = refl
rels_count q store part (rel ∷ rels) is none =
    let mine = own_rel q rel (λ other k. (or_parts (is_rel_of other rel) (list_any (is_rel_of other) rels) (none other k)).0) in
    let main = main_fork rel in
    let init = init_fork rel in
    let one = removed_own q store part main is in
    let two = removed_own q (without_fork store main) (without_fork part main) init one in
    let first = fork_counts q store part main is mine in
    let second = fork_counts q (without_fork store main) (without_fork part main) init one mine in
    let rest = rels_count q (without_rel store rel) (without_rel part rel) rels two (λ other k. (or_parts (is_rel_of other rel) (list_any (is_rel_of other) rels) (none other k)).1) in
    omega (arith, first, second, rest)
