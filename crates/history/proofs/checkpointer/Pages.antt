-- Items with a page for each.
use Rattle.std.proofs.Common.{◌≡◌, ℕ, zero, suc, ◌+◌, ◌<◌, ◌≤◌, ◌^◌, pos, List, [], ◌∷◌, ◌++◌, map, length, get_or, take, refl, ap, sym, ◌∙◌, arith}
use Rattle.std.specs.List.{All}
use Rattle.std.specs.Int.{w64}
use Rattle.std.proofs.lemmas.Int.{fits_signed_from_abs}
use Rattle.std.proofs.lemmas.List.Elements.{All-nil, All-cons}
use Rattle.lsn_core.specs.Relation.{Relation}
use Rattle.wal_record.specs.declared.record.Kind.TheVariants.{Commit}
use Rattle.wal_record.specs.Spelling.{IsRelation, IsWritable}
use Rattle.std.proofs.lemmas.List.{take_all}
use Rattle.lsn_core.specs.Store.{Store}
use Rattle.history.specs.declared.op.Item.{Item}
use Rattle.history.specs.Op.{AreFit, IsFitItem, IsFitOver}
use Rattle.history.specs.Written.{block_over, block_of_item}
use Rattle.history.proofs.Pushes.{all_first, all_rest}
use Rattle.history.specs.checkpointer.Changes.{blocks_over, EachIsFitOver, AreFitOver}
use Rattle.history.specs.checkpointer.Laws.{pages_before, ChangesAreWrittenByPages, FitChangesHavePages}

-- there are as many pages as items
pub same_length : (items : List Item) (olds : List (List ℕ)) → EachIsFitOver items olds → length olds ≡ length items
same_length [] [] e = refl
same_length [] (old ∷ olds) e = elim e [ ]
same_length (item ∷ items) [] e = elim e [ ]
same_length (item ∷ items) (old ∷ olds) e = ap suc (same_length items olds e.1)

-- each item is fit over its page
pub fit_at : (items : List Item) (olds : List (List ℕ)) → EachIsFitOver items olds → (i : ℕ) (d : Item) (p : List ℕ) → i < length items → IsFitOver (get_or items i d) (get_or olds i p)
fit_at [] [] e i d p l = absurd (omega arith)
fit_at [] (old ∷ olds) e i d p l = elim e [ ]
fit_at (item ∷ items) [] e i d p l = elim e [ ]
fit_at (item ∷ items) (old ∷ olds) e zero d p l = e.0
fit_at (item ∷ items) (old ∷ olds) e (suc i) d p l = fit_at items olds e.1 i d p (omega arith)

-- one block more
block_next : (redo : ℕ) (items : List Item) (olds : List (List ℕ)) → EachIsFitOver items olds → (i : ℕ) (item : Item) (p : List ℕ) → i < length items → item ≡ get_or items i item
    → blocks_over redo (take (suc i) items) (take (suc i) olds) ≡ blocks_over redo (take i items) (take i olds) ++ (block_over redo item (get_or olds i p) ∷ [])
block_next redo [] [] e i x p l is = absurd (omega arith)
block_next redo [] (old ∷ olds) e i x p l is = elim e [ ]
block_next redo (item ∷ items) [] e i x p l is = elim e [ ]
block_next redo (item ∷ items) (old ∷ olds) e zero x p l is = ap (λ (y : Item). block_over redo y old ∷ []) (sym is)
block_next redo (item ∷ items) (old ∷ olds) e (suc i) x p l is = ap (λ bs. block_over redo item old ∷ bs) (block_next redo items olds e.1 i x p (omega arith) is)

pub block_more : (redo : ℕ) (items : List Item) (olds : List (List ℕ)) → EachIsFitOver items olds → (i : ℕ) (item : Item) (p : List ℕ) → i < length items → item ≡ get_or items i item
    → blocks_over redo (take (i + 1) items) (take (i + 1) olds) ≡ blocks_over redo (take i items) (take i olds) ++ (block_over redo item (get_or olds i p) ∷ [])
block_more redo items olds e i item p l is =
    let one : i + 1 ≡ suc i = omega arith in
    ap (λ n. blocks_over redo (take n items) (take n olds)) one ∙ block_next redo items olds e i item p l is

-- there are as many blocks as items
pub length_over : (redo : ℕ) (items : List Item) (olds : List (List ℕ)) → EachIsFitOver items olds → length (blocks_over redo items olds) ≡ length items
length_over redo [] [] e = refl
length_over redo [] (old ∷ olds) e = elim e [ ]
length_over redo (item ∷ items) [] e = elim e [ ]
length_over redo (item ∷ items) (old ∷ olds) e = ap suc (length_over redo items olds e.1)

-- all blocks
pub all_blocks : (redo : ℕ) (items : List Item) (olds : List (List ℕ)) (i : ℕ) → length olds ≡ length items → length items ≤ i
    → blocks_over redo (take i items) (take i olds) ≡ blocks_over redo items olds
all_blocks redo items olds i same all =
    ap (λ is. blocks_over redo is (take i olds)) (take_all i items all) ∙ ap (blocks_over redo items) (take_all i olds (omega (arith, same, all)))

pub by_pages : ChangesAreWrittenByPages
by_pages store redo [] = refl
by_pages store redo (item ∷ items) = ap (λ bs. block_of_item store redo item ∷ bs) (by_pages store redo items)

each_fit : (store : Store) (items : List Item) → All (IsFitItem store) items → EachIsFitOver items (pages_before store items)
each_fit store [] all = tt
each_fit store (item ∷ items) all =
    (all_first (IsFitItem store) item items all, each_fit store items (all_rest (IsFitItem store) item items all))

pub have_pages : FitChangesHavePages
have_pages store items fit = record { some = fit.some; most = fit.most; each = each_fit store items fit.each }

-- a drop of a relation can be written
pub drop_writable : (rel : Relation) → (0 < rel.db) × (0 < rel.rel) → (rel.db < 2 ^ 32) × (rel.rel < 2 ^ 32) → IsWritable (Commit (pos 0) (rel ∷ []))
drop_writable rel some fits =
    let is : IsRelation rel = record { some = some; fits = fits } in
    (fits_signed_from_abs w64 (pos 0) (omega arith), (All-cons IsRelation rel [] is (All-nil IsRelation), omega arith))
