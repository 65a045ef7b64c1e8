-- The greatest of the ends of what isn't written.
use Rattle.std.proofs.Common.{◌≡◌, ℕ, suc, ◌+◌, ◌<◌, max, List, [], ◌∷◌, ◌++◌, map, fold, take, length, get_or, Option, Some, None, refl, ap, sym, ◌∙◌, arith, append-nil}
use Rattle.std.specs.List.{reduce, filter_map}
use Rattle.std.proofs.Math.Seq.{take-suc}
use Rattle.std.proofs.lemmas.List.Elements.{filter_map-append}
use Rattle.lsn_core.specs.declared.ids.BlockId.{BlockId}
use Rattle.page_frames.specs.Framed.{Framed}
use Rattle.page_frames.specs.Marks.{all_dirty_ends, touch_end}
use Rattle.page_frames.specs.Overlay.{marks_over}
use Rattle.page_pool.specs.Room.{ends_at, newest_written}
use Rattle.page_pool.specs.declared.work.Pending.{Pending}
use Rattle.page_pool.specs.Part.{Part, newest_end}
use Rattle.page_pool.specs.Writing.{later_end}

-- ---- the greatest of some ends

fold_max : (a y : ℕ) (ys : List ℕ) → fold max (max a y) ys ≡ max a (fold max y ys)
fold_max a y [] = refl
fold_max a y (z ∷ zs) = let same : max (max a y) z ≡ max a (max y z) = omega arith in ap (λ (k : ℕ). fold max k zs) same ∙ fold_max a (max y z) zs

fold_split : (a : ℕ) (xs : List ℕ) (y : ℕ) (ys : List ℕ) → fold max a (xs ++ (y ∷ ys)) ≡ fold max (max (fold max a xs) y) ys
fold_split a [] y ys = refl
fold_split a (x ∷ xs) y ys = fold_split (max a x) xs y ys

pub later_append : (xs ys : List ℕ) → reduce max (xs ++ ys) ≡ later_end (reduce max xs) (reduce max ys)
later_append [] ys = refl
later_append (x ∷ xs) [] = ap (reduce max) (append-nil (x ∷ xs))
later_append (x ∷ xs) (y ∷ ys) = ap (λ (k : ℕ). Some k) (fold_split x xs y ys ∙ fold_max (fold max x xs) y ys)

-- ---- of some blocks

one_end : (f : Framed) (at : BlockId) → reduce max (ends_at f (at ∷ [])) ≡ touch_end (marks_over f) at.fork at.block
one_end f at = by (touch_end (marks_over f) at.fork at.block) refl
  where
    by : (o : Option ℕ) → touch_end (marks_over f) at.fork at.block ≡ o → reduce max (ends_at f (at ∷ [])) ≡ touch_end (marks_over f) at.fork at.block
    by None is = ap (λ (o : Option ℕ). reduce max (filter_map (λ (x : Option ℕ). x) (o ∷ []))) is ∙ sym is
    by (Some end) is = ap (λ (o : Option ℕ). reduce max (filter_map (λ (x : Option ℕ). x) (o ∷ []))) is ∙ sym is

-- one block more
pub newest_more : (f : Framed) (blocks : List BlockId) (i : ℕ) (at : BlockId) (end : Option ℕ) → i < length blocks → at ≡ get_or blocks i at → end ≡ touch_end (marks_over f) at.fork at.block
    → later_end (reduce max (ends_at f (take i blocks))) end ≡ reduce max (ends_at f (take (i + 1) blocks))
newest_more f blocks i at end less is end_is =
    let next : i + 1 ≡ suc i = omega arith in
    let more : take (i + 1) blocks ≡ take i blocks ++ (at ∷ []) = ap (λ (k : ℕ). take k blocks) next ∙ take-suc blocks i at less ∙ ap (λ (x : BlockId). take i blocks ++ (x ∷ [])) (sym is) in
    ap (later_end (reduce max (ends_at f (take i blocks)))) (end_is ∙ sym (one_end f at))
    ∙ sym (later_append (ends_at f (take i blocks)) (ends_at f (at ∷ [])))
    ∙ ap (reduce max) (sym (filter_map-append (λ (b : BlockId). touch_end (marks_over f) b.fork b.block) (take i blocks) (at ∷ [])))
    ∙ ap (λ (bs : List BlockId). reduce max (ends_at f bs)) (sym more)

-- of works and of pages that are written behind them
pub room_is : (works : List Pending) (ends : List ℕ) (pages : ℕ) (r newest found : Option ℕ) → found ≡ Some pages → found ≡ reduce max ends → newest ≡ reduce max (map (λ (w : Pending). w.end.0) works) → r ≡ later_end newest (Some pages) → r ≡ newest_written works ends
room_is works [] pages r newest found is all works_are e = absurd (let no : Some pages ≡ None = sym is ∙ all in cc)
room_is works (end ∷ ends) pages r newest found is all works_are e =
    e ∙ ap (λ (o : Option ℕ). later_end o (Some pages)) works_are ∙ ap (later_end (reduce max (map (λ (w : Pending). w.end.0) works))) (sym is ∙ all)
    ∙ sym (later_append (map (λ (w : Pending). w.end.0) works) (end ∷ ends))

-- ---- of a partition

pub newest_is : (part : Part) (r a b : Option ℕ) (works : List Pending) → r ≡ later_end a b → a ≡ reduce max (map (λ (w : Pending). w.end.0) works) → works ≡ part.works → b ≡ reduce max (all_dirty_ends part.marks) → r ≡ newest_end part
newest_is part r a b works is first same second =
    let f : Pending → ℕ = λ w. w.end.0 in
    is ∙ ap (λ (x : Option ℕ). later_end x b) (first ∙ ap (λ (ws : List Pending). reduce max (map f ws)) same) ∙ ap (λ (x : Option ℕ). later_end (reduce max (map f part.works)) x) second
    ∙ sym (later_append (map f part.works) (all_dirty_ends part.marks))
