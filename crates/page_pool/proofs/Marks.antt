-- The mark of a block after acts and writes.
use Rattle.std.proofs.Common.{◌≡◌, ℕ, Bool, true, false, cond, ◌||◌, List, [], ◌∷◌, get_or, Option, Some, None, unwrap_or, is_some, refl, ap, sym, ◌∙◌, true≢false}
use Rattle.std.specs.List.{list_any}
use Rattle.std.specs.Ordering.{eq_by_cmp}
use Rattle.std.specs.FinMap.{get, remove, get-remove, contains_key}
use Rattle.lsn_core.specs.Relation.{Relation}
use Rattle.lsn_core.specs.Store.{Store, fork_cmp}
use Rattle.lsn_core.specs.Blocks.{without_fork}
use Rattle.lsn_core.proofs.ForkOrder.{fork_cmp_total}
use Rattle.lsn_core.specs.declared.ids.ForkId.{ForkId}
use Rattle.history.specs.declared.op.Item.{Item}
use Rattle.history.specs.Entry.{Act, Create, Truncate, Change, Drop, Mark}
use Rattle.history.specs.Apply.{main_fork, init_fork, is_same_fork, without_rel}
use Rattle.history.specs.fuzzy_copies.Touches.{is_at, act_touches, act_cuts}
use Rattle.page_frames.specs.Marks.{DirtyMarks, touch_end, is_dirty, touched}
use Rattle.page_frames.proofs.Marks.{mark_set, mark_cut, mark_made}
use Rattle.page_pool.specs.Steps.{items_touched, marks_without, marks_dropped, marks_after}

twice : (a c : Bool) (x y : Option ℕ) → cond c x (cond a x y) ≡ cond (a || c) x y
twice true true x y = refl
twice true false x y = refl
twice false true x y = refl
twice false false x y = refl

mark_touched : (end : ℕ) (marks : DirtyMarks) (items : List Item) (fork : ForkId) (b : ℕ) → touch_end (items_touched end marks items) fork b ≡ cond (list_any (is_at fork b) items) (Some end) (touch_end marks fork b)
mark_touched end marks [] fork b = refl
mark_touched end marks (item ∷ items) fork b =
    mark_touched end (touched end marks item.at) items fork b
    ∙ ap (λ (m : Option ℕ). cond (list_any (is_at fork b) items) (Some end) m) (mark_set marks item.at (Some end) fork b)
    ∙ twice (is_at fork b item) (list_any (is_at fork b) items) (Some end) (touch_end marks fork b)

-- an act that isn't a drop
abbrev pub IsNoDrop : Act → Type 0
IsNoDrop (Create made) = Unit
IsNoDrop (Truncate rel count) = Unit
IsNoDrop (Change items) = Unit
IsNoDrop (Drop rels) = ⊥
IsNoDrop (Mark marking) = Unit

-- after an act
pub mark_after : (end : ℕ) (frames : Store) (marks : DirtyMarks) (act : Act) (fork : ForkId) (b : ℕ) → IsNoDrop act → touch_end (marks_after end frames marks act) fork b ≡ cond (act_cuts fork b act) None (cond (act_touches fork b act) (Some end) (touch_end marks fork b))
mark_after end frames marks (Create made) fork b plain = mark_made marks made fork b
mark_after end frames marks (Truncate rel count) fork b plain = mark_cut marks (main_fork rel) count fork b
mark_after end frames marks (Change items) fork b plain = mark_touched end marks items fork b
mark_after end frames marks (Drop rels) fork b plain = absurd plain
mark_after end frames marks (Mark marking) fork b plain = refl

-- a fork's marks taken away
pub mark_gone : (marks : DirtyMarks) (gone fork : ForkId) (b : ℕ) → touch_end (remove marks gone) fork b ≡ cond (is_same_fork fork gone) None (touch_end marks fork b)
unfolding is_same_fork
mark_gone marks gone fork b =
    ap (λ (o : Option (List (Option ℕ))). get_or (unwrap_or o []) b None) (get-remove fork_cmp_total marks gone fork) ∙ go (eq_by_cmp fork_cmp fork gone)
  where
    go : (c : Bool) → get_or {A = Option ℕ} (unwrap_or (cond c None (get marks fork)) []) b None ≡ cond c None (get_or (unwrap_or (get marks fork) []) b None)
    go true = refl
    go false = refl

still_marked : (frames : Store) (marks : DirtyMarks) (gone fork : ForkId) (b end : ℕ) → touch_end (marks_without frames marks gone) fork b ≡ Some end → touch_end marks fork b ≡ Some end
still_marked frames marks gone fork b end = go (contains_key frames gone)
  where
    left : (c : Bool) (m : Option ℕ) → cond c None m ≡ Some end → m ≡ Some end
    left true m e = absurd cc
    left false m e = e

    go : (c : Bool) → touch_end (cond c (remove marks gone) marks) fork b ≡ Some end → touch_end marks fork b ≡ Some end
    go true e = left (is_same_fork fork gone) (touch_end marks fork b) (sym (mark_gone marks gone fork b) ∙ e)
    go false e = e

pub dropped_mark : (frames : Store) (marks : DirtyMarks) (rels : List Relation) (fork : ForkId) (b end : ℕ) → touch_end (marks_dropped frames marks rels) fork b ≡ Some end → touch_end marks fork b ≡ Some end
dropped_mark frames marks [] fork b end e = e
dropped_mark frames marks (rel ∷ rels) fork b end e =
    let main = main_fork rel in
    let first = marks_without frames marks main in
    still_marked frames marks main fork b end
    (still_marked (without_fork frames main) first (init_fork rel) fork b end
    (dropped_mark (without_rel frames rel) (marks_without (without_fork frames main) first (init_fork rel)) rels fork b end e))

untouched : (t : Bool) (end : ℕ) (m : Option ℕ) → is_some (cond t (Some end) m) ≡ false → (t ≡ false) × (is_some m ≡ false)
untouched true end m e = absurd (true≢false e)
untouched false end m e = (refl, e)

-- a block that is clean after an act, and that the act doesn't cut off, was clean before and isn't touched
pub clean_before : (end : ℕ) (frames : Store) (marks : DirtyMarks) (act : Act) (fork : ForkId) (b : ℕ) → IsNoDrop act → is_dirty (marks_after end frames marks act) fork b ≡ false → act_cuts fork b act ≡ false → (act_touches fork b act ≡ false) × (is_dirty marks fork b ≡ false)
clean_before end frames marks act fork b plain clean uncut =
    untouched (act_touches fork b act) end (touch_end marks fork b)
    (sym (ap (λ (m : Option ℕ). is_some m) (mark_after end frames marks act fork b plain ∙ ap (λ c. cond c None (cond (act_touches fork b act) (Some end) (touch_end marks fork b))) uncut)) ∙ clean)
