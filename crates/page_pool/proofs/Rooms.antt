-- Room that is made: nothing is written where no victim is dirty.
use Rattle.std.proofs.Common.{◌≡◌, ℕ, false, List, [], ◌∷◌, ◌++◌, Option, Some, None, is_some, refl, ap, sym, subst, ◌∙◌}
use Rattle.std.specs.List.{All, filter_map}
use Rattle.std.proofs.lemmas.List.Elements.{All-nil, All-cons, filter_map-append}
use Rattle.lsn_core.specs.declared.ids.BlockId.{BlockId}
use Rattle.page_frames.specs.Marks.{DirtyMarks, touch_end, is_dirty}
use Rattle.page_frames.specs.Framed.{Framed}
use Rattle.page_frames.specs.Overlay.{marks_over}
use Rattle.page_pool.specs.declared.work.Pending.{Pending}
use Rattle.page_pool.specs.Part.{Part}
use Rattle.page_pool.specs.Room.{ends_at, newest_written, room_victims, room_end}
use Rattle.page_pool.specs.Writing.{AreClean}

no_end : (works : List Pending) (ends : List ℕ) → newest_written works ends ≡ None → ends ≡ []
no_end works [] none = refl
no_end [] (end ∷ ends) none = absurd cc
no_end (w ∷ works) (end ∷ ends) none = absurd cc

abbrev AllClean : Framed → List BlockId → Type 0
AllClean f blocks = All (λ (at : BlockId). is_dirty (marks_over f) at.fork at.block ≡ false) blocks

-- of the first block, and what is known of the others
first_clean : (f : Framed) (at : BlockId) (blocks : List BlockId) (o : Option ℕ) → touch_end (marks_over f) at.fork at.block ≡ o → (ends_at f blocks ≡ [] → AllClean f blocks) → ends_at f (at ∷ blocks) ≡ [] → AllClean f (at ∷ blocks)
first_clean f at blocks None is rest none =
    All-cons (λ (at : BlockId). is_dirty (marks_over f) at.fork at.block ≡ false) at blocks (ap (λ (o : Option ℕ). is_some o) is)
    (rest (sym (ap (λ (o : Option ℕ). filter_map (λ (x : Option ℕ). x) (o ∷ []) ++ ends_at f blocks) is) ∙ split ∙ none))
  where
    split : filter_map (λ (x : Option ℕ). x) (touch_end (marks_over f) at.fork at.block ∷ []) ++ ends_at f blocks ≡ ends_at f (at ∷ blocks)
    split = sym (filter_map-append (λ (b : BlockId). touch_end (marks_over f) b.fork b.block) (at ∷ []) blocks)
first_clean f at blocks (Some end) is rest none =
    absurd (let no : end ∷ ends_at f blocks ≡ [] = sym (ap (λ (o : Option ℕ). filter_map (λ (x : Option ℕ). x) (o ∷ []) ++ ends_at f blocks) is) ∙ split ∙ none in cc)
  where
    split : filter_map (λ (x : Option ℕ). x) (touch_end (marks_over f) at.fork at.block ∷ []) ++ ends_at f blocks ≡ ends_at f (at ∷ blocks)
    split = sym (filter_map-append (λ (b : BlockId). touch_end (marks_over f) b.fork b.block) (at ∷ []) blocks)

no_ends : (f : Framed) (blocks : List BlockId) → ends_at f blocks ≡ [] → AllClean f blocks
no_ends f [] none = All-nil (λ (at : BlockId). is_dirty (marks_over f) at.fork at.block ≡ false)
no_ends f (at ∷ blocks) none = first_clean f at blocks (touch_end (marks_over f) at.fork at.block) refl (no_ends f blocks) none

pub none_dirty_victims : (f : Framed) (works : List Pending) (blocks victims : List BlockId) (after : Part) → victims ≡ room_victims f blocks → after.marks ≡ marks_over f → room_end f works blocks ≡ None → AreClean after victims
none_dirty_victims f works blocks victims after is marks none =
    subst (λ (bs : List BlockId). AreClean after bs) (sym is)
    (subst (λ (ms : DirtyMarks). All (λ (at : BlockId). is_dirty ms at.fork at.block ≡ false) (room_victims f blocks)) (sym marks)
    (no_ends f (room_victims f blocks) (no_end works (ends_at f (room_victims f blocks)) none)))
