-- An area in memory: what a read gives, and what is picked of the changes since the last sync, are among what a stop may leave.
use Rattle.std.proofs.Common.{◌≡◌, ℕ, ◌/◌, inl, inr, List, [], ◌∷◌, ◌++◌, length, Some, None, refl, ap, arith}
use Rattle.std.proofs.lemmas.List.{length-take, length-replicate}
use Rattle.std.specs.FinMap.{empty}
use Rattle.lsn_core.specs.Files.{Files}
use Rattle.vault.specs.Area.{IsTorn}
use Rattle.vault.specs.Stops.{MayLeave, IsCutTo, IsRemoved}
use Rattle.vault.specs.Record.{Change, wrote, cut, removed, changed, files_by, told}
use Rattle.memory_vault.specs.Stopped.{kept_piece, left_of, left_since, left_by}
use Rattle.memory_vault.specs.declared.stopped.Pick.{Pick}
use Rattle.memory_vault.specs.declared.stopped.Pick.TheVariants.{Nothing, All, FirstHalves, Noise}
use Rattle.vault.proofs.Torn.{written_is_torn, same_is_torn, shorter_is_torn}
use Rattle.vault.proofs.Undone.{same_is_cut, cut_is_cut, same_is_removed, removed_is_removed}

-- all that was done since the last sync is kept
pub whole_left : (changes : List Change) → MayLeave (told changes) (files_by changes)
whole_left [] = (empty, tt, (refl, refl))
whole_left (inl w ∷ earlier) = (files_by earlier, whole_left earlier, written_is_torn w.0 w.1.0 w.1.1 (files_by earlier))
whole_left (inr (inl k) ∷ earlier) = (files_by earlier, whole_left earlier, cut_is_cut k.0 k.1 (files_by earlier))
whole_left (inr (inr (Some name)) ∷ earlier) = (files_by earlier, whole_left earlier, removed_is_removed name (files_by earlier))
whole_left (inr (inr None) ∷ earlier) = (files_by earlier, whole_left earlier, (refl, refl))

-- what is kept of a change is among what a stop may make of it
left_write : (pick : Pick) (name : List ℕ) (at : ℕ) (piece : List ℕ) (files : Files) → IsTorn name at (length piece) files (left_of pick (wrote name at piece) files)
left_write Nothing name at piece files = same_is_torn name at (length piece) files
left_write All name at piece files = written_is_torn name at piece files
left_write FirstHalves name at piece files = shorter_is_torn name at (kept_piece FirstHalves piece) (length piece) files (omega (arith, length-take (length piece / 2) piece))
left_write Noise name at piece files = shorter_is_torn name at (kept_piece Noise piece) (length piece) files (omega (arith, length-replicate {A = ℕ} (length piece) 165))

left_cut : (pick : Pick) (name : List ℕ) (size : ℕ) (files : Files) → IsCutTo name size files (left_of pick (cut name size) files)
left_cut Nothing name size files = same_is_cut name size files
left_cut All name size files = cut_is_cut name size files
left_cut FirstHalves name size files = cut_is_cut name size files
left_cut Noise name size files = cut_is_cut name size files

left_removal : (pick : Pick) (name : List ℕ) (files : Files) → IsRemoved name files (left_of pick (removed name) files)
left_removal Nothing name files = same_is_removed name files
left_removal All name files = removed_is_removed name files
left_removal FirstHalves name files = removed_is_removed name files
left_removal Noise name files = removed_is_removed name files

-- what is kept of the changes since the last sync is among what a stop may leave
pub picked_left : (pick : Pick) (changes : List Change) → MayLeave (told changes) (left_by pick changes)
picked_left pick [] = (empty, tt, (refl, refl))
picked_left pick (inl w ∷ earlier) = (left_by pick earlier, picked_left pick earlier, left_write pick w.0 w.1.0 w.1.1 (left_by pick earlier))
picked_left pick (inr (inl k) ∷ earlier) = (left_by pick earlier, picked_left pick earlier, left_cut pick k.0 k.1 (left_by pick earlier))
picked_left pick (inr (inr (Some name)) ∷ earlier) = (left_by pick earlier, picked_left pick earlier, left_removal pick name (left_by pick earlier))
picked_left pick (inr (inr None) ∷ earlier) = (files_by earlier, whole_left earlier, (refl, refl))

-- all changes again
pub all_again : (changes : List Change) → left_since All changes empty ≡ files_by changes
all_again [] = refl
all_again (change ∷ earlier) = ap (changed change) (all_again earlier)

pub left_after : (pick : Pick) (newer : List Change) (change : Change) (files : Files) → left_since pick (newer ++ change ∷ []) files ≡ left_since pick newer (left_of pick change files)
left_after pick [] change files = refl
left_after pick (newest ∷ newer) change files = ap (left_of pick newest) (left_after pick newer change files)
