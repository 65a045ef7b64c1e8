-- The changes that an area keeps, cut in two at the last sync.
use Rattle.std.proofs.Common.{◌≡◌, ℕ, ◌+◌, ◌<◌, false, List, [], ◌∷◌, ◌++◌, length, get_or, take, drop, map, reverse, refl, sym, ap, ◌∙◌}
use Rattle.std.proofs.lemmas.List.{take_more, drop_more, map-append, reverse-append}
use Rattle.std.specs.FinMap.{empty}
use Rattle.lsn_core.specs.Files.{Files}
use Rattle.vault.specs.Record.{Change, seen_change, changes_of, files_by, is_sync}
use Rattle.memory_vault.specs.Stopped.{left_of, left_since, left_by, IsSplitAt}
use Rattle.vault.specs.declared.change.Change.{Change as Kept}
use Rattle.vault.specs.declared.change.Change.TheVariants.{Wrote, Cut, Removed, Synced}
use Rattle.memory_vault.specs.declared.stopped.Pick.{Pick}
use Rattle.memory_vault.specs.declared.stopped.Pick.TheVariants.{All}
use Rattle.memory_vault.proofs.Honest.{left_after, all_again}

changes_newest : (kept : List Kept) (last : Kept) → changes_of (kept ++ last ∷ []) ≡ seen_change last ∷ changes_of kept
changes_newest kept last = ap reverse (map-append seen_change kept (last ∷ [])) ∙ reverse-append (map seen_change kept) (seen_change last ∷ [])

changes_oldest : (first : Kept) (kept : List Kept) → changes_of (first ∷ kept) ≡ changes_of kept ++ seen_change first ∷ []
changes_oldest first kept = reverse-append (seen_change first ∷ []) (map seen_change kept)

left_by_newest : (pick : Pick) (last : Kept) (earlier : List Change) → is_sync last ≡ false → left_by pick (seen_change last ∷ earlier) ≡ left_of pick (seen_change last) (left_by pick earlier)
left_by_newest pick (Wrote name at piece) earlier open_ = refl
left_by_newest pick (Cut name size) earlier open_ = refl
left_by_newest pick (Removed name) earlier open_ = refl
left_by_newest pick Synced earlier open_ = absurd cc

-- the cut may stand one change earlier, where that change is no sync
pub earlier_cut : (pick : Pick) (kept : List Kept) (n : ℕ) (d : Kept) → n < length kept → is_sync (get_or kept n d) ≡ false
    → left_by pick (changes_of kept) ≡ left_since pick (changes_of (drop (n + 1) kept)) (left_by pick (changes_of (take (n + 1) kept)))
    → left_by pick (changes_of kept) ≡ left_since pick (changes_of (drop n kept)) (left_by pick (changes_of (take n kept)))
earlier_cut pick kept n d lt none is =
    let x = get_or kept n d in
    let rest = changes_of (drop (n + 1) kept) in
    is
    ∙ ap (λ (l : List Change). left_since pick rest (left_by pick l)) (ap changes_of (take_more kept n d lt) ∙ changes_newest (take n kept) x)
    ∙ ap (left_since pick rest) (left_by_newest pick x (changes_of (take n kept)) none)
    ∙ sym (left_after pick rest (seen_change x) (left_by pick (changes_of (take n kept))))
    ∙ ap (λ (l : List Change). left_since pick l (left_by pick (changes_of (take n kept)))) (sym (ap changes_of (drop_more kept n d lt) ∙ changes_oldest x (drop (n + 1) kept)))

-- the files of a new area on which the changes up to the cut were made, and what is picked of the others
pub stopped_files : (n : ℕ) (pick : Pick) (kept front back : List Kept) (changes : List Change) (new whole left : Files) → changes_of kept ≡ changes → IsSplitAt n kept → front ≡ take n kept → back ≡ drop n kept → new ≡ empty → whole ≡ left_since All (changes_of front) new → left ≡ left_since pick (changes_of back) whole → left ≡ left_by pick changes
stopped_files n pick kept front back changes new whole left seen cut_at is_front is_back none first second =
    let all : whole ≡ files_by (changes_of (take n kept)) =
    first
    ∙ ap (left_since All (changes_of front)) none
    ∙ all_again (changes_of front)
    ∙ ap (λ (l : List Kept). files_by (changes_of l)) is_front in
    second
    ∙ ap (left_since pick (changes_of back)) all
    ∙ ap (λ (l : List Kept). left_since pick (changes_of l) (files_by (changes_of (take n kept)))) is_back
    ∙ sym (cut_at pick)
    ∙ ap (left_by pick) seen
