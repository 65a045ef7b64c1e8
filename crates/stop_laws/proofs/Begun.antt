-- A partition whose files hold its pages, durably, begins its window anew.
use Rattle.std.proofs.Common.{◌≡◌, ℕ, suc, ◌<◌, true, false, List, [], ◌∷◌, ◌++◌, length, map, is_some, IsSome, IfSome, Option, Some, None, true≢false, refl, sym, ap, subst, ◌∙◌}
use Rattle.std.specs.Prelude.{slice_get}
use Rattle.std.specs.List.{All, list_any}
use Rattle.std.proofs.lemmas.List.Elements.{All-nil, All-cons}
use Rattle.std.specs.FinMap.{empty}
use Rattle.lsn_core.specs.byte_words.Numbers.{◌>>=◌}
use Rattle.lsn_core.specs.declared.ids.ForkId.{ForkId}
use Rattle.lsn_core.specs.Files.{Files}
use Rattle.lsn_core.specs.Store.{Store, ForkPages}
use Rattle.lsn_core.specs.Blocks.{block_of}
use Rattle.vault.specs.Frame.{LeavesNow}
use Rattle.vault.specs.Stops.{Event}
use Rattle.rel_files.specs.Forks.{Holds, HasWholePages}
use Rattle.history.specs.Entry.{Entry}
use Rattle.history.specs.Apply.{apply_all}
use Rattle.history.specs.partitions.Parts.{is_of, part_of, IsPart, concerns}
use Rattle.history.proofs.partitions.Puts.{own}
use Rattle.history.specs.fuzzy_copies.Touches.{resets}
use Rattle.history.specs.fuzzy_copies.Taken.{since}
use Rattle.history.proofs.fuzzy_copies.Kept.{entries_keep, forks_keep}
use Rattle.stop_areas.specs.Left.{Base, HasWhatStays, IsLeftOf}
use Rattle.stop_areas.proofs.Held.{held_left}
use Rattle.page_pool.specs.Part.{Part}
use Rattle.page_pool.specs.Calls.{AreWholePages, HoldsFrames}
use Rattle.page_pool.specs.Facts.{Follows}
use Rattle.page_pool.specs.Stops.{RawKeeps}
use Rattle.page_pool.proofs.Followed.{told}
use Rattle.stop_laws.specs.Window.{IsWindow, window_base}
use Rattle.stop_laws.specs.Laws.{CleanPartitionsBeginWindows}
use Rattle.stop_laws.proofs.Touched.{part_now, others_reset, others_settle}

all_by : (P : List ℕ → Type 0) (pages : ForkPages) → ((block : ℕ) (page : List ℕ) → slice_get pages block ≡ Some page → P page) → All P pages
all_by P [] each = All-nil P
all_by P (page ∷ pages) each = All-cons P page pages (each 0 page refl) (all_by P pages (λ block other at. each (suc block) other at))

whole_store : (store : Store) → AreWholePages store → HasWholePages store
whole_store store whole fork pages there =
    all_by (λ page. length page ≡ 8192) pages (λ block page at. whole fork block page (ap (λ (o : Option ForkPages). o >>= λ ps. slice_get ps block) there ∙ at))

-- what durable files leave
durable_left : (P : Files → Type 0) (told : Option Files) (files : Files) (past : Option (List Event)) → told ≡ Some files → IfSome told (λ m. LeavesNow (λ left. left ≡ m) past) → P files → LeavesNow P past
durable_left P told files past is durable has = by past (subst (λ (o : Option Files). IfSome o (λ m. LeavesNow (λ left. left ≡ m) past)) is durable)
  where
    by : (o : Option (List Event)) → LeavesNow (λ left. left ≡ files) o → LeavesNow P o
    by None leaves = tt
    by (Some events) leaves = λ left may. subst P (sym (leaves left may)) has

module _ (q : ℕ) (known later : List Entry) (store mid now : Store) (part : Part) (some : 0 < part.relseg) (w : IsWindow part.point known later store mid now) (none : list_any (concerns q) later ≡ false) (follows : Follows q (known ++ later) part) (tells : IsSome part.disk)
    (whole : AreWholePages part.frames) (held : HoldsFrames part) where
  abbrev entries : List Entry
  entries = since part.point known

  abbrev base : Base
  base = window_base q part.point known store

  frames_are : IsPart q now part.frames
  frames_are = part_now q (known ++ later) part.frames now w.made (told part.disk (apply_all empty (map (part_of q) (known ++ later)) ≡ Some part.frames) tells follows.made)

  same_block : (fork : ForkId) (block : ℕ) → is_of q fork ≡ true → list_any (resets fork block) entries ≡ false → block_of part.frames fork block ≡ block_of store fork block
  same_block fork block mine kept =
      ap (λ (o : Option ForkPages). o >>= λ ps. slice_get ps block) (own q now part.frames fork frames_are mine)
      ∙ entries_keep mid now later fork block w.tidy_rest w.rest (others_reset q fork block later mine none) ∙ entries_keep store mid entries fork block w.tidy w.done kept

  has : HasWhatStays base part.frames
  has = record {
    pages = λ fork block page stays. same_block fork block stays.ours stays.kept ∙ stays.there;
    missing = λ fork block stays. same_block fork block stays.ours stays.kept ∙ stays.none;
    forks = λ fork mine unsettled.
        ap (λ (o : Option ForkPages). is_some o) (own q now part.frames fork frames_are mine)
        ∙ forks_keep mid now later fork w.tidy_rest w.rest (others_settle q fork later mine none) ∙ forks_keep store mid entries fork w.tidy w.done unsettled;
  }

  by : (o : Option Files) → part.disk ≡ o → IsSome o → IfSome o (λ files. Holds part.relseg files part.frames) → IfSome part.disk (λ files. LeavesNow (λ left. left ≡ files) part.past)
      → RawKeeps base part × LeavesNow (IsLeftOf part.relseg base) part.past
  by None is told holds durable = absurd (true≢false (sym told))
  by (Some files) is told holds durable = (
    record {
      raw = part.frames;
      held = record { files = files; are_told = is; hold = holds };
      pages = λ fork block page stays. let at = same_block fork block stays.ours stays.kept ∙ stays.there in (at, whole fork block page at);
    },
    durable_left (IsLeftOf part.relseg base) part.disk files part.past is durable (held_left part.relseg base part.frames files some holds (whole_store part.frames whole) has),
  )

pub begin_windows : CleanPartitionsBeginWindows
begin_windows q known later store mid now part some w none follows tells whole held durable =
    by q known later store mid now part some w none follows tells whole held part.disk refl tells held durable
