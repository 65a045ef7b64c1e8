-- What is known of a partition as it is held, and what reads leave of it.
use Rattle.std.proofs.Common.{◌≡◌, ℕ, List, Option, Some, None, IsSome, IfSome, length, unwrap_or, option_map, Result, Ok, Err, IfOk, refl, ap, sym, subst, ◌∙◌}
use Rattle.std.specs.FinMap.{get}
use Rattle.lsn_core.specs.declared.ids.BlockId.{BlockId}
use Rattle.lsn_core.specs.Files.{Files}
use Rattle.lsn_core.specs.Store.{Store}
use Rattle.vault.specs.declared.area.Vault.{Ghosts}
use Rattle.rel_files.specs.Forks.{Holds}
use Rattle.rel_files.proofs.ZeroPages.{zero_size}
use Rattle.rel_files.specs.Shown.{AreFilesOf, HoldsStore, HoldAlike}
use Rattle.page_frames.specs.Framed.{Held, AreFramed}
use Rattle.page_frames.proofs.Overlays.{found_there}
use Rattle.page_pool.specs.declared.partition.Partition.TheInside.{Inside}
use Rattle.page_pool.specs.Told.{told_page}
use Rattle.page_pool.specs.Partition.{pages_in, part_in, IsPartition}
use Rattle.page_pool.specs.Calls.{AreWholePages, HoldsPart, IsHeld}

-- what an answer has of one fact, it has of another
pub ok_map : {T E : Type 0} (r : Result T E) (P Q : T → Type 0) → ((x : T) → P x → Q x) → IfOk r P → IfOk r Q
ok_map (Ok x) P Q f p = f x p
ok_map (Err e) P Q f p = tt

pub is_told : {X : Type 0} (o : Option X) (x : X) → o ≡ Some x → IsSome o
is_told {X = X} o x e = subst (λ (p : Option X). IsSome p) (sym e) refl

pub known : {V : Type 0} {Q : ℕ} (g : Ghosts V) (p : Inside V Q) → IsPartition g p → IsHeld (part_in g p)
known {V = V} {Q = Q} g p inv = by (g.files p.disk.area) refl
  where
    by : (o : Option Files) → g.files p.disk.area ≡ o → IfSome o (HoldsPart (part_in g p))
    by None e = tt
    by (Some files) e =
        let h = inv.holds (is_told (g.files p.disk.area) files e) in
        let told = h.held.files in
        let same : told.files ≡ files = let both : Some told.files ≡ Some files = sym told.are_told ∙ e in cc in
        record { raw = h.raw; held = subst (λ (f : Files). Holds p.disk.relseg f h.raw) same told.hold; lacks = h.lacks }

-- each page has 8192 bytes; those of an area that doesn't tell its files are zeros
pub whole_pages : {V : Type 0} {Q : ℕ} (g : Ghosts V) (p : Inside V Q) → AreFramed p.frames → IsPartition g p → AreWholePages (pages_in g p)
whole_pages g p framed inv = by (g.files p.disk.area) refl
  where
    size : (at : BlockId) (o : Option Held) → get p.frames.held at ≡ o → g.files p.disk.area ≡ None → length (unwrap_or (option_map (λ h. h.page) o) (told_page p.disk.relseg (g.files p.disk.area) at)) ≡ 8192
    size at (Some held) is e = framed.whole at held is
    size at None is e = ap (λ (o : Option Files). length (told_page p.disk.relseg o at)) e ∙ zero_size

    by : (o : Option Files) → g.files p.disk.area ≡ o → AreWholePages (pages_in g p)
    by None e = λ fork block page there.
        let at : BlockId = record { fork = fork; block = block } in
        let found = found_there (told_page p.disk.relseg (g.files p.disk.area)) p.frames at page there in
        ap (λ (x : List ℕ). length x) (sym found.1) ∙ size at (get p.frames.held at) refl e
    by (Some files) e = (inv.holds (is_told (g.files p.disk.area) files e)).whole

-- each store that the files hold is held with the lengths that are known
pub each_held : {V : Type 0} {Q : ℕ} (g : Ghosts V) (p : Inside V Q) → IsPartition g p → HoldAlike g p.disk → (s : Store) → AreFilesOf p.disk.relseg (g.files p.disk.area) s → HoldsStore g p.disk s
each_held g p inv alike s told =
    let h = inv.holds (is_told (g.files p.disk.area) told.files told.are_told) in
    alike h.raw s h.held told
