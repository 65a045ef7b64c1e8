-- What is known of rows, place by place.
use Rattle.std.proofs.Common.{◌≡◌, ℕ, zero, suc, ◌+◌, Bool, List, [], ◌∷◌, drop, replicate, Option, None, arith, slice_index_or, slice_set}
use Rattle.std.specs.Prelude.{slice_get}
use Rattle.lsn_core.specs.Files.{Files}
use Rattle.manifest.specs.declared.listing.FileRow.{FileRow}
use Rattle.file_sums.specs.LaneSums.{Knows, AreKnown, KnowsRow}

pub nothing_known : (m : Files) (rows : List FileRow) (n : ℕ) → AreKnown m rows (replicate n None)
nothing_known m [] n = tt
nothing_known m (row ∷ rows) zero = tt
nothing_known m (row ∷ rows) (suc n) = (tt, nothing_known m rows n)

pub kept : (m : Files) (rows : List FileRow) (i : ℕ) (known : List (Option Bool)) (same : Option Bool) → KnowsRow m (slice_get rows i) same → AreKnown m rows known → AreKnown m rows (slice_set known i same)
kept m [] i known same is all = tt
kept m (row ∷ rows) i [] same is all = tt
kept m (row ∷ rows) zero (first ∷ known) same is all = (is, all.1)
kept m (row ∷ rows) (suc i) (first ∷ known) same is all = (all.0, kept m rows i known same is all.1)

none_known : (m : Files) (rows : List FileRow) → AreKnown m rows []
none_known m [] = tt
none_known m (row ∷ rows) = tt

at_next : (m : Files) (row : FileRow) (rows : List FileRow) (known : List (Option Bool)) (i : ℕ) → AreKnown m (row ∷ rows) (drop i known) → Knows m row (slice_index_or known i None) × AreKnown m rows (drop (suc i) known)
at_next m row rows [] zero all = (tt, none_known m rows)
at_next m row rows [] (suc i) all = (tt, none_known m rows)
at_next m row rows (same ∷ known) zero all = (all.0, all.1)
at_next m row rows (same ∷ known) (suc i) all = at_next m row rows known i all

-- of the first of some rows, and of those behind it
pub known_next : (m : Files) (row : FileRow) (rows : List FileRow) (known : List (Option Bool)) (i : ℕ) → AreKnown m (row ∷ rows) (drop i known) → Knows m row (slice_index_or known i None) × AreKnown m rows (drop (i + 1) known)
known_next m row rows known i all =
    let next : i + 1 ≡ suc i = omega arith in
    rw next (at_next m row rows known i all)
