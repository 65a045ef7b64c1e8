-- What lanes have seen of files.
use Rattle.std.proofs.Common.{◌≡◌, ℕ, ◌+◌, ◌<◌, ◌%◌, ◌^◌, Bool, List, [], ◌∷◌, ◌++◌, length, take, Option, Some, None, sym, ap, subst, ◌∙◌, arith, length-append, slice_index_or}
use Rattle.std.specs.Prelude.{slice_get, IfSome}
use Rattle.std.proofs.lemmas.List.{length-take-le}
use Rattle.std.proofs.Math.Seq.{take-add}
use Rattle.sha2.specs.Sha256.{sha256}
use Rattle.lsn_core.specs.Files.{Files}
use Rattle.vault.specs.Area.{bytes_of}
use Rattle.sha_lanes.specs.Lanes.{of_four, HasSeen}
use Rattle.sha_lanes.specs.declared.lanes.Lanes.{Lanes}
use Rattle.sha_lanes.proofs.FourLanes.{below_four}
use Rattle.manifest.specs.declared.kinds.SumKind.{SumKind}
use Rattle.manifest.specs.declared.kinds.SumKind.TheVariants.{Sha256}
use Rattle.manifest.specs.declared.listing.FileRow.{FileRow}
use Rattle.file_sums.specs.Sums.{sum_of, says_sum}
use Rattle.chain_files.specs.Sources.{IsPiece}
use Rattle.file_sums.specs.LaneSums.{holds, IsSeen, RowIsSeen, IsAt, Moves, IsHashing}
use Rattle.file_sums.specs.declared.lanes.Place.{Place}
use Rattle.file_sums.specs.declared.lanes.Hashing.{Hashing}

-- a beginning of a file, and the piece behind it
joined : (m : Files) (name : List ℕ) (at : ℕ) (piece : List ℕ) → IsPiece m name at piece → take at (bytes_of m name) ++ piece ≡ take (at + length piece) (bytes_of m name)
joined m name at piece is = ap (λ (l : List ℕ). take at (bytes_of m name) ++ l) is.bytes ∙ sym (take-add at (length piece) (bytes_of m name))

seen_more : (m : Files) (row : FileRow) (at end j : ℕ) (piece : List ℕ) (old new : Lanes) → end ≡ at + length piece → IsPiece m row.path at piece
    → ((l : List ℕ) → HasSeen old j l → HasSeen new j (l ++ piece)) → IsSeen m row at old j → IsSeen m row end new j
seen_more m row at end j piece old new ends is sees was =
    subst (λ (n : ℕ). IsSeen m row n new j) (sym ends) (record {
      within = is.within was.within;
      seen = subst (λ (l : List ℕ). HasSeen new j l) (joined m row.path at piece is) (sees _ was.seen);
    })

pub moves : (m : Files) (rows : List FileRow) (row : FileRow) (place next : Place) (piece : List ℕ) → slice_get rows place.row ≡ Some row → next.row ≡ place.row → next.at ≡ place.at + length piece
    → IsPiece m row.path place.at piece → Moves m rows (Some place) (Some next) piece
moves m rows row place next piece found same ends is old new j sees was =
    let there : slice_get rows next.row ≡ Some row = ap (λ (i : ℕ). slice_get rows i) same ∙ found in
    subst (λ (o : Option FileRow). RowIsSeen m o next.at new j) (sym there)
    (seen_more m row place.at next.at j piece old new ends is sees (subst (λ (o : Option FileRow). RowIsSeen m o place.at old j) found was))

pub no_place : (m : Files) (rows : List FileRow) (place : Option Place) (piece : List ℕ) → Moves m rows place None piece
no_place m rows place piece old new j sees was = tt

pub last_known : (m : Files) (row : FileRow) (lanes : Lanes) (lane at : ℕ) (rest digest : List ℕ) (same : Bool) → row.kind ≡ Sha256 → row.size < 2 ^ 64 → at + length rest ≡ row.size
    → IsPiece m row.path at rest → ((l : List ℕ) → HasSeen lanes lane l → row.size ≡ length (l ++ rest) % 2 ^ 64 → digest ≡ sha256 (l ++ rest))
    → same ≡ says_sum row.sum digest → IsSeen m row at lanes lane → same ≡ holds m row
last_known m row lanes lane at rest digest same kind small ends is digested says was =
    let front = take at (bytes_of m row.path) in
    let long : length front ≡ at = length-take-le at (bytes_of m row.path) was.within in
    let size : row.size ≡ length (front ++ rest) % 2 ^ 64 = omega (arith, long, ends, small, length-append front rest) in
    let whole : front ++ rest ≡ take row.size (bytes_of m row.path) = joined m row.path at rest is ∙ ap (λ (n : ℕ). take n (bytes_of m row.path)) ends in
    says ∙ ap (λ (sum : List ℕ). says_sum row.sum sum) (digested front was.seen size ∙ ap sha256 whole ∙ ap (λ (k : SumKind). sum_of k (take row.size (bytes_of m row.path))) (sym kind))

-- ---- four lanes

pub no_places : (m : Files) (rows : List FileRow) (lanes : Lanes) (j : ℕ) → j < 4 → IsAt m rows lanes j (slice_index_or (None ∷ None ∷ None ∷ None ∷ []) j None)
no_places m rows lanes = below_four (λ j. IsAt m rows lanes j (slice_index_or (None ∷ None ∷ None ∷ None ∷ []) j None)) tt tt tt tt

abbrev Sees : Lanes → Lanes → (ℕ → List ℕ) → Type 0
Sees old new piece = (j : ℕ) (l : List ℕ) → j < 4 → HasSeen old j l → HasSeen new j (l ++ piece j)

abbrev moved_to : Hashing → Lanes → List (Option Place) → Hashing
moved_to h lanes places = record { lanes = lanes; places = places; known = h.known }

pub all_move : (m : Files) (rows : List FileRow) (h : Hashing) (new : Lanes) (a b c d : Option Place) (p q r s : List ℕ)
    → Sees h.lanes new (of_four p q r s)
    → Moves m rows (slice_index_or h.places 0 None) a p → Moves m rows (slice_index_or h.places 1 None) b q
    → Moves m rows (slice_index_or h.places 2 None) c r → Moves m rows (slice_index_or h.places 3 None) d s
    → IsHashing m rows h → IsHashing m rows (moved_to h new (a ∷ b ∷ c ∷ d ∷ []))
all_move m rows h new a b c d p q r s sees first second third fourth is = record {
  lanes = below_four (λ j. IsAt m rows new j (slice_index_or (a ∷ b ∷ c ∷ d ∷ []) j None))
      (first h.lanes new 0 (λ l. sees 0 l (omega arith)) (is.lanes 0 (omega arith)))
      (second h.lanes new 1 (λ l. sees 1 l (omega arith)) (is.lanes 1 (omega arith)))
      (third h.lanes new 2 (λ l. sees 2 l (omega arith)) (is.lanes 2 (omega arith)))
      (fourth h.lanes new 3 (λ l. sees 3 l (omega arith)) (is.lanes 3 (omega arith)));
  known = is.known;
}

-- four facts, where the files are told
pub four_told : {A : Type 0} (o : Option A) (P Q R S T : A → Type 0) → ((x : A) → P x → Q x → R x → S x → T x) → IfSome o P → IfSome o Q → IfSome o R → IfSome o S → IfSome o T
four_told None P Q R S T step p q r s = tt
four_told (Some x) P Q R S T step p q r s = step x p q r s
