-- The names of a stream's files stand in the order of their segments.
use Rattle.std.proofs.Common.{◌≡◌, ℕ, zero, suc, ◌+◌, ◌^◌, ◌<◌, ◌≤◌, List, [], ◌∷◌, ◌++◌, map, length, refl, sym, ap, subst, ◌∙◌, arith}
use Rattle.std.specs.List.{AllByRecursion, range_with_len}
use Rattle.std.specs.Ordering.{nat_cmp, ordering_reverse}
use Rattle.std.specs.Cmp.Lexicographic.{slice_cmp, nat_list_cmp_total}
use Rattle.std.specs.FinMap.{empty, insert, entries, keys, len-entries, len-empty, entries-insert}
use Rattle.std.specs.FinMap.Entries.{put, by_order}
use Rattle.std.specs.declared.cmp.Ordering.{Ordering}
use Rattle.std.specs.declared.cmp.Ordering.TheVariants.{Greater}
use Rattle.std.proofs.lemmas.List.{append-nil, append_assoc}
use Rattle.lsn_core.specs.Files.{Files}
use Rattle.lsn_core.specs.Names.{segment_name_bytes}
use Rattle.lsn_core.specs.Store.{with_files}
use Rattle.stream_laws.specs.Streams.{segments_begun, segment_part, stream_files}
use Rattle.stream_laws.specs.Names.{NamesStand}
use Rattle.lsn_core.proofs.SegmentOrder.{names_rise}

abbrev Named : Type 0
Named = List ℕ × List ℕ

-- a key behind all others
put_last : (k v : List ℕ) (es : List Named) → AllByRecursion (λ (e : Named). slice_cmp nat_cmp k e.0 ≡ Greater) es → put (slice_cmp nat_cmp) k v es ≡ es ++ ((k, v) ∷ [])
put_last k v [] all = refl
put_last k v (e ∷ es) all =
    ap (λ (o : Ordering). by_order o ((k, v) ∷ e ∷ es) ((e.0, v) ∷ es) (e ∷ put (slice_cmp nat_cmp) k v es)) all.0
    ∙ ap (λ (l : List Named). e ∷ l) (put_last k v es all.1)

all_push : (P : Named → Type 0) (es : List Named) (x : Named) → AllByRecursion P es → P x → AllByRecursion P (es ++ (x ∷ []))
all_push P [] x all p = (p, tt)
all_push P (e ∷ es) x all p = (all.0, all_push P es x all.1 p)

nil_of : (l : List Named) → length l ≡ 0 → l ≡ []
nil_of [] e = refl
nil_of (x ∷ l) e = absurd (omega (arith, e))

no_entries : entries (empty {X = List ℕ} {R = slice_cmp nat_cmp}) ≡ []
no_entries = nil_of (entries (empty {X = List ℕ} {R = slice_cmp nat_cmp})) (sym (len-entries (empty {X = List ℕ} {R = slice_cmp nat_cmp})) ∙ len-empty (slice_cmp nat_cmp) (List ℕ))

module _ (mib : ℕ) (bytes : List ℕ) (some : 1 ≤ mib) (most : mib ≤ 1024) where
  abbrev file_at : ℕ → Named
  file_at seg = (segment_name_bytes seg mib, segment_part mib bytes seg)

  -- all keys stand before that of a segment
  abbrev IsPast : ℕ → Named → Type 0
  IsPast t e = slice_cmp nat_cmp (segment_name_bytes t mib) e.0 ≡ Greater

  past : (s t : ℕ) → s < t → t < 2 ^ 32 → IsPast t (file_at s)
  past s t lt fits = nat_list_cmp_total.antisymm (segment_name_bytes t mib) (segment_name_bytes s mib) ∙ ap ordering_reverse (names_rise mib s t some most lt fits)

  rises : (n from : ℕ) (m : Files) → from + n ≤ 2 ^ 32 → ((t : ℕ) → from ≤ t → t < 2 ^ 32 → AllByRecursion (IsPast t) (entries m)) → entries (with_files m (map file_at (range_with_len from n))) ≡ entries m ++ map file_at (range_with_len from n)
  rises zero from m fits below = sym (append-nil (entries m))
  rises (suc n) from m fits below =
      let put_is : entries (insert m (segment_name_bytes from mib) (segment_part mib bytes from)) ≡ entries m ++ (file_at from ∷ []) =
      entries-insert nat_list_cmp_total m (segment_name_bytes from mib) (segment_part mib bytes from)
      ∙ put_last (segment_name_bytes from mib) (segment_part mib bytes from) (entries m) (below from (omega arith) (omega (arith, fits))) in
      rises n (from + 1) (insert m (segment_name_bytes from mib) (segment_part mib bytes from)) (omega (arith, fits))
      (λ t least lt. subst (λ (es : List Named). AllByRecursion (IsPast t) es) (sym put_is)
      (all_push (IsPast t) (entries m) (file_at from) (below t (omega (arith, least)) lt) (past from t (omega (arith, least)) lt)))
      ∙ (ap (λ (es : List Named). es ++ map file_at (range_with_len (from + 1) n)) put_is
      ∙ append_assoc (entries m) (file_at from ∷ []) (map file_at (range_with_len (from + 1) n)))

  names_of : (l : List ℕ) → map (λ (e : Named). e.0) (map file_at l) ≡ map (λ seg. segment_name_bytes seg mib) l
  names_of [] = refl
  names_of (x ∷ l) = ap (λ (r : List (List ℕ)). segment_name_bytes x mib ∷ r) (names_of l)

  stand : keys (stream_files mib bytes) ≡ map (λ seg. segment_name_bytes seg mib) (range_with_len 1 (segments_begun mib bytes))
  stand =
      let l : List ℕ = range_with_len 1 (segments_begun mib bytes) in
      ap (map (λ (e : Named). e.0)) (rises (segments_begun mib bytes) 1 empty (omega arith) (λ t least lt. subst (λ (es : List Named). AllByRecursion (IsPast t) es) (sym no_entries) tt))
      ∙ (ap (λ (es : List Named). map (λ (e : Named). e.0) (es ++ map file_at l)) no_entries ∙ names_of l)

pub names_stand : NamesStand
names_stand mib bytes some most = stand mib bytes some most
