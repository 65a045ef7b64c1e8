-- Summaries that are kept of an area have their files there, in order.
use Rattle.std.proofs.Common.{◌≡◌, ◌≢◌, inl, inr, ℕ, ◌≤◌, Bool, true, false, cond, List, [], ◌∷◌, ◌++◌, Option, Some, unwrap_or, refl, sym, ap, subst, ◌∙◌, arith, append-nil, append_assoc}
use Rattle.std.specs.List.{AllByRecursion, filter}
use Rattle.std.specs.Cmp.Lexicographic.{nat_list_cmp_total}
use Rattle.std.specs.FinMap.{get, keys, get-insert}
use Rattle.lsn_core.specs.Files.{Files}
use Rattle.lsn_core.proofs.StoreFiles.{same_name, names_tie}
use Rattle.vault.specs.Area.{bytes_of}
use Rattle.wal_summary.specs.declared.summary.Summary.{Summary}
use Rattle.wal_summary.specs.Kept.{AreInOrder}
use Rattle.summary_file.specs.File.{IsFileOf, summary_bytes}
use Rattle.summary_file.specs.Name.{summary_name_bytes}
use Rattle.summary_file.proofs.Ranges.{one_range}
use Rattle.summary_store.specs.Kept.{IsSummaryIn, AreKeptPast, AreKept, end_behind}
use Rattle.summary_store.specs.Expiry.{AreHeld, AreGone, MayExpire}
use Rattle.summary_store.proofs.Honest.{Holds, holds_one}
use Rattle.summary_store.proofs.Expiring.{was_there}
use Rattle.shared_summaries.specs.summary_publish.Published.{IsWhole, CanFollow, AreFollowing, with_file, with_files}
use Rattle.shared_summaries.specs.summary_publish.Partly.{MayWriteSummary}
use Rattle.shared_summaries.proofs.summary_publish.KeptFiles.{there}

module _ {X : Type 0} where
  pub all_append : (P : X → Type 0) (xs ys : List X) → AllByRecursion P xs → AllByRecursion P ys → AllByRecursion P (xs ++ ys)
  all_append P [] ys all more = more
  all_append P (x ∷ xs) ys all more = (all.0, all_append P xs ys all.1 more)

  pub all_filter : (P : X → Type 0) (test : X → Bool) (xs : List X) → AllByRecursion P xs → AllByRecursion P (filter test xs)
  all_filter P test [] all = tt
  all_filter P test (x ∷ xs) all = step (test x) all.0 (all_filter P test xs all.1)
    where
      step : (b : Bool) → P x → AllByRecursion P (filter test xs) → AllByRecursion P (cond b (x ∷ filter test xs) (filter test xs))
      step true h rest = (h, rest)
      step false h rest = rest

-- what holds of each summary with a file holds of those that are kept
pub holds_held : (P : Summary → Type 0) (files : Files) (kept : List Summary) → Holds P files → AreHeld files kept → AllByRecursion P kept
holds_held P files [] holds held = tt
holds_held P files (s ∷ ss) holds held = (holds_one P files (summary_name_bytes s.start.0 s.end.0) s holds held.0, holds_held P files ss holds held.1)

-- and of fewer files
gone_holds : (P : Summary → Type 0) (gone at : List Summary) (old new : Files) → AreGone gone at old new → Holds P old → Holds P new
gone_holds P gone at old new (inl same) holds name bytes sum here named file =
    holds name bytes sum (was_there gone old name bytes (sym (ap (λ m. get m name) same) ∙ here)) named file
gone_holds P gone at old new (inr same) holds name bytes sum here named file =
    holds name bytes sum (was_there (gone ++ at) old name bytes (sym (ap (λ m. get m name) same) ∙ here)) named file

pub expired_holds : (P : Summary → Type 0) (limit : ℕ) (old new : Files) (kept now : List Summary) → MayExpire limit (Some old) (Some new) kept now → Holds P old → Holds P new
expired_holds P limit old new kept now e = gone_holds P e.gone e.at old new e.files

-- ---- what was read is held

kept_held : (low : ℕ) (files : Files) (names : List (List ℕ)) (kept : List Summary) → AreKeptPast low files names kept → AreHeld files kept
kept_held low files names [] held = tt
kept_held low files [] (s ∷ ss) held = absurd cc
kept_held low files (name ∷ names) (s ∷ ss) (inl here) =
    (subst (λ n. IsSummaryIn files n s) here.0.0.named here.0.0, kept_held s.end.0 files names ss here.1)
kept_held low files (name ∷ names) (s ∷ ss) (inr over) = kept_held low files names (s ∷ ss) over.1

pub read_held : (files : Files) (kept : List Summary) → AreKept files kept → AreHeld files kept
read_held files kept held = kept_held 0 files (keys files) kept held

-- ---- order

pub order_end : (low : ℕ) (kept : List Summary) → AreInOrder low kept → low ≤ end_behind low kept
order_end low [] o = omega arith
order_end low (s ∷ ss) o =
    let a = o.0 in
    let r = o.1 in
    let e = order_end s.end.0 ss o.3 in
    omega (arith, a, r, e)

pub order_on : (low place : ℕ) (kept sums : List Summary) → AreInOrder low kept → end_behind low kept ≤ place → AreFollowing place sums → AreInOrder low (kept ++ sums)
order_on low place [] [] o le follow = tt
order_on low place [] (s ∷ ss) o le follow =
    let same = follow.0.starts in
    (omega (arith, le, same), follow.0.written.rises, follow.0.written.sorted, order_on s.end.0 s.end.0 [] ss tt (omega arith) follow.1)
order_on low place (k ∷ ks) sums o le follow = (o.0, o.1, o.2, order_on k.end.0 place ks sums o.3 le follow)

-- ---- one more file beside them

bytes_same : (m n : Files) (q : List ℕ) → get n q ≡ get m q → bytes_of n q ≡ bytes_of m q
bytes_same m n q same = ap (λ (o : Option (List ℕ)). unwrap_or o []) same

pub held_beside : (m n : Files) (s : Summary) (low : ℕ) (kept : List Summary) → IsWhole s → ((q : List ℕ) → q ≢ summary_name_bytes s.start.0 s.end.0 → get n q ≡ get m q) → AreInOrder low kept → end_behind low kept ≤ s.start.0
    → AreHeld m kept → AreHeld n kept
held_beside m n s low [] whole others o le held = tt
held_beside m n s low (t ∷ ts) whole others o le held =
    let name = summary_name_bytes t.start.0 t.end.0 in
    let r = o.1 in
    let e = order_end t.end.0 ts o.3 in
    let apart : name ≢ summary_name_bytes s.start.0 s.end.0 = λ same.
    let is = (one_range t.start.0 t.end.0 s.start.0 s.end.0 held.0.file.room.start held.0.file.room.end whole.room.start whole.room.end same).0 in
    omega (arith, r, e, le, is) in
    (record { named = refl; file = subst (IsFileOf t) (sym (bytes_same m n name (others name apart))) held.0.file }, held_beside m n s t.end.0 ts whole others o.3 le held.1)

other_get : (m : Files) (name bytes q : List ℕ) → q ≢ name → (b : Bool) → same_name q name ≡ b → cond b (Some bytes) (get m q) ≡ get m q
other_get m name bytes q apart true e = absurd (apart (names_tie q name e))
other_get m name bytes q apart false e = refl

pub held_file : (m : Files) (s : Summary) (kept : List Summary) → IsWhole s → AreInOrder 0 kept → end_behind 0 kept ≤ s.start.0 → AreHeld m kept → AreHeld (with_file s m) (kept ++ (s ∷ []))
held_file m s kept whole o le held =
    let name = summary_name_bytes s.start.0 s.end.0 in
    all_append (λ t. IsSummaryIn (with_file s m) (summary_name_bytes t.start.0 t.end.0) t) kept (s ∷ [])
    (held_beside m (with_file s m) s 0 kept whole (λ q apart. get-insert nat_list_cmp_total m name (summary_bytes s) q ∙ other_get m name (summary_bytes s) q apart (same_name q name) refl) o le held)
    (record { named = refl; file = subst (IsFileOf s) (sym (there m name (summary_bytes s))) whole }, tt)

end_push : (low : ℕ) (kept : List Summary) (s : Summary) → end_behind low (kept ++ (s ∷ [])) ≡ s.end.0
end_push low [] s = refl
end_push low (t ∷ ts) s = end_push t.end.0 ts s

pub held_files : (m : Files) (place : ℕ) (kept sums : List Summary) → AllByRecursion IsWhole sums → AreInOrder 0 kept → end_behind 0 kept ≤ place → AreFollowing place sums → AreHeld m kept → AreHeld (with_files sums m) (kept ++ sums)
held_files m place kept [] whole o le follow held = subst (AreHeld m) (sym (append-nil kept)) held
held_files m place kept (s ∷ ss) whole o le follow held =
    let same = follow.0.starts in
    let past : end_behind 0 kept ≤ s.start.0 = omega (arith, le, same) in
    let end = end_push 0 kept s in
    subst (AreHeld (with_files ss (with_file s m))) (append_assoc kept (s ∷ []) ss)
    (held_files (with_file s m) s.end.0 (kept ++ (s ∷ [])) ss whole.1 (order_on 0 place kept (s ∷ []) o le (follow.0, tt)) (omega (arith, end)) follow.1 (held_file m s kept whole.0 o past held))

-- a file that was written in part
pub held_torn : (m n : Files) (s : Summary) (place : ℕ) (kept : List Summary) → IsWhole s → CanFollow place s → AreInOrder 0 kept → end_behind 0 kept ≤ place → MayWriteSummary s m n → AreHeld m kept → AreHeld n kept
held_torn m n s place kept whole follow o le may held =
    let same = follow.starts in
    held_beside m n s 0 kept whole may.others o (omega (arith, le, same)) held
