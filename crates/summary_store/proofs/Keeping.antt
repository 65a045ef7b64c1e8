-- What is kept of files, taken in turn.
use Rattle.std.proofs.Common.{◌≡◌, ℕ, zero, suc, ◌-◌, ◌<◌, ◌≤◌, ◌⊎◌, inl, inr, Bool, true, false, List, [], ◌∷◌, ◌++◌, length, get_or, Option, Some, None, IfSome, Result, Ok, Err, refl, sym, ap, subst, ◌∙◌, arith, append_assoc}
use Rattle.std.proofs.lemmas.List.{append-nil}
use Rattle.std.specs.FinMap.{keys}
use Rattle.lsn_core.specs.Files.{Files}
use Rattle.vault.specs.Area.{bytes_of}
use Rattle.wal_summary.specs.declared.summary.Summary.{Summary}
use Rattle.wal_summary.specs.Kept.{AreInOrder}
use Rattle.summary_file.specs.File.{IsFileOf, DecodeAnswers}
use Rattle.summary_file.specs.Name.{summary_name_bytes}
use Rattle.summary_file.specs.declared.fault.SummaryFault.{SummaryFault}
use Rattle.summary_file.specs.declared.fault.SummaryFault.TheVariants.{NoMemory}
use Rattle.summary_file.proofs.Decoding.{one_answer, file_once}
use Rattle.summary_store.specs.Kept.{IsPassedOver, AreKeptPast, AreKept, end_behind}
use Rattle.summary_store.specs.Inside.{HasRange, IsNamedFile, FoundIn, KeepsNext}

-- ---- one file

pub another_name : (name bytes : List ℕ) (s : Summary) → IsFileOf s bytes → (name ≡ summary_name_bytes s.start.0 s.end.0 → ⊥) → (t : Summary) → IsNamedFile name bytes t → ⊥
another_name name bytes s file other t named = other (named.named ∙ ap (λ (x : Summary). summary_name_bytes x.start.0 x.end.0) (file_once bytes t s named.file file))

no_fault : (s : Summary) (fault : SummaryFault) → (fault ≡ NoMemory → ⊥) → (let r : Result Summary SummaryFault = Err fault in (r ≡ Ok s) ⊎ (r ≡ Err NoMemory)) → ⊥
no_fault s fault other (inl e) = absurd cc
no_fault s fault other (inr e) = other cc

pub refused : (name bytes : List ℕ) (fault : SummaryFault) → (fault ≡ NoMemory → ⊥) → DecodeAnswers bytes (Err fault) → (t : Summary) → IsNamedFile name bytes t → ⊥
refused name bytes fault other answer t named = no_fault t fault other (one_answer t bytes (Err fault) named.file answer)

pub not_both : (b : Bool) → b ≡ false → b ≡ true → ⊥
not_both b n y = absurd cc

pub not_memory : (f g : SummaryFault) → f ≡ g → (g ≡ NoMemory → ⊥) → f ≡ NoMemory → ⊥
not_memory f g is other e = other (sym is ∙ e)

-- ---- those that are kept

last_at : (sums : List Summary) (low n : ℕ) (s : Summary) → length sums ≡ suc n → s ≡ get_or sums n s → s.end.0 ≡ end_behind low sums
last_at [] low n s len is = absurd (omega (arith, len))
last_at (t ∷ []) low zero s len is = ap (λ (x : Summary). x.end.0) is
last_at (t ∷ []) low (suc n) s len is = absurd (omega (arith, len))
last_at (t ∷ (u ∷ us)) low zero s len is = absurd (omega (arith, len))
last_at (t ∷ (u ∷ us)) low (suc n) s len is = last_at (u ∷ us) t.end.0 n s (omega (arith, len)) is

pub last_end : (sums : List Summary) (low : ℕ) (s : Summary) → 0 < length sums → s ≡ get_or sums (length sums - 1) s → s.end.0 ≡ end_behind low sums
last_end sums low s some is = last_at sums low (length sums - 1) s (omega (arith, some)) is

pub order_push : (low : ℕ) (sums : List Summary) (s : Summary) → AreInOrder low sums → end_behind low sums ≤ s.start.0 → HasRange s → AreInOrder low (sums ++ (s ∷ []))
order_push low [] s order le range = (le, range.rises, range.sorted, tt)
order_push low (t ∷ ts) s order le range = (order.0, order.1, order.2, order_push t.end.0 ts s order.3 le range)

pub end_push : (low : ℕ) (sums : List Summary) (s : Summary) → end_behind low (sums ++ (s ∷ [])) ≡ s.end.0
end_push low [] s = refl
end_push low (t ∷ ts) s = end_push t.end.0 ts s

-- ---- one more

pub keeps : (files : Files) (name : List ℕ) (old : List Summary) (s : Summary) → FoundIn files name (Some s) → end_behind 0 old ≤ s.start.0 → KeepsNext files name old (old ++ (s ∷ []))
keeps files name old s found le = inl (s, (found, le), refl)

pub overlaps : (files : Files) (name : List ℕ) (old : List Summary) (s : Summary) → FoundIn files name (Some s) → s.start.0 < end_behind 0 old → KeepsNext files name old old
overlaps files name old s found lt = inr (
  λ t kept. let same : t.start.0 ≡ s.start.0 = ap (λ (x : Summary). x.start.0) (file_once (bytes_of files name) t s kept.0.file found.file) in let le = kept.1 in omega (arith, same, lt, le),
  refl,
)

pub nothing : (files : Files) (name : List ℕ) (old : List Summary) → FoundIn files name None → KeepsNext files name old old
nothing files name old none = inr (λ t kept. none t kept.0, refl)

pub told : {P Q : Files → Type 0} (o : Option Files) → ((m : Files) → P m → Q m) → IfSome o P → IfSome o Q
told None f h = tt
told (Some m) f h = f m h

-- ---- all of them

-- what is kept so far, with what is kept of the names that are left, is kept of all
abbrev pub IsSoFar : Files → List (List ℕ) → List Summary → Type 0
IsSoFar files left sums = (rest : List Summary) → AreKeptPast (end_behind 0 sums) files left rest → AreKept files (sums ++ rest)

pub at_first : (files : Files) → IsSoFar files (keys files) []
at_first files rest kept = kept

passed : (low : ℕ) (files : Files) (name : List ℕ) (left : List (List ℕ)) (rest : List Summary) → IsPassedOver low files name → AreKeptPast low files left rest → AreKeptPast low files (name ∷ left) rest
passed low files name left [] over kept = (over, kept)
passed low files name left (s ∷ ss) over kept = inr (over, kept)

pub kept_on : (files : Files) (name : List ℕ) (left : List (List ℕ)) (old new : List Summary) → KeepsNext files name old new → IsSoFar files (name ∷ left) old → IsSoFar files left new
kept_on files name left old new (inl next) so_far =
    let s = next.0 in
    subst (IsSoFar files left) (sym next.2) (λ rest kept. subst (AreKept files) (sym (append_assoc old (s ∷ []) rest))
    (so_far (s ∷ rest) (inl (next.1, subst (λ (low : ℕ). AreKeptPast low files left rest) (end_push 0 old s) kept))))
kept_on files name left old new (inr over) so_far =
    subst (IsSoFar files left) (sym over.1) (λ rest kept. so_far rest (passed (end_behind 0 old) files name left rest over.0 kept))

pub at_last : (files : Files) (left : List (List ℕ)) (sums : List Summary) → left ≡ [] → IsSoFar files left sums → AreKept files sums
at_last files left sums none so_far = subst (AreKept files) (append-nil sums) (so_far [] (subst (λ (names : List (List ℕ)). AreKeptPast (end_behind 0 sums) files names []) (sym none) refl))

pub told_first : (o : Option Files) (names : List (List ℕ)) → IfSome o (λ m. names ≡ keys m) → IfSome o (λ m. IsSoFar m names [])
told_first o names e = told o (λ m is. subst (λ (l : List (List ℕ)). IsSoFar m l []) (sym is) (at_first m)) e

pub told_on : (o now : Option Files) (name : List ℕ) (left : List (List ℕ)) (old new : List Summary) → now ≡ o → IfSome now (λ m. KeepsNext m name old new) → IfSome o (λ m. IsSoFar m (name ∷ left) old) → IfSome o (λ m. IsSoFar m left new)
told_on None now name left old new e next so_far = tt
told_on (Some m) now name left old new e next so_far = kept_on m name left old new (subst (λ (x : Option Files). IfSome x (λ m. KeepsNext m name old new)) e next) so_far

pub no_length : {A : Type 0} (xs : List A) → length xs ≡ 0 → xs ≡ []
no_length [] e = refl
no_length (x ∷ xs) e = absurd (omega (arith, e))
