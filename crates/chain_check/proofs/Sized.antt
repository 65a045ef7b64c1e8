-- Rows whose files have their sizes, and the first that is wrong.
use Rattle.std.proofs.Common.{◌≡◌, ℕ, zero, suc, ◌+◌, ◌≤◌, Bool, not, cond, List, [], ◌∷◌, ◌++◌, length, take, drop, Option, Some, None, Result, Ok, Err, refl, sym, ap, subst, ◌∙◌, arith, take-append-drop, slice_index_or}
use Rattle.std.specs.List.{AllByRecursion}
use Rattle.std.specs.Option.{option_or, is_some}
use Rattle.std.specs.Result.{IsErr, IsErrAnd}
use Rattle.std.proofs.lemmas.List.{length-take-le}
use Rattle.lsn_core.specs.Files.{Files}
use Rattle.lsn_core.specs.declared.fault.AreaFault.{AreaFault}
use Rattle.lsn_core.specs.declared.fault.AreaFault.TheVariants as area
use Rattle.manifest.specs.declared.listing.FileRow.{FileRow}
use Rattle.chain_check.specs.Refusals.{row_fault, rows_fault, rows_checked, refusal_of, chain_fault_of}
use Rattle.chain_check.specs.Inside.{Answers, CountsRows, RowsAnswer}
use Rattle.file_sums.specs.LaneSums.{Knows, AreKnown}
use Rattle.chain_check.specs.Sizes.{IsSized, FirstAnswer}
use Rattle.chain_check.specs.declared.refusal.Refusal.{Refusal}
use Rattle.chain_check.specs.declared.fault.ChainFault.{ChainFault}
use Rattle.chain_check.specs.declared.fault.ChainFault.TheVariants.{NoManifest, ManifestDamaged, ManifestVersion, TimelineDiffers, FileMissing, FileSize, FileSum, FileExtra, LabelDamaged, FileDamaged, Failed, NoMemory}
use Rattle.file_sums.proofs.Known.{known_next}
use Rattle.chain_check.proofs.Turns.{neither}

-- ---- the rows so far, and the next one

abbrev tail : List FileRow → List FileRow
tail [] = []
tail (row ∷ rows) = rows

abbrev head_or : FileRow → List FileRow → FileRow
head_or other [] = other
head_or other (row ∷ rows) = row

nothing_there : {P : Type 0} (row : FileRow) (rows : List FileRow) → [] ≡ row ∷ rows → P
nothing_there row rows e = absurd (cc)

one_more : (m : Files) (rows : List FileRow) (n : ℕ) (row : FileRow) (behind : List FileRow) → drop n rows ≡ row ∷ behind → IsSized m row → AllByRecursion (IsSized m) (take n rows)
    → (drop (suc n) rows ≡ behind) × AllByRecursion (IsSized m) (take (suc n) rows)
one_more m [] zero row behind e is all = nothing_there row behind e
one_more m [] (suc n) row behind e is all = nothing_there row behind e
one_more m (first ∷ rows) zero row behind e is all = (ap tail e, (subst (IsSized m) (sym (ap (head_or row) e)) is, tt))
one_more m (first ∷ rows) (suc n) row behind e is all =
    let later = one_more m rows n row behind e is all.1 in
    (later.0, (all.0, later.1))

pub sized_next : (m : Files) (rows : List FileRow) (n : ℕ) (row : FileRow) (behind : List FileRow) → drop n rows ≡ row ∷ behind → IsSized m row → AllByRecursion (IsSized m) (take n rows)
    → AllByRecursion (IsSized m) (take (n + 1) rows)
sized_next m rows n row behind e is all =
    let next : n + 1 ≡ suc n = omega arith in
    rw next (one_more m rows n row behind e is all).1

left_behind : (rows : List FileRow) (n : ℕ) (row : FileRow) (behind : List FileRow) → drop n rows ≡ row ∷ behind → drop (suc n) rows ≡ behind
left_behind [] zero row behind e = nothing_there row behind e
left_behind [] (suc n) row behind e = nothing_there row behind e
left_behind (first ∷ rows) zero row behind e = ap tail e
left_behind (first ∷ rows) (suc n) row behind e = left_behind rows n row behind e

pub left_next : (rows : List FileRow) (n : ℕ) (row : FileRow) (behind : List FileRow) → drop n rows ≡ row ∷ behind → behind ≡ drop (n + 1) rows
left_next rows n row behind e =
    let next : n + 1 ≡ suc n = omega arith in
    rw next (sym (left_behind rows n row behind e))

-- ---- the first fault of the row's sums

-- the rows that are left, where none before them is wrong
abbrev pub Left : Files → List FileRow → List (Option Bool) → List FileRow → ℕ → Type 0
Left m rows known left n =
    AllByRecursion (IsSized m) rows → AreKnown m rows known
    → AllByRecursion (IsSized m) left × AreKnown m left (drop n known)
    × (rows_fault m rows ≡ rows_fault m left) × (rows_checked m rows ≡ n + rows_checked m left)

passed_count : (m : Files) (row : FileRow) (rows : List FileRow) (n : ℕ) → row_fault m row ≡ None → n + rows_checked m (row ∷ rows) ≡ n + 1 + rows_checked m rows
passed_count m row rows n e =
    ap (λ (o : Option ChainFault). n + cond (not (is_some o)) (1 + rows_checked m rows) 0) e ∙ omega arith

pub left_more : (m : Files) (rows : List FileRow) (known : List (Option Bool)) (row : FileRow) (behind left : List FileRow) (n : ℕ) → left ≡ row ∷ behind
    → (IsSized m row → Knows m row (slice_index_or known n None) → row_fault m row ≡ None) → Left m rows known left n → Left m rows known behind (n + 1)
left_more m rows known row behind left n e passes is sized all =
    let at : Left m rows known (row ∷ behind) n = subst (λ (l : List FileRow). Left m rows known l n) e is in
    let here = at sized all in
    let next = known_next m row behind known n here.1 in
    let none = passes here.0.0 next.0 in
    (here.0.1, next.1, here.2 ∙ ap (λ (o : Option ChainFault). option_or o (rows_fault m behind)) none, here.3 ∙ passed_count m row behind n none)

first_answers : (fault : ChainFault) (first later whole : Option ChainFault) → whole ≡ option_or first later → Answers first (Err fault) → Answers whole (Err fault)
first_answers (FileMissing path) first later whole e is = e ∙ ap (λ o. option_or o later) is
first_answers (FileSize path have listed) first later whole e is = e ∙ ap (λ o. option_or o later) is
first_answers (FileSum path) first later whole e is = e ∙ ap (λ o. option_or o later) is
first_answers (FileExtra path) first later whole e is = e ∙ ap (λ o. option_or o later) is
first_answers NoManifest first later whole e is = is
first_answers (ManifestDamaged why) first later whole e is = is
first_answers (ManifestVersion v) first later whole e is = is
first_answers (TimelineDiffers v) first later whole e is = is
first_answers (LabelDamaged line) first later whole e is = is
first_answers (FileDamaged path why) first later whole e is = is
first_answers Failed first later whole e is = tt
first_answers NoMemory first later whole e is = tt

-- what is counted before a fault of these files
counts : (m : Files) (rows : List FileRow) (fault : ChainFault) (found : Option ChainFault) (n : ℕ) → Answers found (Err fault) → ((f : ChainFault) → found ≡ Some f → n ≡ rows_checked m rows) → CountsRows m rows fault n
counts m rows (FileMissing path) found n is all = all _ is
counts m rows (FileSize path have listed) found n is all = all _ is
counts m rows (FileSum path) found n is all = all _ is
counts m rows (FileExtra path) found n is all = all _ is
counts m rows NoManifest found n is all = absurd is
counts m rows (ManifestDamaged why) found n is all = absurd is
counts m rows (ManifestVersion v) found n is all = absurd is
counts m rows (TimelineDiffers v) found n is all = absurd is
counts m rows (LabelDamaged line) found n is all = absurd is
counts m rows (FileDamaged path why) found n is all = absurd is
counts m rows Failed found n is all = tt
counts m rows NoMemory found n is all = tt

none_before : (m : Files) (row : FileRow) (rows : List FileRow) (f : ChainFault) → row_fault m row ≡ Some f → rows_checked m (row ∷ rows) ≡ 0
none_before m row rows f e = ap (λ (o : Option ChainFault). cond (not (is_some o)) (1 + rows_checked m rows) 0) e

pub left_refused : (m : Files) (rows : List FileRow) (known : List (Option Bool)) (row : FileRow) (behind left : List FileRow) (n : ℕ) (fault : ChainFault) → left ≡ row ∷ behind
    → (IsSized m row → Knows m row (slice_index_or known n None) → Answers (row_fault m row) (Err fault)) → Left m rows known left n
    → AllByRecursion (IsSized m) rows → AreKnown m rows known → RowsAnswer m rows (Err (record { fault = fault; checked = n }))
left_refused m rows known row behind left n fault e fails is sized all =
    let at : Left m rows known (row ∷ behind) n = subst (λ (l : List FileRow). Left m rows known l n) e is in
    let here = at sized all in
    let wrong = fails here.0.0 (known_next m row behind known n here.1).0 in (
      first_answers fault (row_fault m row) (rows_fault m behind) (rows_fault m rows) here.2 wrong,
      counts m rows fault (row_fault m row) n wrong (λ f told. let zero_left = none_before m row behind f told in omega (arith, here.3, zero_left)),
    )

-- ---- the rows of good sizes, and those behind them

option_or_assoc : {A : Type 0} (a b c : Option A) → option_or a (option_or b c) ≡ option_or (option_or a b) c
option_or_assoc None b c = refl
option_or_assoc (Some x) b c = refl

fault_split : (m : Files) (xs ys : List FileRow) → rows_fault m (xs ++ ys) ≡ option_or (rows_fault m xs) (rows_fault m ys)
fault_split m [] ys = refl
fault_split m (x ∷ xs) ys = ap (λ o. option_or (row_fault m x) o) (fault_split m xs ys) ∙ option_or_assoc (row_fault m x) (rows_fault m xs) (rows_fault m ys)

count_past : (m : Files) (xs ys : List FileRow) → rows_fault m xs ≡ None → rows_checked m (xs ++ ys) ≡ length xs + rows_checked m ys
count_past m [] ys none = omega arith
count_past m (x ∷ xs) ys none =
    let both = neither (row_fault m x) (rows_fault m xs) none in
    let later = count_past m xs ys both.1 in
    let first : rows_checked m (x ∷ (xs ++ ys)) ≡ 1 + rows_checked m (xs ++ ys) = ap (λ (o : Option ChainFault). cond (not (is_some o)) (1 + rows_checked m (xs ++ ys)) 0) both.0 in
    first ∙ omega (arith, later)

count_at : (m : Files) (x : FileRow) (xs ys : List FileRow) (o : Option ChainFault) (f : ChainFault) → ((g : ChainFault) → rows_fault m xs ≡ Some g → rows_checked m (xs ++ ys) ≡ rows_checked m xs)
    → option_or o (rows_fault m xs) ≡ Some f → cond (not (is_some o)) (1 + rows_checked m (xs ++ ys)) 0 ≡ cond (not (is_some o)) (1 + rows_checked m xs) 0
count_at m x xs ys None f later e = ap (λ (n : ℕ). 1 + n) (later f e)
count_at m x xs ys (Some g) f later e = refl

count_before : (m : Files) (xs ys : List FileRow) (f : ChainFault) → rows_fault m xs ≡ Some f → rows_checked m (xs ++ ys) ≡ rows_checked m xs
count_before m [] ys f e = absurd (cc)
count_before m (x ∷ xs) ys f e = count_at m x xs ys (row_fault m x) f (λ g told. count_before m xs ys g told) e

module _ (m : Files) (rows : List FileRow) (n : ℕ) where
  abbrev front : List FileRow
  front = take n rows

  abbrev back : List FileRow
  back = drop n rows

  fault_of_both : rows_fault m rows ≡ option_or (rows_fault m front) (rows_fault m back)
  fault_of_both = ap (rows_fault m) (sym (take-append-drop n rows)) ∙ fault_split m front back

  sum_refused_by : (fault : ChainFault) (checked : ℕ) → Answers (rows_fault m front) (Err fault) → CountsRows m front fault checked → CountsRows m rows fault checked
  sum_refused_by (FileMissing path) checked is count = count ∙ sym (ap (rows_checked m) (sym (take-append-drop n rows)) ∙ count_before m front back _ is)
  sum_refused_by (FileSize path have listed) checked is count = count ∙ sym (ap (rows_checked m) (sym (take-append-drop n rows)) ∙ count_before m front back _ is)
  sum_refused_by (FileSum path) checked is count = count ∙ sym (ap (rows_checked m) (sym (take-append-drop n rows)) ∙ count_before m front back _ is)
  sum_refused_by (FileExtra path) checked is count = count ∙ sym (ap (rows_checked m) (sym (take-append-drop n rows)) ∙ count_before m front back _ is)
  sum_refused_by NoManifest checked is count = absurd is
  sum_refused_by (ManifestDamaged why) checked is count = absurd is
  sum_refused_by (ManifestVersion v) checked is count = absurd is
  sum_refused_by (TimelineDiffers v) checked is count = absurd is
  sum_refused_by (LabelDamaged line) checked is count = absurd is
  sum_refused_by (FileDamaged path why) checked is count = absurd is
  sum_refused_by Failed checked is count = tt
  sum_refused_by NoMemory checked is count = tt

  -- a fault of a sum before the first row of another size
  pub sum_refused : (refusal : Refusal) → RowsAnswer m front (Err refusal) → RowsAnswer m rows (Err refusal)
  sum_refused refusal is =
      (first_answers refusal.fault (rows_fault m front) (rows_fault m back) (rows_fault m rows) fault_of_both is.0, sum_refused_by refusal.fault refusal.checked is.0 is.1)

  -- that row's fault, where no sum before it is wrong
  pub size_refused : (fault : ChainFault) → n ≤ length rows → rows_fault m front ≡ None → FirstAnswer m back (Some fault) → RowsAnswer m rows (Err (record { fault = fault; checked = n }))
  size_refused fault within none is =
      let whole : rows_fault m rows ≡ rows_fault m back = fault_of_both ∙ ap (λ (o : Option ChainFault). option_or o (rows_fault m back)) none in
      let count : rows_checked m rows ≡ length front + rows_checked m back = ap (rows_checked m) (sym (take-append-drop n rows)) ∙ count_past m front back none in
      let long : length front ≡ n = length-take-le n rows within in (
        subst (λ (o : Option ChainFault). Answers o (Err fault)) (sym whole) is.0,
        counts m rows fault (rows_fault m back) n is.0 (λ f told. omega (arith, count, long, is.1)),
      )

  -- no row has another size, and no sum is wrong
  pub none_refused : rows_fault m front ≡ None → FirstAnswer m back None → rows_fault m rows ≡ None
  none_refused none is = fault_of_both ∙ ap (λ (o : Option ChainFault). option_or o (rows_fault m back)) none ∙ ap (rows_fault m) is

-- ---- failures of the area

pub area_refused : (m : Files) (rows : List FileRow) (fault : AreaFault) → RowsAnswer m rows (Err (refusal_of (chain_fault_of fault)))
area_refused m rows area.Failed = (tt, tt)
area_refused m rows area.NoMemory = (tt, tt)

-- ---- refusals that are handed on

pub handed_fault : (m : Files) (rows : List FileRow) (fault : AreaFault) (r : Result (Unit {0}) Refusal) → IsErr r → IsErrAnd r (λ e. e ≡ refusal_of (chain_fault_of fault)) → RowsAnswer m rows r
handed_fault m rows fault (Ok done) err is = absurd (cc)
handed_fault m rows fault (Err refusal) err is = subst (λ (e : Refusal). RowsAnswer m rows (Err e)) (sym is) (area_refused m rows fault)

pub handed_refusal : (m : Files) (rows : List FileRow) (n : ℕ) (refusal : Refusal) (r : Result (Unit {0}) Refusal) → IsErr r → IsErrAnd r (λ e. e ≡ refusal) → RowsAnswer m (take n rows) (Err refusal) → RowsAnswer m rows r
handed_refusal m rows n refusal (Ok done) err is before = absurd (cc)
handed_refusal m rows n refusal (Err e) err is before = subst (λ (x : Refusal). RowsAnswer m rows (Err x)) (sym is) (sum_refused m rows n refusal before)
