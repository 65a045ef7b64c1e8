-- What telling the kept summaries of a range comes to has one answer.
use Rattle.std.proofs.Common.{◌≡◌, ℕ, ◌<◌, ◌≤◌, List, [], ◌∷◌, true, false, map, Some, Result, Ok, Err, refl, sym, ap, subst, ◌∙◌, arith, inl, inr, ⊎_elim}
use Rattle.std.proofs.lemmas.Bool.Decides.{leb_tells}
use Rattle.lsn_core.specs.Files.{Files}
use Rattle.lsn_core.specs.declared.lsn.Lsn.{Lsn}
use Rattle.history.specs.fuzzy_copies.Summary.{summed}
use Rattle.vault.specs.declared.lending.TakeFault.{TakeFault}
use Rattle.vault.specs.Site.{AreaState}
use Rattle.wal_summary.specs.declared.summary.ForkSummary.{ForkSummary}
use Rattle.wal_summary.specs.declared.summary.Summary.{Summary}
use Rattle.wal_summary.specs.Summary.{table_of_summary}
use Rattle.wal_summary.specs.Kept.{IsCovering, IsGap, AreNeighbours, overlapping, is_covered}
use Rattle.wal_summary.specs.Laws.{SummariesAreOne}
use Rattle.summary_file.specs.Laws.{ReadSummariesAreWritten}
use Rattle.summary_store.specs.Kept.{IsSummaryIn, AreKeptPast, AreKept}
use Rattle.vault.specs.Area.{bytes_of}
use Rattle.command_base.specs.Areas.{sums_name}
use Rattle.command_base.specs.Outside.{IsUntaken}
use Rattle.command_base.proofs.Told.{some_told, at_told}
use Rattle.store_commands.specs.declared.range_summary.WalsummaryFault.{WalsummaryFault}
use Rattle.store_commands.specs.declared.range_summary.WalsummaryFault.TheVariants as walsummary
use Rattle.store_commands.specs.Walsummary.{IsKeptCovering, IsKeptGap, WalsummaryAnswer, walsummary_status}
use Rattle.command_base.specs.Decided.{is_decided}
use Rattle.store_commands.specs.Laws.{HasOneWalsummary}
use Rattle.command_base.proofs.Decided.{undecided}

-- ---- what is kept

same_file : ReadSummariesAreWritten → (files : Files) (name : List ℕ) (a b : Summary) → IsSummaryIn files name a → IsSummaryIn files name b → a ≡ b
same_file read files name a b first second = sym ((read (bytes_of files name) a first.file).2 b second.file)

same_kept : ReadSummariesAreWritten → (low : ℕ) (files : Files) (names : List (List ℕ)) (a b : List Summary) → AreKeptPast low files names a → AreKeptPast low files names b → a ≡ b
same_kept read low files [] a b p q = p ∙ sym q
same_kept read low files (name ∷ names) [] [] p q = refl
same_kept read low files (name ∷ names) [] (y ∷ ys) p (inl q) = absurd (p.0 y q.0)
same_kept read low files (name ∷ names) [] (y ∷ ys) p (inr q) = same_kept read low files names [] (y ∷ ys) p.1 q.1
same_kept read low files (name ∷ names) (x ∷ xs) [] (inl p) q = absurd (q.0 x p.0)
same_kept read low files (name ∷ names) (x ∷ xs) [] (inr p) q = same_kept read low files names (x ∷ xs) [] p.1 q.1
same_kept read low files (name ∷ names) (x ∷ xs) (y ∷ ys) (inl p) (inr q) = absurd (q.0 x p.0)
same_kept read low files (name ∷ names) (x ∷ xs) (y ∷ ys) (inr p) (inl q) = absurd (p.0 y q.0)
same_kept read low files (name ∷ names) (x ∷ xs) (y ∷ ys) (inr p) (inr q) = same_kept read low files names (x ∷ xs) (y ∷ ys) p.1 q.1
same_kept read low files (name ∷ names) (x ∷ xs) (y ∷ ys) (inl p) (inl q) =
    let one : x ≡ y = same_file read files name x y p.0.0 q.0.0 in
    let more : xs ≡ ys = same_kept read x.end.0 files names xs ys p.1 (subst (λ (s : Summary). AreKeptPast s.end.0 files names ys) (sym one) q.1) in
    ap (λ (s : Summary). s ∷ xs) one ∙ ap (λ (ss : List Summary). y ∷ ss) more

-- ---- what covers a range

abbrev summary_of_parts : ℕ → ℕ → ℕ → List ForkSummary → Summary
summary_of_parts start end made forks = record {
  start = record { 0 = start };
  end = record { 0 = end };
  made = made;
  forks = forks;
}

same_parts : (a b : Summary) → a.start.0 ≡ b.start.0 → a.end.0 ≡ b.end.0 → a.made ≡ b.made → a.forks ≡ b.forks → a ≡ b
same_parts a b start end made forks =
    ap (λ (x : ℕ). summary_of_parts x a.end.0 a.made a.forks) start
    ∙ (ap (λ (x : ℕ). summary_of_parts b.start.0 x a.made a.forks) end
    ∙ (ap (λ (x : ℕ). summary_of_parts b.start.0 b.end.0 x a.forks) made
    ∙ ap (λ (x : List ForkSummary). summary_of_parts b.start.0 b.end.0 b.made x) forks))

same_end : (sum : Summary) (sums : List Summary) (a b y z : ℕ) → AreNeighbours a (sum ∷ sums) y → AreNeighbours b (sum ∷ sums) z → y ≡ z
same_end sum [] a b y z p q = sym p.2 ∙ q.2
same_end sum (next ∷ sums) a b y z p q = same_end next sums sum.end.0 sum.end.0 y z p.2 q.2

-- neighbours from below a range to past it have one start and one end
same_range : (sums : List Summary) (from to a b y z : ℕ) → from < to → a ≤ from → to ≤ y → AreNeighbours a sums y → AreNeighbours b sums z → (a ≡ b) × (y ≡ z)
same_range [] from to a b y z some begins ends p q = absurd (omega (arith, some, begins, ends, p))
same_range (sum ∷ sums) from to a b y z some begins ends p q = (sym p.0 ∙ q.0, same_end sum sums a b y z p q)

same_covering : SummariesAreOne → (sums : List Summary) (from to : ℕ) (a b : Summary) → from < to → IsCovering sums from to a → IsCovering sums from to b → a ≡ b
same_covering one sums from to a b some p q =
    let range = same_range (overlapping from to sums) from to a.start.0 b.start.0 a.end.0 b.end.0 some p.begins p.ends p.range q.range in
    same_parts a b range.0 range.1 (p.made ∙ sym q.made) (one (summed (map table_of_summary (overlapping from to sums))) a.forks b.forks p.forks q.forks)

-- ---- a gap

covered_or_not : (sums : List Summary) (place : ℕ) → is_covered sums place ≡ true → is_covered sums place ≡ false → ⊥
covered_or_not sums place is not_so = absurd cc

-- no gap is past another one
not_past : (sums : List Summary) (from to p q : ℕ) → IsGap sums from to p → IsGap sums from to q → p ≤ q
not_past sums from to p q a b =
    ⊎_elim (λ x. x.1) (λ x. absurd (covered_or_not sums q (a.before q b.later x.1) b.uncovered)) (leb_tells p q)

same_gap : (sums : List Summary) (from to p q : ℕ) → IsGap sums from to p → IsGap sums from to q → p ≡ q
same_gap sums from to p q a b =
    let up = not_past sums from to p q a b in
    let down = not_past sums from to q p b a in
    omega (arith, up, down)

-- ---- the answers

found_of : Summary → Result Summary WalsummaryFault
found_of sum = Ok sum

gap_at : ℕ → Result Summary WalsummaryFault
gap_at place = Err (walsummary.Gap (record { 0 = place }))

of_same : ReadSummariesAreWritten → (files : Files) (P : List Summary → Type 0) (sums others : List Summary) → AreKept files sums → AreKept files others → P others → P sums
of_same read files P sums others kept also held = subst P (sym (same_kept read 0 files _ sums others kept also)) held

told_once : ReadSummariesAreWritten → SummariesAreOne → (from to : Lsn) (Untaken Also : TakeFault → Type 0) (old new other : AreaState) (files : Files) (a b : Result Summary WalsummaryFault) → from.0 < to.0 → old.files ≡ Some files → WalsummaryAnswer from to Untaken old new a → WalsummaryAnswer from to Also old other b
    → is_decided (walsummary_status a) ≡ true → is_decided (walsummary_status b) ≡ true → a ≡ b
unfolding found_of gap_at
told_once read one from to Untaken Also old new other files (Err (walsummary.Site f)) b some told first second own also = absurd (undecided f.why own)
told_once read one from to Untaken Also old new other files (Err (walsummary.Sums why)) b some told first second own also = absurd (undecided why own)
told_once read one from to Untaken Also old new other files (Ok a) (Err (walsummary.Site g)) some told first second own also = absurd (undecided g.why also)
told_once read one from to Untaken Also old new other files (Ok a) (Err (walsummary.Sums why)) some told first second own also = absurd (undecided why also)
told_once read one from to Untaken Also old new other files (Err (walsummary.Gap p)) (Err (walsummary.Site g)) some told first second own also = absurd (undecided g.why also)
told_once read one from to Untaken Also old new other files (Err (walsummary.Gap p)) (Err (walsummary.Sums why)) some told first second own also = absurd (undecided why also)
told_once read one from to Untaken Also old new other files (Ok a) (Ok b) some told first second own also =
    let p = at_told old.files files (IsKeptCovering from.0 to.0 a) told first in
    let q = at_told old.files files (IsKeptCovering from.0 to.0 b) told second in
    ap found_of (same_covering one p.sums from.0 to.0 a b some p.covering (of_same read files (λ (s : List Summary). IsCovering s from.0 to.0 b) p.sums q.sums p.kept q.kept q.covering))
told_once read one from to Untaken Also old new other files (Ok a) (Err (walsummary.Gap place)) some told first second own also =
    let p = at_told old.files files (IsKeptCovering from.0 to.0 a) told first in
    let q = at_told old.files files (IsKeptGap from.0 to.0 place.0) told second in
    let gap = of_same read files (λ (s : List Summary). IsGap s from.0 to.0 place.0) p.sums q.sums p.kept q.kept q.gap in
    absurd (covered_or_not p.sums place.0 (p.covering.covered place.0 gap.later gap.below) gap.uncovered)
told_once read one from to Untaken Also old new other files (Err (walsummary.Gap place)) (Ok b) some told first second own also =
    let p = at_told old.files files (IsKeptCovering from.0 to.0 b) told second in
    let q = at_told old.files files (IsKeptGap from.0 to.0 place.0) told first in
    let gap = of_same read files (λ (s : List Summary). IsGap s from.0 to.0 place.0) p.sums q.sums p.kept q.kept q.gap in
    absurd (covered_or_not p.sums place.0 (p.covering.covered place.0 gap.later gap.below) gap.uncovered)
told_once read one from to Untaken Also old new other files (Err (walsummary.Gap place)) (Err (walsummary.Gap at)) some told first second own also =
    let p = at_told old.files files (IsKeptGap from.0 to.0 place.0) told first in
    let q = at_told old.files files (IsKeptGap from.0 to.0 at.0) told second in
    ap gap_at (same_gap p.sums from.0 to.0 place.0 at.0 p.gap (of_same read files (λ (s : List Summary). IsGap s from.0 to.0 at.0) p.sums q.sums p.kept q.kept q.gap))

pub one_walsummary : ReadSummariesAreWritten → SummariesAreOne → HasOneWalsummary
one_walsummary read one from to some old new other a b told first second own also =
    let files = some_told (old.areas sums_name).files (told.files sums_name) in
    told_once read one from to (IsUntaken (sums_name ∷ []) old new) (IsUntaken (sums_name ∷ []) old other) (old.areas sums_name) (new.areas sums_name) (other.areas sums_name) files.0 a b some files.1 first.1 second.1 own also
