-- What a binary search over rows in byte order of their paths finds.
use Rattle.std.proofs.Common.{◌≡◌, ℕ, List, [], ◌∷◌, length, Result, Ok, Err, Ordering, Less, Equal, Greater, is_eq, bytes_eq, sym, ap, ◌∙◌, arith, inl, inr}
use Rattle.std.specs.Ordering.{nat_cmp}
use Rattle.std.specs.Result.{is_ok}
use Rattle.std.specs.List.Sorted.{IsBinarySearchResult, IsSearchInRange, IsSortedByKey}
use Rattle.std.specs.Cmp.Lexicographic.{slice_cmp}
use Rattle.std.proofs.lemmas.Bool.{cases_lt}
use Rattle.std.proofs.lemmas.Cmp.{nat_list_cmp_total}
use Rattle.std.proofs.lemmas.Map.Text.{is_eq-slice_cmp}
use Rattle.std.proofs.lemmas.List.Folds.{list_any_at, list_any_none}
use Rattle.std.proofs.lemmas.List.Sorted.{searchable_from_sorted}
use Rattle.chain_check.specs.Directory.{is_listed}
use Rattle.chain_check.specs.Inside.{path_of}
use Rattle.manifest.specs.declared.listing.FileRow.{FileRow}

same : (a b : List ℕ) (o : Ordering) → slice_cmp nat_cmp a b ≡ o → bytes_eq a b ≡ is_eq o
same a b o e = sym (is_eq-slice_cmp a b) ∙ ap is_eq e

pub searched : (rows : List FileRow) (path : List ℕ) (r : Result ℕ ℕ) → IsSearchInRange r (length rows) → IsBinarySearchResult (λ row. slice_cmp nat_cmp row.path path) rows r → IsSortedByKey path_of (slice_cmp nat_cmp) rows → is_ok r ≡ is_listed rows path
searched [] path (Ok i) within found sorted = absurd (omega arith)
searched (row ∷ rows) path (Ok i) within found sorted = sym (list_any_at (λ x. bytes_eq x.path path) (row ∷ rows) i row within (same _ path Equal (found row)))
searched rows path (Err i) within found sorted =
    let point = found (searchable_from_sorted nat_list_cmp_total path_of rows path sorted) in
    sym (list_any_none (λ row. bytes_eq row.path path) rows (λ k d h. elim (cases_lt k i) [
      | inl lt ↦ same _ path Less (point.0 k d (omega arith) lt)
      | inr le ↦ same _ path Greater (point.1 k d le h)
    ]))
