use Rattle.std.proofs.Common.{◌≡◌, ℕ, Some, List, [], ◌∷◌, map, All, refl, sym, subst, arith, Less}
use Rattle.std.specs.List.Sorted.{IsStrictlySortedBy}
use Rattle.std.specs.Ordering.{nat_cmp}
use Rattle.std.specs.Cmp.Lexicographic.{slice_cmp}
use Rattle.std.proofs.lemmas.List.Elements.{All-from_recursion}
use Rattle.manifest.specs.Text.{IsWritableRow, IsWritable}
use Rattle.manifest.specs.declared.listing.FileRow.{FileRow}
use Rattle.backup_tests.proofs.manifest_tests.two_files.Goals as goal

rising : (a b : FileRow) (p q : List ℕ) → a.path ≡ p → b.path ≡ q → slice_cmp nat_cmp p q ≡ Less → IsStrictlySortedBy (slice_cmp nat_cmp) (map (λ row. row.path) (a ∷ b ∷ []))
unfolding IsStrictlySortedBy
rising a b p q e f less = ((rw (e, f) less, tt), (tt, tt))

writable : (a b : FileRow) (p q : List ℕ) (files : List FileRow) → files ≡ a ∷ b ∷ [] → IsWritableRow a → IsWritableRow b → a.path ≡ p → b.path ≡ q → slice_cmp nat_cmp p q ≡ Less
    → IsWritable (record { version = 2; system = Some 7; files = files; start = 1048720; end = 1048848 })
writable a b p q files both first second e f less = record {
  version = refl;
  system = refl;
  rows = subst (All IsWritableRow) (sym both) (All-from_recursion IsWritableRow (a ∷ b ∷ []) (first, (second, tt)));
  order = subst (λ (l : List FileRow). IsStrictlySortedBy (slice_cmp nat_cmp) (map (λ row. row.path) l)) (sym both) (rising a b p q e f less);
  rises = omega arith;
}

pub returns : goal.returns
returns c =
    writable c.in_ok-first.first c.in_ok-second.second _ _ c.push-2.new.self.items (rw (c.in_ok-push-2.ensures.items, c.in_ok-push.ensures.items, c.new-files.ensures.items) refl)
    c.in_ok-first.ensures.writable c.in_ok-second.ensures.writable c.in_ok-first.ensures.same_path c.in_ok-second.ensures.same_path refl
