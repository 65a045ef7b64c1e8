-- Without the files of all its names an area is empty.
use Rattle.std.proofs.Common.{◌≡◌, ℕ, ◌+◌, ◌<◌, Bool, true, false, cond, ◌||◌, List, [], ◌∷◌, ◌++◌, take, length, get_or, ◌≤◌, Option, None, Some, IfSome, option_map, is_some, refl, ap, sym, ◌∙◌}
use Rattle.std.specs.Ordering.{nat_cmp, eq_by_cmp}
use Rattle.std.specs.List.{list_any}
use Rattle.std.specs.Cmp.Lexicographic.{slice_cmp, nat_list_cmp_total}
use Rattle.std.specs.FinMap.{empty, get, keys, contains_key, remove, contains_key-keys, get-empty, get-remove, same_map, slice_cmp-IsAntisymmetric, nat_cmp-IsAntisymmetric}
use Rattle.std.proofs.lemmas.List.{take_more, take_all}
use Rattle.lsn_core.specs.Files.{Files}
use Rattle.vault.specs.Area.{after_remove}

-- files without those of these names
abbrev pub without : List (List ℕ) → Files → Files
without [] files = files
without (name ∷ names) files = without names (after_remove name files)

-- a name among these has no file
get_without : (names : List (List ℕ)) (files : Files) (q : List ℕ) → get (without names files) q ≡ cond (list_any (eq_by_cmp (slice_cmp nat_cmp) q) names) None (get files q)
get_without [] files q = refl
get_without (name ∷ names) files q = get_without names (remove files name) q ∙ ap (cond (list_any (eq_by_cmp (slice_cmp nat_cmp) q) names) None) (get-remove nat_list_cmp_total files name q) ∙ both (list_any (eq_by_cmp (slice_cmp nat_cmp) q) names) (eq_by_cmp (slice_cmp nat_cmp) q name) (get files q)
  where
    both : (a b : Bool) (o : Option (List ℕ)) → cond a None (cond b None o) ≡ cond (b || a) None o
    both true true o = refl
    both true false o = refl
    both false true o = refl
    both false false o = refl

none_of : (o : Option (List ℕ)) → is_some o ≡ false → o ≡ None
none_of None e = refl
none_of (Some x) e = absurd (cc)

pub all_gone : (files : Files) → without (keys files) files ≡ empty
all_gone files = same_map nat_list_cmp_total (slice_cmp-IsAntisymmetric nat_cmp-IsAntisymmetric) (without (keys files) files) empty (λ q. get_without (keys files) files q ∙ none q ∙ sym (get-empty (slice_cmp nat_cmp) q))
  where
    by_test : (q : List ℕ) (there : Bool) → contains_key files q ≡ there → cond there None (get files q) ≡ None
    by_test q true e = refl
    by_test q false e = none_of (get files q) e

    none : (q : List ℕ) → cond (list_any (eq_by_cmp (slice_cmp nat_cmp) q) (keys files)) None (get files q) ≡ None
    none q = by_test q (list_any (eq_by_cmp (slice_cmp nat_cmp) q) (keys files)) (contains_key-keys files q)

-- one name more
without-push : (names : List (List ℕ)) (files : Files) (name : List ℕ) → without (names ++ (name ∷ [])) files ≡ remove (without names files) name
without-push [] files name = refl
without-push (n ∷ names) files name = without-push names (remove files n) name

pub without_more : (names : List (List ℕ)) (files : Files) (i : ℕ) (name : List ℕ) → i < length names → name ≡ get_or names i name
    → without (take (i + 1) names) files ≡ remove (without (take i names) files) name
without_more names files i name l is = ap (λ ns. without ns files) (take_more names i name l ∙ ap (λ y. take i names ++ (y ∷ [])) (sym is)) ∙ without-push (take i names) files name

pub told_more : (names : List (List ℕ)) (told : Option Files) (i : ℕ) (name : List ℕ) → i < length names → name ≡ get_or names i name
    → option_map (after_remove name) (option_map (λ m. without (take i names) m) told) ≡ option_map (λ m. without (take (i + 1) names) m) told
told_more names None i name l is = refl
told_more names (Some files) i name l is = ap (λ (m : Files). Some m) (sym (without_more names files i name l is))

pub told_gone : (names : List (List ℕ)) (told : Option Files) (i : ℕ) → IfSome told (λ m. names ≡ keys m) → length names ≤ i
    → option_map (λ m. without (take i names) m) told ≡ option_map (λ m. empty) told
told_gone names None i are all = refl
told_gone names (Some files) i are all = ap (λ (m : Files). Some m) (ap (λ ns. without ns files) (take_all i names all ∙ are) ∙ all_gone files)
