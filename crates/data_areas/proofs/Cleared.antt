-- Files after all of their names were removed, or all but the mark.
use Rattle.std.proofs.Common.{◌≡◌, ℕ, ◌+◌, ◌<◌, Bool, true, false, cond, ◌||◌, List, [], ◌∷◌, ◌++◌, take, length, get_or, ◌≤◌, Option, None, Some, IfSome, option_map, is_some, refl, ap, sym, subst, ◌∙◌}
use Rattle.std.specs.Prelude.{◌≢◌, bytes_eq}
use Rattle.std.specs.Ordering.{nat_cmp, eq_by_cmp}
use Rattle.std.specs.List.{list_any}
use Rattle.std.specs.Cmp.Lexicographic.{slice_cmp, nat_list_cmp_total}
use Rattle.std.specs.FinMap.{empty, get, keys, contains_key, remove, contains_key-keys, get-empty, get-remove, same_map, slice_cmp-IsAntisymmetric, nat_cmp-IsAntisymmetric}
use Rattle.std.proofs.lemmas.List.{take_more, take_all}
use Rattle.std.proofs.lemmas.Slice.Eq.{bytes_eq-Decides}
use Rattle.std.specs.Cmp.{Equal-is}
use Rattle.lsn_core.specs.Files.{Files}
use Rattle.vault.specs.Area.{after_remove}
use Rattle.data_areas.specs.Marking.{rebuilding_name, HasOnly}
use Rattle.data_areas.specs.Inside.{without, without_other, without_others}

abbrev is_among : List ℕ → List (List ℕ) → Bool
is_among q names = list_any (eq_by_cmp (slice_cmp nat_cmp) q) names

both : (a b : Bool) (o : Option (List ℕ)) → cond a None (cond b None o) ≡ cond (b || a) None o
both true true o = refl
both true false o = refl
both false true o = refl
both false false o = refl

-- a name among these has no file
get_without : (names : List (List ℕ)) (files : Files) (q : List ℕ) → get (without names files) q ≡ cond (is_among q names) None (get files q)
get_without [] files q = refl
get_without (name ∷ names) files q = get_without names (remove files name) q ∙ ap (cond (is_among q names) None) (get-remove nat_list_cmp_total files name q) ∙ both (is_among q names) (eq_by_cmp (slice_cmp nat_cmp) q name) (get files q)

-- the removal of the mark's name is not seen at other names
pub apart_removed : (files : Files) (name q : List ℕ) → q ≢ name → get (remove files name) q ≡ get files q
apart_removed files name q other = by_test (eq_by_cmp (slice_cmp nat_cmp) q name) refl
  where
    by_test : (same : Bool) → eq_by_cmp (slice_cmp nat_cmp) q name ≡ same → get (remove files name) q ≡ get files q
    by_test true e = absurd (other (slice_cmp-IsAntisymmetric nat_cmp-IsAntisymmetric q name ((Equal-is _).0 e)))
    by_test false e = get-remove nat_list_cmp_total files name q ∙ ap (λ c. cond c None (get files q)) e

get_other : (name : List ℕ) (files : Files) (q : List ℕ) → q ≢ rebuilding_name → get (without_other name files) q ≡ get (remove files name) q
get_other name files q other = by_test (bytes_eq name rebuilding_name) refl
  where
    by_test : (mark : Bool) → bytes_eq name rebuilding_name ≡ mark → get (cond mark files (remove files name)) q ≡ get (remove files name) q
    by_test true e = sym (apart_removed files name q (λ same. other (same ∙ (bytes_eq-Decides name rebuilding_name).0 e)))
    by_test false e = refl

-- among other names than the mark's
get_without_others : (names : List (List ℕ)) (files : Files) (q : List ℕ) → q ≢ rebuilding_name → get (without_others names files) q ≡ cond (is_among q names) None (get files q)
get_without_others [] files q other = refl
get_without_others (name ∷ names) files q other =
    get_without_others names (without_other name files) q other
    ∙ ap (cond (is_among q names) None) (get_other name files q other ∙ get-remove nat_list_cmp_total files name q)
    ∙ both (is_among q names) (eq_by_cmp (slice_cmp nat_cmp) q name) (get files q)

none_of : (o : Option (List ℕ)) → is_some o ≡ false → o ≡ None
none_of None e = refl
none_of (Some x) e = absurd (cc)

none_named : (files : Files) (q : List ℕ) → cond (is_among q (keys files)) None (get files q) ≡ None
none_named files q = by_test (is_among q (keys files)) (contains_key-keys files q)
  where
    by_test : (there : Bool) → contains_key files q ≡ there → cond there None (get files q) ≡ None
    by_test true e = refl
    by_test false e = none_of (get files q) e

pub all_gone : (files : Files) → without (keys files) files ≡ empty
all_gone files = same_map nat_list_cmp_total (slice_cmp-IsAntisymmetric nat_cmp-IsAntisymmetric) (without (keys files) files) empty (λ q. get_without (keys files) files q ∙ none_named files q ∙ sym (get-empty (slice_cmp nat_cmp) q))

-- one name more
without-push : (names : List (List ℕ)) (files : Files) (name : List ℕ) → without (names ++ (name ∷ [])) files ≡ remove (without names files) name
without-push [] files name = refl
without-push (n ∷ names) files name = without-push names (remove files n) name

pub without_more : (names : List (List ℕ)) (files : Files) (i : ℕ) (name : List ℕ) → i < length names → name ≡ get_or names i name
    → without (take (i + 1) names) files ≡ remove (without (take i names) files) name
without_more names files i name l is = ap (λ ns. without ns files) (take_more names i name l ∙ ap (λ y. take i names ++ (y ∷ [])) (sym is)) ∙ without-push (take i names) files name

pub told_more : (names : List (List ℕ)) (told : Option Files) (i : ℕ) (name : List ℕ) → i < length names → name ≡ get_or names i name
    → option_map (after_remove name) (option_map (λ m. without (take i names) m) told) ≡ option_map (λ m. without (take (i + 1) names) m) told
told_more names None i name l is = refl
told_more names (Some files) i name l is = ap (λ (m : Files). Some m) (sym (without_more names files i name l is))

pub told_gone : (names : List (List ℕ)) (told : Option Files) (i : ℕ) → IfSome told (λ m. names ≡ keys m) → length names ≤ i
    → option_map (λ m. without (take i names) m) told ≡ option_map (λ m. empty) told
told_gone names None i are all = refl
told_gone names (Some files) i are all = ap (λ (m : Files). Some m) (ap (λ ns. without ns files) (take_all i names all ∙ are) ∙ all_gone files)

pub mark_left : (files : Files) → HasOnly rebuilding_name (without_others (keys files) files)
mark_left files q other = get_without_others (keys files) files q other ∙ none_named files q

without_others-push : (names : List (List ℕ)) (files : Files) (name : List ℕ) → without_others (names ++ (name ∷ [])) files ≡ without_other name (without_others names files)
without_others-push [] files name = refl
without_others-push (n ∷ names) files name = without_others-push names (without_other n files) name

pub others_more : (names : List (List ℕ)) (told : Option Files) (i : ℕ) (name : List ℕ) → i < length names → name ≡ get_or names i name
    → option_map (without_other name) (option_map (λ m. without_others (take i names) m) told) ≡ option_map (λ m. without_others (take (i + 1) names) m) told
others_more names None i name l is = refl
others_more names (Some files) i name l is =
    ap (λ (m : Files). Some m) (sym (ap (λ ns. without_others ns files) (take_more names i name l ∙ ap (λ y. take i names ++ (y ∷ [])) (sym is)) ∙ without_others-push (take i names) files name))

pub others_gone : (names : List (List ℕ)) (told now : Option Files) (i : ℕ) → IfSome told (λ m. names ≡ keys m) → length names ≤ i
    → now ≡ option_map (λ m. without_others (take i names) m) told → IfSome now (HasOnly rebuilding_name)
others_gone names None now i are all e = subst (λ (o : Option Files). IfSome o (HasOnly rebuilding_name)) (sym e) tt
others_gone names (Some files) now i are all e =
    subst (λ (o : Option Files). IfSome o (HasOnly rebuilding_name)) (sym (e ∙ ap (λ (ns : List (List ℕ)). Some (without_others ns files)) (take_all i names all ∙ are))) (mark_left files)
