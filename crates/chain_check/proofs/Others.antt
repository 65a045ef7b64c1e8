-- That no file stands beside those that may, by the names in order.
use Rattle.std.proofs.Common.{◌≡◌, ℕ, Bool, true, false, cond, not, ◌||◌, List, [], ◌∷◌, Option, Some, None, is_some, is_eq, refl, sym, ap, subst, ◌∙◌, Ordering, Less, Equal, Greater}
use Rattle.std.specs.Ordering.{nat_cmp, eq_by_cmp}
use Rattle.std.specs.List.{find, list_any}
use Rattle.std.specs.Option.{option_map}
use Rattle.std.specs.Cmp.Lexicographic.{slice_cmp}
use Rattle.std.proofs.lemmas.Map.Text.{is_eq-slice_cmp}
use Rattle.std.proofs.lemmas.Slice.Eq.{bytes_eq-Decides}
use Rattle.std.specs.FinMap.{get, keys, contains_key-keys, slice_cmp-IsAntisymmetric, nat_cmp-IsAntisymmetric}
use Rattle.lsn_core.specs.Files.{Files}
use Rattle.manifest.specs.declared.listing.FileRow.{FileRow}
use Rattle.chain_check.specs.Directory.{may_stand, HasNoOther}
use Rattle.chain_check.specs.Refusals.{extra_fault}
use Rattle.chain_check.specs.declared.fault.ChainFault.TheVariants.{FileExtra}

abbrev same_name : List ℕ → List ℕ → Bool
same_name = eq_by_cmp (slice_cmp nat_cmp)

equal : (o : Ordering) → is_eq o ≡ true → o ≡ Equal
equal Less e = absurd (cc)
equal Equal e = refl
equal Greater e = absurd (cc)

one_name : (a b : List ℕ) → same_name a b ≡ true → a ≡ b
one_name a b e = slice_cmp-IsAntisymmetric nat_cmp-IsAntisymmetric a b (equal (slice_cmp nat_cmp a b) e)

-- ---- no name passes a test

passes_first : {X : Type 0} (b : Bool) (x : X) (rest : Option X) → b ≡ true → cond b (Some x) rest ≡ None → ⊥
passes_first true x rest b e = cc
passes_first false x rest b e = cc

skipped : {X : Type 0} (b : Bool) (x : X) (rest : Option X) → cond b (Some x) rest ≡ None → rest ≡ None
skipped true x rest e = absurd (cc)
skipped false x rest e = e

either : (a b : Bool) → (a || b) ≡ true → (a ≡ true → ⊥) → b ≡ true
either true b e never = absurd (never refl)
either false b e never = e

none_passes : (test : List ℕ → Bool) (names : List (List ℕ)) (name : List ℕ) → find test names ≡ None → test name ≡ true → list_any (same_name name) names ≡ true → ⊥
none_passes test [] name e passes there = cc
none_passes test (first ∷ names) name e passes there =
    none_passes test names name (skipped (test first) first (find test names) e) passes
    (either (same_name name first) (list_any (same_name name) names) there (λ is. passes_first (test first) first (find test names) (subst (λ (n : List ℕ). test n ≡ true) (one_name name first is) passes) e))

-- ---- some name passes

behind : (a b : Bool) → b ≡ true → (a || b) ≡ true
behind true b e = refl
behind false b e = e

itself : (name : List ℕ) → same_name name name ≡ true
itself name = is_eq-slice_cmp name name ∙ (bytes_eq-Decides name name).1 refl

abbrev Passes : (List ℕ → Bool) → List (List ℕ) → List ℕ → Type 0
Passes test names name = (test name ≡ true) × (list_any (same_name name) names ≡ true)

passes_at : (test : List ℕ → Bool) (first : List ℕ) (names : List (List ℕ)) (name : List ℕ) → (find test names ≡ Some name → Passes test names name) → (b : Bool) → test first ≡ b → cond b (Some first) (find test names) ≡ Some name → Passes test (first ∷ names) name
passes_at test first names name later true passes e =
    let is : first ≡ name = cc in (
      subst (λ (n : List ℕ). test n ≡ true) is passes,
      subst (λ (n : List ℕ). (same_name n first || list_any (same_name n) names) ≡ true) is (ap (λ b. b || list_any (same_name first) names) (itself first)),
    )
passes_at test first names name later false fails e = let rest = later e in (rest.0, behind (same_name name first) (list_any (same_name name) names) rest.1)

-- what is found passes, and is among the names
found_passes : (test : List ℕ → Bool) (names : List (List ℕ)) (name : List ℕ) → find test names ≡ Some name → (test name ≡ true) × (list_any (same_name name) names ≡ true)
found_passes test [] name e = absurd (cc)
found_passes test (first ∷ names) name e = passes_at test first names name (λ rest. found_passes test names name rest) (test first) refl e

-- ---- the files of a directory

there : (files : Files) (name : List ℕ) → list_any (same_name name) (keys files) ≡ true → get files name ≡ None → ⊥
there files name among missing =
    let has : is_some (get files name) ≡ true = contains_key-keys files name ∙ among in
    let hasnt : is_some (get files name) ≡ false = ap is_some missing in cc

not_there : (files : Files) (name : List ℕ) → (list_any (same_name name) (keys files) ≡ true → ⊥) → get files name ≡ None
not_there files name never = by (get files name) (contains_key-keys files name)
  where
    by : (o : Option (List ℕ)) → is_some o ≡ list_any (same_name name) (keys files) → o ≡ None
    by None e = refl
    by (Some bytes) e = absurd (never (sym e))

negated : (b : Bool) → b ≡ false → not b ≡ true
negated true e = absurd (cc)
negated false e = refl

denied : (b : Bool) → not b ≡ true → b ≡ false
denied true e = absurd (cc)
denied false e = refl

no_fault : (found : Option (List ℕ)) → option_map (λ name. FileExtra name) found ≡ None → found ≡ None
no_fault None e = refl
no_fault (Some name) e = absurd (cc)

abbrev extra : List FileRow → List ℕ → Bool
extra rows name = not (may_stand rows name)

pub none_other : (files : Files) (rows : List FileRow) → extra_fault files rows ≡ None → HasNoOther files rows
none_other files rows e name stands =
    not_there files name (none_passes (extra rows) (keys files) name (no_fault (find (extra rows) (keys files)) e) (negated (may_stand rows name) stands))

pub no_extra : (files : Files) (rows : List FileRow) → HasNoOther files rows → extra_fault files rows ≡ None
no_extra files rows none = by (find (extra rows) (keys files)) refl
  where
    by : (found : Option (List ℕ)) → find (extra rows) (keys files) ≡ found → option_map (λ name. FileExtra name) found ≡ None
    by None e = refl
    by (Some name) e =
        let passes = found_passes (extra rows) (keys files) name e in
        absurd (there files name passes.1 (none name (denied (may_stand rows name) passes.0)))

-- what a search among the names answers
pub extra_is : (files : Files) (rows : List FileRow) (names : List (List ℕ)) (found : Option (List ℕ)) → names ≡ keys files → found ≡ find (extra rows) names → extra_fault files rows ≡ option_map (λ name. FileExtra name) found
extra_is files rows names found e f =
    let same : find (extra rows) (keys files) ≡ found = ap (λ (ns : List (List ℕ)). find (extra rows) ns) (sym e) ∙ sym f in
    ap (λ (o : Option (List ℕ)). option_map (λ name. FileExtra name) o) same
