-- Files that hold a store, and nothing else, are its files; and without any the store is empty.
use Rattle.std.proofs.Common.{◌≡◌, ℕ, ◌<◌, Bool, true, false, cond, ◌||◌, List, [], ◌∷◌, length, Option, Some, None, is_some, unwrap_or, refl, ap, sym, subst, ◌∙◌, arith, true≢false}
use Rattle.std.proofs.lemmas.Bool.{or_left, or_right}
use Rattle.std.specs.List.{AllByRecursion, list_any}
use Rattle.std.specs.Ordering.{nat_cmp}
use Rattle.std.specs.Cmp.Lexicographic.{slice_cmp, nat_list_cmp_total}
use Rattle.std.specs.FinMap.{get, empty, keys, contains_key, contains_key-keys, get-empty, same_map, slice_cmp-IsAntisymmetric, nat_cmp-IsAntisymmetric}
use Rattle.lsn_core.specs.declared.ids.ForkId.{ForkId}
use Rattle.lsn_core.specs.Names.{fork_path_bytes, IsNamed}
use Rattle.lsn_core.specs.Store.{Store, ForkPages, fork_cmp, segment_count, segment_content, segment_in, fork_files, with_files, files_of}
use Rattle.lsn_core.specs.Blocks.{pages_of}
use Rattle.lsn_core.specs.Laws.{HasNamedForks}
use Rattle.lsn_core.proofs.AnyAll.{all_pieces, all_more, all_range}
use Rattle.lsn_core.proofs.StoreFiles.{same_name, name_itself, same_fork, fork_itself, get_with_files, files_at, all_files, held}
use Rattle.rel_files.specs.Forks.{IsForkPath}
use Rattle.rel_files.specs.Laws.{FilesAreExact, EmptyAreasHoldNothing}
use Rattle.rel_files.proofs.SegmentFiles.{renamed, count_fits}
use Rattle.rel_files.proofs.SegmentChanges.{by_name, other_name}

-- ---- the names of a store's files are those of segment files

abbrev IsThere : Store → ForkId → Type 0
IsThere store fork = contains_key store fork ≡ true

listed : (ks all : List ForkId) → ((k : ForkId) → list_any (same_fork k) ks ≡ true → list_any (same_fork k) all ≡ true) → AllByRecursion (λ k. list_any (same_fork k) all ≡ true) ks
listed [] all within = tt
listed (k ∷ ks) all within = (within k (or_left (same_fork k k) _ (fork_itself k)), listed ks all (λ q e. within q (or_right (same_fork q k) _ e)))

keys_there : (store : Store) → AllByRecursion (IsThere store) (keys store)
keys_there store = all_more (λ k. list_any (same_fork k) (keys store) ≡ true) (IsThere store) (keys store) (λ k e. contains_key-keys store k ∙ e) (listed (keys store) (keys store) (λ k e. e))

named_of : (o : Option ForkPages) (fork : ForkId) → is_some o ≡ true → ((pages : ForkPages) → o ≡ Some pages → IsNamed fork (length pages)) → IsNamed fork (length (unwrap_or o []))
named_of None fork there named = absurd cc
named_of (Some pages) fork there named = named pages refl

none_any : {X : Type 0} (test : X → Bool) (xs : List X) → AllByRecursion (λ x. test x ≡ false) xs → list_any test xs ≡ false
none_any test [] all = refl
none_any test (x ∷ xs) all = ap (λ b. b || list_any test xs) all.0 ∙ none_any test xs all.1

no_other : (relseg : ℕ) (store : Store) (path : List ℕ) → 0 < relseg → HasNamedForks store → (IsForkPath path → ⊥) → get (files_of relseg store) path ≡ None
no_other relseg store path some named never =
    let files = files_at relseg store (keys store) in
    let apart : AllByRecursion (λ (f : List ℕ × List ℕ). same_name path f.0 ≡ false) files =
    all_pieces (IsThere store) (λ (f : List ℕ × List ℕ). same_name path f.0 ≡ false) (λ k. fork_files relseg (k, pages_of store k)) (keys store) (λ k there.
    all_range (λ (f : List ℕ × List ℕ). same_name path f.0 ≡ false) (λ seg. (fork_path_bytes k seg false, segment_content relseg (pages_of store k) seg)) 0 (segment_count relseg (length (pages_of store k))) (λ seg least most.
    let in_store = named_of (get store k) k there (named k) in
    other_name path (fork_path_bytes k seg false) (λ e. never (record {
      fork = k;
      seg = seg;
      named = renamed k (length (pages_of store k)) seg in_store (count_fits relseg (length (pages_of store k)) seg some (omega (arith, most)) in_store.seg_fits);
      path_is = e;
    })))) (keys_there store) in
    let any = none_any (λ (f : List ℕ × List ℕ). same_name path f.0) files apart in
    ap (λ (fs : List (List ℕ × List ℕ)). get (with_files empty fs) path) (sym (all_files relseg store))
    ∙ get_with_files empty path [] files (all_more (λ (f : List ℕ × List ℕ). same_name path f.0 ≡ false) (λ f. path ≡ f.0 → f.1 ≡ []) files (λ f e same. absurd (true≢false (sym (subst (λ (q : List ℕ). same_name path q ≡ true) same (name_itself path)) ∙ e))) apart)
    ∙ ap (λ (b : Bool). cond b (Some []) (get {R = slice_cmp nat_cmp} empty path)) any
    ∙ get-empty (slice_cmp nat_cmp) path

-- ---- the files are the store's

-- what isn't without doubt another content is the same one
settled : (a b : Option (List ℕ)) → ((a ≡ b → ⊥) → ⊥) → a ≡ b
settled None None never = refl
settled None (Some y) never = absurd (never (λ e. absurd cc))
settled (Some x) None never = absurd (never (λ e. absurd cc))
settled (Some x) (Some y) never = by_name x y (λ e. ap (λ (bytes : List ℕ). Some bytes) e) (λ ne. absurd (never (λ e. ne (cc e))))

pub files_are_exact : FilesAreExact
files_are_exact relseg files store some holds only =
    same_map nat_list_cmp_total (slice_cmp-IsAntisymmetric nat_cmp-IsAntisymmetric) files (files_of relseg store) (λ path.
    settled (get files path) (get (files_of relseg store) path) (λ differ.
    let other : IsForkPath path → ⊥ = λ p. differ (at path p) in
    differ (only path other ∙ sym (no_other relseg store path some holds.named other))))
  where
    at : (path : List ℕ) → IsForkPath path → get files path ≡ get (files_of relseg store) path
    at path p = ap (get files) p.path_is ∙ holds.segments p.fork p.seg p.named ∙ sym (held relseg store p.fork p.seg some holds.named p.named) ∙ sym (ap (get (files_of relseg store)) p.path_is)

-- ---- no files at all

pub nothing_is_held : EmptyAreasHoldNothing
nothing_is_held relseg files none = record {
  segments = λ fork seg named.
      none (fork_path_bytes fork seg false) (record { fork = fork; seg = seg; named = named; path_is = refl }) ∙ sym (ap (segment_in relseg seg) (get-empty fork_cmp fork));
  named = λ fork pages e. absurd (nothing fork pages e);
  held = λ fork pages e. absurd (nothing fork pages e);
}
  where
    nothing : (fork : ForkId) (pages : ForkPages) → get {R = fork_cmp} empty fork ≡ Some pages → ⊥
    nothing fork pages e = let none : None ≡ Some pages = sym (get-empty fork_cmp fork) ∙ e in cc
