-- The files of a store have distinct names, and each holds its segment.
use Rattle.std.proofs.Common.{◌≡◌, ℕ, ◌+◌, ◌-◌, ◌/◌, ◌^◌, ◌<◌, ◌≤◌, Bool, true, false, cond, T, ◌&&◌, ◌||◌, List, [], ◌∷◌, ◌++◌, map, length, Option, Some, None, is_some, unwrap_or, zero, suc, refl, sym, ap, subst, ◌∙◌, arith, nat_lt}
use Rattle.std.specs.List.{AllByRecursion, IsDistinct, list_any, flat_map, range_with_len}
use Rattle.std.specs.declared.cmp.Ordering.{Ordering}
use Rattle.std.specs.declared.cmp.Ordering.TheVariants.{Less, Equal, Greater}
use Rattle.std.specs.Ordering.{nat_cmp, is_lt, is_eq, eq_by_cmp}
use Rattle.std.specs.Cmp.{eq_by_cmp_equiv, Equal-is}
use Rattle.std.specs.Cmp.Lexicographic.{slice_cmp, nat_list_cmp_total}
use Rattle.std.specs.FinMap.{find, get, insert, empty, keys, entries, entries_sorted, is_sorted, contains_key, contains_key-keys, get-entries, get-insert, get-empty, slice_cmp-IsAntisymmetric, nat_cmp-IsAntisymmetric}
use Rattle.std.specs.FinMap.Entries.{below_all}
use Rattle.std.proofs.lemmas.Bool.{or_left, or_right, and_from, and_parts, false_from_ne_true, lt-ltb, ltb-true, both_ways}
use Rattle.std.proofs.lemmas.List.Folds.{flat_map-map}
use Rattle.std.proofs.lemmas.Simd.{map-map}
use Rattle.std.proofs.Math.Nat.{div-le_of_le-mul}
use Rattle.lsn_core.specs.declared.ids.ForkId.{ForkId}
use Rattle.lsn_core.specs.Files.{Files}
use Rattle.lsn_core.specs.Names.{fork_path_bytes, IsNamed}
use Rattle.lsn_core.specs.Store.{Store, ForkPages, fork_cmp, segment_count, segment_content, fork_files, with_files, store_files, files_of, segment_in}
use Rattle.lsn_core.specs.Blocks.{pages_of}
use Rattle.lsn_core.specs.Laws.{HasNamedForks}
use Rattle.lsn_core.proofs.ForkOrder.{fork_cmp_total, fork_cmp-IsAntisymmetric}
use Rattle.lsn_core.proofs.ForkPaths.{one_place}
use Rattle.lsn_core.proofs.AnyAll.{same_bools, all_pieces, all_more, all_range, any_pieces, any_range, range_any, any_at, AreApart, distinct_pieces, distinct_range, map_pieces}

-- the names of files, and of forks, as maps tell them apart
abbrev pub same_name : List ℕ → List ℕ → Bool
same_name a b = eq_by_cmp (slice_cmp nat_cmp) a b

abbrev pub same_fork : ForkId → ForkId → Bool
same_fork a b = eq_by_cmp fork_cmp a b

pub names_tie : (a b : List ℕ) → same_name a b ≡ true → a ≡ b
names_tie a b e = slice_cmp-IsAntisymmetric nat_cmp-IsAntisymmetric a b ((Equal-is _).0 e)

pub forks_tie : (a b : ForkId) → same_fork a b ≡ true → a ≡ b
forks_tie a b e = fork_cmp-IsAntisymmetric a b ((Equal-is _).0 e)

pub name_itself : (a : List ℕ) → same_name a a ≡ true
name_itself a = (eq_by_cmp_equiv nat_list_cmp_total).refl a

pub fork_itself : (a : ForkId) → same_fork a a ≡ true
fork_itself a = (eq_by_cmp_equiv fork_cmp_total).refl a

-- Files are put into a directory one after the other.

pub with_files-append : (m : Files) (xs ys : List (List ℕ × List ℕ)) → with_files m (xs ++ ys) ≡ with_files (with_files m xs) ys
with_files-append m [] ys = refl
with_files-append m (x ∷ xs) ys = with_files-append (insert m x.0 x.1) xs ys

hidden : {A : Type 0} (b c : Bool) (x z : A) → cond b x (cond c x z) ≡ cond (c || b) x z
hidden true true x z = refl
hidden true false x z = refl
hidden false true x z = refl
hidden false false x z = refl

one_content : {A : Type 0} (b : Bool) (y x : A) (o : Option A) → (b ≡ true → y ≡ x) → cond b (Some y) o ≡ cond b (Some x) o
one_content true y x o e = ap (λ z. Some z) (e refl)
one_content false y x o e = refl

-- where all files of a name have one content, the name leads to it
pub get_with_files : (m : Files) (q x : List ℕ) (files : List (List ℕ × List ℕ)) → AllByRecursion (λ f. q ≡ f.0 → f.1 ≡ x) files → get (with_files m files) q ≡ cond (list_any (λ f. same_name q f.0) files) (Some x) (get m q)
get_with_files m q x [] all = refl
get_with_files m q x (f ∷ files) all =
    get_with_files (insert m f.0 f.1) q x files all.1
    ∙ ap (cond (list_any (λ g. same_name q g.0) files) (Some x)) (get-insert nat_list_cmp_total m f.0 f.1 q ∙ one_content (same_name q f.0) f.1 x (get m q) (λ e. all.0 (names_tie q f.0 e)))
    ∙ hidden (list_any (λ g. same_name q g.0) files) (same_name q f.0) (Some x) (get m q)

-- A store's files are those of its forks, each with its pages.

left : (a b : Bool) → T (a && b) → T a
left true b p = tt
left false b p = p

right : (a b : Bool) → T (a && b) → T b
right true b p = p
right false b p = absurd p

less : (r : Ordering) → T (is_lt r) → is_eq r ≡ false
less Less p = refl
less Equal p = absurd p
less Greater p = absurd p

abbrev Forks : Type 0
Forks = List (ForkId × ForkPages)

-- an entry with what is found at its key
abbrev read_in : Forks → ForkId × ForkPages → ForkId × ForkPages
read_in es x = (x.0, unwrap_or (find fork_cmp x.0 es) [])

-- an entry before all these hides none of them
skipped : (e : ForkId × ForkPages) (es fs : Forks) → T (below_all fork_cmp e.0 fs) → map (read_in (e ∷ es)) fs ≡ map (read_in es) fs
skipped e es [] h = refl
skipped e es (x ∷ fs) h =
    let apart : eq_by_cmp fork_cmp x.0 e.0 ≡ false = (eq_by_cmp_equiv fork_cmp_total).symm x.0 e.0 ∙ less (fork_cmp e.0 x.0) (left _ _ h) in
    ap (λ (b : Bool). (x.0, unwrap_or (cond b (Some e.1) (find fork_cmp x.0 es)) []) ∷ map (read_in (e ∷ es)) fs) apart
    ∙ ap (λ (rest : Forks). read_in es x ∷ rest) (skipped e es fs (right _ _ h))

found : (es : Forks) → T (is_sorted fork_cmp es) → map (read_in es) es ≡ es
found [] h = refl
found (e ∷ es) h =
    ap (λ (b : Bool). (e.0, unwrap_or (cond b (Some e.1) (find fork_cmp e.0 es)) []) ∷ map (read_in (e ∷ es)) es) (fork_itself e.0)
    ∙ ap (λ (rest : Forks). e ∷ rest) (skipped e es es (left _ _ h) ∙ found es (right _ _ h))

-- the files of some forks of a store
abbrev pub files_at : ℕ → Store → List ForkId → List (List ℕ × List ℕ)
files_at relseg store forks = flat_map (λ fork. fork_files relseg (fork, pages_of store fork)) forks

-- at its forks a store has the pages of its entries
pub all_files : (relseg : ℕ) (store : Store) → files_at relseg store (keys store) ≡ store_files relseg store
all_files relseg store =
    flat_map-map (λ (fork : ForkId). fork_files relseg (fork, pages_of store fork)) (λ (e : ForkId × ForkPages). e.0) (entries store)
    ∙ sym (flat_map-map (fork_files relseg) (λ (e : ForkId × ForkPages). (e.0, pages_of store e.0)) (entries store))
    ∙ ap (flat_map (fork_files relseg)) (
    ap (λ (g : ForkId → Option ForkPages). map (λ (e : ForkId × ForkPages). (e.0, unwrap_or (g e.0) [])) (entries store)) (λ i q. get-entries store q i)
    ∙ found (entries store) (entries_sorted store))

-- The keys of a store.

abbrev forks_of : Forks → List ForkId
forks_of es = map (λ e. e.0) es

behind_first : (k : ForkId) (es : Forks) → T (below_all fork_cmp k es) → AllByRecursion (λ q. same_fork k q ≡ false) (forks_of es)
behind_first k [] h = tt
behind_first k (e ∷ es) h = (less (fork_cmp k e.0) (left _ _ h), behind_first k es (right _ _ h))

distinct_forks : (es : Forks) → T (is_sorted fork_cmp es) → IsDistinct same_fork (forks_of es)
unfolding IsDistinct
distinct_forks [] h = tt
distinct_forks (e ∷ es) h = (behind_first e.0 es (left _ _ h), distinct_forks es (right _ _ h))

members : (ks all : List ForkId) → ((k : ForkId) → list_any (same_fork k) ks ≡ true → list_any (same_fork k) all ≡ true) → AllByRecursion (λ k. list_any (same_fork k) all ≡ true) ks
members [] all within = tt
members (k ∷ ks) all within =
    (within k (or_left (same_fork k k) _ (fork_itself k)), members ks all (λ q e. within q (or_right (same_fork q k) _ e)))

-- its forks are named
named_of : (o : Option ForkPages) (fork : ForkId) → is_some o ≡ true → ((pages : ForkPages) → o ≡ Some pages → IsNamed fork (length pages)) → IsNamed fork (length (unwrap_or o []))
named_of None fork some named = absurd cc
named_of (Some pages) fork some named = named pages refl

abbrev IsNamedIn : Store → ForkId → Type 0
IsNamedIn store fork = IsNamed fork (length (pages_of store fork))

all_named : (store : Store) → HasNamedForks store → AllByRecursion (IsNamedIn store) (keys store)
all_named store named =
    all_more (λ k. list_any (same_fork k) (keys store) ≡ true) (IsNamedIn store) (keys store) (λ k e. named_of (get store k) k (contains_key-keys store k ∙ e) (named k)) (members (keys store) (keys store) (λ k e. e))

-- and so are the segments that they have
count_fits : (relseg blocks seg : ℕ) → 0 < relseg → seg < segment_count relseg blocks → blocks < 2 ^ 32 → seg < 2 ^ 32
count_fits zero blocks seg some lt fits = absurd (omega (arith, some))
count_fits (suc r) blocks seg some lt fits =
    let most : (blocks + (suc r - 1)) / suc r ≤ blocks + 1 = div-le_of_le-mul (suc r) (omega arith) in
    omega (arith, lt, most, fits)

named_at : (fork : ForkId) (relseg blocks seg : ℕ) → 0 < relseg → IsNamed fork blocks → seg < segment_count relseg blocks → IsNamed fork seg
named_at fork relseg blocks seg some named lt = record {
  some_db = named.some_db;
  db_fits = named.db_fits;
  some_rel = named.some_rel;
  rel_fits = named.rel_fits;
  seg_fits = count_fits relseg blocks seg some lt named.seg_fits;
}

-- the files of a fork, by their segments
abbrev file_at : ℕ → Store → ForkId → ℕ → List ℕ × List ℕ
file_at relseg store fork seg = (fork_path_bytes fork seg false, segment_content relseg (pages_of store fork) seg)

abbrev count_of : ℕ → Store → ForkId → ℕ
count_of relseg store fork = segment_count relseg (length (pages_of store fork))

-- two named segments whose paths are one
one_segment : (a b : ForkId) (s t : ℕ) → IsNamed a s → IsNamed b t → fork_path_bytes a s false ≡ fork_path_bytes b t false → (a ≡ b) × (s ≡ t)
one_segment a b s t x y e = let one = one_place a b s t false false x y e in (one.0, one.1.0)

-- each file of the path has the segment's content
one_file : (relseg : ℕ) (store : Store) (fork k : ForkId) (seg s : ℕ) → IsNamed fork seg → IsNamed k s → fork_path_bytes fork seg false ≡ (file_at relseg store k s).0
    → (file_at relseg store k s).1 ≡ segment_content relseg (pages_of store fork) seg
one_file relseg store fork k seg s is named e =
    let one = one_segment fork k seg s is named e in
    ap (λ (f : ForkId). segment_content relseg (pages_of store f) s) (sym one.0) ∙ ap (segment_content relseg (pages_of store fork)) (sym one.1)

-- whether the files of a fork have the path
has_path : (relseg : ℕ) (store : Store) (fork k : ForkId) (seg : ℕ) → 0 < relseg → IsNamed fork seg → IsNamedIn store k
    → list_any (λ f. same_name (fork_path_bytes fork seg false) f.0) (fork_files relseg (k, pages_of store k)) ≡ (same_fork fork k && nat_lt seg (count_of relseg store k))
has_path relseg store fork k seg some is named =
    let test : List ℕ × List ℕ → Bool = λ f. same_name (fork_path_bytes fork seg false) f.0 in
    let count = count_of relseg store k in
    same_bools (list_any test (map (file_at relseg store k) (range_with_len 0 count))) (same_fork fork k && nat_lt seg count) (λ e.
    let r = range_any test (file_at relseg store k) 0 count e in
    let within : r.at < count = omega (arith, r.most) in
    let one = one_segment fork k seg r.at is (named_at k relseg (length (pages_of store k)) r.at some named within) (names_tie (fork_path_bytes fork seg false) (fork_path_bytes k r.at false) r.passes) in
    and_from (same_fork fork k) (nat_lt seg count) (subst (λ (f : ForkId). same_fork fork f ≡ true) one.0 (fork_itself fork)) (lt-ltb seg count (omega (arith, within, one.1)))) (λ e.
    let both = and_parts (same_fork fork k) (nat_lt seg count) e in
    any_range test (file_at relseg store k) 0 count seg (omega arith) (omega (arith, ltb-true seg count both.1))
    (subst (λ (f : ForkId). same_name (fork_path_bytes fork seg false) (fork_path_bytes f seg false) ≡ true) (forks_tie fork k both.0) (name_itself (fork_path_bytes fork seg false))))

-- what a fork that may be there has at a segment
at_fork : (relseg seg : ℕ) (o : Option ForkPages) → cond (is_some o && nat_lt seg (segment_count relseg (length (unwrap_or o [])))) (Some (segment_content relseg (unwrap_or o []) seg)) None ≡ segment_in relseg seg o
at_fork relseg seg None = refl
at_fork relseg seg (Some pages) = refl

pub held : (relseg : ℕ) (store : Store) (fork : ForkId) (seg : ℕ) → 0 < relseg → HasNamedForks store → IsNamed fork seg → get (files_of relseg store) (fork_path_bytes fork seg false) ≡ segment_in relseg seg (get store fork)
held relseg store fork seg some named is =
    let path = fork_path_bytes fork seg false in
    let content = segment_content relseg (pages_of store fork) seg in
    let files = files_at relseg store (keys store) in
    let one : AllByRecursion (λ f. path ≡ f.0 → f.1 ≡ content) files =
    all_pieces (IsNamedIn store) (λ f. path ≡ f.0 → f.1 ≡ content) (λ k. fork_files relseg (k, pages_of store k)) (keys store) (λ k in_store.
    all_range (λ f. path ≡ f.0 → f.1 ≡ content) (file_at relseg store k) 0 (count_of relseg store k) (λ s least most.
    one_file relseg store fork k seg s is (named_at k relseg (length (pages_of store k)) s some in_store (omega (arith, most))))) (all_named store named) in
    let any : list_any (λ f. same_name path f.0) files ≡ list_any (λ k. same_fork fork k && nat_lt seg (count_of relseg store k)) (keys store) =
    any_pieces (IsNamedIn store) (λ f. same_name path f.0) (λ k. same_fork fork k && nat_lt seg (count_of relseg store k)) (λ k. fork_files relseg (k, pages_of store k)) (keys store) (λ k in_store.
    has_path relseg store fork k seg some is in_store) (all_named store named) in
    let there : list_any (λ f. same_name path f.0) files ≡ (contains_key store fork && nat_lt seg (count_of relseg store fork)) =
    any ∙ any_at same_fork fork (λ k. nat_lt seg (count_of relseg store k)) (keys store) (forks_tie fork) ∙ ap (λ b. b && nat_lt seg (count_of relseg store fork)) (sym (contains_key-keys store fork)) in
    ap (λ (fs : List (List ℕ × List ℕ)). get (with_files empty fs) path) (sym (all_files relseg store))
    ∙ get_with_files empty path content files one
    ∙ ap (λ (b : Bool). cond b (Some content) (get {R = slice_cmp nat_cmp} empty path)) there
    ∙ ap (λ (o : Option (List ℕ)). cond (contains_key store fork && nat_lt seg (count_of relseg store fork)) (Some content) o) (get-empty (slice_cmp nat_cmp) path)
    ∙ at_fork relseg seg (get store fork)

-- the names of a fork's files
abbrev names_of : ℕ → Store → ForkId → List (List ℕ)
names_of relseg store fork = map (λ f. f.0) (fork_files relseg (fork, pages_of store fork))

distinct_in_fork : (relseg : ℕ) (store : Store) (k : ForkId) → 0 < relseg → IsNamedIn store k → IsDistinct same_name (names_of relseg store k)
distinct_in_fork relseg store k some named =
    subst (IsDistinct same_name) (sym (map-map (λ f. f.0) (file_at relseg store k) (range_with_len 0 (count_of relseg store k))))
    (distinct_range same_name (λ s. fork_path_bytes k s false) 0 (count_of relseg store k) (λ s t lt within. false_from_ne_true (same_name (fork_path_bytes k s false) (fork_path_bytes k t false)) (λ e.
    let fits = named_at k relseg (length (pages_of store k)) in
    let one = one_segment k k s t (fits s some named (omega (arith, lt, within))) (fits t some named (omega (arith, within))) (names_tie (fork_path_bytes k s false) (fork_path_bytes k t false) e) in
    omega (arith, one.1, lt))))

-- the files of two forks differ in their names
apart_forks : (relseg : ℕ) (store : Store) (k z : ForkId) → 0 < relseg → IsNamedIn store k → IsNamedIn store z → same_fork k z ≡ false → AreApart same_name (names_of relseg store k) (names_of relseg store z)
apart_forks relseg store k z some k_named z_named apart =
    let path : ForkId → ℕ → List ℕ = λ f s. fork_path_bytes f s false in
    let names : (f : ForkId) → names_of relseg store f ≡ map (path f) (range_with_len 0 (count_of relseg store f)) = λ f. map-map (λ g. g.0) (file_at relseg store f) (range_with_len 0 (count_of relseg store f)) in
    let differ : (s t : ℕ) → s < count_of relseg store k → t < count_of relseg store z → same_name (path k s) (path z t) ≡ false = λ s t ks zt. false_from_ne_true (same_name (path k s) (path z t)) (λ e.
    let one = one_segment k z s t (named_at k relseg (length (pages_of store k)) s some k_named ks) (named_at z relseg (length (pages_of store z)) t some z_named zt) (names_tie (path k s) (path z t) e) in
    both_ways (same_fork k z) apart (subst (λ (f : ForkId). same_fork k f ≡ true) one.0 (fork_itself k))) in
    subst (λ (l : List (List ℕ)). AreApart same_name l (names_of relseg store z)) (sym (names k))
    (subst (λ (l : List (List ℕ)). AreApart same_name (map (path k) (range_with_len 0 (count_of relseg store k))) l) (sym (names z))
    (all_range (λ x. AllByRecursion (λ y. same_name x y ≡ false) (map (path z) (range_with_len 0 (count_of relseg store z)))) (path k) 0 (count_of relseg store k) (λ s least most.
    all_range (λ y. same_name (path k s) y ≡ false) (path z) 0 (count_of relseg store z) (λ t low high. differ s t (omega (arith, most)) (omega (arith, high))))))

pub distinct_files : (relseg : ℕ) (store : Store) → 0 < relseg → HasNamedForks store → IsDistinct same_name (map (λ f. f.0) (store_files relseg store))
distinct_files relseg store some named =
    let names : map (λ f. f.0) (store_files relseg store) ≡ flat_map (names_of relseg store) (keys store) =
    ap (map (λ f. f.0)) (sym (all_files relseg store)) ∙ map_pieces (λ f. f.0) (λ k. fork_files relseg (k, pages_of store k)) (keys store) in
    subst (IsDistinct same_name) (sym names)
    (distinct_pieces same_fork same_name (IsNamedIn store) (names_of relseg store) (keys store) (λ k. distinct_in_fork relseg store k some) (λ k z. apart_forks relseg store k z some) (all_named store named) (distinct_forks (entries store) (entries_sorted store)))
