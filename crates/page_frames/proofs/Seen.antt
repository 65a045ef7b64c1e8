-- A map of the code's, seen by what a function makes of each value.
use Rattle.std.proofs.Common.{◌≡◌, Bool, true, false, cond, T, ◌&&◌, List, [], ◌∷◌, Option, Some, None, option_map, refl, sym, ap, subst, ◌∙◌}
use Rattle.std.specs.declared.cmp.Ordering.{Ordering}
use Rattle.std.specs.declared.cmp.Ordering.TheVariants.{Less}
use Rattle.std.specs.Ordering.{is_eq, is_lt, eq_by_cmp}
use Rattle.std.specs.Cmp.{Equal-is, eq_by_cmp_equiv, IsTotalOrder}
use Rattle.std.specs.List.{AllByRecursion, filter_map, cons_option}
use Rattle.std.specs.List.Sorted.{IsStrictlySortedBy}
use Rattle.std.specs.Map.{lookup, keys_of}
use Rattle.std.specs.BTreeMap.{BTreeMap, UpdatesBy, IsOrdered}
use Rattle.std.specs.BTreeMap as tree
use Rattle.std.specs.FinMap.{FinMap, IsAntisymmetric, find, get, entries, from_sorted, is_sorted, get-empty, get-insert, get-remove, get-from_sorted, entries-from_sorted, same_map}
use Rattle.std.specs.FinMap.Entries.{below_all}
use Rattle.page_frames.specs.Inside.{with_seen, seen_in}

both : (a b : Bool) → T a → T b → T (a && b)
both true b p q = q
both false b p q = p

-- what a function makes of a value that may be missing
abbrev pub seen : {V X : Type 0} → (V → Option X) → Option V → Option X
seen f None = None
seen f (Some v) = f v

seen_cond : {V X : Type 0} (f : V → Option X) (b : Bool) (x y : Option V) → seen f (cond b x y) ≡ cond b (seen f x) (seen f y)
seen_cond f true x y = refl
seen_cond f false x y = refl

same_key : {K : Type 0} {R : K → K → Ordering} → IsAntisymmetric R → (a b : K) → eq_by_cmp R a b ≡ true → a ≡ b
same_key tells a b tied = tells a b ((Equal-is _).0 tied)

turned : {K X : Type 0} {R : K → K → Ordering} → IsTotalOrder R → (a b : K) (x y : Option X) → cond (eq_by_cmp R a b) x y ≡ cond (eq_by_cmp R b a) x y
turned total a b x y = ap (λ c. cond c x y) ((eq_by_cmp_equiv total).symm a b)

pub get_with : {K X : Type 0} {R : K → K → Ordering} → IsTotalOrder R → (k : K) (o : Option X) (m : FinMap R X) (q : K) → get (with_seen k o m) q ≡ cond (eq_by_cmp R q k) o (get m q)
get_with total k None m q = get-remove total m k q
get_with total k (Some x) m q = get-insert total m k x q

-- what was there already, put again, changes nothing
pub with_same : {K X : Type 0} {R : K → K → Ordering} → IsTotalOrder R → IsAntisymmetric R → (m : FinMap R X) (key : K) (o : Option X) → get m key ≡ o → with_seen key o m ≡ m
with_same {R = R} total tells m key o e =
    same_map total tells _ _ (λ q.
    get_with total key o m q
    ∙ elim (eq_by_cmp R q key) as (λ b. eq_by_cmp R q key ≡ b → cond b o (get m q) ≡ get m q) [
      | true ↦ λ tied. sym (ap (get m) (same_key tells q key tied) ∙ e)
      | false ↦ λ apart. refl
    ] refl)

module _ {K V X : Type 0} {R : K → K → Ordering} (total : IsTotalOrder R) (tells : IsAntisymmetric R) where
  get_in : (f : V → Option X) (es : List (K × V)) (q : K) → get (seen_in {R = R} f es) q ≡ seen f (lookup (eq_by_cmp R q) es)
  get_in f [] q = get-empty R q
  get_in f (e ∷ es) q =
      get_with total e.0 (f e.1) (seen_in f es) q ∙ ap (cond (eq_by_cmp R q e.0) (f e.1)) (get_in f es q) ∙ sym (seen_cond f (eq_by_cmp R q e.0) (Some e.1) (lookup (eq_by_cmp R q) es))

  pub got : (f : V → Option X) (m : BTreeMap K V) (q : K) → get (seen_in {R = R} f m.entries) q ≡ seen f (tree.get R m q)
  got f m q = get_in f m.entries q

  -- after a value was put in, changed where it is, or taken away
  pub seen_put : (f : V → Option X) (m n : BTreeMap K V) (key : K) (w : Option V) → UpdatesBy R (R key) m n w → seen_in {R = R} f n.entries ≡ with_seen key (seen f w) (seen_in {R = R} f m.entries)
  seen_put f m n key w u =
      same_map total tells _ _ (λ q.
      got f n q ∙ ap (seen f) (u.0 q) ∙ seen_cond f (eq_by_cmp R key q) w (tree.get R m q)
      ∙ ap (cond (eq_by_cmp R key q) (seen f w)) (sym (got f m q)) ∙ turned total key q (seen f w) (get (seen_in {R = R} f m.entries) q)
      ∙ sym (get_with total key (seen f w) (seen_in {R = R} f m.entries) q))

  -- ---- the entries of an ordered map, in order

  abbrev pub entry_of : (V → Option X) → K × V → Option (K × X)
  entry_of f e = option_map (λ x. (e.0, x)) (f e.1)

  below : (f : V → Option X) (k : K) (es : List (K × V)) → AllByRecursion (λ y. R k y ≡ Less) (keys_of es) → T (below_all R k (filter_map (entry_of f) es))
  below f k [] h = tt
  below f k (e ∷ es) h =
      elim (f e.1) as (λ o. T (below_all R k (cons_option (option_map (λ x. (e.0, x)) o) (filter_map (entry_of f) es)))) [
        | Some x ↦ both _ _ (subst (λ r. T (is_lt r)) (sym h.0) tt) (below f k es h.1)
        | None ↦ below f k es h.1
      ]

  sorted : (f : V → Option X) (es : List (K × V)) → IsStrictlySortedBy R (keys_of es) → T (is_sorted R (filter_map (entry_of f) es))
  unfolding IsStrictlySortedBy
  sorted f [] h = tt
  sorted f (e ∷ es) h =
      elim (f e.1) as (λ o. T (is_sorted R (cons_option (option_map (λ x. (e.0, x)) o) (filter_map (entry_of f) es)))) [
        | Some x ↦ both _ _ (below f e.0 es h.0) (sorted f es h.1)
        | None ↦ sorted f es h.1
      ]

  missing : (f : V → Option X) (k : K) (es : List (K × V)) → AllByRecursion (λ y. R k y ≡ Less) (keys_of es) → find R k (filter_map (entry_of f) es) ≡ None
  missing f k [] h = refl
  missing f k (e ∷ es) h =
      elim (f e.1) as (λ o. find R k (cons_option (option_map (λ x. (e.0, x)) o) (filter_map (entry_of f) es)) ≡ None) [
        | Some y ↦ ap (λ r. cond (is_eq r) (Some y) (find R k (filter_map (entry_of f) es))) h.0 ∙ missing f k es h.1
        | None ↦ missing f k es h.1
      ]

  found : (f : V → Option X) (q : K) (es : List (K × V)) → IsStrictlySortedBy R (keys_of es) → find R q (filter_map (entry_of f) es) ≡ seen f (lookup (eq_by_cmp R q) es)
  unfolding IsStrictlySortedBy
  found f q [] h = refl
  found f q (e ∷ es) h =
      let rest = filter_map (entry_of f) es in
      elim (eq_by_cmp R q e.0) as (λ b. eq_by_cmp R q e.0 ≡ b → find R q (cons_option (option_map (λ x. (e.0, x)) (f e.1)) rest) ≡ seen f (cond b (Some e.1) (lookup (eq_by_cmp R q) es))) [
        | true ↦ λ tied. elim (f e.1) as (λ o. find R q (cons_option (option_map (λ x. (e.0, x)) o) rest) ≡ o) [
          | Some y ↦ ap (λ b. cond b (Some y) (find R q rest)) tied
          | None ↦ subst (λ k. find R k rest ≡ None) (sym (same_key tells q e.0 tied)) (missing f e.0 es h.0)
        ]
        | false ↦ λ apart. elim (f e.1) as (λ o. find R q (cons_option (option_map (λ x. (e.0, x)) o) rest) ≡ seen f (lookup (eq_by_cmp R q) es)) [
          | Some y ↦ ap (λ b. cond b (Some y) (find R q rest)) apart ∙ found f q es h.1
          | None ↦ found f q es h.1
        ]
      ] refl

  pub entries_seen : (f : V → Option X) (m : BTreeMap K V) → IsOrdered R m → entries (seen_in {R = R} f m.entries) ≡ filter_map (entry_of f) m.entries
  entries_seen f m h =
      let es = filter_map (entry_of f) m.entries in
      let order = sorted f m.entries h in
      ap entries (same_map total tells (seen_in f m.entries) (from_sorted es) (λ q. got f m q ∙ sym (found f q m.entries h) ∙ sym (get-from_sorted R es q order))) ∙ entries-from_sorted R es order
