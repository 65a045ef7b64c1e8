-- A map after something was put at a key, or taken away.
use Rattle.std.proofs.Common.{◌≡◌, ◌+◌, ◌-◌, ◌<◌, ◌≤◌, Bool, true, false, cond, Option, Some, None, IsSome, is_some, refl, sym, ap, ◌∙◌, arith, true≢false}
use Rattle.std.specs.declared.cmp.Ordering.{Ordering}
use Rattle.std.specs.Ordering.{eq_by_cmp}
use Rattle.std.specs.Cmp.{Equal-is, eq_by_cmp_equiv, IsTotalOrder}
use Rattle.std.specs.FinMap.{FinMap, IsAntisymmetric, get, insert, remove, contains_key, len, get-insert, get-remove, len-insert, len-remove, same_map}

module _ {K : Type 0} {R : K → K → Ordering} (total : IsTotalOrder R) (tells : IsAntisymmetric R) where
  pub either_key : (q at : K) {P : Type 0} → (q ≡ at → P) → (eq_by_cmp R q at ≡ false → P) → P
  either_key q at {P} here apart =
      elim (eq_by_cmp R q at) as (λ b. eq_by_cmp R q at ≡ b → P) [
        | true ↦ λ e. here (tells q at ((Equal-is _).0 e))
        | false ↦ λ e. apart e
      ] refl

  pub key_self : (at : K) → eq_by_cmp R at at ≡ true
  key_self at = (eq_by_cmp_equiv total).refl at

  -- keys that the order tells apart
  pub apart_of : (q at : K) → eq_by_cmp R q at ≡ false → q ≡ at → ⊥
  apart_of q at apart same = true≢false (sym (key_self at) ∙ sym (ap (λ (x : K). eq_by_cmp R x at) same) ∙ apart)

module _ {K X : Type 0} {R : K → K → Ordering} (total : IsTotalOrder R) (m : FinMap R X) (k : K) where
  pub put_here : (v : X) → get (insert m k v) k ≡ Some v
  put_here v = get-insert total m k v k ∙ ap (λ c. cond c (Some v) (get m k)) ((eq_by_cmp_equiv total).refl k)

  pub put_there : (q : K) (v : X) → eq_by_cmp R q k ≡ false → get (insert m k v) q ≡ get m q
  put_there q v apart = get-insert total m k v q ∙ ap (λ c. cond c (Some v) (get m q)) apart

  pub gone_here : get (remove m k) k ≡ None
  gone_here = get-remove total m k k ∙ ap (λ c. cond c None (get m k)) ((eq_by_cmp_equiv total).refl k)

  pub gone_there : (q : K) → eq_by_cmp R q k ≡ false → get (remove m k) q ≡ get m q
  gone_there q apart = get-remove total m k q ∙ ap (λ c. cond c None (get m q)) apart

  -- what stays at a key that is there already
  pub count_same : (v : X) → IsSome (get m k) → len (insert m k v) ≡ len m
  count_same v some = len-insert total m k v ∙ ap (λ c. cond c (len m) (len m + 1)) some

  pub still_some : (q : K) (v : X) → IsSome (get m q) → IsSome (get (insert m k v) q)
  still_some q v some =
      ap (λ (o : Option X). is_some o) (get-insert total m k v q) ∙ elim (eq_by_cmp R q k) as (λ c. is_some (cond c (Some v) (get m q)) ≡ true) [ true ↦ refl | false ↦ some ]

-- one fewer where something was taken away
pub count_less : {K X : Type 0} {R : K → K → Ordering} (total : IsTotalOrder R) → IsAntisymmetric R → (m : FinMap R X) (k : K) (v : X) → get m k ≡ Some v → len (remove m k) < len m
count_less total tells m k v there =
    let less = remove m k in
    let missing : contains_key less k ≡ false = ap (λ (o : Option _). is_some o) (gone_here total m k) in
    let one : len (insert less k v) ≡ len less + 1 = len-insert total less k v ∙ ap (λ c. cond c (len less) (len less + 1)) missing in
    let same : insert less k v ≡ m =
    same_map total tells (insert less k v) m (λ q. either_key total tells q k
    (λ is. ap (get (insert less k v)) is ∙ put_here total less k v ∙ sym there ∙ sym (ap (get m) is))
    (λ apart. put_there total less k q v apart ∙ gone_there total m k q apart)) in
    let all = ap (λ (n : FinMap _ _). len n) same in
    omega (arith, one, all)

pub count_no_more : {K X : Type 0} {R : K → K → Ordering} (total : IsTotalOrder R) → (m : FinMap R X) (k : K) → len (remove m k) ≤ len m
count_no_more total m k = by (contains_key m k) (len-remove total m k)
  where
    by : (b : Bool) → len (remove m k) ≡ cond b (len m - 1) (len m) → len (remove m k) ≤ len m
    by true e = omega (arith, e)
    by false e = omega (arith, e)
