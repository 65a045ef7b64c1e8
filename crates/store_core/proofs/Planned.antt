-- What the plans of an incremental backup leave out, and how much longer they make a fork.
use Rattle.std.proofs.Common.{◌≡◌, ℕ, zero, suc, ◌+◌, ◌-◌, ◌*◌, ◌/◌, ◌%◌, ◌<◌, ◌≤◌, ◌&&◌, ◌||◌, Bool, true, false, cond, List, [], ◌∷◌, map, length, Option, Some, None, refl, ap, sym, ◌∙◌, arith, true≢false, eqb-true}
use Rattle.std.specs.Prelude.{◌==◌, nat_lt, nat_le, not}
use Rattle.std.specs.List.{filter, range_with_len}
use Rattle.std.proofs.Math.Nat.{mod-lt, div-mul-le_self}
use Rattle.std.proofs.lemmas.Nat.{div-add-mod'}
use Rattle.std.proofs.lemmas.Bool.{or_parts, lt-ltb, le-leb, eq-eqb, eqb-false}
use Rattle.lsn_core.specs.declared.ids.ForkId.{ForkId}
use Rattle.lsn_core.specs.Store.{Store}
use Rattle.lsn_core.specs.Blocks.{block_count, pages_of}
use Rattle.history.proofs.Stores.{by_test}
use Rattle.history.specs.fuzzy_copies.Summary.{BlockRefTable}
use Rattle.incr_file.specs.declared.plan.FilePlan.TheVariants.{Whole, Incr}
use Rattle.incr_file.specs.Plan.{planned, has_block, listed_in, is_sent_whole, truncation_length, planned_head}
use Rattle.store_core.specs.Increments.{listed_blocks, has_file, file_plan, plan_sends, rebuilt_count, last_segment, raised_length}

-- ---- blocks that aren't sent

pub not_false : (t : Bool) → not t ≡ false → t ≡ true
not_false true e = refl
not_false false e = absurd (true≢false e)

filtered_out : (p : ℕ → Bool) (a n b : ℕ) → has_block (filter p (range_with_len a n)) b ≡ false → a ≤ b → b < a + n → p b ≡ false
filtered_out p a zero b none low high = absurd (omega (arith, low, high))
filtered_out p a (suc n) b none low high =
    let rest = filter p (range_with_len (a + 1) n) in
    by_test (a == b)
    (λ here.
    let same = eqb-true a b here in
    ap p (sym same) ∙ elim (p a) as (λ t. has_block (cond t (a ∷ rest) rest) b ≡ false → t ≡ false) [ true ↦ λ e. absurd (true≢false (sym here ∙ (or_parts (a == b) (has_block rest b) e).0)) | false ↦ λ e. refl ] none)
    (λ away.
    filtered_out p (a + 1) n b
    (elim (p a) as (λ t. has_block (cond t (a ∷ rest) rest) b ≡ false → has_block rest b ≡ false) [ true ↦ λ e. (or_parts (a == b) (has_block rest b) e).1 | false ↦ λ e. e ] none)
    (let k = eqb-false a b away in omega (arith, low, k)) (omega (arith, high)))

-- a planned block that a head doesn't list isn't listed
unplanned : (first count i : ℕ) (blocks : List ℕ) → i < count → has_block (listed_in first count blocks) i ≡ false → has_block blocks (first + i) ≡ false
unplanned first count i [] l none = refl
unplanned first count i (b ∷ blocks) l none =
    let rest = listed_in first count blocks in
    by_test (b == (first + i))
    (λ here.
    let same = eqb-true b (first + i) here in
    let low : nat_le first b ≡ true = le-leb first b (omega (arith, same)) in
    let high : nat_lt b (first + count) ≡ true = lt-ltb b (first + count) (omega (arith, same, l)) in
    let kept : has_block ((b - first) ∷ rest) i ≡ false =
    ap (λ t. has_block (map (λ x. x - first) (cond (t && true) (b ∷ filter (λ x. nat_le first x && nat_lt x (first + count)) blocks) (filter (λ x. nat_le first x && nat_lt x (first + count)) blocks))) i) (sym low)
    ∙ ap (λ t. has_block (map (λ x. x - first) (cond (nat_le first b && t) (b ∷ filter (λ x. nat_le first x && nat_lt x (first + count)) blocks) (filter (λ x. nat_le first x && nat_lt x (first + count)) blocks))) i) (sym high)
    ∙ none in
    absurd (true≢false (sym (eq-eqb (b - first) i (omega (arith, same))) ∙ (or_parts ((b - first) == i) (has_block rest i) kept).0)))
    (λ away.
    let later : has_block rest i ≡ false =
    elim (nat_le first b && nat_lt b (first + count)) as (λ t. has_block (map (λ x. x - first) (cond t (b ∷ filter (λ x. nat_le first x && nat_lt x (first + count)) blocks) (filter (λ x. nat_le first x && nat_lt x (first + count)) blocks))) i ≡ false → has_block rest i ≡ false) [
      | true ↦ λ e. (or_parts ((b - first) == i) (has_block rest i) e).1
      | false ↦ λ e. e
    ] none in
    ap (λ t. t || has_block blocks (first + i)) away ∙ unplanned first count i blocks l later)

-- a block of a segment that is planned, and that the plan doesn't send, isn't listed
unsent_at : (table : BlockRefTable) (fork : ForkId) (relseg size first i block : ℕ) (limit : Option ℕ) (known : Bool) → block ≡ first + i → block < size → (0 < relseg → i < relseg)
    → plan_sends (cond (is_sent_whole first (planned relseg size first) limit (length (listed_in first (planned relseg size first) (listed_blocks table fork size))) known) Whole
    (Incr (planned_head relseg first (planned relseg size first) limit (listed_blocks table fork size)))) i ≡ false
    → table.listed fork block ≡ false
unsent_at table fork relseg size first i block limit known is within fits none =
    let count = planned relseg size first in
    let blocks = listed_blocks table fork size in
    elim (is_sent_whole first count limit (length (listed_in first count blocks)) known) as (λ t. is_sent_whole first count limit (length (listed_in first count blocks)) known ≡ t → plan_sends (cond t Whole (Incr (planned_head relseg first count limit blocks))) i ≡ false → table.listed fork block ≡ false) [
      | true ↦ λ k e. absurd (true≢false e)
      | false ↦ λ k e.
          let some = eqb-false count 0 (or_parts (count == 0) (not known) (or_parts ((count == 0) || not known) _ k).0).0 in
          let low : i < relseg = fits (omega (arith, some)) in
          let here : i < count = omega (arith, is, within, low) in
          let out = unplanned first count i blocks here e in
          ap (table.listed fork) is ∙ filtered_out (table.listed fork) 0 size (first + i) out (omega arith) (omega (arith, is, within))
    ] refl none

pub unsent : (relseg : ℕ) (table : BlockRefTable) (prior copy : Store) (fork : ForkId) (block : ℕ) → block < length (pages_of copy fork) → plan_sends (file_plan relseg table prior copy fork (block / relseg)) (block % relseg) ≡ false → table.listed fork block ≡ false
unsent relseg table prior copy fork block within none =
    unsent_at table fork relseg (length (pages_of copy fork)) (block / relseg * relseg) (block % relseg) block (table.limit fork) (has_file relseg (block / relseg) (block_count prior fork)) (sym (div-add-mod' block relseg)) within (λ some. mod-lt block some) none

-- ---- blocks behind the listed length

-- a block that isn't listed and is below the length of the rebuilt files is below the limit
pub record IsLimited (limit : Option ℕ) (block : ℕ) : Type 0 where
  pub count : ℕ
  pub is : limit ≡ Some count
  pub below : block < count

limited_at : (relseg size first block : ℕ) (limit : Option ℕ) → first ≤ size → size ≤ block → block < first + truncation_length relseg first (planned relseg size first) limit → IsLimited limit block
limited_at relseg size first block None low behind within = absurd (omega (arith, low, behind, within))
limited_at relseg size first block (Some count) low behind within = record { count = count; is = refl; below = omega (arith, low, behind, within) }

pub limited : (relseg : ℕ) (table : BlockRefTable) (prior copy : Store) (fork : ForkId) (block : ℕ) → length (pages_of copy fork) ≤ block → block < raised_length relseg table prior copy fork → IsLimited (table.limit fork) block
limited relseg table prior copy fork block behind within =
    let size = length (pages_of copy fork) in
    let seg = last_segment relseg size in
    let first = seg * relseg in
    let count = planned relseg size first in
    let blocks = listed_blocks table fork size in
    let low : first ≤ size = (let k = div-mul-le_self (size - 1) relseg in omega (arith, k)) in
    elim (is_sent_whole first count (table.limit fork) (length (listed_in first count blocks)) (has_file relseg seg (block_count prior fork)))
    as (λ t. block < first + rebuilt_count count (cond t Whole (Incr (planned_head relseg first count (table.limit fork) blocks))) → IsLimited (table.limit fork) block) [
      | true ↦ λ l. absurd (omega (arith, low, behind, l))
      | false ↦ λ l. limited_at relseg size first block (table.limit fork) low behind l
    ] within
