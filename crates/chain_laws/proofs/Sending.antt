-- What stands in a segment file that was sent as planned, block by block.
use Rattle.std.proofs.Common.{◌≡◌, ℕ, ◌+◌, ◌-◌, ◌<◌, ◌≤◌, Bool, true, false, cond, ◌&&◌, ◌||◌, List, [], ◌∷◌, map, length, get_or, Option, Some, None, unwrap_or, refl, sym, ap, ◌∙◌, arith}
use Rattle.std.specs.Prelude.{nat_le, nat_lt, slice_get, ◌==◌}
use Rattle.std.specs.List.{filter, range_with_len}
use Rattle.std.specs.Option.{option_map, option_or}
use Rattle.std.proofs.lemmas.Bool.{and_parts, leb-true, ltb-true, ltb-false, lt-ltb}
use Rattle.std.proofs.lemmas.Option.{slice_get-get_or, slice_get_past, slice_get_within, slice_get-map}
use Rattle.std.proofs.lemmas.List.FromFn.{length-range_with_len, length-map-range_with_len, get_or-range_with_len}
use Rattle.lsn_core.specs.byte_words.Pieces.{zero_page}
use Rattle.lsn_core.specs.Store.{ForkPages}
use Rattle.incr_file.specs.Form.{Form, Absent, Plain, Part, sent_page, block_in_chain, past_all, rebuilt_length, rebuilt_pages, pages_in_chain}
use Rattle.incr_file.specs.Plan.{plan_at, listed_in, is_sent_whole, truncation_length, planned_head, has_block}
use Rattle.incr_file.specs.declared.head.IncrHead.{IncrHead}
use Rattle.incr_file.specs.declared.plan.FilePlan.{FilePlan}
use Rattle.incr_file.specs.declared.plan.FilePlan.TheVariants.{Whole, Incr}
use Rattle.incr_file.specs.Laws.{PlannedHeadsListAll}

-- ---- pages by number

counted : {X : Type 0} (f : ℕ → X) (n i : ℕ) → i < n → slice_get (map f (range_with_len 0 n)) i ≡ Some (f i)
counted f n i h =
    slice_get-map f (range_with_len 0 n) i
    ∙ ap (option_map f) (slice_get-get_or (range_with_len 0 n) i 0 (omega (arith, h, length-range_with_len 0 n)) ∙ ap (λ (k : ℕ). Some k) (get_or-range_with_len 0 n i 0 h ∙ (let z : 0 + i ≡ i = omega arith in z)))

record IsCounted {X : Type 0} (f : ℕ → X) (n i : ℕ) (x : X) : Type 0 where
  within : i < n
  is : f i ≡ x

counted_is : {X : Type 0} (f : ℕ → X) (n i : ℕ) (x : X) → slice_get (map f (range_with_len 0 n)) i ≡ Some x → IsCounted f n i x
counted_is f n i x e =
    let within : i < n = omega (arith, slice_get_within (map f (range_with_len 0 n)) i x e, length-map-range_with_len f 0 n) in
    let both : Some (f i) ≡ Some x = sym (counted f n i within) ∙ e in
    record { within = within; is = cc }

abbrev page_at : List Form → ℕ → List ℕ
page_at forms block = unwrap_or (block_in_chain forms block) zero_page

-- the file that stands for the newest form has the blocks that the forms are asked for
pub from_chain : (forms : List Form) (pages : ForkPages) (i : ℕ) (page : List ℕ) → pages_in_chain forms ≡ Some pages → slice_get pages i ≡ Some page → unwrap_or (block_in_chain forms i) zero_page ≡ page
from_chain [] pages i page e f = absurd cc
from_chain (Absent ∷ older) pages i page e f = absurd cc
from_chain (Plain own ∷ older) pages i page e f = let is : own ≡ pages = cc in ap (λ (o : Option (List ℕ)). unwrap_or o zero_page) (ap (λ (ps : ForkPages). slice_get ps i) is ∙ f)
from_chain (Part head own ∷ older) pages i page e f =
    let is : rebuilt_pages (Part head own ∷ older) head ≡ pages = cc in
    (counted_is (page_at (Part head own ∷ older)) (rebuilt_length head) i page (ap (λ (ps : ForkPages). slice_get ps i) is ∙ f)).is

-- ---- listed blocks

-- they stand below the planned count
listed_below : (first count : ℕ) (blocks : List ℕ) → past_all (listed_in first count blocks) ≤ count
listed_below first count [] = omega arith
listed_below first count (b ∷ blocks) = by_test (nat_le first b && nat_lt b (first + count)) (listed_below first count blocks) refl
  where
    by_test : (s : Bool) → past_all (listed_in first count blocks) ≤ count → (nat_le first b && nat_lt b (first + count)) ≡ s
        → past_all (map (λ x. x - first) (cond s (b ∷ filter (λ x. nat_le first x && nat_lt x (first + count)) blocks) (filter (λ x. nat_le first x && nat_lt x (first + count)) blocks))) ≤ count
    by_test true rest k =
        let p = and_parts (nat_le first b) (nat_lt b (first + count)) k in
        omega (arith, leb-true first b p.0, ltb-true b (first + count) p.1, rest)
    by_test false rest k = rest

-- a block that isn't sent isn't listed
unsent : (blocks : List ℕ) (pages : ForkPages) (b : ℕ) → length pages ≡ length blocks → sent_page blocks pages b ≡ None → has_block blocks b ≡ false
unsent [] pages b long e = refl
unsent (x ∷ blocks) [] b long e = absurd (omega (arith, long))
unsent (x ∷ blocks) (p ∷ pages) b long e =
    elim (x == b) as (λ s. cond s (Some p) (sent_page blocks pages b) ≡ None → (s || has_block blocks b) ≡ false) [ true ↦ λ f. absurd cc | false ↦ λ f. unsent blocks pages b (omega (arith, long)) f ] e

unlisted : PlannedHeadsListAll → (first count : ℕ) (blocks : List ℕ) (pages : ForkPages) (i : ℕ) → i < count → length pages ≡ length (listed_in first count blocks) → sent_page (listed_in first count blocks) pages i ≡ None → has_block blocks (first + i) ≡ false
unlisted law first count blocks pages i within long e =
    ap (λ b. b && has_block blocks (first + i)) (sym (lt-ltb i count within)) ∙ sym (law first count blocks i) ∙ unsent (listed_in first count blocks) pages i long e

-- ---- a file as it was sent

-- a file of this plan is in this form, of pages of which each is a copy of its block
abbrev pub IsSentIn : (ℕ → List ℕ → Type 0) → ℕ → FilePlan → Form → Type 0
IsSentIn P count Whole form =
    (pages : ForkPages) × (form ≡ Plain pages) × (length pages ≡ count) × ((i : ℕ) (page : List ℕ) → slice_get pages i ≡ Some page → P i page)
IsSentIn P count (Incr head) form =
    (pages : ForkPages) × (form ≡ Part head pages) × (length pages ≡ length head.blocks) × ((i : ℕ) (page : List ℕ) → sent_page head.blocks pages i ≡ Some page → P i page)

-- a block is below a limit
pub record IsBelow (limit : Option ℕ) (block : ℕ) : Type 0 where
  pub bound : ℕ
  pub is : limit ≡ Some bound
  pub below : block < bound

-- a block of the file that it is combined to: it was copied; it isn't listed, and the earlier forms have
-- it; the file was made longer, up to the limit; it is past the file's end
pub data FileBlock (P : ℕ → List ℕ → Type 0) (first count : ℕ) (limit : Option ℕ) (blocks : List ℕ) (older : List Form) (pages : ForkPages) (i : ℕ) : Type 0 where
  Sent : (page : List ℕ) → i < count → slice_get pages i ≡ Some page → P i page → FileBlock P first count limit blocks older pages i
  Older : i < count → has_block blocks (first + i) ≡ false → slice_get pages i ≡ Some (unwrap_or (block_in_chain older i) zero_page) → FileBlock P first count limit blocks older pages i
  Grown : count ≤ i → IsBelow limit (first + i) → FileBlock P first count limit blocks older pages i
  Past : count ≤ i → slice_get pages i ≡ None → FileBlock P first count limit blocks older pages i

pub record SegmentFile (P : ℕ → List ℕ → Type 0) (first count : ℕ) (limit : Option ℕ) (blocks : List ℕ) (older : List Form) (form : Form) : Type 0 where
  pub pages : ForkPages
  pub is : pages_in_chain (form ∷ older) ≡ Some pages
  pub long : count ≤ length pages
  pub block : (i : ℕ) → FileBlock P first count limit blocks older pages i

longer_below : (relseg first count i : ℕ) (limit : Option ℕ) → count ≤ i → i < truncation_length relseg first count limit → IsBelow limit (first + i)
longer_below relseg first count i None low h = absurd (omega (arith, low, h))
longer_below relseg first count i (Some bound) low h = record { bound = bound; is = refl; below = omega (arith, low, h) }

at_least : (relseg first count : ℕ) (limit : Option ℕ) → count ≤ truncation_length relseg first count limit
at_least relseg first count None = omega arith
at_least relseg first count (Some bound) = omega arith

module _ (law : PlannedHeadsListAll) (P : ℕ → List ℕ → Type 0) (relseg first count : ℕ) (limit : Option ℕ) (blocks : List ℕ) (older : List Form) (form : Form) where
  whole_file : IsSentIn P count Whole form → SegmentFile P first count limit blocks older form
  whole_file sent =
      let pages = sent.0 in
      let long : length pages ≡ count = sent.2 in
      record {
        pages = pages;
        is = ap (λ (f : Form). pages_in_chain (f ∷ older)) sent.1;
        long = omega (arith, long);
        block = λ i. elim (nat_lt i count) as (λ b. nat_lt i count ≡ b → FileBlock P first count limit blocks older pages i) [
          | true ↦ λ k. let at = slice_get-get_or pages i [] (omega (arith, long, ltb-true i count k)) in Sent (get_or pages i []) (ltb-true i count k) at (sent.3 i (get_or pages i []) at)
          | false ↦ λ k. Past (ltb-false i count k) (slice_get_past pages i (omega (arith, long, ltb-false i count k)))
        ] refl;
      }

  part_file : IsSentIn P count (Incr (planned_head relseg first count limit blocks)) form → SegmentFile P first count limit blocks older form
  part_file sent =
      let head : IncrHead = planned_head relseg first count limit blocks in
      let listed : List ℕ = listed_in first count blocks in
      let length_is : ℕ = truncation_length relseg first count limit in
      let own : ForkPages = sent.0 in
      let forms : List Form = Part head own ∷ older in
      let pages : ForkPages = rebuilt_pages forms head in
      let low : count ≤ length_is = at_least relseg first count limit in
      let total : rebuilt_length head ≡ length_is = omega (arith, low, listed_below first count blocks) in
      let long : length pages ≡ rebuilt_length head = length-map-range_with_len (page_at forms) 0 (rebuilt_length head) in
      record {
        pages = pages;
        is = ap (λ (f : Form). pages_in_chain (f ∷ older)) sent.1;
        long = omega (arith, long, total, low);
        block = λ i. elim (nat_lt i count) as (λ b. nat_lt i count ≡ b → FileBlock P first count limit blocks older pages i) [
          | true ↦ λ k.
              let h : i < count = ltb-true i count k in
              let at : slice_get pages i ≡ Some (page_at forms i) = counted (page_at forms) (rebuilt_length head) i (omega (arith, h, low, total)) in
              elim (sent_page listed own i) as (λ o. sent_page listed own i ≡ o → FileBlock P first count limit blocks older pages i) [
                | Some page ↦ λ e. Sent page h (at ∙ ap (λ (o : Option (List ℕ)). Some (unwrap_or (option_or o (cond (nat_lt i length_is) (block_in_chain older i) None)) zero_page)) e) (sent.3 i page e)
                | None ↦ λ e. Older h (unlisted law first count blocks own i h sent.2 e)
                    (at ∙ ap (λ (o : Option (List ℕ)). Some (unwrap_or (option_or o (cond (nat_lt i length_is) (block_in_chain older i) None)) zero_page)) e ∙ ap (λ b. Some (unwrap_or (cond b (block_in_chain older i) None) zero_page)) (lt-ltb i length_is (omega (arith, h, low))))
              ] refl
          | false ↦ λ k. elim (nat_lt i length_is) as (λ b. nat_lt i length_is ≡ b → FileBlock P first count limit blocks older pages i) [
            | true ↦ λ j. Grown (ltb-false i count k) (longer_below relseg first count i limit (ltb-false i count k) (ltb-true i length_is j))
            | false ↦ λ j. Past (ltb-false i count k) (slice_get_past pages i (omega (arith, long, total, ltb-false i length_is j)))
          ] refl
        ] refl;
      }

  -- a file that was sent as planned
  pub planned_file : (known : Bool) → IsSentIn P count (plan_at relseg first count limit blocks known) form → SegmentFile P first count limit blocks older form
  planned_file known sent = by_test (is_sent_whole first count limit (length (listed_in first count blocks)) known) sent
    where
      by_test : (b : Bool) → IsSentIn P count (cond b Whole (Incr (planned_head relseg first count limit blocks))) form → SegmentFile P first count limit blocks older form
      by_test true s = whole_file s
      by_test false s = part_file s
