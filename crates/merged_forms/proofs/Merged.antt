-- A merged file stands for its series.
use Rattle.std.proofs.Common.{◌≡◌, ℕ, zero, suc, ◌+◌, ◌-◌, ◌<◌, ◌≤◌, min, max, Bool, true, false, cond, ◌&&◌, ◌||◌, List, [], ◌∷◌, ◌++◌, map, length, get_or, Option, Some, None, refl, sym, ap, subst, ◌∙◌, arith}
use Rattle.std.specs.Prelude.{nat_lt, nat_le, slice_get, ◌==◌}
use Rattle.std.specs.List.{list_any, filter, range_with_len, All, AllByRecursion}
use Rattle.std.specs.List.Sorted.{IsStrictlyIncreasing}
use Rattle.std.specs.Option.{option_or, unwrap_or, is_some}
use Rattle.std.proofs.lemmas.Bool.{ltb-true, ltb-false, leb-true, leb-false, lt-ltb, le-ltb, le-leb, lt-leb, eqb-true, eqb-false, and_parts}
use Rattle.std.proofs.lemmas.Option.{slice_get_past, slice_get-get_or}
use Rattle.std.proofs.lemmas.List.FromFn.{length-map-range_with_len, get_or-map-range_with_len, length-range_with_len, get_or-range_with_len}
use Rattle.std.proofs.lemmas.List.Elements.{All-filter}
use Rattle.std.proofs.lemmas.List.Kept.{IsStrictlyIncreasing-filter}
use Rattle.lsn_core.specs.byte_words.Pieces.{zero_page}
use Rattle.lsn_core.specs.Store.{ForkPages}
use Rattle.lsn_core.proofs.AnyAll.{same_bools}
use Rattle.incr_file.specs.declared.head.IncrHead.{IncrHead}
use Rattle.incr_file.specs.Head.{IsHead, head_with}
use Rattle.incr_file.specs.Form.{Form, Absent, Plain, Part, sent_page, block_in_chain, past_all, rebuilt_length, rebuilt_pages, pages_in_chain}
use Rattle.incr_file.specs.Plan.{has_block}
use Rattle.merged_forms.specs.Merged.{rests_on_plain, least_length, merged_blocks, merged_part, merged_form, AreHeld, HasNoGap}
use Rattle.merged_forms.specs.Laws.{AreAlike, HasHead}

-- a block of a rebuilt file
rebuilt_at : (forms : List Form) (head : IncrHead) (i : ℕ) → i < rebuilt_length head → slice_get (rebuilt_pages forms head) i ≡ Some (unwrap_or (block_in_chain forms i) zero_page)
rebuilt_at forms head i h =
    let f = λ (b : ℕ). unwrap_or (block_in_chain forms b) zero_page in
    let long = length-map-range_with_len f 0 (rebuilt_length head) in
    slice_get-get_or (rebuilt_pages forms head) i [] (omega (arith, h, long))
    ∙ ap (λ (l : List ℕ). Some l) (get_or-map-range_with_len f 0 (rebuilt_length head) i i [] h (omega arith))

same_rebuilt : (xs ys : List Form) (m n : ℕ) → m ≡ n → ((b : ℕ) → unwrap_or (block_in_chain xs b) zero_page ≡ unwrap_or (block_in_chain ys b) zero_page)
    → map (λ b. unwrap_or (block_in_chain xs b) zero_page) (range_with_len 0 m) ≡ map (λ b. unwrap_or (block_in_chain ys b) zero_page) (range_with_len 0 n)
same_rebuilt xs ys m n e same = ap (λ (w : ℕ → List ℕ). map w (range_with_len 0 m)) (λ i b. same b i) ∙ ap (λ (k : ℕ). map (λ b. unwrap_or (block_in_chain ys b) zero_page) (range_with_len 0 k)) e

below : (o : Option (List ℕ)) (c : Bool) (x y : Option (List ℕ)) → unwrap_or x zero_page ≡ unwrap_or y zero_page → unwrap_or (option_or o (cond c x None)) zero_page ≡ unwrap_or (option_or o (cond c y None)) zero_page
below (Some page) c x y e = refl
below None true x y e = e
below None false x y e = refl

nested : (o : Option (List ℕ)) (c : Bool) (s : Option (List ℕ)) (t : Bool) (a : Option (List ℕ)) → option_or o (cond c (option_or s (cond t a None)) None) ≡ option_or (option_or o (cond c s None)) (cond (c && t) a None)
nested (Some page) c s t a = refl
nested None true s t a = refl
nested None false s t a = refl

and_true : (a : Bool) → (a && true) ≡ a
and_true true = refl
and_true false = refl

and_false : (a : Bool) → (a && false) ≡ false
and_false true = refl
and_false false = refl

and_regroup : (a b c : Bool) → ((a && b) && c) ≡ (a && (b && c))
and_regroup true b c = refl
and_regroup false b c = refl

both_true : (a b : Bool) → a ≡ true → b ≡ true → (a && b) ≡ true
both_true true b e f = f
both_true false b e f = absurd cc

below_both : (b n m : ℕ) → nat_lt b (min n m) ≡ (nat_lt b n && nat_lt b m)
below_both b n m = same_bools (nat_lt b (min n m)) (nat_lt b n && nat_lt b m)
    (λ k. let h = ltb-true b (min n m) k in both_true (nat_lt b n) (nat_lt b m) (lt-ltb b n (omega arith)) (lt-ltb b m (omega arith)))
    (λ k. let p = and_parts (nat_lt b n) (nat_lt b m) k in lt-ltb b (min n m) (let i = ltb-true b n p.0 in let j = ltb-true b m p.1 in omega arith))

unsent_past : (blocks : List ℕ) (pages : ForkPages) (b : ℕ) → past_all blocks ≤ b → sent_page blocks pages b ≡ None
unsent_past [] pages b h = refl
unsent_past (x ∷ blocks) [] b h = refl
unsent_past (x ∷ blocks) (p ∷ pages) b h =
    elim (x == b) as (λ s. (x == b) ≡ s → cond s (Some p) (sent_page blocks pages b) ≡ None) [
      | true ↦ λ k. let is = eqb-true x b k in absurd (omega arith)
      | false ↦ λ k. unsent_past blocks pages b (omega arith)
    ] refl

at_it : (px pb : Bool) (x b : ℕ) (r : List ℕ) (h : Bool) → px ≡ pb → (x == b) ≡ true → has_block r b ≡ (h && pb) → has_block (cond px (x ∷ r) r) b ≡ pb
at_it true true x b r h e k i = ap (λ c. c || has_block r b) k
at_it true false x b r h e k i = absurd cc
at_it false true x b r h e k i = absurd cc
at_it false false x b r h e k i = i ∙ and_false h

past_it : (px : Bool) (x b : ℕ) (r : List ℕ) → (x == b) ≡ false → has_block (cond px (x ∷ r) r) b ≡ has_block r b
past_it true x b r k = ap (λ c. c || has_block r b) k
past_it false x b r k = refl

in_range : (a n b : ℕ) → a ≤ b → has_block (range_with_len a n) b ≡ nat_lt b (a + n)
in_range a zero b h = sym (le-ltb b (a + zero) (omega arith))
in_range a (suc n) b h =
    elim (a == b) as (λ s. (a == b) ≡ s → (s || has_block (range_with_len (a + 1) n) b) ≡ nat_lt b (a + suc n)) [
      | true ↦ λ k. let is = eqb-true a b k in sym (lt-ltb b (a + suc n) (omega arith))
      | false ↦ λ k. let apart = eqb-false a b k in in_range (a + 1) n b (let z : a + 1 ≤ b = omega arith in z) ∙ ap (nat_lt b) (let z : a + 1 + n ≡ a + suc n = omega arith in z)
    ] refl

past_has : (xs : List ℕ) (b : ℕ) → has_block xs b ≡ true → b < past_all xs
past_has [] b e = absurd cc
past_has (x ∷ xs) b e =
    elim (x == b) as (λ s. (x == b) ≡ s → (s || has_block xs b) ≡ true → b < max (x + 1) (past_all xs)) [
      | true ↦ λ k f. let is = eqb-true x b k in omega arith
      | false ↦ λ k f. let r = past_has xs b f in omega arith
    ] refl e

past_kept : (p : ℕ → Bool) (xs : List ℕ) → past_all (filter p xs) ≤ past_all xs
past_kept p [] = omega arith
past_kept p (x ∷ xs) = let rest = past_kept p xs in elim (p x) as (λ s. past_all (cond s (x ∷ filter p xs) (filter p xs)) ≤ max (x + 1) (past_all xs)) [ true ↦ omega arith | false ↦ omega arith ]

past_range : (a n : ℕ) → past_all (range_with_len a n) ≤ a + n
past_range a zero = omega arith
past_range a (suc n) = let rest = past_range (a + 1) n in let z : max (a + 1) (past_all (range_with_len (a + 1) n)) ≤ a + suc n = omega arith in z

-- newer forms see no difference
pub alike_behind : (newer xs ys : List Form) → AreAlike xs ys → AreAlike (newer ++ xs) (newer ++ ys)
alike_behind [] xs ys a = a
alike_behind (Absent ∷ newer) xs ys a = record { blocks = λ b. refl; file = refl }
alike_behind (Plain pages ∷ newer) xs ys a = record { blocks = λ b. refl; file = refl }
alike_behind (Part head pages ∷ newer) xs ys a =
    let rest = alike_behind newer xs ys a in
    let same = λ (b : ℕ). below (sent_page head.blocks pages b) (nat_lt b head.truncation) (block_in_chain (newer ++ xs) b) (block_in_chain (newer ++ ys) b) (rest.blocks b) in
    record { blocks = same; file = ap (λ (ps : ForkPages). Some ps) (same_rebuilt (Part head pages ∷ (newer ++ xs)) (Part head pages ∷ (newer ++ ys)) (rebuilt_length head) (rebuilt_length head) refl same) }

-- below all truncation lengths
abbrev is_through : List Form → ℕ → Bool
is_through [] b = true
is_through (Absent ∷ older) b = false
is_through (Plain pages ∷ older) b = false
is_through (Part head pages ∷ older) b = nat_lt b head.truncation && is_through older b

abbrev AreParts : List Form → Type 0
AreParts [] = Unit {0}
AreParts (Absent ∷ older) = ⊥
AreParts (Plain pages ∷ older) = ⊥
AreParts (Part head pages ∷ older) = AreParts older

all_parts : (series : List Form) → AreHeld series → rests_on_plain series ≡ false → AreParts series
all_parts [] h e = tt
all_parts (Absent ∷ older) h e = absurd h
all_parts (Plain pages ∷ older) h e = absurd cc
all_parts (Part head pages ∷ older) h e = all_parts older h e

-- a series over other forms: what it answers, and below all truncation lengths what they answer
asked_through : (series older : List Form) (b : ℕ) → AreParts series → block_in_chain (series ++ older) b ≡ option_or (block_in_chain series b) (cond (is_through series b) (block_in_chain older b) None)
asked_through [] older b h = refl
asked_through (Absent ∷ series) older b h = absurd h
asked_through (Plain pages ∷ series) older b h = absurd h
asked_through (Part head pages ∷ series) older b h =
    ap (λ (o : Option (List ℕ)). option_or (sent_page head.blocks pages b) (cond (nat_lt b head.truncation) o None)) (asked_through series older b h)
    ∙ nested (sent_page head.blocks pages b) (nat_lt b head.truncation) (block_in_chain series b) (is_through series b) (block_in_chain older b)

asked_plain : (series older : List Form) (b : ℕ) → rests_on_plain series ≡ true → block_in_chain (series ++ older) b ≡ block_in_chain series b
asked_plain [] older b e = absurd cc
asked_plain (Absent ∷ series) older b e = absurd cc
asked_plain (Plain pages ∷ series) older b e = refl
asked_plain (Part head pages ∷ series) older b e = ap (λ (o : Option (List ℕ)). option_or (sent_page head.blocks pages b) (cond (nat_lt b head.truncation) o None)) (asked_plain series older b e)

through_least : (series : List Form) (n b : ℕ) → AreParts series → nat_lt b (least_length n series) ≡ (nat_lt b n && is_through series b)
through_least [] n b h = sym (and_true (nat_lt b n))
through_least (Absent ∷ series) n b h = absurd h
through_least (Plain pages ∷ series) n b h = absurd h
through_least (Part head pages ∷ series) n b h = through_least series (min n head.truncation) b h ∙ ap (λ c. c && is_through series b) (below_both b n head.truncation) ∙ and_regroup (nat_lt b n) (nat_lt b head.truncation) (is_through series b)

least_low : (series : List Form) (n : ℕ) → least_length n series ≤ n
least_low [] n = omega arith
least_low (Absent ∷ series) n = omega arith
least_low (Plain pages ∷ series) n = omega arith
least_low (Part head pages ∷ series) n = let k = least_low series (min n head.truncation) in omega arith

-- the newest form answers nothing past its rebuilt length
nothing_past : (head : IncrHead) (pages : ForkPages) (older : List Form) (b : ℕ) → rebuilt_length head ≤ b → block_in_chain (Part head pages ∷ older) b ≡ None
nothing_past head pages older b h =
    ap (λ (o : Option (List ℕ)). option_or o (cond (nat_lt b head.truncation) (block_in_chain older b) None)) (unsent_past head.blocks pages b (omega arith)) ∙ ap (λ c. cond c (block_in_chain older b) None) (le-ltb b head.truncation (omega arith))

-- the pages that stand for blocks
each_sent : (blocks : List ℕ) (f : ℕ → List ℕ) (b : ℕ) → sent_page blocks (map f blocks) b ≡ cond (has_block blocks b) (Some (f b)) None
each_sent [] f b = refl
each_sent (x ∷ blocks) f b =
    elim (x == b) as (λ s. (x == b) ≡ s → cond s (Some (f x)) (sent_page blocks (map f blocks) b) ≡ cond (s || has_block blocks b) (Some (f b)) None) [
      | true ↦ λ k. ap (λ (n : ℕ). Some (f n)) (eqb-true x b k)
      | false ↦ λ k. each_sent blocks f b
    ] refl

has_kept : (p : ℕ → Bool) (xs : List ℕ) (b : ℕ) → has_block (filter p xs) b ≡ (has_block xs b && p b)
has_kept p [] b = refl
has_kept p (x ∷ xs) b =
    let rest = has_kept p xs b in
    elim (x == b) as (λ s. (x == b) ≡ s → has_block (cond (p x) (x ∷ filter p xs) (filter p xs)) b ≡ ((s || has_block xs b) && p b)) [
      | true ↦ λ k. at_it (p x) (p b) x b (filter p xs) (has_block xs b) (ap p (eqb-true x b k)) k rest
      | false ↦ λ k. past_it (p x) x b (filter p xs) k ∙ rest
    ] refl

merged_has : (series : List Form) (least count b : ℕ) → has_block (merged_blocks series least count) b ≡ (nat_lt b count && (is_some (block_in_chain series b) || nat_le least b))
merged_has series least count b =
    has_kept (λ x. is_some (block_in_chain series x) || nat_le least x) (range_with_len 0 count) b
    ∙ ap (λ c. c && (is_some (block_in_chain series b) || nat_le least b)) (in_range 0 count b (omega arith) ∙ ap (nat_lt b) (let z : 0 + count ≡ count = omega arith in z))

or_last : (a b : Bool) → b ≡ true → (a || b) ≡ true
or_last true b e = refl
or_last false b e = e

-- the merged file is as long as the newest one
merged_length : (series : List Form) (least count : ℕ) → least ≤ count → rebuilt_length (record { truncation = least; blocks = merged_blocks series least count }) ≡ count
merged_length series least count h =
    let inner = past_kept (λ x. is_some (block_in_chain series x) || nat_le least x) (range_with_len 0 count) in
    let outer = past_range 0 count in
    elim (nat_lt least count) as (λ s. nat_lt least count ≡ s → max least (past_all (merged_blocks series least count)) ≡ count) [
      | true ↦ λ k.
          let lt = ltb-true least count k in
          let top = count - 1 in
          let has = past_has (merged_blocks series least count) top
          (merged_has series least count top ∙ both_true (nat_lt top count) (is_some (block_in_chain series top) || nat_le least top) (lt-ltb top count (omega arith)) (or_last (is_some (block_in_chain series top)) (nat_le least top) (le-leb least top (omega arith)))) in
          omega arith
      | false ↦ λ k. let ge = ltb-false least count k in omega arith
    ] refl

chosen : (o a : Option (List ℕ)) (within low high : Bool) → (is_some o ≡ true → within ≡ true) → (low ≡ true → high ≡ false) → (low ≡ false → high ≡ true)
    → unwrap_or (option_or (cond (within && (is_some o || high)) (Some (unwrap_or o zero_page)) None) (cond low a None)) zero_page ≡ unwrap_or (option_or o (cond low a None)) zero_page
chosen (Some page) a true low high h i j = refl
chosen (Some page) a false low high h i j = absurd (let e = h refl in cc)
chosen None a true true true h i j = absurd (let e = i refl in cc)
chosen None a true true false h i j = refl
chosen None a true false true h i j = refl
chosen None a true false false h i j = absurd (let e = j refl in cc)
chosen None a false low high h i j = refl

some_within : (head : IncrHead) (pages : ForkPages) (older : List Form) (b : ℕ) → is_some (block_in_chain (Part head pages ∷ older) b) ≡ true → nat_lt b (rebuilt_length head) ≡ true
some_within head pages older b e =
    elim (nat_lt b (rebuilt_length head)) as (λ s. nat_lt b (rebuilt_length head) ≡ s → s ≡ true) [
      | true ↦ λ k. refl
      | false ↦ λ k. let none : is_some (block_in_chain (Part head pages ∷ older) b) ≡ false = ap (λ (o : Option (List ℕ)). is_some o) (nothing_past head pages older b (ltb-false b (rebuilt_length head) k)) in absurd cc
    ] refl

part_alike : (head : IncrHead) (pages : ForkPages) (series older : List Form) → AreParts series → AreAlike (merged_part (Part head pages ∷ series) (least_length head.truncation series) (rebuilt_length head) ∷ older) (Part head pages ∷ (series ++ older))
part_alike head pages series older parts =
    let own = Part head pages ∷ series in
    let least = least_length head.truncation series in
    let count = rebuilt_length head in
    let low = least_low series head.truncation in
    let answer = λ (b : ℕ). unwrap_or (block_in_chain own b) zero_page in
    let same = λ (b : ℕ).
    (let left = each_sent (merged_blocks own least count) answer b ∙ ap (λ c. cond c (Some (answer b)) None) (merged_has own least count b) in
    let right = asked_through own older b parts ∙ ap (λ c. option_or (block_in_chain own b) (cond c (block_in_chain older b) None)) (sym (through_least series head.truncation b parts)) in
    let all : unwrap_or (block_in_chain (merged_part own least count ∷ older) b) zero_page ≡ unwrap_or (block_in_chain (own ++ older) b) zero_page =
    ap (λ (o : Option (List ℕ)). unwrap_or (option_or o (cond (nat_lt b least) (block_in_chain older b) None)) zero_page) left
    ∙ chosen (block_in_chain own b) (block_in_chain older b) (nat_lt b count) (nat_lt b least) (nat_le least b) (some_within head pages series b)
    (λ k. lt-leb least b (ltb-true b least k)) (λ k. le-leb least b (ltb-false b least k))
    ∙ ap (λ (o : Option (List ℕ)). unwrap_or o zero_page) (sym right) in all) in
    record {
      blocks = same;
      file = ap (λ (ps : ForkPages). Some ps) (same_rebuilt (merged_part own least count ∷ older) (own ++ older) _ count (merged_length own least count (omega arith)) same);
    }

plain_alike : (head : IncrHead) (pages : ForkPages) (series older : List Form) → rests_on_plain series ≡ true → AreAlike (Plain (rebuilt_pages (Part head pages ∷ series) head) ∷ older) (Part head pages ∷ (series ++ older))
plain_alike head pages series older rests =
    let own = Part head pages ∷ series in
    let count = rebuilt_length head in
    let through = λ (b : ℕ). asked_plain own older b rests in
    record {
      blocks = λ b. elim (nat_lt b count) as (λ s. nat_lt b count ≡ s → unwrap_or (slice_get (rebuilt_pages own head) b) zero_page ≡ unwrap_or (block_in_chain (own ++ older) b) zero_page) [
        | true ↦ λ k. ap (λ (o : Option (List ℕ)). unwrap_or o zero_page) (rebuilt_at own head b (ltb-true b count k)) ∙ ap (λ (o : Option (List ℕ)). unwrap_or o zero_page) (sym (through b))
        | false ↦ λ k.
            let past = ltb-false b count k in
            let long = length-map-range_with_len (λ (x : ℕ). unwrap_or (block_in_chain own x) zero_page) 0 count in
            ap (λ (o : Option (List ℕ)). unwrap_or o zero_page) (slice_get_past (rebuilt_pages own head) b (omega arith)) ∙ ap (λ (o : Option (List ℕ)). unwrap_or o zero_page) (sym (through b ∙ nothing_past head pages series b past))
      ] refl;
      file = ap (λ (ps : ForkPages). Some ps) (same_rebuilt own (own ++ older) count count refl (λ b. ap (λ (o : Option (List ℕ)). unwrap_or o zero_page) (sym (through b))));
    }

-- a merged form stands for its series
pub merged_alike : (form : Form) (series older : List Form) → HasNoGap (form ∷ series) → AreAlike (merged_form (form ∷ series) ∷ older) (form ∷ (series ++ older))
merged_alike Absent series older h = record { blocks = λ b. refl; file = refl }
merged_alike (Plain pages) series older h = record { blocks = λ b. refl; file = refl }
merged_alike (Part head pages) series older h =
    elim (rests_on_plain series) as (λ s. rests_on_plain series ≡ s → AreAlike (cond s (Plain (rebuilt_pages (Part head pages ∷ series) head)) (merged_part (Part head pages ∷ series) (least_length head.truncation series) (rebuilt_length head)) ∷ older) (Part head pages ∷ (series ++ older))) [
      | true ↦ λ k. plain_alike head pages series older k
      | false ↦ λ k. part_alike head pages series older (all_parts series h k)
    ] refl

-- ---- the head of a merged file

past_within : (most : ℕ) (xs : List ℕ) → ((i : ℕ) → i < length xs → get_or xs i 0 < most) → past_all xs ≤ most
past_within most [] h = omega arith
past_within most (x ∷ xs) h =
    let here = h 0 (let z : 0 < suc (length xs) = omega arith in z) in
    let rest = past_within most xs (λ i lt. h (suc i) (let z : suc i < suc (length xs) = omega (arith, lt) in z)) in
    omega (arith, here, rest)

range_rises : (n : ℕ) → IsStrictlyIncreasing (range_with_len 0 n)
range_rises n k lt =
    let long = length-range_with_len 0 n in
    let one = get_or-range_with_len 0 n k 0 (omega (arith, lt, long)) in
    let two = get_or-range_with_len 0 n (k + 1) 0 (omega (arith, lt, long)) in
    omega (arith, one, two)

range_fits : (n most : ℕ) → n ≤ most → All (λ x. x < most) (range_with_len 0 n)
range_fits n most le k d lt =
    let long = length-range_with_len 0 n in
    let at = get_or-range_with_len 0 n k d (omega (arith, lt, long)) in
    omega (arith, at, le, lt, long)

part_head : (head : IncrHead) (pages : ForkPages) (series : List Form) → IsHead head → HasHead (merged_part (Part head pages ∷ series) (least_length head.truncation series) (rebuilt_length head))
part_head head pages series is =
    let low = least_low series head.truncation in
    let fits = is.length_fits in
    let past = past_within 131072 head.blocks (λ i lt. is.blocks_fit i 0 lt) in
    let most : rebuilt_length head ≤ 131072 = omega (arith, fits, past) in
    let kept = λ (b : ℕ). is_some (block_in_chain (Part head pages ∷ series) b) || nat_le (least_length head.truncation series) b in
    record {
      length_fits = omega (arith, low, fits);
      blocks_fit = All-filter kept (λ x. x < 131072) (range_with_len 0 (rebuilt_length head)) (range_fits (rebuilt_length head) 131072 most);
      rising = IsStrictlyIncreasing-filter kept (range_with_len 0 (rebuilt_length head)) (range_rises (rebuilt_length head));
    }

pub merged_head : (series : List Form) → AllByRecursion HasHead series → HasHead (merged_form series)
merged_head [] h = tt
merged_head (Absent ∷ older) h = tt
merged_head (Plain pages ∷ older) h = tt
merged_head (Part head pages ∷ older) h =
    elim (rests_on_plain older) as (λ s. HasHead (cond s (Plain (rebuilt_pages (Part head pages ∷ older) head)) (merged_part (Part head pages ∷ older) (least_length head.truncation older) (rebuilt_length head)))) [
      | true ↦ tt
      | false ↦ part_head head pages older h.0
    ]

pub merged_among : (newer series older : List Form) (form : Form) → HasNoGap (form ∷ series) → AreAlike (newer ++ (merged_form (form ∷ series) ∷ older)) (newer ++ (form ∷ (series ++ older)))
merged_among newer series older form h = alike_behind newer (merged_form (form ∷ series) ∷ older) (form ∷ (series ++ older)) (merged_alike form series older h)
