-- A block's origin has its page.
use Rattle.std.proofs.Common.{◌≡◌, ℕ, suc, ◌+◌, ◌<◌, Bool, true, false, cond, not, List, [], ◌∷◌, length, Option, Some, None, option_map, refl, sym, ap, subst, ◌∙◌, arith, inl, inr}
use Rattle.std.specs.Prelude.{nat_lt, slice_get, ◌==◌}
use Rattle.std.specs.List.{position, position_or_len}
use Rattle.std.specs.Option.{option_or}
use Rattle.std.proofs.lemmas.Bool.{cases_lt, eq-eqb, eqb-true, ltb-false, lt-ltb, le-ltb, false_from_ne_true}
use Rattle.std.proofs.lemmas.Option.{slice_get_past, slice_get-get_or}
use Rattle.lsn_core.specs.byte_words.Numbers.{◌>>=◌}
use Rattle.lsn_core.specs.Store.{ForkPages}
use Rattle.incr_file.specs.Form.{Form, Absent, Plain, Part, sent_page, block_in_chain}
use Rattle.incr_file.specs.Origin.{FormPage, AreComplete, origin_with, sent_number, origin_in_chain, form_pages, page_from}

-- a place in a list by its first element
position_cons : (p : ℕ → Bool) (x : ℕ) (xs : List ℕ) → position p (x ∷ xs) ≡ cond (p x) (Some 0) (option_map (λ n. n + 1) (position p xs))
position_cons p x xs =
    let first = position_or_len p xs in
    elim (p x) as (λ s. cond (nat_lt (cond (not s) (1 + position_or_len p xs) 0) (suc (length xs))) (Some (cond (not s) (1 + position_or_len p xs) 0)) None ≡ cond s (Some 0) (option_map (λ n. n + 1) (position p xs))) [
      | true ↦ rw (lt-ltb 0 (suc (length xs)) (omega arith)) refl
      | false ↦ elim (cases_lt (position_or_len p xs) (length xs)) [
        | inl lt ↦ rw (lt-ltb (position_or_len p xs) (length xs) lt, lt-ltb (1 + position_or_len p xs) (suc (length xs)) (omega arith)) (ap (λ (n : ℕ). Some n) (let z : 1 + position_or_len p xs ≡ position_or_len p xs + 1 = omega arith in z))
        | inr ge ↦ rw (le-ltb (position_or_len p xs) (length xs) ge, le-ltb (1 + position_or_len p xs) (suc (length xs)) (omega arith)) refl
      ]
    ]

number_cons : (x : ℕ) (blocks : List ℕ) (b : ℕ) → sent_number (x ∷ blocks) b ≡ cond (x == b) (Some 0) (option_map (λ n. n + 1) (sent_number blocks b))
number_cons x blocks b = position_cons (λ y. y == b) x blocks

later_page : (p : List ℕ) (pages : ForkPages) (o : Option ℕ) → (o >>= slice_get pages) ≡ (option_map (λ n. n + 1) o >>= slice_get (p ∷ pages))
later_page p pages None = refl
later_page p pages (Some n) = sym (ap (slice_get (p ∷ pages)) (let z : n + 1 ≡ suc n = omega arith in z))

sent_at : (blocks : List ℕ) (pages : ForkPages) (b : ℕ) → length pages ≡ length blocks → sent_page blocks pages b ≡ (sent_number blocks b >>= slice_get pages)
sent_at [] pages b l = refl
sent_at (x ∷ blocks) [] b l = absurd (omega arith)
sent_at (x ∷ blocks) (p ∷ pages) b l =
    let rest = sent_at blocks pages b (omega arith) in
    (elim (x == b) as (λ s. cond s (Some p) (sent_page blocks pages b) ≡ (cond s (Some 0) (option_map (λ n. n + 1) (sent_number blocks b)) >>= slice_get (p ∷ pages))) [
      | true ↦ refl
      | false ↦ rest ∙ later_page p pages (sent_number blocks b)
    ]) ∙ ap (λ (o : Option ℕ). o >>= slice_get (p ∷ pages)) (sym (number_cons x blocks b))

place_below : (blocks : List ℕ) (b n : ℕ) → sent_number blocks b ≡ Some n → n < length blocks
place_below blocks b n e =
    elim (cases_lt (position_or_len (λ y. y == b) blocks) (length blocks)) [
      | inl lt ↦ let there = rw (lt-ltb (position_or_len (λ y. y == b) blocks) (length blocks) lt) at e in let is : position_or_len (λ y. y == b) blocks ≡ n = cc in omega arith
      | inr ge ↦ let there = rw (le-ltb (position_or_len (λ y. y == b) blocks) (length blocks) ge) at e in absurd cc
    ]

older_origin : (forms : List Form) (b : ℕ) (origin : FormPage) → origin_in_chain forms b ≡ Some origin → origin.form < length forms
older_origin [] b origin e = absurd cc
older_origin (Absent ∷ older) b origin e = absurd cc
older_origin (Plain pages ∷ older) b origin e =
    elim (nat_lt b (length pages)) as (λ s. cond s (Some (origin_with (length older) b)) None ≡ Some origin → origin.form < suc (length older)) [
      | true ↦ λ f. let is : origin_with (length older) b ≡ origin = cc in subst (λ (o : FormPage). o.form < suc (length older)) is (let z : length older < suc (length older) = omega arith in z)
      | false ↦ λ f. absurd cc
    ] e
older_origin (Part head pages ∷ older) b origin e =
    elim (sent_number head.blocks b) as (λ o. option_or (option_map (origin_with (length older)) o) (cond (nat_lt b head.truncation) (origin_in_chain older b) None) ≡ Some origin → origin.form < suc (length older)) [
      | Some n ↦ λ f. let is : origin_with (length older) n ≡ origin = cc in subst (λ (o : FormPage). o.form < suc (length older)) is (let z : length older < suc (length older) = omega arith in z)
      | None ↦ λ f. elim (nat_lt b head.truncation) as (λ s. cond s (origin_in_chain older b) None ≡ Some origin → origin.form < suc (length older)) [
        | true ↦ λ g. let low = older_origin older b origin g in omega arith
        | false ↦ λ g. absurd cc
      ] f
    ] e

here : (form : Form) (older : List Form) (n : ℕ) → page_from (form ∷ older) (origin_with (length older) n) ≡ slice_get (form_pages form) n
here form older n = ap (λ b. cond b (slice_get (form_pages form) n) (page_from older (origin_with (length older) n))) (eq-eqb (length older) (length older) refl)

passed : (form : Form) (older : List Form) (b : ℕ) (o : Option FormPage) → origin_in_chain older b ≡ o → (o >>= page_from older) ≡ (o >>= page_from (form ∷ older))
passed form older b None e = refl
passed form older b (Some origin) e =
    let low = older_origin older b origin e in
    sym (ap (λ c. cond c (slice_get (form_pages form) origin.page) (page_from older origin)) (false_from_ne_true (origin.form == length older) (λ k. let is = eqb-true origin.form (length older) k in absurd (omega arith))))

pub origin_has_page : (forms : List Form) (b : ℕ) → AreComplete forms → block_in_chain forms b ≡ (origin_in_chain forms b >>= page_from forms)
origin_has_page [] b w = refl
origin_has_page (Absent ∷ older) b w = refl
origin_has_page (Plain pages ∷ older) b w =
    elim (nat_lt b (length pages)) as (λ s. nat_lt b (length pages) ≡ s → slice_get pages b ≡ (cond s (Some (origin_with (length older) b)) None >>= page_from (Plain pages ∷ older))) [
      | true ↦ λ k. sym (here (Plain pages) older b)
      | false ↦ λ k. slice_get_past pages b (ltb-false b (length pages) k)
    ] refl
origin_has_page (Part head pages ∷ older) b w =
    ap (λ (o : Option (List ℕ)). option_or o (cond (nat_lt b head.truncation) (block_in_chain older b) None)) (sent_at head.blocks pages b w.0)
    ∙ elim (sent_number head.blocks b) as (λ o. sent_number head.blocks b ≡ o → option_or (o >>= slice_get pages) (cond (nat_lt b head.truncation) (block_in_chain older b) None) ≡ (option_or (option_map (origin_with (length older)) o) (cond (nat_lt b head.truncation) (origin_in_chain older b) None) >>= page_from (Part head pages ∷ older))) [
      | Some n ↦ λ k.
          let low = place_below head.blocks b n k in
          let l = w.0 in
          let there = slice_get-get_or pages n [] (omega arith) in
          ap (λ (o : Option (List ℕ)). option_or o (cond (nat_lt b head.truncation) (block_in_chain older b) None)) there ∙ sym there ∙ sym (here (Part head pages) older n)
      | None ↦ λ k. elim (nat_lt b head.truncation) as (λ s. cond s (block_in_chain older b) None ≡ (cond s (origin_in_chain older b) None >>= page_from (Part head pages ∷ older))) [
        | true ↦ origin_has_page older b w.1 ∙ passed (Part head pages) older b (origin_in_chain older b) refl
        | false ↦ refl
      ]
    ] refl
