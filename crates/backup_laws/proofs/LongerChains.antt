-- Chains that go on in the same way are combined alike where their beginnings are.
use Rattle.std.proofs.Common.{◌≡◌, ℕ, ◌<◌, ◌≤◌, Bool, true, false, cond, List, [], ◌∷◌, ◌++◌, map, length, get_or, Option, Some, None, unwrap_or, refl, sym, ap, ◌∙◌, arith, inl, inr}
use Rattle.std.specs.Prelude.{nat_lt, slice_get, reverse, ◌==◌}
use Rattle.std.specs.List.{range_with_len}
use Rattle.std.specs.Option.{option_or}
use Rattle.std.proofs.Math.Path.{fun_ext}
use Rattle.std.proofs.lemmas.Bool.{cases_lt, le-ltb, eqb-true}
use Rattle.std.proofs.lemmas.List.{map-append, reverse-append}
use Rattle.std.proofs.lemmas.List.FromFn.{length-map-range_with_len}
use Rattle.std.proofs.lemmas.Option.{slice_get-get_or}
use Rattle.lsn_core.specs.byte_words.Pieces.{zero_page}
use Rattle.lsn_core.specs.Files.{Files}
use Rattle.lsn_core.specs.Store.{ForkPages}
use Rattle.lsn_core.specs.declared.ids.ForkId.{ForkId}
use Rattle.incr_file.specs.Form.{Form, Absent, Plain, Part, sent_page, block_in_chain, past_all, rebuilt_length, rebuilt_pages, pages_in_chain}
use Rattle.incr_file.specs.declared.head.IncrHead.{IncrHead}
use Rattle.chain_files.specs.Segments.{chain_segments, form_of, forms_of}
use Rattle.chain_laws.proofs.Sending.{from_chain}

-- ---- blocks of the forms of one file

-- the page that stands for a block, zeros where there is none
abbrev page_at : List Form → ℕ → List ℕ
page_at forms block = unwrap_or (block_in_chain forms block) zero_page

abbrev page_of : Option (List ℕ) → List ℕ
page_of page = unwrap_or page zero_page

-- where no file stands for the newest form there are no blocks
none_there : (forms : List Form) (block : ℕ) → pages_in_chain forms ≡ None → block_in_chain forms block ≡ None
none_there [] block none = refl
none_there (Absent ∷ older) block none = refl
none_there (Plain pages ∷ older) block none = absurd cc
none_there (Part head pages ∷ older) block none = absurd cc

-- past the last listed block none is sent
none_sent : (blocks : List ℕ) (pages : ForkPages) (block : ℕ) → past_all blocks ≤ block → sent_page blocks pages block ≡ None
none_sent [] pages block past = refl
none_sent (b ∷ blocks) [] block past = refl
none_sent (b ∷ blocks) (page ∷ pages) block past =
    elim (b == block) as (λ s. (b == block) ≡ s → cond s (Some page) (sent_page blocks pages block) ≡ None) [
      | true ↦ λ same. absurd (omega (arith, past, eqb-true b block same))
      | false ↦ λ apart. none_sent blocks pages block (omega (arith, past))
    ] refl

-- past the end of the file that stands for the newest form there are none either
none_past_part : (head : IncrHead) (own : ForkPages) (older : List Form) (block : ℕ) → slice_get (rebuilt_pages (Part head own ∷ older) head) block ≡ None → block_in_chain (Part head own ∷ older) block ≡ None
none_past_part head own older block none = elim (cases_lt block (rebuilt_length head)) [
  | inl within ↦
      let pages : ForkPages = rebuilt_pages (Part head own ∷ older) head in
      let long : block < length pages = omega (arith, within, length-map-range_with_len (page_at (Part head own ∷ older)) 0 (rebuilt_length head)) in
      absurd (let e : Some (get_or pages block []) ≡ None = sym (slice_get-get_or pages block [] long) ∙ none in cc)
  | inr past ↦
      let sent : sent_page head.blocks own block ≡ None = none_sent head.blocks own block (omega (arith, past)) in
      let below : nat_lt block head.truncation ≡ false = le-ltb block head.truncation (omega (arith, past)) in
      ap (λ (s : Option (List ℕ)). option_or s (cond (nat_lt block head.truncation) (block_in_chain older block) None)) sent
      ∙ ap (λ (s : Bool). cond s (block_in_chain older block) None) below
]

none_past : (forms : List Form) (pages : ForkPages) (block : ℕ) → pages_in_chain forms ≡ Some pages → slice_get pages block ≡ None → block_in_chain forms block ≡ None
none_past [] pages block is none = absurd cc
none_past (Absent ∷ older) pages block is none = absurd cc
none_past (Plain own ∷ older) pages block is none = let same : own ≡ pages = cc in ap (λ (ps : ForkPages). slice_get ps block) same ∙ none
none_past (Part head own ∷ older) pages block is none =
    let same : rebuilt_pages (Part head own ∷ older) head ≡ pages = cc in
    none_past_part head own older block (ap (λ (ps : ForkPages). slice_get ps block) same ∙ none)

-- so forms that are combined to the same file have the same blocks, and zeros where one has none
asked_alike : (one other : List Form) (block : ℕ) → pages_in_chain one ≡ pages_in_chain other → page_at one block ≡ page_at other block
asked_alike one other block same = by (pages_in_chain one) refl
  where
    by_page : (pages : ForkPages) (o : Option (List ℕ)) → pages_in_chain one ≡ Some pages → slice_get pages block ≡ o → page_at one block ≡ page_at other block
    by_page pages None is e = ap page_of (none_past one pages block is e) ∙ sym (ap page_of (none_past other pages block (sym same ∙ is) e))
    by_page pages (Some page) is e = from_chain one pages block page is e ∙ sym (from_chain other pages block page (sym same ∙ is) e)

    by : (o : Option ForkPages) → pages_in_chain one ≡ o → page_at one block ≡ page_at other block
    by None is = ap page_of (none_there one block is) ∙ sym (ap page_of (none_there other block (sym same ∙ is)))
    by (Some pages) is = by_page pages (slice_get pages block) is refl

-- ---- newer forms before them

or_alike : (sent : Option (List ℕ)) (below : Bool) (one other : Option (List ℕ)) → page_of one ≡ page_of other → page_of (option_or sent (cond below one None)) ≡ page_of (option_or sent (cond below other None))
or_alike (Some page) below one other same = refl
or_alike None true one other same = same
or_alike None false one other same = refl

-- they ask either for the same
newer_alike : (newer one other : List Form) (block : ℕ) → page_at one block ≡ page_at other block → page_at (newer ++ one) block ≡ page_at (newer ++ other) block
newer_alike [] one other block same = same
newer_alike (Absent ∷ newer) one other block same = refl
newer_alike (Plain pages ∷ newer) one other block same = refl
newer_alike (Part head pages ∷ newer) one other block same =
    or_alike (sent_page head.blocks pages block) (nat_lt block head.truncation) (block_in_chain (newer ++ one) block) (block_in_chain (newer ++ other) block) (newer_alike newer one other block same)

files_alike : (newer one other : List Form) → pages_in_chain one ≡ pages_in_chain other → pages_in_chain (newer ++ one) ≡ pages_in_chain (newer ++ other)
files_alike [] one other same = same
files_alike (Absent ∷ newer) one other same = refl
files_alike (Plain pages ∷ newer) one other same = refl
files_alike (Part head pages ∷ newer) one other same =
    ap (λ (f : ℕ → List ℕ). Some (map f (range_with_len 0 (rebuilt_length head))))
    (fun_ext (λ block. newer_alike (Part head pages ∷ newer) one other block (asked_alike one other block same)))

-- ---- chains

forms_both : (chain more : List Files) (fork : ForkId) (seg : ℕ) → forms_of (chain ++ more) fork seg ≡ forms_of more fork seg ++ forms_of chain fork seg
forms_both chain more fork seg = ap (map (form_of fork seg)) (reverse-append chain more) ∙ map-append (form_of fork seg) (reverse more) (reverse chain)

-- chains that are combined to the same file of a segment are so with the same directories behind them
pub longer_alike : (one other more : List Files) (fork : ForkId) (seg : ℕ) → chain_segments one fork seg ≡ chain_segments other fork seg → chain_segments (one ++ more) fork seg ≡ chain_segments (other ++ more) fork seg
longer_alike one other more fork seg same =
    ap pages_in_chain (forms_both one more fork seg)
    ∙ (files_alike (forms_of more fork seg) (forms_of one fork seg) (forms_of other fork seg) same
    ∙ sym (ap pages_in_chain (forms_both other more fork seg)))
