-- Members that are asked in turn, the newest one first.
use Rattle.std.proofs.Common.{◌≡◌, ℕ, zero, suc, ◌+◌, ◌-◌, ◌<◌, ◌≤◌, min, ◌||◌, ◌&&◌, Bool, true, false, cond, List, [], ◌∷◌, ◌++◌, map, length, take, get_or, replicate, Option, Some, None, IfSome, Result, Ok, Err, IfErr, refl, sym, ap, subst, ◌∙◌, arith}
use Rattle.std.specs.Prelude.{nat_lt, nat_le, slice_get}
use Rattle.std.specs.List.{filter, range_with_len}
use Rattle.std.specs.Option.{is_some, option_or}
use Rattle.std.specs.Result.{IsErrAnd}
use Rattle.std.proofs.lemmas.Bool.{lt-ltb, le-ltb, ltb-true, ltb-false}
use Rattle.std.proofs.lemmas.List.{take_more, take_all, reverse-append, get_or-replicate, length-replicate}
use Rattle.std.proofs.lemmas.Option.{slice_get-get_or}
use Rattle.lsn_core.specs.byte_words.Numbers.{◌>>=◌}
use Rattle.lsn_core.specs.Files.{Files}
use Rattle.lsn_core.specs.Store.{ForkPages}
use Rattle.vault.specs.declared.area.Vault.{Ghosts}
use Rattle.vault.specs.declared.lending.Held.{Held}
use Rattle.incr_file.specs.declared.head.IncrHead.{IncrHead}
use Rattle.incr_file.specs.Form.{Form, Absent, Plain, Part, sent_page, block_in_chain}
use Rattle.incr_file.specs.Head.{head_with}
use Rattle.incr_file.specs.Plan.{has_block}
use Rattle.chain_files.specs.Segments.{form_at, forms_at, HasForms, AllHaveForms}
use Rattle.chain_files.specs.Sources.{OfChain}
use Rattle.chain_files.specs.Told.{told_at, chain_told, AllOnlyRead}
use Rattle.chain_files.proofs.Told.{member_told, members_told, reads_told}
use Rattle.chain_files.specs.Paths.{IsRelationFile}
use Rattle.merged_forms.specs.Merged.{rests_on_plain, least_length}
use Rattle.series_files.specs.Heads.{merged_head_of}
use Rattle.series_files.specs.Inside.{IsSeen, AreMarked, had_blocks, Leaves, IsAsked}
use Rattle.series_files.specs.declared.answered.Answered.{Answered}
use Rattle.series_files.specs.declared.seen.Seen.{Seen}
use Rattle.series_files.specs.declared.seen.Seen.TheVariants as seen
use Rattle.series_files.proofs.Listed.{kept_same}
use Rattle.series_files.proofs.Counted.{IsCounted, form_counted, sent_has}

-- ---- what is told

-- a fact of all members follows where all are told
pub when_all : {A : Type 0} (o : Option A) (P : A → Type 0) → ((x : A) → o ≡ Some x → P x) → IfSome o P
when_all None P step = tt
when_all (Some x) P step = step x refl

pub some_of : {A : Type 0} (o : Option A) (x : A) (P : A → Type 0) → o ≡ Some x → IfSome o P → P x
some_of None x P e p = absurd cc
some_of (Some y) x P e p = let same : y ≡ x = cc in subst P same p

there_is : {A : Type 0} (xs : List A) (k : ℕ) → k < length xs → (x : A) × (slice_get xs k ≡ Some x)
there_is [] k lt = absurd (omega (arith, lt))
there_is (x ∷ xs) zero lt = (x, refl)
there_is (x ∷ xs) (suc k) lt = there_is xs k (omega (arith, lt))

there_at : {A : Type 0} (xs : List A) (k : ℕ) (x : A) → slice_get xs k ≡ Some x → (k < length xs) × (get_or xs k x ≡ x)
there_at [] k x e = absurd cc
there_at (y ∷ xs) zero x e = (let z : 0 < suc (length xs) = omega arith in z, let same : y ≡ x = cc in same)
there_at (y ∷ xs) (suc k) x e = let rest = there_at xs k x e in (let z : suc k < suc (length xs) = omega (arith, rest.0) in z, rest.1)

-- what holds of what the area at its place tells, holds of the member
pub member_seen : {V : Type 0} (g : Ghosts V) (areas : List (Held V)) (places : List ℕ) (P : Files → Type 0) (chain : List Files) (k : ℕ) → chain_told g areas places ≡ Some chain → k < length places → IfSome (told_at g areas (get_or places k 0)) P
    → (m : Files) × (slice_get chain k ≡ Some m) × P m
member_seen g areas places P chain k told lt held =
    let place = slice_get-get_or places k 0 lt in
    let there = there_is chain k (omega (arith, lt, members_told g areas places chain told)) in
    let tells : told_at g areas (get_or places k 0) ≡ Some there.0 = sym (ap (λ (o : Option ℕ). o >>= told_at g areas) place) ∙ sym (member_told g areas places chain k told) ∙ there.1 in
    (there.0, there.1, some_of (told_at g areas (get_or places k 0)) there.0 P tells held)

pub all_members : {V : Type 0} (g : Ghosts V) (areas : List (Held V)) (places : List ℕ) (chain : List Files) (left : ℕ) → chain_told g areas places ≡ Some chain → left ≡ length places → take left chain ≡ chain
all_members g areas places chain left told e = take_all left chain (omega (arith, e, members_told g areas places chain told))

-- ---- their forms

pub forms_more : (chain : List Files) (folder name : List ℕ) (k : ℕ) (m : Files) → slice_get chain k ≡ Some m → forms_at (take (k + 1) chain) folder name ≡ form_at folder name m ∷ forms_at (take k chain) folder name
forms_more chain folder name k m e =
    let at = there_at chain k m e in
    ap (λ (l : List Files). forms_at l folder name) (take_more chain k m at.0 ∙ ap (λ (x : Files). take k chain ++ x ∷ []) at.1)
    ∙ ap (map (form_at folder name)) (reverse-append (take k chain) (m ∷ []))

pub forms_none : (chain : List Files) (folder name : List ℕ) (left : ℕ) → left ≡ 0 → forms_at (take left chain) folder name ≡ []
forms_none chain folder name left e = ap (λ (n : ℕ). forms_at (take n chain) folder name) e

pub member_forms : (chain : List Files) (k : ℕ) (m : Files) → AllHaveForms chain → slice_get chain k ≡ Some m → HasForms m
member_forms [] k m all e = absurd cc
member_forms (x ∷ chain) zero m all e = let same : x ≡ m = cc in subst HasForms same all.0
member_forms (x ∷ chain) (suc k) m all e = member_forms chain k m all.1 e

-- ---- one more is asked

module _ (forms : List Form) where
  pub leaves_begun : (answered : Answered) (count : ℕ) → answered.least ≡ 131072 → answered.had.items ≡ replicate count false → count ≤ 131072 → Leaves forms forms answered
  leaves_begun answered count least none few =
      let long : length answered.had.items ≡ count = ap (λ (l : List Bool). length l) none ∙ length-replicate count false in
      record {
        fits = omega (arith, least);
        least = ap (λ (n : ℕ). least_length n forms) least;
        rests = refl;
        had = λ b d lt.
            let not_yet : get_or answered.had.items b d ≡ false = ap (λ (l : List Bool). get_or l b d) none ∙ get_or-replicate count b false d (omega (arith, lt, long)) in
            ap (λ v. v || (nat_lt b answered.least && is_some (block_in_chain forms b))) not_yet
            ∙ ap (λ v. v && is_some (block_in_chain forms b)) (lt-ltb b answered.least (omega (arith, lt, long, few, least)));
      }

  by_absent : (older : List Form) (answered : Answered) → Leaves forms (Absent ∷ older) answered → IsAsked forms false answered
  by_absent older answered is = (sym is.rests, record { fits = is.fits; least = is.least; rests = is.rests; had = is.had })

  by_none : (answered : Answered) → Leaves forms [] answered → IsAsked forms false answered
  by_none answered is = (sym is.rests, is)

  by_plain : (pages : ForkPages) (older : List Form) (answered : Answered) → Leaves forms (Plain pages ∷ older) answered → IsAsked forms true answered
  by_plain pages older answered is = sym is.rests

  split : (o rest : Option (List ℕ)) (below h : Bool) → is_some o ≡ h → is_some (option_or o (cond below rest None)) ≡ (h || (below && is_some rest))
  split (Some page) rest below true e = refl
  split (Some page) rest below false e = absurd cc
  split None rest true false e = refl
  split None rest false false e = refl
  split None rest below true e = absurd cc

  regroup : (g l h t r : Bool) → ((g || (l && h)) || ((l && t) && r)) ≡ (g || (l && (h || (t && r))))
  regroup true l h t r = refl
  regroup false true true t r = refl
  regroup false true false true r = refl
  regroup false true false false r = refl
  regroup false false h t r = refl

  both_true : (a b : Bool) → a ≡ true → b ≡ true → (a && b) ≡ true
  both_true true b e f = f
  both_true false b e f = absurd cc

  below_both : (b n m : ℕ) → nat_lt b (min n m) ≡ (nat_lt b n && nat_lt b m)
  below_both b n m =
      elim (nat_lt b n) as (λ s. nat_lt b n ≡ s → nat_lt b (min n m) ≡ (s && nat_lt b m)) [
        | true ↦ λ k. let i = ltb-true b n k in
            elim (nat_lt b m) as (λ t. nat_lt b m ≡ t → nat_lt b (min n m) ≡ t) [
              | true ↦ λ l. let j = ltb-true b m l in lt-ltb b (min n m) (omega (arith, i, j))
              | false ↦ λ l. let j = ltb-false b m l in le-ltb b (min n m) (omega (arith, j))
            ] refl
        | false ↦ λ k. let i = ltb-false b n k in le-ltb b (min n m) (omega (arith, i))
      ] refl

  by_part : (head : IncrHead) (pages : ForkPages) (older : List Form) (listed : IncrHead) (old new : Answered) → Leaves forms (Part head pages ∷ older) old → length pages ≡ length head.blocks → listed ≡ head → new.least ≡ min old.least listed.truncation
      → AreMarked old.least listed.blocks old.had.items new.had.items → Leaves forms older new
  by_part head pages older listed old new is counted same least marked =
      let lower : new.least ≡ min old.least head.truncation = least ∙ ap (λ (h : IncrHead). min old.least h.truncation) same in
      record {
        fits = omega (arith, is.fits, lower);
        least = ap (λ (n : ℕ). least_length n older) lower ∙ is.least;
        rests = is.rests;
        had = λ b d lt.
            let within : b < length old.had.items = omega (arith, lt, marked.long) in
            let mark : get_or new.had.items b d ≡ (get_or old.had.items b d || (nat_lt b old.least && has_block head.blocks b)) = marked.each b d within ∙ ap (λ (h : IncrHead). get_or old.had.items b d || (nat_lt b old.least && has_block h.blocks b)) same in
            let below : nat_lt b new.least ≡ (nat_lt b old.least && nat_lt b head.truncation) = ap (nat_lt b) lower ∙ below_both b old.least head.truncation in
            ap (λ v. v || (nat_lt b new.least && is_some (block_in_chain older b))) mark
            ∙ ap (λ v. (get_or old.had.items b d || (nat_lt b old.least && has_block head.blocks b)) || (v && is_some (block_in_chain older b))) below
            ∙ regroup (get_or old.had.items b d) (nat_lt b old.least) (has_block head.blocks b) (nat_lt b head.truncation) (is_some (block_in_chain older b))
            ∙ ap (λ v. get_or old.had.items b d || (nat_lt b old.least && v)) (sym (split (sent_page head.blocks pages b) (block_in_chain older b) (nat_lt b head.truncation) (has_block head.blocks b) (sent_has head.blocks pages b counted)))
            ∙ is.had b d within;
      }

  -- by the form that was seen of the next member
  pub asked_absent : (form : Form) (older : List Form) (answered : Answered) → IsSeen form seen.Absent → Leaves forms (form ∷ older) answered → IsAsked forms false answered
  asked_absent Absent older answered is so_far = by_absent older answered so_far
  asked_absent (Plain pages) older answered is so_far = absurd is
  asked_absent (Part head pages) older answered is so_far = absurd is

  pub asked_plain : (form : Form) (older : List Form) (answered : Answered) → IsSeen form seen.Plain → Leaves forms (form ∷ older) answered → IsAsked forms true answered
  asked_plain Absent older answered is so_far = absurd is
  asked_plain (Plain pages) older answered is so_far = by_plain pages older answered so_far
  asked_plain (Part head pages) older answered is so_far = absurd is

  pub asked_part : (form : Form) (older : List Form) (listed : IncrHead) (old new : Answered) → IsSeen form (seen.Part listed) → IsCounted form → Leaves forms (form ∷ older) old → new.least ≡ min old.least listed.truncation → AreMarked old.least listed.blocks old.had.items new.had.items
      → Leaves forms older new
  asked_part Absent older listed old new is counted so_far least marked = absurd is
  asked_part (Plain pages) older listed old new is counted so_far least marked = absurd is
  asked_part (Part head pages) older listed old new is counted so_far least marked = by_part head pages older listed old new so_far counted is least marked

  pub asked_all : (older : List Form) (answered : Answered) → older ≡ [] → Leaves forms older answered → IsAsked forms false answered
  asked_all older answered none is = by_none answered (subst (λ (l : List Form). Leaves forms l answered) none is)

  pub asked_rests : (plain : Bool) (answered : Answered) → IsAsked forms plain answered → plain ≡ rests_on_plain forms
  asked_rests true answered is = sym is
  asked_rests false answered is = sym is.0

  last : (g l : Bool) → (g || (l && false)) ≡ g
  last true l = refl
  last false true = refl
  last false false = refl

  -- the head by what all members say
  pub asked_head : (plain : Bool) (answered : Answered) (count : ℕ) (head : IncrHead) → rests_on_plain forms ≡ false → IsAsked forms plain answered → length answered.had.items ≡ count → head ≡ head_with answered.least (had_blocks answered.had.items answered.least) → head ≡ merged_head_of forms count
  asked_head true answered count head none is long made = absurd (let never : true ≡ false = sym is ∙ none in cc)
  asked_head false answered count head none is long made =
      let told = is.1 in
      let all : had_blocks answered.had.items answered.least ≡ filter (λ b. is_some (block_in_chain forms b) || nat_le answered.least b) (range_with_len 0 (length answered.had.items)) =
      kept_same (λ b. get_or answered.had.items b false || nat_le answered.least b) (λ b. is_some (block_in_chain forms b) || nat_le answered.least b) 0 (length answered.had.items)
      (λ b lt. ap (λ v. v || nat_le answered.least b) (sym (last (get_or answered.had.items b false) (nat_lt b answered.least)) ∙ told.had b false (omega (arith, lt)))) in
      made
      ∙ ap (head_with answered.least) all
      ∙ ap (λ (n : ℕ). head_with answered.least (filter (λ b. is_some (block_in_chain forms b) || nat_le answered.least b) (range_with_len 0 n))) long
      ∙ ap (λ (n : ℕ). head_with n (filter (λ b. is_some (block_in_chain forms b) || nat_le n b) (range_with_len 0 count))) told.least

-- ---- the next member

module _ (folder name : List ℕ) (chain : List Files) (left : ℕ) (m : Files) (some : 0 < left) (all : AllHaveForms chain) (there : slice_get chain (left - 1) ≡ Some m) where
  forms_here : forms_at (take left chain) folder name ≡ form_at folder name m ∷ forms_at (take (left - 1) chain) folder name
  forms_here = ap (λ (n : ℕ). forms_at (take n chain) folder name) (let z : left ≡ left - 1 + 1 = omega (arith, some) in z) ∙ forms_more chain folder name (left - 1) m there

  so_far_here : (forms : List Form) (answered : Answered) → Leaves forms (forms_at (take left chain) folder name) answered → Leaves forms (form_at folder name m ∷ forms_at (take (left - 1) chain) folder name) answered
  so_far_here forms answered is = subst (λ (l : List Form). Leaves forms l answered) forms_here is

  pub next_absent : (forms : List Form) (answered : Answered) → IsSeen (form_at folder name m) seen.Absent → Leaves forms (forms_at (take left chain) folder name) answered → IsAsked forms false answered
  next_absent forms answered is so_far = asked_absent forms (form_at folder name m) (forms_at (take (left - 1) chain) folder name) answered is (so_far_here forms answered so_far)

  pub next_plain : (forms : List Form) (answered : Answered) → IsSeen (form_at folder name m) seen.Plain → Leaves forms (forms_at (take left chain) folder name) answered → IsAsked forms true answered
  next_plain forms answered is so_far = asked_plain forms (form_at folder name m) (forms_at (take (left - 1) chain) folder name) answered is (so_far_here forms answered so_far)

  pub next_part : (forms : List Form) (listed : IncrHead) (old new : Answered) → IsRelationFile folder name → IsSeen (form_at folder name m) (seen.Part listed) → Leaves forms (forms_at (take left chain) folder name) old → new.least ≡ min old.least listed.truncation → AreMarked old.least listed.blocks old.had.items new.had.items
      → Leaves forms (forms_at (take (left - 1) chain) folder name) new
  next_part forms listed old new named is so_far least marked =
      asked_part forms (form_at folder name m) (forms_at (take (left - 1) chain) folder name) listed old new is (form_counted folder name m named (member_forms chain (left - 1) m all there)) (so_far_here forms old so_far) least marked

module _ {V : Type 0} (g : Ghosts V) (areas now : List (Held V)) (places : List ℕ) (folder name : List ℕ) (left : ℕ) (first answered : Answered) where
  -- what follows for a chain from what is seen of its next member
  pub asked_next : (s : Seen) (Q : List Files → Type 0) → AllOnlyRead g areas now → 0 < left → left ≤ length places
      → OfChain (chain_told g areas places) (λ chain. Leaves (forms_at chain folder name) (forms_at chain folder name) first → Leaves (forms_at chain folder name) (forms_at (take left chain) folder name) answered)
      → IfSome (told_at g now (get_or places (left - 1) 0)) (λ m. HasForms m → IsSeen (form_at folder name m) s)
      → ((chain : List Files) (m : Files) → AllHaveForms chain → slice_get chain (left - 1) ≡ Some m → IsSeen (form_at folder name m) s → Leaves (forms_at chain folder name) (forms_at (take left chain) folder name) answered → Q chain)
      → OfChain (chain_told g areas places) (λ chain. Leaves (forms_at chain folder name) (forms_at chain folder name) first → Q chain)
  asked_next s Q reads some within so_far sees step =
      when_all (chain_told g areas places) (λ chain. AllHaveForms chain → Leaves (forms_at chain folder name) (forms_at chain folder name) first → Q chain)
      (λ chain told forms begun.
      let here = some_of (chain_told g areas places) chain (λ ch. AllHaveForms ch → Leaves (forms_at ch folder name) (forms_at ch folder name) first → Leaves (forms_at ch folder name) (forms_at (take left ch) folder name) answered) told so_far forms begun in
      let then = reads_told g areas now reads places ∙ told in
      let is = member_seen g now places (λ m. HasForms m → IsSeen (form_at folder name m) s) chain (left - 1) then (omega (arith, some, within)) sees in
      step chain is.0 forms is.1 (is.2 (member_forms chain (left - 1) is.0 forms is.1)) here)

  -- all were asked
  pub asked_end : left ≡ 0 → OfChain (chain_told g areas places) (λ chain. Leaves (forms_at chain folder name) (forms_at chain folder name) first → Leaves (forms_at chain folder name) (forms_at (take left chain) folder name) answered)
      → OfChain (chain_told g areas places) (λ chain. Leaves (forms_at chain folder name) (forms_at chain folder name) first → IsAsked (forms_at chain folder name) false answered)
  asked_end none so_far =
      when_all (chain_told g areas places) (λ chain. AllHaveForms chain → Leaves (forms_at chain folder name) (forms_at chain folder name) first → IsAsked (forms_at chain folder name) false answered)
      (λ chain told forms begun.
      asked_all (forms_at chain folder name) (forms_at (take left chain) folder name) answered (forms_none chain folder name left none)
      (some_of (chain_told g areas places) chain (λ ch. AllHaveForms ch → Leaves (forms_at ch folder name) (forms_at ch folder name) first → Leaves (forms_at ch folder name) (forms_at (take left ch) folder name) answered) told so_far forms begun))

-- ---- the calls

-- whether the series has the file whole
pub whole_is : (told : Option (List Files)) (folder name : List ℕ) (whole : Bool) (first answered : Answered) → first.least ≡ 131072 → first.had.items ≡ replicate 0 false → OfChain told (λ chain. Leaves (forms_at chain folder name) (forms_at chain folder name) first → IsAsked (forms_at chain folder name) whole answered)
    → OfChain told (λ chain. whole ≡ rests_on_plain (forms_at chain folder name))
whole_is None folder name whole first answered least none asked = tt
whole_is (Some chain) folder name whole first answered least none asked = λ forms.
    asked_rests (forms_at chain folder name) whole answered (asked forms (leaves_begun (forms_at chain folder name) first 0 least none (omega arith)))

pub head_is : (told : Option (List Files)) (folder name : List ℕ) (count : ℕ) (whole : Bool) (first answered : Answered) (head : IncrHead) → first.least ≡ 131072 → first.had.items ≡ replicate count false → count ≤ 131072
    → OfChain told (λ chain. Leaves (forms_at chain folder name) (forms_at chain folder name) first → IsAsked (forms_at chain folder name) whole answered) → length answered.had.items ≡ count → head ≡ head_with answered.least (had_blocks answered.had.items answered.least)
    → OfChain told (λ chain. rests_on_plain (forms_at chain folder name) ≡ false → head ≡ merged_head_of (forms_at chain folder name) count)
head_is None folder name count whole first answered head least none few asked long made = tt
head_is (Some chain) folder name count whole first answered head least none few asked long made = λ forms rests.
    asked_head (forms_at chain folder name) whole answered count head rests (asked forms (leaves_begun (forms_at chain folder name) first count least none few)) long made

-- a fault that is passed on
pub handed_on : {T E : Type 0} (result : Result T E) (fault : E) (P : E → Type 0) → IsErrAnd result (λ x. x ≡ fault) → P fault → IfErr result P
handed_on (Ok x) fault P is holds = absurd is
handed_on (Err x) fault P is holds = subst P (sym is) holds
