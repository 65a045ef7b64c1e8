-- What entries leave alone.
use Rattle.std.proofs.Common.{◌≡◌, ℕ, Bool, true, false, cond, ◌||◌, List, [], ◌∷◌, ◌++◌, map, Option, Some, refl, sym, ap, subst, ◌∙◌}
use Rattle.std.specs.List.{list_any}
use Rattle.std.proofs.lemmas.Bool.{or_parts}
use Rattle.lsn_core.specs.declared.ids.ForkId.{ForkId}
use Rattle.lsn_core.specs.Blocks.{block_of}
use Rattle.history.specs.declared.op.Item.{Item}
use Rattle.history.specs.Entry.{Act, Create, Truncate, Change, Drop, Mark, Entry}
use Rattle.history.specs.Apply.{edited}
use Rattle.history.specs.fuzzy_copies.Touches.{is_at, act_touches, act_cuts, resets}
use Rattle.history.specs.fuzzy_copies.Effects.{Effect, Stay, Reach, Alter, Clear, after_all, is_past, item_effect, act_effects, effects_on, act_reaches, reaches}
use Rattle.history.specs.fuzzy_copies.Laws.{UntouchedBlocksStay, UntouchedPagesStay, EffectsTellBlocks, EffectsTellForks}
use Rattle.history.proofs.fuzzy_copies.View.{entries_view, forks_view}
use Rattle.history.proofs.fuzzy_copies.Replay.{view}

pub tell_blocks : EffectsTellBlocks
tell_blocks fork block es s t e = entries_view edited s t es (view s t es e) fork block

pub tell_forks : EffectsTellForks
tell_forks fork es s t e = forks_view edited s t es (view s t es e) fork

-- effects that leave a block, but for a missing one that is reached where that may be
abbrev Leaves : Bool → List Effect → Type 0
Leaves may [] = Unit
Leaves may (Stay ∷ xs) = Leaves may xs
Leaves may (Reach ∷ xs) = (may ≡ true) × Leaves may xs
Leaves may (Alter end edit ∷ xs) = ⊥
Leaves may (Clear ∷ xs) = ⊥

left : (xs : List Effect) (o p : Option (List ℕ)) → Leaves false xs → after_all edited xs o ≡ Some p → p ≡ o
left [] o p l e = sym cc
left (Stay ∷ xs) o p l e = left xs o p l e
left (Reach ∷ xs) o p l e = absurd (let k = l.0 in cc)
left (Alter end edit ∷ xs) o p l e = absurd l
left (Clear ∷ xs) o p l e = absurd l

page_left : (xs : List Effect) (page : List ℕ) (p : Option (List ℕ)) → Leaves true xs → after_all edited xs (Some page) ≡ Some p → p ≡ Some page
page_left [] page p l e = sym cc
page_left (Stay ∷ xs) page p l e = page_left xs page p l e
page_left (Reach ∷ xs) page p l e = page_left xs page p l.1 e
page_left (Alter end edit ∷ xs) page p l e = absurd l
page_left (Clear ∷ xs) page p l e = absurd l

by_two : (P : List Effect → Type 0) (a b : Bool) (x y z : Effect) (xs : List Effect) → a ≡ false → (b ≡ true → P (y ∷ xs)) → (b ≡ false → P (z ∷ xs)) → P (cond a x (cond b y z) ∷ xs)
by_two P a true x y z xs e reach stay = subst (λ t. P (cond t x y ∷ xs)) (sym e) (reach refl)
by_two P a false x y z xs e reach stay = subst (λ t. P (cond t x z ∷ xs)) (sym e) (stay refl)

leave_items : (may : Bool) (fork : ForkId) (block end : ℕ) (items : List Item) (xs : List Effect) → list_any (is_at fork block) items ≡ false → (may ≡ false → list_any (is_past fork block) items ≡ false) → Leaves may xs
    → Leaves may (map (item_effect fork block end) items ++ xs)
leave_items may fork block end [] xs none past l = l
leave_items may fork block end (item ∷ items) xs none past l =
    let p = or_parts (is_at fork block item) (list_any (is_at fork block) items) none in
    let rest : Leaves may (map (item_effect fork block end) items ++ xs) = leave_items may fork block end items xs p.1 (λ m. (or_parts (is_past fork block item) (list_any (is_past fork block) items) (past m)).1) l in
    by_two (Leaves may) (is_at fork block item) (is_past fork block item) (Alter end item.edit) Reach Stay (map (item_effect fork block end) items ++ xs) p.0
    (λ reached. (
      elim may as (λ t. may ≡ t → t ≡ true) [
        | true ↦ λ m. refl
        | false ↦ λ m. absurd (let q = (or_parts (is_past fork block item) (list_any (is_past fork block) items) (past m)).0 in cc)
      ] refl,
      rest,
    ))
    (λ _. rest)

leave_act : (may : Bool) (fork : ForkId) (block end : ℕ) (act : Act) (xs : List Effect) → (act_touches fork block act || act_cuts fork block act) ≡ false → (may ≡ false → act_reaches fork block act ≡ false) → Leaves may xs
    → Leaves may (act_effects fork block end act ++ xs)
leave_act may fork block end (Create made) xs none past l = l
leave_act may fork block end (Truncate rel count) xs none past l = subst (λ s. Leaves may (cond s Clear Stay ∷ xs)) (sym none) l
leave_act may fork block end (Change items) xs none past l = leave_items may fork block end items xs (or_parts (list_any (is_at fork block) items) false none).0 past l
leave_act may fork block end (Drop rels) xs none past l = subst (λ s. Leaves may (cond s Clear Stay ∷ xs)) (sym none) l
leave_act may fork block end (Mark marking) xs none past l = l

leave_all : (may : Bool) (fork : ForkId) (block : ℕ) (es : List Entry) → list_any (resets fork block) es ≡ false → (may ≡ false → list_any (reaches fork block) es ≡ false) → Leaves may (effects_on fork block es)
leave_all may fork block [] none past = tt
leave_all may fork block (e ∷ es) none past =
    let p = or_parts (resets fork block e) (list_any (resets fork block) es) none in
    leave_act may fork block e.end e.act (effects_on fork block es) p.0 (λ m. (or_parts (reaches fork block e) (list_any (reaches fork block) es) (past m)).0)
    (leave_all may fork block es p.1 (λ m. (or_parts (reaches fork block e) (list_any (reaches fork block) es) (past m)).1))

pub blocks_stay : UntouchedBlocksStay
blocks_stay fork block es s t e none past = left (effects_on fork block es) (block_of s fork block) (block_of t fork block) (leave_all false fork block es none (λ _. past)) (tell_blocks fork block es s t e)

pub pages_stay : UntouchedPagesStay
pages_stay fork block es s t page e none there =
    page_left (effects_on fork block es) page (block_of t fork block) (leave_all true fork block es none (λ m. absurd cc)) (sym (ap (after_all edited (effects_on fork block es)) there) ∙ tell_blocks fork block es s t e)
