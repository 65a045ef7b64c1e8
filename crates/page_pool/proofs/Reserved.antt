-- Frames reserved for pages, one after the other.
use Rattle.std.proofs.Common.{◌≡◌, ℕ, zero, suc, ◌+◌, ◌<◌, ◌≤◌, Bool, true, false, cond, List, [], ◌∷◌, map, drop, length, get_or, Option, Some, None, IsSome, is_some, option_map, inl, inr, ◌⊎◌, refl, ap, sym, subst, ◌∙◌, arith, true≢false}
use Rattle.std.specs.List.{All}
use Rattle.std.specs.FinMap.{get, len}
use Rattle.std.proofs.lemmas.List.Elements.{All-nil, All-cons}
use Rattle.lsn_core.specs.declared.ids.BlockId.{BlockId}
use Rattle.lsn_core.specs.Sizes.{most_blocks}
use Rattle.history.proofs.Pushes.{all_first, all_rest}
use Rattle.page_frames.specs.Framed.{Framed, Held, HeldFrames, ForkLengths, HoldsMore, held_page, lacks}
use Rattle.page_frames.specs.Overlay.{pages_over, marks_over, IsBlockOf}
use Rattle.page_pool.specs.declared.ready.NewPage.{NewPage}
use Rattle.page_pool.specs.Room.{missing, HasFrame, HasFrames}
use Rattle.page_pool.specs.Inside.{ShowsAlike}

-- what has a page has a frame
pub page_frame : (held : HeldFrames) (at : BlockId) → is_some (held_page held at) ≡ is_some (get held at)
page_frame held at = by (get held at)
  where
    by : (o : Option Held) → is_some (option_map (λ h. h.page) o) ≡ is_some o
    by None = refl
    by (Some h) = refl

-- a frame may be reserved for the first of some blocks
pub may_reserve : (f : Framed) (at : BlockId) (blocks : List BlockId) → HasFrames f (at ∷ blocks) → IsSome (get f.held at) ⊎ ((IsBlockOf f.lengths at → ⊥) × (len f.held < f.limit))
may_reserve f at blocks has = by (is_some (get f.held at)) refl
  where
    by : (t : Bool) → is_some (get f.held at) ≡ t → IsSome (get f.held at) ⊎ ((IsBlockOf f.lengths at → ⊥) × (len f.held < f.limit))
    by true some = inl some
    by false none =
        let lacking : lacks f.held at ≡ 1 = ap (λ t. cond t 0 1) (page_frame f.held at ∙ none) in
        inr ((λ there. true≢false (sym (all_first (HasFrame f) at blocks has.held there) ∙ none)), (let l = has.left in omega (arith, l, lacking)))

more_frames : (old new : HeldFrames) → HoldsMore old new → (at : BlockId) → is_some (get old at) ≡ true → is_some (get new at) ≡ true
more_frames old new more at = by (get old at) refl
  where
    by : (o : Option Held) → get old at ≡ o → is_some o ≡ true → is_some (get new at) ≡ true
    by None is some = absurd (true≢false (sym some))
    by (Some h) is some = sym (page_frame new at) ∙ ap (λ (o : Option (List ℕ)). is_some o) (more at h is).0

-- no more blocks lack a frame than before
fewer_missing : (old new : HeldFrames) → HoldsMore old new → (blocks : List BlockId) → missing new blocks ≤ missing old blocks
fewer_missing old new more [] = omega arith
fewer_missing old new more (at ∷ blocks) = let rest = fewer_missing old new more blocks in let one = by (is_some (held_page old at)) refl in omega (arith, rest, one)
  where
    at_most : (t : Bool) → cond t 0 1 ≤ 1
    at_most true = omega arith
    at_most false = omega arith

    by : (t : Bool) → is_some (held_page old at) ≡ t → lacks new at ≤ lacks old at
    by true some =
        let now : is_some (held_page new at) ≡ true = page_frame new at ∙ more_frames old new more at (sym (page_frame old at) ∙ some) in
        let none : lacks new at ≡ 0 = ap (λ t. cond t 0 1) now in
        omega (arith, none)
    by false none =
        let one : lacks old at ≡ 1 = ap (λ t. cond t 0 1) none in
        let most = at_most (is_some (held_page new at)) in
        omega (arith, one, most)

still_framed : (f h : Framed) → h.lengths ≡ f.lengths → HoldsMore f.held h.held → (blocks : List BlockId) → All (HasFrame f) blocks → All (HasFrame h) blocks
still_framed f h lengths more [] all = All-nil (HasFrame h)
still_framed f h lengths more (at ∷ blocks) all =
    All-cons (HasFrame h) at blocks (λ there. more_frames f.held h.held more at (all_first (HasFrame f) at blocks all (subst (λ (ls : ForkLengths). IsBlockOf ls at) lengths there)))
    (still_framed f h lengths more blocks (all_rest (HasFrame f) at blocks all))

-- and for those behind it once it is
pub frames_on : (f h : Framed) (at : BlockId) (blocks : List BlockId) → h.lengths ≡ f.lengths → h.limit ≡ f.limit → HoldsMore f.held h.held → len h.held ≤ len f.held + lacks f.held at → HasFrames f (at ∷ blocks) → HasFrames h blocks
frames_on f h at blocks lengths limit more few has = record {
  held = still_framed f h lengths more blocks (all_rest (HasFrame f) at blocks has.held);
  left = let l = has.left in let rest = fewer_missing f.held h.held more blocks in omega (arith, l, few, rest, limit);
}

pub alike_on : (a b c : Framed) → ShowsAlike a b → ((behind : BlockId → List ℕ) → pages_over behind c ≡ pages_over behind b) → marks_over c ≡ marks_over b → c.lengths ≡ b.lengths → ShowsAlike a c
alike_on a b c first pages marks lengths = record { pages = λ behind. pages behind ∙ first.pages behind; marks = marks ∙ first.marks; lengths = lengths ∙ first.lengths }

-- ---- the item that a loop is at

pub rest_at : (pages : List NewPage) (i : ℕ) (item : NewPage) → i < length pages → item ≡ get_or pages i item → drop i pages ≡ item ∷ drop (i + 1) pages
rest_at [] i item l is = absurd (omega (arith, l))
rest_at (p ∷ pages) zero item l is = ap (λ (x : NewPage). x ∷ pages) (sym is)
rest_at (p ∷ pages) (suc i) item l is =
    let next : suc i + 1 ≡ suc (i + 1) = omega arith in
    rest_at pages i item (omega (arith, l)) is ∙ ap (λ (k : ℕ). item ∷ drop k (p ∷ pages)) (sym next)

pub narrow_at : (pages : List NewPage) (i : ℕ) (item : NewPage) → i < length pages → item ≡ get_or pages i item → All (λ (at : BlockId). at.block < most_blocks) (map (λ (p : NewPage). p.at) pages) → item.at.block < most_blocks
narrow_at [] i item l is all = absurd (omega (arith, l))
narrow_at (p ∷ pages) zero item l is all = subst (λ (x : NewPage). x.at.block < most_blocks) (sym is) (all_first (λ (at : BlockId). at.block < most_blocks) p.at (map (λ (p : NewPage). p.at) pages) all)
narrow_at (p ∷ pages) (suc i) item l is all = narrow_at pages i item (omega (arith, l)) is (all_rest (λ (at : BlockId). at.block < most_blocks) p.at (map (λ (p : NewPage). p.at) pages) all)
