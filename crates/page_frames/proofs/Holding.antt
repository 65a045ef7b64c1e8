-- Frames after one was changed.
use Rattle.std.proofs.Common.{◌≡◌, ℕ, false, List, Option, Some, None, IsSome, is_some, option_map, unwrap_or, refl, sym, ap, subst, ◌∙◌, true≢false}
use Rattle.std.specs.Ordering.{eq_by_cmp}
use Rattle.std.specs.FinMap.{get, insert}
use Rattle.lsn_core.specs.byte_words.Numbers.{◌>>=◌}
use Rattle.lsn_core.specs.declared.ids.BlockId.{BlockId}
use Rattle.page_frames.specs.Framed.{Held, HeldFrames, HoldsAlike, held_page, held_mark, block_cmp}
use Rattle.page_frames.proofs.Orders.{block_cmp_total, block_cmp-IsAntisymmetric}
use Rattle.page_frames.proofs.Keys.{either_key, put_here, put_there, count_same}

abbrev pub page_in : Option Held → Option (List ℕ)
page_in o = option_map (λ h. h.page) o

abbrev pub mark_in : Option Held → Option ℕ
mark_in o = o >>= λ h. h.mark

-- what is there
pub some_is : {X : Type 0} (o : Option X) → IsSome o → (x : X) × (o ≡ Some x)
some_is None some = absurd (true≢false (sym some))
some_is (Some x) some = (x, refl)

pub none_is : {X : Type 0} (o : Option X) → is_some o ≡ false → o ≡ None
none_is None none = refl
none_is (Some x) none = absurd (true≢false none)

pub one_frame : (a b : Held) → Some a ≡ Some b → a ≡ b
one_frame a b e = ap (λ (o : Option Held). unwrap_or o a) e

-- a block or another one
pub by_block : (q at : BlockId) {P : Type 0} → (q ≡ at → P) → (eq_by_cmp block_cmp q at ≡ false → P) → P
by_block q at here apart = either_key block_cmp_total block_cmp-IsAntisymmetric q at here apart

module _ (held : HeldFrames) (at : BlockId) where
  pub page_put_here : (h : Held) → held_page (insert held at h) at ≡ Some h.page
  page_put_here h = ap page_in (put_here block_cmp_total held at h)

  pub mark_put_here : (h : Held) → held_mark (insert held at h) at ≡ h.mark
  mark_put_here h = ap mark_in (put_here block_cmp_total held at h)

  pub page_put_there : (q : BlockId) (h : Held) → eq_by_cmp block_cmp q at ≡ false → held_page (insert held at h) q ≡ held_page held q
  page_put_there q h apart = ap page_in (put_there block_cmp_total held at q h apart)

  pub mark_put_there : (q : BlockId) (h : Held) → eq_by_cmp block_cmp q at ≡ false → held_mark (insert held at h) q ≡ held_mark held q
  mark_put_there q h apart = ap mark_in (put_there block_cmp_total held at q h apart)

  -- a frame whose page is the same
  pub pages_same : (was is : Held) → get held at ≡ Some was → is.page ≡ was.page → (q : BlockId) → held_page (insert held at is) q ≡ held_page held q
  pages_same was is there page q = by_block q at
      (λ same. subst (λ (x : BlockId). held_page (insert held at is) x ≡ held_page held x) (sym same) (page_put_here is ∙ ap (λ (p : List ℕ). Some p) page ∙ sym (ap page_in there)))
      (λ apart. page_put_there q is apart)

  -- and whose mark is the same
  pub alike_put : (was is : Held) → get held at ≡ Some was → is.page ≡ was.page → is.mark ≡ was.mark → HoldsAlike held (insert held at is)
  alike_put was is there page mark = record {
    pages = pages_same was is there page;
    marks = λ q. by_block q at
        (λ same. subst (λ (x : BlockId). held_mark (insert held at is) x ≡ held_mark held x) (sym same) (mark_put_here is ∙ mark ∙ sym (ap mark_in there)))
        (λ apart. mark_put_there q is apart);
    count = count_same block_cmp_total held at is (ap (λ (o : Option Held). is_some o) there);
  }

pub alike_self : (held : HeldFrames) → HoldsAlike held held
alike_self held = record { pages = λ _. refl; marks = λ _. refl; count = refl }

pub alike_on : (a b c : HeldFrames) → HoldsAlike a b → HoldsAlike b c → HoldsAlike a c
alike_on a b c first second = record {
  pages = λ q. second.pages q ∙ first.pages q;
  marks = λ q. second.marks q ∙ first.marks q;
  count = second.count ∙ first.count;
}
