-- A page is restored from its image, and an image is that of the page that it is restored to.
use Rattle.std.proofs.Common.{◌≡◌, ℕ, ◌+◌, ◌-◌, ◌<◌, ◌≤◌, Bool, true, false, cond, List, [], ◌++◌, length, take, drop, replicate, Some, None, refl, sym, ap, subst, ◌∙◌, arith}
use Rattle.std.specs.Prelude.{nat_lt}
use Rattle.std.proofs.lemmas.Bool.{ltb-true, ltb-false}
use Rattle.std.proofs.lemmas.List.{take_at, drop_at, take-append-drop, length-append, length-take-le, length-drop, length-replicate, drop-drop, append-nil, append_assoc, replicate-append-replicate, drop-replicate}
use Rattle.lsn_core.specs.byte_words.Pieces.{overwritten}
use Rattle.lsn_core.proofs.byte_words.Overwritten.{overwritten_between}
use Rattle.pg_page.specs.Header.{IsGood, lower_of, upper_of, hole_of, hole_zeroed}
use Rattle.pg_page.specs.Image.{restored, without_hole, image_of, image_without}

-- zeros written over in two places, at the front and up to the end
zeros_between : (size first : ℕ) (front back : List ℕ) → first ≡ 0 → length front + length back ≤ size
    → overwritten (overwritten (replicate size 0) first front) (size - length back) back ≡ front ++ (replicate (size - (length front + length back)) 0 ++ back)
zeros_between size first front back e fits =
    let k : ℕ = size - (length front + length back) in
    let zeros : List ℕ = replicate k 0 in
    let old : List ℕ = replicate (length back) 0 in
    let rest-is : drop (0 + length front) (replicate size 0) ≡ zeros ++ (old ++ []) =
    drop-replicate (0 + length front) size 0
    ∙ ap (λ n. replicate n 0) (let e : size - (0 + length front) ≡ k + length back = omega arith in e)
    ∙ sym (replicate-append-replicate k (length back) 0) ∙ ap (λ (l : List ℕ). zeros ++ l) (sym (append-nil old)) in
    let once : overwritten (replicate size 0) first front ≡ (front ++ zeros) ++ (old ++ []) =
    ap (λ n. overwritten (replicate size 0) n front) e ∙ ap (λ (l : List ℕ). front ++ l) rest-is ∙ sym (append_assoc front zeros (old ++ [])) in
    ap (λ (l : List ℕ). overwritten l (size - length back) back) once
    ∙ overwritten_between (front ++ zeros) old [] back (size - length back) (omega (arith, length-append front zeros, length-replicate {A = ℕ} k 0)) (sym (length-replicate {A = ℕ} (length back) 0))
    ∙ ap (λ (l : List ℕ). (front ++ zeros) ++ l) (append-nil back) ∙ append_assoc front zeros back

-- the two parts of an image written over zeros
pub written_parts : (size first offset : ℕ) (image : List ℕ) → first ≡ 0 → offset ≤ length image → length image ≤ size
    → overwritten (overwritten (replicate size 0) first (take offset image)) (size - length (drop offset image)) (drop offset image) ≡ take offset image ++ (replicate (size - length image) 0 ++ drop offset image)
written_parts size first offset image e within fits =
    let whole : length (take offset image) + length (drop offset image) ≡ length image = omega (arith, length-take-le offset image within, length-drop offset image) in
    subst (λ (n : ℕ). overwritten (overwritten (replicate size 0) first (take offset image)) (size - length (drop offset image)) (drop offset image) ≡ take offset image ++ (replicate (size - n) 0 ++ drop offset image))
    whole (zeros_between size first (take offset image) (drop offset image) e (omega arith))

with_zeros_parts : (k n lower upper : ℕ) (front back page : List ℕ) → length front ≡ lower → k ≡ n → back ≡ drop upper page → lower + length (replicate {A = ℕ} n 0) ≡ upper
    → take lower (front ++ back) ++ (replicate k 0 ++ drop lower (front ++ back)) ≡ front ++ (replicate n 0 ++ drop (lower + length (replicate {A = ℕ} n 0)) page)
with_zeros_parts k n lower upper front back page len out behind place =
    ap (λ (l : List ℕ). l ++ (replicate k 0 ++ drop lower (front ++ back))) (take_at front back lower len)
    ∙ ap (λ n. front ++ (replicate n 0 ++ drop lower (front ++ back))) out
    ∙ ap (λ (l : List ℕ). front ++ (replicate n 0 ++ l)) (drop_at front back lower len ∙ behind ∙ ap (λ m. drop m page) (sym place))

-- a page without a part of zeros, and with it again
with_zeros : (size lower upper : ℕ) (page : List ℕ) → lower ≤ upper → upper ≤ size → length page ≡ size → overwritten page lower (replicate (upper - lower) 0) ≡ page
    → take lower (take lower page ++ drop upper page) ++ (replicate (size - length (take lower page ++ drop upper page)) 0 ++ drop lower (take lower page ++ drop upper page)) ≡ page
with_zeros size lower upper page order within whole zeroed =
    with_zeros_parts (size - length (take lower page ++ drop upper page)) (upper - lower) lower upper (take lower page) (drop upper page) page
    (length-take-le lower page (omega arith))
    (omega (arith, length-append (take lower page) (drop upper page), length-take-le lower page (omega arith), length-drop upper page))
    refl
    (omega (arith, length-replicate {A = ℕ} (upper - lower) 0))
    ∙ zeroed

-- a part of zeros between two parts: written over by zeros, and left out
zeros_again : (n offset upper : ℕ) (front back : List ℕ) → length front ≡ offset → upper ≡ offset + n → overwritten (front ++ (replicate n 0 ++ back)) offset (replicate (upper - offset) 0) ≡ front ++ (replicate n 0 ++ back)
zeros_again n offset upper front back len e =
    let same : upper - offset ≡ n = omega arith in
    ap (λ n. overwritten (front ++ (replicate n 0 ++ back)) offset (replicate (upper - offset) 0)) (sym same)
    ∙ overwritten_between front (replicate (upper - offset) 0) back (replicate (upper - offset) 0) offset len refl
    ∙ ap (λ n. front ++ (replicate n 0 ++ back)) same

left_out : (n offset : ℕ) (front back : List ℕ) → length front ≡ offset → take offset (front ++ (replicate n 0 ++ back)) ++ drop (offset + n) (front ++ (replicate n 0 ++ back)) ≡ front ++ back
left_out n offset front back len =
    let behind : drop (offset + n) (front ++ (replicate n 0 ++ back)) ≡ back =
    sym (drop-drop n offset (front ++ (replicate n 0 ++ back))) ∙ ap (drop n) (drop_at front (replicate n 0 ++ back) offset len) ∙ drop_at (replicate n 0) back n (length-replicate {A = ℕ} n 0) in
    ap (λ (l : List ℕ). l ++ drop (offset + n) (front ++ (replicate n 0 ++ back))) (take_at front (replicate n 0 ++ back) offset len)
    ∙ ap (λ (l : List ℕ). front ++ l) behind

-- what a hole is
record IsHole (page : List ℕ) (from to : ℕ) : Type 0 where
  lower : lower_of page ≡ from
  upper : upper_of page ≡ to
  order : from < to

chosen_some : (b : Bool) (x y : ℕ × ℕ) → cond b (Some x) None ≡ Some y → (b ≡ true) × (x ≡ y)
chosen_some true x y e = (refl, cc)
chosen_some false x y e = absurd cc

chosen_none : (b : Bool) (x : ℕ × ℕ) → cond b (Some x) None ≡ None → b ≡ false
chosen_none true x e = absurd cc
chosen_none false x e = refl

hole_told : (page : List ℕ) (from to : ℕ) → hole_of page ≡ Some (from, to) → IsHole page from to
hole_told page from to e =
    let g = chosen_some (nat_lt (lower_of page) (upper_of page)) (lower_of page, upper_of page) (from, to) e in
    let lower : lower_of page ≡ from = ap (λ (x : ℕ × ℕ). x.0) g.1 in
    let upper : upper_of page ≡ to = ap (λ (x : ℕ × ℕ). x.1) g.1 in
    record { lower = lower; upper = upper; order = omega (arith, lower, upper, ltb-true _ _ g.0) }

hole_written : (page : List ℕ) (from to : ℕ) → IsHole page from to → overwritten page from (replicate (to - from) 0) ≡ page → overwritten page (lower_of page) (replicate (upper_of page - lower_of page) 0) ≡ page
hole_written page from to h same =
    subst (λ (n : ℕ). overwritten page (lower_of page) (replicate (n - lower_of page) 0) ≡ page) (sym h.upper)
    (subst (λ (n : ℕ). overwritten page n (replicate (to - n) 0) ≡ page) (sym h.lower) same)

-- a page with zeros in its hole is restored from its image
pub restored_image : (page : List ℕ) (lower upper : ℕ) → IsGood page → hole_zeroed page ≡ page → hole_of page ≡ Some (lower, upper) → restored lower (without_hole lower upper page) ≡ page
unfolding restored without_hole hole_zeroed
restored_image page lower upper good zeroed e =
    let h = hole_told page lower upper e in
    with_zeros 8192 lower upper page (omega (arith, h.order)) (omega (arith, h.upper, good.special, good.top)) good.whole
    (subst (λ (n : ℕ). overwritten page n (replicate (upper - n) 0) ≡ page) h.lower (subst (λ (n : ℕ). overwritten page (lower_of page) (replicate (n - lower_of page) 0) ≡ page) h.upper zeroed))

-- an image of all bytes is the page
pub restored_whole : (offset : ℕ) (image : List ℕ) → length image ≡ 8192 → restored offset image ≡ image
unfolding restored
restored_whole offset image whole =
    let none : 8192 - length image ≡ 0 = omega arith in
    ap (λ n. take offset image ++ (replicate n 0 ++ drop offset image)) none ∙ take-append-drop offset image

-- a page without a hole has none to be zeroed
pub hole_zeroed-None : (page : List ℕ) → IsGood page → hole_of page ≡ None → hole_zeroed page ≡ page
unfolding hole_zeroed
hole_zeroed-None page good e =
    let none : upper_of page - lower_of page ≡ 0 = omega (arith, ltb-false _ _ (chosen_none (nat_lt (lower_of page) (upper_of page)) (lower_of page, upper_of page) e)) in
    ap (λ n. overwritten page (lower_of page) (replicate n 0)) none
    ∙ ap (λ n. take (lower_of page) page ++ drop n page) (let same : lower_of page + 0 ≡ lower_of page = omega arith in same)
    ∙ take-append-drop (lower_of page) page

-- how many bytes an image has
pub length-without_hole : (page : List ℕ) (lower upper : ℕ) → IsGood page → hole_of page ≡ Some (lower, upper) → length (without_hole lower upper page) ≡ 8192 - (upper - lower)
unfolding without_hole
length-without_hole page lower upper good e =
    let h = hole_told page lower upper e in
    omega (arith, length-append (take lower page) (drop upper page), length-drop upper page, length-take-le lower page (omega (arith, h.order, h.upper, good.whole, good.special, good.top)), h.order, h.upper, good.whole, good.special, good.top)

pub image_of-Some : (page : List ℕ) (lower upper : ℕ) → hole_of page ≡ Some (lower, upper) → image_of page ≡ without_hole lower upper page
image_of-Some page lower upper e = ap (image_without page) e

pub image_of-None : (page : List ℕ) → hole_of page ≡ None → image_of page ≡ page
image_of-None page e = ap (image_without page) e

pub length-image_of-Some : (page : List ℕ) (lower upper : ℕ) → IsGood page → hole_of page ≡ Some (lower, upper) → length (image_of page) ≡ 8192 - (upper - lower)
length-image_of-Some page lower upper good e = ap length (image_of-Some page lower upper e) ∙ length-without_hole page lower upper good e

pub length-image_of-None : (page : List ℕ) → IsGood page → hole_of page ≡ None → length (image_of page) ≡ 8192
length-image_of-None page good e = ap length (image_of-None page e) ∙ good.whole

-- what the place of a good page's hole may be
pub record HoleBounds (lower upper : ℕ) : Type 0 where
  pub least : 24 ≤ lower
  pub order : lower < upper
  pub most : upper ≤ 8192

pub hole_bounds : (page : List ℕ) (lower upper : ℕ) → IsGood page → hole_of page ≡ Some (lower, upper) → HoleBounds lower upper
hole_bounds page lower upper good e =
    let h = hole_told page lower upper e in
    record { least = omega (arith, h.lower, good.lower); order = h.order; most = omega (arith, h.upper, good.special, good.top) }

-- the page that an image is restored to has zeros in its hole, and the image is that of the page, where its hole is the part left out
pub restored_zeroed : (image : List ℕ) (offset : ℕ) → offset ≤ length image → hole_of (restored offset image) ≡ Some (offset, offset + (8192 - length image)) → hole_zeroed (restored offset image) ≡ restored offset image
unfolding restored hole_zeroed
restored_zeroed image offset within e =
    let h = hole_told (take offset image ++ (replicate (8192 - length image) 0 ++ drop offset image)) offset (offset + (8192 - length image)) e in
    hole_written _ offset _ h (zeros_again (8192 - length image) offset (offset + (8192 - length image)) (take offset image) (drop offset image) (length-take-le offset image within) refl)

pub restored_left_out : (image : List ℕ) (offset : ℕ) → offset ≤ length image → without_hole offset (offset + (8192 - length image)) (restored offset image) ≡ image
unfolding restored without_hole
restored_left_out image offset within =
    left_out (8192 - length image) offset (take offset image) (drop offset image) (length-take-le offset image within) ∙ take-append-drop offset image
