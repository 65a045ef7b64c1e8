-- What the segment files of a fork hold, after a put of a page and after a cut too.
use Rattle.std.proofs.Common.{◌≡◌, ℕ, zero, suc, ◌+◌, ◌-◌, ◌*◌, ◌/◌, ◌<◌, ◌≤◌, min, Bool, true, false, ◌||◌, List, [], ◌∷◌, length, take, drop, nat_lt, nat_eq, Option, Some, None, unwrap_or, refl, ap, sym, subst, ◌∙◌, arith, inl, inr, ◌⊎◌, ⊎_elim, lt-ltb, length-drop, length-take, ne_eqb, eq-eqb}
use Rattle.std.proofs.lemmas.Bool.{or_right, or_left, ltb-true, eqb-true, le-ltb}
use Rattle.std.proofs.lemmas.Bool.Decides.{leb_tells, eqb_tells}
use Rattle.std.proofs.lemmas.List.{take_all, drop_all, drop-take}
use Rattle.std.proofs.lemmas.Nat.{div-add-mod'}
use Rattle.std.proofs.Math.Nat.{mod-lt}
use Rattle.std.specs.Prelude.{if◌then◌else◌}
use Rattle.lsn_core.specs.Store.{ForkPages, segment_count, segment_content, segment_in}
use Rattle.lsn_core.proofs.AnyAll.{same_bools}
use Rattle.rel_files.proofs.Pages.{put, put_before, put_from, put_past, put_within, length_put, grown, HeldBy, held_most, held_drop, held_take, flat}

-- ---- which segments a fork has

-- multiples in order
pub below : (k s r : ℕ) → k < s → k * r + r ≤ s * r
below k zero r l = absurd (omega arith)
below zero (suc s) r l = omega arith
below (suc k) (suc s) r l = let h = below k s r (omega arith) in omega (arith, h)

record IsRoundedUp (relseg blocks : ℕ) : Type 0 where
  pub least : blocks ≤ (blocks + (relseg - 1)) / relseg * relseg
  pub most : (blocks + (relseg - 1)) / relseg * relseg < blocks + relseg

rounded : (relseg blocks : ℕ) → 0 < relseg → IsRoundedUp relseg blocks
rounded relseg blocks some =
    let parts = div-add-mod' (blocks + (relseg - 1)) relseg in
    let rest = mod-lt (blocks + (relseg - 1)) some in
    record { least = omega (arith, parts, rest, some); most = omega (arith, parts, rest, some) }

pub has_segment : (relseg blocks seg : ℕ) → 0 < relseg → seg < segment_count relseg blocks → (seg ≡ 0) ⊎ (seg * relseg < blocks)
has_segment relseg blocks seg some l =
    ⊎_elim (λ first. inl first.1) (λ later.
    let up = (blocks + (relseg - 1)) / relseg in
    let less : seg < up = omega (arith, l, later.1) in
    let h = below seg up relseg less in
    let r = rounded relseg blocks some in
    inr (omega (arith, h, r.most)))
    (eqb_tells seg 0)

pub segment_there : (relseg blocks seg : ℕ) → 0 < relseg → (seg ≡ 0) ⊎ (seg * relseg < blocks) → seg < segment_count relseg blocks
segment_there relseg blocks seg some (inl first) = omega (arith, first)
segment_there relseg blocks seg some (inr within) =
    let up = (blocks + (relseg - 1)) / relseg in
    let r = rounded relseg blocks some in
    let less : seg < up = ⊎_elim (λ x. x.1) (λ x. absurd (never up r.least x.1)) (leb_tells (suc seg) up) in
    omega (arith, less)
  where
    never : (up : ℕ) → blocks ≤ up * relseg → up < suc seg → ⊥
    never up least l = ⊎_elim (λ same. let e = ap (λ (n : ℕ). n * relseg) same.1 in omega (arith, e, within, least)) (λ other.
        let less : up < seg = omega (arith, l, other.1) in let h = below up seg relseg less in omega (arith, h, within, least)) (eqb_tells up seg)

-- all blocks stand in its segments
pub segments_hold : (relseg blocks count : ℕ) → 0 < relseg → segment_count relseg blocks ≡ count → blocks ≤ count * relseg
segments_hold relseg blocks count some e =
    let up = (blocks + (relseg - 1)) / relseg in
    let r = rounded relseg blocks some in
    ⊎_elim (λ same. let f = ap (λ (n : ℕ). n * relseg) same.1 in omega (arith, f, r.least)) (λ other.
    let less : up < count = omega (arith, e, other.1) in
    let h = below up count relseg less in omega (arith, h, r.least))
    (eqb_tells up count)

-- the segment as it is there: the first one always, and another where blocks are in it
abbrev pub segment : ℕ → ℕ → ForkPages → Option (List ℕ)
segment relseg k pages = if nat_eq k 0 || nat_lt (k * relseg) (length pages) then Some (segment_content relseg pages k) else None

or_of : (a b : Bool) {A B : Type 0} → (A → a ≡ true) → (B → b ≡ true) → A ⊎ B → (a || b) ≡ true
or_of a b f g (inl x) = or_left a b (f x)
or_of a b f g (inr y) = or_right a b (g y)

of_or : (a b : Bool) {A B : Type 0} → (a ≡ true → A) → (b ≡ true → B) → (a || b) ≡ true → A ⊎ B
of_or true b f g e = inl (f refl)
of_or false b f g e = inr (g e)

tested : (relseg blocks seg : ℕ) → 0 < relseg → nat_lt seg (segment_count relseg blocks) ≡ (nat_eq seg 0 || nat_lt (seg * relseg) blocks)
tested relseg blocks seg some =
    same_bools (nat_lt seg (segment_count relseg blocks)) (nat_eq seg 0 || nat_lt (seg * relseg) blocks)
    (λ e. or_of (nat_eq seg 0) (nat_lt (seg * relseg) blocks) (eq-eqb seg 0) (lt-ltb (seg * relseg) blocks) (has_segment relseg blocks seg some (ltb-true seg (segment_count relseg blocks) e)))
    (λ e. lt-ltb seg (segment_count relseg blocks) (segment_there relseg blocks seg some (of_or (nat_eq seg 0) (nat_lt (seg * relseg) blocks) (eqb-true seg 0) (ltb-true (seg * relseg) blocks) e)))

pub segment_is : (relseg seg : ℕ) (pages : ForkPages) → 0 < relseg → segment_in relseg seg (Some pages) ≡ segment relseg seg pages
segment_is relseg seg pages some = ap (λ (b : Bool). if b then Some (segment_content relseg pages seg) else None) (tested relseg (length pages) seg some)

-- a segment that is there, and one that isn't
pub segment_some : (relseg seg : ℕ) (pages : ForkPages) → (seg ≡ 0) ⊎ (seg * relseg < length pages) → segment relseg seg pages ≡ Some (segment_content relseg pages seg)
segment_some relseg seg pages there =
    ap (λ (b : Bool). if b then Some (segment_content relseg pages seg) else None) (or_of (nat_eq seg 0) (nat_lt (seg * relseg) (length pages)) (eq-eqb seg 0) (lt-ltb (seg * relseg) (length pages)) there)

pub segment_none : (relseg seg : ℕ) (pages : ForkPages) → (seg ≡ 0 → ⊥) → length pages ≤ seg * relseg → segment relseg seg pages ≡ None
segment_none relseg seg pages later past =
    ap (λ (b : Bool). if b || nat_lt (seg * relseg) (length pages) then Some (segment_content relseg pages seg) else None) (ne_eqb seg 0 later)
    ∙ ap (λ (b : Bool). if b then Some (segment_content relseg pages seg) else None) (le-ltb (seg * relseg) (length pages) past)

-- the bytes of a segment file, none where it isn't there
pub bytes_there : (relseg s : ℕ) (pages : ForkPages) → unwrap_or (segment relseg s pages) [] ≡ segment_content relseg pages s
bytes_there relseg s pages =
    ⊎_elim (λ first. is_there (inl first.1)) (λ later.
    ⊎_elim (λ within. is_there (inr within.1)) (λ past.
    let over : length pages ≤ s * relseg = omega (arith, past.1) in
    ap (λ (o : Option (List ℕ)). unwrap_or o []) (segment_none relseg s pages later.1 over)
    ∙ sym (ap (λ (ps : ForkPages). flat (take relseg ps)) (drop_all (s * relseg) pages over) ∙ ap flat (take_all relseg [] (omega arith))))
    (leb_tells (suc (s * relseg)) (length pages)))
    (eqb_tells s 0)
  where
    is_there : (s ≡ 0) ⊎ (s * relseg < length pages) → unwrap_or (segment relseg s pages) [] ≡ segment_content relseg pages s
    is_there t = ap (λ (o : Option (List ℕ)). unwrap_or o []) (segment_some relseg s pages t)

-- ---- a page that is put

same_test : (n a b : ℕ) → (n < a → n < b) → (n < b → n < a) → nat_lt n a ≡ nat_lt n b
same_test n a b f g = same_bools (nat_lt n a) (nat_lt n b) (λ e. lt-ltb n b (f (ltb-true n a e))) (λ e. lt-ltb n a (g (ltb-true n b e)))

pub apart_order : (k s : ℕ) → (k ≡ s → ⊥) → (k < s) ⊎ (s < k)
apart_order k s ne = ⊎_elim (λ x. inl x.1) (λ x. inr (other x.1)) (leb_tells (suc k) s)
  where
    other : s < suc k → s < k
    other p = ⊎_elim (λ x. x.1) (λ x. absurd (ne (omega (arith, p, x.1)))) (leb_tells (suc s) k)

-- another file of the fork has the same bytes, and is there as before
pub other_put : (relseg k s c block : ℕ) (pages : ForkPages) (page : List ℕ) → block ≡ s * relseg + c → c < relseg → block ≤ length pages → (k ≡ s → ⊥) → segment relseg k (put pages block page) ≡ segment relseg k pages
other_put relseg k s c block pages page at l within apart = by_order (apart_order k s apart)
  where
    test : (k * relseg < length (put pages block page) → k * relseg < length pages) → (k * relseg < length pages → k * relseg < length (put pages block page)) → take relseg (drop (k * relseg) (put pages block page)) ≡ take relseg (drop (k * relseg) pages)
        → segment relseg k (put pages block page) ≡ segment relseg k pages
    test f g bytes =
        ap (λ t. if nat_eq k 0 || t then Some (flat (take relseg (drop (k * relseg) (put pages block page)))) else None) (same_test (k * relseg) (length (put pages block page)) (length pages) f g)
        ∙ ap (λ ps. if nat_eq k 0 || nat_lt (k * relseg) (length pages) then Some (flat ps) else None) bytes

    by_order : (k < s) ⊎ (s < k) → segment relseg k (put pages block page) ≡ segment relseg k pages
    by_order (inl less) =
        let b = below k s relseg less in
        let behind : relseg ≤ block - k * relseg = omega (arith, b, at) in
        let n : block ≡ k * relseg + (block - k * relseg) = omega (arith, b, at) in
        let inside : k * relseg < length pages = omega (arith, b, at, l, within) in
        let there : block - k * relseg ≤ length (drop (k * relseg) pages) = omega (arith, length-drop (k * relseg) pages, within, inside) in
        let g = grown pages block page within in
        test (λ p. inside) (λ p. omega (arith, g, b, at))
        (ap (take relseg) (put_from pages block (k * relseg) (block - k * relseg) page within n) ∙ put_past (drop (k * relseg) pages) (block - k * relseg) relseg page behind there)
    by_order (inr more) =
        let b = below s k relseg more in
        let before : block < k * relseg = omega (arith, b, at, l) in
        let size = length_put pages block page within in
        test (λ p. ⊎_elim (λ x. omega (arith, x, p)) (λ x. absurd (omega (arith, x.0, x.1, p, before))) size) (λ p. ⊎_elim (λ x. omega (arith, x, p)) (λ x. omega (arith, x.1, p)) size)
        (ap (take relseg) (put_before pages block (k * relseg) page before within))

-- the pages in a segment
abbrev pub in_segment : ℕ → ℕ → ForkPages → ForkPages
in_segment relseg s pages = take relseg (drop (s * relseg) pages)

-- the file of the block
pub this_put : (relseg s c block : ℕ) (pages : ForkPages) (page : List ℕ) → block ≡ s * relseg + c → c < relseg → block ≤ length pages
    → segment relseg s (put pages block page) ≡ Some (flat (put (in_segment relseg s pages) c page))
this_put relseg s c block pages page at l within =
    let n = s * relseg in
    let there : c ≤ length (drop n pages) = omega (arith, length-drop n pages, within, at) in
    let g = grown pages block page within in
    let inside : n < length (put pages block page) = omega (arith, g, at) in
    segment_some relseg s (put pages block page) (inr inside)
    ∙ ap (λ (ps : ForkPages). Some (flat ps)) (ap (take relseg) (put_from pages block n c page within at) ∙ put_within (drop n pages) c relseg page l there)

-- the pages in a segment are held: those of the fork from its first block on, as far as it goes
pub record IsHeldSegment (size relseg left : ℕ) (pages : ForkPages) : Type 0 where
  pub count : ℕ
  pub held : HeldBy size count pages
  pub counted : count ≡ min relseg left

pub held_in : (size relseg s w : ℕ) (pages : ForkPages) → HeldBy size w pages → s * relseg ≤ w → IsHeldSegment size relseg (w - s * relseg) (in_segment relseg s pages)
held_in size relseg s w pages h within =
    let n = s * relseg in
    let v = w - n in
    let behind : HeldBy size v (drop n pages) = held_drop size n w v pages h (omega (arith, within)) in
    ⊎_elim (λ long. record { count = relseg; held = held_take size relseg v (drop n pages) behind long.1; counted = omega (arith, long.1) })
    (λ short.
    let most = held_most size v (drop n pages) behind in
    let all : take relseg (drop n pages) ≡ drop n pages = take_all relseg (drop n pages) (omega (arith, most, short.1)) in
    record { count = v; held = subst (HeldBy size v) (sym all) behind; counted = omega (arith, short.1) })
    (leb_tells relseg v)

-- those in the segment of a block, as far as the block at least
pub record IsHeldAt (size c : ℕ) (within : Type 0) (pages : ForkPages) : Type 0 where
  pub count : ℕ
  pub held : HeldBy size count pages
  pub reaches : c ≤ count
  pub has : within → c < count

pub held_segment : (size relseg s c block w : ℕ) (pages : ForkPages) → HeldBy size w pages → block ≡ s * relseg + c → c < relseg → block ≤ w → IsHeldAt size c (block < w) (in_segment relseg s pages)
held_segment size relseg s c block w pages h at l within =
    let here = held_in size relseg s w pages h (omega (arith, at, within)) in
    record { count = here.count; held = here.held; reaches = omega (arith, here.counted, at, l, within); has = λ less. omega (arith, here.counted, at, l, less) }

-- ---- a cut

pub take_less : {X : Type 0} (r m : ℕ) (xs : List X) → r ≤ m → take r (take m xs) ≡ take r xs
take_less zero m xs l = refl
take_less (suc r) zero xs l = absurd (omega arith)
take_less (suc r) (suc m) [] l = refl
take_less (suc r) (suc m) (x ∷ xs) l = ap (λ zs. x ∷ zs) (take_less r m xs (omega arith))

-- the other files of a fork that is cut in its last file
pub other_cut : (relseg j k c : ℕ) (pages : ForkPages) → 0 < relseg → length pages ≤ (k + 1) * relseg → k * relseg + c ≤ length pages → c ≤ relseg → (j ≡ k → ⊥) → segment relseg j (take (k * relseg + c) pages) ≡ segment relseg j pages
other_cut relseg j k c pages some most within small apart = by_order (apart_order j k apart)
  where
    size : length (take (k * relseg + c) pages) ≡ k * relseg + c
    size = length-take (k * relseg + c) pages ∙ omega (arith, within)

    by_order : (j < k) ⊎ (k < j) → segment relseg j (take (k * relseg + c) pages) ≡ segment relseg j pages
    by_order (inl less) =
        let b = below j k relseg less in
        let m = k * relseg + c - j * relseg in
        let whole : k * relseg + c ≡ j * relseg + m = omega (arith, b) in
        let bytes : in_segment relseg j (take (k * relseg + c) pages) ≡ in_segment relseg j pages =
        ap (λ (n : ℕ). take relseg (drop (j * relseg) (take n pages))) whole ∙ ap (take relseg) (drop-take (j * relseg) m pages) ∙ take_less relseg m (drop (j * relseg) pages) (omega (arith, b)) in
        ap (λ t. if nat_eq j 0 || t then Some (flat (in_segment relseg j (take (k * relseg + c) pages))) else None) (same_test (j * relseg) (length (take (k * relseg + c) pages)) (length pages) (λ p. omega (arith, p, size, within)) (λ p. omega (arith, b, size, some)))
        ∙ ap (λ ps. if nat_eq j 0 || nat_lt (j * relseg) (length pages) then Some (flat ps) else None) bytes
    by_order (inr more) =
        let b = below k j relseg more in
        let times : (k + 1) * relseg ≡ k * relseg + relseg = omega arith in
        let later : j ≡ 0 → ⊥ = λ e. omega (arith, e, more) in
        segment_none relseg j (take (k * relseg + c) pages) later (omega (arith, b, size, small)) ∙ sym (segment_none relseg j pages later (omega (arith, b, most, times)))

-- the file that is cut
pub this_cut : (relseg k c : ℕ) (pages : ForkPages) → c ≤ relseg → in_segment relseg k (take (k * relseg + c) pages) ≡ take c (drop (k * relseg) pages)
this_cut relseg k c pages small = ap (take relseg) (drop-take (k * relseg) c pages) ∙ take_all relseg (take c (drop (k * relseg) pages)) (let l = length-take c (drop (k * relseg) pages) in omega (arith, l, small))

pub front_same : (relseg k c : ℕ) (pages : ForkPages) → c ≤ relseg → take c (in_segment relseg k pages) ≡ take c (drop (k * relseg) pages)
front_same relseg k c pages small = take_less c relseg (drop (k * relseg) pages) small
