-- Lists of pages as files hold them: a page put at a block, and where its bytes stand.
use Rattle.std.proofs.Common.{◌≡◌, ℕ, zero, suc, ◌+◌, ◌-◌, ◌*◌, ◌<◌, ◌≤◌, Bool, cond, List, [], ◌∷◌, ◌++◌, length, take, drop, replicate, slice_get, slice_set, Some, refl, ap, sym, subst, ◌∙◌, arith, append-nil, append_assoc, drop_at, inl, inr, ◌⊎◌, ⊎_elim, length-take, length-append, eq-eqb, ne_eqb}
use Rattle.std.proofs.lemmas.Bool.Decides.{eqb_tells}
use Rattle.std.proofs.lemmas.List.{drop_all, take_at}
use Rattle.std.proofs.Math.Seq.{drop-append-add, take-append-add, drop-nil}
use Rattle.std.specs.List.{flat_map}
use Rattle.lsn_core.specs.Store.{ForkPages}
use Rattle.lsn_core.specs.Blocks.{with_block}
use Rattle.rel_files.specs.Forks.{AreHeld, whole_pages}

nothing_taken : {X : Type 0} (n : ℕ) → take {A = X} n [] ≡ []
nothing_taken zero = refl
nothing_taken (suc n) = refl

-- ---- an element put at a place of a list, or one behind its end

abbrev pub put : {X : Type 0} → List X → ℕ → X → List X
put [] block page = page ∷ []
put (p ∷ pages) zero page = page ∷ pages
put (p ∷ pages) (suc block) page = p ∷ put pages block page

put_with : {X : Type 0} (xs : List X) (b n : ℕ) (fill y : X) → b ≤ length xs → n ≡ b + 1 - length xs → slice_set (xs ++ replicate n fill) b y ≡ put xs b y
put_with {X = X} [] zero n fill y w e = let one : n ≡ 1 = omega (arith, e) in ap (λ (k : ℕ). slice_set (replicate {A = X} k fill) 0 y) one
put_with [] (suc b) n fill y w e = absurd (omega arith)
put_with {X = X} (x ∷ xs) zero n fill y w e =
    let none : n ≡ 0 = omega (arith, e) in
    ap (λ (k : ℕ). y ∷ (xs ++ replicate {A = X} k fill)) none ∙ ap (λ (zs : List X). y ∷ zs) (append-nil xs)
put_with {X = X} (x ∷ xs) (suc b) n fill y w e = ap (λ (zs : List X). x ∷ zs) (put_with xs b n fill y (omega arith) (omega (arith, e)))

-- a page that is written at a block of a fork, or behind its last one
pub block_put : (pages : ForkPages) (b : ℕ) (page : List ℕ) → b ≤ length pages → with_block pages b page ≡ put pages b page
block_put pages b page w = put_with pages b (b + 1 - length pages) _ page w refl

pub put_before : {X : Type 0} (xs : List X) (b n : ℕ) (y : X) → b < n → b ≤ length xs → drop n (put xs b y) ≡ drop n xs
put_before xs b zero y l w = absurd (omega arith)
put_before [] zero (suc n) y l w = drop-nil n
put_before [] (suc b) (suc n) y l w = absurd (omega arith)
put_before (x ∷ xs) zero (suc n) y l w = refl
put_before (x ∷ xs) (suc b) (suc n) y l w = put_before xs b n y (omega arith) (omega arith)

pub put_from : {X : Type 0} (xs : List X) (b n c : ℕ) (y : X) → b ≤ length xs → b ≡ n + c → drop n (put xs b y) ≡ put (drop n xs) c y
put_from xs b zero c y w l = let e : b ≡ c = omega (arith, l) in ap (λ k. put xs k y) e
put_from [] b (suc n) c y w l = absurd (omega (arith, l))
put_from (x ∷ xs) zero (suc n) c y w l = absurd (omega (arith, l))
put_from (x ∷ xs) (suc b) (suc n) c y w l = put_from xs b n c y (omega arith) (omega (arith, l))

pub put_past : {X : Type 0} (xs : List X) (c r : ℕ) (y : X) → r ≤ c → c ≤ length xs → take r (put xs c y) ≡ take r xs
put_past xs c zero y l w = refl
put_past [] c (suc r) y l w = absurd (omega arith)
put_past (x ∷ xs) zero (suc r) y l w = absurd (omega arith)
put_past (x ∷ xs) (suc c) (suc r) y l w = ap (λ zs. x ∷ zs) (put_past xs c r y (omega arith) (omega arith))

pub put_within : {X : Type 0} (xs : List X) (c r : ℕ) (y : X) → c < r → c ≤ length xs → take r (put xs c y) ≡ put (take r xs) c y
put_within xs c zero y l w = absurd (omega arith)
put_within [] zero (suc r) y l w = ap (λ zs. y ∷ zs) (nothing_taken r)
put_within [] (suc c) (suc r) y l w = absurd (omega arith)
put_within (x ∷ xs) zero (suc r) y l w = refl
put_within (x ∷ xs) (suc c) (suc r) y l w = ap (λ zs. x ∷ zs) (put_within xs c r y (omega arith) (omega arith))

pub length_put : {X : Type 0} (xs : List X) (c : ℕ) (y : X) → c ≤ length xs → length (put xs c y) ≡ length xs ⊎ ((c ≡ length xs) × (length (put xs c y) ≡ suc (length xs)))
length_put [] zero y w = inr (refl, refl)
length_put [] (suc c) y w = absurd (omega arith)
length_put (x ∷ xs) zero y w = inl refl
length_put (x ∷ xs) (suc c) y w = ⊎_elim (λ e. inl (ap suc e)) (λ p. inr (ap suc p.0, ap suc p.1)) (length_put xs c y (omega arith))

pub grown : {X : Type 0} (xs : List X) (c : ℕ) (y : X) → c ≤ length xs → c < length (put xs c y)
grown [] zero y w = omega arith
grown [] (suc c) y w = absurd (omega arith)
grown (x ∷ xs) zero y w = omega arith
grown (x ∷ xs) (suc c) y w = let h = grown xs c y (omega arith) in omega (arith, h)

-- the other places read as before
pub put_elsewhere : {X : Type 0} (xs : List X) (b i : ℕ) (y : X) → (i ≡ b → ⊥) → i < length xs → slice_get (put xs b y) i ≡ slice_get xs i
put_elsewhere [] b i y apart w = absurd (omega arith)
put_elsewhere (x ∷ xs) zero zero y apart w = absurd (apart refl)
put_elsewhere (x ∷ xs) zero (suc i) y apart w = refl
put_elsewhere (x ∷ xs) (suc b) zero y apart w = refl
put_elsewhere (x ∷ xs) (suc b) (suc i) y apart w = put_elsewhere xs b i y (λ e. apart (ap suc e)) (omega arith)

-- ---- pages that are held: so many have the size, and at most one more is there, which is short

abbrev pub HeldBy : ℕ → ℕ → ForkPages → Type 0
HeldBy size zero [] = Unit {0}
HeldBy size zero (p ∷ []) = length p < size
HeldBy size zero (p ∷ (q ∷ pages)) = ⊥
HeldBy size (suc w) [] = ⊥
HeldBy size (suc w) (p ∷ pages) = (length p ≡ size) × HeldBy size w pages

pub held_least : (size w : ℕ) (pages : ForkPages) → HeldBy size w pages → w ≤ length pages
held_least size zero pages h = omega arith
held_least size (suc w) [] h = absurd h
held_least size (suc w) (p ∷ pages) h = let l = held_least size w pages h.1 in omega (arith, l)

pub held_most : (size w : ℕ) (pages : ForkPages) → HeldBy size w pages → length pages ≤ w + 1
held_most size zero [] h = omega arith
held_most size zero (p ∷ []) h = omega arith
held_most size zero (p ∷ (q ∷ pages)) h = absurd h
held_most size (suc w) [] h = absurd h
held_most size (suc w) (p ∷ pages) h = let l = held_most size w pages h.1 in omega (arith, l)

pub held_put : (size w b : ℕ) (pages : ForkPages) (page : List ℕ) → HeldBy size w pages → b < w → length page ≡ size → HeldBy size w (put pages b page)
held_put size zero b pages page h l e = absurd (omega arith)
held_put size (suc w) b [] page h l e = absurd h
held_put size (suc w) zero (p ∷ pages) page h l e = (e, h.1)
held_put size (suc w) (suc b) (p ∷ pages) page h l e = (h.0, held_put size w b pages page h.1 (omega arith) e)

pub held_grown : (size w : ℕ) (pages : ForkPages) (page : List ℕ) → HeldBy size w pages → length page ≡ size → HeldBy size (suc w) (put pages w page)
held_grown size zero [] page h e = (e, tt)
held_grown size zero (p ∷ []) page h e = (e, tt)
held_grown size zero (p ∷ (q ∷ pages)) page h e = absurd h
held_grown size (suc w) [] page h e = absurd h
held_grown size (suc w) (p ∷ pages) page h e = (h.0, held_grown size w pages page h.1 e)

pub held_short : (size w : ℕ) (pages : ForkPages) (page : List ℕ) → HeldBy size w pages → length page < size → HeldBy size w (put pages w page)
held_short size zero [] page h e = e
held_short size zero (p ∷ []) page h e = e
held_short size zero (p ∷ (q ∷ pages)) page h e = absurd h
held_short size (suc w) [] page h e = absurd h
held_short size (suc w) (p ∷ pages) page h e = (h.0, held_short size w pages page h.1 e)

pub held_drop : (size n w v : ℕ) (pages : ForkPages) → HeldBy size w pages → w ≡ n + v → HeldBy size v (drop n pages)
held_drop size zero w v pages h e = let same : w ≡ v = omega (arith, e) in subst (λ (x : ℕ). HeldBy size x pages) same h
held_drop size (suc n) zero v pages h e = absurd (omega (arith, e))
held_drop size (suc n) (suc w) v [] h e = absurd h
held_drop size (suc n) (suc w) v (p ∷ pages) h e = held_drop size n w v pages h.1 (omega (arith, e))

-- the first whole pages, and no short one
pub held_take : (size r w : ℕ) (pages : ForkPages) → HeldBy size w pages → r ≤ w → HeldBy size r (take r pages)
held_take size zero w pages h l = tt
held_take size (suc r) zero pages h l = absurd (omega arith)
held_take size (suc r) (suc w) [] h l = absurd h
held_take size (suc r) (suc w) (p ∷ pages) h l = (h.0, held_take size r w pages h.1 (omega arith))

-- ---- the bytes of pages

abbrev pub flat : ForkPages → List ℕ
flat pages = flat_map (λ page. page) pages

pub front_bytes : (size w c : ℕ) (pages : ForkPages) → HeldBy size w pages → c ≤ w → take (c * size) (flat pages) ≡ flat (take c pages)
front_bytes size w zero pages h l = let start : 0 * size ≡ 0 = omega arith in ap (λ (n : ℕ). take n (flat pages)) start
front_bytes size zero (suc c) pages h l = absurd (omega arith)
front_bytes size (suc w) (suc c) [] h l = absurd h
front_bytes size (suc w) (suc c) (p ∷ pages) h l =
    let places : suc c * size ≡ length p + c * size = omega (arith, h.0) in
    ap (λ (n : ℕ). take n (p ++ flat pages)) places ∙ take-append-add p (flat pages) (c * size) ∙ ap (λ (bytes : List ℕ). p ++ bytes) (front_bytes size w c pages h.1 (omega arith))

-- what stands behind a page's place
pub behind_bytes : (size w c : ℕ) (pages : ForkPages) → HeldBy size w pages → c ≤ w → drop (c * size + size) (flat pages) ≡ flat (drop (suc c) pages)
behind_bytes size zero zero [] h l = drop-nil (0 * size + size)
behind_bytes size zero zero (p ∷ []) h l =
    let none : length (p ++ []) ≤ 0 * size + size = subst (λ (n : List ℕ). length n ≤ 0 * size + size) (sym (append-nil p)) (omega (arith, h)) in
    drop_all (0 * size + size) (p ++ []) none
behind_bytes size zero zero (p ∷ (q ∷ pages)) h l = absurd h
behind_bytes size zero (suc c) pages h l = absurd (omega arith)
behind_bytes size (suc w) c [] h l = absurd h
behind_bytes size (suc w) zero (p ∷ pages) h l = drop_at p (flat pages) (0 * size + size) (omega (arith, h.0))
behind_bytes size (suc w) (suc c) (p ∷ pages) h l =
    let places : suc c * size + size ≡ length p + (c * size + size) = omega (arith, h.0) in
    ap (λ (n : ℕ). drop n (p ++ flat pages)) places ∙ drop-append-add p (flat pages) (c * size + size) ∙ behind_bytes size w c pages h.1 (omega arith)

-- the bytes from a whole page on
pub bytes_from : (size w c : ℕ) (pages : ForkPages) → HeldBy size w pages → c ≤ w → drop (c * size) (flat pages) ≡ flat (drop c pages)
bytes_from size w zero pages h l = let start : 0 * size ≡ 0 = omega arith in ap (λ (n : ℕ). drop n (flat pages)) start
bytes_from size zero (suc c) pages h l = absurd (omega arith)
bytes_from size (suc w) (suc c) [] h l = absurd h
bytes_from size (suc w) (suc c) (p ∷ pages) h l =
    let places : suc c * size ≡ length p + c * size = omega (arith, h.0) in
    ap (λ (n : ℕ). drop n (p ++ flat pages)) places ∙ drop-append-add p (flat pages) (c * size) ∙ bytes_from size w c pages h.1 (omega arith)

pub put_bytes : (pages : ForkPages) (c : ℕ) (page : List ℕ) → c ≤ length pages → flat (put pages c page) ≡ flat (take c pages) ++ (page ++ flat (drop (suc c) pages))
put_bytes [] zero page l = refl
put_bytes [] (suc c) page l = absurd (omega arith)
put_bytes (p ∷ pages) zero page l = refl
put_bytes (p ∷ pages) (suc c) page l =
    ap (λ (bytes : List ℕ). p ++ bytes) (put_bytes pages c page (omega arith)) ∙ sym (append_assoc p (flat (take c pages)) (page ++ flat (drop (suc c) pages)))

-- a part written over at a page's place
pub part_put : (size w c : ℕ) (pages : ForkPages) (part : List ℕ) → HeldBy size w pages → c ≤ w → take (c * size) (flat pages) ++ (part ++ drop (c * size + size) (flat pages)) ≡ flat (put pages c part)
part_put size w c pages part h l =
    ap (λ (bytes : List ℕ). bytes ++ (part ++ drop (c * size + size) (flat pages))) (front_bytes size w c pages h l)
    ∙ ap (λ (bytes : List ℕ). flat (take c pages) ++ (part ++ bytes)) (behind_bytes size w c pages h l)
    ∙ sym (put_bytes pages c part (let least = held_least size w pages h in omega (arith, least)))

-- how many bytes there are
pub record IsFilled (size w : ℕ) (pages : ForkPages) : Type 0 where
  pub least : w * size ≤ length (flat pages)
  pub most : length (flat pages) < w * size + size
  pub exact : length pages ≡ w → length (flat pages) ≡ w * size

pub bytes_filled : (size w : ℕ) (pages : ForkPages) → 0 < size → HeldBy size w pages → IsFilled size w pages
bytes_filled size zero [] some h = record { least = omega arith; most = omega arith; exact = λ e. omega arith }
bytes_filled size zero (p ∷ []) some h =
    let same : length (p ++ []) ≡ length p = ap length (append-nil p) in
    record { least = omega arith; most = omega (arith, same, h); exact = λ e. absurd (omega (arith, e)) }
bytes_filled size zero (p ∷ (q ∷ pages)) some h = absurd h
bytes_filled size (suc w) [] some h = absurd h
bytes_filled size (suc w) (p ∷ pages) some h =
    let rest = bytes_filled size w pages some h.1 in
    let sum : length (p ++ flat pages) ≡ size + length (flat pages) = length-append p (flat pages) ∙ ap (λ (n : ℕ). n + length (flat pages)) h.0 in
    record { least = omega (arith, sum, rest.least); most = omega (arith, sum, rest.most); exact = λ e. omega (arith, sum, rest.exact (omega (arith, e))) }

-- ---- these are the pages that files hold

-- one page more in front of them
pub filter_more : (page : List ℕ) (pages : ForkPages) → length page ≡ 8192 → whole_pages (page ∷ pages) ≡ page ∷ whole_pages pages
filter_more page pages e = ap (λ (b : Bool). cond b (page ∷ whole_pages pages) (whole_pages pages)) (eq-eqb (length page) 8192 e)

filter_less : (page : List ℕ) (pages : ForkPages) → length page < 8192 → whole_pages (page ∷ pages) ≡ whole_pages pages
filter_less page pages e = ap (λ (b : Bool). cond b (page ∷ whole_pages pages) (whole_pages pages)) (ne_eqb (length page) 8192 (λ same. omega (arith, e, same)))

pub held_by : (pages : ForkPages) → AreHeld pages → HeldBy 8192 (length (whole_pages pages)) pages
held_by [] h = tt
held_by (page ∷ []) h =
    ⊎_elim (λ same. subst (λ (ws : ForkPages). HeldBy 8192 (length ws) (page ∷ [])) (sym (filter_more page [] same.1)) (same.1, tt))
    (λ other. let less : length page < 8192 = omega (arith, h, other.1) in subst (λ (ws : ForkPages). HeldBy 8192 (length ws) (page ∷ [])) (sym (filter_less page [] less)) less)
    (eqb_tells (length page) 8192)
held_by (page ∷ (next ∷ pages)) h = subst (λ (ws : ForkPages). HeldBy 8192 (length ws) (page ∷ (next ∷ pages))) (sym (filter_more page (next ∷ pages) h.0)) (h.0, held_by (next ∷ pages) h.1)

pub are_held : (w : ℕ) (pages : ForkPages) → HeldBy 8192 w pages → AreHeld pages
are_held zero [] h = tt
are_held zero (page ∷ []) h = omega (arith, h)
are_held zero (page ∷ (next ∷ pages)) h = absurd h
are_held (suc w) [] h = absurd h
are_held (suc w) (page ∷ []) h = omega (arith, h.0)
are_held (suc w) (page ∷ (next ∷ pages)) h = (h.0, are_held w (next ∷ pages) h.1)

-- the whole pages are the first ones
pub whole_are : (w : ℕ) (pages : ForkPages) → HeldBy 8192 w pages → whole_pages pages ≡ take w pages
whole_are zero [] h = refl
whole_are zero (page ∷ []) h = filter_less page [] h
whole_are zero (page ∷ (next ∷ pages)) h = absurd h
whole_are (suc w) [] h = absurd h
whole_are (suc w) (page ∷ pages) h = filter_more page pages h.0 ∙ ap (λ (ws : ForkPages). page ∷ ws) (whole_are w pages h.1)

pub count_whole : (w : ℕ) (pages : ForkPages) → HeldBy 8192 w pages → length (whole_pages pages) ≡ w
count_whole w pages h = let least = held_least 8192 w pages h in ap length (whole_are w pages h) ∙ length-take w pages ∙ omega (arith, least)

-- ---- a page by its place

pub taken_get : {X : Type 0} (n i : ℕ) (xs : List X) → i < n → slice_get (take n xs) i ≡ slice_get xs i
taken_get zero i xs l = absurd (omega arith)
taken_get (suc n) i [] l = refl
taken_get (suc n) zero (x ∷ xs) l = refl
taken_get (suc n) (suc i) (x ∷ xs) l = taken_get n i xs (omega arith)

pub dropped_get : {X : Type 0} (n i : ℕ) (xs : List X) → slice_get (drop n xs) i ≡ slice_get xs (n + i)
dropped_get zero i xs = let same : i ≡ 0 + i = omega arith in ap (slice_get xs) same
dropped_get (suc n) i [] = refl
dropped_get (suc n) i (x ∷ xs) = dropped_get n i xs ∙ (let next : suc (n + i) ≡ suc n + i = omega arith in ap (slice_get (x ∷ xs)) next)

-- a whole page is the bytes at its place
pub page_bytes : (size w c : ℕ) (pages : ForkPages) → HeldBy size w pages → c < w → slice_get pages c ≡ Some (take size (drop (c * size) (flat pages)))
page_bytes size zero c pages h l = absurd (omega arith)
page_bytes size (suc w) c [] h l = absurd h
page_bytes size (suc w) zero (p ∷ pages) h l =
    let start : 0 * size ≡ 0 = omega arith in
    sym (ap (λ (n : ℕ). Some (take size (drop n (p ++ flat pages)))) start ∙ ap (λ (bytes : List ℕ). Some bytes) (take_at p (flat pages) size h.0))
page_bytes size (suc w) (suc c) (p ∷ pages) h l =
    let places : suc c * size ≡ length p + c * size = omega (arith, h.0) in
    page_bytes size w c pages h.1 (omega arith)
    ∙ sym (ap (λ (n : ℕ). Some (take size (drop n (p ++ flat pages)))) places ∙ ap (λ (bytes : List ℕ). Some (take size bytes)) (drop-append-add p (flat pages) (c * size)))

-- and these bytes are there
pub page_room : (size w c : ℕ) (pages : ForkPages) → HeldBy size w pages → c < w → c * size + size ≤ length (flat pages)
page_room size zero c pages h l = absurd (omega arith)
page_room size (suc w) c [] h l = absurd h
page_room size (suc w) zero (p ∷ pages) h l = omega (arith, length-append p (flat pages), h.0)
page_room size (suc w) (suc c) (p ∷ pages) h l = let rest = page_room size w c pages h.1 (omega arith) in omega (arith, length-append p (flat pages), h.0, rest)
