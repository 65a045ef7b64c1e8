-- Something of each block of each fork.
use Rattle.std.proofs.Common.{◌≡◌, ℕ, suc, ◌+◌, ◌-◌, ◌<◌, ◌≤◌, max, min, true, false, cond, List, [], ◌∷◌, ◌++◌, map, length, take, replicate, get_or, slice_set, Option, Some, None, option_map, unwrap_or, inl, inr, refl, sym, ap, subst, ◌∙◌, arith, eqb-true, true≢false, get_or-set_same, get_or-set_other, length-append}
use Rattle.std.specs.Prelude.{slice_get, ◌==◌}
use Rattle.std.proofs.lemmas.Bool.{cases_lt, eq-eqb}
use Rattle.std.proofs.lemmas.List.{length-replicate, length-set, take_all}
use Rattle.std.proofs.Math.ListN.{get_or-append}
use Rattle.std.proofs.lemmas.List.FromFn.{length-map-range_with_len, get_or-map-range_with_len, take-map-range_with_len}
use Rattle.std.proofs.lemmas.Option.{slice_get_read, slice_get_past}
use Rattle.lsn_core.specs.byte_words.Numbers.{◌>>=◌}
use Rattle.std.specs.List.{range_with_len}
use Rattle.std.specs.Ordering.{is_eq, eq_by_cmp}
use Rattle.std.specs.Cmp.{Equal-is}
use Rattle.std.specs.FinMap.{FinMap, find, get, entries, insert, remove, get-from_entries, get-entries, same_map}
use Rattle.lsn_core.specs.declared.ids.ForkId.{ForkId}
use Rattle.lsn_core.specs.declared.ids.BlockId.{BlockId}
use Rattle.lsn_core.specs.Store.{fork_cmp}
use Rattle.lsn_core.proofs.ForkOrder.{fork_cmp_total, fork_cmp-IsAntisymmetric}
use Rattle.page_frames.specs.Framed.{ForkLengths, block_cmp}
use Rattle.page_frames.specs.Overlay.{each_block, each_fork}
use Rattle.page_frames.proofs.Orders.{fork_apart, block_apart}
use Rattle.page_frames.proofs.Keys.{either_key, put_here, put_there, gone_here, gone_there}

module _ {X : Type 0} where
  -- a list that has this at each place
  pub listed : (h : ℕ → X) (a : ℕ) (xs : List X) → ((b : ℕ) → b < length xs → slice_get xs b ≡ Some (h (a + b))) → map h (range_with_len a (length xs)) ≡ xs
  listed h a [] all = refl
  listed h a (x ∷ xs) all =
      let start : a + 0 ≡ a = omega arith in
      let first : x ≡ h a = (let e : Some x ≡ Some (h (a + 0)) = all 0 (omega arith) in let f : x ≡ h (a + 0) = cc in f ∙ ap h start) in
      let rest = listed h (a + 1) xs (λ b l. let next : a + suc b ≡ a + 1 + b = omega arith in all (suc b) (omega (arith, l)) ∙ ap (λ (k : ℕ). Some (h k)) next) in
      λ i. sym first i ∷ rest i

  at_fork : (of : BlockId → X) (es : List (ForkId × ℕ)) (q : ForkId) → find fork_cmp q (map (λ e. (e.0, each_block of e.0 e.1)) es) ≡ option_map (each_block of q) (find fork_cmp q es)
  at_fork of [] q = refl
  at_fork of (e ∷ es) q =
      elim (is_eq (fork_cmp q e.0)) as (λ b. is_eq (fork_cmp q e.0) ≡ b → cond b (Some (each_block of e.0 e.1)) (find fork_cmp q (map (λ e. (e.0, each_block of e.0 e.1)) es)) ≡ option_map (each_block of q) (cond b (Some e.1) (find fork_cmp q es))) [
        | true ↦ λ tied. ap (λ (f : ForkId). Some (each_block of f e.1)) (sym (fork_cmp-IsAntisymmetric q e.0 ((Equal-is _).0 tied)))
        | false ↦ λ apart. at_fork of es q
      ] refl

  pub each_at : (of : BlockId → X) (lengths : ForkLengths) (q : ForkId) → get (each_fork of lengths) q ≡ option_map (each_block of q) (get lengths q)
  each_at of lengths q =
      get-from_entries fork_cmp_total (map (λ e. (e.0, each_block of e.0 e.1)) (entries lengths)) q ∙ at_fork of (entries lengths) q ∙ ap (λ (o : Option ℕ). option_map (each_block of q) o) (sym (get-entries lengths q))

  -- a map that has as many at each fork, and this at each block, is it
  pub each_is : (of : BlockId → X) (lengths : ForkLengths) (m : FinMap fork_cmp (List X)) → ((q : ForkId) → get lengths q ≡ option_map length (get m q))
      → ((q : ForkId) (xs : List X) (b : ℕ) → get m q ≡ Some xs → b < length xs → slice_get xs b ≡ Some (of (record { fork = q; block = b }))) → each_fork of lengths ≡ m
  each_is of lengths m long all = same_map fork_cmp_total fork_cmp-IsAntisymmetric (each_fork of lengths) m (λ q.
      each_at of lengths q ∙ ap (λ (o : Option ℕ). option_map (each_block of q) o) (long q) ∙ by q (get m q) refl)
    where
      by : (q : ForkId) (o : Option (List X)) → get m q ≡ o → option_map (each_block of q) (option_map length o) ≡ o
      by q None e = refl
      by q (Some xs) e = ap (λ (ys : List X). Some ys) (listed (λ (b : ℕ). of (record { fork = q; block = b })) 0 xs (λ b l. all q xs b e l ∙ (let same : b ≡ 0 + b = omega arith in ap (λ (k : ℕ). Some (of (record { fork = q; block = k }))) same)))

  -- ---- lists of something of each block

  numbered : (h : ℕ → X) (n : ℕ) (ys : List X) → length ys ≡ n → ((b : ℕ) → b < length ys → slice_get ys b ≡ Some (h b)) → map h (range_with_len 0 n) ≡ ys
  numbered h n ys long all =
      ap (λ (k : ℕ). map h (range_with_len 0 k)) (sym long)
      ∙ listed h 0 ys (λ b l. all b l ∙ (let same : b ≡ 0 + b = omega arith in ap (λ (k : ℕ). Some (h k)) same))

  at_block : (g : ℕ → X) (n b : ℕ) (x : X) → b < n → x ≡ g b → slice_get (map g (range_with_len 0 n)) b ≡ Some x
  at_block g n b x l same =
      let within : b < length (map g (range_with_len 0 n)) = omega (arith, length-map-range_with_len g 0 n, l) in
      slice_get_read (map g (range_with_len 0 n)) (length (map g (range_with_len 0 n))) b x refl within (same ∙ sym (get_or-map-range_with_len g 0 n b b x l (omega arith)))

  alike_list : (h g : ℕ → X) (n : ℕ) → ((b : ℕ) → b < n → h b ≡ g b) → map h (range_with_len 0 n) ≡ map g (range_with_len 0 n)
  alike_list h g n alike =
      numbered h n (map g (range_with_len 0 n)) (length-map-range_with_len g 0 n) (λ b l. let k : b < n = omega (arith, length-map-range_with_len g 0 n, l) in at_block g n b (h b) k (alike b k))

  put_list : (h g : ℕ → X) (n b : ℕ) (z v : X) → b ≤ n → h b ≡ v → ((i : ℕ) → (i ≡ b → ⊥) → h i ≡ g i)
      → map h (range_with_len 0 (max n (b + 1))) ≡ slice_set (map g (range_with_len 0 n) ++ replicate (b + 1 - length (map g (range_with_len 0 n))) z) b v
  put_list h g n b z v within here others =
      let xs = map g (range_with_len 0 n) in
      let k = b + 1 - length xs in
      let all = xs ++ replicate k z in
      let size : length xs ≡ n = length-map-range_with_len g 0 n in
      let long : length all ≡ max n (b + 1) = omega (arith, length-append xs (replicate k z), length-replicate k z, size, within) in
      numbered h (max n (b + 1)) (slice_set all b v) (length-set all b v ∙ long) (λ i l.
      let short : i < length all = omega (arith, length-set all b v, l) in
      slice_get_read (slice_set all b v) (length (slice_set all b v)) i (h i) refl l (sym (elim (i == b) as (λ s. (i == b) ≡ s → get_or (slice_set all b v) i (h i) ≡ h i) [
        | true ↦ λ e.
            let same : i ≡ b = eqb-true i b e in
            ap (λ (j : ℕ). get_or (slice_set all b v) j (h i)) same ∙ get_or-set_same all b v (h i) (omega (arith, long, within)) ∙ sym here ∙ ap h (sym same)
        | false ↦ λ e.
            let other : i ≡ b → ⊥ = λ same. true≢false (sym (eq-eqb i b same) ∙ e) in
            let inside : i < n = less i other (omega (arith, long, short)) within in
            get_or-set_other all b i v (h i) other ∙ get_or-append xs (replicate k z) (h i) i (omega (arith, size, inside))
            ∙ get_or-map-range_with_len g 0 n i i (h i) inside (omega arith) ∙ sym (others i other)
      ] refl)))
    where
      less : (i : ℕ) → (i ≡ b → ⊥) → i < max n (b + 1) → b ≤ n → i < n
      less i other l within = elim (cases_lt i n) [
        | inl k ↦ k
        | inr past ↦ absurd (other (omega (arith, past, l, within)))
      ]

  cut_list : (g : ℕ → X) (n c : ℕ) → map g (range_with_len 0 (min n c)) ≡ take c (map g (range_with_len 0 n))
  cut_list g n c = elim (cases_lt c n) [
    | inl l ↦ (let least : min n c ≡ c = omega (arith, l) in ap (λ (k : ℕ). map g (range_with_len 0 k)) least) ∙ sym (take-map-range_with_len g 0 n c (omega (arith, l)))
    | inr past ↦ (let least : min n c ≡ n = omega (arith, past) in ap (λ (k : ℕ). map g (range_with_len 0 k)) least) ∙ sym (take_all c (map g (range_with_len 0 n)) (omega (arith, length-map-range_with_len g 0 n, past)))
  ]

  -- ---- maps of them

  -- one fork's list and length are others, and all else is the same
  at_one_fork : (of other : BlockId → X) (lengths next : ForkLengths) (m : FinMap fork_cmp (List X)) (fork : ForkId)
      → ((q : ForkId) → eq_by_cmp fork_cmp q fork ≡ false → get next q ≡ get lengths q)
      → ((q : BlockId) → eq_by_cmp fork_cmp q.fork fork ≡ false → other q ≡ of q)
      → ((q : ForkId) → eq_by_cmp fork_cmp q fork ≡ false → get m q ≡ get (each_fork of lengths) q)
      → option_map (each_block other fork) (get next fork) ≡ get m fork → each_fork other next ≡ m
  at_one_fork of other lengths next m fork long alike kept here =
      same_map fork_cmp_total fork_cmp-IsAntisymmetric (each_fork other next) m (λ q.
      each_at other next q
      ∙ either_key fork_cmp_total fork_cmp-IsAntisymmetric q fork
      (λ same. subst (λ (x : ForkId). option_map (each_block other x) (get next x) ≡ get m x) (sym same) here)
      (λ apart.
      ap (λ (o : Option ℕ). option_map (each_block other q) o) (long q apart) ∙ by q apart (get lengths q)
      ∙ sym (each_at of lengths q) ∙ sym (kept q apart)))
    where
      by : (q : ForkId) → eq_by_cmp fork_cmp q fork ≡ false → (o : Option ℕ) → option_map (each_block other q) o ≡ option_map (each_block of q) o
      by q apart None = refl
      by q apart (Some n) = ap (λ (ys : List X). Some ys) (alike_list (λ (b : ℕ). other (record { fork = q; block = b })) (λ (b : ℕ). of (record { fork = q; block = b })) n (λ b l. alike (record { fork = q; block = b }) apart))

  list_of : (of : BlockId → X) (lengths : ForkLengths) (fork : ForkId) (n : ℕ) → get lengths fork ≡ Some n → unwrap_or (get (each_fork of lengths) fork) [] ≡ each_block of fork n
  list_of of lengths fork n e = ap (λ (o : Option (List X)). unwrap_or o []) (each_at of lengths fork ∙ ap (λ (o : Option ℕ). option_map (each_block of fork) o) e)

  -- something put at a block, at most right behind its fork's last one
  pub each_put : (of other : BlockId → X) (lengths : ForkLengths) (at : BlockId) (n : ℕ) (z v : X) → get lengths at.fork ≡ Some n → at.block ≤ n → other at ≡ v → ((q : BlockId) → eq_by_cmp block_cmp q at ≡ false → other q ≡ of q)
      → each_fork other (insert lengths at.fork (max n (at.block + 1)))
      ≡ insert (each_fork of lengths) at.fork (slice_set (unwrap_or (get (each_fork of lengths) at.fork) [] ++ replicate (at.block + 1 - length (unwrap_or (get (each_fork of lengths) at.fork) [])) z) at.block v)
  each_put of other lengths at n z v long within here others =
      let next = insert lengths at.fork (max n (at.block + 1)) in
      let put = λ (xs : List X). slice_set (xs ++ replicate (at.block + 1 - length xs) z) at.block v in
      let ys = put (unwrap_or (get (each_fork of lengths) at.fork) []) in
      at_one_fork of other lengths next (insert (each_fork of lengths) at.fork ys) at.fork
      (λ q apart. put_there fork_cmp_total lengths at.fork q (max n (at.block + 1)) apart)
      (λ q apart. others q (fork_apart q at apart))
      (λ q apart. put_there fork_cmp_total (each_fork of lengths) at.fork q ys apart)
      (ap (λ (o : Option ℕ). option_map (each_block other at.fork) o) (put_here fork_cmp_total lengths at.fork (max n (at.block + 1)))
      ∙ ap (λ (xs : List X). Some xs) (put_list (λ (b : ℕ). other (record { fork = at.fork; block = b })) (λ (b : ℕ). of (record { fork = at.fork; block = b })) n at.block z v within here
      (λ i ne. others (record { fork = at.fork; block = i }) (block_apart i at ne)) ∙ sym (ap put (list_of of lengths at.fork n long)))
      ∙ sym (put_here fork_cmp_total (each_fork of lengths) at.fork ys))

  -- a fork of which the first blocks are left
  pub each_cut : (of : BlockId → X) (lengths : ForkLengths) (fork : ForkId) (n c : ℕ) → get lengths fork ≡ Some n → each_fork of (insert lengths fork (min n c)) ≡ insert (each_fork of lengths) fork (take c (unwrap_or (get (each_fork of lengths) fork) []))
  each_cut of lengths fork n c long =
      let ys = take c (unwrap_or (get (each_fork of lengths) fork) []) in
      at_one_fork of of lengths (insert lengths fork (min n c)) (insert (each_fork of lengths) fork ys) fork
      (λ q apart. put_there fork_cmp_total lengths fork q (min n c) apart)
      (λ q apart. refl)
      (λ q apart. put_there fork_cmp_total (each_fork of lengths) fork q ys apart)
      (ap (λ (o : Option ℕ). option_map (each_block of fork) o) (put_here fork_cmp_total lengths fork (min n c))
      ∙ ap (λ (xs : List X). Some xs) (cut_list (λ (b : ℕ). of (record { fork = fork; block = b })) n c ∙ sym (ap (take c) (list_of of lengths fork n long)))
      ∙ sym (put_here fork_cmp_total (each_fork of lengths) fork ys))

  -- an empty fork
  pub each_made : (of : BlockId → X) (lengths : ForkLengths) (fork : ForkId) → each_fork of (insert lengths fork 0) ≡ insert (each_fork of lengths) fork []
  each_made of lengths fork =
      at_one_fork of of lengths (insert lengths fork 0) (insert (each_fork of lengths) fork []) fork
      (λ q apart. put_there fork_cmp_total lengths fork q 0 apart)
      (λ q apart. refl)
      (λ q apart. put_there fork_cmp_total (each_fork of lengths) fork q [] apart)
      (ap (λ (o : Option ℕ). option_map (each_block of fork) o) (put_here fork_cmp_total lengths fork 0) ∙ sym (put_here fork_cmp_total (each_fork of lengths) fork []))

  -- a fork that is taken away
  pub each_removed : (of : BlockId → X) (lengths : ForkLengths) (fork : ForkId) → each_fork of (remove lengths fork) ≡ remove (each_fork of lengths) fork
  each_removed of lengths fork =
      at_one_fork of of lengths (remove lengths fork) (remove (each_fork of lengths) fork) fork
      (λ q apart. gone_there fork_cmp_total lengths fork q apart)
      (λ q apart. refl)
      (λ q apart. gone_there fork_cmp_total (each_fork of lengths) fork q apart)
      (ap (λ (o : Option ℕ). option_map (each_block of fork) o) (gone_here fork_cmp_total lengths fork) ∙ sym (gone_here fork_cmp_total (each_fork of lengths) fork))

  -- the same of each block that is there
  pub each_alike : (of other : BlockId → X) (lengths : ForkLengths) → ((q : BlockId) (n : ℕ) → get lengths q.fork ≡ Some n → q.block < n → other q ≡ of q) → each_fork other lengths ≡ each_fork of lengths
  each_alike of other lengths alike =
      same_map fork_cmp_total fork_cmp-IsAntisymmetric (each_fork other lengths) (each_fork of lengths) (λ q. each_at other lengths q ∙ by q (get lengths q) refl ∙ sym (each_at of lengths q))
    where
      by : (q : ForkId) (o : Option ℕ) → get lengths q ≡ o → option_map (each_block other q) o ≡ option_map (each_block of q) o
      by q None e = refl
      by q (Some n) e = ap (λ (ys : List X). Some ys) (alike_list (λ (b : ℕ). other (record { fork = q; block = b })) (λ (b : ℕ). of (record { fork = q; block = b })) n (λ b l. alike (record { fork = q; block = b }) n e l))

  -- what stands at a block
  pub each_block_at : (of : BlockId → X) (lengths : ForkLengths) (at : BlockId) (n : ℕ) → get lengths at.fork ≡ Some n → at.block < n → (get (each_fork of lengths) at.fork >>= λ xs. slice_get xs at.block) ≡ Some (of at)
  each_block_at of lengths at n e l =
      ap (λ (o : Option (List X)). o >>= λ xs. slice_get xs at.block) (each_at of lengths at.fork ∙ ap (λ (o : Option ℕ). option_map (each_block of at.fork) o) e)
      ∙ at_block (λ (b : ℕ). of (record { fork = at.fork; block = b })) n at.block (of at) l refl

  -- and nothing behind the last one
  pub each_block_past : (of : BlockId → X) (lengths : ForkLengths) (at : BlockId) → ((n : ℕ) → get lengths at.fork ≡ Some n → n ≤ at.block) → (get (each_fork of lengths) at.fork >>= λ xs. slice_get xs at.block) ≡ None
  each_block_past of lengths at past =
      ap (λ (o : Option (List X)). o >>= λ xs. slice_get xs at.block) (each_at of lengths at.fork) ∙ by (get lengths at.fork) refl
    where
      by : (o : Option ℕ) → get lengths at.fork ≡ o → (option_map (each_block of at.fork) o >>= λ xs. slice_get xs at.block) ≡ None
      by None e = refl
      by (Some n) e = slice_get_past (each_block of at.fork n) at.block (let l = past n e in omega (arith, l, length-map-range_with_len (λ (b : ℕ). of (record { fork = at.fork; block = b })) 0 n))
