-- The segment files of a fork, one behind the other.
use Rattle.std.proofs.Common.{◌≡◌, ◌≢◌, ℕ, zero, suc, ◌+◌, ◌-◌, ◌*◌, ◌<◌, ◌≤◌, min, inl, inr, Bool, true, false, cond, List, [], ◌∷◌, ◌++◌, length, take, Option, Some, None, refl, sym, ap, subst, ◌∙◌, arith}
use Rattle.std.specs.Prelude.{◌⊎◌}
use Rattle.std.specs.FinMap.{insert, contains_key}
use Rattle.std.proofs.lemmas.Bool.{cases_lt, le-leb, lt-leb}
use Rattle.std.proofs.lemmas.List.{length-append, length-take, take_all}
use Rattle.lsn_core.specs.Files.{Files}
use Rattle.lsn_core.specs.Blocks.{with_fork}
use Rattle.lsn_core.specs.Store.{Store, ForkPages}
use Rattle.lsn_core.specs.declared.ids.ForkId.{ForkId}
use Rattle.chain_files.specs.Held.{most_pages, pages_taken, pages_up_to, is_full, IsForkOf}
use Rattle.chain_files.specs.Segments.{chain_segments}
use Rattle.chain_files.specs.Sources.{OfChain}
use Rattle.backup_restore.specs.Inside.{MakesFork, Puts, PutsPages, PutsSegment, IsForkPut, PutsFork, taken}
use Rattle.backup_restore.proofs.Chains.{when_chain, when_both}
use Rattle.backup_restore.proofs.Directories.{long_taken, up_to_more}

take_over : (xs ys : ForkPages) (n k : ℕ) → n ≡ length xs + k → take n (xs ++ ys) ≡ xs ++ take k ys
take_over [] ys n k is = ap (λ (j : ℕ). take j ys) (let e : n ≡ k = omega (arith, is) in e)
take_over (x ∷ xs) ys zero k is = absurd (omega (arith, is))
take_over (x ∷ xs) ys (suc n) k is = ap (λ (l : ForkPages). x ∷ l) (take_over xs ys n k (omega (arith, is)))

take_min : (xs : ForkPages) (k c : ℕ) → c ≡ min (length xs) k → take c xs ≡ take k xs
take_min xs k c is = elim (cases_lt k (length xs)) [
  | inl lt ↦ ap (λ (j : ℕ). take j xs) (let e : c ≡ k = omega (arith, is, lt) in e)
  | inr le ↦ take_all c xs (omega (arith, is, le)) ∙ sym (take_all k xs (omega (arith, le)))
]

held_full : (relseg : ℕ) (found : Option ForkPages) → 0 < relseg → relseg ≤ length (pages_taken relseg found) → is_full relseg found ≡ true
held_full relseg None some le = absurd (omega (arith, some, le))
held_full relseg (Some pages) some le = (let long = length-take relseg pages in le-leb relseg (length pages) (omega (arith, le, long)))

held_less : (relseg : ℕ) (found : Option ForkPages) → length (pages_taken relseg found) < relseg → is_full relseg found ≡ false
held_less relseg None lt = refl
held_less relseg (Some pages) lt = (let long = length-take relseg pages in lt-leb relseg (length pages) (omega (arith, lt, long)))

module _ {P : Type 0} (shows : P → Store → Type 0) where
  -- the files before one are full and were put, and of this one so many pages
  pub record IsPutSoFar (relseg : ℕ) (chain : List Files) (fork : ForkId) (before behind : P) (seg count all : ℕ) : Type 0 where
    pub first : ℕ
    pub long : length (pages_up_to relseg (chain_segments chain fork) seg) ≡ first
    pub all_is : all ≡ first + count
    pub full : (k : ℕ) → k < seg → is_full relseg (chain_segments chain fork k) ≡ true
    pub count_is : count ≡ min (length (taken relseg chain fork seg)) (most_pages - first)
    pub put : Puts shows before behind fork [] (pages_up_to relseg (chain_segments chain fork) seg ++ take count (taken relseg chain fork seg))

  pub record KeepsFork (relseg : ℕ) (told : Option (List Files)) (fork : ForkId) (before behind : P) (seg count all : ℕ) : Type 0 where
    pub told_is : OfChain told (λ chain. IsPutSoFar relseg chain fork before behind seg count all)
    pub few : count ≤ relseg
    pub below : seg + count ≤ all
    pub place : all ≡ seg * relseg + count
    pub within : all ≤ most_pages

  first_put : (relseg : ℕ) (chain : List Files) (fork : ForkId) (before behind : P) (count : ℕ) → PutsPages shows relseg chain fork 0 0 before behind count → count ≡ min (length (taken relseg chain fork 0)) (most_pages - 0) → IsPutSoFar relseg chain fork before behind 0 count count
  first_put relseg chain fork before behind count put is = record {
    first = 0;
    long = refl;
    all_is = omega arith;
    full = λ k less. absurd (omega (arith, less));
    count_is = is;
    put = put [] refl;
  }

  pub fork_begun : (relseg : ℕ) (told : Option (List Files)) (fork : ForkId) (before behind : P) (count : ℕ) → PutsSegment shows relseg told fork 0 0 before behind count → KeepsFork relseg told fork before behind 0 count count
  fork_begun relseg told fork before behind count puts = record {
    told_is = when_both told (λ chain. PutsPages shows relseg chain fork 0 0 before behind count) (λ chain. count ≡ min (length (taken relseg chain fork 0)) (most_pages - 0)) (λ chain. IsPutSoFar relseg chain fork before behind 0 count count)
        (λ chain put is. first_put relseg chain fork before behind count put is) puts.put puts.all;
    few = puts.few;
    below = omega arith;
    place = omega arith;
    within = omega (arith, puts.within);
  }

  whole_file : (relseg long count left : ℕ) → long ≤ relseg → count ≡ relseg → count ≡ min long left → long ≡ relseg
  whole_file relseg long count left most is held = omega (arith, most, is, held)

  module _ (relseg : ℕ) (chain : List Files) (fork : ForkId) where
    abbrev up_to : ℕ → ForkPages
    up_to seg = pages_up_to relseg (chain_segments chain fork) seg

    abbrev here : ℕ → ForkPages
    here seg = taken relseg chain fork seg

    is_whole : (a b : P) (seg count all : ℕ) → count ≡ relseg → IsPutSoFar relseg chain fork a b seg count all → length (here seg) ≡ relseg
    is_whole a b seg count all is so = whole_file relseg (length (here seg)) count (most_pages - so.first) (long_taken relseg (chain_segments chain fork seg)) is so.count_is

    put_whole : (a b : P) (seg count all : ℕ) → count ≡ relseg → (so : IsPutSoFar relseg chain fork a b seg count all) → Puts shows a b fork [] (up_to (seg + 1))
    put_whole a b seg count all is so =
        let whole = is_whole a b seg count all is so in
        let same : up_to seg ++ take count (here seg) ≡ up_to (seg + 1) =
        ap (λ (l : ForkPages). up_to seg ++ l) (take_all count (here seg) (omega (arith, is, whole))) ∙ sym (up_to_more relseg (chain_segments chain fork) seg) in
        subst (Puts shows a b fork []) same so.put

    long_whole : (a b : P) (seg count all : ℕ) → count ≡ relseg → (so : IsPutSoFar relseg chain fork a b seg count all) → length (up_to (seg + 1)) ≡ all
    long_whole a b seg count all is so =
        let whole = is_whole a b seg count all is so in
        ap length (up_to_more relseg (chain_segments chain fork) seg) ∙ length-append (up_to seg) (here seg) ∙ omega (arith, so.long, so.all_is, is, whole)

    full_so_far : (seg : ℕ) → ((k : ℕ) → k < seg → is_full relseg (chain_segments chain fork k) ≡ true) → is_full relseg (chain_segments chain fork seg) ≡ true → (k : ℕ) → k < seg + 1 → is_full relseg (chain_segments chain fork k) ≡ true
    full_so_far seg before here k less = elim (cases_lt k seg) [
      | inl lt ↦ before k lt
      | inr le ↦ ap (λ (j : ℕ). is_full relseg (chain_segments chain fork j)) (let e : k ≡ seg = omega (arith, le, less) in e) ∙ here
    ]

    one_file_more : (a b c : P) (seg count all more : ℕ) → 0 < relseg → count ≡ relseg → IsPutSoFar relseg chain fork a b seg count all → PutsPages shows relseg chain fork (seg + 1) all b c more
        → more ≡ min (length (here (seg + 1))) (most_pages - all) → IsPutSoFar relseg chain fork a c (seg + 1) more (all + more)
    one_file_more a b c seg count all more some is so put more_is =
        let whole = is_whole a b seg count all is so in
        record {
          first = all;
          long = long_whole a b seg count all is so;
          all_is = refl;
          full = full_so_far seg so.full (held_full relseg (chain_segments chain fork seg) some (omega (arith, whole)));
          count_is = more_is;
          put = λ s shown. put (up_to (seg + 1)) (long_whole a b seg count all is so) s (put_whole a b seg count all is so s shown);
        }

    stops_here : (a b : P) (seg count all : ℕ) → count < relseg → IsPutSoFar relseg chain fork a b seg count all
        → (is_full relseg (chain_segments chain fork seg) ≡ false) ⊎ (most_pages ≤ length (up_to (seg + 1)))
    stops_here a b seg count all less so = elim (cases_lt (length (here seg)) relseg) [
      | inl lt ↦ inl (held_less relseg (chain_segments chain fork seg) lt)
      | inr le ↦
          let all_of = ap length (up_to_more relseg (chain_segments chain fork) seg) ∙ length-append (up_to seg) (here seg) in
          inr (omega (arith, le, all_of, so.long, so.count_is, less))
    ]

    put_all : (a b : P) (seg count all : ℕ) → count < relseg → all ≤ most_pages → (so : IsPutSoFar relseg chain fork a b seg count all) → IsForkOf relseg (chain_segments chain fork) (up_to seg ++ take count (here seg))
    put_all a b seg count all less within so = record {
      full = seg;
      before = so.full;
      stops = stops_here a b seg count all less so;
      are =
          ap (λ (l : ForkPages). up_to seg ++ l) (take_min (here seg) (most_pages - so.first) count (omega (arith, so.count_is)))
          ∙ sym (take_over (up_to seg) (here seg) most_pages (most_pages - so.first) (omega (arith, so.long, so.all_is, within)))
          ∙ ap (take most_pages) (sym (up_to_more relseg (chain_segments chain fork) seg));
    }

    counted_all : (a b : P) (seg count all : ℕ) → (so : IsPutSoFar relseg chain fork a b seg count all) → all ≡ length (up_to seg ++ take count (here seg))
    counted_all a b seg count all so =
        let some = length-take count (here seg) in
        sym (length-append (up_to seg) (take count (here seg)) ∙ omega (arith, some, so.long, so.all_is, so.count_is))

    new_fork : (s : Store) → contains_key s fork ≡ false → with_fork s fork ≡ insert s fork []
    new_fork s none = ap (λ (b : Bool). cond b s (insert s fork [])) none

    ended : (before a b : P) (seg count all : ℕ) → MakesFork shows before a fork → count < relseg → all ≤ most_pages → IsPutSoFar relseg chain fork a b seg count all → IsForkPut shows relseg chain fork before b all
    ended before a b seg count all made less within so = record {
      pages = up_to seg ++ take count (here seg);
      are = put_all a b seg count all less within so;
      counted = counted_all a b seg count all so;
      put = λ s none shown. so.put s (subst (shows a) (new_fork s none) (made s none shown));
    }

  pub fork_grown : (relseg : ℕ) (told : Option (List Files)) (fork : ForkId) (a b c : P) (seg count all more : ℕ) → 0 < relseg → count ≡ relseg → KeepsFork relseg told fork a b seg count all → PutsSegment shows relseg told fork (seg + 1) all b c more
      → KeepsFork relseg told fork a c (seg + 1) more (all + more)
  fork_grown relseg told fork a b c seg count all more some is kept puts = record {
    told_is = when_both told (λ chain. IsPutSoFar relseg chain fork a b seg count all) (λ chain. PutsPages shows relseg chain fork (seg + 1) all b c more × (more ≡ min (length (taken relseg chain fork (seg + 1))) (most_pages - all))) (λ chain. IsPutSoFar relseg chain fork a c (seg + 1) more (all + more))
        (λ chain so put. one_file_more relseg chain fork a b c seg count all more some is so put.0 put.1) kept.told_is
        (when_both told (λ chain. PutsPages shows relseg chain fork (seg + 1) all b c more) (λ chain. more ≡ min (length (taken relseg chain fork (seg + 1))) (most_pages - all)) _ (λ chain p q. (p, q)) puts.put puts.all);
    few = puts.few;
    below = omega (arith, kept.below, some, is);
    place = (let next : (seg + 1) * relseg ≡ seg * relseg + relseg = omega arith in omega (arith, kept.place, is, next));
    within = omega (arith, kept.within, puts.within);
  }

  -- no more pages than a fork may have
  pub sum_fits : (relseg : ℕ) (told : Option (List Files)) (fork : ForkId) (a b c : P) (seg count all more : ℕ) → KeepsFork relseg told fork a b seg count all → PutsSegment shows relseg told fork (seg + 1) all b c more → all + more ≤ 4294967295
  unfolding most_pages
  sum_fits relseg told fork a b c seg count all more kept puts = omega (arith, kept.within, puts.within)

  pub fork_ended : (relseg : ℕ) (told : Option (List Files)) (fork : ForkId) (before a b : P) (seg count all : ℕ) → MakesFork shows before a fork → count ≢ relseg → KeepsFork relseg told fork a b seg count all → PutsFork shows relseg told fork before b all
  fork_ended relseg told fork before a b seg count all made other kept =
      when_chain told (λ chain. IsPutSoFar relseg chain fork a b seg count all) (λ chain. IsForkPut shows relseg chain fork before b all)
      (λ chain so. ended relseg chain fork before a b seg count all made (omega (arith, kept.few, other)) kept.within so) kept.told_is
