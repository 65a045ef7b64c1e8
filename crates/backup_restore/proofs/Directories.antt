-- Segment files hold one store at most, and alike ones hold the same.
use Rattle.std.proofs.Common.{◌≡◌, ℕ, zero, suc, ◌+◌, ◌-◌, ◌*◌, ◌<◌, ◌≤◌, inl, inr, true, false, List, [], ◌∷◌, ◌++◌, length, take, Option, Some, None, is_some, refl, sym, ap, subst, ◌∙◌, arith}
use Rattle.std.specs.Prelude.{◌⊎◌}
use Rattle.std.specs.List.{flat_map, range_with_len}
use Rattle.std.specs.Option.{option_map}
use Rattle.std.specs.FinMap.{get, contains_key, same_map}
use Rattle.std.proofs.Math.Nat.{mul-le-mul_left}
use Rattle.std.proofs.lemmas.Bool.{true≢false, leb-true, cases_lt, cases_order}
use Rattle.std.proofs.lemmas.List.{append-nil, length-append, length-take, take-append-le}
use Rattle.std.proofs.lemmas.List.Concat.{flat_map-append}
use Rattle.lsn_core.specs.Names.{IsNamed}
use Rattle.lsn_core.specs.Store.{Store, ForkPages}
use Rattle.lsn_core.specs.declared.ids.ForkId.{ForkId}
use Rattle.lsn_core.proofs.ForkOrder.{fork_cmp_total, fork_cmp-IsAntisymmetric}
use Rattle.wal_pages.proofs.Pieces.{range_add}
use Rattle.rel_files.proofs.SegmentFiles.{renamed}
use Rattle.incr_file.specs.Form.{pages_in_chain, form_in, whole_pages}
use Rattle.lsn_core.specs.Names.{fork_path_bytes}
use Rattle.chain_files.specs.Held.{most_pages, pages_taken, pages_up_to, is_full, IsForkOf, IsStoreOf}
use Rattle.chain_files.specs.Segments.{Segments, plain_segments, chain_segments}
use Rattle.backup_restore.specs.Directories.{FilesHoldOneStore, AlikeFilesHoldOneStore, DirectoriesAreCombinedToThemselves, PlainDirectoriesAreChains, AreAlike}

-- ---- a fork

pub long_taken : (relseg : ℕ) (found : Option ForkPages) → length (pages_taken relseg found) ≤ relseg
long_taken relseg None = omega arith
long_taken relseg (Some pages) = (let long = length-take relseg pages in omega (arith, long))

module _ (relseg : ℕ) (segments : ℕ → Option ForkPages) where
  -- the pages of more files begin with those of fewer
  pub up_to_longer : (count more : ℕ) → pages_up_to relseg segments (count + more) ≡ pages_up_to relseg segments count ++ flat_map (λ seg. pages_taken relseg (segments seg)) (range_with_len count more)
  up_to_longer count more =
      ap (flat_map (λ seg. pages_taken relseg (segments seg))) (sym (range_add 0 count more count (omega arith)))
      ∙ flat_map-append (λ seg. pages_taken relseg (segments seg)) (range_with_len 0 count) (range_with_len count more)

  pub up_to_more : (count : ℕ) → pages_up_to relseg segments (count + 1) ≡ pages_up_to relseg segments count ++ pages_taken relseg (segments count)
  up_to_more count =
      up_to_longer count 1 ∙ ap (λ (l : ForkPages). pages_up_to relseg segments count ++ l) (append-nil (pages_taken relseg (segments count)))

  -- so where fewer have as many as are read, more have the same first ones
  first_ones : (few many : ℕ) → few ≤ many → most_pages ≤ length (pages_up_to relseg segments few) → take most_pages (pages_up_to relseg segments many) ≡ take most_pages (pages_up_to relseg segments few)
  first_ones few many le enough =
      ap (λ (n : ℕ). take most_pages (pages_up_to relseg segments n)) (let e : many ≡ few + (many - few) = omega (arith, le) in e)
      ∙ ap (take most_pages) (up_to_longer few (many - few))
      ∙ take-append-le most_pages (pages_up_to relseg segments few) (flat_map (λ seg. pages_taken relseg (segments seg)) (range_with_len few (many - few))) enough

  -- of two readings the one that stops first has all pages that are read
  stops_first : (one other : ForkPages) (a : IsForkOf relseg segments one) (b : IsForkOf relseg segments other) → a.full < b.full → one ≡ other
  stops_first one other a b less = elim a.stops [
    | inl short ↦ absurd (true≢false (sym (b.before a.full less) ∙ short))
    | inr enough ↦ a.are ∙ sym (first_ones (a.full + 1) (b.full + 1) (omega (arith, less)) enough) ∙ sym b.are
  ]

  one_fork : (one other : ForkPages) (a : IsForkOf relseg segments one) (b : IsForkOf relseg segments other) → (a.full ≡ b.full) ⊎ ((a.full < b.full) ⊎ (b.full < a.full)) → one ≡ other
  one_fork one other a b (inl same) = a.are ∙ ap (λ (n : ℕ). take most_pages (pages_up_to relseg segments (n + 1))) same ∙ sym b.are
  one_fork one other a b (inr (inl less)) = stops_first one other a b less
  one_fork one other a b (inr (inr less)) = sym (stops_first other one b a less)

  -- full files have as many pages as they may
  pub full_long : (found : Option ForkPages) → is_full relseg found ≡ true → length (pages_taken relseg found) ≡ relseg
  full_long None full = absurd (true≢false (sym full))
  full_long (Some pages) full = (let long = length-take relseg pages in let le : relseg ≤ length pages = leb-true relseg (length pages) full in omega (arith, long, le))

  pub all_full : (count : ℕ) → ((seg : ℕ) → seg < count → is_full relseg (segments seg) ≡ true) → length (pages_up_to relseg segments count) ≡ count * relseg
  all_full zero full = omega arith
  all_full (suc count) full =
      let more : suc count ≡ count + 1 = omega arith in
      let next : count * relseg + relseg ≡ suc count * relseg = omega arith in
      let rest = all_full count (λ seg less. full seg (omega (arith, less))) in
      let here = full_long (segments count) (full count (omega arith)) in
      ap (λ (n : ℕ). length (pages_up_to relseg segments n)) more
      ∙ ap length (up_to_more count)
      ∙ length-append (pages_up_to relseg segments count) (pages_taken relseg (segments count))
      ∙ omega (arith, rest, here, next)

-- ---- a store

module _ (relseg : ℕ) (segments : Segments) where
  there_too : (one other : Store) → IsStoreOf relseg segments one → IsStoreOf relseg segments other → (fork : ForkId) → contains_key one fork ≡ true → contains_key other fork ≡ true
  there_too one other a b fork there =
      let named = a.named fork there in
      b.forks fork named ∙ sym (a.forks fork named) ∙ there

  same_at : (one other : Store) → IsStoreOf relseg segments one → IsStoreOf relseg segments other → (fork : ForkId) (o p : Option ForkPages) → get one fork ≡ o → get other fork ≡ p → o ≡ p
  same_at one other a b fork None None is as_is = refl
  same_at one other a b fork None (Some q) is as_is = absurd (true≢false (sym (there_too other one b a fork (ap is_some as_is)) ∙ ap is_some is))
  same_at one other a b fork (Some p) None is as_is = absurd (true≢false (sym (there_too one other a b fork (ap is_some is)) ∙ ap is_some as_is))
  same_at one other a b fork (Some p) (Some q) is as_is =
      let x = a.pages fork p is in
      let y = b.pages fork q as_is in
      ap (λ (l : ForkPages). Some l) (one_fork relseg (segments fork) p q x y (cases_order x.full y.full))

pub one_store : FilesHoldOneStore
one_store relseg segments one other a b =
    same_map fork_cmp_total fork_cmp-IsAntisymmetric one other (λ fork. same_at relseg segments one other a b fork (get one fork) (get other fork) refl refl)

-- ---- alike files

-- up to a file, as far as they are alike
module _ (relseg : ℕ) (one other : ℕ → Option ForkPages) where
  abbrev AreSameBelow : ℕ → Type 0
  AreSameBelow count = (seg : ℕ) → seg < count → one seg ≡ other seg

  same_up_to : (count : ℕ) → AreSameBelow count → pages_up_to relseg one count ≡ pages_up_to relseg other count
  same_up_to zero same = refl
  same_up_to (suc count) same =
      let more : suc count ≡ count + 1 = omega arith in
      ap (pages_up_to relseg one) more ∙ up_to_more relseg one count
      ∙ ap (λ (l : ForkPages). l ++ pages_taken relseg (one count)) (same_up_to count (λ seg less. same seg (omega (arith, less))))
      ∙ ap (λ (o : Option ForkPages). pages_up_to relseg other count ++ pages_taken relseg o) (same count (omega arith))
      ∙ sym (up_to_more relseg other count) ∙ ap (pages_up_to relseg other) (sym more)

  -- a reading that stops where they are alike
  same_fork : (pages : ForkPages) (a : IsForkOf relseg one pages) → AreSameBelow (a.full + 1) → IsForkOf relseg other pages
  same_fork pages a same = record {
    full = a.full;
    before = λ seg less. ap (is_full relseg) (sym (same seg (omega (arith, less)))) ∙ a.before seg less;
    stops = elim a.stops [
      | inl short ↦ inl (ap (is_full relseg) (sym (same a.full (omega arith))) ∙ short)
      | inr enough ↦ inr (subst (λ (l : ForkPages). most_pages ≤ length l) (same_up_to (a.full + 1) same) enough)
    ];
    are = a.are ∙ ap (take most_pages) (same_up_to (a.full + 1) same);
  }

  -- one that goes past them has all pages that are read before
  past_fork : (pages : ForkPages) (count : ℕ) (a : IsForkOf relseg one pages) → count + 1 ≤ a.full → most_pages ≤ (count + 1) * relseg → AreSameBelow (count + 1) → IsForkOf relseg other pages
  past_fork pages count a past enough same =
      let long : length (pages_up_to relseg one (count + 1)) ≡ (count + 1) * relseg = all_full relseg one (count + 1) (λ seg less. a.before seg (omega (arith, less, past))) in
      let all : most_pages ≤ length (pages_up_to relseg one (count + 1)) = omega (arith, long, enough) in
      record {
        full = count;
        before = λ seg less. ap (is_full relseg) (sym (same seg (omega (arith, less)))) ∙ a.before seg (omega (arith, less, past));
        stops = inr (subst (λ (l : ForkPages). most_pages ≤ length l) (same_up_to (count + 1) same) all);
        are = a.are ∙ first_ones relseg one (count + 1) (a.full + 1) (omega (arith, past)) all ∙ ap (take most_pages) (same_up_to (count + 1) same);
      }

most_fit : (relseg count : ℕ) → 0 < relseg → count ≡ 4294967295 → most_pages ≤ (count + 1) * relseg
unfolding most_pages
most_fit relseg count some is =
    let least : (count + 1) * 1 ≤ (count + 1) * relseg = mul-le-mul_left (count + 1) (let le : 1 ≤ relseg = omega (arith, some) in le) in
    omega (arith, least, is)

module _ (relseg : ℕ) (one other : Segments) (some : 0 < relseg) (alike : AreAlike one other) where
  below_alike : (fork : ForkId) (count : ℕ) → IsNamed fork 0 → count ≤ 4294967296 → (seg : ℕ) → seg < count → one fork seg ≡ other fork seg
  below_alike fork count named fits seg below = alike fork seg (renamed fork 0 seg named (omega (arith, below, fits)))

  past_alike : (fork : ForkId) (pages : ForkPages) (count : ℕ) → count ≡ 4294967295 → IsNamed fork 0 → (a : IsForkOf relseg (one fork) pages) → count + 1 ≤ a.full → IsForkOf relseg (other fork) pages
  past_alike fork pages count is named a past =
      past_fork relseg (one fork) (other fork) pages count a past (most_fit relseg count some is) (below_alike fork (count + 1) named (omega (arith, is)))

  alike_fork : (fork : ForkId) (pages : ForkPages) → IsNamed fork 0 → IsForkOf relseg (one fork) pages → IsForkOf relseg (other fork) pages
  alike_fork fork pages named a = elim (cases_lt a.full 4294967296) [
    | inl less ↦ same_fork relseg (one fork) (other fork) pages a (below_alike fork (a.full + 1) named (omega (arith, less)))
    | inr past ↦ past_alike fork pages 4294967295 refl named a (omega (arith, past))
  ]

  pub alike_store : (store : Store) → IsStoreOf relseg one store → IsStoreOf relseg other store
  alike_store store a = record {
    named = a.named;
    forks = λ fork named. a.forks fork named ∙ ap is_some (alike fork 0 named);
    pages = λ fork pages there. alike_fork fork pages (a.named fork (ap is_some there)) (a.pages fork pages there);
  }

pub alike_hold : AlikeFilesHoldOneStore
alike_hold relseg one other store some alike a = alike_store relseg one other some alike store a

-- ---- a directory on its own

plain_form : (incr plain : Option (List ℕ)) → incr ≡ None → pages_in_chain (form_in incr plain ∷ []) ≡ option_map whole_pages plain
plain_form (Some bytes) plain none = absurd cc
plain_form None None none = refl
plain_form None (Some bytes) none = refl

pub plain_alike : DirectoriesAreCombinedToThemselves
plain_alike files none fork seg named =
    sym (plain_form (get files (fork_path_bytes fork seg true)) (get files (fork_path_bytes fork seg false)) (none fork seg named))

pub plain_is_chain : PlainDirectoriesAreChains
plain_is_chain relseg files store some none held =
    alike_store relseg (plain_segments files) (chain_segments (files ∷ [])) some (plain_alike files none) store held
