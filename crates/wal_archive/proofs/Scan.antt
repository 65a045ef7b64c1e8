-- The ends of the archive, found by a scan over the names of the files.
use Rattle.std.proofs.Common.{◌≡◌, ℕ, suc, ◌<◌, ◌≤◌, Bool, true, List, [], ◌∷◌, length, get_or, sym, ◌∙◌, arith, inl, inr}
use Rattle.std.specs.Prelude.{is_some}
use Rattle.std.specs.List.{list_any}
use Rattle.std.specs.FinMap.{get, keys, contains_key-keys}
use Rattle.std.specs.Ordering.{nat_cmp, eq_by_cmp}
use Rattle.std.specs.Cmp.Lexicographic.{slice_cmp}
use Rattle.std.proofs.lemmas.Bool.{cases_lt, or_cases}
use Rattle.lsn_core.specs.Files.{Files}
use Rattle.lsn_core.specs.Sizes.{most_segments}
use Rattle.lsn_core.specs.Names.{segment_name_bytes}
use Rattle.wal_archive.specs.Archive.{held_in, nonzero_end, end_at, greatest, top_of, mark_of}
use Rattle.wal_archive.specs.Scanning.{IsScanned}
use Rattle.wal_archive.proofs.Files.{greatest_least, greatest_one, there, nonzero_there, end_at_pos}
use Rattle.wal_archive.proofs.Writes.{same_name, segment_by}

-- a name that is there stands at an index of the names
any_at : (test : List ℕ → Bool) (names : List (List ℕ)) → list_any test names ≡ true
    → (i : ℕ) × (i < length names) × (test (get_or names i []) ≡ true)
any_at test [] e = absurd cc
any_at test (x ∷ names) e =
    elim (or_cases (test x) (list_any test names) e) [
      | inl here ↦ (0, omega arith, here)
      | inr later ↦ (let h = any_at test names later in (suc h.0, omega (arith, h.1), h.2))
    ]

pub name_at : (m : Files) (q : List ℕ) → is_some (get m q) ≡ true
    → (i : ℕ) × (i < length (keys m)) × (get_or (keys m) i [] ≡ q)
name_at m q e =
    let a = any_at (eq_by_cmp (slice_cmp nat_cmp) q) (keys m) (sym (contains_key-keys m q) ∙ e) in
    (a.0, a.1, sym (same_name q (get_or (keys m) a.0 []) a.2))

-- after all names are scanned the greatest end is at most x
scanned : (mib : ℕ) (m : Files) (x : ℕ) (f : ℕ → ℕ)
    → ((s : ℕ) → 0 < f s → 0 < length (held_in mib m s))
    → ((i : ℕ) → i < length (keys m) → IsScanned f mib x (get_or (keys m) i []))
    → greatest f most_segments ≤ x
scanned mib m x f held all =
    elim (cases_lt x (greatest f most_segments)) [
      | inr le ↦ le
      | inl lt ↦
          let g = greatest_one f most_segments (omega (arith, lt)) in
          let h = held g.0 (omega (arith, g.1, lt)) in
          let n = name_at m (segment_name_bytes g.0 mib) (there mib m g.0 h) in
          let le = all n.0 n.1 g.0 (segment_by g.0 g.2 g.3) n.2 in
          absurd (omega (arith, le, g.1, lt))
    ]

-- a segment that reaches past x shows that the greatest end does
reaches : (x : ℕ) (f : ℕ → ℕ) (s : ℕ) → 1 ≤ s → s ≤ most_segments → x < f s
    → x < greatest f most_segments
reaches x f s lo hi lt = (let g = greatest_least f most_segments s lo hi in omega (arith, g, lt))

pub top_scanned : (mib : ℕ) (m : Files) (x : ℕ)
    → ((i : ℕ) → i < length (keys m)
    → IsScanned (λ s. end_at mib s (length (held_in mib m s))) mib x (get_or (keys m) i []))
    → top_of mib m ≤ x
unfolding top_of
top_scanned mib m x all = scanned mib m x (λ s. end_at mib s (length (held_in mib m s)))
    (λ s pos. (end_at_pos mib s (length (held_in mib m s)) pos).0) all

pub mark_scanned : (mib : ℕ) (m : Files) (x : ℕ)
    → ((i : ℕ) → i < length (keys m)
    → IsScanned (λ s. end_at mib s (nonzero_end (held_in mib m s))) mib x (get_or (keys m) i []))
    → mark_of mib m ≤ x
unfolding mark_of
mark_scanned mib m x all = scanned mib m x (λ s. end_at mib s (nonzero_end (held_in mib m s)))
    (λ s pos. (let p = end_at_pos mib s (nonzero_end (held_in mib m s)) pos in
    let n = nonzero_there (held_in mib m s) p.0 in omega (arith, n.0, p.0))) all

pub top_reached : (mib : ℕ) (m : Files) (x s : ℕ) → 1 ≤ s → s ≤ most_segments
    → x < end_at mib s (length (held_in mib m s)) → x < top_of mib m
unfolding top_of
top_reached mib m x s lo hi lt = reaches x (λ s. end_at mib s (length (held_in mib m s))) s lo hi lt

pub mark_reached : (mib : ℕ) (m : Files) (x s : ℕ) → 1 ≤ s → s ≤ most_segments
    → x < end_at mib s (nonzero_end (held_in mib m s)) → x < mark_of mib m
unfolding mark_of
mark_reached mib m x s lo hi lt = reaches x (λ s. end_at mib s (nonzero_end (held_in mib m s))) s lo
    hi lt
