-- What is asked of an area that tells its files, taken together.
use Rattle.std.proofs.Common.{◌≡◌, ℕ, ◌<◌, Bool, true, List, [], ◌∷◌, length, get_or, Option, Some, None, IfSome, sym, subst, ◌∙◌, arith, inl, inr, suc}
use Rattle.std.specs.List.{list_any}
use Rattle.std.specs.FinMap.{keys, contains_key, contains_key-keys, slice_cmp-IsAntisymmetric, nat_cmp-IsAntisymmetric}
use Rattle.std.specs.Ordering.{nat_cmp, eq_by_cmp}
use Rattle.std.specs.Cmp.{Equal-is}
use Rattle.std.specs.Cmp.Lexicographic.{slice_cmp, nat_list_cmp_total}
use Rattle.std.proofs.lemmas.Cmp.{eq_by_cmp_equiv}
use Rattle.std.proofs.lemmas.Bool.{or_cases, and_parts, and_from}
use Rattle.std.proofs.lemmas.List.Folds.{list_any_at}
use Rattle.lsn_core.specs.Files.{Files}
use Rattle.lsn_core.specs.Names.{segment_name_bytes}
use Rattle.lsn_core.specs.Segment.{StoreSettings}
use Rattle.wal_archive.specs.Archive.{is_segment, has_segment}
use Rattle.wal_reader.specs.Names.{is_wal_name, HasNoOther}
use Rattle.wal_reader.specs.Settings.{HasSegment, IsLeastOf, IsSettingsOf}
use Rattle.wal_reader.specs.Inside.{IsNamedIn, TellsSettings, TellsSystem}

same_name : (x y : List ℕ) → eq_by_cmp (slice_cmp nat_cmp) x y ≡ true → x ≡ y
same_name x y e = slice_cmp-IsAntisymmetric nat_cmp-IsAntisymmetric x y ((Equal-is _).0 e)

-- one that passes a test stands at an index
any_at : (test : List ℕ → Bool) (names : List (List ℕ)) → list_any test names ≡ true → (i : ℕ) × (i < length names) × (test (get_or names i []) ≡ true)
any_at test [] e = absurd cc
any_at test (x ∷ names) e =
    elim (or_cases (test x) (list_any test names) e) [
      | inl here ↦ (0, omega arith, here)
      | inr later ↦ (let h = any_at test names later in (suc h.0, omega (arith, h.1), h.2))
    ]

-- a segment has a file exactly where its name is among the keys
has_named : (mib : ℕ) (m : Files) (seg : ℕ) → IsNamedIn mib (keys m) seg → HasSegment mib m seg
unfolding has_segment
has_named mib m seg is =
    let q = segment_name_bytes seg mib in
    let here : eq_by_cmp (slice_cmp nat_cmp) q (get_or (keys m) is.0 []) ≡ true = subst (λ (n : List ℕ). eq_by_cmp (slice_cmp nat_cmp) q n ≡ true) (sym is.2.named) ((eq_by_cmp_equiv nat_list_cmp_total).refl q) in
    and_from (is_segment seg) (contains_key m q) is.2.segment (contains_key-keys m q ∙ list_any_at (eq_by_cmp (slice_cmp nat_cmp) q) (keys m) is.0 [] is.1 here)

pub named_has : (mib : ℕ) (m : Files) (seg : ℕ) → HasSegment mib m seg → IsNamedIn mib (keys m) seg
unfolding has_segment
named_has mib m seg has =
    let q = segment_name_bytes seg mib in
    let both = and_parts (is_segment seg) (contains_key m q) has in
    let a = any_at (eq_by_cmp (slice_cmp nat_cmp) q) (keys m) (sym (contains_key-keys m q) ∙ both.1) in
    (a.0, a.1, record { segment = both.0; named = sym (same_name q (get_or (keys m) a.0 []) a.2) })

least_of_same : (P Q : ℕ → Type 0) (o : Option ℕ) → ((n : ℕ) → P n → Q n) → ((n : ℕ) → Q n → P n) → IsLeastOf P o → IsLeastOf Q o
least_of_same P Q None there back least = λ n q. least n (back n q)
least_of_same P Q (Some k) there back least = (there k least.0, λ n q. least.1 n (back n q))

pub are_settings : (files : Option Files) (names : List (List ℕ)) (told : Option (ℕ × ℕ)) (s : StoreSettings) (segment : Option ℕ) → list_any is_wal_name names ≡ true → told ≡ Some (s.segment, s.relseg) → HasNoOther s.segment names → IsLeastOf (IsNamedIn s.segment names) segment
    → IfSome files (λ m. names ≡ keys m) → TellsSettings files told → TellsSystem s.segment files segment s.system → IfSome files (λ m. IsSettingsOf m s)
are_settings None names told s segment wal numbers one least is tells system = tt
are_settings (Some m) names told s segment wal numbers one least is tells system = record {
  there = subst (λ (l : List (List ℕ)). list_any is_wal_name l ≡ true) is wal;
  given = rw numbers at tells;
  timeline = subst (HasNoOther s.segment) is one;
  system = record {
    segment = segment;
    least = least_of_same (IsNamedIn s.segment (keys m)) (HasSegment s.segment m) segment (has_named s.segment m) (named_has s.segment m) (subst (λ (l : List (List ℕ)). IsLeastOf (IsNamedIn s.segment l) segment) is least);
    identifier = system;
  };
}
