-- Files that hold two stores: each fork has the same number of whole pages in both.
use Rattle.std.proofs.Common.{◌≡◌, ℕ, ◌+◌, ◌-◌, ◌<◌, ◌≤◌, length, Option, Some, None, option_map, refl, ap, sym, subst, ◌∙◌, arith, inl, inr}
use Rattle.std.proofs.lemmas.Bool.{cases_lt}
use Rattle.std.specs.FinMap.{get}
use Rattle.lsn_core.specs.declared.ids.ForkId.{ForkId}
use Rattle.lsn_core.specs.Files.{Files}
use Rattle.lsn_core.specs.Store.{Store, ForkPages, segment_count, segment_content}
use Rattle.vault.specs.declared.area.Vault.{Ghosts}
use Rattle.rel_files.specs.Forks.{Holds, whole_pages}
use Rattle.rel_files.specs.Shown.{HoldAlike, whole_count}
use Rattle.rel_files.specs.declared.forks.Forks.{Forks}
use Rattle.rel_files.proofs.SegmentFiles.{renamed, count_fits, file_is_there, file_is_missing, fork_has_no_file, length_by_last}

module _ (relseg : ℕ) (files : Files) (some : 0 < relseg) where
  -- a fork that is there has its files in both
  most_files : (s t : Store) (fork : ForkId) (ps qs : ForkPages) → Holds relseg files s → Holds relseg files t → get s fork ≡ Some ps → get t fork ≡ Some qs → segment_count relseg (length ps) ≤ segment_count relseg (length qs)
  most_files s t fork ps qs hs ht es et = elim (cases_lt (segment_count relseg (length qs)) (segment_count relseg (length ps))) [
    | inl less ↦
        let seg = segment_count relseg (length qs) in
        let there = file_is_there relseg files s fork ps seg some hs es less in
        let fits = count_fits relseg (length ps) seg some less (hs.named fork ps es).seg_fits in
        let missing = file_is_missing relseg files t fork qs seg ht et fits (omega arith) in
        let no : None ≡ Some (segment_content relseg ps seg) = sym missing ∙ there in
        absurd cc
    | inr most ↦ most
  ]

  first_file : (n : ℕ) → 0 < segment_count relseg n
  first_file n = omega arith

  alike : (s t : Store) (fork : ForkId) → Holds relseg files s → Holds relseg files t → whole_count s fork ≡ whole_count t fork
  alike s t fork hs ht = by (get s fork) (get t fork) refl refl
    where
      count : Option ForkPages → Option ℕ
      count o = option_map (λ (pages : ForkPages). length (whole_pages pages)) o

      one_there : (a b : Store) (ps : ForkPages) → Holds relseg files a → Holds relseg files b → get a fork ≡ Some ps → get b fork ≡ None → ⊥
      one_there a b ps ha hb ea eb =
          let there = file_is_there relseg files a fork ps 0 some ha ea (first_file (length ps)) in
          let none = fork_has_no_file relseg files b fork 0 hb eb (renamed fork (length ps) 0 (ha.named fork ps ea) (omega arith)) in
          let no : None ≡ Some (segment_content relseg ps 0) = sym none ∙ there in
          cc

      both : (ps qs : ForkPages) → get s fork ≡ Some ps → get t fork ≡ Some qs → length (whole_pages ps) ≡ length (whole_pages qs)
      both ps qs es et =
          let k = segment_count relseg (length ps) - 1 in
          let one = first_file (length ps) in
          let most = most_files s t fork ps qs hs ht es et in
          let least = most_files t s fork qs ps ht hs et es in
          let is_s : segment_count relseg (length ps) ≡ k + 1 = omega (arith, one) in
          let is_t : segment_count relseg (length qs) ≡ k + 1 = omega (arith, one, most, least) in
          length_by_last relseg files s fork ps k some hs es is_s ∙ sym (length_by_last relseg files t fork qs k some ht et is_t)

      by : (o p : Option ForkPages) → get s fork ≡ o → get t fork ≡ p → whole_count s fork ≡ whole_count t fork
      by None None es et = ap (λ (o : Option ForkPages). option_map (λ (pages : ForkPages). length (whole_pages pages)) o) (es ∙ sym et)
      by (Some ps) None es et = absurd (one_there s t ps hs ht es et)
      by None (Some qs) es et = absurd (one_there t s qs ht hs et es)
      by (Some ps) (Some qs) es et =
          ap (λ (o : Option ForkPages). option_map (λ (pages : ForkPages). length (whole_pages pages)) o) es
          ∙ ap (λ (n : ℕ). Some n) (both ps qs es et)
          ∙ sym (ap (λ (o : Option ForkPages). option_map (λ (pages : ForkPages). length (whole_pages pages)) o) et)

pub hold_alike : {V : Type 0} (g : Ghosts V) (forks : Forks V) → 0 < forks.relseg → HoldAlike g forks
hold_alike g forks some s t held told = record {
  files = told;
  known = λ fork blocks is.
      let same : held.files.files ≡ told.files = let both : Some held.files.files ≡ Some told.files = sym held.files.are_told ∙ told.are_told in cc in
      alike forks.relseg told.files some t s fork told.hold (subst (λ (f : Files). Holds forks.relseg f s) same held.files.hold) ∙ held.known fork blocks is;
}
