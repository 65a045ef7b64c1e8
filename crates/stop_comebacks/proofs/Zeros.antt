-- Behind the last entry of a WAL, where only zeros stand, nothing passes for an entry.
use Rattle.std.proofs.Common.{◌≡◌, ℕ, ◌+◌, ◌<◌, ◌≤◌, inl, inr, List, [], ◌∷◌, get_or, Some, sym, ap, ◌∙◌, arith}
use Rattle.std.specs.Prelude.{Ok}
use Rattle.std.specs.List.{All}
use Rattle.std.proofs.lemmas.Bool.{cases_lt}
use Rattle.std.proofs.lemmas.List.Elements.{All-nil, All-cons}
use Rattle.lsn_core.specs.Tip.{Tip}
use Rattle.wal_pages.specs.Places.{place, start_after}
use Rattle.wal_pages.proofs.Splits.{flat_on, place_flat, head_on}
use Rattle.wal_record.specs.Tips.{tip_after}
use Rattle.wal_record.specs.declared.record.Record.{Record}
use Rattle.wal_archive.specs.Archive.{Archive}
use Rattle.wal_archive.specs.Rules.{Judge, next_bytes}
use Rattle.wal_archive.specs.Stands.{IsEnd, Stands}
use Rattle.wal_archive.specs.Writing.{IsChain}
use Rattle.wal_archive.proofs.Next.{Start, start_of, next_stands}
use Rattle.wal_archive.proofs.Chain.{ending_of}
use Rattle.survivor_laws.specs.Survivors.{FailsTests}

module _ (a : Archive) (mib system e : ℕ) (some : 1 ≤ mib) (end : IsEnd mib e) (zeros : (x b : ℕ) → a.byte x ≡ Some b → 0 < b → x < start_after mib e) where
  s : Start mib e
  s = start_of mib e some end

  -- the first bytes of an entry are held where it starts
  held : (bytes : List ℕ) → Stands a mib system e bytes → (i : ℕ) → i < 4 → a.byte (s.start + i) ≡ Some (get_or bytes i 0)
  held bytes st i less =
      let four = s.four in
      let least = st.least in
      ap a.byte (sym (ap (place mib) (sym (flat_on mib s.start i some s.behind (omega (arith, less, four)) ∙ ap (λ k. k + i) s.flat)) ∙ place_flat mib (s.start + i) some (head_on mib s.start i some s.behind (omega (arith, less, four)))))
      ∙ st.flat i (omega (arith, less, least))

  none : (bytes : List ℕ) → Stands a mib system e bytes → (i : ℕ) → i < 4 → get_or bytes i 0 ≡ 0
  none bytes st i less =
      elim (cases_lt 0 (get_or bytes i 0)) [
        | inl more ↦
            let is = s.is in
            let before = zeros (s.start + i) (get_or bytes i 0) (held bytes st i less) more in
            absurd (omega (arith, before, is))
        | inr le ↦ omega (arith, le)
      ]

  pub nothing_stands : (bytes : List ℕ) → next_bytes a mib system e ≡ Ok (Some bytes) → ⊥
  nothing_stands bytes read =
      let st = next_stands a mib system e bytes some end read in
      let b0 = none bytes st 0 (omega arith) in
      let b1 = none bytes st 1 (omega arith) in
      let b2 = none bytes st 2 (omega arith) in
      let b3 = none bytes st 3 (omega arith) in
      let total = st.total in
      let least = st.least in
      omega (arith, total, least, b0, b1, b2, b3)

pub zeros_fail : (judge : Judge) (a : Archive) (mib system : ℕ) (tip : Tip) → 1 ≤ mib → IsEnd mib tip.end → ((x b : ℕ) → a.byte x ≡ Some b → 0 < b → x < start_after mib tip.end) → FailsTests judge mib system a tip
zeros_fail judge a mib system tip some end zeros bytes read passes = absurd (nothing_stands a mib system tip.end some end zeros bytes read)

-- entries that stand one behind the other end past the tip before them
pub chain_ends : (judge : Judge) (mib flushed : ℕ) (tip last : Tip) (rs : List Record) → 1 ≤ mib → IsEnd mib tip.end → flushed ≤ tip.end → IsChain judge mib tip rs last → All (λ r. flushed < r.end.0) rs
chain_ends judge mib flushed tip last [] some end le chain = All-nil (λ (r : Record). flushed < r.end.0)
chain_ends judge mib flushed tip last (r ∷ rs) some end le chain =
    let behind = ending_of judge mib tip r some end chain.0 in
    let later = behind.later in
    All-cons (λ (x : Record). flushed < x.end.0) r rs (omega (arith, later, le)) (chain_ends judge mib flushed (tip_after tip r) last rs some behind.is_end (omega (arith, later, le)) chain.1)
