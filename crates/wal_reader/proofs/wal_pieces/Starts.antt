-- What stands behind an end is what stands at the place where its entry starts.
use Rattle.std.proofs.Common.{◌≡◌, ℕ, ◌+◌, ◌-◌, ◌/◌, ◌%◌, ◌≤◌, Bool, true, false, not, ◌&&◌, ◌||◌, leb, List, length, Some, refl, sym, subst, ap, ◌∙◌, arith, inl}
use Rattle.std.specs.Prelude.{Ok, nat_le, ◌==◌}
use Rattle.std.proofs.lemmas.Bool.{and_from, le-leb, eq-eqb}
use Rattle.lsn_core.specs.Segment.{segment_bytes}
use Rattle.wal_pages.specs.Places.{place, head_size, IsBehindHead, start_after, stop_of}
use Rattle.wal_pages.specs.Spread.{still_to_come}
use Rattle.wal_pages.proofs.Splits.{stop_is, start_behind}
use Rattle.wal_archive.specs.Archive.{Archive, IsArchive}
use Rattle.wal_archive.specs.Rules.{entry_at, ends_at, first_head, next_bytes, set_heads, set_bytes}
use Rattle.wal_archive.specs.Stands.{HasHead, Stands}
use Rattle.wal_archive.proofs.Runs.{ok, ok_bind}
use Rattle.wal_archive.proofs.Next.{Start, stands_next, else_of, none_is_none, err_is_err, same_some}

-- an entry that stands behind an end stands behind its own start
pub stands_at_start : (a : Archive) (mib system e : ℕ) (bytes : List ℕ) (s : Start mib e) → Stands a mib system e bytes → Stands a mib system s.start bytes
stands_at_start a mib system e bytes s st = record {
  total = st.total;
  least = st.least;
  most = st.most;
  flat = λ i lt. ap (λ (n : ℕ). a.byte (place mib (n + i))) s.flat ∙ st.flat i lt;
  heads = λ p start from below.
      let stop : stop_of mib s.start (length bytes) ≡ stop_of mib e (length bytes) =
      stop_is mib s.start (length bytes) ∙ ap (λ (n : ℕ). place mib (n + length bytes - 1) + 1) s.flat ∙ sym (stop_is mib e (length bytes)) in
      subst (λ (n : ℕ). HasHead a mib system p (still_to_come mib n (length bytes) p)) (sym s.flat)
      (st.heads p start (omega (arith, from, s.later)) (omega (arith, below, stop)));
}

no_either : (b c : Bool) → (b || c) ≡ false → b ≡ false
no_either true c e = absurd cc
no_either false c e = refl

-- where the heads pass, a cursor that is set where an entry starts reads it
pub set_reads : (a : Archive) (mib system from : ℕ) (bytes : List ℕ) → 1 ≤ mib → IsArchive mib a → from % 8 ≡ 0 → IsBehindHead mib from → Stands a mib system from bytes → set_heads a mib system from ≡ Ok 0 → set_bytes a mib system from ≡ Ok (Some bytes)
unfolding next_bytes set_bytes ends_at
set_reads a mib system from bytes some arch eight behind st heads =
    let next = stands_next a mib system from bytes some arch (eight, inl behind) st in
    let c1 = else_of _ _ _ _ next (none_is_none bytes) in
    let c2 = else_of _ _ _ _ c1.1 (err_is_err _ (Some bytes)) in
    let c3 = else_of _ _ _ _ c2.1 (none_is_none bytes) in
    let top : leb a.top from ≡ false = c1.0 in
    let file : not (a.has_file (from / segment_bytes mib)) ≡ false = c2.0 in
    let mark : leb a.mark from ≡ false = no_either (leb a.mark from) _ c3.0 in
    let h = ok_bind (first_head a mib system from) _ (Some bytes) c3.1 in
    let t = ok_bind (entry_at a mib system (start_after mib from)) _ (Some bytes) h.2 in
    let entry : entry_at a mib system from ≡ Ok bytes = ap (entry_at a mib system) (sym (start_behind mib from some behind)) ∙ t.1 ∙ ap ok (same_some t.0 bytes t.2) in
    let may : ((from % 8 == 0) && nat_le (head_size mib from) (from % 8192)) ≡ true = and_from _ _ (eq-eqb _ _ eight) (le-leb _ _ behind) in
    rw (may, top, file, mark, heads, entry) refl
