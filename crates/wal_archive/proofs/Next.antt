-- What the reading rules give behind an end is just the entry that stands there.
use Rattle.std.proofs.Common.{◌≡◌, ℕ, ◌+◌, ◌-◌, ◌/◌, ◌%◌, ◌<◌, ◌≤◌, Bool, true, false, cond, leb, eqb, List, length, get_or, take, Option, Some, None, refl, sym, ap, subst, ◌∙◌, arith, inl, inr}
use Rattle.std.specs.Prelude.{Result, Ok, Err}
use Rattle.std.proofs.lemmas.Bool.{cases_lt, cases_eq, lt-ltb, le-ltb, le-leb, lt-leb, leb-true, cond-true, cond-false, ne_eqb, eq-eqb, and_from, and_parts}
use Rattle.std.proofs.lemmas.List.{length-take, length-take-le, get_or-take}
use Rattle.lsn_core.specs.byte_words.Numbers.{u32_in}
use Rattle.lsn_core.specs.Segment.{segment_bytes}
use Rattle.wal_pages.specs.Places.{place, flat_before, head_size, IsBehindHead, start_after, stop_of}
use Rattle.wal_pages.specs.Spread.{still_to_come}
use Rattle.wal_pages.proofs.Splits.{page_passed, place_behind, head_eight, flat_on, flat_head, place_flat, place_le, place_after, flat_rises, head_bounds, head_on, head_behind, start_behind, start_page, stop_is}
use Rattle.wal_archive.specs.Archive.{Archive, IsArchive, Extends}
use Rattle.wal_archive.specs.declared.fault.Damage.{Damage}
use Rattle.wal_archive.specs.Rules.{bytes_at, head_at, entry_bytes, is_total, entry_at, ends_at, first_head, next_bytes}
use Rattle.wal_archive.specs.Stands.{HasHead, IsEnd, Stands}
use Rattle.wal_archive.proofs.Runs.{Holds, bytes_held, held_bytes, ok, ok_bind}
use Rattle.wal_archive.proofs.Walk.{head_again, head_held, HasFlat, HasHeads, run_of_flat, walk_reads, reads_walk}

-- the number at the front reads the first four bytes
front_take : (l : List ℕ) → u32_in (take 4 l) 0 ≡ u32_in l 0
front_take l = omega (
  arith,
  get_or-take 4 l 0 0 (omega arith),
  get_or-take 4 l 1 0 (omega arith),
  get_or-take 4 l 2 0 (omega arith),
  get_or-take 4 l 3 0 (omega arith),
)

some_byte : (l : List ℕ) → 24 ≤ u32_in l 0 → (i : ℕ) × (i < 4) × (0 < get_or l i 0)
some_byte l e =
    elim (cases_lt 0 (get_or l 0 0)) [
      | inl lt ↦ (0, omega arith, lt)
      | inr z0 ↦
          elim (cases_lt 0 (get_or l 1 0)) [
            | inl lt ↦ (1, omega arith, lt)
            | inr z1 ↦
                elim (cases_lt 0 (get_or l 2 0)) [
                  | inl lt ↦ (2, omega arith, lt)
                  | inr z2 ↦
                      elim (cases_lt 0 (get_or l 3 0)) [
                        | inl lt ↦ (3, omega arith, lt)
                        | inr z3 ↦ absurd (omega (arith, e, z0, z1, z2, z3))
                      ]
                ]
          ]
    ]

pub still_later : (mib first total p : ℕ) → first < flat_before mib p
    → still_to_come mib first total p ≡ first + total - flat_before mib p
still_later mib first total p lt = cond-true _ _ _ (lt-ltb _ _ lt)

pub still_first : (mib first total p : ℕ) → flat_before mib p ≤ first
    → still_to_come mib first total p ≡ 0
still_first mib first total p le = cond-false _ _ _ (le-ltb _ _ le)

-- where an entry starts behind an end
pub record Start (mib e : ℕ) : Type 0 where
  pub start : ℕ
  pub is : start_after mib e ≡ start
  pub behind : IsBehindHead mib start
  pub flat : flat_before mib start ≡ flat_before mib e
  pub later : e ≤ start
  pub eight : start % 8 ≡ 0
  pub four : start % 8192 + 4 ≤ 8192
  pub page : e % 8192 ≡ 0 → start ≡ e + head_size mib e
  pub same : (e % 8192 ≡ 0 → ⊥) → start ≡ e

pub start_of : (mib e : ℕ) → 1 ≤ mib → IsEnd mib e → Start mib e
start_of mib e some end =
    let b = head_bounds mib e in
    elim (end.1) [
      | inl behind ↦ record {
        start = e;
        is = start_behind mib e some behind;
        behind = behind;
        flat = refl;
        later = omega arith;
        eight = end.0;
        four = omega (arith, end.0);
        page = λ z. absurd (omega (arith, z, behind, b.0));
        same = λ ne. refl;
      }
      | inr start ↦ record {
        start = e + head_size mib e;
        is = start_page mib e some start;
        behind = head_behind mib e some start;
        flat = flat_head mib e (head_size mib e) some start (omega arith);
        later = omega arith;
        eight = omega (arith, start, head_eight mib e);
        four = omega (arith, start, b.1);
        page = λ z. refl;
        same = λ ne. absurd (ne start);
      }
    ]

-- the walk behind an end where its entry stands
entry_again : (a : Archive) (mib system e : ℕ) (bytes : List ℕ) → 1 ≤ mib → (s : Start mib e)
    → Stands a mib system e bytes → entry_at a mib system s.start ≡ Ok bytes
unfolding entry_at
entry_again a mib system e bytes some s st =
    let total : ℕ = length bytes in
    let flat : HasFlat a mib (flat_before mib s.start) bytes = λ i lt.
    ap (λ n. a.byte (place mib (n + i))) s.flat ∙ st.flat i lt in
    let heads : HasHeads a mib system s.start total = λ p start from below.
    let b = head_bounds mib s.start in
    let over : s.start < p = elim (cases_lt s.start p)
    [ inl lt ↦ lt | inr le ↦ absurd (omega (arith, le, from, start, s.behind, b.0)) ] in
    let rises = flat_rises mib s.start p some s.behind over in
    let within : p < stop_of mib e total =
    subst (λ n. p < n) (ap (λ n. place mib (n + total - 1) + 1) s.flat
    ∙ sym (stop_is mib e total)) below in
    subst (λ n. HasHead a mib system p n)
    (still_later mib (flat_before mib e) total p (omega (arith, rises, s.flat))
    ∙ ap (λ n. n + total - flat_before mib p) (sym s.flat))
    (st.heads p start (omega (arith, from, s.later)) within) in
    let walk : entry_bytes a mib system s.start total s.start total ≡ Ok bytes =
    walk_reads a mib system s.start total s.start total bytes some s.behind refl (omega arith)
    flat heads in
    let four : length (take 4 bytes) ≡ 4 = length-take-le 4 bytes (omega (arith, st.least)) in
    let flat_four : HasFlat a mib (flat_before mib s.start) (take 4 bytes) = λ i lt.
    flat i (omega (arith, lt, four, st.least))
    ∙ ap Some (sym (get_or-take 4 bytes i 0 (omega (arith, lt, four)))) in
    let len : bytes_at a mib s.start s.start 4 ≡ Ok (take 4 bytes) =
    bytes_held a mib s.start s.start 4 (take 4 bytes) four
    (run_of_flat a mib s.start 4 (take 4 bytes) some s.behind four s.four flat_four) in
    let number : u32_in (take 4 bytes) 0 ≡ total = front_take bytes ∙ st.total in
    let test : is_total total ≡ true = and_from _ _ (le-leb _ _ st.least) (le-leb _ _ st.most) in
    rw (len, number, test) walk

-- where an entry stands behind an end, it is read
pub stands_next : (a : Archive) (mib system e : ℕ) (bytes : List ℕ) → 1 ≤ mib → IsArchive mib a
    → IsEnd mib e → Stands a mib system e bytes → next_bytes a mib system e ≡ Ok (Some bytes)
unfolding next_bytes ends_at
stands_next a mib system e bytes some arch end st =
    let s = start_of mib e some end in
    let b = head_bounds mib e in
    let n = some_byte bytes (omega (arith, st.total, st.least)) in
    let at : a.byte (s.start + n.0) ≡ Some (get_or bytes n.0 0) =
    ap a.byte (sym (ap (place mib)
    (sym (flat_on mib s.start n.0 some s.behind (omega (arith, n.1, s.four))
    ∙ ap (λ k. k + n.0) s.flat)) ∙ place_flat mib (s.start + n.0) some
    (head_on mib s.start n.0 some s.behind (omega (arith, n.1, s.four)))))
    ∙ st.flat n.0 (omega (arith, n.1, st.least)) in
    let marked = arch.marked (s.start + n.0) (get_or bytes n.0 0) at n.2 in
    let topped = arch.held (s.start + n.0) (get_or bytes n.0 0) at in
    let top : leb a.top e ≡ false = lt-leb _ _ (omega (arith, topped, s.later)) in
    let mark : leb a.mark e ≡ false = lt-leb _ _ (omega (arith, marked, s.later)) in
    let entry : entry_at a mib system (start_after mib e) ≡ Ok bytes =
    ap (entry_at a mib system) s.is ∙ entry_again a mib system e bytes some s st in
    elim (cases_eq (e % 8192) 0) [
      | inl page ↦
          let eq : eqb (e % 8192) 0 ≡ true = eq-eqb _ _ page in
          let stop : e < stop_of mib e (length bytes) =
          (let r = place_le mib (flat_before mib e) (flat_before mib e + length bytes - 1) some
          (omega (arith, st.least)) in let q = place_after mib e some in
          omega (arith, r, q, stop_is mib e (length bytes))) in
          let hd = subst (λ k. HasHead a mib system e k)
          (still_first mib (flat_before mib e) (length bytes) e (omega arith))
          (st.heads e page (omega arith) stop) in
          let head = head_again a mib system e e 0 hd in
          let file : a.has_file (e / segment_bytes mib) ≡ true =
          arch.filed e _ (ap a.byte (let z : e ≡ e + 0 = omega arith in z)
          ∙ hd.held 0 (omega (arith, b.0))) in
          let behind : leb a.mark (e + head_size mib e) ≡ false =
          lt-leb _ _ (omega (arith, marked, s.page page)) in
          rw (top, file, mark, eq, head.1, behind, entry) refl
      | inr ne ↦
          let eq : eqb (e % 8192) 0 ≡ false = ne_eqb _ _ ne in
          let here : s.start ≡ e = s.same ne in
          let file : a.has_file (e / segment_bytes mib) ≡ true =
          arch.filed e (get_or bytes 0 0)
          (ap a.byte (let z : e ≡ s.start = omega (arith, here) in
          z ∙ sym (place_flat mib s.start some s.behind)
          ∙ ap (place mib) (let z : flat_before mib s.start ≡ flat_before mib e + 0 =
          omega (arith, s.flat) in z)) ∙ st.flat 0 (omega (arith, st.least))) in
          rw (top, file, mark, eq, entry) refl
    ]

-- a test that failed, since what it would have given is no answer
pub else_of : {A : Type 0} (b : Bool) (x y z : A) → cond b x y ≡ z → (x ≡ z → ⊥)
    → (b ≡ false) × (y ≡ z)
else_of true x y z e no_x = absurd (no_x e)
else_of false x y z e no_x = (refl, e)

pub then_of : {A : Type 0} (b : Bool) (x y z : A) → cond b x y ≡ z → (y ≡ z → ⊥)
    → (b ≡ true) × (x ≡ z)
then_of true x y z e no_y = (refl, e)
then_of false x y z e no_y = absurd (no_y e)

pub none_is_none : (bytes : List ℕ)
    → ◌≡◌ {A = Result (Option (List ℕ)) Damage} (Ok None) (Ok (Some bytes)) → ⊥
none_is_none bytes e = absurd cc

pub err_is_err : {A : Type 0} (d : Damage) (x : A) → ◌≡◌ {A = Result A Damage} (Err d) (Ok x) → ⊥
err_is_err d x e = absurd cc

pub same_some : (x y : List ℕ)
    → ◌≡◌ {A = Result (Option (List ℕ)) Damage} (Ok (Some x)) (Ok (Some y)) → x ≡ y
same_some x y e = cc

pub same_value : (x y : ℕ) → ◌≡◌ {A = Option ℕ} (Some x) (Some y) → x ≡ y
same_value x y e = cc

-- what the rules read behind an end stands there
pub next_stands : (a : Archive) (mib system e : ℕ) (bytes : List ℕ) → 1 ≤ mib → IsEnd mib e
    → next_bytes a mib system e ≡ Ok (Some bytes) → Stands a mib system e bytes
unfolding next_bytes entry_at
next_stands a mib system e bytes some end eq =
    let s = start_of mib e some end in
    let c1 = else_of _ _ _ _ eq (none_is_none bytes) in
    let c2 = else_of _ _ _ _ c1.1 (err_is_err _ (Some bytes)) in
    let c3 = else_of _ _ _ _ c2.1 (none_is_none bytes) in
    let h = ok_bind (first_head a mib system e) _ (Some bytes) c3.1 in
    let t = ok_bind (entry_at a mib system (start_after mib e)) _ (Some bytes) h.2 in
    let is : t.0 ≡ bytes = same_some t.0 bytes t.2 in
    let entry : entry_at a mib system s.start ≡ Ok bytes = ap (entry_at a mib system) (sym s.is)
    ∙ t.1 ∙ ap ok is in
    let f = ok_bind (bytes_at a mib s.start s.start 4) _ bytes entry in
    let len : List ℕ = f.0 in
    let total : ℕ = u32_in len 0 in
    let good = then_of _ _ _ _ f.2 (err_is_err _ bytes) in
    let range = and_parts _ _ good.0 in
    let least : 24 ≤ total = leb-true _ _ range.0 in
    let most : total ≤ 4194304 = leb-true _ _ range.1 in
    let w = reads_walk a mib system s.start total s.start total bytes some s.behind
    (omega (arith, least)) (omega arith) good.1 in
    let run = held_bytes a mib s.start s.start 4 len f.1 in
    let front : Holds a s.start (take 4 bytes) =
    run_of_flat a mib s.start 4 (take 4 bytes) some s.behind
    (length-take-le 4 bytes (omega (arith, w.len, least))) s.four
    (λ i lt. w.flat i (omega (arith, lt, length-take 4 bytes))
    ∙ ap Some (sym (get_or-take 4 bytes i 0 (omega (arith, lt, length-take 4 bytes))))) in
    let four : length (take 4 bytes) ≡ 4 = length-take-le 4 bytes (omega (arith, w.len, least)) in
    let at : (i : ℕ) → i < 4 → get_or len i 0 ≡ get_or bytes i 0 = λ i lt.
    same_value _ _ (sym (run.held i (omega (arith, lt, run.len)))
    ∙ front i (omega (arith, lt, four))) ∙ get_or-take 4 bytes i 0 lt in
    let number : u32_in bytes 0 ≡ total =
    omega (
      arith,
      at 0 (omega arith),
      at 1 (omega arith),
      at 2 (omega arith),
      at 3 (omega arith),
    ) in
    record {
      total = number ∙ sym w.len;
      least = omega (arith, w.len, least);
      most = omega (arith, w.len, most);
      flat = λ i lt. ap (λ n. a.byte (place mib (n + i))) (sym s.flat) ∙ w.flat i lt;
      heads = λ p start from below.
          elim (cases_eq e p) [
            | inl here ↦
                let page : eqb (e % 8192) 0 ≡ true = eq-eqb _ _ (omega (arith, start, here)) in
                let head : head_at a mib system e e (Some 0) ≡ Ok h.0 = sym (cond-true _ _ _ page)
                ∙ h.1 in
                subst (λ n. HasHead a mib system n
                (still_to_come mib (flat_before mib e) (length bytes) n)) here
                (subst (λ n. HasHead a mib system e n)
                (sym (still_first mib (flat_before mib e) (length bytes) e (omega arith)))
                (head_held a mib system e e 0 h.0 head))
            | inr ne ↦
                let b = head_bounds mib e in
                let over : e < p = elim (cases_lt e p)
                [ inl lt ↦ lt | inr le ↦ absurd (ne (omega (arith, le, from))) ] in
                let over_start : s.start < p =
                elim (cases_eq (e % 8192) 0) [
                  | inl page ↦
                      omega (arith, s.page page, over, start, page, b.1)
                  | inr np ↦ omega (arith, s.same np, over)
                ] in
                let rises = flat_rises mib s.start p some s.behind over_start in
                let within : p < place mib (flat_before mib s.start + total - 1) + 1 =
                subst (λ n. p < n) (stop_is mib e (length bytes)
                ∙ ap (λ n. place mib (n + length bytes - 1) + 1) (sym s.flat)
                ∙ ap (λ n. place mib (flat_before mib s.start + n - 1) + 1) w.len) below in
                subst (λ n. HasHead a mib system p n)
                (ap (λ n. n + total - flat_before mib p) s.flat
                ∙ ap (λ n. flat_before mib e + n - flat_before mib p) (sym w.len)
                ∙ sym (still_later mib (flat_before mib e) (length bytes) p
                (omega (arith, rises, s.flat))))
                (w.heads p start (omega (arith, over_start)) within)
          ];
    }

pub stands_extended : (a new : Archive) (mib system e limit : ℕ) (bytes : List ℕ) → 1 ≤ mib
    → stop_of mib e (length bytes) ≤ limit → Extends a new limit → Stands a mib system e bytes
    → Stands new mib system e bytes
stands_extended a new mib system e limit bytes some within more st = record {
  total = st.total;
  least = st.least;
  most = st.most;
  flat = λ i lt. more _ _ (let r =
      place_le mib (flat_before mib e + i) (flat_before mib e + length bytes - 1) some
      (omega (arith, lt)) in omega (arith, r, within, stop_is mib e (length bytes))) (st.flat i lt);
  heads = λ p start from below.
      let h = st.heads p start from below in
      let b = head_bounds mib p in
      let reach : p + head_size mib p ≤ limit =
      (let q = page_passed mib (place mib (flat_before mib e + length bytes - 1)) p some
      (place_behind mib (flat_before mib e + length bytes - 1) some) start
      (let z = stop_is mib e (length bytes) in omega (arith, below, z)) in
      omega (arith, q, within, stop_is mib e (length bytes))) in
      record {
        bytes = h.bytes;
        len = h.len;
        held = λ i lt.
            more (p + i) _ (omega (arith, lt, reach)) (h.held i lt);
        passes = h.passes;
      };
}
