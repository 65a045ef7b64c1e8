-- What is found and stays, whatever bytes come.
use Rattle.std.proofs.Common.{◌≡◌, ℕ, zero, suc, ◌+◌, ◌-◌, ◌%◌, ◌<◌, ◌≤◌, min, Bool, true, false, cond, ◌==◌, ◌&&◌, ◌||◌, inl, inr, List, ◌∷◌, ◌++◌, get_or, Option, Some, None, Result, Ok, Err, refl, sym, ap, ap₂, subst, ◌∙◌, arith}
use Rattle.std.specs.Prelude.{nat_le, if◌then◌else◌}
use Rattle.std.proofs.lemmas.Bool.{cases_lt, le-leb, lt-leb, leb-true, leb-false, and_parts, lt-ltb, eq-eqb}
use Rattle.lsn_core.specs.byte_words.Numbers.{u32_in}
use Rattle.lsn_core.specs.Segment.{segment_bytes}
use Rattle.lsn_core.specs.declared.lsn.Lsn.{Lsn}
use Rattle.wal_pages.specs.Places.{head_size, start_after}
use Rattle.wal_pages.specs.Heads.{head_fault}
use Rattle.wal_archive.specs.Archive.{Archive}
use Rattle.wal_archive.specs.Rules.{◌>>=◌, Judge, lsn, found, broken_at, not_held, held_or, bytes_at, head_at, head_said, left_on_page, entry_bytes, is_total, entry_at, is_ok, ends_at, first_head, next_bytes, next_in}
use Rattle.wal_archive.specs.declared.fault.Damage.{Damage}
use Rattle.wal_archive.specs.declared.fault.Broken.TheVariants as broken
use Rattle.wal_archive.proofs.Founds.{start_near}
use Rattle.wal_archive.proofs.Chain.{ended, ends}
use Rattle.wal_archive.proofs.Runs.{held_bytes}
use Rattle.std.proofs.Math.Nat.{mod_self}
use Rattle.stream_laws.specs.Waiting.{IsCutShort, Stays, IsSolid, HoldsMore, FoundStays, EndStays, FinalNeedsHead}
use Rattle.stream_laws.proofs.Solid.{torn, mark_held, top_past, filed, Behind, next_held, next_none}

-- a result that no later byte changes
abbrev IsFinal : {A : Type 0} → Result A Damage → Type 0
IsFinal (Ok x) = Unit {0}
IsFinal (Err d) = IsCutShort d → ⊥

-- and is the same in an archive that goes on
abbrev Grows : {A : Type 0} → Result A Damage → Result A Damage → Type 0
Grows r s = IsFinal r → s ≡ r

final_by : {A : Type 0} (r s : Result A Damage) → s ≡ r → IsFinal r → IsFinal s
final_by r s e f = subst IsFinal (sym e) f

-- a step on what is final
grows_bind : {A B : Type 0} (r s : Result A Damage) (f g : A → Result B Damage) → Grows r s → ((x : A) → Grows (f x) (g x)) → Grows (r >>= f) (s >>= g)
grows_bind (Ok x) s f g first next is = ap (λ k. k >>= g) (first tt) ∙ next x is
grows_bind {A} {B} (Err d) s f g first next is = ap (λ k. k >>= g) (first is)

never_final : {A : Type 0} (r : Result A Damage) (at : ℕ) → r ≡ Err (broken_at at broken.Torn) → IsFinal r → ⊥
never_final r at e f = (subst IsFinal e f) (at, refl)

module _ (mib : ℕ) (a c : Archive) (e : ℕ) (on : HoldsMore mib a c e) where
  held_grows : (begin x : ℕ) (o : Option ℕ) → e ≤ x → a.byte x ≡ o → Grows (held_or (not_held a mib begin x) (a.byte x)) (held_or (not_held c mib begin x) (c.byte x))
  held_grows begin x (Some b) le eq is =
      let other = on.holds x b le eq in
      ap (held_or (not_held c mib begin x)) other ∙ sym (ap (held_or (not_held a mib begin x)) eq)
  held_grows begin x None le eq is =
      let one = torn a mib begin x (on.solid_before.ends x le eq) in
      absurd (never_final (held_or (not_held a mib begin x) (a.byte x)) begin (ap (held_or (not_held a mib begin x)) eq ∙ ap (λ (d : Damage). held_or d None) one) is)

  bytes_grow : (begin x n : ℕ) → e ≤ x → Grows (bytes_at a mib begin x n) (bytes_at c mib begin x n)
  unfolding bytes_at
  bytes_grow begin x zero le is = refl
  bytes_grow begin x (suc n) le is =
      grows_bind (held_or (not_held a mib begin x) (a.byte x)) (held_or (not_held c mib begin x) (c.byte x))
      (λ b. bytes_at a mib begin (x + 1) n >>= λ bs. Ok (b ∷ bs)) (λ b. bytes_at c mib begin (x + 1) n >>= λ bs. Ok (b ∷ bs))
      (held_grows begin x (a.byte x) le refl)
      (λ b. grows_bind (bytes_at a mib begin (x + 1) n) (bytes_at c mib begin (x + 1) n) (λ bs. Ok (b ∷ bs)) (λ bs. Ok (b ∷ bs)) (bytes_grow begin (x + 1) n (omega (arith, le))) (λ bs f. refl))
      is

  head_grows : (system begin page : ℕ) (size : Option ℕ) → e ≤ page → Grows (head_at a mib system begin page size) (head_at c mib system begin page size)
  unfolding head_at
  head_grows system begin page size le is =
      grows_bind (bytes_at a mib begin page (head_size mib page)) (bytes_at c mib begin page (head_size mib page))
      (λ bytes. head_said page (head_fault mib system page size bytes)) (λ bytes. head_said page (head_fault mib system page size bytes))
      (bytes_grow begin page (head_size mib page) le) (λ bytes f. refl) is

  entry_bytes_grow : (system begin pages x count : ℕ) → e ≤ x → Grows (entry_bytes a mib system begin pages x count) (entry_bytes c mib system begin pages x count)
  unfolding entry_bytes
  entry_bytes_grow system begin zero x count le is = refl
  entry_bytes_grow system begin (suc pages) x count le is =
      let page = x + left_on_page x in
      let rest = page + head_size mib page in
      let left = count - left_on_page x in
      let more = entry_bytes_grow system begin pages rest left (omega (arith, le)) in
      grows_bind (bytes_at a mib begin x (min count (left_on_page x))) (bytes_at c mib begin x (min count (left_on_page x)))
      (λ front. if nat_le count (left_on_page x) then Ok front else (head_at a mib system begin page (Some left) >>= λ h. entry_bytes a mib system begin pages rest left >>= λ more. Ok (front ++ more)))
      (λ front. if nat_le count (left_on_page x) then Ok front else (head_at c mib system begin page (Some left) >>= λ h. entry_bytes c mib system begin pages rest left >>= λ more. Ok (front ++ more)))
      (bytes_grow begin x (min count (left_on_page x)) le)
      (λ front. elim (nat_le count (left_on_page x)) as (λ s. Grows (if s then Ok front else (head_at a mib system begin page (Some left) >>= λ h. entry_bytes a mib system begin pages rest left >>= λ more. Ok (front ++ more))) (if s then Ok front else (head_at c mib system begin page (Some left) >>= λ h. entry_bytes c mib system begin pages rest left >>= λ more. Ok (front ++ more)))) [
        | true ↦ λ f. refl
        | false ↦ grows_bind (head_at a mib system begin page (Some left)) (head_at c mib system begin page (Some left))
            (λ h. entry_bytes a mib system begin pages rest left >>= λ more. Ok (front ++ more)) (λ h. entry_bytes c mib system begin pages rest left >>= λ more. Ok (front ++ more))
            (head_grows system begin page (Some left) (omega (arith, le)))
            (λ h. grows_bind (entry_bytes a mib system begin pages rest left) (entry_bytes c mib system begin pages rest left) (λ more. Ok (front ++ more)) (λ more. Ok (front ++ more)) more (λ m f. refl))
      ])
      is

  entry_grows : (system start : ℕ) → e ≤ start → Grows (entry_at a mib system start) (entry_at c mib system start)
  unfolding entry_at
  entry_grows system start le is =
      grows_bind (bytes_at a mib start start 4) (bytes_at c mib start start 4)
      (λ len. if is_total (u32_in len 0) then entry_bytes a mib system start (u32_in len 0) start (u32_in len 0) else Err (broken_at start broken.Length))
      (λ len. if is_total (u32_in len 0) then entry_bytes c mib system start (u32_in len 0) start (u32_in len 0) else Err (broken_at start broken.Length))
      (bytes_grow start start 4 le)
      (λ len. elim (is_total (u32_in len 0)) as (λ s. Grows (if s then entry_bytes a mib system start (u32_in len 0) start (u32_in len 0) else Err (broken_at start broken.Length)) (if s then entry_bytes c mib system start (u32_in len 0) start (u32_in len 0) else Err (broken_at start broken.Length))) [
        | true ↦ entry_bytes_grow system start (u32_in len 0) start (u32_in len 0) le
        | false ↦ λ f. refl
      ])
      is

  first_grows : (system : ℕ) → Grows (first_head a mib system e) (first_head c mib system e)
  first_grows system =
      elim (e % 8192 == 0) as (λ s. Grows (if s then head_at a mib system e e (Some 0) else Ok 0) (if s then head_at c mib system e e (Some 0) else Ok 0)) [
        | true ↦ head_grows system e e (Some 0) (omega arith)
        | false ↦ λ f. refl
      ]

-- ---- what stands behind an end

-- an entry, or damage other than that the archive ends there
abbrev IsFinalNext : Result (Option (List ℕ)) Damage → Type 0
IsFinalNext (Ok None) = ⊥
IsFinalNext (Ok (Some bytes)) = Unit {0}
IsFinalNext (Err d) = IsCutShort d → ⊥

is_final : (r : Result (Option (List ℕ)) Damage) → IsFinalNext r → IsFinal r
is_final (Ok None) f = absurd f
is_final (Ok (Some bytes)) f = tt
is_final (Err d) f = f

no_end : (r : Result (Option (List ℕ)) Damage) → r ≡ Ok None → IsFinalNext r → ⊥
no_end r e f = subst IsFinalNext e f

-- a test of an archive's ends stays failed, or a head that isn't held yet is awaited
by_head : (mib system : ℕ) (a c : Archive) (e : ℕ) → HoldsMore mib a c e → (h : Result ℕ Damage) → head_at a mib system e e (Some 0) ≡ h → IsFinal h → nat_le a.mark e ≡ false → (is_ok h && nat_le a.mark (e + head_size mib e)) ≡ false
    → (is_ok (head_at c mib system e e (Some 0)) && nat_le c.mark (e + head_size mib e)) ≡ false
by_head mib system a c e on (Ok x) eq f low apart =
    let below = leb-false a.mark e low in
    let more = mark_held mib a c e on (omega (arith, below)) in
    let behind = leb-false a.mark (e + head_size mib e) apart in
    let never : nat_le c.mark (e + head_size mib e) ≡ false = lt-leb c.mark (e + head_size mib e) (omega (arith, more, behind)) in
    ap (λ (b : Bool). is_ok (head_at c mib system e e (Some 0)) && b) never ∙ and_never (is_ok (head_at c mib system e e (Some 0)))
  where
    and_never : (b : Bool) → (b && false) ≡ false
    and_never true = refl
    and_never false = refl
by_head mib system a c e on (Err d) eq f low apart =
    let same = head_grows mib a c e on system e e (Some 0) (omega arith) (subst IsFinal (sym eq) f) in
    ap (λ (r : Result ℕ Damage). is_ok r && nat_le c.mark (e + head_size mib e)) (same ∙ eq)

never_ends : (mib system : ℕ) (a c : Archive) (e : ℕ) → HoldsMore mib a c e → (page : Bool) → (e % 8192 == 0) ≡ page → IsFinal (if page then head_at a mib system e e (Some 0) else Ok 0)
    → (nat_le a.mark e || (page && (is_ok (head_at a mib system e e (Some 0)) && nat_le a.mark (e + head_size mib e)))) ≡ false
    → (nat_le c.mark e || (page && (is_ok (head_at c mib system e e (Some 0)) && nat_le c.mark (e + head_size mib e)))) ≡ false
never_ends mib system a c e on page is f apart =
    let both = neither (nat_le a.mark e) (page && (is_ok (head_at a mib system e e (Some 0)) && nat_le a.mark (e + head_size mib e))) apart in
    let below = leb-false a.mark e both.0 in
    let more = mark_held mib a c e on (omega (arith, below)) in
    let low : nat_le c.mark e ≡ false = lt-leb c.mark e (omega (arith, more, below)) in
    ap (λ (b : Bool). b || (page && (is_ok (head_at c mib system e e (Some 0)) && nat_le c.mark (e + head_size mib e)))) low
    ∙ by_page page f both.0 both.1
  where
    neither : (x y : Bool) → (x || y) ≡ false → (x ≡ false) × (y ≡ false)
    neither true y e = absurd cc
    neither false y e = (refl, e)

    by_page : (s : Bool) → IsFinal (if s then head_at a mib system e e (Some 0) else Ok 0) → nat_le a.mark e ≡ false → (s && (is_ok (head_at a mib system e e (Some 0)) && nat_le a.mark (e + head_size mib e))) ≡ false
        → (s && (is_ok (head_at c mib system e e (Some 0)) && nat_le c.mark (e + head_size mib e))) ≡ false
    by_page true f low apart = by_head mib system a c e on (head_at a mib system e e (Some 0)) refl f low apart
    by_page false f low apart = refl

-- the head that is awaited isn't final
abbrev some_ok : List ℕ → Result (Option (List ℕ)) Damage
some_ok bytes = Ok (Some bytes)

first_final : (h : Result ℕ Damage) (r : Result (List ℕ) Damage) → IsFinal (h >>= λ x. r >>= some_ok) → IsFinal h
first_final (Ok x) r f = tt
first_final (Err d) r f = f

by_ends : (mib system : ℕ) (a c : Archive) (e : ℕ) → HoldsMore mib a c e → (s : Bool) → ends_at a mib system e ≡ s → IsFinalNext (Behind s (first_head a mib system e) (entry_at a mib system (start_after mib e)))
    → Behind (ends_at c mib system e) (first_head c mib system e) (entry_at c mib system (start_after mib e)) ≡ Behind s (first_head a mib system e) (entry_at a mib system (start_after mib e))
unfolding ends_at
by_ends mib system a c e on true eq f = absurd f
by_ends mib system a c e on false eq f =
    let start = start_near mib e (start_after mib e) on.some refl in
    let after = start.after in
    let final = is_final (Behind false (first_head a mib system e) (entry_at a mib system (start_after mib e))) f in
    let head = first_final (first_head a mib system e) (entry_at a mib system (start_after mib e)) final in
    let never = never_ends mib system a c e on (e % 8192 == 0) refl head eq in
    ap (λ (b : Bool). Behind b (first_head c mib system e) (entry_at c mib system (start_after mib e))) never
    ∙ grows_bind (first_head a mib system e) (first_head c mib system e)
    (λ h. entry_at a mib system (start_after mib e) >>= λ bytes. Ok (Some bytes)) (λ h. entry_at c mib system (start_after mib e) >>= λ bytes. Ok (Some bytes))
    (first_grows mib a c e on system)
    (λ h. grows_bind (entry_at a mib system (start_after mib e)) (entry_at c mib system (start_after mib e)) (λ bytes. Ok (Some bytes)) (λ bytes. Ok (Some bytes)) (entry_grows mib a c e on system (start_after mib e) after) (λ bytes g. refl))
    final

next_stays : (mib system : ℕ) (a c : Archive) (e : ℕ) → HoldsMore mib a c e → IsFinalNext (next_bytes a mib system e) → next_bytes c mib system e ≡ next_bytes a mib system e
next_stays mib system a c e on f =
    elim (cases_lt e a.top) [
      | inl lt ↦
          let lt' = top_past mib a c e on lt in
          let here = next_held a mib system e lt (filed mib a e on.before on.solid_before lt) in
          let there = next_held c mib system e lt' (filed mib c e on.behind on.solid_behind lt') in
          there ∙ (by_ends mib system a c e on (ends_at a mib system e) refl (subst IsFinalNext here f) ∙ sym here)
      | inr ge ↦ absurd (no_end (next_bytes a mib system e) (next_none a mib system e ge) f)
    ]

final_found : (judge : Judge) (mib e : ℕ) (prev : Option Lsn) (r : Result (Option (List ℕ)) Damage) → Stays (found judge mib e prev r) → IsFinalNext r
final_found judge mib e prev (Ok None) f = f
final_found judge mib e prev (Ok (Some bytes)) f = tt
final_found judge mib e prev (Err d) f = f

pub found_stays : FoundStays
unfolding next_in
found_stays judge mib system a c tip on f =
    ap (found judge mib tip.end (Some (lsn tip.prev))) (next_stays mib system a c tip.end on (final_found judge mib tip.end (Some (lsn tip.prev)) (next_bytes a mib system tip.end) f))

-- ---- where only zeros came

abbrev OnlyZeros : Archive → Archive → ℕ → Type 0
OnlyZeros a c e = (x b : ℕ) → e ≤ x → c.byte x ≡ Some b → 0 < b → a.byte x ≡ Some b

mark_kept : (mib : ℕ) (a c : Archive) (e k : ℕ) → HoldsMore mib a c e → OnlyZeros a c e → e ≤ k → a.mark ≤ k → c.mark ≤ k
mark_kept mib a c e k on zeros le low =
    elim (cases_lt k c.mark) [
      | inl lt ↦
          let last = on.behind.mark_held (omega (arith, lt)) in
          let was = zeros (c.mark - 1) last.0 (omega (arith, lt, le)) last.1 last.2 in
          let past = on.before.marked (c.mark - 1) last.0 was last.2 in
          absurd (omega (arith, past, lt, low))
      | inr ge ↦ ge
    ]

ok_final : (h : Result ℕ Damage) → is_ok h ≡ true → IsFinal h
ok_final (Ok x) e = tt
ok_final (Err d) e = absurd cc

ends_kept : (mib system : ℕ) (a c : Archive) (e : ℕ) → HoldsMore mib a c e → OnlyZeros a c e → ends_at a mib system e ≡ true → ends_at c mib system e ≡ true
unfolding ends_at
ends_kept mib system a c e on zeros is =
    elim (nat_le a.mark e) as (λ s. nat_le a.mark e ≡ s → (s || ((e % 8192 == 0) && (is_ok (head_at a mib system e e (Some 0)) && nat_le a.mark (e + head_size mib e)))) ≡ true → (nat_le c.mark e || ((e % 8192 == 0) && (is_ok (head_at c mib system e e (Some 0)) && nat_le c.mark (e + head_size mib e)))) ≡ true) [
      | true ↦ λ m t.
          let low = mark_kept mib a c e e on zeros (omega arith) (leb-true a.mark e m) in
          ap (λ (b : Bool). b || ((e % 8192 == 0) && (is_ok (head_at c mib system e e (Some 0)) && nat_le c.mark (e + head_size mib e)))) (le-leb c.mark e low)
      | false ↦ λ m t.
          let p = and_parts (e % 8192 == 0) (is_ok (head_at a mib system e e (Some 0)) && nat_le a.mark (e + head_size mib e)) t in
          let q = and_parts (is_ok (head_at a mib system e e (Some 0))) (nat_le a.mark (e + head_size mib e)) p.1 in
          let head = head_grows mib a c e on system e e (Some 0) (omega arith) (ok_final (head_at a mib system e e (Some 0)) q.0) in
          let low = mark_kept mib a c e (e + head_size mib e) on zeros (omega arith) (leb-true a.mark (e + head_size mib e) q.1) in
          let heads : is_ok (head_at c mib system e e (Some 0)) ≡ true = ap (λ (r : Result ℕ Damage). is_ok r) head ∙ q.0 in
          let all : ((e % 8192 == 0) && (is_ok (head_at c mib system e e (Some 0)) && nat_le c.mark (e + head_size mib e))) ≡ true =
          ap₂ (λ (x y : Bool). x && y) p.0 (ap₂ (λ (x y : Bool). x && y) heads (le-leb c.mark (e + head_size mib e) low)) in
          ap (λ (b : Bool). nat_le c.mark e || b) all ∙ or_true (nat_le c.mark e)
    ] refl is
  where
    or_true : (b : Bool) → (b || true) ≡ true
    or_true true = refl
    or_true false = refl

stops : (h : Result ℕ Damage) (r : Result (List ℕ) Damage) → (h >>= λ x. r >>= some_ok) ≡ Ok None → ⊥
stops (Ok x) (Ok bytes) e = absurd cc
stops (Ok x) (Err d) e = absurd cc
stops (Err d) r e = absurd cc

by_stop : (s : Bool) (h : Result ℕ Damage) (r : Result (List ℕ) Damage) → Behind s h r ≡ Ok None → s ≡ true
by_stop true h r e = refl
by_stop false h r e = absurd (stops h r e)

marks_end : (c : Archive) (mib system e : ℕ) → c.mark ≤ e → ends_at c mib system e ≡ true
unfolding ends_at
marks_end c mib system e low = ap (λ (b : Bool). b || ((e % 8192 == 0) && (is_ok (head_at c mib system e e (Some 0)) && nat_le c.mark (e + head_size mib e)))) (le-leb c.mark e low)

end_kept : (mib system : ℕ) (a c : Archive) (e : ℕ) → HoldsMore mib a c e → OnlyZeros a c e → next_bytes a mib system e ≡ Ok None → next_bytes c mib system e ≡ Ok None
end_kept mib system a c e on zeros none =
    elim (cases_lt e c.top) [
      | inl lt' ↦
          let there = next_held c mib system e lt' (filed mib c e on.behind on.solid_behind lt') in
          let is : ends_at c mib system e ≡ true = elim (cases_lt e a.top) [
            | inl lt ↦
                let here = next_held a mib system e lt (filed mib a e on.before on.solid_before lt) in
                ends_kept mib system a c e on zeros (by_stop (ends_at a mib system e) (first_head a mib system e) (entry_at a mib system (start_after mib e)) (sym here ∙ none))
            | inr ge ↦
                let low : a.mark ≤ e = elim (cases_lt e a.mark) [
                  | inl m ↦ (let last = on.before.mark_held (omega (arith, m)) in let past = on.before.held (a.mark - 1) last.0 last.1 in absurd (omega (arith, past, ge, m)))
                  | inr m ↦ m
                ] in
                marks_end c mib system e (mark_kept mib a c e e on zeros (omega arith) low)
          ] in
          there ∙ ap (λ (b : Bool). Behind b (first_head c mib system e) (entry_at c mib system (start_after mib e))) is
      | inr ge ↦ next_none c mib system e ge
    ]

pub end_stays : EndStays
end_stays judge mib system a c tip on zeros is =
    ends judge mib system c tip (end_kept mib system a c tip.end on zeros (ended judge mib system a tip is))

-- ---- the first page's head

err_same : {A : Type 0} (a b : Damage) → ◌≡◌ {A = Result A Damage} (Err a) (Err b) → a ≡ b
err_same a b e = cc

by_rest : (b : ℕ) (d : Damage) (r : Result (List ℕ) Damage) → ((k : Damage) → r ≡ Err k → IsCutShort k) → (r >>= λ bs. Ok (b ∷ bs)) ≡ Err d → IsCutShort d
by_rest b d (Ok bs) rest f = absurd cc
by_rest b d (Err k) rest f = subst IsCutShort (err_same {A = List ℕ} k d f) (rest k refl)

by_byte : (a : Archive) (mib begin x e : ℕ) (d : Damage) (r : Result (List ℕ) Damage) (o : Option ℕ) → IsSolid a e → e ≤ x → a.byte x ≡ o → ((k : Damage) → r ≡ Err k → IsCutShort k) → (held_or (not_held a mib begin x) o >>= λ b. r >>= λ bs. Ok (b ∷ bs)) ≡ Err d → IsCutShort d
by_byte a mib begin x e d r None solid le is rest f =
    (begin, sym (err_same {A = List ℕ} (not_held a mib begin x) d f) ∙ torn a mib begin x (solid.ends x le is))
by_byte a mib begin x e d r (Some b) solid le is rest f = by_rest b d r rest f

bytes_torn : (a : Archive) (mib begin x n e : ℕ) (d : Damage) → IsSolid a e → e ≤ x → bytes_at a mib begin x n ≡ Err d → IsCutShort d
unfolding bytes_at
bytes_torn a mib begin x zero e d solid le eq = absurd cc
bytes_torn a mib begin x (suc n) e d solid le eq =
    by_byte a mib begin x e d (bytes_at a mib begin (x + 1) n) (a.byte x) solid le refl (λ k is. bytes_torn a mib begin (x + 1) n e k solid (omega (arith, le)) is) eq

-- what is read and final is held
final_ok : (r : Result (List ℕ) Damage) → ((d : Damage) → r ≡ Err d → IsCutShort d) → IsFinal r → (l : List ℕ) × (r ≡ Ok l)
final_ok (Ok l) t f = (l, refl)
final_ok (Err d) t f = absurd (f (t d refl))

front_final : {B : Type 0} (r : Result (List ℕ) Damage) (f : List ℕ → Result B Damage) → IsFinal (r >>= f) → IsFinal r
front_final (Ok l) f is = tt
front_final (Err d) f is = is

head_held : (a : Archive) (mib system e : ℕ) → IsSolid a e → 40 ≡ head_size mib e → IsFinal (head_at a mib system e e (Some 0)) → (b : ℕ) × (a.byte (e + 39) ≡ Some b)
unfolding head_at
head_held a mib system e solid long f =
    let front = front_final (bytes_at a mib e e (head_size mib e)) (λ bytes. head_said e (head_fault mib system e (Some 0) bytes)) f in
    let ok = final_ok (bytes_at a mib e e (head_size mib e)) (λ d is. bytes_torn a mib e e (head_size mib e) e d solid (omega arith) is) front in
    let run = held_bytes a mib e e (head_size mib e) ok.0 ok.1 in
    (get_or ok.0 39 0, run.held 39 (let l = run.len in omega (arith, l, long)))

first_size : (mib : ℕ) → 1 ≤ mib → 40 ≡ head_size mib (segment_bytes mib)
unfolding head_size
first_size mib some =
    let zero_left : segment_bytes mib % segment_bytes mib ≡ 0 = mod_self (segment_bytes mib) in
    sym (ap (λ (b : Bool). cond b 40 24) (lt-ltb (segment_bytes mib % segment_bytes mib) 8192 (omega (arith, zero_left))))

on_page : (a : Archive) (mib system : ℕ) → 1 ≤ mib → IsSolid a (segment_bytes mib) → (s : Bool) → IsFinalNext (Behind s (first_head a mib system (segment_bytes mib)) (entry_at a mib system (start_after mib (segment_bytes mib)))) → (b : ℕ) × (a.byte (segment_bytes mib + 39) ≡ Some b)
on_page a mib system some solid true f = absurd f
on_page a mib system some solid false f =
    let e = segment_bytes mib in
    let final = is_final (Behind false (first_head a mib system e) (entry_at a mib system (start_after mib e))) f in
    let head = first_final (first_head a mib system e) (entry_at a mib system (start_after mib e)) final in
    let page : (e % 8192 == 0) ≡ true = eq-eqb (e % 8192) 0 (omega arith) in
    head_held a mib system e solid (first_size mib some) (subst (λ (b : Bool). IsFinal (if b then head_at a mib system e e (Some 0) else Ok 0)) page head)

pub final_needs_head : FinalNeedsHead
unfolding next_in
final_needs_head judge mib system a some solid arch stays =
    let e = segment_bytes mib in
    let final = final_found judge mib e (Some (lsn 0)) (next_bytes a mib system e) stays in
    elim (cases_lt e a.top) [
      | inl lt ↦
          let here = next_held a mib system e lt (filed mib a e arch solid lt) in
          on_page a mib system some solid (ends_at a mib system e) (subst IsFinalNext here final)
      | inr ge ↦ absurd (no_end (next_bytes a mib system e) (next_none a mib system e ge) final)
    ]
