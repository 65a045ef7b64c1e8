-- Entries that are read back where others were written: a copy that is sound for these is sound for them.
use Rattle.std.proofs.Common.{◌≡◌, ℕ, ◌^◌, ◌-◌, ◌≤◌, Bool, true, false, cond, ◌&&◌, List, [], ◌∷◌, ◌++◌, map, refl, sym, ap, subst, ◌∙◌, arith, append_assoc}
use Rattle.std.proofs.lemmas.List.{append-nil}
use Rattle.std.specs.Prelude.{◌==◌, nat_lt, nat_le}
use Rattle.std.specs.List.{list_any, filter}
use Rattle.lsn_core.specs.declared.ids.ForkId.{ForkId}
use Rattle.lsn_core.specs.Store.{Store}
use Rattle.wal_record.specs.declared.record.Record.{Record}
use Rattle.history.specs.Entry.{Entry}
use Rattle.history.specs.Whole.{entry_of}
use Rattle.history.proofs.Pushes.{all_first, all_rest}
use Rattle.history.specs.Written.{Before, behind, behind_all, written, at_first}
use Rattle.history.specs.fuzzy_copies.Touches.{resets, settles, patches}
use Rattle.history.specs.fuzzy_copies.Orderly.{IsOrderly, AllEndBy, RecordsRise}
use Rattle.history.specs.fuzzy_copies.Sound.{state_before, is_in, IsWrittenAsDelta, IsSoundCopy}
use Rattle.history.specs.fuzzy_copies.Logged.{found_before, log_of}
use Rattle.history.proofs.fuzzy_copies.Repeats.{kind_fresh}

-- an entry that is read back where one was written behind these: at the same places it touches, cuts and creates the same, and each patch of
-- it was written as a delta
pub record IsReadBack (before : List Entry) (e l : Entry) : Type 0 where
  pub start : l.start ≡ e.start
  pub end : l.end ≡ e.end
  pub same : (fork : ForkId) (block : ℕ) → resets fork block l ≡ resets fork block e
  pub made : (fork : ForkId) → settles fork l ≡ settles fork e
  pub delta : (fork : ForkId) (block : ℕ) → patches fork block l ≡ true → IsWrittenAsDelta before e fork block

abbrev pub AreReadBack : List Entry → List Entry → List Entry → Type 0
AreReadBack before [] [] = Unit
AreReadBack before [] (l ∷ ls) = ⊥
AreReadBack before (e ∷ es) [] = ⊥
AreReadBack before (e ∷ es) (l ∷ ls) = IsReadBack before e l × AreReadBack (before ++ (e ∷ [])) es ls

abbrev pub Tells : (Entry → Bool) → Type 0
Tells t = (before : List Entry) (e l : Entry) → IsReadBack before e l → t l ≡ t e

pub any_same : (t : Entry → Bool) → Tells t → (before es ls : List Entry) → AreReadBack before es ls → list_any t ls ≡ list_any t es
any_same t h before [] [] r = refl
any_same t h before [] (l ∷ ls) r = absurd r
any_same t h before (e ∷ es) [] r = absurd r
any_same t h before (e ∷ es) (l ∷ ls) r = let a = h before e l r.0 in let b = any_same t h (before ++ (e ∷ [])) es ls r.1 in cc

any_kept : (t p : Entry → Bool) → Tells t → Tells p → (before es ls : List Entry) → AreReadBack before es ls → list_any t (filter p ls) ≡ list_any t (filter p es)
any_kept t p h k before [] [] r = refl
any_kept t p h k before [] (l ∷ ls) r = absurd r
any_kept t p h k before (e ∷ es) [] r = absurd r
any_kept t p h k before (e ∷ es) (l ∷ ls) r =
    let rest = any_kept t p h k (before ++ (e ∷ [])) es ls r.1 in
    ap (λ b. list_any t (cond b (l ∷ filter p ls) (filter p ls))) (k before e l r.0)
    ∙ elim (p e) as (λ b. list_any t (cond b (l ∷ filter p ls) (filter p ls)) ≡ list_any t (cond b (e ∷ filter p es) (filter p es))) [ true ↦ (let a = h before e l r.0 in cc) | false ↦ rest ]

-- where an entry that is read back stands
record IsBackOf (before es front : List Entry) (d : Entry) : Type 0 where
  prefix : List Entry
  e : Entry
  later : List Entry
  split : es ≡ prefix ++ (e ∷ later)
  front_is : AreReadBack before prefix front
  d_is : IsReadBack (before ++ prefix) e d

back_of : (before es front : List Entry) (d : Entry) (back : List Entry) → AreReadBack before es (front ++ (d ∷ back)) → IsBackOf before es front d
back_of before [] [] d back r = absurd r
back_of before [] (y ∷ front) d back r = absurd r
back_of before (x ∷ es) [] d back r = record { prefix = []; e = x; later = es; split = refl; front_is = tt; d_is = subst (λ b. IsReadBack b x d) (sym (append-nil before)) r.0 }
back_of before (x ∷ es) (y ∷ front) d back r =
    let f = back_of (before ++ (x ∷ [])) es front d back r.1 in
    record {
      prefix = x ∷ f.prefix;
      e = f.e;
      later = f.later;
      split = ap (λ (l : List Entry). x ∷ l) f.split;
      front_is = (r.0, f.front_is);
      d_is = subst (λ b. IsReadBack b f.e d) (append_assoc before (x ∷ []) f.prefix) f.d_is;
    }

resets_tell : (fork : ForkId) (block : ℕ) → Tells (resets fork block)
resets_tell fork block before e l r = r.same fork block

within_tells : (from to : ℕ) → Tells (is_in from to)
within_tells from to before e l r = ap (λ n. nat_le from n && nat_lt n to) r.start

-- a copy that is sound for entries is sound for what is read back
pub sound_back : (copy : Store) (history ls : List Entry) (from to : ℕ) → AreReadBack [] history ls → state_before ls from ≡ state_before history from → IsSoundCopy copy history from to → IsSoundCopy copy ls from to
sound_back copy history ls from to r base sound = record {
  base = sound.base;
  defined = base ∙ sound.defined;
  blocks = λ fork block none. sound.blocks fork block (sym (any_kept (resets fork block) (is_in from to) (resets_tell fork block) (within_tells from to) [] history ls r) ∙ none);
  forks = λ fork none. sound.forks fork (sym (any_kept (settles fork) (is_in from to) (λ b e l k. k.made fork) (within_tells from to) [] history ls r) ∙ none);
  deltas = λ fork block front d back is within delta.
      let f = back_of [] history front d back (subst (AreReadBack [] history) is r) in
      any_kept (resets fork block) (is_in from to) (resets_tell fork block) (within_tells from to) [] f.prefix front f.front_is
      ∙ sound.deltas fork block f.prefix f.e f.later f.split (sym (within_tells from to f.prefix f.e d f.d_is) ∙ within) (f.d_is.delta fork block delta.0);
  starts = any_same (λ e. e.start == from) (λ b e l k. ap (λ n. n == from) k.start) [] history ls r ∙ sound.starts;
  ends = any_same (λ e. e.end == to) (λ b e l k. ap (λ n. n == to) k.end) [] history ls r ∙ sound.ends;
  above = sound.above;
}

-- what is read back rises
pub rising_back : (last : ℕ) (before es : List Entry) (rs : List Record) → AreReadBack before es (map entry_of rs) → IsOrderly last es → IsOrderly last (map entry_of rs)
rising_back last before [] [] r h = tt
rising_back last before [] (x ∷ rs) r h = absurd r
rising_back last before (e ∷ es) [] r h = absurd r
rising_back last before (e ∷ es) (x ∷ rs) r h =
    let s = r.0.start in let t = r.0.end in let a = h.0 in let b = h.1 in (
      omega arith,
      omega arith,
      kind_fresh x.kind,
      subst (λ n. IsOrderly n (map entry_of rs)) (sym t) (rising_back e.end (before ++ (e ∷ [])) es rs r.1 h.3),
    )

pub records_back : (last : ℕ) (before es : List Entry) (rs : List Record) → AreReadBack before es (map entry_of rs) → IsOrderly last es → AllEndBy (2 ^ 64 - 1) es → RecordsRise last rs
records_back last before [] [] r h k = tt
records_back last before [] (x ∷ rs) r h k = absurd r
records_back last before (e ∷ es) [] r h k = absurd r
records_back last before (e ∷ es) (x ∷ rs) r h k =
    let s = r.0.start in let t = r.0.end in let a = h.0 in let b = h.1 in let c = all_first (λ (d : Entry). d.end ≤ 2 ^ 64 - 1) e es k in (
      omega arith,
      omega arith,
      omega arith,
      subst (λ n. RecordsRise n rs) (sym t) (records_back e.end (before ++ (e ∷ [])) es rs r.1 h.3 (all_rest (λ (d : Entry). d.end ≤ 2 ^ 64 - 1) e es k)),
    )

-- of a history the own entries alone are written
written_behind : (mib : ℕ) (b : Before) (found : List Record) (own : List Entry) → written mib b (map entry_of found ++ own) ≡ written mib (behind_all b (map entry_of found)) own
written_behind mib b [] own = refl
written_behind mib b (x ∷ found) own = written_behind mib (behind b (entry_of x)) found own

pub log_is_written : (mib : ℕ) (found : List Record) (own : List Entry) → log_of mib found own ≡ found ++ written mib (found_before mib found) own
log_is_written mib found own = ap (λ (l : List Record). found ++ l) (written_behind mib (at_first mib) found own)

-- entries that were found are read back as they are
pub found_back : (before : List Entry) (found : List Record) (own ls : List Entry) → AreReadBack (before ++ map entry_of found) own ls → AreReadBack before (map entry_of found ++ own) (map entry_of found ++ ls)
found_back before [] own ls r = subst (λ b. AreReadBack b own ls) (append-nil before) r
found_back before (x ∷ found) own ls r = (
  record { start = refl; end = refl; same = λ fork block. refl; made = λ fork. refl; delta = λ fork block p. (p, refl) },
  found_back (before ++ (entry_of x ∷ [])) found own ls (subst (λ b. AreReadBack b own ls) (sym (append_assoc before (entry_of x ∷ []) (map entry_of found))) r),
)
