-- What a failed write leaves of the archive: what was flushed is read still, and nothing changed
-- behind the written range.
use Rattle.std.proofs.Common.{◌≡◌, ℕ, ◌+◌, ◌-◌, ◌*◌, ◌/◌, ◌%◌, ◌<◌, ◌≤◌, max, true, List, [], length, take, Option, Some, None, refl, sym, ap, ◌∙◌, arith, inl, inr}
use Rattle.std.specs.Prelude.{unwrap_or, IfSome}
use Rattle.std.specs.FinMap.{get}
use Rattle.std.proofs.lemmas.Bool.{cases_lt, cases_eq, cases_Bool, cond-true, cond-false}
use Rattle.std.proofs.lemmas.Nat.{div-add-mod', mod_below}
use Rattle.lsn_core.specs.Files.{Files}
use Rattle.lsn_core.specs.Segment.{segment_bytes}
use Rattle.lsn_core.specs.Names.{segment_name_bytes}
use Rattle.vault.specs.Area.{bytes_of, IsTorn, IsTornFile}
use Rattle.lsn_core.specs.Tip.{Tip}
use Rattle.wal_record.specs.Tips.{first_tip}
use Rattle.wal_record.specs.declared.record.Record.{Record}
use Rattle.wal_archive.specs.Archive.{Archive, IsArchive, is_segment, held_in, nth, byte_of, archive_of}
use Rattle.wal_archive.specs.Rules.{Judge}
use Rattle.wal_archive.proofs.Files.{nth_held, files_archive}
use Rattle.wal_archive.proofs.Writes.{nth_past, nth_take, held_old, byte_at, segment_names_differ}
use Rattle.wal_archive.proofs.Chain.{walks_extended}
use Rattle.wal_archive.specs.Laws.{IsFair, IsKept}
use Rattle.wal_archive.specs.Writing.{IsLeft}
use Rattle.wal_archive.proofs.Read.{origin_end}

pub left_on : (old mid new : Archive) (from count more : ℕ) → IsLeft old mid from count
    → IsLeft mid new (from + count) more → IsLeft old new from (count + more)
left_on old mid new from count more one two = record {
  before = λ x b lt held. two.before x b (omega (arith, lt)) (one.before x b lt held);
  behind = λ x le. two.behind x (omega (arith, le)) ∙ one.behind x (omega (arith, le));
}

torn_before : (o : Option (List ℕ)) (old : List ℕ) (at count i b : ℕ) → (o ≡ None → old ≡ [])
    → IfSome o (IsTornFile at count old) → i < at → nth old i ≡ Some b
    → nth (unwrap_or o []) i ≡ Some b
torn_before None old at count i b missing file lt held = ap (λ l. nth l i) (sym (missing refl))
    ∙ held
torn_before (Some l) old at count i b missing file lt held =
    elim (cases_lt i (length old)) [
      | inl in_old ↦ nth_held l i (let least = file.least in omega (arith, least, in_old))
          ∙ ap Some (file.before i in_old lt) ∙ sym (nth_held old i in_old) ∙ held
      | inr past ↦ absurd (none_some (sym (nth_past old i past) ∙ held))
    ]
  where
    none_some : {b : ℕ} → ◌≡◌ {A = Option ℕ} None (Some b) → ⊥
    none_some e = absurd cc

torn_behind : (o : Option (List ℕ)) (old : List ℕ) (at count i : ℕ) → (o ≡ None → old ≡ [])
    → IfSome o (IsTornFile at count old) → at + count ≤ i → nth (unwrap_or o []) i ≡ nth old i
torn_behind None old at count i missing file le = ap (λ l. nth l i) (sym (missing refl))
torn_behind (Some l) old at count i missing file le =
    elim (cases_lt i (length old)) [
      | inl in_old ↦ nth_held l i (let least = file.least in omega (arith, least, in_old))
          ∙ ap Some (file.behind i in_old le) ∙ sym (nth_held old i in_old)
      | inr past ↦ nth_past l i (let most = file.most in omega (arith, most, past, le))
          ∙ sym (nth_past old i past)
    ]

held_elsewhere : (mib : ℕ) (old new : Files) (s at count t : ℕ) → is_segment s ≡ true
    → IsTorn (segment_name_bytes s mib) at count old new → (t ≡ s → ⊥)
    → held_in mib new t ≡ held_in mib old t
unfolding held_in
held_elsewhere mib old new s at count t one torn ne =
    elim (cases_Bool (is_segment t)) [
      | inl two ↦
          cond-true (is_segment t) (take (segment_bytes mib)
          (bytes_of new (segment_name_bytes t mib))) [] two
          ∙ ap (λ o. take (segment_bytes mib) (unwrap_or o []))
          (torn.others (segment_name_bytes t mib)
          (λ e. ne (segment_names_differ mib t s two one e)))
          ∙ sym (cond-true (is_segment t)
          (take (segment_bytes mib) (bytes_of old (segment_name_bytes t mib))) [] two)
      | inr none ↦
          cond-false (is_segment t) (take (segment_bytes mib)
          (bytes_of new (segment_name_bytes t mib))) [] none
          ∙ sym (cond-false (is_segment t)
          (take (segment_bytes mib) (bytes_of old (segment_name_bytes t mib))) [] none)
    ]

none_old : (old : Files) (name : List ℕ) → get old name ≡ None → bytes_of old name ≡ []
none_old old name e = ap (λ o. unwrap_or o []) e

pub torn_left : (mib : ℕ) (old new : Files) (s at count from : ℕ) → 1 ≤ mib → is_segment s ≡ true
    → from ≡ s * segment_bytes mib + at → IsTorn (segment_name_bytes s mib) at count old new
    → IsLeft (archive_of mib old) (archive_of mib new) from count
torn_left mib old new s at count from some one place torn =
    let name : List ℕ = segment_name_bytes s mib in
    let below : (x : ℕ) → x % segment_bytes mib < segment_bytes mib = λ x.
    mod_below x (segment_bytes mib) (omega (arith, some)) in
    let byte : (f : Files) (x : ℕ) → x / segment_bytes mib ≡ s
    → byte_of mib f x ≡ nth (bytes_of f name) (x % segment_bytes mib) = λ f x e.
    byte_at mib f x s (x % segment_bytes mib) e refl
    ∙ ap (λ l. nth l (x % segment_bytes mib)) (held_old mib f s one)
    ∙ nth_take (segment_bytes mib) (bytes_of f name) (x % segment_bytes mib) (below x) in
    let other : (x : ℕ) → (x / segment_bytes mib ≡ s → ⊥)
    → byte_of mib new x ≡ byte_of mib old x = λ x ne.
    byte_at mib new x (x / segment_bytes mib) (x % segment_bytes mib) refl refl
    ∙ ap (λ l. nth l (x % segment_bytes mib))
    (held_elsewhere mib old new s at count (x / segment_bytes mib) one torn ne)
    ∙ sym (byte_at mib old x (x / segment_bytes mib) (x % segment_bytes mib) refl refl) in
    let whole : (x : ℕ) → x / segment_bytes mib ≡ s
    → x ≡ s * segment_bytes mib + x % segment_bytes mib = λ x e.
    let d = div-add-mod' x (segment_bytes mib) in
    let k : x / segment_bytes mib * segment_bytes mib ≡ s * segment_bytes mib =
    ap (λ n. n * segment_bytes mib) e in omega (arith, d, k) in
    let missing : get new name ≡ None → bytes_of old name ≡ [] = λ e.
    none_old old name (torn.missing e) in
    record {
      before = λ x b lt held. elim (cases_eq (x / segment_bytes mib) s) [
        | inr ne ↦ other x ne ∙ held
        | inl e ↦ (let w = whole x e in
            byte new x e ∙ torn_before (get new name) (bytes_of old name) at count
            (x % segment_bytes mib) b missing torn.file (omega (arith, w, place, lt))
            (sym (byte old x e) ∙ held))
      ];
      behind = λ x le. elim (cases_eq (x / segment_bytes mib) s) [
        | inr ne ↦ other x ne
        | inl e ↦ (let w = whole x e in
            byte new x e ∙ torn_behind (get new name) (bytes_of old name) at count
            (x % segment_bytes mib) missing torn.file (omega (arith, w, place, le))
            ∙ sym (byte old x e))
      ];
    }

-- after a failed flush the entries before it are read still, and the next flush has to reach as far
pub left_kept : (judge : Judge) (mib system : ℕ) (old new : Files) (rs : List Record) (tip : Tip)
    (limit count : ℕ) → IsFair judge → 1 ≤ mib → IsKept judge mib system old rs tip limit
    → IsLeft (archive_of mib old) (archive_of mib new) tip.end count
    → IsKept judge mib system new rs tip (max limit (tip.end + count))
left_kept judge mib system old new rs tip limit count fair some kept left = record {
  walk = walks_extended judge mib system (archive_of mib old) (archive_of mib new) (first_tip mib)
      rs tip some fair (files_archive mib new some) (origin_end mib)
      (λ x b lt held. left.before x b lt held) kept.walk;
  zeros = λ x b held some_b. elim (cases_lt x (tip.end + count)) [
    | inl lt ↦ omega (arith, lt)
    | inr le ↦
        (let z = kept.zeros x b (sym (left.behind x le) ∙ held) some_b in omega (arith, z))
  ];
}

-- nothing new is held behind the written range
pub left_top : (mib : ℕ) (old new : Archive) (from count : ℕ) → IsArchive mib old
    → IsArchive mib new → IsLeft old new from count → new.top ≤ max old.top (from + count)
left_top mib old new from count arch arch_new left =
    elim (cases_lt (max old.top (from + count)) new.top) [
      | inr le ↦ le
      | inl lt ↦
          let t = arch_new.top_held (omega (arith, lt)) in
          let h = arch.held (new.top - 1) t.0
          (sym (left.behind (new.top - 1) (omega (arith, lt))) ∙ t.1) in
          absurd (omega (arith, h, lt))
    ]
