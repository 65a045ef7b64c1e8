-- What a write into segment files makes of the archive.
use Rattle.std.proofs.Common.{◌≡◌, ℕ, zero, suc, ◌+◌, ◌-◌, ◌*◌, ◌/◌, ◌%◌, ◌<◌, ◌≤◌, max, true, false, cond, ltb, leb, List, [], ◌∷◌, ◌++◌, length, get_or, take, drop, replicate, Option, Some, None, refl, sym, ap, subst, ◌∙◌, arith, inl, inr}
use Rattle.std.specs.Prelude.{is_some, unwrap_or}
use Rattle.std.specs.FinMap.{get, insert, contains_key, get-insert, slice_cmp-IsAntisymmetric, nat_cmp-IsAntisymmetric}
use Rattle.std.specs.Ordering.{nat_cmp, eq_by_cmp}
use Rattle.std.specs.Cmp.{Equal-is}
use Rattle.std.specs.Cmp.Lexicographic.{slice_cmp, nat_list_cmp_total}
use Rattle.std.proofs.lemmas.Cmp.{eq_by_cmp_equiv}
use Rattle.std.proofs.lemmas.Bool.{cases_lt, cases_eq, cases_Bool, le-ltb, le-leb, cond-true, cond-false, false_from_ne_true, and_parts, and_from}
use Rattle.std.proofs.lemmas.Nat.{div-mul-add, mod-mul-add, div-add-mod', mod_below, le-div, div_below}
use Rattle.std.proofs.Math.Nat.{mul_assoc}
use Rattle.std.proofs.lemmas.List.{length-append, length-take, length-take-le, length-drop, length-replicate, get_or-take, get_or_append_left, get_or-append_right, take-append-drop, drop_all, append-nil}
use Rattle.lsn_core.specs.byte_words.Pieces.{overwritten, zero_filled}
use Rattle.lsn_core.proofs.byte_words.Overwritten.{overwritten_before, overwritten_behind, overwritten_within}
use Rattle.lsn_core.specs.Files.{Files}
use Rattle.lsn_core.specs.Sizes.{most_segments}
use Rattle.lsn_core.specs.Segment.{segment_bytes}
use Rattle.lsn_core.specs.Names.{segment_name_bytes}
use Rattle.vault.specs.Area.{bytes_of, after_write, file_written}
use Rattle.wal_archive.specs.Archive.{Archive, is_segment, held_in, nth, byte_of, has_segment, archive_of}
use Rattle.wal_record.specs.Tips.{wal_limit}
use Rattle.wal_archive.specs.Writing.{room_in, archive_written}
use Rattle.wal_archive.proofs.Files.{nth_held, segment_range}
use Rattle.wal_archive.proofs.Names.{names_differ}

-- segments have names of their own
pub segment_names_differ : (mib s t : ℕ) → is_segment s ≡ true → is_segment t ≡ true
    → segment_name_bytes s mib ≡ segment_name_bytes t mib → s ≡ t
segment_names_differ mib s t one other e =
    (let a = segment_range s one in let b = segment_range t other in
    names_differ mib s t (omega (arith, a.1)) (omega (arith, b.1)) e)

-- ---- lists

pub nth_past : (l : List ℕ) (i : ℕ) → length l ≤ i → nth l i ≡ None
nth_past l i le = cond-false (ltb i (length l)) (Some (get_or l i 0)) None (le-ltb _ _ le)

pub nth_take : (n : ℕ) (l : List ℕ) (i : ℕ) → i < n → nth (take n l) i ≡ nth l i
nth_take n l i lt =
    elim (cases_lt i (length l)) [
      | inl in_l ↦ nth_held (take n l) i (let t = length-take n l in omega (arith, t, lt, in_l))
          ∙ ap Some (get_or-take n l i 0 lt) ∙ sym (nth_held l i in_l)
      | inr past ↦ nth_past (take n l) i (let t = length-take n l in omega (arith, t, past))
          ∙ sym (nth_past l i past)
    ]

-- a file's bytes after a write of some bytes
abbrev new_bytes : List ℕ → ℕ → List ℕ → List ℕ
new_bytes old at piece = overwritten (zero_filled old at) at piece

written_some : (old : List ℕ) (at : ℕ) (piece : List ℕ) → 0 < length piece
    → file_written old at piece ≡ new_bytes old at piece
written_some old at [] some = absurd (omega (arith, some))
written_some old at (b ∷ bs) some = refl

length_filled : (old : List ℕ) (at : ℕ) → length (zero_filled old at) ≡ max (length old) at
length_filled old at = (let a = length-append old (replicate (at - length old) 0) in
    let r = length-replicate {A = ℕ} (at - length old) 0 in omega (arith, a, r))

length_new : (old : List ℕ) (at : ℕ) (piece : List ℕ)
    → length (new_bytes old at piece) ≡ max (length old) (at + length piece)
length_new old at piece =
    let f = length_filled old at in
    let t = length-take-le at (zero_filled old at) (omega (arith, f)) in
    let d = length-drop (at + length piece) (zero_filled old at) in
    let a = length-append (take at (zero_filled old at))
    (piece ++ drop (at + length piece) (zero_filled old at)) in
    let b = length-append piece (drop (at + length piece) (zero_filled old at)) in
    omega (arith, f, t, d, a, b)

new_within : (old : List ℕ) (at : ℕ) (piece : List ℕ) (i : ℕ) → i < length piece
    → nth (new_bytes old at piece) (at + i) ≡ Some (get_or piece i 0)
new_within old at piece i lt =
    let f = length_filled old at in
    let l = length_new old at piece in
    nth_held (new_bytes old at piece) (at + i) (omega (arith, l, lt))
    ∙ ap Some (overwritten_within (zero_filled old at) at piece i (omega (arith, f)) lt)

new_before : (old : List ℕ) (at : ℕ) (piece : List ℕ) (i : ℕ) → i < at → i < length old
    → nth (new_bytes old at piece) i ≡ nth old i
new_before old at piece i lt held =
    let f = length_filled old at in
    let l = length_new old at piece in
    nth_held (new_bytes old at piece) i (omega (arith, l, held))
    ∙ ap Some (overwritten_before (zero_filled old at) at piece i (omega (arith, f)) lt
    ∙ get_or_append_left old (replicate (at - length old) 0) 0 i held)
    ∙ sym (nth_held old i held)

new_behind : (old : List ℕ) (at : ℕ) (piece : List ℕ) (i : ℕ) → at + length piece ≤ i
    → nth (new_bytes old at piece) i ≡ nth old i
new_behind old at piece i le =
    let f = length_filled old at in
    let l = length_new old at piece in
    elim (cases_lt i (length old)) [
      | inl held ↦ nth_held (new_bytes old at piece) i (omega (arith, l, held))
          ∙ ap Some (overwritten_behind (zero_filled old at) at piece i (omega (arith, f)) le
          ∙ get_or_append_left old (replicate (at - length old) 0) 0 i held)
          ∙ sym (nth_held old i held)
      | inr past ↦ nth_past (new_bytes old at piece) i (omega (arith, l, past, le))
          ∙ sym (nth_past old i past)
    ]

-- ---- files

pub same_name : (x y : List ℕ) → eq_by_cmp (slice_cmp nat_cmp) x y ≡ true → x ≡ y
same_name x y e = slice_cmp-IsAntisymmetric nat_cmp-IsAntisymmetric x y ((Equal-is _).0 e)

get_here : (files : Files) (name bytes : List ℕ) → get (insert files name bytes) name ≡ Some bytes
get_here files name bytes = get-insert nat_list_cmp_total files name bytes name
    ∙ cond-true _ (Some bytes) (get files name) ((eq_by_cmp_equiv nat_list_cmp_total).refl name)

get_other : (files : Files) (name bytes q : List ℕ) → (q ≡ name → ⊥)
    → get (insert files name bytes) q ≡ get files q
get_other files name bytes q ne = get-insert nat_list_cmp_total files name bytes q
    ∙ cond-false _ (Some bytes) (get files q) (false_from_ne_true _ (λ e. ne (same_name q name e)))

held_same : (mib : ℕ) (files : Files) (s at : ℕ) (piece : List ℕ) → is_segment s ≡ true
    → 0 < length piece → held_in mib (after_write (segment_name_bytes s mib) at piece files) s
    ≡ take (segment_bytes mib) (new_bytes (bytes_of files (segment_name_bytes s mib)) at piece)
unfolding held_in
held_same mib files s at piece one some =
    cond-true (is_segment s) (take (segment_bytes mib)
    (bytes_of (after_write (segment_name_bytes s mib) at piece files)
    (segment_name_bytes s mib))) [] one
    ∙ ap (λ o. take (segment_bytes mib) (unwrap_or o []))
    (get_here files (segment_name_bytes s mib)
    (file_written (bytes_of files (segment_name_bytes s mib)) at piece))
    ∙ ap (take (segment_bytes mib))
    (written_some (bytes_of files (segment_name_bytes s mib)) at piece some)

pub held_old : (mib : ℕ) (files : Files) (s : ℕ) → is_segment s ≡ true
    → held_in mib files s ≡ take (segment_bytes mib) (bytes_of files (segment_name_bytes s mib))
unfolding held_in
held_old mib files s one = cond-true (is_segment s)
    (take (segment_bytes mib) (bytes_of files (segment_name_bytes s mib))) [] one

held_other : (mib : ℕ) (files : Files) (s at : ℕ) (piece : List ℕ) (t : ℕ) → is_segment s ≡ true
    → (t ≡ s → ⊥) → held_in mib (after_write (segment_name_bytes s mib) at piece files) t
    ≡ held_in mib files t
unfolding held_in
held_other mib files s at piece t one ne =
    elim (cases_Bool (is_segment t)) [
      | inl two ↦
          cond-true (is_segment t) (take (segment_bytes mib)
          (bytes_of (after_write (segment_name_bytes s mib) at piece files)
          (segment_name_bytes t mib))) [] two
          ∙ ap (λ o. take (segment_bytes mib) (unwrap_or o []))
          (get_other files (segment_name_bytes s mib)
          (file_written (bytes_of files (segment_name_bytes s mib)) at piece)
          (segment_name_bytes t mib) (λ e. ne (segment_names_differ mib t s two one e)))
          ∙ sym (cond-true (is_segment t)
          (take (segment_bytes mib) (bytes_of files (segment_name_bytes t mib))) [] two)
      | inr none ↦
          cond-false (is_segment t) (take (segment_bytes mib)
          (bytes_of (after_write (segment_name_bytes s mib) at piece files)
          (segment_name_bytes t mib))) [] none
          ∙ sym (cond-false (is_segment t)
          (take (segment_bytes mib) (bytes_of files (segment_name_bytes t mib))) [] none)
    ]

-- ---- the archive

-- bytes written from a place on: they are there, those before stay or, where none were, may be
-- zeros, those behind are as before
pub record IsWritten (mib : ℕ) (a new : Archive) (from : ℕ) (piece : List ℕ) : Type 0 where
  pub within : (i : ℕ) → i < length piece → new.byte (from + i) ≡ Some (get_or piece i 0)
  pub before : (x b : ℕ) → x < from → a.byte x ≡ Some b → new.byte x ≡ Some b
  pub behind : (x : ℕ) → from + length piece ≤ x → new.byte x ≡ a.byte x
  pub files : (s : ℕ) → a.has_file s ≡ true → new.has_file s ≡ true

pub written_on : (mib : ℕ) (a mid new : Archive) (from : ℕ) (p q : List ℕ)
    → IsWritten mib a mid from p → IsWritten mib mid new (from + length p) q
    → IsWritten mib a new from (p ++ q)
written_on mib a mid new from p q one two =
    let l = length-append p q in
    record {
      within = λ i lt. elim (cases_lt i (length p)) [
        | inl lo ↦ two.before (from + i) (get_or p i 0) (omega (arith, lo)) (one.within i lo)
            ∙ ap Some (sym (get_or_append_left p q 0 i lo))
        | inr hi ↦ ap new.byte (let e : from + i ≡ from + length p + (i - length p) =
            omega (arith, hi) in e) ∙ two.within (i - length p) (omega (arith, lt, l, hi))
            ∙ ap Some (sym (get_or-append_right p q (length p) i 0 refl hi))
      ];
      before = λ x b lt held. two.before x b (omega (arith, lt)) (one.before x b lt held);
      behind = λ x le. two.behind x (omega (arith, le, l)) ∙ one.behind x (omega (arith, le, l));
      files = λ s there. two.files s (one.files s there);
    }

-- a place as its segment and the byte in it
pub at_split : (mib x s i : ℕ) → 1 ≤ mib → x ≡ s * segment_bytes mib + i → i < segment_bytes mib
    → (x / segment_bytes mib ≡ s) × (x % segment_bytes mib ≡ i)
at_split mib x s i some e lt = (
  ap (λ n. n / segment_bytes mib) e ∙ div-mul-add s (segment_bytes mib) i lt,
  ap (λ n. n % segment_bytes mib) e ∙ mod-mul-add s (segment_bytes mib) i lt,
)

pub byte_at : (mib : ℕ) (files : Files) (x s i : ℕ) → x / segment_bytes mib ≡ s
    → x % segment_bytes mib ≡ i → byte_of mib files x ≡ nth (held_in mib files s) i
unfolding byte_of
byte_at mib files x s i es ei = ap (λ n. nth (held_in mib files n) (x % segment_bytes mib)) es
    ∙ ap (nth (held_in mib files s)) ei

has_more : (mib : ℕ) (files : Files) (name bytes : List ℕ) (s : ℕ) → has_segment mib files s ≡ true
    → has_segment mib (insert files name bytes) s ≡ true
unfolding has_segment
has_more mib files name bytes s e =
    let p = and_parts (is_segment s) (contains_key files (segment_name_bytes s mib)) e in
    and_from (is_segment s) (contains_key (insert files name bytes) (segment_name_bytes s mib)) p.0
    (ap is_some (get-insert nat_list_cmp_total files name bytes (segment_name_bytes s mib))
    ∙ elim (eq_by_cmp (slice_cmp nat_cmp) (segment_name_bytes s mib) name) as
    (λ b. is_some (cond b (Some bytes) (get files (segment_name_bytes s mib))) ≡ true)
    [ true ↦ refl | false ↦ p.1 ])

pub one_write : (mib : ℕ) (files : Files) (s at from : ℕ) (piece : List ℕ) → 1 ≤ mib
    → is_segment s ≡ true → 0 < length piece → from ≡ s * segment_bytes mib + at
    → at + length piece ≤ segment_bytes mib
    → IsWritten mib (archive_of mib files)
    (archive_of mib (after_write (segment_name_bytes s mib) at piece files)) from piece
one_write mib files s at from piece some one long place fits =
    let size : ℕ = segment_bytes mib in
    let old : List ℕ = bytes_of files (segment_name_bytes s mib) in
    let new : Files = after_write (segment_name_bytes s mib) at piece files in
    let here : (x i : ℕ) → x ≡ s * segment_bytes mib + i → i < segment_bytes mib
    → byte_of mib new x ≡ nth (new_bytes old at piece) i = λ x i e lt.
    let d = at_split mib x s i some e lt in
    byte_at mib new x s i d.0 d.1 ∙ ap (λ l. nth l i) (held_same mib files s at piece one long)
    ∙ nth_take (segment_bytes mib) (new_bytes old at piece) i lt in
    let there : (x i : ℕ) → x ≡ s * segment_bytes mib + i → i < segment_bytes mib
    → byte_of mib files x ≡ nth old i = λ x i e lt.
    let d = at_split mib x s i some e lt in
    byte_at mib files x s i d.0 d.1 ∙ ap (λ l. nth l i) (held_old mib files s one)
    ∙ nth_take (segment_bytes mib) old i lt in
    let other : (x : ℕ) → (x / segment_bytes mib ≡ s → ⊥)
    → byte_of mib new x ≡ byte_of mib files x = λ x ne.
    byte_at mib new x (x / segment_bytes mib) (x % segment_bytes mib) refl refl
    ∙ ap (λ l. nth l (x % segment_bytes mib))
    (held_other mib files s at piece (x / segment_bytes mib) one ne)
    ∙ sym (byte_at mib files x (x / segment_bytes mib) (x % segment_bytes mib) refl refl) in
    let whole : (x : ℕ) → x / segment_bytes mib ≡ s
    → x ≡ s * segment_bytes mib + x % segment_bytes mib = λ x e.
    let d = div-add-mod' x (segment_bytes mib) in
    let k : x / segment_bytes mib * segment_bytes mib ≡ s * segment_bytes mib =
    ap (λ n. n * segment_bytes mib) e in omega (arith, d, k) in
    let below : (x : ℕ) → x % segment_bytes mib < segment_bytes mib = λ x.
    mod_below x (segment_bytes mib) (omega (arith, some)) in
    record {
      within = λ i lt. here (from + i) (at + i) (omega (arith, place)) (omega (arith, fits, lt))
          ∙ new_within old at piece i lt;
      before = λ x b lt held.
          elim (cases_eq (x / segment_bytes mib) s) [
            | inr ne ↦ other x ne ∙ held
            | inl e ↦
                let i : ℕ = x % segment_bytes mib in
                let w = whole x e in
                let h : nth old i ≡ Some b = sym (there x i w (below x)) ∙ held in
                let in_old : i < length old = elim (cases_lt i (length old))
                [ inl lo ↦ lo | inr past ↦ absurd (none_some (sym (nth_past old i past) ∙ h)) ]
                in
                here x i w (below x) ∙ new_before old at piece i (omega (arith, w, place, lt))
                in_old ∙ h
          ];
      behind = λ x le.
          elim (cases_eq (x / segment_bytes mib) s) [
            | inr ne ↦ other x ne
            | inl e ↦ (let w = whole x e in
                here x (x % segment_bytes mib) w (below x)
                ∙ new_behind old at piece (x % segment_bytes mib) (omega (arith, w, place, le))
                ∙ sym (there x (x % segment_bytes mib) w (below x)))
          ];
      files = λ t e. has_more mib files (segment_name_bytes s mib) (file_written old at piece) t e;
    }
  where
    none_some : {b : ℕ} → ◌≡◌ {A = Option ℕ} None (Some b) → ⊥
    none_some e = absurd cc

pub segment_by : (s : ℕ) → 1 ≤ s → s ≤ most_segments → is_segment s ≡ true
unfolding is_segment
segment_by s lo hi = and_from (leb 1 s) (leb s most_segments) (le-leb _ _ lo) (le-leb _ _ hi)

pub written_none : (mib n at : ℕ) (files : Files) → archive_written mib n at [] files ≡ files
unfolding archive_written
written_none mib zero at files = refl
written_none mib (suc n) at files = refl

pub written_more : (mib n at : ℕ) (bytes : List ℕ) (files : Files) → 0 < length bytes
    → archive_written mib (suc n) at bytes files
    ≡ archive_written mib n (at + room_in at) (drop (room_in at) bytes)
    (after_write (segment_name_bytes (at / segment_bytes mib) mib) (at % segment_bytes mib)
    (take (room_in at) bytes) files)
unfolding archive_written
written_more mib n at [] files some = absurd (omega (arith, some))
written_more mib n at (b ∷ bytes) files some = refl

-- the room up to the next MiB lies in one segment
pub room_fits : (mib at : ℕ) → 1 ≤ mib → at % segment_bytes mib + room_in at ≤ segment_bytes mib
room_fits mib at some =
    let d : at / segment_bytes mib * segment_bytes mib + at % segment_bytes mib ≡ at =
    div-add-mod' at (segment_bytes mib) in
    let m : at / segment_bytes mib * segment_bytes mib ≡ at / segment_bytes mib * mib * 1048576 =
    sym (mul_assoc (at / segment_bytes mib) mib 1048576) in
    let lt : at % segment_bytes mib < segment_bytes mib =
    mod_below at (segment_bytes mib) (omega (arith, some)) in
    omega (arith, d, m, lt)

-- the bytes written over segments
pub archive_is_written : (mib segments at : ℕ) (bytes : List ℕ) (files : Files) → 1 ≤ mib
    → segment_bytes mib ≤ at → at + length bytes ≤ wal_limit mib → 0 < length bytes
    → length bytes ≤ segments → IsWritten mib (archive_of mib files)
    (archive_of mib (archive_written mib segments at bytes files)) at bytes
archive_is_written mib zero at bytes files some least most long enough =
    absurd (omega (arith, long, enough))
archive_is_written mib (suc n) at bytes files some least most long enough =
    let s : ℕ = at / segment_bytes mib in
    let off : ℕ = at % segment_bytes mib in
    let room : ℕ = room_in at in
    let fits : off + room ≤ segment_bytes mib = room_fits mib at some in
    let d : s * segment_bytes mib + off ≡ at = div-add-mod' at (segment_bytes mib) in
    let lt : off < segment_bytes mib = mod_below at (segment_bytes mib) (omega (arith, some)) in
    let lo : 1 ≤ s = le-div 1 at (segment_bytes mib) (omega (arith, some)) (omega (arith, least)) in
    let hi : s < most_segments + 1 =
    div_below at (segment_bytes mib) (most_segments + 1) (omega (arith, some))
    (omega (arith, most, long)) in
    let one : is_segment s ≡ true = segment_by s lo (omega (arith, hi)) in
    let p : List ℕ = take room bytes in
    let q : List ℕ = drop room bytes in
    let mid : Files = after_write (segment_name_bytes s mib) off p files in
    let lp = length-take room bytes in
    let lq = length-drop room bytes in
    let first : IsWritten mib (archive_of mib files) (archive_of mib mid) at p =
    one_write mib files s off at p some one (omega (arith, lp, long, lt)) (sym d)
    (omega (arith, lp, fits)) in
    let whole : IsWritten mib (archive_of mib files)
    (archive_of mib (archive_written mib n (at + room) q mid)) at (p ++ q) =
    elim (cases_lt room (length bytes)) [
      | inr small ↦
          let none : q ≡ [] = drop_all room bytes small in
          let same : archive_written mib n (at + room) q mid ≡ mid =
          ap (λ l. archive_written mib n (at + room) l mid) none
          ∙ written_none mib n (at + room) mid in
          let all : p ++ q ≡ p = ap (λ l. p ++ l) none ∙ append-nil p in
          subst (λ f. IsWritten mib (archive_of mib files) (archive_of mib f) at (p ++ q))
          (sym same) (subst (λ l. IsWritten mib (archive_of mib files) (archive_of mib mid) at
          l) (sym all) first)
      | inl big ↦
          let more = archive_is_written mib n (at + room) q mid some (omega (arith, least))
          (omega (arith, lq, most, big)) (omega (arith, lq, big))
          (omega (arith, lq, enough, lt)) in
          let there = subst (λ k. IsWritten mib (archive_of mib mid)
          (archive_of mib (archive_written mib n (at + room) q mid)) k q)
          (let e : at + room ≡ at + length p = omega (arith, lp, big) in e) more in
          written_on mib (archive_of mib files) (archive_of mib mid)
          (archive_of mib (archive_written mib n (at + room) q mid)) at p q first there
    ] in
    subst (λ f. IsWritten mib (archive_of mib files) (archive_of mib f) at bytes)
    (sym (written_more mib n at bytes files long))
    (subst (λ l. IsWritten mib (archive_of mib files)
    (archive_of mib (archive_written mib n (at + room) q mid)) at l)
    (take-append-drop room bytes) whole)
