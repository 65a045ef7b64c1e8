-- What is held of an archive while it is cut behind a place.
use Rattle.std.proofs.Common.{◌≡◌, ◌≢◌, ℕ, zero, suc, ◌+◌, ◌*◌, ◌/◌, ◌%◌, ◌<◌, ◌≤◌, inl, inr, Bool, true, false, cond, List, [], ◌∷◌, ◌++◌, length, take, Option, Some, None, IfSome, Result, Ok, Err, OnOk, unwrap_or, option_map, refl, sym, ap, subst, ◌∙◌, arith}
use Rattle.std.specs.Cmp.Lexicographic.{nat_list_cmp_total}
use Rattle.std.specs.FinMap.{get, keys, get-insert, get-remove}
use Rattle.std.proofs.lemmas.Bool.{cases_lt, cases_eq, cases_Bool, cond-true, cond-false}
use Rattle.std.proofs.lemmas.Nat.{div-add-mod', mod_below}
use Rattle.std.proofs.lemmas.List.{length-take}
use Rattle.std.proofs.Math.Seq.{take-nil}
use Rattle.lsn_core.specs.Files.{Files}
use Rattle.lsn_core.specs.Names.{segment_name_bytes, segment_number}
use Rattle.lsn_core.specs.Segment.{segment_bytes}
use Rattle.lsn_core.proofs.StoreFiles.{name_itself}
use Rattle.lsn_core.specs.declared.fault.AreaFault.{AreaFault}
use Rattle.vault.specs.Area.{bytes_of, cut_to, after_cut, after_remove, Related}
use Rattle.vault.specs.Stops.{Event, IsCutFile, IsCutTo, Made}
use Rattle.vault.specs.Frame.{Adds}
use Rattle.vault.proofs.Through.{leaves_only}
use Rattle.vault.proofs.SetAreas.{same_or_not}
use Rattle.vault.proofs.Undone.{cut_is_cut, removed_is_removed}
use Rattle.wal_archive.specs.Archive.{Archive, is_segment, held_in, nth, byte_of}
use Rattle.wal_archive.proofs.Files.{nth_held}
use Rattle.wal_archive.proofs.Writes.{nth_past, nth_take, held_old, byte_at, segment_names_differ}
use Rattle.store_restart.specs.Trimmed.{IsLaterFile, IsTrim, AreCutAt, HoldsFront, KeepsFront}
use Rattle.store_restart.specs.Trimming.{DropsLater, Clears, own_cut, CutsOwn}
use Rattle.store_restart.proofs.Names.{IsOne, is_key, last_or}

-- ---- later files removed one after the other

-- the later files that are there still are among the names that are left
pub record IsClearing (mib own : ℕ) (left : List (List ℕ)) (old new : Files) : Type 0 where
  pub kept : (seg : ℕ) → is_segment seg ≡ true → seg ≤ own → get new (segment_name_bytes seg mib) ≡ get old (segment_name_bytes seg mib)
  pub gone : (seg : ℕ) → is_segment seg ≡ true → own < seg → get new (segment_name_bytes seg mib) ≢ None → IsOne (segment_name_bytes seg mib) left

-- ---- the bytes of a segment

-- an earlier segment ends where a later one begins, or before that
below : (k s r : ℕ) → k < s → k * r + r ≤ s * r
below k zero r l = absurd (omega arith)
below zero (suc s) r l = omega arith
below (suc k) (suc s) r l = let h = below k s r (omega arith) in omega (arith, h)

module _ (mib : ℕ) (some : 1 ≤ mib) where
  abbrev size : ℕ
  size = segment_bytes mib

  inside : (x : ℕ) → x % size < size
  inside x = mod_below x size (omega (arith, some))

  whole : (x : ℕ) → x ≡ x / size * size + x % size
  whole x = let d = div-add-mod' x size in omega (arith, d)

  -- a byte of the archive is one of its segment's file
  byte_in : (files : Files) (x : ℕ) → is_segment (x / size) ≡ true → byte_of mib files x ≡ nth (bytes_of files (segment_name_bytes (x / size) mib)) (x % size)
  byte_in files x one =
      byte_at mib files x (x / size) (x % size) refl refl ∙ ap (λ (l : List ℕ). nth l (x % size)) (held_old mib files (x / size) one)
      ∙ nth_take size (bytes_of files (segment_name_bytes (x / size) mib)) (x % size) (inside x)

  none_held : (files : Files) (s : ℕ) → is_segment s ≡ false → held_in mib files s ≡ []
  unfolding held_in
  none_held files s none = cond-false (is_segment s) (take size (bytes_of files (segment_name_bytes s mib))) [] none

  byte_none : (files : Files) (x : ℕ) → is_segment (x / size) ≡ false → byte_of mib files x ≡ None
  byte_none files x none =
      byte_at mib files x (x / size) (x % size) refl refl ∙ ap (λ (l : List ℕ). nth l (x % size)) (none_held files (x / size) none) ∙ nth_past [] (x % size) (omega arith)

  -- where a segment's file has the same bytes, so has the archive
  same_byte : (old new : Files) (x : ℕ) → (is_segment (x / size) ≡ true → get new (segment_name_bytes (x / size) mib) ≡ get old (segment_name_bytes (x / size) mib)) → byte_of mib new x ≡ byte_of mib old x
  same_byte old new x same = elim (cases_Bool (is_segment (x / size))) [
    | inl one ↦ byte_in new x one ∙ ap (λ (o : Option (List ℕ)). nth (unwrap_or o []) (x % size)) (same one) ∙ sym (byte_in old x one)
    | inr none ↦ byte_none new x none ∙ sym (byte_none old x none)
  ]

  -- a place before another one is in an earlier segment, or earlier in its own
  pub record IsBefore (x end : ℕ) : Type 0 where
    pub seg : x / size ≤ end / size
    pub own : x / size ≡ end / size → x % size < end % size

  is_before : (x end : ℕ) → x < end → IsBefore x end
  is_before x end less = record {
    seg = elim (cases_lt (end / size) (x / size)) [
      | inl l ↦ (let o = below (end / size) (x / size) size l in let a = whole x in let b = whole end in let c = inside end in absurd (omega (arith, o, a, b, c, less)))
      | inr l ↦ l
    ];
    own = λ same. let t = ap (λ (n : ℕ). n * size) same in let a = whole x in let b = whole end in omega (arith, t, a, b, less);
  }

  pub record IsBehind (x end : ℕ) : Type 0 where
    seg : end / size ≤ x / size
    own : x / size ≡ end / size → end % size ≤ x % size

  is_behind : (x end : ℕ) → end ≤ x → IsBehind x end
  is_behind x end le = record {
    seg = elim (cases_lt (x / size) (end / size)) [
      | inl l ↦ (let o = below (x / size) (end / size) size l in let a = whole x in let b = whole end in let c = inside x in absurd (omega (arith, o, a, b, c, le)))
      | inr l ↦ l
    ];
    own = λ same. let t = ap (λ (n : ℕ). n * size) same in let a = whole x in let b = whole end in omega (arith, t, a, b, le);
  }

  -- ---- what a stop leaves

  cut_nth : (old : List ℕ) (o : Option (List ℕ)) (count i b : ℕ) → (o ≡ None → old ≡ []) → IfSome o (IsCutFile count old) → i < count → nth old i ≡ Some b → nth (unwrap_or o []) i ≡ Some b
  cut_nth old None count i b missing file less held = ap (λ (l : List ℕ). nth l i) (sym (missing refl)) ∙ held
  cut_nth old (Some l) count i b missing file less held = elim (cases_lt i (length old)) [
    | inl within ↦ nth_held l i (let least = file.least in omega (arith, least, within, less)) ∙ ap Some (file.before i within less) ∙ sym (nth_held old i within) ∙ held
    | inr past ↦ absurd (none_some b (sym (nth_past old i past) ∙ held))
  ]
    where
      none_some : (c : ℕ) → ◌≡◌ {A = Option ℕ} None (Some c) → ⊥
      none_some c e = absurd cc

  no_byte : (b : ℕ) → ◌≡◌ {A = Option ℕ} None (Some b) → ⊥
  no_byte b e = absurd cc

  segment_byte : (files : Files) (x b : ℕ) → byte_of mib files x ≡ Some b → is_segment (x / size) ≡ true
  segment_byte files x b held = elim (cases_Bool (is_segment (x / size))) [
    | inl one ↦ one
    | inr none ↦ absurd (no_byte b (sym (byte_none files x none) ∙ held))
  ]

  none_bytes : (files : Files) (name : List ℕ) → get files name ≡ None → bytes_of files name ≡ []
  none_bytes files name e = ap (λ (o : Option (List ℕ)). unwrap_or o []) e

  -- each event of it keeps what is held before the place
  event_keeps : (end : ℕ) (a : Archive) (event : Event) (d c : Files) → IsTrim mib end event → HoldsFront mib end a d → Made event d c → HoldsFront mib end a c
  event_keeps end a (inl w) d c trim holds made = absurd trim
  event_keeps end a (inr (inl k)) d c trim holds made = λ x b less held.
      let was : byte_of mib d x ≡ Some b = holds x b less held in
      let one = segment_byte d x b was in
      let own : ℕ = end / size in
      let name : List ℕ = segment_name_bytes own mib in
      let t : IsCutTo name (end % size) d c = subst (λ (n : ℕ). IsCutTo name n d c) trim.1.1 (subst (λ (q : List ℕ). IsCutTo q k.1 d c) trim.1.0 made) in
      elim (cases_eq (x / size) own) [
        | inl same ↦
            let at = (is_before x end less).own same in
            let path : segment_name_bytes (x / size) mib ≡ name = ap (λ (s : ℕ). segment_name_bytes s mib) same in
            byte_in c x one ∙ ap (λ (q : List ℕ). nth (bytes_of c q) (x % size)) path
            ∙ cut_nth (bytes_of d name) (get c name) (end % size) (x % size) b (λ e. none_bytes d name (t.missing e)) t.file at
            (sym (byte_in d x one ∙ ap (λ (q : List ℕ). nth (bytes_of d q) (x % size)) path) ∙ was)
        | inr other ↦ same_byte d c x (λ two. t.others (segment_name_bytes (x / size) mib) (λ e. other (segment_names_differ mib (x / size) own two trim.0 e))) ∙ was
      ]
  event_keeps end a (inr (inr (inl name))) d c trim holds made = λ x b less held.
      let was : byte_of mib d x ≡ Some b = holds x b less held in
      let before = (is_before x end less).seg in
      same_byte d c x (λ one. made.others (segment_name_bytes (x / size) mib) (λ e.
      let s = segment_names_differ mib (x / size) trim.seg one trim.there (e ∙ trim.named) in
      let l = trim.later in
      omega (arith, s, l, before))) ∙ was
  event_keeps end a (inr (inr (inr None))) d c trim holds made = subst (HoldsFront mib end a) (sym made) holds
  event_keeps end a (inr (inr (inr (Some files)))) d c trim holds made = subst (HoldsFront mib end a) (sym made.0) holds

  pub front_kept : (end : ℕ) (old new : Option (List Event)) → Adds (IsTrim mib end) old new → KeepsFront mib end old new
  front_kept end old new adds a left = leaves_only (HoldsFront mib end a) (IsTrim mib end) old new (event_keeps end a) adds left

  -- ---- what is held at the end

  own_there : (end : ℕ) (files : Files) → is_segment (end / size) ≡ true → (o : Option (List ℕ)) → get files (segment_name_bytes (end / size) mib) ≡ o
      → get (cut_to files (segment_name_bytes (end / size) mib) (end % size) o) (segment_name_bytes (end / size) mib) ≡ option_map (take (end % size)) o
  own_there end files one None e = e
  own_there end files one (Some bytes) e =
      get-insert nat_list_cmp_total files (segment_name_bytes (end / size) mib) (take (end % size) bytes) (segment_name_bytes (end / size) mib)
      ∙ ap (λ (b : Bool). cond b (Some (take (end % size) bytes)) (get files (segment_name_bytes (end / size) mib))) (name_itself (segment_name_bytes (end / size) mib))

  taken : (n : ℕ) (o : Option (List ℕ)) → unwrap_or (option_map (take n) o) [] ≡ take n (unwrap_or o [])
  taken n None = sym (take-nil n)
  taken n (Some bytes) = refl

  module _ (end : ℕ) (old mid : Files) (clears : Clears mib (end / size) old mid) where
    abbrev new : Files
    new = own_cut mib end mid

    -- where the place's own segment is one of the archive its file is cut, and else nothing changes
    is_cut : is_segment (end / size) ≡ true → new ≡ after_cut (segment_name_bytes (end / size) mib) (end % size) mid
    is_cut one = cond-true (is_segment (end / size)) (after_cut (segment_name_bytes (end / size) mib) (end % size) mid) mid one

    isnt_cut : is_segment (end / size) ≡ false → new ≡ mid
    isnt_cut none = cond-false (is_segment (end / size)) (after_cut (segment_name_bytes (end / size) mib) (end % size) mid) mid none

    other_file : (s : ℕ) → is_segment s ≡ true → (s ≡ end / size → ⊥) → get new (segment_name_bytes s mib) ≡ get mid (segment_name_bytes s mib)
    other_file s one other = elim (cases_Bool (is_segment (end / size))) [
      | inl two ↦ ap (λ (m : Files). get m (segment_name_bytes s mib)) (is_cut two)
          ∙ (cut_is_cut (segment_name_bytes (end / size) mib) (end % size) mid).others (segment_name_bytes s mib) (λ e. other (segment_names_differ mib s (end / size) one two e))
      | inr none ↦ ap (λ (m : Files). get m (segment_name_bytes s mib)) (isnt_cut none)
    ]

    own_bytes : is_segment (end / size) ≡ true → bytes_of new (segment_name_bytes (end / size) mib) ≡ take (end % size) (bytes_of mid (segment_name_bytes (end / size) mib))
    own_bytes one =
        ap (λ (m : Files). bytes_of m (segment_name_bytes (end / size) mib)) (is_cut one)
        ∙ ap (λ (o : Option (List ℕ)). unwrap_or o []) (own_there end mid one (get mid (segment_name_bytes (end / size) mib)) refl)
        ∙ taken (end % size) (get mid (segment_name_bytes (end / size) mib))

    own_byte : (x : ℕ) → x / size ≡ end / size → is_segment (end / size) ≡ true → byte_of mib new x ≡ nth (take (end % size) (bytes_of mid (segment_name_bytes (end / size) mib))) (x % size)
    own_byte x same one =
        byte_in new x (subst (λ (s : ℕ). is_segment s ≡ true) (sym same) one)
        ∙ ap (λ (s : ℕ). nth (bytes_of new (segment_name_bytes s mib)) (x % size)) same ∙ ap (λ (l : List ℕ). nth l (x % size)) (own_bytes one)

    mid_byte : (x : ℕ) → x / size ≡ end / size → is_segment (end / size) ≡ true → byte_of mib mid x ≡ nth (bytes_of mid (segment_name_bytes (end / size) mib)) (x % size)
    mid_byte x same one =
        byte_in mid x (subst (λ (s : ℕ). is_segment s ≡ true) (sym same) one)
        ∙ ap (λ (s : ℕ). nth (bytes_of mid (segment_name_bytes s mib)) (x % size)) same

    mid_before : (x : ℕ) → x / size ≤ end / size → byte_of mib mid x ≡ byte_of mib old x
    mid_before x le = same_byte old mid x (λ one. clears.kept (x / size) one le)

    before : (x : ℕ) → x < end → byte_of mib new x ≡ byte_of mib old x
    before x less =
        let place = is_before x end less in
        elim (cases_eq (x / size) (end / size)) [
          | inl same ↦ elim (cases_Bool (is_segment (end / size))) [
            | inl one ↦ own_byte x same one ∙ nth_take (end % size) (bytes_of mid (segment_name_bytes (end / size) mib)) (x % size) (place.own same) ∙ sym (mid_byte x same one) ∙ mid_before x place.seg
            | inr none ↦ ap (λ (m : Files). byte_of mib m x) (isnt_cut none) ∙ mid_before x place.seg
          ]
          | inr other ↦ same_byte mid new x (λ one. other_file (x / size) one other) ∙ mid_before x place.seg
        ]

    none : (x : ℕ) → end ≤ x → byte_of mib new x ≡ None
    none x le =
        let place = is_behind x end le in
        elim (cases_eq (x / size) (end / size)) [
          | inl same ↦ elim (cases_Bool (is_segment (end / size))) [
            | inl one ↦ own_byte x same one
                ∙ nth_past (take (end % size) (bytes_of mid (segment_name_bytes (end / size) mib))) (x % size) (let p = place.own same in let l = length-take (end % size) (bytes_of mid (segment_name_bytes (end / size) mib)) in omega (arith, p, l))
            | inr out ↦ byte_none new x (subst (λ (s : ℕ). is_segment s ≡ false) (sym same) out)
          ]
          | inr other ↦
              let behind : end / size < x / size = (let s = place.seg in elim (cases_lt (end / size) (x / size)) [ inl l ↦ l | inr l ↦ absurd (other (omega (arith, s, l))) ]) in
              elim (cases_Bool (is_segment (x / size))) [
                | inl one ↦ byte_in new x one ∙ ap (λ (o : Option (List ℕ)). nth (unwrap_or o []) (x % size)) (other_file (x / size) one other ∙ clears.gone (x / size) one behind) ∙ nth_past [] (x % size) (omega arith)
                | inr out ↦ byte_none new x out
              ]
        ]

    pub cut_archive : AreCutAt mib end old (own_cut mib end mid)
    cut_archive = record { before = before; none = none }

-- ---- the loop

pub clearing_starts : (mib own : ℕ) (names : List (List ℕ)) (told : Option Files) → IfSome told (λ m. names ≡ keys m) → Related (IsClearing mib own names) told told
clearing_starts mib own names None keyed = tt
clearing_starts mib own names (Some m) keyed = record {
  kept = λ seg one le. refl;
  gone = λ seg one later there. subst (IsOne (segment_name_bytes seg mib)) (sym keyed) (is_key m (segment_name_bytes seg mib) there);
}

removed_at : (name : List ℕ) (files : Files) → get (after_remove name files) name ≡ None
removed_at name files = get-remove nat_list_cmp_total files name name ∙ ap (λ (b : Bool). cond b None (get files name)) (name_itself name)

dropped : (mib own : ℕ) (name : List ℕ) (rest : List (List ℕ)) (old mid : Files) → IsLaterFile mib own name → IsClearing mib own (rest ++ (name ∷ [])) old mid → IsClearing mib own rest old (after_remove name mid)
dropped mib own name rest old mid late c =
    let others = (removed_is_removed name mid).others in
    record {
      kept = λ seg one le. others (segment_name_bytes seg mib) (λ e. let s = segment_names_differ mib seg late.seg one late.there (e ∙ late.named) in let l = late.later in omega (arith, s, l, le)) ∙ c.kept seg one le;
      gone = λ seg one later there. elim (same_or_not (segment_name_bytes seg mib) name) [
        | inl same ↦ absurd (there (ap (get (after_remove name mid)) same ∙ removed_at name mid))
        | inr apart ↦ elim (last_or (segment_name_bytes seg mib) name rest (c.gone seg one later (λ none. there (others (segment_name_bytes seg mib) apart ∙ none)))) [
          | inl same ↦ absurd (apart same)
          | inr is ↦ is
        ]
      ];
    }

passed : (mib own : ℕ) (name : List ℕ) (rest : List (List ℕ)) (old mid : Files) → (IsLaterFile mib own name → ⊥) → IsClearing mib own (rest ++ (name ∷ [])) old mid → IsClearing mib own rest old mid
passed mib own name rest old mid not c = record {
  kept = c.kept;
  gone = λ seg one later there. elim (last_or (segment_name_bytes seg mib) name rest (c.gone seg one later there)) [
    | inl same ↦ absurd (not (record { seg = seg; there = one; later = later; named = sym same }))
    | inr is ↦ is
  ];
}

clearing_by : (mib own : ℕ) (name : List ℕ) (rest : List (List ℕ)) (old mid now : Option Files) → DropsLater mib own name mid now → Related (IsClearing mib own (rest ++ (name ∷ []))) old mid → Related (IsClearing mib own rest) old now
clearing_by mib own name rest None None now (inl drops) c = subst (Related (IsClearing mib own rest) None) (sym drops.1) tt
clearing_by mib own name rest None None now (inr stays) c = subst (Related (IsClearing mib own rest) None) (sym stays.1) tt
clearing_by mib own name rest (Some m) (Some n) now (inl drops) c = subst (Related (IsClearing mib own rest) (Some m)) (sym drops.1) (dropped mib own name rest m n drops.0 c)
clearing_by mib own name rest (Some m) (Some n) now (inr stays) c = subst (Related (IsClearing mib own rest) (Some m)) (sym stays.1) (passed mib own name rest m n stays.0 c)
clearing_by mib own name rest None (Some n) now drops c = absurd c
clearing_by mib own name rest (Some m) None now drops c = absurd c

-- one name less is left
pub clearing_on : (mib own : ℕ) (name : List ℕ) (left rest : List (List ℕ)) (old mid now : Option Files) → left ≡ rest ++ (name ∷ []) → DropsLater mib own name mid now → Related (IsClearing mib own left) old mid → Related (IsClearing mib own rest) old now
clearing_on mib own name left rest old mid now is drops c = clearing_by mib own name rest old mid now drops (subst (λ (l : List (List ℕ)). Related (IsClearing mib own l) old mid) is c)

all_cleared : (mib own : ℕ) (m n : Files) → IsClearing mib own [] m n → Clears mib own m n
all_cleared mib own m n c = record {
  kept = c.kept;
  gone = λ seg one later. none_or (get n (segment_name_bytes seg mib)) (c.gone seg one later);
}
  where
    none_or : (o : Option (List ℕ)) → (o ≢ None → ⊥) → o ≡ None
    none_or None never = refl
    none_or (Some bytes) never = absurd (never (λ e. let k : ◌≡◌ {A = Option (List ℕ)} (Some bytes) None = e in absurd cc))

pub clearing_ends : (mib own : ℕ) (left : List (List ℕ)) (old now : Option Files) → left ≡ [] → Related (IsClearing mib own left) old now → Related (Clears mib own) old now
clearing_ends mib own left old now none c = by old now (subst (λ (l : List (List ℕ)). Related (IsClearing mib own l) old now) none c)
  where
    by : (x y : Option Files) → Related (IsClearing mib own []) x y → Related (Clears mib own) x y
    by None None k = tt
    by (Some m) (Some n) k = all_cleared mib own m n k
    by None (Some n) k = absurd k
    by (Some m) None k = absurd k

-- ---- both together

pub trimmed_by : (mib end : ℕ) (old mid now last : Option Files) → 1 ≤ mib → Related (Clears mib (segment_number end mib)) old mid → now ≡ option_map (own_cut mib end) mid → last ≡ now → Related (AreCutAt mib end) old last
trimmed_by mib end None None now last some clears is same = subst (Related (AreCutAt mib end) None) (sym (same ∙ is)) tt
trimmed_by mib end (Some m) (Some n) now last some clears is same = subst (Related (AreCutAt mib end) (Some m)) (sym (same ∙ is)) (cut_archive mib some end m n clears)
trimmed_by mib end None (Some n) now last some clears is same = absurd clears
trimmed_by mib end (Some m) None now last some clears is same = absurd clears

pub trimmed_on : {T : Type 0} (mib end : ℕ) (old mid now last : Option Files) (result : Result T AreaFault) → 1 ≤ mib → Related (Clears mib (segment_number end mib)) old mid → CutsOwn mib end mid now → last ≡ now → OnOk result (Related (AreCutAt mib end) old last)
trimmed_on mib end old mid now last (Ok done) some clears is same = trimmed_by mib end old mid now last some clears is same
trimmed_on mib end old mid now last (Err fault) some clears is same = tt
