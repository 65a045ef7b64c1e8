-- A read of a segment's file is a run of the archive.
use Rattle.std.proofs.Common.{◌≡◌, ℕ, zero, suc, ◌+◌, ◌*◌, ◌/◌, ◌%◌, ◌<◌, ◌≤◌, true, false, List, [], length, get_or, take, drop, Option, Some, None, refl, sym, ap, subst, ◌∙◌, arith}
use Rattle.std.proofs.lemmas.Bool.{cond-false}
use Rattle.std.proofs.lemmas.Nat.{div-add-mod'}
use Rattle.std.proofs.lemmas.List.{length-append, length-take, length-drop, get_or_append_left, get_or-take, get_or-drop}
use Rattle.std.specs.Prelude.{Result, Ok, Err, IfOk, IfSome}
use Rattle.lsn_core.specs.declared.fault.AreaFault.{AreaFault}
use Rattle.lsn_core.specs.Files.{Files}
use Rattle.lsn_core.specs.Segment.{segment_bytes}
use Rattle.lsn_core.specs.Names.{segment_name_bytes}
use Rattle.vault.specs.Area.{bytes_of, IsRead}
use Rattle.wal_archive.specs.Archive.{Archive, is_segment, held_in, nth, byte_of, archive_of}
use Rattle.wal_archive.specs.declared.fault.Damage.{Damage}
use Rattle.wal_archive.specs.Rules.{◌>>=◌, broken_at, not_held, head_said, head_at, bytes_at}
use Rattle.wal_archive.specs.Reading.{IsRunOf}
use Rattle.wal_pages.specs.Places.{head_size}
use Rattle.wal_pages.specs.declared.heads.HeadFault.{HeadFault}
use Rattle.wal_pages.specs.Heads.{head_fault}
use Rattle.wal_archive.specs.declared.fault.Broken.TheVariants.{Head}
use Rattle.wal_archive.specs.declared.fault.ReadFault.{ReadFault}
use Rattle.wal_archive.specs.declared.fault.ReadFault.TheVariants.{Bad, Failed, NoMemory}
use Rattle.wal_archive.specs.Reading.{Says}
use Rattle.lsn_core.specs.byte_words.Told.{when_told, when_both_told}
use Rattle.wal_archive.proofs.Files.{nth_held}
use Rattle.wal_archive.proofs.Runs.{bytes_held}
use Rattle.wal_archive.proofs.Writes.{nth_past, nth_take, held_old, byte_at, at_split}

pub run_read : (mib : ℕ) (m : Files) (x : ℕ) (before now : List ℕ) (count : ℕ) → 1 ≤ mib
    → is_segment (x / segment_bytes mib) ≡ true
    → x % segment_bytes mib + length before ≤ segment_bytes mib
    → IsRead m (segment_name_bytes (x / segment_bytes mib) mib) (x % segment_bytes mib) before now
    count → IsRunOf (archive_of mib m) x now count
run_read mib m x before now count some one fits read =
    let s : ℕ = x / segment_bytes mib in
    let at : ℕ = x % segment_bytes mib in
    let file : List ℕ = bytes_of m (segment_name_bytes s mib) in
    let d : s * segment_bytes mib + at ≡ x = div-add-mod' x (segment_bytes mib) in
    let counted = read.counted in
    let front : List ℕ = take count (drop at file) in
    let lf = length-take count (drop at file) in
    let ld = length-drop at file in
    let byte : (i : ℕ) → at + i < segment_bytes mib → byte_of mib m (x + i) ≡ nth file (at + i) =
    λ i lt.
    let p = at_split mib (x + i) s (at + i) some (omega (arith, d)) lt in
    byte_at mib m (x + i) s (at + i) p.0 p.1 ∙ ap (λ l. nth l (at + i)) (held_old mib m s one)
    ∙ nth_take (segment_bytes mib) file (at + i) lt in
    record {
      held = λ i lt. byte i (omega (arith, fits, counted, lt))
          ∙ nth_held file (at + i) (omega (arith, counted, lt))
          ∙ ap Some (sym (ap (λ l. get_or l i 0) read.bytes
          ∙ get_or_append_left front (drop count before) 0 i
          (omega (arith, lf, ld, counted, lt)) ∙ get_or-take count (drop at file) i 0 lt
          ∙ get_or-drop at file i 0));
      short = λ lt.
          let l : length now ≡ length front + length (drop count before) = ap length read.bytes
          ∙ length-append front (drop count before) in
          let lb = length-drop count before in
          let less : count < length before = omega (arith, l, lb, lf, ld, counted, lt) in
          byte count (omega (arith, fits, less))
          ∙ nth_past file (at + count) (omega (arith, counted, less));
    }

held_none : (mib : ℕ) (m : Files) (s : ℕ) → is_segment s ≡ false → held_in mib m s ≡ []
unfolding held_in
held_none mib m s e = cond-false (is_segment s)
    (take (segment_bytes mib) (bytes_of m (segment_name_bytes s mib))) [] e

pub run_outside : (mib : ℕ) (m : Files) (x : ℕ) (now : List ℕ)
    → is_segment (x / segment_bytes mib) ≡ false → IsRunOf (archive_of mib m) x now 0
run_outside mib m x now out = record {
  held = λ i lt. absurd (omega (arith, lt));
  short = λ lt. ap (byte_of mib m) (let e : x + 0 ≡ x = omega arith in e)
      ∙ byte_at mib m x (x / segment_bytes mib) (x % segment_bytes mib) refl refl
      ∙ ap (λ l. nth l (x % segment_bytes mib)) (held_none mib m (x / segment_bytes mib) out)
      ∙ nth_past [] (x % segment_bytes mib) (omega arith);
}

-- a fact of the files that holds whatever they are
pub all_told : (o : Option Files) (P : Files → Type 0) → ((m : Files) → P m) → IfSome o P
all_told None P all = tt
all_told (Some m) P all = all m

-- what an answer says of the files, weakened
pub ok_told : {A E : Type 0} (r : Result A E) (o : Option Files) (P Q : Files → A → Type 0)
    → ((m : Files) (n : A) → P m n → Q m n) → IfOk r (λ n. IfSome o (λ m. P m n))
    → IfOk r (λ n. IfSome o (λ m. Q m n))
ok_told (Ok n) None P Q step held = held
ok_told (Ok n) (Some m) P Q step held = step m n held
ok_told (Err e) o P Q step held = tt

-- a read at a segment's name tells a run of the archive
pub run_told : (r : Result ℕ AreaFault) (o : Option Files) (mib x s off : ℕ)
    (name before now : List ℕ) → 1 ≤ mib → s ≡ x / segment_bytes mib → off ≡ x % segment_bytes mib
    → is_segment s ≡ true → name ≡ segment_name_bytes s mib
    → x % segment_bytes mib + length before ≤ segment_bytes mib
    → IfOk r (λ n. IfSome o (λ m. IsRead m name off before now n))
    → IfOk r (λ n. IfSome o (λ m. IsRunOf (archive_of mib m) x now n))
run_told r o mib x s off name before now some s_is off_is one name_is fits told =
    let there : is_segment (x / segment_bytes mib) ≡ true =
    subst (λ k. is_segment k ≡ true) s_is one in
    let named : name ≡ segment_name_bytes (x / segment_bytes mib) mib = name_is
    ∙ ap (λ k. segment_name_bytes k mib) s_is in
    ok_told r o (λ m n. IsRead m name off before now n) (λ m n. IsRunOf (archive_of mib m) x now n)
    (λ m n read. run_read mib m x before now n some there fits
    (subst (λ l. IsRead m l (x % segment_bytes mib) before now n) named
    (subst (λ k. IsRead m name k before now n) off_is read))) told

-- no read: a place outside the archive's segments
pub outside_told : (o : Option Files) (mib x s : ℕ) (now : List ℕ) → s ≡ x / segment_bytes mib
    → is_segment s ≡ false → IfSome o (λ m. IsRunOf (archive_of mib m) x now 0)
outside_told o mib x s now s_is out =
    all_told o (λ m. IsRunOf (archive_of mib m) x now 0)
    (λ m. run_outside mib m x now (subst (λ k. is_segment k ≡ false) s_is out))

-- bytes of which one isn't held
pub bytes_missing : (a : Archive) (mib begin x n count : ℕ) → count < n
    → ((i : ℕ) → i < count → (b : ℕ) × (a.byte (x + i) ≡ Some b)) → a.byte (x + count) ≡ None
    → bytes_at a mib begin x n ≡ Err (not_held a mib begin (x + count))
unfolding bytes_at
bytes_missing a mib begin x zero count lt held none = absurd (omega (arith, lt))
bytes_missing a mib begin x (suc n) zero lt held none =
    let at : x + 0 ≡ x = omega arith in
    let here : a.byte x ≡ None = ap a.byte (sym at) ∙ none in
    rw (here, at) refl
bytes_missing a mib begin x (suc n) (suc count) lt held none =
    let h = held 0 (omega arith) in
    let here : a.byte x ≡ Some h.0 = ap a.byte (let e : x ≡ x + 0 = omega arith in e) ∙ h.1 in
    let at : x + 1 + count ≡ x + suc count = omega arith in
    let more = bytes_missing a mib begin (x + 1) n count (omega (arith, lt))
    (λ i less. (let k = held (suc i) (omega (arith, less)) in
    (k.0, ap a.byte (let e : x + 1 + i ≡ x + suc i = omega arith in e) ∙ k.1)))
    (ap a.byte at ∙ none) in
    rw (here, more, at) refl

-- a run that was read whole, and one that is too short
pub run_whole : (a : Archive) (mib begin x : ℕ) (bytes : List ℕ) (count : ℕ) → count ≡ length bytes
    → IsRunOf a x bytes count → bytes_at a mib begin x (length bytes) ≡ Ok bytes
run_whole a mib begin x bytes count all run =
    bytes_held a mib begin x (length bytes) bytes refl (λ i lt. run.held i (omega (arith, all, lt)))

pub run_short : (a : Archive) (mib begin x : ℕ) (bytes : List ℕ) (count : ℕ) (d : Damage)
    → count < length bytes → IsRunOf a x bytes count → d ≡ not_held a mib begin (x + count)
    → bytes_at a mib begin x (length bytes) ≡ Err d
run_short a mib begin x bytes count d less run is =
    bytes_missing a mib begin x (length bytes) count less
    (λ i lt. (get_or bytes i 0, run.held i lt)) (run.short less)
    ∙ ap (λ (k : Damage). let r : Result (List ℕ) Damage = Err k in r) (sym is)

pub take_whole : (o : Option Files) (mib begin x : ℕ) (bytes : List ℕ) (count : ℕ)
    → count ≡ length bytes → IfSome o (λ m. IsRunOf (archive_of mib m) x bytes count)
    → IfSome o (λ m. bytes_at (archive_of mib m) mib begin x (length bytes) ≡ Ok bytes)
take_whole o mib begin x bytes count all told =
    when_told o (λ m. IsRunOf (archive_of mib m) x bytes count)
    (λ m. bytes_at (archive_of mib m) mib begin x (length bytes) ≡ Ok bytes)
    (λ m run. run_whole (archive_of mib m) mib begin x bytes count all run) told

pub take_short : (o now : Option Files) (mib begin x y : ℕ) (bytes : List ℕ) (count : ℕ)
    (d : Damage) → now ≡ o → y ≡ x + count → count < length bytes
    → IfSome o (λ m. IsRunOf (archive_of mib m) x bytes count)
    → IfSome now (λ m. d ≡ not_held (archive_of mib m) mib begin y)
    → IfSome o (λ m. bytes_at (archive_of mib m) mib begin x (length bytes) ≡ Err d)
take_short o now mib begin x y bytes count d same y_is less told why =
    when_both_told o (λ m. IsRunOf (archive_of mib m) x bytes count)
    (λ m. d ≡ not_held (archive_of mib m) mib begin y)
    (λ m. bytes_at (archive_of mib m) mib begin x (length bytes) ≡ Err d)
    (λ m run is. run_short (archive_of mib m) mib begin x bytes count d less run
    (is ∙ ap (not_held (archive_of mib m) mib begin) y_is)) told
    (subst (λ k. IfSome k (λ m. d ≡ not_held (archive_of mib m) mib begin y)) same why)

-- a head whose bytes were read, and tested
pub head_read : (a : Archive) (mib system begin page : ℕ) (size : Option ℕ) (bytes : List ℕ)
    (r : Result (List ℕ) Damage) → length bytes ≡ head_size mib page
    → bytes_at a mib begin page (length bytes) ≡ r
    → head_at a mib system begin page size
    ≡ (r >>= λ l. head_said page (head_fault mib system page size l))
unfolding head_at
head_read a mib system begin page size bytes r len e =
    (let whole : bytes_at a mib begin page (head_size mib page) ≡ r =
    ap (bytes_at a mib begin page) (sym len) ∙ e in rw whole refl)

pub head_ok : (o : Option Files) (mib system begin page : ℕ) (size : Option ℕ) (bytes : List ℕ)
    → length bytes ≡ head_size mib page → None ≡ head_fault mib system page size bytes
    → IfSome o (λ m. bytes_at (archive_of mib m) mib begin page (length bytes) ≡ Ok bytes)
    → IfSome o (λ m. head_at (archive_of mib m) mib system begin page size ≡ Ok 0)
head_ok o mib system begin page size bytes len passes told =
    when_told o (λ m. bytes_at (archive_of mib m) mib begin page (length bytes) ≡ Ok bytes)
    (λ m. head_at (archive_of mib m) mib system begin page size ≡ Ok 0)
    (λ m e. head_read (archive_of mib m) mib system begin page size bytes (Ok bytes) len e
    ∙ ap (head_said page) (sym passes)) told

pub head_why : (o : Option Files) (mib system begin page : ℕ) (size : Option ℕ) (bytes : List ℕ)
    (why : HeadFault) → length bytes ≡ head_size mib page
    → Some why ≡ head_fault mib system page size bytes
    → IfSome o (λ m. bytes_at (archive_of mib m) mib begin page (length bytes) ≡ Ok bytes)
    → IfSome o (λ m. head_at (archive_of mib m) mib system begin page size
    ≡ Err (broken_at page (Head why)))
head_why o mib system begin page size bytes why len fails told =
    when_told o (λ m. bytes_at (archive_of mib m) mib begin page (length bytes) ≡ Ok bytes)
    (λ m. head_at (archive_of mib m) mib system begin page size
    ≡ Err (broken_at page (Head why)))
    (λ m e. head_read (archive_of mib m) mib system begin page size bytes (Ok bytes) len e
    ∙ ap (head_said page) (sym fails)) told

pub head_err : (o : Option Files) (before now mib system begin page : ℕ) (size : Option ℕ)
    (bytes : List ℕ) (fault : ReadFault) → length bytes ≡ head_size mib page
    → Says (λ a. bytes_at a mib begin page (length bytes)) (λ (done : Unit {0}). bytes) mib o before
    now (Err fault)
    → Says (λ a. head_at a mib system begin page size) (λ (done : Unit {0}). 0) mib o before now
    (Err fault)
head_err o before now mib system begin page size bytes (Bad d) len told =
    when_told o (λ m. bytes_at (archive_of mib m) mib begin page (length bytes) ≡ Err d)
    (λ m. head_at (archive_of mib m) mib system begin page size ≡ Err d)
    (λ m e. head_read (archive_of mib m) mib system begin page size bytes (Err d) len e) told
head_err o before now mib system begin page size bytes Failed len told = told
head_err o before now mib system begin page size bytes NoMemory len told = told

-- a part of a longer run: read whole, or missing the byte where the run stops
pub run_part : (a : Archive) (mib begin x : ℕ) (bytes : List ℕ) (count d n : ℕ)
    → IsRunOf a x bytes count → count ≤ length bytes → d + n ≤ count
    → bytes_at a mib begin (x + d) n ≡ Ok (take n (drop d bytes))
run_part a mib begin x bytes count d n run within fits =
    let ld = length-drop d bytes in
    let lt = length-take n (drop d bytes) in
    bytes_held a mib begin (x + d) n (take n (drop d bytes)) (omega (arith, ld, lt, fits, within))
    (λ i less. ap a.byte (let e : x + d + i ≡ x + (d + i) = omega arith in e)
    ∙ run.held (d + i) (omega (arith, less, lt, fits))
    ∙ ap Some (sym (get_or-take n (drop d bytes) i 0 (omega (arith, less, lt))
    ∙ get_or-drop d bytes i 0)))
