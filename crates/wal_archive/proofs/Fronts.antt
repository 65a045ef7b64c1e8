-- What is held of a page gives what the rules ask there.
use Rattle.std.proofs.Common.{◌≡◌, ℕ, suc, ◌+◌, ◌-◌, ◌%◌, ◌<◌, ◌≤◌, true, false, cond, List, [], ◌++◌, length, get_or, take, drop, Option, refl, sym, ap, subst, ◌∙◌, arith, min}
use Rattle.std.specs.Prelude.{Result, Ok, Err, IfSome}
use Rattle.std.proofs.lemmas.Bool.{cond-true, cond-false}
use Rattle.std.proofs.lemmas.List.{length-take, length-drop, get_or-take, get_or-drop, get_or_append_left}
use Rattle.lsn_core.specs.byte_words.Numbers.{u32_in}
use Rattle.lsn_core.specs.byte_words.Told.{when_told, when_both_told}
use Rattle.lsn_core.specs.Files.{Files}
use Rattle.wal_pages.specs.Places.{head_size}
use Rattle.wal_pages.proofs.Splits.{head_bounds}
use Rattle.wal_archive.specs.Archive.{Archive, archive_of}
use Rattle.wal_archive.specs.declared.fault.Damage.{Damage}
use Rattle.wal_archive.specs.declared.fault.Broken.TheVariants.{Length}
use Rattle.wal_archive.specs.declared.fault.ReadFault.{ReadFault}
use Rattle.wal_archive.specs.declared.fault.ReadFault.TheVariants.{Bad, Failed, NoMemory}
use Rattle.wal_archive.specs.Rules.{◌>>=◌, broken_at, not_held, bytes_at, head_at, entry_bytes, is_total, entry_at}
use Rattle.wal_archive.specs.Reading.{IsRunOf, IsFront, ReadsFront, Says, ReadsBytes}
use Rattle.wal_archive.proofs.Runs.{ok}
use Rattle.wal_archive.proofs.RunLaws.{bytes_missing, run_part}
use Rattle.wal_archive.proofs.EntryLaws.{goes_first, goes_last, goes_bad}

abbrev pub err : Damage → Result (List ℕ) Damage
err d = Err d

front_run : (a : Archive) (x room : ℕ) (bytes : List ℕ) → IsFront a x room bytes
    → IsRunOf a x bytes (length bytes)
front_run a x room bytes f = record { held = f.held; short = λ lt. absurd (omega (arith, lt)) }

pub front_part : (a : Archive) (mib begin x room d n : ℕ) (bytes : List ℕ) → IsFront a x room bytes
    → d + n ≤ length bytes → bytes_at a mib begin (x + d) n ≡ Ok (take n (drop d bytes))
front_part a mib begin x room d n bytes f fits =
    run_part a mib begin x bytes (length bytes) d n (front_run a x room bytes f) (omega arith) fits

pub front_cut : (a : Archive) (mib begin x room d n : ℕ) (bytes : List ℕ) → IsFront a x room bytes
    → d ≤ length bytes → length bytes < d + n → d + n ≤ room
    → bytes_at a mib begin (x + d) n ≡ Err (not_held a mib begin (x + length bytes))
front_cut a mib begin x room d n bytes f from less within =
    let at : x + d + (length bytes - d) ≡ x + length bytes = omega (arith, from) in
    bytes_missing a mib begin (x + d) n (length bytes - d) (omega (arith, from, less))
    (λ i lt. (
      get_or bytes (d + i) 0,
      ap a.byte (let e : x + d + i ≡ x + (d + i) = omega arith in e)
          ∙ f.held (d + i) (omega (arith, lt)),
    ))
    (ap a.byte at ∙ f.short (omega (arith, less, within)))
    ∙ ap (λ k. err (not_held a mib begin k)) at

-- the number of four bytes among others
four_of : (l : List ℕ) (at i : ℕ) → i < 4 → get_or (take 4 (drop at l)) i 0 ≡ get_or l (at + i) 0
four_of l at i lt = get_or-take 4 (drop at l) i 0 lt ∙ get_or-drop at l i 0

same_number : (l k : List ℕ) (at : ℕ) → ((i : ℕ) → i < 4 → get_or k i 0 ≡ get_or l (at + i) 0)
    → u32_in k 0 ≡ u32_in l at
same_number l k at four =
    let z : get_or l (at + 0) 0 ≡ get_or l at 0 =
    ap (λ n. get_or l n 0) (let e : at + 0 ≡ at = omega arith in e) in
    let t : get_or l (at + 3) 0 ≡ get_or l (at + 2 + 1) 0 =
    ap (λ n. get_or l n 0) (let e : at + 3 ≡ at + 2 + 1 = omega arith in e) in
    omega (
      arith,
      four 0 (omega arith),
      four 1 (omega arith),
      four 2 (omega arith),
      four 3 (omega arith),
      z,
      t,
    )

pub u32_of : (l : List ℕ) (at : ℕ) → u32_in (take 4 (drop at l)) 0 ≡ u32_in l at
u32_of l at = same_number l (take 4 (drop at l)) at (four_of l at)

-- ---- the entry that starts at a place

entry_short : (a : Archive) (mib system start : ℕ) (d : Damage)
    → bytes_at a mib start start 4 ≡ Err d → entry_at a mib system start ≡ Err d
unfolding entry_at
entry_short a mib system start d e = rw e refl

entry_step : (a : Archive) (mib system start total : ℕ) (len : List ℕ)
    → bytes_at a mib start start 4 ≡ Ok len → u32_in len 0 ≡ total
    → entry_at a mib system start ≡ cond (is_total total)
    (entry_bytes a mib system start total start total) (err (broken_at start Length))
unfolding entry_at
entry_step a mib system start total len e t =
    let f : ℕ → Result (List ℕ) Damage = λ n.
    cond (is_total n) (entry_bytes a mib system start n start n) (err (broken_at start Length))
    in
    let one : entry_at a mib system start ≡ f (u32_in len 0) = rw e refl in
    one ∙ ap f t

one_page : (a : Archive) (mib system begin x n count : ℕ) (piece : List ℕ) → count ≡ suc n
    → count ≤ 8192 - x % 8192 → bytes_at a mib begin x count ≡ Ok piece
    → entry_bytes a mib system begin count x count ≡ Ok piece
one_page a mib system begin x n count piece is fits read =
    let whole : Result (List ℕ) Damage = entry_bytes a mib system begin count x count in
    goes_last a mib system begin n x count [] piece whole fits read
    (subst (λ k. (entry_bytes a mib system begin k x count >>= λ more. Ok ([] ++ more)) ≡ whole) is
    (goes_first a mib system begin x count))

-- by what is held of its page
pub on_page_step : (a : Archive) (mib system x start total room : ℕ) (front : List ℕ)
    → IsFront a x room front → x ≤ start → start - x + 4 ≤ length front
    → total ≡ u32_in front (start - x)
    → entry_at a mib system start ≡ cond (is_total total)
    (entry_bytes a mib system start total start total) (err (broken_at start Length))
on_page_step a mib system x start total room front f order fits is =
    let there : x + (start - x) ≡ start = omega (arith, order) in
    let four : bytes_at a mib start start 4 ≡ Ok (take 4 (drop (start - x) front)) =
    ap (λ n. bytes_at a mib start n 4) (sym there)
    ∙ front_part a mib start x room (start - x) 4 front f fits in
    entry_step a mib system start total (take 4 (drop (start - x) front)) four
    (u32_of front (start - x) ∙ sym is)

pub on_short : (o : Option Files) (mib system x start y room : ℕ) (front : List ℕ) (d : Damage)
    → y ≡ x + length front → x ≤ start → start - x ≤ length front → length front < start - x + 4
    → start - x + 4 ≤ room
    → ReadsFront mib o x room front → IfSome o (λ m. d ≡ not_held (archive_of mib m) mib start y)
    → IfSome o (λ m. entry_at (archive_of mib m) mib system start ≡ Err d)
on_short o mib system x start y room front d y_is order from less fits read why =
    when_both_told o (λ m. IsFront (archive_of mib m) x room front)
    (λ m. d ≡ not_held (archive_of mib m) mib start y)
    (λ m. entry_at (archive_of mib m) mib system start ≡ Err d)
    (λ m f is.
    let a : Archive = archive_of mib m in
    let there : x + (start - x) ≡ start = omega (arith, order) in
    let cut : bytes_at a mib start (x + (start - x)) 4
    ≡ Err (not_held a mib start (x + length front)) =
    front_cut a mib start x room (start - x) 4 front f from less fits in
    entry_short a mib system start d
    (ap (λ n. bytes_at a mib start n 4) (sym there) ∙ cut
    ∙ ap (λ n. err (not_held a mib start n)) (sym y_is) ∙ ap err (sym is)))
    read why

pub on_bad : (o : Option Files) (mib system x start total room : ℕ) (front : List ℕ) → x ≤ start
    → start - x + 4 ≤ length front → total ≡ u32_in front (start - x) → is_total total ≡ false
    → ReadsFront mib o x room front
    → IfSome o (λ m. entry_at (archive_of mib m) mib system start
    ≡ Err (broken_at start Length))
on_bad o mib system x start total room front order fits is bad read =
    when_told o (λ m. IsFront (archive_of mib m) x room front)
    (λ m. entry_at (archive_of mib m) mib system start ≡ Err (broken_at start Length))
    (λ m f. on_page_step (archive_of mib m) mib system x start total room front f order fits is
    ∙ cond-false (is_total total) (entry_bytes (archive_of mib m) mib system start total start
    total) (err (broken_at start Length)) bad) read

pub on_long : (o : Option Files) (mib system x start total room : ℕ) (front : List ℕ) → x ≤ start
    → start - x + 4 ≤ length front → total ≡ u32_in front (start - x) → is_total total ≡ true
    → ReadsFront mib o x room front
    → IfSome o (λ m. entry_at (archive_of mib m) mib system start
    ≡ entry_bytes (archive_of mib m) mib system start total start total)
on_long o mib system x start total room front order fits is good read =
    when_told o (λ m. IsFront (archive_of mib m) x room front)
    (λ m. entry_at (archive_of mib m) mib system start
    ≡ entry_bytes (archive_of mib m) mib system start total start total)
    (λ m f. on_page_step (archive_of mib m) mib system x start total room front f order fits is
    ∙ cond-true (is_total total) (entry_bytes (archive_of mib m) mib system start total start
    total) (err (broken_at start Length)) good) read

pub on_page : (o : Option Files) (mib system x start total : ℕ) (front copy : List ℕ) → x ≤ start
    → x % 8192 + (start - x) + 4 ≤ 8192 → start - x + 4 ≤ length front
    → total ≡ u32_in front (start - x) → is_total total ≡ true → 24 ≤ total
    → start - x + total ≤ length front → length front ≤ 8192 - x % 8192
    → copy ≡ take total (drop (start - x) front) → ReadsFront mib o x (8192 - x % 8192) front
    → IfSome o (λ m. entry_at (archive_of mib m) mib system start ≡ Ok copy)
on_page o mib system x start total front copy order near fits is good least within most copy_is read
    =
    when_both_told o (λ m. IsFront (archive_of mib m) x (8192 - x % 8192) front)
    (λ m. entry_at (archive_of mib m) mib system start
    ≡ entry_bytes (archive_of mib m) mib system start total start total)
    (λ m. entry_at (archive_of mib m) mib system start ≡ Ok copy)
    (λ m f long.
    let a : Archive = archive_of mib m in
    let there : x + (start - x) ≡ start = omega (arith, order) in
    let piece : bytes_at a mib start start total ≡ Ok copy =
    ap (λ n. bytes_at a mib start n total) (sym there)
    ∙ front_part a mib start x (8192 - x % 8192) (start - x) total front f within
    ∙ ap ok (sym copy_is) in
    long ∙ one_page a mib system start start (total - 1) total copy (omega (arith, least))
    (omega (arith, order, near, within, most)) piece)
    read (on_long o mib system x start total (8192 - x % 8192) front order fits is good read)

-- a page of which not all is held that the entry needs
pub on_cut : (o : Option Files) (mib system x start y total : ℕ) (front : List ℕ) (d : Damage)
    → y ≡ x + length front → x ≤ start
    → x % 8192 + (start - x) + 4 ≤ 8192 → start - x + 4 ≤ length front
    → total ≡ u32_in front (start - x) → is_total total ≡ true → 24 ≤ total
    → length front < start - x + total → length front < 8192 - x % 8192
    → ReadsFront mib o x (8192 - x % 8192) front
    → IfSome o (λ m. d ≡ not_held (archive_of mib m) mib start y)
    → IfSome o (λ m. entry_at (archive_of mib m) mib system start ≡ Err d)
on_cut o mib system x start y total front d y_is order near fits is good least past short read why =
    when_both_told o (λ m. IsFront (archive_of mib m) x (8192 - x % 8192) front
    × (entry_at (archive_of mib m) mib system start
    ≡ entry_bytes (archive_of mib m) mib system start total start total))
    (λ m. d ≡ not_held (archive_of mib m) mib start y)
    (λ m. entry_at (archive_of mib m) mib system start ≡ Err d)
    (λ m f_long d_is.
    let a : Archive = archive_of mib m in
    let there : x + (start - x) ≡ start = omega (arith, order) in
    let room : 8192 - start % 8192 ≡ 8192 - x % 8192 - (start - x) = omega (arith, order, near) in
    let cut : bytes_at a mib start start (min total (8192 - start % 8192)) ≡ Err d =
    ap (λ n. bytes_at a mib start n (min total (8192 - start % 8192))) (sym there)
    ∙ front_cut a mib start x (8192 - x % 8192) (start - x) (min total (8192 - start % 8192)) front
    f_long.0 (omega (arith, fits)) (omega (arith, past, short, room))
    (omega (arith, room, near))
    ∙ ap (λ n. err (not_held a mib start n)) (sym y_is) ∙ ap err (sym d_is) in
    let whole : Result (List ℕ) Damage = entry_bytes a mib system start total start total in
    f_long.1 ∙ goes_bad a mib system start (total - 1) start total [] d whole cut
    (subst (λ k. (entry_bytes a mib system start k start total >>= λ more. Ok ([] ++ more)) ≡ whole)
    (let e : total ≡ suc (total - 1) = omega (arith, least) in e)
    (goes_first a mib system start start total)))
    (when_both_told o (λ m. IsFront (archive_of mib m) x (8192 - x % 8192) front)
    (λ m. entry_at (archive_of mib m) mib system start
    ≡ entry_bytes (archive_of mib m) mib system start total start total)
    (λ m. IsFront (archive_of mib m) x (8192 - x % 8192) front
    × (entry_at (archive_of mib m) mib system start
    ≡ entry_bytes (archive_of mib m) mib system start total start total))
    (λ m f e. (f, e)) read (on_long o mib system x start total (8192 - x % 8192) front order fits is
    good read))
    why

-- the bytes of the entry on its first page
pub on_first : (o : Option Files) (mib x start room : ℕ) (front first : List ℕ) → x ≤ start
    → start - x ≤ length front → first ≡ take (length front - (start - x)) (drop (start - x) front)
    → ReadsFront mib o x room front → ReadsBytes mib o start first
on_first o mib x start room front first order fits is read =
    when_told o (λ m. IsFront (archive_of mib m) x room front)
    (λ m. bytes_at (archive_of mib m) mib start start (length first) ≡ Ok first)
    (λ m f.
    let count : ℕ = length front - (start - x) in
    let t = length-take count (drop (start - x) front) in
    let ld = length-drop (start - x) front in
    let size : length first ≡ count = ap length is
    ∙ (let z : length (take count (drop (start - x) front)) ≡ count = omega (arith, t, ld) in z)
    in
    ap (bytes_at (archive_of mib m) mib start start) size
    ∙ ap (λ n. bytes_at (archive_of mib m) mib start n count)
    (let e : start ≡ x + (start - x) = omega (arith, order) in e)
    ∙ front_part (archive_of mib m) mib start x room (start - x) count front f (omega (arith, fits))
    ∙ ap ok (sym is)) read

pub first_length : (front first : List ℕ) (at : ℕ)
    → first ≡ take (length front - at) (drop at front) → length first ≡ length front - at
first_length front first at is =
    let t = length-take (length front - at) (drop at front) in
    let ld = length-drop at front in
    ap length is ∙ (let z : length (take (length front - at) (drop at front)) ≡ length front - at =
    omega (arith, t, ld) in z)

pub first_number : (front first : List ℕ) (at : ℕ) → at + 4 ≤ length front
    → first ≡ take (length front - at) (drop at front) → u32_in first 0 ≡ u32_in front at
first_number front first at fits is =
    same_number front first at (λ i lt. ap (λ (l : List ℕ). get_or l i 0) is
    ∙ get_or-take (length front - at) (drop at front) i 0 (omega (arith, fits, lt))
    ∙ get_or-drop at front i 0)

pub number_on : (l k : List ℕ) → 4 ≤ length l → u32_in (l ++ k) 0 ≡ u32_in l 0
number_on l k fits = same_number l (l ++ k) 0
    (λ i lt. get_or_append_left l k 0 i (omega (arith, fits, lt))
    ∙ ap (λ n. get_or l n 0) (let e : i ≡ 0 + i = omega arith in e))

-- ---- the head of a page

pub front_head_short : (o : Option Files) (mib system begin page y : ℕ) (size : Option ℕ)
    (front : List ℕ)
    (d : Damage) → y ≡ page + length front → length front < head_size mib page
    → ReadsFront mib o page 8192 front → IfSome o (λ m. d ≡ not_held (archive_of mib m) mib begin y)
    → IfSome o (λ m. head_at (archive_of mib m) mib system begin page size ≡ Err d)
unfolding head_at
front_head_short o mib system begin page y size front d y_is less read why =
    when_both_told o (λ m. IsFront (archive_of mib m) page 8192 front)
    (λ m. d ≡ not_held (archive_of mib m) mib begin y)
    (λ m. head_at (archive_of mib m) mib system begin page size ≡ Err d)
    (λ m f is. short m (ap (λ n. bytes_at (archive_of mib m) mib begin n (head_size mib page))
    (let e : page ≡ page + 0 = omega arith in e)
    ∙ front_cut (archive_of mib m) mib begin page 8192 0 (head_size mib page) front f (omega arith)
    (omega (arith, less)) (let b = head_bounds mib page in omega (arith, b.1))
    ∙ ap (λ n. err (not_held (archive_of mib m) mib begin n)) (sym y_is) ∙ ap err (sym is))) read
    why
  where
    short : (m : Files) → bytes_at (archive_of mib m) mib begin page (head_size mib page) ≡ Err d
        → head_at (archive_of mib m) mib system begin page size ≡ Err d
    short m e = rw e refl

pub front_head_bytes : (o : Option Files) (mib begin page count : ℕ) (front bytes : List ℕ)
    → count ≤ length front → bytes ≡ take count front → ReadsFront mib o page 8192 front
    → IfSome o (λ m. bytes_at (archive_of mib m) mib begin page (length bytes) ≡ Ok bytes)
front_head_bytes o mib begin page count front bytes fits is read =
    when_told o (λ m. IsFront (archive_of mib m) page 8192 front)
    (λ m. bytes_at (archive_of mib m) mib begin page (length bytes) ≡ Ok bytes)
    (λ m f.
    let t = length-take count front in
    let size : length bytes ≡ count = ap length is
    ∙ (let z : length (take count front) ≡ count = omega (arith, t, fits) in z) in
    ap (bytes_at (archive_of mib m) mib begin page) size
    ∙ ap (λ n. bytes_at (archive_of mib m) mib begin n count)
    (let e : page ≡ page + 0 = omega arith in e)
    ∙ front_part (archive_of mib m) mib begin page 8192 0 count front f (omega (arith, fits))
    ∙ ap ok (sym is)) read

-- ---- answers of rules

-- the same answer, where two rules say the same
pub says_as : {A T : Type 0} (one two : Archive → Result A Damage) (shown : T → A) (mib : ℕ)
    (o : Option Files) (before now : ℕ) (r : Result T ReadFault)
    → IfSome o (λ m. two (archive_of mib m) ≡ one (archive_of mib m))
    → Says one shown mib o before now r → Says two shown mib o before now r
says_as one two shown mib o before now (Ok x) same says =
    when_both_told o (λ m. two (archive_of mib m) ≡ one (archive_of mib m))
    (λ m. one (archive_of mib m) ≡ Ok (shown x)) (λ m. two (archive_of mib m) ≡ Ok (shown x))
    (λ m e s. e ∙ s) same says
says_as one two shown mib o before now (Err (Bad d)) same says =
    when_both_told o (λ m. two (archive_of mib m) ≡ one (archive_of mib m))
    (λ m. one (archive_of mib m) ≡ Err d) (λ m. two (archive_of mib m) ≡ Err d) (λ m e s. e ∙ s)
    same says
says_as one two shown mib o before now (Err Failed) same says = says
says_as one two shown mib o before now (Err NoMemory) same says = says

-- what is wrong in a step is wrong in the whole
pub says_err : {A B T U : Type 0} (one : Archive → Result A Damage)
    (two : Archive → Result B Damage) (shown : T → A) (told : U → B) (mib : ℕ)
    (o now_files : Option Files) (before mid now : ℕ) (fault : ReadFault)
    → now_files ≡ o → before ≤ mid
    → IfSome o (λ m. (d : Damage) → one (archive_of mib m) ≡ Err d
    → two (archive_of mib m) ≡ Err d)
    → Says one shown mib now_files mid now (Err fault) → Says two told mib o before now (Err fault)
says_err one two shown told mib o now_files before mid now (Bad d) same later step says =
    when_both_told o (λ m. (d : Damage) → one (archive_of mib m) ≡ Err d
    → two (archive_of mib m) ≡ Err d) (λ m. one (archive_of mib m) ≡ Err d)
    (λ m. two (archive_of mib m) ≡ Err d) (λ m s e. s d e) step
    (subst (λ (k : Option Files). IfSome k (λ m. one (archive_of mib m) ≡ Err d)) same says)
says_err one two shown told mib o now_files before mid now Failed same later step says =
    omega (arith, says, later)
says_err one two shown told mib o now_files before mid now NoMemory same later step says = tt

-- the same answer, told of an area that was only read since
pub says_on : {A T : Type 0} (one : Archive → Result A Damage) (shown : T → A) (mib : ℕ)
    (o now_files : Option Files) (before mid now : ℕ) (r : Result T ReadFault)
    → now_files ≡ o → before ≤ mid → Says one shown mib now_files mid now r
    → Says one shown mib o before now r
says_on one shown mib o now_files before mid now (Ok x) same later says =
    subst (λ (k : Option Files). IfSome k (λ m. one (archive_of mib m) ≡ Ok (shown x))) same says
says_on one shown mib o now_files before mid now (Err (Bad d)) same later says =
    subst (λ (k : Option Files). IfSome k (λ m. one (archive_of mib m) ≡ Err d)) same says
says_on one shown mib o now_files before mid now (Err Failed) same later says =
    omega (arith, says, later)
says_on one shown mib o now_files before mid now (Err NoMemory) same later says = tt
