-- What is told by the beginning of a file is told by the file.
use Rattle.std.proofs.Common.{◌≡◌, ℕ, zero, suc, ◌+◌, ◌-◌, ◌*◌, ◌<◌, ◌≤◌, min, List, ◌∷◌, ◌++◌, map, length, length-append, take, drop, replicate, get_or, Option, IfSome, Result, Ok, Err, refl, sym, ap, ap₂, subst, ◌∙◌, arith, inl, inr}
use Rattle.std.specs.List.{range_with_len}
use Rattle.std.specs.List.Sorted.{IsStrictlyIncreasing}
use Rattle.std.proofs.lemmas.Bool.{cases_lt}
use Rattle.std.proofs.lemmas.List.{get_or_append_left, get_or-append_right, get_or-take, get_or-drop, get_or-replicate, get_or_past, length-take, length-drop, length-replicate, append_assoc}
use Rattle.lsn_core.specs.byte_words.Numbers.{u32_in}
use Rattle.lsn_core.specs.byte_words.Told.{when_told}
use Rattle.lsn_core.specs.Files.{Files}
use Rattle.vault.specs.Area.{bytes_of, IsRead}
use Rattle.incr_file.specs.Head.{head_with, head_size, file_size, body_place}
use Rattle.incr_file.specs.Reading.{listed_count, block_numbers, head_in, HoldsHead, HasFront, FitsSegmentFile, HeadAnswers}
use Rattle.incr_file.specs.declared.head.IncrHead.{IncrHead}
use Rattle.chain_files.specs.Inside.{ShowsFrom, GoesOn}
use Rattle.incr_file.specs.declared.head.HeadView.{HeadView}
use Rattle.incr_file.specs.declared.decode.HeadFault.{HeadFault}
use Rattle.incr_file.specs.declared.decode.HeadFault.TheVariants.{Length, Magic, Range, Order, NoMemory}

-- ---- pieces

zero_at : (n i : ℕ) → get_or (replicate {A = ℕ} n 0) i 0 ≡ 0
zero_at n i = elim (cases_lt i n) [
  | inl lt ↦ get_or-replicate n i 0 0 lt
  | inr le ↦ get_or_past (replicate n 0) i 0 (omega (arith, length-replicate {A = ℕ} n 0))
]

read_at : (file : List ℕ) (at count size i : ℕ) → count ≡ min size (length file - at) → i < size → get_or (take count (drop at file) ++ drop count (replicate {A = ℕ} size 0)) i 0 ≡ get_or file (at + i) 0
read_at file at count size i counted within =
    let long : length (take count (drop at file)) ≡ count = rw (length-take, length-drop) (omega arith) in
    elim (cases_lt i count) [
      | inl lt ↦ get_or_append_left (take count (drop at file)) (drop count (replicate size 0)) 0 i (omega arith) ∙ (get_or-take count (drop at file) i 0 lt ∙ get_or-drop at file i 0)
      | inr le ↦ get_or-append_right (take count (drop at file)) (drop count (replicate size 0)) count i 0 long le ∙ (get_or-drop count (replicate size 0) (i - count) 0 ∙ (zero_at size (count + (i - count)) ∙ sym (get_or_past file (at + i) 0 (omega arith))))
    ]

pub piece_shows : (m : Files) (name before now : List ℕ) (at count size : ℕ) → before ≡ replicate size 0 → length now ≡ length before → IsRead m name at before now count → ShowsFrom (bytes_of m name) at now
piece_shows m name before now at count size zeros long is i within =
    let sized : length before ≡ size = ap (λ (l : List ℕ). length l) zeros ∙ length-replicate {A = ℕ} size 0 in
    let counted : count ≡ min size (length (bytes_of m name) - at) = is.counted ∙ ap (λ (n : ℕ). min n (length (bytes_of m name) - at)) sized in
    ap (λ (l : List ℕ). get_or l i 0) (is.bytes ∙ ap (λ (l : List ℕ). take count (drop at (bytes_of m name)) ++ drop count l) zeros)
    ∙ read_at (bytes_of m name) at count size i counted (omega arith)

pub more_shows : (file front more : List ℕ) (at : ℕ) → at ≡ length front → ShowsFrom file 0 front → ShowsFrom file at more → ShowsFrom file 0 (front ++ more)
more_shows file front more at is shown next i within =
    let both = length-append front more in
    elim (cases_lt i (length front)) [
      | inl lt ↦ get_or_append_left front more 0 i lt ∙ shown i lt
      | inr le ↦ get_or-append_right front more (length front) i 0 refl le ∙ (next (i - length front) (omega arith) ∙ ap (λ (n : ℕ). get_or file n 0) (omega arith))
    ]

-- ---- numbers

abbrev Same : List ℕ → List ℕ → Type 0
Same bytes file = (i : ℕ) → i < length bytes → get_or bytes i 0 ≡ get_or file i 0

shown_same : (file bytes : List ℕ) → ShowsFrom file 0 bytes → Same bytes file
shown_same file bytes shown i within = shown i within ∙ ap (λ (n : ℕ). get_or file n 0) (let z : 0 + i ≡ i = omega arith in z)

number_same : (bytes file : List ℕ) (at : ℕ) → Same bytes file → at + 4 ≤ length bytes → u32_in bytes at ≡ u32_in file at
number_same bytes file at same within =
    let a = same at (omega arith) in
    let b = same (at + 1) (omega arith) in
    let c = same (at + 2) (omega arith) in
    let d = same (at + 2 + 1) (omega arith) in
    omega (arith, a, b, c, d)

map_same : (f g : ℕ → ℕ) (a n : ℕ) → ((i : ℕ) → a ≤ i → i < a + n → f i ≡ g i) → map f (range_with_len a n) ≡ map g (range_with_len a n)
map_same f g a zero same = refl
map_same f g a (suc n) same =
    ap₂ (λ (x : ℕ) (xs : List ℕ). x ∷ xs) (same a (omega arith) (omega arith))
    (map_same f g (a + 1) n (λ i least most. same i (omega (arith, least)) (omega (arith, most))))

blocks_same : (bytes file : List ℕ) (n : ℕ) → Same bytes file → head_size n ≤ length bytes → block_numbers bytes n ≡ block_numbers file n
unfolding block_numbers
blocks_same bytes file n same within =
    map_same (λ i. u32_in bytes (12 + 4 * i)) (λ i. u32_in file (12 + 4 * i)) 0 n (λ i least most. number_same bytes file (12 + 4 * i) same (omega (arith, within, most)))

-- ---- heads

-- what a file and its beginning have in common
record Agrees (bytes file : List ℕ) (size : ℕ) : Type 0 where
  magic : u32_in bytes 0 ≡ u32_in file 0
  count : listed_count bytes ≡ listed_count file
  heads : size ≡ file_size (listed_count bytes) → head_in bytes ≡ head_in file

agrees : (bytes file : List ℕ) (size : ℕ) → Same bytes file → 12 ≤ length bytes → HoldsHead bytes size → Agrees bytes file size
agrees bytes file size same long holds =
    let count = number_same bytes file 4 same (omega arith) in
    record {
      magic = number_same bytes file 0 same (omega arith);
      count = count;
      heads = λ e. ap₂ head_with (number_same bytes file 8 same (omega arith))
          (blocks_same bytes file (listed_count bytes) same (holds.numbers e) ∙ ap (block_numbers file) count);
    }

front_same : (bytes file : List ℕ) (size : ℕ) → Agrees bytes file size → HasFront bytes size → HasFront file size
front_same bytes file size a is = record { size = is.size ∙ ap file_size a.count; magic = sym a.magic ∙ is.magic }

answer_same : (bytes file : List ℕ) (size : ℕ) (answer : Result HeadView HeadFault) → Agrees bytes file size → HeadAnswers bytes size answer → HeadAnswers file size answer
answer_same bytes file size (Ok view) a is =
    (front_same bytes file size a is.0, is.1, is.2 ∙ a.heads is.0.size, is.3 ∙ ap body_place a.count)
answer_same bytes file size (Err Length) a is = λ e. is (e ∙ ap file_size (sym a.count))
answer_same bytes file size (Err Magic) a is = (is.0 ∙ ap file_size a.count, λ e. is.1 (a.magic ∙ e))
answer_same bytes file size (Err Range) a is =
    (front_same bytes file size a is.0, λ f. is.1 (subst FitsSegmentFile (sym (a.heads is.0.size)) f))
answer_same bytes file size (Err Order) a is = (
  front_same bytes file size a is.0,
  subst FitsSegmentFile (a.heads is.0.size) is.1,
  λ f. is.2 (subst (λ (h : IncrHead). IsStrictlyIncreasing h.blocks) (sym (a.heads is.0.size)) f),
)
answer_same bytes file size (Err NoMemory) a is = tt

head_told : (bytes file : List ℕ) (size : ℕ) (answer : Result HeadView HeadFault) → ShowsFrom file 0 bytes → 12 ≤ length bytes → HoldsHead bytes size → HeadAnswers bytes size answer → HeadAnswers file size answer
head_told bytes file size answer shown long holds is =
    answer_same bytes file size answer (agrees bytes file size (shown_same file bytes shown) long holds) is

-- ---- files that may not be told

pub goes_on : (front bytes next more : List ℕ) → GoesOn front bytes → next ≡ bytes ++ more → GoesOn front next
goes_on front bytes next more is e = (is.0 ++ more, e ∙ (ap (λ (l : List ℕ). l ++ more) is.1 ∙ append_assoc front is.0 more))

pub shows_on : (file bytes next more : List ℕ) (at : ℕ) → at ≡ length bytes → next ≡ bytes ++ more → ShowsFrom file 0 bytes → ShowsFrom file at more → ShowsFrom file 0 next
shows_on file bytes next more at is e shown next_shown =
    subst (λ (l : List ℕ). ShowsFrom file 0 l) (sym e) (more_shows file bytes more at is shown next_shown)

pub answer_told : (o : Option Files) (path bytes now : List ℕ) (size : ℕ) (answer : Result HeadView HeadFault) → now ≡ bytes → 12 ≤ length bytes → HoldsHead bytes size → HeadAnswers now size answer
    → IfSome o (λ m. ShowsFrom (bytes_of m path) 0 bytes) → IfSome o (λ m. HeadAnswers (bytes_of m path) size answer)
answer_told o path bytes now size answer e long holds is shown =
    when_told o (λ m. ShowsFrom (bytes_of m path) 0 bytes) (λ m. HeadAnswers (bytes_of m path) size answer)
    (λ m s. head_told bytes (bytes_of m path) size answer s long holds (subst (λ (l : List ℕ). HeadAnswers l size answer) e is))
    shown
