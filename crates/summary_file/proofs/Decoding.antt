-- Whose file bytes are, by the numbers in them, and that it is one summary's.
use Rattle.std.proofs.Common.{◌≡◌, ◌⊎◌, inl, inr, ℕ, ◌+◌, ◌-◌, ◌^◌, ◌<◌, ◌≤◌, List, [], ◌∷◌, map, length, take, Option, Some, None, IfSome, Result, Ok, Err, refl, sym, ap, subst, ◌∙◌, arith, false, get_or}
use Rattle.std.specs.List.{AllByRecursion, AllAdjacentBelow}
use Rattle.std.specs.List.Sorted.{IsStrictlySortedBy}
use Rattle.std.specs.Ordering.{nat_cmp, is_lt}
use Rattle.std.specs.Result.{IsErrAnd}
use Rattle.std.specs.Prelude.{◌==◌, true}
use Rattle.std.proofs.lemmas.Bool.{eqb-true, eqb-false}
use Rattle.std.specs.Int.{w32, to_le_bytes}
use Rattle.std.proofs.lemmas.List.{take_at, length-append, length-map}
use Rattle.std.proofs.lemmas.Map.Views.{length-le_from_below}
use Rattle.std.proofs.lemmas.List.Elements.{All-from_recursion}
use Rattle.wal_crc.specs.Crc.{crc32c}
use Rattle.wal_crc.proofs.Laws.{crc32c-fits}
use Rattle.lsn_core.specs.Sizes.{most_blocks}
use Rattle.lsn_core.proofs.AnyAll.{all_more}
use Rattle.lsn_core.proofs.ForkOrder.{fork_cmp_total}
use Rattle.lsn_core.specs.Store.{fork_cmp}
use Rattle.lsn_core.specs.declared.ids.ForkKind.{ForkKind}
use Rattle.lsn_core.specs.declared.ids.ForkKind.TheVariants.{Main, Init}
use Rattle.wal_summary.specs.declared.summary.ForkSummary.{ForkSummary}
use Rattle.wal_summary.specs.declared.summary.Summary.{Summary}
use Rattle.summary_file.specs.declared.numbers.FileNumbers.{FileNumbers}
use Rattle.summary_file.specs.declared.fault.SummaryFault.{SummaryFault}
use Rattle.summary_file.specs.declared.fault.SummaryFault.TheVariants.{Length, Magic, Sum, Order, NoMemory}
use Rattle.summary_file.specs.Numbers.{numbers_bytes, file_bytes, ForkFits, HasNumbers}
use Rattle.summary_file.specs.File.{file_magic, no_limit, limit_number, fork_number, fork_numbers, summary_numbers, summary_bytes, IsWritableFork, IsWritable, ForkHasRoom, HasRoom, IsFileOf, IsSummed, IsNoFile, HasNoNumbers, DecodeAnswers}
use Rattle.summary_file.specs.Inside.{file_at, Fails, AreForksOf, IsSummaryOf, SummaryAnswer}
use Rattle.summary_file.proofs.Many.{below_as}
use Rattle.summary_file.proofs.NumbersAgain.{file_again, numbers_once}
use Rattle.summary_file.proofs.WrittenBytes.{numbers_are_bytes}
use Rattle.summary_file.proofs.ForksFound.{their_numbers, are_writable, have_room, forks_once}
use Rattle.summary_file.proofs.Rising.{Neighbours, rises, falls}
use Rattle.summary_file.proofs.InOrder.{are_sorted, forks_of_written, order_of, blocks_rise}

-- ---- from numbers to a summary

-- the numbers are those of the summary
their_summary : (n : FileNumbers) (s : Summary) → n.magic ≡ file_magic → IsSummaryOf n s → n ≡ summary_numbers s
their_summary n s magic is = λ i. record { magic = magic i; start = is.start i; end = is.end i; made = is.made i; forks = their_numbers n.forks s.forks is.forks i }

pub is_file : (bytes : List ℕ) (n : FileNumbers) (crc : ℕ) (s : Summary) → HasNumbers bytes n crc → n.magic ≡ file_magic → IsSummed n crc → IsSummaryOf n s → IsFileOf s bytes
is_file bytes n crc s has magic summed is =
    let same = their_summary n s magic is in
    let forks : n.forks ≡ map fork_numbers s.forks = their_numbers n.forks s.forks is.forks in
    let count : length n.forks ≡ length s.forks = ap length forks ∙ length-map s.forks fork_numbers in
    record {
      writable = record { rises = is.rises; sorted = are_sorted n.forks s.forks is.forks is.order; forks = are_writable n.forks s.forks is.forks };
      room = record {
        start = below_as _ _ _ is.start has.fits.start;
        end = below_as _ _ _ is.end has.fits.end;
        made = below_as _ _ _ is.made has.fits.made;
        count = below_as _ _ _ count has.fits.count;
        forks = have_room n.forks s.forks has.fits.forks is.forks;
      };
      spelled = has.spelled ∙ ap (file_bytes n) summed ∙ ap (λ (m : FileNumbers). file_bytes m (crc32c (numbers_bytes m))) same;
    }

-- ---- from a summary to numbers

-- blocks that rise below 32,768 are at most so many
few_blocks : (blocks : List ℕ) → IsStrictlySortedBy nat_cmp blocks → AllByRecursion (λ b. b < most_blocks) blocks → length blocks ≤ most_blocks
few_blocks blocks rise below = length-le_from_below most_blocks blocks rise (All-from_recursion (λ b. b < most_blocks) blocks below)

pub count_fits : (f : ForkSummary) → IsStrictlySortedBy nat_cmp f.blocks → IsWritableFork f → length f.blocks < 2 ^ 32
count_fits f rise writable = omega (arith, few_blocks f.blocks rise writable.blocks)

kind_fits : (kind : ForkKind) → fork_number kind < 2 ^ 32
kind_fits Main = omega arith
kind_fits Init = omega arith

limit_fits : (limit : Option ℕ) → IfSome limit (λ count. count < no_limit) → limit_number limit < 2 ^ 32
limit_fits None lt = omega arith
limit_fits (Some count) lt = omega (arith, lt)

fork_fits : (f : ForkSummary) → IsStrictlySortedBy nat_cmp f.blocks → IsWritableFork f → ForkHasRoom f → ForkFits (fork_numbers f)
fork_fits f rise writable room = record {
  db = room.db;
  rel = room.rel;
  kind = kind_fits f.fork.kind;
  limit = limit_fits f.limit writable.limit;
  count = count_fits f rise writable;
  blocks = all_more (λ b. b < most_blocks) (λ b. b < 2 ^ 32) f.blocks (λ b lt. omega (arith, lt)) writable.blocks;
}

forks_fit : (fs : List ForkSummary) → AllByRecursion (λ f. IsStrictlySortedBy nat_cmp f.blocks) fs → AllByRecursion IsWritableFork fs → AllByRecursion ForkHasRoom fs → AllByRecursion ForkFits (map fork_numbers fs)
forks_fit [] rise writable room = tt
forks_fit (f ∷ fs) rise writable room = (fork_fits f rise.0 writable.0 room.0, forks_fit fs rise.1 writable.1 room.1)

pub counts_fit : (fs : List ForkSummary) → AllByRecursion (λ f. IsStrictlySortedBy nat_cmp f.blocks) fs → AllByRecursion IsWritableFork fs → AllByRecursion (λ f. length f.blocks < 2 ^ 32) fs
counts_fit [] rise writable = tt
counts_fit (f ∷ fs) rise writable = (count_fits f rise.0 writable.0, counts_fit fs rise.1 writable.1)

written_numbers : (s : Summary) → IsWritable s → HasRoom s → HasNumbers (summary_bytes s) (summary_numbers s) (crc32c (numbers_bytes (summary_numbers s)))
written_numbers s writable room = record {
  fits = record {
    magic = omega arith;
    start = room.start;
    end = room.end;
    made = room.made;
    count = below_as _ _ _ (sym (length-map s.forks fork_numbers)) room.count;
    forks = forks_fit s.forks (blocks_rise s.forks writable.sorted) writable.forks room.forks;
  };
  crc_fits = crc32c-fits (numbers_bytes (summary_numbers s)) (numbers_are_bytes (summary_numbers s));
  spelled = refl;
}

written_is : (s : Summary) → IsWritable s → HasRoom s → IsSummaryOf (summary_numbers s) s
written_is s writable room = record {
  rises = writable.rises;
  forks = forks_of_written s.forks writable.sorted writable.forks room.forks;
  order = order_of s.forks writable.sorted;
  start = refl;
  end = refl;
  made = refl;
}

-- what a file of a summary has
pub record FileHas (s : Summary) (bytes : List ℕ) (n : FileNumbers) (crc : ℕ) : Type 0 where
  pub same : n ≡ summary_numbers s
  pub magic : n.magic ≡ file_magic
  pub summed : IsSummed n crc
  pub is : IsSummaryOf n s

pub file_has : (s : Summary) (bytes : List ℕ) (n : FileNumbers) (crc : ℕ) → IsFileOf s bytes → HasNumbers bytes n crc → FileHas s bytes n crc
file_has s bytes n crc file has =
    let written = subst (λ (l : List ℕ). HasNumbers l (summary_numbers s) (crc32c (numbers_bytes (summary_numbers s)))) (sym file.spelled) (written_numbers s file.writable file.room) in
    let once = numbers_once bytes n (summary_numbers s) crc _ has written in
    record {
      same = once.0;
      magic = ap (λ (m : FileNumbers). m.magic) once.0;
      summed = once.1 ∙ ap (λ (m : FileNumbers). crc32c (numbers_bytes m)) (sym once.0);
      is = subst (λ (m : FileNumbers). IsSummaryOf m s) (sym once.0) (written_is s file.writable file.room);
    }

pub no_file : (bytes : List ℕ) (n : FileNumbers) (crc : ℕ) → HasNumbers bytes n crc → SummaryAnswer n None → IsNoFile bytes
no_file bytes n crc has none s file = none s (file_has s bytes n crc file has).is

-- ---- there is one summary

pub summary_once : (n : FileNumbers) (s t : Summary) → IsSummaryOf n s → IsSummaryOf n t → s ≡ t
summary_once n s t a b =
    let start : s.start.0 ≡ t.start.0 = sym a.start ∙ b.start in
    let end : s.end.0 ≡ t.end.0 = sym a.end ∙ b.end in
    let made : s.made ≡ t.made = sym a.made ∙ b.made in
    let forks : s.forks ≡ t.forks = forks_once n.forks s.forks t.forks a.forks b.forks in
    λ i. record { start = record { 0 = start i }; end = record { 0 = end i }; made = made i; forks = forks i }

pub file_numbers : (s : Summary) (bytes : List ℕ) → IsFileOf s bytes → HasNumbers bytes (summary_numbers s) (crc32c (numbers_bytes (summary_numbers s)))
file_numbers s bytes file = subst (λ (l : List ℕ). HasNumbers l (summary_numbers s) (crc32c (numbers_bytes (summary_numbers s)))) (sym file.spelled) (written_numbers s file.writable file.room)

pub file_once : (bytes : List ℕ) (s t : Summary) → IsFileOf s bytes → IsFileOf t bytes → s ≡ t
file_once bytes s t a b =
    let has = file_numbers t bytes b in
    summary_once (summary_numbers t) s t (file_has s bytes _ _ a has).is (file_has t bytes _ _ b has).is

-- ---- what is written is read

pub written_is_file : (s : Summary) → IsWritable s → HasRoom s → IsFileOf s (summary_bytes s)
written_is_file s writable room = record { writable = writable; room = room; spelled = refl }

pub one_answer : (s : Summary) (bytes : List ℕ) (r : Result Summary SummaryFault) → IsFileOf s bytes → DecodeAnswers bytes r → (r ≡ Ok s) ⊎ (r ≡ Err NoMemory)
one_answer s bytes (Ok t) file answer = inl (ap (λ (x : Summary). let r : Result Summary SummaryFault = Ok x in r) (file_once bytes t s answer file))
one_answer s bytes (Err Length) file answer = absurd (answer _ _ (file_numbers s bytes file))
one_answer s bytes (Err Magic) file answer = absurd (answer.3 (file_has s bytes answer.0 answer.1 file answer.2).magic)
one_answer s bytes (Err Sum) file answer = absurd (answer.3.1 (file_has s bytes answer.0 answer.1 file answer.2).summed)
one_answer s bytes (Err Order) file answer = absurd (answer.1 s file)
one_answer s bytes (Err NoMemory) file answer = inr refl

-- ---- the sum

-- the bytes before the sum
summed_bytes : (bytes : List ℕ) (n : FileNumbers) (crc : ℕ) → HasNumbers bytes n crc → take (length bytes - 4) bytes ≡ numbers_bytes n
summed_bytes bytes n crc has =
    let count : length bytes ≡ length (numbers_bytes n) + 4 = ap length has.spelled ∙ length-append (numbers_bytes n) (to_le_bytes w32 crc) in
    ap (take (length bytes - 4)) has.spelled ∙ take_at (numbers_bytes n) (to_le_bytes w32 crc) (length bytes - 4) (omega (arith, count))

pub is_sum : (bytes : List ℕ) (n : FileNumbers) (crc : ℕ) → HasNumbers bytes n crc → (crc == crc32c (take (length bytes - 4) bytes)) ≡ true → IsSummed n crc
is_sum bytes n crc has e = eqb-true crc (crc32c (take (length bytes - 4) bytes)) e ∙ ap crc32c (summed_bytes bytes n crc has)

pub is_no_sum : (bytes : List ℕ) (n : FileNumbers) (crc : ℕ) → HasNumbers bytes n crc → (crc == crc32c (take (length bytes - 4) bytes)) ≡ false → IsSummed n crc → ⊥
is_no_sum bytes n crc has e summed = eqb-false crc (crc32c (take (length bytes - 4) bytes)) e (summed ∙ sym (ap crc32c (summed_bytes bytes n crc has)))

-- ---- forks out of order

-- no summary has the numbers of forks of which two neighbours don't rise
pub out_of_order : (n : FileNumbers) (fs : List ForkSummary) (k : ℕ) → AreForksOf n.forks fs → k + 1 < length fs → ((d : ForkSummary) → false ≡ is_lt (fork_cmp (get_or fs k d).fork (get_or fs (k + 1) d).fork))
    → (s : Summary) → IsSummaryOf n s → ⊥
out_of_order n fs k all within not_less s is =
    falls (λ f. f.fork) fork_cmp fs k within not_less (subst (λ (gs : List ForkSummary). IsStrictlySortedBy fork_cmp (map (λ f. f.fork) gs)) (forks_once n.forks s.forks fs is.forks all) is.order)

pub in_order : (n : FileNumbers) (fs : List ForkSummary) → n.start < n.end → AreForksOf n.forks fs → AllAdjacentBelow (Neighbours (λ f. f.fork) fork_cmp) fs (length fs) → (forks : List ForkSummary) → forks ≡ fs
    → IsSummaryOf n (record { start = record { 0 = n.start }; end = record { 0 = n.end }; made = n.made; forks = forks })
in_order n fs lt all rise forks e = record {
  rises = lt;
  forks = subst (AreForksOf n.forks) (sym e) all;
  order = subst (λ (gs : List ForkSummary). IsStrictlySortedBy fork_cmp (map (λ f. f.fork) gs)) (sym e) (rises (λ f. f.fork) fork_cmp fork_cmp_total fs rise);
  start = refl;
  end = refl;
  made = refl;
}

-- ---- bytes whose counts don't give their size

pub no_numbers : (bytes : List ℕ) → file_at bytes ≡ None → HasNoNumbers bytes
no_numbers bytes none n crc has =
    let never : ◌≡◌ {A = Option (FileNumbers × ℕ)} None (Some (n, crc)) = sym none ∙ file_again bytes n crc has in
    absurd cc

length_alone : (bytes : List ℕ) (fault : SummaryFault) → Fails (file_at bytes) fault → DecodeAnswers bytes (Err fault)
length_alone bytes Length fails = no_numbers bytes fails
length_alone bytes Magic fails = absurd fails
length_alone bytes Sum fails = absurd fails
length_alone bytes Order fails = absurd fails
length_alone bytes NoMemory fails = tt

pub refused : (bytes : List ℕ) (fault : SummaryFault) (r : Result Summary SummaryFault) → IsErrAnd r (λ e. e ≡ fault) → Fails (file_at bytes) fault → DecodeAnswers bytes r
refused bytes fault (Ok s) err fails = absurd err
refused bytes fault (Err e) err fails = subst (λ (x : SummaryFault). DecodeAnswers bytes (Err x)) (sym err) (length_alone bytes fault fails)
