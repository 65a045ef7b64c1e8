-- What four areas count together is the tally of the store whose parts they hold.
use Rattle.std.proofs.Common.{◌≡◌, ℕ, zero, suc, ◌+◌, ◌<◌, ◌&&◌, T, Bool, true, false, cond, List, [], ◌∷◌, map, length, Option, Some, None, refl, sym, ap, ◌∙◌, arith}
use Rattle.std.specs.Prelude.{◌==◌}
use Rattle.std.specs.List.{AllByRecursion, filter, sum_by}
use Rattle.std.specs.declared.cmp.Ordering.{Ordering}
use Rattle.std.specs.declared.cmp.Ordering.TheVariants.{Less, Equal, Greater}
use Rattle.std.specs.Ordering.{is_lt, is_eq}
use Rattle.std.specs.Cmp.{eq_by_cmp_equiv}
use Rattle.std.specs.FinMap.{entries, entries_sorted, is_sorted, find, from_sorted, entries-from_sorted, get-from_sorted, get-entries, len-entries, same_map}
use Rattle.std.specs.FinMap.Entries.{below_all, is_sorted-where_key, find-where_key}
use Rattle.std.proofs.lemmas.List.Sums.{sum_by-cons, sum-map}
use Rattle.std.proofs.Math.Nat.{mod-lt}
use Rattle.lsn_core.specs.Files.{Files}
use Rattle.lsn_core.specs.Store.{Store, ForkPages, fork_cmp}
use Rattle.lsn_core.specs.declared.ids.ForkId.{ForkId}
use Rattle.lsn_core.specs.declared.ids.ForkLen.{ForkLen}
use Rattle.lsn_core.proofs.ForkOrder.{fork_cmp_total, fork_cmp-IsAntisymmetric}
use Rattle.lsn_core.proofs.StoreFiles.{same_fork, fork_itself}
use Rattle.vault.specs.declared.area.Vault.{Ghosts}
use Rattle.history.specs.partitions.Parts.{partition_of, is_of, IsPart}
use Rattle.recovery.specs.declared.tally.Tally.{Tally}
use Rattle.rel_files.specs.Forks.{HasWholePages, whole_pages}
use Rattle.rel_files.proofs.WholePages.{whole_all}
use Rattle.data_areas.specs.Rebuilt.{HoldsPages}
use Rattle.restart_areas.specs.Counting.{CountsPages}
use Rattle.comeback_laws.specs.Laws.{CountsAreTallies}

abbrev Entry : Type 0
Entry = ForkId × ForkPages

abbrev size : Entry → ℕ
size e = length e.1

abbrev one : Entry → ℕ
one e = 1

-- the entries of a partition
abbrev own : ℕ → List Entry → List Entry
own q es = filter (λ e. is_of q e.0) es

-- ---- each entry is of one partition

weighed : (w : Entry → ℕ) (b : Bool) (e : Entry) (es : List Entry) → sum_by w (cond b (e ∷ es) es) ≡ cond b (w e + sum_by w es) (sum_by w es)
weighed w true e es = sum_by-cons w e es
weighed w false e es = refl

of_one : (k n a b c d : ℕ) → k < 4 → cond (k == 0) (n + a) a + cond (k == 1) (n + b) b + cond (k == 2) (n + c) c + cond (k == 3) (n + d) d ≡ n + (a + b + c + d)
of_one zero n a b c d less = omega arith
of_one (suc zero) n a b c d less = omega arith
of_one (suc (suc zero)) n a b c d less = omega arith
of_one (suc (suc (suc zero))) n a b c d less = omega arith
of_one (suc (suc (suc (suc k)))) n a b c d less = absurd (omega (arith, less))

four : (a b c d x y z w : ℕ) → a ≡ x → b ≡ y → c ≡ z → d ≡ w → a + b + c + d ≡ x + y + z + w
four a b c d x y z w e f g h = omega (arith, e, f, g, h)

parted : (w : Entry → ℕ) (es : List Entry) → sum_by w (own 0 es) + sum_by w (own 1 es) + sum_by w (own 2 es) + sum_by w (own 3 es) ≡ sum_by w es
parted w [] = refl
parted w (e ∷ es) =
    let k = partition_of e.0.rel in
    four (sum_by w (own 0 (e ∷ es))) (sum_by w (own 1 (e ∷ es))) (sum_by w (own 2 (e ∷ es))) (sum_by w (own 3 (e ∷ es)))
    (cond (k == 0) (w e + sum_by w (own 0 es)) (sum_by w (own 0 es))) (cond (k == 1) (w e + sum_by w (own 1 es)) (sum_by w (own 1 es)))
    (cond (k == 2) (w e + sum_by w (own 2 es)) (sum_by w (own 2 es))) (cond (k == 3) (w e + sum_by w (own 3 es)) (sum_by w (own 3 es)))
    (weighed w (is_of 0 e.0) e (own 0 es)) (weighed w (is_of 1 e.0) e (own 1 es)) (weighed w (is_of 2 e.0) e (own 2 es)) (weighed w (is_of 3 e.0) e (own 3 es))
    ∙ of_one k (w e) (sum_by w (own 0 es)) (sum_by w (own 1 es)) (sum_by w (own 2 es)) (sum_by w (own 3 es)) (mod-lt e.0.rel.rel (omega arith))
    ∙ ap (λ (n : ℕ). w e + n) (parted w es)
    ∙ sym (sum_by-cons w e es)

ones : (es : List Entry) → length es ≡ sum_by one es
ones [] = refl
ones (e ∷ es) =
    let next : suc (sum_by one es) ≡ 1 + sum_by one es = omega arith in
    ap suc (ones es) ∙ next ∙ sym (sum_by-cons one e es)

-- ---- a part has the entries of its partition

part_entries : (q : ℕ) (store part : Store) → IsPart q store part → entries part ≡ own q (entries store)
part_entries q store part is =
    let es = own q (entries store) in
    let sorted : T (is_sorted fork_cmp es) = is_sorted-where_key fork_cmp (is_of q) (entries store) (entries_sorted store) in
    let same : part ≡ from_sorted {R = fork_cmp} es =
    same_map fork_cmp_total fork_cmp-IsAntisymmetric part (from_sorted {R = fork_cmp} es) (λ f.
    is f ∙ ap (λ (o : Option ForkPages). cond (is_of q f) o None) (get-entries store f)
    ∙ sym (get-from_sorted fork_cmp es f sorted ∙ find-where_key fork_cmp (is_of q) f (λ x tied. ap (is_of q) (sym (fork_cmp-IsAntisymmetric f x tied))) (entries store))) in
    ap entries same ∙ entries-from_sorted fork_cmp es sorted

-- ---- whole pages

left : (a b : Bool) → T (a && b) → T a
left true b p = tt
left false b p = p

right : (a b : Bool) → T (a && b) → T b
right true b p = p
right false b p = absurd p

less : (r : Ordering) → T (is_lt r) → is_eq r ≡ false
less Less p = refl
less Equal p = absurd p
less Greater p = absurd p

abbrev FoundIn : List Entry → Entry → Type 0
FoundIn es e = find fork_cmp e.0 es ≡ Some e.1

found_on : (e : Entry) (es fs : List Entry) → T (below_all fork_cmp e.0 fs) → AllByRecursion (FoundIn es) fs → AllByRecursion (FoundIn (e ∷ es)) fs
found_on e es [] below all = tt
found_on e es (x ∷ fs) below all =
    let apart : same_fork x.0 e.0 ≡ false = (eq_by_cmp_equiv fork_cmp_total).symm x.0 e.0 ∙ less (fork_cmp e.0 x.0) (left _ _ below) in
    (ap (λ (b : Bool). cond b (Some e.1) (find fork_cmp x.0 es)) apart ∙ all.0, found_on e es fs (right _ _ below) all.1)

all_found : (es : List Entry) → T (is_sorted fork_cmp es) → AllByRecursion (FoundIn es) es
all_found [] order = tt
all_found (e ∷ es) order =
    (ap (λ (b : Bool). cond b (Some e.1) (find fork_cmp e.0 es)) (fork_itself e.0), found_on e es es (left _ _ order) (all_found es (right _ _ order)))

abbrev entry_length : Entry → ForkLen
entry_length e = record { fork = e.0; blocks = length (whole_pages e.1) }

lengths : (store : Store) (es : List Entry) → HasWholePages store → AllByRecursion (FoundIn (entries store)) es → sum_by (λ (f : ForkLen). f.blocks) (map entry_length es) ≡ sum_by size es
lengths store [] whole all = refl
lengths store (e ∷ es) whole all =
    let here : length (whole_pages e.1) ≡ length e.1 = ap (λ (l : ForkPages). length l) (whole_all e.1 (whole e.0 e.1 (get-entries store e.0 ∙ all.0))) in
    sum_by-cons (λ (f : ForkLen). f.blocks) (entry_length e) (map entry_length es)
    ∙ ap (λ (n : ℕ). n + sum_by (λ (f : ForkLen). f.blocks) (map entry_length es)) here
    ∙ ap (λ (n : ℕ). length e.1 + n) (lengths store es whole all.1)
    ∙ sym (sum_by-cons size e es)

mapped : (es : List Entry) → length (map entry_length es) ≡ length es
mapped [] = refl
mapped (e ∷ es) = ap suc (mapped es)

-- ---- what is counted

record IsCounted (q : ℕ) (store : Store) (tally : Tally) : Type 0 where
  forks : tally.forks ≡ sum_by one (own q (entries store))
  pages : tally.pages ≡ sum_by size (own q (entries store))

counted : (relseg q : ℕ) (told : Option Files) (store : Store) (tally : Tally) → CountsPages relseg told tally → (part : Store) × (IsPart q store part × HoldsPages relseg told part) → IsCounted q store tally
counted relseg q told store tally counts has =
    let part = has.0 in
    let count = counts part has.1.1 in
    let same = part_entries q store part has.1.0 in
    record {
      forks = count.forks ∙ mapped (entries part) ∙ ones (entries part) ∙ ap (sum_by one) same;
      pages = count.pages ∙ lengths part (entries part) has.1.1.whole (all_found (entries part) (entries_sorted part)) ∙ ap (sum_by size) same;
    }

pub counts_are_tallies : {V : Type 0} (g : Ghosts V) → CountsAreTallies g
counts_are_tallies g relseg areas tally store counts has =
    let c0 = counted relseg 0 (g.files areas.data0) store counts.first counts.data0 (has 0 (omega arith)) in
    let c1 = counted relseg 1 (g.files areas.data1) store counts.second counts.data1 (has 1 (omega arith)) in
    let c2 = counted relseg 2 (g.files areas.data2) store counts.third counts.data2 (has 2 (omega arith)) in
    let c3 = counted relseg 3 (g.files areas.data3) store counts.fourth counts.data3 (has 3 (omega arith)) in
    let sum = counts.together in
    let es = entries store in
    record {
      forks = sum.forks
          ∙ four counts.first.forks counts.second.forks counts.third.forks counts.fourth.forks (sum_by one (own 0 es)) (sum_by one (own 1 es)) (sum_by one (own 2 es)) (sum_by one (own 3 es)) c0.forks c1.forks c2.forks c3.forks
          ∙ parted one es ∙ sym (ones es) ∙ sym (len-entries store);
      pages = sum.pages
          ∙ four counts.first.pages counts.second.pages counts.third.pages counts.fourth.pages (sum_by size (own 0 es)) (sum_by size (own 1 es)) (sum_by size (own 2 es)) (sum_by size (own 3 es)) c0.pages c1.pages c2.pages c3.pages
          ∙ parted size es ∙ sym (sum-map size es);
    }
