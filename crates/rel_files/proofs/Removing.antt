-- Files of a fork removed one after the other, the last one first, and the last one that stays cut.
use Rattle.std.proofs.Common.{length-take, ◌≡◌, ℕ, ◌+◌, ◌-◌, ◌*◌, ◌/◌, ◌^◌, ◌<◌, ◌≤◌, min, ◌⊎◌, inl, inr, ⊎_elim, true, [], length, Option, Some, None, option_map, unwrap_or, is_some, refl, ap, sym, subst, ◌∙◌, arith}
use Rattle.std.proofs.lemmas.Bool.{cases_lt}
use Rattle.std.proofs.lemmas.Nat.{div-add-mod'}
use Rattle.std.proofs.Math.Nat.{mod-lt, mul-le-mul_right}
use Rattle.std.specs.FinMap.{get, contains_key}
use Rattle.lsn_core.specs.declared.ids.ForkId.{ForkId}
use Rattle.lsn_core.specs.Files.{Files}
use Rattle.lsn_core.specs.Store.{Store, ForkPages}
use Rattle.lsn_core.specs.Blocks.{pages_of, with_cut, without_fork}
use Rattle.rel_files.specs.Forks.{whole_pages, mended, IsTornCut, IsTornRemoval}
use Rattle.rel_files.specs.Shown.{AreFilesOf, whole_count}
use Rattle.rel_files.specs.Inside.{whole_length, last_file}
use Rattle.rel_files.proofs.Pages.{held_by, held_most}
use Rattle.rel_files.proofs.SegmentChanges.{pages_held, pages_fit}
use Rattle.rel_files.proofs.ForkCuts.{uncut, cut_pages_are, cut_there, cut_whole, cut_twice, cut_mended, gone_after_cut}
use Rattle.rel_files.proofs.FileCalls.{is_left}

cut_most : (s : Store) (fork : ForkId) (n : ℕ) → length (pages_of (with_cut s fork n) fork) ≤ n
cut_most s fork n = subst (λ (ps : ForkPages). length ps ≤ n) (sym (cut_pages_are s fork n)) (let l = length-take n (pages_of s fork) in omega (arith, l))

pub removed_next : (relseg : ℕ) (x y : Option Files) (s : Store) (fork : ForkId) (end : ℕ) → 1 ≤ end
    → ((u : Store) → AreFilesOf relseg x u → length (pages_of u fork) ≤ (end - 1 + 1) * relseg → AreFilesOf relseg y (with_cut u fork ((end - 1) * relseg)))
    → AreFilesOf relseg x (with_cut s fork (end * relseg)) → AreFilesOf relseg y (with_cut s fork ((end - 1) * relseg))
removed_next relseg x y s fork end some remove held =
    let same : end - 1 + 1 ≡ end = omega (arith, some) in
    subst (λ (t : Store). AreFilesOf relseg y t) (cut_twice s fork (end * relseg) ((end - 1) * relseg) (mul-le-mul_right relseg (omega arith)))
    (remove (with_cut s fork (end * relseg)) held (subst (λ (n : ℕ). length (pages_of (with_cut s fork (end * relseg)) fork) ≤ n * relseg) (sym same) (cut_most s fork (end * relseg))))

-- at least the files before the first one to be removed are left
abbrev pub LeavesFrom : ℕ → Option Files → Store → ForkId → ℕ → Type 0
LeavesFrom relseg y s fork first = (left : ℕ) × (first * relseg ≤ left × AreFilesOf relseg y (with_cut s fork left))

pub removed_torn : (relseg : ℕ) (x y : Option Files) (s : Store) (fork : ForkId) (first end : ℕ) → first < end
    → ((u : Store) → AreFilesOf relseg x u → length (pages_of u fork) ≤ (end - 1 + 1) * relseg → LeavesFrom relseg y u fork (end - 1))
    → AreFilesOf relseg x (with_cut s fork (end * relseg)) → LeavesFrom relseg y s fork first
removed_torn relseg x y s fork first end order torn held =
    let n = end * relseg in
    let u = with_cut s fork n in
    let same : end - 1 + 1 ≡ end = omega (arith, order) in
    let short = cut_most s fork n in
    let left = torn u held (subst (λ (k : ℕ). length (pages_of u fork) ≤ k * relseg) (sym same) short) in
    let least : first * relseg ≤ (end - 1) * relseg = mul-le-mul_right relseg (omega (arith, order)) in
    let enough : first * relseg ≤ n = mul-le-mul_right relseg (omega (arith, order)) in
    ⊎_elim
    (λ past. (n, (enough, subst (λ (t : Store). AreFilesOf relseg y t) (uncut u fork left.0 (omega (arith, short, past))) left.1.1)))
    (λ within. (left.0, (omega (arith, least, left.1.0), subst (λ (t : Store). AreFilesOf relseg y t) (cut_twice s fork n left.0 within) left.1.1)))
    (cases_lt n left.0)

-- ---- all files of a fork with so many whole pages

counted_length : (s : Store) (fork : ForkId) (count : ℕ) → whole_count s fork ≡ Some count → (whole_length s fork ≡ count) × (contains_key s fork ≡ true)
counted_length s fork count e = by (get s fork) refl
  where
    by : (o : Option ForkPages) → get s fork ≡ o → (whole_length s fork ≡ count) × (contains_key s fork ≡ true)
    by None is = let no : None ≡ Some count = sym (ap (option_map (λ (pages : ForkPages). length (whole_pages pages))) is) ∙ e in absurd cc
    by (Some pages) is =
        let same : Some (length (whole_pages pages)) ≡ Some count = sym (ap (option_map (λ (ps : ForkPages). length (whole_pages ps))) is) ∙ e in
        let n : length (whole_pages pages) ≡ count = cc in
        (ap (λ (o : Option ForkPages). length (whole_pages (unwrap_or o []))) is ∙ n, ap (λ (o : Option ForkPages). is_some o) is)

files_end : (relseg count pages : ℕ) → 0 < relseg → pages ≤ count + 1 → pages < 2 ^ 32 → pages ≤ min (count / relseg + 1) 4294967295 * relseg
files_end relseg count pages some most fits =
    let parts = div-add-mod' count relseg in
    let rest = mod-lt count some in
    ⊎_elim
    (λ less. let same : min (count / relseg + 1) 4294967295 ≡ count / relseg + 1 = omega (arith, less) in subst (λ (n : ℕ). pages ≤ n * relseg) (sym same) (omega (arith, parts, rest, most)))
    (λ past. let same : min (count / relseg + 1) 4294967295 ≡ 4294967295 = omega (arith, past) in subst (λ (n : ℕ). pages ≤ n * relseg) (sym same) (omega (arith, some, fits)))
    (cases_lt (count / relseg + 1) 4294967295)

-- a fork has no more files than those up to the one in which a page behind the whole ones would stand
pub has_files : (relseg : ℕ) (x : Option Files) (s : Store) (fork : ForkId) (count end : ℕ) → 0 < relseg → AreFilesOf relseg x s → whole_count s fork ≡ Some count → end ≡ min (count / relseg + 1) 4294967295 → length (pages_of s fork) ≤ end * relseg
has_files relseg x s fork count end some held e is =
    let most = held_most 8192 (whole_length s fork) (pages_of s fork) (held_by (pages_of s fork) (pages_held relseg held.files s fork held.hold)) in
    let fits = pages_fit relseg held.files s fork held.hold in
    let counted = counted_length s fork count e in
    subst (λ (n : ℕ). length (pages_of s fork) ≤ n * relseg) (sym is) (files_end relseg count (length (pages_of s fork)) some (omega (arith, most, counted.0)) fits)

-- ---- a cut

module _ (relseg : ℕ) (x mid y : Option Files) (s : Store) (fork : ForkId) (count to left : ℕ) (some : 0 < relseg) (held : AreFilesOf relseg x s) (e : whole_count s fork ≡ Some count) (is : left ≡ min count to) where
  room : left ≤ (last_file relseg left + 1) * relseg
  room = let place = is_left relseg left some in omega (arith, place.small)

  least : min to (whole_length s fork) ≤ left
  least = let counted = counted_length s fork count e in omega (arith, counted.0, is)

  pub cut_torn_before : LeavesFrom relseg mid s fork (last_file relseg left + 1) → (t : Store) × (AreFilesOf relseg mid t × IsTornCut fork to s t)
  cut_torn_before leaves = (with_cut s fork leaves.0, (leaves.1.1, record { left = leaves.0; least = omega (arith, least, room, leaves.1.0); cut = refl }))

  there : contains_key (with_cut s fork ((last_file relseg left + 1) * relseg)) fork ≡ true
  there = cut_there s fork ((last_file relseg left + 1) * relseg) ∙ (counted_length s fork count e).1

  within : left ≤ whole_length (with_cut s fork ((last_file relseg left + 1) * relseg)) fork
  within =
      let n = (last_file relseg left + 1) * relseg in
      let same : whole_length (with_cut s fork n) fork ≡ min n (whole_length s fork) = ap (λ (ps : ForkPages). length (whole_pages ps)) (cut_pages_are s fork n) ∙ cut_whole (pages_of s fork) n (pages_held relseg held.files s fork held.hold) in
      let counted = counted_length s fork count e in
      omega (arith, same, counted.0, is, room)

  at_last : with_cut (with_cut s fork ((last_file relseg left + 1) * relseg)) fork left ≡ with_cut s fork left
  at_last = cut_twice s fork ((last_file relseg left + 1) * relseg) left room

  module _ (removed : AreFilesOf relseg mid (with_cut s fork ((last_file relseg left + 1) * relseg))) where
    pub cut_done : ((u : Store) → AreFilesOf relseg mid u → contains_key u fork ≡ true → length (pages_of u fork) ≤ (last_file relseg left + 1) * relseg → left ≤ whole_length u fork → AreFilesOf relseg y (with_cut u fork left)) → AreFilesOf relseg y (with_cut (mended s fork) fork to)
    cut_done cuts =
        let n = (last_file relseg left + 1) * relseg in
        let counted = counted_length s fork count e in
        subst (λ (t : Store). AreFilesOf relseg y t) (at_last ∙ sym (cut_mended s fork to left (pages_held relseg held.files s fork held.hold) (omega (arith, is, counted.0))))
        (cuts (with_cut s fork n) removed there (cut_most s fork n) within)

    pub cut_torn_last : ((u : Store) → AreFilesOf relseg mid u → contains_key u fork ≡ true → length (pages_of u fork) ≤ (last_file relseg left + 1) * relseg → left ≤ whole_length u fork → AreFilesOf relseg y u ⊎ AreFilesOf relseg y (with_cut u fork left))
        → (t : Store) × (AreFilesOf relseg y t × IsTornCut fork to s t)
    cut_torn_last leaves =
        let n = (last_file relseg left + 1) * relseg in
        ⊎_elim
        (λ same. (with_cut s fork n, (same, record { left = n; least = omega (arith, least, room); cut = refl })))
        (λ cut. (with_cut (with_cut s fork n) fork left, (cut, record { left = left; least = least; cut = at_last })))
        (leaves (with_cut s fork n) removed there (cut_most s fork n) within)

-- ---- a removal

module _ (relseg : ℕ) (mid y : Option Files) (s : Store) (fork : ForkId) where
  pub removal_torn_before : LeavesFrom relseg mid s fork 1 → (t : Store) × (AreFilesOf relseg mid t × IsTornRemoval fork s t)
  removal_torn_before leaves = (with_cut s fork leaves.0, (leaves.1.1, inl (record { left = leaves.0; least = omega arith; cut = refl })))

  module _ (removed : AreFilesOf relseg mid (with_cut s fork (1 * relseg))) where
    pub removal_done : ((u : Store) → AreFilesOf relseg mid u → length (pages_of u fork) ≤ 1 * relseg → AreFilesOf relseg y (without_fork u fork)) → AreFilesOf relseg y (without_fork s fork)
    removal_done removes = subst (λ (t : Store). AreFilesOf relseg y t) (gone_after_cut s fork (1 * relseg)) (removes (with_cut s fork (1 * relseg)) removed (cut_most s fork (1 * relseg)))

    pub removal_torn_last : ((u : Store) → AreFilesOf relseg mid u → length (pages_of u fork) ≤ 1 * relseg → AreFilesOf relseg y u ⊎ AreFilesOf relseg y (without_fork u fork)) → (t : Store) × (AreFilesOf relseg y t × IsTornRemoval fork s t)
    removal_torn_last leaves =
        ⊎_elim
        (λ same. (with_cut s fork (1 * relseg), (same, inl (record { left = 1 * relseg; least = omega arith; cut = refl }))))
        (λ gone. (without_fork (with_cut s fork (1 * relseg)) fork, (gone, inr (gone_after_cut s fork (1 * relseg)))))
        (leaves (with_cut s fork (1 * relseg)) removed (cut_most s fork (1 * relseg)))
