-- One call on a segment file: what it leaves of each store that the files hold.
use Rattle.std.proofs.Common.{◌≡◌, ℕ, zero, suc, ◌+◌, ◌-◌, ◌*◌, ◌/◌, ◌%◌, ◌^◌, ◌<◌, ◌≤◌, ◌⊎◌, inl, inr, ⊎_elim, true, false, List, [], length, Option, Some, None, option_map, unwrap_or, Result, Ok, Err, OnOk, OnErr, refl, sym, ap, subst, ◌∙◌, arith, is_some}
use Rattle.std.proofs.lemmas.Nat.{div-add-mod'}
use Rattle.std.proofs.Math.Nat.{mod-lt, zero-div}
use Rattle.std.specs.FinMap.{get, contains_key}
use Rattle.lsn_core.specs.declared.ids.ForkId.{ForkId}
use Rattle.lsn_core.specs.declared.ids.BlockId.{BlockId}
use Rattle.lsn_core.specs.declared.fault.AreaFault.{AreaFault}
use Rattle.lsn_core.specs.declared.fault.AreaFault.TheVariants.{NoMemory, Failed}
use Rattle.lsn_core.specs.Files.{Files}
use Rattle.lsn_core.specs.Names.{fork_path_bytes, IsNamed}
use Rattle.lsn_core.specs.Store.{Store, ForkPages, segment_count}
use Rattle.lsn_core.specs.Blocks.{pages_of, page_put, with_fork, with_cut, without_fork}
use Rattle.vault.specs.Area.{Related, IsTorn, IsUndecided, after_write, after_cut, after_remove, Writes, MayTear, Cuts, MayCut, Removes, MayRemove}
use Rattle.rel_files.specs.Forks.{Holds, whole_pages, IsTornPut}
use Rattle.rel_files.specs.Shown.{AreFilesOf, IsTornMake}
use Rattle.rel_files.specs.Inside.{whole_length, last_file}
use Rattle.rel_files.proofs.SegmentFiles.{renamed}
use Rattle.rel_files.proofs.ForkStores.{gone_there, gone_here, same_store}
use Rattle.rel_files.proofs.SegmentChanges.{block_is_put}
use Rattle.rel_files.proofs.TornPuts.{none_is_torn, torn_put, whole_within}
use Rattle.rel_files.proofs.ForkCuts.{uncut, count_is, at_most_removed, at_most_first_removed}
use Rattle.rel_files.proofs.ForkFiles.{fork_is_made, torn_make, boundary_cut}

-- ---- files that a call left

pub step_held : (relseg : ℕ) (x y : Option Files) (step : Files → Files) (s t : Store) → y ≡ option_map step x → AreFilesOf relseg x s → ((m : Files) → Holds relseg m s → Holds relseg (step m) t) → AreFilesOf relseg y t
step_held relseg x y step s t e held law = record {
  files = step held.files;
  are_told = e ∙ ap (option_map step) held.are_told;
  hold = law held.files held.hold;
}

pub same_held : (relseg : ℕ) (x y : Option Files) (s : Store) → y ≡ x → AreFilesOf relseg x s → AreFilesOf relseg y s
same_held relseg x y s e held = record { files = held.files; are_told = e ∙ held.are_told; hold = held.hold }

told_both : (R : Files → Files → Type 0) (x y : Option Files) (m : Files) → Related R x y → x ≡ Some m → (n : Files) × ((y ≡ Some n) × R m n)
told_both R None None m rel e = absurd cc
told_both R (Some a) (Some b) m rel e = let same : a ≡ m = cc in (b, (refl, subst (λ (f : Files). R f b) same rel))
told_both R None (Some b) m rel e = absurd rel
told_both R (Some a) None m rel e = absurd rel

undecided_held : (relseg : ℕ) (x y : Option Files) (step : Files → Files) (s t : Store) → Related (IsUndecided step) x y → AreFilesOf relseg x s → ((m : Files) → Holds relseg m s → Holds relseg (step m) t) → AreFilesOf relseg y s ⊎ AreFilesOf relseg y t
undecided_held relseg x y step s t rel held law =
    let both = told_both (IsUndecided step) x y held.files rel held.are_told in
    ⊎_elim (λ same. inl (record { files = both.0; are_told = both.1.0; hold = subst (λ (f : Files). Holds relseg f s) (sym same) held.hold }))
    (λ made. inr (record { files = both.0; are_told = both.1.0; hold = subst (λ (f : Files). Holds relseg f t) (sym made) (law held.files held.hold) }))
    both.1.1

-- a call that failed, where it isn't a write: a store is held as before or as after
pub left_held : {T : Type 0} (relseg : ℕ) (x y : Option Files) (step : Files → Files) (s t : Store) (result : Result T AreaFault) → (result ≡ Err NoMemory → y ≡ x) → (result ≡ Err Failed → Related (IsUndecided step) x y) → AreFilesOf relseg x s
    → ((m : Files) → Holds relseg m s → Holds relseg (step m) t) → OnErr result (AreFilesOf relseg y s ⊎ AreFilesOf relseg y t)
left_held relseg x y step s t (Ok done) memory failed held law = tt
left_held relseg x y step s t (Err NoMemory) memory failed held law = inl (same_held relseg x y s (memory refl) held)
left_held relseg x y step s t (Err Failed) memory failed held law = undecided_held relseg x y step s t (failed refl) held law

-- ---- a page written

pub page_written : {T : Type 0} (relseg : ℕ) (x y : Option Files) (at : BlockId) (page name : List ℕ) (place : ℕ) (result : Result T AreaFault) → 0 < relseg → IsNamed at.fork (at.block / relseg) → name ≡ fork_path_bytes at.fork (at.block / relseg) false
    → place ≡ at.block % relseg * 8192 → at.block < 2 ^ 32 - 1 → length page ≡ 8192 → Writes name place page x y result
    → OnOk result ((s : Store) → AreFilesOf relseg x s → at.block ≤ whole_length s at.fork → AreFilesOf relseg y (page_put at page s))
page_written relseg x y at page name place (Err fault) some named is here fits size ok = tt
page_written relseg x y at page name place (Ok done) some named is here fits size ok = λ s held within.
    step_held relseg x y (after_write name place page) s (page_put at page s) ok held (λ m holds.
    subst (λ (q : List ℕ). Holds relseg (after_write q place page m) (page_put at page s)) (sym is)
    (subst (λ (p : ℕ). Holds relseg (after_write (fork_path_bytes at.fork (at.block / relseg) false) p page m) (page_put at page s)) (sym here)
    (block_is_put relseg m s at.fork at.block page some holds (renamed at.fork (at.block / relseg) 0 named (omega arith)) within fits size)))

pub page_torn : {T : Type 0} (relseg : ℕ) (x y : Option Files) (at : BlockId) (page name : List ℕ) (place : ℕ) (result : Result T AreaFault) → 0 < relseg → IsNamed at.fork (at.block / relseg) → name ≡ fork_path_bytes at.fork (at.block / relseg) false
    → place ≡ at.block % relseg * 8192 → at.block < 2 ^ 32 - 1 → length page ≡ 8192 → (result ≡ Err NoMemory → y ≡ x) → MayTear name place page x y result
    → OnErr result ((s : Store) → AreFilesOf relseg x s → at.block ≤ whole_length s at.fork → (t : Store) × (AreFilesOf relseg y t × IsTornPut at s t))
page_torn relseg x y at page name place (Ok done) some named is here fits size memory failed = tt
page_torn relseg x y at page name place (Err NoMemory) some named is here fits size memory failed = λ s held within. (s, (same_held relseg x y s (memory refl) held, none_is_torn s at.fork at.block))
page_torn relseg x y at page name place (Err Failed) some named is here fits size memory failed = λ s held within.
    let both = told_both (IsTorn name place (length page)) x y held.files (failed refl) held.are_told in
    let path = fork_path_bytes at.fork (at.block / relseg) false in
    let torn : IsTorn path (at.block % relseg * 8192) 8192 held.files both.0 =
    subst (λ (q : List ℕ). IsTorn q (at.block % relseg * 8192) 8192 held.files both.0) is
    (subst (λ (p : ℕ). IsTorn name p 8192 held.files both.0) here
    (subst (λ (n : ℕ). IsTorn name place n held.files both.0) size both.1.1)) in
    let left = torn_put relseg held.files both.0 s at.fork at.block some held.hold (renamed at.fork (at.block / relseg) 0 named (omega arith)) within fits torn in
    (left.left, (record { files = both.0; are_told = both.1.0; hold = left.holds }, left.torn))

-- ---- a fork made

pub fork_made : {T : Type 0} (relseg : ℕ) (x y : Option Files) (fork : ForkId) (name : List ℕ) (result : Result T AreaFault) → 0 < relseg → IsNamed fork 0 → name ≡ fork_path_bytes fork 0 false → Writes name 0 [] x y result
    → OnOk result ((s : Store) → AreFilesOf relseg x s → get s fork ≡ None → AreFilesOf relseg y (with_fork s fork))
fork_made relseg x y fork name (Err fault) some named is ok = tt
fork_made relseg x y fork name (Ok done) some named is ok = λ s held none.
    step_held relseg x y (after_write name 0 []) s (with_fork s fork) ok held (λ m holds.
    subst (λ (q : List ℕ). Holds relseg (after_write q 0 [] m) (with_fork s fork)) (sym is) (fork_is_made relseg m s fork some holds named none))

pub make_torn : {T : Type 0} (relseg : ℕ) (x y : Option Files) (fork : ForkId) (name : List ℕ) (result : Result T AreaFault) → 0 < relseg → IsNamed fork 0 → name ≡ fork_path_bytes fork 0 false → (result ≡ Err NoMemory → y ≡ x) → MayTear name 0 [] x y result
    → OnErr result ((s : Store) → AreFilesOf relseg x s → get s fork ≡ None → (t : Store) × (AreFilesOf relseg y t × IsTornMake fork s t))
make_torn relseg x y fork name (Ok done) some named is memory failed = tt
make_torn relseg x y fork name (Err NoMemory) some named is memory failed = λ s held none. (s, (same_held relseg x y s (memory refl) held, inl refl))
make_torn relseg x y fork name (Err Failed) some named is memory failed = λ s held none.
    let both = told_both (IsTorn name 0 0) x y held.files (failed refl) held.are_told in
    let torn : IsTorn (fork_path_bytes fork 0 false) 0 0 held.files both.0 = subst (λ (q : List ℕ). IsTorn q 0 0 held.files both.0) is both.1.1 in
    ⊎_elim (λ same. (s, (record { files = both.0; are_told = both.1.0; hold = same }, inl refl)))
    (λ made. (with_fork s fork, (record { files = both.0; are_told = both.1.0; hold = made }, inr refl)))
    (torn_make relseg held.files both.0 s fork some held.hold named none torn)

-- ---- a file removed

pub without_missing : (s : Store) (fork : ForkId) → get s fork ≡ None → without_fork s fork ≡ s
without_missing s fork e = same_store fork (without_fork s fork) s (gone_here s fork ∙ sym e) (gone_there s fork)

pub file_removed : {T : Type 0} (relseg : ℕ) (x y : Option Files) (fork : ForkId) (seg : ℕ) (name : List ℕ) (result : Result T AreaFault) → 0 < relseg → IsNamed fork seg → name ≡ fork_path_bytes fork seg false → 1 ≤ seg → Removes name x y result
    → OnOk result ((s : Store) → AreFilesOf relseg x s → length (pages_of s fork) ≤ (seg + 1) * relseg → AreFilesOf relseg y (with_cut s fork (seg * relseg)))
file_removed relseg x y fork seg name (Err fault) some named is later ok = tt
file_removed relseg x y fork seg name (Ok done) some named is later ok = λ s held le.
    step_held relseg x y (after_remove name) s (with_cut s fork (seg * relseg)) ok held (λ m holds.
    subst (λ (q : List ℕ). Holds relseg (after_remove q m) (with_cut s fork (seg * relseg))) (sym is) (at_most_removed relseg m s fork seg some holds named le later))

pub err_is : {T E : Type 0} (P : Type 0) (result : Result T E) → P → OnErr result P
err_is P (Ok done) h = tt
err_is P (Err fault) h = h

on_err : {T E : Type 0} (P Q : Type 0) (result : Result T E) → (P → Q) → OnErr result P → OnErr result Q
on_err P Q (Ok done) law h = tt
on_err P Q (Err fault) law h = law h

err_each : {T E : Type 0} (S : Type 0) (P : S → Type 0) (result : Result T E) → ((s : S) → OnErr result (P s)) → OnErr result ((s : S) → P s)
err_each S P (Ok done) law = tt
err_each S P (Err fault) law = law

err_given : {T E : Type 0} (S P : Type 0) (result : Result T E) → (S → OnErr result P) → OnErr result (S → P)
err_given S P (Ok done) law = tt
err_given S P (Err fault) law = law

pub removal_left : {T : Type 0} (relseg : ℕ) (x y : Option Files) (fork : ForkId) (seg : ℕ) (name : List ℕ) (result : Result T AreaFault) → 0 < relseg → IsNamed fork seg → name ≡ fork_path_bytes fork seg false → 1 ≤ seg
    → (result ≡ Err NoMemory → y ≡ x) → MayRemove name x y result
    → OnErr result ((s : Store) → AreFilesOf relseg x s → length (pages_of s fork) ≤ (seg + 1) * relseg → (left : ℕ) × (seg * relseg ≤ left × AreFilesOf relseg y (with_cut s fork left)))
removal_left relseg x y fork seg name result some named is later memory failed =
    err_each Store _ result (λ s. err_given _ _ result (λ held. err_given _ _ result (λ le.
    on_err _ _ result (⊎_elim
    (λ same. ((seg + 1) * relseg, (omega arith, subst (λ (t : Store). AreFilesOf relseg y t) (sym (uncut s fork ((seg + 1) * relseg) le)) same)))
    (λ gone. (seg * relseg, (omega arith, gone))))
    (left_held relseg x y (after_remove name) s (with_cut s fork (seg * relseg)) result memory failed held (λ m holds.
    subst (λ (q : List ℕ). Holds relseg (after_remove q m) (with_cut s fork (seg * relseg))) (sym is) (at_most_removed relseg m s fork seg some holds named le later))))))

pub one_removed : {T : Type 0} (relseg : ℕ) (x y : Option Files) (fork : ForkId) (name : List ℕ) (result : Result T AreaFault) → 0 < relseg → IsNamed fork 0 → name ≡ fork_path_bytes fork 0 false → Removes name x y result
    → OnOk result ((s : Store) → AreFilesOf relseg x s → length (pages_of s fork) ≤ 1 * relseg → AreFilesOf relseg y (without_fork s fork))
one_removed relseg x y fork name (Err fault) some named is ok = tt
one_removed relseg x y fork name (Ok done) some named is ok = λ s held le.
    step_held relseg x y (after_remove name) s (without_fork s fork) ok held (λ m holds.
    subst (λ (q : List ℕ). Holds relseg (after_remove q m) (without_fork s fork)) (sym is) (at_most_first_removed relseg m s fork some holds named (omega (arith, le))))

pub one_left : {T : Type 0} (relseg : ℕ) (x y : Option Files) (fork : ForkId) (name : List ℕ) (result : Result T AreaFault) → 0 < relseg → IsNamed fork 0 → name ≡ fork_path_bytes fork 0 false
    → (result ≡ Err NoMemory → y ≡ x) → MayRemove name x y result
    → OnErr result ((s : Store) → AreFilesOf relseg x s → length (pages_of s fork) ≤ 1 * relseg → AreFilesOf relseg y s ⊎ AreFilesOf relseg y (without_fork s fork))
one_left relseg x y fork name result some named is memory failed =
    err_each Store _ result (λ s. err_given _ _ result (λ held. err_given _ _ result (λ le.
    left_held relseg x y (after_remove name) s (without_fork s fork) result memory failed held (λ m holds.
    subst (λ (q : List ℕ). Holds relseg (after_remove q m) (without_fork s fork)) (sym is) (at_most_first_removed relseg m s fork some holds named (omega (arith, le)))))))

-- ---- the last file cut

-- where a cut leaves so many blocks: in the last file of these
pub record IsLeft (relseg left : ℕ) : Type 0 where
  pub here : last_file relseg left * relseg ≤ left
  pub small : left - last_file relseg left * relseg ≤ relseg
  pub some : (1 ≤ left - last_file relseg left * relseg) ⊎ (last_file relseg left ≡ 0)
  pub has : (last_file relseg left ≡ 0) ⊎ (last_file relseg left * relseg < left)

pub is_left : (relseg left : ℕ) → 0 < relseg → IsLeft relseg left
is_left relseg zero some = record {
  here = let z = zero_by relseg some in omega (arith, z);
  small = omega arith;
  some = inr (zero_by relseg some);
  has = inl (zero_by relseg some);
}
  where
    zero_by : (r : ℕ) → 0 < r → last_file r zero ≡ 0
    zero_by r h = zero-div r
is_left relseg (suc n) some =
    let one : suc n - 1 ≡ n = omega arith in
    let file : last_file relseg (suc n) ≡ n / relseg = ap (λ (k : ℕ). k / relseg) one in
    let parts = div-add-mod' n relseg in
    let rest = mod-lt n some in
    let times : last_file relseg (suc n) * relseg ≡ n / relseg * relseg = ap (λ (k : ℕ). k * relseg) file in
    record {
      here = omega (arith, times, parts);
      small = omega (arith, times, parts, rest);
      some = inl (omega (arith, times, parts));
      has = inr (omega (arith, times, parts));
    }

last_cut : (relseg : ℕ) (m : Files) (s : Store) (fork : ForkId) (left size : ℕ) → 0 < relseg → Holds relseg m s → contains_key s fork ≡ true → length (pages_of s fork) ≤ (last_file relseg left + 1) * relseg → left ≤ whole_length s fork
    → size ≡ (left - last_file relseg left * relseg) * 8192 → Holds relseg (after_cut (fork_path_bytes fork (last_file relseg left) false) size m) (with_cut s fork left)
last_cut relseg m s fork left size some holds there most within e = by (get s fork) refl
  where
    path : List ℕ
    path = fork_path_bytes fork (last_file relseg left) false

    by : (o : Option ForkPages) → get s fork ≡ o → Holds relseg (after_cut path size m) (with_cut s fork left)
    by None none = let no : false ≡ true = sym (ap (λ (o : Option ForkPages). is_some o) none) ∙ there in absurd cc
    by (Some pages) is =
        let same : pages_of s fork ≡ pages = ap (λ (o : Option ForkPages). unwrap_or o []) is in
        let seg = last_file relseg left in
        let c = left - seg * relseg in
        let place = is_left relseg left some in
        let whole : left ≤ length (whole_pages pages) = subst (λ (p : ForkPages). left ≤ length (whole_pages p)) same within in
        let long : length (whole_pages pages) ≤ length pages = whole_within pages (holds.held fork pages is) in
        let all : length pages ≤ (seg + 1) * relseg = subst (λ (p : ForkPages). length p ≤ (seg + 1) * relseg) same most in
        let sum : seg * relseg + c ≡ left = omega (arith, place.here) in
        let count : segment_count relseg (length pages) ≡ seg + 1 = count_is relseg (length pages) seg some (⊎_elim (λ first. inl first) (λ less. inr (omega (arith, less, whole, long))) place.has) all in
        subst (λ (n : ℕ). Holds relseg (after_cut path n m) (with_cut s fork left)) (sym e)
        (subst (λ (n : ℕ). Holds relseg (after_cut path (c * 8192) m) (with_cut s fork n)) sum
        (boundary_cut relseg m s fork pages seg c some holds is count place.small (omega (arith, sum, whole)) place.some))

pub file_cut : {T : Type 0} (relseg : ℕ) (x y : Option Files) (fork : ForkId) (left size : ℕ) (name : List ℕ) (result : Result T AreaFault) → 0 < relseg → name ≡ fork_path_bytes fork (last_file relseg left) false → size ≡ (left - last_file relseg left * relseg) * 8192 → Cuts name size x y result
    → OnOk result ((s : Store) → AreFilesOf relseg x s → contains_key s fork ≡ true → length (pages_of s fork) ≤ (last_file relseg left + 1) * relseg → left ≤ whole_length s fork → AreFilesOf relseg y (with_cut s fork left))
file_cut relseg x y fork left size name (Err fault) some is e ok = tt
file_cut relseg x y fork left size name (Ok done) some is e ok = λ s held there most within.
    step_held relseg x y (after_cut name size) s (with_cut s fork left) ok held (λ m holds.
    subst (λ (q : List ℕ). Holds relseg (after_cut q size m) (with_cut s fork left)) (sym is) (last_cut relseg m s fork left size some holds there most within e))

pub cut_left : {T : Type 0} (relseg : ℕ) (x y : Option Files) (fork : ForkId) (left size : ℕ) (name : List ℕ) (result : Result T AreaFault) → 0 < relseg → name ≡ fork_path_bytes fork (last_file relseg left) false → size ≡ (left - last_file relseg left * relseg) * 8192
    → (result ≡ Err NoMemory → y ≡ x) → MayCut name size x y result
    → OnErr result ((s : Store) → AreFilesOf relseg x s → contains_key s fork ≡ true → length (pages_of s fork) ≤ (last_file relseg left + 1) * relseg → left ≤ whole_length s fork → AreFilesOf relseg y s ⊎ AreFilesOf relseg y (with_cut s fork left))
cut_left relseg x y fork left size name result some is e memory failed =
    err_each Store _ result (λ s. err_given _ _ result (λ held. err_given _ _ result (λ there. err_given _ _ result (λ most. err_given _ _ result (λ within.
    left_held relseg x y (after_cut name size) s (with_cut s fork left) result memory failed held (λ m holds.
    subst (λ (q : List ℕ). Holds relseg (after_cut q size m) (with_cut s fork left)) (sym is) (last_cut relseg m s fork left size some holds there most within e)))))))
