-- Zero pages put one after the other, up to the block of a page.
use Rattle.std.proofs.Common.{◌≡◌, ℕ, ◌+◌, ◌<◌, ◌≤◌, ⊎_elim, List, Option, sym, subst, arith}
use Rattle.std.proofs.lemmas.Bool.{cases_lt}
use Rattle.lsn_core.specs.byte_words.Pieces.{zero_page}
use Rattle.lsn_core.specs.declared.ids.ForkId.{ForkId}
use Rattle.lsn_core.specs.Files.{Files}
use Rattle.lsn_core.specs.Store.{Store}
use Rattle.lsn_core.specs.Blocks.{with_page}
use Rattle.rel_files.specs.Forks.{page_over, IsTornPut}
use Rattle.rel_files.specs.Shown.{AreFilesOf}
use Rattle.rel_files.specs.Inside.{whole_length}
use Rattle.rel_files.proofs.SegmentChanges.{pages_held}
use Rattle.rel_files.proofs.ZeroPages.{IsFilledTo, filled_start, filled_next, filled_torn, filled_put, over_within}

-- a store with zero pages up to a block is held
abbrev pub HoldsFilled : ℕ → Option Files → Store → ForkId → ℕ → ℕ → Type 0
HoldsFilled relseg x s fork block b = (t : Store) × (AreFilesOf relseg x t × IsFilledTo s t fork block b)

pub fill_start : (relseg : ℕ) (x : Option Files) (s : Store) (fork : ForkId) (count b : ℕ) → AreFilesOf relseg x s → count ≡ whole_length s fork → HoldsFilled relseg x s fork count b
fill_start relseg x s fork count b held e = (s, (held, filled_start s fork count b (pages_held relseg held.files s fork held.hold) e))

pub fill_next : (relseg : ℕ) (x y : Option Files) (s : Store) (fork : ForkId) (block b : ℕ) (zeros : List ℕ) → zeros ≡ zero_page → block < b
    → ((u : Store) → AreFilesOf relseg x u → block ≤ whole_length u fork → AreFilesOf relseg y (with_page u fork block zeros))
    → HoldsFilled relseg x s fork block b → HoldsFilled relseg y s fork (block + 1) b
fill_next relseg x y s fork block b zeros e less put so_far =
    let t = so_far.0 in
    let filled = so_far.1.1 in (
      with_page t fork block zero_page,
      (
        subst (λ (z : List ℕ). AreFilesOf relseg y (with_page t fork block z)) e (put t so_far.1.0 (omega (arith, filled.count))),
        filled_next s t fork block b (pages_held relseg so_far.1.0.files t fork so_far.1.0.hold) filled less,
      ),
    )

pub fill_torn : (relseg : ℕ) (x y : Option Files) (s : Store) (fork : ForkId) (block b : ℕ) → block ≤ b
    → ((u : Store) → AreFilesOf relseg x u → block ≤ whole_length u fork → (t : Store) × (AreFilesOf relseg y t × IsTornPut (record { fork = fork; block = block }) u t))
    → HoldsFilled relseg x s fork block b → (t : Store) × (AreFilesOf relseg y t × IsTornPut (record { fork = fork; block = b }) s t)
fill_torn relseg x y s fork block b le torn so_far =
    let t = so_far.0 in
    let filled = so_far.1.1 in
    let left = torn t so_far.1.0 (omega (arith, filled.count)) in
    (left.0, (left.1.0, filled_torn s t left.0 fork block b filled le left.1.1))

pub fill_put : (relseg : ℕ) (x y : Option Files) (s : Store) (fork : ForkId) (b : ℕ) (page : List ℕ)
    → ((u : Store) → AreFilesOf relseg x u → b ≤ whole_length u fork → AreFilesOf relseg y (with_page u fork b page))
    → HoldsFilled relseg x s fork b b → AreFilesOf relseg y (page_over (record { fork = fork; block = b }) page s)
fill_put relseg x y s fork b page put so_far =
    let t = so_far.0 in
    let filled = so_far.1.1 in
    subst (λ (u : Store). AreFilesOf relseg y u) (filled_put s t fork b page filled) (put t so_far.1.0 (omega (arith, filled.count)))

pub put_within : (relseg : ℕ) (y : Option Files) (s : Store) (fork : ForkId) (b : ℕ) (page : List ℕ) → b < whole_length s fork → AreFilesOf relseg y (with_page s fork b page) → AreFilesOf relseg y (page_over (record { fork = fork; block = b }) page s)
put_within relseg y s fork b page less held = subst (λ (u : Store). AreFilesOf relseg y u) (sym (over_within s fork b page less)) held

-- the last put, behind the zero pages or over a page that was there
module _ (relseg : ℕ) (start x y : Option Files) (s : Store) (fork : ForkId) (count block b : ℕ) (filled : count ≤ b → HoldsFilled relseg x s fork block b) (idle : b < count → x ≡ start) (held : AreFilesOf relseg start s)
    (e : count ≡ whole_length s fork) (least : b ≤ block) (most : count ≤ b → block ≤ b) where
  here : b < count → AreFilesOf relseg x s
  here less = subst (λ (o : Option Files). AreFilesOf relseg o s) (sym (idle less)) held

  there : count ≤ b → HoldsFilled relseg x s fork b b
  there le = subst (λ (n : ℕ). HoldsFilled relseg x s fork n b) (omega (arith, least, most le)) (filled le)

  pub put_last : (page : List ℕ) → ((u : Store) → AreFilesOf relseg x u → b ≤ whole_length u fork → AreFilesOf relseg y (with_page u fork b page)) → AreFilesOf relseg y (page_over (record { fork = fork; block = b }) page s)
  put_last page put =
      ⊎_elim (λ less. put_within relseg y s fork b page (omega (arith, less, e)) (put s (here less) (omega (arith, less, e))))
      (λ le. fill_put relseg x y s fork b page put (there le))
      (cases_lt b count)

  pub torn_last : ((u : Store) → AreFilesOf relseg x u → b ≤ whole_length u fork → (t : Store) × (AreFilesOf relseg y t × IsTornPut (record { fork = fork; block = b }) u t)) → (t : Store) × (AreFilesOf relseg y t × IsTornPut (record { fork = fork; block = b }) s t)
  torn_last torn =
      ⊎_elim (λ less. torn s (here less) (omega (arith, less, e)))
      (λ le. fill_torn relseg x y s fork b b (omega arith) torn (there le))
      (cases_lt b count)
