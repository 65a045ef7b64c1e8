-- Stores in which one fork changed.
use Rattle.std.proofs.Common.{◌≡◌, ◌≢◌, ℕ, ◌<◌, ◌≤◌, true, false, cond, length, slice_get, Option, Some, None, option_map, refl, ap, sym, subst, ◌∙◌, true≢false}
use Rattle.std.proofs.lemmas.Option.{slice_get_past}
use Rattle.std.specs.FinMap.{get, insert, remove, get-insert, get-remove, same_map}
use Rattle.lsn_core.specs.byte_words.Numbers.{◌>>=◌}
use Rattle.lsn_core.specs.declared.ids.ForkId.{ForkId}
use Rattle.lsn_core.specs.Store.{Store, ForkPages}
use Rattle.lsn_core.specs.Blocks.{block_of, block_count}
use Rattle.lsn_core.proofs.ForkOrder.{fork_cmp_total, fork_cmp-IsAntisymmetric}
use Rattle.lsn_core.proofs.StoreFiles.{same_fork, forks_tie, fork_itself}
use Rattle.rel_files.specs.Forks.{AreHeld, whole_pages, mended_pages, mended, AgreeOnOthers}
use Rattle.rel_files.proofs.Pages.{held_by, whole_are, taken_get}

-- a test of two forks
pub by_fork : (q fork : ForkId) {P : Type 0} → (q ≡ fork → P) → (q ≢ fork → P) → P
by_fork q fork {P = P} here there =
    elim (same_fork q fork) as (λ c. same_fork q fork ≡ c → P) [
      | true ↦ λ e. here (forks_tie q fork e)
      | false ↦ λ e. there (λ same. true≢false (sym (ap (λ f. same_fork f fork) same ∙ fork_itself fork) ∙ e))
    ] refl

pub apart : (q fork : ForkId) → q ≢ fork → same_fork q fork ≡ false
apart q fork ne = elim (same_fork q fork) as (λ c. same_fork q fork ≡ c → c ≡ false) [ true ↦ λ e. absurd (ne (forks_tie q fork e)) | false ↦ λ e. refl ] refl

pub get_here : (store : Store) (fork : ForkId) (pages : ForkPages) → get (insert store fork pages) fork ≡ Some pages
get_here store fork pages = get-insert fork_cmp_total store fork pages fork ∙ ap (λ c. cond c (Some pages) (get store fork)) (fork_itself fork)

pub get_there : (store : Store) (fork : ForkId) (pages : ForkPages) → AgreeOnOthers fork store (insert store fork pages)
get_there store fork pages q ne = get-insert fork_cmp_total store fork pages q ∙ ap (λ c. cond c (Some pages) (get store q)) (apart q fork ne)

pub gone_here : (store : Store) (fork : ForkId) → get (remove store fork) fork ≡ None
gone_here store fork = get-remove fork_cmp_total store fork fork ∙ ap (λ c. cond c None (get store fork)) (fork_itself fork)

pub gone_there : (store : Store) (fork : ForkId) → AgreeOnOthers fork store (remove store fork)
gone_there store fork q ne = get-remove fork_cmp_total store fork q ∙ ap (λ c. cond c None (get store q)) (apart q fork ne)

-- stores are the same where they are at the fork and at all others
pub same_store : (fork : ForkId) (a b : Store) → get a fork ≡ get b fork → AgreeOnOthers fork b a → a ≡ b
same_store fork a b here there =
    same_map fork_cmp_total fork_cmp-IsAntisymmetric a b (λ q. by_fork q fork (λ e. ap (get a) e ∙ here ∙ sym (ap (get b) e)) (λ ne. there q ne))

-- what holds of all forks of a store holds of all of the changed one, where it holds of the fork
pub each_fork : (P : ForkId → ForkPages → Type 0) (fork : ForkId) (old new : Store) → AgreeOnOthers fork old new
    → ((q : ForkId) (pages : ForkPages) → get old q ≡ Some pages → P q pages)
    → ((pages : ForkPages) → get new fork ≡ Some pages → P fork pages)
    → (q : ForkId) (pages : ForkPages) → get new q ≡ Some pages → P q pages
each_fork P fork old new others all here q pages is =
    by_fork q fork (λ e. subst (λ f. P f pages) (sym e) (here pages (ap (get new) (sym e) ∙ is))) (λ ne. all q pages (sym (others q ne) ∙ is))

pub some_is : (a b : ForkPages) (o : Option ForkPages) → o ≡ Some a → o ≡ Some b → a ≡ b
some_is a b o e f = let both : Some a ≡ Some b = sym e ∙ f in cc

-- ---- a store without its short page

pub mended_is : (store : Store) (fork : ForkId) (pages : ForkPages) → get store fork ≡ Some pages → mended store fork ≡ insert store fork (whole_pages pages)
mended_is store fork pages e = ap (mended_pages store fork) e

pub mended_missing : (store : Store) (fork : ForkId) → get store fork ≡ None → mended store fork ≡ store
mended_missing store fork e = ap (mended_pages store fork) e

pub mended_get : (store : Store) (fork : ForkId) (pages : ForkPages) → get store fork ≡ Some pages → get (mended store fork) fork ≡ Some (whole_pages pages)
mended_get store fork pages e = ap (λ (s : Store). get s fork) (mended_is store fork pages e) ∙ get_here store fork (whole_pages pages)

pub mended_none : (store : Store) (fork : ForkId) → get store fork ≡ None → get (mended store fork) fork ≡ None
mended_none store fork e = ap (λ (s : Store). get s fork) (mended_missing store fork e) ∙ e

pub mended_others : (store : Store) (fork : ForkId) → AgreeOnOthers fork store (mended store fork)
mended_others store fork = by (get store fork) refl
  where
    by : (o : Option ForkPages) → get store fork ≡ o → AgreeOnOthers fork store (mended store fork)
    by None e q ne = ap (λ (s : Store). get s q) (mended_missing store fork e)
    by (Some pages) e q ne = ap (λ (s : Store). get s q) (mended_is store fork pages e) ∙ get_there store fork (whole_pages pages) q ne

-- how many blocks it has
pub mended_count : (store : Store) (fork : ForkId) (pages : ForkPages) → get store fork ≡ Some pages → block_count (mended store fork) fork ≡ Some (length (whole_pages pages))
mended_count store fork pages e = ap (λ (o : Option ForkPages). option_map length o) (mended_get store fork pages e)

pub missing_count : (store : Store) (fork : ForkId) → get store fork ≡ None → block_count (mended store fork) fork ≡ None
missing_count store fork e = ap (λ (o : Option ForkPages). option_map length o) (mended_none store fork e)

-- its blocks are the whole ones
pub mended_block : (store : Store) (fork : ForkId) (pages : ForkPages) (b : ℕ) → AreHeld pages → get store fork ≡ Some pages → b < length (whole_pages pages) → block_of (mended store fork) fork b ≡ block_of store fork b
mended_block store fork pages b held e l =
    ap (λ (o : Option ForkPages). o >>= λ ps. slice_get ps b) (mended_get store fork pages e)
    ∙ ap (λ (ps : ForkPages). slice_get ps b) (whole_are (length (whole_pages pages)) pages (held_by pages held))
    ∙ taken_get (length (whole_pages pages)) b pages l
    ∙ sym (ap (λ (o : Option ForkPages). o >>= λ ps. slice_get ps b) e)

pub mended_past : (store : Store) (fork : ForkId) (pages : ForkPages) (b : ℕ) → get store fork ≡ Some pages → length (whole_pages pages) ≤ b → block_of (mended store fork) fork b ≡ None
mended_past store fork pages b e l = ap (λ (o : Option ForkPages). o >>= λ ps. slice_get ps b) (mended_get store fork pages e) ∙ slice_get_past (whole_pages pages) b l
