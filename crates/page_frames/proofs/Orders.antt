-- The order of blocks is total, and only equal blocks tie in it.
use Rattle.std.proofs.Common.{◌≡◌, ℕ, Bool, true, false, refl, ap, true≢false}
use Rattle.std.specs.declared.cmp.Ordering.{Ordering}
use Rattle.std.specs.declared.cmp.Ordering.TheVariants.{Less, Equal, Greater}
use Rattle.std.specs.Ordering.{nat_cmp, ordering_then, is_eq, eq_by_cmp}
use Rattle.std.specs.Cmp.{IsTotalOrder, Equal-is}
use Rattle.std.proofs.lemmas.Cmp.{then_total, on_total, nat_cmp_total}
use Rattle.std.specs.FinMap.{IsAntisymmetric, nat_cmp-IsAntisymmetric}
use Rattle.lsn_core.specs.declared.ids.BlockId.{BlockId}
use Rattle.lsn_core.specs.contracts.ids.BlockIdOrd.TheImpl as block_ord
use Rattle.lsn_core.specs.Store.{fork_cmp}
use Rattle.lsn_core.proofs.ForkOrder.{fork_cmp_total, fork_cmp-IsAntisymmetric, derived_is}
use Rattle.page_frames.specs.Framed.{block_cmp}

pub block_cmp_total : IsTotalOrder block_cmp
block_cmp_total = then_total (on_total (λ (b : BlockId). b.fork) fork_cmp_total) (on_total (λ (b : BlockId). b.block) nat_cmp_total)

both_tie : (a b : Ordering) → ordering_then a b ≡ Equal → (a ≡ Equal) × (b ≡ Equal)
both_tie Less b e = absurd cc
both_tie Equal b e = (refl, e)
both_tie Greater b e = absurd cc

pub block_cmp-IsAntisymmetric : IsAntisymmetric block_cmp
block_cmp-IsAntisymmetric a b e =
    let t = both_tie (fork_cmp a.fork b.fork) (nat_cmp a.block b.block) e in
    let fork = fork_cmp-IsAntisymmetric a.fork b.fork t.0 in
    let block = nat_cmp-IsAntisymmetric a.block b.block t.1 in
    λ i. record { fork = fork i; block = block i }

-- the order that the type derives
abbrev pub derived_block_cmp : BlockId → BlockId → Ordering
derived_block_cmp = block_ord.cmp-value.it

order_at : (a b : BlockId) → derived_block_cmp a b ≡ block_cmp a b
order_at a b = ap (λ (r : Ordering). ordering_then r (nat_cmp a.block b.block)) (ap (λ (R : _ → _ → Ordering). R a.fork b.fork) derived_is)

pub derived_block_is : derived_block_cmp ≡ block_cmp
derived_block_is = λ i a b. order_at a b i

-- blocks of two forks are apart, and two blocks of a fork
pub fork_apart : (q at : BlockId) → eq_by_cmp fork_cmp q.fork at.fork ≡ false → eq_by_cmp block_cmp q at ≡ false
fork_apart q at apart = by (fork_cmp q.fork at.fork) apart
  where
    by : (r : Ordering) → is_eq r ≡ false → is_eq (ordering_then r (nat_cmp q.block at.block)) ≡ false
    by Less e = refl
    by Equal e = absurd (true≢false e)
    by Greater e = refl

pub block_apart : (i : ℕ) (at : BlockId) → (i ≡ at.block → ⊥) → eq_by_cmp block_cmp (record { fork = at.fork; block = i }) at ≡ false
block_apart i at ne = by (eq_by_cmp block_cmp q at) refl
  where
    q : BlockId
    q = record { fork = at.fork; block = i }

    by : (b : Bool) → eq_by_cmp block_cmp q at ≡ b → b ≡ false
    by true e = absurd (ne (ap (λ (x : BlockId). x.block) (block_cmp-IsAntisymmetric q at ((Equal-is _).0 e))))
    by false e = refl
