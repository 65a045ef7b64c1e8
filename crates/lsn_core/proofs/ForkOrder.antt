-- The order of forks is total, and only equal forks tie in it.
use Rattle.std.proofs.Common.{◌≡◌, refl, ap}
use Rattle.std.specs.declared.cmp.Ordering.{Ordering}
use Rattle.std.specs.declared.cmp.Ordering.TheVariants.{Less, Equal, Greater}
use Rattle.std.specs.Ordering.{nat_cmp, ordering_then}
use Rattle.std.specs.Cmp.{IsTotalOrder}
use Rattle.std.proofs.lemmas.Cmp.{then_total, on_total, nat_cmp_total}
use Rattle.std.specs.FinMap.{IsAntisymmetric, nat_cmp-IsAntisymmetric}
use Rattle.lsn_core.specs.declared.ids.ForkKind.{ForkKind}
use Rattle.lsn_core.specs.declared.ids.ForkKind.TheVariants.{Main, Init}
use Rattle.lsn_core.specs.declared.ids.ForkId.{ForkId}
use Rattle.lsn_core.specs.contracts.ids.ForkIdOrd.TheImpl as fork_ord
use Rattle.lsn_core.specs.contracts.ids.ForkKindOrd.TheImpl as kind_ord
use Rattle.lsn_core.specs.Store.{fork_cmp, kind_number}

pub fork_cmp_total : IsTotalOrder fork_cmp
fork_cmp_total =
    then_total (then_total (on_total (λ (f : ForkId). f.rel.db) nat_cmp_total) (on_total (λ (f : ForkId). f.rel.rel) nat_cmp_total)) (on_total (λ (f : ForkId). kind_number f.kind) nat_cmp_total)

both_tie : (a b : Ordering) → ordering_then a b ≡ Equal → (a ≡ Equal) × (b ≡ Equal)
both_tie Less b e = absurd cc
both_tie Equal b e = (refl, e)
both_tie Greater b e = absurd cc

same_kind : (a b : ForkKind) → kind_number a ≡ kind_number b → a ≡ b
same_kind Main Main e = refl
same_kind Main Init e = absurd cc
same_kind Init Main e = absurd cc
same_kind Init Init e = refl

pub fork_cmp-IsAntisymmetric : IsAntisymmetric fork_cmp
fork_cmp-IsAntisymmetric a b e =
    let t = both_tie (ordering_then (nat_cmp a.rel.db b.rel.db) (nat_cmp a.rel.rel b.rel.rel)) (nat_cmp (kind_number a.kind) (kind_number b.kind)) e in
    let r = both_tie (nat_cmp a.rel.db b.rel.db) (nat_cmp a.rel.rel b.rel.rel) t.0 in
    let db = nat_cmp-IsAntisymmetric a.rel.db b.rel.db r.0 in
    let rel = nat_cmp-IsAntisymmetric a.rel.rel b.rel.rel r.1 in
    let kind = same_kind a.kind b.kind (nat_cmp-IsAntisymmetric (kind_number a.kind) (kind_number b.kind) t.1) in
    λ i. record { rel = record { db = db i; rel = rel i }; kind = kind i }

-- the order that the type derives
abbrev pub derived_cmp : ForkId → ForkId → Ordering
derived_cmp = fork_ord.cmp-value.it

kind_order : (a b : ForkKind) → kind_ord.cmp-value.it a b ≡ nat_cmp (kind_number a) (kind_number b)
kind_order Main Main = refl
kind_order Main Init = refl
kind_order Init Main = refl
kind_order Init Init = refl

order_at : (a b : ForkId) → derived_cmp a b ≡ fork_cmp a b
order_at a b = ap (ordering_then (ordering_then (nat_cmp a.rel.db b.rel.db) (nat_cmp a.rel.rel b.rel.rel))) (kind_order a.kind b.kind)

pub derived_is : derived_cmp ≡ fork_cmp
derived_is = λ i a b. order_at a b i
