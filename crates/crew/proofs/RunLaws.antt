-- What holds of every run.
use Rattle.std.proofs.Common.{◌≡◌, ℕ, true, List, None, refl, ap, sym, ◌∙◌, ◌⊎◌, inl, inr}
use Rattle.lsn_core.specs.Store.{Store}
use Rattle.lsn_core.specs.declared.fault.StoreArea.{StoreArea}
use Rattle.history.specs.declared.op.Op.{Op}
use Rattle.history.specs.Entry.{Entry}
use Rattle.history.specs.Written.{tip_of}
use Rattle.store_faults.specs.declared.insert_fault.InsertFault.{InsertFault}
use Rattle.store_faults.specs.declared.insert_fault.InsertFault.TheVariants as insert
use Rattle.store_locks.specs.Refusals.{judged_at, IsRefused}
use Rattle.crew.specs.Run.{AnswersStay, TakenOrRefused}
use Rattle.crew.proofs.Moments.{answered_later}

pub answers_hold : AnswersStay
answers_hold tells b worker seen history from to lines answers made held new p a = answered_later (tells ≡ true) b worker seen history from lines answers made to held new p a

-- an area that failed, or want of memory
abbrev IsFree : InsertFault → Type 0
IsFree why = ((area : StoreArea) × (why ≡ insert.Failed area)) ⊎ (why ≡ insert.NoMemory)

-- a refusal is why it was judged so
first_refusal : (mib : ℕ) (store : Store) (history : List Entry) (asked : Op) (why : InsertFault) → judged_at mib store (tip_of mib history) asked ≡ None → IsRefused mib store (tip_of mib history) asked why → IsFree why
first_refusal mib store history asked (insert.NoFork n) none is = absurd cc
first_refusal mib store history asked (insert.ForkExists n) none is = absurd cc
first_refusal mib store history asked (insert.PastEnd n) none is = absurd cc
first_refusal mib store history asked (insert.NoBlock n) none is = absurd cc
first_refusal mib store history asked (insert.BadPage i n) none is = absurd cc
first_refusal mib store history asked (insert.BadFragment i j) none is = absurd cc
first_refusal mib store history asked insert.BlockCount none is = absurd cc
first_refusal mib store history asked insert.TwoRelations none is = absurd cc
first_refusal mib store history asked (insert.ForkFull n) none is = absurd cc
first_refusal mib store history asked (insert.StoreFull n) none is = absurd cc
first_refusal mib store history asked (insert.CutPastEnd n) none is = absurd cc
first_refusal mib store history asked (insert.Failed area) none is = inl (area, refl)
first_refusal mib store history asked insert.NoMemory none is = inr refl
first_refusal mib store history asked (insert.SameBlock i) none is = absurd cc
first_refusal mib store history asked (insert.WalFull n) none is = absurd cc

pub refused_by_memory : TakenOrRefused
refused_by_memory mib before asked entry why t r =
    let same : t.store ≡ r.store = cc (t.state, r.state) in
    let none : judged_at mib r.store (tip_of mib before) asked ≡ None = ap (λ (s : Store). judged_at mib s (tip_of mib before) asked) (sym same) ∙ t.taken in
    first_refusal mib r.store before asked why none r.why
