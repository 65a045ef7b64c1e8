-- The partition of a command.
use Rattle.std.proofs.Common.{◌≡◌, ℕ, ◌%◌, ◌&&◌, ◌||◌, Bool, true, false, cond, List, [], ◌∷◌, length, Option, Some, None, refl, sym, ap, subst, ◌∙◌}
use Rattle.std.specs.Prelude.{◌==◌, nat_le, not}
use Rattle.std.specs.List.{list_any, list_all}
use Rattle.std.proofs.lemmas.Bool.{and_parts, eqb-true, ne_eqb}
use Rattle.lsn_core.specs.Relation.{Relation}
use Rattle.history.specs.declared.op.Op.{Op}
use Rattle.history.specs.declared.op.Op.TheVariants as op
use Rattle.history.specs.declared.op.Item.{Item}
use Rattle.history.specs.Op.{act_of_op}
use Rattle.history.specs.partitions.Parts.{partition_of, is_item_of, ConcernsNoOther}
use Rattle.command_judging.specs.Refusals.{most_items}
use Rattle.store_faults.specs.declared.insert_fault.InsertFault.{InsertFault}
use Rattle.store_faults.specs.declared.insert_fault.InsertFault.TheVariants as fault
use Rattle.store_locks.specs.Refusals.{is_same_rel, are_of_one, judged_items_form, judged_form}
use Rattle.store_locks.specs.Inside.{IsOfFirst}

-- a test that found nothing
pub none_found : (t : Bool) (f : InsertFault) (rest : Option InsertFault) → cond t (Some f) rest ≡ None → (t ≡ false) × (rest ≡ None)
none_found true f rest e = absurd cc
none_found false f rest e = (refl, e)

not_not : (t : Bool) → not t ≡ false → t ≡ true
not_not true e = refl
not_not false e = absurd cc

of_one : (items : List Item) → judged_items_form items ≡ None → are_of_one items ≡ true
of_one items e =
    let number = none_found (not (nat_le 1 (length items) && nat_le (length items) most_items)) fault.BlockCount _ e in
    not_not (are_of_one items) (none_found (not (are_of_one items)) fault.TwoRelations None number.1).0

-- a relation is of one partition alone
of_other : (q other : ℕ) (rel : Relation) → q ≡ partition_of rel → (other ≡ q → ⊥) → (partition_of rel == other) ≡ false
of_other q other rel is apart = ne_eqb (partition_of rel) other (λ e. apart (sym e ∙ sym is))

none_of : (a b : Bool) → a ≡ false → b ≡ false → (a || b) ≡ false
none_of a b e f = rw (e, f) refl

rest_other : (q other : ℕ) (rel : Relation) (items : List Item) → q ≡ partition_of rel → (other ≡ q → ⊥) → list_all (λ i. is_same_rel rel i.at.fork.rel) items ≡ true → list_any (is_item_of other) items ≡ false
rest_other q other rel [] is apart all = refl
rest_other q other rel (item ∷ items) is apart all =
    let parts = and_parts (is_same_rel rel item.at.fork.rel) (list_all (λ i. is_same_rel rel i.at.fork.rel) items) all in
    let same : rel.rel ≡ item.at.fork.rel.rel = eqb-true rel.rel item.at.fork.rel.rel (and_parts (rel.db == item.at.fork.rel.db) (rel.rel == item.at.fork.rel.rel) parts.0).1 in
    none_of (is_item_of other item) (list_any (is_item_of other) items) (of_other q other item.at.fork.rel (is ∙ ap (λ n. n % 4) same) apart) (rest_other q other rel items is apart parts.1)

items_alone : (q : ℕ) (items : List Item) → judged_items_form items ≡ None → IsOfFirst q items → (other : ℕ) → (other ≡ q → ⊥) → list_any (is_item_of other) items ≡ false
items_alone q [] form first other apart = refl
items_alone q (item ∷ items) form first other apart =
    none_of (is_item_of other item) (list_any (is_item_of other) items) (of_other q other item.at.fork.rel first apart) (rest_other q other item.at.fork.rel items first apart (of_one (item ∷ items) form))

pub change_alone : (command : Op) (items : List Item) (q : ℕ) → command ≡ op.Change items → judged_form command ≡ None → IsOfFirst q items → ConcernsNoOther q (act_of_op command)
change_alone command items q is form first =
    subst (λ c. ConcernsNoOther q (act_of_op c)) (sym is) (items_alone q items (subst (λ c. judged_form c ≡ None) is form) first)
