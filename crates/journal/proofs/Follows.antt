-- An act may come next behind a history that a partition's part follows.
use Rattle.std.proofs.Common.{◌≡◌, ℕ, Bool, true, false, cond, Option, Some, None, refl, sym, ap, subst, ◌∙◌, arith}
use Rattle.std.specs.FinMap.{empty, get-empty}
use Rattle.lsn_core.specs.Store.{Store, ForkPages, fork_cmp}
use Rattle.lsn_core.specs.Tip.{Tip}
use Rattle.history.specs.Pages.{page_count}
use Rattle.history.specs.Written.{kind_of}
use Rattle.history.specs.partitions.Parts.{is_of, IsPart}
use Rattle.history.proofs.partitions.Folds.{parts_fold}
use Rattle.journal.specs.Laws.{PartsMayFollow}
use Rattle.journal.proofs.Parting.{own_comes_next}

-- the part of no store
none_either : (b : Bool) (o : Option ForkPages) → o ≡ None → o ≡ cond b o None
none_either true o none = refl
none_either false o none = none

pub empty_part : (q : ℕ) → IsPart q empty empty
empty_part q fork = none_either (is_of q fork) _ (get-empty fork_cmp fork)

same_store : (a b : Store) → Some a ≡ Some b → a ≡ b
same_store a b e = cc

pub parts_follow : PartsMayFollow
parts_follow log o history pages q gone added next part act kind told part_made none kind_is tidy fresh good done total store made =
    let folded = parts_fold q empty store empty history (empty_part q) made in
    let same : folded.0 ≡ part = same_store folded.0 part (sym folded.1 ∙ part_made) in
    let is : IsPart q store part = subst (IsPart q store) same folded.2 in
    let count : page_count store ≡ pages = ap page_count (same_store store told.lawful.store (sym made ∙ told.lawful.made)) ∙ told.counted in
    let redo = ap (λ (t : Tip). kind_of part t.redo act) told.tip in
    own_comes_next q _ gone added next store part act kind is none (kind_is ∙ redo) tidy fresh good done (omega (arith, count, total))
