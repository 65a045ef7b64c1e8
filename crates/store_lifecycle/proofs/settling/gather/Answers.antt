use Rattle.std.proofs.Common.{rules, List, [], ◌∷◌, ◌++◌, sym, ap, subst, ◌∙◌, append_assoc}
use Rattle.std.specs.List.{All}
use Rattle.std.proofs.lemmas.List.Elements.{All-cons}
use mathlib.Core.List.{IsPrefix}
use Rattle.history.specs.Entry.{Entry}
use Rattle.store_locks.specs.Seen.{Seen}
use Rattle.shared_store.specs.Shared.{CountsNoMore}
use Rattle.store_locks.specs.Locked.{AllHeld, gathered}
use Rattle.store_lifecycle.proofs.settling.gather.Goals as goal

pub loop-pass-preserved : goal.loop-pass-preserved
loop-pass-preserved g c =
    let inv = c.loop-pass.invariant in
    let pass = c.in-Some.pass in
    let rest = c.pop.new.self.items in
    let took = c.take_in.ensures in (
      pass ∷ inv.0,
      sym (append_assoc rest (pass ∷ []) inv.0) ∙ (ap (λ (l : List Seen). l ++ inv.0) (sym c.in-Some.ensures.items) ∙ inv.1),
      took.same ∙ inv.2,
      took.all ∙ ap (λ (a : AllHeld). gathered a (pass ∷ [])) inv.3,
      All-cons (λ (p : Seen). IsPrefix p.list c.args.desk.now) pass inv.0 (subst (λ (h : List Entry). IsPrefix pass.list h) inv.2 took.seen) inv.4,
      All-cons (CountsNoMore c.args.desk.now) pass inv.0 (subst (λ (h : List Entry). CountsNoMore h pass) inv.2 took.within) inv.5,
    )

pub returns-clause-seen : goal.returns-clause-seen
returns-clause-seen g c = subst (λ (l : List Seen). All (λ (p : Seen). IsPrefix p.list c.args.desk.now) l) (search rules) c.loop-pass.invariant.4
