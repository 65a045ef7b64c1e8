-- `run` and `follow` read the input and `run` the clock, and `combine` and `drill` don't.
use Rattle.std.proofs.Common.{◌≡◌, ℕ, List, inl, inr, ap, refl, subst, sym, Some, None}
use Rattle.command_line.specs.declared.words.Command.{Command}
use Rattle.command_line.specs.Words.{asks}
use Rattle.command_base.specs.Outside.{Outside, of_site_clock, of_all}
use Rattle.pgbackup_cli.specs.declared.command_answers.answer.Answer.TheVariants as answer
use Rattle.chain_commands.specs.Combine.{CombineResult, CombineDoes}
use Rattle.pgbackup_cli.specs.Top.{DoesAsked}
use Rattle.pgbackup_cli.proofs.Drills.{Streams, drill_beside}
use Rattle.pgbackup_cli.proofs.top.done.Goals as goal

pub returns-in-Run-clause-input : goal.returns-in-Run-clause-input
returns-in-Run-clause-input g c = inl (inl (c.in-Run.options.frames, c.in-Run.options.days, ap (λ (x : Command). Some (asks x)) c.in-Run.is))

pub returns-in-Run-clause-clock : goal.returns-in-Run-clause-clock
returns-in-Run-clause-clock g c = inl (inl (c.in-Run.options.frames, c.in-Run.options.days, ap (λ (x : Command). Some (asks x)) c.in-Run.is))

pub returns-in-Follow-clause-input : goal.returns-in-Follow-clause-input
returns-in-Follow-clause-input g c =
    inl (inr (c.in-Follow.sizes.segment, c.in-Follow.sizes.relseg, c.in-Follow.name, ap (λ (x : Command). Some (asks x)) c.in-Follow.is))

pub returns-in-Drill-clause-does : goal.returns-in-Drill-clause-does
returns-in-Drill-clause-does g c =
    let old : Outside = of_site_clock g.S.Site g.C.Clock c.args.site.now c.args.clock.now in
    let new : Outside = of_site_clock g.S.Site g.C.Clock c.drill.new.site c.drill.new.clock in
    let input : Streams = record { left = g.I.Source.left c.args.input.now; reads = g.I.Source.faults c.args.input.now; printed = None; prints = 0 } in
    subst (λ (x : Command). DoesAsked (Some (asks x)) (of_all g.S.Site g.I.Source g.C.Clock c.args.site.now c.args.input.now c.args.clock.now) (of_all g.S.Site g.I.Source g.C.Clock c.drill.new.site c.args.input.now c.drill.new.clock) (answer.Drill c.drill.result)) (sym c.in-Drill.is)
    (c.drill.result, refl, drill_beside c.in-Drill.n old new input input c.drill.result c.drill.ensures.does)

-- by the words' own texts
done_as : (o p : List ℕ) (n m : List (List ℕ)) (old new : Outside) (r : CombineResult) → o ≡ p → n ≡ m → CombineDoes o n old new r → CombineDoes p m old new r
done_as o p n m old new r a b does = subst (λ (x : List ℕ). CombineDoes x m old new r) a (subst (λ (y : List (List ℕ)). CombineDoes o y old new r) b does)

pub returns-in-Combine-clause-does : goal.returns-in-Combine-clause-does
returns-in-Combine-clause-does g c =
    let old : Outside = of_site_clock g.S.Site g.C.Clock c.args.site.now c.args.clock.now in
    let new : Outside = of_site_clock g.S.Site g.C.Clock c.combine.new.site c.combine.new.clock in
    subst (λ (x : Command). DoesAsked (Some (asks x)) (of_all g.S.Site g.I.Source g.C.Clock c.args.site.now c.args.input.now c.args.clock.now) (of_all g.S.Site g.I.Source g.C.Clock c.combine.new.site c.args.input.now c.combine.new.clock) (answer.Combine c.combine.result)) (sym c.in-Combine.is)
    (c.combine.result, refl, done_as c.as_bytes-in-Combine.result.now c.in-Combine.out c.deref-in-Combine.result.now c.in-Combine.names.items old new c.combine.result c.as_bytes-in-Combine.ensures c.deref-in-Combine.ensures.value c.combine.ensures.does)
