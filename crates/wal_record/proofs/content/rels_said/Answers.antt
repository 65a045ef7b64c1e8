use Rattle.std.proofs.Common.{rules, arith, sym, subst, ap, Ok, ◌∙◌, ◌≡◌, ◌-◌, ◌+◌, ◌<◌, suc, zero, ℕ}
use Rattle.std.proofs.lemmas.Result.{err_from_is_err_and}
use Rattle.wal_record.specs.Outcome.{Gives, Fails, refused}
use Rattle.wal_record.specs.Content.{rels_said}
use Rattle.wal_record.proofs.Dropping.{rels_more, rels_end, rels_fail, rels_read}
use Rattle.wal_record.proofs.content.rels_said.Goals as goal

pub loop-preserved : goal.loop-preserved
loop-preserved c =
    let n : ℕ = c.args.count - c.loop.counter in
    let m : ℕ = c.args.count - (c.loop.counter + 1) in
    let left : n ≡ suc m = omega (arith, c.loop-test.true) in
    rels_more c.loop.rels.items c.push.new.self.items n m c.loop.rest.now c.in-Some.more.now c.in-Some.name c.in_ok-rel_said.field-0 (rels_said c.args.count c.args.names.now)
    left (search rules) (search rules) (search rules) c.loop.invariant

pub returns : goal.returns
returns c =
    let none : c.args.count - c.loop.counter ≡ zero = omega (arith, c.loop-test.false) in
    ap refused (rels_read c.loop.rels.items (c.args.count - c.loop.counter) c.loop.rest.now (rels_said c.args.count c.args.names.now) none c.loop.invariant)
    ∙ ap Ok (sym c.from_vec.ensures)

pub returns-in_err-rel_said : goal.returns-in_err-rel_said
returns-in_err-rel_said c =
    let n : ℕ = c.args.count - c.loop.counter in
    let some : zero < n = omega (arith, c.loop-test.true) in
    let x = err_from_is_err_and c.from_residual.result c.from_residual.ensures.1 in
    subst (λ r. Gives r (refused (rels_said c.args.count c.args.names.now))) (sym x.1) (subst (λ f. Fails f (refused (rels_said c.args.count c.args.names.now))) (sym x.2)
    (ap refused (rels_fail c.loop.rels.items n c.loop.rest.now c.in-Some.more.now c.in-Some.name c.in_err-rel_said.field-0.0 (rels_said c.args.count c.args.names.now) some (search rules) (search rules) c.loop.invariant)))

pub returns-in_default : goal.returns-in_default
returns-in_default c =
    let n : ℕ = c.args.count - c.loop.counter in
    let some : zero < n = omega (arith, c.loop-test.true) in
    ap refused (rels_end c.loop.rels.items n c.loop.rest.now (rels_said c.args.count c.args.names.now) some c.in_default.ensures c.loop.invariant)
