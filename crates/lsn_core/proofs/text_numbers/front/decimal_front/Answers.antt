use Rattle.std.proofs.Common.{ap, ◌∙◌, take, drop}
use Rattle.lsn_core.proofs.text_numbers.DecimalFront.{count_fits, front_found, front_none}
use Rattle.lsn_core.proofs.text_numbers.front.decimal_front.Goals as goal

pub split_at-requires : goal.split_at-requires
split_at-requires c = rw c.digit_count.ensures (count_fits c.args.text.now)

pub returns-in-Some-clause-found : goal.returns-in-Some-clause-found
returns-in-Some-clause-found c =
    front_found c.args.text.now c.split_at.result.0.now c.split_at.result.1.now c.in-Some.number
    (c.split_at.ensures.front ∙ ap (λ n. take n c.args.text.now) c.digit_count.ensures) (c.split_at.ensures.back ∙ ap (λ n. drop n c.args.text.now) c.digit_count.ensures) c.in-Some.ensures.found

pub returns-in-None-clause-none : goal.returns-in-None-clause-none
returns-in-None-clause-none c =
    front_none c.args.text.now c.split_at.result.0.now (c.split_at.ensures.front ∙ ap (λ n. take n c.args.text.now) c.digit_count.ensures) c.in-None.ensures.none
