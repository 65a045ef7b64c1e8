use Rattle.std.proofs.Common.{rules, ◌≡◌, None, List, subst, sym, ◌∙◌, arith}
use Rattle.chain_check.specs.Laws.{ChainAnswer}
use Rattle.chain_check.specs.declared.member.Member.{Member}
use Rattle.series_check.proofs.Answers.{FirstFault, first_none, series_answer}
use Rattle.series_check.proofs.series.check_series.Goals as goal

pub returns-clause-answer : goal.returns-clause-answer
returns-clause-answer c =
    let nothing : c.series_fault.result ≡ None = search rules in
    series_answer c.args.members.now c.check_chain-answer.result c.requires (omega (arith, c.if-members-gt-MOST_MEMBERS.false))
    (first_none c.args.members.now c.index-members-0.result c.requires (sym c.series_fault.ensures ∙ nothing))
    (subst (λ (l : List Member). ChainAnswer l c.check_chain-answer.result) c.swap_prior-prior.ensures.put c.check_chain-answer.ensures)
