-- The members as they were before they were judged.
use Rattle.std.proofs.Common.{◌≡◌, List, length, take, drop, ◌++◌, Result, sym, ap, subst, ◌∙◌, arith}
use Rattle.std.specs.Global.{Vec}
use Rattle.chain_check.specs.declared.member.Member.{Member}
use Rattle.command_base.proofs.Decided.{err_as}
use Rattle.command_line.specs.Members.{names_in}
use Rattle.chain_commands.specs.declared.chain.MembersFault.{MembersFault}
use Rattle.chain_commands.specs.Chain.{AreMembersIn, IsAcceptedAs}
use Rattle.chain_commands.specs.Inner.{areas_at, AnswersChain}
use Rattle.chain_commands.proofs.ChainAreas.{lent_back}
use Rattle.chain_commands.proofs.Members.{members_length}
use Rattle.chain_commands.proofs.chain.chain_at.Goals as goal

pub check_joined-requires : goal.check_joined-requires
check_joined-requires g c =
    omega (arith, c.requires.some, c.requires.each, members_length (names_in c.args.names.now) (areas_at g.V.Vault c.args.areas.now c.args.places.now) c.in_ok-members.members.items c.in_ok-members.ensures.answer, ap (λ (ms : List Member). length ms) c.deref_mut.ensures.value)

pub returns-in_err-members-clause-answer : goal.returns-in_err-members-clause-answer
returns-in_err-members-clause-answer g c =
    err_as c.from_residual.result c.in_err-members.field-0.0 (λ (r : Result (Vec Member) MembersFault). AnswersChain g.V.Vault c.args.joining (names_in c.args.names.now) c.args.places.now c.args.areas.now c.members_at.new.areas r)
    c.from_residual.ensures.1 (c.in_err-members.ensures.answer c.args.joining)

pub returns-in-Ok-clause-answer : goal.returns-in-Ok-clause-answer
returns-in-Ok-clause-answer g c =
    let kept : c.check_joined.new.members ≡ c.in_ok-members.members.items = c.check_joined.ensures.kept ∙ c.deref_mut.ensures.value in
    let back : take c.in_ok-members.members.len (c.check_joined.new.members ++ drop (length c.check_joined.new.members) c.in_ok-members.members.items) ≡ c.in_ok-members.members.items =
    lent_back c.in_ok-members.members.len c.in_ok-members.members.items c.check_joined.new.members c.in_ok-members.members.ok.0 (ap (λ (ms : List Member). length ms) kept) ∙ kept in (
      subst (λ (ms : List Member). AreMembersIn (names_in c.args.names.now) (areas_at g.V.Vault c.args.areas.now c.args.places.now) ms) (sym back) c.in_ok-members.ensures.answer,
      subst (λ (ms : List Member). IsAcceptedAs c.args.joining ms) (c.deref_mut.ensures.value ∙ sym back) c.in-Ok.ensures.answer,
    )
