use Rattle.std.proofs.Common.{◌∙◌, ◌-◌, ◌∷◌, sym, ap, List, ℕ, Option, Some, Bor, arith}
use Rattle.std.specs.Option.{option_map}
use Rattle.chain_listing.specs.Chains.{chain_behind}
use Rattle.chain_listing.specs.declared.backup.Backup.{Backup}
use Rattle.chain_listing.proofs.Chaining.{none_left, begun, lost, further}
use Rattle.chain_listing.proofs.chains.chain_of.Goals as goal

pub loop-left-init : goal.loop-left-init
loop-left-init c = record {
  most = omega arith;
  chain = ap (λ (x : List (List ℕ)). chain_behind 64 c.args.backups.now x c.args.last.now) c.new-names.ensures.items;
}

pub returns-in_default : goal.returns-in_default
returns-in_default c =
    sym (sym c.loop-left.invariant.chain ∙ lost c.loop-left.left c.args.backups.now c.loop-left.names.items c.loop-left.member.now c.loop-left-test.true (sym c.if-is_full.ensures)
    (sym c.prior_of.ensures ∙ ap (λ (o : Option (Bor Backup)). option_map (λ b. b.now) o) c.in_default.is))

pub returns : goal.returns
returns c =
    sym (sym c.loop-left.invariant.chain ∙ none_left c.loop-left.left c.args.backups.now c.loop-left.names.items c.loop-left.member.now c.loop-left-test.false)

pub returns-then-is_full : goal.returns-then-is_full
returns-then-is_full c =
    let items = c.in_ok-insert.ensures.items ∙ ap (λ (x : List ℕ). x ∷ c.loop-left.names.items) (c.in_ok-copied.ensures ∙ c.as_str.ensures) in
    ap (λ (x : List (List ℕ)). Some x) items ∙ (sym (begun c.loop-left.left c.args.backups.now c.loop-left.names.items c.loop-left.member.now c.loop-left-test.true (sym c.if-is_full.ensures)) ∙ c.loop-left.invariant.chain)

pub loop-left-preserved : goal.loop-left-preserved
loop-left-preserved c =
    let items = c.in_ok-insert.ensures.items ∙ ap (λ (x : List ℕ). x ∷ c.loop-left.names.items) (c.in_ok-copied.ensures ∙ c.as_str.ensures) in
    let prior = sym c.prior_of.ensures ∙ ap (λ (o : Option (Bor Backup)). option_map (λ b. b.now) o) c.in-Some.is in
    let next = further c.loop-left.left (c.loop-left.left - 1) c.args.backups.now c.loop-left.names.items c.loop-left.member.now c.in-Some.prior.now (omega (arith, c.loop-left-test.true)) (sym c.if-is_full.ensures) prior in record {
      most = omega (arith, c.loop-left.invariant.most);
      chain = ap (λ (x : List (List ℕ)). chain_behind (c.loop-left.left - 1) c.args.backups.now x c.in-Some.prior.now) items ∙ (sym next ∙ c.loop-left.invariant.chain);
    }
