use Rattle.std.proofs.Common.{sym, ◌∙◌}
use Rattle.summary_text.proofs.Running.{longer_last, one_more}
use Rattle.summary_text.proofs.runs.add_block.Goals as goal

pub returns-then-is_next : goal.returns-then-is_next
returns-then-is_next c =
    longer_last c.args.runs.now.items c.pop.new.self.items c.push-then-is_next.new.self.items c.in-Some.run' c.args.block c.in-Some.ensures.items (sym c.is_next.ensures ∙ c.if-is_next.true) c.in_ok-push-2.ensures.items

pub returns : goal.returns
returns c =
    one_more c.args.runs.now.items c.pop.new.self.items c.push-2.new.self.items c.push-3.new.self.items c.in-Some.run' c.single-2.result c.args.block c.in-Some.ensures.items (sym c.is_next.ensures ∙ c.if-is_next.false) c.in_ok-push-3.ensures.items c.single-2.ensures c.in_ok-push-4.ensures.items
