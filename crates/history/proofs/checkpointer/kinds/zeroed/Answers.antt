-- A page with zeros in its hole can be written.
use Rattle.std.proofs.Common.{ℕ, List, ◌≡◌, subst, sym, ap, ◌∙◌, rules}
use Rattle.pg_page.specs.Header.{IsGood, hole_zeroed}
use Rattle.pg_page.proofs.HeaderLaws.{IsGood-hole_zeroed, hole_zeroed-hole_zeroed}
use Rattle.history.proofs.checkpointer.kinds.zeroed.Goals as goal

pub from_good-requires : goal.from_good-requires
from_good-requires c =
    let page = c.args.page.now in
    let is : c.zero_hole.new.page ≡ hole_zeroed page = search rules in
    subst IsGood (sym is) (IsGood-hole_zeroed page c.bytes.ensures.good)

pub returns-clause-writable : goal.returns-clause-writable
returns-clause-writable c =
    let page = c.args.page.now in
    let is : c.from_good.result ≡ hole_zeroed page = search rules in
    subst (λ (p : List ℕ). IsGood p × (hole_zeroed p ≡ p)) (sym is) (IsGood-hole_zeroed page c.bytes.ensures.good, hole_zeroed-hole_zeroed page c.bytes.ensures.good)
