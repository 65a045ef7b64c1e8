-- A patched page is good, and has zeros in its hole.
use Rattle.std.proofs.Common.{rules, ℕ, List, ◌≡◌, subst, sym}
use Rattle.pg_page.specs.Header.{IsGood, lsn_of, hole_zeroed}
use Rattle.pg_page.specs.Frags.{patched}
use Rattle.pg_page.proofs.PatchLaws.{IsGood-patched, patched_zeroed}
use Rattle.history.proofs.checkpointer.kinds.patched.Goals as goal

pub from_good-requires : goal.from_good-requires
from_good-requires c =
    let old = c.args.old.now in
    let frags = c.args.frags.now in
    let is : c.patch.new.bytes ≡ patched frags (lsn_of old) old = search rules in
    subst IsGood (sym is) (IsGood-patched frags (lsn_of old) old c.requires.header)

pub returns-clause-writable : goal.returns-clause-writable
returns-clause-writable c =
    let old = c.args.old.now in
    let frags = c.args.frags.now in
    let is : c.from_good.result ≡ patched frags (lsn_of old) old = search rules in
    subst (λ (p : List ℕ). IsGood p × (hole_zeroed p ≡ p)) (sym is) (IsGood-patched frags (lsn_of old) old c.requires.header, patched_zeroed frags (lsn_of old) old c.requires.header)
