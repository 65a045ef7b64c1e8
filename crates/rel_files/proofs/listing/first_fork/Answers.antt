use Rattle.std.proofs.Common.{◌≡◌, ℕ, Bool, Some, true, false, ap, ◌∙◌}
use Rattle.lsn_core.specs.declared.ids.ForkId.{ForkId}
use Rattle.rel_files.specs.Inside.{is_first}
use Rattle.rel_files.proofs.ForkNames.{first_is}
use Rattle.rel_files.proofs.listing.first_fork.Goals as goal

pub returns-in_err-fork : goal.returns-in_err-fork
returns-in_err-fork c fork named is = absurd (c.in_err-fork.ensures.none fork 0 false named is)

pub returns-then-is_first : goal.returns-then-is_first
returns-then-is_first c fork named is =
    let x = c.in_ok-fork in
    ap (λ (f : ForkId). Some f) (first_is c.args.name.now x.fork fork x.seg x.incr x.ensures.found x.ensures.named named is).0

pub returns : goal.returns
returns c fork named is =
    let x = c.in_ok-fork in
    let same = first_is c.args.name.now x.fork fork x.seg x.incr x.ensures.found x.ensures.named named is in
    let no : false ≡ true = c.if-is_first.ensures ∙ ap (λ (n : ℕ). is_first n x.incr) same.1.0 ∙ ap (λ (b : Bool). is_first 0 b) same.1.1 in
    absurd cc
