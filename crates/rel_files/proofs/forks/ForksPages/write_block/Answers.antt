use Rattle.std.proofs.Common.{rules, ◌≡◌, length, subst}
use Rattle.std.proofs.lemmas.Result.{on_ok_weaker}
use Rattle.lsn_core.specs.Store.{Store}
use Rattle.rel_files.specs.Shown.{HoldsStore}
use Rattle.rel_files.proofs.WholePages.{whole_over, put_whole}
use Rattle.rel_files.proofs.forks.ForksPages.write_block.Goals as goal

pub returns-clause-written : goal.returns-clause-written
returns-clause-written g c =
    let at = c.args.at in
    let page = c.args.from.now in
    let size : length page ≡ 8192 = search rules in
    on_ok_weaker c.put.result (λ puts s h. record {
      holds = subst (λ (t : Store). HoldsStore g.V.Vault c.put.new.self t) (whole_over s at page h.whole) (puts s h.holds);
      whole = put_whole s at.fork at.block page h.whole size;
    })
    c.put.ensures.put
