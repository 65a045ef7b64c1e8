use Rattle.std.proofs.Common.{min, length, ap, ◌∙◌}
use Rattle.vault_os.proofs.Common.{ok_of}
use Rattle.vault_os.proofs.Held.{reads_in}
use Rattle.vault_os.proofs.reading.read_open.Goals as goal

pub returns-clause-read : goal.returns-clause-read
returns-clause-read g c = λ path is.
    reads_in _ path _ _ _ _ c.min-room.result (c.min-room.ensures ∙ ap (λ n. min n (length c.args.into.now)) c.saturating_sub.ensures) (g.S.System.short c.args.system.now)
    (ok_of _ c.fill-count.result _ c.in_ok-told.ensures.told c.fill-count.ensures.count)
    (ok_of _ c.fill-count.result _ c.in_ok-told.ensures.told c.fill-count.ensures.held path is)
    (ok_of _ c.fill-count.result _ c.in_ok-told.ensures.told c.fill-count.ensures.end path is)
