-- The names stand in the order of their segments.
use Rattle.std.proofs.Common.{map, ap, ◌∙◌, arith}
use Rattle.std.specs.List.{range_with_len}
use Rattle.lsn_core.specs.Names.{segment_name_bytes}
use Rattle.stream_laws.specs.Windows.{Span}
use Rattle.wal_follow.proofs.Areas.{names_there}
use Rattle.wal_follow.proofs.area.WindowAreaVault.names.Goals as goal

pub returns-clause-names : goal.returns-clause-names
returns-clause-names c =
    let range = c.mib-mib.ensures.range in
    let mib = ap (λ (w : Span). w.mib) c.self.view_is in
    let least = range.least in
    let most = range.most in
    names_there c.args.self.now c.in_ok-segment_names.field-0.items c.segments.result (omega (arith, least, c.mib-mib.ensures.value, mib)) (omega (arith, most, c.mib-mib.ensures.value, mib)) c.segments.ensures
    (c.in_ok-segment_names.ensures ∙ ap (λ (w : Span). map (λ s. segment_name_bytes s w.mib) (range_with_len 1 c.segments.result)) c.self.view_is)
