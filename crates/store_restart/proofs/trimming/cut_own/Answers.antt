-- The file of the place's own segment is cut, where it is one of the archive.
use Rattle.std.proofs.Common.{◌≡◌, ℕ, ◌%◌, true, ap, sym, subst, ◌∙◌}
use Rattle.lsn_core.specs.Names.{segment_name_bytes, segment_number}
use Rattle.wal_archive.specs.Archive.{is_segment}
use Rattle.store_restart.specs.Trimmed.{IsArchiveFile}
use Rattle.store_restart.proofs.TrimCalls.{cut_added, cut_changes}
use Rattle.store_restart.proofs.trimming.cut_own.Goals as goal

pub returns-clause-events : goal.returns-clause-events
returns-clause-events g c =
    let mib = c.args.size in
    let own = segment_number c.args.end.0 mib in
    let one : is_segment own ≡ true = subst (λ (s : ℕ). is_segment s ≡ true) c.segment_of-own.ensures (sym c.is_segment.ensures.test ∙ c.if-not-is_segment.false) in
    let named : c.as_bytes.result.now ≡ segment_name_bytes own mib = c.as_bytes.ensures ∙ c.in_ok-name.ensures ∙ ap (λ (s : ℕ). segment_name_bytes s mib) c.segment_of-own.ensures in
    cut_added mib c.args.end.0 c.as_bytes.result.now (c.args.end.0 % c.bytes.result) (g.V.Vault.past c.args.wal.now) (g.V.Vault.past c.cut.new.self) c.cut.result
    one named (ap (λ (n : ℕ). c.args.end.0 % n) c.bytes.ensures.bytes) c.cut.ensures.noted c.cut.ensures.tried

pub returns-clause-changes : goal.returns-clause-changes
returns-clause-changes g c =
    let mib = c.args.size in
    let e = c.cut.ensures in
    let one : is_segment c.segment_of-own.result ≡ true = sym c.is_segment.ensures.test ∙ c.if-not-is_segment.false in
    cut_changes g.V.Vault (IsArchiveFile mib) c.as_bytes.result.now (c.args.end.0 % c.bytes.result) c.args.wal.now c.cut.new.self c.cut.result
    (record { seg = c.segment_of-own.result; there = one; named = c.as_bytes.ensures ∙ c.in_ok-name.ensures })
    e.cut e.memory e.failed e.noted e.tried e.cause.later
