-- A run is copied over the first bytes of the buffer.
use Rattle.std.proofs.Common.{◌≡◌, ℕ, ◌+◌, ◌-◌, ◌*◌, ◌≤◌, List, length, take, drop, ap, subst, arith}
use Rattle.std.proofs.lemmas.List.{length-take}
use Rattle.stream_laws.specs.Windows.{Span}
use Rattle.wal_follow.specs.Window.{run}
use Rattle.wal_follow.proofs.Areas.{part_done}
use Rattle.wal_follow.proofs.area.WindowArea.read_part.Goals as goal

pub returns : goal.returns
returns c =
    let count = c.min-count.ensures in
    let t = length-take c.min-count.result c.args.into.now in
    let mib = ap (λ (w : Span). w.mib) c.self.view_is in
    let base = ap (λ (w : Span). w.base) c.self.view_is in
    let bytes = ap (λ (w : Span). w.bytes) c.self.view_is in
    let least = c.self.invariant.least in
    part_done c.args.self.now c.args.number c.args.at c.min-count.result ((c.args.number - 1) * c.bytes.result + c.args.at) (c.self.inside.base - c.bytes-2.result) c.args.into.now (take c.min-count.result c.args.into.now) c.copy_run.new.into
    (omega (arith, least, mib, base)) (omega (arith, count, c.saturating_sub.ensures, c.held.ensures)) (omega (arith, c.if-count-eq0.false)) (omega (arith, c.bytes-2.ensures.bytes, mib, base))
    (ap (λ (n : ℕ). (c.args.number - 1) * n + c.args.at) (let e : c.bytes.result ≡ c.args.self.now.mib * 1048576 = omega (arith, c.bytes.ensures.bytes, mib) in e)) (omega (arith, t, count))
    (subst (λ (b : List ℕ). (zeros : ℕ) → (c.args.number - 1) * c.bytes.result + c.args.at + length (take c.min-count.result c.args.into.now) ≤ c.self.inside.base - c.bytes-2.result + (length b + zeros) → c.copy_run.new.into ≡ take (length (take c.min-count.result c.args.into.now)) (drop ((c.args.number - 1) * c.bytes.result + c.args.at) (run (c.self.inside.base - c.bytes-2.result) b zeros))) bytes c.copy_run.ensures)
