-- What a call that prints leaves of a sink.
use Rattle.std.specs.Prelude.{List, ℕ, Result}
use Rattle.lsn_core.specs.declared.fault.AreaFault.{AreaFault}
use Rattle.vault.specs.Stream.{Tells}
use Rattle.vault.specs.declared.stream.Sink.{Ghosts}

-- a line was printed to a sink
abbrev pub Prints : {O : Type 0} → Ghosts O → List ℕ → O → O → Result (Unit {0}) AreaFault → Type 0
Prints g line old new result =
    Tells line (g.bytes old) (g.bytes new) (g.faults old) (g.faults new) result
