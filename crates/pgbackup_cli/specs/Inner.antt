-- What private functions answer to those that call them. None of it stands in the contract of a
-- public call.
use Rattle.std.specs.Prelude.{ℕ, List, Result}
use Rattle.lsn_core.specs.declared.fault.AreaFault.{AreaFault}
use Rattle.vault.specs.declared.stream.Sink.{Ghosts as Sinks}
use Rattle.vault.specs.Stream.{Tells}

-- a sink was told a text
abbrev pub TellsIn :
    {O : Type 0} → Sinks O → List ℕ → O → O → Result (Unit {0}) AreaFault → Type 0
TellsIn sinks text old new told =
    Tells text (sinks.bytes old) (sinks.bytes new) (sinks.faults old) (sinks.faults new) told
