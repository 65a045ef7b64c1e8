-- What a source or a sink in memory is, and what a call on it leaves.
use Rattle.std.specs.Prelude.{◌≡◌, ℕ, ◌-◌, ◌^◌, min, List, refl, Result, Ok, Err}
use Rattle.std.specs.Coded.{Coded, code_by, coded×, coded_list, coded_ℕ}
use Rattle.lsn_core.specs.declared.fault.AreaFault.{AreaFault}
use Rattle.lsn_core.specs.declared.fault.AreaFault.TheVariants.{Failed, NoMemory}
use Rattle.memory_vault.specs.Fails.{one_more}
use Rattle.memory_vault.specs.declared.fails.FailList.{FailList}
use Rattle.memory_vault.specs.Memory.{IsToFail}

-- the bytes that a source has left or a sink took, the numbers of the calls that are to fail,
-- counted from 1, how many calls there were, and how many of them failed
pub record MemoryStream : Type 0 where
  pub bytes : List ℕ
  pub fails : List ℕ
  pub calls : ℕ
  pub faults : ℕ

abbrev pub Parts : Type 0
Parts = List ℕ × (List ℕ × (ℕ × ℕ))

abbrev pub parts_of : MemoryStream → Parts
parts_of s = (s.bytes, (s.fails, (s.calls, s.faults)))

abbrev pub stream_of : Parts → MemoryStream
stream_of p = record { bytes = p.0; fails = p.1.0; calls = p.1.1.0; faults = p.1.1.1 }

abbrev pub parts_code : Coded Parts
parts_code = coded× (coded_list coded_ℕ) (coded× (coded_list coded_ℕ) (coded× coded_ℕ coded_ℕ))

abbrev pub memory_stream_code : Coded MemoryStream
memory_stream_code = code_by Parts parts_code parts_of stream_of (λ _. refl)

-- the stream of these bytes and calls
abbrev pub stream_seen : List ℕ → FailList → MemoryStream
stream_seen bytes fails = record {
  bytes = bytes;
  fails = fails.calls.items;
  calls = fails.made;
  faults = fails.faults;
}

-- a stream with these bytes on which no call was made
abbrev pub new_stream : List ℕ → List ℕ → MemoryStream
new_stream bytes fails = record { bytes = bytes; fails = fails; calls = 0; faults = 0 }

-- how many bytes are moved: as many as there are, as there is room for, and as fit into 32 bits
abbrev pub moved : ℕ → ℕ → ℕ
moved there room = min (min there room) (2 ^ 32 - 1)

-- the stream after a call that did not fail, with the bytes that it left
abbrev pub after_step : MemoryStream → List ℕ → MemoryStream
after_step stream bytes = record stream { bytes = bytes; calls = one_more stream.calls }

-- the stream after a call that failed
abbrev pub after_fault : MemoryStream → MemoryStream
after_fault stream =
    record stream { calls = one_more stream.calls; faults = one_more stream.faults }

-- a call fails exactly where it is to fail, and leaves the bytes then and after want of memory
abbrev pub IsStep : {T : Type 0} → MemoryStream → MemoryStream → Result T AreaFault → Type 0
IsStep old new (Ok value) = (IsToFail old.fails old.calls → ⊥) × (new ≡ after_step old new.bytes)
IsStep old new (Err Failed) = IsToFail old.fails old.calls × (new ≡ after_fault old)
IsStep old new (Err NoMemory) =
    (IsToFail old.fails old.calls → ⊥) × (new ≡ after_step old old.bytes)
