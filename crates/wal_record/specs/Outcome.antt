-- What a reading says that may refuse, and what code answers that may run out of memory.
use Rattle.std.specs.Prelude.{◌≡◌, Option, Some, None, Result, Ok, Err}
use Rattle.wal_record.specs.declared.record.RecordFault.{RecordFault}
use Rattle.wal_record.specs.declared.record.RecordFault.TheVariants.{Length, Prev, Crc, Unsupported, Header, Content, NoMemory}
use Rattle.wal_record.specs.declared.record.Why.{Why}

-- what a reading goes on with, where the step before it refused nothing
infixl 10 ◌>>=◌
abbrev pub ◌>>=◌ : {A B E : Type 0} → Result A E → (A → Result B E) → Result B E
(Ok x) >>= f = f x
(Err e) >>= f = Err e

-- what is there, or a fault
abbrev pub or_fault : {A E : Type 0} → E → Option A → Result A E
or_fault e None = Err e
or_fault e (Some x) = Ok x

-- content that is refused
abbrev pub refused : {A : Type 0} → Result A Why → Result A RecordFault
refused (Ok x) = Ok x
refused (Err why) = Err (Content why)

-- what code answers is what reading says, unless memory ran out
abbrev pub Fails : {A : Type 0} → RecordFault → Result A RecordFault → Type 0
Fails Length said = said ≡ Err Length
Fails Prev said = said ≡ Err Prev
Fails Crc said = said ≡ Err Crc
Fails (Unsupported manager info) said = said ≡ Err (Unsupported manager info)
Fails Header said = said ≡ Err Header
Fails (Content why) said = said ≡ Err (Content why)
Fails NoMemory said = Unit {0}

abbrev pub Gives : {A : Type 0} → Result A RecordFault → Result A RecordFault → Type 0
Gives (Ok x) said = said ≡ Ok x
Gives (Err fault) said = Fails fault said
