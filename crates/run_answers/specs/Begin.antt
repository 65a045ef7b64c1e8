-- What is printed where no store can be begun, and the status.
use Rattle.std.specs.Prelude.{ℕ, List}
use Rattle.store_faults.specs.declared.begin_why.BeginWhy.{BeginWhy}
use Rattle.store_faults.specs.declared.begin_why.BeginWhy.TheVariants as begin
use Rattle.command_base.specs.declared.status.Status.{Status}
use Rattle.command_base.specs.Faults.{wal_text, store_text, wal_status, store_status}

abbrev pub begin_text : BeginWhy → List ℕ
begin_text (begin.Wal why) = wal_text why
begin_text (begin.Replay why) = wal_text why
begin_text (begin.Data why) = store_text why

abbrev pub begin_status : BeginWhy → Status
begin_status (begin.Wal why) = wal_status why
begin_status (begin.Replay why) = wal_status why
begin_status (begin.Data why) = store_status why
