-- The day of a moment.
use Rattle.std.proofs.Common.{◌≡◌, ℕ, ◌*◌, ◌/◌, pos, ap, arith}
use Rattle.jiff.specs.Words.{epoch_day, civil_nanos}
use Rattle.jiff.specs.Types.{DateTime}
use Rattle.jiff.proofs.Family.{epoch_day-civil_nanos}

quotient : (when : ℕ) → when * 1000000000 / 86400000000000 ≡ when / 86400
quotient when = omega arith

pub day_of : (when : ℕ) (shown : DateTime) → civil_nanos shown ≡ pos (when * 1000000000) → epoch_day shown.date ≡ pos (when / 86400)
day_of when shown e = rw (epoch_day-civil_nanos shown, e) (ap pos (quotient when))
