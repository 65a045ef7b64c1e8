-- What a tip keeps with one more entry.
use Rattle.std.proofs.Common.{◌≡◌, List, [], ◌∷◌, ◌++◌, refl}
use Rattle.lsn_core.specs.Tip.{Tip}
use Rattle.wal_record.specs.declared.record.Record.{Record}
use Rattle.wal_record.specs.Tips.{tip_after, tip_behind}

pub tip_behind-append : (tip : Tip) (rs qs : List Record) → tip_behind tip (rs ++ qs) ≡ tip_behind (tip_behind tip rs) qs
tip_behind-append tip [] qs = refl
tip_behind-append tip (r ∷ rs) qs = tip_behind-append (tip_after tip r) rs qs
