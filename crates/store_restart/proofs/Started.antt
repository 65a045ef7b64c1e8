-- What is told of the redo point that survivors name.
use Rattle.std.proofs.Common.{◌≡◌, Bool, true, false, cond, List, Option, Some, None, IfSome, sym, ap, subst, ◌∙◌}
use Rattle.lsn_core.specs.Files.{Files}
use Rattle.lsn_core.specs.Segment.{StoreSettings}
use Rattle.lsn_core.specs.Tip.{Tip}
use Rattle.lsn_core.specs.declared.lsn.Lsn.{Lsn}
use Rattle.wal_record.specs.declared.record.Record.{Record}
use Rattle.wal_record.specs.Decoding.{record_at}
use Rattle.survivor_laws.proofs.One.{one}
use Rattle.store_restart.specs.declared.survivors.Named.{Named}
use Rattle.store_restart.specs.declared.survivors.Survivors.{Survivors}
use Rattle.store_restart.specs.Survivors.{has_start, if_started, IsCutOff, AreRead}
use Rattle.store_restart.specs.Inside.{IsStartTold, TellsStart, IsPlaceTold, TellsPlace}
use Rattle.store_restart.proofs.Survived.{IsNamedBy}

-- what a reading to the end tells of a place
pub start_told : (s : StoreSettings) (told : Option Files) (rs : List Record) (tip : Tip) (place : Lsn) (there : Bool) → IfSome told (λ m. IsCutOff s m rs tip) → there ≡ has_start rs place.0 → TellsStart s told place there
start_told s None rs tip place there off is = tt
start_told s (Some m) rs tip place there off is = record { records = rs; tip = tip; survive = off.survive; told = is }

-- ---- the place

pub place_none : (s : StoreSettings) (told : Option Files) (named : Named) → named.place ≡ None → TellsPlace s told named None
place_none s None named is = tt
place_none s (Some m) named is = λ records tip survive seen. sym (ap (if_started records) is)

pub place_seen : (s : StoreSettings) (told : Option Files) (named : Named) (place : Lsn) → named.place ≡ Some place → named.seen ≡ true → TellsPlace s told named (Some place)
place_seen s None named place is was = tt
place_seen s (Some m) named place is was = λ records tip survive seen. sym (seen was ∙ is)

by_start : (records : List Record) (place : Lsn) (there : Bool) → there ≡ has_start records place.0 → cond there (Some place) None ≡ if_started records (Some place)
by_start records place there is = ap (λ (b : Bool). cond b (Some place) None) is

place_by : (s : StoreSettings) (m : Files) (named : Named) (place : Lsn) (there : Bool) → named.place ≡ Some place → IsStartTold s place there m → IsPlaceTold s named (cond there (Some place) None) m
place_by s m named place there is told records tip survive seen =
    let same = one record_at s.segment s.system m told.records records told.tip tip told.survive survive in
    by_start records place there (told.told ∙ ap (λ (rs : List Record). has_start rs place.0) same.0) ∙ sym (ap (if_started records) is)

pub place_told : (s : StoreSettings) (told : Option Files) (named : Named) (place : Lsn) (there : Bool) → named.place ≡ Some place → TellsStart s told place there → TellsPlace s told named (cond there (Some place) None)
place_told s None named place there is start = tt
place_told s (Some m) named place there is start = place_by s m named place there is start

-- a place that is looked for, where one starts there or none does
pub place_found : (s : StoreSettings) (told : Option Files) (named : Named) (place : Lsn) (there : Bool) → named.place ≡ Some place → TellsStart s told place there → there ≡ true → TellsPlace s told named (Some place)
place_found s told named place there is start e = subst (λ (b : Bool). TellsPlace s told named (cond b (Some place) None)) e (place_told s told named place there is start)

pub place_missing : (s : StoreSettings) (told : Option Files) (named : Named) (place : Lsn) (there : Bool) → named.place ≡ Some place → TellsStart s told place there → there ≡ false → TellsPlace s told named None
place_missing s told named place there is start e = subst (λ (b : Bool). TellsPlace s told named (cond b (Some place) None)) e (place_told s told named place there is start)

-- ---- all of it

pub all_read : (s : StoreSettings) (told : Option Files) (rs : List Record) (found : Survivors) (named : Named) → IfSome told (λ m. IsCutOff s m rs found.tip) → IsNamedBy rs named → TellsPlace s told named found.redo → AreRead s told found
all_read s None rs found named off by start = tt
all_read s (Some m) rs found named off by start = record {
  records = rs;
  off = off;
  redo = start rs found.tip off.survive by.seen ∙ ap (if_started rs) by.place;
}
