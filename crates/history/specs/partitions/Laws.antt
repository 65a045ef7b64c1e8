-- Laws of a partition's part.
use Rattle.std.specs.Prelude.{◌≡◌, ◌<◌, ℕ, false, List, map, Some}
use Rattle.std.specs.List.{filter, list_any}
use Rattle.std.specs.FinMap.{get}
use Rattle.lsn_core.specs.declared.ids.ForkId.{ForkId}
use Rattle.lsn_core.specs.Store.{Store}
use Rattle.history.specs.Entry.{Act, Entry}
use Rattle.history.specs.Apply.{apply_act, apply_all}
use Rattle.history.specs.Op.{IsTidy}
use Rattle.history.specs.partitions.Parts.{partition_of, part_of, IsPart, concerns, ConcernsNoOther}

-- a part of a store to which a part of a history was applied
abbrev pub HasPartAfter : ℕ → Store → Store → List Entry → Type 0
HasPartAfter q last part entries =
    (next : Store) × (apply_all part (map (part_of q) entries) ≡ Some next) × IsPart q last next

-- the fold of a history's part is the part of its fold
abbrev pub PartsFoldAlike : Type 0
PartsFoldAlike =
    (q : ℕ) (store last part : Store) (entries : List Entry) → IsPart q store part
    → apply_all store entries ≡ Some last → HasPartAfter q last part entries

-- entries that don't concern a partition leave its part
abbrev pub OtherEntriesLeaveParts : Type 0
OtherEntriesLeaveParts =
    (q : ℕ) (store last part : Store) (entries : List Entry) → IsPart q store part
    → list_any (concerns q) entries ≡ false → apply_all store entries ≡ Some last
    → IsPart q last part

-- so the fold of a history's part is that of the entries that concern the partition alone, also
-- where one of them can't be applied
abbrev pub OthersMayBePassedOver : Type 0
OthersMayBePassedOver =
    (q : ℕ) (part : Store) (entries : List Entry)
    → apply_all part (map (part_of q) entries)
    ≡ apply_all part (map (part_of q) (filter (concerns q) entries))

-- an act that concerns one partition alone can be done on the store where it can be on the part
abbrev pub OwnActsAreDone : Type 0
OwnActsAreDone =
    (q end : ℕ) (store part next : Store) (act : Act) → IsPart q store part
    → ConcernsNoOther q act → apply_act end part act ≡ Some next
    → (last : Store) × (apply_act end store act ≡ Some last) × IsPart q last next

-- and is tidy on the store where it is tidy on the part
abbrev pub OwnActsAreTidy : Type 0
OwnActsAreTidy =
    (q : ℕ) (store part : Store) (act : Act) → IsPart q store part
    → ConcernsNoOther q act → IsTidy part act → IsTidy store act

-- a store has each fork as the part of the fork's partition has it
abbrev pub StoresAreTheirParts : Type 0
StoresAreTheirParts =
    (store : Store) (part : ℕ → Store) → ((q : ℕ) → q < 4 → IsPart q store (part q))
    → (fork : ForkId) → get store fork ≡ get (part (partition_of fork.rel)) fork

-- and a store has one part of each partition
abbrev pub PartsAreUnique : Type 0
PartsAreUnique =
    (q : ℕ) (store a b : Store) → IsPart q store a → IsPart q store b → a ≡ b
