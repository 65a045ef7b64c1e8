-- Events that are added, and what a stop may leave after them.
use Rattle.std.proofs.Common.{◌≡◌, inl, inr, List, [], ◌∷◌, ◌++◌, length, Option, Some, None, option_map, IfSome, Result, Ok, Err, OnOk, OnErr, refl, sym, ap, subst, ◌∙◌, arith, append_assoc}
use Rattle.lsn_core.specs.Files.{Files}
use Rattle.lsn_core.specs.declared.fault.AreaFault.{AreaFault}
use Rattle.vault.specs.Stops.{Event, Made, MayLeave, MightHaveLeft, noted, MayNote, synced}
use Rattle.vault.specs.Frame.{IsDurable, Each, Adds, LeavesNow, LeavesOnly}

unit_map : (o : Option (List Event)) → o ≡ option_map (λ earlier. [] ++ earlier) o
unit_map None = refl
unit_map (Some l) = refl

pub adds_none : (P : Event → Type 0) (x y : Option (List Event)) → y ≡ x → Adds P x y
adds_none P x y e = record { events = []; each = tt; past = e ∙ unit_map x }

one_map : (event : Event) (o : Option (List Event)) → noted event o ≡ option_map (λ earlier. (event ∷ []) ++ earlier) o
one_map event None = refl
one_map event (Some l) = refl

pub adds_one : (P : Event → Type 0) (event : Event) (x y : Option (List Event)) → P event → y ≡ noted event x → Adds P x y
adds_one P event x y is e = record { events = event ∷ []; each = (is, tt); past = e ∙ one_map event x }

tried : (P : Event → Type 0) (event : Event) (x y : Option (List Event)) → P event → MayNote event x y → Adds P x y
tried P event x y is (inl same) = adds_none P x y same
tried P event x y is (inr more) = adds_one P event x y is more

-- a call that adds an event, whatever it answers
pub adds_by : {T : Type 0} (P : Event → Type 0) (event : Event) (x y : Option (List Event)) (result : Result T AreaFault) → P event → OnOk result (y ≡ noted event x) → OnErr result (MayNote event x y) → Adds P x y
adds_by P event x y (Ok done) is ok err = adds_one P event x y is ok
adds_by P event x y (Err fault) is ok err = tried P event x y is err

each_on : (P : Event → Type 0) (a b : List Event) → Each P a → Each P b → Each P (a ++ b)
each_on P [] b ha hb = hb
each_on P (e ∷ a) b ha hb = (ha.0, each_on P a b ha.1 hb)

join_map : (a b : List Event) (o : Option (List Event)) → option_map (λ l. b ++ l) (option_map (λ l. a ++ l) o) ≡ option_map (λ l. (b ++ a) ++ l) o
join_map a b None = refl
join_map a b (Some l) = ap (λ (r : List Event). Some r) (sym (append_assoc b a l))

pub adds_on : (P : Event → Type 0) (x y z : Option (List Event)) → Adds P x y → Adds P y z → Adds P x z
adds_on P x y z first second = record {
  events = second.events ++ first.events;
  each = each_on P second.events first.events second.each first.each;
  past = second.past ∙ ap (option_map (λ l. second.events ++ l)) first.past ∙ join_map first.events second.events x;
}

-- what these events keep stays true of what a stop may leave
now_kept : (P : Files → Type 0) (K : Event → Type 0) → ((event : Event) (d c : Files) → K event → P d → Made event d c → P c) → (events earlier : List Event) → Each K events → ((c : Files) → MayLeave earlier c → P c) → (c : Files) → MayLeave (events ++ earlier) c → P c
now_kept P K keeps [] earlier each here c left = here c left
now_kept P K keeps (event ∷ events) earlier each here c left = keeps event left.0 c each.0 (now_kept P K keeps events earlier each.1 here left.0 left.1) left.2

-- since this moment there is no other
only_now : (earlier : List Event) (c : Files) → MightHaveLeft earlier (length earlier) c → MayLeave earlier c
only_now [] c left = left
only_now (event ∷ earlier) c (inl left) = left
only_now (event ∷ earlier) c (inr past) = absurd (omega (arith, past.0))

since_kept : (P : Files → Type 0) (K : Event → Type 0) → ((event : Event) (d c : Files) → K event → P d → Made event d c → P c) → (events earlier : List Event) → Each K events → ((c : Files) → MayLeave earlier c → P c) → (c : Files) → MightHaveLeft (events ++ earlier) (length earlier) c → P c
since_kept P K keeps [] earlier each here c left = here c (only_now earlier c left)
since_kept P K keeps (event ∷ events) earlier each here c (inl left) = now_kept P K keeps (event ∷ events) earlier each here c left
since_kept P K keeps (event ∷ events) earlier each here c (inr past) = since_kept P K keeps events earlier each.1 here c past.1

kept_by : (P : Files → Type 0) (K : Event → Type 0) → ((event : Event) (d c : Files) → K event → P d → Made event d c → P c) → (events : List Event) → Each K events → (x : Option (List Event)) → LeavesNow P x → LeavesOnly P x (option_map (λ l. events ++ l) x)
kept_by P K keeps events each None here = tt
kept_by P K keeps events each (Some l) here = (since_kept P K keeps events l each here, now_kept P K keeps events l each here)

-- what each event of a kind keeps, a stop leaves at each moment
pub leaves_only : (P : Files → Type 0) (K : Event → Type 0) (x y : Option (List Event)) → ((event : Event) (d c : Files) → K event → P d → Made event d c → P c) → Adds K x y → LeavesNow P x → LeavesOnly P x y
leaves_only P K x y keeps adds here = subst (LeavesOnly P x) (sym adds.past) (kept_by P K keeps adds.events adds.each x here)

pub settled_by : (files : Files) (x y : Option (List Event)) → y ≡ noted (synced (Some files)) x → LeavesNow (λ c. c ≡ files) y
settled_by files None y e = subst (LeavesNow (λ c. c ≡ files)) (sym e) tt
settled_by files (Some l) y e = subst (LeavesNow (λ c. c ≡ files)) (sym e) (λ c left. left.2.1)

-- after a sync a stop leaves what a read gives
pub durable_behind : (files : Option Files) (x y : Option (List Event)) → y ≡ noted (synced files) x → IsDurable files y
durable_behind None x y e = tt
durable_behind (Some m) x y e = settled_by m x y e

pub settled : {T E : Type 0} (result : Result T E) (files now : Option Files) (x y : Option (List Event)) → now ≡ files → OnOk result (y ≡ noted (synced files) x) → OnOk result (IsDurable now y)
settled (Ok done) files now x y same e = durable_behind now x y (e ∙ ap (λ (f : Option Files). noted (synced f) x) (sym same))
settled (Err fault) files now x y same e = tt

-- a sync, whatever it answers
pub adds_sync : {T : Type 0} (P : Event → Type 0) (files : Option Files) (x y : Option (List Event)) (result : Result T AreaFault) → P (synced files) → OnOk result (y ≡ noted (synced files) x) → OnErr result (y ≡ x) → Adds P x y
adds_sync P files x y (Ok done) is ok err = adds_one P (synced files) x y is ok
adds_sync P files x y (Err fault) is ok err = adds_none P x y err
