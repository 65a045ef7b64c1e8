-- What a stop leaves at each moment of two calls, one behind the other.
use Rattle.std.proofs.Common.{◌≡◌, ℕ, ◌⊎◌, inl, inr, ⊎_elim, List, [], ◌∷◌, ◌++◌, length, Option, Some, None, option_map, sym, ap, subst, ◌∙◌, arith}
use Rattle.std.proofs.lemmas.List.{length-append}
use Rattle.lsn_core.specs.Files.{Files}
use Rattle.vault.specs.Stops.{Event, MightHaveLeft}
use Rattle.vault.specs.Frame.{Each, Adds, LeavesNow, LeavesOnly}
use Rattle.vault.proofs.Through.{leaves_only, adds_none}
use Rattle.stop_areas.specs.Left.{Base, IsLeftOf}
use Rattle.stop_areas.specs.Laws.{IsAny, KeepsLeft, CallsKeepInTurn}

-- what is left at each moment is left now
pub left_now : (P : Files → Type 0) (x y : Option (List Event)) → LeavesOnly P x y → LeavesNow P y
left_now P None None only = tt
left_now P (Some old) (Some new) only = only.1
left_now P None (Some new) only = absurd only
left_now P (Some old) None only = absurd only

any_each : (es : List Event) → Each IsAny es
any_each [] = tt
any_each (e ∷ es) = (tt, any_each es)

-- events of a kind are events
pub adds_any : (K : Event → Type 0) (x y : Option (List Event)) → Adds K x y → Adds IsAny x y
adds_any K x y a = record { events = a.events; each = any_each a.events; past = a.past }

-- a moment since an earlier number of events is one since a later number, or was before it
split_moment : (fs y : List Event) (t : ℕ) (c : Files) → MightHaveLeft (fs ++ y) t c → MightHaveLeft (fs ++ y) (length y) c ⊎ MightHaveLeft y t c
split_moment [] y t c left = inr left
split_moment (f ∷ fs) y t c (inl now) = inl (inl now)
split_moment (f ∷ fs) y t c (inr past) =
    ⊎_elim (λ later. inl (inr (let l = length-append fs y in omega (arith, l), later))) (λ before. inr before) (split_moment fs y t c past.1)

two_parts : (P : Files → Type 0) (es fs : List Event) (x : Option (List Event)) → LeavesOnly P x (option_map (λ l. es ++ l) x) → LeavesOnly P (option_map (λ l. es ++ l) x) (option_map (λ l. fs ++ l) (option_map (λ l. es ++ l) x)) → LeavesOnly P x (option_map (λ l. fs ++ l) (option_map (λ l. es ++ l) x))
two_parts P es fs None first second = tt
two_parts P es fs (Some l) first second = (λ c left. ⊎_elim (λ later. second.0 c later) (λ before. first.0 c before) (split_moment fs (es ++ l) (length l) c left), second.1)

-- of two calls in turn, for any property of what a stop leaves
pub in_turn : (P : Files → Type 0) (K L : Event → Type 0) (x y z : Option (List Event)) → Adds K x y → Adds L y z → LeavesOnly P x y → LeavesOnly P y z → LeavesOnly P x z
in_turn P K L x y z a b first second =
    subst (λ (w : Option (List Event)). LeavesOnly P x w) (sym (b.past ∙ ap (option_map (λ l. b.events ++ l)) a.past))
    (two_parts P a.events b.events x
    (subst (λ (w : Option (List Event)). LeavesOnly P x w) a.past first)
    (subst (λ (w : Option (List Event)). LeavesOnly P w (option_map (λ l. b.events ++ l) w)) a.past (subst (λ (w : Option (List Event)). LeavesOnly P y w) b.past second)))

-- no call keeps what is left
pub keeps_none : (relseg : ℕ) (base : Base) (x y : Option (List Event)) → y ≡ x → KeepsLeft relseg base x y
keeps_none relseg base x y same left = leaves_only (IsLeftOf relseg base) (λ e. ⊥) x y (λ e d c none has made. absurd none) (adds_none (λ e. ⊥) x y same) left

pub keeps_in_turn : CallsKeepInTurn
keeps_in_turn relseg base x y z a b first second left =
    let here = first left in
    in_turn (IsLeftOf relseg base) IsAny IsAny x y z a b here (second (left_now (IsLeftOf relseg base) x y here))
