-- What a stop leaves of one area since a moment.
use Rattle.std.proofs.Common.{◌≡◌, ℕ, inl, inr, List, Some, None, sym, ap, subst, ◌∙◌}
use Rattle.std.specs.FinMap.{get}
use Rattle.lsn_core.specs.Files.{Files}
use Rattle.vault.specs.Stops.{Event, Made}
use Rattle.vault.specs.Frame.{AgreeBut, Adds, IsAmong, LeavesNow, LeavesOnly}
use Rattle.vault.proofs.Through.{adds_none, leaves_only}
use Rattle.data_areas.specs.Moments.{Past, LeftNow, LeftSince}

since : (P : Files → Type 0) (x y : Past) (left : Files) → LeavesOnly P x y → LeftSince x y left → P left
since P None y left only there = absurd there
since P (Some a) None left only there = absurd there
since P (Some a) (Some b) left only there = only.0 left there

-- where each event of a kind keeps what a stop leaves
pub by_kind : (P : Files → Type 0) (K : Event → Type 0) (x y : Past) (left : Files) → ((event : Event) (d c : Files) → K event → P d → Made event d c → P c) → Adds K x y → LeavesNow P x → LeftSince x y left → P left
by_kind P K x y left keeps adds here there = since P x y left (leaves_only P K x y keeps adds here) there

-- where what a stop leaves is left at each moment
pub left_since : (P : Files → Type 0) (x y : Past) (left : Files) → LeavesOnly P x y → LeftSince x y left → P left
left_since P x y left only there = since P x y left only there

pub left_has : (P : Files → Type 0) (x : Past) (left : Files) → LeavesNow P x → LeftNow x left → P left
left_has P None left leaves there = absurd there
left_has P (Some events) left leaves there = leaves left there

pub left_now : (x : Past) → LeavesNow (LeftNow x) x
left_now None = tt
left_now (Some events) = λ c may. may

-- where nothing happened
pub quiet : (x y : Past) (left : Files) → y ≡ x → LeftSince x y left → LeftNow x left
quiet x y left same there = by_kind (LeftNow x) (λ event. ⊥) x y left (λ event d c none holds made. absurd none) (adds_none (λ event. ⊥) x y same) (left_now x) there

pub unmoved : (P : Files → Type 0) (x y : Past) (left : Files) → y ≡ x → LeavesNow P x → LeftSince x y left → P left
unmoved P x y left same here there = left_has P x left here (quiet x y left same there)

-- a change of some files alone leaves the others
agrees : (Among : List ℕ → Type 0) (m : Files) (event : Event) (d c : Files) → IsAmong Among event → AgreeBut Among m d → Made event d c → AgreeBut Among m c
agrees Among m (inl w) d c is agree made = λ q out. made.others q (λ e. out (subst Among (sym e) is)) ∙ agree q out
agrees Among m (inr (inl k)) d c is agree made = λ q out. made.others q (λ e. out (subst Among (sym e) is)) ∙ agree q out
agrees Among m (inr (inr (inl name))) d c is agree made = λ q out. made.others q (λ e. out (subst Among (sym e) is)) ∙ agree q out
agrees Among m (inr (inr (inr None))) d c is agree made = subst (AgreeBut Among m) (sym made) agree
agrees Among m (inr (inr (inr (Some files)))) d c is agree made = subst (AgreeBut Among m) (sym made.0) agree

same_agree : (Among : List ℕ → Type 0) (m left : Files) → left ≡ m → AgreeBut Among m left
same_agree Among m left same = λ q out. ap (λ (f : Files). get f q) same

pub agree_now : (Among : List ℕ → Type 0) (m : Files) (x : Past) → LeavesNow (λ left. left ≡ m) x → LeavesNow (AgreeBut Among m) x
agree_now Among m None durable = tt
agree_now Among m (Some events) durable = λ c may. same_agree Among m c (durable c may)

-- where some files alone changed of durable ones, the others are left
pub agree_since : (Among : List ℕ → Type 0) (m : Files) (x y : Past) (left : Files) → LeavesNow (λ left. left ≡ m) x → Adds (IsAmong Among) x y → LeftSince x y left → AgreeBut Among m left
agree_since Among m x y left durable adds there = by_kind (AgreeBut Among m) (IsAmong Among) x y left (agrees Among m) adds (agree_now Among m x durable) there

-- a sync leaves what was left
synced_keeps : (x : Past) (event : Event) (d c : Files) → IsAmong (λ name. ⊥) event → LeftNow x d → Made event d c → LeftNow x c
synced_keeps x (inl w) d c is was made = absurd is
synced_keeps x (inr (inl k)) d c is was made = absurd is
synced_keeps x (inr (inr (inl name))) d c is was made = absurd is
synced_keeps x (inr (inr (inr None))) d c is was made = subst (LeftNow x) (sym made) was
synced_keeps x (inr (inr (inr (Some files)))) d c is was made = subst (LeftNow x) (sym made.0) was

pub synced_left : (x y : Past) (left : Files) → Adds (IsAmong (λ name. ⊥)) x y → LeftSince x y left → LeftNow x left
synced_left x y left adds there = by_kind (LeftNow x) (IsAmong (λ name. ⊥)) x y left (synced_keeps x) adds (left_now x) there

still : (P : Files → Type 0) (x y : Past) → LeavesOnly P x y → LeavesNow P y
still P None None only = tt
still P None (Some b) only = absurd only
still P (Some a) None only = tt
still P (Some a) (Some b) only = only.1

pub synced_now : (x y : Past) (left : Files) → Adds (IsAmong (λ name. ⊥)) x y → LeftNow y left → LeftNow x left
synced_now x y left adds there = left_has (LeftNow x) y left (still (LeftNow x) x y (leaves_only (LeftNow x) (IsAmong (λ name. ⊥)) x y (synced_keeps x) adds (left_now x))) there
