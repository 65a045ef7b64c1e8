-- The areas of a store that were taken from a site and given back.
use Rattle.std.proofs.Common.{◌≡◌, ℕ, List, [], ◌∷◌, ap, ◌∙◌}
use Rattle.vault.specs.declared.area.Vault.{Ghosts as Vaults}
use Rattle.vault.specs.declared.site.Site.{Ghosts as Sites}
use Rattle.vault.specs.declared.lending.Held.{Held}
use Rattle.vault.specs.Site.{Areas, one_back}
use Rattle.vault.specs.Lending.{all_back, AreOut, GivesBack, IsOut}
use Rattle.vault.proofs.LentAreas.{gives_back, out_front}
use Rattle.store_areas.specs.declared.areas.StoreAreas.{StoreAreas}
use Rattle.command_base.specs.Areas.{wal_name, data_name}
use Rattle.restart_command.specs.Inner.{store_held}

abbrev under : {A : Type 0} → List ℕ → A → Held A
under name area = record { name = name; area = area }

module _ {A : Type 0} (g : Vaults A) where
  -- ---- given back, the last first

  abbrev last_one : StoreAreas A → List (Held A)
  last_one are = under (data_name 3) are.data3 ∷ []

  abbrev last_two : StoreAreas A → List (Held A)
  last_two are = under (data_name 2) are.data2 ∷ last_one are

  abbrev last_three : StoreAreas A → List (Held A)
  last_three are = under (data_name 1) are.data1 ∷ last_two are

  abbrev last_four : StoreAreas A → List (Held A)
  last_four are = under (data_name 0) are.data0 ∷ last_three are

  one_more : (f h k : Areas) (held : List (Held A)) (name : List ℕ) (area : A) → h ≡ all_back g f held → k ≡ one_back g h name area → k ≡ all_back g f (under name area ∷ held)
  one_more f h k held name area is more = more ∙ ap (λ (x : Areas). one_back g x name area) is

  pub data2_out : (f h : Areas) (are : StoreAreas A) → AreOut g f (store_held are) → h ≡ all_back g f (last_one are) → IsOut g h (under (data_name 2) are.data2)
  data2_out f h are out is =
      (out_front g f h (under wal_name are.wal ∷ (under (data_name 0) are.data0 ∷ (under (data_name 1) are.data1 ∷ (under (data_name 2) are.data2 ∷ [])))) (last_one are) out is).2.2.2.0

  pub data2_back : (f h k : Areas) (are : StoreAreas A) → h ≡ all_back g f (last_one are) → k ≡ one_back g h (data_name 2) are.data2 → k ≡ all_back g f (last_two are)
  data2_back f h k are is more = one_more f h k (last_one are) (data_name 2) are.data2 is more

  pub data1_out : (f h : Areas) (are : StoreAreas A) → AreOut g f (store_held are) → h ≡ all_back g f (last_two are) → IsOut g h (under (data_name 1) are.data1)
  data1_out f h are out is =
      (out_front g f h (under wal_name are.wal ∷ (under (data_name 0) are.data0 ∷ (under (data_name 1) are.data1 ∷ []))) (last_two are) out is).2.2.0

  pub data1_back : (f h k : Areas) (are : StoreAreas A) → h ≡ all_back g f (last_two are) → k ≡ one_back g h (data_name 1) are.data1 → k ≡ all_back g f (last_three are)
  data1_back f h k are is more = one_more f h k (last_two are) (data_name 1) are.data1 is more

  pub data0_out : (f h : Areas) (are : StoreAreas A) → AreOut g f (store_held are) → h ≡ all_back g f (last_three are) → IsOut g h (under (data_name 0) are.data0)
  data0_out f h are out is =
      (out_front g f h (under wal_name are.wal ∷ (under (data_name 0) are.data0 ∷ [])) (last_three are) out is).2.0

  pub data0_back : (f h k : Areas) (are : StoreAreas A) → h ≡ all_back g f (last_three are) → k ≡ one_back g h (data_name 0) are.data0 → k ≡ all_back g f (last_four are)
  data0_back f h k are is more = one_more f h k (last_three are) (data_name 0) are.data0 is more

  pub wal_out : (f h : Areas) (are : StoreAreas A) → AreOut g f (store_held are) → h ≡ all_back g f (last_four are) → IsOut g h (under wal_name are.wal)
  wal_out f h are out is = (out_front g f h (under wal_name are.wal ∷ []) (last_four are) out is).0

  pub wal_back : (f h k : Areas) (are : StoreAreas A) → h ≡ all_back g f (last_four are) → k ≡ one_back g h wal_name are.wal → k ≡ all_back g f (store_held are)
  wal_back f h k are is more = one_more f h k (last_four are) wal_name are.wal is more

-- all five went back, one by one
pub store_gives : {S A : Type 0} (s : Sites S A) (g : Vaults A) (old a b c d new : S) (are : StoreAreas A) → AreOut g (s.areas old) (store_held are)
    → (s.areas a ≡ one_back g (s.areas old) (data_name 3) are.data3) × (s.areas b ≡ one_back g (s.areas a) (data_name 2) are.data2) × (s.areas c ≡ one_back g (s.areas b) (data_name 1) are.data1) × (s.areas d ≡ one_back g (s.areas c) (data_name 0) are.data0) × (s.areas new ≡ one_back g (s.areas d) wal_name are.wal)
    → s.take_faults new ≡ s.take_faults old → GivesBack s g (store_held are) old new
store_gives s g old a b c d new are out back same =
    gives_back s g (store_held are) old new out
    (wal_back g _ _ _ are (data0_back g _ _ _ are (data1_back g _ _ _ are (data2_back g _ _ _ are back.0 back.1) back.2) back.3) back.4) same
