-- Segment files that are made neat, and synced.
use Rattle.std.proofs.Common.{◌≡◌, ℕ, inl, inr, Option, None, Some, IfSome, refl, ap, sym, subst, ◌∙◌}
use Rattle.std.specs.Cmp.Lexicographic.{nat_list_cmp_total}
use Rattle.std.specs.FinMap.{same_map, slice_cmp-IsAntisymmetric, nat_cmp-IsAntisymmetric}
use Rattle.lsn_core.specs.Files.{Files}
use Rattle.vault.specs.declared.area.Vault.{Ghosts}
use Rattle.vault.specs.Stops.{Event}
use Rattle.vault.specs.Area.{Related}
use Rattle.vault.specs.Frame.{AgreeBut, ChangesOnly, IsAmong}
use Rattle.rel_files.specs.Forks.{IsForkPath}
use Rattle.rel_files.proofs.Events.{adds_weaker}
use Rattle.stop_areas.specs.Keeps.{Keeps}
use Rattle.stop_areas.specs.Left.{Base}
use Rattle.rel_neat.specs.Neat.{IsNeat, KeepsWhatStays}
use Rattle.rel_neat.proofs.Staying.{keeps_on}
use Rattle.data_areas.specs.declared.areas.DataAreas.{DataAreas}
use Rattle.restart_areas.specs.Areas.{AreNeat, ForksChange, KeepPages, NoneChanges}
use Rattle.store_restart.proofs.Filled.{each_more, each_on}

-- an area of which no file changed has the same ones
same_by : (u v : Option Files) → Related (AgreeBut (λ name. ⊥)) u v → v ≡ u
same_by None None agree = refl
same_by (Some a) (Some b) agree = ap (λ (m : Files). Some m) (same_map nat_list_cmp_total (slice_cmp-IsAntisymmetric nat_cmp-IsAntisymmetric) b a (λ q. agree q (λ none. none)))
same_by None (Some b) agree = absurd agree
same_by (Some a) None agree = absurd agree

pub same_files : {V : Type 0} (g : Ghosts V) (x y : V) → ChangesOnly g (λ name. ⊥) x y → g.files y ≡ g.files x
same_files g x y is = same_by (g.files x) (g.files y) is.files

neat_still : {V : Type 0} (g : Ghosts V) (relseg : ℕ) (x y : V) → ChangesOnly g (λ name. ⊥) x y → IfSome (g.files x) (IsNeat relseg) → IfSome (g.files y) (IsNeat relseg)
neat_still g relseg x y none neat = subst (λ (o : Option Files). IfSome o (IsNeat relseg)) (sym (same_files g x y none)) neat

pub synced_neat : {V : Type 0} (g : Ghosts V) (relseg : ℕ) (x y : DataAreas V) → AreNeat g relseg x → NoneChanges g x y → AreNeat g relseg y
synced_neat g relseg x y neat none = record {
  data0 = neat_still g relseg x.data0 y.data0 none.data0 neat.data0;
  data1 = neat_still g relseg x.data1 y.data1 none.data1 neat.data1;
  data2 = neat_still g relseg x.data2 y.data2 none.data2 neat.data2;
  data3 = neat_still g relseg x.data3 y.data3 none.data3 neat.data3;
}

-- a sync keeps what stays
sync_kept : (relseg : ℕ) (base : Base) (event : Event) → IsAmong (λ name. ⊥) event → Keeps relseg base event
sync_kept relseg base (inl w) none = absurd none
sync_kept relseg base (inr (inl k)) none = absurd none
sync_kept relseg base (inr (inr (inl name))) none = absurd none
sync_kept relseg base (inr (inr (inr files))) none = tt

sync_keeps : {V : Type 0} (g : Ghosts V) (relseg : ℕ) (x y : V) → ChangesOnly g (λ name. ⊥) x y → KeepsWhatStays g relseg x y
sync_keeps g relseg x y is base named left =
    ((left.0, (same_files g x y is ∙ left.1.0, left.1.1)), adds_weaker (IsAmong (λ name. ⊥)) (Keeps relseg base) (g.past x) (g.past y) (sync_kept relseg base) is.past)

pub synced_keep : {V : Type 0} (g : Ghosts V) (relseg : ℕ) (x y z : DataAreas V) → KeepPages g relseg x y → NoneChanges g y z → KeepPages g relseg x z
synced_keep g relseg x y z keeps none = record {
  data0 = keeps_on g relseg x.data0 y.data0 z.data0 keeps.data0 (sync_keeps g relseg y.data0 z.data0 none.data0);
  data1 = keeps_on g relseg x.data1 y.data1 z.data1 keeps.data1 (sync_keeps g relseg y.data1 z.data1 none.data1);
  data2 = keeps_on g relseg x.data2 y.data2 z.data2 keeps.data2 (sync_keeps g relseg y.data2 z.data2 none.data2);
  data3 = keeps_on g relseg x.data3 y.data3 z.data3 keeps.data3 (sync_keeps g relseg y.data3 z.data3 none.data3);
}

pub synced_fork : {V : Type 0} (g : Ghosts V) (x y z : DataAreas V) → ForksChange g x y → NoneChanges g y z → ForksChange g x z
synced_fork g x y z first none = each_on g IsForkPath x y z first (each_more g (λ name. ⊥) IsForkPath y z (λ name none. absurd none) none)
