-- What stands in files that a stop left agrees with the store but for what entries change.
use Rattle.std.proofs.Common.{◌≡◌, ℕ, Bool, true, false, List, Option, Some, None, refl, sym, ◌∙◌}
use Rattle.std.specs.List.{list_any}
use Rattle.lsn_core.specs.declared.ids.ForkId.{ForkId}
use Rattle.lsn_core.specs.Store.{Store}
use Rattle.lsn_core.specs.Blocks.{block_of}
use Rattle.history.specs.Entry.{Entry}
use Rattle.history.specs.fuzzy_copies.Touches.{resets}
use Rattle.stop_areas.specs.Left.{HasWhatStays}
use Rattle.stop_areas.proofs.Found.{left_held}
use Rattle.stop_laws.specs.Window.{base_of}
use Rattle.stop_laws.specs.Laws.{LeftStoresAgree}

agree_at : (ours : ForkId → Bool) (store copy : Store) (entries : List Entry) → HasWhatStays (base_of ours store entries) copy → (fork : ForkId) (block : ℕ) → ours fork ≡ true → list_any (resets fork block) entries ≡ false → (o : Option (List ℕ)) → block_of store fork block ≡ o
    → block_of copy fork block ≡ block_of store fork block
agree_at ours store copy entries has fork block mine kept None is = has.missing fork block (record { ours = mine; kept = kept; none = is }) ∙ sym is
agree_at ours store copy entries has fork block mine kept (Some page) is = has.pages fork block page (record { ours = mine; kept = kept; there = is }) ∙ sym is

pub agree : LeftStoresAgree
agree ours relseg store copy entries files some named whole holds copied left =
    let has = left_held relseg (base_of ours store entries) copy files some named whole holds copied left in
    record {
      blocks = λ fork block mine kept. agree_at ours store copy entries has fork block mine kept (block_of store fork block) refl;
      forks = λ fork mine unsettled. has.forks fork mine unsettled;
    }
