-- What a stop leaves at each moment of a call: the beginning of a file that is only written behind a
-- place, and a file while only others change.
use Rattle.std.proofs.Common.{◌≡◌, ◌≢◌, ℕ, inl, inr, List, Option, Some, None, sym, subst, ◌∙◌, arith}
use Rattle.std.specs.FinMap.{get}
use Rattle.lsn_core.specs.Files.{Files}
use Rattle.vault.specs.Stops.{Event, Made}
use Rattle.vault.specs.Frame.{Adds, IsAmong}
use Rattle.vault.specs.Frame.{LeavesNow, LeavesOnly, Has}
use Rattle.vault.proofs.Through.{leaves_only}

has_by : (name : List ℕ) (d c : Files) → get c name ≡ get d name → Has name d → Has name c
has_by name d c e has none = has (sym e ∙ none)

stands : (name : List ℕ) (event : Event) (d c : Files) → IsAmong (λ q. q ≢ name) event → Has name d → Made event d c → Has name c
stands name (inl w) d c other has made = has_by name d c (made.others name (λ e. other (sym e))) has
stands name (inr (inl k)) d c other has made = has_by name d c (made.others name (λ e. other (sym e))) has
stands name (inr (inr (inl q))) d c other has made = has_by name d c (made.others name (λ e. other (sym e))) has
stands name (inr (inr (inr None))) d c other has made = subst (Has name) (sym made) has
stands name (inr (inr (inr (Some files)))) d c other has made = subst (Has name) (sym made.0) has

-- while only other files change, every stop leaves this file
pub mark_stands : (name : List ℕ) (x y : Option (List Event)) → Adds (IsAmong (λ q. q ≢ name)) x y → LeavesNow (Has name) x → LeavesOnly (Has name) x y
mark_stands name x y adds here = leaves_only (Has name) (IsAmong (λ q. q ≢ name)) x y (stands name) adds here
