-- Whether a path is that of a segment file in its plain form.
use Rattle.std.proofs.Common.{◌≡◌, ℕ, Bool, true, false, true≢false, List, refl, sym}
use Rattle.std.specs.Prelude.{IsTrue, not}
use Rattle.lsn_core.specs.Names.{fork_path_bytes, IsNamed, NamesNoFork}
use Rattle.lsn_core.specs.declared.ids.ForkId.{ForkId}
use Rattle.rel_files.specs.Forks.{IsForkPath}
use Rattle.rel_neat.proofs.Judged.{no_segment, incremental}

pub plain_told : (path : List ℕ) (fork : ForkId) (seg : ℕ) (incr : Bool) → IsNamed fork seg → path ≡ fork_path_bytes fork seg incr → (IsTrue (not incr) → IsForkPath path) × (IsForkPath path → IsTrue (not incr))
plain_told path fork seg false named found = (λ t. record { fork = fork; seg = seg; named = named; path_is = found }, λ is. refl)
plain_told path fork seg true named found = (λ t. absurd (true≢false (sym t)), λ is. absurd (incremental path fork seg named found is))

pub none_told : (path : List ℕ) → NamesNoFork path → (IsTrue false → IsForkPath path) × (IsForkPath path → IsTrue false)
none_told path none = (λ t. absurd (true≢false (sym t)), λ is. absurd (no_segment path none is))
