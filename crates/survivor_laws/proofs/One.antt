-- Files have one list of survivors.
use Rattle.std.proofs.Common.{◌≡◌, ℕ, List, [], ◌∷◌, refl, sym, ap, subst, ◌∙◌}
use Rattle.lsn_core.specs.Tip.{Tip}
use Rattle.wal_record.specs.Tips.{first_tip, tip_after}
use Rattle.wal_record.specs.declared.record.Record.{Record}
use Rattle.wal_archive.specs.Archive.{Archive, archive_of}
use Rattle.wal_archive.specs.Rules.{Judge, Found, Gives, next_in, Walks}
use Rattle.survivor_laws.specs.Survivors.{IsStopped}
use Rattle.survivor_laws.specs.Laws.{SurvivorsAreOne}

one_given : (x : Found) (q r : Record) → x ≡ Gives q → x ≡ Gives r → q ≡ r
one_given x q r e f = cc

-- from a tip on two walks that stop are the same
pub walks_are_one : (judge : Judge) (mib system : ℕ) (a : Archive) (start tip end : Tip) (rs others : List Record) → Walks judge mib system a start rs tip → IsStopped judge mib system a tip → Walks judge mib system a start others end → IsStopped judge mib system a end → (rs ≡ others) × (tip ≡ end)
walks_are_one judge mib system a start tip end [] [] walk stopped other ended = (refl, walk ∙ sym other)
walks_are_one judge mib system a start tip end [] (r ∷ others) walk stopped other ended =
    absurd (stopped r (subst (λ (t : Tip). next_in judge mib system a t ≡ Gives r) (sym walk) other.0))
walks_are_one judge mib system a start tip end (q ∷ rs) [] walk stopped other ended =
    absurd (ended q (subst (λ (t : Tip). next_in judge mib system a t ≡ Gives q) (sym other) walk.0))
walks_are_one judge mib system a start tip end (q ∷ rs) (r ∷ others) walk stopped other ended =
    let same : q ≡ r = one_given (next_in judge mib system a start) q r walk.0 other.0 in
    let rest = walks_are_one judge mib system a (tip_after start q) tip end rs others walk.1 stopped (subst (λ (x : Record). Walks judge mib system a (tip_after start x) others end) (sym same) other.1) ended in
    (ap (λ (x : Record). x ∷ rs) same ∙ ap (λ (l : List Record). r ∷ l) rest.0, rest.1)

pub one : SurvivorsAreOne
one judge mib system files rs others tip end a b = walks_are_one judge mib system (archive_of mib files) (first_tip mib) tip end rs others a.walk a.stopped b.walk b.stopped
