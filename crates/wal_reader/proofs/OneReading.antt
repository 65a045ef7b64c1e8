-- An archive is read in one way.
use Rattle.std.proofs.Common.{◌≡◌, ℕ, List, [], ◌∷◌, refl, sym, subst, ◌∙◌}
use Rattle.lsn_core.specs.Files.{Files}
use Rattle.lsn_core.specs.Segment.{StoreSettings}
use Rattle.lsn_core.specs.Tip.{Tip}
use Rattle.wal_record.specs.declared.record.Record.{Record}
use Rattle.wal_record.specs.Tips.{first_tip, tip_after}
use Rattle.wal_archive.specs.declared.fault.Damage.{Damage}
use Rattle.wal_archive.specs.Rules.{Found, End, Gives, Bad}
use Rattle.wal_reader.specs.Wal.{stands_behind, stands_at, tip_at, ReadsOn, ReadsFrom, found_from, IsWal, IsDamaged, IsWalFrom, IsDamagedFrom}

-- an answer that gives no entry
abbrev Stops : Found → Type 0
Stops f = (r : Record) → f ≡ Gives r → ⊥

end_stops : (f : Found) → f ≡ End → Stops f
end_stops f e r gives = (let c : ◌≡◌ {A = Found} End (Gives r) = sym e ∙ gives in absurd cc)

bad_stops : (f : Found) (damage : Damage) → f ≡ Bad damage → Stops f
bad_stops f damage e r gives = (let c : ◌≡◌ {A = Found} (Bad damage) (Gives r) = sym e ∙ gives in absurd cc)

same_gives : (f : Found) (r q : Record) → f ≡ Gives r → f ≡ Gives q → r ≡ q
same_gives f r q a b = (let c : ◌≡◌ {A = Found} (Gives r) (Gives q) = sym a ∙ b in cc)

same_bad : (f : Found) (d o : Damage) → f ≡ Bad d → f ≡ Bad o → d ≡ o
same_bad f d o a b = (let c : ◌≡◌ {A = Found} (Bad d) (Bad o) = sym a ∙ b in cc)

end_is_bad : (f : Found) (d : Damage) → f ≡ End → f ≡ Bad d → ⊥
end_is_bad f d a b = (let c : ◌≡◌ {A = Found} End (Bad d) = sym a ∙ b in absurd cc)

cons_same : (r q : Record) (rs qs : List Record) → r ≡ q → rs ≡ qs → ◌≡◌ {A = List Record} (r ∷ rs) (q ∷ qs)
cons_same r q rs qs a b = rw (a, b) refl

-- two walks from a tip on that go no further are one
on_once : (s : StoreSettings) (files : Files) (tip : Tip) (rs qs : List Record) (last end : Tip) → ReadsOn s files tip rs last → Stops (stands_behind s files last) → ReadsOn s files tip qs end → Stops (stands_behind s files end) → (rs ≡ qs) × (last ≡ end)
on_once s files tip [] [] last end p stop q halt = (refl, p ∙ sym q)
on_once s files tip [] (q ∷ qs) last end p stop walk halt = absurd (stop q (subst (λ (t : Tip). stands_behind s files t ≡ Gives q) (sym p) walk.0))
on_once s files tip (r ∷ rs) [] last end walk stop q halt = absurd (halt r (subst (λ (t : Tip). stands_behind s files t ≡ Gives r) (sym q) walk.0))
on_once s files tip (r ∷ rs) (q ∷ qs) last end p stop walk halt =
    let same : r ≡ q = same_gives (stands_behind s files tip) r q p.0 walk.0 in
    let more = on_once s files (tip_after tip r) rs qs last end p.1 stop (subst (λ (x : Record). ReadsOn s files (tip_after tip x) qs end) (sym same) walk.1) halt in
    (cons_same r q rs qs same more.0, more.1)

pub one_reading : (s : StoreSettings) (files : Files) (rs qs : List Record) (tip end : Tip) → IsWal s files rs tip → IsWal s files qs end → (rs ≡ qs) × (tip ≡ end)
one_reading s files rs qs tip end p q =
    on_once s files (first_tip s.segment) rs qs tip end p.walk (end_stops (stands_behind s files tip) p.ended) q.walk (end_stops (stands_behind s files end) q.ended)

pub ends_or_is_damaged : (s : StoreSettings) (files : Files) (rs qs : List Record) (tip : Tip) (damage : Damage) → IsWal s files rs tip → IsDamaged s files qs damage → ⊥
ends_or_is_damaged s files rs qs tip damage p q =
    let same = on_once s files (first_tip s.segment) rs qs tip q.tip p.walk (end_stops (stands_behind s files tip) p.ended) q.walk (bad_stops (stands_behind s files q.tip) damage q.broken) in
    end_is_bad (stands_behind s files q.tip) damage (subst (λ (t : Tip). stands_behind s files t ≡ End) same.1 p.ended) q.broken

pub one_damage : (s : StoreSettings) (files : Files) (rs qs : List Record) (damage other : Damage) → IsDamaged s files rs damage → IsDamaged s files qs other → (rs ≡ qs) × (damage ≡ other)
one_damage s files rs qs damage other p q =
    let same = on_once s files (first_tip s.segment) rs qs p.tip q.tip p.walk (bad_stops (stands_behind s files p.tip) damage p.broken) q.walk (bad_stops (stands_behind s files q.tip) other q.broken) in
    (same.0, same_bad (stands_behind s files q.tip) damage other (subst (λ (t : Tip). stands_behind s files t ≡ Bad damage) same.1 p.broken) q.broken)

-- the same from a place on
from_once : (s : StoreSettings) (files : Files) (from : ℕ) (rs qs : List Record) (last end : Tip) → ReadsFrom s files from rs last → Stops (found_from s files from rs last) → ReadsFrom s files from qs end → Stops (found_from s files from qs end) → (rs ≡ qs) × (last ≡ end)
from_once s files from [] [] last end p stop q halt = (refl, p ∙ sym q)
from_once s files from [] (q ∷ qs) last end p stop walk halt = absurd (stop q walk.0)
from_once s files from (r ∷ rs) [] last end walk stop q halt = absurd (halt r walk.0)
from_once s files from (r ∷ rs) (q ∷ qs) last end p stop walk halt =
    let same : r ≡ q = same_gives (stands_at s files from) r q p.0 walk.0 in
    let more = on_once s files (tip_after (tip_at from) r) rs qs last end p.1 stop (subst (λ (x : Record). ReadsOn s files (tip_after (tip_at from) x) qs end) (sym same) walk.1) halt in
    (cons_same r q rs qs same more.0, more.1)

-- what is found behind the same entries is the same
found_same : (s : StoreSettings) (files : Files) (from : ℕ) (rs qs : List Record) (tip end : Tip) (f : Found) → rs ≡ qs → tip ≡ end → found_from s files from rs tip ≡ f → found_from s files from qs end ≡ f
found_same s files from rs qs tip end f same tips e = subst (λ (x : List Record). found_from s files from x end ≡ f) same (subst (λ (t : Tip). found_from s files from rs t ≡ f) tips e)

pub one_reading_from : (s : StoreSettings) (files : Files) (from : ℕ) (rs qs : List Record) (tip end : Tip) → IsWalFrom s files from rs tip → IsWalFrom s files from qs end → (rs ≡ qs) × (tip ≡ end)
one_reading_from s files from rs qs tip end p q =
    from_once s files from rs qs tip end p.walk (end_stops (found_from s files from rs tip) p.ended) q.walk (end_stops (found_from s files from qs end) q.ended)

pub ends_or_is_damaged_from : (s : StoreSettings) (files : Files) (from : ℕ) (rs qs : List Record) (tip : Tip) (damage : Damage) → IsWalFrom s files from rs tip → IsDamagedFrom s files from qs damage → ⊥
ends_or_is_damaged_from s files from rs qs tip damage p q =
    let same = from_once s files from rs qs tip q.tip p.walk (end_stops (found_from s files from rs tip) p.ended) q.walk (bad_stops (found_from s files from qs q.tip) damage q.broken) in
    end_is_bad (found_from s files from qs q.tip) damage (found_same s files from rs qs tip q.tip End same.0 same.1 p.ended) q.broken

pub one_damage_from : (s : StoreSettings) (files : Files) (from : ℕ) (rs qs : List Record) (damage other : Damage) → IsDamagedFrom s files from rs damage → IsDamagedFrom s files from qs other → (rs ≡ qs) × (damage ≡ other)
one_damage_from s files from rs qs damage other p q =
    let same = from_once s files from rs qs p.tip q.tip p.walk (bad_stops (found_from s files from rs p.tip) damage p.broken) q.walk (bad_stops (found_from s files from qs q.tip) other q.broken) in
    (same.0, same_bad (found_from s files from qs q.tip) damage other (found_same s files from rs qs p.tip q.tip (Bad damage) same.0 same.1 p.broken) q.broken)
