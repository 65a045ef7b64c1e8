-- A WAL is read from a beginning on in one way.
use Rattle.std.proofs.Common.{◌≡◌, ◌≤◌, Bool, false, List, [], ◌∷◌, Option, Some, None, IsSome, IfSome, refl, sym, ap, subst, ◌∙◌, arith}
use Rattle.lsn_core.specs.Files.{Files}
use Rattle.lsn_core.specs.Segment.{StoreSettings}
use Rattle.lsn_core.specs.Tip.{Tip}
use Rattle.lsn_core.specs.declared.lsn.Lsn.{Lsn}
use Rattle.wal_record.specs.declared.record.Record.{Record}
use Rattle.wal_record.specs.Tips.{tip_after}
use Rattle.wal_archive.specs.Rules.{Found, End, Bad}
use Rattle.wal_archive.specs.declared.fault.Damage.{Damage}
use Rattle.recovery.specs.declared.reading.Beginning.{Beginning}
use Rattle.recovery.specs.Onward.{IsReadFrom, IsReadFromTo, HasDamageFrom, EndsEarlyFrom, is_at_place, begin_tip, is_set_behind, found_on, ReadsOn, replayed_to}
use Rattle.recovery.specs.Causes.{IsShortFrom}
use Rattle.recovery.proofs.OneWal.{Stops, same_lsn}
use Rattle.backup_restore.proofs.Completed.{gives_or_end, same_gives, set_on, found_none}

-- ---- one reading

both_more : (r q : Record) (rs qs : List Record) (last end : Tip) → r ≡ q → (rs ≡ qs) × (last ≡ end) → (◌≡◌ {A = List Record} (r ∷ rs) (q ∷ qs)) × (last ≡ end)
both_more r q rs qs last end same more = (ap (λ (x : Record). x ∷ rs) same ∙ ap (λ (l : List Record). q ∷ l) more.0, more.1)

read_once : (s : StoreSettings) (files : Files) (upto : Option Lsn) (set : Bool) (tip last end : Tip) (rs qs : List Record) (f g : Found) → Stops f → Stops g → ReadsOn s files upto set tip rs last → found_on s files upto (is_set_behind set rs) last ≡ f
    → ReadsOn s files upto set tip qs end → found_on s files upto (is_set_behind set qs) end ≡ g → (rs ≡ qs) × (last ≡ end)
read_once s files upto set tip last end [] [] f g stop halt reads comes walk ends = (refl, reads ∙ sym walk)
read_once s files upto set tip last end [] (q ∷ qs) f g stop halt reads comes walk ends = absurd (stop q (sym (found_none s files upto set tip last f reads comes) ∙ walk.0))
read_once s files upto set tip last end (r ∷ rs) [] f g stop halt reads comes walk ends = absurd (halt r (sym (found_none s files upto set tip end g walk ends) ∙ reads.0))
read_once s files upto set tip last end (r ∷ rs) (q ∷ qs) f g stop halt reads comes walk ends =
    let same : r ≡ q = same_gives (found_on s files upto set tip) r q reads.0 walk.0 in
    let comes_on : found_on s files upto (is_set_behind false rs) last ≡ f = subst (λ b. found_on s files upto b last ≡ f) (set_on set r rs) comes in
    let ends_on : found_on s files upto (is_set_behind false qs) end ≡ g = subst (λ b. found_on s files upto b end ≡ g) (set_on set q qs) ends in
    let walk_on : ReadsOn s files upto false (tip_after tip r) qs end = subst (λ (x : Record). ReadsOn s files upto false (tip_after tip x) qs end) (sym same) walk.1 in
    both_more r q rs qs last end same (read_once s files upto false (tip_after tip r) last end rs qs f g stop halt reads.1 comes_on walk_on ends_on)

-- two readings up to the same target that came to no entry more are one, and came to the same
pub record IsOneReading (rs qs : List Record) (last end : Tip) (f g : Found) : Type 0 where
  pub entries : rs ≡ qs
  pub tips : last ≡ end
  pub found : f ≡ g

one_reading : (s : StoreSettings) (files : Files) (begin : Beginning) (upto : Option Lsn) (rs qs : List Record) (last end : Tip) (f g : Found) → Stops f → Stops g → IsReadFrom s files begin upto rs last f → IsReadFrom s files begin upto qs end g → IsOneReading rs qs last end f g
one_reading s files begin upto rs qs last end f g stop halt a b =
    let set : Bool = is_at_place begin in
    let one = read_once s files upto set (begin_tip s.segment begin) last end rs qs f g stop halt a.reads a.behind b.reads b.behind in
    record {
      entries = one.0;
      tips = one.1;
      found =
          sym a.behind
          ∙ (ap (λ (l : List Record). found_on s files upto (is_set_behind set l) last) one.0
          ∙ (ap (λ (t : Tip). found_on s files upto (is_set_behind set qs) t) one.1 ∙ b.behind));
    }

at_end : Stops End
at_end r gives = gives_or_end End r gives refl

at_bad : (damage : Damage) → Stops (Bad damage)
at_bad damage r gives = absurd cc

pub both_end : (s : StoreSettings) (files : Files) (begin : Beginning) (upto : Option Lsn) (rs qs : List Record) (last end : Tip) → IsReadFrom s files begin upto rs last End → IsReadFrom s files begin upto qs end End → IsOneReading rs qs last end End End
both_end s files begin upto rs qs last end a b = one_reading s files begin upto rs qs last end End End at_end at_end a b

-- the same of files that are told
pub one_tip : (s : StoreSettings) (told also : Option Files) (begin : Beginning) (upto : Option Lsn) (rs qs : List Record) (last end : Tip) → also ≡ told → IsSome told → IsReadFromTo s told begin upto rs last → IsReadFromTo s also begin upto qs end → last ≡ end
one_tip s (Some files) also begin upto rs qs last end same some p q =
    (both_end s files begin upto rs qs last end p.archive (subst (λ (o : Option Files). IfSome o (λ m. IsReadFrom s m begin upto qs end End)) same q.archive)).tips
one_tip s None also begin upto rs qs last end same some p q = absurd (cc)

-- ---- what can't be read

end_or_bad : (damage : Damage) → End ≡ Bad damage → ⊥
end_or_bad damage e = absurd cc

same_bad : (damage other : Damage) → Bad damage ≡ Bad other → damage ≡ other
same_bad damage other e = cc

pub ends_or_damaged : (s : StoreSettings) (files : Files) (begin : Beginning) (upto : Option Lsn) (rs : List Record) (last : Tip) (damage : Damage) → IsReadFrom s files begin upto rs last End → HasDamageFrom s files begin upto damage → ⊥
ends_or_damaged s files begin upto rs last damage read damaged =
    end_or_bad damage (one_reading s files begin upto rs damaged.entries last damaged.last End (Bad damage) at_end (at_bad damage) read damaged.read).found

pub one_damage : (s : StoreSettings) (files : Files) (begin : Beginning) (upto : Option Lsn) (damage other : Damage) → HasDamageFrom s files begin upto damage → HasDamageFrom s files begin upto other → damage ≡ other
one_damage s files begin upto damage other a b =
    same_bad damage other (one_reading s files begin upto a.entries b.entries a.last b.last (Bad damage) (Bad other) (at_bad damage) (at_bad other) a.read b.read).found

-- an archive that ends before a target isn't read up to it
pub short_or_reached : (s : StoreSettings) (files : Files) (begin : Beginning) (upto : Option Lsn) (end target : Lsn) (rs : List Record) (last : Tip) → IsShortFrom s files begin upto end target → IsReadFrom s files begin upto rs last End → replayed_to upto last ≤ last.end → ⊥
short_or_reached s files begin upto end target rs last short read reached =
    let there : IsReadFrom s files begin (Some target) rs last End = subst (λ (u : Option Lsn). IsReadFrom s files begin u rs last End) short.0 read in
    let at : target.0 ≤ last.end = subst (λ (u : Option Lsn). replayed_to u last ≤ last.end) short.0 reached in
    let one = both_end s files begin (Some target) short.1.entries rs short.1.last last short.1.read there in
    omega (arith, short.1.short, short.1.end_is, ap (λ (t : Tip). t.end) one.tips, at)

pub short_or_damaged : (s : StoreSettings) (files : Files) (begin : Beginning) (upto : Option Lsn) (end target : Lsn) (damage : Damage) → IsShortFrom s files begin upto end target → HasDamageFrom s files begin upto damage → ⊥
short_or_damaged s files begin upto end target damage short damaged =
    ends_or_damaged s files begin (Some target) short.1.entries short.1.last damage short.1.read (subst (λ (u : Option Lsn). HasDamageFrom s files begin u damage) short.0 damaged)

same_target : (a b : Lsn) (upto : Option Lsn) → upto ≡ Some a → upto ≡ Some b → a ≡ b
same_target a b upto p q = cc

one_early : (s : StoreSettings) (files : Files) (begin : Beginning) (end other target : Lsn) → EndsEarlyFrom s files begin end target → EndsEarlyFrom s files begin other target → end ≡ other
one_early s files begin end other target a b =
    let one = both_end s files begin (Some target) a.entries b.entries a.last b.last a.read b.read in
    same_lsn end other (a.end_is ∙ (ap (λ (t : Tip). t.end) one.tips ∙ sym b.end_is))

pub one_short : (s : StoreSettings) (files : Files) (begin : Beginning) (upto : Option Lsn) (end other target aim : Lsn) → IsShortFrom s files begin upto end target → IsShortFrom s files begin upto other aim → (end ≡ other) × (target ≡ aim)
one_short s files begin upto end other target aim a b =
    let same : target ≡ aim = same_target target aim upto a.0 b.0 in
    (one_early s files begin end other aim (subst (λ (t : Lsn). EndsEarlyFrom s files begin end t) same a.1) b.1, same)
