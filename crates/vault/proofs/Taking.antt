-- Areas of a list, taken one after the other.
use Rattle.std.proofs.Common.{◌≡◌, ℕ, ◌≤◌, true, List, [], ◌∷◌, ◌++◌, sym, ◌∙◌, inl, inr, arith, append-nil, append_assoc}
use Rattle.vault.specs.declared.area.Vault.{Ghosts}
use Rattle.vault.specs.declared.site.Site.{Ghosts as SiteGhosts}
use Rattle.vault.specs.declared.lending.Held.{Held}
use Rattle.vault.specs.declared.lending.TakeFault.{TakeFault}
use Rattle.vault.specs.Lending.{Names, IsNoneOf, AreDistinct, AreHome, names_of, all_away, AreAreasOf, AreOut, AreTaken, NoneTaken, GivesBack}
use Rattle.vault.proofs.SetAreas.{same_home}
use Rattle.vault.proofs.LentAreas.{is_among, distinct_front, distinct_next, away_none, away_push, rest_home, areas_push, areas_named, taken_are_out, back_again}

-- of these names the first were taken
pub record Taking {S V : Type 0} (s : SiteGhosts S V) (g : Ghosts V) (names done rest : Names) (start now : S) (held : List (Held V)) : Type 0 where
  pub all : done ++ rest ≡ names
  pub areas : AreAreasOf g (s.areas start) done held
  pub away : s.areas now ≡ all_away (s.areas start) done
  pub later : s.take_faults start ≤ s.take_faults now

pub taking_out : {S V : Type 0} (s : SiteGhosts S V) (g : Ghosts V) (names done rest : Names) (start now : S) (held : List (Held V)) → AreDistinct names → Taking s g names done rest start now held → AreOut g (s.areas now) held
taking_out s g names done rest start now held distinct is =
    taken_are_out g (s.areas start) (s.areas now) done held (distinct_front done rest (rw is.all distinct)) is.areas is.away

-- the next name is none of those that were taken
next_none : {S V : Type 0} (s : SiteGhosts S V) (g : Ghosts V) (names done : Names) (name : List ℕ) (rest : Names) (start now : S) (held : List (Held V)) → AreDistinct names → Taking s g names done (name ∷ rest) start now held → IsNoneOf name done
next_none s g names done name rest start now held distinct is = distinct_next done name rest (rw is.all distinct)

pub next_home : {S V : Type 0} (s : SiteGhosts S V) (g : Ghosts V) (names done : Names) (name : List ℕ) (rest : Names) (start now : S) (held : List (Held V)) → AreDistinct names → AreHome names (s.areas start) → Taking s g names done (name ∷ rest) start now held → (s.areas now name).home ≡ true
next_home s g names done name rest start now held distinct home is =
    rw (is.away, away_none (s.areas start) done name (next_none s g names done name rest start now held distinct is)) (home name (rw (← is.all) (is_among done name rest)))

pub taking_more : {S V : Type 0} (s : SiteGhosts S V) (g : Ghosts V) (names done : Names) (name : List ℕ) (rest : Names) (start mid now : S) (held more : List (Held V)) (one : Held V) → AreDistinct names → Taking s g names done (name ∷ rest) start mid held → more ≡ held ++ one ∷ [] → AreTaken s g (name ∷ []) mid now (one ∷ []) → Taking s g names (done ++ name ∷ []) rest start now more
taking_more s g names done name rest start mid now held more one distinct is put took =
    let none = next_none s g names done name rest start mid held distinct is in
    let same : s.areas mid name ≡ s.areas start name = rw is.away (away_none (s.areas start) done name none) in
    record {
      all = append_assoc done (name ∷ []) rest ∙ is.all;
      areas = rw put (areas_push g (s.areas start) done held name one is.areas took.areas.0 (sym same ∙ took.areas.1));
      away = away_push (s.areas start) (s.areas mid) (s.areas now) done name none is.away took.away;
      later = omega (arith, is.later, took.later);
    }

pub taking_fails : {S V : Type 0} (s : SiteGhosts S V) (g : Ghosts V) (names done : Names) (name : List ℕ) (rest : Names) (start mid now end : S) (held : List (Held V)) (fault : TakeFault) → Taking s g names done (name ∷ rest) start mid held → NoneTaken s (name ∷ []) mid now fault → GivesBack s g held now end → NoneTaken s names start end fault
taking_fails s g names done name rest start mid now end held fault is failed gives =
    let same = back_again g (s.areas start) (s.areas now) (s.areas end) done held is.areas (failed.areas ∙ is.away) gives.areas in
    record {
      areas = same;
      home = same_home (s.areas start) (s.areas end) same;
      cause = record {
        later = omega (arith, is.later, failed.cause.later, gives.take_faults);
        among = elim failed.cause.among [
          | inl named ↦ rw (named, ← is.all) (is_among done name rest)
          | inr never ↦ absurd never
        ];
        failed = λ e. let rose = failed.cause.failed e in omega (arith, rose, is.later, gives.take_faults);
      };
    }

pub taking_ends : {S V : Type 0} (s : SiteGhosts S V) (g : Ghosts V) (names done : Names) (start now : S) (held : List (Held V)) → AreDistinct names → Taking s g names done [] start now held → AreTaken s g names start now held
taking_ends s g names done start now held distinct is =
    let all : done ≡ names = sym (append-nil done) ∙ is.all in
    let named : names_of held ≡ names = areas_named g (s.areas start) done held is.areas ∙ all in
    record {
      areas = rw (← all) is.areas;
      named = named;
      away = rw (← all) is.away;
      out = taking_out s g names done [] start now held distinct is;
      rest = rw named (rest_home (s.areas start) (s.areas now) names (rw (← all) is.away));
      later = is.later;
    }
