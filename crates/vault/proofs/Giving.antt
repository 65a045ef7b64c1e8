-- Areas of a list, given back one after the other, the last first.
use Rattle.std.proofs.Common.{◌≡◌, List, [], ◌∷◌, ◌++◌, ◌∙◌, ap, append_assoc}
use Rattle.vault.specs.declared.area.Vault.{Ghosts}
use Rattle.vault.specs.declared.site.Site.{Ghosts as SiteGhosts}
use Rattle.vault.specs.declared.lending.Held.{Held}
use Rattle.vault.specs.Site.{one_back}
use Rattle.vault.specs.Lending.{all_back, AreOut, GivesBack}
use Rattle.vault.proofs.LentAreas.{out_next, gives_back}

-- of these areas the last were given back
pub record Giving {S V : Type 0} (s : SiteGhosts S V) (g : Ghosts V) (held left gone : List (Held V)) (start now : S) : Type 0 where
  pub all : held ≡ left ++ gone
  pub areas : s.areas now ≡ all_back g (s.areas start) gone
  pub take_faults : s.take_faults now ≡ s.take_faults start

-- the list with its last element among those that are gone
moved : {A : Type 0} (held left gone rest : List A) (one : A) → held ≡ left ++ gone → left ≡ rest ++ one ∷ [] → held ≡ rest ++ one ∷ gone
moved held left gone rest one all last = all ∙ ap (λ front. front ++ gone) last ∙ append_assoc rest (one ∷ []) gone

-- the next one is out
pub giving_out : {S V : Type 0} (s : SiteGhosts S V) (g : Ghosts V) (held left gone rest : List (Held V)) (one : Held V) (start now : S) → AreOut g (s.areas start) held → Giving s g held left gone start now → left ≡ rest ++ one ∷ [] → AreOut g (s.areas now) (one ∷ [])
giving_out s g held left gone rest one start now out is last =
    (out_next g (s.areas start) (s.areas now) rest one gone (rw (moved held left gone rest one is.all last) at out) is.areas, tt, tt)

pub giving_more : {S V : Type 0} (s : SiteGhosts S V) (g : Ghosts V) (held left gone rest : List (Held V)) (one : Held V) (start mid now : S) → Giving s g held left gone start mid → left ≡ rest ++ one ∷ [] → GivesBack s g (one ∷ []) mid now → Giving s g held rest (one ∷ gone) start now
giving_more s g held left gone rest one start mid now is last gives = record {
  all = moved held left gone rest one is.all last;
  areas = gives.areas ∙ ap (λ areas. one_back g areas one.name one.area) is.areas;
  take_faults = gives.take_faults ∙ is.take_faults;
}

pub giving_ends : {S V : Type 0} (s : SiteGhosts S V) (g : Ghosts V) (held left gone : List (Held V)) (start now : S) → AreOut g (s.areas start) held → Giving s g held left gone start now → left ≡ [] → GivesBack s g held start now
giving_ends s g held left gone start now out is none =
    let all : held ≡ gone = is.all ∙ ap (λ front. front ++ gone) none in
    gives_back s g held start now out (rw all is.areas) is.take_faults
