-- Chains of directories that are sound up to one of them, whichever are found behind it.
use Rattle.std.proofs.Common.{◌≡◌, ℕ, ◌<◌, ◌≤◌, List, [], ◌∷◌, ◌++◌, append-nil, append_assoc, Option, Some, None, refl, sym, ap, subst, ◌∙◌, arith, ◌⊎◌, inl, inr}
use Rattle.std.specs.Prelude.{max}
use Rattle.std.specs.List.{AllByRecursion}
use Rattle.lsn_core.specs.Files.{Files}
use Rattle.lsn_core.specs.declared.lsn.Lsn.{Lsn}
use Rattle.history.specs.Entry.{Entry}
use Rattle.chain_check.specs.Chain.{IsChain, AreLinked}
use Rattle.chain_check.specs.Directory.{IsAsListed}
use Rattle.chain_check.specs.declared.member.Member.{Member}
use Rattle.chain_laws.specs.Chain.{IsSoundChain}
use Rattle.merge_laws.specs.Members.{last_member, AreAsListed}
use Rattle.backup_laws.proofs.Members.{some_is}
use Rattle.backup_laws.proofs.ReadPaths.{manifest_is_read}

-- ---- members in turn

-- a member behind one that starts at this place names it as the start of its prior
pub record IsNextTo (start : Lsn) (member : Member) : Type 0 where
  pub timeline : ℕ
  pub named : member.label.prior ≡ Some (start, timeline)

abbrev pub AreInTurn : Lsn → List Member → Type 0
AreInTurn start [] = Unit {0}
AreInTurn start (m ∷ members) = IsNextTo start m × AreInTurn m.label.start members

-- where the last one starts, and the latest end of all
abbrev pub last_places : Lsn → ℕ → List Member → Lsn × ℕ
last_places start end [] = (start, end)
last_places start end (m ∷ members) = last_places m.label.start (max end m.manifest.end) members

pub last_same : (a b : Lsn) (m n : ℕ) (members : List Member) → a ≡ b → m ≡ n → last_places a m members ≡ last_places b n members
last_same a b m n members starts ends = ap (λ (l : Lsn). last_places l m members) starts ∙ ap (λ (k : ℕ). last_places b k members) ends

-- each starts at its end or before it
abbrev AllRise : List Member → Type 0
AllRise members = AllByRecursion (λ m. m.label.start.0 ≤ m.manifest.end) members

pub listed_rise : (chain : List Files) (members : List Member) → AreAsListed chain members → AllRise members
listed_rise [] [] listed = tt
listed_rise [] (m ∷ members) listed = absurd listed
listed_rise (f ∷ chain) [] listed = absurd listed
listed_rise (f ∷ chain) (m ∷ members) listed =
    let up = (manifest_is_read f m.manifest listed.0.manifest).rises in
    let same = listed.0.label.1 in
    (omega (arith, up, same), listed_rise chain members listed.1)

-- others behind linked ones
pub turn_both : (first : Member) (later members : List Member) → AreLinked first later → AreInTurn (last_member first later).label.start members → AreInTurn first.label.start (later ++ members)
turn_both first [] members linked turn = turn
turn_both first (m ∷ later) members linked turn =
    (record { timeline = linked.0.timeline; named = linked.0.named }, turn_both m later members linked.1 turn)

-- of linked ones the last ends latest
pub last_both : (end : ℕ) (first : Member) (later members : List Member) → AreLinked first later → AllRise later → last_places first.label.start (max end first.manifest.end) (later ++ members) ≡ last_places (last_member first later).label.start (max end (last_member first later).manifest.end) members
last_both end first [] members linked rise = refl
last_both end first (m ∷ later) members linked rise =
    let behind = linked.0.behind in
    let up = rise.0 in
    last_same m.label.start m.label.start (max (max end first.manifest.end) m.manifest.end) (max end m.manifest.end) (later ++ members) refl (omega (arith, behind, up)) ∙ last_both end m later members linked.1 rise.1

pub last_is : (first : Member) (older : List Member) (newest : Member) → last_member first (older ++ (newest ∷ [])) ≡ newest
last_is first [] newest = refl
last_is first (m ∷ older) newest = last_is m older newest

pub listed_both : (chain files : List Files) (ms ns : List Member) → AreAsListed chain ms → AreAsListed files ns → AreAsListed (chain ++ files) (ms ++ ns)
listed_both [] files [] ns listed more = more
listed_both [] files (m ∷ ms) ns listed more = absurd listed
listed_both (f ∷ chain) files [] ns listed more = absurd listed
listed_both (f ∷ chain) files (m ∷ ms) ns listed more = (listed.0, listed_both chain files ms ns listed.1 more)

-- a member that names no prior isn't behind another
pub none_next : (start : Lsn) (m : Member) → m.label.prior ≡ None → IsNextTo start m → ⊥
none_next start m none next = absurd (let e : Some (start, next.timeline) ≡ None = sym next.named ∙ none in cc)

-- ---- sound so far

-- a chain is sound up to a member of these places, and behind it follow the members of these files
pub record IsAlong (relseg : ℕ) (history : List Entry) (chain files : List Files) (last : Lsn × ℕ) : Type 0 where
  pub start : Lsn
  pub end : ℕ
  pub sound : IsSoundChain relseg history chain start.0 end
  pub members : List Member
  pub listed : AreAsListed files members
  pub turn : AreInTurn start members
  pub ends : last_places start end members ≡ last

-- so a chain is, whatever files follow it, and whichever members all are found to be that come in turn,
-- the first a full backup
abbrev pub IsSoundSoFar : ℕ → List Entry → List Files → Type 0
IsSoundSoFar relseg history chain =
    (files : List Files) (m : Member) (members : List Member) → AreAsListed (chain ++ files) (m ∷ members)
    → m.label.prior ≡ None → AreInTurn m.label.start members
    → IsAlong relseg history chain files (last_places m.label.start m.manifest.end members)

-- another chain is sound as far, where it is sound wherever this one is
pub along_on : (relseg next : ℕ) (history later : List Entry) (one other files : List Files) (last to : Lsn × ℕ) → ((start end : ℕ) → IsSoundChain relseg history one start end → IsSoundChain next later other start end) → last ≡ to → IsAlong relseg history one files last → IsAlong next later other files to
along_on relseg next history later one other files last to step same a =
    record { start = a.start; end = a.end; sound = step a.start.0 a.end a.sound; members = a.members; listed = a.listed; turn = a.turn; ends = a.ends ∙ same }

pub sound_on : (relseg next : ℕ) (history later : List Entry) (chain : List Files) → ((start end : ℕ) → IsSoundChain relseg history chain start end → IsSoundChain next later chain start end) → IsSoundSoFar relseg history chain → IsSoundSoFar next later chain
sound_on relseg next history later chain step so_far files m members listed full turn =
    let last : Lsn × ℕ = last_places m.label.start m.manifest.end members in
    along_on relseg next history later chain chain files last last step refl (so_far files m members listed full turn)

-- where the first members are a chain that is accepted
all_front : (P : Member → Type 0) (ms ns : List Member) → AllByRecursion P (ms ++ ns) → AllByRecursion P ms
all_front P [] ns all = tt
all_front P (m ∷ ms) ns all = (all.0, all_front P ms ns all.1)

pub along_to : (relseg : ℕ) (history : List Entry) (chain files : List Files) (older : List Member) (newest : Member) (members : List Member) → IsSoundSoFar relseg history chain → AreAsListed (chain ++ files) ((older ++ (newest ∷ [])) ++ members) → IsChain (older ++ (newest ∷ []))
    → AreInTurn newest.label.start members → IsAlong relseg history chain files (last_places newest.label.start newest.manifest.end members)
along_to relseg history chain files [] newest members so_far listed is turn = so_far files newest members listed is.0.full turn
along_to relseg history chain files (m ∷ older) newest members so_far listed is turn =
    let later : List Member = older ++ (newest ∷ []) in
    let rise = listed_rise (chain ++ files) (m ∷ (later ++ members)) listed in
    let last : last_member m later ≡ newest = last_is m older newest in
    subst (IsAlong relseg history chain files)
    (last_same m.label.start m.label.start m.manifest.end (max 0 m.manifest.end) (later ++ members) refl (omega arith)
    ∙ (last_both 0 m later members is.1 (all_front (λ n. n.label.start.0 ≤ n.manifest.end) later members rise.1)
    ∙ (ap (λ (n : Member). last_places n.label.start (max 0 n.manifest.end) members) last
    ∙ last_same newest.label.start newest.label.start (max 0 newest.manifest.end) newest.manifest.end members refl (omega arith))))
    (so_far files m (later ++ members) listed is.0.full (turn_both m later members is.1 (subst (λ (n : Member). AreInTurn n.label.start members) (sym last) turn)))

-- ---- directories of one run behind earlier ones

-- a directory by its member: a sound chain of one, whose member names no prior; or one that names a
-- place, at its own start or before it, and extends each sound chain from there
abbrev pub IsSoundFirst : ℕ → List Entry → Files → Member → Type 0
IsSoundFirst relseg h f m = (m.label.prior ≡ None) × IsSoundChain relseg h (f ∷ []) m.label.start.0 m.manifest.end

pub record ExtendsSound (relseg : ℕ) (h : List Entry) (f : Files) (m : Member) : Type 0 where
  pub prior : Lsn
  pub named : m.label.prior ≡ Some (prior, 1)
  pub early : prior.0 ≤ m.label.start.0
  pub extends : (chain : List Files) (to : ℕ) → IsSoundChain relseg h chain prior.0 to → IsSoundChain relseg h (chain ++ (f ∷ [])) m.label.start.0 (max to m.manifest.end)

-- and it starts at a place or past it
pub record IsSoundOwn (relseg : ℕ) (h : List Entry) (bound : ℕ) (f : Files) (m : Member) : Type 0 where
  pub past : bound ≤ m.label.start.0
  pub kind : IsSoundFirst relseg h f m ⊎ ExtendsSound relseg h f m

-- it starts below a place, and its prior at its own start or before it
pub record IsPlaced (bound : ℕ) (m : Member) : Type 0 where
  pub before : m.label.start.0 < bound
  pub early : (prior : Lsn) (timeline : ℕ) → m.label.prior ≡ Some (prior, timeline) → prior.0 ≤ m.label.start.0

pub same_prior : (a b : Lsn) (n m : ℕ) → ◌≡◌ {A = Option (Lsn × ℕ)} (Some (a, n)) (Some (b, m)) → a ≡ b
same_prior a b n m e = ap (λ (x : Lsn × ℕ). x.0) (some_is (a, n) (b, m) e)

abbrev Both : (Files → Type 0) → (Files → Type 0) → List Files → Type 0
Both Own Older fs = AllByRecursion (λ f. Own f ⊎ Older f) fs

pub all_both : (P : Files → Type 0) (fs gs : List Files) → AllByRecursion P fs → AllByRecursion P gs → AllByRecursion P (fs ++ gs)
all_both P [] gs all more = more
all_both P (f ∷ fs) gs all more = (all.0, all_both P fs gs all.1 more)

-- the older ones are placed below a place; of them each chain is sound so far
module _ (relseg : ℕ) (h : List Entry) (bound : ℕ) (Own Older : Files → Type 0) (own : (f : Files) (m : Member) → Own f → IsAsListed f m → IsSoundOwn relseg h bound f m) (placed : (f : Files) (m : Member) → Older f → IsAsListed f m → IsPlaced bound m)
    (sound : (f : Files) (fs : List Files) → AllByRecursion Older (f ∷ fs) → IsSoundSoFar relseg h (f ∷ fs)) where
  -- an own one behind others
  own_next : (f : Files) (m : Member) (chain : List Files) (from : Lsn) (to : ℕ) → Own f → IsAsListed f m → IsSoundChain relseg h chain from.0 to → IsNextTo from m → IsSoundChain relseg h (chain ++ (f ∷ [])) m.label.start.0 (max to m.manifest.end)
  own_next f m chain from to is listed so next = by (own f m is listed).kind
    where
      by : IsSoundFirst relseg h f m ⊎ ExtendsSound relseg h f m → IsSoundChain relseg h (chain ++ (f ∷ [])) m.label.start.0 (max to m.manifest.end)
      by (inl first) = absurd (none_next from m first.0 next)
      by (inr more) =
          let named : more.prior.0 ≡ from.0 = ap (λ (l : Lsn). l.0) (same_prior more.prior from 1 next.timeline (sym more.named ∙ next.named)) in
          more.extends chain to (subst (λ (n : ℕ). IsSoundChain relseg h chain n to) (sym named) so)

  -- so many behind others, of which the last starts at that place or past it
  own_along : (fs chain files : List Files) (from : Lsn) (to : ℕ) (members : List Member) (last : Lsn × ℕ) → Both Own Older fs → bound ≤ from.0 → IsSoundChain relseg h chain from.0 to → AreAsListed (fs ++ files) members → AreInTurn from members → last_places from to members ≡ last → IsAlong relseg h (chain ++ fs) files last
  own_along [] chain files from to members last all past so listed turn ends =
      record { start = from; end = to; sound = subst (λ (c : List Files). IsSoundChain relseg h c from.0 to) (sym (append-nil chain)) so; members = members; listed = listed; turn = turn; ends = ends }
  own_along (f ∷ fs) chain files from to [] last all past so listed turn ends = absurd listed
  own_along (f ∷ fs) chain files from to (m ∷ members) last all past so listed turn ends = elim all.0 [
    | inl is ↦
        subst (λ (c : List Files). IsAlong relseg h c files last) (append_assoc chain (f ∷ []) fs)
        (own_along fs (chain ++ (f ∷ [])) files m.label.start (max to m.manifest.end) members last all.1 (own f m is listed.0).past (own_next f m chain from to is listed.0 so turn.0) listed.1 turn.1 ends)
    | inr older ↦
        let p = placed f m older listed.0 in
        absurd (omega (arith, p.before, p.early from turn.0.timeline turn.0.named, past))
  ]

  -- the first own one behind older ones
  own_on : (f : Files) (fs chain files : List Files) (from : Lsn) (to : ℕ) (members : List Member) (last : Lsn × ℕ) → Own f → Both Own Older fs → IsSoundChain relseg h chain from.0 to → AreAsListed (f ∷ (fs ++ files)) members → AreInTurn from members → last_places from to members ≡ last → IsAlong relseg h (chain ++ (f ∷ fs)) files last
  own_on f fs chain files from to [] last is all so listed turn ends = absurd listed
  own_on f fs chain files from to (m ∷ members) last is all so listed turn ends =
      subst (λ (c : List Files). IsAlong relseg h c files last) (append_assoc chain (f ∷ []) fs)
      (own_along fs (chain ++ (f ∷ [])) files m.label.start (max to m.manifest.end) members last all (own f m is listed.0).past (own_next f m chain from to is listed.0 so turn.0) listed.1 turn.1 ends)

  behind_older : (f : Files) (front fs : List Files) → AllByRecursion Older (f ∷ front) → Both Own Older fs → IsSoundSoFar relseg h ((f ∷ front) ++ fs)
  behind_older f front [] older all = subst (IsSoundSoFar relseg h) (sym (append-nil (f ∷ front))) (sound f front older)
  behind_older f front (g ∷ fs) older all = elim all.0 [
    | inl is ↦ λ files m members listed full turn.
        let chain : List Files = f ∷ front in
        let a = sound f front older ((g ∷ fs) ++ files) m members (subst (λ (c : List Files). AreAsListed c (m ∷ members)) (append_assoc chain (g ∷ fs) files) listed) full turn in
        own_on g fs chain files a.start a.end a.members (last_places m.label.start m.manifest.end members) is all.1 a.sound a.listed a.turn a.ends
    | inr one ↦ subst (IsSoundSoFar relseg h) (append_assoc (f ∷ front) (g ∷ []) fs) (behind_older f (front ++ (g ∷ [])) fs (all_both Older (f ∷ front) (g ∷ []) older (one, tt)) all.1)
  ]

  -- each chain of both is sound so far
  pub both_so_far : (f : Files) (fs : List Files) → Both Own Older (f ∷ fs) → IsSoundSoFar relseg h (f ∷ fs)
  both_so_far f fs all = elim all.0 [
    | inl is ↦ λ files m members listed full turn. first_own m (own f m is listed.0) files members listed full turn
    | inr older ↦ behind_older f [] fs (older, tt) all.1
  ]
    where
      first_own : (m : Member) → IsSoundOwn relseg h bound f m → (files : List Files) (members : List Member) → AreAsListed ((f ∷ fs) ++ files) (m ∷ members) → m.label.prior ≡ None → AreInTurn m.label.start members → IsAlong relseg h (f ∷ fs) files (last_places m.label.start m.manifest.end members)
      first_own m o files members listed full turn = elim o.kind [
        | inl first ↦ own_along fs (f ∷ []) files m.label.start m.manifest.end members (last_places m.label.start m.manifest.end members) all.1 o.past first.1 listed.1 turn refl
        | inr more ↦ absurd (let e : Some (more.prior, 1) ≡ None = sym more.named ∙ full in cc)
      ]
