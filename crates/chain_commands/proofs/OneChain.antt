-- What is found of the members of a chain, or of a series, has one answer.
use Rattle.std.proofs.Common.{◌≡◌, ◌≢◌, ℕ, zero, suc, ◌<◌, ◌≤◌, ◌⊎◌, inl, inr, true, List, [], ◌∷◌, ◌++◌, length, map, take, Option, Some, IsSome, refl, sym, ap, subst, ◌∙◌, arith}
use Rattle.std.specs.Prelude.{slice_get}
use Rattle.lsn_core.specs.Files.{Files}
use Rattle.vault.specs.Lending.{Names}
use Rattle.vault.specs.Site.{AreaState, Areas}
use Rattle.chain_check.specs.Chain.{most_members}
use Rattle.chain_check.specs.Directory.{IsAsListed}
use Rattle.chain_check.specs.Laws.{DirectoriesAreOneMember, ListedIsNotRefused, RefusalsAreOne, ListedHaveForms}
use Rattle.chain_check.specs.Refusals.{HasRefusal, IsOfFiles}
use Rattle.chain_check.specs.declared.chain.ChainRefusal.{ChainRefusal}
use Rattle.chain_check.specs.declared.link.LinkFault.{LinkFault}
use Rattle.chain_check.specs.declared.link.LinkFault.TheVariants as link
use Rattle.chain_check.specs.declared.member.Member.{Member}
use Rattle.chain_check.specs.declared.refusal.Refusal.{Refusal}
use Rattle.chain_files.specs.Segments.{AllHaveForms}
use Rattle.chain_files.specs.Told.{all_told}
use Rattle.command_base.specs.Areas.{backup_name}
use Rattle.command_base.proofs.Told.{some_told, at_told}
use Rattle.chain_commands.specs.declared.chain.Joining.{Joining}
use Rattle.chain_commands.specs.declared.chain.Joining.TheVariants as join
use Rattle.chain_commands.specs.declared.chain.MembersFault.{MembersFault}
use Rattle.chain_commands.specs.declared.chain.MembersFault.TheVariants as members
use Rattle.chain_commands.specs.Chain.{backup_areas, files_told, AreMembersIn, IsAcceptedAs, IsRefusedAs, IsJoinedTo, MembersRefusedAs, too_many, members_status}
use Rattle.chain_commands.specs.Link.{link_status}
use Rattle.command_base.specs.Decided.{is_decided}
use Rattle.chain_commands.proofs.OneVerify.{of_directory}

-- two answers are the same where each is of one kind or of another, and none is of both kinds
pub either_way : {T A B C D : Type 0} (a b : T) → A ⊎ B → C ⊎ D → (A → C → a ≡ b) → (A → D → ⊥) → (C → B → ⊥) → (B → D → a ≡ b) → a ≡ b
either_way a b (inl x) (inl y) both one other on = both x y
either_way a b (inl x) (inr y) both one other on = absurd (one x y)
either_way a b (inr x) (inl y) both one other on = absurd (other y x)
either_way a b (inr x) (inr y) both one other on = on x y

some_is : {A : Type 0} (x y : A) → ◌≡◌ {A = Option A} (Some x) (Some y) → x ≡ y
some_is x y e = cc

-- ---- areas that tell

abbrev pub AreTold : List AreaState → List Files → Type 0
AreTold [] [] = Unit {0}
AreTold [] (f ∷ files) = ⊥
AreTold (area ∷ areas) [] = ⊥
AreTold (area ∷ areas) (f ∷ files) = (area.files ≡ Some f) × AreTold areas files

-- they are the members' directories
abbrev pub AreListed : Names → List Files → List Member → Type 0
AreListed [] [] [] = Unit {0}
AreListed [] [] (m ∷ ms) = ⊥
AreListed [] (f ∷ files) ms = ⊥
AreListed (name ∷ names) [] ms = ⊥
AreListed (name ∷ names) (f ∷ files) [] = ⊥
AreListed (name ∷ names) (f ∷ files) (m ∷ ms) = (m.name ≡ name) × IsAsListed f m × AreListed names files ms

pub each_told : (names : Names) (site : Areas) → ((name : List ℕ) → IsSome (site name).files) → (files : List Files) × AreTold (backup_areas names site) files
each_told [] site told = ([], tt)
each_told (name ∷ names) site told =
    let first = some_told (site (backup_name name)).files (told (backup_name name)) in
    let rest = each_told names site told in
    (first.0 ∷ rest.0, (first.1, rest.1))

told_cons : (o : Option Files) (os : List (Option Files)) (f : Files) (fs : List Files) → o ≡ Some f → all_told os ≡ Some fs → all_told (o ∷ os) ≡ Some (f ∷ fs)
told_cons o os f fs e h = rw (e, h) refl

pub all_told_is : (areas : List AreaState) (files : List Files) → AreTold areas files → files_told areas ≡ Some files
all_told_is [] [] told = refl
all_told_is [] (f ∷ files) told = absurd told
all_told_is (area ∷ areas) [] told = absurd told
all_told_is (area ∷ areas) (f ∷ files) told = told_cons area.files (map (λ (x : AreaState). x.files) areas) f files told.0 (all_told_is areas files told.1)

listed_by : (names : Names) (areas : List AreaState) (files : List Files) (ms : List Member) → AreTold areas files → AreMembersIn names areas ms → AreListed names files ms
listed_by [] [] [] [] told are = tt
listed_by [] [] [] (m ∷ ms) told are = absurd are
listed_by [] [] (f ∷ files) ms told are = absurd told
listed_by [] (area ∷ areas) files ms told are = absurd are
listed_by (name ∷ names) [] files ms told are = absurd are
listed_by (name ∷ names) (area ∷ areas) [] ms told are = absurd told
listed_by (name ∷ names) (area ∷ areas) (f ∷ files) [] told are = absurd are
listed_by (name ∷ names) (area ∷ areas) (f ∷ files) (m ∷ ms) told are =
    let here = at_told area.files f (λ fs. (m.name ≡ name) × IsAsListed fs m) told.0 are.0 in
    (here.0, here.1, listed_by names areas files ms told.1 are.1)

told_front : (areas : List AreaState) (files : List Files) (k : ℕ) → AreTold areas files → AreTold (take k areas) (take k files)
told_front areas files zero told = tt
told_front [] [] (suc k) told = tt
told_front [] (f ∷ files) (suc k) told = absurd told
told_front (area ∷ areas) [] (suc k) told = absurd told
told_front (area ∷ areas) (f ∷ files) (suc k) told = (told.0, told_front areas files k told.1)

told_at : (areas : List AreaState) (files : List Files) (k : ℕ) (area : AreaState) → AreTold areas files → slice_get areas k ≡ Some area → (f : Files) × (slice_get files k ≡ Some f) × (area.files ≡ Some f)
told_at [] files k area told e = absurd cc
told_at (a ∷ areas) [] k area told e = absurd told
told_at (a ∷ areas) (f ∷ files) zero area told e = (let same : a ≡ area = cc in (f, refl, subst (λ (x : AreaState). x.files ≡ Some f) same told.0))
told_at (a ∷ areas) (f ∷ files) (suc k) area told e = told_at areas files k area told.1 e

-- ---- their members

one_members : DirectoriesAreOneMember → (names : Names) (files : List Files) (a b : List Member) → AreListed names files a → AreListed names files b → a ≡ b
one_members one [] [] [] [] x y = refl
one_members one [] [] [] (n ∷ b) x y = absurd y
one_members one [] [] (m ∷ a) b x y = absurd x
one_members one [] (f ∷ files) a b x y = absurd x
one_members one (name ∷ names) [] a b x y = absurd x
one_members one (name ∷ names) (f ∷ files) [] b x y = absurd x
one_members one (name ∷ names) (f ∷ files) (m ∷ a) [] x y = absurd y
one_members one (name ∷ names) (f ∷ files) (m ∷ a) (n ∷ b) x y =
    ap (λ (z : Member). z ∷ a) (one f m n (x.0 ∙ sym y.0) x.1 y.1) ∙ ap (λ (zs : List Member). n ∷ zs) (one_members one names files a b x.2 y.2)

listed_at : (names : Names) (files : List Files) (ms : List Member) (k : ℕ) (f : Files) → AreListed names files ms → slice_get files k ≡ Some f → (m : Member) × IsAsListed f m
listed_at [] [] ms k f are e = absurd cc
listed_at [] (g ∷ files) ms k f are e = absurd are
listed_at (name ∷ names) [] ms k f are e = absurd are
listed_at (name ∷ names) (g ∷ files) [] k f are e = absurd are
listed_at (name ∷ names) (g ∷ files) (m ∷ ms) zero f are e = (let same : g ≡ f = cc in (m, subst (λ (x : Files). IsAsListed x m) same are.1))
listed_at (name ∷ names) (g ∷ files) (m ∷ ms) (suc k) f are e = listed_at names files ms k f are.2 e

get_taken : {A : Type 0} (xs : List A) (k n : ℕ) (x : A) → k < n → slice_get xs k ≡ Some x → slice_get (take n xs) k ≡ Some x
get_taken [] k n x lt e = absurd cc
get_taken (y ∷ xs) k zero x lt e = absurd (omega (arith, lt))
get_taken (y ∷ xs) zero (suc n) x lt e = e
get_taken (y ∷ xs) (suc k) (suc n) x lt e = get_taken xs k n x (omega (arith, lt)) e

pub have_forms : ListedHaveForms → (names : Names) (files : List Files) (ms : List Member) → AreListed names files ms → AllHaveForms files
have_forms law [] [] [] are = tt
have_forms law [] [] (m ∷ ms) are = absurd are
have_forms law [] (f ∷ files) ms are = absurd are
have_forms law (name ∷ names) [] ms are = absurd are
have_forms law (name ∷ names) (f ∷ files) [] are = absurd are
have_forms law (name ∷ names) (f ∷ files) (m ∷ ms) are = (law f m are.1, have_forms law names files ms are.2)

-- ---- the newest

last_same : {A : Type 0} (xs ys : List A) (x y : A) → xs ++ x ∷ [] ≡ ys ++ y ∷ [] → x ≡ y
last_same [] [] x y e = cc
last_same [] (z ∷ []) x y e = absurd cc
last_same [] (z ∷ (w ∷ ys)) x y e = absurd cc
last_same (z ∷ []) [] x y e = absurd cc
last_same (z ∷ (w ∷ xs)) [] x y e = absurd cc
last_same (z ∷ xs) (w ∷ ys) x y e = (let rest : xs ++ x ∷ [] ≡ ys ++ y ∷ [] = cc in last_same xs ys x y rest)

-- ---- places

less_or : (p q : ℕ) → (p < q) ⊎ ((p ≡ q) ⊎ (q < p))
less_or zero zero = inr (inl refl)
less_or zero (suc q) = inl (omega arith)
less_or (suc p) zero = inr (inr (omega arith))
less_or (suc p) (suc q) = elim (less_or p q) [
  | inl less ↦ inl (omega (arith, less))
  | inr rest ↦ inr (elim rest [
    | inl same ↦ inl (ap suc same)
    | inr more ↦ inr (omega (arith, more))
  ])
]

-- ---- what an answer says of the members, where those that are accepted are gone on with

-- accepted members aren't refused, and others are refused for one fault of one member
abbrev pub AcceptedAsIsNotRefused : Joining → Type 0
AcceptedAsIsNotRefused joining = (ms : List Member) (refusal : ChainRefusal) → IsAcceptedAs joining ms → IsRefusedAs joining ms refusal → ⊥

abbrev pub RefusalsAsAreOne : Joining → Type 0
RefusalsAsAreOne joining = (ms : List Member) (refusal other : ChainRefusal) → IsRefusedAs joining ms refusal → IsRefusedAs joining ms other → refusal ≡ other

-- what is decided has its cause
pub of_link : (why : LinkFault) → is_decided (link_status why) ≡ true → why ≢ link.NoMemory
of_link link.NoMemory own = absurd cc
of_link link.TooManyMembers own = λ e. absurd cc
of_link (link.ManifestVersion v) own = λ e. absurd cc
of_link (link.TimelineDiffers v) own = λ e. absurd cc
of_link link.FirstIncremental own = λ e. absurd cc
of_link link.LaterFull own = λ e. absurd cc
of_link (link.SystemDiffers have expected) own = λ e. absurd cc
of_link (link.WrongPrior have expected) own = λ e. absurd cc
of_link (link.Overlap start end) own = λ e. absurd cc
of_link (link.NoPriorFile path) own = λ e. absurd cc

module _ (joining : Joining) {T : Type 0} (by : MembersFault → T) (Then : Member → T → Type 0) (names : Names) (files : List Files) where
  pub record IsRefusedAt (a : T) : Type 0 where
    place : ℕ
    refusal : Refusal
    own : IsOfFiles refusal.fault
    before : List Member
    are : AreListed (take place names) (take place files) before
    at : Files
    there : slice_get files place ≡ Some at
    has : HasRefusal at refusal
    is : a ≡ by (members.Directory place refusal)

  pub record GoesOn (ms : List Member) (a : T) : Type 0 where
    accepted : IsAcceptedAs joining ms
    older : List Member
    newest : Member
    last : ms ≡ older ++ newest ∷ []
    then : Then newest a

  abbrev pub IsNone : List Member → T → Type 0
  IsNone ms a = (refusal : ChainRefusal) × (IsRefusedAs joining ms refusal × (a ≡ by (members.Link refusal)))

  pub record HasMembers (a : T) : Type 0 where
    members : List Member
    are : AreListed names files members
    on : IsNone members a ⊎ GoesOn members a

  abbrev pub Members : T → Type 0
  Members a = ((most_members < length names) × (a ≡ by (members.Link too_many))) ⊎ ((length names ≤ most_members) × (IsRefusedAt a ⊎ HasMembers a))

  module _ (one_member : DirectoriesAreOneMember) (not_refused : ListedIsNotRefused) (one_refusal : RefusalsAreOne) (not_none : AcceptedAsIsNotRefused joining) (one_none : RefusalsAsAreOne joining) where
    not_both : (a b : T) → IsRefusedAt a → HasMembers b → ⊥
    not_both a b x y =
        let listed = listed_at names files y.members x.place x.at y.are x.there in
        not_refused x.at listed.0 x.refusal.fault x.own listed.1 x.has.0

    not_later : (a b : T) (x : IsRefusedAt a) (y : IsRefusedAt b) → x.place < y.place → ⊥
    not_later a b x y less =
        let listed = listed_at (take y.place names) (take y.place files) y.before x.place x.at y.are (get_taken files x.place y.place x.at less x.there) in
        not_refused x.at listed.0 x.refusal.fault x.own listed.1 x.has.0

    same_refused : (a b : T) → IsRefusedAt a → IsRefusedAt b → a ≡ b
    same_refused a b x y = elim (less_or x.place y.place) [
      | inl less ↦ absurd (not_later a b x y less)
      | inr rest ↦ elim rest [
        | inl same ↦
            (let at_same : x.at ≡ y.at = some_is x.at y.at (sym x.there ∙ ap (slice_get files) same ∙ y.there) in
            let refusal_same : x.refusal ≡ y.refusal = one_refusal y.at x.refusal y.refusal x.own y.own (subst (λ (f : Files). HasRefusal f x.refusal) at_same x.has) y.has in
            x.is ∙ ap (λ (p : ℕ). by (members.Directory p x.refusal)) same ∙ ap (λ (r : Refusal). by (members.Directory y.place r)) refusal_same ∙ sym y.is)
        | inr more ↦ absurd (not_later b a y x more)
      ]
    ]

    same_gone : (ms : List Member) (a b : T) → ((m : Member) → Then m a → Then m b → a ≡ b) → GoesOn ms a → GoesOn ms b → a ≡ b
    same_gone ms a b one x y =
        let same : x.newest ≡ y.newest = last_same x.older y.older x.newest y.newest (sym x.last ∙ y.last) in
        one y.newest (subst (λ (m : Member). Then m a) same x.then) y.then

    same_members : (a b : T) (x : HasMembers a) (y : HasMembers b) → ((m : Member) → Then m a → Then m b → a ≡ b) → a ≡ b
    same_members a b x y one =
        let same : y.members ≡ x.members = one_members one_member names files y.members x.members y.are x.are in
        either_way a b x.on (subst (λ (ms : List Member). IsNone ms b ⊎ GoesOn ms b) same y.on)
        (λ u v. u.1.1 ∙ ap (λ (r : ChainRefusal). by (members.Link r)) (one_none x.members u.0 v.0 u.1.0 v.1.0) ∙ sym v.1.1)
        (λ u v. not_none x.members u.0 v.accepted u.1.0) (λ u v. not_none x.members u.0 v.accepted u.1.0)
        (same_gone x.members a b one)

    -- two answers are the same
    pub one_answer : (a b : T) → ((ms : List Member) → AreListed names files ms → (m : Member) → Then m a → Then m b → a ≡ b) → Members a → Members b → a ≡ b
    one_answer a b one x y =
        either_way a b x y (λ u v. u.1 ∙ sym v.1) (λ u v. omega (arith, u.0, v.0)) (λ u v. omega (arith, u.0, v.0))
        (λ u v. either_way a b u.1 v.1 (same_refused a b) (not_both a b) (λ s t. not_both b a s t) (λ s t. same_members a b s t (one s.members s.are)))

  module _ (areas new : List AreaState) (told : AreTold areas files) where
    pub refused_course : (fault : MembersFault) → MembersRefusedAs joining names areas new fault → is_decided (members_status fault) ≡ true → Members (by fault)
    refused_course (members.Directory place refusal) is own =
        let at = told_at areas files place is.was told is.there in
        inr (
          is.few,
          inl (record {
            place = place;
            refusal = refusal;
            own = of_directory refusal.fault own;
            before = is.before;
            are = listed_by (take place names) (take place areas) (take place files) is.before (told_front areas files place told) is.are;
            at = at.0;
            there = at.1;
            has = at_told is.was.files at.0 (λ m. HasRefusal m refusal) at.2 is.refused.refused;
            is = refl;
          }),
        )
    refused_course (members.Link refusal) is own = elim (is (of_link refusal.why own)) [
      | inl many ↦ inl (many.0, ap (λ (r : ChainRefusal). by (members.Link r)) many.1)
      | inr none ↦ inr (none.few, inr (record { members = none.members; are = listed_by names areas files none.members told none.are; on = inl (refusal, (none.refused, refl)) }))
    ]
    refused_course members.NoMemory is own = absurd cc

    pub chain_course : (a : T) (newest : Member) → IsJoinedTo joining names areas newest → length names ≤ most_members → Then newest a → Members a
    chain_course a newest chain few then = inr (
      few,
      inr (record {
        members = chain.older ++ newest ∷ [];
        are = listed_by names areas files (chain.older ++ newest ∷ []) told chain.are;
        on = inr (record { accepted = chain.accepted; older = chain.older; newest = newest; last = refl; then = then });
      }),
    )

members_count : (names : Names) (areas : List AreaState) (ms : List Member) → AreMembersIn names areas ms → length ms ≡ length names
members_count [] [] [] are = refl
members_count [] [] (m ∷ ms) are = absurd are
members_count [] (a ∷ areas) ms are = absurd are
members_count (n ∷ names) [] ms are = absurd are
members_count (n ∷ names) (a ∷ areas) [] are = absurd are
members_count (n ∷ names) (a ∷ areas) (m ∷ ms) are = ap suc (members_count names areas ms are.1)

-- accepted members are few
few_of : (joining : Joining) (ms : List Member) → IsAcceptedAs joining ms → length ms ≤ most_members
few_of join.Chain ms accepted = accepted.few
few_of join.Series ms accepted = accepted.few

pub chain_few : (joining : Joining) (names : Names) (areas : List AreaState) (newest : Member) → IsJoinedTo joining names areas newest → length names ≤ most_members
chain_few joining names areas newest chain =
    (let few = few_of joining (chain.older ++ newest ∷ []) chain.accepted in omega (arith, few, members_count names areas (chain.older ++ newest ∷ []) chain.are))
