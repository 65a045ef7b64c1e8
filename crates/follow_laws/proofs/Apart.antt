-- A stream is followed or refused, and in one way.
use Rattle.std.proofs.Common.{◌≡◌, List, [], ◌∷◌, map, Option, Some, None, refl, sym, ap, subst, ◌∙◌}
use Rattle.std.specs.FinMap.{empty}
use Rattle.lsn_core.proofs.byte_words.Fields.{bind_some}
use Rattle.lsn_core.specs.Files.{Files}
use Rattle.lsn_core.specs.Segment.{StoreSettings}
use Rattle.lsn_core.specs.Store.{Store}
use Rattle.lsn_core.specs.Tip.{Tip}
use Rattle.lsn_core.specs.declared.lsn.Lsn.{Lsn}
use Rattle.wal_record.specs.declared.record.Record.{Record}
use Rattle.wal_record.specs.Tips.{first_tip, tip_after}
use Rattle.wal_archive.specs.Rules.{Found, End, Gives, Bad}
use Rattle.wal_archive.specs.declared.fault.Damage.{Damage}
use Rattle.wal_reader.specs.Wal.{stands_behind, ReadsOn}
use Rattle.history.specs.Apply.{apply, apply_all}
use Rattle.history.specs.Whole.{entry_of}
use Rattle.stream_laws.specs.Streams.{stream_files}
use Rattle.follow_laws.specs.Followed.{stream_settings, behind_in, AwaitsMore, Unfollowed, Damaged, BadDelta, RefusesFound, FollowedOrRefused, RefusedInOneWay}

-- behind entries that make a store no entry stands that can be applied
abbrev Halts : Store → Found → Type 0
Halts m f = (r : Record) → f ≡ Gives r → apply m (entry_of r) ≡ None

same_gives : (f : Found) (r q : Record) → f ≡ Gives r → f ≡ Gives q → r ≡ q
same_gives f r q a b = (let c : ◌≡◌ {A = Found} (Gives r) (Gives q) = sym a ∙ b in cc)

same_some : (a b : Store) → ◌≡◌ {A = Option Store} (Some a) (Some b) → a ≡ b
same_some a b e = cc

no_some : (a : Store) → ◌≡◌ {A = Option Store} None (Some a) → ⊥
no_some a e = cc

-- the first of entries that make a store can be applied
first_made : (m b : Store) (r : Record) (rs : List Record) → apply_all m (map entry_of (r ∷ rs)) ≡ Some b → (n : Store) × (apply m (entry_of r) ≡ Some n) × (apply_all n (map entry_of rs) ≡ Some b)
first_made m b r rs made = bind_some (apply m (entry_of r)) (λ s. apply_all s (map entry_of rs)) b made

-- so it isn't one behind which a walk stops
never_halts : (m b : Store) (f : Found) (r : Record) (rs : List Record) → Halts m f → f ≡ Gives r → apply_all m (map entry_of (r ∷ rs)) ≡ Some b → ⊥
never_halts m b f r rs halts gives made =
    let first = first_made m b r rs made in
    no_some first.0 (sym (halts r gives) ∙ first.1)

module _ (s : StoreSettings) (files : Files) where
  pub one_walk : (m a b : Store) (tip last end : Tip) (rs qs : List Record) → ReadsOn s files tip rs last → apply_all m (map entry_of rs) ≡ Some a → Halts a (stands_behind s files last) → ReadsOn s files tip qs end → apply_all m (map entry_of qs) ≡ Some b → Halts b (stands_behind s files end) → (last ≡ end) × (a ≡ b)
  one_walk m a b tip last end [] [] p made halts q more stops = (p ∙ sym q, same_some a b (sym made ∙ more))
  one_walk m a b tip last end [] (q ∷ qs) p made halts walk more stops =
      absurd (never_halts m b (stands_behind s files tip) q qs
      (λ r gives. subst (λ (x : Store). apply x (entry_of r) ≡ None) (sym (same_some m a made)) (halts r (subst (λ (t : Tip). stands_behind s files t ≡ Gives r) (sym p) gives)))
      walk.0 more)
  one_walk m a b tip last end (r ∷ rs) [] walk made halts q more stops =
      absurd (never_halts m a (stands_behind s files tip) r rs
      (λ x gives. subst (λ (y : Store). apply y (entry_of x) ≡ None) (sym (same_some m b more)) (stops x (subst (λ (t : Tip). stands_behind s files t ≡ Gives x) (sym q) gives)))
      walk.0 made)
  one_walk m a b tip last end (r ∷ rs) (q ∷ qs) p made halts walk more stops =
      let same : q ≡ r = same_gives (stands_behind s files tip) q r walk.0 p.0 in
      let one = first_made m a r rs made in
      let two = first_made m b q qs more in
      let next : two.0 ≡ one.0 = same_some two.0 one.0 (sym two.1 ∙ (ap (λ (x : Record). apply m (entry_of x)) same ∙ one.1)) in
      one_walk one.0 a b (tip_after tip r) last end rs qs p.1 one.2 halts
      (subst (λ (x : Record). ReadsOn s files (tip_after tip x) qs end) same walk.1)
      (subst (λ (x : Store). apply_all x (map entry_of qs) ≡ Some b) next two.2) stops

waits_halt : (m : Store) (f : Found) → AwaitsMore f → Halts m f
waits_halt m f waits r gives = absurd (subst AwaitsMore gives waits)

refusal_halts : (m : Store) (f : Found) (why : Unfollowed) → RefusesFound m f why → Halts m f
refusal_halts m End why is r gives = absurd is
refusal_halts m (Bad d) why is r gives = (let never : ◌≡◌ {A = Found} (Bad d) (Gives r) = gives in cc)
refusal_halts m (Gives q) (Damaged d) is r gives = absurd is
refusal_halts m (Gives q) (BadDelta at) is r gives =
    let same : q ≡ r = same_gives (Gives q) q r refl gives in
    subst (λ (x : Record). apply m (entry_of x) ≡ None) same is.1

waits_or_refuses : (m : Store) (f : Found) (why : Unfollowed) → AwaitsMore f → RefusesFound m f why → ⊥
waits_or_refuses m End why waits is = is
waits_or_refuses m (Gives r) why waits is = waits
waits_or_refuses m (Bad d) (Damaged e) waits is = is.1 waits
waits_or_refuses m (Bad d) (BadDelta at) waits is = is

damaged_same : (d e x : Damage) → d ≡ x → e ≡ x → ◌≡◌ {A = Unfollowed} (Damaged d) (Damaged e)
damaged_same d e x a b = ap (λ (y : Damage). Damaged y) (a ∙ sym b)

delta_same : (a b x : Lsn) → a ≡ x → b ≡ x → ◌≡◌ {A = Unfollowed} (BadDelta a) (BadDelta b)
delta_same a b x p q = ap (λ (y : Lsn). BadDelta y) (p ∙ sym q)

refused_once : (m : Store) (f : Found) (why other : Unfollowed) → RefusesFound m f why → RefusesFound m f other → why ≡ other
refused_once m End why other is also = absurd is
refused_once m (Bad x) (Damaged d) (Damaged e) is also = damaged_same d e x is.0 also.0
refused_once m (Bad x) (Damaged d) (BadDelta at) is also = absurd also
refused_once m (Bad x) (BadDelta at) other is also = absurd is
refused_once m (Gives r) (Damaged d) other is also = absurd is
refused_once m (Gives r) (BadDelta a) (Damaged d) is also = absurd also
refused_once m (Gives r) (BadDelta a) (BadDelta b) is also = delta_same a b r.start is.0 also.0

pub followed_or_refused : FollowedOrRefused
followed_or_refused mib relseg bytes rs tip store why is refused =
    let s = stream_settings mib relseg bytes in
    let files = stream_files mib bytes in
    let same = one_walk s files empty store refused.store (first_tip mib) tip refused.tip rs refused.rs
    is.read.walk is.read.makes (waits_halt store (behind_in mib relseg bytes tip) is.waits)
    refused.read.walk refused.read.makes (refusal_halts refused.store (behind_in mib relseg bytes refused.tip) why refused.refused) in
    waits_or_refuses refused.store (behind_in mib relseg bytes refused.tip) why
    (subst (λ (t : Tip). AwaitsMore (behind_in mib relseg bytes t)) same.0 is.waits) refused.refused

pub refused_in_one_way : RefusedInOneWay
refused_in_one_way mib relseg bytes why other is also =
    let s = stream_settings mib relseg bytes in
    let files = stream_files mib bytes in
    let same = one_walk s files empty is.store also.store (first_tip mib) is.tip also.tip is.rs also.rs
    is.read.walk is.read.makes (refusal_halts is.store (behind_in mib relseg bytes is.tip) why is.refused)
    also.read.walk also.read.makes (refusal_halts also.store (behind_in mib relseg bytes also.tip) other also.refused) in
    refused_once also.store (behind_in mib relseg bytes also.tip) why other
    (subst (λ (m : Store). RefusesFound m (behind_in mib relseg bytes also.tip) why) same.1
    (subst (λ (t : Tip). RefusesFound is.store (behind_in mib relseg bytes t) why) same.0 is.refused)) also.refused
