-- What a follower keeps of its stream as it takes pieces, reads and forgets.
use Rattle.std.proofs.Common.{◌≡◌, ℕ, ◌+◌, ◌-◌, ◌/◌, ◌≤◌, min, Bool, true, false, cond, inl, inr, List, [], ◌++◌, length, map, take, drop, replicate, Option, Some, None, Result, Ok, Err, refl, sym, ap, subst, ◌∙◌, arith}
use Rattle.std.specs.FinMap.{empty}
use Rattle.std.proofs.lemmas.Bool.{cases_lt, le-ltb}
use Rattle.std.proofs.lemmas.List.{take_all, take_min, take-take, take-append-le, take-append-drop, length-take, length-append}
use Rattle.std.proofs.Math.Seq.{take-append-add}
use Rattle.lsn_core.specs.Segment.{StoreSettings, segment_bytes, settings_with}
use Rattle.lsn_core.specs.Store.{Store}
use Rattle.lsn_core.specs.Tip.{Tip}
use Rattle.lsn_core.specs.declared.lsn.Lsn.{Lsn}
use Rattle.wal_record.specs.declared.record.Record.{Record}
use Rattle.wal_record.specs.Decoding.{record_at}
use Rattle.wal_record.specs.Tips.{first_tip}
use Rattle.wal_archive.specs.Archive.{Archive, archive_of, is_segment, nth}
use Rattle.wal_archive.specs.Rules.{Found, End, Gives, Bad, found, next_in, lsn}
use Rattle.wal_archive.specs.declared.fault.Damage.{Damage}
use Rattle.wal_reader.specs.Settings.{system_in}
use Rattle.wal_reader.specs.Wal.{stands_behind, ReadsOn}
use Rattle.history.specs.Apply.{apply_all}
use Rattle.history.specs.Whole.{entry_of}
use Rattle.stream_laws.specs.Streams.{stream_files, stream_byte}
use Rattle.stream_laws.specs.Windows.{Span, span_files, archive_room, IsStreamEnd}
use Rattle.stream_laws.proofs.Streams.{streams_are_archives}
use Rattle.stream_laws.proofs.Solid.{next_none, bytes_decide}
use Rattle.stream_laws.proofs.Stay.{end_stays, final_needs_head}
use Rattle.stream_laws.proofs.Shown.{shows}
use Rattle.stream_laws.proofs.Moved.{takes, forgets}
use Rattle.follow_laws.specs.Followed.{stream_settings, behind_in, AwaitsMore, IsReadSo, IsFollowed, Damaged, BadDelta, RefusesFound}
use Rattle.follow_laws.specs.Windows.{IsReadIn}
use Rattle.follow_laws.proofs.Refused.{system_more}
use Rattle.follow_laws.proofs.GoOn.{streams_go_on, zeros_go_on}
use Rattle.follow_laws.proofs.Windowed.{shows_found, follows, refuses}
use Rattle.wal_follow.specs.declared.fault.FollowFault.{FollowFault}
use Rattle.wal_follow.specs.declared.fault.FollowFault.TheVariants as follow
use Rattle.wal_follow.specs.Reading.{WaitsAs, RefusesAt}
use Rattle.wal_follow.specs.Window.{empty_span}
use Rattle.wal_follow.specs.Following.{Following, front_size, new_following, settings_of, StandsBehind, FollowsTo, RefusesStream, FinishGives}
use Rattle.wal_follow.specs.Inside.{TakesIn, ReadsEntries, RefusedIn, ForgetsRead, found_behind, AsksFound}

-- ---- the front of a stream

-- the first bytes of what comes behind the first ones
front_by : (n : ℕ) (fed piece : List ℕ) → take n (take n fed ++ piece) ≡ take n (fed ++ piece)
front_by n fed piece =
    let t = length-take n fed in
    elim (cases_lt (length fed) n) [
      | inl few ↦ ap (λ (l : List ℕ). take n (l ++ piece)) (take_all n fed (omega (arith, few)))
      | inr many ↦
          take-append-le n (take n fed) piece (omega (arith, t, many))
          ∙ (take-take n n fed (omega arith) ∙ sym (take-append-le n fed piece many))
    ]

pub front_filled : (n count : ℕ) (front piece now : List ℕ) → length front ≤ n → count ≡ min (length piece) (n - length front) → now ≡ front ++ take count piece → now ≡ take n (front ++ piece)
front_filled n count front piece now few counted is =
    let whole : n ≡ length front + (n - length front) = omega (arith, few) in
    let least : count ≡ min (n - length front) (length piece) = omega (arith, counted) in
    is ∙ (ap (λ (k : ℕ). front ++ take k piece) least
    ∙ (ap (λ (l : List ℕ). front ++ l) (take_min (n - length front) piece)
    ∙ (sym (take-append-add front piece (n - length front))
    ∙ ap (λ (k : ℕ). take k (front ++ piece)) (sym whole))))

pub front_more : (old now fed piece : List ℕ) → old ≡ take front_size fed → now ≡ take front_size (old ++ piece) → now ≡ take front_size (fed ++ piece)
front_more old now fed piece was is = is ∙ (ap (λ (l : List ℕ). take front_size (l ++ piece)) was ∙ front_by front_size fed piece)

system_by : (n : ℕ) (fed : List ℕ) → 32 ≤ n → system_in (take n fed) ≡ system_in fed
system_by n fed enough =
    let t = length-take n fed in
    elim (cases_lt (length fed) n) [
      | inl few ↦ ap system_in (take_all n fed (omega (arith, few)))
      | inr many ↦
          sym (system_more (take n fed) (drop n fed) (omega (arith, t, many, enough)))
          ∙ ap system_in (take-append-drop n fed)
    ]

pub system_front : (front fed : List ℕ) → front ≡ take front_size fed → system_in front ≡ system_in fed
system_front front fed is = ap system_in is ∙ system_by front_size fed (omega arith)

settings_front : (f : Following) (fed : List ℕ) → f.front ≡ take front_size fed → settings_of f ≡ stream_settings f.span.mib f.relseg fed
settings_front f fed is = ap (settings_with f.span.mib f.relseg) (system_front f.front fed is)

-- ---- before the first byte

nothing_there : (mib x : ℕ) → stream_byte mib [] x ≡ None
nothing_there mib x =
    elim (is_segment (x / segment_bytes mib)) as (λ s. cond s (nth [] (x - segment_bytes mib)) None ≡ None) [
      | true ↦ rw (le-ltb (x - segment_bytes mib) 0 (omega arith)) refl
      | false ↦ refl
    ]

none_some : (b : ℕ) → ◌≡◌ {A = Option ℕ} None (Some b) → ⊥
none_some b e = cc

none_found : (mib system : ℕ) (a : Archive) (tip : Tip) → a.top ≤ tip.end → next_in record_at mib system a tip ≡ End
unfolding next_in
none_found mib system a tip le = ap (found record_at mib tip.end (Some (lsn tip.prev))) (next_none a mib system tip.end le)

pub nothing_behind : (mib relseg : ℕ) → 1 ≤ mib → behind_in mib relseg [] (first_tip mib) ≡ End
nothing_behind mib relseg some =
    let a = archive_of mib (stream_files mib []) in
    let is = streams_are_archives mib [] some in
    let low : a.top ≤ segment_bytes mib = elim (cases_lt 0 a.top) [
      | inl there ↦
          let held = is.archive.top_held there in
          absurd (none_some held.0 (sym (is.byte (a.top - 1) ∙ nothing_there mib (a.top - 1)) ∙ held.1))
      | inr none ↦ omega (arith, none)
    ] in
    none_found mib (system_in []) a (first_tip mib) low

pub new_follows : (mib relseg : ℕ) → 1 ≤ mib → StandsBehind (new_following mib relseg) []
new_follows mib relseg some = record {
  rs = [];
  followed = record {
    read = record { walk = refl; makes = refl };
    waits = subst AwaitsMore (sym (nothing_behind mib relseg some)) tt;
  };
  held = record {
    some = some;
    least = omega arith;
    long = none_shown mib;
    same = λ x le. ap (λ (l : List ℕ). stream_byte mib l x) (no_bytes mib);
  };
  before = omega arith;
  counted = refl;
  front = refl;
  ended = λ is. nothing_behind mib relseg some;
  going = refl;
}
  where
    no_bytes : (mib : ℕ) → replicate (segment_bytes mib - segment_bytes mib) 0 ++ (◌++◌ {A = ℕ} [] (replicate 0 0)) ≡ []
    no_bytes mib = let none : segment_bytes mib - segment_bytes mib ≡ 0 = omega arith in ap (λ (n : ℕ). replicate n 0 ++ (◌++◌ {A = ℕ} [] (replicate 0 0))) none

    none_shown : (mib : ℕ) → length (replicate (segment_bytes mib - segment_bytes mib) 0 ++ (◌++◌ {A = ℕ} [] (replicate 0 0))) ≡ min 0 (archive_room mib)
    none_shown mib = ap (λ (l : List ℕ). length l) (no_bytes mib) ∙ (let few : 0 ≡ min 0 (archive_room mib) = omega arith in few)

pub new_by : (mib relseg : ℕ) (front : List ℕ) (tip : Tip) (store : Store) (span : Span) → front ≡ [] → tip ≡ first_tip mib → store ≡ empty → span ≡ empty_span mib → 1 ≤ mib → StandsBehind (record { relseg = relseg; front = front; tip = tip; store = store; span = span; ended = true; fault = None }) []
new_by mib relseg front tip store span ef et es ew some =
    subst (λ (x : List ℕ). StandsBehind (record { relseg = relseg; front = x; tip = tip; store = store; span = span; ended = true; fault = None }) []) (sym ef)
    (subst (λ (x : Tip). StandsBehind (record { relseg = relseg; front = []; tip = x; store = store; span = span; ended = true; fault = None }) []) (sym et)
    (subst (λ (x : Store). StandsBehind (record { relseg = relseg; front = []; tip = first_tip mib; store = x; span = span; ended = true; fault = None }) []) (sym es)
    (subst (λ (x : Span). StandsBehind (record { relseg = relseg; front = []; tip = first_tip mib; store = empty; span = x; ended = true; fault = None }) []) (sym ew)
    (new_follows mib relseg some))))

-- ---- a piece

-- all but that it waits
pub record IsPast (f : Following) (fed : List ℕ) : Type 0 where
  pub rs : List Record
  pub read : IsReadSo f.span.mib f.relseg fed rs f.tip f.store
  pub held : IsStreamEnd f.span fed
  pub before : f.span.base ≤ f.tip.end
  pub counted : f.tip.count ≡ length rs
  pub front : f.front ≡ take front_size fed
  pub going : f.fault ≡ None

read_moved : (m n r q : ℕ) (fed : List ℕ) (rs : List Record) (t u : Tip) (s o : Store) → n ≡ m → q ≡ r → u ≡ t → o ≡ s → IsReadSo m r fed rs t s → IsReadSo n q fed rs u o
read_moved m n r q fed rs t u s o em er et es is =
    subst (λ (x : ℕ). IsReadSo x q fed rs u o) (sym em)
    (subst (λ (x : ℕ). IsReadSo m x fed rs u o) (sym er)
    (subst (λ (x : Tip). IsReadSo m r fed rs x o) (sym et)
    (subst (λ (x : Store). IsReadSo m r fed rs t x) (sym es) is)))

pub taken : (f g : Following) (fed piece : List ℕ) (quiet : Bool) → TakesIn f piece g quiet → StandsBehind f fed → IsPast g (fed ++ piece)
taken f g fed piece quiet in_ is =
    let rest = in_.rest in
    let base = in_.span.base in
    let before = is.before in
    let tip : g.tip ≡ f.tip = ap (λ (x : Following). x.tip) rest in
    record {
      rs = is.rs;
      read = read_moved f.span.mib g.span.mib f.relseg g.relseg (fed ++ piece) is.rs f.tip g.tip f.store g.store
          in_.span.mib (ap (λ (x : Following). x.relseg) rest) tip (ap (λ (x : Following). x.store) rest)
          (streams_go_on streams_are_archives final_needs_head f.span.mib f.relseg fed piece is.rs f.tip f.store is.held.some is.followed.read);
      held = takes f.span g.span fed piece is.held in_.span.mib base in_.span.tail;
      before = subst (λ (t : Tip). g.span.base ≤ t.end) (sym tip) (omega (arith, base, before));
      counted = ap (λ (t : Tip). t.count) tip ∙ is.counted;
      front = front_more f.front g.front fed piece is.front in_.front;
      going = ap (λ (x : Following). x.fault) rest ∙ is.going;
    }

pub quiet_follows : (f g : Following) (fed piece : List ℕ) → TakesIn f piece g true → StandsBehind f fed → StandsBehind g (fed ++ piece)
quiet_follows f g fed piece in_ is =
    let past = taken f g fed piece true in_ is in
    let quiet = in_.quiet refl in
    let zeros = quiet.zeros in
    let system : system_in (fed ++ piece) ≡ system_in fed =
    sym (system_front g.front (fed ++ piece) past.front) ∙ (quiet.system ∙ system_front f.front fed is.front) in
    let end : behind_in f.span.mib f.relseg (fed ++ piece) f.tip ≡ End =
    subst (λ (p : List ℕ). behind_in f.span.mib f.relseg (fed ++ p) f.tip ≡ End) (sym zeros)
    (zeros_go_on streams_are_archives end_stays f.span.mib f.relseg (length piece) fed is.rs f.tip f.store is.held.some is.followed.read
    (subst (λ (p : List ℕ). system_in (fed ++ p) ≡ system_in fed) zeros system) (is.ended quiet.ended)) in
    let here : behind_in g.span.mib g.relseg (fed ++ piece) g.tip ≡ End =
    ap (λ (m : ℕ). behind_in m g.relseg (fed ++ piece) g.tip) in_.span.mib
    ∙ (ap (λ (x : Following). behind_in f.span.mib x.relseg (fed ++ piece) x.tip) in_.rest ∙ end) in
    record {
      rs = past.rs;
      followed = record { read = past.read; waits = subst AwaitsMore (sym here) tt };
      held = past.held;
      before = past.before;
      counted = past.counted;
      front = past.front;
      ended = λ e. here;
      going = past.going;
    }

-- ---- what became whole

waits_of : (b : Bool) (f : Found) → WaitsAs b f → AwaitsMore f
waits_of true f is = subst AwaitsMore (sym is) tt
waits_of false f is = subst AwaitsMore (sym is.1) (is.0.0, refl)

ends_of : (b : Bool) (f : Found) → WaitsAs b f → b ≡ true → f ≡ End
ends_of true f is e = is
ends_of false f is e = absurd (let never : false ≡ true = e in cc)

-- a window's entries behind what was read
in_window : (f : Following) (fed : List ℕ) (past : IsPast f fed) (qs : List Record) (last : Tip) (made : Store) → ReadsOn (settings_of f) (span_files f.span) f.tip qs last → apply_all f.store (map entry_of qs) ≡ Some made → IsReadIn f.span f.relseg fed past.rs qs f.tip last f.store made
in_window f fed past qs last made walk makes = record {
  is_end = past.held;
  before = past.before;
  read = past.read;
  walk = subst (λ (s : StoreSettings). ReadsOn s (span_files f.span) f.tip qs last) (settings_front f fed past.front) walk;
  makes = makes;
}

followed_by : (m n r q : ℕ) (fed : List ℕ) (rs : List Record) (t : Tip) (s : Store) → n ≡ m → q ≡ r → IsFollowed m r fed rs t s → IsFollowed n q fed rs t s
followed_by m n r q fed rs t s em er is =
    subst (λ (x : ℕ). IsFollowed x q fed rs t s) (sym em) (subst (λ (x : ℕ). IsFollowed m x fed rs t s) (sym er) is)

pub read_follows : (f g : Following) (fed : List ℕ) → IsPast f fed → ReadsEntries f g → StandsBehind g fed
read_follows f g fed past in_ =
    let qs = in_.reads.rs in
    let goes = in_.reads.goes in
    let rest = in_.rest in
    let span : g.span ≡ f.span = ap (λ (x : Following). x.span) rest in
    let relseg : g.relseg ≡ f.relseg = ap (λ (x : Following). x.relseg) rest in
    let s = stream_settings f.span.mib f.relseg fed in
    let read = in_window f fed past qs g.tip g.store goes.walk goes.makes in
    let waits : WaitsAs g.ended (stands_behind s (span_files f.span) g.tip) =
    subst (λ (x : StoreSettings). WaitsAs g.ended (stands_behind x (span_files f.span) g.tip)) (settings_front f fed past.front) in_.reads.waits in
    let same = shows_found (shows streams_are_archives bytes_decide) f.span f.relseg fed past.rs qs f.tip g.tip f.store g.store read in
    let on = follows (shows streams_are_archives bytes_decide) f.span f.relseg fed past.rs qs f.tip g.tip f.store g.store read (waits_of g.ended (stands_behind s (span_files f.span) g.tip) waits) in
    let later = goes.later in
    let before = past.before in
    let long = length-append past.rs qs in
    let counted = goes.counted in
    let count = past.counted in
    record {
      rs = past.rs ++ qs;
      followed = followed_by f.span.mib g.span.mib f.relseg g.relseg fed (past.rs ++ qs) g.tip g.store (ap (λ (w : Span). w.mib) span) relseg on;
      held = subst (λ (w : Span). IsStreamEnd w fed) (sym span) past.held;
      before = subst (λ (w : Span). w.base ≤ g.tip.end) (sym span) (omega (arith, later, before));
      counted = omega (arith, long, counted, count);
      front = ap (λ (x : Following). x.front) rest ∙ past.front;
      ended = λ e.
          ap (λ (w : Span). behind_in w.mib g.relseg fed g.tip) span
          ∙ (ap (λ (r : ℕ). behind_in f.span.mib r fed g.tip) relseg
          ∙ (sym same ∙ ends_of g.ended (stands_behind s (span_files f.span) g.tip) waits e));
      going = ap (λ (x : Following). x.fault) rest ∙ past.going;
    }

pub forgotten_follows : (f g : Following) (fed : List ℕ) → StandsBehind f fed → ForgetsRead f g → StandsBehind g fed
forgotten_follows f g fed is in_ =
    let rest = in_.rest in
    let before = is.before in
    let base = in_.span.base in
    let tip : g.tip ≡ f.tip = ap (λ (x : Following). x.tip) rest in
    let relseg : g.relseg ≡ f.relseg = ap (λ (x : Following). x.relseg) rest in
    record {
      rs = is.rs;
      followed = followed_by f.span.mib g.span.mib f.relseg g.relseg fed is.rs g.tip g.store in_.span.mib relseg
          (subst (λ (x : Following). IsFollowed f.span.mib f.relseg fed is.rs x.tip x.store) (sym rest) is.followed);
      held = forgets f.span g.span fed is.held in_.span.mib (omega (arith, base, before)) (omega (arith, base))
          (in_.span.tail ∙ ap (λ (n : ℕ). drop (n - f.span.base) (f.span.bytes ++ replicate f.span.zeros 0)) (sym base));
      before = subst (λ (t : Tip). g.span.base ≤ t.end) (sym tip) (omega (arith, base));
      counted = ap (λ (t : Tip). t.count) tip ∙ is.counted;
      front = ap (λ (x : Following). x.front) rest ∙ is.front;
      ended = λ e.
          ap (λ (m : ℕ). behind_in m g.relseg fed g.tip) in_.span.mib
          ∙ (ap (λ (x : Following). behind_in f.span.mib x.relseg fed x.tip) rest
          ∙ is.ended (sym (ap (λ (x : Following). x.ended) rest) ∙ e));
      going = ap (λ (x : Following). x.fault) rest ∙ is.going;
    }

-- ---- refusals

refused_as : (f : Following) (fed : List ℕ) (past : IsPast f fed) (qs : List Record) (last : Tip) (made : Store) (why : FollowFault) → IsReadIn f.span f.relseg fed past.rs qs f.tip last f.store made → RefusesAt made (stands_behind (stream_settings f.span.mib f.relseg fed) (span_files f.span) last) why → RefusesStream f.span.mib f.relseg fed why
refused_as f fed past qs last made (follow.Damaged d) read is =
    refuses (shows streams_are_archives bytes_decide) f.span f.relseg fed past.rs qs f.tip last f.store made (Damaged d) read
    (subst (λ (x : Found). RefusesFound made x (Damaged d)) (sym is.0) (refl, is.1))
refused_as f fed past qs last made (follow.BadDelta at) read is =
    refuses (shows streams_are_archives bytes_decide) f.span f.relseg fed past.rs qs f.tip last f.store made (BadDelta at) read
    (subst (λ (x : Found). RefusesFound made x (BadDelta at)) (sym is.1) (is.2, is.3))
refused_as f fed past qs last made follow.NoMemory read is = tt

pub refused_behind : (f : Following) (fed : List ℕ) (why : FollowFault) → IsPast f fed → RefusedIn f why → RefusesStream f.span.mib f.relseg fed why
refused_behind f fed why past is =
    refused_as f fed past is.rs is.last is.made why (in_window f fed past is.rs is.last is.made is.goes.walk is.goes.makes)
    (subst (λ (s : StoreSettings). RefusesAt is.made (stands_behind s (span_files f.span) is.last) why) (settings_front f fed past.front) is.refused)

-- ---- the end

-- what a follower finds in its window stands there in the stream
pub found_there : (f : Following) (fed : List ℕ) → StandsBehind f fed → found_behind f ≡ behind_in f.span.mib f.relseg fed f.tip
found_there f fed is =
    ap (λ (s : StoreSettings). stands_behind s (span_files f.span) f.tip) (settings_front f fed is.front)
    ∙ shows streams_are_archives bytes_decide f.span fed record_at (system_in fed) f.tip is.held is.before

ends_or_damaged : (x : Found) → AwaitsMore x → ((d : Damage) → x ≡ Bad d → ⊥) → x ≡ End
ends_or_damaged End waits not_bad = refl
ends_or_damaged (Gives r) waits not_bad = absurd waits
ends_or_damaged (Bad d) waits not_bad = absurd (not_bad d refl)

pub ended_there : (f : Following) (fed : List ℕ) (end : Lsn) → StandsBehind f fed → end.0 ≡ f.tip.end → behind_in f.span.mib f.relseg fed f.tip ≡ End → FinishGives f fed (Ok end)
ended_there f fed end is at none = record {
  rs = is.rs;
  wal = record { walk = is.followed.read.walk; ended = none };
  makes = is.followed.read.makes;
  end_is = at;
}

pub asked_there : (f : Following) (fed : List ℕ) (result : Result Lsn FollowFault) → StandsBehind f fed → AsksFound f result → FinishGives f fed result
asked_there f fed (Ok end) is asks =
    ended_there f fed end is asks.0
    (ends_or_damaged (behind_in f.span.mib f.relseg fed f.tip) is.followed.waits (λ d bad. asks.1 d (found_there f fed is ∙ bad)))
asked_there f fed (Err (follow.Damaged d)) is asks =
    (is.rs, record { tip = f.tip; walk = is.followed.read.walk; broken = sym (found_there f fed is) ∙ asks })
asked_there f fed (Err (follow.BadDelta at)) is asks = asks
asked_there f fed (Err follow.NoMemory) is asks = tt

-- ---- a call

pub quiet_goes : (f g : Following) (fed piece : List ℕ) (nothing : Bool) → TakesIn f piece g nothing → nothing ≡ true → StandsBehind f fed → FollowsTo f g fed piece
quiet_goes f g fed piece nothing in_ quiet is =
    let count : g.tip.count ≡ f.tip.count = ap (λ (x : Following). x.tip.count) in_.rest in
    record {
      follows = quiet_follows f g fed piece (subst (λ (b : Bool). TakesIn f piece g b) quiet in_) is;
      mib = in_.span.mib;
      relseg = ap (λ (x : Following). x.relseg) in_.rest;
      later = omega (arith, count);
    }

pub read_goes : (f g h k : Following) (fed piece : List ℕ) (nothing : Bool) → TakesIn f piece g nothing → ReadsEntries g h → ForgetsRead h k → StandsBehind f fed → FollowsTo f k fed piece
read_goes f g h k fed piece nothing in_ reads forgets is =
    let count : g.tip.count ≡ f.tip.count = ap (λ (x : Following). x.tip.count) in_.rest in
    let more = reads.reads.goes.counted in
    let last : k.tip.count ≡ h.tip.count = ap (λ (x : Following). x.tip.count) forgets.rest in
    record {
      follows = forgotten_follows h k (fed ++ piece) (read_follows g h (fed ++ piece) (taken f g fed piece nothing in_ is) reads) forgets;
      mib = forgets.span.mib ∙ (ap (λ (x : Following). x.span.mib) reads.rest ∙ in_.span.mib);
      relseg = ap (λ (x : Following). x.relseg) forgets.rest ∙ (ap (λ (x : Following). x.relseg) reads.rest ∙ ap (λ (x : Following). x.relseg) in_.rest);
      later = omega (arith, count, more, last);
    }

pub read_refused : (f g : Following) (fed piece : List ℕ) (nothing : Bool) (why : FollowFault) → TakesIn f piece g nothing → RefusedIn g why → StandsBehind f fed → RefusesStream f.span.mib f.relseg (fed ++ piece) why
read_refused f g fed piece nothing why in_ refused is =
    subst (λ (m : ℕ). RefusesStream m f.relseg (fed ++ piece) why) in_.span.mib
    (subst (λ (x : Following). RefusesStream g.span.mib x.relseg (fed ++ piece) why) in_.rest
    (refused_behind g (fed ++ piece) why (taken f g fed piece nothing in_ is) refused))
