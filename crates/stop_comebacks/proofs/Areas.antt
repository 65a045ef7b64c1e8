-- What a stop leaves of an open store is restorable.
use Rattle.std.proofs.Common.{◌≡◌, ℕ, ◌<◌, ◌≤◌, inr, Bool, cond, List, [], ◌∷◌, ◌++◌, map, Some, refl, sym, ap, subst, ◌∙◌, arith, append_assoc}
use Rattle.std.specs.Prelude.{nat_lt}
use Rattle.std.specs.FinMap.{empty}
use Rattle.std.proofs.lemmas.Bool.{le-ltb, ltb-false}
use Rattle.std.proofs.lemmas.List.{map-append}
use Rattle.std.proofs.lemmas.List.Elements.{filter-append}
use Rattle.lsn_core.specs.Files.{Files}
use Rattle.lsn_core.specs.Segment.{StoreSettings}
use Rattle.lsn_core.specs.Store.{Store}
use Rattle.lsn_core.specs.declared.lsn.Lsn.{Lsn}
use Rattle.vault.specs.declared.area.Vault.{Ghosts}
use Rattle.wal_record.specs.declared.record.Record.{Record}
use Rattle.history.specs.Entry.{Entry}
use Rattle.history.specs.Apply.{apply_all}
use Rattle.history.specs.Whole.{entry_of}
use Rattle.history.specs.fuzzy_copies.Orderly.{IsOrderly, RecordsRise}
use Rattle.history.specs.fuzzy_copies.Sound.{state_before, entries_before}
use Rattle.history.specs.fuzzy_copies.Taken.{since}
use Rattle.history.specs.fuzzy_copies.Covers.{AreTidy}
use Rattle.history.proofs.Stores.{by_test}
use Rattle.history.proofs.fuzzy_copies.View.{middle}
use Rattle.history.proofs.fuzzy_copies.Replay.{applied_in_two}
use Rattle.history.proofs.fuzzy_copies.Taken.{two_parts}
use Rattle.history.proofs.fuzzy_copies.Kept.{tidy_front}
use Rattle.history.proofs.fuzzy_copies.Repeats.{entries_rise}
use Rattle.stop_areas.specs.Left.{IsLeftOf}
use Rattle.stop_laws.specs.Window.{window_base}
use Rattle.data_areas.specs.Areas.{area_of}
use Rattle.store_areas.specs.declared.areas.StoreAreas.{StoreAreas}
use Rattle.store_areas.specs.Begin.{data_of}
use Rattle.store_restart.specs.Survivors.{replay_start}
use Rattle.neat_laws.specs.Room.{AreOwnFiles}
use Rattle.comeback_laws.specs.Restorable.{AreFirst, AreLeftSince}
use Rattle.comeback_laws.proofs.Survived.{rise_all}
use Rattle.comeback_laws.proofs.Back.{restarts}
use Rattle.stop_comebacks.specs.Stopped.{IsStoreHistory, IsPartLeft}
use Rattle.stop_comebacks.specs.Laws.{StopsLeaveRestorableAreas, StoppedStoresComeBack}
use Rattle.stop_comebacks.proofs.Earlier.{earlier_left}
use Rattle.stop_comebacks.proofs.Survivors.{Known, known_first, starts_within, survive}

-- ---- the records before a place

none_from : (from last : ℕ) (rs : List Record) → RecordsRise last rs → from ≤ last → entries_before (map entry_of rs) from ≡ []
none_from from last [] rise le = refl
none_from from last (r ∷ rs) rise le =
    ap (λ (b : Bool). cond b (entry_of r ∷ entries_before (map entry_of rs) from) (entries_before (map entry_of rs) from)) (le-ltb r.start.0 from (omega (arith, rise.0, le)))
    ∙ none_from from r.end.0 rs rise.3 (omega (arith, rise.0, rise.1, le))

pub record Front (from : ℕ) (rs : List Record) : Type 0 where
  pub first : List Record
  pub rest : List Record
  pub parts : rs ≡ first ++ rest
  pub is : entries_before (map entry_of rs) from ≡ map entry_of first

pub front_of : (from last : ℕ) (rs : List Record) → RecordsRise last rs → Front from rs
front_of from last [] rise = record { first = []; rest = []; parts = refl; is = refl }
front_of from last (r ∷ rs) rise =
    by_test (nat_lt r.start.0 from)
    (λ below.
    let more = front_of from r.end.0 rs rise.3 in
    record {
      first = r ∷ more.first;
      rest = more.rest;
      parts = ap (λ (l : List Record). r ∷ l) more.parts;
      is = ap (λ (b : Bool). cond b (entry_of r ∷ entries_before (map entry_of rs) from) (entries_before (map entry_of rs) from)) below ∙ ap (λ (l : List Entry). entry_of r ∷ l) more.is;
    })
    (λ past. record {
      first = [];
      rest = r ∷ rs;
      parts = refl;
      is =
          ap (λ (b : Bool). cond b (entry_of r ∷ entries_before (map entry_of rs) from) (entries_before (map entry_of rs) from)) past
          ∙ none_from from r.end.0 rs rise.3 (let le = ltb-false r.start.0 from past in omega (arith, le, rise.1));
    })

first_empty : (xs ys : List Entry) → xs ++ ys ≡ [] → xs ≡ []
first_empty [] ys e = refl
first_empty (x ∷ xs) ys e = absurd cc

-- ---- a partition's area

module _ (relseg q : ℕ) (history : List Record) (flushed : ℕ) (files : Files) (h : IsStoreHistory history) (p : IsPartLeft relseg q history flushed files) (records : List Record) (first : AreFirst history flushed records) (rise : RecordsRise 0 records) (from : Lsn) (base : Store)
    (start : replay_start records ≡ Some from) (defined : state_before (map entry_of records) from.0 ≡ Some base) where
  known : Known p.known p.later records first.lost
  known = known_first flushed p.known p.later records first.lost (sym p.parts ∙ first.parts) p.done first.late

  entries : map entry_of records ≡ map entry_of p.known ++ map entry_of known.more
  entries = ap (map entry_of) known.all ∙ map-append entry_of p.known known.more

  late : entries_before (map entry_of known.more) p.point ≡ []
  late =
      first_empty (entries_before (map entry_of known.more) p.point) (entries_before (map entry_of first.lost) p.point)
      (sym (ap (λ (l : List Entry). entries_before l p.point) (ap (map entry_of) known.rest ∙ map-append entry_of known.more first.lost) ∙ filter-append (λ (e : Entry). nat_lt e.start p.point) (map entry_of known.more) (map entry_of first.lost)) ∙ p.late)

  tidy : AreTidy empty (map entry_of p.known)
  tidy =
      tidy_front empty (map entry_of p.known) (map entry_of p.later) (subst (AreTidy empty) (ap (map entry_of) p.parts ∙ map-append entry_of p.known p.later) (let makes = h.makes in makes.tidy))

  pub part_left : IsLeftOf relseg (window_base q from.0 (map entry_of records) base) files
  part_left =
      subst (λ (es : List Entry). IsLeftOf relseg (window_base q from.0 es base) files) (sym entries)
      (earlier_left relseg q from.0 p.point (map entry_of p.known) (map entry_of known.more) base p.store files
      (subst (IsOrderly 0) entries (entries_rise 0 records rise)) tidy (starts_within p.point history records first.lost from first.parts p.past start) late
      (subst (λ (es : List Entry). state_before es from.0 ≡ Some base) entries defined) p.made p.left)

-- ---- all areas

module _ {V : Type 0} (g : Ghosts V) (s : StoreSettings) (history : List Record) (flushed : ℕ) (areas : StoreAreas V) (h : IsStoreHistory history)
    (parts : (q : ℕ) → q < 4 → (m : Files) × ((g.files (area_of (data_of areas) q) ≡ Some m) × IsPartLeft s.relseg q history flushed m)) where
  pub left_since : (records : List Record) → AreFirst history flushed records → RecordsRise 0 records → (from : Lsn) → replay_start records ≡ Some from → AreLeftSince g s.relseg records (data_of areas) from.0
  left_since records first rise from start =
      let makes = h.makes in
      let all : apply_all empty (map entry_of records ++ map entry_of first.lost) ≡ Some h.now =
      sym (ap (apply_all empty) (ap (map entry_of) first.parts ∙ map-append entry_of records first.lost)) ∙ makes.made in
      middle (apply_all empty (map entry_of records)) (λ t. apply_all t (map entry_of first.lost)) h.now (sym (applied_in_two empty (map entry_of records) (map entry_of first.lost)) ∙ all) (λ mid made _.
      middle (state_before (map entry_of records) from.0) (λ t. apply_all t (since from.0 (map entry_of records))) mid (sym (two_parts from.0 (map entry_of records) (entries_rise 0 records rise)) ∙ made) (λ base defined _.
      let front = front_of from.0 0 records rise in
      record {
        store = base;
        made = defined;
        fits = h.fit front.first (front.rest ++ first.lost) base
            (first.parts ∙ ap (λ (l : List Record). l ++ first.lost) front.parts ∙ append_assoc front.first front.rest first.lost)
            (sym (ap (apply_all empty) front.is) ∙ defined);
        left = λ q less.
            let d = parts q less in
            (d.0, (d.1.0, part_left s.relseg q history flushed d.0 h d.1.1 records first rise from base start defined));
        own = λ q less. let d = parts q less in let p = d.1.1 in subst (AreOwnFiles s.relseg q) (sym d.1.0) p.own;
      }))

pub restorable : {V : Type 0} (g : Ghosts V) → StopsLeaveRestorableAreas g
restorable g s history flushed areas settings h stopped =
    let found = survive s history flushed stopped.files settings.segment stopped.wal in
    record {
      wal = stopped.files;
      told = stopped.told;
      records = found.records;
      tip = found.tip;
      survive = found.survive;
      first = found.first;
      left = inr (left_since g s history flushed areas h stopped.partitions found.records found.first (rise_all s stopped.files found.records found.tip settings.segment found.survive));
    }

pub come_back : {V : Type 0} (g : Ghosts V) → StoppedStoresComeBack g
come_back g s history flushed old back settings h deltas stopped is =
    restarts g s history flushed old back settings deltas (restorable g s history flushed old settings h stopped) is
