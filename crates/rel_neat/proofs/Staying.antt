-- What stays of segment files stays while they are made neat.
use Rattle.std.proofs.Common.{◌≡◌, ℕ, ◌-◌, ◌*◌, ◌/◌, ◌<◌, ◌⊎◌, inl, inr, Bool, true, false, ◌||◌, List, [], ◌∷◌, length, Option, Some, None, Result, Ok, Err, OnOk, OnErr, refl, sym, ap, subst, ◌∙◌, arith, option_map, eqb-true}
use Rattle.std.specs.Prelude.{◌==◌, nat_lt}
use Rattle.std.proofs.lemmas.Bool.{and_parts, ltb-true, cases_lt}
use Rattle.std.proofs.lemmas.Nat.{div-add-mod'}
use Rattle.std.proofs.lemmas.Option.{slice_get_within}
use Rattle.std.proofs.Math.Nat.{mod-lt}
use Rattle.std.specs.FinMap.{get}
use Rattle.lsn_core.specs.Files.{Files}
use Rattle.lsn_core.specs.Laws.{HasNamedForks}
use Rattle.lsn_core.specs.Names.{fork_path_bytes, IsNamed}
use Rattle.lsn_core.specs.declared.fault.AreaFault.{AreaFault}
use Rattle.lsn_core.specs.declared.fault.AreaFault.TheVariants.{Failed, NoMemory}
use Rattle.lsn_core.specs.declared.ids.ForkId.{ForkId}
use Rattle.vault.specs.Area.{after_cut, after_remove, Related, IsUndecided}
use Rattle.vault.specs.Frame.{OnlyReads}
use Rattle.vault.specs.Stops.{Event, Made, Notes, Tries, cut, removed, synced}
use Rattle.vault.specs.declared.area.Vault.{Ghosts}
use Rattle.vault.proofs.Through.{adds_none, adds_by, adds_on}
use Rattle.vault.proofs.Undone.{cut_is_cut, same_is_cut, removed_is_removed, same_is_removed}
use Rattle.rel_files.proofs.Events.{adds_weaker}
use Rattle.rel_files.proofs.Segments.{below}
use Rattle.rel_files.proofs.SegmentFiles.{renamed, less_by}
use Rattle.stop_areas.specs.Left.{Base, Stays, segment_of, IsLeftOf}
use Rattle.stop_areas.specs.Keeps.{Keeps}
use Rattle.stop_areas.proofs.Kept.{stops_keep_pages}
use Rattle.stop_areas.proofs.Sizes.{in_fork}
use Rattle.rel_neat.specs.Neat.{KeepsWhatStays}
use Rattle.rel_neat.specs.Segments.{blocks_in, is_stray, Makes, Removes, CutsTo}

-- ---- events

stays_named : (relseg : ℕ) (base : Base) (fork : ForkId) (block : ℕ) (page : List ℕ) → 0 < relseg → HasNamedForks base.store → Stays base fork block page → IsNamed fork (block / relseg)
stays_named relseg base fork block page some forks stays =
    in_fork (get base.store fork) block page stays.there (λ pages there at.
    let named = forks fork pages there in
    let f = named.seg_fits in
    let less = slice_get_within pages block page at in
    let part = less_by block relseg some in
    renamed fork (length pages) (block / relseg) named (omega (arith, f, less, part)))

module _ (relseg : ℕ) (base : Base) (files : Files) (some : 0 < relseg) (forks : HasNamedForks base.store) (left : IsLeftOf relseg base files) where
  cut_keeps : (fork : ForkId) (seg : ℕ) → IsNamed fork seg → Keeps relseg base (cut (fork_path_bytes fork seg false) (blocks_in relseg files fork seg * 8192))
  cut_keeps fork seg named = inl (record {
    fork = fork;
    seg = seg;
    named = named;
    name_is = refl;
    here = λ block page stays same.
        let has = left.pages fork block page (stays_named relseg base fork block page some forks stays) stays in
        let room = has.room in
        let size = ap (λ (n : ℕ). length (segment_of files fork n)) same in
        let within = mod-lt block some in
        omega (arith, room, size, within);
    later = λ block page stays less.
        let has = left.pages fork block page (stays_named relseg base fork block page some forks stays) stays in
        let full = has.full seg less in
        omega (arith, full);
  })

  -- a file that its fork doesn't have has no page that stays
  first_or : (a b : Bool) {P : Type 0} → (a || b) ≡ true → (a ≡ true → P) → (b ≡ true → P) → P
  first_or true b e first second = first refl
  first_or false b e first second = second e

  stray_behind : (fork : ForkId) (seg : ℕ) → is_stray relseg files fork seg ≡ true → (block : ℕ) (page : List ℕ) → Stays base fork block page → block / relseg < seg
  stray_behind fork seg stray block page stays =
      let parts = and_parts (nat_lt 0 seg) ((blocks_in relseg files fork seg == 0) || nat_lt (blocks_in relseg files fork (seg - 1)) relseg) stray in
      let later = ltb-true 0 seg parts.0 in
      let has = left.pages fork block page (stays_named relseg base fork block page some forks stays) stays in
      elim (cases_lt (block / relseg) seg) [
        | inl less ↦ less
        | inr le ↦
            first_or (blocks_in relseg files fork seg == 0) (nat_lt (blocks_in relseg files fork (seg - 1)) relseg) parts.1
            (λ none.
            let empty = eqb-true (blocks_in relseg files fork seg) 0 none in
            elim (cases_lt seg (block / relseg)) [
              | inl before ↦ let full = has.full seg before in absurd (omega (arith, empty, full, some))
              | inr back ↦
                  let same : block / relseg ≡ seg = omega (arith, le, back) in
                  let size = ap (λ (n : ℕ). length (segment_of files fork n)) same in
                  let room = has.room in
                  absurd (omega (arith, empty, size, room, some))
            ])
            (λ short.
            let few = ltb-true (blocks_in relseg files fork (seg - 1)) relseg short in
            let full = has.full (seg - 1) (omega (arith, le, later)) in
            absurd (omega (arith, few, full)))
      ]

  removal_keeps : (fork : ForkId) (seg : ℕ) → IsNamed fork seg → is_stray relseg files fork seg ≡ true → Keeps relseg base (removed (fork_path_bytes fork seg false))
  removal_keeps fork seg named stray = inl (record {
    fork = fork;
    seg = seg;
    named = named;
    name_is = refl;
    behind = λ block page stays.
        let less = stray_behind fork seg stray block page stays in
        let order = below (block / relseg) seg relseg less in
        let parts = div-add-mod' block relseg in
        let within = mod-lt block some in
        omega (arith, order, parts, within);
    first = λ none.
        let later = ltb-true 0 seg (and_parts (nat_lt 0 seg) ((blocks_in relseg files fork seg == 0) || nat_lt (blocks_in relseg files fork (seg - 1)) relseg) stray).0 in
        absurd (omega (arith, none, later));
  })

  -- files that an event may leave have what stays
  pub event_left : (event : Event) (m : Files) → Keeps relseg base event → Made event files m → IsLeftOf relseg base m
  event_left event m keeps made =
      (stops_keep_pages relseg base (Some (synced (Some files) ∷ [])) (Some (event ∷ (synced (Some files) ∷ []))) some
      (record { events = event ∷ []; each = (keeps, tt); past = refl })
      (λ c may. subst (IsLeftOf relseg base) (sym may.2.1) left)).1 m (files, (files, tt, (refl, refl)), made)

-- ---- calls

pub reads_keep : {V : Type 0} (g : Ghosts V) (relseg : ℕ) (old new : V) → OnlyReads g old new → KeepsWhatStays g relseg old new
reads_keep g relseg old new reads base forks has = ((has.0, (reads.files ∙ has.1.0, has.1.1)), adds_none (Keeps relseg base) (g.past old) (g.past new) reads.past)

pub keeps_on : {V : Type 0} (g : Ghosts V) (relseg : ℕ) (a b c : V) → KeepsWhatStays g relseg a b → KeepsWhatStays g relseg b c → KeepsWhatStays g relseg a c
keeps_on g relseg a b c first second base forks has =
    let x = first base forks has in
    let y = second base forks x.0 in
    (y.0, adds_on (Keeps relseg base) (g.past a) (g.past b) (g.past c) x.1 y.1)

-- files are as before a step or as after it
abbrev Either : (Files → Files) → Files → Option Files → Type 0
Either step m new = (n : Files) × ((new ≡ Some n) × ((n ≡ m) ⊎ (n ≡ step m)))

undecided : (step : Files → Files) (m : Files) (new : Option Files) → Related (IsUndecided step) (Some m) new → Either step m new
undecided step m None related = absurd related
undecided step m (Some n) related = (n, (refl, related))

made_either : {V : Type 0} (g : Ghosts V) (step : Files → Files) (event : Event) (old new : V) (result : Result (Unit {0}) AreaFault) (m : Files) → g.files old ≡ Some m → Makes g step event old new result → Either step m (g.files new)
made_either g step event old new (Ok u) m is makes = (step m, (makes.done ∙ ap (option_map step) is, inr refl))
made_either g step event old new (Err f) m is makes = undecided step m (g.files new) (subst (λ (o : Option Files). Related (IsUndecided step) o (g.files new)) is makes.failed)

made_keeps : {V : Type 0} (g : Ghosts V) (relseg : ℕ) (step : Files → Files) (event : Event) (old new : V) (result : Result (Unit {0}) AreaFault) → 0 < relseg → Makes g step event old new result
    → ((m : Files) → Made event m m × Made event m (step m))
    → ((base : Base) (m : Files) → HasNamedForks base.store → g.files old ≡ Some m → IsLeftOf relseg base m → Keeps relseg base event) → KeepsWhatStays g relseg old new
made_keeps g relseg step event old new result some makes may keeps base forks has =
    let m = has.0 in
    let k = keeps base m forks has.1.0 has.1.1 in
    let e = made_either g step event old new result m has.1.0 makes in
    let n = e.0 in
    let made : Made event m n = elim e.1.1 [
      | inl same ↦ subst (Made event m) (sym same) (may m).0
      | inr done ↦ subst (Made event m) (sym done) (may m).1
    ] in (
      (n, (e.1.0, event_left relseg base m some forks has.1.1 event n k made)),
      adds_weaker (λ (x : Event). x ≡ event) (Keeps relseg base) (g.past old) (g.past new) (λ x is. subst (Keeps relseg base) (sym is) k) makes.events,
    )

pub cut_keeps_all : {V : Type 0} (g : Ghosts V) (relseg : ℕ) (fork : ForkId) (seg blocks : ℕ) (old new : V) (result : Result (Unit {0}) AreaFault) → 0 < relseg → IsNamed fork seg → CutsTo g fork seg (blocks * 8192) old new result
    → ((m : Files) → g.files old ≡ Some m → blocks ≡ blocks_in relseg m fork seg) → KeepsWhatStays g relseg old new
cut_keeps_all g relseg fork seg blocks old new result some named makes told =
    let name = fork_path_bytes fork seg false in
    made_keeps g relseg (after_cut name (blocks * 8192)) (cut name (blocks * 8192)) old new result some makes
    (λ m. (same_is_cut name (blocks * 8192) m, cut_is_cut name (blocks * 8192) m))
    (λ base m forks is left. subst (λ (n : ℕ). Keeps relseg base (cut name (n * 8192))) (sym (told m is)) (cut_keeps relseg base m some forks left fork seg named))

pub removal_keeps_all : {V : Type 0} (g : Ghosts V) (relseg : ℕ) (fork : ForkId) (seg : ℕ) (old new : V) (result : Result (Unit {0}) AreaFault) → 0 < relseg → IsNamed fork seg → Removes g fork seg old new result
    → ((m : Files) → g.files old ≡ Some m → is_stray relseg m fork seg ≡ true) → KeepsWhatStays g relseg old new
removal_keeps_all g relseg fork seg old new result some named makes told =
    let name = fork_path_bytes fork seg false in
    made_keeps g relseg (after_remove name) (removed name) old new result some makes
    (λ m. (same_is_removed name m, removed_is_removed name m))
    (λ base m forks is left. removal_keeps relseg base m some forks left fork seg named (told m is))

-- ---- one step of the files

same_undecided : (step : Files → Files) (x : Option Files) → Related (IsUndecided step) x x
same_undecided step None = tt
same_undecided step (Some m) = inl refl

failed_by : (step : Files → Files) (x y : Option Files) (result : Result (Unit {0}) AreaFault) → (result ≡ Err NoMemory → y ≡ x) → (result ≡ Err Failed → Related (IsUndecided step) x y) → OnErr result (Related (IsUndecided step) x y)
failed_by step x y (Ok u) memory failed = tt
failed_by step x y (Err NoMemory) memory failed = subst (Related (IsUndecided step) x) (sym (memory refl)) (same_undecided step x)
failed_by step x y (Err Failed) memory failed = failed refl

pub makes_by : {V : Type 0} (g : Ghosts V) (step : Files → Files) (event : Event) (old new : V) (result : Result (Unit {0}) AreaFault) → OnOk result (g.files new ≡ option_map step (g.files old)) → (result ≡ Err NoMemory → g.files new ≡ g.files old)
    → (result ≡ Err Failed → Related (IsUndecided step) (g.files old) (g.files new)) → Notes event (g.past old) (g.past new) result → Tries event (g.past old) (g.past new) result → Makes g step event old new result
makes_by g step event old new result ok memory failed notes tries = record {
  done = ok;
  failed = failed_by step (g.files old) (g.files new) result memory failed;
  events = adds_by (λ (e : Event). e ≡ event) event (g.past old) (g.past new) result refl notes tries;
}
