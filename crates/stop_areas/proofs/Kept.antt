-- What stays of the segment files of forks is left by a stop at each moment.
use Rattle.std.proofs.Common.{◌≡◌, ◌≢◌, ℕ, suc, ◌+◌, ◌*◌, ◌/◌, ◌%◌, ◌<◌, ◌≤◌, inl, inr, ⊎_elim, true, false, true≢false, List, [], length, get_or, Option, Some, None, IfSome, is_some, unwrap_or, refl, sym, ap, subst, ◌∙◌, arith}
use Rattle.std.proofs.lemmas.Bool.Decides.{leb_tells}
use Rattle.std.proofs.lemmas.Nat.{div-add-mod'}
use Rattle.std.specs.FinMap.{get, contains_key}
use Rattle.lsn_core.specs.declared.ids.ForkId.{ForkId}
use Rattle.lsn_core.specs.Files.{Files}
use Rattle.lsn_core.specs.Names.{fork_path_bytes, IsNamed}
use Rattle.lsn_core.proofs.ForkPaths.{one_place}
use Rattle.lsn_core.proofs.StoreFiles.{same_name, names_tie, name_itself}
use Rattle.vault.specs.Area.{bytes_of, IsTornFile, IsTorn}
use Rattle.vault.specs.Stops.{Event, IsCutFile, IsCutTo, IsRemoved, Made}
use Rattle.vault.proofs.Through.{leaves_only}
use Rattle.rel_files.specs.Forks.{IsForkPath}
use Rattle.rel_files.proofs.Segments.{below}
use Rattle.rel_files.proofs.SegmentFiles.{renamed}
use Rattle.stop_areas.specs.Left.{Base, Stays, StaysMissing, segment_of, HasPage, IsLeftOf}
use Rattle.stop_areas.specs.Keeps.{MayBeThere, MayBeGone, WritesChanged, MakesFirstFile, CutsChanged, RemovesChanged, Keeps}
use Rattle.stop_areas.specs.Laws.{StopsKeepPages}

-- ---- files by name

by_name : (q name : List ℕ) {P : Type 0} → (q ≡ name → P) → (q ≢ name → P) → P
by_name q name {P = P} here there =
    elim (same_name q name) as (λ c. same_name q name ≡ c → P) [
      | true ↦ λ e. here (names_tie q name e)
      | false ↦ λ e. there (λ same. true≢false (sym (ap (λ x. same_name x name) same ∙ name_itself name) ∙ e))
    ] refl

other_bytes : (name q : List ℕ) (d c : Files) → ((r : List ℕ) → r ≢ name → get c r ≡ get d r) → q ≢ name → bytes_of c q ≡ bytes_of d q
other_bytes name q d c others ne = ap (λ (o : Option (List ℕ)). unwrap_or o []) (others q ne)

torn_of : (at count : ℕ) (old new : Option (List ℕ)) → (new ≡ None → old ≡ None) → IfSome new (IsTornFile at count (unwrap_or old [])) → IsTornFile at count (unwrap_or old []) (unwrap_or new [])
torn_of at count old None missing file =
    subst (λ (o : Option (List ℕ)). IsTornFile at count (unwrap_or o []) []) (sym (missing refl)) (record { least = omega arith; most = omega arith; before = λ i lt low. refl; behind = λ i lt high. refl })
torn_of at count old (Some bytes) missing file = file

torn_bytes : (name : List ℕ) (at count : ℕ) (d c : Files) → IsTorn name at count d c → IsTornFile at count (bytes_of d name) (bytes_of c name)
torn_bytes name at count d c torn = torn_of at count (get d name) (get c name) torn.missing torn.file

torn_longer : (name q : List ℕ) (at count : ℕ) (d c : Files) → IsTorn name at count d c → length (bytes_of d q) ≤ length (bytes_of c q)
torn_longer name q at count d c torn =
    let file = torn_bytes name at count d c torn in
    by_name q name
    (λ e. subst (λ (r : List ℕ). length (bytes_of d r) ≤ length (bytes_of c r)) (sym e) file.least)
    (λ ne. let same = ap length (other_bytes name q d c torn.others ne) in omega (arith, same))

cut_of : (size : ℕ) (old new : Option (List ℕ)) → (new ≡ None → old ≡ None) → IfSome new (IsCutFile size (unwrap_or old [])) → IsCutFile size (unwrap_or old []) (unwrap_or new [])
cut_of size old None missing file =
    subst (λ (o : Option (List ℕ)). IsCutFile size (unwrap_or o []) []) (sym (missing refl)) (record { least = omega arith; most = omega arith; before = λ i lt low. refl })
cut_of size old (Some bytes) missing file = file

removed_of : (old : List ℕ) (new : Option (List ℕ)) → IfSome new (λ bytes. length bytes ≤ length old) → length (unwrap_or new []) ≤ length old
removed_of old None file = omega arith
removed_of old (Some bytes) file = file

some_by : (old new : Option (List ℕ)) → (new ≡ None → old ≡ None) → is_some old ≡ true → is_some new ≡ true
some_by old None missing there = absurd (true≢false (sym there ∙ ap (λ (o : Option (List ℕ)). is_some o) (missing refl)))
some_by old (Some bytes) missing there = refl

none_by : (old new : Option (List ℕ)) → (old ≡ None → new ≡ None) → is_some old ≡ false → is_some new ≡ false
none_by None new none missing = ap (λ (o : Option (List ℕ)). is_some o) (none refl)
none_by (Some bytes) new none there = absurd (true≢false there)

both_some : (old new : Option (List ℕ)) → (new ≡ None → old ≡ None) → (old ≡ None → new ≡ None) → is_some new ≡ is_some old
both_some None new missing none = ap (λ (o : Option (List ℕ)). is_some o) (none refl)
both_some (Some bytes) None missing none = absurd cc1
  where
    cc1 : ⊥
    cc1 = let e : Some bytes ≡ None = missing refl in absurd cc
both_some (Some bytes) (Some more) missing none = refl

moved : (base : Base) (fork other : ForkId) (block next : ℕ) (page : List ℕ) → fork ≡ other → block ≡ next → Stays base fork block page → Stays base other next page
moved base fork other block next page ef eb stays = subst (λ (g : ForkId). Stays base g next page) ef (subst (λ (n : ℕ). Stays base fork n page) eb stays)

moved_missing : (base : Base) (fork other : ForkId) (block : ℕ) → fork ≡ other → StaysMissing base fork block → StaysMissing base other block
moved_missing base fork other block ef stays = subst (λ (g : ForkId). StaysMissing base g block) ef stays

-- a fork's first file is there still, where the event may only have made it
forks_kept : (base : Base) (fork other : ForkId) (d c : Files) (path : List ℕ) → fork ≡ other → MayBeThere base other → base.ours fork ≡ true → base.settled fork ≡ false
    → is_some (get d path) ≡ contains_key base.store fork → (get c path ≡ None → get d path ≡ None) → is_some (get c path) ≡ contains_key base.store fork
forks_kept base fork other d c path ef may ours kept was missing =
    let there : contains_key base.store fork ≡ true = subst (λ (g : ForkId). MayBeThere base g) (sym ef) may ours kept in
    some_by (get d path) (get c path) missing (was ∙ there) ∙ sym there

-- ---- a page is written

write_keeps : (relseg : ℕ) (base : Base) (name : List ℕ) (at count : ℕ) (d c : Files) → 0 < relseg → WritesChanged relseg base name at count → IsLeftOf relseg base d → IsTorn name at count d c → IsLeftOf relseg base c
write_keeps relseg base name at count d c some w left torn = record {
  pages = λ fork block page named stays.
      let has = left.pages fork block page named stays in
      record {
        full = λ seg less. let h = has.full seg less in let l = torn_longer name (fork_path_bytes fork seg false) at count d c torn in omega (arith, h, l);
        room = let l = torn_longer name (fork_path_bytes fork (block / relseg) false) at count d c torn in omega (arith, has.room, l);
        bytes = λ i less. page_bytes fork block page named stays has i less ∙ has.bytes i less;
      };
  missing = λ fork block named stays.
      let path = fork_path_bytes fork (block / relseg) false in
      let was = left.missing fork block named stays in
      by_name path name
      (λ e.
      let place = one_place fork w.fork (block / relseg) (w.block / relseg) false false named w.named (e ∙ w.name_is) in
      let less : w.block < block = w.may.below block (moved_missing base fork w.fork block place.0 stays) in
      let mods = same_file block w.block place.1.0 in
      subst (λ (q : List ℕ). length (bytes_of d q) ≤ block % relseg * 8192 → length (bytes_of c q) ≤ block % relseg * 8192) (sym e)
      (λ was'. omega (arith, file.most, was', less, mods, w.at_is, w.small)) was)
      (λ ne. let same = ap length (other_bytes name path d c torn.others ne) in omega (arith, same, was));
  forks = λ fork named ours kept.
      let path = fork_path_bytes fork 0 false in
      let was = left.forks fork named ours kept in
      by_name path name
      (λ e.
      let place = one_place fork w.fork 0 (w.block / relseg) false false named w.named (e ∙ w.name_is) in
      forks_kept base fork w.fork d c path place.0 w.may.there ours kept was
      (subst (λ (q : List ℕ). get c q ≡ None → get d q ≡ None) (sym e) torn.missing))
      (λ ne. ap (λ (o : Option (List ℕ)). is_some o) (torn.others path ne) ∙ was);
}
  where
    file : IsTornFile at count (bytes_of d name) (bytes_of c name)
    file = torn_bytes name at count d c torn

    -- blocks of one file are as far apart as their places in it
    same_file : (a b : ℕ) → a / relseg ≡ b / relseg → a + b % relseg ≡ b + a % relseg
    same_file a b e =
        let pa = div-add-mod' a relseg in
        let pb = div-add-mod' b relseg in
        let times = ap (λ (n : ℕ). n * relseg) e in
        omega (arith, pa, pb, times)

    page_bytes : (fork : ForkId) (block : ℕ) (page : List ℕ) → IsNamed fork (block / relseg) → Stays base fork block page → HasPage relseg d fork block page → (i : ℕ) → i < 8192
        → get_or (segment_of c fork (block / relseg)) (block % relseg * 8192 + i) 0 ≡ get_or (segment_of d fork (block / relseg)) (block % relseg * 8192 + i) 0
    page_bytes fork block page named stays has i less =
        let path = fork_path_bytes fork (block / relseg) false in
        let x = block % relseg * 8192 + i in
        by_name path name
        (λ e.
        let place = one_place fork w.fork (block / relseg) (w.block / relseg) false false named w.named (e ∙ w.name_is) in
        let apart : block ≡ w.block → ⊥ = λ same. w.may.free page (moved base fork w.fork block w.block page place.0 same stays) in
        let mods = same_file block w.block place.1.0 in
        subst (λ (q : List ℕ). block % relseg * 8192 + 8192 ≤ length (bytes_of d q) → get_or (bytes_of c q) x 0 ≡ get_or (bytes_of d q) x 0) (sym e)
        (λ room. ⊎_elim
        (λ l. file.before x (omega (arith, room, less)) (omega (arith, l.1, mods, less, w.at_is)))
        (λ l. file.behind x (omega (arith, room, less)) (omega (arith, l.1, mods, less, w.at_is, w.small, apart)))
        (leb_tells (suc block) w.block))
        has.room)
        (λ ne. ap (λ (b : List ℕ). get_or b x 0) (other_bytes name path d c torn.others ne))

-- ---- a fork is made

make_keeps : (relseg : ℕ) (base : Base) (name : List ℕ) (at count : ℕ) (d c : Files) → MakesFirstFile base name at count → IsLeftOf relseg base d → IsTorn name at count d c → IsLeftOf relseg base c
make_keeps relseg base name at count d c w left torn = record {
  pages = λ fork block page named stays.
      let has = left.pages fork block page named stays in
      record {
        full = λ seg less. let h = has.full seg less in let l = torn_longer name (fork_path_bytes fork seg false) at count d c torn in omega (arith, h, l);
        room = let l = torn_longer name (fork_path_bytes fork (block / relseg) false) at count d c torn in omega (arith, has.room, l);
        bytes = λ i less. byte (fork_path_bytes fork (block / relseg) false) (block % relseg * 8192 + i) (omega (arith, has.room, less)) ∙ has.bytes i less;
      };
  missing = λ fork block named stays. let was = left.missing fork block named stays in let l = longest (fork_path_bytes fork (block / relseg) false) in omega (arith, was, l);
  forks = λ fork named ours kept.
      let path = fork_path_bytes fork 0 false in
      let was = left.forks fork named ours kept in
      by_name path name
      (λ e.
      let place = one_place fork w.fork 0 0 false false named w.named (e ∙ w.name_is) in
      forks_kept base fork w.fork d c path place.0 w.may ours kept was
      (subst (λ (q : List ℕ). get c q ≡ None → get d q ≡ None) (sym e) torn.missing))
      (λ ne. ap (λ (o : Option (List ℕ)). is_some o) (torn.others path ne) ∙ was);
}
  where
    file : IsTornFile at count (bytes_of d name) (bytes_of c name)
    file = torn_bytes name at count d c torn

    byte : (q : List ℕ) (x : ℕ) → x < length (bytes_of d q) → get_or (bytes_of c q) x 0 ≡ get_or (bytes_of d q) x 0
    byte q x less =
        by_name q name
        (λ e. subst (λ (r : List ℕ). x < length (bytes_of d r) → get_or (bytes_of c r) x 0 ≡ get_or (bytes_of d r) x 0) (sym e) (λ l. file.behind x l (omega (arith, w.at_is, w.none))) less)
        (λ ne. ap (λ (b : List ℕ). get_or b x 0) (other_bytes name q d c torn.others ne))

    longest : (q : List ℕ) → length (bytes_of c q) ≤ length (bytes_of d q)
    longest q =
        by_name q name
        (λ e. subst (λ (r : List ℕ). length (bytes_of c r) ≤ length (bytes_of d r)) (sym e) (omega (arith, file.most, w.at_is, w.none)))
        (λ ne. let same = ap length (other_bytes name q d c torn.others ne) in omega (arith, same))

-- ---- a file is cut

cut_keeps : (relseg : ℕ) (base : Base) (name : List ℕ) (size : ℕ) (d c : Files) → 0 < relseg → CutsChanged relseg base name size → IsLeftOf relseg base d → IsCutTo name size d c → IsLeftOf relseg base c
cut_keeps relseg base name size d c some k left cut = record {
  pages = λ fork block page named stays.
      let has = left.pages fork block page named stays in
      record {
        full = λ seg less. still_full fork block page seg named stays has less;
        room = still_room fork block page named stays has;
        bytes = λ i less. page_bytes fork block page named stays has i less ∙ has.bytes i less;
      };
  missing = λ fork block named stays. let was = left.missing fork block named stays in let l = shorter (fork_path_bytes fork (block / relseg) false) in omega (arith, was, l);
  forks = λ fork named ours kept. there (fork_path_bytes fork 0 false) ∙ left.forks fork named ours kept;
}
  where
    file : IsCutFile size (bytes_of d name) (bytes_of c name)
    file = cut_of size (get d name) (get c name) cut.missing cut.file

    shorter : (q : List ℕ) → length (bytes_of c q) ≤ length (bytes_of d q)
    shorter q =
        by_name q name
        (λ e. subst (λ (r : List ℕ). length (bytes_of c r) ≤ length (bytes_of d r)) (sym e) file.most)
        (λ ne. let same = ap length (other_bytes name q d c cut.others ne) in omega (arith, same))

    there : (q : List ℕ) → is_some (get c q) ≡ is_some (get d q)
    there q =
        by_name q name
        (λ e. subst (λ (r : List ℕ). is_some (get c r) ≡ is_some (get d r)) (sym e) (both_some (get d name) (get c name) cut.missing cut.none))
        (λ ne. ap (λ (o : Option (List ℕ)). is_some o) (cut.others q ne))

    -- where the file of a page that stays is cut, and a file before it
    here : (fork : ForkId) (block : ℕ) (page : List ℕ) → IsNamed fork (block / relseg) → Stays base fork block page → fork_path_bytes fork (block / relseg) false ≡ name → block % relseg * 8192 + 8192 ≤ size
    here fork block page named stays e =
        let place = one_place fork k.fork (block / relseg) k.seg false false named k.named (e ∙ k.name_is) in
        k.here block page (moved base fork k.fork block block page place.0 refl stays) place.1.0

    later : (fork : ForkId) (block : ℕ) (page : List ℕ) (seg : ℕ) → IsNamed fork seg → Stays base fork block page → seg < block / relseg → fork_path_bytes fork seg false ≡ name → relseg * 8192 ≤ size
    later fork block page seg named stays less e =
        let place = one_place fork k.fork seg k.seg false false named k.named (e ∙ k.name_is) in
        k.later block page (moved base fork k.fork block block page place.0 refl stays) (subst (λ (s : ℕ). s < block / relseg) place.1.0 less)

    still_room : (fork : ForkId) (block : ℕ) (page : List ℕ) → IsNamed fork (block / relseg) → Stays base fork block page → HasPage relseg d fork block page → block % relseg * 8192 + 8192 ≤ length (segment_of c fork (block / relseg))
    still_room fork block page named stays has =
        let path = fork_path_bytes fork (block / relseg) false in
        by_name path name
        (λ e.
        let b = here fork block page named stays e in
        subst (λ (q : List ℕ). block % relseg * 8192 + 8192 ≤ length (bytes_of d q) → block % relseg * 8192 + 8192 ≤ length (bytes_of c q)) (sym e) (λ room. omega (arith, room, file.least, b)) has.room)
        (λ ne. let same = ap length (other_bytes name path d c cut.others ne) in omega (arith, same, has.room))

    page_bytes : (fork : ForkId) (block : ℕ) (page : List ℕ) → IsNamed fork (block / relseg) → Stays base fork block page → HasPage relseg d fork block page → (i : ℕ) → i < 8192
        → get_or (segment_of c fork (block / relseg)) (block % relseg * 8192 + i) 0 ≡ get_or (segment_of d fork (block / relseg)) (block % relseg * 8192 + i) 0
    page_bytes fork block page named stays has i less =
        let path = fork_path_bytes fork (block / relseg) false in
        let x = block % relseg * 8192 + i in
        by_name path name
        (λ e.
        let b = here fork block page named stays e in
        subst (λ (q : List ℕ). block % relseg * 8192 + 8192 ≤ length (bytes_of d q) → get_or (bytes_of c q) x 0 ≡ get_or (bytes_of d q) x 0) (sym e)
        (λ room. file.before x (omega (arith, room, less)) (omega (arith, b, less))) has.room)
        (λ ne. ap (λ (l : List ℕ). get_or l x 0) (other_bytes name path d c cut.others ne))

    still_full : (fork : ForkId) (block : ℕ) (page : List ℕ) (seg : ℕ) → IsNamed fork (block / relseg) → Stays base fork block page → HasPage relseg d fork block page → seg < block / relseg → relseg * 8192 ≤ length (segment_of c fork seg)
    still_full fork block page seg named stays has less =
        let path = fork_path_bytes fork seg false in
        let was = has.full seg less in
        by_name path name
        (λ e.
        let b = later fork block page seg (renamed fork (block / relseg) seg named (let f = named.seg_fits in omega (arith, f, less))) stays less e in
        subst (λ (q : List ℕ). relseg * 8192 ≤ length (bytes_of d q) → relseg * 8192 ≤ length (bytes_of c q)) (sym e) (λ full. omega (arith, full, file.least, b)) was)
        (λ ne. let same = ap length (other_bytes name path d c cut.others ne) in omega (arith, same, was))

-- ---- a file is removed

removal_keeps : (relseg : ℕ) (base : Base) (name : List ℕ) (d c : Files) → 0 < relseg → RemovesChanged relseg base name → IsLeftOf relseg base d → IsRemoved name d c → IsLeftOf relseg base c
removal_keeps relseg base name d c some k left gone = record {
  pages = λ fork block page named stays.
      let has = left.pages fork block page named stays in
      let parts = div-add-mod' block relseg in
      let same : segment_of c fork (block / relseg) ≡ segment_of d fork (block / relseg) = kept fork block page (block / relseg) named stays (omega (arith, parts)) in
      record {
        full = λ seg less.
            let order = below seg (block / relseg) relseg less in
            let f = named.seg_fits in
            let other = ap length (kept fork block page seg (renamed fork (block / relseg) seg named (omega (arith, f, less))) stays (omega (arith, order, parts))) in
            let was = has.full seg less in
            omega (arith, other, was);
        room = let l = ap length same in omega (arith, l, has.room);
        bytes = λ i less. ap (λ (l : List ℕ). get_or l (block % relseg * 8192 + i) 0) same ∙ has.bytes i less;
      };
  missing = λ fork block named stays. let was = left.missing fork block named stays in let l = shorter (fork_path_bytes fork (block / relseg) false) in omega (arith, was, l);
  forks = λ fork named ours unsettled.
      let path = fork_path_bytes fork 0 false in
      let was = left.forks fork named ours unsettled in
      by_name path name
      (λ e.
      let place = one_place fork k.fork 0 k.seg false false named k.named (e ∙ k.name_is) in
      let lacked : contains_key base.store fork ≡ false = subst (λ (g : ForkId). MayBeGone base g) (sym place.0) (k.first (sym place.1.0)) ours unsettled in
      subst (λ (q : List ℕ). is_some (get d q) ≡ false → is_some (get c q) ≡ false) (sym e) (λ none. none_by (get d name) (get c name) gone.none none) (was ∙ lacked) ∙ sym lacked)
      (λ ne. ap (λ (o : Option (List ℕ)). is_some o) (gone.others path ne) ∙ was);
}
  where
    shorter : (q : List ℕ) → length (bytes_of c q) ≤ length (bytes_of d q)
    shorter q =
        by_name q name
        (λ e. subst (λ (r : List ℕ). length (bytes_of c r) ≤ length (bytes_of d r)) (sym e) (removed_of (bytes_of d name) (get c name) gone.file))
        (λ ne. let same = ap length (other_bytes name q d c gone.others ne) in omega (arith, same))

    kept : (fork : ForkId) (block : ℕ) (page : List ℕ) (seg : ℕ) → IsNamed fork seg → Stays base fork block page → seg * relseg ≤ block → segment_of c fork seg ≡ segment_of d fork seg
    kept fork block page seg named stays before =
        other_bytes name (fork_path_bytes fork seg false) d c gone.others (λ e.
        let place = one_place fork k.fork seg k.seg false false named k.named (e ∙ k.name_is) in
        let b = k.behind block page (moved base fork k.fork block block page place.0 refl stays) in
        let times = ap (λ (n : ℕ). n * relseg) place.1.0 in
        absurd (omega (arith, b, times, before)))

-- ---- a file that is no fork's

other_keeps : (relseg : ℕ) (base : Base) (name : List ℕ) (d c : Files) → (IsForkPath name → ⊥) → IsLeftOf relseg base d → ((q : List ℕ) → q ≢ name → get c q ≡ get d q) → IsLeftOf relseg base c
other_keeps relseg base name d c other left others = record {
  pages = λ fork block page named stays.
      let has = left.pages fork block page named stays in
      let same = kept fork (block / relseg) named in
      record {
        full = λ seg less.
            let f = named.seg_fits in
            let before = ap length (kept fork seg (renamed fork (block / relseg) seg named (omega (arith, f, less)))) in
            let was = has.full seg less in
            omega (arith, before, was);
        room = let l = ap length same in omega (arith, l, has.room);
        bytes = λ i less. ap (λ (l : List ℕ). get_or l (block % relseg * 8192 + i) 0) same ∙ has.bytes i less;
      };
  missing = λ fork block named stays. let was = left.missing fork block named stays in let l = ap length (kept fork (block / relseg) named) in omega (arith, was, l);
  forks = λ fork named ours unsettled. ap (λ (o : Option (List ℕ)). is_some o) (others (fork_path_bytes fork 0 false) (λ e. other (record { fork = fork; seg = 0; named = named; path_is = sym e }))) ∙ left.forks fork named ours unsettled;
}
  where
    kept : (fork : ForkId) (seg : ℕ) → IsNamed fork seg → segment_of c fork seg ≡ segment_of d fork seg
    kept fork seg named = other_bytes name (fork_path_bytes fork seg false) d c others (λ e. other (record { fork = fork; seg = seg; named = named; path_is = sym e }))

-- ---- all events

event_keeps : (relseg : ℕ) (base : Base) → 0 < relseg → (event : Event) (d c : Files) → Keeps relseg base event → IsLeftOf relseg base d → Made event d c → IsLeftOf relseg base c
event_keeps relseg base some (inl w) d c (inl writes) left made = write_keeps relseg base w.0 w.1.0 (length w.1.1) d c some writes left made
event_keeps relseg base some (inl w) d c (inr (inl makes)) left made = make_keeps relseg base w.0 w.1.0 (length w.1.1) d c makes left made
event_keeps relseg base some (inl w) d c (inr (inr other)) left made = other_keeps relseg base w.0 d c other left made.others
event_keeps relseg base some (inr (inl k)) d c (inl keeps) left made = cut_keeps relseg base k.0 k.1 d c some keeps left made
event_keeps relseg base some (inr (inl k)) d c (inr other) left made = other_keeps relseg base k.0 d c other left made.others
event_keeps relseg base some (inr (inr (inl name))) d c (inl keeps) left made = removal_keeps relseg base name d c some keeps left made
event_keeps relseg base some (inr (inr (inl name))) d c (inr other) left made = other_keeps relseg base name d c other left made.others
event_keeps relseg base some (inr (inr (inr None))) d c keeps left made = subst (IsLeftOf relseg base) (sym made) left
event_keeps relseg base some (inr (inr (inr (Some files)))) d c keeps left made = subst (IsLeftOf relseg base) (sym made.0) left

pub stops_keep_pages : StopsKeepPages
stops_keep_pages relseg base old new some adds left = leaves_only (IsLeftOf relseg base) (Keeps relseg base) old new (event_keeps relseg base some) adds left
