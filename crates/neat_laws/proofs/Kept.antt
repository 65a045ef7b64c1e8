-- Files that are made neat keep their room and their forks, and so four areas hold a store's parts.
use Rattle.std.proofs.Common.{◌≡◌, ℕ, zero, suc, ◌/◌, ◌<◌, Bool, true, false, true≢false, cond, not, [], length, Option, Some, None, IfSome, is_some, unwrap_or, refl, sym, ap, subst, ◌∙◌, arith, eqb-true, eq-eqb}
use Rattle.std.specs.Prelude.{◌==◌, slice_get}
use Rattle.std.specs.FinMap.{get, empty, get-empty}
use Rattle.lsn_core.specs.Files.{Files}
use Rattle.lsn_core.specs.Blocks.{pages_of}
use Rattle.lsn_core.specs.Names.{fork_path_bytes, IsNamed}
use Rattle.lsn_core.specs.Store.{Store, ForkPages, fork_cmp}
use Rattle.lsn_core.specs.byte_words.Numbers.{◌>>=◌}
use Rattle.lsn_core.specs.declared.ids.ForkId.{ForkId}
use Rattle.vault.specs.declared.area.Vault.{Ghosts}
use Rattle.history.specs.partitions.Parts.{partition_of, is_of, IsPart}
use Rattle.rel_files.proofs.SegmentFiles.{renamed, less_by, first_file_tells}
use Rattle.stop_areas.specs.Left.{Base, IsLeftOf, LacksPage}
use Rattle.rel_neat.specs.Neat.{IsNeat, HasLeft}
use Rattle.data_areas.specs.Rebuilt.{HoldsPages}
use Rattle.data_areas.specs.declared.areas.DataAreas.{DataAreas}
use Rattle.restart_areas.specs.Areas.{AreNeat, KeepPages}
use Rattle.restart_areas.specs.Pages.{HoldParts}
use Rattle.neat_laws.specs.Laws.{NeateningKeepsOwnFiles, NeatAreasHoldStores}
use Rattle.neat_laws.specs.Room.{page_limit, AreOwnFiles, AreOwnAreas}
use Rattle.neat_laws.proofs.Held.{limit_is, held_store}
use Rattle.neat_laws.proofs.Stored.{store_with, with_named, with_some}

-- ---- what stays

abbrev no_forks : Store
no_forks = empty

-- nothing stays but that no fork has the last page of all, and that forks of others are missing
abbrev own_base : ℕ → Base
own_base q = record {
  ours = λ fork. true;
  store = no_forks;
  changed = λ fork block. not (block == page_limit);
  settled = λ fork. is_of q fork;
}

kept_one : (b : Bool) → not b ≡ false → b ≡ true
kept_one true e = refl
kept_one false e = absurd (true≢false e)

some_none : {A : Type 0} {P : Type 0} (x : A) → ◌≡◌ {A = Option A} None (Some x) → P
some_none x e = absurd cc

not_there : {A : Type 0} (o : Option A) → is_some o ≡ false → o ≡ None
not_there None e = refl
not_there (Some x) e = absurd (true≢false e)

missing_in : (fork : ForkId) → is_some (get no_forks fork) ≡ false
missing_in fork = ap (λ (o : Option ForkPages). is_some o) (get-empty fork_cmp fork)

own_left : (relseg q : ℕ) (told : Option Files) → AreOwnFiles relseg q told → HasLeft relseg (own_base q) told
own_left relseg q told own = (
  own.files,
  (
    own.are_told,
    record {
      pages = λ fork block page named stays.
          some_none page (sym (ap (λ (o : Option ForkPages). o >>= λ ps. slice_get ps block) (get-empty fork_cmp fork)) ∙ stays.there);
      missing = λ fork block named stays.
          let at = eqb-true block page_limit (kept_one (block == page_limit) stays.kept) in
          subst (LacksPage relseg own.files fork) (sym at) (own.room fork (renamed fork (block / relseg) 0 named (omega arith)));
      forks = λ fork named mine unsettled. ap is_some (own.own fork named unsettled) ∙ sym (missing_in fork);
    },
  ),
)

left_own : (relseg q : ℕ) (told : Option Files) → 0 < relseg → HasLeft relseg (own_base q) told → AreOwnFiles relseg q told
left_own relseg q told some has = record {
  files = has.0;
  are_told = has.1.0;
  room = λ fork named.
      let less = less_by page_limit relseg some in
      left.missing fork page_limit (renamed fork 0 (page_limit / relseg) named (omega (arith, less, limit_is))) (record {
        ours = refl;
        kept = ap (λ (b : Bool). not b) (eq-eqb page_limit page_limit refl);
        none = ap (λ (o : Option ForkPages). o >>= λ ps. slice_get ps page_limit) (get-empty fork_cmp fork);
      });
  own = λ fork named other. not_there (get has.0 (fork_path_bytes fork 0 false)) (left.forks fork named refl other ∙ missing_in fork);
}
  where
    left : IsLeftOf relseg (own_base q) has.0
    left = has.1.1

pub own_kept : {V : Type 0} (g : Ghosts V) → NeateningKeepsOwnFiles g
own_kept g relseg q old new some keeps own =
    left_own relseg q (g.files new) some
    (keeps (own_base q) (λ fork pages is. some_none pages (sym (get-empty fork_cmp fork) ∙ is)) (own_left relseg q (g.files old) own)).0

-- ---- four areas

-- neat files of a partition hold a store
abbrev HeldPart : ℕ → Option Files → Type 0
HeldPart relseg told = (part : Store) × HoldsPages relseg told part

held_part : (relseg q : ℕ) (told : Option Files) → 0 < relseg → AreOwnFiles relseg q told → IfSome told (IsNeat relseg) → HeldPart relseg told
held_part relseg q told some own neat =
    subst (HeldPart relseg) (sym own.are_told)
    (held_store relseg own.files some (subst (λ (o : Option Files). IfSome o (IsNeat relseg)) own.are_told neat) own.room)

one_files : (a b : Files) → Some a ≡ Some b → a ≡ b
one_files a b e = cc

-- and it has forks of the partition alone
no_other : (relseg q : ℕ) (told : Option Files) (part : Store) → 0 < relseg → AreOwnFiles relseg q told → HoldsPages relseg told part → (fork : ForkId) → is_of q fork ≡ false → get part fork ≡ None
no_other relseg q told part some own held fork other = by (get part fork) refl
  where
    by : (o : Option ForkPages) → get part fork ≡ o → o ≡ None
    by None is = refl
    by (Some pages) is =
        let files = held.files in
        let hold = files.hold in
        let named = renamed fork (length pages) 0 (hold.named fork pages is) (omega arith) in
        let same = one_files own.files files.files (sym own.are_told ∙ files.are_told) in
        let gone : get files.files (fork_path_bytes fork 0 false) ≡ None = sym (ap (λ (m : Files). get m (fork_path_bytes fork 0 false)) same) ∙ own.own fork named other in
        absurd (true≢false (sym (ap (λ (o : Option ForkPages). is_some o) is) ∙ sym (first_file_tells relseg files.files part fork some hold named) ∙ ap is_some gone))

-- one of four stores, by its number
abbrev pick : Store → Store → Store → Store → ℕ → Store
pick a b c d zero = a
pick a b c d (suc zero) = b
pick a b c d (suc (suc zero)) = c
pick a b c d (suc (suc (suc q))) = d

-- the store that has each fork as that of its partition has it
abbrev joined : (ℕ → Store) → Store
joined part = store_with page_limit limit_is (λ fork. pages_of (part (partition_of fork.rel)) fork) (λ fork. is_some (get (part (partition_of fork.rel)) fork))

as_it_is : (o : Option ForkPages) → cond (is_some o) (Some (unwrap_or o [])) None ≡ o
as_it_is None = refl
as_it_is (Some pages) = refl

joined_at : (part : ℕ → Store) → ((q : ℕ) (fork : ForkId) (pages : ForkPages) → get (part q) fork ≡ Some pages → IsNamed fork 0) → (fork : ForkId) → get (joined part) fork ≡ get (part (partition_of fork.rel)) fork
joined_at part named fork = by (get (joined part) fork) (get (part (partition_of fork.rel)) fork) refl refl
  where
    is : IsNamed fork 0 → get (joined part) fork ≡ get (part (partition_of fork.rel)) fork
    is fits = with_named page_limit limit_is (λ f. pages_of (part (partition_of f.rel)) f) (λ f. is_some (get (part (partition_of f.rel)) f)) fork fits ∙ as_it_is (get (part (partition_of fork.rel)) fork)

    by : (o p : Option ForkPages) → get (joined part) fork ≡ o → get (part (partition_of fork.rel)) fork ≡ p → get (joined part) fork ≡ get (part (partition_of fork.rel)) fork
    by None None e f = e ∙ sym f
    by None (Some ps) e f = is (named (partition_of fork.rel) fork ps f)
    by (Some ps) p e f = is (with_some page_limit limit_is (λ f. pages_of (part (partition_of f.rel)) f) (λ f. is_some (get (part (partition_of f.rel)) f)) fork ps e)

joined_part : (part : ℕ → Store) (q : ℕ) → ((fork : ForkId) → get (joined part) fork ≡ get (part (partition_of fork.rel)) fork) → ((fork : ForkId) → is_of q fork ≡ false → get (part q) fork ≡ None) → IsPart q (joined part) (part q)
joined_part part q at other fork = by (is_of q fork) refl
  where
    by : (b : Bool) → is_of q fork ≡ b → get (part q) fork ≡ cond (is_of q fork) (get (joined part) fork) None
    by true e =
        let same = eqb-true (partition_of fork.rel) q e in
        sym (at fork ∙ ap (λ (n : ℕ). get (part n) fork) same) ∙ sym (ap (λ (b : Bool). cond b (get (joined part) fork) None) e)
    by false e = other fork e ∙ sym (ap (λ (b : Bool). cond b (get (joined part) fork) None) e)

module _ {V : Type 0} (g : Ghosts V) (relseg : ℕ) (areas : DataAreas V) (some : 0 < relseg) (own : AreOwnAreas g relseg areas) (neat : AreNeat g relseg areas) where
  held0 : HeldPart relseg (g.files areas.data0)
  held0 = held_part relseg 0 (g.files areas.data0) some (own 0 (omega arith)) neat.data0

  held1 : HeldPart relseg (g.files areas.data1)
  held1 = held_part relseg 1 (g.files areas.data1) some (own 1 (omega arith)) neat.data1

  held2 : HeldPart relseg (g.files areas.data2)
  held2 = held_part relseg 2 (g.files areas.data2) some (own 2 (omega arith)) neat.data2

  held3 : HeldPart relseg (g.files areas.data3)
  held3 = held_part relseg 3 (g.files areas.data3) some (own 3 (omega arith)) neat.data3

  abbrev parts : ℕ → Store
  parts q = pick held0.0 held1.0 held2.0 held3.0 q

  in_named : (told : Option Files) (part : Store) → HoldsPages relseg told part → (fork : ForkId) (pages : ForkPages) → get part fork ≡ Some pages → IsNamed fork 0
  in_named told part held fork pages is =
      let files = held.files in
      let hold = files.hold in
      renamed fork (length pages) 0 (hold.named fork pages is) (omega arith)

  each_named : (q : ℕ) (fork : ForkId) (pages : ForkPages) → get (parts q) fork ≡ Some pages → IsNamed fork 0
  each_named zero = in_named (g.files areas.data0) held0.0 held0.1
  each_named (suc zero) = in_named (g.files areas.data1) held1.0 held1.1
  each_named (suc (suc zero)) = in_named (g.files areas.data2) held2.0 held2.1
  each_named (suc (suc (suc q))) = in_named (g.files areas.data3) held3.0 held3.1

  each_part : (q : ℕ) → ((fork : ForkId) → is_of q fork ≡ false → get (parts q) fork ≡ None) → IsPart q (joined parts) (parts q)
  each_part q = joined_part parts q (joined_at parts each_named)

  all_parts : HoldParts g relseg areas (joined parts)
  all_parts zero below = (held0.0, (each_part 0 (no_other relseg 0 (g.files areas.data0) held0.0 some (own 0 below) held0.1), held0.1))
  all_parts (suc zero) below = (held1.0, (each_part 1 (no_other relseg 1 (g.files areas.data1) held1.0 some (own 1 below) held1.1), held1.1))
  all_parts (suc (suc zero)) below = (held2.0, (each_part 2 (no_other relseg 2 (g.files areas.data2) held2.0 some (own 2 below) held2.1), held2.1))
  all_parts (suc (suc (suc zero))) below = (held3.0, (each_part 3 (no_other relseg 3 (g.files areas.data3) held3.0 some (own 3 below) held3.1), held3.1))
  all_parts (suc (suc (suc (suc q)))) below = absurd (omega (arith, below))

  pub areas_hold : (store : Store) × HoldParts g relseg areas store
  areas_hold = (joined parts, all_parts)

all_own : {V : Type 0} (g : Ghosts V) (relseg : ℕ) (old new : DataAreas V) → 0 < relseg → AreOwnAreas g relseg old → KeepPages g relseg old new → AreOwnAreas g relseg new
all_own g relseg old new some own keeps zero below = own_kept g relseg 0 old.data0 new.data0 some keeps.data0 (own 0 below)
all_own g relseg old new some own keeps (suc zero) below = own_kept g relseg 1 old.data1 new.data1 some keeps.data1 (own 1 below)
all_own g relseg old new some own keeps (suc (suc zero)) below = own_kept g relseg 2 old.data2 new.data2 some keeps.data2 (own 2 below)
all_own g relseg old new some own keeps (suc (suc (suc zero))) below = own_kept g relseg 3 old.data3 new.data3 some keeps.data3 (own 3 below)
all_own g relseg old new some own keeps (suc (suc (suc (suc q)))) below = absurd (omega (arith, below))

pub neat_areas : {V : Type 0} (g : Ghosts V) → NeatAreasHoldStores g
neat_areas g relseg old new some own keeps neat = areas_hold g relseg new some (all_own g relseg old new some own keeps) neat
