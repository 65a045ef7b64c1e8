-- What is kept of files beside which the file of one more summary is written.
use Rattle.std.proofs.Common.{◌≡◌, ℕ, ◌<◌, ◌≤◌, Bool, true, false, T, ◌&&◌, inl, inr, List, [], ◌∷◌, ◌++◌, append_assoc, map, Option, Some, cond, unwrap_or, refl, sym, ap, subst, ◌∙◌, arith, true≢false}
use Rattle.std.specs.List.{AllByRecursion}
use Rattle.std.specs.Ordering.{nat_cmp, is_eq, is_lt, ordering_reverse}
use Rattle.std.specs.declared.cmp.Ordering.{Ordering}
use Rattle.std.specs.declared.cmp.Ordering.TheVariants.{Less, Equal, Greater}
use Rattle.std.specs.Cmp.Lexicographic.{slice_cmp, nat_list_cmp_total}
use Rattle.std.specs.FinMap.{get, insert, entries, keys, entries_sorted, entries-insert, get-insert, slice_cmp-IsAntisymmetric, nat_cmp-IsAntisymmetric}
use Rattle.std.specs.FinMap.Entries.{put, by_order, is_sorted, below_all}
use Rattle.std.specs.Prelude.{nat_le, nat_lt}
use Rattle.std.proofs.lemmas.Bool.{and_parts, cases_lt, ltb-true}
use Rattle.std.proofs.lemmas.List.{append-nil}
use Rattle.lsn_core.specs.Files.{Files}
use Rattle.lsn_core.proofs.StoreFiles.{same_name, name_itself}
use Rattle.vault.specs.Area.{bytes_of}
use Rattle.history.specs.Entry.{Entry}
use Rattle.wal_summary.specs.declared.summary.Summary.{Summary}
use Rattle.wal_summary.specs.Kept.{covers, is_covered}
use Rattle.summary_file.specs.File.{IsFileOf, summary_bytes}
use Rattle.summary_file.specs.Name.{summary_name_bytes}
use Rattle.summary_file.proofs.Decoding.{file_once}
use Rattle.summary_store.specs.Kept.{IsSummaryIn, IsPassedOver, AreKeptPast, AreKept, end_behind}
use Rattle.summary_store.proofs.Keeping.{end_push}
use Rattle.shared_summaries.specs.summary_publish.Published.{AreNext, IsWhole, with_file, with_files}
use Rattle.shared_summaries.proofs.summary_publish.Fitting.{one_of}
use Rattle.shared_summaries.proofs.summary_publish.SummaryNames.{names_rise}

-- ---- what is kept

low_end : (low : ℕ) (files : Files) (names : List (List ℕ)) (kept : List Summary) → AreKeptPast low files names kept → low ≤ end_behind low kept
low_end low files names [] held = omega arith
low_end low files [] (t ∷ ts) held = absurd cc
low_end low files (name ∷ names) (t ∷ ts) (inl here) =
    let up = here.0.0.file.writable.rises in
    let from = here.0.1 in
    let rest = low_end t.end.0 files names ts here.1 in
    omega (arith, up, from, rest)
low_end low files (name ∷ names) (t ∷ ts) (inr over) = low_end low files names (t ∷ ts) over.1

-- each summary among files of these names starts below a place; there is none
abbrev pub StartBelow : ℕ → Files → List (List ℕ) → Type 0
StartBelow place files names = AllByRecursion (λ name. (s : Summary) → IsSummaryIn files name s → s.start.0 < place) names

abbrev AreNone : Files → List (List ℕ) → Type 0
AreNone files names = AllByRecursion (λ name. (s : Summary) → IsSummaryIn files name s → ⊥) names

passed_below : (low place : ℕ) (files : Files) (name : List ℕ) → IsPassedOver low files name → low ≤ place → (s : Summary) → IsSummaryIn files name s → s.start.0 < place
passed_below low place files name over le s is =
    elim (cases_lt s.start.0 low) [
      | inl less ↦ omega (arith, less, le)
      | inr more ↦ absurd (over s (is, more))
    ]

-- none starts at the end of what is kept or past it
start_below : (low : ℕ) (files : Files) (names : List (List ℕ)) (kept : List Summary) → AreKeptPast low files names kept → StartBelow (end_behind low kept) files names
start_below low files [] kept held = tt
start_below low files (name ∷ names) [] held = (passed_below low low files name held.0 (omega arith), start_below low files names [] held.1)
start_below low files (name ∷ names) (t ∷ ts) (inl here) =
    let up = here.0.0.file.writable.rises in
    let rest = low_end t.end.0 files names ts here.1 in (
      λ s is. let same = ap (λ (x : Summary). x.start.0) (file_once (bytes_of files name) s t is.file here.0.0.file) in omega (arith, up, rest, same),
      start_below t.end.0 files names ts here.1,
    )
start_below low files (name ∷ names) (t ∷ ts) (inr over) =
    (passed_below low (end_behind low (t ∷ ts)) files name over.0 (low_end low files names (t ∷ ts) over.1), start_below low files names (t ∷ ts) over.1)

below_on : (a b : ℕ) (files : Files) (names : List (List ℕ)) → a ≤ b → StartBelow a files names → StartBelow b files names
below_on a b files [] le below = tt
below_on a b files (name ∷ names) le below = (λ s is. let lt = below.0 s is in omega (arith, lt, le), below_on a b files names le below.1)

none_kept : (low : ℕ) (files : Files) (names : List (List ℕ)) (kept : List Summary) → AreNone files names → AreKeptPast low files names kept → kept ≡ []
none_kept low files [] kept none held = held
none_kept low files (name ∷ names) [] none held = refl
none_kept low files (name ∷ names) (t ∷ ts) none (inl here) = absurd (none.0 t here.0.0)
none_kept low files (name ∷ names) (t ∷ ts) none (inr over) = none_kept low files names (t ∷ ts) none.1 over.1

pass_all : (low : ℕ) (files : Files) (names : List (List ℕ)) → AreNone files names → AreKeptPast low files names []
pass_all low files [] none = refl
pass_all low files (name ∷ names) none = (λ s kept. none.0 s kept.0, pass_all low files names none.1)

-- one list is kept
pub kept_once : (low : ℕ) (files : Files) (names : List (List ℕ)) (one other : List Summary) → AreKeptPast low files names one → AreKeptPast low files names other → one ≡ other
kept_once low files [] one other a b = a ∙ sym b
kept_once low files (name ∷ names) [] [] a b = refl
kept_once low files (name ∷ names) [] (u ∷ us) a (inl here) = absurd (a.0 u here.0)
kept_once low files (name ∷ names) [] (u ∷ us) a (inr over) = kept_once low files names [] (u ∷ us) a.1 over.1
kept_once low files (name ∷ names) (t ∷ ts) [] (inl here) b = absurd (b.0 t here.0)
kept_once low files (name ∷ names) (t ∷ ts) [] (inr over) b = kept_once low files names (t ∷ ts) [] over.1 b.1
kept_once low files (name ∷ names) (t ∷ ts) (u ∷ us) (inl here) (inl there) =
    let same : t ≡ u = file_once (bytes_of files name) t u here.0.0.file there.0.0.file in
    let rest : ts ≡ us = kept_once t.end.0 files names ts us here.1 (subst (λ (x : Summary). AreKeptPast x.end.0 files names us) (sym same) there.1) in
    λ i. same i ∷ rest i
kept_once low files (name ∷ names) (t ∷ ts) (u ∷ us) (inl here) (inr over) = absurd (over.0 t here.0)
kept_once low files (name ∷ names) (t ∷ ts) (u ∷ us) (inr over) (inl there) = absurd (over.0 u there.0)
kept_once low files (name ∷ names) (t ∷ ts) (u ∷ us) (inr over) (inr passed) = kept_once low files names (t ∷ ts) (u ∷ us) over.1 passed.1

-- a place that is covered is below the end
pub covered_below : (place low : ℕ) (files : Files) (names : List (List ℕ)) (kept : List Summary) → AreKeptPast low files names kept → is_covered kept place ≡ true → place < end_behind low kept
covered_below place low files names [] held is = absurd (true≢false (sym is))
covered_below place low files [] (t ∷ ts) held is = absurd cc
covered_below place low files (name ∷ names) (t ∷ ts) (inl here) is =
    let rest = low_end t.end.0 files names ts here.1 in
    one_of (place < end_behind t.end.0 ts) (covers place t) (is_covered ts place)
    (λ own. let lt = ltb-true place t.end.0 (and_parts (nat_le t.start.0 place) (nat_lt place t.end.0) own).1 in omega (arith, lt, rest))
    (λ behind. covered_below place t.end.0 files names ts here.1 behind) is
covered_below place low files (name ∷ names) (t ∷ ts) (inr over) is = covered_below place low files names (t ∷ ts) over.1 is

-- ---- names in byte order

abbrev byte_order : List ℕ → List ℕ → Ordering
byte_order = slice_cmp nat_cmp

abbrev AreAbove : List ℕ → List (List ℕ) → Type 0
AreAbove name names = AllByRecursion (λ other. byte_order name other ≡ Less) names

abbrev NamedFiles : Type 0
NamedFiles = List (List ℕ × List ℕ)

abbrev names_in : NamedFiles → List (List ℕ)
names_in files = map (λ e. e.0) files

both : (a b : Bool) → T (a && b) → T a × T b
both true b h = (tt, h)
both false b h = absurd h

less : (o : Ordering) → T (is_lt o) → o ≡ Less
less Less h = refl
less Equal h = absurd h
less Greater h = absurd h

above : (name : List ℕ) (es : NamedFiles) → T (below_all byte_order name es) → AreAbove name (names_in es)
above name [] h = tt
above name (e ∷ es) h = let p = both (is_lt (byte_order name e.0)) (below_all byte_order name es) h in (less (byte_order name e.0) p.0, above name es p.1)

above_on : (a b : List ℕ) (names : List (List ℕ)) → ((c : List ℕ) → byte_order b c ≡ Less → byte_order a c ≡ Less) → AreAbove b names → AreAbove a names
above_on a b [] f h = tt
above_on a b (name ∷ names) f h = (f name h.0, above_on a b names f h.1)

turned : (a b : List ℕ) (r : Ordering) → byte_order a b ≡ r → byte_order b a ≡ ordering_reverse r
turned a b r e = nat_list_cmp_total.antisymm b a ∙ ap ordering_reverse e

-- ---- one more file

-- other files than this one have the bytes that they had
abbrev IsFrame : Files → Files → List ℕ → Type 0
IsFrame files now name = (other : List ℕ) → same_name other name ≡ false → bytes_of now other ≡ bytes_of files other

was : (files now : Files) (name : List ℕ) (s : Summary) → bytes_of now name ≡ bytes_of files name → IsSummaryIn now name s → IsSummaryIn files name s
was files now name s same is = record { named = is.named; file = subst (IsFileOf s) same is.file }

stays : (files now : Files) (name : List ℕ) (s : Summary) → bytes_of now name ≡ bytes_of files name → IsSummaryIn files name s → IsSummaryIn now name s
stays files now name s same is = record { named = is.named; file = subst (IsFileOf s) (sym same) is.file }

-- a summary that starts below another one has the lesser name
lesser : (files now : Files) (a b : List ℕ) (s t : Summary) → IsSummaryIn files a s → IsSummaryIn now b t → s.start.0 < t.start.0 → byte_order a b ≡ Less
lesser files now a b s t is there lt =
    subst (λ (x : List ℕ). byte_order x b ≡ Less) (sym is.named)
    (subst (λ (x : List ℕ). byte_order (summary_name_bytes s.start.0 s.end.0) x ≡ Less) (sym there.named)
    (names_rise s.start.0 s.end.0 t.start.0 t.end.0 lt there.file.room.start))

not_less : (r : Ordering) → r ≡ Less → r ≡ Greater → ⊥
not_less r a b = absurd (let e : Less ≡ Greater = sym a ∙ b in cc)

not_equal : (r : Ordering) → r ≡ Less → r ≡ Equal → ⊥
not_equal r a b = absurd (let e : Less ≡ Equal = sym a ∙ b in cc)

none_above_old : (files now : Files) (name : List ℕ) (s : Summary) (names : List (List ℕ)) → IsSummaryIn now name s → AreAbove name names → StartBelow s.start.0 files names → AreNone files names
none_above_old files now name s [] is high below = tt
none_above_old files now name s (other ∷ names) is high below = (
  λ t there. not_less (byte_order other name) (lesser files now other name t s there is (below.0 t there)) (turned name other Less high.0),
  none_above_old files now name s names is high.1 below.1,
)

none_above : (files now : Files) (name : List ℕ) (s : Summary) (names : List (List ℕ)) → IsFrame files now name → IsSummaryIn now name s → AreAbove name names → StartBelow s.start.0 files names → AreNone now names
none_above files now name s [] frame is high below = tt
none_above files now name s (other ∷ names) frame is high below = (
  λ t there.
      let past : byte_order other name ≡ Greater = turned name other Less high.0 in
      let old = was files now other t (frame other (ap is_eq past)) there in
      not_less (byte_order other name) (lesser files now other name t s old is (below.0 t old)) past,
  none_above files now name s names frame is high.1 below.1,
)

kept_first : (low : ℕ) (now : Files) (name : List ℕ) (s : Summary) (names : List (List ℕ)) (kept : List Summary) → kept ≡ [] → AreNone now names → IsSummaryIn now name s → end_behind low kept ≤ s.start.0 → AreKeptPast low now (name ∷ names) (kept ++ (s ∷ []))
kept_first low now name s names kept none free is le =
    subst (λ (l : List Summary). AreKeptPast low now (name ∷ names) (l ++ (s ∷ []))) (sym none)
    (inl ((is, subst (λ (l : List Summary). end_behind low l ≤ s.start.0) none le), pass_all s.end.0 now names free))

-- what is kept of files with names behind a first one
abbrev IsKeptWith : Files → Files → List (List ℕ) → List (List ℕ) → Summary → Type 0
IsKeptWith files now names more s =
    (low : ℕ) (kept : List Summary) → AreKeptPast low files names kept → end_behind low kept ≤ s.start.0 → AreKeptPast low now more (kept ++ (s ∷ []))

kept_later : (files now : Files) (name : List ℕ) (names more : List (List ℕ)) (s : Summary) → bytes_of now name ≡ bytes_of files name → IsKeptWith files now names more s → IsKeptWith files now (name ∷ names) (name ∷ more) s
kept_later files now name names more s same f low [] held le = inr (λ t kept. held.0 t (was files now name t same kept.0, kept.1), f low [] held.1 le)
kept_later files now name names more s same f low (t ∷ ts) (inl here) le = inl ((stays files now name t same here.0.0, here.0.1), f t.end.0 ts here.1 le)
kept_later files now name names more s same f low (t ∷ ts) (inr over) le = inr (λ u kept. over.0 u (was files now name u same kept.0, kept.1), f low (t ∷ ts) over.1 le)

kept_with : (files now : Files) (name bytes : List ℕ) (s : Summary) (es : NamedFiles) → IsFrame files now name → IsSummaryIn now name s → T (is_sorted byte_order es) → StartBelow s.start.0 files (names_in es) → IsKeptWith files now (names_in es) (names_in (put byte_order name bytes es)) s
kept_with files now name bytes s [] frame is sorted below = λ low kept held le. kept_first low now name s [] kept held tt is le
kept_with files now name bytes s (e ∷ es) frame is sorted below =
    let parts = both (below_all byte_order e.0 es) (is_sorted byte_order es) sorted in
    let behind = above e.0 es parts.0 in
    elim (byte_order name e.0) as (λ r. byte_order name e.0 ≡ r → IsKeptWith files now (names_in (e ∷ es)) (names_in (by_order r ((name, bytes) ∷ e ∷ es) ((e.0, bytes) ∷ es) (e ∷ put byte_order name bytes es))) s) [
      | Less ↦ λ lt low kept held le.
          let high : AreAbove name (names_in (e ∷ es)) = (lt, above_on name e.0 (names_in es) (λ c. nat_list_cmp_total.trans name e.0 c lt) behind) in
          let old : AreNone files (names_in (e ∷ es)) = none_above_old files now name s (names_in (e ∷ es)) is high below in
          kept_first low now name s (names_in (e ∷ es)) kept (none_kept low files (names_in (e ∷ es)) kept old held) (none_above files now name s (names_in (e ∷ es)) frame is high below) is le
      | Equal ↦ λ tie low kept held le.
          let same : name ≡ e.0 = slice_cmp-IsAntisymmetric nat_cmp-IsAntisymmetric name e.0 tie in
          let high : AreAbove name (names_in es) = above_on name e.0 (names_in es) (λ c h. nat_list_cmp_total.congr name e.0 c tie ∙ h) behind in
          let old : AreNone files (names_in (e ∷ es)) = (λ t there. not_equal (byte_order e.0 name) (lesser files now e.0 name t s there is (below.0 t there)) (turned name e.0 Equal tie), none_above_old files now name s (names_in es) is high below.1) in
          kept_first low now e.0 s (names_in es) kept (none_kept low files (names_in (e ∷ es)) kept old held) (none_above files now name s (names_in es) frame is high below.1) (subst (λ (x : List ℕ). IsSummaryIn now x s) same is) le
      | Greater ↦ λ past.
          kept_later files now e.0 (names_in es) (names_in (put byte_order name bytes es)) s (frame e.0 (ap is_eq (turned name e.0 Greater past))) (kept_with files now name bytes s es frame is parts.1 below.1)
    ] refl

-- ---- what is kept beside the file of one more summary

frame_one : (files : Files) (name bytes : List ℕ) → IsFrame files (insert files name bytes) name
frame_one files name bytes other apart =
    ap (λ (o : Option (List ℕ)). unwrap_or o []) (get-insert nat_list_cmp_total files name bytes other ∙ ap (λ (b : Bool). cond b (Some bytes) (get files other)) apart)

pub there : (files : Files) (name bytes : List ℕ) → bytes_of (insert files name bytes) name ≡ bytes
there files name bytes =
    ap (λ (o : Option (List ℕ)). unwrap_or o []) (get-insert nat_list_cmp_total files name bytes name ∙ ap (λ (b : Bool). cond b (Some bytes) (get files name)) (name_itself name))

-- a summary that starts at the end of what was kept or past it is kept behind that
pub kept_one : (files : Files) (s : Summary) (kept : List Summary) → AreKept files kept → IsFileOf s (summary_bytes s) → end_behind 0 kept ≤ s.start.0 → AreKept (insert files (summary_name_bytes s.start.0 s.end.0) (summary_bytes s)) (kept ++ (s ∷ []))
kept_one files s kept held file le =
    let name = summary_name_bytes s.start.0 s.end.0 in
    let now : Files = insert files name (summary_bytes s) in
    let is : IsSummaryIn now name s = record { named = refl; file = subst (IsFileOf s) (sym (there files name (summary_bytes s))) file } in
    subst (λ (es : NamedFiles). AreKeptPast 0 now (names_in es) (kept ++ (s ∷ []))) (sym (entries-insert nat_list_cmp_total files name (summary_bytes s)))
    (kept_with files now name (summary_bytes s) s (entries files) (frame_one files name (summary_bytes s)) is (entries_sorted files)
    (below_on (end_behind 0 kept) s.start.0 files (keys files) le (start_below 0 files (keys files) kept held)) 0 kept held le)

-- ---- what is kept beside a file that is no summary's

-- a name has no summary now, and had none
abbrev IsNoSummary : Files → Files → List ℕ → Type 0
IsNoSummary files now name = ((s : Summary) → IsSummaryIn files name s → ⊥) × ((s : Summary) → IsSummaryIn now name s → ⊥)

abbrev IsKeptBeside : Files → Files → List (List ℕ) → List (List ℕ) → Type 0
IsKeptBeside files now names more = (low : ℕ) (kept : List Summary) → AreKeptPast low files names kept → AreKeptPast low now more kept

-- it is passed over
over_first : (low : ℕ) (now : Files) (name : List ℕ) (more : List (List ℕ)) (kept : List Summary) → ((s : Summary) → IsSummaryIn now name s → ⊥) → AreKeptPast low now more kept → AreKeptPast low now (name ∷ more) kept
over_first low now name more [] none held = (λ s k. none s k.0, held)
over_first low now name more (t ∷ ts) none held = inr (λ s k. none s k.0, held)

same_beside : (files now : Files) (name : List ℕ) (names more : List (List ℕ)) → bytes_of now name ≡ bytes_of files name → IsKeptBeside files now names more → IsKeptBeside files now (name ∷ names) (name ∷ more)
same_beside files now name names more same f low [] held = (λ t kept. held.0 t (was files now name t same kept.0, kept.1), f low [] held.1)
same_beside files now name names more same f low (t ∷ ts) (inl here) = inl ((stays files now name t same here.0.0, here.0.1), f t.end.0 ts here.1)
same_beside files now name names more same f low (t ∷ ts) (inr over) = inr (λ u kept. over.0 u (was files now name u same kept.0, kept.1), f low (t ∷ ts) over.1)

dropped : (files now : Files) (name : List ℕ) (names more : List (List ℕ)) → ((s : Summary) → IsSummaryIn files name s → ⊥) → IsKeptBeside files now names more → IsKeptBeside files now (name ∷ names) more
dropped files now name names more none f low [] held = f low [] held.1
dropped files now name names more none f low (t ∷ ts) (inl here) = absurd (none t here.0.0)
dropped files now name names more none f low (t ∷ ts) (inr over) = f low (t ∷ ts) over.1

-- other files are as they were, and their names other ones
same_names : (files now : Files) (name : List ℕ) (names : List (List ℕ)) → IsFrame files now name → AreAbove name names → IsKeptBeside files now names names
same_names files now name [] frame high = λ low kept held. held
same_names files now name (other ∷ names) frame high =
    same_beside files now other names names (frame other (ap is_eq (turned name other Less high.0))) (same_names files now name names frame high.1)

beside : (files now : Files) (name bytes : List ℕ) (es : NamedFiles) → IsFrame files now name → IsNoSummary files now name → T (is_sorted byte_order es) → IsKeptBeside files now (names_in es) (names_in (put byte_order name bytes es))
beside files now name bytes [] frame none sorted = λ low kept held. over_first low now name [] kept none.1 held
beside files now name bytes (e ∷ es) frame none sorted =
    let parts = both (below_all byte_order e.0 es) (is_sorted byte_order es) sorted in
    let behind = above e.0 es parts.0 in
    elim (byte_order name e.0) as (λ r. byte_order name e.0 ≡ r → IsKeptBeside files now (names_in (e ∷ es)) (names_in (by_order r ((name, bytes) ∷ e ∷ es) ((e.0, bytes) ∷ es) (e ∷ put byte_order name bytes es)))) [
      | Less ↦ λ lt low kept held.
          let high : AreAbove name (names_in (e ∷ es)) = (lt, above_on name e.0 (names_in es) (λ c. nat_list_cmp_total.trans name e.0 c lt) behind) in
          over_first low now name (names_in (e ∷ es)) kept none.1 (same_names files now name (names_in (e ∷ es)) frame high low kept held)
      | Equal ↦ λ tie low kept held.
          let same : name ≡ e.0 = slice_cmp-IsAntisymmetric nat_cmp-IsAntisymmetric name e.0 tie in
          let high : AreAbove name (names_in es) = above_on name e.0 (names_in es) (λ c h. nat_list_cmp_total.congr name e.0 c tie ∙ h) behind in
          over_first low now e.0 (names_in es) kept (subst (λ (x : List ℕ). (s : Summary) → IsSummaryIn now x s → ⊥) same none.1)
          (dropped files now e.0 (names_in es) (names_in es) (subst (λ (x : List ℕ). (s : Summary) → IsSummaryIn files x s → ⊥) same none.0) (same_names files now name (names_in es) frame high) low kept held)
      | Greater ↦ λ past.
          same_beside files now e.0 (names_in es) (names_in (put byte_order name bytes es)) (frame e.0 (ap is_eq (turned name e.0 Greater past))) (beside files now name bytes es frame none parts.1)
    ] refl

-- a file under a name that had none, and that is none
pub kept_beside : (files : Files) (name bytes : List ℕ) (kept : List Summary) → AreKept files kept → ((s : Summary) → IsSummaryIn files name s → ⊥) → ((s : Summary) → name ≡ summary_name_bytes s.start.0 s.end.0 → IsFileOf s bytes → ⊥) → AreKept (insert files name bytes) kept
kept_beside files name bytes kept held was_none none =
    let now : Files = insert files name bytes in
    subst (λ (es : NamedFiles). AreKeptPast 0 now (names_in es) kept) (sym (entries-insert nat_list_cmp_total files name bytes))
    (beside files now name bytes (entries files) (frame_one files name bytes) (was_none, λ s is. none s is.named (subst (IsFileOf s) (there files name bytes) is.file)) (entries_sorted files) 0 kept held)

pub all_below : (files : Files) (kept : List Summary) → AreKept files kept → StartBelow (end_behind 0 kept) files (keys files)
all_below files kept held = start_below 0 files (keys files) kept held

-- ---- summaries of neighbouring ranges, kept behind the others

pub next_kept : (h : List Entry) (made place : ℕ) (sums kept : List Summary) (files : Files) → AreKept files kept → end_behind 0 kept ≤ place → AreNext h made place sums → AllByRecursion IsWhole sums → AreKept (with_files sums files) (kept ++ sums)
next_kept h made place [] kept files held le next whole = subst (AreKept files) (sym (append-nil kept)) held
next_kept h made place (s ∷ ss) kept files held le next whole =
    let same = next.0.starts in
    let end = end_push 0 kept s in
    subst (AreKept (with_files ss (with_file s files))) (append_assoc kept (s ∷ []) ss)
    (next_kept h made s.end.0 ss (kept ++ (s ∷ [])) (with_file s files) (kept_one files s kept held whole.0 (omega (arith, le, same))) (omega (arith, end)) next.1 whole.1)

pub end_from : (a : ℕ) (kept : List Summary) → end_behind 0 kept ≤ end_behind a kept
end_from a [] = omega arith
end_from a (s ∷ ss) = omega arith
