-- The segment files of an incremental backup's directory, as they were sent.
use Rattle.std.proofs.Common.{◌≡◌, ◌≢◌, ℕ, zero, suc, ◌+◌, ◌<◌, ◌≤◌, inl, inr, Bool, true, false, cond, ◌||◌, List, [], ◌∷◌, ◌++◌, map, length, Option, Some, None, refl, sym, ap, subst, ◌∙◌, arith}
use Rattle.std.specs.Prelude.{◌⊎◌, ◌==◌, slice_get}
use Rattle.std.specs.List.{AllByRecursion, find, list_any, range_with_len}
use Rattle.std.specs.Ordering.{nat_cmp}
use Rattle.std.specs.Cmp.Lexicographic.{slice_cmp, nat_list_cmp_total}
use Rattle.std.specs.FinMap.{get, insert, empty, get-insert, get-empty}
use Rattle.std.proofs.lemmas.Bool.{true≢false, eqb-true, false_from_ne_true}
use Rattle.std.proofs.lemmas.List.Folds.{list_any-append}
use Rattle.std.proofs.lemmas.List.FromFn.{length-range_with_len}
use Rattle.lsn_core.specs.Files.{Files}
use Rattle.lsn_core.specs.Names.{fork_path_bytes, IsNamed}
use Rattle.lsn_core.specs.Segment.{IsRelseg}
use Rattle.lsn_core.specs.Store.{ForkPages, segment_count, with_files}
use Rattle.lsn_core.specs.declared.ids.ForkId.{ForkId}
use Rattle.lsn_core.specs.declared.ids.ForkLen.{ForkLen}
use Rattle.lsn_core.proofs.AnyAll.{any_range}
use Rattle.lsn_core.proofs.ForkPaths.{one_place}
use Rattle.lsn_core.proofs.StoreFiles.{same_name, names_tie, name_itself}
use Rattle.history.specs.Apply.{is_same_fork}
use Rattle.history.specs.Entry.{Entry}
use Rattle.history.proofs.Stores.{fork_is}
use Rattle.history.specs.fuzzy_copies.Taken.{Copying}
use Rattle.incr_file.specs.Form.{Absent, Plain, form_in, part_in, pages_bytes, sent_page, whole_pages}
use Rattle.incr_file.specs.Head.{head_bytes}
use Rattle.incr_file.specs.Laws.{WrittenFilesAreRead}
use Rattle.incr_file.specs.Plan.{IsPlan}
use Rattle.incr_file.specs.declared.head.IncrHead.{IncrHead}
use Rattle.incr_file.specs.declared.plan.FilePlan.{FilePlan}
use Rattle.incr_file.specs.declared.plan.FilePlan.TheVariants.{Whole, Incr}
use Rattle.chain_files.specs.Segments.{form_of}
use Rattle.store_locks.specs.Copied.{listed_length}
use Rattle.backup_sending.specs.declared.basis.Basis.{Basis}
use Rattle.backup_files.specs.Directory.{label_name, manifest_name, directory_with}
use Rattle.backup_sending.specs.Sent.{SegmentPlan, SentFile, AreFor, AreListed, AreSent, IsCopyOf, IsSentAs, blocks_sent, file_of, fork_plans, front_bytes, is_part, list_plans, segment_plan, sent_path}
use Rattle.backup_sending.proofs.Blocks.{for_length}
use Rattle.backup_sending.proofs.Listings.{count_fits}
use Rattle.backup_files.proofs.Appended.{absent}
use Rattle.backup_sending.proofs.Segments.{named_at}
use Rattle.backup_sending.proofs.Texts.{never_named}
use Rattle.chain_files.proofs.Pages.{pages_again}
use Rattle.chain_laws.proofs.Plans.{IsOfList, all_plans, length_in}
use Rattle.chain_laws.proofs.Sending.{IsSentIn}

-- ---- pages for blocks

for_range : (P : ℕ → List ℕ → Type 0) (first count : ℕ) (pages : ForkPages) (i : ℕ) (page : List ℕ) → AreFor P (range_with_len first count) pages → slice_get pages i ≡ Some page → P (first + i) page
for_range P first count [] i page are e = absurd cc
for_range P first zero (p ∷ pages) i page are e = absurd are
for_range P first (suc count) (p ∷ pages) zero page are e =
    let is : p ≡ page = cc in
    subst (λ (x : List ℕ). P (first + zero) x) is (subst (λ (n : ℕ). P n p) (omega arith) are.0)
for_range P first (suc count) (p ∷ pages) (suc i) page are e =
    subst (λ (n : ℕ). P n page) (let z : (first + 1) + i ≡ first + suc i = omega arith in z) (for_range P (first + 1) count pages i page are.1 e)

for_sent : (P : ℕ → List ℕ → Type 0) (blocks : List ℕ) (pages : ForkPages) (i : ℕ) (page : List ℕ) → AreFor P blocks pages → sent_page blocks pages i ≡ Some page → P i page
for_sent P [] pages i page are e = absurd cc
for_sent P (b ∷ blocks) [] i page are e = absurd cc
for_sent P (b ∷ blocks) (p ∷ pages) i page are e =
    elim (b == i) as (λ s. (b == i) ≡ s → cond s (Some p) (sent_page blocks pages i) ≡ Some page → P i page) [
      | true ↦ λ k f.
          let is : p ≡ page = cc in
          subst (λ (x : List ℕ). P i x) is (subst (λ (n : ℕ). P n p) (eqb-true b i k) are.0)
      | false ↦ λ k f. for_sent P blocks pages i page are.1 f
    ] refl e

for_sized : (P : ℕ → List ℕ → Type 0) (blocks : List ℕ) (pages : ForkPages) → ((block : ℕ) (page : List ℕ) → P block page → length page ≡ 8192) → AreFor P blocks pages → AllByRecursion (λ page. length page ≡ 8192) pages
for_sized P [] [] size are = tt
for_sized P [] (p ∷ pages) size are = absurd are
for_sized P (b ∷ blocks) [] size are = absurd are
for_sized P (b ∷ blocks) (p ∷ pages) size are = (size b p are.0, for_sized P blocks pages size are.1)

each_sized : (pages : ForkPages) (i : ℕ) (page : List ℕ) → AllByRecursion (λ p. length p ≡ 8192) pages → slice_get pages i ≡ Some page → length page ≡ 8192
each_sized [] i page all e = absurd cc
each_sized (p ∷ pages) zero page all e = let is : p ≡ page = cc in ap length (sym is) ∙ all.0
each_sized (p ∷ pages) (suc i) page all e = each_sized pages i page all.1 e

-- ---- files put into a directory

-- what stands at a name is one of these files
record IsFileAt (P : List ℕ × List ℕ → Type 0) (o : Option (List ℕ)) (name : List ℕ) : Type 0 where
  file : List ℕ × List ℕ
  of : P file
  path : file.0 ≡ name
  is : o ≡ Some file.1

looked_up : (P : List ℕ × List ℕ → Type 0) (m : Files) (files : List (List ℕ × List ℕ)) (name : List ℕ) → AllByRecursion P files → IsFileAt P (get (with_files m files) name) name ⊎ AllByRecursion (λ f. same_name name f.0 ≡ false) files
looked_up P m [] name all = inr tt
looked_up P m (f ∷ fs) name all = rest (looked_up P (insert m f.0 f.1) fs name all.1)
  where
    by_test : (b : Bool) → same_name name f.0 ≡ b → AllByRecursion (λ g. same_name name g.0 ≡ false) fs → IsFileAt P (get (with_files m (f ∷ fs)) name) name ⊎ AllByRecursion (λ g. same_name name g.0 ≡ false) (f ∷ fs)
    by_test true k others = inl (record {
      file = f;
      of = all.0;
      path = sym (names_tie name f.0 k);
      is = absent (insert m f.0 f.1) name fs others ∙ (get-insert nat_list_cmp_total m f.0 f.1 name ∙ ap (λ b. cond b (Some f.1) (get m name)) k);
    })
    by_test false k others = inr (k, others)

    rest : IsFileAt P (get (with_files (insert m f.0 f.1) fs) name) name ⊎ AllByRecursion (λ g. same_name name g.0 ≡ false) fs → IsFileAt P (get (with_files m (f ∷ fs)) name) name ⊎ AllByRecursion (λ g. same_name name g.0 ≡ false) (f ∷ fs)
    rest (inl found) = inl found
    rest (inr others) = by_test (same_name name f.0) refl others

pub get_other : (m : Files) (name bytes q : List ℕ) → q ≢ name → get (insert m name bytes) q ≡ get m q
get_other m name bytes q other =
    get-insert nat_list_cmp_total m name bytes q ∙ ap (λ b. cond b (Some bytes) (get m q)) (false_from_ne_true (same_name q name) (λ e. other (names_tie q name e)))

-- label and manifest are at no fork's path
at_fork : (put : List (List ℕ × List ℕ)) (label manifest : List ℕ) (fork : ForkId) (seg : ℕ) (incr : Bool) → get (directory_with put label manifest) (fork_path_bytes fork seg incr) ≡ get (with_files empty put) (fork_path_bytes fork seg incr)
at_fork put label manifest fork seg incr =
    get_other (insert (with_files empty put) label_name label) manifest_name manifest (fork_path_bytes fork seg incr) (never_named fork seg incr manifest_name (λ x. omega (arith, x)))
    ∙ get_other (with_files empty put) label_name label (fork_path_bytes fork seg incr) (never_named fork seg incr label_name (λ x. omega (arith, x)))

none_any : {X : Type 0} (t : X → Bool) (xs : List X) → AllByRecursion (λ x. t x ≡ false) xs → list_any t xs ≡ false
none_any t [] all = refl
none_any t (x ∷ xs) all = ap (λ b. b || list_any t xs) all.0 ∙ none_any t xs all.1

any_left : (a b : Bool) → a ≡ true → (a || b) ≡ true
any_left a b e = ap (λ c. c || b) e

any_right : (a b : Bool) → b ≡ true → (a || b) ≡ true
any_right true b e = refl
any_right false b e = e

-- ---- the files of a list of forks

abbrev what_of : SentFile → SegmentPlan
what_of f = f.what

module _ (history : List Entry) (from to : ℕ) (basis : Basis) (list : List ForkLen) where
  abbrev len : ForkId → ℕ → ForkLen
  len fork blocks = record { fork = fork; blocks = blocks }

  -- a file was sent of a listed fork
  record IsSentFile (g : List ℕ × List ℕ) : Type 0 where
    file : SentFile
    is : g ≡ file_of file
    of : IsOfList basis list file.what
    sent : IsSentAs (Unit {0}) history from to file

  all_sent : (files : List SentFile) → AllByRecursion (IsOfList basis list) (map what_of files) → AllByRecursion (IsSentAs (Unit {0}) history from to) files → AllByRecursion IsSentFile (map file_of files)
  all_sent [] plans sent = tt
  all_sent (f ∷ files) plans sent = (record { file = f; is = refl; of = plans.0; sent = sent.0 }, all_sent files plans.1 sent.1)

  -- a listed fork's plans are among those of the list
  any_of_list : (t : SegmentPlan → Bool) (fork : ForkId) (blocks : ℕ) (ls : List ForkLen) → listed_length ls fork ≡ Some blocks → list_any t (fork_plans basis (len fork blocks)) ≡ true → list_any t (list_plans basis ls) ≡ true
  any_of_list t fork blocks [] found any = absurd cc
  any_of_list t fork blocks (l ∷ ls) found any =
      elim (is_same_fork fork l.fork) as (λ b. is_same_fork fork l.fork ≡ b → length_in (cond b (Some l) (find (λ k. is_same_fork fork k.fork) ls)) ≡ Some blocks → list_any t (fork_plans basis l ++ list_plans basis ls) ≡ true) [
        | true ↦ λ k f.
            let same : fork ≡ l.fork = fork_is fork l.fork k in
            let many : blocks ≡ l.blocks = cc in
            list_any-append t (fork_plans basis l) (list_plans basis ls)
            ∙ any_left (list_any t (fork_plans basis l)) (list_any t (list_plans basis ls))
            (sym (ap (λ (x : ForkId). list_any t (fork_plans basis (len x blocks))) same ∙ ap (λ (n : ℕ). list_any t (fork_plans basis (len l.fork n))) many) ∙ any)
        | false ↦ λ k f.
            list_any-append t (fork_plans basis l) (list_plans basis ls)
            ∙ any_right (list_any t (fork_plans basis l)) (list_any t (list_plans basis ls)) (any_of_list t fork blocks ls f any)
      ] refl found

  any_file : (name : List ℕ) (files : List SentFile) → list_any (λ p. same_name name (sent_path p)) (map what_of files) ≡ list_any (λ g. same_name name g.0) (map file_of files)
  any_file name [] = refl
  any_file name (f ∷ files) = ap (λ b. same_name name (sent_path f.what) || b) (any_file name files)

  module _ (range : IsRelseg basis.relseg) (files : List SentFile) (listed : AreListed (Unit {0}) history from to list) (are_sent : AreSent (Unit {0}) history from to basis list files) (label manifest : List ℕ) where
    abbrev dir : Files
    dir = directory_with (map file_of files) label manifest

    all_files : AllByRecursion IsSentFile (map file_of files)
    all_files = all_sent files (subst (AllByRecursion (IsOfList basis list)) (sym are_sent.planned_are) (all_plans basis list listed.named listed.order)) are_sent.sent

    -- what stands at a fork's path is the file of that segment
    record IsAt (fork : ForkId) (seg : ℕ) (incr : Bool) (o : Option (List ℕ)) : Type 0 where
      file : SentFile
      is : o ≡ Some (file_of file).1
      blocks : ℕ
      found : listed_length list fork ≡ Some blocks
      there : seg < segment_count basis.relseg blocks
      what : file.what ≡ segment_plan basis (len fork blocks) seg
      part : is_part file.what.plan ≡ incr
      sent : IsSentAs (Unit {0}) history from to file

    placed : (fork : ForkId) (seg : ℕ) (incr : Bool) (o : Option (List ℕ)) → IsNamed fork seg → IsFileAt IsSentFile o (fork_path_bytes fork seg incr) → IsAt fork seg incr o
    placed fork seg incr o named f =
        let of : ForkLen = f.of.of.of in
        let s : ℕ = f.of.of.seg in
        let p : SegmentPlan = segment_plan basis of s in
        let what : f.of.file.what ≡ p = f.of.of.is in
        let path : sent_path p ≡ fork_path_bytes fork seg incr = sym (ap sent_path what) ∙ (sym (ap (λ (g : List ℕ × List ℕ). g.0) f.of.is) ∙ f.path) in
        let own : IsNamed of.fork s = named_at of.fork of.blocks s f.of.of.named (count_fits basis.relseg of.blocks s (omega (arith, range.least)) f.of.of.there f.of.of.named.seg_fits) in
        let one = one_place of.fork fork s seg (is_part p.plan) incr own named path in
        record {
          file = f.of.file;
          is = f.is ∙ ap (λ (g : List ℕ × List ℕ). Some g.1) f.of.is;
          blocks = of.blocks;
          found = ap (listed_length list) (sym one.0) ∙ f.of.of.found;
          there = omega (arith, one.1.0, f.of.of.there);
          what = what ∙ (ap (λ (x : ForkId). segment_plan basis (len x of.blocks) s) one.0 ∙ ap (λ (n : ℕ). segment_plan basis (len fork of.blocks) n) one.1.0);
          part = ap (λ (q : SegmentPlan). is_part q.plan) what ∙ one.1.1;
          sent = f.of.sent;
        }

    abbrev path_at : ForkId → ℕ → Bool → List ℕ
    path_at fork seg incr = fork_path_bytes fork seg incr

    at_path : (fork : ForkId) (seg : ℕ) (incr : Bool) → IsNamed fork seg → IsAt fork seg incr (get dir (fork_path_bytes fork seg incr)) ⊎ AllByRecursion (λ f. same_name (fork_path_bytes fork seg incr) f.0 ≡ false) (map file_of files)
    at_path fork seg incr named =
        elim (looked_up IsSentFile empty (map file_of files) (fork_path_bytes fork seg incr) all_files) [
          | inl f ↦ inl (placed fork seg incr (get dir (fork_path_bytes fork seg incr)) named (subst (λ (o : Option (List ℕ)). IsFileAt IsSentFile o (fork_path_bytes fork seg incr)) (sym (at_fork (map file_of files) label manifest fork seg incr)) f))
          | inr others ↦ inr others
        ]

    missing : (fork : ForkId) (seg : ℕ) (incr : Bool) → AllByRecursion (λ f. same_name (fork_path_bytes fork seg incr) f.0 ≡ false) (map file_of files) → get dir (fork_path_bytes fork seg incr) ≡ None
    missing fork seg incr others =
        at_fork (map file_of files) label manifest fork seg incr
        ∙ (absent empty (fork_path_bytes fork seg incr) (map file_of files) others ∙ get-empty (slice_cmp nat_cmp) (fork_path_bytes fork seg incr))

    -- a segment that no listed fork has has no file
    pub absent_form : (fork : ForkId) (seg : ℕ) → IsNamed fork seg → ((blocks : ℕ) → listed_length list fork ≡ Some blocks → segment_count basis.relseg blocks ≤ seg) → form_of fork seg dir ≡ Absent
    absent_form fork seg named past =
        let none : (incr : Bool) → get dir (fork_path_bytes fork seg incr) ≡ None = λ incr. elim (at_path fork seg incr named) [
          | inl f ↦ absurd (let late = past f.blocks f.found in omega (arith, late, f.there))
          | inr others ↦ missing fork seg incr others
        ] in
        ap (λ (o : Option (List ℕ)). form_in o (get dir (fork_path_bytes fork seg false))) (none true) ∙ ap (form_in None) (none false)

    -- ---- a planned file

    abbrev plan_in : ForkId → ℕ → ℕ → FilePlan
    plan_in fork blocks seg = (segment_plan basis (len fork blocks) seg).plan

    abbrev IsCopied : ForkId → ℕ → ℕ → List ℕ → Type 0
    IsCopied fork first i page = Copying history from to fork (first + i) page

    module _ (fork : ForkId) (blocks seg : ℕ) (named : IsNamed fork seg) (found : listed_length list fork ≡ Some blocks) (there : seg < segment_count basis.relseg blocks) where
      abbrev own_plan : SegmentPlan
      own_plan = segment_plan basis (len fork blocks) seg

      -- it is one of the files
      one_there : AllByRecursion (λ f. same_name (sent_path own_plan) f.0 ≡ false) (map file_of files) → ⊥
      one_there others =
          let t : SegmentPlan → Bool = λ p. same_name (sent_path own_plan) (sent_path p) in
          let any : list_any t (list_plans basis list) ≡ true = any_of_list t fork blocks list found (any_range t (segment_plan basis (len fork blocks)) 0 (segment_count basis.relseg blocks) seg (omega arith) (omega (arith, there)) (name_itself (sent_path own_plan))) in
          true≢false (sym (sym (any_file (sent_path own_plan) files) ∙ (ap (list_any t) are_sent.planned_are ∙ any)) ∙ none_any (λ f. same_name (sent_path own_plan) f.0) (map file_of files) others)

      own_file : (incr : Bool) (o : Option (List ℕ)) (f : IsAt fork seg incr o) → f.file.what ≡ own_plan
      own_file incr o f =
          let same : f.blocks ≡ blocks = some_is f.blocks blocks (sym f.found ∙ found) in
          f.what ∙ ap (λ (n : ℕ). segment_plan basis (len fork n) seg) same
        where
          some_is : (n m : ℕ) → ◌≡◌ {A = Option ℕ} (Some n) (Some m) → n ≡ m
          some_is n m e = cc

      wrong_form : (incr other : Bool) (o : Option (List ℕ)) → is_part own_plan.plan ≡ other → (other ≡ incr → ⊥) → IsAt fork seg incr o → ⊥
      wrong_form incr other o is differ f = differ (sym is ∙ (sym (ap (λ (p : SegmentPlan). is_part p.plan) (own_file incr o f)) ∙ f.part))

      -- the file of the planned form is there, and the other isn't
      record IsOwn (incr : Bool) : Type 0 where
        file : SentFile
        what : file.what ≡ own_plan
        is : get dir (fork_path_bytes fork seg incr) ≡ Some (file_of file).1
        sent : IsSentAs (Unit {0}) history from to file

      own_there : (incr : Bool) → is_part own_plan.plan ≡ incr → IsOwn incr
      own_there incr is = elim (at_path fork seg incr named) [
        | inl f ↦ record { file = f.file; what = own_file incr (get dir (fork_path_bytes fork seg incr)) f; is = f.is; sent = f.sent }
        | inr others ↦ absurd (one_there (subst (λ (b : Bool). AllByRecursion (λ f. same_name (fork_path_bytes fork seg b) f.0 ≡ false) (map file_of files)) (sym is) others))
      ]

      other_missing : (incr other : Bool) → is_part own_plan.plan ≡ other → (other ≡ incr → ⊥) → get dir (fork_path_bytes fork seg incr) ≡ None
      other_missing incr other is differ = elim (at_path fork seg incr named) [
        | inl f ↦ absurd (wrong_form incr other (get dir (fork_path_bytes fork seg incr)) is differ f)
        | inr others ↦ missing fork seg incr others
      ]

      abbrev PagesFor : FilePlan → ForkPages → Type 0
      PagesFor plan pages = AreFor (λ block page. IsCopyOf (Unit {0}) history from to fork (own_plan.first + block) page) (blocks_sent own_plan.count plan) pages

      own_pages : (incr : Bool) (own : IsOwn incr) → PagesFor own_plan.plan own.file.pages
      own_pages incr own = subst (λ (p : SegmentPlan). AreFor (λ block page. IsCopyOf (Unit {0}) history from to p.fork (p.first + block) page) (blocks_sent p.count p.plan) own.file.pages) own.what own.sent

      own_bytes : (incr : Bool) (own : IsOwn incr) → (file_of own.file).1 ≡ front_bytes own_plan.plan ++ pages_bytes own.file.pages
      own_bytes incr own = ap (λ (p : SegmentPlan). front_bytes p.plan ++ pages_bytes own.file.pages) own.what

      whole_form : own_plan.plan ≡ Whole → IsSentIn (IsCopied fork own_plan.first) own_plan.count Whole (form_of fork seg dir)
      whole_form is =
          let kind : is_part own_plan.plan ≡ false = ap is_part is in
          let own = own_there false kind in
          let for = subst (λ (plan : FilePlan). PagesFor plan own.file.pages) is (own_pages false own) in
          let sized = for_sized (λ block page. IsCopyOf (Unit {0}) history from to fork (own_plan.first + block) page) (range_with_len 0 own_plan.count) own.file.pages (λ block page c. c.0) for in
          let bytes : (file_of own.file).1 ≡ pages_bytes own.file.pages = own_bytes false own ∙ ap (λ (plan : FilePlan). front_bytes plan ++ pages_bytes own.file.pages) is in (
            own.file.pages,
            ap (λ (o : Option (List ℕ)). form_in o (get dir (fork_path_bytes fork seg false))) (other_missing true false kind (λ e. true≢false (sym e)))
                ∙ (ap (form_in None) own.is ∙ (ap (λ (b : List ℕ). Plain (whole_pages b)) bytes ∙ ap Plain (pages_again own.file.pages sized))),
            for_length (λ block page. IsCopyOf (Unit {0}) history from to fork (own_plan.first + block) page) (range_with_len 0 own_plan.count) own.file.pages for ∙ length-range_with_len 0 own_plan.count,
            λ i page e. subst (λ (n : ℕ). Copying history from to fork (own_plan.first + n) page) (let z : 0 + i ≡ i = omega arith in z) ((for_range (λ block page. IsCopyOf (Unit {0}) history from to fork (own_plan.first + block) page) 0 own_plan.count own.file.pages i page for e).1 tt),
          )

      part_form : WrittenFilesAreRead → (head : IncrHead) → own_plan.plan ≡ Incr head → IsPlan own_plan.count (Incr head) → IsSentIn (IsCopied fork own_plan.first) own_plan.count (Incr head) (form_of fork seg dir)
      part_form read head is may =
          let kind : is_part own_plan.plan ≡ true = ap is_part is in
          let own = own_there true kind in
          let for = subst (λ (plan : FilePlan). PagesFor plan own.file.pages) is (own_pages true own) in
          let sized = for_sized (λ block page. IsCopyOf (Unit {0}) history from to fork (own_plan.first + block) page) head.blocks own.file.pages (λ block page c. c.0) for in
          let bytes : (file_of own.file).1 ≡ head_bytes head ++ pages_bytes own.file.pages = own_bytes true own ∙ ap (λ (plan : FilePlan). front_bytes plan ++ pages_bytes own.file.pages) is in (
            own.file.pages,
            ap (λ (o : Option (List ℕ)). form_in o (get dir (fork_path_bytes fork seg false))) own.is
                ∙ (ap part_in bytes ∙ read head own.file.pages may.written (λ i page e. each_sized own.file.pages i page sized e)),
            for_length (λ block page. IsCopyOf (Unit {0}) history from to fork (own_plan.first + block) page) head.blocks own.file.pages for,
            λ i page e. (for_sent (λ block page. IsCopyOf (Unit {0}) history from to fork (own_plan.first + block) page) head.blocks own.file.pages i page for e).1 tt,
          )

      -- the form in which the directory has it is that of its plan
      pub sent_form : WrittenFilesAreRead → IsPlan own_plan.count own_plan.plan → IsSentIn (IsCopied fork own_plan.first) own_plan.count own_plan.plan (form_of fork seg dir)
      sent_form read may =
          elim own_plan.plan as (λ plan. own_plan.plan ≡ plan → IsSentIn (IsCopied fork own_plan.first) own_plan.count plan (form_of fork seg dir)) [
            | Whole ↦ λ e. whole_form e
            | Incr head ↦ λ e. part_form read head e (subst (IsPlan own_plan.count) e may)
          ] refl
