-- A walk through a folder and those below it finds each file.
use Rattle.std.proofs.Common.{◌≡◌, ◌≢◌, ℕ, ◌⊎◌, Bool, true, false, cond, bytes_eq, List, [], ◌∷◌, ◌++◌, map, length, Option, Some, None, IfSome, option_map, is_some, string_bytes, Contains, zero, suc, ◌<◌, ◌+◌, arith, drop, drop-cons, get_or, unwrap_or, refl, sym, ap, subst, ◌∙◌, inl, inr}
use Rattle.std.specs.Global.{Vec}
use Rattle.std.specs.declared.string.String.{String}
use Rattle.std.specs.BTreeSet.{BTreeSet, contains_text}
use Rattle.std.specs.FinMap.{get, contains_key}
use Rattle.std.proofs.lemmas.List.{append_assoc}
use Rattle.std.proofs.lemmas.List.Elements.{Contains-push, Contains-push_cases, Contains-append_left}
use Rattle.std.specs.List.{list_any}
use Rattle.std.specs.Ordering.{nat_cmp, is_eq}
use Rattle.std.specs.Cmp.Lexicographic.{slice_cmp}
use Rattle.std.proofs.lemmas.Slice.Eq.{bytes_eq-Decides}
use Rattle.lsn_core.specs.Files.{Files}
use Rattle.vault_os.specs.Paths.{is_name_part, leads_below, path_in, files_below, told_in}
use Rattle.vault_os.specs.Listing.{HasNames, IsFileIn, IsStillReached, IsReachedIn, HasWalked, HasWalkedIn}
use Rattle.vault_os.specs.Walk.{unread_of, AddsNone, AddsEntry}
use Rattle.vault_os.specs.declared.walk.Walk.{Walk}
use Rattle.system_calls.specs.System.{IsKindAt, IsListOf, ListsAll, names_told, TellsKind, size_at}
use Rattle.system_calls.specs.declared.kind.Kind.{Kind}
use Rattle.system_calls.specs.declared.kind.Kind.TheVariants.{File, Folder, Other}
use Rattle.vault_os.proofs.Names.{name_begins, one_leads, longer_leads}
use Rattle.vault_os.proofs.Below.{get_in, get_good}

-- ---- lists

nothing : {X : Type 0} (x : X) → Contains [] x → ⊥
nothing x c = absurd (omega (arith, c.1))

first_or_later : {X : Type 0} (x : X) (xs : List X) (y : X) → Contains (x ∷ xs) y → (x ≡ y) ⊎ Contains xs y
first_or_later x xs y (zero, lt, e) = inl e
first_or_later x xs y (suc k, lt, e) = inr (k, omega (arith, lt), e)

no_none : {X : Type 0} (o : Option X) (x : X) → o ≡ Some x → o ≢ None
no_none {X = X} o x e none = let no : ◌≡◌ {A = Option X} (Some x) None = sym e ∙ none in absurd cc

some_length : (o : Option (List ℕ)) (n : ℕ) → option_map length o ≡ Some n → o ≢ None
some_length o n e none = let no : ◌≡◌ {A = Option ℕ} (Some n) None = sym e ∙ ap (option_map length) none in absurd cc

no_length : (o : Option (List ℕ)) → option_map length o ≡ None → o ≡ None
no_length None e = refl
no_length (Some bytes) e = absurd cc

-- ---- the walk

-- the path of a name in a folder, as a folder's path and a name, or as a name below the root
path_of : (root folder name : List ℕ) → path_in root (folder ++ name) ≡ path_in root folder ++ name
path_of root folder name = sym (append_assoc root (47 ∷ folder) name)

there : (o : Option (List ℕ)) → o ≢ None → is_some o ≡ true
there None is = absurd (is refl)
there (Some bytes) is = refl

module _ {Z : Type 0} (root : List ℕ) (m : Files) where
  pub walk_starts : (found : BTreeSet (String Z)) → found.keys ≡ [] → HasWalked root m ([] ∷ []) found
  walk_starts found empty = record {
    are = λ n there. let no : true ≡ false = sym there ∙ ap (list_any (λ k. is_eq (slice_cmp nat_cmp n (string_bytes k)))) empty in absurd cc;
    all = λ n is. inr ([], (n, (Contains-push [] [], (refl, is.0))));
    before = λ folder c. λ q leads. elim (first_or_later [] [] folder c) [
      | inl e ↦ subst (λ (f : List ℕ). leads_below (f ++ q) ≡ true) e leads
      | inr more ↦ absurd (nothing folder more)
    ];
  }

  not_found : (found : BTreeSet (String Z)) → HasWalked root m [] found → (n : List ℕ) → contains_text found n ≡ false → (l : Bool) → leads_below n ≡ l → (o : Option (List ℕ)) → get m (path_in root n) ≡ o → cond l o None ≡ None
  not_found found walk n none false leads o e = refl
  not_found found walk n none true leads None e = refl
  not_found found walk n none true leads (Some bytes) e =
      elim (walk.all n (leads, no_none _ bytes e)) [
        | inl is ↦ let no : true ≡ false = sym is ∙ none in absurd cc
        | inr reached ↦ absurd (nothing reached.0 reached.1.1.0)
      ]

  -- a walk with no folder left found just the files
  pub walk_ends : (found : BTreeSet (String Z)) → HasWalked root m [] found → HasNames found (files_below root m)
  walk_ends found walk n =
      elim (contains_text found n) as (λ b. contains_text found n ≡ b → b ≡ contains_key (files_below root m) n) [
        | true ↦ λ e. let is = walk.are n e in sym (there (get (files_below root m) n) (λ none. is.1 (sym (get_good root n m is.0) ∙ none)))
        | false ↦ λ e. sym (ap is_some (get_in root n m ∙ not_found found walk n e (leads_below n) refl (get m (path_in root n)) refl))
      ] refl

  -- a folder is looked at, whose names were listed
  pub walk_enters : (folder : List ℕ) (names unread : List (List ℕ)) (found : BTreeSet (String Z)) → IsListOf m (path_in root folder) names → HasWalked root m (unread ++ (folder ∷ [])) found → HasWalkedIn root m folder names unread found
  walk_enters folder names unread found list walk = record {
    are = walk.are;
    all = λ n is. elim (walk.all n is) [
      | inl here ↦ inl here
      | inr reached ↦ elim (Contains-push_cases unread folder reached.0 reached.1.1.0) [
        | inl c ↦ inr (inl (reached.0, (reached.1.0, (c, reached.1.1.1))))
        | inr same ↦ inr (inr (entered n is reached.1.0 (reached.1.1.1.0 ∙ ap (λ (f : List ℕ). f ++ reached.1.0) (sym same)) reached.1.1.1.1))
      ]
    ];
    before = λ f c. walk.before f (Contains-append_left unread (folder ∷ []) f c);
    here = walk.before folder (Contains-push unread folder);
  }
    where
      entered : (n : List ℕ) → IsFileIn root m n → (q : List ℕ) → n ≡ folder ++ q → leads_below q ≡ true → IsReachedIn folder names n
      entered n is q e leads =
          let file : get m (path_in root folder ++ q) ≢ None = subst (λ (p : List ℕ). get m p ≢ None) (ap (path_in root) e ∙ path_of root folder q) is.1 in
          elim (name_begins q leads) [
            | inl part ↦ (q, (list.here q part file, inl e))
            | inr cut ↦ (cut.0, (list.below cut.0 cut.1.0 cut.1.1.1.0 (subst (λ (r : List ℕ). get m (path_in root folder ++ r) ≢ None) cut.1.1.0 file), inr (cut.1.0, (e ∙ ap (λ (r : List ℕ). folder ++ r) cut.1.1.0, cut.1.1.1.1))))
          ]

  -- a folder was looked at
  pub walk_leaves : (folder : List ℕ) (unread : List (List ℕ)) (found : BTreeSet (String Z)) → HasWalkedIn root m folder [] unread found → HasWalked root m unread found
  walk_leaves folder unread found walk = record {
    are = walk.are;
    all = λ n is. elim (walk.all n is) [
      | inl here ↦ inl here
      | inr more ↦ elim more [ inl reached ↦ inr reached | inr left ↦ absurd (nothing left.0 left.1.0) ]
    ];
    before = walk.before;
  }

  module _ (folder name : List ℕ) (rest unread : List (List ℕ)) (found : BTreeSet (String Z)) (kind : Option Kind) (part : is_name_part name ≡ true) (at : IsKindAt m (path_in root (folder ++ name)) kind) (walk : HasWalkedIn root m folder (name ∷ rest) unread found) where
    -- what stands further below an entry stands below its path
    below_it : (n q : List ℕ) → IsFileIn root m n → n ≡ folder ++ (name ++ (47 ∷ q)) → kind ≡ Some Folder
    below_it n q is e = at.folder q (subst (λ (p : List ℕ). get m p ≢ None) (ap (path_in root) (e ∙ sym (append_assoc folder name (47 ∷ q))) ∙ sym (append_assoc root (47 ∷ (folder ++ name)) (47 ∷ q))) is.1)

    -- an entry that leads to no file but by these is passed
    passes : {P : List ℕ → Type 0} → ((n : List ℕ) → IsFileIn root m n → contains_text found n ≡ true → P n) → ((n : List ℕ) → IsStillReached unread n → P n) → ((n : List ℕ) → IsReachedIn folder rest n → P n)
        → ((n : List ℕ) → IsFileIn root m n → n ≡ folder ++ name → P n) → ((n q : List ℕ) → IsFileIn root m n → n ≡ folder ++ (name ++ (47 ∷ q)) → leads_below q ≡ true → P n) → (n : List ℕ) → IsFileIn root m n → P n
    passes {P} by_found by_unread by_rest by_file by_folder n is =
        elim (walk.all n is) [
          | inl here ↦ by_found n is here
          | inr more ↦ elim more [
            | inl reached ↦ by_unread n reached
            | inr left ↦ elim (first_or_later name rest left.0 left.1.0) [
              | inr c ↦ by_rest n (left.0, (c, left.1.1))
              | inl same ↦ elim left.1.1 [
                | inl e ↦ by_file n is (e ∙ ap (λ (r : List ℕ). folder ++ r) (sym same))
                | inr far ↦ by_folder n far.0 is (far.1.0 ∙ ap (λ (r : List ℕ). folder ++ (r ++ (47 ∷ far.0))) (sym same)) far.1.1
              ]
            ]
          ]
        ]

    pub walk_passes : ((size : ℕ) → kind ≡ Some (File size) → ⊥) → (kind ≡ Some Folder → ⊥) → HasWalkedIn root m folder rest unread found
    walk_passes no_file no_folder = record {
      are = walk.are;
      all = passes {P = λ n. (contains_text found n ≡ true) ⊎ (IsStillReached unread n ⊎ IsReachedIn folder rest n)} (λ n is here. inl here) (λ n reached. inr (inl reached)) (λ n left. inr (inr left)) (λ n is e. absurd (is.1 (ap (λ (r : List ℕ). get m (path_in root r)) e ∙ none kind refl))) (λ n q is e leads. absurd (no_folder (below_it n q is e)));
      before = walk.before;
      here = walk.here;
    }
      where
        none : (k : Option Kind) → kind ≡ k → get m (path_in root (folder ++ name)) ≡ None
        none None e = no_length _ (at.size ∙ ap size_at e)
        none (Some (File size)) e = absurd (no_file size e)
        none (Some Folder) e = absurd (no_folder e)
        none (Some Other) e = no_length _ (at.size ∙ ap size_at e)

    pub walk_finds : (size : ℕ) (more : BTreeSet (String Z)) → kind ≡ Some (File size) → ((n : List ℕ) → contains_text more n ≡ cond (bytes_eq (folder ++ name) n) true (contains_text found n)) → HasWalkedIn root m folder rest unread more
    walk_finds size more is_file adds = record {
      are = λ n there. one n (bytes_eq (folder ++ name) n) refl (sym (adds n) ∙ there);
      all = passes {P = λ n. (contains_text more n ≡ true) ⊎ (IsStillReached unread n ⊎ IsReachedIn folder rest n)} (λ n is here. inl (adds n ∙ ap (cond (bytes_eq (folder ++ name) n) true) here ∙ always (bytes_eq (folder ++ name) n))) (λ n reached. inr (inl reached)) (λ n left. inr (inr left))
          (λ n is e. inl (adds n ∙ ap (λ (b : Bool). cond b true (contains_text found n)) ((bytes_eq-Decides (folder ++ name) n).1 (sym e)))) (λ n q is e leads. let no : ◌≡◌ {A = Option Kind} (Some (File size)) (Some Folder) = sym is_file ∙ below_it n q is e in absurd cc);
      before = walk.before;
      here = walk.here;
    }
      where
        always : (b : Bool) → cond b true true ≡ true
        always true = refl
        always false = refl

        one : (n : List ℕ) (b : Bool) → bytes_eq (folder ++ name) n ≡ b → cond b true (contains_text found n) ≡ true → IsFileIn root m n
        one n true e there = subst (IsFileIn root m) ((bytes_eq-Decides (folder ++ name) n).0 e) (walk.here name (one_leads name part), some_length _ size (at.size ∙ ap size_at is_file))
        one n false e there = walk.are n there

    pub walk_deepens : kind ≡ Some Folder → HasWalkedIn root m folder rest (unread ++ (((folder ++ name) ++ (47 ∷ [])) ∷ [])) found
    walk_deepens is_folder = record {
      are = walk.are;
      all = passes {P = λ n. (contains_text found n ≡ true) ⊎ (IsStillReached (unread ++ (below ∷ [])) n ⊎ IsReachedIn folder rest n)} (λ n is here. inl here) (λ n reached. inr (inl (reached.0, (reached.1.0, (Contains-append_left unread (below ∷ []) reached.0 reached.1.1.0, reached.1.1.1))))) (λ n left. inr (inr left))
          (λ n is e. absurd (is.1 (ap (λ (r : List ℕ). get m (path_in root r)) e ∙ no_length _ (at.size ∙ ap size_at is_folder)))) (λ n q is e leads. inr (inl (below, (q, (Contains-push unread below, (e ∙ sym (joined q), leads))))));
      before = λ f c. elim (Contains-push_cases unread below f c) [
        | inl old ↦ walk.before f old
        | inr same ↦ λ q leads. subst (λ (r : List ℕ). leads_below (r ++ q) ≡ true) same (ap leads_below (joined q) ∙ walk.here (name ++ (47 ∷ q)) (longer_leads name q part leads))
      ];
      here = walk.here;
    }
      where
        below : List ℕ
        below = (folder ++ name) ++ (47 ∷ [])

        joined : (q : List ℕ) → ((folder ++ name) ++ (47 ∷ [])) ++ q ≡ folder ++ (name ++ (47 ∷ q))
        joined q = append_assoc (folder ++ name) (47 ∷ []) q ∙ append_assoc folder name (47 ∷ q)

-- ---- the same by what a walk keeps, where the files are told

pub read_kind : (root folder name path : List ℕ) (files : Option Files) (kind : Option Kind) (old new : Walk) → path ≡ path_in root (folder ++ name) → TellsKind files path kind → AddsEntry (folder ++ name) kind old new
    → IfSome files (λ m. is_name_part name ≡ true → (rest : List (List ℕ)) → HasWalkedIn root m folder (name ∷ rest) (unread_of old) old.files → HasWalkedIn root m folder rest (unread_of new) new.files)
read_kind root folder name path None kind old new e tells adds = tt
read_kind root folder name path (Some m) kind old new e tells adds = λ part rest walk. by_kind kind (subst (λ (p : List ℕ). IsKindAt m p kind) e tells) adds part rest walk
  where
    same_none : (rest : List (List ℕ)) → AddsNone old new → HasWalkedIn root m folder rest (unread_of old) old.files → HasWalkedIn root m folder rest (unread_of new) new.files
    same_none rest none walk = subst (λ (l : List _). HasWalkedIn root m folder rest (map string_bytes l) new.files) (sym none.unread) (subst (λ (l : List _). HasWalkedIn root m folder rest (unread_of old) (record { keys = l })) (sym none.files) walk)

    by_kind : (kind : Option Kind) → IsKindAt m (path_in root (folder ++ name)) kind → AddsEntry (folder ++ name) kind old new → is_name_part name ≡ true → (rest : List (List ℕ)) → HasWalkedIn root m folder (name ∷ rest) (unread_of old) old.files → HasWalkedIn root m folder rest (unread_of new) new.files
    by_kind None at adds part rest walk = same_none rest adds (walk_passes root m folder name rest (unread_of old) old.files None part at walk (λ size e. absurd cc) (λ e. absurd cc))
    by_kind (Some Other) at adds part rest walk = same_none rest adds (walk_passes root m folder name rest (unread_of old) old.files (Some Other) part at walk (λ size e. absurd cc) (λ e. absurd cc))
    by_kind (Some (File size)) at adds part rest walk =
        subst (λ (l : List _). HasWalkedIn root m folder rest (map string_bytes l) new.files) (sym adds.unread) (walk_finds root m folder name rest (unread_of old) old.files (Some (File size)) part at walk size new.files refl adds.files)
    by_kind (Some Folder) at adds part rest walk =
        subst (λ (l : List (List ℕ)). HasWalkedIn root m folder rest l new.files) (sym adds.unread) (subst (λ (l : List _). HasWalkedIn root m folder rest (unread_of old ++ (((folder ++ name) ++ (47 ∷ [])) ∷ [])) (record { keys = l })) (sym adds.files) (walk_deepens root m folder name rest (unread_of old) old.files (Some Folder) part at walk refl))

-- in the midst of a folder, and at its ends
abbrev pub Midway : Option Files → List ℕ → List ℕ → Walk → List (List ℕ) → Walk → Type 0
Midway files root folder old rest new =
    IfSome files (λ m. (HasWalked root m (unread_of old ++ (folder ∷ [])) old.files → HasWalkedIn root m folder rest (unread_of new) new.files) × ((n : List ℕ) → Contains rest n → is_name_part n ≡ true))

pub midway_starts : {Z : Type 0} (files : Option Files) (root folder path : List ℕ) (walk : Walk) (found : Option (Vec (String Z))) (names : List (List ℕ)) → path ≡ path_in root folder → ListsAll files path found → names ≡ names_told found → Midway files root folder walk names walk
midway_starts None root folder path walk found names at lists e = tt
midway_starts (Some m) root folder path walk found names at lists e =
    let list : IsListOf m (path_in root folder) names = subst (IsListOf m (path_in root folder)) (sym e) (subst (λ (p : List ℕ). IsListOf m p (names_told found)) at lists) in
    (λ walks. walk_enters root m folder names (unread_of walk) walk.files list walks, list.parts)

pub midway_goes : (files : Option Files) (root folder : List ℕ) (old mid new : Walk) (name : List ℕ) (rest : List (List ℕ)) → Midway files root folder old (name ∷ rest) mid
    → IfSome files (λ m. is_name_part name ≡ true → (rest : List (List ℕ)) → HasWalkedIn root m folder (name ∷ rest) (unread_of mid) mid.files → HasWalkedIn root m folder rest (unread_of new) new.files) → Midway files root folder old rest new
midway_goes None root folder old mid new name rest so_far step = tt
midway_goes (Some m) root folder old mid new name rest so_far step =
    (λ walks. step (so_far.1 name (0, omega arith, refl)) rest (so_far.0 walks), λ n c. so_far.1 n (suc c.0, omega (arith, c.1), c.2))

pub midway_ends : (files : Option Files) (root folder : List ℕ) (old new : Walk) → Midway files root folder old [] new → IfSome files (λ m. HasWalked root m (unread_of old ++ (folder ∷ [])) old.files → HasWalked root m (unread_of new) new.files)
midway_ends None root folder old new so_far = tt
midway_ends (Some m) root folder old new so_far = λ walks. walk_leaves root m folder (unread_of new) new.files (so_far.0 walks)

-- the whole walk
abbrev pub Walking : Option Files → List ℕ → Walk → Type 0
Walking files root walk = IfSome files (λ m. HasWalked root m (unread_of walk) walk.files)

pub walking_starts : (files : Option Files) (root : List ℕ) (walk : Walk) → unread_of walk ≡ [] ∷ [] → walk.files.keys ≡ [] → Walking files root walk
walking_starts None root walk one none = tt
walking_starts (Some m) root walk one none = subst (λ (l : List (List ℕ)). HasWalked root m l walk.files) (sym one) (walk_starts root m walk.files none)

pub walking_goes : (files : Option Files) (root folder : List ℕ) (old mid new : Walk) → Walking files root old → unread_of old ≡ unread_of mid ++ (folder ∷ []) → mid.files ≡ old.files
    → IfSome files (λ m. HasWalked root m (unread_of mid ++ (folder ∷ [])) mid.files → HasWalked root m (unread_of new) new.files) → Walking files root new
walking_goes None root folder old mid new walk popped same step = tt
walking_goes (Some m) root folder old mid new walk popped same step = step (subst (λ (l : List (List ℕ)). HasWalked root m l mid.files) popped (subst (λ f. HasWalked root m (unread_of old) f) (sym same) walk))

pub walking_ends : (files : Option Files) (root : List ℕ) (walk : Walk) → Walking files root walk → unread_of walk ≡ [] → IfSome (told_in root files) (HasNames walk.files)
walking_ends None root walk done none = tt
walking_ends (Some m) root walk done none = walk_ends root m walk.files (subst (λ (l : List (List ℕ)). HasWalked root m l walk.files) none done)

pub listed_names : {Z : Type 0} (found : Option (Vec (String Z))) (none names : Vec (String Z)) → none.items ≡ [] → names ≡ unwrap_or found none → map string_bytes names.items ≡ names_told found
listed_names None none names empty e = ap (λ (v : Vec _). map string_bytes v.items) e ∙ ap (map string_bytes) empty
listed_names (Some held) none names empty e = ap (λ (v : Vec _). map string_bytes v.items) e

pub next_name : {Z : Type 0} (items : List (String Z)) (i : ℕ) (item : String Z) → i < length items → item ≡ get_or items i item → map string_bytes (drop i items) ≡ string_bytes item ∷ map string_bytes (drop (i + 1) items)
next_name items i item lt is =
    let one : suc i ≡ i + 1 = omega arith in
    ap (map string_bytes) (drop-cons items i item lt ∙ (λ k. sym is k ∷ drop (one k) items))
