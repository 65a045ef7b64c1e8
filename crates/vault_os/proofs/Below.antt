-- The files below a folder: what is found among them, and what becomes of them as the system's change.
use Rattle.std.proofs.Common.{◌≡◌, ℕ, ◌-◌, ◌<◌, ◌≤◌, replicate, Bool, true, false, cond, ◌&&◌, List, [], ◌∷◌, length, take, Option, Some, None, IfSome, option_map, unwrap_or, Result, Ok, Err, IfOk, OnOk, OnErr, refl, sym, ap, subst, ◌∙◌, arith, inl, inr}
use Rattle.std.specs.Str.{bytes_eq}
use Rattle.std.specs.Bool.{Decides, one_answer}
use Rattle.std.proofs.lemmas.Slice.Eq.{bytes_eq-Decides}
use Rattle.std.proofs.lemmas.List.{take_all, take-append-le}
use Rattle.std.proofs.lemmas.Cmp.{eq_by_cmp_equiv}
use Rattle.std.specs.Ordering.{nat_cmp, eq_by_cmp}
use Rattle.std.specs.Cmp.{Equal-is}
use Rattle.std.specs.Cmp.Lexicographic.{slice_cmp, nat_list_cmp_total}
use Rattle.std.specs.FinMap.{find, get, insert, remove, entries, get-entries, get-from_entries, get-insert, get-remove, same_map, slice_cmp-IsAntisymmetric, nat_cmp-IsAntisymmetric}
use Rattle.lsn_core.specs.Files.{Files}
use Rattle.vault.specs.Area.{bytes_of, file_written, after_write, cut_to, after_cut, after_remove, IsTornFile, IsTorn, Related, IsUndecided, IsSizeIn}
use Rattle.vault_os.specs.Paths.{leads_below, path_in, name_below, is_below, entries_below, files_below, told_in, LeadsTo}
use Rattle.vault_os.specs.Open.{IsOpenAt}
use Rattle.vault_os.specs.declared.open_files.OpenFile.{OpenFile}
use Rattle.system_calls.specs.System.{MayMake, resized, after_resize}
use Rattle.vault_os.proofs.Names.{behind_path, same_path, and_left, and_right, both_true}

abbrev pub same : List ℕ → List ℕ → Bool
same p q = eq_by_cmp (slice_cmp nat_cmp) p q

pub same_is : (p q : List ℕ) → Decides (same p q) (p ≡ q)
same_is p q =
    (λ e. slice_cmp-IsAntisymmetric nat_cmp-IsAntisymmetric p q ((Equal-is _).0 e), λ e. subst (λ (r : List ℕ). same p r ≡ true) e ((eq_by_cmp_equiv nat_list_cmp_total).refl p))

pub same_files : (m n : Files) → ((q : List ℕ) → get m q ≡ get n q) → m ≡ n
same_files m n = same_map nat_list_cmp_total (slice_cmp-IsAntisymmetric nat_cmp-IsAntisymmetric) m n

-- two paths below a folder are the same exactly where their names are
pub paths_same : (folder p q : List ℕ) → same (path_in folder p) (path_in folder q) ≡ same p q
paths_same folder p q =
    one_answer _ _ (same_is (path_in folder p) (path_in folder q))
    (λ e. ap (path_in folder) ((same_is p q).0 e), λ e. (same_is p q).1 (same_path folder p q e))

is_in-path : (folder path : List ℕ) → is_below folder path ≡ true → path ≡ path_in folder (name_below folder path)
is_in-path folder path e = (bytes_eq-Decides path _).0 (and_left _ (leads_below (name_below folder path)) e)

in-is_path : (folder n : List ℕ) → leads_below n ≡ true → is_below folder (path_in folder n) ≡ true
in-is_path folder n leads =
    subst (λ (b : List ℕ). (bytes_eq (path_in folder n) (path_in folder b) && leads_below b) ≡ true) (sym (behind_path folder n))
    (both_true (bytes_eq (path_in folder n) (path_in folder n)) (leads_below n) ((bytes_eq-Decides (path_in folder n) (path_in folder n)).1 refl) leads)

-- what is found first, and what else
found_first : {X : Type 0} (t l : Bool) (x : X) (y : Option X) → (t ≡ true → l ≡ true) → cond t (Some x) (cond l y None) ≡ cond l (cond t (Some x) y) None
found_first true true x y h = refl
found_first true false x y h = let no : false ≡ true = h refl in absurd cc
found_first false true x y h = refl
found_first false false x y h = refl

found_later : {X : Type 0} (t l : Bool) (x : X) (y : Option X) → (l ≡ true → t ≡ false) → cond l y None ≡ cond l (cond t (Some x) y) None
found_later t false x y h = refl
found_later false true x y h = refl
found_later true true x y h = let no : true ≡ false = h refl in absurd cc

not_same : (b : Bool) → (b ≡ true → ⊥) → b ≡ false
not_same true h = absurd (h refl)
not_same false h = refl

module _ (folder n : List ℕ) where
  abbrev among : List (List ℕ × List ℕ) → Option (List ℕ)
  among es = cond (leads_below n) (find (slice_cmp nat_cmp) (path_in folder n) es) None

  find_one : (p bytes : List ℕ) (es : List (List ℕ × List ℕ)) (in_it : Bool) → is_below folder p ≡ in_it
      → find (slice_cmp nat_cmp) n (entries_below folder es) ≡ among es
      → find (slice_cmp nat_cmp) n (cond in_it ((name_below folder p, bytes) ∷ entries_below folder es) (entries_below folder es)) ≡ among ((p, bytes) ∷ es)
  find_one p bytes es true e more =
      ap (cond (same n (name_below folder p)) (Some bytes)) more
      ∙ found_first (same n (name_below folder p)) (leads_below n) bytes _ (λ t. subst (λ (q : List ℕ). leads_below q ≡ true) (sym ((same_is n (name_below folder p)).0 t)) (and_right _ (leads_below (name_below folder p)) e))
      ∙ ap (λ (t : Bool). cond (leads_below n) (cond t (Some bytes) (find (slice_cmp nat_cmp) (path_in folder n) es)) None) (sym (paths_same folder n (name_below folder p)) ∙ ap (same (path_in folder n)) (sym (is_in-path folder p e)))
  find_one p bytes es false e more =
      more ∙ found_later (same (path_in folder n) p) (leads_below n) bytes _ (λ leads. not_same (same (path_in folder n) p) (λ t. let no : true ≡ false = sym (in-is_path folder n leads) ∙ ap (is_below folder) ((same_is (path_in folder n) p).0 t) ∙ e in absurd cc))

  nowhere : (l : Bool) → ◌≡◌ {A = Option (List ℕ)} None (cond l None None)
  nowhere true = refl
  nowhere false = refl

  find_in : (es : List (List ℕ × List ℕ)) → find (slice_cmp nat_cmp) n (entries_below folder es) ≡ among es
  find_in [] = nowhere (leads_below n)
  find_in (e ∷ es) = find_one e.0 e.1 es (is_below folder e.0) refl (find_in es)

  -- the file of a name below a folder is that of its path
  pub get_in : (files : Files) → get (files_below folder files) n ≡ cond (leads_below n) (get files (path_in folder n)) None
  unfolding files_below
  get_in files =
      get-from_entries nat_list_cmp_total (entries_below folder (entries files)) n
      ∙ find_in (entries files)
      ∙ ap (λ (o : Option (List ℕ)). cond (leads_below n) o None) (sym (get-entries files (path_in folder n)))

  pub get_good : (files : Files) → leads_below n ≡ true → get (files_below folder files) n ≡ get files (path_in folder n)
  get_good files leads = get_in files ∙ ap (λ (b : Bool). cond b (get files (path_in folder n)) None) leads

  pub get_bad : (files : Files) → leads_below n ≡ false → get (files_below folder files) n ≡ None
  get_bad files leads = get_in files ∙ ap (λ (b : Bool). cond b (get files (path_in folder n)) None) leads

  pub bytes_in : (files : Files) → leads_below n ≡ true → bytes_of (files_below folder files) n ≡ bytes_of files (path_in folder n)
  bytes_in files leads = ap (λ (o : Option (List ℕ)). unwrap_or o []) (get_good files leads)

-- how many bytes a file has, and that a name without a path has no file
pub size_in : (folder name path : List ℕ) (files : Option Files) (found : Option ℕ) → LeadsTo folder name (Some path) → IsSizeIn files path found → IsSizeIn (told_in folder files) name found
size_in folder name path None found leads size = tt
size_in folder name path (Some m) found leads size =
    size ∙ ap (λ (p : List ℕ). option_map length (get m p)) leads.0 ∙ ap (option_map length) (sym (get_good folder name m leads.1))

pub bad_size : (folder name : List ℕ) (files : Option Files) → leads_below name ≡ false → IsSizeIn (told_in folder files) name None
bad_size folder name None bad = tt
bad_size folder name (Some m) bad = ap (option_map length) (sym (get_bad folder name m bad))

pub size_result : {E : Type 0} (folder name path : List ℕ) (files : Option Files) (result : Result (Option ℕ) E) → LeadsTo folder name (Some path) → IfOk result (IsSizeIn files path) → IfOk result (IsSizeIn (told_in folder files) name)
size_result folder name path files (Ok found) leads size = size_in folder name path files found leads size
size_result folder name path files (Err fault) leads size = tt

-- a name that leads to no path
pub no_path : {X : Type 0} (f : X → List ℕ) (folder name : List ℕ) (found : Option X) → ((x : X) → found ≡ Some x → ⊥) → LeadsTo folder name (option_map f found) → leads_below name ≡ false
no_path f folder name None none leads = leads
no_path f folder name (Some x) none leads = absurd (none x refl)

-- ---- what becomes of the files below a folder

same_self : (p : List ℕ) → same p p ≡ true
same_self p = (same_is p p).1 refl

removed_first : {X : Type 0} (t l : Bool) (y : Option X) → cond l (cond t None y) None ≡ cond t None (cond l y None)
removed_first true true y = refl
removed_first true false y = refl
removed_first false l y = refl

module _ (folder n : List ℕ) (leads : leads_below n ≡ true) where
  insert_in : (files : Files) (v : List ℕ) → files_below folder (insert files (path_in folder n) v) ≡ insert (files_below folder files) n v
  insert_in files v =
      same_files _ _ (λ q. get_in folder q (insert files (path_in folder n) v)
      ∙ ap (λ (o : Option (List ℕ)). cond (leads_below q) o None) (get-insert nat_list_cmp_total files (path_in folder n) v (path_in folder q) ∙ ap (λ (t : Bool). cond t (Some v) (get files (path_in folder q))) (paths_same folder q n))
      ∙ sym (found_first (same q n) (leads_below q) v (get files (path_in folder q)) (λ t. subst (λ (r : List ℕ). leads_below r ≡ true) (sym ((same_is q n).0 t)) leads))
      ∙ ap (cond (same q n) (Some v)) (sym (get_in folder q files))
      ∙ sym (get-insert nat_list_cmp_total (files_below folder files) n v q))

  remove_in : (files : Files) → files_below folder (remove files (path_in folder n)) ≡ remove (files_below folder files) n
  remove_in files =
      same_files _ _ (λ q. get_in folder q (remove files (path_in folder n))
      ∙ ap (λ (o : Option (List ℕ)). cond (leads_below q) o None) (get-remove nat_list_cmp_total files (path_in folder n) (path_in folder q) ∙ ap (λ (t : Bool). cond t None (get files (path_in folder q))) (paths_same folder q n))
      ∙ removed_first (same q n) (leads_below q) (get files (path_in folder q))
      ∙ ap (cond (same q n) None) (sym (get_in folder q files))
      ∙ sym (get-remove nat_list_cmp_total (files_below folder files) n q))

  write_in : (at : ℕ) (piece : List ℕ) (files : Files) → files_below folder (after_write (path_in folder n) at piece files) ≡ after_write n at piece (files_below folder files)
  write_in at piece files = insert_in files _ ∙ ap (λ (b : List ℕ). insert (files_below folder files) n (file_written b at piece)) (sym (bytes_in folder n files leads))

  cut_any : (size : ℕ) (files : Files) (o : Option (List ℕ)) → files_below folder (cut_to files (path_in folder n) size o) ≡ cut_to (files_below folder files) n size o
  cut_any size files None = refl
  cut_any size files (Some bytes) = insert_in files (take size bytes)

  cut_in : (size : ℕ) (files : Files) → files_below folder (after_cut (path_in folder n) size files) ≡ after_cut n size (files_below folder files)
  cut_in size files = cut_any size files (get files (path_in folder n)) ∙ ap (cut_to (files_below folder files) n size) (sym (get_good folder n files leads))

  torn_in : (at count : ℕ) (old new : Files) → IsTorn (path_in folder n) at count old new → IsTorn n at count (files_below folder old) (files_below folder new)
  torn_in at count old new torn = record {
    others = λ q other. get_in folder q new ∙ ap (λ (o : Option (List ℕ)). cond (leads_below q) o None) (torn.others (path_in folder q) (λ e. other (same_path folder q n e))) ∙ sym (get_in folder q old);
    missing = λ none. get_good folder n old leads ∙ torn.missing (sym (get_good folder n new leads) ∙ none);
    file = subst (λ (b : List ℕ). IfSome (get (files_below folder new) n) (IsTornFile at count b)) (sym (bytes_in folder n old leads))
        (subst (λ (o : Option (List ℕ)). IfSome o (IsTornFile at count (bytes_of old (path_in folder n)))) (sym (get_good folder n new leads)) torn.file);
  }

-- the same, where the files are told, of the path to which a name leads
steps_in : (folder : List ℕ) (step step_in : Files → Files) → ((m : Files) → files_below folder (step m) ≡ step_in (files_below folder m)) → (old new : Option Files) → new ≡ option_map step old → told_in folder new ≡ option_map step_in (told_in folder old)
steps_in folder step step_in so None new e = ap (told_in folder) e
steps_in folder step step_in so (Some m) new e = ap (told_in folder) e ∙ ap Some (so m)

undecided_in : (folder : List ℕ) (step step_in : Files → Files) → ((m : Files) → files_below folder (step m) ≡ step_in (files_below folder m)) → (old new : Option Files) → Related (IsUndecided step) old new → Related (IsUndecided step_in) (told_in folder old) (told_in folder new)
undecided_in folder step step_in so None None h = tt
undecided_in folder step step_in so None (Some m) h = h
undecided_in folder step step_in so (Some m) None h = h
undecided_in folder step step_in so (Some m) (Some n) h =
    elim h [
      | inl e ↦ inl (ap (files_below folder) e)
      | inr e ↦ inr (ap (files_below folder) e ∙ so m)
    ]

torn_told : (folder n : List ℕ) → leads_below n ≡ true → (at count : ℕ) (old new : Option Files) → Related (IsTorn (path_in folder n) at count) old new → Related (IsTorn n at count) (told_in folder old) (told_in folder new)
torn_told folder n leads at count None None h = tt
torn_told folder n leads at count None (Some m) h = h
torn_told folder n leads at count (Some m) None h = h
torn_told folder n leads at count (Some m) (Some k) h = torn_in folder n leads at count m k h

module _ (folder n path : List ℕ) (leads : LeadsTo folder n (Some path)) where
  at_path : (P : List ℕ → Type 0) → P path → P (path_in folder n)
  at_path P p = subst P leads.0 p

  pub cut_told : {E : Type 0} (size : ℕ) (old new : Option Files) (result : Result (Unit {0}) E) → OnOk result (new ≡ option_map (after_cut path size) old) → OnOk result (told_in folder new ≡ option_map (after_cut n size) (told_in folder old))
  cut_told size old new (Ok done) h = steps_in folder _ _ (cut_in folder n leads.1 size) old new (at_path (λ p. new ≡ option_map (after_cut p size) old) h)
  cut_told size old new (Err fault) h = tt

  pub may_cut_told : (size : ℕ) (old new : Option Files) → Related (IsUndecided (after_cut path size)) old new → Related (IsUndecided (after_cut n size)) (told_in folder old) (told_in folder new)
  may_cut_told size old new h = undecided_in folder _ _ (cut_in folder n leads.1 size) old new (at_path (λ p. Related (IsUndecided (after_cut p size)) old new) h)

  pub remove_told : {E : Type 0} (old new : Option Files) (result : Result (Unit {0}) E) → OnOk result (new ≡ option_map (after_remove path) old) → OnOk result (told_in folder new ≡ option_map (after_remove n) (told_in folder old))
  remove_told old new (Ok done) h = steps_in folder _ _ (remove_in folder n leads.1) old new (at_path (λ p. new ≡ option_map (after_remove p) old) h)
  remove_told old new (Err fault) h = tt

  pub may_remove_told : (old new : Option Files) → Related (IsUndecided (after_remove path)) old new → Related (IsUndecided (after_remove n)) (told_in folder old) (told_in folder new)
  may_remove_told old new h = undecided_in folder _ _ (remove_in folder n leads.1) old new (at_path (λ p. Related (IsUndecided (after_remove p)) old new) h)

  made_undecided : (old new : Option Files) → Related (IsUndecided (after_write n 0 [])) old new → MayMake n old new
  made_undecided None None h = inl refl
  made_undecided None (Some m) h = absurd h
  made_undecided (Some m) None h = absurd h
  made_undecided (Some m) (Some k) h = elim h [ inl e ↦ inl (ap Some e) | inr e ↦ inr (ap Some e) ]

  -- a file was opened to be written, or that failed
  pub made_told : {T E : Type 0} (old new : Option Files) (result : Result T E) → OnOk result (new ≡ option_map (after_write path 0 []) old) → OnErr result (Related (IsUndecided (after_write path 0 [])) old new) → MayMake n (told_in folder old) (told_in folder new)
  made_told old new (Ok done) h failed = inr (steps_in folder _ _ (write_in folder n leads.1 0 []) old new (at_path (λ p. new ≡ option_map (after_write p 0 []) old) h))
  made_told old new (Err fault) h failed =
      made_undecided _ _ (undecided_in folder _ _ (write_in folder n leads.1 0 []) old new (at_path (λ p. Related (IsUndecided (after_write p 0 [])) old new) failed))

-- nothing is done to a file whose name leads to no path
pub no_cut : (folder n : List ℕ) (size : ℕ) (files : Option Files) → leads_below n ≡ false → told_in folder files ≡ option_map (after_cut n size) (told_in folder files)
no_cut folder n size None bad = refl
no_cut folder n size (Some m) bad = ap Some (sym (ap (cut_to (files_below folder m) n size) (get_bad folder n m bad)))

removed_missing : (b : Bool) (o : Option (List ℕ)) → (b ≡ true → o ≡ None) → o ≡ cond b None o
removed_missing true o none = none refl
removed_missing false o none = refl

remove_missing : (n : List ℕ) (files : Files) → get files n ≡ None → files ≡ after_remove n files
remove_missing n files none =
    same_files files (remove files n) (λ q. removed_missing (same q n) (get files q) (λ t. ap (get files) ((same_is q n).0 t) ∙ none) ∙ sym (get-remove nat_list_cmp_total files n q))

pub no_remove : (folder n : List ℕ) (files : Option Files) → leads_below n ≡ false → told_in folder files ≡ option_map (after_remove n) (told_in folder files)
no_remove folder n None bad = refl
no_remove folder n (Some m) bad = ap Some (remove_missing n (files_below folder m) (get_bad folder n m bad))

-- ---- cuts and removals of what isn't longer, or isn't there

no_size : (o : Option (List ℕ)) (found : Option ℕ) → found ≡ option_map length o → found ≡ None → o ≡ None
no_size None found e none = refl
no_size (Some bytes) found e none = let no : ◌≡◌ {A = Option ℕ} (Some (length bytes)) None = sym e ∙ none in absurd cc

pub remove_none : (path : List ℕ) (files : Option Files) (found : Option ℕ) → IsSizeIn files path found → found ≡ None → files ≡ option_map (after_remove path) files
remove_none path None found size none = refl
remove_none path (Some m) found size none = ap Some (remove_missing path m (no_size (get m path) found size none))

put_same : (path bytes : List ℕ) (files : Files) → get files path ≡ Some bytes → files ≡ insert files path bytes
put_same path bytes files there =
    same_files files (insert files path bytes) (λ q. put_one (same q path) (get files q) (λ t. ap (get files) ((same_is q path).0 t) ∙ there) ∙ sym (get-insert nat_list_cmp_total files path bytes q))
  where
    put_one : (b : Bool) (o : Option (List ℕ)) → (b ≡ true → o ≡ Some bytes) → o ≡ cond b (Some bytes) o
    put_one true o e = e refl
    put_one false o e = refl

short_one : (path : List ℕ) (size : ℕ) (m : Files) (found : Option ℕ) (o : Option (List ℕ)) → get m path ≡ o → found ≡ option_map length o → unwrap_or found 0 ≤ size → m ≡ cut_to m path size o
short_one path size m found None e is le = refl
short_one path size m found (Some bytes) e is le =
    put_same path bytes m e ∙ ap (insert m path) (sym (take_all size bytes (subst (λ (f : Option ℕ). unwrap_or f 0 ≤ size) is le)))

-- a file that isn't longer, or isn't there, is as it was after a cut
pub short_cut : (path : List ℕ) (size : ℕ) (files : Option Files) (found : Option ℕ) → IsSizeIn files path found → unwrap_or found 0 ≤ size → files ≡ option_map (after_cut path size) files
short_cut path size None found is le = refl
short_cut path size (Some m) found is le = ap Some (short_one path size m found (get m path) refl is le)

resized_one : (path : List ℕ) (size : ℕ) (m : Files) (found : Option ℕ) (o : Option (List ℕ)) → found ≡ option_map length o → size < unwrap_or found 0 → resized m path size o ≡ cut_to m path size o
resized_one path size m found None is lt = refl
resized_one path size m found (Some bytes) is lt =
    let shorter : size < length bytes = subst (λ (f : Option ℕ). size < unwrap_or f 0) is lt in
    ap (insert m path) (take-append-le size bytes (replicate (size - length bytes) 0) (omega (arith, shorter)))

-- a longer file that got a size is as after a cut
resize_cuts : (path : List ℕ) (size : ℕ) (m : Files) (found : Option ℕ) → IsSizeIn (Some m) path found → size < unwrap_or found 0 → after_resize path size m ≡ after_cut path size m
resize_cuts path size m found is lt = resized_one path size m found (get m path) is lt

pub resized_cut : {E : Type 0} (path : List ℕ) (size : ℕ) (old new : Option Files) (found : Option ℕ) (result : Result (Unit {0}) E) → IsSizeIn old path found → size < unwrap_or found 0 → OnOk result (new ≡ option_map (after_resize path size) old) → OnOk result (new ≡ option_map (after_cut path size) old)
resized_cut path size old new found (Err fault) is lt h = tt
resized_cut path size None new found (Ok done) is lt h = h
resized_cut path size (Some m) new found (Ok done) is lt h = h ∙ ap Some (resize_cuts path size m found is lt)

may_resize : (path : List ℕ) (size : ℕ) (old new : Option Files) (found : Option ℕ) → IsSizeIn old path found → size < unwrap_or found 0 → Related (IsUndecided (after_resize path size)) old new → Related (IsUndecided (after_cut path size)) old new
may_resize path size None None found is lt h = h
may_resize path size None (Some k) found is lt h = h
may_resize path size (Some m) None found is lt h = h
may_resize path size (Some m) (Some k) found is lt h = elim h [ inl e ↦ inl e | inr e ↦ inr (e ∙ resize_cuts path size m found is lt) ]

pub may_resized_cut : {E : Type 0} (path : List ℕ) (size : ℕ) (old new : Option Files) (found : Option ℕ) (result : Result (Unit {0}) E) → IsSizeIn old path found → size < unwrap_or found 0 → OnErr result (Related (IsUndecided (after_resize path size)) old new) → OnErr result (Related (IsUndecided (after_cut path size)) old new)
may_resized_cut path size old new found (Err fault) is lt h = may_resize path size old new found is lt h
may_resized_cut path size old new found (Ok done) is lt h = tt

none_of : {X : Type 0} (found : Option X) → ((x : X) → found ≡ Some x → ⊥) → found ≡ None
none_of None none = refl
none_of (Some x) none = absurd (none x refl)

pub remove_no_file : (path : List ℕ) (files : Option Files) (found : Option ℕ) → IsSizeIn files path found → ((x : ℕ) → found ≡ Some x → ⊥) → files ≡ option_map (after_remove path) files
remove_no_file path files found size none = remove_none path files found size (none_of found none)

-- a write over the open file of a name, and one that failed
pub write_file_told : {F : Type 0} (is_at : F → List ℕ → Type 0) (folder name : List ℕ) (at : ℕ) (piece : List ℕ) (old new : Option Files) (file : OpenFile F) → IsOpenAt is_at folder file × (file.name.items ≡ name) → ((path : List ℕ) → is_at file.file path → new ≡ option_map (after_write path at piece) old) → told_in folder new ≡ option_map (after_write name at piece) (told_in folder old)
write_file_told is_at folder name at piece old new file is h =
    subst (λ (n : List ℕ). told_in folder new ≡ option_map (after_write n at piece) (told_in folder old)) is.1
    (steps_in folder _ _ (write_in folder file.name.items is.0.1 at piece) old new (h (path_in folder file.name.items) is.0.0))

pub tear_file_told : {F : Type 0} (is_at : F → List ℕ → Type 0) (folder name : List ℕ) (at count : ℕ) (old new : Option Files) (file : OpenFile F) → IsOpenAt is_at folder file × (file.name.items ≡ name) → ((path : List ℕ) → is_at file.file path → Related (IsTorn path at count) old new) → Related (IsTorn name at count) (told_in folder old) (told_in folder new)
tear_file_told is_at folder name at count old new file is h =
    subst (λ (n : List ℕ). Related (IsTorn n at count) (told_in folder old) (told_in folder new)) is.1
    (torn_told folder file.name.items is.0.1 at count old new (h (path_in folder file.name.items) is.0.0))
