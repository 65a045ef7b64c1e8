-- A path is that of one file, in one form.
use Rattle.std.proofs.Common.{◌≡◌, ◌≢◌, ℕ, ◌^◌, ◌<◌, Bool, true, false, not, ◌||◌, ◌&&◌, List, [], ◌∷◌, ◌++◌, take, drop, length, codes, nat_eq, Option, Some, None, IfNone, zero, suc, refl, sym, ap, ap₂, subst, ◌∙◌, arith}
use Rattle.std.specs.Prelude.{◌==◌}
use Rattle.std.specs.Fmt.{decimal}
use Rattle.std.specs.Char.{is_ascii_digit}
use Rattle.std.specs.Str.{bytes_eq}
use Rattle.std.specs.List.{list_any, starts_with}
use Rattle.std.proofs.lemmas.Bool.Decides.{Decides-eqb}
use Rattle.std.proofs.lemmas.Slice.Eq.{bytes_eq-Decides, starts_is}
use Rattle.std.proofs.lemmas.Bool.{and_parts, ne_eqb}
use Rattle.std.proofs.lemmas.Fmt.{decimal_nonempty}
use Rattle.std.proofs.lemmas.List.{append_cancel_left}
use Rattle.std.proofs.lemmas.List.Folds.{list_any-append}
use Rattle.lsn_core.proofs.text_numbers.Decimal.{decimal_is_digits}
use Rattle.lsn_core.specs.text_numbers.Numbers.{all_digits}
use Rattle.lsn_core.specs.Names.{file_prefix, file_tail, plain_name, segment_suffix, fork_path_bytes, IsNamed, NamesNoFork}
use Rattle.lsn_core.specs.declared.ids.ForkId.{ForkId}
use Rattle.lsn_core.specs.declared.ids.ForkKind.{ForkKind}
use Rattle.lsn_core.specs.declared.ids.ForkKind.TheVariants.{Main, Init}
use Rattle.chain_files.specs.Paths.{file_path, is_relation_folder, is_slash, is_odd_name, IsRelationFile, IsIncrementalPath, fork_folder, fork_name, IsForkFile}
use Rattle.lsn_core.proofs.ForkPaths.{one_place}

-- ---- the last slash

pub has_slash : (front last : List ℕ) → list_any is_slash (front ++ (47 ∷ last)) ≡ true
has_slash [] last = refl
has_slash (b ∷ front) last = ap (λ (r : Bool). is_slash b || r) (has_slash front last) ∙ or_true (is_slash b)
  where
    or_true : (b : Bool) → (b || true) ≡ true
    or_true true = refl
    or_true false = refl

never_slash : (a front last : List ℕ) → a ≡ front ++ (47 ∷ last) → list_any is_slash a ≡ false → ⊥
never_slash a front last e flat = let never : true ≡ false = sym (ap (list_any is_slash) e ∙ has_slash front last) ∙ flat in cc

first_same : (a b : ℕ) (x y : List ℕ) → a ∷ x ≡ b ∷ y → (a ≡ b) × (x ≡ y)
first_same a b x y e = (cc, cc)

pub cut_once : (front other a b : List ℕ) → list_any is_slash a ≡ false → list_any is_slash b ≡ false → front ++ (47 ∷ a) ≡ other ++ (47 ∷ b) → (front ≡ other) × (a ≡ b)
cut_once [] [] a b x y e = (refl, (first_same 47 47 a b e).1)
cut_once [] (d ∷ other) a b x y e = absurd (never_slash a other b (first_same 47 d a (other ++ (47 ∷ b)) e).1 x)
cut_once (c ∷ front) [] a b x y e = absurd (never_slash b front a (sym (first_same c 47 (front ++ (47 ∷ a)) b e).1) y)
cut_once (c ∷ front) (d ∷ other) a b x y e =
    let same = first_same c d (front ++ (47 ∷ a)) (other ++ (47 ∷ b)) e in
    let rest = cut_once front other a b x y same.1 in
    (ap₂ (λ (n : ℕ) (l : List ℕ). n ∷ l) same.0 rest.0, rest.1)

-- a path with a folder is another one than a name alone
pub folder_apart : (folder name : List ℕ) (incr : Bool) (other : List ℕ) → list_any is_slash other ≡ false → file_path folder name incr ≢ other
folder_apart folder name incr other flat e = never_slash other folder (file_prefix incr ++ name) (sym e) flat

begins : (folder top : List ℕ) → starts_with nat_eq folder top ≡ true → folder ≡ top ++ drop (length top) folder
begins folder top e = (starts_is Decides-eqb folder top (starts_with nat_eq folder top) refl).0 e

abbrev IsOutsideWal : List ℕ → Type 0
IsOutsideWal folder = (rest : List ℕ) → starts_with nat_eq (folder ++ (47 ∷ rest)) (codes "pg_wal/") ≡ false

outside : (folder : List ℕ) (a b c : Bool) → bytes_eq folder (codes "global") ≡ a → starts_with nat_eq folder (codes "base/") ≡ b → starts_with nat_eq folder (codes "pg_tblspc/") ≡ c → (a || (b || c)) ≡ true → IsOutsideWal folder
outside folder true b c x y z e = subst IsOutsideWal (sym ((bytes_eq-Decides folder (codes "global")).0 x)) (λ rest. refl)
outside folder false true c x y z e = subst IsOutsideWal (sym (begins folder (codes "base/") y)) (λ rest. refl)
outside folder false false true x y z e = subst IsOutsideWal (sym (begins folder (codes "pg_tblspc/") z)) (λ rest. refl)
outside folder false false false x y z e = absurd cc

-- and isn't in the folder of the WAL
pub outside_wal : (folder name : List ℕ) (incr : Bool) → IsRelationFile folder name → starts_with nat_eq (file_path folder name incr) (codes "pg_wal/") ≡ false
outside_wal folder name incr is = outside folder _ _ _ refl refl refl is.relations (file_prefix incr ++ name)

-- ---- a file

pub prefix_flat : (incr : Bool) (name : List ℕ) → list_any is_slash name ≡ false → list_any is_slash (file_prefix incr ++ name) ≡ false
prefix_flat true name flat = flat
prefix_flat false name flat = flat

odd_prefix : (name : List ℕ) → is_odd_name (file_prefix true ++ name) ≡ true
odd_prefix name = refl

never_prefix : (name other : List ℕ) → is_odd_name name ≡ false → name ≡ file_prefix true ++ other → ⊥
never_prefix name other even e = let never : true ≡ false = sym (ap is_odd_name e ∙ odd_prefix other) ∙ even in cc

same_name : (i j : Bool) (a b : List ℕ) → is_odd_name a ≡ false → is_odd_name b ≡ false → file_prefix i ++ a ≡ file_prefix j ++ b → (a ≡ b) × (i ≡ j)
same_name true true a b x y e = (append_cancel_left (file_prefix true) a b e, refl)
same_name false false a b x y e = (e, refl)
same_name true false a b x y e = absurd (never_prefix b a y (sym e))
same_name false true a b x y e = absurd (never_prefix a b x e)

-- each path is that of one file in one form
pub one_file : (f g a b : List ℕ) (i j : Bool) → IsRelationFile f a → IsRelationFile g b → file_path f a i ≡ file_path g b j → (f ≡ g) × ((a ≡ b) × (i ≡ j))
one_file f g a b i j x y e =
    let cut = cut_once f g (file_prefix i ++ a) (file_prefix j ++ b) (prefix_flat i a x.flat) (prefix_flat j b y.flat) e in
    (cut.0, same_name i j a b x.even y.even cut.1)

-- a plain path is no incremental one
pub never_incremental : (path folder name : List ℕ) → IsRelationFile folder name → path ≡ file_path folder name false → IsIncrementalPath path → ⊥
never_incremental path folder name placed spelled f =
    let same = one_file folder f.folder name f.name false true placed f.placed (sym spelled ∙ f.spelled) in
    let never : false ≡ true = same.1.1 in cc

-- an incremental path is that of one file
pub one_incremental : (path : List ℕ) (f g : IsIncrementalPath path) → (f.folder ≡ g.folder) × (f.name ≡ g.name)
one_incremental path f g =
    let same = one_file f.folder g.folder f.name g.name true true f.placed g.placed (sym f.spelled ∙ g.spelled) in
    (same.0, same.1.0)

pub one_plain : (path : List ℕ) (f g : IsIncrementalPath path) → file_path f.folder f.name false ≡ file_path g.folder g.name false
one_plain path f g =
    let same = one_incremental path f g in
    ap₂ (λ (folder name : List ℕ). file_path folder name false) same.0 same.1

-- ---- paths of other files

pub none_if : {A : Type 0} (o : Option A) (P : Type 0) → P → IfNone o P
none_if None P p = p
none_if (Some x) P p = tt

never_both : (b : Bool) → b ≡ true → b ≡ false → ⊥
never_both b t f = let never : true ≡ false = sym t ∙ f in cc

pub other_last : (path folder last : List ℕ) → path ≡ folder ++ (47 ∷ last) → list_any is_slash last ≡ false → ((tail : List ℕ) → last ≡ file_prefix true ++ tail → ⊥) → IsIncrementalPath path → ⊥
other_last path folder last parts flat none f = none f.name (cut_once folder f.folder last (file_prefix true ++ f.name) flat (prefix_flat true f.name f.placed.flat) (sym parts ∙ f.spelled)).1

pub other_folder : (path folder last : List ℕ) → path ≡ folder ++ (47 ∷ last) → list_any is_slash last ≡ false → is_relation_folder folder ≡ false → IsIncrementalPath path → ⊥
other_folder path folder last parts flat out f =
    let same = cut_once folder f.folder last (file_prefix true ++ f.name) flat (prefix_flat true f.name f.placed.flat) (sym parts ∙ f.spelled) in
    never_both (is_relation_folder folder) (ap is_relation_folder same.0 ∙ f.placed.relations) out

pub other_name : (path folder last name : List ℕ) → path ≡ folder ++ (47 ∷ last) → list_any is_slash last ≡ false → last ≡ file_prefix true ++ name → is_odd_name name ≡ true → IsIncrementalPath path → ⊥
other_name path folder last name parts flat is odd f =
    let same = cut_once folder f.folder last (file_prefix true ++ f.name) flat (prefix_flat true f.name f.placed.flat) (sym parts ∙ f.spelled) in
    let names = append_cancel_left (file_prefix true) name f.name (sym is ∙ same.1) in
    never_both (is_odd_name name) odd (ap is_odd_name names ∙ f.placed.even)

-- ---- forks

digit_apart : (c d : ℕ) → is_ascii_digit d ≡ false → is_ascii_digit c ≡ true → c ≢ d
digit_apart c d out digit e = let never : false ≡ true = sym out ∙ (ap is_ascii_digit (sym e) ∙ digit) in cc

digits_flat : (text : List ℕ) → all_digits text ≡ true → list_any is_slash text ≡ false
digits_flat [] e = refl
digits_flat (c ∷ text) e =
    let p = and_parts (is_ascii_digit c) (all_digits text) e in
    ap₂ (λ (a b : Bool). a || b) (ne_eqb c 47 (digit_apart c 47 refl p.0)) (digits_flat text p.1)

both_flat : (a b : List ℕ) → list_any is_slash a ≡ false → list_any is_slash b ≡ false → list_any is_slash (a ++ b) ≡ false
both_flat a b x y = list_any-append is_slash a b ∙ ap₂ (λ (p q : Bool). p || q) x y

suffix_some : (seg : ℕ) → seg ≢ 0 → segment_suffix seg ≡ 46 ∷ decimal seg
suffix_some seg some = rw (ne_eqb seg 0 some) refl

suffix_flat : (seg : ℕ) → seg < 2 ^ 32 → list_any is_slash (segment_suffix seg) ≡ false
suffix_flat zero small = refl
suffix_flat (suc seg) small =
    ap (list_any is_slash) (suffix_some (suc seg) (λ z. omega (arith, z)))
    ∙ digits_flat (decimal (suc seg)) (decimal_is_digits (suc seg) (omega (arith, small)))

tail_flat : (kind : ForkKind) (seg : ℕ) → seg < 2 ^ 32 → list_any is_slash (file_tail kind seg) ≡ false
tail_flat Main seg small = suffix_flat seg small
tail_flat Init seg small = suffix_flat seg small

even_front : (c : ℕ) (rest : List ℕ) → is_ascii_digit c ≡ true → is_odd_name (c ∷ rest) ≡ false
even_front c rest digit = rw (ne_eqb c 46 (digit_apart c 46 refl digit), ne_eqb 73 c (λ e. digit_apart c 73 refl digit (sym e))) refl

even_name : (digits rest : List ℕ) → all_digits digits ≡ true → 0 < length digits → is_odd_name (digits ++ rest) ≡ false
even_name [] rest e some = absurd (omega (arith, some))
even_name (c ∷ digits) rest e some = even_front c (digits ++ rest) (and_parts (is_ascii_digit c) (all_digits digits) e).0

-- files of forks may be incremental
pub fork_placed : (fork : ForkId) (seg : ℕ) → IsNamed fork seg → IsRelationFile (fork_folder fork) (fork_name fork seg)
fork_placed fork seg named =
    let digits = decimal_is_digits fork.rel.rel (omega (arith, named.rel_fits)) in
    record {
      relations = refl;
      flat = both_flat (decimal fork.rel.rel) (file_tail fork.kind seg) (digits_flat (decimal fork.rel.rel) digits) (tail_flat fork.kind seg named.seg_fits);
      even = even_name (decimal fork.rel.rel) (file_tail fork.kind seg) digits (decimal_nonempty fork.rel.rel (omega (arith, named.rel_fits)));
    }

pub same_path : (fork : ForkId) (seg : ℕ) (incr : Bool) → fork_path_bytes fork seg incr ≡ file_path (fork_folder fork) (fork_name fork seg) incr
same_path fork seg incr = refl

abbrev pub fork_file : {path : List ℕ} (fork : ForkId) (seg : ℕ) → IsNamed fork seg → path ≡ fork_path_bytes fork seg false → IsForkFile path
fork_file fork seg named spelled = record { fork = fork; seg = seg; named = named; spelled = spelled }

-- a path is in one form
pub one_form : (path : List ℕ) → IsForkFile path → IsIncrementalPath path → ⊥
one_form path plain incr = never_incremental path (fork_folder plain.fork) (fork_name plain.fork plain.seg) (fork_placed plain.fork plain.seg plain.named) plain.spelled incr

-- no fork's incremental path is a plain one
pub no_fork_file : (path : List ℕ) (fork : ForkId) (seg : ℕ) → IsNamed fork seg → path ≡ fork_path_bytes fork seg true → IsForkFile path → ⊥
no_fork_file path fork seg named spelled f =
    let same = one_place f.fork fork f.seg seg false true f.named named (sym f.spelled ∙ spelled) in
    let never : false ≡ true = same.1.1 in cc

pub no_forks : (path : List ℕ) → NamesNoFork path → IsForkFile path → ⊥
no_forks path none f = none f.fork f.seg false f.named f.spelled

-- whether a path that is that of a fork is a plain one
pub plain_named : (path : List ℕ) (fork : ForkId) (seg : ℕ) (incr : Bool) → IsNamed fork seg → path ≡ fork_path_bytes fork seg incr → not incr ≡ true → IsForkFile path
plain_named path fork seg false named spelled e = fork_file fork seg named spelled
plain_named path fork seg true named spelled e = absurd cc

pub incremental_named : (path : List ℕ) (fork : ForkId) (seg : ℕ) (incr : Bool) → IsNamed fork seg → path ≡ fork_path_bytes fork seg incr → not incr ≡ false → IsForkFile path → ⊥
incremental_named path fork seg true named spelled e = no_fork_file path fork seg named spelled
incremental_named path fork seg false named spelled e = absurd cc
