-- The parts of a fork's path are read in one way.
use Rattle.std.proofs.Common.{◌≡◌, ◌≢◌, ℕ, ◌^◌, ◌<◌, ◌≤◌, Bool, true, false, List, [], ◌∷◌, ◌++◌, length, codes, zero, suc, refl, sym, ap, ◌∙◌, arith}
use Rattle.std.specs.Fmt.{decimal}
use Rattle.std.proofs.lemmas.Bool.{ne_eqb}
use Rattle.std.proofs.lemmas.List.{append_cancel_left}
use Rattle.std.proofs.lemmas.Fmt.{decimal_injective, decimal_nonempty}
use Rattle.lsn_core.proofs.text_numbers.Decimal.{decimal_is_digits}
use Rattle.lsn_core.specs.text_numbers.Numbers.{IsFront, HasNoFront}
use Rattle.lsn_core.proofs.text_numbers.DecimalFront.{digit_count, counted, front_once, is_front}
use Rattle.lsn_core.specs.declared.ids.ForkKind.{ForkKind}
use Rattle.lsn_core.specs.declared.ids.ForkKind.TheVariants.{Main, Init}
use Rattle.lsn_core.specs.declared.ids.ForkId.{ForkId}
use Rattle.lsn_core.specs.Names.{segment_suffix, file_prefix, file_tail, plain_name, file_name, fork_path_bytes, IsNamed, NamesNoFork}
use Rattle.lsn_core.specs.PathParts.{IsNoSuffix, IsNoTail, IsNoPlainName, HasNoPrefix, IsNoFileName, in_database, IsInNoDatabase}

-- a number that is too large is the only one at the front
pub too_large : (text tail : List ℕ) (number : ℕ) → IsFront text number tail → number < 2 ^ 64 → 2 ^ 32 ≤ number → HasNoFront (2 ^ 32) text
too_large text tail number is fits large n other small at =
    let same = front_once text number n tail other fits (omega (arith, small)) is at in
    omega (arith, same.0, large, small)

-- the suffix of a segment, and of the first one
suffix_some : (seg : ℕ) → seg ≢ 0 → segment_suffix seg ≡ 46 ∷ decimal seg
suffix_some seg some = rw (ne_eqb seg 0 some) refl

suffix_none : (seg : ℕ) → seg ≡ 0 → segment_suffix seg ≡ []
suffix_none seg none = ap segment_suffix none

never_empty : (b : ℕ) (bs : List ℕ) → b ∷ bs ≡ [] → ⊥
never_empty b bs e = cc

-- a point and a number behind it are the suffix of that number alone
pub no_suffix : (text digits : List ℕ) (number : ℕ) → text ≡ 46 ∷ digits → digits ≡ decimal number → number < 2 ^ 64 → (number < 2 ^ 32 → number ≡ 0) → IsNoSuffix text
no_suffix text digits number point is fits out zero small e = never_empty 46 digits (sym point ∙ e ∙ suffix_none 0 refl)
no_suffix text digits number point is fits out (suc seg) small e =
    let same : decimal number ≡ decimal (suc seg) = sym is ∙ append_cancel_left (46 ∷ []) digits (decimal (suc seg)) (sym point ∙ e ∙ suffix_some (suc seg) (λ z. omega (arith, z))) in
    let number_is = decimal_injective number (suc seg) fits (omega (arith, small)) same in
    omega (arith, number_is, out (omega (arith, number_is, small)), small)

-- no digit stands behind a relation's number
tail_apart : (kind : ForkKind) (seg : ℕ) → digit_count (file_tail kind seg) ≡ 0
tail_apart Main zero = refl
tail_apart Main (suc seg) = ap digit_count (suffix_some (suc seg) (λ z. omega (arith, z)))
tail_apart Init seg = refl

-- the name without prefix
pub no_plain_name : (name tail : List ℕ) (number : ℕ) → IsFront name number tail → number < 2 ^ 32 → IsNoTail tail → IsNoPlainName name
no_plain_name name tail number is fits none rel kind seg small seg_fits e =
    let same = front_once name number rel tail (file_tail kind seg) (omega (arith, fits)) (omega (arith, small)) is (is_front name rel (file_tail kind seg) e (tail_apart kind seg)) in
    none kind seg seg_fits same.1

-- no number stands at the front of an incremental file's name
no_number : (plain tail : List ℕ) (n : ℕ) → n < 2 ^ 64 → digit_count tail ≡ 0 → codes "INCREMENTAL." ++ plain ≡ decimal n ++ tail → ⊥
no_number plain tail n small apart e =
    let count : 0 ≡ length (decimal n) = ap digit_count e ∙ counted (decimal n) tail (decimal_is_digits n small) apart in
    omega (arith, count, decimal_nonempty n small)

-- the name with the prefix, or without one
pub no_file_name : (name plain : List ℕ) (incr : Bool) → name ≡ file_prefix incr ++ plain → (incr ≡ false → HasNoPrefix name) → IsNoPlainName plain → IsNoFileName name
no_file_name name plain true is other none true rel kind seg small fits e = none rel kind seg small fits (append_cancel_left (codes "INCREMENTAL.") plain (plain_name rel kind seg) (sym is ∙ e))
no_file_name name plain true is other none false rel kind seg small fits e = no_number plain (file_tail kind seg) rel (omega (arith, small)) (tail_apart kind seg) (sym is ∙ e)
no_file_name name plain false is other none true rel kind seg small fits e = other refl (plain_name rel kind seg) e
no_file_name name plain false is other none false rel kind seg small fits e = none rel kind seg small fits (sym is ∙ e)

-- the folder of a database
pub no_folder : (path behind tail : List ℕ) (db : ℕ) → path ≡ codes "base/" ++ behind → IsFront behind db tail → db < 2 ^ 32 → ((name : List ℕ) → tail ≡ 47 ∷ name → ⊥) → IsInNoDatabase path
no_folder path behind tail db is at fits none other name small e =
    let behind-is : behind ≡ decimal other ++ (47 ∷ name) = append_cancel_left (codes "base/") behind (decimal other ++ (47 ∷ name)) (sym is ∙ e) in
    let same = front_once behind db other tail (47 ∷ name) (omega (arith, fits)) (omega (arith, small)) at (is_front behind other (47 ∷ name) behind-is refl) in
    none name same.1

-- a path leads into one database
in_once : (path name other : List ℕ) (db n : ℕ) → db < 2 ^ 32 → n < 2 ^ 32 → path ≡ in_database db name → path ≡ in_database n other → (db ≡ n) × (name ≡ other)
in_once path name other db n fits small is e =
    let behind : decimal db ++ (47 ∷ name) ≡ decimal n ++ (47 ∷ other) = append_cancel_left (codes "base/") (decimal db ++ (47 ∷ name)) (decimal n ++ (47 ∷ other)) (sym is ∙ e) in
    let same = front_once (decimal db ++ (47 ∷ name)) db n (47 ∷ name) (47 ∷ other) (omega (arith, fits)) (omega (arith, small)) (is_front _ db (47 ∷ name) refl refl) (is_front _ n (47 ∷ other) behind refl) in
    (same.0, append_cancel_left (47 ∷ []) name other same.1)

pub no_name : (path name : List ℕ) (db : ℕ) → path ≡ in_database db name → db < 2 ^ 32 → IsNoFileName name → NamesNoFork path
no_name path name db is fits none fork seg incr named e =
    let same = in_once path name (file_name incr fork.rel.rel fork.kind seg) db fork.rel.db fits named.db_fits is e in
    none incr fork.rel.rel fork.kind seg named.rel_fits named.seg_fits same.1

-- A file's name is that of one segment.

pub record SameTail (a b : ForkKind) (s t : ℕ) : Type 0 where
  pub kind : a ≡ b
  pub seg : s ≡ t

same_suffix : (s t : ℕ) → s < 2 ^ 64 → t < 2 ^ 64 → segment_suffix s ≡ segment_suffix t → s ≡ t
same_suffix zero zero h k e = refl
same_suffix zero (suc t) h k e = absurd (never_empty 46 (decimal (suc t)) (sym (suffix_some (suc t) (λ z. omega (arith, z))) ∙ sym e))
same_suffix (suc s) zero h k e = absurd (never_empty 46 (decimal (suc s)) (sym (suffix_some (suc s) (λ z. omega (arith, z))) ∙ e))
same_suffix (suc s) (suc t) h k e =
    decimal_injective (suc s) (suc t) h k
    (append_cancel_left (46 ∷ []) (decimal (suc s)) (decimal (suc t)) (sym (suffix_some (suc s) (λ z. omega (arith, z))) ∙ e ∙ suffix_some (suc t) (λ z. omega (arith, z))))

first_of : (a b : ℕ) (xs ys : List ℕ) → a ∷ xs ≡ b ∷ ys → a ≡ b
first_of a b xs ys e = cc

-- a segment's suffix doesn't begin as that of a kind of fork
no_kind : (seg : ℕ) (rest : List ℕ) → segment_suffix seg ≡ 95 ∷ rest → ⊥
no_kind zero rest e = never_empty 95 rest (sym e)
no_kind (suc seg) rest e = let differ = first_of 46 95 (decimal (suc seg)) rest (sym (suffix_some (suc seg) (λ z. omega (arith, z))) ∙ e) in omega (arith, differ)

same_tail : (a b : ForkKind) (s t : ℕ) → s < 2 ^ 64 → t < 2 ^ 64 → file_tail a s ≡ file_tail b t → SameTail a b s t
same_tail Main Main s t h k e = record { kind = refl; seg = same_suffix s t h k e }
same_tail Init Init s t h k e = record { kind = refl; seg = same_suffix s t h k (append_cancel_left (codes "_init") (segment_suffix s) (segment_suffix t) e) }
same_tail Main Init s t h k e = absurd (no_kind s _ e)
same_tail Init Main s t h k e = absurd (no_kind t _ (sym e))

pub record SameFile (i j : Bool) (m n : ℕ) (a b : ForkKind) (s t : ℕ) : Type 0 where
  pub incr : i ≡ j
  pub rel : m ≡ n
  pub tail : SameTail a b s t

same_plain : (i : Bool) (m n : ℕ) (a b : ForkKind) (s t : ℕ) → m < 2 ^ 32 → n < 2 ^ 32 → s < 2 ^ 32 → t < 2 ^ 32 → plain_name m a s ≡ plain_name n b t → SameFile i i m n a b s t
same_plain i m n a b s t hm hn hs ht e =
    let same = front_once (plain_name m a s) m n (file_tail a s) (file_tail b t) (omega (arith, hm)) (omega (arith, hn)) (is_front _ m (file_tail a s) refl (tail_apart a s)) (is_front _ n (file_tail b t) e (tail_apart b t)) in
    record { incr = refl; rel = same.0; tail = same_tail a b s t (omega (arith, hs)) (omega (arith, ht)) same.1 }

pub same_file : (i j : Bool) (m n : ℕ) (a b : ForkKind) (s t : ℕ) → m < 2 ^ 32 → n < 2 ^ 32 → s < 2 ^ 32 → t < 2 ^ 32 → file_name i m a s ≡ file_name j n b t → SameFile i j m n a b s t
same_file false false m n a b s t hm hn hs ht e = same_plain false m n a b s t hm hn hs ht e
same_file true true m n a b s t hm hn hs ht e = same_plain true m n a b s t hm hn hs ht (append_cancel_left (codes "INCREMENTAL.") (plain_name m a s) (plain_name n b t) e)
same_file false true m n a b s t hm hn hs ht e = absurd (no_number (plain_name n b t) (file_tail a s) m (omega (arith, hm)) (tail_apart a s) (sym e))
same_file true false m n a b s t hm hn hs ht e = absurd (no_number (plain_name m a s) (file_tail b t) n (omega (arith, hn)) (tail_apart b t) e)

-- numbers that are no relation's have no path
pub no_relation : (path name : List ℕ) (db : ℕ) (incr : Bool) (rel : ℕ) (kind : ForkKind) (seg : ℕ) → path ≡ in_database db name → db < 2 ^ 32 → name ≡ file_name incr rel kind seg → rel < 2 ^ 32 → seg < 2 ^ 32
    → ((0 < db) × (0 < rel) → ⊥) → NamesNoFork path
no_relation path name db incr rel kind seg is fits name_is rel_fits seg_fits never fork other form named e =
    let same = in_once path name (file_name form fork.rel.rel fork.kind other) db fork.rel.db fits named.db_fits is e in
    let file = same_file incr form rel fork.rel.rel kind fork.kind seg other rel_fits named.rel_fits seg_fits named.seg_fits (sym name_is ∙ same.1) in
    never (omega (arith, same.0, named.some_db), omega (arith, file.rel, named.some_rel))

same_fork : (a b : ForkId) → a.rel.db ≡ b.rel.db → a.rel.rel ≡ b.rel.rel → a.kind ≡ b.kind → a ≡ b
same_fork a b d r k = λ i. record { rel = record { db = d i; rel = r i }; kind = k i }

-- each path names one place
pub one_place : (a b : ForkId) (s t : ℕ) (i j : Bool) → IsNamed a s → IsNamed b t → fork_path_bytes a s i ≡ fork_path_bytes b t j → (a ≡ b) × ((s ≡ t) × (i ≡ j))
one_place a b s t i j x y e =
    let same = in_once (fork_path_bytes a s i) (file_name i a.rel.rel a.kind s) (file_name j b.rel.rel b.kind t) a.rel.db b.rel.db x.db_fits y.db_fits refl e in
    let file = same_file i j a.rel.rel b.rel.rel a.kind b.kind s t x.rel_fits y.rel_fits x.seg_fits y.seg_fits same.1 in
    (same_fork a b same.0 file.rel file.tail.kind, (file.tail.seg, file.incr))
