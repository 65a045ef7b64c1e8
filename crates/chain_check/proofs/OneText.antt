-- A text that is refused as a manifest is refused for one fault.
use Rattle.std.proofs.Common.{◌≡◌, ◌≢◌, ℕ, ◌+◌, ◌<◌, List, [], ◌∷◌, ◌++◌, length, take, drop, get_or, suc, zero, Option, Some, None, Err, refl, sym, ap, subst, ◌∙◌, arith, length-append, inl, inr, ◌⊎◌}
use Rattle.std.specs.List.{Contains}
use Rattle.std.specs.List.Sorted.{IsPermutation}
use Rattle.std.proofs.lemmas.List.{drop_at, take_at, append_cancel_left, append_cancel_right}
use Rattle.std.proofs.lemmas.List.Sorted.{IsPermutation-sym, IsPermutation-trans, Contains-permutation}
use Rattle.lsn_core.specs.byte_words.Numbers.{◌>>=◌}
use Rattle.sha2.specs.Sha256.{sha256}
use Rattle.hex.specs.Hex.{decode_of}
use Rattle.hex.proofs.HexLemmas.{decode_of-same}
use Rattle.serde_json.specs.Data.{Data}
use Rattle.serde_json.specs.Read.{read}
use Rattle.manifest.specs.Kinds.{file_in, all_files}
use Rattle.manifest.specs.Lines.{line_front, line_back, IsLined, IsSummed}
use Rattle.manifest.specs.Reading.{IsJson, IsShaped, ValueAnswers, IsJudged, ReadAnswers}
use Rattle.manifest.specs.Shape.{Top, top_in, Parts, IsArranged, version_in, IsKnown, IsUnknown}
use Rattle.manifest.specs.declared.fault.ManifestFault.{ManifestFault}
use Rattle.manifest.specs.declared.fault.ManifestFault.TheVariants.{Lines, Sum, Json, Version, Shape, SumKind, TimelineIs, NoMemory}
use Rattle.manifest.specs.declared.listing.FileRow.{FileRow}
use Rattle.manifest.specs.declared.shape.RawRow.{RawRow}

abbrev or_else : {A : Type 0} → A → Option A → A
or_else x None = x
or_else x (Some y) = y

pub one_value : {A : Type 0} (o : Option A) (x y : A) → o ≡ Some x → o ≡ Some y → x ≡ y
one_value o x y e f = ap (or_else x) (sym e ∙ f)

-- ---- the last line

length-line : (lines digits : List ℕ) → length (lines ++ (line_front ++ (digits ++ line_back))) ≡ length lines + length digits + 25
length-line lines digits = length-append lines (line_front ++ (digits ++ line_back)) ∙ omega (arith, length-append digits line_back)

same_digits : (a b : List ℕ) → line_front ++ (a ++ line_back) ≡ line_front ++ (b ++ line_back) → a ≡ b
same_digits a b e = append_cancel_right a b line_back (append_cancel_left line_front _ _ e)

pub lined_once : (bytes lines other sum more : List ℕ) → IsLined bytes lines sum → IsLined bytes other more → (lines ≡ other) × (sum ≡ more)
lined_once bytes lines other sum more is was =
    let one : length bytes ≡ length lines + length is.digits + 25 = ap (λ (l : List ℕ). length l) is.spelled ∙ length-line lines is.digits in
    let two : length bytes ≡ length other + length was.digits + 25 = ap (λ (l : List ℕ). length l) was.spelled ∙ length-line other was.digits in
    let at : length lines ≡ length other = omega (arith, one, two, is.long, was.long) in
    let both : lines ++ (line_front ++ (is.digits ++ line_back)) ≡ other ++ (line_front ++ (was.digits ++ line_back)) = sym is.spelled ∙ was.spelled in
    let front = sym (take_at lines _ (length other) at) ∙ (ap (λ (l : List ℕ). take (length other) l) both ∙ take_at other _ (length other) refl) in
    let last = sym (drop_at lines _ (length other) at) ∙ (ap (λ (l : List ℕ). drop (length other) l) both ∙ drop_at other _ (length other) refl) in
    (front, decode_of-same was.digits sum more (ap decode_of (sym (same_digits is.digits was.digits last)) ∙ is.said) was.said)

-- a sum that isn't that of its lines
other_sum : (bytes lines sum : List ℕ) → IsLined bytes lines sum → sum ≢ sha256 lines → IsSummed bytes → ⊥
other_sum bytes lines sum is differs whole =
    let once = lined_once bytes lines whole.0 sum (sha256 whole.0) is whole.1 in
    differs (once.1 ∙ ap sha256 (sym once.0))

-- ---- the sums of the rows

abbrev NoFile : List RawRow → Type 0
NoFile rows = (row : RawRow) × Contains rows row × (file_in row ≡ None)

behind_row : (first : RawRow) (rows : List RawRow) → NoFile rows → NoFile (first ∷ rows)
behind_row first rows there = (there.0, (suc there.1.0, omega (arith, there.1.1), there.1.2), there.2)

none_behind : (first : RawRow) (rows : List RawRow) (file : FileRow) (files : Option (List FileRow)) → (files ≡ None → NoFile rows) → (files >>= (λ fs. Some (file ∷ fs))) ≡ None → NoFile (first ∷ rows)
none_behind first rows file None later e = behind_row first rows (later refl)
none_behind first rows file (Some files) later e = absurd (cc)

none_at : (first : RawRow) (rows : List RawRow) (file : Option FileRow) → (all_files rows ≡ None → NoFile rows) → file_in first ≡ file → (file >>= (λ f. all_files rows >>= (λ fs. Some (f ∷ fs)))) ≡ None → NoFile (first ∷ rows)
none_at first rows None later is e = (first, (0, omega arith, refl), is)
none_at first rows (Some file) later is e = none_behind first rows file (all_files rows) later e

no_file : (rows : List RawRow) → all_files rows ≡ None → NoFile rows
no_file [] e = absurd (cc)
no_file (first ∷ rows) e = none_at first rows (file_in first) (no_file rows) refl e

bound : {A B : Type 0} (o : Option A) (f : A → Option B) (y : B) → (o >>= f) ≡ Some y → (x : A) × (o ≡ Some x) × (f x ≡ Some y)
bound None f y e = absurd (cc)
bound (Some x) f y e = (x, refl, e)

never_both : {A : Type 0} (o : Option A) (x : A) → o ≡ None → o ≡ Some x → ⊥
never_both o x e f = let never : None ≡ Some x = sym e ∙ f in cc

each_file : (rows : List RawRow) (files : List FileRow) (row : RawRow) (k : ℕ) → all_files rows ≡ Some files → k < length rows → get_or rows k row ≡ row → file_in row ≡ None → ⊥
each_file [] files row k e within is none = absurd (omega (arith, within))
each_file (first ∷ rows) files row zero e within is none =
    let file = bound (file_in first) _ files e in
    never_both (file_in row) file.0 none (subst (λ (r : RawRow). file_in r ≡ Some file.0) is file.1)
each_file (first ∷ rows) files row (suc k) e within is none =
    let file = bound (file_in first) _ files e in
    let rest = bound (all_files rows) _ files file.2 in
    each_file rows rest.0 row k rest.1 (omega (arith, within)) is none

same_top : (d : Data) (p q : Parts) (is : IsShaped d p) (was : IsShaped d q) → is.shape.top ≡ was.shape.top
same_top d p q is was =
    let version = one_value (version_in d) p.version q.version is.version was.version in
    one_value (top_in q.version d) is.shape.top was.shape.top (subst (λ (v : ℕ). top_in v d ≡ Some is.shape.top) version is.shape.read) was.shape.read

same_rows : (d : Data) (p q : Parts) → IsShaped d p → IsShaped d q → IsPermutation p.rows q.rows
same_rows d p q is was =
    let rows = subst (λ (t : Top). IsArranged t.rows p.rows) (same_top d p q is was) is.shape.rows in
    IsPermutation-trans p.rows was.shape.top.rows q.rows (IsPermutation-sym was.shape.top.rows p.rows rows.0) was.shape.rows.0

sums_once : (d : Data) (p q : Parts) (files : List FileRow) → IsShaped d p → IsShaped d q → all_files p.rows ≡ None → all_files q.rows ≡ Some files → ⊥
sums_once d p q files is was none some =
    let bad = no_file p.rows none in
    let there = Contains-permutation p.rows q.rows bad.0 (same_rows d p q is was) bad.1 in
    each_file q.rows files bad.0 there.0 some there.1 there.2 bad.2

timelines_once : (d : Data) (p q : Parts) → IsShaped d p → IsShaped d q → p.timeline ≡ q.timeline
timelines_once d p q is was =
    is.shape.timeline ∙ (ap (λ (t : Top). t.range.timeline) (same_top d p q is was) ∙ sym was.shape.timeline)

-- a version isn't both
not_known : (v : ℕ) → IsUnknown v → IsKnown v → ⊥
not_known v un (inl one) = un.0 one
not_known v un (inr two) = un.1 two

other_version : (d : Data) (v : ℕ) (p : Parts) → version_in d ≡ Some v → IsUnknown v → IsShaped d p → ⊥
other_version d v p e un is =
    not_known v un (subst IsKnown (sym (one_value (version_in d) v p.version e is.version)) is.known)

-- ---- the value

value_once : (d : Data) (f g : ManifestFault) → f ≢ NoMemory → g ≢ NoMemory → ValueAnswers d (Err f) → ValueAnswers d (Err g) → f ≡ g
value_once d Lines g nf ng is was = absurd is
value_once d Sum g nf ng is was = absurd is
value_once d Json g nf ng is was = absurd is
value_once d NoMemory g nf ng is was = absurd (nf refl)
value_once d (Version v) Lines nf ng is was = absurd was
value_once d (Version v) Sum nf ng is was = absurd was
value_once d (Version v) Json nf ng is was = absurd was
value_once d (Version v) NoMemory nf ng is was = absurd (ng refl)
value_once d (Version v) (Version w) nf ng is was = ap (λ (x : ℕ). Version x) (one_value (version_in d) v w is.0 was.0)
value_once d (Version v) Shape nf ng is was = absurd (not_known v is.1 (was.0 v is.0))
value_once d (Version v) SumKind nf ng is was = absurd (other_version d v was.0 is.0 is.1 was.1)
value_once d (Version v) (TimelineIs w) nf ng is was = absurd (other_version d v was.0 is.0 is.1 was.2)
value_once d Shape Lines nf ng is was = absurd was
value_once d Shape Sum nf ng is was = absurd was
value_once d Shape Json nf ng is was = absurd was
value_once d Shape NoMemory nf ng is was = absurd (ng refl)
value_once d Shape (Version w) nf ng is was = absurd (not_known w was.1 (is.0 w was.0))
value_once d Shape Shape nf ng is was = refl
value_once d Shape SumKind nf ng is was = absurd (is.1 was.0 was.1)
value_once d Shape (TimelineIs w) nf ng is was = absurd (is.1 was.0 was.2)
value_once d SumKind Lines nf ng is was = absurd was
value_once d SumKind Sum nf ng is was = absurd was
value_once d SumKind Json nf ng is was = absurd was
value_once d SumKind NoMemory nf ng is was = absurd (ng refl)
value_once d SumKind (Version w) nf ng is was = absurd (other_version d w is.0 was.0 was.1 is.1)
value_once d SumKind Shape nf ng is was = absurd (was.1 is.0 is.1)
value_once d SumKind SumKind nf ng is was = refl
value_once d SumKind (TimelineIs w) nf ng is was = absurd (sums_once d is.0 was.0 was.1 is.1 was.2 is.2 was.3)
value_once d (TimelineIs v) Lines nf ng is was = absurd was
value_once d (TimelineIs v) Sum nf ng is was = absurd was
value_once d (TimelineIs v) Json nf ng is was = absurd was
value_once d (TimelineIs v) NoMemory nf ng is was = absurd (ng refl)
value_once d (TimelineIs v) (Version w) nf ng is was = absurd (other_version d w is.0 was.0 was.1 is.2)
value_once d (TimelineIs v) Shape nf ng is was = absurd (was.1 is.0 is.2)
value_once d (TimelineIs v) SumKind nf ng is was = absurd (sums_once d was.0 is.0 is.1 was.1 is.2 was.2 is.3)
value_once d (TimelineIs v) (TimelineIs w) nf ng is was =
    ap (λ (x : ℕ). TimelineIs x) (sym is.4 ∙ (timelines_once d is.0 was.0 is.2 was.2 ∙ was.4))

-- ---- the text

-- which of its parts a text is refused for
abbrev pub Part : List ℕ → ManifestFault → Type 0
Part bytes f =
    ((f ≡ Lines) × ((lines sum : List ℕ) → ¬ IsLined bytes lines sum))
    ⊎ (((f ≡ Sum) × ((lines sum : List ℕ) × IsLined bytes lines sum × (sum ≢ sha256 lines)))
    ⊎ (((f ≡ Json) × IsSummed bytes × ((d : Data) → ¬ IsJson bytes d)) ⊎ IsJudged bytes (Err f)))

part_of : (bytes : List ℕ) (f : ManifestFault) → f ≢ NoMemory → ReadAnswers bytes (Err f) → Part bytes f
part_of bytes Lines nf is = inl (refl, is)
part_of bytes Sum nf is = inr (inl (refl, is))
part_of bytes Json nf is = inr (inr (inl (refl, is.0, is.1)))
part_of bytes (Version v) nf is = inr (inr (inr is))
part_of bytes Shape nf is = inr (inr (inr is))
part_of bytes SumKind nf is = inr (inr (inr is))
part_of bytes (TimelineIs v) nf is = inr (inr (inr is))
part_of bytes NoMemory nf is = absurd (nf refl)

one_part : (bytes : List ℕ) (f g : ManifestFault) → f ≢ NoMemory → g ≢ NoMemory → Part bytes f → Part bytes g → f ≡ g
one_part bytes f g nf ng (inl is) (inl was) = is.0 ∙ sym was.0
one_part bytes f g nf ng (inl is) (inr (inl was)) = absurd (is.1 was.1.0 was.1.1 was.1.2)
one_part bytes f g nf ng (inl is) (inr (inr (inl was))) = absurd (is.1 was.1.0 (sha256 was.1.0) was.1.1)
one_part bytes f g nf ng (inl is) (inr (inr (inr was))) = absurd (is.1 was.0.0 (sha256 was.0.0) was.0.1)
one_part bytes f g nf ng (inr (inl is)) (inl was) = absurd (was.1 is.1.0 is.1.1 is.1.2)
one_part bytes f g nf ng (inr (inl is)) (inr (inl was)) = is.0 ∙ sym was.0
one_part bytes f g nf ng (inr (inl is)) (inr (inr (inl was))) = absurd (other_sum bytes is.1.0 is.1.1 is.1.2 is.1.3 was.1)
one_part bytes f g nf ng (inr (inl is)) (inr (inr (inr was))) = absurd (other_sum bytes is.1.0 is.1.1 is.1.2 is.1.3 was.0)
one_part bytes f g nf ng (inr (inr (inl is))) (inl was) = absurd (was.1 is.1.0 (sha256 is.1.0) is.1.1)
one_part bytes f g nf ng (inr (inr (inl is))) (inr (inl was)) = absurd (other_sum bytes was.1.0 was.1.1 was.1.2 was.1.3 is.1)
one_part bytes f g nf ng (inr (inr (inl is))) (inr (inr (inl was))) = is.0 ∙ sym was.0
one_part bytes f g nf ng (inr (inr (inl is))) (inr (inr (inr was))) = absurd (is.2 was.1.0 was.1.1)
one_part bytes f g nf ng (inr (inr (inr is))) (inl was) = absurd (was.1 is.0.0 (sha256 is.0.0) is.0.1)
one_part bytes f g nf ng (inr (inr (inr is))) (inr (inl was)) = absurd (other_sum bytes was.1.0 was.1.1 was.1.2 was.1.3 is.0)
one_part bytes f g nf ng (inr (inr (inr is))) (inr (inr (inl was))) = absurd (was.2 is.1.0 is.1.1)
one_part bytes f g nf ng (inr (inr (inr is))) (inr (inr (inr was))) =
    let same = one_value (read bytes) is.1.0 was.1.0 is.1.1.1 was.1.1.1 in
    value_once was.1.0 f g nf ng (subst (λ (d : Data). ValueAnswers d (Err f)) same is.1.2) was.1.2

pub refused_once : (bytes : List ℕ) (f g : ManifestFault) → f ≢ NoMemory → g ≢ NoMemory → ReadAnswers bytes (Err f) → ReadAnswers bytes (Err g) → f ≡ g
refused_once bytes f g nf ng is was = one_part bytes f g nf ng (part_of bytes f nf is) (part_of bytes g ng was)
