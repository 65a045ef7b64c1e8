-- A manifest's text is read as one manifest.
use Rattle.std.proofs.Common.{◌≡◌, ℕ, List, Option, Some, None, Result, Ok, Err, refl, sym, ap, ap₂, subst, ◌∙◌, inl, inr, ◌⊎◌}
use Rattle.sha2.specs.Sha256.{sha256}
use Rattle.hex.specs.Hex.{decode_of}
use Rattle.hex.proofs.HexLemmas.{decode_of-same}
use Rattle.lsn_core.proofs.LsnTexts.{one_lsn}
use Rattle.serde_json.specs.Data.{Data}
use Rattle.serde_json.specs.Read.{read}
use Rattle.manifest.specs.Kinds.{all_files}
use Rattle.manifest.specs.Lines.{IsLined}
use Rattle.manifest.specs.Listing.{Listing, listing_of}
use Rattle.manifest.specs.Reading.{IsShaped, IsManifest, ValueAnswers, IsJudged, ReadAnswers}
use Rattle.manifest.specs.Shape.{Top, top_in, Parts, IsParts, IsArranged, IsRange, version_in, IsKnown, IsUnknown}
use Rattle.manifest.specs.declared.fault.ManifestFault.{ManifestFault}
use Rattle.manifest.specs.declared.fault.ManifestFault.TheVariants.{Lines, Sum, Json, Version, Shape, SumKind, TimelineIs, NoMemory}
use Rattle.manifest.specs.declared.listing.FileRow.{FileRow}
use Rattle.manifest.specs.declared.shape.RawRow.{RawRow}
use Rattle.manifest.proofs.Cut.{last_line, first_lines, same_digits}
use Rattle.manifest.proofs.OneOrder.{arranged_once}

lined_once : (bytes lines other sum more : List ℕ) → IsLined bytes lines sum → IsLined bytes other more → (lines ≡ other) × (sum ≡ more)
lined_once bytes lines other sum more is was =
    let digits = same_digits is.digits was.digits (sym (last_line bytes lines sum is) ∙ last_line bytes other more was) in
    (sym (first_lines bytes lines sum is) ∙ first_lines bytes other more was, decode_of-same was.digits sum more (ap decode_of (sym digits) ∙ is.said) was.said)

-- two values of one option
abbrev or_else : {A : Type 0} → A → Option A → A
or_else x None = x
or_else x (Some y) = y

one_value : {A : Type 0} (o : Option A) (x y : A) → o ≡ Some x → o ≡ Some y → x ≡ y
one_value o x y e f = ap (or_else x) (sym e ∙ f)

no_value : {A : Type 0} (o : Option A) (x : A) → o ≡ Some x → o ≡ None → ⊥
no_value o x e f = let never : None ≡ Some x = sym f ∙ e in cc

abbrev parts_with : ℕ → Option ℕ → List RawRow → ℕ → ℕ → ℕ → Parts
parts_with version system rows timeline start end = record { version = version; system = system; rows = rows; timeline = timeline; start = start; end = end }

same_parts : (p q : Parts) → p.version ≡ q.version → p.system ≡ q.system → p.rows ≡ q.rows → p.timeline ≡ q.timeline → p.start ≡ q.start → p.end ≡ q.end → p ≡ q
same_parts p q v s r t a b =
    let same : parts_with p.version p.system p.rows p.timeline p.start p.end ≡ parts_with q.version q.system q.rows q.timeline q.start q.end = rw (v, s, r, t, a, b) refl in
    same

parts_once : (d : Data) (p q : Parts) → p.version ≡ q.version → IsParts d p → IsParts d q → p ≡ q
parts_once d p q v is was =
    let top = one_value (top_in q.version d) is.top was.top (subst (λ (n : ℕ). top_in n d ≡ Some is.top) v is.read) was.read in
    let rows = arranged_once was.top.rows p.rows q.rows (subst (λ (t : Top). IsArranged t.rows p.rows) top is.rows) was.rows in
    let range = subst (λ (t : Top). IsRange t.range p.start p.end) top is.range in
    let start = one_lsn was.top.range.start p.start q.start range.start_text was.range.start_text in
    let end = one_lsn was.top.range.end p.end q.end range.end_text was.range.end_text in
    same_parts p q v (is.system ∙ ap (λ (t : Top). t.system) top ∙ sym was.system) rows (is.timeline ∙ ap (λ (t : Top). t.range.timeline) top ∙ sym was.timeline) start end

shaped_once : (d : Data) (p q : Parts) → IsShaped d p → IsShaped d q → p ≡ q
shaped_once d p q is was = parts_once d p q (one_value (version_in d) p.version q.version is.version was.version) is.shape was.shape

same_files : (p q : Parts) (files : Option (List FileRow)) → p ≡ q → all_files p.rows ≡ files → all_files q.rows ≡ files
same_files p q files e f = subst (λ (x : Parts). all_files x.rows ≡ files) e f

-- a version isn't both
not_known : (v : ℕ) → IsKnown v → IsUnknown v → ⊥
not_known v (inl one) un = un.0 one
not_known v (inr two) un = un.1 two

value_once : (d : Data) (m : Listing) (r : Result Listing ManifestFault) → IsManifest d m → ValueAnswers d r → (r ≡ Ok m) ⊎ (r ≡ Err NoMemory)
value_once d m (Ok n) is was =
    let parts = shaped_once d was.0 is.0 was.2 is.2 in
    let files = one_value (all_files is.0.rows) was.1 is.1 (same_files was.0 is.0 (Some was.1) parts was.3) is.3 in
    inl (ap (λ (x : Listing). Ok x) (was.5 ∙ (ap₂ (λ (p : Parts) (f : List FileRow). listing_of p f) parts files ∙ sym is.5)))
value_once d m (Err Lines) is was = absurd was
value_once d m (Err Sum) is was = absurd was
value_once d m (Err Json) is was = absurd was
value_once d m (Err (Version v)) is was =
    let same = one_value (version_in d) v is.0.version was.0 is.2.version in
    absurd (not_known is.0.version is.2.known (subst IsUnknown same was.1))
value_once d m (Err Shape) is was = absurd (was.1 is.0 is.2)
value_once d m (Err SumKind) is was =
    absurd (no_value (all_files is.0.rows) is.1 is.3 (same_files was.0 is.0 None (shaped_once d was.0 is.0 was.1 is.2) was.2))
value_once d m (Err (TimelineIs v)) is was =
    let parts = shaped_once d was.0 is.0 was.2 is.2 in
    absurd (was.5 (sym was.4 ∙ (ap (λ (p : Parts). p.timeline) parts ∙ is.4)))
value_once d m (Err NoMemory) is was = inr refl

judged_once : (bytes : List ℕ) (m : Listing) (r : Result Listing ManifestFault) → IsJudged bytes (Ok m) → IsJudged bytes r → (r ≡ Ok m) ⊎ (r ≡ Err NoMemory)
judged_once bytes m r is was =
    let same = one_value (read bytes) was.1.0 is.1.0 was.1.1.1 is.1.1.1 in
    value_once is.1.0 m r is.1.2 (subst (λ (d : Data). ValueAnswers d r) same was.1.2)

pub read_once : (bytes : List ℕ) (m : Listing) (r : Result Listing ManifestFault) → ReadAnswers bytes (Ok m) → ReadAnswers bytes r → (r ≡ Ok m) ⊎ (r ≡ Err NoMemory)
read_once bytes m (Ok n) is was = judged_once bytes m (Ok n) is was
read_once bytes m (Err Lines) is was = absurd (was is.0.0 (sha256 is.0.0) is.0.1)
read_once bytes m (Err Sum) is was =
    let once = lined_once bytes is.0.0 was.0 (sha256 is.0.0) was.1 is.0.1 was.2 in
    absurd (was.3 (sym once.1 ∙ ap sha256 once.0))
read_once bytes m (Err Json) is was = absurd (was.1 is.1.0 is.1.1)
read_once bytes m (Err (Version v)) is was = judged_once bytes m (Err (Version v)) is was
read_once bytes m (Err Shape) is was = judged_once bytes m (Err Shape) is was
read_once bytes m (Err SumKind) is was = judged_once bytes m (Err SumKind) is was
read_once bytes m (Err (TimelineIs v)) is was = judged_once bytes m (Err (TimelineIs v)) is was
read_once bytes m (Err NoMemory) is was = inr refl
