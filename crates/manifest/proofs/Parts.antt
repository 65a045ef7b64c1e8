-- Why a manifest's object has no parts, and why it has no range.
use Rattle.std.proofs.Common.{◌≡◌, ℕ, ◌≤◌, List, [], ◌∷◌, length, Option, Some, None, Result, Ok, Err, refl, sym, ap, subst, ◌∙◌, arith}
use Rattle.std.specs.Result.{IsErrAnd}
use Rattle.serde_json.specs.Data.{Data}
use Rattle.serde_json.specs.View.{items_view}
use Rattle.serde_json.specs.declared.value.Value.{Value}
use Rattle.manifest.specs.Shape.{Top, top_in, only_range, Parts, IsParts, IsRange, version_in, IsKnown}
use Rattle.manifest.specs.Answers.{PartsAnswers}
use Rattle.manifest.specs.Listing.{Listing}
use Rattle.manifest.specs.Reading.{ValueAnswers}
use Rattle.manifest.specs.declared.fault.ManifestFault.{ManifestFault}
use Rattle.manifest.specs.declared.fault.ManifestFault.TheVariants.{Lines, Sum, Json, Version, Shape, SumKind, TimelineIs, NoMemory}

abbrev top_or : Top → Option Top → Top
top_or top None = top
top_or top (Some other) = other

same_top : (version : ℕ) (d : Data) (top : Top) (parts : Parts) → parts.version ≡ version → top_in version d ≡ Some top → (is : IsParts d parts) → is.top ≡ top
same_top version d top parts v e is = ap (top_or top) (sym (subst (λ (n : ℕ). top_in n d ≡ Some is.top) v is.read) ∙ e)

-- its range isn't good
pub no_range : (version : ℕ) (d : Data) (top : Top) → top_in version d ≡ Some top → ((start end : ℕ) → IsRange top.range start end → ⊥) → (parts : Parts) → parts.version ≡ version → IsParts d parts → ⊥
no_range version d top e none parts v is =
    none parts.start parts.end (subst (λ (t : Top). IsRange t.range parts.start parts.end) (same_top version d top parts v e is) is.range)

-- several ranges
pub several : (list : List Value) → 2 ≤ length list → only_range (items_view list) ≡ None
several [] long = absurd (omega (arith, long))
several (range ∷ []) long = absurd (omega (arith, long))
several (range ∷ next ∷ list) long = refl

abbrev number_or : ℕ → Option ℕ → ℕ
number_or n None = n
number_or n (Some other) = other

-- a value of a version that is read, without parts
pub no_parts : (version : ℕ) (d : Data) (fault : ManifestFault) → version_in d ≡ Some version → IsKnown version → PartsAnswers version d (Err fault) → ValueAnswers d (Err fault)
no_parts version d Lines is known none = absurd none
no_parts version d Sum is known none = absurd none
no_parts version d Json is known none = absurd none
no_parts version d (Version v) is known none = absurd none
no_parts version d Shape is known none =
    (λ v other. subst IsKnown (sym (ap (number_or version) (sym other ∙ is))) known, λ parts shaped. none parts (ap (number_or version) (sym shaped.version ∙ is)) shaped.shape)
no_parts version d SumKind is known none = absurd none
no_parts version d (TimelineIs v) is known none = absurd none
no_parts version d NoMemory is known none = tt

pub passed_on : (d : Data) (fault : ManifestFault) (r : Result Listing ManifestFault) → IsErrAnd r (λ x. x ≡ fault) → ValueAnswers d (Err fault) → ValueAnswers d r
passed_on d fault (Ok m) err h = absurd err
passed_on d fault (Err x) err h = subst (λ (y : ManifestFault). ValueAnswers d (Err y)) (sym err) h
