-- Which versions have a system identifier.
use Rattle.std.proofs.Common.{◌≡◌, ◌⊎◌, ℕ, Bool, true, false, List, Option, Some, None, IsSome, Ok, inl, inr, codes, option_map, refl, sym, ap, subst, ◌∙◌}
use Rattle.std.specs.Prelude.{is_some, if◌then◌else◌, ◌&&◌}
use Rattle.lsn_core.proofs.byte_words.Fields.{bind_some}
use Rattle.serde_json.specs.Data.{Data}
use Rattle.manifest.specs.Listing.{Listing}
use Rattle.manifest.specs.Reading.{ReadAnswers}
use Rattle.manifest.specs.Shape.{text_at, number_at, has_keys, files_in, range_at, Top, system_in, top_keys, top_in, IsKnown}

some_is : {A : Type 0} (x y : A) → Some x ≡ Some y → x ≡ y
some_is x y e = ap (λ o. elim o [ None ↦ x | Some z ↦ z ]) e

kept : {A : Type 0} (t : Bool) (x y : A) → (if t then Some x else None) ≡ Some y → x ≡ y
kept true x y e = some_is x y e
kept false x y e = absurd cc

system_is : (version : ℕ) (d : Data) (top : Top) → top_in version d ≡ Some top → system_in version d ≡ Some top.system
unfolding top_in
system_is version d top e =
    let system = bind_some (system_in version d) _ top e in
    let rows = bind_some (files_in d) _ top system.2 in
    let range = bind_some (range_at d) _ top rows.2 in
    let whole = is_some (text_at (codes "Manifest-Checksum") d) && has_keys (top_keys version) d in
    let is = kept whole (record { system = system.0; rows = rows.0; range = range.0 }) top range.2 in
    system.1 ∙ ap (λ (t : Top). Some t.system) is

some_number : (o : Option ℕ) (system : Option ℕ) → option_map (λ n. Some n) o ≡ Some system → IsSome system
some_number None system e = absurd cc
some_number (Some n) system e = subst IsSome (some_is (Some n) system e) refl

abbrev pub HasSystem : ℕ → Option ℕ → Type 0
HasSystem version system = ((version ≡ 1) × (system ≡ None)) ⊎ ((version ≡ 2) × IsSome system)

by_version : (version : ℕ) (d : Data) (system : Option ℕ) → IsKnown version → system_in version d ≡ Some system → HasSystem version system
by_version version d system (inl one) e =
    let none : Some None ≡ Some system = subst (λ (v : ℕ). system_in v d ≡ Some system) one e in
    inl (one, sym (some_is None system none))
by_version version d system (inr two) e =
    inr (two, some_number (number_at (codes "System-Identifier") d) system (subst (λ (v : ℕ). system_in v d ≡ Some system) two e))

pub versions_tell : (bytes : List ℕ) (m : Listing) → ReadAnswers bytes (Ok m) → HasSystem m.version m.system
versions_tell bytes m is =
    let d = is.1.0 in
    let read = is.1.2 in
    let parts = read.0 in
    let shaped = read.2 in
    let top = shaped.shape.top in
    let has = by_version parts.version d top.system shaped.known (system_is parts.version d top shaped.shape.read) in
    subst (λ (l : Listing). HasSystem l.version l.system) (sym read.5) (subst (HasSystem parts.version) (sym shaped.shape.system) has)
