-- Names as paths below a folder: each path is one name's, and a name is parts between slashes.
use Rattle.std.proofs.Common.{◌≡◌, ℕ, ◌⊎◌, Bool, true, false, not, ◌&&◌, ◌||◌, eqb, List, [], ◌∷◌, ◌++◌, refl, sym, ap, ◌∙◌, inl, inr}
use Rattle.std.specs.List.{list_all, list_any, slice_split, All, onto_first}
use Rattle.std.specs.Str.{bytes_eq}
use Rattle.std.proofs.lemmas.Bool.Decides.{Decides-eqb}
use Rattle.std.proofs.lemmas.List.Elements.{All-cons, All-nil}
use Rattle.std.proofs.lemmas.List.Splits.{slice_split_none, slice_split_at, slice_split-cons_yes, slice_split-cons_no}
use Rattle.std.proofs.Math.Seq.{drop-append-add}
use Rattle.vault_os.specs.Paths.{is_no_letter, is_name_part, leads_below, path_in, name_below}

-- what stands behind the folder of a name's path is the name
pub behind_path : (folder name : List ℕ) → name_below folder (path_in folder name) ≡ name
behind_path folder name = drop-append-add folder (47 ∷ name) 1

pub same_path : (folder p q : List ℕ) → path_in folder p ≡ path_in folder q → p ≡ q
same_path folder p q e = sym (behind_path folder p) ∙ ap (name_below folder) e ∙ behind_path folder q

pub and_left : (a b : Bool) → (a && b) ≡ true → a ≡ true
and_left true b e = refl
and_left false b e = e

pub and_right : (a b : Bool) → (a && b) ≡ true → b ≡ true
and_right true b e = e
and_right false b e = absurd cc

pub both_true : (a b : Bool) → a ≡ true → b ≡ true → (a && b) ≡ true
both_true true b p q = q
both_true false b p q = p

not_true : (a : Bool) → not a ≡ true → a ≡ false
not_true true e = sym e
not_true false e = refl

neither_left : (a b : Bool) → (a || b) ≡ false → a ≡ false
neither_left true b e = e
neither_left false b e = refl

neither_right : (a b : Bool) → (a || b) ≡ false → b ≡ false
neither_right true b e = absurd cc
neither_right false b e = e

-- a part has no slash
without_slash : (e : List ℕ) → list_any is_no_letter e ≡ false → All (λ b. eqb b 47 ≡ false) e
without_slash [] h = All-nil (λ b. eqb b 47 ≡ false)
without_slash (b ∷ bs) h =
    All-cons (λ b. eqb b 47 ≡ false) b bs
    (neither_right (eqb b 0) (eqb b 47) (neither_left (is_no_letter b) (list_any is_no_letter bs) h))
    (without_slash bs (neither_right (is_no_letter b) (list_any is_no_letter bs) h))

no_slash : (e : List ℕ) → is_name_part e ≡ true → All (λ b. eqb b 47 ≡ false) e
no_slash e part = without_slash e (not_true _ (and_right (not (bytes_eq e (46 ∷ 46 ∷ []))) _ (and_right (not (bytes_eq e (46 ∷ []))) _ (and_right (not (bytes_eq e [])) _ part))))

-- one part is a name
pub one_leads : (e : List ℕ) → is_name_part e ≡ true → leads_below e ≡ true
unfolding leads_below
one_leads e part = ap (list_all is_name_part) (slice_split_none (λ b. eqb b 47) e (no_slash e part)) ∙ both_true (is_name_part e) true part refl

-- a part before a name
pub longer_leads : (e q : List ℕ) → is_name_part e ≡ true → leads_below q ≡ true → leads_below (e ++ (47 ∷ q)) ≡ true
unfolding leads_below
longer_leads e q part leads = ap (list_all is_name_part) (slice_split_at (λ b. eqb b 47) e 47 q (no_slash e part) refl) ∙ both_true (is_name_part e) _ part leads

-- a name is a part, or a part before a name
abbrev pub Begins : List ℕ → Type 0
Begins n = (is_name_part n ≡ true) ⊎ ((e : List ℕ) × ((q : List ℕ) × ((n ≡ e ++ (47 ∷ q)) × ((is_name_part e ≡ true) × (leads_below q ≡ true)))))

abbrev slashes : ℕ → Bool
slashes b = eqb b 47

Cut : List ℕ → Type 0
Cut n = (e : List ℕ) × ((q : List ℕ) × ((n ≡ e ++ (47 ∷ q)) × (slice_split slashes n ≡ e ∷ slice_split slashes q)))

-- a list of bytes is its one part, or its first part before others
cut_first : (n : List ℕ) → (slice_split slashes n ≡ n ∷ []) ⊎ Cut n
unfolding Cut
cut_first [] = inl refl
cut_first (b ∷ bs) =
    elim (eqb b 47) as (λ c. eqb b 47 ≡ c → (slice_split slashes (b ∷ bs) ≡ (b ∷ bs) ∷ []) ⊎ Cut (b ∷ bs)) [
      | true ↦ λ h. inr ([], (bs, (ap (λ (c : ℕ). c ∷ bs) ((Decides-eqb b 47).0 h), slice_split-cons_yes slashes b bs h)))
      | false ↦ λ h. elim (cut_first bs) [
        | inl one ↦ inl (slice_split-cons_no slashes b bs h ∙ ap (onto_first b) one)
        | inr cut ↦ inr (b ∷ cut.0, (cut.1.0, (ap (λ (l : List ℕ). b ∷ l) cut.1.1.0, slice_split-cons_no slashes b bs h ∙ ap (onto_first b) cut.1.1.1)))
      ]
    ] refl

pub name_begins : (n : List ℕ) → leads_below n ≡ true → Begins n
unfolding leads_below Cut
name_begins n leads =
    elim (cut_first n) [
      | inl one ↦ inl (and_left (is_name_part n) true (ap (list_all is_name_part) (sym one) ∙ leads))
      | inr cut ↦
          let parts = ap (list_all is_name_part) (sym cut.1.1.1) ∙ leads in
          inr (cut.0, (cut.1.0, (cut.1.1.0, (and_left (is_name_part cut.0) _ parts, and_right (is_name_part cut.0) _ parts))))
    ]
