-- Texts that are read one by one, where each has to be read.
use Rattle.std.proofs.Common.{◌≡◌, ℕ, ◌+◌, ◌<◌, List, [], ◌∷◌, ◌++◌, length, get_or, drop, drop-cons, add-one, suc, Option, Some, None, refl, sym, ap, ◌∙◌, arith, append_assoc, length-append}
use Rattle.std.proofs.lemmas.List.{append-nil}
use Rattle.lsn_core.specs.byte_words.Numbers.{◌>>=◌}
use Rattle.lsn_core.proofs.byte_words.Fields.{bind_some}
use Rattle.scripts.specs.Items.{each_in}

-- texts before these were read, as these items
pub record EachRead {A : Type 0} (reads : List ℕ → Option A) (texts rest : List (List ℕ)) (items : List A) : Type 0 where
  pub done : List (List ℕ)
  pub cut : texts ≡ done ++ rest
  pub are : each_in reads done ≡ Some items

none_behind : {A B : Type 0} (o : Option A) (f : A → Option B) → ((x : A) → f x ≡ None) → (o >>= f) ≡ None
none_behind (Some x) f none = none x
none_behind None f none = refl

each_push : {A : Type 0} (reads : List ℕ → Option A) (texts : List (List ℕ)) (text : List ℕ) (items : List A) (item : A) → each_in reads texts ≡ Some items → reads text ≡ Some item
    → each_in reads (texts ++ (text ∷ [])) ≡ Some (items ++ (item ∷ []))
each_push reads [] text items item e is = let none : [] ≡ items = cc in rw is (ap (λ (l : List _). Some (l ++ (item ∷ []))) none)
each_push reads (first ∷ texts) text items item e is =
    let b = bind_some (reads first) _ items e in
    let d = bind_some (each_in reads texts) _ items b.2 in
    let whole : b.0 ∷ d.0 ≡ items = cc in
    rw (b.1, each_push reads texts text d.0 item d.1 is) (ap (λ (l : List _). Some (l ++ (item ∷ []))) whole)

each_none : {A : Type 0} (reads : List ℕ → Option A) (texts : List (List ℕ)) (text : List ℕ) (rest : List (List ℕ)) → reads text ≡ None → each_in reads (texts ++ (text ∷ rest)) ≡ None
each_none reads [] text rest none = rw none refl
each_none reads (first ∷ texts) text rest none = none_behind (reads first) _ (λ x. rw (each_none reads texts text rest none) refl)

each_length : {A : Type 0} (reads : List ℕ → Option A) (texts : List (List ℕ)) (items : List A) → each_in reads texts ≡ Some items → length texts ≡ length items
each_length reads [] items e = let none : [] ≡ items = cc in ap length none
each_length reads (first ∷ texts) items e =
    let b = bind_some (reads first) _ items e in
    let d = bind_some (each_in reads texts) _ items b.2 in
    let whole : b.0 ∷ d.0 ≡ items = cc in
    omega (arith, each_length reads texts d.0 d.1, ap length whole)

-- one text more
pub one_read : {A : Type 0} (reads : List ℕ → Option A) (texts : List (List ℕ)) (text : List ℕ) (rest : List (List ℕ)) (items : List A) (item : A) → EachRead reads texts (text ∷ rest) items → reads text ≡ Some item
    → EachRead reads texts rest (items ++ (item ∷ []))
one_read reads texts text rest items item r is = record {
  done = r.done ++ (text ∷ []);
  cut = r.cut ∙ sym (append_assoc r.done (text ∷ []) rest);
  are = each_push reads r.done text items item r.are is;
}

-- one that can't be read
pub one_not_read : {A : Type 0} (reads : List ℕ → Option A) (texts : List (List ℕ)) (text : List ℕ) (rest : List (List ℕ)) (items : List A) → EachRead reads texts (text ∷ rest) items → reads text ≡ None → each_in reads texts ≡ None
one_not_read reads texts text rest items r none = ap (each_in reads) r.cut ∙ each_none reads r.done text rest none

pub all_read : {A : Type 0} (reads : List ℕ → Option A) (texts : List (List ℕ)) (items : List A) → EachRead reads texts [] items → each_in reads texts ≡ Some items
all_read reads texts items r = ap (each_in reads) (r.cut ∙ append-nil r.done) ∙ r.are

-- how many there are
pub count_read : {A : Type 0} (reads : List ℕ → Option A) (texts rest : List (List ℕ)) (items : List A) → EachRead reads texts rest items → length texts ≡ length items + length rest
count_read reads texts rest items r = omega (arith, ap length r.cut, length-append r.done rest, each_length reads r.done items r.are)

-- from the text of a number on there is that text, and those behind it
pub from_here : (texts : List (List ℕ)) (n : ℕ) (text : List ℕ) → (n < length texts) × (text ≡ get_or texts n text) → drop n texts ≡ text ∷ drop (n + 1) texts
from_here texts n text h = rw (add-one) (drop-cons texts n text h.0 ∙ ap (λ (t : List ℕ). t ∷ drop (suc n) texts) (sym h.1))
