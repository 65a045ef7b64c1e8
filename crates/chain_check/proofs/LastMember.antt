-- The values of token lists that end in a member of an object: they differ in it alone.
use Rattle.std.proofs.Common.{◌≡◌, ℕ, zero, suc, ◌+◌, List, [], ◌∷◌, ◌++◌, length, Option, Some, None, option_map, option_and_then, inl, inr, ◌⊎◌, refl, sym, ap, ◌∙◌, arith, length-append}
use Rattle.json.specs.Token.{Token}
use Rattle.json.specs.Json.{Json, null, boolean, number, string, array, object, if_last, Items, no_items, item, Members, no_members, member, Parse, parse_map, after_end_array, items_step, items, members, value_with, value}
use Rattle.chain_check.proofs.LastTokens.{last_tokens}

abbrev left : {A : Type 0} → Option (A × List Token) → Option (List Token)
left o = option_map (λ p. p.1) o

never : {A : Type 0} {P : Type 0} (x : A) → None ≡ Some x → P
never x e = absurd (cc)

left_mapped : {A B : Type 0} (g : A → B) (o : Option (A × List Token)) → left (parse_map g o) ≡ left o
left_mapped g None = refl
left_mapped g (Some p) = refl

-- lists that end in one of some lists: readers stop before it, or read to its end, which may not be
-- where that is so (`Ended` says whether)
module _ (last : List ℕ → List Token) (Ended : Type 0) where
  abbrev Gone : {A : Type 0} → Option (A × List Token) → Type 0
  Gone o = (r : List Token) → left o ≡ Some r → (r ≡ []) × Ended

  abbrev Parsed : {A : Type 0} → (List ℕ → Option (A × List Token)) → Type 0
  Parsed {A} f =
      ((x : A) × (us : List Token) × ((d : List ℕ) → f d ≡ Some (x, us ++ last d)))
      ⊎ ((d : List ℕ) → Gone (f d))

  -- the same, where none reads to the end
  abbrev Stops : {A : Type 0} → (List ℕ → Option (A × List Token)) → Type 0
  Stops {A} f =
      ((x : A) × (us : List Token) × ((d : List ℕ) → f d ≡ Some (x, us ++ last d)))
      ⊎ ((d : List ℕ) → f d ≡ None)

  abbrev Reads : {A : Type 0} → Parse A → Type 0
  Reads p = (us : List Token) → Parsed (λ d. p (us ++ last d))

  mapped : {A B : Type 0} (g : A → B) (f : List ℕ → Option (A × List Token)) → Parsed f → Parsed (λ d. parse_map g (f d))
  mapped g f (inl is) = inl (g is.0, is.1, λ d. ap (parse_map g) (is.2 d))
  mapped g f (inr is) = inr (λ d r e. is d r (sym (left_mapped g (f d)) ∙ e))

  map_stops : {A B : Type 0} (g : A → B) (f : List ℕ → Option (A × List Token)) → Stops f → Stops (λ d. parse_map g (f d))
  map_stops g f (inl is) = inl (g is.0, is.1, λ d. ap (parse_map g) (is.2 d))
  map_stops g f (inr is) = inr (λ d. ap (parse_map g) (is d))

  stopped : {A : Type 0} (f : List ℕ → Option (A × List Token)) → Stops f → Parsed f
  stopped f (inl is) = inl is
  stopped f (inr is) = inr (λ d r e. never r (sym (ap left (is d)) ∙ e))

  -- nothing is read of no tokens
  none_more : {A B : Type 0} (g : A → B → B) (more : Parse B) (o : Option (A × List Token)) → more [] ≡ None → Gone o
      → option_and_then (λ p. parse_map (g p.0) (more p.1)) o ≡ None
  none_more g more None none gone = refl
  none_more g more (Some p) none gone = ap (λ r. parse_map (g p.0) (more r)) (gone p.1 refl).0 ∙ ap (parse_map (g p.0)) none

  module _ {A B : Type 0} (g : A → B → B) (more : Parse B) (none : more [] ≡ None) where
    then_stops : (f : List ℕ → Option (A × List Token)) → Parsed f → ((us : List Token) → Stops (λ d. more (us ++ last d)))
        → Stops (λ d. option_and_then (λ p. parse_map (g p.0) (more p.1)) (f d))
    then_stops f (inr is) later = inr (λ d. none_more g more (f d) none (is d))
    then_stops f (inl is) later =
        elim (map_stops (g is.0) (λ d. more (is.1 ++ last d)) (later is.1)) [
          | inl was ↦ inl (was.0, was.1, λ d. ap (option_and_then (λ p. parse_map (g p.0) (more p.1))) (is.2 d) ∙ was.2 d)
          | inr was ↦ inr (λ d. ap (option_and_then (λ p. parse_map (g p.0) (more p.1))) (is.2 d) ∙ was d)
        ]

    then_reads : (f : List ℕ → Option (A × List Token)) → Parsed f → ((us : List Token) → Parsed (λ d. more (us ++ last d)))
        → Parsed (λ d. option_and_then (λ p. parse_map (g p.0) (more p.1)) (f d))
    then_reads f (inr is) later = stopped _ (inr (λ d. none_more g more (f d) none (is d)))
    then_reads f (inl is) later =
        elim (mapped (g is.0) (λ d. more (is.1 ++ last d)) (later is.1)) [
          | inl was ↦ inl (was.0, was.1, λ d. ap (option_and_then (λ p. parse_map (g p.0) (more p.1))) (is.2 d) ∙ was.2 d)
          | inr was ↦ inr (λ d r e. was d r (sym (ap (λ o. left (option_and_then (λ p. parse_map (g p.0) (more p.1)) o)) (is.2 d)) ∙ e))
        ]

  -- what the last tokens are: no value begins there, and the members of an object may
  module _ (size : (d : List ℕ) → length (last d) ≡ length (last [])) (no_array : (d : List ℕ) → after_end_array (last d) ≡ None) (no_value : (a : Parse Items) (o : Parse Members) (d : List ℕ) → value_with a o (last d) ≡ None)
      (ends : (v : Parse Json) (n : ℕ) (d : List ℕ) → ((s : List ℕ) (ts : List Token) → v (Token.string s ∷ ts) ≡ Some (string s, ts)) → Gone (members v n (last d))) where
    items_none : (v : Parse Json) (n : ℕ) → v [] ≡ None → items v n [] ≡ None
    unfolding items
    items_none v zero none = refl
    items_none v (suc n) none = ap (option_and_then (λ p. parse_map (item p.0) (items v n p.1))) none

    members_none : (v : Parse Json) (n : ℕ) → members v n [] ≡ None
    unfolding members
    members_none v zero = refl
    members_none v (suc n) = refl

    module _ (v : Parse Json) (none : v [] ≡ None) (text : (s : List ℕ) (ts : List Token) → v (Token.string s ∷ ts) ≡ Some (string s, ts)) (reads : Reads v) where
      item_turn : (n : ℕ) (us : List Token) → ((vs : List Token) → Stops (λ d. items v n (vs ++ last d)))
          → Stops (λ d. option_and_then (λ p. parse_map (item p.0) (items v n p.1)) (v (us ++ last d)))
      item_turn n us later = then_stops item (items v n) (items_none v n none) (λ d. v (us ++ last d)) (reads us) later

      first_item : (n : ℕ) → Stops (λ d. option_and_then (λ p. parse_map (item p.0) (items v n p.1)) (v (last d))) → Stops (λ d. items v (suc n) (last d))
      unfolding items
      first_item n (inl is) = inl (is.0, is.1, λ d. ap (items_step v (items v n) (last d)) (no_array d) ∙ is.2 d)
      first_item n (inr is) = inr (λ d. ap (items_step v (items v n) (last d)) (no_array d) ∙ is d)

      items_read : (n : ℕ) (us : List Token) → Stops (λ d. items v n (us ++ last d))
      unfolding items
      items_read zero us = inr (λ d. refl)
      items_read (suc n) [] = first_item n (item_turn n [] (items_read n))
      items_read (suc n) (Token.end_array ∷ us) = inl (no_items, us, λ d. refl)
      items_read (suc n) (Token.begin_object ∷ us) = item_turn n (Token.begin_object ∷ us) (items_read n)
      items_read (suc n) (Token.end_object ∷ us) = item_turn n (Token.end_object ∷ us) (items_read n)
      items_read (suc n) (Token.begin_array ∷ us) = item_turn n (Token.begin_array ∷ us) (items_read n)
      items_read (suc n) (Token.key s ∷ us) = item_turn n (Token.key s ∷ us) (items_read n)
      items_read (suc n) (Token.string s ∷ us) = item_turn n (Token.string s ∷ us) (items_read n)
      items_read (suc n) (Token.number s ∷ us) = item_turn n (Token.number s ∷ us) (items_read n)
      items_read (suc n) (Token.boolean s ∷ us) = item_turn n (Token.boolean s ∷ us) (items_read n)
      items_read (suc n) (Token.null ∷ us) = item_turn n (Token.null ∷ us) (items_read n)
      items_read (suc n) (Token.bad ∷ us) = item_turn n (Token.bad ∷ us) (items_read n)

      no_member : Parsed {A = Members} (λ d. None)
      no_member = inr (λ d r e. never r e)

      members_read : (n : ℕ) (us : List Token) → Parsed (λ d. members v n (us ++ last d))
      unfolding members
      members_read n [] = inr (λ d. ends v n d text)
      members_read zero (u ∷ us) = no_member
      members_read (suc n) (Token.end_object ∷ us) = inl (no_members, us, λ d. refl)
      members_read (suc n) (Token.key s ∷ us) = then_reads (member s) (members v n) (members_none v n) (λ d. v (us ++ last d)) (reads us) (members_read n)
      members_read (suc n) (Token.begin_object ∷ us) = no_member
      members_read (suc n) (Token.begin_array ∷ us) = no_member
      members_read (suc n) (Token.end_array ∷ us) = no_member
      members_read (suc n) (Token.string s ∷ us) = no_member
      members_read (suc n) (Token.number s ∷ us) = no_member
      members_read (suc n) (Token.boolean s ∷ us) = no_member
      members_read (suc n) (Token.null ∷ us) = no_member
      members_read (suc n) (Token.bad ∷ us) = no_member

    with_reads : (a : Parse Items) (o : Parse Members) → Reads a → Reads o → Reads (value_with a o)
    with_reads a o items members [] = inr (λ d r e. never r (sym (ap left (no_value a o d)) ∙ e))
    with_reads a o items members (Token.begin_object ∷ us) = mapped object (λ d. o (us ++ last d)) (members us)
    with_reads a o items members (Token.begin_array ∷ us) = mapped array (λ d. a (us ++ last d)) (items us)
    with_reads a o items members (Token.end_object ∷ us) = inr (λ d r e. never r e)
    with_reads a o items members (Token.end_array ∷ us) = inr (λ d r e. never r e)
    with_reads a o items members (Token.key s ∷ us) = inr (λ d r e. never r e)
    with_reads a o items members (Token.string s ∷ us) = inl (string s, us, λ d. refl)
    with_reads a o items members (Token.number s ∷ us) = inl (number s, us, λ d. refl)
    with_reads a o items members (Token.boolean s ∷ us) = inl (boolean s, us, λ d. refl)
    with_reads a o items members (Token.null ∷ us) = inl (null, us, λ d. refl)
    with_reads a o items members (Token.bad ∷ us) = inr (λ d r e. never r e)

    sized : (us : List Token) (d : List ℕ) → length (us ++ last d) ≡ length us + length (last [])
    sized us d = omega (arith, length-append us (last d), size d)

    -- with as many turns as there are tokens
    in_turns : {A : Type 0} (f : ℕ → Parse A) (us : List Token) → ((n : ℕ) → Parsed (λ d. f n (us ++ last d))) → Parsed (λ d. f (length (us ++ last d)) (us ++ last d))
    in_turns f us is =
        elim (is (length us + length (last []))) [
          | inl was ↦ inl (was.0, was.1, λ d. ap (λ n. f n (us ++ last d)) (sized us d) ∙ was.2 d)
          | inr was ↦ inr (λ d r e. was d r (sym (ap (λ n. left (f n (us ++ last d))) (sized us d)) ∙ e))
        ]

    pub value_none : (depth : ℕ) → value depth [] ≡ None
    unfolding value
    value_none zero = refl
    value_none (suc depth) = refl

    pub value_text : (depth : ℕ) (s : List ℕ) (ts : List Token) → value depth (Token.string s ∷ ts) ≡ Some (string s, ts)
    unfolding value
    value_text zero s ts = refl
    value_text (suc depth) s ts = refl

    pub value_read : (depth : ℕ) → Reads (value depth)
    unfolding value
    value_read zero = with_reads (λ ts. None) (λ ts. None) (λ us. inr (λ d r e. never r e)) (λ us. inr (λ d r e. never r e))
    value_read (suc depth) =
        with_reads (λ ts. items (value depth) (length ts) ts) (λ ts. members (value depth) (length ts) ts)
        (λ us. in_turns (items (value depth)) us (λ n. stopped _ (items_read (value depth) (value_none depth) (value_text depth) (value_read depth) n us)))
        (λ us. in_turns (members (value depth)) us (λ n. members_read (value depth) (value_none depth) (value_text depth) (value_read depth) n us))

-- ---- a fault at the end

abbrev bad_last : List ℕ → List Token
bad_last d = Token.bad ∷ []

bad_ends : (v : Parse Json) (n : ℕ) (d : List ℕ) → ((s : List ℕ) (ts : List Token) → v (Token.string s ∷ ts) ≡ Some (string s, ts)) → Gone bad_last ⊥ (members v n (bad_last d))
unfolding members
bad_ends v zero d text r e = never r e
bad_ends v (suc n) d text r e = never r e

abbrev pub if_whole : Option (Json × List Token) → Option Json
if_whole o = option_and_then (λ p. if_last p.0 p.1) o

nothing_behind : (j : Json) (us : List Token) (t : Token) (ts : List Token) → if_last j (us ++ (t ∷ ts)) ≡ None
nothing_behind j [] t ts = refl
nothing_behind j (u ∷ us) t ts = refl

pub no_bad : (depth : ℕ) (front : List Token) → if_whole (value depth (front ++ (Token.bad ∷ []))) ≡ None
no_bad depth front =
    elim (value_read bad_last ⊥ (λ d. refl) (λ d. refl) (λ a o d. refl) bad_ends depth front) [
      | inl is ↦ ap if_whole (is.2 []) ∙ nothing_behind is.0 is.1 Token.bad []
      | inr is ↦ gone (value depth (front ++ (Token.bad ∷ []))) (is [])
    ]
  where
    gone : (o : Option (Json × List Token)) → Gone bad_last ⊥ o → if_whole o ≡ None
    gone None is = refl
    gone (Some p) is = absurd (is p.1 refl).1

-- ---- a member at the end

-- members, the last of which tells a text under a key
abbrev pub with_last : List ℕ → Members → List ℕ → Members
with_last key no_members d = member key (string d) no_members
with_last key (member k j ms) d = member k j (with_last key ms d)

one_member : (key : List ℕ) (v : Parse Json) (n : ℕ) (d : List ℕ) → ((s : List ℕ) (ts : List Token) → v (Token.string s ∷ ts) ≡ Some (string s, ts))
    → members v (suc n) (last_tokens key d) ≡ parse_map (member key (string d)) (members v n (Token.end_object ∷ []))
unfolding members
one_member key v n d text = ap (option_and_then (λ p. parse_map (member key p.0) (members v n p.1))) (text d (Token.end_object ∷ []))

abbrev the_rest : Option (List Token) → List Token
the_rest None = []
the_rest (Some ts) = ts

key_ends : (key : List ℕ) (v : Parse Json) (n : ℕ) (d : List ℕ) → ((s : List ℕ) (ts : List Token) → v (Token.string s ∷ ts) ≡ Some (string s, ts)) → Gone (last_tokens key) (Unit {0}) (members v n (last_tokens key d))
unfolding members
key_ends key v zero d text r e = never r e
key_ends key v (suc zero) d text r e = never r (sym (ap left (one_member key v 0 d text)) ∙ e)
key_ends key v (suc (suc n)) d text r e = (ap the_rest (sym e ∙ ap left (one_member key v (suc n) d text)), tt)

key_read : (key : List ℕ) (depth : ℕ) (us : List Token) → Parsed (last_tokens key) (Unit {0}) (λ d. value depth (us ++ last_tokens key d))
key_read key depth us = value_read (last_tokens key) (Unit {0}) (λ d. refl) (λ d. refl) (λ a o d. refl) (key_ends key) depth us

-- all are read whole, and have one front, or none is
abbrev Whole : List ℕ → (List ℕ → Option (Members × List Token)) → Type 0
Whole key f =
    ((front : Members) × ((d : List ℕ) → f d ≡ Some (with_last key front d, [])))
    ⊎ ((d : List ℕ) (ms : Members) → f d ≡ Some (ms, []) → ⊥)

none_whole : (key : List ℕ) → Whole key (λ d. None)
none_whole key = inr (λ d ms e. never _ e)

not_nil : {P : Type 0} (us : List Token) (t : Token) (ts : List Token) → us ++ (t ∷ ts) ≡ [] → P
not_nil [] t ts e = absurd (cc)
not_nil (u ∷ us) t ts e = absurd (cc)

left_is : {A : Type 0} (o : Option (A × List Token)) (x : A) (ts : List Token) → o ≡ Some (x, ts) → the_rest (left o) ≡ ts
left_is o x ts e = ap (λ p. the_rest (left p)) e

no_rest : (k : List ℕ) (v : Parse Json) (n : ℕ) (o : Option (Json × List Token)) (ms : Members) → ((r : List Token) → left o ≡ Some r → r ≡ [])
    → option_and_then (λ p. parse_map (member k p.0) (members v n p.1)) o ≡ Some (ms, []) → ⊥
unfolding members
no_rest k v n None ms gone e = never _ e
no_rest k v zero (Some p) ms gone e = never _ e
no_rest k v (suc n) (Some p) ms gone e =
    never _ (sym (ap (λ r. parse_map (member k p.0) (members v (suc n) r)) (gone p.1 refl)) ∙ e)

-- a parse that was mapped and is whole was whole
was_whole : (k : List ℕ) (j : Json) (o : Option (Members × List Token)) (ms : Members) → parse_map (member k j) o ≡ Some (ms, []) → (was : Members) × (o ≡ Some (was, []))
was_whole k j None ms e = never _ e
was_whole k j (Some p) ms e = (p.0, ap (λ r. Some (p.0, r)) (left_is (parse_map (member k j) (Some p)) ms [] e))

module _ (key : List ℕ) (v : Parse Json) (text : (s : List ℕ) (ts : List Token) → v (Token.string s ∷ ts) ≡ Some (string s, ts)) (reads : (us : List Token) → Parsed (last_tokens key) (Unit {0}) (λ d. v (us ++ last_tokens key d))) where
  after_member : (k : List ℕ) (j : Json) (us vs : List Token) (n : ℕ) → ((d : List ℕ) → v (us ++ last_tokens key d) ≡ Some (j, vs ++ last_tokens key d))
      → Whole key (λ d. members v n (vs ++ last_tokens key d)) → Whole key (λ d. option_and_then (λ p. parse_map (member k p.0) (members v n p.1)) (v (us ++ last_tokens key d)))
  after_member k j us vs n is (inl w) =
      inl (member k j w.0, λ d. ap (option_and_then (λ p. parse_map (member k p.0) (members v n p.1))) (is d) ∙ ap (parse_map (member k j)) (w.1 d))
  after_member k j us vs n is (inr w) =
      inr (λ d ms e.
      let was = was_whole k j (members v n (vs ++ last_tokens key d)) ms (sym (ap (option_and_then (λ p. parse_map (member k p.0) (members v n p.1))) (is d)) ∙ e) in
      w d was.0 was.1)

  members_whole : (n : ℕ) (us : List Token) → Whole key (λ d. members v n (us ++ last_tokens key d))
  unfolding members
  members_whole zero us = none_whole key
  members_whole (suc zero) [] = inr (λ d ms e. never _ (sym (one_member key v 0 d text) ∙ e))
  members_whole (suc (suc n)) [] = inl (no_members, λ d. one_member key v (suc n) d text)
  members_whole (suc n) (Token.end_object ∷ us) = inr (λ d ms e. not_nil us (Token.key key) _ (left_is (Some (no_members, us ++ last_tokens key d)) ms [] e))
  members_whole (suc n) (Token.key s ∷ us) =
      elim (reads us) [
        | inl is ↦ after_member s is.0 us is.1 n is.2 (members_whole n is.1)
        | inr is ↦ inr (λ d ms e. no_rest s v n (v (us ++ last_tokens key d)) ms (λ r h. (is d r h).0) e)
      ]
  members_whole (suc n) (Token.begin_object ∷ us) = none_whole key
  members_whole (suc n) (Token.begin_array ∷ us) = none_whole key
  members_whole (suc n) (Token.end_array ∷ us) = none_whole key
  members_whole (suc n) (Token.string s ∷ us) = none_whole key
  members_whole (suc n) (Token.number s ∷ us) = none_whole key
  members_whole (suc n) (Token.boolean s ∷ us) = none_whole key
  members_whole (suc n) (Token.null ∷ us) = none_whole key
  members_whole (suc n) (Token.bad ∷ us) = none_whole key

-- and so are values
abbrev pub WholeValue : List ℕ → (List ℕ → Option Json) → Type 0
WholeValue key f =
    ((front : Members) × ((d : List ℕ) → f d ≡ Some (object (with_last key front d))))
    ⊎ ((d : List ℕ) → f d ≡ None)

if_object : (o : Option (Members × List Token)) → ((ms : Members) → o ≡ Some (ms, []) → ⊥) → if_whole (parse_map object o) ≡ None
if_object None never_whole = refl
if_object (Some (ms, [])) never_whole = absurd (never_whole ms refl)
if_object (Some (ms, t ∷ ts)) never_whole = refl

module _ (key : List ℕ) where
  size_last : (us : List Token) (d : List ℕ) → length (us ++ last_tokens key d) ≡ length us + 3
  size_last us d = omega (arith, length-append us (last_tokens key d))

  in_object : (depth : ℕ) (us : List Token) → WholeValue key (λ d. if_whole (parse_map object (members (value depth) (length (us ++ last_tokens key d)) (us ++ last_tokens key d))))
  in_object depth us =
      elim (members_whole key (value depth) (value_text (last_tokens key) (Unit {0}) (λ d. refl) (λ d. refl) (λ a o d. refl) (key_ends key) depth) (key_read key depth) (length us + 3) us) [
        | inl w ↦ inl (
          w.0,
          λ d.
              ap (λ n. if_whole (parse_map object (members (value depth) n (us ++ last_tokens key d)))) (size_last us d) ∙ ap (λ o. if_whole (parse_map object o)) (w.1 d),
        )
        | inr w ↦ inr (λ d.
            ap (λ n. if_whole (parse_map object (members (value depth) n (us ++ last_tokens key d)))) (size_last us d)
            ∙ if_object (members (value depth) (length us + 3) (us ++ last_tokens key d)) (w d))
      ]

  in_array : (depth : ℕ) (us : List Token) → WholeValue key (λ d. if_whole (parse_map array (items (value depth) (length (us ++ last_tokens key d)) (us ++ last_tokens key d))))
  in_array depth us =
      elim (items_read (last_tokens key) (Unit {0}) (λ d. refl) (λ d. refl) (λ a o d. refl) (key_ends key) (value depth)
      (value_none (last_tokens key) (Unit {0}) (λ d. refl) (λ d. refl) (λ a o d. refl) (key_ends key) depth)
      (value_text (last_tokens key) (Unit {0}) (λ d. refl) (λ d. refl) (λ a o d. refl) (key_ends key) depth) (key_read key depth) (length us + 3) us) [
        | inl is ↦ inr (λ d.
            ap (λ n. if_whole (parse_map array (items (value depth) n (us ++ last_tokens key d)))) (size_last us d)
            ∙ (ap (λ o. if_whole (parse_map array o)) (is.2 d) ∙ nothing_behind (array is.0) is.1 (Token.key key) _))
        | inr is ↦ inr (λ d.
            ap (λ n. if_whole (parse_map array (items (value depth) n (us ++ last_tokens key d)))) (size_last us d)
            ∙ ap (λ o. if_whole (parse_map array o)) (is d))
      ]

  pub whole_value : (depth : ℕ) (us : List Token) → WholeValue key (λ d. if_whole (value (suc depth) (us ++ last_tokens key d)))
  unfolding value
  whole_value depth [] = inr (λ d. refl)
  whole_value depth (Token.begin_object ∷ us) = in_object depth us
  whole_value depth (Token.begin_array ∷ us) = in_array depth us
  whole_value depth (Token.end_object ∷ us) = inr (λ d. refl)
  whole_value depth (Token.end_array ∷ us) = inr (λ d. refl)
  whole_value depth (Token.key s ∷ us) = inr (λ d. refl)
  whole_value depth (Token.string s ∷ us) = inr (λ d. nothing_behind (string s) us (Token.key key) _)
  whole_value depth (Token.number s ∷ us) = inr (λ d. nothing_behind (number s) us (Token.key key) _)
  whole_value depth (Token.boolean s ∷ us) = inr (λ d. nothing_behind (boolean s) us (Token.key key) _)
  whole_value depth (Token.null ∷ us) = inr (λ d. nothing_behind null us (Token.key key) _)
  whole_value depth (Token.bad ∷ us) = inr (λ d. refl)
