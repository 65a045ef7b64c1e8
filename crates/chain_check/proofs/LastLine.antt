-- What a manifest says doesn't depend on the digits in its last line.
use Rattle.std.proofs.Common.{◌≡◌, ◌≢◌, ◌≤◌, ℕ, suc, true, false, bytes_eq, List, [], ◌∷◌, ◌++◌, Option, Some, None, Ok, Ordering, Less, Equal, Greater, codes, option_map, option_and_then, inl, inr, ◌⊎◌, refl, sym, ap, ap₂, subst, ◌∙◌, arith, append_assoc}
use Rattle.std.specs.List.{AllPass}
use Rattle.std.specs.Ordering.{nat_cmp, match_ordering}
use Rattle.std.specs.Cmp.Lexicographic.{slice_cmp}
use Rattle.std.proofs.lemmas.List.Elements.{All-head, All-tail}
use Rattle.std.proofs.lemmas.Slice.Eq.{bytes_eq-Decides}
use Rattle.hex.specs.Hex.{is_hex_digit, decode_of}
use Rattle.hex.proofs.HexLemmas.{decode_of-ok}
use Rattle.json.specs.Token.{Token}
use Rattle.json.specs.Text.{content, plain}
use Rattle.json.specs.Word.{after_number, word}
use Rattle.json.specs.Lex.{Lexeme, between, in_word, in_string, token, colon, lex, string_token, tokens, punctuate, fresh}
use Rattle.json.specs.Print.{escape}
use Rattle.json.specs.Json as json
use Rattle.json.proofs.Printed.Strings.{content-escape, lex-escape, escape_byte_plain}
use Rattle.serde_json.specs.Data.{Data, string, object, Members, no_members, member, put}
use Rattle.serde_json.specs.Read.{read, of_json, of_members, max_depth}
use Rattle.serde_json.specs.Find.{get_member}
use Rattle.serde_json.specs.Events.{members_len}
use Rattle.serde_json.proofs.Views.{get_member-put, get_member-put_other}
use Rattle.manifest.specs.Laws.{TextsHaveOneManifest}
use Rattle.manifest.specs.Lines.{line_front, line_back, EndsLine}
use Rattle.manifest.specs.Listing.{Listing}
use Rattle.manifest.specs.Reading.{IsManifest, ReadAnswers}
use Rattle.manifest.specs.Shape.{top_in, version_in}
use Rattle.chain_check.proofs.LineEnds.{Lexed, lexed}
use Rattle.chain_check.proofs.LastTokens.{last_lexemes, last_tokens, cut_last, cut_bad}
use Rattle.chain_check.proofs.LastMember.{with_last, whole_value, no_bad, if_whole}
use Rattle.chain_check.proofs.OneText.{one_value}
use Rattle.chain_check.proofs.Once.{same_ok}

-- ---- digits are plain text

abbrev pub IsPlain : List ℕ → Type 0
IsPlain digits = escape digits ≡ digits

digit_bounds : (c : ℕ) → is_hex_digit c ≡ true → (c ≢ 34) × (c ≢ 92) × (32 ≤ c)
digit_bounds c e = (grind arith, grind arith, grind arith)

abbrev IsHex : ℕ → Type 0
IsHex c = is_hex_digit c ≡ true

plain_digits : (text : List ℕ) → AllPass is_hex_digit text → IsPlain text
plain_digits [] all = refl
plain_digits (c ∷ text) all =
    let bounds = digit_bounds c (All-head IsHex c text all) in
    rw (escape_byte_plain c bounds.0 bounds.1 bounds.2, plain_digits text (All-tail IsHex c text all)) refl

pub decoded_plain : (text bytes : List ℕ) → decode_of text ≡ Ok bytes → IsPlain text
decoded_plain text bytes e = plain_digits text (decode_of-ok text bytes e).1

-- ---- the last line

abbrev key : List ℕ
key = codes "Manifest-Checksum"

abbrev line : List ℕ → List ℕ
line d = line_front ++ (d ++ line_back)

lex_line : (d : List ℕ) → IsPlain d → lex between (line d) ≡ last_lexemes key d
unfolding lex content
lex_line d is =
    ap₂ (λ o ls. token (Token.string key) ∷ colon ∷ token (string_token o) ∷ ls)
    (ap (λ s. content plain (s ++ line_back)) (sym is) ∙ content-escape d _)
    (ap (λ s. lex in_string (s ++ line_back)) (sym is) ∙ lex-escape d _)

abbrev behind : List ℕ → List Lexeme
behind d = lex in_word (codes "anifest-Checksum\": \"" ++ (d ++ line_back))

lex_inside : (d : List ℕ) → lex in_string (line d) ≡ token Token.bad ∷ behind d
unfolding lex word after_number
lex_inside d = refl

-- ---- texts of the same lines

abbrev text : List ℕ → List ℕ → List ℕ
text xs d = xs ++ (10 ∷ line d)

abbrev Tokens : List ℕ → Type 0
Tokens xs =
    ((us : List Token) × ((d : List ℕ) → IsPlain d → tokens (text xs d) ≡ us ++ last_tokens key d))
    ⊎ ((us : List Token) × ((d : List ℕ) → IsPlain d → tokens (text xs d) ≡ us ++ (Token.bad ∷ [])))

tokens_between : (xs : List ℕ) (is : Lexed between xs) → is.then ≡ between → Tokens xs
tokens_between xs is e =
    let all : (d : List ℕ) → IsPlain d → tokens (text xs d) ≡ punctuate fresh (is.front ++ last_lexemes key d) =
    λ d plain. ap (punctuate fresh) (is.same (line d) ∙ ap (λ m. is.front ++ lex m (line d)) e ∙ ap (λ ls. is.front ++ ls) (lex_line d plain)) in
    elim (cut_last key is.front fresh) [
      | inl cut ↦ inl (cut.0, λ d plain. all d plain ∙ cut.1 d)
      | inr cut ↦ inr (cut.0, λ d plain. all d plain ∙ cut.1 d)
    ]

tokens_inside : (xs : List ℕ) (is : Lexed between xs) → is.then ≡ in_string → Tokens xs
tokens_inside xs is e =
    let all : (d : List ℕ) → tokens (text xs d) ≡ punctuate fresh (is.front ++ (token Token.bad ∷ behind d)) =
    λ d. ap (punctuate fresh) (is.same (line d) ∙ ap (λ m. is.front ++ lex m (line d)) e ∙ ap (λ ls. is.front ++ ls) (lex_inside d)) in
    elim (cut_bad key behind is.front fresh) [
      | inl cut ↦ inl (cut.0, λ d plain. all d ∙ cut.1 d)
      | inr cut ↦ inr (cut.0, λ d plain. all d ∙ cut.1 d)
    ]

tokens_are : (xs : List ℕ) (is : Lexed between xs) → Tokens xs
tokens_are xs is =
    elim (is.mode) [
      | inl e ↦ tokens_between xs is e
      | inr e ↦ tokens_inside xs is e
    ]

-- ---- their values

then_put : {A B C : Type 0} (f : A → Option C) (g : A → Option B) (h : B → C) (o : Option A) → ((x : A) → f x ≡ option_map h (g x)) → option_and_then f o ≡ option_map h (option_and_then g o)
then_put f g h None same = refl
then_put f g h (Some x) same = same x

put_last : (ms : json.Members) (d : List ℕ) (found : Members) → of_members (with_last key ms d) found ≡ option_map (put key (string d)) (of_members ms found)
put_last json.no_members d found = refl
put_last (json.member k j ms) d found = then_put _ _ (put key (string d)) (of_json j) (λ e. put_last ms d (put k e found))

abbrev Values : List ℕ → Type 0
Values xs =
    ((ms : Members) × ((d : List ℕ) → IsPlain d → read (text xs d) ≡ Some (object (put key (string d) ms))))
    ⊎ ((d : List ℕ) → IsPlain d → read (text xs d) ≡ None)

abbrev read_tokens : List Token → Option Data
read_tokens ts = option_and_then of_json (if_whole (json.value max_depth ts))

of_object : (xs : List ℕ) (front : json.Members) (o : Option Members) → of_members front no_members ≡ o
    → ((d : List ℕ) → IsPlain d → read (text xs d) ≡ option_map object (of_members (with_last key front d) no_members)) → Values xs
of_object xs front None is all = inr (λ d plain. all d plain ∙ ap (option_map object) (put_last front d no_members ∙ ap (option_map (put key (string d))) is))
of_object xs front (Some ms) is all = inl (ms, λ d plain. all d plain ∙ ap (option_map object) (put_last front d no_members ∙ ap (option_map (put key (string d))) is))

values_of : (xs : List ℕ) (us : List Token) → ((d : List ℕ) → IsPlain d → tokens (text xs d) ≡ us ++ last_tokens key d) → Values xs
values_of xs us is =
    elim (whole_value key 126 us) [
      | inl whole ↦ of_object xs whole.0 (of_members whole.0 no_members) refl (λ d plain. ap read_tokens (is d plain) ∙ ap (option_and_then of_json) (whole.1 d))
      | inr none ↦ inr (λ d plain. ap read_tokens (is d plain) ∙ ap (option_and_then of_json) (none d))
    ]

values_are : (xs : List ℕ) → Values xs
values_are xs =
    elim (tokens_are xs (lexed xs between)) [
      | inl ts ↦ values_of xs ts.0 ts.1
      | inr ts ↦ inr (λ d plain. ap read_tokens (ts.1 d plain) ∙ ap (option_and_then of_json) (no_bad max_depth ts.0))
    ]

-- ---- what they say

len_put_at : (o : Ordering) (k l : List ℕ) (d e v : Data) (ms : Members) → members_len (put k d ms) ≡ members_len (put k e ms)
    → members_len (match_ordering o (member k d (member l v ms)) (member l d ms) (member l v (put k d ms))) ≡ members_len (match_ordering o (member k e (member l v ms)) (member l e ms) (member l v (put k e ms)))
len_put_at Less k l d e v ms later = refl
len_put_at Equal k l d e v ms later = refl
len_put_at Greater k l d e v ms later = ap suc later

len_put : (k : List ℕ) (d e : Data) (ms : Members) → members_len (put k d ms) ≡ members_len (put k e ms)
len_put k d e no_members = refl
len_put k d e (member l v ms) = len_put_at (slice_cmp nat_cmp k l) k l d e v ms (len_put k d e ms)

abbrev value_with : List ℕ → Members → Data
value_with d ms = object (put key (string d) ms)

same_at : (q d e : List ℕ) (ms : Members) → bytes_eq q key ≡ false → get_member q (put key (string d) ms) ≡ get_member q (put key (string e) ms)
same_at q d e ms apart =
    let other : q ≡ key → ⊥ = λ is. let never : true ≡ false = sym ((bytes_eq-Decides q key).1 is) ∙ apart in cc in
    get_member-put_other q key (string d) ms other ∙ sym (get_member-put_other q key (string e) ms other)

same_version : (d e : List ℕ) (ms : Members) → version_in (value_with d ms) ≡ version_in (value_with e ms)
same_version d e ms = rw (same_at (codes "PostgreSQL-Backup-Manifest-Version") d e ms refl) refl

same_top : (version : ℕ) (d e : List ℕ) (ms : Members) → top_in version (value_with d ms) ≡ top_in version (value_with e ms)
unfolding top_in
same_top version d e ms = rw (
  same_at (codes "System-Identifier") d e ms refl,
  same_at (codes "Files") d e ms refl,
  same_at (codes "WAL-Ranges") d e ms refl,
  get_member-put key (string d) ms,
  get_member-put key (string e) ms,
  len_put key (string d) (string e) ms,
) refl

same_manifest : (c d : Data) (m : Listing) → version_in c ≡ version_in d → ((version : ℕ) → top_in version c ≡ top_in version d) → IsManifest c m → IsManifest d m
same_manifest c d m version top is =
    let parts = is.2.shape in (
      is.0,
      is.1,
      record {
        version = sym version ∙ is.2.version;
        known = is.2.known;
        shape = record {
          top = parts.top;
          read = sym (top is.0.version) ∙ parts.read;
          system = parts.system;
          rows = parts.rows;
          timeline = parts.timeline;
          range = parts.range;
        };
      },
      is.3,
      is.4,
      is.5,
    )

cut : (lines d : List ℕ) (ends : EndsLine lines) → lines ++ line d ≡ text ends.0 d
cut lines d ends = ap (λ l. l ++ line d) ends.1 ∙ append_assoc ends.0 (10 ∷ []) (line d)

module _ (law : TextsHaveOneManifest) (d e : List ℕ) (plain : IsPlain d) (also : IsPlain e) (m n : Listing) where
  one_value_with : (xs : List ℕ) → Values xs → ReadAnswers (text xs d) (Ok m) → ReadAnswers (text xs e) (Ok n) → m ≡ n
  one_value_with xs (inr none) is was = let never : None ≡ Some is.1.0 = sym (none d plain) ∙ is.1.1.1 in absurd (cc)
  one_value_with xs (inl (ms, reads)) is was =
      let here : is.1.0 ≡ value_with d ms = one_value (read (text xs d)) is.1.0 (value_with d ms) is.1.1.1 (reads d plain) in
      let there : was.1.0 ≡ value_with e ms = one_value (read (text xs e)) was.1.0 (value_with e ms) was.1.1.1 (reads e also) in
      let said : IsManifest (value_with d ms) m = subst (λ (x : Data). IsManifest x m) here is.1.2 in
      let same : IsManifest was.1.0 m = subst (λ (x : Data). IsManifest x m) (sym there) (same_manifest (value_with d ms) (value_with e ms) m (same_version d e ms) (λ version. same_top version d e ms) said) in
      same_ok m n (law (text xs e) m (Ok n) (was.0, (was.1.0, was.1.1, same)) was)

  -- manifests that differ in the digits of the last line alone say the same
  pub one_listing : (lines : List ℕ) → EndsLine lines → ReadAnswers (lines ++ (line_front ++ (d ++ line_back))) (Ok m) → ReadAnswers (lines ++ (line_front ++ (e ++ line_back))) (Ok n) → m ≡ n
  one_listing lines ends is was =
      one_value_with ends.0 (values_are ends.0) (subst (λ (b : List ℕ). ReadAnswers b (Ok m)) (cut lines d ends) is) (subst (λ (b : List ℕ). ReadAnswers b (Ok n)) (cut lines e ends) was)
