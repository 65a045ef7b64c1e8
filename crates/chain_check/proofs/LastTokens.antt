-- The tokens of texts whose last lines tell a text under a key: they differ in it alone, or all have a
-- fault.
use Rattle.std.proofs.Common.{◌≡◌, ℕ, Bool, true, false, false, List, [], ◌∷◌, ◌++◌, inl, inr, ◌⊎◌, refl, ap, ◌∙◌}
use Rattle.json.specs.Token.{Token}
use Rattle.json.specs.Lex.{Lexeme, token, comma, colon, punctuate, place_token, if_allowed, may_begin, may_close, Place, fresh, after_value, after_comma, after_key, begins_colon}

-- what the last line's lexemes are, and its tokens
abbrev pub last_lexemes : List ℕ → List ℕ → List Lexeme
last_lexemes key d = token (Token.string key) ∷ colon ∷ token (Token.string d) ∷ token Token.end_object ∷ []

abbrev pub last_tokens : List ℕ → List ℕ → List Token
last_tokens key d = Token.key key ∷ Token.string d ∷ Token.end_object ∷ []

-- tokens that end in those of the last line, or at a fault
abbrev pub Cut : List ℕ → (List ℕ → List Token) → Type 0
Cut key f =
    ((front : List Token) × ((d : List ℕ) → f d ≡ front ++ last_tokens key d))
    ⊎ ((front : List Token) × ((d : List ℕ) → f d ≡ front ++ (Token.bad ∷ [])))

module _ (key : List ℕ) where
  more_token : (t : Token) (f : List ℕ → List Token) → Cut key f → Cut key (λ d. t ∷ f d)
  more_token t f (inl is) = inl (t ∷ is.0, λ d. ap (λ ts. t ∷ ts) (is.1 d))
  more_token t f (inr is) = inr (t ∷ is.0, λ d. ap (λ ts. t ∷ ts) (is.1 d))

  fault : Cut key (λ d. Token.bad ∷ [])
  fault = inr ([], λ d. refl)

  allowed : (b : Bool) (t : Token) (k : List ℕ → Place → List Token) (next : Place) → Cut key (λ d. k d next) → Cut key (λ d. if_allowed b t (k d) next)
  allowed true t k next later = more_token t (λ d. k d next) later
  allowed false t k next later = fault

  placed : (p : Place) (t : Token) (b : Bool) (k : List ℕ → Place → List Token) → ((next : Place) → Cut key (λ d. k d next)) → Cut key (λ d. place_token p t b (k d))
  placed p Token.begin_object b k later = allowed (may_begin p) Token.begin_object k fresh (later fresh)
  placed p Token.end_object b k later = allowed (may_close p) Token.end_object k after_value (later after_value)
  placed p Token.begin_array b k later = allowed (may_begin p) Token.begin_array k fresh (later fresh)
  placed p Token.end_array b k later = allowed (may_close p) Token.end_array k after_value (later after_value)
  placed p (Token.key s) b k later = fault
  placed p (Token.string s) true k later = allowed (may_begin p) (Token.key s) k after_key (later after_key)
  placed p (Token.string s) false k later = allowed (may_begin p) (Token.string s) k after_value (later after_value)
  placed p (Token.number s) b k later = allowed (may_begin p) (Token.number s) k after_value (later after_value)
  placed p (Token.boolean s) b k later = allowed (may_begin p) (Token.boolean s) k after_value (later after_value)
  placed p Token.null b k later = allowed (may_begin p) Token.null k after_value (later after_value)
  placed p Token.bad b k later = fault

  -- some lexemes, and the last ones of each text
  module _ (tail : List ℕ → List Lexeme) (no_colon : (d : List ℕ) → begins_colon (tail d) ≡ false) (cut : (p : Place) → Cut key (λ d. punctuate p (tail d))) where
    same_colon : (ls : List Lexeme) (d : List ℕ) → begins_colon (ls ++ tail d) ≡ begins_colon ls
    same_colon [] d = no_colon d
    same_colon (token t ∷ ls) d = refl
    same_colon (comma ∷ ls) d = refl
    same_colon (colon ∷ ls) d = refl

    with_colon : (p : Place) (t : Token) (ls : List Lexeme) → Cut key (λ d. place_token p t (begins_colon ls) (λ next. punctuate next (ls ++ tail d)))
        → Cut key (λ d. place_token p t (begins_colon (ls ++ tail d)) (λ next. punctuate next (ls ++ tail d)))
    with_colon p t ls (inl is) = inl (is.0, λ d. ap (λ b. place_token p t b (λ next. punctuate next (ls ++ tail d))) (same_colon ls d) ∙ is.1 d)
    with_colon p t ls (inr is) = inr (is.0, λ d. ap (λ b. place_token p t b (λ next. punctuate next (ls ++ tail d))) (same_colon ls d) ∙ is.1 d)

    at_token : (p : Place) (t : Token) (ls : List Lexeme) → ((next : Place) → Cut key (λ d. punctuate next (ls ++ tail d)))
        → Cut key (λ d. place_token p t (begins_colon (ls ++ tail d)) (λ next. punctuate next (ls ++ tail d)))
    at_token p t ls later = with_colon p t ls (placed p t (begins_colon ls) (λ d next. punctuate next (ls ++ tail d)) later)

    pub punctuated : (ls : List Lexeme) (p : Place) → Cut key (λ d. punctuate p (ls ++ tail d))
    unfolding punctuate
    punctuated [] p = cut p
    punctuated (token t ∷ ls) fresh = at_token fresh t ls (punctuated ls)
    punctuated (token t ∷ ls) after_value = at_token after_value t ls (punctuated ls)
    punctuated (token t ∷ ls) after_comma = at_token after_comma t ls (punctuated ls)
    punctuated (token t ∷ ls) after_key = at_token after_key t ls (punctuated ls)
    punctuated (comma ∷ ls) fresh = fault
    punctuated (comma ∷ ls) after_value = punctuated ls after_comma
    punctuated (comma ∷ ls) after_comma = fault
    punctuated (comma ∷ ls) after_key = fault
    punctuated (colon ∷ ls) fresh = fault
    punctuated (colon ∷ ls) after_value = fault
    punctuated (colon ∷ ls) after_comma = fault
    punctuated (colon ∷ ls) after_key = punctuated ls fresh

  -- those of the last line behind others
  last_cut : (p : Place) → Cut key (λ d. punctuate p (last_lexemes key d))
  unfolding punctuate
  last_cut fresh = inl ([], λ d. refl)
  last_cut after_comma = inl ([], λ d. refl)
  last_cut after_value = fault
  last_cut after_key = fault

  pub cut_last : (ls : List Lexeme) (p : Place) → Cut key (λ d. punctuate p (ls ++ last_lexemes key d))
  cut_last = punctuated (last_lexemes key) (λ d. refl) last_cut

  -- and a fault behind others
  bad_cut : (rest : List ℕ → List Lexeme) (p : Place) → Cut key (λ d. punctuate p (token Token.bad ∷ rest d))
  unfolding punctuate
  bad_cut rest fresh = fault
  bad_cut rest after_comma = fault
  bad_cut rest after_value = fault
  bad_cut rest after_key = fault

  pub cut_bad : (rest : List ℕ → List Lexeme) (ls : List Lexeme) (p : Place) → Cut key (λ d. punctuate p (ls ++ (token Token.bad ∷ rest d)))
  cut_bad rest = punctuated (λ d. token Token.bad ∷ rest d) (λ d. refl) (bad_cut rest)
