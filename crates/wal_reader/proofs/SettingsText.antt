-- The file `settings`: its lines are read in one way, and it is short.
use Rattle.std.proofs.Common.{◌≡◌, ℕ, ◌<◌, ◌≤◌, ◌^◌, ◌==◌, true, false, List, [], ◌∷◌, ◌++◌, length, take, codes, Option, Some, None, IfSome, IfNone, refl, ap, sym, subst, ◌∙◌, arith}
use Rattle.std.specs.Fmt.{decimal}
use Rattle.std.specs.Int.{IsInRange}
use Rattle.std.specs.Option.{option_map}
use Rattle.std.proofs.lemmas.Bool.{ne_eqb, eqb-true}
use Rattle.std.proofs.lemmas.List.{take_all, length-append, append_cancel_left, length-take}
use Rattle.std.proofs.lemmas.Fmt.{decimal_injective, length-decimal-le}
use Rattle.lsn_core.specs.byte_words.Cuts.{cut_at}
use Rattle.lsn_core.proofs.byte_words.Cutting.{Lacks, front_of, back_of, cut_again, cut_whole}
use Rattle.lsn_core.specs.text_numbers.Numbers.{all_digits}
use Rattle.lsn_core.proofs.text_numbers.Decimal.{tells, decimal_is_digits}
use Rattle.lsn_core.specs.Segment.{IsSegmentMib, IsRelseg}
use Rattle.wal_reader.specs.Settings.{settings_text, IsSettingsText, GivesSettings, IsDamagedText}
use Rattle.wal_reader.specs.Inside.{HasNoLine, HasNoNumbers, TellsNumbers}

-- no digit is a line end
no_line_end : (text : List ℕ) → all_digits text ≡ true → Lacks 10 text
no_line_end [] numeral = tt
no_line_end (c ∷ cs) numeral =
    let both : IsInRange 48 57 c × (all_digits cs ≡ true) = tells.parts c cs numeral in
    (ne_eqb c 10 (λ e. omega (arith, both.0, e)), no_line_end cs both.1)

-- digits and a line end behind them are cut there
cut_digits : (text tail : List ℕ) → all_digits text ≡ true → cut_at 10 (text ++ (10 ∷ tail)) ≡ Some (text, tail)
cut_digits text tail numeral = cut_again 10 text tail (no_line_end text numeral)

-- a key, a number and a line end are read in one way
pub line_once : (key : List ℕ) (n m : ℕ) (r s : List ℕ) → n < 2 ^ 64 → m < 2 ^ 64 → key ++ (decimal n ++ (10 ∷ r)) ≡ key ++ (decimal m ++ (10 ∷ s)) → (n ≡ m) × (r ≡ s)
line_once key n m r s small less e =
    let same : decimal n ++ (10 ∷ r) ≡ decimal m ++ (10 ∷ s) = append_cancel_left key (decimal n ++ (10 ∷ r)) (decimal m ++ (10 ∷ s)) e in
    let cuts : Some (decimal n, r) ≡ Some (decimal m, s) = sym (cut_digits (decimal n) r (decimal_is_digits n small)) ∙ ap (cut_at 10) same ∙ cut_digits (decimal m) s (decimal_is_digits m less) in
    (decimal_injective n m small less (ap front_of cuts), ap back_of cuts)

-- a text has one pair of numbers
pub numbers_once : (m n p q : ℕ) → m < 2 ^ 64 → n < 2 ^ 64 → p < 2 ^ 64 → q < 2 ^ 64 → settings_text m n ≡ settings_text p q → (m ≡ p) × (n ≡ q)
numbers_once m n p q sm sn sp sq e =
    let first : (m ≡ p) × ((codes "blocks-per-segment " ++ (decimal n ++ (10 ∷ []))) ≡ (codes "blocks-per-segment " ++ (decimal q ++ (10 ∷ [])))) =
    line_once (codes "segment-mib ") m p (codes "blocks-per-segment " ++ (decimal n ++ (10 ∷ []))) (codes "blocks-per-segment " ++ (decimal q ++ (10 ∷ []))) sm sp e in
    (first.0, (line_once (codes "blocks-per-segment ") n q [] [] sn sq first.1).0)

pub settings_once : (bytes : List ℕ) (m n p q : ℕ) → IsSettingsText bytes m n → IsSettingsText bytes p q → (m ≡ p) × (n ≡ q)
settings_once bytes m n p q a b =
    numbers_once m n p q (omega (arith, a.segment.most)) (omega (arith, a.blocks.most)) (omega (arith, b.segment.most)) (omega (arith, b.blocks.most)) (sym a.text ∙ b.text)

-- files give one pair of numbers at most, and none where the file is damaged
pub gives_once : (file : Option (List ℕ)) (m n p q : ℕ) → GivesSettings file m n → GivesSettings file p q → (m ≡ p) × (n ≡ q)
gives_once None m n p q a b = (a.0 ∙ sym b.0, a.1 ∙ sym b.1)
gives_once (Some bytes) m n p q a b = settings_once bytes m n p q a b

pub gives_or_is_damaged : (file : Option (List ℕ)) (m n : ℕ) → GivesSettings file m n → IsDamagedText file → ⊥
gives_or_is_damaged None m n gives never = never
gives_or_is_damaged (Some bytes) m n gives damaged = damaged m n gives

-- the file has 43 bytes at most
pub length_settings : (bytes : List ℕ) (m n : ℕ) → IsSettingsText bytes m n → length bytes ≤ 43
length_settings bytes m n is =
    let first : length (decimal m) ≤ 4 = length-decimal-le 4 m (omega arith) (omega (arith, is.segment.most)) (omega (arith, is.segment.most)) in
    let second : length (decimal n) ≤ 6 = length-decimal-le 6 n (omega arith) (omega (arith, is.blocks.most)) (omega (arith, is.blocks.most)) in
    omega (arith, ap length is.text, first, second, length-append (decimal m) (10 ∷ (codes "blocks-per-segment " ++ (decimal n ++ (10 ∷ [])))), length-append (decimal n) (10 ∷ []))

never_some : {A : Type 0} (x : A) → None ≡ Some x → ⊥
never_some x e = cc

-- a line that isn't cut, or whose front is no number's text, is no line of a key and a number
pub not_cut : (key bytes line : List ℕ) → bytes ≡ key ++ line → cut_at 10 line ≡ None → HasNoLine bytes key
not_cut key bytes line behind none n tail small e =
    let same : line ≡ decimal n ++ (10 ∷ tail) = append_cancel_left key line (decimal n ++ (10 ∷ tail)) (sym behind ∙ e) in
    let some : cut_at 10 line ≡ Some (decimal n, tail) = ap (cut_at 10) same ∙ cut_digits (decimal n) tail (decimal_is_digits n small) in
    never_some (decimal n, tail) (sym none ∙ some)

pub not_number : (key bytes line text after : List ℕ) → bytes ≡ key ++ line → cut_at 10 line ≡ Some (text, after) → ((n : ℕ) → n < 2 ^ 64 → text ≡ decimal n → ⊥) → HasNoLine bytes key
not_number key bytes line text after behind cut none n tail small e =
    let same : line ≡ decimal n ++ (10 ∷ tail) = append_cancel_left key line (decimal n ++ (10 ∷ tail)) (sym behind ∙ e) in
    let some : cut_at 10 line ≡ Some (decimal n, tail) = ap (cut_at 10) same ∙ cut_digits (decimal n) tail (decimal_is_digits n small) in
    none n small (ap front_of (sym cut ∙ some))

pub is_number_line : (key bytes line text tail : List ℕ) (n : ℕ) → bytes ≡ key ++ line → cut_at 10 line ≡ Some (text, tail) → text ≡ decimal n → bytes ≡ key ++ (decimal n ++ (10 ∷ tail))
is_number_line key bytes line text tail n behind cut number =
    behind ∙ ap (λ (l : List ℕ). key ++ l) (cut_whole 10 line text tail cut ∙ ap (λ (t : List ℕ). t ++ (10 ∷ tail)) number)

-- the second line
abbrev pub second_line : ℕ → List ℕ
second_line relseg = codes "blocks-per-segment " ++ (decimal relseg ++ (10 ∷ []))

pub second_is : (bytes tail : List ℕ) (mib m relseg : ℕ) → bytes ≡ codes "segment-mib " ++ (decimal mib ++ (10 ∷ tail)) → mib < 2 ^ 64 → m < 2 ^ 64 → bytes ≡ settings_text m relseg → tail ≡ second_line relseg
second_is bytes tail mib m relseg first small less e =
    (line_once (codes "segment-mib ") mib m tail (second_line relseg) small less (sym first ∙ e)).1

pub nothing_behind : (tail after : List ℕ) (n relseg : ℕ) → tail ≡ codes "blocks-per-segment " ++ (decimal n ++ (10 ∷ after)) → n < 2 ^ 64 → relseg < 2 ^ 64 → tail ≡ second_line relseg → after ≡ []
nothing_behind tail after n relseg line small less e = (line_once (codes "blocks-per-segment ") n relseg after [] small less (sym line ∙ e)).1

-- both lines, with nothing behind them
pub both_lines : (bytes tail after : List ℕ) (mib relseg : ℕ) → bytes ≡ codes "segment-mib " ++ (decimal mib ++ (10 ∷ tail)) → tail ≡ codes "blocks-per-segment " ++ (decimal relseg ++ (10 ∷ after)) → after ≡ [] → bytes ≡ settings_text mib relseg
both_lines bytes tail after mib relseg first second nothing =
    first ∙ ap (λ (t : List ℕ). codes "segment-mib " ++ (decimal mib ++ (10 ∷ t))) (second ∙ ap (λ (t : List ℕ). codes "blocks-per-segment " ++ (decimal relseg ++ (10 ∷ t))) nothing)

pub is_nothing : (tail : List ℕ) → true ≡ (length tail == 0) → tail ≡ []
is_nothing [] e = refl
is_nothing (b ∷ bs) e = let zero_long : length (b ∷ bs) ≡ 0 = eqb-true (length (b ∷ bs)) 0 (sym e) in absurd (omega arith)

pub is_something : (tail : List ℕ) → false ≡ (length tail == 0) → tail ≡ [] → ⊥
is_something [] e nothing = cc
is_something (b ∷ bs) e nothing = cc

pub none_read : (bytes : List ℕ) → HasNoNumbers bytes → IsDamagedText (Some bytes)
none_read bytes none mib relseg is = none mib relseg (omega (arith, is.segment.most)) (omega (arith, is.blocks.most)) is.text

-- numbers out of range
pub none_in_range : (bytes : List ℕ) (m n : ℕ) → m < 2 ^ 64 → n < 2 ^ 64 → bytes ≡ settings_text m n → (IsSettingsText (settings_text m n) m n → ⊥) → IsDamagedText (Some bytes)
none_in_range bytes m n sm sn e out mib relseg is =
    let same : (m ≡ mib) × (n ≡ relseg) = numbers_once m n mib relseg sm sn (omega (arith, is.segment.most)) (omega (arith, is.blocks.most)) (sym e ∙ is.text) in
    out (record {
      segment = subst IsSegmentMib (sym same.0) is.segment;
      blocks = subst IsRelseg (sym same.1) is.blocks;
      text = refl;
    })

pub range_found : (bytes : List ℕ) (m n : ℕ) (o : Option (ℕ × ℕ)) → bytes ≡ settings_text m n → IfSome o (λ x. IsSettingsText (settings_text m n) x.0 x.1) → IfSome o (λ x. IsSettingsText bytes x.0 x.1)
range_found bytes m n None e found = tt
range_found bytes m n (Some x) e found = subst (λ (l : List ℕ). IsSettingsText l x.0 x.1) (sym e) found

pub range_none : (bytes : List ℕ) (m n : ℕ) (o : Option (ℕ × ℕ)) → m < 2 ^ 64 → n < 2 ^ 64 → bytes ≡ settings_text m n → IfNone o (IsSettingsText (settings_text m n) m n → ⊥) → IfNone o (IsDamagedText (Some bytes))
range_none bytes m n None sm sn e out = none_in_range bytes m n sm sn e out
range_none bytes m n (Some x) sm sn e out = tt

-- a text of settings lies in the first 8192 bytes
whole_front : (bytes : List ℕ) → length (take 8192 bytes) ≤ 43 → take 8192 bytes ≡ bytes
whole_front bytes short = take_all 8192 bytes (omega (arith, length-take 8192 bytes, short))

pub told_by : (file : Option (List ℕ)) (front : List ℕ) (o : Option (ℕ × ℕ)) → Some front ≡ option_map (take 8192) file
    → IfSome o (λ x. IsSettingsText front x.0 x.1) → IfNone o (IsDamagedText (Some front)) → TellsNumbers file o
told_by None front o e found none = absurd (cc)
told_by (Some bytes) front (Some x) e found none =
    let cut : front ≡ take 8192 bytes = cc in
    let whole : take 8192 bytes ≡ bytes = whole_front bytes (subst (λ (l : List ℕ). length l ≤ 43) cut (length_settings front x.0 x.1 found)) in
    subst (λ (l : List ℕ). IsSettingsText l x.0 x.1) (cut ∙ whole) found
told_by (Some bytes) front None e found none = λ mib relseg is.
    let cut : front ≡ take 8192 bytes = cc in
    let whole : take 8192 bytes ≡ bytes = take_all 8192 bytes (omega (arith, length_settings bytes mib relseg is)) in
    none mib relseg (subst (λ (l : List ℕ). IsSettingsText l mib relseg) (sym (cut ∙ whole)) is)

pub told_absent : (file : Option (List ℕ)) (mib : ℕ) → mib ≡ 16 → None ≡ option_map (take 8192) file → TellsNumbers file (Some (mib, 131072))
told_absent None mib standard e = (standard, refl)
told_absent (Some bytes) mib standard e = absurd (cc)
