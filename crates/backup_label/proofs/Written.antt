-- What is written is read as it was.
use Rattle.std.proofs.Common.{◌≡◌, ℕ, ◌/◌, ◌%◌, ◌^◌, ◌<◌, ◌≤◌, true, List, [], ◌∷◌, ◌++◌, codes, length, Option, Some, None, IfSome, refl, sym, subst, ◌∙◌, arith}
use Rattle.std.specs.Fmt.{decimal}
use Rattle.std.specs.Int.{IsInRange}
use Rattle.std.proofs.lemmas.Bool.{ne_eqb, eq-eqb, and_from}
use Rattle.std.proofs.lemmas.List.{length-append}
use Rattle.std.proofs.lemmas.List.Folds.{list_all-append}
use Rattle.std.proofs.Math.Nat.{div-le_self, mod-le}
use Rattle.lsn_core.proofs.byte_words.Cutting.{Lacks}
use Rattle.lsn_core.specs.text_numbers.Numbers.{eight_digits, all_digits, all_hex_digits}
use Rattle.lsn_core.proofs.text_numbers.Decimal.{tells, decimal_is_digits}
use Rattle.lsn_core.proofs.text_numbers.EightDigits.{eight_upper, upper_is_hex, length-eight_digits}
use Rattle.lsn_core.specs.declared.lsn.Lsn.{Lsn}
use Rattle.lsn_core.specs.Names.{lsn_bytes, per_group, segment_number, segment_name_bytes}
use Rattle.lsn_core.specs.Sizes.{most_segments}
use Rattle.lsn_core.proofs.LsnTexts.{printed}
use Rattle.lsn_core.proofs.SegmentNames.{name_of_first}
use Rattle.backup_label.specs.declared.label.Label.{Label}
use Rattle.backup_label.specs.Label.{LabelLine, Start, Checkpoint, Method, From, Time, Name, Timeline, PriorStart, PriorTimeline, full_lines, label_lines, key_of, ValueSays, Lines, LineOf, IsKeyLine, IsLabel, IsStartValue, HasNoLineEnd, is_file_digits, line_text, start_text, prior_text, label_text}
use Rattle.backup_label.specs.Inside.{lines_with}
use Rattle.backup_label.specs.Laws.{IsWritableLabel}
use Rattle.backup_label.proofs.LineTexts.{has_none, lacks_append, written_line}
use Rattle.backup_label.proofs.ValueTexts.{digits_lack, lsn_lacks}
use Rattle.backup_label.proofs.Refusals.{join}

-- ---- values without a line end

no_digit_ends : (text : List ℕ) → all_digits text ≡ true → HasNoLineEnd text
no_digit_ends [] e = tt
no_digit_ends (c ∷ cs) e =
    let both : IsInRange 48 57 c × (all_digits cs ≡ true) = tells.parts c cs e in
    (ne_eqb c 10 (λ is. omega (arith, both.0, is)), no_digit_ends cs both.1)

number_ends : (n : ℕ) → n < 2 ^ 32 → HasNoLineEnd (decimal n)
number_ends n small = no_digit_ends (decimal n) (decimal_is_digits n (omega (arith, small)))

place_lacks : (at : ℕ) → at < 2 ^ 64 → Lacks 10 (lsn_bytes at)
place_lacks at small = lsn_lacks 10 refl refl (lsn_bytes at) at (printed at small)

-- ---- the name of a segment's file

record IsName (name : List ℕ) : Type 0 where
  long : length name ≡ 24
  digits : all_hex_digits name ≡ true

eight_hex : (n : ℕ) → n < 2 ^ 32 → all_hex_digits (eight_digits n) ≡ true
eight_hex n small = upper_is_hex (eight_digits n) (eight_upper n small)

hex_append : (a b : List ℕ) → all_hex_digits a ≡ true → all_hex_digits b ≡ true → all_hex_digits (a ++ b) ≡ true
hex_append a b x y = list_all-append _ a b ∙ and_from (all_hex_digits a) (all_hex_digits b) x y

three : (a b c : ℕ) → a < 2 ^ 32 → b < 2 ^ 32 → c < 2 ^ 32 → IsName (eight_digits a ++ (eight_digits b ++ eight_digits c))
three a b c x y z = record {
  long = omega (arith, length-append (eight_digits a) (eight_digits b ++ eight_digits c), length-append (eight_digits b) (eight_digits c), length-eight_digits a x, length-eight_digits b y, length-eight_digits c z);
  digits = hex_append (eight_digits a) (eight_digits b ++ eight_digits c) (eight_hex a x) (hex_append (eight_digits b) (eight_digits c) (eight_hex b y) (eight_hex c z));
}

is_name : (number mib : ℕ) → number ≤ most_segments → IsName (segment_name_bytes number mib)
is_name number mib most =
    let high : number / per_group mib < 2 ^ 32 = omega (arith, div-le_self number (per_group mib), most) in
    let low : number % per_group mib < 2 ^ 32 = omega (arith, mod-le number (per_group mib), most) in
    subst IsName (sym (name_of_first number mib)) (three 1 (number / per_group mib) (number % per_group mib) (omega arith) high low)

file_digits : (name : List ℕ) → IsName name → is_file_digits name ≡ true
file_digits name is = and_from _ _ (eq-eqb (length name) 24 is.long) is.digits

-- ---- the first line

start_lacks : (at mib : ℕ) → at < 2 ^ 64 → segment_number at mib ≤ most_segments → Lacks 10 (start_text at mib)
unfolding start_text
start_lacks at mib small most =
    let name = segment_name_bytes (segment_number at mib) mib in
    lacks_append 10 (lsn_bytes at) (codes " (file " ++ (name ++ codes ")")) (place_lacks at small)
    (lacks_append 10 (codes " (file ") (name ++ codes ")") (refl, (refl, (refl, (refl, (refl, (refl, (refl, tt)))))))
    (lacks_append 10 name (codes ")") (digits_lack 10 refl name (is_name (segment_number at mib) mib most).digits) (refl, tt)))

start_says : (at mib : ℕ) → at < 2 ^ 64 → segment_number at mib ≤ most_segments → IsStartValue (start_text at mib) at
unfolding start_text
start_says at mib small most = record {
  place = lsn_bytes at;
  file = segment_name_bytes (segment_number at mib) mib;
  spelled = refl;
  says = printed at small;
  digits = file_digits _ (is_name (segment_number at mib) mib most);
}

-- ---- the lines

add_line : (l : Label) (line : LabelLine) (lines : List LabelLine) (value rest end : List ℕ) → HasNoLineEnd value → ValueSays l line value → Lines (LineOf l) lines rest end → Lines (LineOf l) (line ∷ lines) (line_text (key_of line) value ++ rest) end
add_line l line lines value rest end free says more = (rest, (value, written_line (key_of line) value rest free, says), more)

last_line : (key value : List ℕ) → HasNoLineEnd value → IsKeyLine key value (line_text key value) []
unfolding line_text
last_line key value free = record { whole = refl; single = free }

prior_written : (l : Label) (prior : Option (Lsn × ℕ)) → l.prior ≡ prior → IfSome prior (λ p. (p.0.0 < 2 ^ 64) × (p.1 < 2 ^ 32)) → Lines (LineOf l) (lines_with prior) (prior_text prior) []
prior_written l None e fits = refl
prior_written l (Some p) e fits =
    add_line l PriorStart (PriorTimeline ∷ []) (lsn_bytes p.0.0) (line_text (key_of PriorTimeline) (decimal p.1)) [] (has_none (lsn_bytes p.0.0) (place_lacks p.0.0 fits.0)) (p, e, printed p.0.0 fits.0)
    ([], (decimal p.1, last_line (key_of PriorTimeline) (decimal p.1) (number_ends p.1 fits.1), (p, e, (fits.1, refl))), refl)

full_written : (l : Label) (mib : ℕ) → IsWritableLabel l mib → Lines (LineOf l) full_lines (label_text l mib) (prior_text l.prior)
full_written l mib w =
    let end = prior_text l.prior in
    let seventh = line_text (key_of Timeline) (decimal l.timeline) ++ end in
    let sixth = line_text (key_of Name) l.label ++ seventh in
    let fifth = line_text (key_of Time) l.time ++ sixth in
    let fourth = line_text (key_of From) (codes "primary") ++ fifth in
    let third = line_text (key_of Method) (codes "streamed") ++ fourth in
    let second = line_text (key_of Checkpoint) (lsn_bytes l.checkpoint.0) ++ third in
    add_line l Start (Checkpoint ∷ (Method ∷ (From ∷ (Time ∷ (Name ∷ (Timeline ∷ [])))))) (start_text l.start.0 mib) second end (has_none _ (start_lacks l.start.0 mib w.start w.segment)) (start_says l.start.0 mib w.start w.segment)
    (add_line l Checkpoint (Method ∷ (From ∷ (Time ∷ (Name ∷ (Timeline ∷ []))))) (lsn_bytes l.checkpoint.0) third end (has_none _ (place_lacks l.checkpoint.0 w.checkpoint)) (printed l.checkpoint.0 w.checkpoint)
    (add_line l Method (From ∷ (Time ∷ (Name ∷ (Timeline ∷ [])))) (codes "streamed") fourth end (refl, (refl, (refl, (refl, (refl, (refl, (refl, (refl, tt)))))))) refl
    (add_line l From (Time ∷ (Name ∷ (Timeline ∷ []))) (codes "primary") fifth end (refl, (refl, (refl, (refl, (refl, (refl, (refl, tt))))))) refl
    (add_line l Time (Name ∷ (Timeline ∷ [])) l.time sixth end w.time refl
    (add_line l Name (Timeline ∷ []) l.label seventh end w.label refl
    (add_line l Timeline [] (decimal l.timeline) end end (number_ends l.timeline w.timeline) (w.timeline, refl) refl))))))

parted : (prior : Option (Lsn × ℕ)) → label_lines prior ≡ full_lines ++ lines_with prior
parted None = refl
parted (Some prior) = refl

pub written : (l : Label) (mib : ℕ) → IsWritableLabel l mib → IsLabel (label_text l mib) l
written l mib w =
    subst (λ (lines : List LabelLine). Lines (LineOf l) lines (label_text l mib) []) (sym (parted l.prior))
    (join (LineOf l) full_lines (lines_with l.prior) (label_text l mib) (prior_text l.prior) [] (full_written l mib w) (prior_written l l.prior refl w.prior))
