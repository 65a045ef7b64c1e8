-- A block asked of a chain, by where its slot says that it stands.
use Rattle.std.proofs.Common.{◌≡◌, ℕ, zero, suc, ◌+◌, ◌-◌, ◌*◌, ◌/◌, ◌<◌, ◌≤◌, ◌||◌, ◌⊎◌, Bool, true, false, cond, not, List, [], ◌∷◌, ◌++◌, map, length, take, drop, get_or, replicate, Option, Some, None, refl, sym, ap, subst, ◌∙◌, arith, inl, inr}
use Rattle.std.specs.Prelude.{nat_lt, slice_get, ◌==◌}
use Rattle.std.specs.List.{position, position_or_len, list_any, AllByRecursion}
use Rattle.std.specs.Option.{option_map, option_or, unwrap_or}
use Rattle.std.specs.FinMap.{get}
use Rattle.std.proofs.lemmas.Bool.{cases_lt, lt-ltb, le-ltb}
use Rattle.std.proofs.lemmas.Option.{slice_get_past, slice_get-get_or}
use Rattle.std.proofs.lemmas.List.{length-map, length-drop, length-take-le, drop-drop, append-nil, get_or-replicate, length-replicate, take_more, take_all, reverse-append, ext_get_or, get_or-map}
use Rattle.std.proofs.lemmas.List.FromFn.{length-map-range_with_len, get_or-map-range_with_len}
use Rattle.std.proofs.lemmas.List.Quantifiers.{position-Some}
use Rattle.lsn_core.specs.byte_words.Pieces.{zero_page}
use Rattle.lsn_core.specs.Files.{Files}
use Rattle.lsn_core.specs.Store.{ForkPages}
use Rattle.incr_file.specs.declared.head.IncrHead.{IncrHead}
use Rattle.incr_file.specs.declared.head.HeadView.{HeadView}
use Rattle.incr_file.specs.Form.{Form, form_in, part_in, pieces_in, whole_pages, sent_page, block_in_chain, pages_in_chain, rebuilt_pages, rebuilt_length}
use Rattle.incr_file.specs.Head.{body_place, file_size}
use Rattle.incr_file.specs.Reading.{head_in, listed_count, block_numbers}
use Rattle.chain_files.specs.Segments.{IsIncrFile}
use Rattle.chain_files.specs.Sources.{member_bytes, bytes_at, slot_page}
use Rattle.chain_files.specs.Inside.{IsFormSeen, slot_in, listed_slot, settled_slot, AreSettled, is_open, form_by, forms_by, HasPart, said, AreSaid, AreAllSaid}
use Rattle.chain_files.specs.declared.form.FileForm.{FileForm}
use Rattle.chain_files.specs.declared.form.FileForm.TheVariants.{Absent, Plain, Part}
use Rattle.chain_files.specs.declared.paths.FilePaths.{FilePaths}
use Rattle.chain_files.specs.declared.slot.Slot.{Slot}
use Rattle.chain_files.specs.declared.slot.Slot.TheVariants.{Open, Zeros, Plain as InPlain, Part as InPart}

or_none : (a b : Bool) → (a || b) ≡ false → (a ≡ false) × (b ≡ false)
or_none true b e = absurd cc
or_none false b e = (refl, e)

-- ---- pages of a file

pub length-pieces : (size : ℕ) (bytes : List ℕ) → length (pieces_in size bytes) ≡ length bytes / size
length-pieces size bytes = length-map-range_with_len (λ n. take size (drop (n * size) bytes)) 0 (length bytes / size)

piece_get : (size : ℕ) (bytes : List ℕ) (n : ℕ) → n < length bytes / size → slice_get (pieces_in size bytes) n ≡ Some (take size (drop (n * size) bytes))
piece_get size bytes n lt =
    slice_get-get_or (pieces_in size bytes) n [] (omega (arith, lt, length-pieces size bytes))
    ∙ ap (λ (l : List ℕ). Some l) (get_or-map-range_with_len (λ i. take size (drop (i * size) bytes)) 0 (length bytes / size) n n [] lt (omega arith))

pub length-whole : (bytes : List ℕ) → length (whole_pages bytes) ≡ length bytes / 8192
unfolding whole_pages
length-whole bytes = length-pieces 8192 bytes

whole_get : (bytes : List ℕ) (n : ℕ) → n < length bytes / 8192 → slice_get (whole_pages bytes) n ≡ Some (take 8192 (drop (n * 8192) bytes))
unfolding whole_pages
whole_get bytes n lt = piece_get 8192 bytes n lt

-- a part that is there needs no zeros
bytes_there : (bytes : List ℕ) (at size : ℕ) → at + size ≤ length bytes → bytes_at bytes at size ≡ take size (drop at bytes)
bytes_there bytes at size within =
    let long : length (take size (drop at bytes)) ≡ size = length-take-le size (drop at bytes) (omega (arith, length-drop at bytes, within)) in
    ap (λ (n : ℕ). take size (drop at bytes) ++ replicate n 0) (let z : size - length (take size (drop at bytes)) ≡ 0 = omega (arith, long) in z) ∙ append-nil (take size (drop at bytes))

-- ---- listed blocks

sent_first : (blocks : List ℕ) (pages : ForkPages) (b n : ℕ) → n < length blocks → (get_or blocks n 0 == b) ≡ true → ((k : ℕ) → k < n → (get_or blocks k 0 == b) ≡ false) → sent_page blocks pages b ≡ slice_get pages n
sent_first [] pages b n lt here before = absurd (omega (arith, lt))
sent_first (x ∷ blocks) [] b n lt here before = refl
sent_first (x ∷ blocks) (p ∷ pages) b zero lt here before = rw here refl
sent_first (x ∷ blocks) (p ∷ pages) b (suc n) lt here before =
    rw (before 0 (omega arith)) (sent_first blocks pages b n (omega (arith, lt)) here (λ k less. before (suc k) (omega (arith, less))))

sent_some : (blocks : List ℕ) (pages : ForkPages) (b n : ℕ) → position (λ x. x == b) blocks ≡ Some n → sent_page blocks pages b ≡ slice_get pages n
sent_some blocks pages b n e =
    let is = position-Some (λ x. x == b) blocks n 0 e in
    sent_first blocks pages b n is.0 is.1 is.2

none_rest : (p : ℕ → Bool) (x : ℕ) (xs : List ℕ) → position p (x ∷ xs) ≡ None → (p x ≡ false) × (position p xs ≡ None)
none_rest p x xs =
    elim (p x) as (λ s. cond (nat_lt (cond (not s) (1 + position_or_len p xs) 0) (suc (length xs))) (Some (cond (not s) (1 + position_or_len p xs) 0)) None ≡ None → (s ≡ false) × (position p xs ≡ None)) [
      | true ↦ λ e. let there = rw (lt-ltb 0 (suc (length xs)) (omega arith)) at e in absurd cc
      | false ↦ λ e. (
        refl,
        elim (cases_lt (position_or_len p xs) (length xs)) [
          | inl lt ↦ let there = rw (lt-ltb (1 + position_or_len p xs) (suc (length xs)) (omega (arith, lt))) at e in absurd cc
          | inr ge ↦ rw (le-ltb (position_or_len p xs) (length xs) ge) refl
        ],
      )
    ]

sent_none : (blocks : List ℕ) (pages : ForkPages) (b : ℕ) → position (λ x. x == b) blocks ≡ None → sent_page blocks pages b ≡ None
sent_none [] pages b e = refl
sent_none (x ∷ blocks) [] b e = refl
sent_none (x ∷ blocks) (p ∷ pages) b e =
    let rest = none_rest (λ y. y == b) x blocks e in
    rw rest.0 (sent_none blocks pages b rest.1)

-- ---- a member asked for a block

module _ (chain : List Files) (paths : FilePaths) (member : ℕ) (m : Files) (there : slice_get chain member ≡ Some m) where
  bytes_here : (path : List ℕ) (bytes : List ℕ) → get m path ≡ Some bytes → member_bytes chain member path ≡ bytes
  bytes_here path bytes e =
      ap (λ (o : Option Files). unwrap_or (option_map (λ files. unwrap_or (get files path) []) o) []) there ∙ ap (λ (o : Option (List ℕ)). unwrap_or o []) e

  -- of a plain file
  plain_says : (bytes : List ℕ) (pages b : ℕ) (older : List Form) → get m paths.plain ≡ Some bytes → pages ≡ length bytes / 8192
      → said chain paths older b (slot_in (Plain pages) member b) ≡ slice_get (whole_pages bytes) b
  plain_says bytes pages b older e count =
      elim (cases_lt b pages) [
        | inl lt ↦
            rw (lt-ltb b pages lt)
            (ap (λ (l : List ℕ). Some (bytes_at l (b * 8192) 8192)) (bytes_here paths.plain bytes e)
            ∙ ap (λ (l : List ℕ). Some l) (bytes_there bytes (b * 8192) 8192 (omega (arith, lt, count)))
            ∙ sym (whole_get bytes b (omega (arith, lt, count))))
        | inr ge ↦ rw (le-ltb b pages ge) (sym (slice_get_past (whole_pages bytes) b (omega (arith, ge, count, length-whole bytes))))
      ]

  -- of an incremental file
  part_says_by : (bytes : List ℕ) (body trunc b : ℕ) (blocks : List ℕ) (older : List Form) (o : Option ℕ) → get m paths.incr ≡ Some bytes → length bytes ≡ body + 8192 * length blocks → position (λ x. x == b) blocks ≡ o
      → said chain paths older b (listed_slot (option_map (λ n. body + 8192 * n) o) (nat_lt b trunc) member)
      ≡ option_or (sent_page blocks (whole_pages (drop body bytes)) b) (cond (nat_lt b trunc) (block_in_chain older b) None)
  part_says_by bytes body trunc b blocks older (Some n) e long at =
      let found = position-Some (λ x. x == b) blocks n 0 at in
      let left = length-drop body bytes in
      let page : slice_get (whole_pages (drop body bytes)) n ≡ Some (take 8192 (drop (n * 8192) (drop body bytes))) = whole_get (drop body bytes) n (omega (arith, left, long, found.0)) in
      rw (sent_some blocks (whole_pages (drop body bytes)) b n at, page)
      (ap (λ (l : List ℕ). Some (bytes_at l (body + 8192 * n) 8192)) (bytes_here paths.incr bytes e)
      ∙ ap (λ (l : List ℕ). Some l) (bytes_there bytes (body + 8192 * n) 8192 (omega (arith, long, found.0))
      ∙ ap (λ (k : ℕ). take 8192 (drop k bytes)) (let z : body + 8192 * n ≡ body + n * 8192 = omega arith in z)
      ∙ ap (take 8192) (sym (drop-drop (n * 8192) body bytes))))
  part_says_by bytes body trunc b blocks older None e long at =
      rw (sent_none blocks (whole_pages (drop body bytes)) b at)
      (elim (nat_lt b trunc) as (λ s. said chain paths older b (cond s Open Zeros) ≡ cond s (block_in_chain older b) None) [ true ↦ refl | false ↦ refl ])

  length-numbers : (bytes : List ℕ) → length (head_in bytes).blocks ≡ listed_count bytes
  unfolding block_numbers
  length-numbers bytes = length-map-range_with_len _ 0 (listed_count bytes)

  part_says : (bytes : List ℕ) (view : HeadView) (b : ℕ) (older : List Form) → get m paths.incr ≡ Some bytes → IsIncrFile bytes (length bytes) → view.head ≡ head_in bytes → view.body ≡ body_place (listed_count bytes)
      → said chain paths older b (slot_in (Part view) member b) ≡ block_in_chain (part_in bytes ∷ older) b
  part_says bytes view b older e is head body =
      let count = length-numbers bytes in
      let size : length bytes ≡ body_place (length (head_in bytes).blocks) + 8192 * length (head_in bytes).blocks = is.front.size ∙ ap file_size (sym count) in
      ap (λ (h : IncrHead). said chain paths older b (listed_slot (option_map (λ n. view.body + 8192 * n) (position (λ x. x == b) h.blocks)) (nat_lt b h.truncation) member)) head
      ∙ ap (λ (k : ℕ). said chain paths older b (listed_slot (option_map (λ n. k + 8192 * n) (position (λ x. x == b) (head_in bytes).blocks)) (nat_lt b (head_in bytes).truncation) member)) (body ∙ ap body_place (sym count))
      ∙ part_says_by bytes (body_place (length (head_in bytes).blocks)) (head_in bytes).truncation b (head_in bytes).blocks older (position (λ x. x == b) (head_in bytes).blocks) e size refl

  slot_says_by : (incr plain : Option (List ℕ)) (form : FileForm) (b : ℕ) (older : List Form) → get m paths.incr ≡ incr → get m paths.plain ≡ plain → IsFormSeen incr plain form → HasPart paths m
      → said chain paths older b (slot_in form member b) ≡ block_in_chain (form_in incr plain ∷ older) b
  slot_says_by (Some bytes) plain (Part view) b older e f seen is = let head = seen (is bytes e) in part_says bytes view b older e (is bytes e) head.0 head.1
  slot_says_by (Some bytes) plain (Plain pages) b older e f seen is = absurd seen
  slot_says_by (Some bytes) plain Absent b older e f seen is = absurd seen
  slot_says_by None (Some bytes) (Plain pages) b older e f seen is = plain_says bytes pages b older f seen
  slot_says_by None (Some bytes) (Part view) b older e f seen is = absurd seen
  slot_says_by None (Some bytes) Absent b older e f seen is = absurd seen
  slot_says_by None None Absent b older e f seen is = refl
  slot_says_by None None (Plain pages) b older e f seen is = absurd seen
  slot_says_by None None (Part view) b older e f seen is = absurd seen

  -- a slot says of a block what this member and the older ones do
  pub slot_says : (form : FileForm) (b : ℕ) (older : List Form) → IsFormSeen (get m paths.incr) (get m paths.plain) form → HasPart paths m
      → said chain paths older b (slot_in form member b) ≡ block_in_chain (form_by paths m ∷ older) b
  slot_says form b older seen is = slot_says_by (get m paths.incr) (get m paths.plain) form b older refl refl seen is

-- ---- members asked in turn

none_any : (slots : List Slot) (b : ℕ) (d : Slot) → b < length slots → list_any is_open slots ≡ false → is_open (get_or slots b d) ≡ false
none_any [] b d lt none = absurd (omega (arith, lt))
none_any (s ∷ slots) zero d lt none = (or_none (is_open s) (list_any is_open slots) none).0
none_any (s ∷ slots) (suc b) d lt none = none_any slots b d (omega (arith, lt)) (or_none (is_open s) (list_any is_open slots) none).1

there_at : {A : Type 0} (xs : List A) (k : ℕ) (x : A) → slice_get xs k ≡ Some x → (k < length xs) × (get_or xs k x ≡ x)
there_at [] k x e = absurd cc
there_at (y ∷ xs) zero x e = (let z : 0 < suc (length xs) = omega arith in z, let same : y ≡ x = cc in same)
there_at (y ∷ xs) (suc k) x e = let rest = there_at xs k x e in (let z : suc k < suc (length xs) = omega (arith, rest.0) in z, rest.1)

forms_more : (chain : List Files) (paths : FilePaths) (k : ℕ) (m : Files) → slice_get chain k ≡ Some m → forms_by paths (take (k + 1) chain) ≡ form_by paths m ∷ forms_by paths (take k chain)
forms_more chain paths k m e =
    let at = there_at chain k m e in
    ap (λ (l : List Files). forms_by paths l) (take_more chain k m at.0 ∙ ap (λ (x : Files). take k chain ++ x ∷ []) at.1)
    ∙ ap (map (form_by paths)) (reverse-append (take k chain) (m ∷ []))

has_part : (paths : FilePaths) (chain : List Files) (k : ℕ) (m : Files) → AllByRecursion (HasPart paths) chain → slice_get chain k ≡ Some m → HasPart paths m
has_part paths [] k m all e = absurd cc
has_part paths (x ∷ chain) zero m all e = let same : x ≡ m = cc in subst (HasPart paths) same all.0
has_part paths (x ∷ chain) (suc k) m all e = has_part paths chain k m all.1 e

module _ (chain : List Files) (paths : FilePaths) where
  settled_says : (form : FileForm) (member b : ℕ) (m : Files) (slot : Slot) → slice_get chain member ≡ Some m → IsFormSeen (get m paths.incr) (get m paths.plain) form → HasPart paths m
      → said chain paths (forms_by paths (take member chain)) b (settled_slot form member b slot) ≡ said chain paths (forms_by paths (take (member + 1) chain)) b slot
  settled_says form member b m Open there seen is =
      slot_says chain paths member m there form b (forms_by paths (take member chain)) seen is
      ∙ ap (λ (l : List Form). block_in_chain l b) (sym (forms_more chain paths member m there))
  settled_says form member b m Zeros there seen is = refl
  settled_says form member b m (InPlain other at) there seen is = refl
  settled_says form member b m (InPart other at) there seen is = refl

  pub said_more : (form : FileForm) (member : ℕ) (m : Files) (old new : List Slot) → slice_get chain member ≡ Some m → IsFormSeen (get m paths.incr) (get m paths.plain) form → AllByRecursion (HasPart paths) chain
      → AreSettled form member old new → AreSaid chain paths (member + 1) old → AreSaid chain paths member new
  said_more form member m old new there seen all settled before b d lt =
      let within : b < length old = omega (arith, lt, settled.long) in
      ap (said chain paths (forms_by paths (take member chain)) b) (settled.each b d within)
      ∙ settled_says form member b m (get_or old b d) there seen (has_part paths chain member m all there)
      ∙ before b d within

  -- before any was asked
  pub said_first : (count n : ℕ) → length chain ≤ count → AreSaid chain paths count (replicate n Open)
  said_first count n all b d lt =
      let within : b < n = omega (arith, lt, length-replicate {A = Slot} n Open) in
      ap (said chain paths (forms_by paths (take count chain)) b) (get_or-replicate n b Open d within)
      ∙ ap (λ (l : List Files). block_in_chain (forms_by paths l) b) (take_all count chain all)

  -- where none is open, or no member is left
  page_said : (older : List Form) (b : ℕ) (slot : Slot) → (is_open slot ≡ false) ⊎ (older ≡ []) → slot_page chain paths slot ≡ unwrap_or (said chain paths older b slot) zero_page
  page_said older b Open (inl shut) = absurd cc
  page_said older b Open (inr none) = rw none refl
  page_said older b Zeros end = refl
  page_said older b (InPlain other at) end = refl
  page_said older b (InPart other at) end = refl

  pub all_said : (left : ℕ) (slots : List Slot) → (list_any is_open slots ≡ false) ⊎ (left ≡ 0) → AreSaid chain paths left slots → AreAllSaid chain paths slots
  all_said left slots end so_far b d lt =
      page_said (forms_by paths (take left chain)) b (get_or slots b d)
      (elim end [
        | inl shut ↦ inl (none_any slots b d lt shut)
        | inr none ↦ inr (ap (λ (n : ℕ). forms_by paths (take n chain)) none)
      ])
      ∙ ap (λ (o : Option (List ℕ)). unwrap_or o zero_page) (so_far b d lt)

  -- ---- the pages of the combined file

  map_pages : (forms : List Form) (head : IncrHead) (slots : List Slot) → length slots ≡ rebuilt_length head → ((b : ℕ) (d : Slot) → b < length slots → slot_page chain paths (get_or slots b d) ≡ unwrap_or (block_in_chain forms b) zero_page)
      → rebuilt_pages forms head ≡ map (slot_page chain paths) slots
  map_pages forms head slots long are =
      let count = length-map-range_with_len (λ b. unwrap_or (block_in_chain forms b) zero_page) 0 (rebuilt_length head) in
      let mapped = length-map slots (slot_page chain paths) in
      ext_get_or [] (rebuilt_pages forms head) (map (slot_page chain paths) slots) (omega (arith, count, mapped, long))
      (λ i lt. get_or-map-range_with_len (λ b. unwrap_or (block_in_chain forms b) zero_page) 0 (rebuilt_length head) i i [] (omega (arith, lt, count)) (omega arith)
      ∙ sym (are i Zeros (omega (arith, lt, count, long)))
      ∙ sym (get_or-map (slot_page chain paths) slots i Zeros [] (omega (arith, lt, count, long))))

  newest_forms : (newest : ℕ) (m : Files) → length chain ≡ newest + 1 → slice_get chain newest ≡ Some m → forms_by paths chain ≡ form_by paths m ∷ forms_by paths (take newest chain)
  newest_forms newest m long there =
      ap (λ (l : List Files). forms_by paths l) (sym (take_all (newest + 1) chain (omega (arith, long)))) ∙ forms_more chain paths newest m there

  part_pages_by : (incr plain : Option (List ℕ)) (older : List Form) (view : HeadView) (slots : List Slot) → IsFormSeen incr plain (Part view) → ((bytes : List ℕ) → incr ≡ Some bytes → IsIncrFile bytes (length bytes)) → length slots ≡ rebuilt_length view.head
      → ((b : ℕ) (d : Slot) → b < length slots → slot_page chain paths (get_or slots b d) ≡ unwrap_or (block_in_chain (form_in incr plain ∷ older) b) zero_page)
      → pages_in_chain (form_in incr plain ∷ older) ≡ Some (map (slot_page chain paths) slots)
  part_pages_by (Some bytes) plain older view slots seen is long are =
      let head = seen (is bytes refl) in
      ap (λ (ps : ForkPages). Some ps) (map_pages (part_in bytes ∷ older) (head_in bytes) slots (long ∙ ap rebuilt_length head.0) are)
  part_pages_by None (Some bytes) older view slots seen is long are = absurd seen
  part_pages_by None None older view slots seen is long are = absurd seen

  pub part_pages : (newest : ℕ) (m : Files) (view : HeadView) (slots : List Slot) → length chain ≡ newest + 1 → slice_get chain newest ≡ Some m → IsFormSeen (get m paths.incr) (get m paths.plain) (Part view) → AllByRecursion (HasPart paths) chain
      → length slots ≡ rebuilt_length view.head → AreAllSaid chain paths slots → pages_in_chain (forms_by paths chain) ≡ Some (map (slot_page chain paths) slots)
  part_pages newest m view slots size there seen all long are =
      let forms = newest_forms newest m size there in
      ap pages_in_chain forms
      ∙ part_pages_by (get m paths.incr) (get m paths.plain) (forms_by paths (take newest chain)) view slots seen (has_part paths chain newest m all there) long
      (λ b d lt. are b d lt ∙ ap (λ (l : List Form). unwrap_or (block_in_chain l b) zero_page) forms)

  plain_pages_by : (incr plain : Option (List ℕ)) (older : List Form) (pages : ℕ) → IsFormSeen incr plain (Plain pages)
      → (pages_in_chain (form_in incr plain ∷ older) ≡ Some (whole_pages (unwrap_or plain []))) × (pages ≡ length (whole_pages (unwrap_or plain [])))
  plain_pages_by (Some bytes) plain older pages seen = absurd seen
  plain_pages_by None (Some bytes) older pages seen = (refl, seen ∙ sym (length-whole bytes))
  plain_pages_by None None older pages seen = absurd seen

  pub plain_pages : (newest : ℕ) (m : Files) (pages : ℕ) → length chain ≡ newest + 1 → slice_get chain newest ≡ Some m → IsFormSeen (get m paths.incr) (get m paths.plain) (Plain pages)
      → (pages_in_chain (forms_by paths chain) ≡ Some (whole_pages (member_bytes chain newest paths.plain))) × (pages ≡ length (whole_pages (member_bytes chain newest paths.plain)))
  plain_pages newest m pages size there seen =
      let by = plain_pages_by (get m paths.incr) (get m paths.plain) (forms_by paths (take newest chain)) pages seen in
      let bytes : member_bytes chain newest paths.plain ≡ unwrap_or (get m paths.plain) [] = ap (λ (o : Option Files). unwrap_or (option_map (λ files. unwrap_or (get files paths.plain) []) o) []) there in (
        ap pages_in_chain (newest_forms newest m size there) ∙ by.0 ∙ ap (λ (l : List ℕ). Some (whole_pages l)) (sym bytes),
        by.1 ∙ ap (λ (l : List ℕ). length (whole_pages l)) (sym bytes),
      )

  absent_pages_by : (incr plain : Option (List ℕ)) (older : List Form) → IsFormSeen incr plain Absent → pages_in_chain (form_in incr plain ∷ older) ≡ None
  absent_pages_by (Some bytes) plain older seen = absurd seen
  absent_pages_by None (Some bytes) older seen = absurd seen
  absent_pages_by None None older seen = refl

  pub absent_pages : (newest : ℕ) (m : Files) → length chain ≡ newest + 1 → slice_get chain newest ≡ Some m → IsFormSeen (get m paths.incr) (get m paths.plain) Absent → pages_in_chain (forms_by paths chain) ≡ None
  absent_pages newest m size there seen =
      ap pages_in_chain (newest_forms newest m size there) ∙ absent_pages_by (get m paths.incr) (get m paths.plain) (forms_by paths (take newest chain)) seen
