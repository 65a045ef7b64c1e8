-- An entry of the grammar is read, and none begins another one.
use Rattle.std.proofs.Common.{◌≡◌, ℕ, ◌+◌, ◌^◌, ◌<◌, ◌≤◌, Bool, true, false, cond, List, [], ◌++◌, length, take, drop, Option, Some, None, Result, Ok, Err, refl, sym, ap, subst, ◌∙◌, arith, not, ◌||◌}
use Rattle.std.specs.Prelude.{nat_lt, ◌==◌}
use Rattle.std.specs.Int.{w8, w16, w32, w64, to_le_bytes}
use Rattle.std.proofs.lemmas.Bool.{eq-eqb, le-ltb}
use Rattle.std.proofs.lemmas.List.{length-append}
use Rattle.std.proofs.Math.Seq.{take-append_seam, drop-append_seam}
use Rattle.lsn_core.specs.declared.lsn.Lsn.{Lsn}
use Rattle.lsn_core.specs.declared.lsn.Place.{Place}
use Rattle.lsn_core.proofs.byte_words.Fields.{wide8, wide16, wide32, wide64, step_again}
use Rattle.wal_pages.specs.declared.wal_heads.header.Header.{Header}
use Rattle.wal_pages.specs.declared.wal_heads.header.Form.{Form}
use Rattle.wal_record.specs.declared.record.Record.{Record}
use Rattle.wal_record.specs.declared.record.Kind.{Kind}
use Rattle.wal_record.specs.declared.record.RecordFault.TheVariants as faults
use Rattle.wal_record.specs.Outcome.{◌>>=◌, or_fault, refused}
use Rattle.wal_pages.specs.wal_heads.Header.{entry_at, header_at, parts_at, is_linked, form_of, entry_sum}
use Rattle.wal_pages.specs.wal_heads.Heads.{AreHeads}
use Rattle.wal_pages.specs.wal_heads.Announcements.{Heads, heads_at}
use Rattle.wal_record.specs.Content.{said}
use Rattle.wal_record.specs.Decoding.{kind_at, may_come, record_in, record_at}
use Rattle.wal_record.specs.Entry.{header_front, HeaderFits, tree_bytes, IsEntry}
use Rattle.wal_pages.proofs.wal_heads.Steps.{takes_again, passes, passes_over}
use Rattle.wal_pages.proofs.wal_heads.HeadsAgain.{heads_again}

holds_none : (a b c : Bool) → a ≡ false → b ≡ false → c ≡ false → (a || (b || c)) ≡ false
holds_none a b c e f g = rw (e, f, g) refl

-- an entry is cut off where its total length says
pub entry_again : (entry behind more : List ℕ) → entry ≡ to_le_bytes w32 (length entry) ++ behind → 24 ≤ length entry → length entry ≤ 4194304 → entry_at (entry ++ more) ≡ Some entry
unfolding entry_at
entry_again entry behind more told least most =
    let n : ℕ = length entry in
    let bytes : List ℕ = entry ++ more in
    let small : n < 2 ^ 32 = omega (arith, most) in
    let long : n ≤ length bytes = omega (arith, length-append entry more) in
    step_again w32 (2 ^ 32) wide32 bytes n (behind ++ more) _ _ (ap (λ (l : List ℕ). l ++ more) told) small (
    passes_over (nat_lt n 24 || (nat_lt 4194304 n || nat_lt (length bytes) n)) None (Some (take n bytes)) (Some entry) (holds_none _ _ _ (le-ltb n 24 least) (le-ltb 4194304 n most) (le-ltb (length bytes) n long))
    (ap (λ (l : List ℕ). Some l) (take-append_seam entry more)))

header_again : (entry : List ℕ) (total spare : ℕ) (h : Header) (body : List ℕ) → total < 2 ^ 32 → spare < 2 ^ 16 → HeaderFits h → entry ≡ header_front total h spare ++ (to_le_bytes w32 h.crc ++ body) → header_at entry ≡ Some (h, body)
unfolding header_at
header_again entry total spare h body bt bs good e =
    let r6 : List ℕ = to_le_bytes w32 h.crc ++ body in
    let r5 : List ℕ = to_le_bytes w16 spare ++ r6 in
    let r4 : List ℕ = to_le_bytes w8 h.manager ++ r5 in
    let r3 : List ℕ = to_le_bytes w8 h.info ++ r4 in
    let r2 : List ℕ = to_le_bytes w64 h.prev ++ r3 in
    let r1 : List ℕ = to_le_bytes w32 h.xid ++ r2 in
    step_again w32 (2 ^ 32) wide32 entry total r1 _ _ e bt (
    step_again w32 (2 ^ 32) wide32 r1 h.xid r2 _ _ refl good.xid (
    step_again w64 (2 ^ 64) wide64 r2 h.prev r3 _ _ refl good.prev (
    step_again w8 (2 ^ 8) wide8 r3 h.info r4 _ _ refl good.info (
    step_again w8 (2 ^ 8) wide8 r4 h.manager r5 _ _ refl good.manager (
    step_again w16 (2 ^ 16) wide16 r5 spare r6 _ _ refl bs (
    step_again w32 (2 ^ 32) wide32 r6 h.crc body _ _ refl good.crc refl))))))

-- an entry's bytes begin with their number, and are not fewer than a header's
pub record Fronted (entry : List ℕ) : Type 0 where
  pub behind : List ℕ
  pub told : entry ≡ to_le_bytes w32 (length entry) ++ behind
  pub least : 24 ≤ length entry

front_told : (entry : List ℕ) (total spare : ℕ) (h : Header) (body : List ℕ) → total ≡ length entry → entry ≡ header_front total h spare ++ (to_le_bytes w32 h.crc ++ body) → Fronted entry
front_told entry total spare h body same e =
    let behind : List ℕ = to_le_bytes w32 h.xid ++ (to_le_bytes w64 h.prev ++ (to_le_bytes w8 h.info ++ (to_le_bytes w8 h.manager ++ (to_le_bytes w16 spare ++ (to_le_bytes w32 h.crc ++ body))))) in
    let told : entry ≡ to_le_bytes w32 total ++ behind = e in
    record {
      behind = behind;
      told = subst (λ (n : ℕ). entry ≡ to_le_bytes w32 n ++ behind) same told;
      least = let len : length entry ≡ 24 + length body = ap length e ∙ omega arith in omega (arith, len);
    }

pub fronted : (entry : List ℕ) (place : Place) (prev : Option Lsn) (r : Record) → IsEntry entry place prev r → Fronted entry
fronted entry place prev r is = front_told entry (length entry) is.spare is.header (tree_bytes is.heads) refl is.spelled

pub cut_again : (entry more : List ℕ) (place : Place) (prev : Option Lsn) (r : Record) → IsEntry entry place prev r → entry_at (entry ++ more) ≡ Some entry
cut_again entry more place prev r is = let f = fronted entry place prev r is in entry_again entry f.behind more f.told f.least is.most

parts_again : (entry more : List ℕ) (place : Place) (prev : Option Lsn) (r : Record) → (is : IsEntry entry place prev r) → parts_at (entry ++ more) ≡ Some (is.header, tree_bytes is.heads)
unfolding parts_at
parts_again entry more place prev r is =
    let small : length entry < 2 ^ 32 = omega (arith, is.most) in
    takes_again (entry_at (entry ++ more)) header_at entry _ (cut_again entry more place prev r is) (header_again entry (length entry) is.spare is.header (tree_bytes is.heads) small is.spare_fits is.fits is.spelled)

-- a step that refuses nothing
pub goes : {A B E : Type 0} (o : Result A E) (f : A → Result B E) (x : A) (y : Result B E) → o ≡ Ok x → f x ≡ y → (o >>= f) ≡ y
goes o f x y e go = rw e go

pub found : {A E : Type 0} (fault : E) (o : Option A) (x : A) → o ≡ Some x → or_fault fault o ≡ Ok x
found fault o x e = rw e refl

pub holds : {A E : Type 0} (b : Bool) (fault : E) (o y : Result A E) → b ≡ true → o ≡ y → cond (not b) (Err fault) o ≡ y
holds b fault o y e go = rw e go

kind_again : (manager info : ℕ) (body : List ℕ) (form : Form) (heads : Heads) (kind : Kind) → form_of manager info ≡ Some form → body ≡ tree_bytes heads → AreHeads 0 0 heads.0 heads.1 heads.2 → said form heads.0 heads.1 heads.2 ≡ Ok kind
    → kind_at manager info body ≡ Ok kind
unfolding kind_at
kind_again manager info body form heads kind known spelled are says =
    goes (or_fault (faults.Unsupported manager info) (form_of manager info)) _ form _ (found (faults.Unsupported manager info) (form_of manager info) form known) (
    goes (or_fault faults.Header (heads_at 34 0 0 body)) (λ heads. refused (said form heads.0 heads.1 heads.2)) heads _
    (found faults.Header (heads_at 34 0 0 body) heads (ap (heads_at 34 0 0) spelled ∙ heads_again heads.0 heads.1 heads.2 are)) (ap refused says))

same_record : (r : Record) (start end : Lsn) (prev xid : ℕ) → r.start ≡ start → r.end ≡ end → r.prev.0 ≡ prev → r.xid ≡ xid
    → (let x : Record = record { start = start; end = end; prev = record { 0 = prev }; xid = xid; kind = r.kind } in x) ≡ r
same_record r start end prev xid a b c d = rw (← a, ← b, ← c, ← d) refl

first_bytes : (entry more front body : List ℕ) (total spare : ℕ) (h : Header) → entry ≡ header_front total h spare ++ (to_le_bytes w32 h.crc ++ body) → take 20 (entry ++ more) ≡ header_front total h spare
first_bytes entry more front body total spare h e = ap (λ (l : List ℕ). take 20 (l ++ more)) e

in_again : (entry front : List ℕ) (place : Place) (prev : Option Lsn) (r : Record) → (is : IsEntry entry place prev r) → front ≡ header_front (length entry) is.header is.spare → record_in place prev front (is.header, tree_bytes is.heads) ≡ Ok r
unfolding record_in
in_again entry front place prev r is front_is =
    let h : Header = is.header in
    let body : List ℕ = tree_bytes is.heads in
    let summed : (h.crc == entry_sum front body) ≡ true = eq-eqb _ _ (is.summed ∙ ap (λ (l : List ℕ). entry_sum l body) (sym front_is)) in
    holds (is_linked prev h.prev) faults.Prev _ _ is.linked (
    holds (h.crc == entry_sum front body) faults.Crc _ _ summed (
    goes (kind_at h.manager h.info body) _ r.kind _ (kind_again h.manager h.info body is.form is.heads r.kind is.known refl is.are is.says) (
    passes (may_come prev place.start r.kind) _ _ _ is.comes (ap (λ (x : Record). Ok x) (same_record r place.start place.end h.prev h.xid is.start is.end is.prev_is is.xid_is)))))

pub record_again : (entry more : List ℕ) (place : Place) (prev : Option Lsn) (r : Record) → IsEntry entry place prev r → record_at place prev (entry ++ more) ≡ Ok r
unfolding record_at
record_again entry more place prev r is =
    goes (or_fault faults.Length (parts_at (entry ++ more))) (record_in place prev (take 20 (entry ++ more))) (is.header, tree_bytes is.heads) _
    (found faults.Length (parts_at (entry ++ more)) _ (parts_again entry more place prev r is))
    (in_again entry (take 20 (entry ++ more)) place prev r is (first_bytes entry more [] (tree_bytes is.heads) (length entry) is.spare is.header is.spelled))

-- an entry, where no link is asked
unlinked : (entry : List ℕ) (place : Place) (prev : Option Lsn) (r : Record) → IsEntry entry place prev r → IsEntry entry place None r
unlinked entry place prev r is = record {
  header = is.header;
  spare = is.spare;
  form = is.form;
  heads = is.heads;
  fits = is.fits;
  spare_fits = is.spare_fits;
  spelled = is.spelled;
  most = is.most;
  linked = refl;
  summed = is.summed;
  known = is.known;
  are = is.are;
  says = is.says;
  comes = refl;
  start = is.start;
  end = is.end;
  prev_is = is.prev_is;
  xid_is = is.xid_is;
}

one_value : {A : Type 0} (o : Option A) (x y : A) → o ≡ Some x → o ≡ Some y → x ≡ y
one_value o x y e f = cc

one_answer : {A E : Type 0} (o : Result A E) (x y : A) → o ≡ Ok x → o ≡ Ok y → x ≡ y
one_answer o x y e f = cc

-- what two entries that begin the same bytes have in common
pub record IsOne (a b : List ℕ) (r s : Record) (x y : List ℕ) : Type 0 where
  pub bytes : a ≡ b
  pub behind : x ≡ y
  pub entry : r ≡ s

pub no_beginning : (a b x y : List ℕ) (place : Place) (prev before : Option Lsn) (r s : Record) → IsEntry a place prev r → IsEntry b place before s → a ++ x ≡ b ++ y → IsOne a b r s x y
no_beginning a b x y place prev before r s is has e =
    let same : a ≡ b = one_value (entry_at (a ++ x)) a b (cut_again a x place prev r is) (ap entry_at e ∙ cut_again b y place before s has) in
    let f : record_at place None (a ++ x) ≡ Ok r = record_again a x place None r (unlinked a place prev r is) in
    let g : record_at place None (a ++ x) ≡ Ok s = ap (record_at place None) e ∙ record_again b y place None s (unlinked b place before s has) in
    record {
      bytes = same;
      behind = sym (drop-append_seam a x) ∙ ap (drop (length a)) e ∙ ap (λ (l : List ℕ). drop (length l) (b ++ y)) same ∙ drop-append_seam b y;
      entry = one_answer (record_at place None (a ++ x)) r s f g;
    }
