-- An entry that is read is of the grammar.
use Rattle.std.proofs.Common.{◌≡◌, ℕ, ◌+◌, ◌-◌, ◌^◌, ◌<◌, ◌≤◌, Bool, true, false, cond, List, ◌++◌, length, take, drop, Option, Some, None, Result, Ok, Err, refl, sym, ap, subst, ◌∙◌, arith, not, ◌||◌}
use Rattle.std.specs.Prelude.{nat_lt, ◌==◌}
use Rattle.std.specs.Int.{w8, w16, w32, w64, to_le_bytes}
use Rattle.std.proofs.lemmas.Bool.{eqb-true, ltb-false}
use Rattle.std.proofs.lemmas.List.{take-append-drop, length-take-le}
use Rattle.std.proofs.Math.Seq.{take-append-add}
use Rattle.lsn_core.specs.declared.lsn.Lsn.{Lsn}
use Rattle.lsn_core.specs.declared.lsn.Place.{Place}
use Rattle.lsn_core.specs.byte_words.Numbers.{IsBytes, number_at}
use Rattle.lsn_core.proofs.byte_words.Fields.{wide8, wide16, wide32, wide64, step, put_front, number_again, number_is, IsBytes-take}
use Rattle.wal_pages.specs.declared.wal_heads.header.Header.{Header}
use Rattle.wal_pages.specs.declared.wal_heads.header.Form.{Form}
use Rattle.wal_record.specs.declared.record.Record.{Record}
use Rattle.wal_record.specs.declared.record.Kind.{Kind}
use Rattle.wal_record.specs.declared.record.RecordFault.TheVariants as faults
use Rattle.wal_record.specs.declared.record.Why.{Why}
use Rattle.wal_record.specs.Outcome.{◌>>=◌, or_fault, refused}
use Rattle.wal_pages.specs.wal_heads.Header.{entry_at, header_at, parts_at, is_linked, form_of, entry_sum}
use Rattle.wal_pages.specs.wal_heads.Heads.{AreHeads}
use Rattle.wal_pages.specs.wal_heads.Announcements.{Heads, heads_at}
use Rattle.wal_record.specs.Content.{said}
use Rattle.wal_record.specs.Decoding.{kind_at, may_come, record_in, record_at}
use Rattle.wal_record.specs.Entry.{header_front, HeaderFits, tree_bytes, IsEntry}
use Rattle.wal_pages.proofs.wal_heads.Steps.{took}
use Rattle.wal_pages.proofs.wal_heads.HeadsTaken.{heads_takes}

-- none of three tests holds
pub none_of_three : (a b c : Bool) → (a || (b || c)) ≡ false → (a ≡ false) × (b ≡ false) × (c ≡ false)
none_of_three false false false e = (refl, refl, refl)
none_of_three true b c e = absurd cc
none_of_three false true c e = absurd cc
none_of_three false false true e = absurd cc

-- a test that refuses, and didn't
pub not_refused : {A : Type 0} (b : Bool) (o : Option A) (y : A) (P : Type 0) → cond b None o ≡ Some y → (b ≡ false → o ≡ Some y → P) → P
not_refused true o y P e go = absurd cc
not_refused false o y P e go = go refl e

-- the entry at the front
pub record EntryTaken (bytes entry : List ℕ) : Type 0 where
  pub rest : List ℕ
  pub whole : bytes ≡ entry ++ rest
  pub behind : List ℕ
  pub told : entry ≡ to_le_bytes w32 (length entry) ++ behind
  pub least : 24 ≤ length entry
  pub most : length entry ≤ 4194304
  pub fits : IsBytes entry

entry_is : (bytes rest : List ℕ) (n : ℕ) → IsBytes bytes → bytes ≡ to_le_bytes w32 n ++ rest → 24 ≤ n → n ≤ 4194304 → n ≤ length bytes → EntryTaken bytes (take n bytes)
entry_is bytes rest n fits e least most long =
    let m : ℕ = n - 4 in
    let more : n ≡ 4 + m = omega (arith, least) in
    let len : length (take n bytes) ≡ n = length-take-le n bytes long in
    let front : take n bytes ≡ to_le_bytes w32 n ++ take m rest = ap (take n) e ∙ ap (λ (k : ℕ). take k (to_le_bytes w32 n ++ rest)) more ∙ take-append-add (to_le_bytes w32 n) rest m in
    record {
      rest = drop n bytes;
      whole = sym (take-append-drop n bytes);
      behind = take m rest;
      told = put_front w32 n (length (take n bytes)) (take n bytes) (take m rest) (take m rest) (sym len) front refl;
      least = omega (arith, len, least);
      most = omega (arith, len, most);
      fits = IsBytes-take n bytes fits;
    }

entry_takes : (bytes entry : List ℕ) → IsBytes bytes → entry_at bytes ≡ Some entry → EntryTaken bytes entry
unfolding entry_at
entry_takes bytes entry fits e =
    let P : Type 0 = EntryTaken bytes entry in
    step w32 (2 ^ 32) wide32 bytes _ entry P fits e (λ n rest e1 f1 g1 b1.
    not_refused (nat_lt n 24 || (nat_lt 4194304 n || nat_lt (length bytes) n)) (Some (take n bytes)) entry P g1 (λ tests g2.
    let t = none_of_three (nat_lt n 24) (nat_lt 4194304 n) (nat_lt (length bytes) n) tests in
    let same : take n bytes ≡ entry = cc in
    subst (EntryTaken bytes) same (entry_is bytes rest n fits e1 (ltb-false n 24 t.0) (ltb-false 4194304 n t.1) (ltb-false (length bytes) n t.2))))

-- its header
pub record HeaderTaken (entry : List ℕ) (x : Header × List ℕ) : Type 0 where
  pub total : ℕ
  pub spare : ℕ
  pub total_fits : total < 2 ^ 32
  pub spare_fits : spare < 2 ^ 16
  pub spelled : entry ≡ header_front total x.0 spare ++ (to_le_bytes w32 x.0.crc ++ x.1)
  pub good : HeaderFits x.0
  pub fits : IsBytes x.1

header_takes : (entry : List ℕ) (x : Header × List ℕ) → IsBytes entry → header_at entry ≡ Some x → HeaderTaken entry x
unfolding header_at
header_takes entry x fits e =
    let P : Type 0 = HeaderTaken entry x in
    step w32 (2 ^ 32) wide32 entry _ x P fits e (λ total r1 e1 f1 g1 b1.
    step w32 (2 ^ 32) wide32 r1 _ x P f1 g1 (λ xid r2 e2 f2 g2 b2.
    step w64 (2 ^ 64) wide64 r2 _ x P f2 g2 (λ prev r3 e3 f3 g3 b3.
    step w8 (2 ^ 8) wide8 r3 _ x P f3 g3 (λ info r4 e4 f4 g4 b4.
    step w8 (2 ^ 8) wide8 r4 _ x P f4 g4 (λ manager r5 e5 f5 g5 b5.
    step w16 (2 ^ 16) wide16 r5 _ x P f5 g5 (λ spare r6 e6 f6 g6 b6.
    step w32 (2 ^ 32) wide32 r6 _ x P f6 g6 (λ crc r7 e7 f7 g7 b7.
    let same : (record { xid = xid; prev = prev; info = info; manager = manager; crc = crc }, r7) ≡ x = cc in
    subst (HeaderTaken entry) same (record {
      total = total;
      spare = spare;
      total_fits = b1;
      spare_fits = b6;
      spelled =
          put_front w32 total total entry r1 _ refl e1 (put_front w32 xid xid r1 r2 _ refl e2 (put_front w64 prev prev r2 r3 _ refl e3 (put_front w8 info info r3 r4 _ refl e4
          (put_front w8 manager manager r4 r5 _ refl e5 (put_front w16 spare spare r5 r6 _ refl e6 e7)))));
      good = record { xid = b2; prev = b3; info = b4; manager = b5; crc = b7 };
      fits = f7;
    }))))))))

-- one number stands at the front
same_number : (bytes r s : List ℕ) (n m : ℕ) → n < 2 ^ 32 → m < 2 ^ 32 → bytes ≡ to_le_bytes w32 n ++ r → bytes ≡ to_le_bytes w32 m ++ s → n ≡ m
same_number bytes r s n m bn bm e f = sym (number_is bytes n r (ap (number_at w32) e ∙ number_again w32 (2 ^ 32) wide32 n r bn)) ∙ number_is bytes m s (ap (number_at w32) f ∙ number_again w32 (2 ^ 32) wide32 m s bm)

-- the header and the bytes behind it, of the entry at the front
pub record PartsTaken (bytes : List ℕ) (x : Header × List ℕ) : Type 0 where
  pub entry : List ℕ
  pub rest : List ℕ
  pub spare : ℕ
  pub spare_fits : spare < 2 ^ 16
  pub whole : bytes ≡ entry ++ rest
  pub spelled : entry ≡ header_front (length entry) x.0 spare ++ (to_le_bytes w32 x.0.crc ++ x.1)
  pub most : length entry ≤ 4194304
  pub good : HeaderFits x.0
  pub fits : IsBytes x.1

pub parts_takes : (bytes : List ℕ) (x : Header × List ℕ) → IsBytes bytes → parts_at bytes ≡ Some x → PartsTaken bytes x
unfolding parts_at
parts_takes bytes x fits e =
    took (entry_at bytes) header_at x (PartsTaken bytes x) e (λ entry e1 e2.
    let t = entry_takes bytes entry fits e1 in
    let h = header_takes entry x t.fits e2 in
    let small : length entry < 2 ^ 32 = omega (arith, t.most) in
    let same : h.total ≡ length entry = same_number entry _ _ h.total (length entry) h.total_fits small h.spelled t.told in
    record {
      entry = entry;
      rest = t.rest;
      spare = h.spare;
      spare_fits = h.spare_fits;
      whole = t.whole;
      spelled = subst (λ (n : ℕ). entry ≡ header_front n x.0 h.spare ++ (to_le_bytes w32 x.0.crc ++ x.1)) same h.spelled;
      most = t.most;
      good = h.good;
      fits = h.fits;
    })

-- a step that refused nothing
pub went : {A B E : Type 0} (o : Result A E) (f : A → Result B E) (y : B) (P : Type 0) → (o >>= f) ≡ Ok y → ((x : A) → o ≡ Ok x → f x ≡ Ok y → P) → P
went (Ok x) f y P e go = go x refl e
went (Err fault) f y P e go = absurd cc

pub is_there : {A E : Type 0} (fault : E) (o : Option A) (x : A) → or_fault fault o ≡ Ok x → o ≡ Some x
is_there fault None x e = absurd cc
is_there fault (Some y) x e = let same : y ≡ x = cc in ap (λ (z : _). Some z) same

pub says_so : {A : Type 0} (o : Result A Why) (x : A) → refused o ≡ Ok x → o ≡ Ok x
says_so (Ok y) x e = let same : y ≡ x = cc in ap (λ (z : _). Ok z) same
says_so (Err why) x e = absurd cc

pub held : {A E : Type 0} (b : Bool) (fault : E) (o : Result A E) (y : A) (P : Type 0) → cond (not b) (Err fault) o ≡ Ok y → (b ≡ true → o ≡ Ok y → P) → P
held true fault o y P e go = go refl e
held false fault o y P e go = absurd cc

pub held_at_last : {A E : Type 0} (b : Bool) (x : A) (fault : E) (y : A) (P : Type 0) → cond b (Ok x) (Err fault) ≡ Ok y → (b ≡ true → x ≡ y → P) → P
held_at_last true x fault y P e go = go refl cc
held_at_last false x fault y P e go = absurd cc

-- what the bytes behind a header say
pub record KindTaken (manager info : ℕ) (body : List ℕ) (kind : Kind) : Type 0 where
  pub form : Form
  pub heads : Heads
  pub known : form_of manager info ≡ Some form
  pub spelled : body ≡ tree_bytes heads
  pub are : AreHeads 0 0 heads.0 heads.1 heads.2
  pub says : said form heads.0 heads.1 heads.2 ≡ Ok kind

kind_takes : (manager info : ℕ) (body : List ℕ) (kind : Kind) → IsBytes body → kind_at manager info body ≡ Ok kind → KindTaken manager info body kind
unfolding kind_at
kind_takes manager info body kind fits e =
    let P : Type 0 = KindTaken manager info body kind in
    went (or_fault (faults.Unsupported manager info) (form_of manager info)) _ kind P e (λ form e1 g1.
    went (or_fault faults.Header (heads_at 34 0 0 body)) (λ heads. refused (said form heads.0 heads.1 heads.2)) kind P g1 (λ heads e2 g2.
    let t = heads_takes 34 0 0 body heads fits (is_there faults.Header (heads_at 34 0 0 body) heads e2) in
    record {
      form = form;
      heads = heads;
      known = is_there (faults.Unsupported manager info) (form_of manager info) form e1;
      spelled = t.spelled;
      are = t.are;
      says = says_so (said form heads.0 heads.1 heads.2) kind g2;
    }))

-- an entry that is read, and what stands behind it
pub record RecordTaken (bytes : List ℕ) (place : Place) (prev : Option Lsn) (r : Record) : Type 0 where
  pub entry : List ℕ
  pub rest : List ℕ
  pub whole : bytes ≡ entry ++ rest
  pub is : IsEntry entry place prev r

record_of : Place → Header → Kind → Record
record_of place h kind = record { start = place.start; end = place.end; prev = record { 0 = h.prev }; xid = h.xid; kind = kind }

in_takes : (place : Place) (prev : Option Lsn) (bytes front : List ℕ) (x : Header × List ℕ) (r : Record) → front ≡ take 20 bytes → PartsTaken bytes x → record_in place prev front x ≡ Ok r → RecordTaken bytes place prev r
unfolding record_in record_of
in_takes place prev bytes front (h, body) r front_is t e =
    let P : Type 0 = RecordTaken bytes place prev r in
    held (is_linked prev h.prev) _ _ r P e (λ linked g1.
    held (h.crc == entry_sum front body) _ _ r P g1 (λ summed g2.
    went (kind_at h.manager h.info body) _ r P g2 (λ kind e3 g3.
    held_at_last (may_come prev place.start kind) (record_of place h kind) _ r P g3 (λ comes same.
    let k = kind_takes h.manager h.info body kind t.fits e3 in
    let sum : ℕ = h.crc in
    let whole : bytes ≡ (header_front (length t.entry) h t.spare ++ (to_le_bytes w32 sum ++ body)) ++ t.rest = t.whole ∙ ap (λ (l : List ℕ). l ++ t.rest) t.spelled in
    let first : front ≡ header_front (length t.entry) h t.spare = front_is ∙ ap (take 20) whole in
    let crc : h.crc ≡ entry_sum (header_front (length t.entry) h t.spare) (tree_bytes k.heads) =
    eqb-true _ _ summed ∙ ap (entry_sum front) k.spelled ∙ ap (λ (l : List ℕ). entry_sum l (tree_bytes k.heads)) first in
    record {
      entry = t.entry;
      rest = t.rest;
      whole = t.whole;
      is = subst (IsEntry t.entry place prev) same (record {
        header = h;
        spare = t.spare;
        form = k.form;
        heads = k.heads;
        fits = t.good;
        spare_fits = t.spare_fits;
        spelled = t.spelled ∙ ap (λ (l : List ℕ). header_front (length t.entry) h t.spare ++ (to_le_bytes w32 h.crc ++ l)) k.spelled;
        most = t.most;
        linked = linked;
        summed = crc;
        known = k.known;
        are = k.are;
        says = k.says;
        comes = comes;
        start = refl;
        end = refl;
        prev_is = refl;
        xid_is = refl;
      });
    }))))

pub record_takes : (place : Place) (prev : Option Lsn) (bytes : List ℕ) (r : Record) → IsBytes bytes → record_at place prev bytes ≡ Ok r → RecordTaken bytes place prev r
unfolding record_at
record_takes place prev bytes r fits e =
    went (or_fault faults.Length (parts_at bytes)) (record_in place prev (take 20 bytes)) r (RecordTaken bytes place prev r) e (λ x e1 e2.
    in_takes place prev bytes (take 20 bytes) x r refl (parts_takes bytes x fits (is_there faults.Length (parts_at bytes) x e1)) e2)

-- an entry that is read stands at the place that was told
in_there : (place : Place) (prev : Option Lsn) (front : List ℕ) (x : Header × List ℕ) (r : Record) → record_in place prev front x ≡ Ok r → (r.start ≡ place.start) × (r.end ≡ place.end)
unfolding record_in record_of
in_there place prev front (h, body) r e =
    let P : Type 0 = (r.start ≡ place.start) × (r.end ≡ place.end) in
    held (is_linked prev h.prev) _ _ r P e (λ t1 g1.
    held (h.crc == entry_sum front body) _ _ r P g1 (λ t2 g2.
    went (kind_at h.manager h.info body) _ r P g2 (λ kind e3 g3.
    held_at_last (may_come prev place.start kind) (record_of place h kind) _ r P g3 (λ t4 same.
    subst (λ (x : Record). (x.start ≡ place.start) × (x.end ≡ place.end)) same (refl, refl)))))

pub record_there : (place : Place) (prev : Option Lsn) (bytes : List ℕ) (r : Record) → record_at place prev bytes ≡ Ok r → (r.start ≡ place.start) × (r.end ≡ place.end)
unfolding record_at
record_there place prev bytes r e = went (or_fault faults.Length (parts_at bytes)) (record_in place prev (take 20 bytes)) r _ e (λ x e1 e2. in_there place prev (take 20 bytes) x r e2)
