-- Entries that are laid out one behind the other are read so; entries that were read are read
-- still in an archive that holds more.
use Rattle.std.proofs.Common.{◌≡◌, ℕ, ◌+◌, ◌/◌, ◌%◌, ◌^◌, ◌<◌, ◌≤◌, ◌⊎◌, true, false, cond, not, ◌&&◌, leb, eqb, List, [], ◌∷◌, ◌++◌, length, Option, Some, None, refl, sym, ap, subst, ◌∙◌, arith, inl, inr}
use Rattle.std.specs.Prelude.{Result, Ok, Err}
use Rattle.std.proofs.lemmas.Bool.{cases_lt, cases_Bool, le-leb, lt-leb, leb-true, cond-false, or_cases, and_parts, eqb-true}
use Rattle.lsn_core.specs.Segment.{segment_bytes}
use Rattle.lsn_core.specs.declared.lsn.Lsn.{Lsn}
use Rattle.lsn_core.specs.Tip.{Tip}
use Rattle.wal_record.specs.Tips.{tip_after}
use Rattle.wal_record.specs.declared.record.Record.{Record}
use Rattle.wal_record.specs.Spelling.{sealed}
use Rattle.wal_pages.specs.Places.{head_size, start_after, end_of}
use Rattle.wal_archive.specs.Archive.{Archive, IsArchive, Extends}
use Rattle.wal_record.specs.declared.record.RecordFault.{RecordFault}
use Rattle.wal_archive.specs.declared.fault.Damage.{Damage}
use Rattle.wal_archive.specs.Rules.{Judge, End, Gives, place_behind, judged, found, ◌>>=◌, first_head, entry_at, next_bytes, ends_at, head_at, is_ok, next_in, Walks, missing, lsn}
use Rattle.wal_archive.specs.Laws.{IsFair, IsTaken}
use Rattle.wal_archive.specs.Stands.{IsEnd, Stands}
use Rattle.wal_archive.specs.Writing.{IsNext, IsChain}
use Rattle.wal_archive.proofs.Next.{start_of, stands_next, next_stands, stands_extended, else_of, err_is_err}
use Rattle.wal_archive.proofs.Runs.{ok_bind}
use Rattle.wal_archive.proofs.Cut.{IsCut, cut_stands, Ending, ending}

-- the archive holds entries cut over pages, one behind the other
abbrev pub IsLaid : Archive → ℕ → ℕ → ℕ → List Record → Type 0
IsLaid a mib system at [] = Unit {0}
IsLaid a mib system at (r ∷ rs) = IsCut a mib system at (sealed r) r.end.0
    × IsLaid a mib system r.end.0 rs

pub ending_of : (judge : Judge) (mib : ℕ) (tip : Tip) (r : Record) → 1 ≤ mib → IsEnd mib tip.end
    → IsNext judge mib tip r → Ending mib tip.end (length (sealed r)) r.end.0
ending_of judge mib tip r some end next =
    subst (λ n. Ending mib tip.end (length (sealed r)) n) (sym next.end)
    (ending mib tip.end (length (sealed r)) some end (omega (arith, next.least)))

-- an entry that stands behind a tip and is taken by the judge is given
gives : (judge : Judge) (mib system : ℕ) (a : Archive) (tip : Tip) (r : Record) (bytes : List ℕ)
    → next_bytes a mib system tip.end ≡ Ok (Some bytes)
    → judge (place_behind mib tip.end bytes) (Some (lsn tip.prev)) bytes ≡ Ok r
    → next_in judge mib system a tip ≡ Gives r
unfolding next_in
gives judge mib system a tip r bytes e j = rw (e, j) refl

pub chain_walks : (judge : Judge) (mib system : ℕ) (a : Archive) (tip : Tip) (rs : List Record)
    (last : Tip) → 1 ≤ mib → mib ≤ 1024 → system < 2 ^ 64 → IsArchive mib a → IsEnd mib tip.end
    → IsChain judge mib tip rs last → IsLaid a mib system tip.end rs
    → Walks judge mib system a tip rs last
chain_walks judge mib system a tip [] last some most known arch end chain laid = chain
chain_walks judge mib system a tip (r ∷ rs) last some most known arch end chain laid =
    let next = chain.0 in
    let behind = ending_of judge mib tip r some end next in
    let st : Stands a mib system tip.end (sealed r) =
    cut_stands a mib system tip.end r.end.0 (sealed r) some most known
    (omega (arith, next.within, most)) behind.stop next.total next.least next.most laid.0 in (
      gives judge mib system a tip r (sealed r)
          (stands_next a mib system tip.end (sealed r) some arch end st) next.taken,
      chain_walks judge mib system a (tip_after tip r) rs last some most known arch behind.is_end
          chain.1 laid.1,
    )

-- what stands behind a tip where an entry is given
pub record IsGiven (judge : Judge) (mib system : ℕ) (a : Archive) (tip : Tip) (r : Record) : Type 0
  where
    pub bytes : List ℕ
    pub read : next_bytes a mib system tip.end ≡ Ok (Some bytes)
    pub taken : judge (place_behind mib tip.end bytes) (Some (lsn tip.prev)) bytes ≡ Ok r

judged_gives : (start : ℕ) (j : Result Record RecordFault) (r : Record) → judged start j ≡ Gives r
    → j ≡ Ok r
judged_gives start (Ok x) r e =
    (let same : x ≡ r = cc in ap (λ k. let o : Result Record RecordFault = Ok k in o) same)
judged_gives start (Err why) r e = absurd cc

found_gives : (judge : Judge) (mib e : ℕ) (prev : Option Lsn) (o : Result (Option (List ℕ)) Damage)
    (r : Record) → found judge mib e prev o ≡ Gives r
    → (bytes : List ℕ) × (o ≡ Ok (Some bytes))
    × (judge (place_behind mib e bytes) prev bytes ≡ Ok r)
found_gives judge mib e prev (Ok None) r eq = absurd cc
found_gives judge mib e prev (Ok (Some bytes)) r eq = (
  bytes,
  refl,
  judged_gives (start_after mib e) (judge (place_behind mib e bytes) prev bytes) r
      eq,
)
found_gives judge mib e prev (Err d) r eq = absurd cc

pub given : (judge : Judge) (mib system : ℕ) (a : Archive) (tip : Tip) (r : Record)
    → next_in judge mib system a tip ≡ Gives r → IsGiven judge mib system a tip r
unfolding next_in
given judge mib system a tip r e = let f =
    found_gives judge mib tip.end (Some (lsn tip.prev)) (next_bytes a mib system tip.end) r e in
    record { bytes = f.0; read = f.1; taken = f.2 }

-- an entry is given exactly where its bytes stand and the judge takes them
pub given_stands : (judge : Judge) (mib system : ℕ) (a : Archive) (tip : Tip) (r : Record) → 1 ≤ mib
    → IsEnd mib tip.end → next_in judge mib system a tip ≡ Gives r
    → IsTaken judge mib system a tip r
given_stands judge mib system a tip r some end e =
    let g = given judge mib system a tip r e in
    record {
      bytes = g.bytes;
      stands = next_stands a mib system tip.end g.bytes some end g.read;
      taken = g.taken;
    }

pub stands_given : (judge : Judge) (mib system : ℕ) (a : Archive) (tip : Tip) (r : Record) → 1 ≤ mib
    → IsArchive mib a → IsEnd mib tip.end → IsTaken judge mib system a tip r
    → next_in judge mib system a tip ≡ Gives r
stands_given judge mib system a tip r some arch end t =
    gives judge mib system a tip r t.bytes
    (stands_next a mib system tip.end t.bytes some arch end t.stands) t.taken

judged_end : (start : ℕ) (j : Result Record RecordFault) → judged start j ≡ End → ⊥
judged_end start (Ok x) e = absurd cc
judged_end start (Err why) e = absurd cc

found_end : (judge : Judge) (mib e : ℕ) (prev : Option Lsn) (o : Result (Option (List ℕ)) Damage)
    → found judge mib e prev o ≡ End → o ≡ Ok None
found_end judge mib e prev (Ok None) eq = refl
found_end judge mib e prev (Ok (Some bytes)) eq = absurd (judged_end _ _ eq)
found_end judge mib e prev (Err d) eq = absurd cc

pub ended : (judge : Judge) (mib system : ℕ) (a : Archive) (tip : Tip)
    → next_in judge mib system a tip ≡ End → next_bytes a mib system tip.end ≡ Ok None
unfolding next_in
ended judge mib system a tip e = found_end judge mib tip.end (Some (lsn tip.prev))
    (next_bytes a mib system tip.end) e

pub ends : (judge : Judge) (mib system : ℕ) (a : Archive) (tip : Tip)
    → next_bytes a mib system tip.end ≡ Ok None → next_in judge mib system a tip ≡ End
unfolding next_in
ends judge mib system a tip e = rw e refl

-- where a walk goes
pub record Reach (mib : ℕ) (tip last : Tip) : Type 0 where
  pub is_end : IsEnd mib last.end
  pub later : tip.end ≤ last.end

-- the ending of an entry that was given
given_ending : (judge : Judge) (mib system : ℕ) (a : Archive) (tip : Tip) (r : Record) → 1 ≤ mib
    → IsFair judge → IsEnd mib tip.end → (g : IsGiven judge mib system a tip r)
    → Ending mib tip.end (length g.bytes) r.end.0
given_ending judge mib system a tip r some fair end g =
    let st = next_stands a mib system tip.end g.bytes some end g.read in
    let is : r.end.0 ≡ end_of mib (start_after mib tip.end) (length g.bytes) =
    ap (λ (l : Lsn). l.0) (fair _ _ _ _ g.taken).1 in
    subst (λ n. Ending mib tip.end (length g.bytes) n) (sym is)
    (ending mib tip.end (length g.bytes) some end (omega (arith, st.least)))

pub walk_reach : (judge : Judge) (mib system : ℕ) (a : Archive) (tip : Tip) (rs : List Record)
    (last : Tip) → 1 ≤ mib → IsFair judge → IsEnd mib tip.end → Walks judge mib system a tip rs last
    → Reach mib tip last
walk_reach judge mib system a tip [] last some fair end walk =
    subst (λ t. Reach mib tip t) (sym walk) (record { is_end = end; later = omega arith })
walk_reach judge mib system a tip (r ∷ rs) last some fair end walk =
    let g = given judge mib system a tip r walk.0 in
    let behind = given_ending judge mib system a tip r some fair end g in
    let more = walk_reach judge mib system a (tip_after tip r) rs last some fair behind.is_end
    walk.1 in
    record { is_end = more.is_end; later = omega (arith, more.later, behind.later) }

-- entries that were read are read in an archive that holds what this one holds up to their end
pub walks_extended : (judge : Judge) (mib system : ℕ) (a new : Archive) (tip : Tip)
    (rs : List Record) (last : Tip) → 1 ≤ mib → IsFair judge → IsArchive mib new → IsEnd mib tip.end
    → Extends a new last.end → Walks judge mib system a tip rs last
    → Walks judge mib system new tip rs last
walks_extended judge mib system a new tip [] last some fair arch end more walk = walk
walks_extended judge mib system a new tip (r ∷ rs) last some fair arch end more walk =
    let g = given judge mib system a tip r walk.0 in
    let behind = given_ending judge mib system a tip r some fair end g in
    let reach = walk_reach judge mib system a (tip_after tip r) rs last some fair behind.is_end
    walk.1 in
    let st = stands_extended a new mib system tip.end last.end g.bytes some
    (omega (arith, behind.stop, reach.later)) more
    (next_stands a mib system tip.end g.bytes some end g.read) in (
      gives judge mib system new tip r g.bytes
          (stands_next new mib system tip.end g.bytes some arch end st) g.taken,
      walks_extended judge mib system a new (tip_after tip r) rs last some fair arch behind.is_end
          more walk.1,
    )

-- one walk behind the other
pub walks_on : (judge : Judge) (mib system : ℕ) (a : Archive) (tip : Tip) (rs news : List Record)
    (mid last : Tip) → Walks judge mib system a tip rs mid → Walks judge mib system a mid news last
    → Walks judge mib system a tip (rs ++ news) last
walks_on judge mib system a tip [] news mid last walk more =
    subst (λ t. Walks judge mib system a t news last) walk more
walks_on judge mib system a tip (r ∷ rs) news mid last walk more =
    (walk.0, walks_on judge mib system a (tip_after tip r) rs news mid last walk.1 more)

-- where the archive ends no byte other than zero is held behind the place where an entry would
-- start
pub ended_zero : (a : Archive) (mib system e : ℕ) → 1 ≤ mib → IsArchive mib a → IsEnd mib e
    → next_bytes a mib system e ≡ Ok None → (x b : ℕ) → a.byte x ≡ Some b → 0 < b
    → x < start_after mib e
unfolding next_bytes ends_at
ended_zero a mib system e some arch end eq x b held nonzero =
    let s = start_of mib e some end in
    let marked = arch.marked x b held nonzero in
    elim (cases_Bool (leb a.top e)) [
      | inl top ↦ (let t = arch.held x b held in let l = leb-true _ _ top in
          omega (arith, t, l, s.later, s.is))
      | inr some_top ↦
          let none : Result (Option (List ℕ)) Damage = Ok None in
          let more : Result (Option (List ℕ)) Damage =
          (first_head a mib system e >>= λ h.
          entry_at a mib system (start_after mib e) >>= λ bytes. Ok (Some bytes)) in
          let file : Result (Option (List ℕ)) Damage =
          cond (not (a.has_file (e / segment_bytes mib)))
          (Err (missing (e / segment_bytes mib))) (cond (ends_at a mib system e) none more) in
          let c1 : file ≡ none = sym (cond-false (leb a.top e) none file some_top) ∙ eq in
          let c2 = else_of (not (a.has_file (e / segment_bytes mib)))
          (Err (missing (e / segment_bytes mib))) (cond (ends_at a mib system e) none more) none
          c1 (err_is_err {A = Option (List ℕ)} (missing (e / segment_bytes mib)) None) in
          elim (cases_Bool (ends_at a mib system e)) [
            | inl stops ↦ elim (or_cases (leb a.mark e)
                (eqb (e % 8192) 0 && (is_ok (head_at a mib system e e (Some 0)) && leb a.mark
                (e + head_size mib e))) stops) [
                  | inl zeros ↦ (let l = leb-true a.mark e zeros in
                      omega (arith, l, marked, s.later, s.is))
                  | inr page ↦
                      let p = and_parts (eqb (e % 8192) 0)
                      (is_ok (head_at a mib system e e (Some 0)) && leb a.mark
                      (e + head_size mib e)) page in
                      let q = and_parts (is_ok (head_at a mib system e e (Some 0)))
                      (leb a.mark (e + head_size mib e)) p.1 in
                      let start : e % 8192 ≡ 0 = eqb-true _ _ p.0 in
                      (let l = leb-true a.mark (e + head_size mib e) q.1 in
                      omega (arith, l, marked, s.is, s.page start))
                ]
            | inr goes ↦
                let c3 : more ≡ none = sym (cond-false (ends_at a mib system e) none more goes)
                ∙ c2.1 in
                let h = ok_bind (first_head a mib system e) _ None c3 in
                let t = ok_bind (entry_at a mib system (start_after mib e)) _ None h.2 in
                absurd (some_is_none t.0 t.2)
          ]
    ]
  where
    some_is_none : (bytes : List ℕ)
        → ◌≡◌ {A = Result (Option (List ℕ)) Damage} (Ok (Some bytes)) (Ok None) → ⊥
    some_is_none bytes e = absurd cc

-- an archive ends where only zeros are held and either nothing at all or the file is there
pub zero_ends : (a : Archive) (mib system e : ℕ) → a.mark ≤ e
    → (a.top ≤ e) ⊎ (a.has_file (e / segment_bytes mib) ≡ true)
    → next_bytes a mib system e ≡ Ok None
unfolding next_bytes ends_at
zero_ends a mib system e zeros there =
    elim (cases_lt e a.top) [
      | inr none ↦ (let t : leb a.top e ≡ true = le-leb _ _ none in rw t refl)
      | inl some_top ↦
          let t : leb a.top e ≡ false = lt-leb _ _ some_top in
          let m : leb a.mark e ≡ true = le-leb _ _ zeros in
          let file : a.has_file (e / segment_bytes mib) ≡ true =
          elim (there) [ inl none ↦ absurd (omega (arith, none, some_top)) | inr file ↦ file ]
          in
          rw (t, file, m) refl
    ]
