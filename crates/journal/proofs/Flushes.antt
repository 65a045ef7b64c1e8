-- A flush keeps what a log holds, whether it succeeds or fails.
use Rattle.std.proofs.Common.{◌≡◌, ℕ, ◌+◌, ◌-◌, ◌^◌, ◌<◌, ◌≤◌, max, List, [], ◌∷◌, ◌++◌, length, get_or, take, drop, Some, refl, sym, ap, subst, ◌∙◌, arith, append_assoc, inl, inr}
use Rattle.std.proofs.lemmas.Bool.{cases_lt}
use Rattle.std.proofs.lemmas.List.{append-nil, length-append, get_or_append_left, get_or-append_right, take_at, drop_at}
use Rattle.std.proofs.lemmas.List.FromFn.{length-map-range_with_len, get_or-map-range_with_len}
use Rattle.lsn_core.specs.Files.{Files}
use Rattle.lsn_core.specs.Tip.{Tip}
use Rattle.wal_pages.specs.Places.{flat_before, start_after, end_of}
use Rattle.wal_pages.specs.Spread.{spread_byte, spread}
use Rattle.wal_record.specs.Decoding.{record_at}
use Rattle.wal_record.specs.Spelling.{sealed}
use Rattle.wal_record.specs.Tips.{first_tip, tip_after, wal_limit}
use Rattle.wal_record.specs.declared.record.Record.{Record}
use Rattle.wal_archive.specs.Archive.{Archive, archive_of}
use Rattle.wal_archive.specs.Rules.{Judge, IsWal}
use Rattle.wal_archive.specs.Stands.{IsEnd}
use Rattle.wal_archive.specs.Writing.{IsChain, laid_out, archive_written}
use Rattle.wal_archive.specs.Laws.{IsFair, IsKept, HasNoGap, entries_written}
use Rattle.wal_archive.proofs.Files.{files_archive}
use Rattle.wal_archive.proofs.Chain.{IsLaid, ending_of, chain_walks, walk_reach, walks_extended, walks_on}
use Rattle.wal_archive.proofs.Judged.{record_is_fair}
use Rattle.wal_archive.proofs.Writes.{IsWritten, archive_is_written}
use Rattle.wal_archive.proofs.Read.{chain_reach, origin_end, written_is_read}
use Rattle.wal_writer.specs.Log.{Log, IsLog, flush_end, to_flush, flushed_to}
use Rattle.wal_writer.specs.Answers.{after_flush}
use Rattle.wal_writer.specs.Laws.{IsEndAmong, Waits, IsKnown}
use Rattle.journal.specs.Laws.{FlushedEntriesAreKept, KeptIsWal}
use Rattle.journal.proofs.Stands.{start_later}

-- ---- what was written is held as it was laid out

spread_at : (mib system at : ℕ) (bytes : List ℕ) (i : ℕ) → i < end_of mib at (length bytes) - at → get_or (spread mib system at bytes) i 0 ≡ spread_byte mib system (flat_before mib at) bytes (at + i)
unfolding spread
spread_at mib system at bytes i lt = get_or-map-range_with_len (spread_byte mib system (flat_before mib at) bytes) at (end_of mib at (length bytes) - at) i (at + i) 0 lt refl

length_spread : (mib system at : ℕ) (bytes : List ℕ) → length (spread mib system at bytes) ≡ end_of mib at (length bytes) - at
unfolding spread
length_spread mib system at bytes = length-map-range_with_len (spread_byte mib system (flat_before mib at) bytes) at (end_of mib at (length bytes) - at)

laid : (judge : Judge) (mib system : ℕ) (a : Archive) (tip : Tip) (rs : List Record) (last : Tip) → 1 ≤ mib → IsEnd mib tip.end → IsChain judge mib tip rs last
    → ((i : ℕ) → i < length (laid_out mib system tip.end rs) → a.byte (tip.end + i) ≡ Some (get_or (laid_out mib system tip.end rs) i 0)) → IsLaid a mib system tip.end rs
laid judge mib system a tip [] last some end chain held = tt
laid judge mib system a tip (r ∷ rs) last some end chain held =
    let one = chain_reach judge mib system tip (r ∷ []) (tip_after tip r) some end (chain.0, refl) in
    let front : List ℕ = spread mib system tip.end (sealed r) in
    let behind : List ℕ = laid_out mib system r.end.0 rs in
    let l = length-append front behind in
    let long : tip.end + length front ≡ r.end.0 = omega (arith, one.len, length-append front []) in
    let spread_long = length_spread mib system tip.end (sealed r) in (
      λ x from below.
          let i : ℕ = x - tip.end in
          let at : tip.end + i ≡ x = omega (arith, from) in
          let lt : i < length front = omega (arith, long, below, at) in
          ap a.byte (sym at) ∙ held i (omega (arith, l, lt))
          ∙ ap Some (get_or_append_left front behind 0 i lt ∙ spread_at mib system tip.end (sealed r) i (omega (arith, spread_long, lt)) ∙ ap (spread_byte mib system (flat_before mib tip.end) (sealed r)) at),
      laid judge mib system a (tip_after tip r) rs last some one.is_end chain.1
          (λ i lt. ap a.byte (let e : r.end.0 + i ≡ tip.end + (length front + i) = omega (arith, long) in e) ∙ held (length front + i) (omega (arith, l, lt))
          ∙ ap Some (get_or-append_right front behind (length front) (length front + i) 0 refl (omega arith) ∙ ap (λ n. get_or behind n 0) (let e : length front + i - length front ≡ i = omega arith in e))),
    )

chain_within : (judge : Judge) (mib : ℕ) (tip : Tip) (r : Record) (rs : List Record) (last : Tip) → IsChain judge mib tip (r ∷ rs) last → last.end ≤ wal_limit mib
chain_within judge mib tip r [] last chain = (let e : last.end ≡ r.end.0 = ap (λ (t : Tip). t.end) chain.1 in let w = chain.0.within in omega (arith, e, w))
chain_within judge mib tip r (q ∷ rs) last chain = chain_within judge mib (tip_after tip r) q rs last chain.1

-- what was there is read, and then the entries that were written behind it, whatever stands behind them
written_kept : (judge : Judge) (mib system : ℕ) (files : Files) (rs news : List Record) (r : Record) (tip last : Tip) (limit : ℕ) → IsFair judge → 1 ≤ mib → mib ≤ 1024 → system < 2 ^ 64
    → IsKept judge mib system files rs tip limit → limit ≤ last.end → IsChain judge mib tip (r ∷ news) last
    → IsKept judge mib system (entries_written mib system tip (r ∷ news) files) (rs ++ (r ∷ news)) last last.end
written_kept judge mib system files rs news r tip last limit fair some most known kept covered chain =
    let bytes : List ℕ = laid_out mib system tip.end (r ∷ news) in
    let new : Files = archive_written mib (length bytes) tip.end bytes files in
    let reach = walk_reach judge mib system (archive_of mib files) (first_tip mib) rs tip some fair (origin_end mib) kept.walk in
    let on = chain_reach judge mib system tip (r ∷ news) last some reach.is_end chain in
    let one = ending_of judge mib tip r some reach.is_end chain.0 in
    let within = chain_within judge mib tip r news last chain in
    let later = (chain_reach judge mib system (tip_after tip r) news last some one.is_end chain.1).later in
    let w : IsWritten mib (archive_of mib files) (archive_of mib new) tip.end bytes =
    archive_is_written mib (length bytes) tip.end bytes files some (omega (arith, reach.later)) (omega (arith, on.len, within)) (omega (arith, on.len, one.later, later)) (omega arith) in
    let arch_new = files_archive mib new some in
    let old_walk = walks_extended judge mib system (archive_of mib files) (archive_of mib new) (first_tip mib) rs tip some fair arch_new (origin_end mib) (λ x b lt held. w.before x b lt held) kept.walk in
    let new_walk = chain_walks judge mib system (archive_of mib new) tip (r ∷ news) last some most known arch_new reach.is_end chain
    (laid judge mib system (archive_of mib new) tip (r ∷ news) last some reach.is_end chain w.within) in
    record {
      walk = walks_on judge mib system (archive_of mib new) (first_tip mib) rs (r ∷ news) tip last old_walk new_walk;
      zeros = λ x b held nonzero. elim (cases_lt x last.end) [
        | inl lt ↦ lt
        | inr le ↦ (let z = kept.zeros x b (sym (w.behind x (omega (arith, le, on.len))) ∙ held) nonzero in omega (arith, z, covered))
      ];
    }

-- ---- the entries that wait, in two parts

laid_split : (judge : Judge) (mib system : ℕ) (tip : Tip) (rs qs : List Record) (mid : Tip) → IsChain judge mib tip rs mid
    → laid_out mib system tip.end (rs ++ qs) ≡ laid_out mib system tip.end rs ++ laid_out mib system mid.end qs
laid_split judge mib system tip [] qs mid chain = ap (λ (t : Tip). laid_out mib system t.end qs) (sym chain)
laid_split judge mib system tip (r ∷ rs) qs mid chain =
    ap (λ l. spread mib system tip.end (sealed r) ++ l) (laid_split judge mib system (tip_after tip r) rs qs mid chain.1)
    ∙ sym (append_assoc (spread mib system tip.end (sealed r)) (laid_out mib system r.end.0 rs) (laid_out mib system mid.end qs))

chain_behind : (judge : Judge) (mib : ℕ) (tip : Tip) (rs qs : List Record) (mid last : Tip) → IsChain judge mib tip rs mid → IsChain judge mib tip (rs ++ qs) last → IsChain judge mib mid qs last
chain_behind judge mib tip [] qs mid last chain whole = subst (λ t. IsChain judge mib t qs last) (sym chain) whole
chain_behind judge mib tip (r ∷ rs) qs mid last chain whole = chain_behind judge mib (tip_after tip r) rs qs mid last chain.1 whole.1

-- where a flush ends, an entry does
end_among : (judge : Judge) (log : Log) (tip : Tip) (waiting : List Record) (to : ℕ) → Waits judge log tip waiting → log.flushed < to → IsEndAmong tip waiting to → IsEndAmong tip waiting (flush_end log to)
end_among judge log tip waiting to w some among =
    elim (cases_lt to log.touched) [
      | inl lt ↦ subst (IsEndAmong tip waiting) (let e : log.touched ≡ max to log.touched = omega (arith, lt) in e) (w.touched (omega (arith, lt, some)))
      | inr le ↦ subst (IsEndAmong tip waiting) (let e : to ≡ max to log.touched = omega (arith, le) in e) among
    ]

record Parts (judge : Judge) (mib : ℕ) (tip : Tip) (rs : List Record) (at : ℕ) : Type 0 where
  done : List Record
  behind : List Record
  mid : Tip
  all : rs ≡ done ++ behind
  place : mid.end ≡ at
  chain : IsChain judge mib tip done mid

parts_of : (judge : Judge) (mib : ℕ) (tip : Tip) (rs : List Record) (last : Tip) (at : ℕ) → IsChain judge mib tip rs last → IsEndAmong tip rs at → Parts judge mib tip rs at
parts_of judge mib tip [] last at chain here = record { done = []; behind = []; mid = tip; all = refl; place = sym here; chain = refl }
parts_of judge mib tip (r ∷ rs) last at chain (inl here) = record { done = []; behind = r ∷ rs; mid = tip; all = refl; place = sym here; chain = refl }
parts_of judge mib tip (r ∷ rs) last at chain (inr later) =
    let p = parts_of judge mib (tip_after tip r) rs last at chain.1 later in
    record { done = r ∷ p.done; behind = p.behind; mid = p.mid; all = ap (λ l. r ∷ l) p.all; place = p.place; chain = (chain.0, p.chain) }

-- what is flushed is the entries up to the place, and the others wait behind
record Split (judge : Judge) (log : Log) (tip : Tip) (done behind : List Record) (mid : Tip) : Type 0 where
  bytes : to_flush log mid.end ≡ laid_out log.mib log.system tip.end done
  waits : Waits judge (flushed_to log mid.end) mid behind

split_at : (judge : Judge) (log : Log) (tip : Tip) (done behind : List Record) (mid : Tip) → 1 ≤ log.mib → IsEnd log.mib tip.end → log.touched ≤ mid.end → Waits judge log tip (done ++ behind)
    → IsChain judge log.mib tip done mid → Split judge log tip done behind mid
split_at judge log tip done behind mid some end touched w chain =
    let front : List ℕ = laid_out log.mib log.system tip.end done in
    let rest : List ℕ = laid_out log.mib log.system mid.end behind in
    let reach = chain_reach judge log.mib log.system tip done mid some end chain in
    let len : length front ≡ mid.end - log.flushed = omega (arith, reach.len, w.from) in
    let whole : log.pending ≡ front ++ rest = w.bytes ∙ laid_split judge log.mib log.system tip done behind mid chain in
    record {
      bytes = ap (take (mid.end - log.flushed)) whole ∙ take_at front rest (mid.end - log.flushed) len;
      waits = record {
        from = refl;
        chain = chain_behind judge log.mib tip done behind mid log.tip chain w.chain;
        bytes = ap (drop (mid.end - log.flushed)) whole ∙ drop_at front rest (mid.end - log.flushed) len;
        touched = λ lt. absurd (omega (arith, lt, touched));
      };
    }

-- ---- a flush

-- what a flush up to the end of these leaves
record Flushed (judge : Judge) (log : Log) (files : Files) (rs done behind : List Record) (mid : Tip) : Type 0 where
  known : IsKnown judge (flushed_to log mid.end) (after_flush log mid.end files) (rs ++ done) mid
  waits : Waits judge (flushed_to log mid.end) mid behind
  ended : HasNoGap log.mib (archive_of log.mib (after_flush log mid.end files)) mid.end → IsWal judge log.mib log.system (after_flush log mid.end files) (rs ++ done) mid

known_of : (judge : Judge) (log : Log) (files : Files) (rs : List Record) (mid : Tip) → IsKept judge log.mib log.system files rs mid mid.end → mid.end ≤ start_after log.mib mid.end → IsKnown judge (flushed_to log mid.end) files rs mid
known_of judge log files rs mid kept later = record { limit = mid.end; kept = kept; within = omega (arith, later) }

flushed_at : (judge : Judge) (log : Log) (files : Files) (rs : List Record) (tip : Tip) (done behind : List Record) (mid : Tip) → IsFair judge → IsLog log → (k : IsKnown judge log files rs tip) → log.touched ≤ mid.end
    → log.flushed < mid.end → Waits judge log tip (done ++ behind) → IsChain judge log.mib tip done mid → Flushed judge log files rs done behind mid
flushed_at judge log files rs tip [] behind mid fair is k touched some w chain = absurd (omega (arith, ap (λ (t : Tip). t.end) chain, w.from, some))
flushed_at judge log files rs tip (r ∷ news) behind mid fair is k touched some w chain =
    let mib : ℕ = log.mib in
    let least : 1 ≤ mib = is.segment.least in
    let end : IsEnd mib tip.end = (walk_reach judge mib log.system (archive_of mib files) (first_tip mib) rs tip least fair (origin_end mib) k.kept.walk).is_end in
    let s = split_at judge log tip (r ∷ news) behind mid least end touched w chain in
    let one = ending_of judge mib tip r least end chain.0 in
    let more = chain_reach judge mib log.system (tip_after tip r) news mid least one.is_end chain.1 in
    let covered : k.limit ≤ mid.end = omega (arith, k.within, touched, one.start, more.later) in
    let files_are : entries_written mib log.system tip (r ∷ news) files ≡ after_flush log mid.end files =
    ap (λ (l : List ℕ). archive_written mib (length l) tip.end l files) (sym s.bytes)
    ∙ ap (λ (n : ℕ). archive_written mib (length (to_flush log mid.end)) n (to_flush log mid.end) files) (sym w.from) in
    let kept = written_kept judge mib log.system files rs news r tip mid k.limit fair least is.segment.most is.system k.kept covered chain in
    record {
      known = known_of judge log (after_flush log mid.end files) (rs ++ (r ∷ news)) mid (subst (λ f. IsKept judge mib log.system f (rs ++ (r ∷ news)) mid mid.end) files_are kept) (start_later mib mid.end);
      waits = s.waits;
      ended = λ gap.
          subst (λ f. IsWal judge mib log.system f (rs ++ (r ∷ news)) mid) files_are
          (written_is_read judge mib log.system files rs news r tip mid k.limit fair least is.segment.most is.system k.kept covered chain (subst (λ f. HasNoGap mib (archive_of mib f) mid.end) (sym files_are) gap));
    }

pub flushed_is_kept : FlushedEntriesAreKept
flushed_is_kept judge log files rs waiting tip to fair is k w some among =
    let at : ℕ = flush_end log to in
    let p = parts_of judge log.mib tip waiting log.tip at w.chain (end_among judge log tip waiting to w some among) in
    let f = flushed_at judge log files rs tip p.done p.behind p.mid fair is k (omega (arith, p.place)) (omega (arith, p.place, some)) (subst (Waits judge log tip) p.all w) p.chain in
    record {
      done = p.done;
      behind = p.behind;
      mid = p.mid;
      all = p.all;
      place = p.place;
      known = subst (λ n. IsKnown judge (flushed_to log n) (after_flush log n files) (rs ++ p.done) p.mid) p.place f.known;
      waits = subst (λ n. Waits judge (flushed_to log n) p.mid p.behind) p.place f.waits;
      ended = subst (λ n. HasNoGap log.mib (archive_of log.mib (after_flush log n files)) n → IsWal judge log.mib log.system (after_flush log n files) (rs ++ p.done) p.mid) p.place f.ended;
    }

-- ---- where nothing waits

all_written : (judge : Judge) (log : Log) (tip : Tip) (waiting : List Record) → 1 ≤ log.mib → IsEnd log.mib tip.end → Waits judge log tip waiting → log.flushed ≡ log.tip.end → (waiting ≡ []) × (log.tip ≡ tip)
all_written judge log tip [] some end w none = (refl, w.chain)
all_written judge log tip (r ∷ rs) some end w none =
    let one = ending_of judge log.mib tip r some end w.chain.0 in
    let more = chain_reach judge log.mib log.system (tip_after tip r) rs log.tip some one.is_end w.chain.1 in
    absurd (omega (arith, one.later, more.later, none, w.from))

wal_there : (log : Log) (files : Files) (records stable waiting : List Record) (tip : Tip) → records ≡ stable ++ waiting → waiting ≡ [] → log.tip ≡ tip → IsWal record_at log.mib log.system files stable tip
    → IsWal record_at log.mib log.system files records log.tip
wal_there log files records stable waiting tip all none same wal =
    let rs : stable ≡ records = sym (all ∙ (ap (λ (l : List Record). stable ++ l) none ∙ append-nil stable)) in
    subst (λ t. IsWal record_at log.mib log.system files records t) (sym same) (subst (λ l. IsWal record_at log.mib log.system files l tip) rs wal)

pub kept_wal : KeptIsWal
kept_wal log files records is holds none gap =
    let end : IsEnd log.mib holds.tip.end =
    (walk_reach record_at log.mib log.system (archive_of log.mib files) (first_tip log.mib) holds.stable holds.tip is.segment.least record_is_fair (origin_end log.mib) holds.known.kept.walk).is_end in
    let w = all_written record_at log holds.tip holds.waiting is.segment.least end holds.waits none in
    let ends : log.tip.end ≡ holds.tip.end = ap (λ (t : Tip). t.end) w.1 in
    wal_there log files records holds.stable holds.waiting holds.tip holds.all w.0 w.1
    (holds.ended (omega (arith, is.touched, ends)) (subst (λ n. HasNoGap log.mib (archive_of log.mib files) n) ends gap))
