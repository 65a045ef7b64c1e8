-- Entries that wait: one more, some of them flushed, and read then.
use Rattle.std.proofs.Common.{◌≡◌, ℕ, ◌-◌, ◌<◌, ◌≤◌, max, List, [], ◌∷◌, ◌++◌, length, take, drop, refl, sym, ap, subst, ◌∙◌, arith, append_assoc, inl, inr}
use Rattle.std.proofs.lemmas.Bool.{cases_lt}
use Rattle.std.proofs.lemmas.List.{append-nil, take_at, drop_at}
use Rattle.lsn_core.specs.Files.{Files}
use Rattle.lsn_core.specs.Tip.{Tip}
use Rattle.wal_pages.specs.Spread.{spread}
use Rattle.wal_record.specs.Spelling.{sealed}
use Rattle.wal_record.specs.Tips.{first_tip, tip_after}
use Rattle.wal_record.specs.declared.record.Record.{Record}
use Rattle.wal_archive.specs.Archive.{archive_of}
use Rattle.wal_archive.specs.Rules.{Judge, IsWal}
use Rattle.wal_archive.specs.Stands.{IsEnd}
use Rattle.wal_archive.specs.Writing.{IsNext, IsChain, laid_out, archive_written}
use Rattle.wal_archive.specs.Laws.{IsFair, HasNoGap, entries_written}
use Rattle.wal_archive.proofs.Chain.{ending_of, walk_reach}
use Rattle.wal_archive.proofs.Read.{chain_reach, origin_end, written_is_read}
use Rattle.wal_writer.specs.Log.{Log, IsLog, appended, flush_end, to_flush, flushed_to, touched_to}
use Rattle.wal_writer.specs.Answers.{after_flush}
use Rattle.wal_writer.specs.Laws.{IsEndAmong, Waits, IsKnown, IsFlushed}

chain_push : (judge : Judge) (mib : ℕ) (tip : Tip) (rs : List Record) (r : Record) (mid : Tip)
    → IsChain judge mib tip rs mid → IsNext judge mib mid r → IsChain judge mib tip (rs ++ (r ∷ []))
    (tip_after mid r)
chain_push judge mib tip [] r mid chain next = (
  subst (λ t. IsNext judge mib t r) chain next,
  ap (λ t. tip_after t r) chain,
)
chain_push judge mib tip (q ∷ rs) r mid chain next = (
  chain.0,
  chain_push judge mib
      (tip_after tip q) rs r mid chain.1 next,
)

-- entries laid out in two parts
laid_split : (judge : Judge) (mib system : ℕ) (tip : Tip) (rs qs : List Record) (mid : Tip)
    → IsChain judge mib tip rs mid → laid_out mib system tip.end (rs ++ qs) ≡ laid_out mib system
    tip.end rs ++ laid_out mib system mid.end qs
laid_split judge mib system tip [] qs mid chain = ap (λ (t : Tip). laid_out mib system t.end qs)
    (sym chain)
laid_split judge mib system tip (r ∷ rs) qs mid chain =
    ap (λ l. spread mib system tip.end (sealed r) ++ l) (laid_split judge mib system
    (tip_after tip r) rs qs mid chain.1) ∙ sym (append_assoc (spread mib system tip.end
    (sealed r)) (laid_out mib system r.end.0 rs) (laid_out mib system mid.end qs))

chain_behind : (judge : Judge) (mib : ℕ) (tip : Tip) (rs qs : List Record) (mid last : Tip)
    → IsChain judge mib tip rs mid → IsChain judge mib tip (rs ++ qs) last
    → IsChain judge mib mid qs last
chain_behind judge mib tip [] qs mid last chain whole = subst (λ t. IsChain judge mib t qs last)
    (sym chain) whole
chain_behind judge mib tip (r ∷ rs) qs mid last chain whole = chain_behind judge mib
    (tip_after tip r) rs qs mid last chain.1 whole.1

among_more : (tip : Tip) (rs : List Record) (r : Record) (at : ℕ) → IsEndAmong tip rs at
    → IsEndAmong tip (rs ++ (r ∷ [])) at
among_more tip [] r at among = inl among
among_more tip (q ∷ rs) r at (inl here) = inl here
among_more tip (q ∷ rs) r at (inr later) = inr (among_more (tip_after tip q) rs r at later)

pub waits_more : (judge : Judge) (log : Log) (tip : Tip) (waiting : List Record) (r : Record)
    → Waits judge log tip waiting → IsNext judge log.mib log.tip r → Waits judge (appended log r)
    tip (waiting ++ (r ∷ []))
waits_more judge log tip waiting r w next = record {
  from = w.from;
  chain = chain_push judge log.mib tip waiting r log.tip w.chain next;
  bytes = ap (λ l. l ++ spread log.mib log.system log.tip.end (sealed r)) w.bytes
      ∙ sym (laid_split judge log.mib log.system tip waiting (r ∷ []) log.tip w.chain
      ∙ ap (λ l. laid_out log.mib log.system tip.end waiting ++ l)
      (append-nil (spread log.mib log.system log.tip.end (sealed r))));
  touched = λ lt. among_more tip waiting r log.touched (w.touched lt);
}

-- where a flush ends, an entry does
end_among : (judge : Judge) (log : Log) (tip : Tip) (waiting : List Record) (to : ℕ)
    → Waits judge log tip waiting → log.flushed < to → IsEndAmong tip waiting to
    → IsEndAmong tip waiting (flush_end log to)
end_among judge log tip waiting to w some among =
    elim (cases_lt to log.touched) [
      | inl lt ↦ subst (IsEndAmong tip waiting) (let e : log.touched ≡ max to log.touched =
          omega (arith, lt) in e) (w.touched (omega (arith, lt, some)))
      | inr le ↦ subst (IsEndAmong tip waiting) (let e : to ≡ max to log.touched =
          omega (arith, le) in e) among
    ]

pub waits_still : (judge : Judge) (log : Log) (tip : Tip) (waiting : List Record) (to : ℕ)
    → Waits judge log tip waiting → log.flushed < to → IsEndAmong tip waiting to
    → Waits judge (touched_to log (flush_end log to)) tip waiting
waits_still judge log tip waiting to w some among = record {
  from = w.from;
  chain = w.chain;
  bytes = w.bytes;
  touched = λ lt. subst (IsEndAmong tip waiting) (let e : max to log.touched ≡ max log.touched
      (max to log.touched) = omega arith in e) (end_among judge log tip waiting to w some among);
}

-- the entries up to an end, and those behind it
record Parts (judge : Judge) (mib : ℕ) (tip : Tip) (rs : List Record) (at : ℕ) : Type 0 where
  done : List Record
  behind : List Record
  mid : Tip
  all : rs ≡ done ++ behind
  place : mid.end ≡ at
  chain : IsChain judge mib tip done mid

parts_of : (judge : Judge) (mib : ℕ) (tip : Tip) (rs : List Record) (last : Tip) (at : ℕ)
    → IsChain judge mib tip rs last → IsEndAmong tip rs at → Parts judge mib tip rs at
parts_of judge mib tip [] last at chain here = record {
  done = [];
  behind = [];
  mid = tip;
  all = refl;
  place = sym here;
  chain = refl;
}
parts_of judge mib tip (r ∷ rs) last at chain (inl here) = record {
  done = [];
  behind = r ∷ rs;
  mid = tip;
  all = refl;
  place = sym here;
  chain = refl;
}
parts_of judge mib tip (r ∷ rs) last at chain (inr later) =
    let p = parts_of judge mib (tip_after tip r) rs last at chain.1 later in
    record {
      done = r ∷ p.done;
      behind = p.behind;
      mid = p.mid;
      all = ap (λ l. r ∷ l) p.all;
      place = p.place;
      chain = (chain.0, p.chain);
    }

-- what is flushed is the entries up to the place, and the others wait behind
record Split (judge : Judge) (log : Log) (tip : Tip) (done behind : List Record) (mid : Tip) : Type
    0 where
  bytes : to_flush log mid.end ≡ laid_out log.mib log.system tip.end done
  waits : Waits judge (flushed_to log mid.end) mid behind

split_at : (judge : Judge) (log : Log) (tip : Tip) (done behind : List Record) (mid : Tip)
    → 1 ≤ log.mib → IsEnd log.mib tip.end → log.touched ≤ mid.end → Waits judge log tip
    (done ++ behind) → IsChain judge log.mib tip done mid → Split judge log tip done behind mid
split_at judge log tip done behind mid some end touched w chain =
    let front : List ℕ = laid_out log.mib log.system tip.end done in
    let rest : List ℕ = laid_out log.mib log.system mid.end behind in
    let reach = chain_reach judge log.mib log.system tip done mid some end chain in
    let len : length front ≡ mid.end - log.flushed = omega (arith, reach.len, w.from) in
    let whole : log.pending ≡ front ++ rest = w.bytes ∙ laid_split judge log.mib log.system tip done
    behind mid chain in
    record {
      bytes = ap (take (mid.end - log.flushed)) whole ∙ take_at front rest (mid.end - log.flushed)
          len;
      waits = record {
        from = refl;
        chain = chain_behind judge log.mib tip done behind mid log.tip chain w.chain;
        bytes = ap (drop (mid.end - log.flushed)) whole ∙ drop_at front rest (mid.end - log.flushed)
            len;
        touched = λ lt. absurd (omega (arith, lt, touched));
      };
    }

flushed_at : (judge : Judge) (log : Log) (files : Files) (rs : List Record) (tip : Tip)
    (done behind : List Record) (mid : Tip) → IsFair judge → IsLog log
    → (k : IsKnown judge log files rs tip) → log.touched ≤ mid.end → log.flushed < mid.end
    → Waits judge log tip (done ++ behind) → IsChain judge log.mib tip done mid → HasNoGap log.mib
    (archive_of log.mib (after_flush log mid.end files)) mid.end
    → IsWal judge log.mib log.system (after_flush log mid.end files) (rs ++ done) mid × Waits judge
    (flushed_to log mid.end) mid behind
flushed_at judge log files rs tip [] behind mid fair is k touched some w chain gap =
    absurd (omega (arith, ap (λ (t : Tip). t.end) chain, w.from, some))
flushed_at judge log files rs tip (r ∷ news) behind mid fair is k touched some w chain gap =
    let mib : ℕ = log.mib in
    let least : 1 ≤ mib = is.segment.least in
    let end : IsEnd mib tip.end = (walk_reach judge mib log.system (archive_of mib files)
    (first_tip mib) rs tip least fair (origin_end mib) k.kept.walk).is_end in
    let s = split_at judge log tip (r ∷ news) behind mid least end touched w chain in
    let one = ending_of judge mib tip r least end chain.0 in
    let more = chain_reach judge mib log.system (tip_after tip r) news mid least one.is_end chain.1
    in
    let covered : k.limit ≤ mid.end = omega (arith, k.within, touched, one.start, more.later) in
    let files_are : entries_written mib log.system tip (r ∷ news) files ≡ after_flush log mid.end
    files =
    ap (λ (l : List ℕ). archive_written mib (length l) tip.end l files) (sym s.bytes)
    ∙ ap (λ (n : ℕ). archive_written mib (length (to_flush log mid.end)) n
    (to_flush log mid.end) files) (sym w.from) in
    let read = written_is_read judge mib log.system files rs news r tip mid k.limit fair least
    is.segment.most is.system k.kept covered chain (subst (λ f. HasNoGap mib (archive_of mib f)
    mid.end) (sym files_are) gap) in
    (subst (λ f. IsWal judge mib log.system f (rs ++ (r ∷ news)) mid) files_are read, s.waits)

pub flushed_is_read : (judge : Judge) (log : Log) (files : Files) (rs waiting : List Record)
    (tip : Tip) (to : ℕ) → IsFair judge → IsLog log → IsKnown judge log files rs tip
    → Waits judge log tip waiting → log.flushed < to → IsEndAmong tip waiting to
    → HasNoGap log.mib (archive_of log.mib (after_flush log (flush_end log to) files))
    (flush_end log to) → IsFlushed judge log files rs waiting tip (flush_end log to)
flushed_is_read judge log files rs waiting tip to fair is k w some among gap =
    let at : ℕ = flush_end log to in
    let p = parts_of judge log.mib tip waiting log.tip at w.chain (end_among judge log tip waiting
    to w some among) in
    let f = flushed_at judge log files rs tip p.done p.behind p.mid fair is k
    (omega (arith, p.place)) (omega (arith, p.place, some)) (subst (Waits judge log tip) p.all
    w) p.chain (subst (λ n. HasNoGap log.mib (archive_of log.mib (after_flush log n files)) n)
    (sym p.place) gap) in
    record {
      done = p.done;
      behind = p.behind;
      mid = p.mid;
      all = p.all;
      place = p.place;
      chain = p.chain;
      read = subst (λ n. IsWal judge log.mib log.system (after_flush log n files) (rs ++ p.done)
          p.mid) p.place f.0;
      waits = subst (λ n. Waits judge (flushed_to log n) p.mid p.behind) p.place f.1;
    }
