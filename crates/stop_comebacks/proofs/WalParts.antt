-- What a stop leaves of a WAL that is flushed up to a place.
use Rattle.std.proofs.Common.{◌≡◌, ℕ, ◌≤◌, inl, inr, List, [], ◌∷◌, Some, refl, sym, ap, subst, ◌∙◌, arith}
use Rattle.std.proofs.lemmas.Bool.{cases_lt}
use Rattle.lsn_core.specs.Tip.{Tip}
use Rattle.wal_pages.specs.Places.{start_after}
use Rattle.wal_record.specs.Decoding.{record_at}
use Rattle.wal_record.specs.Tips.{first_tip, tip_after}
use Rattle.wal_record.specs.declared.record.Record.{Record}
use Rattle.wal_archive.specs.Archive.{archive_of, Extends}
use Rattle.wal_archive.specs.Stands.{IsEnd}
use Rattle.wal_archive.specs.Writing.{IsChain}
use Rattle.wal_archive.proofs.Chain.{walk_reach, walks_extended, ending_of}
use Rattle.wal_archive.proofs.Files.{files_archive}
use Rattle.wal_archive.proofs.Judged.{record_is_fair}
use Rattle.wal_archive.proofs.Next.{start_of}
use Rattle.wal_archive.proofs.Read.{origin_end, chain_reach}
use Rattle.stop_comebacks.specs.Laws.{StopsLeaveWals}

-- where the next entry would start, it is at the last one's end or behind it
next_past : (mib : ℕ) (tip last : Tip) (rs : List Record) → 1 ≤ mib → IsEnd mib tip.end → IsChain record_at mib tip rs last → start_after mib tip.end ≤ start_after mib last.end
next_past mib tip last [] some end chain = omega (arith, ap (λ (t : Tip). start_after mib t.end) chain)
next_past mib tip last (r ∷ rs) some end chain =
    let behind = ending_of record_at mib tip r some end chain.0 in
    let reach = chain_reach record_at mib 0 (tip_after tip r) rs last some behind.is_end chain.1 in
    let next = start_of mib last.end some reach.is_end in
    let a = behind.start in
    let b = reach.later in
    let c = next.later in
    let d = next.is in
    omega (arith, a, b, c, d)

pub wals_left : StopsLeaveWals
wals_left log files left stable waiting tip is known waits holds rest chance =
    let kept = known.kept in
    let size = is.segment in
    let a = archive_of log.mib files in
    let is_end : IsEnd log.mib tip.end = (walk_reach record_at log.mib log.system a (first_tip log.mib) stable tip size.least record_is_fair (origin_end log.mib) kept.walk).is_end in
    let last_end : IsEnd log.mib log.tip.end = (chain_reach record_at log.mib log.system tip waiting log.tip size.least is_end waits.chain).is_end in
    record {
      stable = stable;
      waiting = waiting;
      parts = refl;
      tip = tip;
      last = log.tip;
      read = walks_extended record_at log.mib log.system a (archive_of log.mib left) (first_tip log.mib) stable tip size.least record_is_fair (files_archive log.mib left size.least) (origin_end log.mib)
          (subst (Extends a (archive_of log.mib left)) waits.from holds) kept.walk;
      reached = (let from = waits.from in omega (arith, from));
      chain = waits.chain;
      chance = chance;
      zeros = λ x b held more.
          let next = start_of log.mib log.tip.end size.least last_end in
          let later = next.later in
          let start = next.is in
          elim (cases_lt x log.tip.end) [
            | inl before ↦ omega (arith, before, later, start)
            | inr past ↦
                let old : (archive_of log.mib files).byte x ≡ Some b = sym (rest.bytes x past) ∙ held in
                let below = kept.zeros x b old more in
                let within = known.within in
                let touched = is.touched in
                let next_is = next_past log.mib tip log.tip waiting size.least is_end waits.chain in
                omega (arith, below, within, touched, next_is, later, start)
          ];
    }
