-- What a pass knows of the beginning of a history.
use Rattle.std.proofs.Common.{◌≡◌, ℕ, ◌<◌, ◌==◌, List, [], ◌∷◌, ◌++◌, map, length, sym, ◌∙◌, arith}
use Rattle.std.specs.List.{list_any}
use Rattle.std.proofs.lemmas.Bool.{eq-eqb}
use Rattle.lsn_core.specs.Segment.{segment_bytes}
use Rattle.wal_pages.specs.Places.{start_after}
use Rattle.wal_record.specs.declared.record.Record.{Record}
use Rattle.history.specs.Entry.{Entry}
use Rattle.history.specs.Whole.{entry_of}
use Rattle.journal.specs.Lawful.{IsLawful}
use Rattle.journal.proofs.Stands.{lawful_orderly}
use Rattle.history.specs.fuzzy_copies.Orderly.{IsOrderly}
use Rattle.store_locks.specs.Records.{is_place_of, IsPlaceOf}
use Rattle.shared_summaries.specs.summary_publish.Entries.{first_start}
use Rattle.shared_summaries.proofs.summary_publish.Ranges.{or_left}

-- what was seen stands in order
pub orderly_now : (tells : Type 0) (mib : ℕ) (list : List Entry) → (tells → IsLawful mib list) → tells → IsOrderly 0 list
orderly_now tells mib list lawful t = lawful_orderly mib list (lawful t)

none_found : (found : List Record) (own : List Entry) → 0 < length found → [] ≡ map entry_of found ++ own → ⊥
none_found [] own some e = omega (arith, some)
none_found (x ∷ found) own some e = cc

-- where its first entry starts
pub record IsFirst (history : List Entry) (place : ℕ) : Type 0 where
  pub first : place ≡ first_start history
  pub there : IsPlaceOf history place

pub first_of : (mib place : ℕ) (history : List Entry) → IsLawful mib history → place ≡ start_after mib (segment_bytes mib) → IsFirst history place
first_of mib place [] lawful e = absurd (none_found lawful.found lawful.own lawful.some lawful.grown)
first_of mib place (x ∷ xs) lawful e =
    let same : x.start ≡ place = lawful.places.0 ∙ sym e in
    record {
      first = sym same;
      there = or_left (is_place_of place x) (list_any (is_place_of place) xs) (or_left (x.start == place) (x.end == place) (eq-eqb x.start place same));
    }
