-- By this a proof tells followers apart.
use Rattle.std.specs.Prelude.{ℕ, Bool, List, Option}
use Rattle.std.specs.Coded.{Coded, code_by, coded×, coded_list, coded_option, coded_ℕ, coded_bool}
use mathlib.Core.Path.{refl}
use Rattle.lsn_core.specs.Store.{Store}
use Rattle.history.specs.Pages.{store_code}
use Rattle.wal_follow.specs.declared.fault.FollowFault.{FollowFault}
use Rattle.wal_follow.specs.contracts.fault.FollowFault.{the_row}
use Rattle.wal_follow.specs.Following.{Following}

-- the numbers of the tip, those of the window, and the rest, as pairs
abbrev pub TipNumbers : Type 0
TipNumbers = ℕ × (ℕ × (ℕ × ℕ))

abbrev pub SpanParts : Type 0
SpanParts = ℕ × (ℕ × (List ℕ × ℕ))

abbrev pub FollowRest : Type 0
FollowRest = (ℕ × List ℕ) × (Store × (Bool × Option FollowFault))

abbrev pub tip_code : Coded TipNumbers
tip_code = coded× coded_ℕ (coded× coded_ℕ (coded× coded_ℕ coded_ℕ))

abbrev pub span_code : Coded SpanParts
span_code = coded× coded_ℕ (coded× coded_ℕ (coded× (coded_list coded_ℕ) coded_ℕ))

abbrev pub follow_rest_code : Coded FollowRest
follow_rest_code =
    coded× (coded× coded_ℕ (coded_list coded_ℕ))
    (coded× store_code (coded× coded_bool (coded_option the_row.coded)))

abbrev pub tip_numbers : Following → TipNumbers
tip_numbers f = (f.tip.end, (f.tip.prev, (f.tip.redo, f.tip.count)))

abbrev pub span_parts : Following → SpanParts
span_parts f = (f.span.mib, (f.span.base, (f.span.bytes, f.span.zeros)))

abbrev pub rest_of : Following → FollowRest
rest_of f = ((f.relseg, f.front), (f.store, (f.ended, f.fault)))

abbrev pub following_of : TipNumbers → SpanParts → FollowRest → Following
following_of t s r = record {
  relseg = r.0.0;
  front = r.0.1;
  tip = record { end = t.0; prev = t.1.0; redo = t.1.1.0; count = t.1.1.1 };
  store = r.1.0;
  span = record { mib = s.0; base = s.1.0; bytes = s.1.1.0; zeros = s.1.1.1 };
  ended = r.1.1.0;
  fault = r.1.1.1;
}

abbrev pub following_code : Coded Following
following_code =
    code_by (TipNumbers × (SpanParts × FollowRest))
    (coded× tip_code (coded× span_code follow_rest_code))
    (λ f. (tip_numbers f, (span_parts f, rest_of f))) (λ t. following_of t.0 t.1.0 t.1.1)
    (λ _. refl)
