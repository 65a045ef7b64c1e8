-- What a listener hears of the entries that a replay reads.
use Rattle.std.proofs.Common.{◌≡◌, ℕ, ◌+◌, ◌<◌, ◌≤◌, ◌^◌, List, [], ◌∷◌, ◌++◌, length, Option, Some, None, Ok, IfSome, map, refl, sym, ap, subst, ◌∙◌, arith}
use Rattle.std.specs.Option.{option_map}
use Rattle.std.proofs.lemmas.List.{append-nil, append_assoc, length-map}
use Rattle.lsn_core.specs.Segment.{StoreSettings}
use Rattle.lsn_core.specs.Tip.{Tip}
use Rattle.lsn_core.specs.declared.lsn.Lsn.{Lsn}
use Rattle.lsn_core.specs.declared.pages.Pages.{Ghosts as PagesGhosts}
use Rattle.vault.specs.Frame.{OnlyReads}
use Rattle.vault.specs.declared.area.Vault.{Ghosts}
use Rattle.wal_record.specs.declared.record.Record.{Record}
use Rattle.wal_record.specs.Tips.{tip_after, tip_behind, IsWithin}
use Rattle.wal_reader.specs.Cursor.{Cursor}
use Rattle.history.specs.Entry.{Entry}
use Rattle.history.specs.Whole.{entry_of}
use Rattle.recovery.specs.declared.listener.Listener.{Ghosts as ListenerGhosts}
use Rattle.recovery.specs.declared.replaying.Replayed.{Replayed}
use Rattle.recovery.specs.declared.replaying.Progress.{Progress}
use Rattle.recovery.specs.declared.reading.Beginning.{Beginning}
use Rattle.recovery.specs.declared.reading.Beginning.TheVariants.{FirstEntry, AtPlace}
use Rattle.recovery.specs.declared.tally.Tally.{Tally}
use Rattle.recovery.specs.Onward.{begin_tip, is_at_place, is_set_behind, StandsWithin}
use Rattle.recovery.specs.Replayed.{IsHeard}
use Rattle.recovery.specs.Inside.{StepsTo, Takes, IsFinished, IsRedoneFrom}
use Rattle.recovery.proofs.SoFar.{map_push}
use Rattle.recovery.proofs.Replays.{Keeps, next_kept, recovered_at}
use Rattle.recovery.proofs.Stepping.{IsAllRead}

-- ---- lists that grow, where they are told

nothing_more : (o : Option (List Entry)) → o ≡ option_map (λ es. es ++ []) o
nothing_more None = refl
nothing_more (Some es) = ap (λ (x : List Entry). Some x) (sym (append-nil es))

more_behind : (o mid new : Option (List Entry)) (xs ys zs : List Entry) → zs ≡ xs ++ ys → mid ≡ option_map (λ es. es ++ xs) o → new ≡ option_map (λ es. es ++ ys) mid → new ≡ option_map (λ es. es ++ zs) o
more_behind None mid new xs ys zs all first then = then ∙ ap (option_map (λ (es : List Entry). es ++ ys)) first
more_behind (Some es) mid new xs ys zs all first then =
    then ∙ (ap (option_map (λ (es : List Entry). es ++ ys)) first ∙ ap (λ (x : List Entry). Some x) (append_assoc es xs ys ∙ ap (λ (x : List Entry). es ++ x) (sym all)))

few_told : (o now : Option (List Entry)) (xs : List Entry) → IfSome o (λ es. es ≡ []) → now ≡ option_map (λ es. es ++ xs) o → length xs < 2 ^ 50 → IfSome now (λ es. length es < 2 ^ 50)
few_told None now xs none is few = subst (λ (o : Option (List Entry)). IfSome o (λ es. length es < 2 ^ 50)) (sym is) tt
few_told (Some es) now xs none is few =
    subst (λ (o : Option (List Entry)). IfSome o (λ es. length es < 2 ^ 50)) (sym is) (subst (λ (x : List Entry). length (x ++ xs) < 2 ^ 50) (sym none) few)

-- ---- as many as a WAL has room for

count_behind : (tip : Tip) (rs : List Record) → (tip_behind tip rs).count ≡ tip.count + length rs
count_behind tip [] = omega arith
count_behind tip (r ∷ rs) = (let h = count_behind (tip_after tip r) rs in omega (arith, h))

few_within : (mib : ℕ) (begin : Beginning) (rs : List Record) → mib ≤ 1024 → IsWithin mib (tip_behind (begin_tip mib begin) rs) → length (map entry_of rs) < 2 ^ 50
few_within mib begin rs most within =
    let counted = count_behind (begin_tip mib begin) rs in
    let same : length (map entry_of rs) ≡ length rs = length-map rs entry_of in
    omega (arith, most, within.count, within.most, counted, same)

few_read : (mib : ℕ) (begin : Beginning) (tip : Tip) (rs : List Record) → mib ≤ 1024 → StandsWithin mib (is_set_behind (is_at_place begin) rs) tip → tip ≡ tip_behind (begin_tip mib begin) rs → length (map entry_of rs) < 2 ^ 50
few_read mib FirstEntry tip rs most within is = few_within mib FirstEntry rs most (subst (IsWithin mib) is within)
few_read mib (AtPlace from) tip [] most within is = omega arith
few_read mib (AtPlace from) tip (r ∷ rs) most within is = few_within mib (AtPlace from) (r ∷ rs) most (subst (IsWithin mib) is within)

-- ---- the loop

module _ {V P L : Type 0} (g : Ghosts V) (p : PagesGhosts P) (l : ListenerGhosts L) where
  -- the listener heard what was read
  pub record KeepsHeard (s : StoreSettings) (begin : Beginning) (upto : Option Lsn) (counted : Tally) (old now : V) (before behind : P) (ear heard : L) (cursor : Cursor) (progress : Progress) : Type 0 where
    pub done : Keeps g p s begin upto counted old now before behind cursor progress
    pub told : IsHeard l.heard done.entries ear heard

  pub none_heard : (s : StoreSettings) (begin : Beginning) (upto : Option Lsn) (counted : Tally) (old : V) (before : P) (ear : L) (cursor : Cursor) (progress : Progress) (done : Keeps g p s begin upto counted old old before before cursor progress) → done.entries ≡ []
      → KeepsHeard s begin upto counted old old before before ear ear cursor progress
  none_heard s begin upto counted old before ear cursor progress done none = record {
    done = done;
    told = subst (λ (rs : List Record). IsHeard l.heard rs ear ear) (sym none) (nothing_more (l.heard ear));
  }

  pub room_left : (s : StoreSettings) (begin : Beginning) (upto : Option Lsn) (counted : Tally) (old now : V) (before behind : P) (ear heard : L) (cursor : Cursor) (progress : Progress) → IfSome (l.heard ear) (λ es. es ≡ [])
      → KeepsHeard s begin upto counted old now before behind ear heard cursor progress → IfSome (l.heard heard) (λ es. length es < 2 ^ 50)
  room_left s begin upto counted old now before behind ear heard cursor progress none kept =
      few_told (l.heard ear) (l.heard heard) (map entry_of kept.done.entries) none kept.told (few_read s.segment begin cursor.tip kept.done.entries kept.done.read.mib kept.done.read.within kept.done.read.so_far.tip_is)

  pub next_heard : (s : StoreSettings) (begin : Beginning) (upto : Option Lsn) (counted : Tally) (old now later : V) (before mid behind : P) (ear heard hears : L) (c new : Cursor) (progress next : Progress) (r : Record) → KeepsHeard s begin upto counted old now before mid ear heard c progress
      → StepsTo g s.segment upto c new now later (Ok (Some r)) → OnlyReads g now later → Takes p.shows upto r mid behind progress next → p.keeps before behind → p.faults mid ≤ p.faults behind → IsHeard l.heard (r ∷ []) heard hears
      → KeepsHeard s begin upto counted old later before behind ear hears new next
  unfolding next_kept
  next_heard s begin upto counted old now later before mid behind ear heard hears c new progress next r kept answer reads takes keeps more told = record {
    done = next_kept g p s begin upto counted old now later before mid behind c new progress next r kept.done answer reads takes keeps more;
    told = more_behind (l.heard ear) (l.heard heard) (l.heard hears) (map entry_of kept.done.entries) (map entry_of (r ∷ [])) (map entry_of (kept.done.entries ++ (r ∷ []))) (map_push kept.done.entries r) kept.told told;
  }

  -- ---- the answer

  pub heard_at : (s : StoreSettings) (begin : Beginning) (upto : Option Lsn) (counted : Tally) (old now : V) (before behind : P) (ear heard : L) (tip : Tip) (cursor : Cursor) (progress : Progress) (replayed : Replayed) (kept : KeepsHeard s begin upto counted old now before behind ear heard cursor progress)
      → IsAllRead g s begin upto old tip kept.done.entries → IsFinished upto tip progress replayed → IsRedoneFrom p l s (g.files old) begin upto counted before behind ear heard replayed
  unfolding recovered_at
  heard_at s begin upto counted old now before behind ear heard tip cursor progress replayed kept all done = record {
    recovered = recovered_at g p s begin upto counted old before behind tip kept.done.entries progress replayed all kept.done.replayed done;
    rising = all.so_far.rising;
    heard = kept.told;
  }
