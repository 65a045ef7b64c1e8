-- What is known to be kept of an area, before an advance and behind it.
use Rattle.std.proofs.Common.{◌≡◌, inr, ℕ, List, Option, None, IfSome, Result, Ok, Err, IfOk, option_map, sym, ap, subst, ◌∙◌}
use Rattle.std.specs.Global.{Vec}
use Rattle.lsn_core.specs.Files.{Files}
use Rattle.vault.specs.Frame.{OnlyReads}
use Rattle.vault.specs.declared.area.Vault.{Ghosts}
use Rattle.history.specs.Entry.{Entry}
use Rattle.wal_summary.specs.declared.summary.Summary.{Summary}
use Rattle.wal_summary.specs.Kept.{AreInOrder}
use Rattle.summary_store.specs.Kept.{AreKept}
use Rattle.shared_summaries.specs.summary_publish.Published.{Advances, AreKnown, AreThose, AreListed, AreNow, ArePublished, IsAdvanced, files_then}
use Rattle.shared_summaries.specs.summary_publish.Partly.{AdvancesPartly, MayAdvance}
use Rattle.shared_summaries.specs.declared.summary_publish.known.Known.{Known}
use Rattle.shared_summaries.proofs.summary_publish.Going.{listed_read}

-- an area that was only read before
pub advances_read : {V : Type 0} (g : Ghosts V) (told : Type 0) (h : List Entry) (made limit : ℕ) (old mid new : V) (kept now : List Summary) (count : ℕ) → OnlyReads g old mid → Advances g told h made limit mid new kept now count → Advances g told h made limit old new kept now count
advances_read g told h made limit old mid new kept now count reads a = record {
  sums = a.sums;
  published = λ t. subst (λ (o : Option Files). IfSome o (λ m. ArePublished h made m kept a.sums)) reads.files (a.published t);
  counted = a.counted;
  kept_is = a.kept_is;
  files = a.files ∙ ap (option_map (files_then limit kept a.sums)) reads.files;
  durable = a.durable;
}

pub all_read : {V E : Type 0} (g : Ghosts V) (told : Type 0) (h : List Entry) (made limit : ℕ) (old mid new : V) (kept now : List Summary) (r : Result ℕ E) → OnlyReads g old mid → IfOk r (Advances g told h made limit mid new kept now) → IfOk r (Advances g told h made limit old new kept now)
all_read g told h made limit old mid new kept now (Ok count) reads a = advances_read g told h made limit old mid new kept now count reads a
all_read g told h made limit old mid new kept now (Err fault) reads a = tt

pub known_published : {V E : Type 0} (g : Ghosts V) (told : Type 0) (h : List Entry) (made limit : ℕ) (old new : V) (before known : Known) (kept now : List Summary) (r : Result ℕ E) → AreKnown (g.files old) before kept → AreListed (g.files old) kept → AreNow known now
    → IfOk r (Advances g told h made limit old new kept now) → IfOk r (IsAdvanced g told h made limit old new before known)
known_published g told h made limit old new before known kept now (Ok count) is listed now_is a = record {
  kept = kept;
  known_before = is;
  listed = listed;
  now = now;
  known_now = now_is;
  advances = a;
}
known_published g told h made limit old new before known kept now (Err fault) is listed now_is a = tt

pub known_left : (told : Type 0) (h : List Entry) (made limit : ℕ) (old new : Option Files) (before known : Known) (kept now : List Summary) → AreKnown old before kept → AreListed old kept → AreNow known now → AdvancesPartly told h made limit old new kept now → MayAdvance told h made limit old new before known
known_left told h made limit old new before known kept now is listed now_is p = inr (record {
  kept = kept;
  known_before = is;
  listed = listed;
  now = now;
  known_now = now_is;
  advances = p;
})

-- the area was read now
pub read_those : {E : Type 0} (files : Option Files) (r : Result (Vec Summary) E) (known : Option (Vec Summary)) → known ≡ None → IfOk r (λ kept. IfSome files (λ m. AreKept m kept.items)) → IfOk r (λ kept. AreThose files kept.items known)
read_those files (Ok kept) known is held = subst (AreThose files kept.items) (sym is) held
read_those files (Err fault) known is held = tt

pub read_listed : {E : Type 0} (files : Option Files) (r : Result (Vec Summary) E) → IfOk r (λ kept. IfSome files (λ m. AreKept m kept.items)) → IfOk r (λ kept. AreInOrder 0 kept.items) → IfOk r (λ kept. AreListed files kept.items)
read_listed files (Ok kept) held order = listed_read files kept.items held order
read_listed files (Err fault) held order = tt

pub left_read : (told : Type 0) (h : List Entry) (made limit : ℕ) (old mid new : Option Files) (kept now : List Summary) → mid ≡ old → AdvancesPartly told h made limit mid new kept now → AdvancesPartly told h made limit old new kept now
left_read told h made limit old mid new kept now same p = subst (λ (o : Option Files). AdvancesPartly told h made limit o new kept now) same p

pub listed_same : (old mid : Option Files) (kept : List Summary) → mid ≡ old → AreListed old kept → AreListed mid kept
listed_same old mid kept same listed = subst (λ (o : Option Files). AreListed o kept) (sym same) listed
