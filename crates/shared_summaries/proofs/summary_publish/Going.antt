-- Where publishing goes on behind a call.
use Rattle.std.proofs.Common.{◌≡◌, inl, inr, ℕ, ◌≤◌, List, [], ◌∷◌, ◌++◌, Option, Some, None, IfSome, sym, subst, arith}
use mathlib.Core.List.{IsPrefix}
use Rattle.lsn_core.specs.Files.{Files}
use Rattle.vault.specs.Area.{Related}
use Rattle.history.specs.Entry.{Entry}
use Rattle.wal_summary.specs.declared.summary.Summary.{Summary}
use Rattle.wal_summary.specs.Kept.{AreInOrder}
use Rattle.summary_store.specs.Kept.{AreKept, end_behind}
use Rattle.summary_store.specs.Expiry.{AreHeld, MayExpire}
use Rattle.shared_summaries.specs.summary_publish.Published.{GoesOnFrom, AreListed, with_files}
use Rattle.shared_summaries.specs.summary_publish.Partly.{LeavesFiles, LeavesFirst, AdvancesPartly}
use Rattle.shared_summaries.specs.declared.summary_publish.known.Known.{Known}
use Rattle.shared_summaries.proofs.summary_publish.Holding.{read_held, held_files, held_torn, order_on}
use Rattle.shared_summaries.proofs.summary_publish.Adding.{end_append}
use Rattle.shared_summaries.proofs.summary_publish.KeptFiles.{end_from}
use Rattle.shared_summaries.proofs.summary_publish.Later.{place_stays}

pub goes_later : (told : Type 0) (h g : List Entry) (files : Option Files) (known : Known) → IsPrefix h g → GoesOnFrom told h files known → GoesOnFrom told g files known
goes_later told h g files known prefix goes = record {
  at = λ t. place_stays known.place.0 h g (goes.at t) prefix;
  kept = goes.kept;
}

-- what is kept was read
pub listed_read : (files : Option Files) (kept : List Summary) → IfSome files (λ m. AreKept m kept) → AreInOrder 0 kept → AreListed files kept
listed_read None kept held order = record { held = tt; order = order }
listed_read (Some m) kept held order = record { held = read_held m kept held; order = order }

-- behind a publishing, wholly or in part, and behind an expiry
left_held : (told : Type 0) (h : List Entry) (made place : ℕ) (old new : Files) (kept sums : List Summary) → AreInOrder 0 (kept ++ sums) → end_behind 0 (kept ++ sums) ≤ place → AreHeld (with_files sums old) (kept ++ sums) → LeavesFiles told h made place sums old new → AreHeld new (kept ++ sums)
left_held told h made place old new kept sums order le held (inl same) = subst (λ m. AreHeld m (kept ++ sums)) (sym same) held
left_held told h made place old new kept sums order le held (inr torn) = held_torn (with_files sums old) new torn.0 place (kept ++ sums) torn.3 torn.1 order le torn.4 held

from_place : (ys : List Summary) (total low place : ℕ) → total ≡ end_behind low ys → low ≤ place → total ≤ end_behind place ys
from_place [] total low place e le = omega (arith, e, le)
from_place (y ∷ ys) total low place e le = omega (arith, e)

pub first_listed : (told : Type 0) (h : List Entry) (made first : ℕ) (old new : Option Files) (kept now : List Summary) → LeavesFirst told h made first old new kept now → AreListed old kept → AreListed new now
first_listed told h made first old new kept now some l =
    let place = end_behind first kept in
    let le : end_behind 0 kept ≤ place = end_from first kept in
    let order : AreInOrder 0 (kept ++ some.sums) = order_on 0 place kept some.sums l.order le some.follow in
    let past : end_behind 0 (kept ++ some.sums) ≤ end_behind place some.sums = from_place some.sums (end_behind 0 (kept ++ some.sums)) (end_behind 0 kept) place (end_append 0 kept some.sums) le in
    subst (AreListed new) (sym some.now_is) (record { held = at old new l.held some.left; order = order })
  where
    at : (o n : Option Files) → IfSome o (λ m. AreHeld m kept) → Related (LeavesFiles told h made (end_behind (end_behind first kept) some.sums) some.sums) o n → IfSome n (λ m. AreHeld m (kept ++ some.sums))
    at None None held left = tt
    at None (Some n) held left = absurd left
    at (Some m) None held left = absurd left
    at (Some m) (Some n) held left =
        let place = end_behind first kept in
        let le : end_behind 0 kept ≤ place = end_from first kept in
        left_held told h made (end_behind place some.sums) m n kept some.sums (order_on 0 place kept some.sums l.order le some.follow)
        (from_place some.sums (end_behind 0 (kept ++ some.sums)) (end_behind 0 kept) place (end_append 0 kept some.sums) le)
        (held_files m place kept some.sums some.whole l.order le some.follow held) left

expired_held : (old new : Option Files) (kept now : List Summary) → Related (λ m n. AreInOrder 0 kept → AreHeld m kept → AreHeld n now) old new → AreInOrder 0 kept → IfSome old (λ m. AreHeld m kept) → IfSome new (λ m. AreHeld m now)
expired_held None None kept now f order held = tt
expired_held None (Some n) kept now f order held = absurd f
expired_held (Some m) None kept now f order held = absurd f
expired_held (Some m) (Some n) kept now f order held = f order held

pub expired_listed : (limit : ℕ) (old new : Option Files) (kept now : List Summary) → MayExpire limit old new kept now → AreListed old kept → AreListed new now
expired_listed limit old new kept now e l = record {
  held = expired_held old new kept now e.held l.order l.held;
  order = e.taken.order 0 l.order;
}

pub partly_listed : (told : Type 0) (h : List Entry) (made limit : ℕ) (old new : Option Files) (kept now : List Summary) → AdvancesPartly told h made limit old new kept now → AreListed old kept → AreListed new now
partly_listed told h made limit old new kept now p l =
    expired_listed limit p.mid new p.between now p.expiry (first_listed told h made p.first old p.mid kept p.between p.some l)
