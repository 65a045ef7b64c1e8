-- Pages that were copied, with others behind them.
use Rattle.std.proofs.Common.{◌≡◌, ℕ, ◌+◌, ◌*◌, Bool, true, false, List, [], ◌∷◌, ◌++◌, length, Some, None, refl, sym, ap, subst, ◌∙◌, arith}
use Rattle.std.specs.List.{AllByRecursion}
use Rattle.std.proofs.lemmas.List.{append-nil, append_assoc, length-append}
use Rattle.std.proofs.lemmas.Grind.{flat_map-append}
use mathlib.Core.List.{IsPrefix}
use Rattle.timeline.proofs.Prefixes.{prefix_refl, prefix_trans}
use Rattle.lsn_core.proofs.AnyAll.{all_append}
use Rattle.lsn_core.specs.Store.{ForkPages}
use Rattle.lsn_core.specs.declared.ids.BlockId.{BlockId}
use Rattle.lsn_core.specs.declared.ids.ForkId.{ForkId}
use Rattle.pg_page.specs.Header.{zero_page}
use Rattle.history.specs.Entry.{Entry}
use Rattle.store_locks.specs.Copied.{HasRedoPoint, CopiesBlock}
use Rattle.backup_sending.specs.Inside.{IsPageCopied, ArePagesCopied, AreCopies, AddsCopies, page_bytes}

-- ---- one page

pub page_later : (s t : List Entry) (from : ℕ) (fork : ForkId) (block : ℕ) (page : List ℕ) → IsPrefix s t → IsPageCopied s from fork block page → IsPageCopied t from fork block page
page_later s t from fork block page p is = record {
  moment = is.moment;
  before = prefix_trans is.moment s t is.before p;
  redo = is.redo;
  answer = is.answer;
  copied = is.copied;
  written = is.written;
}

pub page_copied : (seen : List Entry) (from : ℕ) (at : BlockId) (old new : List ℕ) (there : Bool) → HasRedoPoint seen from → old ≡ zero_page → CopiesBlock seen from at old new there → IsPageCopied seen from at.fork at.block new
page_copied seen from at old new true redo zeros copied = record {
  moment = seen;
  before = prefix_refl seen;
  redo = redo;
  answer = Some new;
  copied = copied;
  written = refl;
}
page_copied seen from at old new false redo zeros copied = record {
  moment = seen;
  before = prefix_refl seen;
  redo = redo;
  answer = None;
  copied = copied.0;
  written = copied.1 ∙ zeros;
}

-- ---- several

pub pages_later : (s t : List Entry) (from : ℕ) (fork : ForkId) (block : ℕ) (pages : ForkPages) → IsPrefix s t → ArePagesCopied s from fork block pages → ArePagesCopied t from fork block pages
pages_later s t from fork block [] p are = tt
pages_later s t from fork block (page ∷ pages) p are = (page_later s t from fork block page p are.0, pages_later s t from fork (block + 1) pages p are.1)

pages_append : (s : List Entry) (from : ℕ) (fork : ForkId) (block at : ℕ) (ps qs : ForkPages) → at ≡ block + length ps → ArePagesCopied s from fork block ps → ArePagesCopied s from fork at qs → ArePagesCopied s from fork block (ps ++ qs)
pages_append s from fork block at [] qs e first rest = subst (λ (n : ℕ). ArePagesCopied s from fork n qs) (omega (arith, e)) rest
pages_append s from fork block at (p ∷ ps) qs e first rest = (first.0, pages_append s from fork (block + 1) at ps qs (omega (arith, e)) first.1 rest)

pub copies_none : (tells : Type 0) (s : List Entry) (from : ℕ) (fork : ForkId) (block : ℕ) → AreCopies tells s from fork block 0 []
copies_none tells s from fork block = record { many = refl; sized = tt; copied = λ t. tt }

pub copies_more : (tells : Type 0) (s t : List Entry) (from : ℕ) (fork : ForkId) (block at n m sum : ℕ) (ps qs : ForkPages) → at ≡ block + n → sum ≡ n + m → IsPrefix s t → AreCopies tells s from fork block n ps → AreCopies tells t from fork at m qs
    → AreCopies tells t from fork block sum (ps ++ qs)
copies_more tells s t from fork block at n m sum ps qs at_is sum_is p first rest = record {
  many = omega (arith, length-append ps qs, first.many, rest.many, sum_is);
  sized = all_append (λ (page : List ℕ). length page ≡ 8192) ps qs first.sized rest.sized;
  copied = λ tells. pages_append t from fork block at ps qs (omega (arith, at_is, first.many)) (pages_later s t from fork block ps p (first.copied tells)) (rest.copied tells);
}

pub bytes_more : (ps qs : ForkPages) → page_bytes (ps ++ qs) ≡ page_bytes ps ++ page_bytes qs
bytes_more ps qs = flat_map-append (λ (page : List ℕ). page) ps qs

pub adds_none : (tells : Type 0) (s : List Entry) (from : ℕ) (fork : ForkId) (block : ℕ) (bytes : List ℕ) → AddsCopies tells s from fork block 0 bytes bytes
adds_none tells s from fork block bytes = record { pages = []; copies = copies_none tells s from fork block; grown = sym (append-nil bytes) }

pub adds_one : (tells : Type 0) (s : List Entry) (from : ℕ) (at : BlockId) (page zeros old new : List ℕ) (there : Bool) → HasRedoPoint s from → zeros ≡ zero_page → length page ≡ 8192 → (tells → CopiesBlock s from at zeros page there) → new ≡ old ++ page
    → AddsCopies tells s from at.fork at.block 1 old new
adds_one tells s from at page zeros old new there redo are_zeros size copied grown = record {
  pages = page ∷ [];
  copies = record { many = refl; sized = (size, tt); copied = λ t. (page_copied s from at zeros page there redo are_zeros (copied t), tt) };
  grown = grown ∙ ap (λ (x : List ℕ). old ++ x) (sym (append-nil page));
}

pub adds_more : (tells : Type 0) (s t : List Entry) (from : ℕ) (fork : ForkId) (block at n m sum : ℕ) (a b c : List ℕ) → at ≡ block + n → sum ≡ n + m → IsPrefix s t → AddsCopies tells s from fork block n a b → AddsCopies tells t from fork at m b c
    → AddsCopies tells t from fork block sum a c
adds_more tells s t from fork block at n m sum a b c at_is sum_is p first rest = record {
  pages = first.pages ++ rest.pages;
  copies = copies_more tells s t from fork block at n m sum first.pages rest.pages at_is sum_is p first.copies rest.copies;
  grown =
      rest.grown ∙ (ap (λ (x : List ℕ). x ++ page_bytes rest.pages) first.grown ∙ (append_assoc a (page_bytes first.pages) (page_bytes rest.pages)
      ∙ ap (λ (x : List ℕ). a ++ x) (sym (bytes_more first.pages rest.pages))));
}

-- so many pages have so many bytes
pub bytes_length : (pages : ForkPages) → AllByRecursion (λ page. length page ≡ 8192) pages → length (page_bytes pages) ≡ length pages * 8192
bytes_length [] sized = refl
bytes_length (page ∷ pages) sized = omega (arith, length-append page (page_bytes pages), sized.0, bytes_length pages sized.1)
