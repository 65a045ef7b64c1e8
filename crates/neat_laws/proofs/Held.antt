-- Neat segment files hold a store.
use Rattle.std.proofs.Common.{◌≡◌, ℕ, zero, suc, ◌+◌, ◌-◌, ◌*◌, ◌^◌, ◌<◌, ◌≤◌, inl, inr, Bool, true, false, cond, List, [], ◌∷◌, length, Option, Some, None, IfSome, is_some, refl, sym, ap, subst, ◌∙◌, arith}
use Rattle.std.specs.List.{All}
use Rattle.std.specs.FinMap.{get}
use Rattle.std.proofs.lemmas.Bool.{cases_lt}
use Rattle.std.proofs.lemmas.List.Elements.{All-nil, All-cons}
use Rattle.lsn_core.specs.Files.{Files}
use Rattle.lsn_core.specs.Names.{fork_path_bytes, IsNamed}
use Rattle.lsn_core.specs.Store.{Store, ForkPages, segment_in}
use Rattle.lsn_core.specs.declared.ids.ForkId.{ForkId}
use Rattle.rel_files.specs.Forks.{Holds}
use Rattle.rel_files.proofs.Pages.{HeldBy, are_held}
use Rattle.rel_files.proofs.Segments.{segment, segment_is, segment_some, segment_none}
use Rattle.rel_files.proofs.SegmentFiles.{renamed, less_by}
use Rattle.stop_areas.specs.Left.{segment_of}
use Rattle.rel_neat.specs.Neat.{IsNeat, IsNeatFile}
use Rattle.data_areas.specs.Rebuilt.{HoldsPages}
use Rattle.neat_laws.specs.Laws.{NeatFilesHoldStores}
use Rattle.neat_laws.specs.Room.{HasRoom, page_limit}
use Rattle.neat_laws.proofs.Grown.{bytes_in, grow, AreInTurn, Grown, none_on, grown, fills, empty, ends}
use Rattle.neat_laws.proofs.Stored.{store_with, with_named, with_some}

pub limit_is : page_limit + 1 ≡ 2 ^ 32
unfolding page_limit
limit_is = refl

all_whole : (pages : ForkPages) → HeldBy 8192 (length pages) pages → All (λ page. length page ≡ 8192) pages
all_whole [] held = All-nil (λ (page : List ℕ). length page ≡ 8192)
all_whole (page ∷ pages) held = All-cons (λ (page : List ℕ). length page ≡ 8192) page pages held.0 (all_whole pages held.1)

one_of : (a b : List ℕ) → Some a ≡ Some b → a ≡ b
one_of a b e = cc

-- the files of a fork, by their numbers
abbrev files_at : Files → ForkId → ℕ → Option (List ℕ)
files_at files fork seg = get files (fork_path_bytes fork seg false)

abbrev fork_pages : Files → ForkId → ForkPages
fork_pages files fork = grow 8192 (files_at files fork) (page_limit + 1)

abbrev is_there : Files → ForkId → Bool
is_there files fork = is_some (files_at files fork 0)

module _ (relseg : ℕ) (files : Files) (some : 0 < relseg) (neat : IsNeat relseg files) (room : HasRoom relseg files) where
  -- a file that is there is neat
  neat_file : (fork : ForkId) (seg : ℕ) (bytes : List ℕ) → IsNamed fork seg → files_at files fork seg ≡ Some bytes → IsNeatFile relseg files fork seg bytes
  neat_file fork seg bytes named is = subst (λ (o : Option (List ℕ)). IfSome o (IsNeatFile relseg files fork seg)) is (neat fork seg named)

  in_turn : (fork : ForkId) → IsNamed fork 0 → AreInTurn 8192 relseg (page_limit + 1) (files_at files fork)
  in_turn fork named = record {
    part = λ k bytes less is.
        let file = neat_file fork k bytes (renamed fork 0 k named (omega (arith, less, limit_is))) is in
        (file.blocks, (file.size, file.most));
    later = λ k bytes less is.
        let file = neat_file fork (suc k) bytes (renamed fork 0 (suc k) named (omega (arith, less, limit_is))) is in
        let blocks = file.some (omega arith) in
        let back : suc k - 1 ≡ k = omega arith in
        (omega (arith, file.size, blocks), subst (λ (m : ℕ). relseg * 8192 ≤ length (segment_of files fork m)) back (file.before (omega arith)));
  }

  grown_fork : (fork : ForkId) → IsNamed fork 0 → Grown 8192 relseg (page_limit + 1) (files_at files fork) (fork_pages files fork)
  grown_fork fork named = grown 8192 relseg (omega arith) some (page_limit + 1) (files_at files fork) (in_turn fork named)

  long_fork : (fork : ForkId) → IsNamed fork 0 → length (fork_pages files fork) ≤ page_limit
  long_fork fork named =
      let less = less_by page_limit relseg some in
      ends relseg (page_limit + 1) (files_at files fork) (fork_pages files fork) some (grown_fork fork named) page_limit (omega (arith, less)) (room fork named)

  -- a file's bytes are those of its segment, and it is there where the segment is
  file_is : (fork : ForkId) (bytes : List ℕ) (seg : ℕ) → IsNamed fork seg → files_at files fork 0 ≡ Some bytes → (o : Option (List ℕ)) → files_at files fork seg ≡ o
      → files_at files fork seg ≡ segment relseg seg (fork_pages files fork)
  file_is fork bytes zero named first o is =
      let pages = fork_pages files fork in
      let g = grown_fork fork (renamed fork 0 0 named (omega arith)) in
      first ∙ ap (λ (l : List ℕ). Some l) (sym (g.content 0 (omega arith) ∙ ap bytes_in first)) ∙ sym (segment_some relseg 0 pages (inl refl))
  file_is fork bytes (suc seg) named first o is = by o is
    where
      all : IsNamed fork 0
      all = renamed fork (suc seg) 0 named (omega arith)

      less : suc seg < page_limit + 1
      less = let fits = named.seg_fits in omega (arith, fits, limit_is)

      by : (o : Option (List ℕ)) → files_at files fork (suc seg) ≡ o → files_at files fork (suc seg) ≡ segment relseg (suc seg) (fork_pages files fork)
      by None is =
          let none : length (bytes_in (files_at files fork (suc seg))) ≡ 0 = ap (λ (o : Option (List ℕ)). length (bytes_in o)) is in
          elim (cases_lt (suc seg * relseg) (length (fork_pages files fork))) [
            | inl within ↦
                let full = fills relseg (page_limit + 1) (files_at files fork) (fork_pages files fork) some (grown_fork fork all) (suc seg) less (omega (arith, within)) in
                absurd (omega (arith, within, full, none, some))
            | inr past ↦ is ∙ sym (segment_none relseg (suc seg) (fork_pages files fork) (λ e. omega (arith, e)) past)
          ]
      by (Some content) is =
          let file = neat_file fork (suc seg) content named is in
          let blocks = file.some (omega arith) in
          let long : length (bytes_in (files_at files fork (suc seg))) ≡ file.blocks * 8192 = ap (λ (o : Option (List ℕ)). length (bytes_in o)) is ∙ file.size in
          elim (cases_lt (suc seg * relseg) (length (fork_pages files fork))) [
            | inl within ↦
                let g = grown_fork fork all in
                is ∙ ap (λ (l : List ℕ). Some l) (sym (g.content (suc seg) less ∙ ap bytes_in is)) ∙ sym (segment_some relseg (suc seg) (fork_pages files fork) (inr within))
            | inr past ↦
                let none = empty relseg (page_limit + 1) (files_at files fork) (fork_pages files fork) some (grown_fork fork all) (suc seg) less past in
                absurd (omega (arith, none, long, blocks))
          ]

  abbrev pub store : Store
  store = store_with page_limit limit_is (fork_pages files) (is_there files)

  fork_is : (fork : ForkId) → IsNamed fork 0 → get store fork ≡ cond (is_there files fork) (Some (fork_pages files fork)) None
  fork_is fork named = with_named page_limit limit_is (fork_pages files) (is_there files) fork named

  fork_some : (fork : ForkId) (pages : ForkPages) → get store fork ≡ Some pages → IsNamed fork 0
  fork_some fork pages is = with_some page_limit limit_is (fork_pages files) (is_there files) fork pages is

  -- the pages that the store has of a fork
  pages_are : (fork : ForkId) (pages : ForkPages) → get store fork ≡ Some pages → pages ≡ fork_pages files fork
  pages_are fork pages is = by (is_there files fork) (sym (fork_is fork (fork_some fork pages is)) ∙ is)
    where
      by : (b : Bool) → cond b (Some (fork_pages files fork)) None ≡ Some pages → pages ≡ fork_pages files fork
      by true e = cc
      by false e = absurd (let none : ◌≡◌ {A = Option ForkPages} None (Some pages) = e in cc)

  segment_at : (fork : ForkId) (seg : ℕ) → IsNamed fork seg → (o : Option (List ℕ)) → files_at files fork 0 ≡ o → files_at files fork seg ≡ segment_in relseg seg (get store fork)
  segment_at fork seg named None first =
      let less : seg < page_limit + 1 = let fits = named.seg_fits in omega (arith, fits, limit_is) in
      let all = renamed fork seg 0 named (omega arith) in
      none_on 8192 relseg (omega arith) some (page_limit + 1) (files_at files fork) (in_turn fork all) first seg less
      ∙ sym (ap (segment_in relseg seg) (fork_is fork all ∙ ap (λ (o : Option (List ℕ)). cond (is_some o) (Some (fork_pages files fork)) None) first))
  segment_at fork seg named (Some bytes) first =
      let all = renamed fork seg 0 named (omega arith) in
      file_is fork bytes seg named first (files_at files fork seg) refl
      ∙ sym (ap (segment_in relseg seg) (fork_is fork all ∙ ap (λ (o : Option (List ℕ)). cond (is_some o) (Some (fork_pages files fork)) None) first) ∙ segment_is relseg seg (fork_pages files fork) some)

  held_whole : (fork : ForkId) (pages : ForkPages) → get store fork ≡ Some pages → HeldBy 8192 (length pages) pages
  held_whole fork pages is =
      let g = grown_fork fork (fork_some fork pages is) in
      subst (λ (l : ForkPages). HeldBy 8192 (length l) l) (sym (pages_are fork pages is)) g.held

  holds : Holds relseg files store
  holds = record {
    segments = λ fork seg named. segment_at fork seg named (files_at files fork 0) refl;
    named = λ fork pages is.
        let all = fork_some fork pages is in
        let long = long_fork fork all in
        let size = ap length (pages_are fork pages is) in
        renamed fork 0 (length pages) all (omega (arith, long, size, limit_is));
    held = λ fork pages is. are_held (length pages) pages (held_whole fork pages is);
  }

  pub holds_pages : HoldsPages relseg (Some files) store
  holds_pages = record {
    files = record { files = files; are_told = refl; hold = holds };
    whole = λ fork pages is. all_whole pages (held_whole fork pages is);
  }

  pub held_store : (store : Store) × HoldsPages relseg (Some files) store
  held_store = (store, holds_pages)

pub neat_held : NeatFilesHoldStores
neat_held relseg files some neat room = held_store relseg files some neat room
