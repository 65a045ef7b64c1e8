-- The form that was seen of a file, by its two paths.
use Rattle.std.proofs.Common.{◌≡◌, ℕ, true, false, List, [], length, Option, Some, None, IfSome, Result, Ok, Err, IfOk, refl, sym, subst, ◌∙◌}
use Rattle.std.specs.FinMap.{get}
use Rattle.std.specs.Option.{option_map, unwrap_or}
use Rattle.lsn_core.specs.byte_words.Told.{when_both_told}
use Rattle.lsn_core.specs.Files.{Files}
use Rattle.vault.specs.Area.{bytes_of, IsSizeIn}
use Rattle.incr_file.specs.Form.{form_in, part_in}
use Rattle.chain_files.specs.Segments.{form_at, HasForms, IsIncrFile}
use Rattle.chain_files.specs.Paths.{file_path, IsRelationFile}
use Rattle.series_files.specs.Inside.{IsPartSeen, IsHeadSeen, IsSeen}
use Rattle.series_files.specs.declared.seen.Seen.{Seen}
use Rattle.series_files.specs.declared.seen.Seen.TheVariants as seen

by_bytes : (bytes : List ℕ) (s : Seen) → IsPartSeen bytes s → IsSeen (part_in bytes) s
by_bytes bytes seen.Absent is = absurd is
by_bytes bytes seen.Plain is = absurd is
by_bytes bytes (seen.Part head) is = is

part_by : (incr plain : Option (List ℕ)) (size : ℕ) (s : Seen) → Some size ≡ option_map length incr → ((bytes : List ℕ) → incr ≡ Some bytes → IsIncrFile bytes (length bytes)) → IsHeadSeen (unwrap_or incr []) size s → IsSeen (form_in incr plain) s
part_by None plain size s sized has is = absurd cc
part_by (Some bytes) plain size s sized has is =
    let same : size ≡ length bytes = cc in
    by_bytes bytes s (is (subst (IsIncrFile bytes) (sym same) (has bytes refl)))

module _ (o : Option Files) (folder name : List ℕ) where
  abbrev Seeing : Seen → Files → Type 0
  Seeing s m = HasForms m → IsSeen (form_at folder name m) s

  pub part_seen : (p q : List ℕ) (found : Option ℕ) (size : ℕ) (s : Seen) → IsRelationFile folder name → p ≡ file_path folder name true → q ≡ file_path folder name true → found ≡ Some size → IsSizeIn o p found → IfSome o (λ m. IsHeadSeen (bytes_of m q) size s) → IfSome o (Seeing s)
  part_seen p q found size s named p_is q_is is sized head =
      when_both_told o (λ m. found ≡ option_map length (get m p)) (λ m. IsHeadSeen (bytes_of m q) size s) (Seeing s)
      (λ m a b has.
      part_by (get m (file_path folder name true)) (get m (file_path folder name false)) size s
      (sym is ∙ subst (λ (r : List ℕ). found ≡ option_map length (get m r)) p_is a) (λ bytes e. has.incremental folder name bytes named e) (subst (λ (r : List ℕ). IsHeadSeen (bytes_of m r) size s) q_is b))
      sized head

pub ok_more : {T E : Type 0} (r : Result T E) (P Q : T → Type 0) → ((x : T) → P x → Q x) → IfOk r P → IfOk r Q
ok_more (Ok x) P Q more holds = more x holds
ok_more (Err x) P Q more holds = tt
