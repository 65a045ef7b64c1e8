-- Relations of a commit: written one by one, and read one by one.
use Rattle.std.proofs.Common.{◌≡◌, ℕ, zero, suc, ◌+◌, ◌*◌, ◌<◌, ◌≤◌, ℤ, List, [], ◌∷◌, ◌++◌, length, get_or, drop, Option, Some, None, Result, Ok, Err, refl, sym, ap, ◌∙◌, arith}
use Rattle.std.specs.Int.{w32, w64, to_le_bytes, cast_unsigned}
use Rattle.std.specs.Prelude.{false, nat_eq}
use Rattle.std.proofs.lemmas.List.{append-nil, append_assoc, length-append, drop_more}
use Rattle.lsn_core.specs.Relation.{Relation}
use Rattle.wal_pages.specs.declared.wal_heads.announce.MainHead.{MainHead}
use Rattle.wal_pages.specs.declared.wal_heads.announce.MainHead.TheVariants.{Absent, Short, Long}
use Rattle.wal_pages.specs.declared.wal_heads.announce.RelName.{RelName}
use Rattle.wal_pages.specs.wal_heads.Heads.{main_bytes}
use Rattle.wal_pages.specs.wal_heads.Announcements.{named_at}
use Rattle.wal_record.specs.declared.record.RecordFault.{RecordFault}
use Rattle.wal_record.specs.declared.record.Why.{Why}
use Rattle.wal_record.specs.declared.record.Why.TheVariants as whys
use Rattle.wal_record.specs.Outcome.{◌>>=◌, or_fault, refused, Fails}
use Rattle.wal_record.specs.Content.{rel_said, with_rel, rels_said}
use Rattle.wal_record.specs.Spelling.{relation_bytes, rels_bytes, commit_bytes, sized_head, main_head_of}
use Rattle.wal_record.proofs.Parting.{refused_ok, fails_on}

pub length-rels : (rels : List Relation) → length (rels_bytes rels) ≡ length rels * 12
length-rels [] = refl
length-rels (rel ∷ rels) = omega (arith, length-rels rels, length-append (relation_bytes rel []) (rels_bytes rels))

pub length-commit : (time : ℤ) (rels : List Relation) → length (commit_bytes time rels) ≤ 16 + length rels * 12
length-commit time [] = omega arith
length-commit time (rel ∷ rels) = omega (arith, length-rels (rel ∷ rels))

main_apart : (main : MainHead) (rest : List ℕ) → main_bytes main rest ≡ main_bytes main [] ++ rest
main_apart Absent rest = refl
main_apart (Short n) rest = refl
main_apart (Long n) rest = refl

-- a commit's main data, piece by piece behind its announcement
pub commit_pieces : (bytes b1 b2 b3 b4 b5 : List ℕ) (head : MainHead) (time bits count rels : List ℕ) → b1 ≡ bytes ++ main_bytes head [] → b2 ≡ b1 ++ time → b3 ≡ b2 ++ bits → b4 ≡ b3 ++ count → b5 ≡ b4 ++ rels
    → b5 ≡ bytes ++ main_bytes head (time ++ (bits ++ (count ++ rels)))
commit_pieces bytes b1 b2 b3 b4 b5 head time bits count rels e1 e2 e3 e4 e5 =
    e5
    ∙ ap (λ (l : List ℕ). l ++ rels) e4 ∙ append_assoc b3 count rels
    ∙ ap (λ (l : List ℕ). l ++ (count ++ rels)) e3 ∙ append_assoc b2 bits (count ++ rels)
    ∙ ap (λ (l : List ℕ). l ++ (bits ++ (count ++ rels))) e2 ∙ append_assoc b1 time (bits ++ (count ++ rels))
    ∙ ap (λ (l : List ℕ). l ++ (time ++ (bits ++ (count ++ rels)))) e1 ∙ append_assoc bytes (main_bytes head []) (time ++ (bits ++ (count ++ rels)))
    ∙ ap (λ (l : List ℕ). bytes ++ l) (sym (main_apart head (time ++ (bits ++ (count ++ rels)))))

-- relations, and those that are read behind them
abbrev pub with_rels : List Relation → Result (List Relation) Why → Result (List Relation) Why
with_rels done (Ok rels) = Ok (done ++ rels)
with_rels done (Err why) = Err why

one_rel : (done : List Relation) (rel : Relation) (o : Result (List Relation) Why) → with_rels (done ++ (rel ∷ [])) o ≡ with_rels done (with_rel rel o)
one_rel done rel (Ok rels) = ap (λ (l : List Relation). let r : Result (List Relation) Why = Ok l in r) (append_assoc done (rel ∷ []) rels)
one_rel done rel (Err why) = refl

-- one more relation
pub rels_more : (done now : List Relation) (n m : ℕ) (rest more : List ℕ) (name : RelName) (rel : Relation) (whole : Result (List Relation) Why)
    → n ≡ suc m → Some (name, more) ≡ named_at rest → Ok rel ≡ rel_said name → now ≡ done ++ (rel ∷ [])
    → with_rels done (rels_said n rest) ≡ whole → with_rels now (rels_said m more) ≡ whole
unfolding rels_said
rels_more done now n m rest more name rel whole some named said added read =
    ap (λ (l : List Relation). with_rels l (rels_said m more)) added
    ∙ one_rel done rel (rels_said m more)
    ∙ ap (λ (o : Result Relation Why). with_rels done (o >>= λ r. with_rel r (rels_said m more))) said
    ∙ ap (λ (o : Option (RelName × List ℕ)). with_rels done (or_fault whys.Shape o >>= λ x. rel_said x.0 >>= λ r. with_rel r (rels_said m x.1))) named
    ∙ ap (λ k. with_rels done (rels_said k rest)) (sym some)
    ∙ read

-- a name that isn't there, and a relation that is refused
pub rels_end : (done : List Relation) (n : ℕ) (rest : List ℕ) (whole : Result (List Relation) Why) → 0 < n → None ≡ named_at rest → with_rels done (rels_said n rest) ≡ whole → whole ≡ Err whys.Shape
unfolding rels_said
rels_end done zero rest whole some none read = absurd (omega (arith, some))
rels_end done (suc n) rest whole some none read =
    sym read ∙ sym (ap (λ (o : Option (RelName × List ℕ)). with_rels done (or_fault whys.Shape o >>= λ x. rel_said x.0 >>= λ r. with_rel r (rels_said n x.1))) none)

pub rels_fail : (done : List Relation) (n : ℕ) (rest more : List ℕ) (name : RelName) (why : Why) (whole : Result (List Relation) Why)
    → 0 < n → Some (name, more) ≡ named_at rest → Err why ≡ rel_said name → with_rels done (rels_said n rest) ≡ whole → whole ≡ Err why
unfolding rels_said
rels_fail done zero rest more name why whole some named said read = absurd (omega (arith, some))
rels_fail done (suc n) rest more name why whole some named said read =
    sym read
    ∙ sym (ap (λ (o : Option (RelName × List ℕ)). with_rels done (or_fault whys.Shape o >>= λ x. rel_said x.0 >>= λ r. with_rel r (rels_said n x.1))) named)
    ∙ sym (ap (λ (o : Result Relation Why). with_rels done (o >>= λ r. with_rel r (rels_said n more))) said)

-- and at the end all are read
pub rels_read : (done : List Relation) (n : ℕ) (rest : List ℕ) (whole : Result (List Relation) Why) → n ≡ 0 → with_rels done (rels_said n rest) ≡ whole → whole ≡ Ok done
unfolding rels_said
rels_read done zero rest whole none read = sym read ∙ ap (λ (l : List Relation). let r : Result (List Relation) Why = Ok l in r) (append-nil done)
rels_read done (suc n) rest whole none read = absurd (omega (arith, none))

-- one more relation is written
pub one_written : (bytes now part old : List ℕ) (rels : List Relation) (i : ℕ) (rel : Relation) → i < length rels → rel ≡ get_or rels i rel → now ≡ bytes ++ part → part ≡ relation_bytes rel [] → bytes ++ rels_bytes (drop i rels) ≡ old ++ rels_bytes rels
    → now ++ rels_bytes (drop (i + 1) rels) ≡ old ++ rels_bytes rels
one_written bytes now part old rels i rel lt is added told e =
    let next : drop i rels ≡ rel ∷ drop (i + 1) rels = drop_more rels i rel lt ∙ ap (λ (x : Relation). x ∷ drop (i + 1) rels) (sym is) in
    ap (λ (l : List ℕ). l ++ rels_bytes (drop (i + 1) rels)) (added ∙ ap (λ (l : List ℕ). bytes ++ l) told)
    ∙ append_assoc bytes (relation_bytes rel []) (rels_bytes (drop (i + 1) rels))
    ∙ ap (λ (l : List Relation). bytes ++ rels_bytes l) (sym next)
    ∙ e

-- what stands behind the header of a commit that drops relations
pub commit_body : (bytes b1 b2 b3 b4 b5 : List ℕ) (time : ℤ) (rels : List Relation) → (nat_eq (length rels) 0 ≡ false) → b1 ≡ bytes ++ main_bytes (sized_head (16 + 12 * length rels)) [] → b2 ≡ b1 ++ to_le_bytes w64 (cast_unsigned w64 time) → b3 ≡ b2 ++ (4 ∷ 0 ∷ 0 ∷ 0 ∷ []) → b4 ≡ b3 ++ to_le_bytes w32 (length rels) → b5 ≡ b4 ++ rels_bytes rels
    → b5 ≡ bytes ++ main_bytes (main_head_of (commit_bytes time rels)) (commit_bytes time rels)
commit_body bytes b1 b2 b3 b4 b5 time [] some e1 e2 e3 e4 e5 = absurd cc
commit_body bytes b1 b2 b3 b4 b5 time (rel ∷ rels) some e1 e2 e3 e4 e5 =
    let rs : List Relation = rel ∷ rels in
    let size : 16 + 12 * length rs ≡ length (commit_bytes time rs) = omega (arith, length-rels rs) in
    commit_pieces bytes b1 b2 b3 b4 b5 (sized_head (length (commit_bytes time rs))) (to_le_bytes w64 (cast_unsigned w64 time)) (to_le_bytes w32 4) (to_le_bytes w32 (length rs)) (rels_bytes rs)
    (e1 ∙ ap (λ n. bytes ++ main_bytes (sized_head n) []) size) e2 e3 e4 e5
