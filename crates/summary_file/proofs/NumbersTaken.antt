-- The numbers that are read of a file have its bytes.
use Rattle.std.proofs.Common.{◌≡◌, ℕ, zero, suc, ◌^◌, ◌<◌, true, List, [], ◌∷◌, ◌++◌, length, Option, Some, refl, sym, ap, subst, ◌∙◌, arith}
use Rattle.std.specs.Prelude.{nat_eq, ◌==◌}
use Rattle.std.proofs.lemmas.List.{append_assoc, append-nil}
use Rattle.std.proofs.lemmas.Bool.{eqb-true}
use Rattle.std.proofs.lemmas.Option.{cond_some}
use Rattle.std.specs.List.{flat_map, AllByRecursion}
use Rattle.std.specs.Int.{w32, w64, to_le_bytes}
use Rattle.lsn_core.specs.byte_words.Numbers.{◌>>=◌, number_at, IsBytes}
use Rattle.lsn_core.proofs.byte_words.Fields.{wide32, wide64, step, number_takes, bind_some, put_front}
use Rattle.summary_file.specs.declared.numbers.ForkNumbers.{ForkNumbers}
use Rattle.summary_file.specs.declared.numbers.FileNumbers.{FileNumbers}
use Rattle.summary_file.specs.Numbers.{fork_head, fork_bytes, file_head, file_bytes, ForkFits, NumbersFit, HasNumbers}
use Rattle.summary_file.specs.Inside.{many, fork_at, file_at}
use Rattle.summary_file.proofs.Many.{some_pair, below_as}

-- what a part took from the front
record Taken {A : Type 0} (write : A → List ℕ) (P : A → Type 0) (bytes : List ℕ) (x : A) (rest : List ℕ) : Type 0 where
  parts : bytes ≡ write x ++ rest
  rest_fits : IsBytes rest
  holds : P x

-- and what many parts took
record ManyTaken {A : Type 0} (write : A → List ℕ) (P : A → Type 0) (n : ℕ) (bytes : List ℕ) (xs : List A) (rest : List ℕ) : Type 0 where
  parts : bytes ≡ flat_map write xs ++ rest
  rest_fits : IsBytes rest
  count : length xs ≡ n
  all : AllByRecursion P xs

many_taken : {A : Type 0} (read : List ℕ → Option (A × List ℕ)) (write : A → List ℕ) (P : A → Type 0) → ((bytes : List ℕ) (x : A) (rest : List ℕ) → IsBytes bytes → read bytes ≡ Some (x, rest) → Taken write P bytes x rest)
    → (n : ℕ) (bytes : List ℕ) (xs : List A) (rest : List ℕ) → IsBytes bytes → many read n bytes ≡ Some (xs, rest) → ManyTaken write P n bytes xs rest
many_taken read write P takes zero bytes xs rest fits e =
    let p = some_pair [] xs bytes rest e in
    record {
      parts = p.1 ∙ ap (λ l. flat_map write l ++ rest) p.0;
      rest_fits = subst IsBytes p.1 fits;
      count = ap length (sym p.0);
      all = subst (AllByRecursion P) p.0 tt;
    }
many_taken read write P takes (suc n) bytes xs rest fits e =
    let b = bind_some (read bytes) (λ x. many read n x.1 >>= λ ys. Some (x.0 ∷ ys.0, ys.1)) (xs, rest) e in
    let d = bind_some (many read n b.0.1) (λ ys. Some (b.0.0 ∷ ys.0, ys.1)) (xs, rest) b.2 in
    let t = takes bytes b.0.0 b.0.1 fits b.1 in
    let r = many_taken read write P takes n b.0.1 d.0.0 d.0.1 t.rest_fits d.1 in
    let p = some_pair (b.0.0 ∷ d.0.0) xs d.0.1 rest d.2 in
    record {
      parts = t.parts ∙ ap (λ l. write b.0.0 ++ l) r.parts ∙ sym (append_assoc (write b.0.0) (flat_map write d.0.0) d.0.1) ∙ (λ i. flat_map write (p.0 i) ++ p.1 i);
      rest_fits = subst IsBytes p.1 r.rest_fits;
      count = ap length (sym p.0) ∙ ap suc r.count;
      all = subst (AllByRecursion P) p.0 (t.holds, r.all);
    }

block_taken : (bytes : List ℕ) (x : ℕ) (rest : List ℕ) → IsBytes bytes → number_at w32 bytes ≡ Some (x, rest) → Taken (to_le_bytes w32) (λ b. b < 2 ^ 32) bytes x rest
block_taken bytes x rest fits e =
    let t = number_takes w32 (2 ^ 32) wide32 bytes x rest fits e in
    record { parts = t.parts; rest_fits = t.rest_fits; holds = t.bound }

fork_taken : (bytes : List ℕ) (x : ForkNumbers) (rest : List ℕ) → IsBytes bytes → fork_at bytes ≡ Some (x, rest) → Taken fork_bytes ForkFits bytes x rest
unfolding fork_at fork_head
fork_taken bytes x rest fits e =
    let P = Taken fork_bytes ForkFits bytes x rest in
    step w32 (2 ^ 32) wide32 bytes _ (x, rest) P fits e (λ db r1 e1 f1 g1 l1.
    step w32 (2 ^ 32) wide32 r1 _ (x, rest) P f1 g1 (λ rel r2 e2 f2 g2 l2.
    step w32 (2 ^ 32) wide32 r2 _ (x, rest) P f2 g2 (λ kind r3 e3 f3 g3 l3.
    step w32 (2 ^ 32) wide32 r3 _ (x, rest) P f3 g3 (λ limit r4 e4 f4 g4 l4.
    step w32 (2 ^ 32) wide32 r4 _ (x, rest) P f4 g4 (λ count r5 e5 f5 g5 l5.
    let b = bind_some (many (number_at w32) count r5) (λ blocks. Some (record { db = db; rel = rel; kind = kind; limit = limit; blocks = blocks.0 }, blocks.1)) (x, rest) g5 in
    let m = many_taken (number_at w32) (to_le_bytes w32) (λ b. b < 2 ^ 32) block_taken count r5 b.0.0 b.0.1 f5 b.1 in
    let f : ForkNumbers = record { db = db; rel = rel; kind = kind; limit = limit; blocks = b.0.0 } in
    let p = some_pair f x b.0.1 rest b.2 in
    let spelled : bytes ≡ fork_bytes f ++ b.0.1 =
    put_front w32 db db bytes r1 _ refl e1 (put_front w32 rel rel r1 r2 _ refl e2 (put_front w32 kind kind r2 r3 _ refl e3 (put_front w32 limit limit r3 r4 _ refl e4 (put_front w32 count (length b.0.0) r4 r5 _ (sym m.count) e5 m.parts)))) in
    let has : ForkFits f = record { db = l1; rel = l2; kind = l3; limit = l4; count = below_as _ _ _ (sym m.count) l5; blocks = m.all } in
    record { parts = spelled ∙ (λ i. fork_bytes (p.0 i) ++ p.1 i); rest_fits = subst IsBytes p.1 m.rest_fits; holds = subst ForkFits p.0 has })))))

nothing_left : (bytes : List ℕ) → nat_eq (length bytes) 0 ≡ true → bytes ≡ []
nothing_left [] e = refl
nothing_left (b ∷ bs) e = absurd (let h = eqb-true _ _ e in omega (arith, h))

pub file_taken : (bytes : List ℕ) (n : FileNumbers) (crc : ℕ) → IsBytes bytes → file_at bytes ≡ Some (n, crc) → HasNumbers bytes n crc
unfolding file_at file_head
file_taken bytes n crc fits e =
    let P = HasNumbers bytes n crc in
    step w32 (2 ^ 32) wide32 bytes _ (n, crc) P fits e (λ magic r1 e1 f1 g1 l1.
    step w64 (2 ^ 64) wide64 r1 _ (n, crc) P f1 g1 (λ start r2 e2 f2 g2 l2.
    step w64 (2 ^ 64) wide64 r2 _ (n, crc) P f2 g2 (λ end r3 e3 f3 g3 l3.
    step w64 (2 ^ 64) wide64 r3 _ (n, crc) P f3 g3 (λ made r4 e4 f4 g4 l4.
    step w64 (2 ^ 64) wide64 r4 _ (n, crc) P f4 g4 (λ count r5 e5 f5 g5 l5.
    let b = bind_some (many fork_at count r5) _ (n, crc) g5 in
    let m = many_taken fork_at fork_bytes ForkFits fork_taken count r5 b.0.0 b.0.1 f5 b.1 in
    step w32 (2 ^ 32) wide32 b.0.1 _ (n, crc) P m.rest_fits b.2 (λ last r6 e6 f6 g6 l6.
    let f : FileNumbers = record { magic = magic; start = start; end = end; made = made; forks = b.0.0 } in
    let t = cond_some (length r6 == 0) (f, last) (n, crc) g6 in
    let tail : b.0.1 ≡ to_le_bytes w32 last = e6 ∙ ap (λ l. to_le_bytes w32 last ++ l) (nothing_left r6 t.0) ∙ append-nil (to_le_bytes w32 last) in
    let spelled : bytes ≡ file_bytes f last =
    put_front w32 magic magic bytes r1 _ refl e1 (put_front w64 start start r1 r2 _ refl e2 (put_front w64 end end r2 r3 _ refl e3 (put_front w64 made made r3 r4 _ refl e4 (put_front w64 count (length b.0.0) r4 r5 _ (sym m.count) e5 (m.parts ∙ ap (λ l. flat_map fork_bytes b.0.0 ++ l) tail))))) in
    let room : NumbersFit f = record { magic = l1; start = l2; end = l3; made = l4; count = below_as _ _ _ (sym m.count) l5; forks = m.all } in
    let has : HasNumbers bytes f last = record { fits = room; crc_fits = l6; spelled = spelled } in
    subst (λ (x : FileNumbers × ℕ). HasNumbers bytes x.0 x.1) t.1 has))))))
