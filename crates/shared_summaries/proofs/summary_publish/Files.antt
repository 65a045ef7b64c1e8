-- A file that is written anew.
use Rattle.std.proofs.Common.{◌≡◌, ℕ, ◌+◌, ◌<◌, Bool, true, false, cond, List, [], ◌∷◌, ◌++◌, length, Option, Some, None, option_map, unwrap_or, Result, Ok, Err, OnOk, refl, sym, ap, ◌∙◌, arith}
use Rattle.std.specs.Cmp.Lexicographic.{nat_list_cmp_total}
use Rattle.std.specs.FinMap.{get, insert, get-insert, same_map, slice_cmp-IsAntisymmetric, nat_cmp-IsAntisymmetric}
use Rattle.std.proofs.lemmas.List.{append-nil, drop_all}
use Rattle.lsn_core.specs.byte_words.Pieces.{zero_filled}
use Rattle.lsn_core.specs.Files.{Files}
use Rattle.lsn_core.specs.declared.fault.AreaFault.{AreaFault}
use Rattle.lsn_core.proofs.StoreFiles.{same_name, name_itself}
use Rattle.vault.specs.Area.{after_write, after_cut, cut_to, file_written, Writes}

pub get_here : (m : Files) (name bytes : List ℕ) → get (insert m name bytes) name ≡ Some bytes
get_here m name bytes = get-insert nat_list_cmp_total m name bytes name ∙ ap (λ b. cond b (Some bytes) (get m name)) (name_itself name)

again : {A : Type 0} (b : Bool) (x y z : A) → cond b x (cond b y z) ≡ cond b x z
again true x y z = refl
again false x y z = refl

insert_again : (m : Files) (name first second : List ℕ) → insert (insert m name first) name second ≡ insert m name second
insert_again m name first second =
    same_map nat_list_cmp_total (slice_cmp-IsAntisymmetric nat_cmp-IsAntisymmetric) (insert (insert m name first) name second) (insert m name second) (λ q.
    get-insert nat_list_cmp_total (insert m name first) name second q
    ∙ ap (cond (same_name q name) (Some second)) (get-insert nat_list_cmp_total m name first q)
    ∙ again (same_name q name) (Some second) (Some first) (get m q)
    ∙ sym (get-insert nat_list_cmp_total m name second q))

whole : (bytes : List ℕ) → 0 < length bytes → file_written [] 0 bytes ≡ bytes
whole [] some = absurd (omega (arith, some))
whole (b ∷ bs) some = ap (λ (l : List ℕ). (b ∷ bs) ++ l) (drop_all (0 + length (b ∷ bs)) (zero_filled [] 0) (omega arith)) ∙ append-nil (b ∷ bs)

one : (m : Files) (name bytes : List ℕ) → 0 < length bytes → (o : Option (List ℕ)) → get m name ≡ o → after_write name 0 bytes (cut_to m name 0 o) ≡ insert m name bytes
one m name bytes some None is = ap (λ (old : Option (List ℕ)). insert m name (file_written (unwrap_or old []) 0 bytes)) is ∙ ap (insert m name) (whole bytes some)
one m name bytes some (Some old) is =
    ap (λ (held : Option (List ℕ)). insert (insert m name []) name (file_written (unwrap_or held []) 0 bytes)) (get_here m name [])
    ∙ ap (insert (insert m name []) name) (whole bytes some) ∙ insert_again m name [] bytes

pub anew : {T : Type 0} (name bytes : List ℕ) (old mid new : Option Files) (result : Result T AreaFault) → 0 < length bytes → mid ≡ option_map (after_cut name 0) old → Writes name 0 bytes mid new result → OnOk result (new ≡ option_map (λ m. insert m name bytes) old)
anew name bytes None mid new (Ok done) some cut written = written ∙ ap (option_map (after_write name 0 bytes)) cut
anew name bytes (Some m) mid new (Ok done) some cut written = written ∙ ap (option_map (after_write name 0 bytes)) cut ∙ ap (λ (x : Files). Some x) (one m name bytes some (get m name) refl)
anew name bytes old mid new (Err fault) some cut written = tt
