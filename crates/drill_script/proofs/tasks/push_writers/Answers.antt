-- One writer more.
use Rattle.std.proofs.Common.{◌≡◌, ◌∙◌, ℕ, ◌+◌, List, [], ◌∷◌, ◌++◌, map, sym, ap, arith}
use Rattle.std.specs.List.{range_with_len}
use Rattle.std.proofs.lemmas.List.{append_assoc}
use Rattle.std.proofs.lemmas.List.FromFn.{map-range_with_len_more}
use Rattle.scripts.specs.declared.script.Task.{Task}
use Rattle.drill_script.proofs.tasks.push_writers.Goals as goal

more : (f : ℕ → Task) (w : ℕ) (first so_far all : List Task) (task : Task) → so_far ≡ first ++ map f (range_with_len 0 w) → all ≡ so_far ++ (task ∷ []) → task ≡ f w → all ≡ first ++ map f (range_with_len 0 (w + 1))
more f w first so_far all task before put is =
    put
    ∙ ap (λ (x : List Task). x ++ (task ∷ [])) before
    ∙ ap (λ (t : Task). (first ++ map f (range_with_len 0 w)) ++ (t ∷ [])) is
    ∙ append_assoc first (map f (range_with_len 0 w)) (f w ∷ [])
    ∙ ap (λ (x : List Task). first ++ x) (sym (map-range_with_len_more f 0 w w (omega arith)))

pub loop-w-preserved : goal.loop-w-preserved
loop-w-preserved c = more _ _ _ _ _ _ c.loop-w.invariant c.in_ok-push.ensures.items c.in_ok-writer_task.ensures
