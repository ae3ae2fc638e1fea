use Rattle.std.proofs.Common.{rules, ◌≡◌, ◌≤◌, ◌++◌, ℕ, List, replicate, take, ◌∙◌, ap}
use Rattle.std.proofs.lemmas.List.{take-replicate, replicate-append-replicate}
use Rattle.tmem_file.specs.Recorded.{range_bytes}
use Rattle.tmem_file.proofs.recorded.fill.Goals as goal

pub loop-done-preserved : goal.loop-done-preserved
loop-done-preserved c =
    let done = c.loop-done.done in
    let n = c.min-n.result in
    let short : n ≤ 65536 = search rules in
    let more : range_bytes c.in_ok-written.written ≡ range_bytes c.loop-done.written ++ take n (replicate 65536 0) = search rules in
    record {
      within = search rules;
      at = search rules;
      so_far = more ∙ ap (λ (l : List ℕ). l ++ take n (replicate 65536 0)) c.loop-done.invariant.so_far ∙ ap (λ (l : List ℕ). replicate done 0 ++ l) (take-replicate n 65536 0 short) ∙ replicate-append-replicate done n 0;
    }
