use Rattle.std.proofs.Common.{◌≡◌, ℕ, ◌<◌, ◌≤◌, List, length, Result, rules, subst, sym}
use Rattle.std.specs.Prelude.{All, IfOk, IsOk}
use Rattle.std.proofs.lemmas.List.Elements.{All-weaker}
use Rattle.std.proofs.lemmas.Result.{IfOk-weaker}
use Rattle.tmem_fault.specs.declared.fault.Fault.{Fault}
use Rattle.tmem_bench.specs.Counting.{committed_together}
use Rattle.tmem_bench.proofs.Summed.{are_counted, sum_fits}
use Rattle.tmem_bench.proofs.workers.count_all.Goals as goal

pub sum_of-requires : goal.sum_of-requires
sum_of-requires g c =
    let is_answer = g.F.CountingStore.is_answer c.args.store.now c.args.work.turns in
    let each : All (λ (r : Result ℕ Fault). IfOk r (λ n. n ≤ c.args.work.turns)) c.in_ok-answers.answers.items = λ k d less. IfOk-weaker _ _ _ (g.F.CountingStore.most c.args.store.now c.args.work.turns) (c.in_ok-answers.ensures.each k d (search (rules, less))).1.met in
    let many : length c.in_ok-answers.answers.items ≡ c.args.work.workers = search rules in
    let few : c.args.work.workers < 65536 = search rules in
    let short : c.args.work.turns < 65536 = search rules in
    subst (λ (l : List (Result ℕ Fault)). committed_together l < 18446744073709551616) (sym c.as_slice.ensures.value) (sum_fits c.in_ok-answers.answers.items c.args.work.workers c.args.work.turns each many few short)

pub returns : goal.returns
returns g c =
    let answers = c.in_ok-answers.answers.items in
    let is_answer = g.F.CountingStore.is_answer c.args.store.now c.args.work.turns in
    let each : All (λ (r : Result ℕ Fault). IfOk r is_answer) answers = λ k d less. (c.in_ok-answers.ensures.each k d (search (rules, less))).1.met in
    let many : length answers ≡ c.args.work.workers = search rules in
    are_counted is_answer answers c.args.work.workers c.sum_of.result many each
    (subst (λ (l : List (Result ℕ Fault)). IfOk c.sum_of.result (λ n. n ≡ committed_together l)) c.as_slice.ensures.value c.sum_of.ensures.sum)
    (subst (λ (l : List (Result ℕ Fault)). IfOk c.sum_of.result (λ _. All (λ answer. IsOk answer) l)) c.as_slice.ensures.value c.sum_of.ensures.all)
