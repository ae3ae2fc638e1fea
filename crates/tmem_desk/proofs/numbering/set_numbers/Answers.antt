use Rattle.std.proofs.Common.{◌≡◌, ℤ, pos, List, get_or, set, ◌∙◌, ap, take_all, w64, to_z, of_z, FitsSigned, arith, rules}
use Rattle.std.proofs.lemmas.Int.{to_z-of_z}
use Rattle.std.proofs.lemmas.List.Edits.{sets}
use Rattle.tmem_tree.specs.Numbers.{numbers}
use Rattle.tmem_desk.proofs.Numbers.{tree_more, list_more, sets_first, few_first}
use Rattle.tmem_desk.proofs.numbering.set_numbers.Goals as goal

pub loop-index-preserved : goal.loop-index-preserved
loop-index-preserved c =
    let index = c.loop-index.index in
    let ns = c.args.numbers.now in
    let n = get_or ns index (pos 0) in
    let fits : FitsSigned w64 n = search rules in
    let same = to_z-of_z w64 n fits in
    let so_far = c.loop-index.invariant in
    let done = c.set_number.ensures in
    let numbered : numbers c.set_number.new.self.tree ≡ set (numbers c.loop-index.plan.tree) index (to_z w64 (of_z w64 n)) = done.numbers in
    record {
      tree = tree_more index ns _ (pos 0) _ _ _ (omega arith) same so_far.tree done.tree;
      taken = list_more index ns _ (pos 0) _ _ _ (omega arith) same so_far.taken numbered;
      signatures = done.signatures ∙ so_far.signatures;
      steps = λ arities fits. done.steps arities (so_far.steps arities fits);
      variables = λ vars fits. done.variables vars (so_far.variables vars fits);
      names = λ names fits. done.names names (so_far.names names fits);
    }

pub returns-clause-numbers : goal.returns-clause-numbers
returns-clause-numbers c = λ few.
    let ns = c.args.numbers.now in
    let old = numbers c.args.plan.now.tree in
    let all = take_all c.loop-index.index ns (omega arith) in
    c.loop-index.invariant.taken ∙ ap (λ (l : List ℤ). sets old 0 l) all ∙ sets_first old ns (omega (arith, few, few_first c.args.plan.now.tree))
