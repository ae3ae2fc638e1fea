use Rattle.std.proofs.Common.{◌-◌, ◌<◌, pos, FitsSigned, w64, get_or, length, sym, ◌∙◌, arith, rules}
use Rattle.std.proofs.lemmas.List.{get_or_default}
use Rattle.tmem_answers.proofs.Registers.{one_less, kept, zero_read, other_read, none_left}
use Rattle.tmem_answers.proofs.line.without_last_zeros.Goals as goal
use Rattle.tmem_answers.proofs.line.without_last_zeros.Goals.{then-zeros-test+else-numbers-len-eq0, else-zeros-test}

pub zeros-preserved : goal.zeros-preserved
zeros-preserved c =
    let numbers = c.args.numbers.now in
    let len = c.zeros.len in
    let n = get_or numbers (len - 1) (pos 0) in
    let within : len - 1 < length numbers = omega arith in
    let fits : FitsSigned w64 n = search rules in
    record {
      within = omega arith;
      same = one_less numbers len n c.zeros-test.true c.zeros.invariant.within (get_or_default numbers (len - 1) (pos 0) _ within) (zero_read n fits c.if-numbers-len-eq0.true) ∙ c.zeros.invariant.same;
    }

pub returns : goal.returns
returns c =
    let numbers = c.args.numbers.now in
    let len = c.zeros.len in
    let n = get_or numbers (len - 1) (pos 0) in
    elim c.zeros-test.branch [
      | then-zeros-test+else-numbers-len-eq0 w ↦
          let within : len - 1 < length numbers = omega arith in
          sym (kept numbers len n w.zeros-test.true c.zeros.invariant.within (get_or_default numbers (len - 1) (pos 0) _ within) (other_read n w.if-numbers-len-eq0.false)) ∙ c.zeros.invariant.same
      | else-zeros-test w ↦ none_left numbers len w.zeros-test.false ∙ c.zeros.invariant.same
    ]
