use Rattle.std.proofs.lemmas.Grind.{common_steps}
use Rattle.std.proofs.Common.{◌≡◌, Some, sym, ◌∙◌, arith}
use Rattle.std.proofs.lemmas.Bool.{false≢true}
use Rattle.serde_json.specs.View.{view}
use Rattle.tmem_shape.proofs.Arrays.{array_found}
use Rattle.tmem_shape.proofs.SumTerms.{no_term_of}
use Rattle.tmem_shape.proofs.terms.term_items.Goals as goal
use Rattle.tmem_shape.proofs.terms.term_items.Goals.{else-len-eq3-via-then-len-eq3+else-says_nonzero, else-len-eq3-via-else-len-eq3}

pub returns-clause-none : goal.returns-clause-none
returns-clause-none c = λ none.
    let items = c.in_ok-items.items in
    let found : c.as_array.result ≡ Some items = grind arith in
    no_term_of (view c.args.value.now) items.now.items (array_found (view c.args.value.now) c.as_array.result items c.as_array.ensures found) (λ two. c.if-len-eq2.false (omega (arith, c.len.ensures, two)))
    (λ three. elim c.else-len-eq3.branch [
      | else-len-eq3-via-then-len-eq3+else-says_nonzero w ↦
          (w.index-then-len-eq3.result.now, w.index-then-len-eq3.ensures, λ said. false≢true (sym w.if-says_nonzero.false ∙ w.says_nonzero.ensures.1 said))
      | else-len-eq3-via-else-len-eq3 w ↦ absurd (w.if-len-eq3.false (omega (arith, c.len-2.ensures, three)))
    ])

pub returns-then-len-eq2-clause-some : goal.returns-then-len-eq2-clause-some
returns-then-len-eq2-clause-some c = grind (arith, common_steps)

pub returns-then-says_nonzero-clause-some : goal.returns-then-says_nonzero-clause-some
returns-then-says_nonzero-clause-some c = grind (arith, common_steps)
