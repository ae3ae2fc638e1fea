use Rattle.std.proofs.Common.{ℕ, List, subst}
use Rattle.std.proofs.lemmas.Result.{err_from_is_err_and}
use Rattle.tmem_gate.proofs.Laws.{OnlyReads-trans}
use Rattle.tmem_image.specs.Image.{ChoosesCopy, HasHead}
use Rattle.tmem_image.proofs.Loading.{none_for, none_under}
use Rattle.tmem_image.proofs.choosing.choose.Goals as goal

pub returns-clause-refused : goal.returns-clause-refused
returns-clause-refused g c =
    let vars = c.args.layout.vars in
    let seen = (g.D.Disk.view c.args.disk.now).seen in
    let new = g.D.Disk.view c.head_at-2.new.disk in
    let none = λ (k : new.keeps_model). c.greater.ensures.none vars seen
    (subst (λ (p : ℕ). HasHead p c.in_ok-first.first seen) c.image.ensures (c.in_ok-first.ensures.found (c.in_ok-second.ensures.uses.model k)))
    (subst (λ (p : ℕ). HasHead p c.in_ok-second.second seen) c.image-2.ensures (subst (λ (l : List ℕ). HasHead c.image-2.result c.in_ok-second.second l) (c.in_ok-first.ensures.reads_only.seen (c.in_ok-second.ensures.uses.model k)) (c.in_ok-second.ensures.found k))) in
    none_for _ c.greater.result c.ok_or.result c.ok_or.ensures.value (none_under new.keeps_model ((copy : ℕ) → ChoosesCopy vars copy seen → ⊥) c.greater.result none) (λ none. none)

pub returns-in_err-first-clause-one : goal.returns-in_err-first-clause-one
returns-in_err-first-clause-one g c = rw (err_from_is_err_and c.from_residual.result c.from_residual.ensures.1).1 tt

pub returns-in_err-first-clause-found : goal.returns-in_err-first-clause-found
returns-in_err-first-clause-found g c = rw (err_from_is_err_and c.from_residual.result c.from_residual.ensures.1).1 (λ _. tt)

pub returns-in_err-second-clause-one : goal.returns-in_err-second-clause-one
returns-in_err-second-clause-one g c = rw (err_from_is_err_and c.from_residual-in_err-second.result c.from_residual-in_err-second.ensures.1).1 tt

pub returns-in_err-second-clause-found : goal.returns-in_err-second-clause-found
returns-in_err-second-clause-found g c = rw (err_from_is_err_and c.from_residual-in_err-second.result c.from_residual-in_err-second.ensures.1).1 (λ _. tt)

pub returns-in_err-first-clause-reads_only : goal.returns-in_err-first-clause-reads_only
returns-in_err-first-clause-reads_only g c = c.head_at.ensures.reads_only

pub returns-in_err-second-clause-reads_only : goal.returns-in_err-second-clause-reads_only
returns-in_err-second-clause-reads_only g c = OnlyReads-trans _ _ _ c.head_at-2.ensures.uses.model c.head_at.ensures.reads_only c.head_at-2.ensures.reads_only

pub returns-clause-reads_only : goal.returns-clause-reads_only
returns-clause-reads_only g c = OnlyReads-trans _ _ _ c.head_at-2.ensures.uses.model c.head_at.ensures.reads_only c.head_at-2.ensures.reads_only
