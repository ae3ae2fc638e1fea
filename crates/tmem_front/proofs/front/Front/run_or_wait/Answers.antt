use Rattle.std.proofs.Common.{Err, inl, inr, ap, sym, ◌∙◌, subst, rules, refl}
use Rattle.std.proofs.lemmas.Result.{err_from_is_err_and}
use Rattle.std.proofs.Math.Logic.{∥∥₁_map}
use Rattle.tmem_tentative.specs.declared.attempt.Attempt.{Attempt}
use Rattle.tmem_tentative.specs.Right.{IsRight}
use Rattle.tmem_core.specs.Decisions.{answer_of}
use Rattle.tmem_tree.specs.Plans.{FitsVariables}
use Rattle.tmem_seats.specs.Settling.{SettlesPass}
use Rattle.tmem_front.proofs.There.{where_ok}
use Rattle.tmem_front.proofs.front.Front.run_or_wait.Goals as goal

pub evaluate-requires-clause-variables : goal.evaluate-requires-clause-variables
evaluate-requires-clause-variables g c = subst (λ k. FitsVariables k c.args.plan.now) c.args.self.now.over c.requires.variables

pub returns : goal.returns
returns g c =
    let p = g.N.ProgramNaming.program in
    record {
      settled = inr (∥∥₁_map c.args.self.now.stated (λ s. (
        c.attempt.result.now,
        subst (λ a. IsRight p.steps p.tests c.args.plan.now.tree a) (sym c.attempt.ensures.attempt) (c.in_ok-evaluate.ensures.right p.steps s),
        subst (λ (a : Attempt). SettlesPass g.N.Naming.name.start g.N.StoreNaming.opening p c.attempt.result.now c.args.seat.now (answer_of c.settle_or_wait.result a.registers) c.settle_or_wait.new.seat) c.attempt.ensures.attempt c.settle_or_wait.ensures.settled,
      )));
      ended = where_ok c.settle_or_wait.result c.in_ok-evaluate.ensures.ended;
      no_conflict = search rules;
    }

pub returns-in_err-evaluate : goal.returns-in_err-evaluate
returns-in_err-evaluate g c =
    let handed = err_from_is_err_and c.from_residual.result c.from_residual.ensures.1 in
    rw handed.1 (record { settled = inl (ap Err (handed.2 ∙ c.in_err-evaluate.ensures.memory), refl); ended = tt; no_conflict = search rules })
