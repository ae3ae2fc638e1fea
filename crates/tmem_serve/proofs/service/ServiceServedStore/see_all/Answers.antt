use Rattle.std.proofs.lemmas.Grind.{common_steps}
use Rattle.std.proofs.Common.{arith, ◌≡◌, ℕ, ℤ, Bool, List, length, map, sym, ◌∙◌, subst, ap}
use Rattle.std.specs.Prelude.{filter, slice_get}
use Rattle.std.proofs.lemmas.List.{length-map}
use Rattle.tmem_effect.specs.Names.{has_name}
use Rattle.tmem_effect.proofs.Laws.{length-values-fold}
use Rattle.tmem_seats.specs.Histories.{state_after_history}
use Rattle.tmem_spine.specs.History.{unmarked}
use Rattle.tmem_desk.specs.Held.{first_numbers}
use Rattle.tmem_serve.proofs.Seen.{all_values}
use Rattle.tmem_serve.proofs.service.ServiceServedStore.see_all.Goals as goal

pub returns-clause-answers : goal.returns-clause-answers
returns-clause-answers g c =
    let known : List ℤ = (state_after_history g.N.StoreNaming.opening c.moment.new.pass.known).values in
    let has : List ℕ → Bool = λ (name : List ℕ). has_name (state_after_history g.N.StoreNaming.opening c.moment.new.pass.known).names name in
    let vars : c.deref.result.now ≡ first_numbers c.args.self.now.vars = cc (c.deref.ensures.value, c.in_ok-vars.ensures) in
    let long : c.args.self.now.vars ≡ length known =
    c.args.self.now.over ∙ sym (length-values-fold g.N.StoreNaming.opening (unmarked c.moment.new.pass.known)) in
    let told : c.deref-2.result.now ≡ map has c.args.self.now.names.now = cc (c.deref-2.ensures.value, c.in_ok-count.has-is, c.in_ok-count.ensures.has) in
    record {
      knows = c.moment.ensures.knows;
      counts = c.in_ok-count.ensures.count;
      registered = subst (λ (names : List (List ℕ)). c.in_ok-names.names.items ≡ filter has names) c.args.self.now.named (c.in_ok-names.ensures has told);
      seen =
          all_values known c.in_ok-count.field-0.values.items c.args.self.now.vars long
          (c.in_ok-count.ensures.values ∙ ap (map (λ (var : ℕ). slice_get known var)) vars);
    }

pub registered-requires : goal.registered-requires
registered-requires g c = ap (λ (l : List Bool). length l) (c.deref-2.ensures.value ∙ c.in_ok-count.ensures.has) ∙ length-map c.args.self.now.names.now _

pub returns-in_err-vars-clause-knows : goal.returns-in_err-vars-clause-knows
returns-in_err-vars-clause-knows g c = grind (arith, common_steps)
