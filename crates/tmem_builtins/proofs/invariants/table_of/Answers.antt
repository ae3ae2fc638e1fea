use Rattle.std.proofs.Common.{ℕ, ℤ, Bool, List, [], ◌∷◌, map, codes, refl, sym, ap, ◌∙◌, arith}
use Rattle.std.proofs.lemmas.Result.{IfOk-weaker}
use Rattle.tmem_fault.specs.declared.fault.Fault.TheVariants.{Memory}
use Rattle.tmem_invariants.specs.Answers.{IsMeant}
use Rattle.tmem_builtins.specs.Builtins.{builtin_tests}
use Rattle.tmem_builtins.specs.Invariants.{is_not_negative, add_to_hundred, are_ordered, is_footprint_within}
use Rattle.tmem_builtins.proofs.Meant.{nonneg_meant, sum_meant, ordered_meant, some_meant}
use Rattle.tmem_builtins.proofs.Tables.{one_error, one_variable, two_variables, filtered_images, same_triple}
use Rattle.tmem_builtins.proofs.invariants.table_of.Goals as goal

pub entry-requires : goal.entry-requires
entry-requires g c = (omega arith, (one_variable _, (c.requires.nonneg_callable, ∣ (is_not_negative, c.requires.nonneg_stated) ∣₁)))

pub entry-requires-2 : goal.entry-requires-2
entry-requires-2 g c = (omega arith, (two_variables _ _ (λ same. cc), (c.requires.sum_callable, ∣ (add_to_hundred, c.requires.sum_stated) ∣₁)))

pub entry-requires-3 : goal.entry-requires-3
entry-requires-3 g c = (omega arith, (two_variables _ _ (λ same. cc), (c.requires.ordered_callable, ∣ (are_ordered, c.requires.ordered_stated) ∣₁)))

pub those_below-requires : goal.those_below-requires
those_below-requires g c = record {
  floor_name = c.in_ok-floor.ensures.name ∙ c.nonneg_name.ensures;
  pair_name = c.in_ok-pair.ensures.name ∙ c.sum_name.ensures;
  order_name = c.in_ok-order.ensures.name ∙ c.ordered_name.ensures;
  floor_over = c.in_ok-floor.ensures.footprint;
  pair_over = c.in_ok-pair.ensures.footprint;
  order_over = c.in_ok-order.ensures.footprint;
}

pub returns-clause-vars : goal.returns-clause-vars
returns-clause-vars g c = c.of.ensures.vars

pub returns-clause-entries : goal.returns-clause-entries
returns-clause-entries g c =
    IfOk-weaker c.of.result _ _
    (λ table is. ap (map (λ entry. (entry.name, entry.footprint.items, entry.test))) (ap (λ v. v.items) is ∙ c.in_ok-those_below.ensures.entries)
    ∙ filtered_images (λ entry. (entry.name, entry.footprint.items, entry.test)) (λ entry. is_footprint_within c.args.vars entry.footprint.items) c.in_ok-floor.floor c.in_ok-pair.pair c.in_ok-order.order (is_footprint_within c.args.vars (0 ∷ [])) (is_footprint_within c.args.vars (0 ∷ 1 ∷ [])) (is_footprint_within c.args.vars (2 ∷ 3 ∷ [])) (codes "nonneg", 0 ∷ [], c.args.nonneg) (codes "sum", 0 ∷ 1 ∷ [], c.args.sum) (codes "ordered", 2 ∷ 3 ∷ [], c.args.ordered) (ap (is_footprint_within c.args.vars) c.in_ok-floor.ensures.footprint) (ap (is_footprint_within c.args.vars) c.in_ok-pair.ensures.footprint) (ap (is_footprint_within c.args.vars) c.in_ok-order.ensures.footprint)
    (same_triple (c.in_ok-floor.ensures.name ∙ c.nonneg_name.ensures) c.in_ok-floor.ensures.footprint c.in_ok-floor.ensures.test) (same_triple (c.in_ok-pair.ensures.name ∙ c.sum_name.ensures) c.in_ok-pair.ensures.footprint c.in_ok-pair.ensures.test) (same_triple (c.in_ok-order.ensures.name ∙ c.ordered_name.ensures) c.in_ok-order.ensures.footprint c.in_ok-order.ensures.test))
    c.of.ensures.entries

pub returns-clause-names : goal.returns-clause-names
returns-clause-names g c =
    IfOk-weaker c.of.result _ _
    (λ table is. ap (map (λ entry. entry.name)) (ap (λ v. v.items) is ∙ c.in_ok-those_below.ensures.entries)
    ∙ filtered_images (λ entry. entry.name) (λ entry. is_footprint_within c.args.vars entry.footprint.items) c.in_ok-floor.floor c.in_ok-pair.pair c.in_ok-order.order (is_footprint_within c.args.vars (0 ∷ [])) (is_footprint_within c.args.vars (0 ∷ 1 ∷ [])) (is_footprint_within c.args.vars (2 ∷ 3 ∷ [])) (codes "nonneg") (codes "sum") (codes "ordered") (ap (is_footprint_within c.args.vars) c.in_ok-floor.ensures.footprint) (ap (is_footprint_within c.args.vars) c.in_ok-pair.ensures.footprint) (ap (is_footprint_within c.args.vars) c.in_ok-order.ensures.footprint) (c.in_ok-floor.ensures.name ∙ c.nonneg_name.ensures) (c.in_ok-pair.ensures.name ∙ c.sum_name.ensures) (c.in_ok-order.ensures.name ∙ c.ordered_name.ensures)
    ∙ sym (filtered_images {E = List ℕ × List ℕ × (List ℤ → Bool)} (λ entry. entry.0) (λ entry. is_footprint_within c.args.vars entry.1) (codes "nonneg", 0 ∷ [], is_not_negative) (codes "sum", 0 ∷ 1 ∷ [], add_to_hundred) (codes "ordered", 2 ∷ 3 ∷ [], are_ordered) (is_footprint_within c.args.vars (0 ∷ [])) (is_footprint_within c.args.vars (0 ∷ 1 ∷ [])) (is_footprint_within c.args.vars (2 ∷ 3 ∷ [])) (codes "nonneg") (codes "sum") (codes "ordered") refl refl refl refl refl refl))
    c.of.ensures.entries

pub returns-clause-stated : goal.returns-clause-stated
returns-clause-stated g c =
    IfOk-weaker c.of.result _ _
    (λ table is. some_meant (λ e. IsMeant builtin_tests e.name e.footprint.items (λ values answer. (goal.Fn-dyn g).post (e.test.vtable, e.test.value) (values, tt) answer)) (λ entry. is_footprint_within c.args.vars entry.footprint.items) table.entries.items c.in_ok-floor.floor c.in_ok-pair.pair c.in_ok-order.order (ap (λ v. v.items) is ∙ c.in_ok-those_below.ensures.entries)
    (nonneg_meant _ _ _ (c.in_ok-floor.ensures.name ∙ c.nonneg_name.ensures) c.in_ok-floor.ensures.footprint (rw (← c.in_ok-floor.ensures.test) at c.requires.nonneg_stated))
    (sum_meant _ _ _ (c.in_ok-pair.ensures.name ∙ c.sum_name.ensures) c.in_ok-pair.ensures.footprint (rw (← c.in_ok-pair.ensures.test) at c.requires.sum_stated))
    (ordered_meant _ _ _ (c.in_ok-order.ensures.name ∙ c.ordered_name.ensures) c.in_ok-order.ensures.footprint (rw (← c.in_ok-order.ensures.test) at c.requires.ordered_stated)))
    c.of.ensures.entries

pub returns-clause-refused : goal.returns-clause-refused
returns-clause-refused g c = one_error c.of.result Memory (c.of.ensures.ok.1 c.in_ok-those_below.ensures.fit)
