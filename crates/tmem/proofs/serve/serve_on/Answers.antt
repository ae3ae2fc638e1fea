use Rattle.std.proofs.Common.{◌≡◌, ◌∙◌, ap, inl, refl, rules, subst, sym}
use Rattle.tmem_invariants.specs.TableNames.{AreDistinct}
use Rattle.tmem.specs.Shaped.{names_in}
use Rattle.tmem.proofs.Shaped.{each_means}
use Rattle.tmem.proofs.serve.serve_on.Goals as goal

pub serve_store-requires : goal.serve_store-requires
serve_store-requires g c κs within =
    let all = c.in_ok-table.table.entries.items in
    let same : names_in c.args.shape.invariants.items ≡ names_in all = ap (λ v. names_in v.items) (sym c.in_ok-table.ensures.entries) in
    let distinct : AreDistinct (names_in all) = subst AreDistinct same (c.in_ok-table.ensures.ok.0 (inl refl)).0.1 in
    let vars = c.in_ok-table.ensures.vars in
    let told : c.deref-2.result.now ≡ names_in all = c.deref-2.ensures.value ∙ c.in_ok-names.ensures ∙ same in
    let tests = each_means all distinct in
    (search rules, (search rules, (search rules, (search rules, (search rules, (search rules, (vars, (refl, (told, (tests, c.stored_steps.ensures.stated))))))))))
