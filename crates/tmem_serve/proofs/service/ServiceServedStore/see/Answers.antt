use Rattle.std.proofs.Common.{◌≡◌, ◌∙◌, ℕ, ℤ, List, ap, length, map}
use Rattle.tmem_serve.proofs.Seen.{as_many, some_values}
use Rattle.tmem_serve.proofs.service.ServiceServedStore.see.Goals as goal

pub returns-clause-sees : goal.returns-clause-sees
returns-clause-sees g c =
    let these : map (λ (p : ℕ × ℤ). p.1) c.in_ok-pairs.pairs.items ≡ c.in_ok-count.field-0.values.items = cc (c.in_ok-pairs.ensures.values, c.deref.ensures.value, c.in_ok-count.values-is) in
    record {
      knows = c.moment.ensures.knows;
      counts = c.in_ok-count.ensures.count;
      asked = c.in_ok-pairs.ensures.vars;
      seen = some_values c.in_ok-pairs.pairs.items c.in_ok-count.field-0.values.items _ these c.in_ok-count.ensures.values;
    }

pub paired-requires : goal.paired-requires
paired-requires g c = ap (λ (l : List ℤ). length l) c.deref.ensures.value ∙ as_many c.in_ok-count.field-0.values.items c.args.vars.now _ c.in_ok-count.ensures.values

pub returns-in_err-pairs-clause-knows : goal.returns-in_err-pairs-clause-knows
returns-in_err-pairs-clause-knows g c = c.moment.ensures.knows
