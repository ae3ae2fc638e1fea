use Rattle.std.proofs.Common.{◌≡◌, ◌∙◌, ℕ, List, Result, IfOk, IfErr, length, refl, rules, sym, subst, arith}
use Rattle.std.specs.Prelude.{◌⊎◌}
use Rattle.tmem_fault.specs.declared.fault.Fault.{Fault}
use Rattle.tmem_fault.specs.declared.fault.Fault.TheVariants.{Memory, Device}
use Rattle.tmem_record.specs.Layout.{end_at}
use Rattle.tmem_record.specs.declared.layout.Layout.{Layout}
use Rattle.tmem_show.specs.Refusals.{IsOpening}
use Rattle.tmem_show.specs.declared.shown.OpeningResult.{OpeningResult}
use Rattle.tmem_show.specs.declared.shown.ShownStore.{ShownStore}
use Rattle.tmem_show.proofs.Placed.{all_placed_behind}
use Rattle.tmem_show.proofs.refusal.refusal_behind.Goals as goal

pub returns-then-len-end-clause-told : goal.returns-then-len-end-clause-told
returns-then-len-end-clause-told c =
    let layout = c.args.block.layout in
    let bytes = c.args.source.now.bytes.items in
    let long : c.len.result ≡ length bytes = search rules in
    let last : c.end.result ≡ end_at layout.vars layout.slots = c.end.ensures in
    c.refusal_in.ensures.told layout.vars layout.slots bytes
    (subst (λ (o : OpeningResult). IsOpening layout.vars layout.slots bytes o) (sym c.too_short.ensures) (record {
      numbers = λ no. refl;
      why = λ fits. absurd (omega (arith, fits.room, c.if-len-end.true, long, last));
    }))

pub returns-then-len-end-clause-placed : goal.returns-then-len-end-clause-placed
returns-then-len-end-clause-placed c =
    let layout = c.args.block.layout in
    all_placed_behind layout.vars layout.slots c.args.source.now.size c.args.source.now.bytes.items c.too_short.result c.refusal_in.result
    (λ short. c.too_short.ensures) c.refusal_in.ensures.placed

pub returns-in_ok-opening-in-Ok-clause-placed : goal.returns-in_ok-opening-in-Ok-clause-placed
returns-in_ok-opening-in-Ok-clause-placed c =
    let layout = c.args.block.layout in
    let bytes = c.args.source.now.bytes.items in
    let long : c.len.result ≡ length bytes = search rules in
    let last : c.end.result ≡ end_at layout.vars layout.slots = c.end.ensures in
    all_placed_behind layout.vars layout.slots c.args.source.now.size bytes c.in_ok-opening-in-Ok.opening c.refusal_in-in-Ok.result
    (λ short. absurd (omega (arith, short, c.if-len-end.false, long, last))) c.refusal_in-in-Ok.ensures.placed

pub returns-in_ok-opening-in-Ok-clause-told : goal.returns-in_ok-opening-in-Ok-clause-told
returns-in_ok-opening-in-Ok-clause-told c =
    let layout = c.args.block.layout in
    let shown = c.in-Ok.shown in
    let found = c.in_ok-opening-in-Ok.opening in
    let same : shown.layout ≡ layout = subst (λ (r : Result ShownStore Fault). IfOk r (λ l. l.layout ≡ layout)) c.in-Ok.is c.new.ensures.layout in
    let read : shown.bytes.now ≡ c.deref.result.now = subst (λ (r : Result ShownStore Fault). IfOk r (λ l. l.bytes.now ≡ c.deref.result.now)) c.in-Ok.is c.new.ensures.bytes in
    let with_layout = subst (λ (l : Layout). IsOpening l.vars l.slots shown.bytes.now found) same c.in_ok-opening-in-Ok.ensures.found in
    let with_bytes = subst (λ (b : List ℕ). IsOpening layout.vars layout.slots b found) (read ∙ c.deref.ensures.value) with_layout in
    c.refusal_in-in-Ok.ensures.told layout.vars layout.slots c.args.source.now.bytes.items with_bytes

pub returns-in-Err-clause-refused : goal.returns-in-Err-clause-refused
returns-in-Err-clause-refused c =
    subst (λ (r : Result ShownStore Fault). IfErr r (λ (f : Fault). (f ≡ Memory) ⊎ (f ≡ Device))) c.in-Err.is c.new.ensures.refused
