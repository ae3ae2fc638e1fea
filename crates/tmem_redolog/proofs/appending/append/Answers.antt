use Rattle.std.proofs.Common.{◌≡◌, inr, ℕ, ◌+◌, ◌<◌, ◌≤◌, true, false, List, length, take, Result, Ok, Err, refl, sym, ◌∙◌, arith, length-take}
use Rattle.std.specs.Result.{is_ok, OnOk, OnErr}
use Rattle.std.proofs.lemmas.Bool.{false≢true}
use Rattle.std.proofs.lemmas.Result.{IfErr-weaker}
use Rattle.tmem_disk.proofs.Laws.{SameOutside-wider}
use Rattle.tmem_gate.specs.Changes.{call_outcome}
use Rattle.tmem_gate.proofs.Laws.{not_begun}
use Rattle.tmem_redolog.specs.Appends.{batch_placed, IsAppendFault}
use Rattle.tmem_redolog.proofs.Appended.{append_put, still_closed}
use Rattle.tmem_redolog.proofs.appending.append.Goals as goal

-- what stands under a call that is known to answer `Ok`, or an error
on_ok : {T E : Type 0} (r : Result T E) (P : Type 0) → P → OnOk r P
on_ok (Ok x) P p = p
on_ok (Err f) P p = tt

on_err : {T E : Type 0} (r : Result T E) (P : Type 0) → P → OnErr r P
on_err (Ok x) P p = tt
on_err (Err f) P p = p

not_ok : {T E : Type 0} (r : Result T E) (P : Type 0) → is_ok r ≡ false → OnOk r P
not_ok (Ok x) P is = absurd (false≢true (sym is))
not_ok (Err f) P is = tt

not_err : {T E : Type 0} (r : Result T E) (P : Type 0) → is_ok r ≡ true → OnErr r P
not_err (Ok x) P is = tt
not_err (Err f) P is = absurd (false≢true is)

-- the batch fits behind the gate
fits : (n : ℕ) (buffer : List ℕ) → n ≤ 4095 → length (take n buffer) ≤ 4095
fits n buffer few = omega (arith, length-take n buffer)

pub returns-then-log-layout-clause-puts : goal.returns-then-log-layout-clause-puts
returns-then-log-layout-clause-puts g c = not_begun _ _ _ _ _ (g.met.D.Disk.is_device c.args.disk.now)

pub returns-then-is_ok-clause-puts : goal.returns-then-is_ok-clause-puts
returns-then-is_ok-clause-puts g c =
    let room : c.args.log.now.used < c.args.layout.slots = omega (arith, c.requires.used, c.if-log-layout.false) in
    append_put (batch_placed c.args.layout c.args.log.now c.args.first c.args.batch.now) room c.requires.batch c.slot.result _ _ _ (call_outcome c.put_cell-put.result) c.slot.ensures c.encode_batch-len.ensures.bytes c.put_cell-put.ensures.puts

pub returns-then-is_ok-clause-behind : goal.returns-then-is_ok-clause-behind
returns-then-is_ok-clause-behind g c = still_closed c.args.layout.vars c.args.log.now.used _ _ c.put_cell-put.ensures.uses.model (returns-then-is_ok-clause-puts g c).elsewhere

pub returns-else-is_ok-clause-puts : goal.returns-else-is_ok-clause-puts
returns-else-is_ok-clause-puts g c =
    let room : c.args.log.now.used < c.args.layout.slots = omega (arith, c.requires.used, c.if-log-layout.false) in
    append_put (batch_placed c.args.layout c.args.log.now c.args.first c.args.batch.now) room c.requires.batch c.slot.result _ _ _ (call_outcome c.put_cell-put.result) c.slot.ensures c.encode_batch-len.ensures.bytes c.put_cell-put.ensures.puts

pub returns-else-is_ok-clause-behind : goal.returns-else-is_ok-clause-behind
returns-else-is_ok-clause-behind g c = still_closed c.args.layout.vars c.args.log.now.used _ _ c.put_cell-put.ensures.uses.model (returns-else-is_ok-clause-puts g c).elsewhere

pub returns-else-is_ok-clause-gate_untouched : goal.returns-else-is_ok-clause-gate_untouched
returns-else-is_ok-clause-gate_untouched g c = λ is k.
    let n = length (take c.encode_batch-len.result c.encode_batch-len.new.into) in
    let short = fits c.encode_batch-len.result c.encode_batch-len.new.into c.encode_batch-len.ensures.room in
    rw c.slot.ensures at (SameOutside-wider (c.slot.result + 1) n (c.slot.result + 1) 4095 (g.D.Disk.view c.args.disk.now).seen (g.D.Disk.view c.put_cell-put.new.disk).seen (omega arith) (omega (arith, short)) (c.put_cell-put.ensures.gate_untouched is k))

pub returns-then-is_ok-clause-errors : goal.returns-then-is_ok-clause-errors
returns-then-is_ok-clause-errors g c = IfErr-weaker c.put_cell-put.result _ IsAppendFault (λ f is. inr is) c.put_cell-put.ensures.errors

pub returns-then-is_ok-clause-durable : goal.returns-then-is_ok-clause-durable
returns-then-is_ok-clause-durable g c = c.put_cell-put.ensures.durable

pub returns-then-is_ok-clause-next : goal.returns-then-is_ok-clause-next
returns-then-is_ok-clause-next g c = on_ok c.put_cell-put.result _ refl

pub returns-then-is_ok-clause-stays : goal.returns-then-is_ok-clause-stays
returns-then-is_ok-clause-stays g c = not_err c.put_cell-put.result _ (sym c.is_ok.ensures.value ∙ c.if-is_ok.true)

pub returns-else-is_ok-clause-errors : goal.returns-else-is_ok-clause-errors
returns-else-is_ok-clause-errors g c = IfErr-weaker c.put_cell-put.result _ IsAppendFault (λ f is. inr is) c.put_cell-put.ensures.errors

pub returns-else-is_ok-clause-durable : goal.returns-else-is_ok-clause-durable
returns-else-is_ok-clause-durable g c = c.put_cell-put.ensures.durable

pub returns-else-is_ok-clause-next : goal.returns-else-is_ok-clause-next
returns-else-is_ok-clause-next g c = not_ok c.put_cell-put.result _ (sym c.is_ok.ensures.value ∙ c.if-is_ok.false)

pub returns-else-is_ok-clause-stays : goal.returns-else-is_ok-clause-stays
returns-else-is_ok-clause-stays g c = on_err c.put_cell-put.result _ refl
