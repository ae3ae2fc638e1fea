use Rattle.std.proofs.Common.{ℕ, List, Option, IfSome, inr, subst}
use Rattle.tmem_parts.specs.Block.{IsNoBlock}
use Rattle.tmem_show.specs.Refusals.{IsPlaced, IsPlacedBefore, TellsOf, TellsOpening}
use Rattle.tmem_show.specs.declared.refusal.Refusal.{Refusal}
use Rattle.tmem_show.proofs.Placed.{ok_so, some_so}
use Rattle.tmem_show.proofs.refusal.refusal_of.Goals as goal

pub returns-in-Err-clause-told : goal.returns-in-Err-clause-told
returns-in-Err-clause-told c =
    let bytes = c.args.source.now.bytes.items in
    let none = subst (λ (b : List ℕ). IsNoBlock b) c.deref.ensures.value c.in-Err.ensures.none in
    ok_so (TellsOpening 1 2 bytes) (TellsOf bytes) c.refusal_before.result (λ told so. inr (none, so)) c.refusal_before.ensures.told

pub returns-in-Err-clause-placed : goal.returns-in-Err-clause-placed
returns-in-Err-clause-placed c =
    let size = c.args.source.now.size in
    let bytes = c.args.source.now.bytes.items in
    let none = subst (λ (b : List ℕ). IsNoBlock b) c.deref.ensures.value c.in-Err.ensures.none in
    let before = λ (r : Refusal). IsPlacedBefore size bytes r.place in
    let placed = λ (r : Refusal). IsPlaced size bytes r.place in
    ok_so (λ (told : Option Refusal). IfSome told before) (λ (told : Option Refusal). IfSome told placed) c.refusal_before.result (λ told so. some_so before placed told (λ r there. inr (none, there)) so) c.refusal_before.ensures.placed
