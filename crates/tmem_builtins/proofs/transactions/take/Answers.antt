use Rattle.std.proofs.Common.{◌≡◌, [], ◌∷◌, refl, ap}
use Rattle.tmem_tree.specs.declared.tx.Tx.TheVariants.{Put, Read, Write}
use Rattle.tmem_builtins.proofs.Endings.{take_ends}
use Rattle.tmem_builtins.proofs.Sequences.{begins, put_passed}
use Rattle.tmem_builtins.proofs.Quiet.{AreQuiet, call_quiet, write_quiet, both_reads, both_number}
use Rattle.tmem_builtins.proofs.Sizes.{none_sized, with_one, read_one, put_one, write_one, need_one, sub_one, seq_sized}
use Rattle.tmem_builtins.proofs.transactions.take.Goals as goal

pub returns : goal.returns
returns c =
    let var = c.args.var in
    let amount = c.args.amount in
    let enough = c.in_ok-enough in
    let rest = c.in_ok-rest in
    let txs = c.in_ok-vec.field-0 in
    let items : txs.items ≡ Read var 14 ∷ Put 15 amount ∷ enough.enough ∷ rest.rest ∷ Write var 14 ∷ [] =
    begins c.in_ok-vec.ensures.items c.load.ensures (put_passed c.ranges.amount c.number.ensures) (ap (λ tx. enough.enough ∷ rest.rest ∷ tx ∷ []) c.store.ensures) in
    let quiet : AreQuiet (enough.enough ∷ rest.rest ∷ Write var 14 ∷ []) = (call_quiet enough.ensures, (call_quiet rest.ensures, (write_quiet var 14, tt))) in
    record {
      runs = take_ends txs enough.ensures rest.ensures items;
      reads = both_reads txs quiet items;
      number = both_number txs quiet items;
      limits = seq_sized txs items (with_one (read_one var) (with_one (put_one var amount) (with_one (need_one var enough.ensures) (with_one (sub_one var rest.ensures) (with_one (write_one var 14 refl) (none_sized var))))));
    }
