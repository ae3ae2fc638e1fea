use Rattle.std.proofs.Common.{◌≡◌, [], ◌∷◌, refl, ap}
use Rattle.tmem_tree.specs.declared.tx.Tx.TheVariants.{Put, Read, Write}
use Rattle.tmem_builtins.proofs.Endings.{add_to_ends}
use Rattle.tmem_builtins.proofs.Sequences.{begins, put_passed}
use Rattle.tmem_builtins.proofs.Quiet.{AreQuiet, call_quiet, write_quiet, both_reads, both_number}
use Rattle.tmem_builtins.proofs.Sizes.{none_sized, with_one, read_one, put_one, write_one, add_one, seq_sized}
use Rattle.tmem_builtins.proofs.transactions.add_to.Goals as goal

pub returns : goal.returns
returns c =
    let var = c.args.var in
    let amount = c.args.amount in
    let sum = c.in_ok-sum in
    let txs = c.in_ok-vec.field-0 in
    let items : txs.items ≡ Read var 14 ∷ Put 15 amount ∷ sum.sum ∷ Write var 14 ∷ [] =
    begins c.in_ok-vec.ensures.items c.load.ensures (put_passed c.ranges.amount c.number.ensures) (ap (λ tx. sum.sum ∷ tx ∷ []) c.store.ensures) in
    let quiet : AreQuiet (sum.sum ∷ Write var 14 ∷ []) = (call_quiet sum.ensures, (write_quiet var 14, tt)) in
    record {
      runs = add_to_ends txs sum.ensures items;
      reads = both_reads txs quiet items;
      number = both_number txs quiet items;
      limits = seq_sized txs items (with_one (read_one var) (with_one (put_one var amount) (with_one (add_one var sum.ensures) (with_one (write_one var 14 refl) (none_sized var)))));
    }
