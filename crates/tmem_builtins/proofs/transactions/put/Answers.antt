use Rattle.std.proofs.Common.{◌≡◌, [], ◌∷◌, refl}
use Rattle.tmem_tree.specs.declared.tx.Tx.TheVariants.{Put, Write}
use Rattle.tmem_builtins.proofs.Endings.{put_ends}
use Rattle.tmem_builtins.proofs.Sequences.{begins, put_passed}
use Rattle.tmem_builtins.proofs.Quiet.{AreQuiet, write_quiet, put_reads, put_number}
use Rattle.tmem_builtins.proofs.Sizes.{none_sized, with_one, put_one, write_one, seq_sized}
use Rattle.tmem_builtins.proofs.transactions.put.Goals as goal

pub returns : goal.returns
returns c =
    let var = c.args.var in
    let value = c.args.value in
    let txs = c.in_ok-vec.field-0 in
    let items : txs.items ≡ Put 15 value ∷ Write var 15 ∷ [] = begins c.in_ok-vec.ensures.items (put_passed c.ranges.value c.number.ensures) c.store.ensures refl in
    let quiet : AreQuiet (Write var 15 ∷ []) = (write_quiet var 15, tt) in
    record {
      runs = put_ends txs items;
      reads = put_reads txs quiet items;
      number = put_number txs quiet items;
      limits = seq_sized txs items (with_one (put_one var value) (with_one (write_one var 15 refl) (none_sized var)));
    }
