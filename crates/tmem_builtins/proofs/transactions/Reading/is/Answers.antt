use Rattle.std.proofs.Common.{◌≡◌, [], ◌∷◌, refl}
use Rattle.tmem_tree.specs.declared.tx.Tx.TheVariants.{Put, Read}
use Rattle.tmem_builtins.proofs.Endings.{is_ends}
use Rattle.tmem_builtins.proofs.Sequences.{begins, put_passed}
use Rattle.tmem_builtins.proofs.Quiet.{AreQuiet, call_quiet, both_reads, both_number}
use Rattle.tmem_builtins.proofs.Sizes.{none_sized, with_one, read_one, put_one, need_one, need_back_one, seq_sized}
use Rattle.tmem_builtins.proofs.transactions.Reading.is.Goals as goal

pub returns : goal.returns
returns c =
    let var = c.args.self.var in
    let value = c.args.value in
    let not_less = c.in_ok-not_less in
    let not_more = c.in_ok-not_more in
    let txs = c.in_ok-vec.field-0 in
    let items : txs.items ≡ Read var 14 ∷ Put 15 value ∷ not_less.not_less ∷ not_more.not_more ∷ [] =
    begins c.in_ok-vec.ensures.items c.load.ensures (put_passed c.ranges.value c.number.ensures) refl in
    let quiet : AreQuiet (not_less.not_less ∷ not_more.not_more ∷ []) = (call_quiet not_less.ensures, (call_quiet not_more.ensures, tt)) in
    record {
      runs = is_ends txs not_less.ensures not_more.ensures items;
      reads = both_reads txs quiet items;
      number = both_number txs quiet items;
      limits = seq_sized txs items (with_one (read_one var) (with_one (put_one var value) (with_one (need_one var not_less.ensures) (with_one (need_back_one var not_more.ensures) (none_sized var)))));
    }
