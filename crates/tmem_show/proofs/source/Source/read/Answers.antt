use Rattle.std.specs.IoError.{error_kind}
use Rattle.tmem_show.proofs.Failed.{one_of_two}
use Rattle.tmem_show.proofs.source.Source.read.Goals as goal

pub returns-in-Err : goal.returns-in-Err
returns-in-Err g c = record {
  refused = one_of_two (error_kind c.in-Err.error) c.fault_of.result c.fault_of.ensures.memory c.fault_of.ensures.device;
}
