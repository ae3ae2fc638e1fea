-- What figures are of.
use Rattle.tmem_bench.specs.declared.figures.Work.{Work}
use Rattle.tmem_bench.specs.declared.figures.Work.TheVariants.{OnCore, OnStore, FillLog, Open}
use Rattle.tmem_bench.specs.declared.store.StoreUse.{StoreUse}
use Rattle.tmem_bench.specs.declared.store.StoreUse.TheVariants as task
use Rattle.tmem_bench.specs.declared.store.On.{On}
use Rattle.tmem_bench.specs.declared.store.On.TheVariants.{Core, Store}

-- of what is done with a store
abbrev pub work_in : StoreUse → Work
work_in (task.Serve job) = OnStore job.act
work_in task.FillLog = FillLog
work_in task.Open = Open

-- of what is done on a core, or with the store of a device
abbrev pub work_on : {D : Type 0} → On D → Work
work_on (Core job) = OnCore job.act
work_on (Store disk done) = work_in done
